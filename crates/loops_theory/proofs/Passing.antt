-- For the loops that test the bytes of a word on their way over it. Assumes nothing.
use mathlib.Core.Path.{◌≡◌, refl, sym, ap, subst, ◌∙◌}
use mathlib.Core.Logic.{◌≢◌, ◌⊎◌, inl, inr, ⊎_elim}
use mathlib.Core.Bool.{Bool, true, false, not}
use mathlib.Core.List.{List, [], ◌∷◌}
use Prim.Native.Nat.{ℕ, zero, suc, ◌+◌, ◌-◌, ◌%◌, max, ◌<◌, ◌≤◌}
use native.Mathlib.Decide.{dec_lt}
use native.Mathlib.Omega.{arith}
use borrow.Author.Tests.{le-leb, lt-leb, le-ltb, lt-ltb}
use lib.Dec.{leb}
use Rattle.std.specs.Prelude.{Option, MatchOption}
use Rattle.std.specs.Bool.{then_some}
use lib.ListN.{length, take, drop, get_or, length-map, length-drop, get_or-eq_default}
use lib.Seq.{length-take-le, get_or-take, get_or-drop}
use Rattle.group_theory.specs.Group.{Modulus, moduli, hd, tl, element}
use Rattle.blocks_theory.specs.Blocks.{select, skips, others, even, level, plus_to}
use Rattle.blocks_theory.proofs.Blocks.{select_yes, select_no}
use Rattle.blocks_theory.proofs.Members.{singles-members, even-all}
use Rattle.words_theory.specs.Words.{Bits}
use Rattle.words_theory.specs.Calls.{bad_from}
use Rattle.words_theory.proofs.Bad.{bad-step, bad-found, bad-end, bits_none, none-bits}
use Rattle.shortened_theory.specs.Code.{fill}
use Rattle.loops_theory.specs.Passing.{BitsIn, BadIn, Says, Tells, Highest, head_of}
use Rattle.shortened_theory.specs.Allowed.{EndsWhole}
use Rattle.loops_theory.specs.Spread.{message_in, spread, HoldsMessage}
use Rattle.loops_theory.proofs.Cuts.{get_or-left, get_or-fill, get_d_kept}
use Rattle.loops_theory.proofs.Spreads.{free, spread-yes, spread-no}
use Rattle.loops_theory.proofs.Laying.{hd-get_or, get_or-tl, Pairing, shares}

-- ---- the highest byte
larger-of : (a b : ℕ) → (max a b ≡ a) ⊎ (max a b ≡ b)
larger-of a b = go (dec_lt a b)
  where
    go : Dec (a < b) → (max a b ≡ a) ⊎ (max a b ≡ b)
    go (yes h) = inr (omega arith)
    go (no h) = inl (omega arith)

module _ (w : List ℕ) where
  pub wider : {s e s' e' : ℕ} → s' ≤ s → e ≤ e' → BadIn w s e → BadIn w s' e'
  wider h l b =
      let f = b.from in
      let t = b.to in
      record { index = b.index; from = omega arith; to = omega arith; above = b.above }

  pub highest-none : (start : ℕ) → Highest w start start 0
  highest-none start = record { most = λ i h l. absurd (omega arith); some = λ h. absurd (omega arith) }

  -- of one byte
  pub highest-one : (i : ℕ) → Highest w i (i + 1) (get_or w i 0)
  highest-one i =
      record {
        most = λ j h l. same j (omega arith);
        some = λ h. record { index = i; from = omega arith; to = omega arith; above = h };
      }
    where
      same : (j : ℕ) → j ≡ i → get_or w j 0 ≤ get_or w i 0
      same j e = rw e (omega arith)

  -- of two stretches that meet or overlap
  pub highest-join : (s l m e x y z : ℕ) → Highest w s m x → Highest w l e y → s ≤ l → l ≤ m → m ≤ e → z ≡ max x y → Highest w s e z
  highest-join s l m e x y z f g a b c d =
      record {
        most = λ i h j. below i h j (dec_lt i m);
        some = λ h. ⊎_elim (λ q. wider (omega arith) c (f.some (omega arith))) (λ q. wider a (omega arith) (g.some (omega arith))) (larger-of x y);
      }
    where
      below : (i : ℕ) → s ≤ i → i < e → Dec (i < m) → get_or w i 0 ≤ z
      below i h j (yes o) = let u = f.most i h o in omega arith
      below i h j (no o) = let u = g.most i (omega arith) j in omega arith

  pub highest-step : (s e x z : ℕ) → s ≤ e → Highest w s e x → z ≡ max x (get_or w e 0) → Highest w s (e + 1) z
  highest-step s e x z h f d = highest-join s e e (e + 1) x (get_or w e 0) z f (highest-one e) h (omega arith) (omega arith) d

  -- it tells whether all are 0 or 1
  pub highest-says : (s e x : ℕ) → Highest w s e x → Says (leb x 1) w s e
  highest-says s e x f = go (dec_lt 1 x)
    where
      go : Dec (1 < x) → Says (leb x 1) w s e
      go (yes h) = rw (lt-leb x 1 h) (f.some h)
      go (no h) = rw (le-leb x 1 (omega arith)) (λ i a b. let u = f.most i a b in omega arith)

  -- ---- stretches one after the other
  pub bits-join : (s m e : ℕ) → BitsIn w s m → BitsIn w m e → BitsIn w s e
  bits-join s m e f g i h l = go (dec_lt i m)
    where
      go : Dec (i < m) → get_or w i 0 ≤ 1
      go (yes o) = f i h o
      go (no o) = g i (omega arith) l

  -- ---- and the lowest place of a byte above 1
  pub bad-skip : (i n : ℕ) → i + n ≤ length w → BitsIn w i (i + n) → bad_from (i + 1) (drop i w) ≡ bad_from (i + n + 1) (drop (i + n) w)
  bad-skip i zero h f = let e : i + 0 ≡ i = omega arith in rw e refl
  bad-skip i (suc n) h f =
      let e : i + suc n ≡ i + n + 1 = omega arith in
      rw e (bad-skip i n (omega arith) (λ j a b. f j a (omega arith)) ∙ bad-step w (i + n) (omega arith) (f (i + n) (omega arith) (omega arith)))

-- none is bad up to `begin`
pub bad-begin : (w : List ℕ) (begin : ℕ) → begin ≤ length w → BitsIn w 0 begin → bad_from (begin + 1) (drop begin w) ≡ bad_from 1 w
bad-begin w begin h f =
    let a : 0 + begin ≡ begin = omega arith in
    let z : bad_from 1 w ≡ bad_from (0 + begin + 1) (drop (0 + begin) w) = bad-skip w 0 begin (omega arith) (subst (BitsIn w 0) (sym a) f) in
    subst (λ (i : ℕ). bad_from (i + 1) (drop i w) ≡ bad_from 1 w) a (sym z)

bits_at : (w : List ℕ) → Bits w → (i : ℕ) → get_or w i 0 ≤ 1
bits_at [] h i = omega arith
bits_at (b ∷ w) h zero = h.0
bits_at (b ∷ w) h (suc i) = bits_at w h.1 i

at_bits : (w : List ℕ) → BitsIn w 0 (length w) → Bits w
at_bits [] h = tt
at_bits (b ∷ w) h = (h 0 (omega arith) (omega arith), at_bits w (λ i a l. h (suc i) (omega arith) (omega arith)))

pub bits-zero : (w : List ℕ) → BitsIn w 0 (length w) → bad_from 1 w ≡ 0
bits-zero w h = bits_none 1 w (at_bits w h)

pub bad-place : (w : List ℕ) {s e : ℕ} → BadIn w s e → bad_from 1 w ≢ 0
bad-place w b z = let u = bits_at w (none-bits 0 w z) b.index in let a = b.above in absurd (omega arith)

-- a byte above 1 is one of the list
pub bad-within : (w : List ℕ) {s e : ℕ} → BadIn w s e → BadIn w 0 (length w)
bad-within w b = record { index = b.index; from = omega arith; to = within w b.index b.above; above = b.above }
  where
    within : (w : List ℕ) (i : ℕ) → 1 < get_or w i 0 → i < length w
    within [] i h = absurd (omega arith)
    within (b ∷ w) zero h = omega arith
    within (b ∷ w) (suc i) h = let u = within w i h in omega arith

-- ---- a filled word
module _ (d : ℕ) (w : List ℕ) where
  pub bits-filled : (s e : ℕ) → BitsIn w (s - d) (e - d) → BitsIn (fill d w) s e
  bits-filled s e f i h l = go (dec_lt i d)
    where
      go : Dec (i < d) → get_or (fill d w) i 0 ≤ 1
      go (yes o) = rw (get_or-left d w i o) (omega arith)
      go (no o) = rw (get_d_kept d w i (omega arith)) (f (i - d) (omega arith) (omega arith))

  bad-filled : (s e : ℕ) → BadIn w (s - d) (e - d) → BadIn (fill d w) s e
  bad-filled s e b =
      let f = b.from in
      let t = b.to in
      record { index = d + b.index; from = omega arith; to = omega arith; above = rw (get_or-fill d w b.index) b.above }

  pub says-filled : (x : Bool) (s e : ℕ) → Says x w (s - d) (e - d) → Says x (fill d w) s e
  says-filled true s e f = bits-filled s e f
  says-filled false s e f = bad-filled s e f

  pub bits-unfilled : (s e : ℕ) → BitsIn (fill d w) s e → BitsIn w (s - d) (e - d)
  bits-unfilled s e f i h l = rw (← get_or-fill d w i) (f (d + i) (omega arith) (omega arith))

  pub bad-unfilled : {s e : ℕ} → BadIn (fill d w) s e → BadIn w 0 (length w)
  bad-unfilled b = go (dec_lt b.index d)
    where
      go : Dec (b.index < d) → BadIn w 0 (length w)
      go (yes o) = let z = get_or-left d w b.index o in let a = b.above in absurd (omega arith)
      go (no o) = bad-within w {s = 0} {e = suc b.index} (record { index = b.index - d; from = omega arith; to = omega arith; above = rw (← get_d_kept d w b.index (omega arith)) b.above })

-- ---- singles among the weights
-- no byte stands behind its weight, so where the first k bytes are known only the weights from k on are asked for
spread-bits : (ms : List Modulus) (xs w : List ℕ) (k : ℕ) → BitsIn w 0 k → ((i : ℕ) → k ≤ i → get_or (spread false ms xs w) i 0 ≤ 1) → BitsIn w 0 (free ms xs)
unfolding select
spread-bits ms [] w k s f = λ i h l. absurd (omega arith)
spread-bits ms (x ∷ xs) w k s f = go (skips ms x) refl (λ z k. spread-bits ms xs z k)
  where
    next : (v : List ℕ) → BitsIn (tl v) 0 (free ms xs) → hd v ≤ 1 → BitsIn v 0 (suc (free ms xs))
    next v g h zero a l = rw (← hd-get_or v) h
    next v g h (suc i) a l = rw (← get_or-tl v i) (g i (omega arith) (omega arith))

    -- the first byte, which is known or asked for
    first : (k : ℕ) → BitsIn w 0 k → (k ≤ 0 → hd w ≤ 1) → hd w ≤ 1
    first zero s g = g (omega arith)
    first (suc k) s g = rw (hd-get_or w) (s 0 (omega arith) (omega arith))

    go : (b : Bool) → skips ms x ≡ b → ((z : List ℕ) (k : ℕ) → BitsIn z 0 k → ((i : ℕ) → k ≤ i → get_or (spread false ms xs z) i 0 ≤ 1) → BitsIn z 0 (free ms xs)) → BitsIn w 0 (free ms (x ∷ xs))
    go true e g =
        let u = spread-yes false ms x xs w e in
        let n : free ms (x ∷ xs) ≡ free ms xs = ap length (select_no (others ms) x xs (ap not e)) in
        rw n (g w (k - 1) (λ i a l. s i a (omega arith)) (λ i a. subst (λ (v : List ℕ). get_or v (suc i) 0 ≤ 1) u (f (suc i) (omega arith))))
    go false e g =
        let u = spread-no false ms x xs w e in
        let n : free ms (x ∷ xs) ≡ suc (free ms xs) = ap length (select_yes (others ms) x xs (ap not e)) in
        rw n
        (next w
        (g (tl w) (k - 1) (λ i a l. rw (get_or-tl w i) (s (suc i) (omega arith) (omega arith))) (λ i a. subst (λ (v : List ℕ). get_or v (suc i) 0 ≤ 1) u (f (suc i) (omega arith))))
        (first k s (λ h. subst (λ (v : List ℕ). get_or v 0 0 ≤ 1) u (f 0 h))))

spread-bad : (ms : List Modulus) (xs w : List ℕ) (i : ℕ) → 1 < get_or (spread false ms xs w) i 0 → (j : ℕ) × (1 < get_or w j 0)
unfolding spread
spread-bad ms [] w i h = absurd (omega arith)
spread-bad ms (x ∷ xs) w i h = go (skips ms x) refl (λ z k. spread-bad ms xs z k)
  where
    here : (v r : List ℕ) (k : ℕ) → 1 < get_or (hd v ∷ r) k 0 → ((k : ℕ) → 1 < get_or r k 0 → (j : ℕ) × (1 < get_or (tl v) j 0)) → (j : ℕ) × (1 < get_or v j 0)
    here v r zero h g = (0, rw (← hd-get_or v) h)
    here v r (suc k) h g = let u = g k h in (suc u.0, rw (← get_or-tl v u.0) u.1)

    there : (v r : List ℕ) (k : ℕ) → 1 < get_or (0 ∷ r) k 0 → ((k : ℕ) → 1 < get_or r k 0 → (j : ℕ) × (1 < get_or v j 0)) → (j : ℕ) × (1 < get_or v j 0)
    there v r zero h g = absurd (omega arith)
    there v r (suc k) h g = g k h

    go : (b : Bool) → skips ms x ≡ b → ((z : List ℕ) (k : ℕ) → 1 < get_or (spread false ms xs z) k 0 → (j : ℕ) × (1 < get_or z j 0)) → (j : ℕ) × (1 < get_or w j 0)
    go true e g = there w (spread false ms xs w) i (subst (λ (v : List ℕ). 1 < get_or v i 0) (spread-yes false ms x xs w e) h) (g w)
    go false e g = here w (spread false ms xs (tl w)) i (subst (λ (v : List ℕ). 1 < get_or v i 0) (spread-no false ms x xs w e) h) (g (tl w))

-- ---- a part of a word by itself
module _ (w : List ℕ) (s n : ℕ) where
  pub part-at : (i : ℕ) → i < n → get_or (take n (drop s w)) i 0 ≡ get_or w (s + i) 0
  part-at i h = get_or-take n (drop s w) i 0 h ∙ get_or-drop s w i 0

  bits-part : (k : ℕ) → k ≤ n → BitsIn (take n (drop s w)) 0 k → BitsIn w s (s + k)
  bits-part k h f i a b =
      let e : s + (i - s) ≡ i = omega arith in
      let u : get_or w (s + (i - s)) 0 ≤ 1 = rw (← part-at (i - s) (omega arith)) (f (i - s) (omega arith) (omega arith)) in
      subst (λ (j : ℕ). get_or w j 0 ≤ 1) e u

  bad-part : (k : ℕ) → k ≤ n → BadIn (take n (drop s w)) 0 k → BadIn w s (s + k)
  bad-part k h b =
      let t = b.to in
      record { index = s + b.index; from = omega arith; to = omega arith; above = rw (← part-at b.index (omega arith)) b.above }

  pub says-part : (k : ℕ) → k ≤ n → (x : Bool) → Says x (take n (drop s w)) 0 k → Says x w s (s + k)
  says-part k h true f = bits-part k h f
  says-part k h false f = bad-part k h f

  pub highest-part : (k x : ℕ) → k ≤ n → Highest (take n (drop s w)) 0 k x → Highest w s (s + k) x
  highest-part k x h f =
      record {
        most = λ i a b. let e : s + (i - s) ≡ i = omega arith in let u : get_or w (s + (i - s)) 0 ≤ x = rw (← part-at (i - s) (omega arith)) (f.most (i - s) (omega arith) (omega arith)) in subst (λ (j : ℕ). get_or w j 0 ≤ x) e u;
        some = λ g. bad-part k h (f.some g);
      }

-- ---- what the two parts of a message come to
module _ (a b count part : ℕ) (w : List ℕ) (L : HoldsMessage a b count part (length w)) where
  -- the places of the pairs begin behind whole pairs, and end with the message
  pub pairs-whole : (d : ℕ) → EndsWhole part d → (v₀ v : List ℕ) (p e at j : ℕ) → Pairing a b part w v₀ v p e at j → (d - at) % 2 ≡ 0
  pairs-whole d (inl h) v₀ v p e at j f = let z = f.place in let k = f.rises in omega arith
  pairs-whole d (inr h) v₀ v p e at j f = let z = f.place in let k = f.rises in let i = h.0 in let q = h.1 in omega arith

  pub pairs_end : (v₀ v : List ℕ) (p e at j : ℕ) → Pairing a b part w v₀ v p e at j → b ≤ j → at ≡ message_in a b
  pairs_end v₀ v p e at j f h =
      let i = f.within in
      let z : j ≡ b = omega arith in
      let s = (shares a b count part w L).2 in
      let g = f.plusses ∙ ap (plus_to a b) z in
      let q = f.place in
      let r = L.front in
      omega arith

  -- a test of the weights of the singles, from k on where the first k bytes were tested before
  pub singles-told : (v : List ℕ) → v ≡ spread false (moduli a b) (even (level a b b)) w → (k : ℕ) → BitsIn w 0 k → (t : Bool) → Says t (take (length v - k) (drop k v)) 0 (length (take (length v - k) (drop k v)))
      → Tells t w 0 part
  singles-told v e k s t f = go t (says-part v k (length v - k) (length (take (length v - k) (drop k v))) (let m = n in omega arith) t f)
    where
      ms : List Modulus
      ms = moduli a b

      n : length (take (length v - k) (drop k v)) ≡ length v - k
      n = length-take-le (length v - k) (drop k v) (let d = length-drop k v in omega arith)

      one : (i : ℕ) → BitsIn v k (k + length (take (length v - k) (drop k v))) → k ≤ i → Dec (i < length v) → get_or v i 0 ≤ 1
      one i g h (yes l) = let m = n in g i h (omega arith)
      one i g h (no l) = rw (get_or-eq_default v 0 {n = i} (omega arith)) (omega arith)

      all : free ms (even (level a b b)) ≡ part
      all = ap (free ms) (even-all a b) ∙ sym (length-map (select (others ms) (even ms)) (element ms)) ∙ ap length (singles-members ms) ∙ sym L.front

      go : (t : Bool) → Says t v k (k + length (take (length v - k) (drop k v))) → Tells t w 0 part
      go true g = subst (BitsIn w 0) all (spread-bits ms (even (level a b b)) w k s (λ i h. subst (λ (u : List ℕ). get_or u i 0 ≤ 1) e (one i g h (dec_lt i (length v)))))
      go false q =
          let j = spread-bad ms (even (level a b b)) w q.index (subst (λ (u : List ℕ). 1 < get_or u q.index 0) e q.above) in
          bad-within w {s = 0} {e = suc j.0} (record { index = j.0; from = omega arith; to = omega arith; above = j.1 })

-- of two bytes
pub highest-two : (w : List ℕ) (i x : ℕ) → x ≡ max (get_or w i 0) (get_or w (i + 1) 0) → Highest w i (i + 2) x
highest-two w i x e =
    let a : i + 1 + 1 ≡ i + 2 = omega arith in
    subst (λ (k : ℕ). Highest w i k x) a (highest-step w i (i + 1) (get_or w i 0) x (omega arith) (highest-one w i) e)

-- the bytes from the index i on: n of them are 0 or 1; the first above 1 stands n bytes behind it; or there is none
module _ (w : List ℕ) (i : ℕ) where
  pub block-skip : (m n : ℕ) → m ≡ n → i + n ≤ length w → BitsIn (take m (drop i w)) 0 (length (take m (drop i w))) → bad_from (i + 1) (drop i w) ≡ bad_from (i + n + 1) (drop (i + n) w)
  block-skip m n e h f =
      let l = length-take-le m (drop i w) (let d = length-drop i w in omega arith) in
      bad-skip w i n h (bits-part w i m n (omega arith) (λ j a b. f j a (omega arith)))

  abbrev rest : List ℕ
  rest = take (length w - i) (drop i w)

  pub length-rest : length rest ≡ length w - i
  length-rest = let d = length-drop i w in length-take-le (length w - i) (drop i w) (omega arith)

  pub bad-at : (n : ℕ) → n < length rest → 1 < get_or rest n 0 → BitsIn rest 0 n → i + n + 1 ≡ bad_from (i + 1) (drop i w)
  bad-at n h g f =
      let l = length-rest in
      let a : 1 < get_or w (i + n) 0 = rw (← part-at w i (length w - i) n (omega arith)) g in
      sym (bad-skip w i n (omega arith) (bits-part w i (length w - i) n (omega arith) f) ∙ bad-found w (i + n) (omega arith) a)

  pub bad-not : i ≤ length w → BitsIn rest 0 (length rest) → 0 ≡ bad_from (i + 1) (drop i w)
  bad-not h f =
      let l = length-rest in
      sym (bad-skip w i (length rest) (omega arith) (bits-part w i (length w - i) (length rest) (omega arith) f) ∙ bad-end w (i + length rest) (omega arith))

-- ---- the front of a word
pub head-short : (n : ℕ) → n < 192 → head_of n ≡ n
head-short n h = rw (lt-ltb n 192 h)

pub head-middle : (n : ℕ) → 192 ≤ n → n < 1024 → head_of n ≡ 192
head-middle n h k = rw (le-ltb n 192 h, lt-ltb n 1024 k)

pub head-long : (n : ℕ) → 192 ≤ n → 1024 ≤ n → head_of n ≡ 512
head-long n h k = rw (le-ltb n 192 h, le-ltb n 1024 k)

-- a test of as many bytes
pub front-says : (w : List ℕ) (n : ℕ) → n ≤ length w → head_of (length w) ≡ n → (r : Option ℕ) (x : Bool) → r ≡ then_some {T = ℕ} x n → Says x w 0 n
    → MatchOption r (BadIn w 0 (length w)) (λ k. (k ≡ head_of (length w)) × (k ≤ length w) × BitsIn w 0 k)
front-says w n h z r true e f = rw e (sym z, h, f)
front-says w n h z r false e f = rw e (bad-within w f)

-- of the bytes alone
pub front-told : (w : List ℕ) (n : ℕ) → n ≤ length w → head_of (length w) ≡ n → (r : Option ℕ) (x : Bool) → r ≡ then_some {T = ℕ} x n
    → Says x (take n w) 0 (length (take n w)) → MatchOption r (BadIn w 0 (length w)) (λ k. (k ≡ head_of (length w)) × (k ≤ length w) × BitsIn w 0 k)
front-told w n h z r x e f =
    front-says w n h z r x e (subst (Says x w 0) (omega arith) (says-part w 0 n n (omega arith) x (subst (Says x (take n w) 0) (length-take-le n w h) f)))

-- a test of the last bytes of a word
pub says-tells : (w : List ℕ) (s e : ℕ) (x : Bool) → Says x w s e → Tells x w s e
says-tells w s e true f = f
says-tells w s e false f = bad-within w f

-- two bytes more
pub highest-steps : (w : List ℕ) (s e x y z : ℕ) → s ≤ e → Highest w s e x → y ≡ max x (get_or w e 0) → z ≡ max y (get_or w (e + 1) 0) → Highest w s (e + 2) z
highest-steps w s e x y z h f g l =
    let a : e + 1 + 1 ≡ e + 2 = omega arith in
    subst (λ (k : ℕ). Highest w s k z) a (highest-step w s (e + 1) y z (omega arith) (highest-step w s e x y h f g) l)

-- the highest byte of a word tells whether all of them are 0 or 1
pub highest-good : (w : List ℕ) (e x : ℕ) → e ≡ length w → Highest w 0 e x → x ≤ 1 → BitsIn w 0 (length w)
highest-good w e x q f h i a l = let u = f.most i a (omega arith) in omega arith

pub highest-bad : (w : List ℕ) (e x : ℕ) → Highest w 0 e x → 1 < x → BadIn w 0 (length w)
highest-bad w e x f h = bad-within w (f.some h)

-- ---- a pass over a message, singles and then pairs, and over a word, the message and then the check part
pub tells-pairs : (w : List ℕ) (part end : ℕ) (t : Bool) → BitsIn w 0 part → Tells t w part end → Tells t w 0 end
tells-pairs w part end true f g = bits-join w 0 part end f g
tells-pairs w part end false f g = g
