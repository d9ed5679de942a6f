-- At most one extended codeword is within one place of an extended word, and where there is none. Assumes nothing.
use mathlib.Core.Path.{◌≡◌, refl, sym, ap, ap₂, subst, ◌∙◌}
use mathlib.Core.Logic.{◌≢◌}
use mathlib.Core.Bool.{Bool, true, false, not, ◌&&◌, true≢false, false≢true}
use mathlib.Core.List.{List, ◌++◌}
use Prim.Native.Nat.{ℕ, zero, suc, ◌-◌, ◌%◌, ◌<◌, ◌≤◌}
use native.Mathlib.Omega.{arith}
use native.Mathlib.Decide.{dec_lt}
use lib.ListN.{length, take, drop}
use Rattle.group_theory.specs.Group.{Modulus}
use Rattle.group_theory.proofs.Signs.{all_zero-zeros, zeros-all_zero}
use Rattle.words_theory.specs.Words.{Word, weight, is_odd, distance, flip}
use Rattle.words_theory.specs.Syndrome.{syndrome, length_of}
use Rattle.words_theory.proofs.Reading.{valid-syndrome}
use Rattle.words_theory.proofs.Distances.{neighbour}
use Rattle.shortened_theory.specs.Code.{fill, LeftOut, ShortenedCodeword, is_shortened_codeword, corrected_old_place, shortened_corrected, shortened_corrected_place}
use Rattle.shortened_theory.specs.Claims.{NearestTo}
use Rattle.shortened_theory.proofs.Filling.{word-fill}
use Rattle.shortened_theory.proofs.Nearest as plain
use Rattle.extended_theory.specs.Code.{last_place, front_of, ExtendedCodeword, extended_corrected, extended_corrected_place, is_even_fault}
use Rattle.extended_theory.specs.Claims.{ExtendedNearestTo}
use Rattle.extended_theory.proofs.Parity.{odd-one, one-odd, even-zero, zero-even, word-flip, weight-flip, distance-parity, Amid, amid}
use Rattle.extended_theory.proofs.Extending.{front-word, front-flip, front-last, flip-front}

-- ---- the codeword test of a word
module _ (ms : List Modulus) (s : ℕ) (few : s ≤ length_of ms) (v : List ℕ) where
  pub tested : Word (length_of ms - s) v → is_shortened_codeword ms s v ≡ true → ShortenedCodeword ms s v
  tested h e =
      record {
        is_word = word-fill (length_of ms) s few h;
        is_zero = all_zero-zeros ms (syndrome ms (fill s v)) (valid-syndrome ms (fill s v)) e;
      }

  pub passes : ShortenedCodeword ms s v → is_shortened_codeword ms s v ≡ true
  passes c = ap Rattle.group_theory.specs.Sign.all_zero c.is_zero ∙ zeros-all_zero ms

-- ---- one extended word
module _ (ms : List Modulus) (s : ℕ) (few : s ≤ length_of ms) (w : List ℕ) (h : Word (last_place ms s) w) where
  abbrev k : ℕ
  k = length_of ms - s

  abbrev v : List ℕ
  v = front_of ms s w

  front : Word k v
  front = front-word k w h

  -- the theorem on the first n − s places
  near : NearestTo ms s v
  near = plain.nearest ms s few v front

  abbrev Left : Type 0
  Left = LeftOut s (corrected_old_place ms s v)

  -- a codeword is corrected at place 0, so in none that is left out
  clean : ShortenedCodeword ms s v → (Left → ⊥) × (0 ≡ shortened_corrected_place ms s v)
  clean c = near.place 0 (omega arith) c

  -- ---- what the rule says in each of its cases
  even-rule : is_odd w ≡ false → (extended_corrected ms s w ≡ w) × (extended_corrected_place ms s w ≡ 0)
  unfolding extended_corrected extended_corrected_place
  even-rule o = (rw o, rw o)

  last-rule : is_odd w ≡ true → is_shortened_codeword ms s v ≡ true → (extended_corrected ms s w ≡ flip (last_place ms s) w) × (extended_corrected_place ms s w ≡ last_place ms s)
  unfolding extended_corrected extended_corrected_place
  last-rule o c = (rw (o, c), rw (o, c))

  front-rule : is_odd w ≡ true → is_shortened_codeword ms s v ≡ false
      → (extended_corrected ms s w ≡ shortened_corrected ms s v ++ drop k w) × (extended_corrected_place ms s w ≡ shortened_corrected_place ms s v)
  unfolding extended_corrected extended_corrected_place
  front-rule o c = (rw (o, c), rw (o, c))

  -- ---- flipped at a place, w is an extended codeword: then the rule gives this place
  abbrev Told : ℕ → Type 0
  Told p = (is_even_fault ms s w ≡ false) × (Left → ⊥) × (p ≡ extended_corrected_place ms s w)

  at_none : ExtendedCodeword ms s w → Told 0
  at_none c =
      let o = zero-even w c.even in
      let y = passes ms s few v c.front in
      (rw (o, y), (clean c.front).0, sym (even-rule o).1)

  flipped-odd : (p : ℕ) → 0 < p → p ≤ last_place ms s → weight (flip p w) % 2 ≡ 0 → is_odd w ≡ true
  flipped-odd p a b e = let f = weight-flip (last_place ms s) p h a b in one-odd w (omega arith)

  at_last : ExtendedCodeword ms s (flip (last_place ms s) w) → Told (last_place ms s)
  at_last c =
      let d : ShortenedCodeword ms s v = subst (ShortenedCodeword ms s) (front-last k w h) c.front in
      let o = flipped-odd (last_place ms s) (omega arith) (omega arith) c.even in
      (rw o, (clean d).0, sym (last-rule o (passes ms s few v d)).1)

  at_front : (p : ℕ) → 0 < p → p ≤ k → ExtendedCodeword ms s (flip p w) → Told p
  at_front p a b c =
      let d : ShortenedCodeword ms s (flip p v) = subst (ShortenedCodeword ms s) (front-flip k w h p b) c.front in
      let o = flipped-odd p a (omega arith) c.even in
      let n = near.place p b d in
      (rw o, n.0, n.1 ∙ sym (front-rule o (other n.1 (is_shortened_codeword ms s v) refl)).1)
    where
      -- the front is no codeword, for that would be corrected at place 0
      other : p ≡ shortened_corrected_place ms s v → (t : Bool) → is_shortened_codeword ms s v ≡ t → is_shortened_codeword ms s v ≡ false
      other e true y = let z : p ≡ 0 = e ∙ sym (clean (tested ms s few v front y)).1 in absurd (omega arith)
      other e false y = y

  at : (p : ℕ) → p ≤ last_place ms s → ExtendedCodeword ms s (flip p w) → Told p
  at zero l c = at_none c
  at (suc i) l c = go (dec_lt i k) c
    where
      go : Dec (i < k) → ExtendedCodeword ms s (flip (suc i) w) → Told (suc i)
      go (yes y) c = at_front (suc i) (omega arith) (omega arith) c
      go (no n) c =
          let e : suc i ≡ last_place ms s = omega arith in
          subst Told (sym e) (at_last (subst (λ (q : ℕ). ExtendedCodeword ms s (flip q w)) e c))

  -- ---- the rule's place, where none is left out, is where the word changes
  flipped : (Left → ⊥) → extended_corrected ms s w ≡ flip (extended_corrected_place ms s w) w
  flipped n = go (is_odd w) refl (is_shortened_codeword ms s v) refl
    where
      go : (o : Bool) → is_odd w ≡ o → (t : Bool) → is_shortened_codeword ms s v ≡ t → extended_corrected ms s w ≡ flip (extended_corrected_place ms s w) w
      go false o t y = let e = even-rule o in e.0 ∙ ap (λ (p : ℕ). flip p w) (sym e.1)
      go true o true y = let e = last-rule o y in e.0 ∙ ap (λ (p : ℕ). flip p w) (sym e.1)
      go true o false y =
          let e = front-rule o y in
          e.0 ∙ ap (λ (c : List ℕ). c ++ drop k w) (near.flipped n) ∙ flip-front k w h (shortened_corrected_place ms s v) near.within ∙ ap (λ (p : ℕ). flip p w) (sym e.1)

  within : extended_corrected_place ms s w ≤ last_place ms s
  within = go (is_odd w) refl (is_shortened_codeword ms s v) refl
    where
      go : (o : Bool) → is_odd w ≡ o → (t : Bool) → is_shortened_codeword ms s v ≡ t → extended_corrected_place ms s w ≤ last_place ms s
      go false o t y = rw (even-rule o).1 (omega arith)
      go true o true y = rw (last-rule o y).1 (omega arith)
      go true o false y = let l = near.within in rw (front-rule o y).1 (omega arith)

  -- ---- and then there is an extended codeword
  made : (p : ℕ) → 0 < p → p ≤ last_place ms s → is_odd w ≡ true → ShortenedCodeword ms s (take k (flip p w)) → ExtendedCodeword ms s (flip p w)
  made p a b o c =
      record {
        is_word = word-flip (last_place ms s) p h;
        front = c;
        even = let f = weight-flip (last_place ms s) p h a b in let x = odd-one w o in omega arith;
      }

  codeword : is_even_fault ms s w ≡ false → (Left → ⊥) → ExtendedCodeword ms s (extended_corrected ms s w)
  codeword n l = go (is_odd w) refl (is_shortened_codeword ms s v) refl
    where
      go : (o : Bool) → is_odd w ≡ o → (t : Bool) → is_shortened_codeword ms s v ≡ t → ExtendedCodeword ms s (extended_corrected ms s w)
      go false o true y = rw (even-rule o).0 (record { is_word = h; front = tested ms s few v front y; even = even-zero w o })
      go false o false y = absurd (true≢false (sym (ap₂ (λ (a b : Bool). not a && not b) o y) ∙ n))
      go true o true y =
          rw (last-rule o y).0
          (made (last_place ms s) (omega arith) (omega arith) o (subst (ShortenedCodeword ms s) (sym (front-last k w h)) (tested ms s few v front y)))
      go true o false y =
          let q = shortened_corrected_place ms s v in
          let b = near.within in
          let c : ShortenedCodeword ms s (flip q v) = subst (ShortenedCodeword ms s) (near.flipped l) (near.codeword l) in
          rw (flipped l, (front-rule o y).1) (made q (some q refl c y) (omega arith) o (subst (ShortenedCodeword ms s) (sym (front-flip k w h q b)) c))
        where
          -- place 0 would leave the front as it is, which is no codeword
          some : (q : ℕ) → q ≡ shortened_corrected_place ms s v → ShortenedCodeword ms s (flip q v) → is_shortened_codeword ms s v ≡ false → 0 < q
          some zero e c y = absurd (true≢false (sym (passes ms s few v c) ∙ y))
          some (suc i) e c y = omega arith

  -- ---- words within one place are those with one place flipped
  module _ (c : List ℕ) (x : ExtendedCodeword ms s c) (d : distance c w ≤ 1) where
    told : (p : ℕ) × (c ≡ flip p w) × Told p
    told =
        let n = neighbour c w (x.is_word.places ∙ sym h.places) x.is_word.bits h.bits d in
        let l = h.places in
        (n.0, n.2, at n.0 (omega (arith, n.1)) (subst (ExtendedCodeword ms s) n.2 x))

    is-corrected : c ≡ extended_corrected ms s w
    is-corrected = let n = told in n.1 ∙ ap (λ (p : ℕ). flip p w) n.2.2 ∙ sym (flipped n.2.1)

  pub nearest : ExtendedNearestTo ms s w
  nearest =
      record {
        only = is-corrected;
        even = λ e c x d. false≢true (sym (told c x d).2.0 ∙ e);
        left = λ e c x d. (told c x d).2.1 e;
        codeword = codeword;
        within = within;
        flipped = flipped;
        place = at;
      }

-- ---- two extended codewords that differ in fewer than four places are one: both numbers of ones are even, so they differ in at most two, and
-- both are within one place of a word between them
pub apart : (ms : List Modulus) (s : ℕ) → s ≤ length_of ms → (c d : List ℕ) → ExtendedCodeword ms s c → ExtendedCodeword ms s d → c ≢ d → 4 ≤ distance c d
apart ms s few c d x y n = go (dec_lt (distance c d) 4)
  where
    same_length : length c ≡ length d
    same_length = x.is_word.places ∙ sym y.is_word.places

    meet : Amid c d → c ≡ d
    meet m =
        let u = nearest ms s few m.word (subst (λ (k : ℕ). Word k m.word) x.is_word.places m.is_word) in
        u.only c x m.first ∙ sym (u.only d y m.second)

    go : Dec (distance c d < 4) → 4 ≤ distance c d
    go (no q) = omega arith
    go (yes q) =
        let p = distance-parity c d same_length x.is_word.bits y.is_word.bits in
        let a = x.even in
        let b = y.even in
        absurd (n (meet (amid c d same_length x.is_word.bits y.is_word.bits (omega arith))))
