-- What the functions of coding answer, from what a pass tells: the pass over a word, and the encoding of a message. Assumes nothing.
use mathlib.Core.Path.{◌≡◌, sym, ap, ap₂, subst, ◌∙◌}
use mathlib.Core.Logic.{◌≢◌}
use mathlib.Core.Bool.{true, false}
use mathlib.Core.List.{List, ◌++◌, append_assoc}
use Prim.Native.Nat.{ℕ, ◌+◌, ◌-◌, ◌*◌, ◌^◌, ◌<◌, ◌≤◌}
use native.Mathlib.Omega.{arith}
use borrow.Author.Tests.{eq-eqb, ne_eqb}
use lib.Dec.{eqb}
use lib.ListN.{length, take, drop, length-drop, length-replicate}
use lib.Seq.{take_all, drop_at}
use Rattle.group_theory.specs.Group.{Modulus, moduli, sum, negative}
use Rattle.layout_theory.specs.Parameters.{places_of, message_of, moduli_for}
use Rattle.layout_theory.specs.Layout.{units, message}
use Rattle.layout_theory.specs.Calls.{shape_for}
use Rattle.layout_theory.specs.declared.Shape.{Shape}
use Rattle.layout_theory.proofs.Parameters.{Known, known-for, moduli-known, sizes-known}
use Rattle.words_theory.specs.Words.{zero_word}
use Rattle.words_theory.specs.Syndrome.{syndrome_over}
use Rattle.words_theory.specs.Coding.{check_digits, encode}
use Rattle.words_theory.specs.Calls.{bad_from, written}
use Rattle.words_theory.proofs.Bad.{bad-most}
use Rattle.shortened_theory.specs.Code.{fill, shortened_syndrome, shortened_encode}
use Rattle.shortened_theory.specs.Calls.{Fits}
use Rattle.shortened_theory.proofs.Filling.{length-fill}
use Rattle.loops_theory.specs.Spread.{message_in, HoldsFilled}
use Rattle.loops_theory.specs.Passing.{BitsIn, BadIn}
use Rattle.loops_theory.proofs.Answers.{places-room, holds-message, syndrome-sum}
use Rattle.loops_theory.proofs.Rows.{drop-fill}
use Rattle.loops_theory.proofs.Passing.{bits-join, bits-unfilled, bits-zero, bad-within, length-rest, says-part}

-- a place of a word is a number of 32 bits
pub bad-small : (t r d n : ℕ) (w : List ℕ) → Fits t r d n (length w) → n ≤ places_of t → (x : ℕ) → x ≡ bad_from 1 w → x < 2 ^ 32
bad-small t r d n w f h x g =
    let a = f.all in
    let q = places-room t r f.admitted in
    omega (arith, bad-most 0 w)

module _ (t r d n : ℕ) (s : Shape) (e : s ≡ shape_for t r) (w : List ℕ) (f : Fits t r d n (length w)) where
  pub shaped : Known t r s
  shaped = known-for t r s e f.admitted

  -- what the loops over a word ask
  pub holds-filled : message_of t ≤ n → HoldsFilled s.a s.b (s.places + 1) (s.binary - s.a) d w
  holds-filled h =
      let k = shaped in
      let a = f.all in
      let l = length-fill d w in
      let q = places-room t r f.admitted in
      let st = f.allowed.stays in
      record {
        message = holds-message t r s (length (fill d w)) k (omega (arith, k.message));
        ends = rw (k.binary, k.a) f.allowed.ends;
        few = omega arith;
      }

-- ---- a word
module _ (t r d : ℕ) (s : Shape) (e : s ≡ shape_for t r) (w : List ℕ) (f : Fits t r d (places_of t) (length w)) where
  abbrev ms : List Modulus
  ms = moduli s.a s.b

  k : Known t r s
  k = shaped t r d (places_of t) s e w f

  -- where the check part begins and ends
  pub check-fits : (d ≤ s.message) × (s.message - d + (s.a + 2 * s.b) ≡ length w)
  check-fits =
      let z = sizes-known t r s k in
      let a = f.all in
      let st = f.allowed.stays in
      (omega (arith, k.message), omega (arith, k.message, k.places, z.check))

  parts-sum : (x y z : List ℕ) → x ≡ syndrome_over ms (message ms) (fill d w) → y ≡ syndrome_over ms (units ms) (drop (s.message - d) w) → z ≡ sum ms x y
      → z ≡ shortened_syndrome (moduli_for t r) d w
  unfolding shortened_syndrome
  parts-sum x y z a b c =
      let o : d - s.message ≡ 0 = let h = check-fits.0 in omega arith in
      let q : drop s.message (fill d w) ≡ drop (s.message - d) w = drop-fill d s.message w ∙ ap (λ (i : ℕ). zero_word i ++ drop (s.message - d) w) o in
      c ∙ ap₂ (sum ms) a (b ∙ ap (syndrome_over ms (units ms)) (sym q)) ∙ syndrome-sum t r (fill d w) s k

  parts-bits : BitsIn w (s.message - d) (s.message - d + (s.a + 2 * s.b)) → BitsIn (fill d w) 0 (message_in s.a s.b) → BitsIn w 0 (length w)
  parts-bits h g =
      let z = (sizes-known t r s k).front in
      let c = check-fits.1 in
      let u : BitsIn w 0 (s.message - d) = λ i a b. bits-unfilled d w 0 (message_in s.a s.b) g i (omega arith) (omega arith) in
      bits-join w 0 (s.message - d) (length w) u (λ i a b. h i a (omega arith))

  -- the check part by itself
  abbrev check : List ℕ
  check = take (length w - (s.message - d)) (drop (s.message - d) w)

  pub check-length : length check ≡ s.a + 2 * s.b
  check-length = let c = check-fits in let c1 = c.1 in length-rest w (s.message - d) ∙ omega arith

  pub check-bad : BadIn check 0 (length check) → BadIn w 0 (length w)
  check-bad b = let l = length-rest w (s.message - d) in bad-within w (says-part w (s.message - d) (length w - (s.message - d)) (length check) (omega arith) false b)

  pub parts-good : (x y z : List ℕ) → BitsIn check 0 (length check) → y ≡ syndrome_over ms (units ms) check → BitsIn (fill d w) 0 (message_in s.a s.b)
      → x ≡ syndrome_over ms (message ms) (fill d w) → z ≡ sum ms x y → BitsIn w 0 (length w) × (z ≡ shortened_syndrome (moduli_for t r) d w)
  parts-good x y z h b g a c =
      let l = length-rest w (s.message - d) in
      let e = length-drop (s.message - d) w in
      let n = check-length in
      let u : BitsIn w (s.message - d) (s.message - d + (s.a + 2 * s.b)) =
      subst (λ (i : ℕ). BitsIn w (s.message - d) (s.message - d + i)) n (says-part w (s.message - d) (length w - (s.message - d)) (length check) (omega arith) true h) in
      (parts-bits u g, parts-sum x y z a (b ∙ ap (syndrome_over ms (units ms)) (take_all (length w - (s.message - d)) (drop (s.message - d) w) (omega arith))) c)

-- ---- a message
module _ (t r d : ℕ) (s : Shape) (e : s ≡ shape_for t r) (m : List ℕ) (f : Fits t r d (message_of t) (length m)) where
  known : Known t r s
  known = shaped t r d (message_of t) s e m f

  pub message-bits : BitsIn (fill d m) 0 (message_in s.a s.b) → bad_from 1 m ≡ 0
  message-bits g =
      let z = (sizes-known t r s known).front in
      let a = f.all in
      let q = known.message in
      bits-zero m (λ i a b. bits-unfilled d m 0 (message_in s.a s.b) g i (omega arith) (omega arith))

  -- the check digits follow the message
  encoded-filled : (old x y new : List ℕ) → x ≡ syndrome_over (moduli s.a s.b) (message (moduli s.a s.b)) (fill d m) → y ≡ negative (moduli s.a s.b) x
      → new ≡ m ++ (check_digits (moduli s.a s.b) y ++ drop (length m + (s.a + 2 * s.b)) old)
      → new ≡ shortened_encode (moduli_for t r) d m ++ drop (places_of t - d) old
  unfolding shortened_encode encode
  encoded-filled old x y new a b g =
      let ms = moduli s.a s.b in
      let z = sizes-known t r s known in
      let l = f.all in
      let st = f.allowed.stays in
      let n : length m + (s.a + 2 * s.b) ≡ places_of t - d = omega (arith, known.message, known.places, z.check) in
      let q : y ≡ negative (moduli_for t r) (syndrome_over (moduli_for t r) (message (moduli_for t r)) (fill d m)) =
      b ∙ ap (negative ms) a ∙ ap (λ (k : List Modulus). negative k (syndrome_over k (message k) (fill d m))) (moduli-known t r s known) in
      g ∙ ap (λ (i : ℕ). m ++ (check_digits ms y ++ drop i old)) n
      ∙ sym (append_assoc m (check_digits ms y) (drop (places_of t - d) old))
      ∙ ap (λ (i : List ℕ). i ++ drop (places_of t - d) old)
      (ap₂ (λ (k : List Modulus) (i : List ℕ). m ++ check_digits k i) (moduli-known t r s known) q
      ∙ sym (ap (drop d) (append_assoc (zero_word d) m (check_digits (moduli_for t r) (negative (moduli_for t r) (syndrome_over (moduli_for t r) (message (moduli_for t r)) (fill d m)))))
      ∙ drop_at (zero_word d) (m ++ check_digits (moduli_for t r) (negative (moduli_for t r) (syndrome_over (moduli_for t r) (message (moduli_for t r)) (fill d m)))) d (length-replicate d 0)))

  -- the same as it is written, and nothing where a byte is above 1
  pub encoded-good : (old x y new : List ℕ) → bad_from 1 m ≡ 0 → x ≡ syndrome_over (moduli s.a s.b) (message (moduli s.a s.b)) (fill d m) → y ≡ negative (moduli s.a s.b) x
      → new ≡ m ++ (check_digits (moduli s.a s.b) y ++ drop (length m + (s.a + 2 * s.b)) old)
      → new ≡ written (eqb (bad_from 1 m) 0) (places_of t - d) (shortened_encode (moduli_for t r) d m) old
  encoded-good old x y new h a b g = rw (eq-eqb (bad_from 1 m) 0 h) (encoded-filled old x y new a b g)

  pub encoded-bad : (old : List ℕ) → bad_from 1 m ≢ 0 → old ≡ written (eqb (bad_from 1 m) 0) (places_of t - d) (shortened_encode (moduli_for t r) d m) old
  encoded-bad old h = rw (ne_eqb (bad_from 1 m) 0 h)
