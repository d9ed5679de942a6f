-- What the functions that know s answer, by their tests, and what is done with the shape of a code without its first s places. Assumes nothing.
use mathlib.Core.Path.{◌≡◌, refl, sym, ap, ◌∙◌}
use mathlib.Core.Logic.{◌≢◌}
use mathlib.Core.Bool.{Bool, true, false, ◌&&◌}
use mathlib.Core.List.{List, ◌++◌}
use Prim.Native.Nat.{ℕ, zero, suc, ◌-◌, ◌≤◌}
use native.Mathlib.Omega.{arith}
use borrow.Author.Tests.{leb-true}
use lib.Dec.{eqb, leb}
use Rattle.std.specs.Prelude.{Result, Ok, Err}
use lib.ListN.{length, drop}
use Rattle.group_theory.specs.Group.{Modulus, moduli, zeros}
use Rattle.group_theory.specs.Sign.{all_zero}
use Rattle.group_theory.proofs.Signs.{both}
use Rattle.layout_theory.specs.Choice.{pick}
use Rattle.layout_theory.specs.Parameters.{places_of, message_of, binary_of, quaternary_of, moduli_for}
use Rattle.layout_theory.specs.Calls.{shape_for}
use Rattle.layout_theory.specs.declared.Shape.{Shape}
use Rattle.layout_theory.proofs.Parameters.{Known, known-for, moduli-known, zeros-for}
use Rattle.words_theory.specs.Calls as calls
use Rattle.words_theory.specs.Calls.{bad_from, if_bits}
use Rattle.shortened_theory.specs.Code.{fill, shortened_syndrome, shortened_encode, shortened_combine, shortened_inverse}
use Rattle.shortened_theory.specs.Calls.{allowed_for, fits_word, fits_message, scanned_for, fault_at_for, encode_bad_for}
use Rattle.shortened_theory.specs.Calls.{shortened_syndrome_for, shortened_encode_for, shortened_combine_for, shortened_invert_for}
use Rattle.shortened_theory.proofs.Guards.{allowed-both, word_fits}
use Rattle.loops_theory.specs.Writing.{Cut}
use Rattle.loops_theory.proofs.Faults.{fault-zero}

-- ---- tests
pub word-allowed : (t r s k : ℕ) → fits_word t r s k ≡ true → allowed_for t r s ≡ true
unfolding fits_word
word-allowed t r s k e = (both (allowed_for t r s) (eqb k (places_of t - s)) e).0

pub message-allowed : (t r s k : ℕ) → fits_message t r s k ≡ true → allowed_for t r s ≡ true
unfolding fits_message
message-allowed t r s k e = (both (allowed_for t r s) (eqb k (message_of t - s)) e).0

-- what `has_room` says and, with an s that is allowed, denies
module _ (t r s k : ℕ) (b : Bool) (e : b ≡ (allowed_for t r s && leb (places_of t - s) k)) where
  pub room-there : b ≡ true → leb (places_of t - s) k ≡ true
  room-there y = (both (allowed_for t r s) (leb (places_of t - s) k) (sym e ∙ y)).1

  pub no_room : allowed_for t r s ≡ true → b ≡ false → leb (places_of t - s) k ≡ false
  no_room a y = sym (ap (λ (x : Bool). x && leb (places_of t - s) k) a) ∙ sym e ∙ y

-- ---- the place at fault in a word of syndrome e
pub fault-at : (t r s : ℕ) (e w : List ℕ) → fits_word t r s (length w) ≡ true → calls.fault_at (moduli_for t r) e (fill s w) ≡ fault_at_for t r s e w
unfolding fault_at_for
fault-at t r s e w y = rw y

pub fault-at-none : (t r s : ℕ) (e w : List ℕ) → fits_word t r s (length w) ≡ false → 0 ≡ fault_at_for t r s e w
unfolding fault_at_for
fault-at-none t r s e w y = rw y

pub fault-at-zero : (t r s : ℕ) (e w : List ℕ) → all_zero e ≡ true → 0 ≡ fault_at_for t r s e w
unfolding fault_at_for
fault-at-zero t r s e w h = go (fits_word t r s (length w))
  where
    go : (b : Bool) → 0 ≡ pick b (calls.fault_at (moduli_for t r) e (fill s w)) 0
    go true = fault-zero (moduli_for t r) e (fill s w) h
    go false = refl

-- ---- the lowest place of a byte above 1 as an answer
pub told-none : {A : Type 0} (x : A) (p : ℕ) → p ≡ 0 → Ok x ≡ if_bits p x
told-none x p e = rw e refl

pub told-bad : {A : Type 0} (b : ℕ) (x : A) (p : ℕ) → b ≡ p → p ≢ 0 → Err b ≡ if_bits p x
told-bad b x zero e n = absurd (n refl)
told-bad b x (suc p) e n = ap Err e

-- ---- the pass over a word
module _ (t r s : ℕ) (w : List ℕ) where
  syndrome-none : fits_word t r s (length w) ≡ false → zeros (moduli 0 0) ≡ shortened_syndrome_for t r s w
  unfolding shortened_syndrome_for
  syndrome-none y = rw y (zeros-for 0 0 (binary_of t r) (quaternary_of t r))

  syndrome-fits : fits_word t r s (length w) ≡ true → shortened_syndrome (moduli_for t r) s w ≡ shortened_syndrome_for t r s w
  unfolding shortened_syndrome_for
  syndrome-fits y = rw y

  pub scan-none : fits_word t r s (length w) ≡ false → Ok (zeros (moduli 0 0)) ≡ scanned_for t r s w
  unfolding scanned_for
  scan-none y = ap Ok (syndrome-none y) ∙ ap (λ (b : Bool). if_bits (pick b (bad_from 1 w) 0) (shortened_syndrome_for t r s w)) (sym y)

  module _ (y : fits_word t r s (length w) ≡ true) where
    pub scan-bad : (b : ℕ) → b ≡ bad_from 1 w → bad_from 1 w ≢ 0 → Err b ≡ scanned_for t r s w
    unfolding scanned_for
    scan-bad b e n = rw y (told-bad b (shortened_syndrome_for t r s w) (bad_from 1 w) e n)

    pub scan_good : (x : List ℕ) → bad_from 1 w ≡ 0 → x ≡ shortened_syndrome (moduli_for t r) s w → Ok x ≡ scanned_for t r s w
    unfolding scanned_for
    scan_good x z e = rw (y, z) (ap Ok (e ∙ syndrome-fits y))

-- ---- outputs
-- nothing is written where a test of what is read says no, or there is no room
module _ (fits : Bool) (n : ℕ) (new old : List ℕ) where
  unfit : fits ≡ false → old ≡ calls.written (fits && leb n (length old)) n new old
  unfit y = rw y

  narrow : fits ≡ true → leb n (length old) ≡ false → old ≡ calls.written (fits && leb n (length old)) n new old
  narrow y e = rw (y, e)

  wide : fits ≡ true → leb n (length old) ≡ true → new ++ drop n old ≡ calls.written (fits && leb n (length old)) n new old
  wide y e = rw (y, e)

-- what encoding answers and leaves in the output
pub record Encoded (t r s : ℕ) (m old : List ℕ) (x : Result Unit ℕ) (new : List ℕ) : Type 0 where
  pub bad : x ≡ if_bits (encode_bad_for t r s m old) tt
  pub bytes : new ≡ shortened_encode_for t r s m old

-- a message: nothing is done where it is not of its length or there is no room, nor where a byte is above 1, whose place is told
module _ (t r s : ℕ) (m old : List ℕ) where
  pub encode-none : fits_message t r s (length m) ≡ false → Encoded t r s m old (Ok tt) old
  unfolding encode_bad_for shortened_encode_for
  encode-none y = record { bad = rw y; bytes = rw y }

  pub encode-narrow : fits_message t r s (length m) ≡ true → leb (places_of t - s) (length old) ≡ false → Encoded t r s m old (Ok tt) old
  unfolding encode_bad_for shortened_encode_for
  encode-narrow y e = record { bad = rw (y, e); bytes = rw (y, e) }

  module _ (y : fits_message t r s (length m) ≡ true) (e : leb (places_of t - s) (length old) ≡ true) where
    pub encode-fits : (x : Result Unit ℕ) (new : List ℕ) → x ≡ if_bits (bad_from 1 m) tt → new ≡ calls.written (eqb (bad_from 1 m) 0) (places_of t - s) (shortened_encode (moduli_for t r) s m) old
        → Encoded t r s m old x new
    unfolding encode_bad_for shortened_encode_for
    encode-fits x new f g = record { bad = rw (y, e) f; bytes = rw (y, e) g }

module _ (t r s : ℕ) (w old : List ℕ) where
  pub invert-none : fits_word t r s (length w) ≡ false → old ≡ shortened_invert_for t r s w old
  unfolding shortened_invert_for
  invert-none y = unfit (fits_word t r s (length w)) (places_of t - s) (shortened_inverse (moduli_for t r) s w) old y

  module _ (y : fits_word t r s (length w) ≡ true) where
    pub invert_narrow : leb (places_of t - s) (length old) ≡ false → old ≡ shortened_invert_for t r s w old
    unfolding shortened_invert_for
    invert_narrow e = narrow (fits_word t r s (length w)) (places_of t - s) (shortened_inverse (moduli_for t r) s w) old y e

    module _ (e : leb (places_of t - s) (length old) ≡ true) where
      pub invert-else : shortened_inverse (moduli_for t r) s w ++ drop (places_of t - s) old ≡ shortened_invert_for t r s w old
      unfolding shortened_invert_for
      invert-else = wide (fits_word t r s (length w)) (places_of t - s) (shortened_inverse (moduli_for t r) s w) old y e

module _ (t r s : ℕ) (x w old : List ℕ) where
  pub combine-none : fits_word t r s (length x) ≡ false → old ≡ shortened_combine_for t r s x w old
  unfolding shortened_combine_for
  combine-none y = rw y

  module _ (v : fits_word t r s (length x) ≡ true) where
    pub combine-second : fits_word t r s (length w) ≡ false → old ≡ shortened_combine_for t r s x w old
    unfolding shortened_combine_for
    combine-second y = rw (v, y)

    module _ (y : fits_word t r s (length w) ≡ true) where
      pub combine-narrow : leb (places_of t - s) (length old) ≡ false → old ≡ shortened_combine_for t r s x w old
      unfolding shortened_combine_for
      combine-narrow e = rw (v, y, e)

      module _ (e : leb (places_of t - s) (length old) ≡ true) where
        pub combine-else : shortened_combine (moduli_for t r) s x w ++ drop (places_of t - s) old ≡ shortened_combine_for t r s x w old
        unfolding shortened_combine_for
        combine-else = rw (v, y, e)

-- ---- words that are worked on as they stand: the shape without its first s places
module _ (t r s : ℕ) (h : Shape) (e : h ≡ shape_for t r) (y : allowed_for t r s ≡ true) where
  known_as : Known t r h
  known_as = known-for t r h e (allowed-both t r s y).0

  pub cut-for : Cut h s
  cut-for =
      let al = (allowed-both t r s y).1 in
      let k = known_as in
      let st = al.stays in
      record {
        code = (t, r, e);
        some = omega (arith, k.places);
        ends = rw (k.binary, k.a) al.ends;
        stays = rw k.message st;
      }

  pub word-enough : (k : ℕ) → fits_word t r s k ≡ true → h.places - s ≤ k
  word-enough k f = let a = (word_fits t r s k f).all in omega (arith, known_as.places)

  pub room-enough : (k : ℕ) → leb (places_of t - s) k ≡ true → h.places - s ≤ k
  room-enough k f = let l = leb-true (places_of t - s) k f in omega (arith, known_as.places)

  -- what is written, in the words of t and r
  pub written_as : (new : List Modulus → List ℕ) (old : List ℕ) → new (moduli h.a h.b) ++ drop (h.places - s) old ≡ new (moduli_for t r) ++ drop (places_of t - s) old
  written_as new old = rw (moduli-known t r h known_as, known_as.places)
