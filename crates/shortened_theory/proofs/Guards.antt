-- The tests of the calls as statements, and what they come to for the code. Assumes nothing.
use mathlib.Core.Path.{◌≡◌, ap₂, ◌∙◌}
use mathlib.Core.Bool.{Bool, true, ◌&&◌}
use Prim.Native.Nat.{ℕ, ◌-◌, ◌≤◌}
use native.Mathlib.Omega.{arith}
use borrow.Author.Tests.{eqb-true, eq-eqb}
use lib.Dec.{eqb, ltb}
use Rattle.group_theory.proofs.Signs.{both}
use Rattle.layout_theory.specs.Parameters.{Admitted, admits, places_of, message_of}
use Rattle.layout_theory.specs.Calls.{shape_for}
use Rattle.layout_theory.specs.declared.Shape.{Shape}
use Rattle.layout_theory.proofs.Parameters.{admits-admitted, admitted-admits, Known, known-for, singles-for}
use Rattle.shortened_theory.specs.Allowed.{ends_whole, Allowed, allows}
use Rattle.shortened_theory.specs.Calls.{allowed_for, fits_word, fits_message, Fits}
use Rattle.shortened_theory.proofs.Between.{allows-allowed, allowed-allows}

-- ---- t, r and s
pub allowed-both : (t r s : ℕ) → allowed_for t r s ≡ true → Admitted t r × Allowed t r s
unfolding allowed_for
allowed-both t r s e =
    let b = both (admits t r) (allows t r s) e in
    (admits-admitted t r b.0, allows-allowed t r s b.1)

pub both-allowed : (t r s : ℕ) → Admitted t r → Allowed t r s → allowed_for t r s ≡ true
unfolding allowed_for
both-allowed t r s ok al = ap₂ ◌&&◌ (admitted-admits t r ok) (allowed-allows t r s al)

-- the numbers that the test is made of
module _ (t r s : ℕ) (ok : Admitted t r) (h : Shape) (e : h ≡ shape_for t r) where
  pub shape-known : Known t r h
  shape-known = known-for t r h e ok

  pub part_small : h.a ≤ h.binary
  part_small = let k = shape-known in let x = singles-for t r ok in omega (arith, k.a, k.binary)

  pub shape-allows : (x : Bool) → x ≡ (ends_whole (h.binary - h.a) s && ltb s h.message) → x ≡ allowed_for t r s
  unfolding allowed_for allows
  shape-allows x q =
      let k = shape-known in
      q ∙ rw (k.binary, k.a, k.message, admitted-admits t r ok)

-- ---- what is left of the lengths
module _ (t r s : ℕ) (y : allowed_for t r s ≡ true) (h : Shape) (e : h ≡ shape_for t r) where
  pub still : (s ≤ h.places) × (s ≤ h.message)
  still =
      let a = allowed-both t r s y in
      let k = known-for t r h e a.0 in
      let st = a.1.stays in
      (omega (arith, k.places), omega (arith, k.message))

  pub places-are : h.places ≡ places_of t
  places-are = (known-for t r h e (allowed-both t r s y).0).places

  pub message-is : h.message ≡ message_of t
  message-is = (known-for t r h e (allowed-both t r s y).0).message

-- ---- lengths that fit, of n places, as many as those of a message or more
fits_by : (t r s n k : ℕ) → message_of t ≤ n → (allowed_for t r s && eqb k (n - s)) ≡ true → Fits t r s n k
fits_by t r s n k l e =
    let b = both (allowed_for t r s) (eqb k (n - s)) e in
    let a = allowed-both t r s b.0 in
    let q = eqb-true k (n - s) b.1 in
    record { admitted = a.0; allowed = a.1; all = let st = a.1.stays in omega arith }

by_fits : (t r s n k : ℕ) → Fits t r s n k → (allowed_for t r s && eqb k (n - s)) ≡ true
by_fits t r s n k f = let a = f.all in ap₂ ◌&&◌ (both-allowed t r s f.admitted f.allowed) (eq-eqb k (n - s) (omega arith))

pub word_fits : (t r s k : ℕ) → fits_word t r s k ≡ true → Fits t r s (places_of t) k
unfolding fits_word
word_fits t r s k e = fits_by t r s (places_of t) k (omega arith) e

pub message-fits : (t r s k : ℕ) → fits_message t r s k ≡ true → Fits t r s (message_of t) k
unfolding fits_message
message-fits t r s k e = fits_by t r s (message_of t) k (omega arith) e

pub fits_word_lem : (t r s k : ℕ) → Fits t r s (places_of t) k → fits_word t r s k ≡ true
unfolding fits_word
fits_word_lem t r s k f = by_fits t r s (places_of t) k f

pub fits-message : (t r s k : ℕ) → Fits t r s (message_of t) k → fits_message t r s k ≡ true
unfolding fits_message
fits-message t r s k f = by_fits t r s (message_of t) k f
