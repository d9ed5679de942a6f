-- The code's test of a place, and what the shape that the code holds says of the layout at its moduli. Assumes nothing.
use mathlib.Core.Path.{◌≡◌, sym, ap, ◌∙◌}
use mathlib.Core.Bool.{Bool, true, false, ◌&&◌}
use Prim.Native.Nat.{ℕ, ◌-◌, ◌<◌, ◌≤◌}
use native.Mathlib.Omega.{arith}
use borrow.Author.Tests.{leb-true, leb-false, le-leb}
use lib.Dec.{leb}
use lib.ListN.{length}
use Rattle.group_theory.specs.Group.{moduli}
use Rattle.group_theory.proofs.Signs.{both}
use Rattle.layout_theory.specs.Layout.{slots, places}
use Rattle.layout_theory.specs.Calls.{shape_for}
use Rattle.layout_theory.specs.Parts.{Located}
use Rattle.layout_theory.specs.declared.Shape.{Shape}
use Rattle.layout_theory.proofs.Sizes.{length-places}
use Rattle.layout_theory.proofs.Parameters.{Sizes, known, sizes-known}
use Rattle.words_theory.specs.Halves.{other_at}
use Rattle.words_theory.proofs.OtherHalf.{other-lt}

-- the code's test of a place
pub place-there : (n p : ℕ) → (leb 1 p && leb p n) ≡ true → (0 < p) × (p ≤ n)
place-there n p q = let b = both (leb 1 p) (leb p n) q in (leb-true 1 p b.0, leb-true p n b.1)

pub place-beyond : (n p : ℕ) → (leb 1 p && leb p n) ≡ false → 0 < p → n < p
place-beyond n p q h = leb-false p n (ap (λ (b : Bool). b && leb p n) (sym (le-leb 1 p h)) ∙ q)

-- it is the shape of some t and r
abbrev pub OfCode : Shape → Type 0
OfCode s = (t : ℕ) × (r : ℕ) × (s ≡ shape_for t r)

module _ (s : Shape) (o : OfCode s) (p : 0 < s.places) where
  pub sizes : Sizes s
  sizes = sizes-known o.0 o.1 s (known o.0 o.1 s o.2 p)

  pub located : Located s.a s.b (s.binary - s.a) s.message
  located =
      let k = sizes in
      record {
        room = k.room;
        part = omega (arith, k.part);
        front = omega (arith, k.front);
        small = omega (arith, k.check, k.small);
      }

  pub length-slots : length (places (moduli s.a s.b) (slots (moduli s.a s.b))) ≡ s.places
  length-slots = omega (arith, length-places (moduli s.a s.b), sizes.all)

  -- the index of the other half is that of a place
  pub other-within : (i : ℕ) → i < s.places → other_at (slots (moduli s.a s.b)) i < s.places
  other-within i h =
      let l = length-slots in
      let k = other-lt (moduli s.a s.b) (slots (moduli s.a s.b)) i (omega arith) in
      omega arith
