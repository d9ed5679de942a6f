-- A turn of the loops of `Moduli::add` and `Moduli::multiple`: component i of the result s is that of v by its modulus. Assumes nothing.
use mathlib.Core.Path.{◌≡◌, ◌∙◌}
use mathlib.Core.List.{List}
use Prim.Native.Nat.{ℕ, ◌+◌, ◌%◌, ◌<◌}
use native.Mathlib.Omega.{arith}
use lib.ListN.{length, get_or, set}
use Rattle.group_theory.specs.Group.{one, radix, moduli}
use Rattle.group_theory.proofs.Fill.{Filled, fill_step, length-moduli}

pub turn :
    (a b : ℕ) (s r : List ℕ) (i v m : ℕ) → m ≡ radix (get_or (moduli a b) i one) → Filled 12 s r i → i < 12 → length s ≡ length (moduli a b)
    → (i < length (moduli a b) → v % radix (get_or (moduli a b) i one) ≡ get_or s i 0) → Filled 12 s (set r i (v % m)) (i + 1)
turn a b s r i v m w f h l e =
    rw w (fill_step 12 s r i _ f h (l ∙ length-moduli a b) (e (omega (arith, length-moduli a b))))
