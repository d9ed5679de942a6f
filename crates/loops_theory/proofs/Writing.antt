-- A loop that writes a list over the front of an output, one byte a turn, and keeps the bytes after it. Assumes nothing.
use mathlib.Core.Path.{◌≡◌, refl, ap, ◌∙◌}
use mathlib.Core.List.{List, [], ◌∷◌, ◌++◌}
use Prim.Native.Nat.{ℕ, zero, suc, ◌+◌, ◌≤◌, ◌<◌}
use native.Mathlib.Numerals.{add-one}
use native.Mathlib.Omega.{arith}
use lib.ListN.{length, take, drop, get_or, set, length-set}
use lib.Seq.{take-length}
use Rattle.loops_theory.specs.Writing.{Written}

pub write-none : (s o : List ℕ) → Written s o o 0
write-none s o = record { within = omega arith; room = refl; bytes = refl }

store : (i : ℕ) (s o : List ℕ) → i < length s → i < length o → set (take i s ++ drop i o) i (get_or s i 0) ≡ take (suc i) s ++ drop (suc i) o
store i [] o h k = absurd (omega arith)
store i (x ∷ s) [] h k = absurd (omega arith)
store zero (x ∷ s) (y ∷ o) h k = refl
store (suc i) (x ∷ s) (y ∷ o) h k = ap {B = List ℕ} (λ (r : List ℕ). x ∷ r) (store i s o (omega arith) (omega arith))

pub write_step : (s o r : List ℕ) (i v : ℕ) → Written s o r i → i < length s → length s ≤ length o → v ≡ get_or s i 0
    → Written s o (set r i v) (i + 1)
write_step s o r i v w h l e =
    record {
      within = omega arith;
      room = simp length-set w.room;
      bytes = rw (e, w.bytes, add-one) (store i s o h (omega arith));
    }

pub write-end : (s o r : List ℕ) (i : ℕ) → Written s o r i → i ≡ length s → r ≡ s ++ drop i o
write-end s o r i w e = w.bytes ∙ ap (λ (t : List ℕ). t ++ drop i o) (ap (λ (k : ℕ). take k s) e ∙ take-length s)
