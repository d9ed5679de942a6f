-- What a count knows: that the call was accepted. Assumes nothing.
use mathlib.Core.Path.{◌≡◌, sym, ap}
use Prim.Native.Nat.{ℕ}
use Rattle.std.specs.Prelude.{Result, Ok, Err, IfOk}
use Rattle.coder_theory.specs.State.{counted}
use Rattle.coder_theory.specs.declared.Record.{Record}
use Rattle.coder_theory.specs.declared.Corrected.{Corrected}
use Rattle.checks.specs.declared.refusal.Refusal.{Refusal}
use Rattle.checks.specs.Told.{told_counted}

pub if-accepted : {P : Type 0} (rec : Record) (x : Result ℕ Refusal) (y : Corrected)
    → told_counted counted rec x ≡ y → (y.refusal ≡ 0 → P) → IfOk x (λ _. P)
if-accepted rec (Ok p) y e h = h (sym (ap (λ (a : Corrected). a.refusal) e))
if-accepted rec (Err x) y e h = tt
