-- A word that was found to be of its length has few enough bytes for its places to be told. Assumes nothing.
use mathlib.Core.Path.{◌≡◌, refl}
use mathlib.Core.List.{List, [], ◌∷◌, ◌++◌}
use Prim.Native.Nat.{ℕ, ◌<◌}
use native.Mathlib.Omega.{arith}
use lib.ListN.{length}
use Rattle.coder_theory.specs.declared.Record.{Record}
use Rattle.coder_theory.specs.State.{places_in}
use Rattle.coder_theory.specs.Reasons.{first_reason, wrong_length, short_output}
use Rattle.coder_theory.specs.Calls.{state_reasons}
use Rattle.coder_theory.proofs.Firsts.{accepted-none}
use Rattle.coder_theory.proofs.States.{true-usable}
use Rattle.coder_theory.proofs.Outcomes.{right-length}
use Rattle.coder_theory.proofs.Bounds.{places-bound}

pub few-places : (rec : Record) (w : List ℕ) (room : ℕ)
    → (first_reason (state_reasons rec ++ (wrong_length (places_in rec) w ∷ short_output (places_in rec) room ∷ []))).number ≡ 0
    → length w < 4294967296
few-places rec w room e =
    let h = accepted-none (state_reasons rec ++ (wrong_length (places_in rec) w ∷ short_output (places_in rec) room ∷ [])) refl e in
    let l = right-length (places_in rec) w h.1.1.1.0 in
    let b = places-bound rec (true-usable rec h.1.0 h.1.1.0) in
    omega arith
