-- What the pass over a word or a message tells, once nothing is found wrong before its bytes: the place of a byte above 1, or what the word comes
-- to. Assumes nothing.
use mathlib.Core.Path.{◌≡◌, refl}
use mathlib.Core.List.{List, [], ◌∷◌, ◌++◌}
use Prim.Native.Nat.{ℕ}
use lib.ListN.{length}
use Rattle.words_theory.specs.Calls.{if_bits}
use Rattle.shortened_theory.specs.Calls.{scanned_for, shortened_syndrome_for}
use Rattle.shortened_theory.proofs.Guards.{fits_word_lem}
use Rattle.coder_theory.specs.State.{places_in}
use Rattle.coder_theory.specs.Reasons.{Reason, first_reason, wrong_length, short_output, bad_place}
use Rattle.coder_theory.specs.Calls.{state_reasons}
use Rattle.coder_theory.specs.declared.Record.{Record}
use Rattle.coder_theory.proofs.Firsts.{accepted-none}
use Rattle.coder_theory.proofs.States.{true-usable}
use Rattle.coder_theory.proofs.Outcomes.{right-length, fitted}

-- the reasons before the bytes, where n bytes are asked of the word and m of the output
abbrev pub early : Record → ℕ → List ℕ → ℕ → ℕ → List Reason
early rec n w m room = state_reasons rec ++ (wrong_length n w ∷ short_output m room ∷ [])

-- a word
pub scanned-bits : (rec : Record) (w : List ℕ) (room : ℕ) → (first_reason (early rec (places_in rec) w (places_in rec) room)).number ≡ 0
    → scanned_for rec.t rec.r rec.s w ≡ if_bits (bad_place w) (shortened_syndrome_for rec.t rec.r rec.s w)
unfolding scanned_for
scanned-bits rec w room z =
    let h = accepted-none (early rec (places_in rec) w (places_in rec) room) refl z in
    let u = true-usable rec h.1.0 h.1.1.0 in
    let l = right-length (places_in rec) w h.1.1.1.0 in
    rw (fits_word_lem rec.t rec.r rec.s (length w) (fitted rec (length w) u l))
