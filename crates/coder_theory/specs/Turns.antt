-- Request C-20: "The single call stays and, its output long enough, equals both in turn." The theorem is `in-turn : InTurn` (proofs/Turns): every
-- record, open and fit or not, and every word and output. Assumes nothing.
use Rattle.std.specs.Prelude.{◌≡◌, ◌≢◌, List, ℕ, take, drop}
use Rattle.coder_theory.specs.Calls.{correct_answer, correct_output, ask_answer, commit_answer, commit_output}
use Rattle.coder_theory.specs.Demand1.{word_places, HasRoom}
use Rattle.coder_theory.specs.declared.Record.{Record}

-- in turn: asking, and where that is accepted committing the place that it told, with the same record
pub record InTurnFor (rec : Record) (w out : List ℕ) : Type 0 where
  -- an output that is long enough is never refused with 3; 3 aside:
  pub room : HasRoom rec out → (correct_answer rec w out).refusal ≢ 3
  -- where asking is refused, correction is refused with the same number and place
  pub stopped : (correct_answer rec w out).refusal ≢ 3 → (ask_answer rec w).refusal ≢ 0
      → correct_answer rec w out ≡ record { refusal = (ask_answer rec w).refusal; place = (ask_answer rec w).place; «record» = rec }
  -- where it is accepted, correction gives what the commit gives, refused or accepted: number, place and record
  pub same : (correct_answer rec w out).refusal ≢ 3 → (ask_answer rec w).refusal ≡ 0
      → correct_answer rec w out ≡ commit_answer rec (ask_answer rec w).place w
  -- accepted, the first n − s bytes of the output are the committed word, and further ones are kept
  pub bytes : (correct_answer rec w out).refusal ≡ 0 → take (word_places rec) (correct_output rec w out) ≡ commit_output rec (ask_answer rec w).place w
  pub further : drop (word_places rec) (correct_output rec w out) ≡ drop (word_places rec) out
  -- refused, nothing is altered: neither the output of the one nor the word and the record of the other
  pub untouched : (correct_answer rec w out).refusal ≢ 0 → correct_output rec w out ≡ out
  pub unaltered : (commit_answer rec (ask_answer rec w).place w).refusal ≢ 0
      → (commit_output rec (ask_answer rec w).place w ≡ w) × ((commit_answer rec (ask_answer rec w).place w).«record» ≡ rec)

abbrev pub InTurn : Type 0
InTurn = (rec : Record) (w out : List ℕ) → InTurnFor rec w out
