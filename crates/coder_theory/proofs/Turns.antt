-- Correction equals asking and committing in turn: `in-turn`. Its statement is in specs/Turns. Assumes nothing.
use mathlib.Core.Path.{◌≡◌, refl, sym, ap, ◌∙◌}
use mathlib.Core.Logic.{◌≢◌}
use mathlib.Core.Bool.{not}
use mathlib.Core.List.{List, [], ◌∷◌, ◌++◌}
use Prim.Native.Nat.{ℕ, zero, suc}
use native.Mathlib.Omega.{arith}
use borrow.Author.Tests.{eq-eqb}
use lib.ListN.{length, take, drop}
use Rattle.words_theory.specs.Words.{flip}
use Rattle.coder_theory.specs.State.{places_in, corrected_in, corrected_place_in, corrected_old_place_in, counted}
use Rattle.coder_theory.specs.Reasons.{Reason, first_reason, wrong_length, short_output, bad_byte, not_asked, full}
use Rattle.coder_theory.specs.Calls.{if_accepted, state_reasons, ask_reasons, ask_answer, commit_reasons, commit_answer, commit_output, correct_reasons, correct_answer, correct_output}
use Rattle.coder_theory.specs.Demand1.{word_places, HasRoom}
use Rattle.coder_theory.specs.Turns.{InTurn}
use Rattle.coder_theory.specs.declared.Record.{Record}
use Rattle.coder_theory.specs.declared.Answer.{Answer}
use Rattle.coder_theory.specs.declared.Corrected.{Corrected}
use Rattle.coder_theory.proofs.Firsts.{not-zero, first-no, first-before, first-after, first-without}
use Rattle.coder_theory.proofs.Outcomes.{if-refused}
use Rattle.coder_theory.proofs.Refusals.{correct-untouched}
use Rattle.coder_theory.proofs.Refused.{refused}
use Rattle.coder_theory.proofs.Corrections.{correct-accepted, nearest_in}
use Rattle.coder_theory.proofs.Accepted.{correct-accepts, front}
use Rattle.coder_theory.proofs.Asking.{left_reason, asked, ask-accepts, commit-accepts, commit-does, commit-untouched}
use Rattle.coder_theory.proofs.Demand2.{corrected-word, behind}

module _ (rec : Record) (w out : List ℕ) where
  -- ---- 3 aside, the reasons of correction are those of asking, and 23
  as-asked : (correct_answer rec w out).refusal ≢ 3 → first_reason (correct_reasons rec w (length out)) ≡ first_reason (ask_reasons rec w ++ (full rec ∷ []))
  unfolding correct_answer
  as-asked h = first-without (state_reasons rec ++ (wrong_length (places_in rec) w ∷ [])) (bad_byte w ∷ left_reason rec w ∷ full rec ∷ []) (short_output (places_in rec) (length out)) refl h

  -- a commit of the place that was told is not refused with 24
  as-committed : first_reason (commit_reasons rec (ask_answer rec w).place w) ≡ first_reason (ask_reasons rec w ++ (full rec ∷ []))
  as-committed =
      let q = (ask_answer rec w).place in
      first-after (ask_reasons rec w) (not_asked q q ∷ full rec ∷ []) (full rec ∷ []) (first-no (not_asked q q) (full rec ∷ []) (ap not (eq-eqb q q refl)))

  -- what is answered by the first reason, where p is told and counted
  abbrev answered : ℕ → Reason → Corrected
  answered p x =
      record { refusal = x.number; place = if_accepted x.number p x.place; «record» = if_accepted x.number (counted rec p) rec }

  stopped : (correct_answer rec w out).refusal ≢ 3 → (ask_answer rec w).refusal ≢ 0
      → correct_answer rec w out ≡ record { refusal = (ask_answer rec w).refusal; place = (ask_answer rec w).place; «record» = rec }
  unfolding correct_answer ask_answer
  stopped h k =
      ap (answered (corrected_place_in rec w)) (as-asked h ∙ first-before (ask_reasons rec w) (full rec ∷ []) k)
      ∙ rw (if-refused (first_reason (ask_reasons rec w)).number (counted rec (corrected_place_in rec w)) rec k)

  same : (correct_answer rec w out).refusal ≢ 3 → (ask_answer rec w).refusal ≡ 0 → correct_answer rec w out ≡ commit_answer rec (ask_answer rec w).place w
  unfolding correct_answer commit_answer
  same h e =
      ap (answered (corrected_place_in rec w)) (as-asked h ∙ sym as-committed)
      ∙ ap (λ (p : ℕ). answered p (first_reason (commit_reasons rec (ask_answer rec w).place w))) (sym (asked rec w e))

  room : HasRoom rec out → (correct_answer rec w out).refusal ≢ 3
  room l e = let s = (((refused rec).correct w out).numbers.1.1.1.1.0.0 e).1 in omega arith

  -- ---- the word
  bytes : (correct_answer rec w out).refusal ≡ 0 → take (word_places rec) (correct_output rec w out) ≡ commit_output rec (ask_answer rec w).place w
  unfolding correct_answer places_in corrected_in corrected_place_in corrected_old_place_in
  bytes e =
      let a = correct-accepted rec w out e in
      let b = ask-accepts rec w a.0 a.1 a.4 in
      let c = commit-accepts rec (ask_answer rec w).place w a.0 a.1 a.4 refl a.3 in
      ap (take (places_in rec)) (correct-accepts rec w out a.0 a.3 a.4 a.1 a.2).1
      ∙ (front (places_in rec) (corrected_in rec w) out (corrected-word rec a.0 w a.1 a.4)).0
      ∙ (nearest_in rec w a.0 a.1).flipped a.4
      ∙ ap (λ (x : Answer). flip x.place w) (sym b)
      ∙ sym (commit-does rec (ask_answer rec w).place w c).2

  further : drop (word_places rec) (correct_output rec w out) ≡ drop (word_places rec) out
  unfolding correct_answer
  further = go (correct_answer rec w out).refusal refl
    where
      go : (n : ℕ) → (correct_answer rec w out).refusal ≡ n → drop (word_places rec) (correct_output rec w out) ≡ drop (word_places rec) out
      go zero e = behind rec (correct-accepted rec w out e).0 w out
      go (suc n) e = ap (drop (word_places rec)) (correct-untouched rec w out (not-zero e)).0

pub in-turn : InTurn
in-turn rec w out =
    record {
      room = room rec w out;
      stopped = stopped rec w out;
      same = same rec w out;
      bytes = bytes rec w out;
      further = further rec w out;
      untouched = λ h. (correct-untouched rec w out h).0;
      unaltered = commit-untouched rec (ask_answer rec w).place w;
    }
