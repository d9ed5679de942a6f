-- What correction answers, leaves and counts, by the first reason that applies; what its proof cites. Assumes nothing.
use mathlib.Core.Path.{◌≡◌, refl, sym, ap, ap₂, ◌∙◌}
use mathlib.Core.Logic.{◌≢◌}
use mathlib.Core.Bool.{Bool, true, false, ◌&&◌, true≢false}
use mathlib.Core.List.{List, [], ◌∷◌, ◌++◌}
use Prim.Native.Nat.{ℕ, ◌+◌, ◌-◌, ◌≤◌}
use native.Mathlib.Omega.{arith}
use borrow.Author.Tests.{le-leb, leb-true, ltb-false, eqb-false}
use lib.Dec.{eqb, leb}
use lib.ListN.{length, drop}
use Rattle.group_theory.proofs.Signs.{both}
use Rattle.layout_theory.specs.Choice.{one_if}
use Rattle.words_theory.specs.Words.{Word}
use Rattle.words_theory.specs.Calls.{flip_for}
use Rattle.words_theory.proofs.Reading.{word-reads}
use Rattle.words_theory.proofs.Rule.{corrected-place}
use Rattle.shortened_theory.specs.Code.{fill, LeftOut, is_left_out, shortened_syndrome, shortened_width, corrected_old_place, shortened_corrected_place}
use Rattle.shortened_theory.specs.Calls.{fits_word, shortened_syndrome_for, fault_at_for, shortened_fault_for, shortened_width_for}
use Rattle.shortened_theory.specs.Claims.{NearestTo}
use Rattle.shortened_theory.proofs.Guards.{fits_word_lem, both-allowed}
use Rattle.coder_theory.specs.State.{Usable, moduli_in, places_in, corrected_in, corrected_place_in, corrected_old_place_in, full_count, is_binary_in, is_paired_in, counted, FallsOut}
use Rattle.coder_theory.specs.Reasons.{Reason, first_reason, left_out, full}
use Rattle.coder_theory.specs.Calls.{answer_of, write_reasons, correct_reasons, correct_answer, correct_output}
use Rattle.coder_theory.specs.declared.Record.{Record}
use Rattle.coder_theory.specs.declared.Answer.{Answer}
use Rattle.coder_theory.proofs.Firsts.{NoneApplies, first-before, first_past, accepted-none}
use Rattle.coder_theory.proofs.States.{true-usable, code_in, filled_in}
use Rattle.coder_theory.proofs.Outcomes.{if-refused, word-by, fitted}
use Rattle.coder_theory.proofs.Outputs.{kept}

-- what an accepted check of a word and an output knows: the word is one of n − s bits
pub written-accepted : (rec : Record) (w : List ℕ) (room : ℕ) → (first_reason (write_reasons rec (places_in rec) w room)).number ≡ 0
    → Usable rec × Word (places_in rec) w × (places_in rec ≤ room)
written-accepted rec w room e =
    let h = accepted-none (write_reasons rec (places_in rec) w room) refl e in (
      true-usable rec h.1.0 h.1.1.0,
      word-by (places_in rec) w h.1.1.1.0 h.1.1.1.1.1.0,
      ltb-false room (places_in rec) h.1.1.1.1.0,
    )

pub left_false : (s q : ℕ) → is_left_out s q ≡ false → LeftOut s q → ⊥
left_false s q e h = true≢false (sym (ap₂ ◌&&◌ (le-leb 1 q h.0) (le-leb q s h.1)) ∙ e)

pub left-true : (s q : ℕ) → is_left_out s q ≡ true → LeftOut s q
left-true s q e =
    let b = both (leb 1 q) (leb q s) e in
    (leb-true 1 q b.0, leb-true q s b.1)

-- what an accepted correction knows: also that its place is not left out, and that words is not full
pub correct-accepted : (rec : Record) (w out : List ℕ) → (first_reason (correct_reasons rec w (length out))).number ≡ 0
    → Usable rec × Word (places_in rec) w × (places_in rec ≤ length out) × (rec.words ≢ full_count) × (FallsOut rec w → ⊥)
correct-accepted rec w out e =
    let h = accepted-none (correct_reasons rec w (length out)) refl e in (
      true-usable rec h.1.0 h.1.1.0,
      word-by (places_in rec) w h.1.1.1.0 h.1.1.1.1.1.0,
      ltb-false (length out) (places_in rec) h.1.1.1.1.0,
      eqb-false rec.words full_count h.1.1.1.1.1.1.1.0,
      left_false rec.s (corrected_old_place_in rec w) h.1.1.1.1.1.1.0,
    )

-- ---- what the functions on plain words answer
-- the theorem of shortened codes, of a usable record's words
pub nearest_in : (rec : Record) (w : List ℕ) → Usable rec → Word (places_in rec) w → NearestTo (moduli_in rec) rec.s w
unfolding places_in
nearest_in rec w f h = (code_in rec f).nearest w h

-- the place at fault in the filled word is the one that the whole code's correction changes
pub plain-fault : (rec : Record) (w : List ℕ) → Usable rec → Word (places_in rec) w → shortened_fault_for rec.t rec.r rec.s w ≡ corrected_old_place_in rec w
unfolding shortened_fault_for corrected_old_place_in corrected_old_place places_in
plain-fault rec w f h =
    let ms = moduli_in rec in
    let v = filled_in rec f h in
    rw (fits_word_lem rec.t rec.r rec.s (length w) (fitted rec (length w) f h.places))
    (sym (corrected-place ms (fill rec.s w) (word-reads ms v)))

-- told from the word's syndrome it is the same
pub fault-from : (t r s : ℕ) (w : List ℕ) → fault_at_for t r s (shortened_syndrome_for t r s w) w ≡ shortened_fault_for t r s w
unfolding fault_at_for shortened_fault_for shortened_syndrome_for shortened_syndrome
fault-from t r s w = go (fits_word t r s (length w)) refl
  where
    go : (b : Bool) → fits_word t r s (length w) ≡ b → fault_at_for t r s (shortened_syndrome_for t r s w) w ≡ shortened_fault_for t r s w
    go true y = rw y
    go false y = rw y

-- and flipped at its own place, where that is not left out, the word is corrected
pub plain-flip : (rec : Record) (w out : List ℕ) → Usable rec → Word (places_in rec) w → places_in rec ≤ length out → (FallsOut rec w → ⊥)
    → flip_for w (corrected_place_in rec w) out ≡ corrected_in rec w ++ drop (places_in rec) out
unfolding flip_for corrected_in corrected_place_in corrected_old_place_in
plain-flip rec w out f h l k =
    rw (le-leb (length w) (length out) (let k = h.places in omega arith))
    (ap₂ (λ (v : List ℕ) (n : ℕ). v ++ drop n out) (sym ((nearest_in rec w f h).flipped k)) h.places)

-- ---- the counts, by the width of the place
pub plain-width : (rec : Record) (p : ℕ) → Usable rec → shortened_width_for rec.t rec.r rec.s p ≡ shortened_width (moduli_in rec) rec.s p
unfolding shortened_width_for
plain-width rec p f = rw (both-allowed rec.t rec.r rec.s f.fit.admitted f.allowed)

pub counted-by : (rec : Record) (p k : ℕ) → Usable rec → k ≡ shortened_width_for rec.t rec.r rec.s p → (x y z : ℕ)
    → x ≡ rec.clean + one_if (eqb p 0) → y ≡ rec.corrected_binary + one_if (eqb k 1) → z ≡ rec.corrected_pairs + one_if (eqb k 2)
    → record { t = rec.t; r = rec.r; s = rec.s; words = rec.words + 1; clean = x; corrected_binary = y; corrected_pairs = z } ≡ counted rec p
unfolding counted is_binary_in is_paired_in
counted-by rec p k f e x y z a b c = rw (a, b, c, e ∙ plain-width rec p f)

pub place_of : (rec : Record) (w : List ℕ) (q : ℕ) {p : ℕ} → q ≡ corrected_old_place_in rec w → p ≡ q - rec.s → p ≡ corrected_place_in rec w
unfolding corrected_place_in corrected_old_place_in shortened_corrected_place
place_of rec w q e d = d ∙ ap (λ (k : ℕ). k - rec.s) e

-- ---- correction, by what the checks answered
module _ (rec : Record) (w out : List ℕ) (a : Answer) (e : a ≡ answer_of (first_reason (write_reasons rec (places_in rec) w (length out)))) where
  abbrev before : List Reason
  before = write_reasons rec (places_in rec) w (length out)

  abbrev last : List Reason
  last = left_out rec.s (corrected_old_place_in rec w) ∷ full rec ∷ []

  corrected-by : a.refusal ≡ (first_reason before).number
  corrected-by = ap (λ (x : Answer). x.refusal) e

  pub correct-refused : a.refusal ≢ 0
      → (record { refusal = a.refusal; place = a.place; «record» = rec } ≡ correct_answer rec w out) × (out ≡ correct_output rec w out)
  unfolding correct_answer correct_output
  correct-refused h =
      let k : (first_reason before).number ≢ 0 = λ z. h (corrected-by ∙ z) in
      let f = first-before before last k in (
        rw (f, if-refused _ _ _ k, if-refused _ _ _ k, ← corrected-by, ap (λ (x : Answer). x.place) e),
        rw f (kept rec before out a e (corrected_in rec w) h),
      )

  module _ (h : a.refusal ≡ 0) (q : ℕ) (g : q ≡ shortened_fault_for rec.t rec.r rec.s w) (x : Answer)
      (i : x ≡ answer_of (first_reason (left_out rec.s q ∷ full rec ∷ []))) where
    ready : Usable rec × Word (places_in rec) w × (places_in rec ≤ length out)
    ready = written-accepted rec w (length out) (sym corrected-by ∙ h)

    whole : q ≡ corrected_old_place_in rec w
    whole = g ∙ plain-fault rec w ready.0 ready.1

    past : first_reason (correct_reasons rec w (length out)) ≡ first_reason last
    past = first_past before last (accepted-none before refl (sym corrected-by ∙ h))

    by-last : x ≡ answer_of (first_reason last)
    by-last = i ∙ ap (λ (p : ℕ). answer_of (first_reason (left_out rec.s p ∷ full rec ∷ []))) whole

    number_by : x.refusal ≡ (first_reason last).number
    number_by = ap (λ (y : Answer). y.refusal) by-last

    pub correct-stopped : x.refusal ≢ 0
        → (record { refusal = x.refusal; place = x.place; «record» = rec } ≡ correct_answer rec w out) × (out ≡ correct_output rec w out)
    unfolding correct_answer correct_output
    correct-stopped n =
        let k : (first_reason last).number ≢ 0 = λ z. n (number_by ∙ z) in (
          rw (past, if-refused _ _ _ k, if-refused _ _ _ k, by-last),
          rw past (sym (if-refused _ _ _ k)),
        )

    module _ (n : x.refusal ≡ 0) where
      none : NoneApplies last
      none = accepted-none last refl (sym number_by ∙ n)

      -- it is counted, and written with its place flipped
      pub correct-changed : (p : ℕ) → p ≡ q - rec.s → (f : List ℕ) → f ≡ flip_for w p out
          → (record { refusal = 0; place = p; «record» = counted rec p } ≡ correct_answer rec w out) × (f ≡ correct_output rec w out)
      unfolding correct_answer correct_output
      correct-changed p d f c =
          let z : (first_reason last).number ≡ 0 = sym number_by ∙ n in
          let u : p ≡ corrected_place_in rec w = place_of rec w q whole d in (
            rw (past, z, u),
            rw (past, z)
                (c ∙ ap (λ (i : ℕ). flip_for w i out) u ∙ plain-flip rec w out ready.0 ready.1 ready.2 (left_false rec.s (corrected_old_place_in rec w) none.0)),
          )

-- what an accepted one knows before it counts
pub correct-counts : (rec : Record) (w out : List ℕ) → (correct_answer rec w out).refusal ≡ 0 → Usable rec × (rec.words ≢ full_count)
unfolding correct_answer
correct-counts rec w out e = let c = correct-accepted rec w out e in (c.0, c.3)
