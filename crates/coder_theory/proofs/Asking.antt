-- What asking and committing answer, leave and count (request C-20), by the first reason that applies; what their proofs cite. Assumes nothing.
use mathlib.Core.Path.{◌≡◌, refl, sym, ap, ◌∙◌}
use mathlib.Core.Logic.{◌≢◌}
use mathlib.Core.Bool.{true, false, not}
use mathlib.Core.List.{List, [], ◌∷◌}
use Prim.Native.Nat.{ℕ, ◌-◌}
use borrow.Author.Tests.{eq-eqb, ne_eqb, eqb-true, eqb-false, not-false}
use lib.Dec.{eqb}
use Rattle.layout_theory.specs.Choice.{pick}
use Rattle.words_theory.specs.Words.{Word, flip}
use Rattle.shortened_theory.specs.Code.{is_left_out}
use Rattle.shortened_theory.specs.Calls.{shortened_fault_for}
use Rattle.coder_theory.specs.State.{Usable, places_in, corrected_place_in, corrected_old_place_in, full_count, counted, FallsOut}
use Rattle.coder_theory.specs.Reasons.{Reason, first_reason, left_out, not_asked, full}
use Rattle.coder_theory.specs.Calls.{answer_of, word_reasons, ask_reasons, ask_answer, commit_reasons, commit_answer, commit_output}
use Rattle.coder_theory.specs.declared.Record.{Record}
use Rattle.coder_theory.specs.declared.Answer.{Answer}
use Rattle.coder_theory.proofs.Firsts.{NoneApplies, first-yes, first-no, first-end, first-before, first_past, none_first, none-append, accepted-none}
use Rattle.coder_theory.proofs.States.{true-usable}
use Rattle.coder_theory.proofs.Outcomes.{if-accepted, if-refused, word-by, by-pick}
use Rattle.coder_theory.proofs.Corrections.{left_false, plain-fault, place_of}
use Rattle.coder_theory.proofs.Refusals.{left-applies}
use Rattle.coder_theory.proofs.Accepted.{word_none, not_left}

abbrev pub left_reason : Record → List ℕ → Reason
left_reason rec w = left_out rec.s (corrected_old_place_in rec w)

-- ---- where asking is accepted, and where its place is left out
pub ask-none : (rec : Record) (w : List ℕ) → Usable rec → Word (places_in rec) w → (FallsOut rec w → ⊥) → NoneApplies (ask_reasons rec w)
ask-none rec w f h q = none-append (word_reasons rec w) (left_reason rec w ∷ []) (word_none rec w f h) (not_left rec.s (corrected_old_place_in rec w) q, tt)

pub ask-accepts : (rec : Record) (w : List ℕ) → Usable rec → Word (places_in rec) w → (FallsOut rec w → ⊥)
    → ask_answer rec w ≡ record { refusal = 0; place = corrected_place_in rec w }
unfolding ask_answer
ask-accepts rec w f h q = rw (none_first (ask_reasons rec w) (ask-none rec w f h q))

pub ask-left : (rec : Record) (w : List ℕ) → Usable rec → Word (places_in rec) w → FallsOut rec w → ask_answer rec w ≡ record { refusal = 11; place = 0 }
unfolding ask_answer
ask-left rec w f h q =
    rw (first_past (word_reasons rec w) (left_reason rec w ∷ []) (word_none rec w f h) ∙ first-yes (left_reason rec w) [] ((left-applies rec.s (corrected_old_place_in rec w)).1 q))

pub ask-accepted : (rec : Record) (w : List ℕ) → (ask_answer rec w).refusal ≡ 0 → Usable rec × Word (places_in rec) w × (FallsOut rec w → ⊥)
unfolding ask_answer
ask-accepted rec w e =
    let h = accepted-none (ask_reasons rec w) refl e in (
      true-usable rec h.1.0 h.1.1.0,
      word-by (places_in rec) w h.1.1.1.0 h.1.1.1.1.0,
      left_false rec.s (corrected_old_place_in rec w) h.1.1.1.1.1.0,
    )

pub asked : (rec : Record) (w : List ℕ) → (ask_answer rec w).refusal ≡ 0 → (ask_answer rec w).place ≡ corrected_place_in rec w
unfolding ask_answer
asked rec w e = if-accepted _ _ _ e

-- ---- a commit, once asking is accepted: 24, then 23
module _ (rec : Record) (p : ℕ) (w : List ℕ) where
  abbrev pub claims : List Reason
  claims = not_asked p (ask_answer rec w).place ∷ full rec ∷ []

  pub commit-past : NoneApplies (ask_reasons rec w) → first_reason (commit_reasons rec p w) ≡ first_reason claims
  commit-past h = first_past (ask_reasons rec w) claims h

  pub commit-accepted : (commit_answer rec p w).refusal ≡ 0
      → Usable rec × Word (places_in rec) w × (rec.words ≢ full_count) × (FallsOut rec w → ⊥) × (p ≡ (ask_answer rec w).place)
  unfolding commit_answer
  commit-accepted e =
      let h = accepted-none (commit_reasons rec p w) refl e in (
        true-usable rec h.1.0 h.1.1.0,
        word-by (places_in rec) w h.1.1.1.0 h.1.1.1.1.0,
        eqb-false rec.words full_count h.1.1.1.1.1.1.1.0,
        left_false rec.s (corrected_old_place_in rec w) h.1.1.1.1.1.0,
        eqb-true p (ask_answer rec w).place (not-false (eqb p (ask_answer rec w).place) h.1.1.1.1.1.1.0),
      )

  pub commit-untouched : (commit_answer rec p w).refusal ≢ 0 → (commit_output rec p w ≡ w) × ((commit_answer rec p w).«record» ≡ rec)
  unfolding commit_answer commit_output
  commit-untouched h = (if-refused _ _ _ h, if-refused _ _ _ h)

  -- an accepted one tells the claimed place, counts it and flips it
  pub commit-does : (commit_answer rec p w).refusal ≡ 0
      → ((commit_answer rec p w).place ≡ p) × ((commit_answer rec p w).«record» ≡ counted rec p) × (commit_output rec p w ≡ flip p w)
  unfolding commit_answer commit_output
  commit-does e = (if-accepted _ _ _ e, if-accepted _ _ _ e, if-accepted _ _ _ e)

  module _ (f : Usable rec) (h : Word (places_in rec) w) (q : FallsOut rec w → ⊥) where
    past : first_reason (commit_reasons rec p w) ≡ first_reason claims
    past = commit-past (ask-none rec w f h q)

    pub commit-accepts : p ≡ (ask_answer rec w).place → rec.words ≢ full_count → (commit_answer rec p w).refusal ≡ 0
    unfolding commit_answer
    commit-accepts e n =
        ap (λ (x : Reason). x.number)
        (past ∙ none_first claims (ap not (eq-eqb p (ask_answer rec w).place e), (ne_eqb rec.words full_count n, tt)))

    pub commit-other : p ≢ (ask_answer rec w).place → commit_answer rec p w ≡ record { refusal = 24; place = 0; «record» = rec }
    unfolding commit_answer
    commit-other n = rw (past ∙ first-yes (not_asked p (ask_answer rec w).place) (full rec ∷ []) (ap not (ne_eqb p (ask_answer rec w).place n)))

-- ---- asking, by what reading the word answered
module _ (rec : Record) (w : List ℕ) (a : Answer) (e : a ≡ answer_of (first_reason (word_reasons rec w))) where
  number_by : a.refusal ≡ (first_reason (word_reasons rec w)).number
  number_by = ap (λ (x : Answer). x.refusal) e

  module _ (h : a.refusal ≡ 0) (q : ℕ) (g : q ≡ shortened_fault_for rec.t rec.r rec.s w) where
    none : NoneApplies (word_reasons rec w)
    none = accepted-none (word_reasons rec w) refl (sym number_by ∙ h)

    whole : q ≡ corrected_old_place_in rec w
    whole = g ∙ plain-fault rec w (true-usable rec none.1.0 none.1.1.0) (word-by (places_in rec) w none.1.1.1.0 none.1.1.1.1.0)

    last : first_reason (ask_reasons rec w) ≡ first_reason (left_reason rec w ∷ [])
    last = first_past (word_reasons rec w) (left_reason rec w ∷ []) none

    ask-stopped : is_left_out rec.s q ≡ true → record { refusal = 11; place = 0 } ≡ ask_answer rec w
    unfolding ask_answer
    ask-stopped y = rw (last, first-yes (left_reason rec w) [] (ap (is_left_out rec.s) (sym whole) ∙ y))

    ask-kept : is_left_out rec.s q ≡ false → record { refusal = 0; place = q - rec.s } ≡ ask_answer rec w
    unfolding ask_answer
    ask-kept y = rw (last, first-no (left_reason rec w) [] (ap (is_left_out rec.s) (sym whole) ∙ y), first-end, place_of rec w q whole refl)

    pub ask-told : (x : Answer) → x ≡ pick (is_left_out rec.s q) (record { refusal = 11; place = 0 }) (record { refusal = 0; place = q - rec.s }) → x ≡ ask_answer rec w
    ask-told x i = i ∙ by-pick (is_left_out rec.s q) ask-stopped ask-kept

-- ---- a commit, by what asking answered
module _ (rec : Record) (p : ℕ) (w : List ℕ) (a : Answer) (e : a ≡ ask_answer rec w) where
  asked-number : a.refusal ≡ (first_reason (ask_reasons rec w)).number
  unfolding ask_answer
  asked-number = ap (λ (x : Answer). x.refusal) e

  asked-place : (first_reason (ask_reasons rec w)).number ≢ 0 → a.place ≡ (first_reason (ask_reasons rec w)).place
  unfolding ask_answer
  asked-place k = ap (λ (x : Answer). x.place) e ∙ if-refused _ _ _ k

  pub commit-refused : a.refusal ≢ 0
      → (record { refusal = a.refusal; place = a.place; «record» = rec } ≡ commit_answer rec p w) × (w ≡ commit_output rec p w)
  unfolding commit_answer commit_output
  commit-refused h =
      let k : (first_reason (ask_reasons rec w)).number ≢ 0 = λ z. h (asked-number ∙ z) in
      let f = first-before (ask_reasons rec w) (claims rec p w) k in (
        rw (f, if-refused _ _ _ k, if-refused _ _ _ k, asked-number, asked-place k),
        rw f (sym (if-refused _ _ _ k)),
      )

  module _ (h : a.refusal ≡ 0) (x : Answer) (i : x ≡ answer_of (first_reason (not_asked p a.place ∷ full rec ∷ []))) where
    after : first_reason (commit_reasons rec p w) ≡ first_reason (claims rec p w)
    after = commit-past rec p w (accepted-none (ask_reasons rec w) refl (sym asked-number ∙ h))

    by-claims : x ≡ answer_of (first_reason (claims rec p w))
    by-claims = i ∙ ap (λ (b : Answer). answer_of (first_reason (not_asked p b.place ∷ full rec ∷ []))) e

    claims-number : x.refusal ≡ (first_reason (claims rec p w)).number
    claims-number = ap (λ (y : Answer). y.refusal) by-claims

    pub commit-stopped : x.refusal ≢ 0
        → (record { refusal = x.refusal; place = x.place; «record» = rec } ≡ commit_answer rec p w) × (w ≡ commit_output rec p w)
    unfolding commit_answer commit_output
    commit-stopped n =
        let k : (first_reason (claims rec p w)).number ≢ 0 = λ z. n (claims-number ∙ z) in (
          rw (after, if-refused _ _ _ k, if-refused _ _ _ k, by-claims),
          rw after (sym (if-refused _ _ _ k)),
        )

    module _ (n : x.refusal ≡ 0) where
      z : (first_reason (commit_reasons rec p w)).number ≡ 0
      z = ap (λ (y : Reason). y.number) after ∙ sym claims-number ∙ n

      -- it is counted, and its word flipped
      pub commit-changed : (record { refusal = 0; place = p; «record» = counted rec p } ≡ commit_answer rec p w) × (flip p w ≡ commit_output rec p w)
      unfolding commit_answer commit_output
      commit-changed = (rw z, rw z)

-- what an accepted commit knows before it counts
pub commit-counts : (rec : Record) (p : ℕ) (w : List ℕ) → (commit_answer rec p w).refusal ≡ 0 → Usable rec × (rec.words ≢ full_count)
commit-counts rec p w e = let c = commit-accepted rec p w e in (c.0, c.2)
