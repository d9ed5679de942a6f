-- What asking tells and committing does (request C-20), in demand 2's words: `asks`, `commits`; and that an accepted correction or commit adds one:
-- `adds_one`. The statements are in specs/Demand2. Assumes nothing.
use mathlib.Core.Path.{◌≡◌, sym, ap, ap₂, subst, ◌∙◌}
use mathlib.Core.Logic.{◌≢◌, ◌↔◌}
use mathlib.Core.List.{List, [], ◌∷◌}
use Prim.Native.Nat.{ℕ, ◌-◌, ◌≤◌}
use native.Mathlib.Omega.{arith}
use Rattle.layout_theory.specs.Parameters.{places_of, moduli_for}
use Rattle.words_theory.specs.Words.{flip}
use Rattle.shortened_theory.specs.Code.{corrected_old_place, shortened_corrected_place}
use Rattle.coder_theory.specs.State.{Usable, RecordOf, places_in, corrected_place_in, corrected_old_place_in, is_binary_in, is_paired_in, counted}
use Rattle.coder_theory.specs.Reasons.{Reason, first_reason, wrong_length, bad_byte, left_out}
use Rattle.coder_theory.specs.Calls.{if_accepted, ask_answer, commit_answer, commit_output}
use Rattle.coder_theory.specs.Demand1.{CodewordIn, word_places, IsWord}
use Rattle.coder_theory.specs.Demand2.{AddsOne, Asks, Commits}
use Rattle.coder_theory.specs.declared.Record.{Record}
use Rattle.coder_theory.specs.declared.Answer.{Answer}
use Rattle.coder_theory.specs.declared.Corrected.{Corrected}
use Rattle.coder_theory.proofs.States.{state-past, usable-true, usable-of}
use Rattle.coder_theory.proofs.Asking.{ask-accepts, ask-accepted, commit-accepted, commit-does, commit-other}
use Rattle.coder_theory.proofs.Accepts.{asks-only, asks-flipped}
use Rattle.coder_theory.proofs.Codewords.{word_of}
use Rattle.coder_theory.proofs.Counting.{Step, commit-step, one_of}

pub adds_one : (rec : Record) (w : List ℕ) (x : Corrected) → Step rec w x → AddsOne rec x
unfolding counted is_binary_in is_paired_in
adds_one rec w x c = record { adds = c.counts; one = one_of rec w x c }

-- ---- asking: what it answers is by t, r and s alone
abbrev asks_for : ℕ → ℕ → ℕ → List ℕ → Answer
asks_for t r s w =
    let x = first_reason (wrong_length (places_of t - s) w ∷ bad_byte w ∷ left_out s (corrected_old_place (moduli_for t r) s w) ∷ []) in
    record { refusal = x.number; place = if_accepted x.number (shortened_corrected_place (moduli_for t r) s w) x.place }

by_code : (rec : Record) (w : List ℕ) → Usable rec → ask_answer rec w ≡ asks_for rec.t rec.r rec.s w
unfolding ask_answer places_in corrected_place_in corrected_old_place_in
by_code rec w f =
    ap (λ (x : Reason). record { refusal = x.number; place = if_accepted x.number (corrected_place_in rec w) x.place })
    (state-past rec (wrong_length (places_in rec) w ∷ bad_byte w ∷ left_out rec.s (corrected_old_place_in rec w) ∷ []) (usable-true rec f))

-- the place that it tells
some : (rec : Record) → Usable rec → (w : List ℕ) → IsWord rec w → (p : ℕ) → (ask_answer rec w ≡ record { refusal = 0; place = p }) ↔ ((p ≤ word_places rec) × CodewordIn rec (flip p w))
unfolding places_in
some rec f w h p = (
  (λ e.
      let a = ask-accepted rec w (ap (λ (x : Answer). x.refusal) e) in
      let b = asks-flipped rec w f h a.2 in
      let z : (ask_answer rec w).place ≡ p = ap (λ (x : Answer). x.place) e in
      subst (λ (q : ℕ). (q ≤ word_places rec) × CodewordIn rec (flip q w)) z b),
  λ a.
      let o = asks-only rec w f h p a.0 a.1 in
      ap₂ {C = Answer} (λ (x q : ℕ). record { refusal = x; place = q }) (ap (λ (x : Answer). x.refusal) (ask-accepts rec w f h o.0)) (sym o.1),
)

module _ (rec : Record) (f : Usable rec) where
  either : (w : List ℕ) (other : Record) → RecordOf rec.t rec.r rec.s other → ask_answer other w ≡ ask_answer rec w
  either w other c =
      by_code other w (usable-of rec.t rec.r rec.s other f.allowed c)
      ∙ rw (c.is_t, c.is_r, c.is_s) (sym (by_code rec w f))

  pub asks : (w : List ℕ) → Asks rec w
  asks w = record { some = some rec f w; either = either w }

  -- ---- a commit: the word is then a codeword
  module _ (p : ℕ) (w : List ℕ) (e : (commit_answer rec p w).refusal ≡ 0) where
    new : CodewordIn rec (commit_output rec p w)
    unfolding places_in
    new =
        let a = commit-accepted rec p w e in
        rw ((commit-does rec p w e).2, a.4) (asks-flipped rec w f a.1 a.3).1

    again : (other : Record) → RecordOf rec.t rec.r rec.s other
        → (ask_answer other (commit_output rec p w) ≡ record { refusal = 0; place = 0 })
        × (p ≢ 0 → commit_answer other p (commit_output rec p w) ≡ record { refusal = 24; place = 0; «record» = other })
    unfolding places_in
    again other c =
        let v = commit_output rec p w in
        let g = usable-of rec.t rec.r rec.s other f.allowed c in
        let d : CodewordIn other v = rw (c.is_t, c.is_r, c.is_s) new in
        let h = word_of other g v d in
        let o = asks-only other v g h 0 (omega arith) d in (
          (some other g v h 0).1 (omega arith, d),
          λ n. commit-other other p v g h o.0 (λ z. n (z ∙ sym o.1)),
        )

  pub commits : (p : ℕ) (w : List ℕ) → Commits rec p w
  commits p w =
      record {
        flips = λ e. (commit-does rec p w e).2;
        place = λ e. (commit-does rec p w e).0;
        counts = adds_one rec w (commit_answer rec p w) (commit-step rec p w);
        again = again p w;
      }
