-- Each call on a record is accepted exactly where plain facts hold: `accepts`. Its statement is in specs/Demand1. Assumes nothing.
use mathlib.Core.Path.{◌≡◌, refl, sym, ap, subst, ◌∙◌}
use mathlib.Core.Logic.{◌≢◌, ◌↔◌}
use mathlib.Core.List.{List}
use Prim.Native.Nat.{ℕ, ◌-◌, ◌≤◌}
use native.Mathlib.Omega.{arith}
use borrow.Author.Tests.{ltb-false, eqb-false}
use lib.ListN.{length}
use Rattle.words_theory.specs.Words.{flip}
use Rattle.words_theory.specs.Syndrome.{length_of}
use Rattle.words_theory.proofs.Theorem.{length-code}
use Rattle.shortened_theory.specs.Code.{shortened_corrected, shortened_corrected_place}
use Rattle.coder_theory.specs.State.{Usable, moduli_in, places_in, message_in, corrected_place_in, corrected_old_place_in, FallsOut, full_count, counted}
use Rattle.coder_theory.specs.Calls.{layout_reasons, word_reasons, syndrome_answer, codeword_answer, encode_reasons, encode_answer, correct_answer, ask_answer, commit_answer}
use Rattle.coder_theory.specs.Calls.{combine_reasons, combine_answer, invert_reasons, invert_answer, third_reasons, third_answer}
use Rattle.coder_theory.specs.Demand2.{Thirds}
use Rattle.coder_theory.specs.Demand3Shortened.{HasNear}
use Rattle.coder_theory.specs.Demand1.{CodewordIn, ThreeIn, word_places, IsPlace, IsWord, HasRoom, AcceptsIn}
use Rattle.coder_theory.specs.declared.Record.{Record}
use Rattle.coder_theory.specs.declared.Answer.{Answer}
use Rattle.coder_theory.specs.declared.ElementAnswer.{ElementAnswer}
use Rattle.coder_theory.specs.declared.TestAnswer.{TestAnswer}
use Rattle.coder_theory.specs.declared.Corrected.{Corrected}
use Rattle.coder_theory.proofs.Firsts.{NoneApplies, accepted-none}
use Rattle.coder_theory.proofs.States.{true-usable}
use Rattle.coder_theory.proofs.Answers.{element-refusal}
use Rattle.coder_theory.proofs.Outcomes.{inside-by, word-by}
use Rattle.coder_theory.proofs.Corrections.{correct-accepted, nearest_in}
use Rattle.coder_theory.proofs.Refusals.{tells}
use Rattle.coder_theory.proofs.Accepted.{syndrome-accepts, codeword-accepts, encode-accepts, correct-accepts, combine-accepts, invert-accepts}
use Rattle.coder_theory.proofs.Asking.{ask-accepts, ask-accepted, commit-accepted, commit-accepts}
use Rattle.coder_theory.proofs.Triples.{thirds}

-- a word that is read, and one that is read to be written
read_by : (rec : Record) (w : List ℕ) → NoneApplies (word_reasons rec w) → Usable rec × IsWord rec w
unfolding places_in
read_by rec w h = (true-usable rec h.1.0 h.1.1.0, word-by (places_in rec) w h.1.1.1.0 h.1.1.1.1.0)

-- ---- a codeword within one place, where the place is not left out
module _ (rec : Record) (w : List ℕ) (f : Usable rec) (h : IsWord rec w) where
  pub has : (FallsOut rec w → ⊥) → HasNear rec.t rec.r rec.s w
  unfolding places_in corrected_old_place_in
  has k =
      let n = nearest_in rec w f h in
      (shortened_corrected (moduli_in rec) rec.s w, record { codeword = n.codeword k; near = n.near k })

  pub kept : HasNear rec.t rec.r rec.s w → FallsOut rec w → ⊥
  unfolding places_in corrected_old_place_in
  kept c x = (nearest_in rec w f h).none x c.0 c.1.codeword c.1.near

correct-where : (rec : Record) (w out : List ℕ) → ((correct_answer rec w out).refusal ≡ 0)
    ↔ (Usable rec × IsWord rec w × HasRoom rec out × HasNear rec.t rec.r rec.s w × (rec.words ≢ full_count))
unfolding places_in correct_answer
correct-where rec w out = (
  (λ e. let a = correct-accepted rec w out e in (a.0, a.1, a.2, has rec w a.0 a.1 a.4, a.3)),
  λ a. ap (λ (x : Corrected). x.refusal) (correct-accepts rec w out a.0 a.4 (kept rec w a.0 a.1 a.3) a.1 a.2).0,
)

ask-where : (rec : Record) (w : List ℕ) → ((ask_answer rec w).refusal ≡ 0) ↔ (Usable rec × IsWord rec w × HasNear rec.t rec.r rec.s w)
unfolding places_in
ask-where rec w = (
  (λ e. let a = ask-accepted rec w e in (a.0, a.1, has rec w a.0 a.1 a.2)),
  λ a. ap (λ (x : Answer). x.refusal) (ask-accepts rec w a.0 a.1 (kept rec w a.0 a.1 a.2)),
)

-- ---- the place that asking gives is the only one, 0 or one of the word's, where the word flipped is a codeword
module _ (rec : Record) (w : List ℕ) (f : Usable rec) (h : IsWord rec w) where
  within : (p : ℕ) → p ≤ word_places rec → p ≤ length_of (moduli_in rec) - rec.s
  within p l = rw (length-code rec.t rec.r f.fit.admitted) l

  pub asks-only : (p : ℕ) → p ≤ word_places rec → CodewordIn rec (flip p w) → (FallsOut rec w → ⊥) × (p ≡ (ask_answer rec w).place)
  unfolding places_in corrected_place_in corrected_old_place_in
  asks-only p l d =
      let n = (nearest_in rec w f h).place p (within p l) d in
      (n.0, n.1 ∙ sym (ap (λ (x : Answer). x.place) (ask-accepts rec w f h n.0)))

  pub asks-flipped : (FallsOut rec w → ⊥) → ((ask_answer rec w).place ≤ word_places rec) × CodewordIn rec (flip (ask_answer rec w).place w)
  unfolding places_in corrected_place_in corrected_old_place_in
  asks-flipped q =
      let n = nearest_in rec w f h in
      rw (ap (λ (x : Answer). x.place) (ask-accepts rec w f h q)) (
        subst (λ (m : ℕ). shortened_corrected_place (moduli_in rec) rec.s w ≤ m - rec.s) (length-code rec.t rec.r f.fit.admitted) n.within,
        subst (CodewordIn rec) (n.flipped q) (n.codeword q),
      )

commit-where : (rec : Record) (p : ℕ) (w : List ℕ) → ((commit_answer rec p w).refusal ≡ 0)
    ↔ (Usable rec × IsWord rec w × (p ≤ word_places rec) × CodewordIn rec (flip p w) × (rec.words ≢ full_count))
unfolding places_in
commit-where rec p w = (
  (λ e.
      let a = commit-accepted rec p w e in
      let b = asks-flipped rec w a.0 a.1 a.3 in
      (a.0, a.1, rw a.4 b.0, rw a.4 b.1, a.2)),
  λ a. let o = asks-only rec w a.0 a.1 p a.2 a.3 in commit-accepts rec p w a.0 a.1 o.0 o.1 a.4,
)

-- "Words at 4,294,967,294 is accepted once more.", and then comes 23
pub once_more : (rec : Record) (w out : List ℕ) → Usable rec → rec.words ≡ 4294967294 → IsWord rec w → HasRoom rec out
    → HasNear rec.t rec.r rec.s w → ((correct_answer rec w out).refusal ≡ 0) × ((correct_answer rec w out).«record».words ≡ 4294967295)
unfolding places_in counted
once_more rec w out f e h l c =
    let a = (correct-accepts rec w out f (λ z. let c : ◌≡◌ {A = ℕ} 4294967294 4294967295 = sym e ∙ z in omega arith) (kept rec w f h c) h l).0 in
    (ap (λ (x : Corrected). x.refusal) a, ap (λ (x : Corrected). x.«record».words) a ∙ omega arith)

-- ---- the third place
module _ (rec : Record) (i j : ℕ) where
  pub three : Usable rec → IsPlace rec i → IsPlace rec j → i ≢ j → Thirds rec i j
  unfolding places_in
  three f a b n = thirds rec i j f a.0 a.1 b.0 b.1 n

  facts : (third_answer rec i j).refusal ≡ 0 → Usable rec × IsPlace rec i × IsPlace rec j × (i ≢ j)
  unfolding places_in third_answer
  facts e =
      let h = accepted-none (third_reasons rec i j) refl e in
      (true-usable rec h.1.0 h.1.1.0, inside-by rec i h.1.1.1.0, inside-by rec j h.1.1.1.1.0, eqb-false i j h.1.1.1.1.1.0)

  third-where : ((third_answer rec i j).refusal ≡ 0) ↔ (Usable rec × IsPlace rec i × IsPlace rec j × (i ≢ j) × ((k : ℕ) × ThreeIn rec i j k))
  third-where = (
    (λ e.
        let a = facts e in
        let p = (third_answer rec i j).place in
        (a.0, a.1, a.2, a.3, (p, ((three a.0 a.1 a.2 a.3).some p).0 (ap (λ (x : ℕ). record { refusal = x; place = p }) e)))),
    λ a. ap (λ (x : Answer). x.refusal) (((three a.0 a.1 a.2 a.3).some a.4.0).1 a.4.1),
  )

pub accepts : (rec : Record) → AcceptsIn rec
unfolding places_in message_in syndrome_answer codeword_answer encode_answer combine_answer invert_answer
accepts rec =
    record {
      layout = λ p. (
        (λ e.
            let h = accepted-none (layout_reasons rec p) refl (sym (element-refusal rec p) ∙ e) in
            (true-usable rec h.1.0 h.1.1.0, inside-by rec p h.1.1.1.0)),
        λ f. ap (λ (x : ElementAnswer). x.refusal) (tells rec p f.0 f.1.0 f.1.1),
      );
      syndrome = λ w. (
        (λ e. read_by rec w (accepted-none (word_reasons rec w) refl e)),
        λ f. ap (λ (x : ElementAnswer). x.refusal) (syndrome-accepts rec w f.0 f.1),
      );
      codeword = λ w. (
        (λ e. read_by rec w (accepted-none (word_reasons rec w) refl e)),
        λ f. ap (λ (x : TestAnswer). x.refusal) (codeword-accepts rec w f.0 f.1),
      );
      encode = λ m out. (
        (λ e.
            let h = accepted-none (encode_reasons rec m (length out)) refl e in (
              true-usable rec h.1.0 h.1.1.0,
              word-by (message_in rec) m h.1.1.1.0 h.1.1.1.1.1.0,
              ltb-false (length out) (places_in rec) h.1.1.1.1.0,
            )),
        λ f. ap (λ (x : Answer). x.refusal) (encode-accepts rec m out f.0 f.1 f.2).0,
      );
      correct = correct-where rec;
      ask = ask-where rec;
      commit = commit-where rec;
      combine = λ x y out. (
        (λ e.
            let h = accepted-none (combine_reasons rec x y (length out)) refl e in (
              true-usable rec h.1.0 h.1.1.0,
              word-by (places_in rec) x h.1.1.1.0 h.1.1.1.1.1.1.0,
              word-by (places_in rec) y h.1.1.1.1.0 h.1.1.1.1.1.1.1.0,
              ltb-false (length out) (places_in rec) h.1.1.1.1.1.0,
            )),
        λ f. ap (λ (x : Answer). x.refusal) (combine-accepts rec x y out f.0 f.1 f.2 f.3).0,
      );
      invert = λ w out. (
        (λ e.
            let h = accepted-none (invert_reasons rec w (length out)) refl e in (
              true-usable rec h.1.0 h.1.1.0,
              word-by (places_in rec) w h.1.1.1.0 h.1.1.1.1.1.0,
              ltb-false (length out) (places_in rec) h.1.1.1.1.0,
            )),
        λ f. ap (λ (x : Answer). x.refusal) (invert-accepts rec w out f.0 f.1 f.2).0,
      );
      third = third-where rec;
    }
