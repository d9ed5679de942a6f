-- What the calls that write a word answer and leave: encoding, the inverse and combining, by the first reason that applies; what their
-- proofs cite. Assumes nothing.
use mathlib.Core.Path.{◌≡◌, refl, sym, ap, ◌∙◌}
use mathlib.Core.Logic.{◌≢◌}
use mathlib.Core.Bool.{Bool, true, false, not}
use mathlib.Core.List.{List, [], ◌∷◌, ◌++◌}
use Prim.Native.Nat.{ℕ, ◌-◌, ◌≤◌}
use native.Mathlib.Decide.{ℕ_discrete}
use native.Mathlib.Omega.{arith}
use borrow.Author.Tests.{le-leb, ltb-false, eq-eqb, ne_eqb, eqb-true, not-false}
use lib.Dec.{eqb}
use lib.ListN.{length, drop}
use Rattle.layout_theory.specs.Parameters.{places_of, message_of}
use Rattle.words_theory.specs.Calls.{bad_from}
use Rattle.shortened_theory.specs.Calls.{Fits, fits_encoding, encode_bad_for, shortened_encode_for, shortened_combine_for, shortened_invert_for}
use Rattle.shortened_theory.proofs.Guards.{fits_word_lem, fits-message}
use Rattle.coder_theory.specs.State.{Usable, places_in, message_in, encoded_in, combine_in, inverse_in}
use Rattle.coder_theory.specs.Reasons.{Reason, first_reason, wrong_length, short_output, bad_place, bad_byte}
use Rattle.coder_theory.specs.Calls.{answer_of, state_reasons, output_of, encode_reasons, encode_answer, encode_output, invert_reasons, invert_answer, invert_output}
use Rattle.coder_theory.specs.Calls.{combine_reasons, combine_answer, combine_output}
use Rattle.coder_theory.specs.declared.Record.{Record}
use Rattle.coder_theory.specs.declared.Answer.{Answer}
use Rattle.coder_theory.proofs.Firsts.{first-yes, first-no, first-end, first_past, accepted-none}
use Rattle.coder_theory.proofs.States.{true-usable}
use Rattle.coder_theory.proofs.Outcomes.{if-refused, right-length, fitted, write-accepted}

-- ---- what is written, by what the check answered
module _ (rec : Record) (rs : List Reason) (out : List ℕ) (a : Answer) (e : a ≡ answer_of (first_reason rs)) (new : List ℕ) where
  written-by : a.refusal ≡ (first_reason rs).number
  written-by = ap (λ (x : Answer). x.refusal) e

  pub kept : a.refusal ≢ 0 → out ≡ output_of (first_reason rs) rec new out
  kept h = let k : (first_reason rs).number ≢ 0 = λ z. h (written-by ∙ z) in sym (if-refused _ _ _ k)

  -- f is what the function on plain words leaves, once the call is accepted
  pub wrote : (f : List ℕ) → ((first_reason rs).number ≡ 0 → f ≡ new ++ drop (places_in rec) out) → a.refusal ≡ 0 → f ≡ output_of (first_reason rs) rec new out
  wrote f g h = let z = sym written-by ∙ h in rw z (g z)

-- ---- one word
-- a message: its lowest place of a byte above 1, or the codeword
fitted-message : (rec : Record) (m out : List ℕ) → Usable rec → length m ≡ message_in rec → places_in rec ≤ length out → fits_encoding rec.t rec.r rec.s m out ≡ true
unfolding places_in message_in
fitted-message rec m out f l k =
    let st = f.allowed.stays in
    let g : Fits rec.t rec.r rec.s (message_of rec.t) (length m) =
    record { admitted = f.fit.admitted; allowed = f.allowed; all = omega arith } in
    rw (fits-message rec.t rec.r rec.s (length m) g, le-leb (places_of rec.t - rec.s) (length out) k)

pub plain-bad : (rec : Record) (m out : List ℕ) → Usable rec → length m ≡ message_in rec → places_in rec ≤ length out → encode_bad_for rec.t rec.r rec.s m out ≡ bad_place m
unfolding encode_bad_for
plain-bad rec m out f l k = rw (fitted-message rec m out f l k)

pub plain-encode : (rec : Record) (m out : List ℕ) → Usable rec → length m ≡ message_in rec → places_in rec ≤ length out → bad_place m ≡ 0
    → shortened_encode_for rec.t rec.r rec.s m out ≡ encoded_in rec m ++ drop (places_in rec) out
unfolding shortened_encode_for encoded_in places_in
plain-encode rec m out f l k z = rw (fitted-message rec m out f l k, z)

-- where such a place is told nothing is written
pub bad-kept : (t r s : ℕ) (m out : List ℕ) → encode_bad_for t r s m out ≢ 0 → shortened_encode_for t r s m out ≡ out
unfolding encode_bad_for shortened_encode_for
bad-kept t r s m out h = go (fits_encoding t r s m out) refl
  where
    go : (b : Bool) → fits_encoding t r s m out ≡ b → shortened_encode_for t r s m out ≡ out
    go true e = rw (e, ne_eqb (bad_from 1 m) 0 (λ z. h (rw (e, z) refl)))
    go false e = rw e

pub plain-invert : (rec : Record) (w out : List ℕ) → Usable rec → length w ≡ places_in rec → places_in rec ≤ length out
    → shortened_invert_for rec.t rec.r rec.s w out ≡ inverse_in rec w ++ drop (places_in rec) out
unfolding shortened_invert_for inverse_in places_in
plain-invert rec w out f l k =
    rw (fits_word_lem rec.t rec.r rec.s (length w) (fitted rec (length w) f l), le-leb (places_of rec.t - rec.s) (length out) k)

module _ (rec : Record) (w out : List ℕ) (a : Answer) where
  pub encode-kept : a ≡ encode_answer rec w out → a.refusal ≢ 0 → out ≡ encode_output rec w out
  unfolding encode_answer encode_output
  encode-kept e h = kept rec (encode_reasons rec w (length out)) out a e (encoded_in rec w) h

  pub encode-wrote : a ≡ encode_answer rec w out → a.refusal ≡ 0 → shortened_encode_for rec.t rec.r rec.s w out ≡ encode_output rec w out
  unfolding encode_answer encode_output
  encode-wrote e h =
      wrote rec (encode_reasons rec w (length out)) out a e (encoded_in rec w) (shortened_encode_for rec.t rec.r rec.s w out)
      (λ z.
      let q = write-accepted rec (message_in rec) w (length out) z in
      let b = accepted-none (encode_reasons rec w (length out)) refl z in
      plain-encode rec w out q.0 q.1 q.2 (eqb-true (bad_place w) 0 (not-false (eqb (bad_place w) 0) b.1.1.1.1.1.0))) h

  pub invert-kept : a ≡ invert_answer rec w out → a.refusal ≢ 0 → out ≡ invert_output rec w out
  unfolding invert_answer invert_output
  invert-kept e h = kept rec (invert_reasons rec w (length out)) out a e (inverse_in rec w) h

  pub invert-wrote : a ≡ invert_answer rec w out → a.refusal ≡ 0 → shortened_invert_for rec.t rec.r rec.s w out ≡ invert_output rec w out
  unfolding invert_answer invert_output
  invert-wrote e h =
      wrote rec (invert_reasons rec w (length out)) out a e (inverse_in rec w) (shortened_invert_for rec.t rec.r rec.s w out)
      (λ z. let q = write-accepted rec (places_in rec) w (length out) z in plain-invert rec w out q.0 q.1 q.2) h

-- what the checks before a message's bytes know, where they find nothing
pub message-ready : (rec : Record) (m out : List ℕ) → (first_reason (state_reasons rec ++ (wrong_length (message_in rec) m ∷ short_output (places_in rec) (length out) ∷ []))).number ≡ 0
    → encode_bad_for rec.t rec.r rec.s m out ≡ bad_place m
message-ready rec m out e =
    let h = accepted-none (state_reasons rec ++ (wrong_length (message_in rec) m ∷ short_output (places_in rec) (length out) ∷ [])) refl e in
    plain-bad rec m out (true-usable rec h.1.0 h.1.1.0) (right-length (message_in rec) m h.1.1.1.0) (ltb-false (length out) (places_in rec) h.1.1.1.1.0)

-- the output of a message that they let pass
pub encode-bytes : (rec : Record) (m out : List ℕ) → (first_reason (state_reasons rec ++ (wrong_length (message_in rec) m ∷ short_output (places_in rec) (length out) ∷ []))).number ≡ 0
    → shortened_encode_for rec.t rec.r rec.s m out ≡ encode_output rec m out
unfolding encode_answer
encode-bytes rec m out z = go (ℕ_discrete (bad_place m) 0)
  where
    past : first_reason (encode_reasons rec m (length out)) ≡ first_reason (bad_byte m ∷ [])
    past = first_past (state_reasons rec ++ (wrong_length (message_in rec) m ∷ short_output (places_in rec) (length out) ∷ [])) (bad_byte m ∷ []) (accepted-none _ refl z)

    go : Dec (bad_place m ≡ 0) → shortened_encode_for rec.t rec.r rec.s m out ≡ encode_output rec m out
    go (yes e) =
        encode-wrote rec m out (encode_answer rec m out) refl (ap (λ (x : Reason). x.number) (past ∙ first-no (bad_byte m) [] (ap not (eq-eqb _ 0 e)) ∙ first-end))
    go (no h) =
        let n : (first_reason (encode_reasons rec m (length out))).number ≡ 4 = ap (λ (x : Reason). x.number) (past ∙ first-yes (bad_byte m) [] (ap not (ne_eqb _ 0 h))) in
        bad-kept rec.t rec.r rec.s m out (λ y. h (sym (message-ready rec m out z) ∙ y))
        ∙ encode-kept rec m out (encode_answer rec m out) refl (λ y. let k : 4 ≡ 0 = sym n ∙ y in omega arith)

-- ---- two words
pub combine-accepted : (rec : Record) (x y out : List ℕ) → (first_reason (combine_reasons rec x y (length out))).number ≡ 0
    → Usable rec × (length x ≡ places_in rec) × (length y ≡ places_in rec) × (places_in rec ≤ length out)
combine-accepted rec x y out e =
    let h = accepted-none (combine_reasons rec x y (length out)) refl e in (
      true-usable rec h.1.0 h.1.1.0,
      right-length (places_in rec) x h.1.1.1.0,
      right-length (places_in rec) y h.1.1.1.1.0,
      ltb-false (length out) (places_in rec) h.1.1.1.1.1.0,
    )

pub plain-combine : (rec : Record) (x y out : List ℕ) → Usable rec → length x ≡ places_in rec → length y ≡ places_in rec → places_in rec ≤ length out
    → shortened_combine_for rec.t rec.r rec.s x y out ≡ combine_in rec x y ++ drop (places_in rec) out
unfolding shortened_combine_for combine_in places_in
plain-combine rec x y out f k l m =
    rw (
      fits_word_lem rec.t rec.r rec.s (length x) (fitted rec (length x) f k),
      fits_word_lem rec.t rec.r rec.s (length y) (fitted rec (length y) f l),
      le-leb (places_of rec.t - rec.s) (length out) m,
    )

module _ (rec : Record) (x y out : List ℕ) (a : Answer) where
  pub combine-kept : a ≡ combine_answer rec x y out → a.refusal ≢ 0 → out ≡ combine_output rec x y out
  unfolding combine_answer combine_output
  combine-kept e h = kept rec (combine_reasons rec x y (length out)) out a e (combine_in rec x y) h

  pub combine-wrote : a ≡ combine_answer rec x y out → a.refusal ≡ 0 → shortened_combine_for rec.t rec.r rec.s x y out ≡ combine_output rec x y out
  unfolding combine_answer combine_output
  combine-wrote e h =
      wrote rec (combine_reasons rec x y (length out)) out a e (combine_in rec x y) (shortened_combine_for rec.t rec.r rec.s x y out)
      (λ z. let q = combine-accepted rec x y out z in plain-combine rec x y out q.0 q.1 q.2 q.3) h
