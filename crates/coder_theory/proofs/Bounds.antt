-- Bounds on the lengths, on the numbers of elements, on the refusals and on the places that are told, for callers that add them up or tell them
-- as signed numbers.
-- Assumes nothing.
use mathlib.Core.Path.{◌≡◌, refl, sym, ap, ◌∙◌}
use mathlib.Core.Bool.{Bool, true, false, ◌&&◌, not}
use mathlib.Core.List.{List, [], ◌∷◌}
use Prim.Native.Nat.{ℕ, ◌+◌, ◌^◌, ◌≤◌, ◌<◌}
use native.Mathlib.Decide.{ℕ_discrete}
use native.Mathlib.Omega.{arith}
use lib.Dec.{ltb}
use lib.Pow.{pow_mono}
use lib.ListN.{length}
use borrow.Author.Tests.{ltb-true, eqb-false}
use Rattle.group_theory.proofs.Numbers.{number_lt}
use Rattle.layout_theory.specs.Parameters.{longest}
use Rattle.layout_theory.proofs.Parameters.{size_for}
use Rattle.words_theory.specs.Syndrome.{length_of}
use Rattle.words_theory.proofs.Theorem.{length-code}
use Rattle.shortened_theory.specs.Code.{shortened_element_at}
use Rattle.coder_theory.specs.State.{Usable, is_closed, is_unfit, is_not_allowed, is_usable, places_in, moduli_in, element_in, corrected_place_in}
use Rattle.coder_theory.specs.Reasons.{Reason, first_reason}
use Rattle.coder_theory.specs.Calls.{word_length, layout_reasons, element_answer, opened, open_reasons, encode_reasons, encode_answer, correct_reasons, correct_answer}
use Rattle.coder_theory.specs.Calls.{combine_reasons, combine_answer, third_reasons, third_answer}
use Rattle.coder_theory.specs.declared.Record.{Record}
use Rattle.coder_theory.proofs.Firsts.{first-yes, first-no, first-end, accepted-none}
use Rattle.coder_theory.proofs.Answers.{element-refusal, element-told}
use Rattle.coder_theory.proofs.States.{true-usable}
use Rattle.coder_theory.proofs.Refusals.{tells}
use Rattle.coder_theory.proofs.Outcomes.{inside-by}
use Rattle.coder_theory.proofs.Corrections.{correct-accepted, nearest_in}
use Rattle.coder_theory.proofs.Triples.{thirds}

-- ---- lengths
pub places-bound : (rec : Record) → Usable rec → places_in rec < 2 ^ longest
unfolding places_in
places-bound rec f =
    let q : 2 ^ rec.t ≤ 2 ^ longest = pow_mono {i = rec.t} {j = longest} f.fit.admitted.most in
    omega arith

-- so its number before renumbering is small too
pub old-bound : (rec : Record) (p : ℕ) → Usable rec → p ≤ places_in rec → p + rec.s < 2 ^ longest
unfolding places_in
old-bound rec p f h =
    let q : 2 ^ rec.t ≤ 2 ^ longest = pow_mono {i = rec.t} {j = longest} f.fit.admitted.most in
    let st = f.allowed.stays in
    omega arith

pub word-length-bound : (rec : Record) → word_length rec < 2 ^ longest
unfolding word_length
word-length-bound rec = go (is_usable rec) refl
  where
    both_false : (a b d : Bool) → (not a && (not b && not d)) ≡ true → (b ≡ false) × (d ≡ false)
    both_false false false false e = (refl, refl)
    both_false false false true e = absurd (mathlib.Core.Bool.false≢true e)
    both_false false true d e = absurd (mathlib.Core.Bool.false≢true e)
    both_false true b d e = absurd (mathlib.Core.Bool.false≢true e)

    go : (b : Bool) → is_usable rec ≡ b → elim b as (λ _. ℕ) [ true ↦ places_in rec | false ↦ 0 ] < 2 ^ longest
    go true e = let k = both_false (is_closed rec) (is_unfit rec) (is_not_allowed rec) e in places-bound rec (true-usable rec k.0 k.1)
    go false e = omega arith

-- ---- the numbers of elements that a layout call tells, 0 where it is refused
pub element-bound : (rec : Record) (p : ℕ) → (element_answer rec p).element < 2 ^ longest
unfolding element_in
element-bound rec p = go (ℕ_discrete (element_answer rec p).refusal 0)
  where
    go : Dec ((element_answer rec p).refusal ≡ 0) → (element_answer rec p).element < 2 ^ longest
    go (no n) = rw ((element-told rec p).1 n) (omega arith)
    go (yes e) =
        let h = accepted-none (layout_reasons rec p) refl (sym (element-refusal rec p) ∙ e) in
        let f = true-usable rec h.1.0 h.1.1.0 in
        let a = inside-by rec p h.1.1.1.0 in
        let q : 2 ^ rec.t ≤ 2 ^ longest = pow_mono {i = rec.t} {j = longest} f.fit.admitted.most in
        let s = size_for rec.t rec.r f.fit.admitted in
        let n = number_lt (moduli_in rec) (shortened_element_at (moduli_in rec) rec.s p) in
        rw (tells rec p f a.0 a.1) (omega arith)

-- ---- refusals
-- whether the numbers of the reasons are below k
abbrev below : ℕ → List Reason → Bool
below k [] = ltb 0 k
below k (x ∷ xs) = ltb x.number k && below k xs

first_below : (k : ℕ) (rs : List Reason) → below k rs ≡ true → (first_reason rs).number < k
first_below k [] e = rw first-end (ltb-true 0 k e)
first_below k (x ∷ xs) e = go (first_below k xs) (ltb x.number k) refl e x.applies refl
  where
    go : (below k xs ≡ true → (first_reason xs).number < k) → (c : Bool) → ltb x.number k ≡ c → (c && below k xs) ≡ true
        → (b : Bool) → x.applies ≡ b → (first_reason (x ∷ xs)).number < k
    go f false l e b y = absurd (mathlib.Core.Bool.false≢true e)
    go f true l e true y = rw (first-yes x xs y) (ltb-true x.number k l)
    go f true l e false y = rw (first-no x xs y) (f e)

-- the greatest number is 23
abbrev pub numbers : ℕ
numbers = 24

pub open-refusal : (t r s : ℕ) → (opened t r s).refusal < numbers
unfolding opened
open-refusal t r s = first_below numbers (open_reasons t r s) refl

pub encode-refusal : (rec : Record) (m out : List ℕ) → (encode_answer rec m out).refusal < numbers
unfolding encode_answer
encode-refusal rec m out = first_below numbers (encode_reasons rec m (length out)) refl

pub correct-refusal : (rec : Record) (w out : List ℕ) → (correct_answer rec w out).refusal < numbers
unfolding correct_answer
correct-refusal rec w out = first_below numbers (correct_reasons rec w (length out)) refl

pub combine-refusal : (rec : Record) (x y out : List ℕ) → (combine_answer rec x y out).refusal < numbers
unfolding combine_answer
combine-refusal rec x y out = first_below numbers (combine_reasons rec x y (length out)) refl

pub third-refusal : (rec : Record) (i j : ℕ) → (third_answer rec i j).refusal < numbers
unfolding third_answer
third-refusal rec i j = first_below numbers (third_reasons rec i j) refl

-- ---- the places that an accepted call tells
length-bound : (rec : Record) → Usable rec → length_of (moduli_in rec) < 2 ^ longest
unfolding places_in
length-bound rec f =
    let q : 2 ^ rec.t ≤ 2 ^ longest = pow_mono {i = rec.t} {j = longest} f.fit.admitted.most in
    let n = length-code rec.t rec.r f.fit.admitted in
    omega arith

pub correct-place : (rec : Record) (w out : List ℕ) → (correct_answer rec w out).refusal ≡ 0 → (correct_answer rec w out).place < 2 ^ longest
unfolding correct_answer corrected_place_in places_in
correct-place rec w out e =
    let a = correct-accepted rec w out e in
    let k = (nearest_in rec w a.0 a.1).within in
    let b = length-bound rec a.0 in
    rw e (omega arith)

pub third-place : (rec : Record) (i j : ℕ) → (third_answer rec i j).refusal ≡ 0 → (third_answer rec i j).place < 2 ^ longest
unfolding third_answer
third-place rec i j e =
    let h = accepted-none (third_reasons rec i j) refl e in
    let f = true-usable rec h.1.0 h.1.1.0 in
    let a = inside-by rec i h.1.1.1.0 in
    let b = inside-by rec j h.1.1.1.1.0 in
    let p = (third_answer rec i j).place in
    let k = (((thirds rec i j f a.0 a.1 b.0 b.1 (eqb-false i j h.1.1.1.1.1.0)).some p).0 (ap (λ (x : ℕ). record { refusal = x; place = p }) e)).most in
    let l = length-bound rec f in
    omega arith
