-- What each reason says; that a refused call leaves its output alone; and that every admitted pair opens and every place of its layout is told.
-- Assumes nothing.
use mathlib.Core.Path.{◌≡◌, refl, sym, ap, subst, ◌∙◌}
use mathlib.Core.Logic.{◌⊎◌, inl, inr, ⊎_elim, ◌≢◌, ◌↔◌}
use mathlib.Core.List.{List}
use mathlib.Core.Bool.{Bool, true, false, ◌||◌, not, false≢true}
use Prim.Native.Nat.{ℕ, zero, suc, ◌+◌, ◌≤◌, ◌<◌}
use native.Mathlib.Omega.{arith}
use lib.Dec.{eqb, ltb}
use lib.ListN.{length}
use borrow.Author.Tests.{eqb-true, eqb-false, ltb-true, eq-eqb, ne_eqb, lt-ltb, not-true}
use Rattle.layout_theory.specs.Parameters.{Admitted, admits}
use Rattle.layout_theory.specs.Calls.{or_hamming}
use Rattle.layout_theory.proofs.Parameters.{admits-admitted, admitted-admits, admitted-given}
use Rattle.words_theory.specs.Words.{Bits}
use Rattle.shortened_theory.specs.Allowed.{Allowed, allows}
use Rattle.shortened_theory.specs.Code.{LeftOut, is_left_out}
use Rattle.shortened_theory.proofs.Between.{allows-allowed, allowed-allows, zero-allowed}
use Rattle.coder_theory.specs.State.{Fit, Usable, fresh, is_unfit, places_in, element_in, full_count}
use Rattle.coder_theory.specs.Reasons.{not_admitted, not_allowed, left_out, wrong_length, short_output, bad_place, bad_byte, outside, equal_places, not_asked, closed, unfit, full}
use Rattle.coder_theory.specs.Calls.{in_force, opened, element_answer}
use Rattle.coder_theory.specs.Calls.{correct_answer, correct_output, combine_answer, combine_output}
use Rattle.coder_theory.specs.Calls.{encode_answer, encode_output, invert_answer, invert_output}
use Rattle.coder_theory.specs.Demand1.{Unfit}
use Rattle.coder_theory.specs.declared.Record.{Record}
use Rattle.coder_theory.specs.declared.Opened.{Opened}
use Rattle.coder_theory.proofs.States.{or-either, or_left, or_right, usable-true}
use Rattle.coder_theory.proofs.Corrections.{left_false, left-true}
use Rattle.words_theory.proofs.Bad.{bits_none, none-bits}
use Rattle.coder_theory.proofs.Outcomes.{if-refused}
use Rattle.coder_theory.proofs.Outputs.{encode-kept, combine-kept, invert-kept}
use Rattle.coder_theory.proofs.Answers.{opened-yes, opened-not-allowed, opened-no, element-inside, outside-yes}

-- "every buffer untouched"
pub encode-untouched : (rec : Record) (m out : List ℕ) → (encode_answer rec m out).refusal ≢ 0 → encode_output rec m out ≡ out
encode-untouched rec m out h = sym (encode-kept rec m out (encode_answer rec m out) refl h)

pub combine-untouched : (rec : Record) (x y out : List ℕ) → (combine_answer rec x y out).refusal ≢ 0 → combine_output rec x y out ≡ out
combine-untouched rec x y out h = sym (combine-kept rec x y out (combine_answer rec x y out) refl h)

-- and "the record as handed in"
pub correct-untouched : (rec : Record) (w out : List ℕ) → (correct_answer rec w out).refusal ≢ 0
    → (correct_output rec w out ≡ out) × ((correct_answer rec w out).«record» ≡ rec)
unfolding correct_answer correct_output
correct-untouched rec w out h = (if-refused _ _ _ h, if-refused _ _ _ h)

pub invert-untouched : (rec : Record) (w out : List ℕ) → (invert_answer rec w out).refusal ≢ 0 → invert_output rec w out ≡ out
invert-untouched rec w out h = sym (invert-kept rec w out (invert_answer rec w out) refl h)

-- ---- tests and what they say
pub by-test : {why : Type 0} (b : Bool) → (b ≡ true → why) → (b ≡ false → why → ⊥) → (b ≡ true) ↔ why
by-test true so never = ((λ e. so refl), λ h. refl)
by-test false so never = ((λ e. absurd (false≢true e)), λ h. absurd (never refl h))

not_test : {why : Type 0} (b : Bool) → (b ≡ true) ↔ why → (not b ≡ true) ↔ (why → ⊥)
not_test true same = ((λ e. absurd (false≢true e)), λ n. absurd (n (same.0 refl)))
not_test false same = ((λ e h. false≢true (same.1 h)), λ n. refl)

-- ---- the reasons in document 01's words
-- 1: t and r are not admitted
pub one-applies : (t r : ℕ) → ((not_admitted t r).applies ≡ true) ↔ (Admitted t r → ⊥)
one-applies t r = not_test (admits t r) (admits-admitted t r, admitted-admits t r)

-- 21: t is 0
pub closed-applies : (rec : Record) → ((closed rec).applies ≡ true) ↔ (rec.t ≡ 0)
closed-applies rec = ((λ e. eqb-true rec.t 0 e), (λ e. eq-eqb rec.t 0 e))

-- 22: the parameters are not admitted, r is 0, or words is not the sum of the other counts
module _ (rec : Record) where
  abbrev sums : ℕ
  sums = rec.clean + rec.corrected_binary + rec.corrected_pairs

  abbrev bad : Bool
  bad = not (admits rec.t rec.r)

  abbrev none : Bool
  none = eqb rec.r 0

  abbrev other : Bool
  other = not (eqb rec.words sums)

  unequal : (other ≡ true) ↔ (rec.words ≢ sums)
  unequal = not_test (eqb rec.words sums) (eqb-true rec.words sums, eq-eqb rec.words sums)

  unfit-true : (bad ≡ true) ⊎ ((none || other) ≡ true) → Unfit rec
  unfit-true (inl e) = inl ((one-applies rec.t rec.r).0 e)
  unfit-true (inr e) = inr (⊎_elim (λ y. inl (eqb-true rec.r 0 y)) (λ y. inr (unequal.0 y)) (or-either none other e))

  true-unfit : Unfit rec → (bad || (none || other)) ≡ true
  true-unfit (inl n) = or_left bad (none || other) ((one-applies rec.t rec.r).1 n)
  true-unfit (inr (inl z)) = or_right bad (none || other) (or_left none other (eq-eqb rec.r 0 z))
  true-unfit (inr (inr n)) = or_right bad (none || other) (or_right none other (unequal.1 n))

  pub unfit-applies : ((unfit rec).applies ≡ true) ↔ Unfit rec
  unfolding is_unfit
  unfit-applies = ((λ e. unfit-true (or-either bad (none || other) e)), true-unfit)

-- 10: s is not allowed
pub allowed-applies : (t r s : ℕ) → ((not_allowed t r s).applies ≡ true) ↔ (Allowed t r s → ⊥)
allowed-applies t r s = not_test (allows t r s) (allows-allowed t r s, allowed-allows t r s)

-- 11: the place is one of the first s
pub left-applies : (s q : ℕ) → ((left_out s q).applies ≡ true) ↔ LeftOut s q
left-applies s q = by-test (is_left_out s q) (left-true s q) (left_false s q)

-- 5: the place is 0 or beyond n
pub outside-applies : (rec : Record) (p : ℕ) → ((outside rec p).applies ≡ true) ↔ ((p ≡ 0) ⊎ (places_in rec < p))
outside-applies rec p = (to, outside-yes rec p)
  where
    to : (eqb p 0 || ltb (places_in rec) p) ≡ true → (p ≡ 0) ⊎ (places_in rec < p)
    to e = ⊎_elim (λ y. inl (eqb-true p 0 y)) (λ y. inr (ltb-true (places_in rec) p y)) (or-either (eqb p 0) (ltb (places_in rec) p) e)

-- 2: the length is another
pub length-applies : (n : ℕ) (w : List ℕ) → ((wrong_length n w).applies ≡ true) ↔ (length w ≢ n)
length-applies n w = not_test (eqb (length w) n) (eqb-true (length w) n, eq-eqb (length w) n)

-- 3: the output is shorter than needed
pub output-applies : (n room : ℕ) → ((short_output n room).applies ≡ true) ↔ (room < n)
output-applies n room = ((λ e. ltb-true room n e), (λ l. lt-ltb room n l))

-- 23: words is at 4,294,967,295
pub full-applies : (rec : Record) → ((full rec).applies ≡ true) ↔ (rec.words ≡ full_count)
full-applies rec = ((λ e. eqb-true rec.words full_count e), (λ e. eq-eqb rec.words full_count e))

-- 4: the bytes are not all bits
pub byte-applies : (w : List ℕ) → ((bad_byte w).applies ≡ true) ↔ (Bits w → ⊥)
byte-applies w = (
  (λ e h. eqb-false (bad_place w) 0 (not-true (eqb (bad_place w) 0) e) (bits_none 1 w h)),
  (λ h. ap not (ne_eqb (bad_place w) 0 (λ z. h (none-bits 0 w z)))),
)

-- 6: the places are equal
pub equal-applies : (i j : ℕ) → ((equal_places i j).applies ≡ true) ↔ (i ≡ j)
equal-applies i j = ((λ e. eqb-true i j e), (λ e. eq-eqb i j e))

-- 24: the place is another
pub asked-applies : (p q : ℕ) → ((not_asked p q).applies ≡ true) ↔ (p ≢ q)
asked-applies p q = not_test (eqb p q) (eqb-true p q, eq-eqb p q)

-- ---- none of this is empty: every admitted pair opens with every allowed s, and the record is usable
pub in-force : (t r : ℕ) → r ≢ 0 → in_force t r ≡ r
in-force t zero h = absurd (h refl)
in-force t (suc r) h = refl

pub opens : (t r s : ℕ) → Admitted t r → Allowed t r s → opened t r s ≡ record { refusal = 0; «record» = fresh t r s }
opens t r s h k =
    let e = in-force t r (admitted-given t r h) in
    opened-yes t r s (ap (admits t) e ∙ admitted-admits t r h) (ap (λ (j : ℕ). allows t j s) e ∙ allowed-allows t r s k)
    ∙ ap {B = Opened} (λ (k : ℕ). record { refusal = 0; «record» = fresh t k s }) e

-- with s = 0 every admitted pair does
pub opens-whole : (t r : ℕ) → Admitted t r → opened t r 0 ≡ record { refusal = 0; «record» = fresh t r 0 }
opens-whole t r h = opens t r 0 h (zero-allowed t r h)

-- where 0 was turned into r = t, opening has no default to take: r is 0 only where t is, and half of that is 0 too
pub turned : (t r : ℕ) → in_force t (or_hamming t r) ≡ or_hamming t r
turned zero zero = refl
turned (suc t) zero = refl
turned t (suc r) = refl

-- so it is refused where t and that r are not admitted
pub turned-refused : (t r s : ℕ) → admits t (or_hamming t r) ≡ false → opened t (or_hamming t r) s ≡ record { refusal = 1; «record» = fresh 0 0 0 }
turned-refused t r s h = opened-no t (or_hamming t r) s (ap (admits t) (turned t r) ∙ h)

-- a refused opening gives the closed record with every field 0
pub opens_not : (t r s : ℕ) → (opened t r s).refusal ≢ 0 → (opened t r s).«record» ≡ fresh 0 0 0
opens_not t r s h = go (admits t (in_force t r)) refl (allows t (in_force t r) s) refl
  where
    field : {x : ℕ} → opened t r s ≡ record { refusal = x; «record» = fresh 0 0 0 } → (opened t r s).«record» ≡ fresh 0 0 0
    field e = ap (λ (o : Opened). o.«record») e

    go : (a : Bool) → admits t (in_force t r) ≡ a → (b : Bool) → allows t (in_force t r) s ≡ b → (opened t r s).«record» ≡ fresh 0 0 0
    go true y true z = absurd (h (ap (λ (o : Opened). o.refusal) (opened-yes t r s y z)))
    go true y false z = field (opened-not-allowed t r s y z)
    go false y b z = field (opened-no t r s y)

pub fresh-fit : (t r s : ℕ) → Admitted t r → Fit (fresh t r s)
fresh-fit t r s h = record { admitted = h; sums = refl }

-- an accepted one gives a record of the code asked for, with every count at 0
pub opened-admits : (t r s : ℕ) → (opened t r s).refusal ≡ 0 → (admits t (in_force t r) ≡ true) × (allows t (in_force t r) s ≡ true)
opened-admits t r s h = go (admits t (in_force t r)) refl (allows t (in_force t r) s) refl
  where
    never : {x : ℕ} → opened t r s ≡ record { refusal = x; «record» = fresh 0 0 0 } → x ≢ 0 → ⊥
    never e n = n (sym (ap (λ (o : Opened). o.refusal) e) ∙ h)

    go : (a : Bool) → admits t (in_force t r) ≡ a → (b : Bool) → allows t (in_force t r) s ≡ b → (admits t (in_force t r) ≡ true) × (allows t (in_force t r) s ≡ true)
    go true y true z = (y, z)
    go true y false z = absurd (never (opened-not-allowed t r s y z) (λ z. omega arith))
    go false y b z = absurd (never (opened-no t r s y) (λ z. omega arith))

pub opened-fresh : (t r s : ℕ) → (opened t r s).refusal ≡ 0 → (opened t r s).«record» ≡ fresh t (in_force t r) s
opened-fresh t r s h = let k = opened-admits t r s h in ap (λ (o : Opened). o.«record») (opened-yes t r s k.0 k.1)

pub opened-usable : (t r s : ℕ) → (opened t r s).refusal ≡ 0 → Usable (opened t r s).«record»
opened-usable t r s h =
    let k = opened-admits t r s h in
    let f = fresh-fit t (in_force t r) s (admits-admitted t (in_force t r) k.0) in
    subst Usable (sym (opened-fresh t r s h)) (record { fit = f; allowed = allows-allowed t (in_force t r) s k.1 })

-- every place of a fit record is told
pub tells : (rec : Record) (p : ℕ) → Usable rec → 0 < p → p ≤ places_in rec
    → element_answer rec p ≡ record { refusal = 0; place = 0; element = element_in rec p }
tells rec p h l k = element-inside rec (usable-true rec h) p (λ z. omega arith) k
