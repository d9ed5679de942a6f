-- What opening, the layout call and the lengths answer, by the reasons that apply: what the proofs of the calls cite. Assumes nothing.
use mathlib.Core.Path.{◌≡◌, refl, sym, ap, ap₂, ◌∙◌}
use mathlib.Core.Logic.{◌⊎◌, inl, inr, ◌≢◌}
use mathlib.Core.List.{List, [], ◌∷◌}
use mathlib.Core.Bool.{Bool, true, false, ◌||◌, not}
use Prim.Native.Nat.{ℕ, zero, suc, ◌+◌, ◌-◌, ◌≤◌, ◌<◌}
use native.Mathlib.Omega.{arith}
use lib.Dec.{eqb, ltb}
use borrow.Author.Tests.{eq-eqb, ne_eqb, lt-ltb, le-ltb}
use Rattle.group_theory.specs.Group.{number}
use Rattle.layout_theory.specs.Parameters.{admits}
use Rattle.layout_theory.specs.Layout.{element_at}
use Rattle.layout_theory.specs.Calls.{shape_for, element_for}
use Rattle.layout_theory.specs.declared.Shape.{Shape}
use Rattle.layout_theory.proofs.Parameters.{Known, known-for, moduli-known, element-for}
use Rattle.shortened_theory.specs.Allowed.{allows}
use Rattle.shortened_theory.specs.Code.{shortened_element_at}
use Rattle.shortened_theory.proofs.Filling.{old-sum}
use Rattle.coder_theory.specs.State.{fresh, is_closed, is_unfit, is_not_allowed, is_usable, moduli_in, places_in, message_in, element_in}
use Rattle.coder_theory.specs.Reasons.{Reason, accepted, first_reason, not_admitted, not_allowed, outside}
use Rattle.coder_theory.specs.Calls.{if_accepted, state_reasons, in_force, open_reasons, opened, layout_reasons, refused_element, element_answer, if_usable}
use Rattle.coder_theory.specs.declared.Record.{Record}
use Rattle.coder_theory.specs.declared.ElementAnswer.{ElementAnswer}
use Rattle.coder_theory.proofs.Firsts.{first-yes, first-no, first-end}
use Rattle.coder_theory.proofs.States.{or_left, or_right, Clear, state-past, true-usable}

abbrev number_of : Reason → ℕ
number_of x = x.number

-- ---- opening
pub opened-yes : (t r s : ℕ) → admits t (in_force t r) ≡ true → allows t (in_force t r) s ≡ true
    → opened t r s ≡ record { refusal = 0; «record» = fresh t (in_force t r) s }
unfolding opened
opened-yes t r s h k =
    let e : first_reason (open_reasons t r s) ≡ accepted =
    first-no (not_admitted t (in_force t r)) (not_allowed t (in_force t r) s ∷ []) (ap not h) ∙ first-no (not_allowed t (in_force t r) s) [] (ap not k) ∙ first-end in
    rw e

pub opened-not-allowed : (t r s : ℕ) → admits t (in_force t r) ≡ true → allows t (in_force t r) s ≡ false
    → opened t r s ≡ record { refusal = 10; «record» = fresh 0 0 0 }
unfolding opened
opened-not-allowed t r s h k =
    let e : first_reason (open_reasons t r s) ≡ not_allowed t (in_force t r) s =
    first-no (not_admitted t (in_force t r)) (not_allowed t (in_force t r) s ∷ []) (ap not h) ∙ first-yes (not_allowed t (in_force t r) s) [] (ap not k) in
    rw e

pub opened-no : (t r s : ℕ) → admits t (in_force t r) ≡ false → opened t r s ≡ record { refusal = 1; «record» = fresh 0 0 0 }
unfolding opened
opened-no t r s h =
    let e : first_reason (open_reasons t r s) ≡ not_admitted t (in_force t r) = first-yes (not_admitted t (in_force t r)) (not_allowed t (in_force t r) s ∷ []) (ap not h) in
    rw e

-- ---- the layout
-- the answer is the refusal's, or the element, by the first reason's number
element-by : (rec : Record) (p : ℕ) (x : Reason) → first_reason (layout_reasons rec p) ≡ x
    → element_answer rec p ≡ if_accepted x.number (record { refusal = 0; place = 0; element = element_in rec p }) (refused_element x.number)
unfolding element_answer
element-by rec p x e = rw e

pub element-refusal : (rec : Record) (p : ℕ) → (element_answer rec p).refusal ≡ (first_reason (layout_reasons rec p)).number
element-refusal rec p = ap (λ (y : ElementAnswer). y.refusal) (element-by rec p x refl) ∙ go x.number
  where
    x : Reason
    x = first_reason (layout_reasons rec p)

    go : (n : ℕ) → (if_accepted n (record { refusal = 0; place = 0; element = element_in rec p }) (refused_element n)).refusal ≡ n
    go zero = refl
    go (suc n) = refl

-- its place, and its element where it is refused, are 0
pub element-told : (rec : Record) (p : ℕ) → ((element_answer rec p).place ≡ 0) × ((element_answer rec p).refusal ≢ 0 → (element_answer rec p).element ≡ 0)
unfolding element_answer
element-told rec p = go (first_reason (layout_reasons rec p)).number
  where
    answer : ℕ → ElementAnswer
    answer n = if_accepted n (record { refusal = 0; place = 0; element = element_in rec p }) (refused_element n)

    go : (n : ℕ) → ((answer n).place ≡ 0) × ((answer n).refusal ≢ 0 → (answer n).element ≡ 0)
    go zero = (refl, λ h. absurd (h refl))
    go (suc n) = (refl, λ h. refl)

-- a place outside 1 to n, as reason 5 tests it
pub outside-yes : (rec : Record) (p : ℕ) → (p ≡ 0) ⊎ (places_in rec < p) → (outside rec p).applies ≡ true
outside-yes rec p (inl z) = or_left (eqb p 0) (ltb (places_in rec) p) (eq-eqb p 0 z)
outside-yes rec p (inr l) = or_right (eqb p 0) (ltb (places_in rec) p) (lt-ltb (places_in rec) p l)

module _ (rec : Record) (f : Clear rec) where
  pub element-outside : (p : ℕ) → (p ≡ 0) ⊎ (places_in rec < p) → element_answer rec p ≡ refused_element 5
  element-outside p h =
      element-by rec p (outside rec p) (state-past rec (outside rec p ∷ []) f ∙ first-yes (outside rec p) [] (outside-yes rec p h))

  pub element-inside : (p : ℕ) → p ≢ 0 → p ≤ places_in rec → element_answer rec p ≡ record { refusal = 0; place = 0; element = element_in rec p }
  element-inside p h l =
      element-by rec p accepted
      (state-past rec (outside rec p ∷ []) f
      ∙ first-no (outside rec p) [] (ap₂ ◌||◌ (ne_eqb p 0 h) (le-ltb (places_in rec) p l))
      ∙ first-end)

-- ---- what the layout crate answers for a usable record is the record's, without the s places that are left out
module _ (rec : Record) (f : Clear rec) (s : Shape) (e : s ≡ shape_for rec.t rec.r) where
  pub shape-known : Known rec.t rec.r s
  shape-known = known-for rec.t rec.r s e (true-usable rec f.1 f.2).fit.admitted

  pub shape-places : s.places - rec.s ≡ places_in rec
  unfolding places_in
  shape-places = ap (λ (n : ℕ). n - rec.s) shape-known.places

  pub shape-message : s.message - rec.s ≡ message_in rec
  unfolding message_in
  shape-message = ap (λ (n : ℕ). n - rec.s) shape-known.message

  -- and s is less than both
  pub shape-still : (rec.s ≤ s.places) × (rec.s ≤ s.message)
  shape-still =
      let st = (true-usable rec f.1 f.2).allowed.stays in
      let k = shape-known in
      (omega (arith, k.places), omega (arith, k.message))

  pub shape-element : (p : ℕ) (x : List ℕ) → p ≢ 0 → x ≡ element_for rec.t rec.r (p + rec.s) → number (Rattle.group_theory.specs.Group.moduli s.a s.b) x ≡ element_in rec p
  unfolding element_in shortened_element_at
  shape-element p x n h =
      ap₂ number (moduli-known rec.t rec.r s shape-known)
      (h ∙ element-for rec.t rec.r (p + rec.s) shape-known.admitted ∙ ap (element_at (moduli_in rec)) (sym (old-sum rec.s p n)))

-- ---- lengths
if-usable : (rec : Record) (n : ℕ) (b : Bool) → is_usable rec ≡ b → if_usable rec n ≡ elim b as (λ _. ℕ) [ true ↦ n | false ↦ 0 ]
if-usable rec n b e = ap (λ (b : Bool). elim b as (λ _. ℕ) [ true ↦ n | false ↦ 0 ]) e

pub usable-length : (rec : Record) (n : ℕ) → Clear rec → if_usable rec n ≡ n
usable-length rec n f = if-usable rec n true (rw (f.0, f.1, f.2))

pub unusable-length : (rec : Record) (n k : ℕ) → k ≡ (first_reason (state_reasons rec)).number → k ≢ 0 → if_usable rec n ≡ 0
unusable-length rec n k e h = go (is_closed rec) refl (is_unfit rec) refl (is_not_allowed rec) refl
  where
    go : (a : Bool) → is_closed rec ≡ a → (b : Bool) → is_unfit rec ≡ b → (d : Bool) → is_not_allowed rec ≡ d → if_usable rec n ≡ 0
    go true x b y d z = if-usable rec n false (rw x)
    go false x true y d z = if-usable rec n false (rw (x, y))
    go false x false y true z = if-usable rec n false (rw (x, y, z))
    go false x false y false z = absurd (h (e ∙ ap number_of (state-past rec [] (x, y, z) ∙ first-end)))
