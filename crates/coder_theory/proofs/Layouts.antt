-- The layout theorem, of the call: the numbers told of the places are those of the layout's parts in their order, and with s = 0 each number from
-- 1 to n is told once. Assumes nothing.
use mathlib.Core.Path.{◌≡◌, refl, sym, ap, ap₂, ◌∙◌}
use mathlib.Core.Logic.{inl, inr}
use mathlib.Core.List.{List, [], ◌∷◌, map}
use Prim.Native.Nat.{ℕ, zero, suc, ◌+◌, ◌-◌, ◌≤◌, ◌<◌}
use native.Mathlib.Omega.{arith}
use native.Mathlib.Decide.{dec_lt}
use lib.Seq.{get_or-drop}
use lib.ListN.{length, drop, get_or, length-drop, length-map, get_or-map}
use Rattle.group_theory.specs.Group.{Modulus, number, zeros}
use Rattle.group_theory.proofs.Numbers.{number-zeros}
use Rattle.layout_theory.specs.Parameters.{places_of}
use Rattle.layout_theory.specs.Layout.{from, slots, places, element_at}
use Rattle.layout_theory.proofs.Theorem.{layout}
use Rattle.shortened_theory.specs.Code.{shortened_element_at}
use Rattle.shortened_theory.proofs.Filling.{old-sum}
use Rattle.coder_theory.specs.State.{Usable, moduli_in, places_in, element_in}
use Rattle.coder_theory.specs.Calls.{element_answer}
use Rattle.coder_theory.specs.Demand2.{TellsLayout, TellsOnce}
use Rattle.coder_theory.specs.declared.Record.{Record}
use Rattle.coder_theory.specs.declared.ElementAnswer.{ElementAnswer}
use Rattle.coder_theory.proofs.States.{usable-true}
use Rattle.coder_theory.proofs.Answers.{element-outside, element-inside}

-- the number that the call tells of a place
abbrev told : Record → ℕ → ℕ
told rec p = (element_answer rec p).element

-- a place outside is told 0
told-outside : (rec : Record) → Usable rec → (q : ℕ) → (places_in rec < q) → told rec q ≡ 0
told-outside rec f q h = ap (λ (x : ElementAnswer). x.element) (element-outside rec (usable-true rec f) q (inr h))

told-inside : (rec : Record) → Usable rec → (q : ℕ) → q ≤ places_in rec → 0 < q → told rec q ≡ element_in rec q
told-inside rec f q h k = ap (λ (x : ElementAnswer). x.element) (element-inside rec (usable-true rec f) q (λ z. omega arith) h)

-- the element of a place is the layout's of the place by its old number
element-old : (rec : Record) (p : ℕ) → 0 < p → element_in rec p ≡ number (moduli_in rec) (element_at (moduli_in rec) (p + rec.s))
unfolding element_in shortened_element_at
element-old rec p a = ap (λ (q : ℕ). number (moduli_in rec) (element_at (moduli_in rec) q)) (old-sum rec.s p (λ z. omega arith))

-- ---- place by place and as one list
-- numbers k, k + 1, .. for which f gives the members of a list, one after the other
listed : (f : ℕ → ℕ) (xs : List ℕ) (k : ℕ) → ((i : ℕ) → i < length xs → f (k + i) ≡ get_or xs i 0) → map f (from k (length xs)) ≡ xs
unfolding from
listed f [] k h = refl
listed f (x ∷ xs) k h =
    let here : k ≡ k + 0 = omega arith in
    let later : (i : ℕ) → suc k + i ≡ k + suc i = λ i. omega arith in
    ap₂ {C = List ℕ} ◌∷◌ (ap f here ∙ h 0 (omega arith)) (listed f xs (suc k) (λ i l. ap f (later i) ∙ h (suc i) (omega arith)))

module _ (rec : Record) (f : Usable rec) where
  abbrev ms : List Modulus
  ms = moduli_in rec

  abbrev numbers : List ℕ
  numbers = map (number ms) (places ms (slots ms))

  all : length numbers ≡ places_of rec.t
  all = length-map (places ms (slots ms)) (number ms) ∙ (layout rec.t rec.r f.fit.admitted).all

  kept : length (drop rec.s numbers) ≡ places_of rec.t - rec.s
  kept = length-drop rec.s numbers ∙ ap (λ (n : ℕ). n - rec.s) all

  at_place : (i : ℕ) → i < places_of rec.t - rec.s → told rec (1 + i) ≡ get_or (drop rec.s numbers) i 0
  unfolding places_in element_at
  at_place i l =
      let e : 1 + i + rec.s ≡ suc (rec.s + i) = omega arith in
      told-inside rec f (1 + i) (omega arith) (omega arith)
      ∙ element-old rec (1 + i) (omega arith)
      ∙ ap (λ (q : ℕ). number ms (element_at ms q)) e
      ∙ sym (get_or-map (number ms) (places ms (slots ms)) (rec.s + i) (zeros ms))
      ∙ ap (get_or numbers (rec.s + i)) (number-zeros ms)
      ∙ sym (get_or-drop rec.s numbers i 0)

  pub tells-layout : TellsLayout rec
  tells-layout =
      ap (λ (n : ℕ). map (told rec) (from 1 n)) (sym kept)
      ∙ listed (told rec) (drop rec.s numbers) 1 (λ i l. at_place i (let k = kept in omega arith))

  -- ---- "Document 01 .. hold[s] as written for records with s = 0"
  pub tells-once : rec.s ≡ 0 → TellsOnce rec
  unfolding places_in
  tells-once w x a b = (p, ((l.1.0, bound l.1.1), same p l.1.0 (bound l.1.1) ∙ l.1.2), only)
    where
      l : (p : ℕ)
          × ((0 < p) × (p ≤ places_of rec.t) × (number ms (element_at ms p) ≡ x))
          × ((q : ℕ) → 0 < q → number ms (element_at ms q) ≡ x → q ≡ p)
      l = (layout rec.t rec.r f.fit.admitted).once x a b

      p : ℕ
      p = l.0

      bound : {q : ℕ} → q ≤ places_of rec.t → q ≤ places_of rec.t - rec.s
      bound h = omega arith

      same : (q : ℕ) → 0 < q → q ≤ places_in rec → told rec q ≡ number ms (element_at ms q)
      same q h k =
          let e : q + rec.s ≡ q = omega (arith, w) in
          told-inside rec f q k h ∙ element-old rec q h ∙ ap (λ (p : ℕ). number ms (element_at ms p)) e

      nowhere : (q : ℕ) → q ≡ 0 → told rec q ≡ 0
      nowhere q z = ap (λ (x : ElementAnswer). x.element) (element-outside rec (usable-true rec f) q (inl z))

      clash : (y : ℕ) → y ≡ x → y ≡ 0 → ⊥
      clash y e z = omega arith

      only : (q : ℕ) → told rec q ≡ x → q ≡ p
      only zero e = absurd (clash (told rec 0) e (nowhere 0 refl))
      only (suc q) e = go (dec_lt (places_in rec) (suc q))
        where
          go : Dec (places_in rec < suc q) → suc q ≡ p
          go (yes h) = absurd (clash (told rec (suc q)) e (told-outside rec f (suc q) h))
          go (no h) = l.2 (suc q) (omega arith) (sym (same (suc q) (omega arith) (omega arith)) ∙ e)
