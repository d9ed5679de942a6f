-- How the first reason that applies is picked, for any list of reasons. Assumes nothing.
use mathlib.Core.Path.{◌≡◌, refl, sym, ap, ◌∙◌}
use mathlib.Core.Logic.{◌≢◌}
use mathlib.Core.List.{List, [], ◌∷◌, ◌++◌}
use mathlib.Core.Bool.{Bool, true, false, not, ◌&&◌}
use Prim.Native.Nat.{ℕ, zero, suc}
use native.Mathlib.Omega.{arith}
use lib.Dec.{eqb}
use borrow.Author.Tests.{eqb-false, not-true}
use Rattle.group_theory.proofs.Signs.{both}
use Rattle.coder_theory.specs.Reasons.{Reason, accepted, first_reason}

pub not-zero : {x n : ℕ} → x ≡ suc n → x ≢ 0
not-zero {n = n} e z = let c : suc n ≡ 0 = sym e ∙ z in omega arith

-- none of the reasons applies
abbrev pub NoneApplies : List Reason → Type 0
NoneApplies [] = Unit {0}
NoneApplies (x ∷ xs) = (x.applies ≡ false) × NoneApplies xs

pub first-yes : (x : Reason) (xs : List Reason) → x.applies ≡ true → first_reason (x ∷ xs) ≡ x
unfolding first_reason
first-yes x xs e = ap (λ (b : Bool). elim b as (λ _. Reason) [ true ↦ x | false ↦ first_reason xs ]) e

pub first-no : (x : Reason) (xs : List Reason) → x.applies ≡ false → first_reason (x ∷ xs) ≡ first_reason xs
unfolding first_reason
first-no x xs e = ap (λ (b : Bool). elim b as (λ _. Reason) [ true ↦ x | false ↦ first_reason xs ]) e

pub first-end : first_reason [] ≡ accepted
unfolding first_reason
first-end = refl

-- reasons xs before ys: the first of xs, or where none of xs applies that of ys
pub first-before : (xs ys : List Reason) → (first_reason xs).number ≢ 0 → first_reason (xs ++ ys) ≡ first_reason xs
first-before [] ys h = absurd (h (ap (λ (x : Reason). x.number) first-end))
first-before (x ∷ xs) ys h = go (first-before xs ys) x.applies refl
  where
    go : ((first_reason xs).number ≢ 0 → first_reason (xs ++ ys) ≡ first_reason xs) → (b : Bool) → x.applies ≡ b
        → first_reason (x ∷ (xs ++ ys)) ≡ first_reason (x ∷ xs)
    go f true y = first-yes x (xs ++ ys) y ∙ sym (first-yes x xs y)
    go f false y =
        first-no x (xs ++ ys) y ∙ f (λ z. h (ap (λ (x : Reason). x.number) (first-no x xs y) ∙ z)) ∙ sym (first-no x xs y)

pub first-after : (xs ys zs : List Reason) → first_reason ys ≡ first_reason zs → first_reason (xs ++ ys) ≡ first_reason (xs ++ zs)
first-after [] ys zs e = e
first-after (x ∷ xs) ys zs e = go (first-after xs ys zs e) x.applies refl
  where
    go : first_reason (xs ++ ys) ≡ first_reason (xs ++ zs) → (b : Bool) → x.applies ≡ b → first_reason (x ∷ (xs ++ ys)) ≡ first_reason (x ∷ (xs ++ zs))
    go f true y = first-yes x (xs ++ ys) y ∙ sym (first-yes x (xs ++ zs) y)
    go f false y = first-no x (xs ++ ys) y ∙ f ∙ sym (first-no x (xs ++ zs) y)

pub first_past : (xs ys : List Reason) → NoneApplies xs → first_reason (xs ++ ys) ≡ first_reason ys
first_past [] ys h = refl
first_past (x ∷ xs) ys h = first-no x (xs ++ ys) h.0 ∙ first_past xs ys h.1

-- a last reason that does not apply
pub first-last : (xs : List Reason) (y : Reason) → y.applies ≡ false → first_reason (xs ++ (y ∷ [])) ≡ first_reason xs
first-last [] y h = first-no y [] h
first-last (x ∷ xs) y h = go (first-last xs y h) x.applies refl
  where
    go : first_reason (xs ++ (y ∷ [])) ≡ first_reason xs → (b : Bool) → x.applies ≡ b → first_reason (x ∷ (xs ++ (y ∷ []))) ≡ first_reason (x ∷ xs)
    go f true a = first-yes x (xs ++ (y ∷ [])) a ∙ sym (first-yes x xs a)
    go f false a = first-no x (xs ++ (y ∷ [])) a ∙ f ∙ sym (first-no x xs a)

-- each of the reasons has a number, which a call's list computes
abbrev pub numbered : List Reason → Bool
numbered [] = true
numbered (x ∷ xs) = not (eqb x.number 0) && numbered xs

-- a call is accepted exactly where none of its reasons applies
pub none_first : (rs : List Reason) → NoneApplies rs → first_reason rs ≡ accepted
none_first [] h = first-end
none_first (x ∷ xs) h = first-no x xs h.0 ∙ none_first xs h.1

pub none-append : (xs ys : List Reason) → NoneApplies xs → NoneApplies ys → NoneApplies (xs ++ ys)
none-append [] ys h k = k
none-append (x ∷ xs) ys h k = (h.0, none-append xs ys h.1 k)

pub none-accepted : (rs : List Reason) → NoneApplies rs → (first_reason rs).number ≡ 0
none-accepted rs h = ap (λ (x : Reason). x.number) (none_first rs h)

pub accepted-none : (rs : List Reason) → numbered rs ≡ true → (first_reason rs).number ≡ 0 → NoneApplies rs
accepted-none [] k e = tt
accepted-none (x ∷ xs) k e = let n = both (not (eqb x.number 0)) (numbered xs) k in go n.0 (accepted-none xs n.1) x.applies refl
  where
    go : not (eqb x.number 0) ≡ true → ((first_reason xs).number ≡ 0 → NoneApplies xs) → (b : Bool) → x.applies ≡ b → NoneApplies (x ∷ xs)
    go n f true y = absurd (eqb-false x.number 0 (not-true (eqb x.number 0) n) (sym (ap (λ (x : Reason). x.number) (first-yes x xs y)) ∙ e))
    go n f false y = (y, f (sym (ap (λ (x : Reason). x.number) (first-no x xs y)) ∙ e))

-- a reason whose number is not the one given may be left out of a list
pub first-without : (xs ys : List Reason) (y : Reason) → numbered xs ≡ true → (first_reason (xs ++ (y ∷ ys))).number ≢ y.number
    → first_reason (xs ++ (y ∷ ys)) ≡ first_reason (xs ++ ys)
first-without xs ys y some h = go y.applies refl (first_reason xs).number refl
  where
    go : (b : Bool) → y.applies ≡ b → (n : ℕ) → (first_reason xs).number ≡ n → first_reason (xs ++ (y ∷ ys)) ≡ first_reason (xs ++ ys)
    go false a n e = first-after xs (y ∷ ys) ys (first-no y ys a)
    go true a zero e = absurd (h (ap (λ (x : Reason). x.number) (first_past xs (y ∷ ys) (accepted-none xs some e) ∙ first-yes y ys a)))
    go true a (suc n) e =
        let k = not-zero e in
        first-before xs (y ∷ ys) k ∙ sym (first-before xs ys k)

-- none of the reasons tells a place
abbrev pub Placeless : List Reason → Type 0
Placeless [] = Unit {0}
Placeless (x ∷ xs) = (x.place ≡ 0) × Placeless xs

pub no_place : (rs : List Reason) → Placeless rs → (first_reason rs).place ≡ 0
no_place [] h = ap (λ (x : Reason). x.place) first-end
no_place (x ∷ xs) h = go (no_place xs h.1) x.applies refl
  where
    go : (first_reason xs).place ≡ 0 → (b : Bool) → x.applies ≡ b → (first_reason (x ∷ xs)).place ≡ 0
    go i true y = ap (λ (x : Reason). x.place) (first-yes x xs y) ∙ h.0
    go i false y = ap (λ (x : Reason). x.place) (first-no x xs y) ∙ i

-- ---- the place that is told: T says what a number and a place have to do with each other. Each reason has it where it is the first that
-- applies
abbrev pub AllTell : (ℕ → ℕ → Type 0) → List Reason → Type 0
AllTell T [] = T 0 0
AllTell T (x ∷ xs) = (x.applies ≡ true → T x.number x.place) × (x.applies ≡ false → AllTell T xs)

pub first-tells : (T : ℕ → ℕ → Type 0) (rs : List Reason) → AllTell T rs → T (first_reason rs).number (first_reason rs).place
first-tells T [] h = rw first-end h
first-tells T (x ∷ xs) h = go (λ e. first-tells T xs (h.1 e)) x.applies refl
  where
    go : (x.applies ≡ false → T (first_reason xs).number (first_reason xs).place) → (b : Bool) → x.applies ≡ b
        → T (first_reason (x ∷ xs)).number (first_reason (x ∷ xs)).place
    go i true y = rw (first-yes x xs y) (h.0 y)
    go i false y = rw (first-no x xs y) (i y)
