-- Counting and filters on lists of elements. Assumes nothing.
use mathlib.Core.Path.{◌≡◌, refl, sym, ap, ◌∙◌}
use mathlib.Core.List.{List, [], ◌∷◌, ◌++◌}
use mathlib.Core.Bool.{Bool, true, false, true≢false}
use Prim.Native.Nat.{ℕ, zero, suc, ◌+◌}
use native.Mathlib.Omega.{arith}
use lib.ListN.{length}
use Rattle.group_theory.specs.Sign.{same}
use Rattle.group_theory.proofs.Signs.{same-eq}
use Rattle.layout_theory.specs.Choice.{zero_unless, one_if}
use Rattle.layout_theory.specs.Layout.{from, keep}

-- how many members pass
unfoldable pub count : (List ℕ → Bool) → List (List ℕ) → ℕ
count p [] = 0
count p (x ∷ xs) = one_if (p x) + count p xs

pub count-append : (p : List ℕ → Bool) (xs ys : List (List ℕ)) → count p (xs ++ ys) ≡ count p xs + count p ys
unfolding count
count-append p [] ys = omega arith
count-append p (x ∷ xs) ys = let i = count-append p xs ys in omega arith

pub keep-yes : (q : List ℕ → Bool) (x : List ℕ) (xs : List (List ℕ)) → q x ≡ true → keep q (x ∷ xs) ≡ x ∷ keep q xs
unfolding keep
keep-yes q x xs e = ap (λ (b : Bool). elim b as (λ _. List (List ℕ)) [ true ↦ x ∷ keep q xs | false ↦ keep q xs ]) e

pub keep-no : (q : List ℕ → Bool) (x : List ℕ) (xs : List (List ℕ)) → q x ≡ false → keep q (x ∷ xs) ≡ keep q xs
unfolding keep
keep-no q x xs e = ap (λ (b : Bool). elim b as (λ _. List (List ℕ)) [ true ↦ x ∷ keep q xs | false ↦ keep q xs ]) e

-- what holds of every member
abbrev pub All : (List ℕ → Type 0) → List (List ℕ) → Type 0
All P [] = Unit {0}
All P (x ∷ xs) = P x × All P xs

pub all_keep : (P : List ℕ → Type 0) (q : List ℕ → Bool) (xs : List (List ℕ)) → All P xs → All P (keep q xs)
unfolding keep
all_keep P q [] h = tt
all_keep P q (x ∷ xs) h = go (all_keep P q xs h.1) (q x) refl
  where
    go : All P (keep q xs) → (b : Bool) → q x ≡ b → All P (keep q (x ∷ xs))
    go i true e = rw (keep-yes q x xs e) (h.0, i)
    go i false e = rw (keep-no q x xs e) i

-- what is kept has passed
pub all-kept : (P : List ℕ → Type 0) (q : List ℕ → Bool) (xs : List (List ℕ))
    → All P xs → All (λ x. P x × (q x ≡ true)) (keep q xs)
unfolding keep
all-kept P q [] h = tt
all-kept P q (x ∷ xs) h = go (all-kept P q xs h.1) (q x) refl
  where
    go : All (λ x. P x × (q x ≡ true)) (keep q xs) → (b : Bool) → q x ≡ b → All (λ x. P x × (q x ≡ true)) (keep q (x ∷ xs))
    go i true e = rw (keep-yes q x xs e) ((h.0, e), i)
    go i false e = rw (keep-no q x xs e) i

-- two tests that agree on every member keep the same
pub keep-agree : (q q' : List ℕ → Bool) (xs : List (List ℕ)) → All (λ x. q x ≡ q' x) xs → keep q xs ≡ keep q' xs
unfolding keep
keep-agree q q' [] h = refl
keep-agree q q' (x ∷ xs) h = go (keep-agree q q' xs h.1) (q' x) refl
  where
    go : keep q xs ≡ keep q' xs → (b : Bool) → q' x ≡ b → keep q (x ∷ xs) ≡ keep q' (x ∷ xs)
    go i true e = keep-yes q x xs (h.0 ∙ e) ∙ ap {B = List (List ℕ)} (λ r. x ∷ r) i ∙ sym (keep-yes q' x xs e)
    go i false e = keep-no q x xs (h.0 ∙ e) ∙ i ∙ sym (keep-no q' x xs e)

pub length-keep : (q : List ℕ → Bool) (xs : List (List ℕ)) → length (keep q xs) ≡ count q xs
unfolding keep count
length-keep q [] = refl
length-keep q (x ∷ xs) = go (length-keep q xs) (q x) refl
  where
    go : length (keep q xs) ≡ count q xs → (b : Bool) → q x ≡ b → length (keep q (x ∷ xs)) ≡ one_if (q x) + count q xs
    go i true e = rw (keep-yes q x xs e, e) (omega arith)
    go i false e = rw (keep-no q x xs e, e) (omega arith)

-- how often s is among the members that pass
pub count-keep : (q : List ℕ → Bool) (s : List ℕ) (xs : List (List ℕ)) → count (same s) (keep q xs) ≡ zero_unless (q s) (count (same s) xs)
unfolding count keep
count-keep q s [] = go (q s)
  where
    go : (b : Bool) → 0 ≡ zero_unless b 0
    go true = refl
    go false = refl
count-keep q s (x ∷ xs) = go (count-keep q s xs) (q x) refl (same s x) refl (q s) refl
  where
    Goal : Type 0
    Goal = count (same s) (keep q (x ∷ xs)) ≡ zero_unless (q s) (count (same s) (x ∷ xs))

    go : count (same s) (keep q xs) ≡ zero_unless (q s) (count (same s) xs)
        → (b : Bool) → q x ≡ b → (c : Bool) → same s x ≡ c → (d : Bool) → q s ≡ d → Goal
    go i true e c f true k = rw (keep-yes q x xs e) (rw k (omega (arith, rw k at i)))
    go i false e false f true k = rw (keep-no q x xs e) (rw (k, f) (omega (arith, rw k at i)))
    go i false e true f true k = absurd (true≢false (sym k ∙ ap q (same-eq s x f) ∙ e))
    go i true e true f false k = absurd (true≢false (sym e ∙ ap q (sym (same-eq s x f)) ∙ k))
    go i true e false f false k = rw (keep-yes q x xs e) (rw (k, f) (omega (arith, rw k at i)))
    go i false e c f false k = rw (keep-no q x xs e) (rw k (omega (arith, rw k at i)))

-- ---- runs of numbers
pub length_from : (k a : ℕ) → length (from a k) ≡ k
unfolding from
length_from zero a = refl
length_from (suc k) a = ap suc (length_from k (suc a))

pub from-append : (a j k : ℕ) → from a (j + k) ≡ from a j ++ from (a + j) k
unfolding from
from-append a zero k =
    let x : 0 + k ≡ k = omega arith in
    let y : a + 0 ≡ a = omega arith in
    rw (x, y)
from-append a (suc j) k =
    let x : suc j + k ≡ suc (j + k) = omega arith in
    let y : a + suc j ≡ suc a + j = omega arith in
    rw (x, y) (ap {B = List ℕ} (λ r. a ∷ r) (from-append (suc a) j k))
