-- The block theorem: the numbers of a sign, with one more component behind the others. Assumes nothing.
use mathlib.Core.Path.{◌≡◌, refl, sym, ap, ap₂, ◌∙◌}
use mathlib.Core.List.{List, [], ◌∷◌, ◌++◌, append-nil}
use mathlib.Core.Bool.{Bool, true, false, not}
use Prim.Native.Nat.{ℕ, zero, suc, ◌+◌, ◌*◌, ◌%◌, ◌<◌}
use native.Mathlib.Omega.{arith}
use lib.Dec.{eqb}
use lib.ListN.{length}
use Rattle.group_theory.specs.Group.{Modulus, one, two, four, element, size}
use Rattle.group_theory.specs.Sign.{lead, odd_or}
use Rattle.group_theory.specs.Weights.{shifted}
use Rattle.group_theory.proofs.Fill.{length-element}
use Rattle.group_theory.proofs.Signs.{Lead, even, plus, minus, lead-cases}
use Rattle.group_theory.proofs.Snoc.{element-snoc, size-snoc}
use Rattle.layout_theory.specs.Layout.{from}
use Rattle.layout_theory.proofs.Lists.{from-append}
use Rattle.blocks_theory.specs.Blocks as blocks
use Rattle.blocks_theory.specs.Blocks.{select, sign_at, in_plus, in_low, in_even}

-- ---- filters
pub select_yes : (p : ℕ → Bool) (x : ℕ) (xs : List ℕ) → p x ≡ true → select p (x ∷ xs) ≡ x ∷ select p xs
unfolding select
select_yes p x xs e = ap (λ (b : Bool). elim b as (λ _. List ℕ) [ true ↦ x ∷ select p xs | false ↦ select p xs ]) e

pub select_no : (p : ℕ → Bool) (x : ℕ) (xs : List ℕ) → p x ≡ false → select p (x ∷ xs) ≡ select p xs
unfolding select
select_no p x xs e = ap (λ (b : Bool). elim b as (λ _. List ℕ) [ true ↦ x ∷ select p xs | false ↦ select p xs ]) e

pub select-append : (p : ℕ → Bool) (xs ys : List ℕ) → select p (xs ++ ys) ≡ select p xs ++ select p ys
unfolding select
select-append p [] ys = refl
select-append p (x ∷ xs) ys = go (select-append p xs ys) (p x) refl
  where
    go : select p (xs ++ ys) ≡ select p xs ++ select p ys → (b : Bool) → p x ≡ b → select p (x ∷ (xs ++ ys)) ≡ select p (x ∷ xs) ++ select p ys
    go i true e = rw (select_yes p x (xs ++ ys) e, select_yes p x xs e, i)
    go i false e = rw (select_no p x (xs ++ ys) e, select_no p x xs e, i)

-- a run of numbers shifted by c, where the test there is another one here
pub select-run : (p q : ℕ → Bool) (c x k : ℕ) → ((y : ℕ) → y < x + k → p (y + c) ≡ q y) → select p (from (x + c) k) ≡ shifted c (select q (from x k))
unfolding from select shifted
select-run p q c x zero h = refl
select-run p q c x (suc k) h =
    let e : suc (x + c) ≡ suc x + c = omega arith in
    let i : select p (from (suc (x + c)) k) ≡ shifted c (select q (from (suc x) k)) =
    rw e (select-run p q c (suc x) k (λ y l. h y (omega arith))) in
    go i (q x) refl
  where
    go : select p (from (suc (x + c)) k) ≡ shifted c (select q (from (suc x) k)) → (b : Bool) → q x ≡ b
        → select p ((x + c) ∷ from (suc (x + c)) k) ≡ shifted c (select q (x ∷ from (suc x) k))
    go i true e =
        select_yes p (x + c) (from (suc (x + c)) k) (h x (omega arith) ∙ e)
        ∙ ap {B = List ℕ} (λ (r : List ℕ). (x + c) ∷ r) i ∙ ap (shifted c) (sym (select_yes q x (from (suc x) k) e))
    go i false e =
        select_no p (x + c) (from (suc (x + c)) k) (h x (omega arith) ∙ e) ∙ i ∙ ap (shifted c) (sym (select_no q x (from (suc x) k) e))

-- ---- the sign, with one more component
abbrev pub topped : ℕ → ℕ → ℕ
topped zero d = odd_or d 0
topped (suc l) d = suc l

pub lead_snoc : (ms : List Modulus) (e : List ℕ) (d : ℕ) → length e ≡ length ms → lead (ms ++ four ∷ []) (e ++ (d ∷ [])) ≡ topped (lead ms e) d
unfolding lead
lead_snoc [] [] d h = refl
lead_snoc [] (x ∷ e) d h = absurd (omega arith)
lead_snoc (m ∷ ms) [] d h = absurd (omega arith)
lead_snoc (one ∷ ms) (x ∷ e) d h = lead_snoc ms e d (omega arith)
lead_snoc (two ∷ ms) (x ∷ e) d h = lead_snoc ms e d (omega arith)
lead_snoc (four ∷ ms) (zero ∷ e) d h = lead_snoc ms e d (omega arith)
lead_snoc (four ∷ ms) (suc zero ∷ e) d h = refl
lead_snoc (four ∷ ms) (suc (suc zero) ∷ e) d h = lead_snoc ms e d (omega arith)
lead_snoc (four ∷ ms) (suc (suc (suc x)) ∷ e) d h = refl

pub sign-snoc : (ms : List Modulus) (d y : ℕ) → d < 4 → y < size ms → sign_at (ms ++ four ∷ []) (y + size ms * d) ≡ topped (sign_at ms y) d
sign-snoc ms d y k h =
    let e : d % 4 ≡ d = omega arith in
    ap (lead (ms ++ four ∷ [])) (element-snoc ms four d y h)
    ∙ lead_snoc ms (element ms y) (d % 4) (length-element ms y) ∙ ap (topped (sign_at ms y)) e

-- how each test goes on, for each digit
module _ (ms : List Modulus) (y : ℕ) (h : y < size ms) where
  plus-go : {l : ℕ} → Lead l → (eqb (topped l 0) 1 ≡ eqb l 1) × (eqb (topped l 1) 1 ≡ not (eqb l 3)) × (eqb (topped l 2) 1 ≡ eqb l 1) × (eqb (topped l 3) 1 ≡ eqb l 1)
  plus-go even = (refl, refl, refl, refl)
  plus-go plus = (refl, refl, refl, refl)
  plus-go minus = (refl, refl, refl, refl)

  low-go : {l : ℕ} → Lead l → (not (eqb (topped l 0) 3) ≡ not (eqb l 3)) × (not (eqb (topped l 1) 3) ≡ not (eqb l 3))
      × (not (eqb (topped l 2) 3) ≡ not (eqb l 3)) × (not (eqb (topped l 3) 3) ≡ eqb l 1)
  low-go even = (refl, refl, refl, refl)
  low-go plus = (refl, refl, refl, refl)
  low-go minus = (refl, refl, refl, refl)

  even-go : {l : ℕ} → Lead l → (eqb (topped l 0) 0 ≡ eqb l 0) × (eqb (topped l 1) 0 ≡ false) × (eqb (topped l 2) 0 ≡ eqb l 0) × (eqb (topped l 3) 0 ≡ false)
  even-go even = (refl, refl, refl, refl)
  even-go plus = (refl, refl, refl, refl)
  even-go minus = (refl, refl, refl, refl)

  at : (f : ℕ → Bool) (d : ℕ) → d < 4 → f (sign_at (ms ++ four ∷ []) (y + size ms * d)) ≡ f (topped (sign_at ms y) d)
  at f d k = ap f (sign-snoc ms d y k h)

  abbrev here : Type 0
  here = Lead (sign_at ms y)

  cases : here
  cases = lead-cases ms (element ms y)

  pub plus-0 : in_plus (ms ++ four ∷ []) (y + size ms * 0) ≡ in_plus ms y
  plus-0 = at (λ l. eqb l 1) 0 (omega arith) ∙ (plus-go cases).0

  pub plus-1 : in_plus (ms ++ four ∷ []) (y + size ms * 1) ≡ in_low ms y
  plus-1 = at (λ l. eqb l 1) 1 (omega arith) ∙ (plus-go cases).1

  pub plus-2 : in_plus (ms ++ four ∷ []) (y + size ms * 2) ≡ in_plus ms y
  plus-2 = at (λ l. eqb l 1) 2 (omega arith) ∙ (plus-go cases).2

  pub plus-3 : in_plus (ms ++ four ∷ []) (y + size ms * 3) ≡ in_plus ms y
  plus-3 = at (λ l. eqb l 1) 3 (omega arith) ∙ (plus-go cases).3

  pub low-0 : in_low (ms ++ four ∷ []) (y + size ms * 0) ≡ in_low ms y
  low-0 = at (λ l. not (eqb l 3)) 0 (omega arith) ∙ (low-go cases).0

  pub low-1 : in_low (ms ++ four ∷ []) (y + size ms * 1) ≡ in_low ms y
  low-1 = at (λ l. not (eqb l 3)) 1 (omega arith) ∙ (low-go cases).1

  pub low-2 : in_low (ms ++ four ∷ []) (y + size ms * 2) ≡ in_low ms y
  low-2 = at (λ l. not (eqb l 3)) 2 (omega arith) ∙ (low-go cases).2

  pub low-3 : in_low (ms ++ four ∷ []) (y + size ms * 3) ≡ in_plus ms y
  low-3 = at (λ l. not (eqb l 3)) 3 (omega arith) ∙ (low-go cases).3

  pub even-0 : in_even (ms ++ four ∷ []) (y + size ms * 0) ≡ in_even ms y
  even-0 = at (λ l. eqb l 0) 0 (omega arith) ∙ (even-go cases).0

  pub even-1 : in_even (ms ++ four ∷ []) (y + size ms * 1) ≡ false
  even-1 = at (λ l. eqb l 0) 1 (omega arith) ∙ (even-go cases).1

  pub even-2 : in_even (ms ++ four ∷ []) (y + size ms * 2) ≡ in_even ms y
  even-2 = at (λ l. eqb l 0) 2 (omega arith) ∙ (even-go cases).2

  pub even-3 : in_even (ms ++ four ∷ []) (y + size ms * 3) ≡ false
  even-3 = at (λ l. eqb l 0) 3 (omega arith) ∙ (even-go cases).3

-- ---- the theorem
pub none_left : (p : ℕ → Bool) → ((y : ℕ) → p y ≡ false) → (xs : List ℕ) → select p xs ≡ []
unfolding select
none_left p h [] = refl
none_left p h (x ∷ xs) = select_no p x xs (h x) ∙ none_left p h xs

-- four runs
four_runs : (p : ℕ → Bool) (n : ℕ)
    → select p (from 0 (n * 4)) ≡ select p (from (0 + n * 0) n) ++ (select p (from (0 + n * 1) n) ++ (select p (from (0 + n * 2) n) ++ select p (from (0 + n * 3) n)))
four_runs p n =
    let z : n * 4 ≡ n + (n + (n + n)) = omega arith in
    let a0 : 0 + n * 0 ≡ 0 = omega arith in
    let a1 : 0 + n * 1 ≡ 0 + n = omega arith in
    let a2 : 0 + n * 2 ≡ 0 + n + n = omega arith in
    let a3 : 0 + n * 3 ≡ 0 + n + n + n = omega arith in
    rw (z, a0, a1, a2, a3)
    (ap (select p) (from-append 0 n (n + (n + n)) ∙ ap (λ (r : List ℕ). from 0 n ++ r) (from-append (0 + n) n (n + n) ∙ ap (λ (r : List ℕ). from (0 + n) n ++ r) (from-append (0 + n + n) n n)))
    ∙ select-append p (from 0 n) _
    ∙ ap (λ (r : List ℕ). select p (from 0 n) ++ r) (select-append p (from (0 + n) n) _ ∙ ap (λ (r : List ℕ). select p (from (0 + n) n) ++ r) (select-append p (from (0 + n + n) n) _)))

blocks-of : (p q0 q1 q2 q3 : ℕ → Bool) (n : ℕ) → ((y : ℕ) → y < n → p (y + n * 0) ≡ q0 y) → ((y : ℕ) → y < n → p (y + n * 1) ≡ q1 y)
    → ((y : ℕ) → y < n → p (y + n * 2) ≡ q2 y) → ((y : ℕ) → y < n → p (y + n * 3) ≡ q3 y)
    → select p (from 0 (n * 4))
    ≡ shifted (n * 0) (select q0 (from 0 n)) ++ (shifted (n * 1) (select q1 (from 0 n)) ++ (shifted (n * 2) (select q2 (from 0 n)) ++ shifted (n * 3) (select q3 (from 0 n))))
blocks-of p q0 q1 q2 q3 n h0 h1 h2 h3 =
    let z : 0 + n ≡ n = omega arith in
    let r0 = select-run p q0 (n * 0) 0 n (λ y l. h0 y (omega arith)) in
    let r1 = select-run p q1 (n * 1) 0 n (λ y l. h1 y (omega arith)) in
    let r2 = select-run p q2 (n * 2) 0 n (λ y l. h2 y (omega arith)) in
    let r3 = select-run p q3 (n * 3) 0 n (λ y l. h3 y (omega arith)) in
    four_runs p n ∙ ap₂ {C = List ℕ} ◌++◌ r0 (ap₂ {C = List ℕ} ◌++◌ r1 (ap₂ {C = List ℕ} ◌++◌ r2 r3))

abbrev pub next : List Modulus → List Modulus
next ms = ms ++ four ∷ []

pub plus-blocks : (ms : List Modulus) → blocks.plus (next ms)
    ≡ shifted (size ms * 0) (blocks.plus ms) ++ (shifted (size ms * 1) (blocks.low ms) ++ (shifted (size ms * 2) (blocks.plus ms) ++ shifted (size ms * 3) (blocks.plus ms)))
unfolding blocks.plus blocks.low
plus-blocks ms =
    ap (λ (n : ℕ). select (in_plus (next ms)) (from 0 n)) (size-snoc ms four)
    ∙ blocks-of (in_plus (next ms)) (in_plus ms) (in_low ms) (in_plus ms) (in_plus ms) (size ms) (plus-0 ms) (plus-1 ms) (plus-2 ms) (plus-3 ms)

pub low-blocks : (ms : List Modulus) → blocks.low (next ms)
    ≡ shifted (size ms * 0) (blocks.low ms) ++ (shifted (size ms * 1) (blocks.low ms) ++ (shifted (size ms * 2) (blocks.low ms) ++ shifted (size ms * 3) (blocks.plus ms)))
unfolding blocks.plus blocks.low
low-blocks ms =
    ap (λ (n : ℕ). select (in_low (next ms)) (from 0 n)) (size-snoc ms four)
    ∙ blocks-of (in_low (next ms)) (in_low ms) (in_low ms) (in_low ms) (in_plus ms) (size ms) (low-0 ms) (low-1 ms) (low-2 ms) (low-3 ms)

abbrev never : ℕ → Bool
never y = false

pub even-blocks : (ms : List Modulus) → blocks.even (next ms) ≡ shifted (size ms * 0) (blocks.even ms) ++ shifted (size ms * 2) (blocks.even ms)
unfolding blocks.even shifted
even-blocks ms =
    ap (λ (n : ℕ). select (in_even (next ms)) (from 0 n)) (size-snoc ms four)
    ∙ blocks-of (in_even (next ms)) (in_even ms) never (in_even ms) never (size ms) (even-0 ms) (even-1 ms) (even-2 ms) (even-3 ms)
    ∙ (let z : select never (from 0 (size ms)) ≡ [] = none_left never (λ y. refl) (from 0 (size ms)) in
    rw (z) (ap (λ (r : List ℕ). shifted (size ms * 0) (select (in_even ms) (from 0 (size ms))) ++ r) (append-nil (shifted (size ms * 2) (select (in_even ms) (from 0 (size ms)))))))
