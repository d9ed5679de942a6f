-- How a list of reasons meets the rows of a claim (specs/Demand1): the number of the first reason that applies is a row's exactly where that row
-- applies and none before it does. Assumes nothing.
use mathlib.Core.Path.{◌≡◌, refl, sym, ap, ◌∙◌}
use mathlib.Core.Logic.{◌≢◌, ◌↔◌, ◌⊎◌, inl, inr}
use mathlib.Core.List.{List, [], ◌∷◌}
use mathlib.Core.Bool.{Bool, true, false, not, ◌&&◌, true≢false}
use Prim.Native.Nat.{ℕ}
use lib.Dec.{eqb}
use borrow.Author.Tests.{eqb-false, not-true}
use Rattle.group_theory.proofs.Signs.{both}
use Rattle.coder_theory.specs.Reasons.{Reason, first_reason}
use Rattle.coder_theory.specs.Demand1.{ByRows, numbers_of, order, in_order, Refused}
use Rattle.coder_theory.proofs.Firsts.{first-yes, first-no, first-end}

abbrev number_of : Reason → ℕ
number_of x = x.number

-- a row for each reason, or for two of one number; what it says need only be so where the rows before it do not apply
pub data Rowed : Type 0 → List Reason → List (ℕ × Type 0) → Type 1 where
  done : {past : Type 0} → Rowed past [] []
  row : {past why : Type 0} {xs : List Reason} {rows : List (ℕ × Type 0)} (x : Reason) → (past → (x.applies ≡ true) ↔ why)
      → Rowed (past × (why → ⊥)) xs rows → Rowed past (x ∷ xs) ((x.number, why) ∷ rows)
  two : {past why why' : Type 0} {xs : List Reason} {rows : List (ℕ × Type 0)} (x y : Reason) → y.number ≡ x.number
      → (past → (x.applies ≡ true) ↔ why) → (past → (y.applies ≡ true) ↔ why')
      → Rowed (past × (why ⊎ why' → ⊥)) xs rows → Rowed past (x ∷ y ∷ xs) ((x.number, why ⊎ why') ∷ rows)

-- ---- n is none of the numbers; each number is another than 0 and those after it
abbrev without : ℕ → List ℕ → Bool
without n [] = true
without n (m ∷ ms) = not (eqb n m) && without n ms

abbrev pub distinct : List ℕ → Bool
distinct [] = true
distinct (n ∷ ns) = without n (0 ∷ ns) && distinct ns

differ : (n m : ℕ) (ms : List ℕ) → without n (m ∷ ms) ≡ true → (n ≢ m) × (without n ms ≡ true)
differ n m ms e = let k = both (not (eqb n m)) (without n ms) e in (eqb-false n m (not-true (eqb n m) k.0), k.1)

-- without the number of the first row
fewer : (n m : ℕ) (ms : List ℕ) → without n (0 ∷ m ∷ ms) ≡ true → (n ≢ m) × (without n (0 ∷ ms) ≡ true)
fewer n m ms e = let z = both (not (eqb n 0)) (without n (m ∷ ms)) e in let d = differ n m ms z.1 in (d.0, ap (λ (b : Bool). b && without n ms) z.0 ∙ d.1)

-- ---- a number that no row has is not given
other : {past : Type 0} (xs : List Reason) (rows : List (ℕ × Type 0)) → Rowed past xs rows → (n : ℕ) → without n (0 ∷ numbers_of rows) ≡ true
    → (first_reason xs).number ≢ n
other _ _ done n w e = (differ n 0 [] w).0 (sym e ∙ ap number_of first-end)
other _ _ (row {xs = xs} {rows = rows} x same later) n w e =
    let d = fewer n x.number (numbers_of rows) w in go d.0 (λ z. other xs rows later n d.1 z) x.applies refl
  where
    go : n ≢ x.number → (first_reason xs).number ≢ n → (b : Bool) → x.applies ≡ b → ⊥
    go a f true y = a (sym e ∙ ap number_of (first-yes x xs y))
    go a f false y = f (sym (ap number_of (first-no x xs y)) ∙ e)
other _ _ (two {xs = xs} {rows = rows} x y k same same' later) n w e =
    let d = fewer n x.number (numbers_of rows) w in go d.0 (λ z. other xs rows later n d.1 z) x.applies refl y.applies refl
  where
    go : n ≢ x.number → (first_reason xs).number ≢ n → (b : Bool) → x.applies ≡ b → (c : Bool) → y.applies ≡ c → ⊥
    go a f true i c j = a (sym e ∙ ap number_of (first-yes x (y ∷ xs) i))
    go a f false i true j = a (sym e ∙ ap number_of (first-no x (y ∷ xs) i ∙ first-yes y xs j) ∙ k)
    go a f false i false j = f (sym (ap number_of (first-no x (y ∷ xs) i ∙ first-no y xs j)) ∙ e)

-- ---- after the row that applies no other is given
after : (x : ℕ) (past : Type 0) → (past → ⊥) → (rows : List (ℕ × Type 0)) → without x (0 ∷ numbers_of rows) ≡ true → ByRows x past rows
after x past never [] w = ((λ e. absurd ((differ x 0 [] w).0 e)), (λ p. absurd (never p)))
after x past never ((n, why) ∷ rows) w =
    let d = fewer x n (numbers_of rows) w in
    (((λ e. absurd (d.0 e)), (λ p. absurd (never p.0))), after x (past × (why → ⊥)) (λ p. never p.0) rows d.1)

by_rows : (x : ℕ) (past : Type 0) → past → (xs : List Reason) (rows : List (ℕ × Type 0)) → Rowed past xs rows → distinct (numbers_of rows) ≡ true
    → x ≡ (first_reason xs).number → ByRows x past rows
by_rows x past p _ _ done d e = ((λ z. p), (λ z. e ∙ ap number_of first-end))
by_rows x past p _ _ (row {why = why} {xs = xs} {rows = rows} y same later) d e =
    let k = both (without y.number (0 ∷ numbers_of rows)) (distinct (numbers_of rows)) d in
    go k.0 (λ n h. by_rows x (past × (why → ⊥)) (p, n) xs rows later k.1 h) y.applies refl
  where
    go : without y.number (0 ∷ numbers_of rows) ≡ true → ((why → ⊥) → x ≡ (first_reason xs).number → ByRows x (past × (why → ⊥)) rows)
        → (b : Bool) → y.applies ≡ b → ByRows x past ((y.number, why) ∷ rows)
    go w rest true i =
        let is : x ≡ y.number = e ∙ ap number_of (first-yes y xs i) in
        let so = (same p).0 i in
        (((λ z. (p, so)), (λ z. is)), after x (past × (why → ⊥)) (λ q. q.1 so) rows (ap (λ (n : ℕ). without n (0 ∷ numbers_of rows)) is ∙ w))
    go w rest false i =
        let first : x ≡ (first_reason xs).number = e ∙ ap number_of (first-no y xs i) in
        let never : why → ⊥ = λ so. true≢false (sym ((same p).1 so) ∙ i) in
        (((λ z. absurd (other xs rows later y.number w (sym first ∙ z))), (λ q. absurd (never q.1))), rest never first)
by_rows x past p _ _ (two {why = why} {why' = why'} {xs = xs} {rows = rows} y v k same same' later) d e =
    let t = both (without y.number (0 ∷ numbers_of rows)) (distinct (numbers_of rows)) d in
    go t.0 (λ n h. by_rows x (past × (why ⊎ why' → ⊥)) (p, n) xs rows later t.1 h) y.applies refl v.applies refl
  where
    given : without y.number (0 ∷ numbers_of rows) ≡ true → x ≡ y.number → why ⊎ why' → ByRows x past ((y.number, why ⊎ why') ∷ rows)
    given w is so =
        (((λ z. (p, so)), (λ z. is)), after x (past × (why ⊎ why' → ⊥)) (λ q. q.1 so) rows (ap (λ (n : ℕ). without n (0 ∷ numbers_of rows)) is ∙ w))

    go : without y.number (0 ∷ numbers_of rows) ≡ true → ((why ⊎ why' → ⊥) → x ≡ (first_reason xs).number → ByRows x (past × (why ⊎ why' → ⊥)) rows)
        → (b : Bool) → y.applies ≡ b → (c : Bool) → v.applies ≡ c → ByRows x past ((y.number, why ⊎ why') ∷ rows)
    go w rest true i c j = given w (e ∙ ap number_of (first-yes y (v ∷ xs) i)) (inl ((same p).0 i))
    go w rest false i true j = given w (e ∙ ap number_of (first-no y (v ∷ xs) i ∙ first-yes v xs j) ∙ k) (inr ((same' p).0 j))
    go w rest false i false j =
        let first : x ≡ (first_reason xs).number = e ∙ ap number_of (first-no y (v ∷ xs) i ∙ first-no v xs j) in
        (((λ z. absurd (other xs rows later y.number w (sym first ∙ z))), (λ q. absurd (never q.1))), rest never first)
      where
        never : why ⊎ why' → ⊥
        never (inl so) = true≢false (sym ((same p).1 so) ∙ i)
        never (inr so) = true≢false (sym ((same' p).1 so) ∙ j)

-- ---- the whole claim; that the numbers stand in the order and are distinct is computed
pub by_first : (x : ℕ) (xs : List Reason) (rows : List (ℕ × Type 0)) → in_order order (numbers_of rows) ≡ true → distinct (numbers_of rows) ≡ true
    → x ≡ (first_reason xs).number → Rowed (Unit {0}) xs rows → Refused x rows
by_first x xs rows o d e h = record { ordered = o; numbers = by_rows x (Unit {0}) tt xs rows h d e }
