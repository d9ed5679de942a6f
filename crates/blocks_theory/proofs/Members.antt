-- The two parts of the message, and the numbers of a sign: the first are the second without zero and the units. Assumes nothing.
use mathlib.Core.Path.{◌≡◌, refl, sym, ap, ap₂, ◌∙◌}
use mathlib.Core.Bool.{Bool, true, false, ◌&&◌, not}
use mathlib.Core.List.{List, [], ◌∷◌, ◌++◌, map}
use Prim.Native.Nat.{ℕ, zero, suc, ◌+◌, ◌-◌, ◌<◌, ◌≤◌}
use native.Mathlib.Omega.{arith}
use lib.Dec.{eqb}
use lib.ListN.{length, drop, take-append-drop}
use Rattle.group_theory.specs.Group.{Modulus, one, two, four, moduli, zeros, element, size}
use Rattle.group_theory.specs.Sign.{is_unit, lead}
use Rattle.group_theory.proofs.Numbers.{size-pos}
use Rattle.group_theory.proofs.Signs.{lead-zeros}
use Rattle.group_theory.proofs.Fill.{length-element}
use Rattle.group_theory.proofs.Unit.{size-in-use}
use Rattle.group_theory.proofs.Snoc.{element-behind}
use Rattle.layout_theory.specs.Layout.{from, keep, elements, singles, pairs}
use Rattle.layout_theory.proofs.Lists.{keep-yes, keep-no}
use Rattle.layout_theory.proofs.Cover.{of_sign, singles-signs}
use Rattle.blocks_theory.specs.Blocks as blocks
use Rattle.blocks_theory.specs.Blocks.{select, sign_at, in_plus, in_even, skips, others, level}
use Rattle.blocks_theory.proofs.Blocks.{select_yes, select_no}

-- ---- filters
pub select-same : (f g : ℕ → Bool) (x k : ℕ) → ((y : ℕ) → x ≤ y → y < x + k → f y ≡ g y) → select f (from x k) ≡ select g (from x k)
unfolding select from
select-same f g x zero h = refl
select-same f g x (suc k) h =
    go (g x) refl (select-same f g (suc x) k (λ y a b. h y (omega arith) (omega arith))) (h x (omega arith) (omega arith))
  where
    go : (b : Bool) → g x ≡ b → select f (from (suc x) k) ≡ select g (from (suc x) k) → f x ≡ g x → select f (x ∷ from (suc x) k) ≡ select g (x ∷ from (suc x) k)
    go true e i s = select_yes f x (from (suc x) k) (s ∙ e) ∙ ap {B = List ℕ} (λ (r : List ℕ). x ∷ r) i ∙ sym (select_yes g x (from (suc x) k) e)
    go false e i s = select_no f x (from (suc x) k) (s ∙ e) ∙ i ∙ sym (select_no g x (from (suc x) k) e)

select-twice : (f g : ℕ → Bool) (xs : List ℕ) → select g (select f xs) ≡ select (λ x. f x && g x) xs
unfolding select
select-twice f g [] = refl
select-twice f g (x ∷ xs) = go (f x) refl (g x) refl (select-twice f g xs)
  where
    go : (b : Bool) → f x ≡ b → (c : Bool) → g x ≡ c → select g (select f xs) ≡ select (λ x. f x && g x) xs
        → select g (select f (x ∷ xs)) ≡ select (λ x. f x && g x) (x ∷ xs)
    go true e true k i =
        ap (select g) (select_yes f x xs e) ∙ select_yes g x (select f xs) k ∙ ap {B = List ℕ} (λ (r : List ℕ). x ∷ r) i
        ∙ sym (select_yes (λ x. f x && g x) x xs (ap₂ ◌&&◌ e k))
    go true e false k i = ap (select g) (select_yes f x xs e) ∙ select_no g x (select f xs) k ∙ i ∙ sym (select_no (λ x. f x && g x) x xs (ap₂ ◌&&◌ e k))
    go false e c k i = ap (select g) (select_no f x xs e) ∙ i ∙ sym (select_no (λ x. f x && g x) x xs (ap₂ ◌&&◌ e k))

keep-map : (q : List ℕ → Bool) (ms : List Modulus) (xs : List ℕ) → keep q (map (element ms) xs) ≡ map (element ms) (select (λ x. q (element ms x)) xs)
unfolding keep select
keep-map q ms [] = refl
keep-map q ms (x ∷ xs) = go (q (element ms x)) refl (keep-map q ms xs)
  where
    go : (b : Bool) → q (element ms x) ≡ b → keep q (map (element ms) xs) ≡ map (element ms) (select (λ x. q (element ms x)) xs)
        → keep q (element ms x ∷ map (element ms) xs) ≡ map (element ms) (select (λ x. q (element ms x)) (x ∷ xs))
    go true e i =
        keep-yes q (element ms x) (map (element ms) xs) e ∙ ap {B = List (List ℕ)} (λ r. element ms x ∷ r) i
        ∙ ap (map (element ms)) (sym (select_yes (λ x. q (element ms x)) x xs e))
    go false e i =
        keep-no q (element ms x) (map (element ms) xs) e ∙ i ∙ ap (map (element ms)) (sym (select_no (λ x. q (element ms x)) x xs e))

pub skips-pos : (ms : List Modulus) (x : ℕ) → 0 < x → skips ms x ≡ is_unit (element ms x)
skips-pos ms zero h = absurd (omega arith)
skips-pos ms (suc x) h = refl

-- the members of a part are the numbers of its sign but zero and the units
part-members : (c : ℕ) (ms : List Modulus)
    → map (element ms) (select (others ms) (select (λ x. eqb (sign_at ms x) c) (from 0 (size ms)))) ≡ keep (of_sign c ms) (elements ms)
unfolding elements from
part-members c ms =
    let s = size-pos ms in
    let z : size ms ≡ suc (size ms - 1) = omega arith in
    ap (map (element ms))
    (select-twice (λ x. eqb (sign_at ms x) c) (others ms) (from 0 (size ms))
    ∙ ap (λ (n : ℕ). select (λ x. eqb (sign_at ms x) c && others ms x) (from 0 n)) z
    ∙ select_no (λ x. eqb (sign_at ms x) c && others ms x) 0 (from 1 (size ms - 1)) (off (eqb (sign_at ms 0) c))
    ∙ select-same (λ x. eqb (sign_at ms x) c && others ms x) (λ x. of_sign c ms (element ms x)) 1 (size ms - 1)
    (λ y a b. ap (λ (t : Bool). eqb (sign_at ms y) c && not t) (skips-pos ms y (omega arith))))
    ∙ sym (keep-map (of_sign c ms) ms (from 1 (size ms - 1)))
  where
    off : (b : Bool) → (b && false) ≡ false
    off true = refl
    off false = refl

pub pairs-members : (ms : List Modulus) → map (element ms) (select (others ms) (blocks.plus ms)) ≡ pairs ms
unfolding blocks.plus pairs
pairs-members ms = part-members 1 ms

pub singles-members : (ms : List Modulus) → map (element ms) (select (others ms) (blocks.even ms)) ≡ singles ms
unfolding blocks.even
singles-members ms = part-members 0 ms ∙ sym (singles-signs ms)

-- ---- signs, with components behind
lead-behind : (ms ns : List Modulus) (e : List ℕ) → length e ≡ length ms → lead (ms ++ ns) (e ++ zeros ns) ≡ lead ms e
unfolding lead
lead-behind [] ns [] h = lead-zeros ns
lead-behind [] ns (x ∷ e) h = absurd (omega arith)
lead-behind (m ∷ ms) ns [] h = absurd (omega arith)
lead-behind (one ∷ ms) ns (x ∷ e) h = lead-behind ms ns e (omega arith)
lead-behind (two ∷ ms) ns (x ∷ e) h = lead-behind ms ns e (omega arith)
lead-behind (four ∷ ms) ns (zero ∷ e) h = lead-behind ms ns e (omega arith)
lead-behind (four ∷ ms) ns (suc zero ∷ e) h = refl
lead-behind (four ∷ ms) ns (suc (suc zero) ∷ e) h = lead-behind ms ns e (omega arith)
lead-behind (four ∷ ms) ns (suc (suc (suc x)) ∷ e) h = refl

sign-behind : (ms ns : List Modulus) (y : ℕ) → y < size ms → sign_at (ms ++ ns) y ≡ sign_at ms y
sign-behind ms ns y h = ap (lead (ms ++ ns)) (element-behind ms ns y h) ∙ lead-behind ms ns (element ms y) (length-element ms y)

pub sign-level : (a b j y : ℕ) → y < size (level a b j) → sign_at (moduli a b) y ≡ sign_at (level a b j) y
sign-level a b j y h =
    ap (λ (ms : List Modulus). sign_at ms y) (sym (take-append-drop (a + j) (moduli a b)))
    ∙ sign-behind (level a b j) (drop (a + j) (moduli a b)) y h

module _ (a b : ℕ) where
  pub plus-all : blocks.plus (level a b b) ≡ blocks.plus (moduli a b)
  unfolding blocks.plus
  plus-all =
      let z = size-in-use a b in
      select-same (in_plus (level a b b)) (in_plus (moduli a b)) 0 (size (level a b b)) (λ y l k. ap (λ (c : ℕ). eqb c 1) (sym (sign-level a b b y (omega arith))))
      ∙ ap (λ (n : ℕ). select (in_plus (moduli a b)) (from 0 n)) z

  pub even-all : blocks.even (level a b b) ≡ blocks.even (moduli a b)
  unfolding blocks.even
  even-all =
      let z = size-in-use a b in
      select-same (in_even (level a b b)) (in_even (moduli a b)) 0 (size (level a b b)) (λ y l k. ap (λ (c : ℕ). eqb c 0) (sym (sign-level a b b y (omega arith))))
      ∙ ap (λ (n : ℕ). select (in_even (moduli a b)) (from 0 n)) z
