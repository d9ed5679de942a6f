-- The message laid out as weights: what their sum is, and the weights of one list of numbers after the other. Assumes nothing.
use mathlib.Core.Path.{◌≡◌, refl, sym, ap, ap₂, ◌∙◌}
use mathlib.Core.Bool.{Bool, true, false, not}
use mathlib.Core.List.{List, [], ◌∷◌, ◌++◌, map}
use Prim.Native.Nat.{ℕ, zero, suc, ◌+◌, ◌*◌, ◌<◌, ◌≤◌}
use native.Mathlib.Omega.{arith}
use lib.ListN.{length, drop}
use Rattle.group_theory.specs.Group.{Modulus, tl, sum, times, element}
use Rattle.group_theory.specs.Weights.{weigh_on}
use Rattle.group_theory.proofs.Laws.{zero-sum, times_zero}
use Rattle.group_theory.proofs.Weights.{valid-on}
use Rattle.layout_theory.specs.Layout.{Slot, from}
use Rattle.blocks_theory.specs.Blocks.{select, skips, others}
use Rattle.blocks_theory.proofs.Blocks.{select_yes, select_no}
use Rattle.folds_theory.specs.Folds.{twice}
use Rattle.words_theory.specs.Syndrome.{syndrome_over}
use Rattle.loops_theory.specs.Spread.{read_of, rest_of, width_of, slot_of, each_of, weight_of, spread, row}

-- ---- one weight
module _ (p : Bool) (ms : List Modulus) (x : ℕ) (xs w : List ℕ) where
  pub spread-yes : skips ms x ≡ true → spread p ms (x ∷ xs) w ≡ weight_of p 0 (spread p ms xs w)
  unfolding spread
  spread-yes e = rw e refl

  pub spread-no : skips ms x ≡ false → spread p ms (x ∷ xs) w ≡ weight_of p (read_of p w) (spread p ms xs (rest_of p w))
  unfolding spread
  spread-no e = rw e refl

pub weight-append : (p : Bool) (d : ℕ) (u v : List ℕ) → weight_of p d (u ++ v) ≡ weight_of p d u ++ v
weight-append true d u v = refl
weight-append false d u v = refl

-- it adds its digit times the element
on-weight : (p : Bool) (ms : List Modulus) (x d : ℕ) (xs v : List ℕ)
    → weigh_on ms (each_of p (x ∷ xs)) (weight_of p d v) ≡ sum ms (times ms d (element ms x)) (weigh_on ms (each_of p xs) v)
unfolding weigh_on twice
on-weight true ms x d xs v =
    ap (sum ms (times ms d (element ms x)))
    (ap (λ (r : List ℕ). sum ms r (weigh_on ms (twice xs) v)) (times_zero ms (element ms x)) ∙ zero-sum ms (weigh_on ms (twice xs) v) (valid-on ms (twice xs) v))
on-weight false ms x d xs v = refl

on_none : (p : Bool) (ms : List Modulus) (x : ℕ) (xs v : List ℕ) → weigh_on ms (each_of p (x ∷ xs)) (weight_of p 0 v) ≡ weigh_on ms (each_of p xs) v
on_none p ms x xs v =
    on-weight p ms x 0 xs v
    ∙ ap (λ (r : List ℕ). sum ms r (weigh_on ms (each_of p xs) v)) (times_zero ms (element ms x))
    ∙ zero-sum ms (weigh_on ms (each_of p xs) v) (valid-on ms (each_of p xs) v)

syndrome-slot : (p : Bool) (ms : List Modulus) (e : List ℕ) (sl : List Slot) (w : List ℕ)
    → syndrome_over ms (slot_of p e ∷ sl) w ≡ sum ms (times ms (read_of p w) e) (syndrome_over ms sl (rest_of p w))
unfolding syndrome_over
syndrome-slot true ms e sl w = refl
syndrome-slot false ms e sl w = refl

-- the sum over the list is that over the slots
pub on-spread : (p : Bool) (ms : List Modulus) (xs w : List ℕ)
    → weigh_on ms (each_of p xs) (spread p ms xs w) ≡ syndrome_over ms (map (slot_of p) (map (element ms) (select (others ms) xs))) w
unfolding weigh_on spread select syndrome_over twice
on-spread true ms [] w = refl
on-spread false ms [] w = refl
on-spread p ms (x ∷ xs) w = go (skips ms x) refl (λ z. on-spread p ms xs z)
  where
    go : (b : Bool) → skips ms x ≡ b → ((z : List ℕ) → weigh_on ms (each_of p xs) (spread p ms xs z) ≡ syndrome_over ms (map (slot_of p) (map (element ms) (select (others ms) xs))) z)
        → weigh_on ms (each_of p (x ∷ xs)) (spread p ms (x ∷ xs) w) ≡ syndrome_over ms (map (slot_of p) (map (element ms) (select (others ms) (x ∷ xs)))) w
    go true e i =
        rw e (on_none p ms x xs _
        ∙ i w
        ∙ ap (λ (ys : List ℕ). syndrome_over ms (map (slot_of p) (map (element ms) ys)) w) (sym (select_no (others ms) x xs (ap not e))))
    go false e i =
        rw e (on-weight p ms x (read_of p w) xs _
        ∙ ap (sum ms (times ms (read_of p w) (element ms x))) (i (rest_of p w))
        ∙ sym (syndrome-slot p ms (element ms x) (map (slot_of p) (map (element ms) (select (others ms) xs))) w)
        ∙ ap (λ (ys : List ℕ). syndrome_over ms (map (slot_of p) (map (element ms) ys)) w) (sym (select_yes (others ms) x xs (ap not e))))

-- ---- one list after the other
drop-tl : (w : List ℕ) (i : ℕ) → drop i (tl w) ≡ drop (suc i) w
drop-tl [] zero = refl
drop-tl [] (suc i) = refl
drop-tl (x ∷ w) i = refl

pub drop-rest : (p : Bool) (w : List ℕ) (n : ℕ) → drop (width_of p * n) (rest_of p w) ≡ drop (width_of p * suc n) w
drop-rest true w n =
    let e : 2 * suc n ≡ suc (suc (2 * n)) = omega arith in
    rw e (drop-tl (tl w) (2 * n) ∙ drop-tl w (suc (2 * n)))
drop-rest false w n =
    let e : 1 * suc n ≡ suc (1 * n) = omega arith in
    rw e (drop-tl w (1 * n))

-- how many numbers of a list are neither zero nor units
abbrev pub free : List Modulus → List ℕ → ℕ
free ms xs = length (select (others ms) xs)

pub spread-append : (p : Bool) (ms : List Modulus) (xs ys w : List ℕ)
    → spread p ms (xs ++ ys) w ≡ spread p ms xs w ++ spread p ms ys (drop (width_of p * free ms xs) w)
unfolding spread select
spread-append p ms [] ys w = let e : width_of p * 0 ≡ 0 = none p in rw e refl
  where
    none : (p : Bool) → width_of p * 0 ≡ 0
    none true = omega arith
    none false = omega arith
spread-append p ms (x ∷ xs) ys w = go (skips ms x) refl (λ z. spread-append p ms xs ys z)
  where
    go : (b : Bool) → skips ms x ≡ b → ((z : List ℕ) → spread p ms (xs ++ ys) z ≡ spread p ms xs z ++ spread p ms ys (drop (width_of p * free ms xs) z))
        → spread p ms (x ∷ (xs ++ ys)) w ≡ spread p ms (x ∷ xs) w ++ spread p ms ys (drop (width_of p * free ms (x ∷ xs)) w)
    go true e i =
        let f : free ms (x ∷ xs) ≡ free ms xs = ap length (select_no (others ms) x xs (ap not e)) in
        spread-yes p ms x (xs ++ ys) w e ∙ ap (weight_of p 0) (i w) ∙ weight-append p 0 (spread p ms xs w) (spread p ms ys (drop (width_of p * free ms xs) w))
        ∙ ap₂ (λ (r : List ℕ) (n : ℕ). r ++ spread p ms ys (drop (width_of p * n) w)) (sym (spread-yes p ms x xs w e)) (sym f)
    go false e i =
        let f : free ms (x ∷ xs) ≡ suc (free ms xs) = ap length (select_yes (others ms) x xs (ap not e)) in
        spread-no p ms x (xs ++ ys) w e ∙ ap (weight_of p (read_of p w)) (i (rest_of p w))
        ∙ weight-append p (read_of p w) (spread p ms xs (rest_of p w)) (spread p ms ys (drop (width_of p * free ms xs) (rest_of p w)))
        ∙ ap₂ (λ (r s : List ℕ). r ++ spread p ms ys s) (sym (spread-no p ms x xs w e)) (drop-rest p w (free ms xs) ∙ ap (λ (n : ℕ). drop (width_of p * n) w) (sym f))

-- numbers of which none is left out
pub spread_row : (p : Bool) (ms : List Modulus) (f : ℕ → Bool) (x k : ℕ) (w : List ℕ) → ((y : ℕ) → x ≤ y → y < x + k → f y ≡ true → skips ms y ≡ false)
    → (spread p ms (select f (from x k)) w ≡ row p (length (select f (from x k))) w) × (free ms (select f (from x k)) ≡ length (select f (from x k)))
unfolding spread select from row
spread_row p ms f x zero w h = (refl, refl)
spread_row p ms f x (suc k) w h = go (f x) refl (λ z. spread_row p ms f (suc x) k z (λ y a b. h y (omega arith) (omega arith)))
  where
    go : (b : Bool) → f x ≡ b → ((z : List ℕ) → (spread p ms (select f (from (suc x) k)) z ≡ row p (length (select f (from (suc x) k))) z) × (free ms (select f (from (suc x) k)) ≡ length (select f (from (suc x) k))))
        → (spread p ms (select f (x ∷ from (suc x) k)) w ≡ row p (length (select f (x ∷ from (suc x) k))) w) × (free ms (select f (x ∷ from (suc x) k)) ≡ length (select f (x ∷ from (suc x) k)))
    go false e i = rw (select_no f x (from (suc x) k) e) (i w)
    go true e i =
        let n = h x (omega arith) (omega arith) e in
        rw (select_yes f x (from (suc x) k) e) (
          spread-no p ms x (select f (from (suc x) k)) w n ∙ ap (weight_of p (read_of p w)) (i (rest_of p w)).0,
          ap length (select_yes (others ms) x (select f (from (suc x) k)) (ap not n)) ∙ ap suc (i w).1,
        )

-- how many weights there are
pub length-spread : (p : Bool) (ms : List Modulus) (xs w : List ℕ) → length (spread p ms xs w) ≡ length (each_of p xs)
unfolding spread twice
length-spread true ms [] w = refl
length-spread false ms [] w = refl
length-spread p ms (x ∷ xs) w = go (skips ms x) refl (λ z. length-spread p ms xs z)
  where
    more : (p : Bool) (d : ℕ) (v : List ℕ) → length v ≡ length (each_of p xs) → length (weight_of p d v) ≡ length (each_of p (x ∷ xs))
    more true d v e = ap (λ (n : ℕ). suc (suc n)) e
    more false d v e = ap suc e

    go : (b : Bool) → skips ms x ≡ b → ((z : List ℕ) → length (spread p ms xs z) ≡ length (each_of p xs)) → length (spread p ms (x ∷ xs) w) ≡ length (each_of p (x ∷ xs))
    go true e i = ap length (spread-yes p ms x xs w e) ∙ more p 0 (spread p ms xs w) (i w)
    go false e i = ap length (spread-no p ms x xs w e) ∙ more p (read_of p w) (spread p ms xs (rest_of p w)) (i (rest_of p w))
