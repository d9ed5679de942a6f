-- For the loop of `halves`: one component after the other is taken off a sum over lists of numbers that double. Assumes nothing.
use mathlib.Core.Path.{◌≡◌, refl, sym, ap, ap₂, subst, ◌∙◌}
use mathlib.Core.Bool.{true, false}
use mathlib.Core.List.{List, [], ◌∷◌, ◌++◌, append_assoc}
use Prim.Native.Nat.{ℕ, zero, suc, ◌+◌, ◌-◌, ◌*◌, ◌/◌, ◌%◌, ◌<◌, ◌≤◌}
use native.Mathlib.Decide.{dec_lt}
use native.Mathlib.Omega.{arith}
use lib.ListN.{length, take, drop, set, length-set, length-append}
use lib.Seq.{take-suc, take-add, take-length, take_at, drop-cons, drop-set-lt, append_snoc, length-take-le, lt-length-set, get_or-set_same, take_all}
use borrow.Author.Tests.{lt-ltb, le-ltb}
use Rattle.group_theory.specs.Group.{Modulus, one, two, four, radix, moduli, size}
use Rattle.group_theory.specs.Weights.{weigh_on, shifted, added, total, Below}
use Rattle.group_theory.proofs.Fill.{length-moduli, moduli-two, moduli-four}
use Rattle.group_theory.proofs.Weights.{length-shifted, length-on}
use Rattle.folds_theory.specs.Folds.{stretch, stride, Doubling, Halved}
use Rattle.folds_theory.proofs.Offs.{two-off, length-stretch}
use Rattle.folds_theory.proofs.Gathers.{halve-length}

pub record Halving (a b top : ℕ) (v₀ x v r : List ℕ) (h i : ℕ) : Type 0 where
  pub few : a + b ≤ 12
  pub most : top ≤ a + b
  pub within : i ≤ top
  pub full : length r ≡ 12
  pub fits : h ≤ length v
  pub left : (L : ℕ → List ℕ) → Doubling a b top L → length (L top) ≡ length v₀
      → (length (L i) ≡ h) × (weigh_on (take i (moduli a b)) (L i) (take h v) ++ drop i r ≡ weigh_on (take top (moduli a b)) (L top) v₀ ++ drop top x)

pub halving-start : (a b top : ℕ) (v x : List ℕ) → (a + b ≤ 12) × (top ≤ a + b) → length x ≡ 12 → Halving a b top v x v x (length v) top
halving-start a b top v x h l =
    record {
      few = h.0;
      most = h.1;
      within = omega arith;
      full = l;
      fits = omega arith;
      left = λ L d e. (e, ap (λ (u : List ℕ). weigh_on (take top (moduli a b)) (L top) u ++ drop top x) (take-length v));
    }

-- the component that is taken off
module _ (a b i : ℕ) (few : a + b ≤ 12) (k : i < a + b) where
  pub last-two : i < a → take (suc i) (moduli a b) ≡ take i (moduli a b) ++ two ∷ []
  last-two h =
      let l = length-moduli a b in
      take-suc (moduli a b) i one (omega arith) ∙ ap (λ (m : Modulus). take i (moduli a b) ++ m ∷ []) (moduli-two a b i (omega arith) h)

  pub last-four : a ≤ i → take (suc i) (moduli a b) ≡ take i (moduli a b) ++ four ∷ []
  last-four h =
      let l = length-moduli a b in
      take-suc (moduli a b) i one (omega arith) ∙ ap (λ (m : Modulus). take i (moduli a b) ++ m ∷ []) (moduli-four a b i (omega arith) h (omega arith))

-- what it is
pub stride-two : (a i : ℕ) → i < a → stride a i ≡ 1
stride-two a i h = ap (λ b. elim b as (λ _. ℕ) [ true ↦ 1 | false ↦ 2 ]) (lt-ltb i a h)

pub stride-four : (a i : ℕ) → a ≤ i → stride a i ≡ 2
stride-four a i h = ap (λ b. elim b as (λ _. ℕ) [ true ↦ 1 | false ↦ 2 ]) (le-ltb i a h)

pub digit-two : (a i c : ℕ) → i < a → c ≡ stride a i * c
digit-two a i c h = let e : c ≡ 1 * c = omega arith in e ∙ ap (λ (n : ℕ). n * c) (sym (stride-two a i h))

pub digit-four : (a i c : ℕ) → a ≤ i → 2 * c ≡ stride a i * c
digit-four a i c h = ap (λ (n : ℕ). n * c) (sym (stride-four a i h))

-- one component off: L is the list of numbers with it, M without it
module _ (a b i : ℕ) (few : a + b ≤ 12) (k : i < a + b) (L M : List ℕ) (h : ℕ) (v : List ℕ) (c : ℕ) where
  abbrev ms : List Modulus
  ms = take i (moduli a b)

  abbrev low : List ℕ
  low = take h v

  abbrev high : List ℕ
  high = stretch h h v

  pub component-off : Below (size ms) M → L ≡ shifted (size ms * 0) M ++ shifted (size ms * stride a i) M → length M ≡ h → h + h ≤ length v
      → c ≡ total high % 4 % 2 → weigh_on (take (suc i) (moduli a b)) L (take (h + h) v) ≡ weigh_on ms M (added low high) ++ (stride a i * c ∷ [])
  component-off d e l f g = go (dec_lt i a)
    where
      l0 : length low ≡ length M
      l0 = length-take-le h v (omega arith) ∙ sym l

      l1 : length high ≡ length M
      l1 = length-stretch h h v (omega arith) ∙ sym l

      two-last : (p q c : ℕ) → c ≡ q % 4 % 2 → (p * (0 % 2) % 2 + q * (1 % 2) % 2) % 2 ≡ 1 * c
      two-last p q c e = omega arith

      four-last : (p q c : ℕ) → c ≡ q % 4 % 2 → (p * (0 % 4) % 4 + q * (2 % 4) % 4) % 4 ≡ 2 * c
      four-last p q c e = omega arith

      off : (m : Modulus) (n : ℕ) → take (suc i) (moduli a b) ≡ ms ++ m ∷ [] → stride a i ≡ n
          → (total low * (0 % radix m) % radix m + total high * (n % radix m) % radix m) % radix m ≡ n * c
          → weigh_on (take (suc i) (moduli a b)) L (take (h + h) v) ≡ weigh_on ms M (added low high) ++ (stride a i * c ∷ [])
      off m n x y z =
          ap₂ (λ (t : List Modulus) (u : List ℕ). weigh_on t u (take (h + h) v)) x (e ∙ ap (λ (j : ℕ). shifted (size ms * 0) M ++ shifted (size ms * j) M) y)
          ∙ ap (weigh_on (ms ++ m ∷ []) (shifted (size ms * 0) M ++ shifted (size ms * n) M)) (take-add h h v)
          ∙ two-off ms m n M d low high l0 l1
          ∙ ap (λ (j : ℕ). weigh_on ms M (added low high) ++ (j ∷ [])) (z ∙ ap (λ (j : ℕ). j * c) (sym y))

      go : Dec (i < a) → weigh_on (take (suc i) (moduli a b)) L (take (h + h) v) ≡ weigh_on ms M (added low high) ++ (stride a i * c ∷ [])
      go (yes t) = off two 1 (last-two a b i few k t) (stride-two a i t) (two-last (total low) (total high) c g)
      go (no t) = off four 2 (last-four a b i few k (omega arith)) (stride-four a i (omega arith)) (four-last (total low) (total high) c g)

-- s is the part of v that is halved, u what it becomes, and w what v becomes
pub halving-step : (a b top : ℕ) (v₀ x v r : List ℕ) (h i : ℕ) → Halving a b top v₀ x v r h i → 0 < i → (c d : ℕ) (s u w : List ℕ) → s ≡ take h v
    → (c ≡ total (stretch (length s / 2) (length s / 2) s) % 4)
    × (u ≡ added (take (length s / 2) s) (stretch (length s / 2) (length s / 2) s) ++ drop (length s / 2) s)
    → w ≡ u ++ drop h v → d ≡ stride a (i - 1) * (c % 2) → Halving a b top v₀ x w (set r (i - 1) d) (h / 2) (i - 1)
halving-step a b top v₀ x v r h zero f z c d s u w es e ew g = absurd (omega arith)
halving-step a b top v₀ x v r h (suc i) f z c d s u w es e ew g =
    let few = f.few in
    let most = f.most in
    let wi = f.within in
    let fi = f.fits in
    let fu = f.full in
    let q = h / 2 in
    let ls : length s ≡ h = ap length es ∙ length-take-le h v fi in
    let E : (c ≡ total (stretch q q s) % 4) × (u ≡ added (take q s) (stretch q q s) ++ drop q s) =
    subst (λ (k : ℕ). (c ≡ total (stretch (k / 2) (k / 2) s) % 4) × (u ≡ added (take (k / 2) s) (stretch (k / 2) (k / 2) s) ++ drop (k / 2) s)) ls e in
    let half = added (take q s) (stretch q q s) in
    let la : length half ≡ q = halve-length q s (omega arith) in
    let P : w ≡ half ++ (drop q s ++ drop h v) = ew ∙ ap (λ (l : List ℕ). l ++ drop h v) E.1 ∙ append_assoc half (drop q s) (drop h v) in
    let D : take q w ≡ half = ap (take q) P ∙ take_at half (drop q s ++ drop h v) q la in
    let R : drop i (set r i d) ≡ d ∷ drop (suc i) r =
    drop-cons (set r i d) i 0 (lt-length-set r i d (omega arith))
    ∙ ap₂ {C = List ℕ} ◌∷◌ (get_or-set_same r i d 0 (omega arith)) (drop-set-lt (suc i) r i d (omega arith)) in
    let lw : length w ≡ length half + length (drop q s ++ drop h v) = ap length P ∙ length-append half (drop q s ++ drop h v) in
    let j : suc i - 1 ≡ i = omega arith in
    rw j
    (record {
      few = few;
      most = most;
      within = omega arith;
      full = length-set r i d ∙ fu;
      fits = omega arith;
      left = λ L t y. next L t y ls E.0 D R;
    })
  where
    next : (L : ℕ → List ℕ) → Doubling a b top L → length (L top) ≡ length v₀ → length s ≡ h → c ≡ total (stretch (h / 2) (h / 2) s) % 4
        → take (h / 2) w ≡ added (take (h / 2) s) (stretch (h / 2) (h / 2) s) → drop i (set r i d) ≡ d ∷ drop (suc i) r
        → (length (L i) ≡ h / 2) × (weigh_on (take i (moduli a b)) (L i) (take (h / 2) w) ++ drop i (set r i d) ≡ weigh_on (take top (moduli a b)) (L top) v₀ ++ drop top x)
    next L t y ls E D R =
        let few = f.few in
        let most = f.most in
        let wi = f.within in
        let o = f.left L t y in
        let o0 = o.0 in
        let q = h / 2 in
        let ms = take i (moduli a b) in
        let G = t.grows i (omega arith) in
        let len : length (L (suc i)) ≡ length (L i) + length (L i) =
        ap length G ∙ length-append (shifted (size ms * 0) (L i)) (shifted (size ms * stride a i) (L i)) ∙ ap₂ ◌+◌ (length-shifted (size ms * 0) (L i)) (length-shifted (size ms * stride a i) (L i)) in
        let k : length (L i) ≡ q = omega arith in
        let hh : q + q ≡ h = omega arith in
        let j : suc i - 1 ≡ i = omega arith in
        let whole : take (q + q) s ≡ take h v = take_all (q + q) s (omega arith) ∙ es in
        let dd : d ≡ stride a i * (c % 2) = subst (λ (m : ℕ). d ≡ stride a m * (c % 2)) j g in
        let off = component-off a b i few (omega arith) (L (suc i)) (L i) q s (c % 2) (t.below i (omega arith)) G k (omega arith) (ap (λ (m : ℕ). m % 2) E) in (
          k,
          ap₂ (λ (u m : List ℕ). weigh_on ms (L i) u ++ m) D R
              ∙ ap (λ (m : ℕ). weigh_on ms (L i) (added (take q s) (stretch q q s)) ++ m ∷ drop (suc i) r) dd
              ∙ sym (append_snoc (weigh_on ms (L i) (added (take q s) (stretch q q s))) (stride a i * (c % 2)) (drop (suc i) r))
              ∙ ap (λ (u : List ℕ). u ++ drop (suc i) r) (sym off)
              ∙ ap (λ (u : List ℕ). weigh_on (take (suc i) (moduli a b)) (L (suc i)) u ++ drop (suc i) r) whole
              ∙ o.1,
        )

pub halving-done : (a b top : ℕ) (v₀ x v r : List ℕ) (h i : ℕ) → Halving a b top v₀ x v r h i → i ≤ 0 → Halved a b top v₀ x r
halving-done a b top v₀ x v r h zero f z L t y =
    ap (λ (e : List ℕ). e ++ r) (sym (nothing (weigh_on [] (L 0) (take h v)) (length-on [] (L 0) (take h v)))) ∙ (f.left L t y).1
  where
    nothing : (e : List ℕ) → length e ≡ 0 → e ≡ []
    nothing [] h = refl
    nothing (x ∷ e) h = absurd (omega arith)
halving-done a b top v₀ x v r h (suc i) f z L t y = absurd (omega arith)
