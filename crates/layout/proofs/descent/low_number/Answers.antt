-- `layout::descent::low_number` meets its contract: the digits are read from the last binary one down. Assumes nothing.
use borrow.Author.Rules.{rules}
use mathlib.Core.Path.{◌≡◌, refl, sym, ap, subst, ◌∙◌}
use mathlib.Core.List.{List, [], ◌∷◌, ◌++◌, append_assoc}
use Prim.Native.Nat.{ℕ, suc, ◌+◌, ◌-◌, ◌*◌, ◌%◌, ◌^◌, ◌<◌, ◌≤◌}
use native.Mathlib.Omega.{arith}
use lib.ListN.{length, get_or, take, drop, take-append-drop}
use Rattle.std.proofs.lemmas.List.{length-append, length-take-le, get_or_at, drop_at}
use Rattle.group_theory.specs.Group.{moduli, number}
use Rattle.blocks_theory.proofs.Rising.{number-start, low_turn}
use Rattle.layout.proofs.descent.low_number.Goals as goal
use Rattle.layout.proofs.descent.low_number.Goals.{In-Some}

-- the digit d read, of the first digits r of x, of which s are left
read : (a : ℕ) (x r s : List ℕ) (d u : ℕ) → a ≤ 12 → length x ≡ 12 → r ≡ s ++ d ∷ []
    → (length r ≤ a) × (x ≡ r ++ drop (length r) x) × (u ≡ number (drop (length r) (moduli a 0)) (drop (length r) x))
    → (length s ≤ a) × (x ≡ s ++ drop (length s) x) × (2 * u + d % 2 ≡ number (drop (length s) (moduli a 0)) (drop (length s) x))
    × (2 * u + d % 2 < 2 ^ 24)
read a x r s d u h l e v =
    let n : length r ≡ suc (length s) = omega (arith, ap length e, length-append s (d ∷ [])) in
    let q : x ≡ s ++ d ∷ drop (length r) x = v.1 ∙ ap (λ (k : List ℕ). k ++ drop (length r) x) e ∙ append_assoc s (d ∷ []) (drop (length r) x) in
    let g : get_or x (length s) 0 ≡ d = ap (λ (k : List ℕ). get_or k (length s) 0) q ∙ get_or_at s d _ 0 _ refl in
    let b : drop (length s) x ≡ d ∷ drop (length r) x = ap (drop (length s)) q ∙ drop_at s _ _ refl in
    let m : length r - 1 ≡ length s = omega arith in
    let t =
    subst (λ (k : ℕ). (2 * u + get_or x k 0 % 2 ≡ number (drop k (moduli a 0)) (drop k x)) × (2 * u + get_or x k 0 % 2 < 2 ^ 24)) m (low_turn a x u (length r) h l (omega arith) v.0 v.2) in
    let f = rw g at t in
    (omega (arith, v.0), q ∙ ap (λ (k : List ℕ). s ++ k) (sym b), f.0, f.1)

-- what a turn makes
turn : (c : In-Some)
    → let s = c.next.new.self.iter.rest.now in
    let g = c.args in
    let v = 2 * c.loop-digit.u + c.in-Some.digit.now % 2 in
    (length s ≤ g.a) × (g.x ≡ s ++ drop (length s) g.x) × (v ≡ number (drop (length s) (moduli g.a 0)) (drop (length s) g.x)) × (v < 2 ^ 24)
turn c = read c.args.a c.args.x _ _ _ _ c.requires (search rules) c.in-Some.ensures.steps c.loop-digit.invariant

pub loop-digit-init : goal.loop-digit-init
loop-digit-init c =
    let e : c.into_iter-digit-iterator.result.iter.rest.now ≡ take c.args.a c.args.x = search rules in
    let n = length-take-le c.args.a c.args.x (search rules) in
    rw (e, n) (omega arith, sym (take-append-drop c.args.a c.args.x), number-start c.args.a (drop c.args.a c.args.x))

pub overflow_mul-u : goal.overflow_mul-u
overflow_mul-u c = let t = turn c in omega (arith, t.3)

pub overflow_add-u : goal.overflow_add-u
overflow_add-u c = let t = turn (goal.at.overflow_add-u c).In-Some in omega (arith, t.3, c.from.ensures)

pub loop-digit-preserved : goal.loop-digit-preserved
loop-digit-preserved c = let t = turn (goal.at.loop-digit-preserved c).In-Some in (t.0, t.1, rw c.from.ensures t.2)

pub returns : goal.returns
returns c =
    let z : length c.loop-digit.digit-iterator.iter.rest.now ≡ 0 = search rules in
    rw z at c.loop-digit.invariant.2
