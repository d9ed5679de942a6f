-- `two_passes::place::fault_of` meets its contract. Assumes nothing.
use mathlib.Core.Path.{◌≡◌, ap, ◌∙◌}
use mathlib.Core.List.{List}
use Prim.Native.Nat.{ℕ, ◌-◌, ◌<◌}
use native.Mathlib.Omega.{arith}
use lib.Dec.{eqb}
use lib.ListN.{get_or}
use Rattle.group_theory.specs.Group.{moduli, negative}
use Rattle.layout_theory.specs.Parameters.{moduli_for}
use Rattle.layout_theory.specs.Calls.{place_for}
use Rattle.layout_theory.proofs.Parameters.{Known, known}
use Rattle.words_theory.specs.Calls.{fault_at, fault}
use Rattle.words_theory.proofs.Shapes.{other-within}
use Rattle.loops_theory.proofs.Faults.{pick-lt, place-within, fault-nothing, fault-something}
use Rattle.two_passes.proofs.place.fault_of.Goals as goal
use Rattle.two_passes.proofs.place.fault_of.Goals.{After-half-j, After-other_index-k, After-place_of-p, Else-p-eq0, Start}

shaped : (c : Start) → Known c.args.code.t c.args.code.r c.args.h
shaped c = known _ _ _ c.requires.0 c.requires.1

-- the element is the word's syndrome
told : (c : Start)
    → let g = c.args in
    fault_at (moduli_for g.code.t g.code.r) g.e g.word.now ≡ fault (moduli_for g.code.t g.code.r) g.word.now
told c = let g = c.args in ap (λ (x : List ℕ). fault_at (moduli_for g.code.t g.code.r) x g.word.now) c.requires.3

-- what was looked for is minus the element
found : (c : After-place_of-p) → let g = c.args in c.place_of-p.result ≡ place_for g.code.t g.code.r (negative (moduli g.h.a g.h.b) g.e)
found c = let g = c.args in c.place_of-p.ensures ∙ ap (λ (m : List ℕ). place_for g.code.t g.code.r m) c.neg-m.ensures

pub returns-then-p-eq0 : goal.returns-then-p-eq0
returns-then-p-eq0 c =
    let q = (goal.at.returns-then-p-eq0 c).After-place_of-p in
    let s = (goal.at.returns-then-p-eq0 c).Start in
    fault-nothing _ _ _ (shaped s) c.args.word.now _ _ (found q) c.if-p-eq0.true ∙ told s

-- the index of the place found, that of its other half, and the one chosen are below n
index-lt : (c : Else-p-eq0) → let q = (goal.at.Else-p-eq0 c).After-place_of-p in c.place_of-p.result - 1 < c.args.h.places
index-lt c =
    let s = (goal.at.Else-p-eq0 c).Start in
    let h = place-within _ _ _ (shaped s) _ _ c.place_of-p.ensures in
    let n = c.if-p-eq0.false in
    omega arith

other-lt : (c : After-other_index-k) → c.other_index-k.result < c.args.h.places
other-lt c =
    let h = other-within c.args.h (_, _, c.requires.0) c.requires.1 _ (index-lt (goal.at.After-other_index-k c).Else-p-eq0) in
    omega (arith, c.other_index-k.ensures)

half_lt : (c : After-half-j) → c.half-j.result < c.args.h.places
half_lt c =
    let o = (goal.at.After-half-j c).After-other_index-k in
    let w = c.args.word.now in
    let i = c.place_of-p.result - 1 in
    let k = c.other_index-k.result in
    pick-lt (eqb (get_or w i 0) (get_or w k 0)) i k _ _ c.half-j.ensures (index-lt (goal.at.After-half-j c).Else-p-eq0) (other-lt o)

pub other_index-k-requires : goal.other_index-k-requires
other_index-k-requires c =
    ((_, _, c.requires.0), index-lt c)

pub bounds-word-i : goal.bounds-word-i
bounds-word-i c = let h = index-lt (goal.at.bounds-word-i c).Else-p-eq0 in omega (arith, c.requires.2)

pub bounds-word-k : goal.bounds-word-k
bounds-word-k c = let h = other-lt (goal.at.bounds-word-k c).After-other_index-k in omega (arith, c.requires.2)

pub overflow_add-result : goal.overflow_add-result
overflow_add-result c = let h = half_lt c in omega arith

pub overflow_cast-result : goal.overflow_cast-result
overflow_cast-result c = let h = half_lt c in omega arith

pub returns : goal.returns
returns c =
    let q = (goal.at.returns c).After-place_of-p in
    let s = (goal.at.returns c).Start in
    fault-something _ _ _ (shaped s) _ _ _ (found q) c.if-p-eq0.false _ _ c.other_index-k.ensures c.half-j.ensures
    ∙ told s
