-- `coding::pass` meets its contract: the sum of the two parts. Assumes nothing.
use Rattle.std.proofs.Common.{◌≡◌, ◌+◌, ◌-◌, arith}
use Rattle.layout_theory.proofs.Parameters.{sizes-known}
use Rattle.loops_theory.proofs.Passing.{bits-filled, bad-unfilled}
use Rattle.loops_theory.proofs.Answers.{places-room}
use Rattle.loops_theory.proofs.Scans.{shaped, holds-filled, check-fits, check-length, check-bad, parts-good}
use Rattle.coding.proofs.pass.Goals as goal

pub overflow_sub-message : goal.overflow_sub-message
overflow_sub-message c = (check-fits _ _ _ _ c.shape-h.ensures c.args.word.now c.requires.0).0

pub slice_bounds-read-count : goal.slice_bounds-read-count
slice_bounds-read-count c = let h = check-fits _ _ _ _ c.shape-h.ensures c.args.word.now c.requires.0 in omega (arith, h.1)

pub slice_bounds-read-start : goal.slice_bounds-read-start
slice_bounds-read-start c = let h = check-fits _ _ _ _ c.shape-h.ensures c.args.word.now c.requires.0 in omega (arith, h.1)

pub read-requires : goal.read-requires
read-requires c =
    let z = sizes-known _ _ _ (shaped _ _ _ _ _ c.shape-h.ensures c.args.word.now c.requires.0) in
    (z.room, check-length _ _ _ _ c.shape-h.ensures c.args.word.now c.requires.0)

pub overflow_add-d : goal.overflow_add-d
overflow_add-d c =
    let h = c.requires.1 in
    let f = c.requires.0 in
    let n = f.all in
    let z = f.allowed.stays in
    let w = places-room _ _ f.admitted in
    omega arith

pub message_sum-requires : goal.message_sum-requires
message_sum-requires c =
    let g = c.args in
    let z = sizes-known _ _ _ (shaped _ _ _ _ _ c.shape-h.ensures g.word.now c.requires.0) in
    let y : g.code.s + g.seen - g.code.s ≡ g.seen = omega arith in
    let o : 0 - g.code.s ≡ 0 = omega arith in
    (omega (arith, z.part), holds-filled _ _ _ _ _ c.shape-h.ensures g.word.now c.requires.0 (omega arith), bits-filled g.code.s g.word.now 0 (g.code.s + g.seen) (rw (o, y) c.requires.2))

pub returns-in_err-back : goal.returns-in_err-back
returns-in_err-back c = rw c.from_residual.ensures (check-bad _ _ _ _ c.shape-h.ensures c.args.word.now c.requires.0 c.in_err-back.ensures)

pub returns-in_err-front : goal.returns-in_err-front
returns-in_err-front c = rw c.from_residual-in_err-front.ensures (bad-unfilled c.args.code.s c.args.word.now c.in_err-front.ensures)

pub returns : goal.returns
returns c =
    let y = c.in_ok-back.ensures in
    let x = c.in_ok-front.ensures in
    parts-good _ _ _ _ c.shape-h.ensures c.args.word.now c.requires.0 _ _ _ (λ i a b. y.0 i a b) y.1 (λ i a b. x.0 i a b) x.1 c.add.ensures
