-- `coding::bits::front` meets its contract. Assumes nothing.
use Rattle.std.proofs.Common.{length, sym, arith, length-take-le}
use Rattle.loops_theory.proofs.Passing.{head-short, head-middle, head-long, front-says, front-told}
use Rattle.coding.proofs.bits.front.Goals as goal

pub returns-then-n-lt192 : goal.returns-then-n-lt192
returns-then-n-lt192 c =
    let w = c.args.word.now in
    front-says w (length w) (omega arith) (head-short (length w) c.if-n-lt192.true) _ _ c.then_some.ensures c.bits.ensures

pub returns-then-n-lt1024 : goal.returns-then-n-lt1024
returns-then-n-lt1024 c =
    let w = c.args.word.now in
    front-told w 192 c.if-n-lt192.false (head-middle (length w) c.if-n-lt192.false c.if-n-lt1024.true) _ _ c.then_some-then-n-lt1024.ensures c.bits-then-n-lt1024.ensures

pub slice_bounds-bits-end-2 : goal.slice_bounds-bits-end-2
slice_bounds-bits-end-2 c = sym (length-take-le 512 c.args.word.now (omega arith))

pub returns : goal.returns
returns c =
    let w = c.args.word.now in
    front-told w 512 (omega arith) (head-long (length w) c.if-n-lt192.false c.if-n-lt1024.false) _ _ c.then_some-2.ensures c.bits-2.ensures
