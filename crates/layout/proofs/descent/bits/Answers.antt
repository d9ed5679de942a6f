-- `layout::descent::bits` meets its contract: each turn takes the lowest binary digit. Assumes nothing.
use borrow.Author.Rules.{rules}
use mathlib.Core.Path.{refl}
use Prim.Native.Nat.{◌%◌, ◌<◌}
use native.Mathlib.Omega.{arith}
use lib.ListN.{length, drop, take-append-drop}
use Rattle.std.proofs.lemmas.List.{set-append_left, length-take-le}
use Rattle.blocks_theory.proofs.Descents.{bits-step, bits-end}
use Rattle.layout.proofs.descent.bits.Goals as goal

pub loop-digit-init : goal.loop-digit-init
loop-digit-init c = rw take-append-drop (record { up = omega arith; front = search rules; back = refl })

pub loop-digit-preserved : goal.loop-digit-preserved
loop-digit-preserved c =
    let l = c.loop-digit in
    let n = length-take-le c.args.a c.args.x (search rules) in
    let t = c.loop-digit-test.true in
    let i : l.digit-index < length l.digit-items = omega (arith, l.auto.digit-items) in
    rw (← set-append_left l.digit-items (drop c.args.a c.args.x) l.digit-index (l.left % 2) i) (bits-step _ _ _ _ _ _ c.requires l.invariant (omega arith))

pub returns : goal.returns
returns c =
    let n = length-take-le c.args.a c.args.x (search rules) in
    let t = c.loop-digit-test.false in
    bits-end _ _ _ _ _ _ c.loop-digit.invariant (omega arith)
