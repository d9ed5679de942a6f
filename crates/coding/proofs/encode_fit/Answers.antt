-- `coding::encode_fit` meets its contract: the message and its check digits, or nothing. Assumes nothing.
use Rattle.std.proofs.Common.{◌≡◌, ◌+◌, ◌*◌, ◌++◌, length, drop, ap, arith, rules}
use Rattle.layout_theory.proofs.Parameters.{sizes-known}
use Rattle.loops_theory.proofs.ByFilling.{told-none, told-bad}
use Rattle.loops_theory.proofs.Parts.{put_over, length-put}
use Rattle.loops_theory.proofs.Passing.{bad-unfilled, bad-place, length-rest}
use Rattle.loops_theory.proofs.Scans.{bad-small, shaped, holds-filled, message-bits, encoded-good, encoded-bad}
use Rattle.coding.proofs.encode_fit.Goals as goal

pub message_sum-requires : goal.message_sum-requires
message_sum-requires c =
    let g = c.args in
    let z = sizes-known _ _ _ (shaped _ _ _ _ _ c.shape-h.ensures g.message.now c.requires.0) in
    (omega (arith, z.part), holds-filled _ _ _ _ _ c.shape-h.ensures g.message.now c.requires.0 (omega arith), λ i h l. absurd (omega arith))

pub overflow_cast-result : goal.overflow_cast-result
overflow_cast-result c =
    let h = bad-small _ _ _ _ c.args.message.now c.requires.0 (omega arith) _ c.first_bad.ensures in
    search rules

pub returns-in_default : goal.returns-in_default
returns-in_default c =
    let w = c.args.message.now in
    let h = bad-place w (bad-unfilled c.args.code.s w c.in_default.ensures) in
    record {
      bad = told-bad _ _ _ c.first_bad.ensures h;
      bytes = encoded-bad _ _ _ _ c.shape-h.ensures w c.requires.0 c.args.out.now h;
    }

pub write-requires : goal.write-requires
write-requires c =
    let g = c.args in
    let k = shaped _ _ _ _ _ c.shape-h.ensures g.message.now c.requires.0 in
    let z = sizes-known _ _ _ k in
    let a = c.requires.0.all in
    let h = c.requires.1 in
    let n = length g.message.now in
    let e : length c.copy.new.to ≡ n = ap length c.copy.ensures in
    let l = length-put n g.out.now c.copy.new.to e (omega (arith, z.check, k.message, k.places)) in
    let r = length-rest (c.copy.new.to ++ drop n g.out.now) n in
    (z.room, omega (arith, z.check, k.message, k.places))

pub returns : goal.returns
returns c =
    let g = c.args in
    let e = c.shape-h.ensures in
    let h = c.shape-h.result in
    let x = c.in-Some.ensures in
    let z = message-bits _ _ _ _ e g.message.now c.requires.0 (λ i a b. x.0 i a b) in
    record {
      bad = told-none _ _ z;
      bytes = encoded-good _ _ _ _ e g.message.now c.requires.0 g.out.now _ _ _ z x.1 c.neg-y.ensures
          (put_over g.message.now g.out.now _ _ _ (h.a + 2 * h.b) c.copy.ensures c.write.ensures);
    }
