-- `coding::scan_fit` meets its contract: the syndrome, or the lowest place of a byte above 1. Assumes nothing.
use Rattle.std.proofs.Common.{length, arith, rules}
use Rattle.layout_theory.specs.Parameters.{places_of}
use Rattle.shortened_theory.specs.Calls.{Fits}
use Rattle.shortened_theory.proofs.Guards.{word_fits}
use Rattle.loops_theory.proofs.Passing.{bits-zero, bad-place}
use Rattle.loops_theory.proofs.ByFilling.{scan-bad, scan_good}
use Rattle.loops_theory.proofs.Scans.{bad-small}
use Rattle.coding.proofs.scan_fit.Goals as goal
use Rattle.coding.proofs.scan_fit.Goals.{Start}

fits : (b : Start) → let g = b.args in Fits g.code.t g.code.r g.code.s (places_of g.code.t) (length g.word.now)
fits b = word_fits _ _ _ _ b.requires

pub pass-requires : goal.pass-requires
pass-requires c = let f = c.in-Some.ensures in (fits (goal.at.pass-requires c).Start, f.1, λ i a b. f.2 i a b)

pub overflow_cast-result : goal.overflow_cast-result
overflow_cast-result c =
    let h = bad-small _ _ _ _ c.args.word.now (fits (goal.at.overflow_cast-result c).Start) (omega arith) _ c.first_bad.ensures in
    search rules

pub overflow_cast-result-in-None : goal.overflow_cast-result-in-None
overflow_cast-result-in-None c =
    let h = bad-small _ _ _ _ c.args.word.now (fits (goal.at.overflow_cast-result-in-None c).Start) (omega arith) _ c.first_bad-in-None.ensures in
    search rules

pub returns-in_default : goal.returns-in_default
returns-in_default c = scan-bad _ _ _ c.args.word.now c.requires _ c.first_bad.ensures (bad-place c.args.word.now c.in_default.ensures)

pub returns-in-Some-pass : goal.returns-in-Some-pass
returns-in-Some-pass c =
    let x = c.in-Some-pass.ensures in
    scan_good _ _ _ c.args.word.now c.requires _ (bits-zero c.args.word.now (λ i a b. x.0 i a b)) x.1

pub returns-in-None : goal.returns-in-None
returns-in-None c = scan-bad _ _ _ c.args.word.now c.requires _ c.first_bad-in-None.ensures (bad-place c.args.word.now c.in-None.ensures)
