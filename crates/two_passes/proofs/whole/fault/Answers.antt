-- `two_passes::whole::fault` meets its contract: 0, or the place told from the syndrome. Assumes nothing.
use mathlib.Core.Path.{sym, ◌∙◌}
use native.Mathlib.Omega.{arith}
use Rattle.layout_theory.proofs.Parameters.{Known, known}
use Rattle.two_passes.proofs.Answers.{syndrome-long, fault-none, fault-short, fault-long}
use Rattle.two_passes.proofs.whole.fault.Goals as goal
use Rattle.two_passes.proofs.whole.fault.Goals.{Else-n-eq0, then-n-eq0-via-then-n-eq0, then-n-eq0-via-else-n-eq0+then-word-n}

pub returns-then-n-eq0 : goal.returns-then-n-eq0
returns-then-n-eq0 c =
    elim c.then-n-eq0.branch [
      | then-n-eq0-via-then-n-eq0 w ↦ fault-none _ _ _ _ c.shape-h.ensures w.if-n-eq0.true
      | then-n-eq0-via-else-n-eq0+then-word-n w ↦ fault-short _ _ _ _ (known _ _ _ c.shape-h.ensures (let h = w.if-n-eq0.false in omega arith)) w.if-word-n.true
    ]

-- past the tests the parameters are admitted
shaped : (c : Else-n-eq0) → Known c.args.code.t c.args.code.r c.shape-h.result
shaped c = known _ _ _ c.shape-h.ensures (let h = c.if-n-eq0.false in omega arith)

pub fault_of-requires : goal.fault_of-requires
fault_of-requires c =
    let k = shaped (goal.at.fault_of-requires c).Else-n-eq0 in
    let h = c.if-n-eq0.false in
    (c.shape-h.ensures, omega arith, omega arith, c.syndrome-e.ensures ∙ sym (syndrome-long _ _ _ _ k (omega arith)))

pub returns : goal.returns
returns c = c.fault_of.ensures ∙ fault-long _ _ _ _ (shaped (goal.at.returns c).Else-n-eq0) (omega arith)
