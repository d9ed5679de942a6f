-- `two_passes::bytes::byte` meets its contract. Assumes nothing.
use mathlib.Core.Path.{sym, ap, ◌∙◌}
use mathlib.Core.List.{[]}
use Rattle.coder_theory.specs.Reasons.{bad_byte}
use Rattle.coder_theory.specs.Calls.{answer_of}
use Rattle.coder_theory.proofs.Firsts.{first-no, first-end}
use Rattle.coder_theory.proofs.Outcomes.{byte-bad, byte-good}
use Rattle.two_passes.proofs.bytes.byte.Goals as goal

pub returns-then-p-eq0 : goal.returns-then-p-eq0
returns-then-p-eq0 c = sym (ap answer_of (first-no (bad_byte _) [] (byte-good _ _ c.bad_place-p.ensures c.if-p-eq0.true) ∙ first-end))

pub returns : goal.returns
returns c = byte-bad _ _ c.bad_place-p.ensures c.if-p-eq0.false []
