-- `coder::read_message` meets its contract: a part of the word from its first byte on, where the codeword test says yes. Assumes nothing.
use mathlib.Core.Path.{◌≡◌, sym}
use Prim.Native.Nat.{◌≤◌}
use lib.ListN.{length, take}
use lib.Seq.{length-take-le}
use Rattle.coder_theory.specs.Calls.{shown}
use Rattle.coder_theory.proofs.Outcomes.{shown-no, shown-yes}
use Rattle.coder.proofs.read_message.Goals as goal
use Rattle.coder.proofs.read_message.Goals.{After-message_length-m}

-- what is shown where the test says yes, and that the word is as long
message : (c : After-message_length-m)
    → (take c.message_length-m.result c.args.word.now ≡ shown c.args.«record» c.args.word.now)
    × (c.message_length-m.result ≤ length c.args.word.now)
message c =
    shown-yes _ _ _ c.is_codeword-a.ensures c.if-a.true _ c.message_length-m.ensures

pub slice_bounds-result-end : goal.slice_bounds-result-end
slice_bounds-result-end c = sym (length-take-le _ _ (message (goal.at.slice_bounds-result-end c).After-message_length-m).1)

pub returns-then-a-clause-bytes : goal.returns-then-a-clause-bytes
returns-then-a-clause-bytes c = (message (goal.at.returns-then-a-clause-bytes c).After-message_length-m).0

pub returns-clause-bytes : goal.returns-clause-bytes
returns-clause-bytes c = shown-no _ _ _ c.is_codeword-a.ensures c.if-a.false
