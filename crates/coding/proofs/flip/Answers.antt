-- `coding::flip` meets its contract: the word is copied, and then one place is flipped. Assumes nothing.
use Rattle.std.proofs.Common.{◌∙◌}
use Rattle.loops_theory.proofs.Faults.{flip-copied, flip-narrow, flip-whole}
use Rattle.coding.proofs.flip.Goals as goal

pub returns-then-out-word : goal.returns-then-out-word
returns-then-out-word c = flip-narrow _ _ _ c.if-out-word.true

pub returns : goal.returns
returns c =
    let g = c.args in
    flip-copied g.word.now g.out.now _ _ g.place c.copy.ensures c.flip_in_place.ensures
    ∙ flip-whole g.word.now g.out.now g.place c.if-out-word.false
