-- `coding::filled::Filled::single_segment` meets its contract. Assumes nothing.
use Rattle.std.proofs.Common.{ℕ, false, drop}
use Rattle.shortened_theory.specs.Code.{fill}
use Rattle.loops_theory.specs.Spread.{row}
use Rattle.loops_theory.proofs.Parts.{put_first}
use Rattle.coding.proofs.filled.Filled.single_segment.Goals as goal

pub returns : goal.returns
returns c =
    let g = c.args in
    let s = g.self.now in
    put_first g.v.now _ (λ (n : ℕ). row false n (drop g.at (fill s.d s.word.now))) c.requires.0 c.bytes.ensures
