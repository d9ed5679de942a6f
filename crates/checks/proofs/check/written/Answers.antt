-- `checks::check::written` meets its contract: a word of its length has few enough bytes for its places to be told. Assumes nothing.
use mathlib.Core.Path.{sym, ap}
use Rattle.coder_theory.specs.declared.Answer.{Answer}
use Rattle.checks.proofs.Lengths.{few-places}
use Rattle.checks.proofs.check.written.Goals as goal

pub all_bits-requires : goal.all_bits-requires
all_bits-requires c = few-places c.args.«record» c.args.word.now c.args.room (sym (ap (λ (a : Answer). a.refusal) c.in_ok-word.ensures))
