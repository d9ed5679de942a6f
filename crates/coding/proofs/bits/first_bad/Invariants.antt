-- What the loop of `coding::bits::first_bad` keeps true.
use Rattle.std.proofs.Common.{◌≡◌, ◌+◌, ◌-◌, ◌≤◌, length, drop}
use Rattle.words_theory.specs.Calls.{bad_from}
use Rattle.coding.proofs.bits.first_bad.Given as goal

abbrev pub invariant-loop-start : goal.invariant-loop-start
invariant-loop-start l = (l.start ≤ length l.word) × (bad_from (l.start + 1) (drop l.start l.word) ≡ bad_from 1 l.word)

abbrev pub decreases-loop-start : goal.decreases-loop-start
decreases-loop-start l = length l.word - l.start
