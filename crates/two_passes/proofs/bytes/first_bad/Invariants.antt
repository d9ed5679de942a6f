-- What the loop of `two_passes::bytes::first_bad` keeps true.
use mathlib.Core.Path.{◌≡◌}
use Prim.Native.Nat.{◌+◌, ◌≤◌}
use lib.ListN.{length, drop}
use Rattle.words_theory.specs.Calls.{bad_from}
use Rattle.coder_theory.specs.Reasons.{bad_place}
use Rattle.two_passes.proofs.bytes.first_bad.Given as goal

abbrev pub invariant-loop-i : goal.invariant-loop-i
invariant-loop-i l = (l.i ≤ length l.word) × (bad_from (l.i + 1) (drop l.i l.word) ≡ bad_place l.word)
