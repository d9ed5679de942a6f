-- `two_passes::weights::Message::new` meets its contract. Assumes nothing.
use native.Mathlib.Omega.{arith}
use Rattle.layout_theory.proofs.Parameters.{Known, known, sizes-known}
use Rattle.loops_theory.proofs.Answers.{holds-message}
use Rattle.two_passes.proofs.weights.Message.new.Goals as goal
use Rattle.two_passes.proofs.weights.Message.new.Goals.{Start}

shaped : (c : Start) → Known c.requires.0.0 c.requires.0.1 c.args.h
shaped c = known _ _ _ c.requires.0.2 c.requires.1

pub overflow_sub-result : goal.overflow_sub-result
overflow_sub-result c = let z = sizes-known _ _ _ (shaped (goal.at.overflow_sub-result c).Start) in omega (arith, z.part)

pub invariant_of-result : goal.invariant_of-result
invariant_of-result c = record { whole = holds-message _ _ _ _ (shaped (goal.at.invariant_of-result c).Start) c.requires.2 }
