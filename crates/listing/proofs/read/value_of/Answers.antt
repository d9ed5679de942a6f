-- `listing::read::value_of` meets its contract. The invariant: the value so far, and the digits left, give the value of all. Assumes nothing.
use native.Mathlib.Omega.{arith}
use Rattle.listing_theory.proofs.Digits.{value-small, value-step, value-end}
use Rattle.listing.proofs.read.value_of.Goals as goal

pub overflow_mul-value : goal.overflow_mul-value
overflow_mul-value c = let v = value-small _ _ _ c.loop-digit.invariant (omega arith) in omega arith

pub overflow_add-value : goal.overflow_add-value
overflow_add-value c = let v = value-small _ _ _ c.loop-digit.invariant (omega arith) in omega arith

pub loop-digit-preserved : goal.loop-digit-preserved
loop-digit-preserved c =
    value-step _ _ _ c.loop-digit.invariant _ (omega arith) (omega arith) (omega arith)

pub returns : goal.returns
returns c = value-end _ _ _ c.loop-digit.invariant (omega arith)
