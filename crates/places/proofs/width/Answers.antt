-- `places::width` meets its contract: a place that is its own other half is binary. Assumes nothing.
use Rattle.places.proofs.OtherPlace.{width-nothing, width-own, width-other}
use Rattle.places.proofs.width.Goals as goal

pub returns-then-other-eq0 : goal.returns-then-other-eq0
returns-then-other-eq0 c = width-nothing _ _ _ _ c.other_half-other.ensures c.if-other-eq0.true

pub returns-then-other-place : goal.returns-then-other-place
returns-then-other-place c = width-own _ _ _ _ c.other_half-other.ensures c.if-other-eq0.false c.if-other-place.true

pub returns-else-other-place : goal.returns-else-other-place
returns-else-other-place c = width-other _ _ _ _ c.other_half-other.ensures c.if-other-eq0.false c.if-other-place.false
