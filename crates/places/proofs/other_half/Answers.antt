-- `places::other_half` meets its contract. Assumes nothing.
use mathlib.Core.Path.{sym, ◌∙◌}
use Rattle.places.proofs.OtherPlace.{half-there, half-nowhere}
use Rattle.places.proofs.other_half.Goals as goal

pub returns-then-is_place : goal.returns-then-is_place
returns-then-is_place c =
    half-there _ _ _ c.shape-h.ensures _ (sym c.is_place.ensures ∙ c.if-is_place.true) _ c.other_index.ensures.at

pub returns-else-is_place : goal.returns-else-is_place
returns-else-is_place c = half-nowhere _ _ _ c.shape-h.ensures _ (sym c.is_place.ensures ∙ c.if-is_place.false)
