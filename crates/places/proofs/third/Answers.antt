-- `places::third` meets its contract. Assumes nothing.
use mathlib.Core.Path.{sym, ◌∙◌}
use Rattle.words_theory.specs.Calls.{TwoPlaces}
use Rattle.loops_theory.proofs.Told.{two-places, third-two, third-first-out, third-second-out, third-equal}
use Rattle.places.proofs.third.Goals as goal
use Rattle.places.proofs.third.Goals.{Then-i-j, else-is_place-via-then-is_place+then-is_place-2+else-i-j, else-is_place-via-then-is_place+else-is_place-2, else-is_place-via-else-is_place}

-- past the three tests i and j are two places
two : (c : Then-i-j) → TwoPlaces c.args.code.t c.args.code.r c.args.i c.args.j
two c =
    two-places _ _ _ _ c.shape-n.result c.shape-n.ensures
    (sym c.is_place.ensures ∙ c.if-is_place.true) (sym c.is_place-then-is_place.ensures ∙ c.if-is_place-2.true) c.if-i-j.true

pub third_of-requires : goal.third_of-requires
third_of-requires c = two c

pub returns-then-i-j : goal.returns-then-i-j
returns-then-i-j c =
    c.third_of.ensures ∙ sym (third-two _ _ _ _ c.shape-n.result c.shape-n.ensures (two (goal.at.returns-then-i-j c).Then-i-j))

pub returns-else-is_place : goal.returns-else-is_place
returns-else-is_place c =
    elim c.else-is_place.branch [
      | else-is_place-via-then-is_place+then-is_place-2+else-i-j w ↦ third-equal _ _ _ _ c.shape-n.result c.shape-n.ensures w.if-i-j.false
      | else-is_place-via-then-is_place+else-is_place-2 w ↦
          third-second-out _ _ _ _ c.shape-n.result c.shape-n.ensures (sym w.is_place-then-is_place.ensures ∙ w.if-is_place-2.false)
      | else-is_place-via-else-is_place w ↦ third-first-out _ _ _ _ c.shape-n.result c.shape-n.ensures (sym c.is_place.ensures ∙ w.if-is_place.false)
    ]
