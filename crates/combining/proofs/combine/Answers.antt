-- `combining::combine` meets its contract: two words of the code and an output with room are combined, all else is left. Assumes nothing.
use mathlib.Core.Bool.{true}
use mathlib.Core.Path.{◌≡◌, refl, sym, ◌∙◌}
use Prim.Native.Nat.{◌-◌}
use lib.Dec.{leb}
use lib.ListN.{length}
use Rattle.layout_theory.specs.Parameters.{places_of}
use Rattle.shortened_theory.specs.Code.{shortened_combine}
use Rattle.shortened_theory.specs.Calls.{allowed_for, fits_word}
use Rattle.loops_theory.proofs.ByFilling.{word-allowed, room-there, no_room, cut-for, word-enough, room-enough, written_as, combine-else, combine-none, combine-second, combine-narrow}
use Rattle.combining.proofs.combine.Goals as goal
use Rattle.combining.proofs.combine.Goals.{Then-has_room, else-fits_word-via-then-fits_word+then-fits_word-2+else-has_room, else-fits_word-via-then-fits_word+else-fits_word-2, else-fits_word-via-else-fits_word}

-- past the three tests both words fit, s is allowed with t and r, and there is room
module _ (c : Then-has_room) where
  one : fits_word c.args.code.t c.args.code.r c.args.code.s (length c.args.first.now) ≡ true
  one = sym c.fits_word.ensures ∙ c.if-fits_word.true

  two : fits_word c.args.code.t c.args.code.r c.args.code.s (length c.args.second.now) ≡ true
  two = sym c.fits_word-then-fits_word.ensures ∙ c.if-fits_word-2.true

  fine : allowed_for c.args.code.t c.args.code.r c.args.code.s ≡ true
  fine = word-allowed _ _ _ _ one

  wide : leb (places_of c.args.code.t - c.args.code.s) (length c.args.out.now) ≡ true
  wide = room-there _ _ _ _ _ c.has_room.ensures c.if-has_room.true

pub combine-requires : goal.combine-requires
combine-requires c =
    let p = (goal.at.combine-requires c).Then-has_room in
    record {
      cut = cut-for _ _ _ _ refl (fine p);
      first = word-enough _ _ _ _ refl (fine p) _ (one p);
      second = word-enough _ _ _ _ refl (fine p) _ (two p);
      room = room-enough _ _ _ _ refl (fine p) _ (wide p);
    }

pub returns-then-has_room : goal.returns-then-has_room
returns-then-has_room c =
    let p = (goal.at.returns-then-has_room c).Then-has_room in
    let g = c.args in
    c.combine.ensures
    ∙ written_as _ _ _ _ refl (fine p) (λ ms. shortened_combine ms g.code.s g.first.now g.second.now) _
    ∙ combine-else _ _ _ _ _ _ (one p) (two p) (wide p)

-- a test that fails leaves the output as it was
pub returns-else-fits_word : goal.returns-else-fits_word
returns-else-fits_word c =
    elim c.else-fits_word.branch [
      | else-fits_word-via-then-fits_word+then-fits_word-2+else-has_room w ↦
          let y = sym c.fits_word.ensures ∙ w.if-fits_word.true in
          combine-narrow _ _ _ _ _ _ y (sym w.fits_word-then-fits_word.ensures ∙ w.if-fits_word-2.true)
          (no_room _ _ _ _ _ w.has_room.ensures (word-allowed _ _ _ _ y) w.if-has_room.false)
      | else-fits_word-via-then-fits_word+else-fits_word-2 w ↦
          combine-second _ _ _ _ _ _ (sym c.fits_word.ensures ∙ w.if-fits_word.true) (sym w.fits_word-then-fits_word.ensures ∙ w.if-fits_word-2.false)
      | else-fits_word-via-else-fits_word w ↦ combine-none _ _ _ _ _ _ (sym c.fits_word.ensures ∙ w.if-fits_word.false)
    ]
