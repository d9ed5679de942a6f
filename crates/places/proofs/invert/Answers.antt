-- `places::invert` meets its contract: a word of the code and an output with room are swapped, all else is left. Assumes nothing.
use mathlib.Core.Bool.{true}
use mathlib.Core.Path.{◌≡◌, refl, sym, ◌∙◌}
use Prim.Native.Nat.{◌-◌}
use lib.Dec.{leb}
use lib.ListN.{length}
use Rattle.layout_theory.specs.Parameters.{places_of}
use Rattle.shortened_theory.specs.Code.{shortened_inverse}
use Rattle.shortened_theory.specs.Calls.{allowed_for, fits_word}
use Rattle.loops_theory.proofs.ByFilling.{word-allowed, room-there, no_room, cut-for, word-enough, room-enough, written_as, invert-else, invert-none, invert_narrow}
use Rattle.places.proofs.invert.Goals as goal
use Rattle.places.proofs.invert.Goals.{Then-has_room, else-fits_word-via-then-fits_word+else-has_room, else-fits_word-via-else-fits_word}

-- past the two tests the word fits, s is allowed with t and r, and there is room
module _ (c : Then-has_room) where
  fits : fits_word c.args.code.t c.args.code.r c.args.code.s (length c.args.word.now) ≡ true
  fits = sym c.fits_word.ensures ∙ c.if-fits_word.true

  fine : allowed_for c.args.code.t c.args.code.r c.args.code.s ≡ true
  fine = word-allowed _ _ _ _ fits

  wide : leb (places_of c.args.code.t - c.args.code.s) (length c.args.out.now) ≡ true
  wide = room-there _ _ _ _ _ c.has_room.ensures c.if-has_room.true

pub swap-requires : goal.swap-requires
swap-requires c =
    let p = (goal.at.swap-requires c).Then-has_room in
    record {
      cut = cut-for _ _ _ _ refl (fine p);
      word = word-enough _ _ _ _ refl (fine p) _ (fits p);
      room = room-enough _ _ _ _ refl (fine p) _ (wide p);
    }

pub returns-then-has_room : goal.returns-then-has_room
returns-then-has_room c =
    let p = (goal.at.returns-then-has_room c).Then-has_room in
    let g = c.args in
    c.swap.ensures
    ∙ written_as _ _ _ _ refl (fine p) (λ ms. shortened_inverse ms g.code.s g.word.now) _
    ∙ invert-else _ _ _ _ _ (fits p) (wide p)

-- a test that fails leaves the output as it was
pub returns-else-fits_word : goal.returns-else-fits_word
returns-else-fits_word c =
    elim c.else-fits_word.branch [
      | else-fits_word-via-then-fits_word+else-has_room w ↦
          let y = sym c.fits_word.ensures ∙ w.if-fits_word.true in
          invert_narrow _ _ _ _ _ y (no_room _ _ _ _ _ w.has_room.ensures (word-allowed _ _ _ _ y) w.if-has_room.false)
      | else-fits_word-via-else-fits_word w ↦ invert-none _ _ _ _ _ (sym c.fits_word.ensures ∙ w.if-fits_word.false)
    ]
