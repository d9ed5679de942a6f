-- `coding::encode` meets its contract. Assumes nothing.
use Rattle.std.proofs.Common.{◌≡◌, ◌-◌, true, leb, length, sym, ◌∙◌, leb-true}
use Rattle.layout_theory.specs.Parameters.{places_of}
use Rattle.shortened_theory.specs.Calls.{fits_message}
use Rattle.shortened_theory.proofs.Guards.{message-fits}
use Rattle.loops_theory.proofs.ByFilling.{message-allowed, room-there, no_room, encode-none, encode-narrow, encode-fits}
use Rattle.coding.proofs.encode.Goals as goal
use Rattle.coding.proofs.encode.Goals.{Then-fits_message, Then-has_room, else-fits_message-via-then-fits_message+else-has_room, else-fits_message-via-else-fits_message}

-- past the first test the message is one of the code, and past the second there is room for a word
fit : (c : Then-fits_message) → let g = c.args in fits_message g.code.t g.code.r g.code.s (length g.message.now) ≡ true
fit c = sym c.fits_message.ensures ∙ c.if-fits_message.true

room : (c : Then-has_room) → let g = c.args in leb (places_of g.code.t - g.code.s) (length g.out.now) ≡ true
room c = room-there _ _ _ _ _ c.has_room.ensures c.if-has_room.true

pub encode_fit-requires : goal.encode_fit-requires
encode_fit-requires c = (message-fits _ _ _ _ (fit (goal.at.encode_fit-requires c).Then-fits_message), leb-true _ _ (room (goal.at.encode_fit-requires c).Then-has_room))

pub returns-then-has_room : goal.returns-then-has_room
returns-then-has_room c =
    let g = c.args in
    let l = goal.at.returns-then-has_room c in
    let e = encode-fits _ _ _ g.message.now g.out.now (fit l.Then-fits_message) (room l.Then-has_room) _ _ c.encode_fit.ensures.bad c.encode_fit.ensures.bytes in
    record { bad = e.bad; bytes = e.bytes }

pub returns : goal.returns
returns c =
    let g = c.args in
    elim c.else-fits_message.branch [
      | else-fits_message-via-then-fits_message+else-has_room w ↦
          let f = sym c.fits_message.ensures ∙ w.if-fits_message.true in
          let e = encode-narrow _ _ _ g.message.now g.out.now f (no_room _ _ _ _ _ w.has_room.ensures (message-allowed _ _ _ _ f) w.if-has_room.false) in
          record { bad = e.bad; bytes = e.bytes }
      | else-fits_message-via-else-fits_message w ↦
          let e = encode-none _ _ _ g.message.now g.out.now (sym c.fits_message.ensures ∙ w.if-fits_message.false) in
          record { bad = e.bad; bytes = e.bytes }
    ]
