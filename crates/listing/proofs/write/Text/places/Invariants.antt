-- What the loop of `listing::write::Text::places` keeps true: the lines of the places before p are appended.
use Prim.Native.Nat.{◌≤◌, ◌+◌, ◌-◌}
use Rattle.listing_theory.specs.Sheet.{place_lines}
use Rattle.listing.specs.Appends.{Appends}
use Rattle.listing.proofs.write.Text.places.Given as goal

abbrev pub invariant-loop-p : goal.invariant-loop-p
invariant-loop-p l = record { within : l.p ≤ l.n + 1; lines : Appends l.initial.self (place_lines l.code 1 (l.p - 1)) l.self }
