-- `listing::write::Text::places` meets its contract: where the loop ends, p is past the last place, or at it. Assumes nothing.
use mathlib.Core.Path.{◌≡◌, ap, sym}
use Prim.Native.Nat.{ℕ, ◌+◌, ◌-◌}
use native.Mathlib.Omega.{arith}
use Rattle.listing_theory.specs.Sheet.{place_lines}
use Rattle.listing_theory.proofs.Lengths.{lines-length, lines-next}
use Rattle.listing.specs.Appends.{Appends}
use Rattle.listing.proofs.Texts.{nothing, both, named}
use Rattle.listing.proofs.write.Text.places.Goals as goal
use Rattle.listing.proofs.write.Text.places.Goals.{After-place}

pub loop-p-init : goal.loop-p-init
unfolding place_lines
loop-p-init c = record { within = omega arith; lines = nothing _ }

pub place-requires : goal.place-requires
place-requires c =
    omega (arith, c.loop-p.invariant.lines.puts.next, lines-length c.args.code 1 (c.loop-p.p - 1))

one_more : (c : After-place) → Appends c.args.self.now (place_lines c.args.code 1 (c.loop-p.p + 1 - 1)) c.place.new.self
one_more c = named (sym (lines-next c.args.code c.loop-p.p (omega arith))) (both c.loop-p.invariant.lines c.place.ensures)

pub loop-p-preserved : goal.loop-p-preserved
loop-p-preserved c =
    record { within = omega arith; lines = one_more (goal.at.loop-p-preserved c).After-place }

pub returns : goal.returns
returns c =
    let e : c.loop-p.p - 1 ≡ c.args.n = omega arith in
    named (ap (λ (x : ℕ). place_lines c.args.code 1 x) e) c.loop-p.invariant.lines

pub returns-2 : goal.returns-2
returns-2 c =
    let e : c.loop-p.p + 1 - 1 ≡ c.args.n = omega arith in
    named (ap (λ (x : ℕ). place_lines c.args.code 1 x) e) (one_more (goal.at.returns-2 c).After-place)
