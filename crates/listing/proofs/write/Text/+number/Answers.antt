-- `listing::write::Text::number` meets its contract: all digits but the last, if there are more, and the last. Assumes nothing.
use Rattle.std.proofs.Common.{ℕ, ◌+◌, ◌/◌, ◌%◌, ◌<◌, ◌≡◌, [], ◌∷◌, sym, arith}
use native.Mathlib.Nat.{mod-eq_of_lt}
use Rattle.listing_theory.specs.Decimal.{decimal}
use Rattle.listing_theory.proofs.Decimals.{decimal-one, decimal-more, decimal-length}
use Rattle.listing.proofs.Texts.{nothing, both, named, ended}
use Rattle.listing.proofs.write.Text.+number.Goals as goal
use Rattle.listing.proofs.write.Text.+number.Goals.{then-x-ge10, else-x-ge10}

short : (x : ℕ) → x < 10 → decimal x ≡ (48 + x % 10) ∷ []
short x h = rw (mod-eq_of_lt h) (decimal-one x h)

pub byte-requires : goal.byte-requires
byte-requires t c =
    elim c.if-x-ge10.branch [
      | then-x-ge10 w ↦ (let p = ended w.self-is w.number.ensures in omega (arith, p.puts.next, decimal-length (c.args.x / 10)))
      | else-x-ge10 w ↦ (let p = ended w.self-is (nothing c.args.self.now) in omega (arith, p.puts.next))
    ]

pub returns : goal.returns
returns t c =
    elim c.if-x-ge10.branch [
      | then-x-ge10 w ↦ named (sym (decimal-more c.args.x (omega arith) (omega arith))) (both (ended w.self-is w.number.ensures) c.byte.ensures)
      | else-x-ge10 w ↦ named (sym (short c.args.x (omega arith))) (both (ended w.self-is (nothing c.args.self.now)) c.byte.ensures)
    ]
