-- `listing::write::Text::field` meets its contract: a number, and a byte. Assumes nothing.
use native.Mathlib.Omega.{arith}
use Rattle.listing_theory.specs.Sheet.{field_text}
use Rattle.listing_theory.proofs.Decimals.{decimal-length}
use Rattle.listing.proofs.Texts.{both}
use Rattle.listing.proofs.write.Text.field.Goals as goal

pub byte-requires : goal.byte-requires
byte-requires c = omega (arith, c.number.ensures.puts.next, decimal-length c.args.x)

pub returns : goal.returns
unfolding field_text
returns c = both c.number.ensures c.byte.ensures
