-- `listing::write::Text::place` meets its contract: two numbers. Assumes nothing.
use mathlib.Core.Path.{ap}
use native.Mathlib.Omega.{arith}
use Rattle.coder_theory.specs.declared.ElementAnswer.{ElementAnswer}
use Rattle.listing_theory.specs.Sheet.{field_text, place_line}
use Rattle.listing_theory.proofs.Lengths.{puts-field}
use Rattle.listing.proofs.Texts.{both, named}
use Rattle.listing.proofs.write.Text.place.Goals as goal

pub field-requires-2 : goal.field-requires-2
field-requires-2 c = omega (arith, puts-field _ _ c.field.ensures.puts)

pub returns : goal.returns
unfolding place_line
returns c = both c.field.ensures (named (ap (λ (x : ElementAnswer). field_text x.element 10) c.element_at.ensures) c.field-2.ensures)
