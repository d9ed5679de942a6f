-- `listing::write::Text::heading` meets its contract: the word and four numbers. Assumes nothing.
use mathlib.Core.Path.{ap}
use Prim.Native.Nat.{ℕ}
use native.Mathlib.Omega.{arith}
use Rattle.listing_theory.specs.Sheet.{field_text, heading_text}
use Rattle.listing_theory.proofs.Lengths.{puts-field}
use Rattle.listing.proofs.Texts.{both, named}
use Rattle.listing.proofs.write.Text.heading.Goals as goal

pub field-requires-2 : goal.field-requires-2
field-requires-2 c =
    omega (arith, puts-field _ _ c.field.ensures.puts, c.word.ensures.puts.next)

pub field-requires-3 : goal.field-requires-3
field-requires-3 c =
    omega (arith, puts-field _ _ c.field-2.ensures.puts, puts-field _ _ c.field.ensures.puts, c.word.ensures.puts.next)

pub field-requires-4 : goal.field-requires-4
field-requires-4 c =
    omega (
      arith,
      puts-field _ _ c.field-3.ensures.puts,
      puts-field _ _ c.field-2.ensures.puts,
      puts-field _ _ c.field.ensures.puts,
      c.word.ensures.puts.next,
    )

pub returns : goal.returns
unfolding heading_text
returns c =
    both
    (both (both (both c.word.ensures c.field.ensures) c.field-2.ensures)
    (named (ap (λ (x : ℕ). field_text x 32) c.word_length.ensures) c.field-3.ensures))
    (named (ap (λ (x : ℕ). field_text x 10) c.message_length.ensures) c.field-4.ensures)
