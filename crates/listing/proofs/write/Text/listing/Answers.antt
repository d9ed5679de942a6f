-- `listing::write::Text::listing` meets its contract: the heading, and the lines. Assumes nothing.
use mathlib.Core.Path.{ap}
use Prim.Native.Nat.{ℕ}
use native.Mathlib.Omega.{arith}
use Rattle.coder_theory.proofs.Bounds.{word-length-bound}
use Rattle.listing_theory.specs.Sheet.{place_lines, listing_text}
use Rattle.listing_theory.proofs.Lengths.{heading-length}
use Rattle.listing.proofs.Texts.{both, named}
use Rattle.listing.proofs.write.Text.listing.Goals as goal

pub places-requires : goal.places-requires
places-requires c =
    record {
      at = omega (arith, c.heading.ensures.puts.next, heading-length c.args.code);
      count = omega (arith, c.word_length.ensures, word-length-bound c.args.code);
    }

pub returns : goal.returns
unfolding listing_text
returns c =
    both c.heading.ensures (named (ap (λ (n : ℕ). place_lines c.args.code 1 n) c.word_length.ensures) c.places.ensures)
