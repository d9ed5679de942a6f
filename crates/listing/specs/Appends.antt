-- What a method of `Text`, src/write.rt, leaves. Assumes nothing.
use Rattle.std.specs.Prelude.{◌≡◌, List, ℕ}
use Rattle.listing_theory.specs.Puts.{Puts}
use Rattle.listing.specs.declared.write.Text.{Text}

-- v is w with the text s put where w ends, into the same buffer
pub record Appends (w : Text) (s : List ℕ) (v : Text) : Type 0 where
  pub same : v.out.ghost_name ≡ w.out.ghost_name
  pub puts : Puts w.out.now w.at s v.out.now v.at
