-- Texts that are appended one after the other, by the laws of listing_theory/proofs/Putting. Assumes nothing.
use mathlib.Core.Path.{◌≡◌, refl, ◌∙◌}
use mathlib.Core.List.{List, [], ◌++◌}
use Prim.Native.Nat.{ℕ}
use lib.ListN.{length}
use Rattle.listing_theory.proofs.Putting.{joined, renamed, puts_none, puts_whole}
use Rattle.listing_theory.specs.Sheet.{overwrite}
use Rattle.listing.specs.Appends.{Appends}
use Rattle.listing.specs.declared.write.Text.{Text}

pub nothing : (u : Text) → Appends u [] u
nothing u = record { same = refl; puts = puts_none _ _ }

-- a text and then another
pub both : {u v w : Text} {s t : List ℕ} → Appends u s v → Appends v t w → Appends u (s ++ t) w
both p q = record { same = q.same ∙ p.same; puts = joined p.puts q.puts }

-- the same text, named otherwise
pub named : {u v : Text} {s t : List ℕ} → s ≡ t → Appends u s v → Appends u t v
named e p = record { same = p.same; puts = renamed e p.puts }

-- the same end, named otherwise
pub ended : {u v w : Text} {s : List ℕ} → w ≡ v → Appends u s v → Appends u s w
ended e p = rw e p

-- a text appended to the empty one lies over the buffer
pub whole : {u v : Text} {s o : List ℕ} → u.out.now ≡ o → u.at ≡ 0 → Appends u s v → (v.at ≡ length s) × (v.out.now ≡ overwrite s o)
whole e z p = let w = rw (e, z) at p.puts in puts_whole w
