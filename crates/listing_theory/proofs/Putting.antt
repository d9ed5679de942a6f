-- Texts put into a buffer one after the other: the laws that the functions of crate listing, src/write.rt, are made of. Assumes nothing.
use mathlib.Core.Path.{◌≡◌, refl, ap, sym, ◌∙◌}
use mathlib.Core.List.{List, [], ◌∷◌, ◌++◌}
use Prim.Native.Nat.{ℕ, suc, ◌+◌}
use native.Mathlib.Omega.{arith}
use lib.ListN.{length, length-append, take, drop, set}
use lib.Seq.{sets}
use Rattle.listing_theory.specs.Puts.{Puts}
use Rattle.listing_theory.specs.Sheet.{overwrite}

sets-append : (o : List ℕ) (at : ℕ) (s t : List ℕ) → sets o at (s ++ t) ≡ sets (sets o at s) (at + length s) t
sets-append o at [] t = let e : at + 0 ≡ at = omega arith in rw e
sets-append o at (b ∷ s) t =
    let e : at + suc (length s) ≡ suc at + length s = omega arith in
    rw e (sets-append (set o at b) (suc at) s t)

pub puts_none : (o : List ℕ) (at : ℕ) → Puts o at [] o at
puts_none o at = record { next = omega arith; bytes = refl }

-- a text and then another, put where the first ended
pub joined : {o o' o'' s t : List ℕ} {at m n : ℕ} → Puts o at s o' m → Puts o' m t o'' n → Puts o at (s ++ t) o'' n
joined {o} {o'} {o''} {s} {t} {at} p q =
    record {
      next = simp length-append (omega arith);
      bytes = q.bytes ∙ rw (p.bytes, p.next) (sym (sets-append o at s t));
    }

-- the same text, named otherwise
pub renamed : {o o' s t : List ℕ} {at n : ℕ} → s ≡ t → Puts o at s o' n → Puts o at t o' n
renamed e p = rw (← e) p

sets-nil : (at : ℕ) (s : List ℕ) → sets [] at s ≡ []
sets-nil at [] = refl
sets-nil at (b ∷ s) = sets-nil (suc at) s

sets-later : (c : ℕ) (o : List ℕ) (at : ℕ) (s : List ℕ) → sets (c ∷ o) (suc at) s ≡ c ∷ sets o at s
sets-later c o at [] = refl
sets-later c o at (b ∷ s) = sets-later c (set o at b) (suc at) s

-- a text put from the front on lies over the buffer
over : (s o : List ℕ) → sets o 0 s ≡ overwrite s o
unfolding overwrite
over [] o = refl
over (b ∷ s) [] = sets-nil 1 s
over (b ∷ s) (c ∷ o) = sets-later b o 0 s ∙ ap (λ (r : List ℕ). b ∷ r) (over s o)

pub puts_whole : {o o' s : List ℕ} {n : ℕ} → Puts o 0 s o' n → (n ≡ length s) × (o' ≡ overwrite s o)
puts_whole {o} {o'} {s} p = (omega (arith, p.next), p.bytes ∙ over s o)

-- as much of a text as fits, and of a longer buffer what follows it as it was
pub overwritten : (s o : List ℕ) → overwrite s o ≡ take (length o) s ++ drop (length s) o
unfolding overwrite
overwritten [] [] = refl
overwritten [] (c ∷ o) = refl
overwritten (b ∷ s) [] = refl
overwritten (b ∷ s) (c ∷ o) = ap (λ (r : List ℕ). b ∷ r) (overwritten s o)
