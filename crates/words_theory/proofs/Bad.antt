-- The first byte above 1: how a scan finds it, and when there is none. Assumes nothing.
use mathlib.Core.Path.{◌≡◌, refl, sym, ◌∙◌}
use mathlib.Core.List.{List, [], ◌∷◌}
use Prim.Native.Nat.{ℕ, suc, ◌+◌, ◌≤◌, ◌<◌}
use native.Mathlib.Numerals.{add-one}
use native.Mathlib.Omega.{arith}
use native.Mathlib.Decide.{dec_lt}
use borrow.Author.Tests.{lt-ltb, le-ltb}
use lib.ListN.{length, drop, get_or, drop_of_length-le}
use lib.Seq.{drop-cons}
use Rattle.words_theory.specs.Words.{Bits}
use Rattle.words_theory.specs.Calls.{bad_from}

pub bad-none : (b p : ℕ) (w : List ℕ) → b ≤ 1 → bad_from p (b ∷ w) ≡ bad_from (suc p) w
unfolding bad_from
bad-none b p w h = rw (le-ltb 1 b h)

pub bad-here : (b p : ℕ) (w : List ℕ) → 1 < b → bad_from p (b ∷ w) ≡ p
unfolding bad_from
bad-here b p w h = rw (lt-ltb 1 b h)

-- ---- a scan that has passed i bytes
pub bad-step : (w : List ℕ) (i : ℕ) → i < length w → get_or w i 0 ≤ 1 → bad_from (i + 1) (drop i w) ≡ bad_from (i + 1 + 1) (drop (i + 1) w)
bad-step w i h e = rw (drop-cons w i 0, add-one (i + 1), add-one i) (bad-none (get_or w i 0) (suc i) (drop (suc i) w) e)

pub bad-found : (w : List ℕ) (i : ℕ) → i < length w → 1 < get_or w i 0 → bad_from (i + 1) (drop i w) ≡ i + 1
bad-found w i h e = rw (drop-cons w i 0) (bad-here (get_or w i 0) (i + 1) (drop (suc i) w) e)

pub bad-end : (w : List ℕ) (i : ℕ) → length w ≤ i → bad_from (i + 1) (drop i w) ≡ 0
unfolding bad_from
bad-end w i h = rw (drop_of_length-le w h)

-- ---- what it means
pub bits_none : (p : ℕ) (w : List ℕ) → Bits w → bad_from p w ≡ 0
unfolding bad_from
bits_none p [] h = refl
bits_none p (b ∷ w) h = bad-none b p w h.0 ∙ bits_none (suc p) w h.1

pub none-bits : (p : ℕ) (w : List ℕ) → bad_from (suc p) w ≡ 0 → Bits w
none-bits p [] e = tt
none-bits p (b ∷ w) e = go (dec_lt 1 b) (none-bits (suc p) w)
  where
    go : Dec (1 < b) → (bad_from (suc (suc p)) w ≡ 0 → Bits w) → Bits (b ∷ w)
    go (yes h) ih = let z : suc p ≡ 0 = sym (bad-here b (suc p) w h) ∙ e in absurd (omega arith)
    go (no h) ih = (omega arith, ih (sym (bad-none b (suc p) w (omega arith)) ∙ e))

-- it is a place of the word
pub bad-most : (p : ℕ) (w : List ℕ) → bad_from (suc p) w ≤ p + length w
unfolding bad_from
bad-most p [] = omega arith
bad-most p (b ∷ w) = go (dec_lt 1 b) (bad-most (suc p) w)
  where
    go : Dec (1 < b) → bad_from (suc (suc p)) w ≤ suc p + length w → bad_from (suc p) (b ∷ w) ≤ p + length (b ∷ w)
    go (yes h) i = rw (bad-here b (suc p) w h) (omega arith)
    go (no h) i = rw (bad-none b (suc p) w (omega arith)) (omega arith)
