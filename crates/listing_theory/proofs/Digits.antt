-- The digits at the front of a text, how many the library counts, and the loop that takes their value. Assumes nothing.
use mathlib.Core.Path.{◌≡◌, refl, ap}
use mathlib.Core.Bool.{true, false}
use mathlib.Core.List.{List, [], ◌∷◌, ◌++◌}
use mathlib.Core.Logic.{⊎_elim}
use Prim.Native.Nat.{ℕ, zero, suc, ◌+◌, ◌*◌, ◌-◌, ◌≤◌, ◌<◌}
use native.Mathlib.Numerals.{add-one}
use native.Mathlib.Omega.{arith}
use lib.ListN.{length, drop, get_or, drop_of_length-le}
use lib.Seq.{drop-cons}
use Rattle.std.specs.List.{prefix_len}
use Rattle.std.specs.Char.{is_ascii_digit}
use Rattle.listing_theory.specs.Decimal.{is_digit, value_from, value}
use Rattle.listing_theory.specs.Form.{leading_digits, after_digits}
use Rattle.listing_theory.proofs.Cases.{truth}

module _ (b : ℕ) (s : List ℕ) where
  pub leading-digit : is_digit b ≡ true → leading_digits (b ∷ s) ≡ b ∷ leading_digits s
  unfolding leading_digits
  leading-digit e = rw e

  pub leading-other : is_digit b ≡ false → leading_digits (b ∷ s) ≡ []
  unfolding leading_digits
  leading-other e = rw e

  pub after-digit : is_digit b ≡ true → after_digits (b ∷ s) ≡ after_digits s
  unfolding after_digits
  after-digit e = rw e

  pub after-other : is_digit b ≡ false → after_digits (b ∷ s) ≡ b ∷ s
  unfolding after_digits
  after-other e = rw e

pub split : (s : List ℕ) → leading_digits s ++ after_digits s ≡ s
unfolding leading_digits after_digits
split [] = refl
split (b ∷ s) =
    let i = split s in
    ⊎_elim
    (λ e. rw (leading-digit b s e, after-digit b s e) (ap (λ (l : List ℕ). b ∷ l) i))
    (λ e. rw (leading-other b s e, after-other b s e))
    (truth (is_digit b))

-- as many as the library counts
pub digits-counted : (s : List ℕ) → prefix_len is_ascii_digit s ≡ length (leading_digits s)
unfolding is_digit leading_digits
digits-counted [] = refl
digits-counted (b ∷ s) =
    let i = digits-counted s in
    ⊎_elim (λ e. rw e (omega (arith, i))) (λ e. rw e) (truth (is_digit b))

-- a bound on the value of so many bytes, of whatever kind
pub most : ℕ → ℕ
most zero = 0
most (suc k) = most k * 10 + 255

most-four : (k : ℕ) → k ≤ 4 → most k ≤ 300000
unfolding most
most-four zero h = omega arith
most-four (suc zero) h = omega arith
most-four (suc (suc zero)) h = omega arith
most-four (suc (suc (suc zero))) h = omega arith
most-four (suc (suc (suc (suc zero)))) h = omega arith
most-four (suc (suc (suc (suc (suc k))))) h = omega arith

-- v is the value of the first i digits, so that the value of the whole is that of what is left after v
pub record Valued (u : List ℕ) (v i : ℕ) : Type 0 where
  pub within : i ≤ length u
  pub bound : v ≤ most i
  pub whole : value_from v (drop i u) ≡ value u

module _ (u : List ℕ) (v i : ℕ) (c : Valued u v i) where
  pub value-small : i ≤ 4 → v ≤ 300000
  value-small h = omega (arith, most-four i h, c.bound)

  pub value-step : (d : ℕ) → i < length u → d ≡ get_or u i 0 - 48 → d < 256 → Valued u (v * 10 + d) (i + 1)
  unfolding most value_from
  value-step d h e l =
      record {
        within = omega arith;
        bound = rw (add-one i) (omega (arith, c.bound));
        whole = rw (add-one i, e) (rw (drop-cons u i 0 h) at c.whole);
      }

  pub value-end : length u ≤ i → v ≡ value u
  unfolding value_from
  value-end h = rw (drop_of_length-le u h) at c.whole
