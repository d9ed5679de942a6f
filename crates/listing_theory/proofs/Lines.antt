-- What a line is read as, by what the code finds: a number or none, a space or another byte, the end or more. For crate listing, src/read.rt. Assumes nothing.
use mathlib.Core.Path.{◌≡◌, refl, ap, sym, ◌∙◌}
use mathlib.Core.Bool.{true, false}
use mathlib.Core.List.{List, [], ◌∷◌}
use mathlib.Core.Logic.{⊎_elim}
use Prim.Native.Nat.{ℕ, ◌≤◌}
use borrow.Author.Tests.{le-leb, leb-true}
use lib.Dec.{eqb, leb}
use lib.ListN.{length, take, drop}
use lib.Pointwise.{pointwise}
use lib.Seq.{take_at, drop_at}
use Rattle.std.specs.Prelude.{None, Bool}
use Rattle.group_theory.proofs.Signs.{both}
use Rattle.listing_theory.specs.Decimal.{value}
use Rattle.listing_theory.specs.Form.{leading_digits, after_digits, one_to_four, is_end, asked, read_second, read_rest, read_line}
use Rattle.listing_theory.specs.Takes.{Takes}
use Rattle.listing_theory.proofs.Cases.{truth}
use Rattle.listing_theory.proofs.Digits.{split}

-- ---- the number that s begins with: n digits
module _ (s : List ℕ) (n : ℕ) (e : n ≡ length (leading_digits s)) where
  front : take n s ≡ leading_digits s
  front = ap (λ (l : List ℕ). take n l) (sym (split s)) ∙ take_at (leading_digits s) (after_digits s) n (sym e)

  back : drop n s ≡ after_digits s
  back = ap (λ (l : List ℕ). drop n l) (sym (split s)) ∙ drop_at (leading_digits s) (after_digits s) n (sym e)

  pub number-none : (1 ≤ n → n ≤ 4 → ⊥) → one_to_four (length (leading_digits s)) ≡ false
  unfolding one_to_four
  number-none h =
      rw (← e)
      (⊎_elim (λ (p : one_to_four n ≡ true). let q = both (leb 1 n) (leb n 4) p in absurd (h (leb-true 1 n q.0) (leb-true n 4 q.1))) (λ p. p) (truth (one_to_four n)))

  pub number-taken : (v : ℕ) (ds u : List ℕ) → 1 ≤ n → n ≤ 4 → ds ≡ take n s → u ≡ drop n s → v ≡ value ds → Takes s v u
  unfolding one_to_four
  number-taken v ds u l m d a w =
      record {
        some = rw (← e, le-leb 1 n l, le-leb n 4 m);
        valued = w ∙ ap (λ (x : List ℕ). value x) (d ∙ front);
        after = a ∙ back;
      }

-- ---- the line s
module _ (s : List ℕ) where
  pub line-none : one_to_four (length (leading_digits s)) ≡ false → None ≡ read_line s
  unfolding read_line
  line-none f = rw f

  pub line-number : {t : ℕ} {u : List ℕ} → Takes s t u → read_rest t u ≡ read_line s
  unfolding read_line
  line-number k = rw (k.some, k.valued, k.after)

-- ---- what follows the first number, t
module _ (t : ℕ) where
  pub rest-other : (u : List ℕ) → pointwise eqb (take 1 u) (32 ∷ []) ≡ false → None ≡ read_rest t u
  unfolding read_rest
  rest-other [] f = refl
  rest-other (b ∷ u) f = ⊎_elim (λ h. let g = rw h at f in cc) (λ h. rw h) (truth (eqb b 32))

  pub rest-space : (u w : List ℕ) → pointwise eqb (take 1 u) (32 ∷ []) ≡ true → w ≡ drop 1 u → read_second t w ≡ read_rest t u
  unfolding read_rest
  rest-space [] w f e = cc
  rest-space (b ∷ u) w f e = ⊎_elim (λ h. rw h (ap (λ (x : List ℕ). read_second t x) e)) (λ h. let g = rw h at f in cc) (truth (eqb b 32))

  pub second-none : (w : List ℕ) → one_to_four (length (leading_digits w)) ≡ false → None ≡ read_second t w
  unfolding read_second
  second-none w f = rw f

  pub second-end : (w : List ℕ) {r : ℕ} {u : List ℕ} → Takes w r u → is_end u ≡ true → asked t r ≡ read_second t w
  unfolding read_second
  second-end w k f = rw (k.some, ← k.after, f, k.valued)

  pub second-more : (w : List ℕ) {r : ℕ} {u : List ℕ} → Takes w r u → is_end u ≡ false → None ≡ read_second t w
  unfolding read_second
  second-more w k f = rw (k.some, ← k.after, f)

newline : (u : List ℕ) → pointwise eqb u (10 ∷ []) ≡ is_end u
unfolding is_end
newline [] = refl
newline (b ∷ []) = ⊎_elim (λ h. rw h) (λ h. rw h) (truth (eqb b 10))
newline (b ∷ c ∷ u) = ⊎_elim (λ h. rw h) (λ h. rw h) (truth (eqb b 10))

-- u is compared with n, a newline
pub end-newline : {n : List ℕ} {b : Bool} (u : List ℕ) → n ≡ 10 ∷ [] → b ≡ pointwise eqb u n → is_end u ≡ b
end-newline u e h = sym (h ∙ ap (λ (n : List ℕ). pointwise eqb u n) e ∙ newline u)
