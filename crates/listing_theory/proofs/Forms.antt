-- `read_line` gives t and r exactly where the input spells them: `spelt-is-read` one way, `spells` the other. Assumes nothing.
use mathlib.Core.Path.{◌≡◌, refl, ap, sym, ◌∙◌}
use mathlib.Core.Bool.{Bool, true, false, ◌&&◌}
use mathlib.Core.List.{List, [], ◌∷◌, ◌++◌}
use mathlib.Core.Logic.{⊎_elim}
use Prim.Native.Nat.{ℕ}
use native.Mathlib.Omega.{arith}
use borrow.Author.Tests.{le-leb, leb-true, eqb-true}
use lib.Dec.{leb, eqb}
use lib.ListN.{length}
use Rattle.std.specs.Prelude.{Option, None}
use Rattle.group_theory.proofs.Signs.{both}
use Rattle.layout_theory.specs.Choice.{pick}
use Rattle.listing_theory.specs.Decimal.{is_digit, value}
use Rattle.listing_theory.specs.Form.{leading_digits, after_digits, one_to_four, is_end, asked, read_second, read_rest, read_line}
use Rattle.listing_theory.specs.Spelling.{Digits, none, more, Number, Spells}
use Rattle.listing_theory.specs.declared.Asked.{Asked}
use Rattle.listing_theory.proofs.Cases.{truth, never}
use Rattle.listing_theory.proofs.Digits.{leading-digit, leading-other, after-digit, after-other, split}

-- digits that a byte of another kind ends are the leading ones
stop : {ds : List ℕ} (b : ℕ) (s : List ℕ) → Digits ds → is_digit b ≡ false → (leading_digits (ds ++ (b ∷ s)) ≡ ds) × (after_digits (ds ++ (b ∷ s)) ≡ b ∷ s)
stop b s none e = (leading-other b s e, after-other b s e)
stop b s (more {b = d} {s = ds} h r) e =
    let i = stop b s r e in
    (rw (leading-digit d (ds ++ (b ∷ s)) h, i.0), rw (after-digit d (ds ++ (b ∷ s)) h, i.1))

space-ends : is_digit 32 ≡ false
unfolding is_digit
space-ends = refl

newline-ends : is_digit 10 ≡ false
unfolding is_digit
newline-ends = refl

number-one-to-four : (ds : List ℕ) → Number ds → one_to_four (length ds) ≡ true
unfolding one_to_four
number-one-to-four ds n = rw (le-leb 1 (length ds) n.some, le-leb (length ds) 4 n.at_most)

second_reads : (t : ℕ) (es : List ℕ) → Number es → read_second t (es ++ (10 ∷ [])) ≡ asked t (value es)
unfolding read_second is_end
second_reads t es n =
    let p = stop 10 [] n.digits newline-ends in
    rw (p.0, p.1, number-one-to-four es n)

rest-reads : (t : ℕ) (es : List ℕ) → Number es → read_rest t (32 ∷ (es ++ (10 ∷ []))) ≡ asked t (value es)
unfolding read_rest
rest-reads t es n = second_reads t es n

pub spelt-is-read : (s : List ℕ) (t r : ℕ) → Spells s t r → read_line s ≡ asked t r
unfolding read_line
spelt-is-read s t r w =
    let p = stop 32 (w.second ++ (10 ∷ [])) w.first_number.digits space-ends in
    rw (
      w.spelling,
      p.0,
      p.1,
      number-one-to-four w.first w.first_number,
      rest-reads (value w.first) w.second w.second_number,
      w.first_value,
      w.second_value,
    )

leading-digits : (s : List ℕ) → Digits (leading_digits s)
unfolding leading_digits
leading-digits [] = none
leading-digits (b ∷ s) =
    let i = leading-digits s in
    ⊎_elim (λ e. rw (leading-digit b s e) (more e i)) (λ e. rw (leading-other b s e) none) (truth (is_digit b))

leading-number : (s : List ℕ) → one_to_four (length (leading_digits s)) ≡ true → Number (leading_digits s)
unfolding one_to_four
leading-number s f =
    let p = both (leb 1 (length (leading_digits s))) (leb (length (leading_digits s)) 4) f in
    record { digits = leading-digits s; some = leb-true 1 _ p.0; at_most = leb-true _ 4 p.1 }

end-newline : (s : List ℕ) → is_end s ≡ true → s ≡ 10 ∷ []
unfolding is_end
end-newline [] e = absurd (never e)
end-newline (b ∷ []) e = ap (λ (x : ℕ). x ∷ []) (eqb-true b 10 e)
end-newline (b ∷ c ∷ s) e = absurd (never e)

-- what is read was not malformed
module _ (t r : ℕ) where
  not-malformed : None ≡ asked t r → ⊥
  not-malformed p = let z : ◌≡◌ {A = ℕ} 0 1 = cc in omega arith

  same-asked : (v w : ℕ) → asked v w ≡ asked t r → (v ≡ t) × (w ≡ r)
  same-asked v w p =
      let e : ◌≡◌ {A = Asked} (record { t = v; r = w }) (record { t = t; r = r }) = cc in
      (ap (λ (a : Asked). a.t) e, ap (λ (a : Asked). a.r) e)

  picked : (b : Bool) (l : Option Asked) → pick b l None ≡ asked t r → (b ≡ true) × (l ≡ asked t r)
  picked true l e = (refl, e)
  picked false l e = absurd (not-malformed e)

  record After (v : ℕ) (u : List ℕ) : Type 0 where
    rest : List ℕ
    space : u ≡ 32 ∷ rest
    reading : read_second v rest ≡ asked t r

  rest-after : (v : ℕ) (u : List ℕ) → read_rest v u ≡ asked t r → After v u
  unfolding read_rest
  rest-after v [] e = absurd (not-malformed e)
  rest-after v (b ∷ u) e =
      let p = picked (eqb b 32) (read_second v u) e in
      record { rest = u; space = ap (λ (x : ℕ). x ∷ u) (eqb-true b 32 p.0); reading = p.1 }

  second-after :
      (v : ℕ) (u : List ℕ) → read_second v u ≡ asked t r
      → Number (leading_digits u) × (u ≡ leading_digits u ++ (10 ∷ [])) × (v ≡ t) × (value (leading_digits u) ≡ r)
  unfolding read_second
  second-after v u e =
      let p = picked (one_to_four (length (leading_digits u)) && is_end (after_digits u)) (asked v (value (leading_digits u))) e in
      let q = both (one_to_four (length (leading_digits u))) (is_end (after_digits u)) p.0 in
      let a = same-asked v (value (leading_digits u)) p.1 in
      (leading-number u q.0, sym (split u) ∙ ap (λ (l : List ℕ). leading_digits u ++ l) (end-newline (after_digits u) q.1), a.0, a.1)

  pub spells : (s : List ℕ) → read_line s ≡ asked t r → Spells s t r
  unfolding read_line
  spells s e =
      let p = picked (one_to_four (length (leading_digits s))) (read_rest (value (leading_digits s)) (after_digits s)) e in
      let a = rest-after (value (leading_digits s)) (after_digits s) p.1 in
      let b = second-after (value (leading_digits s)) a.rest a.reading in
      record {
        first = leading_digits s;
        second = leading_digits a.rest;
        first_number = leading-number s p.0;
        second_number = b.0;
        spelling = sym (split s) ∙ ap (λ (l : List ℕ). leading_digits s ++ l) (a.space ∙ ap (λ (l : List ℕ). 32 ∷ l) b.1);
        first_value = b.2;
        second_value = b.3;
      }
