-- Which text the sheet is, by what was read and by what the coder answered. Assumes nothing.
use mathlib.Core.Path.{◌≡◌}
use mathlib.Core.List.{List}
use Prim.Native.Nat.{ℕ}
use borrow.Author.Tests.{eq-eqb, ne_eqb}
use Rattle.std.specs.Prelude.{Option, Some, None}
use Rattle.layout_theory.specs.Calls.{or_hamming}
use Rattle.coder_theory.specs.Calls.{opened}
use Rattle.coder_theory.specs.declared.Opened.{Opened}
use Rattle.listing_theory.specs.Form.{read_line}
use Rattle.listing_theory.specs.Sheet.{refused_line, listing_text, answer_text, line_text, sheet_text}
use Rattle.listing_theory.specs.declared.Asked.{Asked}

pub answer-listing : (o : Opened) → o.refusal ≡ 0 → listing_text o.«record» ≡ answer_text o
unfolding answer_text
answer-listing o e = rw (eq-eqb o.refusal 0 e)

pub answer-refused : (o : Opened) → (o.refusal ≡ 0 → ⊥) → refused_line o.refusal ≡ answer_text o
unfolding answer_text
answer-refused o n = rw (ne_eqb o.refusal 0 n)

module _ (input : List ℕ) (l : Option Asked) (e : l ≡ read_line input) where
  pub sheet-malformed : l ≡ None → refused_line 7 ≡ sheet_text input
  unfolding sheet_text line_text
  sheet-malformed m = rw (← e, m)

  -- k is the r that is opened with
  pub sheet-read : (a : Asked) (k : ℕ) → l ≡ Some a → k ≡ or_hamming a.t a.r → answer_text (opened a.t k 0) ≡ sheet_text input
  unfolding sheet_text line_text
  sheet-read a k m u = rw (← e, m, u)
