-- The theorem on the sheet, `sheet-of`: which text an input gives, and what of it stands in a buffer. Its statement is in specs/Claims. Assumes nothing.
use mathlib.Core.Path.{◌≡◌, refl, sym, ap, subst, ◌∙◌}
use mathlib.Core.Bool.{Bool, true, false}
use mathlib.Core.List.{List}
use Prim.Native.Nat.{ℕ, ◌≤◌}
use native.Mathlib.Omega.{arith}
use lib.ListN.{length, get_or}
use Rattle.std.specs.Prelude.{Option, Some, None}
use Rattle.layout_theory.specs.Parameters.{Admitted, admits, AdmittedOrZero}
use Rattle.layout_theory.specs.Calls.{or_hamming}
use Rattle.layout_theory.proofs.Parameters.{admits-admitted, admitted-given, or-given, admitted-zero}
use Rattle.coder_theory.proofs.Refusals.{opens-whole, turned-refused}
use Rattle.listing_theory.specs.Form.{asked, read_line}
use Rattle.listing_theory.specs.Spelling.{Spells}
use Rattle.listing_theory.specs.Sheet.{answer_text, line_text, sheet_text}
use Rattle.listing_theory.specs.Claims.{refused7, refused1, whole_sheet, buffer_length, Sheets}
use Rattle.listing_theory.specs.declared.Asked.{Asked}
use Rattle.listing_theory.proofs.Forms.{spelt-is-read, spells}
use Rattle.listing_theory.proofs.Lengths.{sheet-fits}
use Rattle.listing_theory.proofs.Putting.{overwritten}
use Rattle.listing_theory.proofs.Wholes.{line-seven, line-one, listing-written}

-- the texts differ, at index 0 or 8
differ : (i : ℕ) (s u v : List ℕ) → s ≡ u → s ≡ v → (get_or u i 0 ≡ get_or v i 0 → ⊥) → ⊥
differ i s u v d e n = n (ap (λ (l : List ℕ). get_or l i 0) (sym d ∙ e))

module _ (input : List ℕ) where
  of-line : (l : Option Asked) → read_line input ≡ l → sheet_text input ≡ line_text l
  unfolding sheet_text
  of-line l e = ap line_text e

  of-malformed : read_line input ≡ None → sheet_text input ≡ refused7
  unfolding line_text
  of-malformed e = of-line None e ∙ line-seven

  module _ (t r : ℕ) (s : Spells input t r) where
    of-admitted : Admitted t (or_hamming t r) → sheet_text input ≡ whole_sheet t (or_hamming t r)
    unfolding line_text answer_text
    of-admitted h = of-line (asked t r) (spelt-is-read input t r s) ∙ ap answer_text (opens-whole t (or_hamming t r) h) ∙ listing-written t (or_hamming t r) h

    of_other : admits t (or_hamming t r) ≡ false → sheet_text input ≡ refused1
    unfolding line_text answer_text
    of_other h = of-line (asked t r) (spelt-is-read input t r s) ∙ ap answer_text (turned-refused t r 0 h) ∙ line-one

    not-seven : (b : Bool) → admits t (or_hamming t r) ≡ b → sheet_text input ≡ refused7 → ⊥
    not-seven true h e = differ 0 (sheet_text input) refused7 (whole_sheet t (or_hamming t r)) e (of-admitted (admits-admitted t (or_hamming t r) h)) (λ z. omega arith)
    not-seven false h e = differ 8 (sheet_text input) refused7 refused1 e (of_other h) (λ z. omega arith)

    of-not-admitted : (b : Bool) → admits t (or_hamming t r) ≡ b → (AdmittedOrZero t r → ⊥) → sheet_text input ≡ refused1
    of-not-admitted true h n = absurd (n ((admitted-zero t r).0 (admits-admitted t (or_hamming t r) h)))
    of-not-admitted false h n = of_other h

    of-given : Admitted t r → sheet_text input ≡ whole_sheet t r
    of-given h =
        let e = or-given t r (admitted-given t r h) in
        of-admitted (subst (Admitted t) (sym e) h) ∙ ap (whole_sheet t) e

  unspelt : (l : Option Asked) → read_line input ≡ l → ((t r : ℕ) → Spells input t r → ⊥) → sheet_text input ≡ refused7
  unspelt None e n = of-malformed e
  unspelt (Some a) e n = absurd (n a.t a.r (spells a.t a.r input e))

  spelt-one : (l : Option Asked) → read_line input ≡ l → sheet_text input ≡ refused1 → (t : ℕ) × (r : ℕ) × Spells input t r × (AdmittedOrZero t r → ⊥)
  spelt-one None e o = absurd (differ 8 (sheet_text input) refused7 refused1 (of-malformed e) o (λ z. omega arith))
  spelt-one (Some a) e o =
      let t = a.t in
      let r = a.r in
      let s = spells t r input e in
      (t, r, s, λ h. differ 0 (sheet_text input) refused1 (whole_sheet t (or_hamming t r)) o (of-admitted t r s ((admitted-zero t r).1 h)) (λ z. omega arith))

pub sheet-of : Sheets
sheet-of input =
    record {
      malformed = ((λ e t r s. not-seven input t r s _ refl e), unspelt input _ refl);
      not_admitted = (spelt-one input _ refl, λ w. of-not-admitted input w.0 w.1 w.2 _ refl w.3);
      listed = of-given input;
      zero_is_t = λ t s h. of-admitted input t 0 s h;
      fits = sheet-fits input;
      written = overwritten (sheet_text input);
    }

-- for who calls `listing::sheet`: the length that it answers
pub in_buffer : (input : List ℕ) (n : ℕ) → n ≡ length (sheet_text input) → n ≤ buffer_length
in_buffer input n e = rw e (sheet-of input).fits
