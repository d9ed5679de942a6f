-- `listing::sheet` meets its contract: a text put from the front on lies over the buffer. Assumes nothing.
use borrow.Author.Rules.{rules}
use mathlib.Core.Path.{◌≡◌, ap, ◌∙◌}
use Rattle.coder_theory.specs.declared.Opened.{Opened}
use Rattle.listing_theory.specs.Sheet.{answer_text, sheet_text, overwrite}
use Rattle.listing_theory.proofs.Answers.{sheet-malformed, sheet-read}
use Rattle.listing.specs.Appends.{Appends}
use Rattle.listing.proofs.Texts.{named, ended, whole}
use Rattle.listing.proofs.sheet.Goals as goal
use Rattle.listing.proofs.sheet.Goals.{After-len, in-None, in-Some}

written : (c : After-len) → Appends c.new-text.result (sheet_text c.args.input.now) c.match-line.text
written c =
    elim c.match-line.branch [
      | in-None w ↦ ended w.text-is (named (sheet-malformed _ _ c.line.ensures w.in-None.is) w.refusal.ensures)
      | in-Some w ↦
          ended w.text-is
          (named
          (ap (λ (x : Opened). answer_text x) w.open.ensures ∙ sheet-read _ _ c.line.ensures _ _ w.in-Some.is w.or_hamming-used.ensures)
          w.answer.ensures)
    ]

pub returns-clause-length : goal.returns-clause-length
returns-clause-length c =
    let a = written (goal.at.returns-clause-length c).After-len in
    c.len.ensures ∙ (whole c.new-text.ensures.bytes c.new-text.ensures.at a).0

pub returns-clause-bytes : goal.returns-clause-bytes
returns-clause-bytes c =
    let a = written (goal.at.returns-clause-bytes c).After-len in
    let b : c.match-line.text.out.now ≡ overwrite (sheet_text c.args.input.now) c.args.out.now =
    (whole c.new-text.ensures.bytes c.new-text.ensures.at a).1 in
    let same : c.match-line.text.out.ghost_name ≡ c.new-text.result.out.ghost_name = a.same in
    search rules
