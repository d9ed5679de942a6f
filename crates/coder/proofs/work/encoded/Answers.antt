-- `coder::work::encoded` meets its contract: what is found before the bytes, and then what the pass over them finds. Assumes nothing.
use borrow.Author.Rules.{rules}
use mathlib.Core.Path.{◌≡◌, refl, sym, ap, ◌∙◌}
use mathlib.Core.List.{List}
use Prim.Native.Nat.{ℕ}
use lib.ListN.{length}
use Rattle.words_theory.specs.Calls.{if_bits}
use Rattle.coder_theory.specs.State.{places_in, message_in}
use Rattle.coder_theory.specs.Reasons.{Reason, first_reason, bad_place}
use Rattle.coder_theory.specs.Calls.{encode_answer}
use Rattle.coder_theory.specs.declared.Answer.{Answer}
use Rattle.coder_theory.proofs.Reading.{early}
use Rattle.coder_theory.proofs.Outputs.{message-ready, encode-bytes}
use Rattle.checks.specs.Told.{told}
use Rattle.coder.proofs.Bits.{by_place, mapped, told-bits}
use Rattle.coder.proofs.work.encoded.Goals as goal
use Rattle.coder.proofs.work.encoded.Goals.{After-map_err}

-- past the first step nothing is wrong before the bytes
abbrev before : After-map_err → List Reason
before c = let g = c.args in early g.«record» (message_in g.«record») g.message.now (places_in g.«record») (length g.out.now)

clear : (c : After-map_err) → (first_reason (before c)).number ≡ 0
clear c = sym (ap (λ (a : Answer). a.refusal) c.in_ok-message.ensures)

-- so the pass tells the place of a byte above 1, or nothing
passed : (c : After-map_err) → c.map_err.result ≡ by_place {A = Unit {0}} tt (bad_place c.args.message.now)
passed c =
    let g = c.args in
    mapped _ _ c.encode.result _ ((rw c.code.ensures at c.encode.ensures.bad) ∙ ap (λ (p : ℕ). if_bits p (tt {0})) (message-ready _ _ _ (clear c)))
    (λ x e. search rules) (λ q e. search rules)

pub returns : goal.returns
unfolding encode_answer
returns c =
    let q = (goal.at.returns c).After-map_err in
    record {
      answer = ap (told {A = Unit {0}}) (passed q) ∙ told-bits {A = Unit {0}} tt (before q) c.args.message.now refl (clear q);
      bytes = (rw c.code.ensures at c.encode.ensures.bytes) ∙ encode-bytes _ _ _ (clear q);
    }
