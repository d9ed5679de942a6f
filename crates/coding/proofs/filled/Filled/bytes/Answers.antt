-- `coding::filled::Filled::bytes` meets its contract: what is left out, and what is kept. Assumes nothing.
use Rattle.std.proofs.Common.{◌≡◌, ℕ, ◌-◌, ◌≤◌, length, ap, ◌∙◌, length-take-le, rules}
use lib.ListN.{length-replicate}
use Rattle.words_theory.specs.Words.{zero_word}
use Rattle.loops_theory.proofs.Parts.{put_rest, length-put, bytes-kept}
use Rattle.coding.proofs.filled.Filled.bytes.Goals as goal

pub returns : goal.returns
returns c =
    let g = c.args in
    let s = g.self.now in
    let left : ℕ = c.min-left.result in
    let m : left ≤ length g.v.now = search rules in
    let z : c.fill.new.self ≡ zero_word left = c.fill.ensures.after (λ y h. h) ∙ ap zero_word (length-take-le left g.v.now m) in
    let n : length c.fill.new.self ≡ left = ap length z ∙ length-replicate {A = ℕ} left 0 in
    let k = ap (λ (i : ℕ). i - left) (length-put left g.v.now _ n m) in
    put_rest left g.v.now _ _ n
    ∙ bytes-kept s.d g.at s.word.now g.v.now _ _ left c.saturating_sub-first.result _ c.saturating_sub-first.ensures (search rules) k c.requires.0 z c.copy_from_slice.ensures.after
