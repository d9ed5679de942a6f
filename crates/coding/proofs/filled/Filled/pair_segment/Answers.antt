-- `coding::filled::Filled::pair_segment` meets its contract: what is left out, and what is kept. Assumes nothing.
use Rattle.std.proofs.Common.{◌≡◌, ℕ, ◌+◌, ◌-◌, ◌/◌, ◌≤◌, true, ◌++◌, length, take, drop, ap, ◌∙◌, length-take-le, rules}
use lib.ListN.{length-replicate}
use Rattle.words_theory.specs.Words.{zero_word}
use Rattle.loops_theory.specs.Spread.{row}
use Rattle.loops_theory.proofs.Passing.{length-rest}
use Rattle.loops_theory.proofs.Parts.{put_rest, length-put, pairs-kept, pairs-said}
use Rattle.coding.proofs.filled.Filled.pair_segment.Goals as goal

pub returns : goal.returns
returns c =
    let g = c.args in
    let h = c.requires in
    let s = g.self.now in
    let left : ℕ = c.min-left.result in
    let first : ℕ = c.saturating_sub-first.result in
    let m : 2 + left ≤ length g.v.now = search rules in
    let z : c.fill.new.self ≡ zero_word (2 + left) = c.fill.ensures.after (λ y h. h) ∙ ap zero_word (length-take-le (2 + left) g.v.now m) in
    let n : length c.fill.new.self ≡ 2 + left = ap length z ∙ length-replicate {A = ℕ} (2 + left) 0 in
    let u = c.fill.new.self ++ drop (2 + left) g.v.now in
    let k = ap (λ (i : ℕ). i - (2 + left)) (length-put (2 + left) g.v.now _ n m) in
    record {
      told = pairs-said s.d g.at s.word.now g.v.now c.fill.new.self c.row_of_pairs.new.v left first _ c.saturating_sub-first.ensures h.4 h.1 h.0 (search rules) k h.2 _ c.row_of_pairs.ensures.told;
      laid = put_rest (2 + left) g.v.now _ _ n
          ∙ pairs-kept s.d g.at s.word.now g.v.now _ _ left first _ c.saturating_sub-first.ensures h.4 h.1 h.0 (search rules) k z (c.row_of_pairs.ensures.laid ∙ ap (λ (i : ℕ). row true (i / 2) (take (first + (length u - (2 + left)) - first) (drop first s.word.now))) (length-rest u (2 + left)));
    }
