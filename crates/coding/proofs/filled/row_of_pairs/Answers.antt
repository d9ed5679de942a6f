-- `coding::filled::row_of_pairs` meets its contract: all pairs but one, and that one. Assumes nothing.
use Rattle.std.proofs.Common.{◌≡◌, ℕ, ◌-◌, ◌/◌, ◌≤◌, length, take, true, ap, subst, ◌∙◌, arith, rules, length-take-le}
use Rattle.loops_theory.specs.Spread.{row}
use Rattle.loops_theory.specs.Passing.{Highest}
use Rattle.loops_theory.proofs.Laying.{length-row}
use Rattle.loops_theory.proofs.Parts.{no-rows, put_rest, rows-last, says-last}
use Rattle.coding.proofs.filled.row_of_pairs.Goals as goal

pub returns-then-is_empty-clause-laid : goal.returns-then-is_empty-clause-laid
returns-then-is_empty-clause-laid c = no-rows _ _ (search rules)

pub returns : goal.returns
returns c =
    let g = c.args in
    let w = g.word.now in
    let h = c.requires in
    let m = length g.v.now - 2 in
    let two : 2 ≤ length g.v.now = search rules in
    let n : length (take m g.v.now) ≡ m = length-take-le m g.v.now (omega arith) in
    let d : c.digits-x.new.v ≡ row true (m / 2) w = c.digits-x.ensures.laid ∙ ap (λ (i : ℕ). row true (i / 2) w) n in
    let r = length-row true (m / 2) w in
    record {
      told = says-last w g.v.now m h.0 h.1 (omega arith) two _ _ _ (subst (λ (i : ℕ). Highest w 0 i c.digits-x.result) n c.digits-x.ensures.most) c.last_pair-z.ensures.most c.max.ensures;
      laid = put_rest m g.v.now _ _ (ap length d ∙ r ∙ omega arith) ∙ rows-last w g.v.now m h.0 h.1 (omega arith) two _ _ d c.last_pair-z.ensures.laid;
    }
