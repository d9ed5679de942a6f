-- `listing::read::number` meets its contract: the parts are those that the theory names. Assumes nothing.
use Rattle.std.proofs.Common.{◌≤◌, ◌∙◌, arith}
use Rattle.std.proofs.lemmas.Grind.{common_steps}
use Rattle.std.proofs.lemmas.List.Sums.{prefix_len-le-length}
use Rattle.std.specs.Char.{is_ascii_digit}
use Rattle.listing_theory.proofs.Digits.{digits-counted}
use Rattle.listing_theory.proofs.Lines.{number-none, number-taken}
use Rattle.listing.proofs.read.number.Goals as goal

pub returns-then-not-contains : goal.returns-then-not-contains
returns-then-not-contains c =
    number-none _ _ (c.digits-n.ensures ∙ digits-counted _) (λ l m. grind (arith, common_steps))

pub split_at-requires : goal.split_at-requires
split_at-requires c = rw c.digits-n.ensures (prefix_len-le-length is_ascii_digit c.args.s.now)

pub returns : goal.returns
returns c =
    let l : 1 ≤ c.digits-n.result = grind (arith, common_steps) in
    let m : c.digits-n.result ≤ 4 = grind (arith, common_steps) in
    number-taken _ _ (c.digits-n.ensures ∙ digits-counted _) _ _ _ l m c.split_at.ensures.front c.split_at.ensures.back c.value_of.ensures
