-- `checks::check::all_bits` meets its contract: the place of a byte above 1 is at most the word's length. Assumes nothing.
use mathlib.Core.Path.{◌≡◌, sym, ◌∙◌}
use Prim.Native.Nat.{ℕ, zero, suc}
use native.Mathlib.Omega.{arith}
use Rattle.std.specs.Prelude.{Err}
use Rattle.words_theory.specs.Calls.{if_bits}
use Rattle.words_theory.proofs.Bad.{bad-most}
use Rattle.checks.proofs.check.all_bits.Goals as goal

place_is : (p q : ℕ) → if_bits {A = Unit {0}} p (tt {0}) ≡ Err q → q ≡ p
place_is zero q e = absurd (cc)
place_is (suc p) q e = cc

pub map_err-requires : goal.map_err-requires
map_err-requires c e is _ _ =
    let p = place_is _ _ (sym c.all_bits.ensures ∙ is) in
    let h = bad-most 0 c.args.word.now in
    omega (arith, c.requires)
