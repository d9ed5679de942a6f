-- `group::Moduli::modulus` meets its contract: each branch is the case of the modulus at its index. Assumes nothing.
use mathlib.Core.Path.{sym, ap}
use Rattle.group_theory.specs.Group.{radix}
use Rattle.group_theory.proofs.Fill.{moduli-two, moduli-four, moduli-one}
use Rattle.group.proofs.Moduli.modulus.Goals as goal

pub returns-then-i-self : goal.returns-then-i-self
returns-then-i-self c = sym (ap radix (moduli-two _ _ _ c.requires c.if-i-self.true))

pub returns-then-i-self-2 : goal.returns-then-i-self-2
returns-then-i-self-2 c = sym (ap radix (moduli-four _ _ _ c.requires c.if-i-self.false c.if-i-self-2.true))

pub returns-else-i-self-2 : goal.returns-else-i-self-2
returns-else-i-self-2 c = sym (ap radix (moduli-one _ _ _ c.if-i-self.false c.if-i-self-2.false))
