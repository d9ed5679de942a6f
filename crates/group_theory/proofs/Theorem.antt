-- The group's laws as one theorem, `group_laws`, and its moduli, `moduli-are`. Their statements are in specs/Claims. Assumes nothing.
use Prim.Native.Nat.{◌+◌}
use native.Mathlib.Omega.{arith}
use Rattle.group_theory.specs.Claims.{Groups, Moduli}
use Rattle.group_theory.proofs.Laws.{valid-sum, valid-negative, valid-element, sum_comm, sum-assoc, zero-sum, sum-negative, times-four, times-two-zero, own-negative}
use Rattle.group_theory.proofs.Numbers.{element-number, number-element, number_lt}
use Rattle.group_theory.proofs.Components.{binary-digit, quaternary-digit}
use Rattle.group_theory.proofs.Fill.{moduli-two, moduli-four, moduli-one, length-moduli, sum-at}
use Rattle.group_theory.proofs.Signs.{even-own, own-even, lead-negative, lead-first}

pub group_laws : Groups
group_laws ms =
    record {
      numbers = λ e h. (number_lt ms e, element-number ms e h);
      elements = λ x h. (valid-element ms x, number-element ms x h);
      closed = λ x y. (valid-sum ms x y, valid-negative ms x);
      adds = sum-at ms;
      commutes = sum_comm ms;
      associates = sum-assoc ms;
      neutral = zero-sum ms;
      inverts = sum-negative ms;
      four_times = times-four ms;
      order = λ x h. (times-two-zero ms x h, own-negative ms x h);
      even = λ x h. (own-even ms x h, even-own ms x h);
      turned = lead-negative ms;
      first = lead-first ms;
    }

pub moduli-are : Moduli
moduli-are a b h =
    record {
      twelve = length-moduli a b;
      binary = λ i l. moduli-two a b i (omega arith) l;
      quaternary = λ i l. moduli-four a b (a + i) (omega arith) (omega arith) (omega arith);
      others = λ i. moduli-one a b (a + b + i) (omega arith) (omega arith);
      binary_digit = binary-digit a b h;
      quaternary_digit = quaternary-digit a b h;
    }
