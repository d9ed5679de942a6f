-- The range of t and r: the inequality, the test for it, the pair that request C-11 adds, document 01's examples, computed by the test, how far
-- words and elements reach, and the smallest r of each t. Assumes nothing.
use mathlib.Core.Path.{◌≡◌, refl, sym, ◌∙◌}
use mathlib.Core.Bool.{false, true≢false}
use mathlib.Core.Logic.{◌⊎◌, inl, inr, ⊎_elim}
use Prim.Native.Nat.{ℕ, ◌+◌, ◌*◌, ◌^◌, ◌≤◌}
use native.Mathlib.Omega.{arith}
use native.Mathlib.Decide.{ℕ_discrete}
use lib.Pow.{pow_mono}
use Rattle.layout_theory.specs.Parameters.{longest, Admitted, admits, smallest_r}
use Rattle.layout_theory.specs.Claims.{AdmittedRange, FromTwo, OnePairMore, Defaults, Limits, Reaches}
use Rattle.layout_theory.proofs.Parameters.{admits-admitted, admitted-admits, components}

pub admitted-range : AdmittedRange
admitted-range t r =
    record {
      range = (
        (λ h. (h.least, h.most, h.binary, h.within, h.twice)),
        λ h. record { least = h.0; most = h.1; binary = h.2; within = h.3; twice = h.4 },
      );
      test = (admits-admitted t r, admitted-admits t r);
      -- with itself every t of the range is admitted
      or_zero = (
        ⊎_elim (λ h. (h.least, h.most, inr (h.binary, h.within, h.twice))) (λ e. (e.1.least, e.1.most, inl e.0)),
        λ h.
            let l = h.0 in
            ⊎_elim
            (λ z. inr (z, record { least = l; most = h.1; binary = omega arith; within = omega arith; twice = omega arith }))
            (λ k. inl (record { least = l; most = h.1; binary = k.0; within = k.1; twice = k.2 }))
            h.2,
      );
    }

not-admitted : (t r : ℕ) → admits t r ≡ false → Admitted t r → ⊥
not-admitted t r e h = true≢false (sym (admitted-admits t r h) ∙ e)

pub limits : Limits
unfolding admits
limits = record {
  in21 = admits-admitted 2 1 refl;
  in22 = admits-admitted 2 2 refl;
  in42 = admits-admitted 4 2 refl;
  in105 = admits-admitted 10 5 refl;
  in1010 = admits-admitted 10 10 refl;
  in116 = admits-admitted 11 6 refl;
  in126 = admits-admitted 12 6 refl;
  in1212 = admits-admitted 12 12 refl;
  out11 = not-admitted 1 1 refl;
  out52 = not-admitted 5 2 refl;
  out45 = not-admitted 4 5 refl;
  out115 = not-admitted 11 5 refl;
  out137 = not-admitted 13 7 refl;
}

pub reaches : Reaches
unfolding admits
reaches = record {
  most = λ t r h. let q : 2 ^ t ≤ 2 ^ longest = pow_mono {i = t} {j = longest} h.most in (omega arith, components t r h);
  reached = (admits-admitted 12 12 refl, refl, refl);
}

-- where r is 1, t is 2
pub one-pair-more : OnePairMore
unfolding admits
one-pair-more = record { range = λ t r. (apart t r, together t r); new = λ h. omega arith }
  where
    apart : (t r : ℕ) → Admitted t r → FromTwo t r ⊎ ((t ≡ 2) × (r ≡ 1))
    apart t r h = go (ℕ_discrete r 1)
      where
        go : Dec (r ≡ 1) → FromTwo t r ⊎ ((t ≡ 2) × (r ≡ 1))
        go (yes e) = inr (omega arith, e)
        go (no n) = inl (h.least, h.most, omega (arith, n), h.within, h.twice)

    together : (t r : ℕ) → FromTwo t r ⊎ ((t ≡ 2) × (r ≡ 1)) → Admitted t r
    together t r (inl h) = record { least = h.0; most = h.1; binary = let b = h.2 in omega arith; within = h.3; twice = h.4 }
    together t r (inr e) = rw (e.0, e.1) (admits-admitted 2 1 refl)

pub defaults : Defaults
defaults t l m =
    record {
      smallest = record {
        admitted = record { least = l; most = m; binary = omega arith; within = omega arith; twice = omega arith };
        least = λ r h. let k = h.twice in omega arith;
      };
      half = go (ℕ_discrete (2 * smallest_r t) t);
    }
  where
    go : Dec (2 * smallest_r t ≡ t) → (2 * smallest_r t ≡ t) ⊎ (2 * smallest_r t ≡ t + 1)
    go (yes e) = inl e
    go (no n) = inr (omega (arith, n))
