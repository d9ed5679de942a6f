-- The theorems on shortened codes gathered, for admitted t and r and allowed s. Assumes nothing.
use mathlib.Core.Path.{◌≡◌, sym, subst}
use mathlib.Core.List.{List}
use Prim.Native.Nat.{ℕ, ◌-◌, ◌≤◌}
use native.Mathlib.Omega.{arith}
use lib.ListN.{take}
use Rattle.group_theory.specs.Group.{Modulus}
use Rattle.layout_theory.specs.Parameters.{Admitted, places_of, moduli_for}
use Rattle.words_theory.specs.Words.{Word}
use Rattle.words_theory.specs.Syndrome.{length_of}
use Rattle.words_theory.proofs.Theorem.{length-code, length-message-code}
use Rattle.shortened_theory.specs.Allowed.{Allowed}
use Rattle.shortened_theory.specs.Code.{shortened_encode}
use Rattle.shortened_theory.specs.Claims.{EndsBetween, ShortenedOf, ShortenedCodes}
use Rattle.shortened_theory.proofs.Filling.{fills}
use Rattle.shortened_theory.proofs.Cutting.{front, commutes, groups}
use Rattle.shortened_theory.proofs.Nearest.{nearest}
use Rattle.shortened_theory.proofs.Encodings.{encodes, shortened-encoded}
use Rattle.shortened_theory.proofs.Carried.{carried}
use Rattle.shortened_theory.proofs.Triples.{thirds}
use Rattle.shortened_theory.proofs.Between.{allowed-between}

module _ (t r s : ℕ) (ok : Admitted t r) (al : Allowed t r s) where
  abbrev ms : List Modulus
  ms = moduli_for t r

  cut : EndsBetween ms s
  cut = (allowed-between t r s ok).0 al

  pub fits : s ≤ length_of ms
  fits = let n = length-code t r ok in let h = al.stays in omega arith

  pub word-shortened : {w : List ℕ} → Word (places_of t - s) w → Word (length_of ms - s) w
  word-shortened {w} h = subst (λ (n : ℕ). Word (n - s) w) (sym (length-code t r ok)) h

  gathered : ShortenedOf t r s
  gathered =
      let n = length-code t r ok in
      let m = length-message-code t r ok in
      record {
        fills = fills s;
        commutes = commutes ms s cut;
        groups = groups ms s cut fits;
        nearest = λ w h. nearest ms s fits w (word-shortened h);
        encodes = λ x h. encodes ms s (front ms s cut) x (subst (λ (k : ℕ). Word (k - s) x) (sym m) h);
        encoded = λ c k. subst (λ (l : ℕ). Word (l - s) (take (l - s) c) × (c ≡ shortened_encode ms s (take (l - s) c))) m (shortened-encoded ms s (front ms s cut) c k);
        carries = λ d w k h. carried ms s cut fits d w k (word-shortened h);
        thirds = λ i j a b c d e. thirds ms s fits i j a (rw n b) c (rw n d) e;
      }

pub shortened-code : ShortenedCodes
shortened-code t r s ok al = gathered t r s ok al
