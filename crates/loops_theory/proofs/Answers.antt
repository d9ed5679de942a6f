-- What the functions on words take from the shape of an admitted code: room for its words, what the weights ask, and its two parts in the
-- syndrome. Assumes nothing.
use mathlib.Core.Path.{◌≡◌, sym, ap, ◌∙◌}
use mathlib.Core.List.{List}
use Prim.Native.Nat.{ℕ, ◌+◌, ◌-◌, ◌^◌, ◌≤◌}
use native.Mathlib.Omega.{arith}
use lib.ListN.{length, drop}
use lib.Pow.{pow_mono}
use Rattle.group_theory.specs.Group.{Modulus, moduli, sum}
use Rattle.layout_theory.specs.Parameters.{longest, Admitted, places_of, moduli_for}
use Rattle.layout_theory.specs.Layout.{units, message, places}
use Rattle.layout_theory.specs.declared.Shape.{Shape}
use Rattle.layout_theory.proofs.Parameters.{Known, moduli-known, sizes-known}
use Rattle.layout_theory.proofs.Sizes.{length-message}
use Rattle.folds_theory.specs.Folds.{room}
use Rattle.words_theory.specs.Syndrome.{syndrome_over, syndrome}
use Rattle.words_theory.proofs.Syndromes.{syndrome-split}
use Rattle.loops_theory.specs.Spread.{HoldsMessage}

-- no word of a code is longer than there is room for
pub places-room : (t r : ℕ) → Admitted t r → places_of t ≤ room
places-room t r ok = let q : 2 ^ t ≤ 2 ^ longest = pow_mono {i = t} {j = longest} ok.most in omega arith

-- what the weights ask of the numbers of a shape
pub holds-message : (t r : ℕ) (s : Shape) (n : ℕ) → Known t r s → s.message ≤ n → HoldsMessage s.a s.b (s.places + 1) (s.binary - s.a) n
holds-message t r s n k h =
    let z = sizes-known t r s k in
    let m = k.admitted.most in
    let w = k.admitted.within in
    let q = k.admitted.twice in
    record {
      few = omega (arith, k.a, k.b);
      all = sym z.all;
      front = omega (arith, z.part);
      enough = omega (arith, z.front);
    }

-- the syndrome: the message's part and the check's
pub syndrome-sum : (t r : ℕ) (w : List ℕ) (s : Shape) → Known t r s
    → sum (moduli s.a s.b) (syndrome_over (moduli s.a s.b) (message (moduli s.a s.b)) w)
    (syndrome_over (moduli s.a s.b) (units (moduli s.a s.b)) (drop s.message w))
    ≡ syndrome (moduli_for t r) w
syndrome-sum t r w s k =
    let ms = moduli s.a s.b in
    let z = sizes-known t r s k in
    let n : s.message ≡ length (places ms (message ms)) = sym (length-message ms ∙ z.front) in
    ap (λ (i : ℕ). sum ms (syndrome_over ms (message ms) w) (syndrome_over ms (units ms) (drop i w))) n
    ∙ sym (syndrome-split ms w)
    ∙ ap (λ (x : List Modulus). syndrome x w) (moduli-known t r s k)
