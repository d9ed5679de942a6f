-- For the loop that writes check digits over the front of an output. Assumes nothing.
use mathlib.Core.Path.{◌≡◌, refl, sym, ap, ap₂, ◌∙◌}
use mathlib.Core.List.{List, [], ◌∷◌, ◌++◌, append-nil, append_assoc}
use Prim.Native.Nat.{ℕ, zero, suc, ◌+◌, ◌-◌, ◌*◌, ◌<◌, ◌≤◌}
use native.Mathlib.Numerals.{add-one}
use native.Mathlib.Omega.{arith}
use lib.ListN.{length, take, drop, get_or, set, length-set, drop_of_length-le, take-append-drop}
use lib.Seq.{drop-cons, drop-drop, take-suc-set, drop-set-lt}
use Rattle.group_theory.specs.Group.{Modulus, one, two, four, moduli, hd, tl}
use Rattle.group_theory.proofs.Fill.{length-moduli, moduli-two, moduli-four, moduli-one}
use Rattle.words_theory.specs.Digits.{gray}
use Rattle.words_theory.specs.Coding.{check_digits}
use Rattle.loops_theory.proofs.Checking.{Place}

-- what is not yet written stays as it was
kept_step : (old out : List ℕ) (i x : ℕ) → drop i out ≡ drop i old → drop (suc i) (set out i x) ≡ drop (suc i) old
kept_step old out i x e =
    drop-set-lt (suc i) out i x (omega arith) ∙ rw (← add-one, ← drop-drop 1 i out, ← drop-drop 1 i old, e)

-- ---- the digits of one more component
pub gray-halves : (d : ℕ) (w : List ℕ) → gray d w ≡ hd (gray d []) ∷ hd (tl (gray d [])) ∷ w
gray-halves zero w = refl
gray-halves (suc zero) w = refl
gray-halves (suc (suc zero)) w = refl
gray-halves (suc (suc (suc d))) w = refl

-- the same, by the indices of its two places
gray-places : (d : ℕ) (w : List ℕ) → gray d w ≡ get_or (gray d []) 0 0 ∷ get_or (gray d []) 1 0 ∷ w
gray-places zero w = refl
gray-places (suc zero) w = refl
gray-places (suc (suc zero)) w = refl
gray-places (suc (suc (suc d))) w = refl

-- what one more component adds to the digits
digits-two : (ms : List Modulus) (e : List ℕ) (i : ℕ) → i < length ms → i < length e → get_or ms i one ≡ two
    → check_digits (drop i ms) (drop i e) ≡ get_or e i 0 ∷ check_digits (drop (suc i) ms) (drop (suc i) e)
unfolding check_digits
digits-two ms e i h k q = rw (drop-cons ms i one, drop-cons e i 0, q)

digits-four : (ms : List Modulus) (e : List ℕ) (i : ℕ) → i < length ms → i < length e → get_or ms i one ≡ four
    → check_digits (drop i ms) (drop i e) ≡ gray (get_or e i 0) (check_digits (drop (suc i) ms) (drop (suc i) e))
unfolding check_digits
digits-four ms e i h k q = rw (drop-cons ms i one, drop-cons e i 0, q)

digits-one : (ms : List Modulus) (e : List ℕ) (i : ℕ) → i < length ms → i < length e → get_or ms i one ≡ one
    → check_digits (drop i ms) (drop i e) ≡ check_digits (drop (suc i) ms) (drop (suc i) e)
unfolding check_digits
digits-one ms e i h k q = rw (drop-cons ms i one, drop-cons e i 0, q)

-- the digits of the first i components are written
pub record DigitsWritten (a b : ℕ) (e old out : List ℕ) (at i : ℕ) : Type 0 where
  pub top : i ≤ 12
  pub wide : length out ≡ length old
  pub done : take at out ++ check_digits (drop i (moduli a b)) (drop i e) ≡ check_digits (moduli a b) e
  pub kept : drop at out ≡ drop at old
  pub place : Place a b 0 at i

module _ (a b : ℕ) (e old : List ℕ) (n : length e ≡ 12) (h : a + b ≤ 12) (room : a + 2 * b ≤ length old) where
  pub digits-start : DigitsWritten a b e old old 0 0
  digits-start = record { top = omega arith; wide = refl; done = refl; kept = refl; place = omega arith }

  module _ (out : List ℕ) (at i : ℕ) (v : DigitsWritten a b e old out at i) (k : i < 12) where
    -- the places of the next digit are there
    pub room-two : i < a → at < length out
    room-two l = let p = v.place in let w = v.wide in omega arith

    pub room-four : a ≤ i → i - a < b → at + 1 < length out
    room-four l m = let p = v.place in let w = v.wide in omega arith

    pub write_two : i < a → DigitsWritten a b e old (set out at (get_or e i 0)) (at + 1) (i + 1)
    write_two l =
        let p = v.place in
        let w = v.wide in
        let m = length-moduli a b in
        let r = room-two l in
        let d = digits-two (moduli a b) e i (omega arith) (omega arith) (moduli-two a b i k l) in
        let R = check_digits (drop (suc i) (moduli a b)) (drop (suc i) e) in
        record {
          top = omega arith;
          wide = simp length-set w;
          done = rw (add-one at, add-one i, take-suc-set out at (get_or e i 0) r) (append_assoc (take at out) (get_or e i 0 ∷ []) R ∙ rw (← d) v.done);
          kept = rw add-one (kept_step old out at (get_or e i 0) v.kept);
          place = omega arith;
        }

    pub write-four : a ≤ i → i - a < b
        → DigitsWritten a b e old (set (set out at (get_or (gray (get_or e i 0) []) 0 0)) (at + 1) (get_or (gray (get_or e i 0) []) 1 0)) (at + 2) (i + 1)
    write-four l q =
        let p = v.place in
        let w = v.wide in
        let m = length-moduli a b in
        let r = room-four l q in
        let x = get_or (gray (get_or e i 0) []) 0 0 in
        let y = get_or (gray (get_or e i 0) []) 1 0 in
        let out' = set out at x in
        let g : length out' ≡ length out = length-set out at x in
        let R = check_digits (drop (suc i) (moduli a b)) (drop (suc i) e) in
        let d : check_digits (drop i (moduli a b)) (drop i e) ≡ x ∷ y ∷ R =
        digits-four (moduli a b) e i (omega arith) (omega arith) (moduli-four a b i k l q) ∙ gray-places (get_or e i 0) R in
        let two' : at + 2 ≡ suc (suc at) = omega arith in
        let t : take (suc (suc at)) (set out' (suc at) y) ≡ (take at out ++ (x ∷ [])) ++ (y ∷ []) =
        take-suc-set out' (suc at) y (omega arith) ∙ ap (λ (z : List ℕ). z ++ (y ∷ [])) (take-suc-set out at x (omega arith)) in
        record {
          top = omega arith;
          wide = length-set out' (at + 1) y ∙ g ∙ w;
          done = rw (two', add-one at, add-one i, t)
              (append_assoc (take at out ++ (x ∷ [])) (y ∷ []) R ∙ append_assoc (take at out) (x ∷ []) (y ∷ R) ∙ rw (← d) v.done);
          kept = rw (two', add-one at) (kept_step old out' (suc at) y (kept_step old out at x v.kept));
          place = omega arith;
        }

    pub write-one : a ≤ i → b ≤ i - a → DigitsWritten a b e old out at (i + 1)
    write-one l q =
        let p = v.place in
        let m = length-moduli a b in
        let d = digits-one (moduli a b) e i (omega arith) (omega arith) (moduli-one a b i l q) in
        record {
          top = omega arith;
          wide = v.wide;
          done = rw (add-one, ← d) v.done;
          kept = v.kept;
          place = omega arith;
        }

  pub digits-end : (out : List ℕ) (at i : ℕ) → DigitsWritten a b e old out at i → 12 ≤ i
      → out ≡ check_digits (moduli a b) e ++ drop (a + 2 * b) old
  unfolding check_digits
  digits-end out at i v k =
      let p = v.place in
      let at' : at ≡ a + 2 * b = omega arith in
      let none : drop i (moduli a b) ≡ [] = drop_of_length-le (moduli a b) {i = i} (omega (arith, length-moduli a b)) in
      let f : take at out ++ [] ≡ check_digits (moduli a b) e = rw none at v.done in
      sym (take-append-drop at out)
      ∙ ap₂ ◌++◌ (sym (append-nil (take at out)) ∙ f) (v.kept ∙ ap (λ (j : ℕ). drop j old) at')
