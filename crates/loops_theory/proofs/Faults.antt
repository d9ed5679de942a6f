-- The place at fault as the code tells it, and a word with one place flipped. Assumes nothing.
use mathlib.Core.Path.{◌≡◌, refl, sym, ap, ap₂, subst, ◌∙◌}
use mathlib.Core.Logic.{◌≢◌}
use mathlib.Core.Bool.{Bool, true, false}
use mathlib.Core.List.{List, ◌++◌}
use Prim.Native.Nat.{ℕ, zero, suc, ◌+◌, ◌-◌, ◌<◌, ◌≤◌}
use native.Mathlib.Numerals.{add-one}
use native.Mathlib.Omega.{arith}
use borrow.Author.Tests.{le-leb, lt-leb}
use lib.Dec.{eqb}
use lib.ListN.{length, take, drop, get_or, set}
use lib.Seq.{take-append_seam, drop-append_seam, set_out}
use Rattle.group_theory.specs.Group.{Modulus, Valid, moduli, zeros, negative}
use Rattle.group_theory.specs.Sign.{all_zero}
use Rattle.group_theory.proofs.Laws.{valid-negative, negative-negative, negative-zeros}
use Rattle.group_theory.proofs.Signs.{negative-none}
use Rattle.layout_theory.specs.Choice.{pick}
use Rattle.layout_theory.specs.Parameters.{moduli_for}
use Rattle.layout_theory.specs.Layout.{Slot, slots, element_at, place_of}
use Rattle.layout_theory.specs.Calls.{place_for}
use Rattle.layout_theory.specs.declared.Shape.{Shape}
use Rattle.layout_theory.proofs.Parameters.{Known, moduli-known, length-for, place-for}
use Rattle.layout_theory.proofs.Places.{valid-at-place, place-unique, place_none, place_found, place-most}
use Rattle.words_theory.specs.Words.{flip}
use Rattle.words_theory.specs.Halves.{other_at, other_half, moved_at, moved}
use Rattle.words_theory.specs.Calls.{fault_at, flip_for}
use Rattle.words_theory.proofs.Flips.{flip-set}
use Rattle.words_theory.proofs.Theorem.{pair-halves}
use Rattle.shortened_theory.specs.Code.{fill}
use Rattle.loops_theory.specs.Writing.{Cut}
use Rattle.loops_theory.proofs.Cuts.{get_or-left, get_d_kept, other-gone}

-- ---- from minus the syndrome to the place at fault
-- the code's choice between a place and its other half
moved_told : (sl : List Slot) (w : List ℕ) (p k j : ℕ) → p ≢ 0 → k ≡ other_at sl (p - 1)
    → j ≡ pick (eqb (get_or w (p - 1) 0) (get_or w k 0)) (p - 1) k → j + 1 ≡ moved sl w p
unfolding moved_at
moved_told sl w zero k j n e f = absurd (n refl)
moved_told sl w (suc i) k j n e f =
    let x : suc i - 1 ≡ i = omega arith in
    add-one j
    ∙ ap suc
    (f
    ∙ ap (λ (i : ℕ). pick (eqb (get_or w i 0) (get_or w k 0)) i k) x
    ∙ ap (λ (k : ℕ). pick (eqb (get_or w i 0) (get_or w k 0)) i k) (e ∙ ap (other_at sl) x))

pub pick-lt : (b : Bool) (i k j n : ℕ) → j ≡ pick b i k → i < n → k < n → j < n
pick-lt true i k j n e h l = omega arith
pick-lt false i k j n e h l = omega arith

-- the place of any element at all
pub place-within : (t r : ℕ) (s : Shape) → Known t r s → (m : List ℕ) (p : ℕ) → p ≡ place_for t r m → p ≤ s.places
place-within t r s k m p f =
    omega (arith, f ∙ place-for t r m k.admitted, place-most (moduli_for t r) m, length-for t r k.admitted, k.places)

-- the place of minus e is the other half of the place of e, where e has one; and minus zero has none
pub other_place : (ms : List Modulus) (e : List ℕ) → place_of ms e ≢ 0 → place_of ms (negative ms e) ≡ other_half (slots ms) (place_of ms e)
other_place ms e n =
    let p = place_of ms e in
    let x : element_at ms p ≡ e = place_found ms e n in
    let v : Valid ms e = subst (Valid ms) x (valid-at-place ms p) in
    let z : negative ms e ≢ zeros ms = λ q. n (place_none ms e (λ _. sym (negative-negative ms e v) ∙ ap (negative ms) q ∙ negative-zeros ms)) in
    place-unique ms (negative ms e) (other_half (slots ms) p) (valid-negative ms e) z (some p n) ((pair-halves ms).negates p ∙ ap (negative ms) x)
  where
    some : (p : ℕ) → p ≢ 0 → 0 < other_half (slots ms) p
    some zero n = absurd (n refl)
    some (suc i) n = omega arith

module _ (t r : ℕ) (s : Shape) (k : Known t r s) (e : List ℕ) (p : ℕ) (f : p ≡ place_for t r e) where
  pub other-told : p ≢ 0 → (i : ℕ) → i ≡ other_at (slots (moduli s.a s.b)) (p - 1) → i + 1 ≡ place_for t r (negative (moduli s.a s.b) e)
  other-told n i g =
      let ms = moduli_for t r in
      let q : p ≡ place_of ms e = f ∙ place-for t r e k.admitted in
      let m = moduli-known t r s k in
      half p n i (g ∙ ap (λ (ms : List Modulus). other_at (slots ms) (p - 1)) m)
      ∙ ap (other_half (slots ms)) q
      ∙ sym (other_place ms e (λ z. n (q ∙ z)))
      ∙ ap (λ (ms : List Modulus). place_of (moduli_for t r) (negative ms e)) (sym m)
      ∙ sym (place-for t r (negative (moduli s.a s.b) e) k.admitted)
    where
      half : (p : ℕ) → p ≢ 0 → (i : ℕ) → i ≡ other_at (slots (moduli_for t r)) (p - 1) → i + 1 ≡ other_half (slots (moduli_for t r)) p
      half zero n i g = absurd (n refl)
      half (suc j) n i g = let x : suc j - 1 ≡ j = omega arith in add-one i ∙ ap suc (g ∙ ap (other_at (slots (moduli_for t r))) x)

pub fault-zero : (ms : List Modulus) (e w : List ℕ) → all_zero e ≡ true → 0 ≡ fault_at ms e w
fault-zero ms e w h = sym (ap (moved (slots ms) w) (place_none ms (negative ms e) (λ _. negative-none ms e h)))

-- p is the place of minus x
module _ (t r : ℕ) (s : Shape) (k : Known t r s) (w x : List ℕ) (p : ℕ)
    (f : p ≡ place_for t r (negative (moduli s.a s.b) x)) where
  found : p ≡ place_of (moduli_for t r) (negative (moduli_for t r) x)
  found = f ∙ place-for t r (negative (moduli s.a s.b) x) k.admitted ∙ ap (λ (ms : List Modulus). place_of (moduli_for t r) (negative ms x)) (moduli-known t r s k)

  pub fault-nothing : p ≡ 0 → 0 ≡ fault_at (moduli_for t r) x w
  fault-nothing z = ap (moved (slots (moduli_for t r)) w) (sym z ∙ found)

  pub fault-something : p ≢ 0 → (i j : ℕ) → i ≡ other_at (slots (moduli s.a s.b)) (p - 1)
      → j ≡ pick (eqb (get_or w (p - 1) 0) (get_or w i 0)) (p - 1) i → j + 1 ≡ fault_at (moduli_for t r) x w
  fault-something n i j g h =
      moved_told (slots (moduli_for t r)) w p i j n (g ∙ ap (λ (ms : List Modulus). other_at (slots ms) (p - 1)) (moduli-known t r s k)) h
      ∙ ap (moved (slots (moduli_for t r)) w) found

-- the same of a word whose first d places are left out: they are 0, and so are both halves of a pair that is
module _ (t r d : ℕ) (s : Shape) (k : Known t r s) (c : Cut s d) (w x : List ℕ) (p : ℕ)
    (f : p ≡ place_for t r (negative (moduli s.a s.b) x)) (n : p ≢ 0) where
  pub fault-gone : p - 1 < d → p ≡ fault_at (moduli_for t r) x (fill d w)
  fault-gone h =
      let i = other_at (slots (moduli s.a s.b)) (p - 1) in
      let a : get_or (fill d w) (p - 1) 0 ≡ 0 = get_or-left d w (p - 1) h in
      let b : get_or (fill d w) i 0 ≡ 0 = get_or-left d w i (other-gone s d c (p - 1) h) in
      let q : p - 1 ≡ pick (eqb (get_or (fill d w) (p - 1) 0) (get_or (fill d w) i 0)) (p - 1) i = rw (a, b) refl in
      let z : p ≡ p - 1 + 1 = omega arith in
      z ∙ fault-something t r s k (fill d w) x p f n i (p - 1) refl q

  pub fault-kept : d ≤ p - 1 → (i j : ℕ) → i ≡ other_at (slots (moduli s.a s.b)) (p - 1) → d ≤ i
      → j ≡ pick (eqb (get_or w (p - 1 - d) 0) (get_or w (i - d) 0)) (p - 1) i → j + 1 ≡ fault_at (moduli_for t r) x (fill d w)
  fault-kept h i j g l q =
      fault-something t r s k (fill d w) x p f n i j g
      (q ∙ sym (ap₂ (λ (y z : ℕ). pick (eqb y z) (p - 1) i) (get_d_kept d w (p - 1) h) (get_d_kept d w i l)))

-- ---- a word with one place flipped
flip-index : (p : ℕ) (w : List ℕ) → p ≢ 0 → set w (p - 1) (1 - get_or w (p - 1) 0) ≡ flip p w
flip-index zero w n = absurd (n refl)
flip-index (suc i) w n =
    let x : suc i - 1 ≡ i = omega arith in
    ap (λ (i : ℕ). set w i (1 - get_or w i 0)) x ∙ flip-set w i

-- where it stands
pub own-nothing : (w : List ℕ) (p : ℕ) → p ≡ 0 → w ≡ flip p w
own-nothing w p z = ap (λ (q : ℕ). flip q w) (sym z)

pub own-outside : (w : List ℕ) (p : ℕ) → p ≢ 0 → length w ≤ p - 1 → w ≡ flip p w
own-outside w p n h = sym (set_out w (p - 1) (1 - get_or w (p - 1) 0) h) ∙ flip-index p w n

pub own-inside : (w : List ℕ) (p : ℕ) → p ≢ 0 → (b : ℕ) → b ≡ 1 - get_or w (p - 1) 0 → set w (p - 1) b ≡ flip p w
own-inside w p n b f = ap (set w (p - 1)) f ∙ flip-index p w n

-- and in a copy at the front of an output
pub flip-copied : (w old x y : List ℕ) (p : ℕ) → x ≡ w → y ≡ flip p (take (length w) (x ++ drop (length w) old))
    → y ++ drop (length w) (x ++ drop (length w) old) ≡ flip p w ++ drop (length w) old
flip-copied w old x y p e f =
    let n = length w in
    let a : take n (x ++ drop n old) ≡ w = ap (λ (r : List ℕ). take n (r ++ drop n old)) e ∙ take-append_seam w (drop n old) in
    let b : drop n (x ++ drop n old) ≡ drop n old = ap (λ (r : List ℕ). drop n (r ++ drop n old)) e ∙ drop-append_seam w (drop n old) in
    ap₂ ◌++◌ (f ∙ ap (flip p) a) b

pub flip-narrow : (w old : List ℕ) (p : ℕ) → length old < length w → old ≡ flip_for w p old
unfolding flip_for
flip-narrow w old p h = rw (lt-leb (length w) (length old) h)

pub flip-whole : (w old : List ℕ) (p : ℕ) → length w ≤ length old → flip p w ++ drop (length w) old ≡ flip_for w p old
unfolding flip_for
flip-whole w old p h = rw (le-leb (length w) (length old) h)
