-- The front of an extended word and its last place. Assumes nothing.
use mathlib.Core.Path.{◌≡◌, refl, sym, ap, ap₂, subst, ◌∙◌}
use mathlib.Core.List.{List, [], ◌∷◌, ◌++◌}
use Prim.Native.Nat.{ℕ, zero, suc, ◌+◌, ◌-◌, ◌%◌, ◌≤◌}
use native.Mathlib.Omega.{arith}
use lib.ListN.{take, drop, get_or, set, length-append, take-append-drop, drop_of_length-le}
use lib.Seq.{length-take-le, drop-cons, take-append_seam, take-set-le, take-set-lt, drop-set-lt, get_or-take}
use Rattle.words_theory.specs.Words.{Bits, Word, weight, flip}
use Rattle.words_theory.proofs.Flips.{flip-set}
use Rattle.extended_theory.specs.Code.{extend}
use Rattle.extended_theory.proofs.Parity.{weight-append}

-- ---- bits of a part, and of two parts
bits-take : (k : ℕ) (w : List ℕ) → Bits w → Bits (take k w)
bits-take zero w h = tt
bits-take (suc k) [] h = tt
bits-take (suc k) (b ∷ w) h = (h.0, bits-take k w h.1)

bits-drop : (k : ℕ) (w : List ℕ) → Bits w → Bits (drop k w)
bits-drop zero w h = h
bits-drop (suc k) [] h = tt
bits-drop (suc k) (b ∷ w) h = bits-drop k w h.1

bits-append : (v w : List ℕ) → Bits v → Bits w → Bits (v ++ w)
bits-append [] w g h = h
bits-append (b ∷ v) w g h = (g.0, bits-append v w g.1 h)

-- ---- a word of k places and one more
module _ (k : ℕ) (w : List ℕ) (h : Word (suc k) w) where
  pub front-word : Word k (take k w)
  front-word = record { places = length-take-le k w (let l = h.places in omega arith); bits = bits-take k w h.bits }

  -- a flipped place is one of the front, or the last
  pub front-flip : (p : ℕ) → p ≤ k → take k (flip p w) ≡ flip p (take k w)
  front-flip zero l = refl
  front-flip (suc i) l =
      ap (take k) (sym (flip-set w i))
      ∙ take-set-lt k w i (1 - get_or w i 0) (omega arith)
      ∙ ap (λ (b : ℕ). set (take k w) i (1 - b)) (sym (get_or-take k w i 0 (omega arith)))
      ∙ flip-set (take k w) i

  pub front-last : take k (flip (suc k) w) ≡ take k w
  front-last = ap (take k) (sym (flip-set w k)) ∙ take-set-le k w k (1 - get_or w k 0) (omega arith)

  rest-flip : (p : ℕ) → p ≤ k → drop k (flip p w) ≡ drop k w
  rest-flip zero l = refl
  rest-flip (suc i) l = ap (drop k) (sym (flip-set w i)) ∙ drop-set-lt k w i (1 - get_or w i 0) (omega arith)

  -- flipped in the front, the last place is kept
  pub flip-front : (p : ℕ) → p ≤ k → flip p (take k w) ++ drop k w ≡ flip p w
  flip-front p l = ap₂ ◌++◌ (sym (front-flip p l)) (sym (rest-flip p l)) ∙ take-append-drop k (flip p w)

  -- an even number of ones: the last place is the one that makes it so
  pub last-place : weight w % 2 ≡ 0 → w ≡ extend (take k w)
  unfolding weight
  last-place e =
      let l = h.places in
      let z : drop (suc k) w ≡ [] = drop_of_length-le w {i = suc k} (omega arith) in
      let d : drop k w ≡ get_or w k 0 ∷ [] = drop-cons w k 0 (omega arith) ∙ ap {B = List ℕ} (λ (v : List ℕ). get_or w k 0 ∷ v) z in
      let b = (subst Bits d (bits-drop k w h.bits)).0 in
      let s : w ≡ take k w ++ (get_or w k 0 ∷ []) = sym (take-append-drop k w) ∙ ap (λ (v : List ℕ). take k w ++ v) d in
      let a : weight w ≡ weight (take k w) + (get_or w k 0 + 0) = ap weight s ∙ weight-append (take k w) (get_or w k 0 ∷ []) in
      let x : get_or w k 0 ≡ weight (take k w) % 2 = omega arith in
      s ∙ ap (λ (y : ℕ). take k w ++ (y ∷ [])) x

-- ---- a word extended
module _ (k : ℕ) (c : List ℕ) (h : Word k c) where
  pub extend-word : Word (suc k) (extend c)
  extend-word =
      record {
        places = let l = h.places in length-append c (weight c % 2 ∷ []) ∙ (omega arith);
        bits = bits-append c (weight c % 2 ∷ []) h.bits (omega arith, tt);
      }

  pub extend-front : take k (extend c) ≡ c
  extend-front = ap (λ (n : ℕ). take n (extend c)) (sym h.places) ∙ take-append_seam c (weight c % 2 ∷ [])

  pub extend-even : weight (extend c) % 2 ≡ 0
  unfolding weight
  extend-even = let a = weight-append c (weight c % 2 ∷ []) in omega arith
