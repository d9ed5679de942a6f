-- The syndrome of any bytes: the sum over the parts of the layout, and over the check part the element whose components are
-- the check digits. Assumes nothing.
use mathlib.Core.Path.{◌≡◌, refl, sym, ap, ap₂, ◌∙◌}
use mathlib.Core.List.{List, [], ◌∷◌, ◌++◌, map}
use Prim.Native.Nat.{ℕ, zero, suc, ◌%◌}
use native.Mathlib.Omega.{arith}
use lib.ListN.{length, drop, get_or}
use Rattle.group_theory.specs.Group.{Modulus, one, two, four, hd, tl, zeros, sum, times}
use Rattle.group_theory.proofs.Laws.{sum-assoc, zero-sum}
use Rattle.group_theory.proofs.Signs.{zeros-cons}
use Rattle.group_theory.proofs.Unit.{sum-under, times-under, times-unit}
use Rattle.layout_theory.specs.Layout.{Slot, single, pair, zero_first, units, message, slots, places}
use Rattle.words_theory.specs.Digits.{digit}
use Rattle.words_theory.specs.Syndrome.{syndrome_over, syndrome}
use Rattle.words_theory.proofs.Reading.{valid-over}
use Rattle.words_theory.proofs.Combining.{digit_lt}

-- ---- lists
pub hd-drop : (w : List ℕ) (i : ℕ) → hd (drop i w) ≡ get_or w i 0
hd-drop [] zero = refl
hd-drop [] (suc i) = refl
hd-drop (x ∷ w) zero = refl
hd-drop (x ∷ w) (suc i) = hd-drop w i

pub tl-drop : (w : List ℕ) (i : ℕ) → tl (drop i w) ≡ drop (suc i) w
tl-drop [] zero = refl
tl-drop [] (suc i) = refl
tl-drop (x ∷ w) zero = refl
tl-drop (x ∷ w) (suc i) = tl-drop w i

drop-tl : (w : List ℕ) (i : ℕ) → drop i (tl w) ≡ drop (suc i) w
drop-tl [] zero = refl
drop-tl [] (suc i) = refl
drop-tl (x ∷ w) i = refl

-- ---- the parts
pub syndrome-parts : (ms : List Modulus) (sl sk : List Slot) (w : List ℕ)
    → syndrome_over ms (sl ++ sk) w ≡ sum ms (syndrome_over ms sl w) (syndrome_over ms sk (drop (length (places ms sl)) w))
unfolding syndrome_over places
syndrome-parts ms [] sk w = sym (zero-sum ms (syndrome_over ms sk w) (valid-over ms sk w))
syndrome-parts ms (single e ∷ sl) sk w =
    let n = length (places ms sl) in
    ap (sum ms (times ms (hd w) e)) (syndrome-parts ms sl sk (tl w))
    ∙ sym (sum-assoc ms (times ms (hd w) e) (syndrome_over ms sl (tl w)) (syndrome_over ms sk (drop n (tl w))))
    ∙ ap (λ (v : List ℕ). sum ms (sum ms (times ms (hd w) e) (syndrome_over ms sl (tl w))) (syndrome_over ms sk v)) (drop-tl w n)
syndrome-parts ms (pair z ∷ sl) sk w =
    let n = length (places ms sl) in
    let d = digit (hd w) (hd (tl w)) in
    ap (sum ms (times ms d z)) (syndrome-parts ms sl sk (tl (tl w)))
    ∙ sym (sum-assoc ms (times ms d z) (syndrome_over ms sl (tl (tl w))) (syndrome_over ms sk (drop n (tl (tl w)))))
    ∙ ap (λ (v : List ℕ). sum ms (sum ms (times ms d z) (syndrome_over ms sl (tl (tl w)))) (syndrome_over ms sk v))
    (drop-tl (tl w) n ∙ drop-tl w (suc n))

pub syndrome-split : (ms : List Modulus) (w : List ℕ)
    → syndrome ms w ≡ sum ms (syndrome_over ms (message ms) w) (syndrome_over ms (units ms) (drop (length (places ms (message ms))) w))
unfolding syndrome slots
syndrome-split ms w = syndrome-parts ms (message ms) (units ms) w

-- ---- the check part, read: its digits are components
abbrev pub component_of : Modulus → List ℕ → ℕ
component_of one c = 0
component_of two c = hd c % 2
component_of four c = digit (hd c) (hd (tl c))

abbrev pub after_of : Modulus → List ℕ → List ℕ
after_of one c = c
after_of two c = tl c
after_of four c = tl (tl c)

unfoldable pub check_read : List Modulus → List ℕ → List ℕ
check_read [] c = []
check_read (m ∷ ms) c = component_of m c ∷ check_read ms (after_of m c)

pub syndrome-under : (m : Modulus) (ms : List Modulus) (sl : List Slot) (w : List ℕ)
    → syndrome_over (m ∷ ms) (map zero_first sl) w ≡ 0 ∷ syndrome_over ms sl w
unfolding syndrome_over
syndrome-under m ms [] w = zeros-cons m ms
syndrome-under m ms (single e ∷ sl) w =
    ap₂ (sum (m ∷ ms)) (times-under m ms (hd w) e) (syndrome-under m ms sl (tl w))
    ∙ sum-under m ms (times ms (hd w) e) (syndrome_over ms sl (tl w))
syndrome-under m ms (pair z ∷ sl) w =
    ap₂ (sum (m ∷ ms)) (times-under m ms (digit (hd w) (hd (tl w))) z) (syndrome-under m ms sl (tl (tl w)))
    ∙ sum-under m ms (times ms (digit (hd w) (hd (tl w))) z) (syndrome_over ms sl (tl (tl w)))

pub check-read : (ms : List Modulus) (c : List ℕ) → syndrome_over ms (units ms) c ≡ check_read ms c
unfolding syndrome_over units check_read zeros
check-read [] c = refl
check-read (one ∷ ms) c = syndrome-under one ms (units ms) c ∙ ap {B = List ℕ} (λ (r : List ℕ). 0 ∷ r) (check-read ms c)
check-read (two ∷ ms) c =
    ap (sum (two ∷ ms) (times (two ∷ ms) (hd c) (1 ∷ zeros ms))) (syndrome-under two ms (units ms) (tl c))
    ∙ times-unit two ms (hd c) (syndrome_over ms (units ms) (tl c)) (valid-over ms (units ms) (tl c))
    ∙ ap {B = List ℕ} (λ (r : List ℕ). hd c % 2 ∷ r) (check-read ms (tl c))
check-read (four ∷ ms) c =
    let d = digit (hd c) (hd (tl c)) in
    let l = digit_lt (hd c) (hd (tl c)) in
    let k : d % 4 ≡ d = omega arith in
    ap (sum (four ∷ ms) (times (four ∷ ms) d (1 ∷ zeros ms))) (syndrome-under four ms (units ms) (tl (tl c)))
    ∙ times-unit four ms d (syndrome_over ms (units ms) (tl (tl c))) (valid-over ms (units ms) (tl (tl c)))
    ∙ ap₂ {C = List ℕ} ◌∷◌ k (check-read ms (tl (tl c)))
