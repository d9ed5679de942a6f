-- Two words combined, by index: the sum modulo 2 where a place is its own other half, and the two places of the digits' sum modulo 4 where
-- the other half is the next one; and the loops that write these sums. Assumes nothing.
use mathlib.Core.Path.{◌≡◌, refl, sym, ap, ap₂, subst, ◌∙◌}
use mathlib.Core.List.{List, [], ◌∷◌, ◌++◌}
use mathlib.Core.Logic.{inl, inr}
use Prim.Native.Nat.{ℕ, zero, suc, ◌+◌, ◌-◌, ◌*◌, ◌%◌, ◌<◌, ◌≤◌}
use native.Mathlib.Omega.{arith}
use lib.ListN.{length, drop, get_or, set, length-drop}
use lib.Seq.{get_or-drop}
use Rattle.group_theory.specs.Group.{Modulus, moduli, hd, tl}
use Rattle.layout_theory.specs.Layout.{Slot, single, pair, slots, places}
use Rattle.layout_theory.specs.declared.Shape.{Shape}
use Rattle.words_theory.specs.Digits.{gray, digit}
use Rattle.words_theory.specs.Words.{combine}
use Rattle.words_theory.specs.Halves.{other_at}
use Rattle.words_theory.proofs.Syndromes.{hd-drop}
use Rattle.words_theory.proofs.OtherHalf.{later-at, swapped, other-one, other-two, other-three, other-four}
use Rattle.words_theory.proofs.Shapes.{sizes, located, length-slots}
use Rattle.layout_theory.proofs.Parameters.{Sizes}
use Rattle.shortened_theory.specs.Allowed.{EndsWhole}
use Rattle.shortened_theory.specs.Code.{fill, shortened_combine}
use Rattle.loops_theory.specs.Writing.{Written, Onward, Cut, SumTwo, SumFour, SumsTwo, SumsFour, digit_at}
use Rattle.loops_theory.proofs.CheckWriting.{gray-halves}
use Rattle.loops_theory.proofs.Cuts.{get_or-fill}
use Rattle.loops_theory.proofs.Writing.{write-none, write_step, write-end}

pub length-combine : (ms : List Modulus) (sl : List Slot) (x y : List ℕ) → length (combine sl x y) ≡ length (places ms sl)
unfolding combine places
length-combine ms [] x y = refl
length-combine ms (single e ∷ sl) x y = ap suc (length-combine ms sl (tl x) (tl y))
length-combine ms (pair z ∷ sl) x y = rw gray-halves (ap (λ (n : ℕ). suc (suc n)) (length-combine ms sl (tl (tl x)) (tl (tl y))))

-- what s has at the index i, whose other half has the index j
abbrev SumAt : List ℕ → List ℕ → List ℕ → ℕ → ℕ → Type 0
SumAt x y s i j = (j ≡ i → SumTwo x y s i) × (j ≡ i + 1 → SumFour x y s i)

-- ---- one byte more in front
digit-later : (w : List ℕ) (i : ℕ) → digit_at (tl w) i ≡ digit_at w (suc i)
digit-later w i =
    let e : suc (i + 1) ≡ suc i + 1 = omega arith in
    ap₂ digit (later-at w i) (later-at w (i + 1) ∙ ap (λ (k : ℕ). get_or w k 0) e)

sum-later : (x y s : List ℕ) (b i j : ℕ) → SumAt (tl x) (tl y) s i j → SumAt x y (b ∷ s) (suc i) (suc j)
sum-later x y s b i j h =
    let e : suc i + 1 ≡ suc (i + 1) = omega arith in (
      λ q. h.0 (omega arith) ∙ ap₂ (λ (m n : ℕ). (m + n) % 2) (later-at x i) (later-at y i),
      λ q.
          let f = h.1 (omega arith) in
          record {
            first = rw (← digit-later x i, ← digit-later y i) f.first;
            second = rw (← digit-later x i, ← digit-later y i, e) f.second;
          },
    )

-- ---- any slots
digit-first : (w : List ℕ) → digit (hd w) (hd (tl w)) ≡ digit_at w 0
digit-first w = ap₂ digit (hd-drop w 0) (hd-drop (tl w) 0 ∙ later-at w 0)

sum-at : (ms : List Modulus) (sl : List Slot) (x y : List ℕ) (i : ℕ) → i < length (places ms sl)
    → SumAt x y (combine sl x y) i (other_at sl i)
unfolding combine other_at places
sum-at ms [] x y i h = absurd (omega arith)
sum-at ms (single e ∷ sl) x y zero h =
    (λ q. ap₂ (λ (m n : ℕ). (m + n) % 2) (hd-drop x 0) (hd-drop y 0), λ q. absurd (omega arith))
sum-at ms (single e ∷ sl) x y (suc i) h = sum-later x y _ _ i _ (sum-at ms sl (tl x) (tl y) i (omega arith))
sum-at ms (pair z ∷ sl) x y zero h =
    (λ q. absurd (omega arith), λ q. rw (gray-halves, digit-first x, digit-first y) (record { first = refl; second = refl }))
sum-at ms (pair z ∷ sl) x y (suc zero) h = (λ q. absurd (omega arith), λ q. absurd (omega arith))
sum-at ms (pair z ∷ sl) x y (suc (suc i)) h =
    rw gray-halves (sum-later x y _ _ (suc i) _ (sum-later (tl x) (tl y) _ _ i _ (sum-at ms sl (tl (tl x)) (tl (tl y)) i (omega arith))))

-- ---- the loops: each turn writes one sum more
module _ (x y old r : List ℕ) (start i : ℕ) (h : start ≤ i) where
  pub two-on : (v : ℕ) → v ≡ (get_or x i 0 + get_or y i 0) % 2 → Onward (SumsTwo x y start i) start i old r
      → Onward (SumsTwo x y start (i + 1)) start (i + 1) old (set r i v)
  two-on v e f s o k l b w =
      write_step s o r i v (f s o (omega arith) l (λ j p q. b j p (omega arith)) w) (omega arith) l (e ∙ sym (b i h (omega arith)))

  pub four-on : (d u v : ℕ) → (i - start) % 2 ≡ 0 → d ≡ (digit_at x i + digit_at y i) % 4 → u ≡ hd (gray d []) → v ≡ hd (tl (gray d []))
      → Onward (SumsFour x y start i) start i old r → Onward (SumsFour x y start (i + 2)) start (i + 2) old (set (set r i u) (i + 1) v)
  four-on d u v e g p q f s o k l b w =
      let due = b i h (omega arith) e in
      let next = write_step s o r i u (f s o (omega arith) l (λ j m n. b j m (omega arith)) w) (omega arith) l (rw (p, g) (sym due.first)) in
      let two : i + 1 + 1 ≡ i + 2 = omega arith in
      subst (λ (n : ℕ). Written s o (set (set r i u) (i + 1) v) n) two
      (write_step s o (set r i u) (i + 1) v next (omega arith) l (rw (q, g) (sym due.second)))

-- the first place of a pair leads to the second
next : (from i : ℕ) → from ≤ i → (i - from) % 2 ≡ 0 → from + swapped (i - from) ≡ i + 1
next from i h e = omega arith

-- ---- where the four loops end, in a code without its first d places
-- an index that leads a pair of what is left leads one of the whole
even-from : (part d i : ℕ) → EndsWhole part d → part - d ≤ i → (i - (part - d)) % 2 ≡ 0 → (part ≤ d + i) × ((d + i - part) % 2 ≡ 0)
even-from part d i (inl h) k e = let z : d + i - part ≡ i - (part - d) = omega arith in (omega arith, ap (λ (n : ℕ). n % 2) z ∙ e)
even-from part d i (inr h) k e =
    let j = h.0 in
    let y = h.1 in
    (omega arith, omega arith)

-- what is left of the message's pairs are pairs
even-between : (part d m : ℕ) → EndsWhole part d → d ≤ m → part ≤ m → (m - part) % 2 ≡ 0 → (part - d ≤ m - d) × ((m - d - (part - d)) % 2 ≡ 0)
even-between part d m (inl h) l k e = let z : m - d - (part - d) ≡ m - part = omega arith in (omega arith, ap (λ (n : ℕ). n % 2) z ∙ e)
even-between part d m (inr h) l k e =
    let j = h.0 in
    let y = h.1 in
    (omega arith, omega arith)

-- the loops end at p, m, r and n, and pairs are whole
pub record Ends (p m r n : ℕ) : Type 0 where
  pub one : p ≤ m
  pub two : m ≤ r
  pub three : r ≤ n
  pub message : (m - p) % 2 ≡ 0
  pub check : (n - r) % 2 ≡ 0

pub ends_at : (s : Shape) (d p : ℕ) → Cut s d → p ≡ s.binary - s.a - d → Ends p (s.message - d) (s.message + s.a - d) (s.places - d)
ends_at s d p c e =
    let z = sizes s c.code c.some in
    let st = c.stays in
    let b = even-between (s.binary - s.a) d s.message c.ends (omega arith) (omega (arith, z.part, z.front)) (omega (arith, z.part, z.front)) in
    let v : s.places - d - (s.message + s.a - d) ≡ 2 * s.b = omega (arith, z.check) in
    record {
      one = rw e b.0;
      two = omega arith;
      three = omega (arith, z.check);
      message = rw e b.1;
      check = rw v (double s.b);
    }
  where
    double : (n : ℕ) → (2 * n) % 2 ≡ 0
    double n = omega arith

-- what each loop asks, of words and an output that are long enough
module _ {p m r n f g o : ℕ} (e : Ends p m r n) (x : n ≤ f) (y : n ≤ g) (z : n ≤ o) where
  pub first-asks : (0 ≤ p) × (p ≤ f) × (p ≤ g) × (p ≤ o)
  first-asks = (omega arith, omega arith, omega arith, omega arith)

  pub second-asks : (p ≤ m) × ((m - p) % 2 ≡ 0) × (m ≤ f) × (m ≤ g) × (m ≤ o)
  second-asks = (e.one, e.message, omega arith, omega arith, omega arith)

  pub third-asks : (m ≤ r) × (r ≤ f) × (r ≤ g) × (r ≤ o)
  third-asks = (e.two, omega arith, omega arith, omega arith)

  pub fourth-asks : (r ≤ n) × ((n - r) % 2 ≡ 0) × (n ≤ f) × (n ≤ g) × (n ≤ o)
  fourth-asks = (e.three, e.check, x, y, z)

-- ---- loops over binary places, pairs, binary places and pairs, each from where the last one ended, write the whole
module _ (s : Shape) (d : ℕ) (c : Cut s d) (x y : List ℕ) where
  abbrev ms : List Modulus
  ms = moduli s.a s.b

  z : Sizes s
  z = sizes s c.code c.some

  abbrev whole : List ℕ
  whole = shortened_combine ms d x y

  byte : (i : ℕ) → get_or whole i 0 ≡ get_or (combine (slots ms) (fill d x) (fill d y)) (d + i) 0
  unfolding shortened_combine
  byte i = get_or-drop d (combine (slots ms) (fill d x) (fill d y)) i 0

  at : (i : ℕ) → d + i < s.places → SumAt (fill d x) (fill d y) (combine (slots ms) (fill d x) (fill d y)) (d + i) (other_at (slots ms) (d + i))
  at i h = sum-at ms (slots ms) (fill d x) (fill d y) (d + i) (omega (arith, length-slots s c.code c.some))

  two : (i : ℕ) → d + i < s.places → other_at (slots ms) (d + i) ≡ d + i → SumTwo x y whole i
  two i h e = byte i ∙ (at i h).0 e ∙ ap₂ (λ (m n : ℕ). (m + n) % 2) (get_or-fill d x i) (get_or-fill d y i)

  digit-fill : (w : List ℕ) (i : ℕ) → digit_at (fill d w) (d + i) ≡ digit_at w i
  digit-fill w i =
      let e : d + i + 1 ≡ d + (i + 1) = omega arith in
      ap₂ digit (get_or-fill d w i) (ap (λ (k : ℕ). get_or (fill d w) k 0) e ∙ get_or-fill d w (i + 1))

  four : (i : ℕ) → d + i < s.places → other_at (slots ms) (d + i) ≡ d + i + 1 → SumFour x y whole i
  four i h e =
      let f = (at i h).1 e in
      let k : d + (i + 1) ≡ d + i + 1 = omega arith in
      record {
        first = byte i ∙ rw (sym (digit-fill x i), sym (digit-fill y i)) f.first;
        second = byte (i + 1) ∙ ap (λ (n : ℕ). get_or (combine (slots ms) (fill d x) (fill d y)) n 0) k
            ∙ rw (sym (digit-fill x i), sym (digit-fill y i)) f.second;
      }

  part-one : SumsTwo x y 0 (s.binary - s.a - d) whole
  part-one i h k = two i (omega (arith, z.part, z.front, z.check)) (other-one _ _ _ _ (located s c.code c.some) (d + i) (omega arith))

  part-two : SumsFour x y (s.binary - s.a - d) (s.message - d) whole
  part-two i h k e =
      let q = even-from (s.binary - s.a) d i c.ends h e in
      four i (omega (arith, z.check))
      (other-two _ _ _ _ (located s c.code c.some) (d + i) q.0 (omega arith) ∙ next (s.binary - s.a) (d + i) q.0 q.1)

  part-three : SumsTwo x y (s.message - d) (s.message + s.a - d) whole
  part-three i h k =
      let st = c.stays in
      two i (omega (arith, z.check)) (other-three _ _ _ _ (located s c.code c.some) (d + i) (omega arith) (omega arith))

  part-four : SumsFour x y (s.message + s.a - d) (s.places - d) whole
  part-four i h k e =
      let st = c.stays in
      let l : s.message + s.a ≤ d + i = omega arith in
      let v : d + i - (s.message + s.a) ≡ i - (s.message + s.a - d) = omega arith in
      four i (omega arith)
      (other-four _ _ _ _ (located s c.code c.some) (d + i) l (omega (arith, z.check))
      ∙ next (s.message + s.a) (d + i) l (ap (λ (n : ℕ). n % 2) v ∙ e))

  length_whole : length whole ≡ s.places - d
  unfolding shortened_combine
  length_whole =
      length-drop d (combine (slots ms) (fill d x) (fill d y))
      ∙ ap (λ (n : ℕ). n - d) (length-combine ms (slots ms) (fill d x) (fill d y) ∙ length-slots s c.code c.some)

  pub four-parts : (old one two three new : List ℕ) → s.places - d ≤ length old
      → Onward (SumsTwo x y 0 (s.binary - s.a - d)) 0 (s.binary - s.a - d) old one
      → Onward (SumsFour x y (s.binary - s.a - d) (s.message - d)) (s.binary - s.a - d) (s.message - d) one two
      → Onward (SumsTwo x y (s.message - d) (s.message + s.a - d)) (s.message - d) (s.message + s.a - d) two three
      → Onward (SumsFour x y (s.message + s.a - d) (s.places - d)) (s.message + s.a - d) (s.places - d) three new
      → new ≡ shortened_combine ms d x y ++ drop (s.places - d) old
  four-parts old one two three new room f g h k =
      let n = length_whole in
      let st = c.stays in
      let l : length whole ≤ length old = omega arith in
      let w = f whole old (omega (arith, z.part, z.front, z.check)) l part-one (write-none _ _) in
      let v = g whole old (omega (arith, z.check)) l part-two w in
      let u = h whole old (omega (arith, z.check)) l part-three v in
      write-end _ _ _ _ (k whole old (omega arith) l part-four u) (sym n)
