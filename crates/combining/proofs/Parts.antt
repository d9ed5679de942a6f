-- What the loops over parts of the words leave in the whole output, and where the parts end. Assumes nothing.
use mathlib.Core.Path.{◌≡◌, refl, sym, ap, ap₂, ◌∙◌}
use mathlib.Core.List.{List, [], ◌++◌}
use Prim.Native.Nat.{ℕ, ◌+◌, ◌-◌, ◌%◌, ◌<◌, ◌≤◌}
use native.Mathlib.Decide.{dec_lt, ℕ_discrete}
use native.Mathlib.Omega.{arith}
use borrow.Rule.Slice.PartMut.{put_mid}
use lib.ListN.{length, take, drop, get_or, length-take, length-drop, length-append, get_or-append}
use Rattle.std.proofs.lemmas.List.{take-append-drop, get_or-drop, get_or-take, get_or-append_right, take_at}
use Rattle.std.proofs.lemmas.Grind.{same_number_lists}
use Rattle.std.proofs.lemmas.Slice.{take-put_mid, drop-put_mid, drop-append-drop}
use Rattle.group_theory.specs.Group.{hd, tl, moduli}
use Rattle.layout_theory.specs.declared.Shape.{Shape}
use Rattle.words_theory.specs.Digits.{gray, digit}
use Rattle.shortened_theory.specs.Code.{shortened_combine}
use Rattle.loops_theory.specs.Writing.{Written, Onward, Cut, SumsTwo, SumsFour, digit_at}
use Rattle.loops_theory.proofs.PlaceSums.{ends_at, four-parts}
use Rattle.combining.specs.Ends.{EndsAt}

-- ---- where the parts end
pub cut-of : (h g : Shape) (s : ℕ) → h ≡ g → Cut g s → Cut h s
cut-of h g s e c = rw e c

pub ends-are : (h g : Shape) (s p : ℕ) → h ≡ g → Cut g s → p ≡ h.binary - h.a - s
    → EndsAt g s p (h.message - s) (h.message - s + h.a) (h.places - s)
ends-are h g s p e c q = rw e (go (rw e at q))
  where
    go : p ≡ g.binary - g.a - s → EndsAt g s p (g.message - s) (g.message - s + g.a) (g.places - s)
    go q =
        let k = ends_at g s p c q in
        let st = c.stays in
        let m : g.message - s + g.a ≡ g.message + g.a - s = omega arith in
        record {
          part = q;
          message = refl;
          units = m;
          places = refl;
          one_two = k.one;
          two_three = omega arith;
          three_four = rw m k.three;
          pairs = k.message;
          check_pairs = rw m k.check;
        }

-- ---- the bytes of a part
zero-off : (i : ℕ) → i - 0 ≡ i
zero-off i = omega arith

start-off : (start i : ℕ) → start + i - start ≡ i
start-off start i = omega arith

abbrev Part : List ℕ → List ℕ → ℕ → ℕ → Type 0
Part v x start n = (i : ℕ) → i < n → get_or v i 0 ≡ get_or x (start + i) 0

part-mid : (x : List ℕ) (start n : ℕ) → Part (take n (drop start x)) x start n
part-mid x start n i h = get_or-take n (drop start x) i 0 h ∙ get_or-drop start x i 0

part-front : (x : List ℕ) (n : ℕ) → Part (take n x) x 0 (n - 0)
part-front x n i h = let e : i ≡ 0 + i = omega arith in get_or-take n x i 0 (omega arith) ∙ ap (λ (k : ℕ). get_or x k 0) e

-- a part from `start` up to `end` is written over, and now holds r
made_mid : (start n : ℕ) (old r : List ℕ) → start + n ≤ length old → length r ≡ n
    → put_mid start n old r ≡ (take start old ++ r) ++ drop (start + n) old
made_mid start n old r h l =
    sym (take-append-drop (start + n) (put_mid start n old r))
    ∙ ap₂ ◌++◌ (take-put_mid start n old r (start + n) (omega arith) (omega arith)) (drop-put_mid start n old r (start + n) (omega arith) (omega arith) l)

module _ (start end : ℕ) (old r : List ℕ) (le : start ≤ end) (len : length r ≡ end - start) where
  module _ (s o : List ℕ) (l : end ≤ length s) (b : length s ≤ length o) (w : Written s o old start) where
    front : length (take start s) ≡ start
    front = length-take start s ∙ omega arith

    before : take start old ≡ take start s
    before = ap (take start) w.bytes ∙ take_at (take start s) (drop start o) start front

    after : drop end old ≡ drop end o
    after = ap (drop end) w.bytes ∙ drop-append-drop start o (take start s) end le front

    written-part : Part r s start (end - start) → take start s ++ r ≡ take end s
    written-part same = same_number_lists (take start s ++ r) (take end s) long at
      where
        long : length (take start s ++ r) ≡ length (take end s)
        long = length-append (take start s) r ∙ ap₂ ◌+◌ front len ∙ sym (length-take end s ∙ omega arith)

        at : (k : ℕ) → k < length (take start s ++ r) → get_or (take start s ++ r) k 0 ≡ get_or (take end s) k 0
        at k h = go (dec_lt k start)
          where
            less : k < end
            less = let a = length-append (take start s) r in omega (arith, front, len, le)

            go : Dec (k < start) → get_or (take start s ++ r) k 0 ≡ get_or (take end s) k 0
            go (yes q) =
                get_or-append (take start s) r 0 k (omega (arith, front)) ∙ get_or-take start s k 0 q
                ∙ sym (get_or-take end s k 0 less)
            go (no q) =
                let e : start + (k - start) ≡ k = omega arith in
                get_or-append_right (take start s) r start k 0 front (omega arith)
                ∙ same (k - start) (omega (arith, less))
                ∙ ap (λ (n : ℕ). get_or s n 0) e
                ∙ sym (get_or-take end s k 0 less)

    goes-on : Part r s start (end - start) → Written s o ((take start old ++ r) ++ drop end old) end
    goes-on same =
        let e : (take start old ++ r) ++ drop end old ≡ take end s ++ drop end o =
        ap₂ ◌++◌ (ap (λ (t : List ℕ). t ++ r) before ∙ written-part same) after in
        record {
          within = l;
          room = ap length e ∙ length-append (take end s) (drop end o) ∙ ap₂ ◌+◌ (length-take end s) (length-drop end o) ∙ omega arith;
          bytes = e;
        }

  -- it holds the sums of two parts u and v of the words x and y
  module _ (x y u v : List ℕ) (p : Part u x start (end - start)) (q : Part v y start (end - start)) where
    two-parts : SumsTwo u v 0 (length r) r → Onward (SumsTwo x y start end) start end old ((take start old ++ r) ++ drop end old)
    two-parts h s o l b due w =
        goes-on s o l b w
        (λ i k.
        h i (omega arith) (omega (arith, len))
        ∙ ap₂ (λ (m n : ℕ). (m + n) % 2) (p i k) (q i k)
        ∙ sym (due (start + i) (omega arith) (omega arith)))

    -- the digit of a pair of a part
    module _ (i : ℕ) (k : i + 1 < end - start) where
      digit-part : (w z : List ℕ) → Part w z start (end - start) → digit_at w i ≡ digit_at z (start + i)
      digit-part w z g =
          let e : start + (i + 1) ≡ start + i + 1 = omega arith in
          ap₂ digit (g i (omega arith)) (g (i + 1) k ∙ ap (λ (n : ℕ). get_or z n 0) e)

      same-digit : (digit_at u i + digit_at v i) % 4 ≡ (digit_at x (start + i) + digit_at y (start + i)) % 4
      same-digit = ap₂ (λ (m n : ℕ). (m + n) % 4) (digit-part u x p) (digit-part v y q)

    four-parts_of : (end - start) % 2 ≡ 0 → SumsFour u v 0 (length r) r
        → Onward (SumsFour x y start end) start end old ((take start old ++ r) ++ drop end old)
    four-parts_of even h s o l b due w = goes-on s o l b w same
      where
        leads : (i : ℕ) → i < end - start → i % 2 ≡ 0 → (get_or r i 0 ≡ get_or s (start + i) 0) × (get_or r (i + 1) 0 ≡ get_or s (start + (i + 1)) 0)
        leads i k z =
            let t : i + 1 < end - start = omega arith in
            let d = same-digit i t in
            let f = h i (omega arith) (omega (arith, len)) (ap (λ (n : ℕ). n % 2) (zero-off i) ∙ z) in
            let g = due (start + i) (omega arith) (omega arith) (ap (λ (n : ℕ). n % 2) (start-off start i) ∙ z) in
            let e : start + (i + 1) ≡ start + i + 1 = omega arith in (
              f.first ∙ ap (λ (n : ℕ). hd (gray n [])) d ∙ sym g.first,
              f.second ∙ ap (λ (n : ℕ). hd (tl (gray n []))) d ∙ sym g.second ∙ ap (λ (n : ℕ). get_or s n 0) (sym e),
            )

        same : Part r s start (end - start)
        same i k = go (ℕ_discrete (i % 2) 0)
          where
            go : Dec (i % 2 ≡ 0) → get_or r i 0 ≡ get_or s (start + i) 0
            go (yes z) = (leads i k z).0
            go (no z) =
                let j : i - 1 + 1 ≡ i = omega arith in
                rw j at (leads (i - 1) (omega arith) (omega arith)).1

-- in the words of the code: u is the part of the output as it was, and the words' parts are those of the same range
module _ (x y : List ℕ) (start end : ℕ) (old r : List ℕ) (le : start ≤ end) (room : end ≤ length old)
    (kept : length r ≡ length (take (end - start) (drop start old))) where
  long : length (take (end - start) (drop start old)) ≡ end - start
  long = length-take (end - start) (drop start old) ∙ omega (arith, length-drop start old)

  len : length r ≡ end - start
  len = kept ∙ long

  made : put_mid start (end - start) old r ≡ (take start old ++ r) ++ drop end old
  made =
      let g : start + (end - start) ≡ end = omega arith in
      made_mid start (end - start) old r (omega arith) len ∙ ap (λ (k : ℕ). (take start old ++ r) ++ drop k old) g

  pub two-mid : SumsTwo (take (end - start) (drop start x)) (take (end - start) (drop start y)) 0 (length (take (end - start) (drop start old))) r
      → Onward (SumsTwo x y start end) start end old (put_mid start (end - start) old r)
  two-mid h = rw made (two-parts start end old r le len x y _ _ (part-mid x start (end - start)) (part-mid y start (end - start)) (rw (sym kept) at h))

  pub four-mid : (end - start) % 2 ≡ 0
      → SumsFour (take (end - start) (drop start x)) (take (end - start) (drop start y)) 0 (length (take (end - start) (drop start old))) r
      → Onward (SumsFour x y start end) start end old (put_mid start (end - start) old r)
  four-mid z h = rw made (four-parts_of start end old r le len x y _ _ (part-mid x start (end - start)) (part-mid y start (end - start)) z (rw (sym kept) at h))

pub two-front : (x y : List ℕ) (end : ℕ) (old r : List ℕ) → end ≤ length old → length r ≡ length (take end old)
    → SumsTwo (take end x) (take end y) 0 (length (take end old)) r → Onward (SumsTwo x y 0 end) 0 end old (r ++ drop end old)
two-front x y end old r room e h =
    let len : length r ≡ end - 0 = e ∙ length-take end old ∙ omega arith in
    two-parts 0 end old r (omega arith) len x y _ _ (part-front x end) (part-front y end) (rw (sym e) at h)

-- the four loops, where the parts end
pub four-ends : (h : Shape) (s : ℕ) → Cut h s → (x y : List ℕ) (p m r n : ℕ) → EndsAt h s p m r n
    → (old one two three new : List ℕ) → h.places - s ≤ length old
    → Onward (SumsTwo x y 0 p) 0 p old one
    → Onward (SumsFour x y p m) p m one two
    → Onward (SumsTwo x y m r) m r two three
    → Onward (SumsFour x y r n) r n three new
    → new ≡ shortened_combine (moduli h.a h.b) s x y ++ drop (h.places - s) old
four-ends h s c x y p m r n e old one two three new room f g k l =
    four-parts h s c x y old one two three new room (rw e.part at f) (rw (e.part, e.message) at g) (rw (e.message, e.units) at k) (rw (e.units, e.places) at l)
