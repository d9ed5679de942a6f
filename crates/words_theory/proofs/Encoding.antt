-- Encoding, for every list of moduli: the check slots are the units, so that each element is the syndrome of exactly one list of check
-- digits; what is encoded is a codeword, and every codeword is the encoding of its message. Assumes nothing.
use mathlib.Core.Path.{◌≡◌, refl, sym, ap, ap₂, ◌∙◌}
use mathlib.Core.List.{List, [], ◌∷◌, ◌++◌, map}
use Prim.Native.Nat.{ℕ, ◌<◌}
use native.Mathlib.Omega.{arith}
use lib.ListN.{length, take, drop, take-append-drop}
use lib.Seq.{take-append_seam}
use Rattle.group_theory.specs.Group.{Modulus, one, two, four, radix, Valid, zeros, sum, negative, times}
use Rattle.group_theory.proofs.Laws.{valid-negative, zero-sum, sum-assoc, sum-negative, negative-unique}
use Rattle.group_theory.proofs.Unit.{unit-sum}
use Rattle.layout_theory.specs.Layout.{Slot, single, pair, zero_first, units, message, slots, places}
use Rattle.words_theory.specs.Digits.{digit}
use Rattle.words_theory.specs.Words.{Word}
use Rattle.words_theory.specs.Syndrome.{syndrome_over, syndrome, Codeword}
use Rattle.words_theory.specs.Coding.{check_digits, encode}
use Rattle.words_theory.specs.Claims.{message_length_of, EncodingOf}
use Rattle.words_theory.proofs.Reading.{bit_le, le-bit, Reads, none, bit, bits, reads, reads-length, reads-bits, word-reads, reads_word, valid-over}
use Rattle.words_theory.proofs.Syndromes.{syndrome-under}
use Rattle.words_theory.proofs.Combining.{digit_lt, gray-digit, gray-reads, syndrome-gray}

-- ---- slots in two parts
pub reads-append : {sl sk : List Slot} {m c : List ℕ} → Reads sl m → Reads sk c → Reads (sl ++ sk) (m ++ c)
reads-append none s = s
reads-append (bit b r) s = bit b (reads-append r s)
reads-append (bits b c r) s = bits b c (reads-append r s)

pub reads-split : (ms : List Modulus) (sl sk : List Slot) {w : List ℕ} → Reads (sl ++ sk) w
    → Reads sl (take (length (places ms sl)) w) × Reads sk (drop (length (places ms sl)) w)
unfolding places
reads-split ms [] sk r = (none, r)
reads-split ms (single e ∷ sl) sk (bit b r) = let s = reads-split ms sl sk r in (bit b s.0, s.1)
reads-split ms (pair z ∷ sl) sk (bits b c r) = let s = reads-split ms sl sk r in (bits b c s.0, s.1)

pub syndrome-append : (ms : List Modulus) {sl : List Slot} (sk : List Slot) {m : List ℕ} (c : List ℕ) → Reads sl m
    → syndrome_over ms (sl ++ sk) (m ++ c) ≡ sum ms (syndrome_over ms sl m) (syndrome_over ms sk c)
unfolding syndrome_over
syndrome-append ms sk c none = sym (zero-sum ms (syndrome_over ms sk c) (valid-over ms sk c))
syndrome-append ms sk c (bit {e = e} {b = b} {sl = sl} {w = m} x r) =
    ap (sum ms (times ms b e)) (syndrome-append ms sk c r) ∙ sym (sum-assoc ms (times ms b e) (syndrome_over ms sl m) (syndrome_over ms sk c))
syndrome-append ms sk c (bits {z = z} {b = b} {c = b'} {sl = sl} {w = m} x y r) =
    ap (sum ms (times ms (digit b b') z)) (syndrome-append ms sk c r)
    ∙ sym (sum-assoc ms (times ms (digit b b') z) (syndrome_over ms sl m) (syndrome_over ms sk c))

-- ---- the units after the first
reads-under : {sl : List Slot} {w : List ℕ} → Reads sl w → Reads (map zero_first sl) w
reads-under none = none
reads-under (bit b r) = bit b (reads-under r)
reads-under (bits b c r) = bits b c (reads-under r)

reads-zero-first : (sl : List Slot) {w : List ℕ} → Reads (map zero_first sl) w → Reads sl w
reads-zero-first [] none = none
reads-zero-first (single e ∷ sl) (bit b r) = bit b (reads-zero-first sl r)
reads-zero-first (pair z ∷ sl) (bits b c r) = bits b c (reads-zero-first sl r)

-- d times the first unit, and a word over the others
syndrome-first : (m : Modulus) (ms : List Modulus) (d : ℕ) (w : List ℕ) → d < radix m
    → sum (m ∷ ms) (times (m ∷ ms) d (1 ∷ zeros ms)) (syndrome_over (m ∷ ms) (map zero_first (units ms)) w) ≡ d ∷ syndrome_over ms (units ms) w
syndrome-first m ms d w h =
    ap (sum (m ∷ ms) (times (m ∷ ms) d (1 ∷ zeros ms))) (syndrome-under m ms (units ms) w)
    ∙ unit-sum m ms d (syndrome_over ms (units ms) w) h (valid-over ms (units ms) w)

-- ---- check digits
pub check-reads : (ms : List Modulus) (e : List ℕ) → Valid ms e → Reads (units ms) (check_digits ms e)
unfolding units check_digits
check-reads [] e h = none
check-reads (m ∷ ms) [] h = absurd h
check-reads (one ∷ ms) (x ∷ e) h = reads-under (check-reads ms e h.1)
check-reads (two ∷ ms) (x ∷ e) h = bit (le-bit x (omega (arith, h.0))) (reads-under (check-reads ms e h.1))
check-reads (four ∷ ms) (x ∷ e) h = gray-reads x (reads-under (check-reads ms e h.1))

-- the syndrome of the digits of an element is that element
pub syndrome-units : (ms : List Modulus) (e : List ℕ) → Valid ms e → syndrome_over ms (units ms) (check_digits ms e) ≡ e
unfolding syndrome_over units check_digits zeros
syndrome-units [] [] h = refl
syndrome-units [] (x ∷ e) h = absurd h
syndrome-units (m ∷ ms) [] h = absurd h
syndrome-units (one ∷ ms) (x ∷ e) h =
    syndrome-under one ms (units ms) (check_digits ms e) ∙ ap₂ {C = List ℕ} ◌∷◌ (omega (arith, h.0)) (syndrome-units ms e h.1)
syndrome-units (two ∷ ms) (x ∷ e) h =
    syndrome-first two ms x (check_digits ms e) h.0 ∙ ap {B = List ℕ} (λ (r : List ℕ). x ∷ r) (syndrome-units ms e h.1)
syndrome-units (four ∷ ms) (x ∷ e) h =
    syndrome-gray (four ∷ ms) (1 ∷ zeros ms) (map zero_first (units ms)) (check_digits ms e) x h.0
    ∙ syndrome-first four ms x (check_digits ms e) h.0
    ∙ ap {B = List ℕ} (λ (r : List ℕ). x ∷ r) (syndrome-units ms e h.1)

-- and no other digits have it
pub check-only : (ms : List Modulus) (c : List ℕ) → Reads (units ms) c → c ≡ check_digits ms (syndrome_over ms (units ms) c)
unfolding syndrome_over units check_digits
check-only [] c none = refl
check-only (one ∷ ms) c r =
    check-only ms c (reads-zero-first (units ms) r) ∙ ap (check_digits (one ∷ ms)) (sym (syndrome-under one ms (units ms) c))
check-only (two ∷ ms) c (bit {b = b} {w = w} x r) =
    let l = bit_le x in
    ap {B = List ℕ} (λ (v : List ℕ). b ∷ v) (check-only ms w (reads-zero-first (units ms) r))
    ∙ ap (check_digits (two ∷ ms)) (sym (syndrome-first two ms b w (omega arith)))
check-only (four ∷ ms) c (bits {b = b} {c = b'} {w = w} x y r) =
    ap {B = List ℕ} (λ (v : List ℕ). b ∷ b' ∷ v) (check-only ms w (reads-zero-first (units ms) r))
    ∙ sym (gray-digit (check_digits ms (syndrome_over ms (units ms) w)) x y)
    ∙ ap (check_digits (four ∷ ms)) (sym (syndrome-first four ms (digit b b') w (digit_lt b b')))

-- ---- the theorems
pub encode-zero : (ms : List Modulus) (m : List ℕ) → Reads (message ms) m → syndrome ms (encode ms m) ≡ zeros ms
unfolding slots syndrome encode
encode-zero ms m r =
    let s = syndrome_over ms (message ms) m in
    syndrome-append ms (units ms) (check_digits ms (negative ms s)) r
    ∙ ap (sum ms s) (syndrome-units ms (negative ms s) (valid-negative ms s))
    ∙ sum-negative ms s

pub encode-codeword : (ms : List Modulus) (m : List ℕ) → Reads (message ms) m
    → Reads (slots ms) (encode ms m) × (syndrome ms (encode ms m) ≡ zeros ms)
unfolding slots encode
encode-codeword ms m r =
    let s = syndrome_over ms (message ms) m in
    (reads-append r (check-reads ms (negative ms s) (valid-negative ms s)), encode-zero ms m r)

-- a codeword is the encoding of its message
pub encode-only : (ms : List Modulus) (w : List ℕ) → Reads (slots ms) w → syndrome ms w ≡ zeros ms
    → Reads (message ms) (take (length (places ms (message ms))) w) × (w ≡ encode ms (take (length (places ms (message ms))) w))
unfolding slots syndrome encode
encode-only ms w r e =
    let n = length (places ms (message ms)) in
    let m = take n w in
    let c = drop n w in
    let s = reads-split ms (message ms) (units ms) r in
    let z : sum ms (syndrome_over ms (message ms) m) (syndrome_over ms (units ms) c) ≡ zeros ms =
    sym (syndrome-append ms (units ms) c s.0) ∙ ap (syndrome_over ms (message ms ++ units ms)) (take-append-drop n w) ∙ e in (
      s.0,
      sym (take-append-drop n w)
          ∙ ap (λ (v : List ℕ). m ++ v)
          (check-only ms c s.1
          ∙ ap (check_digits ms) (negative-unique ms (syndrome_over ms (message ms) m) (syndrome_over ms (units ms) c) (valid-over ms (units ms) c) z)),
    )

pub encodes : (ms : List Modulus) (m : List ℕ) → Word (message_length_of ms) m → EncodingOf ms m
unfolding encode
encodes ms m h =
    let c = encode-codeword ms m (reads ms (message ms) m h.places h.bits) in
    record {
      codeword = record { is_word = reads_word ms c.0; is_zero = c.1 };
      begins = ap (λ (n : ℕ). take n (encode ms m)) (sym h.places) ∙ take-append_seam m _;
      only = λ d k e. (encode-only ms d (word-reads ms k.is_word) k.is_zero).1 ∙ ap (encode ms) e;
    }

-- every codeword is the encoding of its first places
pub encoded : (ms : List Modulus) (c : List ℕ) → Codeword ms c
    → Word (message_length_of ms) (take (message_length_of ms) c) × (c ≡ encode ms (take (message_length_of ms) c))
encoded ms c k =
    let e = encode-only ms c (word-reads ms k.is_word) k.is_zero in
    (record { places = reads-length ms e.0; bits = reads-bits e.0 }, e.1)
