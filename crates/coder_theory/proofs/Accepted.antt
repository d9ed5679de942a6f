-- None of the theorems on refusals is empty: with a usable record, bits of the right length, room enough and, for correction, words not full,
-- each call on words is accepted and does its work, and two places have their third; correction and third place where the place is not left
-- out. Assumes nothing.
use mathlib.Core.Path.{◌≡◌, sym, ap, ap₂, ◌∙◌}
use mathlib.Core.Logic.{◌≢◌}
use mathlib.Core.List.{List, [], ◌∷◌, ◌++◌}
use mathlib.Core.Bool.{true, false, not, ◌||◌}
use Prim.Native.Nat.{ℕ, ◌≤◌}
use native.Mathlib.Omega.{arith}
use borrow.Author.Tests.{eq-eqb, ne_eqb, le-ltb}
use lib.ListN.{length, take, drop}
use lib.Seq.{take-append_seam, drop-append_seam}
use Rattle.group_theory.proofs.Signs.{not-true}
use Rattle.words_theory.specs.Words.{Word}
use Rattle.shortened_theory.specs.Code.{LeftOut, is_left_out}
use Rattle.coder_theory.specs.State.{Usable, places_in, message_in, syndrome_in, number_in, is_codeword_in, encoded_in, FallsOut, ThirdFallsOut}
use Rattle.coder_theory.specs.State.{corrected_in, corrected_place_in, corrected_old_place_in, third_old_place_in, combine_in, inverse_in, third_in, full_count, counted}
use Rattle.coder_theory.specs.Reasons.{left_out, bad_place, bad_byte, wrong_length, outside, full}
use Rattle.coder_theory.specs.Calls.{word_reasons, syndrome_answer, codeword_answer, shown, write_reasons, encode_reasons, encode_answer, encode_output}
use Rattle.coder_theory.specs.Calls.{correct_reasons, correct_answer, correct_output, combine_reasons, combine_answer, combine_output}
use Rattle.coder_theory.specs.Calls.{invert_reasons, invert_answer, invert_output, places_reasons, third_reasons, third_answer}
use Rattle.coder_theory.specs.declared.Record.{Record}
use Rattle.coder_theory.proofs.Refusals.{left-applies}
use Rattle.coder_theory.proofs.Firsts.{NoneApplies, first-yes, first-no, first_past, none_first, none-append}
use Rattle.coder_theory.proofs.States.{usable-true}
use Rattle.words_theory.proofs.Bad.{bits_none}
use Rattle.coder_theory.proofs.Told.{read-shows}

-- ---- the reasons that a word of n bits rules out
pub no-other-length : (n : ℕ) (w : List ℕ) → Word n w → (wrong_length n w).applies ≡ false
no-other-length n w h = ap not (eq-eqb (length w) n h.places)

pub no-bad : (n : ℕ) (w : List ℕ) → Word n w → (bad_byte w).applies ≡ false
no-bad n w h = ap not (eq-eqb (bad_place w) 0 (bits_none 1 w h.bits))

pub word_none : (rec : Record) (w : List ℕ) → Usable rec → Word (places_in rec) w → NoneApplies (word_reasons rec w)
word_none rec w f h =
    let k = usable-true rec f in
    (k.0, (k.1, (k.2, (no-other-length (places_in rec) w h, (no-bad (places_in rec) w h, tt)))))

pub write-none : (rec : Record) (n : ℕ) (w : List ℕ) (room : ℕ) → Usable rec → Word n w → places_in rec ≤ room
    → NoneApplies (write_reasons rec n w room)
write-none rec n w room f h l =
    let k = usable-true rec f in
    (k.0, (k.1, (k.2, (no-other-length n w h, (le-ltb room (places_in rec) l, (no-bad n w h, tt))))))

-- a place that is not left out
pub not_left : (s q : ℕ) → (LeftOut s q → ⊥) → is_left_out s q ≡ false
not_left s q h = not-true (is_left_out s q) (λ y. h ((left-applies s q).0 y))

pub correct-none : (rec : Record) (w out : List ℕ) → Usable rec → rec.words ≢ full_count → (FallsOut rec w → ⊥) → Word (places_in rec) w → places_in rec ≤ length out
    → NoneApplies (correct_reasons rec w (length out))
correct-none rec w out f n q h l =
    none-append (write_reasons rec (places_in rec) w (length out)) (left_out rec.s (corrected_old_place_in rec w) ∷ full rec ∷ []) (write-none rec (places_in rec) w (length out) f h l)
    (not_left rec.s (corrected_old_place_in rec w) q, (ne_eqb rec.words full_count n, tt))

pub combine-none : (rec : Record) (x y out : List ℕ) → Usable rec → Word (places_in rec) x → Word (places_in rec) y → places_in rec ≤ length out
    → NoneApplies (combine_reasons rec x y (length out))
combine-none rec x y out f h i l =
    let n = places_in rec in
    let k = usable-true rec f in
    (k.0, (k.1, (k.2, (no-other-length n x h, (no-other-length n y i, (le-ltb (length out) n l, (no-bad n x h, (no-bad n y i, tt))))))))

-- ---- the calls
pub syndrome-accepts : (rec : Record) (w : List ℕ) → Usable rec → Word (places_in rec) w
    → syndrome_answer rec w ≡ record { refusal = 0; place = 0; element = number_in rec (syndrome_in rec w) }
unfolding syndrome_answer
syndrome-accepts rec w f h = rw (none_first (word_reasons rec w) (word_none rec w f h))

pub codeword-accepts : (rec : Record) (w : List ℕ) → Usable rec → Word (places_in rec) w
    → codeword_answer rec w ≡ record { refusal = 0; place = 0; yes = is_codeword_in rec w }
unfolding codeword_answer
codeword-accepts rec w f h = rw (none_first (word_reasons rec w) (word_none rec w f h))

pub reading-accepts : (rec : Record) (w : List ℕ) → Usable rec → Word (places_in rec) w → is_codeword_in rec w ≡ true
    → (shown rec w ≡ take (message_in rec) w) × (1 ≤ length (shown rec w))
reading-accepts rec w f h y = read-shows rec w (word_none rec w f h) y

pub encode-accepts : (rec : Record) (m out : List ℕ) → Usable rec → Word (message_in rec) m → places_in rec ≤ length out
    → (encode_answer rec m out ≡ record { refusal = 0; place = 0 }) × (encode_output rec m out ≡ encoded_in rec m ++ drop (places_in rec) out)
unfolding encode_answer encode_output
encode-accepts rec m out f h l =
    let e = none_first (encode_reasons rec m (length out)) (write-none rec (message_in rec) m (length out) f h l) in (rw e, rw e)

pub correct-accepts : (rec : Record) (w out : List ℕ) → Usable rec → rec.words ≢ full_count → (FallsOut rec w → ⊥) → Word (places_in rec) w → places_in rec ≤ length out
    → (correct_answer rec w out ≡ record { refusal = 0; place = corrected_place_in rec w; «record» = counted rec (corrected_place_in rec w) })
    × (correct_output rec w out ≡ corrected_in rec w ++ drop (places_in rec) out)
unfolding correct_answer correct_output
correct-accepts rec w out f n q h l =
    let e = none_first (correct_reasons rec w (length out)) (correct-none rec w out f n q h l) in (rw e, rw e)

-- a place that is left out is refused with 11, whatever the counts
pub left-refused : (rec : Record) (w out : List ℕ) → Usable rec → FallsOut rec w → Word (places_in rec) w → places_in rec ≤ length out
    → correct_answer rec w out ≡ record { refusal = 11; place = 0; «record» = rec }
unfolding correct_answer
left-refused rec w out f q h l =
    let rs = write_reasons rec (places_in rec) w (length out) in
    let x = left_out rec.s (corrected_old_place_in rec w) in
    rw (first_past rs (x ∷ full rec ∷ []) (write-none rec (places_in rec) w (length out) f h l) ∙ first-yes x (full rec ∷ []) ((left-applies rec.s (corrected_old_place_in rec w)).1 q))

pub full-refused : (rec : Record) (w out : List ℕ) → Usable rec → rec.words ≡ full_count → (FallsOut rec w → ⊥) → Word (places_in rec) w → places_in rec ≤ length out
    → correct_answer rec w out ≡ record { refusal = 23; place = 0; «record» = rec }
unfolding correct_answer
full-refused rec w out f e q h l =
    let rs = write_reasons rec (places_in rec) w (length out) in
    let x = left_out rec.s (corrected_old_place_in rec w) in
    rw (first_past rs (x ∷ full rec ∷ []) (write-none rec (places_in rec) w (length out) f h l) ∙ first-no x (full rec ∷ []) (not_left rec.s (corrected_old_place_in rec w) q) ∙ first-yes (full rec) [] (eq-eqb rec.words full_count e))

pub combine-accepts : (rec : Record) (x y out : List ℕ) → Usable rec → Word (places_in rec) x → Word (places_in rec) y → places_in rec ≤ length out
    → (combine_answer rec x y out ≡ record { refusal = 0; place = 0 }) × (combine_output rec x y out ≡ combine_in rec x y ++ drop (places_in rec) out)
unfolding combine_answer combine_output
combine-accepts rec x y out f h i l =
    let e = none_first (combine_reasons rec x y (length out)) (combine-none rec x y out f h i l) in (rw e, rw e)

pub invert-accepts : (rec : Record) (w out : List ℕ) → Usable rec → Word (places_in rec) w → places_in rec ≤ length out
    → (invert_answer rec w out ≡ record { refusal = 0; place = 0 }) × (invert_output rec w out ≡ inverse_in rec w ++ drop (places_in rec) out)
unfolding invert_answer invert_output
invert-accepts rec w out f h l =
    let e = none_first (invert_reasons rec w (length out)) (write-none rec (places_in rec) w (length out) f h l) in (rw e, rw e)

-- ---- the third place
pub inside : (rec : Record) (p : ℕ) → 1 ≤ p → p ≤ places_in rec → (outside rec p).applies ≡ false
inside rec p a b = ap₂ ◌||◌ (ne_eqb p 0 (λ z. omega arith)) (le-ltb (places_in rec) p b)

pub third-accepts : (rec : Record) (i j : ℕ) → Usable rec → 1 ≤ i → i ≤ places_in rec → 1 ≤ j → j ≤ places_in rec → i ≢ j → (ThirdFallsOut rec i j → ⊥)
    → third_answer rec i j ≡ record { refusal = 0; place = third_in rec i j }
unfolding third_answer
third-accepts rec i j f a b c d h q =
    let k = usable-true rec f in
    rw (none_first (third_reasons rec i j) (k.0, (k.1, (k.2, (inside rec i a b, (inside rec j c d, (ne_eqb i j h, (not_left rec.s (third_old_place_in rec i j) q, tt))))))))

pub third-left : (rec : Record) (i j : ℕ) → Usable rec → 1 ≤ i → i ≤ places_in rec → 1 ≤ j → j ≤ places_in rec → i ≢ j → ThirdFallsOut rec i j
    → third_answer rec i j ≡ record { refusal = 11; place = 0 }
unfolding third_answer
third-left rec i j f a b c d h q =
    let k = usable-true rec f in
    let x = left_out rec.s (third_old_place_in rec i j) in
    rw (first_past (places_reasons rec i j) (x ∷ []) (k.0, (k.1, (k.2, (inside rec i a b, (inside rec j c d, (ne_eqb i j h, tt)))))) ∙ first-yes x [] ((left-applies rec.s (third_old_place_in rec i j)).1 q))

-- ---- the front and the rest of an output that n bytes are written to
pub front : (n : ℕ) (new old : List ℕ) → length new ≡ n → (take n (new ++ drop n old) ≡ new) × (drop n (new ++ drop n old) ≡ drop n old)
front n new old e = (
  ap (λ (k : ℕ). take k (new ++ drop n old)) (sym e) ∙ take-append_seam new (drop n old),
  ap (λ (k : ℕ). drop k (new ++ drop n old)) (sym e) ∙ drop-append_seam new (drop n old),
)
