-- "place 0 except for 4": what place each call tells, and that reading shows an empty part exactly where it must. Assumes nothing.
use mathlib.Core.Path.{◌≡◌, refl, sym, ap, subst, ◌∙◌}
use mathlib.Core.Logic.{inl, inr, ◌≢◌}
use mathlib.Core.List.{List, [], ◌∷◌, ◌++◌, append-nil}
use mathlib.Core.Bool.{Bool, true, false, not, ◌&&◌}
use Prim.Native.Nat.{ℕ, ◌≤◌}
use native.Mathlib.Omega.{arith}
use borrow.Author.Tests.{eqb-true, eqb-false, not-true, not-false}
use lib.Dec.{eqb}
use lib.ListN.{length, take}
use lib.Seq.{length-take-le}
use Rattle.group_theory.proofs.Signs.{both}
use Rattle.coder_theory.specs.State.{Usable, places_in, corrected_place_in, corrected_old_place_in, message_in, is_codeword_in}
use Rattle.coder_theory.specs.Reasons.{Reason, first_reason, wrong_length, short_output, left_out, not_asked, bad_place, bad_byte, full}
use Rattle.coder_theory.specs.Calls.{if_accepted, state_reasons, word_reasons, syndrome_answer, codeword_answer, shown, write_reasons, encode_reasons, encode_answer}
use Rattle.coder_theory.specs.Calls.{ask_reasons, ask_answer, commit_reasons, commit_answer}
use Rattle.coder_theory.specs.Calls.{correct_reasons, correct_answer, combine_reasons, combine_answer, invert_reasons, invert_answer, third_reasons, third_answer}
use Rattle.coder_theory.specs.Demand1.{Lowest, TellsPlace, TellsPlaceOfTwo}
use Rattle.coder_theory.specs.declared.Record.{Record}
use Rattle.coder_theory.proofs.Firsts.{NoneApplies, AllTell, no_place, none-accepted, first-tells}
use Rattle.words_theory.proofs.Bad.{none-bits}
use Rattle.coder_theory.proofs.Bytes.{lowest}
use Rattle.coder_theory.proofs.Outcomes.{if-refused, word-accepted, shown-codeword}

-- ---- the place: a reason other than 4 tells 0, and 4 the lowest place
other : (n : ℕ) (w : List ℕ) → n ≢ 4 → TellsPlace n 0 w
other n w h = record { none = λ e. refl; lowest = λ e. absurd (h e) }

bad-lowest : (w : List ℕ) → (bad_byte w).applies ≡ true → Lowest w (bad_place w)
bad-lowest w e = lowest w (eqb-false (bad_place w) 0 (not-true (eqb (bad_place w) 0) e))

bad-tells : (w : List ℕ) → (bad_byte w).applies ≡ true → TellsPlace 4 (bad_place w) w
bad-tells w e = record { none = λ h. absurd (h refl); lowest = λ z. bad-lowest w e }

end-tells : (w : List ℕ) → TellsPlace 0 0 w
end-tells w = other 0 w (λ e. omega arith)

abbrev Tells : List ℕ → ℕ → ℕ → Type 0
Tells w n p = TellsPlace n p w

-- reasons that tell no place and have another number than 4, which a list computes, before others
abbrev silent : List Reason → Bool
silent [] = true
silent (x ∷ xs) = eqb x.place 0 && (not (eqb x.number 4) && silent xs)

after-silent : (T : ℕ → ℕ → Type 0) → ((n : ℕ) → n ≢ 4 → T n 0) → (xs ys : List Reason) → silent xs ≡ true → AllTell T ys → AllTell T (xs ++ ys)
after-silent T told [] ys e h = h
after-silent T told (x ∷ xs) ys e h =
    let a = both (eqb x.place 0) (not (eqb x.number 4) && silent xs) e in
    let b = both (not (eqb x.number 4)) (silent xs) a.1 in (
      (λ y. subst (T x.number) (sym (eqb-true x.place 0 a.0)) (told x.number (eqb-false x.number 4 (not-true (eqb x.number 4) b.0)))),
      λ y. after-silent T told xs ys b.1 h,
    )

-- 4, and further reasons rs after it
byte-tells : (w : List ℕ) (rs : List Reason) → silent rs ≡ true → AllTell (Tells w) (bad_byte w ∷ rs)
byte-tells w rs e = (
  bad-tells w,
  λ y. subst (AllTell (Tells w)) (append-nil rs) (after-silent (Tells w) (λ n. other n w) rs [] e (end-tells w)),
)

word-tells : (rec : Record) (w : List ℕ) (rs : List Reason) → silent rs ≡ true → AllTell (Tells w) (word_reasons rec w ++ rs)
word-tells rec w rs e = after-silent (Tells w) (λ n. other n w) (state_reasons rec ++ (wrong_length (places_in rec) w ∷ [])) (bad_byte w ∷ rs) refl (byte-tells w rs e)

write-tells : (rec : Record) (n : ℕ) (w : List ℕ) (room : ℕ) (rs : List Reason) → silent rs ≡ true → AllTell (Tells w) (write_reasons rec n w room ++ rs)
write-tells rec n w room rs e =
    after-silent (Tells w) (λ n. other n w) (state_reasons rec ++ (wrong_length n w ∷ short_output (places_in rec) room ∷ [])) (bad_byte w ∷ rs) refl (byte-tells w rs e)

pub syndrome-tells : (rec : Record) (w : List ℕ) → TellsPlace (syndrome_answer rec w).refusal (syndrome_answer rec w).place w
unfolding syndrome_answer
syndrome-tells rec w = first-tells (Tells w) (word_reasons rec w) (word-tells rec w [] refl)

pub codeword-tells : (rec : Record) (w : List ℕ) → TellsPlace (codeword_answer rec w).refusal (codeword_answer rec w).place w
unfolding codeword_answer
codeword-tells rec w = first-tells (Tells w) (word_reasons rec w) (word-tells rec w [] refl)

pub encode-tells : (rec : Record) (m out : List ℕ) → TellsPlace (encode_answer rec m out).refusal (encode_answer rec m out).place m
unfolding encode_answer
encode-tells rec m out =
    first-tells (Tells m) (encode_reasons rec m (length out)) (write-tells rec (message_in rec) m (length out) [] refl)

pub invert-tells : (rec : Record) (w out : List ℕ) → TellsPlace (invert_answer rec w out).refusal (invert_answer rec w out).place w
unfolding invert_answer
invert-tells rec w out =
    first-tells (Tells w) (invert_reasons rec w (length out)) (write-tells rec (places_in rec) w (length out) [] refl)

-- the place of a refused correction, commit or question; that of an accepted one, p, is the place it changes
refused-tells : (w : List ℕ) (rs : List Reason) (p : ℕ) → AllTell (Tells w) rs → (first_reason rs).number ≢ 0
    → TellsPlace (first_reason rs).number (if_accepted (first_reason rs).number p (first_reason rs).place) w
refused-tells w rs p all h = subst (λ (q : ℕ). TellsPlace (first_reason rs).number q w) (sym (if-refused _ _ _ h)) (first-tells (Tells w) rs all)

pub correct-tells : (rec : Record) (w out : List ℕ) → (correct_answer rec w out).refusal ≢ 0
    → TellsPlace (correct_answer rec w out).refusal (correct_answer rec w out).place w
unfolding correct_answer
correct-tells rec w out =
    refused-tells w (correct_reasons rec w (length out)) (corrected_place_in rec w)
    (write-tells rec (places_in rec) w (length out) (left_out rec.s (corrected_old_place_in rec w) ∷ full rec ∷ []) refl)

pub ask-tells : (rec : Record) (w : List ℕ) → (ask_answer rec w).refusal ≢ 0 → TellsPlace (ask_answer rec w).refusal (ask_answer rec w).place w
unfolding ask_answer
ask-tells rec w = refused-tells w (ask_reasons rec w) (corrected_place_in rec w) (word-tells rec w (left_out rec.s (corrected_old_place_in rec w) ∷ []) refl)

pub commit-tells : (rec : Record) (p : ℕ) (w : List ℕ) → (commit_answer rec p w).refusal ≢ 0
    → TellsPlace (commit_answer rec p w).refusal (commit_answer rec p w).place w
unfolding commit_answer
commit-tells rec p w =
    refused-tells w (commit_reasons rec p w) p
    (word-tells rec w (left_out rec.s (corrected_old_place_in rec w) ∷ not_asked p (ask_answer rec w).place ∷ full rec ∷ []) refl)

-- ---- two words
pub combine-tells : (rec : Record) (x y out : List ℕ) → TellsPlaceOfTwo (combine_answer rec x y out).refusal (combine_answer rec x y out).place x y
unfolding combine_answer
combine-tells rec x y out =
    first-tells T (combine_reasons rec x y (length out))
    (after-silent T none (state_reasons rec ++ (wrong_length (places_in rec) x ∷ wrong_length (places_in rec) y ∷ short_output (places_in rec) (length out) ∷ [])) (bad_byte x ∷ bad_byte y ∷ []) refl (
      (λ e. record { none = λ h. absurd (h refl); lowest = λ z. inl (bad-lowest x e) }),
      λ b. (
        (λ e. record { none = λ h. absurd (h refl); lowest = λ z. inr (none-bits 0 x (eqb-true (bad_place x) 0 (not-false (eqb (bad_place x) 0) b)), bad-lowest y e) }),
        λ e. none 0 (λ e. omega arith),
      ),
    ))
  where
    T : ℕ → ℕ → Type 0
    T n p = TellsPlaceOfTwo n p x y

    none : (n : ℕ) → n ≢ 4 → TellsPlaceOfTwo n 0 x y
    none n h = record { none = λ e. refl; lowest = λ e. absurd (h e) }

-- the third place is told only where the call is accepted
pub third-tells : (rec : Record) (i j : ℕ) → (third_answer rec i j).refusal ≢ 0 → (third_answer rec i j).place ≡ 0
unfolding third_answer
third-tells rec i j h =
    if-refused _ _ _ h
    ∙ no_place (third_reasons rec i j) (refl, (refl, (refl, (refl, (refl, (refl, (refl, tt)))))))

-- ---- what a refused call says besides
pub syndrome-none : (rec : Record) (w : List ℕ) → (syndrome_answer rec w).refusal ≢ 0 → (syndrome_answer rec w).element ≡ 0
unfolding syndrome_answer
syndrome-none rec w h = if-refused _ _ _ h

pub codeword-no : (rec : Record) (w : List ℕ) → (codeword_answer rec w).refusal ≢ 0 → (codeword_answer rec w).yes ≡ false
unfolding codeword_answer
codeword-no rec w h = if-refused _ _ _ h

-- ---- reading
-- every message has a place: n − t − s ≥ 1
pub message-some : (rec : Record) → Usable rec → 1 ≤ message_in rec
unfolding message_in
message-some rec f = let st = f.allowed.stays in omega arith

-- where no reason applies, a codeword's message is shown, and it is not empty
pub read-shows : (rec : Record) (w : List ℕ) → NoneApplies (word_reasons rec w) → is_codeword_in rec w ≡ true
    → (shown rec w ≡ take (message_in rec) w) × (1 ≤ length (shown rec w))
unfolding places_in message_in
read-shows rec w h y =
    let e = none-accepted (word_reasons rec w) h in
    let q = word-accepted rec w e in
    let m = message-some rec q.0 in
    let s = shown-codeword rec w e y in
    let l = length-take-le (message_in rec) w (omega (arith, q.1)) in
    (s, omega (arith, ap length s, l))
