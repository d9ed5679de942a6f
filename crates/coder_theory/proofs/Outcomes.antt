-- What the calls on words and places answer, by the first reason that applies: what their proofs cite. Assumes nothing.
use mathlib.Core.Path.{◌≡◌, refl, sym, ap, ap₂, ◌∙◌}
use mathlib.Core.Logic.{◌≢◌, ◌⊎◌, inl, inr, ⊎_elim}
use mathlib.Core.List.{List, [], ◌∷◌, ◌++◌}
use mathlib.Core.Bool.{Bool, true, false, not, false≢true}
use Prim.Native.Nat.{ℕ, zero, suc, ◌-◌, ◌≤◌}
use native.Mathlib.Omega.{arith}
use borrow.Author.Tests.{eqb-true, eq-eqb, ne_eqb, le-leb, le-ltb, ltb-false, eqb-false, not-false}
use lib.Dec.{eqb, ltb}
use lib.ListN.{length, take}
use Rattle.group_theory.specs.Group.{number, moduli}
use Rattle.group_theory.specs.Sign.{all_zero}
use Rattle.layout_theory.specs.Choice.{pick}
use Rattle.layout_theory.specs.Parameters.{places_of}
use Rattle.layout_theory.specs.Calls.{shape_for}
use Rattle.layout_theory.specs.declared.Shape.{Shape}
use Rattle.layout_theory.proofs.Parameters.{known-for, moduli-known}
use Rattle.words_theory.specs.Words.{Word}
use Rattle.words_theory.proofs.Bad.{none-bits}
use Rattle.shortened_theory.specs.Code.{is_left_out, shortened_syndrome, shortened_third}
use Rattle.shortened_theory.specs.Calls.{Fits, shortened_syndrome_for, is_shortened_place, shortened_third_for}
use Rattle.shortened_theory.proofs.Guards.{both-allowed, fits_word_lem}
use Rattle.coder_theory.specs.State.{Usable, places_in, message_in, syndrome_in, number_in, is_codeword_in, third_in, third_old_place_in}
use Rattle.coder_theory.specs.Reasons.{Reason, first_reason, left_out, outside, wrong_length, short_output, bad_place, bad_byte}
use Rattle.coder_theory.specs.Calls.{if_accepted, state_reasons, layout_reasons, message_length, word_reasons, answer_of, syndrome_answer, codeword_answer, shown, write_reasons}
use Rattle.coder_theory.specs.Calls.{places_reasons, third_reasons, third_answer}
use Rattle.coder_theory.specs.declared.Record.{Record}
use Rattle.coder_theory.specs.declared.Answer.{Answer}
use Rattle.coder_theory.specs.declared.TestAnswer.{TestAnswer}
use Rattle.coder_theory.proofs.Firsts.{Placeless, numbered, first-yes, first-no, first-end, first-before, first-after, first_past, accepted-none, no_place}
use Rattle.coder_theory.proofs.States.{usable-true, true-usable, or-false}
use Rattle.coder_theory.proofs.Answers.{usable-length}

pub if-accepted : {A : Type 0} (n : ℕ) (x y : A) → n ≡ 0 → if_accepted n x y ≡ x
if-accepted n x y h = rw h

pub if-refused : {A : Type 0} (n : ℕ) (x y : A) → n ≢ 0 → if_accepted n x y ≡ y
if-refused zero x y h = absurd (h refl)
if-refused (suc n) x y h = refl

-- one of two things by a test, where either is the third
pub by-pick : {A : Type 0} {x y z : A} (b : Bool) → (b ≡ true → x ≡ z) → (b ≡ false → y ≡ z) → pick b x y ≡ z
by-pick true e f = e refl
by-pick false e f = f refl

-- ---- 4, by the place that a scan found
module _ (w : List ℕ) (p : ℕ) (e : p ≡ bad_place w) where
  pub byte-bad : p ≢ 0 → (rs : List Reason) → record { refusal = 4; place = p } ≡ answer_of (first_reason (bad_byte w ∷ rs))
  byte-bad h rs =
      ap {B = Answer} (λ (p : ℕ). record { refusal = 4; place = p }) e
      ∙ sym (ap answer_of (first-yes (bad_byte w) rs (ap not (ne_eqb (bad_place w) 0 (λ z. h (e ∙ z))))))

  pub byte-good : p ≡ 0 → (bad_byte w).applies ≡ false
  byte-good h = ap not (eq-eqb (bad_place w) 0 (sym e ∙ h))

-- a call with no output asks for no more room than the word has
pub word_room : (rec : Record) (w : List ℕ) → first_reason (write_reasons rec (places_in rec) w (length w)) ≡ first_reason (word_reasons rec w)
word_room rec w = first-after (state_reasons rec) _ _ (go (eqb (length w) (places_in rec)) refl)
  where
    n : ℕ
    n = places_in rec

    go : (b : Bool) → eqb (length w) n ≡ b → first_reason (wrong_length n w ∷ short_output n (length w) ∷ bad_byte w ∷ []) ≡ first_reason (wrong_length n w ∷ bad_byte w ∷ [])
    go true e =
        let l = eqb-true (length w) n e in
        first-no (wrong_length n w) _ (ap not e) ∙ first-no (short_output n (length w)) _ (le-ltb (length w) n (omega arith)) ∙ sym (first-no (wrong_length n w) _ (ap not e))
    go false e = first-yes (wrong_length n w) _ (ap not e) ∙ sym (first-yes (wrong_length n w) _ (ap not e))

-- ---- 4 comes last, by the place that a pass found
module _ (early : List Reason) (quiet : Placeless early) (some : numbered early ≡ true) (w : List ℕ) (x : ℕ) (e : x ≡ (first_reason early).number) where
  pub byte-stopped : x ≢ 0 → record { refusal = x; place = 0 } ≡ answer_of (first_reason (early ++ (bad_byte w ∷ [])))
  byte-stopped h =
      ap₂ {C = Answer} (λ (n p : ℕ). record { refusal = n; place = p }) e (sym (no_place early quiet))
      ∙ sym (ap answer_of (first-before early (bad_byte w ∷ []) (λ z. h (e ∙ z))))

  module _ (z : x ≡ 0) (p : ℕ) (f : p ≡ bad_place w) where
    last : first_reason (early ++ (bad_byte w ∷ [])) ≡ first_reason (bad_byte w ∷ [])
    last = first_past early (bad_byte w ∷ []) (accepted-none early some (sym e ∙ z))

    pub byte-refused : p ≢ 0 → record { refusal = 4; place = p } ≡ answer_of (first_reason (early ++ (bad_byte w ∷ [])))
    byte-refused h = byte-bad w p f h [] ∙ sym (ap answer_of last)

    pub byte-accepted : p ≡ 0 → record { refusal = 0; place = p } ≡ answer_of (first_reason (early ++ (bad_byte w ∷ [])))
    byte-accepted h =
        ap {B = Answer} (λ (p : ℕ). record { refusal = 0; place = p }) h
        ∙ sym (ap answer_of (last ∙ first-no (bad_byte w) [] (byte-good w p f h) ∙ first-end))

-- ---- what an accepted call on a word knows, and what the functions on plain words then answer
pub right-length : (n : ℕ) (w : List ℕ) → (wrong_length n w).applies ≡ false → length w ≡ n
right-length n w h = eqb-true (length w) n (not-false (eqb (length w) n) h)

pub word-by : (n : ℕ) (w : List ℕ) → (wrong_length n w).applies ≡ false → (bad_byte w).applies ≡ false → Word n w
word-by n w a b = record { places = right-length n w a; bits = none-bits 0 w (eqb-true (bad_place w) 0 (not-false (eqb (bad_place w) 0) b)) }

pub word-accepted : (rec : Record) (w : List ℕ) → (first_reason (word_reasons rec w)).number ≡ 0 → Usable rec × (length w ≡ places_in rec)
word-accepted rec w e =
    let h = accepted-none (word_reasons rec w) refl e in
    (true-usable rec h.1.0 h.1.1.0, right-length (places_in rec) w h.1.1.1.0)

pub write-accepted : (rec : Record) (n : ℕ) (w : List ℕ) (room : ℕ) → (first_reason (write_reasons rec n w room)).number ≡ 0
    → Usable rec × (length w ≡ n) × (places_in rec ≤ room)
write-accepted rec n w room e =
    let h = accepted-none (write_reasons rec n w room) refl e in (
      true-usable rec h.1.0 h.1.1.0,
      right-length n w h.1.1.1.0,
      ltb-false room (places_in rec) h.1.1.1.1.0,
    )

-- a word of that length is one of the code
pub fitted : (rec : Record) (k : ℕ) → Usable rec → k ≡ places_in rec → Fits rec.t rec.r rec.s (places_of rec.t) k
unfolding places_in
fitted rec k f l = let st = f.allowed.stays in record { admitted = f.fit.admitted; allowed = f.allowed; all = omega arith }

-- the syndrome's element
pub plain-syndrome : (rec : Record) (w : List ℕ) → Usable rec → length w ≡ places_in rec → shortened_syndrome_for rec.t rec.r rec.s w ≡ syndrome_in rec w
unfolding shortened_syndrome_for syndrome_in
plain-syndrome rec w f l = rw (fits_word_lem rec.t rec.r rec.s (length w) (fitted rec (length w) f l))

-- a place to which reason 5 does not apply is one of the code
pub inside-by : (rec : Record) (p : ℕ) → (outside rec p).applies ≡ false → (1 ≤ p) × (p ≤ places_in rec)
inside-by rec p h =
    let a = or-false (eqb p 0) (ltb (places_in rec) p) h in
    (positive p (eqb-false p 0 a.0), ltb-false (places_in rec) p a.1)
  where
    positive : (p : ℕ) → (p ≡ 0 → ⊥) → 1 ≤ p
    positive zero z = absurd (z refl)
    positive (suc p) z = omega arith

pub layout-accepted : (rec : Record) (p : ℕ) → (first_reason (layout_reasons rec p)).number ≡ 0 → Usable rec × (1 ≤ p) × (p ≤ places_in rec)
layout-accepted rec p e =
    let h = accepted-none (layout_reasons rec p) refl e in
    let l = inside-by rec p h.1.1.1.0 in
    (true-usable rec h.1.0 h.1.1.0, l.0, l.1)

inside : (rec : Record) (p : ℕ) → (outside rec p).applies ≡ false → is_shortened_place rec.t rec.s p ≡ true
unfolding places_in
inside rec p h =
    let a = inside-by rec p h in
    rw (le-leb 1 p a.0, le-leb p (places_of rec.t - rec.s) a.1)

pub plain-third : (rec : Record) (i j : ℕ) → (first_reason (places_reasons rec i j)).number ≡ 0
    → shortened_third_for rec.t rec.r rec.s i j ≡ third_old_place_in rec i j
unfolding shortened_third_for third_old_place_in
plain-third rec i j e =
    let h = accepted-none (places_reasons rec i j) refl e in
    let u = true-usable rec h.1.0 h.1.1.0 in
    rw (
      both-allowed rec.t rec.r rec.s u.fit.admitted u.allowed,
      inside rec i h.1.1.1.0,
      inside rec j h.1.1.1.1.0,
      h.1.1.1.1.1.0,
    )

-- ---- the answers, by what the check answered
module _ (rec : Record) (w : List ℕ) (a : Answer) (e : a ≡ answer_of (first_reason (word_reasons rec w))) where
  number_by : a.refusal ≡ (first_reason (word_reasons rec w)).number
  number_by = ap (λ (x : Answer). x.refusal) e

  place-by : a.place ≡ (first_reason (word_reasons rec w)).place
  place-by = ap (λ (x : Answer). x.place) e

  ready : a.refusal ≡ 0 → Usable rec × (length w ≡ places_in rec)
  ready h = word-accepted rec w (sym number_by ∙ h)

  pub syndrome-accepted : a.refusal ≡ 0 → (x : List ℕ) → x ≡ shortened_syndrome_for rec.t rec.r rec.s w → (s : Shape) → s ≡ shape_for rec.t rec.r
      → record { refusal = a.refusal; place = a.place; element = number (moduli s.a s.b) x } ≡ syndrome_answer rec w
  unfolding syndrome_answer number_in
  syndrome-accepted h x q s k =
      let f = (ready h).0 in
      rw (
        sym number_by ∙ h,
        h,
        ← place-by,
        q,
        plain-syndrome rec w f (ready h).1,
        moduli-known rec.t rec.r s (known-for rec.t rec.r s k f.fit.admitted),
      )

  pub codeword-accepted : a.refusal ≡ 0 → (x : List ℕ) → x ≡ shortened_syndrome_for rec.t rec.r rec.s w
      → record { refusal = a.refusal; place = a.place; yes = all_zero x } ≡ codeword_answer rec w
  unfolding codeword_answer is_codeword_in syndrome_in shortened_syndrome
  codeword-accepted h x q =
      rw (
        sym number_by ∙ h,
        h,
        ← place-by,
        q ∙ plain-syndrome rec w (ready h).0 (ready h).1,
      )

-- ---- reading, by the codeword test
accepted-true : (n : ℕ) (b : Bool) → if_accepted n b false ≡ true → (n ≡ 0) × (b ≡ true)
accepted-true zero b e = (refl, e)
accepted-true (suc n) b e = absurd (false≢true e)

accepted-false : (n : ℕ) (b : Bool) → if_accepted n b false ≡ false → (n ≢ 0) ⊎ ((n ≡ 0) × (b ≡ false))
accepted-false zero b e = inr (refl, e)
accepted-false (suc n) b e = inl (λ z. omega arith)

-- the codeword test says yes of a codeword alone, where it is accepted
pub says-yes : (rec : Record) (w : List ℕ) → (codeword_answer rec w).yes ≡ true → ((first_reason (word_reasons rec w)).number ≡ 0) × (is_codeword_in rec w ≡ true)
unfolding codeword_answer
says-yes rec w e = accepted-true _ _ e

says-no : (rec : Record) (w : List ℕ) → (codeword_answer rec w).yes ≡ false
    → ((first_reason (word_reasons rec w)).number ≢ 0) ⊎ (((first_reason (word_reasons rec w)).number ≡ 0) × (is_codeword_in rec w ≡ false))
unfolding codeword_answer
says-no rec w e = accepted-false _ _ e

pub shown-refused : (rec : Record) (w : List ℕ) → (first_reason (word_reasons rec w)).number ≢ 0 → shown rec w ≡ []
unfolding shown
shown-refused rec w h = if-refused _ _ _ h

pub shown-other : (rec : Record) (w : List ℕ) → (first_reason (word_reasons rec w)).number ≡ 0 → is_codeword_in rec w ≡ false → shown rec w ≡ []
unfolding shown
shown-other rec w e y = if-accepted _ _ _ e ∙ ap (λ (b : Bool). pick b (take (message_in rec) w) []) y

pub shown-codeword : (rec : Record) (w : List ℕ) → (first_reason (word_reasons rec w)).number ≡ 0 → is_codeword_in rec w ≡ true
    → shown rec w ≡ take (message_in rec) w
unfolding shown
shown-codeword rec w e y = if-accepted _ _ _ e ∙ ap (λ (b : Bool). pick b (take (message_in rec) w) []) y

module _ (rec : Record) (w : List ℕ) (a : TestAnswer) (e : a ≡ codeword_answer rec w) where
  yes-by : a.yes ≡ (codeword_answer rec w).yes
  yes-by = ap (λ (x : TestAnswer). x.yes) e

  pub shown-no : a.yes ≡ false → [] ≡ shown rec w
  shown-no h = sym (⊎_elim (shown-refused rec w) (λ q. shown-other rec w q.0 q.1) (says-no rec w (sym yes-by ∙ h)))

  pub shown-yes : a.yes ≡ true → (n : ℕ) → n ≡ message_length rec → (take n w ≡ shown rec w) × (n ≤ length w)
  unfolding message_length message_in places_in
  shown-yes h n k =
      let z = says-yes rec w (sym yes-by ∙ h) in
      let q = word-accepted rec w z.0 in
      let m : n ≡ message_in rec = k ∙ usable-length rec (message_in rec) (usable-true rec q.0) in
      (ap (λ (n : ℕ). take n w) m ∙ sym (shown-codeword rec w z.0 z.1), omega (arith, q.1))

-- ---- the third place, by the number that the check answered
module _ (rec : Record) (i j x : ℕ) (e : x ≡ (first_reason (places_reasons rec i j)).number) where
  abbrev left : Reason
  left = left_out rec.s (third_old_place_in rec i j)

  module _ (h : x ≡ 0) (q : ℕ) (g : q ≡ shortened_third_for rec.t rec.r rec.s i j) where
    z : (first_reason (places_reasons rec i j)).number ≡ 0
    z = sym e ∙ h

    whole : q ≡ third_old_place_in rec i j
    whole = g ∙ plain-third rec i j z

    past : first_reason (third_reasons rec i j) ≡ first_reason (left ∷ [])
    past = first_past (places_reasons rec i j) (left ∷ []) (accepted-none (places_reasons rec i j) refl z)

    third-stopped : is_left_out rec.s q ≡ true → record { refusal = 11; place = 0 } ≡ third_answer rec i j
    unfolding third_answer
    third-stopped y = rw (past, first-yes left [] (ap (is_left_out rec.s) (sym whole) ∙ y))

    third-kept : is_left_out rec.s q ≡ false → record { refusal = 0; place = q - rec.s } ≡ third_answer rec i j
    unfolding third_answer third_in shortened_third third_old_place_in
    third-kept y = rw (past, first-no left [] (ap (is_left_out rec.s) (sym whole) ∙ y), first-end, whole)

    pub third-told : (a : Answer) → a ≡ pick (is_left_out rec.s q) (record { refusal = 11; place = 0 }) (record { refusal = 0; place = q - rec.s }) → a ≡ third_answer rec i j
    third-told a i = i ∙ by-pick (is_left_out rec.s q) third-stopped third-kept
