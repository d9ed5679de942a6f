-- Slots cut between two of them: what is done to words that are filled with zeros over the slots that go. This is where s must not end within a
-- pair. Assumes nothing.
use mathlib.Core.Path.{◌≡◌, refl, sym, ap, subst, ◌∙◌}
use mathlib.Core.List.{List, [], ◌∷◌, ◌++◌, append_assoc}
use Prim.Native.Nat.{ℕ, zero, suc, ◌+◌, ◌-◌, ◌<◌, ◌≤◌}
use native.Mathlib.Omega.{arith}
use lib.ListN.{length, drop, length-append}
use Rattle.group_theory.specs.Group.{Modulus, zeros, sum, negative}
use Rattle.group_theory.proofs.Laws.{valid-zeros, zero-sum}
use Rattle.layout_theory.specs.Layout.{Slot, single, pair, units, slots, places}
use Rattle.layout_theory.proofs.Cover.{places-append}
use Rattle.words_theory.specs.Words.{Word, zero_word, flip}
use Rattle.words_theory.specs.Words as words
use Rattle.words_theory.specs.Syndrome.{length_of}
use Rattle.words_theory.specs.Syndrome as syndromes
use Rattle.words_theory.specs.Halves.{other_at}
use Rattle.words_theory.specs.Claims.{message_length_of}
use Rattle.words_theory.specs.Claims as claims
use Rattle.words_theory.proofs.Theorem.{word-group}
use Rattle.shortened_theory.specs.Code.{fill, old_place, ShortenedCodeword, shortened_syndrome, shortened_element_at, shortened_combine, shortened_inverse}
use Rattle.shortened_theory.specs.Claims.{EndsBetween, Commutes, ShortenedGroupOf}
use Rattle.shortened_theory.proofs.Filling.{dropped, refill, word-fill, fill-word, fill-zero, flip-fill, old-within}

-- ---- slots in two parts
pub length-places-append : (ms : List Modulus) (sl sk : List Slot) → length (places ms (sl ++ sk)) ≡ length (places ms sl) + length (places ms sk)
length-places-append ms sl sk = ap length (places-append ms sl sk) ∙ length-append (places ms sl) (places ms sk)

combine-fill : (ms : List Modulus) (sl sk : List Slot) (x y : List ℕ)
    → words.combine (sl ++ sk) (fill (length (places ms sl)) x) (fill (length (places ms sl)) y) ≡ fill (length (places ms sl)) (words.combine sk x y)
unfolding words.combine places
combine-fill ms [] sk x y = refl
combine-fill ms (single e ∷ sl) sk x y = ap {B = List ℕ} (λ (t : List ℕ). 0 ∷ t) (combine-fill ms sl sk x y)
combine-fill ms (pair z ∷ sl) sk x y = ap {B = List ℕ} (λ (t : List ℕ). 0 ∷ 0 ∷ t) (combine-fill ms sl sk x y)

inverse-fill : (ms : List Modulus) (sl sk : List Slot) (w : List ℕ)
    → words.inverse (sl ++ sk) (fill (length (places ms sl)) w) ≡ fill (length (places ms sl)) (words.inverse sk w)
unfolding words.inverse places
inverse-fill ms [] sk w = refl
inverse-fill ms (single e ∷ sl) sk w = ap {B = List ℕ} (λ (t : List ℕ). 0 ∷ t) (inverse-fill ms sl sk w)
inverse-fill ms (pair z ∷ sl) sk w = ap {B = List ℕ} (λ (t : List ℕ). 0 ∷ 0 ∷ t) (inverse-fill ms sl sk w)

-- the other half of a place that goes goes too, and that of one that stays stays
pub other-gone : (ms : List Modulus) (sl sk : List Slot) (i : ℕ) → i < length (places ms sl) → other_at (sl ++ sk) i < length (places ms sl)
unfolding other_at places
other-gone ms [] sk i h = absurd (omega arith)
other-gone ms (single e ∷ sl) sk zero h = omega arith
other-gone ms (single e ∷ sl) sk (suc i) h = let k = other-gone ms sl sk i (omega arith) in omega arith
other-gone ms (pair z ∷ sl) sk zero h = omega arith
other-gone ms (pair z ∷ sl) sk (suc zero) h = omega arith
other-gone ms (pair z ∷ sl) sk (suc (suc i)) h = let k = other-gone ms sl sk i (omega arith) in omega arith

pub other-kept : (ms : List Modulus) (sl sk : List Slot) (i : ℕ) → length (places ms sl) ≤ i → length (places ms sl) ≤ other_at (sl ++ sk) i
unfolding other_at places
other-kept ms [] sk i h = omega arith
other-kept ms (single e ∷ sl) sk zero h = absurd (omega arith)
other-kept ms (single e ∷ sl) sk (suc i) h = let k = other-kept ms sl sk i (omega arith) in omega arith
other-kept ms (pair z ∷ sl) sk zero h = absurd (omega arith)
other-kept ms (pair z ∷ sl) sk (suc zero) h = absurd (omega arith)
other-kept ms (pair z ∷ sl) sk (suc (suc i)) h = let k = other-kept ms sl sk i (omega arith) in omega arith

-- ---- combining and inverse of filled words
module _ (ms : List Modulus) (s : ℕ) (c : EndsBetween ms s) where
  -- what is kept of the slots: of the message, and the check
  abbrev rest : List Slot
  rest = c.kept ++ units ms

  whole : slots ms ≡ c.gone ++ rest
  unfolding slots
  whole = ap (λ (sl : List Slot). sl ++ units ms) c.whole ∙ append_assoc c.gone c.kept (units ms)

  -- no check place is left out
  pub front : s ≤ message_length_of ms
  front =
      let e = c.ends in
      let k = ap (λ (sl : List Slot). length (places ms sl)) c.whole ∙ length-places-append ms c.gone c.kept in
      omega arith

  combine-cut : (x y : List ℕ) → words.combine (slots ms) (fill s x) (fill s y) ≡ fill s (words.combine rest x y)
  combine-cut x y =
      subst (λ (k : ℕ). words.combine (slots ms) (fill k x) (fill k y) ≡ fill k (words.combine rest x y)) c.ends
      (ap (λ (sl : List Slot). words.combine sl (fill (length (places ms c.gone)) x) (fill (length (places ms c.gone)) y)) whole
      ∙ combine-fill ms c.gone rest x y)

  inverse-cut : (w : List ℕ) → words.inverse (slots ms) (fill s w) ≡ fill s (words.inverse rest w)
  inverse-cut w =
      subst (λ (k : ℕ). words.inverse (slots ms) (fill k w) ≡ fill k (words.inverse rest w)) c.ends
      (ap (λ (sl : List Slot). words.inverse sl (fill (length (places ms c.gone)) w)) whole ∙ inverse-fill ms c.gone rest w)

  pub combines : (x y : List ℕ) → fill s (shortened_combine ms s x y) ≡ words.combine (slots ms) (fill s x) (fill s y)
  unfolding shortened_combine
  combines x y = refill s (words.combine (slots ms) (fill s x) (fill s y)) (words.combine rest x y) (combine-cut x y)

  pub inverts : (w : List ℕ) → fill s (shortened_inverse ms s w) ≡ words.inverse (slots ms) (fill s w)
  unfolding shortened_inverse
  inverts w = refill s (words.inverse (slots ms) (fill s w)) (words.inverse rest w) (inverse-cut w)

  pub commutes : Commutes ms s
  commutes = record { combines = combines; inverts = inverts; flips = flip-fill s }

  -- the other half, by index
  pub other-left : (i : ℕ) → i < s → other_at (slots ms) i < s
  other-left i h =
      let e = c.ends in
      let k = other-gone ms c.gone rest i (omega arith) in
      rw whole (omega arith)

  pub other-right : (i : ℕ) → s ≤ i → s ≤ other_at (slots ms) i
  other-right i h =
      let e = c.ends in
      let k = other-kept ms c.gone rest i (omega arith) in
      rw whole (omega arith)

  -- ---- the group of words
  module _ (l : s ≤ length_of ms) where
    abbrev n : ℕ
    n = length_of ms

    whole-group : claims.GroupOf ms
    whole-group = word-group ms

    closed : (x y : List ℕ) → Word (n - s) x → Word (n - s) y → Word (n - s) (shortened_combine ms s x y)
    closed x y h k = fill-word n s (rw (combines x y) (whole-group.closed (fill s x) (fill s y) (word-fill n s l h) (word-fill n s l k)))

    commute : (x y : List ℕ) → shortened_combine ms s x y ≡ shortened_combine ms s y x
    unfolding shortened_combine
    commute x y = ap (drop s) (whole-group.commutes (fill s x) (fill s y))

    outer : (x y : List ℕ) → shortened_combine ms s x y ≡ drop s (words.combine (slots ms) (fill s x) (fill s y))
    unfolding shortened_combine
    outer x y = refl

    associate : (x y z : List ℕ) → shortened_combine ms s (shortened_combine ms s x y) z ≡ shortened_combine ms s x (shortened_combine ms s y z)
    associate x y z =
        outer (shortened_combine ms s x y) z
        ∙ ap (drop s)
        (ap (λ (v : List ℕ). words.combine (slots ms) v (fill s z)) (combines x y)
        ∙ whole-group.associates (fill s x) (fill s y) (fill s z)
        ∙ ap (words.combine (slots ms) (fill s x)) (sym (combines y z)))
        ∙ sym (outer x (shortened_combine ms s y z))

    neutral : (x : List ℕ) → Word (n - s) x → shortened_combine ms s x (zero_word (n - s)) ≡ x
    unfolding shortened_combine
    neutral x h =
        ap (drop s)
        (ap (words.combine (slots ms) (fill s x)) (fill-zero n s l) ∙ whole-group.neutral (fill s x) (word-fill n s l h))
        ∙ dropped s x

    inverse-word : (x : List ℕ) → Word (n - s) x → Word (n - s) (shortened_inverse ms s x)
    inverse-word x h = fill-word n s (rw (inverts x) (whole-group.inverts (fill s x) (word-fill n s l h)).0)

    inverse-zero : (x : List ℕ) → Word (n - s) x → shortened_combine ms s x (shortened_inverse ms s x) ≡ zero_word (n - s)
    unfolding shortened_combine
    inverse-zero x h =
        ap (drop s)
        (ap (words.combine (slots ms) (fill s x)) (inverts x) ∙ (whole-group.inverts (fill s x) (word-fill n s l h)).1 ∙ sym (fill-zero n s l))
        ∙ dropped s (zero_word (n - s))

    adds : (x y : List ℕ) → Word (n - s) x → Word (n - s) y → shortened_syndrome ms s (shortened_combine ms s x y) ≡ sum ms (shortened_syndrome ms s x) (shortened_syndrome ms s y)
    unfolding shortened_syndrome
    adds x y h k = ap (syndromes.syndrome ms) (combines x y) ∙ whole-group.adds (fill s x) (fill s y) (word-fill n s l h) (word-fill n s l k)

    negates : (x : List ℕ) → Word (n - s) x → shortened_syndrome ms s (shortened_inverse ms s x) ≡ negative ms (shortened_syndrome ms s x)
    unfolding shortened_syndrome
    negates x h = ap (syndromes.syndrome ms) (inverts x) ∙ whole-group.negates (fill s x) (word-fill n s l h)

    ones : (p : ℕ) → p ≤ n - s → shortened_syndrome ms s (flip p (zero_word (n - s))) ≡ shortened_element_at ms s p
    unfolding shortened_syndrome shortened_element_at
    ones p h =
        ap (syndromes.syndrome ms) (flip-fill s p (zero_word (n - s)) ∙ ap (flip (old_place s p)) (fill-zero n s l))
        ∙ whole-group.ones (old_place s p) (old-within n s p l h)

    sums : (x y : List ℕ) → ShortenedCodeword ms s x → ShortenedCodeword ms s y → ShortenedCodeword ms s (shortened_combine ms s x y)
    sums x y h k =
        rw (combines x y)
        (record {
          is_word = whole-group.closed (fill s x) (fill s y) h.is_word k.is_word;
          is_zero = whole-group.adds (fill s x) (fill s y) h.is_word k.is_word ∙ rw (h.is_zero, k.is_zero) (zero-sum ms (zeros ms) (valid-zeros ms));
        })

    pub groups : ShortenedGroupOf ms s
    groups =
        record {
          closed = closed;
          commutes = commute;
          associates = associate;
          neutral = neutral;
          inverts = λ x h. (inverse-word x h, inverse-zero x h);
          adds = adds;
          negates = negates;
          ones = ones;
          sums = sums;
        }
