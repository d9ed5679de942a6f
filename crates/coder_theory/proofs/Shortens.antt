-- Request C-17: what the calls on a usable record tell and write, beside what they do with s = 0: `shortens`. Its statement is in
-- specs/Demand2. Assumes nothing.
use mathlib.Core.Path.{◌≡◌, refl, sym, ap, ap₂, subst, ◌∙◌}
use mathlib.Core.Logic.{◌≢◌}
use mathlib.Core.Bool.{Bool, true, false}
use mathlib.Core.List.{List}
use Prim.Native.Nat.{ℕ, ◌+◌, ◌-◌, ◌≤◌, ◌<◌}
use native.Mathlib.Omega.{arith}
use lib.ListN.{length, take}
use Rattle.group_theory.specs.Group.{Modulus, number}
use Rattle.layout_theory.specs.Parameters.{places_of, message_of, moduli_for}
use Rattle.layout_theory.specs.Layout.{element_at}
use Rattle.words_theory.specs.Words.{Word}
use Rattle.words_theory.specs.Syndrome.{length_of}
use Rattle.words_theory.specs.Coding as coding
use Rattle.words_theory.proofs.Theorem.{length-code, length-message-code}
use Rattle.shortened_theory.specs.Allowed.{Allowed}
use Rattle.shortened_theory.specs.Code.{fill, old_place, LeftOut, is_left_out, corrected_old_place, shortened_corrected_place, third_old_place, shortened_third, shortened_element_at, shortened_syndrome, is_shortened_codeword}
use Rattle.shortened_theory.specs.Claims.{ShortenedOf}
use Rattle.shortened_theory.proofs.Filling.{old-sum, old-new, word-fill, fill-word}
use Rattle.shortened_theory.proofs.Encodings.{fill-encode}
use Rattle.shortened_theory.proofs.Between.{zero-allowed}
use Rattle.shortened_theory.proofs.Theorem.{shortened-code}
use Rattle.shortened_theory.proofs.Whole.{new-zero, none_left, element-zero, place-zero, third-zero, encode-zero, combine-zero, inverse-zero}
use Rattle.coder_theory.specs.State.{Usable, RecordOf, moduli_in, places_in, message_in, element_in, syndrome_in, number_in, is_codeword_in, corrected_place_in, corrected_old_place_in, third_in, third_old_place_in, full_count}
use Rattle.coder_theory.specs.Calls.{word_length, message_length, element_answer, syndrome_answer, codeword_answer, encode_output, correct_answer, ask_answer, combine_output, invert_output, third_answer}
use Rattle.coder_theory.specs.Demand1.{IsPlace}
use Rattle.coder_theory.specs.Demand2.{Falls, Shortens, Shortening}
use Rattle.coder_theory.specs.Demand3.{OwnRecord}
use Rattle.coder_theory.specs.Demand3Shortened.{HasNear}
use Rattle.coder_theory.specs.declared.Record.{Record}
use Rattle.coder_theory.specs.declared.Answer.{Answer}
use Rattle.coder_theory.specs.declared.Corrected.{Corrected}
use Rattle.coder_theory.proofs.States.{usable-true, zero-usable, code_in}
use Rattle.coder_theory.proofs.Answers.{usable-length}
use Rattle.coder_theory.proofs.Refusals.{tells}
use Rattle.coder_theory.proofs.Corrections.{left-true, left_false, nearest_in}
use Rattle.coder_theory.proofs.Accepted.{syndrome-accepts, codeword-accepts, third-accepts, third-left}
use Rattle.coder_theory.proofs.Asking.{ask-accepts, ask-left}
use Rattle.coder_theory.proofs.Accepts.{accepts, has}
use Rattle.coder_theory.proofs.Refused.{refused}
use Rattle.coder_theory.proofs.Does.{encode-does, combine-does, invert-does, correct-does, left-does}

-- ---- a place that falls in a left-out place, and one that does not
falls_out : (s x p q : ℕ) → LeftOut s q → x ≡ 11 → Falls s x p q
falls_out s x p q l e = record {
  left = ((λ z. l), λ z. e);
  none = λ z. absurd (omega arith);
  kept = λ z. absurd (omega arith);
}

zero-eleven : ◌≡◌ {A = ℕ} 0 11 → ⊥
zero-eleven e = omega arith

-- a word that has a codeword within one place is not refused with 11
never-eleven : (rec : Record) (w out : List ℕ) → (correct_answer rec w out).refusal ≡ 11 → HasNear rec.t rec.r rec.s w → ⊥
never-eleven rec w out z = (((refused rec).correct w out).numbers.1.1.1.1.1.1.0.0 z).1

stays-in : (s x p q : ℕ) → (LeftOut s q → ⊥) → x ≢ 11 → (x ≡ 0 → old_place s p ≡ q) → Falls s x p q
stays-in s x p q never other r = record {
  left = ((λ z. absurd (other z)), λ l. absurd (never l));
  none = λ z h. sym (r z) ∙ ap (old_place s) h;
  kept = λ z h. sym (r z) ∙ old-sum s p (λ n. omega arith);
}

module _ (rec whole : Record) (f : Usable rec) (c : RecordOf rec.t rec.r 0 whole) where
  abbrev ms : List Modulus
  ms = moduli_in rec

  -- n − s and n
  abbrev k : ℕ
  k = places_of rec.t - rec.s

  abbrev n : ℕ
  n = places_of rec.t

  u : Usable whole
  u = zero-usable whole c.fit c.is_s

  few : rec.s ≤ n
  few = let s = f.allowed.stays in omega arith

  in_whole : places_in whole ≡ n
  unfolding places_in
  in_whole = ap₂ (λ (t s : ℕ). places_of t - s) c.is_t c.is_s ∙ omega arith

  filled : {w : List ℕ} → Word k w → Word (places_in whole) (fill rec.s w)
  filled {w} h = subst (λ (m : ℕ). Word m (fill rec.s w)) (sym in_whole) (word-fill n rec.s few h)

  -- anything of the whole record's moduli and s is of these and 0
  at_zero : {A : Type 0} (g : List Modulus → ℕ → A) → g (moduli_in whole) whole.s ≡ g ms 0
  at_zero g = ap₂ g (ap₂ moduli_for c.is_t c.is_r) c.is_s

  -- ---- what is told
  same-element : (p : ℕ) → 0 < p → element_in rec p ≡ element_in whole (p + rec.s)
  unfolding element_in shortened_element_at
  same-element p a =
      ap (λ (q : ℕ). number ms (element_at ms q)) (old-sum rec.s p (λ z. omega arith))
      ∙ ap (number ms) (sym (element-zero ms (p + rec.s)))
      ∙ sym (at_zero (λ (m : List Modulus) (s : ℕ). number m (shortened_element_at m s (p + rec.s))))

  elements : (p : ℕ) → 0 < p → p ≤ k → element_answer rec p ≡ element_answer whole (p + rec.s)
  unfolding places_in
  elements p a b =
      tells rec p f a b
      ∙ ap (λ (e : ℕ). record { refusal = 0; place = 0; element = e }) (same-element p a)
      ∙ sym (tells whole (p + rec.s) u (omega arith) (let e = in_whole in let s = few in omega arith))

  same-syndrome : (w : List ℕ) → number_in rec (syndrome_in rec w) ≡ number_in whole (syndrome_in whole (fill rec.s w))
  unfolding number_in syndrome_in shortened_syndrome
  same-syndrome w = sym (at_zero (λ (m : List Modulus) (s : ℕ). number m (shortened_syndrome m s (fill rec.s w))))

  syndromes : (w : List ℕ) → Word k w → syndrome_answer rec w ≡ syndrome_answer whole (fill rec.s w)
  unfolding places_in
  syndromes w h =
      syndrome-accepts rec w f h
      ∙ ap (λ (e : ℕ). record { refusal = 0; place = 0; element = e }) (same-syndrome w)
      ∙ sym (syndrome-accepts whole (fill rec.s w) u (filled h))

  same_test : (w : List ℕ) → is_codeword_in rec w ≡ is_codeword_in whole (fill rec.s w)
  unfolding is_codeword_in
  same_test w = sym (at_zero (λ (m : List Modulus) (s : ℕ). is_shortened_codeword m s (fill rec.s w)))

  tests : (w : List ℕ) → Word k w → codeword_answer rec w ≡ codeword_answer whole (fill rec.s w)
  unfolding places_in
  tests w h =
      codeword-accepts rec w f h
      ∙ ap (λ (y : Bool). record { refusal = 0; place = 0; yes = y }) (same_test w)
      ∙ sym (codeword-accepts whole (fill rec.s w) u (filled h))

  -- words of the code's length, by t and by its moduli
  by-t : {w : List ℕ} → Word (length_of ms - rec.s) w → Word k w
  by-t {w} h = subst (λ (m : ℕ). Word (m - rec.s) w) (length-code rec.t rec.r f.fit.admitted) h

  -- ---- what is written, with an output of its own
  abbrev own : (out : List ℕ) → k ≤ length out → OwnRecord rec.t rec.r rec.s
  own out l = record { given = rec; code = record { is_t = refl; is_r = refl; is_s = refl; fit = f.fit }; output = out; enough = l }

  abbrev own-whole : (v : List ℕ) → n ≤ length v → OwnRecord rec.t rec.r 0
  own-whole v l = record { given = whole; code = c; output = v; enough = omega arith }

  none : Allowed rec.t rec.r 0
  none = zero-allowed rec.t rec.r f.fit.admitted

  entire : ShortenedOf rec.t rec.r 0
  entire = shortened-code rec.t rec.r 0 f.fit.admitted none

  -- n places are n − 0
  less : {m : ℕ} {w : List ℕ} → Word m w → Word (m - 0) w
  less {m} {w} h = subst (λ (j : ℕ). Word j w) (sym (new-zero m)) h

  by_n : {w : List ℕ} → Word (length_of ms - 0) w → Word (n - 0) w
  by_n {w} h = subst (λ (m : ℕ). Word (m - 0) w) (length-code rec.t rec.r f.fit.admitted) h

  all : (v : List ℕ) → take (n - 0) v ≡ take n v
  all v = ap (λ (m : ℕ). take m v) (new-zero n)

  encodes : (m out v : List ℕ) → Word (message_of rec.t - rec.s) m → k ≤ length out → n ≤ length v
      → fill rec.s (take k (encode_output rec m out)) ≡ take n (encode_output whole (fill rec.s m) v)
  encodes m out v h l l' =
      let st = f.allowed.stays in
      let q = length-message-code rec.t rec.r f.fit.admitted in
      let g : Word (message_of rec.t - 0) (fill rec.s m) = less (word-fill (message_of rec.t) rec.s (omega arith) h) in
      ap (fill rec.s) (encode-does f.allowed (own out l) m h (by-t (fill-word (length_of ms) rec.s ((code_in rec f).encodes m h).codeword.is_word))).1
      ∙ fill-encode ms rec.s (omega arith) m
      ∙ sym (encode-zero ms (fill rec.s m))
      ∙ sym (encode-does none (own-whole v l') (fill rec.s m) g (by_n (less (entire.encodes (fill rec.s m) g).codeword.is_word))).1
      ∙ all (encode_output whole (fill rec.s m) v)

  combines : (x y out v : List ℕ) → Word k x → Word k y → k ≤ length out → n ≤ length v
      → fill rec.s (take k (combine_output rec x y out)) ≡ take n (combine_output whole (fill rec.s x) (fill rec.s y) v)
  combines x y out v h i l l' =
      ap (fill rec.s) (combine-does f.allowed (own out l) x y h i).1
      ∙ (code_in rec f).commutes.combines x y
      ∙ sym (combine-zero ms (fill rec.s x) (fill rec.s y))
      ∙ sym (combine-does none (own-whole v l') (fill rec.s x) (fill rec.s y) (less (word-fill n rec.s few h)) (less (word-fill n rec.s few i))).1
      ∙ all (combine_output whole (fill rec.s x) (fill rec.s y) v)

  -- words of n − s places by the code's moduli
  by-ms : {w : List ℕ} → Word k w → Word (length_of ms - rec.s) w
  by-ms {w} h = subst (λ (m : ℕ). Word (m - rec.s) w) (sym (length-code rec.t rec.r f.fit.admitted)) h

  inverts : (w out v : List ℕ) → Word k w → k ≤ length out → n ≤ length v
      → fill rec.s (take k (invert_output rec w out)) ≡ take n (invert_output whole (fill rec.s w) v)
  inverts w out v h l l' =
      let g = word-fill n rec.s few h in
      let e : Word (length_of ms - 0) (fill rec.s w) =
      less (subst (λ (m : ℕ). Word m (fill rec.s w)) (sym (length-code rec.t rec.r f.fit.admitted)) g) in
      ap (fill rec.s) (invert-does f.allowed (own out l) w h (by-t ((code_in rec f).groups.inverts w (by-ms h)).0))
      ∙ (code_in rec f).commutes.inverts w
      ∙ sym (inverse-zero ms (fill rec.s w))
      ∙ sym (invert-does none (own-whole v l') (fill rec.s w) (less g) (by_n (entire.groups.inverts (fill rec.s w) e).0))
      ∙ all (invert_output whole (fill rec.s w) v)

  -- ---- correction: the place of the whole code is the one before renumbering
  old : List ℕ → ℕ
  old w = corrected_old_place ms rec.s w

  whole-place : (w v : List ℕ) → Word k w → n ≤ length v → whole.words ≢ full_count → (correct_answer whole (fill rec.s w) v).place ≡ old w
  unfolding old corrected_old_place
  whole-place w v h l u =
      let g = less (word-fill n rec.s few h) in
      let q = (entire.nearest (fill rec.s w) g).codeword (none_left _) in
      (correct-does none (own-whole v l) (fill rec.s w) u (none_left _) g (by_n (less q.is_word))).2
      ∙ place-zero ms (fill rec.s w)

  corrects : (w out v : List ℕ) → Word k w → k ≤ length out → n ≤ length v → whole.words ≢ full_count
      → Falls rec.s (correct_answer rec w out).refusal (correct_answer rec w out).place (correct_answer whole (fill rec.s w) v).place
  unfolding old places_in corrected_old_place_in
  corrects w out v h l l' u' =
      subst (Falls rec.s (correct_answer rec w out).refusal (correct_answer rec w out).place) (sym (whole-place w v h l' u')) (go (is_left_out rec.s (old w)) refl)
    where
      go : (b : Bool) → is_left_out rec.s (old w) ≡ b → Falls rec.s (correct_answer rec w out).refusal (correct_answer rec w out).place (old w)
      go true y =
          let q = left-true rec.s (old w) y in
          falls_out rec.s _ _ _ q (ap (λ (x : Corrected). x.refusal) (left-does f.allowed (own out l) w q h))
      go false y =
          let q = left_false rec.s (old w) y in
          let m = nearest_in rec w f h in
          stays-in rec.s _ _ _ q (λ z. never-eleven rec w out z (has rec w f h q))
          (λ z.
          let u = (((accepts rec).correct w out).0 z).4 in
          ap (old_place rec.s) (correct-does f.allowed (own out l) w u q h (by-t (fill-word (length_of ms) rec.s (m.codeword q).is_word))).2 ∙ m.renumbered q)

  -- ---- asking likewise, which needs no room and no count
  whole-asked : (w : List ℕ) → Word k w → (ask_answer whole (fill rec.s w)).place ≡ old w
  unfolding old corrected_old_place corrected_place_in
  whole-asked w h =
      ap (λ (x : Answer). x.place) (ask-accepts whole (fill rec.s w) u (filled h) (λ z. none_left _ (subst (λ (s : ℕ). LeftOut s (corrected_old_place_in whole (fill rec.s w))) c.is_s z)))
      ∙ at_zero (λ (m : List Modulus) (s : ℕ). shortened_corrected_place m s (fill rec.s w))
      ∙ place-zero ms (fill rec.s w)

  asks : (w : List ℕ) → Word k w → Falls rec.s (ask_answer rec w).refusal (ask_answer rec w).place (ask_answer whole (fill rec.s w)).place
  unfolding old places_in corrected_old_place_in corrected_place_in
  asks w h = subst (Falls rec.s (ask_answer rec w).refusal (ask_answer rec w).place) (sym (whole-asked w h)) (go (is_left_out rec.s (old w)) refl)
    where
      go : (b : Bool) → is_left_out rec.s (old w) ≡ b → Falls rec.s (ask_answer rec w).refusal (ask_answer rec w).place (old w)
      go true y =
          let q = left-true rec.s (old w) y in
          falls_out rec.s _ _ _ q (ap (λ (x : Answer). x.refusal) (ask-left rec w f h q))
      go false y =
          let q = left_false rec.s (old w) y in
          let e = ask-accepts rec w f h q in
          stays-in rec.s _ _ _ q (λ z. zero-eleven (sym (ap (λ (x : Answer). x.refusal) e) ∙ z))
          (λ z. ap (λ (x : Answer). old_place rec.s x.place) e ∙ (nearest_in rec w f h).renumbered q)

  -- ---- the third place likewise
  module _ (i j : ℕ) (a : IsPlace rec i) (b : IsPlace rec j) (d : i ≢ j) where
    abbrev third-old : ℕ
    third-old = third_old_place ms rec.s i j

    further : {q : ℕ} → IsPlace rec q → (0 < q + rec.s) × (q + rec.s ≤ n)
    further h = let st = few in (omega (arith, h.0), omega (arith, h.1))

    apart : i + rec.s ≢ j + rec.s
    apart z = d (omega arith)

    as-old : shortened_third ms 0 (i + rec.s) (j + rec.s) ≡ third-old
    unfolding third_old_place
    as-old =
        third-zero ms (i + rec.s) (j + rec.s)
        ∙ ap₂ (coding.third ms) (sym (old-sum rec.s i (λ z. let h = a.0 in omega arith))) (sym (old-sum rec.s j (λ z. let h = b.0 in omega arith)))

    whole-third : (third_answer whole (i + rec.s) (j + rec.s)).place ≡ third-old
    unfolding third_in
    whole-third =
        let x = further a in
        let y = further b in
        ap (λ (z : Answer). z.place) (third-accepts whole (i + rec.s) (j + rec.s) u x.0 (rw in_whole x.1) y.0 (rw in_whole y.1) apart (λ z. none_left _ (subst (λ (s : ℕ). LeftOut s (third_old_place_in whole (i + rec.s) (j + rec.s))) c.is_s z)))
        ∙ at_zero (λ (m : List Modulus) (s : ℕ). shortened_third m s (i + rec.s) (j + rec.s)) ∙ as-old

    thirds : Falls rec.s (third_answer rec i j).refusal (third_answer rec i j).place (third_answer whole (i + rec.s) (j + rec.s)).place
    unfolding places_in third_in third_old_place_in shortened_third
    thirds = subst (Falls rec.s (third_answer rec i j).refusal (third_answer rec i j).place) (sym whole-third) (go (is_left_out rec.s third-old) refl)
      where
        go : (y : Bool) → is_left_out rec.s third-old ≡ y → Falls rec.s (third_answer rec i j).refusal (third_answer rec i j).place third-old
        go true y =
            let q = left-true rec.s third-old y in
            falls_out rec.s _ _ _ q (ap (λ (x : Answer). x.refusal) (third-left rec i j f a.0 a.1 b.0 b.1 d q))
        go false y =
            let q = left_false rec.s third-old y in
            let e = third-accepts rec i j f a.0 a.1 b.0 b.1 d q in
            stays-in rec.s _ _ _ q (λ z. zero-eleven (sym (ap (λ (x : Answer). x.refusal) e) ∙ z)) (λ z. ap (λ (x : Answer). old_place rec.s x.place) e ∙ old-new rec.s third-old q)

  all_of : Shortens rec whole
  unfolding word_length message_length places_in message_in
  all_of =
      record {
        places = usable-length rec (places_in rec) (usable-true rec f);
        message = usable-length rec (message_in rec) (usable-true rec f);
        elements = λ p l. elements p l.0 l.1;
        syndromes = syndromes;
        tests = tests;
        encodes = encodes;
        combines = combines;
        inverts = inverts;
        corrects = corrects;
        asks = asks;
        thirds = thirds;
      }

pub shortens : Shortening
shortens rec whole f c = all_of rec whole f c
