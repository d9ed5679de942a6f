-- Demand 2 of the calls on a usable record, one theorem: `demand2`. Its statement is in specs/Demand2. Assumes nothing.
use mathlib.Core.Path.{◌≡◌, refl, sym, ap, ap₂, subst, ◌∙◌}
use mathlib.Core.Logic.{◌↔◌}
use mathlib.Core.List.{List}
use Prim.Native.Nat.{ℕ, zero, suc, ◌-◌, ◌≤◌, ◌<◌}
use native.Mathlib.Omega.{arith}
use lib.ListN.{length, drop}
use Rattle.group_theory.specs.Group.{Modulus, Valid, sum, number, element}
use Rattle.group_theory.proofs.Numbers.{element-number, element-zero, number-zeros}
use Rattle.layout_theory.specs.Parameters.{places_of}
use Rattle.words_theory.specs.Words.{Word, zero_word, flip}
use Rattle.words_theory.specs.Syndrome.{length_of}
use Rattle.words_theory.proofs.Reading.{reads_word, valid-syndrome}
use Rattle.words_theory.proofs.Perfect.{flip-place-reads}
use Rattle.words_theory.proofs.Thirds.{zero_word_lem}
use Rattle.words_theory.proofs.Theorem.{length-code}
use Rattle.shortened_theory.specs.Code.{fill, old_place, shortened_syndrome}
use Rattle.shortened_theory.proofs.Filling.{fill-word, fill-zero, flip-fill}
use Rattle.coder_theory.specs.State.{Usable, FallsOut, corrected_in, corrected_old_place_in, moduli_in, places_in, message_in, element_in, syndrome_in, number_in}
use Rattle.coder_theory.specs.Calls.{element_answer, syndrome_answer, correct_answer, correct_output, combine_output}
use Rattle.coder_theory.specs.Demand1.{CodewordIn, word_places, IsWord, HasRoom}
use Rattle.coder_theory.specs.Demand2.{first_bytes, TellsSyndrome, CorrectsIn, Demand2}
use Rattle.coder_theory.specs.declared.Record.{Record}
use Rattle.coder_theory.specs.declared.ElementAnswer.{ElementAnswer}
use Rattle.coder_theory.proofs.Firsts.{not-zero}
use Rattle.coder_theory.proofs.States.{code_in, word_in, filled_in}
use Rattle.coder_theory.proofs.Refusals.{tells, correct-untouched}
use Rattle.coder_theory.proofs.Accepted.{syndrome-accepts, reading-accepts, correct-accepts, front}
use Rattle.coder_theory.proofs.Corrections.{nearest_in}
use Rattle.coder_theory.proofs.Accepts.{accepts, kept}
use Rattle.coder_theory.proofs.Codewords.{says-codeword, word_of, zero_of}
use Rattle.coder_theory.proofs.Counting.{correct-step}
use Rattle.coder_theory.proofs.Commits.{adds_one, asks, commits}
use Rattle.coder_theory.proofs.Layouts.{tells-layout, tells-once}
use Rattle.coder_theory.proofs.Messages.{encodes}
use Rattle.coder_theory.proofs.Triples.{combined-front, combines, inverts, thirds}

module _ (rec : Record) (f : Usable rec) where
  abbrev ms : List Modulus
  ms = moduli_in rec

  -- the syndrome, as an element
  abbrev of : List ℕ → List ℕ
  of w = shortened_syndrome ms rec.s w

  valid : (w : List ℕ) → Valid ms (of w)
  unfolding shortened_syndrome
  valid w = valid-syndrome ms (fill rec.s w)

  told : (w : List ℕ) → IsWord rec w → (syndrome_answer rec w).element ≡ number ms (of w)
  unfolding places_in syndrome_in number_in
  told w h = ap (λ (x : ElementAnswer). x.element) (syndrome-accepts rec w f h)

  back : (w : List ℕ) → IsWord rec w → element ms (syndrome_answer rec w).element ≡ of w
  back w h = ap (element ms) (told w h) ∙ element-number ms (of w) (valid w)

  sums : (x y out : List ℕ) → IsWord rec x → IsWord rec y → HasRoom rec out
      → (syndrome_answer rec (first_bytes rec (combine_output rec x y out))).element
      ≡ number ms (sum ms (element ms (syndrome_answer rec x).element) (element ms (syndrome_answer rec y).element))
  unfolding places_in
  sums x y out h k l =
      let c = combines rec x y out f h k l in
      let e = combined-front rec.t rec.r rec.s rec f.allowed (record { is_t = refl; is_r = refl; is_s = refl; fit = f.fit }) x y out h k l in
      told (first_bytes rec (combine_output rec x y out)) c.word
      ∙ ap (λ (w : List ℕ). number ms (of w)) e
      ∙ ap (number ms) ((code_in rec f).groups.adds x y (word_in rec f h) (word_in rec f k) ∙ ap₂ (sum ms) (sym (back x h)) (sym (back y k)))

  codewords : (w : List ℕ) → IsWord rec w → ((syndrome_answer rec w).element ≡ 0) ↔ CodewordIn rec w
  unfolding places_in shortened_syndrome
  codewords w h = (
    (λ e. record { is_word = filled_in rec f h; is_zero = sym (back w h) ∙ ap (element ms) e ∙ element-zero ms }),
    λ c. told w h ∙ ap (number ms) c.is_zero ∙ number-zeros ms,
  )

  -- ---- the word with a single 1
  few : rec.s ≤ places_of rec.t
  few = let s = f.allowed.stays in omega arith

  by-t : {w : List ℕ} → Word (length_of ms - rec.s) w → IsWord rec w
  by-t {w} h = subst (λ (m : ℕ). Word (m - rec.s) w) (length-code rec.t rec.r f.fit.admitted) h

  one_word : (p : ℕ) → IsWord rec (flip p (zero_word (word_places rec)))
  one_word p =
      let l = length-code rec.t rec.r f.fit.admitted in
      let z : fill rec.s (flip p (zero_word (word_places rec))) ≡ flip (old_place rec.s p) (zero_word (length_of ms)) =
      flip-fill rec.s p (zero_word (word_places rec)) ∙ ap (flip (old_place rec.s p)) (fill-zero (places_of rec.t) rec.s few ∙ ap zero_word (sym l)) in
      by-t (fill-word (length_of ms) rec.s (subst (Word (length_of ms)) (sym z) (reads_word ms (flip-place-reads ms (zero_word_lem ms) (old_place rec.s p)))))

  ones : (p : ℕ) → 0 < p → p ≤ word_places rec → (syndrome_answer rec (flip p (zero_word (word_places rec)))).element ≡ (element_answer rec p).element
  unfolding places_in element_in syndrome_in number_in
  ones p a b =
      let l = length-code rec.t rec.r f.fit.admitted in
      ap (λ (x : ElementAnswer). x.element) (syndrome-accepts rec (flip p (zero_word (word_places rec))) f (one_word p))
      ∙ ap (number ms)
      (ap (λ (m : ℕ). shortened_syndrome ms rec.s (flip p (zero_word (m - rec.s)))) (sym l) ∙ (code_in rec f).groups.ones p (rw l b))
      ∙ sym (ap (λ (x : ElementAnswer). x.element) (tells rec p f a b))

  syndrome : TellsSyndrome rec
  syndrome = record { ones = λ p l. ones p l.0 l.1; sums = sums; codewords = codewords }

  -- ---- the bytes behind a corrected word
  pub corrected-word : (w : List ℕ) → IsWord rec w → (FallsOut rec w → ⊥) → length (corrected_in rec w) ≡ word_places rec
  unfolding places_in corrected_in corrected_old_place_in
  corrected-word w h q = (word_of rec f (corrected_in rec w) ((nearest_in rec w f h).codeword q)).places

  pub behind : (w out : List ℕ) → drop (word_places rec) (correct_output rec w out) ≡ drop (word_places rec) out
  unfolding places_in
  behind w out = go (correct_answer rec w out).refusal refl
    where
      go : (n : ℕ) → (correct_answer rec w out).refusal ≡ n → drop (word_places rec) (correct_output rec w out) ≡ drop (word_places rec) out
      go zero e =
          let a = ((accepts rec).correct w out).0 e in
          let q = kept rec w f a.1 a.3 in
          ap (drop (word_places rec)) (correct-accepts rec w out f a.4 q a.1 a.2).1
          ∙ (front (word_places rec) (corrected_in rec w) out (corrected-word w a.1 q)).1
      go (suc n) e = ap (drop (word_places rec)) (correct-untouched rec w out (not-zero e)).0

  corrects : (w out : List ℕ) → CorrectsIn rec w out
  corrects w out = record { further = behind w out; counts = adds_one rec w (correct_answer rec w out) (correct-step rec w out) }

pub demand2 : Demand2
unfolding places_in message_in
demand2 rec f =
    record {
      layout = tells-layout rec f;
      once = tells-once rec f;
      syndrome = syndrome rec f;
      test = says-codeword rec f;
      reads = λ w c. (reading-accepts rec w f (word_of rec f w c) (zero_of rec f w c)).0;
      encodes = λ m out h l. encodes rec m out f h l;
      corrects = corrects rec f;
      asks = asks rec f;
      commits = commits rec f;
      combines = λ x y out h k l. combines rec x y out f h k l;
      inverts = λ w out h l. inverts rec w out f h l;
      thirds = λ i j a b n. thirds rec i j f a.0 a.1 b.0 b.1 n;
    }
