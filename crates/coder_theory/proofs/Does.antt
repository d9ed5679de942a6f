-- What encoding, combining, the inverse and correction do with a record and an output of their own, in terms of t, r and s. Assumes nothing.
use mathlib.Core.Path.{◌≡◌, sym, ap, ap₂, subst, ◌∙◌}
use mathlib.Core.List.{List, ◌++◌}
use Prim.Native.Nat.{ℕ, ◌-◌, ◌≤◌}
use lib.ListN.{length, take, drop}
use lib.Seq.{take-append_seam}
use Rattle.group_theory.specs.Group.{Modulus}
use Rattle.layout_theory.specs.Parameters.{places_of, message_of, moduli_for}
use Rattle.words_theory.specs.Words.{Word}
use Rattle.shortened_theory.specs.Allowed.{Allowed}
use Rattle.shortened_theory.specs.Code.{LeftOut, shortened_encode, shortened_combine, shortened_inverse, corrected_old_place, shortened_corrected, shortened_corrected_place}
use Rattle.coder_theory.specs.State.{Usable, moduli_in, places_in, message_in, encoded_in, inverse_in, corrected_in, corrected_place_in, corrected_old_place_in, full_count}
use Rattle.coder_theory.specs.Calls.{encode_output, correct_answer, correct_output, invert_output}
use Rattle.coder_theory.specs.Demand3.{OwnRecord, NotFull, AcceptsMessage, encoded_by, AcceptsTwo, combined_by, AcceptsWord, corrected_by, place_by}
use Rattle.coder_theory.specs.declared.Answer.{Answer}
use Rattle.coder_theory.specs.declared.Corrected.{Corrected}
use Rattle.coder_theory.proofs.States.{usable-of}
use Rattle.coder_theory.proofs.Accepted.{encode-accepts, correct-accepts, combine-accepts, invert-accepts, left-refused, full-refused}
use Rattle.coder_theory.proofs.Triples.{combined-front}

module _ {t r s : ℕ} (al : Allowed t r s) (o : OwnRecord t r s) where
  abbrev ms : List Modulus
  ms = moduli_for t r

  -- anything of the record's t, r and s is of these
  of_code : {A : Type 0} (f : List Modulus → ℕ → A) → f (moduli_in o.given) o.given.s ≡ f ms s
  of_code f = ap₂ (λ (t r : ℕ). f (moduli_for t r) o.given.s) o.code.is_t o.code.is_r ∙ ap (f ms) o.code.is_s

  usable : Usable o.given
  usable = usable-of t r s o.given al o.code

  places-in : places_in o.given ≡ places_of t - s
  unfolding places_in
  places-in = ap₂ (λ (t s : ℕ). places_of t - s) o.code.is_t o.code.is_s

  message-in : message_in o.given ≡ message_of t - s
  unfolding message_in
  message-in = ap₂ (λ (t s : ℕ). message_of t - s) o.code.is_t o.code.is_s

  word_in : {w : List ℕ} → Word (places_of t - s) w → Word (places_in o.given) w
  word_in {w} h = subst (λ (n : ℕ). Word n w) (sym places-in) h

  room_in : places_in o.given ≤ length o.output
  room_in = subst (λ (n : ℕ). n ≤ length o.output) (sym places-in) o.enough

  -- the first n − s bytes of an output are the word that was written
  front_by : (new kept x : List ℕ) → Word (places_of t - s) new → x ≡ new ++ kept → take (places_of t - s) x ≡ new
  front_by new kept x h e =
      ap (take (places_of t - s)) e ∙ ap (λ (k : ℕ). take k (new ++ kept)) (sym h.places) ∙ take-append_seam new kept

  pub encode-does : (m : List ℕ) → Word (message_of t - s) m → Word (places_of t - s) (shortened_encode ms s m) → AcceptsMessage o m × (encoded_by o m ≡ shortened_encode ms s m)
  unfolding encoded_in
  encode-does m h k =
      let a = encode-accepts o.given m o.output usable (subst (λ (n : ℕ). Word n m) (sym message-in) h) room_in in (
        ap (λ (x : Answer). x.refusal) a.0,
        front_by (shortened_encode ms s m) (drop (places_in o.given) o.output) (encode_output o.given m o.output) k
            (a.1 ∙ of_code (λ (n : List Modulus) (j : ℕ). shortened_encode n j m ++ drop (places_in o.given) o.output)),
      )

  pub combine-does : (x y : List ℕ) → Word (places_of t - s) x → Word (places_of t - s) y → AcceptsTwo o x y × (combined_by o x y ≡ shortened_combine ms s x y)
  combine-does x y h i = (
    ap (λ (x : Answer). x.refusal) (combine-accepts o.given x y o.output usable (word_in h) (word_in i) room_in).0,
    combined-front t r s o.given al o.code x y o.output h i o.enough,
  )

  pub invert-does : (w : List ℕ) → Word (places_of t - s) w → Word (places_of t - s) (shortened_inverse ms s w)
      → take (places_of t - s) (invert_output o.given w o.output) ≡ shortened_inverse ms s w
  unfolding inverse_in
  invert-does w h k =
      front_by (shortened_inverse ms s w) (drop (places_in o.given) o.output) (invert_output o.given w o.output) k
      ((invert-accepts o.given w o.output usable (word_in h) room_in).1
      ∙ of_code (λ (n : List Modulus) (j : ℕ). shortened_inverse n j w ++ drop (places_in o.given) o.output))

  old-in : (w : List ℕ) → corrected_old_place_in o.given w ≡ corrected_old_place ms s w
  unfolding corrected_old_place_in
  old-in w = of_code (λ (n : List Modulus) (j : ℕ). corrected_old_place n j w)

  left_in : (w : List ℕ) → LeftOut o.given.s (corrected_old_place_in o.given w) ≡ LeftOut s (corrected_old_place ms s w)
  left_in w = ap₂ LeftOut o.code.is_s (old-in w)

  pub correct-does : (w : List ℕ) → NotFull o → (LeftOut s (corrected_old_place ms s w) → ⊥) → Word (places_of t - s) w → Word (places_of t - s) (shortened_corrected ms s w)
      → AcceptsWord o w × (corrected_by o w ≡ shortened_corrected ms s w) × (place_by o w ≡ shortened_corrected_place ms s w)
  unfolding corrected_in corrected_place_in
  correct-does w n q h k =
      let a = correct-accepts o.given w o.output usable n (λ x. q (subst (λ (A : Type 0). A) (left_in w) x)) (word_in h) room_in in (
        ap (λ (x : Corrected). x.refusal) a.0,
        front_by (shortened_corrected ms s w) (drop (places_in o.given) o.output) (correct_output o.given w o.output) k
            (a.1 ∙ of_code (λ (n : List Modulus) (j : ℕ). shortened_corrected n j w ++ drop (places_in o.given) o.output)),
        ap (λ (x : Corrected). x.place) a.0 ∙ of_code (λ (n : List Modulus) (j : ℕ). shortened_corrected_place n j w),
      )

  pub left-does : (w : List ℕ) → LeftOut s (corrected_old_place ms s w) → Word (places_of t - s) w
      → correct_answer o.given w o.output ≡ record { refusal = 11; place = 0; «record» = o.given }
  left-does w q h = left-refused o.given w o.output usable (subst (λ (A : Type 0). A) (sym (left_in w)) q) (word_in h) room_in

  -- where words is full it is 23, not 11
  pub full-does : (w : List ℕ) → o.given.words ≡ full_count → (LeftOut s (corrected_old_place ms s w) → ⊥) → Word (places_of t - s) w
      → correct_answer o.given w o.output ≡ record { refusal = 23; place = 0; «record» = o.given }
  full-does w e q h = full-refused o.given w o.output usable e (λ x. q (subst (λ (A : Type 0). A) (left_in w) x)) (word_in h) room_in
