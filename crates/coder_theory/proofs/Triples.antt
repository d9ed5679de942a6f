-- Demand 2 of combining, the inverse and the third place: what the calls write and tell, with a usable record. Assumes nothing.
use mathlib.Core.Path.{◌≡◌, refl, sym, ap, ap₂, ◌∙◌, subst}
use mathlib.Core.Logic.{◌≢◌}
use mathlib.Core.Bool.{Bool, true, false}
use mathlib.Core.List.{List, ◌++◌}
use Prim.Native.Nat.{ℕ, ◌-◌, ◌≤◌, ◌<◌}
use native.Mathlib.Omega.{arith}
use lib.ListN.{length, take, drop}
use Rattle.layout_theory.specs.Parameters.{places_of, moduli_for}
use Rattle.layout_theory.specs.Layout.{slots}
use Rattle.words_theory.specs.Words.{Word, zero_word}
use Rattle.words_theory.specs.Words as words
use Rattle.words_theory.proofs.Theorem.{length-code}
use Rattle.shortened_theory.specs.Allowed.{Allowed}
use Rattle.shortened_theory.specs.Code.{fill, LeftOut, shortened_combine, is_left_out}
use Rattle.shortened_theory.specs.Claims.{ShortenedGroupOf, ShortenedThirdOf}
use Rattle.shortened_theory.proofs.Whole.{none_left}
use Rattle.coder_theory.specs.State.{Usable, RecordOf, moduli_in, places_in, combine_in, inverse_in, third_in, third_old_place_in, ThirdFallsOut}
use Rattle.coder_theory.specs.Demand1.{CodewordIn, ThreeIn}
use Rattle.coder_theory.specs.Calls.{combine_output, invert_output, third_answer}
use Rattle.coder_theory.specs.Demand2.{Combines, Inverts, Thirds}
use Rattle.coder_theory.specs.declared.Record.{Record}
use Rattle.coder_theory.specs.declared.Answer.{Answer}
use Rattle.coder_theory.proofs.States.{usable-of, code_in, word_in}
use Rattle.coder_theory.proofs.Corrections.{left-true, left_false}
use Rattle.coder_theory.proofs.Accepted.{front, combine-accepts, invert-accepts, third-accepts, third-left}

-- ---- combining, with any record of the code
pub combined-front : (t r s : ℕ) (other : Record) → Allowed t r s → RecordOf t r s other → (x y o : List ℕ) → Word (places_of t - s) x → Word (places_of t - s) y → places_of t - s ≤ length o
    → take (places_of t - s) (combine_output other x y o) ≡ shortened_combine (moduli_for t r) s x y
unfolding places_in combine_in
combined-front t r s other al c x y o h k l =
    let f = usable-of t r s other al c in
    let n : places_of other.t - other.s ≡ places_of t - s = ap₂ (λ (t s : ℕ). places_of t - s) c.is_t c.is_s in
    let h' : Word (places_of other.t - other.s) x = rw n h in
    let k' : Word (places_of other.t - other.s) y = rw n k in
    let w = (code_in other f).groups.closed x y (word_in other f h') (word_in other f k') in
    ap (λ (i : ℕ). take i (combine_output other x y o)) (sym n)
    ∙ ap (take (places_of other.t - other.s)) (combine-accepts other x y o f h' k' (rw n l)).1
    ∙ (front (places_of other.t - other.s) (combine_in other x y) o (w.places ∙ ap (λ (n : ℕ). n - other.s) (length-code other.t other.r f.fit.admitted))).0
    ∙ ap₂ (λ (t r : ℕ). shortened_combine (moduli_for t r) other.s x y) c.is_t c.is_r
    ∙ ap (λ (s : ℕ). shortened_combine (moduli_for t r) s x y) c.is_s

module _ (rec : Record) (x y out : List ℕ) (f : Usable rec) (h : Word (places_in rec) x) (k : Word (places_in rec) y) (l : places_in rec ≤ length out) where
  laws : ShortenedGroupOf (moduli_in rec) rec.s
  laws = (code_in rec f).groups

  combined-word : Word (places_in rec) (combine_in rec x y)
  unfolding places_in combine_in
  combined-word =
      subst (λ (n : ℕ). Word (n - rec.s) (combine_in rec x y)) (length-code rec.t rec.r f.fit.admitted)
      (laws.closed x y (word_in rec f h) (word_in rec f k))

  added : fill rec.s (combine_in rec x y) ≡ words.combine (slots (moduli_in rec)) (fill rec.s x) (fill rec.s y)
  unfolding combine_in
  added = (code_in rec f).commutes.combines x y

  -- codewords are closed
  combined-codeword : CodewordIn rec x → CodewordIn rec y → CodewordIn rec (combine_in rec x y)
  unfolding combine_in
  combined-codeword a b = laws.sums x y a b

  either_order : (other : Record) → RecordOf rec.t rec.r rec.s other → (o : List ℕ) → places_in rec ≤ length o
      → take (places_in rec) (combine_output other y x o) ≡ combine_in rec x y
  unfolding places_in combine_in
  either_order other c o m = combined-front rec.t rec.r rec.s other f.allowed c y x o k h m ∙ laws.commutes y x

  pub combines : Combines rec x y out
  unfolding places_in
  combines =
      let a = combine-accepts rec x y out f h k l in
      let p = front (places_in rec) (combine_in rec x y) out combined-word.places in
      let e = ap (take (places_in rec)) a.1 ∙ p.0 in
      record {
        accepted = a.0;
        word = rw e combined-word;
        adds = ap (fill rec.s) e ∙ added;
        either = λ other c o m. either_order other c o m ∙ sym e;
        codeword = λ c d. rw e (combined-codeword c d);
        further = ap (drop (places_in rec)) a.1 ∙ p.1;
      }

-- ---- the inverse
module _ (rec : Record) (w out : List ℕ) (f : Usable rec) (h : Word (places_in rec) w) (l : places_in rec ≤ length out) where
  -- the inverse is a word, and makes the zero word with w
  inverse-word : Word (places_in rec) (inverse_in rec w) × (combine_in rec w (inverse_in rec w) ≡ zero_word (places_in rec))
  unfolding places_in inverse_in combine_in
  inverse-word =
      let n = length-code rec.t rec.r f.fit.admitted in
      let i = (code_in rec f).groups.inverts w (word_in rec f h) in
      (subst (λ (k : ℕ). Word (k - rec.s) (inverse_in rec w)) n i.0, i.1 ∙ ap (λ (k : ℕ). zero_word (k - rec.s)) n)

  written : invert_output rec w out ≡ inverse_in rec w ++ drop (places_in rec) out
  written = (invert-accepts rec w out f h l).1

  parts : (take (places_in rec) (invert_output rec w out) ≡ inverse_in rec w) × (drop (places_in rec) (invert_output rec w out) ≡ drop (places_in rec) out)
  parts =
      let p = front (places_in rec) (inverse_in rec w) out inverse-word.0.places in
      (ap (take (places_in rec)) written ∙ p.0, ap (drop (places_in rec)) written ∙ p.1)

  makes-zero : (other : Record) → RecordOf rec.t rec.r rec.s other → (o : List ℕ) → places_in rec ≤ length o
      → take (places_in rec) (combine_output other w (take (places_in rec) (invert_output rec w out)) o) ≡ zero_word (places_in rec)
  unfolding places_in combine_in
  makes-zero other c o m =
      ap (λ (v : List ℕ). take (places_in rec) (combine_output other w v o)) parts.0
      ∙ combined-front rec.t rec.r rec.s other f.allowed c w (inverse_in rec w) o h inverse-word.0 m ∙ inverse-word.1

  swapped : fill rec.s (inverse_in rec w) ≡ words.inverse (slots (moduli_in rec)) (fill rec.s w)
  unfolding inverse_in
  swapped = (code_in rec f).commutes.inverts w

  pub inverts : Inverts rec w out
  unfolding places_in
  inverts =
      record {
        accepted = (invert-accepts rec w out f h l).0;
        word = rw parts.0 inverse-word.0;
        swaps = ap (fill rec.s) parts.0 ∙ swapped;
        makes_zero = makes-zero;
        further = parts.1;
      }

-- ---- the third place
module _ (rec : Record) (i j : ℕ) (f : Usable rec) (a : 0 < i) (b : i ≤ places_in rec) (c : 0 < j) (d : j ≤ places_in rec) (n : i ≢ j) where
  third : ShortenedThirdOf (moduli_in rec) rec.s i j
  unfolding places_in
  third = (code_in rec f).thirds i j a b c d n

  abbrev Left : Type 0
  Left = ThirdFallsOut rec i j

  -- where the place is not left out it is told, and makes a codeword
  told : (Left → ⊥) → third_answer rec i j ≡ record { refusal = 0; place = third_in rec i j }
  told q = third-accepts rec i j f a b c d n q

  makes : (Left → ⊥) → ThreeIn rec i j (third_in rec i j)
  unfolding third_in third_old_place_in
  makes q = third.makes q

  only : (k : ℕ) → ThreeIn rec i j k → (Left → ⊥) × (k ≡ third_in rec i j)
  unfolding third_in third_old_place_in
  only k x = third.only k x

  -- where it is left out, 11
  refused : Left → third_answer rec i j ≡ record { refusal = 11; place = 0 }
  refused q = third-left rec i j f a b c d n q

  number_is : {x k : ℕ} → third_answer rec i j ≡ record { refusal = x; place = k } → (third_answer rec i j).refusal ≡ x
  number_is e = ap (λ (y : Answer). y.refusal) e

  pub thirds : Thirds rec i j
  thirds = go (is_left_out rec.s (third_old_place_in rec i j)) refl
    where
      go : (x : Bool) → is_left_out rec.s (third_old_place_in rec i j) ≡ x → Thirds rec i j
      go true y =
          let q = left-true rec.s (third_old_place_in rec i j) y in
          record {
            some = λ k. ((λ e. let z : ◌≡◌ {A = ℕ} 11 0 = sym (number_is (refused q)) ∙ number_is e in absurd (omega arith)), λ x. absurd ((only k x).0 q));
            none = ((λ e k x. (only k x).0 q), λ h. number_is (refused q));
            one = λ z. absurd (none_left _ (subst (λ (s : ℕ). LeftOut s (third_old_place_in rec i j)) z q));
          }
      go false y =
          let q = left_false rec.s (third_old_place_in rec i j) y in
          record {
            some = λ k. (
              (λ e. subst (ThreeIn rec i j) (sym (ap (λ (y : Answer). y.place) (told q)) ∙ ap (λ (y : Answer). y.place) e) (makes q)),
              λ x. told q ∙ ap (λ (p : ℕ). record { refusal = 0; place = p }) (sym (only k x).1),
            );
            none = ((λ e. let z : ◌≡◌ {A = ℕ} 0 11 = sym (number_is (told q)) ∙ e in absurd (omega arith)), λ h. absurd (h (third_in rec i j) (makes q)));
            one = λ z. subst (ThreeIn rec i j) (sym (ap (λ (y : Answer). y.place) (told q))) (makes q);
          }
