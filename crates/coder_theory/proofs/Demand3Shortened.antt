-- Request C-17 of demand 3, one theorem on the calls: `demand3-shortened`. Its statement is in specs/Demand3Shortened. Assumes nothing.
use mathlib.Core.Path.{◌≡◌, refl, sym, ap, subst, ◌∙◌}
use mathlib.Core.Logic.{◌≢◌, ◌↔◌}
use mathlib.Core.Bool.{Bool, true, false}
use mathlib.Core.List.{List}
use Prim.Native.Nat.{ℕ, zero, suc, ◌+◌, ◌-◌, ◌≤◌}
use native.Mathlib.Omega.{arith}
use native.Mathlib.Decide.{ℕ_discrete}
use lib.ListN.{get_or, take, length-replicate}
use lib.Seq.{get_or-append-add}
use Rattle.group_theory.specs.Group.{Modulus}
use Rattle.layout_theory.specs.Parameters.{Admitted, places_of, message_of, moduli_for}
use Rattle.layout_theory.specs.Layout.{slots}
use Rattle.words_theory.specs.Words.{Word, byte_at, zero_word, flip}
use Rattle.words_theory.specs.Syndrome.{length_of}
use Rattle.words_theory.specs.Halves as halves
use Rattle.words_theory.specs.Claims.{message_length_of}
use Rattle.words_theory.proofs.Reading.{word-reads, reads_word}
use Rattle.words_theory.proofs.Flips.{flip_twice}
use Rattle.words_theory.proofs.Perfect.{flip-place-reads}
use Rattle.words_theory.proofs.Theorem.{length-code}
use Rattle.shortened_theory.specs.Allowed.{Allowed}
use Rattle.shortened_theory.specs.Code.{fill, old_place, new_place, LeftOut, is_left_out, ShortenedCodeword, shortened_encode, shortened_combine, corrected_old_place, shortened_corrected, shortened_corrected_place, shortened_other_half, shortened_moved}
use Rattle.shortened_theory.specs.Claims.{NearestTo, ShortenedOf}
use Rattle.shortened_theory.proofs.Filling.{fill-injective, fill-word, flip-fill, new-old, old-new, old-within}
use Rattle.shortened_theory.proofs.Cutting.{other-right}
use Rattle.shortened_theory.proofs.Between.{allowed-between}
use Rattle.shortened_theory.proofs.Theorem as codes
use Rattle.coder_theory.specs.State.{fresh, full_count}
use Rattle.coder_theory.specs.Calls.{correct_answer, correct_output}
use Rattle.coder_theory.specs.Demand3.{OwnRecord, NotFull, AcceptsMessage, encoded_by, AcceptsTwo, combined_by, AcceptsWord, corrected_by, place_by, MovedBy}
use Rattle.coder_theory.specs.Demand3Shortened.{Near, HasNear, MovedShortened, OfNear, AtShortenedWord, Demand3Shortened, OpenedShortened}
use Rattle.coder_theory.specs.declared.Corrected.{Corrected}
use Rattle.coder_theory.proofs.Corrections.{left-true, left_false}
use Rattle.coder_theory.proofs.Refusals.{correct-untouched, opens, fresh-fit}
use Rattle.coder_theory.proofs.Moves as moves
use Rattle.coder_theory.proofs.Does.{encode-does, combine-does, correct-does, left-does, full-does}

-- the byte of a place is that of the place that it was
byte-fill : (s : ℕ) (d : List ℕ) (p : ℕ) → byte_at (fill s d) (old_place s p) ≡ byte_at d p
byte-fill s d zero = refl
byte-fill s d (suc i) =
    let e : suc i + s ≡ suc (s + i) = omega arith in
    ap (byte_at (fill s d)) e
    ∙ ap (λ (k : ℕ). get_or (fill s d) (k + i) 0) (sym (length-replicate s 0)) ∙ get_or-append-add (zero_word s) d i 0

module _ (t r s : ℕ) (ok : Admitted t r) (al : Allowed t r s) where
  abbrev ms : List Modulus
  ms = moduli_for t r

  theorems : ShortenedOf t r s
  theorems = codes.shortened-code t r s ok al

  few : s ≤ length_of ms
  few = codes.fits t r s ok al

  -- ---- words of n − s places
  word_of : {x : List ℕ} → Word (length_of ms - s) x → Word (places_of t - s) x
  word_of {x} h = subst (λ (n : ℕ). Word (n - s) x) (length-code t r ok) h

  is_word : {x : List ℕ} → ShortenedCodeword ms s x → Word (places_of t - s) x
  is_word h = word_of (fill-word (length_of ms) s h.is_word)

  combine-word : {x y : List ℕ} → Word (places_of t - s) x → Word (places_of t - s) y → Word (places_of t - s) (shortened_combine ms s x y)
  combine-word {x} {y} h k = word_of (theorems.groups.closed x y (codes.word-shortened t r s ok al h) (codes.word-shortened t r s ok al k))

  bound : {p : ℕ} → p ≤ length_of ms - s → p ≤ places_of t - s
  bound {p} h = subst (λ (n : ℕ). p ≤ n - s) (length-code t r ok) h

  bound-back : {p : ℕ} → p ≤ places_of t - s → p ≤ length_of ms - s
  bound-back {p} h = subst (λ (n : ℕ). p ≤ n - s) (sym (length-code t r ok)) h

  -- ---- a place moved by a codeword
  half-kept : (p : ℕ) → LeftOut s (halves.other_half (slots ms) (old_place s p)) → ⊥
  half-kept zero h = omega (arith, h.0)
  half-kept (suc i) h =
      let e : suc i + s ≡ suc (s + i) = omega arith in
      let k = other-right ms s ((allowed-between t r s ok).0 al) (s + i) (omega arith) in
      let l : LeftOut s (suc (halves.other_at (slots ms) (s + i))) = subst (λ (q : ℕ). LeftOut s (halves.other_half (slots ms) q)) e h in
      omega (arith, l.1)

  half-old : (p : ℕ) → old_place s (shortened_other_half ms s p) ≡ halves.other_half (slots ms) (old_place s p)
  half-old p = old-new s (halves.other_half (slots ms) (old_place s p)) (half-kept p)

  moved_by : (d : List ℕ) (p : ℕ) → p ≤ places_of t - s → MovedShortened t r s d p (shortened_moved ms s d p)
  moved_by d p h =
      record {
        alone = λ e. ap (new_place s) (whole.alone e) ∙ new-old s p;
        agree = λ e b. ap (new_place s) (whole.agree e (byte-fill s d p ∙ b ∙ sym other)) ∙ new-old s p;
        differ = λ e n.
            let w = whole.differ e (λ x. n (sym (byte-fill s d p) ∙ x ∙ other)) in
            let q = ap (new_place s) w.0 in
            (q, λ z. w.1 (w.0 ∙ sym (half-old p) ∙ ap (old_place s) (sym q ∙ z)));
      }
    where
      inside : old_place s p ≤ places_of t
      inside = let st = al.stays in old-within (places_of t) s p (omega arith) h

      whole : MovedBy t r (fill s d) (old_place s p) (halves.moved (slots ms) (fill s d) (old_place s p))
      whole = moves.moved_by t r ok (fill s d) (old_place s p) inside

      other : byte_at (fill s d) (halves.other_half (slots ms) (old_place s p)) ≡ byte_at d (shortened_other_half ms s p)
      other = ap (byte_at (fill s d)) (sym (half-old p)) ∙ byte-fill s d (shortened_other_half ms s p)

  -- ---- two choices of message and place
  flip-back : (x : List ℕ) (q : ℕ) → ShortenedCodeword ms s x → flip q (flip q x) ≡ x
  flip-back x q h =
      fill-injective s (flip q (flip q x)) x
      (flip-fill s q (flip q x) ∙ ap (flip (old_place s q)) (flip-fill s q x) ∙ flip_twice (word-reads ms h.is_word) (old_place s q))

  flipped_word : (x : List ℕ) (q : ℕ) → ShortenedCodeword ms s x → Word (places_of t - s) (flip q x)
  flipped_word x q h =
      word_of (fill-word (length_of ms) s (subst (Word (length_of ms)) (sym (flip-fill s q x)) (reads_word ms (flip-place-reads ms (word-reads ms h.is_word) (old_place s q)))))

  module _ (m m' : List ℕ) (h : Word (message_of t - s) m) (h' : Word (message_of t - s) m') (i j : ℕ) (k : i ≤ places_of t - s) (k' : j ≤ places_of t - s) where
    abbrev received : List ℕ
    received = flip i (shortened_encode ms s m)

    place_is : (x : List ℕ) (q : ℕ) → ShortenedCodeword ms s x → q ≤ places_of t - s → flip q x ≡ received → q ≡ shortened_corrected_place ms s received
    place_is x q c l e =
        ((theorems.nearest received (subst (Word (places_of t - s)) e (flipped_word x q c))).place q (bound-back l)
        (subst (ShortenedCodeword ms s) (sym (flip-back x q c) ∙ ap (flip q) e) c)).1

    one_choice : flip i (shortened_encode ms s m) ≡ flip j (shortened_encode ms s m') → (m ≡ m') × (i ≡ j)
    one_choice e =
        let a = theorems.encodes m h in
        let b = theorems.encodes m' h' in
        let p : i ≡ j = place_is (shortened_encode ms s m) i a.codeword k refl ∙ sym (place_is (shortened_encode ms s m') j b.codeword k' (sym e)) in
        let x : shortened_encode ms s m ≡ shortened_encode ms s m' =
        sym (flip-back (shortened_encode ms s m) i a.codeword) ∙ ap (flip i) e ∙ ap (λ (q : ℕ). flip q (flip j (shortened_encode ms s m'))) p ∙ flip-back (shortened_encode ms s m') j b.codeword in
        (sym a.begins ∙ ap (take (message_length_of ms - s)) x ∙ b.begins, p)

  -- ---- one word
  module _ (w : List ℕ) (h : Word (places_of t - s) w) where
    nearest : NearestTo ms s w
    nearest = theorems.nearest w h

    abbrev Left : Type 0
    Left = LeftOut s (corrected_old_place ms s w)

    left? : Dec Left
    left? = go (is_left_out s (corrected_old_place ms s w)) refl
      where
        go : (b : Bool) → is_left_out s (corrected_old_place ms s w) ≡ b → Dec Left
        go true y = yes (left-true s (corrected_old_place ms s w) y)
        go false y = no (left_false s (corrected_old_place ms s w) y)

    -- there is a codeword within one place exactly where the place is not left out
    near-kept : HasNear t r s w → Left → ⊥
    near-kept c x = nearest.none x c.0 c.1.codeword c.1.near

    kept_near : (Left → ⊥) → HasNear t r s w
    kept_near k = (shortened_corrected ms s w, record { codeword = nearest.codeword k; near = nearest.near k })

    module _ (c : List ℕ) (n : Near t r s w c) where
      kept : Left → ⊥
      kept = near-kept (c, n)

      is : c ≡ shortened_corrected ms s w
      is = nearest.only c n.codeword n.near

      abbrev p : ℕ
      p = shortened_corrected_place ms s w

      flipped : c ≡ flip p w
      flipped = is ∙ nearest.flipped kept

      equal-zero : c ≡ w → p ≡ 0
      equal-zero e = sym (nearest.place 0 (omega arith) (subst (ShortenedCodeword ms s) e n.codeword)).1

      again : (o : OwnRecord t r s) → AcceptsMessage o (take (message_of t - s) c) × (encoded_by o (take (message_of t - s) c) ≡ c)
      again o =
          let q = theorems.encoded c n.codeword in
          let a = encode-does al o (take (message_of t - s) c) q.0 (subst (Word (places_of t - s)) q.1 (is_word n.codeword)) in
          (a.0, a.1 ∙ sym q.1)

      along : (d : List ℕ) → ShortenedCodeword ms s d → (o₁ o₂ o₃ : OwnRecord t r s) → NotFull o₂
          → let x = combined_by o₁ d w in
          AcceptsTwo o₁ d w × AcceptsWord o₂ x × AcceptsTwo o₃ d c × (corrected_by o₂ x ≡ combined_by o₃ d c) × MovedShortened t r s d p (place_by o₂ x)
      along d q o₁ o₂ o₃ f =
          let y = shortened_combine ms s d w in
          let k = combine-word (is_word q) h in
          let v = theorems.carries d w q h in
          let l : LeftOut s (corrected_old_place ms s y) → ⊥ = λ x. kept (v.both.0 x) in
          let a = combine-does al o₁ d w (is_word q) h in
          let b = correct-does al o₂ y f l k (is_word ((theorems.nearest y k).codeword l)) in
          let u = combine-does al o₃ d c (is_word q) (is_word n.codeword) in (
            a.0,
            subst (AcceptsWord o₂) (sym a.1) b.0,
            u.0,
            ap (corrected_by o₂) a.1 ∙ b.1 ∙ v.corrects kept ∙ ap (shortened_combine ms s d) (sym is) ∙ sym u.1,
            subst (MovedShortened t r s d p) (sym (ap (place_by o₂) a.1 ∙ b.2 ∙ v.place kept)) (moved_by d p (bound nearest.within)),
          )

      of-near : OfNear t r s w c
      of-near =
          record {
            is_word = is_word n.codeword;
            p = p;
            within = bound nearest.within;
            flipped = flipped;
            equal = ((λ e. flipped ∙ ap (λ (q : ℕ). flip q w) e), equal-zero);
            corrects = λ o f.
                let a = correct-does al o w f kept h (is_word (nearest.codeword kept)) in
                (a.0, a.1 ∙ sym is, a.2);
            encodes = again;
            carries = along;
          }

    -- ---- 11 exactly where there is none
    left-told : (o : OwnRecord t r s) → (HasNear t r s w → ⊥) → correct_answer o.given w o.output ≡ record { refusal = 11; place = 0; «record» = o.given }
    left-told o n = go left?
      where
        go : Dec Left → correct_answer o.given w o.output ≡ record { refusal = 11; place = 0; «record» = o.given }
        go (yes x) = left-does al o w x h
        go (no x) = absurd (n (kept_near x))

    met : (o : OwnRecord t r s) → (correct_answer o.given w o.output).refusal ≢ 11 → HasNear t r s w
    met o n = go left?
      where
        go : Dec Left → HasNear t r s w
        go (yes x) = absurd (n (ap (λ (y : Corrected). y.refusal) (left-does al o w x h)))
        go (no x) = kept_near x

    not-told : (o : OwnRecord t r s) → HasNear t r s w → (correct_answer o.given w o.output).refusal ≢ 11
    not-told o c e = go (ℕ_discrete o.given.words full_count)
      where
        k : Left → ⊥
        k = near-kept c

        go : Dec (o.given.words ≡ full_count) → ⊥
        go (yes f) =
            let z : ◌≡◌ {A = ℕ} 23 11 = sym (ap (λ (x : Corrected). x.refusal) (full-does al o w f k h)) ∙ e in
            omega arith
        go (no f) =
            let z : ◌≡◌ {A = ℕ} 0 11 = sym (correct-does al o w f k h (is_word (nearest.codeword k))).0 ∙ e in
            omega arith

    kept-bytes : (o : OwnRecord t r s) → (HasNear t r s w → ⊥) → correct_output o.given w o.output ≡ o.output
    kept-bytes o n =
        (correct-untouched o.given w o.output
        (λ z. let y : ◌≡◌ {A = ℕ} 11 0 = sym (ap (λ (x : Corrected). x.refusal) (left-told o n)) ∙ z in omega arith)).0

  -- ---- combining: w has one exactly where d combined with w has
  both_ways : (d w : List ℕ) → ShortenedCodeword ms s d → Word (places_of t - s) w → (o : OwnRecord t r s) → HasNear t r s (combined_by o d w) ↔ HasNear t r s w
  both_ways d w q h o =
      let v = theorems.carries d w q h in
      let y = shortened_combine ms s d w in
      let k = combine-word (is_word q) h in
      let e = (combine-does al o d w (is_word q) h).1 in (
        (λ c. kept_near w h (λ x. near-kept y k (subst (HasNear t r s) e c) (v.both.1 x))),
        λ c. subst (HasNear t r s) (sym e) (kept_near y k (λ x. near-kept w h c (v.both.0 x))),
      )

  at-word : (w : List ℕ) → Word (places_of t - s) w → AtShortenedWord t r s w
  at-word w h =
      record {
        only = λ c c' a b. is w h c a ∙ sym (is w h c' b);
        some = of-near w h;
        none = λ o. ((λ e c. not-told w h o c e), λ n. ap (λ (x : Corrected). x.refusal) (left-told w h o n));
        untouched = λ o n. (left-told w h o n, kept-bytes w h o n);
        met = met w h;
        choices = λ m m' k k' i j l l' o o'.
            let a = encode-does al o m k (is_word (theorems.encodes m k).codeword) in
            let b = encode-does al o' m' k' (is_word (theorems.encodes m' k').codeword) in
            (a.0, b.0, λ e. one_choice m m' k k' i j l l' (ap (flip i) (sym a.1) ∙ e ∙ ap (flip j) b.1));
        both = λ d q o. both_ways d w q h o;
      }

pub demand3-shortened : Demand3Shortened
demand3-shortened t r s ok al w h = at-word t r s ok al w h

pub opened-shortened : OpenedShortened
opened-shortened t r s h k out l = (
  record { given = fresh t r s; code = record { is_t = refl; is_r = refl; is_s = refl; fit = fresh-fit t r s h }; output = out; enough = l },
  opens t r s h k,
  refl,
  (λ z. omega arith),
)
