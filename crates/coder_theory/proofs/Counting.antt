-- Demand 2's counts over a run of calls: `counts`; `meant`: what the counted places say of the words; `often`: a committed 0 counts each time.
-- Assumes nothing.
use mathlib.Core.Path.{◌≡◌, refl, sym, ap, ap₂, subst, ◌∙◌}
use mathlib.Core.Logic.{◌≢◌, ◌↔◌, ◌⊎◌, inl, inr, ⊎_elim}
use mathlib.Core.Bool.{Bool, true, ◌&&◌, true≢false}
use mathlib.Core.List.{List, [], ◌∷◌}
use Prim.Native.Nat.{ℕ, zero, suc, ◌+◌, ◌-◌, ◌<◌, ◌≤◌}
use native.Mathlib.Omega.{arith}
use borrow.Author.Tests.{eq-eqb, ne_eqb}
use lib.Dec.{eqb}
use Rattle.group_theory.specs.Group.{Modulus}
use Rattle.layout_theory.specs.Choice.{one_if}
use Rattle.layout_theory.specs.Parameters.{places_of, message_of, binary_of, moduli_for}
use Rattle.layout_theory.specs.Layout.{slots}
use Rattle.words_theory.specs.Words.{Word, flip}
use Rattle.words_theory.specs.Syndrome.{length_of}
use Rattle.words_theory.specs.Halves.{width}
use Rattle.words_theory.proofs.Theorem.{length-code}
use Rattle.words_theory.proofs.Widths.{width-kinds, binary-parts}
use Rattle.shortened_theory.specs.Code.{old_place, ShortenedCodeword, is_shortened_binary, is_shortened_paired, shortened_corrected_place, LeftOut, corrected_old_place}
use Rattle.shortened_theory.specs.Claims.{NearestTo}
use Rattle.shortened_theory.proofs.Filling.{old-within}
use Rattle.coder_theory.specs.State.{Usable, fresh, moduli_in, places_in, corrected_place_in, corrected_old_place_in, is_binary_in, is_paired_in, full_count, counted, FallsOut}
use Rattle.coder_theory.specs.Calls.{in_force, correct_answer, commit_answer}
use Rattle.coder_theory.specs.Runs.{Call, Correction, correcting, committing, correction, other, read_by, answer_to, run, outcome, outcomes, how_many, Counting, Meant, AllMeant, Meaning, repeated, more_clean, Often}
use Rattle.coder_theory.specs.declared.Record.{Record}
use Rattle.coder_theory.specs.declared.Answer.{Answer}
use Rattle.coder_theory.specs.declared.Corrected.{Corrected}
use Rattle.coder_theory.proofs.Firsts.{not-zero}
use Rattle.coder_theory.proofs.Corrections.{correct-accepted, nearest_in}
use Rattle.coder_theory.proofs.Refusals.{correct-untouched, opened-fresh, opened-usable}
use Rattle.coder_theory.proofs.Asking.{ask-accepts, commit-accepted, commit-accepts, commit-untouched, commit-does}
use Rattle.coder_theory.proofs.Codewords.{word_of}
use Rattle.coder_theory.proofs.Accepts.{asks-only}

-- ---- one correction: an accepted one counts the place that it tells, a refused one leaves the record
pub record Step (rec : Record) (w : List ℕ) (x : Corrected) : Type 0 where
  pub leaves : x.refusal ≢ 0 → x.«record» ≡ rec
  pub counts : x.refusal ≡ 0 → x.«record» ≡ counted rec x.place
  pub ready : x.refusal ≡ 0 → Usable rec × Word (places_in rec) w × (rec.words ≢ full_count) × (FallsOut rec w → ⊥)
  pub place : x.refusal ≡ 0 → x.place ≡ corrected_place_in rec w

pub correct-step : (rec : Record) (w out : List ℕ) → Step rec w (correct_answer rec w out)
unfolding correct_answer
correct-step rec w out =
    record {
      leaves = λ h. (correct-untouched rec w out h).1;
      counts = λ e. rw e;
      ready = λ e. let a = correct-accepted rec w out e in (a.0, a.1, a.3, a.4);
      place = λ e. rw e;
    }

pub commit-step : (rec : Record) (p : ℕ) (w : List ℕ) → Step rec w (commit_answer rec p w)
commit-step rec p w =
    record {
      leaves = λ h. (commit-untouched rec p w h).1;
      counts = λ e. let d = commit-does rec p w e in d.1 ∙ ap (counted rec) (sym d.0);
      ready = λ e. let a = commit-accepted rec p w e in (a.0, a.1, a.2, a.3);
      place = λ e.
          let a = commit-accepted rec p w e in
          (commit-does rec p w e).0 ∙ a.4 ∙ ap (λ (b : Answer). b.place) (ask-accepts rec w a.0 a.1 a.3);
    }

step : (rec : Record) (x : Correction) → Step rec (read_by x) (answer_to rec x)
step rec (correcting w out) = correct-step rec w out
step rec (committing p w) = commit-step rec p w

module _ (rec : Record) (x : Correction) where
  abbrev next : Record
  next = (answer_to rec x).«record»

  left : {n : ℕ} → (answer_to rec x).refusal ≡ suc n → next ≡ rec
  left {n} e = (step rec x).leaves (not-zero e)

  -- a field that no count changes
  same-field : (field : Record → ℕ) → ((p : ℕ) → field (counted rec p) ≡ field rec) → field next ≡ field rec
  same-field field h = go (answer_to rec x).refusal refl
    where
      go : (n : ℕ) → (answer_to rec x).refusal ≡ n → field next ≡ field rec
      go zero e = ap field ((step rec x).counts e) ∙ h (answer_to rec x).place
      go (suc n) e = ap field (left e)

  same-t : next.t ≡ rec.t
  unfolding counted
  same-t = same-field (λ (x : Record). x.t) (λ p. refl)

  same-r : next.r ≡ rec.r
  unfolding counted
  same-r = same-field (λ (x : Record). x.r) (λ p. refl)

  same_s : next.s ≡ rec.s
  unfolding counted
  same_s = same-field (λ (x : Record). x.s) (λ p. refl)

-- ---- a count over a run, for any field that counts the places of a kind
module _ (t r s : ℕ) (field : Record → ℕ) (kind : ℕ → Bool)
    (adds : (rec : Record) (p : ℕ) → rec.t ≡ t → rec.r ≡ r → rec.s ≡ s → field (counted rec p) ≡ field rec + one_if (kind p)) where
  one : (rec : Record) (x : Correction) → rec.t ≡ t → rec.r ≡ r → rec.s ≡ s
      → field (next rec x) ≡ field rec + one_if (eqb (outcome rec x).refusal 0 && kind (outcome rec x).place)
  one rec x a b d = go (answer_to rec x).refusal refl
    where
      go : (n : ℕ) → (answer_to rec x).refusal ≡ n
          → field (next rec x) ≡ field rec + one_if (eqb (answer_to rec x).refusal 0 && kind (answer_to rec x).place)
      go zero e = rw e (ap field ((step rec x).counts e) ∙ adds rec (answer_to rec x).place a b d)
      go (suc n) e = rw (e, ne_eqb (suc n) 0 (λ z. omega arith)) (ap field (left rec x e) ∙ omega arith)

  total : (rec : Record) (xs : List Call) → rec.t ≡ t → rec.r ≡ r → rec.s ≡ s → field (run rec xs) ≡ field rec + how_many kind (outcomes rec xs)
  unfolding run outcomes how_many
  total rec [] a b d = omega arith
  total rec (correction x ∷ xs) a b d =
      let i = total (next rec x) xs (same-t rec x ∙ a) (same-r rec x ∙ b) (same_s rec x ∙ d) in
      let o = one rec x a b d in
      omega arith
  total rec (other x ∷ xs) a b d = total rec xs a b d

  from_zero : field (fresh t r s) ≡ 0 → (xs : List Call) → field (run (fresh t r s) xs) ≡ how_many kind (outcomes (fresh t r s) xs)
  from_zero z xs = let k = total (fresh t r s) xs refl refl refl in omega arith

one_more : (rec : Record) (p : ℕ) → (counted rec p).words ≡ rec.words + 1
unfolding counted
one_more rec p = refl

-- ---- the parameters stay, and words never passes the largest count
unchanged : (field : Record → ℕ) → ((rec : Record) (x : Correction) → field (next rec x) ≡ field rec)
    → (rec : Record) (xs : List Call) → field (run rec xs) ≡ field rec
unfolding run
unchanged field h rec [] = refl
unchanged field h rec (correction x ∷ xs) = unchanged field h (next rec x) xs ∙ h rec x
unchanged field h rec (other x ∷ xs) = unchanged field h rec xs

within : (rec : Record) (xs : List Call) → rec.words ≤ full_count → (run rec xs).words ≤ full_count
unfolding run
within rec [] h = h
within rec (correction x ∷ xs) h = within (next rec x) xs (go (answer_to rec x).refusal refl)
  where
    go : (n : ℕ) → (answer_to rec x).refusal ≡ n → (next rec x).words ≤ full_count
    go zero e =
        let s = ap (λ (x : Record). x.words) ((step rec x).counts e) ∙ one_more rec (answer_to rec x).place in
        let n = ((step rec x).ready e).2 in
        omega arith
    go (suc n) e = rw (left rec x e) h
within rec (other x ∷ xs) h = within rec xs h

-- ---- the record stays usable: an accepted correction counts its place once
one-kind : (ms : List Modulus) (s p : ℕ) → old_place s p ≤ length_of ms → one_if (eqb p 0) + one_if (is_shortened_binary ms s p) + one_if (is_shortened_paired ms s p) ≡ 1
one-kind ms s zero h = refl
one-kind ms s (suc i) h = go (width-kinds ms (suc i + s) (omega arith) h)
  where
    go : (width (slots ms) (suc i + s) ≡ 1) ⊎ (width (slots ms) (suc i + s) ≡ 2)
        → one_if (eqb (suc i) 0) + one_if (is_shortened_binary ms s (suc i)) + one_if (is_shortened_paired ms s (suc i)) ≡ 1
    go (inl k) = rw (ne_eqb (suc i) 0 (λ z. omega arith), k)
    go (inr k) = rw (ne_eqb (suc i) 0 (λ z. omega arith), k)

counted-fit : (rec : Record) (p : ℕ) → Usable rec → old_place rec.s p ≤ length_of (moduli_in rec) → Usable (counted rec p)
unfolding counted is_binary_in is_paired_in
counted-fit rec p f h =
    record {
      fit = record { admitted = f.fit.admitted; sums = let k = one-kind (moduli_in rec) rec.s p h in let s = f.fit.sums in omega arith };
      allowed = f.allowed;
    }

-- ---- a call that counts and is accepted
module _ (rec : Record) (w : List ℕ) (x : Corrected) (c : Step rec w x) (e : x.refusal ≡ 0) where
  nearest : NearestTo (moduli_in rec) rec.s w
  nearest = let a = c.ready e in nearest_in rec w a.0 a.1

  kept : LeftOut rec.s (corrected_old_place (moduli_in rec) rec.s w) → ⊥
  unfolding corrected_old_place_in
  kept = (c.ready e).3

  at : x.place ≡ shortened_corrected_place (moduli_in rec) rec.s w
  unfolding corrected_place_in
  at = c.place e

  old-in : old_place rec.s x.place ≤ length_of (moduli_in rec)
  old-in =
      let f = (c.ready e).0 in
      let n = length-code rec.t rec.r f.fit.admitted in
      let st = f.allowed.stays in
      rw at (old-within (length_of (moduli_in rec)) rec.s (shortened_corrected_place (moduli_in rec) rec.s w) (omega arith) nearest.within)

  -- the place that it tells is of one kind
  pub one_of : one_if (eqb x.place 0) + one_if (is_shortened_binary (moduli_in rec) rec.s x.place) + one_if (is_shortened_paired (moduli_in rec) rec.s x.place) ≡ 1
  one_of = one-kind (moduli_in rec) rec.s x.place old-in

  still-usable : Usable x.«record»
  still-usable = rw (c.counts e) (counted-fit rec x.place (c.ready e).0 old-in)

stays_fit : (rec : Record) (xs : List Call) → Usable rec → Usable (run rec xs)
unfolding run
stays_fit rec [] f = f
stays_fit rec (correction x ∷ xs) f = stays_fit (next rec x) xs (go (answer_to rec x).refusal refl)
  where
    go : (n : ℕ) → (answer_to rec x).refusal ≡ n → Usable (next rec x)
    go zero e = still-usable rec (read_by x) (answer_to rec x) (step rec x) e
    go (suc n) e = rw (left rec x e) f
stays_fit rec (other x ∷ xs) f = stays_fit rec xs f

-- ---- the theorem
pub counts : Counting
unfolding counted is_binary_in is_paired_in
counts t r s e xs =
    let k = in_force t r in
    rw (opened-fresh t r s e)
    (record {
      same_t = unchanged (λ (x : Record). x.t) same-t (fresh t k s) xs;
      same_r = unchanged (λ (x : Record). x.r) same-r (fresh t k s) xs;
      same_s = unchanged (λ (x : Record). x.s) same_s (fresh t k s) xs;
      words = from_zero t k s (λ (x : Record). x.words) (λ p. true) (λ rec p a b d. refl) refl xs;
      clean = from_zero t k s (λ (x : Record). x.clean) (λ p. eqb p 0) (λ rec p a b d. refl) refl xs;
      binary = from_zero t k s (λ (x : Record). x.corrected_binary) (is_shortened_binary (moduli_for t k) s)
          (λ rec p a b d. ap₂ (λ (t r : ℕ). rec.corrected_binary + one_if (is_shortened_binary (moduli_for t r) rec.s p)) a b ∙ ap (λ (s : ℕ). rec.corrected_binary + one_if (is_shortened_binary (moduli_for t k) s p)) d) refl xs;
      pairs = from_zero t k s (λ (x : Record). x.corrected_pairs) (is_shortened_paired (moduli_for t k) s)
          (λ rec p a b d. ap₂ (λ (t r : ℕ). rec.corrected_pairs + one_if (is_shortened_paired (moduli_for t r) rec.s p)) a b ∙ ap (λ (s : ℕ). rec.corrected_pairs + one_if (is_shortened_paired (moduli_for t k) s p)) d) refl xs;
      most = within (fresh t k s) xs (omega arith);
      usable = stays_fit (fresh t k s) xs (subst Usable (opened-fresh t r s e) (opened-usable t r s e));
    })

-- ---- what the places say of the words
module _ (rec : Record) (w : List ℕ) (x : Corrected) (c : Step rec w x) (e : x.refusal ≡ 0) where
  near : NearestTo (moduli_in rec) rec.s w
  near = nearest rec w x c e

  flipped : ShortenedCodeword (moduli_in rec) rec.s (flip x.place w)
  flipped =
      subst (ShortenedCodeword (moduli_in rec) rec.s) (near.flipped (kept rec w x c e) ∙ ap (λ (q : ℕ). flip q w) (sym (at rec w x c e))) (near.codeword (kept rec w x c e))

  kinds : (q : ℕ) → old_place rec.s q ≤ length_of (moduli_in rec)
      → (q ≡ 0) ⊎ (is_shortened_binary (moduli_in rec) rec.s q ≡ true) ⊎ (is_shortened_paired (moduli_in rec) rec.s q ≡ true)
  kinds zero h = inl refl
  kinds (suc i) h = go (width-kinds (moduli_in rec) (suc i + rec.s) (omega arith) h)
    where
      go : (width (slots (moduli_in rec)) (suc i + rec.s) ≡ 1) ⊎ (width (slots (moduli_in rec)) (suc i + rec.s) ≡ 2)
          → (suc i ≡ 0) ⊎ (is_shortened_binary (moduli_in rec) rec.s (suc i) ≡ true) ⊎ (is_shortened_paired (moduli_in rec) rec.s (suc i) ≡ true)
      go (inl k) = inr (inl (eq-eqb _ 1 k))
      go (inr k) = inr (inr (eq-eqb _ 2 k))

  -- a binary place was one of part 1 or part 3; place 0 is none
  parts : (q : ℕ) → old_place rec.s q ≤ length_of (moduli_in rec)
      → (is_shortened_binary (moduli_in rec) rec.s q ≡ true)
      ↔ (((1 ≤ q) × (q + rec.s ≤ places_of rec.r - binary_of rec.t rec.r)) ⊎ ((message_of rec.t < q + rec.s) × (q + rec.s ≤ message_of rec.t + binary_of rec.t rec.r)))
  parts zero h =
      let st = (c.ready e).0.allowed.stays in
      ((λ z. absurd (true≢false (sym z))), ⊎_elim (λ k. absurd (omega (arith, k.0))) (λ k. absurd (omega (arith, k.0))))
  parts (suc i) h =
      let ok = (c.ready e).0.fit.admitted in
      let n = length-code rec.t rec.r ok in
      let b = binary-parts rec.t rec.r ok (suc i + rec.s) (omega arith) (omega arith) in
      ((λ z. ⊎_elim (λ k. inl (omega arith, k)) inr (b.0 z)), λ k. b.1 (⊎_elim (λ k. inl k.1) inr k))

  means : Meant rec.t rec.r rec.s (record { word = w; refusal = x.refusal; place = x.place })
  unfolding places_in
  means =
      record {
        is_word = (c.ready e).1;
        clean = (
          (λ z. subst (λ (q : ℕ). ShortenedCodeword (moduli_in rec) rec.s (flip q w)) z flipped),
          (λ d. at rec w x c e ∙ sym (near.place 0 (omega arith) d).1),
        );
        flipped = flipped;
        kinds = kinds x.place (old-in rec w x c e);
        binary = parts x.place (old-in rec w x c e);
      }

all-meant : (t r s : ℕ) (rec : Record) (xs : List Call) → rec.t ≡ t → rec.r ≡ r → rec.s ≡ s → AllMeant t r s (outcomes rec xs)
unfolding outcomes
all-meant t r s rec [] a b d = tt
all-meant t r s rec (correction x ∷ xs) a b d = (
  (λ e.
      let m = means rec (read_by x) (answer_to rec x) (step rec x) e in
      subst (λ (k : ℕ). Meant k r s (outcome rec x)) a (subst (λ (k : ℕ). Meant rec.t k s (outcome rec x)) b (subst (λ (k : ℕ). Meant rec.t rec.r k (outcome rec x)) d m))),
  all-meant t r s (next rec x) xs (same-t rec x ∙ a) (same-r rec x ∙ b) (same_s rec x ∙ d),
)
all-meant t r s rec (other x ∷ xs) a b d = all-meant t r s rec xs a b d

pub meant : Meaning
meant t r s e xs = rw (opened-fresh t r s e) (all-meant t (in_force t r) s (fresh t (in_force t r) s) xs refl refl refl)

-- ---- a committed 0, again and again: asking gives 0 for a codeword
-- the same with other counts
recounted : (rec : Record) (n m a b c d : ℕ) → n ≡ m → a ≡ b → c ≡ rec.corrected_binary → d ≡ rec.corrected_pairs
    → ◌≡◌ {A = Record}
    (record { t = rec.t; r = rec.r; s = rec.s; words = n; clean = a; corrected_binary = c; corrected_pairs = d })
    (record { t = rec.t; r = rec.r; s = rec.s; words = m; clean = b; corrected_binary = rec.corrected_binary; corrected_pairs = rec.corrected_pairs })
recounted rec n m a b c d e f g h = rw (e, f, g, h)

clean-next : (rec : Record) (k : ℕ) → more_clean k (counted rec 0) ≡ more_clean (suc k) rec
unfolding counted is_binary_in is_paired_in
clean-next rec k = recounted rec _ _ _ _ _ _ (omega arith) (omega arith) (omega arith) (omega arith)

pub often : Often
unfolding run counted places_in
often rec w f d zero h = sym (recounted rec (rec.words + 0) rec.words (rec.clean + 0) rec.clean _ _ (omega arith) (omega arith) refl refl)
often rec w f d (suc k) h =
    let h' = word_of rec f w d in
    let a = asks-only rec w f h' 0 (omega arith) d in
    let c = commit-accepts rec 0 w f h' a.0 a.1 (λ z. absurd (omega arith)) in
    let i = often (counted rec 0) w (counted-fit rec 0 f (omega arith)) d k (omega arith) in
    ap (λ (x : Record). run x (repeated k (correction (committing 0 w)))) (commit-does rec 0 w c).1 ∙ i ∙ clean-next rec k
