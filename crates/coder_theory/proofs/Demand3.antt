-- Demand 3, one theorem on the calls: `demand3`. Its statement is in specs/Demand3. It is the sister for shortened codes at s = 0, where every
-- word has a codeword within one place. Assumes nothing.
use mathlib.Core.Path.{◌≡◌, refl, sym, ap, subst, ◌∙◌}
use mathlib.Core.List.{List}
use Prim.Native.Nat.{ℕ, ◌-◌, ◌≤◌}
use native.Mathlib.Omega.{arith}
use lib.ListN.{take}
use Rattle.group_theory.specs.Group.{Modulus}
use Rattle.layout_theory.specs.Parameters.{Admitted, places_of, message_of, moduli_for}
use Rattle.layout_theory.specs.Layout.{slots}
use Rattle.words_theory.specs.Words.{Word, byte_at}
use Rattle.words_theory.specs.Halves.{is_paired}
use Rattle.words_theory.specs.Halves as halves
use Rattle.words_theory.specs.Coding.{corrected}
use Rattle.words_theory.specs.Claims.{PerfectAt}
use Rattle.words_theory.proofs.Theorem.{code}
use Rattle.shortened_theory.specs.Code.{old_place, shortened_other_half}
use Rattle.shortened_theory.proofs.Between.{zero-allowed}
use Rattle.shortened_theory.proofs.Whole.{old-zero, new-zero, other-zero}
use Rattle.coder_theory.specs.Demand3.{OwnRecord, AcceptsMessage, encoded_by, MovedBy, AtWord, Demand3, AnyRecord, OpenedOwn}
use Rattle.coder_theory.specs.Demand3Shortened.{MovedShortened, OfNear, AtShortenedWord}
use Rattle.coder_theory.proofs.Demand3Shortened.{demand3-shortened, opened-shortened}

module _ (t r : ℕ) (ok : Admitted t r) where
  abbrev ms : List Modulus
  ms = moduli_for t r

  -- n places are n − 0
  whole : {n : ℕ} {w : List ℕ} → Word n w → Word (n - 0) w
  whole {n} {w} h = subst (λ (k : ℕ). Word k w) (sym (new-zero n)) h

  within-zero : {p n : ℕ} → p ≤ n → p ≤ n - 0
  within-zero h = omega arith

  moved-zero : {d : List ℕ} {p q : ℕ} → MovedShortened t r 0 d p q → MovedBy t r d p q
  moved-zero {d} {p} {q} m =
      record {
        alone = λ e. m.alone (paired ∙ e);
        agree = λ e b. m.agree (paired ∙ e) (b ∙ sym (ap (byte_at d) half));
        differ = λ e n.
            let x = m.differ (paired ∙ e) (λ b. n (b ∙ ap (byte_at d) half)) in
            (x.0 ∙ half, x.1);
      }
    where
      paired : is_paired (slots ms) (old_place 0 p) ≡ is_paired (slots ms) p
      paired = ap (is_paired (slots ms)) (old-zero p)

      half : shortened_other_half ms 0 p ≡ halves.other_half (slots ms) p
      half = other-zero ms p

  module _ (w : List ℕ) (h : Word (places_of t) w) where
    perfect : PerfectAt ms w
    perfect = (code t r ok).perfect w h

    abbrev c : List ℕ
    c = corrected ms w

    sister : AtShortenedWord t r 0 w
    sister = demand3-shortened t r 0 ok (zero-allowed t r ok) w (whole h)

    of : OfNear t r 0 w c
    of = sister.some c (record { codeword = perfect.codeword; near = perfect.near })

    again : (o : OwnRecord t r 0) → AcceptsMessage o (take (message_of t) c) × (encoded_by o (take (message_of t) c) ≡ c)
    again o = subst (λ (n : ℕ). AcceptsMessage o (take n c) × (encoded_by o (take n c) ≡ c)) (new-zero (message_of t)) (of.encodes o)

    at-word : AtWord t r w
    at-word =
        record {
          c = c;
          codeword = perfect.codeword;
          is_word = subst (λ (n : ℕ). Word n c) (new-zero (places_of t)) of.is_word;
          near = perfect.near;
          only = perfect.only;
          p = of.p;
          within = let l = of.within in omega arith;
          flipped = of.flipped;
          equal = of.equal;
          corrects = of.corrects;
          encodes = again;
          choices = λ m m' k k' i j l l' o o'. sister.choices m m' (whole k) (whole k') i j (within-zero l) (within-zero l') o o';
          carries = λ d q o₁ o₂ o₃ n.
              let x = of.carries d q o₁ o₂ o₃ n in
              (x.0, x.1, x.2, x.3, moved-zero x.4);
        }

pub demand3 : Demand3
demand3 t r ok w h = at-word t r ok w h

pub any-record : AnyRecord
any-record rec h e = record { is_t = refl; is_r = refl; is_s = refl; fit = record { admitted = h; sums = e } }

pub opened-own : OpenedOwn
opened-own t r h out l = opened-shortened t r 0 h (zero-allowed t r h) out (omega arith)
