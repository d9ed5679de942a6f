-- The theorem on extended words gathered, for admitted t and r and allowed s: `extended-code`. Its statement is in specs/Claims. Assumes nothing.
use mathlib.Core.Path.{◌≡◌, sym, ap, subst, ◌∙◌}
use mathlib.Core.List.{List}
use Prim.Native.Nat.{ℕ, suc, ◌-◌, ◌≤◌}
use native.Mathlib.Omega.{arith}
use lib.ListN.{take}
use lib.Seq.{take-append-le, take-take}
use Rattle.group_theory.specs.Group.{Modulus}
use Rattle.layout_theory.specs.Parameters.{Admitted, message_of, moduli_for}
use Rattle.words_theory.specs.Words.{Word}
use Rattle.words_theory.specs.Syndrome.{length_of}
use Rattle.words_theory.proofs.Theorem.{length-code, length-message-code}
use Rattle.shortened_theory.specs.Allowed.{Allowed}
use Rattle.shortened_theory.specs.Code.{ShortenedCodeword, shortened_encode}
use Rattle.shortened_theory.specs.Claims.{ShortenedOf}
use Rattle.shortened_theory.proofs.Filling.{fill-word}
use Rattle.shortened_theory.proofs.Theorem as plain
use Rattle.extended_theory.specs.Code.{ExtendedCodeword, extend, extended_encode}
use Rattle.extended_theory.specs.Claims.{ExtendedOf, ExtendedCodes}
use Rattle.extended_theory.proofs.Extending.{last-place, extend-word, extend-front, extend-even}
use Rattle.extended_theory.proofs.Nearest.{nearest, apart}

module _ (t r s : ℕ) (ok : Admitted t r) (al : Allowed t r s) where
  abbrev ms : List Modulus
  ms = moduli_for t r

  code : ShortenedOf t r s
  code = plain.shortened-code t r s ok al

  few : s ≤ length_of ms
  few = plain.fits t r s ok al

  -- ---- encoding
  module _ (m : List ℕ) (h : Word (message_of t - s) m) where
    abbrev c : List ℕ
    c = shortened_encode ms s m

    word : Word (length_of ms - s) c
    word = fill-word (length_of ms) s (code.encodes m h).codeword.is_word

    encodes : ExtendedCodeword ms s (extended_encode ms s m)
    unfolding extended_encode
    encodes =
        record {
          is_word = extend-word (length_of ms - s) c word;
          front = subst (ShortenedCodeword ms s) (sym (extend-front (length_of ms - s) c word)) (code.encodes m h).codeword;
          even = extend-even (length_of ms - s) c word;
        }

    -- a message is shorter than a word
    begins : take (message_of t - s) (extended_encode ms s m) ≡ m
    unfolding extended_encode
    begins =
        let n = length-code t r ok in
        let l = word.places in
        take-append-le (message_of t - s) c _ (omega arith)
        ∙ ap (λ (k : ℕ). take (k - s) c) (sym (length-message-code t r ok)) ∙ (code.encodes m h).begins

  encoded : (c : List ℕ) → ExtendedCodeword ms s c → Word (message_of t - s) (take (message_of t - s) c) × (c ≡ extended_encode ms s (take (message_of t - s) c))
  unfolding extended_encode
  encoded c x =
      let n = length-code t r ok in
      let v = take (length_of ms - s) c in
      let e = code.encoded v x.front in
      let z : take (message_of t - s) v ≡ take (message_of t - s) c = take-take (message_of t - s) (length_of ms - s) c (omega arith) in (
        subst (Word (message_of t - s)) z e.0,
        last-place (length_of ms - s) c x.is_word x.even ∙ ap extend (e.1 ∙ ap (shortened_encode ms s) z),
      )

  gathered : ExtendedOf t r s
  gathered =
      record {
        nearest = λ w h. nearest ms s few w (subst (λ (n : ℕ). Word (suc (n - s)) w) (sym (length-code t r ok)) h);
        encodes = encodes;
        begins = begins;
        encoded = encoded;
        apart = apart ms s few;
      }

pub extended-code : ExtendedCodes
extended-code t r s ok al = gathered t r s ok al
