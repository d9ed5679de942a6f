-- Encoding by the shortened code: the one codeword that begins with the message; every codeword is an encoding. Here s may end anywhere in
-- the message. Assumes nothing.
use mathlib.Core.Path.{◌≡◌, sym, ap, subst, ◌∙◌}
use mathlib.Core.List.{List, ◌++◌, append_assoc}
use Prim.Native.Nat.{ℕ, ◌+◌, ◌-◌, ◌≤◌}
use native.Mathlib.Omega.{arith}
use lib.ListN.{take, drop}
use lib.Seq.{take_at}
use Rattle.group_theory.specs.Group.{Modulus, negative}
use Rattle.layout_theory.specs.Layout.{message}
use Rattle.words_theory.specs.Words.{Word, zero_word}
use Rattle.words_theory.specs.Syndrome.{syndrome_over}
use Rattle.words_theory.specs.Syndrome as syndromes
use Rattle.words_theory.specs.Coding.{check_digits}
use Rattle.words_theory.specs.Coding as coding
use Rattle.words_theory.specs.Claims.{message_length_of}
use Rattle.words_theory.specs.Claims as claims
use Rattle.words_theory.proofs.Encoding as whole
use Rattle.shortened_theory.specs.Code.{fill, ShortenedCodeword, shortened_encode}
use Rattle.shortened_theory.specs.Claims.{ShortenedEncodingOf}
use Rattle.shortened_theory.proofs.Filling.{dropped, refill, take-fill, word-fill, fill-word}

module _ (ms : List Modulus) (s : ℕ) (l : s ≤ message_length_of ms) where
  abbrev n : ℕ
  n = message_length_of ms

  -- the check digits
  check : List ℕ → List ℕ
  check m = check_digits ms (negative ms (syndrome_over ms (message ms) (fill s m)))

  -- what the code encodes of a filled message is filled
  encode-filled : (m : List ℕ) → coding.encode ms (fill s m) ≡ fill s (m ++ check m)
  unfolding coding.encode check
  encode-filled m = append_assoc (zero_word s) m (check m)

  pub fill-encode : (m : List ℕ) → fill s (shortened_encode ms s m) ≡ coding.encode ms (fill s m)
  unfolding shortened_encode
  fill-encode m = refill s (coding.encode ms (fill s m)) (m ++ check m) (encode-filled m)

  encode-is : (m : List ℕ) → shortened_encode ms s m ≡ m ++ check m
  unfolding shortened_encode
  encode-is m = ap (drop s) (encode-filled m) ∙ dropped s (m ++ check m)

  -- the message of a filled codeword
  front : (c : List ℕ) → take n (fill s c) ≡ fill s (take (n - s) c)
  front c = let e : n ≡ s + (n - s) = omega arith in ap (λ (k : ℕ). take k (fill s c)) e ∙ take-fill s (n - s) c

  module _ (m : List ℕ) (h : Word (n - s) m) where
    entire : claims.EncodingOf ms (fill s m)
    entire = whole.encodes ms (fill s m) (word-fill n s l h)

    only : (c : List ℕ) → ShortenedCodeword ms s c → take (n - s) c ≡ m → c ≡ shortened_encode ms s m
    unfolding shortened_encode
    only c k e = sym (dropped s c) ∙ ap (drop s) (entire.only (fill s c) k (front c ∙ ap (fill s) e))

    pub encodes : ShortenedEncodingOf ms s m
    encodes =
        record {
          codeword = subst (syndromes.Codeword ms) (sym (fill-encode m)) entire.codeword;
          begins = ap (take (n - s)) (encode-is m) ∙ take_at m (check m) (n - s) h.places;
          only = only;
        }

  pub shortened-encoded : (c : List ℕ) → ShortenedCodeword ms s c → Word (n - s) (take (n - s) c) × (c ≡ shortened_encode ms s (take (n - s) c))
  unfolding shortened_encode
  shortened-encoded c k =
      let e = whole.encoded ms (fill s c) k in (
        fill-word n s (subst (Word n) (front c) e.0),
        sym (dropped s c) ∙ ap (drop s) (e.1 ∙ ap (coding.encode ms) (front c)),
      )
