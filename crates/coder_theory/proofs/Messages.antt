-- Demand 2 of the calls: encoding writes the one codeword that begins with the message, and reading it shows the message. Assumes nothing.
use mathlib.Core.Path.{◌≡◌, sym, ap, ap₂, ◌∙◌}
use mathlib.Core.List.{List, ◌++◌}
use Prim.Native.Nat.{ℕ, ◌-◌, ◌≤◌}
use native.Mathlib.Omega.{arith}
use lib.ListN.{length, take, drop}
use lib.Seq.{take-append-le}
use Rattle.layout_theory.specs.Parameters.{message_of}
use Rattle.words_theory.specs.Words.{Word}
use Rattle.words_theory.proofs.Theorem.{length-message-code}
use Rattle.shortened_theory.specs.Claims.{ShortenedEncodingOf}
use Rattle.coder_theory.specs.State.{Usable, RecordOf, moduli_in, places_in, message_in, encoded_in}
use Rattle.coder_theory.specs.Demand1.{CodewordIn}
use Rattle.coder_theory.specs.Calls.{encode_output, shown}
use Rattle.coder_theory.specs.Demand2.{Encodes}
use Rattle.coder_theory.specs.declared.Record.{Record}
use Rattle.coder_theory.proofs.States.{usable-of, code_in}
use Rattle.coder_theory.proofs.Accepted.{front, encode-accepts, reading-accepts}
use Rattle.coder_theory.proofs.Codewords.{word_of, zero_of}

module _ (rec : Record) (m out : List ℕ) (f : Usable rec) (h : Word (message_in rec) m) (l : places_in rec ≤ length out) where
  -- what is written begins with the encoding
  encoding : ShortenedEncodingOf (moduli_in rec) rec.s m
  unfolding message_in
  encoding = (code_in rec f).encodes m h

  codeword : CodewordIn rec (encoded_in rec m)
  unfolding encoded_in
  codeword = encoding.codeword

  places : length (encoded_in rec m) ≡ places_in rec
  places = (word_of rec f (encoded_in rec m) codeword).places

  written : encode_output rec m out ≡ encoded_in rec m ++ drop (places_in rec) out
  written = (encode-accepts rec m out f h l).1

  parts : (take (places_in rec) (encode_output rec m out) ≡ encoded_in rec m) × (drop (places_in rec) (encode_output rec m out) ≡ drop (places_in rec) out)
  parts =
      let p = front (places_in rec) (encoded_in rec m) out places in
      (ap (take (places_in rec)) written ∙ p.0, ap (drop (places_in rec)) written ∙ p.1)

  -- a message is shorter than a word, so it is met within what is written
  begins : take (message_in rec) (encoded_in rec m) ≡ m
  unfolding message_in encoded_in
  begins = ap (λ (n : ℕ). take (n - rec.s) (encoded_in rec m)) (sym (length-message-code rec.t rec.r f.fit.admitted)) ∙ encoding.begins

  shorter : message_in rec ≤ length (encoded_in rec m)
  unfolding message_in places_in
  shorter = let p = places in omega arith

  only : (c : List ℕ) → CodewordIn rec c → take (message_in rec) c ≡ m → c ≡ encoded_in rec m
  unfolding message_in encoded_in
  only c k e =
      encoding.only c k (ap (λ (n : ℕ). take (n - rec.s) c) (length-message-code rec.t rec.r f.fit.admitted) ∙ e)

  -- another record of the same code
  shows : (other : Record) → RecordOf rec.t rec.r rec.s other → shown other (encoded_in rec m) ≡ m
  unfolding message_in
  shows other o =
      let g = usable-of rec.t rec.r rec.s other f.allowed o in
      let c : CodewordIn other (encoded_in rec m) = rw (o.is_t, o.is_r, o.is_s) codeword in
      (reading-accepts other (encoded_in rec m) g (word_of other g (encoded_in rec m) c) (zero_of other g (encoded_in rec m) c)).0
      ∙ ap₂ (λ (n k : ℕ). take (message_of n - k) (encoded_in rec m)) o.is_t o.is_s ∙ begins

  pub encodes : Encodes rec m out
  unfolding places_in message_in
  encodes =
      record {
        accepted = (encode-accepts rec m out f h l).0;
        codeword = rw parts.0 codeword;
        begins = ap (take (message_in rec)) written ∙ take-append-le (message_in rec) (encoded_in rec m) (drop (places_in rec) out) shorter ∙ begins;
        only = λ c k e. only c k e ∙ sym parts.0;
        further = parts.1;
        shows = λ other o. ap (shown other) parts.0 ∙ shows other o;
      }
