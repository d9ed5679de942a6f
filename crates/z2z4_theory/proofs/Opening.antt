-- Each call for C is the coder's call with a record just opened: none of 21, 22, 10, 11 and 23 applies to such a record, so that only the reasons
-- because of the input are left. Assumes nothing.
use mathlib.Core.Path.{◌≡◌, refl, sym, ap, subst, ◌∙◌}
use mathlib.Core.Bool.{Bool, true, false, not, ◌&&◌}
use mathlib.Core.Logic.{◌≢◌}
use mathlib.Core.List.{List, [], ◌∷◌, ◌++◌, append-nil, append_assoc}
use Prim.Native.Nat.{ℕ, zero, suc, ◌<◌, ◌^◌}
use native.Mathlib.Omega.{arith}
use borrow.Author.Tests.{lt-leb}
use lib.Dec.{leb}
use lib.ListN.{length, drop}
use Rattle.layout_theory.specs.Parameters.{Admitted, admits}
use Rattle.layout_theory.specs.Calls.{or_hamming}
use Rattle.layout_theory.proofs.Parameters.{admits-admitted, admitted-given, or-given}
use Rattle.shortened_theory.specs.Code.{is_left_out}
use Rattle.coder_theory.specs.State.{Usable, fresh, places_in, message_in, encoded_in, corrected_in, corrected_place_in, corrected_old_place_in, combine_in, third_in, third_old_place_in}
use Rattle.coder_theory.specs.Reasons.{Reason, first_reason, not_admitted, left_out, full}
use Rattle.coder_theory.specs.Calls.{if_accepted, opened, state_reasons, write_input, combine_input, places_input, correct_reasons, write_reasons, encode_answer, encode_output, correct_answer, correct_output, combine_answer, combine_output, third_answer, places_reasons, third_reasons}
use Rattle.coder_theory.specs.declared.Record.{Record}
use Rattle.coder_theory.specs.declared.Opened.{Opened}
use Rattle.coder_theory.proofs.Firsts.{NoneApplies, first-yes, first-no, first-end, first-before, first_past, first-last, accepted-none}
use Rattle.coder_theory.proofs.States.{usable-true, state-past}
use Rattle.coder_theory.proofs.Refusals.{opens-whole, turned-refused, turned, opened-fresh, opened-usable}
use Rattle.coder_theory.proofs.Bounds.{numbers, open-refusal}
use Rattle.z2z4_theory.specs.Calls.{signed, opened_for_c, code_for, call_reasons, encode_answer_for_c, encode_output_for_c, correct_answer_for_c, correct_output_for_c}
use Rattle.z2z4_theory.specs.Calls.{combine_answer_for_c, combine_output_for_c, third_answer_for_c}
use Rattle.z2z4_theory.specs.Claims.{AsOpened, encode_told, correct_told, combine_told, third_told, EncodesAsOpened, CorrectsAsOpened, CombinesAsOpened, ThirdAsOpened, AsOpenedFor, AsOpenedCalls, ZeroIsT}

-- ---- what a call makes of an opening that answered o, which is p: z, where v is what comes of p
module _ {A : Type 0} {v z : A} {x : ℕ → A} {f : Record → A} {o p : Opened} (a : AsOpened p v x f) (e : o ≡ p) where
  pub by-refusal : o.refusal ≢ 0 → z ≡ x o.refusal → z ≡ v
  by-refusal h y = y ∙ ap (λ (o : Opened). x o.refusal) e ∙ sym (a.refused (λ n. h (ap (λ (o : Opened). o.refusal) e ∙ n)))

  pub by-record : o.refusal ≡ 0 → z ≡ f o.«record» → z ≡ v
  by-record h y = y ∙ ap (λ (o : Opened). f o.«record») e ∙ sym (a.given (sym (ap (λ (o : Opened). o.refusal) e) ∙ h))

-- admitted t and r are opened
pub with-fresh : {A : Type 0} (t r : ℕ) → Admitted t r → {v : A} {x : ℕ → A} {f : Record → A} → AsOpened (opened_for_c t r) v x f → v ≡ f (fresh t r 0)
unfolding opened_for_c
with-fresh t r ok {f = f} a =
    let e = ap (λ (k : ℕ). opened t k 0) (or-given t r (admitted-given t r ok)) ∙ opens-whole t r ok in
    a.given (ap (λ (o : Opened). o.refusal) e) ∙ ap (λ (o : Opened). f o.«record») e

-- opening's refusal can be told as a signed number
pub open_told : (t r : ℕ) {o : Opened} → o ≡ opened_for_c t r → (o.refusal < 2 ^ 31) × (o.refusal ≡ 0 → 0 < 2 ^ 31)
unfolding opened_for_c
open_told t r {o} e =
    let b : o.refusal < numbers = subst (λ (o : Opened). o.refusal < numbers) (sym e) (open-refusal t (or_hamming t r) 0) in
    (omega arith, (λ z. omega arith))

-- ---- the first reason
module _ (t r : ℕ) where
  -- 0 is allowed, so that only 1 is left of opening's reasons
  abbrev one : List Reason
  one = not_admitted t (or_hamming t r) ∷ []

  number-opened : (opened_for_c t r).refusal ≡ (first_reason one).number
  unfolding opened_for_c
  number-opened = go (admits t (or_hamming t r)) refl
    where
      go : (b : Bool) → admits t (or_hamming t r) ≡ b → (opened_for_c t r).refusal ≡ (first_reason one).number
      go true y =
          ap (λ (o : Opened). o.refusal) (opens-whole t (or_hamming t r) (admits-admitted t (or_hamming t r) y))
          ∙ sym (ap (λ (x : Reason). x.number) (first-no (not_admitted t (or_hamming t r)) [] (ap not y) ∙ first-end))
      go false y =
          ap (λ (o : Opened). o.refusal) (turned-refused t r 0 y)
          ∙ sym (ap (λ (x : Reason). x.number) (first-yes (not_admitted t (or_hamming t r)) [] (ap not y)))

  -- and the record is that of the code
  record-opened : (opened_for_c t r).refusal ≡ 0 → (opened_for_c t r).«record» ≡ code_for t r
  unfolding opened_for_c
  record-opened e = opened-fresh t (or_hamming t r) 0 e ∙ ap (λ (k : ℕ). fresh t k 0) (turned t r)

  stopped : (rs : List Reason) → (opened_for_c t r).refusal ≢ 0 → (first_reason (call_reasons t r rs)).number ≡ (opened_for_c t r).refusal
  stopped rs h =
      ap (λ (x : Reason). x.number) (first-before one rs (λ e. h (number-opened ∙ e))) ∙ sym number-opened

  -- neither 21 nor 22 applies to a record just opened
  past : (rs : List Reason) → (opened_for_c t r).refusal ≡ 0 → first_reason (call_reasons t r rs) ≡ first_reason (state_reasons (code_for t r) ++ rs)
  unfolding opened_for_c
  past rs e =
      let f = subst Usable (record-opened e) (opened-usable t (or_hamming t r) 0 e) in
      first_past one rs (accepted-none one refl (sym number-opened ∙ e))
      ∙ sym (state-past (code_for t r) rs (usable-true (code_for t r) f))

  -- what f makes of the first reason's number is x of it where opening is refused, and else what is known of the code
  made : {A : Type 0} (rs : List Reason) (f x : ℕ → A) (g : Record → A) → ((n : ℕ) → f (suc n) ≡ x (suc n))
      → f (first_reason (state_reasons (code_for t r) ++ rs)).number ≡ g (code_for t r)
      → AsOpened (opened_for_c t r) (f (first_reason (call_reasons t r rs)).number) x g
  made rs f x g same known =
      record {
        refused = λ h. ap f (stopped rs h) ∙ positive (opened_for_c t r).refusal h;
        given = λ e. ap (λ (y : Reason). f y.number) (past rs e) ∙ known ∙ ap g (sym (record-opened e));
      }
    where
      positive : (n : ℕ) → n ≢ 0 → f n ≡ x n
      positive zero h = absurd (h refl)
      positive (suc n) h = same n

-- a place p of its own is told only where the call is accepted
told : (x : Reason) (p : ℕ) → signed x.number p ≡ signed x.number (if_accepted x.number p x.place)
told x p = go x.number
  where
    go : (n : ℕ) → signed n p ≡ signed n (if_accepted n p x.place)
    go zero = refl
    go (suc n) = refl

-- with s = 0 no place is left out
none_left : (q : ℕ) → is_left_out 0 q ≡ false
none_left zero = refl
none_left (suc q) = ap (λ (b : Bool). leb 1 (suc q) && b) (lt-leb (suc q) 0 (omega arith)) ∙ no (leb 1 (suc q))
  where
    no : (b : Bool) → (b && false) ≡ false
    no true = refl
    no false = refl

-- further reasons that do not apply
first-further : (xs ys : List Reason) → NoneApplies ys → first_reason (xs ++ ys) ≡ first_reason xs
first-further xs [] h = ap first_reason (append-nil xs)
first-further xs (y ∷ ys) h =
    ap first_reason (sym (append_assoc xs (y ∷ []) ys)) ∙ first-further (xs ++ (y ∷ [])) ys h.1 ∙ first-last xs y h.0

-- so neither 11 nor 23 applies to a record just opened
not_full : (t r : ℕ) (w out : List ℕ)
    → first_reason (correct_reasons (code_for t r) w (length out)) ≡ first_reason (write_reasons (code_for t r) (places_in (code_for t r)) w (length out))
not_full t r w out =
    first-further (write_reasons (code_for t r) (places_in (code_for t r)) w (length out)) (left_out 0 (corrected_old_place_in (code_for t r) w) ∷ full (code_for t r) ∷ [])
    (none_left (corrected_old_place_in (code_for t r) w), (refl, tt))

-- ---- the four calls
pub encodes-as-opened : (t r : ℕ) (m out : List ℕ) → EncodesAsOpened (opened_for_c t r) t r m out
unfolding encode_answer_for_c encode_output_for_c encode_answer encode_output
encodes-as-opened t r m out =
    let rec = code_for t r in
    let rs = write_input rec (message_in rec) m (length out) in
    record {
      answers = made t r rs (λ n. signed n 0) (λ n. signed n 0) (encode_told m out) (λ n. refl) refl;
      writes =
          made t r rs (λ n. if_accepted n (encoded_in rec m ++ drop (places_in rec) out) out) (λ n. out)
          (λ rec. encode_output rec m out) (λ n. refl) refl;
    }

pub corrects-as-opened : (t r : ℕ) (w out : List ℕ) → CorrectsAsOpened (opened_for_c t r) t r w out
unfolding correct_answer_for_c correct_output_for_c correct_answer correct_output
corrects-as-opened t r w out =
    let rec = code_for t r in
    let rs = write_input rec (places_in rec) w (length out) in
    let same = sym (not_full t r w out) in
    let written : ℕ → List ℕ = λ n. if_accepted n (corrected_in rec w ++ drop (places_in rec) out) out in
    record {
      answers =
          made t r rs (λ n. signed n (corrected_place_in rec w)) (λ n. signed n 0) (correct_told w out) (λ n. refl)
          (ap (λ (x : Reason). signed x.number (corrected_place_in rec w)) same ∙ told (first_reason (correct_reasons rec w (length out))) (corrected_place_in rec w));
      writes = made t r rs written (λ n. out) (λ rec. correct_output rec w out) (λ n. refl) (ap (λ (x : Reason). written x.number) same);
    }

pub combines-as-opened : (t r : ℕ) (x y out : List ℕ) → CombinesAsOpened (opened_for_c t r) t r x y out
unfolding combine_answer_for_c combine_output_for_c combine_answer combine_output
combines-as-opened t r x y out =
    let rec = code_for t r in
    let rs = combine_input rec x y (length out) in
    record {
      answers = made t r rs (λ n. signed n 0) (λ n. signed n 0) (combine_told x y out) (λ n. refl) refl;
      writes =
          made t r rs (λ n. if_accepted n (combine_in rec x y ++ drop (places_in rec) out) out) (λ n. out)
          (λ rec. combine_output rec x y out) (λ n. refl) refl;
    }

pub third-as-opened : (t r i j : ℕ) → ThirdAsOpened (opened_for_c t r) t r i j
unfolding third_answer_for_c third_answer
third-as-opened t r i j =
    let rec = code_for t r in
    record {
      answers =
          made t r (places_input rec i j) (λ n. signed n (third_in rec i j)) (λ n. signed n 0) (third_told i j) (λ n. refl)
          (ap (λ (x : Reason). signed x.number (third_in rec i j))
          (sym (first-further (places_reasons rec i j) (left_out 0 (third_old_place_in rec i j) ∷ []) (none_left (third_old_place_in rec i j), tt)))
          ∙ told (first_reason (third_reasons rec i j)) (third_in rec i j));
    }

all-as-opened : (t r : ℕ) → AsOpenedFor (opened_for_c t r) t r
all-as-opened t r = record {
  encode = encodes-as-opened t r;
  correct = corrects-as-opened t r;
  combine = combines-as-opened t r;
  third = third-as-opened t r;
}

-- an r that is given is the one opened with
pub as-opened : AsOpenedCalls
unfolding opened_for_c
as-opened t r h = subst (λ (k : ℕ). AsOpenedFor (opened t k 0) t r) (or-given t r h) (all-as-opened t r)

-- ---- r = 0
pub zero-is-t : ZeroIsT
unfolding encode_answer_for_c encode_output_for_c correct_answer_for_c correct_output_for_c combine_answer_for_c combine_output_for_c third_answer_for_c
zero-is-t zero = record {
  encodes = λ m out. (refl, refl);
  corrects = λ w out. (refl, refl);
  combines = λ x y out. (refl, refl);
  thirds = λ i j. refl;
}
zero-is-t (suc t) = record {
  encodes = λ m out. (refl, refl);
  corrects = λ w out. (refl, refl);
  combines = λ x y out. (refl, refl);
  thirds = λ i j. refl;
}
