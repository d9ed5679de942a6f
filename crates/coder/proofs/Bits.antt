-- What a call answers by the place of a byte above 1 that a pass told, or by what the pass made of the bytes. Assumes nothing.
use mathlib.Core.Path.{◌≡◌, refl, sym, ap, ◌∙◌}
use mathlib.Core.Bool.{true}
use mathlib.Core.List.{List, [], ◌∷◌, ◌++◌}
use Prim.Native.Nat.{ℕ, zero, suc}
use native.Mathlib.Omega.{arith}
use Rattle.std.specs.Prelude.{Result, Ok, Err, IfOk}
use Rattle.words_theory.specs.Calls.{if_bits}
use Rattle.coder_theory.specs.Reasons.{Reason, first_reason, bad_place, bad_byte}
use Rattle.coder_theory.specs.Calls.{answer_of}
use Rattle.coder_theory.proofs.Firsts.{numbered, accepted-none, first_past, first-no, first-end}
use Rattle.coder_theory.proofs.Outcomes.{byte-bad, byte-good}
use Rattle.checks.specs.declared.refusal.Refusal.{Refusal}
use Rattle.checks.specs.declared.refusal.Refusal.TheVariants.{BadByte}
use Rattle.checks.specs.Told.{told}

module _ {A : Type 0} (v : A) where
  -- the place made a refusal
  abbrev pub by_place : ℕ → Result A Refusal
  by_place zero = Ok v
  by_place (suc p) = Err (BadByte (suc p))

  pub mapped : (p : ℕ) (y : Result A ℕ) (x : Result A Refusal) → y ≡ if_bits p v
      → ((a : A) → y ≡ Ok a → x ≡ Ok a) → ((q : ℕ) → y ≡ Err q → x ≡ Err (BadByte q)) → x ≡ by_place p
  mapped zero y x e kept failed = kept v e
  mapped (suc p) y x e kept failed = failed (suc p) e

  -- where nothing is wrong before the bytes
  pub told-bits : (before : List Reason) (w : List ℕ) → numbered before ≡ true → (first_reason before).number ≡ 0
      → told (by_place (bad_place w)) ≡ answer_of (first_reason (before ++ (bad_byte w ∷ [])))
  told-bits before w some z = go (bad_place w) refl ∙ sym (ap answer_of (first_past before (bad_byte w ∷ []) (accepted-none before some z)))
    where
      go : (p : ℕ) → p ≡ bad_place w → told (by_place p) ≡ answer_of (first_reason (bad_byte w ∷ []))
      go zero e = sym (ap answer_of (first-no (bad_byte w) [] (byte-good w 0 e refl) ∙ first-end))
      go (suc p) e = byte-bad w (suc p) e (λ z. omega arith) []

  pub if-bits : (p : ℕ) → IfOk (by_place p) (λ x. x ≡ v)
  if-bits zero = refl
  if-bits (suc p) = tt
