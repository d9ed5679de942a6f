-- The allowed s are those that end between two slots of the message, one of which is kept; the test is the statement; and s = 0 is always
-- allowed. Assumes nothing.
use mathlib.Core.Path.{◌≡◌, refl, sym, ap, ap₂, subst, ◌∙◌}
use mathlib.Core.Logic.{◌≢◌, ◌⊎◌, inl, inr, ◌↔◌}
use mathlib.Core.Bool.{Bool, true, false, ◌&&◌, ◌||◌, true≢false}
use mathlib.Core.List.{List, [], ◌∷◌, ◌++◌, map, append-nil}
use Prim.Native.Nat.{ℕ, zero, suc, ◌+◌, ◌-◌, ◌*◌, ◌/◌, ◌^◌, ◌<◌, ◌≤◌}
use native.Mathlib.Nat.{pow-succ'}
use native.Mathlib.Decide.{dec_le}
use native.Mathlib.Omega.{arith}
use borrow.Author.Tests.{leb-true, le-leb, ltb-true, lt-ltb, eqb-true, eq-eqb}
use lib.Dec.{eqb, leb}
use lib.ListN.{length, drop}
use Rattle.group_theory.specs.Group.{Modulus}
use Rattle.group_theory.proofs.Signs.{both}
use Rattle.layout_theory.specs.Parameters.{Admitted, moduli_for}
use Rattle.layout_theory.specs.Layout.{Slot, single, pair, singles, pairs, message, places}
use Rattle.layout_theory.proofs.Parameters.{singles-for, message-for, below_power}
use Rattle.words_theory.proofs.Theorem.{length-message-code}
use Rattle.shortened_theory.specs.Allowed.{EndsWhole, over, ends_whole, part_of, Allowed, allows}
use Rattle.shortened_theory.specs.Claims.{EndsBetween, AllowedClaim}
use Rattle.shortened_theory.proofs.Cutting.{length-places-append}

-- ---- slots cut after so many places
record Split (ms : List Modulus) (sl : List Slot) (s : ℕ) : Type 0 where
  gone : List Slot
  kept : List Slot
  whole : sl ≡ gone ++ kept
  ends : length (places ms gone) ≡ s

split-pairs : (ms : List Modulus) (ys : List (List ℕ)) (j : ℕ) → j ≤ length ys → Split ms (map pair ys) (2 * j)
unfolding places
split-pairs ms ys zero h = record { gone = []; kept = map pair ys; whole = refl; ends = refl }
split-pairs ms [] (suc j) h = absurd (omega arith)
split-pairs ms (y ∷ ys) (suc j) h =
    let r = split-pairs ms ys j (omega arith) in
    record {
      gone = pair y ∷ r.gone;
      kept = r.kept;
      whole = ap {B = List Slot} (λ (sl : List Slot). pair y ∷ sl) r.whole;
      ends = let e = r.ends in omega arith;
    }

split_parts : (ms : List Modulus) (xs ys : List (List ℕ)) (s : ℕ) → (s ≤ length xs) ⊎ ((j : ℕ) × (s ≡ length xs + 2 * j) × (j ≤ length ys))
    → Split ms (map single xs ++ map pair ys) s
unfolding places
split_parts ms xs ys zero h = record { gone = []; kept = map single xs ++ map pair ys; whole = refl; ends = refl }
split_parts ms [] ys (suc s) (inl h) = absurd (omega arith)
split_parts ms [] ys (suc s) (inr h) =
    let e : 2 * h.0 ≡ suc s = let k = h.1 in omega arith in
    subst (Split ms (map pair ys)) e (split-pairs ms ys h.0 h.2)
split_parts ms (x ∷ xs) ys (suc s) h =
    let r = split_parts ms xs ys s (fewer h) in
    record {
      gone = single x ∷ r.gone;
      kept = r.kept;
      whole = ap {B = List Slot} (λ (sl : List Slot). single x ∷ sl) r.whole;
      ends = ap suc r.ends;
    }
  where
    fewer : (suc s ≤ suc (length xs)) ⊎ ((j : ℕ) × (suc s ≡ suc (length xs) + 2 * j) × (j ≤ length ys))
        → (s ≤ length xs) ⊎ ((j : ℕ) × (s ≡ length xs + 2 * j) × (j ≤ length ys))
    fewer (inl k) = inl (omega arith)
    fewer (inr k) = inr (k.0, (let e = k.1 in omega arith), k.2)

-- ---- and back: where a cut can be
abbrev first_of : Slot → List Slot → Slot
first_of s [] = s
first_of s (x ∷ sl) = x

ends-pairs : (ms : List Modulus) (ys : List (List ℕ)) (gone kept : List Slot) → map pair ys ≡ gone ++ kept → (j : ℕ) × (length (places ms gone) ≡ 2 * j)
unfolding places
ends-pairs ms ys [] kept e = (0, refl)
ends-pairs ms [] (g ∷ gone) kept e = let k = ap length e in absurd (omega arith)
ends-pairs ms (y ∷ ys) (g ∷ gone) kept e =
    let r = ends-pairs ms ys gone kept (ap (drop 1) e) in
    let f : pair y ≡ g = ap (first_of g) e in
    (suc r.0, subst (λ (x : Slot). length (places ms (x ∷ gone)) ≡ 2 * suc r.0) f (let k = r.1 in omega arith))

ends-parts : (ms : List Modulus) (xs ys : List (List ℕ)) (gone kept : List Slot) → map single xs ++ map pair ys ≡ gone ++ kept
    → (length (places ms gone) ≤ length xs) ⊎ ((j : ℕ) × (length (places ms gone) ≡ length xs + 2 * j))
unfolding places
ends-parts ms xs ys [] kept e = inl (omega arith)
ends-parts ms [] ys (g ∷ gone) kept e =
    let r = ends-pairs ms ys (g ∷ gone) kept e in
    inr (r.0, let k = r.1 in omega arith)
ends-parts ms (x ∷ xs) ys (g ∷ gone) kept e =
    subst (λ (y : Slot). (length (places ms (y ∷ gone)) ≤ suc (length xs)) ⊎ ((j : ℕ) × (length (places ms (y ∷ gone)) ≡ suc (length xs) + 2 * j)))
    (ap (first_of g) e) (more (ends-parts ms xs ys gone kept (ap (drop 1) e)))
  where
    more : (length (places ms gone) ≤ length xs) ⊎ ((j : ℕ) × (length (places ms gone) ≡ length xs + 2 * j))
        → (suc (length (places ms gone)) ≤ suc (length xs)) ⊎ ((j : ℕ) × (suc (length (places ms gone)) ≡ suc (length xs) + 2 * j))
    more (inl k) = inl (omega arith)
    more (inr k) = inr (k.0, let e = k.1 in omega arith)

-- ---- the allowed s are those that end between two slots of the message
some-places : (ms : List Modulus) (sl : List Slot) → sl ≢ [] → 0 < length (places ms sl)
unfolding places
some-places ms [] n = absurd (n refl)
some-places ms (single e ∷ sl) n = omega arith
some-places ms (pair z ∷ sl) n = omega arith

module _ (t r s : ℕ) (ok : Admitted t r) where
  abbrev ms : List Modulus
  ms = moduli_for t r

  part : length (singles ms) ≡ part_of t r
  part = let k = singles-for t r ok in omega arith

  between : Allowed t r s → EndsBetween ms s
  unfolding message
  between al =
      let p = split_parts ms (singles ms) (pairs ms) s (enough al.ends) in
      record { gone = p.gone; kept = p.kept; whole = p.whole; ends = p.ends; stays = kept p }
    where
      enough : EndsWhole (part_of t r) s → (s ≤ length (singles ms)) ⊎ ((j : ℕ) × (s ≡ length (singles ms) + 2 * j) × (j ≤ length (pairs ms)))
      enough (inl h) = inl (let p = part in omega arith)
      enough (inr h) =
          let k = message-for t r ok in
          let st = al.stays in
          let p = part in
          let e = h.1 in
          inr (h.0, omega arith, omega arith)

      kept : (p : Split ms (message ms) s) → p.kept ≢ []
      kept p z =
          let k = length-message-code t r ok in
          let l = ap (λ (sl : List Slot). length (places ms sl)) (p.whole ∙ ap (λ (sl : List Slot). p.gone ++ sl) z ∙ append-nil p.gone) ∙ p.ends in
          let st = al.stays in
          omega arith

  allowed : EndsBetween ms s → Allowed t r s
  unfolding message
  allowed b =
      let l = ap (λ (sl : List Slot). length (places ms sl)) b.whole ∙ length-places-append ms b.gone b.kept in
      let k = length-message-code t r ok in
      let m = some-places ms b.kept b.stays in
      let e = b.ends in
      record { ends = told (ends-parts ms (singles ms) (pairs ms) b.gone b.kept b.whole); stays = omega arith }
    where
      told : (length (places ms b.gone) ≤ length (singles ms)) ⊎ ((j : ℕ) × (length (places ms b.gone) ≡ length (singles ms) + 2 * j))
          → EndsWhole (part_of t r) s
      told (inl h) = inl (let e = b.ends in let p = part in omega arith)
      told (inr h) = inr (h.0, let e = b.ends in let p = part in let q = h.1 in omega arith)

  pub allowed-between : Allowed t r s ↔ EndsBetween ms s
  allowed-between = (between, allowed)

-- ---- the test
or-true : (a b : Bool) → (a || b) ≡ true → (a ≡ true) ⊎ (b ≡ true)
or-true true b e = inl refl
or-true false b e = inr e

true-or : (a b : Bool) → (a ≡ true) ⊎ (b ≡ true) → (a || b) ≡ true
true-or true b e = refl
true-or false b (inl e) = absurd (true≢false (sym e))
true-or false b (inr e) = e

whole_by : (p s : ℕ) → ends_whole p s ≡ true → EndsWhole p s
whole_by p s e = go (or-true (leb s p) (eqb (over p s) 0) e) (dec_le s p)
  where
    go : (leb s p ≡ true) ⊎ (eqb (over p s) 0 ≡ true) → Dec (s ≤ p) → EndsWhole p s
    go h (yes l) = inl l
    go (inl h) (no l) = inl (leb-true s p h)
    go (inr h) (no l) = let z = eqb-true (over p s) 0 h in inr ((s - p) / 2, omega arith)

by_whole : (p s : ℕ) → EndsWhole p s → ends_whole p s ≡ true
by_whole p s (inl h) = true-or (leb s p) (eqb (over p s) 0) (inl (le-leb s p h))
by_whole p s (inr h) = true-or (leb s p) (eqb (over p s) 0) (inr (eq-eqb (over p s) 0 (let e = h.1 in omega arith)))

pub allows-allowed : (t r s : ℕ) → allows t r s ≡ true → Allowed t r s
unfolding allows
allows-allowed t r s e =
    let b = both (ends_whole (part_of t r) s) _ e in
    record { ends = whole_by (part_of t r) s b.0; stays = ltb-true _ _ b.1 }

pub allowed-allows : (t r s : ℕ) → Allowed t r s → allows t r s ≡ true
unfolding allows
allowed-allows t r s al = ap₂ ◌&&◌ (by_whole (part_of t r) s al.ends) (lt-ltb _ _ al.stays)

-- ---- s = 0
above_power : (t : ℕ) → 2 ≤ t → suc t < 2 ^ t
above_power zero h = absurd (omega arith)
above_power (suc t) h = let i = below_power t in rw pow-succ' (omega arith)

pub zero-allowed : (t r : ℕ) → Admitted t r → Allowed t r 0
zero-allowed t r ok = record { ends = inl (omega arith); stays = let k = above_power t ok.least in omega arith }

pub allowed-s : AllowedClaim
allowed-s = record { test = λ t r s. (allows-allowed t r s, allowed-allows t r s); between = allowed-between; zero = zero-allowed }
