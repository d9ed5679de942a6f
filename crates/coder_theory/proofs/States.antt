-- What it is for a record to be open and fit, and usable, and how the reasons 21, 22 and 10 come before any other. Assumes nothing.
use mathlib.Core.Path.{◌≡◌, refl, ap}
use mathlib.Core.Logic.{◌⊎◌, inl, inr}
use mathlib.Core.List.{List, ◌++◌}
use mathlib.Core.Bool.{Bool, true, false, ◌||◌, not, true≢false}
use Prim.Native.Nat.{ℕ, ◌+◌, ◌-◌}
use native.Mathlib.Omega.{arith}
use lib.Dec.{eqb}
use borrow.Author.Tests.{eqb-true, eq-eqb, ne_eqb}
use Rattle.layout_theory.specs.Parameters.{admits}
use Rattle.layout_theory.proofs.Parameters.{admits-admitted, admitted-admits}
use Rattle.words_theory.specs.Words.{Word}
use Rattle.words_theory.specs.Syndrome.{length_of}
use Rattle.shortened_theory.specs.Allowed.{Allowed, allows}
use Rattle.shortened_theory.specs.Code.{fill}
use Rattle.shortened_theory.specs.Claims.{ShortenedOf}
use Rattle.shortened_theory.proofs.Between.{allows-allowed, allowed-allows, zero-allowed}
use Rattle.shortened_theory.proofs.Filling.{word-fill}
use Rattle.shortened_theory.proofs.Theorem.{shortened-code, word-shortened, fits}
use Rattle.coder_theory.specs.State.{Fit, Usable, RecordOf, is_closed, is_unfit, is_not_allowed, moduli_in, places_in}
use Rattle.coder_theory.specs.Reasons.{Reason, first_reason}
use Rattle.coder_theory.specs.Calls.{state_reasons}
use Rattle.coder_theory.specs.declared.Record.{Record}
use Rattle.coder_theory.proofs.Firsts.{first_past, accepted-none}

-- none of 21, 22 and 10 applies
abbrev pub Clear : Record → Type 0
Clear rec = (is_closed rec ≡ false) × (is_unfit rec ≡ false) × (is_not_allowed rec ≡ false)

-- ---- the first of 21, 22 and 10, before further reasons
pub state-clear : (rec : Record) → (first_reason (state_reasons rec)).number ≡ 0 → Clear rec
state-clear rec h = let n = accepted-none (state_reasons rec) refl h in (n.0, n.1.0, n.1.1.0)

pub state-past : (rec : Record) (rs : List Reason) → Clear rec → first_reason (state_reasons rec ++ rs) ≡ first_reason rs
state-past rec rs h = first_past (state_reasons rec) rs (h.0, (h.1, (h.2, tt)))

-- ---- what 21 and 22 say
pub fit-true : (rec : Record) → Fit rec → (is_closed rec ≡ false) × (is_unfit rec ≡ false)
unfolding is_unfit
fit-true rec h =
    let a = h.admitted in (
      ne_eqb rec.t 0 (omega arith),
      rw (admitted-admits rec.t rec.r a, ne_eqb rec.r 0 (omega arith), eq-eqb rec.words (rec.clean + rec.corrected_binary + rec.corrected_pairs) h.sums),
    )

-- one of two tests holds
pub or-either : (a b : Bool) → (a || b) ≡ true → (a ≡ true) ⊎ (b ≡ true)
or-either true b e = inl refl
or-either false b e = inr e

pub or_left : (a b : Bool) → a ≡ true → (a || b) ≡ true
or_left a b e = ap (λ (c : Bool). c || b) e

pub or_right : (a b : Bool) → b ≡ true → (a || b) ≡ true
or_right true b e = refl
or_right false b e = e

pub or-false : (a b : Bool) → (a || b) ≡ false → (a ≡ false) × (b ≡ false)
or-false true b e = absurd (true≢false e)
or-false false b e = (refl, e)

not_back : (a : Bool) → not a ≡ false → a ≡ true
not_back true e = refl
not_back false e = absurd (true≢false e)

pub true-fit : (rec : Record) → is_unfit rec ≡ false → Fit rec
unfolding is_unfit
true-fit rec h =
    let s = rec.clean + rec.corrected_binary + rec.corrected_pairs in
    let a = or-false (not (admits rec.t rec.r)) (eqb rec.r 0 || not (eqb rec.words s)) h in
    let b = or-false (eqb rec.r 0) (not (eqb rec.words s)) a.1 in
    record { admitted = admits-admitted rec.t rec.r (not_back _ a.0); sums = eqb-true rec.words s (not_back _ b.1) }

-- ---- and 10
pub usable-true : (rec : Record) → Usable rec → Clear rec
usable-true rec u =
    let f = fit-true rec u.fit in
    (f.0, f.1, ap not (allowed-allows rec.t rec.r rec.s u.allowed))

pub true-usable : (rec : Record) → is_unfit rec ≡ false → is_not_allowed rec ≡ false → Usable rec
true-usable rec h k =
    record { fit = true-fit rec h; allowed = allows-allowed rec.t rec.r rec.s (not_back (allows rec.t rec.r rec.s) k) }

-- an open and fit record of a code whose s is allowed is usable; with s = 0 it always is
pub usable-of : (t r s : ℕ) (rec : Record) → Allowed t r s → RecordOf t r s rec → Usable rec
usable-of t r s rec al c = record { fit = c.fit; allowed = rw (c.is_t, c.is_r, c.is_s) al }

pub zero-usable : (rec : Record) → Fit rec → rec.s ≡ 0 → Usable rec
zero-usable rec f e =
    usable-of rec.t rec.r 0 rec (zero-allowed rec.t rec.r f.admitted) (record { is_t = refl; is_r = refl; is_s = e; fit = f })

-- the code of a usable record, and words of its length
pub code_in : (rec : Record) → Usable rec → ShortenedOf rec.t rec.r rec.s
code_in rec f = shortened-code rec.t rec.r rec.s f.fit.admitted f.allowed

pub word_in : (rec : Record) → Usable rec → {w : List ℕ} → Word (places_in rec) w → Word (length_of (moduli_in rec) - rec.s) w
unfolding places_in
word_in rec f h = word-shortened rec.t rec.r rec.s f.fit.admitted f.allowed h

pub filled_in : (rec : Record) → Usable rec → {w : List ℕ} → Word (places_in rec) w → Word (length_of (moduli_in rec)) (fill rec.s w)
filled_in rec f h =
    word-fill (length_of (moduli_in rec)) rec.s (fits rec.t rec.r rec.s f.fit.admitted f.allowed) (word_in rec f h)
