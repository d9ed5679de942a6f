-- How long a sheet and its parts can be, which keeps a position from wrapping, and the lines of the places one by one.
-- Assumes nothing.
use mathlib.Core.Path.{◌≡◌, refl, ap, ◌∙◌}
use mathlib.Core.Bool.{Bool, true, false}
use mathlib.Core.List.{List, ◌++◌, append-nil, append_assoc}
use Prim.Native.Nat.{ℕ, zero, suc, ◌+◌, ◌-◌, ◌*◌, ◌^◌, ◌≤◌, ◌<◌}
use native.Mathlib.Nat.{mul-suc}
use native.Mathlib.Omega.{arith}
use lib.Dec.{eqb}
use lib.ListN.{length, length-append}
use Rattle.std.specs.Prelude.{Option, Some, None}
use Rattle.coder_theory.specs.Calls.{word_length, message_length, element_answer}
use Rattle.coder_theory.specs.declared.Record.{Record}
use Rattle.coder_theory.specs.declared.Opened.{Opened}
use Rattle.coder_theory.proofs.Bounds.{word-length-bound, element-bound}
use Rattle.listing_theory.specs.Form.{read_line}
use Rattle.listing_theory.specs.Puts.{Puts}
use Rattle.listing_theory.specs.Sheet.{field_text, refused_line, heading_text, place_line, place_lines, listing_text, answer_text, line_text, sheet_text}
use Rattle.listing_theory.specs.Claims.{buffer_length}
use Rattle.listing_theory.specs.declared.Asked.{Asked}
use Rattle.listing_theory.proofs.Decimals.{decimal-length, decimal-below}

field-length : (x end : ℕ) → length (field_text x end) ≤ 11
unfolding field_text
field-length x end = simp length-append (omega (arith, decimal-length x))

pub puts-field : {o o' : List ℕ} {at n : ℕ} (x end : ℕ) → Puts o at (field_text x end) o' n → n ≤ at + 11
puts-field x end p = omega (arith, p.next, field-length x end)

fields-length : (x y a b : ℕ) → length (field_text x a ++ field_text y b) ≤ 22
fields-length x y a b = simp length-append (omega (arith, field-length x a, field-length y b))

line-length : (rec : Record) (p : ℕ) → length (place_line rec p) ≤ 22
unfolding place_line
line-length rec p = fields-length _ _ _ _

-- lines of which each has at most m bytes
lines-within : (m : ℕ) (rec : Record) (p count : ℕ) → ((q : ℕ) → q < p + count → length (place_line rec q) ≤ m)
    → length (place_lines rec p count) ≤ m * count
unfolding place_lines
lines-within m rec p zero h = omega arith
lines-within m rec p (suc count) h =
    let i = lines-within m rec (p + 1) count (λ q l. h q (omega arith)) in
    rw mul-suc (simp length-append (omega (arith, h p (omega arith))))

pub lines-length : (rec : Record) (p count : ℕ) → length (place_lines rec p count) ≤ 22 * count
lines-length rec p count = lines-within 22 rec p count (λ q l. line-length rec q)

-- a place of a code and the number of its element have four digits at most
place-length : (rec : Record) (p : ℕ) → p < 10 ^ 4 → length (place_line rec p) ≤ 10
unfolding place_line field_text
place-length rec p h =
    let e = element-bound rec p in
    simp length-append (omega (arith, decimal-below 3 p h, decimal-below 3 (element_answer rec p).element (omega arith)))

last_line : (rec : Record) (p k : ℕ) → place_lines rec p (suc k) ≡ place_lines rec p k ++ place_line rec (p + k)
unfolding place_lines
last_line rec p zero = let e : p + 0 ≡ p = omega arith in rw e (append-nil (place_line rec p))
last_line rec p (suc k) =
    let e : p + suc k ≡ p + 1 + k = omega arith in
    rw (e, append_assoc) (ap (λ (l : List ℕ). place_line rec p ++ l) (last_line rec (p + 1) k))

-- the line of the place p comes after those of the places before it
pub lines-next : (rec : Record) (p : ℕ) → 1 ≤ p → place_lines rec 1 (p + 1 - 1) ≡ place_lines rec 1 (p - 1) ++ place_line rec p
lines-next rec p h =
    let e : p + 1 - 1 ≡ suc (p - 1) = omega arith in
    let f : 1 + (p - 1) ≡ p = omega arith in
    rw e (last_line rec 1 (p - 1) ∙ ap (λ (q : ℕ). place_lines rec 1 (p - 1) ++ place_line rec q) f)

pub heading-length : (rec : Record) → length (heading_text rec) ≤ 49
unfolding heading_text
heading-length rec =
    simp length-append
    (omega (arith, field-length rec.t 32, field-length rec.r 32, field-length (word_length rec) 32, field-length (message_length rec) 10))

listing-length : (rec : Record) → length (listing_text rec) ≤ buffer_length
unfolding listing_text
listing-length rec =
    let n = word-length-bound rec in
    let l = lines-within 10 rec 1 (word_length rec) (λ q k. place-length rec q (omega arith)) in
    simp length-append (omega (arith, heading-length rec))

refused-length : (n : ℕ) → length (refused_line n) ≤ buffer_length
unfolding refused_line
refused-length n = omega (arith, field-length n 10)

answer-length : (o : Opened) (b : Bool) → eqb o.refusal 0 ≡ b → length (answer_text o) ≤ buffer_length
unfolding answer_text
answer-length o true e = rw e (listing-length o.«record»)
answer-length o false e = rw e (refused-length _)

line-fits : (l : Option Asked) → length (line_text l) ≤ buffer_length
unfolding line_text
line-fits None = refused-length _
line-fits (Some a) = answer-length _ _ refl

-- a sheet fits into the program's buffer, whatever the input is
pub sheet-fits : (input : List ℕ) → length (sheet_text input) ≤ buffer_length
unfolding sheet_text
sheet-fits input = line-fits (read_line input)
