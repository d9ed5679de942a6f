-- The code of a record, and what counting makes of any record, a full one and one that is not usable too. Assumes nothing.
use Rattle.std.specs.Prelude.{Bool, true, ℕ, ◌+◌, eqb, min}
use Rattle.layout_theory.specs.Choice.{one_if}
use Rattle.parameters.specs.declared.Code.{Code}
use Rattle.shortened_theory.specs.Calls.{shortened_width_for}
use Rattle.coder_theory.specs.State.{full_count}
use Rattle.coder_theory.specs.declared.Record.{Record}

abbrev pub code_in : Record → Code
code_in rec = record { t = rec.t; r = rec.r; s = rec.s }

-- one more where it is to be counted, and as many as before where that is the most
abbrev pub one_more : ℕ → Bool → ℕ
one_more n b = min (n + one_if b) full_count

-- `counted` of coder_theory, but that a full count stays
unfoldable pub counted_for : Record → ℕ → Record
counted_for rec p =
    let width = shortened_width_for rec.t rec.r rec.s p in
    record {
      t = rec.t;
      r = rec.r;
      s = rec.s;
      words = one_more rec.words true;
      clean = one_more rec.clean (eqb p 0);
      corrected_binary = one_more rec.corrected_binary (eqb width 1);
      corrected_pairs = one_more rec.corrected_pairs (eqb width 2);
    }
