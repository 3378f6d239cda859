-- The bays of a run, as the code sees them one after the other. Assumes nothing.
use Rattle.std.specs.Prelude.{cond, not, List, ℕ, ◌-◌, ◌%◌, eqb, leb, get_or}
use Rattle.ledger_block.specs.declared.Bay.{Bay}

-- the set that leaves as bay k comes: strand 0 alone while none does
abbrev pub leaving_of : (window : ℕ) → (sets : List ℕ) → (k : ℕ) → ℕ
leaving_of window sets k = cond (leb window k) (get_or sets (k - window) 0) 1

-- bay k of the run: its set, the set that leaves, the set before it, and which neighbours there are
abbrev pub bay_of : (window : ℕ) → (sets : List ℕ) → (k width : ℕ) → Bay
bay_of window sets k width =
    record {
      set = get_or sets k 0;
      leaving = leaving_of window sets k;
      previous = get_or sets (k - 1) 0;
      width = width;
      below = leb window k;
      beside = not (eqb (k % window) 0);
    }
