-- A5 of paper 02, "Cells grow old": CYCT and the drain that it is counted from. Definitions only; assumes nothing.
use Rattle.std.specs.Prelude.{Bool, ℕ, ◌+◌, ◌/◌, ◌%◌, min, ltb}
use Rattle.grains.specs.Grains.{grains_of_counts, grains_of_current, most_drain, saturating_sum}
use Rattle.sample.specs.Current.{discharge_current}
use Rattle.sample.specs.declared.current.Current.{Current}
use Rattle.counters.specs.declared.cycles.Cycles.{Cycles}

-- opening, and FRST, which "clears both"
unfoldable pub no_cycles : Cycles
no_cycles = record { cyct = 0; drain = 0 }

-- "CYCT stops at 65,535"
abbrev pub most_cycles : ℕ
most_cycles = 65_535

unfoldable pub cyct_after : ℕ → ℕ → ℕ
cyct_after cyct cycles = min (cyct + cycles) most_cycles

-- "each window call, no rest, adds its counted discharge to a drain": 192,000 × |c| where c < 0
unfoldable pub drain_with : Current → ℕ → ℕ
drain_with c drain = saturating_sum drain (grains_of_current (discharge_current c))

-- "and one more cycle for every whole LMD × G in it, LMD being that before the window; the surplus is carried over". LMD 0, which 14 refuses, divides
-- nothing: a quotient by 0 is 0, its remainder the number
unfoldable pub cycles_moved : ℕ → Current → Cycles → Cycles
cycles_moved lmd c x =
    record {
      cyct = cyct_after x.cyct (drain_with c x.drain / grains_of_counts lmd);
      drain = drain_with c x.drain % grains_of_counts lmd;
    }

-- the drain "must be below 65,535 × G"
unfoldable pub cycles_accepted : Cycles → Bool
cycles_accepted x = ltb x.drain most_drain
