-- What the history counts beside the charge. A4 of paper 02: "rest windows since the last window with c not 0 or since opening or a reset", with
-- the stop of A6; A5: cycles, and the drain that they are counted from. It counts them all and stops where a count is asked for.
-- Definitions only; assumes nothing.
use Rattle.std.specs.Prelude.{cond, ℕ, suc, ◌+◌, ◌*◌, ◌/◌, ◌%◌, min, eqb, ℤ, pos, negsuc}
use Rattle.numbers.specs.Signed.{magnitude}
use Rattle.history.specs.Sums.{grains_a_count, grains_a_unit}

pub record HistoryCounters : Type 0 where
  -- "rest windows since"
  pub rests : ℕ
  -- cycles "for every whole LMD × G"
  pub cycles : ℕ
  -- "the surplus is carried over", grains
  pub drain : ℕ

-- "since opening or a reset"; FRST "clears both"
abbrev pub no_counters : HistoryCounters
no_counters = record { rests = 0; cycles = 0; drain = 0 }

-- "its counted discharge", grains: nothing of it is lost below empty, and a leak is none
abbrev pub discharged : ℤ → ℕ
discharged (pos n) = 0
discharged (negsuc n) = grains_a_unit * suc n

-- "since the last window with c not 0"; "each window call .. adds its counted discharge to a drain, and one more cycle for every whole LMD × G in
-- it", L being that before the window
abbrev pub counters_after_window : ℕ → ℤ → HistoryCounters → HistoryCounters
counters_after_window l c x =
    record {
      rests = cond (eqb (magnitude c) 0) x.rests 0;
      cycles = x.cycles + (x.drain + discharged c) / (l * grains_a_count);
      drain = (x.drain + discharged c) % (l * grains_a_count);
    }

-- "no rest" adds to the drain
abbrev pub counters_after_rest : ℕ → HistoryCounters → HistoryCounters
counters_after_rest n x = record { rests = x.rests + n; cycles = x.cycles; drain = x.drain }

-- "PRST keeps both", the cycles and the drain
abbrev pub counters_after_prst : HistoryCounters → HistoryCounters
counters_after_prst x = record { rests = 0; cycles = x.cycles; drain = x.drain }

-- "stops at 4,294,967,295"
abbrev pub rest_count : HistoryCounters → ℕ
rest_count x = min x.rests 4_294_967_295

-- "CYCT stops at 65,535"
abbrev pub cycle_count : HistoryCounters → ℕ
cycle_count x = min x.cycles 65_535
