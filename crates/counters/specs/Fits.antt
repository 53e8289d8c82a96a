-- The widths of the counters, which are those of their saved fields. Definitions only; assumes nothing.
use Rattle.std.specs.Prelude.{◌^◌, ◌<◌}
use Rattle.counters.specs.declared.counters.Counters.{Counters}

pub record CountersFit (x : Counters) : Type 0 where
  -- "The count from A4 becomes four bytes" (A6 of paper 02)
  pub rests : x.rests < 256 ^ 4
  -- "Form 4 appends CYCT and the 8-byte drain" (A5)
  pub cyct : x.cycles.cyct < 256 ^ 2
  pub drain : x.cycles.drain < 256 ^ 8
