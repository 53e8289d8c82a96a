-- What the gauge counts beside its charge. A4 of paper 02: "The gauge therefore counts rest windows since the last window with c not 0 or since
-- opening or a reset"; its stop by A6; the cycles of A5. Definitions only; assumes nothing.
use Rattle.std.specs.Prelude.{Bool, cond, ℕ, ◌+◌, min, eqb}
use Rattle.command.specs.declared.command.Command.{Command}
use Rattle.command.specs.declared.command.Command.TheVariants.{Setting, Reset}
use Rattle.command.specs.declared.command.Reset.TheVariants.{Prst, Frst}
use Rattle.sample.specs.declared.current.Current.{Current}
use Rattle.counters.specs.Cycles.{cycles_accepted, cycles_moved, no_cycles}
use Rattle.counters.specs.declared.counters.Counters.{Counters}

-- "since opening"
unfoldable pub opened_counters : Counters
opened_counters = record { rests = 0; cycles = no_cycles }

-- A6: "becomes four bytes and stops at 4,294,967,295 instead of 65,535"
abbrev pub most_rests : ℕ
most_rests = 4_294_967_295

-- the windows of a rest are counted; it adds to no cycle
unfoldable pub counters_rested : ℕ → Counters → Counters
counters_rested n x = record { rests = min (x.rests + n) most_rests; cycles = x.cycles }

-- "since the last window with c not 0": one with c = 0 neither counts nor clears
unfoldable pub counters_moved : ℕ → Current → Counters → Counters
counters_moved lmd c x = record { rests = cond (eqb c.magnitude 0) x.rests 0; cycles = cycles_moved lmd c x.cycles }

-- "or a reset": PRST and FRST; of the cycles, "PRST keeps both and FRST clears both"
unfoldable pub counters_obeyed : Command → Counters → Counters
counters_obeyed (Setting setting) x = x
counters_obeyed (Reset Prst) x = record { rests = 0; cycles = x.cycles }
counters_obeyed (Reset Frst) x = opened_counters

-- the count of rest windows is every number of its four bytes
unfoldable pub counters_accepted : Counters → Bool
counters_accepted x = cycles_accepted x.cycles
