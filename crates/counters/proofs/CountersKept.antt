-- Whatever moves the counters leaves them within their widths, and accepted. Assumes nothing.
use mathlib.Core.Bool.{Bool, true, false, cond}
use mathlib.Core.Path.{◌≡◌, refl}
use Prim.Native.Nat.{ℕ, ◌^◌, ◌<◌}
use native.Mathlib.Omega.{arith}
use lib.Dec.{eqb}
use Rattle.command.specs.declared.command.Command.{Command}
use Rattle.command.specs.declared.command.Command.TheVariants.{Setting, Reset}
use Rattle.command.specs.declared.command.Reset.TheVariants.{Prst, Frst}
use Rattle.grains.specs.Grains.{most_drain}
use Rattle.sample.specs.declared.current.Current.{Current}
use Rattle.counters.specs.Counters.{counters_accepted, counters_moved, counters_obeyed, counters_rested, opened_counters}
use Rattle.counters.specs.Cycles.{cycles_accepted, cycles_moved, no_cycles}
use Rattle.counters.specs.Fits.{CountersFit}
use Rattle.counters.specs.declared.counters.Counters.{Counters}
use Rattle.counters.proofs.CyclesLaws.{drain_accepted, drain_below, moved_below, moved_cyct, moved_drain}

-- ---- opening

pub opened_counters_lem : CountersFit opened_counters
unfolding opened_counters no_cycles
opened_counters_lem = record { rests = omega arith; cyct = omega arith; drain = omega arith }

pub opened_accepted : counters_accepted opened_counters ≡ true
unfolding counters_accepted cycles_accepted opened_counters no_cycles
opened_accepted = refl

-- ---- widths

module _ (x : Counters) (f : CountersFit x) where
  pub rested_fits : (n : ℕ) → CountersFit (counters_rested n x)
  unfolding counters_rested
  rested_fits n = record { rests = omega arith; cyct = f.cyct; drain = f.drain }

  pub moved_fits : (lmd : ℕ) (c : Current) → CountersFit (counters_moved lmd c x)
  unfolding counters_moved
  moved_fits lmd c =
      record { rests = kept (eqb c.magnitude 0); cyct = moved_cyct lmd c x.cycles; drain = moved_drain lmd c x.cycles }
    where
      kept : (t : Bool) → cond t x.rests 0 < 256 ^ 4
      kept true = f.rests
      kept false = omega arith

  pub obeyed_fits : (command : Command) → CountersFit (counters_obeyed command x)
  unfolding counters_obeyed
  obeyed_fits (Setting setting) = f
  obeyed_fits (Reset Prst) = record { rests = omega arith; cyct = f.cyct; drain = f.drain }
  obeyed_fits (Reset Frst) = opened_counters_lem

-- ---- what 14 asks

-- LMD is one that a gauge may have
pub moved_accepted : (lmd : ℕ) (c : Current) (x : Counters) → 0 < lmd → lmd < 65_536 → counters_accepted (counters_moved lmd c x) ≡ true
unfolding counters_accepted counters_moved
moved_accepted lmd c x h k = drain_accepted (cycles_moved lmd c x.cycles) (moved_below lmd c x.cycles h k)

module _ (x : Counters) (a : counters_accepted x ≡ true) where
  pub accepted_drain : x.cycles.drain < most_drain
  unfolding counters_accepted
  accepted_drain = drain_below x.cycles a

  pub rested_accepted : (n : ℕ) → counters_accepted (counters_rested n x) ≡ true
  unfolding counters_accepted counters_rested
  rested_accepted n = a

  pub obeyed_accepted : (command : Command) → counters_accepted (counters_obeyed command x) ≡ true
  unfolding counters_accepted counters_obeyed
  obeyed_accepted (Setting setting) = a
  obeyed_accepted (Reset Prst) = a
  obeyed_accepted (Reset Frst) = opened_accepted
