-- Steps 3 and 4 of a window in paper 01: what it reaches is decided from the charge after step 2, and the charge and the flags are then
-- functions of that. The empty stop of step 3 is part of the sum (`empty_stop`). Definitions only; assumes nothing.
use Rattle.std.specs.Prelude.{Bool, cond, ℕ}
use Rattle.charge.specs.Charge.{emptied, filled, taught, without_run}
use Rattle.charge.specs.declared.charge.Charge.{Charge}
use Rattle.configuration.specs.Terms.{Terms}
use Rattle.flags.specs.Flags.{at_edv1, at_edvf, at_taught}
use Rattle.flags.specs.declared.flags.Flags.{Flags}
use Rattle.sample.specs.Current.{discharge_current}
use Rattle.sample.specs.declared.current.Current.{Current}
use Rattle.reached.specs.Ending.{ending_of}
use Rattle.reached.specs.Full.{is_full}
use Rattle.reached.specs.declared.ending.Ending.{Ending}
use Rattle.reached.specs.declared.ending.Ending.TheVariants.{Above, Edvf, Edv1, Qualified}

-- ---- decided

pub record Reached : Type 0 where
  -- Step 3
  pub full : Bool
  -- Step 4
  pub ending : Ending

unfoldable pub reached_by : Terms → Current → ℕ → ℕ → Charge → Reached
reached_by terms c v t x =
    record {
      full = is_full terms c v x.held x.lmd;
      ending = ending_of terms x.run.vdq (discharge_current c) v t;
    }

-- ---- done

-- Step 3, full
unfoldable pub filled_if : Bool → Charge → Charge
filled_if full x = cond full (filled x) x

-- Step 4
unfoldable pub charge_ended : Ending → Charge → Charge
charge_ended Above x = x
charge_ended Edvf x = emptied x
charge_ended Edv1 x = without_run x
charge_ended Qualified x = taught x

unfoldable pub charge_reached : Reached → Charge → Charge
charge_reached r x = charge_ended r.ending (filled_if r.full x)

unfoldable pub flags_ended : Ending → Flags → Flags
flags_ended Above f = f
flags_ended Edvf f = at_edvf f
flags_ended Edv1 f = at_edv1 f
flags_ended Qualified f = at_taught f
