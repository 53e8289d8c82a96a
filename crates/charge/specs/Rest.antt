-- "A rest of n windows" of paper 01: what it makes of the charge. Definitions only; assumes nothing.
use Rattle.std.specs.Prelude.{ℕ, zero, suc}
use Rattle.grains.specs.Run.{unless_passed}
use Rattle.charge.specs.Charge.{leaked}
use Rattle.charge.specs.declared.charge.Charge.{Charge}

-- "h loses the leak, DCR gains it if VDQ is set, and the passing rule of step 2 applies"
unfoldable pub rested_once : ℕ → Charge → Charge
rested_once rate x =
    record {
      held = (leaked rate x).held;
      lmd = (leaked rate x).lmd;
      run = unless_passed (leaked rate x).run;
    }

-- "acts n times"; the rate is SD × W, the same in each window
unfoldable pub rested : ℕ → ℕ → Charge → Charge
rested zero rate x = x
rested (suc n) rate x = rested n rate (rested_once rate x)
