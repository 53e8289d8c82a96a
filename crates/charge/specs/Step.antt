-- A3 of paper 02: windows of a rest that start with the same NAC are one step. Definitions only; assumes nothing.
use Rattle.std.specs.Prelude.{◌≡◌, ℕ, suc, ◌*◌, ◌≤◌}
use Rattle.grains.specs.Grains.{saturating_difference}
use Rattle.grains.specs.Leak.{leak}
use Rattle.grains.specs.Rest.{grains_over}
use Rattle.grains.specs.Run.{drained, unless_passed}
use Rattle.charge.specs.Rest.{rested}
use Rattle.charge.specs.declared.charge.Charge.{Charge}

-- h loses grains at once, "DCR gains" them "if VDQ is set, and the passing rule of step 2 applies"
unfoldable pub leaked_at_once : ℕ → Charge → Charge
leaked_at_once grains x =
    record {
      held = saturating_difference x.held grains;
      lmd = x.lmd;
      run = unless_passed (drained x.run grains);
    }

-- with the leak l of now and o = h mod G, the next floor(o / l) + 1 windows start with the NAC of now: n + 1 windows with n × l ≤ o lose (n + 1) × l
abbrev pub SameNac : Type 0
SameNac =
    (n rate : ℕ) (x : Charge) → n * leak x.held rate ≤ grains_over x.held
    → rested (suc n) rate x ≡ leaked_at_once (suc n * leak x.held rate) x
