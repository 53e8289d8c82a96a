-- The charge held, the learned capacity and the run: what opening and the steps of a window in paper 01 make of them.
-- Definitions only; assumes nothing.
use Rattle.std.specs.Prelude.{Bool, cond, not, ◌&&◌, ℕ, ◌/◌, eqb, leb, ltb}
use Rattle.configuration.specs.Terms.{Terms}
use Rattle.grains.specs.Grains.{grains_of_counts, grains_of_current, saturating_difference, saturating_sum}
use Rattle.grains.specs.Leak.{leak}
use Rattle.grains.specs.Learning.{learned}
use Rattle.grains.specs.Run.{drained, no_run, run_accepted, started_run, unless_passed}
use Rattle.grains.specs.declared.run.Run.{Run}
use Rattle.sample.specs.Current.{charge_current, discharge_current}
use Rattle.sample.specs.declared.current.Current.{Current}
use Rattle.charge.specs.declared.charge.Charge.{Charge}

-- Opening: "LMD = design capacity, h, DCR .. 0"; no flag but CI, so VDQ clear
unfoldable pub opened_charge : Terms → Charge
opened_charge terms = record { held = 0; lmd = terms.capacity; run = no_run }

-- ---- step 1

-- "h loses the leak; if VDQ is set, DCR (run drain, grains) gains it."
unfoldable pub leaked : ℕ → Charge → Charge
leaked rate x =
    record {
      held = saturating_difference x.held (leak x.held rate);
      lmd = x.lmd;
      run = drained x.run (leak x.held rate);
    }

-- ---- step 2

-- "h gains 192,000 × c", where c > 0
abbrev pub raised : Current → ℕ → ℕ
raised c held = saturating_sum held (grains_of_current (charge_current c))

-- 192,000 × |c| where c < 0, else 0
abbrev pub drawn : Current → ℕ
drawn c = grains_of_current (discharge_current c)

-- "If c > 0: VDQ .. cleared, DCR 0. If c < 0 and VDQ: DCR gains 192,000 × |c|. If DCR passes 65,535 × G, VDQ is cleared, DCR 0."
unfoldable pub run_moved : Bool → ℕ → Run → Run
run_moved charging grains run = cond charging no_run (unless_passed (drained run grains))

-- Step 3, the empty stop: "If c < 0 and h ≤ 0", the sum of step 2 being what was held less what is drawn
abbrev pub empty_stop : Current → ℕ → Bool
empty_stop c held = ltb 0 (discharge_current c) && leb (raised c held) (drawn c)

-- "empty stop, h = 0", else the sum
unfoldable pub held_moved : Current → ℕ → ℕ
held_moved c held = cond (empty_stop c held) 0 (saturating_difference (raised c held) (drawn c))

-- step 2 with the empty stop; "VDQ kept"
unfoldable pub moved : Current → Charge → Charge
moved c x = record { held = held_moved c x.held; lmd = x.lmd; run = run_moved c.charging (drawn c) x.run }

-- ---- steps 3 and 4

-- Full: "h = LMD × G, VDQ set, DCR 0"
unfoldable pub filled : Charge → Charge
filled x = record { held = grains_of_counts x.lmd; lmd = x.lmd; run = started_run }

-- EDVF: "h = 0 .. VDQ cleared, DCR 0"
unfoldable pub emptied : Charge → Charge
emptied x = record { held = 0; lmd = x.lmd; run = no_run }

-- "VDQ is cleared, DCR 0", all else kept: E1 without a run that qualifies, and PRST
unfoldable pub without_run : Charge → Charge
without_run x = record { held = x.held; lmd = x.lmd; run = no_run }

-- a qualified run: "LMD becomes ..; h = floor(LMD / 16) × G", and "VDQ is cleared, DCR 0"
unfoldable pub taught : Charge → Charge
taught x =
    record {
      held = grains_of_counts (learned x.lmd x.run.dcr / 16);
      lmd = learned x.lmd x.run.dcr;
      run = no_run;
    }

-- ---- what 14 asks: "LMD > 0, h ≤ LMD × G", and of the run

unfoldable pub charge_accepted : Charge → Bool
charge_accepted x = not (eqb x.lmd 0) && (leb x.held (grains_of_counts x.lmd) && run_accepted x.run)
