-- What the history of demand 3 in paper 01 ("Fixing points of demand 3 ..") keeps of the cell, and what a window, a rest and a setting make of it. It
-- shares the leak table, the meanings of the configuration and the learn rule. Definitions only; assumes nothing.
use Rattle.std.specs.Prelude.{Bool, cond, ℕ, zero, suc, ◌+◌, ◌*◌, ◌/◌, min, ℤ, pos}
use Rattle.std.proofs.Math.Option.{Option, none, some}
use Rattle.std.specs.Int.Signed.{lt_z}
use Rattle.command.specs.declared.command.Setting.{Setting}
use Rattle.command.specs.declared.command.Setting.TheVariants.{Wrtnac, Done, Wrtlmd}
use Rattle.configuration.specs.Terms.{Terms}
use Rattle.grains.specs.Leak.{leak_rate}
use Rattle.grains.specs.Learning.{learned}
use Rattle.numbers.specs.Signed.{at_least_zero, magnitude}
use Rattle.history.specs.Drain.{gains, unless_above}
use Rattle.history.specs.Sums.{Sums, charge_of, fixed_at, grains_a_count, grains_a_unit, with_current, with_leak}
use Rattle.history.specs.Tests.{qualifies, reaches_e1, reaches_edvf, reaches_full, stops_empty}

pub record Account : Type 0 where
  -- P, Q and K
  pub sums : Sums
  -- L, "learned capacity L"
  pub learned : ℕ
  -- "a run with its drain R or no run"
  pub run : Option ℕ

-- H fixed at a value, with L and the run as they then are
abbrev pub fixing : ℕ → ℕ → Option ℕ → Account
fixing value l run = record { sums = fixed_at value; learned = l; run = run }

abbrev pub with_run : Option ℕ → Account → Account
with_run run x = record { sums = x.sums; learned = x.learned; run = run }

-- ---- "Window"

-- the leak at t, "floor(H / G) from before it being the NAC": NAC × SD × W
unfoldable pub leak_now : Terms → ℤ → Sums → ℕ
leak_now terms t sums = at_least_zero (charge_of sums) / grains_a_count * leak_rate terms.sd (at_least_zero t)

-- "K gains the leak ..; Q gains c. If c > 0, a run ends; otherwise a run's R gains that leak and 192,000 × |c|, and the run ends if R
-- is above 65,535 × G."
unfoldable pub after_sums : Terms → ℤ → ℤ → Account → Account
after_sums terms c t x =
    record {
      sums = with_current c (with_leak (leak_now terms t x.sums) x.sums);
      learned = x.learned;
      run = cond (lt_z (pos 0) c) none (unless_above (gains (leak_now terms t x.sums + grains_a_unit * magnitude c) x.run));
    }

-- "Full (the test of step 3 on H and L): fix H at L × G; a run starts with R 0."
unfoldable pub after_full : Terms → ℤ → ℤ → Account → Account
after_full terms c v x =
    cond (reaches_full terms c v (charge_of x.sums) x.learned)
    (fixing (x.learned * grains_a_count) x.learned (some 0))
    x

-- "Empty stop (c < 0, H ≤ 0): fix H at 0."
unfoldable pub after_empty_stop : ℤ → Account → Account
after_empty_stop c x = cond (stops_empty c (charge_of x.sums)) (fixing 0 x.learned x.run) x

-- "a run ends; it qualifies if .. If it does, L becomes what step 4 gives for its R and the old L, and H is fixed at floor(L / 16) × G."
unfoldable pub after_run : Bool → Option ℕ → Account → Account
after_run qualified none x = with_run none x
after_run qualified (some r) x =
    cond qualified (fixing (learned x.learned r / 16 * grains_a_count) (learned x.learned r) none) (with_run none x)

-- "EDVF window (c < 0, v ≤ EDVF): fix H at 0; a run ends. Otherwise, if c < 0 and v ≤ E1, a run ends"
unfoldable pub after_voltage : Terms → ℤ → ℤ → ℤ → Account → Account
after_voltage terms c v t x =
    cond (reaches_edvf terms c v) (fixing 0 x.learned none)
    (cond (reaches_e1 terms c v) (after_run (qualifies terms c t) x.run x)
    x)

-- the sums, "Then in order. Full .. Empty stop .. EDVF window .. Otherwise"
unfoldable pub after_window : Terms → ℤ → ℤ → ℤ → Account → Account
after_window terms c v t x = after_voltage terms c v t (after_empty_stop c (after_full terms c v (after_sums terms c t x)))

-- ---- "Rest"

-- "K and a run's R gain the leak at t, floor(H / G) from before it being the NAC, and the run ends if R is above 65,535 × G."
unfoldable pub after_rest_window : Terms → ℤ → Account → Account
after_rest_window terms t x =
    record {
      sums = with_leak (leak_now terms t x.sums) x.sums;
      learned = x.learned;
      run = unless_above (gains (leak_now terms t x.sums) x.run);
    }

-- "n times over"
unfoldable pub after_rest : Terms → ℕ → ℤ → Account → Account
after_rest terms zero t x = x
after_rest terms (suc n) t x = after_rest terms n t (after_rest_window terms t x)

-- ---- "Host write"

-- "WRTNAC fixes H at min(AR, L) × G; WRTLMD sets L to AR and fixes H at min(H, L × G); both end a run. DONE fixes H at L × G and starts
-- a run with R 0."
unfoldable pub after_setting : Setting → ℕ → Account → Account
after_setting Wrtnac ar x = fixing (min ar x.learned * grains_a_count) x.learned none
after_setting Done ar x = fixing (x.learned * grains_a_count) x.learned (some 0)
after_setting Wrtlmd ar x = fixing (min (at_least_zero (charge_of x.sums)) (ar * grains_a_count)) ar none
