-- A charge that 14 does not refuse and whose LMD fits its two bytes stays one through a rest and a command, and the sums of a window keep its LMD and
-- its run's drain within theirs. A leak is never more than is held, and the passing rule bounds every drain. Assumes nothing.
use mathlib.Core.Path.{◌≡◌, refl, sym, ◌∙◌}
use Prim.Native.Nat.{ℕ, zero, suc, ◌+◌, ◌-◌, ◌≤◌, ◌<◌, ◌^◌}
use native.Mathlib.Omega.{arith}
use lib.Dec.{ltb}
use Rattle.command.specs.declared.command.Command.{Command}
use Rattle.command.specs.declared.command.Command.TheVariants.{Setting, Reset}
use Rattle.command.specs.declared.command.Reset.TheVariants.{Prst, Frst}
use Rattle.command.specs.declared.command.Setting.TheVariants.{Wrtnac, Done, Wrtlmd}
use Rattle.configuration.specs.Configuration.{sd}
use Rattle.configuration.specs.Terms.{Terms}
use Rattle.configuration.specs.declared.settings.Settings.{Settings}
use Rattle.grains.specs.Grains.{grains_of_current}
use Rattle.grains.specs.Leak.{leak, leak_rate}
use Rattle.grains.specs.Run.{drained}
use Rattle.grains.proofs.LeakLaws.{leak_rate_within, leak_within}
use Rattle.sample.specs.Current.{charge_current, discharge_current}
use Rattle.sample.specs.declared.current.Current.{Current}
use Rattle.sample.proofs.CurrentLaws.{charge_within}
use Rattle.charge.specs.Charge.{drawn, filled, held_moved, leaked, moved, opened_charge, raised, without_run}
use Rattle.charge.specs.Fits.{ChargeFits}
use Rattle.charge.specs.Obeyed.{charge_obeyed, written_lmd, written_nac}
use Rattle.charge.specs.Rest.{rested, rested_once}
use Rattle.charge.specs.declared.charge.Charge.{Charge}
use Rattle.charge.proofs.ChargeLaws.{ChargeSound, RunSound, stop_is_difference}
use Rattle.charge.proofs.RunKept.{drained_none, moved_run_sound, none_sound, passed_sound, started_sound}

-- of the widths that every charge has, and not refused by 14
pub record ChargeTaken (y : Charge) : Type 0 where
  pub fits : ChargeFits y
  pub sound : ChargeSound y

-- what 14 asks bounds every width but LMD's
pub charge_taken : (y : Charge) → ChargeSound y → y.lmd < 256 ^ 2 → ChargeTaken y
charge_taken y s l =
    let w = s.within in
    let d = s.run.within in
    record { fits = record { held = omega arith; dcr = omega arith; lmd = l }; sound = s }

-- ---- steps 1 and 2 of a window, and a rest

pub rate_low : (s : Settings) (t : ℕ) → leak_rate (sd s) t ≤ 1_920
rate_low s t = leak_rate_within (sd s) t (let h : sd s ≤ 15 = omega arith in h)

module _ (y : Charge) (b : ChargeTaken y) (rate : ℕ) (low : rate ≤ 1_920) where
  pub leak_most : leak y.held rate ≤ y.held
  leak_most = leak_within y.held rate (omega arith)

  pub once_taken : ChargeTaken (rested_once rate y)
  unfolding rested_once leaked
  once_taken =
      let w = b.sound.within in
      charge_taken (rested_once rate y)
      (record {
        learned = b.sound.learned;
        within = omega arith;
        run = passed_sound (drained y.run (leak y.held rate)) (drained_none y.run (leak y.held rate) b.sound.run.none);
      })
      b.fits.lmd

  module _ (c : Current) where
    -- what is held after the sums: the empty stop is where the difference stops at 0
    pub moved_held : c.magnitude ≤ 65_535 → (moved c (leaked rate y)).held
        ≡ (y.held + grains_of_current (charge_current c)) - (leak y.held rate + grains_of_current (discharge_current c))
    unfolding moved leaked held_moved
    moved_held small =
        let h = leak_most in
        let i = charge_within c in
        let w = b.sound.within in
        let m = b.fits.lmd in
        let d = stop_is_difference (ltb 0 (discharge_current c)) (raised c (y.held - leak y.held rate)) (drawn c) in
        let e : raised c (y.held - leak y.held rate) - drawn c
        ≡ (y.held + grains_of_current (charge_current c)) - (leak y.held rate + grains_of_current (discharge_current c)) = omega arith in
        sym d ∙ e

    pub moved_lmd : (moved c (leaked rate y)).lmd ≡ y.lmd
    unfolding moved leaked
    moved_lmd = refl

    pub moved_sound : RunSound (moved c (leaked rate y)).run
    unfolding moved leaked
    moved_sound =
        moved_run_sound c.charging (grains_of_current (discharge_current c)) (drained y.run (leak y.held rate))
        (drained_none y.run (leak y.held rate) b.sound.run.none)

pub rest_taken : (n rate : ℕ) (y : Charge) → ChargeTaken y → rate ≤ 1_920 → ChargeTaken (rested n rate y)
unfolding rested
rest_taken zero rate y b low = b
rest_taken (suc n) rate y b low = rest_taken n rate (rested_once rate y) (once_taken y b rate low) low

-- ---- opening and the commands

pub opened_taken : (terms : Terms) → 0 < terms.capacity → terms.capacity < 256 ^ 2 → ChargeTaken (opened_charge terms)
unfolding opened_charge
opened_taken terms p q = charge_taken (opened_charge terms) (record { learned = p; within = omega arith; run = none_sound }) q

-- what acceptance asks of a charge, whatever the widths
pub command_sound : (command : Command) (terms : Terms) (ar : ℕ) (y : Charge) → ChargeSound y → 0 < terms.capacity → (command ≡ Setting Wrtlmd → 0 < ar)
    → ChargeSound (charge_obeyed command terms ar y)
unfolding charge_obeyed written_nac written_lmd without_run filled opened_charge
command_sound (Setting Wrtnac) terms ar y s p above = record { learned = s.learned; within = omega arith; run = none_sound }
command_sound (Setting Done) terms ar y s p above = record { learned = s.learned; within = omega arith; run = started_sound }
command_sound (Setting Wrtlmd) terms ar y s p above = record { learned = above refl; within = omega arith; run = none_sound }
command_sound (Reset Prst) terms ar y s p above = record { learned = s.learned; within = s.within; run = none_sound }
command_sound (Reset Frst) terms ar y s p above = record { learned = p; within = omega arith; run = none_sound }

pub command_lmd : (command : Command) (terms : Terms) (ar : ℕ) (y : Charge) → y.lmd < 256 ^ 2 → terms.capacity < 256 ^ 2 → ar < 256 ^ 2
    → (charge_obeyed command terms ar y).lmd < 256 ^ 2
unfolding charge_obeyed written_nac written_lmd without_run filled opened_charge
command_lmd (Setting Wrtnac) terms ar y m q w = m
command_lmd (Setting Done) terms ar y m q w = m
command_lmd (Setting Wrtlmd) terms ar y m q w = w
command_lmd (Reset Prst) terms ar y m q w = m
command_lmd (Reset Frst) terms ar y m q w = q
