-- A charge that 14 does not refuse and whose LMD fits its two bytes stays one through a window: where the sum is above LMD × G the window is full, and
-- what is learned fits two bytes. Assumes nothing.
use mathlib.Core.Bool.{Bool, true, false, cond, ◌&&◌, ◌||◌}
use mathlib.Core.Path.{◌≡◌, refl}
use Prim.Native.Nat.{ℕ, ◌*◌, ◌≤◌, ◌<◌, ◌^◌}
use native.Mathlib.Omega.{arith}
use lib.Dec.{leb}
use borrow.Author.Tests.{leb-false}
use Rattle.charge.specs.Charge.{emptied, filled, leaked, moved, taught, without_run}
use Rattle.charge.specs.declared.charge.Charge.{Charge}
use Rattle.charge.proofs.ChargeKept.{ChargeTaken, charge_taken, moved_held, moved_lmd, moved_sound}
use Rattle.charge.proofs.RunKept.{none_sound, started_sound}
use Rattle.configuration.specs.Terms.{Terms}
use Rattle.grains.specs.Grains.{grains_of_counts}
use Rattle.grains.specs.Leak.{leak_rate}
use Rattle.grains.specs.Learning.{learned}
use Rattle.grains.specs.Run.{started_run}
use Rattle.sample.specs.declared.current.Current.{Current}
use Rattle.sample.proofs.CurrentLaws.{no_charge}
use Rattle.reached.specs.ChargeAfter.{charge_after, reached_in, summed}
use Rattle.reached.specs.Full.{is_full, taper_voltage}
use Rattle.reached.specs.Reached.{charge_ended, charge_reached, filled_if, reached_by}
use Rattle.reached.specs.declared.ending.Ending.{Ending}
use Rattle.reached.specs.declared.ending.Ending.TheVariants.{Above, Edvf, Edv1, Qualified}

-- ---- step 3

or_left : (a b : Bool) → (a || b) ≡ false → a ≡ false
or_left true b e = e
or_left false b e = refl

module _ (y : Charge) (k : ChargeTaken y) (rate : ℕ) (low : rate ≤ 1_920) (c : Current) (small : c.magnitude ≤ 65_535) (terms : Terms) (v : ℕ) where
  abbrev sum : Charge
  sum = moved c (leaked rate y)

  abbrev full : Bool
  full = is_full terms c v sum.held sum.lmd

  not_full_within : full ≡ false → sum.held ≤ grains_of_counts y.lmd
  unfolding is_full
  not_full_within e = go c.charging refl e
    where
      within : y.held ≤ grains_of_counts y.lmd
      within = k.sound.within

      go : (t : Bool) → c.charging ≡ t
          → (t && (leb (grains_of_counts sum.lmd) sum.held || (leb c.magnitude (2 * terms.taper) && leb taper_voltage v))) ≡ false
          → sum.held ≤ grains_of_counts y.lmd
      go true p q =
          let s = leb-false (grains_of_counts sum.lmd) sum.held
          (or_left (leb (grains_of_counts sum.lmd) sum.held) (leb c.magnitude (2 * terms.taper) && leb taper_voltage v) q) in
          let m = moved_lmd y k rate low c in
          omega arith
      go false p q =
          let z = no_charge c p in
          let h = moved_held y k rate low c small in
          let w = within in
          omega arith

  filled_taken : ChargeTaken (filled_if full sum)
  unfolding filled_if filled
  filled_taken = go full refl
    where
      above : 0 < y.lmd
      above = k.sound.learned

      fits : y.lmd < 256 ^ 2
      fits = k.fits.lmd

      go : (t : Bool) → full ≡ t
          → ChargeTaken (cond t (record { held = grains_of_counts sum.lmd; lmd = sum.lmd; run = started_run }) sum)
      go true e =
          let m = moved_lmd y k rate low c in
          let i = above in
          let j = fits in
          charge_taken _ (record { learned = omega arith; within = omega arith; run = started_sound }) (omega arith)
      go false e =
          let m = moved_lmd y k rate low c in
          let i = above in
          let j = fits in
          let h = not_full_within e in
          charge_taken _ (record { learned = omega arith; within = omega arith; run = moved_sound y k rate low c }) (omega arith)

-- ---- step 4

learned_within : (lmd dcr : ℕ) → learned lmd dcr < 256 ^ 2
unfolding learned
learned_within lmd dcr = omega arith

learned_above : (lmd dcr : ℕ) → 0 < lmd → 0 < learned lmd dcr
unfolding learned
learned_above lmd dcr h = omega arith

ended_taken : (e : Ending) (y : Charge) → ChargeTaken y → ChargeTaken (charge_ended e y)
unfolding charge_ended emptied without_run taught
ended_taken Above y k = k
ended_taken Edvf y k = charge_taken _ (record { learned = k.sound.learned; within = omega arith; run = none_sound }) k.fits.lmd
ended_taken Edv1 y k = charge_taken _ (record { learned = k.sound.learned; within = k.sound.within; run = none_sound }) k.fits.lmd
ended_taken Qualified y k =
    charge_taken _ (record { learned = learned_above y.lmd y.run.dcr k.sound.learned; within = omega arith; run = none_sound })
    (learned_within y.lmd y.run.dcr)

-- ---- the window

pub window_taken : (terms : Terms) (c : Current) (v t : ℕ) (y : Charge) → ChargeTaken y → leak_rate terms.sd t ≤ 1_920 → c.magnitude ≤ 65_535
    → ChargeTaken (charge_after terms c v t y)
unfolding charge_after charge_reached reached_in reached_by summed
window_taken terms c v t y k low small = ended_taken _ _ (filled_taken y k (leak_rate terms.sd t) low c small terms v)
