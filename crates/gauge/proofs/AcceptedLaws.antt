-- What acceptance says of a gauge as facts about its parts, both ways. Assumes nothing.
use mathlib.Core.Bool.{Bool, true, false, ◌&&◌}
use mathlib.Core.Path.{◌≡◌}
use Prim.Native.Nat.{ℕ, ◌≤◌}
use native.Mathlib.Omega.{arith}
use Rattle.charge.specs.Charge.{charge_accepted}
use Rattle.charge.proofs.ChargeLaws.{ChargeSound, charge_accepted_lem, charge_sound}
use Rattle.configuration.specs.Configuration.{dmf, s0}
use Rattle.configuration.specs.Settings.{settings_accepted}
use Rattle.counters.specs.Counters.{counters_accepted}
use Rattle.grains.specs.Grains.{grains_of_counts, nac}
use Rattle.numbers.proofs.BoolLaws.{and_left, and_right, and_both}
use Rattle.sample.specs.Sample.{sample_accepted}
use Rattle.standby.specs.Standby.{standby_accepted}
use Rattle.sample.proofs.SampleLaws.{SampleSound, sample_accepted_lem, sample_sound}
use Rattle.gauge.specs.Accepted.{accepted}
use Rattle.gauge.specs.declared.state.Gauge.{Gauge}

pub record Sound (g : Gauge) : Type 0 where
  pub settings : settings_accepted g.settings ≡ true
  pub charge : ChargeSound g.charge
  pub standby : standby_accepted (s0 g.settings) g.standby ≡ true
  pub sample : SampleSound (dmf g.settings) g.sample
  pub counters : counters_accepted g.counters ≡ true

module _ (g : Gauge) where
  opens : Bool
  opens = settings_accepted g.settings

  charged : Bool
  charged = charge_accepted g.charge

  stands : Bool
  stands = standby_accepted (s0 g.settings) g.standby

  sampled : Bool
  sampled = sample_accepted (dmf g.settings) g.sample

  counted : Bool
  counted = counters_accepted g.counters

  pub sound : accepted g ≡ true → Sound g
  unfolding accepted opens charged stands sampled counted
  sound e =
      let b = and_right opens (charged && (stands && (sampled && counted))) e in
      let d = and_right charged (stands && (sampled && counted)) b in
      let f = and_right stands (sampled && counted) d in
      record {
        settings = and_left opens (charged && (stands && (sampled && counted))) e;
        charge = charge_sound g.charge (and_left charged (stands && (sampled && counted)) b);
        standby = and_left stands (sampled && counted) d;
        sample = sample_sound (dmf g.settings) g.sample (and_left sampled counted f);
        counters = and_right sampled counted f;
      }

  pub sound_accepted : Sound g → accepted g ≡ true
  unfolding accepted opens charged stands sampled counted
  sound_accepted s =
      and_both opens (charged && (stands && (sampled && counted))) s.settings
      (and_both charged (stands && (sampled && counted)) (charge_accepted_lem g.charge s.charge)
      (and_both stands (sampled && counted) s.standby
      (and_both sampled counted (sample_accepted_lem (dmf g.settings) g.sample s.sample) s.counters)))

  -- the charge held is at most LMD counts
  pub nac_within : accepted g ≡ true → nac g.charge.held ≤ g.charge.lmd
  nac_within e = nac_below g.charge.held g.charge.lmd (sound e).charge.within
    where
      nac_below : (h l : ℕ) → h ≤ grains_of_counts l → nac h ≤ l
      nac_below h l p = omega arith

  -- ---- the five tests, in their order

  pub no_settings : settings_accepted g.settings ≡ false → false ≡ accepted g
  unfolding accepted
  no_settings p = simp p

  module _ (p : settings_accepted g.settings ≡ true) where
    pub no_charge : charge_accepted g.charge ≡ false → false ≡ accepted g
    unfolding accepted
    no_charge q = simp (p, q)

    module _ (q : charge_accepted g.charge ≡ true) where
      pub no_standby : standby_accepted (s0 g.settings) g.standby ≡ false → false ≡ accepted g
      unfolding accepted
      no_standby r = simp (p, q, r)

      module _ (r : standby_accepted (s0 g.settings) g.standby ≡ true) where
        pub no_sample_lem : sample_accepted (dmf g.settings) g.sample ≡ false → false ≡ accepted g
        unfolding accepted
        no_sample_lem s = simp (p, q, r, s)

        pub last_test : {b : Bool} → sample_accepted (dmf g.settings) g.sample ≡ true → b ≡ counters_accepted g.counters → b ≡ accepted g
        unfolding accepted
        last_test s e = simp (p, q, r, s) e
