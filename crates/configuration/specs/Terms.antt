-- The terms of the settings: the numbers that windows, rests, commands and the history are ruled by. They are computed from the settings
-- here and nowhere else, so that no rule reads a byte. Definitions only; assumes nothing.
use Rattle.std.specs.Prelude.{ℕ}
use Rattle.configuration.specs.Configuration.{cold_threshold, design_capacity, dmf, e1, edvf, opened_mode, s0, sd, taper}
use Rattle.configuration.specs.declared.settings.Settings.{Settings}

pub record Terms : Type 0 where
  -- "Design capacity", counts
  pub capacity : ℕ
  -- "EDVF" and "E1", mV
  pub edvf : ℕ
  pub e1 : ℕ
  -- "Initial standby current S0", units
  pub s0 : ℕ
  -- "DMF", units
  pub dmf : ℕ
  -- "SD", 0.1 % a day at 25 °C
  pub sd : ℕ
  pub taper : ℕ
  -- 4 × (273 + TOFF), quarter kelvins
  pub cold : ℕ
  -- MODE as opened
  pub mode : ℕ

abbrev pub terms_of : Settings → Terms
terms_of s =
    record {
      capacity = design_capacity s;
      edvf = edvf s;
      e1 = e1 s;
      s0 = s0 s;
      dmf = dmf s;
      sd = sd s;
      taper = taper s;
      cold = cold_threshold s;
      mode = opened_mode s;
    }
