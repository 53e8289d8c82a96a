-- "Registers" of paper 01: the times that are shown, minutes. With the wrong sign the divisor is 0, and the quotient 65,535.
-- Definitions only; assumes nothing.
use Rattle.std.specs.Prelude.{ℕ, ◌-◌, ◌*◌}
use Rattle.compensation.specs.Compensation.{minutes}
use Rattle.gauge.specs.declared.state.Gauge.{Gauge}
use Rattle.sample.specs.Current.{charge_current}
use Rattle.registers.specs.Values.{nac, present_discharge, si, usable_at}

-- "TTE = 60 × CAC / IAV if c < 0", CAC being what is usable at IAV
unfoldable pub tte : Gauge → ℕ
tte g = minutes (60 * usable_at g (present_discharge g)) (present_discharge g)

-- "TTF = 90 × (LMD − NAC) / IAV if c > 0"
unfoldable pub ttf : Gauge → ℕ
ttf g = minutes (90 * (g.charge.lmd - nac g)) (charge_current g.sample.current)

-- "STTE = 60 × NAC / SI", and "STTE divides by that", the SI shown (A1 of paper 02)
unfoldable pub stte : Gauge → ℕ
stte g = minutes (60 * nac g) (si g)

-- "ARTTE = 60 × max(0, NAC − DCMP(AR)) / AR"
unfoldable pub artte : Gauge → ℕ
artte g = minutes (60 * usable_at g g.host.ar) g.host.ar
