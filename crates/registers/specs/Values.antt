-- "Registers" of paper 01: the flags, the capacities and the standby current that are shown. Definitions only; assumes nothing.
use Rattle.std.specs.Prelude.{ℕ, ◌*◌, ◌/◌}
use Rattle.compensation.specs.Compensation.{compensated, dcmp}
use Rattle.flags.specs.Byte.{flags_byte}
use Rattle.gauge.specs.declared.state.Gauge.{Gauge}
use Rattle.grains.specs.Grains as Grains
use Rattle.sample.specs.Current.{discharge_current}
use Rattle.standby.specs.Standby.{shown}

-- "NAC = floor(h / G)"
abbrev pub nac : Gauge → ℕ
nac g = Grains.nac g.charge.held

-- "FLAGS: 7 CHGS, 4 CI, 2 VDQ, 1 EDV1, 0 EDVF."
abbrev pub flags : Gauge → ℕ
flags g = flags_byte g.sample.current.charging g.charge.run.vdq g.flags

-- "RSOC = floor(100 × NAC / LMD)."
unfoldable pub rsoc : Gauge → ℕ
rsoc g = 100 * nac g / g.charge.lmd

-- DCMP(I) at the last TEMP and, "judged against the aged formula", at CYCT (A5 of paper 02)
abbrev pub aged_dcmp : Gauge → ℕ → ℕ
aged_dcmp g i = dcmp g.settings i g.sample.temperature g.counters.cycles.cyct

-- the counts that are usable at a current I: "max(0, NAC − DCMP(I))"
unfoldable pub usable_at : Gauge → ℕ → ℕ
usable_at g i = compensated (nac g) (aged_dcmp g i)

-- IAV "if c < 0", else 0
abbrev pub present_discharge : Gauge → ℕ
present_discharge g = discharge_current g.sample.current

-- "D = DCMP(IAV) if c < 0, else DCMP(0)"
unfoldable pub reduction : Gauge → ℕ
reduction g = aged_dcmp g (present_discharge g)

-- "CAC = max(0, NAC − D)": what is usable at IAV
abbrev pub cac : Gauge → ℕ
cac g = usable_at g (present_discharge g)

-- "FCAC = max(0, LMD − D)."
unfoldable pub fcac : Gauge → ℕ
fcac g = compensated g.charge.lmd (reduction g)

-- SI: "The register shows the ceiling of a sixteenth of it" (A1 of paper 02)
abbrev pub si : Gauge → ℕ
si g = shown g.standby
