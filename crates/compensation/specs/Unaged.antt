-- "Registers" of paper 01: the compensation of a cell that has not aged. Definitions only; assumes nothing.
use Rattle.std.specs.Prelude.{ℕ, ◌+◌, ◌-◌, ◌*◌}
use Rattle.configuration.specs.Configuration.{ilmd, dcgn, dcoff, tcgn}
use Rattle.configuration.specs.declared.settings.Settings.{Settings}
use Rattle.compensation.specs.Compensation.{ceiling_of, dt}

-- "DCMP(I) = the ceiling of (I × DCGN × (128 + TCGN × dt) − 4,096 × DCGN × DCOFF × ILMD) / 32,768, at least 0"
unfoldable pub dcmp_unaged : Settings → ℕ → ℕ → ℕ
dcmp_unaged s i temp = ceiling_of (i * dcgn s * (128 + tcgn s * dt s temp) - 4_096 * dcgn s * dcoff s * ilmd s) 32_768
