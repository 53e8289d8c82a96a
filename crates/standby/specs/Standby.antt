-- The standby current SI: step 5, opening, resets and what 14 asks of it in paper 01, by A1 of paper 02: "SI is to be kept in sixteenths".
-- Definitions only; assumes nothing.
use Rattle.std.specs.Prelude.{Bool, not, ◌&&◌, cond, ℕ, ◌+◌, ◌*◌, ◌/◌, eqb, leb}
use Rattle.command.specs.declared.command.Command.{Command}
use Rattle.command.specs.declared.command.Command.TheVariants.{Setting, Reset}

-- a current in units, as sixteenths
abbrev pub sixteenths : ℕ → ℕ
sixteenths units = 16 * units

-- "opening at 16 × S0"
abbrev pub opened_standby : ℕ → ℕ
opened_standby s0 = sixteenths s0

-- FRST and PRST: "as opened"
unfoldable pub standby_obeyed : Command → ℕ → ℕ → ℕ
standby_obeyed (Setting setting) s0 si = si
standby_obeyed (Reset reset) s0 si = opened_standby s0

-- a load that is no more than standby: "c < 0 and IAV ≤ 2 × S0"; the discharge is |c| where c < 0, else 0
abbrev pub is_light : ℕ → ℕ → Bool
is_light s0 discharge = not (eqb discharge 0) && leb discharge (2 * s0)

-- Step 5: "new = floor(15 × old / 16) + IAV"
unfoldable pub averaged : ℕ → ℕ → ℕ → ℕ
averaged s0 si discharge = cond (is_light s0 discharge) (15 * si / 16 + discharge) si

-- "the sixteenths, at most 32 × S0"
unfoldable pub standby_accepted : ℕ → ℕ → Bool
standby_accepted s0 si = leb si (32 * s0)

-- "The register shows the ceiling of a sixteenth of it"
unfoldable pub shown : ℕ → ℕ
shown si = (si + 15) / 16
