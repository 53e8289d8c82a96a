-- A run and its drain (steps 1 and 2 of a window). Definitions only; assumes nothing.
use Rattle.std.specs.Prelude.{Bool, true, false, cond, not, ◌&&◌, ◌||◌, ℕ, eqb}
use Rattle.grains.specs.Grains.{saturating_sum, passes}
use Rattle.grains.specs.declared.run.Run.{Run}

-- "VDQ is cleared, DCR 0"
abbrev pub no_run : Run
no_run = record { vdq = false; dcr = 0 }

-- "VDQ set, DCR 0"
abbrev pub started_run : Run
started_run = record { vdq = true; dcr = 0 }

-- "if VDQ is set, DCR gains" the grains
unfoldable pub drained : Run → ℕ → Run
drained run grains = cond run.vdq (record { vdq = true; dcr = saturating_sum run.dcr grains }) run

-- "If DCR passes 65,535 × G, VDQ is cleared, DCR 0."
unfoldable pub unless_passed : Run → Run
unless_passed run = cond (passes run.dcr) no_run run

-- "DCR ≤ 65,535 × G and 0 without VDQ"
unfoldable pub run_accepted : Run → Bool
run_accepted run = not (passes run.dcr) && (run.vdq || eqb run.dcr 0)
