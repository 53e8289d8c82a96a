-- The leak of "a rest of n windows" of paper 01, and how many of its windows take the same (A3 of paper 02). Definitions only; assumes nothing.
use Rattle.std.specs.Prelude.{cond, ℕ, zero, suc, ◌+◌, ◌/◌, ◌%◌, min, eqb}
use Rattle.grains.specs.Grains.{grains_per_count, saturating_difference}
use Rattle.grains.specs.Leak.{leak}

-- "h loses the leak", n times: what it loses in all. The rate is SD × W, the same in each window
unfoldable pub rest_leak : ℕ → ℕ → ℕ → ℕ
rest_leak zero rate held = 0
rest_leak (suc n) rate held = leak held rate + rest_leak n rate (saturating_difference held (leak held rate))

-- h mod G: what may leak before a count is lost
abbrev pub grains_over : ℕ → ℕ
grains_over held = held % grains_per_count

-- The windows of a step start with the same NAC and so take the same leak: the first, and one more for each whole leak in h mod G. Without a leak
-- they are all that are left
unfoldable pub step_windows : ℕ → ℕ → ℕ → ℕ
step_windows held grains left = cond (eqb grains 0) left (min left (grains_over held / grains + 1))
