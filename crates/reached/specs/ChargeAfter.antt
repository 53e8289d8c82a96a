-- Steps 1 to 4 of a window in paper 01, of the charge alone: the sums, what they reach, and what that makes of the charge. Definitions only;
-- assumes nothing.
use Rattle.std.specs.Prelude.{ℕ}
use Rattle.charge.specs.Charge.{leaked, moved}
use Rattle.charge.specs.declared.charge.Charge.{Charge}
use Rattle.configuration.specs.Terms.{Terms}
use Rattle.grains.specs.Leak.{leak_rate}
use Rattle.sample.specs.declared.current.Current.{Current}
use Rattle.reached.specs.Reached.{Reached, charge_reached, reached_by}

-- Steps 1 and 2: the leak at the NAC from before, then the sum of the counted current, with the empty stop of step 3
unfoldable pub summed : Terms → Current → ℕ → Charge → Charge
summed terms c t x = moved c (leaked (leak_rate terms.sd t) x)

-- what steps 3 and 4 find
unfoldable pub reached_in : Terms → Current → ℕ → ℕ → Charge → Reached
reached_in terms c v t x = reached_by terms c v t (summed terms c t x)

-- the charge that the window leaves
unfoldable pub charge_after : Terms → Current → ℕ → ℕ → Charge → Charge
charge_after terms c v t x = charge_reached (reached_in terms c v t x) (summed terms c t x)
