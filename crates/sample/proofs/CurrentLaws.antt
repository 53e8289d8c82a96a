-- Of the two parts of a counted current the one against its direction is 0, and neither is above its magnitude. Assumes nothing.
use mathlib.Core.Bool.{Bool, true, false, cond}
use mathlib.Core.Path.{◌≡◌}
use Prim.Native.Nat.{◌≤◌}
use native.Mathlib.Omega.{arith}
use Rattle.sample.specs.Current.{charge_current}
use Rattle.sample.specs.declared.current.Current.{Current}

pub no_charge : (c : Current) → c.charging ≡ false → charge_current c ≡ 0
unfolding charge_current
no_charge c e = simp e

pub charge_within : (c : Current) → charge_current c ≤ c.magnitude
unfolding charge_current
charge_within c = go c.charging
  where
    go : (t : Bool) → cond t c.magnitude 0 ≤ c.magnitude
    go true = omega arith
    go false = omega arith
