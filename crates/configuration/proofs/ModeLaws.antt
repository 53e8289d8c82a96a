-- MODE as opened is the sum of PKCFG's bit 7 and the weights of bits 6 and 2. Assumes nothing.
use mathlib.Core.Bool.{Bool, true, false, cond}
use mathlib.Core.Path.{◌≡◌, refl}
use Prim.Native.Nat.{◌+◌, ◌*◌, ◌/◌, ◌%◌, ◌<◌}
use native.Mathlib.Omega.{arith}
use lib.Dec.{eqb}
use borrow.Author.Tests.{eqb-true, eqb-false}
use Rattle.configuration.specs.Configuration.{opened_mode, pkcfg}
use Rattle.configuration.specs.declared.settings.Settings.{Settings}

pub opened_mode_is : (s : Settings) → pkcfg s < 256 → pkcfg s / 128 * 128 + 64 + 4 ≡ opened_mode s
unfolding opened_mode
opened_mode_is s h = go (eqb (pkcfg s / 128 % 2) 1) refl
  where
    go : (t : Bool) → eqb (pkcfg s / 128 % 2) 1 ≡ t → pkcfg s / 128 * 128 + 64 + 4 ≡ cond t 128 0 + 0 + 64 + 4
    go true e = let b = eqb-true (pkcfg s / 128 % 2) 1 e in omega arith
    go false e = let b = eqb-false (pkcfg s / 128 % 2) 1 e in let n : pkcfg s / 128 % 2 ≡ 1 → ⊥ = b in omega (arith, n)
