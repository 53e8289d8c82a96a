-- The number of each way of opening. Assumes nothing.
use mathlib.Core.Bool.{true, false}
use mathlib.Core.List.{List}
use mathlib.Core.Path.{◌≡◌}
use Prim.Native.Nat.{ℕ}
use lib.Dec.{eqb}
use lib.ListN.{length}
use Rattle.configuration.specs.Configuration.{ilmd}
use Rattle.configuration.specs.Settings.{opened_settings}
use Rattle.refusals.specs.Refusal as Refusal
use Rattle.gauge.specs.Opening.{open_refusal}

module _ (b : List ℕ) where
  pub open_length : eqb (length b) 10 ≡ false → open_refusal b ≡ Refusal.configuration_length
  unfolding open_refusal
  open_length p = simp p

  pub open_capacity : eqb (length b) 10 ≡ true → eqb (ilmd (opened_settings b)) 0 ≡ true → open_refusal b ≡ Refusal.ilmd_zero
  unfolding open_refusal
  open_capacity p q = simp (p, q)

  pub open_done : eqb (length b) 10 ≡ true → eqb (ilmd (opened_settings b)) 0 ≡ false → open_refusal b ≡ Refusal.none
  unfolding open_refusal
  open_done p q = simp (p, q)
