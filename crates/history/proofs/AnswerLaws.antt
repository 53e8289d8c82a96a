-- What a call that is not refused says of its arguments. Assumes nothing.
use mathlib.Core.Bool.{Bool, true, false, cond}
use mathlib.Core.Path.{◌≡◌, refl}
use native.Mathlib.Omega.{arith}
use lib.IntN.{ℤ}
use Rattle.refusals.specs.Refusal as Refusal
use Rattle.refusals.specs.Refusal.{or_else}
use Rattle.sample.specs.Range.{current_in_range, current_refusal, temperature_in_range, temperature_refusal, voltage_in_range, voltage_refusal}

pub record InRange (a v t : ℤ) : Type 0 where
  pub current : current_in_range a ≡ true
  pub voltage : voltage_in_range v ≡ true
  pub temperature : temperature_in_range t ≡ true

passes_three : (p q r : Bool)
    → or_else (cond p Refusal.none Refusal.current_range)
    (or_else (cond q Refusal.none Refusal.voltage_range) (cond r Refusal.none Refusal.temperature_range)) ≡ 0
    → (p ≡ true) × (q ≡ true) × (r ≡ true)
passes_three true true true e = (refl, refl, refl)
passes_three true true false e = let z : ⊥ = omega arith in absurd z
passes_three true false r e = let z : ⊥ = omega arith in absurd z
passes_three false q r e = let z : ⊥ = omega arith in absurd z

-- a window with number 0 has a sample in range
pub window_in_range : (a v t : ℤ) → or_else (current_refusal a) (or_else (voltage_refusal v) (temperature_refusal t)) ≡ 0 → InRange a v t
window_in_range a v t e =
    let p = passes_three (current_in_range a) (voltage_in_range v) (temperature_in_range t) e in
    record { current = p.0; voltage = p.1; temperature = p.2 }

-- a rest with number 0 has a temperature in range
pub rest_in_range_lem : (p : Bool) (t : ℤ) → cond p (temperature_refusal t) Refusal.rest_length ≡ 0 → temperature_in_range t ≡ true
rest_in_range_lem p t = go p (temperature_in_range t)
  where
    go : (p r : Bool) → cond p (cond r Refusal.none Refusal.temperature_range) Refusal.rest_length ≡ 0 → r ≡ true
    go true true e = refl
    go true false e = let z : ⊥ = omega arith in absurd z
    go false r e = let z : ⊥ = omega arith in absurd z
