-- What a key decides, by whatever table: a refusal's number is at most 13, WRTLMD is obeyed only where AR is above 0, and MODEs with the same
-- highest command bit decide alike. Assumes nothing.
use Prim.Native.Nat.{ℕ, ◌<◌, ◌≤◌}
use Rattle.std.specs.Prelude.{Option, None, Some, Ok, Err}
use Rattle.command.specs.Command.{Decision, Table, command_at, command_bit, commands, decide, decide_bit, decide_by, decide_row, decision_number, highest_command_bit, is_key, is_wrtlmd, no_bit}
use Rattle.command.specs.declared.command.Command.{Command}
use Rattle.command.specs.declared.command.Command.TheVariants.{Setting}
use Rattle.command.specs.declared.command.Setting.TheVariants.{Wrtlmd}
use Rattle.refusals.specs.declared.Refusal.{Refusal}
use Rattle.refusals.specs.declared.Refusal.TheVariants.{NoCommandBit, NotCarried, UnknownKey, WrtlmdZero}
use borrow.Author.Tests.{eqb-false}
use lib.Dec.{eqb}
use mathlib.Core.Bool.{Bool, false, true, cond, ◌&&◌}
use mathlib.Core.Path.{◌≡◌, refl, sym, ap, ◌∙◌}
use native.Mathlib.Omega.{arith}

-- what holds of each refusal, and of each command that is obeyed, holds of every decision
module _ (ar : ℕ) (P : Decision → Type 0) (unknown : P (Err UnknownKey)) (no_bit_lem : P (Err NoCommandBit))
    (not-Carried : P (Err NotCarried)) (zero-ar : P (Err WrtlmdZero))
    (obeyed : (command : Command) → (is_wrtlmd command && eqb ar 0) ≡ false → P (Ok command)) where
  either : (t : Bool) (d e : Decision) → P d → P e → P (cond t d e)
  either true d e p q = p
  either false d e p q = q

  unless_zero : (t : Bool) (command : Command) → (is_wrtlmd command && eqb ar 0) ≡ t → P (cond t (Err WrtlmdZero) (Ok command))
  unless_zero true command e = zero-ar
  unless_zero false command e = obeyed command e

  of_row : (found : Option Command) → P (decide_row ar found)
  of_row None = not-Carried
  of_row (Some command) = unless_zero (is_wrtlmd command && eqb ar 0) command refl

  of_bit : (table : Table) (key : ℕ) (bit : Option ℕ) → P (decide_bit table key bit ar)
  of_bit table key None = no_bit_lem
  of_bit table key (Some bit) = of_row (command_at key bit table.rows)

  pub of_decision : (table : Table) (key : ℕ) (bit : Option ℕ) → P (decide_by table key bit ar)
  unfolding decide_by
  of_decision table key bit = either (is_key key table.keys) _ _ (of_bit table key bit) unknown

module _ (table : Table) (key : ℕ) (bit : Option ℕ) (ar : ℕ) where
  pub refusal_most : decision_number (decide_by table key bit ar) ≤ 13
  refusal_most =
      of_decision ar (λ d. decision_number d ≤ 13) (omega arith) (omega arith) (omega arith) (omega arith) (λ command e. omega arith) table key bit

  pub wrtlmd_above_zero : decide_by table key bit ar ≡ Ok (Setting Wrtlmd) → 0 < ar
  wrtlmd_above_zero =
      of_decision ar (λ d. d ≡ Ok (Setting Wrtlmd) → 0 < ar) refused refused refused refused only_above table key bit
    where
      refused : {refusal : Refusal} → ◌≡◌ {A = Decision} (Err refusal) (Ok (Setting Wrtlmd)) → 0 < ar
      refused e = let z : ◌≡◌ {A = ℕ} 0 1 = cc in absurd (omega arith)

      only_above : (command : Command) → (is_wrtlmd command && eqb ar 0) ≡ false → ◌≡◌ {A = Decision} (Ok command) (Ok (Setting Wrtlmd)) → 0 < ar
      only_above command f e =
          let same : command ≡ Setting Wrtlmd = cc in
          let n : ar ≡ 0 → ⊥ = eqb-false ar 0 (ap (λ (c : Command). is_wrtlmd c && eqb ar 0) (sym same) ∙ f) in
          omega arith

module _ (key mode ar : ℕ) where
  pub key_most : decision_number (decide key mode ar) ≤ 13
  unfolding decide
  key_most = refusal_most commands key (command_bit mode) ar

  pub wrtlmd_above : decide key mode ar ≡ Ok (Setting Wrtlmd) → 0 < ar
  unfolding decide
  wrtlmd_above = wrtlmd_above_zero commands key (command_bit mode) ar

  pub bit_decides : (other : ℕ) → highest_command_bit mode ≡ highest_command_bit other → decide key mode ar ≡ decide key other ar
  unfolding decide
  bit_decides other e = ap (λ (n : ℕ). decide_by commands key (cond (eqb n no_bit) None (Some n)) ar) e
