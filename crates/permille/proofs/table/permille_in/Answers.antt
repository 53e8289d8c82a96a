-- In the table the entry of the voltage. Assumes nothing.
use mathlib.Core.Bool.{true}
use mathlib.Core.Path.{◌≡◌, ap, sym, ◌∙◌}
use Prim.Native.Nat.{ℕ}
use native.Mathlib.Omega.{arith}
use Rattle.numbers.proofs.SignedLaws.{narrow}
use Rattle.numbers.specs.Signed.{at_least_zero}
use Rattle.permille.proofs.TableLaws.{from_first, has_entry, no_permille_in, permille_in_is}
use Rattle.permille.specs.Rule.{rule}
use Rattle.permille.specs.Table.{entry_of, entry_voltage, in_table}
use Rattle.permille.proofs.table.permille_in.Goals as goal
use Rattle.permille.proofs.table.permille_in.Goals.{After-at_least_zero}

module _ (c : After-at_least_zero) where
  voltage_in : in_table c.args.voltage ≡ true
  voltage_in = sym (c.in_table.ensures ∙ ap in_table (narrow _ c.ranges.voltage)) ∙ c.if-in_table.true

  value : c.at_least_zero.result ≡ at_least_zero c.args.voltage
  value = c.at_least_zero.ensures ∙ ap at_least_zero (narrow _ c.ranges.voltage)

pub overflow_sub-at : goal.overflow_sub-at
overflow_sub-at c =
    let p = (goal.at.overflow_sub-at c).After-at_least_zero in
    let v = value p in
    let h = from_first _ (voltage_in p) in
    omega arith

pub entry-requires : goal.entry-requires
entry-requires c =
    let p = (goal.at.entry-requires c).After-at_least_zero in
    let v = value p in
    let h = has_entry _ (voltage_in p) in
    omega arith

pub returns-then-in_table-clause-value : goal.returns-then-in_table-clause-value
returns-then-in_table-clause-value c =
    let p = (goal.at.returns-then-in_table-clause-value c).After-at_least_zero in
    permille_in_is _ (voltage_in p) (c.entry.ensures.value ∙ ap (λ (n : ℕ). rule (entry_voltage (entry_of n))) (value p))

pub returns-else-in_table-clause-value : goal.returns-else-in_table-clause-value
returns-else-in_table-clause-value c =
    no_permille_in _ (sym (c.in_table.ensures ∙ ap in_table (narrow _ c.ranges.voltage)) ∙ c.if-in_table.false)
