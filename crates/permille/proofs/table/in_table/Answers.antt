-- Both tests speak of the voltage, or 0 where it is below. Assumes nothing.
use mathlib.Core.Path.{◌≡◌, ap, ◌∙◌}
use Prim.Native.Nat.{ℕ, ◌≤◌, ◌<◌}
use native.Mathlib.Omega.{arith}
use lib.Dec.{leb}
use borrow.Author.Tests.{lt-leb}
use Rattle.numbers.proofs.SignedLaws.{narrow}
use Rattle.numbers.specs.Signed.{at_least_zero}
use Rattle.permille.proofs.TableLaws.{high_enough, too_low}
use Rattle.permille.specs.Table.{first_voltage, last_voltage}
use Rattle.permille.proofs.table.in_table.Goals as goal
use Rattle.permille.proofs.table.in_table.Goals.{After-at_least_zero-value}

value : (c : After-at_least_zero-value) → c.at_least_zero-value.result ≡ at_least_zero c.args.voltage
value c = c.at_least_zero-value.ensures ∙ ap at_least_zero (narrow _ c.ranges.voltage)

pub returns-then-value-ge-FIRST_VOLTAGE : goal.returns-then-value-ge-FIRST_VOLTAGE
returns-then-value-ge-FIRST_VOLTAGE c =
    let v = value (goal.at.returns-then-value-ge-FIRST_VOLTAGE c).After-at_least_zero-value in
    let h : first_voltage ≤ at_least_zero c.args.voltage = omega arith in
    high_enough c.args.voltage h (ap (λ (n : ℕ). leb n last_voltage) v)

pub returns-else-value-ge-FIRST_VOLTAGE : goal.returns-else-value-ge-FIRST_VOLTAGE
returns-else-value-ge-FIRST_VOLTAGE c =
    let v = value (goal.at.returns-else-value-ge-FIRST_VOLTAGE c).After-at_least_zero-value in
    let h : at_least_zero c.args.voltage < first_voltage = omega arith in
    lt-leb _ _ (omega arith) ∙ too_low c.args.voltage h
