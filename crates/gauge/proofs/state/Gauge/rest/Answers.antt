-- Each way answers what its tests pick, in the paper's order. Assumes nothing.
use mathlib.Core.Path.{ap, ◌∙◌, sym}
use Prim.Native.Nat.{ℕ}
use native.Mathlib.Omega.{arith}
use borrow.Author.Tests.{le-leb, lt-leb, lt-ltb, le-ltb}
use Rattle.std.proofs.lemmas.Result.{err_from_is_err_and}
use Rattle.numbers.proofs.SignedLaws.{narrow}
use Rattle.refusals.proofs.OrElseLaws.{refused_first}
use Rattle.sample.specs.Range.{temperature, temperature_refusal}
use Rattle.gauge.specs.Answer.{Answer}
use Rattle.gauge.specs.Rest.{rest}
use Rattle.gauge.proofs.CallLaws.{rest_gauge, rest_last, rest_long, rest_none, rest_number, tested_accepted}
use Rattle.gauge.proofs.state.Gauge.rest.Goals as goal

number_of : Answer → ℕ
number_of x = x.number

pub returns-in_err-tested : goal.returns-in_err-tested
returns-in_err-tested c =
    let a = c.args in
    let p = err_from_is_err_and c.from_residual.result c.from_residual.ensures.1 in
    rw (p.1, p.2) (rest_number a.self a.windows a.t ∙ refused_first _ _ _ (sym c.in_err-tested.ensures))

pub returns-then-windows-eq0 : goal.returns-then-windows-eq0
unfolding number_of
returns-then-windows-eq0 c =
    let a = c.args in
    let t = tested_accepted a.self (sym c.in_ok-tested.ensures) in
    ap number_of (sym (rest_none a.self a.windows a.t t (le-ltb 0 a.windows (omega arith))))

pub returns-then-windows-gt-LONGEST_REST : goal.returns-then-windows-gt-LONGEST_REST
unfolding number_of
returns-then-windows-gt-LONGEST_REST c =
    let a = c.args in
    let t = tested_accepted a.self (sym c.in_ok-tested.ensures) in
    ap number_of (sym (rest_long a.self a.windows a.t t (lt-ltb 0 a.windows (omega arith)) (lt-leb _ _ c.if-windows-gt-LONGEST_REST.true)))

pub returns-in_err-temperature : goal.returns-in_err-temperature
returns-in_err-temperature c =
    let a = c.args in
    let p = err_from_is_err_and c.from_residual-in_err-temperature.result c.from_residual-in_err-temperature.ensures.1 in
    let t = tested_accepted a.self (sym c.in_ok-tested.ensures) in
    let n = rest_last a.self a.windows a.t t (lt-ltb 0 a.windows (omega arith)) (le-leb _ _ c.if-windows-gt-LONGEST_REST.false) in
    rw (p.1, p.2) (n ∙ sym (ap temperature_refusal (narrow _ c.ranges.t)) ∙ c.in_err-temperature.ensures)

pub returns : goal.returns
returns c =
    let a = c.args in
    let tested = tested_accepted a.self (sym c.in_ok-tested.ensures) in
    let n = rest_last a.self a.windows a.t tested (lt-ltb 0 a.windows (omega arith)) (le-leb _ _ c.if-windows-gt-LONGEST_REST.false)
    ∙ sym (ap temperature_refusal (narrow _ c.ranges.t)) ∙ c.in_ok-temperature.ensures.0 in
    let t = c.in_ok-temperature.ensures.1 ∙ ap temperature (narrow _ c.ranges.t) in
    (n, rest_gauge a.self a.windows a.t n (c.rested-rested.ensures ∙ ap (λ (x : ℕ). rest a.windows x a.self) t))
