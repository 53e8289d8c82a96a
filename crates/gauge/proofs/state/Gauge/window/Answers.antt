-- Each way answers what its tests pick, in the paper's order. Assumes nothing.
use mathlib.Core.Path.{ap, ◌∙◌, sym}
use Prim.Native.Nat.{ℕ}
use Rattle.std.proofs.lemmas.Result.{err_from_is_err_and}
use Rattle.configuration.specs.Configuration.{dmf}
use Rattle.numbers.proofs.SignedLaws.{narrow}
use Rattle.refusals.proofs.OrElseLaws.{none_first, refused_first}
use Rattle.sample.specs.Current.{counted}
use Rattle.gauge.proofs.CallLaws.{window_gauge, window_number}
use Rattle.gauge.proofs.MeasuredLaws.{measured_alike, refused_alike, stepped_alike}
use Rattle.gauge.proofs.state.Gauge.window.Goals as goal

pub returns-in_err-tested : goal.returns-in_err-tested
returns-in_err-tested c =
    let a = c.args in
    let p = err_from_is_err_and c.from_residual.result c.from_residual.ensures.1 in
    rw (p.1, p.2) (window_number a.self a.a a.v a.t ∙ refused_first _ _ _ (sym c.in_err-tested.ensures))

pub returns-in_err-measured : goal.returns-in_err-measured
returns-in_err-measured c =
    let a = c.args in
    let p = err_from_is_err_and c.from_residual-in_err-measured.result c.from_residual-in_err-measured.ensures.1 in
    let e = refused_alike (narrow _ c.ranges.a) (narrow _ c.ranges.v) (narrow _ c.ranges.t) in
    rw (p.1, p.2) (window_number a.self a.a a.v a.t ∙ none_first _ _ (sym c.in_ok-tested.ensures) ∙ sym e ∙ c.in_err-measured.ensures)

pub returns : goal.returns
returns c =
    let a = c.args in
    let e = refused_alike (narrow _ c.ranges.a) (narrow _ c.ranges.v) (narrow _ c.ranges.t) in
    let m = c.in_ok-measured.ensures.1 ∙ measured_alike (narrow _ c.ranges.a) (narrow _ c.ranges.v) (narrow _ c.ranges.t) in
    let n = window_number a.self a.a a.v a.t ∙ none_first _ _ (sym c.in_ok-tested.ensures) ∙ sym e ∙ c.in_ok-measured.ensures.0 in
    let d = c.counted-counted.ensures ∙ ap (λ (d : ℕ). counted d c.in_ok-measured.measured.current) c.dmf.ensures.value in
    (n, window_gauge a.self a.a a.v a.t n (c.stepped-stepped.ensures ∙ stepped_alike (dmf a.self.settings) a.self m d))
