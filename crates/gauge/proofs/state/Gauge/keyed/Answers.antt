-- Each way answers what the decision's case asks. Assumes nothing.
use mathlib.Core.Path.{ap, sym}
use Prim.Native.Nat.{ℕ}
use Rattle.std.proofs.lemmas.Result.{err_from_is_err_and}
use Rattle.gauge.specs.Answer.{Answer}
use Rattle.gauge.specs.declared.state.Gauge.{Gauge}
use Rattle.gauge.proofs.CallLaws.{key_obeyed, key_refused}
use Rattle.gauge.proofs.state.Gauge.keyed.Goals as goal

number_of : Answer → ℕ
number_of x = x.number

gauge_of : Answer → Gauge
gauge_of x = x.gauge

pub returns-in_err-command : goal.returns-in_err-command
unfolding number_of
returns-in_err-command c =
    let a = c.args in
    let p = err_from_is_err_and c.from_residual.result c.from_residual.ensures.1 in
    rw (p.1, p.2) (ap number_of (sym (key_refused a.self a.key c.decide.ensures c.in_err-command.was)))

pub returns : goal.returns
unfolding number_of gauge_of
returns c =
    let a = c.args in
    let e = key_obeyed a.self a.key c.decide.ensures c.in_ok-command.was c.obeyed.ensures in
    (ap number_of (sym e), ap gauge_of e)
