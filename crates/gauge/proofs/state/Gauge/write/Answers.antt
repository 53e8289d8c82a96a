-- Each way answers what its tests pick, in the paper's order. Assumes nothing.
use mathlib.Core.Path.{refl, ap, ◌∙◌, sym}
use Prim.Native.Nat.{ℕ}
use borrow.Author.Tests.{lt-ltb, le-ltb, eq-eqb, ne_eqb}
use Rattle.std.proofs.lemmas.Result.{err_from_is_err_and}
use Rattle.refusals.proofs.OrElseLaws.{refused_first}
use Rattle.gauge.specs.Answer.{Answer}
use Rattle.gauge.specs.Calls.{stored_at}
use Rattle.gauge.specs.declared.state.Gauge.{Gauge}
use Rattle.gauge.proofs.CallLaws.{tested_accepted, write_beyond, write_key, write_number, write_stored}
use Rattle.gauge.proofs.GaugeLaws.{same_settings_alike}
use Rattle.gauge.proofs.state.Gauge.write.Goals as goal

number_of : Answer → ℕ
number_of x = x.number

gauge_of : Answer → Gauge
gauge_of x = x.gauge

pub returns-in_err-tested : goal.returns-in_err-tested
returns-in_err-tested c =
    let a = c.args in
    let p = err_from_is_err_and c.from_residual.result c.from_residual.ensures.1 in
    rw (p.1, p.2) (write_number a.self a.address a.value ∙ refused_first _ _ _ (sym c.in_err-tested.ensures))

pub returns-then-address-gt-LAST_WRITABLE : goal.returns-then-address-gt-LAST_WRITABLE
unfolding number_of
returns-then-address-gt-LAST_WRITABLE c =
    let a = c.args in
    let t = tested_accepted a.self (sym c.in_ok-tested.ensures) in
    ap number_of (sym (write_beyond a.self a.address a.value t (lt-ltb _ _ c.if-address-gt-LAST_WRITABLE.true)))

pub returns-then-address-eq-CTRL : goal.returns-then-address-eq-CTRL
returns-then-address-eq-CTRL c =
    let a = c.args in
    let t = tested_accepted a.self (sym c.in_ok-tested.ensures) in
    rw (sym (write_key a.self a.address a.value t (le-ltb _ _ c.if-address-gt-LAST_WRITABLE.false) (eq-eqb _ _ c.if-address-eq-CTRL.true) refl)) c.keyed.ensures

pub returns : goal.returns
unfolding stored_at number_of gauge_of
returns c =
    let a = c.args in
    let t = tested_accepted a.self (sym c.in_ok-tested.ensures) in
    let e = write_stored a.self a.address a.value t (le-ltb _ _ c.if-address-gt-LAST_WRITABLE.false) (ne_eqb _ _ c.if-address-eq-CTRL.false)
    (same_settings_alike refl refl refl refl c.stored-gauge.ensures refl) in
    (ap number_of (sym e), ap gauge_of e)
