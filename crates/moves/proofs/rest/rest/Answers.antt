-- Each way answers what its tests pick, in the paper's order. Assumes nothing.
use mathlib.Core.Path.{sym, ap, ◌∙◌}
use Prim.Native.Nat.{ℕ}
use native.Mathlib.Omega.{arith}
use borrow.Author.Tests.{le-leb, le-ltb, lt-leb, lt-ltb}
use Rattle.std.proofs.lemmas.Result.{err_from_is_err_and}
use Rattle.gauge.specs.Answer.{Answer}
use Rattle.gauge.specs.Calls.{rest_answer}
use Rattle.gauge.specs.Rest.{rest}
use Rattle.gauge.proofs.CallLaws.{rest_gauge, rest_last, rest_long, rest_none}
use Rattle.load.specs.Load.{decoded_gauge}
use Rattle.numbers.proofs.SignedLaws.{narrow}
use Rattle.refusals.specs.declared.Refusal.TheVariants.{RestLength}
use Rattle.sample.specs.Range.{temperature, temperature_refusal}
use Rattle.moves.proofs.CallLaws.{moves, passed_accepted, passed_fits, refuses, untested}
use Rattle.moves.proofs.rest.rest.Goals as goal

pub returns-in_err-tested : goal.returns-in_err-tested
returns-in_err-tested c =
    let a = c.args in
    let p = err_from_is_err_and c.from_residual.result c.from_residual.ensures.1 in
    let w = untested a.saved.now (λ g. rest_answer g a.windows a.t) _ c.in_err-tested.ensures in
    rw (p.1, p.2) (record { number = w.0; bytes = w.1 })

pub returns-then-windows-eq0 : goal.returns-then-windows-eq0
returns-then-windows-eq0 c =
    let a = c.args in
    let g = decoded_gauge a.saved.now in
    let e = rest_none g a.windows a.t (passed_accepted a.saved.now c.in_ok-tested.ensures) (le-ltb 0 a.windows (omega arith)) in
    let w = refuses a.saved.now (λ g. rest_answer g a.windows a.t) c.in_ok-tested.ensures RestLength (ap (λ (x : Answer). x.number) (sym e)) in
    record { number = w.0; bytes = w.1 }

pub returns-then-windows-gt-LONGEST_REST : goal.returns-then-windows-gt-LONGEST_REST
returns-then-windows-gt-LONGEST_REST c =
    let a = c.args in
    let g = decoded_gauge a.saved.now in
    let e = rest_long g a.windows a.t (passed_accepted a.saved.now c.in_ok-tested.ensures) (lt-ltb 0 a.windows (omega arith))
    (lt-leb _ _ c.if-windows-gt-LONGEST_REST.true) in
    let w = refuses a.saved.now (λ g. rest_answer g a.windows a.t) c.in_ok-tested.ensures RestLength (ap (λ (x : Answer). x.number) (sym e)) in
    record { number = w.0; bytes = w.1 }

pub returns-in_err-temperature : goal.returns-in_err-temperature
returns-in_err-temperature c =
    let a = c.args in
    let g = decoded_gauge a.saved.now in
    let p = err_from_is_err_and c.from_residual-in_err-temperature.result c.from_residual-in_err-temperature.ensures.1 in
    let n = rest_last g a.windows a.t (passed_accepted a.saved.now c.in_ok-tested.ensures) (lt-ltb 0 a.windows (omega arith))
    (le-leb _ _ c.if-windows-gt-LONGEST_REST.false) in
    let w = refuses a.saved.now (λ g. rest_answer g a.windows a.t) c.in_ok-tested.ensures _
    (n ∙ sym (ap temperature_refusal (narrow _ c.ranges.t)) ∙ c.in_err-temperature.ensures) in
    rw (p.1, p.2) (record { number = w.0; bytes = w.1 })

pub rested-requires : goal.rested-requires
rested-requires c = passed_fits c.args.saved.now c.in_ok-tested.ensures

pub returns : goal.returns
returns c =
    let a = c.args in
    let g = decoded_gauge a.saved.now in
    let n = rest_last g a.windows a.t (passed_accepted a.saved.now c.in_ok-tested.ensures) (lt-ltb 0 a.windows (omega arith))
    (le-leb _ _ c.if-windows-gt-LONGEST_REST.false)
    ∙ sym (ap temperature_refusal (narrow _ c.ranges.t)) ∙ c.in_ok-temperature.ensures.0 in
    let e = ap (λ (y : ℕ). rest a.windows y g) (c.in_ok-temperature.ensures.1 ∙ ap temperature (narrow _ c.ranges.t)) in
    let w = moves a.saved.now (λ g. rest_answer g a.windows a.t) c.in_ok-tested.ensures n (rest_gauge g a.windows a.t n e) c.rested.ensures in
    record { number = w.0; bytes = w.1 }
