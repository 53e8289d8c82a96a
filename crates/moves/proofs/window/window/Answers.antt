-- Each way answers what its tests pick, in the paper's order; the window's gauge is put by direction. Assumes nothing.
use mathlib.Core.Path.{sym, ap, ◌∙◌}
use Prim.Native.Nat.{ℕ}
use Rattle.std.proofs.lemmas.Result.{err_from_is_err_and}
use Rattle.configuration.specs.Configuration.{dmf}
use Rattle.configuration.specs.declared.settings.Settings.{Settings}
use Rattle.gauge.specs.Calls.{window_answer}
use Rattle.gauge.proofs.CallLaws.{window_gauge, window_number}
use Rattle.gauge.proofs.MeasuredLaws.{measured_alike, refused_alike, stepped_alike}
use Rattle.load.specs.Load.{decoded_gauge}
use Rattle.numbers.proofs.SignedLaws.{narrow}
use Rattle.refusals.proofs.OrElseLaws.{none_first}
use Rattle.sample.specs.Current.{counted}
use Rattle.moves.proofs.CallLaws.{moves, passed_fits, passed_unrejected, refuses, untested}
use Rattle.moves.proofs.DirectionLaws.{counted_none}
use Rattle.moves.proofs.window.window.Goals as goal

pub returns-in_err-tested : goal.returns-in_err-tested
returns-in_err-tested c =
    let a = c.args in
    let p = err_from_is_err_and c.from_residual.result c.from_residual.ensures.1 in
    let w = untested a.saved.now (λ g. window_answer g a.a a.v a.t) _ c.in_err-tested.ensures in
    rw (p.1, p.2) (record { number = w.0; bytes = w.1 })

pub returns-in_err-measured : goal.returns-in_err-measured
returns-in_err-measured c =
    let a = c.args in
    let g = decoded_gauge a.saved.now in
    let passed = c.in_ok-tested.ensures in
    let p = err_from_is_err_and c.from_residual-in_err-measured.result c.from_residual-in_err-measured.ensures.1 in
    let e = refused_alike (narrow _ c.ranges.a) (narrow _ c.ranges.v) (narrow _ c.ranges.t) in
    let n = window_number g a.a a.v a.t ∙ none_first _ _ (passed_unrejected a.saved.now passed) ∙ sym e ∙ c.in_err-measured.ensures in
    let w = refuses a.saved.now (λ g. window_answer g a.a a.v a.t) passed _ n in
    rw (p.1, p.2) (record { number = w.0; bytes = w.1 })

pub stepped-requires : goal.stepped-requires
stepped-requires c =
    (passed_fits c.args.saved.now c.in_ok-tested.ensures, counted_none _ _ c.counted.ensures)

pub returns : goal.returns
returns c =
    let a = c.args in
    let g = decoded_gauge a.saved.now in
    let passed = c.in_ok-tested.ensures in
    let e = refused_alike (narrow _ c.ranges.a) (narrow _ c.ranges.v) (narrow _ c.ranges.t) in
    let m = c.in_ok-measured.ensures.1 ∙ measured_alike (narrow _ c.ranges.a) (narrow _ c.ranges.v) (narrow _ c.ranges.t) in
    let n = window_number g a.a a.v a.t ∙ none_first _ _ (passed_unrejected a.saved.now passed) ∙ sym e ∙ c.in_ok-measured.ensures.0 in
    let d = c.counted.ensures
    ∙ ap (λ (n : ℕ). counted n c.in_ok-measured.measured.current) (c.dmf.ensures.value ∙ ap (λ (y : Settings). dmf y) c.loaded_settings-settings.ensures) in
    let w = moves a.saved.now (λ g. window_answer g a.a a.v a.t) passed n (window_gauge g a.a a.v a.t n (stepped_alike (dmf g.settings) g m d)) c.stepped.ensures in
    record { number = w.0; bytes = w.1 }
