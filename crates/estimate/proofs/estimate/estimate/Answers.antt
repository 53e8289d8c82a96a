-- The refusal, or both numbers handed out. Assumes nothing.
use mathlib.Core.Path.{ap, sym, ◌∙◌}
use Prim.Native.Nat.{ℕ, ◌<◌}
use native.Mathlib.Omega.{arith}
use Rattle.std.proofs.lemmas.Result.{err_from_is_err_and}
use Rattle.estimate.proofs.EstimateLaws.{counts_handed, counts_stand, distance_handed, distance_stands, nac_low}
use Rattle.estimate.specs.Estimate.{distance_from, estimate_refusal, estimated}
use Rattle.numbers.proofs.SignedLaws.{narrow}
use Rattle.permille.specs.Table.{permille}
use Rattle.estimate.proofs.estimate.estimate.Goals as goal
use Rattle.estimate.proofs.estimate.estimate.Goals.{Start}

lmd-fits : (c : Start) → c.args.gauge.charge.lmd < 65_536
lmd-fits c = omega arith

pub returns-in_err-permille-clause-estimate : goal.returns-in_err-permille-clause-estimate
returns-in_err-permille-clause-estimate c =
    let a = c.args in
    let p = err_from_is_err_and c.from_residual.result c.from_residual.ensures.1 in
    let e = sym c.in_err-permille.ensures.permille ∙ ap (estimate_refusal a.gauge) (narrow _ c.ranges.voltage) in
    λ before. rw p.1 (counts_stand a.gauge a.voltage _ e before)

pub returns-in_err-permille-clause-distance : goal.returns-in_err-permille-clause-distance
returns-in_err-permille-clause-distance c =
    let a = c.args in
    let p = err_from_is_err_and c.from_residual.result c.from_residual.ensures.1 in
    let e = sym c.in_err-permille.ensures.permille ∙ ap (estimate_refusal a.gauge) (narrow _ c.ranges.voltage) in
    λ before. rw p.1 (distance_stands a.gauge a.voltage _ e before)

pub estimated-counts-requires : goal.estimated-counts-requires
estimated-counts-requires c = c.in_ok-permille.ensures.most

pub overflow_cast-nac : goal.overflow_cast-nac
overflow_cast-nac c =
    let a = c.args in
    let h = nac_low a.gauge a.voltage (sym c.in_ok-permille.ensures.permille.0 ∙ ap (estimate_refusal a.gauge) (narrow _ c.ranges.voltage)) in
    let e = c.nac.ensures in
    let w = lmd-fits (goal.at.overflow_cast-nac c).Start in
    record { fits = omega arith }

pub returns-clause-estimate : goal.returns-clause-estimate
returns-clause-estimate c =
    let a = c.args in
    let z = sym c.in_ok-permille.ensures.permille.0 ∙ ap (estimate_refusal a.gauge) (narrow _ c.ranges.voltage) in
    let e = c.in_ok-permille.ensures.permille.1 ∙ ap permille (narrow _ c.ranges.voltage) in
    λ before. counts_handed a.gauge a.voltage z before (c.estimated-counts.ensures ∙ ap (λ (k : ℕ). estimated k a.gauge.charge.lmd) e)

pub returns-clause-distance : goal.returns-clause-distance
returns-clause-distance c =
    let a = c.args in
    let z = sym c.in_ok-permille.ensures.permille.0 ∙ ap (estimate_refusal a.gauge) (narrow _ c.ranges.voltage) in
    let e = c.in_ok-permille.ensures.permille.1 ∙ ap permille (narrow _ c.ranges.voltage) in
    let d = narrow _ (record { sfits = c.distance_from-distance.type_inv }) ∙ c.distance_from-distance.ensures
    ∙ ap (λ (k : ℕ). distance_from k c.estimated-counts.result) c.nac.ensures in
    λ before. distance_handed a.gauge a.voltage z before (c.estimated-counts.ensures ∙ ap (λ (k : ℕ). estimated k a.gauge.charge.lmd) e) d
