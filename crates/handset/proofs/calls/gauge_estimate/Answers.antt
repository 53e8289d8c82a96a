-- Bytes that are not in the form answer 14; the estimate of any other is the proved one. Assumes nothing.
use mathlib.Core.Path.{ap, ◌∙◌, sym}
use lib.IntN.{ℤ}
use borrow.Author.Rules.{rules}
use Rattle.std.proofs.lemmas.Result.{err_from_is_err_and}
use Rattle.estimate.specs.Estimate.{distance_after, estimate_after, estimate_refusal}
use Rattle.load.proofs.LoadLaws.{decoded_is}
use Rattle.load.proofs.LookLaws.{look_leaves_lem, look_number_lem, misfit_leaves, misfit_number}
use Rattle.numbers.proofs.SignedLaws.{narrow}
use Rattle.handset.proofs.EstimateLaws.{distance_keeps, estimate_keeps, estimate_rejects}
use Rattle.handset.proofs.calls.gauge_estimate.Goals as goal

pub returns-then-not-form_fits : goal.returns-then-not-form_fits
returns-then-not-form_fits c =
    let a = c.args in
    let misfit = sym c.form_fits.ensures ∙ c.if-not-form_fits.true in
    record {
      number = misfit_number a.saved.now misfit _;
      estimate = misfit_leaves a.saved.now misfit _ _;
      distance = misfit_leaves a.saved.now misfit _ _;
    }

pub returns-in_err-rested : goal.returns-in_err-rested
returns-in_err-rested c =
    let a = c.args in
    let r = err_from_is_err_and c.from_residual.result c.from_residual.ensures.1 in
    let g = c.decoded.result in
    let fit = sym c.form_fits.ensures ∙ c.if-not-form_fits.false in
    let held = c.decoded.ensures ∙ decoded_is _ fit in
    let v = narrow _ c.ranges.voltage in
    record {
      number = rw (r.1, r.2) (look_number_lem a.saved.now fit held (estimate_rejects a.voltage) (c.in_err-rested.ensures.number ∙ ap (estimate_refusal g) v));
      estimate =
          look_leaves_lem a.saved.now fit held (estimate_keeps a.voltage a.estimate.now)
          (c.in_err-rested.ensures.estimate a.estimate.now ∙ ap (λ (z : ℤ). estimate_after g z a.estimate.now) v);
      distance =
          look_leaves_lem a.saved.now fit held (distance_keeps a.voltage a.distance.now)
          (c.in_err-rested.ensures.distance a.distance.now ∙ ap (λ (z : ℤ). distance_after g z a.distance.now) v);
    }

pub returns : goal.returns
returns c =
    let a = c.args in
    let g = c.decoded.result in
    let fit = sym c.form_fits.ensures ∙ c.if-not-form_fits.false in
    let held = c.decoded.ensures ∙ decoded_is _ fit in
    let v = narrow _ c.ranges.voltage in
    record {
      number = look_number_lem a.saved.now fit held (estimate_rejects a.voltage) (c.in_ok-rested.ensures.number ∙ ap (estimate_refusal g) v);
      estimate =
          look_leaves_lem a.saved.now fit held (estimate_keeps a.voltage a.estimate.now)
          (c.in_ok-rested.ensures.estimate a.estimate.now ∙ ap (λ (z : ℤ). estimate_after g z a.estimate.now) v);
      distance =
          narrow _ (search rules)
          ∙ look_leaves_lem a.saved.now fit held (distance_keeps a.voltage a.distance.now)
          (c.in_ok-rested.ensures.distance a.distance.now ∙ ap (λ (z : ℤ). distance_after g z a.distance.now) v);
    }
