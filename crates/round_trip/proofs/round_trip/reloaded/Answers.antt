-- A rejected gauge is answered as such; the bytes of any other load as it. Assumes nothing.
use mathlib.Core.Path.{◌≡◌, refl, sym}
use native.Mathlib.Omega.{arith}
use lib.ListN.{length, replicate}
use Rattle.flags.proofs.FlagsByteLaws.{byte_fits}
use Rattle.form.specs.Form.{saved_length}
use Rattle.form.proofs.SignedLaws.{pair_fits}
use Rattle.std.proofs.lemmas.Result.{err_from_is_err_and}
use Rattle.load.specs.Fields.{bytes_in, number_in}
use Rattle.round_trip.proofs.RoundTripLaws.{reloaded_done}
use Rattle.round_trip.proofs.FieldsLaws.{FieldsFit}
use Rattle.round_trip.specs.RoundTrip.{reloaded_answer}
use Rattle.saved.specs.Save.{save_refusal}
use borrow.Author.Rules.{rules}
use Rattle.round_trip.proofs.round_trip.reloaded.Goals as goal
use Rattle.round_trip.proofs.round_trip.reloaded.Goals.{Start}

fits : (c : Start) → FieldsFit c.args.gauge
unfolding number_in bytes_in
fits c =
    let g = c.args.gauge in
    let flags = byte_fits g.sample.current.charging g.charge.run.vdq g.flags in
    let pair = pair_fits g.sample.current (omega arith) in
    let ten : length g.settings.bytes ≡ 10 = search rules in
    omega arith

pub returns-in_err-save : goal.returns-in_err-save
unfolding save_refusal reloaded_answer
returns-in_err-save c =
    let p = err_from_is_err_and c.from_residual.result c.from_residual.ensures.1 in
    rw (p.1, p.2) (sym c.in_err-save.ensures.number)

pub returns : goal.returns
returns c =
    rw (reloaded_done c.args.gauge (replicate saved_length 0) refl (fits (goal.at.returns c).Start) c.in_ok-save.ensures.number c.in_ok-save.ensures.bytes)
    at c.load.ensures
