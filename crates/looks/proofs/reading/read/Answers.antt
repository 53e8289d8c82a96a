-- A rejected gauge is not saved and answers 14; any other is what its saved bytes hold. Assumes nothing.
use mathlib.Core.Path.{◌≡◌, refl}
use native.Mathlib.Omega.{arith}
use lib.ListN.{length, replicate}
use Rattle.std.proofs.lemmas.Result.{err_from_is_err_and}
use Rattle.refusals.proofs.OrElseLaws.{number_above}
use Rattle.flags.proofs.FlagsByteLaws.{byte_fits}
use Rattle.form.specs.Form.{saved_length}
use Rattle.form.proofs.SignedLaws.{pair_fits}
use Rattle.load.specs.Fields.{bytes_in, number_in}
use Rattle.round_trip.proofs.FieldsLaws.{FieldsFit}
use Rattle.looks.proofs.ReadingLaws.{read_saved, read_unsaved}
use borrow.Author.Rules.{rules}
use Rattle.looks.proofs.reading.read.Goals as goal
use Rattle.looks.proofs.reading.read.Goals.{Start}

fits : (c : Start) → FieldsFit c.args.gauge
unfolding number_in bytes_in
fits c =
    let g = c.args.gauge in
    let flags = byte_fits g.sample.current.charging g.charge.run.vdq g.flags in
    let pair = pair_fits g.sample.current (omega arith) in
    let ten : length g.settings.bytes ≡ 10 = search rules in
    omega arith

pub returns-in_err-save : goal.returns-in_err-save
returns-in_err-save c =
    let a = c.args in
    let p = err_from_is_err_and c.from_residual.result c.from_residual.ensures.1 in
    let q = read_unsaved a.gauge a.address a.count a.place a.reply.now (replicate saved_length 0) refl c.in_err-save.ensures.number (number_above _) in
    record { number = rw (p.1, p.2) q.0; bytes = q.1 }

pub returns : goal.returns
returns c =
    let a = c.args in
    let p = read_saved a.gauge a.address a.count a.place a.reply.now (replicate saved_length 0) refl (fits (goal.at.returns c).Start)
    c.in_ok-save.ensures.number refl c.in_ok-save.ensures.bytes (c.read_in.ensures.number, c.read_in.ensures.bytes) in
    record { number = p.0; bytes = p.1 }
