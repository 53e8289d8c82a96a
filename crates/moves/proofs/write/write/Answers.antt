-- A key at CTRL, or the ways of a byte that is put in its place. Assumes nothing.
use mathlib.Core.Path.{◌≡◌, refl, sym, ap}
use native.Mathlib.Omega.{arith}
use lib.ListN.{length}
use borrow.Author.Tests.{le-ltb, lt-ltb, ne_eqb}
use Rattle.std.proofs.lemmas.Result.{err_from_is_err_and}
use Rattle.form.specs.Form.{newest, saved_length}
use Rattle.gauge.specs.Answer.{Answer}
use Rattle.gauge.specs.Calls.{write_answer}
use Rattle.gauge.proofs.CallLaws.{write_beyond, write_stored}
use Rattle.load.specs.Load.{decoded_gauge}
use Rattle.load.proofs.LoadLaws.{form_length}
use Rattle.refusals.specs.declared.Refusal.TheVariants.{NotWritable}
use Rattle.moves.proofs.CallLaws.{moves, passed_accepted, passed_fits, refuses, untested}
use Rattle.moves.proofs.HostByteLaws.{byte_written}
use Rattle.moves.proofs.KeyLaws.{at_ctrl, pressed}
use Rattle.moves.proofs.write.write.Goals as goal

pub returns-in_err-tested : goal.returns-in_err-tested
returns-in_err-tested c =
    let a = c.args in
    let p = err_from_is_err_and c.from_residual.result c.from_residual.ensures.1 in
    let w = untested a.saved.now (λ g. write_answer g a.address a.value) _ c.in_err-tested.ensures in
    rw (p.1, p.2) (record { number = w.0; bytes = w.1 })

pub returns-then-address-eq-CTRL : goal.returns-then-address-eq-CTRL
returns-then-address-eq-CTRL c =
    let a = c.args in
    let w = at_ctrl a.saved.now a.value c.if-address-eq-CTRL.true
    (pressed a.saved.now (λ n. (c.slice_known-1.given n).fits) c.in_ok-tested.ensures a.value c.press.ensures.number c.press.ensures.bytes) in
    record { number = w.0; bytes = w.1 }

pub returns-then-address-gt-LAST_WRITABLE : goal.returns-then-address-gt-LAST_WRITABLE
returns-then-address-gt-LAST_WRITABLE c =
    let a = c.args in
    let e = write_beyond (decoded_gauge a.saved.now) a.address a.value (passed_accepted a.saved.now c.in_ok-tested.ensures)
    (lt-ltb 3 a.address c.if-address-gt-LAST_WRITABLE.true) in
    let w = refuses a.saved.now (λ g. write_answer g a.address a.value) c.in_ok-tested.ensures NotWritable (ap (λ (x : Answer). x.number) (sym e)) in
    record { number = w.0; bytes = w.1 }

pub bounds-saved-place : goal.bounds-saved-place
bounds-saved-place c =
    let l : length c.args.saved.now ≡ saved_length = form_length newest _ (passed_fits c.args.saved.now c.in_ok-tested.ensures) in
    omega (arith, c.host_place-place.ensures.range)

pub returns : goal.returns
returns c =
    let a = c.args in
    let g = decoded_gauge a.saved.now in
    let passed = c.in_ok-tested.ensures in
    let e = write_stored g a.address a.value (passed_accepted a.saved.now passed) (le-ltb 3 a.address c.if-address-gt-LAST_WRITABLE.false)
    (ne_eqb a.address 0 c.if-address-eq-CTRL.false) refl in
    let w = moves a.saved.now (λ g. write_answer g a.address a.value) passed (ap (λ (x : Answer). x.number) (sym e)) (ap (λ (x : Answer). x.gauge) e)
    (byte_written a.saved.now (λ n. (c.slice_known-1.given n).fits) (passed_fits a.saved.now passed) a.address a.value c.if-address-eq-CTRL.false
    c.if-address-gt-LAST_WRITABLE.false (omega arith) c.host_place-place.ensures.value) in
    record { number = w.0; bytes = w.1 }
