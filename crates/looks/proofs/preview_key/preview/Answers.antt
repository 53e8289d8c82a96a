-- The bytes are copied, the copy is tested and the key is written to it, and its registers are shown. Assumes nothing.
use mathlib.Core.List.{List}
use mathlib.Core.Path.{◌≡◌, sym, ap, ◌∙◌}
use Prim.Native.Nat.{ℕ, ◌<◌}
use lib.ListN.{get_or}
use Rattle.std.proofs.lemmas.Result.{err_from_is_err_and}
use Rattle.form.specs.Form.{newest}
use Rattle.gauge.specs.Calls.{write_answer}
use Rattle.load.specs.Load.{answer_in}
use Rattle.moves.specs.Key.{key_bytes, key_number}
use Rattle.moves.proofs.KeyLaws.{pressed}
use Rattle.refusals.specs.Refusal.{none, number_of}
use Rattle.refusals.proofs.OrElseLaws.{number_above}
use Rattle.saved.specs.Call.{call_bytes, call_number}
use Rattle.looks.proofs.PreviewLaws.{copy_accepted, key_refused, previewed, reply_refused}
use Rattle.looks.proofs.preview_key.preview.Goals as goal
use Rattle.looks.proofs.preview_key.preview.Goals.{After-press}

small : (c : After-press) → (n : ℕ) → get_or c.args.saved.now n 0 < 256
small c n = (c.type_inv.saved n).fits

-- the key is written to the copy as to the saved bytes
written : (c : After-press)
    → let a = c.args in
    (number_of c.press.result ≡ call_number a.saved.now (λ g. write_answer g 0 a.key))
    × (c.press.new.saved ≡ call_bytes a.saved.now (λ g. write_answer g 0 a.key))
written c =
    let a = c.args in
    let same = c.in-Ok.ensures.1.same in
    let passed : none ≡ (answer_in newest a.saved.now).number = c.in_ok-tested.ensures ∙ ap (λ (b : List ℕ). (answer_in newest b).number) same in
    pressed a.saved.now (small c) passed a.key (c.press.ensures.number ∙ ap (λ (b : List ℕ). key_number b a.key) same)
    (c.press.ensures.bytes ∙ ap (λ (b : List ℕ). key_bytes b a.key) same)

pub returns-in_err-press : goal.returns-in_err-press
returns-in_err-press c =
    let a = c.args in
    let r = err_from_is_err_and c.from_residual-in_err-press.result c.from_residual-in_err-press.ensures.1 in
    let w = (written (goal.at.returns-in_err-press c).After-press).0 in
    let p = key_refused a.saved.now a.key a.reply.now a.command.now (sym (ap number_of c.in_err-press.was) ∙ w) (number_above _) in
    record { number = rw (r.1, r.2) p.0; bytes = p.1.0; command = p.1.1 }

pub returns-in_default-as_mut_array : goal.returns-in_default-as_mut_array
returns-in_default-as_mut_array c =
    let a = c.args in
    let done = sym (written (goal.at.returns-in_default-as_mut_array c).After-press).0 ∙ ap number_of c.in_ok-press.was in
    let p = reply_refused a.saved.now a.key a.reply.now a.command.now done c.in_default-as_mut_array.ensures.cases in
    record { number = p.0; bytes = p.1.0; command = p.1.1 }

pub put_registers-requires : goal.put_registers-requires
put_registers-requires c =
    let a = c.args in
    let k = (goal.at.put_registers-requires c).After-press in
    let done = sym (written k).0 ∙ ap number_of c.in_ok-press.was in
    copy_accepted a.saved.now a.key a.reply.now a.command.now done (small k) (written k).1

pub returns : goal.returns
returns c =
    let a = c.args in
    let k = (goal.at.returns c).After-press in
    let done = sym (written k).0 ∙ ap number_of c.in_ok-press.was in
    let p = previewed a.saved.now a.key a.reply.now a.command.now done (small k) (written k).1
    c.in-Some.ensures.cases.long c.loaded_host-host.ensures c.put_registers.ensures c.command_of.ensures in
    record { number = p.0; bytes = p.1.0; command = p.1.1 }
