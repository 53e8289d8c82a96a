-- In the places of the newest form the bytes hold what they hold in their own. Assumes nothing.
use Rattle.every_form.proofs.EveryFormLaws.{decoded_reads}
use Rattle.every_form.proofs.every_form.decoded_in_newest.Goals as goal

pub returns : goal.returns
returns c =
    let a = c.args in
    decoded_reads a.form a.bytes.now c.in_newest-whole.ensures c.decoded.ensures
