-- What is kept of the opening's answer. Assumes nothing.
use mathlib.Core.Path.{◌∙◌}
use Rattle.gauge.specs.Answer.{Answer}
use Rattle.gauge.specs.Opening.{open_refusal, opened}
use Rattle.handset.proofs.CallLaws.{kept_is}
use Rattle.handset.specs.Calls.{open_bytes, open_number}
use Rattle.handset.specs.Keep.{kept_number}
use Rattle.handset.proofs.calls.gauge_open.Goals as goal

pub returns : goal.returns
unfolding open_bytes open_number kept_number
returns c =
    let a = c.args in
    let answer : Answer = record { number = open_refusal a.configuration.now; gauge = opened a.configuration.now } in
    record { number = c.keep.ensures.number answer c.open.ensures; bytes = c.keep.ensures.bytes answer c.open.ensures ∙ kept_is answer a.saved.now }
