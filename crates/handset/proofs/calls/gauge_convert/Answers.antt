-- What is kept of the load's answer. Assumes nothing.
use mathlib.Core.Path.{◌∙◌}
use Rattle.every_form.specs.EveryForm.{load_answer}
use Rattle.handset.proofs.CallLaws.{kept_is}
use Rattle.handset.specs.Calls.{convert_bytes, convert_number}
use Rattle.handset.specs.Keep.{kept_number}
use Rattle.handset.proofs.calls.gauge_convert.Goals as goal

pub returns : goal.returns
unfolding convert_bytes convert_number kept_number
returns c =
    let answer = load_answer c.args.old.now in
    record {
      number = c.keep.ensures.number answer c.load.ensures;
      bytes = c.keep.ensures.bytes answer c.load.ensures ∙ kept_is answer c.args.saved.now;
    }
