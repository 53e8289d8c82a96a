-- The number that the bytes are, taken out. Assumes nothing.
use mathlib.Core.Path.{ap, ◌∙◌}
use Rattle.numbers.proofs.BytesLaws.{number_taken}
use Rattle.numbers.specs.Little.{number_at}
use Rattle.numbers.proofs.little.number_at.Goals as goal

pub returns : goal.returns
returns g c =
    let a = c.args in
    c.of_little.ensures ∙ ap (number_at g.row.N 0) c.bytes_at.ensures ∙ number_taken g.row.N a.place a.bytes.now
