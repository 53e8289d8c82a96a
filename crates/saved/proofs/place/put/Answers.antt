-- The bytes of the number, stored. Assumes nothing.
use mathlib.Core.Path.{◌≡◌, ap, ◌∙◌}
use native.Mathlib.Omega.{arith}
use lib.ListN.{length}
use lib.Seq.{sets}
use Rattle.saved.proofs.PutLaws.{field_put, little_length}
use Rattle.saved.proofs.place.put.Goals as goal

pub returns : goal.returns
returns g c =
    let a = c.args in
    let wide : length c.to_little.result ≡ g.row.N = ap length c.to_little.ensures ∙ little_length g.row.N (g.T.Little.number a.value) in
    field_put a.saved.now a.place g.row.N wide c.copy_from_slice.ensures.after (omega arith) ∙ ap (sets a.saved.now a.place) c.to_little.ensures
