-- At an address that is not odd the pair's bytes are stored from the low one on. Assumes nothing.
use Rattle.std.proofs.Common.{arith, length, ◌≡◌, ◌%◌}
use Rattle.looks.proofs.CopyLaws.{one_stored, two_stored}
use Rattle.looks.proofs.reading.copy_pair.Goals as goal

pub returns-then-part-eq1 : goal.returns-then-part-eq1
returns-then-part-eq1 c =
    let even : c.args.address % 2 ≡ 0 = omega arith in
    rw (even, c.if-part-eq1.true, c.to_le_bytes.ensures) (one_stored _ _ c.if-part-eq1.true)

pub returns-else-part-eq1 : goal.returns-else-part-eq1
returns-else-part-eq1 c =
    let even : c.args.address % 2 ≡ 0 = omega arith in
    let two : length c.args.part.now ≡ 2 = omega arith in
    rw (even, two, c.to_le_bytes.ensures) (two_stored _ _ _ two)
