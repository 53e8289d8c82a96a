-- Four numbers, each behind the one before it. A number takes at most eleven bytes with the byte after it, so there is room for each.
-- Assumes nothing.
use Rattle.bench_output.proofs.PutLaws.{registers_put}
use Rattle.bench_output.proofs.put.put_registers.Goals as goal

pub returns : goal.returns
returns c =
    registers_put _ _ _ _ c.from.type_inv c.from-2.type_inv c.from-3.type_inv c.from-4.type_inv _ _ _ _ _ _ _ _ _ _ c.requires
    c.put_number-second.ensures c.put_number-third.ensures c.put_number-fourth.ensures c.put_number.ensures
    _ _ _ _ c.from.ensures c.from-2.ensures c.from-3.ensures c.from-4.ensures
