-- Accepted bytes are those of the gauge that they hold. Assumes nothing.
use Prim.Native.Nat.{ℕ, ◌<◌}
use borrow.Author.Rules.{rules}
use lib.ListN.{get_or}
use Rattle.round_trip.proofs.RoundTripLaws.{resaved_done}
use Rattle.round_trip.proofs.round_trip.resaved.Goals as goal

pub returns : goal.returns
returns c =
    let small : (k : ℕ) → get_or c.args.bytes.now k 0 < 256 = λ k. search rules in
    let loaded = c.in_ok-gauge.ensures in
    let p = resaved_done c.args.bytes.now small loaded.0 loaded.1 c.save.ensures.number c.save.ensures.bytes in
    record { number = p.0; bytes = p.1 }
