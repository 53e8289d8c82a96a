-- A rest moves the gauge's charge and the history alike, window by window. Assumes nothing.
use Prim.Native.Nat.{ℕ, zero, suc, ◌≤◌}
use lib.IntN.{pos}
use Rattle.charge.specs.Rest.{rested, rested_once}
use Rattle.charge.specs.declared.charge.Charge.{Charge}
use Rattle.configuration.specs.Terms.{Terms}
use Rattle.grains.specs.Leak.{leak_rate}
use Rattle.history.specs.Account.{Account, after_rest, after_rest_window}
use Rattle.charge.proofs.ChargeKept.{ChargeTaken, once_taken}
use Rattle.history.proofs.SumTracks.{once_tracks}
use Rattle.history.proofs.Tracking.{Tracks}

pub rest_tracks : (terms : Terms) (t : ℕ) → leak_rate terms.sd t ≤ 1_920 → (n : ℕ) (y : Charge) (x : Account) → Tracks y x → ChargeTaken y
    → Tracks (rested n (leak_rate terms.sd t) y) (after_rest terms n (pos t) x)
unfolding rested after_rest
rest_tracks terms t low zero y x k b = k
rest_tracks terms t low (suc n) y x k b =
    rest_tracks terms t low n (rested_once (leak_rate terms.sd t) y) (after_rest_window terms (pos t) x)
    (once_tracks terms t low y x k b) (once_taken y b (leak_rate terms.sd t) low)
