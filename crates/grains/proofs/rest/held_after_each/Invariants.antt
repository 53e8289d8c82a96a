-- The windows left, from what is held now, end where all of them end from the start. Assumes nothing.
use mathlib.Core.Path.{◌≡◌}
use Prim.Native.Nat.{◌-◌, ◌≤◌}
use Rattle.grains.specs.Rest.{rest_leak}
use Rattle.grains.proofs.rest.held_after_each.Given as goal

abbrev pub invariant-loop : goal.invariant-loop
invariant-loop l =
    (l.rested - rest_leak (l.windows - l.counter) l.rate l.rested ≡ l.held - rest_leak l.windows l.rate l.held) × (l.rested ≤ l.held)
