-- The bytes found so far are those from the place on. Assumes nothing.
use Rattle.std.proofs.Common.{◌≡◌, ℕ, ◌+◌, ◌<◌, get_or, length}
use Rattle.numbers.proofs.little.bytes_at.Given as goal

abbrev pub invariant-loop-at : goal.invariant-loop-at
invariant-loop-at g l =
    (length l.found ≡ g.row.N) × ((k : ℕ) → k < l.at → get_or l.found k 0 ≡ get_or l.fn.bytes (l.fn.place + k) 0)
