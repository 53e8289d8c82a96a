-- A3 of paper 02, said of the calls from C: n calls of `gauge_rest` with 1 leave the bytes of one call with n. Definitions only; assumes nothing.
use Rattle.std.specs.Prelude.{true, List, ◌≡◌, ℕ, ◌<◌, ℤ, get_or}
use Rattle.sample.specs.Limits.{rest_in_range}
use Rattle.history.specs.Rests.{OneByOne}
use Rattle.drive.specs.Drive.{bytes_after, called_bytes, called_number}

-- for all bytes, every number of windows from 1 to the limit and every temperature
abbrev pub RestCallsOfOne : Type 0
RestCallsOfOne =
    (saved : List ℕ) → ((k : ℕ) → get_or saved k 0 < 256)
    → (n : ℕ) → rest_in_range n ≡ true → (t : ℤ) → OneByOne bytes_after called_bytes called_number n t saved
