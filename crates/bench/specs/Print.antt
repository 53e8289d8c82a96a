-- The bench program between two reads: which bytes its state has been fed. Definitions only; assumes nothing.
use Rattle.std.specs.Prelude.{Bool, true, false, List, ◌≡◌, ℕ, ◌≤◌, ◌<◌, length, take, Result, Ok, Err}
use Rattle.std.specs.Result.{result_unwrap_or}
use Rattle.bench_feed.specs.Feed.{is_ended}
use Rattle.bench_feed.specs.Input.{fed_all}
use Rattle.bench_feed.specs.declared.state.Bench.{Bench}
use Rattle.bench.specs.declared.print.Printed.{Printed}
use Rattle.bench.specs.declared.print.Progress.{Progress}

-- one pass of the filter over a part: the bytes used, at least one where there is one, are fed, and no other
pub record IsPrinted (s : Bench) (part : List ℕ) (r : Printed) : Type 0 where
  pub inside : r.used ≤ length part
  pub bench : r.bench ≡ fed_all s (take r.used part)
  pub progress : 0 < length part → 0 < r.used

-- there is to be another part: not where a read or a write failed
abbrev pub has_more : Progress → Bool
has_more r = result_unwrap_or r.more false

-- a whole part: its first bytes are fed, and where the program goes on all of them
pub record IsProgress (s : Bench) (part : List ℕ) (r : Progress) : Type 0 where
  pub used : ℕ
  pub inside : used ≤ length part
  pub bench : r.bench ≡ fed_all s (take used part)
  pub whole : has_more r ≡ true → r.bench ≡ fed_all s part
  -- "Another first line .. ends it."
  pub goes_on : has_more r ≡ true → is_ended r.bench ≡ false

-- how many bytes a read gave: none where it failed
abbrev pub count : {E : Type 0} → Result ℕ E → ℕ
count (Ok n) = n
count (Err e) = 0

-- a read that gave so many bytes, at the start of the buffer: these are fed, none where it failed or the input has ended
pub record IsRead {E : Type 0} (s : Bench) (got : Result ℕ E) (part : List ℕ) (r : Progress) : Type 0 where
  pub printed : IsProgress s (take (count got) part) r
  pub some : has_more r ≡ true → 0 < count got

-- a turn: some bytes are fed, and where the program goes on at least one
pub record IsTurn (s : Bench) (r : Progress) : Type 0 where
  pub bytes : List ℕ
  pub bench : r.bench ≡ fed_all s bytes
  pub some : has_more r ≡ true → 0 < length bytes
  pub goes_on : has_more r ≡ true → is_ended r.bench ≡ false
