-- The filter: which bytes of a part of the input it takes, and what it has made of them. Definitions only; assumes nothing.
use Rattle.std.specs.Prelude.{cond, List, [], ◌∷◌, ◌++◌, ◌≡◌, ℕ, suc, ◌-◌, ◌≤◌, ◌<◌, ltb, drop, length, take}
use Rattle.bench_feed.specs.Feed.{fed}
use Rattle.bench_feed.specs.Input.{fed_all, printed_at, printed_from}
use Rattle.bench_feed.specs.declared.state.Bench.{Bench}
use Rattle.bench_output.specs.Output.{room, text_of}
use Rattle.bench_filter.specs.declared.filter.Filtered.{Filtered}

-- how many bytes are taken where so many bytes are free: each while there is room for another output
unfoldable pub taken : ℕ → Bench → List ℕ → ℕ
taken free s [] = 0
taken free s (b ∷ bs) = cond (ltb free room) 0 (suc (taken (free - length (text_of (fed s b).output)) (fed s b).bench bs))

-- a part of the input and the buffer before, what is handed back, and the buffer after
pub record IsFiltered (s : Bench) (part out : List ℕ) (r : Filtered) (after : List ℕ) : Type 0 where
  pub used : r.used ≡ taken (length out) s part
  pub inside : r.used ≤ length part
  pub bench : r.bench ≡ fed_all s (take r.used part)
  pub made : r.made ≡ length (printed_at s (take r.used part))
  pub within : (r.made ≤ length after) × (r.made ≡ length (take r.made after))
  -- what was made stands first; the bytes behind it are as they were
  pub bytes : after ≡ printed_at s (take r.used part) ++ drop r.made out
  -- what was made, followed by what the bytes left and any further ones give, is what all of them give
  pub whole : (rest : List ℕ) → take r.made after ++ printed_from r.bench (drop r.used part ++ rest) ≡ printed_from s (part ++ rest)
  -- where there is room and a byte, a byte is taken
  pub progress : room ≤ length out → 0 < length part → 0 < r.used
