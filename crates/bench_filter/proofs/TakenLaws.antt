-- Which bytes of a part the filter takes: none behind the last, none without room, and one with room. Assumes nothing.
use mathlib.Core.List.{List}
use mathlib.Core.Path.{◌≡◌, ap, ◌∙◌}
use Prim.Native.Nat.{ℕ, suc, ◌-◌, ◌≤◌, ◌<◌}
use lib.ListN.{drop, drop_of_length-le, get_or, length}
use lib.Seq.{drop-cons}
use borrow.Author.Tests.{lt-ltb, le-ltb}
use Rattle.bench_feed.specs.Feed.{fed}
use Rattle.bench_feed.specs.declared.state.Bench.{Bench}
use Rattle.bench_output.specs.Output.{room, text_of}
use Rattle.bench_filter.specs.Filter.{taken}

-- none behind the last
pub taken_none : (free : ℕ) (s : Bench) (part : List ℕ) (used : ℕ) → length part ≤ used → taken free s (drop used part) ≡ 0
unfolding taken
taken_none free s part used h = ap (λ (l : List ℕ). taken free s l) (drop_of_length-le part h)

-- none without room
pub taken_full : (free : ℕ) (s : Bench) (part : List ℕ) (used : ℕ) → used < length part → free < room → taken free s (drop used part) ≡ 0
unfolding taken
taken_full free s part used h full = ap (λ (l : List ℕ). taken free s l) (drop-cons part used 0 h) ∙ simp (lt-ltb free room full)

-- one with room, and those behind it
pub taken_one : (free : ℕ) (s : Bench) (part : List ℕ) (used : ℕ) → used < length part → room ≤ free
    → taken free s (drop used part)
    ≡ suc (taken (free - length (text_of (fed s (get_or part used 0)).output)) (fed s (get_or part used 0)).bench (drop (suc used) part))
unfolding taken
taken_one free s part used h space = ap (λ (l : List ℕ). taken free s l) (drop-cons part used 0 h) ∙ simp (le-ltb free room space)
