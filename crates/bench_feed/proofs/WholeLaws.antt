-- The bench program from its start prints what the whole input prints, in whatever parts it comes. Assumes nothing.
use mathlib.Core.List.{List, [], flatten}
use mathlib.Core.Path.{◌≡◌, ◌∙◌}
use Prim.Native.Nat.{ℕ}
use Rattle.bench_feed.specs.Feed.{start}
use Rattle.bench_feed.specs.Input.{printed_from, printed_of}
use Rattle.bench_feed.specs.Printed.{bench_gauge, printed}
use Rattle.bench_feed.proofs.FirstLaws.{first_prints}
use Rattle.bench_feed.proofs.InputLaws.{cut_any_way}

pub whole_input : (input : List ℕ) → printed_from start input ≡ printed input
unfolding printed
whole_input input = first_prints bench_gauge [] input

pub parts_of_input : (parts : List (List ℕ)) → printed_of start parts ≡ printed (flatten parts)
parts_of_input parts = cut_any_way start parts ∙ whole_input (flatten parts)
