-- After another first line nothing is printed, whatever follows. Assumes nothing.
use mathlib.Core.Bool.{Bool, true}
use mathlib.Core.List.{List, [], ◌∷◌}
use mathlib.Core.Path.{◌≡◌, refl, sym, ap, ◌∙◌}
use Prim.Native.Nat.{ℕ}
use Rattle.bench_output.specs.Output.{text_of}
use Rattle.gauge.specs.declared.state.Gauge.{Gauge}
use Rattle.bench_feed.specs.Feed.{fed, fed_at, last_output, last_output_at, ended_at, is_ended}
use Rattle.bench_feed.specs.Input.{fed_all, printed_at, printed_from}
use Rattle.bench_feed.specs.declared.state.Bench.{Bench}
use Rattle.bench_feed.specs.declared.state.Place.{Place}
use Rattle.bench_feed.specs.declared.state.Place.TheVariants.{First, Listed, Ended}
use Rattle.bench_feed.proofs.InputLaws.{at}

pub ended_prints : (g : Gauge) (bs : List ℕ) → printed_from (at g Ended) bs ≡ []
unfolding printed_from printed_at fed_all fed fed_at last_output last_output_at text_of
ended_prints g [] = refl
ended_prints g (b ∷ bs) = ended_prints g bs

ended_is : (place : Place) → ended_at place ≡ true → place ≡ Ended
unfolding ended_at
ended_is (First matched) e = cc
ended_is (Listed begun r) e = cc
ended_is Ended e = refl

-- whatever follows, nothing more is printed
pub nothing_more : (s : Bench) (r : Bool) → r ≡ is_ended s → r ≡ true → (input : List ℕ) → printed_from s input ≡ []
unfolding is_ended
nothing_more s r e t input =
    ap (λ (p : Place). printed_from (at s.gauge p) input) (ended_is s.place (sym e ∙ t)) ∙ ended_prints s.gauge input
