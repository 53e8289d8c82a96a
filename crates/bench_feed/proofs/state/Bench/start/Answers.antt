-- The opened gauge is the definition's, and the laws hold of it. Assumes nothing.
use mathlib.Core.Path.{◌≡◌, refl, ap, ◌∙◌}
use Rattle.std.specs.Prelude.{Some}
use Rattle.gauge.specs.declared.state.Gauge.{Gauge}
use Rattle.bench_feed.specs.Feed.{start}
use Rattle.bench_feed.specs.Input.{printed_from, printed_of}
use Rattle.bench_feed.specs.Printed.{bench_gauge}
use Rattle.bench_feed.specs.declared.state.Bench.{Bench}
use Rattle.bench_feed.specs.declared.state.Place.TheVariants.{First}
use Rattle.bench_feed.proofs.OpenedLaws.{pack_opened}
use Rattle.bench_feed.proofs.WholeLaws.{whole_input, parts_of_input}
use Rattle.bench_feed.proofs.state.Bench.start.Goals as goal

abbrev begun : Gauge → Bench
begun g = record { gauge = g; place = First (Some 0) }

pub unwrap-gauge-requires : goal.unwrap-gauge-requires
unwrap-gauge-requires c = rw (pack_opened c.open.result c.open.ensures) refl

pub returns : goal.returns
returns c =
    let opened = pack_opened c.open.result c.open.ensures in
    let same : c.unwrap-gauge.result ≡ bench_gauge = cc (opened, c.unwrap-gauge.ensures) in
    let e : begun c.unwrap-gauge.result ≡ start = ap begun same in record {
      value = e;
      whole = λ input. ap (λ (s : Bench). printed_from s input) e ∙ whole_input input;
      parts = λ parts. ap (λ (s : Bench). printed_of s parts) e ∙ parts_of_input parts;
    }
