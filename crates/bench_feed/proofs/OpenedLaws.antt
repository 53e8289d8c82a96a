-- The bench pack is opened. Assumes nothing.
use mathlib.Core.Path.{◌≡◌, sym, ap}
use Rattle.std.specs.Prelude.{Result, Ok, Err}
use Rattle.configuration.specs.BenchPack.{bench_pack}
use Rattle.gauge.specs.Opening.{open_answer, open_refusal, opened}
use Rattle.gauge.specs.declared.state.Gauge.{Gauge}
use Rattle.refusals.proofs.OrElseLaws.{number_above}
use Rattle.refusals.specs.Refusal.{Answers}
use Rattle.refusals.specs.declared.Refusal.{Refusal}
use Rattle.bench_feed.specs.Printed.{bench_gauge}

pub pack_opened : (r : Result Gauge Refusal) → Answers r (open_refusal bench_pack) (opened bench_pack) → r ≡ Ok bench_gauge
unfolding open_answer open_refusal
pack_opened (Ok g) p = ap (λ (x : Gauge). Ok x) p.1
pack_opened (Err r) p = absurd (number_above r (sym p))
