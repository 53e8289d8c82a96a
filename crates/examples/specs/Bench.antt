-- The bench pack and its three windows. Definitions only; assumes nothing.
use Rattle.std.specs.Prelude.{ℕ, ℤ, pos, negsuc}
use Rattle.configuration.specs.Settings.{opened_settings}
use Rattle.configuration.specs.BenchPack.{bench_pack}
use Rattle.configuration.specs.Terms.{Terms, terms_of}
use Rattle.gauge.specs.Calls.{window_answer, write_answer}
use Rattle.gauge.specs.Opening.{open_answer}
use Rattle.gauge.specs.declared.state.Gauge.{Gauge}

abbrev pub bench_terms : Terms
bench_terms = terms_of (opened_settings bench_pack)

-- "opens this pack"
abbrev pub opened_pack : Gauge
opened_pack = (open_answer bench_pack).gauge

abbrev pub after_sample : Gauge → ℤ → ℤ → ℤ → Gauge
after_sample g a v t = (window_answer g a v t).gauge

-- "2 3700 1192"
abbrev pub line_one : Gauge
line_one = after_sample opened_pack (pos 2) (pos 3_700) (pos 1_192)

-- "20 4150 1192"
abbrev pub line_two : Gauge
line_two = after_sample line_one (pos 20) (pos 4_150) (pos 1_192)

-- "-3000 3600 1192"
abbrev pub line_three : Gauge
line_three = after_sample line_two (negsuc 2_999) (pos 3_600) (pos 1_192)

-- AR written low byte, then high byte
abbrev pub with_ar : ℕ → ℕ → Gauge → Gauge
with_ar low high g = (write_answer (write_answer g 2 low).gauge 3 high).gauge
