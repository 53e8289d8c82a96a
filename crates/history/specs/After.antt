-- What a list of calls does to a gauge: each call takes the gauge that the one before it left, by the very definitions that the calls'
-- contracts promise. Definitions only; assumes nothing.
use Rattle.std.specs.Prelude.{List, [], ◌∷◌, ℕ}
use Rattle.estimate.specs.Estimate.{estimate_refusal}
use Rattle.gauge.specs.Calls.{rest_answer, window_answer, write_answer}
use Rattle.gauge.specs.declared.state.Gauge.{Gauge}
use Rattle.preview.specs.Preview.{preview_refusal}
use Rattle.registers.specs.Reading.{read_refusal}
use Rattle.history.specs.Call.{Call, window, rest, write, read, preview, estimate}

-- the gauge that a call leaves; a read, a preview and an estimate hand none back
unfoldable pub gauge_after : Call → Gauge → Gauge
gauge_after (window a v t) g = (window_answer g a v t).gauge
gauge_after (rest n t) g = (rest_answer g n t).gauge
gauge_after (write address value) g = (write_answer g address value.number).gauge
gauge_after (read address count place reply_length) g = g
gauge_after (preview key reply_length) g = g
gauge_after (estimate v) g = g

-- the number that a call yields, 0 where it does its work
unfoldable pub number_of : Call → Gauge → ℕ
number_of (window a v t) g = (window_answer g a v t).number
number_of (rest n t) g = (rest_answer g n t).number
number_of (write address value) g = (write_answer g address value.number).number
number_of (read address count place reply_length) g = read_refusal g address count place reply_length
number_of (preview key reply_length) g = preview_refusal g key.number reply_length
number_of (estimate v) g = estimate_refusal g v

-- the gauge that a list of calls leaves, the first call first
unfoldable pub after : List Call → Gauge → Gauge
after [] g = g
after (call ∷ calls) g = after calls (gauge_after call g)
