-- "A read copies count registers from an address to a place inside the host's reply; its other bytes keep." Definitions only;
-- assumes nothing.
use Rattle.std.specs.Prelude.{◌||◌, cond, List, ◌++◌, ℕ, ◌+◌, eqb, ltb, drop, length, take}
use Rattle.gauge.specs.Answer.{unless_rejected}
use Rattle.gauge.specs.declared.state.Gauge.{Gauge}
use Rattle.numbers.specs.Little.{little}
use Rattle.refusals.specs.Refusal as Refusal
use Rattle.refusals.specs.Refusal.{or_else}
use Rattle.registers.specs.Map.{register_count, registers_from}

-- 12, "count 0, or address + count > 128"; the sum is that of the naturals
abbrev pub range_refusal : ℕ → ℕ → ℕ
range_refusal address count = cond (eqb count 0 || ltb register_count (address + count)) Refusal.register_range Refusal.none

-- 13, "place + count beyond the reply"
abbrev pub reply_refusal : ℕ → ℕ → ℕ → ℕ
reply_refusal count place reply_length = cond (ltb reply_length (place + count)) Refusal.buffer_length Refusal.none

unfoldable pub place_refusal : ℕ → ℕ → ℕ → ℕ → ℕ
place_refusal address count place reply_length = or_else (range_refusal address count) (reply_refusal count place reply_length)

unfoldable pub read_refusal : Gauge → ℕ → ℕ → ℕ → ℕ → ℕ
read_refusal g address count place reply_length = unless_rejected g (place_refusal address count place reply_length)

-- that many bytes of a pair from a place on, "low byte first"
abbrev pub pair_bytes : ℕ → ℕ → ℕ → List ℕ
pair_bytes pair from count = take count (drop from (little 2 pair))

-- the registers between what stood before and what stood behind them
abbrev pub reply_with : Gauge → ℕ → ℕ → ℕ → List ℕ → List ℕ
reply_with g address count place reply = take place reply ++ (registers_from g address count ++ drop (place + count) reply)

-- every byte of the reply afterwards
unfoldable pub reply_after : Gauge → ℕ → ℕ → ℕ → List ℕ → List ℕ
reply_after g address count place reply =
    cond (eqb (read_refusal g address count place (length reply)) Refusal.none) (reply_with g address count place reply) reply
