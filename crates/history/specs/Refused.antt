-- "A call is refused exactly where the numbers below say so for its arguments and the MODE and AR kept here" (paper 01), and for an estimate the
-- rest windows kept here (A4 of paper 02), worded for the history. Definitions only; assumes nothing.
use Rattle.std.specs.Prelude.{◌&&◌, ◌||◌, cond, ℕ, ◌+◌, eqb, ltb, pos}
use Rattle.std.specs.Int.Signed.{le_z}
use Rattle.command.specs.Command.{decide, decision_number}
use Rattle.refusals.specs.Refusal as Refusal
use Rattle.refusals.specs.Refusal.{or_else}
use Rattle.sample.specs.Limits.{rest_in_range}
use Rattle.sample.specs.Range.{current_refusal, temperature_refusal, voltage_refusal}
use Rattle.history.specs.Call.{Call, window, rest, write, read, preview, estimate}
use Rattle.history.specs.Kept.{History}

unfoldable pub refusal_of : Call → History → ℕ
-- 3 "current range", 4 "voltage range", 5 "temperature range"
refusal_of (window a v t) x = or_else (current_refusal a) (or_else (voltage_refusal v) (temperature_refusal t))
-- 6 "rest length", 1 to 506,250, before 5
refusal_of (rest n t) x = cond (rest_in_range n) (temperature_refusal t) Refusal.rest_length
-- 7 "address not writable", then 8 to 11 of a key at CTRL
refusal_of (write address value) x =
    cond (ltb 3 address) Refusal.not_writable
    (cond (eqb address 0) (decision_number (decide value.number x.host.mode x.host.ar)) Refusal.none)
-- 12 "count 0, or address + count > 128", 13 "place + count beyond the reply"
refusal_of (read address count place reply_length) x =
    or_else (cond (eqb count 0 || ltb 128 (address + count)) Refusal.register_range Refusal.none)
    (cond (ltb reply_length (place + count)) Refusal.buffer_length Refusal.none)
-- 8 to 11 of the key, "and last 13 for a reply not of 128 bytes"
refusal_of (preview key reply_length) x =
    or_else (decision_number (decide key.number x.host.mode x.host.ar)) (cond (eqb reply_length 128) Refusal.none Refusal.buffer_length)
-- "15 fewer than 422 rest windows, then 16 voltage outside the table", 3,000 to 4,200
refusal_of (estimate v) x =
    or_else (cond (ltb x.counters.rests 422) Refusal.not_rested Refusal.none)
    (cond (le_z (pos 3_000) v && le_z v (pos 4_200)) Refusal.none Refusal.outside_table)
