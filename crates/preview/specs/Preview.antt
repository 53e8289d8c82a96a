-- A2 of paper 02, "Look before writing": a preview of a key at CTRL "equals the write done on a copy and then read, refusals included, and last
-- 13 for a reply not of 128 bytes". Definitions only; assumes nothing.
use Rattle.std.specs.Prelude.{cond, List, ℕ, eqb, length}
use Rattle.command.specs.Command.{command_of, decide}
use Rattle.gauge.specs.Calls.{write_answer}
use Rattle.gauge.specs.Answer.{Answer}
use Rattle.gauge.specs.declared.state.Gauge.{Gauge}
use Rattle.refusals.specs.Refusal as Refusal
use Rattle.refusals.specs.Refusal.{or_else}
use Rattle.registers.specs.Map.{register_count}
use Rattle.registers.specs.Reading as Reading

-- "the write done on a copy": a key at CTRL
abbrev pub on_copy : Gauge → ℕ → Answer
on_copy g key = write_answer g 0x00 key

-- 13, "for a reply not of 128 bytes"
abbrev pub whole_reply_refusal : ℕ → ℕ
whole_reply_refusal reply_length = cond (eqb reply_length register_count) Refusal.none Refusal.buffer_length

-- the write's numbers, 14 and 8 to 11, "and last 13"
unfoldable pub preview_refusal : Gauge → ℕ → ℕ → ℕ
preview_refusal g key reply_length = or_else (on_copy g key).number (whole_reply_refusal reply_length)

-- "and then read": every byte of the reply afterwards, "all 128 register bytes" of the copy or those that stood there
unfoldable pub reply_after : Gauge → ℕ → List ℕ → List ℕ
reply_after g key reply =
    cond (eqb (preview_refusal g key (length reply)) Refusal.none) (Reading.reply_after (on_copy g key).gauge 0x00 register_count 0 reply) reply

-- "the command that would be obeyed", or the number that stood there
unfoldable pub command_after : Gauge → ℕ → ℕ → ℕ → ℕ
command_after g key reply_length before =
    cond (eqb (preview_refusal g key reply_length) Refusal.none) (command_of (decide key g.host.mode g.host.ar)) before
