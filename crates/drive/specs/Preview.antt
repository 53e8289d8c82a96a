-- A2 of paper 02, said of the calls from C: a preview "equals the write done on a copy and then read, refusals included, and last 13 for a reply not of
-- 128 bytes". Definitions only; assumes nothing.
use Rattle.std.specs.Prelude.{cond, List, ◌≡◌, ℕ, ◌<◌, eqb, get_or, length}
use Rattle.command.specs.Command.{command_of, decide}
use Rattle.form.specs.Form.{Ar, Mode, newest, number_of}
use Rattle.handset.specs.Calls.{preview_command, preview_number, preview_reply, read_reply, write_call}
use Rattle.saved.specs.Call.{call_bytes, call_number}
use Rattle.preview.specs.Preview.{whole_reply_refusal}
use Rattle.refusals.specs.Refusal as Refusal
use Rattle.refusals.specs.Refusal.{or_else}
use Rattle.registers.specs.Map.{register_count}

pub record WrittenThenRead (saved : List ℕ) (key : ℕ) (reply : List ℕ) : Type 0 where
  -- the number of the write, then 13
  pub number : preview_number saved key (length reply) ≡ or_else (call_number saved (write_call 0x00 key)) (whole_reply_refusal (length reply))
  -- the reply of the read, of all registers of the bytes that the write leaves
  pub registers : preview_reply saved key reply
      ≡ cond (eqb (preview_number saved key (length reply)) Refusal.none)
      (read_reply (call_bytes saved (write_call 0x00 key)) 0x00 register_count 0 reply)
      reply
  -- "the command that would be obeyed", by the MODE and AR that stand in the bytes
  pub command : (before : ℕ)
      → preview_command saved key (length reply) before
      ≡ cond (eqb (preview_number saved key (length reply)) Refusal.none)
      (command_of (decide key (number_of Mode newest saved) (number_of Ar newest saved)))
      before

-- for all bytes, every key and every reply
abbrev pub PreviewOfCopy : Type 0
PreviewOfCopy = (saved : List ℕ) → ((k : ℕ) → get_or saved k 0 < 256) → (key : ℕ) (reply : List ℕ) → WrittenThenRead saved key reply
