-- Scripted lists of calls, and what is asked of the gauge and of the history after one. Definitions only; assumes nothing.
use Rattle.std.specs.Prelude.{cond, List, [], ◌∷◌, ◌++◌, ℕ, zero, suc, ◌<◌, ◌%◌, eqb, ℤ, pos, negsuc, length, replicate}
use Rattle.std.proofs.Math.Option.{Option, none, some}
use Rattle.std.proofs.Common.{mod-lt, arith}
use Rattle.charge.specs.declared.charge.Charge.{Charge}
use Rattle.drive.specs.Claim.{begun_in}
use Rattle.drive.specs.Drive.{bytes_after, called_bytes, called_number}
use Rattle.every_form.specs.EveryForm.{load_answer}
use Rattle.form.specs.Form.{form_of}
use Rattle.gauge.specs.Opening.{open_answer}
use Rattle.gauge.specs.declared.state.Gauge.{Gauge}
use Rattle.handset.specs.Calls.{convert_bytes, open_bytes}
use Rattle.history.specs.After.{after, gauge_after, number_of}
use Rattle.history.specs.Call.{Byte, Call}
use Rattle.history.specs.Claim.{begun}
use Rattle.history.specs.History.{after_call, after_calls, opened_history}
use Rattle.history.specs.Kept.{History}
use Rattle.history.specs.Refused.{refusal_of}
use Rattle.registers.specs.Map.{register}
use Rattle.registers.specs.Whole.{whole_map}
use Rattle.saved.specs.Save.{saved_bytes}

-- ---- a script

-- a call, so many times
pub record Repeated : Type 0 where
  pub times : ℕ
  pub call : Call

infix 70 ◌of◌
abbrev pub ◌of◌ : ℕ → Call → Repeated
times of call = record { times = times; call = call }

abbrev pub listed : List Repeated → List Call
listed [] = []
listed (r ∷ rs) = replicate r.times r.call ++ listed rs

-- a byte that is written, or a key
abbrev pub byte : ℕ → Byte
byte n = let positive : 0 < 256 = omega arith in record { number = n % 256; below = mod-lt n positive }

-- a current that is drawn
abbrev pub drawn : ℕ → ℤ
drawn zero = pos 0
drawn (suc n) = negsuc n

-- ---- where it starts: at ten configuration bytes that are opened, or at saved bytes of any form

abbrev ten : List ℕ → {A : Type 0} → A → A → A
ten start {A} opened kept = cond {A = A} (eqb (length start) 10) opened kept

abbrev pub started : List ℕ → Gauge
started start = ten start (open_answer start).gauge (load_answer start).gauge

abbrev pub started_history : List ℕ → History
started_history start = ten start (opened_history start) (begun (load_answer start).gauge)

-- opened into a buffer in which something stood
abbrev pub started_bytes : List ℕ → List ℕ
started_bytes start = ten start (open_bytes start (replicate 55 0xEE)) start

-- ---- what a script leaves

-- all 128 registers
abbrev pub registers_of : List ℕ → List Repeated → List ℕ
registers_of start script = whole_map (after (listed script) (started start))

-- the 55 saved bytes of the gauge, and those that the calls from C leave
abbrev pub saved_of : List ℕ → List Repeated → List ℕ
saved_of start script = saved_bytes (after (listed script) (started start))

abbrev pub bytes_of : List ℕ → List Repeated → List ℕ
bytes_of start script = bytes_after (listed script) (started_bytes start)

-- those that a conversion leaves, and the calls after it
abbrev pub converted_of : List ℕ → List Repeated → List ℕ
converted_of start script = bytes_after (listed script) (convert_bytes start (replicate 55 0xEE))

-- FLAGS and MODE
abbrev pub flags_and_mode : List ℕ → List Repeated → List ℕ
flags_and_mode start script =
    register (after (listed script) (started start)) 0x0A ∷ register (after (listed script) (started start)) 0x01 ∷ []

-- h, LMD and DCR
abbrev charges : Charge → List ℕ
charges x = x.held ∷ x.lmd ∷ x.run.dcr ∷ []

abbrev pub charge_of : List ℕ → List Repeated → List ℕ
charge_of start script = charges (after (listed script) (started start)).charge

-- the history: P, Q, K, L, R or −1 without a run, MODE, AR, rest windows, cycles and their drain
abbrev run_number : Option ℕ → ℤ
run_number none = negsuc 0
run_number (some r) = pos r

abbrev kept : History → List ℤ
kept x =
    pos x.account.sums.fixed ∷ x.account.sums.counted ∷ pos x.account.sums.leaked ∷ pos x.account.learned ∷ run_number x.account.run
    ∷ pos x.host.mode ∷ pos x.host.ar ∷ pos x.counters.rests ∷ pos x.counters.cycles ∷ pos x.counters.drain ∷ []

abbrev pub history_of : List ℕ → List Repeated → List ℤ
history_of start script = kept (after_calls (listed script) (started_history start))

-- the same, begun at what bytes of any form hold
abbrev pub begun_of : List ℕ → List Repeated → List ℤ
begun_of start script = kept (after_calls (listed script) (begun_in (form_of start) start))

-- ---- the number of each call of a script

abbrev numbers_after : List Call → Gauge → List ℕ
numbers_after [] g = []
numbers_after (call ∷ calls) g = number_of call g ∷ numbers_after calls (gauge_after call g)

abbrev pub numbers_of : List ℕ → List Repeated → List ℕ
numbers_of start script = numbers_after (listed script) (started start)

-- by the history
abbrev refusals_after : List Call → History → List ℕ
refusals_after [] x = []
refusals_after (call ∷ calls) x = refusal_of call x ∷ refusals_after calls (after_call call x)

abbrev pub refusals_of : List ℕ → List Repeated → List ℕ
refusals_of start script = refusals_after (listed script) (started_history start)

-- by the calls from C
abbrev called_after : List Call → List ℕ → List ℕ
called_after [] saved = []
called_after (call ∷ calls) saved = called_number call saved ∷ called_after calls (called_bytes call saved)

abbrev pub called_of : List ℕ → List Repeated → List ℕ
called_of start script = called_after (listed script) (started_bytes start)
