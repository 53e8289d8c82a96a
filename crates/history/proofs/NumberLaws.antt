-- A call on an accepted gauge yields the number that the history gives, and that is never 14. Assumes nothing.
use mathlib.Core.Bool.{Bool, ◌&&◌, ◌||◌, false, true, cond}
use mathlib.Core.Path.{◌≡◌, refl, ap}
use Prim.Native.Nat.{ℕ, ◌+◌, ◌≤◌}
use native.Mathlib.Omega.{arith}
use lib.Dec.{eqb, ltb}
use lib.IntN.{ℤ, pos, negsuc}
use lib.Signed.{le_z}
use Rattle.command.specs.Command.{decide, decision_number}
use Rattle.command.specs.Command.{Decision}
use Rattle.estimate.specs.Estimate.{estimate_refusal}
use Rattle.gauge.specs.Accepted.{accepted}
use Rattle.gauge.specs.Calls.{rest_answer, window_answer, write_answer, write_refusal}
use Rattle.gauge.specs.declared.state.Gauge.{Gauge}
use Rattle.refusals.specs.Refusal as Refusal
use Rattle.refusals.specs.Refusal.{or_else}
use Rattle.permille.specs.Table.{in_table}
use Rattle.preview.specs.Preview.{preview_refusal}
use Rattle.registers.specs.Reading.{place_refusal, read_refusal}
use Rattle.sample.specs.Limits.{rest_in_range}
use Rattle.sample.specs.Range.{between, current_in_range, current_refusal, temperature_in_range, temperature_refusal, voltage_in_range, voltage_refusal}
use Rattle.history.specs.After.{number_of}
use Rattle.history.specs.Call.{Call}
use Rattle.history.specs.Kept.{History}
use Rattle.history.specs.Refused.{refusal_of}
use Rattle.history.proofs.BesideLaws.{Beside}
use Rattle.history.proofs.CommandTracks.{host_decides}
use Rattle.history.proofs.CountersTrack.{rested_alike}
use Rattle.command.proofs.DecisionLaws.{key_most}

-- ---- the history's number

-- a voltage in the table, in the history's words
in_table_is : (v : ℤ) → in_table v ≡ (le_z (pos 3_000) v && le_z v (pos 4_200))
unfolding in_table between
in_table_is (pos n) = refl
in_table_is (negsuc n) = refl

pub numbers_alike : (call : Call) (g : Gauge) (x : History) → accepted g ≡ true → Beside g x → number_of call g ≡ refusal_of call x
unfolding number_of refusal_of window_answer rest_answer write_answer write_refusal read_refusal place_refusal preview_refusal estimate_refusal
numbers_alike (Call.window a v t) g x e f = rw e
numbers_alike (Call.rest n t) g x e f = rw e
numbers_alike (Call.write address value) g x e f =
    rw e
    (ap (λ (d : Decision). cond (ltb 3 address) Refusal.not_writable (cond (eqb address 0) (decision_number d) Refusal.none))
    (host_decides value.number g.host x.host f.host))
numbers_alike (Call.read address count place reply_length) g x e f = rw e
numbers_alike (Call.preview key reply_length) g x e f =
    rw e
    (ap (λ (d : Decision). or_else (decision_number d) (cond (eqb reply_length 128) Refusal.none Refusal.buffer_length))
    (host_decides key.number g.host x.host f.host))
numbers_alike (Call.estimate v) g x e f =
    rw (e, in_table_is v)
    (ap (λ (n : ℕ). or_else n (cond (le_z (pos 3_000) v && le_z v (pos 4_200)) Refusal.none Refusal.outside_table))
    (rested_alike g.counters x.counters f.counters))

-- ---- is never 14

abbrev Other : ℕ → Type 0
Other n = n ≡ Refusal.rejected → ⊥

either_other : (t : Bool) (m n : ℕ) → Other m → Other n → Other (cond t m n)
either_other true m n p q = p
either_other false m n p q = q

or_else_other : (m n : ℕ) → Other m → Other n → Other (or_else m n)
or_else_other m n p q = either_other (eqb m 0) n m q p

low_other : (n : ℕ) → n ≤ 13 → Other n
low_other n h e = omega arith

pub number_other : (call : Call) (x : History) → Other (refusal_of call x)
unfolding refusal_of
number_other (Call.window a v t) x =
    or_else_other (current_refusal a) (or_else (voltage_refusal v) (temperature_refusal t))
    (either_other (current_in_range a) Refusal.none Refusal.current_range (λ e. omega arith) (λ e. omega arith))
    (or_else_other (voltage_refusal v) (temperature_refusal t)
    (either_other (voltage_in_range v) Refusal.none Refusal.voltage_range (λ e. omega arith) (λ e. omega arith))
    (either_other (temperature_in_range t) Refusal.none Refusal.temperature_range (λ e. omega arith) (λ e. omega arith)))
number_other (Call.rest n t) x =
    either_other (rest_in_range n) (temperature_refusal t) Refusal.rest_length
    (either_other (temperature_in_range t) Refusal.none Refusal.temperature_range (λ e. omega arith) (λ e. omega arith)) (λ e. omega arith)
number_other (Call.write address value) x =
    either_other (ltb 3 address) Refusal.not_writable _ (λ e. omega arith)
    (either_other (eqb address 0) (decision_number (decide value.number x.host.mode x.host.ar)) Refusal.none
    (low_other _ (key_most value.number x.host.mode x.host.ar)) (λ e. omega arith))
number_other (Call.read address count place reply_length) x =
    or_else_other (cond (eqb count 0 || ltb 128 (address + count)) Refusal.register_range Refusal.none)
    (cond (ltb reply_length (place + count)) Refusal.buffer_length Refusal.none)
    (either_other (eqb count 0 || ltb 128 (address + count)) Refusal.register_range Refusal.none (λ e. omega arith) (λ e. omega arith))
    (either_other (ltb reply_length (place + count)) Refusal.buffer_length Refusal.none (λ e. omega arith) (λ e. omega arith))
number_other (Call.preview key reply_length) x =
    or_else_other (decision_number (decide key.number x.host.mode x.host.ar)) (cond (eqb reply_length 128) Refusal.none Refusal.buffer_length)
    (low_other _ (key_most key.number x.host.mode x.host.ar))
    (either_other (eqb reply_length 128) Refusal.none Refusal.buffer_length (λ e. omega arith) (λ e. omega arith))
number_other (Call.estimate v) x =
    or_else_other (cond (ltb x.counters.rests 422) Refusal.not_rested Refusal.none)
    (cond (le_z (pos 3_000) v && le_z v (pos 4_200)) Refusal.none Refusal.outside_table)
    (either_other (ltb x.counters.rests 422) Refusal.not_rested Refusal.none (λ e. omega arith) (λ e. omega arith))
    (either_other (le_z (pos 3_000) v && le_z v (pos 4_200)) Refusal.none Refusal.outside_table (λ e. omega arith) (λ e. omega arith))
