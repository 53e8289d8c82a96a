-- Each way of a call answers what its tests pick, in the paper's order: told of plain gauges and numbers. Assumes nothing.
use mathlib.Core.Bool.{Bool, true, false, cond}
use mathlib.Core.Path.{◌≡◌, refl, sym, ap, ◌∙◌}
use Prim.Native.Nat.{ℕ}
use lib.Dec.{eqb, leb, ltb}
use lib.IntN.{ℤ}
use Rattle.command.specs.Command.{decide}
use Rattle.command.specs.declared.command.Command.{Command}
use Rattle.command.specs.Command.{Decision}
use Rattle.std.specs.Prelude.{Ok, Err}
use Rattle.configuration.specs.Configuration.{dmf}
use Rattle.refusals.specs.Refusal as Refusal
use Rattle.refusals.specs.Refusal.{or_else}
use Rattle.refusals.proofs.OrElseLaws.{not_rejected}
use Rattle.refusals.specs.declared.Refusal as Declared
use Rattle.sample.specs.Current.{counted}
use Rattle.sample.specs.Limits.{longest_rest}
use Rattle.sample.specs.Range.{current, current_in_range, temperature, temperature_in_range, temperature_refusal, voltage, voltage_in_range}
use Rattle.gauge.specs.Accepted.{accepted}
use Rattle.gauge.specs.Answer.{Answer, answered, unless_rejected}
use Rattle.gauge.specs.Calls.{key_answer, rest_answer, rest_refusal, sample_refusal, stored_at, window_answer, write_answer, write_refusal, written}
use Rattle.gauge.specs.Obey.{decided, obeyed}
use Rattle.gauge.specs.Rest.{rest}
use Rattle.gauge.specs.Window.{window}
use Rattle.gauge.specs.declared.state.Gauge.{Gauge}

abbrev pub answer : ℕ → Gauge → Answer
answer number gauge = record { number = number; gauge = gauge }

-- ---- an answer with its tests in order

-- 14 before any other
pub tested_first : (g : Gauge) (n : ℕ) → unless_rejected g n ≡ or_else (unless_rejected g Refusal.none) n
tested_first g n = go (accepted g)
  where
    go : (t : Bool) → cond t n Refusal.rejected ≡ or_else (cond t Refusal.none Refusal.rejected) n
    go true = refl
    go false = refl

pub tested_accepted : (g : Gauge) → unless_rejected g Refusal.none ≡ Refusal.none → accepted g ≡ true
tested_accepted g e = (not_rejected (accepted g) Refusal.none e).0

-- 14 for a gauge value that is rejected
unfoldable pub Rejects : (Gauge → Answer) → Type 0
Rejects call = (g : Gauge) → accepted g ≡ false → (call g).number ≡ Refusal.rejected

pub window_rejects : (a v t : ℤ) → Rejects (λ g. window_answer g a v t)
unfolding Rejects window_answer
window_rejects a v t g e = simp e

pub rest_rejects : (n : ℕ) (t : ℤ) → Rejects (λ g. rest_answer g n t)
unfolding Rejects rest_answer
rest_rejects n t g e = simp e

pub write_rejects : (address value : ℕ) → Rejects (λ g. write_answer g address value)
unfolding Rejects write_answer
write_rejects address value g e = simp e

-- the work is done where the number is 0
pub answered_done : (n : ℕ) (g : Gauge) {next after : Gauge} → n ≡ Refusal.none → after ≡ next → (n ≡ Refusal.none) × (after ≡ (answered n g next).gauge)
answered_done n g z e = (z, simp z e)

done : (n : ℕ) (before next following : Gauge) → n ≡ 0 → next ≡ following → answer 0 next ≡ answered n before following
done n before next following z e = simp z (ap (answer 0) e)

-- ---- a window

module _ (g : Gauge) (a v t : ℤ) where
  pub window_rejected : accepted g ≡ false → answer Refusal.rejected g ≡ window_answer g a v t
  unfolding window_answer
  window_rejected p = simp p

  pub window_current : accepted g ≡ true → current_in_range a ≡ false → answer Refusal.current_range g ≡ window_answer g a v t
  unfolding window_answer
  window_current p q = simp (p, q)

  pub window_voltage : accepted g ≡ true → current_in_range a ≡ true → voltage_in_range v ≡ false
      → answer Refusal.voltage_range g ≡ window_answer g a v t
  unfolding window_answer
  window_voltage p q r = simp (p, q, r)

  pub window_temperature : accepted g ≡ true → current_in_range a ≡ true → voltage_in_range v ≡ true → temperature_in_range t ≡ false
      → answer Refusal.temperature_range g ≡ window_answer g a v t
  unfolding window_answer
  window_temperature p q r s = simp (p, q, r, s)

  pub window_done : {next : Gauge} → accepted g ≡ true → current_in_range a ≡ true → voltage_in_range v ≡ true → temperature_in_range t ≡ true
      → next ≡ window (counted (dmf g.settings) (current a)) (voltage v) (temperature t) g
      → answer 0 next ≡ window_answer g a v t
  unfolding window_answer
  window_done p q r s e = done _ _ _ _ (simp (p, q, r, s)) e

  pub window_number : (window_answer g a v t).number ≡ or_else (unless_rejected g Refusal.none) (sample_refusal a v t)
  unfolding window_answer
  window_number = tested_first g (sample_refusal a v t)

  pub window_gauge : {next : Gauge} → (window_answer g a v t).number ≡ Refusal.none
      → next ≡ window (counted (dmf g.settings) (current a)) (voltage v) (temperature t) g
      → next ≡ (window_answer g a v t).gauge
  unfolding window_answer
  window_gauge z e = (answered_done _ g z e).1

-- ---- a rest

module _ (g : Gauge) (n : ℕ) (t : ℤ) where
  pub rest_rejected : accepted g ≡ false → answer Refusal.rejected g ≡ rest_answer g n t
  unfolding rest_answer
  rest_rejected p = simp p

  pub rest_temperature : accepted g ≡ true → ltb 0 n ≡ true → leb n longest_rest ≡ true → temperature_in_range t ≡ false
      → answer Refusal.temperature_range g ≡ rest_answer g n t
  unfolding rest_answer
  rest_temperature p q r s = simp (p, q, r, s)

  pub rest_done : {next : Gauge} → accepted g ≡ true → ltb 0 n ≡ true → leb n longest_rest ≡ true → temperature_in_range t ≡ true
      → next ≡ rest n (temperature t) g → answer 0 next ≡ rest_answer g n t
  unfolding rest_answer
  rest_done p q r s e = done _ _ _ _ (simp (p, q, r, s)) e

  pub rest_number : (rest_answer g n t).number ≡ or_else (unless_rejected g Refusal.none) (rest_refusal n t)
  unfolding rest_answer
  rest_number = tested_first g (rest_refusal n t)

  -- the last number, 5 or none
  pub rest_last : accepted g ≡ true → ltb 0 n ≡ true → leb n longest_rest ≡ true → (rest_answer g n t).number ≡ temperature_refusal t
  unfolding rest_answer
  rest_last p q r = simp (p, q, r)

  pub rest_gauge : {next : Gauge} → (rest_answer g n t).number ≡ Refusal.none → next ≡ rest n (temperature t) g → next ≡ (rest_answer g n t).gauge
  unfolding rest_answer
  rest_gauge z e = (answered_done _ g z e).1

  pub rest_none : accepted g ≡ true → ltb 0 n ≡ false → answer Refusal.rest_length g ≡ rest_answer g n t
  unfolding rest_answer
  rest_none p q = simp (p, q)

  pub rest_long : accepted g ≡ true → ltb 0 n ≡ true → leb n longest_rest ≡ false → answer Refusal.rest_length g ≡ rest_answer g n t
  unfolding rest_answer
  rest_long p q r = simp (p, q, r)

-- ---- a host write

module _ (g : Gauge) (address value : ℕ) where
  pub write_rejected : accepted g ≡ false → answer Refusal.rejected g ≡ write_answer g address value
  unfolding write_answer
  write_rejected p = simp p

  pub write_number : (write_answer g address value).number ≡ or_else (unless_rejected g Refusal.none) (write_refusal g.host.mode g.host.ar address value)
  unfolding write_answer
  write_number = tested_first g (write_refusal g.host.mode g.host.ar address value)

  pub write_beyond : accepted g ≡ true → ltb 3 address ≡ true → answer Refusal.not_writable g ≡ write_answer g address value
  unfolding write_answer write_refusal
  write_beyond p q = simp (p, q)

  pub write_key : {r : Answer} → accepted g ≡ true → ltb 3 address ≡ false → eqb address 0 ≡ true → r ≡ key_answer g value
      → r ≡ write_answer g address value
  unfolding write_answer write_refusal written key_answer
  write_key p q z e = simp (p, q, z) e

  pub write_stored : {next : Gauge} → accepted g ≡ true → ltb 3 address ≡ false → eqb address 0 ≡ false → next ≡ stored_at address value g
      → answer 0 next ≡ write_answer g address value
  unfolding write_answer write_refusal written
  write_stored p q z e = simp (p, q, z) (ap (answer 0) e)

-- ---- a key

either : (t : Bool) (g : Gauge) → g ≡ cond t g g
either true g = refl
either false g = refl

module _ (g : Gauge) (key : ℕ) where
  pub key_obeyed : {next : Gauge} {d : Decision} {command : Command} → d ≡ decide key g.host.mode g.host.ar → d ≡ Ok command
      → next ≡ obeyed command g → answer 0 next ≡ key_answer g key
  unfolding key_answer decided
  key_obeyed p q e = rw (sym p ∙ q) (ap (answer 0) e)

  pub key_refused : {d : Decision} {refusal : Declared.Refusal} → d ≡ decide key g.host.mode g.host.ar → d ≡ Err refusal
      → answer (Refusal.number refusal) g ≡ key_answer g key
  unfolding key_answer decided
  key_refused {refusal = refusal} p q = rw (sym p ∙ q) (ap (answer (Refusal.number refusal)) (either (eqb (Refusal.number refusal) 0) g))
