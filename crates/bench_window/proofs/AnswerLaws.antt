-- A line of three numbers is answered as the window of these numbers, each read back from its bits. Assumes nothing.
use mathlib.Core.Path.{◌≡◌, ◌∙◌}
use mir.Syntax.{w32}
use mir.Val.{SFits, of_z, to_z}
use Rattle.std.specs.Prelude.{Option, Some, ℤ}
use Rattle.bench_output.specs.declared.output.Output.{Output}
use Rattle.bench_output.specs.declared.output.Output.TheVariants.{Refused}
use Rattle.gauge.specs.Answer.{Answer}
use Rattle.gauge.specs.Calls.{window_answer}
use Rattle.gauge.specs.declared.state.Gauge.{Gauge}
use Rattle.numbers.proofs.SignedLaws.{narrow}
use Rattle.refusals.specs.Refusal.{none, number}
use Rattle.refusals.specs.declared.Refusal.{Refusal}
use Rattle.bench_window.specs.Answer.{answer_output, line_answered}
use Rattle.bench_window.specs.Shown.{registers_output}
use Rattle.bench_window.specs.declared.answer.Answered.{Answered}
use Rattle.bench_window.proofs.RefusedLaws.{number_is_none}

abbrev answered : Answer → Answered
answered w = record { gauge = w.gauge; output = answer_output w.number w.gauge }

window_ran : (w : Answer) (after : Gauge) (s : Output) → w.number ≡ none → after ≡ w.gauge → s ≡ registers_output after
    → ◌≡◌ {A = Answered} (record { gauge = after; output = s }) (answered w)
unfolding answer_output
window_ran w after s n e f = simp (n, f, e)

window_refused : (g : Gauge) (w : Answer) (r : Refusal) → w.number ≡ number r → w.gauge ≡ g
    → ◌≡◌ {A = Answered} (record { gauge = g; output = Refused (number r) }) (answered w)
unfolding answer_output
window_refused g w r n e = simp (n, number_is_none r, e)

-- a refused window leaves the gauge
left : (g : Gauge) (a v t : ℤ) (r : Refusal) → (window_answer g a v t).number ≡ number r → (window_answer g a v t).gauge ≡ g
unfolding window_answer
left g a v t r n = simp (n, number_is_none r)

module _ (g : Gauge) (a v t : ℤ) (ha : SFits w32 a) (hv : SFits w32 v) (ht : SFits w32 t)
    (line : Option (ℤ × ℤ × ℤ)) (is : line ≡ Some (a, v, t)) where
  abbrev window : Answer
  window = window_answer g (to_z w32 (of_z w32 a)) (to_z w32 (of_z w32 v)) (to_z w32 (of_z w32 t))

  read_back : answered window ≡ line_answered g line
  unfolding line_answered
  read_back = simp (is, narrow a ha, narrow v hv, narrow t ht)

  pub ran : (after : Gauge) (s : Output) → (window.number ≡ none) × (after ≡ window.gauge) → s ≡ registers_output after
      → ◌≡◌ {A = Answered} (record { gauge = after; output = s }) (line_answered g line)
  ran after s p f = window_ran window after s p.0 p.1 f ∙ read_back

  pub was_refused : (r : Refusal) → window.number ≡ number r
      → ◌≡◌ {A = Answered} (record { gauge = g; output = Refused (number r) }) (line_answered g line)
  was_refused r n = window_refused g window r n (left g _ _ _ r n) ∙ read_back
