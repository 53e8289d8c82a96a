-- A window's parts, put together from what each callee gives. Assumes nothing.
use mathlib.Core.Bool.{Bool}
use mathlib.Core.Path.{◌≡◌, refl, ap, ◌∙◌}
use Prim.Native.Nat.{ℕ}
use Rattle.charge.specs.declared.charge.Charge.{Charge}
use Rattle.configuration.specs.Configuration.{s0}
use Rattle.configuration.specs.Terms.{terms_of}
use Rattle.counters.specs.Counters.{counters_moved}
use Rattle.counters.specs.declared.counters.Counters.{Counters}
use Rattle.flags.specs.Flags.{cleared_if}
use Rattle.flags.specs.declared.flags.Flags.{Flags}
use Rattle.host.specs.Host.{full_if}
use Rattle.host.specs.declared.host.Host.{Host}
use Rattle.reached.specs.ChargeAfter.{charge_after, reached_in, summed}
use Rattle.reached.specs.Ending.{ending_of}
use Rattle.reached.specs.Full.{is_full}
use Rattle.reached.specs.Reached.{charge_ended, charge_reached, filled_if, flags_ended, reached_by}
use Rattle.reached.specs.declared.ending.Ending.{Ending}
use Rattle.sample.specs.Current.{discharge_current}
use Rattle.standby.specs.Standby.{averaged}
use Rattle.sample.specs.declared.current.Current.{Current}
use Rattle.gauge.specs.Parts.{gauge_of}
use Rattle.gauge.specs.Window.{window}
use Rattle.gauge.specs.declared.state.Gauge.{Gauge}
use Rattle.gauge.proofs.GaugeLaws.{same_settings_alike}

module _ (c : Current) (v t : ℕ) (g : Gauge) where
  full : Bool
  full = is_full (terms_of g.settings) c v (summed (terms_of g.settings) c t g.charge).held (summed (terms_of g.settings) c t g.charge).lmd

  ending : Ending
  ending = ending_of (terms_of g.settings) (summed (terms_of g.settings) c t g.charge).run.vdq (discharge_current c) v t

  -- what each callee gives, in their order
  pub stepped_is : {x y z : Charge} {b : Bool} {d i k : ℕ} {e : Ending} {f j : Flags} {h : Host} {m : Counters}
      → x ≡ summed (terms_of g.settings) c t g.charge → b ≡ is_full (terms_of g.settings) c v x.held x.lmd → d ≡ discharge_current c
      → e ≡ ending_of (terms_of g.settings) x.run.vdq d v t → y ≡ filled_if b x → z ≡ charge_ended e y
      → f ≡ cleared_if c.charging g.flags → j ≡ flags_ended e f → h ≡ full_if b g.host
      → k ≡ discharge_current c → i ≡ averaged (s0 g.settings) g.standby k → m ≡ counters_moved g.charge.lmd c g.counters
      → gauge_of g.settings z (record { current = c; voltage = v; temperature = t }) i j h m ≡ window c v t g
  unfolding window charge_after reached_in reached_by charge_reached full ending
  stepped_is {x} {y} {z} {b} {d} {i} {k} {e} {f} {j} {h} px pb pd pe py pz pf pj ph pk pi pm =
      let qb : b ≡ full = pb ∙ ap (λ (w : Charge). is_full (terms_of g.settings) c v w.held w.lmd) px in
      let qe : e ≡ ending =
      pe ∙ ap (λ (m : ℕ). ending_of (terms_of g.settings) x.run.vdq m v t) pd
      ∙ ap (λ (w : Charge). ending_of (terms_of g.settings) w.run.vdq (discharge_current c) v t) px in
      let qy : y ≡ filled_if full (summed (terms_of g.settings) c t g.charge) = py ∙ ap (λ (s : Bool). filled_if s x) qb ∙ ap (filled_if full) px in
      let qz : z ≡ charge_ended ending (filled_if full (summed (terms_of g.settings) c t g.charge)) = pz ∙ ap (λ (s : Ending). charge_ended s y) qe ∙ ap (charge_ended ending) qy in
      let qj : j ≡ flags_ended ending (cleared_if c.charging g.flags) = pj ∙ ap (λ (s : Ending). flags_ended s f) qe ∙ ap (flags_ended ending) pf in
      let qh : h ≡ full_if full g.host = ph ∙ ap (λ (s : Bool). full_if s g.host) qb in
      let qi : i ≡ averaged (s0 g.settings) g.standby (discharge_current c) = pi ∙ ap (averaged (s0 g.settings) g.standby) pk in
      same_settings_alike qz refl qi qj qh pm
