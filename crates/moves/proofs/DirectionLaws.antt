-- A window by its direction, on bytes in the form: what each callee loads, gives and puts makes them the saved bytes of the window's gauge. Assumes nothing.
use mathlib.Core.Bool.{Bool, true, false}
use mathlib.Core.List.{List}
use mathlib.Core.Path.{◌≡◌, refl, sym, ap, ◌∙◌}
use Prim.Native.Nat.{ℕ, ◌<◌}
use native.Mathlib.Omega.{arith}
use lib.Dec.{leb}
use lib.ListN.{get_or}
use borrow.Author.Tests.{leb-false}
use Rattle.charge.specs.declared.charge.Charge.{Charge}
use Rattle.configuration.specs.Configuration.{s0}
use Rattle.configuration.specs.Terms.{terms_of}
use Rattle.configuration.specs.declared.settings.Settings.{Settings}
use Rattle.counters.specs.Counters.{counters_moved}
use Rattle.flags.specs.Flags.{cleared_if}
use Rattle.flags.specs.declared.flags.Flags.{Flags}
use Rattle.form.specs.Form.{newest}
use Rattle.gauge.specs.Parts.{gauge_of}
use Rattle.gauge.specs.Window.{window}
use Rattle.gauge.specs.declared.state.Gauge.{Gauge}
use Rattle.host.specs.Host.{full_if}
use Rattle.host.specs.declared.host.Host.{Host}
use Rattle.load.specs.Load.{decoded_gauge, form_fits}
use Rattle.reached.specs.ChargeAfter.{charge_after, reached_in, summed}
use Rattle.reached.specs.Ending.{ending_of}
use Rattle.reached.specs.Full.{is_full}
use Rattle.reached.specs.Reached.{charge_ended, charge_reached, filled_if, flags_ended, reached_by}
use Rattle.reached.specs.declared.ending.Ending.{Ending}
use Rattle.sample.specs.Current.{counted, discharge_current, no_current}
use Rattle.sample.specs.declared.current.Current.{Current}
use Rattle.sample.specs.declared.sample.Sample.{Sample}
use Rattle.saved.specs.Put.{charge_put, counters_put, flags_put, host_put, sample_put, standby_put}
use Rattle.saved.specs.Save.{saved_bytes}
use Rattle.standby.specs.Standby.{averaged}
use Rattle.moves.proofs.BytesLaws.{charged_put, discharged_put, flags_kept, idle_put, own_bytes}
use Rattle.moves.specs.Direction.{charging, discharging}

abbrev sample_of : Current → ℕ → ℕ → Sample
sample_of c v t = record { current = c; voltage = v; temperature = t }

module _ (v t : ℕ) (g : Gauge) where
  -- an idle window moves the charge by its leak, the sample and the counters
  idle_window : gauge_of g.settings (summed (terms_of g.settings) no_current t g.charge) (sample_of no_current v t) g.standby g.flags g.host
      (counters_moved g.charge.lmd no_current g.counters)
      ≡ window no_current v t g
  unfolding window charge_after charge_reached reached_in reached_by is_full discharge_current ending_of filled_if charge_ended cleared_if flags_ended full_if averaged
  idle_window = refl

  module _ (n : ℕ) where
    charged_window : {full : Bool} → full ≡ is_full (terms_of g.settings) (charging n) v (summed (terms_of g.settings) (charging n) t g.charge).held
        (summed (terms_of g.settings) (charging n) t g.charge).lmd
        → gauge_of g.settings (filled_if full (summed (terms_of g.settings) (charging n) t g.charge)) (sample_of (charging n) v t) g.standby
        (cleared_if true g.flags) (full_if full g.host) (counters_moved g.charge.lmd (charging n) g.counters)
        ≡ window (charging n) v t g
    unfolding window charge_after charge_reached reached_in reached_by discharge_current ending_of charge_ended flags_ended averaged
    charged_window e = rw e refl

    discharged_window : {ending : Ending}
        → ending ≡ ending_of (terms_of g.settings) (summed (terms_of g.settings) (discharging n) t g.charge).run.vdq n v t
        → gauge_of g.settings (charge_ended ending (summed (terms_of g.settings) (discharging n) t g.charge)) (sample_of (discharging n) v t)
        (averaged (s0 g.settings) g.standby n) (flags_ended ending g.flags) g.host (counters_moved g.charge.lmd (discharging n) g.counters)
        ≡ window (discharging n) v t g
    unfolding window charge_after charge_reached reached_in reached_by is_full discharge_current filled_if cleared_if full_if
    discharged_window e = rw e refl

-- ---- on the bytes

module _ (bytes : List ℕ) (small : (k : ℕ) → get_or bytes k 0 < 256) (fits : form_fits newest bytes ≡ true) (v t : ℕ) where
  pub idle_moved : {settings : Settings} {x y : Charge} {f : Flags} {c : Current} {b1 b2 b3 b4 : List ℕ} → settings ≡ (decoded_gauge bytes).settings
      → x ≡ (decoded_gauge bytes).charge → f ≡ (decoded_gauge bytes).flags → c ≡ no_current
      → b1 ≡ counters_put (counters_moved x.lmd c (decoded_gauge bytes).counters) bytes → y ≡ summed (terms_of settings) c t x → b2 ≡ charge_put y b1
      → b3 ≡ flags_put false y.run.vdq f b2 → b4 ≡ sample_put (sample_of c v t) b3 → b4 ≡ saved_bytes (window no_current v t (decoded_gauge bytes))
  idle_moved {settings} {x} {y} {f} {c} {b1} {b2} {b3} {b4} ps px pf pc p1 py p2 p3 p4 =
      let g = decoded_gauge bytes in
      let m = counters_moved g.charge.lmd no_current g.counters in
      let z = summed (terms_of g.settings) no_current t g.charge in
      let own : bytes ≡ saved_bytes g = own_bytes bytes small fits in
      let chain : b4 ≡ sample_put (sample_of no_current v t) (flags_put false z.run.vdq g.flags (charge_put z (counters_put m (saved_bytes g)))) = cc in
      chain ∙ idle_put g z (sample_of no_current v t) g.flags m ∙ ap saved_bytes (idle_window v t g)

  module _ (n : ℕ) where
    pub charged_moved : {settings : Settings} {x y z : Charge} {f j : Flags} {h k : Host} {full : Bool} {b1 b2 b3 b4 b5 : List ℕ}
        → settings ≡ (decoded_gauge bytes).settings → x ≡ (decoded_gauge bytes).charge → f ≡ (decoded_gauge bytes).flags → j ≡ cleared_if true f
        → h ≡ (decoded_gauge bytes).host → b1 ≡ counters_put (counters_moved x.lmd (charging n) (decoded_gauge bytes).counters) bytes
        → y ≡ summed (terms_of settings) (charging n) t x → full ≡ is_full (terms_of settings) (charging n) v y.held y.lmd → z ≡ filled_if full y
        → b2 ≡ charge_put z b1 → k ≡ full_if full h → b3 ≡ host_put k b2 → b4 ≡ flags_put true z.run.vdq j b3
        → b5 ≡ sample_put (sample_of (charging n) v t) b4 → b5 ≡ saved_bytes (window (charging n) v t (decoded_gauge bytes))
    charged_moved {settings} {x} {y} {z} {f} {j} {h} {k} {full} {b5 = b5} ps px pf pj ph p1 py pb pz p2 pk p3 p4 p5 =
        let g = decoded_gauge bytes in
        let m = counters_moved g.charge.lmd (charging n) g.counters in
        let u = summed (terms_of g.settings) (charging n) t g.charge in
        let own : bytes ≡ saved_bytes g = own_bytes bytes small fits in
        let sum : y ≡ u = cc in
        let test : full ≡ is_full (terms_of g.settings) (charging n) v u.held u.lmd = cc in
        let chain : b5
        ≡ sample_put (sample_of (charging n) v t) (flags_put true (filled_if full u).run.vdq (cleared_if true g.flags)
        (host_put (full_if full g.host) (charge_put (filled_if full u) (counters_put m (saved_bytes g))))) = cc in
        chain ∙ charged_put g (filled_if full u) (sample_of (charging n) v t) (cleared_if true g.flags) m (full_if full g.host)
        ∙ ap saved_bytes (charged_window v t g n test)

    pub discharged_moved : {settings : Settings} {x y z : Charge} {f j : Flags} {i l : ℕ} {ending : Ending} {b1 b2 b3 b4 b5 : List ℕ}
        → settings ≡ (decoded_gauge bytes).settings → x ≡ (decoded_gauge bytes).charge → i ≡ (decoded_gauge bytes).standby
        → b1 ≡ counters_put (counters_moved x.lmd (discharging n) (decoded_gauge bytes).counters) bytes
        → y ≡ summed (terms_of settings) (discharging n) t x → ending ≡ ending_of (terms_of settings) y.run.vdq n v t → z ≡ charge_ended ending y
        → f ≡ (decoded_gauge b1).flags → j ≡ flags_ended ending f → b2 ≡ charge_put z b1 → b3 ≡ flags_put false z.run.vdq j b2
        → l ≡ averaged (s0 settings) i n → b4 ≡ standby_put l b3 → b5 ≡ sample_put (sample_of (discharging n) v t) b4
        → b5 ≡ saved_bytes (window (discharging n) v t (decoded_gauge bytes))
    discharged_moved {settings} {x} {y} {z} {f} {j} {i} {l} {ending} {b1} {b5 = b5} ps px pi p1 py pe pz pf pj p2 p3 pl p4 p5 =
        let g = decoded_gauge bytes in
        let m = counters_moved g.charge.lmd (discharging n) g.counters in
        let u = summed (terms_of g.settings) (discharging n) t g.charge in
        let a = averaged (s0 g.settings) g.standby n in
        let own : bytes ≡ saved_bytes g = own_bytes bytes small fits in
        let first : b1 ≡ counters_put m (saved_bytes g) = cc in
        let kept : f ≡ g.flags =
        pf ∙ ap (λ (b : List ℕ). (decoded_gauge b).flags) first ∙ flags_kept g m ∙ ap (λ (b : List ℕ). (decoded_gauge b).flags) (sym own) in
        let sum : y ≡ u = cc in
        let test : ending ≡ ending_of (terms_of g.settings) u.run.vdq n v t = cc in
        let chain : b5
        ≡ sample_put (sample_of (discharging n) v t) (standby_put a (flags_put false (charge_ended ending u).run.vdq (flags_ended ending g.flags)
        (charge_put (charge_ended ending u) (counters_put m (saved_bytes g))))) = cc in
        chain ∙ discharged_put g (charge_ended ending u) (sample_of (discharging n) v t) (flags_ended ending g.flags) m a
        ∙ ap saved_bytes (discharged_window v t g n test)

-- ---- a counted current

-- one of magnitude 0 is none
pub counted_none : (dmf : ℕ) (a : Current) {c : Current} → c ≡ counted dmf a → c.magnitude ≡ 0 → c ≡ no_current
unfolding counted
counted_none dmf a {c} e z = go (leb a.magnitude dmf) refl
  where
    go : (b : Bool) → leb a.magnitude dmf ≡ b → c ≡ no_current
    go true l = e ∙ simp l
    go false l =
        let is : c ≡ a = e ∙ simp l in
        let above = leb-false a.magnitude dmf l in
        let none : a.magnitude ≡ 0 = sym (ap (λ (x : Current). x.magnitude) is) ∙ z in
        let no : ⊥ = omega arith in
        absurd no
