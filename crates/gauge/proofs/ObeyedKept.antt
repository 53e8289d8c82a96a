-- A command leaves a gauge that 14 does not refuse, of the widths that every gauge has: each part stays one that is accepted, and WRTLMD is obeyed
-- only where AR is above 0. Assumes nothing.
use mathlib.Core.Bool.{true, cond}
use mathlib.Core.Path.{◌≡◌, sym, ap, subst, ◌∙◌}
use Prim.Native.Nat.{ℕ, ◌<◌}
use native.Mathlib.Omega.{arith}
use lib.Dec.{eqb}
use borrow.Author.Tests.{eqb-false, not-true}
use Rattle.charge.proofs.ChargeKept.{charge_taken, command_lmd, command_sound}
use Rattle.command.specs.Command.{decide}
use Rattle.command.specs.declared.command.Command.{Command}
use Rattle.command.specs.declared.command.Command.TheVariants.{Setting}
use Rattle.command.specs.Command.{Decision}
use Rattle.std.specs.Prelude.{Ok, Err}
use Rattle.command.specs.declared.command.Setting.TheVariants.{Wrtlmd}
use Rattle.command.proofs.DecisionLaws.{wrtlmd_above}
use Rattle.configuration.specs.Configuration.{dmf, ilmd, s0}
use Rattle.configuration.specs.Settings.{settings_accepted}
use Rattle.configuration.specs.declared.settings.Settings.{Settings}
use Rattle.configuration.specs.Terms.{terms_of}
use Rattle.counters.proofs.CountersKept as Counters
use Rattle.refusals.specs.Refusal as Refusal
use Rattle.refusals.proofs.OrElseLaws.{not_rejected}
use Rattle.host.proofs.HostKept.{obeyed_fits}
use Rattle.sample.proofs.SampleKept.{command_sample}
use Rattle.standby.proofs.StandbyKept.{obeyed_kept}
use Rattle.gauge.specs.Accepted.{accepted}
use Rattle.gauge.specs.Calls.{write_answer, write_refusal, written}
use Rattle.gauge.specs.Fits.{Taken}
use Rattle.gauge.specs.Obey.{decided, obeyed}
use Rattle.gauge.specs.declared.state.Gauge.{Gauge}
use Rattle.gauge.proofs.AcceptedLaws.{Sound, sound, sound_accepted}
use Rattle.gauge.proofs.TakenLaws.{gauge_taken}

opens : (s : Settings) → settings_accepted s ≡ true → 0 < ilmd s
unfolding settings_accepted
opens s e = let n : ilmd s ≡ 0 → ⊥ = eqb-false (ilmd s) 0 (not-true (eqb (ilmd s) 0) e) in omega arith

module _ (g : Gauge) (s : Sound g) where
  pub obeyed_sound : (command : Command) → (command ≡ Setting Wrtlmd → 0 < g.host.ar) → Sound (obeyed command g)
  unfolding obeyed
  obeyed_sound command above =
      let c = g.settings in
      let p = opens c s.settings in
      record {
        settings = s.settings;
        charge = command_sound command (terms_of c) g.host.ar g.charge s.charge (omega arith) above;
        standby = obeyed_kept command (s0 c) g.standby s.standby;
        sample = command_sample command (dmf c) g.sample s.sample;
        counters = Counters.obeyed_accepted g.counters s.counters command;
      }

  decided_sound : (d : Decision) → (d ≡ Ok (Setting Wrtlmd) → 0 < g.host.ar) → Sound (decided d g)
  unfolding decided
  decided_sound (Ok command) above = obeyed_sound command (λ e. above (ap Ok e))
  decided_sound (Err number) above = s

module _ (g : Gauge) (k : Taken g) where
  obeyed_taken : (command : Command) → (command ≡ Setting Wrtlmd → 0 < g.host.ar) → Taken (obeyed command g)
  unfolding obeyed
  obeyed_taken command above =
      let c = g.settings in
      let f = k.fits in
      let q = f.settings.bytes 0 in
      let s = obeyed_sound g (sound g k.accepted) command above in
      let y = charge_taken _ s.charge (command_lmd command (terms_of c) g.host.ar g.charge f.charge.lmd (omega arith) f.host.ar) in
      gauge_taken (obeyed command g) s f.settings y.fits (obeyed_fits command c g.host f.host)
      (Counters.obeyed_fits g.counters f.counters command)

  pub decided_taken : (d : Decision) → (d ≡ Ok (Setting Wrtlmd) → 0 < g.host.ar) → Taken (decided d g)
  unfolding decided
  decided_taken (Ok command) above = obeyed_taken command (λ e. above (ap Ok e))
  decided_taken (Err number) above = k

-- ---- a key at CTRL

module _ (g : Gauge) (key : ℕ) where
  decision : Decision
  decision = decide key g.host.mode g.host.ar

  written_accepted : accepted g ≡ true → accepted (written 0 key g) ≡ true
  unfolding written decision
  written_accepted e =
      sound_accepted (decided decision g) (decided_sound g (sound g e) decision (wrtlmd_above key g.host.mode g.host.ar))

  written_taken : Taken g → Taken (written 0 key g)
  unfolding written decision
  written_taken k =
      decided_taken g k decision (wrtlmd_above key g.host.mode g.host.ar)

  module _ (e : (write_answer g 0 key).number ≡ Refusal.none) where
    key_gauge : (write_answer g 0 key).gauge ≡ written 0 key g
    unfolding write_answer
    key_gauge = ap (λ (n : ℕ). cond (eqb n Refusal.none) (written 0 key g) g) e

    pub key_accepted : accepted (write_answer g 0 key).gauge ≡ true
    unfolding write_answer
    key_accepted =
        ap accepted key_gauge ∙ written_accepted (not_rejected (accepted g) (write_refusal g.host.mode g.host.ar 0 key) e).0

    pub key_taken : Taken g → Taken (write_answer g 0 key).gauge
    key_taken k = subst Taken (sym key_gauge) (written_taken k)
