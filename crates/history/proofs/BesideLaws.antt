-- Each call keeps what holds of a gauge and its history: the gauge is accepted, the settings are the same, the history's charge, capacity
-- and run are the gauge's, its counts stop at the gauge's, and MODE and AR decide alike. Assumes nothing.
use mathlib.Core.Bool.{Bool, true, false, cond}
use mathlib.Core.Path.{◌≡◌, refl, sym, ap, ◌∙◌, subst, subst₂}
use Prim.Native.Nat.{ℕ, ◌≤◌}
use lib.Dec.{eqb, leb}
use lib.IntN.{ℤ, pos, negsuc}
use Rattle.charge.specs.Rest.{rested}
use Rattle.command.specs.Command.{decide}
use Rattle.command.specs.declared.command.Command.{Command}
use Rattle.command.specs.declared.command.Command.TheVariants.{Setting, Reset}
use Rattle.command.specs.Command.{Decision}
use Rattle.std.specs.Prelude.{Ok, Err}
use Rattle.command.specs.declared.command.Reset.TheVariants.{Prst, Frst}
use Rattle.configuration.specs.Configuration.{dmf, sd}
use Rattle.configuration.specs.Terms.{Terms, terms_of}
use Rattle.configuration.specs.declared.settings.Settings.{Settings}
use Rattle.counters.specs.Counters.{counters_moved}
use Rattle.counters.proofs.CountersKept.{accepted_drain}
use Rattle.gauge.specs.Calls.{stored_at, written}
use Rattle.gauge.specs.Obey.{decided, obeyed}
use Rattle.gauge.specs.Rest.{rest}
use Rattle.gauge.specs.Window.{window}
use Rattle.gauge.specs.declared.state.Gauge.{Gauge}
use Rattle.grains.specs.Leak.{leak_rate}
use Rattle.numbers.specs.Signed.{magnitude}
use Rattle.sample.specs.Current.{counted, no_current}
use Rattle.sample.specs.Limits.{least_temperature, least_voltage, most_temperature, most_voltage}
use Rattle.sample.specs.Range.{between, current, current_in_range, current_of, temperature, temperature_in_range, value_between, voltage}
use Rattle.sample.specs.declared.current.Current.{Current}
use Rattle.history.specs.Account.{after_rest, after_window}
use Rattle.history.specs.Counters.{counters_after_rest, counters_after_window}
use Rattle.history.specs.History.{after_command, after_key, after_write, host_after, started_history, without_command}
use Rattle.history.specs.Kept.{History, with_account, with_counters, with_host}
use Rattle.history.specs.Tests.{counted_current}
use Rattle.history.proofs.AnswerLaws.{InRange}
use Rattle.reached.specs.ChargeAfter.{charge_after}
use Rattle.history.proofs.CommandTracks.{HostTracks, full_host, host_decides, obeyed_host, command_tracks, stored_host}
use Rattle.history.proofs.CountersTrack.{CountersTrack, command_counts, rest_counts, window_counts}
use Rattle.history.proofs.RestTracks.{rest_tracks}
use Rattle.sample.proofs.SampleKept.{counted_within}
use Rattle.charge.proofs.ChargeKept.{rate_low}
use Rattle.gauge.specs.Fits.{Taken}
use Rattle.gauge.proofs.AcceptedLaws.{sound}
use Rattle.gauge.proofs.TakenLaws.{taken_charge}
use Rattle.history.proofs.Tracking.{Tracks}
use Rattle.history.proofs.WindowTracks.{window_tracks}

-- beside a gauge, the history: what a call moves on both sides
pub record Beside (g : Gauge) (x : History) : Type 0 where
  pub settings : x.settings ≡ g.settings
  pub tracks : Tracks g.charge x.account
  pub host : HostTracks g.host x.host
  pub counters : CountersTrack g.counters x.counters

-- ---- the sample with its signs

-- a value in range is the natural that stands for it
value_is : (least most : ℕ) (z : ℤ) → between least most z ≡ true → z ≡ pos (value_between least most z)
unfolding value_between between
value_is least most (pos n) e = rw e
value_is least most (negsuc n) e = let z : ◌≡◌ {A = Bool} false true = e in cc

counted_is : (terms : Terms) (a : ℤ) → current_in_range a ≡ true → counted terms.dmf (current a) ≡ current_of (counted_current terms a)
unfolding counted counted_current
counted_is terms a e = rw e (go (leb (magnitude a) terms.dmf))
  where
    go : (t : Bool) → cond t no_current (current_of a) ≡ current_of (cond t (pos 0) a)
    go true = refl
    go false = refl

-- ---- each call's work

module _ (g : Gauge) (x : History) (s : Taken g) (f : Beside g x) where
  window_charge : (a v t : ℤ) → InRange a v t
      → Tracks
      (charge_after (terms_of g.settings)
      (counted (dmf g.settings) (current a)) (voltage v) (temperature t) g.charge)
      (after_window (terms_of x.settings) (counted_current (terms_of x.settings) a) v t x.account)
  window_charge a v t r =
      let c = g.settings in
      let z = counted_current (terms_of c) a in
      let i = counted_is (terms_of c) a r.current in
      let m = counted_within (dmf c) a r.current in
      let k = window_tracks (terms_of c) (temperature t) (rate_low c (temperature t)) g.charge x.account f.tracks (taken_charge g s) z (voltage v)
      (subst (λ (j : Current). j.magnitude ≤ 65_535) i m) in
      let e =
      ap (λ (d : Settings). after_window (terms_of d) (counted_current (terms_of d) a) v t x.account) f.settings
      ∙ ap (λ (w : ℤ). after_window (terms_of c) z w t x.account) (value_is least_voltage most_voltage v r.voltage)
      ∙ ap (λ (w : ℤ). after_window (terms_of c) z (pos (voltage v)) w x.account) (value_is least_temperature most_temperature t r.temperature) in
      subst₂ Tracks
      (ap (λ (j : Current). charge_after (terms_of c) j (voltage v) (temperature t) g.charge) (sym i))
      (sym e) k

  window_count : (a : ℤ) → current_in_range a ≡ true
      → CountersTrack (counters_moved g.charge.lmd (counted (dmf g.settings) (current a)) g.counters)
      (counters_after_window x.account.learned (counted_current (terms_of x.settings) a) x.counters)
  window_count a r =
      let c = g.settings in
      let l = g.charge.lmd in
      let z = counted_current (terms_of c) a in
      let i = counted_is (terms_of c) a r in
      let small = subst (λ (j : Current). j.magnitude ≤ 65_535) i (counted_within (dmf c) a r) in
      let k = window_counts g.counters x.counters f.counters l z small (accepted_drain g.counters (sound g s.accepted).counters) in
      subst₂ CountersTrack (ap (λ (j : Current). counters_moved l j g.counters) (sym i))
      (ap (λ (m : ℕ). counters_after_window m z x.counters) f.tracks.lmd
      ∙ ap (λ (d : Settings). counters_after_window x.account.learned (counted_current (terms_of d) a) x.counters) (sym f.settings)) k

  pub window_beside : (a v t : ℤ) → InRange a v t
      → Beside (window (counted (dmf g.settings) (current a)) (voltage v) (temperature t) g)
      (with_counters (counters_after_window x.account.learned (counted_current (terms_of x.settings) a) x.counters)
      (with_account (after_window (terms_of x.settings) (counted_current (terms_of x.settings) a) v t x.account) x))
  unfolding window
  window_beside a v t r =
      record {
        settings = f.settings;
        tracks = window_charge a v t r;
        host = full_host _ g.host x.host f.host;
        counters = window_count a r.current;
      }

  pub rest_beside : (n : ℕ) (t : ℤ) → temperature_in_range t ≡ true
      → Beside (rest n (temperature t) g)
      (with_counters (counters_after_rest n x.counters) (with_account (after_rest (terms_of x.settings) n t x.account) x))
  unfolding rest
  rest_beside n t r =
      let c = g.settings in
      let k = rest_tracks (terms_of c) (temperature t) (rate_low c (temperature t)) n g.charge x.account f.tracks (taken_charge g s) in
      let e =
      ap (λ (d : Settings). after_rest (terms_of d) n t x.account) f.settings
      ∙ ap (λ (w : ℤ). after_rest (terms_of c) n w x.account) (value_is least_temperature most_temperature t r) in
      record {
        settings = f.settings;
        tracks = subst (Tracks (rested n (leak_rate (sd c) (temperature t)) g.charge)) (sym e) k;
        host = f.host;
        counters = rest_counts g.counters x.counters f.counters n;
      }

  stored_beside : (address value : ℕ) → Beside (stored_at address value g) (with_host (host_after address value x.host) x)
  unfolding stored_at
  stored_beside address value =
      record {
        settings = f.settings;
        tracks = f.tracks;
        host = stored_host address value g.host x.host s.fits.host.ar f.host;
        counters = f.counters;
      }

  command_settings : (command : Command) → (after_command command x).settings ≡ x.settings
  unfolding after_command started_history
  command_settings (Setting setting) = refl
  command_settings (Reset Prst) = refl
  command_settings (Reset Frst) = refl

  obeyed_beside : (command : Command) → Beside (obeyed command g) (without_command (after_command command x))
  unfolding obeyed
  obeyed_beside command =
      record {
        settings = command_settings command ∙ f.settings;
        tracks = command_tracks command g.settings g.host.ar g.charge x f.tracks f.settings f.host.ar;
        host = obeyed_host command g.settings g.host x f.host.ar;
        counters = command_counts command g.counters x f.counters;
      }

  decided_beside : (d : Decision) → Beside (decided d g) (after_key d x)
  unfolding decided after_key
  decided_beside (Ok command) = obeyed_beside command
  decided_beside (Err refusal) = f

  pub written_beside : (address value : ℕ) → Beside (written address value g) (after_write address value x)
  unfolding written after_write
  written_beside address value =
      rw (← host_decides value g.host x.host f.host) (go (eqb address 0))
    where
      go : (t : Bool)
          → Beside (cond t (decided (decide value g.host.mode g.host.ar) g) (stored_at address value g))
          (cond t (after_key (decide value g.host.mode g.host.ar) x) (with_host (host_after address value x.host) x))
      go true = decided_beside (decide value g.host.mode g.host.ar)
      go false = stored_beside address value
