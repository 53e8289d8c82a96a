-- Bytes in the form are the saved bytes of the gauge that they hold, and parts that are put among the saved bytes of a gauge make them those of the gauge with
-- these parts: by the law of a stored field, one part after the other. Assumes nothing.
use mathlib.Core.Bool.{true}
use mathlib.Core.List.{List}
use mathlib.Core.Path.{◌≡◌, refl, sym, ap, ◌∙◌}
use Prim.Native.Nat.{ℕ, ◌<◌}
use lib.ListN.{get_or}
use Rattle.charge.specs.declared.charge.Charge.{Charge}
use Rattle.counters.specs.declared.counters.Counters.{Counters}
use Rattle.flags.specs.Byte.{flags_byte}
use Rattle.flags.specs.declared.flags.Flags.{Flags}
use Rattle.form.specs.Form as Name
use Rattle.form.specs.Form.{laid_out, newest}
use Rattle.gauge.specs.Parts.{gauge_of}
use Rattle.gauge.specs.declared.state.Gauge.{Gauge}
use Rattle.host.specs.declared.host.Host.{Host}
use Rattle.load.specs.Fields.{bytes_in, gauge_from, number_in}
use Rattle.load.specs.Load.{decoded_gauge, form_fits, of_length, read_in}
use Rattle.load.proofs.LoadLaws.{decoded_is}
use Rattle.round_trip.proofs.RoundTripLaws.{saved_loaded}
use Rattle.sample.specs.declared.sample.Sample.{Sample}
use Rattle.saved.specs.Put.{charge_put, counters_put, flags_put, host_put, parts_put, sample_put, standby_put}
use Rattle.saved.specs.Save.{field_bytes, saved_bytes}
use Rattle.saved.proofs.StoredLaws.{charge_stored, contents, counters_stored, flags_stored, host_stored, sample_stored, standby_stored}
use Rattle.saved.proofs.StoredLaws.{with, with_charge, with_counters, with_host, with_sample}

-- bytes in the form are those of their gauge
pub own_bytes : (bytes : List ℕ) → ((k : ℕ) → get_or bytes k 0 < 256) → form_fits newest bytes ≡ true → bytes ≡ saved_bytes (decoded_gauge bytes)
own_bytes bytes small f = sym (saved_loaded bytes small f) ∙ ap saved_bytes (sym (decoded_is bytes f))

module _ (g : Gauge) where
  -- what was not put is read as before
  pub flags_kept : (m : Counters) → (decoded_gauge (counters_put m (saved_bytes g))).flags ≡ (decoded_gauge (saved_bytes g)).flags
  unfolding decoded_gauge of_length read_in gauge_from counters_put saved_bytes laid_out field_bytes number_in bytes_in
  flags_kept m = refl

  module _ (x : Charge) (s : Sample) (f : Flags) (m : Counters) where
    -- FLAGS of these parts
    abbrev flagged : List ℕ → List ℕ
    flagged = flags_put s.current.charging x.run.vdq f

    -- an idle window
    pub idle_put : sample_put s (flagged (charge_put x (counters_put m (saved_bytes g)))) ≡ saved_bytes (gauge_of g.settings x s g.standby f g.host m)
    unfolding saved_bytes laid_out field_bytes number_in bytes_in
    idle_put =
        let c1 = with_counters m (contents g) in
        let c2 = with_charge x c1 in
        let c3 = with Name.Flags (flags_byte s.current.charging x.run.vdq f) c2 in
        ap (λ (b : List ℕ). sample_put s (flagged (charge_put x b))) (counters_stored (contents g) m)
        ∙ ap (λ (b : List ℕ). sample_put s (flagged b)) (charge_stored c1 x)
        ∙ ap (sample_put s) (flags_stored c2 s.current.charging x.run.vdq f) ∙ sample_stored c3 s

    -- a charging one
    pub charged_put : (h : Host) → sample_put s (flagged (host_put h (charge_put x (counters_put m (saved_bytes g)))))
        ≡ saved_bytes (gauge_of g.settings x s g.standby f h m)
    unfolding saved_bytes laid_out field_bytes number_in bytes_in
    charged_put h =
        let c1 = with_counters m (contents g) in
        let c2 = with_charge x c1 in
        let c3 = with_host h c2 in
        let c4 = with Name.Flags (flags_byte s.current.charging x.run.vdq f) c3 in
        ap (λ (b : List ℕ). sample_put s (flagged (host_put h (charge_put x b)))) (counters_stored (contents g) m)
        ∙ ap (λ (b : List ℕ). sample_put s (flagged (host_put h b))) (charge_stored c1 x) ∙ ap (λ (b : List ℕ). sample_put s (flagged b)) (host_stored c2 h)
        ∙ ap (sample_put s) (flags_stored c3 s.current.charging x.run.vdq f) ∙ sample_stored c4 s

    -- a discharging one
    pub discharged_put : (i : ℕ) → sample_put s (standby_put i (flagged (charge_put x (counters_put m (saved_bytes g)))))
        ≡ saved_bytes (gauge_of g.settings x s i f g.host m)
    unfolding saved_bytes laid_out field_bytes number_in bytes_in
    discharged_put i =
        let c1 = with_counters m (contents g) in
        let c2 = with_charge x c1 in
        let c3 = with Name.Flags (flags_byte s.current.charging x.run.vdq f) c2 in
        let c4 = with Name.Standby i c3 in
        ap (λ (b : List ℕ). sample_put s (standby_put i (flagged (charge_put x b)))) (counters_stored (contents g) m)
        ∙ ap (λ (b : List ℕ). sample_put s (standby_put i (flagged b))) (charge_stored c1 x)
        ∙ ap (λ (b : List ℕ). sample_put s (standby_put i b)) (flags_stored c2 s.current.charging x.run.vdq f)
        ∙ ap (sample_put s) (standby_stored c3 i) ∙ sample_stored c4 s

    -- a rest
    pub rested_put : counters_put m (flagged (sample_put s (charge_put x (saved_bytes g)))) ≡ saved_bytes (gauge_of g.settings x s g.standby f g.host m)
    unfolding saved_bytes laid_out field_bytes number_in bytes_in
    rested_put =
        let c1 = with_charge x (contents g) in
        let c2 = with_sample s c1 in
        let c3 = with Name.Flags (flags_byte s.current.charging x.run.vdq f) c2 in
        ap (λ (b : List ℕ). counters_put m (flagged (sample_put s b))) (charge_stored (contents g) x)
        ∙ ap (λ (b : List ℕ). counters_put m (flagged b)) (sample_stored c1 s)
        ∙ ap (counters_put m) (flags_stored c2 s.current.charging x.run.vdq f) ∙ counters_stored c3 m

    -- a command
    pub parts_put_lem : (i : ℕ) (h : Host) → parts_put (gauge_of g.settings x s i f h m) (saved_bytes g) ≡ saved_bytes (gauge_of g.settings x s i f h m)
    unfolding saved_bytes laid_out field_bytes number_in bytes_in
    parts_put_lem i h =
        let c1 = with_charge x (contents g) in
        let c2 = with Name.Standby i c1 in
        let c3 = with_sample s c2 in
        let c4 = with_host h c3 in
        let c5 = with Name.Flags (flags_byte s.current.charging x.run.vdq f) c4 in
        ap (λ (b : List ℕ). counters_put m (flagged (host_put h (sample_put s (standby_put i b))))) (charge_stored (contents g) x)
        ∙ ap (λ (b : List ℕ). counters_put m (flagged (host_put h (sample_put s b)))) (standby_stored c1 i)
        ∙ ap (λ (b : List ℕ). counters_put m (flagged (host_put h b))) (sample_stored c2 s)
        ∙ ap (λ (b : List ℕ). counters_put m (flagged b)) (host_stored c3 h)
        ∙ ap (counters_put m) (flags_stored c4 s.current.charging x.run.vdq f) ∙ counters_stored c5 m

  -- a setting
  pub setting_put_lem : (x : Charge) (f : Flags) (h : Host) → flags_put g.sample.current.charging x.run.vdq f (host_put h (charge_put x (saved_bytes g)))
      ≡ saved_bytes (gauge_of g.settings x g.sample g.standby f h g.counters)
  unfolding saved_bytes laid_out field_bytes number_in bytes_in
  setting_put_lem x f h =
      let c1 = with_charge x (contents g) in
      let c2 = with_host h c1 in
      ap (λ (b : List ℕ). flags_put g.sample.current.charging x.run.vdq f (host_put h b)) (charge_stored (contents g) x)
      ∙ ap (flags_put g.sample.current.charging x.run.vdq f) (host_stored c1 h) ∙ flags_stored c2 g.sample.current.charging x.run.vdq f
