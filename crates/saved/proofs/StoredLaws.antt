-- A part put among bytes that fields are laid out in: its fields are changed, and the others are as they were. Assumes nothing.
use mathlib.Core.Bool.{Bool}
use mathlib.Core.List.{List}
use mathlib.Core.Path.{◌≡◌, sym, ap, ◌∙◌}
use Prim.Native.Nat.{ℕ}
use lib.ListN.{length}
use Rattle.charge.specs.declared.charge.Charge.{Charge}
use Rattle.counters.specs.declared.counters.Counters.{Counters}
use Rattle.flags.specs.Byte.{flags_byte}
use Rattle.flags.specs.declared.flags.Flags as Own
use Rattle.form.specs.Form.{Ar, Current, CycleDrain, Cyct, Dcr, Flags, Held, Lmd, Mode, Rests, Standby, Temperature, Voltage}
use Rattle.form.specs.Form.{Name, Number, laid_out, newest, of_number, saved_length}
use Rattle.form.specs.Signed.{signed_pair}
use Rattle.form.proofs.LaidOutLaws.{laid_length}
use Rattle.form.proofs.StoredLaws.{changed, changed_length, newest_stored}
use Rattle.gauge.specs.declared.state.Gauge.{Gauge}
use Rattle.host.specs.declared.host.Host.{Host}
use Rattle.numbers.specs.Little.{little}
use Rattle.sample.specs.declared.sample.Sample.{Sample}
use Rattle.saved.proofs.FormLaws.{field_length}
use Rattle.saved.proofs.PutLaws.{little_length, put_done}
use Rattle.saved.specs.Put.{charge_put, counters_put, flags_put, host_put, number_put, sample_put, standby_put}
use Rattle.saved.specs.Save.{field_bytes}

-- what each field has, as many bytes as it is wide
pub record Contents : Type 0 where
  pub bytes : Name → ℕ → List ℕ
  pub long : (m : Name) (width : ℕ) → length (bytes m width) ≡ width

-- with a number in one of them
abbrev pub with : Number → ℕ → Contents → Contents
with n value c =
    record {
      bytes = changed (of_number n) (λ width. little width value) c.bytes;
      long = changed_length (of_number n) (λ width. little width value) (λ width. little_length width value) c.bytes c.long;
    }

-- the bytes of the newest form
abbrev pub laid : Contents → List ℕ
laid c = laid_out c.bytes newest.fields

module _ (c : Contents) where
  stored : (n : Number) (value : ℕ) → number_put n value (laid c) ≡ laid (with n value c)
  stored n value = newest_stored (of_number n) (λ width. little width value) (λ width. little_length width value) c.bytes c.long

  whole : length (laid c) ≡ saved_length
  whole = laid_length c.bytes c.long newest.fields

-- ---- a part

abbrev pub with_charge : Charge → Contents → Contents
with_charge x c = with Lmd x.lmd (with Dcr x.run.dcr (with Held x.held c))

abbrev pub with_sample : Sample → Contents → Contents
with_sample s c = with Temperature s.temperature (with Voltage s.voltage (with Current (signed_pair s.current) c))

abbrev pub with_host : Host → Contents → Contents
with_host h c = with Mode h.mode (with Ar h.ar c)

abbrev pub with_counters : Counters → Contents → Contents
with_counters m c = with CycleDrain m.cycles.drain (with Cyct m.cycles.cyct (with Rests m.rests c))

module _ (c : Contents) where
  pub charge_stored : (x : Charge) → charge_put x (laid c) ≡ laid (with_charge x c)
  unfolding charge_put
  charge_stored x =
      let c1 = with Held x.held c in
      let c2 = with Dcr x.run.dcr c1 in
      sym (put_done (laid c) (whole c)
      (sym (ap (λ (b : List ℕ). number_put Lmd x.lmd (number_put Dcr x.run.dcr b)) (stored c Held x.held)
      ∙ ap (number_put Lmd x.lmd) (stored c1 Dcr x.run.dcr) ∙ stored c2 Lmd x.lmd)))

  pub standby_stored : (i : ℕ) → standby_put i (laid c) ≡ laid (with Standby i c)
  unfolding standby_put
  standby_stored i = sym (put_done (laid c) (whole c) (sym (stored c Standby i)))

  pub sample_stored : (s : Sample) → sample_put s (laid c) ≡ laid (with_sample s c)
  unfolding sample_put
  sample_stored s =
      let c1 = with Current (signed_pair s.current) c in
      let c2 = with Voltage s.voltage c1 in
      sym (put_done (laid c) (whole c)
      (sym (ap (λ (b : List ℕ). number_put Temperature s.temperature (number_put Voltage s.voltage b)) (stored c Current (signed_pair s.current))
      ∙ ap (number_put Temperature s.temperature) (stored c1 Voltage s.voltage) ∙ stored c2 Temperature s.temperature)))

  pub host_stored : (h : Host) → host_put h (laid c) ≡ laid (with_host h c)
  unfolding host_put
  host_stored h =
      let c1 = with Ar h.ar c in
      sym (put_done (laid c) (whole c) (sym (ap (number_put Mode h.mode) (stored c Ar h.ar) ∙ stored c1 Mode h.mode)))

  pub flags_stored : (chgs vdq : Bool) (f : Own.Flags) → flags_put chgs vdq f (laid c) ≡ laid (with Flags (flags_byte chgs vdq f) c)
  unfolding flags_put
  flags_stored chgs vdq f = sym (put_done (laid c) (whole c) (sym (stored c Flags (flags_byte chgs vdq f))))

  pub counters_stored : (m : Counters) → counters_put m (laid c) ≡ laid (with_counters m c)
  unfolding counters_put
  counters_stored m =
      let c1 = with Rests m.rests c in
      let c2 = with Cyct m.cycles.cyct c1 in
      sym (put_done (laid c) (whole c)
      (sym (ap (λ (b : List ℕ). number_put CycleDrain m.cycles.drain (number_put Cyct m.cycles.cyct b)) (stored c Rests m.rests)
      ∙ ap (number_put CycleDrain m.cycles.drain) (stored c1 Cyct m.cycles.cyct) ∙ stored c2 CycleDrain m.cycles.drain)))

-- ---- a gauge

-- what each field of a gauge has
abbrev pub contents : Gauge → Contents
contents g = record { bytes = field_bytes g; long = field_length g }
