-- What the bytes hold after each part of a gauge is put among them, in the order of the form. Definitions only; assumes nothing.
use Rattle.std.specs.Prelude.{Bool, cond, List, ℕ, eqb, length, replicate}
use Rattle.std.proofs.lemmas.List.Edits.{sets}
use Rattle.charge.specs.declared.charge.Charge.{Charge}
use Rattle.configuration.specs.declared.settings.Settings.{Settings}
use Rattle.counters.specs.declared.counters.Counters.{Counters}
use Rattle.flags.specs.Byte.{flags_byte}
use Rattle.flags.specs.declared.flags.Flags.{Flags}
use Rattle.form.specs.Form as Name
use Rattle.form.specs.Form.{Ar, Configuration, Current, CycleDrain, Cyct, Dcr, FormNumber, Held, Lmd, Mode, Rests, Standby, Temperature, Voltage}
use Rattle.form.specs.Form.{Bytes, Number, newest, of_bytes, of_number, place_of, saved_length, width_of}
use Rattle.form.specs.Signed.{signed_pair}
use Rattle.gauge.specs.declared.state.Gauge.{Gauge}
use Rattle.host.specs.declared.host.Host.{Host}
use Rattle.numbers.specs.Little.{bytes_at, little}
use Rattle.sample.specs.declared.sample.Sample.{Sample}

-- a number in its field; the other bytes keep
abbrev pub number_put : Number → ℕ → List ℕ → List ℕ
number_put n value bytes = sets bytes (place_of (of_number n) newest.fields) (little (width_of (of_number n) newest.fields) value)

-- bytes in theirs
abbrev pub bytes_put : Bytes → List ℕ → List ℕ → List ℕ
bytes_put b value bytes = sets bytes (place_of (of_bytes b) newest.fields) (bytes_at (width_of (of_bytes b) newest.fields) 0 value)

-- the form's number and the "configuration", over zeros
unfoldable pub headed : Settings → List ℕ
headed s = bytes_put Configuration s.bytes (number_put FormNumber newest.number (replicate saved_length 0))

-- ---- a part of a gauge; bytes of another length than the form's keep

abbrev pub in_form : List ℕ → List ℕ → List ℕ
in_form bytes after = cond (eqb (length bytes) saved_length) after bytes

-- "h and DCR .. LMD"
unfoldable pub charge_put : Charge → List ℕ → List ℕ
charge_put x bytes = in_form bytes (number_put Lmd x.lmd (number_put Dcr x.run.dcr (number_put Held x.held bytes)))

-- SI
unfoldable pub standby_put : ℕ → List ℕ → List ℕ
standby_put x bytes = in_form bytes (number_put Standby x bytes)

-- "c (signed), VOLT, TEMP"
unfoldable pub sample_put : Sample → List ℕ → List ℕ
sample_put x bytes =
    in_form bytes
    (number_put Temperature x.temperature (number_put Voltage x.voltage (number_put Current (signed_pair x.current) bytes)))

-- "AR .. MODE"
unfoldable pub host_put : Host → List ℕ → List ℕ
host_put x bytes = in_form bytes (number_put Mode x.mode (number_put Ar x.ar bytes))

-- "FLAGS"
unfoldable pub flags_put : Bool → Bool → Flags → List ℕ → List ℕ
flags_put chgs vdq x bytes = in_form bytes (number_put Name.Flags (flags_byte chgs vdq x) bytes)

-- the count of rest windows, CYCT and its drain
unfoldable pub counters_put : Counters → List ℕ → List ℕ
counters_put x bytes =
    in_form bytes (number_put CycleDrain x.cycles.drain (number_put Cyct x.cycles.cyct (number_put Rests x.rests bytes)))

-- all parts but the settings
abbrev pub parts_put : Gauge → List ℕ → List ℕ
parts_put g bytes =
    counters_put g.counters
    (flags_put g.sample.current.charging g.charge.run.vdq g.flags
    (host_put g.host (sample_put g.sample (standby_put g.standby (charge_put g.charge bytes)))))
