-- Bytes of a form, older or the newest, load as its fields say. Assumes nothing.
use mathlib.Core.List.{List}
use mathlib.Core.Path.{◌≡◌, sym, ap, ◌∙◌}
use Prim.Native.Nat.{ℕ}
use Rattle.every_form.specs.EveryForm.{load_answer}
use Rattle.form.specs.Form.{form_numbered, form_of}
use Rattle.gauge.specs.declared.state.Gauge.{Gauge}
use Rattle.load.specs.Fields.{charge_from, counters_from, gauge_from, host_from, sample_from}
use Rattle.load.specs.Load.{carried_standby, loaded, read_in}
use Rattle.load.proofs.LoadLaws.{loads}
use Rattle.numbers.specs.Little.{number_at}
use Rattle.numbers.proofs.LittleLaws.{one_is}
use Rattle.refusals.specs.Refusal as Refusal
use Rattle.registers.specs.Values.{si}
use Rattle.standby.proofs.ShownLaws.{shown_whole}
use Rattle.drive.specs.NewestForm.{NewestReads}
use Rattle.drive.specs.OlderForms.{Form1Reads, Form1Shows, Form2Reads, Form3Reads, Form4Reads}

-- the gauge of accepted bytes, by the form of their first byte
read_in_lem : (bytes : List ℕ) (n : ℕ) → number_at 1 0 bytes ≡ n → (load_answer bytes).number ≡ Refusal.none
    → (load_answer bytes).gauge ≡ loaded (form_numbered n) bytes
unfolding load_answer
read_in_lem bytes n e z =
    (loads (form_of bytes) bytes z).gauge ∙ ap (λ (k : ℕ). loaded (form_numbered k) bytes) (sym (one_is 0 bytes) ∙ e)

pub form_1_reads : Form1Reads
unfolding loaded carried_standby read_in gauge_from charge_from sample_from host_from counters_from
form_1_reads bytes e z = read_in_lem bytes 1 e z

pub form_2_reads : Form2Reads
unfolding loaded carried_standby read_in gauge_from charge_from sample_from host_from counters_from
form_2_reads bytes e z = read_in_lem bytes 2 e z

pub form_3_reads : Form3Reads
unfolding loaded carried_standby read_in gauge_from charge_from sample_from host_from counters_from
form_3_reads bytes e z = read_in_lem bytes 3 e z

pub form_4_reads : Form4Reads
unfolding loaded carried_standby read_in gauge_from charge_from sample_from host_from counters_from
form_4_reads bytes e z = read_in_lem bytes 4 e z

pub newest_reads : NewestReads
unfolding loaded carried_standby read_in gauge_from charge_from sample_from host_from counters_from
newest_reads bytes e z = read_in_lem bytes 5 e z

pub form_1_shows : Form1Shows
form_1_shows bytes e n = ap (λ (g : Gauge). si g) (form_1_reads bytes e n) ∙ shown_whole (number_at 2 29 bytes)
