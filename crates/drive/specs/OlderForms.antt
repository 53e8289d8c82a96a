-- What bytes of each older form are read as, field by field, with the places that its paper gives them: one claim for each form. Definitions
-- only; assumes nothing.
use Rattle.std.specs.Prelude.{List, ◌≡◌, ℕ, ◌*◌}
use Rattle.configuration.specs.Settings.{opened_settings}
use Rattle.counters.specs.declared.counters.Counters.{Counters}
use Rattle.every_form.specs.EveryForm.{load_answer}
use Rattle.flags.specs.Byte.{flags_of, vdq_of}
use Rattle.form.specs.Signed.{current_of}
use Rattle.gauge.specs.declared.state.Gauge.{Gauge}
use Rattle.numbers.specs.Little.{bytes_at, number_at}
use Rattle.refusals.specs.Refusal as Refusal
use Rattle.registers.specs.Values.{si}

-- the 41 bytes that forms 1 to 4 begin with, in the order of paper 01: configuration; h and DCR; LMD, SI, c, VOLT, TEMP, AR; MODE; FLAGS. Beside
-- them SI and what is counted
abbrev pub gauge_of41 : List ℕ → ℕ → Counters → Gauge
gauge_of41 bytes si counters =
    record {
      settings = opened_settings (bytes_at 10 1 bytes);
      charge = record {
        held = number_at 8 11 bytes;
        lmd = number_at 2 27 bytes;
        run = record { vdq = vdq_of (number_at 1 40 bytes); dcr = number_at 8 19 bytes };
      };
      sample = record { current = current_of (number_at 2 31 bytes); voltage = number_at 2 33 bytes; temperature = number_at 2 35 bytes };
      standby = si;
      flags = flags_of (number_at 1 40 bytes);
      host = record { mode = number_at 1 39 bytes; ar = number_at 2 37 bytes };
      counters = counters;
    }

-- the count of rest windows, CYCT and its drain
abbrev pub counters_of : ℕ → ℕ → ℕ → Counters
counters_of rests cyct drain = record { rests = rests; cycles = record { cyct = cyct; drain = drain } }

-- bytes whose first byte is a form's number and that are accepted hold a gauge
abbrev pub ReadsAs : ℕ → (List ℕ → Gauge) → Type 0
ReadsAs form gauge = (bytes : List ℕ) → number_at 1 0 bytes ≡ form → (load_answer bytes).number ≡ Refusal.none → (load_answer bytes).gauge ≡ gauge bytes

-- form 1: SI "multiplied by 16" (A1), the count "as 0" (A4), CYCT and the drain "as 0 in both" (A5)
abbrev pub Form1Reads : Type 0
Form1Reads = ReadsAs 1 (λ bytes. gauge_of41 bytes (16 * number_at 2 29 bytes) (counters_of 0 0 0))

-- form 2: SI "with the sixteenths .. in the same two bytes" (A1), and the others as 0
abbrev pub Form2Reads : Type 0
Form2Reads = ReadsAs 2 (λ bytes. gauge_of41 bytes (number_at 2 29 bytes) (counters_of 0 0 0))

-- form 3: it "appends it in two bytes", the count of rest windows (A4)
abbrev pub Form3Reads : Type 0
Form3Reads = ReadsAs 3 (λ bytes. gauge_of41 bytes (number_at 2 29 bytes) (counters_of (number_at 2 41 bytes) 0 0))

-- form 4: it "appends CYCT and the 8-byte drain" (A5); "a stored 65,535 is carried over as that number" (A6)
abbrev pub Form4Reads : Type 0
Form4Reads = ReadsAs 4 (λ bytes. gauge_of41 bytes (number_at 2 29 bytes) (counters_of (number_at 2 41 bytes) (number_at 2 43 bytes) (number_at 8 45 bytes)))

-- and SI shows what form 1 held, until a light load moves it
abbrev pub Form1Shows : Type 0
Form1Shows =
    (bytes : List ℕ) → number_at 1 0 bytes ≡ 1 → (load_answer bytes).number ≡ Refusal.none → si (load_answer bytes).gauge ≡ number_at 2 29 bytes
