-- NAC, LMD, RSOC and FLAGS as a host reads them. Definitions only; assumes nothing.
use Rattle.std.specs.Prelude.{cond, List, ℕ, ◌-◌, eqb, get_or, replicate}
use Rattle.bench_output.specs.declared.output.Output.{Output}
use Rattle.bench_output.specs.declared.output.Output.TheVariants.{Refused, Registers}
use Rattle.gauge.specs.declared.state.Gauge.{Gauge}
use Rattle.numbers.specs.Little.{number_at}
use Rattle.refusals.specs.Refusal as Refusal
use Rattle.registers.specs.Reading.{read_refusal, reply_after}

-- the number of a read of the six registers from 0x0A on into a reply of six bytes: 14, or 0
abbrev pub six_number : Gauge → ℕ
six_number g = read_refusal g 0x0A 6 0 6

-- a host's reply of six zeros after that read
abbrev pub six_read : Gauge → List ℕ
six_read g = reply_after g 0x0A 6 0 (replicate 6 0)

-- the register at an address, from 0x0A to 0x0F
abbrev pub byte_read : Gauge → ℕ → ℕ
byte_read g address = get_or (six_read g) (address - 0x0A) 0

-- "pairs stand low byte first"
abbrev pub pair_read : Gauge → ℕ → ℕ
pair_read g address = number_at 2 (address - 0x0A) (six_read g)

-- "0x0A FLAGS, 0x0B RSOC, 0x0C NAC, 0x0E LMD"; a rejected gauge shows none, and its number is printed
unfoldable pub registers_output : Gauge → Output
registers_output g =
    cond (eqb (six_number g) Refusal.none)
    (Registers (pair_read g 0x0C) (pair_read g 0x0E) (byte_read g 0x0B) (byte_read g 0x0A))
    (Refused (six_number g))
