-- "Registers" of paper 01, the whole map at once. Definitions only; assumes nothing.
use Rattle.std.specs.Prelude.{List, ℕ, ◌+◌, set}
use Rattle.gauge.specs.declared.state.Gauge.{Gauge}
use Rattle.numbers.specs.Little.{byte_at}
use Rattle.registers.specs.Map.{register_count, registers_from}

-- 0x00 to 0x7F
abbrev pub whole_map : Gauge → List ℕ
whole_map g = registers_from g 0x00 register_count

-- a pair stored at an address, "low byte first"
abbrev pub with_pair : ℕ → ℕ → List ℕ → List ℕ
with_pair at pair bytes = set (set bytes at (byte_at pair 0)) (at + 1) (byte_at pair 1)
