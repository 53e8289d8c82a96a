-- The whole map of "Registers", as it is stored over bytes in three parts: what is computed, what is copied, and the configuration. Definitions
-- only; assumes nothing.
use Rattle.std.specs.Prelude.{List, ℕ, set}
use Rattle.configuration.specs.Configuration.{e1}
use Rattle.configuration.specs.declared.settings.Settings.{Settings}
use Rattle.gauge.specs.declared.state.Gauge.{Gauge}
use Rattle.numbers.specs.Little.{byte_at}
use Rattle.registers.specs.Map.{configuration_pair}
use Rattle.registers.specs.Times as Times
use Rattle.registers.specs.Values as Values
use Rattle.registers.specs.Whole.{with_pair}

-- a byte stored at an address
abbrev pub with_byte : ℕ → ℕ → List ℕ → List ℕ
with_byte at byte bytes = set bytes at (byte_at byte 0)

-- ---- what is computed

abbrev pub capacities : ℕ → ℕ → ℕ → ℕ → ℕ → List ℕ → List ℕ
capacities artte rsoc nac cac fcac bytes =
    with_pair 0x12 fcac (with_pair 0x10 cac (with_pair 0x0C nac (with_byte 0x0B rsoc (with_pair 0x04 artte bytes))))

abbrev pub times : ℕ → ℕ → ℕ → List ℕ → List ℕ
times tte ttf stte bytes = with_pair 0x1C stte (with_pair 0x18 ttf (with_pair 0x16 tte bytes))

abbrev pub computed : Gauge → List ℕ → List ℕ
computed g bytes =
    times (Times.tte g) (Times.ttf g) (Times.stte g)
    (capacities (Times.artte g) (Values.rsoc g) (Values.nac g) (Values.cac g) (Values.fcac g) bytes)

-- ---- what is copied

abbrev pub host : ℕ → ℕ → ℕ → ℕ → ℕ → List ℕ → List ℕ
host mode ar temperature voltage flags bytes =
    with_byte 0x0A flags (with_pair 0x08 voltage (with_pair 0x06 temperature (with_pair 0x02 ar (with_byte 0x01 mode bytes))))

abbrev pub standing : ℕ → ℕ → ℕ → ℕ → ℕ → List ℕ → List ℕ
standing lmd iav si cedv cyct bytes =
    with_pair 0x2A cyct (with_pair 0x20 cedv (with_pair 0x1A si (with_pair 0x14 iav (with_pair 0x0E lmd bytes))))

abbrev pub copied : Gauge → List ℕ → List ℕ
copied g bytes =
    standing g.charge.lmd g.sample.current.magnitude (Values.si g) (e1 g.settings) g.counters.cycles.cyct
    (host g.host.mode g.host.ar g.sample.temperature g.sample.voltage (Values.flags g) bytes)

-- ---- the configuration

-- 0x76 to 0x7F
abbrev pub configured : Settings → List ℕ → List ℕ
configured s bytes =
    with_pair 0x7E (configuration_pair s 4)
    (with_pair 0x7C (configuration_pair s 3)
    (with_pair 0x7A (configuration_pair s 2) (with_pair 0x78 (configuration_pair s 1) (with_pair 0x76 (configuration_pair s 0) bytes))))
