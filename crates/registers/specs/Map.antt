-- "Registers" of paper 01: the map, one row a register, and the byte at each address. Definitions only; assumes nothing.
use Rattle.std.specs.Prelude.{◌&&◌, cond, List, [], ◌∷◌, ℕ, zero, suc, ◌+◌, ◌-◌, ◌*◌, leb, ltb, get_or}
use Rattle.configuration.specs.Configuration as Configuration
use Rattle.configuration.specs.declared.settings.Settings.{Settings}
use Rattle.gauge.specs.declared.state.Gauge.{Gauge}
use Rattle.numbers.specs.Little.{byte_at}
use Rattle.registers.specs.Times as Times
use Rattle.registers.specs.Values as Values

-- the addresses 0x00 to 0x7F
abbrev pub register_count : ℕ
register_count = 128

-- a register: its first address, its width in bytes, and what it shows
pub record Row : Type 0 where
  pub address : ℕ
  pub width : ℕ
  pub value : ℕ

abbrev pub row : ℕ → ℕ → ℕ → Row
row address width value = record { address = address; width = width; value = value }

-- "MODE, FLAGS, RSOC, CTRL and configuration are bytes, others pairs."
unfoldable pub rows : Gauge → List Row
rows g =
    row 0x00 1 0  -- CTRL "always reads 0"
    ∷ row 0x01 1 g.host.mode  -- MODE
    ∷ row 0x02 2 g.host.ar  -- AR
    ∷ row 0x04 2 (Times.artte g)  -- ARTTE
    ∷ row 0x06 2 g.sample.temperature  -- TEMP
    ∷ row 0x08 2 g.sample.voltage  -- VOLT
    ∷ row 0x0A 1 (Values.flags g)  -- FLAGS
    ∷ row 0x0B 1 (Values.rsoc g)  -- RSOC
    ∷ row 0x0C 2 (Values.nac g)  -- NAC
    ∷ row 0x0E 2 g.charge.lmd  -- LMD
    ∷ row 0x10 2 (Values.cac g)  -- CAC
    ∷ row 0x12 2 (Values.fcac g)  -- FCAC
    ∷ row 0x14 2 g.sample.current.magnitude  -- IAV
    ∷ row 0x16 2 (Times.tte g)  -- TTE
    ∷ row 0x18 2 (Times.ttf g)  -- TTF
    ∷ row 0x1A 2 (Values.si g)  -- SI
    ∷ row 0x1C 2 (Times.stte g)  -- STTE
    ∷ row 0x20 2 (Configuration.e1 g.settings)  -- CEDV (= E1)
    ∷ row 0x2A 2 g.counters.cycles.cyct  -- CYCT (A5 of paper 02)
    ∷ row 0x76 1 (Configuration.ilmd g.settings)  -- ILMD
    ∷ row 0x77 1 (Configuration.sedvf g.settings)  -- SEDVF
    ∷ row 0x78 1 (Configuration.sedv1 g.settings)  -- SEDV1
    ∷ row 0x79 1 (Configuration.islc g.settings)  -- ISLC
    ∷ row 0x7A 1 (Configuration.dmfsd g.settings)  -- DMFSD
    ∷ row 0x7B 1 (Configuration.taper g.settings)  -- TAPER
    ∷ row 0x7C 1 (Configuration.pkcfg g.settings)  -- PKCFG
    ∷ row 0x7D 1 (Configuration.id3 g.settings)  -- ID3
    ∷ row 0x7E 1 (Configuration.dcomp g.settings)  -- DCOMP
    ∷ row 0x7F 1 (Configuration.tcomp g.settings)  -- TCOMP
    ∷ []

-- what stands at an address: the byte of the row that covers it, "other bytes to 0x7F are 0"; "pairs stand low byte first"
unfoldable pub look_up : ℕ → List Row → ℕ
look_up a [] = 0
look_up a (r ∷ rs) =
    cond (leb r.address a && ltb a (r.address + r.width)) (byte_at r.value (a - r.address)) (look_up a rs)

unfoldable pub register : Gauge → ℕ → ℕ
register g a = look_up a (rows g)

-- the registers 2n and 2n + 1, low byte first
abbrev pub pair_at : Gauge → ℕ → ℕ
pair_at g n = register g (2 * n) + 256 * register g (2 * n + 1)

-- the pair that the rows of the configuration's bytes 2n and 2n + 1 show
abbrev pub configuration_pair : Settings → ℕ → ℕ
configuration_pair s n = byte_at (get_or s.bytes (2 * n) 0) 0 + 256 * byte_at (get_or s.bytes (2 * n + 1) 0) 0

-- count registers from an address on
unfoldable pub registers_from : Gauge → ℕ → ℕ → List ℕ
registers_from g a zero = []
registers_from g a (suc n) = register g a ∷ registers_from g (suc a) n
