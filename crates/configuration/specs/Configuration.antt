-- "Configuration" of paper 01: the ten bytes in force and what each means. Definitions only; assumes nothing.
use Rattle.std.specs.Prelude.{cond, [], ◌∷◌, ℕ, ◌+◌, ◌*◌, ◌/◌, ◌%◌, ◌^◌, max, eqb, get_or}
use Rattle.numbers.specs.Bits.{keeping_bits}
use Rattle.configuration.specs.declared.settings.Settings.{Settings}

-- ---- the bytes, in address order 0x76 to 0x7F

abbrev pub ilmd : Settings → ℕ
ilmd s = get_or s.bytes 0 0

abbrev pub sedvf : Settings → ℕ
sedvf s = get_or s.bytes 1 0

abbrev pub sedv1 : Settings → ℕ
sedv1 s = get_or s.bytes 2 0

abbrev pub islc : Settings → ℕ
islc s = get_or s.bytes 3 0

abbrev pub dmfsd : Settings → ℕ
dmfsd s = get_or s.bytes 4 0

abbrev pub taper : Settings → ℕ
taper s = get_or s.bytes 5 0

abbrev pub pkcfg : Settings → ℕ
pkcfg s = get_or s.bytes 6 0

abbrev pub id3 : Settings → ℕ
id3 s = get_or s.bytes 7 0

abbrev pub dcomp : Settings → ℕ
dcomp s = get_or s.bytes 8 0

abbrev pub tcomp : Settings → ℕ
tcomp s = get_or s.bytes 9 0

-- ---- what they mean

-- "Design capacity", counts
abbrev pub design_capacity : Settings → ℕ
design_capacity s = 256 * ilmd s

-- "EDVF", mV
abbrev pub edvf : Settings → ℕ
edvf s = 8 * (sedvf s + 256)

-- "E1", mV
abbrev pub e1 : Settings → ℕ
e1 s = max (8 * (sedv1 s + 256)) (edvf s + 32)

-- "Initial standby current S0", units
abbrev pub s0 : Settings → ℕ
s0 s = 2 * islc s

-- "DMF", a current limit in units: the high four bits of DMFSD
abbrev pub dmf : Settings → ℕ
dmf s = dmfsd s / 16

-- "SD", leak in 0.1 % a day at 25 °C: the low four bits of DMFSD
abbrev pub sd : Settings → ℕ
sd s = dmfsd s % 16

-- "PKCFG bit 1 set: DCOMP is taken as 0x6C"
unfoldable pub dcomp_taken : Settings → ℕ
dcomp_taken s = cond (eqb (pkcfg s / 2 % 2) 1) 0x6C (dcomp s)

-- "DCOMP: high five bits DCGN, low three DCOFF"
abbrev pub dcgn : Settings → ℕ
dcgn s = dcomp_taken s / 8

abbrev pub dcoff : Settings → ℕ
dcoff s = dcomp_taken s % 8

-- "TCOMP: high five TCGN, low three TOFF"
abbrev pub tcgn : Settings → ℕ
tcgn s = tcomp s / 8

abbrev pub toff : Settings → ℕ
toff s = tcomp s % 8

-- "GAF in the two low bits of ID3" (A5 of paper 02)
abbrev pub gaf : Settings → ℕ
gaf s = id3 s % 4

-- 4 × (273 + TOFF), quarter kelvins: below it the compensation grows and a run does not qualify
abbrev pub cold_threshold : Settings → ℕ
cold_threshold s = 4 * (273 + toff s)

-- MODE as opened: "bit 7 from PKCFG bit 7, bits 6 and 2 (INIT) set"
unfoldable pub opened_mode : Settings → ℕ
opened_mode s = keeping_bits (7 ∷ []) (pkcfg s) + 2 ^ 6 + 2 ^ 2
