-- "Opening and host bytes" of paper 01: MODE and AR. Definitions only; assumes nothing.
use Rattle.std.specs.Prelude.{Bool, true, cond, [], ◌∷◌, ℕ, ◌+◌, ◌*◌, eqb}
use Rattle.command.specs.declared.command.Command.{Command}
use Rattle.command.specs.declared.command.Command.TheVariants.{Setting, Reset}
use Rattle.command.specs.declared.command.Setting.TheVariants.{Wrtnac, Done, Wrtlmd}
use Rattle.configuration.specs.Terms.{Terms}
use Rattle.numbers.specs.Bits.{keeping_bits}
use Rattle.numbers.specs.Little.{byte_at}
use Rattle.host.specs.declared.host.Host.{Host}

-- "AR .. 0", and MODE as opened
unfoldable pub opened_host : Terms → Host
opened_host terms = record { mode = terms.mode; ar = 0 }

-- "A host write puts one byte at 0x01 MODE, 0x02 or 0x03 AR (each stored as given)": AR's low byte at 0x02, its high one at 0x03
unfoldable pub stored : ℕ → ℕ → Host → Host
stored address value x =
    cond (eqb address 1) (record { mode = value; ar = x.ar })
    (cond (eqb address 2) (record { mode = x.mode; ar = value + 256 * byte_at x.ar 1 })
    (record { mode = x.mode; ar = byte_at x.ar 0 + 256 * value }))

-- "INIT cleared": bit 2 of MODE
unfoldable pub init_cleared : ℕ → ℕ
init_cleared mode = keeping_bits (7 ∷ 6 ∷ 5 ∷ 4 ∷ 3 ∷ 1 ∷ 0 ∷ []) mode

-- "Then those five MODE bits are cleared": 5, 4, 3, 1 and 0
unfoldable pub commands_cleared : ℕ → ℕ
commands_cleared mode = keeping_bits (7 ∷ 6 ∷ 2 ∷ []) mode

-- Step 3, full: "INIT cleared"
unfoldable pub full_if : Bool → Host → Host
full_if full x = record { mode = cond full (init_cleared x.mode) x.mode; ar = x.ar }

-- MODE and AR before the command bits are cleared; DONE, as full: "INIT cleared"; "PRST", "FRST": as opened
unfoldable pub commanded : Command → Terms → Host → Host
commanded (Setting Wrtnac) terms x = x
commanded (Setting Done) terms x = full_if true x
commanded (Setting Wrtlmd) terms x = x
commanded (Reset reset) terms x = opened_host terms

unfoldable pub host_obeyed : Command → Terms → Host → Host
host_obeyed command terms x =
    record { mode = commands_cleared (commanded command terms x).mode; ar = (commanded command terms x).ar }
