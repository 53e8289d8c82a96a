-- MODE stays a byte and AR two bytes through a full, a stored byte and a command. Assumes nothing.
use mathlib.Core.Bool.{Bool, true, false, cond}
use Prim.Native.Nat.{ℕ, ◌+◌, ◌*◌, ◌<◌, ◌≤◌}
use native.Mathlib.Omega.{arith}
use lib.Dec.{eqb}
use Rattle.command.specs.declared.command.Command.{Command}
use Rattle.command.specs.declared.command.Command.TheVariants.{Setting, Reset}
use Rattle.command.specs.declared.command.Setting.TheVariants.{Wrtnac, Done, Wrtlmd}
use Rattle.configuration.specs.Configuration.{pkcfg}
use Rattle.configuration.specs.Terms.{terms_of}
use Rattle.configuration.specs.declared.settings.Settings.{Settings}
use Rattle.configuration.proofs.ModeLaws.{opened_mode_is}
use Rattle.host.specs.Fits.{HostFits}
use Rattle.host.specs.Host.{commanded, commands_cleared, full_if, host_obeyed, init_cleared, opened_host, stored}
use Rattle.host.specs.declared.host.Host.{Host}
use Rattle.numbers.specs.Bits.{bit_set}
use Rattle.numbers.specs.Little.{byte_at}

-- ---- MODE

bit_within : (t : Bool) (n : ℕ) → cond t n 0 ≤ n
bit_within true n = omega arith
bit_within false n = omega arith

commands_cleared_fits : (m : ℕ) → commands_cleared m < 256
unfolding commands_cleared
commands_cleared_fits m =
    let a = bit_within (bit_set 7 m) 128 in
    let b = bit_within (bit_set 6 m) 64 in
    let c = bit_within (bit_set 2 m) 4 in
    omega arith

init_cleared_fits : (m : ℕ) → init_cleared m < 256
unfolding init_cleared
init_cleared_fits m =
    let a = bit_within (bit_set 7 m) 128 in
    let b = bit_within (bit_set 6 m) 64 in
    let c = bit_within (bit_set 5 m) 32 in
    let d = bit_within (bit_set 4 m) 16 in
    let e = bit_within (bit_set 3 m) 8 in
    let f = bit_within (bit_set 1 m) 2 in
    let g = bit_within (bit_set 0 m) 1 in
    omega arith

pub full_fits : (t : Bool) (h : Host) → HostFits h → HostFits (full_if t h)
unfolding full_if
full_fits true h f = record { mode = init_cleared_fits h.mode; ar = f.ar }
full_fits false h f = record { mode = f.mode; ar = f.ar }

pub opened_fits : (s : Settings) → pkcfg s < 256 → HostFits (opened_host (terms_of s))
unfolding opened_host
opened_fits s p = let e = opened_mode_is s p in record { mode = omega arith; ar = omega arith }

-- ---- a stored byte, a command

pub stored_fits : (address value : ℕ) (h : Host) → value < 256 → HostFits h → HostFits (stored address value h)
unfolding stored
stored_fits address value h small f = go (eqb address 1) (eqb address 2)
  where
    w : h.ar < 65_536
    w = f.ar

    go : (t u : Bool)
        → HostFits (cond t (record { mode = value; ar = h.ar })
        (cond u (record { mode = h.mode; ar = value + 256 * byte_at h.ar 1 })
        (record { mode = h.mode; ar = byte_at h.ar 0 + 256 * value })))
    go true u = record { mode = small; ar = f.ar }
    go false true = let x = w in record { mode = f.mode; ar = omega arith }
    go false false = let x = w in record { mode = f.mode; ar = omega arith }

pub obeyed_fits : (command : Command) (s : Settings) (h : Host) → HostFits h → HostFits (host_obeyed command (terms_of s) h)
unfolding host_obeyed commanded opened_host full_if
obeyed_fits (Setting Wrtnac) c h f = record { mode = commands_cleared_fits _; ar = f.ar }
obeyed_fits (Setting Done) c h f = record { mode = commands_cleared_fits _; ar = f.ar }
obeyed_fits (Setting Wrtlmd) c h f = record { mode = commands_cleared_fits _; ar = f.ar }
obeyed_fits (Reset reset) c h f = record { mode = commands_cleared_fits _; ar = omega arith }
