-- A command moves the gauge's charge, MODE and AR and the history's alike. The two MODEs agree in the command bits alone: full and DONE
-- clear INIT in the gauge, and the history keeps it. Assumes nothing.
use mathlib.Core.Bool.{Bool, true, false, cond}
use mathlib.Core.Path.{◌≡◌, refl, sym, ap, ◌∙◌}
use Prim.Native.Nat.{ℕ, ◌+◌, ◌*◌, ◌/◌, ◌%◌, ◌<◌, min}
use native.Mathlib.Omega.{arith}
use lib.Dec.{eqb}
use lib.IntN.{pos}
use Rattle.charge.specs.Charge.{filled, opened_charge, without_run}
use Rattle.charge.specs.Obeyed.{charge_obeyed, written_lmd, written_nac}
use Rattle.charge.specs.declared.charge.Charge.{Charge}
use Rattle.command.specs.Command.{decide, highest_command_bit}
use Rattle.command.specs.declared.command.Command.{Command}
use Rattle.command.specs.declared.command.Command.TheVariants.{Setting, Reset}
use Rattle.command.specs.declared.command.Reset.TheVariants.{Prst, Frst}
use Rattle.command.specs.declared.command.Setting.TheVariants.{Wrtnac, Done, Wrtlmd}
use Rattle.command.proofs.DecisionLaws.{bit_decides}
use Rattle.configuration.specs.Terms.{terms_of}
use Rattle.configuration.specs.declared.settings.Settings.{Settings}
use Rattle.grains.specs.Grains.{grains_of_counts}
use Rattle.host.specs.Host.{commanded, commands_cleared, full_if, host_obeyed, opened_host, stored}
use Rattle.host.specs.declared.host.Host.{Host}
use Rattle.host.proofs.HostLaws.{commands_cleared_bit, init_cleared_bit}
use Rattle.numbers.specs.Little.{byte_at}
use Rattle.numbers.specs.Signed.{at_least_zero}
use Rattle.history.specs.Account.{after_setting}
use Rattle.history.specs.History.{after_command, host_after, started_history, without_command}
use Rattle.history.specs.Kept.{History}
use Rattle.history.specs.Sums.{charge_of, grains_a_count}
use Rattle.history.proofs.Tracking.{Tracks, fixed_is}

-- ---- the charge

pub command_tracks : (command : Command) (c : Settings) (ar : ℕ) (y : Charge) (x : History) → Tracks y x.account
    → x.settings ≡ c → ar ≡ x.host.ar → Tracks (charge_obeyed command (terms_of c) ar y) (after_command command x).account
unfolding charge_obeyed after_command after_setting written_nac written_lmd without_run filled opened_charge started_history
command_tracks (Setting Wrtnac) c ar y x k p e =
    let l = k.lmd in
    let f : min x.host.ar x.account.learned * grains_a_count ≡ min (grains_of_counts ar) (grains_of_counts y.lmd) = omega arith in
    record { held = fixed_is (min x.host.ar x.account.learned * grains_a_count) ∙ ap pos f; lmd = k.lmd; run = refl }
command_tracks (Setting Done) c ar y x k p e =
    record {
      held = fixed_is (x.account.learned * grains_a_count) ∙ ap (λ (l : ℕ). pos (l * grains_a_count)) (sym k.lmd);
      lmd = k.lmd;
      run = refl;
    }
command_tracks (Setting Wrtlmd) c ar y x k p e =
    let n : at_least_zero (charge_of x.account.sums) ≡ y.held = ap at_least_zero k.held in
    let f : min (at_least_zero (charge_of x.account.sums)) (x.host.ar * grains_a_count) ≡ min y.held (grains_of_counts ar) = omega arith in
    record {
      held = fixed_is (min (at_least_zero (charge_of x.account.sums)) (x.host.ar * grains_a_count)) ∙ ap pos f;
      lmd = e;
      run = refl;
    }
command_tracks (Reset Prst) c ar y x k p e = record { held = k.held; lmd = k.lmd; run = refl }
command_tracks (Reset Frst) c ar y x k p e =
    record { held = fixed_is 0; lmd = ap (λ (d : Settings). (terms_of d).capacity) (sym p); run = refl }

-- ---- MODE and AR

-- the command bits decide alike, and AR is the same
pub record HostTracks (h k : Host) : Type 0 where
  pub mode : highest_command_bit h.mode ≡ highest_command_bit k.mode
  pub ar : h.ar ≡ k.ar

pub host_decides : (key : ℕ) (h k : Host) → HostTracks h k → decide key h.mode h.ar ≡ decide key k.mode k.ar
host_decides key h k t = bit_decides key h.mode h.ar k.mode t.mode ∙ ap (λ (a : ℕ). decide key k.mode a) t.ar

pub full_host : (t : Bool) (h k : Host) → HostTracks h k → HostTracks (full_if t h) k
unfolding full_if
full_host true h k e = record { mode = init_cleared_bit h.mode ∙ e.mode; ar = e.ar }
full_host false h k e = record { mode = e.mode; ar = e.ar }

-- a byte of AR, the other byte kept
low_byte : (a b value : ℕ) → a ≡ b → a < 65_536 → value + 256 * byte_at a 1 ≡ value + 256 * (b / 256)
low_byte a b value e h = omega arith

high_byte : (a b value : ℕ) → a ≡ b → byte_at a 0 + 256 * value ≡ b % 256 + 256 * value
high_byte a b value e = omega arith

pub stored_host : (address value : ℕ) (h k : Host) → h.ar < 65_536 → HostTracks h k
    → HostTracks (stored address value h) (host_after address value k)
unfolding stored host_after
stored_host address value h k w t = go (eqb address 1) (eqb address 2)
  where
    go : (p q : Bool)
        → HostTracks
        (cond p (record { mode = value; ar = h.ar })
        (cond q (record { mode = h.mode; ar = value + 256 * byte_at h.ar 1 })
        (record { mode = h.mode; ar = byte_at h.ar 0 + 256 * value })))
        (cond p (record { mode = value; ar = k.ar })
        (cond q (record { mode = k.mode; ar = value + 256 * (k.ar / 256) })
        (record { mode = k.mode; ar = k.ar % 256 + 256 * value })))
    go true q = record { mode = refl; ar = t.ar }
    go false true = record { mode = t.mode; ar = low_byte h.ar k.ar value t.ar w }
    go false false = record { mode = t.mode; ar = high_byte h.ar k.ar value t.ar }

obeyed_ar : (command : Command) (c : Settings) (h : Host) (x : History) → h.ar ≡ x.host.ar
    → (host_obeyed command (terms_of c) h).ar ≡ (after_command command x).host.ar
unfolding host_obeyed commanded full_if opened_host after_command started_history
obeyed_ar (Setting Wrtnac) c h x e = e
obeyed_ar (Setting Done) c h x e = e
obeyed_ar (Setting Wrtlmd) c h x e = e
obeyed_ar (Reset Prst) c h x e = refl
obeyed_ar (Reset Frst) c h x e = refl

obeyed_mode : (command : Command) (c : Settings) (h : Host) (m : ℕ)
    → highest_command_bit (host_obeyed command (terms_of c) h).mode ≡ highest_command_bit (commands_cleared m)
unfolding host_obeyed
obeyed_mode command c h m =
    commands_cleared_bit (commanded command (terms_of c) h).mode ∙ sym (commands_cleared_bit m)

pub obeyed_host : (command : Command) (c : Settings) (h : Host) (x : History) → h.ar ≡ x.host.ar
    → HostTracks (host_obeyed command (terms_of c) h) (without_command (after_command command x)).host
obeyed_host command c h x e =
    record { mode = obeyed_mode command c h (after_command command x).host.mode; ar = obeyed_ar command c h x e }
