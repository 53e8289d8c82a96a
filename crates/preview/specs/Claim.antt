-- What a preview shows, one claim over every gauge and every key. Definitions only; assumes nothing.
use Rattle.std.specs.Prelude.{true, List, ◌≡◌, ℕ, length}
use Rattle.command.specs.Command.{command_number, decide}
use Rattle.command.specs.declared.command.Command.{Command}
use Rattle.std.specs.Prelude.{Ok}
use Rattle.gauge.specs.Accepted.{accepted}
use Rattle.gauge.specs.Obey.{obeyed}
use Rattle.gauge.specs.declared.state.Gauge.{Gauge}
use Rattle.refusals.specs.Refusal as Refusal
use Rattle.registers.specs.Map.{register_count}
use Rattle.registers.specs.Whole.{whole_map}
use Rattle.preview.specs.Preview.{command_after, preview_refusal, reply_after}

-- "all 128 register bytes and the command that would be obeyed", whatever stood in the reply and in the number before
pub record Shown (g : Gauge) (key : ℕ) (command : Command) (reply : List ℕ) (before : ℕ) : Type 0 where
  pub number : preview_refusal g key (length reply) ≡ Refusal.none
  pub handed : command_after g key (length reply) before ≡ command_number command
  pub registers : reply_after g key reply ≡ whole_map (obeyed command g)

abbrev pub Shows : Type 0
Shows =
    (g : Gauge) (key : ℕ) (command : Command) → accepted g ≡ true → decide key g.host.mode g.host.ar ≡ Ok command
    → (reply : List ℕ) (before : ℕ) → length reply ≡ register_count → Shown g key command reply before
