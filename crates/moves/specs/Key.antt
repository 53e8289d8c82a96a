-- A key at CTRL on bytes of the newest form, accepted or not: the number of its decision, and the command's gauge put into the bytes. Definitions
-- only; assumes nothing.
use Rattle.std.specs.Prelude.{List, ℕ, Ok, Err}
use Rattle.command.specs.Command.{Decision, decide, decision_number}
use Rattle.command.specs.declared.command.Command.{Command}
use Rattle.command.specs.declared.command.Command.TheVariants.{Reset, Setting}
use Rattle.gauge.specs.Obey.{obeyed}
use Rattle.gauge.specs.declared.state.Gauge.{Gauge}
use Rattle.load.specs.Load.{decoded_gauge}
use Rattle.saved.specs.Put.{charge_put, flags_put, host_put, parts_put}

-- what a key decides with the MODE and AR of a gauge
abbrev pub decided : ℕ → Gauge → Decision
decided key g = decide key g.host.mode g.host.ar

unfoldable pub key_number : List ℕ → ℕ → ℕ
key_number bytes key = decision_number (decided key (decoded_gauge bytes))

-- what a setting moves: it leaves the sample, SI and the counters
abbrev pub setting_put : Gauge → List ℕ → List ℕ
setting_put g bytes =
    flags_put g.sample.current.charging g.charge.run.vdq g.flags (host_put g.host (charge_put g.charge bytes))

-- the gauge after a command, by its kind
unfoldable pub obeyed_put : Command → Gauge → List ℕ → List ℕ
obeyed_put (Setting setting) g bytes = setting_put g bytes
obeyed_put (Reset reset) g bytes = parts_put g bytes

-- a refused key leaves the bytes
unfoldable pub decided_put : Decision → Gauge → List ℕ → List ℕ
decided_put (Ok command) g bytes = obeyed_put command (obeyed command g) bytes
decided_put (Err refusal) g bytes = bytes

unfoldable pub key_bytes : List ℕ → ℕ → List ℕ
key_bytes bytes key = decided_put (decided key (decoded_gauge bytes)) (decoded_gauge bytes) bytes
