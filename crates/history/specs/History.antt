-- The history of demand 3 in paper 01 ("Fixing points of demand 3 .."): fed the opened configuration and the calls' arguments, and taking
-- nothing from the gauge. It shares the decision of a command, the command bits of MODE and the ranges with their numbers, and what a
-- window and a rest share (`Account`). Definitions only; assumes nothing.
use Rattle.std.specs.Prelude.{cond, List, [], ◌∷◌, ℕ, ◌+◌, ◌*◌, ◌/◌, ◌%◌, eqb}
use Rattle.std.proofs.Math.Option.{none}
use Rattle.command.specs.Command.{decide}
use Rattle.command.specs.declared.command.Command.{Command}
use Rattle.command.specs.declared.command.Command.TheVariants.{Setting, Reset}
use Rattle.command.specs.Command.{Decision}
use Rattle.std.specs.Prelude.{Ok, Err}
use Rattle.configuration.specs.Settings.{opened_settings}
use Rattle.command.specs.declared.command.Reset.TheVariants.{Prst, Frst}
use Rattle.configuration.specs.Terms.{terms_of}
use Rattle.configuration.specs.declared.settings.Settings.{Settings}
use Rattle.host.specs.Host.{commands_cleared}
use Rattle.host.specs.declared.host.Host.{Host}
use Rattle.refusals.specs.Refusal as Refusal
use Rattle.history.specs.Account.{after_rest, after_setting, after_window, fixing, with_run}
use Rattle.history.specs.Call.{Call, window, rest, write, read, preview, estimate}
use Rattle.history.specs.Counters.{counters_after_prst, counters_after_rest, counters_after_window, no_counters}
use Rattle.history.specs.Kept.{History, with_account, with_counters, with_host}
use Rattle.history.specs.Refused.{refusal_of}
use Rattle.history.specs.Tests.{counted_current}

-- "It starts with P, Q and K 0, L the design capacity, no run, MODE and AR as opened."; nothing is counted yet
unfoldable pub started_history : Settings → History
started_history settings =
    record {
      settings = settings;
      account = fixing 0 (terms_of settings).capacity none;
      host = record { mode = (terms_of settings).mode; ar = 0 };
      counters = no_counters;
    }

-- "It is fed the opened configuration"
abbrev pub opened_history : List ℕ → History
opened_history configuration = started_history (opened_settings configuration)

-- ---- "Host write"

-- "MODE and AR are stored .. as above": 0x01 MODE, 0x02 and 0x03 the low and the high byte of AR
unfoldable pub host_after : ℕ → ℕ → Host → Host
host_after address value host =
    cond (eqb address 1) (record { mode = value; ar = host.ar })
    (cond (eqb address 2) (record { mode = host.mode; ar = value + 256 * (host.ar / 256) })
    (record { mode = host.mode; ar = host.ar % 256 + 256 * value }))

-- A setting moves the account alone. "FRST starts the history anew. PRST ends a run and puts MODE and AR as opened." Either reset clears the count of
-- rest windows; "PRST keeps both and FRST clears both", cycles and drain (A5 of paper 02).
unfoldable pub after_command : Command → History → History
after_command (Setting setting) x = with_account (after_setting setting x.host.ar x.account) x
after_command (Reset Prst) x =
    with_counters (counters_after_prst x.counters) (with_host (started_history x.settings).host (with_account (with_run none x.account) x))
after_command (Reset Frst) x = started_history x.settings

-- "After each command the five MODE bits are cleared."
abbrev pub without_command : History → History
without_command x = with_host (record { mode = commands_cleared x.host.mode; ar = x.host.ar }) x

-- "CTRL picks its command"
unfoldable pub after_key : Decision → History → History
after_key (Ok command) x = without_command (after_command command x)
after_key (Err refusal) x = x

unfoldable pub after_write : ℕ → ℕ → History → History
after_write address value x =
    cond (eqb address 0) (after_key (decide value x.host.mode x.host.ar) x) (with_host (host_after address value x.host) x)

-- ---- every call

unfoldable pub after_work : Call → History → History
after_work (window a v t) x =
    with_counters (counters_after_window x.account.learned (counted_current (terms_of x.settings) a) x.counters)
    (with_account (after_window (terms_of x.settings) (counted_current (terms_of x.settings) a) v t x.account) x)
after_work (rest n t) x =
    with_counters (counters_after_rest n x.counters) (with_account (after_rest (terms_of x.settings) n t x.account) x)
after_work (write address value) x = after_write address value.number x
after_work (read address count place reply_length) x = x
after_work (preview key reply_length) x = x
after_work (estimate v) x = x

-- "Read, or any call refused: nothing changes." Nor does a preview, "without changing its sum" (A2 of paper 02), or an estimate, which "moves no
-- charge" (A4)
unfoldable pub after_call : Call → History → History
after_call call x = cond (eqb (refusal_of call x) Refusal.none) (after_work call x) x

-- the history of a list of calls, the first call first
unfoldable pub after_calls : List Call → History → History
after_calls [] x = x
after_calls (call ∷ calls) x = after_calls calls (after_call call x)
