-- What the history of demand 3 keeps. Definitions only; assumes nothing.
use Rattle.configuration.specs.declared.settings.Settings.{Settings}
use Rattle.host.specs.declared.host.Host.{Host}
use Rattle.history.specs.Account.{Account}
use Rattle.history.specs.Counters.{HistoryCounters}

pub record History : Type 0 where
  -- the configuration bytes in force
  pub settings : Settings
  -- P, Q and K, L, "a run with its drain R or no run"
  pub account : Account
  -- "MODE and AR"
  pub host : Host
  -- rest windows (A4 of paper 02), cycles and their drain (A5)
  pub counters : HistoryCounters

abbrev pub with_account : Account → History → History
with_account account x = record { settings = x.settings; account = account; host = x.host; counters = x.counters }

abbrev pub with_host : Host → History → History
with_host host x = record { settings = x.settings; account = x.account; host = host; counters = x.counters }

abbrev pub with_counters : HistoryCounters → History → History
with_counters counters x = record { settings = x.settings; account = x.account; host = x.host; counters = counters }
