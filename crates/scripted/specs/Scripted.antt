-- All rows of scripted lists, as one claim. Definitions only; assumes nothing.
use Rattle.scripted.specs.BenchRows.{BenchRows}
use Rattle.scripted.specs.CallRows.{CallRows}
use Rattle.scripted.specs.EventRows.{EventRows}
use Rattle.scripted.specs.HandedRows.{HandedRows}
use Rattle.scripted.specs.HistoryRows.{HistoryRows}
use Rattle.scripted.specs.KeptRows.{KeptRows}
use Rattle.scripted.specs.RegisterRows.{RegisterRows}
use Rattle.scripted.specs.RuleRows.{RuleRows}
use Rattle.scripted.specs.SavedRows.{SavedRows}
use Rattle.scripted.specs.TextRows.{TextRows}

pub record Scripted : Type 0 where
  pub registers : RegisterRows
  pub kept : KeptRows
  pub events : EventRows
  pub calls : CallRows
  pub texts : TextRows
  pub rules : RuleRows
  pub saved : SavedRows
  pub handed : HandedRows
  pub history : HistoryRows
  pub bench : BenchRows
