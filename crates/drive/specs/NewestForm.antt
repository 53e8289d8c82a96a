-- What bytes of the newest form are read as, field by field, with the places that its paper gives them. A later form takes this text over, and it becomes
-- one of `OlderForms`. Definitions only; assumes nothing.
use Rattle.numbers.specs.Little.{number_at}
use Rattle.drive.specs.OlderForms.{ReadsAs, counters_of, gauge_of41}

-- form 5: it "stores the wider count in place of the two bytes" (A6 of paper 02), and CYCT and the drain stand behind it
abbrev pub NewestReads : Type 0
NewestReads = ReadsAs 5 (λ bytes. gauge_of41 bytes (number_at 2 29 bytes) (counters_of (number_at 4 41 bytes) (number_at 2 45 bytes) (number_at 8 47 bytes)))
