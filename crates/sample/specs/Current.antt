-- The counted current of "A window" in paper 01. Definitions only; assumes nothing.
use Rattle.std.specs.Prelude.{false, cond, ℕ, leb}
use Rattle.sample.specs.declared.current.Current.{Current}

-- c is 0
abbrev pub no_current : Current
no_current = record { charging = false; magnitude = 0 }

-- "Counted current c is 0 if |a| ≤ DMF, else a."
unfoldable pub counted : ℕ → Current → Current
counted dmf a = cond (leb a.magnitude dmf) no_current a

-- c where c > 0, else 0
unfoldable pub charge_current : Current → ℕ
charge_current c = cond c.charging c.magnitude 0

-- |c| where c < 0, else 0
unfoldable pub discharge_current : Current → ℕ
discharge_current c = cond c.charging 0 c.magnitude
