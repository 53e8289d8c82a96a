-- What each command of "Opening and host bytes" in paper 01 makes of the charge. Definitions only; assumes nothing.
use Rattle.std.specs.Prelude.{ℕ, min}
use Rattle.command.specs.declared.command.Command.{Command}
use Rattle.command.specs.declared.command.Command.TheVariants.{Setting, Reset}
use Rattle.command.specs.declared.command.Reset.TheVariants.{Prst, Frst}
use Rattle.command.specs.declared.command.Setting.TheVariants.{Wrtnac, Done, Wrtlmd}
use Rattle.configuration.specs.Terms.{Terms}
use Rattle.grains.specs.Grains.{grains_of_counts}
use Rattle.grains.specs.Run.{no_run}
use Rattle.charge.specs.Charge.{filled, opened_charge, without_run}
use Rattle.charge.specs.declared.charge.Charge.{Charge}

-- "WRTNAC: h = min(AR, LMD) × G .. clear VDQ, DCR 0"; the lesser of AR × G and LMD × G
unfoldable pub written_nac : ℕ → Charge → Charge
written_nac ar x = record { held = min (grains_of_counts ar) (grains_of_counts x.lmd); lmd = x.lmd; run = no_run }

-- "WRTLMD: LMD = AR, h = min(h, LMD × G) .. clear VDQ, DCR 0"
unfoldable pub written_lmd : ℕ → Charge → Charge
written_lmd ar x = record { held = min x.held (grains_of_counts ar); lmd = ar; run = no_run }

-- "DONE: as full in step 3", "FRST: as opened", "PRST: as opened but h, LMD .. kept"
unfoldable pub charge_obeyed : Command → Terms → ℕ → Charge → Charge
charge_obeyed (Setting Wrtnac) terms ar x = written_nac ar x
charge_obeyed (Setting Done) terms ar x = filled x
charge_obeyed (Setting Wrtlmd) terms ar x = written_lmd ar x
charge_obeyed (Reset Prst) terms ar x = without_run x
charge_obeyed (Reset Frst) terms ar x = opened_charge terms
