-- The flags CI, EDV1 and EDVF: what the rules of paper 01 make of them. CHGS is the direction of c, and VDQ belongs to the run.
-- Definitions only; assumes nothing.
use Rattle.std.specs.Prelude.{Bool, true, false, cond}
use Rattle.command.specs.declared.command.Command.{Command}
use Rattle.command.specs.declared.command.Command.TheVariants.{Setting, Reset}
use Rattle.command.specs.declared.command.Reset.TheVariants.{Prst, Frst}
use Rattle.command.specs.declared.command.Setting.TheVariants.{Wrtnac, Done, Wrtlmd}
use Rattle.flags.specs.declared.flags.Flags.{Flags}

-- EDV1 and EDVF as given, CI as it was
abbrev pub with_voltages : Bool → Bool → Flags → Flags
with_voltages edv1 edvf f = record { ci = f.ci; edv1 = edv1; edvf = edvf }

-- "flags only CI", and CI as it is given
abbrev pub opened_flags : Bool → Flags
opened_flags ci = record { ci = ci; edv1 = false; edvf = false }

-- Step 2: "If c > 0: .. EDV1, EDVF cleared"
unfoldable pub cleared_if : Bool → Flags → Flags
cleared_if charging f = with_voltages (cond charging false f.edv1) (cond charging false f.edvf) f

-- Step 4, an EDVF window: "EDVF and EDV1 set"
unfoldable pub at_edvf : Flags → Flags
at_edvf f = with_voltages true true f

-- Step 4, E1: "EDV1 set"
unfoldable pub at_edv1 : Flags → Flags
at_edv1 f = with_voltages true f.edvf f

-- Step 4, a qualified run: EDV1 set, and "CI cleared"
unfoldable pub at_taught : Flags → Flags
at_taught f = record { ci = false; edv1 = true; edvf = f.edvf }

-- DONE: "clearing EDV1 and EDVF too"; "FRST: as opened", "PRST: as opened but .. CI kept"
unfoldable pub flags_obeyed : Command → Flags → Flags
flags_obeyed (Setting Wrtnac) f = f
flags_obeyed (Setting Done) f = with_voltages false false f
flags_obeyed (Setting Wrtlmd) f = f
flags_obeyed (Reset Prst) f = opened_flags f.ci
flags_obeyed (Reset Frst) f = opened_flags true
