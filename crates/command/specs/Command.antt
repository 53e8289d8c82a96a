-- "Opening and host bytes" of paper 01: which command a key at CTRL obeys, and the refusals 8 to 11. Definitions only; assumes nothing.
use Rattle.std.specs.Prelude.{Bool, false, cond, ◌&&◌, ◌||◌, List, [], ◌∷◌, ℕ, eqb, Option, Some, None, Result, Ok, Err}
use Rattle.numbers.specs.Bits.{bit_set}
use Rattle.refusals.specs.Refusal as Refusal
use Rattle.refusals.specs.declared.Refusal as Declared
use Rattle.refusals.specs.declared.Refusal.TheVariants.{UnknownKey, NoCommandBit, NotCarried, WrtlmdZero}
use Rattle.command.specs.declared.command.Command.{Command}
use Rattle.command.specs.declared.command.Command.TheVariants.{Setting, Reset}
use Rattle.command.specs.declared.command.Reset.TheVariants.{Prst, Frst}
use Rattle.command.specs.declared.command.Setting.TheVariants.{Wrtnac, Done, Wrtlmd}

-- no command bit is set
abbrev pub no_bit : ℕ
no_bit = 8

-- "the highest numbered set bit of MODE among 5, 4, 3, 1, 0", bit by bit
unfoldable pub highest_command_bit : ℕ → ℕ
highest_command_bit mode =
    cond (bit_set 5 mode) 5
    (cond (bit_set 4 mode) 4
    (cond (bit_set 3 mode) 3
    (cond (bit_set 1 mode) 1
    (cond (bit_set 0 mode) 0 no_bit))))

-- that bit, if one is set
abbrev pub command_bit : ℕ → Option ℕ
command_bit mode = cond (eqb (highest_command_bit mode) no_bit) None (Some (highest_command_bit mode))

-- the number of each command: "1 WRTNAC, 2 DONE, 3 PRST, 4 FRST, 5 WRTLMD"
abbrev pub command_number : Command → ℕ
command_number (Setting Wrtnac) = 1
command_number (Setting Done) = 2
command_number (Reset Prst) = 3
command_number (Reset Frst) = 4
command_number (Setting Wrtlmd) = 5

-- what a key at CTRL means: a command, or its refusal
abbrev pub Decision : Type 0
Decision = Result Command Declared.Refusal

abbrev pub is_wrtlmd : Command → Bool
is_wrtlmd command = eqb (command_number command) (command_number (Setting Wrtlmd))

-- a row of the table of commands: a key at CTRL, a bit of MODE, and the command that they pick
pub record Row : Type 0 where
  pub key : ℕ
  pub bit : ℕ
  pub command : Command

abbrev pub row : ℕ → ℕ → Command → Row
row key bit command = record { key = key; bit = bit; command = command }

-- the keys that are known, and the rows of all of them; a bit without a row is not carried
pub record Table : Type 0 where
  pub keys : List ℕ
  pub rows : List Row

-- "0xA9: 5 WRTNAC, 4 DONE, 3 PRST, 1 FRST; 0 not carried.", "0x56: 0 WRTLMD; the rest not carried."
abbrev pub commands : Table
commands =
    record {
      keys = 0xA9 ∷ 0x56 ∷ [];
      rows =
          row 0xA9 5 (Setting Wrtnac)
          ∷ row 0xA9 4 (Setting Done)
          ∷ row 0xA9 3 (Reset Prst)
          ∷ row 0xA9 1 (Reset Frst)
          ∷ row 0x56 0 (Setting Wrtlmd)
          ∷ [];
    }

abbrev pub is_key : ℕ → List ℕ → Bool
is_key key [] = false
is_key key (k ∷ keys) = eqb key k || is_key key keys

-- the command of the first row with the key and the bit
abbrev pub command_at : ℕ → ℕ → List Row → Option Command
command_at key bit [] = None
command_at key bit (r ∷ rows) = cond (eqb key r.key && eqb bit r.bit) (Some r.command) (command_at key bit rows)

-- 10, "not carried"; 11, "WRTLMD with AR 0"
abbrev pub decide_row : ℕ → Option Command → Decision
decide_row ar None = Err NotCarried
decide_row ar (Some command) = cond (is_wrtlmd command && eqb ar 0) (Err WrtlmdZero) (Ok command)

-- 9, "no command bit"; then the row
abbrev pub decide_bit : Table → ℕ → Option ℕ → ℕ → Decision
decide_bit table key None ar = Err NoCommandBit
decide_bit table key (Some bit) ar = decide_row ar (command_at key bit table.rows)

-- what a key means with the highest command bit and AR, by a table: 8, a key that is not known; then the bit
unfoldable pub decide_by : Table → ℕ → Option ℕ → ℕ → Decision
decide_by table key bit ar = cond (is_key key table.keys) (decide_bit table key bit ar) (Err UnknownKey)

-- what a key means with MODE and AR
unfoldable pub decide : ℕ → ℕ → ℕ → Decision
decide key mode ar = decide_by commands key (command_bit mode) ar

-- the paper's number of each case
abbrev pub decision_number : Decision → ℕ
decision_number = Refusal.number_of

-- no command is obeyed
abbrev pub no_command : ℕ
no_command = 0

-- "the command that would be obeyed" (A2 of paper 02), by its number
unfoldable pub command_of : Decision → ℕ
command_of (Ok command) = command_number command
command_of (Err refusal) = no_command
