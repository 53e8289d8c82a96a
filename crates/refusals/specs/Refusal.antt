-- "The fourteen numbers" of paper 01, in the order of its table, and the new ones of paper 02. Definitions only; assumes nothing.
use Rattle.std.specs.Prelude.{cond, ◌≡◌, ℕ, eqb, MatchResult, Result, Ok, Err}
use Rattle.refusals.specs.declared.Refusal.{Refusal}
use Rattle.refusals.specs.declared.Refusal.TheVariants.{ConfigurationLength, IlmdZero, CurrentRange, VoltageRange, TemperatureRange, RestLength, NotWritable}
use Rattle.refusals.specs.declared.Refusal.TheVariants.{UnknownKey, NoCommandBit, NotCarried, WrtlmdZero, RegisterRange, BufferLength, Rejected, NotRested, OutsideTable}

-- "success is 0"
abbrev pub none : ℕ
none = 0

-- "configuration not 10 bytes"
abbrev pub configuration_length : ℕ
configuration_length = 1

-- "ILMD 0"
abbrev pub ilmd_zero : ℕ
ilmd_zero = 2

-- "current range"
abbrev pub current_range : ℕ
current_range = 3

-- "voltage range"
abbrev pub voltage_range : ℕ
voltage_range = 4

-- "temperature range"
abbrev pub temperature_range : ℕ
temperature_range = 5

-- "rest length"
abbrev pub rest_length : ℕ
rest_length = 6

-- "address not writable"
abbrev pub not_writable : ℕ
not_writable = 7

-- "key neither 0xA9 nor 0x56"
abbrev pub unknown_key : ℕ
unknown_key = 8

-- "no command bit"
abbrev pub no_command_bit : ℕ
no_command_bit = 9

-- "not carried"
abbrev pub not_carried : ℕ
not_carried = 10

-- "WRTLMD with AR 0"
abbrev pub wrtlmd_zero : ℕ
wrtlmd_zero = 11

-- "count 0, or address + count > 128"
abbrev pub register_range : ℕ
register_range = 12

-- "place + count beyond the reply; save buffer not 41"
abbrev pub buffer_length : ℕ
buffer_length = 13

-- "saved bytes or gauge value rejected"
abbrev pub rejected : ℕ
rejected = 14

-- "fewer than 422 rest windows" (A4 of paper 02)
abbrev pub not_rested : ℕ
not_rested = 15

-- "voltage outside the table" (A4 of paper 02)
abbrev pub outside_table : ℕ
outside_table = 16

-- the number of each refusal
abbrev pub number : Refusal → ℕ
number ConfigurationLength = configuration_length
number IlmdZero = ilmd_zero
number CurrentRange = current_range
number VoltageRange = voltage_range
number TemperatureRange = temperature_range
number RestLength = rest_length
number NotWritable = not_writable
number UnknownKey = unknown_key
number NoCommandBit = no_command_bit
number NotCarried = not_carried
number WrtlmdZero = wrtlmd_zero
number RegisterRange = register_range
number BufferLength = buffer_length
number Rejected = rejected
number NotRested = not_rested
number OutsideTable = outside_table

-- the number of an outcome: "success is 0"
abbrev pub number_of : {A : Type 0} → Result A Refusal → ℕ
number_of (Ok x) = none
number_of (Err refusal) = number refusal

-- what a lent number holds after an outcome: what is handed out, or, on a refusal, what stood there
abbrev pub left_by : {A B : Type 0} → Result A Refusal → (A → B) → B → B
left_by (Ok x) part before = part x
left_by (Err refusal) part before = before

-- the outcome of a call: a value where the number is 0, and otherwise the refusal of that number
abbrev pub Answers : {A : Type 0} → Result A Refusal → ℕ → A → Type 0
Answers outcome n value = MatchResult outcome (λ x. (n ≡ none) × (x ≡ value)) (λ refusal. n ≡ number refusal)

-- "Tested in table order": the second number only where the first is none
abbrev pub or_else : ℕ → ℕ → ℕ
or_else first second = cond (eqb first none) second first
