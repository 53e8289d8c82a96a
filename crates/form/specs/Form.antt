-- "Saved gauge" of paper 01 and the forms of paper 02: each form is its number and a list of fields with their widths. Its length and every
-- field's place are sums over that list, so that a later form is made from the one before it. Definitions only; assumes nothing.
use Rattle.std.specs.Prelude.{Bool, cond, List, [], ◌∷◌, ◌++◌, ℕ, ◌+◌, eqb, get_or}
use Rattle.numbers.specs.Little.{bytes_at, number_at}

-- ---- fields

-- the fields that are numbers. `Standby` is SI, in units in form 1 and in sixteenths after it; `Rests` is the count of rest windows, `CycleDrain` what
-- CYCT is counted from
pub data Number : Type 0 where
  FormNumber Held Dcr Lmd Standby Current Voltage Temperature Ar Mode Flags Rests Cyct CycleDrain : Number

-- the fields that are bytes, as they stand
pub data Bytes : Type 0 where
  Configuration : Bytes

pub data Name : Type 0 where
  of_number : Number → Name
  of_bytes : Bytes → Name

-- by which names are told apart: the order in which the newest form has them
abbrev pub name_number : Name → ℕ
name_number (of_number FormNumber) = 0
name_number (of_bytes Configuration) = 1
name_number (of_number Held) = 2
name_number (of_number Dcr) = 3
name_number (of_number Lmd) = 4
name_number (of_number Standby) = 5
name_number (of_number Current) = 6
name_number (of_number Voltage) = 7
name_number (of_number Temperature) = 8
name_number (of_number Ar) = 9
name_number (of_number Mode) = 10
name_number (of_number Flags) = 11
name_number (of_number Rests) = 12
name_number (of_number Cyct) = 13
name_number (of_number CycleDrain) = 14

abbrev pub same_name : Name → Name → Bool
same_name m n = eqb (name_number m) (name_number n)

-- a field and its width in bytes
pub record Field : Type 0 where
  pub name : Name
  pub width : ℕ

infix 70 ◌takes◌ ◌fills◌
-- a number takes a width
abbrev pub ◌takes◌ : Number → ℕ → Field
n takes width = record { name = of_number n; width = width }

-- bytes fill one
abbrev pub ◌fills◌ : Bytes → ℕ → Field
b fills width = record { name = of_bytes b; width = width }

-- ---- sums over the fields

abbrev pub length_of : List Field → ℕ
length_of [] = 0
length_of (f ∷ fs) = f.width + length_of fs

-- where a field stands: past all that stand before it
abbrev pub place_of : Name → List Field → ℕ
place_of n [] = 0
place_of n (f ∷ fs) = cond (same_name n f.name) 0 (f.width + place_of n fs)

-- the width of a field, 0 where the form has none of that name
abbrev pub width_of : Name → List Field → ℕ
width_of n [] = 0
width_of n (f ∷ fs) = cond (same_name n f.name) f.width (width_of n fs)

-- the fields with another one in the place of that of its name
abbrev pub replaced : Field → List Field → List Field
replaced field [] = []
replaced field (f ∷ fs) = cond (same_name field.name f.name) (field ∷ fs) (f ∷ replaced field fs)

-- the bytes of the fields, one after the other, by what the bytes of a field of some width are
unfoldable pub laid_out : (Name → ℕ → List ℕ) → List Field → List ℕ
laid_out field_bytes [] = []
laid_out field_bytes (f ∷ fs) = field_bytes f.name f.width ++ laid_out field_bytes fs

-- ---- forms

pub record Form : Type 0 where
  pub number : ℕ
  pub fields : List Field

-- "41 bytes: form 1; configuration; h and DCR, 8 bytes each; LMD, SI, c (signed), VOLT, TEMP, AR, 2 each; MODE; FLAGS."
abbrev pub form1 : Form
form1 =
    record {
      number = 1;
      fields =
          FormNumber takes 1 ∷ Configuration fills 10 ∷ Held takes 8 ∷ Dcr takes 8 ∷ Lmd takes 2 ∷ Standby takes 2 ∷ Current takes 2 ∷ Voltage takes 2
          ∷ Temperature takes 2 ∷ Ar takes 2 ∷ Mode takes 1 ∷ Flags takes 1 ∷ [];
    }

-- A1: "form 2 with the sixteenths .. in the same two bytes"
abbrev pub form2 : Form
form2 = record { number = 2; fields = form1.fields }

-- A4: "form 3 appends it in two bytes", the count of rest windows
abbrev pub form3 : Form
form3 = record { number = 3; fields = form2.fields ++ Rests takes 2 ∷ [] }

-- A5: "Form 4 appends CYCT and the 8-byte drain"
abbrev pub form4 : Form
form4 = record { number = 4; fields = form3.fields ++ Cyct takes 2 ∷ CycleDrain takes 8 ∷ [] }

-- A6: "Form 5 stores the wider count in place of the two bytes"
abbrev pub form5 : Form
form5 = record { number = 5; fields = replaced (Rests takes 4) form4.fields }

-- "saving writes the newest form"
abbrev pub newest : Form
newest = form5

abbrev pub saved_length : ℕ
saved_length = length_of newest.fields

-- the forms that are read beside it: "Form 1 is still read", "older forms read as 0", "Forms 1 to 4 are read"
abbrev pub older : List Form
older = form1 ∷ form2 ∷ form3 ∷ form4 ∷ []

-- the form of that number among some; any other number is held to the newest, which it is not
abbrev pub form_among : ℕ → List Form → Form
form_among n [] = newest
form_among n (form ∷ forms) = cond (eqb n form.number) form (form_among n forms)

abbrev pub form_numbered : ℕ → Form
form_numbered n = form_among n older

-- the form that bytes are in, which their first byte tells
abbrev pub form_of : List ℕ → Form
form_of bytes = form_numbered (get_or bytes 0 0)

-- ---- a field in bytes of a form

abbrev pub field_of : Name → Form → List ℕ → List ℕ
field_of n form bytes = bytes_at (width_of n form.fields) (place_of n form.fields) bytes

-- as a number, 0 where the form has no such field
abbrev pub number_of : Number → Form → List ℕ → ℕ
number_of n form bytes = number_at (width_of (of_number n) form.fields) (place_of (of_number n) form.fields) bytes

-- as bytes, as many as the newest form has, zeros where the form has no such field
abbrev pub bytes_of : Bytes → Form → List ℕ → List ℕ
bytes_of b form bytes = bytes_at (width_of (of_bytes b) newest.fields) 0 (field_of (of_bytes b) form bytes)
