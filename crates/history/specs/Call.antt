-- A call on a gauge with all its arguments: "windows, rests, host writes (resets among them) and reads, refused ones included", previews, each of
-- which "may stand anywhere" (A2 of paper 02), and estimates (A4). Definitions only; assumes nothing.
use Rattle.std.specs.Prelude.{ℕ, ◌<◌, ℤ}

-- what a `u8` holds
pub record Byte : Type 0 where
  pub number : ℕ
  pub below : number < 256

pub data Call : Type 0 where
  window : (a v t : ℤ) → Call
  rest : (windows : ℕ) (t : ℤ) → Call
  write : (address : ℕ) (value : Byte) → Call
  read : (address count place reply_length : ℕ) → Call
  preview : (key : Byte) (reply_length : ℕ) → Call
  estimate : (v : ℤ) → Call
