-- A test computed for both truth values, and the law that gives it at each; bits of a number kept. Assumes nothing.
use mathlib.Core.Bool.{Bool, true, false, ◌&&◌}
use lib.Dec.{T}
use Rattle.numbers.proofs.EveryLaws.{first_passes, rest_passes}

abbrev pub every_bool : (Bool → Bool) → Bool
every_bool test = test true && test false

pub at_each_bool : (test : Bool → Bool) → T (every_bool test) → (b : Bool) → T (test b)
at_each_bool test t true = first_passes (test true) (test false) t
at_each_bool test t false = rest_passes (test true) (test false) t
