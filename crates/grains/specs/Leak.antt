-- "Grains and leak" of paper 01, the leak of a window. Definitions only; assumes nothing.
use Rattle.std.specs.Prelude.{List, [], ◌∷◌, ℕ, suc, ◌*◌, leb, get_or, cond}
use Rattle.grains.specs.Grains.{nac}

-- "the band table"
abbrev pub band_table : List ℕ
band_table = 1 ∷ 2 ∷ 4 ∷ 8 ∷ 16 ∷ 32 ∷ 64 ∷ 128 ∷ []

-- "the band rises at temperatures", quarter kelvins
abbrev pub band_rises : List ℕ
band_rises = 1092 ∷ 1132 ∷ 1172 ∷ 1212 ∷ 1252 ∷ 1292 ∷ 1332 ∷ []

-- how many of the temperatures in the list, from the first on, are not above t
unfoldable pub rises_up_to : ℕ → List ℕ → ℕ
rises_up_to t [] = 0
rises_up_to t (rise ∷ rises) = cond (leb rise t) (suc (rises_up_to t rises)) 0

-- the band of a temperature, 0 to 7
unfoldable pub band : ℕ → ℕ
band t = rises_up_to t band_rises

-- "W comes, by the t handed in, from the band table"
unfoldable pub weight : ℕ → ℕ
weight t = get_or band_table (band t) 0

-- "SD × W": what a count held leaks in a window
unfoldable pub leak_rate : ℕ → ℕ → ℕ
leak_rate sd t = sd * weight t

-- "Leak of a window = NAC before it × SD × W"
unfoldable pub leak : ℕ → ℕ → ℕ
leak held rate = nac held * rate
