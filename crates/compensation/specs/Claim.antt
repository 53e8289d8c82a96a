-- What ageing leaves as it was, and how large its term becomes. Definitions only; assumes nothing.
use Rattle.std.specs.Prelude.{◌≡◌, ℕ, ◌*◌, ◌/◌, ◌≤◌, ◌<◌, get_or}
use Rattle.configuration.specs.Configuration.{gaf}
use Rattle.configuration.specs.declared.settings.Settings.{Settings}
use Rattle.compensation.specs.Compensation.{dcmp, rate_term}
use Rattle.compensation.specs.Unaged.{dcmp_unaged}

-- with quotient or GAF 0 the compensation is paper 01's
abbrev pub UnagedAsBefore : Type 0
UnagedAsBefore = (s : Settings) (i temp cyct : ℕ) → cyct / 16 * gaf s ≡ 0 → dcmp s i temp cyct ≡ dcmp_unaged s i temp

-- the greatest rate's term of any settings, at a TEMP that a window or a rest has left, or none yet: it is below 2 to the 64
abbrev pub GreatestRateTerm : Type 0
GreatestRateTerm =
    (s : Settings) → ((k : ℕ) → get_or s.bytes k 0 < 256) → (i temp cyct : ℕ) → i ≤ 65_535 → ((temp ≡ 0 → ⊥) → 1_012 ≤ temp) → cyct ≤ 65_535
    → rate_term s i temp cyct ≤ 2_689_602_566_261_820
