-- Step 4 of a window in paper 01: what the end-of-discharge voltages make of it. Definitions only; assumes nothing.
use Rattle.std.specs.Prelude.{Bool, ◌&&◌, cond, ℕ, ◌*◌, leb, ltb, eqb}
use Rattle.configuration.specs.Terms.{Terms}
use Rattle.reached.specs.declared.ending.Ending.{Ending}
use Rattle.reached.specs.declared.ending.Ending.TheVariants.{Above, Edvf, Edv1, Qualified}

-- "t ≥ 4 × (273 + TOFF) and IAV > 2 × S0"
unfoldable pub may_teach : Terms → ℕ → ℕ → Bool
may_teach terms iav t = leb terms.cold t && ltb (2 * terms.s0) iav

-- "If c < 0 and v ≤ EDVF .. Otherwise, if c < 0 and v ≤ E1 .. if VDQ, t ≥ 4 × (273 + TOFF) and IAV > 2 × S0, the run qualifies";
-- the discharge is |c| where c < 0, else 0
unfoldable pub ending_of : Terms → Bool → ℕ → ℕ → ℕ → Ending
ending_of terms vdq discharge v t =
    cond (eqb discharge 0) Above
    (cond (leb v terms.edvf) Edvf
    (cond (leb v terms.e1) (cond (vdq && may_teach terms discharge t) Qualified Edv1) Above))
