-- What a call leaves in the saved bytes: on success the gauge that follows. Definitions only; assumes nothing.
use Rattle.std.specs.Prelude.{cond, List, ℕ, eqb}
use Rattle.gauge.specs.Answer.{Answer}
use Rattle.refusals.specs.Refusal as Refusal
use Rattle.refusals.specs.Refusal.{or_else}
use Rattle.saved.specs.Save.{length_refusal, put_after}

-- the answer's number, or 13 for a buffer that is not of the form's length
unfoldable pub kept_number : Answer → ℕ → ℕ
kept_number answer buffer_length = or_else answer.number (length_refusal buffer_length)

-- every byte afterwards; a refused answer leaves them
unfoldable pub kept_bytes : Answer → List ℕ → List ℕ
kept_bytes answer saved = cond (eqb answer.number Refusal.none) (put_after answer.gauge saved) saved
