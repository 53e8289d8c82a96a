-- The claim is `preview_of_copy` of the laws on previews. Assumes nothing.
use Rattle.drive.proofs.PreviewLaws.{preview_of_copy}
use Rattle.drive.proofs.preview_of_copy.Goals as goal

pub returns : goal.returns
returns c = preview_of_copy
