use Rattle.lf_closures.proofs.Values.{image_found}
use Rattle.lf_closures.proofs.found_is_image.Goals as goal

pub returns : goal.returns
returns c = image_found
