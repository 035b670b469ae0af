use Rattle.law_reading_back.proofs.Kept.{classifier_kept}
use Rattle.law_reading_back.proofs.classifier_is_kept.Goals as goal

pub returns : goal.returns
returns c = classifier_kept
