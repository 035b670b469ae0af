use Rattle.law_reading_back.proofs.Back.{classifier_legible}
use Rattle.law_reading_back.proofs.classifier_is_legible.Goals as goal

pub returns : goal.returns
returns c = classifier_legible
