use Rattle.tw_abstract.proofs.Contexts.{quantifiers_law}
use Rattle.tw_abstract.proofs.reading_laws.quantifiers_are_reordered.Goals as goal

pub returns : goal.returns
returns c = quantifiers_law
