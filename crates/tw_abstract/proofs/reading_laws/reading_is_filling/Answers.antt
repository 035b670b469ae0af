use Rattle.tw_abstract.proofs.Contexts.{reading_law}
use Rattle.tw_abstract.proofs.reading_laws.reading_is_filling.Goals as goal

pub returns : goal.returns
returns c = reading_law
