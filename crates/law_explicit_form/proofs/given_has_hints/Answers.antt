use Rattle.law_explicit_form.proofs.Hints.{body_hints}
use Rattle.law_explicit_form.proofs.given_has_hints.Goals as goal

pub returns : goal.returns
returns c = λ es U b g. body_hints es U b g
