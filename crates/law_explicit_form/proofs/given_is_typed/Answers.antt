use Rattle.law_explicit_form.proofs.Gives.{kind_typed, term_typed, type_typed}
use Rattle.law_explicit_form.proofs.given_is_typed.Goals as goal

pub returns : goal.returns
returns c = λ es N G U. (λ A R g. term_typed es U N G A R g, λ A g. type_typed es U N G A g, λ K g. kind_typed es U N G K g)
