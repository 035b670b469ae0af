use Rattle.tw_terms.specs.OpenView.{open_term_of}
use Rattle.tw_abstract.proofs.Recognizing.{sole_answers}
use Rattle.tw_abstract.proofs.naming.sole_metavariable.Goals as goal

pub returns : goal.returns
returns c = sole_answers (open_term_of c.args.term.now) c.sole_under.result c.sole_under.ensures
