use Rattle.lf.specs.Substitution.{reduce}
use Rattle.lf.proofs.Renaming.{substitute_identity, substitute_weakened}
use Rattle.lf.proofs.nothing_is_substituted.Goals as goal

pub returns : goal.returns
returns c = (substitute_identity reduce, substitute_weakened reduce)
