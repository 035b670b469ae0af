use Rattle.std.proofs.Common.{◌∙◌, ap, ap₂}
use Rattle.lf.specs.Syntax.{root}
use Rattle.tw_terms.specs.View.{args_of}
use Rattle.tw_terms.proofs.Views.{head_of-Var, spine_of-roll, term_of-Root}
use Rattle.tests_total.proofs.declared.variable.Goals as goal

pub returns : goal.returns
returns c = term_of-Root _ _ ∙ ap₂ root (head_of-Var _) (spine_of-roll _ ∙ ap args_of c.new.ensures.items)
