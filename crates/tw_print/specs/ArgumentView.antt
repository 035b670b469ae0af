-- The arguments that the program keeps.
use Rattle.std.specs.Prelude.{Bool, true, false, ◌||◌, option_map}
use Rattle.lf.specs.Syntax.{Term, lambda, root, Spine, nil, app}
use Rattle.tw_terms.specs.View.{term_of, type_of}
use Rattle.tw_print.specs.Arguments as spec
use Rattle.tw_print.specs.declared.arguments.Argument.{Argument}

abbrev pub argument_of : Argument → spec.Argument
argument_of a = (term_of a.term, option_map type_of a.ty)

abbrev pub lambda_test : Term → Bool
lambda_test (lambda M) = true
lambda_test (root h S) = false

abbrev pub any_lambda : Spine → Bool
any_lambda nil = false
any_lambda (app M S) = lambda_test M || any_lambda S
