use Rattle.std.proofs.Common.{sym, ◌∙◌}
use Rattle.tw_parse.specs.View.{declaration_of}
use Rattle.tw_names.specs.Unknown.{unknown_in}
use Rattle.tw_names.proofs.Order.{earliest_is_first, none_is_empty}
use Rattle.tw_approx.proofs.approximation.known.Goals as goal

pub returns-in-Some-clause-refused : goal.returns-in-Some-clause-refused
returns-in-Some-clause-refused c = earliest_is_first (unknown_in c.args.signature.now (declaration_of c.args.decl.now)) c.in-Some.field-0 (sym c.in_ok-name.ensures ∙ c.in-Some.is)

pub returns-in-None-clause-known : goal.returns-in-None-clause-known
returns-in-None-clause-known c = none_is_empty (unknown_in c.args.signature.now (declaration_of c.args.decl.now)) (sym c.in_ok-name.ensures ∙ c.in-None.is)
