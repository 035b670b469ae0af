use Rattle.std.proofs.Common.{◌∙◌, ap}
use Rattle.tw_mode.proofs.Sets.{hidden}
use Rattle.tw_mode.specs.Scopes.{in_marks}
use Rattle.std.specs.Prelude.{false}
use Rattle.tw_mode.proofs.scope.inside.Goals as goal

pub returns-clause-fixed : goal.returns-clause-fixed
returns-clause-fixed c = ap (λ d. in_marks false d c.args.scope.now.fixed.now) c.in_ok-one_more.ensures ∙ hidden c.args.scope.now.depth c.args.scope.now.fixed.now c.requires
