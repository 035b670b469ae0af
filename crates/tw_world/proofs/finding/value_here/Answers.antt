use Rattle.std.proofs.Common.{◌∙◌, ap, sym, None}
use Rattle.std.specs.Prelude.{cond}
use Rattle.lf.specs.Variables.{same_number}
use Rattle.tw_terms.specs.View.{spine_of, term_of}
use Rattle.tw_world.specs.Finding.{standing}
use Rattle.tw_signature.proofs.Marking.{same_not, same_self}
use Rattle.tw_clause.proofs.Patterns.{on_value}
use Rattle.tw_world.proofs.finding.value_here.Goals as goal

pub returns-then-head-variable : goal.returns-then-head-variable
returns-then-head-variable c =
    let V = standing c.args.bound (spine_of c.args.spine.now) (term_of c.args.instance.now) in
    on_value c.value_standing.result _ _ (λ r h. h ∙ sym (ap (λ b. cond b V None) (ap (same_number c.args.head) (sym c.if-head-variable.true) ∙ same_self c.args.head))) c.value_standing.ensures

pub returns-else-head-variable : goal.returns-else-head-variable
returns-else-head-variable c =
    let V = standing c.args.bound (spine_of c.args.spine.now) (term_of c.args.instance.now) in
    sym (ap (λ b. cond b V None) (same_not c.args.head c.args.variable c.if-head-variable.false))
