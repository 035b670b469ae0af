use Rattle.std.proofs.Common.{sym, subst}
use Rattle.lf.specs.Syntax.{arrow, skeleton}
use Rattle.tw_terms.specs.OpenView.{open_head_of, open_spine_of, open_term_of, open_type_of}
use Rattle.tw_elaborate.specs.Operators.{Applies, PutsIn, operator_of}
use Rattle.tw_elaborate.specs.declared.operators.Operator.{Operator}
use Rattle.tw_elaborate.specs.declared.operators.Operator.TheVariants.{Head}
use Rattle.tw_elaborate.proofs.Rows.{head_put}
use Rattle.tw_elaborate.proofs.operators.put.Goals as goal

pub returns-in_ok-with_argument-in-Head-clause-ok : goal.returns-in_ok-with_argument-in-Head-clause-ok
returns-in_ok-with_argument-in-Head-clause-ok c =
    let a = skeleton (open_type_of c.args.domain.now) in
    let b = skeleton (open_type_of c.args.range) in
    let N = open_term_of c.args.arg in
    let h = c.in-Head.head in
    let S = c.in-Head.spine in
    let T = c.in_ok-with_argument-in-Head.field-0 in
    let f : Applies a b (operator_of (arrow a b) (Head h S)) N = subst (λ (o : Operator). Applies a b (operator_of (arrow a b) o) N) c.in-Head.is c.requires.applies in
    (subst (λ (o : Operator). PutsIn a (operator_of (arrow a b) o) N (operator_of b (Head h T))) (sym c.in-Head.is) (head_put a b (open_head_of h) (open_spine_of S) (open_spine_of T) N f c.in_ok-with_argument-in-Head.ensures), c.in_ok-rest.ensures.ok)
