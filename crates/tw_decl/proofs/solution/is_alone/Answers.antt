use Rattle.std.proofs.Common.{ap, ◌∙◌}
use Rattle.lf.specs.Eta.{eta_long}
use Rattle.lf.specs.Syntax.{variable}
use Rattle.tw_terms.specs.View.{skeleton_of, term_of, type_of}
use Rattle.tw_decl.proofs.Solved.{alone_by, alone_head}
use Rattle.tw_decl.proofs.solution.is_alone.Goals as goal

pub returns-in-Ok : goal.returns-in-Ok
returns-in-Ok c =
    alone_by c.args.answer.now c.args.variable c.args.free (type_of c.in-Some.ty.now) (term_of c.in-Some-value_of.value.now) (term_of c.in-Ok.expanded) c.same.result c.in-Some.ensures c.in-Some-value_of.ensures
    (c.in-Ok.ensures.ok ∙ (alone_head (skeleton_of c.in_ok-shape.shape) c.args.free ∙ ap (λ s. eta_long s (variable c.args.free)) c.in_ok-shape.ensures)) c.same.ensures
