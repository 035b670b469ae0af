use Rattle.std.proofs.Common.{sym, subst}
use Rattle.std.specs.Bool.{OnTrue}
use Rattle.tw_prune.specs.Occurrence.{OccursInside}
use Rattle.tw_terms.specs.OpenView.{open_term_of}
use Rattle.tw_unify.proofs.Moving.{occurrence_refutes}
use Rattle.tw_unify.proofs.moves.inside.Goals as goal

pub returns-then-branch : goal.returns-then-branch
returns-then-branch c =
    let N = open_term_of c.args.right.now in
    let found : OccursInside c.args.meta.0 c.len.result N = subst (λ b. OnTrue b (OccursInside c.args.meta.0 c.len.result N)) c.if-branch.true c.in_ok-occurs_inside.ensures.found in
    occurrence_refutes c.args.store.now.now c.args.context.now c.args.meta.0 c.args.pattern.now N c.requires.fits c.len.result (sym c.len.ensures) found
