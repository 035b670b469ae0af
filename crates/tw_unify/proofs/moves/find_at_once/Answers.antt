use Rattle.std.proofs.Common.{◌≡◌, sym, subst, arith}
use Rattle.std.specs.Option.{IfSome}
use Rattle.lf.specs.Syntax.{metavariable, root}
use Rattle.tw_prune.specs.Recognition.{IsPatternOf}
use Rattle.tw_terms.specs.OpenView.{open_spine_of, open_term_of}
use Rattle.tw_terms.proofs.OpenArgs.{open_types}
use Rattle.tw_unify.specs.Moving.{AgainstFits}
use Rattle.tw_unify.proofs.Moving.{against}
use Rattle.tw_unify.proofs.moves.find_at_once.Goals as goal

pub at_once_against-requires : goal.at_once_against-requires
at_once_against-requires c =
    let s = c.args.store.now.now in
    let D = c.args.context.now in
    let M = open_term_of c.args.left.now in
    let N = open_term_of c.args.right.now in
    let m = c.in-Root-Meta-default.meta.0 in
    let S = open_spine_of c.in-Root-Meta-default.spine in
    let is : M ≡ root (metavariable m) S = grind (arith, open_types) in
    let found : IsPatternOf c.len.result S c.in-Some.pattern.items = subst (λ o. IfSome o (λ xs. IsPatternOf c.len.result S xs.items)) c.in-Some.is c.in_ok-pattern-in-Root-Meta-default.ensures.found in
    subst (λ xs. AgainstFits s D m xs N) (sym c.deref.ensures.value) (against s D M N c.requires m S is c.len.result c.in-Some.pattern.items (sym c.len.ensures) found).0
