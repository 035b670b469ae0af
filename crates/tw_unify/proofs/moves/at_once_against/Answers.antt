use Rattle.std.proofs.Common.{sym, subst, refl}
use Rattle.std.specs.Bool.{MatchBool}
use Rattle.lf_unification.specs.OpenTyping.{skeletons_of}
use Rattle.lf_unification.specs.Reach.{IsReached}
use Rattle.tw_prune.specs.declared.inversion.Inverted.TheVariants.{Never}
use Rattle.tw_prune.specs.Meaning.{AnswerMeans, IsInversion}
use Rattle.tw_putting.specs.Stores.{bindings_of, types_of}
use Rattle.tw_terms.specs.OpenView.{open_term_of}
use Rattle.tw_unify.specs.Reaching.{IsAvoided}
use Rattle.tw_unify.proofs.Moving.{binds_to, escape_refutes, stands}
use Rattle.tw_unify.proofs.moves.at_once_against.Goals as goal

pub returns-in_ok-value_over-in-Inverted : goal.returns-in_ok-value_over-in-Inverted
returns-in_ok-value_over-in-Inverted c =
    let s = c.args.store.now.now in
    let D = c.args.context.now in
    let m = c.args.meta.0 in
    let xs = c.args.pattern.now in
    let N = open_term_of c.args.right.now in
    let inner = c.len.result in
    let inversion : IsInversion inner xs N (open_term_of c.in-Inverted.body) = subst (AnswerMeans inner xs N) c.in-Inverted.is c.in_ok-body.ensures in
    let avoided : IsAvoided (types_of s) (bindings_of s) N m = subst (λ b. MatchBool b (IsReached (types_of s) (bindings_of s) N m) (IsAvoided (types_of s) (bindings_of s) N m)) c.if-branch.false c.in_ok-is_reached-in-Inverted.ensures in
    (refl, binds_to s D m xs N inner (open_term_of c.in-Inverted.body) (open_term_of c.in_ok-value_over-in-Inverted.field-0) (stands s D m xs N c.requires inner (sym c.len.ensures)) inversion avoided c.in_ok-value_over-in-Inverted.ensures)

pub returns-in-Never : goal.returns-in-Never
returns-in-Never c =
    let s = c.args.store.now.now in
    let D = c.args.context.now in
    let m = c.args.meta.0 in
    let xs = c.args.pattern.now in
    let N = open_term_of c.args.right.now in
    let never : AnswerMeans c.len.result xs N Never = subst (AnswerMeans c.len.result xs N) c.in-Never.is c.in_ok-body.ensures in
    escape_refutes s D m xs N c.requires (never (types_of s) D (skeletons_of (types_of s) m) (stands s D m xs N c.requires c.len.result (sym c.len.ensures)))
