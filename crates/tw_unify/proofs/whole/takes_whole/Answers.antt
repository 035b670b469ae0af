use Rattle.std.proofs.Common.{◌≡◌, subst, arith}
use Rattle.std.specs.Bool.{MatchBool, OnTrue}
use Rattle.lf.specs.Syntax.{metavariable, nil, root}
use Rattle.lf_unification.specs.Reach.{IsReached}
use Rattle.tw_putting.specs.Stores.{bindings_of, types_of}
use Rattle.tw_terms.specs.OpenView.{open_term_of}
use Rattle.tw_terms.proofs.OpenArgs.{open_types}
use Rattle.tw_unify.specs.Reaching.{IsAvoided}
use Rattle.tw_unify.proofs.Takers.{binds_whole}
use Rattle.tw_unify.proofs.whole.takes_whole.Goals as goal

pub returns-else-branch-clause-binds : goal.returns-else-branch-clause-binds
returns-else-branch-clause-binds c =
    let s = c.args.store.now.now in
    let m = c.in-Root-Meta-default.meta in
    let N = open_term_of c.args.right.now in
    let is : open_term_of c.args.left.now ≡ root (metavariable m.0) nil = grind (arith, open_types) in
    let avoided : IsAvoided (types_of s) (bindings_of s) N m.0 =
    subst (λ b. MatchBool b (IsReached (types_of s) (bindings_of s) N m.0) (IsAvoided (types_of s) (bindings_of s) N m.0)) c.if-branch.false c.in_ok-is_reached_now-in-Root-Meta-default.ensures.reached in
    binds_whole s (open_term_of c.args.left.now) N c.requires.fits m is avoided

pub returns-then-is_avoided_at_once-clause-binds : goal.returns-then-is_avoided_at_once-clause-binds
returns-then-is_avoided_at_once-clause-binds c =
    let s = c.args.store.now.now in
    let m = c.in-Root-Meta-default.meta in
    let N = open_term_of c.args.right.now in
    let is : open_term_of c.args.left.now ≡ root (metavariable m.0) nil = grind (arith, open_types) in
    let avoided : IsAvoided (types_of s) (bindings_of s) N m.0 = subst (λ b. OnTrue b (IsAvoided (types_of s) (bindings_of s) N m.0)) c.if-is_avoided_at_once.true c.is_avoided_at_once.ensures in
    binds_whole s (open_term_of c.args.left.now) N c.requires.fits m is avoided

pub returns-then-is_avoided_at_once-clause-closed : goal.returns-then-is_avoided_at_once-clause-closed
returns-then-is_avoided_at_once-clause-closed c = c.forget_with.ensures.closed c.args.store.now.now c.requires.closed
