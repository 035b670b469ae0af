use Rattle.std.proofs.Common.{◌≡◌, ◌+◌, drop, Some, None, sym, ap, ◌∙◌, subst, arith}
use Rattle.std.proofs.lemmas.List.{drop_all}
use Rattle.std.specs.Bool.{OnTrue}
use Rattle.std.specs.List.{slice_get}
use Rattle.lf.specs.Syntax.{metavariable, nil, root}
use Rattle.tw_putting.specs.Stores.{bindings_of, types_of}
use Rattle.tw_putting.proofs.Views.{same_value, value_of_binding}
use Rattle.tw_metas.specs.State.{joined}
use Rattle.tw_terms.specs.OpenView.{open_args_of, open_head_of, open_term_of}
use Rattle.tw_terms.proofs.OpenArgs.{open_spines}
use Rattle.tw_unify.specs.Reaching.{HasBareType, IsAvoided}
use Rattle.tw_unify.proofs.Glancing.{avoided_step, rigid_avoided, unbound_avoided, value_avoided}
use Rattle.tw_unify.proofs.Results.{if_some_weaker}
use Rattle.tw_unify.proofs.Spines.{open_args_at}
use Rattle.tw_unify.proofs.glance.+looks.Goals as goal

pub look-loop-arg-preserved : goal.look-loop-arg-preserved
look-loop-arg-preserved t c =
    let s = c.args.store.now.now in
    let items = c.deref-arg-items.result.now in
    record {
      fewer = omega (arith, c.in_ok-left-in-Root-2.ensures.fewer, c.loop-arg.invariant.fewer);
      so_far = avoided_step (types_of s) (bindings_of s) c.args.meta.0 (open_term_of c.arg-item.result) (open_args_of (drop c.loop-arg.arg-index items)) (open_args_of (drop (c.loop-arg.arg-index + 1) items)) (open_args_of items)
          (open_args_at items c.loop-arg.arg-index c.arg-item.result (omega arith) c.arg-item.is) c.in_ok-left-in-Root-2.ensures.avoided c.loop-arg.invariant.so_far;
    }

pub look-returns-after-loop-arg-clause-avoided : goal.look-returns-after-loop-arg-clause-avoided
look-returns-after-loop-arg-clause-avoided t c =
    let s = c.args.store.now.now in
    let items = c.deref-arg-items.result.now in
    let h = open_head_of c.in-Root.head in
    let is : open_term_of c.args.term.now ≡ root h (open_args_of items) = grind (arith, open_spines) in
    let none : open_args_of (drop c.loop-arg.arg-index items) ≡ nil = ap open_args_of (drop_all c.loop-arg.arg-index items (omega arith)) in
    subst (λ N. IsAvoided (types_of s) (bindings_of s) N c.args.meta.0) (sym is) (c.loop-arg.invariant.so_far h (subst (λ S. IsAvoided (types_of s) (bindings_of s) (root h S) c.args.meta.0) (sym none) c.in_ok-left-in-Root.ensures.avoided))

pub look_at_head-returns-in-Some-clause-avoided : goal.look_at_head-returns-in-Some-clause-avoided
look_at_head-returns-in-Some-clause-avoided t c =
    let s = c.args.store.now.now in
    let k = c.in-Meta.found.0 in
    let N = open_term_of c.in-Some.value.now in
    let bare : HasBareType (types_of s) k = subst (λ b. OnTrue b (HasBareType (types_of s) k)) c.if-not-has_bare_type.false c.has_bare_type.ensures in
    let is : open_head_of c.args.head ≡ metavariable k = grind (arith, open_spines) in
    if_some_weaker c.look.result (λ left. IsAvoided (types_of s) (bindings_of s) N c.args.meta.0) (λ left. IsAvoided (types_of s) (bindings_of s) (root (open_head_of c.args.head) nil) c.args.meta.0)
    (λ left a. subst (λ h. IsAvoided (types_of s) (bindings_of s) (root h nil) c.args.meta.0) (sym is)
    (value_avoided (types_of s) (bindings_of s) c.args.meta.0 k N c.if-found-meta.false bare (λ b i e. same_value s.values k b N e (value_of_binding s.bound s.values b i) (sym c.in-Some.ensures)) a))
    c.look.ensures.avoided

pub look_at_head-returns-in-None-clause-avoided : goal.look_at_head-returns-in-None-clause-avoided
look_at_head-returns-in-None-clause-avoided t c =
    let s = c.args.store.now.now in
    let k = c.in-Meta.found.0 in
    let bare : HasBareType (types_of s) k = subst (λ b. OnTrue b (HasBareType (types_of s) k)) c.if-not-has_bare_type.false c.has_bare_type.ensures in
    let is : open_head_of c.args.head ≡ metavariable k = grind (arith, open_spines) in
    subst (λ h. IsAvoided (types_of s) (bindings_of s) (root h nil) c.args.meta.0) (sym is)
    (unbound_avoided (types_of s) (bindings_of s) c.args.meta.0 k c.if-found-meta.false bare
    (λ b i e. let no : None ≡ Some b.value = c.in-None.ensures ∙ (ap (λ j. joined (slice_get s.values j)) (sym e) ∙ value_of_binding s.bound s.values b i) in absurd cc))

pub look_at_head-returns-in_default : goal.look_at_head-returns-in_default
look_at_head-returns-in_default t c =
    let s = c.args.store.now.now in
    record {
      fewer = omega arith;
      avoided = rigid_avoided (types_of s) (bindings_of s) c.args.meta.0 c.args.head c.in_default.not-Meta;
    }
