use Rattle.std.proofs.Common.{◌≡◌, ◌+◌, ◌≤◌, ap₂, drop, length, map, rules, subst, sym}
use Rattle.std.specs.Option.{MatchOption}
use Rattle.lf.specs.Depth.{depth_limit}
use Rattle.lf.specs.Syntax.{Spine, app, star}
use Rattle.tw_hered.specs.declared.fault.HeredFault.TheVariants.{TooDeep}
use Rattle.lf_unification.specs.Lists.{followed}
use Rattle.lf_unification.specs.Offering.{spine_equations}
use Rattle.tw_metas.specs.View.{equation_of}
use Rattle.tw_terms.specs.OpenView.{open_args_of, open_term_of}
use Rattle.tw_terms.proofs.OpenViews.{open_spine_of-args}
use Rattle.tw_open.specs.Deep.{KindTakesDeep}
use Rattle.tw_open.specs.Indices.{IndicesFit, TakesBoth, wanted_of}
use Rattle.tw_open.specs.View.{open_kind_of}
use Rattle.tw_open.proofs.Arguments.{arguments_from, first_fits, kind_ends, left_ends, no_arguments_from, not_below, one_equation_more, others_fit, right_ends, surely_below}
use Rattle.tw_open.proofs.DeepKinds.{fault_of_call, takes_later_deep}
use Rattle.tw_open.proofs.indices.index_equations.Goals as goal

pub loop-place-init : goal.loop-place-init
loop-place-init c =
    let D = c.args.locals.now in
    let K = open_kind_of c.args.kind in
    record {
      fits = subst (IndicesFit D K) (open_spine_of-args c.args.left.now) c.requires;
      so_far = ap₂ (λ (S T : Spine). followed (map equation_of c.args.found.now.items) (wanted_of c.args.wanted (spine_equations D K S T))) (open_spine_of-args c.args.left.now) (open_spine_of-args c.args.right.now);
      deep = subst (KindTakesDeep depth_limit K) (sym (open_spine_of-args c.args.left.now));
    }

pub take_argument-requires : goal.take_argument-requires
take_argument-requires c =
    let ts = c.args.left.now.args.items in
    let i = c.loop-place.place in
    first_fits c.args.locals.now (open_kind_of c.loop-place.rest) (open_term_of c.arg-item.result) (open_args_of (drop i ts)) (open_args_of (drop (i + 1) ts)) (arguments_from ts c.deref-arg-items.result.now i c.arg-item.result c.deref-arg-items.ensures.value c.loop-place-test.true c.arg-item.is) c.loop-place.invariant.fits

pub returns-in-None-2-clause-ok : goal.returns-in-None-2-clause-ok
returns-in-None-2-clause-ok c =
    let ts = c.args.left.now.args.items in
    let us = c.args.right.now.args.items in
    let i = c.loop-place.place in
    let w = c.args.wanted in
    let D = c.args.locals.now in
    let K = open_kind_of c.loop-place.rest in
    let M = open_term_of c.arg-item.result in
    let N = open_term_of c.in-Some.other.now in
    let a = c.loop-place.found in
    let b = c.take_argument.new.found in
    let n : (K ≡ star) × (b.items ≡ a.items) = subst (λ o. MatchOption o ((K ≡ star) × (b.items ≡ a.items)) (λ k. TakesBoth w D K M N (open_kind_of k) (map equation_of a.items) (map equation_of b.items))) c.in-None-2.is c.in_ok-range-in-Some.ensures.ok in
    kind_ends w D K (open_args_of (drop i ts)) (open_args_of (drop i us)) a.items b.items _ n.0 n.1 c.loop-place.invariant.so_far

pub returns-in-None-clause-ok : goal.returns-in-None-clause-ok
returns-in-None-clause-ok c =
    let ts = c.args.left.now.args.items in
    let us = c.args.right.now.args.items in
    let i = c.loop-place.place in
    let h : length us ≤ i = subst (λ l. length l ≤ i) c.deref.ensures.value (not_below i (length c.deref.result.now) c.in-None.ensures.lookup.0) in
    right_ends c.args.wanted c.args.locals.now (open_kind_of c.loop-place.rest) (open_term_of c.arg-item.result) (open_args_of (drop (i + 1) ts)) (open_args_of (drop i ts)) (open_args_of (drop i us)) (map equation_of c.loop-place.found.items) _
    (arguments_from ts c.deref-arg-items.result.now i c.arg-item.result c.deref-arg-items.ensures.value c.loop-place-test.true c.arg-item.is) (no_arguments_from us i h) c.loop-place.invariant.so_far

pub loop-place-preserved : goal.loop-place-preserved
loop-place-preserved c =
    let ts = c.args.left.now.args.items in
    let us = c.args.right.now.args.items in
    let i = c.loop-place.place in
    let w = c.args.wanted in
    let D = c.args.locals.now in
    let K = open_kind_of c.loop-place.rest in
    let L = open_kind_of c.in-Some-2.range in
    let M = open_term_of c.arg-item.result in
    let N = open_term_of c.in-Some.other.now in
    let a = c.loop-place.found in
    let b = c.take_argument.new.found in
    let lefts = arguments_from ts c.deref-arg-items.result.now i c.arg-item.result c.deref-arg-items.ensures.value c.loop-place-test.true c.arg-item.is in
    let rights = arguments_from us c.deref.result.now i c.in-Some.other.now c.deref.ensures.value (surely_below i (length c.deref.result.now) c.in-Some.ensures.lookup.0) c.in-Some.ensures.lookup.1 in
    let o : TakesBoth w D K M N L (map equation_of a.items) (map equation_of b.items) =
    subst (λ o. MatchOption o ((K ≡ star) × (b.items ≡ a.items)) (λ k. TakesBoth w D K M N (open_kind_of k) (map equation_of a.items) (map equation_of b.items))) c.in-Some-2.is c.in_ok-range-in-Some.ensures.ok in
    record {
      fits = others_fit w D K L M N (map equation_of a.items) (map equation_of b.items) (open_args_of (drop i ts)) (open_args_of (drop (i + 1) ts)) lefts o c.loop-place.invariant.fits;
      so_far = one_equation_more w D K L M N (open_args_of (drop (i + 1) ts)) (open_args_of (drop (i + 1) us)) (open_args_of (drop i ts)) (open_args_of (drop i us)) (map equation_of a.items) (map equation_of b.items) _ lefts rights o c.loop-place.invariant.so_far;
      deep = λ h. c.loop-place.invariant.deep (takes_later_deep w D K L M N (open_args_of (drop (i + 1) ts)) (open_args_of (drop i ts)) (map equation_of a.items) (map equation_of b.items) lefts o h);
    }

pub returns-clause-ok : goal.returns-clause-ok
returns-clause-ok c =
    let ts = c.args.left.now.args.items in
    let us = c.args.right.now.args.items in
    let i = c.loop-place.place in
    let h : length ts ≤ i = subst (λ l. length l ≤ i) c.deref-arg-items.ensures.value c.loop-place-test.false in
    left_ends c.args.wanted c.args.locals.now (open_kind_of c.loop-place.rest) (open_args_of (drop i ts)) (open_args_of (drop i us)) (map equation_of c.loop-place.found.items) _ (no_arguments_from ts i h) c.loop-place.invariant.so_far

pub returns-in_err-range-in-Some-clause-too_deep : goal.returns-in_err-range-in-Some-clause-too_deep
returns-in_err-range-in-Some-clause-too_deep c = λ is.
    let ts = c.args.left.now.args.items in
    let i = c.loop-place.place in
    let K = open_kind_of c.loop-place.rest in
    let lefts = arguments_from ts c.deref-arg-items.result.now i c.arg-item.result c.deref-arg-items.ensures.value c.loop-place-test.true c.arg-item.is in
    let h = c.in_err-range-in-Some.ensures.too_deep (fault_of_call c.from_residual.result c.in_err-range-in-Some.field-0.0 TooDeep (search rules) is) in
    c.loop-place.invariant.deep (subst (KindTakesDeep depth_limit K) (sym lefts) (h (open_args_of (drop (i + 1) ts))))
