use Rattle.std.proofs.Common.{◌≡◌, ◌<◌, [], ◌∷◌, ◌++◌, map, IfOk, inl, inr, refl, sym, ap, ap₂, ◌∙◌, subst, arith, rules}
use Rattle.std.proofs.lemmas.List.{map-append}
use Rattle.std.proofs.lemmas.Result.{on_ok_weaker}
use Rattle.lf.specs.Depth.{depth_limit, kind_depth}
use Rattle.lf.specs.Entries.{signature_of}
use Rattle.lf.specs.Substitution.{single}
use Rattle.lf.specs.Syntax.{pi, skeleton}
use Rattle.lf.specs.Typing.{instantiate_kind}
use Rattle.lf_elaboration.specs.Elaboration.{Checks, ElaboratesDomain, ElaboratesFamily, ElaboratesKind, ElaboratesType, Infers, at_of_skeleton, at_of_type, at_star, at_type_hole}
use Rattle.lf_elaboration.specs.Skeletons.{TypeHasSkeletons}
use Rattle.lf_elaboration.specs.Written.{arrow, ascribed, family_ascribed, function, kind_arrow, kind_quantified, of_type, quantified, written_star}
use Rattle.tw_prune.proofs.Options.{if_ok}
use Rattle.tw_terms.specs.OpenView.{open_spine_of, open_term_of, open_type_of}
use Rattle.tw_terms.proofs.OpenViews.{open_type_of-Atom, open_type_of-Pi}
use Rattle.tw_written.specs.View.{place_of, written_domain_of, written_kind_of, written_of, written_type_of}
use Rattle.tw_written.proofs.Views.{written_domain_of-OfSkeleton, written_domain_of-OfType, written_kind_of-Arrow, written_kind_of-Quantified, written_kind_of-Star, written_of-Ascribed, written_of-Bound, written_of-Declared, written_of-Free, written_of-Function, written_of-Hole, written_type_of-Arrow, written_type_of-Ascribed, written_type_of-Family, written_type_of-Hole, written_type_of-Quantified}
use Rattle.tw_elaborate.specs.Comparing.{ChecksDomain, ComparesTypes}
use Rattle.tw_elaborate.specs.Deep.{ChecksDeep, ChecksDomainDeep, DomainDeep, FamilyDeep, InfersDeep, KindDeep, TypeDeep, at_domain, deep_body, deep_domain, deep_compared, deep_family, deep_hole, deep_inferred, deep_new_domain, deep_quantified_domain, deep_quantified_kind_domain, deep_quantified_kind_range, deep_quantified_range, deep_type_hole, deep_written_domain, in_domain}
use Rattle.tw_hered.specs.Fits.{KindFits}
use Rattle.tw_elaborate.specs.Operators.{operator_of, written_terms}
use Rattle.tw_elaborate.specs.IndicesDeep.{TypesDeep}
use Rattle.tw_elaborate.specs.Plain.{IsReducible}
use Rattle.tw_elaborate.specs.Rows.{Reached}
use Rattle.tw_open.specs.View.{open_kind_of}
use Rattle.tw_elaborate.specs.View.{made, numbers_of}
use Rattle.tw_hered.specs.declared.fault.HeredFault.TheVariants.{TooDeep}
use Rattle.tw_elaborate.specs.declared.waiting.Waiting.{Waiting}
use Rattle.tw_open.specs.declared.kinds.OpenKind.{Star as OpenKind-Star}
use Rattle.tw_open.proofs.DeepKinds.{fault_of_call}
use Rattle.tw_elaborate.proofs.Answering.{body_deep, domain_checked, domain_compared, domain_deep, family_elaborated, function_checked, function_inferred, inferred_checked, is_inferred, is_reducible, kind_quantified_elaborated, quantified_elaborated}
use Rattle.tw_elaborate.proofs.Ascriptions.{first_found, found_stands, innermost_deep, innermost_stands, innermost_type, last_under, next_found_type, next_type_deep, no_types_left, none_under, one_more_under, rest_stands, type_under_deep, whole_found}
use Rattle.tw_elaborate.proofs.Arrows.{domain_too_deep, kind_domain_too_deep, no_domains, no_kind_domains, one_more_domain, one_more_kind_domain}
use Rattle.tw_elaborate.proofs.Following.{domain_found, domain_under, in_scope, inferred_type, keeps_under, under_stands}
use Rattle.tw_elaborate.proofs.Rows.{arguments_less, asked_applies, asked_deep, asked_domain, asked_range_fits, asked_stands, asked_taken_deep, deep_row, all_found, next_asks, next_finished, none_popped, nothing_left, popped, resumed, row_asked, rows_stay}
use Rattle.tw_elaborate.proofs.FamilyAscriptions.{found_kind, kind_under_deep, kinds_deep, kinds_rest_stands, next_family_found, next_kind_deep, no_kind_under, no_kinds_left, one_kind_more, whole_family_found}
use Rattle.tw_elaborate.proofs.FamilyRows.{all_family_reached, deep_family_row, family_argument_deep, family_left_deep, family_reached_next, next_family_domain, next_family_stands, next_kind_fits}
use Rattle.tw_elaborate.proofs.Unascribed.{unascribed_deep, unascribed_elaborated}
use Rattle.tw_elaborate.proofs.Taking.{keeps_same, keeps_then}
use Rattle.tw_open.proofs.Views.{open_kind_of-Pi, open_kind_of-Star}
use Rattle.tw_elaborate.proofs.terms.+elaborate.Goals as goal
use Rattle.tw_elaborate.proofs.terms.+elaborate.Goals.{infer_applied-in-Argument+in-Applied+in_ok-push_waiting-in-Applied+in_ok-begun-in-Applied, infer_applied-in-Argument+in-Free+in_ok-arg-in-Free+in_ok-begun-in-Free, infer_applied-in-Nothing+in_ok-term-in-Nothing+in_ok-outer-in-Nothing+in-Some+in_ok-compare_types-in-Some+in_ok-begun-in-Some+in-Pi-1, infer_applied-in-Nothing+in_ok-term-in-Nothing+in_ok-outer-in-Nothing+in-Some+in_ok-compare_types-in-Some+in_ok-begun-in-Some+in-Atom-1}

pub infer-returns-in_err-frames-clause-keeps : goal.infer-returns-in_err-frames-clause-keeps
infer-returns-in_err-frames-clause-keeps t c = keeps_same c.args.state.now

pub infer_ascribed-loop-rest-init : goal.infer_ascribed-loop-rest-init
infer_ascribed-loop-rest-init t c =
    let es = c.args.signature.now in
    let ns = numbers_of c.args.frees.now in
    let D = c.args.state.now.locals in
    let W = written_of c.args.written.now in
    let s = made c.args.state.now in
    (none_under es ns D (map open_type_of c.new-types.result.items) W s (ap (map open_type_of) c.new-types.ensures.items), keeps_same c.args.state.now)

pub infer_ascribed-elaborate_type-requires : goal.infer_ascribed-elaborate_type-requires
infer_ascribed-elaborate_type-requires t c =
    let es = c.args.signature.now in
    let ns = numbers_of c.args.frees.now in
    let D = c.args.state.now.locals in
    let W = written_of c.args.written.now in
    let s = made c.args.state.now in
    let l = c.loop-rest.invariant.1.locals in
    let As = map open_type_of c.loop-rest.types.items in
    let X = written_of c.loop-rest.rest.now in
    let t' = made c.loop-rest.state in
    (omega arith, (c.requires.canonical, rest_stands es ns D c.requires.canonical As W X s t' c.loop-rest.state.locals l c.loop-rest.invariant.0 c.requires.stands))

pub infer_ascribed-returns-in_err-ty-clause-too_deep : goal.infer_ascribed-returns-in_err-ty-clause-too_deep
infer_ascribed-returns-in_err-ty-clause-too_deep t c = λ is.
    let es = c.args.signature.now in
    let ns = numbers_of c.args.frees.now in
    let D = c.args.state.now.locals in
    let W = written_of c.args.written.now in
    let s = made c.args.state.now in
    let l = c.loop-rest.invariant.1.locals in
    let As = map open_type_of c.loop-rest.types.items in
    let X = written_of c.loop-rest.rest.now in
    let t' = made c.loop-rest.state in
    let U = written_type_of c.deref.result.now in
    let M = written_of c.in-Ascribed.term.value in
    let x : X ≡ ascribed M U = ap written_of c.in-Ascribed.is ∙ written_of-Ascribed c.in-Ascribed.term c.in-Ascribed.ty ∙ ap (ascribed M) (ap written_type_of (sym c.deref.ensures)) in
    type_under_deep es ns D As W X M U s t' x c.loop-rest.invariant.0 (subst (λ F. TypeDeep es ns F U t') l (c.in_err-ty.ensures.too_deep (fault_of_call c.from_residual.result c.in_err-ty.field-0.0 TooDeep (search rules) is)))

pub infer_ascribed-returns-in_err-ty-clause-keeps : goal.infer_ascribed-returns-in_err-ty-clause-keeps
infer_ascribed-returns-in_err-ty-clause-keeps t c = keeps_then c.args.state.now c.loop-rest.state c.elaborate_type.new.state c.loop-rest.invariant.1 c.elaborate_type.ensures.keeps

pub infer_ascribed-returns-in_err-push_domain-clause-keeps : goal.infer_ascribed-returns-in_err-push_domain-clause-keeps
infer_ascribed-returns-in_err-push_domain-clause-keeps t c = keeps_then c.args.state.now c.loop-rest.state c.elaborate_type.new.state c.loop-rest.invariant.1 c.elaborate_type.ensures.keeps

pub infer_ascribed-loop-rest-preserved : goal.infer_ascribed-loop-rest-preserved
infer_ascribed-loop-rest-preserved t c =
    let es = c.args.signature.now in
    let ns = numbers_of c.args.frees.now in
    let D = c.args.state.now.locals in
    let W = written_of c.args.written.now in
    let s = made c.args.state.now in
    let l = c.loop-rest.invariant.1.locals in
    let As = map open_type_of c.loop-rest.types.items in
    let X = written_of c.loop-rest.rest.now in
    let t' = made c.loop-rest.state in
    let U = written_type_of c.deref.result.now in
    let M = written_of c.deref-rest.result.now in
    let u = made c.elaborate_type.new.state in
    let A = open_type_of c.in_ok-ty.ty in
    let Bs = map open_type_of c.push_domain.new.domains.items in
    let x : X ≡ ascribed M U = ap written_of c.in-Ascribed.is ∙ written_of-Ascribed c.in-Ascribed.term c.in-Ascribed.ty ∙ ap₂ ascribed (ap written_of (sym c.deref-rest.ensures)) (ap written_type_of (sym c.deref.ensures)) in
    let b : Bs ≡ As ++ A ∷ [] = ap (map open_type_of) c.in_ok-push_domain.ensures ∙ map-append open_type_of c.loop-rest.types.items (c.in_ok-ty.ty ∷ []) in
    let i = subst (λ F. ElaboratesType es ns F U t' u A) l c.in_ok-ty.ensures.ok in
    (one_more_under es ns D As Bs W X M U s t' u A b x i c.loop-rest.invariant.0, keeps_then c.args.state.now c.loop-rest.state c.elaborate_type.new.state c.loop-rest.invariant.1 c.elaborate_type.ensures.keeps)

pub infer_ascribed-check-requires : goal.infer_ascribed-check-requires
infer_ascribed-check-requires t c =
    let es = c.args.signature.now in
    let ns = numbers_of c.args.frees.now in
    let D = c.args.state.now.locals in
    let W = written_of c.args.written.now in
    let s = made c.args.state.now in
    let l = c.loop-rest.invariant.1.locals in
    let As = map open_type_of c.loop-rest.types.items in
    let X = written_of c.loop-rest.rest.now in
    let t' = made c.loop-rest.state in
    let Ps = map open_type_of c.pop.new.self.items in
    let A = open_type_of c.in-Some.innermost in
    let p : As ≡ Ps ++ A ∷ [] = ap (map open_type_of) c.in-Some.ensures.items ∙ map-append open_type_of c.pop.new.self.items (c.in-Some.innermost ∷ []) in
    let k = last_under es ns D Ps As A W X s t' p c.loop-rest.invariant.0 in
    (omega arith, (c.requires.canonical, (innermost_stands es ns D c.requires.canonical k c.requires.stands c.loop-rest.state.locals l, innermost_type es ns D c.requires.canonical k c.requires.stands c.loop-rest.state.locals l)))

pub infer_ascribed-returns-in_err-term-clause-too_deep : goal.infer_ascribed-returns-in_err-term-clause-too_deep
infer_ascribed-returns-in_err-term-clause-too_deep t c = λ is.
    let es = c.args.signature.now in
    let ns = numbers_of c.args.frees.now in
    let D = c.args.state.now.locals in
    let W = written_of c.args.written.now in
    let s = made c.args.state.now in
    let l = c.loop-rest.invariant.1.locals in
    let As = map open_type_of c.loop-rest.types.items in
    let X = written_of c.loop-rest.rest.now in
    let t' = made c.loop-rest.state in
    let Ps = map open_type_of c.pop.new.self.items in
    let A = open_type_of c.in-Some.innermost in
    let p : As ≡ Ps ++ A ∷ [] = ap (map open_type_of) c.in-Some.ensures.items ∙ map-append open_type_of c.pop.new.self.items (c.in-Some.innermost ∷ []) in
    let k = last_under es ns D Ps As A W X s t' p c.loop-rest.invariant.0 in
    innermost_deep es ns D k (subst (λ F. ChecksDeep es ns F X A t') l (c.in_err-term.ensures.too_deep (fault_of_call c.from_residual-in_err-term.result c.in_err-term.field-0.0 TooDeep (search rules) is)))

pub infer_ascribed-returns-in_err-term-clause-keeps : goal.infer_ascribed-returns-in_err-term-clause-keeps
infer_ascribed-returns-in_err-term-clause-keeps t c = keeps_then c.args.state.now c.loop-rest.state c.check.new.state c.loop-rest.invariant.1 c.check.ensures.keeps

pub infer_ascribed-loop-expected-init : goal.infer_ascribed-loop-expected-init
infer_ascribed-loop-expected-init t c =
    let es = c.args.signature.now in
    let ns = numbers_of c.args.frees.now in
    let D = c.args.state.now.locals in
    let W = written_of c.args.written.now in
    let s = made c.args.state.now in
    let l = c.loop-rest.invariant.1.locals in
    let As = map open_type_of c.loop-rest.types.items in
    let X = written_of c.loop-rest.rest.now in
    let t' = made c.loop-rest.state in
    let Ps = map open_type_of c.pop.new.self.items in
    let A = open_type_of c.in-Some.innermost in
    let p : As ≡ Ps ++ A ∷ [] = ap (map open_type_of) c.in-Some.ensures.items ∙ map-append open_type_of c.pop.new.self.items (c.in-Some.innermost ∷ []) in
    let k = last_under es ns D Ps As A W X s t' p c.loop-rest.invariant.0 in
    let i = subst (λ F. Checks es ns F X A t' (made c.check.new.state) (open_term_of c.in_ok-term.term)) l c.in_ok-term.ensures.ok in
    (first_found es ns D k i, keeps_then c.args.state.now c.loop-rest.state c.check.new.state c.loop-rest.invariant.1 c.check.ensures.keeps)

pub infer_ascribed-compare_types-requires-clause-found : goal.infer_ascribed-compare_types-requires-clause-found
infer_ascribed-compare_types-requires-clause-found t c =
    let es = c.args.signature.now in
    let ns = numbers_of c.args.frees.now in
    let D = c.args.state.now.locals in
    let f = c.loop-expected.invariant.0 in
    inferred_type es c.requires.canonical ns (found_stands es ns D c.requires.canonical f c.requires.stands) f.inferred c.loop-expected.state.locals c.loop-expected.invariant.1.locals

pub infer_ascribed-returns-in_err-compare_types-clause-too_deep : goal.infer_ascribed-returns-in_err-compare_types-clause-too_deep
infer_ascribed-returns-in_err-compare_types-clause-too_deep t c = λ is.
    let es = c.args.signature.now in
    let ns = numbers_of c.args.frees.now in
    let D = c.args.state.now.locals in
    let f = c.loop-expected.invariant.0 in
    let Ps = map open_type_of c.pop-in-loop-expected.new.self.items in
    let B = open_type_of c.in-Some-pop.expected in
    let p : map open_type_of c.loop-expected.types.items ≡ Ps ++ B ∷ [] = ap (map open_type_of) c.in-Some-pop.ensures.items ∙ map-append open_type_of c.pop-in-loop-expected.new.self.items (c.in-Some-pop.expected ∷ []) in
    let h = c.in_err-compare_types.ensures.too_deep (fault_of_call c.from_residual-in_err-compare_types.result c.in_err-compare_types.field-0.0 TooDeep (search rules) is) in
    next_type_deep es ns D Ps B f p (deep_compared f.is_inferred f.inferred h)

pub infer_ascribed-returns-in_err-compare_types-clause-keeps : goal.infer_ascribed-returns-in_err-compare_types-clause-keeps
infer_ascribed-returns-in_err-compare_types-clause-keeps t c = keeps_then c.args.state.now c.loop-expected.state c.compare_types.new.state c.loop-expected.invariant.1 c.compare_types.ensures.keeps

pub infer_ascribed-loop-expected-preserved : goal.infer_ascribed-loop-expected-preserved
infer_ascribed-loop-expected-preserved t c =
    let es = c.args.signature.now in
    let ns = numbers_of c.args.frees.now in
    let D = c.args.state.now.locals in
    let f = c.loop-expected.invariant.0 in
    let Ps = map open_type_of c.pop-in-loop-expected.new.self.items in
    let B = open_type_of c.in-Some-pop.expected in
    let p : map open_type_of c.loop-expected.types.items ≡ Ps ++ B ∷ [] = ap (map open_type_of) c.in-Some-pop.ensures.items ∙ map-append open_type_of c.pop-in-loop-expected.new.self.items (c.in-Some-pop.expected ∷ []) in
    let i = inferred_checked es ns D f.whole _ (open_type_of c.loop-expected.found) B f.begin c.loop-expected.state c.compare_types.new.state f.is_inferred c.loop-expected.invariant.1.locals f.inferred c.in_ok-compare_types.ensures.ok in
    (next_found_type es ns D Ps B f p i, keeps_then c.args.state.now c.loop-expected.state c.compare_types.new.state c.loop-expected.invariant.1 c.compare_types.ensures.keeps)

pub infer_ascribed-returns-clause-ok : goal.infer_ascribed-returns-clause-ok
infer_ascribed-returns-clause-ok t c =
    whole_found c.args.signature.now (numbers_of c.args.frees.now) c.args.state.now.locals (no_types_left c.loop-expected.types.items (omega (arith, c.in_default-pop-2.ensures.cases))) c.loop-expected.invariant.0

pub infer_ascribed-returns-clause-keeps : goal.infer_ascribed-returns-clause-keeps
infer_ascribed-returns-clause-keeps t c = c.loop-expected.invariant.1

pub infer-returns-in-Hole-clause-ok : goal.infer-returns-in-Hole-clause-ok
infer-returns-in-Hole-clause-ok t c =
    let v = ap written_of c.in-Hole.is ∙ written_of-Hole c.in-Hole.skeleton c.in-Hole.field-1 in
    if_ok c.term_hole.result _ _ (λ p j. subst (λ W. Infers c.args.signature.now (numbers_of c.args.frees.now) c.args.state.now.locals W (made c.args.state.now) (made c.term_hole.new.state) (open_term_of p.0) (open_type_of p.1)) (sym v) (j (numbers_of c.args.frees.now) (place_of c.in-Hole.field-1))) c.term_hole.ensures.ok

pub infer-returns-in-Hole-clause-too_deep : goal.infer-returns-in-Hole-clause-too_deep
infer-returns-in-Hole-clause-too_deep t c = λ is.
    let v = ap written_of c.in-Hole.is ∙ written_of-Hole c.in-Hole.skeleton c.in-Hole.field-1 in
    subst (λ W. InfersDeep c.args.signature.now (numbers_of c.args.frees.now) c.args.state.now.locals W (made c.args.state.now)) (sym v) (deep_hole (c.term_hole.ensures.too_deep is))

pub infer-returns-in-Function-clause-ok : goal.infer-returns-in-Function-clause-ok
infer-returns-in-Function-clause-ok t c =
    let v = ap written_of c.in-Function.is ∙ written_of-Function c.in-Function.domain c.in-Function.body ∙ ap (function (written_domain_of c.in-Function.domain)) (ap written_of (sym c.deref.ensures)) in
    subst (λ W. IfOk c.infer_function.result (λ p. Infers c.args.signature.now (numbers_of c.args.frees.now) c.args.state.now.locals W (made c.args.state.now) (made c.infer_function.new.state) (open_term_of p.0) (open_type_of p.1))) (sym v) c.infer_function.ensures.ok

pub infer-returns-in-Function-clause-too_deep : goal.infer-returns-in-Function-clause-too_deep
infer-returns-in-Function-clause-too_deep t c = λ is.
    let v = ap written_of c.in-Function.is ∙ written_of-Function c.in-Function.domain c.in-Function.body ∙ ap (function (written_domain_of c.in-Function.domain)) (ap written_of (sym c.deref.ensures)) in
    subst (λ W. InfersDeep c.args.signature.now (numbers_of c.args.frees.now) c.args.state.now.locals W (made c.args.state.now)) (sym v) (c.infer_function.ensures.too_deep is)

pub infer_function-returns-in_err-domain-clause-too_deep : goal.infer_function-returns-in_err-domain-clause-too_deep
infer_function-returns-in_err-domain-clause-too_deep t c = λ is.
    let f = fault_of_call c.from_residual.result c.in_err-domain.field-0.0 TooDeep (search rules) is in
    deep_domain (c.in_err-domain.ensures.left_out f) (c.in_err-domain.ensures.too_deep f)

pub infer_function-infer-inferred-requires : goal.infer_function-infer-inferred-requires
infer_function-infer-inferred-requires t c =
    let l = c.lambda_domain.ensures.keeps.locals in
    let i = c.in_ok-domain.ensures.ok in
    let e : c.push.new.self ≡ (open_type_of c.in_ok-domain.domain) ∷ c.args.state.now.locals = in_scope c.args.state.now.locals c.push.new.self c.lambda_domain.new.state.locals (open_type_of c.in_ok-domain.domain) (open_type_of c.in_ok-copy.field-0) c.in_ok-push.ensures.ok c.in_ok-copy.ensures l in
    (omega arith, (c.requires.canonical, domain_under c.args.signature.now c.requires.canonical (numbers_of c.args.frees.now) c.requires.stands i c.push.new.self e))

pub infer_function-returns-in_err-body-clause-too_deep : goal.infer_function-returns-in_err-body-clause-too_deep
infer_function-returns-in_err-body-clause-too_deep t c = λ is.
    let l = c.lambda_domain.ensures.keeps.locals in
    let i = c.in_ok-domain.ensures.ok in
    let e : c.push.new.self ≡ (open_type_of c.in_ok-domain.domain) ∷ c.args.state.now.locals = in_scope c.args.state.now.locals c.push.new.self c.lambda_domain.new.state.locals (open_type_of c.in_ok-domain.domain) (open_type_of c.in_ok-copy.field-0) c.in_ok-push.ensures.ok c.in_ok-copy.ensures l in
    deep_body i (subst (λ F. InfersDeep c.args.signature.now (numbers_of c.args.frees.now) F (written_of c.args.body.now) (made c.lambda_domain.new.state)) e (c.in_err-body.ensures.too_deep (fault_of_call c.from_residual-in_err-body.result c.in_err-body.field-0.0 TooDeep (search rules) is)))

pub infer_function-returns-in_err-body-clause-keeps : goal.infer_function-returns-in_err-body-clause-keeps
infer_function-returns-in_err-body-clause-keeps t c =
    let p : c.push.new.self ≡ (open_type_of c.in_ok-domain.domain) ∷ c.lambda_domain.new.state.locals = in_scope c.lambda_domain.new.state.locals c.push.new.self c.lambda_domain.new.state.locals (open_type_of c.in_ok-domain.domain) (open_type_of c.in_ok-copy.field-0) c.in_ok-push.ensures.ok c.in_ok-copy.ensures refl in
    keeps_under (open_type_of c.in_ok-domain.domain) c.lambda_domain.ensures.keeps p refl c.infer-inferred.ensures.keeps c.pop.ensures.rest refl

pub infer_function-returns-in_err-function-clause-keeps : goal.infer_function-returns-in_err-function-clause-keeps
infer_function-returns-in_err-function-clause-keeps t c =
    let p : c.push.new.self ≡ (open_type_of c.in_ok-domain.domain) ∷ c.lambda_domain.new.state.locals = in_scope c.lambda_domain.new.state.locals c.push.new.self c.lambda_domain.new.state.locals (open_type_of c.in_ok-domain.domain) (open_type_of c.in_ok-copy.field-0) c.in_ok-push.ensures.ok c.in_ok-copy.ensures refl in
    keeps_under (open_type_of c.in_ok-domain.domain) c.lambda_domain.ensures.keeps p refl c.infer-inferred.ensures.keeps c.pop.ensures.rest refl

pub infer_function-returns-clause-keeps : goal.infer_function-returns-clause-keeps
infer_function-returns-clause-keeps t c =
    let p : c.push.new.self ≡ (open_type_of c.in_ok-domain.domain) ∷ c.lambda_domain.new.state.locals = in_scope c.lambda_domain.new.state.locals c.push.new.self c.lambda_domain.new.state.locals (open_type_of c.in_ok-domain.domain) (open_type_of c.in_ok-copy.field-0) c.in_ok-push.ensures.ok c.in_ok-copy.ensures refl in
    keeps_under (open_type_of c.in_ok-domain.domain) c.lambda_domain.ensures.keeps p refl c.infer-inferred.ensures.keeps c.pop.ensures.rest refl

pub infer_function-returns-clause-ok : goal.infer_function-returns-clause-ok
infer_function-returns-clause-ok t c =
    let l = c.lambda_domain.ensures.keeps.locals in
    let i = c.in_ok-domain.ensures.ok in
    let e : c.push.new.self ≡ (open_type_of c.in_ok-domain.domain) ∷ c.args.state.now.locals = in_scope c.args.state.now.locals c.push.new.self c.lambda_domain.new.state.locals (open_type_of c.in_ok-domain.domain) (open_type_of c.in_ok-copy.field-0) c.in_ok-push.ensures.ok c.in_ok-copy.ensures l in
    function_inferred c.args.signature.now (numbers_of c.args.frees.now) c.args.state.now.locals c.push.new.self (written_domain_of c.args.domain.now) (written_of c.args.body.now) (made c.args.state.now) (made c.lambda_domain.new.state) (made c.infer-inferred.new.state) (open_type_of c.in_ok-domain.domain) (open_type_of c.in_ok-domain.domain) (open_type_of c.in_ok-body.range) _ (open_term_of c.in_ok-body.body) _ e refl c.in_ok-function.ensures.0 c.in_ok-function.ensures.1 i c.in_ok-body.ensures.ok

pub elaborate_type-returns-clause-ok : goal.elaborate_type-returns-clause-ok
elaborate_type-returns-clause-ok t c = if_ok c.elaborate_bare_type.result _ _ (λ a j. unascribed_elaborated c.args.signature.now (numbers_of c.args.frees.now) c.args.state.now.locals c.unascribed-bare.ensures j) c.elaborate_bare_type.ensures.ok

pub elaborate_type-returns-clause-too_deep : goal.elaborate_type-returns-clause-too_deep
elaborate_type-returns-clause-too_deep t c = λ is. unascribed_deep c.args.signature.now (numbers_of c.args.frees.now) c.args.state.now.locals c.unascribed-bare.ensures (c.elaborate_bare_type.ensures.too_deep is)

pub elaborate_bare_type-returns-in-Ascribed-clause-keeps : goal.elaborate_bare_type-returns-in-Ascribed-clause-keeps
elaborate_bare_type-returns-in-Ascribed-clause-keeps t c = keeps_same c.args.state.now

pub elaborate_bare_type-returns-in_err-frames-clause-keeps : goal.elaborate_bare_type-returns-in_err-frames-clause-keeps
elaborate_bare_type-returns-in_err-frames-clause-keeps t c = keeps_same c.args.state.now

pub elaborate_bare_type-returns-in-Quantified-clause-ok : goal.elaborate_bare_type-returns-in-Quantified-clause-ok
elaborate_bare_type-returns-in-Quantified-clause-ok t c =
    let v = ap written_type_of c.in-Quantified.is ∙ written_type_of-Quantified c.in-Quantified.domain c.in-Quantified.range ∙ ap (quantified (written_domain_of c.in-Quantified.domain)) (ap written_type_of (sym c.deref.ensures)) in
    subst (λ W. IfOk c.elaborate_quantified.result (λ a. ElaboratesType c.args.signature.now (numbers_of c.args.frees.now) c.args.state.now.locals W (made c.args.state.now) (made c.elaborate_quantified.new.state) (open_type_of a))) (sym v) c.elaborate_quantified.ensures.ok

pub elaborate_bare_type-returns-in-Quantified-clause-too_deep : goal.elaborate_bare_type-returns-in-Quantified-clause-too_deep
elaborate_bare_type-returns-in-Quantified-clause-too_deep t c = λ is.
    let v = ap written_type_of c.in-Quantified.is ∙ written_type_of-Quantified c.in-Quantified.domain c.in-Quantified.range ∙ ap (quantified (written_domain_of c.in-Quantified.domain)) (ap written_type_of (sym c.deref.ensures)) in
    subst (λ W. TypeDeep c.args.signature.now (numbers_of c.args.frees.now) c.args.state.now.locals W (made c.args.state.now)) (sym v) (c.elaborate_quantified.ensures.too_deep is)

pub elaborate_quantified-returns-in_err-domain-clause-too_deep : goal.elaborate_quantified-returns-in_err-domain-clause-too_deep
elaborate_quantified-returns-in_err-domain-clause-too_deep t c = λ is.
    deep_quantified_domain (c.in_err-domain.ensures.too_deep (fault_of_call c.from_residual.result c.in_err-domain.field-0.0 TooDeep (search rules) is))

pub elaborate_quantified-elaborate_type-range-requires : goal.elaborate_quantified-elaborate_type-range-requires
elaborate_quantified-elaborate_type-range-requires t c =
    let l = c.elaborate_domain.ensures.keeps.locals in
    let i = c.in_ok-domain.ensures.ok in
    let e : c.push.new.self ≡ (open_type_of c.in_ok-domain.domain) ∷ c.args.state.now.locals = in_scope c.args.state.now.locals c.push.new.self c.elaborate_domain.new.state.locals (open_type_of c.in_ok-domain.domain) (open_type_of c.in_ok-copy.field-0) c.in_ok-push.ensures.ok c.in_ok-copy.ensures l in
    (omega arith, (c.requires.canonical, domain_under c.args.signature.now c.requires.canonical (numbers_of c.args.frees.now) c.requires.stands i c.push.new.self e))

pub elaborate_quantified-returns-in_err-range-clause-too_deep : goal.elaborate_quantified-returns-in_err-range-clause-too_deep
elaborate_quantified-returns-in_err-range-clause-too_deep t c = λ is.
    let l = c.elaborate_domain.ensures.keeps.locals in
    let i = c.in_ok-domain.ensures.ok in
    let e : c.push.new.self ≡ (open_type_of c.in_ok-domain.domain) ∷ c.args.state.now.locals = in_scope c.args.state.now.locals c.push.new.self c.elaborate_domain.new.state.locals (open_type_of c.in_ok-domain.domain) (open_type_of c.in_ok-copy.field-0) c.in_ok-push.ensures.ok c.in_ok-copy.ensures l in
    deep_quantified_range i (subst (λ F. TypeDeep c.args.signature.now (numbers_of c.args.frees.now) F (written_type_of c.args.range.now) (made c.elaborate_domain.new.state)) e (c.in_err-range.ensures.too_deep (fault_of_call c.from_residual-in_err-range.result c.in_err-range.field-0.0 TooDeep (search rules) is)))

pub elaborate_quantified-returns-in_err-range-clause-keeps : goal.elaborate_quantified-returns-in_err-range-clause-keeps
elaborate_quantified-returns-in_err-range-clause-keeps t c =
    let p : c.push.new.self ≡ (open_type_of c.in_ok-domain.domain) ∷ c.elaborate_domain.new.state.locals = in_scope c.elaborate_domain.new.state.locals c.push.new.self c.elaborate_domain.new.state.locals (open_type_of c.in_ok-domain.domain) (open_type_of c.in_ok-copy.field-0) c.in_ok-push.ensures.ok c.in_ok-copy.ensures refl in
    keeps_under (open_type_of c.in_ok-domain.domain) c.elaborate_domain.ensures.keeps p refl c.elaborate_type-range.ensures.keeps c.pop.ensures.rest refl

pub elaborate_quantified-returns-in_err-pi-clause-keeps : goal.elaborate_quantified-returns-in_err-pi-clause-keeps
elaborate_quantified-returns-in_err-pi-clause-keeps t c =
    let p : c.push.new.self ≡ (open_type_of c.in_ok-domain.domain) ∷ c.elaborate_domain.new.state.locals = in_scope c.elaborate_domain.new.state.locals c.push.new.self c.elaborate_domain.new.state.locals (open_type_of c.in_ok-domain.domain) (open_type_of c.in_ok-copy.field-0) c.in_ok-push.ensures.ok c.in_ok-copy.ensures refl in
    keeps_under (open_type_of c.in_ok-domain.domain) c.elaborate_domain.ensures.keeps p refl c.elaborate_type-range.ensures.keeps c.pop.ensures.rest refl

pub elaborate_quantified-returns-clause-keeps : goal.elaborate_quantified-returns-clause-keeps
elaborate_quantified-returns-clause-keeps t c =
    let p : c.push.new.self ≡ (open_type_of c.in_ok-domain.domain) ∷ c.elaborate_domain.new.state.locals = in_scope c.elaborate_domain.new.state.locals c.push.new.self c.elaborate_domain.new.state.locals (open_type_of c.in_ok-domain.domain) (open_type_of c.in_ok-copy.field-0) c.in_ok-push.ensures.ok c.in_ok-copy.ensures refl in
    keeps_under (open_type_of c.in_ok-domain.domain) c.elaborate_domain.ensures.keeps p refl c.elaborate_type-range.ensures.keeps c.pop.ensures.rest refl

pub elaborate_quantified-returns-clause-ok : goal.elaborate_quantified-returns-clause-ok
elaborate_quantified-returns-clause-ok t c =
    let l = c.elaborate_domain.ensures.keeps.locals in
    let i = c.in_ok-domain.ensures.ok in
    let e : c.push.new.self ≡ (open_type_of c.in_ok-domain.domain) ∷ c.args.state.now.locals = in_scope c.args.state.now.locals c.push.new.self c.elaborate_domain.new.state.locals (open_type_of c.in_ok-domain.domain) (open_type_of c.in_ok-copy.field-0) c.in_ok-push.ensures.ok c.in_ok-copy.ensures l in
    quantified_elaborated c.args.signature.now (numbers_of c.args.frees.now) c.args.state.now.locals c.push.new.self (written_domain_of c.args.domain.now) (written_type_of c.args.range.now) (made c.args.state.now) (made c.elaborate_domain.new.state) (made c.elaborate_type-range.new.state) (open_type_of c.in_ok-domain.domain) (open_type_of c.in_ok-range.field-0) _ e c.in_ok-pi.ensures i c.in_ok-range.ensures.ok

pub elaborate_bare_type-returns-in_err-family-in-Family-clause-too_deep : goal.elaborate_bare_type-returns-in_err-family-in-Family-clause-too_deep
elaborate_bare_type-returns-in_err-family-in-Family-clause-too_deep t c = λ is. deep_family (c.in_err-family-in-Family.ensures.too_deep (fault_of_call c.from_residual-in_err-family-in-Family.result c.in_err-family-in-Family.field-0.0 TooDeep (search rules) is))

pub elaborate_bare_type-returns-in-Hole-clause-ok : goal.elaborate_bare_type-returns-in-Hole-clause-ok
elaborate_bare_type-returns-in-Hole-clause-ok t c =
    let v = ap written_type_of c.in-Hole.is ∙ written_type_of-Hole c.in-Hole.skeleton c.in-Hole.field-1 in
    if_ok c.new_type.result _ _ (λ a j. subst (λ W. ElaboratesType c.args.signature.now (numbers_of c.args.frees.now) c.args.state.now.locals W (made c.args.state.now) (made c.new_type.new.state) (open_type_of a)) (sym v) (at_type_hole j)) c.new_type.ensures.ok

pub elaborate_bare_type-returns-in-Hole-clause-too_deep : goal.elaborate_bare_type-returns-in-Hole-clause-too_deep
elaborate_bare_type-returns-in-Hole-clause-too_deep t c = λ is.
    let v = ap written_type_of c.in-Hole.is ∙ written_type_of-Hole c.in-Hole.skeleton c.in-Hole.field-1 in
    subst (λ W. TypeDeep c.args.signature.now (numbers_of c.args.frees.now) c.args.state.now.locals W (made c.args.state.now)) (sym v) (deep_type_hole (c.new_type.ensures.too_deep is))

pub elaborate_bare_type-returns-in-Star-clause-ok : goal.elaborate_bare_type-returns-in-Star-clause-ok
elaborate_bare_type-returns-in-Star-clause-ok t c = family_elaborated c.args.signature.now (numbers_of c.args.frees.now) c.args.state.now.locals (written_type_of c.args.written.now) (made c.args.state.now) (made c.elaborate_family.new.state) c.in_ok-family-in-Family.family.0 (open_spine_of c.in_ok-family-in-Family.spine) (open_kind_of c.in_ok-family-in-Family.kind) _ (ap open_kind_of c.in-Star.is ∙ open_kind_of-Star) (open_type_of-Atom c.in_ok-family-in-Family.family c.in_ok-family-in-Family.spine) c.in_ok-family-in-Family.ensures.ok

pub elaborate_kind-returns-in_err-frames-clause-keeps : goal.elaborate_kind-returns-in_err-frames-clause-keeps
elaborate_kind-returns-in_err-frames-clause-keeps t c = keeps_same c.args.state.now

pub elaborate_kind-returns-in-Star-clause-keeps : goal.elaborate_kind-returns-in-Star-clause-keeps
elaborate_kind-returns-in-Star-clause-keeps t c = keeps_same c.args.state.now

pub elaborate_kind-returns-in-Star-clause-ok : goal.elaborate_kind-returns-in-Star-clause-ok
elaborate_kind-returns-in-Star-clause-ok t c =
    let v = ap written_kind_of c.in-Star.is ∙ written_kind_of-Star in
    subst (λ W. ElaboratesKind c.args.signature.now (numbers_of c.args.frees.now) c.args.state.now.locals W (made c.args.state.now) (made c.args.state.now) (open_kind_of OpenKind-Star)) (sym v) (subst (ElaboratesKind c.args.signature.now (numbers_of c.args.frees.now) c.args.state.now.locals written_star (made c.args.state.now) (made c.args.state.now)) (sym open_kind_of-Star) at_star)

pub elaborate_kind-returns-in_err-domain-in-Quantified-clause-too_deep : goal.elaborate_kind-returns-in_err-domain-in-Quantified-clause-too_deep
elaborate_kind-returns-in_err-domain-in-Quantified-clause-too_deep t c = λ is.
    let v = ap written_kind_of c.in-Quantified.is ∙ written_kind_of-Quantified c.in-Quantified.domain c.in-Quantified.range in
    subst (λ W. KindDeep c.args.signature.now (numbers_of c.args.frees.now) c.args.state.now.locals W (made c.args.state.now)) (sym v) (deep_quantified_kind_domain (c.in_err-domain-in-Quantified.ensures.too_deep (fault_of_call c.from_residual-in_err-domain-in-Quantified.result c.in_err-domain-in-Quantified.field-0.0 TooDeep (search rules) is)))

pub elaborate_kind-elaborate_kind-range-requires : goal.elaborate_kind-elaborate_kind-range-requires
elaborate_kind-elaborate_kind-range-requires t c =
    let l = c.elaborate_domain.ensures.keeps.locals in
    let i = c.in_ok-domain-in-Quantified.ensures.ok in
    let e : c.push.new.self ≡ (open_type_of c.in_ok-domain-in-Quantified.domain) ∷ c.args.state.now.locals = in_scope c.args.state.now.locals c.push.new.self c.elaborate_domain.new.state.locals (open_type_of c.in_ok-domain-in-Quantified.domain) (open_type_of c.in_ok-copy-in-Quantified.field-0) c.in_ok-push-in-Quantified.ensures.ok c.in_ok-copy-in-Quantified.ensures l in
    (omega arith, (c.requires.canonical, domain_under c.args.signature.now c.requires.canonical (numbers_of c.args.frees.now) c.requires.stands i c.push.new.self e))

pub elaborate_kind-returns-in_err-range-in-Quantified-clause-too_deep : goal.elaborate_kind-returns-in_err-range-in-Quantified-clause-too_deep
elaborate_kind-returns-in_err-range-in-Quantified-clause-too_deep t c = λ is.
    let v = ap written_kind_of c.in-Quantified.is ∙ written_kind_of-Quantified c.in-Quantified.domain c.in-Quantified.range ∙ ap (kind_quantified (written_domain_of c.in-Quantified.domain)) (ap written_kind_of (sym c.deref.ensures)) in
    let l = c.elaborate_domain.ensures.keeps.locals in
    let i = c.in_ok-domain-in-Quantified.ensures.ok in
    let e : c.push.new.self ≡ (open_type_of c.in_ok-domain-in-Quantified.domain) ∷ c.args.state.now.locals = in_scope c.args.state.now.locals c.push.new.self c.elaborate_domain.new.state.locals (open_type_of c.in_ok-domain-in-Quantified.domain) (open_type_of c.in_ok-copy-in-Quantified.field-0) c.in_ok-push-in-Quantified.ensures.ok c.in_ok-copy-in-Quantified.ensures l in
    subst (λ W. KindDeep c.args.signature.now (numbers_of c.args.frees.now) c.args.state.now.locals W (made c.args.state.now)) (sym v) (deep_quantified_kind_range i (subst (λ F. KindDeep c.args.signature.now (numbers_of c.args.frees.now) F (written_kind_of c.deref.result.now) (made c.elaborate_domain.new.state)) e (c.in_err-range-in-Quantified.ensures.too_deep (fault_of_call c.from_residual-in_err-range-in-Quantified.result c.in_err-range-in-Quantified.field-0.0 TooDeep (search rules) is))))

pub elaborate_kind-returns-in_err-range-in-Quantified-clause-keeps : goal.elaborate_kind-returns-in_err-range-in-Quantified-clause-keeps
elaborate_kind-returns-in_err-range-in-Quantified-clause-keeps t c =
    let p : c.push.new.self ≡ (open_type_of c.in_ok-domain-in-Quantified.domain) ∷ c.elaborate_domain.new.state.locals = in_scope c.elaborate_domain.new.state.locals c.push.new.self c.elaborate_domain.new.state.locals (open_type_of c.in_ok-domain-in-Quantified.domain) (open_type_of c.in_ok-copy-in-Quantified.field-0) c.in_ok-push-in-Quantified.ensures.ok c.in_ok-copy-in-Quantified.ensures refl in
    keeps_under (open_type_of c.in_ok-domain-in-Quantified.domain) c.elaborate_domain.ensures.keeps p refl c.elaborate_kind-range.ensures.keeps c.pop.ensures.rest refl

pub elaborate_kind-returns-in_err-kind_pi-in-Quantified-clause-keeps : goal.elaborate_kind-returns-in_err-kind_pi-in-Quantified-clause-keeps
elaborate_kind-returns-in_err-kind_pi-in-Quantified-clause-keeps t c =
    let p : c.push.new.self ≡ (open_type_of c.in_ok-domain-in-Quantified.domain) ∷ c.elaborate_domain.new.state.locals = in_scope c.elaborate_domain.new.state.locals c.push.new.self c.elaborate_domain.new.state.locals (open_type_of c.in_ok-domain-in-Quantified.domain) (open_type_of c.in_ok-copy-in-Quantified.field-0) c.in_ok-push-in-Quantified.ensures.ok c.in_ok-copy-in-Quantified.ensures refl in
    keeps_under (open_type_of c.in_ok-domain-in-Quantified.domain) c.elaborate_domain.ensures.keeps p refl c.elaborate_kind-range.ensures.keeps c.pop.ensures.rest refl

pub elaborate_kind-returns-in_ok-kind_pi-in-Quantified-clause-keeps : goal.elaborate_kind-returns-in_ok-kind_pi-in-Quantified-clause-keeps
elaborate_kind-returns-in_ok-kind_pi-in-Quantified-clause-keeps t c =
    let p : c.push.new.self ≡ (open_type_of c.in_ok-domain-in-Quantified.domain) ∷ c.elaborate_domain.new.state.locals = in_scope c.elaborate_domain.new.state.locals c.push.new.self c.elaborate_domain.new.state.locals (open_type_of c.in_ok-domain-in-Quantified.domain) (open_type_of c.in_ok-copy-in-Quantified.field-0) c.in_ok-push-in-Quantified.ensures.ok c.in_ok-copy-in-Quantified.ensures refl in
    keeps_under (open_type_of c.in_ok-domain-in-Quantified.domain) c.elaborate_domain.ensures.keeps p refl c.elaborate_kind-range.ensures.keeps c.pop.ensures.rest refl

pub elaborate_kind-returns-in_ok-kind_pi-in-Quantified-clause-ok : goal.elaborate_kind-returns-in_ok-kind_pi-in-Quantified-clause-ok
elaborate_kind-returns-in_ok-kind_pi-in-Quantified-clause-ok t c =
    let v = ap written_kind_of c.in-Quantified.is ∙ written_kind_of-Quantified c.in-Quantified.domain c.in-Quantified.range ∙ ap (kind_quantified (written_domain_of c.in-Quantified.domain)) (ap written_kind_of (sym c.deref.ensures)) in
    let l = c.elaborate_domain.ensures.keeps.locals in
    let i = c.in_ok-domain-in-Quantified.ensures.ok in
    let e : c.push.new.self ≡ (open_type_of c.in_ok-domain-in-Quantified.domain) ∷ c.args.state.now.locals = in_scope c.args.state.now.locals c.push.new.self c.elaborate_domain.new.state.locals (open_type_of c.in_ok-domain-in-Quantified.domain) (open_type_of c.in_ok-copy-in-Quantified.field-0) c.in_ok-push-in-Quantified.ensures.ok c.in_ok-copy-in-Quantified.ensures l in
    subst (λ W. ElaboratesKind c.args.signature.now (numbers_of c.args.frees.now) c.args.state.now.locals W (made c.args.state.now) (made c.elaborate_kind-range.new.state) (open_kind_of c.in_ok-kind_pi-in-Quantified.field-0)) (sym v) (kind_quantified_elaborated c.args.signature.now (numbers_of c.args.frees.now) c.args.state.now.locals c.push.new.self (written_domain_of c.in-Quantified.domain) (written_kind_of c.deref.result.now) (made c.args.state.now) (made c.elaborate_domain.new.state) (made c.elaborate_kind-range.new.state) (open_type_of c.in_ok-domain-in-Quantified.domain) (open_kind_of c.in_ok-range-in-Quantified.field-0) _ e c.in_ok-kind_pi-in-Quantified.ensures i c.in_ok-range-in-Quantified.ensures.ok)

pub elaborate_domain-returns-in_err-frames-clause-keeps : goal.elaborate_domain-returns-in_err-frames-clause-keeps
elaborate_domain-returns-in_err-frames-clause-keeps t c = keeps_same c.args.state.now

pub elaborate_domain-returns-in-OfSkeleton-clause-ok : goal.elaborate_domain-returns-in-OfSkeleton-clause-ok
elaborate_domain-returns-in-OfSkeleton-clause-ok t c =
    let v = ap written_domain_of c.in-OfSkeleton.is ∙ written_domain_of-OfSkeleton c.in-OfSkeleton.skeleton c.in-OfSkeleton.field-1 in
    if_ok c.new_type.result _ _ (λ a j. subst (λ W. ElaboratesDomain c.args.signature.now (numbers_of c.args.frees.now) c.args.state.now.locals W (made c.args.state.now) (made c.new_type.new.state) (open_type_of a)) (sym v) (at_of_skeleton j)) c.new_type.ensures.ok

pub elaborate_domain-returns-in-OfSkeleton-clause-too_deep : goal.elaborate_domain-returns-in-OfSkeleton-clause-too_deep
elaborate_domain-returns-in-OfSkeleton-clause-too_deep t c = λ is.
    let v = ap written_domain_of c.in-OfSkeleton.is ∙ written_domain_of-OfSkeleton c.in-OfSkeleton.skeleton c.in-OfSkeleton.field-1 in
    subst (λ W. DomainDeep c.args.signature.now (numbers_of c.args.frees.now) c.args.state.now.locals W (made c.args.state.now)) (sym v) (deep_new_domain (c.new_type.ensures.too_deep is))

pub elaborate_domain-returns-in-OfType-clause-ok : goal.elaborate_domain-returns-in-OfType-clause-ok
elaborate_domain-returns-in-OfType-clause-ok t c =
    let v = ap written_domain_of c.in-OfType.is ∙ written_domain_of-OfType c.in-OfType.ty ∙ ap of_type (ap written_type_of (sym c.deref.ensures)) in
    if_ok c.elaborate_type.result _ _ (λ a j. subst (λ W. ElaboratesDomain c.args.signature.now (numbers_of c.args.frees.now) c.args.state.now.locals W (made c.args.state.now) (made c.elaborate_type.new.state) (open_type_of a)) (sym v) (at_of_type j)) c.elaborate_type.ensures.ok

pub elaborate_domain-returns-in-OfType-clause-too_deep : goal.elaborate_domain-returns-in-OfType-clause-too_deep
elaborate_domain-returns-in-OfType-clause-too_deep t c = λ is.
    let v = ap written_domain_of c.in-OfType.is ∙ written_domain_of-OfType c.in-OfType.ty ∙ ap of_type (ap written_type_of (sym c.deref.ensures)) in
    subst (λ W. DomainDeep c.args.signature.now (numbers_of c.args.frees.now) c.args.state.now.locals W (made c.args.state.now)) (sym v) (deep_written_domain (c.elaborate_type.ensures.too_deep is))

pub elaborate_family-returns-in_err-frames-clause-keeps : goal.elaborate_family-returns-in_err-frames-clause-keeps
elaborate_family-returns-in_err-frames-clause-keeps t c = keeps_same c.args.state.now

pub elaborate_family_head-returns-in-Hole-clause-keeps : goal.elaborate_family_head-returns-in-Hole-clause-keeps
elaborate_family_head-returns-in-Hole-clause-keeps t c = keeps_same c.args.state.now

pub elaborate_family_head-returns-in_ok-spine-in-Family-clause-ok : goal.elaborate_family_head-returns-in_ok-spine-in-Family-clause-ok
elaborate_family_head-returns-in_ok-spine-in-Family-clause-ok t c =
    let v = ap written_type_of c.in-Family.is ∙ written_type_of-Family c.in-Family.id c.in-Family.field-1 in
    subst (λ W. ElaboratesFamily c.args.signature.now (numbers_of c.args.frees.now) c.args.state.now.locals W (made c.args.state.now) (made c.named_family.new.state) c.in-Family.id.0 (open_spine_of c.in_ok-spine-in-Family.spine) (open_kind_of c.in_ok-spine-in-Family.kind)) (sym v) (c.in_ok-spine-in-Family.ensures.ok (numbers_of c.args.frees.now) (place_of c.in-Family.field-1))

pub elaborate_family_head-returns-in_err-spine-in-Family-clause-too_deep : goal.elaborate_family_head-returns-in_err-spine-in-Family-clause-too_deep
elaborate_family_head-returns-in_err-spine-in-Family-clause-too_deep t c = λ is.
    let v = ap written_type_of c.in-Family.is ∙ written_type_of-Family c.in-Family.id c.in-Family.field-1 in
    subst (λ W. FamilyDeep c.args.signature.now (numbers_of c.args.frees.now) c.args.state.now.locals W (made c.args.state.now)) (sym v) (c.in_err-spine-in-Family.ensures.too_deep (fault_of_call c.from_residual.result c.in_err-spine-in-Family.field-0.0 TooDeep (search rules) is) (numbers_of c.args.frees.now) (place_of c.in-Family.field-1))

pub elaborate_family-returns-in_err-head-clause-keeps : goal.elaborate_family-returns-in_err-head-clause-keeps
elaborate_family-returns-in_err-head-clause-keeps t c = keeps_same c.args.state.now

pub elaborate_family-returns-in_err-family-clause-too_deep : goal.elaborate_family-returns-in_err-family-clause-too_deep
elaborate_family-returns-in_err-family-clause-too_deep t c = λ is.
    let es = c.args.signature.now in
    let ns = numbers_of c.args.frees.now in
    let D = c.args.state.now.locals in
    let s = made c.args.state.now in
    subst (λ F. FamilyDeep es ns D F s) c.in_ok-head.ensures (deep_family_row es ns D (written_type_of c.in_ok-head.head.now) s (written_terms c.in_ok-head.args.items) (c.in_err-family.ensures.too_deep (fault_of_call c.from_residual-in_err-family.result c.in_err-family.field-0.0 TooDeep (search rules) is)))

pub elaborate_family-loop-next-init : goal.elaborate_family-loop-next-init
elaborate_family-loop-next-init t c = (record { so_far = written_type_of c.in_ok-head.head.now; is = c.in_ok-head.ensures; elaborated = c.in_ok-family.ensures.ok }, c.in_ok-family.ensures.keeps)

pub elaborate_family-check-requires : goal.elaborate_family-check-requires
elaborate_family-check-requires t c =
    let es = c.args.signature.now in
    let ns = numbers_of c.args.frees.now in
    let D = c.args.state.now.locals in
    let l = c.loop-next.invariant.1.locals in
    let Ps = written_terms c.pop.new.self.items in
    let P = written_of c.in-Some.next.now in
    let q = arguments_less c.loop-next.left.items c.pop.new.self.items c.in-Some.next c.in-Some.ensures.items in
    let x = ap open_kind_of c.in-Pi.is ∙ open_kind_of-Pi c.in-Pi.domain c.in-Pi.range in
    let A = open_type_of c.in-Pi.domain.value in
    let L = open_kind_of c.in-Pi.range.value in
    (omega arith, (c.requires.canonical, (next_family_stands es ns D c.loop-next.invariant.0 Ps P q A L x c.requires.canonical c.requires.stands c.loop-next.state.locals l, subst (λ X. TypeHasSkeletons (signature_of es) (made c.loop-next.state) c.loop-next.state.locals (open_type_of X)) (sym c.deref.ensures) (next_family_domain es ns D c.loop-next.invariant.0 Ps P q A L x c.requires.canonical c.requires.stands c.loop-next.state.locals l))))

pub elaborate_family-returns-in_err-arg-in-Pi-clause-too_deep : goal.elaborate_family-returns-in_err-arg-in-Pi-clause-too_deep
elaborate_family-returns-in_err-arg-in-Pi-clause-too_deep t c = λ is.
    let es = c.args.signature.now in
    let ns = numbers_of c.args.frees.now in
    let D = c.args.state.now.locals in
    let l = c.loop-next.invariant.1.locals in
    let Ps = written_terms c.pop.new.self.items in
    let P = written_of c.in-Some.next.now in
    let q = arguments_less c.loop-next.left.items c.pop.new.self.items c.in-Some.next c.in-Some.ensures.items in
    let x = ap open_kind_of c.in-Pi.is ∙ open_kind_of-Pi c.in-Pi.domain c.in-Pi.range in
    let A = open_type_of c.in-Pi.domain.value in
    let L = open_kind_of c.in-Pi.range.value in
    let h = c.in_err-arg-in-Pi.ensures.too_deep (fault_of_call c.from_residual-in_err-arg-in-Pi.result c.in_err-arg-in-Pi.field-0.0 TooDeep (search rules) is) in
    family_argument_deep es ns D c.loop-next.invariant.0 Ps P q A L x (subst (λ X. ChecksDeep es ns D P (open_type_of X) (made c.loop-next.state)) c.deref.ensures (subst (λ F. ChecksDeep es ns F P (open_type_of c.deref.result.now) (made c.loop-next.state)) l h))

pub elaborate_family-returns-in_err-arg-in-Pi-clause-keeps : goal.elaborate_family-returns-in_err-arg-in-Pi-clause-keeps
elaborate_family-returns-in_err-arg-in-Pi-clause-keeps t c = keeps_then c.args.state.now c.loop-next.state c.check.new.state c.loop-next.invariant.1 c.check.ensures.keeps

pub elaborate_family-family_application-requires : goal.elaborate_family-family_application-requires
elaborate_family-family_application-requires t c =
    let es = c.args.signature.now in
    let ns = numbers_of c.args.frees.now in
    let D = c.args.state.now.locals in
    let l = c.loop-next.invariant.1.locals in
    let Ps = written_terms c.pop.new.self.items in
    let P = written_of c.in-Some.next.now in
    let q = arguments_less c.loop-next.left.items c.pop.new.self.items c.in-Some.next c.in-Some.ensures.items in
    let x = ap open_kind_of c.in-Pi.is ∙ open_kind_of-Pi c.in-Pi.domain c.in-Pi.range in
    let A = open_type_of c.in-Pi.domain.value in
    let L = open_kind_of c.in-Pi.range.value in
    let Q = open_term_of c.in_ok-arg-in-Pi.arg in
    let i : Checks es ns D P A (made c.loop-next.state) (made c.check.new.state) Q = subst (λ X. Checks es ns D P (open_type_of X) (made c.loop-next.state) (made c.check.new.state) Q) c.deref.ensures (subst (λ F. Checks es ns F P (open_type_of c.deref.result.now) (made c.loop-next.state) (made c.check.new.state) Q) l c.in_ok-arg-in-Pi.ensures.ok) in
    subst (λ X. KindFits (single (skeleton (open_type_of X)) Q) (open_kind_of c.deref-in-Pi-2.result.now)) (sym c.deref-in-Pi.ensures) (subst (λ X. KindFits (single (skeleton A) Q) (open_kind_of X)) (sym c.deref-in-Pi-2.ensures)
    (next_kind_fits es ns D c.loop-next.invariant.0 Ps P q A L x c.requires.canonical c.requires.stands i))

pub elaborate_family-returns-in_err-longer-in-Pi-clause-too_deep : goal.elaborate_family-returns-in_err-longer-in-Pi-clause-too_deep
elaborate_family-returns-in_err-longer-in-Pi-clause-too_deep t c = λ is.
    let es = c.args.signature.now in
    let ns = numbers_of c.args.frees.now in
    let D = c.args.state.now.locals in
    let l = c.loop-next.invariant.1.locals in
    let Ps = written_terms c.pop.new.self.items in
    let P = written_of c.in-Some.next.now in
    let q = arguments_less c.loop-next.left.items c.pop.new.self.items c.in-Some.next c.in-Some.ensures.items in
    let x = ap open_kind_of c.in-Pi.is ∙ open_kind_of-Pi c.in-Pi.domain c.in-Pi.range in
    let A = open_type_of c.in-Pi.domain.value in
    let L = open_kind_of c.in-Pi.range.value in
    let Q = open_term_of c.in_ok-arg-in-Pi.arg in
    let i : Checks es ns D P A (made c.loop-next.state) (made c.check.new.state) Q = subst (λ X. Checks es ns D P (open_type_of X) (made c.loop-next.state) (made c.check.new.state) Q) c.deref.ensures (subst (λ F. Checks es ns F P (open_type_of c.deref.result.now) (made c.loop-next.state) (made c.check.new.state) Q) l c.in_ok-arg-in-Pi.ensures.ok) in
    let h = c.in_err-longer-in-Pi.ensures.too_deep (fault_of_call c.from_residual-in_err-longer-in-Pi.result c.in_err-longer-in-Pi.field-0.0 TooDeep (search rules) is) in
    family_left_deep es ns D c.loop-next.invariant.0 Ps P q A L x i (subst (λ X. depth_limit < kind_depth (instantiate_kind (open_type_of X) Q L)) c.deref-in-Pi.ensures (subst (λ X. depth_limit < kind_depth (instantiate_kind (open_type_of c.deref-in-Pi.result.now) Q (open_kind_of X))) c.deref-in-Pi-2.ensures h))

pub elaborate_family-returns-in_err-longer-in-Pi-clause-keeps : goal.elaborate_family-returns-in_err-longer-in-Pi-clause-keeps
elaborate_family-returns-in_err-longer-in-Pi-clause-keeps t c = keeps_then c.args.state.now c.loop-next.state c.check.new.state c.loop-next.invariant.1 c.check.ensures.keeps

pub elaborate_family-loop-next-preserved : goal.elaborate_family-loop-next-preserved
elaborate_family-loop-next-preserved t c =
    let es = c.args.signature.now in
    let ns = numbers_of c.args.frees.now in
    let D = c.args.state.now.locals in
    let l = c.loop-next.invariant.1.locals in
    let Ps = written_terms c.pop.new.self.items in
    let P = written_of c.in-Some.next.now in
    let q = arguments_less c.loop-next.left.items c.pop.new.self.items c.in-Some.next c.in-Some.ensures.items in
    let x = ap open_kind_of c.in-Pi.is ∙ open_kind_of-Pi c.in-Pi.domain c.in-Pi.range in
    let A = open_type_of c.in-Pi.domain.value in
    let L = open_kind_of c.in-Pi.range.value in
    let Q = open_term_of c.in_ok-arg-in-Pi.arg in
    let i : Checks es ns D P A (made c.loop-next.state) (made c.check.new.state) Q = subst (λ X. Checks es ns D P (open_type_of X) (made c.loop-next.state) (made c.check.new.state) Q) c.deref.ensures (subst (λ F. Checks es ns F P (open_type_of c.deref.result.now) (made c.loop-next.state) (made c.check.new.state) Q) l c.in_ok-arg-in-Pi.ensures.ok) in
    let y : open_kind_of c.in_ok-longer-in-Pi.rest ≡ instantiate_kind A Q L = c.in_ok-longer-in-Pi.ensures.ok.1 ∙ ap₂ (λ X Z. instantiate_kind (open_type_of X) Q (open_kind_of Z)) c.deref-in-Pi.ensures c.deref-in-Pi-2.ensures in
    (family_reached_next es ns D c.loop-next.invariant.0 Ps P q A L x (open_spine_of c.in_ok-longer-in-Pi.longer) (open_kind_of c.in_ok-longer-in-Pi.rest) i c.in_ok-longer-in-Pi.ensures.ok.0 y, keeps_then c.args.state.now c.loop-next.state c.check.new.state c.loop-next.invariant.1 c.check.ensures.keeps)

pub elaborate_family-returns-clause-ok : goal.elaborate_family-returns-clause-ok
elaborate_family-returns-clause-ok t c =
    let es = c.args.signature.now in
    let ns = numbers_of c.args.frees.now in
    all_family_reached es ns c.args.state.now.locals (written_type_of c.args.written.now) (made c.args.state.now) (made c.loop-next.state) c.loop-next.left.items c.in_ok-family.family.0 (open_spine_of c.loop-next.spine) (open_kind_of c.loop-next.kind) (omega (arith, c.in_default.ensures.cases)) c.loop-next.invariant.0

pub elaborate_family-returns-clause-keeps : goal.elaborate_family-returns-clause-keeps
elaborate_family-returns-clause-keeps t c = c.loop-next.invariant.1

pub elaborate_ascribed_family-loop-rest-init : goal.elaborate_ascribed_family-loop-rest-init
elaborate_ascribed_family-loop-rest-init t c =
    let es = c.args.signature.now in
    let ns = numbers_of c.args.frees.now in
    let D = c.args.state.now.locals in
    let W = written_type_of c.args.written.now in
    let s = made c.args.state.now in
    (no_kind_under es ns D (map open_kind_of c.new-kinds.result.items) W s (ap (map open_kind_of) c.new-kinds.ensures.items), keeps_same c.args.state.now)

pub elaborate_ascribed_family-elaborate_kind-requires : goal.elaborate_ascribed_family-elaborate_kind-requires
elaborate_ascribed_family-elaborate_kind-requires t c =
    let es = c.args.signature.now in
    let ns = numbers_of c.args.frees.now in
    let D = c.args.state.now.locals in
    let W = written_type_of c.args.written.now in
    let s = made c.args.state.now in
    let l = c.loop-rest.invariant.1.locals in
    let Ls = map open_kind_of c.loop-rest.kinds.items in
    let X = written_type_of c.loop-rest.rest.now in
    let t' = made c.loop-rest.state in
    (omega arith, (c.requires.canonical, kinds_rest_stands es ns D c.requires.canonical Ls W X s t' c.loop-rest.state.locals l c.loop-rest.invariant.0 c.requires.stands))

pub elaborate_ascribed_family-returns-in_err-kind-clause-too_deep : goal.elaborate_ascribed_family-returns-in_err-kind-clause-too_deep
elaborate_ascribed_family-returns-in_err-kind-clause-too_deep t c = λ is.
    let es = c.args.signature.now in
    let ns = numbers_of c.args.frees.now in
    let D = c.args.state.now.locals in
    let W = written_type_of c.args.written.now in
    let s = made c.args.state.now in
    let l = c.loop-rest.invariant.1.locals in
    let Ls = map open_kind_of c.loop-rest.kinds.items in
    let X = written_type_of c.loop-rest.rest.now in
    let t' = made c.loop-rest.state in
    let k = written_kind_of c.deref.result.now in
    let U = written_type_of c.in-Ascribed.family.value in
    let x : X ≡ family_ascribed U k = ap written_type_of c.in-Ascribed.is ∙ written_type_of-Ascribed c.in-Ascribed.family c.in-Ascribed.kind ∙ ap (family_ascribed U) (ap written_kind_of (sym c.deref.ensures)) in
    kind_under_deep es ns D Ls W X U k s t' x c.loop-rest.invariant.0 (subst (λ F. KindDeep es ns F k t') l (c.in_err-kind.ensures.too_deep (fault_of_call c.from_residual.result c.in_err-kind.field-0.0 TooDeep (search rules) is)))

pub elaborate_ascribed_family-returns-in_err-kind-clause-keeps : goal.elaborate_ascribed_family-returns-in_err-kind-clause-keeps
elaborate_ascribed_family-returns-in_err-kind-clause-keeps t c = keeps_then c.args.state.now c.loop-rest.state c.elaborate_kind.new.state c.loop-rest.invariant.1 c.elaborate_kind.ensures.keeps

pub elaborate_ascribed_family-returns-in_err-push_kind-clause-keeps : goal.elaborate_ascribed_family-returns-in_err-push_kind-clause-keeps
elaborate_ascribed_family-returns-in_err-push_kind-clause-keeps t c = keeps_then c.args.state.now c.loop-rest.state c.elaborate_kind.new.state c.loop-rest.invariant.1 c.elaborate_kind.ensures.keeps

pub elaborate_ascribed_family-loop-rest-preserved : goal.elaborate_ascribed_family-loop-rest-preserved
elaborate_ascribed_family-loop-rest-preserved t c =
    let es = c.args.signature.now in
    let ns = numbers_of c.args.frees.now in
    let D = c.args.state.now.locals in
    let W = written_type_of c.args.written.now in
    let s = made c.args.state.now in
    let l = c.loop-rest.invariant.1.locals in
    let Ls = map open_kind_of c.loop-rest.kinds.items in
    let X = written_type_of c.loop-rest.rest.now in
    let t' = made c.loop-rest.state in
    let k = written_kind_of c.deref.result.now in
    let U = written_type_of c.deref-rest.result.now in
    let u = made c.elaborate_kind.new.state in
    let L = open_kind_of c.in_ok-kind.kind in
    let Ms = map open_kind_of c.push_kind.new.kinds.items in
    let x : X ≡ family_ascribed U k = ap written_type_of c.in-Ascribed.is ∙ written_type_of-Ascribed c.in-Ascribed.family c.in-Ascribed.kind ∙ ap₂ family_ascribed (ap written_type_of (sym c.deref-rest.ensures)) (ap written_kind_of (sym c.deref.ensures)) in
    let b : Ms ≡ Ls ++ L ∷ [] = ap (map open_kind_of) c.in_ok-push_kind.ensures ∙ map-append open_kind_of c.loop-rest.kinds.items (c.in_ok-kind.kind ∷ []) in
    let i = subst (λ F. ElaboratesKind es ns F k t' u L) l c.in_ok-kind.ensures.ok in
    (one_kind_more es ns D Ls Ms W X U k s t' u L b x i c.loop-rest.invariant.0, keeps_then c.args.state.now c.loop-rest.state c.elaborate_kind.new.state c.loop-rest.invariant.1 c.elaborate_kind.ensures.keeps)

pub elaborate_ascribed_family-elaborate_family-requires : goal.elaborate_ascribed_family-elaborate_family-requires
elaborate_ascribed_family-elaborate_family-requires t c =
    let es = c.args.signature.now in
    let ns = numbers_of c.args.frees.now in
    let D = c.args.state.now.locals in
    let W = written_type_of c.args.written.now in
    let s = made c.args.state.now in
    let l = c.loop-rest.invariant.1.locals in
    let Ls = map open_kind_of c.loop-rest.kinds.items in
    let X = written_type_of c.loop-rest.rest.now in
    let t' = made c.loop-rest.state in
    (omega arith, (c.requires.canonical, kinds_rest_stands es ns D c.requires.canonical Ls W X s t' c.loop-rest.state.locals l c.loop-rest.invariant.0 c.requires.stands))

pub elaborate_ascribed_family-returns-in_err-family-clause-too_deep : goal.elaborate_ascribed_family-returns-in_err-family-clause-too_deep
elaborate_ascribed_family-returns-in_err-family-clause-too_deep t c = λ is.
    let es = c.args.signature.now in
    let ns = numbers_of c.args.frees.now in
    let D = c.args.state.now.locals in
    let W = written_type_of c.args.written.now in
    let s = made c.args.state.now in
    let l = c.loop-rest.invariant.1.locals in
    let Ls = map open_kind_of c.loop-rest.kinds.items in
    let X = written_type_of c.loop-rest.rest.now in
    let t' = made c.loop-rest.state in
    kinds_deep es ns D Ls W X s t' c.loop-rest.invariant.0 (subst (λ F. FamilyDeep es ns F X t') l (c.in_err-family.ensures.too_deep (fault_of_call c.from_residual-in_err-family.result c.in_err-family.field-0.0 TooDeep (search rules) is)))

pub elaborate_ascribed_family-returns-in_err-family-clause-keeps : goal.elaborate_ascribed_family-returns-in_err-family-clause-keeps
elaborate_ascribed_family-returns-in_err-family-clause-keeps t c = keeps_then c.args.state.now c.loop-rest.state c.elaborate_family.new.state c.loop-rest.invariant.1 c.elaborate_family.ensures.keeps

pub elaborate_ascribed_family-loop-expected-init : goal.elaborate_ascribed_family-loop-expected-init
elaborate_ascribed_family-loop-expected-init t c =
    let es = c.args.signature.now in
    let ns = numbers_of c.args.frees.now in
    let D = c.args.state.now.locals in
    let W = written_type_of c.args.written.now in
    let s = made c.args.state.now in
    let l = c.loop-rest.invariant.1.locals in
    let Ls = map open_kind_of c.loop-rest.kinds.items in
    let X = written_type_of c.loop-rest.rest.now in
    let t' = made c.loop-rest.state in
    let i = subst (λ F. ElaboratesFamily es ns F X t' (made c.elaborate_family.new.state) c.in_ok-family.family.0 (open_spine_of c.in_ok-family.spine) (open_kind_of c.in_ok-family.found)) l c.in_ok-family.ensures.ok in
    (record { whole = X; begin = t'; under = c.loop-rest.invariant.0; elaborated = i }, keeps_then c.args.state.now c.loop-rest.state c.elaborate_family.new.state c.loop-rest.invariant.1 c.elaborate_family.ensures.keeps)

pub elaborate_ascribed_family-compare_ascribed-requires-clause-found : goal.elaborate_ascribed_family-compare_ascribed-requires-clause-found
elaborate_ascribed_family-compare_ascribed-requires-clause-found t c =
    found_kind c.args.signature.now (numbers_of c.args.frees.now) c.args.state.now.locals c.requires.canonical c.loop-expected.invariant.0 c.requires.stands c.loop-expected.state.locals c.loop-expected.invariant.1.locals

pub elaborate_ascribed_family-returns-in_err-compare_ascribed-clause-too_deep : goal.elaborate_ascribed_family-returns-in_err-compare_ascribed-clause-too_deep
elaborate_ascribed_family-returns-in_err-compare_ascribed-clause-too_deep t c = λ is.
    let es = c.args.signature.now in
    let ns = numbers_of c.args.frees.now in
    let D = c.args.state.now.locals in
    let f = c.loop-expected.invariant.0 in
    let Ms = map open_kind_of c.pop.new.self.items in
    let L = open_kind_of c.in-Some.expected in
    let p : map open_kind_of c.loop-expected.kinds.items ≡ Ms ++ L ∷ [] = ap (map open_kind_of) c.in-Some.ensures.items ∙ map-append open_kind_of c.pop.new.self.items (c.in-Some.expected ∷ []) in
    let h = c.in_err-compare_ascribed.ensures.too_deep (fault_of_call c.from_residual-in_err-compare_ascribed.result c.in_err-compare_ascribed.field-0.0 TooDeep (search rules) is) in
    next_kind_deep es ns D Ms L p h f

pub elaborate_ascribed_family-returns-in_err-compare_ascribed-clause-keeps : goal.elaborate_ascribed_family-returns-in_err-compare_ascribed-clause-keeps
elaborate_ascribed_family-returns-in_err-compare_ascribed-clause-keeps t c = keeps_then c.args.state.now c.loop-expected.state c.compare_ascribed.new.state c.loop-expected.invariant.1 c.compare_ascribed.ensures.keeps

pub elaborate_ascribed_family-loop-expected-preserved : goal.elaborate_ascribed_family-loop-expected-preserved
elaborate_ascribed_family-loop-expected-preserved t c =
    let es = c.args.signature.now in
    let ns = numbers_of c.args.frees.now in
    let D = c.args.state.now.locals in
    let f = c.loop-expected.invariant.0 in
    let Ms = map open_kind_of c.pop.new.self.items in
    let L = open_kind_of c.in-Some.expected in
    let p : map open_kind_of c.loop-expected.kinds.items ≡ Ms ++ L ∷ [] = ap (map open_kind_of) c.in-Some.ensures.items ∙ map-append open_kind_of c.pop.new.self.items (c.in-Some.expected ∷ []) in
    (next_family_found es ns D Ms L c.loop-expected.state c.compare_ascribed.new.state p c.loop-expected.invariant.1.locals c.in_ok-compare_ascribed.ensures.product c.in_ok-compare_ascribed.ensures.ok f, keeps_then c.args.state.now c.loop-expected.state c.compare_ascribed.new.state c.loop-expected.invariant.1 c.compare_ascribed.ensures.keeps)

pub elaborate_ascribed_family-loop-expected-preserved-in_ok-compare_ascribed : goal.elaborate_ascribed_family-loop-expected-preserved-in_ok-compare_ascribed
elaborate_ascribed_family-loop-expected-preserved-in_ok-compare_ascribed t c =
    let es = c.args.signature.now in
    let ns = numbers_of c.args.frees.now in
    let D = c.args.state.now.locals in
    let f = c.loop-expected.invariant.0 in
    let Ms = map open_kind_of c.pop.new.self.items in
    let L = open_kind_of c.in-Some.expected in
    let p : map open_kind_of c.loop-expected.kinds.items ≡ Ms ++ L ∷ [] = ap (map open_kind_of) c.in-Some.ensures.items ∙ map-append open_kind_of c.pop.new.self.items (c.in-Some.expected ∷ []) in
    (next_family_found es ns D Ms L c.loop-expected.state c.compare_ascribed.new.state p c.loop-expected.invariant.1.locals c.in_ok-compare_ascribed.ensures.product c.in_ok-compare_ascribed.ensures.ok f, keeps_then c.args.state.now c.loop-expected.state c.compare_ascribed.new.state c.loop-expected.invariant.1 c.compare_ascribed.ensures.keeps)

pub elaborate_ascribed_family-returns-clause-ok : goal.elaborate_ascribed_family-returns-clause-ok
elaborate_ascribed_family-returns-clause-ok t c =
    whole_family_found c.args.signature.now (numbers_of c.args.frees.now) c.args.state.now.locals (no_kinds_left c.loop-expected.kinds.items (omega (arith, c.in_default-pop.ensures.cases))) c.loop-expected.invariant.0

pub elaborate_ascribed_family-returns-clause-keeps : goal.elaborate_ascribed_family-returns-clause-keeps
elaborate_ascribed_family-returns-clause-keeps t c = c.loop-expected.invariant.1

pub check-returns-in_err-frames-clause-keeps : goal.check-returns-in_err-frames-clause-keeps
check-returns-in_err-frames-clause-keeps t c = keeps_same c.args.state.now

pub check-returns-in_err-term-in-Free-clause-too_deep : goal.check-returns-in_err-term-in-Free-clause-too_deep
check-returns-in_err-term-in-Free-clause-too_deep t c = λ is.
    let n = is_inferred c.args.written.now c.in-Free.is in
    deep_inferred n (c.in_err-term-in-Free.ensures.too_deep (fault_of_call c.from_residual-in_err-term-in-Free.result c.in_err-term-in-Free.field-0.0 TooDeep (search rules) is))

pub check-compare_types-requires-clause-found : goal.check-compare_types-requires-clause-found
check-compare_types-requires-clause-found t c =
    let l = c.infer.ensures.keeps.locals in
    let i = c.in_ok-term-in-Free.ensures.ok in
    inferred_type c.args.signature.now c.requires.canonical (numbers_of c.args.frees.now) c.requires.stands i c.infer.new.state.locals l

pub check-returns-in_err-compare_types-in-Free-clause-keeps : goal.check-returns-in_err-compare_types-in-Free-clause-keeps
check-returns-in_err-compare_types-in-Free-clause-keeps t c = keeps_then c.args.state.now c.infer.new.state c.compare_types.new.state c.infer.ensures.keeps c.compare_types.ensures.keeps

pub check-returns-in_ok-compare_types-in-Free-clause-keeps : goal.check-returns-in_ok-compare_types-in-Free-clause-keeps
check-returns-in_ok-compare_types-in-Free-clause-keeps t c = keeps_then c.args.state.now c.infer.new.state c.compare_types.new.state c.infer.ensures.keeps c.compare_types.ensures.keeps

pub check-returns-in_ok-compare_types-in-Free-clause-ok : goal.check-returns-in_ok-compare_types-in-Free-clause-ok
check-returns-in_ok-compare_types-in-Free-clause-ok t c =
    let n = is_inferred c.args.written.now c.in-Free.is in
    let l = c.infer.ensures.keeps.locals in
    let i = c.in_ok-term-in-Free.ensures.ok in
    inferred_checked c.args.signature.now (numbers_of c.args.frees.now) c.args.state.now.locals (written_of c.args.written.now) (open_term_of c.in_ok-term-in-Free.term) (open_type_of c.in_ok-term-in-Free.found) (open_type_of c.args.expected.now) (made c.args.state.now) c.infer.new.state c.compare_types.new.state n l i c.in_ok-compare_types-in-Free.ensures.ok

pub check-returns-in_err-compare_types-in-Free-clause-too_deep : goal.check-returns-in_err-compare_types-in-Free-clause-too_deep
check-returns-in_err-compare_types-in-Free-clause-too_deep t c = λ is.
    let n = is_inferred c.args.written.now c.in-Free.is in
    deep_compared n c.in_ok-term-in-Free.ensures.ok (c.in_err-compare_types-in-Free.ensures.too_deep (fault_of_call c.from_residual-in_err-compare_types-in-Free.result c.in_err-compare_types-in-Free.field-0.0 TooDeep (search rules) is))

pub check-returns-in_ok-checked_hole-in-Hole-clause-ok : goal.check-returns-in_ok-checked_hole-in-Hole-clause-ok
check-returns-in_ok-checked_hole-in-Hole-clause-ok t c =
    let v = ap written_of c.in-Hole.is ∙ written_of-Hole c.in-Hole.skeleton c.in-Hole.field-1 in
    subst (λ W. Checks c.args.signature.now (numbers_of c.args.frees.now) c.args.state.now.locals W (open_type_of c.args.expected.now) (made c.args.state.now) (made c.checked_hole.new.state) (open_term_of c.in_ok-checked_hole-in-Hole.field-0)) (sym v) (c.in_ok-checked_hole-in-Hole.ensures.ok c.args.signature.now (numbers_of c.args.frees.now) (place_of c.in-Hole.field-1))

pub check-returns-in-Function-clause-ok : goal.check-returns-in-Function-clause-ok
check-returns-in-Function-clause-ok t c =
    let v = ap written_of c.in-Function.is ∙ written_of-Function c.in-Function.domain c.in-Function.body ∙ ap (function (written_domain_of c.in-Function.domain)) (ap written_of (sym c.deref.ensures)) in
    subst (λ W. IfOk c.check_function.result (λ m. Checks c.args.signature.now (numbers_of c.args.frees.now) c.args.state.now.locals W (open_type_of c.args.expected.now) (made c.args.state.now) (made c.check_function.new.state) (open_term_of m))) (sym v) c.check_function.ensures.ok

pub check-returns-in-Function-clause-too_deep : goal.check-returns-in-Function-clause-too_deep
check-returns-in-Function-clause-too_deep t c = λ is.
    let v = ap written_of c.in-Function.is ∙ written_of-Function c.in-Function.domain c.in-Function.body ∙ ap (function (written_domain_of c.in-Function.domain)) (ap written_of (sym c.deref.ensures)) in
    subst (λ W. ChecksDeep c.args.signature.now (numbers_of c.args.frees.now) c.args.state.now.locals W (open_type_of c.args.expected.now) (made c.args.state.now)) (sym v) (c.check_function.ensures.too_deep is)

pub check_domain-compare_types-requires-clause-found : goal.check_domain-compare_types-requires-clause-found
check_domain-compare_types-requires-clause-found t c =
    let l = c.lambda_domain.ensures.keeps.locals in
    domain_found c.args.signature.now c.requires.canonical (numbers_of c.args.frees.now) c.requires.stands c.in_ok-found.ensures.ok c.lambda_domain.new.state.locals l

pub check_domain-returns-in_err-found-clause-too_deep : goal.check_domain-returns-in_err-found-clause-too_deep
check_domain-returns-in_err-found-clause-too_deep t c = λ is.
    let f = fault_of_call c.from_residual.result c.in_err-found.field-0.0 TooDeep (search rules) is in
    in_domain (c.in_err-found.ensures.left_out f) (c.in_err-found.ensures.too_deep f)

pub check_domain-returns-clause-too_deep : goal.check_domain-returns-clause-too_deep
check_domain-returns-clause-too_deep t c = λ is. at_domain c.in_ok-found.ensures.ok (c.compare_types.ensures.too_deep is)

pub check_domain-returns-clause-keeps : goal.check_domain-returns-clause-keeps
check_domain-returns-clause-keeps t c = keeps_then c.args.state.now c.lambda_domain.new.state c.compare_types.new.state c.lambda_domain.ensures.keeps c.compare_types.ensures.keeps

pub check_domain-returns-clause-ok : goal.check_domain-returns-clause-ok
check_domain-returns-clause-ok t c =
    let l = c.lambda_domain.ensures.keeps.locals in
    on_ok_weaker c.compare_types.result (λ q. domain_compared c.args.signature.now (numbers_of c.args.frees.now) c.args.state.now.locals (written_domain_of c.args.written.now) (open_type_of c.in_ok-found.found) (open_type_of c.args.expected.now) c.args.state.now c.lambda_domain.new.state c.compare_types.new.state refl l c.in_ok-found.ensures.ok q) c.compare_types.ensures.ok

pub check_function-returns-in-Atom-clause-keeps : goal.check_function-returns-in-Atom-clause-keeps
check_function-returns-in-Atom-clause-keeps t c = keeps_same c.args.state.now

pub check_function-returns-in_err-check_domain-in-Pi-clause-too_deep : goal.check_function-returns-in_err-check_domain-in-Pi-clause-too_deep
check_function-returns-in_err-check_domain-in-Pi-clause-too_deep t c = λ is.
    let x : (open_type_of c.args.expected.now) ≡ pi (open_type_of c.in-Pi.expected.value) (open_type_of c.in-Pi.range.value) = ap open_type_of c.in-Pi.is ∙ open_type_of-Pi c.in-Pi.expected c.in-Pi.range in
    domain_deep c.args.signature.now (numbers_of c.args.frees.now) c.args.state.now.locals (written_domain_of c.args.domain.now) (written_of c.args.body.now) (open_type_of c.in-Pi.expected.value) (open_type_of c.in-Pi.range.value) (open_type_of c.args.expected.now) (made c.args.state.now) x (subst (λ Z. ChecksDomainDeep c.args.signature.now (numbers_of c.args.frees.now) c.args.state.now.locals (written_domain_of c.args.domain.now) (open_type_of Z) (made c.args.state.now)) c.deref.ensures (c.in_err-check_domain-in-Pi.ensures.too_deep (fault_of_call c.from_residual.result c.in_err-check_domain-in-Pi.field-0.0 TooDeep (search rules) is)))

pub check_function-check-checked-requires : goal.check_function-check-checked-requires
check_function-check-checked-requires t c =
    let x : (open_type_of c.args.expected.now) ≡ pi (open_type_of c.in-Pi.expected.value) (open_type_of c.in-Pi.range.value) = ap open_type_of c.in-Pi.is ∙ open_type_of-Pi c.in-Pi.expected c.in-Pi.range in
    let l = c.check_domain.ensures.keeps.locals in
    let kd : ChecksDomain c.args.signature.now (numbers_of c.args.frees.now) (written_domain_of c.args.domain.now) (open_type_of c.in-Pi.expected.value) c.args.state.now c.check_domain.new.state = subst (λ Z. ChecksDomain c.args.signature.now (numbers_of c.args.frees.now) (written_domain_of c.args.domain.now) (open_type_of Z) c.args.state.now c.check_domain.new.state) c.deref.ensures c.in_ok-check_domain-in-Pi.ensures.ok in
    let cp : open_type_of c.in_ok-copy-in-Pi.field-0 ≡ (open_type_of c.in-Pi.expected.value) = c.in_ok-copy-in-Pi.ensures ∙ ap open_type_of c.deref-in-Pi.ensures in
    let e : c.push.new.self ≡ (open_type_of c.in-Pi.expected.value) ∷ c.args.state.now.locals = in_scope c.args.state.now.locals c.push.new.self c.check_domain.new.state.locals (open_type_of c.in-Pi.expected.value) (open_type_of c.in_ok-copy-in-Pi.field-0) c.in_ok-push-in-Pi.ensures.ok cp l in
    let ab : TypeHasSkeletons (signature_of c.args.signature.now) (made c.args.state.now) c.args.state.now.locals (pi (open_type_of c.in-Pi.expected.value) (open_type_of c.in-Pi.range.value)) = subst (TypeHasSkeletons (signature_of c.args.signature.now) (made c.args.state.now) c.args.state.now.locals) x c.requires.expected in
    let q = domain_checked c.args.signature.now (numbers_of c.args.frees.now) c.requires.canonical c.args.state.now c.check_domain.new.state (written_domain_of c.args.domain.now) (open_type_of c.in-Pi.expected.value) (pi (open_type_of c.in-Pi.expected.value) (open_type_of c.in-Pi.range.value)) kd c.requires.stands ab.0 ab in
    (omega arith, (c.requires.canonical, (under_stands c.args.signature.now c.requires.canonical (numbers_of c.args.frees.now) (made c.check_domain.new.state) c.args.state.now.locals c.push.new.self (open_type_of c.in-Pi.expected.value) e q.0 q.1.0, subst (λ F. TypeHasSkeletons (signature_of c.args.signature.now) (made c.check_domain.new.state) F (open_type_of c.deref-in-Pi-2.result.now)) (sym e) (subst (λ Z. TypeHasSkeletons (signature_of c.args.signature.now) (made c.check_domain.new.state) ((open_type_of c.in-Pi.expected.value) ∷ c.args.state.now.locals) (open_type_of Z)) (sym c.deref-in-Pi-2.ensures) q.1.1))))

pub check_function-returns-in_err-checked-in-Pi-clause-too_deep : goal.check_function-returns-in_err-checked-in-Pi-clause-too_deep
check_function-returns-in_err-checked-in-Pi-clause-too_deep t c = λ is.
    let x : (open_type_of c.args.expected.now) ≡ pi (open_type_of c.in-Pi.expected.value) (open_type_of c.in-Pi.range.value) = ap open_type_of c.in-Pi.is ∙ open_type_of-Pi c.in-Pi.expected c.in-Pi.range in
    let l = c.check_domain.ensures.keeps.locals in
    let kd : ChecksDomain c.args.signature.now (numbers_of c.args.frees.now) (written_domain_of c.args.domain.now) (open_type_of c.in-Pi.expected.value) c.args.state.now c.check_domain.new.state = subst (λ Z. ChecksDomain c.args.signature.now (numbers_of c.args.frees.now) (written_domain_of c.args.domain.now) (open_type_of Z) c.args.state.now c.check_domain.new.state) c.deref.ensures c.in_ok-check_domain-in-Pi.ensures.ok in
    let cp : open_type_of c.in_ok-copy-in-Pi.field-0 ≡ (open_type_of c.in-Pi.expected.value) = c.in_ok-copy-in-Pi.ensures ∙ ap open_type_of c.deref-in-Pi.ensures in
    let e : c.push.new.self ≡ (open_type_of c.in-Pi.expected.value) ∷ c.args.state.now.locals = in_scope c.args.state.now.locals c.push.new.self c.check_domain.new.state.locals (open_type_of c.in-Pi.expected.value) (open_type_of c.in_ok-copy-in-Pi.field-0) c.in_ok-push-in-Pi.ensures.ok cp l in
    body_deep c.args.signature.now (numbers_of c.args.frees.now) c.args.state.now c.check_domain.new.state (written_domain_of c.args.domain.now) c.push.new.self (written_of c.args.body.now) (open_type_of c.in-Pi.expected.value) (open_type_of c.in-Pi.range.value) (open_type_of c.args.expected.now) e x kd (subst (λ Z. ChecksDeep c.args.signature.now (numbers_of c.args.frees.now) c.push.new.self (written_of c.args.body.now) (open_type_of Z) (made c.check_domain.new.state)) c.deref-in-Pi-2.ensures (c.in_err-checked-in-Pi.ensures.too_deep (fault_of_call c.from_residual-in_err-checked-in-Pi.result c.in_err-checked-in-Pi.field-0.0 TooDeep (search rules) is)))

pub check_function-returns-in_err-checked-in-Pi-clause-keeps : goal.check_function-returns-in_err-checked-in-Pi-clause-keeps
check_function-returns-in_err-checked-in-Pi-clause-keeps t c =
    let cp : open_type_of c.in_ok-copy-in-Pi.field-0 ≡ (open_type_of c.in-Pi.expected.value) = c.in_ok-copy-in-Pi.ensures ∙ ap open_type_of c.deref-in-Pi.ensures in
    let p : c.push.new.self ≡ (open_type_of c.in-Pi.expected.value) ∷ c.check_domain.new.state.locals = in_scope c.check_domain.new.state.locals c.push.new.self c.check_domain.new.state.locals (open_type_of c.in-Pi.expected.value) (open_type_of c.in_ok-copy-in-Pi.field-0) c.in_ok-push-in-Pi.ensures.ok cp refl in
    keeps_under (open_type_of c.in-Pi.expected.value) c.check_domain.ensures.keeps p refl c.check-checked.ensures.keeps c.pop.ensures.rest refl

pub check_function-returns-in_err-lambda-in-Pi-clause-keeps : goal.check_function-returns-in_err-lambda-in-Pi-clause-keeps
check_function-returns-in_err-lambda-in-Pi-clause-keeps t c =
    let cp : open_type_of c.in_ok-copy-in-Pi.field-0 ≡ (open_type_of c.in-Pi.expected.value) = c.in_ok-copy-in-Pi.ensures ∙ ap open_type_of c.deref-in-Pi.ensures in
    let p : c.push.new.self ≡ (open_type_of c.in-Pi.expected.value) ∷ c.check_domain.new.state.locals = in_scope c.check_domain.new.state.locals c.push.new.self c.check_domain.new.state.locals (open_type_of c.in-Pi.expected.value) (open_type_of c.in_ok-copy-in-Pi.field-0) c.in_ok-push-in-Pi.ensures.ok cp refl in
    keeps_under (open_type_of c.in-Pi.expected.value) c.check_domain.ensures.keeps p refl c.check-checked.ensures.keeps c.pop.ensures.rest refl

pub check_function-returns-in_ok-lambda-in-Pi-clause-keeps : goal.check_function-returns-in_ok-lambda-in-Pi-clause-keeps
check_function-returns-in_ok-lambda-in-Pi-clause-keeps t c =
    let cp : open_type_of c.in_ok-copy-in-Pi.field-0 ≡ (open_type_of c.in-Pi.expected.value) = c.in_ok-copy-in-Pi.ensures ∙ ap open_type_of c.deref-in-Pi.ensures in
    let p : c.push.new.self ≡ (open_type_of c.in-Pi.expected.value) ∷ c.check_domain.new.state.locals = in_scope c.check_domain.new.state.locals c.push.new.self c.check_domain.new.state.locals (open_type_of c.in-Pi.expected.value) (open_type_of c.in_ok-copy-in-Pi.field-0) c.in_ok-push-in-Pi.ensures.ok cp refl in
    keeps_under (open_type_of c.in-Pi.expected.value) c.check_domain.ensures.keeps p refl c.check-checked.ensures.keeps c.pop.ensures.rest refl

pub check_function-returns-in_ok-lambda-in-Pi-clause-ok : goal.check_function-returns-in_ok-lambda-in-Pi-clause-ok
check_function-returns-in_ok-lambda-in-Pi-clause-ok t c =
    let x : (open_type_of c.args.expected.now) ≡ pi (open_type_of c.in-Pi.expected.value) (open_type_of c.in-Pi.range.value) = ap open_type_of c.in-Pi.is ∙ open_type_of-Pi c.in-Pi.expected c.in-Pi.range in
    let l = c.check_domain.ensures.keeps.locals in
    let kd : ChecksDomain c.args.signature.now (numbers_of c.args.frees.now) (written_domain_of c.args.domain.now) (open_type_of c.in-Pi.expected.value) c.args.state.now c.check_domain.new.state = subst (λ Z. ChecksDomain c.args.signature.now (numbers_of c.args.frees.now) (written_domain_of c.args.domain.now) (open_type_of Z) c.args.state.now c.check_domain.new.state) c.deref.ensures c.in_ok-check_domain-in-Pi.ensures.ok in
    let cp : open_type_of c.in_ok-copy-in-Pi.field-0 ≡ (open_type_of c.in-Pi.expected.value) = c.in_ok-copy-in-Pi.ensures ∙ ap open_type_of c.deref-in-Pi.ensures in
    let e : c.push.new.self ≡ (open_type_of c.in-Pi.expected.value) ∷ c.args.state.now.locals = in_scope c.args.state.now.locals c.push.new.self c.check_domain.new.state.locals (open_type_of c.in-Pi.expected.value) (open_type_of c.in_ok-copy-in-Pi.field-0) c.in_ok-push-in-Pi.ensures.ok cp l in
    function_checked c.args.signature.now (numbers_of c.args.frees.now) c.args.state.now c.check_domain.new.state (written_domain_of c.args.domain.now) c.push.new.self (written_of c.args.body.now) (open_type_of c.in-Pi.expected.value) (open_type_of c.in-Pi.range.value) (open_type_of c.args.expected.now) (made c.check-checked.new.state) (open_term_of c.in_ok-checked-in-Pi.field-0) _ e x c.in_ok-lambda-in-Pi.ensures kd (subst (λ Z. Checks c.args.signature.now (numbers_of c.args.frees.now) c.push.new.self (written_of c.args.body.now) (open_type_of Z) (made c.check_domain.new.state) (made c.check-checked.new.state) (open_term_of c.in_ok-checked-in-Pi.field-0)) c.deref-in-Pi-2.ensures c.in_ok-checked-in-Pi.ensures.ok)

pub elaborate_operator-returns-in_ok-free-in-Free-clause-ok : goal.elaborate_operator-returns-in_ok-free-in-Free-clause-ok
elaborate_operator-returns-in_ok-free-in-Free-clause-ok t c =
    let v = ap written_of c.in-Free.is ∙ written_of-Free c.in-Free.variable c.in-Free.field-1 in
    let s = c.args.state.now in
    let p = c.in_ok-free-in-Free.field-0 in
    subst (λ W. Infers c.args.signature.now (numbers_of c.args.frees.now) s.locals W (made s) (made s) (operator_of (skeleton (open_type_of p.1)) p.0) (open_type_of p.1)) (sym v) (c.in_ok-free-in-Free.ensures.ok c.args.signature.now (place_of c.in-Free.field-1))

pub elaborate_operator-returns-in_ok-bound-in-Bound-clause-ok : goal.elaborate_operator-returns-in_ok-bound-in-Bound-clause-ok
elaborate_operator-returns-in_ok-bound-in-Bound-clause-ok t c =
    let v = ap written_of c.in-Bound.is ∙ written_of-Bound c.in-Bound.variable in
    let s = c.args.state.now in
    let p = c.in_ok-bound-in-Bound.field-0 in
    subst (λ W. Infers c.args.signature.now (numbers_of c.args.frees.now) s.locals W (made s) (made s) (operator_of (skeleton (open_type_of p.1)) p.0) (open_type_of p.1)) (sym v) (c.in_ok-bound-in-Bound.ensures.ok c.args.signature.now (numbers_of c.args.frees.now))

pub elaborate_operator-returns-in-Declared-clause-ok : goal.elaborate_operator-returns-in-Declared-clause-ok
elaborate_operator-returns-in-Declared-clause-ok t c =
    let v = ap written_of c.in-Declared.is ∙ written_of-Declared c.in-Declared.id c.in-Declared.field-1 in
    if_ok c.declared.result _ _ (λ p j. subst (λ W. Infers c.args.signature.now (numbers_of c.args.frees.now) c.args.state.now.locals W (made c.args.state.now) (made c.declared.new.state) (operator_of (skeleton (open_type_of p.1)) p.0) (open_type_of p.1)) (sym v) (j (numbers_of c.args.frees.now) (place_of c.in-Declared.field-1))) c.declared.ensures.ok

pub elaborate_operator-returns-in-Declared-clause-reducible : goal.elaborate_operator-returns-in-Declared-clause-reducible
elaborate_operator-returns-in-Declared-clause-reducible t c =
    let v = ap written_of c.in-Declared.is ∙ written_of-Declared c.in-Declared.id c.in-Declared.field-1 in
    if_ok c.declared.result _ _ (λ p j i. subst (IsReducible c.args.signature.now) (sym v) (j i)) c.declared.ensures.defined

pub elaborate_operator-returns-in_ok-term-in-Hole-clause-reducible : goal.elaborate_operator-returns-in_ok-term-in-Hole-clause-reducible
elaborate_operator-returns-in_ok-term-in-Hole-clause-reducible t c = λ i. is_reducible c.args.signature.now c.args.written.now c.in-Hole.is

pub elaborate_operator-returns-in-Applied-clause-keeps : goal.elaborate_operator-returns-in-Applied-clause-keeps
elaborate_operator-returns-in-Applied-clause-keeps t c = keeps_same c.args.state.now

pub elaborate_operator-returns-in-Declared-clause-too_deep : goal.elaborate_operator-returns-in-Declared-clause-too_deep
elaborate_operator-returns-in-Declared-clause-too_deep t c = λ is.
    let v = ap written_of c.in-Declared.is ∙ written_of-Declared c.in-Declared.id c.in-Declared.field-1 in
    subst (λ W. InfersDeep c.args.signature.now (numbers_of c.args.frees.now) c.args.state.now.locals W (made c.args.state.now)) (sym v) (c.declared.ensures.too_deep is (numbers_of c.args.frees.now) (place_of c.in-Declared.field-1))

pub elaborate_operator-returns-in_err-free-in-Free-clause-keeps : goal.elaborate_operator-returns-in_err-free-in-Free-clause-keeps
elaborate_operator-returns-in_err-free-in-Free-clause-keeps t c = keeps_same c.args.state.now

pub elaborate_operator-returns-in_ok-free-in-Free-clause-keeps : goal.elaborate_operator-returns-in_ok-free-in-Free-clause-keeps
elaborate_operator-returns-in_ok-free-in-Free-clause-keeps t c = keeps_same c.args.state.now

pub elaborate_operator-returns-in_err-bound-in-Bound-clause-keeps : goal.elaborate_operator-returns-in_err-bound-in-Bound-clause-keeps
elaborate_operator-returns-in_err-bound-in-Bound-clause-keeps t c = keeps_same c.args.state.now

pub elaborate_operator-returns-in_ok-bound-in-Bound-clause-keeps : goal.elaborate_operator-returns-in_ok-bound-in-Bound-clause-keeps
elaborate_operator-returns-in_ok-bound-in-Bound-clause-keeps t c = keeps_same c.args.state.now

pub begin-returns-in_err-head-clause-keeps : goal.begin-returns-in_err-head-clause-keeps
begin-returns-in_err-head-clause-keeps t c = keeps_same c.args.state.now

pub begin-returns-in_err-operator-clause-too_deep : goal.begin-returns-in_err-operator-clause-too_deep
begin-returns-in_err-operator-clause-too_deep t c = λ is.
    let es = c.args.signature.now in
    let ns = numbers_of c.args.frees.now in
    subst (λ F. InfersDeep es ns c.args.state.now.locals F (made c.args.state.now)) c.in_ok-head.ensures (deep_row es ns c.args.state.now.locals (written_of c.in_ok-head.head.now) (made c.args.state.now) (written_terms c.in_ok-head.args.items) (c.in_err-operator.ensures.too_deep (fault_of_call c.from_residual-in_err-operator.result c.in_err-operator.field-0.0 TooDeep (search rules) is)))

pub infer_applied-begin-requires-in-Applied : goal.infer_applied-begin-requires-in-Applied
infer_applied-begin-requires-in-Applied t c =
    let es = c.args.signature.now in
    let ns = numbers_of c.args.frees.now in
    let D = c.args.state.now.locals in
    let p = c.in-Argument.outer.value in
    let k = next_asks es ns D c.loop.begun.value c.in_ok-arg.field-0 c.in-Argument.arg c.in-Argument.outer c.in-Argument.is c.in_ok-arg.ensures c.loop.invariant.0 in
    let l = c.loop.invariant.1.locals in
    (omega arith, (c.requires.canonical, asked_stands es ns D k c.requires.canonical c.requires.stands c.loop.state.locals l))

pub infer_applied-returns-in_err-begun-in-Applied-clause-too_deep : goal.infer_applied-returns-in_err-begun-in-Applied-clause-too_deep
infer_applied-returns-in_err-begun-in-Applied-clause-too_deep t c = λ is.
    let es = c.args.signature.now in
    let ns = numbers_of c.args.frees.now in
    let D = c.args.state.now.locals in
    let p = c.in-Argument.outer.value in
    let k = next_asks es ns D c.loop.begun.value c.in_ok-arg.field-0 c.in-Argument.arg c.in-Argument.outer c.in-Argument.is c.in_ok-arg.ensures c.loop.invariant.0 in
    let l = c.loop.invariant.1.locals in
    let n = is_inferred c.in-Argument.arg.now (inr (inr (inr (inl (c.in-Applied.field-0, c.in-Applied.field-1, c.in-Applied.is))))) in
    let P = written_of c.in-Argument.arg.now in
    asked_deep es ns D k c.requires.canonical c.requires.stands (deep_inferred n (subst (λ F. InfersDeep es ns F P (made c.loop.state)) l (c.in_err-begun-in-Applied.ensures.too_deep (fault_of_call c.from_residual-in_err-begun-in-Applied.result c.in_err-begun-in-Applied.field-0.0 TooDeep (search rules) is))))

pub infer_applied-returns-in_err-begun-in-Applied-clause-keeps : goal.infer_applied-returns-in_err-begun-in-Applied-clause-keeps
infer_applied-returns-in_err-begun-in-Applied-clause-keeps t c = keeps_then c.args.state.now c.loop.state c.begin-in-Applied.new.state c.loop.invariant.1 c.begin-in-Applied.ensures.keeps

pub infer_applied-check-requires : goal.infer_applied-check-requires
infer_applied-check-requires t c =
    let es = c.args.signature.now in
    let ns = numbers_of c.args.frees.now in
    let D = c.args.state.now.locals in
    let p = c.in-Argument.outer.value in
    let k = next_asks es ns D c.loop.begun.value c.in_ok-arg.field-0 c.in-Argument.arg c.in-Argument.outer c.in-Argument.is c.in_ok-arg.ensures c.loop.invariant.0 in
    let l = c.loop.invariant.1.locals in
    (omega arith, (c.requires.canonical, (asked_stands es ns D k c.requires.canonical c.requires.stands c.loop.state.locals l, subst (λ (q : Waiting). TypeHasSkeletons (signature_of es) (made c.loop.state) c.loop.state.locals (open_type_of q.domain)) (sym c.deref-in-Free.ensures) (asked_domain es ns D k c.requires.canonical c.requires.stands c.loop.state.locals l))))

pub infer_applied-returns-in_err-arg-in-Free-clause-too_deep : goal.infer_applied-returns-in_err-arg-in-Free-clause-too_deep
infer_applied-returns-in_err-arg-in-Free-clause-too_deep t c = λ is.
    let es = c.args.signature.now in
    let ns = numbers_of c.args.frees.now in
    let D = c.args.state.now.locals in
    let p = c.in-Argument.outer.value in
    let k = next_asks es ns D c.loop.begun.value c.in_ok-arg.field-0 c.in-Argument.arg c.in-Argument.outer c.in-Argument.is c.in_ok-arg.ensures c.loop.invariant.0 in
    let l = c.loop.invariant.1.locals in
    let P = written_of c.in-Argument.arg.now in
    asked_deep es ns D k c.requires.canonical c.requires.stands (subst (λ (q : Waiting). ChecksDeep es ns D P (open_type_of q.domain) (made c.loop.state)) c.deref-in-Free.ensures (subst (λ F. ChecksDeep es ns F P (open_type_of c.deref-in-Free.result.now.domain) (made c.loop.state)) l (c.in_err-arg-in-Free.ensures.too_deep (fault_of_call c.from_residual-in_err-arg-in-Free.result c.in_err-arg-in-Free.field-0.0 TooDeep (search rules) is))))

pub infer_applied-returns-in_err-arg-in-Free-clause-keeps : goal.infer_applied-returns-in_err-arg-in-Free-clause-keeps
infer_applied-returns-in_err-arg-in-Free-clause-keeps t c = keeps_then c.args.state.now c.loop.state c.check.new.state c.loop.invariant.1 c.check.ensures.keeps

pub infer_applied-resume-requires-clause-applies : goal.infer_applied-resume-requires-clause-applies
infer_applied-resume-requires-clause-applies t c =
    let es = c.args.signature.now in
    let ns = numbers_of c.args.frees.now in
    let D = c.args.state.now.locals in
    let p = c.in-Argument.outer.value in
    let k = next_asks es ns D c.loop.begun.value c.in_ok-arg.field-0 c.in-Argument.arg c.in-Argument.outer c.in-Argument.is c.in_ok-arg.ensures c.loop.invariant.0 in
    let l = c.loop.invariant.1.locals in
    let P = written_of c.in-Argument.arg.now in
    let X = open_type_of p.domain in
    let i : Checks es ns D P X (made c.loop.state) (made c.check.new.state) (open_term_of c.in_ok-arg-in-Free.arg) = subst (λ (q : Waiting). Checks es ns D P (open_type_of q.domain) (made c.loop.state) (made c.check.new.state) (open_term_of c.in_ok-arg-in-Free.arg)) c.deref-in-Free.ensures (subst (λ F. Checks es ns F P (open_type_of c.deref-in-Free.result.now.domain) (made c.loop.state) (made c.check.new.state) (open_term_of c.in_ok-arg-in-Free.arg)) l c.in_ok-arg-in-Free.ensures.ok) in
    asked_applies es ns D k c.requires.canonical c.requires.stands i

pub infer_applied-resume-requires-clause-range : goal.infer_applied-resume-requires-clause-range
infer_applied-resume-requires-clause-range t c =
    let es = c.args.signature.now in
    let ns = numbers_of c.args.frees.now in
    let D = c.args.state.now.locals in
    let p = c.in-Argument.outer.value in
    let k = next_asks es ns D c.loop.begun.value c.in_ok-arg.field-0 c.in-Argument.arg c.in-Argument.outer c.in-Argument.is c.in_ok-arg.ensures c.loop.invariant.0 in
    let l = c.loop.invariant.1.locals in
    let P = written_of c.in-Argument.arg.now in
    let X = open_type_of p.domain in
    let i : Checks es ns D P X (made c.loop.state) (made c.check.new.state) (open_term_of c.in_ok-arg-in-Free.arg) = subst (λ (q : Waiting). Checks es ns D P (open_type_of q.domain) (made c.loop.state) (made c.check.new.state) (open_term_of c.in_ok-arg-in-Free.arg)) c.deref-in-Free.ensures (subst (λ F. Checks es ns F P (open_type_of c.deref-in-Free.result.now.domain) (made c.loop.state) (made c.check.new.state) (open_term_of c.in_ok-arg-in-Free.arg)) l c.in_ok-arg-in-Free.ensures.ok) in
    asked_range_fits es ns D k c.requires.canonical c.requires.stands i

pub infer_applied-returns-in_err-begun-in-Free-clause-too_deep : goal.infer_applied-returns-in_err-begun-in-Free-clause-too_deep
infer_applied-returns-in_err-begun-in-Free-clause-too_deep t c = λ is.
    let es = c.args.signature.now in
    let ns = numbers_of c.args.frees.now in
    let D = c.args.state.now.locals in
    let p = c.in-Argument.outer.value in
    let k = next_asks es ns D c.loop.begun.value c.in_ok-arg.field-0 c.in-Argument.arg c.in-Argument.outer c.in-Argument.is c.in_ok-arg.ensures c.loop.invariant.0 in
    let l = c.loop.invariant.1.locals in
    let P = written_of c.in-Argument.arg.now in
    let X = open_type_of p.domain in
    let i : Checks es ns D P X (made c.loop.state) (made c.check.new.state) (open_term_of c.in_ok-arg-in-Free.arg) = subst (λ (q : Waiting). Checks es ns D P (open_type_of q.domain) (made c.loop.state) (made c.check.new.state) (open_term_of c.in_ok-arg-in-Free.arg)) c.deref-in-Free.ensures (subst (λ F. Checks es ns F P (open_type_of c.deref-in-Free.result.now.domain) (made c.loop.state) (made c.check.new.state) (open_term_of c.in_ok-arg-in-Free.arg)) l c.in_ok-arg-in-Free.ensures.ok) in
    asked_taken_deep es ns D k c.requires.canonical c.requires.stands i (c.in_err-begun-in-Free.ensures.too_deep (fault_of_call c.from_residual-in_err-begun-in-Free.result c.in_err-begun-in-Free.field-0.0 TooDeep (search rules) is))

pub infer_applied-returns-in_err-begun-in-Free-clause-keeps : goal.infer_applied-returns-in_err-begun-in-Free-clause-keeps
infer_applied-returns-in_err-begun-in-Free-clause-keeps t c = keeps_then c.args.state.now c.loop.state c.check.new.state c.loop.invariant.1 c.check.ensures.keeps

pub infer_applied-compare_types-requires-clause-found : goal.infer_applied-compare_types-requires-clause-found
infer_applied-compare_types-requires-clause-found t c =
    let es = c.args.signature.now in
    let ns = numbers_of c.args.frees.now in
    let D = c.args.state.now.locals in
    let p = c.in-Some.outer.value in
    let M = open_term_of c.in_ok-term-in-Nothing.term in
    let Y = open_type_of c.in_ok-term-in-Nothing.ty in
    let f = next_finished es ns D c.loop.waiting.items c.pop_waiting.new.waiting.items p c.loop.begun.value c.in_ok-arg.field-0 c.in-Nothing.whole M c.in_ok-term-in-Nothing.ty c.in-Nothing.is c.in_ok-arg.ensures (popped c.in_ok-outer-in-Nothing.field-0 c.in-Some.outer c.loop.waiting.items c.pop_waiting.new.waiting.items c.in-Some.is c.in_ok-outer-in-Nothing.ensures) c.in_ok-term-in-Nothing.ensures.0 c.in_ok-term-in-Nothing.ensures.1 c.loop.invariant.0 in
    inferred_type es c.requires.canonical ns (asked_stands es ns D f.asks c.requires.canonical c.requires.stands D refl) f.inferred c.loop.state.locals c.loop.invariant.1.locals

pub infer_applied-returns-in_err-compare_types-in-Some-clause-keeps : goal.infer_applied-returns-in_err-compare_types-in-Some-clause-keeps
infer_applied-returns-in_err-compare_types-in-Some-clause-keeps t c = keeps_then c.args.state.now c.loop.state c.compare_types.new.state c.loop.invariant.1 c.compare_types.ensures.keeps

pub infer_applied-resume-requires-in-Some-clause-applies : goal.infer_applied-resume-requires-in-Some-clause-applies
infer_applied-resume-requires-in-Some-clause-applies t c =
    let es = c.args.signature.now in
    let ns = numbers_of c.args.frees.now in
    let D = c.args.state.now.locals in
    let p = c.in-Some.outer.value in
    let M = open_term_of c.in_ok-term-in-Nothing.term in
    let Y = open_type_of c.in_ok-term-in-Nothing.ty in
    let f = next_finished es ns D c.loop.waiting.items c.pop_waiting.new.waiting.items p c.loop.begun.value c.in_ok-arg.field-0 c.in-Nothing.whole M c.in_ok-term-in-Nothing.ty c.in-Nothing.is c.in_ok-arg.ensures (popped c.in_ok-outer-in-Nothing.field-0 c.in-Some.outer c.loop.waiting.items c.pop_waiting.new.waiting.items c.in-Some.is c.in_ok-outer-in-Nothing.ensures) c.in_ok-term-in-Nothing.ensures.0 c.in_ok-term-in-Nothing.ensures.1 c.loop.invariant.0 in
    let l = c.loop.invariant.1.locals in
    let i = inferred_checked es ns D f.row M Y (open_type_of p.domain) f.begin c.loop.state c.compare_types.new.state f.is_inferred l f.inferred (subst (λ (q : Waiting). ComparesTypes (signature_of es) Y (open_type_of q.domain) c.loop.state c.compare_types.new.state) c.deref-in-Some.ensures c.in_ok-compare_types-in-Some.ensures.ok) in
    asked_applies es ns D f.asks c.requires.canonical c.requires.stands i

pub infer_applied-resume-requires-in-Some-clause-range : goal.infer_applied-resume-requires-in-Some-clause-range
infer_applied-resume-requires-in-Some-clause-range t c =
    let es = c.args.signature.now in
    let ns = numbers_of c.args.frees.now in
    let D = c.args.state.now.locals in
    let p = c.in-Some.outer.value in
    let M = open_term_of c.in_ok-term-in-Nothing.term in
    let Y = open_type_of c.in_ok-term-in-Nothing.ty in
    let f = next_finished es ns D c.loop.waiting.items c.pop_waiting.new.waiting.items p c.loop.begun.value c.in_ok-arg.field-0 c.in-Nothing.whole M c.in_ok-term-in-Nothing.ty c.in-Nothing.is c.in_ok-arg.ensures (popped c.in_ok-outer-in-Nothing.field-0 c.in-Some.outer c.loop.waiting.items c.pop_waiting.new.waiting.items c.in-Some.is c.in_ok-outer-in-Nothing.ensures) c.in_ok-term-in-Nothing.ensures.0 c.in_ok-term-in-Nothing.ensures.1 c.loop.invariant.0 in
    let l = c.loop.invariant.1.locals in
    let i = inferred_checked es ns D f.row M Y (open_type_of p.domain) f.begin c.loop.state c.compare_types.new.state f.is_inferred l f.inferred (subst (λ (q : Waiting). ComparesTypes (signature_of es) Y (open_type_of q.domain) c.loop.state c.compare_types.new.state) c.deref-in-Some.ensures c.in_ok-compare_types-in-Some.ensures.ok) in
    asked_range_fits es ns D f.asks c.requires.canonical c.requires.stands i

pub infer_applied-returns-in_err-begun-in-Some-clause-too_deep : goal.infer_applied-returns-in_err-begun-in-Some-clause-too_deep
infer_applied-returns-in_err-begun-in-Some-clause-too_deep t c = λ is.
    let es = c.args.signature.now in
    let ns = numbers_of c.args.frees.now in
    let D = c.args.state.now.locals in
    let p = c.in-Some.outer.value in
    let M = open_term_of c.in_ok-term-in-Nothing.term in
    let Y = open_type_of c.in_ok-term-in-Nothing.ty in
    let f = next_finished es ns D c.loop.waiting.items c.pop_waiting.new.waiting.items p c.loop.begun.value c.in_ok-arg.field-0 c.in-Nothing.whole M c.in_ok-term-in-Nothing.ty c.in-Nothing.is c.in_ok-arg.ensures (popped c.in_ok-outer-in-Nothing.field-0 c.in-Some.outer c.loop.waiting.items c.pop_waiting.new.waiting.items c.in-Some.is c.in_ok-outer-in-Nothing.ensures) c.in_ok-term-in-Nothing.ensures.0 c.in_ok-term-in-Nothing.ensures.1 c.loop.invariant.0 in
    let l = c.loop.invariant.1.locals in
    let i = inferred_checked es ns D f.row M Y (open_type_of p.domain) f.begin c.loop.state c.compare_types.new.state f.is_inferred l f.inferred (subst (λ (q : Waiting). ComparesTypes (signature_of es) Y (open_type_of q.domain) c.loop.state c.compare_types.new.state) c.deref-in-Some.ensures c.in_ok-compare_types-in-Some.ensures.ok) in
    asked_taken_deep es ns D f.asks c.requires.canonical c.requires.stands i (c.in_err-begun-in-Some.ensures.too_deep (fault_of_call c.from_residual-in_err-begun-in-Some.result c.in_err-begun-in-Some.field-0.0 TooDeep (search rules) is))

pub infer_applied-returns-in_err-compare_types-in-Some-clause-too_deep : goal.infer_applied-returns-in_err-compare_types-in-Some-clause-too_deep
infer_applied-returns-in_err-compare_types-in-Some-clause-too_deep t c = λ is.
    let es = c.args.signature.now in
    let ns = numbers_of c.args.frees.now in
    let D = c.args.state.now.locals in
    let p = c.in-Some.outer.value in
    let M = open_term_of c.in_ok-term-in-Nothing.term in
    let Y = open_type_of c.in_ok-term-in-Nothing.ty in
    let f = next_finished es ns D c.loop.waiting.items c.pop_waiting.new.waiting.items p c.loop.begun.value c.in_ok-arg.field-0 c.in-Nothing.whole M c.in_ok-term-in-Nothing.ty c.in-Nothing.is c.in_ok-arg.ensures (popped c.in_ok-outer-in-Nothing.field-0 c.in-Some.outer c.loop.waiting.items c.pop_waiting.new.waiting.items c.in-Some.is c.in_ok-outer-in-Nothing.ensures) c.in_ok-term-in-Nothing.ensures.0 c.in_ok-term-in-Nothing.ensures.1 c.loop.invariant.0 in
    let l = c.loop.invariant.1.locals in
    let h = c.in_err-compare_types-in-Some.ensures.too_deep (fault_of_call c.from_residual-in_err-compare_types-in-Some.result c.in_err-compare_types-in-Some.field-0.0 TooDeep (search rules) is) in
    asked_deep es ns D f.asks c.requires.canonical c.requires.stands (deep_compared f.is_inferred f.inferred (subst (λ (q : Waiting). TypesDeep (signature_of es) Y (open_type_of q.domain)) c.deref-in-Some.ensures h))

pub infer_applied-returns-in_err-begun-in-Some-clause-keeps : goal.infer_applied-returns-in_err-begun-in-Some-clause-keeps
infer_applied-returns-in_err-begun-in-Some-clause-keeps t c = keeps_then c.args.state.now c.loop.state c.compare_types.new.state c.loop.invariant.1 c.compare_types.ensures.keeps

pub infer_applied-returns-in-None-clause-ok : goal.infer_applied-returns-in-None-clause-ok
infer_applied-returns-in-None-clause-ok t c =
    let es = c.args.signature.now in
    let ns = numbers_of c.args.frees.now in
    let D = c.args.state.now.locals in
    let r = nothing_left es ns D c.loop.begun.value c.in_ok-arg.field-0 c.in-Nothing.whole c.in-Nothing.is c.in_ok-arg.ensures c.loop.invariant.0 in
    let n = none_popped c.in_ok-outer-in-Nothing.field-0 c.loop.waiting.items c.pop_waiting.new.waiting.items c.in-None.is c.in_ok-outer-in-Nothing.ensures in
    all_found es ns D c.loop.waiting.items c.in-Nothing.whole.value (open_term_of c.in_ok-term-in-Nothing.term) c.in_ok-term-in-Nothing.ty n c.in_ok-term-in-Nothing.ensures.0 c.in_ok-term-in-Nothing.ensures.1 r

pub infer_applied-loop-preserved : goal.infer_applied-loop-preserved
infer_applied-loop-preserved t c =
    let es = c.args.signature.now in
    let ns = numbers_of c.args.frees.now in
    let D = c.args.state.now.locals in
    let l = c.loop.invariant.1.locals in
    elim c.match-branch-3.branch [
      | infer_applied-in-Argument+in-Applied+in_ok-push_waiting-in-Applied+in_ok-begun-in-Applied w ↦
          let p = w.in-Argument.outer.value in
          let k = next_asks es ns D c.loop.begun.value c.in_ok-arg.field-0 w.in-Argument.arg w.in-Argument.outer w.in-Argument.is c.in_ok-arg.ensures c.loop.invariant.0 in
          let n = is_inferred w.in-Argument.arg.now (inr (inr (inr (inl (w.in-Applied.field-0, w.in-Applied.field-1, w.in-Applied.is))))) in
          let P = written_of w.in-Argument.arg.now in
          let b = w.in_ok-begun-in-Applied.begun in
          let r = subst (λ F. Reached es ns F P (made c.loop.state) (written_terms b.value.args.items) (made w.begin-in-Applied.new.state) b.value.operator (open_type_of b.value.ty)) l w.in_ok-begun-in-Applied.ensures.ok in
          rows_stay es ns D c.match-branch-3.waiting w.push_waiting.new.waiting c.match-branch-3.begun b c.args.state.now c.match-branch-3.state w.begin-in-Applied.new.state (written_of c.args.written.now) w.state-is w.waiting-is w.begun-is (row_asked es ns D k w.push_waiting.new.waiting.items w.in_ok-push_waiting-in-Applied.ensures n r, keeps_then c.args.state.now c.loop.state w.begin-in-Applied.new.state c.loop.invariant.1 w.begin-in-Applied.ensures.keeps)
      | infer_applied-in-Argument+in-Free+in_ok-arg-in-Free+in_ok-begun-in-Free w ↦
          let p = w.in-Argument.outer.value in
          let k = next_asks es ns D c.loop.begun.value c.in_ok-arg.field-0 w.in-Argument.arg w.in-Argument.outer w.in-Argument.is c.in_ok-arg.ensures c.loop.invariant.0 in
          let P = written_of w.in-Argument.arg.now in
          let X = open_type_of p.domain in
          let i : Checks es ns D P X (made c.loop.state) (made w.check.new.state) (open_term_of w.in_ok-arg-in-Free.arg) = subst (λ (q : Waiting). Checks es ns D P (open_type_of q.domain) (made c.loop.state) (made w.check.new.state) (open_term_of w.in_ok-arg-in-Free.arg)) w.deref-in-Free.ensures (subst (λ F. Checks es ns F P (open_type_of w.deref-in-Free.result.now.domain) (made c.loop.state) (made w.check.new.state) (open_term_of w.in_ok-arg-in-Free.arg)) l w.in_ok-arg-in-Free.ensures.ok) in
          let b = w.in_ok-begun-in-Free.begun in
          rows_stay es ns D c.match-branch-3.waiting c.loop.waiting c.match-branch-3.begun b c.args.state.now c.match-branch-3.state w.check.new.state (written_of c.args.written.now) w.state-is w.waiting-is w.begun-is (resumed es ns D k b.value.args b.value.operator (open_type_of b.value.ty) i w.in_ok-begun-in-Free.ensures.ok.0 w.in_ok-begun-in-Free.ensures.ok.1 w.in_ok-begun-in-Free.ensures.ok.2 w.in_ok-begun-in-Free.ensures.stays, keeps_then c.args.state.now c.loop.state w.check.new.state c.loop.invariant.1 w.check.ensures.keeps)
      | infer_applied-in-Nothing+in_ok-term-in-Nothing+in_ok-outer-in-Nothing+in-Some+in_ok-compare_types-in-Some+in_ok-begun-in-Some+in-Pi-1 w ↦
          let p = w.in-Some.outer.value in
          let M = open_term_of w.in_ok-term-in-Nothing.term in
          let Y = open_type_of w.in_ok-term-in-Nothing.ty in
          let f = next_finished es ns D c.loop.waiting.items w.pop_waiting.new.waiting.items p c.loop.begun.value c.in_ok-arg.field-0 w.in-Nothing.whole M w.in_ok-term-in-Nothing.ty w.in-Nothing.is c.in_ok-arg.ensures (popped w.in_ok-outer-in-Nothing.field-0 w.in-Some.outer c.loop.waiting.items w.pop_waiting.new.waiting.items w.in-Some.is w.in_ok-outer-in-Nothing.ensures) w.in_ok-term-in-Nothing.ensures.0 w.in_ok-term-in-Nothing.ensures.1 c.loop.invariant.0 in
          let i = inferred_checked es ns D f.row M Y (open_type_of p.domain) f.begin c.loop.state w.compare_types.new.state f.is_inferred l f.inferred (subst (λ (q : Waiting). ComparesTypes (signature_of es) Y (open_type_of q.domain) c.loop.state w.compare_types.new.state) w.deref-in-Some.ensures w.in_ok-compare_types-in-Some.ensures.ok) in
          let b = w.in_ok-begun-in-Some.begun in
          rows_stay es ns D c.match-branch-3.waiting w.pop_waiting.new.waiting c.match-branch-3.begun b c.args.state.now c.match-branch-3.state w.compare_types.new.state (written_of c.args.written.now) w.state-is w.waiting-is w.begun-is (resumed es ns D f.asks b.value.args b.value.operator (open_type_of b.value.ty) i w.in_ok-begun-in-Some.ensures.ok.0 w.in_ok-begun-in-Some.ensures.ok.1 w.in_ok-begun-in-Some.ensures.ok.2 w.in_ok-begun-in-Some.ensures.stays, keeps_then c.args.state.now c.loop.state w.compare_types.new.state c.loop.invariant.1 w.compare_types.ensures.keeps)
      | infer_applied-in-Nothing+in_ok-term-in-Nothing+in_ok-outer-in-Nothing+in-Some+in_ok-compare_types-in-Some+in_ok-begun-in-Some+in-Atom-1 w ↦
          let p = w.in-Some.outer.value in
          let M = open_term_of w.in_ok-term-in-Nothing.term in
          let Y = open_type_of w.in_ok-term-in-Nothing.ty in
          let f = next_finished es ns D c.loop.waiting.items w.pop_waiting.new.waiting.items p c.loop.begun.value c.in_ok-arg.field-0 w.in-Nothing.whole M w.in_ok-term-in-Nothing.ty w.in-Nothing.is c.in_ok-arg.ensures (popped w.in_ok-outer-in-Nothing.field-0 w.in-Some.outer c.loop.waiting.items w.pop_waiting.new.waiting.items w.in-Some.is w.in_ok-outer-in-Nothing.ensures) w.in_ok-term-in-Nothing.ensures.0 w.in_ok-term-in-Nothing.ensures.1 c.loop.invariant.0 in
          let i = inferred_checked es ns D f.row M Y (open_type_of p.domain) f.begin c.loop.state w.compare_types.new.state f.is_inferred l f.inferred (subst (λ (q : Waiting). ComparesTypes (signature_of es) Y (open_type_of q.domain) c.loop.state w.compare_types.new.state) w.deref-in-Some.ensures w.in_ok-compare_types-in-Some.ensures.ok) in
          let b = w.in_ok-begun-in-Some.begun in
          rows_stay es ns D c.match-branch-3.waiting w.pop_waiting.new.waiting c.match-branch-3.begun b c.args.state.now c.match-branch-3.state w.compare_types.new.state (written_of c.args.written.now) w.state-is w.waiting-is w.begun-is (resumed es ns D f.asks b.value.args b.value.operator (open_type_of b.value.ty) i w.in_ok-begun-in-Some.ensures.ok.0 w.in_ok-begun-in-Some.ensures.ok.1 w.in_ok-begun-in-Some.ensures.ok.2 w.in_ok-begun-in-Some.ensures.stays, keeps_then c.args.state.now c.loop.state w.compare_types.new.state c.loop.invariant.1 w.compare_types.ensures.keeps)
    ]

pub elaborate_arrows-loop-rest-init : goal.elaborate_arrows-loop-rest-init
elaborate_arrows-loop-rest-init t c =
    let es = c.args.signature.now in
    let ns = numbers_of c.args.frees.now in
    let D = c.args.state.now.locals in
    let W = written_type_of c.args.written.now in
    let s = made c.args.state.now in
    (no_domains es ns D W s (map open_type_of c.new-domains.result.items) (ap (map open_type_of) c.new-domains.ensures.items) c.requires.stands, keeps_same c.args.state.now)

pub elaborate_arrows-returns-in_err-domain-clause-too_deep : goal.elaborate_arrows-returns-in_err-domain-clause-too_deep
elaborate_arrows-returns-in_err-domain-clause-too_deep t c =
    let es = c.args.signature.now in
    let ns = numbers_of c.args.frees.now in
    let D = c.args.state.now.locals in
    let W = written_type_of c.args.written.now in
    let s = made c.args.state.now in
    let r = c.loop-rest.invariant.0 in
    let l = c.loop-rest.invariant.1.locals in
    let X = written_type_of c.loop-rest.rest.now in
    let t' = made c.loop-rest.state in
    let U = written_type_of c.deref.result.now in
    let As = map open_type_of c.loop-rest.domains.items in
    let x : X ≡ arrow U (written_type_of c.in-Arrow.range.value) = ap written_type_of c.in-Arrow.is ∙ written_type_of-Arrow c.in-Arrow.domain c.in-Arrow.range ∙ ap (λ Z. arrow Z (written_type_of c.in-Arrow.range.value)) (ap written_type_of (sym c.deref.ensures)) in
    λ is. domain_too_deep es ns D W U (written_type_of c.in-Arrow.range.value) X s t' As x (subst (λ F. TypeDeep es ns F U t') l (c.in_err-domain.ensures.too_deep (fault_of_call c.from_residual.result c.in_err-domain.field-0.0 TooDeep (search rules) is))) r

pub elaborate_arrows-returns-in_err-domain-clause-keeps : goal.elaborate_arrows-returns-in_err-domain-clause-keeps
elaborate_arrows-returns-in_err-domain-clause-keeps t c = keeps_then c.args.state.now c.loop-rest.state c.elaborate_type.new.state c.loop-rest.invariant.1 c.elaborate_type.ensures.keeps

pub elaborate_arrows-returns-in_err-push_domain-clause-keeps : goal.elaborate_arrows-returns-in_err-push_domain-clause-keeps
elaborate_arrows-returns-in_err-push_domain-clause-keeps t c = keeps_then c.args.state.now c.loop-rest.state c.elaborate_type.new.state c.loop-rest.invariant.1 c.elaborate_type.ensures.keeps

pub elaborate_arrows-loop-rest-preserved : goal.elaborate_arrows-loop-rest-preserved
elaborate_arrows-loop-rest-preserved t c =
    let es = c.args.signature.now in
    let ns = numbers_of c.args.frees.now in
    let D = c.args.state.now.locals in
    let W = written_type_of c.args.written.now in
    let s = made c.args.state.now in
    let r = c.loop-rest.invariant.0 in
    let l = c.loop-rest.invariant.1.locals in
    let X = written_type_of c.loop-rest.rest.now in
    let t' = made c.loop-rest.state in
    let U = written_type_of c.deref.result.now in
    let As = map open_type_of c.loop-rest.domains.items in
    let V = written_type_of c.deref-rest.result.now in
    let u = made c.elaborate_type.new.state in
    let A = open_type_of c.in_ok-domain.domain in
    let Bs = map open_type_of c.push_domain.new.domains.items in
    let x : X ≡ arrow U V = ap written_type_of c.in-Arrow.is ∙ written_type_of-Arrow c.in-Arrow.domain c.in-Arrow.range ∙ ap₂ arrow (ap written_type_of (sym c.deref.ensures)) (ap written_type_of (sym c.deref-rest.ensures)) in
    let b : Bs ≡ As ++ A ∷ [] = ap (map open_type_of) c.in_ok-push_domain.ensures ∙ map-append open_type_of c.loop-rest.domains.items (c.in_ok-domain.domain ∷ []) in
    let i = subst (λ F. ElaboratesType es ns F U t' u A) l c.in_ok-domain.ensures.ok in
    (one_more_domain es ns D c.requires.canonical W U (V) X s t' u As Bs A x b i r, keeps_then c.args.state.now c.loop-rest.state c.elaborate_type.new.state c.loop-rest.invariant.1 c.elaborate_type.ensures.keeps)

pub elaborate_arrows-returns-in_err-end : goal.elaborate_arrows-returns-in_err-end
elaborate_arrows-returns-in_err-end t c =
    let es = c.args.signature.now in
    let ns = numbers_of c.args.frees.now in
    let D = c.args.state.now.locals in
    let W = written_type_of c.args.written.now in
    let s = made c.args.state.now in
    let r = c.loop-rest.invariant.0 in
    let l = c.loop-rest.invariant.1.locals in
    let X = written_type_of c.loop-rest.rest.now in
    let t' = made c.loop-rest.state in
    record {
      ok = search rules;
      too_deep = λ is. r.deep (subst (λ F. TypeDeep es ns F X t') l (c.in_err-end.ensures.too_deep (fault_of_call c.from_residual-in_err-end.result c.in_err-end.field-0.0 TooDeep (search rules) is)));
      keeps = keeps_then c.args.state.now c.loop-rest.state c.elaborate_type-2.new.state c.loop-rest.invariant.1 c.elaborate_type-2.ensures.keeps;
    }

pub elaborate_arrows-returns-in_err-arrows : goal.elaborate_arrows-returns-in_err-arrows
elaborate_arrows-returns-in_err-arrows t c =
    record { ok = search rules; too_deep = search rules; keeps = keeps_then c.args.state.now c.loop-rest.state c.elaborate_type-2.new.state c.loop-rest.invariant.1 c.elaborate_type-2.ensures.keeps }

pub elaborate_arrows-returns : goal.elaborate_arrows-returns
elaborate_arrows-returns t c =
    let es = c.args.signature.now in
    let ns = numbers_of c.args.frees.now in
    let D = c.args.state.now.locals in
    let W = written_type_of c.args.written.now in
    let s = made c.args.state.now in
    let r = c.loop-rest.invariant.0 in
    let l = c.loop-rest.invariant.1.locals in
    let X = written_type_of c.loop-rest.rest.now in
    let t' = made c.loop-rest.state in
    let u = made c.elaborate_type-2.new.state in
    let B = open_type_of c.in_ok-end.end in
    record {
      ok = subst (ElaboratesType es ns D W s u) (sym c.in_ok-arrows.ensures) (r.elaborated u B (subst (λ F. ElaboratesType es ns F X t' u B) l c.in_ok-end.ensures.ok));
      too_deep = search rules;
      keeps = keeps_then c.args.state.now c.loop-rest.state c.elaborate_type-2.new.state c.loop-rest.invariant.1 c.elaborate_type-2.ensures.keeps;
    }

pub elaborate_kind_arrows-loop-rest-init : goal.elaborate_kind_arrows-loop-rest-init
elaborate_kind_arrows-loop-rest-init t c =
    let es = c.args.signature.now in
    let ns = numbers_of c.args.frees.now in
    let D = c.args.state.now.locals in
    let W = written_kind_of c.args.written.now in
    let s = made c.args.state.now in
    (no_kind_domains es ns D W s (map open_type_of c.new-domains.result.items) (ap (map open_type_of) c.new-domains.ensures.items) c.requires.stands, keeps_same c.args.state.now)

pub elaborate_kind_arrows-returns-in_err-domain-clause-too_deep : goal.elaborate_kind_arrows-returns-in_err-domain-clause-too_deep
elaborate_kind_arrows-returns-in_err-domain-clause-too_deep t c =
    let es = c.args.signature.now in
    let ns = numbers_of c.args.frees.now in
    let D = c.args.state.now.locals in
    let W = written_kind_of c.args.written.now in
    let s = made c.args.state.now in
    let r = c.loop-rest.invariant.0 in
    let l = c.loop-rest.invariant.1.locals in
    let X = written_kind_of c.loop-rest.rest.now in
    let t' = made c.loop-rest.state in
    let U = written_type_of c.deref.result.now in
    let As = map open_type_of c.loop-rest.domains.items in
    let x : X ≡ kind_arrow U (written_kind_of c.in-Arrow.range.value) = ap written_kind_of c.in-Arrow.is ∙ written_kind_of-Arrow c.in-Arrow.domain c.in-Arrow.range ∙ ap (λ Z. kind_arrow Z (written_kind_of c.in-Arrow.range.value)) (ap written_type_of (sym c.deref.ensures)) in
    λ is. kind_domain_too_deep es ns D W (written_kind_of c.in-Arrow.range.value) X U s t' As x (subst (λ F. TypeDeep es ns F U t') l (c.in_err-domain.ensures.too_deep (fault_of_call c.from_residual.result c.in_err-domain.field-0.0 TooDeep (search rules) is))) r

pub elaborate_kind_arrows-returns-in_err-domain-clause-keeps : goal.elaborate_kind_arrows-returns-in_err-domain-clause-keeps
elaborate_kind_arrows-returns-in_err-domain-clause-keeps t c = keeps_then c.args.state.now c.loop-rest.state c.elaborate_type.new.state c.loop-rest.invariant.1 c.elaborate_type.ensures.keeps

pub elaborate_kind_arrows-returns-in_err-push_domain-clause-keeps : goal.elaborate_kind_arrows-returns-in_err-push_domain-clause-keeps
elaborate_kind_arrows-returns-in_err-push_domain-clause-keeps t c = keeps_then c.args.state.now c.loop-rest.state c.elaborate_type.new.state c.loop-rest.invariant.1 c.elaborate_type.ensures.keeps

pub elaborate_kind_arrows-loop-rest-preserved : goal.elaborate_kind_arrows-loop-rest-preserved
elaborate_kind_arrows-loop-rest-preserved t c =
    let es = c.args.signature.now in
    let ns = numbers_of c.args.frees.now in
    let D = c.args.state.now.locals in
    let W = written_kind_of c.args.written.now in
    let s = made c.args.state.now in
    let r = c.loop-rest.invariant.0 in
    let l = c.loop-rest.invariant.1.locals in
    let X = written_kind_of c.loop-rest.rest.now in
    let t' = made c.loop-rest.state in
    let U = written_type_of c.deref.result.now in
    let As = map open_type_of c.loop-rest.domains.items in
    let V = written_kind_of c.deref-rest.result.now in
    let u = made c.elaborate_type.new.state in
    let A = open_type_of c.in_ok-domain.domain in
    let Bs = map open_type_of c.push_domain.new.domains.items in
    let x : X ≡ kind_arrow U V = ap written_kind_of c.in-Arrow.is ∙ written_kind_of-Arrow c.in-Arrow.domain c.in-Arrow.range ∙ ap₂ kind_arrow (ap written_type_of (sym c.deref.ensures)) (ap written_kind_of (sym c.deref-rest.ensures)) in
    let b : Bs ≡ As ++ A ∷ [] = ap (map open_type_of) c.in_ok-push_domain.ensures ∙ map-append open_type_of c.loop-rest.domains.items (c.in_ok-domain.domain ∷ []) in
    let i = subst (λ F. ElaboratesType es ns F U t' u A) l c.in_ok-domain.ensures.ok in
    (one_more_kind_domain es ns D c.requires.canonical W (V) X U s t' u As Bs A x b i r, keeps_then c.args.state.now c.loop-rest.state c.elaborate_type.new.state c.loop-rest.invariant.1 c.elaborate_type.ensures.keeps)

pub elaborate_kind_arrows-returns-in_err-end : goal.elaborate_kind_arrows-returns-in_err-end
elaborate_kind_arrows-returns-in_err-end t c =
    let es = c.args.signature.now in
    let ns = numbers_of c.args.frees.now in
    let D = c.args.state.now.locals in
    let W = written_kind_of c.args.written.now in
    let s = made c.args.state.now in
    let r = c.loop-rest.invariant.0 in
    let l = c.loop-rest.invariant.1.locals in
    let X = written_kind_of c.loop-rest.rest.now in
    let t' = made c.loop-rest.state in
    record {
      ok = search rules;
      too_deep = λ is. r.deep (subst (λ F. KindDeep es ns F X t') l (c.in_err-end.ensures.too_deep (fault_of_call c.from_residual-in_err-end.result c.in_err-end.field-0.0 TooDeep (search rules) is)));
      keeps = keeps_then c.args.state.now c.loop-rest.state c.elaborate_kind.new.state c.loop-rest.invariant.1 c.elaborate_kind.ensures.keeps;
    }

pub elaborate_kind_arrows-returns-in_err-kind_arrows : goal.elaborate_kind_arrows-returns-in_err-kind_arrows
elaborate_kind_arrows-returns-in_err-kind_arrows t c =
    record { ok = search rules; too_deep = search rules; keeps = keeps_then c.args.state.now c.loop-rest.state c.elaborate_kind.new.state c.loop-rest.invariant.1 c.elaborate_kind.ensures.keeps }

pub elaborate_kind_arrows-returns : goal.elaborate_kind_arrows-returns
elaborate_kind_arrows-returns t c =
    let es = c.args.signature.now in
    let ns = numbers_of c.args.frees.now in
    let D = c.args.state.now.locals in
    let W = written_kind_of c.args.written.now in
    let s = made c.args.state.now in
    let r = c.loop-rest.invariant.0 in
    let l = c.loop-rest.invariant.1.locals in
    let X = written_kind_of c.loop-rest.rest.now in
    let t' = made c.loop-rest.state in
    let u = made c.elaborate_kind.new.state in
    let B = open_kind_of c.in_ok-end.end in
    record {
      ok = subst (ElaboratesKind es ns D W s u) (sym c.in_ok-kind_arrows.ensures) (r.elaborated u B (subst (λ F. ElaboratesKind es ns F X t' u B) l c.in_ok-end.ensures.ok));
      too_deep = search rules;
      keeps = keeps_then c.args.state.now c.loop-rest.state c.elaborate_kind.new.state c.loop-rest.invariant.1 c.elaborate_kind.ensures.keeps;
    }
