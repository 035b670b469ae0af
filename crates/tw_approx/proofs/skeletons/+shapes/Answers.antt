use Rattle.std.proofs.Common.{◌∷◌, None, Some, IfOk, arith, refl, sym, ap, ◌∙◌, subst}
use Rattle.std.proofs.lemmas.List.{nil_from_length}
use Rattle.tw_parse.specs.Applied.{written_terms}
use Rattle.tw_approx.specs.Names.{IsFreeIn, IsFreeInDomain}
use Rattle.tw_approx.specs.Reading.{state_of, due_of, TermIsRead, FamilyIsRead, TypeIsRead, DomainIsRead, KindIsRead, RangeIsRead, RestIsRead, IsAscribed, IsFamilyApplied, IsFamilyAscribed}
use Rattle.tw_approx.specs.ReadingRows.{IsBegun, IsResumed}
use Rattle.tw_approx.specs.Skeletons.{type_skeleton, domain_skeleton}
use Rattle.tw_approx.specs.Walks.{filled_all}
use Rattle.tw_names.specs.Scope.{binder_name}
use Rattle.tw_parse.proofs.Views.{term_of-Ident, term_of-Hole, term_of-Star, term_of-Arrow}
use Rattle.tw_parse.specs.Syntax.{arrow, pi, lambda}
use Rattle.tw_parse.specs.View.{term_of, boxed_domain}
use Rattle.tw_shapes.specs.View.{shape_of}
use Rattle.tw_approx.proofs.Answering.{if_ok, term_of-Pi, term_of-Lam, entered, type_read, lambda_read, lambda_unread, head_refuses, family_applying_next, family_applying_argument, family_applying_refuses, family_head_refuses}
use Rattle.tw_approx.proofs.Ascribing.{inner_refuses, inner_family_refuses, type_refused, type_taken, ascription_refused, kind_refused, kind_taken, family_ascription_refused}
use Rattle.tw_approx.proofs.Families.{hole_reads, quantifier_read, quantifier_refuses, rest_read, rest_refuses, range_reads, range_refuses, due_reads, due_refuses}
use Rattle.tw_approx.proofs.Forms.{both_parts, type_refuses_family, lambda_refuses_domain}
use Rattle.tw_approx.proofs.Families.{family_more, star_reads}
use Rattle.tw_approx.proofs.Assigning.{shape_more}
use Rattle.tw_approx.proofs.Views.{due_of-Nothing, due_of-Next}
use Rattle.tw_approx.specs.declared.chains.ArgumentRow.{ArgumentRow}
use Rattle.tw_approx.specs.declared.family.Due.TheVariants.{Nothing, Next}
use Rattle.tw_approx.specs.declared.family.FamilyShape.TheVariants.{Unknown}
use Rattle.tw_shapes.specs.Shapes.{count_of}
use Rattle.tw_approx.proofs.WaitingRows.{first_row, rows_stay, next_asked, outer_asked, row_asked, asked_refused, function_within, argument_taken, argument_refused}
use Rattle.tw_approx.proofs.skeletons.+shapes.Goals as goal
use Rattle.tw_approx.proofs.skeletons.+shapes.Goals.{application_shape-in-Some-pop+in-App+in_ok-push-in-App+in_ok-begun-in-App+in-Some-2, application_shape-in-Some-pop+in-Ident+in_ok-shape-in-Ident+in-Some-3+in_ok-rest-in-Ident+in-Some-4, application_shape-in-None+in-Some-pop-2+in_ok-rest-in-Some-pop-2+in-Some-5}

pub application_shape-loop-init : goal.application_shape-loop-init
application_shape-loop-init t c =
    first_row c.args.signature.now c.new-waiting.result.items c.in-Some.row (term_of c.args.term.now) (state_of c.args.walk.now) (state_of c.begin.new.walk) c.new-waiting.ensures.items (subst (IsBegun c.args.signature.now (state_of c.args.walk.now) (state_of c.begin.new.walk) (term_of c.args.term.now)) c.in-Some.is c.in_ok-row.ensures)

pub application_shape-returns-in-None-2 : goal.application_shape-returns-in-None-2
application_shape-returns-in-None-2 t c =
    let es = c.args.signature.now in
    let rest : ArgumentRow = record { function = c.loop.row.function; arguments = c.pop.new.self } in
    let k = next_asked es c.loop.invariant rest c.in-Some-pop.argument c.in-Some-pop.ensures.items refl in
    asked_refused es k c.requires (subst (IsBegun es (state_of c.loop.walk) (state_of c.begin-in-App.new.walk) (term_of c.in-Some-pop.argument.now)) c.in-None-2.is c.in_ok-begun-in-App.ensures)

pub application_shape-returns-in_default-2 : goal.application_shape-returns-in_default-2
application_shape-returns-in_default-2 t c =
    let es = c.args.signature.now in
    let rest : ArgumentRow = record { function = c.loop.row.function; arguments = c.pop.new.self } in
    let k = next_asked es c.loop.invariant rest c.in-Some-pop.argument c.in-Some-pop.ensures.items refl in
    asked_refused es k c.requires (subst (TermIsRead es (state_of c.loop.walk) (state_of c.term_shape.new.walk) (term_of c.in-Some-pop.argument.now)) c.in_default-2.is c.in_ok-shape-in-Ident.ensures)

pub application_shape-resumed-requires-clause-function : goal.application_shape-resumed-requires-clause-function
application_shape-resumed-requires-clause-function t c =
    let es = c.args.signature.now in
    let rest : ArgumentRow = record { function = c.loop.row.function; arguments = c.pop.new.self } in
    let k = next_asked es c.loop.invariant rest c.in-Some-pop.argument c.in-Some-pop.ensures.items refl in
    function_within es k (subst (TermIsRead es (state_of c.loop.walk) (state_of c.term_shape.new.walk) (term_of c.in-Some-pop.argument.now)) c.in-Some-3.is c.in_ok-shape-in-Ident.ensures)

pub application_shape-returns-in-None-3 : goal.application_shape-returns-in-None-3
application_shape-returns-in-None-3 t c =
    let es = c.args.signature.now in
    let rest : ArgumentRow = record { function = c.loop.row.function; arguments = c.pop.new.self } in
    let k = next_asked es c.loop.invariant rest c.in-Some-pop.argument c.in-Some-pop.ensures.items refl in
    let one = subst (TermIsRead es (state_of c.loop.walk) (state_of c.term_shape.new.walk) (term_of c.in-Some-pop.argument.now)) c.in-Some-3.is c.in_ok-shape-in-Ident.ensures in
    argument_refused es k one c.requires (state_of c.resumed.new.walk) (subst (IsResumed (state_of c.term_shape.new.walk) (state_of c.resumed.new.walk) rest (shape_of c.in-Some-3.shape)) c.in-None-3.is c.in_ok-rest-in-Ident.ensures)

pub application_shape-resumed-requires-in-Some-pop-2-clause-function : goal.application_shape-resumed-requires-in-Some-pop-2-clause-function
application_shape-resumed-requires-in-Some-pop-2-clause-function t c =
    let es = c.args.signature.now in
    let n = nil_from_length c.loop.row.arguments.items (omega (arith, c.in-None.ensures.cases)) in
    let (P, u, k, one) = outer_asked es c.loop.invariant c.pop-in-None.new.self.items c.in-Some-pop-2.outer c.in-Some-pop-2.ensures.items n in
    function_within es k one

pub application_shape-returns-in-None-4 : goal.application_shape-returns-in-None-4
application_shape-returns-in-None-4 t c =
    let es = c.args.signature.now in
    let n = nil_from_length c.loop.row.arguments.items (omega (arith, c.in-None.ensures.cases)) in
    let (P, u, k, one) = outer_asked es c.loop.invariant c.pop-in-None.new.self.items c.in-Some-pop-2.outer c.in-Some-pop-2.ensures.items n in
    argument_refused es k one c.requires (state_of c.resumed-in-Some-pop-2.new.walk) (subst (IsResumed (state_of c.loop.walk) (state_of c.resumed-in-Some-pop-2.new.walk) c.in-Some-pop-2.outer (shape_of c.loop.row.function)) c.in-None-4.is c.in_ok-rest-in-Some-pop-2.ensures)

pub application_shape-loop-preserved : goal.application_shape-loop-preserved
application_shape-loop-preserved t c =
    let es = c.args.signature.now in
    let W = term_of c.args.term.now in
    let s = state_of c.args.walk.now in
    let rest : ArgumentRow = record { function = c.loop.row.function; arguments = c.pop.new.self } in
    elim c.match-pop.branch [
      | application_shape-in-Some-pop+in-App+in_ok-push-in-App+in_ok-begun-in-App+in-Some-2 w ↦
          let k = next_asked es c.loop.invariant rest w.in-Some-pop.argument w.in-Some-pop.ensures.items refl in
          let b = subst (IsBegun es (state_of c.loop.walk) (state_of w.begin-in-App.new.walk) (term_of w.in-Some-pop.argument.now)) w.in-Some-2.is w.in_ok-begun-in-App.ensures in
          rows_stay es c.match-pop.waiting w.push.new.self c.match-pop.row w.in-Some-2.begun c.match-pop.walk w.begin-in-App.new.walk W s w.walk-is w.waiting-is w.row-is
          (row_asked es k w.push.new.self.items w.in-Some-2.begun (state_of w.begin-in-App.new.walk) w.in_ok-push-in-App.ensures.items b)
      | application_shape-in-Some-pop+in-Ident+in_ok-shape-in-Ident+in-Some-3+in_ok-rest-in-Ident+in-Some-4 w ↦
          let k = next_asked es c.loop.invariant rest w.in-Some-pop.argument w.in-Some-pop.ensures.items refl in
          let one = subst (TermIsRead es (state_of c.loop.walk) (state_of w.term_shape.new.walk) (term_of w.in-Some-pop.argument.now)) w.in-Some-3.is w.in_ok-shape-in-Ident.ensures in
          let two = subst (IsResumed (state_of w.term_shape.new.walk) (state_of w.resumed.new.walk) rest (shape_of w.in-Some-3.shape)) w.in-Some-4.is w.in_ok-rest-in-Ident.ensures in
          rows_stay es c.match-pop.waiting c.loop.waiting c.match-pop.row w.in-Some-4.rest c.match-pop.walk w.resumed.new.walk W s w.walk-is w.waiting-is w.row-is
          (argument_taken es k one c.requires (state_of w.resumed.new.walk) w.in-Some-4.rest two)
      | application_shape-in-None+in-Some-pop-2+in_ok-rest-in-Some-pop-2+in-Some-5 w ↦
          let n = nil_from_length c.loop.row.arguments.items (omega (arith, w.in-None.ensures.cases)) in
          let (P, u, k, one) = outer_asked es c.loop.invariant w.pop-in-None.new.self.items w.in-Some-pop-2.outer w.in-Some-pop-2.ensures.items n in
          let two = subst (IsResumed (state_of c.loop.walk) (state_of w.resumed-in-Some-pop-2.new.walk) w.in-Some-pop-2.outer (shape_of c.loop.row.function)) w.in-Some-5.is w.in_ok-rest-in-Some-pop-2.ensures in
          rows_stay es c.match-pop.waiting w.pop-in-None.new.self c.match-pop.row w.in-Some-5.rest c.match-pop.walk w.resumed-in-Some-pop-2.new.walk W s w.walk-is w.waiting-is w.row-is
          (argument_taken es k one c.requires (state_of w.resumed-in-Some-pop-2.new.walk) w.in-Some-5.rest two)
    ]

pub begin-returns : goal.begin-returns
begin-returns t c =
    head_refuses c.args.signature.now (state_of c.args.walk.now) c.requires (term_of c.in_ok-head.head.now) (term_of c.args.term.now) (written_terms c.in_ok-head.arguments.items) c.in_ok-head.ensures (subst (TermIsRead c.args.signature.now (state_of c.args.walk.now) (state_of c.term_shape.new.walk) (term_of c.in_ok-head.head.now)) c.in-None.is c.in_ok-function.ensures)

pub ascribed_family-returns-in_default : goal.ascribed_family-returns-in_default
ascribed_family-returns-in_default t c =
    inner_family_refuses c.args.signature.now (state_of c.args.walk.now) c.requires (term_of c.in_ok-inner.inner.now) (term_of c.args.term.now) (written_terms c.in_ok-inner.kinds.items) c.in_ok-inner.ensures (subst (FamilyIsRead c.args.signature.now (state_of c.args.walk.now) (state_of c.family_shape.new.walk) (term_of c.in_ok-inner.inner.now)) c.in_default.is c.in_ok-family.ensures)

pub ascribed_family-returns-in_default-2 : goal.ascribed_family-returns-in_default-2
ascribed_family-returns-in_default-2 t c =
    let k = subst (KindIsRead c.args.signature.now (state_of c.loop-kind.walk) (state_of c.kind_due.new.walk) (term_of c.in-Some-pop.kind.now)) c.in_default-2.is c.in_ok-expected.ensures in
    kind_refused c.args.signature.now (state_of c.args.walk.now) c.requires c.loop-kind.invariant c.pop.new.self.items c.in-Some-pop.kind c.in-Some-pop.ensures.items k

pub ascribed_family-of_kind-requires-clause-family : goal.ascribed_family-of_kind-requires-clause-family
ascribed_family-of_kind-requires-clause-family t c =
    let k = subst (KindIsRead c.args.signature.now (state_of c.loop-kind.walk) (state_of c.kind_due.new.walk) (term_of c.in-Some-pop.kind.now)) c.in-Some-2.is c.in_ok-expected.ensures in
    family_more (count_of c.loop-kind.walk.shapes) (count_of c.kind_due.new.walk.shapes) c.loop-kind.family k.reading.count c.loop-kind.invariant.2.within

pub ascribed_family-loop-kind-preserved : goal.ascribed_family-loop-kind-preserved
ascribed_family-loop-kind-preserved t c =
    let k = subst (KindIsRead c.args.signature.now (state_of c.loop-kind.walk) (state_of c.kind_due.new.walk) (term_of c.in-Some-pop.kind.now)) c.in-Some-2.is c.in_ok-expected.ensures in
    kind_taken c.args.signature.now (state_of c.args.walk.now) c.requires c.loop-kind.invariant c.pop.new.self.items c.in-Some-pop.kind c.in-Some-pop.ensures.items k (state_of c.of_kind.new.walk) c.in-Some-3.result
    (subst (IsFamilyAscribed (state_of c.kind_due.new.walk) (state_of c.of_kind.new.walk) c.loop-kind.family (due_of c.in-Some-2.expected)) c.in-Some-3.is c.in_ok-result.ensures)

pub ascribed_family-returns-in-None : goal.ascribed_family-returns-in-None
ascribed_family-returns-in-None t c =
    let k = subst (KindIsRead c.args.signature.now (state_of c.loop-kind.walk) (state_of c.kind_due.new.walk) (term_of c.in-Some-pop.kind.now)) c.in-Some-2.is c.in_ok-expected.ensures in
    family_ascription_refused c.args.signature.now (state_of c.args.walk.now) c.requires c.loop-kind.invariant c.pop.new.self.items c.in-Some-pop.kind c.in-Some-pop.ensures.items k
    (subst (IsFamilyAscribed (state_of c.kind_due.new.walk) (state_of c.of_kind.new.walk) c.loop-kind.family (due_of c.in-Some-2.expected)) c.in-None.is c.in_ok-result.ensures)

pub ascription_shape-returns-in_default : goal.ascription_shape-returns-in_default
ascription_shape-returns-in_default t c =
    inner_refuses c.args.signature.now (state_of c.args.walk.now) c.requires (term_of c.in_ok-inner.inner.now) (term_of c.args.term.now) (written_terms c.in_ok-inner.types.items) c.in_ok-inner.ensures (subst (TermIsRead c.args.signature.now (state_of c.args.walk.now) (state_of c.term_shape.new.walk) (term_of c.in_ok-inner.inner.now)) c.in_default.is c.in_ok-shape.ensures)

pub ascription_shape-returns-in_default-2 : goal.ascription_shape-returns-in_default-2
ascription_shape-returns-in_default-2 t c =
    let k = subst (TypeIsRead c.args.signature.now (state_of c.loop-ty.walk) (state_of c.type_shape.new.walk) (term_of c.in-Some-pop.ty.now)) c.in_default-2.is c.in_ok-expected.ensures in
    type_refused c.args.signature.now (state_of c.args.walk.now) c.requires c.loop-ty.invariant c.pop.new.self.items c.in-Some-pop.ty c.in-Some-pop.ensures.items k

pub ascription_shape-ascribed-requires-clause-shape : goal.ascription_shape-ascribed-requires-clause-shape
ascription_shape-ascribed-requires-clause-shape t c =
    let k = subst (TypeIsRead c.args.signature.now (state_of c.loop-ty.walk) (state_of c.type_shape.new.walk) (term_of c.in-Some-pop.ty.now)) c.in-Some-2.is c.in_ok-expected.ensures in
    shape_more (count_of c.loop-ty.walk.shapes) (count_of c.type_shape.new.walk.shapes) (shape_of c.loop-ty.shape) k.reading.count c.loop-ty.invariant.2.within

pub ascription_shape-loop-ty-preserved : goal.ascription_shape-loop-ty-preserved
ascription_shape-loop-ty-preserved t c =
    let k = subst (TypeIsRead c.args.signature.now (state_of c.loop-ty.walk) (state_of c.type_shape.new.walk) (term_of c.in-Some-pop.ty.now)) c.in-Some-2.is c.in_ok-expected.ensures in
    type_taken c.args.signature.now (state_of c.args.walk.now) c.requires c.loop-ty.invariant c.pop.new.self.items c.in-Some-pop.ty c.in-Some-pop.ensures.items k (state_of c.ascribed.new.walk) (shape_of c.in-Some-3.result)
    (subst (IsAscribed (state_of c.type_shape.new.walk) (state_of c.ascribed.new.walk) (shape_of c.loop-ty.shape) (shape_of c.in-Some-2.expected)) c.in-Some-3.is c.in_ok-result.ensures)

pub ascription_shape-returns-in-None : goal.ascription_shape-returns-in-None
ascription_shape-returns-in-None t c =
    let k = subst (TypeIsRead c.args.signature.now (state_of c.loop-ty.walk) (state_of c.type_shape.new.walk) (term_of c.in-Some-pop.ty.now)) c.in-Some-2.is c.in_ok-expected.ensures in
    ascription_refused c.args.signature.now (state_of c.args.walk.now) c.requires c.loop-ty.invariant c.pop.new.self.items c.in-Some-pop.ty c.in-Some-pop.ensures.items k
    (subst (IsAscribed (state_of c.type_shape.new.walk) (state_of c.ascribed.new.walk) (shape_of c.loop-ty.shape) (shape_of c.in-Some-2.expected)) c.in-None.is c.in_ok-result.ensures)

pub applied_family-returns-in_default : goal.applied_family-returns-in_default
applied_family-returns-in_default t c =
    family_head_refuses c.args.signature.now (state_of c.args.walk.now) c.requires (term_of c.in_ok-head.head.now) (term_of c.args.term.now) (written_terms c.in_ok-head.arguments.items) c.in_ok-head.ensures (subst (FamilyIsRead c.args.signature.now (state_of c.args.walk.now) (state_of c.family_shape.new.walk) (term_of c.in_ok-head.head.now)) c.in_default.is c.in_ok-family.ensures)

pub applied_family-returns-in_default-2 : goal.applied_family-returns-in_default-2
applied_family-returns-in_default-2 t c =
    family_applying_argument c.args.signature.now (state_of c.args.walk.now) c.requires (term_of c.args.term.now) c.loop-argument.arguments.items c.pop.new.self.items c.in-Some-pop.argument (state_of c.loop-argument.walk) c.loop-argument.family c.in-Some-pop.ensures.items c.loop-argument.invariant (subst (TermIsRead c.args.signature.now (state_of c.loop-argument.walk) (state_of c.term_shape.new.walk) (term_of c.in-Some-pop.argument.now)) c.in_default-2.is c.in_ok-argument.ensures)

pub applied_family-on_argument-requires-clause-family : goal.applied_family-on_argument-requires-clause-family
applied_family-on_argument-requires-clause-family t c =
    let r = c.loop-argument.invariant.2 in
    let u = (subst (TermIsRead c.args.signature.now (state_of c.loop-argument.walk) (state_of c.term_shape.new.walk) (term_of c.in-Some-pop.argument.now)) c.in-Some-2.is c.in_ok-argument.ensures) in
    family_more (count_of c.loop-argument.walk.shapes) (count_of c.term_shape.new.walk.shapes) c.loop-argument.family u.reading.count r.within

pub applied_family-loop-argument-preserved : goal.applied_family-loop-argument-preserved
applied_family-loop-argument-preserved t c =
    family_applying_next c.args.signature.now (state_of c.args.walk.now) c.requires (term_of c.args.term.now) c.loop-argument.arguments.items c.pop.new.self.items c.in-Some-pop.argument (state_of c.loop-argument.walk) (state_of c.term_shape.new.walk) (state_of c.on_argument.new.walk) c.loop-argument.family c.in-Some-3.result (shape_of c.in-Some-2.argument) c.in-Some-pop.ensures.items c.loop-argument.invariant (subst (TermIsRead c.args.signature.now (state_of c.loop-argument.walk) (state_of c.term_shape.new.walk) (term_of c.in-Some-pop.argument.now)) c.in-Some-2.is c.in_ok-argument.ensures)
    (subst (IsFamilyApplied (state_of c.term_shape.new.walk) (state_of c.on_argument.new.walk) c.loop-argument.family (shape_of c.in-Some-2.argument)) c.in-Some-3.is c.in_ok-result.ensures)

pub applied_family-returns-in-None : goal.applied_family-returns-in-None
applied_family-returns-in-None t c =
    family_applying_refuses c.args.signature.now (state_of c.args.walk.now) c.requires (term_of c.args.term.now) c.loop-argument.arguments.items c.pop.new.self.items c.in-Some-pop.argument (state_of c.loop-argument.walk) (state_of c.term_shape.new.walk) c.loop-argument.family (shape_of c.in-Some-2.argument) c.in-Some-pop.ensures.items c.loop-argument.invariant (subst (TermIsRead c.args.signature.now (state_of c.loop-argument.walk) (state_of c.term_shape.new.walk) (term_of c.in-Some-pop.argument.now)) c.in-Some-2.is c.in_ok-argument.ensures)
    (subst (IsFamilyApplied (state_of c.term_shape.new.walk) (state_of c.on_argument.new.walk) c.loop-argument.family (shape_of c.in-Some-2.argument)) c.in-None.is c.in_ok-result.ensures)

pub arrow_shape-returns-in-Some : goal.arrow_shape-returns-in-Some
arrow_shape-returns-in-Some t c =
    if_ok c.range_shape.result _ _ (quantifier_read c.args.signature.now (state_of c.args.walk.now) c.requires (λ f θ. type_skeleton c.args.signature.now f c.args.walk.now.scope (filled_all θ (state_of c.args.walk.now).context) (term_of c.args.domain.now)) (λ y. IsFreeIn c.args.signature.now y c.args.walk.now.scope (term_of c.args.domain.now)) (λ y. IsFreeIn c.args.signature.now y c.args.walk.now.scope (arrow (term_of c.args.domain.now) (term_of c.args.range.now))) None (term_of c.args.range.now) (state_of c.type_shape.new.walk) (state_of c.range_shape.new.walk) (shape_of c.in-Some.domain) (both_parts (λ y. IsFreeIn c.args.signature.now y c.args.walk.now.scope (term_of c.args.domain.now)) (λ y. IsFreeIn c.args.signature.now y (None ∷ c.args.walk.now.scope) (term_of c.args.range.now))) (subst (TypeIsRead c.args.signature.now (state_of c.args.walk.now) (state_of c.type_shape.new.walk) (term_of c.args.domain.now)) c.in-Some.is c.in_ok-domain.ensures)) c.range_shape.ensures

pub arrow_shape-returns-in-None : goal.arrow_shape-returns-in-None
arrow_shape-returns-in-None t c =
    quantifier_refuses c.args.signature.now (state_of c.args.walk.now) c.requires (λ f θ. type_skeleton c.args.signature.now f c.args.walk.now.scope (filled_all θ (state_of c.args.walk.now).context) (term_of c.args.domain.now)) None (term_of c.args.range.now) (subst (TypeIsRead c.args.signature.now (state_of c.args.walk.now) (state_of c.type_shape.new.walk) (term_of c.args.domain.now)) c.in-None.is c.in_ok-domain.ensures)

pub domain_shape-returns-in-Some : goal.domain_shape-returns-in-Some
domain_shape-returns-in-Some t c =
    subst (λ d. IfOk c.type_shape.result (DomainIsRead c.args.signature.now (state_of c.args.walk.now) (state_of c.type_shape.new.walk) (boxed_domain d))) (sym c.in-Some.is) (subst (λ m. IfOk c.type_shape.result (TypeIsRead c.args.signature.now (state_of c.args.walk.now) (state_of c.type_shape.new.walk) (term_of m))) c.deref.ensures c.type_shape.ensures)

pub domain_shape-returns-in_ok-omit-in-None : goal.domain_shape-returns-in_ok-omit-in-None
domain_shape-returns-in_ok-omit-in-None t c =
    subst (λ d. DomainIsRead c.args.signature.now (state_of c.args.walk.now) (state_of c.omit.new.self) (boxed_domain d) (Some c.in_ok-omit-in-None.field-0)) (sym c.in-None.is) c.in_ok-omit-in-None.ensures

pub family_shape-returns-in-Ident : goal.family_shape-returns-in-Ident
family_shape-returns-in-Ident t c =
    let q = ap term_of c.in-Ident.is ∙ term_of-Ident c.in-Ident.name c.in-Ident.field-1 in
    subst (λ m. IfOk c.named_family.result (FamilyIsRead c.args.signature.now (state_of c.args.walk.now) (state_of c.args.walk.now) m)) (sym q) (c.named_family.ensures (state_of c.args.walk.now) c.requires)

pub family_shape-returns-in_ok-omit-in-Hole : goal.family_shape-returns-in_ok-omit-in-Hole
family_shape-returns-in_ok-omit-in-Hole t c =
    let q = ap term_of c.in-Hole.is ∙ term_of-Hole c.in-Hole.field-0 in
    subst (λ m. FamilyIsRead c.args.signature.now (state_of c.args.walk.now) (state_of c.omit.new.self) m (Some (Unknown c.in_ok-omit-in-Hole.field-0))) (sym q) (hole_reads c.args.signature.now (state_of c.args.walk.now) c.requires (state_of c.omit.new.self) c.in_ok-omit-in-Hole.field-0 c.in_ok-omit-in-Hole.ensures)

pub family_shape-returns-in-Pi : goal.family_shape-returns-in-Pi
family_shape-returns-in-Pi t c =
    let q = ap term_of c.in-Pi.is ∙ term_of-Pi c.in-Pi.name c.in-Pi.field-1 c.in-Pi.domain c.in-Pi.range in
    subst (λ m. IfOk c.pi_shape.result (FamilyIsRead c.args.signature.now (state_of c.args.walk.now) (state_of c.pi_shape.new.walk) m)) (sym q) (subst (λ m. IfOk c.pi_shape.result (FamilyIsRead c.args.signature.now (state_of c.args.walk.now) (state_of c.pi_shape.new.walk) (pi c.in-Pi.name c.in-Pi.field-1 (boxed_domain c.in-Pi.domain) (term_of m)))) c.deref-in-Pi.ensures (c.pi_shape.ensures c.in-Pi.field-1))

pub kind_due-returns-in-Star : goal.kind_due-returns-in-Star
kind_due-returns-in-Star t c =
    let q = ap term_of c.in-Star.is ∙ term_of-Star in
    subst (λ m. KindIsRead c.args.signature.now (state_of c.args.walk.now) (state_of c.args.walk.now) m (Some Nothing)) (sym q) (star_reads c.args.signature.now (state_of c.args.walk.now) c.requires)

pub kind_due-returns-in-Some : goal.kind_due-returns-in-Some
kind_due-returns-in-Some t c =
    let q = ap term_of c.in-Arrow.is ∙ term_of-Arrow c.in-Arrow.domain c.in-Arrow.rest in
    let rest = subst (λ m. IfOk c.rest_due.result (RestIsRead c.args.signature.now (state_of c.type_shape.new.walk) (state_of c.rest_due.new.walk) None (shape_of c.in-Some.domain) (term_of m))) c.deref-in-Some.ensures c.rest_due.ensures in
    subst (λ m. IfOk c.rest_due.result (KindIsRead c.args.signature.now (state_of c.args.walk.now) (state_of c.rest_due.new.walk) m)) (sym q) (if_ok c.rest_due.result _ _ (rest_read c.args.signature.now (state_of c.args.walk.now) c.requires (λ f θ. type_skeleton c.args.signature.now f c.args.walk.now.scope (filled_all θ (state_of c.args.walk.now).context) (term_of c.in-Arrow.domain.value)) (λ y. IsFreeIn c.args.signature.now y c.args.walk.now.scope (term_of c.in-Arrow.domain.value)) (λ y. IsFreeIn c.args.signature.now y c.args.walk.now.scope (arrow (term_of c.in-Arrow.domain.value) (term_of c.in-Arrow.rest.value))) None (term_of c.in-Arrow.rest.value) (state_of c.type_shape.new.walk) (state_of c.rest_due.new.walk) (shape_of c.in-Some.domain) (both_parts (λ y. IsFreeIn c.args.signature.now y c.args.walk.now.scope (term_of c.in-Arrow.domain.value)) (λ y. IsFreeIn c.args.signature.now y (None ∷ c.args.walk.now.scope) (term_of c.in-Arrow.rest.value))) (subst (TypeIsRead c.args.signature.now (state_of c.args.walk.now) (state_of c.type_shape.new.walk) (term_of c.in-Arrow.domain.value)) c.in-Some.is (subst (λ m. TypeIsRead c.args.signature.now (state_of c.args.walk.now) (state_of c.type_shape.new.walk) (term_of m) c.in_ok-domain-in-Arrow.field-0) c.deref.ensures c.in_ok-domain-in-Arrow.ensures))) rest)

pub kind_due-returns-in-None : goal.kind_due-returns-in-None
kind_due-returns-in-None t c =
    let q = ap term_of c.in-Arrow.is ∙ term_of-Arrow c.in-Arrow.domain c.in-Arrow.rest in
    subst (λ m. KindIsRead c.args.signature.now (state_of c.args.walk.now) (state_of c.args.walk.now) m None) (sym q) (rest_refuses c.args.signature.now (state_of c.args.walk.now) c.requires (λ f θ. type_skeleton c.args.signature.now f c.args.walk.now.scope (filled_all θ (state_of c.args.walk.now).context) (term_of c.in-Arrow.domain.value)) None (term_of c.in-Arrow.rest.value) (subst (TypeIsRead c.args.signature.now (state_of c.args.walk.now) (state_of c.type_shape.new.walk) (term_of c.in-Arrow.domain.value)) c.in-None.is (subst (λ m. TypeIsRead c.args.signature.now (state_of c.args.walk.now) (state_of c.type_shape.new.walk) (term_of m) c.in_ok-domain-in-Arrow.field-0) c.deref.ensures c.in_ok-domain-in-Arrow.ensures)))

pub kind_due-returns-in_ok-name-in-Some-2 : goal.kind_due-returns-in_ok-name-in-Some-2
kind_due-returns-in_ok-name-in-Some-2 t c =
    let q = ap term_of c.in-Pi.is ∙ term_of-Pi c.in-Pi.name c.in-Pi.field-1 c.in-Pi.domain c.in-Pi.rest in
    let x = binder_name c.in-Pi.name in
    let rest = subst (λ m. IfOk c.rest_due-in-Some-2.result (RestIsRead c.args.signature.now (state_of c.domain_shape.new.walk) (state_of c.rest_due-in-Some-2.new.walk) x (shape_of c.in-Some-2.domain) (term_of m))) c.deref-in-Some-2.ensures (subst (λ n. IfOk c.rest_due-in-Some-2.result (RestIsRead c.args.signature.now (state_of c.domain_shape.new.walk) (state_of c.rest_due-in-Some-2.new.walk) n (shape_of c.in-Some-2.domain) (term_of c.deref-in-Some-2.result.now))) c.in_ok-name-in-Some-2.ensures c.rest_due-in-Some-2.ensures) in
    subst (λ m. IfOk c.rest_due-in-Some-2.result (KindIsRead c.args.signature.now (state_of c.args.walk.now) (state_of c.rest_due-in-Some-2.new.walk) m)) (sym q) (if_ok c.rest_due-in-Some-2.result _ _ (rest_read c.args.signature.now (state_of c.args.walk.now) c.requires (λ f θ. domain_skeleton c.args.signature.now f c.args.walk.now.scope (filled_all θ (state_of c.args.walk.now).context) (boxed_domain c.in-Pi.domain)) (λ y. IsFreeInDomain c.args.signature.now y c.args.walk.now.scope (boxed_domain c.in-Pi.domain)) (λ y. IsFreeIn c.args.signature.now y c.args.walk.now.scope (pi c.in-Pi.name c.in-Pi.field-1 (boxed_domain c.in-Pi.domain) (term_of c.in-Pi.rest.value))) x (term_of c.in-Pi.rest.value) (state_of c.domain_shape.new.walk) (state_of c.rest_due-in-Some-2.new.walk) (shape_of c.in-Some-2.domain) (both_parts (λ y. IsFreeInDomain c.args.signature.now y c.args.walk.now.scope (boxed_domain c.in-Pi.domain)) (λ y. IsFreeIn c.args.signature.now y (x ∷ c.args.walk.now.scope) (term_of c.in-Pi.rest.value))) (subst (DomainIsRead c.args.signature.now (state_of c.args.walk.now) (state_of c.domain_shape.new.walk) (boxed_domain c.in-Pi.domain)) c.in-Some-2.is c.in_ok-domain-in-Pi.ensures)) rest)

pub kind_due-returns-in-None-2 : goal.kind_due-returns-in-None-2
kind_due-returns-in-None-2 t c =
    let q = ap term_of c.in-Pi.is ∙ term_of-Pi c.in-Pi.name c.in-Pi.field-1 c.in-Pi.domain c.in-Pi.rest in
    subst (λ m. KindIsRead c.args.signature.now (state_of c.args.walk.now) (state_of c.args.walk.now) m None) (sym q) (rest_refuses c.args.signature.now (state_of c.args.walk.now) c.requires (λ f θ. domain_skeleton c.args.signature.now f c.args.walk.now.scope (filled_all θ (state_of c.args.walk.now).context) (boxed_domain c.in-Pi.domain)) (binder_name c.in-Pi.name) (term_of c.in-Pi.rest.value) (subst (DomainIsRead c.args.signature.now (state_of c.args.walk.now) (state_of c.domain_shape.new.walk) (boxed_domain c.in-Pi.domain)) c.in-None-2.is c.in_ok-domain-in-Pi.ensures))

pub lambda_shape-returns-in_default : goal.lambda_shape-returns-in_default
lambda_shape-returns-in_default t c =
    λ at. lambda_refuses_domain c.args.signature.now (state_of c.args.walk.now) c.requires c.args.name.now at (boxed_domain c.args.domain.now) (term_of c.args.body.now) (subst (DomainIsRead c.args.signature.now (state_of c.args.walk.now) (state_of c.domain_shape.new.walk) (boxed_domain c.args.domain.now)) c.in_default.is c.in_ok-domain.ensures)

pub lambda_shape-returns-in_default-2 : goal.lambda_shape-returns-in_default-2
lambda_shape-returns-in_default-2 t c =
    λ at. lambda_unread c.args.signature.now (state_of c.args.walk.now) c.requires c.args.name.now at (boxed_domain c.args.domain.now) (term_of c.args.body.now) (state_of c.domain_shape.new.walk) (state_of c.enter.new.self) (shape_of c.in-Some.domain) (subst (DomainIsRead c.args.signature.now (state_of c.args.walk.now) (state_of c.domain_shape.new.walk) (boxed_domain c.args.domain.now)) c.in-Some.is c.in_ok-domain.ensures) (entered (state_of c.enter.new.self) c.in_ok-binder_name.field-0 (binder_name c.args.name.now) (shape_of c.in_ok-copy.field-0) (shape_of c.in-Some.domain) (state_of c.domain_shape.new.walk) c.in_ok-enter.ensures c.in_ok-binder_name.ensures c.in_ok-copy.ensures) (subst (TermIsRead c.args.signature.now (state_of c.enter.new.self) (state_of c.term_shape.new.walk) (term_of c.args.body.now)) c.in_default-2.is c.in_ok-range.ensures)

pub lambda_shape-returns : goal.lambda_shape-returns
lambda_shape-returns t c =
    λ at. lambda_read c.args.signature.now (state_of c.args.walk.now) c.requires c.args.name.now at (boxed_domain c.args.domain.now) (term_of c.args.body.now) (state_of c.domain_shape.new.walk) (state_of c.enter.new.self) (state_of c.term_shape.new.walk) (state_of c.leave.new.self) (shape_of c.in-Some.domain) (shape_of c.in-Some-2.range) c.in_ok-arrow.field-0 (subst (DomainIsRead c.args.signature.now (state_of c.args.walk.now) (state_of c.domain_shape.new.walk) (boxed_domain c.args.domain.now)) c.in-Some.is c.in_ok-domain.ensures) (entered (state_of c.enter.new.self) c.in_ok-binder_name.field-0 (binder_name c.args.name.now) (shape_of c.in_ok-copy.field-0) (shape_of c.in-Some.domain) (state_of c.domain_shape.new.walk) c.in_ok-enter.ensures c.in_ok-binder_name.ensures c.in_ok-copy.ensures) (subst (TermIsRead c.args.signature.now (state_of c.enter.new.self) (state_of c.term_shape.new.walk) (term_of c.args.body.now)) c.in-Some-2.is c.in_ok-range.ensures) c.leave.ensures c.in_ok-arrow.ensures

pub pi_shape-returns-in_ok-name-in-Some : goal.pi_shape-returns-in_ok-name-in-Some
pi_shape-returns-in_ok-name-in-Some t c =
    λ at.
    let x = binder_name c.args.name.now in
    let range = subst (λ n. IfOk c.range_shape.result (RangeIsRead c.args.signature.now (state_of c.domain_shape.new.walk) (state_of c.range_shape.new.walk) n (shape_of c.in-Some.domain) (term_of c.args.range.now))) c.in_ok-name-in-Some.ensures c.range_shape.ensures in
    if_ok c.range_shape.result _ _ (quantifier_read c.args.signature.now (state_of c.args.walk.now) c.requires (λ f θ. domain_skeleton c.args.signature.now f c.args.walk.now.scope (filled_all θ (state_of c.args.walk.now).context) (boxed_domain c.args.domain.now)) (λ y. IsFreeInDomain c.args.signature.now y c.args.walk.now.scope (boxed_domain c.args.domain.now)) (λ y. IsFreeIn c.args.signature.now y c.args.walk.now.scope (pi c.args.name.now at (boxed_domain c.args.domain.now) (term_of c.args.range.now))) x (term_of c.args.range.now) (state_of c.domain_shape.new.walk) (state_of c.range_shape.new.walk) (shape_of c.in-Some.domain) (both_parts (λ y. IsFreeInDomain c.args.signature.now y c.args.walk.now.scope (boxed_domain c.args.domain.now)) (λ y. IsFreeIn c.args.signature.now y (x ∷ c.args.walk.now.scope) (term_of c.args.range.now))) (subst (DomainIsRead c.args.signature.now (state_of c.args.walk.now) (state_of c.domain_shape.new.walk) (boxed_domain c.args.domain.now)) c.in-Some.is c.in_ok-domain.ensures)) range

pub pi_shape-returns-in-None : goal.pi_shape-returns-in-None
pi_shape-returns-in-None t c =
    λ at. quantifier_refuses c.args.signature.now (state_of c.args.walk.now) c.requires (λ f θ. domain_skeleton c.args.signature.now f c.args.walk.now.scope (filled_all θ (state_of c.args.walk.now).context) (boxed_domain c.args.domain.now)) (binder_name c.args.name.now) (term_of c.args.range.now) (subst (DomainIsRead c.args.signature.now (state_of c.args.walk.now) (state_of c.domain_shape.new.walk) (boxed_domain c.args.domain.now)) c.in-None.is c.in_ok-domain.ensures)

pub range_shape-returns-in_default : goal.range_shape-returns-in_default
range_shape-returns-in_default t c =
    range_refuses c.args.signature.now (state_of c.args.walk.now) c.requires.sound c.args.name (shape_of c.args.domain) (term_of c.args.range.now) (state_of c.enter.new.self) (state_of c.type_shape.new.walk) (entered (state_of c.enter.new.self) c.args.name c.args.name (shape_of c.in_ok-copy.field-0) (shape_of c.args.domain) (state_of c.args.walk.now) c.in_ok-enter.ensures refl c.in_ok-copy.ensures) (subst (TypeIsRead c.args.signature.now (state_of c.enter.new.self) (state_of c.type_shape.new.walk) (term_of c.args.range.now)) c.in_default.is c.in_ok-range.ensures)

pub range_shape-returns : goal.range_shape-returns
range_shape-returns t c =
    range_reads c.args.signature.now (state_of c.args.walk.now) c.requires.sound c.args.name (shape_of c.args.domain) (term_of c.args.range.now) (state_of c.enter.new.self) (state_of c.type_shape.new.walk) (state_of c.leave.new.self) (shape_of c.in-Some.range) Nothing c.in_ok-target.target (entered (state_of c.enter.new.self) c.args.name c.args.name (shape_of c.in_ok-copy.field-0) (shape_of c.args.domain) (state_of c.args.walk.now) c.in_ok-enter.ensures refl c.in_ok-copy.ensures) c.leave.ensures due_of-Nothing c.in_ok-target.ensures c.requires.domain (subst (TypeIsRead c.args.signature.now (state_of c.enter.new.self) (state_of c.type_shape.new.walk) (term_of c.args.range.now)) c.in-Some.is c.in_ok-range.ensures)

pub rest_due-returns-in_default : goal.rest_due-returns-in_default
rest_due-returns-in_default t c =
    due_refuses c.args.signature.now (state_of c.args.walk.now) c.requires.sound c.args.name (shape_of c.args.domain) (term_of c.args.rest.now) (state_of c.enter.new.self) (state_of c.kind_due.new.walk) (entered (state_of c.enter.new.self) c.args.name c.args.name (shape_of c.in_ok-copy.field-0) (shape_of c.args.domain) (state_of c.args.walk.now) c.in_ok-enter.ensures refl c.in_ok-copy.ensures) (subst (KindIsRead c.args.signature.now (state_of c.enter.new.self) (state_of c.kind_due.new.walk) (term_of c.args.rest.now)) c.in_default.is c.in_ok-due.ensures)

pub rest_due-returns : goal.rest_due-returns
rest_due-returns t c =
    let d = due_of-Next c.args.domain c.in_ok-new.field-0 ∙ ap (λ e. shape_of c.args.domain ∷ due_of e) c.in_ok-new.ensures.ok in
    due_reads c.args.signature.now (state_of c.args.walk.now) c.requires.sound c.args.name (shape_of c.args.domain) (term_of c.args.rest.now) (state_of c.enter.new.self) (state_of c.kind_due.new.walk) (state_of c.leave.new.self) c.in-Some.due (Next c.args.domain c.in_ok-new.field-0) (entered (state_of c.enter.new.self) c.args.name c.args.name (shape_of c.in_ok-copy.field-0) (shape_of c.args.domain) (state_of c.args.walk.now) c.in_ok-enter.ensures refl c.in_ok-copy.ensures) c.leave.ensures d c.requires.domain (subst (KindIsRead c.args.signature.now (state_of c.enter.new.self) (state_of c.kind_due.new.walk) (term_of c.args.rest.now)) c.in-Some.is c.in_ok-due.ensures)

pub term_shape-returns-in-Ident : goal.term_shape-returns-in-Ident
term_shape-returns-in-Ident t c =
    let q = ap term_of c.in-Ident.is ∙ term_of-Ident c.in-Ident.name c.in-Ident.field-1 in
    subst (λ m. IfOk c.name_shape.result (TermIsRead c.args.signature.now (state_of c.args.walk.now) (state_of c.name_shape.new.walk) m)) (sym q) c.name_shape.ensures

pub term_shape-returns-in_ok-omit-in-Hole : goal.term_shape-returns-in_ok-omit-in-Hole
term_shape-returns-in_ok-omit-in-Hole t c =
    let q = ap term_of c.in-Hole.is ∙ term_of-Hole c.in-Hole.field-0 in
    subst (λ m. TermIsRead c.args.signature.now (state_of c.args.walk.now) (state_of c.omit.new.self) m (Some c.in_ok-omit-in-Hole.field-0)) (sym q) c.in_ok-omit-in-Hole.ensures

pub term_shape-returns-in-Lam : goal.term_shape-returns-in-Lam
term_shape-returns-in-Lam t c =
    let q = ap term_of c.in-Lam.is ∙ term_of-Lam c.in-Lam.name c.in-Lam.field-1 c.in-Lam.domain c.in-Lam.body in
    subst (λ m. IfOk c.lambda_shape.result (TermIsRead c.args.signature.now (state_of c.args.walk.now) (state_of c.lambda_shape.new.walk) m)) (sym q) (subst (λ m. IfOk c.lambda_shape.result (TermIsRead c.args.signature.now (state_of c.args.walk.now) (state_of c.lambda_shape.new.walk) (lambda c.in-Lam.name c.in-Lam.field-1 (boxed_domain c.in-Lam.domain) (term_of m)))) c.deref.ensures (c.lambda_shape.ensures c.in-Lam.field-1))

pub type_shape-returns-in-Some : goal.type_shape-returns-in-Some
type_shape-returns-in-Some t c =
    let one = (subst (FamilyIsRead c.args.signature.now (state_of c.args.walk.now) (state_of c.family_shape.new.walk) (term_of c.args.term.now)) c.in-Some.is c.in_ok-family.ensures) in
    type_read c.args.signature.now (state_of c.args.walk.now) c.requires (term_of c.args.term.now) (state_of c.family_shape.new.walk) c.in-Some.family one c.whole.result (c.whole.ensures (state_of c.family_shape.new.walk) one.reading.sound one.within)

pub type_shape-returns-in-None : goal.type_shape-returns-in-None
type_shape-returns-in-None t c =
    type_refuses_family c.args.signature.now (state_of c.args.walk.now) c.requires (term_of c.args.term.now) (subst (FamilyIsRead c.args.signature.now (state_of c.args.walk.now) (state_of c.family_shape.new.walk) (term_of c.args.term.now)) c.in-None.is c.in_ok-family.ensures)
