use Rattle.std.proofs.Common.{◌∷◌, Some, refl, sym, ap, ◌∙◌}
use Rattle.lf_elaboration.specs.Written as plain
use Rattle.tw_parse.specs.Applied.{written_terms}
use Rattle.tw_names.specs.Scope.{binder_name}
use Rattle.tw_parse.proofs.Views.{term_of-Arrow}
use Rattle.tw_parse.specs.View.{term_of, boxed_domain}
use Rattle.tw_written.proofs.Views.{written_of-Ascribed, written_of-Function, written_type_of-Arrow, written_type_of-Quantified, written_kind_of-Arrow, written_kind_of-Quantified}
use Rattle.tw_written.specs.View.{place_of, written_of, written_domain_of as domain_of, written_type_of as type_of, written_kind_of as kind_of}
use Rattle.tw_resolve.specs.Rest.{rest_of}
use Rattle.tw_resolve.specs.Rows.{read_on, next_read}
use Rattle.tw_resolve.specs.declared.rows.Next.{Next}
use Rattle.tw_resolve.specs.Resolving.{made, on_argument, of_kind, resolved_term, resolved_type, resolved_domain, resolved_kind}
use Rattle.tw_resolve.proofs.Answering.{given, missing, both_given, second_missing, with_names}
use Rattle.tw_resolve.proofs.Waiting.{row_begun, row_missing}
use Rattle.tw_resolve.proofs.Spines.{front_given, front_missing, part_given, part_missing, part_refused, family_on_arguments, term_of_types, type_of_kinds}
use Rattle.tw_resolve.proofs.resolution.+resolved.Goals as goal

pub application-returns-in_default-clause-read : goal.application-returns-in_default-clause-read
application-returns-in_default-clause-read t c =
    let es = c.args.signature.now in
    let free = c.args.resolving.now.free in
    let N = c.args.resolving.now.scope in
    let W = resolved_term es free N (term_of c.args.term.now) (rest_of c.args.resolving.now) in
    let ws = c.loop.waiting.items in
    let T = term_of c.loop.next.now in
    let M = term_of c.in_ok-head.head.now in
    let Ps = written_terms c.in_ok-head.arguments.items in
    let p = rest_of c.loop.resolving in
    let q = rest_of c.resolved_term.new.resolving in
    let i = c.loop.invariant in
    let read = c.in_ok-function.ensures.read ∙ with_names (λ f n. resolved_term es f n M p) c.loop.resolving.free free c.loop.resolving.scope N i.2 i.1 in
    row_missing es free N ws T M Ps p W c.in_ok-head.ensures (missing written_of c.in_ok-function.field-0 q (resolved_term es free N M p) c.in_default.is read) i.0

pub application-returns-in-Nothing-clause-read : goal.application-returns-in-Nothing-clause-read
application-returns-in-Nothing-clause-read t c =
    let es = c.args.signature.now in
    let free = c.args.resolving.now.free in
    let N = c.args.resolving.now.scope in
    let W = resolved_term es free N (term_of c.args.term.now) (rest_of c.args.resolving.now) in
    let ws = c.loop.waiting.items in
    let T = term_of c.loop.next.now in
    let M = term_of c.in_ok-head.head.now in
    let Ps = written_terms c.in_ok-head.arguments.items in
    let p = rest_of c.loop.resolving in
    let q = rest_of c.resolved_term.new.resolving in
    let i = c.loop.invariant in
    let read = c.in_ok-function.ensures.read ∙ with_names (λ f n. resolved_term es f n M p) c.loop.resolving.free free c.loop.resolving.scope N i.2 i.1 in
    let begun = given written_of c.in_ok-function.field-0 c.in-Some.function q (resolved_term es free N M p) c.in-Some.is read in
    let row = row_begun es free N ws T M Ps p (Some (written_of c.in-Some.function, q)) W c.in_ok-head.ensures begun i.0 in
    ap (λ (n : Next). next_read es free N c.advance.new.waiting.items n q) (sym c.in-Nothing.is) ∙ c.in_ok-argument.ensures es free N q ∙ row

pub application-loop-preserved : goal.application-loop-preserved
application-loop-preserved t c =
    let es = c.args.signature.now in
    let free = c.args.resolving.now.free in
    let N = c.args.resolving.now.scope in
    let W = resolved_term es free N (term_of c.args.term.now) (rest_of c.args.resolving.now) in
    let ws = c.loop.waiting.items in
    let T = term_of c.loop.next.now in
    let M = term_of c.in_ok-head.head.now in
    let Ps = written_terms c.in_ok-head.arguments.items in
    let p = rest_of c.loop.resolving in
    let q = rest_of c.resolved_term.new.resolving in
    let i = c.loop.invariant in
    let read = c.in_ok-function.ensures.read ∙ with_names (λ f n. resolved_term es f n M p) c.loop.resolving.free free c.loop.resolving.scope N i.2 i.1 in
    let begun = given written_of c.in_ok-function.field-0 c.in-Some.function q (resolved_term es free N M p) c.in-Some.is read in
    let row = row_begun es free N ws T M Ps p (Some (written_of c.in-Some.function, q)) W c.in_ok-head.ensures begun i.0 in
    (ap (λ (n : Next). next_read es free N c.advance.new.waiting.items n q) (sym c.in-Argument.is) ∙ c.in_ok-argument.ensures es free N q ∙ row, c.in_ok-function.ensures.scope ∙ i.1, c.in_ok-function.ensures.free ∙ i.2)

pub applied_family-returns-in_default-clause-read : goal.applied_family-returns-in_default-clause-read
applied_family-returns-in_default-clause-read t c =
    let es = c.args.signature.now in
    let free = c.args.resolving.now.free in
    let N = c.args.resolving.now.scope in
    let o = rest_of c.args.resolving.now in
    front_missing on_argument (resolved_term es free N) (resolved_type es free N (term_of c.args.term.now) o) (resolved_type es free N (term_of c.in_ok-head.head.now) o) (written_terms c.in_ok-head.arguments.items) (family_on_arguments es free N (term_of c.args.term.now) (term_of c.in_ok-head.head.now) (written_terms c.in_ok-head.arguments.items) o c.in_ok-head.ensures) (missing type_of c.in_ok-family.field-0 (rest_of c.resolved_type.new.resolving) (resolved_type es free N (term_of c.in_ok-head.head.now) o) c.in_default.is c.in_ok-family.ensures.read)

pub applied_family-loop-argument-init : goal.applied_family-loop-argument-init
applied_family-loop-argument-init t c =
    let es = c.args.signature.now in
    let free = c.args.resolving.now.free in
    let N = c.args.resolving.now.scope in
    let o = rest_of c.args.resolving.now in
    let p = rest_of c.resolved_type.new.resolving in (
      front_given on_argument (resolved_term es free N) (resolved_type es free N (term_of c.args.term.now) o) (Some (type_of c.in-Some.family, p)) (resolved_type es free N (term_of c.in_ok-head.head.now) o) (written_terms c.in_ok-head.arguments.items) (family_on_arguments es free N (term_of c.args.term.now) (term_of c.in_ok-head.head.now) (written_terms c.in_ok-head.arguments.items) o c.in_ok-head.ensures) (given type_of c.in_ok-family.field-0 c.in-Some.family p (resolved_type es free N (term_of c.in_ok-head.head.now) o) c.in-Some.is c.in_ok-family.ensures.read),
      c.in_ok-family.ensures.scope,
      c.in_ok-family.ensures.free,
    )

pub applied_family-returns-in_default-2-clause-read : goal.applied_family-returns-in_default-2-clause-read
applied_family-returns-in_default-2-clause-read t c =
    let es = c.args.signature.now in
    let free = c.args.resolving.now.free in
    let N = c.args.resolving.now.scope in
    let o = rest_of c.args.resolving.now in
    let p = rest_of c.loop-argument.resolving in
    let q = rest_of c.resolved_term.new.resolving in
    let i = c.loop-argument.invariant in
    let same = with_names (λ f n. resolved_term es f n (term_of c.in-Some-pop.argument.now) p) c.loop-argument.resolving.free free c.loop-argument.resolving.scope N i.2 i.1 in
    let read = c.in_ok-argument.ensures.read ∙ same in
    part_missing on_argument (resolved_term es free N) (resolved_type es free N (term_of c.args.term.now) o) c.loop-argument.arguments.items c.pop.new.self.items c.in-Some-pop.argument (type_of c.loop-argument.family) p c.in-Some-pop.ensures.items i.0 (missing written_of c.in_ok-argument.field-0 q (resolved_term es free N (term_of c.in-Some-pop.argument.now) p) c.in_default-2.is read)

pub applied_family-loop-argument-preserved : goal.applied_family-loop-argument-preserved
applied_family-loop-argument-preserved t c =
    let es = c.args.signature.now in
    let free = c.args.resolving.now.free in
    let N = c.args.resolving.now.scope in
    let o = rest_of c.args.resolving.now in
    let p = rest_of c.loop-argument.resolving in
    let q = rest_of c.resolved_term.new.resolving in
    let i = c.loop-argument.invariant in
    let same = with_names (λ f n. resolved_term es f n (term_of c.in-Some-pop.argument.now) p) c.loop-argument.resolving.free free c.loop-argument.resolving.scope N i.2 i.1 in
    let read = c.in_ok-argument.ensures.read ∙ same in
    let x = type_of c.loop-argument.family in
    let y = written_of c.in-Some-2.argument in (
      part_given on_argument (resolved_term es free N) (resolved_type es free N (term_of c.args.term.now) o) (Some (type_of c.in-Some-3.result, q)) c.loop-argument.arguments.items c.pop.new.self.items c.in-Some-pop.argument x y p q c.in-Some-pop.ensures.items i.0 (given written_of c.in_ok-argument.field-0 c.in-Some-2.argument q (resolved_term es free N (term_of c.in-Some-pop.argument.now) p) c.in-Some-2.is read) (given type_of c.in_ok-result.field-0 c.in-Some-3.result q (on_argument x y q) c.in-Some-3.is (c.in_ok-result.ensures q)),
      c.in_ok-argument.ensures.scope ∙ i.1,
      c.in_ok-argument.ensures.free ∙ i.2,
    )

pub applied_family-returns-in-None-clause-read : goal.applied_family-returns-in-None-clause-read
applied_family-returns-in-None-clause-read t c =
    let es = c.args.signature.now in
    let free = c.args.resolving.now.free in
    let N = c.args.resolving.now.scope in
    let o = rest_of c.args.resolving.now in
    let p = rest_of c.loop-argument.resolving in
    let q = rest_of c.resolved_term.new.resolving in
    let i = c.loop-argument.invariant in
    let same = with_names (λ f n. resolved_term es f n (term_of c.in-Some-pop.argument.now) p) c.loop-argument.resolving.free free c.loop-argument.resolving.scope N i.2 i.1 in
    let read = c.in_ok-argument.ensures.read ∙ same in
    let x = type_of c.loop-argument.family in
    let y = written_of c.in-Some-2.argument in
    part_refused on_argument (resolved_term es free N) (resolved_type es free N (term_of c.args.term.now) o) c.loop-argument.arguments.items c.pop.new.self.items c.in-Some-pop.argument x y p q c.in-Some-pop.ensures.items i.0 (given written_of c.in_ok-argument.field-0 c.in-Some-2.argument q (resolved_term es free N (term_of c.in-Some-pop.argument.now) p) c.in-Some-2.is read) (missing type_of c.in_ok-result.field-0 q (on_argument x y q) c.in-None.is (c.in_ok-result.ensures q))

pub ascribed_term-returns-in_default-clause-read : goal.ascribed_term-returns-in_default-clause-read
ascribed_term-returns-in_default-clause-read t c =
    let es = c.args.signature.now in
    let free = c.args.resolving.now.free in
    let N = c.args.resolving.now.scope in
    let o = rest_of c.args.resolving.now in
    front_missing (made plain.ascribed) (resolved_type es free N) (resolved_term es free N (term_of c.args.term.now) o) (resolved_term es free N (term_of c.in_ok-inner.inner.now) o) (written_terms c.in_ok-inner.types.items) (term_of_types es free N (term_of c.args.term.now) (term_of c.in_ok-inner.inner.now) (written_terms c.in_ok-inner.types.items) o c.in_ok-inner.ensures) (missing written_of c.in_ok-found.field-0 (rest_of c.resolved_term.new.resolving) (resolved_term es free N (term_of c.in_ok-inner.inner.now) o) c.in_default.is c.in_ok-found.ensures.read)

pub ascribed_term-loop-ty-init : goal.ascribed_term-loop-ty-init
ascribed_term-loop-ty-init t c =
    let es = c.args.signature.now in
    let free = c.args.resolving.now.free in
    let N = c.args.resolving.now.scope in
    let o = rest_of c.args.resolving.now in
    let p = rest_of c.resolved_term.new.resolving in (
      front_given (made plain.ascribed) (resolved_type es free N) (resolved_term es free N (term_of c.args.term.now) o) (Some (written_of c.in-Some.found, p)) (resolved_term es free N (term_of c.in_ok-inner.inner.now) o) (written_terms c.in_ok-inner.types.items) (term_of_types es free N (term_of c.args.term.now) (term_of c.in_ok-inner.inner.now) (written_terms c.in_ok-inner.types.items) o c.in_ok-inner.ensures) (given written_of c.in_ok-found.field-0 c.in-Some.found p (resolved_term es free N (term_of c.in_ok-inner.inner.now) o) c.in-Some.is c.in_ok-found.ensures.read),
      c.in_ok-found.ensures.scope,
      c.in_ok-found.ensures.free,
    )

pub ascribed_term-returns-in_default-2-clause-read : goal.ascribed_term-returns-in_default-2-clause-read
ascribed_term-returns-in_default-2-clause-read t c =
    let es = c.args.signature.now in
    let free = c.args.resolving.now.free in
    let N = c.args.resolving.now.scope in
    let o = rest_of c.args.resolving.now in
    let p = rest_of c.loop-ty.resolving in
    let q = rest_of c.resolved_type.new.resolving in
    let i = c.loop-ty.invariant in
    let same = with_names (λ f n. resolved_type es f n (term_of c.in-Some-pop.ty.now) p) c.loop-ty.resolving.free free c.loop-ty.resolving.scope N i.2 i.1 in
    let read = c.in_ok-ty.ensures.read ∙ same in
    part_missing (made plain.ascribed) (resolved_type es free N) (resolved_term es free N (term_of c.args.term.now) o) c.loop-ty.types.items c.pop.new.self.items c.in-Some-pop.ty (written_of c.loop-ty.found) p c.in-Some-pop.ensures.items i.0 (missing type_of c.in_ok-ty.field-0 q (resolved_type es free N (term_of c.in-Some-pop.ty.now) p) c.in_default-2.is read)

pub ascribed_term-loop-ty-preserved : goal.ascribed_term-loop-ty-preserved
ascribed_term-loop-ty-preserved t c =
    let es = c.args.signature.now in
    let free = c.args.resolving.now.free in
    let N = c.args.resolving.now.scope in
    let o = rest_of c.args.resolving.now in
    let p = rest_of c.loop-ty.resolving in
    let q = rest_of c.resolved_type.new.resolving in
    let i = c.loop-ty.invariant in
    let same = with_names (λ f n. resolved_type es f n (term_of c.in-Some-pop.ty.now) p) c.loop-ty.resolving.free free c.loop-ty.resolving.scope N i.2 i.1 in
    let read = c.in_ok-ty.ensures.read ∙ same in
    let x = written_of c.loop-ty.found in
    let y = type_of c.in-Some-2.ty in
    let made_of = written_of-Ascribed c.in_ok-before.before c.in_ok-new.field-0 ∙ ap (λ m. plain.ascribed (written_of m) (type_of c.in_ok-new.field-0.value)) c.in_ok-before.ensures.ok ∙ ap (λ m. plain.ascribed x (type_of m)) c.in_ok-new.ensures.ok in (
      ap (λ w. read_on (made plain.ascribed) (resolved_type es free N) (written_terms c.pop.new.self.items) (Some (w, q))) made_of ∙ part_given (made plain.ascribed) (resolved_type es free N) (resolved_term es free N (term_of c.args.term.now) o) (Some (plain.ascribed x y, q)) c.loop-ty.types.items c.pop.new.self.items c.in-Some-pop.ty x y p q c.in-Some-pop.ensures.items i.0 (given type_of c.in_ok-ty.field-0 c.in-Some-2.ty q (resolved_type es free N (term_of c.in-Some-pop.ty.now) p) c.in-Some-2.is read) refl,
      c.in_ok-ty.ensures.scope ∙ i.1,
      c.in_ok-ty.ensures.free ∙ i.2,
    )

pub ascribed_type-returns-in_default-clause-read : goal.ascribed_type-returns-in_default-clause-read
ascribed_type-returns-in_default-clause-read t c =
    let es = c.args.signature.now in
    let free = c.args.resolving.now.free in
    let N = c.args.resolving.now.scope in
    let o = rest_of c.args.resolving.now in
    front_missing of_kind (resolved_kind es free N) (resolved_type es free N (term_of c.args.term.now) o) (resolved_type es free N (term_of c.in_ok-inner.inner.now) o) (written_terms c.in_ok-inner.kinds.items) (type_of_kinds es free N (term_of c.args.term.now) (term_of c.in_ok-inner.inner.now) (written_terms c.in_ok-inner.kinds.items) o c.in_ok-inner.ensures) (missing type_of c.in_ok-family.field-0 (rest_of c.resolved_type.new.resolving) (resolved_type es free N (term_of c.in_ok-inner.inner.now) o) c.in_default.is c.in_ok-family.ensures.read)

pub ascribed_type-loop-kind-init : goal.ascribed_type-loop-kind-init
ascribed_type-loop-kind-init t c =
    let es = c.args.signature.now in
    let free = c.args.resolving.now.free in
    let N = c.args.resolving.now.scope in
    let o = rest_of c.args.resolving.now in
    let p = rest_of c.resolved_type.new.resolving in (
      front_given of_kind (resolved_kind es free N) (resolved_type es free N (term_of c.args.term.now) o) (Some (type_of c.in-Some.family, p)) (resolved_type es free N (term_of c.in_ok-inner.inner.now) o) (written_terms c.in_ok-inner.kinds.items) (type_of_kinds es free N (term_of c.args.term.now) (term_of c.in_ok-inner.inner.now) (written_terms c.in_ok-inner.kinds.items) o c.in_ok-inner.ensures) (given type_of c.in_ok-family.field-0 c.in-Some.family p (resolved_type es free N (term_of c.in_ok-inner.inner.now) o) c.in-Some.is c.in_ok-family.ensures.read),
      c.in_ok-family.ensures.scope,
      c.in_ok-family.ensures.free,
    )

pub ascribed_type-returns-in_default-2-clause-read : goal.ascribed_type-returns-in_default-2-clause-read
ascribed_type-returns-in_default-2-clause-read t c =
    let es = c.args.signature.now in
    let free = c.args.resolving.now.free in
    let N = c.args.resolving.now.scope in
    let o = rest_of c.args.resolving.now in
    let p = rest_of c.loop-kind.resolving in
    let q = rest_of c.resolved_kind.new.resolving in
    let i = c.loop-kind.invariant in
    let same = with_names (λ f n. resolved_kind es f n (term_of c.in-Some-pop.kind.now) p) c.loop-kind.resolving.free free c.loop-kind.resolving.scope N i.2 i.1 in
    let read = c.in_ok-kind.ensures.read ∙ same in
    part_missing of_kind (resolved_kind es free N) (resolved_type es free N (term_of c.args.term.now) o) c.loop-kind.kinds.items c.pop.new.self.items c.in-Some-pop.kind (type_of c.loop-kind.family) p c.in-Some-pop.ensures.items i.0 (missing kind_of c.in_ok-kind.field-0 q (resolved_kind es free N (term_of c.in-Some-pop.kind.now) p) c.in_default-2.is read)

pub ascribed_type-loop-kind-preserved : goal.ascribed_type-loop-kind-preserved
ascribed_type-loop-kind-preserved t c =
    let es = c.args.signature.now in
    let free = c.args.resolving.now.free in
    let N = c.args.resolving.now.scope in
    let o = rest_of c.args.resolving.now in
    let p = rest_of c.loop-kind.resolving in
    let q = rest_of c.resolved_kind.new.resolving in
    let i = c.loop-kind.invariant in
    let same = with_names (λ f n. resolved_kind es f n (term_of c.in-Some-pop.kind.now) p) c.loop-kind.resolving.free free c.loop-kind.resolving.scope N i.2 i.1 in
    let read = c.in_ok-kind.ensures.read ∙ same in
    let x = type_of c.loop-kind.family in
    let y = kind_of c.in-Some-2.kind in (
      part_given of_kind (resolved_kind es free N) (resolved_type es free N (term_of c.args.term.now) o) (Some (type_of c.in-Some-3.result, q)) c.loop-kind.kinds.items c.pop.new.self.items c.in-Some-pop.kind x y p q c.in-Some-pop.ensures.items i.0 (given kind_of c.in_ok-kind.field-0 c.in-Some-2.kind q (resolved_kind es free N (term_of c.in-Some-pop.kind.now) p) c.in-Some-2.is read) (given type_of c.in_ok-result.field-0 c.in-Some-3.result q (of_kind x y q) c.in-Some-3.is (c.in_ok-result.ensures q)),
      c.in_ok-kind.ensures.scope ∙ i.1,
      c.in_ok-kind.ensures.free ∙ i.2,
    )

pub ascribed_type-returns-in-None-clause-read : goal.ascribed_type-returns-in-None-clause-read
ascribed_type-returns-in-None-clause-read t c =
    let es = c.args.signature.now in
    let free = c.args.resolving.now.free in
    let N = c.args.resolving.now.scope in
    let o = rest_of c.args.resolving.now in
    let p = rest_of c.loop-kind.resolving in
    let q = rest_of c.resolved_kind.new.resolving in
    let i = c.loop-kind.invariant in
    let same = with_names (λ f n. resolved_kind es f n (term_of c.in-Some-pop.kind.now) p) c.loop-kind.resolving.free free c.loop-kind.resolving.scope N i.2 i.1 in
    let read = c.in_ok-kind.ensures.read ∙ same in
    let x = type_of c.loop-kind.family in
    let y = kind_of c.in-Some-2.kind in
    part_refused of_kind (resolved_kind es free N) (resolved_type es free N (term_of c.args.term.now) o) c.loop-kind.kinds.items c.pop.new.self.items c.in-Some-pop.kind x y p q c.in-Some-pop.ensures.items i.0 (given kind_of c.in_ok-kind.field-0 c.in-Some-2.kind q (resolved_kind es free N (term_of c.in-Some-pop.kind.now) p) c.in-Some-2.is read) (missing type_of c.in_ok-result.field-0 q (of_kind x y q) c.in-None.is (c.in_ok-result.ensures q))

pub function-returns-in_ok-new-in-Some-body-clause-read : goal.function-returns-in_ok-new-in-Some-body-clause-read
function-returns-in_ok-new-in-Some-body-clause-read t c =
    let es = c.args.signature.now in
    let free = c.args.resolving.now.free in
    let N = c.args.resolving.now.scope in
    let o = rest_of c.args.resolving.now in
    let p = rest_of c.resolved_domain.new.resolving in
    let q = rest_of c.resolved_term.new.resolving in
    let x = binder_name c.args.name.now in
    let pushed = c.in_ok-push.ensures.ok ∙ ap (λ y. y ∷ c.resolved_domain.new.resolving.scope) c.in_ok-binder_name.ensures ∙ ap (λ s. x ∷ s) c.in_ok-domain.ensures.scope in
    let second = c.in_ok-body.ensures.read ∙ with_names (λ f n. resolved_term es f n (term_of c.args.body.now) p) c.resolved_domain.new.resolving.free free c.push.new.self (x ∷ N) c.in_ok-domain.ensures.free pushed in
    let made_of = written_of-Function c.in-Some.domain c.in_ok-new-in-Some-body.field-0 ∙ ap (λ m. plain.function (domain_of c.in-Some.domain) (written_of m)) c.in_ok-new-in-Some-body.ensures.ok in
    ap (λ w. Some (w, q)) made_of ∙ both_given domain_of written_of (made plain.function) (resolved_domain es free N (place_of c.args.at) (boxed_domain c.args.domain.now) o) (resolved_term es free (x ∷ N) (term_of c.args.body.now)) c.in_ok-domain.field-0 c.in-Some.domain p c.in_ok-body.body c.in-Some-body.body q c.in-Some.is c.in_ok-domain.ensures.read c.in-Some-body.is second

pub function-returns-in-None-clause-read : goal.function-returns-in-None-clause-read
function-returns-in-None-clause-read t c =
    let es = c.args.signature.now in
    let free = c.args.resolving.now.free in
    let N = c.args.resolving.now.scope in
    let o = rest_of c.args.resolving.now in
    let p = rest_of c.resolved_domain.new.resolving in
    let q = rest_of c.resolved_term.new.resolving in
    let x = binder_name c.args.name.now in
    let pushed = c.in_ok-push.ensures.ok ∙ ap (λ y. y ∷ c.resolved_domain.new.resolving.scope) c.in_ok-binder_name.ensures ∙ ap (λ s. x ∷ s) c.in_ok-domain.ensures.scope in
    let second = c.in_ok-body.ensures.read ∙ with_names (λ f n. resolved_term es f n (term_of c.args.body.now) p) c.resolved_domain.new.resolving.free free c.push.new.self (x ∷ N) c.in_ok-domain.ensures.free pushed in
    second_missing domain_of written_of (made plain.function) (resolved_domain es free N (place_of c.args.at) (boxed_domain c.args.domain.now) o) (resolved_term es free (x ∷ N) (term_of c.args.body.now)) c.in_ok-domain.field-0 c.in-Some.domain p c.in_ok-body.body q c.in-Some.is c.in_ok-domain.ensures.read c.in-None.is second

pub kind_quantifier-returns-in_ok-new-in-Some-range-clause-read : goal.kind_quantifier-returns-in_ok-new-in-Some-range-clause-read
kind_quantifier-returns-in_ok-new-in-Some-range-clause-read t c =
    let es = c.args.signature.now in
    let free = c.args.resolving.now.free in
    let N = c.args.resolving.now.scope in
    let o = rest_of c.args.resolving.now in
    let p = rest_of c.resolved_domain.new.resolving in
    let q = rest_of c.resolved_kind.new.resolving in
    let x = binder_name c.args.name.now in
    let pushed = c.in_ok-push.ensures.ok ∙ ap (λ y. y ∷ c.resolved_domain.new.resolving.scope) c.in_ok-binder_name.ensures ∙ ap (λ s. x ∷ s) c.in_ok-domain.ensures.scope in
    let second = c.in_ok-range.ensures.read ∙ with_names (λ f n. resolved_kind es f n (term_of c.args.range.now) p) c.resolved_domain.new.resolving.free free c.push.new.self (x ∷ N) c.in_ok-domain.ensures.free pushed in
    let made_of = written_kind_of-Quantified c.in-Some.domain c.in_ok-new-in-Some-range.field-0 ∙ ap (λ m. plain.kind_quantified (domain_of c.in-Some.domain) (kind_of m)) c.in_ok-new-in-Some-range.ensures.ok in
    ap (λ w. Some (w, q)) made_of ∙ both_given domain_of kind_of (made plain.kind_quantified) (resolved_domain es free N (place_of c.args.at) (boxed_domain c.args.domain.now) o) (resolved_kind es free (x ∷ N) (term_of c.args.range.now)) c.in_ok-domain.field-0 c.in-Some.domain p c.in_ok-range.range c.in-Some-range.range q c.in-Some.is c.in_ok-domain.ensures.read c.in-Some-range.is second

pub kind_quantifier-returns-in-None-clause-read : goal.kind_quantifier-returns-in-None-clause-read
kind_quantifier-returns-in-None-clause-read t c =
    let es = c.args.signature.now in
    let free = c.args.resolving.now.free in
    let N = c.args.resolving.now.scope in
    let o = rest_of c.args.resolving.now in
    let p = rest_of c.resolved_domain.new.resolving in
    let q = rest_of c.resolved_kind.new.resolving in
    let x = binder_name c.args.name.now in
    let pushed = c.in_ok-push.ensures.ok ∙ ap (λ y. y ∷ c.resolved_domain.new.resolving.scope) c.in_ok-binder_name.ensures ∙ ap (λ s. x ∷ s) c.in_ok-domain.ensures.scope in
    let second = c.in_ok-range.ensures.read ∙ with_names (λ f n. resolved_kind es f n (term_of c.args.range.now) p) c.resolved_domain.new.resolving.free free c.push.new.self (x ∷ N) c.in_ok-domain.ensures.free pushed in
    second_missing domain_of kind_of (made plain.kind_quantified) (resolved_domain es free N (place_of c.args.at) (boxed_domain c.args.domain.now) o) (resolved_kind es free (x ∷ N) (term_of c.args.range.now)) c.in_ok-domain.field-0 c.in-Some.domain p c.in_ok-range.range q c.in-Some.is c.in_ok-domain.ensures.read c.in-None.is second

pub quantifier-returns-in_ok-new-in-Some-range-clause-read : goal.quantifier-returns-in_ok-new-in-Some-range-clause-read
quantifier-returns-in_ok-new-in-Some-range-clause-read t c =
    let es = c.args.signature.now in
    let free = c.args.resolving.now.free in
    let N = c.args.resolving.now.scope in
    let o = rest_of c.args.resolving.now in
    let p = rest_of c.resolved_domain.new.resolving in
    let q = rest_of c.resolved_type.new.resolving in
    let x = binder_name c.args.name.now in
    let pushed = c.in_ok-push.ensures.ok ∙ ap (λ y. y ∷ c.resolved_domain.new.resolving.scope) c.in_ok-binder_name.ensures ∙ ap (λ s. x ∷ s) c.in_ok-domain.ensures.scope in
    let second = c.in_ok-range.ensures.read ∙ with_names (λ f n. resolved_type es f n (term_of c.args.range.now) p) c.resolved_domain.new.resolving.free free c.push.new.self (x ∷ N) c.in_ok-domain.ensures.free pushed in
    let made_of = written_type_of-Quantified c.in-Some.domain c.in_ok-new-in-Some-range.field-0 ∙ ap (λ m. plain.quantified (domain_of c.in-Some.domain) (type_of m)) c.in_ok-new-in-Some-range.ensures.ok in
    ap (λ w. Some (w, q)) made_of ∙ both_given domain_of type_of (made plain.quantified) (resolved_domain es free N (place_of c.args.at) (boxed_domain c.args.domain.now) o) (resolved_type es free (x ∷ N) (term_of c.args.range.now)) c.in_ok-domain.field-0 c.in-Some.domain p c.in_ok-range.range c.in-Some-range.range q c.in-Some.is c.in_ok-domain.ensures.read c.in-Some-range.is second

pub quantifier-returns-in-None-clause-read : goal.quantifier-returns-in-None-clause-read
quantifier-returns-in-None-clause-read t c =
    let es = c.args.signature.now in
    let free = c.args.resolving.now.free in
    let N = c.args.resolving.now.scope in
    let o = rest_of c.args.resolving.now in
    let p = rest_of c.resolved_domain.new.resolving in
    let q = rest_of c.resolved_type.new.resolving in
    let x = binder_name c.args.name.now in
    let pushed = c.in_ok-push.ensures.ok ∙ ap (λ y. y ∷ c.resolved_domain.new.resolving.scope) c.in_ok-binder_name.ensures ∙ ap (λ s. x ∷ s) c.in_ok-domain.ensures.scope in
    let second = c.in_ok-range.ensures.read ∙ with_names (λ f n. resolved_type es f n (term_of c.args.range.now) p) c.resolved_domain.new.resolving.free free c.push.new.self (x ∷ N) c.in_ok-domain.ensures.free pushed in
    second_missing domain_of type_of (made plain.quantified) (resolved_domain es free N (place_of c.args.at) (boxed_domain c.args.domain.now) o) (resolved_type es free (x ∷ N) (term_of c.args.range.now)) c.in_ok-domain.field-0 c.in-Some.domain p c.in_ok-range.range q c.in-Some.is c.in_ok-domain.ensures.read c.in-None.is second

pub resolved_kind-returns-in_default-2-clause-read : goal.resolved_kind-returns-in_default-2-clause-read
resolved_kind-returns-in_default-2-clause-read t c =
    let es = c.args.signature.now in
    let free = c.args.resolving.now.free in
    let N = c.args.resolving.now.scope in
    let o = rest_of c.args.resolving.now in
    let p = rest_of c.resolved_type.new.resolving in
    let q = rest_of c.resolved_kind.new.resolving in
    let text = ap term_of c.in-Arrow.is ∙ term_of-Arrow c.in-Arrow.domain c.in-Arrow.range in
    let first = c.in_ok-domain-in-Arrow.ensures.read ∙ ap (λ m. resolved_type es free N (term_of m) o) c.deref.ensures in
    let second = c.in_ok-range-in-Arrow.ensures.read ∙ with_names (λ f n. resolved_kind es f n (term_of c.deref-in-Arrow.result.now) p) c.resolved_type.new.resolving.free free c.resolved_type.new.resolving.scope N c.in_ok-domain-in-Arrow.ensures.free c.in_ok-domain-in-Arrow.ensures.scope ∙ ap (λ m. resolved_kind es free N (term_of m) p) c.deref-in-Arrow.ensures in
    second_missing type_of kind_of (made plain.kind_arrow) (resolved_type es free N (term_of c.in-Arrow.domain.value) o) (resolved_kind es free N (term_of c.in-Arrow.range.value)) c.in_ok-domain-in-Arrow.field-0 c.in-Some.domain p c.in_ok-range-in-Arrow.field-0 q c.in-Some.is first c.in_default-2.is second ∙ ap (λ m. resolved_kind es free N m o) (sym text)

pub resolved_kind-returns-in_ok-new-in-Arrow-clause-read : goal.resolved_kind-returns-in_ok-new-in-Arrow-clause-read
resolved_kind-returns-in_ok-new-in-Arrow-clause-read t c =
    let es = c.args.signature.now in
    let free = c.args.resolving.now.free in
    let N = c.args.resolving.now.scope in
    let o = rest_of c.args.resolving.now in
    let p = rest_of c.resolved_type.new.resolving in
    let q = rest_of c.resolved_kind.new.resolving in
    let text = ap term_of c.in-Arrow.is ∙ term_of-Arrow c.in-Arrow.domain c.in-Arrow.range in
    let first = c.in_ok-domain-in-Arrow.ensures.read ∙ ap (λ m. resolved_type es free N (term_of m) o) c.deref.ensures in
    let second = c.in_ok-range-in-Arrow.ensures.read ∙ with_names (λ f n. resolved_kind es f n (term_of c.deref-in-Arrow.result.now) p) c.resolved_type.new.resolving.free free c.resolved_type.new.resolving.scope N c.in_ok-domain-in-Arrow.ensures.free c.in_ok-domain-in-Arrow.ensures.scope ∙ ap (λ m. resolved_kind es free N (term_of m) p) c.deref-in-Arrow.ensures in
    let made_of = written_kind_of-Arrow c.in_ok-domain-in-Arrow-2.domain c.in_ok-new-in-Arrow.field-0 ∙ ap (λ m. plain.kind_arrow (type_of m) (kind_of c.in_ok-new-in-Arrow.field-0.value)) c.in_ok-domain-in-Arrow-2.ensures.ok ∙ ap (λ m. plain.kind_arrow (type_of c.in-Some.domain) (kind_of m)) c.in_ok-new-in-Arrow.ensures.ok in
    ap (λ w. Some (w, q)) made_of ∙ both_given type_of kind_of (made plain.kind_arrow) (resolved_type es free N (term_of c.in-Arrow.domain.value) o) (resolved_kind es free N (term_of c.in-Arrow.range.value)) c.in_ok-domain-in-Arrow.field-0 c.in-Some.domain p c.in_ok-range-in-Arrow.field-0 c.in-Some-2.range q c.in-Some.is first c.in-Some-2.is second ∙ ap (λ m. resolved_kind es free N m o) (sym text)

pub resolved_type-returns-in_default-2-clause-read : goal.resolved_type-returns-in_default-2-clause-read
resolved_type-returns-in_default-2-clause-read t c =
    let es = c.args.signature.now in
    let free = c.args.resolving.now.free in
    let N = c.args.resolving.now.scope in
    let o = rest_of c.args.resolving.now in
    let p = rest_of c.resolved_type.new.resolving in
    let q = rest_of c.resolved_type-in-Arrow.new.resolving in
    let text = ap term_of c.in-Arrow.is ∙ term_of-Arrow c.in-Arrow.domain c.in-Arrow.range in
    let first = c.in_ok-domain-in-Arrow.ensures.read ∙ ap (λ m. resolved_type es free N (term_of m) o) c.deref.ensures in
    let second = c.in_ok-range-in-Arrow.ensures.read ∙ with_names (λ f n. resolved_type es f n (term_of c.deref-in-Arrow.result.now) p) c.resolved_type.new.resolving.free free c.resolved_type.new.resolving.scope N c.in_ok-domain-in-Arrow.ensures.free c.in_ok-domain-in-Arrow.ensures.scope ∙ ap (λ m. resolved_type es free N (term_of m) p) c.deref-in-Arrow.ensures in
    second_missing type_of type_of (made plain.arrow) (resolved_type es free N (term_of c.in-Arrow.domain.value) o) (resolved_type es free N (term_of c.in-Arrow.range.value)) c.in_ok-domain-in-Arrow.field-0 c.in-Some-2.domain p c.in_ok-range-in-Arrow.field-0 q c.in-Some-2.is first c.in_default-2.is second ∙ ap (λ m. resolved_type es free N m o) (sym text)

pub resolved_type-returns-in_ok-new-in-Arrow-clause-read : goal.resolved_type-returns-in_ok-new-in-Arrow-clause-read
resolved_type-returns-in_ok-new-in-Arrow-clause-read t c =
    let es = c.args.signature.now in
    let free = c.args.resolving.now.free in
    let N = c.args.resolving.now.scope in
    let o = rest_of c.args.resolving.now in
    let p = rest_of c.resolved_type.new.resolving in
    let q = rest_of c.resolved_type-in-Arrow.new.resolving in
    let text = ap term_of c.in-Arrow.is ∙ term_of-Arrow c.in-Arrow.domain c.in-Arrow.range in
    let first = c.in_ok-domain-in-Arrow.ensures.read ∙ ap (λ m. resolved_type es free N (term_of m) o) c.deref.ensures in
    let second = c.in_ok-range-in-Arrow.ensures.read ∙ with_names (λ f n. resolved_type es f n (term_of c.deref-in-Arrow.result.now) p) c.resolved_type.new.resolving.free free c.resolved_type.new.resolving.scope N c.in_ok-domain-in-Arrow.ensures.free c.in_ok-domain-in-Arrow.ensures.scope ∙ ap (λ m. resolved_type es free N (term_of m) p) c.deref-in-Arrow.ensures in
    let made_of = written_type_of-Arrow c.in_ok-domain-in-Arrow-2.domain c.in_ok-new-in-Arrow.field-0 ∙ ap (λ m. plain.arrow (type_of m) (type_of c.in_ok-new-in-Arrow.field-0.value)) c.in_ok-domain-in-Arrow-2.ensures.ok ∙ ap (λ m. plain.arrow (type_of c.in-Some-2.domain) (type_of m)) c.in_ok-new-in-Arrow.ensures.ok in
    ap (λ w. Some (w, q)) made_of ∙ both_given type_of type_of (made plain.arrow) (resolved_type es free N (term_of c.in-Arrow.domain.value) o) (resolved_type es free N (term_of c.in-Arrow.range.value)) c.in_ok-domain-in-Arrow.field-0 c.in-Some-2.domain p c.in_ok-range-in-Arrow.field-0 c.in-Some-3.range q c.in-Some-2.is first c.in-Some-3.is second ∙ ap (λ m. resolved_type es free N m o) (sym text)
