use Rattle.std.proofs.Common.{◌≡◌, [], ◌∷◌, map, reverse, sym, ap, ◌∙◌, subst, arith}
use Rattle.std.proofs.lemmas.List.{map-append, reverse-reverse}
use Rattle.tw_metas.specs.View.{equation_of}
use Rattle.tw_metas.specs.declared.equation.Equation.{Equation}
use Rattle.tw_putting.specs.Domains.{TakesArguments, domains}
use Rattle.tw_terms.specs.OpenView.{open_args_of, open_spine_of, open_term_of, open_type_of}
use Rattle.tw_terms.proofs.OpenArgs.{open_types}
use Rattle.tw_unify.proofs.Spines.{no_type_left, popped_arguments, popped_types}
use Rattle.tw_unify.proofs.Variables.{none_due, none_found, one_equation_more, reads_off}
use Rattle.tw_unify.proofs.rigid.argument_equations.Goals as goal

pub domains-requires : goal.domains-requires
domains-requires c =
    let X = open_type_of c.args.ty.now in
    let s : open_spine_of c.args.left ≡ open_args_of c.deref.result.now = grind (arith, open_types) in
    subst (TakesArguments X) s (reads_off c.args.context.now X (open_spine_of c.args.left) c.requires)

pub loop-ty-init : goal.loop-ty-init
loop-ty-init c =
    let X = open_type_of c.args.ty.now in
    let S = open_spine_of c.args.left in
    let s : open_args_of c.deref.result.now ≡ S = grind (arith, open_types) in
    let l : open_args_of c.args.left.args.items ≡ S = grind (arith, open_types) in
    let r : open_args_of c.args.right.args.items ≡ open_spine_of c.args.right = grind (arith, open_types) in
    none_found c.args.context.now X S (open_spine_of c.args.right) (open_args_of (reverse c.reverse-2.new.self.items)) (open_args_of (reverse c.reverse-3.new.self.items)) (map open_type_of (reverse c.reverse.new.self.items)) (map equation_of c.in_ok-found.found.items)
    (ap (λ ts. map open_type_of (reverse ts)) c.reverse.ensures.items ∙ ap (map open_type_of) (reverse-reverse c.in_ok-types.types.items) ∙ c.in_ok-types.ensures.ok ∙ ap (domains X) s)
    (ap (λ ts. open_args_of (reverse ts)) c.reverse-2.ensures.items ∙ ap open_args_of (reverse-reverse c.args.left.args.items) ∙ l)
    (ap (λ ts. open_args_of (reverse ts)) c.reverse-3.ensures.items ∙ ap open_args_of (reverse-reverse c.args.right.args.items) ∙ r)
    (ap (map equation_of) c.in_ok-found.ensures.items)

pub loop-ty-preserved : goal.loop-ty-preserved
loop-ty-preserved c =
    let D = c.args.context.now in
    let A = open_type_of c.in-Some.ty in
    let M = open_term_of c.in-Some-Some.left in
    let N = open_term_of c.in-Some-Some.right in
    let d : Equation = record { context = c.in_ok-context-in-Some-Some.context; left = c.in-Some-Some.left; right = c.in-Some-Some.right; ty = c.in-Some.ty } in
    let e : equation_of d ≡ record { local = D; left = M; right = N; of_type = A } = ap (λ G. record { local = G; left = M; right = N; of_type = A }) c.in_ok-context-in-Some-Some.ensures in
    c.loop-ty.invariant
    ∙ one_equation_more D (map open_type_of (reverse c.loop-ty.types.items)) (map open_type_of (reverse c.pop.new.self.items)) A (open_args_of (reverse c.loop-ty.lefts.items)) (open_args_of (reverse c.loop-ty.rights.items)) (open_args_of (reverse c.pop-in-Some.new.self.items)) (open_args_of (reverse c.pop-in-Some-2.new.self.items)) M N (equation_of d) (map equation_of c.loop-ty.found.items) (map equation_of c.push.new.self.items)
    (popped_types c.loop-ty.types.items c.pop.new.self.items c.in-Some.ty c.in-Some.ensures.items)
    (popped_arguments c.loop-ty.lefts.items c.pop-in-Some.new.self.items c.in-Some-Some.left c.in-Some-Some.ensures.items)
    (popped_arguments c.loop-ty.rights.items c.pop-in-Some-2.new.self.items c.in-Some-Some.right c.in-Some-Some.ensures'.items)
    e (ap (map equation_of) c.in_ok-push-in-Some-Some.ensures.items ∙ map-append equation_of c.loop-ty.found.items (d ∷ []))

pub returns-clause-ok : goal.returns-clause-ok
returns-clause-ok c =
    let none = no_type_left c.loop-ty.types.items (omega (arith, c.in_default.ensures.cases)) in
    sym (c.loop-ty.invariant ∙ none_due c.args.context.now (map open_type_of (reverse c.loop-ty.types.items)) (open_args_of (reverse c.loop-ty.lefts.items)) (open_args_of (reverse c.loop-ty.rights.items)) (map equation_of c.loop-ty.found.items) none)
