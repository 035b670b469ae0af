use Rattle.std.proofs.Common.{◌≡◌, ap, suc, sym, subst, ◌∙◌, arith}
use Rattle.std.specs.Option.{option_map}
use Rattle.lf.specs.Entries.{signature_of}
use Rattle.lf.specs.Syntax.{variable}
use Rattle.lf_unification.specs.Search.{OfferedHeadHasType}
use Rattle.tw_terms.specs.OpenView.{open_type_of}
use Rattle.tw_terms.specs.View.{head_of}
use Rattle.tw_terms.proofs.Views.{head_of-Var}
use Rattle.tw_search.proofs.Offering.{found_type, no_type}
use Rattle.tw_search.proofs.trying.attempt.Goals as goal

pub unreachable-requires-in-None : goal.unreachable-requires-in-None
unreachable-requires-in-None c =
    let Σ = signature_of c.args.signature.now in
    let D = c.args.goal.now.locals in
    let e : head_of c.args.head ≡ variable c.in-Var.variable = ap head_of c.in-Var.is ∙ head_of-Var c.in-Var.variable in
    no_type D c.in-Var.variable c.requires.head.head_type (sym c.get.ensures ∙ ap (option_map (λ a. open_type_of a.now)) c.in-None.is) (subst (λ h. OfferedHeadHasType Σ D h c.requires.head.head_type) e c.requires.head.typed)

pub attempt_at-requires-in-Some-clause-typed : goal.attempt_at-requires-in-Some-clause-typed
attempt_at-requires-in-Some-clause-typed c =
    let i = c.in-Var.variable in
    let by : c.in_ok-by-in-Some.by ≡ suc i = grind arith in
    found_type (signature_of c.args.signature.now) c.args.goal.now.locals _ i c.in_ok-by-in-Some.by (open_type_of c.in-Some.ty.now) (open_type_of c.in_ok-moved-in-Some.moved) (head_of-Var i) by c.in-Some.ensures c.in_ok-moved-in-Some.ensures
