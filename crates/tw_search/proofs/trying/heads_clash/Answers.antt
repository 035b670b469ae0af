use Rattle.std.proofs.Common.{◌≡◌, suc, refl, ap, sym, subst, ◌∙◌, arith}
use Rattle.std.specs.Bool.{OnTrue}
use Rattle.lf.specs.Entries.{signature_of}
use Rattle.lf.specs.AtOnce.{shift_by}
use Rattle.lf.specs.Syntax.{constant, rename_type, variable}
use Rattle.lf.proofs.Entries.{canonical_is_signature}
use Rattle.lf_unification.specs.Search.{OfferedHeadHasType}
use Rattle.tw_terms.specs.View.{head_of, type_of}
use Rattle.tw_terms.specs.OpenView.{open_type_of}
use Rattle.tw_terms.proofs.Views.{head_of-Const, head_of-Var}
use Rattle.tw_putting.specs.Stores.{bindings_of}
use Rattle.tw_search.specs.Clashing.{TypeClashes}
use Rattle.tw_search.proofs.Offering.{found_type}
use Rattle.tw_search.proofs.OneTry.{clash_never_fits, on_true}
use Rattle.tw_search.proofs.trying.heads_clash.Goals as goal

pub returns-in-Some : goal.returns-in-Some
returns-in-Some c =
    let Σ = signature_of c.args.signature.now in
    let g = c.args.goal.now in
    let s = c.args.store.now.now in
    let h = head_of c.args.head in
    let A = type_of c.in-Some.ty.now in
    let e : h ≡ constant c.in-Const.id.0 = ap head_of c.in-Const.is ∙ head_of-Const c.in-Const.id in
    let t : OfferedHeadHasType Σ g.locals h A = subst (λ k. OfferedHeadHasType Σ g.locals k A) (sym e) (sym c.in-Some.ensures) in
    let clash = subst (λ S. OnTrue c.clashes.result (TypeClashes (bindings_of s) S A)) c.indices.ensures c.clashes.ensures in
    on_true c.clashes.result (clash_never_fits Σ (canonical_is_signature c.args.signature.now c.is_canonical.ensures) s g h c.requires.goal c.requires.head A t) clash

pub returns-in-Some-checked_add : goal.returns-in-Some-checked_add
returns-in-Some-checked_add c =
    let Σ = signature_of c.args.signature.now in
    let g = c.args.goal.now in
    let s = c.args.store.now.now in
    let h = head_of c.args.head in
    let B = open_type_of c.in-Some-get.ty.now in
    let A = rename_type (shift_by c.in-Some-checked_add.by) B in
    let e : h ≡ variable c.in-Var.variable = ap head_of c.in-Var.is ∙ head_of-Var c.in-Var.variable in
    let by : c.in-Some-checked_add.by ≡ suc c.in-Var.variable = grind arith in
    let t : OfferedHeadHasType Σ g.locals h A = found_type Σ g.locals h c.in-Var.variable c.in-Some-checked_add.by B A e by c.in-Some-get.ensures refl in
    let clash = subst (λ S. OnTrue c.local_clashes.result (TypeClashes (bindings_of s) S A)) c.indices-in-Some-checked_add.ensures c.local_clashes.ensures in
    on_true c.local_clashes.result (clash_never_fits Σ (canonical_is_signature c.args.signature.now c.is_canonical.ensures) s g h c.requires.goal c.requires.head A t) clash
