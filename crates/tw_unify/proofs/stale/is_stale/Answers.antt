use Rattle.std.proofs.Common.{◌≡◌, Some, None, sym, ap, ◌∙◌, rules}
use Rattle.std.specs.Option.{option_map}
use Rattle.tw_metas.specs.State.{value_of}
use Rattle.tw_terms.specs.OpenView.{open_term_of, open_type_of}
use Rattle.tw_putting.proofs.Views.{type_told}
use Rattle.tw_unify.proofs.Renewals.{bound_fresh, stale_or_fresh}
use Rattle.tw_unify.proofs.stale.is_stale.Goals as goal

pub returns-in-None-Some : goal.returns-in-None-Some
returns-in-None-Some c =
    let s = c.args.store.now.now in
    let A = open_type_of c.in-None-Some.ty.now in
    let v : value_of s c.args.meta.0 ≡ None = sym c.value.ensures ∙ ap (λ o. option_map (λ x. open_term_of x.now) o) c.in-None-Some.is-0 in
    stale_or_fresh s c.args.meta.0 A c.is_type_all_in.result (type_told s c.args.meta.0 c.in-None-Some.field-0-0-1.now A (search rules)) v c.is_type_all_in.ensures

pub returns-in_default-2 : goal.returns-in_default-2
returns-in_default-2 c =
    let s = c.args.store.now.now in
    let N = open_term_of c.in_default.field-0-0.now in
    let v : value_of s c.args.meta.0 ≡ Some N = sym c.value.ensures ∙ ap (λ o. option_map (λ x. open_term_of x.now) o) c.in_default.is-0 in
    bound_fresh s c.requires c.args.meta.0 N v
