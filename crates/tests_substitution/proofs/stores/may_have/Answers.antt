use Rattle.std.proofs.Common.{◌≡◌, Some, slice_get, map, sym, ap, ◌∙◌}
use Rattle.std.specs.Option.{option_map}
use Rattle.tw_terms.specs.OpenView.{open_term_of, open_type_of}
use Rattle.tw_terms.specs.View.{skeleton_of}
use Rattle.tests_substitution.proofs.Bindings.{may_have_by}
use Rattle.tests_substitution.proofs.stores.may_have.Goals as goal

pub returns-in-Some : goal.returns-in-Some
returns-in-Some c =
    let s = c.args.store.now.now in
    let m = c.args.meta.0 in
    let d : slice_get s.declared m ≡ Some (record { context = c.in-Some.field-0-0.now; of_type = open_type_of c.in-Some.ty.now }) = sym c.about.ensures ∙ ap (option_map (λ p. record { context = p.0.now; of_type = open_type_of p.1.now })) c.in-Some.is in
    may_have_by c.args.signature.now (map skeleton_of c.args.outer.now) s m (open_term_of c.args.value.now) (record { context = c.in-Some.field-0-0.now; of_type = open_type_of c.in-Some.ty.now }) c.has_type.result d (c.has_no_value-free.ensures c.if-not-free.false) (c.mentions_others-others.ensures c.if-not-others.false) c.has_type.ensures
