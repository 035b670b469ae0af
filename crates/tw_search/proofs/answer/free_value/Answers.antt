use Rattle.std.proofs.Common.{◌≡◌, Some, None, ap, ◌∙◌}
use Rattle.std.specs.List.{slice_get}
use Rattle.std.specs.Option.{option_map}
use Rattle.lf.specs.Syntax.{skeleton}
use Rattle.tw_metas.specs.State.{Declaration}
use Rattle.tw_terms.specs.OpenView.{open_term_of, open_type_of}
use Rattle.tw_search.proofs.LeafReading.{has_index, no_closed}
use Rattle.tw_search.proofs.answer.free_value.Goals as goal

pub unreachable-requires : goal.unreachable-requires
unreachable-requires c =
    let M = open_term_of c.in_ok-expand_variable-in-Some-variable.field-0 in
    no_closed M c.in_ok-term-in-Some-variable.field-0 (skeleton (open_type_of c.in-Some.ty.now)) c.in-Some-variable.variable c.in-None-2.is c.in_ok-expand_variable-in-Some-variable.ensures c.in_ok-term-in-Some-variable.ensures

pub unreachable-requires-in-None-variable : goal.unreachable-requires-in-None-variable
unreachable-requires-in-None-variable c =
    let s = c.args.store.now.now in
    let r = c.requires.can in
    let (i, e, v) = has_index s c.args.variables r.leaf r.sites c.args.quantifiers.now.positions c.args.quantifiers.now.context r.are_quantifiers c.args.meta.0 (r.leaf.declared c.args.meta.0 c.requires.first) c.requires.free in
    let no : None ≡ Some _ = c.in-None-variable.ensures ∙ e in
    absurd cc

pub unreachable-requires-in-None : goal.unreachable-requires-in-None
unreachable-requires-in-None c =
    let d = c.requires.can.leaf.declared c.args.meta.0 c.requires.first in
    let e : None ≡ slice_get c.args.store.now.now.declared c.args.meta.0 = c.in-None.ensures in
    let no : None ≡ Some d.0 = ap (option_map (λ (x : Declaration). x.of_type)) e ∙ d.1 in
    absurd cc
