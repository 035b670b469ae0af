use Rattle.std.proofs.Common.{◌≡◌, Some, ap, ap₂, sym, ◌∙◌}
use Rattle.std.specs.List.{slice_get}
use Rattle.std.specs.Option.{option_map}
use Rattle.lf.specs.Eta.{eta_expand}
use Rattle.lf.specs.Syntax.{metavariable, nil, skeleton}
use Rattle.tw_metas.specs.State.{Declaration}
use Rattle.tw_terms.specs.OpenView.{open_args_of, open_head_of, open_spine_of, open_type_of}
use Rattle.tw_terms.proofs.OpenViews.{open_head_of-Meta, open_spine_of-roll}
use Rattle.tw_terms.specs.declared.canonical.MetaId.{MetaId}
use Rattle.tw_terms.specs.declared.open_terms.OpenHead.TheVariants.{Meta}
use Rattle.tw_elaborate.specs.View.{made, numbers_of}
use Rattle.tw_elaborate.proofs.Naming.{at_index, at_mapped, free_inferred}
use Rattle.tw_elaborate.proofs.heads.free.Goals as goal

pub returns-clause-ok : goal.returns-clause-ok
returns-clause-ok c = λ es at.
    let m = c.in-Some.meta.now in
    let B = open_type_of c.in-Some-about.ty.now in
    let A = open_type_of c.in_ok-ty.ty in
    let f : slice_get c.args.frees.now c.args.variable ≡ Some m = at_index c.args.frees.now c.args.variable m c.in-Some.ensures.lookup.3.0 c.in-Some.ensures.lookup.1 in
    let g : (made c.args.state.now).metavariables m.0 ≡ Some B = ap (option_map (λ (d : Declaration). d.of_type)) (sym c.in-Some-about.ensures) in
    let s : open_spine_of _ ≡ nil = open_spine_of-roll c.new.result ∙ ap open_args_of c.new.ensures.items in
    let r : eta_expand (skeleton A) (open_head_of (Meta m)) (open_spine_of _) ≡ eta_expand (skeleton A) (metavariable m.0) nil = ap₂ (eta_expand (skeleton A)) (open_head_of-Meta m) s in
    free_inferred es (numbers_of c.args.frees.now) at c.args.state.now.locals (made c.args.state.now) c.args.variable m.0 _ B A _ (at_mapped (λ (x : MetaId). x.0) c.args.frees.now c.args.variable m f) g c.len.ensures c.in_ok-ty.ensures r
