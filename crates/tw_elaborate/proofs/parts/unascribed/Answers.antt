use Rattle.std.proofs.Common.{◌≡◌, sym, ap, ap₂, ◌∙◌, subst}
use Rattle.lf_elaboration.specs.Written.{family_ascribed, written_star}
use Rattle.tw_written.proofs.Views.{written_kind_of-Star, written_type_of-Ascribed}
use Rattle.tw_written.specs.View.{written_kind_of, written_type_of}
use Rattle.tw_elaborate.specs.Unascribed.{IsUnascribed, nothing_ascribed, one_ascribed}
use Rattle.tw_elaborate.proofs.parts.unascribed.Goals as goal

pub loop-rest-init : goal.loop-rest-init
loop-rest-init c = nothing_ascribed

pub loop-rest-preserved : goal.loop-rest-preserved
loop-rest-preserved c =
    let v : written_type_of c.loop-rest.rest.now ≡ family_ascribed (written_type_of c.deref-rest.result.now) written_star
    = ap written_type_of c.in-Ascribed.is ∙ written_type_of-Ascribed c.in-Ascribed.ty c.in-Ascribed.kind ∙ ap₂ family_ascribed (ap written_type_of (sym c.deref-rest.ensures)) (ap written_kind_of (sym c.deref.ensures ∙ c.in-Star.is) ∙ written_kind_of-Star) in
    one_ascribed (subst (IsUnascribed (written_type_of c.args.written.now)) v c.loop-rest.invariant)
