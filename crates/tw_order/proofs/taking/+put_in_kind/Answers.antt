use Rattle.std.proofs.Common.{◌∙◌, ap, arith, subst}
use Rattle.lf.specs.AtOnce.{lift_by}
use Rattle.lf.specs.Substitution.{single}
use Rattle.tw_hered.specs.Fits.{KindFits}
use Rattle.tw_kernel.proofs.KindSpines.{rest_fits}
use Rattle.tw_terms.specs.View.{kind_of, skeleton_of, term_of, type_of}
use Rattle.tw_terms.proofs.Args.{types}
use Rattle.tw_terms.proofs.Views.{kind_of-Pi}
use Rattle.tw_order.proofs.taking.+put_in_kind.Goals as goal

pub put_in_kind-requires : goal.put_in_kind-requires
put_in_kind-requires t c =
    let σ = lift_by c.args.index (single (skeleton_of c.args.shape.now) (term_of c.args.arg.now)) in
    let k = ap kind_of c.in-Pi.is ∙ kind_of-Pi c.in-Pi.domain c.in-Pi.rest in (
      grind (arith, types),
      rw (c.in_ok-inside-in-Pi.ensures, c.deref-in-Pi.ensures) (rest_fits σ (type_of c.in-Pi.domain.value) (kind_of c.in-Pi.rest.value) (subst (KindFits σ) k c.requires)),
    )
