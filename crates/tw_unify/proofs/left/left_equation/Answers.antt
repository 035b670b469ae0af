use Rattle.std.proofs.Common.{◌≡◌, Some, sym, ap, subst, ◌∙◌}
use Rattle.std.specs.Prelude.{slice_get}
use Rattle.lf.specs.Entries.{signature_of}
use Rattle.tw_metas.specs.View.{equation_of, kept_equation_of}
use Rattle.tw_unify.specs.Showing.{CanShow}
use Rattle.tw_unify.proofs.Postponing.{equation_at}
use Rattle.tw_unify.proofs.Shown.{can_show}
use Rattle.tw_unify.proofs.left.left_equation.Goals as goal

pub show-requires-clause-can : goal.show-requires-clause-can
show-requires-clause-can c =
    let s = c.args.store.now.now in
    let x = c.index-equations-at.result in
    subst (λ e. CanShow s (equation_of e)) (sym c.deref.ensures) (can_show (signature_of c.args.signature.now) s c.requires.ready c.args.at (kept_equation_of x) (equation_at c.equations.result.now s.equations c.args.at x c.equations.ensures c.requires.at c.index-equations-at.is))

pub returns : goal.returns
returns c =
    let s = c.args.store.now.now in
    let x = c.index-equations-at.result in
    let e : slice_get s.equations c.args.at ≡ Some (equation_of c.deref.result.now) =
    (equation_at c.equations.result.now s.equations c.args.at x c.equations.ensures c.requires.at c.index-equations-at.is) ∙ ap (λ d. Some (equation_of d)) (sym c.deref.ensures) in
    rw e c.show.ensures
