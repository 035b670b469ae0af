use Rattle.std.proofs.Common.{◌≡◌, sym, subst, arith}
use Rattle.lf.specs.Entries.{signature_of}
use Rattle.lf.specs.Syntax.{atom}
use Rattle.tw_terms.specs.View.{spine_of, type_of}
use Rattle.tw_terms.proofs.Args.{types}
use Rattle.tw_shown.specs.Due.{Begins, stacked}
use Rattle.tw_print.specs.ShowEnv.{scene_of}
use Rattle.tw_print.specs.Showable.{IsShowableType}
use Rattle.tw_shown.specs.Shown.{shown_within}
use Rattle.tw_shown.proofs.Dues.{type_begun}
use Rattle.tw_shown.proofs.Walking.{on_ok}
use Rattle.tw_shown.proofs.showing.begin_type.Goals as goal

pub begin_atom-requires-clause-typed : goal.begin_atom-requires-clause-typed
begin_atom-requires-clause-typed c =
    let e : type_of c.args.ty ≡ atom c.in-Atom.family.0 (spine_of c.in-Atom.spine) = grind (arith, types) in
    subst (IsShowableType (signature_of c.args.env.now.sig.now) c.args.walk.now.context) e c.requires.typed

pub returns-in-Atom : goal.returns-in-Atom
returns-in-Atom c =
    let s = scene_of c.args.env.now in
    let p = c.args.walk.now in
    let A = atom c.in-Atom.family.0 (spine_of c.in-Atom.spine) in
    let e : type_of c.args.ty ≡ A = grind (arith, types) in
    on_ok c.begin_atom.result _ _
    (λ b. subst (λ X. Begins s p p ((shown_within s c.args.levels).type p.context X) (stacked c.args.due.now.items) (stacked c.begin_atom.new.due.items)) (sym e)
    (type_begun s c.in_ok-inner.inner c.args.levels p p A (stacked c.args.due.now.items) (stacked c.begin_atom.new.due.items) c.in_ok-inner.ensures b))
    c.begin_atom.ensures
