use Rattle.std.proofs.Common.{rules}
use Rattle.tw_terms.specs.OpenView.{open_spine_of}
use Rattle.tw_terms.specs.View.{kind_of}
use Rattle.tw_terms.proofs.OpenViews.{open_type_of-Atom}
use Rattle.tw_open.specs.View.{open_kind_of}
use Rattle.tw_elaborate.specs.View.{made}
use Rattle.tw_elaborate.proofs.Scoping.{atom_is_deep, atom_is_new, family_kind_stands}
use Rattle.tw_elaborate.proofs.Taking.{keeps_same}
use Rattle.tw_hered.specs.declared.fault.HeredFault.TheVariants.{TooDeep}
use Rattle.tw_open.proofs.DeepKinds.{fault_of_call}
use Rattle.tw_elaborate.proofs.fresh.new_atom.Goals as goal

pub returns-in_err-open_kind-in-Some-clause-keeps : goal.returns-in_err-open_kind-in-Some-clause-keeps
returns-in_err-open_kind-in-Some-clause-keeps c = keeps_same c.args.state.now

pub returns-in-None-clause-keeps : goal.returns-in-None-clause-keeps
returns-in-None-clause-keeps c = keeps_same c.args.state.now

pub take_all_new-requires : goal.take_all_new-requires
take_all_new-requires c =
    family_kind_stands c.args.signature.now c.requires.canonical (made c.args.state.now) c.args.state.now.locals c.args.family.0 (kind_of c.in-Some.kind.now) (open_kind_of c.in_ok-open_kind-in-Some.field-0) c.requires.stands c.in-Some.ensures c.in_ok-open_kind-in-Some.ensures

pub returns-in_ok-spine-in-Some-clause-ok : goal.returns-in_ok-spine-in-Some-clause-ok
returns-in_ok-spine-in-Some-clause-ok c =
    atom_is_new c.args.signature.now (made c.args.state.now) (made c.take_all_new.new.state) c.args.state.now.locals c.args.family.0 (kind_of c.in-Some.kind.now) (open_kind_of c.in_ok-open_kind-in-Some.field-0) (open_spine_of c.in_ok-spine-in-Some.spine) _
    c.in-Some.ensures c.in_ok-open_kind-in-Some.ensures c.in_ok-spine-in-Some.ensures.ok (open_type_of-Atom c.args.family c.in_ok-spine-in-Some.spine)

pub returns-in_err-spine-in-Some-clause-too_deep : goal.returns-in_err-spine-in-Some-clause-too_deep
returns-in_err-spine-in-Some-clause-too_deep c = λ is.
    atom_is_deep c.args.signature.now (made c.args.state.now) c.args.state.now.locals c.args.family.0 (kind_of c.in-Some.kind.now) (open_kind_of c.in_ok-open_kind-in-Some.field-0) c.in-Some.ensures c.in_ok-open_kind-in-Some.ensures
    (c.in_err-spine-in-Some.ensures.too_deep (fault_of_call c.from_residual-in_err-spine-in-Some.result c.in_err-spine-in-Some.field-0.0 TooDeep (search rules) is))
