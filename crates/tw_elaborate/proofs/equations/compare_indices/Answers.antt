use Rattle.std.proofs.Common.{refl, subst, sym}
use Rattle.lf.specs.Entries.{signature_of}
use Rattle.tw_terms.specs.OpenView.{open_spine_of}
use Rattle.tw_terms.specs.View.{kind_of}
use Rattle.tw_open.specs.View.{open_kind_of}
use Rattle.tw_elaborate.specs.View.{made}
use Rattle.tw_elaborate.proofs.Equating.{equations_added, indices_stand}
use Rattle.tw_elaborate.proofs.Scoping.{keeps_on}
use Rattle.tw_elaborate.proofs.Taking.{keeps_same}
use Rattle.lf.specs.Depth.{depth_limit}
use Rattle.tw_open.specs.Deep.{KindTakesDeep}
use Rattle.tw_elaborate.proofs.equations.compare_indices.Goals as goal

pub returns-in_err-kind-in-Some-clause-keeps : goal.returns-in_err-kind-in-Some-clause-keeps
returns-in_err-kind-in-Some-clause-keeps c = keeps_same c.args.state.now

pub index_equations-requires : goal.index_equations-requires
index_equations-requires c =
    indices_stand c.args.signature.now c.requires.canonical (made c.args.state.now) c.args.context.now c.args.family.0 (open_spine_of c.args.left.now) (kind_of c.in-Some.kind.now) (open_kind_of c.in_ok-kind-in-Some.kind) c.in-Some.ensures c.in_ok-kind-in-Some.ensures c.requires.found

pub returns-in_ok-kind-in-Some-clause-ok : goal.returns-in_ok-kind-in-Some-clause-ok
returns-in_ok-kind-in-Some-clause-ok c =
    equations_added (signature_of c.args.signature.now) c.args.state.now.store.now c.args.context.now ((signature_of c.args.signature.now).kinds c.args.family.0) (open_spine_of c.args.left.now) (open_spine_of c.args.right.now) (kind_of c.in-Some.kind.now) (open_kind_of c.in_ok-kind-in-Some.kind)
    c.args.state.now.equations.items c.index_equations.new.found.items c.index_equations.result c.in-Some.ensures c.in_ok-kind-in-Some.ensures c.index_equations.ensures.ok

pub returns-in_ok-kind-in-Some-clause-keeps : goal.returns-in_ok-kind-in-Some-clause-keeps
returns-in_ok-kind-in-Some-clause-keeps c = keeps_on c.args.state.now c.args.state.now _ (keeps_same c.args.state.now) refl refl

pub returns-in_ok-kind-in-Some-clause-too_deep : goal.returns-in_ok-kind-in-Some-clause-too_deep
returns-in_ok-kind-in-Some-clause-too_deep c = λ is.
    (kind_of c.in-Some.kind.now, sym c.in-Some.ensures, subst (λ K. KindTakesDeep depth_limit K (open_spine_of c.args.left.now)) c.in_ok-kind-in-Some.ensures (c.index_equations.ensures.too_deep is))
