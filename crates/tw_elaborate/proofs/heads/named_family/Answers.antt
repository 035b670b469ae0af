use Rattle.std.proofs.Common.{sym, ap, subst}
use Rattle.tw_prune.proofs.Options.{if_ok}
use Rattle.tw_signature.specs.View.{body_of, entry_of}
use Rattle.tw_terms.specs.OpenView.{open_spine_of}
use Rattle.tw_terms.specs.View.{kind_of}
use Rattle.tw_open.specs.View.{open_kind_of}
use Rattle.tw_elaborate.specs.View.{made}
use Rattle.tw_elaborate.proofs.Declaring.{declared_kind_stands, family_named}
use Rattle.tw_elaborate.proofs.Taking.{keeps_same}
use Rattle.tw_elaborate.specs.Deep.{deep_family_implicit}
use Rattle.tw_elaborate.specs.NewDeep.{KindTakesNewDeep}
use Rattle.tw_elaborate.proofs.heads.named_family.Goals as goal

pub returns-in_default-clause-keeps : goal.returns-in_default-clause-keeps
returns-in_default-clause-keeps c = keeps_same c.args.state.now

pub returns-in_err-open_kind-in-Family-clause-keeps : goal.returns-in_err-open_kind-in-Family-clause-keeps
returns-in_err-open_kind-in-Family-clause-keeps c = keeps_same c.args.state.now

pub kind_take_new-requires : goal.kind_take_new-requires
kind_take_new-requires c = declared_kind_stands c.args.signature.now c.requires.canonical (made c.args.state.now) c.args.state.now.locals c.requires.stands c.args.id.0 (entry_of c.in-Some.entry.now) (sym c.in-Some.ensures)
    (kind_of c.in-Family.kind) (open_kind_of c.in_ok-open_kind-in-Family.field-0) c.in_ok-open_kind-in-Family.ensures (ap body_of c.in-Family.is)

pub returns-in_ok-open_kind-in-Family-clause-ok : goal.returns-in_ok-open_kind-in-Family-clause-ok
returns-in_ok-open_kind-in-Family-clause-ok c = if_ok c.kind_take_new.result _ _ (λ p t ns at.
    family_named c.args.signature.now ns at c.args.state.now.locals (made c.args.state.now) (made c.kind_take_new.new.state) c.args.id.0 (entry_of c.in-Some.entry.now) (sym c.in-Some.ensures)
    (kind_of c.in-Family.kind) (open_kind_of c.in_ok-open_kind-in-Family.field-0) (open_kind_of p.1) (open_spine_of p.0) c.in_ok-open_kind-in-Family.ensures (ap body_of c.in-Family.is) t) c.kind_take_new.ensures.ok

pub returns-in-Constant-clause-keeps : goal.returns-in-Constant-clause-keeps
returns-in-Constant-clause-keeps c = keeps_same c.args.state.now

pub returns-in_ok-open_kind-in-Family-clause-too_deep : goal.returns-in_ok-open_kind-in-Family-clause-too_deep
returns-in_ok-open_kind-in-Family-clause-too_deep c = λ is ns at.
    deep_family_implicit (sym c.in-Some.ensures) (ap body_of c.in-Family.is) (subst (λ Y. KindTakesNewDeep c.in-Some.entry.now.implicit c.args.state.now.locals Y (made c.args.state.now)) c.in_ok-open_kind-in-Family.ensures (c.kind_take_new.ensures.too_deep is))
