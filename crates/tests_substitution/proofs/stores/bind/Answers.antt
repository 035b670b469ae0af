use Rattle.std.proofs.Common.{map}
use Rattle.tw_terms.specs.OpenView.{open_term_of}
use Rattle.tw_terms.specs.View.{skeleton_of}
use Rattle.tests_substitution.proofs.Bindings.{unbound_in, value_is_bound}
use Rattle.tests_substitution.proofs.stores.bind.Goals as goal

pub bind-requires : goal.bind-requires
bind-requires c =
    let h = c.in_ok-may_have.ensures c.if-not-branch.false in
    unbound_in c.args.signature.now (map skeleton_of c.args.outer.now) c.args.store.now.now c.args.meta.0 h.declaration c.requires h.is_declared h.has_none

pub returns : goal.returns
returns c = λ x.
    let h = c.in_ok-may_have.ensures c.if-not-branch.false in
    value_is_bound c.args.signature.now (map skeleton_of c.args.outer.now) c.args.store.now c.bind.new.self c.args.meta.0 (open_term_of c.args.value) h.declaration c.in_ok-bind.ensures.ok c.requires h.is_declared h.has_none h.typed h.others
