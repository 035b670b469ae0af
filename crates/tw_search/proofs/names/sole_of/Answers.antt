use Rattle.std.proofs.Common.{sym}
use Rattle.tw_terms.specs.OpenView.{open_term_of}
use Rattle.tw_abstract.proofs.Standing.{settled_values}
use Rattle.tw_search.proofs.Naming.{sole_found}
use Rattle.tw_search.proofs.names.sole_of.Goals as goal

pub put_in-requires : goal.put_in-requires
put_in-requires c = settled_values _ c.requires _ _ (sym c.in-Some.ensures)

pub returns-in_ok-sole_metavariable-in-Some-clause-sole : goal.returns-in_ok-sole_metavariable-in-Some-clause-sole
returns-in_ok-sole_metavariable-in-Some-clause-sole c =
    sole_found c.args.store.now.now c.args.meta.0 (open_term_of c.in-Some.value.now) (open_term_of c.in_ok-value-in-Some.value) (sym c.in-Some.ensures) (settled_values _ c.requires _ _ (sym c.in-Some.ensures)) c.in_ok-value-in-Some.ensures.ok
    c.in_ok-sole_metavariable-in-Some.field-0 c.in_ok-sole_metavariable-in-Some.ensures
