use Rattle.std.proofs.Common.{◌∙◌, ℕ, ap, map, subst, sym}
use Rattle.std.specs.Prelude.{◌↔◌}
use Rattle.tw_clause.specs.View.{worlds_of}
use Rattle.tw_order.specs.Calls.{IsEqualAmong}
use Rattle.tw_order.specs.Leading.{HasEdge}
use Rattle.tw_order.specs.Listing.{clause_in, named_of}
use Rattle.tw_order.specs.Rows.{families_of, orders_by}
use Rattle.tw_order.proofs.Calling.{edges_are}
use Rattle.tw_order.proofs.Collecting.{all_stand}
use Rattle.tw_order.proofs.Faults.{outcome_of_group}
use Rattle.tw_order.proofs.check.check_order.Goals as goal

pub all_descend-requires : goal.all_descend-requires
all_descend-requires c = all_stand c.args.sig.now (worlds_of c.args.worlds.now) (families_of c.args.group.now) c.deref-3.result.now c.is_canonical.ensures c.requires (ap (map named_of) c.deref-3.ensures.value ∙ c.in_ok-listed.ensures)

pub returns : goal.returns
returns c =
    let es = c.args.sig.now in
    let W = worlds_of c.args.worlds.now in
    let rows = c.args.group.now in
    let calls : (a b : ℕ) → HasEdge c.deref-2.result.now a b ↔ IsEqualAmong rows (map clause_in c.deref.result.now) a b = λ a b. subst (λ es. HasEdge es a b ↔ IsEqualAmong rows (map clause_in c.deref.result.now) a b) (sym c.deref-2.ensures.value) (c.in_ok-edges.ensures a b) in
    outcome_of_group es W (orders_by rows) (families_of rows) (map named_of c.deref-3.result.now) c.all_descend.result (ap (map named_of) c.deref-3.ensures.value ∙ c.in_ok-listed.ensures) (c.all_descend.ensures W (edges_are es W rows c.deref.result.now c.deref-2.result.now (ap (map named_of) c.deref.ensures.value ∙ c.in_ok-listed.ensures) calls))
