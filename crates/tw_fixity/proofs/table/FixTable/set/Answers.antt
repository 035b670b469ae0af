use Rattle.std.proofs.Common.{◌≡◌, ◌∙◌, sym, ap, None, Ok, Err, OnErr}
use Rattle.std.specs.declared.result.Result.{Result}
use Rattle.std.specs.FinMap as map
use Rattle.tw_fixity.specs.Rows.{rows_of}
use Rattle.tw_fixity.proofs.Maps.{get_rows, set_row}
use Rattle.tw_fixity.proofs.table.FixTable.set.Goals as goal

on_err : {A E : Type 0} (P : Type 0) (r : Result A E) → P → OnErr r P
on_err P (Ok x) p = tt
on_err P (Err e) p = p

pub returns-clause-ok : goal.returns-clause-ok
returns-clause-ok c =
    set_row c.self.inside.rows.entries c.insert.new.self.entries c.into_bytes.result.items c.args.fix c.in_ok-insert.ensures.updates.1 c.in_ok-insert.ensures.updates.3
    ∙ ap (λ name. map.insert (rows_of c.self.inside.rows.entries) name c.args.fix) c.into_bytes.ensures
    ∙ ap (λ m. map.insert m c.args.name c.args.fix) c.self.view_is

pub returns-in_err-insert-clause-absent : goal.returns-in_err-insert-clause-absent
returns-in_err-insert-clause-absent c = on_err (map.get c.args.self.now c.args.name ≡ None) c.from_residual.result
    (sym (ap (λ name. map.get (rows_of c.self.inside.rows.entries) name) c.into_bytes.ensures
    ∙ ap (λ m. map.get m c.args.name) c.self.view_is)
    ∙ get_rows c.self.inside.rows.entries c.into_bytes.result.items
    ∙ c.in_err-insert.ensures.absent)
