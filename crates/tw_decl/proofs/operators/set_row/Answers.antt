use Rattle.std.proofs.Common.{◌≡◌, List, ℕ, sym, ap, ◌∙◌, subst}
use Rattle.std.specs.Prelude.{reverse}
use Rattle.std.specs.FinMap as map
use Rattle.tw_parse.specs.Outlines.{Table}
use Rattle.tw_decl.specs.Undoing.{LeadsBack}
use Rattle.tw_decl.specs.declared.operators.OldRow.{OldRow}
use Rattle.tw_decl.proofs.Undone.{set_leads, unset_leads}
use Rattle.tw_decl.proofs.operators.set_row.Goals as goal

-- the same table and the same rows lead back
leads_same : (t u first : Table) (xs ys : List OldRow) → t ≡ u → xs ≡ ys → LeadsBack u (reverse ys) first → LeadsBack t (reverse xs) first
leads_same t u first xs ys p q h = subst (λ (x : Table). LeadsBack x (reverse xs) first) (sym p) (subst (λ (zs : List OldRow). LeadsBack u (reverse zs) first) (sym q) h)

pub returns-in-Ok-clause-back : goal.returns-in-Ok-clause-back
returns-in-Ok-clause-back c first h =
    leads_same c.set.new.self (map.insert c.args.table.now c.args.name.now c.args.fix) first c.push.new.self.items _
    (c.in-Ok.ensures.ok ∙ ap (λ (n : List ℕ). map.insert c.args.table.now n c.args.fix) c.in_ok-given.ensures) c.in_ok-push.ensures.items
    (set_leads c.args.table.now first c.args.fix c.args.name.now c.args.old.now.items (record { name = c.in_ok-kept.kept; row = c.get-row.result }) c.in_ok-kept.ensures c.get-row.ensures h)

pub returns-in-Err-clause-back : goal.returns-in-Err-clause-back
returns-in-Err-clause-back c first h =
    leads_same c.set.new.self c.args.table.now first c.push.new.self.items _ c.in-Err.ensures.err c.in_ok-push.ensures.items
    (unset_leads c.args.table.now first c.args.name.now c.args.old.now.items (record { name = c.in_ok-kept.kept; row = c.get-row.result }) c.in_ok-kept.ensures c.get-row.ensures
    (sym (ap (map.get c.args.table.now) c.in_ok-given.ensures) ∙ c.in-Err.ensures.absent) h)
