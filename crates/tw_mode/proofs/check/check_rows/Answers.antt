use Rattle.std.proofs.Common.{◌≡◌, ◌∙◌, Err, ap, map, rules, subst, sym}
use Rattle.lf.specs.Entries.{signature_of}
use Rattle.tw_clause.specs.View.{worlds_of}
use Rattle.tw_mode.specs.Groups.{FaultsOutcome, GroupOutcome}
use Rattle.tw_mode.specs.Listing.{listed_clauses}
use Rattle.tw_mode.specs.Rows.{marks_in, moded_in}
use Rattle.tw_mode.proofs.Grouping.{group_refused, group_told}
use Rattle.tw_mode.proofs.check.check_rows.Goals as goal

pub returns-in_err-all_have_modes : goal.returns-in_err-all_have_modes
returns-in_err-all_have_modes c = λ rows same.
    let es = c.args.sig.now in
    let W = worlds_of c.args.worlds.now in
    let group = map (λ f. f.0) c.args.group.now in
    let f = c.in_err-all_have_modes.field-0.0 in
    let e : c.from_residual-in_err-all_have_modes.result ≡ Err f = search rules in
    subst (GroupOutcome es rows W group) (sym e) (group_refused c.args.table.now rows same es W group (listed_clauses es W c.deref.result.now) (ap (listed_clauses es W) c.deref.ensures.value ∙ c.in_ok-listed.ensures) f c.in_err-all_have_modes.ensures)

pub returns : goal.returns
returns c = λ rows same.
    let es = c.args.sig.now in
    let W = worlds_of c.args.worlds.now in
    let group = map (λ f. f.0) c.args.group.now in
    let once : c.deref-2.result.now ≡ c.deref.result.now = c.deref-2.ensures.value ∙ sym c.deref.ensures.value in
    group_told c.args.table.now rows same es W group (listed_clauses es W c.deref.result.now) (ap (listed_clauses es W) c.deref.ensures.value ∙ c.in_ok-listed.ensures) tt c.all_are_moded.result c.in_ok-all_have_modes.ensures (subst (λ xs. FaultsOutcome (signature_of es) (marks_in c.args.table.now) (moded_in c.args.table.now) (listed_clauses es W xs) c.all_are_moded.result) once c.all_are_moded.ensures)
