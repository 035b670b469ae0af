use Rattle.std.proofs.Common.{◌≡◌, ◌∙◌, Some, ap, drop, rules, subst, suc, sym}
use Rattle.std.specs.Prelude.{slice_get}
use Rattle.lf.specs.Entries.{signature_of}
use Rattle.lf_checks.specs.Clauses.{named_entry, of_entry}
use Rattle.tw_clause.specs.View.{block_of}
use Rattle.tw_terms.specs.View.{type_of}
use Rattle.tw_mode.specs.Groups.{FaultsOutcome}
use Rattle.tw_mode.specs.Listing.{with_entry}
use Rattle.tw_mode.specs.Rows.{marks_in, moded_in}
use Rattle.tw_mode.proofs.Entries.{entry_fits}
use Rattle.tw_mode.proofs.Listing.{found_within}
use Rattle.tw_mode.proofs.Outer.{entry_number}
use Rattle.tw_mode.proofs.check.entry_is_moded.Goals as goal

pub entry_fault-requires-clause-fits : goal.entry_fault-requires-clause-fits
entry_fault-requires-clause-fits c =
    let e : slice_get c.args.block.now.entries c.args.newer ≡ Some (type_of c.in-Some.ty.now) = search rules in
    entry_fits (signature_of c.args.sig.now) c.args.block.now.some c.args.block.now.entries c.args.newer (type_of c.in-Some.ty.now) c.requires e

pub entry_name-requires : goal.entry_name-requires
entry_name-requires c =
    let e : slice_get c.args.block.now.entries c.args.newer ≡ Some (type_of c.in-Some.ty.now) = search rules in
    found_within c.args.block.now.entries c.args.newer (type_of c.in-Some.ty.now) e

pub returns : goal.returns
returns c =
    let Σ = signature_of c.args.sig.now in
    let tab = c.args.table.now in
    let B = block_of c.args.block.now in
    let E = type_of c.in-Some.ty.now in
    let e : slice_get c.args.block.now.entries c.args.newer ≡ Some E = search rules in
    let w = found_within c.args.block.now.entries c.args.newer E e in
    subst (λ o. FaultsOutcome Σ (marks_in tab) (moded_in tab) (with_entry B c.args.newer o) c.told.result) (sym e) (c.told.ensures Σ tab (named_entry B (drop (suc c.args.newer) B.entries) E) (ap (of_entry B.label) (entry_number B.entries c.args.newer w) ∙ sym c.in_ok-entry_name.ensures) c.in_ok-fault.ensures)
