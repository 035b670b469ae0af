use Rattle.std.proofs.Common.{◌≡◌, [], Some, refl, rules, subst, sym}
use Rattle.lf.specs.Entries.{signature_of}
use Rattle.lf_checks.specs.Clause.{constant_clause}
use Rattle.lf_checks.specs.Clauses.{of_constant, with_constant}
use Rattle.tw_terms.specs.View.{type_of}
use Rattle.tw_mode.specs.Groups.{FaultsOutcome}
use Rattle.tw_mode.specs.Rows.{marks_in, moded_in}
use Rattle.tw_mode.proofs.Entries.{constant_fits}
use Rattle.tw_mode.proofs.check.constant_is_moded.Goals as goal

pub constant_fault-requires : goal.constant_fault-requires
constant_fault-requires c =
    let e : (signature_of c.args.sig.now).types c.args.id.0 ≡ Some (type_of c.in-Some.ty.now) = search rules in
    constant_fits c.args.sig.now c.args.id.0 (type_of c.in-Some.ty.now) c.is_canonical.ensures e

pub returns : goal.returns
returns c =
    let Σ = signature_of c.args.sig.now in
    let tab = c.args.table.now in
    let U = type_of c.in-Some.ty.now in
    let e : Σ.types c.args.id.0 ≡ Some U = search rules in
    subst (λ o. FaultsOutcome Σ (marks_in tab) (moded_in tab) (with_constant c.args.id.0 o []) c.told.result) (sym e) (c.told.ensures Σ tab (record { name = of_constant c.args.id.0; clause = constant_clause U }) refl c.in_ok-fault.ensures)
