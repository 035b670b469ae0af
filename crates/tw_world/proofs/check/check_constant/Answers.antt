use Rattle.std.proofs.Common.{◌≡◌, [], Err, ap, ℕ, refl, rules, subst, sym}
use Rattle.lf.specs.Entries.{signature_of}
use Rattle.lf.specs.Typing.{IsType}
use Rattle.lf.specs.Variables.{nothing}
use Rattle.lf.proofs.Entries.{canonical_is_signature}
use Rattle.lf_checks.specs.Clause.{constant_clause}
use Rattle.lf_checks.specs.Clauses.{of_constant, with_constant}
use Rattle.lf_checks.specs.Faults.{AllPass, FirstFault, here}
use Rattle.tw_terms.specs.View.{type_of}
use Rattle.tw_world.specs.Checks.{Checked, ClauseFails, ClauseGoesDeep, ClauseOutcome, ClausePasses, clause_of}
use Rattle.tw_world.specs.Faults.{fault_of}
use Rattle.tw_world.proofs.Checked.{at_constant, one_open}
use Rattle.tw_world.proofs.check.check_constant.Goals as goal

pub clause_fault-requires-clause-signature : goal.clause_fault-requires-clause-signature
clause_fault-requires-clause-signature c = canonical_is_signature c.args.check.now.sig.now c.is_canonical.ensures

pub clause_fault-requires-clause-ty : goal.clause_fault-requires-clause-ty
clause_fault-requires-clause-ty c =
    let es = c.args.check.now.sig.now in
    subst (λ C. IsType (signature_of es) C (type_of c.in-Some.ty.now)) (sym c.new.ensures) ((canonical_is_signature es c.is_canonical.ensures).types_ok c.args.id.0 (type_of c.in-Some.ty.now) (sym c.in-Some.ensures))

pub returns-in_err-subgoal : goal.returns-in_err-subgoal
returns-in_err-subgoal c =
    let x = c.args.check.now in
    let k = c.args.id.0 in
    let U = type_of c.in-Some.ty.now in
    let f = c.in_err-subgoal.field-0.0 in
    let e : c.from_residual.result ≡ Err (fault_of f) = search rules in
    subst (Checked x (with_constant k ((signature_of x.sig.now).types k) [])) (sym e) (at_constant (λ cs. Checked x cs (Err (fault_of f))) k ((signature_of x.sig.now).types k) U c.in-Some.ensures (one_open x (record { name = of_constant k; clause = constant_clause U }) f (λ deep. subst (λ C. (j : ℕ) × ClauseGoesDeep x (clause_of C nothing U) j) c.new.ensures (c.in_err-subgoal.ensures.too_deep (ap Err deep) nothing))))

pub returns-in-Some-2 : goal.returns-in-Some-2
returns-in-Some-2 c =
    let x = c.args.check.now in
    let k = c.args.id.0 in
    let U = type_of c.in-Some.ty.now in
    let h : ClauseFails x (constant_clause U) c.in-Some-2.subgoal = subst (ClauseOutcome x (constant_clause U)) c.in-Some-2.is (subst (λ C. ClauseOutcome x (clause_of C nothing U) c.in_ok-subgoal.field-0) c.new.ensures (c.in_ok-subgoal.ensures.decided nothing)) in
    at_constant (λ cs. FirstFault (ClausePasses x) (ClauseFails x) cs (of_constant k) c.in-Some-2.subgoal) k ((signature_of x.sig.now).types k) U c.in-Some.ensures (here refl h)

pub returns : goal.returns
returns c =
    let x = c.args.check.now in
    let k = c.args.id.0 in
    let U = type_of c.in-Some.ty.now in
    let h : ClausePasses x (constant_clause U) = subst (ClauseOutcome x (constant_clause U)) c.in-None.is (subst (λ C. ClauseOutcome x (clause_of C nothing U) c.in_ok-subgoal.field-0) c.new.ensures (c.in_ok-subgoal.ensures.decided nothing)) in
    at_constant (AllPass (ClausePasses x)) k ((signature_of x.sig.now).types k) U c.in-Some.ensures (h, tt)
