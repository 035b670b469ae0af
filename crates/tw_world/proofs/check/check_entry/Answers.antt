use Rattle.std.proofs.Common.{◌≡◌, ◌-◌, ◌∙◌, ◌∷◌, [], Err, ap, ap₂, cond, drop, rules, subst, suc, sym}
use Rattle.lf.specs.Entries.{signature_of}
use Rattle.lf.specs.Variables.{same_number, target}
use Rattle.lf.proofs.Entries.{canonical_is_signature}
use Rattle.lf_checks.specs.Clause.{among, entry_clause}
use Rattle.lf_checks.specs.Clauses.{named_entry, of_entry}
use Rattle.lf_checks.specs.Faults.{AllPass, FirstFault, here}
use Rattle.std.specs.Prelude.{ℕ}
use Rattle.tw_clause.specs.View.{block_of}
use Rattle.tw_terms.specs.View.{type_of}
use Rattle.tw_world.specs.Checks.{Checked, ClauseFails, ClauseGoesDeep, ClauseOutcome, ClausePasses, clause_of}
use Rattle.tw_world.specs.Faults.{fault_of}
use Rattle.tw_world.proofs.Checked.{at_entry, entry_context, entry_is_type, entry_number, no_entry, one_open}
use Rattle.tw_world.proofs.check.check_entry.Goals as goal

pub returns-then-target-family : goal.returns-then-target-family
returns-then-target-family c = λ E s.
    let x = c.args.check.now in
    no_entry (block_of c.args.block.now) c.args.family.0 (AllPass (ClausePasses x)) c.args.newer (type_of c.in-Some.ty.now) E (sym c.in-Some.ensures) s (λ q. c.if-target-family.true (c.target.ensures ∙ q)) tt

pub clause_fault-requires-clause-signature : goal.clause_fault-requires-clause-signature
clause_fault-requires-clause-signature c = canonical_is_signature c.args.check.now.sig.now c.is_canonical.ensures

pub clause_fault-requires-clause-outer : goal.clause_fault-requires-clause-outer
clause_fault-requires-clause-outer c = entry_context (signature_of c.args.check.now.sig.now) c.args.block.now.entries c.args.block.now.some c.args.outer.now c.args.newer (type_of c.in-Some.ty.now) (sym c.in-Some.ensures) c.requires.block c.requires.outer

pub clause_fault-requires-clause-ty : goal.clause_fault-requires-clause-ty
clause_fault-requires-clause-ty c = entry_is_type (signature_of c.args.check.now.sig.now) c.args.block.now.entries c.args.block.now.some c.args.outer.now c.args.newer (type_of c.in-Some.ty.now) (sym c.in-Some.ensures) c.requires.block c.requires.outer

pub returns-in_err-subgoal : goal.returns-in_err-subgoal
returns-in_err-subgoal c = λ E s.
    let x = c.args.check.now in
    let B = block_of c.args.block.now in
    let a = c.args.family.0 in
    let n = c.args.newer in
    let T = type_of c.in-Some.ty.now in
    let D = drop (suc n) B.entries in
    let f = c.in_err-subgoal.field-0.0 in
    let e : c.from_residual.result ≡ Err (fault_of f) = search rules in
    subst (Checked x (cond (same_number (target E) a) (named_entry B D E ∷ []) [])) (sym e) (at_entry B a (λ cs. Checked x cs (Err (fault_of f))) n T E (sym c.in-Some.ensures) s (sym c.target.ensures ∙ c.if-target-family.false) (one_open x (named_entry B D T) f (λ deep. subst (λ C. (j : ℕ) × ClauseGoesDeep x (clause_of C (among D) T) j) c.requires.outer (c.in_err-subgoal.ensures.too_deep (ap Err deep) (among D)))))

pub returns-in_ok-copy-in-Some-2 : goal.returns-in_ok-copy-in-Some-2
returns-in_ok-copy-in-Some-2 c = λ E s.
    let x = c.args.check.now in
    let B = block_of c.args.block.now in
    let a = c.args.family.0 in
    let n = c.args.newer in
    let T = type_of c.in-Some.ty.now in
    let D = drop (suc n) B.entries in
    let h : ClauseFails x (entry_clause B D T) c.in-Some-2.subgoal = subst (ClauseOutcome x (entry_clause B D T)) c.in-Some-2.is (subst (λ C. ClauseOutcome x (clause_of C (among D) T) c.in_ok-subgoal.field-0) c.requires.outer (c.in_ok-subgoal.ensures.decided (among D))) in
    at_entry B a (λ cs. FirstFault (ClausePasses x) (ClauseFails x) cs (of_entry c.in_ok-copy-in-Some-2.field-0 (c.len.result - n)) c.in-Some-2.subgoal) n T E (sym c.in-Some.ensures) s (sym c.target.ensures ∙ c.if-target-family.false) (here (ap₂ of_entry (sym c.in_ok-copy-in-Some-2.ensures) (entry_number B a n c.requires.within ∙ sym (ap (λ k. k - n) c.len.ensures))) h)

pub returns-in-None : goal.returns-in-None
returns-in-None c = λ E s.
    let x = c.args.check.now in
    let B = block_of c.args.block.now in
    let a = c.args.family.0 in
    let n = c.args.newer in
    let T = type_of c.in-Some.ty.now in
    let D = drop (suc n) B.entries in
    let h : ClausePasses x (entry_clause B D T) = subst (ClauseOutcome x (entry_clause B D T)) c.in-None.is (subst (λ C. ClauseOutcome x (clause_of C (among D) T) c.in_ok-subgoal.field-0) c.requires.outer (c.in_ok-subgoal.ensures.decided (among D))) in
    at_entry B a (AllPass (ClausePasses x)) n T E (sym c.in-Some.ensures) s (sym c.target.ensures ∙ c.if-target-family.false) (h, tt)
