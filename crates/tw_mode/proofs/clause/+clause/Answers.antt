use Rattle.std.proofs.Common.{◌≡◌, ◌+◌, ◌-◌, ◌<◌, ◌∙◌, List, [], ap, ap₂, arith, false, get_or, length, map, refl, rules, subst, suc, sym, true}
use Rattle.std.specs.Prelude.{Decides, is_none, is_some}
use Rattle.lf.specs.AtOnce.{shift_by}
use Rattle.lf.specs.Depth.{type_depth}
use Rattle.lf.specs.Entries.{quantifiers, signature_of}
use Rattle.lf.specs.Subordination.{IsDeclared}
use Rattle.lf.specs.Syntax.{LfType, atom, nil, pi}
use Rattle.lf_checks.specs.Marks.{HasSoundMarks}
use Rattle.lf_checks.specs.ModeFaults.{HasUnsoundMarks, ModedBefore}
use Rattle.lf_checks.specs.Modes.{EachHypothesis, WellModedFrom}
use Rattle.lf.proofs.Depth.{renaming_keeps_type_depth}
use Rattle.tw_clause.proofs.Walks.{shape_length}
use Rattle.tw_terms.specs.View.{type_of}
use Rattle.tw_terms.proofs.Args.{types}
use Rattle.tw_mode.specs.Checks.{Fits, Outcome}
use Rattle.tw_mode.specs.Rows.{marks_in, moded_in}
use Rattle.tw_mode.specs.Scopes.{fixed_in, in_marks}
use Rattle.tw_mode.specs.Solved.{Stands, clause_in, ground_outside}
use Rattle.tw_mode.proofs.Hypotheses.{filled, hypothesis_there, hypothesis_fails, hypothesis_passes, needs_sound, pushed_under, subgoal_decided, subgoal_sound, subgoal_unground, subgoal_unsound}
use Rattle.tw_clause.proofs.Patterns.{on_value}
use Rattle.tw_mode.proofs.Quantified.{domain_depth, domain_fits, fits_declared, fits_renamed}
use Rattle.tw_mode.proofs.Stepping.{all_walked, clause_ends, clause_faulty, clause_unsound, excused_count, ground_count, listed_domains, loop_walked, walked_of}
use Rattle.tw_mode.proofs.clause.+clause.Goals as goal

pub clause_fault-unsound_place-requires : goal.clause_fault-unsound_place-requires
clause_fault-unsound_place-requires t c = subst (IsDeclared (signature_of c.args.sig.now)) (sym c.target.ensures) (fits_declared (signature_of c.args.sig.now) (type_of c.args.ty.now) c.requires.fits)

pub clause_fault-returns-then-is_some : goal.clause_fault-returns-then-is_some
clause_fault-returns-then-is_some t c =
    let Σ = signature_of c.args.sig.now in
    let tab = c.args.table.now in
    let T = type_of c.args.ty.now in
    let o = c.args.outside.now in
    let r = c.in_ok-unsound.unsound in
    let s : is_some r ≡ true = search rules in
    clause_unsound Σ tab o T (o.depth + quantifiers T) c.requires.fixed refl r c.placed.result s c.placed.ensures (subst (λ a. Outcome (HasSoundMarks Σ a (marks_in tab a)) (HasUnsoundMarks Σ a (marks_in tab a)) r) c.target.ensures c.in_ok-unsound.ensures)

pub each_hypothesis-returns-then-not-branch : goal.each_hypothesis-returns-then-not-branch
each_hypothesis-returns-then-not-branch t c = λ C.
    let P = WellModedFrom (signature_of c.args.sig.now) (marks_in c.args.table.now) (moded_in c.args.table.now) in
    let fs = c.args.fixed.now.items in
    let gs = c.args.ground.now.items in
    let e : type_of c.args.goal.now ≡ pi (type_of c.deref.result.now) (type_of c.in-Pi.range.value) = grind (arith, types) in
    hypothesis_fails P (moded_in c.args.table.now) c.in_ok-is_moded-in-Pi.field-0 C (in_marks false (length fs) fs) (in_marks true (length gs) gs) (type_of c.args.goal.now) (type_of c.deref.result.now) (type_of c.in-Pi.range.value) e c.if-not-branch.true (c.in_ok-is_moded-in-Pi.ensures C)

pub each_hypothesis-returns-in_ok-push-in-Pi-2 : goal.each_hypothesis-returns-in_ok-push-in-Pi-2
each_hypothesis-returns-in_ok-push-in-Pi-2 t c =
    let P = WellModedFrom (signature_of c.args.sig.now) (marks_in c.args.table.now) (moded_in c.args.table.now) in
    let M = moded_in c.args.table.now in
    let fs = c.args.fixed.now.items in
    let gs = c.args.ground.now.items in
    let fn = c.push.new.self.items in
    let gn = c.push-in-Pi.new.self.items in
    let T = type_of c.args.goal.now in
    let A = type_of c.deref.result.now in
    let B = type_of c.deref-in-Pi.result.now in
    let e : T ≡ pi A B = grind (arith, types) in
    on_value c.each_hypothesis.result _ _ (λ b h C. hypothesis_passes P M c.in_ok-is_moded-in-Pi.field-0 b C (in_marks false (length fs) fs) (in_marks false (length fn) fn) (in_marks true (length gs) gs) (in_marks true (length gn) gn) T A B e c.if-not-branch.false (pushed_under false fs fn c.in_ok-push-in-Pi.ensures.items) (pushed_under true gs gn c.in_ok-push-in-Pi-2.ensures.items) (c.in_ok-is_moded-in-Pi.ensures C) (h _)) c.each_hypothesis.ensures

pub hypotheses_are_moded-returns : goal.hypotheses_are_moded-returns
hypotheses_are_moded-returns t c =
    let P = WellModedFrom (signature_of c.args.sig.now) (marks_in c.args.table.now) (moded_in c.args.table.now) in
    let M = moded_in c.args.table.now in
    let s = c.args.scope.now in
    let A = type_of c.args.goal.now in
    let fs = c.in_ok-fixed.fixed.items in
    let gs = c.in_ok-ground.ground.items in
    let f = filled fs s.fixed.now s.depth c.requires.fixed c.in_ok-fixed.ensures.len c.in_ok-fixed.ensures.marks in
    let g = ap₂ (λ n xs. in_marks true n xs) (ap length c.in_ok-ground.ensures.items ∙ c.requires.ground) c.in_ok-ground.ensures.items in
    on_value c.each_hypothesis.result _ _ (λ b h C. subst (λ U. Decides b (EachHypothesis P M C (fixed_in s) U A)) g (subst (λ F. Decides b (EachHypothesis P M C F (in_marks true (length gs) gs) A)) f (h C))) c.each_hypothesis.ensures

pub is_moded-returns : goal.is_moded-returns
is_moded-returns t c = λ C.
    let Σ = signature_of c.args.sig.now in
    let tab = c.args.table.now in
    let o = c.outside_of-outside.result in
    let A = type_of c.args.domain.now in
    let fs = c.args.fixed.now.items in
    let gs = c.args.ground.now.items in
    let n : c.is_none.result ≡ is_none c.in_ok-fault.fault = search rules in
    let m = ap (moded_in tab) (sym c.target.ensures) ∙ sym c.has.ensures ∙ c.if-not-has.false in
    let f = ap₂ (λ d xs. in_marks false d xs) c.outside_of-outside.ensures.depth c.outside_of-outside.ensures.fixed in
    let g = ap₂ (λ d xs. in_marks true d xs) (c.outside_of-outside.ensures.depth ∙ c.requires.same) c.outside_of-outside.ensures.ground in
    hypothesis_there Σ tab o A c.in_ok-fault.fault c.is_none.result n m c.in_ok-fault.ensures C (in_marks false (length fs) fs) (in_marks true (length gs) gs) f g

pub subgoal_fault-unsound_place-requires : goal.subgoal_fault-unsound_place-requires
subgoal_fault-unsound_place-requires t c = subst (IsDeclared (signature_of c.args.sig.now)) (sym c.target.ensures) (fits_declared (signature_of c.args.sig.now) (type_of c.args.goal.now) c.requires.fits)

pub subgoal_fault-returns-then-is_some : goal.subgoal_fault-returns-then-is_some
subgoal_fault-returns-then-is_some t c =
    let Σ = signature_of c.args.sig.now in
    let tab = c.args.table.now in
    let r = c.in_ok-unsound.unsound in
    let s : is_some r ≡ true = search rules in
    subgoal_unsound Σ tab (fixed_in c.args.scope.now) (in_marks true c.args.scope.now.depth c.args.ground.now) (type_of c.args.goal.now) r s (subst (λ a. Outcome (HasSoundMarks Σ a (marks_in tab a)) (HasUnsoundMarks Σ a (marks_in tab a)) r) c.target.ensures c.in_ok-unsound.ensures)

pub subgoal_fault-returns-then-is_some-2 : goal.subgoal_fault-returns-then-is_some-2
subgoal_fault-returns-then-is_some-2 t c =
    let Σ = signature_of c.args.sig.now in
    let tab = c.args.table.now in
    let F = fixed_in c.args.scope.now in
    let U = in_marks true c.args.scope.now.depth c.args.ground.now in
    let A = type_of c.args.goal.now in
    let r = c.in_ok-unsound.unsound in
    let s : is_some r ≡ false = search rules in
    let n : is_some c.in_ok-needs.needs ≡ true = search rules in
    subgoal_unground Σ tab F U A c.in_ok-needs.needs n (subgoal_sound Σ tab F U A r s (subst (λ a. Outcome (HasSoundMarks Σ a (marks_in tab a)) (HasUnsoundMarks Σ a (marks_in tab a)) r) c.target.ensures c.in_ok-unsound.ensures)) c.in_ok-needs.ensures

pub subgoal_fault-returns-else-branch : goal.subgoal_fault-returns-else-branch
subgoal_fault-returns-else-branch t c =
    let Σ = signature_of c.args.sig.now in
    let tab = c.args.table.now in
    let F = fixed_in c.args.scope.now in
    let U = in_marks true c.args.scope.now.depth c.args.ground.now in
    let A = type_of c.args.goal.now in
    let r = c.in_ok-unsound.unsound in
    let s : is_some r ≡ false = search rules in
    let n : is_some c.in_ok-needs.needs ≡ false = search rules in
    let sound = subgoal_sound Σ tab F U A r s (subst (λ a. Outcome (HasSoundMarks Σ a (marks_in tab a)) (HasUnsoundMarks Σ a (marks_in tab a)) r) c.target.ensures c.in_ok-unsound.ensures) in
    (subgoal_decided Σ tab F U A c.in_ok-hypotheses_are_moded.field-0 sound (needs_sound Σ tab F U A c.in_ok-needs.needs n c.in_ok-needs.ensures) c.in_ok-hypotheses_are_moded.ensures).1 c.if-branch.false

pub sound_fault-returns-then-is_some : goal.sound_fault-returns-then-is_some
sound_fault-returns-then-is_some t c =
    let Σ = signature_of c.args.sig.now in
    let tab = c.args.table.now in
    let T = type_of c.args.ty.now in
    let o = c.args.outside.now in
    let d = c.in_ok-sum.ensures ∙ ap (λ n. o.depth + n) c.in_ok-count_quantifiers.ensures in
    let s : is_some c.in_ok-faulty.faulty ≡ true = search rules in
    clause_faulty Σ tab o T c.in_ok-sum.field-0 c.requires.fixed d c.subgoals_fault.new.walk c.in_ok-faulty.faulty c.placed.result s c.placed.ensures c.requires.sound c.in_ok-faulty.ensures

pub sound_fault-clause_end-requires-clause-ground : goal.sound_fault-clause_end-requires-clause-ground
sound_fault-clause_end-requires-clause-ground t c =
    let Σ = signature_of c.args.sig.now in
    let tab = c.args.table.now in
    let T = type_of c.args.ty.now in
    let o = c.args.outside.now in
    let d = c.in_ok-sum.ensures ∙ ap (λ n. o.depth + n) c.in_ok-count_quantifiers.ensures in
    let s : is_some c.in_ok-faulty.faulty ≡ false = search rules in
    ground_count Σ tab o T c.in_ok-sum.field-0 c.requires.fixed d c.subgoals_fault.new.walk (walked_of Σ tab o T c.in_ok-sum.field-0 c.requires.fixed d c.subgoals_fault.new.walk c.in_ok-faulty.faulty s c.in_ok-faulty.ensures)

pub sound_fault-clause_end-requires-clause-excused : goal.sound_fault-clause_end-requires-clause-excused
sound_fault-clause_end-requires-clause-excused t c =
    let Σ = signature_of c.args.sig.now in
    let tab = c.args.table.now in
    let T = type_of c.args.ty.now in
    let o = c.args.outside.now in
    let d = c.in_ok-sum.ensures ∙ ap (λ n. o.depth + n) c.in_ok-count_quantifiers.ensures in
    let s : is_some c.in_ok-faulty.faulty ≡ false = search rules in
    excused_count Σ tab o T c.in_ok-sum.field-0 c.requires.fixed d c.subgoals_fault.new.walk (walked_of Σ tab o T c.in_ok-sum.field-0 c.requires.fixed d c.subgoals_fault.new.walk c.in_ok-faulty.faulty s c.in_ok-faulty.ensures)

pub sound_fault-returns : goal.sound_fault-returns
sound_fault-returns t c =
    let Σ = signature_of c.args.sig.now in
    let tab = c.args.table.now in
    let T = type_of c.args.ty.now in
    let o = c.args.outside.now in
    let d = c.in_ok-sum.ensures ∙ ap (λ n. o.depth + n) c.in_ok-count_quantifiers.ensures in
    let s : is_some c.in_ok-faulty.faulty ≡ false = search rules in
    clause_ends Σ tab o T c.in_ok-sum.field-0 c.requires.fixed d c.subgoals_fault.new.walk c.requires.sound c.requires.fits (walked_of Σ tab o T c.in_ok-sum.field-0 c.requires.fixed d c.subgoals_fault.new.walk c.in_ok-faulty.faulty s c.in_ok-faulty.ensures) c.in_ok-lost.lost c.placed-2.result c.placed-2.ensures c.in_ok-lost.ensures

pub quantifier_fault-step-requires : goal.quantifier_fault-step-requires
quantifier_fault-step-requires t c =
    let q : type_depth (type_of c.in_ok-goal.goal) ≡ type_depth (type_of c.args.domain.now) = ap type_depth c.in_ok-goal.ensures ∙ renaming_keeps_type_depth (shift_by c.args.inside) (type_of c.args.domain.now) in
    (grind (arith, q), (c.requires.head, (c.requires.fixed, (c.requires.ground, (c.requires.excused, subst (Fits (signature_of c.args.sig.now)) (sym c.in_ok-goal.ensures) (fits_renamed (signature_of c.args.sig.now) (shift_by c.args.inside) (type_of c.args.domain.now) c.requires.fits))))))

pub subgoals_fault-loop-left-init : goal.subgoals_fault-loop-left-init
subgoals_fault-loop-left-init t c =
    let n = length c.in_ok-domains.domains.items in
    let e = c.len-left.ensures in
    let q : 0 ≡ n - c.len-left.result = omega (arith, e) in
    record {
      within = omega (arith, e);
      stands = λ C. subst (Stands (marks_in c.args.table.now) (ground_outside c.args.outside.now) (clause_in C c.args.outside.now (type_of c.args.ty.now)) c.args.scope.now.depth c.args.walk.now) q (c.requires.stands C);
      before = λ C i A h. absurd (omega (arith, h, q));
    }

pub subgoals_fault-nth_test-is_variable-requires : goal.subgoals_fault-nth_test-is_variable-requires
subgoals_fault-nth_test-is_variable-requires t c =
    let n = listed_domains (λ d. type_of d.now) c.in_ok-domains.domains.items (type_of c.args.ty.now) c.in_ok-domains.ensures in
    let m = ap length c.requires.shape ∙ shape_length (type_of c.args.ty.now) in
    let w = c.loop-left.invariant.within in
    omega (arith, n, m, w)

pub subgoals_fault-quantifier_fault-requires : goal.subgoals_fault-quantifier_fault-requires
subgoals_fault-quantifier_fault-requires t c =
    let T = type_of c.args.ty.now in
    let n = listed_domains (λ d. type_of d.now) c.in_ok-domains.domains.items T c.in_ok-domains.ensures in
    let w = c.loop-left.invariant.within in
    let s : Stands (marks_in c.args.table.now) (ground_outside c.args.outside.now) (clause_in [] c.args.outside.now T) c.args.scope.now.depth c.loop-left.walk (length c.in_ok-domains.domains.items - c.loop-left.left) = c.loop-left.invariant.stands [] in
    let q = c.nth_domain-domain.ensures ∙ ap (λ xs. get_or (map (λ d. type_of d.now) xs) (c.loop-left.left - 1) (atom 0 nil)) c.deref.ensures.value ∙ ap (λ xs. get_or xs (c.loop-left.left - 1) (atom 0 nil)) c.in_ok-domains.ensures in
    let l : c.loop-left.left - 1 < quantifiers T = omega (arith, n, w) in
    let d : type_depth (type_of c.nth_domain-domain.result.now) < type_depth T = subst (λ X. type_depth X < type_depth T) (sym q) (domain_depth T (c.loop-left.left - 1) (atom 0 nil) l) in
    (grind (arith, d), (c.requires.head, (c.requires.fixed, (s.each_ground, (s.each_excused, subst (Fits (signature_of c.args.sig.now)) (sym q) (domain_fits (signature_of c.args.sig.now) T (c.loop-left.left - 1) (atom 0 nil) c.requires.fits l))))))

pub subgoals_fault-returns-then-is_some : goal.subgoals_fault-returns-then-is_some
subgoals_fault-returns-then-is_some t c =
    let Σ = signature_of c.args.sig.now in
    let tab = c.args.table.now in
    let o = c.args.outside.now in
    let T = type_of c.args.ty.now in
    let ds = c.in_ok-domains.domains.items in
    let k = c.loop-left.left - 1 in
    let n = listed_domains (λ d. type_of d.now) ds T c.in_ok-domains.ensures in
    let w = c.loop-left.invariant.within in
    let here : c.loop-left.left ≡ suc k = omega arith in
    let e = c.len.ensures in
    let j : c.len.result - k ≡ length ds - k = omega (arith, e) in
    let q = c.nth_domain-domain.ensures ∙ ap (λ xs. get_or (map (λ d. type_of d.now) xs) k (atom 0 nil)) c.deref.ensures.value ∙ ap (λ xs. get_or xs k (atom 0 nil)) c.in_ok-domains.ensures in
    let v = c.nth_test-is_variable.ensures ∙ ap (λ xs. get_or xs k false) c.requires.shape in
    let s : (C : List LfType) → Stands (marks_in tab) (ground_outside o) (clause_in C o T) c.args.scope.now.depth c.loop-left.walk (length ds - suc k) = λ C. subst (λ j. Stands (marks_in tab) (ground_outside o) (clause_in C o T) c.args.scope.now.depth c.loop-left.walk (length ds - j)) here (c.loop-left.invariant.stands C) in
    let b : (C : List LfType) → ModedBefore Σ (marks_in tab) (moded_in tab) (ground_outside o) (clause_in C o T) (length ds - suc k) = λ C. subst (λ j. ModedBefore Σ (marks_in tab) (moded_in tab) (ground_outside o) (clause_in C o T) (length ds - j)) here (c.loop-left.invariant.before C) in
    let z : is_some c.in_ok-fault.fault ≡ true = search rules in
    (loop_walked Σ tab o T c.args.scope.now.depth c.requires.outside c.requires.depth c.args.scope.now.fixed.now (length ds) k (c.len.result - k) (type_of c.nth_domain-domain.result.now) c.nth_test-is_variable.result c.loop-left.walk c.quantifier_fault.new.walk c.in_ok-fault.fault c.requires.same n (omega (arith, w)) j q v s b c.in_ok-fault.ensures).1 z

pub subgoals_fault-loop-left-preserved : goal.subgoals_fault-loop-left-preserved
subgoals_fault-loop-left-preserved t c =
    let Σ = signature_of c.args.sig.now in
    let tab = c.args.table.now in
    let o = c.args.outside.now in
    let T = type_of c.args.ty.now in
    let ds = c.in_ok-domains.domains.items in
    let k = c.loop-left.left - 1 in
    let n = listed_domains (λ d. type_of d.now) ds T c.in_ok-domains.ensures in
    let w = c.loop-left.invariant.within in
    let here : c.loop-left.left ≡ suc k = omega arith in
    let e = c.len.ensures in
    let j : c.len.result - k ≡ length ds - k = omega (arith, e) in
    let q = c.nth_domain-domain.ensures ∙ ap (λ xs. get_or (map (λ d. type_of d.now) xs) k (atom 0 nil)) c.deref.ensures.value ∙ ap (λ xs. get_or xs k (atom 0 nil)) c.in_ok-domains.ensures in
    let v = c.nth_test-is_variable.ensures ∙ ap (λ xs. get_or xs k false) c.requires.shape in
    let s : (C : List LfType) → Stands (marks_in tab) (ground_outside o) (clause_in C o T) c.args.scope.now.depth c.loop-left.walk (length ds - suc k) = λ C. subst (λ j. Stands (marks_in tab) (ground_outside o) (clause_in C o T) c.args.scope.now.depth c.loop-left.walk (length ds - j)) here (c.loop-left.invariant.stands C) in
    let b : (C : List LfType) → ModedBefore Σ (marks_in tab) (moded_in tab) (ground_outside o) (clause_in C o T) (length ds - suc k) = λ C. subst (λ j. ModedBefore Σ (marks_in tab) (moded_in tab) (ground_outside o) (clause_in C o T) (length ds - j)) here (c.loop-left.invariant.before C) in
    let z : is_some c.in_ok-fault.fault ≡ false = search rules in
    let r = (loop_walked Σ tab o T c.args.scope.now.depth c.requires.outside c.requires.depth c.args.scope.now.fixed.now (length ds) k (c.len.result - k) (type_of c.nth_domain-domain.result.now) c.nth_test-is_variable.result c.loop-left.walk c.quantifier_fault.new.walk c.in_ok-fault.fault c.requires.same n (omega (arith, w)) j q v s b c.in_ok-fault.ensures).0 z in
    record { within = omega (arith, w); stands = r.0; before = r.1 }

pub subgoals_fault-returns : goal.subgoals_fault-returns
subgoals_fault-returns t c =
    let n = listed_domains (λ d. type_of d.now) c.in_ok-domains.domains.items (type_of c.args.ty.now) c.in_ok-domains.ensures in
    let e : length c.in_ok-domains.domains.items - c.loop-left.left ≡ quantifiers (type_of c.args.ty.now) = omega (arith, n) in
    all_walked (signature_of c.args.sig.now) c.args.table.now c.args.outside.now (type_of c.args.ty.now) c.args.scope.now.depth c.requires.outside c.requires.depth c.loop-left.walk (length c.in_ok-domains.domains.items - c.loop-left.left) e c.loop-left.invariant.stands c.loop-left.invariant.before
