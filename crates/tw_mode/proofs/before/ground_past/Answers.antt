use Rattle.std.proofs.Common.{◌≡◌, ◌+◌, ◌∙◌, ap, arith, get_or, length, map, subst, suc, sym, true}
use Rattle.lf.specs.Syntax.{atom, nil}
use Rattle.tw_clause.specs.View.{subgoal_of}
use Rattle.tw_mode.specs.Rows.{marks_in}
use Rattle.tw_mode.specs.Scopes.{in_marks}
use Rattle.tw_mode.proofs.Reaching.{IsGroundAfter, first_ground, ground_at_number, next_ground}
use Rattle.tw_mode.proofs.before.ground_past.Goals as goal

pub loop-met-init : goal.loop-met-init
loop-met-init c = record {
  ground = λ p is. first_ground c.args.clause.now p is (marks_in c.args.table.now) c.args.entries.now c.in_ok-sum.field-0 c.requires (c.in_ok-sum.ensures ∙ ap (λ n. length c.args.entries.now + n) c.len.ensures) c.in_ok-ground.ground.items c.in_ok-ground.ensures.marks;
  len = c.in_ok-ground.ensures.len;
  within = omega arith;
}

pub loop-met-preserved : goal.loop-met-preserved
loop-met-preserved c =
    let d = c.args.clause.now in
    let k = c.loop-met.met in
    let D = c.in_ok-sum.field-0 in
    let w = c.loop-met.invariant.within in
    let n = c.count_before-count.ensures.within in
    let a = c.len-2.ensures in
    let next : suc k ≡ k + 1 = omega arith in
    record {
      ground = λ p is. subst (λ j. IsGroundAfter p (marks_in c.args.table.now) j (in_marks true D c.solve.new.ground.items)) next (next_ground d p is (marks_in c.args.table.now) c.args.entries.now D c.requires (c.in_ok-sum.ensures ∙ ap (λ n. length c.args.entries.now + n) c.len.ensures) k (subgoal_of c.nth_subgoal-goal.result.now) c.loop-met.ground.items c.solve.new.ground.items (omega (arith, w, n, a)) (c.nth_subgoal-goal.ensures ∙ ap (λ xs. get_or (map subgoal_of xs) k (atom 0 nil)) c.deref.ensures.value) c.in_ok-solve.ensures.ground (c.loop-met.invariant.ground p is));
      len = c.in_ok-solve.ensures.len;
      within = omega arith;
    }

pub returns-clause-ground : goal.returns-clause-ground
returns-clause-ground c = λ p is.
    let gs = c.loop-met.ground.items in
    let k = c.loop-met.met in
    let w = c.loop-met.invariant.within in
    let n = c.count_before-count.ensures.within in
    let b = c.count_before-count.ensures.before in
    ground_at_number c.args.clause.now p is (marks_in c.args.table.now) k c.args.subgoal (in_marks true (length gs) gs) (λ h l. let a = c.len-2.ensures in let q = b h (omega (arith, l, a)) in let e : suc k ≡ suc c.count_before-count.result = omega (arith, w) in e ∙ q) (subst (λ D. IsGroundAfter p (marks_in c.args.table.now) k (in_marks true D gs)) (sym c.loop-met.invariant.len) (c.loop-met.invariant.ground p is))
