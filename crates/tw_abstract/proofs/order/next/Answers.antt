use Rattle.std.proofs.Common.{◌≡◌, ◌<◌, ◌≤◌, Some, length, slice_get, arith, sym, ap, ◌∙◌, subst}
use Rattle.std.proofs.lemmas.Grind.{common_steps}
use Rattle.lf.specs.Subordination.{Member}
use Rattle.tw_terms.specs.declared.canonical.MetaId.{MetaId}
use Rattle.tw_abstract.specs.OrderView.{AreChosen, AreMet}
use Rattle.tw_abstract.proofs.Choosing.{can_follow, cannot_follow, entry_at, found, next_here, none_next, met_less, not_found, one_met, one_before_more}
use Rattle.tw_abstract.proofs.order.next.Goals as goal
use Rattle.tw_abstract.proofs.order.next.Goals.{then-is_none+else-met-at, else-is_none}

pub returns-then-met-at-clause-first : goal.returns-then-met-at-clause-first
returns-then-met-at-clause-first c =
    let s = entry_at c.args.candidates.now c.loop-at.at c.index-candidates-at.result c.loop-at-test.true c.index-candidates-at.is in
    let e : c.chosen_needs.result ≡ length c.index-candidates-at.result.needs.items = grind (arith, common_steps) in
    let a = subst (λ xs. AreChosen c.args.chosen.now xs c.chosen_needs.result) c.deref.ensures.value c.chosen_needs.ensures.chosen in
    next_here c.args.chosen.now c.args.candidates.now c.loop-at.at c.index-candidates-at.result s
    (can_follow c.args.chosen.now c.index-candidates-at.result c.chosen_needs.result (not_found c.args.chosen.now c.index-candidates-at.result.meta.0 c.variable.result c.variable.ensures c.if-is_none.ensures) a e) c.loop-at.invariant.none

pub returns-then-met-at-clause-known : goal.returns-then-met-at-clause-known
returns-then-met-at-clause-known c =
    let s = entry_at c.args.candidates.now c.loop-at.at c.index-candidates-at.result c.loop-at-test.true c.index-candidates-at.is in
    let b : c.loop-at.at < length c.loop-at.met = omega arith in
    let p = subst (λ xs. (c.chosen_needs.result ≤ length xs) × AreChosen c.args.chosen.now xs c.chosen_needs.result) c.deref.ensures.value (c.chosen_needs.ensures.within, c.chosen_needs.ensures.chosen) in
    one_met c.args.chosen.now c.args.candidates.now c.loop-at.met c.loop-at.at c.chosen_needs.result c.index-candidates-at.result b c.loop-at.invariant.known s p.0 p.1

pub loop-at-preserved : goal.loop-at-preserved
loop-at-preserved c =
    let s = entry_at c.args.candidates.now c.loop-at.at c.index-candidates-at.result c.loop-at-test.true c.index-candidates-at.is in
    let b : c.loop-at.at < length c.loop-at.met = omega arith in
    elim c.if-is_none.branch [
      | then-is_none+else-met-at w ↦
          let p = subst (λ xs. (w.chosen_needs.result ≤ length xs) × AreChosen c.args.chosen.now xs w.chosen_needs.result) w.deref.ensures.value (w.chosen_needs.ensures.within, w.chosen_needs.ensures.chosen) in
          let h = met_less c.loop-at.met c.loop-at.at w.chosen_needs.result w.len.result (length c.index-candidates-at.result.needs.items) b w.if-met-at.false (w.len.ensures ∙ sym w.deref.ensures.len ∙ ap length w.deref.ensures.value) p.0 in
          record {
            known = subst (AreMet c.args.chosen.now c.args.candidates.now) (sym w.met-is) (one_met c.args.chosen.now c.args.candidates.now c.loop-at.met c.loop-at.at w.chosen_needs.result c.index-candidates-at.result b c.loop-at.invariant.known s p.0 p.1);
            none = one_before_more c.args.chosen.now c.args.candidates.now c.loop-at.at c.index-candidates-at.result s c.loop-at.invariant.none (cannot_follow c.args.chosen.now c.index-candidates-at.result w.chosen_needs.result h (subst (λ xs. (n : MetaId) → slice_get xs w.chosen_needs.result ≡ Some n → Member n.0 c.args.chosen.now → ⊥) w.deref.ensures.value w.chosen_needs.ensures.last));
          }
      | else-is_none w ↦ record {
        known = subst (AreMet c.args.chosen.now c.args.candidates.now) (sym w.met-is) c.loop-at.invariant.known;
        none = one_before_more c.args.chosen.now c.args.candidates.now c.loop-at.at c.index-candidates-at.result s c.loop-at.invariant.none (λ f. f.0 (found c.args.chosen.now c.index-candidates-at.result.meta.0 c.variable.result c.variable.ensures w.if-is_none.ensures));
      }
    ]

pub returns-clause-first : goal.returns-clause-first
returns-clause-first c = none_next c.args.chosen.now c.args.candidates.now c.loop-at.at c.loop-at-test.false c.loop-at.invariant.none
