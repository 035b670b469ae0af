use Rattle.std.proofs.Common.{◌≡◌, ap, ◌∙◌, length, map, subst}
use Rattle.std.specs.Prelude.{MatchOption}
use Rattle.tw_abstract.specs.Occurrences.{noted}
use Rattle.tw_abstract.specs.Order.{IsOrder, IsStuck}
use Rattle.tw_abstract.specs.OrderView.{waiting_of}
use Rattle.tw_reorder.specs.Waiting.{outermost_first, through_types, waiting}
use Rattle.tw_reorder.proofs.Steps.{in_order, never_stuck}
use Rattle.tw_reorder.proofs.waiting.order.Goals as goal

pub unreachable-requires : goal.unreachable-requires
unreachable-requires c =
    let F = c.args.context.now in
    let found : c.note_others.new.found ≡ noted (through_types F (length F) 0 c.args.first) (outermost_first (length F)) = c.in_ok-note_others.ensures ∙ ap (λ n. noted c.note_types.new.found (outermost_first n)) c.len.ensures ∙ ap (λ vs. noted vs (outermost_first (length F))) c.in_ok-note_types.ensures in
    let waits : map waiting_of c.deref.result.now ≡ map (waiting F) c.note_others.new.found = ap (map waiting_of) c.deref.ensures.value ∙ c.in_ok-candidates.ensures ∙ ap (map (waiting F)) c.metas.ensures in
    never_stuck c.requires.context.0 F c.args.first c.note_others.new.found (map waiting_of c.deref.result.now) c.requires.context.1 c.requires.within found waits
    (subst (λ o. MatchOption o (IsStuck (map waiting_of c.deref.result.now)) (λ p. IsOrder (map waiting_of c.deref.result.now) p)) c.in-None.is c.in_ok-order.ensures)

pub returns : goal.returns
returns c =
    let F = c.args.context.now in
    let found : c.note_others.new.found ≡ noted (through_types F (length F) 0 c.args.first) (outermost_first (length F)) = c.in_ok-note_others.ensures ∙ ap (λ n. noted c.note_types.new.found (outermost_first n)) c.len.ensures ∙ ap (λ vs. noted vs (outermost_first (length F))) c.in_ok-note_types.ensures in
    let waits : map waiting_of c.deref.result.now ≡ map (waiting F) c.note_others.new.found = ap (map waiting_of) c.deref.ensures.value ∙ c.in_ok-candidates.ensures ∙ ap (map (waiting F)) c.metas.ensures in
    in_order F c.args.first c.note_others.new.found (map waiting_of c.deref.result.now) c.in-Some.order found waits
    (subst (λ o. MatchOption o (IsStuck (map waiting_of c.deref.result.now)) (λ p. IsOrder (map waiting_of c.deref.result.now) p)) c.in-Some.is c.in_ok-order.ensures)
