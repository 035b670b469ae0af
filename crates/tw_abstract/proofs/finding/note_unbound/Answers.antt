use Rattle.std.proofs.Common.{◌≡◌, ◌+◌, ◌≤◌, length, ◌∙◌, sym, ap, arith}
use Rattle.std.proofs.lemmas.List.{length-map}
use Rattle.tw_metas.specs.State.{value_of}
use Rattle.tw_abstract.proofs.Loops.{next_bound, next_unbound, none_told, some_told}
use Rattle.tw_abstract.proofs.Unbound.{bound_at_most, walk_ends}
use Rattle.tw_abstract.proofs.finding.note_unbound.Goals as goal
use Rattle.tw_abstract.proofs.finding.note_unbound.Goals.{then-is_none+in_ok-note, else-is_none}

pub overflow_sub-unbound : goal.overflow_sub-unbound
overflow_sub-unbound c =
    let s = c.args.store.now.now in
    let l : length s.bound ≤ length s.declared = bound_at_most s c.requires.settled.ready.consistent in
    omega (arith, l, c.declared_count-declared.ensures, c.bound_count.ensures)

pub returns-then-metas-unbound : goal.returns-then-metas-unbound
returns-then-metas-unbound c =
    let s = c.args.store.now.now in
    let f = c.loop-number.found in
    let n : length f ≡ length c.metas.result.now = sym (ap length c.metas.ensures) ∙ length-map c.metas.result.now (λ m. m.0) in
    let k : c.loop-number.number ≤ length s.declared = omega (arith, c.loop-number.auto.number-end, c.declared_count-declared.ensures) in
    let l : length s.declared ≤ length f + length s.bound = omega (arith, n, c.if-metas-unbound.true, c.declared_count-declared.ensures, c.bound_count.ensures) in
    walk_ends s c.requires.settled.ready.consistent c.args.found.now f c.loop-number.number c.requires.unbound k c.loop-number.invariant l

pub loop-number-preserved : goal.loop-number-preserved
loop-number-preserved c =
    let s = c.args.store.now.now in
    let n = c.loop-number.number in
    elim c.if-is_none.branch [
      | then-is_none+in_ok-note w ↦ w.found-is ∙ next_unbound s n c.args.found.now c.loop-number.found w.note.new.found (none_told _ c.value.result (value_of s n) c.value.ensures w.if-is_none.ensures) c.loop-number.invariant w.in_ok-note.ensures
      | else-is_none w ↦ let (N, v) = some_told _ c.value.result (value_of s n) c.value.ensures w.if-is_none.ensures in w.found-is ∙ next_bound s n c.args.found.now c.loop-number.found N v c.loop-number.invariant
    ]
