use Rattle.std.proofs.Common.{◌++◌, ◌∷◌, ◌∙◌, [], ap, append_assoc, map, sym, take}
use Rattle.std.proofs.lemmas.List.{map-append}
use Rattle.tw_terms.specs.View.{type_of}
use Rattle.tw_total.proofs.Within.{take_next}
use Rattle.tw_total.proofs.seen.note_block.Goals as goal

pub loop-number-preserved : goal.loop-number-preserved
loop-number-preserved c =
    let es = c.args.block.now.entries in
    let n = c.loop-number.number in
    let E = type_of c.in-Some.entry.now in
    let old = map type_of c.args.types.now.items in
    ap (map type_of) c.in_ok-push.ensures.items
    ∙ (map-append type_of c.loop-number.types.items (c.in_ok-copy.field-0 ∷ [])
    ∙ (ap (λ F. map type_of c.loop-number.types.items ++ F ∷ []) c.in_ok-copy.ensures
    ∙ (ap (λ xs. xs ++ E ∷ []) c.loop-number.invariant
    ∙ (append_assoc old (take n es) (E ∷ []) ∙ ap (λ xs. old ++ xs) (sym (take_next es n E c.in-Some.ensures))))))
