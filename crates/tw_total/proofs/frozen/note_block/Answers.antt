use Rattle.std.proofs.Common.{◌++◌, ◌∙◌, ap, sym, take}
use Rattle.std.proofs.lemmas.List.{flat_map_more}
use Rattle.lf.specs.Variables.{target}
use Rattle.tw_subord.specs.Rows.{row}
use Rattle.tw_terms.specs.View.{type_of}
use Rattle.tw_total.specs.Entries.{below_targets}
use Rattle.tw_total.proofs.Within.{take_next}
use Rattle.tw_total.proofs.frozen.note_block.Goals as goal

pub loop-number-preserved : goal.loop-number-preserved
loop-number-preserved c =
    let s = c.args.subord.now in
    let es = c.args.block.now.entries in
    let n = c.loop-number.number in
    let E = type_of c.in-Some.entry.now in
    let old = c.args.numbers.now.items in
    c.in_ok-extend_from_slice.ensures.items
    ∙ (ap (λ xs. c.loop-number.numbers.items ++ xs) (c.families_below.ensures.families ∙ ap (row s) c.target.ensures)
    ∙ (ap (λ xs. xs ++ row s (target E)) c.loop-number.invariant
    ∙ (flat_map_more (λ F. row s (target F)) old (take n es) E ∙ ap (λ xs. old ++ below_targets s xs) (sym (take_next es n E c.in-Some.ensures)))))
