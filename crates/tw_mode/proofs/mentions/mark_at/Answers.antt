use Rattle.std.proofs.Common.{◌+◌, ◌∙◌, ap, arith, drop, get_or, length}
use Rattle.lf_unification.specs.Search.{occurs}
use Rattle.lf_checks.specs.Tests.{both}
use Rattle.tw_signature.specs.Marks.{marked}
use Rattle.tw_signature.proofs.Marking.{args_at, marked_length}
use Rattle.tw_terms.specs.View.{args_of, spine_of, term_of}
use Rattle.tw_terms.proofs.Args.{types}
use Rattle.tw_mode.proofs.Mentioning.{place_next, places_done}
use Rattle.tw_mode.proofs.mentions.mark_at.Goals as goal

pub loop-place-preserved : goal.loop-place-preserved
loop-place-preserved c =
    let items = c.args.spine.now.args.items in
    let k = c.loop-place.place in
    let M = term_of c.arg-item.result in
    let e = c.in_ok-mark_if.ensures ∙ ap (λ b. marked c.args.depth (λ i. both b (occurs i M)) c.loop-place.marks) c.is_chosen.ensures in
    record {
      so_far = place_next c.args.depth k c.args.places.now (args_of (drop k items)) (args_of (drop (k + 1) items)) M c.loop-place.marks c.mark_if.new.marks (args_at items k c.arg-item.result (omega arith) (c.arg-item.is ∙ ap (λ xs. get_or xs k c.arg-item.result) c.deref-arg-items.ensures.value)) e ∙ c.loop-place.invariant.so_far;
      len = ap length c.in_ok-mark_if.ensures ∙ marked_length _ _ _ ∙ c.loop-place.invariant.len;
    }

pub returns : goal.returns
returns c =
    let items = c.args.spine.now.args.items in
    places_done c.args.depth c.loop-place.place c.args.places.now items (spine_of c.args.spine.now) c.args.marks.now c.loop-place.marks (omega arith) c.loop-place.invariant.so_far (grind (arith, types))
