use Rattle.std.proofs.Common.{◌≡◌, ◌+◌, ◌∙◌, ap, arith, drop, get_or, suc, subst, sym, Some, None}
use Rattle.tw_signature.proofs.Marking.{args_at}
use Rattle.tw_terms.specs.View.{args_of, spine_of, term_of}
use Rattle.tw_terms.proofs.Args.{types}
use Rattle.tw_mode.specs.Allowed.{allowed_in}
use Rattle.tw_mode.proofs.Needing.{PlacesOutcome, place_fails, places_pass}
use Rattle.tw_mode.proofs.Using.{no_of}
use Rattle.tw_mode.proofs.inputs.first_outside.Goals as goal

pub returns-then-not-branch : goal.returns-then-not-branch
returns-then-not-branch c =
    let items = c.args.spine.now.args.items in
    let k = c.loop-place.place in
    let U = allowed_in c.args.allowed.now in
    let whole : args_of items ≡ spine_of c.args.spine.now = grind (arith, types) in
    let e = args_at items k c.arg-item.result (omega arith) (c.arg-item.is ∙ ap (λ xs. get_or xs k c.arg-item.result) c.deref-arg-items.ensures.value) in
    subst (λ j. PlacesOutcome U 1 c.args.places.now (spine_of c.args.spine.now) (Some j)) (sym c.in_ok-one_more.ensures)
    (subst (λ S. PlacesOutcome U 1 c.args.places.now S (Some (suc k))) whole
    (c.loop-place.invariant (Some (suc k)) (place_fails U k c.args.places.now (args_of (drop k items)) (args_of (drop (k + 1) items)) (term_of c.arg-item.result) e (sym c.is_chosen.ensures ∙ c.if-is_chosen.true) (no_of c.in_ok-uses_term.field-0 c.if-not-branch.true c.in_ok-uses_term.ensures))))

pub returns : goal.returns
returns c =
    let items = c.args.spine.now.args.items in
    let U = allowed_in c.args.allowed.now in
    let whole : args_of items ≡ spine_of c.args.spine.now = grind (arith, types) in
    subst (λ S. PlacesOutcome U 1 c.args.places.now S None) whole (c.loop-place.invariant None (places_pass U c.loop-place.place c.args.places.now items (omega arith)))
