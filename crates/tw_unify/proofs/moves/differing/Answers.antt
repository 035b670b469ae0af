use Rattle.std.proofs.Common.{inr, sym, ap, ◌∙◌, subst, get_or, rules}
use Rattle.std.specs.Option.{IfNone, IfSome, option_map}
use Rattle.tw_prune.specs.Losing.{AreDifferences, KeepsArgument, LosesArgument}
use Rattle.tw_terms.specs.OpenView.{open_spine_of, open_term_of, open_type_of}
use Rattle.tw_unify.proofs.Moving.{PlacesKept, both_lose, element_of, keeps_it, loses_it, none_differs, places_kept_next, took_all}
use Rattle.tw_putting.proofs.Views.{type_told}
use Rattle.tw_unify.proofs.Renewals.{told_of}
use Rattle.tw_unify.proofs.moves.differing.Goals as goal

pub returns-in-Some-2 : goal.returns-in-Some-2
returns-in-Some-2 c =
    let s = c.args.store.now.now in
    let items = c.deref-place-items.result.now in
    let place = get_or items c.loop-place.place-index 0 in
    let X = open_type_of c.in-Some.ty.now in
    let l : LosesArgument X place (open_type_of c.in-Some-2.pruned.ty) (open_spine_of c.in-Some-2.pruned.spine) =
    subst (λ o. IfSome o (λ p. LosesArgument X place (open_type_of p.ty) (open_spine_of p.spine))) c.in-Some-2.is c.in_ok-pruned-in-Some.ensures.pruned in
    inr (both_lose s c.args.context.now c.args.meta.0 c.args.pattern.now (open_term_of c.args.right.now) c.requires.fits.is_pattern c.args.other_pattern.now items c.requires.same
    (subst (AreDifferences c.args.pattern.now c.args.other_pattern.now) (sym c.deref-place-items.ensures.value) c.in_ok-places.ensures) place (open_type_of c.in-Some-2.pruned.ty) (open_spine_of c.in-Some-2.pruned.spine)
    (element_of items c.loop-place.place-index 0 c.loop-place-test.true)
    (loses_it s c.args.meta.0 place X (open_type_of c.in-Some-2.pruned.ty) (open_spine_of c.in-Some-2.pruned.spine) (type_told s c.args.meta.0 c.in-Some.field-0-0.now X (search rules)) l))

pub loop-place-preserved : goal.loop-place-preserved
loop-place-preserved c =
    let s = c.args.store.now.now in
    let items = c.deref-place-items.result.now in
    let place = get_or items c.loop-place.place-index 0 in
    let X = open_type_of c.in-Some.ty.now in
    let k : KeepsArgument X place = subst (λ o. IfNone o (KeepsArgument X place)) c.in-None-2.is c.in_ok-pruned-in-Some.ensures.blocked in
    places_kept_next s c.args.meta.0 items c.loop-place.place-index 0 c.loop-place-test.true c.loop-place.invariant
    (keeps_it s c.args.meta.0 place X (type_told s c.args.meta.0 c.in-Some.field-0-0.now X (search rules)) k)

pub returns : goal.returns
returns c =
    let s = c.args.store.now.now in
    let items = c.deref-place-items.result.now in
    none_differs s c.args.context.now c.args.meta.0 c.args.pattern.now (open_term_of c.args.right.now) c.requires.fits.is_pattern c.args.other_pattern.now items c.requires.same
    (subst (AreDifferences c.args.pattern.now c.args.other_pattern.now) (sym c.deref-place-items.ensures.value) c.in_ok-places.ensures)
    (subst (PlacesKept s c.args.meta.0) (took_all items c.loop-place.place-index c.loop-place-test.false) c.loop-place.invariant)

pub unreachable-requires : goal.unreachable-requires
unreachable-requires c = told_of c.args.store.now.now c.args.meta.0 (c.requires.fits.of_type, c.requires.fits.declared) (sym c.about.ensures ∙ ap (option_map (λ p. record { context = p.0.now; of_type = open_type_of p.1.now })) c.in-None.is)
