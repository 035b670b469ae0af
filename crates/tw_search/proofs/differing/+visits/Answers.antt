use Rattle.std.proofs.Common.{◌≡◌, ◌+◌, ◌-◌, ◌≤◌, ℕ, None, arith, drop, length, rules, subst, sym}
use Rattle.std.specs.Prelude.{MatchOption}
use Rattle.lf.specs.Entries.{signature_of}
use Rattle.lf.specs.Syntax.{Spine, atom, pi}
use Rattle.tw_putting.specs.Stores.{bindings_of}
use Rattle.tw_terms.specs.OpenView.{open_args_of, open_spine_of, open_term_of}
use Rattle.tw_terms.specs.View.{type_of}
use Rattle.tw_open.proofs.Arguments.{arguments_from, surely_below}
use Rattle.tw_open.proofs.Steps.{steps}
use Rattle.tw_search.specs.Beside.{Differs, RowDiffers, constants_differ}
use Rattle.tw_search.specs.Reducing.{IsAtom}
use Rattle.tw_search.proofs.BesideWalks.{arguments_apart, row_differs_here, row_differs_later, visits_left}
use Rattle.tw_search.proofs.differing.+visits.Goals as goal

pub visited-returns-then-head-other : goal.visited-returns-then-head-other
visited-returns-then-head-other t c a I = constants_differ c.in-Some-Some.ensures c.in-Some-Some.ensures' c.if-head-other.true

pub visited-returns-then-is_plain_type : goal.visited-returns-then-is_plain_type
visited-returns-then-is_plain_type t c =
    let Σ = signature_of c.args.signature.now in
    let bs = bindings_of c.args.store.now.now in
    let M = open_term_of c.args.left.now in
    let N = open_term_of c.args.right.now in
    let S = open_spine_of c.in-Some-Some.args.now in
    let T = open_spine_of c.in-Some-Some.others.now in
    let B = type_of c.in-Some.ty.now in
    let n = c.args.visits - 1 in
    let l : n ≤ c.args.visits = omega arith in
    visits_left c.visited_row.result (RowDiffers Σ bs S T B) ((a : ℕ) (I : Spine) → Differs Σ bs M N (atom a I)) n c.args.visits
    (arguments_apart Σ bs M N S T B c.in-Some-Some.head.0 c.in-Some-Some.other.0 c.in-Some-Some.ensures c.in-Some-Some.ensures' c.if-head-other.false c.in-Some.ensures c.if-is_plain_type.ensures) l c.visited_row.ensures

pub visited_row-returns-in_err-fewer-in-Pi-Some : goal.visited_row-returns-in_err-fewer-in-Pi-Some
visited_row-returns-in_err-fewer-in-Pi-Some t c =
    let Σ = signature_of c.args.signature.now in
    let bs = bindings_of c.args.store.now.now in
    let ts = c.args.left.now.args.items in
    let us = c.args.right.now.args.items in
    let i = c.loop-place.place in
    let B = type_of c.loop-place.rest.now in
    let A = type_of c.deref-in-Pi-Some.result.now in
    let C = type_of c.in-Pi-Some.range.value in
    let M = open_term_of c.arg-item.result in
    let N = open_term_of c.in-Pi-Some.other.now in
    let k : B ≡ pi A C = grind (arith, steps) in
    let lefts = arguments_from ts c.deref-arg-items.result.now i c.arg-item.result c.deref-arg-items.ensures.value c.loop-place-test.true c.arg-item.is in
    let rights = arguments_from us c.deref.result.now i c.in-Pi-Some.other.now c.deref.ensures.value (surely_below i (length c.deref.result.now) c.in-Pi-Some.ensures.lookup.0) c.in-Pi-Some.ensures.lookup.1 in
    let atomic : IsAtom A = c.if-not-is_atomic.ensures in
    let differ : RowDiffers Σ bs (open_spine_of c.args.left.now) (open_spine_of c.args.right.now) (type_of c.args.ty.now) =
    c.loop-place.invariant.differ (row_differs_here Σ bs (open_args_of (drop i ts)) (open_args_of (drop i us)) (open_args_of (drop (i + 1) ts)) (open_args_of (drop (i + 1) us)) B A C M N lefts rights k atomic c.in_err-fewer-in-Pi-Some.ensures) in
    let none : c.from_residual.result ≡ None = search rules in
    subst (λ r. MatchOption r (RowDiffers Σ bs (open_spine_of c.args.left.now) (open_spine_of c.args.right.now) (type_of c.args.ty.now)) (λ v. v ≤ c.args.visits)) (sym none) differ

pub visited_row-loop-place-preserved : goal.visited_row-loop-place-preserved
visited_row-loop-place-preserved t c =
    let Σ = signature_of c.args.signature.now in
    let bs = bindings_of c.args.store.now.now in
    let ts = c.args.left.now.args.items in
    let us = c.args.right.now.args.items in
    let i = c.loop-place.place in
    let B = type_of c.loop-place.rest.now in
    let A = type_of c.deref-in-Pi-Some.result.now in
    let C = type_of c.deref-rest.result.now in
    let M = open_term_of c.arg-item.result in
    let N = open_term_of c.in-Pi-Some.other.now in
    let k : B ≡ pi A C = grind (arith, steps) in
    let lefts = arguments_from ts c.deref-arg-items.result.now i c.arg-item.result c.deref-arg-items.ensures.value c.loop-place-test.true c.arg-item.is in
    let rights = arguments_from us c.deref.result.now i c.in-Pi-Some.other.now c.deref.ensures.value (surely_below i (length c.deref.result.now) c.in-Pi-Some.ensures.lookup.0) c.in-Pi-Some.ensures.lookup.1 in
    let before = c.loop-place.invariant.fewer in
    let now = c.in_ok-fewer-in-Pi-Some.ensures in
    record {
      fewer = omega (arith, before, now);
      differ = λ d. c.loop-place.invariant.differ (row_differs_later Σ bs (open_args_of (drop i ts)) (open_args_of (drop i us)) (open_args_of (drop (i + 1) ts)) (open_args_of (drop (i + 1) us)) B A C M N lefts rights k d);
    }
