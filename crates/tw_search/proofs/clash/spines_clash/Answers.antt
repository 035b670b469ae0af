use Rattle.std.proofs.Common.{◌+◌, drop, length}
use Rattle.tw_putting.specs.Stores.{bindings_of}
use Rattle.tw_terms.specs.OpenView.{open_args_of, open_spine_of, open_term_of}
use Rattle.tw_terms.specs.View.{args_of, spine_of, term_of}
use Rattle.tw_terms.proofs.OpenViews.{open_spine_of-args}
use Rattle.tw_terms.proofs.Views.{spine_of-args}
use Rattle.tw_open.proofs.Arguments.{arguments_from, surely_below}
use Rattle.tw_search.proofs.ClashingHeads.{closed_arguments_from, clash_first, walks_nowhere, walks_on}
use Rattle.tw_search.proofs.clash.spines_clash.Goals as goal

pub loop-place-init : goal.loop-place-init
loop-place-init c k = walks_nowhere (bindings_of c.args.store.now.now) k (open_spine_of c.args.indices.now) (spine_of c.args.spine.now) _ _ (open_spine_of-args c.args.indices.now) (spine_of-args c.args.spine.now)

pub returns-then-terms_clash : goal.returns-then-terms_clash
returns-then-terms_clash c k =
    let bs = bindings_of c.args.store.now.now in
    let ts = c.args.indices.now.args.items in
    let us = c.args.spine.now.args.items in
    let i = c.loop-place.place in
    let lefts = arguments_from ts c.deref-index-items.result.now i c.index-item.result c.deref-index-items.ensures.value c.loop-place-test.true c.index-item.is in
    let rights = closed_arguments_from us c.deref.result.now i c.in-Some.arg.now c.deref.ensures.value (surely_below i (length c.deref.result.now) c.in-Some.ensures.lookup.0) c.in-Some.ensures.lookup.1 in
    (c.loop-place.invariant k).clashes (clash_first bs k (open_args_of (drop i ts)) (args_of (drop i us)) (open_term_of c.index-item.result) (term_of c.in-Some.arg.now) (open_args_of (drop (i + 1) ts)) (args_of (drop (i + 1) us)) lefts rights (c.if-terms_clash.ensures k))

pub loop-place-preserved : goal.loop-place-preserved
loop-place-preserved c k =
    let bs = bindings_of c.args.store.now.now in
    let ts = c.args.indices.now.args.items in
    let us = c.args.spine.now.args.items in
    let i = c.loop-place.place in
    let lefts = arguments_from ts c.deref-index-items.result.now i c.index-item.result c.deref-index-items.ensures.value c.loop-place-test.true c.index-item.is in
    let rights = closed_arguments_from us c.deref.result.now i c.in-Some.arg.now c.deref.ensures.value (surely_below i (length c.deref.result.now) c.in-Some.ensures.lookup.0) c.in-Some.ensures.lookup.1 in
    walks_on bs k (open_spine_of c.args.indices.now) (spine_of c.args.spine.now) (open_args_of (drop i ts)) (args_of (drop i us)) (open_args_of (drop (i + 1) ts)) (args_of (drop (i + 1) us)) (open_term_of c.index-item.result) (term_of c.in-Some.arg.now) lefts rights (c.loop-place.invariant k)
