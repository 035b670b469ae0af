use Rattle.std.proofs.Common.{ℕ, ◌+◌, ap, drop, length}
use Rattle.lf.specs.AtOnce.{lift_renaming_by, shift_by}
use Rattle.lf.specs.Syntax.{rename, rename_spine}
use Rattle.tw_putting.specs.Stores.{bindings_of}
use Rattle.tw_terms.specs.OpenView.{open_args_of, open_spine_of, open_term_of}
use Rattle.tw_terms.proofs.OpenViews.{open_spine_of-args}
use Rattle.tw_open.proofs.Arguments.{arguments_from, surely_below}
use Rattle.tw_search.proofs.ClashingHeads.{clash_first, walks_nowhere, walks_on}
use Rattle.tw_search.proofs.clash.local_spines_clash.Goals as goal

pub loop-place-init : goal.loop-place-init
loop-place-init c =
    let ρ = lift_renaming_by c.args.binders (shift_by c.args.by) in
    walks_nowhere (bindings_of c.args.store.now.now) c.args.binders (open_spine_of c.args.indices.now) (rename_spine ρ (open_spine_of c.args.spine.now)) _ _ (open_spine_of-args c.args.indices.now) (ap (rename_spine ρ) (open_spine_of-args c.args.spine.now))

pub returns-then-local_terms_clash : goal.returns-then-local_terms_clash
returns-then-local_terms_clash c =
    let ρ : ℕ → ℕ = lift_renaming_by c.args.binders (shift_by c.args.by) in
    let bs = bindings_of c.args.store.now.now in
    let ts = c.args.indices.now.args.items in
    let us = c.args.spine.now.args.items in
    let i = c.loop-place.place in
    let lefts = arguments_from ts c.deref-index-items.result.now i c.index-item.result c.deref-index-items.ensures.value c.loop-place-test.true c.index-item.is in
    let rights = arguments_from us c.deref.result.now i c.in-Some.arg.now c.deref.ensures.value (surely_below i (length c.deref.result.now) c.in-Some.ensures.lookup.0) c.in-Some.ensures.lookup.1 in
    c.loop-place.invariant.clashes (clash_first bs c.args.binders (open_args_of (drop i ts)) (rename_spine ρ (open_args_of (drop i us))) (open_term_of c.index-item.result) (rename ρ (open_term_of c.in-Some.arg.now)) (open_args_of (drop (i + 1) ts)) (rename_spine ρ (open_args_of (drop (i + 1) us))) lefts (ap (rename_spine ρ) rights) c.if-local_terms_clash.ensures)

pub loop-place-preserved : goal.loop-place-preserved
loop-place-preserved c =
    let ρ : ℕ → ℕ = lift_renaming_by c.args.binders (shift_by c.args.by) in
    let bs = bindings_of c.args.store.now.now in
    let ts = c.args.indices.now.args.items in
    let us = c.args.spine.now.args.items in
    let i = c.loop-place.place in
    let lefts = arguments_from ts c.deref-index-items.result.now i c.index-item.result c.deref-index-items.ensures.value c.loop-place-test.true c.index-item.is in
    let rights = arguments_from us c.deref.result.now i c.in-Some.arg.now c.deref.ensures.value (surely_below i (length c.deref.result.now) c.in-Some.ensures.lookup.0) c.in-Some.ensures.lookup.1 in
    walks_on bs c.args.binders (open_spine_of c.args.indices.now) (rename_spine ρ (open_spine_of c.args.spine.now)) (open_args_of (drop i ts)) (rename_spine ρ (open_args_of (drop i us))) (open_args_of (drop (i + 1) ts)) (rename_spine ρ (open_args_of (drop (i + 1) us))) (open_term_of c.index-item.result) (rename ρ (open_term_of c.in-Some.arg.now)) lefts (ap (rename_spine ρ) rights) c.loop-place.invariant
