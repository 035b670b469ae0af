use Rattle.std.proofs.Common.{◌≡◌, ◌∙◌, None, Ok, Some, ap, arith, get_or, subst, sym}
use Rattle.std.specs.Prelude.{slice_get}
use Rattle.lf.specs.Entries.{signature_of}
use Rattle.tw_clause.specs.View.{block_of, worlds_of}
use Rattle.tw_mode.specs.Groups.{FaultsOutcome}
use Rattle.tw_mode.specs.Listing.{in_block}
use Rattle.tw_mode.specs.Rows.{marks_in, moded_in}
use Rattle.tw_mode.proofs.Listing.{found_member, map_found, none_found}
use Rattle.tw_mode.proofs.check.place_is_moded.Goals as goal

pub entry_is_moded-requires : goal.entry_is_moded-requires
entry_is_moded-requires c =
    let blocks = c.args.worlds.now.blocks.items in
    let x = c.block-item.result in
    let e = map_found block_of blocks c.loop-place.place x (omega arith) (c.block-item.is ∙ ap (λ xs. get_or xs c.loop-place.place x) c.deref-block-items.ensures.value) in
    c.requires (block_of x) (found_member (worlds_of c.args.worlds.now) c.loop-place.place (block_of x) e)

pub returns-then-place-number : goal.returns-then-place-number
returns-then-place-number c =
    let blocks = c.args.worlds.now.blocks.items in
    let x = c.block-item.result in
    let e = map_found block_of blocks c.loop-place.place x (omega arith) (c.block-item.is ∙ ap (λ xs. get_or xs c.loop-place.place x) c.deref-block-items.ensures.value) in
    let q : slice_get (worlds_of c.args.worlds.now) c.args.number ≡ Some (block_of x) = ap (slice_get (worlds_of c.args.worlds.now)) (sym c.if-place-number.true) ∙ e in
    subst (λ o. FaultsOutcome (signature_of c.args.sig.now) (marks_in c.args.table.now) (moded_in c.args.table.now) (in_block o c.args.newer) c.entry_is_moded.result) (sym q) c.entry_is_moded.ensures

pub returns : goal.returns
returns c =
    let e : slice_get (worlds_of c.args.worlds.now) c.args.number ≡ None = none_found block_of c.args.worlds.now.blocks.items c.args.number (let i = c.loop-place.invariant in omega (arith, i)) in
    subst (λ o. FaultsOutcome (signature_of c.args.sig.now) (marks_in c.args.table.now) (moded_in c.args.table.now) (in_block o c.args.newer) (Ok tt)) (sym e) tt
