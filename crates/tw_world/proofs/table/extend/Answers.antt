use Rattle.std.proofs.Common.{◌≡◌, ◌∙◌, ◌∷◌, ◌+◌, take, map, ap, subst, arith}
use Rattle.lf.specs.Entries.{signature_of}
use Rattle.lf.specs.Subordination.{Member}
use Rattle.tw_clause.specs.View.{block_of, worlds_of}
use Rattle.tw_world.specs.Sequences.{TableAt}
use Rattle.tw_world.proofs.Served.{member_at, member_push}
use Rattle.tw_world.proofs.Tables.{all_added, fewer, taken_all}
use Rattle.tw_world.proofs.table.extend.Goals as goal

pub add-requires-clause-block : goal.add-requires-clause-block
add-requires-clause-block c =
    let x = c.block-item.result in
    let m : Member (block_of x) (worlds_of c.args.worlds.now) = subst (λ xs. Member (block_of x) (map block_of xs)) c.deref-block-items.ensures.value (member_at block_of c.deref-block-items.result.now c.loop-block.block-index x (omega arith) c.block-item.is) in
    c.requires.blocks (block_of x) m

pub loop-block-preserved : goal.loop-block-preserved
loop-block-preserved c =
    let Σ = signature_of c.args.sig.now in
    let W = worlds_of c.args.worlds.now in
    let D = c.args.local.now in
    let x = c.block-item.result in
    let xs = c.deref-block-items.result.now in
    let k = c.loop-block.block-index in
    let V = map block_of (take k xs) in
    let m : Member (block_of x) W = subst (λ ys. Member (block_of x) (map block_of ys)) c.deref-block-items.ensures.value (member_at block_of xs k x (omega arith) c.block-item.is) in
    record {
      size = c.add.ensures.size ∙ c.loop-block.invariant.size;
      deep_size = c.add.ensures.deep_size ∙ c.loop-block.invariant.deep_size;
      kept = c.add.ensures.keeps c.args.left c.loop-block.invariant.kept;
      so_far = λ C g a. fewer Σ W (block_of x ∷ V) (map block_of (take (k + 1) xs)) C D c.args.left c.add.new.table.items c.add.new.deep.items (λ B n. member_push block_of B xs k x (omega arith) c.block-item.is n) (c.in_ok-add.ensures.added W V C m g c.loop-block.invariant.kept (c.loop-block.invariant.so_far C g a));
    }

pub returns-clause-extended : goal.returns-clause-extended
returns-clause-extended c =
    let Σ = signature_of c.args.sig.now in
    let W = worlds_of c.args.worlds.now in
    let D = c.args.local.now in
    let xs = c.deref-block-items.result.now in
    let k = c.loop-block.block-index in
    let w : map block_of (take k xs) ≡ W = ap (map block_of) (taken_all xs k (omega arith) ∙ c.deref-block-items.ensures.value) in
    λ C g a. all_added Σ W C D c.args.left c.loop-block.table.items c.loop-block.deep.items c.requires.some (λ e. c.loop-block.invariant.kept) (subst (λ V. TableAt Σ W V C D c.args.left c.loop-block.table.items c.loop-block.deep.items) w (c.loop-block.invariant.so_far C g a))
