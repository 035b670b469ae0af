use Rattle.std.proofs.Common.{◌∙◌, ◌∷◌, [], map, subst, sym, true≢false}
use Rattle.tw_clause.specs.View.{block_of, worlds_of}
use Rattle.tw_world.specs.Joined.{TakesIn}
use Rattle.tw_world.proofs.TakenIn.{takes_known, takes_pushed}
use Rattle.tw_world.proofs.joined.take_one.Goals as goal

pub returns-then-is_one_of : goal.returns-then-is_one_of
returns-then-is_one_of c = takes_known (worlds_of c.args.joined.now) (block_of c.args.block.now) (c.is_one_of.ensures.0 c.if-is_one_of.true)

pub returns : goal.returns
returns c =
    let J = worlds_of c.args.joined.now in
    let B = block_of c.args.block.now in
    subst (λ xs. TakesIn J (B ∷ []) (map block_of xs)) (sym c.in_ok-push.ensures.items)
    (takes_pushed block_of c.args.joined.now.blocks.items c.in_ok-copy.copy B c.in_ok-copy.ensures (λ m. true≢false (sym (c.is_one_of.ensures.1 m) ∙ c.if-is_one_of.false)))
