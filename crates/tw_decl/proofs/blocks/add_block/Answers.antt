use Rattle.tw_clause.specs.View.{block_of}
use Rattle.tw_parse.specs.View.{declaration_of}
use Rattle.tw_decl.proofs.Standing.{given_typed}
use Rattle.tw_decl.proofs.blocks.add_block.Goals as goal

pub keep-requires : goal.keep-requires
keep-requires c = given_typed c.args.session.now c.args.label.now c.args.count (declaration_of c.args.declaration.now) (block_of c.in-Ok.block) c.in-Ok.ensures.gives
