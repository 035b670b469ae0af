use Rattle.tw_clause.specs.View.{worlds_of}
use Rattle.tw_decl.proofs.Standing.{named_among}
use Rattle.tw_decl.proofs.worlding.set_worlds.Goals as goal

pub worlded-requires : goal.worlded-requires
worlded-requires c = named_among c.args.session.now c.args.labels.now (worlds_of c.in-Ok-given.given.1) c.in-Ok-given.ensures.gives.named

pub keep-requires : goal.keep-requires
keep-requires c = named_among c.args.session.now c.args.labels.now (worlds_of c.in-Ok-given.given.1) c.in-Ok-given.ensures.gives.named
