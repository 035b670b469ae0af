use Rattle.std.proofs.Common.{[]}
use Rattle.tw_putting.specs.Whole.{whole}
use Rattle.tw_recon.proofs.Outcomes.{begun_ready, deep_at, never_at}
use Rattle.tw_recon.proofs.solving.settle.Goals as goal

pub solve-requires : goal.solve-requires
solve-requires c = begun_ready c.args.signature.now c.is_canonical.ensures c.args.begun c.requires

pub returns-in-Ok-Never-clause-refused : goal.returns-in-Ok-Never-clause-refused
returns-in-Ok-Never-clause-refused c = never_at c.args.signature.now c.is_canonical.ensures c.args.begun c.requires (whole [] c.solve.new.store.now) c.in-Ok-Never.field-0 c.in-Ok-Never.field-0-is c.in-Ok-Never.ensures.answer

pub returns-in-Err-TooDeep-clause-refused : goal.returns-in-Err-TooDeep-clause-refused
returns-in-Err-TooDeep-clause-refused c = deep_at c.args.signature.now c.is_canonical.ensures c.args.begun c.requires c.in-Err-TooDeep.field-0 c.in-Err-TooDeep.field-0-is c.in-Err-TooDeep.ensures.answer
