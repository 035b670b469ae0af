use Rattle.std.proofs.Common.{arith}
use Rattle.tw_parse.specs.View.{term_of}
use Rattle.tw_approx.proofs.Nested.{size_some}
use Rattle.tw_approx.proofs.nesting.counted.Goals as goal

pub returns-in-None-clause-work : goal.returns-in-None-clause-work
returns-in-None-clause-work c = let s = size_some (term_of c.args.term.now) in omega (arith, s)
