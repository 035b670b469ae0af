use Rattle.tw_decl.proofs.Solved.{defined_body}
use Rattle.tw_decl.proofs.solution.is_approved.Goals as goal

pub unreachable-requires : goal.unreachable-requires
unreachable-requires c = let (M, A, b, e) = c.requires.defined in defined_body c.args.body.now M A b e c.in_default.not-Defined
