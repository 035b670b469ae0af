use Rattle.std.proofs.Common.{rules, subst}
use Rattle.tw_elaborate.specs.Bodies.{FromNothingDeep}
use Rattle.tw_written.specs.View.{written_body_of}
use Rattle.tw_recon.specs.Causes.{in_elaboration}
use Rattle.tw_recon.proofs.begun.begin.Goals as goal

pub returns-in-Err-TooDeep-clause-refused : goal.returns-in-Err-TooDeep-clause-refused
returns-in-Err-TooDeep-clause-refused c = in_elaboration (subst (λ ts. FromNothingDeep c.args.signature.now ts (written_body_of c.args.told.written)) (search rules) (c.in-Err-TooDeep.ensures.too_deep (search rules)))
