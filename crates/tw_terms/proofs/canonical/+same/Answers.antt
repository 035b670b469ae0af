use Rattle.std.proofs.Common.{ap, arith}
use Rattle.tw_terms.proofs.Args.{spines, count_of_args, count_of_args-args_of}
use Rattle.tw_terms.proofs.canonical.+same.Goals as goal

-- spines that are equal have as many arguments
pub Spine::same-returns-then-len : goal.Spine::same-returns-then-len
Spine::same-returns-then-len t c = (λ e. grind (arith, spines), λ e. let l = ap count_of_args e in grind (arith, spines, count_of_args-args_of))
