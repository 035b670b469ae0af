use Rattle.std.proofs.Common.{ap, arith}
use Rattle.tw_terms.proofs.Args.{count_of_args}
use Rattle.tw_terms.proofs.OpenArgs.{open_spines, count_of_args-open_args_of}
use Rattle.tw_terms.proofs.open_terms.+same.Goals as goal

-- spines that are equal have as many arguments
pub OpenSpine::same-returns-then-len : goal.OpenSpine::same-returns-then-len
OpenSpine::same-returns-then-len t c = (λ e. grind (arith, open_spines), λ e. let l = ap count_of_args e in grind (arith, open_spines, count_of_args-open_args_of))
