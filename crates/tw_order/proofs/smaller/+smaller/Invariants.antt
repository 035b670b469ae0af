use Rattle.std.proofs.Common.{ℕ, ◌+◌, ◌*◌, ◌<◌, drop}
use Rattle.lf.specs.Entries.{signature_of}
use Rattle.lf_checks.specs.Order.{size, spine_size}
use Rattle.tw_terms.specs.View.{args_of, spine_of, term_of, type_of}
use Rattle.tw_order.specs.Smaller.{IsInBody}
use Rattle.tw_order.proofs.Comparing.{ArgumentsLeft}
use Rattle.tw_order.proofs.smaller.+smaller.Given as goal

abbrev pub decreases-smaller : goal.decreases-smaller
decreases-smaller l = 8 * size (term_of l.than.now)

abbrev pub decreases-smaller_or_equal : goal.decreases-smaller_or_equal
decreases-smaller_or_equal l = 8 * size (term_of l.than.now) + 1

abbrev pub decreases-in_argument : goal.decreases-in_argument
decreases-in_argument l = 8 * size (term_of l.arg.now) + 2

abbrev pub decreases-in_arguments : goal.decreases-in_arguments
decreases-in_arguments l = 8 * spine_size (spine_of l.spine.now) + 3

abbrev pub decreases-under_head : goal.decreases-under_head
decreases-under_head l = 8 * spine_size (spine_of l.spine.now) + 4

abbrev pub decreases-in_body : goal.decreases-in_body
decreases-in_body l = 8 * size (term_of l.body.now) + 2

abbrev pub decreases-under_lambda : goal.decreases-under_lambda
decreases-under_lambda l = 8 * size (term_of l.body.now) + 3

abbrev pub invariant-in_arguments-loop-arg : goal.invariant-in_arguments-loop-arg
invariant-in_arguments-loop-arg l = ArgumentsLeft (signature_of l.sig) l.scope (term_of l.term) (spine_of l.spine) (type_of l.fn.function) (args_of (drop l.arg-index l.arg-items)) (type_of l.ty)

abbrev pub invariant-under_lambda-loop-variable : goal.invariant-under_lambda-loop-variable
invariant-under_lambda-loop-variable l = (y : ℕ) → y < l.variable → IsInBody (signature_of l.sig) l.scope (term_of l.term) (term_of l.body) (type_of l.domain) (type_of l.range) y → ⊥
