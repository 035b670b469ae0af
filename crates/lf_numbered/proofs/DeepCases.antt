-- Where a split or a run by number is too deep, what is deep is a case of the one that is split, or of the goal; or it
-- is what tuples unify.
use Rattle.lf_numbered.specs.DeepCases.{IsCaseOf, SplitCaseIsCaseOf, ReachedIsCaseOf, DeepSplitIsOfCase, DeepRunIsOfGoal}
use Rattle.lf_numbered.specs.NumberedCallsOutside.{deep_case, deep_equations}
use Rattle.lf_numbered.specs.NumberedCallsReached.{reaches_deep_case, splits_deep_case}
use Rattle.lf_numbered.proofs.LeftUnifiers.{head_is_unifier}
use Rattle.lf_numbered.proofs.NumberedCallsLaws.{reached_by_number_is_typed}
use Rattle.lf_numbered.proofs.NumberedNeedsReached.{reached_is_numbered_instance}
use Rattle.lf_numbered.proofs.NumberedReached.{reached_holds_back, split_case_holds_back}
use Rattle.lf_numbered.proofs.NumberedReachedInstances.{split_case_is_numbered_instance}
use Rattle.lf_numbered.proofs.NumberedSplitCases.{split_case_is_typed}

pub split_case_is_case_of : SplitCaseIsCaseOf
split_case_is_case_of Σ ok W typed first free below C tc x D sp =
    let ((υ, i), k) = split_case_is_numbered_instance Σ ok W typed first free below C tc x D sp in
    record { typed = split_case_is_typed Σ ok W typed first free below C tc x D sp; values = υ; is_instance = i; holds_back = λ S Σ' ext. (split_case_holds_back Σ Σ' ok S ext W typed first free below C tc x D sp).1 }

pub reached_is_case_of : ReachedIsCaseOf
reached_is_case_of Σ ok W typed first free below ps goal tg D r =
    let ((υ, i), k) = reached_is_numbered_instance Σ ok W typed first free below ps goal tg D r in
    record { typed = reached_by_number_is_typed Σ ok W typed first free below ps goal tg D r; values = υ; is_instance = i; holds_back = λ S Σ' ext. (reached_holds_back Σ Σ' ok S ext W typed first free below ps goal tg D r).1 }

pub deep_split_is_of_case : DeepSplitIsOfCase
deep_split_is_of_case Σ ok W typed first free below C tc x (deep_case D sp d) = split_case_is_case_of Σ ok W typed first free below C tc x D sp
deep_split_is_of_case Σ ok W typed first free below C tc x (deep_equations X o K at f q d) = λ s S sc fams args b Σ' ext G w θ σ inst apart h. head_is_unifier Σ ok W typed below s S sc first free C tc x X at fams args o f b K q d.reached d.run Σ' ext G w θ σ inst apart h

pub deep_run_is_of_goal : DeepRunIsOfGoal
deep_run_is_of_goal Σ ok W typed first free below ps goal tg (reaches_deep_case C r d) = reached_is_case_of Σ ok W typed first free below ps goal tg C r
deep_run_is_of_goal Σ ok W typed first free below ps goal tg (splits_deep_case C x r n f s) =
    let c : IsCaseOf Σ first W goal C = reached_is_case_of Σ ok W typed first free below ps goal tg C r in
    (c, deep_split_is_of_case Σ ok W typed first free below C c.typed x s)
