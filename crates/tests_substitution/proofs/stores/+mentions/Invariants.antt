use Rattle.std.proofs.Common.{drop}
use Rattle.lf_unification.specs.OpenTyping.{MetavariablesInSpine}
use Rattle.tw_terms.specs.OpenView.{open_args_of}
use Rattle.tests_substitution.specs.Kept.{IsFree}
use Rattle.tests_substitution.proofs.stores.+mentions.Given as goal

-- it is enough to look at the arguments that are left
abbrev pub invariant-spine_mentions_others-loop-arg : goal.invariant-spine_mentions_others-loop-arg
invariant-spine_mentions_others-loop-arg l = MetavariablesInSpine (IsFree l.store.now l.meta.0) (open_args_of (drop l.arg-index l.arg-items)) → MetavariablesInSpine (IsFree l.store.now l.meta.0) (open_args_of l.arg-items)
