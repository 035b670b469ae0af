use Rattle.std.proofs.Common.{◌≡◌, false, take}
use Rattle.std.specs.List.{list_any}
use Rattle.tw_terms.specs.View.{term_of}
use Rattle.tw_hered.specs.Made.{applies_closure}
use Rattle.tw_hered.specs.View.{environment_of}
use Rattle.tw_hered.proofs.head.has_unmade.Given as goal

-- none of the arguments that were looked at does
abbrev pub invariant-loop-arg : goal.invariant-loop-arg
invariant-loop-arg l = list_any (λ t. applies_closure (environment_of l.environment) 0 (term_of t)) (take l.arg-index l.args) ≡ false
