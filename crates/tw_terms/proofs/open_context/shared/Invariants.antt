use Rattle.std.proofs.Common.{◌≡◌, take, map}
use Rattle.tw_terms.specs.OpenView.{open_type_of}
use Rattle.tw_terms.proofs.open_context.shared.Given as goal

abbrev pub invariant-loop-shared : goal.invariant-loop-shared
invariant-loop-shared l = map (λ t. open_type_of t.value) l.types.items ≡ map (λ t. open_type_of t.value) (take l.shared-index l.row)
