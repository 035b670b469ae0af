use Rattle.std.proofs.Common.{◌≡◌, ℕ, ◌<◌, Some, slice_get}
use Rattle.lf.specs.Subordination.{Member}
use Rattle.tw_abstract.specs.declared.order.Candidate.{Candidate}
use Rattle.tw_abstract.proofs.order.all_stand.Given as goal

-- those so far are chosen
abbrev pub invariant-loop-candidate : goal.invariant-loop-candidate
invariant-loop-candidate l = (i : ℕ) (c : Candidate) → i < l.candidate-index → slice_get l.candidates i ≡ Some c → Member c.meta.0 l.chosen
