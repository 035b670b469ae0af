-- Worked goals of outputs: the sets beside which they are to be covered, a run at candidates, and a goal that is typed by itself alone.
use Rattle.std.specs.Prelude.{ℕ, zero, suc, [], Option, Some, None, false}
use Rattle.lf.specs.Syntax.{LfType, Kind, nil, app, atom, kind_pi, star}
use Rattle.lf.specs.Typing.{Signature}
use Rattle.lf_checks.specs.Ground.{ground_first}
use Rattle.lf_cases.specs.Cover.{CoveredOutputs}
use Rattle.lf_cases.specs.Pattern.{of_constant, subgoal_pattern}
use Rattle.lf_cases.specs.Raised.{PlacesBelow}
use Rattle.lf_cases.specs.Split.{Ends, HasOneBlockVariable}
use Rattle.lf_totality.specs.Examples.{Addition, addition_marks, first_below_second, nat, on_three, plus_kind, plus_s, var}
use Rattle.lf_totality.specs.ExamplesGroups.{on_one, one_kind}
use Rattle.lf_totality.specs.ExamplesReached.{open_case, open_clause}
use Rattle.lf_coverage.specs.Calls.{IsBeside}
use Rattle.lf_coverage.specs.CandidateRuns.{RefutesCandidate}
use Rattle.lf_coverage.specs.ExamplesAnsweredOutputs.{plus_output_goal, plus_output_patterns}
use Rattle.lf_coverage.specs.Heads.{IsTypedCase}
use Rattle.lf_coverage.specs.Leaf.{IsInstanceLeaf}
use Rattle.lf_coverage.specs.TypedCase.{IsTypedBeside}
use Rattle.lf_coverage.specs.TypedLocal.{HasTypedLocal}

-- The goal plus X Y Z of the outputs of plus-s's subgoal is to be covered beside {nat, plus} and beside {nat}, and not beside the empty set, since its
-- output is a number.
abbrev pub PlusGoalIsBeside : Type 0
PlusGoalIsBeside = IsBeside Addition [] (first_below_second 1) plus_output_goal × IsBeside Addition [] (first_below_second 0) plus_output_goal × (IsBeside Addition [] (λ a. false) plus_output_goal → ⊥)

-- It is an instance of the subgoal at once, so that the run at candidates ends there, and its outputs are covered. The families of plus's places are below
-- plus, each with those in its type.
abbrev pub PlusCandidateRunGives : Type 0
PlusCandidateRunGives = Ends (IsInstanceLeaf Addition [] plus_output_patterns) (RefutesCandidate Addition [] first_below_second plus_output_patterns) plus_output_goal × CoveredOutputs Addition addition_marks [] (first_below_second 1) plus_s (ground_first addition_marks plus_s) (on_three 1 (var 3) (var 2) (var 1)) × PlacesBelow Addition first_below_second 1 plus_kind

-- nat, vec : nat -> type, p : {n:nat} vec n -> type and r : nat -> type, with one clause of p
abbrev pub open_types : ℕ → Option LfType
open_types zero = Some open_clause.type
open_types (suc n) = None

abbrev pub open_kinds : ℕ → Option Kind
open_kinds zero = Some star
open_kinds (suc zero) = Some one_kind
open_kinds (suc (suc zero)) = Some (kind_pi nat (kind_pi (on_one 1 (var 0)) star))
open_kinds (suc (suc (suc zero))) = Some one_kind
open_kinds (suc (suc (suc (suc n)))) = None

abbrev pub Opened : Signature
Opened = record { types = open_types; kinds = open_kinds }

-- The goal of {N:nat} {F:nat -> nat} {V:vec (F N)} {Y:nat} r Y -> p (F N) V, where V is given and N and F, which its type mentions, are not, is typed by
-- itself. It isn't typed beside the subgoal r Y.
abbrev pub OpenGoalIsTypedCase : Type 0
OpenGoalIsTypedCase = IsTypedCase Opened [] open_case × HasTypedLocal Opened open_case × HasOneBlockVariable open_case.items × (IsTypedBeside Opened [] open_case (subgoal_pattern open_clause (of_constant open_clause.type) (atom 3 (app (var 1) nil))) → ⊥)
