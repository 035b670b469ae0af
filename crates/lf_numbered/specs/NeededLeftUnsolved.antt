-- Worked: equations that are left and have no typed unifier together. Of eq (F z) (F z) and the head eq z (s z)
-- unification leaves F z = z and F z = s z, so that no tuple stands there.
use Rattle.std.specs.Prelude.{[], ◌∷◌, Some}
use Rattle.lf.specs.Syntax.{Term, metavariable, variable, root, nil, app, pi}
use Rattle.lf.specs.Substitution.{keep}
use Rattle.lf.specs.Typing.{Signature}
use Rattle.lf_unification.specs.Solving.{Left, Never}
use Rattle.lf_unification.specs.Unifiers.{Equation, Store}
use Rattle.lf_cases.specs.Pattern.{Pattern}
use Rattle.lf_totality.specs.Examples.{nat, on_two, successor, z}
use Rattle.lf_numbered.specs.EntryTermsInputs.{closed_head}
use Rattle.lf_coverage.specs.Examples.{two_nats}
use Rattle.lf_coverage.specs.ExamplesStuck.{Zeros}
use Rattle.lf_numbered.specs.MeetsAnswers.{IsPlace, entries_at}
use Rattle.lf_numbered.specs.MeetsTuple.{SharesTuple}
use Rattle.lf_numbered.specs.MetEquations.{TupleStandsAt}
use Rattle.lf_numbered.specs.NumberedCalls.{NumberedMatchedNeeds}
use Rattle.lf_numbered.specs.NumberedCallsStores.{meet_store_by_number}
use Rattle.lf_numbered.specs.NumberedCase.{NumberedCase}
use Rattle.lf_coverage.specs.SplitStore.{context_metavariables}

abbrev pub twice_applied : NumberedCase
twice_applied = record { blocks = []; variables = pi nat nat ∷ []; given = []; local = []; family = 2; arguments = Some (root (variable 0) (app z nil)) ∷ Some (root (variable 0) (app z nil)) ∷ [] }

abbrev pub next_head : Pattern
next_head = closed_head (on_two 2 z (successor z))

-- F z, where F is the metavariable 0, is equated with this term.
abbrev pub applied_is : Term → Equation
applied_is M = record { local = []; left = root (metavariable 0) (app z nil); right = M; of_type = nat }

abbrev pub both_left : Store
both_left = record { metavariables = context_metavariables (pi nat nat ∷ []); bindings = []; equations = applied_is z ∷ applied_is (successor z) ∷ [] }

-- Both equations are left, and over no signature do they have a typed unifier; so no tuple of both stands there.
abbrev pub TwiceHasNoTuple : Type 0
TwiceHasNoTuple = NumberedMatchedNeeds Zeros 3 [] twice_applied next_head × Left (entries_at Zeros 3 twice_applied) (meet_store_by_number (λ k. k) twice_applied next_head keep two_nats) both_left × ((Σ : Signature) → Never Σ [] both_left) × ((t : SharesTuple Zeros 3 twice_applied next_head) (x : IsPlace 3 twice_applied next_head (λ k. k) twice_applied keep) → TupleStandsAt Zeros 3 twice_applied next_head t (λ k. k) twice_applied keep x → ⊥)
