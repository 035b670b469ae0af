-- What is deep where a case by number and a pattern are unified holds of their tuples: a tuple that the case holds and
-- the pattern has at a place is a typed unifier of each store that solving comes to there, and so of a deep one.
use Rattle.std.specs.Prelude.{◌≡◌, ℕ, List, [], Option, Some}
use Rattle.lf.specs.Depth.{depth_limit}
use Rattle.lf.specs.Syntax.{Term, Kind}
use Rattle.lf.specs.Substitution.{Image}
use Rattle.lf.specs.Typing.{Signature}
use Rattle.lf.specs.Subordination.{Block}
use Rattle.lf_unification.specs.DeepEquations.{AreDeep}
use Rattle.lf_unification.specs.Steps.{Run}
use Rattle.lf_unification.specs.Unifiers.{ExtendsFilling, Solution, Store}
use Rattle.lf_cases.specs.Pattern.{Pattern}
use Rattle.lf_numbered.specs.MeetsAnswers.{HasUnifier, IsPlace, entries_at}
use Rattle.lf_numbered.specs.MeetsTuple.{SharesTuple}
use Rattle.lf_numbered.specs.MetEquations.{IsMadeOf, TupleStandsAt}
use Rattle.lf_numbered.specs.NumberedCalls.{NumberedMatchedNeeds}
use Rattle.lf_numbered.specs.NumberedCallsStores.{meet_store_by_number}
use Rattle.lf_numbered.specs.NumberedCase.{NumberedCase}

-- A typed unifier of the store that was handed in, with values for new metavariables, is one of the store that is
-- reached: it respects the bindings, and solves the equations. So one with X = s Y and Y = z is, where X is s z and Y
-- is z; one where Y is s z is none.
pub record SolvesReached (Σ : Signature) (s reached : Store) (u : HasUnifier Σ s) : Type 0 where
  pub filling : ℕ → Option Term
  pub extends : ExtendsFilling s.metavariables u.filling filling
  pub solves : Solution u.signature [] reached u.context filling

-- So is each typed unifier at a place of the pattern beside the case, of each store that steps reach from the store
-- there.
abbrev pub UnifierSolvesReached : Type 0
UnifierSolvesReached = (Σ : Signature) (first : ℕ) (W : List Block) (C : NumberedCase) (p : Pattern) → NumberedMatchedNeeds Σ first W C p → (K : Kind) → Σ.kinds C.family ≡ Some K → (π : ℕ → ℕ) (J : NumberedCase) (φ : ℕ → Image) → IsPlace first C p π J φ → (reached : Store) → Run (entries_at Σ first J) (meet_store_by_number π J p φ K) reached → (u : HasUnifier (entries_at Σ first J) (meet_store_by_number π J p φ K)) → SolvesReached (entries_at Σ first J) (meet_store_by_number π J p φ K) reached u

-- So where the equations there are deep, each tuple that stands at this place unifies what is deep, by values that are
-- the tuple's own.
abbrev pub StandingTupleUnifiesDeep : Type 0
StandingTupleUnifiesDeep = (Σ : Signature) (first : ℕ) (W : List Block) (C : NumberedCase) (p : Pattern) → NumberedMatchedNeeds Σ first W C p → (K : Kind) → Σ.kinds C.family ≡ Some K → (t : SharesTuple Σ first C p) (π : ℕ → ℕ) (J : NumberedCase) (φ : ℕ → Image) (x : IsPlace first C p π J φ) → TupleStandsAt Σ first C p t π J φ x → (d : AreDeep depth_limit (entries_at Σ first J) (meet_store_by_number π J p φ K)) → (u : HasUnifier (entries_at Σ first J) (meet_store_by_number π J p φ K)) × IsMadeOf t J u.signature u.context u.filling × SolvesReached (entries_at Σ first J) (meet_store_by_number π J p φ K) d.reached u
