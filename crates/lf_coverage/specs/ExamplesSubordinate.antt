-- Worked cases of what is quantified along a run: the smallest type that shows why arguments alone don't do, splits of functions, and a run.
use Rattle.std.specs.Prelude.{◌≡◌, ℕ, zero, suc, [], ◌∷◌, Bool, true, Some, None}
use Rattle.lf.specs.Syntax.{nil, LfType, pi, atom}
use Rattle.lf.specs.Variables.{same_number}
use Rattle.lf.specs.Subordination.{IsBelowTest}
use Rattle.lf_unification.specs.Search.{occurs_type}
use Rattle.lf_cases.specs.Case.{Case, free_variable, items_context}
use Rattle.lf_cases.specs.Raised.{raise_by}
use Rattle.lf_cases.specs.Reached.{IsSplitCase, split_items}
use Rattle.lf_cases.specs.Split.{Ends}
use Rattle.lf_totality.specs.Examples.{Addition, copy_output_case, exp, nat, z, var, on_three, plus_heads, plus_input_goal, plus_zero_case, plus_successor_case, first_below_second}
use Rattle.lf_coverage.specs.Calls.{AreCasesBesideAll, CoverIs, covered}
use Rattle.lf_coverage.specs.Heads.{ArgumentsAreBelow}
use Rattle.lf_coverage.specs.Leaf.{IsInstanceLeaf}
use Rattle.lf_coverage.specs.Subordinate.{QuantifiersAreBelow, AllQuantifiersAreBelow}
use Rattle.lf_coverage.specs.SubordinateRuns.{ComesBy}
use Rattle.lf_coverage.specs.UnifiedSplit.{AnswersEachHead}

-- Of the families a = 0, c = 1 and d = 2 all are below c, and no other is below another.
abbrev pub all_below_second : ℕ → ℕ → Bool
all_below_second (suc zero) b = true
all_below_second zero b = same_number zero b
all_below_second (suc (suc n)) b = same_number (suc (suc n)) b

-- {y : {u:d} a} c
abbrev pub over_function : LfType
over_function = pi (pi (atom 2 nil) (atom 0 nil)) (atom 1 nil)

-- In {x : {y : {u:d} a} c} c the families in the type of the argument x are below c. But those in the type of y, which x takes as a head, aren't below
-- a, since d isn't. So what is asked of arguments alone isn't so of heads; and the type quantifies d over a.
abbrev pub ArgumentsAreNotEnough : Type 0
ArgumentsAreNotEnough = ArgumentsAreBelow all_below_second (pi over_function (atom 1 nil)) × (ArgumentsAreBelow all_below_second over_function → ⊥) × (QuantifiersAreBelow all_below_second (pi over_function (atom 1 nil)) → ⊥)

-- {n:nat} nat, and {u:plus z z z} nat
abbrev pub of_number : LfType
of_number = pi nat nat

abbrev pub of_sum : LfType
of_sum = pi (on_three 1 z z z) nat

-- A variable of {n:nat} nat is split by s: the new variable is raised over n. One of {u:plus z z z} nat quantifies plus over nat, which no case of a run
-- does; its new variable isn't raised over u.
abbrev pub FunctionsAreSplit : Type 0
FunctionsAreSplit = (split_items first_below_second of_number (free_variable of_number ∷ []) 0 (pi nat nat) ≡ free_variable of_number ∷ free_variable of_number ∷ []) × AllQuantifiersAreBelow first_below_second (of_number ∷ of_number ∷ []) × (split_items first_below_second of_sum (free_variable of_sum ∷ []) 0 (pi nat nat) ≡ free_variable nat ∷ free_variable of_sum ∷ []) × (AllQuantifiersAreBelow first_below_second (nat ∷ of_sum ∷ []) → ⊥)

-- X occurs in plus X z z, and nat is below plus. The output of cp-lam's subgoal {x:exp} cp x x -> cp (E x) _ is raised over x, and so the items of its
-- goal quantify only over what is below; raised over the hypothesis too it would quantify cp over exp.
abbrev pub OutputsAreRaisedBelow : Type 0
OutputsAreRaisedBelow = (occurs_type zero (on_three 1 (var 0) z z) ≡ true) × (first_below_second 1 0 ≡ true) × AllQuantifiersAreBelow first_below_second (items_context copy_output_case.items) × (QuantifiersAreBelow first_below_second (raise_by (true ∷ true ∷ []) copy_output_case.local exp) → ⊥)

-- nat is below plus, and nothing else is below another family.
abbrev pub AdditionIsTested : Type 0
AdditionIsTested = (f : ℕ) → IsBelowTest Addition [] (first_below_second f) f

-- Unification answers for plus X Y _ at z and at s, and the two cases are instances of plus-z and plus-s. So these cover it: nothing is asked of the
-- families in types.
abbrev pub PlusRunIsAnswered : Type 0
PlusRunIsAnswered = Ends (IsInstanceLeaf Addition [] plus_heads) (AnswersEachHead Addition [] first_below_second) plus_input_goal × CoverIs Addition [] first_below_second plus_heads plus_input_goal covered × AreCasesBesideAll Addition [] first_below_second plus_input_goal 1 (plus_zero_case ∷ plus_successor_case ∷ [])

-- a case with a variable of {u:plus z z z} nat
abbrev pub odd_case : Case
odd_case = record { items = free_variable of_sum ∷ []; given = []; local = []; family = 1; arguments = Some z ∷ Some z ∷ None ∷ [] }

-- plus (s X) Y _ comes from plus X Y _ by such splits; no case with such a variable does.
abbrev pub OddCaseComesByNone : Type 0
OddCaseComesByNone = ComesBy (AnswersEachHead Addition [] first_below_second) plus_input_goal plus_successor_case × (ComesBy (AnswersEachHead Addition [] first_below_second) plus_input_goal odd_case → ⊥)

-- plus z Y _ with a variable of {u:plus z z z} nat, which occurs nowhere
abbrev pub loose_case : Case
loose_case = record { items = free_variable of_sum ∷ free_variable nat ∷ []; given = []; local = []; family = 1; arguments = Some z ∷ Some (var 1) ∷ None ∷ [] }

-- The strategy's split is known up to typed instances alone, and so gives this case too: [u] z is a value of that variable, in whatever items. So the
-- law is one of the cases that are read off solved stores, and not of all that the strategy reaches.
abbrev pub LooseCaseIsSplit : Type 0
LooseCaseIsSplit = IsSplitCase Addition [] first_below_second plus_input_goal 1 loose_case × (AllQuantifiersAreBelow first_below_second (items_context loose_case.items) → ⊥)
