-- Worked splits whose stores have numbers of their own.
use Rattle.std.specs.Prelude.{◌≡◌, ◌+◌, [], ◌∷◌, Some, None}
use Rattle.lf.specs.Syntax.{constant, root, nil, pi, star}
use Rattle.lf_unification.specs.Solving.{Solved}
use Rattle.lf_unification.specs.Steps.{CanRefute}
use Rattle.lf_unification.specs.Unifiers.{Store}
use Rattle.lf_cases.specs.Split.{Ends}
use Rattle.lf_totality.specs.Examples.{Addition, nat, z, successor, var, first_below_second, plus_heads, plus_input_goal, plus_zero_case, plus_successor_case}
use Rattle.lf_totality.specs.ExamplesBlocks.{Numbered, a_z}
use Rattle.lf_totality.specs.ExamplesGroups.{on_one, one_kind}
use Rattle.lf_totality.specs.ExamplesSplits.{successor_items}
use Rattle.lf_coverage.specs.ExamplesRenumbering.{exchanged, successor_equation, successor_store, turn, turned, unknown}
use Rattle.lf_coverage.specs.HeadOrder.{Offer}
use Rattle.lf_coverage.specs.Leaf.{IsInstanceLeaf}
use Rattle.lf_coverage.specs.RefutingNumbers.{FindsCandidate, HeadIsFound, IsFoundSplit, SolvingFinds}
use Rattle.lf_coverage.specs.Renumbering.{HasNumbers, renumbered_store}
use Rattle.lf_coverage.specs.SplitStore.{context_metavariables, solved_case_at, split_store}
use Rattle.lf_coverage.specs.UnifiedSplit.{UnifierFinds}

-- three numbers, and the equation 1 = s 0
abbrev pub numbered_store : Store
numbered_store = record { metavariables = context_metavariables (nat ∷ nat ∷ nat ∷ []); bindings = []; equations = successor_equation 1 0 ∷ [] }

-- It is the store of X = s X' where X has the number 1, Y the number 2 and X' the number 0. The store whose equation is 2 = s 0 isn't.
abbrev pub SuccessorHasNumbers : Type 0
SuccessorHasNumbers = HasNumbers turn successor_store numbered_store × (HasNumbers turn successor_store successor_store → ⊥)

-- the head s for X of plus X Y _
abbrev pub successor_offer : Offer
successor_offer = record { items = plus_input_goal.items; moved = 0; head = constant 1; type = pi nat nat }

-- Whatever solves it, the head finds the case that is read off at these numbers.
abbrev pub NumberedIsFound : Type 0
NumberedIsFound = (after : Store) (s : Solved Addition numbered_store after) → HeadIsFound Addition first_below_second plus_input_goal 1 nat successor_offer (Some (solved_case_at plus_input_goal (λ i. turn (i + 1)) after s.well_formed.order))

-- Solving the store under these numbers finds plus (s X') Y _, with what stands for 1 put in for X. That is what unification finds for the head. It
-- doesn't find that there is no case.
abbrev pub SuccessorIsFound : Type 0
SuccessorIsFound = SolvingFinds Addition first_below_second plus_input_goal 1 nat successor_offer star turned (Some plus_successor_case) × UnifierFinds Addition first_below_second plus_input_goal 1 nat successor_offer star (Some plus_successor_case) × (SolvingFinds Addition first_below_second plus_input_goal 1 nat successor_offer star turned None → ⊥)

-- the store of a variable of a (s X) and the constant a-z : a z
abbrev pub clash_store : Store
clash_store = split_store first_below_second 0 (on_one 2 (successor (var 1))) successor_items 0 (constant 2) a_z.type one_kind

-- With 0 and 1 exchanged its second equation is s 0 = z, and steps refute it.
abbrev pub ClashIsRefuted : Type 0
ClashIsRefuted =
    ((renumbered_store exchanged clash_store).equations ≡
    record { local = []; left = unknown 1; right = root (constant 2) nil; of_type = on_one 2 (successor (unknown 0)) }
    ∷ record { local = []; left = successor (unknown 0); right = z; of_type = nat }
    ∷ [])
    × CanRefute Numbered (renumbered_store exchanged clash_store)

-- So plus X Y _ is split by z and s where Y and X are the other way round in both stores; and the run that splits it at its candidate X ends at
-- instances of plus-z and plus-s.
abbrev pub PlusIsFound : Type 0
PlusIsFound = IsFoundSplit Addition [] first_below_second plus_input_goal 1 (plus_zero_case ∷ plus_successor_case ∷ []) × Ends (IsInstanceLeaf Addition [] plus_heads) (FindsCandidate Addition [] first_below_second plus_heads) plus_input_goal
