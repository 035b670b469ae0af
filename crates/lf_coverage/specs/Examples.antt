-- Worked cases: a split by heads, and heads that give a case and none.
use Rattle.std.specs.Prelude.{◌≡◌, ℕ, zero, suc, List, [], ◌∷◌, Some, None}
use Rattle.lf.specs.Syntax.{constant, variable, metavariable, Term, root, nil, Kind, pi, kind_pi, star}
use Rattle.lf_cases.specs.Pattern.{IsCoveredCase}
use Rattle.lf_cases.specs.Split.{IsInstanceCase, Ends}
use Rattle.lf_unification.specs.Solving.{Never}
use Rattle.lf_totality.specs.Examples.{Addition, Copying, copy_block, exp, function, nat, z, plus_kind, plus_output_case, var, successor, plus_heads, plus_input_goal, plus_zero_case, plus_successor_case, first_below_second}
use Rattle.lf_totality.specs.ExamplesGroups.{on_one, one_kind, first_three}
use Rattle.lf_totality.specs.ExamplesBlocks.{Numbered, a_z}
use Rattle.lf_totality.specs.ExamplesSplits.{successor_items}
use Rattle.lf_coverage.specs.Heads.{AreOffers, IsHeadSplit, SplitsByHeads, GivesNone}
use Rattle.lf_coverage.specs.HeadOrder.{Offer, AreInOrder}
use Rattle.lf_coverage.specs.TooDeep.{IsDeepCase}
use Rattle.lf_coverage.specs.MeetStore.{meet_store}
use Rattle.lf_unification.specs.Unifiers.{Equation}
use Rattle.lf_totality.specs.ExamplesMissing.{eq_r}
use Rattle.lf_totality.specs.ExamplesReached.{eq_goal, head_of}
use Rattle.lf_cases.specs.Case.{free_variable}
use Rattle.lf_cases.specs.Reached.{with_block, GivesNoCase}
use Rattle.lf_coverage.specs.SplitStore.{split_store}
use Rattle.lf_coverage.specs.UnifiedSplit.{IsUnifiedSplit}
use Rattle.lf_coverage.specs.ExamplesLeaves.{plus_asked}

-- The variable X of plus X Y _ is split by its heads z and s into plus z Y _ and plus (s X) Y _.
abbrev pub PlusIsSplitByHeads : Type 0
PlusIsSplitByHeads = IsHeadSplit Addition [] (first_below_second 1) first_below_second plus_input_goal 1 (plus_zero_case ∷ plus_successor_case ∷ [])

-- So unification answers: X = z is solved by X := z, and X = s X' by X := s X', and these cases are read off the solved stores.
abbrev pub PlusIsSplitByUnification : Type 0
PlusIsSplitByUnification = IsUnifiedSplit Addition [] (first_below_second 1) first_below_second plus_input_goal 1 (plus_zero_case ∷ plus_successor_case ∷ [])

-- So a run by heads covers the goal.
abbrev pub PlusIsCoveredByHeads : Type 0
PlusIsCoveredByHeads = Ends (IsInstanceCase Addition [] (first_below_second 1) plus_heads) (SplitsByHeads Addition [] (first_below_second 1) first_below_second) plus_input_goal × IsCoveredCase Addition [] (first_below_second 1) plus_heads plus_input_goal

-- A split that forgets the head s isn't one.
abbrev pub HeadsAreAll : Type 0
HeadsAreAll = IsHeadSplit Addition [] (first_below_second 1) first_below_second plus_input_goal 1 (plus_zero_case ∷ []) → ⊥

-- A variable of the type a (s X) and the constant a-z : a z. The store has s X = z, which is never solved; so the head gives no case, and nothing makes the variable a-z.
abbrev pub SuccessorGivesNone : Type 0
SuccessorGivesNone = Never Numbered [] (split_store first_below_second 0 (on_one 2 (successor (var 1))) successor_items 0 (constant 2) a_z.type one_kind) × GivesNone Numbered [] first_three first_below_second 0 (on_one 2 (successor (var 1))) successor_items 0 (constant 2) a_z.type × GivesNoCase Numbered [] first_below_second 0 (on_one 2 (successor (var 1))) successor_items 0 (constant 2) a_z.type

-- The heads of a variable of exp in the worlds of the block {x:exp} {u:cp x x}, in order: lam, app, and the entry x of a new block variable.
abbrev pub copy_offers : List Offer
copy_offers =
    record { items = free_variable exp ∷ []; moved = 0; head = constant 0; type = pi function exp }
    ∷ record { items = free_variable exp ∷ []; moved = 0; head = constant 2; type = pi exp (pi exp exp) }
    ∷ record { items = with_block copy_block (free_variable exp ∷ []); moved = 2; head = variable 1; type = exp }
    ∷ []

abbrev pub CopyHeadsAreInOrder : Type 0
CopyHeadsAreInOrder = AreOffers Copying (copy_block ∷ []) (free_variable exp ∷ []) exp copy_offers × AreInOrder (copy_block ∷ []) (free_variable exp ∷ []) exp copy_offers

-- s (s .. z), with n times s
unfoldable pub number : ℕ → Term
number zero = z
number (suc n) = successor (number n)

-- The case of 4,096 times s is deep, and plus X Y _ isn't.
abbrev pub NumbersGetDeep : Type 0
NumbersGetDeep = IsDeepCase (record { items = free_variable nat ∷ []; given = []; local = []; family = 1; arguments = Some (number 4096) ∷ Some (var 0) ∷ None ∷ [] }) × (IsDeepCase plus_input_goal → ⊥)

-- nat -> nat -> type, and an equation of two metavariables of nat
abbrev pub two_nats : Kind
two_nats = kind_pi nat (kind_pi nat star)

abbrev pub equal : ℕ → ℕ → Equation
equal m n = record { local = []; left = root (metavariable m) nil; right = root (metavariable n) nil; of_type = nat }

-- The store of eq X Y and the clause {Z:nat} eq Z Z: X = Z and Y = Z. That of the output goal plus X Y Z of plus-s and its subgoal: what is given, X and
-- Y, is equated with the clause's variables, and then the outputs.
abbrev pub StoresOfMeeting : Type 0
StoresOfMeeting = ((meet_store eq_goal (head_of eq_r.type) two_nats).equations ≡ equal 1 2 ∷ equal 0 2 ∷ []) × ((meet_store plus_output_case plus_asked plus_kind).equations ≡ equal 5 1 ∷ equal 6 2 ∷ equal 0 4 ∷ [])
