-- Worked cases beside the strategy: heads that give no case, lists of clauses, cases that are instances and cases that can't be split.
use Rattle.std.specs.Prelude.{ℕ, List, [], ◌∷◌, refl, Some, None}
use Rattle.lf.specs.Syntax.{constant, pi}
use Rattle.lf.specs.Subordination.{Member}
use Rattle.lf_checks.specs.Clause.{Clause, constant_clause, entry_clause, from_constant, from_entry}
use Rattle.lf_checks.specs.Marks.{Mark, input, output}
use Rattle.lf_cases.specs.Full.{IsLinearClause}
use Rattle.lf.specs.Substitution.{Image, keep}
use Rattle.lf_cases.specs.Case.{Case, Item, free_variable, block_variable}
use Rattle.lf_cases.specs.Missing.{IsTypedInstance, KeepsApart}
use Rattle.lf_cases.specs.Pattern.{of_constant, of_entry, head_pattern, subgoal_pattern, AreAllHeadsOf}
use Rattle.lf_cases.specs.ClauseOrder.{AreHeadsInOrder, HavePlaces}
use Rattle.lf_cases.specs.Reached.{GivesNoCase, IsInstanceOf, IsUnsplit}
use Rattle.lf_totality.specs.Examples.{Addition, Copying, addition_marks, copying_marks, copy_block, copy_entry, copy_heads, exp, cp, nat, var, successor, on_two, plus_z, plus_s, plus_heads, plus_input_goal, plus_zero_case, plus_output_case, first_below_second, block_case}
use Rattle.lf_totality.specs.ExamplesGroups.{on_one}
use Rattle.lf_totality.specs.ExamplesMissing.{Unfinished, unfinished_heads, eq_r}
use Rattle.lf_totality.specs.ExamplesBlocks.{Numbered, a_z}
use Rattle.lf_totality.specs.ExamplesReached.{Equality, equality_heads, head_of, narrow, sum_block, sum_entry}
use Rattle.lf_checks.specs.Ground.{ground_first}

-- X : nat and a variable of the type a (s X). The constant a-z : a z gives it no case. But z gives the variable X of plus X Y _ one.
abbrev pub successor_items : List Item
successor_items = free_variable (on_one 2 (successor (var 0))) ∷ free_variable nat ∷ []

abbrev pub NoCaseStands : Type 0
NoCaseStands = GivesNoCase Numbered [] first_below_second 0 (on_one 2 (successor (var 1))) successor_items 0 (constant 2) a_z.type × (GivesNoCase Addition [] first_below_second 1 nat plus_input_goal.items 0 (constant 0) nat → ⊥)

-- eq-r is all that eq has. But plus-s isn't all that plus has.
abbrev pub ClausesStand : Type 0
ClausesStand = AreAllHeadsOf Equality [] 2 equality_heads × (AreAllHeadsOf Addition [] 1 unfinished_heads → ⊥)

-- plus z Y _ is an instance of plus-z, so the strategy doesn't stop there; plus X Y _ is no instance of plus-s.
abbrev pub InstancesStand : Type 0
InstancesStand = IsInstanceOf Addition [] plus_zero_case (head_of plus_z.type) × (IsUnsplit Addition [] (λ C p. ⊥) (head_of plus_z.type ∷ []) plus_zero_case → ⊥) × (IsInstanceOf Addition [] plus_input_goal (head_of plus_s.type) → ⊥)

-- The case of a block variable is an instance of the entry u : cp x x of its block.
abbrev pub EntryInstanceStands : Type 0
EntryInstanceStands = Member copy_block (copy_block ∷ []) → IsInstanceOf Copying (copy_block ∷ []) block_case (head_pattern copy_entry (of_entry copy_block [] (cp (var 0) (var 0)) (exp ∷ []) refl))

-- {Z:nat} eq Z Z -> eq Z Z, where both places are outputs: its subgoal asks for two outputs that are the same. The case of any two can't be
-- split. That of the outputs of the narrow subgoal has a candidate.
abbrev pub asks_same : Clause
asks_same = constant_clause (pi nat (pi (on_two 2 (var 0) (var 0)) (on_two 2 (var 1) (var 1))))

abbrev pub two_outputs : ℕ → List Mark
two_outputs a = output ∷ output ∷ []

abbrev pub any_two : Case
any_two = record { items = free_variable nat ∷ free_variable nat ∷ []; given = None ∷ None ∷ []; local = []; family = 2; arguments = Some (var 1) ∷ Some (var 0) ∷ [] }

abbrev pub OutputsStand : Type 0
OutputsStand = IsUnsplit Equality [] (λ C p. ⊥) (subgoal_pattern asks_same (of_constant asks_same.type) (on_two 2 (var 1) (var 1)) ∷ []) any_two × (IsUnsplit Unfinished [] (λ C p. ⊥) (narrow ∷ []) plus_output_case → ⊥)

-- Linear: plus-s, and the entry u : cp x x, whose one input is the entry before it. Not linear: eq-r, and an entry of plus, whose inputs are two.
abbrev pub LinearClausesStand : Type 0
LinearClausesStand = IsLinearClause {Σ = Addition} {W = []} {c = plus_s} addition_marks (from_constant 3 plus_s.type refl) × ((i : Member copy_block (copy_block ∷ [])) → IsLinearClause {Σ = Copying} {W = copy_block ∷ []} {c = copy_entry} copying_marks (from_entry copy_block [] (cp (var 0) (var 0)) (exp ∷ []) i refl)) × (IsLinearClause {Σ = Equality} {W = []} {c = eq_r} (λ a. input ∷ input ∷ []) (from_constant 2 eq_r.type refl) → ⊥) × ((i : Member sum_block (sum_block ∷ [])) → IsLinearClause {Σ = Addition} {W = sum_block ∷ []} {c = entry_clause sum_block [] sum_entry} addition_marks (from_entry sum_block [] sum_entry [] i refl) → ⊥)

-- Two block variables of a case are two in each case that a split gives: no instance over one of them keeps them apart.
abbrev pub BlocksStayApart : Type 0
BlocksStayApart = (σ : ℕ → Image) (g : IsTypedInstance Copying (block_variable copy_block keep ∷ []) (block_variable copy_block keep ∷ block_variable copy_block keep ∷ []) σ) → KeepsApart Copying (block_variable copy_block keep ∷ []) (block_variable copy_block keep ∷ block_variable copy_block keep ∷ []) σ g → ⊥

-- plus-z and plus-s are the heads of plus in order, and the other way round they aren't; those of cp in the world of its block are cp-lam, cp-app and
-- the entry u.
abbrev pub HeadsAreOrdered : Type 0
HeadsAreOrdered = AreHeadsInOrder Addition [] 1 plus_heads × (AreHeadsInOrder Addition [] 1 (head_of plus_s.type ∷ head_of plus_z.type ∷ []) → ⊥) × HavePlaces Copying (copy_block ∷ []) 1 copy_heads ((0 ∷ 1 ∷ []) ∷ (0 ∷ 3 ∷ []) ∷ (1 ∷ 0 ∷ 1 ∷ []) ∷ [])
