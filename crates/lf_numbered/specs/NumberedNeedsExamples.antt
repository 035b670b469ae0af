-- Worked: what the calls by number accept and refuse. Addition's goals are accepted; and refused are a pattern of another family, an argument of another type
-- that fits by its skeleton, the goal of a subgoal where what is ground lacks the variables in its types, and an entry whose block isn't typed.
use Rattle.std.specs.Prelude.{ℕ, zero, suc, List, [], ◌∷◌, Bool, Option, Some, None, refl}
use Rattle.lf.specs.Syntax.{constant, root, nil, app, LfType, Kind, atom, pi, kind_pi, star}
use Rattle.lf.specs.Typing.{Signature}
use Rattle.lf.specs.Subordination.{Block, IsBelowTest}
use Rattle.lf_cases.specs.Pattern.{Pattern, head_pattern, of_constant, of_entry, subgoal_pattern}
use Rattle.lf_totality.specs.Examples.{Addition, Copying, copy_entry, cp, exp, first_below_second, plus_heads, plus_input_goal, plus_output_case, var}
use Rattle.lf_totality.specs.ExamplesGroups.{on_one}
use Rattle.lf_totality.specs.ExamplesReached.{open_case, open_clause}
use Rattle.lf_coverage.specs.Calls.{instance}
use Rattle.lf_coverage.specs.ExamplesLeaves.{plus_asked}
use Rattle.lf_coverage.specs.Leaf.{IsTypedPattern}
use Rattle.lf_numbered.specs.EntryTerms.{MatchesByNumber}
use Rattle.lf_numbered.specs.EntryTermsInputs.{closed_head}
use Rattle.lf_numbered.specs.NumberedCalls.{NumberedCoverNeeds, NumberedMatchedIs, NumberedMatchedNeeds}
use Rattle.lf_numbered.specs.NumberedCase.{NumberedCase}
use Rattle.lf_numbered.specs.Numbering.{numbered}

-- The goal plus X Y _ may be handed in with plus-z and plus-s, and the goal of the outputs of the subgoal plus X Y Z of plus-s with this.
abbrev pub PlusHasNeeds : Type 0
PlusHasNeeds = NumberedCoverNeeds Addition 4 [] first_below_second plus_heads (numbered 4 plus_input_goal) × NumberedCoverNeeds Addition 4 [] first_below_second (plus_asked ∷ []) (numbered 4 plus_output_case)

-- Families a = 0 and b = 1, p = 2 and q = 3 of the kind a -> type; constants c = 0 : b, p-all = 1 : {X:a} p X and q-all = 2 : {X:a} q X.
abbrev pub sort_type : LfType
sort_type = atom 0 nil

abbrev pub p_all : LfType
p_all = pi sort_type (on_one 2 (var 0))

abbrev pub q_all : LfType
q_all = pi sort_type (on_one 3 (var 0))

abbrev pub sorts_types : ℕ → Option LfType
sorts_types zero = Some (atom 1 nil)
sorts_types (suc zero) = Some p_all
sorts_types (suc (suc zero)) = Some q_all
sorts_types (suc (suc (suc c))) = None

abbrev pub sort_kind : Kind
sort_kind = kind_pi sort_type star

abbrev pub sorts_kinds : ℕ → Option Kind
sorts_kinds zero = Some star
sorts_kinds (suc zero) = Some star
sorts_kinds (suc (suc zero)) = Some sort_kind
sorts_kinds (suc (suc (suc zero))) = Some sort_kind
sorts_kinds (suc (suc (suc (suc a)))) = None

abbrev pub Sorts : Signature
Sorts = record { types = sorts_types; kinds = sorts_kinds }

-- the goal p X, and the case p c, where c has another type
abbrev pub sort_goal : NumberedCase
sort_goal = record { blocks = []; variables = sort_type ∷ []; given = []; local = []; family = 2; arguments = Some (var 0) ∷ [] }

abbrev pub other_case : NumberedCase
other_case = record { blocks = []; variables = []; given = []; local = []; family = 2; arguments = Some (root (constant 0) nil) ∷ [] }

-- p X may be handed in with p-all, and not with q-all, of which it would be an instance by its arguments alone.
abbrev pub OtherFamilyIsRefused : Type 0
OtherFamilyIsRefused = ((below : ℕ → ℕ → Bool) → ((f : ℕ) → IsBelowTest Sorts [] (below f) f) → NumberedCoverNeeds Sorts 4 [] below (closed_head p_all ∷ []) sort_goal × (NumberedCoverNeeds Sorts 4 [] below (closed_head q_all ∷ []) sort_goal → ⊥)) × NumberedMatchedIs Sorts 4 [] sort_goal (closed_head q_all) instance

-- p c may not be handed in with p-all, which it matches by terms and of which it is no instance.
abbrev pub OtherTypeIsRefused : Type 0
OtherTypeIsRefused = (NumberedMatchedNeeds Sorts 4 [] other_case (closed_head p_all) → ⊥) × MatchesByNumber 4 other_case (closed_head p_all) × (NumberedMatchedIs Sorts 4 [] other_case (closed_head p_all) instance → ⊥)

-- In {N:nat} {F:nat -> nat} {V:vec (F N)} {Y:nat} r Y -> p (F N) V, where V alone is ground before the subgoal r Y, its goal may not be handed in with it.
abbrev pub OpenSubgoalIsRefused : Type 0
OpenSubgoalIsRefused = (Σ : Signature) (first : ℕ) → NumberedMatchedNeeds Σ first [] (numbered first open_case) (subgoal_pattern open_clause (of_constant open_clause.type) (atom 3 (app (var 1) nil))) → ⊥

-- The entry u of {x:exp} {u:cp x x} {v:cp x}: its head is typed by itself, and may be handed in with no case in whatever worlds, since cp x is no type.
abbrev pub untyped_block : Block
untyped_block = record { label = 108 ∷ []; some = []; entries = on_one 1 (var 1) ∷ cp (var 0) (var 0) ∷ exp ∷ [] }

abbrev pub untyped_head : Pattern
untyped_head = head_pattern copy_entry (of_entry untyped_block (on_one 1 (var 1) ∷ []) (cp (var 0) (var 0)) (exp ∷ []) refl)

abbrev pub UntypedBlockIsRefused : Type 0
UntypedBlockIsRefused = IsTypedPattern Copying untyped_head × ((first : ℕ) (W : List Block) (C : NumberedCase) → NumberedMatchedNeeds Copying first W C untyped_head → ⊥)
