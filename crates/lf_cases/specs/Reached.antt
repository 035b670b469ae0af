-- The cases that the strategy of coverage reaches, and those at which it stops.
use Rattle.std.specs.Prelude.{◌≡◌, ℕ, zero, suc, ◌+◌, ◌<◌, ◌⊎◌, List, [], ◌∷◌, length, Bool, false, Some}
use Rattle.lf.specs.Syntax.{Head, constant, variable, Term, Spine, root, nil, app, LfType, pi, atom, skeleton, rename_head, rename_type, lift_renaming}
use Rattle.lf.specs.Substitution.{Image, keep, substitute, reduce, after}
use Rattle.lf.specs.AtOnce.{shift_by, lift_renaming_by}
use Rattle.lf.specs.Eta.{lambdas}
use Rattle.lf.specs.Typing.{Signature, TypeAt, instantiate_type}
use Rattle.lf.specs.Variables.{target, binders}
use Rattle.lf.specs.Subordination.{Block, Member}
use Rattle.lf.specs.Worlds.{lift_over, instance}
use Rattle.lf_checks.specs.Ground.{UsesGoal}
use Rattle.lf_cases.specs.Case.{Item, free_variable, block_variable, Case, items_context, as_term, covered_places}
use Rattle.lf_cases.specs.Pattern.{Pattern, ground_in}
use Rattle.lf_cases.specs.OutputGoal.{free_variables, renumber, over_item, raised_variable}
use Rattle.lf_cases.specs.Raised.{raise_by, raised_over, first_mask, other_masks}
use Rattle.lf_cases.specs.Missing.{AreTypedItems, IsTypedInstance, KeepsApart, CommonInstance, put_in}
use Rattle.lf_cases.specs.Candidates.{free_among, case_candidates}

-- how many arguments a head of this type takes
abbrev pub arguments_count : LfType → ℕ
arguments_count (pi A B) = suc (arguments_count B)
arguments_count (atom a S) = zero

-- For each of the first n arguments of a head whose type under the local context D is given, the variables of D over which its new variable is
-- raised.
abbrev pub head_masks : (ℕ → ℕ → Bool) → List LfType → ℕ → LfType → List (List Bool)
head_masks below D zero A = []
head_masks below D (suc n) (atom a S) = []
head_masks below D (suc n) (pi A B) = raised_over (below (target A)) D A ∷ head_masks below (renumber suc D) n (instantiate_type A (raised_variable (raised_over (below (target A)) D A) D A zero) (rename_type (lift_renaming (over_item D)) B))

-- these new variables, in front of the items
abbrev pub head_items : List (List Bool) → List LfType → ℕ → LfType → List Item → List Item
head_items ks D zero A I = I
head_items ks D (suc n) (atom a S) I = I
head_items ks D (suc n) (pi A B) I = head_items (other_masks ks) (renumber suc D) n (instantiate_type A (raised_variable (first_mask ks) D A zero) (rename_type (lift_renaming (over_item D)) B)) (free_variable (raise_by (first_mask ks) D A) ∷ I)

-- the arguments: these variables, each applied to its variables of D
abbrev pub head_spine : List (List Bool) → List LfType → LfType → Spine
head_spine ks D (pi A B) = app (raised_variable (first_mask ks) D A (arguments_count B)) (head_spine (other_masks ks) D B)
head_spine ks D (atom a S) = nil

-- What a split puts for a variable x of the items: the head h under the variables D that x takes, applied to the new variables.
abbrev pub head_term : (ℕ → ℕ → Bool) → List LfType → Head → LfType → Term
head_term below D h A = lambdas (length D) (root (rename_head (lift_renaming_by (length D) (shift_by (arguments_count A))) h) (head_spine (head_masks below D (arguments_count A) A) D A))

-- the items, and those of a second list behind them
abbrev pub items_onto : List Item → List Item → List Item
items_onto [] J = J
items_onto (i ∷ I) J = i ∷ items_onto I J

-- I with a new block variable in front, whose `some` terms are new variables
abbrev pub with_block : Block → List Item → List Item
with_block B I = block_variable B keep ∷ items_onto (free_variables B.some) I

-- The variables that a variable of this type takes.
abbrev pub taken : LfType → List LfType
taken X = binders [] X

-- A head for a variable of the type X over the items I, with the family of X: a constant; one of the variables that x takes; an entry of a
-- block variable of I; or an entry of a new block variable. It comes with its items, by how much those of I have moved, and with its type,
-- both under the variables that x takes.
pub data SplitHead (Σ : Signature) (W : List Block) (I : List Item) (X : LfType) : List Item → ℕ → Head → LfType → Type 0 where
  constant_head : (k : ℕ) (U : LfType) → Σ.types k ≡ Some U → target U ≡ target X → SplitHead Σ W I X I zero (constant k) U
  bound_head : (j : ℕ) (A : LfType) → j < length (taken X) → TypeAt (binders (items_context I) X) j A → target A ≡ target X → SplitHead Σ W I X I zero (variable j) A
  entry_head : (j : ℕ) (A : LfType) → TypeAt (items_context I) j A → free_among I j ≡ false → target A ≡ target X → SplitHead Σ W I X I zero (variable (j + length (taken X))) (rename_type (shift_by (length (taken X))) A)
  new_entry_head : (B : Block) (j : ℕ) (A : LfType) → Member B W → j < length B.entries → TypeAt (items_context (with_block B I)) j A → target A ≡ target X → SplitHead Σ W I X (with_block B I) (length B.some + length B.entries) (variable (j + length (taken X))) (rename_type (shift_by (length (taken X))) A)

-- A typed instance over J of the items I, with other block variables for other ones, makes the variable x, of the type X, the term M. A split
-- doesn't make two block variables one: the entries of both clash.
pub record Unifies (Σ : Signature) (J I : List Item) (x : ℕ) (X : LfType) (M : Term) (σ : ℕ → Image) : Type 0 where
  pub is_instance : IsTypedInstance Σ J I σ
  pub keeps_apart : KeepsApart Σ J I σ is_instance
  pub same : as_term (skeleton X) (σ x) ≡ substitute reduce σ M

-- It is most general: every other comes from it by a typed instance of J.
pub record UnifiesMostGenerally (Σ : Signature) (W : List Block) (J I : List Item) (x : ℕ) (X : LfType) (M : Term) (σ : ℕ → Image) : Type 0 where
  pub typed_items : AreTypedItems Σ W J
  pub unifies : Unifies Σ J I x X M σ
  pub most_general : (F : List Item) (τ : ℕ → Image) → AreTypedItems Σ W F → Unifies Σ F I x X M τ → (ρ : ℕ → Image) × IsTypedInstance Σ F J ρ × ((i : ℕ) (A : LfType) → TypeAt (items_context I) i A → as_term (skeleton A) (τ i) ≡ as_term (skeleton A) (after ρ σ i))

-- The items after a split of the variable x by a head: those of the head, and in front of them the variables for its arguments. X, the type
-- of x, has moved over a new block variable.
abbrev pub split_items : (ℕ → ℕ → Bool) → LfType → List Item → ℕ → LfType → List Item
split_items below X I n A = head_items (head_masks below (taken (rename_type (shift_by n) X)) (arguments_count A) A) (taken (rename_type (shift_by n) X)) (arguments_count A) A I

-- D is the case that a split of the variable x of C by this head gives: a most general unifier makes x the head applied to new variables, and
-- is put into all that the case has.
pub record IsSplitBy (Σ : Signature) (W : List Block) (below : ℕ → ℕ → Bool) (C : Case) (x : ℕ) (X : LfType) (I : List Item) (n : ℕ) (h : Head) (A : LfType) (D : Case) : Type 0 where
  pub values : ℕ → Image
  pub unifier : UnifiesMostGenerally Σ W D.items (split_items below X I n A) (x + (n + arguments_count A)) (rename_type (shift_by (n + arguments_count A)) X) (head_term below (taken (rename_type (shift_by n) X)) h A) values
  pub given : D.given ≡ put_in (λ i. values (i + (n + arguments_count A))) C.given
  pub local : D.local ≡ instance C.local (λ i. values (i + (n + arguments_count A)))
  pub family : D.family ≡ C.family
  pub arguments : D.arguments ≡ put_in (lift_over C.local (λ i. values (i + (n + arguments_count A)))) C.arguments

-- a split of x by one of the heads gives D
pub data IsSplitCase (Σ : Signature) (W : List Block) (below : ℕ → ℕ → Bool) (C : Case) (x : ℕ) (D : Case) : Type 0 where
  split_by : {I : List Item} {n : ℕ} {h : Head} {A : LfType} (X : LfType) → TypeAt (items_context C.items) x X → SplitHead Σ W C.items X I n h A → IsSplitBy Σ W below C x X I n h A D → IsSplitCase Σ W below C x D

-- A head gives no case: nothing makes the variable the head.
abbrev pub GivesNoCase : Signature → List Block → (ℕ → ℕ → Bool) → ℕ → LfType → List Item → ℕ → Head → LfType → Type 0
GivesNoCase Σ W below x X I n h A = (F : List Item) (τ : ℕ → Image) → AreTypedItems Σ W F → Unifies Σ F (split_items below X I n A) (x + (n + arguments_count A)) (rename_type (shift_by (n + arguments_count A)) X) (head_term below (taken (rename_type (shift_by n) X)) h A) τ → ⊥

-- values that leave each variable of the items as it is
abbrev pub LeavesAll : List Item → (ℕ → Image) → Type 0
LeavesAll I σ = (i : ℕ) (A : LfType) → TypeAt (items_context I) i A → as_term (skeleton A) (σ i) ≡ as_term (skeleton A) (keep i)

-- The case is an instance of the pattern: what it shares with it is the case itself, and each variable of the clause in the covered places
-- has a strict occurrence in them or is ground before. So matching decides it: without strict occurrences k X would be an instance of
-- {F:nat -> nat} k (F z), by a value that nothing determines.
abbrev pub IsInstanceOf : Signature → List Block → Case → Pattern → Type 0
IsInstanceOf Σ W C p = (s : CommonInstance Σ W C p) × (s.items ≡ C.items) × LeavesAll C.items s.case_values × UsesGoal (ground_in p (covered_places C.arguments) C.given) (covered_places C.arguments) p.type

-- Of a list of patterns, in their order. `Open` has those of which unification with the case decides nothing, since it leaves an equation
-- outside the pattern fragment or is too deep.
module _ (Σ : Signature) (W : List Block) (Open : Case → Pattern → Type 0) where
  -- The pattern meets the case: they share a typed instance, or it is open whether they do.
  abbrev pub Meets : Case → Pattern → Type 0
  Meets C p = CommonInstance Σ W C p ⊎ Open C p

  -- It is passed over: they share none. A pattern that is open may be counted in either way.
  abbrev pub IsApart : Case → Pattern → Type 0
  IsApart C p = CommonInstance Σ W C p → ⊥

  -- x is the first candidate of the case among the patterns of the list that meet it
  pub data FirstCandidate (C : Case) (x : ℕ) : List Pattern → Type 0 where
    of_first : {p : Pattern} {ps : List Pattern} (xs : List ℕ) → Meets C p → case_candidates C p ≡ x ∷ xs → FirstCandidate C x (p ∷ ps)
    past_meeting : {p : Pattern} {ps : List Pattern} → Meets C p → case_candidates C p ≡ [] → FirstCandidate C x ps → FirstCandidate C x (p ∷ ps)
    past_apart : {p : Pattern} {ps : List Pattern} → IsApart C p → FirstCandidate C x ps → FirstCandidate C x (p ∷ ps)

  -- The cases that the strategy reaches from the goal: the goal, and what the split of a case that is reached gives, at its first candidate,
  -- where that case is an instance of no pattern.
  pub data Reached (below : ℕ → ℕ → Bool) (ps : List Pattern) (goal : Case) : Case → Type 0 where
    goal_is_reached : Reached below ps goal goal
    split_is_reached : {C D : Case} (x : ℕ) → Reached below ps goal C → ((p : Pattern) → Member p ps → IsInstanceOf Σ W C p → ⊥) → FirstCandidate C x ps → IsSplitCase Σ W below C x D → Reached below ps goal D

  -- The strategy can't split the case: it is an instance of no pattern, a pattern meets it, and no pattern that meets it has a candidate.
  pub record IsUnsplit (ps : List Pattern) (C : Case) : Type 0 where
    pub no_instance : (p : Pattern) → Member p ps → IsInstanceOf Σ W C p → ⊥
    pub meeting : Pattern
    pub listed : Member meeting ps
    pub meets : Meets C meeting
    pub no_candidate : (p : Pattern) → Member p ps → (case_candidates C p ≡ []) ⊎ IsApart C p
