-- Missing cases: typed instances of the goal that share no typed instance with any pattern.
use Rattle.std.specs.Prelude.{◌≡◌, ℕ, suc, List, [], ◌∷◌, length, Bool, ◌⊎◌, Option, Some, None}
use Rattle.lf.specs.Syntax.{Term, Spine, LfType, skeleton}
use Rattle.lf.specs.Substitution.{Image, put, rename_image, substitute, substitute_type, reduce, after}
use Rattle.lf.specs.AtOnce.{in_front, shift_by}
use Rattle.lf.specs.Typing.{Signature, TypeAt, HasType, IsType}
use Rattle.lf.specs.Variables.{target_arguments, Values, everything}
use Rattle.lf.specs.Subordination.{Block, Member}
use Rattle.lf.specs.Worlds.{lift_over, instance}
use Rattle.lf_checks.specs.Tests.{choose}
use Rattle.lf_checks.specs.Clause.{Clause, scope}
use Rattle.lf_checks.specs.Marks.{SamePlaces}
use Rattle.lf_checks.specs.Ground.{UsesGoal}
use Rattle.lf_cases.specs.Cover.{before, AgreesOutside, AreTerms}
use Rattle.lf_cases.specs.Case.{Item, free_variable, block_variable, Case, items_context, entries_in_front, behind_entries, as_term, HasArguments, covered_places}
use Rattle.lf_cases.specs.Pattern.{Origin, of_constant, of_entry, Pattern, has_block_variable, HasGiven}

-- The items are typed: each free variable's type is one over the items before it, and the `some` terms of each block variable, whose
-- block is one of W, are typed over them.
abbrev pub AreTypedItems : Signature → List Block → List Item → Type 0
AreTypedItems Σ W [] = Unit {0}
AreTypedItems Σ W (free_variable A ∷ I) = AreTypedItems Σ W I × IsType Σ (items_context I) A
AreTypedItems Σ W (block_variable B υ ∷ I) = AreTypedItems Σ W I × Member B W × Values Σ everything B.some (items_context I) υ

-- θ stands for the entries and the `some` variables of a block variable of the items.
abbrev pub BlockAmong : List Item → Block → (ℕ → Image) → Type 0
BlockAmong [] B θ = ⊥
BlockAmong (free_variable A ∷ I) B θ = (τ : ℕ → Image) × BlockAmong I B τ × (θ ≡ (λ i. rename_image suc (τ i)))
BlockAmong (block_variable C υ ∷ I) B θ = ((C ≡ B) × (θ ≡ lift_over C.entries υ)) ⊎ ((τ : ℕ → Image) × BlockAmong I B τ × (θ ≡ (λ i. rename_image (shift_by (length C.entries)) (τ i))))

-- A typed instance of items over other items J: a typed term over J for each free variable, and for each block variable one of J with
-- the same block and the same `some` terms.
abbrev pub IsTypedInstance : Signature → List Item → List Item → (ℕ → Image) → Type 0
IsTypedInstance Σ J [] σ = Unit {0}
IsTypedInstance Σ J (free_variable A ∷ I) σ = (N : Term) × (τ : ℕ → Image) × IsTypedInstance Σ J I τ × HasType Σ (items_context J) N (substitute_type reduce τ A) × (σ ≡ in_front (put (skeleton A) N) τ)
IsTypedInstance Σ J (block_variable B υ ∷ I) σ = (θ τ : ℕ → Image) × IsTypedInstance Σ J I τ × BlockAmong J B θ × ((i : ℕ) (A : LfType) → TypeAt B.some i A → as_term (skeleton A) (behind_entries B.entries θ i) ≡ as_term (skeleton A) (after τ υ i)) × (σ ≡ entries_in_front B.entries θ τ)

-- in this typed instance over J a block variable stands for the block variable θ of J
abbrev pub StandsForAmong : (Σ : Signature) (J I : List Item) (σ : ℕ → Image) → IsTypedInstance Σ J I σ → Block → (ℕ → Image) → Type 0
StandsForAmong Σ J [] σ g B θ = ⊥
StandsForAmong Σ J (free_variable A ∷ I) σ (N, τ, g, t, e) B θ = StandsForAmong Σ J I τ g B θ
StandsForAmong Σ J (block_variable C υ ∷ I) σ (φ, τ, g, i, s, e) B θ = ((C ≡ B) × (φ ≡ θ)) ⊎ StandsForAmong Σ J I τ g B θ

-- different block variables stand for different ones of J
abbrev pub KeepsApart : (Σ : Signature) (J I : List Item) (σ : ℕ → Image) → IsTypedInstance Σ J I σ → Type 0
KeepsApart Σ J [] σ g = Unit {0}
KeepsApart Σ J (free_variable A ∷ I) σ (N, τ, g, t, e) = KeepsApart Σ J I τ g
KeepsApart Σ J (block_variable C υ ∷ I) σ (φ, τ, g, i, s, e) = (StandsForAmong Σ J I τ g C φ → ⊥) × KeepsApart Σ J I τ g

-- In this typed instance over J the first block variable, the last of the list, stands for θ, a block variable of J.
abbrev pub FirstAmong : (Σ : Signature) (J I : List Item) (σ : ℕ → Image) → IsTypedInstance Σ J I σ → Block → (ℕ → Image) → Type 0
FirstAmong Σ J [] σ g B θ = ⊥
FirstAmong Σ J (free_variable A ∷ I) σ (N, τ, g, t, e) B θ = FirstAmong Σ J I τ g B θ
FirstAmong Σ J (block_variable C υ ∷ I) σ (φ, τ, g, i, s, e) B θ = choose (has_block_variable I) (FirstAmong Σ J I τ g B θ) ((C ≡ B) × (φ ≡ θ))

-- What stands outside the clause: nothing outside a constant; an entry is that of a block variable of J, of the one that the first block
-- variable of the case stands for where the pattern speaks of this alone.
abbrev pub StandsAmong : (Σ : Signature) {c : Clause} → Origin c → Bool → (J I : List Item) (σ : ℕ → Image) → IsTypedInstance Σ J I σ → (ℕ → Image) → Type 0
StandsAmong Σ (of_constant U) b J I σ g τ = Unit {0}
StandsAmong Σ {c = c} (of_entry B later E es e) b J I σ g τ = (θ : ℕ → Image) × choose b (FirstAmong Σ J I σ g B θ) (BlockAmong J B θ) × AgreesOutside c τ (before later θ)

-- the blocks of worlds, and that of an entry, of which there may be a new block variable
abbrev pub blocks_with : {c : Clause} → Origin c → List Block → List Block
blocks_with (of_constant U) W = W
blocks_with (of_entry B later E es e) W = B ∷ W

-- A typed instance that a case and a pattern have in common: over typed items, values of the case, and typed terms for the variables of the
-- clause that stand in the pattern, the given ones where they are given, make the arguments at the covered places the same.
pub record CommonInstance (Σ : Signature) (W : List Block) (C : Case) (p : Pattern) : Type 0 where
  pub items : List Item
  pub typed_items : AreTypedItems Σ (blocks_with p.origin W) items
  pub case_values : ℕ → Image
  pub is_instance : IsTypedInstance Σ items C.items case_values
  pub used : ℕ → Bool
  pub clause_values : ℕ → Image
  pub typed_values : Values Σ used (scope p.clause) (items_context items) clause_values
  pub uses : UsesGoal used (covered_places C.arguments) p.type
  pub terms : AreTerms p.clause used clause_values
  pub given : HasGiven case_values C.given clause_values
  pub stands : StandsAmong Σ p.origin p.at_first items C.items case_values is_instance clause_values
  pub tuple : Spine
  pub of_case : HasArguments (lift_over C.local case_values) C.arguments tuple
  pub of_clause : SamePlaces (covered_places C.arguments) tuple (target_arguments (substitute_type reduce clause_values p.type))

-- the terms of a list, with values put in
abbrev pub put_in : (ℕ → Image) → List (Option Term) → List (Option Term)
put_in σ [] = []
put_in σ (Some M ∷ Ms) = Some (substitute reduce σ M) ∷ put_in σ Ms
put_in σ (None ∷ Ms) = None ∷ put_in σ Ms

-- C is a typed instance of the goal: over its own items, values of the goal give its given terms, its local context and its arguments.
pub record IsInstanceOfGoal (Σ : Signature) (W : List Block) (goal C : Case) : Type 0 where
  pub typed_items : AreTypedItems Σ W C.items
  pub values : ℕ → Image
  pub is_instance : IsTypedInstance Σ C.items goal.items values
  pub same_family : C.family ≡ goal.family
  pub same_given : C.given ≡ put_in values goal.given
  pub same_local : C.local ≡ instance goal.local values
  pub same_arguments : C.arguments ≡ put_in (lift_over goal.local values) goal.arguments

-- A missing case: a typed instance of the goal that has no typed instance in common with any pattern of the list.
pub record IsMissing (Σ : Signature) (W : List Block) (ps : List Pattern) (goal C : Case) : Type 0 where
  pub of_goal : IsInstanceOfGoal Σ W goal C
  pub shares_nothing : (p : Pattern) → Member p ps → CommonInstance Σ W C p → ⊥
