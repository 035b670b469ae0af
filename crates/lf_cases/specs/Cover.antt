-- Clauses offered in a context, and covered inputs and outputs.
use Rattle.std.specs.Prelude.{◌≡◌, ℕ, zero, suc, List, [], ◌∷◌, Bool, true, false, ◌⊎◌, Some}
use Rattle.lf.specs.Syntax.{Head, constant, variable, Spine, LfType, Kind}
use Rattle.lf.specs.Substitution.{Image, keep, rename_image, substitute_spine, substitute_type, reduce}
use Rattle.lf.specs.Typing.{Signature, TypeAt, SpineFitsKind}
use Rattle.lf.specs.Entries.{quantifiers}
use Rattle.lf.specs.Variables.{target, target_arguments, with_arguments, binders, onto, UsesType, Values, SameOn, everything}
use Rattle.lf.specs.Subordination.{Block, Member}
use Rattle.lf.specs.Worlds.{World, OpenInstance, no_variables, single_variable, whole_instance, begin_instance, next_entry, single_beside}
use Rattle.lf.specs.Extension.{Extends}
use Rattle.lf_checks.specs.Clause.{Clause, scope, outside, constant_clause, entry_clause}
use Rattle.lf_checks.specs.Marks.{Mark, input_places, TypedPlaces, SamePlaces, UsesPlaces}
use Rattle.lf_checks.specs.Ground.{ground_by, ground_after}
use Rattle.lf_checks.specs.Worlded.{IsTerm}

-- P holds of what stands for the variables of a block, over one more variable of the context
abbrev pub Moved : ((ℕ → Image) → Type 0) → (ℕ → Image) → Type 0
Moved P θ = (τ : ℕ → Image) × P τ × (θ ≡ (λ i. rename_image suc (τ i)))

-- The instances in a context of worlds are those of its one decomposition: θ stands for the entries and the `some` variables
-- of a whole instance of B in it.
abbrev mutual
  pub InstanceIn : {Σ : Signature} {W : List Block} {S : ℕ → Bool} {G : List LfType} → World Σ W S G → Block → (ℕ → Image) → Type 0
  InstanceIn no_variables B θ = ⊥
  InstanceIn (single_variable w t n) B θ = Moved (InstanceIn w B) θ
  InstanceIn (whole_instance {θ = τ} C i e o) B θ = ((B ≡ C) × (θ ≡ τ)) ⊎ InstanceBefore o B θ

  -- of what precedes an instance that isn't whole yet, and of what stands beside it
  pub InstanceBefore : {Σ : Signature} {W : List Block} {S : ℕ → Bool} {C : Block} {G es : List LfType} {τ : ℕ → Image} → OpenInstance Σ W S C G es τ → Block → (ℕ → Image) → Type 0
  InstanceBefore (begin_instance w v) B θ = InstanceIn w B θ
  InstanceBefore (next_entry E o t) B θ = Moved (InstanceBefore o B) θ
  InstanceBefore (single_beside o t n) B θ = Moved (InstanceBefore o B) θ

-- the index of an entry after which these follow
abbrev pub place_of : List LfType → ℕ
place_of [] = zero
place_of (D ∷ ds) = suc (place_of ds)

-- what stands for the part of a block before an entry after which these follow
abbrev pub before : List LfType → (ℕ → Image) → ℕ → Image
before [] θ = λ i. θ (suc i)
before (D ∷ ds) θ = before ds (λ i. θ (suc i))

-- In a context of worlds the head h is offered with this clause, where θ stands for what is outside it: a constant, or a
-- variable that is an entry of an instance.
pub data Offered {Σ : Signature} {W : List Block} {S : ℕ → Bool} {G : List LfType} (w : World Σ W S G) : Head → Clause → (ℕ → Image) → Type 0 where
  by_constant : (k : ℕ) (U : LfType) → Σ.types k ≡ Some U → Offered w (constant k) (constant_clause U) keep
  by_entry : (B : Block) (later : List LfType) (E : LfType) (es : List LfType) (θ : ℕ → Image) (j : ℕ) → Member B W → onto later (E ∷ es) ≡ B.entries → InstanceIn w B θ → θ (place_of later) ≡ keep j → Offered w (variable j) (entry_clause B es E) (before later θ)

-- the images of what stands n quantifiers further out
abbrev pub outer_images : ℕ → (ℕ → Image) → ℕ → Image
outer_images zero σ = σ
outer_images (suc n) σ = λ i. outer_images n σ (suc i)

-- σ gives what stands outside the clause the same as θ
abbrev pub AgreesOutside : Clause → (ℕ → Image) → (ℕ → Image) → Type 0
AgreesOutside c σ θ = (k : ℕ) (X : LfType) → TypeAt c.outer k X → outer_images (quantifiers c.type) σ k ≡ θ k

-- the values of the clause's own variables in U are terms
abbrev pub AreTerms : Clause → (ℕ → Bool) → (ℕ → Image) → Type 0
AreTerms c U σ = (i : ℕ) → outside c.type everything i ≡ false → U i ≡ true → IsTerm (σ i)

-- The tuple T of the family a is, at the chosen places, an instance of the head of a clause offered: values of the variables that
-- are ground by these places make them equal, and they have no other variables.
pub record CoveredBy {Σ : Signature} {W : List Block} {S : ℕ → Bool} {G : List LfType} (w : World Σ W S G) (m : List Bool) (a : ℕ) (T : Spine) : Type 0 where
  pub head : Head
  pub clause : Clause
  pub outer : ℕ → Image
  pub values : ℕ → Image
  pub offered : Offered w head clause outer
  pub family : target clause.type ≡ a
  pub typed : Values Σ (ground_by everything m clause) (scope clause) G values
  pub agrees : AgreesOutside clause values outer
  pub terms : AreTerms clause (ground_by everything m clause) values
  pub same : SamePlaces m T (substitute_spine reduce values (target_arguments clause.type))
  pub uses : UsesPlaces (ground_by everything m clause) m (target_arguments clause.type)

-- Covered inputs: in each legal extension over S and each context of W beside S each tuple of typed inputs is covered by a clause.
abbrev pub CoveredInputs : Signature → (ℕ → List Mark) → List Block → (ℕ → Bool) → ℕ → Type 0
CoveredInputs Σ m W S a = (Σ' : Signature) → Extends S Σ Σ' → (G : List LfType) (w : World Σ' W S G) (T : Spine) (K : Kind) → Σ'.kinds a ≡ Some K → TypedPlaces Σ' (input_places (m a)) G T K → CoveredBy w (input_places (m a)) a T

-- The outputs in T of the subgoal A, whose ground variables U have the values of σ, are an instance of its output places: values of
-- what is ground after it, the same on U, make A the subgoal with these arguments; and A has variables only that are ground then.
pub record OutputsCovered (Σ : Signature) (m : ℕ → List Mark) (c : Clause) (U : ℕ → Bool) (A : LfType) (G : List LfType) (σ : ℕ → Image) (T : Spine) : Type 0 where
  pub values : ℕ → Image
  pub typed : Values Σ (ground_after m c A U) (scope c) G values
  pub same : SameOn U σ values
  pub terms : AreTerms c (ground_after m c A U) values
  pub uses : UsesType (ground_after m c A U) A
  pub is_instance : substitute_type reduce values A ≡ with_arguments (substitute_type reduce σ A) T

-- Covered outputs of the subgoal A of the clause, where the variables U are ground before it: each tuple of typed arguments with the
-- inputs of the subgoal is covered. Where U holds a variable and not those in its type, there are no values of U and nothing is
-- asked. So it may be with a clause whose inputs are not all strict: such a clause covers no inputs and is passed over.
abbrev pub CoveredOutputs : Signature → (ℕ → List Mark) → List Block → (ℕ → Bool) → Clause → (ℕ → Bool) → LfType → Type 0
CoveredOutputs Σ m W S c U A = (Σ' : Signature) → Extends S Σ Σ' → (G : List LfType) (w : World Σ' W S G) (h : Head) (θ : ℕ → Image) → Offered w h c θ → (σ : ℕ → Image) → Values Σ' U (scope c) G σ → AgreesOutside c σ θ → AreTerms c U σ → (T : Spine) (K : Kind) → Σ'.kinds (target A) ≡ Some K → SamePlaces (input_places (m (target A))) (target_arguments (substitute_type reduce σ A)) T → SpineFitsKind Σ' (binders G (substitute_type reduce σ A)) T K → OutputsCovered Σ' m c U A G σ T
