-- Cases of coverage: patterns over free variables and block variables, and their ground instances.
use Rattle.std.specs.Prelude.{◌≡◌, ℕ, zero, suc, List, [], ◌∷◌, Bool, true, false, Option, Some, None}
use Rattle.lf.specs.Syntax.{variable, Term, Spine, nil, app, LfType, Kind, kind_pi, star, Skeleton, skeleton, rename_type, lift_renaming}
use Rattle.lf.specs.Substitution.{Image, keep, put, substitute, substitute_type, reduce, after}
use Rattle.lf.specs.AtOnce.{in_front}
use Rattle.lf.specs.Eta.{eta_long}
use Rattle.lf.specs.Typing.{Signature, TypeAt, HasType}
use Rattle.lf.specs.Variables.{onto}
use Rattle.lf.specs.Subordination.{Block}
use Rattle.lf.specs.Worlds.{World, instance}
use Rattle.lf_cases.specs.Cover.{InstanceIn}

-- A free variable with its type; or a block variable: an instance of a block, with what stands for its `some` variables.
pub data Item : Type 0 where
  free_variable : LfType → Item
  block_variable : Block → (ℕ → Image) → Item

-- The context of a telescope of items, the newest in front: a type for each free variable, and the entries of each instance.
abbrev pub items_context : List Item → List LfType
items_context [] = []
items_context (free_variable A ∷ I) = A ∷ items_context I
items_context (block_variable B θ ∷ I) = onto (instance B.entries θ) (items_context I)

-- A case: its items; over them the terms that are given for variables of a clause, and a local context; and under this the arguments
-- of the family, none at a place that isn't covered. A case of inputs has no given terms and no local context. A case of a subgoal's
-- outputs has a given term for each variable of the clause that is ground before the subgoal: one place for each quantifier of the
-- clause, the last in front, and none at any other.
pub record Case : Type 0 where
  pub items : List Item
  pub given : List (Option Term)
  pub local : List LfType
  pub family : ℕ
  pub arguments : List (Option Term)

-- what θ gives the entries of a block, in front of σ
abbrev pub entries_in_front : List LfType → (ℕ → Image) → (ℕ → Image) → ℕ → Image
entries_in_front [] θ σ = σ
entries_in_front (E ∷ es) θ σ = in_front (θ zero) (entries_in_front es (λ i. θ (suc i)) σ)

-- what θ gives the `some` variables behind these entries
abbrev pub behind_entries : List LfType → (ℕ → Image) → ℕ → Image
behind_entries [] θ = θ
behind_entries (E ∷ es) θ = behind_entries es (λ i. θ (suc i))

-- what stands for a variable of this skeleton, as a term: a variable is its eta-long form
abbrev pub as_term : Skeleton → Image → Term
as_term a (keep j) = eta_long a (variable j)
as_term a (put b N) = N

-- A ground instance of items in a context of worlds: a typed term for each free variable, and for each block variable an instance
-- of its block in the context whose `some` terms are those of the item under the values so far. Two block variables may be
-- the same instance, at any place of the context.
abbrev pub IsGroundInstance : {Σ : Signature} {W : List Block} {S : ℕ → Bool} {G : List LfType} → World Σ W S G → List Item → (ℕ → Image) → Type 0
IsGroundInstance w [] σ = Unit {0}
IsGroundInstance {Σ} {G = G} w (free_variable A ∷ I) σ = (N : Term) × (τ : ℕ → Image) × IsGroundInstance w I τ × HasType Σ G N (substitute_type reduce τ A) × (σ ≡ in_front (put (skeleton A) N) τ)
IsGroundInstance w (block_variable B υ ∷ I) σ = (θ : ℕ → Image) × (τ : ℕ → Image) × IsGroundInstance w I τ × InstanceIn w B θ × ((i : ℕ) (A : LfType) → TypeAt B.some i A → as_term (skeleton A) (behind_entries B.entries θ i) ≡ as_term (skeleton A) (after τ υ i)) × (σ ≡ entries_in_front B.entries θ τ)

-- A tuple has the arguments of a case, under these values, at the places where there are any. Where the case has a local context
-- the values are those under it.
abbrev pub HasArguments : (ℕ → Image) → List (Option Term) → Spine → Type 0
HasArguments σ [] nil = Unit {0}
HasArguments σ [] (app N T) = ⊥
HasArguments σ (M ∷ Ms) nil = ⊥
HasArguments σ (Some M ∷ Ms) (app N T) = (N ≡ substitute reduce σ M) × HasArguments σ Ms T
HasArguments σ (None ∷ Ms) (app N T) = HasArguments σ Ms T

-- the places with an argument
abbrev pub covered_places : List (Option Term) → List Bool
covered_places [] = []
covered_places (Some M ∷ Ms) = true ∷ covered_places Ms
covered_places (None ∷ Ms) = false ∷ covered_places Ms

-- ρ takes the chosen places before to variables; so it does past a place that isn't chosen. What it gives that place has no meaning:
-- the types of the chosen places must not mention it.
abbrev pub past_place : (ℕ → ℕ) → ℕ → ℕ
past_place ρ zero = zero
past_place ρ (suc i) = ρ i

-- The goal of input coverage has a free variable for each chosen place, of the place's type over those before, and nothing at the
-- others. ρ takes the chosen places before to the variables so far. The types of the chosen places must mention chosen places only.
abbrev pub goal_items : List Bool → Kind → (ℕ → ℕ) → List Item → List Item
goal_items [] K ρ I = I
goal_items (b ∷ m) star ρ I = I
goal_items (true ∷ m) (kind_pi A K) ρ I = goal_items m K (lift_renaming ρ) (free_variable (rename_type ρ A) ∷ I)
goal_items (false ∷ m) (kind_pi A K) ρ I = goal_items m K (past_place ρ) I

-- how many places are chosen
abbrev pub chosen_count : List Bool → Kind → ℕ
chosen_count [] K = zero
chosen_count (b ∷ m) star = zero
chosen_count (true ∷ m) (kind_pi A K) = suc (chosen_count m K)
chosen_count (false ∷ m) (kind_pi A K) = chosen_count m K

-- the variable of each chosen place, eta-long, and nothing at the others
abbrev pub goal_arguments : List Bool → Kind → List (Option Term)
goal_arguments [] K = []
goal_arguments (b ∷ m) star = []
goal_arguments (true ∷ m) (kind_pi A K) = Some (eta_long (skeleton A) (variable (chosen_count m K))) ∷ goal_arguments m K
goal_arguments (false ∷ m) (kind_pi A K) = None ∷ goal_arguments m K

-- the goal for the family a of this kind, where the types of the chosen places mention chosen places only
abbrev pub input_goal : ℕ → List Bool → Kind → Case
input_goal a m K = record { items = goal_items m K (λ i. i) []; given = []; local = []; family = a; arguments = goal_arguments m K }
