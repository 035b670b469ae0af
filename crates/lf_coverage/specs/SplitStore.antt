-- The store in which a head is unified with a variable: each variable of the items, which are free ones, is a metavariable.
use Rattle.std.specs.Prelude.{ℕ, zero, suc, ◌+◌, List, [], ◌∷◌, length, Bool, Option, Some, None}
use Rattle.lf.specs.Syntax.{Head, constant, variable, metavariable, Term, Spine, lambda, root, nil, app, LfType, Kind, pi, atom, skeleton, weaken, Skeleton, rename_head, rename_type}
use Rattle.lf.specs.Substitution.{Image, keep, put}
use Rattle.lf.specs.AtOnce.{shift_by}
use Rattle.lf.specs.Eta.{eta_long}
use Rattle.lf.specs.Worlds.{lift_over, instance}
use Rattle.lf.specs.Variables.{target_arguments, FamiliesIn}
use Rattle.lf_unification.specs.Dependency.{ListedMetavariable, free_context, values}
use Rattle.lf_unification.specs.Offering.{spine_equations}
use Rattle.lf_unification.specs.OpenTyping.{skeletons_of}
use Rattle.lf_unification.specs.Unifiers.{Store}
use Rattle.lf_cases.specs.Case.{Item, Case, items_context}
use Rattle.lf_cases.specs.OutputGoal.{free_variables}
use Rattle.lf_cases.specs.Missing.{put_in}
use Rattle.lf_cases.specs.Reached.{arguments_count, head_masks, head_term, taken, split_items}
use Rattle.lf_coverage.specs.Heads.{result_type}

-- A variable under k binders: what stands outside them is a metavariable of the same number.
abbrev pub open_variable : ℕ → ℕ → Head
open_variable zero i = metavariable i
open_variable (suc k) zero = variable zero
open_variable (suc k) (suc i) = rename_head suc (open_variable k i)

-- a term under k binders with all outer variables as metavariables
abbrev mutual
  pub open_term : ℕ → Term → Term
  open_term k (lambda M) = lambda (open_term (suc k) M)
  open_term k (root (constant c) S) = root (constant c) (open_spine k S)
  open_term k (root (metavariable m) S) = root (metavariable m) (open_spine k S)
  open_term k (root (variable i) S) = root (open_variable k i) (open_spine k S)

  pub open_spine : ℕ → Spine → Spine
  open_spine k nil = nil
  open_spine k (app M S) = app (open_term k M) (open_spine k S)

-- the same in a type, and in a local context
abbrev pub open_type : ℕ → LfType → LfType
open_type k (pi A B) = pi (open_type k A) (open_type (suc k) B)
open_type k (atom a S) = atom a (open_spine k S)

abbrev pub open_locals : List LfType → List LfType
open_locals [] = []
open_locals (A ∷ D) = open_type (length D) A ∷ open_locals D

-- one more variable outside
abbrev pub weaken_some : Option LfType → Option LfType
weaken_some None = None
weaken_some (Some A) = Some (weaken A)

-- the type of a variable
abbrev pub type_in : List LfType → ℕ → Option LfType
type_in [] i = None
type_in (A ∷ G) zero = Some (weaken A)
type_in (A ∷ G) (suc i) = weaken_some (type_in G i)

-- with metavariables for what it mentions
abbrev pub open_some : Option LfType → Option LfType
open_some None = None
open_some (Some A) = Some (open_type zero A)

-- the variables of a context as metavariables
abbrev pub context_metavariables : List LfType → ℕ → Option LfType
context_metavariables G i = open_some (type_in G i)

-- The equation of the variable with the head applied to new variables, and those of the indices of their types, where K is the kind of the
-- family.
abbrev pub split_store : (ℕ → ℕ → Bool) → ℕ → LfType → List Item → ℕ → Head → LfType → Kind → Store
split_store below x X I n h A K = record {
  metavariables = context_metavariables (items_context (split_items below X I n A));
  bindings = [];
  equations = record {
    local = [];
    left = open_term zero (eta_long (skeleton X) (variable (x + (n + arguments_count A))));
    right = open_term zero (head_term below (taken (rename_type (shift_by n) X)) h A);
    of_type = open_type zero (rename_type (shift_by (n + arguments_count A)) X);
  } ∷ spine_equations (open_locals (taken (rename_type (shift_by (n + arguments_count A)) X))) K (open_spine (length (taken X)) (target_arguments (rename_type (shift_by (n + arguments_count A)) X))) (open_spine (length (taken X)) (target_arguments (result_type (head_masks below (taken (rename_type (shift_by n) X)) (arguments_count A) A) (taken (rename_type (shift_by n) X)) (arguments_count A) A)));
}

-- every type of the context has families of S alone
abbrev pub AllFamiliesIn : (ℕ → Bool) → List LfType → Type 0
AllFamiliesIn S [] = Unit {0}
AllFamiliesIn S (A ∷ G) = FamiliesIn S A × AllFamiliesIn S G

-- What stands for a metavariable of a solved store in its answer.
abbrev pub answer_image : Skeleton → Option Term → Image
answer_image a None = keep zero
answer_image a (Some N) = put a N

abbrev pub answer_values : Store → List ListedMetavariable → ℕ → Image
answer_values s order i = answer_image (skeletons_of s.metavariables i) (values (skeletons_of s.metavariables) order i)

-- The case that a solved store gives, where variable i of C is metavariable f i: its items are the metavariables that stay free, in the order of
-- dependency, and the values are put into what C has.
abbrev pub solved_case_at : Case → (ℕ → ℕ) → Store → List ListedMetavariable → Case
solved_case_at C f s order = record {
  items = free_variables (free_context (skeletons_of s.metavariables) order);
  given = put_in (λ i. answer_values s order (f i)) C.given;
  local = instance C.local (λ i. answer_values s order (f i));
  family = C.family;
  arguments = put_in (lift_over C.local (λ i. answer_values s order (f i))) C.arguments;
}

-- So it is where the variables of C have moved by k.
abbrev pub solved_case : Case → ℕ → Store → List ListedMetavariable → Case
solved_case C k s order = solved_case_at C (λ i. i + k) s order
