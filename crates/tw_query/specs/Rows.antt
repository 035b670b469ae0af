-- The lines of an answer, as the program has them, and what is needed to show them.
use Rattle.std.specs.Prelude.{◌≡◌, ◌≤◌, ◌⊎◌, ◌++◌, ℕ, suc, List, [], ◌∷◌, Option, Some, None, cond, is_some, length}
use Rattle.lf.specs.Substitution.{single}
use Rattle.lf.specs.Syntax.{LfType, Term, atom, pi, skeleton}
use Rattle.lf.specs.Typing.{Signature, instantiate_type}
use Rattle.tw_hered.specs.Fits.{TypeFits}
use Rattle.tw_print.specs.Showable.{HasSkeleton, IsShowableType}
use Rattle.tw_signature.specs.Goal.{Goal}
use Rattle.tw_terms.specs.View.{term_of, type_of}
use Rattle.tw_query.specs.Text as text
use Rattle.tw_query.specs.declared.rows.Row.{Row}

abbrev pub row_of : Row → text.Row
row_of r = record { name = r.name.now; value = term_of r.value.now; of_type = type_of r.ty }

abbrev pub option_list : Option Row → List text.Row
option_list None = []
option_list (Some r) = row_of r ∷ []

-- terms fit along a type: each has the skeleton of the domain that is left, and can be put in for its variable
abbrev pub FitAlong : Signature → List LfType → LfType → List Term → Type 0
FitAlong Σ F A [] = IsShowableType Σ F A
FitAlong Σ F (pi A B) (M ∷ Ms) = IsShowableType Σ F A × HasSkeleton Σ F M (skeleton A) × TypeFits (single (skeleton A) M) B × FitAlong Σ F (instantiate_type A M B) Ms
FitAlong Σ F (atom a S) (M ∷ Ms) = ⊥

-- these are the first of the others, so many of them at least, or all
pub record Suffices (count : ℕ) (ts all : List LfType) : Type 0 where
  pub rest : List LfType
  pub split : ts ++ rest ≡ all
  pub enough : (rest ≡ []) ⊎ (count ≤ length ts)

-- how many types the lines of an answer may need: one for each variable, and one more where the proof has a name
abbrev pub types_needed : Goal → ℕ
types_needed g = cond (is_some g.proof) (suc (length g.variables)) (length g.variables)

-- skeletons type each line
abbrev pub AreShowable : Signature → List LfType → List text.Row → Type 0
AreShowable Σ F [] = Unit {0}
AreShowable Σ F (r ∷ rs) = (IsShowableType Σ F r.of_type × HasSkeleton Σ F r.value (skeleton r.of_type)) × AreShowable Σ F rs
