-- The sides of an equation, with variables for metavariables.
use Rattle.std.specs.Prelude.{◌≡◌, ℕ, List, length, Option, Some}
use Rattle.lf.specs.Syntax.{LfType, skeleton}
use Rattle.lf.specs.Typing.{Signature}
use Rattle.tw_equation.specs.declared.equation.Sides.{Sides}
use Rattle.tw_abstract.specs.Generalizing.{generalized, generalized_type}
use Rattle.tw_print.specs.Showable.{HasSkeleton, IsShowableType}
use Rattle.tw_terms.specs.View.{term_of, type_of}
use Rattle.lf_unification.specs.Unifiers.{Equation}

pub record AreGeneralized (f : ℕ → Option ℕ) (e : Equation) (s : Sides) : Type 0 where
  pub left : generalized f (length e.local) e.left ≡ Some (term_of s.left)
  pub right : generalized f (length e.local) e.right ≡ Some (term_of s.right)
  pub of_type : generalized_type f (length e.local) e.of_type ≡ Some (type_of s.ty)

-- skeletons type them, as is needed to show them
pub record AreShowable (Σ : Signature) (G : List LfType) (s : Sides) : Type 0 where
  pub ty : IsShowableType Σ G (type_of s.ty)
  pub left : HasSkeleton Σ G (term_of s.left) (skeleton (type_of s.ty))
  pub right : HasSkeleton Σ G (term_of s.right) (skeleton (type_of s.ty))
