-- What holds of the store, with the equations at work in front, between two steps.
use Rattle.std.specs.Prelude.{◌≡◌, ℕ, List, [], ◌∷◌, ◌++◌, length, Option}
use Rattle.lf.specs.SkeletonTyping.{TypeBySkeletons}
use Rattle.lf.specs.Skeletons.{family_skeletons}
use Rattle.lf.specs.Syntax.{LfType}
use Rattle.lf.specs.Typing.{Signature}
use Rattle.lf_unification.specs.Lists.{followed}
use Rattle.lf_unification.specs.Patterns.{local_skeletons}
use Rattle.lf_unification.specs.Scope.{IsScoped}
use Rattle.lf_unification.specs.Solving.{IsWellFormed}
use Rattle.lf_unification.specs.Unifiers.{Equation}
use Rattle.tw_metas.specs.State.{State, Story, states}
use Rattle.tw_putting.specs.Fits.{declared_skeletons}
use Rattle.tw_putting.specs.Stores.{bindings_of, types_of}
use Rattle.tw_putting.specs.Whole.{IsConsistent, whole}

module _ (Σ : Signature) (Ψ : ℕ → Option LfType) where
  -- skeletons type the local context
  abbrev pub LocalsBySkeletons : List LfType → Type 0
  LocalsBySkeletons [] = Unit {0}
  LocalsBySkeletons (A ∷ D) = LocalsBySkeletons D × TypeBySkeletons (family_skeletons Σ) (declared_skeletons Σ Ψ) (local_skeletons D []) A

  -- and the local context and the type of each equation; so these mention declared metavariables only
  abbrev pub TypesBySkeletons : List Equation → Type 0
  TypesBySkeletons [] = Unit {0}
  TypesBySkeletons (e ∷ es) = (LocalsBySkeletons e.local × TypeBySkeletons (family_skeletons Σ) (declared_skeletons Σ Ψ) (local_skeletons e.local []) e.of_type) × TypesBySkeletons es

-- the store is well formed, and skeletons type what its equations stand in
pub record IsReady (Σ : Signature) (es : List Equation) (s : State) : Type 0 where
  pub consistent : IsConsistent s
  pub well_formed : IsWellFormed Σ (whole es s)
  pub types : TypesBySkeletons Σ (types_of s) (followed es s.equations)

-- every metavariable that is mentioned by the store, with the equations in front, is declared
abbrev pub AllScoped : List Equation → State → Type 0
AllScoped es s = IsScoped (types_of s) (length s.declared) (bindings_of s) (followed es s.equations)

-- changes came, and none was taken back
abbrev pub IsLater : Story → Story → Type 0
IsLater old new = (news : List State) × (states new ≡ news ++ states old)
