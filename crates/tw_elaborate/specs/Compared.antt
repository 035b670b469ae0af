-- Types that are still to be compared, the next one last.
use Rattle.std.specs.Prelude.{◌≡◌, ℕ, zero, suc, ◌+◌, ◌<◌, List, [], ◌∷◌, ◌++◌, ◌⊎◌}
use Rattle.lf.specs.Syntax.{LfType, atom, pi, skeleton}
use Rattle.lf.specs.Typing.{Signature}
use Rattle.lf_elaboration.specs.Skeletons.{TypeHasSkeletons}
use Rattle.lf_elaboration.specs.State.{State, type_equations, with_equations}
use Rattle.lf_unification.specs.Lists.{followed}
use Rattle.lf_unification.specs.Unifiers.{Equation}
use Rattle.tw_terms.specs.OpenView.{open_type_of}
use Rattle.tw_elaborate.specs.IndicesDeep.{IndicesDeep}
use Rattle.tw_elaborate.specs.View.{made}
use Rattle.tw_elaborate.specs.declared.equations.Comparison.{Comparison}
use Rattle.tw_elaborate.specs.declared.state.Elaboration.{Elaboration}

-- how many atoms and function types a type has
abbrev pub parts : LfType → ℕ
parts (pi A B) = suc (parts A + parts B)
parts (atom a S) = 1

-- of all types that were found
abbrev pub parts_left : List Comparison → ℕ
parts_left [] = zero
parts_left (c ∷ cs) = parts (open_type_of c.found.now) + parts_left cs

-- the skeletons of each two are the same
abbrev pub AllSame : List Comparison → Type 0
AllSame [] = Unit {0}
AllSame (c ∷ cs) = (skeleton (open_type_of c.found.now) ≡ skeleton (open_type_of c.expected.now)) × AllSame cs

module _ (Σ : Signature) where
  -- the equations that they are to give, those of the last one first
  abbrev pub equations_left : List Comparison → List Equation
  equations_left [] = []
  equations_left (c ∷ cs) = followed (equations_left cs) (type_equations Σ c.context (open_type_of c.found.now) (open_type_of c.expected.now))

  -- skeletons type what was found
  abbrev pub AllFound : State → List Comparison → Type 0
  AllFound s [] = Unit {0}
  AllFound s (c ∷ cs) = TypeHasSkeletons Σ s c.context (open_type_of c.found.now) × AllFound s cs

  -- one of the types that were found comes out deep
  abbrev pub AnyDeep : List Comparison → Type 0
  AnyDeep [] = ⊥
  AnyDeep (c ∷ cs) = IndicesDeep Σ (open_type_of c.found.now) ⊎ AnyDeep cs

  -- The next one was compared, or its parts are to be: there is less to compare, and in the end there are the same equations.
  pub record ComparesNext (next : Comparison) (old new : List Comparison) (a b : Elaboration) : Type 0 where
    pub added : List Equation
    pub state : made b ≡ with_equations added (made a)
    pub equations : with_equations (equations_left (old ++ next ∷ [])) (made a) ≡ with_equations (equations_left new) (made b)
    pub same : AllSame new → AllSame (old ++ next ∷ [])
    pub less : parts_left new < parts_left (old ++ next ∷ [])
    pub found : AllFound (made a) old → AllFound (made b) new
    pub deep : AnyDeep new → AnyDeep (old ++ next ∷ [])
