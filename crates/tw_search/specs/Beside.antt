-- The arguments of a goal beside those of a constant's type, where no local variable is in scope. Equations come apart at equal constants, as the values
-- of the metavariables stand. With p for the variables of the constant's type, those of `plus (s X) Y` beside `plus (s x) y` leave X beside x, and Y beside y.
use Rattle.std.specs.Prelude.{◌≡◌, ℕ, List, [], ◌∷◌, Some, map}
use Rattle.lf.specs.Subordination.{Member}
use Rattle.lf.specs.Syntax.{Kind, LfType, Spine, Term, app, atom, constant, kind_pi, metavariable, nil, pi, root}
use Rattle.lf.specs.Typing.{Signature}
use Rattle.lf_search.specs.AppliedHeads.{AppliedHead, spine_with_applied, with_applied}
use Rattle.lf_unification.specs.Lists.{followed}
use Rattle.lf_unification.specs.OpenTyping.{MetavariablesIn}
use Rattle.lf_unification.specs.Unifiers.{Binding, Equation}
use Rattle.tw_open.specs.Plain.{IsPlainType}
use Rattle.tw_terms.specs.OpenView.{open_term_of}
use Rattle.tw_terms.specs.View.{term_of, type_of}
use Rattle.tw_search.specs.declared.beside.Pair.{Pair}
use Rattle.tw_search.specs.declared.beside.Went.{Went}
use Rattle.tw_search.specs.declared.beside.Went.TheVariants.{On, Clash, Away}

-- a term leads to itself, and a metavariable without arguments to what its value leads to
pub data LeadsTo (bs : List Binding) : Term → Term → Type 0 where
  leads_to_itself : {M : Term} → LeadsTo bs M M
  leads_by_value : {M : Term} (b : Binding) → Member b bs → LeadsTo bs b.value M → LeadsTo bs (root (metavariable b.of) nil) M

-- the equation of M with N, of type A, without local variables
abbrev pub equation_between : Term → Term → LfType → Equation
equation_between M N A = record { local = []; left = M; right = N; of_type = A }

module _ (Σ : Signature) (bs : List Binding) (p : ℕ → AppliedHead) where
  mutual
    -- the equation of the goal's M with the clause's N, of type A, comes apart into these
    pub data ComesApart : Term → Term → LfType → List Equation → Type 0 where
      stays : {M V N : Term} {A : LfType} → LeadsTo bs M V → ComesApart M N A (equation_between V (with_applied p N) A ∷ [])
      same_constants : {M : Term} {S T I : Spine} {a c : ℕ} {B : LfType} {es : List Equation} → LeadsTo bs M (root (constant c) S) → Σ.types c ≡ Some B → IsPlainType B → RowComesApart S T B es → ComesApart M (root (constant c) T) (atom a I) es

    -- the same of two rows of arguments that a type takes
    pub data RowComesApart : Spine → Spine → LfType → List Equation → Type 0 where
      no_argument : {T : Spine} {B : LfType} → RowComesApart nil T B []
      next_argument : {M N : Term} {S T : Spine} {A B : LfType} {es fs : List Equation} → ComesApart M N A es → RowComesApart S T B fs → RowComesApart (app M S) (app N T) (pi A B) (followed es fs)

  -- the same of two rows that a kind takes
  pub data IndicesComeApart : Spine → Spine → Kind → List Equation → Type 0 where
    no_index : {T : Spine} {K : Kind} → IndicesComeApart nil T K []
    next_index : {M N : Term} {S T : Spine} {A : LfType} {K : Kind} {es fs : List Equation} → ComesApart M N A es → IndicesComeApart S T K fs → IndicesComeApart (app M S) (app N T) (kind_pi A K) (followed es fs)

module _ (Σ : Signature) (bs : List Binding) where
  mutual
    -- somewhere in the two terms constants stand in the same place that differ
    pub data Differs : Term → Term → LfType → Type 0 where
      constants_differ : {M N : Term} {S T I : Spine} {a c d : ℕ} → LeadsTo bs M (root (constant c) S) → LeadsTo bs N (root (constant d) T) → (c ≡ d → ⊥) → Differs M N (atom a I)
      arguments_differ : {M N : Term} {S T I : Spine} {a c : ℕ} {B : LfType} → LeadsTo bs M (root (constant c) S) → LeadsTo bs N (root (constant c) T) → Σ.types c ≡ Some B → IsPlainType B → RowDiffers S T B → Differs M N (atom a I)

    pub data RowDiffers : Spine → Spine → LfType → Type 0 where
      differs_here : {M N : Term} {S T : Spine} {A B : LfType} → Differs M N A → RowDiffers (app M S) (app N T) (pi A B)
      differs_later : {M N : Term} {S T : Spine} {A B : LfType} → RowDiffers S T B → RowDiffers (app M S) (app N T) (pi A B)

  pub data IndicesDiffer : Spine → Spine → Kind → Type 0 where
    index_differs : {M N : Term} {S T : Spine} {A : LfType} {K : Kind} → Differs M N A → IndicesDiffer (app M S) (app N T) (kind_pi A K)
    later_differs : {M N : Term} {S T : Spine} {A : LfType} {K : Kind} → IndicesDiffer S T K → IndicesDiffer (app M S) (app N T) (kind_pi A K)

  -- so it is with the first of the equations, which has no local variables
  abbrev pub FirstDiffers : List Equation → Type 0
  FirstDiffers [] = ⊥
  FirstDiffers (e ∷ es) = (e.local ≡ []) × Differs e.left e.right e.of_type

-- the equation of a pair, with p for the variables of the clause
abbrev pub equation_at : (ℕ → AppliedHead) → Pair → Equation
equation_at p q = equation_between (open_term_of q.left) (with_applied p (term_of q.right.now)) (type_of q.ty.now)

-- the equations of the pairs, in order
abbrev pub equations_at : (ℕ → AppliedHead) → List Pair → List Equation
equations_at p qs = map (equation_at p) qs

-- Pairs were added behind those that were there; or constants differ; or it isn't seen.
pub record Adds (old new : List Pair) (Apart : ((ℕ → AppliedHead) → List Equation) → Type 0) : Type 0 where
  pub added : List Pair
  pub behind : new ≡ followed old added
  pub apart : Apart (λ p. equations_at p added)

abbrev pub WentBeside : Went → List Pair → List Pair → (((ℕ → AppliedHead) → List Equation) → Type 0) → Type 0 → Type 0
WentBeside On old new Apart Differ = Adds old new Apart
WentBeside Clash old new Apart Differ = Differ
WentBeside Away old new Apart Differ = Unit {0}

-- the same of two rows that a kind takes, of two rows of arguments that a type takes, and of two terms, whatever stands for the variables of the clause
abbrev pub IndicesWent : Signature → List Binding → Spine → Spine → Kind → List Pair → List Pair → Went → Type 0
IndicesWent Σ bs S T K old new w = WentBeside w old new (λ es. (p : ℕ → AppliedHead) → IndicesComeApart Σ bs p S T K (es p)) ((p : ℕ → AppliedHead) → IndicesDiffer Σ bs S (spine_with_applied p T) K)

abbrev pub RowWent : Signature → List Binding → Spine → Spine → LfType → List Pair → List Pair → Went → Type 0
RowWent Σ bs S T B old new w = WentBeside w old new (λ es. (p : ℕ → AppliedHead) → RowComesApart Σ bs p S T B (es p)) ((p : ℕ → AppliedHead) → RowDiffers Σ bs S (spine_with_applied p T) B)

abbrev pub TermWent : Signature → List Binding → Term → Term → LfType → List Pair → List Pair → Went → Type 0
TermWent Σ bs M N A old new w = WentBeside w old new (λ es. (p : ℕ → AppliedHead) → ComesApart Σ bs p M N A (es p)) ((p : ℕ → AppliedHead) → Differs Σ bs M (with_applied p N) A)

-- each left side mentions only metavariables of V
abbrev pub LeftsIn : (ℕ → Type 0) → List Equation → Type 0
LeftsIn V [] = Unit {0}
LeftsIn V (e ∷ es) = MetavariablesIn V e.left × LeftsIn V es
