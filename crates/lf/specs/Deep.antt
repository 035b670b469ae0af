-- Terms above a limit of depth that stand in a derivation of hereditary substitution.
use Rattle.std.specs.Prelude.{◌≡◌, ℕ, ◌<◌, ◌⊎◌}
use Rattle.lf.specs.Syntax.{constant, variable, metavariable, Term, Spine, lambda, root, LfType, Kind, pi, atom, kind_pi, star, Skeleton}
use Rattle.lf.specs.Substitution.{Image, put}
use Rattle.lf.specs.Depth.{depth, type_depth, kind_depth}
use Rattle.lf.specs.Rules.{Substitutes, SubstitutesSpine, Reduces, SubstitutesType, SubstitutesKind, inside_lambda, at_constant, at_metavariable, at_keep, at_put, none, more, stop, beta, inside_pi, at_atom, inside_kind_pi, at_star}

-- a term that σ puts in is deeper than the limit
abbrev pub PutsDeep : ℕ → (ℕ → Image) → Type 0
PutsDeep limit σ = (i : ℕ) × (a : Skeleton) × (N : Term) × (σ i ≡ put a N) × (limit < depth N)

-- of the judgement that σ takes M to M', with more above it: M, M' or a term put in is deeper than the limit, or there is one above
abbrev pub DeepStep : ℕ → (ℕ → Image) → Term → Term → Type 0 → Type 0
DeepStep limit σ M M' above = (limit < depth M) ⊎ (limit < depth M') ⊎ PutsDeep limit σ ⊎ above

-- A term of the derivation is deeper than the limit: the subject, the result or a term put in of one of its judgements.
-- An argument of a spine is the subject of a judgement of its own.
abbrev mutual
  pub HasDeep : ℕ → {σ : ℕ → Image} {M M' : Term} → Substitutes σ M M' → Type 0
  HasDeep limit (inside_lambda {σ = σ} {M = M} {M' = M'} d) = DeepStep limit σ (lambda M) (lambda M') (HasDeep limit d)
  HasDeep limit (at_constant {σ = σ} {c = c} {S = S} {S' = S'} d) = DeepStep limit σ (root (constant c) S) (root (constant c) S') (SpineHasDeep limit d)
  HasDeep limit (at_metavariable {σ = σ} {m = m} {S = S} {S' = S'} d) = DeepStep limit σ (root (metavariable m) S) (root (metavariable m) S') (SpineHasDeep limit d)
  HasDeep limit (at_keep {σ = σ} {i = i} {j = j} {S = S} {S' = S'} e d) = DeepStep limit σ (root (variable i) S) (root (variable j) S') (SpineHasDeep limit d)
  HasDeep limit (at_put {σ = σ} {i = i} {M' = M'} {S = S} e d r) = DeepStep limit σ (root (variable i) S) M' (SpineHasDeep limit d ⊎ ReductionHasDeep limit r)

  -- one of the arguments' derivations has one
  pub SpineHasDeep : ℕ → {σ : ℕ → Image} {S S' : Spine} → SubstitutesSpine σ S S' → Type 0
  SpineHasDeep limit none = ⊥
  SpineHasDeep limit (more d f) = HasDeep limit d ⊎ SpineHasDeep limit f

  -- the term applied, an argument, or the result
  pub ReductionHasDeep : ℕ → {a : Skeleton} {N R : Term} {S : Spine} → Reduces a N S R → Type 0
  ReductionHasDeep limit (stop {h = h} {S = S}) = limit < depth (root h S)
  ReductionHasDeep limit (beta {M = M} {N = N} {R = R} d r) = (limit < depth (lambda M)) ⊎ (limit < depth N) ⊎ (limit < depth R) ⊎ HasDeep limit d ⊎ ReductionHasDeep limit r

-- a type or kind counts as a term
abbrev pub TypeHasDeep : ℕ → {σ : ℕ → Image} {A A' : LfType} → SubstitutesType σ A A' → Type 0
TypeHasDeep limit (inside_pi {σ = σ} {A = A} {A' = A'} {B = B} {B' = B'} d f) = (limit < type_depth (pi A B)) ⊎ (limit < type_depth (pi A' B')) ⊎ PutsDeep limit σ ⊎ TypeHasDeep limit d ⊎ TypeHasDeep limit f
TypeHasDeep limit (at_atom {σ = σ} {a = a} {S = S} {S' = S'} d) = (limit < type_depth (atom a S)) ⊎ (limit < type_depth (atom a S')) ⊎ PutsDeep limit σ ⊎ SpineHasDeep limit d

-- the same of kinds
abbrev pub KindHasDeep : ℕ → {σ : ℕ → Image} {K K' : Kind} → SubstitutesKind σ K K' → Type 0
KindHasDeep limit (inside_kind_pi {σ = σ} {A = A} {A' = A'} {K = K} {K' = K'} d f) = (limit < kind_depth (kind_pi A K)) ⊎ (limit < kind_depth (kind_pi A' K')) ⊎ PutsDeep limit σ ⊎ TypeHasDeep limit d ⊎ KindHasDeep limit f
KindHasDeep limit (at_star {σ = σ}) = (limit < kind_depth star) ⊎ PutsDeep limit σ

-- There is a derivation from these terms with a term deeper than the limit.
abbrev pub DeepSubstitution : ℕ → (ℕ → Image) → Term → Type 0
DeepSubstitution limit σ M = (R : Term) × (d : Substitutes σ M R) × HasDeep limit d

-- the same of spines, applied terms, types and kinds
abbrev pub DeepSpineSubstitution : ℕ → (ℕ → Image) → Spine → Type 0
DeepSpineSubstitution limit σ S = (R : Spine) × (d : SubstitutesSpine σ S R) × SpineHasDeep limit d

abbrev pub DeepReduction : ℕ → Skeleton → Term → Spine → Type 0
DeepReduction limit a N S = (R : Term) × (d : Reduces a N S R) × ReductionHasDeep limit d

abbrev pub DeepTypeSubstitution : ℕ → (ℕ → Image) → LfType → Type 0
DeepTypeSubstitution limit σ A = (B : LfType) × (d : SubstitutesType σ A B) × TypeHasDeep limit d

abbrev pub DeepKindSubstitution : ℕ → (ℕ → Image) → Kind → Type 0
DeepKindSubstitution limit σ K = (L : Kind) × (d : SubstitutesKind σ K L) × KindHasDeep limit d
