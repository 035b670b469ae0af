-- Terms above a limit of depth that the typing rules reach, arguments from left to right and up to the first fault. Where the
-- judgement holds this is its derivation. A type or kind counts as a term.
use Rattle.std.specs.Prelude.{◌≡◌, ℕ, ◌<◌, List, [], ◌∷◌, Some, ◌⊎◌}
use Rattle.lf.specs.Syntax.{Term, Spine, lambda, root, nil, app, LfType, Kind, pi, atom, kind_pi, star, skeleton}
use Rattle.lf.specs.Substitution.{single}
use Rattle.lf.specs.Typing.{Signature, HeadHasType, instantiate_type, instantiate_kind, HasType, IsType, IsContext}
use Rattle.lf.specs.Depth.{depth, type_depth, kind_depth}
use Rattle.lf.specs.Deep.{DeepTypeSubstitution, DeepKindSubstitution}

abbrev mutual
  -- of the judgement that the term has the type: one of the two, the type of the head, or what its arguments reach
  pub TypingReachesDeep : ℕ → Signature → List LfType → Term → LfType → Type 0
  TypingReachesDeep limit Σ G (lambda M) (pi A B) = (limit < depth (lambda M)) ⊎ (limit < type_depth (pi A B)) ⊎ TypingReachesDeep limit Σ (A ∷ G) M B
  TypingReachesDeep limit Σ G (lambda M) (atom a T) = (limit < depth (lambda M)) ⊎ (limit < type_depth (atom a T))
  TypingReachesDeep limit Σ G (root h S) (pi A B) = (limit < depth (root h S)) ⊎ (limit < type_depth (pi A B))
  TypingReachesDeep limit Σ G (root h S) (atom a T) = (limit < depth (root h S)) ⊎ (limit < type_depth (atom a T)) ⊎ ((A : LfType) × HeadHasType Σ G h A × SpineReachesDeep limit Σ G S A)

  -- the type that is left, an argument, or, where that is typed, its substitution and what comes after it
  pub SpineReachesDeep : ℕ → Signature → List LfType → Spine → LfType → Type 0
  SpineReachesDeep limit Σ G nil A = limit < type_depth A
  SpineReachesDeep limit Σ G (app M S) (pi A B) = (limit < type_depth (pi A B)) ⊎ TypingReachesDeep limit Σ G M A ⊎ (HasType Σ G M A × (DeepTypeSubstitution limit (single (skeleton A) M) B ⊎ SpineReachesDeep limit Σ G S (instantiate_type A M B)))
  SpineReachesDeep limit Σ G (app M S) (atom a T) = limit < type_depth (atom a T)

-- the same of a spine that takes a kind to `type`
abbrev pub KindSpineReachesDeep : ℕ → Signature → List LfType → Spine → Kind → Type 0
KindSpineReachesDeep limit Σ G nil K = limit < kind_depth K
KindSpineReachesDeep limit Σ G (app M S) (kind_pi A K) = (limit < kind_depth (kind_pi A K)) ⊎ TypingReachesDeep limit Σ G M A ⊎ (HasType Σ G M A × (DeepKindSubstitution limit (single (skeleton A) M) K ⊎ KindSpineReachesDeep limit Σ G S (instantiate_kind A M K)))
KindSpineReachesDeep limit Σ G (app M S) star = limit < kind_depth star

-- of the judgement that a type is one: the type, or what its parts reach, the second where the first is a type
abbrev pub TypeReachesDeep : ℕ → Signature → List LfType → LfType → Type 0
TypeReachesDeep limit Σ G (pi A B) = (limit < type_depth (pi A B)) ⊎ TypeReachesDeep limit Σ G A ⊎ (IsType Σ G A × TypeReachesDeep limit Σ (A ∷ G) B)
TypeReachesDeep limit Σ G (atom a S) = (limit < type_depth (atom a S)) ⊎ ((K : Kind) × (Σ.kinds a ≡ Some K) × KindSpineReachesDeep limit Σ G S K)

-- of the judgement that a kind is one
abbrev pub KindReachesDeep : ℕ → Signature → List LfType → Kind → Type 0
KindReachesDeep limit Σ G (kind_pi A K) = (limit < kind_depth (kind_pi A K)) ⊎ TypeReachesDeep limit Σ G A ⊎ (IsType Σ G A × KindReachesDeep limit Σ (A ∷ G) K)
KindReachesDeep limit Σ G star = limit < kind_depth star

-- the oldest type first
abbrev pub ContextReachesDeep : ℕ → Signature → List LfType → Type 0
ContextReachesDeep limit Σ [] = ⊥
ContextReachesDeep limit Σ (A ∷ G) = ContextReachesDeep limit Σ G ⊎ (IsContext Σ G × TypeReachesDeep limit Σ G A)
