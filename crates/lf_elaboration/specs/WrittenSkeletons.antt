-- What is written has a skeleton. This is all that elaboration asks of it.
use Rattle.std.specs.Prelude.{◌≡◌, ℕ, zero, suc, List, [], ◌∷◌, Option, Some, None, slice_get}
use Rattle.lf.specs.Entries.{Body, Entry, declare_constant, declare_definition, declare_family, entry, signature_of}
use Rattle.lf.specs.SkeletonTyping.{SkeletonAt}
use Rattle.lf.specs.Syntax.{Kind, LfType, Skeleton, arrow as arrow_skeleton, base, kind_skeleton, skeleton}
use Rattle.lf_elaboration.specs.Skeletons.{LocalHasSkeletons, StateHasSkeletons}
use Rattle.lf_elaboration.specs.State.{State}
use Rattle.lf_elaboration.specs.Written.{Written, WrittenDomain, WrittenKind, WrittenType, applied, arrow, ascribed, bound, declared, family, family_applied, family_ascribed, free, function, hole, kind_arrow, kind_quantified, of_skeleton, of_type, quantified, type_hole, written_star}

-- what is left of a skeleton after its first k arguments
abbrev pub LeavesSkeleton : ℕ → Skeleton → Skeleton → Type 0
LeavesSkeleton zero t u = t ≡ u
LeavesSkeleton (suc k) (arrow_skeleton a b) u = LeavesSkeleton k b u
LeavesSkeleton (suc k) (base c) u = ⊥

-- the type of a name in a term
abbrev pub type_in_terms : Body → Option LfType
type_in_terms (declare_family K) = None
type_in_terms (declare_constant B) = Some B
type_in_terms (declare_definition N B b) = Some B

abbrev pub IsArrow : Skeleton → Type 0
IsArrow (arrow_skeleton a b) = Unit {0}
IsArrow (base c) = ⊥

module _ (es : List Entry) where
  -- each family of the skeleton is declared
  abbrev pub SkeletonIsDeclared : Skeleton → Type 0
  SkeletonIsDeclared (base a) = (K : Kind) × ((signature_of es).kinds a ≡ Some K)
  SkeletonIsDeclared (arrow_skeleton t u) = SkeletonIsDeclared t × SkeletonIsDeclared u

  -- of each skeleton of a list
  abbrev pub AllDeclared : List Skeleton → Type 0
  AllDeclared [] = Unit {0}
  AllDeclared (t ∷ ts) = SkeletonIsDeclared t × AllDeclared ts

-- `frees` are the skeletons of the free variables, and Γ those of the variables in scope
module _ (es : List Entry) (frees : List Skeleton) where
  -- a name without its implicit arguments, in a term
  abbrev pub NameHasSkeleton : ℕ → Skeleton → Type 0
  NameHasSkeleton c t = (e : Entry) × (B : LfType) × (entry es c ≡ Some e) × (type_in_terms e.body ≡ Some B) × LeavesSkeleton e.implicit (skeleton B) t

  -- and in a type
  abbrev pub FamilyNameLeaves : ℕ → Skeleton → Type 0
  FamilyNameLeaves a t = (e : Entry) × (K : Kind) × (entry es a ≡ Some e) × (e.body ≡ declare_family K) × LeavesSkeleton e.implicit (kind_skeleton a K) t

  abbrev mutual
    pub WrittenHasSkeleton : List Skeleton → Written → Skeleton → Type 0
    WrittenHasSkeleton Γ (free i at) t = slice_get frees i ≡ Some t
    WrittenHasSkeleton Γ (bound i) t = SkeletonAt Γ i t
    WrittenHasSkeleton Γ (declared c at) t = NameHasSkeleton c t
    WrittenHasSkeleton Γ (hole u at) t = (u ≡ t) × SkeletonIsDeclared es u
    WrittenHasSkeleton Γ (function d M) (arrow_skeleton a b) = DomainHasSkeleton Γ d a × WrittenHasSkeleton (a ∷ Γ) M b
    WrittenHasSkeleton Γ (function d M) (base c) = ⊥
    WrittenHasSkeleton Γ (applied M P) t = (a : Skeleton) × WrittenHasSkeleton Γ M (arrow_skeleton a t) × WrittenHasSkeleton Γ P a
    WrittenHasSkeleton Γ (ascribed M U) t = WrittenTypeHasSkeleton Γ U t × WrittenHasSkeleton Γ M t

    pub DomainHasSkeleton : List Skeleton → WrittenDomain → Skeleton → Type 0
    DomainHasSkeleton Γ (of_skeleton u at) t = (u ≡ t) × SkeletonIsDeclared es u
    DomainHasSkeleton Γ (of_type U) t = WrittenTypeHasSkeleton Γ U t

    pub WrittenTypeHasSkeleton : List Skeleton → WrittenType → Skeleton → Type 0
    WrittenTypeHasSkeleton Γ (type_hole u at) t = (u ≡ t) × SkeletonIsDeclared es u
    WrittenTypeHasSkeleton Γ (arrow U V) (arrow_skeleton a b) = WrittenTypeHasSkeleton Γ U a × WrittenTypeHasSkeleton Γ V b
    WrittenTypeHasSkeleton Γ (arrow U V) (base c) = ⊥
    WrittenTypeHasSkeleton Γ (quantified d V) (arrow_skeleton a b) = DomainHasSkeleton Γ d a × WrittenTypeHasSkeleton (a ∷ Γ) V b
    WrittenTypeHasSkeleton Γ (quantified d V) (base c) = ⊥
    WrittenTypeHasSkeleton Γ (family c at) (arrow_skeleton a b) = ⊥
    WrittenTypeHasSkeleton Γ (family c at) (base a) = (c ≡ a) × FamilyNameLeaves c (base a)
    WrittenTypeHasSkeleton Γ (family_applied U P) (arrow_skeleton a b) = ⊥
    WrittenTypeHasSkeleton Γ (family_applied U P) (base a) = (x : Skeleton) × FamilyHasSkeleton Γ U a (arrow_skeleton x (base a)) × WrittenHasSkeleton Γ P x
    WrittenTypeHasSkeleton Γ (family_ascribed U written_star) t = WrittenTypeHasSkeleton Γ U t
    WrittenTypeHasSkeleton Γ (family_ascribed U k) t = ⊥

    -- family a on arguments, which leave this of the skeleton of its kind
    pub FamilyHasSkeleton : List Skeleton → WrittenType → ℕ → Skeleton → Type 0
    FamilyHasSkeleton Γ (family c at) a t = (c ≡ a) × FamilyNameLeaves c t
    FamilyHasSkeleton Γ (family_applied U P) a t = (x : Skeleton) × FamilyHasSkeleton Γ U a (arrow_skeleton x t) × WrittenHasSkeleton Γ P x
    FamilyHasSkeleton Γ (family_ascribed U k) a t = KindHasSkeleton Γ k a t × FamilyHasSkeleton Γ U a t × IsArrow t
    FamilyHasSkeleton Γ U a t = ⊥

    pub KindHasSkeleton : List Skeleton → WrittenKind → ℕ → Skeleton → Type 0
    KindHasSkeleton Γ written_star a t = (t ≡ base a)
    KindHasSkeleton Γ (kind_arrow U k) a (arrow_skeleton x y) = WrittenTypeHasSkeleton Γ U x × KindHasSkeleton Γ k a y
    KindHasSkeleton Γ (kind_arrow U k) a (base c) = ⊥
    KindHasSkeleton Γ (kind_quantified d k) a (arrow_skeleton x y) = DomainHasSkeleton Γ d x × KindHasSkeleton (x ∷ Γ) k a y
    KindHasSkeleton Γ (kind_quantified d k) a (base c) = ⊥

  -- The free variables stand at these numbers, with their skeletons.
  pub record FreesStand (numbers : List ℕ) (Ψ : ℕ → Option LfType) : Type 0 where
    pub each : (i : ℕ) (t : Skeleton) → slice_get frees i ≡ Some t → (m : ℕ) × (B : LfType) × (slice_get numbers i ≡ Some m) × (Ψ m ≡ Some B) × (skeleton B ≡ t)
    pub only : (i m : ℕ) → slice_get numbers i ≡ Some m → (B : LfType) × (Ψ m ≡ Some B) × (slice_get frees i ≡ Some (skeleton B))

  -- A state that elaboration may go on from, in a local context.
  pub record Stands (numbers : List ℕ) (s : State) (D : List LfType) : Type 0 where
    pub state : StateHasSkeletons (signature_of es) s
    pub local : LocalHasSkeletons (signature_of es) s D
    pub free_variables : FreesStand numbers s.metavariables
