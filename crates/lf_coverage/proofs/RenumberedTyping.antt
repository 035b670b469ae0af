-- Typing goes along with new numbers for metavariables: of LF, by skeletons, and up to a set of fillings.
use Rattle.std.proofs.Common.{◌≡◌, ℕ, zero, suc, List, [], ◌∷◌, refl, sym, ap, ap₂, ◌∙◌, subst}
use Rattle.std.specs.Prelude.{Option, Some, None}
use Rattle.std.specs.Option.{option_map}
use Rattle.lf.specs.SkeletonTyping.{HeadSkeletons, HeadSkeleton, TermSkeleton, SpineSkeleton, TypeBySkeletons}
use Rattle.lf.specs.Skeletons.{context_skeletons}
use Rattle.lf.specs.Syntax.{Head, constant, variable, metavariable, Term, Spine, lambda, root, nil, app, LfType, Kind, pi, atom, kind_pi, star, Skeleton, base, arrow, skeleton, weaken}
use Rattle.lf.specs.Typing.{Signature, IsSignature, TypeAt, HeadHasType, HasType, SpineType, SpineFitsKind, IsType, IsContext, instantiate_type, instantiate_kind}
use Rattle.lf.specs.Variables.{onto}
use Rattle.lf_unification.specs.OpenTyping.{DeclarationsAreTyped, MetavariablesIn, MetavariablesInSpine, MetavariablesInType, OpenHasType, OpenHeadHasType, OpenIsType, OpenSpineFitsKind, OpenSpineType, TypesAgree, skeletons_of, under_locals}
use Rattle.lf_unification.specs.Patterns.{local_skeletons}
use Rattle.lf_unification.specs.Unifiers.{Binding, BindingsAreTyped}
use Rattle.lf_unification.proofs.Scope.{MetavariablesInKind, in_typed_type, in_typed_kind}
use Rattle.lf_coverage.specs.Renumbering.{Renumbering, renumbered_head, renumbered, renumbered_spine, renumbered_type, renumbered_locals, renumbered_bindings, renumbered_types}
use Rattle.lf_coverage.proofs.RenumberedBack.{declared_at, skeleton_at}
use Rattle.lf_coverage.proofs.RenumberedSyntax.{Follows, composed, composed_type, filled_type, follows_locals, identical, identical_type, instantiated, instantiated_kind, renamed_type, renumbered_kind, skeleton_renumbered, weakened_past}

-- the same numbers where the functions agree
module _ (f g : ℕ → ℕ) where
  pub agreeing : (M : Term) → MetavariablesIn (λ m. f m ≡ g m) M → renumbered f M ≡ renumbered g M
  agreeing M v = ap (renumbered f) (sym (identical M)) ∙ composed f (λ m. m) g M v

  pub agreeing_type : (A : LfType) → MetavariablesInType (λ m. f m ≡ g m) A → renumbered_type f A ≡ renumbered_type g A
  agreeing_type A v = ap (renumbered_type f) (sym (identical_type A)) ∙ composed_type f (λ m. m) g A v

module _ (V W : ℕ → Type 0) (f : ℕ → ℕ) (h : (m : ℕ) → V m → W (f m)) where
  mutual
    pub in_renumbered : (M : Term) → MetavariablesIn V M → MetavariablesIn W (renumbered f M)
    in_renumbered (lambda M) v = in_renumbered M v
    in_renumbered (root (constant c) S) v = in_renumbered_spine S v
    in_renumbered (root (variable c) S) v = in_renumbered_spine S v
    in_renumbered (root (metavariable m) S) (x, v) = (h m x, in_renumbered_spine S v)

    pub in_renumbered_spine : (S : Spine) → MetavariablesInSpine V S → MetavariablesInSpine W (renumbered_spine f S)
    in_renumbered_spine nil v = tt
    in_renumbered_spine (app M S) (v, w) = (in_renumbered M v, in_renumbered_spine S w)

  pub in_renumbered_type : (A : LfType) → MetavariablesInType V A → MetavariablesInType W (renumbered_type f A)
  in_renumbered_type (pi A B) (v, w) = (in_renumbered_type A v, in_renumbered_type B w)
  in_renumbered_type (atom a S) v = in_renumbered_spine S v

module _ (f : ℕ → ℕ) where
  pub plain_kind : (K : Kind) → MetavariablesInKind (λ m. f m ≡ m) K → renumbered_kind f K ≡ K
  plain_kind (kind_pi A K) (v, w) = ap₂ kind_pi (agreeing_type f (λ m. m) A v ∙ identical_type A) (plain_kind K w)
  plain_kind star v = refl

  pub type_at : (G : List LfType) (i : ℕ) (A : LfType) → TypeAt G i A → TypeAt (renumbered_locals f G) i (renumbered_type f A)
  type_at [] i A e = absurd e
  type_at (B ∷ G) zero A e = ap (renumbered_type f) e ∙ renamed_type f suc B
  type_at (B ∷ G) (suc i) A (C, h, e) = (renumbered_type f C, type_at G i C h, ap (renumbered_type f) e ∙ renamed_type f suc C)

  pub type_at_back : (G : List LfType) (i : ℕ) (A : LfType) → TypeAt (renumbered_locals f G) i A → (B : LfType) × TypeAt G i B × (renumbered_type f B ≡ A)
  type_at_back [] i A e = absurd e
  type_at_back (B ∷ G) zero A e = (weaken B, refl, renamed_type f suc B ∙ sym e)
  type_at_back (B ∷ G) (suc i) A (C, h, e) = let (X, k, q) = type_at_back G i C h in (weaken X, (X, k, refl), renamed_type f suc X ∙ ap weaken q ∙ sym e)

  pub onto_nothing : (D : List LfType) → onto (renumbered_locals f D) [] ≡ renumbered_locals f (onto D [])
  onto_nothing [] = refl
  onto_nothing (A ∷ D) = ap (λ E. renumbered_type f A ∷ E) (onto_nothing D)

  pub context_same : (F : List LfType) → context_skeletons (renumbered_locals f F) ≡ context_skeletons F
  context_same [] = refl
  context_same (A ∷ F) = ap₂ (λ a Γ. a ∷ Γ) (skeleton_renumbered f A) (context_same F)

  pub local_same : (D : List LfType) (Γ : List Skeleton) → local_skeletons (renumbered_locals f D) Γ ≡ local_skeletons D Γ
  local_same [] Γ = refl
  local_same (A ∷ D) Γ = ap₂ (λ a Γ. a ∷ Γ) (skeleton_renumbered f A) (local_same D Γ)

  -- of a typed signature
  module _ (Σ : Signature) (ok : IsSignature Σ) where
    pub constant_type : (c : ℕ) (A : LfType) → Σ.types c ≡ Some A → renumbered_type f A ≡ A
    constant_type c A e = agreeing_type f (λ m. m) A (in_typed_type (λ m. f m ≡ m) Σ [] A (ok.types_ok c A e)) ∙ identical_type A

    pub family_kind : (a : ℕ) (K : Kind) → Σ.kinds a ≡ Some K → renumbered_kind f K ≡ K
    family_kind a K e = plain_kind K (in_typed_kind (λ m. f m ≡ m) Σ [] K (ok.kinds_ok a K e))

    head_typed : (G : List LfType) (h : Head) (A : LfType) → HeadHasType Σ G h A → HeadHasType Σ (renumbered_locals f G) (renumbered_head f h) (renumbered_type f A)
    head_typed G (constant c) A e = e ∙ ap Some (sym (constant_type c A e))
    head_typed G (variable i) A e = type_at G i A e
    head_typed G (metavariable m) A e = e

    mutual
      pub typed : (G : List LfType) (M : Term) (A : LfType) → HasType Σ G M A → HasType Σ (renumbered_locals f G) (renumbered f M) (renumbered_type f A)
      typed G (lambda M) (pi A B) t = typed (A ∷ G) M B t
      typed G (lambda M) (atom a T) t = t
      typed G (root h S) (pi A B) t = t
      typed G (root h S) (atom a T) (A, k, s) = (renumbered_type f A, head_typed G h A k, typed_spine G S A (atom a T) s)

      typed_spine : (G : List LfType) (S : Spine) (A C : LfType) → SpineType Σ G S A C → SpineType Σ (renumbered_locals f G) (renumbered_spine f S) (renumbered_type f A) (renumbered_type f C)
      typed_spine G nil A C e = ap (renumbered_type f) e
      typed_spine G (app M S) (pi A B) C (m, s) = (typed G M A m, subst (λ X. SpineType Σ (renumbered_locals f G) (renumbered_spine f S) X (renumbered_type f C)) (instantiated f A M B) (typed_spine G S (instantiate_type A M B) C s))
      typed_spine G (app M S) (atom a T) C s = s

    fits_kind : (G : List LfType) (S : Spine) (K : Kind) → SpineFitsKind Σ G S K → SpineFitsKind Σ (renumbered_locals f G) (renumbered_spine f S) (renumbered_kind f K)
    fits_kind G nil (kind_pi A K) s = s
    fits_kind G nil star s = s
    fits_kind G (app M S) (kind_pi A K) (m, s) = (typed G M A m, subst (SpineFitsKind Σ (renumbered_locals f G) (renumbered_spine f S)) (instantiated_kind f A M K) (fits_kind G S (instantiate_kind A M K) s))
    fits_kind G (app M S) star s = s

    is_type : (G : List LfType) (A : LfType) → IsType Σ G A → IsType Σ (renumbered_locals f G) (renumbered_type f A)
    is_type G (pi A B) (a, b) = (is_type G A a, is_type (A ∷ G) B b)
    is_type G (atom a S) (K, e, s) = (K, e, subst (SpineFitsKind Σ (renumbered_locals f G) (renumbered_spine f S)) (family_kind a K e) (fits_kind G S K s))

    pub is_context : (G : List LfType) → IsContext Σ G → IsContext Σ (renumbered_locals f G)
    is_context [] c = c
    is_context (A ∷ G) (c, t) = (is_context G c, is_type G A t)

-- by skeletons
module _ (f : ℕ → ℕ) (κ κ' : HeadSkeletons) (constants : (c : ℕ) → κ'.constant_skeleton c ≡ κ.constant_skeleton c) (metavariables : (m : ℕ) → κ'.metavariable_skeleton (f m) ≡ κ.metavariable_skeleton m) where
  head_skeleton : (Γ : List Skeleton) (h : Head) (t : Skeleton) → HeadSkeleton κ Γ h t → HeadSkeleton κ' Γ (renumbered_head f h) t
  head_skeleton Γ (constant c) t e = constants c ∙ e
  head_skeleton Γ (variable i) t e = e
  head_skeleton Γ (metavariable m) t e = metavariables m ∙ e

  mutual
    pub term_skeleton : (Γ : List Skeleton) (M : Term) (t : Skeleton) → TermSkeleton κ Γ M t → TermSkeleton κ' Γ (renumbered f M) t
    term_skeleton Γ (lambda M) (arrow a b) h = term_skeleton (a ∷ Γ) M b h
    term_skeleton Γ (lambda M) (base c) h = h
    term_skeleton Γ (root h S) (arrow a b) k = k
    term_skeleton Γ (root h S) (base c) (t, k, s) = (t, head_skeleton Γ h t k, spine_skeleton Γ S t (base c) s)

    pub spine_skeleton : (Γ : List Skeleton) (S : Spine) (t u : Skeleton) → SpineSkeleton κ Γ S t u → SpineSkeleton κ' Γ (renumbered_spine f S) t u
    spine_skeleton Γ nil t u e = e
    spine_skeleton Γ (app M S) (arrow a b) u (m, s) = (term_skeleton Γ M a m, spine_skeleton Γ S b u s)
    spine_skeleton Γ (app M S) (base c) u s = s

  pub type_skeletons : (φ : ℕ → Option Skeleton) (Γ : List Skeleton) (A : LfType) → TypeBySkeletons φ κ Γ A → TypeBySkeletons φ κ' Γ (renumbered_type f A)
  type_skeletons φ Γ (pi A B) (a, b) = (type_skeletons φ Γ A a, subst (λ x. TypeBySkeletons φ κ' (x ∷ Γ) (renumbered_type f B)) (sym (skeleton_renumbered f A)) (type_skeletons φ (skeleton A ∷ Γ) B b))
  type_skeletons φ Γ (atom a S) (t, e, s) = (t, e, spine_skeleton Γ S t (base a) s)

-- what a renumbered declaration comes from
pub declared_back : (π : Renumbering) (Ψ : ℕ → Option LfType) (m : ℕ) (A : LfType) → renumbered_types π Ψ m ≡ Some A → (B : LfType) × (Ψ (π.back m) ≡ Some B) × (renumbered_type π.to B ≡ A)
declared_back π Ψ m A e = of (Ψ (π.back m)) refl e
  where
    of : (x : Option LfType) → Ψ (π.back m) ≡ x → option_map (renumbered_type π.to) x ≡ Some A → (B : LfType) × (Ψ (π.back m) ≡ Some B) × (renumbered_type π.to B ≡ A)
    of None q e = absurd cc
    of (Some B) q e = (B, q, cc)

-- up to a set of fillings, where each one of the second set follows one of the first
module _ (Σ : Signature) (ok : IsSignature Σ) (π : Renumbering) (Ψ : ℕ → Option LfType) (U V : (ℕ → Option Term) → Type 0) (follow : (γ : ℕ → Option Term) → V γ → (β : ℕ → Option Term) × U β × Follows π.to β γ) where
  abbrev f : ℕ → ℕ
  f = π.to

  abbrev Φ : ℕ → Option LfType
  Φ = renumbered_types π Ψ

  pub agree : (D : List LfType) (A C : LfType) → TypesAgree Σ [] Ψ U D A C → TypesAgree Σ [] Φ V (renumbered_locals f D) (renumbered_type f A) (renumbered_type f C)
  agree D A C (e, g) = (
    skeleton_renumbered f A ∙ e ∙ sym (skeleton_renumbered f C),
    λ γ v.
        let (β, u, h) = follow γ v in
        let k = follows_locals f D β γ h in
        sym (filled_type f (skeletons_of Ψ) (skeletons_of Φ) (skeleton_at π Ψ) (under_locals D β) (under_locals (renumbered_locals f D) γ) k A) ∙ ap (renumbered_type f) (g β u) ∙ filled_type f (skeletons_of Ψ) (skeletons_of Φ) (skeleton_at π Ψ) (under_locals D β) (under_locals (renumbered_locals f D) γ) k C,
  )

  pub open_head : (D : List LfType) (h : Head) (A : LfType) → OpenHeadHasType Σ [] Ψ U D h A → OpenHeadHasType Σ [] Φ V (renumbered_locals f D) (renumbered_head f h) (renumbered_type f A)
  open_head D (constant c) A e = e ∙ ap Some (sym (constant_type f Σ ok c A e))
  open_head D (variable i) A e = subst (λ E. TypeAt E i (renumbered_type f A)) (sym (onto_nothing f D)) (type_at f (onto D []) i A e)
  open_head D (metavariable m) A (B, e, q) = (renumbered_type f B, declared_at π Ψ m B e, ap (renumbered_type f) q ∙ weakened_past f D B)

  mutual
    pub open_typed : (D : List LfType) (M : Term) (A : LfType) → OpenHasType Σ [] Ψ U D M A → OpenHasType Σ [] Φ V (renumbered_locals f D) (renumbered f M) (renumbered_type f A)
    open_typed D (lambda M) (pi A B) t = open_typed (A ∷ D) M B t
    open_typed D (lambda M) (atom a T) t = t
    open_typed D (root h S) (pi A B) t = t
    open_typed D (root h S) (atom a T) (A, k, s) = (renumbered_type f A, open_head D h A k, open_spine D S A (atom a T) s)

    open_spine : (D : List LfType) (S : Spine) (A C : LfType) → OpenSpineType Σ [] Ψ U D S A C → OpenSpineType Σ [] Φ V (renumbered_locals f D) (renumbered_spine f S) (renumbered_type f A) (renumbered_type f C)
    open_spine D nil A C e = agree D A C e
    open_spine D (app M S) (pi A B) C (m, s) = (open_typed D M A m, subst (λ X. OpenSpineType Σ [] Φ V (renumbered_locals f D) (renumbered_spine f S) X (renumbered_type f C)) (instantiated f A M B) (open_spine D S (instantiate_type A M B) C s))
    open_spine D (app M S) (atom a T) C s = s

  open_fits_kind : (D : List LfType) (S : Spine) (K : Kind) → OpenSpineFitsKind Σ [] Ψ U D S K → OpenSpineFitsKind Σ [] Φ V (renumbered_locals f D) (renumbered_spine f S) (renumbered_kind f K)
  open_fits_kind D nil (kind_pi A K) s = s
  open_fits_kind D nil star s = s
  open_fits_kind D (app M S) (kind_pi A K) (m, s) = (open_typed D M A m, subst (OpenSpineFitsKind Σ [] Φ V (renumbered_locals f D) (renumbered_spine f S)) (instantiated_kind f A M K) (open_fits_kind D S (instantiate_kind A M K) s))
  open_fits_kind D (app M S) star s = s

  pub open_type : (D : List LfType) (A : LfType) → OpenIsType Σ [] Ψ U D A → OpenIsType Σ [] Φ V (renumbered_locals f D) (renumbered_type f A)
  open_type D (pi A B) (a, b) = (open_type D A a, open_type (A ∷ D) B b)
  open_type D (atom a S) (K, e, s) = (K, e, subst (OpenSpineFitsKind Σ [] Φ V (renumbered_locals f D) (renumbered_spine f S)) (family_kind f Σ ok a K e) (open_fits_kind D S K s))

  pub declarations : DeclarationsAreTyped Σ [] Ψ U → DeclarationsAreTyped Σ [] Φ V
  declarations d = record {
    outer_typed = λ i A h. absurd h;
    metavariables_typed = λ m A e. let (B, q, r) = declared_back π Ψ m A e in subst (OpenIsType Σ [] Φ V []) r (open_type [] B (d.metavariables_typed (π.back m) B q));
  }

  pub bindings_typed : (bs : List Binding) → BindingsAreTyped Σ [] Ψ U bs → BindingsAreTyped Σ [] Φ V (renumbered_bindings f bs)
  bindings_typed [] t = t
  bindings_typed (b ∷ bs) ((A, e, m), t) = ((renumbered_type f A, declared_at π Ψ b.of A e, open_typed [] b.value A m), bindings_typed bs t)
