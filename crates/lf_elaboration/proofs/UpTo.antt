-- Typing up to a set of fillings, where the types of metavariables have skeletons: what is put together of typed parts is typed.
use Rattle.std.proofs.Common.{◌≡◌, ℕ, List, [], ◌∷◌, Option, Some, refl, sym, subst}
use Rattle.lf.specs.Eta.{add_last}
use Rattle.lf.specs.SkeletonTyping.{TermSkeleton, TypeBySkeletons}
use Rattle.lf.specs.Skeletons.{context_skeletons, family_skeletons}
use Rattle.lf.specs.Substitution.{Image, lift, reduce, single, substitute_kind, substitute_type}
use Rattle.lf.specs.Syntax.{Kind, LfType, Skeleton, Spine, Term, app, kind_pi, lift_renaming, metavariable, nil, pi, rename, rename_kind, rename_type, skeleton, star}
use Rattle.lf.specs.Typing.{HasType, IsKind, IsSignature, IsType, Signature, TypeAt, instantiate_kind, instantiate_type}
use Rattle.lf.specs.Variables.{onto}
use Rattle.lf.proofs.Closed.{closed_kind_renamed, closed_type_renamed}
use Rattle.lf.proofs.Renaming.{Puts, Puts-lift, Puts-single}
use Rattle.lf_unification.specs.Offering.{pi_over, raised}
use Rattle.lf_unification.specs.OpenTyping.{OpenHasType, OpenIsContext, OpenIsType, OpenSpineFitsKind, skeletons_of, weaken_past}
use Rattle.lf_unification.specs.PartialInstance.{PartialInstance}
use Rattle.lf_unification.specs.Patterns.{beyond, local_skeletons}
use Rattle.lf_unification.specs.Skeletons.{TotalSkeletons, as_head_skeletons, total_skeletons}
use Rattle.lf_unification.proofs.Generic.{open_skeletons_type}
use Rattle.lf_unification.proofs.OfferForm.{into_locals, lf_open, lf_open_type}
use Rattle.lf_unification.proofs.OfferTyped.{open_body}
use Rattle.lf_unification.proofs.OpenEta.{Into, Into-lift_renaming, OpenHasType-rename, OpenIsType-rename, context_types, expand_open}
use Rattle.lf_unification.proofs.OpenRenamingBack.{AllSkeletonsUpTo, SkeletonsUpTo, raise_moved}
use Rattle.lf_unification.proofs.OpenSound.{OpenHasType-by_skeletons, skeletons_under}
use Rattle.lf_unification.proofs.Raise.{expand_pis, local_skeleton_fill}
use Rattle.lf_unification.proofs.StepTyping.{closed_term}
use Rattle.lf_unification.proofs.SubstitutionUpTo.{ContextBySkeletons, KindBySkeletonsAt, OpenSubstitutes, Reduces, instance_typed, lift_sub, reduction_typed, single_sub, type_substituted}
use Rattle.lf_elaboration.specs.Kinds.{OpenIsKind}
use Rattle.lf_elaboration.proofs.Skeletons.{from_empty}

module _ (Σ : Signature) (ok : IsSignature Σ) (Ψ : ℕ → Option LfType) (U : (ℕ → Option Term) → Type 0) (half : (β : ℕ → Option Term) → U β → (F : List LfType) × PartialInstance Σ [] Ψ (λ m. ⊥) F β) (declared : (m : ℕ) (B : LfType) → Ψ m ≡ Some B → TypeBySkeletons (family_skeletons Σ) (as_head_skeletons (total_skeletons Σ (skeletons_of Ψ))) [] B) where
  abbrev μ : ℕ → Skeleton
  μ = skeletons_of Ψ

  abbrev κ : TotalSkeletons
  κ = total_skeletons Σ (skeletons_of Ψ)

  abbrev φ : ℕ → Option Skeleton
  φ = family_skeletons Σ

  -- what is typed up to U has skeletons at each filling
  abbrev pub SU : (β : ℕ → Option Term) → U β → SkeletonsUpTo Σ ok [] Ψ U β
  SU β u = let (F, w) = half β u in record {
    free = F;
    values = skeletons_under Σ ok [] Ψ U (λ k. ⊥) F β w [];
    terms = λ D M X t. subst (λ Γ. TermSkeleton (as_head_skeletons (total_skeletons Σ (skeletons_of Ψ))) Γ M (skeleton X)) (local_skeleton_fill (skeletons_of Ψ) β D F) (OpenHasType-by_skeletons Σ ok [] Ψ U (λ k. ⊥) F β w D M X t);
  }

  pub MS : (D : List LfType) (m : ℕ) (B : LfType) → Ψ m ≡ Some B → AllSkeletonsUpTo Σ ok [] Ψ U SU D (weaken_past D B)
  MS D m B e β u = subst (TypeBySkeletons φ (as_head_skeletons κ) (local_skeletons D (context_skeletons (SU β u).free))) (sym (raise_moved Σ ok [] Ψ U D B)) (from_empty φ (as_head_skeletons κ) (local_skeletons D (context_skeletons (SU β u).free)) (beyond D) B (declared m B e))

  pub all_of : (D : List LfType) (X : LfType) → OpenIsType Σ [] Ψ U D X → AllSkeletonsUpTo Σ ok [] Ψ U SU D X
  all_of D X t β u = open_skeletons_type Σ μ ok Ψ U D (context_skeletons (SU β u).free) X t

  pub types_in : (D : List LfType) → OpenIsContext Σ [] Ψ U D → (i : ℕ) (X : LfType) → TypeAt (onto D []) i X → OpenIsType Σ [] Ψ U D X
  types_in D l = context_types Σ ok [] Ψ U D l (λ i X g. absurd g)

  pub in_context : (D : List LfType) → OpenIsContext Σ [] Ψ U D → ContextBySkeletons Σ ok Ψ U SU MS D
  in_context D l i X g = all_of D X (types_in D l i X g)

  pub close_over : (D : List LfType) (A : LfType) → OpenIsContext Σ [] Ψ U D → OpenIsType Σ [] Ψ U D A → OpenIsType Σ [] Ψ U [] (pi_over D A)
  close_over [] A l a = a
  close_over (B ∷ D) A (l, b) a = close_over D (pi B A) l (b, a)

  -- a type of the empty context, inside the local one
  pub type_moved : (D : List LfType) (A : LfType) → OpenIsType Σ [] Ψ U [] A → OpenIsType Σ [] Ψ U D (weaken_past D A)
  type_moved D A a = subst (OpenIsType Σ [] Ψ U D) (sym (raise_moved Σ ok [] Ψ U D A)) (OpenIsType-rename Σ ok [] Ψ U [] D (beyond D) A (into_locals Σ ok Ψ U D) a)

  pub closed_type_open : (D : List LfType) (A : LfType) → IsType Σ [] A → OpenIsType Σ [] Ψ U D A
  closed_type_open D A a = subst (OpenIsType Σ [] Ψ U D) (closed_type_renamed Σ (beyond D) A a) (OpenIsType-rename Σ ok [] Ψ U [] D (beyond D) A (into_locals Σ ok Ψ U D) (lf_open_type Σ ok Ψ U [] A a))

  pub closed_term_open : (D : List LfType) (N : Term) (A : LfType) → IsType Σ [] A → HasType Σ [] N A → OpenHasType Σ [] Ψ U D N A
  closed_term_open D N A a n =
      let n' : OpenHasType Σ [] Ψ U [] N A = lf_open Σ ok Ψ U [] N A n in
      subst (λ M. OpenHasType Σ [] Ψ U D M A) (closed_term Σ Ψ U [] (beyond D) (λ i X g. absurd g) N A n')
      (subst (OpenHasType Σ [] Ψ U D (rename (beyond D) N)) (closed_type_renamed Σ (beyond D) A a) (OpenHasType-rename Σ ok [] Ψ U [] D (beyond D) N A (into_locals Σ ok Ψ U D) n'))

  -- a metavariable at the local variables
  pub raised_typed : (D : List LfType) (A : LfType) (n : ℕ) → Ψ n ≡ Some (pi_over D A) → OpenHasType Σ [] Ψ U D (raised D A n) A
  raised_typed D A n e = open_body Σ Ψ U D (raised D A n) A (subst (λ M. OpenHasType Σ [] Ψ U [] M (pi_over D A)) (expand_pis D A n)
      (expand_open Σ ok [] Ψ U (skeleton (pi_over D A)) [] [] (metavariable n) nil (pi_over D A) (pi_over D A) refl (declared n (pi_over D A) e) (pi_over D A, e, refl) refl))

  -- Kinds.
  lf_open_kind : (D : List LfType) (K : Kind) → IsKind Σ (onto D []) K → OpenIsKind Σ Ψ U D K
  lf_open_kind D (kind_pi A K) (a, k) = (lf_open_type Σ ok Ψ U D A a, lf_open_kind (A ∷ D) K k)
  lf_open_kind D star k = k

  pub kind_renamed : (D D' : List LfType) (ρ : ℕ → ℕ) (K : Kind) → Into Σ ok [] Ψ U D D' ρ → OpenIsKind Σ Ψ U D K → OpenIsKind Σ Ψ U D' (rename_kind ρ K)
  kind_renamed D D' ρ (kind_pi A K) w (a, k) = (OpenIsType-rename Σ ok [] Ψ U D D' ρ A w a, kind_renamed (A ∷ D) (rename_type ρ A ∷ D') (lift_renaming ρ) K (Into-lift_renaming Σ ok [] Ψ U D D' ρ A w) k)
  kind_renamed D D' ρ star w k = k

  pub closed_kind_open : (D : List LfType) (K : Kind) → IsKind Σ [] K → OpenIsKind Σ Ψ U D K
  closed_kind_open D K k = subst (OpenIsKind Σ Ψ U D) (closed_kind_renamed Σ (beyond D) K k) (kind_renamed [] D (beyond D) K (into_locals Σ ok Ψ U D) (lf_open_kind [] K k))

  pub kind_skeletons_at : (D : List LfType) (K : Kind) → OpenIsKind Σ Ψ U D K → KindBySkeletonsAt Σ ok Ψ U SU MS D K
  kind_skeletons_at D (kind_pi A K) (a, k) β u = (all_of D A a β u, kind_skeletons_at (A ∷ D) K k β u)
  kind_skeletons_at D star k β u = tt

  kind_substituted : (D E : List LfType) (σ : ℕ → Image) (K : Kind) → Puts (Reduces Σ ok Ψ U SU MS) σ → OpenSubstitutes Σ ok Ψ U SU MS D E σ → OpenIsKind Σ Ψ U D K → OpenIsKind Σ Ψ U E (substitute_kind reduce σ K)
  kind_substituted D E σ (kind_pi A K) p w (a, k) = (type_substituted Σ ok Ψ U SU MS D E σ A p w (all_of D A a) a, kind_substituted (A ∷ D) (substitute_type reduce σ A ∷ E) (lift σ) K (Puts-lift (Reduces Σ ok Ψ U SU MS) σ p) (lift_sub Σ ok Ψ U SU MS D E σ A w (all_of D A a)) k)
  kind_substituted D E σ star p w k = k

  -- the rest of a kind with an argument put in
  pub kind_instance_typed : (D : List LfType) (A : LfType) (M : Term) (K : Kind) → OpenIsContext Σ [] Ψ U D → OpenIsKind Σ Ψ U D (kind_pi A K) → OpenHasType Σ [] Ψ U D M A → OpenIsKind Σ Ψ U D (instantiate_kind A M K)
  kind_instance_typed D A M K l (a, k) m = kind_substituted (A ∷ D) D (single (skeleton A) M) K (Puts-single (Reduces Σ ok Ψ U SU MS) (skeleton A) M (reduction_typed Σ ok Ψ U SU MS (skeleton A))) (single_sub Σ ok Ψ U SU MS D A M (in_context D l) (all_of D A a) m) k

  -- the codomain of a type with an argument put in
  pub codomain_typed : (D : List LfType) (A : LfType) (M : Term) (B : LfType) → OpenIsContext Σ [] Ψ U D → OpenIsType Σ [] Ψ U D (pi A B) → OpenHasType Σ [] Ψ U D M A → OpenIsType Σ [] Ψ U D (instantiate_type A M B)
  codomain_typed D A M B l (a, b) m = instance_typed Σ ok Ψ U SU MS D A M B (in_context D l) (all_of D (pi A B) (a, b)) m b

  -- a spine that takes a kind exactly to another
  abbrev pub KindExact : List LfType → Spine → Kind → Kind → Type 0
  KindExact D nil K L = K ≡ L
  KindExact D (app M S) (kind_pi A K) L = OpenHasType Σ [] Ψ U D M A × KindExact D S (instantiate_kind A M K) L
  KindExact D (app M S) star L = ⊥

  pub kind_exact_fits : (D : List LfType) (S : Spine) (K : Kind) → KindExact D S K star → OpenSpineFitsKind Σ [] Ψ U D S K
  kind_exact_fits D nil K e = subst (OpenSpineFitsKind Σ [] Ψ U D nil) (sym e) tt
  kind_exact_fits D (app M S) (kind_pi A K) (m, s) = (m, kind_exact_fits D S (instantiate_kind A M K) s)
  kind_exact_fits D (app M S) star s = s

  pub kind_exact_add : (D : List LfType) (S : Spine) (Q : Term) (K : Kind) (A : LfType) (L : Kind) → KindExact D S K (kind_pi A L) → OpenHasType Σ [] Ψ U D Q A → KindExact D (add_last S Q) K (instantiate_kind A Q L)
  kind_exact_add D nil Q K A L e q = subst (λ X. KindExact D (app Q nil) X (instantiate_kind A Q L)) (sym e) (q, refl)
  kind_exact_add D (app M S) Q (kind_pi B K) A L (m, s) q = (m, kind_exact_add D S Q (instantiate_kind B M K) A L s q)
  kind_exact_add D (app M S) Q star A L s q = absurd s
