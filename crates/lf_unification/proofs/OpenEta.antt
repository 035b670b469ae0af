-- Up to U: weakening, the eta-long variable, and a pattern of variables that have the types of the quantifiers; so what a pruned
-- metavariable is bound to has its type.
use Rattle.std.proofs.Common.{◌≡◌, ℕ, zero, suc, List, [], ◌∷◌, Option, Some, refl, sym, ap, ◌∙◌, subst}
use mathlib.Core.Path.{fun_ext}
use Rattle.lf.specs.Eta.{eta_expand, add_last}
use Rattle.lf.specs.Substitution.{reduce, single, substitute_kind, substitute_type}
use Rattle.lf.specs.SkeletonTyping.{TypeBySkeletons}
use Rattle.lf.specs.Skeletons.{family_skeletons}
use Rattle.lf.specs.Syntax.{Head, Kind, Skeleton, Spine, Term, LfType, app, arrow, atom, base, constant, lambda, metavariable, nil, pi, rename, rename_head, rename_kind, rename_spine, rename_type, kind_pi, root, skeleton, star, lift_renaming, variable, weaken}
use Rattle.lf.specs.Typing.{TypeAt, IsSignature, Signature, instantiate_kind, instantiate_type}
use Rattle.lf.specs.Variables.{onto}
use Rattle.lf_unification.specs.Filling.{fill_type}
use Rattle.lf_unification.specs.OpenTyping.{OpenHeadHasType, OpenIsContext, OpenIsType, OpenSpineFitsKind, OpenSpineType, OpenHasType, skeletons_of, weaken_past, under_locals}
use Rattle.lf_unification.specs.Patterns.{beyond, local_skeletons}
use Rattle.lf_unification.specs.Patterns.{PatternFits, eta_variable, extend_renaming, lambdas_of, past, pattern, pattern_renaming}
use Rattle.lf_unification.specs.Skeletons.{TotalSkeletons, as_head_skeletons, total_skeletons}
use Rattle.lf.proofs.Closed.{closed_kind_renamed, closed_type_renamed}
use Rattle.lf.specs.SkeletonTyping.{RenamingBySkeletons}
use Rattle.lf.proofs.SkeletonTypes.{renaming_keeps_types_by_skeletons}
use Rattle.lf.proofs.Strength.{rename_instance}
use Rattle.lf.proofs.TypeLaws.{rename_single_kind, renamings_compose_type, rename_weakened, skeleton_renamed}
use Rattle.lf_unification.proofs.BindTyped.{open_lambdas}
use Rattle.lf_unification.proofs.Eta.{argument_by_skeletons, rename_id_type}
use Rattle.lf_unification.proofs.EtaInversion.{arguments_over, goal_of}
use Rattle.lf_unification.proofs.EtaTyped.{substituted_argument_type, substituted_self_type}
use Rattle.lf_unification.proofs.OpenRenamingBack.{fill_moved, raise_moved}
use Rattle.lf_unification.proofs.Patterns.{past_rename}
use Rattle.lf_unification.proofs.StepLemmas.{beyond_skeletons}

module _ (Σ : Signature) (ok : IsSignature Σ) (G : List LfType) (Ψ : ℕ → Option LfType) (U : (ℕ → Option Term) → Type 0) where
  abbrev μ : ℕ → Skeleton
  μ = skeletons_of Ψ

  abbrev κ : TotalSkeletons
  κ = total_skeletons Σ μ

  abbrev φ : ℕ → Option Skeleton
  φ = family_skeletons Σ

  -- ρ renames D into D', over the outer context
  pub record Into (D D' : List LfType) (ρ : ℕ → ℕ) : Type 0 where
    pub outer : (i : ℕ) → ρ (beyond D i) ≡ beyond D' i
    pub types : (i : ℕ) (A : LfType) → TypeAt (onto D G) i A → TypeAt (onto D' G) (ρ i) (rename_type ρ A)

  pub Into-lift_renaming : (D D' : List LfType) (ρ : ℕ → ℕ) (B : LfType) → Into D D' ρ → Into (B ∷ D) (rename_type ρ B ∷ D') (lift_renaming ρ)
  Into-lift_renaming D D' ρ B w = record { outer = λ i. ap suc (w.outer i); types = go }
    where
      go : (i : ℕ) (A : LfType) → TypeAt (B ∷ onto D G) i A → TypeAt (rename_type ρ B ∷ onto D' G) (lift_renaming ρ i) (rename_type (lift_renaming ρ) A)
      go zero A e = ap (rename_type (lift_renaming ρ)) e ∙ rename_weakened ρ B
      go (suc i) A (C, g, e) = (rename_type ρ C, w.types i C g, ap (rename_type (lift_renaming ρ)) e ∙ rename_weakened ρ C)

  pub Into-weak : (D : List LfType) (B : LfType) → Into D (B ∷ D) suc
  Into-weak D B = record { outer = λ i. refl; types = λ i A g. (A, g, refl) }

  raise_rename : (D D' : List LfType) (ρ : ℕ → ℕ) (B : LfType) → ((i : ℕ) → ρ (beyond D i) ≡ beyond D' i) → rename_type ρ (weaken_past D B) ≡ weaken_past D' B
  raise_rename D D' ρ B h = ap (rename_type ρ) (raise_moved Σ ok G Ψ U D B) ∙ renamings_compose_type ρ (beyond D) B ∙ ap (λ f. rename_type f B) (fun_ext h) ∙ sym (raise_moved Σ ok G Ψ U D' B)

  mutual
    pub OpenHasType-rename : (D D' : List LfType) (ρ : ℕ → ℕ) (M : Term) (A : LfType) → Into D D' ρ → OpenHasType Σ G Ψ U D M A → OpenHasType Σ G Ψ U D' (rename ρ M) (rename_type ρ A)
    OpenHasType-rename D D' ρ (lambda M) (pi A B) w m = OpenHasType-rename (A ∷ D) (rename_type ρ A ∷ D') (lift_renaming ρ) M B (Into-lift_renaming D D' ρ A w) m
    OpenHasType-rename D D' ρ (lambda M) (atom a T) w m = m
    OpenHasType-rename D D' ρ (root h S) (pi A B) w m = m
    OpenHasType-rename D D' ρ (root (constant c) S) (atom a T) w (A, g, s) = (rename_type ρ A, subst (λ X. Σ.types c ≡ Some X) (sym (closed_type_renamed Σ ρ A (ok.types_ok c A g))) g, OpenSpineType-rename D D' ρ S A (atom a T) w s)
    OpenHasType-rename D D' ρ (root (variable i) S) (atom a T) w (A, g, s) = (rename_type ρ A, w.types i A g, OpenSpineType-rename D D' ρ S A (atom a T) w s)
    OpenHasType-rename D D' ρ (root (metavariable m) S) (atom a T) w (A, (B, g, e), s) = (rename_type ρ A, (B, g, ap (rename_type ρ) e ∙ raise_rename D D' ρ B w.outer), OpenSpineType-rename D D' ρ S A (atom a T) w s)

    OpenSpineType-rename : (D D' : List LfType) (ρ : ℕ → ℕ) (S : Spine) (A C : LfType) → Into D D' ρ → OpenSpineType Σ G Ψ U D S A C → OpenSpineType Σ G Ψ U D' (rename_spine ρ S) (rename_type ρ A) (rename_type ρ C)
    OpenSpineType-rename D D' ρ nil A C w (e, f) = (skeleton_renamed ρ A ∙ e ∙ sym (skeleton_renamed ρ C), λ β u. fill_moved Σ ok G Ψ U D D' ρ β w.outer A ∙ ap (rename_type ρ) (f β u) ∙ sym (fill_moved Σ ok G Ψ U D D' ρ β w.outer C))
    OpenSpineType-rename D D' ρ (app M S) (pi A B) C w (m, s) = (OpenHasType-rename D D' ρ M A w m, subst (λ X. OpenSpineType Σ G Ψ U D' (rename_spine ρ S) X (rename_type ρ C)) (rename_instance ρ A M B) (OpenSpineType-rename D D' ρ S (instantiate_type A M B) C w s))
    OpenSpineType-rename D D' ρ (app M S) (atom a T) C w s = s

  OpenSpineFitsKind-rename : (D D' : List LfType) (ρ : ℕ → ℕ) (S : Spine) (K : Kind) → Into D D' ρ → OpenSpineFitsKind Σ G Ψ U D S K → OpenSpineFitsKind Σ G Ψ U D' (rename_spine ρ S) (rename_kind ρ K)
  OpenSpineFitsKind-rename D D' ρ nil (kind_pi A K) w s = absurd s
  OpenSpineFitsKind-rename D D' ρ nil star w s = tt
  OpenSpineFitsKind-rename D D' ρ (app M S) (kind_pi A K) w (m, s) = (OpenHasType-rename D D' ρ M A w m, subst (OpenSpineFitsKind Σ G Ψ U D' (rename_spine ρ S)) (rename_single_kind ρ (skeleton A) M K ∙ ap (λ t. substitute_kind reduce (single t (rename ρ M)) (rename_kind (lift_renaming ρ) K)) (sym (skeleton_renamed ρ A))) (OpenSpineFitsKind-rename D D' ρ S (instantiate_kind A M K) w s))
  OpenSpineFitsKind-rename D D' ρ (app M S) star w s = absurd s

  pub OpenIsType-rename : (D D' : List LfType) (ρ : ℕ → ℕ) (A : LfType) → Into D D' ρ → OpenIsType Σ G Ψ U D A → OpenIsType Σ G Ψ U D' (rename_type ρ A)
  OpenIsType-rename D D' ρ (pi A B) w (a, b) = (OpenIsType-rename D D' ρ A w a, OpenIsType-rename (A ∷ D) (rename_type ρ A ∷ D') (lift_renaming ρ) B (Into-lift_renaming D D' ρ A w) b)
  OpenIsType-rename D D' ρ (atom a S) w (K, e, s) = (K, e, subst (OpenSpineFitsKind Σ G Ψ U D' (rename_spine ρ S)) (closed_kind_renamed Σ ρ K (ok.kinds_ok a K e)) (OpenSpineFitsKind-rename D D' ρ S K w s))

  -- the types of a typed context are types in it
  pub context_types : (D : List LfType) → OpenIsContext Σ G Ψ U D → ((i : ℕ) (X : LfType) → TypeAt G i X → OpenIsType Σ G Ψ U [] X) → (i : ℕ) (X : LfType) → TypeAt (onto D G) i X → OpenIsType Σ G Ψ U D X
  context_types [] l o i X g = o i X g
  context_types (B ∷ D) (l, b) o zero X e = subst (OpenIsType Σ G Ψ U (B ∷ D)) (sym e) (OpenIsType-rename D (B ∷ D) suc B (Into-weak D B) b)
  context_types (B ∷ D) (l, b) o (suc i) X (C, g, e) = subst (OpenIsType Σ G Ψ U (B ∷ D)) (sym e) (OpenIsType-rename D (B ∷ D) suc C (Into-weak D B) (context_types D l o i C g))

  -- a spine that takes A exactly to C
  abbrev pub Exact : List LfType → Spine → LfType → LfType → Type 0
  Exact D nil A C = A ≡ C
  Exact D (app M S) (pi A B) C = OpenHasType Σ G Ψ U D M A × Exact D S (instantiate_type A M B) C
  Exact D (app M S) (atom a T) C = ⊥

  pub exact_open : (D : List LfType) (S : Spine) (A C : LfType) → Exact D S A C → OpenSpineType Σ G Ψ U D S A C
  exact_open D nil A C e = (ap skeleton e, λ β u. ap (fill_type μ (under_locals D β)) e)
  exact_open D (app M S) (pi A B) C (m, s) = (m, exact_open D S (instantiate_type A M B) C s)
  exact_open D (app M S) (atom a T) C s = s

  exact_rename : (D D' : List LfType) (ρ : ℕ → ℕ) (S : Spine) (A C : LfType) → Into D D' ρ → Exact D S A C → Exact D' (rename_spine ρ S) (rename_type ρ A) (rename_type ρ C)
  exact_rename D D' ρ nil A C w e = ap (rename_type ρ) e
  exact_rename D D' ρ (app M S) (pi A B) C w (m, s) = (OpenHasType-rename D D' ρ M A w m, subst (λ X. Exact D' (rename_spine ρ S) X (rename_type ρ C)) (rename_instance ρ A M B) (exact_rename D D' ρ S (instantiate_type A M B) C w s))
  exact_rename D D' ρ (app M S) (atom a T) C w s = s

  exact_add : (D : List LfType) (S : Spine) (N : Term) (A B C : LfType) → Exact D S A (pi B C) → OpenHasType Σ G Ψ U D N B → Exact D (add_last S N) A (instantiate_type B N C)
  exact_add D nil N A B C e n = subst (λ X. Exact D (app N nil) X (instantiate_type B N C)) (sym e) (n, refl)
  exact_add D (app M S) N (pi A A') B C (m, s) n = (m, exact_add D S N (instantiate_type A M A') B C s n)
  exact_add D (app M S) N (atom a T) B C s n = absurd s

  head_up : (D : List LfType) (B : LfType) (h : Head) (H : LfType) → OpenHeadHasType Σ G Ψ U D h H → OpenHeadHasType Σ G Ψ U (B ∷ D) (rename_head suc h) (weaken H)
  head_up D B (constant c) H e = subst (λ X. Σ.types c ≡ Some X) (sym (closed_type_renamed Σ suc H (ok.types_ok c H e))) e
  head_up D B (variable i) H g = (H, g, refl)
  head_up D B (metavariable m) H (X, g, e) = (X, g, ap weaken e)

  pub expand_open : (t : Skeleton) (D : List LfType) (Γ : List Skeleton) (h : Head) (S : Spine) (H A : LfType) → t ≡ skeleton A → TypeBySkeletons φ (as_head_skeletons κ) Γ A → OpenHeadHasType Σ G Ψ U D h H → Exact D S H A → OpenHasType Σ G Ψ U D (eta_expand t h S) A
  expand_open (base c) D Γ h S H (pi B C) e k g s = cc
  expand_open (base c) D Γ (constant d) S H (atom a T) e k g s = (H, g, exact_open D S H (atom a T) s)
  expand_open (base c) D Γ (variable d) S H (atom a T) e k g s = (H, g, exact_open D S H (atom a T) s)
  expand_open (base c) D Γ (metavariable d) S H (atom a T) e k g s = (H, g, exact_open D S H (atom a T) s)
  expand_open (arrow b d) D Γ h S H (atom a T) e k g s = cc
  expand_open (arrow b d) D Γ h S H (pi B C) e (kb, kc) g s =
      let p : b ≡ skeleton B = cc in
      let q : d ≡ skeleton C = cc in
      let Γ' : List Skeleton = (skeleton B ∷ Γ) in
      let zero_ok : OpenHasType Σ G Ψ U (B ∷ D) (eta_variable b zero) (weaken B) = expand_open b (B ∷ D) Γ' (variable zero) nil (weaken B) (weaken B) (p ∙ sym (skeleton_renamed suc B)) (renaming_keeps_types_by_skeletons φ (as_head_skeletons κ) Γ Γ' suc B (λ i t g. g) kb) refl refl in
      let s' : Exact (B ∷ D) (add_last (rename_spine suc S) (eta_variable b zero)) (weaken H) (instantiate_type (weaken B) (eta_variable b zero) (rename_type (lift_renaming suc) C))
      = exact_add (B ∷ D) (rename_spine suc S) (eta_variable b zero) (weaken H) (weaken B) (rename_type (lift_renaming suc) C) (exact_rename D (B ∷ D) suc S H (pi B C) (Into-weak D B) s) zero_ok in
      let r : instantiate_type (weaken B) (eta_variable b zero) (rename_type (lift_renaming suc) C) ≡ C
      = ap (λ t. substitute_type reduce (single t (eta_variable b zero)) (rename_type (lift_renaming suc) C)) (skeleton_renamed suc B ∙ sym p) ∙ substituted_self_type φ (as_head_skeletons κ) b Γ C (subst (λ t. TypeBySkeletons φ (as_head_skeletons κ) (t ∷ Γ) C) (sym p) kc) in
      expand_open d (B ∷ D) Γ' (rename_head suc h) (add_last (rename_spine suc S) (eta_variable b zero)) (weaken H) C q kc (head_up D B h H g) (subst (Exact (B ∷ D) (add_last (rename_spine suc S) (eta_variable b zero)) (weaken H)) r s')

  -- what stands outside the quantifiers of A, seen from inside them
  past_at : (D : List LfType) (A : LfType) (i : ℕ) (Y : LfType) → TypeAt (onto D []) i Y → TypeAt (onto (arguments_over D A) []) (past (skeleton A) i) (rename_type (past (skeleton A)) Y)
  past_at D (atom a T) i Y g = subst (TypeAt (onto D []) i) (sym (rename_id_type Y)) g
  past_at D (pi A B) i Y g = subst (TypeAt (onto (arguments_over (A ∷ D) B) []) (past (skeleton B) (suc i))) (renamings_compose_type (past (skeleton B)) suc Y) (past_at (A ∷ D) B (suc i) (weaken Y) (Y, g, refl))

  -- The variables zs of D have the types of A's quantifiers, moved there.
  pub pattern_open : (A : LfType) (D D₀ : List LfType) (τ : ℕ → ℕ) (zs : List ℕ) (Γ Δ : List Skeleton) → TypeBySkeletons φ (as_head_skeletons κ) Γ A → RenamingBySkeletons Γ Δ τ → PatternFits Δ (skeleton A) zs →
      ((i : ℕ) (Y : LfType) → TypeAt (onto (arguments_over D₀ A) []) i Y → TypeAt (onto D G) (pattern_renaming (skeleton A) zs τ i) (rename_type (pattern_renaming (skeleton A) zs τ) Y)) →
      Exact D (pattern (skeleton A) zs) (rename_type τ A) (rename_type (pattern_renaming (skeleton A) zs τ) (goal_of A))
  pattern_open (atom a T) D D₀ τ zs Γ Δ k g p h = refl
  pattern_open (pi A B) D D₀ τ [] Γ Δ k g p h = absurd p
  pattern_open (pi A B) D D₀ τ (x ∷ zs) Γ Δ (ka, kb) g (e, p) h =
      let ρ : ℕ → ℕ = pattern_renaming (skeleton B) zs (extend_renaming x τ) in
      let at₀ : TypeAt (onto D G) (ρ (past (skeleton B) zero)) (rename_type ρ (rename_type (past (skeleton B)) (weaken A))) = h (past (skeleton B) zero) (rename_type (past (skeleton B)) (weaken A)) (past_at (A ∷ D₀) B zero (weaken A) refl) in
      let of_type : rename_type ρ (rename_type (past (skeleton B)) (weaken A)) ≡ rename_type τ A = renamings_compose_type ρ (past (skeleton B)) (weaken A) ∙ ap (λ f. rename_type f (weaken A)) (fun_ext (λ i. past_rename Δ (skeleton B) zs (extend_renaming x τ) i p)) ∙ renamings_compose_type (extend_renaming x τ) suc A in
      let at : TypeAt (onto D G) x (rename_type τ A) = subst (λ k. TypeAt (onto D G) k (rename_type τ A)) (past_rename Δ (skeleton B) zs (extend_renaming x τ) zero p) (subst (TypeAt (onto D G) (ρ (past (skeleton B) zero))) of_type at₀) in
      let m : OpenHasType Σ G Ψ U D (eta_variable (skeleton A) x) (rename_type τ A) = expand_open (skeleton A) D Δ (variable x) nil (rename_type τ A) (rename_type τ A) (sym (skeleton_renamed τ A)) (renaming_keeps_types_by_skeletons φ (as_head_skeletons κ) Γ Δ τ A g ka) at refl in
      let q : instantiate_type (rename_type τ A) (eta_variable (skeleton A) x) (rename_type (lift_renaming τ) B) ≡ rename_type (extend_renaming x τ) B
      = ap (λ a. substitute_type reduce (single a (eta_variable (skeleton A) x)) (rename_type (lift_renaming τ) B)) (skeleton_renamed τ A) ∙ substituted_argument_type φ (as_head_skeletons κ) (skeleton A) x τ Γ Δ B g e kb in
      (m, subst (λ X. Exact D (pattern (skeleton B) zs) X (rename_type ρ (goal_of B))) (sym q) (pattern_open B D (A ∷ D₀) (extend_renaming x τ) zs (skeleton A ∷ Γ) Δ kb g' p h))
    where
      g' : RenamingBySkeletons (skeleton A ∷ Γ) Δ (extend_renaming x τ)
      g' = argument_by_skeletons (skeleton A) x τ Γ Δ g e

  goal_atom : (A : LfType) → (a : ℕ) × (T : Spine) × (goal_of A ≡ atom a T)
  goal_atom (pi A B) = goal_atom B
  goal_atom (atom a T) = (a, T, refl)

  -- THE theorem: the binding of a pruned metavariable, of type A, to the new one n', of type X, is typed
  pub pruned_typed : (A X : LfType) (n' : ℕ) (zs : List ℕ) (Γ : List Skeleton) → Ψ n' ≡ Some X → TypeBySkeletons φ (as_head_skeletons κ) Γ X → PatternFits (local_skeletons (arguments_over [] A) Γ) (skeleton X) zs →
      ((i : ℕ) (Y : LfType) → TypeAt (onto (arguments_over [] X) []) i Y → TypeAt (onto (arguments_over [] A) G) (pattern_renaming (skeleton X) zs (beyond (arguments_over [] A)) i) (rename_type (pattern_renaming (skeleton X) zs (beyond (arguments_over [] A))) Y)) →
      rename_type (pattern_renaming (skeleton X) zs (beyond (arguments_over [] A))) (goal_of X) ≡ goal_of A →
      OpenHasType Σ G Ψ U [] (lambdas_of (skeleton A) (root (metavariable n') (pattern (skeleton X) zs))) A
  pruned_typed A X n' zs Γ d k p h e =
      let D : List LfType = arguments_over [] A in
      let (a, T, q) = goal_atom A in
      let s : Exact D (pattern (skeleton X) zs) (rename_type (beyond D) X) (rename_type (pattern_renaming (skeleton X) zs (beyond D)) (goal_of X)) = pattern_open X D [] (beyond D) zs Γ (local_skeletons D Γ) k (beyond_skeletons D Γ) p h in
      let s' : Exact D (pattern (skeleton X) zs) (weaken_past D X) (atom a T) = subst (λ Z. Exact D (pattern (skeleton X) zs) Z (atom a T)) (sym (raise_moved Σ ok G Ψ U D X)) (subst (Exact D (pattern (skeleton X) zs) (rename_type (beyond D) X)) (e ∙ q) s) in
      open_lambdas Σ ok G Ψ U [] A (root (metavariable n') (pattern (skeleton X) zs)) (subst (OpenHasType Σ G Ψ U D (root (metavariable n') (pattern (skeleton X) zs))) (sym q) (weaken_past D X, (X, d, refl), exact_open D (pattern (skeleton X) zs) (weaken_past D X) (atom a T) s'))
