-- The equations of arguments and of indices are typed, up to their own unifiers.
use Rattle.std.proofs.Common.{◌≡◌, ℕ, suc, List, [], Option, Some, sym, ap, ap₂, ◌∙◌, subst}
use Rattle.lf.specs.Substitution.{reduce, single}
use Rattle.lf.specs.SkeletonTyping.{KindBySkeletons, TermSkeleton, TypeBySkeletons}
use Rattle.lf.specs.Skeletons.{context_skeletons, family_skeletons}
use Rattle.lf.specs.Syntax.{Kind, Skeleton, Spine, Term, LfType, app, arrow, atom, kind_pi, nil, pi, skeleton, kind_skeleton, star}
use Rattle.lf.specs.Typing.{TypeAt, IsSignature, Signature, instantiate_kind, instantiate_type}
use Rattle.lf.specs.Variables.{onto}
use Rattle.lf_unification.specs.Filling.{fill, fill_type, moved}
use Rattle.lf_unification.specs.PartialInstance.{EquationsAreTyped, PartialInstance, LocalBySkeletonsUpTo, TypeBySkeletonsUpTo}
use Rattle.lf_unification.specs.OpenTyping.{OpenSpineFitsKind, DeclarationsAreTyped, OpenSpineType, OpenHasType, TypesAgree, skeletons_of, weaken_past, under_locals}
use Rattle.lf_unification.specs.Patterns.{local_skeletons}
use Rattle.lf_unification.specs.Offering.{argument_equations, spine_equations}
use Rattle.lf_unification.specs.Skeletons.{TotalSkeletons, as_head_skeletons, total_skeletons}
use Rattle.lf_unification.specs.Unifiers.{SolvesAll}
use Rattle.lf.proofs.SkeletonTypes.{single_kind_by_skeletons}
use Rattle.lf.proofs.ToSkeletons.{kind_skeleton_substituted}
use Rattle.lf_unification.proofs.Decompose.{OpenHasType-convert, Typed, arguments_typed}
use Rattle.lf_unification.proofs.Filling.{SkeletonsFill}
use Rattle.lf_unification.proofs.Fillings.{at_skeletons, next_skeletons}
use Rattle.lf_unification.proofs.OpenSound.{OpenHasType-by_skeletons, skeletons_metavariable, skeletons_under}
use Rattle.lf_unification.proofs.OpenTypes.{fill_instance_kind, fill_kind}
use Rattle.lf_unification.proofs.OpenRenamingBack.{AllSkeletonsUpTo, SkeletonsUpTo, values_under}
use Rattle.lf_unification.proofs.Raise.{local_skeleton_fill}

module _ (Σ : Signature) (ok : IsSignature Σ) (G : List LfType) (Ψ : ℕ → Option LfType) (U : (ℕ → Option Term) → Type 0) (declarations_typed : DeclarationsAreTyped Σ G Ψ U) (half : (β : ℕ → Option Term) → U β → (F : List LfType) × PartialInstance Σ G Ψ (λ m. ⊥) F β) (D : List LfType) (local_typed : LocalBySkeletonsUpTo Σ G Ψ U D) where
  abbrev μ : ℕ → Skeleton
  μ = skeletons_of Ψ

  abbrev κ : TotalSkeletons
  κ = total_skeletons Σ μ

  abbrev pub skeletons_U : (β : ℕ → Option Term) → U β → SkeletonsUpTo Σ ok G Ψ U β
  skeletons_U β u = let (F, w) = half β u in record {
    free = F;
    values = skeletons_under Σ ok G Ψ U (λ k. ⊥) F β w [];
    terms = λ D M X t. subst (λ Γ. TermSkeleton (as_head_skeletons κ) Γ M (skeleton X)) (local_skeleton_fill μ β D F) (OpenHasType-by_skeletons Σ ok G Ψ U (λ k. ⊥) F β w D M X t);
  }

  pub metavariables_skeletons : (D : List LfType) (m : ℕ) (B : LfType) → Ψ m ≡ Some B → AllSkeletonsUpTo Σ ok G Ψ U skeletons_U D (weaken_past D B)
  metavariables_skeletons D m B e β u = let (F, w) = half β u in subst (λ Γ. TypeBySkeletons (family_skeletons Σ) (as_head_skeletons κ) Γ (weaken_past D B)) (local_skeleton_fill μ β D F) (skeletons_metavariable Σ ok G Ψ U (λ k. ⊥) F β w declarations_typed u D m B e)

  pub here_skeletons : (i : ℕ) (X : LfType) → TypeAt (onto D G) i X → AllSkeletonsUpTo Σ ok G Ψ U skeletons_U D X
  here_skeletons i X g β u = at_skeletons Σ ok G Ψ U declarations_typed D local_typed i X g (half β u).0 β (half β u).1 u

  pub all_skeletons : (A : LfType) → TypeBySkeletonsUpTo Σ G Ψ U D A → AllSkeletonsUpTo Σ ok G Ψ U skeletons_U D A
  all_skeletons A a β u = a (half β u).0 β (half β u).1 u

  typed_skeletons : (X : LfType) (S T : Spine) → TypeBySkeletonsUpTo Σ G Ψ U D X → Typed Σ ok G Ψ U skeletons_U metavariables_skeletons D here_skeletons (argument_equations D X S T) → EquationsAreTyped Σ G Ψ U (argument_equations D X S T)
  typed_skeletons (pi A B) (app M S) (app N T) x (m, n, t) = (record { local_typed = local_typed; type_typed = λ F β w u. (x F β w u).0; left_typed = m; right_typed = n }, typed_skeletons (instantiate_type A M B) S T (next_skeletons Σ ok G Ψ U D A M B m x) t)
  typed_skeletons (pi A B) (app M S) nil x t = tt
  typed_skeletons (pi A B) nil T x t = tt
  typed_skeletons (atom a V) S T x t = tt

  -- THE theorem on equal heads: the spines are typed at types that agree at each filling
  pub arguments_ok : (X Y : LfType) (S T : Spine) (C C' : LfType) → TypeBySkeletonsUpTo Σ G Ψ U D X → TypeBySkeletonsUpTo Σ G Ψ U D Y → TypesAgree Σ G Ψ U D X Y → OpenSpineType Σ G Ψ U D S X C → OpenSpineType Σ G Ψ U D T Y C' → ((β : ℕ → Option Term) → U β → SolvesAll μ β (argument_equations D X S T)) → EquationsAreTyped Σ G Ψ U (argument_equations D X S T)
  arguments_ok X Y S T C C' x y s p q h = typed_skeletons X S T x (arguments_typed Σ ok G Ψ U skeletons_U metavariables_skeletons D here_skeletons X Y S T C C' (all_skeletons X x) (all_skeletons Y y) s p q h)

  -- kinds
  abbrev pub KindBySkeletonsUpTo : Kind → Type 0
  KindBySkeletonsUpTo K = (F : List LfType) (β : ℕ → Option Term) → PartialInstance Σ G Ψ (λ m. ⊥) F β → U β → KindBySkeletons (family_skeletons Σ) (as_head_skeletons κ) (local_skeletons D (context_skeletons F)) K

  abbrev pub KindsAgree : Kind → Kind → Type 0
  KindsAgree K L = (kind_skeleton 0 K ≡ kind_skeleton 0 L) × ((β : ℕ → Option Term) → U β → fill_kind μ (under_locals D β) K ≡ fill_kind μ (under_locals D β) L)

  next_kind_skeletons : (A : LfType) (M : Term) (K : Kind) → OpenHasType Σ G Ψ U D M A → KindBySkeletonsUpTo (kind_pi A K) → KindBySkeletonsUpTo (instantiate_kind A M K)
  next_kind_skeletons A M K m k F β w u = single_kind_by_skeletons (family_skeletons Σ) (as_head_skeletons κ) (skeleton A) (local_skeletons D (context_skeletons F)) M K (subst (λ Γ. TermSkeleton (as_head_skeletons κ) Γ M (skeleton A)) (local_skeleton_fill μ β D F) (OpenHasType-by_skeletons Σ ok G Ψ U (λ m. ⊥) F β w D M A m)) (k F β w u).1

  same_next_kind : (A X : LfType) (K L : Kind) (M N : Term) → KindBySkeletonsUpTo (kind_pi A K) → KindBySkeletonsUpTo (kind_pi X L) → OpenHasType Σ G Ψ U D M A → OpenHasType Σ G Ψ U D N X → KindsAgree (kind_pi A K) (kind_pi X L) → ((β : ℕ → Option Term) → U β → fill μ (under_locals D β) M ≡ fill μ (under_locals D β) N) → KindsAgree (instantiate_kind A M K) (instantiate_kind X N L)
  same_next_kind A X K L M N a x m n (e, f) h = (
    kind_skeleton_substituted 0 reduce (single (skeleton A) M) K ∙ (let q : kind_skeleton 0 K ≡ kind_skeleton 0 L = cc in q) ∙ sym (kind_skeleton_substituted 0 reduce (single (skeleton X) N) L),
    λ β u.
        let F : List LfType = (half β u).0 in
        let w : SkeletonsUpTo Σ ok G Ψ U β = skeletons_U β u in
        let Γ : List Skeleton = local_skeletons D (context_skeletons w.free) in
        let g : SkeletonsFill κ Γ (under_locals D β) = values_under Σ ok G Ψ U D β (context_skeletons w.free) w.values in
        let r : kind_pi (fill_type μ (under_locals D β) A) (fill_kind μ (moved suc (under_locals D β)) K) ≡ kind_pi (fill_type μ (under_locals D β) X) (fill_kind μ (moved suc (under_locals D β)) L) = f β u in
        let p : fill_type μ (under_locals D β) A ≡ fill_type μ (under_locals D β) X = cc in
        let q : fill_kind μ (moved suc (under_locals D β)) K ≡ fill_kind μ (moved suc (under_locals D β)) L = cc in
        fill_instance_kind κ (family_skeletons Σ) Γ (under_locals D β) A M K g (w.terms D M A m) (a (half β u).0 β (half β u).1 u).1
        ∙ ap (λ M. instantiate_kind (fill_type μ (under_locals D β) A) M (fill_kind μ (moved suc (under_locals D β)) K)) (h β u)
        ∙ ap₂ (λ z y. instantiate_kind z (fill μ (under_locals D β) N) y) p q
        ∙ sym (fill_instance_kind κ (family_skeletons Σ) Γ (under_locals D β) X N L g (w.terms D N X n) (x (half β u).0 β (half β u).1 u).1),
  )

  -- THE theorem on indices
  pub indices_ok : (K L : Kind) (S T : Spine) → KindBySkeletonsUpTo K → KindBySkeletonsUpTo L → KindsAgree K L → OpenSpineFitsKind Σ G Ψ U D S K → OpenSpineFitsKind Σ G Ψ U D T L → ((β : ℕ → Option Term) → U β → SolvesAll μ β (spine_equations D K S T)) → EquationsAreTyped Σ G Ψ U (spine_equations D K S T)
  indices_ok (kind_pi A K) (kind_pi X L) (app M S) (app N T) a x s (m, p) (n, q) h =
      let a₀ : TypeBySkeletonsUpTo Σ G Ψ U D A = λ F β w u. (a F β w u).0 in
      let x₀ : TypeBySkeletonsUpTo Σ G Ψ U D X = λ F β w u. (x F β w u).0 in
      let s₀ : TypesAgree Σ G Ψ U D A X = ((let e : arrow (skeleton A) (kind_skeleton 0 K) ≡ arrow (skeleton X) (kind_skeleton 0 L) = s.0 in let o : skeleton A ≡ skeleton X = cc in o), λ β u. let r : kind_pi (fill_type μ (under_locals D β) A) (fill_kind μ (moved suc (under_locals D β)) K) ≡ kind_pi (fill_type μ (under_locals D β) X) (fill_kind μ (moved suc (under_locals D β)) L) = s.1 β u in cc) in
      let n' : OpenHasType Σ G Ψ U D N A = OpenHasType-convert Σ ok G Ψ U skeletons_U metavariables_skeletons D here_skeletons N A X (all_skeletons A a₀) (all_skeletons X x₀) s₀ n in (
        record { local_typed = local_typed; type_typed = a₀; left_typed = m; right_typed = n' },
        indices_ok (instantiate_kind A M K) (instantiate_kind X N L) S T (next_kind_skeletons A M K m a) (next_kind_skeletons X N L n x) (same_next_kind A X K L M N a x m n s (λ β u. (h β u).0)) p q (λ β u. (h β u).1),
      )
  indices_ok (kind_pi A K) star (app M S) (app N T) a x s p q h = absurd q
  indices_ok (kind_pi A K) L (app M S) nil a x s p q h = tt
  indices_ok (kind_pi A K) L nil T a x s p q h = tt
  indices_ok star L S T a x s p q h = tt
