-- What is put in, and then generalized, is filled.
use Rattle.std.proofs.Common.{◌≡◌, ℕ, suc, ◌+◌, List, [], ◌∷◌, Option, Some, refl, sym, ap, ap₂, ◌∙◌, subst, arith}
use mathlib.Core.Path.{fun_ext}
use Rattle.std.specs.Option.{option_map}
use Rattle.lf.specs.SkeletonTyping.{SpineSkeleton, TermSkeleton, TypeBySkeletons}
use Rattle.lf.specs.Subordination.{Member}
use Rattle.lf.specs.Substitution.{reduce}
use Rattle.lf.specs.Syntax.{Skeleton, Spine, Term, LfType, app, arrow, atom, base, constant, lambda, metavariable, nil, pi, rename, root, skeleton, variable}
use Rattle.lf.specs.Typing.{Signature}
use Rattle.lf.proofs.Eta.{reduction_eta, rename_eta_expand}
use Rattle.lf.proofs.Renaming.{renamings_compose}
use Rattle.lf.proofs.Rules.{rules_agree_reduction}
use Rattle.lf.proofs.SkeletonTyping.{reduction_keeps_skeletons, renaming_keeps_skeletons}
use Rattle.lf_unification.specs.Filling.{fill, fill_metavariable, fill_spine, fill_type, moved, rename_value}
use Rattle.lf_unification.specs.OpenTyping.{MetavariablesIn, MetavariablesInSpine, MetavariablesInType, skeletons_of, under_locals}
use Rattle.lf_unification.specs.Patterns.{eta_variable, local_skeletons}
use Rattle.lf_unification.specs.Putting.{PutsIn, PutsInSpine, PutsInType, Unbound, binders, put_at_bound, put_at_rigid, put_at_unbound, put_in_argument, put_in_atom, put_in_pi, put_nowhere, put_under_lambda}
use Rattle.lf_unification.specs.Rigid.{past_binders}
use Rattle.lf_unification.specs.Skeletons.{TotalSkeletons, as_head_skeletons, total_skeletons}
use Rattle.lf_unification.specs.Unifiers.{Binding}
use Rattle.lf_unification.proofs.Exhaust.{past_binders_zero}
use Rattle.lf_unification.proofs.Filling.{SkeletonsFill, SkeletonsFill-weak, SpineSkeleton-fill, reduced_fill}
use Rattle.lf_unification.proofs.Filling as filling
use Rattle.lf_unification.proofs.Scope.{in_reduced, in_rename}
use Rattle.tw_abstract.specs.Generalizing.{both, generalized, generalized_spine, generalized_type}

module _ (Σ : Signature) (Ψ : ℕ → Option LfType) (bs : List Binding) (V : ℕ → Type 0) (closed : (b : Binding) → Member b bs → V b.of → MetavariablesIn V b.value) (index : ℕ → Option ℕ) where
  abbrev μ : ℕ → Skeleton
  μ = skeletons_of Ψ

  abbrev κ : TotalSkeletons
  κ = total_skeletons Σ μ

  -- A filling under k binders: it respects the bindings of the metavariables in V, and the others are variables.
  pub record Ready (k : ℕ) (β : ℕ → Option Term) (Δ : List Skeleton) : Type 0 where
    pub values : SkeletonsFill κ Δ β
    pub bound : (b : Binding) → Member b bs → V b.of → (β b.of ≡ Some (fill μ β (rename (past_binders k) b.value))) × TermSkeleton (as_head_skeletons κ) Δ (rename (past_binders k) b.value) (μ b.of)
    pub free : (m : ℕ) → V m → Unbound bs m → (i : ℕ) × (index m ≡ Some i) × (β m ≡ Some (eta_variable (μ m) (k + i)))

  one_binder : (k : ℕ) (N : Term) → rename suc (rename (past_binders k) N) ≡ rename (past_binders (suc k)) N
  one_binder k N = renamings_compose suc (past_binders k) N ∙ ap (λ f. rename f N) (fun_ext (λ i. sym (past_binders_zero k i)))

  pub ready_under : (k : ℕ) (β : ℕ → Option Term) (Δ : List Skeleton) (a : Skeleton) → Ready k β Δ → Ready (suc k) (moved suc β) (a ∷ Δ)
  ready_under k β Δ a w = record { values = SkeletonsFill-weak κ a Δ β w.values; bound = go; free = variables }
    where
      go : (b : Binding) → Member b bs → V b.of → (moved suc β b.of ≡ Some (fill μ (moved suc β) (rename (past_binders (suc k)) b.value))) × TermSkeleton (as_head_skeletons κ) (a ∷ Δ) (rename (past_binders (suc k)) b.value) (μ b.of)
      go b i v = let (e, t) = w.bound b i v in (
        ap (rename_value suc) e ∙ ap Some (filling.fill_rename μ suc β (rename (past_binders k) b.value) ∙ ap (fill μ (moved suc β)) (one_binder k b.value)),
        subst (λ N. TermSkeleton (as_head_skeletons κ) (a ∷ Δ) N (μ b.of)) (one_binder k b.value) (renaming_keeps_skeletons (as_head_skeletons κ) Δ (a ∷ Δ) suc (rename (past_binders k) b.value) (μ b.of) (λ i t g. g) t),
      )

      variables : (m : ℕ) → V m → Unbound bs m → (i : ℕ) × (index m ≡ Some i) × (moved suc β m ≡ Some (eta_variable (μ m) (suc k + i)))
      variables m v u =
          let (i, e, q) = w.free m v u in
          let p : suc (k + i) ≡ suc k + i = omega arith in
          (i, e, ap (rename_value suc) q ∙ ap Some (rename_eta_expand suc (μ m) (variable (k + i)) nil) ∙ ap (λ x. Some (eta_variable (μ m) x)) p)

  -- what becomes of a term
  pub record Becomes (k : ℕ) (β : ℕ → Option Term) (Δ : List Skeleton) (M M' : Term) (t : Skeleton) : Type 0 where
    pub skeletons : TermSkeleton (as_head_skeletons κ) Δ M' t
    pub within : MetavariablesIn V M'
    pub same : fill μ β M ≡ fill μ β M'
    pub general : generalized index k M' ≡ Some (fill μ β M')

  pub record BecomesSpine (k : ℕ) (β : ℕ → Option Term) (Δ : List Skeleton) (S S' : Spine) (t u : Skeleton) : Type 0 where
    pub skeletons : SpineSkeleton (as_head_skeletons κ) Δ S' t u
    pub within : MetavariablesInSpine V S'
    pub same : fill_spine μ β S ≡ fill_spine μ β S'
    pub general : generalized_spine index k S' ≡ Some (fill_spine μ β S')

  some_is : {a t : Skeleton} → Some a ≡ Some t → a ≡ t
  some_is e = cc

  -- a free metavariable on filled arguments
  variable_on : (k : ℕ) (β : ℕ → Option Term) (Δ : List Skeleton) (m c : ℕ) (S : Spine) → Ready k β Δ → V m → Unbound bs m → SpineSkeleton (as_head_skeletons κ) Δ S (μ m) (base c) → generalized_spine index k S ≡ Some (fill_spine μ β S) → generalized index k (root (metavariable m) S) ≡ Some (fill μ β (root (metavariable m) S))
  variable_on k β Δ m c S w v u s g =
      let (i, e, q) = w.free m v u in
      let r : reduce (μ m) (eta_variable (μ m) (k + i)) (fill_spine μ β S) ≡ root (variable (k + i)) (fill_spine μ β S) = reduction_eta (as_head_skeletons κ) (μ m) Δ (variable (k + i)) (fill_spine μ β S) c (SpineSkeleton-fill κ Δ β S (μ m) (base c) w.values s) in
      ap₂ (both (λ h T. root h T)) (ap (option_map (λ j. variable (k + j))) e) g ∙ ap Some (sym r ∙ ap (λ X. fill_metavariable (μ m) m X (fill_spine μ β S)) (sym q))

  mutual
    pub put_general : {k : ℕ} {M M' : Term} → PutsIn Ψ bs k M M' → (β : ℕ → Option Term) (Δ : List Skeleton) (t : Skeleton) → Ready k β Δ → MetavariablesIn V M → TermSkeleton (as_head_skeletons κ) Δ M t → Becomes k β Δ M M' t
    put_general {k = k} (put_under_lambda d) β Δ (arrow a b) w v m =
        let r = put_general d (moved suc β) (a ∷ Δ) b (ready_under k β Δ a w) v m in
        record { skeletons = r.skeletons; within = r.within; same = ap lambda r.same; general = ap (option_map (λ N. lambda N)) r.general }
    put_general (put_under_lambda d) β Δ (base c) w v m = absurd m
    put_general (put_at_rigid h r d) β Δ (arrow a b) w v m = absurd m
    put_general (put_at_rigid (constant c) r d) β Δ (base n) w v (t, g, s) =
        let x = put_general_spine d β Δ t (base n) w v s in
        record { skeletons = (t, g, x.skeletons); within = x.within; same = ap (root (constant c)) x.same; general = ap (both (λ h T. root h T) (Some (constant c))) x.general }
    put_general (put_at_rigid (variable i) r d) β Δ (base n) w v (t, g, s) =
        let x = put_general_spine d β Δ t (base n) w v s in
        record { skeletons = (t, g, x.skeletons); within = x.within; same = ap (root (variable i)) x.same; general = ap (both (λ h T. root h T) (Some (variable i))) x.general }
    put_general (put_at_rigid (metavariable m) r d) β Δ (base n) w v (t, g, s) = absurd r
    put_general (put_at_unbound u d) β Δ (arrow a b) w v m = absurd m
    put_general {k = k} (put_at_unbound {m = m} {S' = S'} u d) β Δ (base n) w (v, vs) (t, g, s) =
        let x = put_general_spine d β Δ t (base n) w vs s in
        let y : SpineSkeleton (as_head_skeletons κ) Δ S' (μ m) (base n) = subst (λ z. SpineSkeleton (as_head_skeletons κ) Δ S' z (base n)) (sym (some_is g)) x.skeletons in
        record { skeletons = (t, g, x.skeletons); within = (v, x.within); same = ap (fill_metavariable (μ m) m (β m)) x.same; general = variable_on k β Δ m n S' w v u y x.general }
    put_general (put_at_bound b i d r e) β Δ (arrow a c) w v m = absurd m
    put_general {k = k} (put_at_bound {S = S} {S' = S'} {R = R} b i d r e) β Δ (base n) w (v, vs) (t, g, s) =
        let N : Term = rename (past_binders k) b.value in
        let (f, x) = w.bound b i v in
        let y = put_general_spine d β Δ (μ b.of) (base n) w vs (subst (λ z. SpineSkeleton (as_head_skeletons κ) Δ S z (base n)) (sym (some_is g)) s) in
        let q : R ≡ reduce (μ b.of) N S' = rules_agree_reduction r in
        let z : TermSkeleton (as_head_skeletons κ) Δ R (base n) = subst (λ X. TermSkeleton (as_head_skeletons κ) Δ X (base n)) (sym q) (reduction_keeps_skeletons (as_head_skeletons κ) (μ b.of) Δ N S' (base n) x y.skeletons) in
        let o : MetavariablesIn V R = subst (MetavariablesIn V) (sym q) (in_reduced V (μ b.of) N S' (in_rename V (past_binders k) b.value (closed b i v)) y.within) in
        let l = put_general e β Δ (base n) w o z in
        record {
          skeletons = l.skeletons;
          within = l.within;
          same = ap (λ X. fill_metavariable (μ b.of) b.of X (fill_spine μ β S)) f ∙ ap (reduce (μ b.of) (fill μ β N)) y.same ∙ sym (reduced_fill κ (μ b.of) Δ β N S' (base n) w.values x y.skeletons) ∙ ap (fill μ β) (sym q) ∙ l.same;
          general = l.general;
        }

    pub put_general_spine : {k : ℕ} {S S' : Spine} → PutsInSpine Ψ bs k S S' → (β : ℕ → Option Term) (Δ : List Skeleton) (t u : Skeleton) → Ready k β Δ → MetavariablesInSpine V S → SpineSkeleton (as_head_skeletons κ) Δ S t u → BecomesSpine k β Δ S S' t u
    put_general_spine put_nowhere β Δ t u w v s = record { skeletons = s; within = tt; same = refl; general = refl }
    put_general_spine (put_in_argument d e) β Δ (arrow a b) u w (v, vs) (m, s) =
        let x = put_general d β Δ a w v m in
        let y = put_general_spine e β Δ b u w vs s in
        record { skeletons = (x.skeletons, y.skeletons); within = (x.within, y.within); same = ap₂ app x.same y.same; general = ap₂ (both (λ N T. app N T)) x.general y.general }
    put_general_spine (put_in_argument d e) β Δ (base c) u w v s = absurd s

  pub term_generalized : {k : ℕ} {M M' : Term} → PutsIn Ψ bs k M M' → (β : ℕ → Option Term) (Δ : List Skeleton) (t : Skeleton) → Ready k β Δ → MetavariablesIn V M → TermSkeleton (as_head_skeletons κ) Δ M t → generalized index k M' ≡ Some (fill μ β M)
  term_generalized d β Δ t w v m = let r = put_general d β Δ t w v m in r.general ∙ ap Some (sym r.same)

  pub type_generalized : {k : ℕ} {A A' : LfType} → PutsInType Ψ bs k A A' → (φ : ℕ → Option Skeleton) (β : ℕ → Option Term) (Δ : List Skeleton) → Ready k β Δ → MetavariablesInType V A → TypeBySkeletons φ (as_head_skeletons κ) Δ A → generalized_type index k A' ≡ Some (fill_type μ β A)
  type_generalized (put_in_atom {a = a} d) φ β Δ w v (t, e, s) = let r = put_general_spine d β Δ t (base a) w v s in ap (option_map (λ T. atom a T)) (r.general ∙ ap Some (sym r.same))
  type_generalized {k = k} (put_in_pi {A = A} d e) φ β Δ w (v, vs) (x, y) = ap₂ (both (λ C D. pi C D)) (type_generalized d φ β Δ w v x) (type_generalized e φ (moved suc β) (skeleton A ∷ Δ) (ready_under k β Δ (skeleton A) w) vs y)

  -- under a local context
  pub ready_at : (D : List LfType) (β : ℕ → Option Term) (Δ : List Skeleton) → Ready 0 β Δ → Ready (binders D) (under_locals D β) (local_skeletons D Δ)
  ready_at [] β Δ w = w
  ready_at (A ∷ D) β Δ w = ready_under (binders D) (under_locals D β) (local_skeletons D Δ) (skeleton A) (ready_at D β Δ w)
