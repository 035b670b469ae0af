-- A renewed metavariable: with the bindings put in, its type is the one that it had, at each filling that respects them. So the step keeps
-- the typed unifiers.
use Rattle.std.proofs.Common.{◌≡◌, ℕ, List, [], ◌∷◌, Option, Some, None, inl, inr, sym, ap, ◌∙◌, subst, arith}
use Rattle.lf.specs.Eta.{eta_long}
use Rattle.lf.specs.SkeletonTyping.{TermSkeleton}
use Rattle.lf.specs.Skeletons.{context_skeletons}
use Rattle.lf.specs.Subordination.{Member}
use Rattle.lf.specs.Syntax.{LfType, Skeleton, Term, metavariable, nil, root, skeleton, variable}
use Rattle.lf.specs.Typing.{HasType, IsSignature, Signature}
use Rattle.lf_unification.specs.Filling.{fill, fill_type}
use Rattle.lf_unification.specs.OpenTyping.{Declares, IsInstance, MetavariablesIn, MetavariablesInType, set_at, skeletons_of}
use Rattle.lf_unification.specs.PartialInstance.{IsFilling, IsTypedStore, PartialInstance}
use Rattle.lf_unification.specs.Putting.{PutsInType}
use Rattle.lf_unification.specs.Renewing.{renewed_store}
use Rattle.lf_unification.specs.Scope.{IsScoped, MetavariablesInBindings}
use Rattle.lf_unification.specs.Skeletons.{as_head_skeletons, skeleton_or_default, total_skeletons}
use Rattle.lf_unification.specs.Unifiers.{Binding, ExtendsFilling, KeepsUnifiers, Solution, Store, Unifies}
use Rattle.lf_unification.proofs.Agree.{set_here}
use Rattle.lf_unification.proofs.EquationLemmas.{respects_agree, solves_agree}
use Rattle.lf_unification.proofs.Filling.{skeleton_fill}
use Rattle.lf_unification.proofs.Offer.{agree_skeleton, same_type, same_value}
use Rattle.lf_unification.proofs.OpenSound.{OpenIsType-by_skeletons, PartialInstance-of, skeletons_under}
use Rattle.lf_unification.proofs.Putting.{put_type_same, put_type_skeleton, put_type_within, typed_at}
use Rattle.lf_unification.proofs.Raise.{fill_raised}
use Rattle.lf_unification.proofs.Sound.{restrict, restrict_instance, restrict_same}
use Rattle.lf_unification.proofs.StepLemmas.{value_of}
use Rattle.lf_unification.proofs.Stores.{add_metavariable}
use Rattle.lf_unification.proofs.ToSkeletons.{typed_has_skeleton}

pub value_in_scope : (V : ℕ → Type 0) (bs : List Binding) → MetavariablesInBindings V bs → (b : Binding) → Member b bs → MetavariablesIn V b.value
value_in_scope V [] i b j = absurd j
value_in_scope V (c ∷ bs) (x, i, k) b (inl e) = subst (λ (y : Binding). MetavariablesIn V y.value) (sym e) i
value_in_scope V (c ∷ bs) (x, i, k) b (inr j) = value_in_scope V bs k b j

module _ (Σ : Signature) (ok : IsSignature Σ) (s : Store) (m n : ℕ) (A A' : LfType) (declared : s.metavariables m ≡ Some A) (puts : PutsInType s.metavariables s.bindings 0 A A') (scoped : IsScoped s.metavariables n s.bindings s.equations) where
  abbrev Ψ : ℕ → Option LfType
  Ψ = s.metavariables

  abbrev Ψ' : ℕ → Option LfType
  Ψ' = set_at n (Some A') s.metavariables

  abbrev μ : ℕ → Skeleton
  μ = skeletons_of Ψ

  abbrev μ' : ℕ → Skeleton
  μ' = skeletons_of Ψ'

  new : Ψ n ≡ None
  new = scoped.fresh n (omega arith)

  -- the new type mentions what is declared
  pub renewed_in : MetavariablesInType (Declares s.metavariables) A'
  renewed_in = put_type_within puts (Declares Ψ) (λ b i d. value_in_scope (Declares Ψ) s.bindings scoped.bindings b i) (scoped.types m A declared)

  -- the renewed value, filled, is the value of the new metavariable
  renewed_value : (F : List LfType) (β : ℕ → Option Term) → IsInstance Σ [] Ψ' F β → (W : Term) → β n ≡ Some W → TermSkeleton (as_head_skeletons (total_skeletons Σ μ')) (context_skeletons F) W (skeleton A') → fill μ' β (eta_long (skeleton A) (metavariable n)) ≡ W
  renewed_value F β w W e t =
      let at_n : μ' n ≡ skeleton A' = ap skeleton_or_default (set_here n (Some A') Ψ) in
      ap (λ a. fill μ' β (eta_long a (metavariable n))) (put_type_skeleton puts)
      ∙ fill_raised (total_skeletons Σ μ') (context_skeletons F) β [] A' n W (skeletons_under Σ ok [] Ψ' (λ b. Unit {0}) (λ k. Unit {0}) F β (PartialInstance-of Σ ok [] Ψ' (λ k. Unit {0}) F β w) []) at_n e (subst (TermSkeleton (as_head_skeletons (total_skeletons Σ μ')) (context_skeletons F) W) (sym at_n) t)

  grows : (k : ℕ) (B : LfType) → Ψ k ≡ Some B → Ψ' k ≡ Some B
  grows k B e = sym (same_type Ψ n new A' (root (variable 0) nil) (λ k. None) k (B, e)) ∙ e

  -- THE theorem
  pub renew_step : IsTypedStore Σ [] s → KeepsUnifiers Σ [] s (renewed_store s m A A' n)
  renew_step w = record {
    grows = grows;
    sound = λ F β' u.
        let vals : (k : ℕ) → Declares Ψ k → β' k ≡ restrict Ψ β' k = λ k d. restrict_same Ψ β' k d.0 d.1 in
        let skels : (k : ℕ) → Declares Ψ k → μ' k ≡ μ k = λ k d. sym (agree_skeleton Ψ n new A' (root (variable 0) nil) (λ k. None) k d) in (
          restrict Ψ β',
          λ k B e. restrict_same Ψ β' k B e,
          (
            restrict_instance Σ [] F Ψ Ψ' β' grows scoped.types (λ i B x. absurd x) u.0,
            (
              respects_agree (Declares Ψ) μ' μ skels β' (restrict Ψ β') vals s.bindings scoped.bindings u.1.0.1,
              solves_agree (Declares Ψ) μ' μ skels β' (restrict Ψ β') vals s.equations scoped.equations u.1.1,
            ),
          ),
        );
    complete = λ F β u. let (W, f, v) = value_of Σ [] Ψ F β u.0 m A declared in completed F β u W f v;
  }
    where
      same_filled : (F : List LfType) (β : ℕ → Option Term) → PartialInstance Σ [] s.metavariables (λ k. ⊥) F β → Unifies s β → fill_type (skeletons_of s.metavariables) β A ≡ fill_type (skeletons_of s.metavariables) β A'
      same_filled F β h u = put_type_same Σ ok [] s.metavariables (IsFilling Σ [] s) s.bindings (typed_at Σ [] s.metavariables (IsFilling Σ [] s) s.bindings w.bindings_typed) F β h u.0 [] A A'
          (OpenIsType-by_skeletons Σ ok [] s.metavariables (IsFilling Σ [] s) (λ k. ⊥) F β h [] A (w.declarations_typed.metavariables_typed m A declared)) puts

      completed : (F : List LfType) (β : ℕ → Option Term) → Solution Σ [] s F β → (W : Term) → β m ≡ Some W → HasType Σ F W (fill_type (skeletons_of s.metavariables) β A) → (β' : ℕ → Option Term) × ExtendsFilling s.metavariables β β' × Solution Σ [] (renewed_store s m A A' n) F β'
      completed F β u W f v =
          let vals : (k : ℕ) → Declares Ψ k → β k ≡ set_at n (Some W) β k = same_value Ψ n new A' W β in
          let skels : (k : ℕ) → Declares Ψ k → μ k ≡ μ' k = agree_skeleton Ψ n new A' W β in
          let typed : HasType Σ F W (fill_type μ β A') = subst (HasType Σ F W) (same_filled F β (PartialInstance-of Σ ok [] Ψ (λ k. ⊥) F β u.0) u.1) v in
          let inst : IsInstance Σ [] Ψ' F (set_at n (Some W) β) = add_metavariable Σ ok [] F Ψ n new A' W β u.0 scoped.types (λ i B x. absurd x) renewed_in typed in
          let skeletons : TermSkeleton (as_head_skeletons (total_skeletons Σ μ')) (context_skeletons F) W (skeleton A') = subst (TermSkeleton (as_head_skeletons (total_skeletons Σ μ')) (context_skeletons F) W) (skeleton_fill μ β A') (typed_has_skeleton Σ μ' F W (fill_type μ β A') typed) in (
            set_at n (Some W) β,
            λ k B e. sym (vals k (B, e)),
            (
              inst,
              (
                (sym (vals m (A, declared)) ∙ f ∙ ap Some (sym (renewed_value F (set_at n (Some W) β) inst W (set_here n (Some W) β) skeletons)), respects_agree (Declares Ψ) μ μ' skels β (set_at n (Some W) β) vals s.bindings scoped.bindings u.1.0),
                solves_agree (Declares Ψ) μ μ' skels β (set_at n (Some W) β) vals s.equations scoped.equations u.1.1,
              ),
            ),
          )
