-- Bindings that are put in keep open terms that a filling puts on own terms, where the values are so.
use Rattle.std.proofs.Common.{◌≡◌, ℕ, suc, List, ◌∷◌, Option, Some, None, refl, sym, ap, ap₂, ◌∙◌, subst}
use Rattle.lf.specs.Eta.{append}
use Rattle.lf.specs.Rules.{Reduces}
use Rattle.lf.specs.SkeletonTyping.{SpineSkeleton, TermSkeleton}
use Rattle.lf.specs.Subordination.{Member}
use Rattle.lf.specs.Substitution.{reduce}
use Rattle.lf.specs.Syntax.{constant, variable, metavariable, Term, Spine, nil, app, LfType, Skeleton, base, arrow, rename}
use Rattle.lf.specs.Typing.{Signature}
use Rattle.lf.proofs.Renaming.{renamings_compose}
use Rattle.lf.proofs.Rules.{rules_agree_reduction}
use Rattle.lf.proofs.SkeletonTyping.{reduction_keeps_skeletons, renaming_keeps_skeletons}
use Rattle.lf_unification.specs.Filling.{fill, fill_spine, moved, rename_value}
use Rattle.lf_unification.specs.OpenTyping.{skeletons_of}
use Rattle.lf_unification.specs.Putting.{PutsSome, PutsSomeSpine, put_nothing, some_at_bound, some_in_argument, some_in_arguments, some_nowhere, some_under_lambda}
use Rattle.lf_unification.specs.Rigid.{past_binders}
use Rattle.lf_unification.specs.Skeletons.{TotalSkeletons, as_head_skeletons, total_skeletons}
use Rattle.lf_unification.specs.Unifiers.{Binding}
use Rattle.lf_unification.proofs.Exhaust.{past_binders_zero}
use Rattle.lf_unification.proofs.Filling.{SkeletonsFill-weak, fill_rename}
use Rattle.lf_unification.proofs.Putting.{Ready, some_fill, some_fill_spine}
use Rattle.lf_numbered.specs.OwnTerms.{weaken_own}
use Rattle.lf_numbered.proofs.OwnTerms.{own_as_renamed}
use Rattle.lf_numbered.proofs.OwnStoresTerms.{BeginsUpTo, Owned, SpineOwned, head_same, nil_not_app, owned_renamed, tail_same}
use Rattle.lf_numbered.proofs.OwnStoresReduce.{reduce_owned}
use mathlib.Core.Path.{fun_ext}

-- What is put in over one list of bindings is so over a longer one, where the metavariables that are bound keep their skeletons.
module _ (Ψ Ψ' : ℕ → Option LfType) (bs bs' : List Binding) (more : (b : Binding) → Member b bs → Member b bs' × (skeletons_of Ψ b.of ≡ skeletons_of Ψ' b.of)) where
  mutual
    pub puts_grow : {k : ℕ} {M M' : Term} → PutsSome Ψ bs k M M' → PutsSome Ψ' bs' k M M'
    puts_grow put_nothing = put_nothing
    puts_grow (some_under_lambda d) = some_under_lambda (puts_grow d)
    puts_grow (some_in_arguments h d) = some_in_arguments h (puts_grow_spine d)
    puts_grow {k = k} (some_at_bound {S' = S'} {R = R} b i d r e) = some_at_bound b (more b i).0 (puts_grow_spine d) (subst (λ a. Reduces a (rename (past_binders k) b.value) S' R) (more b i).1 r) (puts_grow e)

    pub puts_grow_spine : {k : ℕ} {S S' : Spine} → PutsSomeSpine Ψ bs k S S' → PutsSomeSpine Ψ' bs' k S S'
    puts_grow_spine some_nowhere = some_nowhere
    puts_grow_spine (some_in_argument d e) = some_in_argument (puts_grow d) (puts_grow_spine e)

module _ (Σ : Signature) (Ψ : ℕ → Option LfType) (bs : List Binding) where
  abbrev κ : TotalSkeletons
  κ = total_skeletons Σ (skeletons_of Ψ)

  -- a filling under k binders that respects the bindings, and makes their values own
  pub record OwnedReady (k : ℕ) (o : ℕ → Option Spine) (β : ℕ → Option Term) (Δ : List Skeleton) : Type 0 where
    pub ready : Ready Σ Ψ bs k β Δ
    pub owned : (b : Binding) → Member b bs → Owned (skeletons_of Ψ) o β (rename (past_binders k) b.value)

  one_binder : (k : ℕ) (N : Term) → rename suc (rename (past_binders k) N) ≡ rename (past_binders (suc k)) N
  one_binder k N = renamings_compose suc (past_binders k) N ∙ ap (λ f. rename f N) (fun_ext (λ i. sym (past_binders_zero k i)))

  pub owned_under : (k : ℕ) (o : ℕ → Option Spine) (β : ℕ → Option Term) (Δ : List Skeleton) (a : Skeleton) → OwnedReady k o β Δ → OwnedReady (suc k) (λ c. weaken_own (o c)) (moved suc β) (a ∷ Δ)
  owned_under k o β Δ a w = record { ready = record { values = SkeletonsFill-weak (total_skeletons Σ (skeletons_of Ψ)) a Δ β w.ready.values; bound = go }; owned = λ b i. subst (Owned (skeletons_of Ψ) (λ c. weaken_own (o c)) (moved suc β)) (one_binder k b.value) (owned_renamed (skeletons_of Ψ) o (λ c. weaken_own (o c)) β (moved suc β) suc (rename (past_binders k) b.value) (λ c. own_as_renamed (o c)) (λ m. refl) (w.owned b i)) }
    where
      go : (b : Binding) → Member b bs → (moved suc β b.of ≡ Some (fill (skeletons_of Ψ) (moved suc β) (rename (past_binders (suc k)) b.value))) × TermSkeleton (as_head_skeletons (total_skeletons Σ (skeletons_of Ψ))) (a ∷ Δ) (rename (past_binders (suc k)) b.value) (skeletons_of Ψ b.of)
      go b i = let (e, t) = w.ready.bound b i in (
        ap (rename_value suc) e ∙ ap Some (fill_rename (skeletons_of Ψ) suc β (rename (past_binders k) b.value) ∙ ap (fill (skeletons_of Ψ) (moved suc β)) (one_binder k b.value)),
        subst (λ N. TermSkeleton (as_head_skeletons (total_skeletons Σ (skeletons_of Ψ))) (a ∷ Δ) N (skeletons_of Ψ b.of)) (one_binder k b.value) (renaming_keeps_skeletons (as_head_skeletons (total_skeletons Σ (skeletons_of Ψ))) Δ (a ∷ Δ) suc (rename (past_binders k) b.value) (skeletons_of Ψ b.of) (λ i t g. g) t),
      )

  some_is : {a t : Skeleton} → Some a ≡ Some t → a ≡ t
  some_is e = cc

  split_put : {k : ℕ} {S S' : Spine} (Q T : Spine) → S ≡ append Q T → PutsSomeSpine Ψ bs k S S' → (β : ℕ → Option Term) (Δ : List Skeleton) (t u : Skeleton) → Ready Σ Ψ bs k β Δ → SpineSkeleton (as_head_skeletons κ) Δ S t u → (Q' : Spine) × (T' : Spine) × (S' ≡ append Q' T') × (fill_spine (skeletons_of Ψ) β Q ≡ fill_spine (skeletons_of Ψ) β Q')
  split_put {S' = S'} nil T f d β Δ t u w s = (nil, S', refl, refl)
  split_put (app M Q) T f some_nowhere β Δ t u w s = absurd (nil_not_app f)
  split_put (app M Q) T f (some_in_argument d e) β Δ (base c) u w s = absurd s
  split_put {k = k} (app M Q) T f (some_in_argument {M = M0} {M' = M'} {S = S0} d e) β Δ (arrow a b) u w (m, s) =
      let (Q', T', p, q) = split_put Q T (tail_same f) e β Δ b u w s in
      (app M' Q', T', ap (app M') p, ap₂ app (ap (fill (skeletons_of Ψ) β) (sym (head_same f)) ∙ (some_fill Σ Ψ bs d β Δ a w m).1) q)

  begins_put : {k : ℕ} {S S' : Spine} → PutsSomeSpine Ψ bs k S S' → (o : ℕ → Option Spine) (β : ℕ → Option Term) (Δ : List Skeleton) (t u : Skeleton) (x : Option Spine) → OwnedReady k o β Δ → SpineSkeleton (as_head_skeletons κ) Δ S t u → BeginsUpTo (skeletons_of Ψ) β x S → BeginsUpTo (skeletons_of Ψ) β x S'
  begins_put d o β Δ t u None w s b = tt
  begins_put d o β Δ t u (Some V) w s (Q, T, f, g) = let (Q', T', f', g') = split_put Q T f d β Δ t u w.ready s in (Q', T', f', sym g' ∙ g)

  mutual
    pub some_owned : {k : ℕ} {M M' : Term} → PutsSome Ψ bs k M M' → (o : ℕ → Option Spine) (β : ℕ → Option Term) (Δ : List Skeleton) (t : Skeleton) → OwnedReady k o β Δ → TermSkeleton (as_head_skeletons κ) Δ M t → Owned (skeletons_of Ψ) o β M → Owned (skeletons_of Ψ) o β M'
    some_owned put_nothing o β Δ t w m r = r
    some_owned {k = k} (some_under_lambda d) o β Δ (arrow a b) w m r = some_owned d (λ c. weaken_own (o c)) (moved suc β) (a ∷ Δ) b (owned_under k o β Δ a w) m r
    some_owned (some_under_lambda d) o β Δ (base c) w m r = absurd m
    some_owned (some_in_arguments h d) o β Δ (arrow a b) w m r = absurd m
    some_owned {k = k} (some_in_arguments {S = S} {S' = S'} (constant c) d) o β Δ (base n) w (t, g, s) (b, r) = (begins_put d o β Δ t (base n) (o c) w s b, some_owned_spine d o β Δ t (base n) w s r)
    some_owned (some_in_arguments (variable i) d) o β Δ (base n) w (t, g, s) r = some_owned_spine d o β Δ t (base n) w s r
    some_owned (some_in_arguments (metavariable m) d) o β Δ (base n) w (t, g, s) r = some_owned_spine d o β Δ t (base n) w s r
    some_owned (some_at_bound b i d r e) o β Δ (arrow a c) w m q = absurd m
    some_owned {k = k} (some_at_bound {S = S} {S' = S'} {R = R} b i d r e) o β Δ (base n) w (t, g, s) p =
        let N : Term = rename (past_binders k) b.value in
        let (f, v) = w.ready.bound b i in
        let s0 : SpineSkeleton (as_head_skeletons (total_skeletons Σ (skeletons_of Ψ))) Δ S (skeletons_of Ψ b.of) (base n) = subst (λ z. SpineSkeleton (as_head_skeletons (total_skeletons Σ (skeletons_of Ψ))) Δ S z (base n)) (sym (some_is g)) s in
        let (x, y) = some_fill_spine Σ Ψ bs d β Δ (skeletons_of Ψ b.of) (base n) w.ready s0 in
        let q : R ≡ reduce (skeletons_of Ψ b.of) N S' = rules_agree_reduction r in
        let z : TermSkeleton (as_head_skeletons (total_skeletons Σ (skeletons_of Ψ))) Δ R (base n) = subst (λ X. TermSkeleton (as_head_skeletons (total_skeletons Σ (skeletons_of Ψ))) Δ X (base n)) (sym q) (reduction_keeps_skeletons (as_head_skeletons (total_skeletons Σ (skeletons_of Ψ))) (skeletons_of Ψ b.of) Δ N S' (base n) v x) in
        let u : Owned (skeletons_of Ψ) o β R = subst (Owned (skeletons_of Ψ) o β) (sym q) (reduce_owned (total_skeletons Σ (skeletons_of Ψ)) (skeletons_of Ψ b.of) Δ o β N S' (base n) w.ready.values v x (w.owned b i) (some_owned_spine d o β Δ (skeletons_of Ψ b.of) (base n) w s0 p)) in
        some_owned e o β Δ (base n) w z u

    pub some_owned_spine : {k : ℕ} {S S' : Spine} → PutsSomeSpine Ψ bs k S S' → (o : ℕ → Option Spine) (β : ℕ → Option Term) (Δ : List Skeleton) (t u : Skeleton) → OwnedReady k o β Δ → SpineSkeleton (as_head_skeletons κ) Δ S t u → SpineOwned (skeletons_of Ψ) o β S → SpineOwned (skeletons_of Ψ) o β S'
    some_owned_spine some_nowhere o β Δ t u w s r = r
    some_owned_spine (some_in_argument d e) o β Δ (arrow a b) u w (m, s) (p, r) = (some_owned d o β Δ a w m p, some_owned_spine e o β Δ b u w s r)
    some_owned_spine (some_in_argument d e) o β Δ (base c) u w s r = absurd s
