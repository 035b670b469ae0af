-- Putting the bindings in by the rules always gives a result on what skeletons type, which is what filling gives.
use Rattle.std.proofs.Common.{◌≡◌, ℕ, zero, suc, ◌+◌, List, [], ◌∷◌, length, Option, Some, None, ◌⊎◌, inl, inr, refl, sym, ap, ◌∙◌, subst, arith}
use Rattle.lf.specs.AtOnce.{shift_by}
use Rattle.lf.specs.Rules.{Reduces}
use Rattle.lf.specs.SkeletonTyping.{SkeletonAt, TermSkeleton, SpineSkeleton, TypeBySkeletons, RenamingBySkeletons}
use Rattle.lf.specs.Subordination.{Member}
use Rattle.lf.specs.Substitution.{reduce}
use Rattle.lf.specs.Syntax.{Skeleton, Spine, Term, LfType, app, arrow, atom, base, constant, lambda, metavariable, nil, pi, rename, root, skeleton, variable}
use Rattle.lf.specs.Typing.{Signature}
use Rattle.lf.proofs.Rules.{rules_total_reduction}
use Rattle.lf.proofs.SkeletonTyping.{reduction_keeps_skeletons, renaming_keeps_skeletons}
use Rattle.lf_unification.specs.Filling.{fill, fill_metavariable, fill_spine, fill_type, moved, rename_value}
use Rattle.lf_unification.specs.OpenTyping.{MetavariablesIn, MetavariablesInSpine, skeletons_of}
use Rattle.lf_unification.specs.Putting.{PutsIn, PutsInSpine, PutsInType, Unbound, put_at_bound, put_at_rigid, put_at_unbound, put_in_argument, put_in_atom, put_in_pi, put_nowhere, put_under_lambda}
use Rattle.lf_unification.specs.Rigid.{past_binders}
use Rattle.lf_unification.specs.Skeletons.{TotalSkeletons, as_head_skeletons, total_skeletons}
use Rattle.lf_unification.specs.Unifiers.{Binding}
use Rattle.lf_unification.proofs.Agree.{fill_agree, fill_agree_spine}
use Rattle.lf_unification.proofs.Filling.{SkeletonsFill, SpineSkeleton-fill, ValueHasSkeleton, fill_rename, reduced_fill}
use Rattle.lf_unification.proofs.Offer.{decide}
use Rattle.lf_unification.proofs.Putting.{Ready, put_fill, put_unbound}
use Rattle.lf_unification.proofs.Scope.{in_reduced, in_rename, in_weaker_spine}
use Rattle.tw_putting.specs.Fits.{BindingsBySkeletons, GoesDown, HaveOrder, IsBoundBy}
use Rattle.tw_putting.specs.Values.{values_to}
use Rattle.tw_putting.proofs.Filled.{bound_filled_in, filled_skeletons, fill_none, fill_none_spine, member_bound, moved_once_more, moved_unbound, past_is_shift, unbound_has_none, value_at}

mutual
  in_any : (M : Term) → MetavariablesIn (λ m. Unit {0}) M
  in_any (lambda M) = in_any M
  in_any (root (constant c) S) = in_any_spine S
  in_any (root (variable i) S) = in_any_spine S
  in_any (root (metavariable m) S) = (tt, in_any_spine S)

  in_any_spine : (S : Spine) → MetavariablesInSpine (λ m. Unit {0}) S
  in_any_spine nil = tt
  in_any_spine (app M S) = (in_any M, in_any_spine S)

some_skeleton : {a t : Skeleton} → Some a ≡ Some t → a ≡ t
some_skeleton e = cc

-- a metavariable is bound or not
pub bound_or_not : (m : ℕ) (bs : List Binding) → Unbound bs m ⊎ ((b : Binding) × Member b bs × (b.of ≡ m))
bound_or_not m [] = inl tt
bound_or_not m (b ∷ bs) = go (decide m b.of) (bound_or_not m bs)
  where
    go : (m ≡ b.of) ⊎ (m ≡ b.of → ⊥) → Unbound bs m ⊎ ((c : Binding) × Member c bs × (c.of ≡ m)) → Unbound (b ∷ bs) m ⊎ ((c : Binding) × Member c (b ∷ bs) × (c.of ≡ m))
    go (inl e) r = inr (b, inl refl, sym e)
    go (inr n) (inl u) = inl (n, u)
    go (inr n) (inr (c, i, e)) = inr (c, inr i, e)

-- the context Γ, moved over k binders, stands in Δ
abbrev pub Outside : ℕ → List Skeleton → List Skeleton → Type 0
Outside k Γ Δ = RenamingBySkeletons Γ Δ (shift_by k)

outside_more : (k : ℕ) (Γ Δ : List Skeleton) (a : Skeleton) → Outside k Γ Δ → Outside (suc k) Γ (a ∷ Δ)
outside_more k Γ Δ a p i t g = let e : i + suc k ≡ suc (i + k) = omega arith in subst (λ j. SkeletonAt (a ∷ Δ) j t) (sym e) (p i t g)

module _ (Σ : Signature) (Ψ : ℕ → Option LfType) (Γ : List Skeleton) (bs : List Binding) (w : BindingsBySkeletons Σ Ψ Γ bs) (o : HaveOrder bs) where
  abbrev μ : ℕ → Skeleton
  μ = skeletons_of Ψ

  abbrev κ : TotalSkeletons
  κ = total_skeletons Σ μ

  -- all values, and the same under k binders
  abbrev β : ℕ → Option Term
  β = values_to μ bs (length bs)

  abbrev under : ℕ → ℕ → Option Term
  under k = moved (shift_by k) β

  pub under_fills : (k : ℕ) (Δ : List Skeleton) → Outside k Γ Δ → SkeletonsFill κ Δ (under k)
  under_fills k Δ p m = go (β m) (filled_skeletons Σ Ψ Γ bs w (length bs) m)
    where
      go : (x : Option Term) → ValueHasSkeleton κ Γ x (μ m) → ValueHasSkeleton κ Δ (rename_value (shift_by k) x) (μ m)
      go None g = tt
      go (Some N) g = renaming_keeps_skeletons (as_head_skeletons κ) Γ Δ (shift_by k) N (μ m) p g

  unbound_under : (k m : ℕ) → Unbound bs m → under k m ≡ None
  unbound_under k m u = moved_unbound k m β (unbound_has_none μ bs (length bs) m u)

  pub bound_under : (k : ℕ) (b : Binding) → Member b bs → under k b.of ≡ Some (fill μ (under k) (rename (shift_by k) b.value))
  bound_under k b i = ap (rename_value (shift_by k)) (bound_filled_in Σ Ψ Γ bs w o b i) ∙ ap Some (fill_rename μ (shift_by k) β b.value)

  -- a value under k binders
  pub value_under : (k : ℕ) (Δ : List Skeleton) → Outside k Γ Δ → (b : Binding) → Member b bs → TermSkeleton (as_head_skeletons κ) Δ (rename (shift_by k) b.value) (μ b.of)
  value_under k Δ p b i = renaming_keeps_skeletons (as_head_skeletons κ) Γ Δ (shift_by k) b.value (μ b.of) p (value_at Σ Ψ Γ bs w b i)

  -- the value applied to the arguments, and the metavariable on them, are the same when filled
  pub bound_filled : (k : ℕ) (Δ : List Skeleton) → Outside k Γ Δ → (b : Binding) → Member b bs → (S : Spine) (c : ℕ) → SpineSkeleton (as_head_skeletons κ) Δ S (μ b.of) (base c) → fill μ (under k) (reduce (μ b.of) (rename (shift_by k) b.value) S) ≡ fill μ (under k) (root (metavariable b.of) S)
  bound_filled k Δ p b i S c s =
      reduced_fill κ (μ b.of) Δ (under k) (rename (shift_by k) b.value) S (base c) (under_fills k Δ p) (value_under k Δ p b i) s
      ∙ sym (ap (λ x. fill_metavariable (μ b.of) b.of x (fill_spine μ (under k) S)) (bound_under k b i))

  -- at a metavariable that has its arguments
  abbrev Puttable : ℕ → Type 0
  Puttable m = (k : ℕ) (Δ : List Skeleton) (S : Spine) (c : ℕ) → Outside k Γ Δ → PutsInSpine Ψ bs k S (fill_spine μ (under k) S) → SpineSkeleton (as_head_skeletons κ) Δ S (μ m) (base c) → PutsIn Ψ bs k (root (metavariable m) S) (fill μ (under k) (root (metavariable m) S))

  mutual
    puts_where : (V : ℕ → Type 0) → ((m : ℕ) → V m → Puttable m) → (k : ℕ) (Δ : List Skeleton) (M : Term) (t : Skeleton) → Outside k Γ Δ → MetavariablesIn V M → TermSkeleton (as_head_skeletons κ) Δ M t → PutsIn Ψ bs k M (fill μ (under k) M)
    puts_where V h k Δ (lambda M) (arrow a b) p i m = put_under_lambda (subst (λ f. PutsIn Ψ bs (suc k) M (fill μ f M)) (sym (moved_once_more k β)) (puts_where V h (suc k) (a ∷ Δ) M b (outside_more k Γ Δ a p) i m))
    puts_where V h k Δ (lambda M) (base c) p i m = absurd m
    puts_where V h k Δ (root x S) (arrow a b) p i m = absurd m
    puts_where V h k Δ (root (constant c) S) (base n) p i (t, g, s) = put_at_rigid (constant c) tt (puts_spine_where V h k Δ S t (base n) p i s)
    puts_where V h k Δ (root (variable j) S) (base n) p i (t, g, s) = put_at_rigid (variable j) tt (puts_spine_where V h k Δ S t (base n) p i s)
    puts_where V h k Δ (root (metavariable m) S) (base n) p (v, i) (t, g, s) =
        h m v k Δ S n p (puts_spine_where V h k Δ S t (base n) p i s) (subst (λ x. SpineSkeleton (as_head_skeletons κ) Δ S x (base n)) (sym (some_skeleton g)) s)

    puts_spine_where : (V : ℕ → Type 0) → ((m : ℕ) → V m → Puttable m) → (k : ℕ) (Δ : List Skeleton) (S : Spine) (t u : Skeleton) → Outside k Γ Δ → MetavariablesInSpine V S → SpineSkeleton (as_head_skeletons κ) Δ S t u → PutsInSpine Ψ bs k S (fill_spine μ (under k) S)
    puts_spine_where V h k Δ nil t u p i s = put_nowhere
    puts_spine_where V h k Δ (app M S) (arrow a b) u p (i, j) (m, s) = put_in_argument (puts_where V h k Δ M a p i m) (puts_spine_where V h k Δ S b u p j s)
    puts_spine_where V h k Δ (app M S) (base c) u p i s = absurd s

  unbound_puttable : (m : ℕ) → Unbound bs m → Puttable m
  unbound_puttable m u k Δ S c p d s = subst (λ x. PutsIn Ψ bs k (root (metavariable m) S) (fill_metavariable (μ m) m x (fill_spine μ (under k) S))) (sym (unbound_under k m u)) (put_at_unbound u d)

  -- the arguments with all put in have no bound metavariable
  arguments_unbound : (k : ℕ) (S S' : Spine) → PutsInSpine Ψ bs k S S' → MetavariablesInSpine (Unbound bs) S'
  arguments_unbound k S S' d = put_unbound (let e : PutsIn Ψ bs k (root (constant zero) S) (root (constant zero) S') = put_at_rigid (constant zero) tt d in e)

  bound_puttable : (b : Binding) → Member b bs → (V : ℕ → Type 0) → ((m : ℕ) → V m → Puttable m) → ((m : ℕ) → Unbound bs m → V m) → MetavariablesIn V b.value → Puttable b.of
  bound_puttable b i V h more v' k Δ S c p d s =
      let N : Term = rename (shift_by k) b.value in
      let S' : Spine = fill_spine μ (under k) S in
      let a : Skeleton = μ b.of in
      let fills : SkeletonsFill κ Δ (under k) = under_fills k Δ p in
      let v : TermSkeleton (as_head_skeletons κ) Δ N a = value_under k Δ p b i in
      let s' : SpineSkeleton (as_head_skeletons κ) Δ S' a (base c) = SpineSkeleton-fill κ Δ (under k) S a (base c) fills s in
      let free : MetavariablesInSpine (Unbound bs) S' = arguments_unbound k S S' d in
      let r : Reduces a N S' (reduce a N S') = rules_total_reduction (as_head_skeletons κ) a Δ N S' c v s' in
      let r' : Reduces a (rename (past_binders k) b.value) S' (reduce a N S') = subst (λ f. Reduces a (rename f b.value) S' (reduce a N S')) (sym (past_is_shift k)) r in
      let inside : MetavariablesIn V (reduce a N S') = in_reduced V a N S' (in_rename V (shift_by k) b.value v') (in_weaker_spine (Unbound bs) V more S' free) in
      let e : PutsIn Ψ bs k (reduce a N S') (fill μ (under k) (reduce a N S')) = puts_where V h k Δ (reduce a N S') (base c) p inside (reduction_keeps_skeletons (as_head_skeletons κ) a Δ N S' (base c) v s') in
      let again : fill_spine μ (under k) S' ≡ S' = fill_agree_spine (Unbound bs) μ μ (λ m u. refl) (under k) (λ m. None) S' (λ m u. unbound_under k m u) free ∙ fill_none_spine μ S' in
      let same : fill μ (under k) (reduce a N S') ≡ fill μ (under k) (root (metavariable b.of) S) =
      bound_filled k Δ p b i S' c s' ∙ ap (fill_metavariable a b.of (under k b.of)) again in
      subst (PutsIn Ψ bs k (root (metavariable b.of) S)) same (put_at_bound b i d r' e)

  -- along the order, each metavariable after those that its value mentions
  order_puttable : (cs : List Binding) → ((b : Binding) → Member b cs → Member b bs) → GoesDown bs cs → (m : ℕ) → Unbound bs m ⊎ IsBoundBy cs m → Puttable m
  order_puttable [] sub d m (inl u) = unbound_puttable m u
  order_puttable [] sub d m (inr z) = absurd z
  order_puttable (c ∷ cs) sub (v, d) m (inl u) = unbound_puttable m u
  order_puttable (c ∷ cs) sub (v, d) m (inr (inl e)) =
      subst Puttable (sym e) (bound_puttable c (sub c (inl refl)) (λ n. Unbound bs n ⊎ IsBoundBy cs n) (order_puttable cs (λ y j. sub y (inr j)) d) (λ n u. inl u) v)
  order_puttable (c ∷ cs) sub (v, d) m (inr (inr i)) = order_puttable cs (λ y j. sub y (inr j)) d m (inr i)

  each_puttable : (m : ℕ) → Puttable m
  each_puttable m = go (bound_or_not m bs)
    where
      go : Unbound bs m ⊎ ((b : Binding) × Member b bs × (b.of ≡ m)) → Puttable m
      go (inl u) = unbound_puttable m u
      go (inr (b, i, e)) = order_puttable o.order o.within o.down m (inr (subst (IsBoundBy o.order) e (member_bound o.order b (o.all b i))))

  -- THE theorem: the bindings can be put in, and what comes is the term filled
  pub puts_total : (k : ℕ) (Δ : List Skeleton) (M : Term) (t : Skeleton) → Outside k Γ Δ → TermSkeleton (as_head_skeletons κ) Δ M t → PutsIn Ψ bs k M (fill μ (under k) M)
  puts_total k Δ M t p m = puts_where (λ n. Unit {0}) (λ n v. each_puttable n) k Δ M t p (in_any M) m

  pub puts_spine_total : (k : ℕ) (Δ : List Skeleton) (S : Spine) (t u : Skeleton) → Outside k Γ Δ → SpineSkeleton (as_head_skeletons κ) Δ S t u → PutsInSpine Ψ bs k S (fill_spine μ (under k) S)
  puts_spine_total k Δ S t u p s = puts_spine_where (λ n. Unit {0}) (λ n v. each_puttable n) k Δ S t u p (in_any_spine S) s

  pub puts_type_total : (φ : ℕ → Option Skeleton) (k : ℕ) (Δ : List Skeleton) (A : LfType) → Outside k Γ Δ → TypeBySkeletons φ (as_head_skeletons κ) Δ A → PutsInType Ψ bs k A (fill_type μ (under k) A)
  puts_type_total φ k Δ (pi A B) p (a, b) = put_in_pi (puts_type_total φ k Δ A p a) (subst (λ f. PutsInType Ψ bs (suc k) B (fill_type μ f B)) (sym (moved_once_more k β)) (puts_type_total φ (suc k) (skeleton A ∷ Δ) B (outside_more k Γ Δ (skeleton A) p) b))
  puts_type_total φ k Δ (atom a S) p (t, e, s) = put_in_atom (puts_spine_total k Δ S t (base a) p s)

  -- THE theorem that this is the only result
  pub puts_once : (k : ℕ) (Δ : List Skeleton) (M : Term) (t : Skeleton) → Outside k Γ Δ → TermSkeleton (as_head_skeletons κ) Δ M t → (R : Term) → PutsIn Ψ bs k M R → R ≡ fill μ (under k) M
  puts_once k Δ M t p m R d =
      let ready : Ready Σ Ψ bs k (under k) Δ = record {
        values = under_fills k Δ p;
        bound = λ b i. (
          bound_under k b i ∙ ap (λ f. Some (fill μ (under k) (rename f b.value))) (sym (past_is_shift k)),
          subst (λ f. TermSkeleton (as_head_skeletons κ) Δ (rename f b.value) (μ b.of)) (sym (past_is_shift k)) (value_under k Δ p b i),
        );
      } in
      let same : fill μ (under k) M ≡ fill μ (under k) R = (put_fill Σ Ψ bs d (under k) Δ t ready m).1 in
      let stays : fill μ (under k) R ≡ R = fill_agree (Unbound bs) μ μ (λ n u. refl) (under k) (λ n. None) R (λ n u. unbound_under k n u) (put_unbound d) ∙ fill_none μ R in
      sym (same ∙ stays)
