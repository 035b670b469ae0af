-- The steps that bind a metavariable, as changes of a store that keep its typed unifiers.
use Rattle.std.proofs.Common.{◌≡◌, ℕ, List, [], ◌∷◌, Option, Some, None, ◌⊎◌, inl, inr, refl, sym, ap, ◌∙◌, subst}
use Rattle.lf.specs.SkeletonTyping.{TermSkeleton}
use Rattle.lf.specs.Skeletons.{context_skeletons}
use Rattle.lf.specs.Syntax.{Skeleton, Spine, Term, LfType, atom, metavariable, nil, pi, rename, rename_type, root, skeleton, variable}
use Rattle.lf.specs.Typing.{TypeAt, HasType, IsSignature, Signature}
use Rattle.lf.specs.Variables.{onto}
use Rattle.lf_unification.specs.Filling.{fill, fill_type, moved}
use Rattle.lf_unification.specs.OpenTyping.{Declares, IsInstance, MetavariablesInType, ValueHasType, fill_locals, skeletons_of, set_at, under_locals}
use Rattle.lf_unification.specs.Patterns.{beyond, local_skeletons}
use Rattle.lf_unification.specs.Patterns.{InImage, Injective, FreeVariablesIn, PatternFits, lambdas_of, past, pattern, pattern_renaming, context_under}
use Rattle.lf_unification.specs.Offering.{lambda_over, pi_over}
use Rattle.lf_unification.specs.Skeletons.{as_head_skeletons, total_skeletons, skeleton_or_default}
use Rattle.lf_unification.specs.Scope.{MetavariablesInBindings, MetavariablesInEquations}
use Rattle.lf_unification.specs.Unifiers.{KeepsUnifiers}
use Rattle.lf_unification.specs.Unifiers.{Binding, Equation, ExtendsFilling, Solution, Store}
use Rattle.lf_unification.proofs.Agree.{fill_agree_type, set_here}
use Rattle.lf_unification.proofs.EquationLemmas.{respects_agree, solves_agree}
use Rattle.lf_unification.proofs.Filling.{skeleton_fill}
use Rattle.lf_unification.proofs.Inverse.{unren}
use Rattle.lf_unification.proofs.Offer.{decide, agree_skeleton, same_type, same_value, set_other, typed_agree}
use Rattle.lf_unification.proofs.Patterns.{fill_lambdas, left_side}
use Rattle.lf_unification.proofs.Raise.{fill_pis, has_body, has_lambda, lambda_over_fill}
use Rattle.lf_unification.proofs.Shrink.{RenamingBySkeletons-past}
use Rattle.lf_unification.proofs.Sound.{restrict, restrict_instance, restrict_same}
use Rattle.lf_unification.proofs.StepLemmas.{binding_complete, binding_sound, same_metavariables, value_of}
use Rattle.lf_unification.proofs.ToSkeletons.{typed_has_skeleton}
use Rattle.lf_unification.proofs.RenamingBack.{Back, HasType-unrename}

-- Binding by inversion: `m x.. = N` at the front of the equations becomes the binding of m to `[x..] N`.
pub binding_step : (Σ : Signature) (G : List LfType) (Ψ : ℕ → Option LfType) (bs : List Binding) (es : List Equation) (D : List LfType) (m : ℕ) (A : LfType) → Ψ m ≡ Some A → (xs : List ℕ) → ((Γ : List Skeleton) → PatternFits (local_skeletons D Γ) (skeletons_of Ψ m) xs) → Injective (pattern_renaming (skeletons_of Ψ m) xs (beyond D)) → (N : Term) (C : LfType) →
    KeepsUnifiers Σ G (record { metavariables = Ψ; bindings = bs; equations = record { local = D; left = root (metavariable m) (pattern (skeletons_of Ψ m) xs); right = rename (pattern_renaming (skeletons_of Ψ m) xs (beyond D)) N; of_type = C } ∷ es })
    (record { metavariables = Ψ; bindings = record { of = m; value = lambdas_of (skeletons_of Ψ m) N } ∷ bs; equations = es })
binding_step Σ G Ψ bs es D m A d xs p inj N C =
    same_metavariables Σ G Ψ bs (record { of = m; value = lambdas_of (skeletons_of Ψ m) N } ∷ bs) (record { local = D; left = root (metavariable m) (pattern (skeletons_of Ψ m) xs); right = rename (pattern_renaming (skeletons_of Ψ m) xs (beyond D)) N; of_type = C } ∷ es) es
    (λ F β w u. ((binding_complete Σ G Ψ D m A d xs p N C F β w inj u.1.0, u.0), u.1.1))
    (λ F β w u. (u.0.1, (binding_sound Σ G Ψ D m A d xs p N C F β w u.0.0, u.1)))

-- a new metavariable with a typed value
pub add_metavariable : (Σ : Signature) (ok : IsSignature Σ) (G F : List LfType) (Ψ : ℕ → Option LfType) (n : ℕ) (new : Ψ n ≡ None) (X : LfType) (V : Term) (β : ℕ → Option Term) → IsInstance Σ G Ψ F β → ((m : ℕ) (B : LfType) → Ψ m ≡ Some B → MetavariablesInType (Declares Ψ) B) → ((i : ℕ) (B : LfType) → TypeAt G i B → MetavariablesInType (Declares Ψ) B) → MetavariablesInType (Declares Ψ) X → HasType Σ F V (fill_type (skeletons_of Ψ) β X) → IsInstance Σ G (set_at n (Some X) Ψ) F (set_at n (Some V) β)
add_metavariable Σ ok G F Ψ n new X V β w scoped outer_scoped x_in v = record {
  context = w.context;
  outer = λ i A g. subst (TypeAt F i) (fill_agree_type (Declares Ψ) (skeletons_of Ψ) (skeletons_of (set_at n (Some X) Ψ)) (agree_skeleton Ψ n new X V β) β (set_at n (Some V) β) A (same_value Ψ n new X V β) (outer_scoped i A g)) (w.outer i A g);
  typed = λ m. go m (decide m n);
}
  where
    here : HasType Σ F V (fill_type (skeletons_of (set_at n (Some X) Ψ)) (set_at n (Some V) β) X)
    here = subst (HasType Σ F V) (fill_agree_type (Declares Ψ) (skeletons_of Ψ) (skeletons_of (set_at n (Some X) Ψ)) (agree_skeleton Ψ n new X V β) β (set_at n (Some V) β) X (same_value Ψ n new X V β) x_in) v

    put_typed : (x : Option LfType) (y : Option Term) → x ≡ Some X → y ≡ Some V → ValueHasType Σ F (skeletons_of (set_at n (Some X) Ψ)) (set_at n (Some V) β) x y
    put_typed x y e f = subst (λ z. ValueHasType Σ F (skeletons_of (set_at n (Some X) Ψ)) (set_at n (Some V) β) z y) (sym e) (subst (λ z. ValueHasType Σ F (skeletons_of (set_at n (Some X) Ψ)) (set_at n (Some V) β) (Some X) z) (sym f) here)

    go : (m : ℕ) → (m ≡ n) ⊎ (m ≡ n → ⊥) → ValueHasType Σ F (skeletons_of (set_at n (Some X) Ψ)) (set_at n (Some V) β) (set_at n (Some X) Ψ m) (set_at n (Some V) β m)
    go m (inl e) = put_typed (set_at n (Some X) Ψ m) (set_at n (Some V) β m) (ap (set_at n (Some X) Ψ) e ∙ set_here n (Some X) Ψ) (ap (set_at n (Some V) β) e ∙ set_here n (Some V) β)
    go m (inr h) = subst (λ z. ValueHasType Σ F (skeletons_of (set_at n (Some X) Ψ)) (set_at n (Some V) β) z (set_at n (Some V) β m)) (sym (set_other n (Some X) Ψ m h)) (subst (λ z. ValueHasType Σ F (skeletons_of (set_at n (Some X) Ψ)) (set_at n (Some V) β) (Ψ m) z) (sym (set_other n (Some V) β m h))
        (typed_agree Σ ok G F Ψ (skeletons_of (set_at n (Some X) Ψ)) β (set_at n (Some V) β) (agree_skeleton Ψ n new X V β) (same_value Ψ n new X V β) (Ψ m) (β m) (scoped m) (w.typed m)))

lambdas_pis : (E : List LfType) (P : LfType) (B : Term) → lambdas_of (skeleton (pi_over E P)) B ≡ lambda_over E (lambdas_of (skeleton P) B)
lambdas_pis [] P B = refl
lambdas_pis (A ∷ E) P B = lambdas_pis E (pi A P) B

-- Pruning: n, of the type of P closed over E, loses arguments; n', of the type of P' closed over E', has the arguments zs that stay.
module _ (Σ : Signature) (ok : IsSignature Σ) (G : List LfType) (Ψ : ℕ → Option LfType) (n n' : ℕ) (new : Ψ n' ≡ None) (E E' : List LfType) (a a' : ℕ) (T T' : Spine) (declared : Ψ n ≡ Some (pi_over E (atom a T))) (zs : List ℕ) (F : List LfType) (β : ℕ → Option Term) (w : IsInstance Σ G Ψ F β) where
  abbrev μ : ℕ → Skeleton
  μ = skeletons_of Ψ

  abbrev X : LfType
  X = pi_over E' (atom a' T')

  abbrev kept : ℕ → ℕ
  kept = pattern_renaming (skeleton X) zs (past (skeleton (pi_over E (atom a T))))

  -- The value of n, if it uses only what stays, gives a typed value of n'.
  pub pruned_value : Injective kept → Back (onto (fill_locals μ β E') F) (onto (fill_locals μ β E) F) kept → fill_type μ (under_locals E β) (atom a T) ≡ rename_type kept (fill_type μ (under_locals E' β) (atom a' T')) →
      (W : Term) → β n ≡ Some W → HasType Σ F W (fill_type μ β (pi_over E (atom a T))) → ((B : Term) → W ≡ lambdas_of (skeleton (pi_over E (atom a T))) B → FreeVariablesIn (InImage kept) B) →
      (B' : Term) × (W ≡ lambdas_of (skeleton (pi_over E (atom a T))) (rename kept B')) × HasType Σ F (lambdas_of (skeleton X) B') (fill_type μ β X)
  pruned_value inj back p W f v o =
      let (B, q, b) = has_body Σ F (fill_locals μ β E) W (fill_type μ (under_locals E β) (atom a T)) (subst (HasType Σ F W) (fill_pis μ β E (atom a T)) v) in
      let q' : W ≡ lambdas_of (skeleton (pi_over E (atom a T))) B = q ∙ lambda_over_fill μ β E B ∙ sym (lambdas_pis E (atom a T) B) in
      let (B', r) = unren kept B (o B q') in
      let b' : HasType Σ (onto (fill_locals μ β E') F) B' (fill_type μ (under_locals E' β) (atom a' T')) = HasType-unrename Σ ok (onto (fill_locals μ β E') F) (onto (fill_locals μ β E) F) kept B' (fill_type μ (under_locals E' β) (atom a' T')) inj back (subst (λ Z. HasType Σ (onto (fill_locals μ β E) F) (rename kept B') Z) p (subst (λ Z. HasType Σ (onto (fill_locals μ β E) F) Z (fill_type μ (under_locals E β) (atom a T))) (sym r) b)) in (
        B',
        q' ∙ ap (lambdas_of (skeleton (pi_over E (atom a T)))) (sym r),
        subst (λ Z. HasType Σ F Z (fill_type μ β X)) (lambda_over_fill μ β E' B' ∙ sym (lambdas_pis E' (atom a' T') B')) (subst (HasType Σ F (lambda_over (fill_locals μ β E') B')) (sym (fill_pis μ β E' (atom a' T'))) (has_lambda Σ F (fill_locals μ β E') B' (fill_type μ (under_locals E' β) (atom a' T')) b')),
      )

  -- and the binding of n holds then
  pub pruned_binding : PatternFits (context_under (skeleton (pi_over E (atom a T))) (context_skeletons F)) (skeleton X) zs → (B' W : Term) → W ≡ lambdas_of (skeleton (pi_over E (atom a T))) (rename kept B') → HasType Σ F (lambdas_of (skeleton X) B') (fill_type μ β X) → (μ' : ℕ → Skeleton) (β' : ℕ → Option Term) → μ' n' ≡ skeleton X → β' n' ≡ Some (lambdas_of (skeleton X) B') → W ≡ fill μ' β' (lambdas_of (skeleton (pi_over E (atom a T))) (root (metavariable n') (pattern (skeleton X) zs)))
  pruned_binding z B' W q v μ' β' s e =
      let t : Skeleton = skeleton (pi_over E (atom a T)) in
      let v' : TermSkeleton (as_head_skeletons (total_skeletons Σ μ')) (context_skeletons F) (lambdas_of (skeleton X) B') (skeleton X) = subst (TermSkeleton (as_head_skeletons (total_skeletons Σ μ')) (context_skeletons F) (lambdas_of (skeleton X) B')) (skeleton_fill μ β X) (typed_has_skeleton Σ μ' F (lambdas_of (skeleton X) B') (fill_type μ β X) v) in
      q ∙ ap (lambdas_of t) (sym (side μ' β' s e v' z)) ∙ sym (fill_lambdas μ' t β' (root (metavariable n') (pattern (skeleton X) zs)))
    where
      side : (μ' : ℕ → Skeleton) (β' : ℕ → Option Term) → μ' n' ≡ skeleton X → β' n' ≡ Some (lambdas_of (skeleton X) B') → TermSkeleton (as_head_skeletons (total_skeletons Σ μ')) (context_skeletons F) (lambdas_of (skeleton X) B') (skeleton X) → PatternFits (context_under (skeleton (pi_over E (atom a T))) (context_skeletons F)) (skeleton X) zs → fill μ' (moved (past (skeleton (pi_over E (atom a T)))) β') (root (metavariable n') (pattern (skeleton X) zs)) ≡ rename kept B'
      side μ' β' s e v z =
          subst (λ x. TermSkeleton (as_head_skeletons (total_skeletons Σ μ')) (context_skeletons F) (lambdas_of x B') x → β' n' ≡ Some (lambdas_of x B') → PatternFits (context_under (skeleton (pi_over E (atom a T))) (context_skeletons F)) x zs → fill μ' (moved (past (skeleton (pi_over E (atom a T)))) β') (root (metavariable n') (pattern x zs)) ≡ rename (pattern_renaming x zs (past (skeleton (pi_over E (atom a T))))) B') s
          (λ v e z. left_side (total_skeletons Σ μ') (context_skeletons F) (context_under (skeleton (pi_over E (atom a T))) (context_skeletons F)) (past (skeleton (pi_over E (atom a T)))) (RenamingBySkeletons-past (skeleton (pi_over E (atom a T))) (context_skeletons F)) n' zs z β' (lambdas_of (μ' n') B') e v B' refl) v e z

-- what a pruning rests on, at each typed unifier of the store
pub record Prunes (Σ : Signature) (G : List LfType) (s : Store) (n n' : ℕ) (E E' : List LfType) (a a' : ℕ) (T T' : Spine) (zs : List ℕ) : Type 0 where
  pub declared : s.metavariables n ≡ Some (pi_over E (atom a T))
  pub new : s.metavariables n' ≡ None
  pub types : (m : ℕ) (B : LfType) → s.metavariables m ≡ Some B → MetavariablesInType (Declares s.metavariables) B
  pub outer : (i : ℕ) (B : LfType) → TypeAt G i B → MetavariablesInType (Declares s.metavariables) B
  pub new_type : MetavariablesInType (Declares s.metavariables) (pi_over E' (atom a' T'))
  pub bindings : MetavariablesInBindings (Declares s.metavariables) s.bindings
  pub equations : MetavariablesInEquations (Declares s.metavariables) s.equations
  pub distinct : Injective (pattern_renaming (skeleton (pi_over E' (atom a' T'))) zs (past (skeleton (pi_over E (atom a T)))))
  pub places : (Γ : List Skeleton) → PatternFits (context_under (skeleton (pi_over E (atom a T))) Γ) (skeleton (pi_over E' (atom a' T'))) zs
  -- no typed unifier uses the other arguments
  pub unused : (F : List LfType) (β : ℕ → Option Term) → Solution Σ G s F β → (B : Term) → β n ≡ Some (lambdas_of (skeleton (pi_over E (atom a T))) B) → FreeVariablesIn (InImage (pattern_renaming (skeleton (pi_over E' (atom a' T'))) zs (past (skeleton (pi_over E (atom a T)))))) B
  -- and the new type is the old one without them
  pub back : (F : List LfType) (β : ℕ → Option Term) → Solution Σ G s F β → Back (onto (fill_locals (skeletons_of s.metavariables) β E') F) (onto (fill_locals (skeletons_of s.metavariables) β E) F) (pattern_renaming (skeleton (pi_over E' (atom a' T'))) zs (past (skeleton (pi_over E (atom a T)))))
  pub same_target : (F : List LfType) (β : ℕ → Option Term) → Solution Σ G s F β → fill_type (skeletons_of s.metavariables) (under_locals E β) (atom a T) ≡ rename_type (pattern_renaming (skeleton (pi_over E' (atom a' T'))) zs (past (skeleton (pi_over E (atom a T))))) (fill_type (skeletons_of s.metavariables) (under_locals E' β) (atom a' T'))

module _ (Σ : Signature) (ok : IsSignature Σ) (G : List LfType) (s : Store) (n n' : ℕ) (E E' : List LfType) (a a' : ℕ) (T T' : Spine) (zs : List ℕ) (p : Prunes Σ G s n n' E E' a a' T T' zs) where
  abbrev pub X₁ : LfType
  X₁ = pi_over E' (atom a' T')

  abbrev pub t₁ : Skeleton
  t₁ = skeleton (pi_over E (atom a T))

  abbrev pub pruned : Store
  pruned = record { metavariables = set_at n' (Some X₁) s.metavariables; bindings = record { of = n; value = lambdas_of t₁ (root (metavariable n') (pattern (skeleton X₁) zs)) } ∷ s.bindings; equations = s.equations }

  complete_one : (F : List LfType) (β : ℕ → Option Term) → Solution Σ G s F β → (β' : ℕ → Option Term) × ExtendsFilling s.metavariables β β' × Solution Σ G pruned F β'
  complete_one F β u =
      let (W, f, v) = value_of Σ G s.metavariables F β u.0 n (pi_over E (atom a T)) p.declared in
      let (B', q, x) = pruned_value Σ ok G s.metavariables n n' p.new E E' a a' T T' p.declared zs F β u.0 p.distinct (p.back F β u) (p.same_target F β u) W f v (λ B e. p.unused F β u B (f ∙ ap Some e)) in
      finish W f B' q x
    where
      finish : (W : Term) → β n ≡ Some W → (B' : Term) → W ≡ lambdas_of t₁ (rename (pattern_renaming (skeleton X₁) zs (past t₁)) B') → HasType Σ F (lambdas_of (skeleton X₁) B') (fill_type (skeletons_of s.metavariables) β X₁) → (β' : ℕ → Option Term) × ExtendsFilling s.metavariables β β' × Solution Σ G pruned F β'
      finish W f B' q x =
          let V : Term = lambdas_of (skeleton X₁) B' in
          let vals : (m : ℕ) → Declares s.metavariables m → β m ≡ set_at n' (Some V) β m = same_value s.metavariables n' p.new X₁ V β in
          let skels : (m : ℕ) → Declares s.metavariables m → skeletons_of s.metavariables m ≡ skeletons_of (set_at n' (Some X₁) s.metavariables) m = agree_skeleton s.metavariables n' p.new X₁ V β in (
            set_at n' (Some V) β,
            λ m A e. sym (vals m (A, e)),
            (
              add_metavariable Σ ok G F s.metavariables n' p.new X₁ V β u.0 p.types p.outer p.new_type x,
              (
                (
                  sym (vals n (pi_over E (atom a T), p.declared)) ∙ f ∙ ap Some (pruned_binding Σ ok G s.metavariables n n' p.new E E' a a' T T' p.declared zs F β u.0 (p.places (context_skeletons F)) B' W q x (skeletons_of (set_at n' (Some X₁) s.metavariables)) (set_at n' (Some V) β) (ap skeleton_or_default (set_here n' (Some X₁) s.metavariables)) (set_here n' (Some V) β)),
                  respects_agree (Declares s.metavariables) (skeletons_of s.metavariables) (skeletons_of (set_at n' (Some X₁) s.metavariables)) skels β (set_at n' (Some V) β) vals s.bindings p.bindings u.1.0,
                ),
                solves_agree (Declares s.metavariables) (skeletons_of s.metavariables) (skeletons_of (set_at n' (Some X₁) s.metavariables)) skels β (set_at n' (Some V) β) vals s.equations p.equations u.1.1,
              ),
            ),
          )

  -- THE theorem on pruning
  pub prune_step : KeepsUnifiers Σ G s pruned
  prune_step = record {
    grows = λ m A e. sym (same_type s.metavariables n' p.new X₁ (root (variable 0) nil) (λ k. None) m (A, e)) ∙ e;
    sound = λ F β' u.
        let grows : (m : ℕ) (A : LfType) → s.metavariables m ≡ Some A → set_at n' (Some X₁) s.metavariables m ≡ Some A = λ m A e. sym (same_type s.metavariables n' p.new X₁ (root (variable 0) nil) (λ k. None) m (A, e)) ∙ e in
        let vals : (m : ℕ) → Declares s.metavariables m → β' m ≡ restrict s.metavariables β' m = λ m d. restrict_same s.metavariables β' m d.0 d.1 in
        let skels : (m : ℕ) → Declares s.metavariables m → skeletons_of (set_at n' (Some X₁) s.metavariables) m ≡ skeletons_of s.metavariables m = λ m d. sym (agree_skeleton s.metavariables n' p.new X₁ (root (variable 0) nil) (λ k. None) m d) in (
          restrict s.metavariables β',
          λ m A e. restrict_same s.metavariables β' m A e,
          (
            restrict_instance Σ G F s.metavariables (set_at n' (Some X₁) s.metavariables) β' grows p.types p.outer u.0,
            (
              respects_agree (Declares s.metavariables) (skeletons_of (set_at n' (Some X₁) s.metavariables)) (skeletons_of s.metavariables) skels β' (restrict s.metavariables β') vals s.bindings p.bindings u.1.0.1,
              solves_agree (Declares s.metavariables) (skeletons_of (set_at n' (Some X₁) s.metavariables)) (skeletons_of s.metavariables) skels β' (restrict s.metavariables β') vals s.equations p.equations u.1.1,
            ),
          ),
        );
    complete = complete_one;
  }
