-- A metavariable on all its local variables: nothing must be dropped for it, and putting in keeps it one.
use Rattle.std.proofs.Common.{◌≡◌, ℕ, zero, suc, ◌⊎◌, List, [], ◌∷◌, length, inl, inr, refl, sym, ap, ap₂, ◌∙◌, subst, arith}
use Rattle.std.specs.Prelude.{◌<◌, Bool, false, Option, Some}
use Rattle.lf.specs.Eta.{arity, eta_arguments, eta_long}
use Rattle.lf.specs.Rules.{Reduces}
use Rattle.lf.specs.SkeletonTyping.{SpineSkeleton}
use Rattle.lf.specs.Subordination.{Member}
use Rattle.lf.specs.Substitution.{reduce}
use Rattle.lf.specs.Syntax.{constant, variable, metavariable, Term, Spine, lambda, root, nil, app, LfType, Skeleton, base, arrow, skeleton, rename}
use Rattle.lf.specs.Typing.{Signature}
use Rattle.lf.specs.Variables.{target}
use Rattle.lf.proofs.Eta.{reduction_eta, rename_eta_expand}
use Rattle.lf.proofs.Rules.{rules_agree_reduction}
use Rattle.lf_unification.specs.Inversion.{ElementAt, IsPattern, MustDrop}
use Rattle.lf_unification.specs.OpenTyping.{MetavariablesInSpine, skeletons_of}
use Rattle.lf_unification.specs.Patterns.{InImage, LiftedSet, PatternFits, beyond, local_skeletons, past, pattern, pattern_renaming, skeleton_target}
use Rattle.lf_unification.specs.Putting.{PutsSome, PutsSomeSpine, binders, put_nothing, some_under_lambda, some_in_arguments, some_at_bound}
use Rattle.lf_unification.specs.Rigid.{LiftedSetBy, past_binders}
use Rattle.lf_unification.specs.Skeletons.{as_head_skeletons, skeleton_or_default, total_skeletons}
use Rattle.lf_unification.specs.Unifiers.{Binding}
use Rattle.lf_unification.proofs.BindTyped.{in_pattern}
use Rattle.lf_unification.proofs.Offer.{decide}
use Rattle.lf_unification.proofs.Patterns.{past_rename}
use Rattle.lf_coverage.specs.PatternStores.{BindingsArePatterns, IsPatternTerm}
use Rattle.lf_coverage.proofs.IndicesCore.{variable_one}
use Rattle.lf_coverage.proofs.IndicesPruned.{at_index, index_of}
use Rattle.lf_coverage.proofs.PatternHeadTerm.{target_is}
use Rattle.lf_coverage.proofs.PatternEta.{countdown}
use Rattle.lf_coverage.proofs.PatternSides.{at_bound, plain_same_spine}
use Rattle.lf_coverage.proofs.PatternTerms.{distinct_fit}

-- Under n local variables the term is a metavariable on all of them, the oldest first.
abbrev pub OnAll : ℕ → Term → Type 0
OnAll n (lambda M) = OnAll (suc n) M
OnAll n (root (constant c) S) = ⊥
OnAll n (root (variable i) S) = ⊥
OnAll n (root (metavariable k) S) = (t : Skeleton) × (S ≡ eta_arguments t) × (arity t ≡ n)

-- its head is no metavariable
abbrev pub IsRigidTerm : Term → Type 0
IsRigidTerm (lambda M) = IsRigidTerm M
IsRigidTerm (root (constant c) S) = Unit {0}
IsRigidTerm (root (variable i) S) = Unit {0}
IsRigidTerm (root (metavariable k) S) = ⊥

-- So the pattern has each variable, and nothing must be dropped.
xs_same : (Γ : List Skeleton) (t : Skeleton) (xs : List ℕ) (u : Skeleton) → PatternFits Γ t xs → pattern t xs ≡ eta_arguments u → xs ≡ countdown u
xs_same Γ (base c) [] (base d) f e = refl
xs_same Γ (base c) [] (arrow p q) f e = absurd cc
xs_same Γ (base c) (x ∷ xs) u f e = absurd f
xs_same Γ (arrow a b) [] u f e = absurd f
xs_same Γ (arrow a b) (x ∷ xs) (base d) f e = absurd cc
xs_same Γ (arrow a b) (x ∷ xs) (arrow p q) (g, f) e = ap₂ (λ y ys. y ∷ ys) (variable_one a p x (arity q) (first e)) (xs_same Γ b xs q f (rest e))
  where
    first : {M N : Term} {S T : Spine} → app M S ≡ app N T → M ≡ N
    first e = cc

    rest : {M N : Term} {S T : Spine} → app M S ≡ app N T → S ≡ T
    rest e = cc

less : (i n : ℕ) → i < suc n → (n ≡ i → ⊥) → i < n
less zero zero l h = absurd (h refl)
less zero (suc n) l h = omega arith
less (suc i) zero l h = absurd (omega (arith, l))
less (suc i) (suc n) l h = next i n (less i n (omega (arith, l)) (λ e. h (ap suc e)))
  where
    next : (i n : ℕ) → i < n → suc i < suc n
    next i n l = omega (arith, l)

in_countdown : (u : Skeleton) (i : ℕ) → i < arity u → (j : ℕ) × ElementAt (countdown u) j i
in_countdown (base c) i l = absurd (omega (arith, l))
in_countdown (arrow a b) i l = by (in_countdown b i) (decide (arity b) i)
  where
    by : (i < arity b → (j : ℕ) × ElementAt (countdown b) j i) → (arity b ≡ i) ⊎ (arity b ≡ i → ⊥) → (j : ℕ) × ElementAt (arity b ∷ countdown b) j i
    by ih (inl e) = (zero, e)
    by ih (inr h) = let (j, g) = ih (less i (arity b) l h) in (suc j, g)

beyond_or : (D : List LfType) (i : ℕ) → (i < binders D) ⊎ ((j : ℕ) × (beyond D j ≡ i))
beyond_or [] i = inr (i, refl)
beyond_or (A ∷ D) zero = inl (first (binders D))
  where
    first : (n : ℕ) → zero < suc n
    first n = omega arith
beyond_or (A ∷ D) (suc i) = by (beyond_or D i)
  where
    next : (m n : ℕ) → m < n → suc m < suc n
    next m n l = omega (arith, l)

    by : (i < binders D) ⊎ ((j : ℕ) × (beyond D j ≡ i)) → (suc i < suc (binders D)) ⊎ ((j : ℕ) × (suc (beyond D j) ≡ suc i))
    by (inl l) = inl (next i (binders D) l)
    by (inr (j, e)) = inr (j, ap suc e)

lifted_all : (P : ℕ → Type 0) → ((i : ℕ) → P i) → (k i : ℕ) → LiftedSetBy k P i
lifted_all P h zero i = h i
lifted_all P h (suc k) i = lifted_all (LiftedSet P) under k i
  where
    under : (i : ℕ) → LiftedSet P i
    under zero = tt
    under (suc i) = h i

pub nothing_must_go : (Ψ : ℕ → Option LfType) (D : List LfType) (t : Skeleton) (xs : List ℕ) (m : ℕ) (N : Term) → IsPattern D t xs → OnAll (binders D) (root (metavariable m) (pattern t xs)) → MustDrop Ψ D t xs N → ⊥
nothing_must_go Ψ D t xs m N p (u, e, n) d = d.is_bad (lifted_all (InImage (pattern_renaming t xs (beyond D))) covered d.depth d.bad)
  where
    same : xs ≡ countdown u
    same = xs_same (local_skeletons D []) t xs u (p.places []) e

    covered : (i : ℕ) → InImage (pattern_renaming t xs (beyond D)) i
    covered i = by (beyond_or D i)
      where
        by : (i < binders D) ⊎ ((j : ℕ) × (beyond D j ≡ i)) → InImage (pattern_renaming t xs (beyond D)) i
        by (inl l) =
            let (j, g) = in_countdown u i (subst (λ k. i < k) (sym n) l) in
            (index_of t j, at_index (local_skeletons D []) t xs (beyond D) j i (p.places []) (subst (λ ys. ElementAt ys j i) (sym (xs_same (local_skeletons D []) t xs u (p.places []) e)) g))
        by (inr (j, q)) = (past t j, past_rename (local_skeletons D []) t xs (beyond D) j (p.places []) ∙ q)

-- putting in leaves a head that is no metavariable
pub puts_rigid : {Ψ : ℕ → Option LfType} {bs : List Binding} {k : ℕ} {M M' : Term} → PutsSome Ψ bs k M M' → IsRigidTerm M → IsRigidTerm M'
puts_rigid put_nothing r = r
puts_rigid (some_under_lambda q) r = puts_rigid q r
puts_rigid (some_in_arguments (constant c) s) r = tt
puts_rigid (some_in_arguments (variable i) s) r = tt
puts_rigid (some_in_arguments (metavariable m) s) r = absurd r
puts_rigid (some_at_bound b m s x q) r = absurd r

module _ (Σ : Signature) (L : ℕ → Bool) where
  -- A bound metavariable of another family is renamed only.
  abbrev pub Unforced : (ℕ → Option LfType) → List Binding → Type 0
  Unforced Ψ bs = (b : Binding) → Member b bs → (B : LfType) → Ψ b.of ≡ Some B → L (target B) ≡ false → (j : ℕ) × (b.value ≡ eta_long (skeleton B) (metavariable j))

  module _ (Ψ : ℕ → Option LfType) (bs : List Binding) (h : BindingsArePatterns Σ Ψ bs) (u : Unforced Ψ bs) where
    bound_on : (k : ℕ) (Γ : List Skeleton) (c : ℕ) (b : Binding) (S S' : Spine) (R : Term) → Member b bs → PutsSomeSpine Ψ bs k S S' → Reduces (skeletons_of Ψ b.of) (rename (past_binders k) b.value) S' R → IsPatternTerm Σ Ψ Γ (root (metavariable b.of) S) (base c) → L c ≡ false → (j : ℕ) × (R ≡ root (metavariable j) S)
    bound_on k Γ c b S S' R m s r (A, e, q, d) f =
        let t : Skeleton = skeleton A in
        let (j, v) = u b m A e (subst (λ z. L z ≡ false) (sym q ∙ target_is A) f) in
        let same : S' ≡ S = plain_same_spine Σ Ψ s (subst (MetavariablesInSpine (λ n. ⊥)) (sym d.same) (in_pattern (λ n. ⊥) t d.variables)) in
        let fit : SpineSkeleton (as_head_skeletons (total_skeletons Σ (skeletons_of Ψ))) Γ S t (base (skeleton_target t)) = subst (λ T. SpineSkeleton (as_head_skeletons (total_skeletons Σ (skeletons_of Ψ))) Γ T t (base (skeleton_target t))) (sym d.same) (distinct_fit Σ (skeletons_of Ψ) Γ t d.variables d.places) in (
          j,
          rules_agree_reduction r
              ∙ ap (λ x. reduce x (rename (past_binders k) b.value) S') (ap skeleton_or_default e)
              ∙ ap₂ (λ V T. reduce t V T) (ap (rename (past_binders k)) v ∙ rename_eta_expand (past_binders k) t (metavariable j) nil) same
              ∙ reduction_eta (as_head_skeletons (total_skeletons Σ (skeletons_of Ψ))) t Γ (metavariable j) S (skeleton_target t) fit,
        )

    pub puts_on_all : {k : ℕ} {M M' : Term} → PutsSome Ψ bs k M M' → (Γ : List Skeleton) (t : Skeleton) → length Γ ≡ k → IsPatternTerm Σ Ψ Γ M t → L (skeleton_target t) ≡ false → (n : ℕ) → OnAll n M → OnAll n M'
    puts_on_all put_nothing Γ t l p f n o = o
    puts_on_all (some_under_lambda q) Γ (arrow a b) l p f n o = puts_on_all q (a ∷ Γ) b (ap suc l) p f (suc n) o
    puts_on_all (some_under_lambda q) Γ (base c) l p f n o = absurd p
    puts_on_all (some_in_arguments (constant d) s) Γ t l p f n o = absurd o
    puts_on_all (some_in_arguments (variable d) s) Γ t l p f n o = absurd o
    puts_on_all (some_in_arguments (metavariable d) s) Γ (arrow a b) l p f n o = absurd p
    puts_on_all (some_in_arguments (metavariable d) s) Γ (base c) l (A, e, q, x) f n (t, y, z) = (t, plain_same_spine Σ Ψ s (subst (MetavariablesInSpine (λ i. ⊥)) (sym x.same) (in_pattern (λ i. ⊥) (skeleton A) x.variables)) ∙ y, z)
    puts_on_all (some_at_bound b m s r q) Γ (arrow x y) l p f n o = absurd p
    puts_on_all (some_at_bound {k = k} {S = S} {S' = S'} {R = R} b m s r q) Γ (base c) l p f n o = let (j, w) = bound_on k Γ c b S S' R m s r p f in puts_on_all q Γ (base c) l (at_bound Σ Ψ bs h k Γ c b S S' R l m s r p) f n (subst (OnAll n) (sym w) o)
