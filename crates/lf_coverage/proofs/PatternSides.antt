-- Values of patterns, put into patterns and bound, and the sides of equations.
use Rattle.std.proofs.Common.{◌≡◌, ℕ, zero, suc, List, [], ◌∷◌, length, inl, inr, refl, sym, ap, ap₂, ◌∙◌, subst}
use Rattle.std.specs.Prelude.{Option, Some}
use Rattle.lf.specs.Rules.{Reduces}
use Rattle.lf.specs.SkeletonTyping.{SkeletonAt, RenamingBySkeletons}
use Rattle.lf.specs.Skeletons.{type_skeleton}
use Rattle.lf.specs.Subordination.{Member}
use Rattle.lf.specs.Substitution.{single, reduce}
use Rattle.lf.specs.Syntax.{Head, constant, variable, metavariable, Term, Spine, lambda, root, nil, app, LfType, pi, atom, Skeleton, base, arrow, skeleton, rename}
use Rattle.lf.specs.Typing.{Signature, TypeAt, instantiate_type}
use Rattle.lf.specs.Variables.{onto}
use Rattle.lf.proofs.Rules.{rules_agree_reduction}
use Rattle.lf.proofs.TypeLaws.{skeleton_renamed, skeleton_substituted}
use Rattle.lf_unification.specs.Inversion.{IsPattern}
use Rattle.lf_unification.specs.Lists.{followed}
use Rattle.lf_unification.specs.Offering.{argument_equations}
use Rattle.lf_unification.specs.OpenTyping.{MetavariablesIn, MetavariablesInSpine, OpenHeadHasType, skeletons_of}
use Rattle.lf_unification.specs.Patterns.{Injective, PatternFits, beyond, context_under, lambdas_of, local_skeletons, pattern, pattern_renaming, skeleton_target}
use Rattle.lf_unification.specs.Putting.{IsRigidHead, PutsInType, put_in_atom, put_in_pi, PutsSome, PutsSomeSpine, put_nothing, some_under_lambda, some_in_arguments, some_at_bound, some_nowhere, some_in_argument}
use Rattle.lf_unification.specs.Rigid.{past_binders}
use Rattle.lf_unification.specs.Skeletons.{skeleton_or_default, total_skeletons}
use Rattle.lf_unification.specs.Steps.{on_pattern}
use Rattle.lf_unification.specs.Unifiers.{Binding, Equation, Side, equation_on, on_left, on_right}
use Rattle.lf_unification.proofs.BindTyped.{in_pattern}
use Rattle.lf_unification.proofs.Patterns.{apply_pattern, body}
use Rattle.lf_unification.proofs.Putting.{put_some_spine, put_type_skeleton}
use Rattle.lf_unification.proofs.Shrink.{RenamingBySkeletons-pattern, SkeletonsBack-pattern}
use Rattle.lf_unification.proofs.ToSkeletons.{SkeletonAt-once}
use Rattle.lf_coverage.specs.PatternStores.{AreDistinct, ArePatternArguments, BindingsArePatterns, IsPatternTerm, IsPatternType, SidesArePatterns}
use Rattle.lf_coverage.specs.TermMatching.{over}
use Rattle.lf_coverage.proofs.PatternMoves.{past_is, beyond_is, none_outside, pattern_moves}
use Rattle.lf_coverage.proofs.PatternTerms.{term_back, term_has, term_renamed}
use mathlib.Core.Path.{fun_ext}

module _ (Σ : Signature) (Ψ : ℕ → Option LfType) where
  -- lambdas
  pub under : (t : Skeleton) (Γ : List Skeleton) (B : Term) → IsPatternTerm Σ Ψ Γ (lambdas_of t B) t → IsPatternTerm Σ Ψ (context_under t Γ) B (base (skeleton_target t))
  under (base c) Γ B p = p
  under (arrow a b) Γ B p = under b (a ∷ Γ) B p

  pub closed : (t : Skeleton) (Γ : List Skeleton) (B : Term) → IsPatternTerm Σ Ψ (context_under t Γ) B (base (skeleton_target t)) → IsPatternTerm Σ Ψ Γ (lambdas_of t B) t
  closed (base c) Γ B p = p
  closed (arrow a b) Γ B p = closed b (a ∷ Γ) B p

  -- a value on a pattern
  pub applied : (Γ : List Skeleton) (t : Skeleton) (xs : List ℕ) (V : Term) → PatternFits Γ t xs → Injective (pattern_renaming t xs (over (length Γ))) → IsPatternTerm Σ Ψ [] V t → IsPatternTerm Σ Ψ Γ (reduce t (rename (over (length Γ)) V) (pattern t xs)) (base (skeleton_target t))
  applied Γ t xs V p d v =
      let (W, w) = body (total_skeletons Σ (skeletons_of Ψ)) [] t V (term_has Σ Ψ [] V t v) in
      let v' : IsPatternTerm Σ Ψ [] (lambdas_of t W) t = subst (λ X. IsPatternTerm Σ Ψ [] X t) w v in
      let none : RenamingBySkeletons [] Γ (over (length Γ)) = λ i u h. absurd h in
      let e : reduce t (rename (over (length Γ)) V) (pattern t xs) ≡ rename (pattern_renaming t xs (over (length Γ))) W = ap (λ X. reduce t (rename (over (length Γ)) X) (pattern t xs)) w ∙ apply_pattern (total_skeletons Σ (skeletons_of Ψ)) t [] Γ (over (length Γ)) xs W none p (term_has Σ Ψ [] (lambdas_of t W) t v') in
      subst (λ X. IsPatternTerm Σ Ψ Γ X (base (skeleton_target t))) (sym e) (term_renamed Σ Ψ (context_under t []) Γ (pattern_renaming t xs (over (length Γ))) W (base (skeleton_target t)) (pattern_moves Γ t xs p d) (RenamingBySkeletons-pattern [] Γ t xs (over (length Γ)) none p) (under t [] W v'))

  pub value_at : (bs : List Binding) → BindingsArePatterns Σ Ψ bs → (b : Binding) → Member b bs → (A : LfType) × (Ψ b.of ≡ Some A) × IsPatternTerm Σ Ψ [] b.value (skeleton A)
  value_at [] h b m = absurd m
  value_at (c ∷ bs) (x, h) b (inl e) = subst (λ (y : Binding). (A : LfType) × (Ψ y.of ≡ Some A) × IsPatternTerm Σ Ψ [] y.value (skeleton A)) (sym e) x
  value_at (c ∷ bs) (x, h) b (inr m) = value_at bs h b m

  -- nothing is put into variables
  mutual
    plain_same : {bs : List Binding} {k : ℕ} {M M' : Term} → PutsSome Ψ bs k M M' → MetavariablesIn (λ m. ⊥) M → M' ≡ M
    plain_same put_nothing v = refl
    plain_same (some_under_lambda p) v = ap lambda (plain_same p v)
    plain_same (some_in_arguments (constant c) s) v = ap (root (constant c)) (plain_same_spine s v)
    plain_same (some_in_arguments (variable i) s) v = ap (root (variable i)) (plain_same_spine s v)
    plain_same (some_in_arguments (metavariable m) s) (x, v) = absurd x
    plain_same (some_at_bound b m s r q) (x, v) = absurd x

    pub plain_same_spine : {bs : List Binding} {k : ℕ} {S S' : Spine} → PutsSomeSpine Ψ bs k S S' → MetavariablesInSpine (λ m. ⊥) S → S' ≡ S
    plain_same_spine some_nowhere v = refl
    plain_same_spine (some_in_argument p s) (v, w) = ap₂ app (plain_same p v) (plain_same_spine s w)

  pattern_same : {bs : List Binding} {k : ℕ} {S S' : Spine} → PutsSomeSpine Ψ bs k S S' → (t : Skeleton) (xs : List ℕ) → S ≡ pattern t xs → S' ≡ S
  pattern_same s t xs e = plain_same_spine s (subst (MetavariablesInSpine (λ m. ⊥)) (sym e) (in_pattern (λ m. ⊥) t xs))

  some_one : {A B : LfType} → Some A ≡ Some B → A ≡ B
  some_one e = cc

  module _ (bs : List Binding) (h : BindingsArePatterns Σ Ψ bs) where
    pub at_bound : (k : ℕ) (Γ : List Skeleton) (c : ℕ) (b : Binding) (S S' : Spine) (R : Term) → length Γ ≡ k → Member b bs → PutsSomeSpine Ψ bs k S S' → Reduces (skeletons_of Ψ b.of) (rename (past_binders k) b.value) S' R → IsPatternTerm Σ Ψ Γ (root (metavariable b.of) S) (base c) → IsPatternTerm Σ Ψ Γ R (base c)
    at_bound k Γ c b S S' R l m s r (A, e, q, d) =
        let (B, f, v) = value_at bs h b m in
        let t : Skeleton = skeleton A in
        let v' : IsPatternTerm Σ Ψ [] b.value t = subst (λ X. IsPatternTerm Σ Ψ [] b.value (skeleton X)) (some_one (sym f ∙ e)) v in
        let same : S' ≡ pattern t d.variables = pattern_same s t d.variables d.same ∙ d.same in
        let renames : past_binders k ≡ over (length Γ) = fun_ext (λ i. past_is k i ∙ ap (λ n. over n i) (sym l)) in
        let is : R ≡ reduce t (rename (over (length Γ)) b.value) (pattern t d.variables) = rules_agree_reduction r ∙ ap (λ u. reduce u (rename (past_binders k) b.value) S') (ap skeleton_or_default e) ∙ ap₂ (λ ρ T. reduce t (rename ρ b.value) T) renames same in
        subst (λ X. IsPatternTerm Σ Ψ Γ X (base c)) (sym is) (subst (λ x. IsPatternTerm Σ Ψ Γ (reduce t (rename (over (length Γ)) b.value) (pattern t d.variables)) (base x)) q (applied Γ t d.variables b.value d.places d.distinct v'))

    mutual
      pub puts : {k : ℕ} {M M' : Term} → PutsSome Ψ bs k M M' → (Γ : List Skeleton) (t : Skeleton) → length Γ ≡ k → IsPatternTerm Σ Ψ Γ M t → IsPatternTerm Σ Ψ Γ M' t
      puts put_nothing Γ t l p = p
      puts (some_under_lambda q) Γ (arrow a b) l p = puts q (a ∷ Γ) b (ap suc l) p
      puts (some_under_lambda q) Γ (base c) l p = absurd p
      puts (some_in_arguments (constant d) s) Γ (arrow a b) l p = absurd p
      puts (some_in_arguments (variable d) s) Γ (arrow a b) l p = absurd p
      puts (some_in_arguments (metavariable d) s) Γ (arrow a b) l p = absurd p
      puts (some_in_arguments (constant d) s) Γ (base c) l (t, e, r) = (t, e, puts_spine s Γ t (base c) l r)
      puts (some_in_arguments (variable d) s) Γ (base c) l (t, e, r) = (t, e, puts_spine s Γ t (base c) l r)
      puts (some_in_arguments (metavariable d) s) Γ (base c) l (A, e, q, r) = (A, e, q, subst (AreDistinct Γ (skeleton A)) (sym (pattern_same s (skeleton A) r.variables r.same)) r)
      puts (some_at_bound b m s r q) Γ (arrow x y) l p = absurd p
      puts (some_at_bound {k = k} {S = S} {S' = S'} {R = R} b m s r q) Γ (base c) l p = puts q Γ (base c) l (at_bound k Γ c b S S' R l m s r p)

      pub puts_spine : {k : ℕ} {S S' : Spine} → PutsSomeSpine Ψ bs k S S' → (Γ : List Skeleton) (t u : Skeleton) → length Γ ≡ k → ArePatternArguments Σ Ψ Γ S t u → ArePatternArguments Σ Ψ Γ S' t u
      puts_spine some_nowhere Γ t u l p = p
      puts_spine (some_in_argument q s) Γ (arrow a b) u l (p, r) = (puts q Γ a l p, puts_spine s Γ b u l r)
      puts_spine (some_in_argument q s) Γ (base c) u l p = absurd p

    pub puts_type : {k : ℕ} {A A' : LfType} → PutsInType Ψ bs k A A' → (Γ : List Skeleton) → length Γ ≡ k → IsPatternType Σ Ψ Γ A → IsPatternType Σ Ψ Γ A'
    puts_type (put_in_atom {a = a} s) Γ l (t, e, r) = (t, e, puts_spine (put_some_spine s) Γ t (base a) l r)
    puts_type (put_in_pi {B' = B'} a b) Γ l (p, q) = (puts_type a Γ l p, subst (λ u. IsPatternType Σ Ψ (u ∷ Γ) B') (put_type_skeleton a) (puts_type b (skeleton _ ∷ Γ) (ap suc l) q))

  -- equations
  pub sides_first : (es fs : List Equation) → SidesArePatterns Σ Ψ (followed es fs) → SidesArePatterns Σ Ψ es
  sides_first [] fs h = tt
  sides_first (e ∷ es) fs (x, h) = (x, sides_first es fs h)

  pub sides_second : (es fs : List Equation) → SidesArePatterns Σ Ψ (followed es fs) → SidesArePatterns Σ Ψ fs
  sides_second [] fs h = h
  sides_second (e ∷ es) fs (x, h) = sides_second es fs h

  pub sides_both : (es fs : List Equation) → SidesArePatterns Σ Ψ es → SidesArePatterns Σ Ψ fs → SidesArePatterns Σ Ψ (followed es fs)
  sides_both [] fs h k = k
  sides_both (e ∷ es) fs (x, h) k = (x, sides_both es fs h k)

  arguments_sides : (D : List LfType) (A : LfType) (S T : Spine) (u : Skeleton) → ArePatternArguments Σ Ψ (local_skeletons D []) S (skeleton A) u → ArePatternArguments Σ Ψ (local_skeletons D []) T (skeleton A) u → SidesArePatterns Σ Ψ (argument_equations D A S T)
  arguments_sides D (pi A B) nil T u s t = tt
  arguments_sides D (pi A B) (app M S) nil u s t = tt
  arguments_sides D (pi A B) (app M S) (app N T) u (m, s) (n, t) =
      let e : skeleton B ≡ skeleton (instantiate_type A M B) = sym (skeleton_substituted reduce (single (skeleton A) M) B) in
      ((m, n), arguments_sides D (instantiate_type A M B) S T u (subst (λ v. ArePatternArguments Σ Ψ (local_skeletons D []) S v u) e s) (subst (λ v. ArePatternArguments Σ Ψ (local_skeletons D []) T v u) e t))
  arguments_sides D (atom a I) S T u s t = tt

  pub local_at : (D : List LfType) (i : ℕ) (A : LfType) → TypeAt (onto D []) i A → SkeletonAt (local_skeletons D []) i (skeleton A)
  local_at [] i A g = absurd g
  local_at (B ∷ D) zero A e = sym (ap skeleton e ∙ skeleton_renamed suc B)
  local_at (B ∷ D) (suc i) A (C, g, e) = subst (SkeletonAt (local_skeletons D []) i) (sym (ap skeleton e ∙ skeleton_renamed suc C)) (local_at D i C g)

  skeleton_one : {s t : Skeleton} → Some s ≡ Some t → s ≡ t
  skeleton_one e = cc

  pub rigid_sides : (D : List LfType) (h : Head) (A : LfType) (S T : Spine) (a : ℕ) → IsRigidHead h → OpenHeadHasType Σ [] Ψ (λ β. Unit {0}) D h A → IsPatternTerm Σ Ψ (local_skeletons D []) (root h S) (base a) → IsPatternTerm Σ Ψ (local_skeletons D []) (root h T) (base a) → SidesArePatterns Σ Ψ (argument_equations D A S T)
  rigid_sides D (metavariable m) A S T a r t p q = absurd r
  rigid_sides D (constant c) A S T a r t (u, e, s) (v, f, w) =
      let one : (x : Skeleton) → type_skeleton (Σ.types c) ≡ Some x → x ≡ skeleton A = λ x g. skeleton_one (sym g ∙ ap type_skeleton t) in
      arguments_sides D A S T (base a) (subst (λ x. ArePatternArguments Σ Ψ (local_skeletons D []) S x (base a)) (one u e) s) (subst (λ x. ArePatternArguments Σ Ψ (local_skeletons D []) T x (base a)) (one v f) w)
  rigid_sides D (variable i) A S T a r t (u, e, s) (v, f, w) =
      let one : (x : Skeleton) → SkeletonAt (local_skeletons D []) i x → x ≡ skeleton A = λ x g. SkeletonAt-once (local_skeletons D []) i x (skeleton A) g (local_at D i A t) in
      arguments_sides D A S T (base a) (subst (λ x. ArePatternArguments Σ Ψ (local_skeletons D []) S x (base a)) (one u e) s) (subst (λ x. ArePatternArguments Σ Ψ (local_skeletons D []) T x (base a)) (one v f) w)

  pub of_side : (side : Side) (D : List LfType) (M N : Term) (C : LfType) (es : List Equation) → SidesArePatterns Σ Ψ (equation_on side D M N C ∷ es) → IsPatternTerm Σ Ψ (local_skeletons D []) M (skeleton C) × IsPatternTerm Σ Ψ (local_skeletons D []) N (skeleton C) × SidesArePatterns Σ Ψ es
  of_side on_left D M N C es ((p, q), h) = (p, q, h)
  of_side on_right D M N C es ((q, p), h) = (p, q, h)

  target_is : (Γ : List Skeleton) (m : ℕ) (S : Spine) (t : Skeleton) (A : LfType) → Ψ m ≡ Some A → IsPatternTerm Σ Ψ Γ (root (metavariable m) S) t → t ≡ base (skeleton_target (skeleton A))
  target_is Γ m S (arrow a b) A e p = absurd p
  target_is Γ m S (base c) A e (B, f, q, d) = ap base (sym q ∙ ap (λ X. skeleton_target (skeleton X)) (some_one (sym f ∙ e)))

  -- the inversion of a side
  pub inverted : (D : List LfType) (m : ℕ) (A : LfType) (xs : List ℕ) (N W : Term) (C : LfType) → Ψ m ≡ Some A → IsPattern D (skeletons_of Ψ m) xs → rename (pattern_renaming (skeletons_of Ψ m) xs (beyond D)) W ≡ N → IsPatternTerm Σ Ψ (local_skeletons D []) (on_pattern Ψ m xs) (skeleton C) → IsPatternTerm Σ Ψ (local_skeletons D []) N (skeleton C) → IsPatternTerm Σ Ψ [] (lambdas_of (skeletons_of Ψ m) W) (skeleton A)
  inverted D m A xs N W C e i r p q =
      let Γ : List Skeleton = local_skeletons D [] in
      let t : Skeleton = skeletons_of Ψ m in
      let at : t ≡ skeleton A = ap skeleton_or_default e in
      let b : beyond D ≡ over (length Γ) = fun_ext (beyond_is D) in
      let d : Injective (pattern_renaming t xs (over (length Γ))) = subst (λ τ. Injective (pattern_renaming t xs τ)) b i.distinct in
      let n : IsPatternTerm Σ Ψ Γ (rename (pattern_renaming t xs (over (length Γ))) W) (base (skeleton_target t)) = subst (λ X. IsPatternTerm Σ Ψ Γ X (base (skeleton_target t))) (sym (ap (λ τ. rename (pattern_renaming t xs τ) W) (sym b) ∙ r)) (subst (IsPatternTerm Σ Ψ Γ N) (target_is Γ m (pattern t xs) (skeleton C) A e p ∙ ap (λ x. base (skeleton_target x)) (sym at)) q) in
      subst (IsPatternTerm Σ Ψ [] (lambdas_of t W)) at (closed t [] W (term_back Σ Ψ (context_under t []) Γ (pattern_renaming t xs (over (length Γ))) W (base (skeleton_target t)) (pattern_moves Γ t xs (i.places []) d) (SkeletonsBack-pattern [] Γ t xs (over (length Γ)) (none_outside Γ) (i.places [])) n))
