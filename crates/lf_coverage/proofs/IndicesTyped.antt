-- What is typed and has its existential variables on distinct variables is on patterns once its outer variables are opened.
use Rattle.std.proofs.Common.{◌≡◌, ℕ, zero, suc, ◌⊎◌, List, [], ◌∷◌, inl, inr, length, refl, sym, ap, ap₂, ◌∙◌, subst}
use Rattle.std.specs.Prelude.{◌++◌, Bool, true, false, Option, Some, None}
use Rattle.lf.specs.Eta.{eta_expand}
use Rattle.lf.specs.SkeletonTyping.{SkeletonAt, SpineSkeleton, TermSkeleton, TypeBySkeletons}
use Rattle.lf.specs.Skeletons.{constant_skeletons, context_skeletons, family_skeletons}
use Rattle.lf.specs.Syntax.{constant, variable, metavariable, Term, Spine, lambda, root, nil, app, LfType, pi, atom, Skeleton, base, arrow, skeleton, rename_head, weaken}
use Rattle.lf.specs.Typing.{Signature, TypeAt, IsContext, IsSignature}
use Rattle.lf.specs.Variables.{everything, hide, same_number, under}
use Rattle.lf.proofs.AtOnce.{eta_long_has_skeleton}
use Rattle.lf.proofs.EtaTypes.{eta_form}
use Rattle.lf.proofs.ToSkeletons.{type_by_skeletons}
use Rattle.lf.proofs.TypeLaws.{skeleton_renamed}
use Rattle.lf.proofs.Weakening.{declared_is_type}
use Rattle.lf_checks.specs.Strict.{pattern_arguments}
use Rattle.lf_checks.specs.Tests.{either, is_in}
use Rattle.lf_checks.proofs.EtaTest.{both_l, both_r}
use Rattle.lf.proofs.Checker.{number_itself}
use Rattle.lf_unification.specs.Patterns.{Injective, PatternFits, eta_variable, extend_renaming, pattern, pattern_renaming, skeleton_target}
use Rattle.lf_coverage.specs.Indices.{head_has_patterns, item_has_patterns, newer, spine_has_patterns, takes, term_has_patterns}
use Rattle.lf_coverage.specs.PatternStores.{AreDistinct, ArePatternArguments, IsPatternTerm, IsPatternType, TypesArePatterns}
use Rattle.lf_coverage.specs.SplitStore.{context_metavariables, open_some, open_spine, open_term, open_type, open_variable, type_in}
use Rattle.lf_coverage.specs.TermMatching.{over}
use Rattle.lf_coverage.proofs.Abstracted.{expanded_back}
use Rattle.lf_coverage.proofs.IndicesHeads.{AllItemsHave, item_at}
use Rattle.lf_coverage.proofs.IndicesRenamed.{choice, takes_universal}
use Rattle.lf_coverage.proofs.IndicesTests.{Passes, never_both, passes_from}
use Rattle.lf_coverage.proofs.PatternDistinct.{over_distinct}
use Rattle.lf_coverage.proofs.PatternValues.{bound_stays, open_expand, outer_opens}
use Rattle.lf_coverage.proofs.StoreSolution.{found_type, skeleton_open}

-- a variable inside, or one outside
placed : (Γ Δ : List Skeleton) (i : ℕ) (t : Skeleton) → SkeletonAt (Γ ++ Δ) i t → SkeletonAt Γ i t ⊎ ((j : ℕ) × (i ≡ over (length Γ) j) × SkeletonAt Δ j t)
placed [] Δ i t g = inr (i, refl, g)
placed (a ∷ Γ) Δ zero t g = inl g
placed (a ∷ Γ) Δ (suc i) t g = by (placed Γ Δ i t g)
  where
    by : SkeletonAt Γ i t ⊎ ((j : ℕ) × (i ≡ over (length Γ) j) × SkeletonAt Δ j t) → SkeletonAt Γ i t ⊎ ((j : ℕ) × (suc i ≡ suc (over (length Γ) j)) × SkeletonAt Δ j t)
    by (inl h) = inl h
    by (inr (j, e, h)) = inr (j, ap suc e, h)

differ : {A : Type 0} (k i j : ℕ) → open_variable k i ≡ variable i → i ≡ over k j → A
differ k i j e q = no (sym (ap (open_variable k) q ∙ outer_opens k j) ∙ e)
  where
    no : {A : Type 0} → metavariable j ≡ variable i → A
    no e = absurd cc

-- what is newer than a bound variable is bound
pub newer_stays : (Γ : List Skeleton) (i j : ℕ) (t : Skeleton) → SkeletonAt Γ i t → newer j i ≡ true → open_variable (length Γ) j ≡ variable j
newer_stays [] i j t g n = absurd g
newer_stays (a ∷ Γ) zero zero t g n = refl
newer_stays (a ∷ Γ) zero (suc j) t g n = absurd cc
newer_stays (a ∷ Γ) (suc i) zero t g n = refl
newer_stays (a ∷ Γ) (suc i) (suc j) t g n = ap (rename_head suc) (newer_stays Γ i j t g n)

-- the types of the outer variables
declared_at : (G : List LfType) (j : ℕ) (t : Skeleton) → SkeletonAt (context_skeletons G) j t → (X : LfType) × (type_in G j ≡ Some X) × (skeleton X ≡ t)
declared_at [] j t g = absurd g
declared_at (A ∷ G) zero t e = (weaken A, refl, skeleton_renamed suc A ∙ e)
declared_at (A ∷ G) (suc j) t g = let (X, e, s) = declared_at G j t g in (weaken X, ap Rattle.lf_coverage.specs.SplitStore.weaken_some e, skeleton_renamed suc X ∙ s)

module _ (Σ : Signature) (Φ : ℕ → Option LfType) where
  -- what has no outer variable
  mutual
    plain_term : (Γ : List Skeleton) (M : Term) (t : Skeleton) → TermSkeleton (constant_skeletons Σ) Γ M t → IsPatternTerm Σ Φ Γ M t
    plain_term Γ (lambda M) (arrow a b) m = plain_term (a ∷ Γ) M b m
    plain_term Γ (lambda M) (base c) m = absurd m
    plain_term Γ (root h S) (arrow a b) m = absurd m
    plain_term Γ (root (constant k) S) (base c) (t, e, s) = (t, e, plain_spine Γ S t (base c) s)
    plain_term Γ (root (variable k) S) (base c) (t, e, s) = (t, e, plain_spine Γ S t (base c) s)
    plain_term Γ (root (metavariable k) S) (base c) (t, e, s) = absurd cc

    plain_spine : (Γ : List Skeleton) (S : Spine) (t u : Skeleton) → SpineSkeleton (constant_skeletons Σ) Γ S t u → ArePatternArguments Σ Φ Γ S t u
    plain_spine Γ nil t u s = s
    plain_spine Γ (app M S) (arrow a b) u (m, s) = (plain_term Γ M a m, plain_spine Γ S b u s)
    plain_spine Γ (app M S) (base c) u s = absurd s

  module _ (Γ Δ : List Skeleton) where
    -- an eta-long bound variable
    long_variable : (b : Skeleton) (y : ℕ) (M : Term) (a : Skeleton) → M ≡ eta_variable b y → open_variable (length Γ) y ≡ variable y → TermSkeleton (constant_skeletons Σ) (Γ ++ Δ) M a → SkeletonAt Γ y a × (open_term (length Γ) M ≡ eta_variable a y)
    long_variable b y M a q r m =
        let (v, g, s, f) = expanded_back (constant_skeletons Σ) b a (Γ ++ Δ) (variable y) nil (subst (λ N. TermSkeleton (constant_skeletons Σ) (Γ ++ Δ) N a) q m) in
        (by (placed Γ Δ y a (subst (SkeletonAt (Γ ++ Δ) y) s g)), ap (open_term (length Γ)) (q ∙ eta_form b a (variable y) nil f) ∙ open_expand (length Γ) a y nil ∙ ap (λ h. eta_expand a h nil) r)
      where
        by : SkeletonAt Γ y a ⊎ ((j : ℕ) × (y ≡ over (length Γ) j) × SkeletonAt Δ j a) → SkeletonAt Γ y a
        by (inl h) = h
        by (inr (j, e, h)) = differ (length Γ) y j r e

    -- the arguments of a bound existential variable
    bound_arguments : (R : ℕ → Bool) (seen : List ℕ) (S : Spine) (t u : Skeleton) → ((y : ℕ) → R y ≡ true → open_variable (length Γ) y ≡ variable y) → Passes R seen S → SpineSkeleton (constant_skeletons Σ) (Γ ++ Δ) S t u → ArePatternArguments Σ Φ Γ (open_spine (length Γ) S) t u
    bound_arguments R seen nil t u r p s = s
    bound_arguments R seen (app M S) (arrow a b) u r (y, c, q, ry, f, p) (m, s) =
        let (g, e) = long_variable c y M a q (r y ry) m in
        (subst (λ N. IsPatternTerm Σ Φ Γ N a) (sym e) (plain_term Γ (eta_variable a y) a (eta_long_has_skeleton (constant_skeletons Σ) Γ a (variable y) g)), bound_arguments R (y ∷ seen) S b u r p s)
    bound_arguments R seen (app M S) (base c) u r p s = absurd s

    -- those of an outer one
    outer_arguments : (R : ℕ → Bool) (seen : List ℕ) (τ : ℕ → ℕ) (S : Spine) (t : Skeleton) (c : ℕ) → Injective τ → ((y j : ℕ) → R y ≡ true → is_in y seen ≡ false → τ j ≡ y → ⊥) → ((y : ℕ) → R y ≡ true → open_variable (length Γ) y ≡ variable y) → Passes R seen S → SpineSkeleton (constant_skeletons Σ) (Γ ++ Δ) S t (base c) → (xs : List ℕ) × (open_spine (length Γ) S ≡ pattern t xs) × PatternFits Γ t xs × Injective (pattern_renaming t xs τ) × (skeleton_target t ≡ c)
    outer_arguments R seen τ nil (base d) c inj far r p s = ([], refl, tt, inj, same s)
      where
        same : base d ≡ base c → d ≡ c
        same e = cc
    outer_arguments R seen τ nil (arrow a b) c inj far r p s = absurd cc
    outer_arguments R seen τ (app M S) (arrow a b) c inj far r (y, d, q, ry, f, p) (m, s) =
        let (g, e) = long_variable d y M a q (r y ry) m in
        let (xs, es, ps, is, ts) = outer_arguments R (y ∷ seen) (extend_renaming y τ) S b c inj' far' r p s in
        (y ∷ xs, ap₂ app e es, (g, ps), is, ts)
      where
        inj' : Injective (extend_renaming y τ)
        inj' zero zero e = refl
        inj' zero (suc j) e = absurd (far y j ry f (sym e))
        inj' (suc i) zero e = absurd (far y i ry f e)
        inj' (suc i) (suc j) e = ap suc (inj i j e)

        not_seen : (x : ℕ) → either (same_number x y) (is_in x seen) ≡ false → (same_number x y ≡ false) × (is_in x seen ≡ false)
        not_seen x = by (same_number x y)
          where
            by : (b : Bool) → either b (is_in x seen) ≡ false → (b ≡ false) × (is_in x seen ≡ false)
            by true e = absurd cc
            by false e = (refl, e)

        far' : (x j : ℕ) → R x ≡ true → is_in x (y ∷ seen) ≡ false → extend_renaming y τ j ≡ x → ⊥
        far' x zero rx h e = never_both (subst (λ z. same_number x z ≡ true) (sym e) (number_itself x)) (not_seen x h).0
        far' x (suc j) rx h e = far x j rx (not_seen x h).1 e
    outer_arguments R seen τ (app M S) (base d) c inj far r p s = absurd s

module _ (Σ : Signature) (G : List LfType) where
  abbrev Φ0 : ℕ → Option LfType
  Φ0 = context_metavariables G

  -- all outer variables are existential
  abbrev AllOutside : List Skeleton → (ℕ → Bool) → Type 0
  AllOutside Γ E = (j : ℕ) → E (over (length Γ) j) ≡ true

  stays_universal : (Γ : List Skeleton) (E : ℕ → Bool) → AllOutside Γ E → (y : ℕ) → E y ≡ false → open_variable (length Γ) y ≡ variable y
  stays_universal Γ E o y f = by (cases Γ y)
    where
      cases : (Γ : List Skeleton) (y : ℕ) → (open_variable (length Γ) y ≡ variable y) ⊎ ((j : ℕ) × (y ≡ over (length Γ) j))
      cases [] y = inr (y, refl)
      cases (a ∷ Γ) zero = inl refl
      cases (a ∷ Γ) (suc y) = next (cases Γ y)
        where
          next : (open_variable (length Γ) y ≡ variable y) ⊎ ((j : ℕ) × (y ≡ over (length Γ) j)) → (rename_head suc (open_variable (length Γ) y) ≡ variable (suc y)) ⊎ ((j : ℕ) × (suc y ≡ suc (over (length Γ) j)))
          next (inl e) = inl (ap (rename_head suc) e)
          next (inr (j, e)) = inr (j, ap suc e)

      by : (open_variable (length Γ) y ≡ variable y) ⊎ ((j : ℕ) × (y ≡ over (length Γ) j)) → open_variable (length Γ) y ≡ variable y
      by (inl e) = e
      by (inr (j, e)) = never_both (ap E e ∙ o j) f

  at_outer : (Γ : List Skeleton) (E : ℕ → Bool) → AllOutside Γ E → (i j : ℕ) (S : Spine) (t : Skeleton) (c : ℕ) → i ≡ over (length Γ) j → SkeletonAt (context_skeletons G) j t → SpineSkeleton (constant_skeletons Σ) (Γ ++ context_skeletons G) S t (base c) → pattern_arguments (takes E i) [] S ≡ true → IsPatternTerm Σ Φ0 Γ (root (open_variable (length Γ) i) (open_spine (length Γ) S)) (base c)
  at_outer Γ E o i j S t c q g s e =
      let (X, d, k) = declared_at G j t g in
      let stay : (y : ℕ) → takes E i y ≡ true → open_variable (length Γ) y ≡ variable y = λ y r. stays_universal Γ E o y (takes_universal E i y r) in
      let (xs, es, ps, is, ts) = outer_arguments Σ Φ0 Γ (context_skeletons G) (takes E i) [] (over (length Γ)) S t c (over_distinct (length Γ)) (λ y j r f z. differ (length Γ) y j (stay y r) (sym z)) stay (passes_from (takes E i) [] S e) s in
      let u : skeleton (open_type zero X) ≡ t = skeleton_open zero X ∙ k in
      subst (λ h. IsPatternTerm Σ Φ0 Γ (root h (open_spine (length Γ) S)) (base c)) (sym (ap (open_variable (length Γ)) q ∙ outer_opens (length Γ) j)) (
        open_type zero X,
        ap open_some d,
        ap skeleton_target u ∙ ts,
        subst (λ v. AreDistinct Γ v (open_spine (length Γ) S)) (sym u) (record { variables = xs; same = es; places = ps; distinct = is }),
      )

  at_inner : (Γ : List Skeleton) (E : ℕ → Bool) → AllOutside Γ E → (i : ℕ) (S : Spine) (t : Skeleton) (c : ℕ) → SkeletonAt Γ i t → SpineSkeleton (constant_skeletons Σ) (Γ ++ context_skeletons G) S t (base c) → (spine_has_patterns E S ≡ true → ArePatternArguments Σ Φ0 Γ (open_spine (length Γ) S) t (base c)) → ((E i ≡ true) × (pattern_arguments (takes E i) [] S ≡ true)) ⊎ ((E i ≡ false) × (spine_has_patterns E S ≡ true)) → IsPatternTerm Σ Φ0 Γ (root (open_variable (length Γ) i) (open_spine (length Γ) S)) (base c)
  at_inner Γ E o i S t c g s h x = subst (λ k. IsPatternTerm Σ Φ0 Γ (root k (open_spine (length Γ) S)) (base c)) (sym (bound_stays Γ i t g)) (t, g, by x)
    where
      by : ((E i ≡ true) × (pattern_arguments (takes E i) [] S ≡ true)) ⊎ ((E i ≡ false) × (spine_has_patterns E S ≡ true)) → ArePatternArguments Σ Φ0 Γ (open_spine (length Γ) S) t (base c)
      by (inl (u, e)) = bound_arguments Σ Φ0 Γ (context_skeletons G) (takes E i) [] S t (base c) (λ y r. stays_universal Γ E o y (takes_universal E i y r)) (passes_from (takes E i) [] S e) s
      by (inr (u, e)) = h e

  at_variable : (Γ : List Skeleton) (E : ℕ → Bool) → AllOutside Γ E → (i : ℕ) (S : Spine) (t : Skeleton) (c : ℕ) → SpineSkeleton (constant_skeletons Σ) (Γ ++ context_skeletons G) S t (base c) → (spine_has_patterns E S ≡ true → ArePatternArguments Σ Φ0 Γ (open_spine (length Γ) S) t (base c)) → term_has_patterns E (root (variable i) S) ≡ true → SkeletonAt Γ i t ⊎ ((j : ℕ) × (i ≡ over (length Γ) j) × SkeletonAt (context_skeletons G) j t) → IsPatternTerm Σ Φ0 Γ (root (open_variable (length Γ) i) (open_spine (length Γ) S)) (base c)
  at_variable Γ E o i S t c s h e (inl g) = at_inner Γ E o i S t c g s h (choice (E i) (pattern_arguments (takes E i) [] S) (spine_has_patterns E S) e)
  at_variable Γ E o i S t c s h e (inr (j, q, g)) = by (choice (E i) (pattern_arguments (takes E i) [] S) (spine_has_patterns E S) e)
    where
      by : ((E i ≡ true) × (pattern_arguments (takes E i) [] S ≡ true)) ⊎ ((E i ≡ false) × (spine_has_patterns E S ≡ true)) → IsPatternTerm Σ Φ0 Γ (root (open_variable (length Γ) i) (open_spine (length Γ) S)) (base c)
      by (inl (u, e)) = at_outer Γ E o i j S t c q g s e
      by (inr (u, e)) = never_both (ap E q ∙ o j) u

  mutual
    pub term_on_patterns : (Γ : List Skeleton) (E : ℕ → Bool) → AllOutside Γ E → (M : Term) (t : Skeleton) → TermSkeleton (constant_skeletons Σ) (Γ ++ context_skeletons G) M t → term_has_patterns E M ≡ true → IsPatternTerm Σ Φ0 Γ (open_term (length Γ) M) t
    term_on_patterns Γ E o (lambda M) (arrow a b) m e = term_on_patterns (a ∷ Γ) (hide E) o M b m e
    term_on_patterns Γ E o (lambda M) (base c) m e = absurd m
    term_on_patterns Γ E o (root h S) (arrow a b) m e = absurd m
    term_on_patterns Γ E o (root (constant k) S) (base c) (t, q, s) e = (t, q, spine_on_patterns Γ E o S t (base c) s e)
    term_on_patterns Γ E o (root (metavariable k) S) (base c) (t, q, s) e = absurd cc
    term_on_patterns Γ E o (root (variable i) S) (base c) (t, g, s) e = at_variable Γ E o i S t c s (spine_on_patterns Γ E o S t (base c) s) e (placed Γ (context_skeletons G) i t g)

    pub spine_on_patterns : (Γ : List Skeleton) (E : ℕ → Bool) → AllOutside Γ E → (S : Spine) (t u : Skeleton) → SpineSkeleton (constant_skeletons Σ) (Γ ++ context_skeletons G) S t u → spine_has_patterns E S ≡ true → ArePatternArguments Σ Φ0 Γ (open_spine (length Γ) S) t u
    spine_on_patterns Γ E o nil t u s e = s
    spine_on_patterns Γ E o (app M S) (arrow a b) u (m, s) e = (term_on_patterns Γ E o M a m (both_l (term_has_patterns E M) (spine_has_patterns E S) e), spine_on_patterns Γ E o S b u s (both_r (term_has_patterns E M) (spine_has_patterns E S) e))
    spine_on_patterns Γ E o (app M S) (base c) u s e = absurd s

  mutual
    pub item_on_patterns : (Γ : List Skeleton) (E : ℕ → Bool) → AllOutside Γ E → (A : LfType) → TypeBySkeletons (family_skeletons Σ) (constant_skeletons Σ) (Γ ++ context_skeletons G) A → item_has_patterns E A ≡ true → IsPatternType Σ Φ0 Γ (open_type (length Γ) A)
    item_on_patterns Γ E o (pi A B) (a, b) e = (head_on_patterns Γ E o A a (both_l (head_has_patterns E A) (item_has_patterns (hide E) B) e), subst (λ u. IsPatternType Σ Φ0 (u ∷ Γ) (open_type (suc (length Γ)) B)) (sym (skeleton_open (length Γ) A)) (item_on_patterns (skeleton A ∷ Γ) (hide E) o B b (both_r (head_has_patterns E A) (item_has_patterns (hide E) B) e)))
    item_on_patterns Γ E o (atom a S) (t, q, s) e = (t, q, spine_on_patterns Γ E o S t (base a) s e)

    pub head_on_patterns : (Γ : List Skeleton) (E : ℕ → Bool) → AllOutside Γ E → (A : LfType) → TypeBySkeletons (family_skeletons Σ) (constant_skeletons Σ) (Γ ++ context_skeletons G) A → head_has_patterns E A ≡ true → IsPatternType Σ Φ0 Γ (open_type (length Γ) A)
    head_on_patterns Γ E o (pi A B) (a, b) e = (item_on_patterns Γ E o A a (both_l (item_has_patterns E A) (head_has_patterns (under E) B) e), subst (λ u. IsPatternType Σ Φ0 (u ∷ Γ) (open_type (suc (length Γ)) B)) (sym (skeleton_open (length Γ) A)) (head_on_patterns (skeleton A ∷ Γ) (under E) o B b (both_r (item_has_patterns E A) (head_has_patterns (under E) B) e)))
    head_on_patterns Γ E o (atom a S) (t, q, s) e = (t, q, spine_on_patterns Γ E o S t (base a) s e)

-- So are the types of items.
pub items_on_patterns : (Σ : Signature) → IsSignature Σ → (G : List LfType) → IsContext Σ G → AllItemsHave G → TypesArePatterns Σ (context_metavariables G)
items_on_patterns Σ ok G c h m A e = by (type_in G m) refl e
  where
    one : {X Y : LfType} → Some X ≡ Some Y → X ≡ Y
    one e = cc

    by : (y : Option LfType) → type_in G m ≡ y → open_some y ≡ Some A → IsPatternType Σ (context_metavariables G) [] A
    by None q e = absurd cc
    by (Some X) q e = let g : TypeAt G m X = found_type G m X q in subst (IsPatternType Σ (context_metavariables G) []) (one e) (item_on_patterns Σ G [] everything (λ j. refl) X (type_by_skeletons Σ G X (declared_is_type Σ ok G m X c g)) (item_at G h m X g))
