-- A full term of a clause takes the bound variables that the case's term has: these are of families below its own.
use Rattle.std.proofs.Common.{◌≡◌, ℕ, zero, suc, List, [], ◌∷◌, length, inl, inr, refl, sym, ap, ap₂, ◌∙◌, subst, arith}
use Rattle.std.specs.Prelude.{◌<◌, ◌++◌, Bool, true, false, not, cond, Some}
use Rattle.lf.specs.Syntax.{Head, constant, variable, metavariable, Term, Spine, lambda, root, nil, app, LfType, pi, atom, Skeleton, base, skeleton, weaken}
use Rattle.lf.specs.Substitution.{Image, keep, single, substitute, substitute_spine, reduce}
use Rattle.lf.specs.AtOnce.{lift_by}
use Rattle.lf.specs.Eta.{eta_long}
use Rattle.lf.specs.SkeletonTyping.{SkeletonAt, ImageSkeleton}
use Rattle.lf.specs.Skeletons.{constant_skeletons, context_skeletons}
use Rattle.lf.specs.Typing.{Signature, TypeAt, instantiate_type, HasType, SpineType}
use Rattle.lf.specs.Variables.{target, onto, Uses, Within}
use Rattle.lf.proofs.TypeLaws.{skeleton_renamed, skeleton_substituted}
use Rattle.lf.proofs.Decidability.{variable_type_unique}
use Rattle.lf.proofs.ToSkeletons.{variable_has_skeleton}
use Rattle.lf.proofs.Checker.{number_itself}
use Rattle.lf_unification.specs.Patterns.{skeleton_target}
use Rattle.lf_unification.proofs.ToSkeletons.{SkeletonAt-once}
use Rattle.lf_checks.specs.Tests.{either}
use Rattle.lf_checks.specs.Strict.{head_variable, lower, pattern_arguments}
use Rattle.lf_checks.proofs.Determined.{app_first, app_rest}
use Rattle.lf_cases.specs.Full.{IsArgument, AppliesToAll, IsFullTerm, IsFullSpine}
use Rattle.lf_cases.specs.Candidates.{candidates, candidates_spine, counted, is_rigid}
use Rattle.lf_coverage.specs.Subordinate.{QuantifiersAreBelow, AllQuantifiersAreBelow}
use Rattle.lf_coverage.specs.TermMatching.{HasPatterns, HavePatterns, TakesBound, TakeBound, is_this_variable, heads_argument, bound, hidden, Stay, TakesBack, GivesSkeletons}
use Rattle.lf_coverage.proofs.Choices.{then_first, then_second, chosen, not_chosen, decided, choose_first, choose_second, first_chosen, second_chosen, either_second}
use Rattle.lf_coverage.proofs.UnderBound.{stay_lifted, back_lifted, patterns_inside, root_spine, root_head, variable_same, head_of_constant, stays_root, no_candidate}
use Rattle.lf_coverage.proofs.TermMatching.{lifted_skeletons}
use Rattle.lf_coverage.proofs.LowTerms.{Low, low_term, spine_target, below_substituted}
use Rattle.lf_coverage.proofs.Subordinate.{below_at}
use Rattle.lf_coverage.proofs.Parts.{some_same, lambda_same, first_same, second_same}
use Rattle.lf_coverage.proofs.PatternTests.{eta_head}

-- the skeletons of a local context are these
abbrev pub HasSkeletons : List LfType → List Skeleton → Type 0
HasSkeletons [] [] = Unit {0}
HasSkeletons [] (a ∷ Ds) = ⊥
HasSkeletons (A ∷ D) [] = ⊥
HasSkeletons (A ∷ D) (a ∷ Ds) = (skeleton A ≡ a) × HasSkeletons D Ds

-- a variable has its skeleton in such a context
pub skeleton_at : (D : List LfType) (Ds : List Skeleton) (C : List LfType) (i : ℕ) (X : LfType) → HasSkeletons D Ds → TypeAt (onto D C) i X → SkeletonAt (Ds ++ context_skeletons C) i (skeleton X)
skeleton_at [] [] C i X h g = variable_has_skeleton C i X g
skeleton_at [] (a ∷ Ds) C i X h g = absurd h
skeleton_at (A ∷ D) [] C i X h g = absurd h
skeleton_at (A ∷ D) (a ∷ Ds) C zero X (e, h) g = sym e ∙ sym (skeleton_renamed suc A) ∙ ap skeleton (sym g)
skeleton_at (A ∷ D) (a ∷ Ds) C (suc i) X (e, h) (Y, g, q) = subst (SkeletonAt (Ds ++ context_skeletons C) i) (sym (skeleton_renamed suc Y) ∙ ap skeleton (sym q)) (skeleton_at D Ds C i Y h g)

-- a bound variable has a type in each
bound_type : (D : List LfType) (Ds : List Skeleton) (C : List LfType) (i : ℕ) → HasSkeletons D Ds → bound (length Ds) i ≡ true → (X : LfType) × TypeAt (onto D C) i X × (i < length D)
bound_type [] [] C i h b = absurd cc
bound_type [] (a ∷ Ds) C i h b = absurd h
bound_type (A ∷ D) [] C i h b = absurd h
bound_type (A ∷ D) (a ∷ Ds) C zero (e, h) b = (weaken A, refl, omega arith)
bound_type (A ∷ D) (a ∷ Ds) C (suc i) (e, h) b = let (X, g, l) = bound_type D Ds C i h b in (weaken X, (X, g, refl), omega arith)

argument_heads : (a : Skeleton) (i : ℕ) (S : Spine) → IsArgument (eta_long a (variable i)) S → heads_argument i S ≡ true
argument_heads a i nil h = absurd h
argument_heads a i (app N S) (inl e) = ap (λ z. either z (heads_argument i S)) (ap (is_this_variable i) (sym (ap (head_variable zero) e) ∙ eta_head a zero i nil) ∙ number_itself i)
argument_heads a i (app N S) (inr h) = either_second (is_this_variable i (head_variable zero N)) (heads_argument i S) (argument_heads a i S h)

family_is : (A : LfType) → skeleton_target (skeleton A) ≡ target A
family_is (pi A B) = family_is B
family_is (atom a S) = refl

same_family : (A B : LfType) → skeleton A ≡ skeleton B → target A ≡ target B
same_family A B e = sym (family_is A) ∙ ap skeleton_target e ∙ family_is B

module _ (Σ : Signature) (below : ℕ → ℕ → Bool) (through : (f g : ℕ) → below f g ≡ true → Within (below g) (below f)) (itself : (f : ℕ) → below f f ≡ true) (constants : (c : ℕ) (U : LfType) → Σ.types c ≡ Some U → QuantifiersAreBelow below U) where
  -- what a variable is to take, and what its arguments are to
  take_here : (B Q : ℕ → Bool) (h : Head) (S : Spine) (j : ℕ) (T : Spine) → Q j ≡ true → Uses (λ i. either (not (B i)) (heads_argument i T)) (root h S) → TakesBound B Q (root h S) (root (variable j) T)
  take_here B Q h S j T p u = first_chosen (Uses (λ i. either (not (B i)) (heads_argument i T)) (root h S)) (TakeBound B Q S T) (Q j) p u

  take_inside : (B Q : ℕ → Bool) (h : Head) (S : Spine) (j : ℕ) (T : Spine) → Q j ≡ false → TakeBound B Q S T → TakesBound B Q (root h S) (root (variable j) T)
  take_inside B Q h S j T p u = second_chosen (Uses (λ i. either (not (B i)) (heads_argument i T)) (root h S)) (TakeBound B Q S T) (Q j) p u

  -- C is the clause's context, and Δ the case's
  module _ (C Δ : List LfType) (F P : ℕ → Bool) (σ τ θ : ℕ → Image) (fs : Stay (context_skeletons Δ) F σ) (ps : Stay (context_skeletons C) P τ) (b : TakesBack F P σ τ θ) (w : GivesSkeletons Σ (context_skeletons Δ) (context_skeletons C) P θ) where
    -- at a variable of the clause
    taken : (Ds : List Skeleton) (D D' : List LfType) (M : Term) (j : ℕ) (T : Spine) (a c : ℕ) (R R' : Spine) (X : LfType) → HasSkeletons D Ds → HasSkeletons D' Ds → AllQuantifiersAreBelow below (onto D' Δ) → base c ≡ base a → HasType Σ (onto D' Δ) M (atom c R') → TypeAt (onto D C) j X → SpineType Σ (onto D C) T X (atom a R) → AppliesToAll (below (target X)) C D T → Uses (λ i. either (not (bound (length Ds) i)) (heads_argument i T)) M
    taken Ds D D' M j T a c R R' X h h' g e m k s f = low_term Σ below through itself constants (onto D' Δ) (λ i. either (not (bound (length Ds) i)) (heads_argument i T)) M (atom c R') g tt at m
      where
        same : c ≡ a
        same = cc

        at : Low Σ below through itself constants (onto D' Δ) (λ i. either (not (bound (length Ds) i)) (heads_argument i T)) c
        at i Y l q = by (bound (length Ds) i) refl
          where
            by : (z : Bool) → bound (length Ds) i ≡ z → either (not (bound (length Ds) i)) (heads_argument i T) ≡ true
            by false r = ap (λ x. either (not x) (heads_argument i T)) r
            by true r =
                let (Z, t, lt) = bound_type D Ds C i h r in
                let zy : skeleton Z ≡ skeleton Y = SkeletonAt-once (Ds ++ []) i (skeleton Z) (skeleton Y) (in_bound Ds (context_skeletons C) i (skeleton Z) r (skeleton_at D Ds C i Z h t)) (in_bound Ds (context_skeletons Δ) i (skeleton Y) r (skeleton_at D' Ds Δ i Y h' l)) in
                let fam : below (target X) (target Z) ≡ true = ap₂ below (spine_target Σ below through itself constants (onto D C) T X (atom a R) s ∙ sym same) (same_family Z Y zy) ∙ q in
                ap (λ x. either (not x) (heads_argument i T)) r ∙ argument_heads (skeleton Z) i T (f i Z lt t fam)
              where
                in_bound : (Ds Γ : List Skeleton) (i : ℕ) (t : Skeleton) → bound (length Ds) i ≡ true → SkeletonAt (Ds ++ Γ) i t → SkeletonAt (Ds ++ []) i t
                in_bound [] Γ i t r l = absurd cc
                in_bound (a ∷ Ds) Γ zero t r l = l
                in_bound (a ∷ Ds) Γ (suc i) t r l = in_bound Ds Γ i t r l

    -- what is known of the arguments
    abbrev Inside : List Skeleton → List LfType → List LfType → Spine → Spine → LfType → LfType → Type 0
    Inside Ds D D' S T Z' Z = (X' X : LfType) → QuantifiersAreBelow below X' → skeleton X' ≡ skeleton X → SpineType Σ (onto D' Δ) S X' Z' → SpineType Σ (onto D C) T X Z → IsFullSpine Σ below C (hidden (length Ds) P) D T X → HavePatterns (bound (length Ds)) (hidden (length Ds) F) S → substitute_spine reduce (lift_by (length Ds) σ) S ≡ substitute_spine reduce (lift_by (length Ds) τ) T → candidates_spine (bound (length Ds)) (hidden (length Ds) F) (hidden (length Ds) P) (length Ds) S T ≡ [] → TakeBound (bound (length Ds)) (hidden (length Ds) P) S T

    takes_constant : (Ds : List Skeleton) (D D' : List LfType) (h0 : Head) (S : Spine) (l : ℕ) (T : Spine) (c : ℕ) (R' : Spine) (a : ℕ) (R : Spine) → HasSkeletons D Ds → HasSkeletons D' Ds → AllQuantifiersAreBelow below (onto D' Δ) → Inside Ds D D' S T (atom c R') (atom a R) → HasType Σ (onto D' Δ) (root h0 S) (atom c R') → HasType Σ (onto D C) (root (constant l) T) (atom a R) → IsFullTerm Σ below C (hidden (length Ds) P) D (root (constant l) T) (atom a R) → HasPatterns (bound (length Ds)) (hidden (length Ds) F) (root h0 S) → substitute reduce (lift_by (length Ds) σ) (root h0 S) ≡ substitute reduce (lift_by (length Ds) τ) (root (constant l) T) → candidates (bound (length Ds)) (hidden (length Ds) F) (hidden (length Ds) P) (length Ds) (root h0 S) (root (constant l) T) ≡ [] → TakeBound (bound (length Ds)) (hidden (length Ds) P) S T
    takes_constant Ds D D' (metavariable d) S l T c R' a R h h' g rec (X, t, r) n f hm s k = absurd t
    takes_constant Ds D D' (constant d) S l T c R' a R h h' g rec (X, t, r) (X1, t1, r1) (X2, t2, f) hm s k =
        let (dl, es) = head_of_constant d l (substitute_spine reduce (lift_by (length Ds) σ) S) (substitute_spine reduce (lift_by (length Ds) τ) T) s in
        let x1 : X1 ≡ X = some_same (sym t1 ∙ ap Σ.types (sym dl) ∙ t) in
        let x2 : X2 ≡ X = some_same (sym t2 ∙ ap Σ.types (sym dl) ∙ t) in
        rec X X (constants d X t) refl r (subst (λ Z. SpineType Σ (onto D C) T Z (atom a R)) x1 r1) (subst (IsFullSpine Σ below C (hidden (length Ds) P) D T) x2 f) hm es k
    takes_constant Ds D D' (variable i) S l T c R' a R h h' g rec (X, t, r) n f hm s k = by (hidden (length Ds) F i) refl
      where
        apart : {x : ℕ} {X Y : Spine} → root (variable x) X ≡ root (constant l) Y → ⊥
        apart e = cc

        by : (z : Bool) → hidden (length Ds) F i ≡ z → TakeBound (bound (length Ds)) (hidden (length Ds) P) S T
        by true z = absurd (no_candidate (length Ds) F i S (candidates_spine (bound (length Ds)) (hidden (length Ds) F) (hidden (length Ds) P) (length Ds) S T) hm k z)
        by false z = let (x, u) = stay_lifted Ds (context_skeletons Δ) F σ fs i (skeleton X) (skeleton_at D' Ds Δ i X h' t) z in absurd (apart (sym (stays_root (lift_by (length Ds) σ i) x (substitute_spine reduce (lift_by (length Ds) σ) S) u) ∙ s))

    takes_variable : (Ds : List Skeleton) (D D' : List LfType) (h0 : Head) (S : Spine) (j : ℕ) (T : Spine) (c : ℕ) (R' : Spine) (a : ℕ) (R : Spine) (X2 : LfType) → HasSkeletons D Ds → HasSkeletons D' Ds → AllQuantifiersAreBelow below (onto D' Δ) → Inside Ds D D' S T (atom c R') (atom a R) → HasType Σ (onto D' Δ) (root h0 S) (atom c R') → TypeAt (onto D C) j X2 → SpineType Σ (onto D C) T X2 (atom a R) → IsFullSpine Σ below C (hidden (length Ds) P) D T X2 → HasPatterns (bound (length Ds)) (hidden (length Ds) F) (root h0 S) → hidden (length Ds) P j ≡ false → substitute reduce (lift_by (length Ds) σ) (root h0 S) ≡ substitute reduce (lift_by (length Ds) τ) (root (variable j) T) → candidates (bound (length Ds)) (hidden (length Ds) F) (hidden (length Ds) P) (length Ds) (root h0 S) (root (variable j) T) ≡ [] → TakeBound (bound (length Ds)) (hidden (length Ds) P) S T
    takes_variable Ds D D' (metavariable d) S j T c R' a R X2 h h' g rec (X, t, r) t2 n f hm p s k = absurd t
    takes_variable Ds D D' (constant d) S j T c R' a R X2 h h' g rec m t2 n f hm p s k = let (x, u) = stay_lifted Ds (context_skeletons C) P τ ps j (skeleton X2) (skeleton_at D Ds C j X2 h t2) p in absurd (apart (s ∙ stays_root (lift_by (length Ds) τ j) x (substitute_spine reduce (lift_by (length Ds) τ) T) u))
      where
        apart : {x : ℕ} {X Y : Spine} → root (constant d) X ≡ root (variable x) Y → ⊥
        apart e = cc
    takes_variable Ds D D' (variable i) S j T c R' a R X2 h h' g rec (X, t, r) t2 n f hm p s k =
        decided (hidden (length Ds) F i) (λ z. absurd (no_candidate (length Ds) F i S (candidates_spine (bound (length Ds)) (hidden (length Ds) F) (hidden (length Ds) P) (length Ds) S T) hm looked z))
        (λ z.
        let (x, rx) = stay_lifted Ds (context_skeletons Δ) F σ fs i (skeleton X) (skeleton_at D' Ds Δ i X h' t) z in
        let (y, ry) = stay_lifted Ds (context_skeletons C) P τ ps j (skeleton X2) (skeleton_at D Ds C j X2 h t2) p in
        let eq : root (variable x) (substitute_spine reduce (lift_by (length Ds) σ) S) ≡ root (variable y) (substitute_spine reduce (lift_by (length Ds) τ) T) = sym (stays_root (lift_by (length Ds) σ i) x (substitute_spine reduce (lift_by (length Ds) σ) S) rx) ∙ s ∙ stays_root (lift_by (length Ds) τ j) y (substitute_spine reduce (lift_by (length Ds) τ) T) ry in
        let yx : y ≡ x = sym (variable_same (root_head eq)) in
        let back : lift_by (length Ds) θ j ≡ keep i = back_lifted (length Ds) F P σ τ θ b i j x z p rx (ry ∙ ap keep yx) in
        let at : SkeletonAt (Ds ++ context_skeletons Δ) i (skeleton X2) = subst (λ v. ImageSkeleton (constant_skeletons Σ) (Ds ++ context_skeletons Δ) v (skeleton X2)) back (lifted_skeletons Σ (context_skeletons Δ) (context_skeletons C) F P Ds θ w j (skeleton X2) (skeleton_at D Ds C j X2 h t2) p) in
        let xx : skeleton X ≡ skeleton X2 = SkeletonAt-once (Ds ++ context_skeletons Δ) i (skeleton X) (skeleton X2) (skeleton_at D' Ds Δ i X h' t) at in
        rec X X2 (below_at below (onto D' Δ) g i X t) xx r n f (patterns_inside (bound (length Ds)) (hidden (length Ds) F) i S z hm) (root_spine eq) (not_chosen (hidden (length Ds) F i) (counted (pattern_arguments (bound (length Ds)) [] S) (lower (length Ds) i)) (candidates_spine (bound (length Ds)) (hidden (length Ds) F) (hidden (length Ds) P) (length Ds) S T) z looked))
      where
        looked : cond (hidden (length Ds) F i) (counted (pattern_arguments (bound (length Ds)) [] S) (lower (length Ds) i)) (candidates_spine (bound (length Ds)) (hidden (length Ds) F) (hidden (length Ds) P) (length Ds) S T) ≡ []
        looked = chosen (is_rigid (hidden (length Ds) P) (variable j)) (cond (hidden (length Ds) F i) (counted (pattern_arguments (bound (length Ds)) [] S) (lower (length Ds) i)) (candidates_spine (bound (length Ds)) (hidden (length Ds) F) (hidden (length Ds) P) (length Ds) S T)) [] (ap not p) k

    mutual
      -- The lemma
      pub full_takes : (Ds : List Skeleton) (D D' : List LfType) (M N : Term) (A' A : LfType) → HasSkeletons D Ds → HasSkeletons D' Ds → AllQuantifiersAreBelow below (onto D' Δ) → QuantifiersAreBelow below A' → skeleton A' ≡ skeleton A → HasType Σ (onto D' Δ) M A' → HasType Σ (onto D C) N A → IsFullTerm Σ below C (hidden (length Ds) P) D N A → HasPatterns (bound (length Ds)) (hidden (length Ds) F) M → substitute reduce (lift_by (length Ds) σ) M ≡ substitute reduce (lift_by (length Ds) τ) N → candidates (bound (length Ds)) (hidden (length Ds) F) (hidden (length Ds) P) (length Ds) M N ≡ [] → TakesBound (bound (length Ds)) (hidden (length Ds) P) M N
      full_takes Ds D D' (lambda M) (lambda N) (pi A1' A2') (pi A1 A2) h h' g (q, a, d) e m n f hm s k = full_takes (skeleton A1 ∷ Ds) (A1 ∷ D) (A1' ∷ D') M N A2' A2 (refl, h) (first_same e, h') (a, g) d (second_same e) m n f hm (lambda_same s) k
      full_takes Ds D D' (lambda M) (lambda N) (pi A1' A2') (atom a R) h h' g q e m n f hm s k = absurd n
      full_takes Ds D D' (lambda M) (lambda N) (atom a R) A h h' g q e m n f hm s k = absurd m
      full_takes Ds D D' (lambda M) (root k' T) A' A h h' g q e m n f hm s k = tt
      full_takes Ds D D' (root h0 S) (lambda N) A' A h h' g q e m n f hm s k = tt
      full_takes Ds D D' (root h0 S) (root (metavariable l) T) A' (atom a R) h h' g q e m (X, t, r) f hm s k = absurd t
      full_takes Ds D D' (root h0 S) (root k' T) A' (pi A1 A2) h h' g q e m n f hm s k = absurd n
      full_takes Ds D D' (root h0 S) (root k' T) (pi A1' A2') (atom a R) h h' g q e m n f hm s k = absurd m
      full_takes Ds D D' (root h0 S) (root (constant l) T) (atom c R') (atom a R) h h' g q e m n f hm s k = takes_constant Ds D D' h0 S l T c R' a R h h' g (λ X' X qx ex r ns fx hms es ks. take_spines Ds D D' S T X' X (atom c R') (atom a R) h h' g qx ex r ns fx hms es ks) m n f hm s k
      full_takes Ds D D' (root h0 S) (root (variable j) T) (atom c R') (atom a R) h h' g q e m (X, t, r) (X2, t2, f) hm s k =
          let r2 : SpineType Σ (onto D C) T X2 (atom a R) = subst (λ Z. SpineType Σ (onto D C) T Z (atom a R)) (variable_type_unique (onto D C) j X X2 t t2) r in
          let All : Type 0 = AppliesToAll (below (target X2)) C D T in
          let Inside : Type 0 = IsFullSpine Σ below C (hidden (length Ds) P) D T X2 in
          decided (hidden (length Ds) P j) (λ p. take_here (bound (length Ds)) (hidden (length Ds) P) h0 S j T p (taken Ds D D' (root h0 S) j T a c R R' X2 h h' g e m t2 r2 (choose_first All Inside (hidden (length Ds) P j) p f)))
          (λ p. take_inside (bound (length Ds)) (hidden (length Ds) P) h0 S j T p (takes_variable Ds D D' h0 S j T c R' a R X2 h h' g (λ X' X qx ex r3 ns fx hms es ks. take_spines Ds D D' S T X' X (atom c R') (atom a R) h h' g qx ex r3 ns fx hms es ks) m t2 r2 (choose_second All Inside (hidden (length Ds) P j) p f) hm p s k))

      pub take_spines : (Ds : List Skeleton) (D D' : List LfType) (S T : Spine) (X' X Z' Z : LfType) → HasSkeletons D Ds → HasSkeletons D' Ds → AllQuantifiersAreBelow below (onto D' Δ) → QuantifiersAreBelow below X' → skeleton X' ≡ skeleton X → SpineType Σ (onto D' Δ) S X' Z' → SpineType Σ (onto D C) T X Z → IsFullSpine Σ below C (hidden (length Ds) P) D T X → HavePatterns (bound (length Ds)) (hidden (length Ds) F) S → substitute_spine reduce (lift_by (length Ds) σ) S ≡ substitute_spine reduce (lift_by (length Ds) τ) T → candidates_spine (bound (length Ds)) (hidden (length Ds) F) (hidden (length Ds) P) (length Ds) S T ≡ [] → TakeBound (bound (length Ds)) (hidden (length Ds) P) S T
      take_spines Ds D D' nil T X' X Z' Z h h' g q e r n f hm s k = tt
      take_spines Ds D D' (app M S) nil X' X Z' Z h h' g q e r n f hm s k = tt
      take_spines Ds D D' (app M S) (app N T) (atom c R) X Z' Z h h' g q e r n f hm s k = absurd r
      take_spines Ds D D' (app M S) (app N T) (pi A' B') (atom a R) Z' Z h h' g q e r n f hm s k = absurd n
      take_spines Ds D D' (app M S) (app N T) (pi A' B') (pi A B) Z' Z h h' g (q, qa, qb) e (m, r) (n, ns) (f, fs') (hm, hms) s k =
          let first : List ℕ = candidates (bound (length Ds)) (hidden (length Ds) F) (hidden (length Ds) P) (length Ds) M N in
          let rest : List ℕ = candidates_spine (bound (length Ds)) (hidden (length Ds) F) (hidden (length Ds) P) (length Ds) S T in
          (full_takes Ds D D' M N A' A h h' g qa (first_same e) m n f hm (app_first s) (then_first first rest k), take_spines Ds D D' S T (instantiate_type A' M B') (instantiate_type A N B) Z' Z h h' g (below_substituted Σ below through itself constants reduce (single (skeleton A') M) B' qb) (skeleton_substituted reduce (single (skeleton A') M) B' ∙ second_same e ∙ sym (skeleton_substituted reduce (single (skeleton A) N) B)) r ns fs' hms (app_rest s) (then_second first rest k))
