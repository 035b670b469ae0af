-- A term of a clause and one of a case that share an instance: if no variable of the case is a candidate, the one is made the other.
use Rattle.std.proofs.Common.{◌≡◌, ℕ, zero, suc, List, [], ◌∷◌, length, refl, sym, ap, ap₂, ◌∙◌, subst, arith}
use Rattle.std.specs.Prelude.{◌+◌, ◌≤◌, ◌++◌, Bool, true, false, not, cond}
use Rattle.lf.specs.Syntax.{Head, constant, variable, metavariable, Term, Spine, lambda, root, nil, app, Skeleton, base, arrow, rename}
use Rattle.lf.specs.Substitution.{Image, keep, put, rename_image, apply_image, substitute, substitute_spine, reduce}
use Rattle.lf.specs.AtOnce.{lift_by}
use Rattle.lf.specs.SkeletonTyping.{SkeletonAt, TermSkeleton, SpineSkeleton, ImageSkeleton, SubstitutionBySkeletons}
use Rattle.lf.specs.Skeletons.{constant_skeletons}
use Rattle.lf.specs.Typing.{Signature}
use Rattle.lf.specs.Variables.{Uses, same_number}
use Rattle.lf.proofs.SkeletonTyping.{renaming_keeps_skeletons}
use Rattle.lf.proofs.Checker.{number_itself}
use Rattle.lf_unification.proofs.ToSkeletons.{SkeletonAt-once}
use Rattle.lf_checks.specs.Tests.{either}
use Rattle.lf_checks.specs.Strict.{lower, pattern_arguments}
use Rattle.lf_checks.proofs.Reach.{number_equal}
use Rattle.lf_checks.proofs.Determined.{app_first, app_rest}
use Rattle.lf_cases.specs.Full.{occurrences, occurrences_spine}
use Rattle.lf_cases.specs.Candidates.{candidates, candidates_spine, counted, is_rigid}
use Rattle.lf_coverage.specs.Matching.{without}
use Rattle.lf_coverage.specs.TermMatching.{HasPatterns, HavePatterns, TakesBound, TakeBound, heads_argument, bound, hidden, over, Stay, TakesBack, GivesSkeletons, HasMatch, HaveMatch, TermsMatch, ArgumentsMatch}
use Rattle.lf_coverage.proofs.Abstracted.{abstracted, abstracted_uses, abstracted_applied, skeleton_back}
use Rattle.lf_coverage.proofs.Choices.{then_first, then_second, chosen, not_chosen, decided}
use Rattle.lf_coverage.proofs.Occurring.{other_part, at_most_first, at_most_second, sum_first, sum_second, stays}
use Rattle.lf_coverage.proofs.Parts.{some_same, lambda_same}
use Rattle.lf_coverage.proofs.UnderBound.{moved_down, hidden_is_over, lifted_keeps, lifted_value, stay_lifted, back_lifted, over_at, bound_at, pattern_here, patterns_inside, bound_here, bound_inside, root_spine, root_head, variable_same, takes_back, kept_outside, head_of_constant, stays_root, no_candidate}

-- θ with another value for y
abbrev with_value : ℕ → Skeleton → Term → (ℕ → Image) → ℕ → Image
with_value y s V θ x = cond (same_number x y) (put s V) (θ x)

value_here : (y : ℕ) (s : Skeleton) (V : Term) (θ : ℕ → Image) → with_value y s V θ y ≡ put s V
value_here y s V θ = ap (λ b. cond b (put s V) (θ y)) (number_itself y)

module _ (Σ : Signature) (Δ Φ : List Skeleton) (F P : ℕ → Bool) where
  -- a variable with its arguments takes any term that has of the bound variables only these
  flexible : (D : List Skeleton) (θ : ℕ → Image) (M : Term) (y : ℕ) (T : Spine) (c : ℕ) → P y ≡ true → TermSkeleton (constant_skeletons Σ) (D ++ Δ) M (base c) → TermSkeleton (constant_skeletons Σ) (D ++ Φ) (root (variable (over (length D) y)) T) (base c) → pattern_arguments (bound (length D)) [] T ≡ true → Uses (λ i. either (not (bound (length D) i)) (heads_argument i T)) M → HasMatch Σ Δ Φ P (length D) θ M (root (variable (over (length D) y)) T)
  flexible D θ M y T c py m (s, g, ts) e u =
      let n : ℕ = length D in
      let W : Term = abstracted T M in
      let V : Term = rename (without n) W in
      let wv : rename (over n) V ≡ W = moved_down n W (abstracted_uses (bound n) (λ i. not (bound n i)) [] T M e u) in
      let υ : ℕ → Image = with_value y s V θ in
      let (k, r) = abstracted_applied (constant_skeletons Σ) (bound n) (D ++ Δ) (D ++ Φ) (lift_by n υ) [] T s (base c) M (λ i a b q. bound_at D Δ Φ i a b q) (λ i b. lifted_keeps n υ i b) e ts m in
      let v : TermSkeleton (constant_skeletons Σ) Δ V s = skeleton_back (constant_skeletons Σ) Δ (D ++ Δ) (over n) V s (over_at D Δ) (subst (λ X. TermSkeleton (constant_skeletons Σ) (D ++ Δ) X s) (sym wv) k) in
      record {
        values = υ;
        skeletons = λ w. typed s V v (over_at D Φ y s g) w;
        others = λ x h. kept s V x h;
        same = ap (λ z. apply_image reduce z (substitute_spine reduce (lift_by n υ) T)) (lifted_value n υ y s V (value_here y s V θ)) ∙ ap (λ X. reduce s X (substitute_spine reduce (lift_by n υ) T)) wv ∙ r;
      }
    where
      typed : (s : Skeleton) (V : Term) → TermSkeleton (constant_skeletons Σ) Δ V s → SkeletonAt Φ y s → SubstitutionBySkeletons (constant_skeletons Σ) Φ Δ θ → SubstitutionBySkeletons (constant_skeletons Σ) Φ Δ (with_value y s V θ)
      typed s V v g w i t h = at (same_number i y) refl
        where
          at : (b : Bool) → same_number i y ≡ b → ImageSkeleton (constant_skeletons Σ) Δ (cond (same_number i y) (put s V) (θ i)) t
          at true q = subst (λ b. ImageSkeleton (constant_skeletons Σ) Δ (cond b (put s V) (θ i)) t) (sym q) (SkeletonAt-once Φ y s t g (subst (λ j. SkeletonAt Φ j t) (number_equal i y q) h), v)
          at false q = subst (λ b. ImageSkeleton (constant_skeletons Σ) Δ (cond b (put s V) (θ i)) t) (sym q) (w i t h)

      kept : (s : Skeleton) (V : Term) (x : ℕ) → (P x ≡ true → occurrences (over (length D) x) (root (variable (over (length D) y)) T) ≡ 0) → with_value y s V θ x ≡ θ x
      kept s V x h = at (same_number x y) refl
        where
          one : (b : Bool) (k : ℕ) → b ≡ true → cond b 1 0 + k ≡ 0 → ⊥
          one true k q e = omega arith
          one false k q e = absurd cc

          at : (b : Bool) → same_number x y ≡ b → cond (same_number x y) (put s V) (θ x) ≡ θ x
          at true q = absurd (let xy : x ≡ y = number_equal x y q in one (same_number (over (length D) x) (over (length D) y)) (occurrences_spine (over (length D) x) T) (subst (λ z. same_number (over (length D) z) (over (length D) y) ≡ true) (sym xy) (number_itself (over (length D) y))) (h (subst (λ z. P z ≡ true) (sym xy) py)))
          at false q = ap (λ b. cond b (put s V) (θ x)) q

  here : (D : List Skeleton) (θ : ℕ → Image) (M : Term) (j : ℕ) (T : Spine) (c : ℕ) → hidden (length D) P j ≡ true → TermSkeleton (constant_skeletons Σ) (D ++ Δ) M (base c) → TermSkeleton (constant_skeletons Σ) (D ++ Φ) (root (variable j) T) (base c) → pattern_arguments (bound (length D)) [] T ≡ true → Uses (λ i. either (not (bound (length D) i)) (heads_argument i T)) M → HasMatch Σ Δ Φ P (length D) θ M (root (variable j) T)
  here D θ M j T c p m n e u =
      let (y, r, py) = hidden_is_over (length D) P j p in
      subst (λ i. HasMatch Σ Δ Φ P (length D) θ M (root (variable i) T)) (sym r) (flexible D θ M y T c py m (subst (λ i. TermSkeleton (constant_skeletons Σ) (D ++ Φ) (root (variable i) T) (base c)) r n) e u)

  weakened : (a : Skeleton) (Γ : List Skeleton) (x : Image) (t : Skeleton) → ImageSkeleton (constant_skeletons Σ) Γ x t → ImageSkeleton (constant_skeletons Σ) (a ∷ Γ) (rename_image suc x) t
  weakened a Γ (keep i) t g = g
  weakened a Γ (put b N) t (e, n) = (e, renaming_keeps_skeletons (constant_skeletons Σ) Γ (a ∷ Γ) suc N b (λ i u g. g) n)

  pub lifted_skeletons : (D : List Skeleton) (θ : ℕ → Image) → GivesSkeletons Σ Δ Φ P θ → GivesSkeletons Σ (D ++ Δ) (D ++ Φ) (hidden (length D) P) (lift_by (length D) θ)
  lifted_skeletons [] θ w x t g p = w x t g p
  lifted_skeletons (a ∷ D) θ w zero t g p = g
  lifted_skeletons (a ∷ D) θ w (suc x) t g p = weakened a (D ++ Δ) (lift_by (length D) θ x) t (lifted_skeletons D θ w x t g p)

  pub gives_still : (θ υ : ℕ → Image) → ((x : ℕ) → P x ≡ false → υ x ≡ θ x) → GivesSkeletons Σ Δ Φ P θ → GivesSkeletons Σ Δ Φ P υ
  gives_still θ υ h w x t g p = subst (λ z. ImageSkeleton (constant_skeletons Σ) Δ z t) (sym (h x p)) (w x t g p)

  -- a root of the same constant
  of_constants : (n : ℕ) (θ : ℕ → Image) (c : ℕ) (S T : Spine) → HaveMatch Σ Δ Φ P n θ S T → HasMatch Σ Δ Φ P n θ (root (constant c) S) (root (constant c) T)
  of_constants n θ c S T r = record { values = r.values; skeletons = r.skeletons; others = r.others; same = ap (root (constant c)) r.same }

  -- a root of a variable that stays
  of_variables : (n : ℕ) (θ : ℕ → Image) (i j : ℕ) (S T : Spine) → (r : HaveMatch Σ Δ Φ P n θ S T) → lift_by n r.values j ≡ keep i → HasMatch Σ Δ Φ P n θ (root (variable i) S) (root (variable j) T)
  of_variables n θ i j S T r e = record {
    values = r.values;
    skeletons = r.skeletons;
    others = λ x h. r.others x (λ p. sum_second (cond (same_number (over n x) j) 1 0) (occurrences_spine (over n x) T) (h p));
    same = ap (λ z. apply_image reduce z (substitute_spine reduce (lift_by n r.values) T)) e ∙ ap (root (variable i)) r.same;
  }

  -- what is known of the arguments
  abbrev Inside : List Skeleton → (ℕ → Image) → (ℕ → Image) → (ℕ → Image) → Spine → Spine → ℕ → Type 0
  Inside D σ τ θ S T c = (s : Skeleton) → SpineSkeleton (constant_skeletons Σ) (D ++ Δ) S s (base c) → SpineSkeleton (constant_skeletons Σ) (D ++ Φ) T s (base c) → HavePatterns (bound (length D)) (hidden (length D) F) S → substitute_spine reduce (lift_by (length D) σ) S ≡ substitute_spine reduce (lift_by (length D) τ) T → candidates_spine (bound (length D)) (hidden (length D) F) (hidden (length D) P) (length D) S T ≡ [] → HaveMatch Σ Δ Φ P (length D) θ S T

  -- the clause's term has a constant
  match_constant : (D : List Skeleton) (σ τ θ : ℕ → Image) (h : Head) (S : Spine) (l : ℕ) (T : Spine) (c : ℕ) → Stay Δ F σ → Stay Φ P τ → TakesBack F P σ τ θ → GivesSkeletons Σ Δ Φ P θ → TermSkeleton (constant_skeletons Σ) (D ++ Δ) (root h S) (base c) → TermSkeleton (constant_skeletons Σ) (D ++ Φ) (root (constant l) T) (base c) → HasPatterns (bound (length D)) (hidden (length D) F) (root h S) → Inside D σ τ θ S T c → substitute reduce (lift_by (length D) σ) (root h S) ≡ substitute reduce (lift_by (length D) τ) (root (constant l) T) → candidates (bound (length D)) (hidden (length D) F) (hidden (length D) P) (length D) (root h S) (root (constant l) T) ≡ [] → HasMatch Σ Δ Φ P (length D) θ (root h S) (root (constant l) T)
  match_constant D σ τ θ (metavariable d) S l T c fs ps b w (s, g, ms) n hm k e q = absurd cc
  match_constant D σ τ θ (constant d) S l T c fs ps b w (s, g, ms) (s', g', ns) hm k e q =
      let (dl, es) = head_of_constant d l (substitute_spine reduce (lift_by (length D) σ) S) (substitute_spine reduce (lift_by (length D) τ) T) e in
      let ss : s' ≡ s = some_same (sym g' ∙ ap (constant_skeletons Σ).constant_skeleton (sym dl) ∙ g) in
      subst (λ i. HasMatch Σ Δ Φ P (length D) θ (root (constant d) S) (root (constant i) T)) dl (of_constants (length D) θ d S T (k s ms (subst (λ z. SpineSkeleton (constant_skeletons Σ) (D ++ Φ) T z (base c)) ss ns) hm es q))
  match_constant D σ τ θ (variable i) S l T c fs ps b w (s, g, ms) n hm k e q = by (hidden (length D) F i) refl
    where
      apart : {x : ℕ} {X Y : Spine} → root (variable x) X ≡ root (constant l) Y → ⊥
      apart e = cc

      by : (f : Bool) → hidden (length D) F i ≡ f → HasMatch Σ Δ Φ P (length D) θ (root (variable i) S) (root (constant l) T)
      by true f = absurd (no_candidate (length D) F i S (candidates_spine (bound (length D)) (hidden (length D) F) (hidden (length D) P) (length D) S T) hm q f)
      by false f = let (x, r) = stay_lifted D Δ F σ fs i s g f in absurd (apart (sym (stays_root (lift_by (length D) σ i) x (substitute_spine reduce (lift_by (length D) σ) S) r) ∙ e))

  -- it has a variable that stays
  match_variable : (D : List Skeleton) (σ τ θ : ℕ → Image) (h : Head) (S : Spine) (j : ℕ) (T : Spine) (c : ℕ) → Stay Δ F σ → Stay Φ P τ → TakesBack F P σ τ θ → GivesSkeletons Σ Δ Φ P θ → TermSkeleton (constant_skeletons Σ) (D ++ Δ) (root h S) (base c) → TermSkeleton (constant_skeletons Σ) (D ++ Φ) (root (variable j) T) (base c) → HasPatterns (bound (length D)) (hidden (length D) F) (root h S) → Inside D σ τ θ S T c → hidden (length D) P j ≡ false → substitute reduce (lift_by (length D) σ) (root h S) ≡ substitute reduce (lift_by (length D) τ) (root (variable j) T) → candidates (bound (length D)) (hidden (length D) F) (hidden (length D) P) (length D) (root h S) (root (variable j) T) ≡ [] → HasMatch Σ Δ Φ P (length D) θ (root h S) (root (variable j) T)
  match_variable D σ τ θ (metavariable d) S j T c fs ps b w (s, g, ms) n hm k p e q = absurd cc
  match_variable D σ τ θ (constant d) S j T c fs ps b w m (s, g, ns) hm k p e q = let (x, r) = stay_lifted D Φ P τ ps j s g p in absurd (apart (e ∙ stays_root (lift_by (length D) τ j) x (substitute_spine reduce (lift_by (length D) τ) T) r))
    where
      apart : {x : ℕ} {X Y : Spine} → root (constant d) X ≡ root (variable x) Y → ⊥
      apart e = cc
  match_variable D σ τ θ (variable i) S j T c fs ps b w (s, g, ms) (s', g', ns) hm k p e q =
      decided (hidden (length D) F i) (λ f. absurd (no_candidate (length D) F i S (candidates_spine (bound (length D)) (hidden (length D) F) (hidden (length D) P) (length D) S T) hm looked f))
      (λ f.
      let (x, rx) = stay_lifted D Δ F σ fs i s g f in
      let (z, rz) = stay_lifted D Φ P τ ps j s' g' p in
      let eq : root (variable x) (substitute_spine reduce (lift_by (length D) σ) S) ≡ root (variable z) (substitute_spine reduce (lift_by (length D) τ) T) = sym (stays_root (lift_by (length D) σ i) x (substitute_spine reduce (lift_by (length D) σ) S) rx) ∙ e ∙ stays_root (lift_by (length D) τ j) z (substitute_spine reduce (lift_by (length D) τ) T) rz in
      let zx : z ≡ x = sym (variable_same (root_head eq)) in
      let rz' : lift_by (length D) τ j ≡ keep x = rz ∙ ap keep zx in
      let back : lift_by (length D) θ j ≡ keep i = back_lifted (length D) F P σ τ θ b i j x f p rx rz' in
      let at : SkeletonAt (D ++ Δ) i s' = subst (λ z. ImageSkeleton (constant_skeletons Σ) (D ++ Δ) z s') back (lifted_skeletons D θ w j s' g' p) in
      let ss : s' ≡ s = SkeletonAt-once (D ++ Δ) i s' s at g in
      let r : HaveMatch Σ Δ Φ P (length D) θ S T = k s ms (subst (λ z. SpineSkeleton (constant_skeletons Σ) (D ++ Φ) T z (base c)) ss ns) (patterns_inside (bound (length D)) (hidden (length D) F) i S f hm) (root_spine eq) (not_chosen (hidden (length D) F i) (counted (pattern_arguments (bound (length D)) [] S) (lower (length D) i)) (candidates_spine (bound (length D)) (hidden (length D) F) (hidden (length D) P) (length D) S T) f looked) in
      of_variables (length D) θ i j S T r (back_lifted (length D) F P σ τ r.values (takes_back F P σ τ θ r.values (kept_outside P θ r.values (λ x. occurrences_spine (over (length D) x) T ≡ 0) r.others) b) i j x f p rx rz'))
    where
      rigid : is_rigid (hidden (length D) P) (variable j) ≡ true
      rigid = ap not p

      looked : cond (hidden (length D) F i) (counted (pattern_arguments (bound (length D)) [] S) (lower (length D) i)) (candidates_spine (bound (length D)) (hidden (length D) F) (hidden (length D) P) (length D) S T) ≡ []
      looked = chosen (is_rigid (hidden (length D) P) (variable j)) (cond (hidden (length D) F i) (counted (pattern_arguments (bound (length D)) [] S) (lower (length D) i)) (candidates_spine (bound (length D)) (hidden (length D) F) (hidden (length D) P) (length D) S T)) [] rigid q

  mutual
    pub match_terms : (D : List Skeleton) (σ τ θ : ℕ → Image) (M N : Term) (t : Skeleton) → Stay Δ F σ → Stay Φ P τ → TakesBack F P σ τ θ → GivesSkeletons Σ Δ Φ P θ → TermSkeleton (constant_skeletons Σ) (D ++ Δ) M t → TermSkeleton (constant_skeletons Σ) (D ++ Φ) N t → HasPatterns (bound (length D)) (hidden (length D) F) M → HasPatterns (bound (length D)) (hidden (length D) P) N → ((x : ℕ) → P x ≡ true → occurrences (over (length D) x) N ≤ 1) → TakesBound (bound (length D)) (hidden (length D) P) M N → substitute reduce (lift_by (length D) σ) M ≡ substitute reduce (lift_by (length D) τ) N → candidates (bound (length D)) (hidden (length D) F) (hidden (length D) P) (length D) M N ≡ [] → HasMatch Σ Δ Φ P (length D) θ M N
    match_terms D σ τ θ (lambda M) (lambda N) (base c) fs ps b w m n hm hn o k e q = absurd m
    match_terms D σ τ θ (lambda M) (lambda N) (arrow a d) fs ps b w m n hm hn o k e q =
        let r : HasMatch Σ Δ Φ P (suc (length D)) θ M N = match_terms (a ∷ D) σ τ θ M N d fs ps b w m n hm hn o k (lambda_same e) q in
        record { values = r.values; skeletons = r.skeletons; others = r.others; same = ap lambda r.same }
    match_terms D σ τ θ (lambda M) (root h T) (base c) fs ps b w m n hm hn o k e q = absurd m
    match_terms D σ τ θ (lambda M) (root h T) (arrow a d) fs ps b w m n hm hn o k e q = absurd n
    match_terms D σ τ θ (root h S) N (arrow a d) fs ps b w m n hm hn o k e q = absurd m
    match_terms D σ τ θ (root h S) (lambda N) (base c) fs ps b w m n hm hn o k e q = absurd n
    match_terms D σ τ θ (root h S) (root (metavariable l) T) (base c) fs ps b w m (s, g, ts) hm hn o k e q = absurd cc
    match_terms D σ τ θ (root h S) (root (constant l) T) (base c) fs ps b w m n hm hn o k e q = match_constant D σ τ θ h S l T c fs ps b w m n hm (λ s ms ns hms es qs. match_spines D σ τ θ S T s (base c) fs ps b w ms ns hms hn o k es qs) e q
    match_terms D σ τ θ (root h S) (root (variable j) T) (base c) fs ps b w m n hm hn o k e q =
        decided (hidden (length D) P j) (λ p. here D θ (root h S) j T c p m n (pattern_here (bound (length D)) (hidden (length D) P) j T p hn) (bound_here (bound (length D)) (hidden (length D) P) h S j T p k))
        (λ p. match_variable D σ τ θ h S j T c fs ps b w m n hm (λ s ms ns hms es qs. match_spines D σ τ θ S T s (base c) fs ps b w ms ns hms (patterns_inside (bound (length D)) (hidden (length D) P) j T p hn) (λ x px. at_most_second (cond (same_number (over (length D) x) j) 1 0) (occurrences_spine (over (length D) x) T) (o x px)) (bound_inside (bound (length D)) (hidden (length D) P) h S j T p k) es qs) p e q)

    pub match_spines : (D : List Skeleton) (σ τ θ : ℕ → Image) (S T : Spine) (t u : Skeleton) → Stay Δ F σ → Stay Φ P τ → TakesBack F P σ τ θ → GivesSkeletons Σ Δ Φ P θ → SpineSkeleton (constant_skeletons Σ) (D ++ Δ) S t u → SpineSkeleton (constant_skeletons Σ) (D ++ Φ) T t u → HavePatterns (bound (length D)) (hidden (length D) F) S → HavePatterns (bound (length D)) (hidden (length D) P) T → ((x : ℕ) → P x ≡ true → occurrences_spine (over (length D) x) T ≤ 1) → TakeBound (bound (length D)) (hidden (length D) P) S T → substitute_spine reduce (lift_by (length D) σ) S ≡ substitute_spine reduce (lift_by (length D) τ) T → candidates_spine (bound (length D)) (hidden (length D) F) (hidden (length D) P) (length D) S T ≡ [] → HaveMatch Σ Δ Φ P (length D) θ S T
    match_spines D σ τ θ nil nil t u fs ps b w ms ns hm hn o k e q = record { values = θ; skeletons = λ z. z; others = λ x h. refl; same = refl }
    match_spines D σ τ θ nil (app N T) t u fs ps b w ms ns hm hn o k e q = absurd cc
    match_spines D σ τ θ (app M S) nil t u fs ps b w ms ns hm hn o k e q = absurd cc
    match_spines D σ τ θ (app M S) (app N T) (base c) u fs ps b w ms ns hm hn o k e q = absurd ms
    match_spines D σ τ θ (app M S) (app N T) (arrow a d) u fs ps b w (m, ms) (n, ns) (hm, hms) (hn, hns) o (k, ks) e q =
        let first : List ℕ = candidates (bound (length D)) (hidden (length D) F) (hidden (length D) P) (length D) M N in
        let rest : List ℕ = candidates_spine (bound (length D)) (hidden (length D) F) (hidden (length D) P) (length D) S T in
        let r : HasMatch Σ Δ Φ P (length D) θ M N = match_terms D σ τ θ M N a fs ps b w m n hm hn (λ x p. at_most_first (occurrences (over (length D) x) N) (occurrences_spine (over (length D) x) T) (o x p)) k (app_first e) (then_first first rest q) in
        let b' : TakesBack F P σ τ r.values = takes_back F P σ τ θ r.values (kept_outside P θ r.values (λ x. occurrences (over (length D) x) N ≡ 0) r.others) b in
        let v : HaveMatch Σ Δ Φ P (length D) r.values S T = match_spines D σ τ r.values S T d u fs ps b' (gives_still θ r.values (kept_outside P θ r.values (λ x. occurrences (over (length D) x) N ≡ 0) r.others) w) ms ns hms hns (λ x p. at_most_second (occurrences (over (length D) x) N) (occurrences_spine (over (length D) x) T) (o x p)) ks (app_rest e) (then_second first rest q) in
        record {
          values = v.values;
          skeletons = λ z. v.skeletons (r.skeletons z);
          others = λ x h. v.others x (λ p. sum_second (occurrences (over (length D) x) N) (occurrences_spine (over (length D) x) T) (h p)) ∙ r.others x (λ p. sum_first (occurrences (over (length D) x) N) (occurrences_spine (over (length D) x) T) (h p));
          same = ap₂ app (stays P (length D) r.values v.values N (λ x g. v.others x (λ p. other_part (occurrences (over (length D) x) N) (occurrences_spine (over (length D) x) T) (o x p) (g p))) ∙ r.same) v.same;
        }

pub terms_match : TermsMatch
terms_match Σ D Δ Φ F P σ τ θ M N t fs ps b w m n hm hn o k e q = match_terms Σ Δ Φ F P D σ τ θ M N t fs ps b w m n hm hn o k e q

pub arguments_match : ArgumentsMatch
arguments_match Σ D Δ Φ F P σ τ θ S T t u fs ps b w m n hm hn o k e q = match_spines Σ Δ Φ F P D σ τ θ S T t u fs ps b w m n hm hn o k e q
