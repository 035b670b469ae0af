-- What is read off a solved store of patterns has patterns, with metavariables for the variables of its context.
use Rattle.std.proofs.Common.{◌≡◌, ℕ, zero, suc, List, [], ◌∷◌, length, inl, inr, refl, sym, ap, ap₂, ◌∙◌, subst}
use Rattle.std.specs.Prelude.{◌++◌, Option, Some, None}
use Rattle.lf.specs.Eta.{add_last, eta_expand}
use Rattle.lf.specs.SkeletonTyping.{SkeletonAt, TermSkeleton, RenamingBySkeletons}
use Rattle.lf.specs.Skeletons.{context_skeletons}
use Rattle.lf.specs.Syntax.{Head, constant, variable, metavariable, Term, Spine, lambda, root, nil, app, LfType, pi, atom, Skeleton, base, arrow, skeleton, rename, rename_head, rename_spine}
use Rattle.lf.specs.Typing.{Signature, IsSignature}
use Rattle.lf_unification.specs.Dependency.{IsDependencyOrder, IsListed, ListedMetavariable, ValueIsOrdered, free_context, values}
use Rattle.lf_unification.specs.Filling.{fill, fill_metavariable, fill_spine, fill_type, moved, rename_value}
use Rattle.lf_unification.specs.OpenTyping.{MetavariablesIn, MetavariablesInSpine, MetavariablesInType, skeletons_of}
use Rattle.lf_unification.specs.Patterns.{PatternFits, context_under, eta_variable, extend_renaming, lambdas_of, pattern, pattern_renaming, skeleton_target}
use Rattle.lf_unification.specs.Skeletons.{TotalSkeletons, as_head_skeletons, skeleton_or_default, total_skeletons}
use Rattle.lf_unification.proofs.Filling.{ValueHasSkeleton, skeleton_fill}
use Rattle.lf_unification.proofs.Generic.{Fact, Facts, ordered_at, stage}
use Rattle.lf_unification.proofs.Patterns.{apply_pattern, body, fill_pattern, moved_id, moved_moved}
use Rattle.lf_unification.proofs.Shrink.{RenamingBySkeletons-pattern}
use Rattle.lf_coverage.specs.PatternStores.{AreDistinct, ArePatternArguments, IsPatternTerm, IsPatternType, TypesArePatterns}
use Rattle.lf_coverage.specs.SplitStore.{open_variable, open_term, open_spine, open_type, open_some, type_in, context_metavariables}
use Rattle.lf_coverage.specs.TermMatching.{over}
use Rattle.lf_coverage.proofs.OpenTyped.{Moves, open_renamed, open_renamed_spine}
use Rattle.lf_coverage.proofs.PatternEta.{eta_is_pattern}
use Rattle.lf_coverage.proofs.PatternSides.{under}
use Rattle.lf_coverage.proofs.PatternMoves.{pattern_moves}
use Rattle.lf_coverage.proofs.PatternTerms.{term_renamed}
use Rattle.lf_coverage.proofs.StoreSolution.{found_type, looked_up, skeleton_open}

-- a bound variable stays one, and what stands outside is a metavariable
pub bound_stays : (Γ : List Skeleton) (i : ℕ) (t : Skeleton) → SkeletonAt Γ i t → open_variable (length Γ) i ≡ variable i
bound_stays [] i t h = absurd h
bound_stays (a ∷ Γ) zero t h = refl
bound_stays (a ∷ Γ) (suc i) t h = ap (rename_head suc) (bound_stays Γ i t h)

pub outer_opens : (k i : ℕ) → open_variable k (over k i) ≡ metavariable i
outer_opens zero i = refl
outer_opens (suc k) i = ap (rename_head suc) (outer_opens k i)

past_extended : (x : ℕ) (τ : ℕ → ℕ) (h : Head) → rename_head τ h ≡ rename_head (extend_renaming x τ) (rename_head suc h)
past_extended x τ (constant c) = refl
past_extended x τ (variable i) = refl
past_extended x τ (metavariable m) = refl

pattern_opens : (Γ Γ0 : List Skeleton) (t : Skeleton) (xs : List ℕ) (τ : ℕ → ℕ) → PatternFits Γ t xs → Moves (length Γ0) (length Γ) τ → Moves (length (context_under t Γ0)) (length Γ) (pattern_renaming t xs τ)
pattern_opens Γ Γ0 (base c) xs τ p h = h
pattern_opens Γ Γ0 (arrow a b) [] τ p h = absurd p
pattern_opens Γ Γ0 (arrow a b) (x ∷ xs) τ (e, p) h = pattern_opens Γ (a ∷ Γ0) b xs (extend_renaming x τ) p next
  where
    next : Moves (suc (length Γ0)) (length Γ) (extend_renaming x τ)
    next zero = bound_stays Γ x a e
    next (suc i) = h i ∙ past_extended x τ (open_variable (length Γ0) i)

pub open_lambdas_of : (t : Skeleton) (Γ : List Skeleton) (W : Term) → open_term (length Γ) (lambdas_of t W) ≡ lambdas_of t (open_term (length (context_under t Γ)) W)
open_lambdas_of (base c) Γ W = refl
open_lambdas_of (arrow a b) Γ W = ap lambda (open_lambdas_of b (a ∷ Γ) W)

-- eta-long variables
pub open_last : (k : ℕ) (S : Spine) (N : Term) → open_spine k (add_last S N) ≡ add_last (open_spine k S) (open_term k N)
open_last k nil N = refl
open_last k (app M S) N = ap (app (open_term k M)) (open_last k S N)

pub open_expand : (k : ℕ) (a : Skeleton) (x : ℕ) (S : Spine) → open_term k (eta_expand a (variable x) S) ≡ eta_expand a (open_variable k x) (open_spine k S)
open_expand k (base c) x S = refl
open_expand k (arrow a b) x S = ap lambda (open_expand (suc k) b (suc x) (add_last (rename_spine suc S) (eta_expand a (variable zero) nil))
    ∙ ap (eta_expand b (rename_head suc (open_variable k x))) (open_last (suc k) (rename_spine suc S) (eta_expand a (variable zero) nil) ∙ ap₂ add_last (open_renamed_spine k (suc k) suc (λ i. refl) S) (open_expand (suc k) a zero nil)))

-- more stands outside
outside : (Γ Δ : List Skeleton) → RenamingBySkeletons Δ (Γ ++ Δ) (over (length Γ))
outside [] Δ i t h = h
outside (a ∷ Γ) Δ i t h = outside Γ Δ i t h

pub inside : (Γ Δ : List Skeleton) (i : ℕ) (t : Skeleton) → SkeletonAt Γ i t → SkeletonAt (Γ ++ Δ) i t
inside [] Δ i t h = absurd h
inside (a ∷ Γ) Δ zero t h = h
inside (a ∷ Γ) Δ (suc i) t h = inside Γ Δ i t h

fits_inside : (Γ Δ : List Skeleton) (t : Skeleton) (xs : List ℕ) → PatternFits Γ t xs → PatternFits (Γ ++ Δ) t xs
fits_inside Γ Δ (base c) [] p = tt
fits_inside Γ Δ (base c) (x ∷ xs) p = absurd p
fits_inside Γ Δ (arrow a b) [] p = absurd p
fits_inside Γ Δ (arrow a b) (x ∷ xs) (e, p) = (inside Γ Δ x a e, fits_inside Γ Δ b xs p)

-- Patterns are put in for the metavariables of V. Φ has the variables of what they stand in.
module _ (Σ : Signature) (Ψ Φ : ℕ → Option LfType) (Δ : List Skeleton) (β : ℕ → Option Term) (κ : TotalSkeletons) (V : ℕ → Type 0) (value_fits : (m : ℕ) (A : LfType) (N : Term) → V m → Ψ m ≡ Some A → β m ≡ Some N → TermSkeleton (as_head_skeletons κ) Δ N (skeleton A)) (have : (m : ℕ) (A : LfType) → V m → Ψ m ≡ Some A → (N : Term) × (β m ≡ Some N) × IsPatternTerm Σ Φ [] (open_term zero N) (skeleton A)) where
  abbrev μ : ℕ → Skeleton
  μ = skeletons_of Ψ

  -- a value on distinct bound variables is a term on these
  pub on_variables : (Γ : List Skeleton) (m : ℕ) (A : LfType) (S : Spine) → V m → Ψ m ≡ Some A → (d : AreDistinct Γ (skeleton A) S) → (W : Term) × (open_term (length Γ) (fill μ (moved (over (length Γ)) β) (root (metavariable m) S)) ≡ rename (pattern_renaming (skeleton A) d.variables (over (length Γ))) W) × IsPatternTerm Σ Φ (context_under (skeleton A) []) W (base (skeleton_target (skeleton A)))
  on_variables Γ m A S v e d =
      let t : Skeleton = skeleton A in
      let k : ℕ = length Γ in
      let xs : List ℕ = d.variables in
      let (N, f, n) = have m A v e in
      let (W, w) = body κ Δ t N (value_fits m A N v e f) in
      let ρ : ℕ → ℕ = pattern_renaming t xs (over k) in
      let n' : IsPatternTerm Σ Φ [] (lambdas_of t (open_term (length (context_under t [])) W)) t = subst (λ X. IsPatternTerm Σ Φ [] X t) (ap (open_term zero) w ∙ open_lambdas_of t [] W) n in
      let is : fill μ (moved (over k) β) (root (metavariable m) S) ≡ rename ρ W =
      ap₂ (λ a T. fill_metavariable a m (rename_value (over k) (β m)) T) (ap skeleton_or_default e) (ap (fill_spine μ (moved (over k) β)) d.same ∙ fill_pattern μ t (moved (over k) β) xs)
      ∙ ap (λ y. fill_metavariable t m (rename_value (over k) y) (pattern t xs)) (f ∙ ap Some w)
      ∙ apply_pattern κ t Δ (Γ ++ Δ) (over k) xs W (outside Γ Δ) (fits_inside Γ Δ t xs d.places) (subst (λ X. TermSkeleton (as_head_skeletons κ) Δ X t) w (value_fits m A N v e f)) in
      (open_term (length (context_under t [])) W, ap (open_term k) is ∙ open_renamed (length (context_under t [])) k ρ (pattern_opens Γ [] t xs (over k) d.places (outer_opens k)) W, under Σ Φ t [] (open_term (length (context_under t [])) W) n')

  at_metavariable : (Γ : List Skeleton) (m : ℕ) (A : LfType) (S : Spine) (c : ℕ) → V m → Ψ m ≡ Some A → skeleton_target (skeleton A) ≡ c → AreDistinct Γ (skeleton A) S → IsPatternTerm Σ Φ Γ (open_term (length Γ) (fill μ (moved (over (length Γ)) β) (root (metavariable m) S))) (base c)
  at_metavariable Γ m A S c v e q d =
      let t : Skeleton = skeleton A in
      let ρ : ℕ → ℕ = pattern_renaming t d.variables (over (length Γ)) in
      let (W, is, w) = on_variables Γ m A S v e d in
      let p : IsPatternTerm Σ Φ Γ (rename ρ W) (base (skeleton_target t)) = term_renamed Σ Φ (context_under t []) Γ ρ W (base (skeleton_target t)) (pattern_moves Γ t d.variables d.places d.distinct) (RenamingBySkeletons-pattern [] Γ t d.variables (over (length Γ)) (λ i u h. absurd h) d.places) w in
      subst (λ X. IsPatternTerm Σ Φ Γ X (base c)) (sym is) (subst (λ b. IsPatternTerm Σ Φ Γ (rename ρ W) (base b)) q p)

  mutual
    pub filled : (Γ : List Skeleton) (M : Term) (t : Skeleton) → MetavariablesIn V M → IsPatternTerm Σ Ψ Γ M t → IsPatternTerm Σ Φ Γ (open_term (length Γ) (fill μ (moved (over (length Γ)) β) M)) t
    filled Γ (lambda M) (arrow a b) v p = subst (λ f. IsPatternTerm Σ Φ (a ∷ Γ) (open_term (suc (length Γ)) (fill μ f M)) b) (sym (moved_moved suc (over (length Γ)) β)) (filled (a ∷ Γ) M b v p)
    filled Γ (lambda M) (base c) v p = absurd p
    filled Γ (root h S) (arrow a b) v p = absurd p
    filled Γ (root (constant k) S) (base c) v (t, e, s) = (t, e, filled_spine Γ S t (base c) v s)
    filled Γ (root (variable i) S) (base c) v (t, e, s) = subst (λ h. IsPatternTerm Σ Φ Γ (root h (open_spine (length Γ) (fill_spine μ (moved (over (length Γ)) β) S))) (base c)) (sym (bound_stays Γ i t e)) (t, e, filled_spine Γ S t (base c) v s)
    filled Γ (root (metavariable m) S) (base c) (v, w) (A, e, q, d) = at_metavariable Γ m A S c v e q d

    pub filled_spine : (Γ : List Skeleton) (S : Spine) (t u : Skeleton) → MetavariablesInSpine V S → ArePatternArguments Σ Ψ Γ S t u → ArePatternArguments Σ Φ Γ (open_spine (length Γ) (fill_spine μ (moved (over (length Γ)) β) S)) t u
    filled_spine Γ nil t u v p = p
    filled_spine Γ (app M S) (arrow a b) u (v, w) (p, s) = (filled Γ M a v p, filled_spine Γ S b u w s)
    filled_spine Γ (app M S) (base c) u v p = absurd p

  pub filled_type : (Γ : List Skeleton) (A : LfType) → MetavariablesInType V A → IsPatternType Σ Ψ Γ A → IsPatternType Σ Φ Γ (open_type (length Γ) (fill_type μ (moved (over (length Γ)) β) A))
  filled_type Γ (pi A B) (v, w) (a, b) = (
    filled_type Γ A v a,
    subst (λ u. IsPatternType Σ Φ (u ∷ Γ) (open_type (suc (length Γ)) (fill_type μ (moved suc (moved (over (length Γ)) β)) B))) (sym (skeleton_open (length Γ) (fill_type μ (moved (over (length Γ)) β) A) ∙ skeleton_fill μ (moved (over (length Γ)) β) A)) (subst (λ f. IsPatternType Σ Φ (skeleton A ∷ Γ) (open_type (suc (length Γ)) (fill_type μ f B))) (sym (moved_moved suc (over (length Γ)) β)) (filled_type (skeleton A ∷ Γ) B w b)),
  )
  filled_type Γ (atom a S) v (t, e, s) = (t, e, filled_spine Γ S t (base a) v s)

  -- in the empty context
  pub filled_closed : (M : Term) (t : Skeleton) → MetavariablesIn V M → IsPatternTerm Σ Ψ [] M t → IsPatternTerm Σ Φ [] (open_term zero (fill μ β M)) t
  filled_closed M t v p = subst (λ f. IsPatternTerm Σ Φ [] (open_term zero (fill μ f M)) t) (moved_id β) (filled [] M t v p)

  pub filled_closed_type : (A : LfType) → MetavariablesInType V A → IsPatternType Σ Ψ [] A → IsPatternType Σ Φ [] (open_type zero (fill_type μ β A))
  filled_closed_type A v p = subst (λ f. IsPatternType Σ Φ [] (open_type zero (fill_type μ f A))) (moved_id β) (filled_type [] A v p)

-- The values that an order of dependency gives.
module _ (Σ : Signature) (ok : IsSignature Σ) (Ψ : ℕ → Option LfType) (U : (ℕ → Option Term) → Type 0) (order : List ListedMetavariable) (is_order : IsDependencyOrder Σ Ψ U order) where
  abbrev F : List LfType
  F = free_context (skeletons_of Ψ) order

  abbrev γ : ℕ → Option Term
  γ = values (skeletons_of Ψ) order

  some_same : {X Y : LfType} → Some X ≡ Some Y → X ≡ Y
  some_same e = cc

  abbrev Have : List ListedMetavariable → Type 0
  Have is = (m : ℕ) (A : LfType) → IsListed is m → Ψ m ≡ Some A → (N : Term) × (γ m ≡ Some N) × IsPatternTerm Σ (context_metavariables F) [] (open_term zero N) (skeleton A)

  abbrev pub ValuesArePatterns : List ListedMetavariable → Type 0
  ValuesArePatterns [] = Unit {0}
  ValuesArePatterns (it ∷ is) = ((N : Term) → it.value ≡ Some N → IsPatternTerm Σ Ψ [] N (skeleton it.of_type)) × ValuesArePatterns is

  abbrev κ1 : TotalSkeletons
  κ1 = total_skeletons Σ (skeletons_of Ψ)

  pub fills : (m : ℕ) (A : LfType) (N : Term) → Ψ m ≡ Some A → γ m ≡ Some N → TermSkeleton (as_head_skeletons κ1) (context_skeletons F) N (skeleton A)
  fills m A N e f = subst (TermSkeleton (as_head_skeletons κ1) (context_skeletons F) N) (ap skeleton_or_default e) (subst (λ y. ValueHasSkeleton κ1 (context_skeletons F) y (skeletons_of Ψ m)) f ((stage Σ (skeletons_of Ψ) ok Ψ U order is_order).by_skeletons m))

  pub have_values : (is : List ListedMetavariable) → IsDependencyOrder Σ Ψ U is → Facts Σ (skeletons_of Ψ) ok Ψ U F γ is → ValuesArePatterns is → Have is
  have_values [] o f p m A l e = absurd l
  have_values (it ∷ is) o (f, fs) (p, ps) m A (inr l) e = have_values is o.0 fs ps m A l e
  have_values (it ∷ is) (o, g, later, inside_type, typed, closed, ordered) (f, fs) (p, ps) m A (inl q) e = by (have_values is o fs ps) it.value f p ordered
    where
      same : it.of_type ≡ A
      same = some_same (sym (ap Ψ q ∙ g) ∙ e)

      by : ((k : ℕ) (B : LfType) → IsListed is k → Ψ k ≡ Some B → (N : Term) × (values (skeletons_of Ψ) order k ≡ Some N) × IsPatternTerm Σ (context_metavariables (free_context (skeletons_of Ψ) order)) [] (open_term zero N) (skeleton B)) → (x : Option Term) → Fact Σ (skeletons_of Ψ) ok Ψ U (free_context (skeletons_of Ψ) order) (values (skeletons_of Ψ) order) it.of it.of_type x → ((N : Term) → x ≡ Some N → IsPatternTerm Σ Ψ [] N (skeleton it.of_type)) → ValueIsOrdered Σ Ψ U is it.of_type x → (N : Term) × (values (skeletons_of Ψ) order m ≡ Some N) × IsPatternTerm Σ (context_metavariables (free_context (skeletons_of Ψ) order)) [] (open_term zero N) (skeleton A)
      by h (Some N) f p (i, t, c) = (
        fill (skeletons_of Ψ) (values (skeletons_of Ψ) order) N,
        ap (values (skeletons_of Ψ) order) q ∙ f,
        subst (λ X. IsPatternTerm Σ (context_metavariables (free_context (skeletons_of Ψ) order)) [] (open_term zero (fill (skeletons_of Ψ) (values (skeletons_of Ψ) order) N)) (skeleton X)) same (filled_closed Σ Ψ (context_metavariables (free_context (skeletons_of Ψ) order)) (context_skeletons (free_context (skeletons_of Ψ) order)) (values (skeletons_of Ψ) order) (total_skeletons Σ (skeletons_of Ψ)) (IsListed is) (λ k B M l. fills k B M) h N (skeleton it.of_type) i (p N refl)),
      )
      by h None (x, g, k) p t =
          let Y : LfType = fill_type (skeletons_of Ψ) (values (skeletons_of Ψ) order) it.of_type in
          let s : skeleton (open_type zero Y) ≡ skeleton A = skeleton_open zero Y ∙ skeleton_fill (skeletons_of Ψ) (values (skeletons_of Ψ) order) it.of_type ∙ ap skeleton same in (
            eta_variable (skeleton it.of_type) x,
            ap (values (skeletons_of Ψ) order) q ∙ g,
            subst (λ M. IsPatternTerm Σ (context_metavariables (free_context (skeletons_of Ψ) order)) [] M (skeleton A)) (ap (λ a. eta_expand a (metavariable x) nil) (ap skeleton (sym same)) ∙ sym (open_expand zero (skeleton it.of_type) x nil)) (subst (λ a. IsPatternTerm Σ (context_metavariables (free_context (skeletons_of Ψ) order)) [] (eta_expand a (metavariable x) nil) a) s (eta_is_pattern Σ (context_metavariables (free_context (skeletons_of Ψ) order)) x (open_type zero Y) (ap open_some (looked_up (free_context (skeletons_of Ψ) order) x Y k)))),
          )

  module _ (ps : ValuesArePatterns order) where
    pub have_all : Have order
    have_all = have_values order is_order (stage Σ (skeletons_of Ψ) ok Ψ U order is_order).facts ps

    -- and the types of what stays free
    pub types_read : TypesArePatterns Σ Ψ → TypesArePatterns Σ (context_metavariables F)
    types_read h i A e = by (type_in F i) refl e
      where
        by : (y : Option LfType) → type_in (free_context (skeletons_of Ψ) order) i ≡ y → open_some y ≡ Some A → IsPatternType Σ (context_metavariables (free_context (skeletons_of Ψ) order)) [] A
        by None q e = absurd cc
        by (Some X) q e =
            let (m, B, l, d, x) = (stage Σ (skeletons_of Ψ) ok Ψ U order is_order).entries i X (found_type (free_context (skeletons_of Ψ) order) i X q) in
            let (B', d', v, t, c) = ordered_at Σ (skeletons_of Ψ) ok Ψ U order is_order m l in
            let b : B' ≡ B = some_same (sym d' ∙ d) in
            subst (IsPatternType Σ (context_metavariables (free_context (skeletons_of Ψ) order)) []) (ap (open_type zero) (sym x) ∙ some_same e) (filled_closed_type Σ Ψ (context_metavariables (free_context (skeletons_of Ψ) order)) (context_skeletons (free_context (skeletons_of Ψ) order)) (values (skeletons_of Ψ) order) (total_skeletons Σ (skeletons_of Ψ)) (IsListed order) (λ k B M l. fills k B M) have_all B (subst (MetavariablesInType (IsListed order)) b v) (h m B d))
