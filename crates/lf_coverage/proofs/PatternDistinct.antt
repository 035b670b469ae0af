-- The arguments of a raised variable are distinct: each is less than the one before.
use Rattle.std.proofs.Common.{◌≡◌, ℕ, zero, suc, List, [], ◌∷◌, length, refl, sym, ap, ◌∙◌, subst, arith}
use Rattle.std.specs.Prelude.{◌+◌, ◌<◌, ◌≤◌, Bool, true, false}
use Rattle.lf.specs.AtOnce.{shift_by}
use Rattle.lf.specs.Eta.{add_last, append, arity, eta_arguments, eta_long}
use Rattle.lf.specs.SkeletonTyping.{SkeletonAt, RenamingBySkeletons}
use Rattle.lf.specs.Skeletons.{context_skeletons}
use Rattle.lf.specs.Syntax.{variable, Term, Spine, nil, app, LfType, pi, Skeleton, base, arrow, skeleton, rename, rename_spine, rename_type}
use Rattle.lf.specs.Variables.{at_variable}
use Rattle.lf.proofs.Eta.{rename_eta_expand}
use Rattle.lf.proofs.Renaming.{renamings_compose_spine}
use Rattle.lf.proofs.TypeLaws.{skeleton_renamed}
use Rattle.lf_unification.specs.Patterns.{Injective, PatternFits, context_under, extend_renaming, past, pattern, pattern_renaming, skeleton_target}
use Rattle.lf_unification.proofs.Eta.{rename_add_last}
use Rattle.lf_unification.proofs.Shrink.{RenamingBySkeletons-past}
use Rattle.lf_cases.specs.Raised.{locals_by, raise_by}
use Rattle.lf_coverage.specs.PatternStores.{AreDistinct}
use Rattle.lf_coverage.specs.TermMatching.{over}
use Rattle.lf_coverage.proofs.PatternEta.{arguments_are, countdown, fits_eta}

-- Each is less than the one before, and the first less than m: so they are distinct.
abbrev Falling : ℕ → List ℕ → Type 0
Falling m [] = Unit {0}
Falling m (x ∷ xs) = (x < m) × Falling x xs

falling_up : (m n : ℕ) (xs : List ℕ) → m ≤ n → Falling m xs → Falling n xs
falling_up m n [] l f = tt
falling_up m n (x ∷ xs) l (k, f) = (omega (arith, l, k), f)

falling_distinct : (t : Skeleton) (xs : List ℕ) (τ : ℕ → ℕ) (m : ℕ) → Injective τ → ((i : ℕ) → m ≤ τ i) → Falling m xs → Injective (pattern_renaming t xs τ)
falling_distinct (base c) xs τ m inj far f = inj
falling_distinct (arrow a b) [] τ m inj far f = inj
falling_distinct (arrow a b) (x ∷ xs) τ m inj far (l, f) = falling_distinct b xs (extend_renaming x τ) x inj' far' f
  where
    less : (x m y : ℕ) → x < m → m ≤ y → x ≡ y → ⊥
    less x m y l k e = omega (arith, l, k, e)

    below : (x m y : ℕ) → x < m → m ≤ y → x ≤ y
    below x m y l k = omega (arith, l, k)

    same : (x : ℕ) → x ≤ x
    same x = omega arith

    inj' : Injective (extend_renaming x τ)
    inj' zero zero e = refl
    inj' zero (suc j) e = absurd (less x m (τ j) l (far j) e)
    inj' (suc i) zero e = absurd (less x m (τ i) l (far i) (sym e))
    inj' (suc i) (suc j) e = ap suc (inj i j e)

    far' : (i : ℕ) → x ≤ extend_renaming x τ i
    far' zero = same x
    far' (suc i) = below x m (τ i) l (far i)

falling_countdown : (b : Skeleton) → Falling (arity b) (countdown b)
falling_countdown (base c) = tt
falling_countdown (arrow a b) = (next (arity b), falling_countdown b)
  where
    next : (n : ℕ) → n < suc n
    next n = omega arith

pub over_distinct : (n : ℕ) → Injective (over n)
over_distinct zero i j e = e
over_distinct (suc n) i j e = over_distinct n i j (less e)
  where
    less : {x y : ℕ} → suc x ≡ suc y → x ≡ y
    less e = omega (arith, e)

over_far : (n i : ℕ) → n ≤ over n i
over_far zero i = omega arith
over_far (suc n) i = let h : n ≤ over n i = over_far n i in omega (arith, h)

pub length_under : (b : Skeleton) (Γ : List Skeleton) → length (context_under b Γ) ≡ length Γ + arity b
length_under (base c) Γ = omega arith
length_under (arrow a b) Γ = length_under b (a ∷ Γ) ∙ next (length Γ) (arity b)
  where
    next : (m n : ℕ) → suc m + n ≡ m + suc n
    next m n = omega arith

-- the variables that are chosen, moved by ρ, in front of others
abbrev collected : List Bool → List LfType → (ℕ → ℕ) → List ℕ → List ℕ
collected ks [] ρ zs = zs
collected [] (A ∷ D) ρ zs = zs
collected (true ∷ ks) (A ∷ D) ρ zs = collected ks D (λ i. ρ (suc i)) (ρ zero ∷ zs)
collected (false ∷ ks) (A ∷ D) ρ zs = collected ks D (λ i. ρ (suc i)) zs

abbrev pub raised : List Bool → List LfType → Skeleton → Skeleton
raised ks [] b = b
raised [] (A ∷ D) b = b
raised (true ∷ ks) (A ∷ D) b = raised ks D (arrow (skeleton A) b)
raised (false ∷ ks) (A ∷ D) b = raised ks D b

pub skeleton_raised : (ks : List Bool) (D : List LfType) (B : LfType) → skeleton (raise_by ks D B) ≡ raised ks D (skeleton B)
skeleton_raised ks [] B = refl
skeleton_raised [] (A ∷ D) B = refl
skeleton_raised (true ∷ ks) (A ∷ D) B = skeleton_raised ks D (pi A B)
skeleton_raised (false ∷ ks) (A ∷ D) B = skeleton_raised ks D (rename_type (at_variable zero) B) ∙ ap (raised ks D) (skeleton_renamed (at_variable zero) B)

pub raised_target : (ks : List Bool) (D : List LfType) (b : Skeleton) → skeleton_target (raised ks D b) ≡ skeleton_target b
raised_target ks [] b = refl
raised_target [] (A ∷ D) b = refl
raised_target (true ∷ ks) (A ∷ D) b = raised_target ks D (arrow (skeleton A) b)
raised_target (false ∷ ks) (A ∷ D) b = raised_target ks D b

ascends : (ρ : ℕ → ℕ) → ((i : ℕ) → ρ i < ρ (suc i)) → (n : ℕ) → ρ zero ≤ ρ n
ascends ρ up zero = same (ρ zero)
  where
    same : (x : ℕ) → x ≤ x
    same x = omega arith
ascends ρ up (suc n) = further (ρ zero) (ρ n) (ρ (suc n)) (ascends ρ up n) (up n)
  where
    further : (x y z : ℕ) → x ≤ y → y < z → x ≤ z
    further x y z l k = omega (arith, l, k)

falling_collected : (ks : List Bool) (D : List LfType) (ρ : ℕ → ℕ) (zs : List ℕ) → ((i : ℕ) → ρ i < ρ (suc i)) → Falling (ρ zero) zs → Falling (ρ (length D)) (collected ks D ρ zs)
falling_collected ks [] ρ zs up f = f
falling_collected [] (A ∷ D) ρ zs up f = falling_up (ρ zero) (ρ (suc (length D))) zs (ascends ρ up (suc (length D))) f
falling_collected (true ∷ ks) (A ∷ D) ρ zs up f = falling_collected ks D (λ i. ρ (suc i)) (ρ zero ∷ zs) (λ i. up (suc i)) (up zero, f)
falling_collected (false ∷ ks) (A ∷ D) ρ zs up f = falling_collected ks D (λ i. ρ (suc i)) zs (λ i. up (suc i)) (falling_up (ρ zero) (ρ 1) zs (ascends ρ up 1) f)

append_last : (S : Spine) (N : Term) (T : Spine) → append (add_last S N) T ≡ append S (app N T)
append_last nil N T = refl
append_last (app M S) N T = ap (app M) (append_last S N T)

collected_spine : (ks : List Bool) (D : List LfType) (ρ : ℕ → ℕ) (b : Skeleton) (T : Spine) (zs : List ℕ) → T ≡ pattern b zs → append (rename_spine ρ (locals_by ks D)) T ≡ pattern (raised ks D b) (collected ks D ρ zs)
collected_spine ks [] ρ b T zs e = e
collected_spine [] (A ∷ D) ρ b T zs e = e
collected_spine (true ∷ ks) (A ∷ D) ρ b T zs e =
    let L : Spine = locals_by ks D in
    let E : Term = eta_long (skeleton A) (variable zero) in
    ap (λ S. append S T) (rename_add_last ρ (rename_spine suc L) E ∙ ap (λ S. add_last S (rename ρ E)) (renamings_compose_spine ρ suc L))
    ∙ append_last (rename_spine (λ i. ρ (suc i)) L) (rename ρ E) T
    ∙ ap (λ N. append (rename_spine (λ i. ρ (suc i)) L) (app N T)) (rename_eta_expand ρ (skeleton A) (variable zero) nil)
    ∙ collected_spine ks D (λ i. ρ (suc i)) (arrow (skeleton A) b) (app (eta_long (skeleton A) (variable (ρ zero))) T) (ρ zero ∷ zs) (ap (app (eta_long (skeleton A) (variable (ρ zero)))) e)
collected_spine (false ∷ ks) (A ∷ D) ρ b T zs e = ap (λ S. append S T) (renamings_compose_spine ρ suc (locals_by ks D)) ∙ collected_spine ks D (λ i. ρ (suc i)) b T zs e

collected_fits : (ks : List Bool) (D : List LfType) (ρ : ℕ → ℕ) (b : Skeleton) (zs : List ℕ) (Δ : List Skeleton) → RenamingBySkeletons (context_skeletons D) Δ ρ → PatternFits Δ b zs → PatternFits Δ (raised ks D b) (collected ks D ρ zs)
collected_fits ks [] ρ b zs Δ g p = p
collected_fits [] (A ∷ D) ρ b zs Δ g p = p
collected_fits (true ∷ ks) (A ∷ D) ρ b zs Δ g p = collected_fits ks D (λ i. ρ (suc i)) (arrow (skeleton A) b) (ρ zero ∷ zs) Δ (λ i t h. g (suc i) t h) (g zero (skeleton A) refl, p)
collected_fits (false ∷ ks) (A ∷ D) ρ b zs Δ g p = collected_fits ks D (λ i. ρ (suc i)) b zs Δ (λ i t h. g (suc i) t h) p

past_shift : (b : Skeleton) (i : ℕ) → past b i ≡ shift_by (arity b) i
past_shift (base c) i = omega arith
past_shift (arrow a b) i = past_shift b (suc i) ∙ next i (arity b)
  where
    next : (m n : ℕ) → suc m + n ≡ m + suc n
    next m n = omega arith

pub length_context : (D : List LfType) → length (context_skeletons D) ≡ length D
length_context [] = refl
length_context (A ∷ D) = ap suc (length_context D)

pub raised_distinct : (ks : List Bool) (D : List LfType) (b : Skeleton) → AreDistinct (context_under b (context_skeletons D)) (raised ks D b) (append (rename_spine (shift_by (arity b)) (locals_by ks D)) (eta_arguments b))
raised_distinct ks D b =
    let ρ : ℕ → ℕ = shift_by (arity b) in
    let Δ : List Skeleton = context_under b (context_skeletons D) in
    let g : RenamingBySkeletons (context_skeletons D) Δ ρ = λ i t h. subst (λ j. SkeletonAt Δ j t) (past_shift b i) (RenamingBySkeletons-past b (context_skeletons D) i t h) in
    let f : Falling (ρ (length D)) (collected ks D ρ (countdown b)) = falling_collected ks D ρ (countdown b) (λ i. up i (arity b)) (subst (λ n. Falling n (countdown b)) (none (arity b)) (falling_countdown b)) in
    let l : length Δ ≡ ρ (length D) = length_under b (context_skeletons D) ∙ ap (λ n. n + arity b) (length_context D) in
    record {
      variables = collected ks D ρ (countdown b);
      same = collected_spine ks D ρ b (eta_arguments b) (countdown b) (arguments_are b);
      places = collected_fits ks D ρ b (countdown b) Δ g (fits_eta b (context_skeletons D));
      distinct = falling_distinct (raised ks D b) (collected ks D ρ (countdown b)) (over (length Δ)) (length Δ) (over_distinct (length Δ)) (over_far (length Δ)) (subst (λ n. Falling n (collected ks D ρ (countdown b))) (sym l) f);
    }
  where
    up : (i n : ℕ) → i + n < suc i + n
    up i n = omega arith

    none : (n : ℕ) → n ≡ zero + n
    none n = omega arith
