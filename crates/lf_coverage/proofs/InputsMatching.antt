-- A case of inputs in the empty world, and the head of a constant's clause.
use Rattle.std.proofs.Common.{◌≡◌, ℕ, zero, suc, List, [], ◌∷◌, length, refl, sym, ap, ap₂, ◌∙◌, subst, arith, true≢false}
use Rattle.std.specs.Prelude.{◌+◌, ◌≤◌, Bool, true, false, not, cond, Option, Some, None}
use Rattle.lf.specs.Syntax.{Head, constant, variable, metavariable, Term, Spine, lambda, root, nil, app, LfType, Kind, pi, atom, Skeleton, rename_head, rename, rename_spine, lift_renaming}
use Rattle.lf.specs.Substitution.{keep, substitute_spine, reduce}
use Rattle.lf.specs.SkeletonTyping.{SkeletonAt}
use Rattle.lf.specs.Skeletons.{context_skeletons}
use Rattle.lf.specs.Typing.{Signature, SpineFitsKind, IsType}
use Rattle.lf.specs.Variables.{binders, target, target_arguments, under, hide, nothing, everything}
use Rattle.lf.specs.Worlds.{lift_over}
use Rattle.lf.proofs.TypeLaws.{substitution_as_renaming_spine}
use Rattle.lf_checks.specs.Clause.{constant_clause, scope, outside}
use Rattle.lf_checks.specs.Strict.{lower, pattern_arguments}
use Rattle.lf_checks.specs.Marks.{Mark, input_places}
use Rattle.lf_cases.specs.Case.{Case, Item, free_variable, block_variable, items_context, HasArguments, covered_places}
use Rattle.lf_cases.specs.Full.{occurrences_at, own_variables, AreFullPlaces, IsFull}
use Rattle.lf_cases.specs.Candidates.{case_candidates, candidates, candidates_spine, candidates_at, counted, each_once, flexible, free_among, given_images, is_rigid, beside_set, then, with_given}
use Rattle.lf_cases.specs.Pattern.{of_constant, head_pattern}
use Rattle.lf_cases.specs.Split.{HasNoBlockVariable}
use Rattle.lf_coverage.specs.FullMatching.{InputsMatch, PlacesHavePatterns, PlacesMatch}
use Rattle.lf_coverage.proofs.FullPlaces.{full_places_match}
use Rattle.lf_coverage.proofs.HeadVariables.{once_in_head, full_in_head}
use Rattle.lf_coverage.proofs.Parts.{some_same}

-- a set under one more binder
lifted_set : (P Q : ℕ → Bool) (ρ : ℕ → ℕ) → ((i : ℕ) → Q (ρ i) ≡ P i) → (i : ℕ) → hide Q (lift_renaming ρ i) ≡ hide P i
lifted_set P Q ρ h zero = refl
lifted_set P Q ρ h (suc i) = h i

rigid_renamed : (P Q : ℕ → Bool) (ρ : ℕ → ℕ) (h : Head) → ((i : ℕ) → Q (ρ i) ≡ P i) → is_rigid Q (rename_head ρ h) ≡ is_rigid P h
rigid_renamed P Q ρ (constant c) h = refl
rigid_renamed P Q ρ (metavariable m) h = refl
rigid_renamed P Q ρ (variable i) h = ap not (h i)

mutual
  -- the numbers of a clause's variables don't matter
  candidates_renamed : (B F P Q : ℕ → Bool) (n : ℕ) (ρ : ℕ → ℕ) (M N : Term) → ((i : ℕ) → Q (ρ i) ≡ P i) → candidates B F Q n M (rename ρ N) ≡ candidates B F P n M N
  candidates_renamed B F P Q n ρ (lambda M) (lambda N) h = candidates_renamed (under B) (hide F) (hide P) (hide Q) (suc n) (lift_renaming ρ) M N (lifted_set P Q ρ h)
  candidates_renamed B F P Q n ρ (lambda M) (root k T) h = refl
  candidates_renamed B F P Q n ρ (root g S) (lambda N) h = refl
  candidates_renamed B F P Q n ρ (root (constant c) S) (root k T) h = ap₂ (λ b xs. cond b xs []) (rigid_renamed P Q ρ k h) (spine_renamed B F P Q n ρ S T h)
  candidates_renamed B F P Q n ρ (root (metavariable c) S) (root k T) h = refl
  candidates_renamed B F P Q n ρ (root (variable i) S) (root k T) h = ap₂ (λ b xs. cond b (cond (F i) (counted (pattern_arguments B [] S) (lower n i)) xs) []) (rigid_renamed P Q ρ k h) (spine_renamed B F P Q n ρ S T h)

  spine_renamed : (B F P Q : ℕ → Bool) (n : ℕ) (ρ : ℕ → ℕ) (S T : Spine) → ((i : ℕ) → Q (ρ i) ≡ P i) → candidates_spine B F Q n S (rename_spine ρ T) ≡ candidates_spine B F P n S T
  spine_renamed B F P Q n ρ nil T h = refl
  spine_renamed B F P Q n ρ (app M S) nil h = refl
  spine_renamed B F P Q n ρ (app M S) (app N T) h = ap₂ then (candidates_renamed B F P Q n ρ M N h) (spine_renamed B F P Q n ρ S T h)

places_renamed : (B F P Q : ℕ → Bool) (n : ℕ) (ρ : ℕ → ℕ) (Ms : List (Option Term)) (T : Spine) → ((i : ℕ) → Q (ρ i) ≡ P i) → candidates_at B F Q n Ms (rename_spine ρ T) ≡ candidates_at B F P n Ms T
places_renamed B F P Q n ρ [] T h = refl
places_renamed B F P Q n ρ (Some M ∷ Ms) nil h = refl
places_renamed B F P Q n ρ (None ∷ Ms) nil h = refl
places_renamed B F P Q n ρ (Some M ∷ Ms) (app N T) h = ap₂ then (candidates_renamed B F P Q n ρ M N h) (places_renamed B F P Q n ρ Ms T h)
places_renamed B F P Q n ρ (None ∷ Ms) (app N T) h = places_renamed B F P Q n ρ Ms T h

-- the clause's variables stand behind those of the items
behind : (n : ℕ) (U V : ℕ → Bool) (i : ℕ) → beside_set n U V (i + n) ≡ V i
behind zero U V i = ap V (let e : i + zero ≡ i = omega arith in e)
behind (suc n) U V i = ap (beside_set (suc n) U V) (let e : i + suc n ≡ suc (i + n) = omega arith in e) ∙ behind n (λ j. U (suc j)) V i

pub none_outside : (U : LfType) (V : ℕ → Bool) → ((i : ℕ) → V i ≡ false) → (i : ℕ) → outside U V i ≡ false
none_outside (pi A B) V h i = none_outside B (hide V) hidden i
  where
    hidden : (i : ℕ) → hide V i ≡ false
    hidden zero = refl
    hidden (suc i) = h i
none_outside (atom a S) V h i = h i

-- no candidate, before each is taken once
none_once : (xs : List ℕ) → each_once [] xs ≡ [] → xs ≡ []
none_once [] e = refl
none_once (x ∷ xs) e = absurd cc

pub all_free : (I : List Item) → HasNoBlockVariable I → (i : ℕ) (t : Skeleton) → SkeletonAt (context_skeletons (items_context I)) i t → free_among I i ≡ true
all_free [] n i t g = absurd g
all_free (free_variable A ∷ I) n zero t g = refl
all_free (free_variable A ∷ I) n (suc i) t g = all_free I n i t g
all_free (block_variable B υ ∷ I) n i t g = absurd n

pub target_fits : (Σ : Signature) (G : List LfType) (U : LfType) → IsType Σ G U → (K : Kind) × (Σ.kinds (target U) ≡ Some K) × SpineFitsKind Σ (binders G U) (target_arguments U) K
target_fits Σ G (pi A B) (a, b) = target_fits Σ (A ∷ G) B b
target_fits Σ G (atom a S) t = t

pub some_kind : {J K : Kind} → Some J ≡ Some K → J ≡ K
some_kind e = cc

-- A constant's clause has no candidates in a case of inputs: so it is with its head as it stands.
pub no_candidates : (C : Case) (U : LfType) → C.given ≡ [] → case_candidates C (head_pattern (constant_clause U) (of_constant U)) ≡ [] → candidates_at nothing (free_among C.items) everything zero C.arguments (target_arguments U) ≡ []
no_candidates C U eg none =
    let n : ℕ = length (items_context C.items) in
    let T : Spine = target_arguments U in
    let F : ℕ → Bool = free_among C.items in
    let Q : ℕ → Bool = beside_set n F (flexible (constant_clause U)) in
    let given : with_given C (constant_clause U) [] T ≡ rename_spine (λ i. i + n) T = ap (λ g. substitute_spine reduce (given_images (scope (constant_clause U)) g n) T) eg ∙ substitution_as_renaming_spine reduce (λ i. i + n) T in
    let set : (i : ℕ) → Q (i + n) ≡ everything i = λ i. behind n F (flexible (constant_clause U)) i ∙ ap not (none_outside U nothing (λ j. refl) i) in
    let first : candidates_at nothing F Q zero C.arguments (with_given C (constant_clause U) [] T) ≡ [] = none_once (candidates_at nothing F Q zero C.arguments (with_given C (constant_clause U) [] T)) none in
    sym (places_renamed nothing F everything Q zero (λ i. i + n) C.arguments T set) ∙ ap (candidates_at nothing F Q zero C.arguments) (sym given) ∙ first

-- its head is full at these places, where all variables are its own
pub head_is_full : (Σ : Signature) (U : LfType) → IsType Σ [] U → (below : ℕ → ℕ → Bool) (m : ℕ → List Mark) → IsFull Σ below m (constant_clause U) → (K : Kind) → Σ.kinds (target U) ≡ Some K → (b : List Bool) → b ≡ input_places (m (target U)) → AreFullPlaces Σ below (binders [] U) everything [] b (target_arguments U) K
head_is_full Σ U typed below m full K ek b places =
    let T : Spine = target_arguments U in
    let (J, ej, f) = full.0 in
    let kj : J ≡ K = some_same (sym ej ∙ ek) in
    subst (λ b. AreFullPlaces Σ below (binders [] U) everything [] b T K) (sym places) (full_in_head Σ U typed below (input_places (m (target U))) K (subst (AreFullPlaces Σ below (binders [] U) (own_variables (constant_clause U)) [] (input_places (m (target U))) T) kj f))

pub inputs_match : InputsMatch
inputs_match Σ ok below t m C nb eg el ep q K ek O ty hm k U eu fam hn lin full s none =
    let T : Spine = target_arguments U in
    let F : ℕ → Bool = free_among C.items in
    let typed : IsType Σ [] U = ok.types_ok k U eu in
    let places : covered_places C.arguments ≡ input_places (m (target U)) = ep ∙ ap (λ a. input_places (m a)) (sym fam) in
    let ek' : Σ.kinds (target U) ≡ Some K = ap Σ.kinds fam ∙ ek in
    let (L, el', fits) = target_fits Σ [] U typed in
    let kl : L ≡ K = some_same (sym el' ∙ ek') in
    let r : PlacesMatch Σ (items_context C.items) (binders [] U) everything zero keep C.arguments T = full_places_match Σ ok [] (λ B z. absurd z) below t (binders [] U) (items_context C.items) [] [] F everything s.case_values s.clause_values keep (λ i u g e. absurd (true≢false (sym (all_free C.items nb i u g) ∙ e))) (λ i u g e. absurd (true≢false e)) (λ i j l x y z v. absurd (true≢false y)) (λ x u g e. absurd (true≢false e)) C.family K ek C.arguments T O s.tuple refl q ty (subst (SpineFitsKind Σ (binders [] U) T) kl fits) hm (subst (λ b. PlacesHavePatterns nothing everything b T) (sym ep) hn) (λ x p. subst (λ b. occurrences_at b x T ≤ 1) (sym places) (once_in_head Σ U typed m lin x)) (head_is_full Σ U typed below m full K ek' (covered_places C.arguments) places) (subst (λ D. HasArguments (lift_over D s.case_values) C.arguments s.tuple) el s.of_case) s.of_clause (no_candidates C U eg none) in
    (r.values, r.same)
