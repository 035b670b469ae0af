-- A candidate is one of the free variables of its case.
use Rattle.std.proofs.Common.{◌≡◌, ℕ, zero, suc, List, [], ◌∷◌, length, refl, subst}
use Rattle.std.specs.Prelude.{Bool, true, cond, Option, Some, None}
use Rattle.lf.specs.Syntax.{constant, variable, metavariable, Term, Spine, lambda, root, nil, app, LfType, weaken}
use Rattle.lf.specs.Substitution.{Image}
use Rattle.lf.specs.Typing.{TypeAt}
use Rattle.lf.specs.Variables.{binders, target_arguments, hide, onto, under, nothing}
use Rattle.lf.specs.Worlds.{instance, under_all}
use Rattle.lf_checks.specs.Strict.{lower, pattern_arguments}
use Rattle.lf_cases.specs.Case.{Item, free_variable, block_variable, items_context}
use Rattle.lf_cases.specs.Candidates.{candidates, candidates_spine, candidates_at, counted, flexible, free_among, hide_all, is_rigid, beside_set, with_given}
use Rattle.lf_coverage.specs.RunLaws.{CandidateIsVariable}
use Rattle.lf_coverage.proofs.EachCandidate.{Each, each_chosen, each_counted, each_none, each_then, of_each_once}
use Rattle.lf_coverage.proofs.Parts.{some_same}

-- The variables in F under n binders are those of V outside them.
abbrev Outside : (ℕ → Bool) → ℕ → (ℕ → Bool) → Type 0
Outside F n V = (i x : ℕ) → F i ≡ true → lower n i ≡ Some x → V x ≡ true

outside_under : (F : ℕ → Bool) (n : ℕ) (V : ℕ → Bool) → Outside F n V → Outside (hide F) (suc n) V
outside_under F n V h zero x f e = absurd cc
outside_under F n V h (suc i) x f e = h i x f e

outside_all : (D : List LfType) (V : ℕ → Bool) → Outside (hide_all D V) (length D) V
outside_all [] V i x f e = subst (λ j. V j ≡ true) (some_same e) f
outside_all (A ∷ D) V i x f e = outside_under (hide_all D V) (length D) V (outside_all D V) i x f e

module _ (V : ℕ → Bool) where
  abbrev Chosen : ℕ → Type 0
  Chosen x = V x ≡ true

  mutual
    all_candidates : (B F P : ℕ → Bool) (n : ℕ) → Outside F n V → (M N : Term) → Each Chosen (candidates B F P n M N)
    all_candidates B F P n h (lambda M) (lambda N) = all_candidates (under B) (hide F) (hide P) (suc n) (outside_under F n V h) M N
    all_candidates B F P n h (lambda M) (root g T) = each_none Chosen
    all_candidates B F P n h (root g S) (lambda N) = each_none Chosen
    all_candidates B F P n h (root (constant c) S) (root g T) = each_chosen Chosen (is_rigid P g) (candidates_spine B F P n S T) [] (λ e. all_candidates_spine B F P n h S T) (λ e. each_none Chosen)
    all_candidates B F P n h (root (metavariable m) S) (root g T) = each_none Chosen
    all_candidates B F P n h (root (variable i) S) (root g T) = each_chosen Chosen (is_rigid P g) (cond (F i) (counted (pattern_arguments B [] S) (lower n i)) (candidates_spine B F P n S T)) [] (λ e. each_chosen Chosen (F i) (counted (pattern_arguments B [] S) (lower n i)) (candidates_spine B F P n S T) (λ f. each_counted Chosen (pattern_arguments B [] S) (lower n i) (λ z x q. h i x f q)) (λ f. all_candidates_spine B F P n h S T)) (λ e. each_none Chosen)

    all_candidates_spine : (B F P : ℕ → Bool) (n : ℕ) → Outside F n V → (S T : Spine) → Each Chosen (candidates_spine B F P n S T)
    all_candidates_spine B F P n h nil T = each_none Chosen
    all_candidates_spine B F P n h (app M S) nil = each_none Chosen
    all_candidates_spine B F P n h (app M S) (app N T) = each_then Chosen (candidates B F P n M N) (candidates_spine B F P n S T) (all_candidates B F P n h M N) (all_candidates_spine B F P n h S T)

  all_candidates_at : (B F P : ℕ → Bool) (n : ℕ) → Outside F n V → (Ms : List (Option Term)) (T : Spine) → Each Chosen (candidates_at B F P n Ms T)
  all_candidates_at B F P n h [] T = each_none Chosen
  all_candidates_at B F P n h (Some M ∷ Ms) nil = each_none Chosen
  all_candidates_at B F P n h (None ∷ Ms) nil = each_none Chosen
  all_candidates_at B F P n h (Some M ∷ Ms) (app N T) = each_then Chosen (candidates B F P n M N) (candidates_at B F P n Ms T) (all_candidates B F P n h M N) (all_candidates_at B F P n h Ms T)
  all_candidates_at B F P n h (None ∷ Ms) (app N T) = all_candidates_at B F P n h Ms T

-- a free variable has a type
type_behind : (D G : List LfType) (V : ℕ → Bool) → ((i : ℕ) → V i ≡ true → (X : LfType) × TypeAt G i X) → (i : ℕ) → hide_all D V i ≡ true → (X : LfType) × TypeAt (onto D G) i X
type_behind [] G V h i e = h i e
type_behind (A ∷ D) G V h zero e = absurd cc
type_behind (A ∷ D) G V h (suc i) e = let (X, g) = type_behind D G V h i e in (weaken X, (X, g, refl))

pub hide_same : (es : List LfType) (θ : ℕ → Image) (V : ℕ → Bool) (i : ℕ) → hide_all es V i ≡ hide_all (instance es θ) V i
hide_same [] θ V i = refl
hide_same (E ∷ es) θ V zero = refl
hide_same (E ∷ es) θ V (suc i) = hide_same es θ V i

free_has_type : (I : List Item) (i : ℕ) → free_among I i ≡ true → (X : LfType) × TypeAt (items_context I) i X
free_has_type [] i e = absurd cc
free_has_type (free_variable A ∷ I) zero e = (weaken A, refl)
free_has_type (free_variable A ∷ I) (suc i) e = let (X, g) = free_has_type I i e in (weaken X, (X, g, refl))
free_has_type (block_variable B υ ∷ I) i e = type_behind (instance B.entries υ) (items_context I) (free_among I) (free_has_type I) i (subst (λ b. b ≡ true) (hide_same B.entries υ (free_among I) i) e)

pub candidate_is_variable : CandidateIsVariable
candidate_is_variable C p x m =
    let D : List LfType = binders [] p.type in
    let V : ℕ → Bool = free_among C.items in
    let P : ℕ → Bool = hide_all D (beside_set (length (items_context C.items)) V (flexible p.clause)) in
    let e : V x ≡ true = of_each_once (λ x. free_among C.items x ≡ true) [] (candidates_at (under_all D nothing) (hide_all D V) P (length D) C.arguments (with_given C p.clause D (target_arguments p.type))) (all_candidates_at V (under_all D nothing) (hide_all D V) P (length D) (outside_all D V) C.arguments (with_given C p.clause D (target_arguments p.type))) x m in
    (e, free_has_type C.items x e)
