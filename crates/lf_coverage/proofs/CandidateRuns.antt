-- Candidates are of families of the set beside which a case is to be covered: each stands in a covered argument, under heads of such families.
use Rattle.std.proofs.Common.{◌≡◌, ℕ, zero, suc, List, [], ◌∷◌, length, sym, ap, ◌∙◌, subst, true≢false}
use Rattle.std.specs.Prelude.{Bool, true, false, cond, Option, Some, None}
use Rattle.lf.specs.Syntax.{constant, variable, metavariable, Term, Spine, lambda, root, nil, app, LfType, Kind, pi, atom, kind_pi, star, Skeleton, base, arrow, skeleton}
use Rattle.lf.specs.Substitution.{Image, substitute_kind, lift, reduce, single}
use Rattle.lf.specs.SkeletonTyping.{SkeletonAt, SpineSkeleton, TermSkeleton}
use Rattle.lf.specs.Skeletons.{constant_skeletons, context_skeletons}
use Rattle.lf.specs.Typing.{Signature, TypeAt, HasType, SpineType, instantiate_type, instantiate_kind}
use Rattle.lf.specs.Variables.{target, target_arguments, binders, hide, onto, under, nothing, FamiliesIn}
use Rattle.lf.specs.Subordination.{Block, SelfContained}
use Rattle.lf.specs.Worlds.{instance, under_all}
use Rattle.lf.proofs.Strength.{families_renamed, families_substituted}
use Rattle.lf.proofs.Conservativity.{spine_target}
use Rattle.lf.proofs.Target.{target_renamed}
use Rattle.lf_checks.specs.Clause.{scope}
use Rattle.lf_checks.specs.Strict.{lower, pattern_arguments}
use Rattle.lf_cases.specs.Case.{Item, free_variable, block_variable, items_context, covered_places}
use Rattle.lf_cases.specs.Candidates.{candidates, candidates_spine, candidates_at, counted, flexible, free_among, hide_all, is_rigid, beside_set, with_given}
use Rattle.lf_cases.proofs.OutputItems.{length_instance}
use Rattle.lf_cases.specs.Split.{HasNoBlockVariable}
use Rattle.lf_coverage.specs.Calls.{LocalsIn, PlacesIn}
use Rattle.lf_coverage.specs.CandidateRuns.{CandidateIsInSet}
use Rattle.lf_coverage.specs.Heads.{HaveSkeletons}
use Rattle.lf_coverage.specs.TypedCase.{TypedArguments, given_values}
use Rattle.lf_coverage.proofs.Candidates.{hide_same}
use Rattle.lf_coverage.proofs.EachCandidate.{Each, each_chosen, each_counted, each_none, each_then, of_each_once}
use Rattle.lf_coverage.proofs.Parts.{some_same}
use Rattle.lf_coverage.proofs.Strip.{in_set}

in_set_at : (S : ℕ → Bool) (G : List LfType) (i : ℕ) (A : LfType) → TypeAt G i A → in_set S G i ≡ true → S (target A) ≡ true
in_set_at S [] i A g e = absurd g
in_set_at S (X ∷ G) zero A g e = ap S (ap target g ∙ target_renamed suc X) ∙ e
in_set_at S (X ∷ G) (suc i) A (B, g, q) e = ap S (ap target q ∙ target_renamed suc B) ∙ in_set_at S G i B g e

module _ (Σ : Signature) (W : List Block) (S : ℕ → Bool) (sc : SelfContained Σ W S) (V : ℕ → Bool) where
  abbrev Chosen : ℕ → Type 0
  Chosen x = V x ≡ true

  -- The variables in F under n binders are, where their families are in S, those of V outside them; the others that a term may have take families of S.
  abbrev Known : (ℕ → Bool) → ℕ → List LfType → Type 0
  Known F n G = (i : ℕ) (A : LfType) → TypeAt G i A → F i ≡ true → (x : ℕ) → lower n i ≡ Some x → S (target A) ≡ true → V x ≡ true

  abbrev Other : (ℕ → Bool) → List LfType → List Skeleton → Type 0
  Other F G Γ = (i : ℕ) (A : LfType) → TypeAt G i A → F i ≡ false → (t : Skeleton) → SkeletonAt Γ i t → S (target A) ≡ true → FamiliesIn S A

  known_under : (F : ℕ → Bool) (n : ℕ) (G : List LfType) (X : LfType) → Known F n G → Known (hide F) (suc n) (X ∷ G)
  known_under F n G X h zero A g f x e s = absurd (true≢false (sym f))
  known_under F n G X h (suc i) A (B, g, q) f x e s = h i B g f x e (ap S (sym (ap target q ∙ target_renamed suc B)) ∙ s)

  other_under : (F : ℕ → Bool) (G : List LfType) (Γ : List Skeleton) (X : LfType) (a : Skeleton) → (S (target X) ≡ true → FamiliesIn S X) → Other F G Γ → Other (hide F) (X ∷ G) (a ∷ Γ)
  other_under F G Γ X a k h zero A g f t u s = subst (FamiliesIn S) (sym g) (families_renamed S suc X (k (ap S (sym (ap target g ∙ target_renamed suc X)) ∙ s)))
  other_under F G Γ X a k h (suc i) A (B, g, q) f t u s = subst (FamiliesIn S) (sym q) (families_renamed S suc B (h i B g f t u (ap S (sym (ap target q ∙ target_renamed suc B)) ∙ s)))

  mutual
    from_term : (B F P : ℕ → Bool) (n : ℕ) (G : List LfType) (Γ : List Skeleton) → Known F n G → Other F G Γ → (M N : Term) (A : LfType) (t : Skeleton) → FamiliesIn S A → HasType Σ G M A → TermSkeleton (constant_skeletons Σ) Γ M t → Each Chosen (candidates B F P n M N)
    from_term B F P n G Γ k o (lambda M) (lambda N) (pi A C) (arrow a b) (f, g) m s = from_term (under B) (hide F) (hide P) (suc n) (A ∷ G) (a ∷ Γ) (known_under F n G A k) (other_under F G Γ A a (λ e. f) o) M N C b g m s
    from_term B F P n G Γ k o (lambda M) (lambda N) (pi A C) (base a) f m s = absurd s
    from_term B F P n G Γ k o (lambda M) (lambda N) (atom a U) t f m s = absurd m
    from_term B F P n G Γ k o (lambda M) (root g T) A t f m s = each_none Chosen
    from_term B F P n G Γ k o (root g S0) (lambda N) A t f m s = each_none Chosen
    from_term B F P n G Γ k o (root h S0) (root g T) (pi A C) t f m s = absurd m
    from_term B F P n G Γ k o (root h S0) (root g T) (atom a U) (arrow b c) f m s = absurd s
    from_term B F P n G Γ k o (root (constant c) S0) (root g T) (atom a U) (base d) f (Y, h, m) (t, e, s) =
        each_chosen Chosen (is_rigid P g) (candidates_spine B F P n S0 T) [] (λ q. from_spine B F P n G Γ k o S0 T Y (atom a U) t (base d) (sc.types_in c Y h (ap S (spine_target Σ G S0 Y (atom a U) m) ∙ f)) m s) (λ q. each_none Chosen)
    from_term B F P n G Γ k o (root (metavariable c) S0) (root g T) (atom a U) (base d) f m s = each_none Chosen
    from_term B F P n G Γ k o (root (variable i) S0) (root g T) (atom a U) (base d) f (Y, h, m) (t, e, s) =
        let y : S (target Y) ≡ true = ap S (spine_target Σ G S0 Y (atom a U) m) ∙ f in
        each_chosen Chosen (is_rigid P g) (cond (F i) (counted (pattern_arguments B [] S0) (lower n i)) (candidates_spine B F P n S0 T)) []
        (λ q. each_chosen Chosen (F i) (counted (pattern_arguments B [] S0) (lower n i)) (candidates_spine B F P n S0 T)
        (λ r. each_counted Chosen (pattern_arguments B [] S0) (lower n i) (λ y0 x z. k i Y h r x z y))
        (λ r. from_spine B F P n G Γ k o S0 T Y (atom a U) t (base d) (o i Y h r t e y) m s))
        (λ q. each_none Chosen)

    from_spine : (B F P : ℕ → Bool) (n : ℕ) (G : List LfType) (Γ : List Skeleton) → Known F n G → Other F G Γ → (S0 T : Spine) (Y C : LfType) (t u : Skeleton) → FamiliesIn S Y → SpineType Σ G S0 Y C → SpineSkeleton (constant_skeletons Σ) Γ S0 t u → Each Chosen (candidates_spine B F P n S0 T)
    from_spine B F P n G Γ k o nil T Y C t u f m s = each_none Chosen
    from_spine B F P n G Γ k o (app M S0) nil Y C t u f m s = each_none Chosen
    from_spine B F P n G Γ k o (app M S0) (app N T) (atom a U) C t u f m s = absurd m
    from_spine B F P n G Γ k o (app M S0) (app N T) (pi A Y) C (base a) u f m s = absurd s
    from_spine B F P n G Γ k o (app M S0) (app N T) (pi A Y) C (arrow a b) u (f, g) (m, ms) (s, ss) =
        each_then Chosen (candidates B F P n M N) (candidates_spine B F P n S0 T) (from_term B F P n G Γ k o M N A a f m s) (from_spine B F P n G Γ k o S0 T (instantiate_type A M Y) C b u (families_substituted S reduce (single (skeleton A) M) Y g) ms ss)

  places_substituted : (bs : List Bool) (σ : ℕ → Image) (K : Kind) → PlacesIn S bs K → PlacesIn S bs (substitute_kind reduce σ K)
  places_substituted [] σ K p = tt
  places_substituted (b ∷ bs) σ star p = tt
  places_substituted (true ∷ bs) σ (kind_pi A K) (a, p) = (families_substituted S reduce σ A a, places_substituted bs (lift σ) K p)
  places_substituted (false ∷ bs) σ (kind_pi A K) p = places_substituted bs (lift σ) K p

  from_arguments : (B F P : ℕ → Bool) (n : ℕ) (G : List LfType) (Γ : List Skeleton) → Known F n G → Other F G Γ → (Ms : List (Option Term)) (T : Spine) (K : Kind) → PlacesIn S (covered_places Ms) K → TypedArguments Σ G Ms T K → HaveSkeletons (constant_skeletons Σ) Γ Ms → Each Chosen (candidates_at B F P n Ms T)
  from_arguments B F P n G Γ k o [] T K p t h = each_none Chosen
  from_arguments B F P n G Γ k o (M ∷ Ms) nil K p t h = each_none Chosen
  from_arguments B F P n G Γ k o (M ∷ Ms) (app N T) star p t h = absurd t
  from_arguments B F P n G Γ k o (Some M ∷ Ms) (app N T) (kind_pi A K) (a, p) (m, t) ((u, s), h) =
      each_then Chosen (candidates B F P n M N) (candidates_at B F P n Ms T) (from_term B F P n G Γ k o M N A u a m s) (from_arguments B F P n G Γ k o Ms T (instantiate_kind A M K) (places_substituted (covered_places Ms) (single (skeleton A) M) K p) t h)
  from_arguments B F P n G Γ k o (None ∷ Ms) (app N T) (kind_pi A K) p t h = from_arguments B F P n G Γ k o Ms T (instantiate_kind A N K) (places_substituted (covered_places Ms) (single (skeleton A) N) K p) t h

  -- under a local context
  known_all : (L G : List LfType) (F : ℕ → Bool) → Known F 0 G → Known (hide_all L F) (length L) (onto L G)
  known_all [] G F k = k
  known_all (X ∷ L) G F k = known_under (hide_all L F) (length L) (onto L G) X (known_all L G F k)

  other_all : (L G H : List LfType) (F : ℕ → Bool) → LocalsIn S L → Other F G (context_skeletons H) → Other (hide_all L F) (onto L G) (context_skeletons (onto L H))
  other_all [] G H F l o = o
  other_all (X ∷ L) G H F (x, l) o = other_under (hide_all L F) (onto L G) (context_skeletons (onto L H)) X (skeleton X) x (other_all L G H F l o)

free_known : (S : ℕ → Bool) (I : List Item) (Z : List LfType) → HasNoBlockVariable I → (i : ℕ) (A : LfType) → TypeAt (onto (items_context I) Z) i A → free_among I i ≡ true → S (target A) ≡ true → in_set S (items_context I) i ≡ true
free_known S [] Z n i A g f s = absurd (true≢false (sym f))
free_known S (free_variable X ∷ I) Z n zero A g f s = ap S (sym (ap target g ∙ target_renamed suc X)) ∙ s
free_known S (free_variable X ∷ I) Z n (suc i) A (B, g, q) f s = free_known S I Z n i B g f (ap S (sym (ap target q ∙ target_renamed suc B)) ∙ s)
free_known S (block_variable B υ ∷ I) Z n i A g f s = absurd n

none_other : (I : List Item) → HasNoBlockVariable I → (i : ℕ) (t : Skeleton) → SkeletonAt (context_skeletons (items_context I)) i t → free_among I i ≡ false → ⊥
none_other [] n i t s f = s
none_other (free_variable X ∷ I) n zero t s f = true≢false f
none_other (free_variable X ∷ I) n (suc i) t s f = none_other I n i t s f
none_other (block_variable B υ ∷ I) n i t s f = n

pub candidate_is_in_set : CandidateIsInSet
candidate_is_in_set Σ W S C p tb nb b x m X at =
    let D : List LfType = binders [] p.type in
    let O : List LfType = items_context C.items in
    let Z : List LfType = scope p.clause in
    let θ : ℕ → Image = given_values C p in
    let L : List LfType = instance D θ in
    let V : ℕ → Bool = in_set S O in
    let F : ℕ → Bool = free_among C.items in
    let P : ℕ → Bool = hide_all D (beside_set (length O) F (flexible p.clause)) in
    let T : Spine = with_given C p.clause D (target_arguments p.type) in
    let k0 : Known Σ W S b.self_contained V (hide_all L F) (length L) (onto L (onto O Z)) = known_all Σ W S b.self_contained V L (onto O Z) F (λ i A g f y e s. subst (λ j. V j ≡ true) (some_same e) (free_known S C.items Z nb i A g f s)) in
    let o0 : Other Σ W S b.self_contained V (hide_all L F) (onto L (onto O Z)) (context_skeletons (onto L O)) = other_all Σ W S b.self_contained V L (onto O Z) O F (subst (LocalsIn S) tb.local b.locals) (λ i A g f t u s. absurd (none_other C.items nb i t u f)) in
    let k : Known Σ W S b.self_contained V (hide_all D F) (length D) (onto L (onto O Z)) = λ i A g f y e s. k0 i A g (sym (hide_same D θ F i) ∙ f) y (ap (λ n. lower n i) (length_instance D θ) ∙ e) s in
    let o : Other Σ W S b.self_contained V (hide_all D F) (onto L (onto O Z)) (context_skeletons (onto L O)) = λ i A g f t u s. o0 i A g (sym (hide_same D θ F i) ∙ f) t u s in
    let h : HaveSkeletons (constant_skeletons Σ) (context_skeletons (onto L O)) C.arguments = subst (λ E. HaveSkeletons (constant_skeletons Σ) (context_skeletons (onto E O)) C.arguments) tb.local tb.by_skeletons.arguments in
    let t : TypedArguments Σ (onto L (onto O Z)) C.arguments T tb.kind = subst (λ E. TypedArguments Σ (onto E (onto O Z)) C.arguments T tb.kind) tb.local tb.arguments in
    let q : PlacesIn S (covered_places C.arguments) tb.kind = subst (PlacesIn S (covered_places C.arguments)) (some_same (sym b.of_family ∙ tb.of_family)) b.places in
    in_set_at S O x X at (of_each_once (λ y. V y ≡ true) [] (candidates_at (under_all D nothing) (hide_all D F) P (length D) C.arguments T) (from_arguments Σ W S b.self_contained V (under_all D nothing) (hide_all D F) P (length D) (onto L (onto O Z)) (context_skeletons (onto L O)) k o C.arguments T tb.kind q t h) x m)
