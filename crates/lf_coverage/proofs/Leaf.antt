-- A case of inputs that is an instance of a clause: the values of the clause in the case, composed with those of a ground instance of the case,
-- are values of the clause there.
use Rattle.std.proofs.Common.{◌≡◌, ℕ, zero, suc, List, [], ◌∷◌, length, refl, sym, ap, ◌∙◌, subst}
use Rattle.std.specs.Prelude.{Bool, true, false, Option, Some, None}
use Rattle.lf.specs.Syntax.{Term, Spine, lambda, nil, app, LfType, pi, atom, Skeleton, base, arrow, skeleton, weaken}
use Rattle.lf.specs.Substitution.{Image, keep, put, substitute, substitute_spine, substitute_image, substitute_type, reduce, after}
use Rattle.lf.specs.SkeletonTyping.{HeadSkeletons, ImageSkeleton, TermSkeleton, SpineSkeleton, SubstitutionBySkeletons}
use Rattle.lf.specs.Skeletons.{constant_skeletons, family_skeletons, context_skeletons}
use Rattle.lf.specs.Typing.{Signature, TypeAt, ImageHasType, IsTypedSubstitution, IsContext, IsSignature}
use Rattle.lf.specs.Variables.{binders, onto, Uses, UsesType, Values, everything}
use Rattle.lf.specs.Eta.{lambdas}
use Rattle.lf.specs.Worlds.{lift_over, under_all}
use Rattle.lf.proofs.Agreement.{agree_on}
use Rattle.lf.proofs.Composition.{substitutions_compose}
use Rattle.lf.proofs.Partial.{skeletons_beside, PartialSubstitution, SkeletonTypeBeside, ImageHasType-has_skeleton, type_by_skeletons_beside, partial_substitution_keeps_typing, uses_all}
use Rattle.lf.proofs.Patch.{patch, patch_same, patched}
use Rattle.lf.proofs.SkeletonTypes.{substitutions_compose_type, substitution_keeps_types_by_skeletons}
use Rattle.lf.proofs.Renaming.{substitute_identity}
use Rattle.lf.proofs.ToSkeletons.{typed_has_skeleton, skeleton_has_variable}
use Rattle.lf.proofs.TypeLaws.{skeleton_substituted}
use Rattle.lf.proofs.Weakening.{declared_is_type}
use Rattle.lf_checks.specs.Clause.{Clause, scope, outside}
use Rattle.lf_checks.specs.Marks.{SamePlaces, UsesPlaces}
use Rattle.lf_checks.specs.Worlded.{IsTerm}
use Rattle.lf_cases.specs.Cover.{AreTerms}
use Rattle.lf_cases.specs.Case.{Item, items_context, as_term, HasArguments, covered_places}
use Rattle.lf_cases.specs.Reached.{LeavesAll}
use Rattle.lf_totality.proofs.Core.{out_index}
use Rattle.lf_cases.proofs.LongValues.{long_at}
use Rattle.lf_totality.proofs.OutputCases.{in_covers}
use Rattle.lf_coverage.specs.Heads.{HaveSkeletons}
use Rattle.lf_coverage.proofs.Carried.{carry, carry_same, beside_nothing, carried, long_term_same}
use Rattle.lf_coverage.proofs.Composing.{composed}
use Rattle.lf_coverage.proofs.ClauseValues.{whole_values, own_value, outer_value, whole_typed, whole_terms, whole_same}
use Rattle.lf_coverage.proofs.Forms.{lambdas_substituted}
use Rattle.lf_coverage.proofs.GroundTyped.{long_equal}
use Rattle.lf_coverage.proofs.Parts.{lambda_same}
use Rattle.lf_coverage.proofs.Standing.{Outer}
use Rattle.lf_coverage.proofs.Transfer.{same_in}

pub term_after : (f : ℕ → Image) (y : Image) → IsTerm y → IsTerm (substitute_image f y)
term_after f (keep j) t = absurd t
term_after f (put a N) t = tt

-- Under the lambdas of a local context.
pub lambdas_inside : (n : ℕ) (M : Term) → lambdas n (lambda M) ≡ lambda (lambdas n M)
lambdas_inside zero M = refl
lambdas_inside (suc n) M = ap lambda (lambdas_inside n M)

pub same_under : (n : ℕ) {M N : Term} → lambdas n M ≡ lambdas n N → M ≡ N
same_under zero e = e
same_under (suc n) e = same_under n (lambda_same e)

abbrev pub arrows : List LfType → Skeleton → Skeleton
arrows [] t = t
arrows (A ∷ D) t = arrows D (arrow (skeleton A) t)

pub lambdas_skeleton : (κ : HeadSkeletons) (D C : List LfType) (M : Term) (t : Skeleton) → TermSkeleton κ (context_skeletons (onto D C)) M t → TermSkeleton κ (context_skeletons C) (lambdas (length D) M) (arrows D t)
lambdas_skeleton κ [] C M t m = m
lambdas_skeleton κ (A ∷ D) C M t m = subst (λ N. TermSkeleton κ (context_skeletons C) N (arrows D (arrow (skeleton A) t))) (lambdas_inside (length D) M) (lambdas_skeleton κ D C (lambda M) (arrow (skeleton A) t) m)

pub lambdas_use : (D : List LfType) (U : ℕ → Bool) (M : Term) → Uses (under_all D U) M → Uses U (lambdas (length D) M)
lambdas_use [] U M u = u
lambdas_use (A ∷ D) U M u = subst (Uses U) (lambdas_inside (length D) M) (lambdas_use D U (lambda M) u)

-- what stands outside a clause is in its scope
out_in : (T : LfType) (O : List LfType) (k : ℕ) (X : LfType) → TypeAt O k X → (A : LfType) × TypeAt (binders O T) (out_index T k) A
out_in (pi A B) O k X g = out_in B (A ∷ O) (suc k) (weaken X) (X, g, refl)
out_in (atom a S) O k X g = (X, g)

-- The values τ of the variables in U of a clause, over the context C, composed with values σ of C in G.
module _ (Σ : Signature) (ok : IsSignature Σ) (G : List LfType) (cg : IsContext Σ G) (C : List LfType) (ic : IsContext Σ C) (σ : ℕ → Image) (ground : IsTypedSubstitution Σ C G σ) (c : Clause) (ct : IsContext Σ (scope c)) (U : ℕ → Bool) (τ : ℕ → Image) (tv : Values Σ U (scope c) C τ) (outer : ℕ → Image) (out : Outer Σ G c σ τ outer) where
  abbrev κ : HeadSkeletons
  κ = constant_skeletons Σ

  abbrev O : List LfType
  O = scope c

  abbrev P : List Skeleton
  P = skeletons_beside [] (scope c)

  abbrev Δ : List Skeleton
  Δ = skeletons_beside (skeletons_beside [] (scope c)) G

  abbrev τ' : ℕ → Image
  τ' = patch U C τ

  abbrev σ' : ℕ → Image
  σ' = carry C G σ

  of_clause : PartialSubstitution Σ ok [] P U O C τ'
  of_clause = patched Σ ok U O C τ ct ic tv

  of_case : PartialSubstitution Σ ok P P everything C G σ'
  of_case = carried Σ ok P C G σ ic cg ground

  abbrev ω : ℕ → Image
  ω = after σ' τ'

  ω_fits_beside : SubstitutionBySkeletons κ P Δ ω
  ω_fits_beside = composed κ P (skeletons_beside P C) Δ τ' σ' of_clause.sk of_case.sk

  pub ω_fits : SubstitutionBySkeletons κ (context_skeletons O) Δ ω
  ω_fits = subst (λ Γ. SubstitutionBySkeletons κ Γ Δ ω) (beside_nothing O) ω_fits_beside

  same_term : (N : Term) (t : Skeleton) → TermSkeleton κ (context_skeletons C) N t → substitute reduce σ' N ≡ substitute reduce σ N
  same_term N t m = same_in κ (context_skeletons C) σ' σ (λ i s q. let (A, h, e) = skeleton_has_variable C i s q in carry_same C G σ i (in_covers C i A h)) N t m

  same_image : (y : Image) (Z : LfType) → ImageHasType Σ C y Z → substitute_image σ' y ≡ substitute_image σ y
  same_image (keep j) Z h = carry_same C G σ j (in_covers C j Z h)
  same_image (put a N) Z (e, n) = ap (put a) (same_term N (skeleton Z) (typed_has_skeleton Σ C N Z n))

  pub composed_is : (i : ℕ) (A : LfType) → TypeAt O i A → U i ≡ true → ω i ≡ substitute_image σ (τ i)
  composed_is i A h u = ap (substitute_image σ') (sym (patch_same U C τ i u)) ∙ same_image (τ i) (substitute_type reduce τ A) (tv.typed i A h u)

  image_after : (y : Image) (Z : LfType) → SkeletonTypeBeside Σ ok P C Z → ImageHasType Σ C y Z → ImageHasType Σ G (substitute_image σ' y) (substitute_type reduce σ' Z)
  image_after (keep j) Z t h = of_case.typed j Z h refl
  image_after (put a N) Z t (e, n) = (skeleton_substituted reduce σ' Z ∙ e, partial_substitution_keeps_typing Σ ok P P everything C G σ' N Z of_case t (uses_all everything N (λ i. refl)) n)

  pub ω_typed : (i : ℕ) (A : LfType) → TypeAt O i A → U i ≡ true → ImageHasType Σ G (ω i) (substitute_type reduce ω A)
  ω_typed i A h u =
      let ta = type_by_skeletons_beside Σ [] O A (declared_is_type Σ ok O i A ct h) in
      subst (ImageHasType Σ G (ω i)) (substitutions_compose_type (family_skeletons Σ) κ P (skeletons_beside P C) Δ τ' σ' A of_clause.sk of_case.sk ta) (image_after (τ' i) (substitute_type reduce τ' A) (substitution_keeps_types_by_skeletons (family_skeletons Σ) κ P (skeletons_beside P C) τ' A of_clause.sk ta) (of_clause.typed i A h u))

  pub fit : (y : Image) (A : LfType) → ImageHasType Σ G y A → ImageSkeleton κ Δ y (skeleton A)
  fit y A h = ImageHasType-has_skeleton Σ ok P G y A h

  pub outer_same : (k : ℕ) (X : LfType) → TypeAt c.outer k X → U (out_index c.type k) ≡ true → as_term (skeleton X) (ω (out_index c.type k)) ≡ as_term (skeleton X) (outer k)
  outer_same k X y u = let (A, h) = out_in c.type c.outer k X y in ap (as_term (skeleton X)) (composed_is (out_index c.type k) A h u) ∙ out.same k X y

  -- the values of the clause
  abbrev pub v : ℕ → Image
  v = whole_values Σ ok G Δ fit c ct U tv.closed ω ω_fits ω_typed outer out.typed outer_same

  pub v_out : (k : ℕ) → v (out_index c.type k) ≡ outer k
  v_out = outer_value Σ ok G Δ fit c ct U tv.closed ω ω_fits ω_typed outer out.typed outer_same

  pub value_is : (i : ℕ) (A : LfType) → TypeAt O i A → outside c.type everything i ≡ false → U i ≡ true → v i ≡ substitute_image σ (τ i)
  value_is i A h o u = own_value Σ ok G Δ fit c ct U tv.closed ω ω_fits ω_typed outer out.typed outer_same i o ∙ composed_is i A h u

  -- They are typed, where the clause's own variables are of U.
  pub v_typed : (V : ℕ → Bool) → ((i : ℕ) → outside c.type everything i ≡ false → V i ≡ true → U i ≡ true) → ((i : ℕ) (A : LfType) → TypeAt O i A → V i ≡ true → UsesType V A) → Values Σ V O G v
  v_typed = whole_typed Σ ok G Δ fit c ct U tv.closed ω ω_fits ω_typed outer out.typed outer_same

  pub v_terms : (V : ℕ → Bool) → ((i : ℕ) → outside c.type everything i ≡ false → V i ≡ true → U i ≡ true) → AreTerms c U τ → AreTerms c V v
  v_terms V within ts = whole_terms Σ ok G Δ fit c ct U tv.closed ω ω_fits ω_typed outer out.typed outer_same V within (λ i o u. term_after σ' (τ' i) (subst IsTerm (patch_same U C τ i u) (ts i o u)))

  -- what a term of the clause is in the case, it is in the ground instance
  pub v_same : (Q : Term) (t : Skeleton) → TermSkeleton κ (context_skeletons O) Q t → Uses U Q → (M : Term) (s : Skeleton) → TermSkeleton κ (context_skeletons C) M s → M ≡ substitute reduce τ Q → substitute reduce σ M ≡ substitute reduce v Q
  v_same Q t q u M s m e =
      sym (same_term M s m)
      ∙ ap (substitute reduce σ') (e ∙ agree_on reduce U τ τ' Q (patch_same U C τ) u)
      ∙ substitutions_compose κ P (skeletons_beside P C) Δ τ' σ' Q t of_clause.sk of_case.sk (subst (λ Γ. TermSkeleton κ Γ Q t) (sym (beside_nothing O)) q)
      ∙ whole_same Σ ok G Δ fit c ct U tv.closed ω ω_fits ω_typed outer out.typed outer_same Q t q u

  -- under local variables too
  pub v_deep : (D L : List LfType) → length L ≡ length D → (Q : Term) (t : Skeleton) → TermSkeleton κ (context_skeletons (onto D O)) Q t → Uses (under_all D U) Q → (M : Term) (s : Skeleton) → TermSkeleton κ (context_skeletons (onto L C)) M s → M ≡ substitute reduce (lift_over D τ) Q → substitute reduce (lift_over L σ) M ≡ substitute reduce (lift_over D v) Q
  v_deep D L l Q t q u M s m e =
      same_under (length D) (
      ap (λ n. lambdas n (substitute reduce (lift_over L σ) M)) (sym l)
      ∙ sym (lambdas_substituted L σ M)
      ∙ v_same (lambdas (length D) Q) (arrows D t) (lambdas_skeleton κ D O Q t q) (lambdas_use D U Q u) (lambdas (length L) M) (arrows L s) (lambdas_skeleton κ L C M s m) (ap (λ n. lambdas n M) l ∙ ap (lambdas (length D)) e ∙ sym (lambdas_substituted D τ Q))
      ∙ lambdas_substituted D v Q
      )

  -- a given term
  pub v_given : (i : ℕ) (a : Skeleton) (M : Term) (s : Skeleton) → outside c.type everything i ≡ false → U i ≡ true → TermSkeleton κ (context_skeletons C) M s → τ i ≡ put a M → v i ≡ put a (substitute reduce σ M)
  v_given i a M s o u m e = own_value Σ ok G Δ fit c ct U tv.closed ω ω_fits ω_typed outer out.typed outer_same i o ∙ ap (substitute_image σ') (sym (patch_same U C τ i u) ∙ e) ∙ ap (put a) (same_term M s m)

  module _ (D L : List LfType) (l : length L ≡ length D) (ρ : ℕ → Image) (still : (M : Term) (t : Skeleton) → TermSkeleton κ (context_skeletons (onto L C)) M t → substitute reduce (lift_over L ρ) M ≡ M) where
    -- so it is in the places
    pub v_places : (Ms : List (Option Term)) (T P' S' : Spine) (a b : Skeleton) → HaveSkeletons κ (context_skeletons (onto L C)) Ms → SpineSkeleton κ (context_skeletons (onto D O)) S' a b → HasArguments (lift_over L σ) Ms T → HasArguments (lift_over L ρ) Ms P' → SamePlaces (covered_places Ms) P' (substitute_spine reduce (lift_over D τ) S') → UsesPlaces (under_all D U) (covered_places Ms) S' → SamePlaces (covered_places Ms) T (substitute_spine reduce (lift_over D v) S')
    v_places [] nil nil nil a b hm hs h k p u = tt
    v_places [] nil nil (app Q S') a b hm hs h k p u = absurd p
    v_places [] nil (app N' P') S' a b hm hs h k p u = absurd k
    v_places [] (app N T) P' S' a b hm hs h k p u = absurd h
    v_places (Some M ∷ Ms) nil P' S' a b hm hs h k p u = absurd h
    v_places (None ∷ Ms) nil P' S' a b hm hs h k p u = absurd h
    v_places (Some M ∷ Ms) (app N T) nil S' a b hm hs h k p u = absurd k
    v_places (None ∷ Ms) (app N T) nil S' a b hm hs h k p u = absurd k
    v_places (Some M ∷ Ms) (app N T) (app N' P') nil a b hm hs h k p u = absurd p
    v_places (None ∷ Ms) (app N T) (app N' P') nil a b hm hs h k p u = absurd p
    v_places (Some M ∷ Ms) (app N T) (app N' P') (app Q S') (base z) b hm hs h k p u = absurd hs
    v_places (None ∷ Ms) (app N T) (app N' P') (app Q S') (base z) b hm hs h k p u = absurd hs
    v_places (Some M ∷ Ms) (app N T) (app N' P') (app Q S') (arrow a a') b ((t, m), hm) (q, hs) (e, h) (f, k) (r, p) (u, us) = (e ∙ v_deep D L l Q a q u M t m (sym (still M t m) ∙ sym f ∙ r), v_places Ms T P' S' a' b hm hs h k p us)
    v_places (None ∷ Ms) (app N T) (app N' P') (app Q S') (arrow a a') b hm (q, hs) h k p u = v_places Ms T P' S' a' b hm hs h k p u

-- values that leave each variable as it is leave each term
pub leaves_terms : (Σ : Signature) (I : List Item) (ρ : ℕ → Image) → SubstitutionBySkeletons (constant_skeletons Σ) (context_skeletons (items_context I)) (context_skeletons (items_context I)) ρ → LeavesAll I ρ → (M : Term) (t : Skeleton) → TermSkeleton (constant_skeletons Σ) (context_skeletons (items_context I)) M t → substitute reduce ρ M ≡ M
leaves_terms Σ I ρ f l M t m =
    sym (long_term_same (constant_skeletons Σ) (items_context I) (context_skeletons (items_context I)) ρ M t f m)
    ∙ same_in (constant_skeletons Σ) (context_skeletons (items_context I)) (long_at (items_context I) ρ) (long_at (items_context I) keep) (λ i s g. let (X, h, e) = skeleton_has_variable (items_context I) i s g in long_equal (items_context I) ρ keep l i X h) M t m
    ∙ long_term_same (constant_skeletons Σ) (items_context I) (context_skeletons (items_context I)) keep M t (λ i s g. g) m
    ∙ substitute_identity reduce M

-- under local variables too
pub leaves_deep : (Σ : Signature) (I : List Item) (ρ : ℕ → Image) → SubstitutionBySkeletons (constant_skeletons Σ) (context_skeletons (items_context I)) (context_skeletons (items_context I)) ρ → LeavesAll I ρ → (L : List LfType) (M : Term) (t : Skeleton) → TermSkeleton (constant_skeletons Σ) (context_skeletons (onto L (items_context I))) M t → substitute reduce (lift_over L ρ) M ≡ M
leaves_deep Σ I ρ f l L M t m = same_under (length L) (sym (lambdas_substituted L ρ M) ∙ leaves_terms Σ I ρ f l (lambdas (length L) M) (arrows L t) (lambdas_skeleton (constant_skeletons Σ) L (items_context I) M t m))
