-- A typed case by number is a typed instance of itself: eta-long variables for its free variables leave what stands in it.
use Rattle.std.proofs.Common.{◌≡◌, ℕ, zero, suc, ◌+◌, List, [], ◌∷◌, length, refl, sym, ap, ap₂, ◌∙◌, subst, arith}
use Rattle.std.specs.Prelude.{Option, Some, None}
use Rattle.lf.specs.Syntax.{Term, Spine, LfType, Skeleton, constant, variable, metavariable, lambda, root, nil, app, pi, atom, skeleton, weaken, rename}
use Rattle.lf.specs.AtOnce.{in_front}
use Rattle.lf.specs.Eta.{eta_long}
use Rattle.lf.specs.SkeletonTyping.{ImageSkeleton, TermSkeleton, SubstitutionBySkeletons}
use Rattle.lf.specs.Skeletons.{constant_skeletons, context_skeletons}
use Rattle.lf.specs.Substitution.{Image, keep, put, rename_image, substitute, substitute_spine, substitute_image, substitute_type, reduce, after}
use Rattle.lf.specs.Typing.{Signature, TypeAt, HasType, IsType, IsContext, IsSignature, IsTypedSubstitution}
use Rattle.lf.specs.Variables.{onto, everything}
use Rattle.lf.specs.Worlds.{lift_over, instance}
use Rattle.lf.proofs.Agreement.{agree_on_type}
use Rattle.lf.proofs.Kept.{typed_uses_type}
use Rattle.lf.proofs.Partial.{uses_type_all}
use Rattle.lf.proofs.SkeletonTyping.{lift_by_skeletons}
use Rattle.lf.proofs.Substitution.{typed_substitution_by_skeletons}
use Rattle.lf.proofs.ToSkeletons.{skeleton_has_variable, variable_has_skeleton}
use Rattle.lf.proofs.TypeLaws.{skeleton_renamed, substitute_identity_type}
use Rattle.lf_cases.specs.Case.{as_term, items_context}
use Rattle.lf_cases.specs.Missing.{IsTypedInstance, put_in}
use Rattle.lf_cases.specs.OutputGoal.{free_variables}
use Rattle.lf_totality.proofs.OutputCases.{in_context, in_covers, in_type}
use Rattle.lf_coverage.specs.Heads.{HaveSkeletons}
use Rattle.lf_coverage.proofs.Carried.{like_type}
use Rattle.lf_coverage.proofs.Leaf.{leaves_terms}
use Rattle.lf_coverage.proofs.InstanceOfItself.{items_stay}
use Rattle.lf_coverage.proofs.SolvedCase.{free_context_is, free_typed}
use Rattle.lf_coverage.proofs.Transfer.{instance_fits}
use Rattle.lf_numbered.specs.NumberedCase.{some_spine}
use Rattle.lf_numbered.specs.NumberedInstance.{AreTypedValues, move, move_spine, move_type, move_types, move_all}
use Rattle.lf_numbered.specs.OwnTerms.{OnOwnTerms}
use Rattle.lf_numbered.proofs.EntryValues.{put_some, some_equal}
use Rattle.lf_numbered.proofs.OwnLong.{variable_own as own_long}
use Rattle.lf_numbered.proofs.WritingValues.{term_moved}

-- Constants that don't move leave all terms.
mutual
  pub unmoved : (M : Term) → move (λ c. c) M ≡ M
  unmoved (lambda M) = ap lambda (unmoved M)
  unmoved (root (constant c) S) = ap (root (constant c)) (unmoved_spine S)
  unmoved (root (variable i) S) = ap (root (variable i)) (unmoved_spine S)
  unmoved (root (metavariable m) S) = ap (root (metavariable m)) (unmoved_spine S)

  pub unmoved_spine : (S : Spine) → move_spine (λ c. c) S ≡ S
  unmoved_spine nil = refl
  unmoved_spine (app M S) = ap₂ app (unmoved M) (unmoved_spine S)

pub unmoved_type : (A : LfType) → move_type (λ c. c) A ≡ A
unmoved_type (pi A B) = ap₂ pi (unmoved_type A) (unmoved_type B)
unmoved_type (atom a S) = ap (atom a) (unmoved_spine S)

pub unmoved_types : (D : List LfType) → move_types (λ c. c) D ≡ D
unmoved_types [] = refl
unmoved_types (A ∷ D) = ap₂ (λ B E. B ∷ E) (unmoved_type A) (unmoved_types D)

pub unmoved_all : (Ms : List (Option Term)) → move_all (λ c. c) Ms ≡ Ms
unmoved_all [] = refl
unmoved_all (Some M ∷ Ms) = ap₂ (λ N Ns. Some N ∷ Ns) (unmoved M) (unmoved_all Ms)
unmoved_all (None ∷ Ms) = ap (λ Ns. None ∷ Ns) (unmoved_all Ms)

-- values that leave each variable of a context as it is
abbrev pub Leaves : List LfType → (ℕ → Image) → Type 0
Leaves Y σ = (i : ℕ) (A : LfType) → TypeAt Y i A → as_term (skeleton A) (σ i) ≡ as_term (skeleton A) (keep i)

abbrev pub Fits : Signature → List LfType → (ℕ → Image) → Type 0
Fits Σ Y σ = SubstitutionBySkeletons (constant_skeletons Σ) (context_skeletons Y) (context_skeletons Y) σ

module _ (Σ : Signature) (ok : IsSignature Σ) (Y : List LfType) (context : IsContext Σ Y) (o : ℕ → Option Spine) where
  abbrev Agree : List LfType → (ℕ → Image) → (ℕ → Image) → Type 0
  Agree X π ρ = (i : ℕ) (A : LfType) → TypeAt X i A → π i ≡ ρ i

  -- one more variable
  next : (A : LfType) (X : List LfType) (n : ℕ) (τ : ℕ → Image) → IsType Σ X A → (N : Term) (ρ : ℕ → Image) → HasType Σ (items_context (free_variables Y)) N (substitute_type reduce ρ A) → τ ≡ in_front (put (skeleton A) N) ρ → ((i : ℕ) (B : LfType) → TypeAt (A ∷ X) i B → as_term (skeleton B) (τ i) ≡ as_term (skeleton B) (keep (i + n))) → (π : ℕ → Image) → AreTypedValues Σ Y o (λ c. c) X π → Agree X π ρ → (π' : ℕ → Image) × AreTypedValues Σ Y o (λ c. c) (A ∷ X) π' × Agree (A ∷ X) π' τ
  next A X n τ t N ρ h e l π v s = (in_front (put (skeleton A) N) π, (N, π, v, typed, own, refl), agree)
    where
      same : substitute_type reduce ρ A ≡ substitute_type reduce π (move_type (λ c. c) A)
      same = agree_on_type reduce (in_context X) ρ π A (λ i u. let (B, k) = in_type X i u in sym (s i B k)) (typed_uses_type Σ X (in_context X) A (in_covers X) t) ∙ ap (substitute_type reduce π) (sym (unmoved_type A))

      typed : HasType Σ Y N (substitute_type reduce π (move_type (λ c. c) A))
      typed = subst (HasType Σ Y N) same (subst (λ Z. HasType Σ Z N (substitute_type reduce ρ A)) (free_context_is Y) h)

      long : N ≡ eta_long (skeleton A) (variable (zero + n))
      long = sym (ap (λ σ. as_term (skeleton A) (σ zero)) e) ∙ subst (λ a. as_term a (τ zero) ≡ as_term a (keep (zero + n))) (skeleton_renamed suc A) (l zero (weaken A) refl)

      own : OnOwnTerms o N
      own = subst (OnOwnTerms o) (sym long) (own_long o (skeleton A) (zero + n) nil tt)

      agree : Agree (A ∷ X) (in_front (put (skeleton A) N) π) τ
      agree zero B k = sym (ap (λ σ. σ zero) e)
      agree (suc i) B (C, k, q) = s i C k ∙ sym (ap (λ σ. σ (suc i)) e)

  values : (X : List LfType) (n : ℕ) (τ : ℕ → Image) → IsContext Σ X → IsTypedInstance Σ (free_variables Y) (free_variables X) τ → ((i : ℕ) (B : LfType) → TypeAt X i B → as_term (skeleton B) (τ i) ≡ as_term (skeleton B) (keep (i + n))) → (π : ℕ → Image) × AreTypedValues Σ Y o (λ c. c) X π × Agree X π τ
  values [] n τ c g l = ((λ i. keep (i + length Y)), refl, λ i A h. absurd h)
  values (A ∷ X) n τ (c, t) (N, ρ, g, h, e) l =
      let (π, v, s) : (π : ℕ → Image) × AreTypedValues Σ Y o (λ c. c) X π × Agree X π ρ = values X (suc n) ρ c g (others A X n τ N ρ e l) in
      next A X n τ t N ρ h e l π v s
    where
      others : (A : LfType) (X : List LfType) (n : ℕ) (τ : ℕ → Image) (N : Term) (ρ : ℕ → Image) → τ ≡ in_front (put (skeleton A) N) ρ → ((i : ℕ) (B : LfType) → TypeAt (A ∷ X) i B → as_term (skeleton B) (τ i) ≡ as_term (skeleton B) (keep (i + n))) → (i : ℕ) (B : LfType) → TypeAt X i B → as_term (skeleton B) (ρ i) ≡ as_term (skeleton B) (keep (i + suc n))
      others A X n τ N ρ e l i B k = subst (λ j. as_term (skeleton B) (ρ i) ≡ as_term (skeleton B) (keep j)) (sum i n) (subst (λ s. as_term s (ρ i) ≡ as_term s (keep (suc i + n))) (skeleton_renamed suc B) (subst (λ y. as_term (skeleton (weaken B)) y ≡ as_term (skeleton (weaken B)) (keep (suc i + n))) (ap (λ σ. σ (suc i)) e) (l (suc i) (weaken B) (B, k, refl))))
        where
          sum : (i n : ℕ) → suc i + n ≡ i + suc n
          sum i n = omega arith

  pub own_values : (σ : ℕ → Image) × AreTypedValues Σ Y o (λ c. c) Y σ × Fits Σ Y σ × Leaves Y σ
  own_values =
      let a = free_typed Σ [] Y context in
      let (τ, g, l) = items_stay Σ ok [] (λ B m. absurd m) (free_variables Y) a in
      let (π, v, s) : (π : ℕ → Image) × AreTypedValues Σ Y o (λ c. c) Y π × Agree Y π τ = values Y zero τ context g (λ i B h. subst (λ j. as_term (skeleton B) (τ i) ≡ as_term (skeleton B) (keep j)) (none i) (l i B (subst (λ Z. TypeAt Z i B) (sym (free_context_is Y)) h))) in
      let f : Fits Σ Y τ = subst (λ Z. SubstitutionBySkeletons (constant_skeletons Σ) (context_skeletons Z) (context_skeletons Z) τ) (free_context_is Y) (instance_fits Σ ok [] (free_variables Y) a (free_variables Y) τ g) in
      (π, v, (λ i t h. let (A, k, e) = skeleton_has_variable Y i t h in subst (λ y. ImageSkeleton (constant_skeletons Σ) (context_skeletons Y) y t) (sym (s i A k)) (f i t h)), λ i A h. ap (as_term (skeleton A)) (s i A h) ∙ subst (λ Z. Leaves Z τ) (free_context_is Y) l i A h)
    where
      none : (i : ℕ) → i ≡ i + zero
      none i = omega arith

  module _ (σ : ℕ → Image) (fits : Fits Σ Y σ) (leaves : Leaves Y σ) where
    -- under a local context
    fits_over : (D : List LfType) → Fits Σ (onto D Y) (lift_over D σ)
    fits_over [] = fits
    fits_over (A ∷ D) = lift_by_skeletons (constant_skeletons Σ) (skeleton A) (context_skeletons (onto D Y)) (context_skeletons (onto D Y)) (lift_over D σ) (fits_over D)

    leaves_over : (D : List LfType) → Leaves (onto D Y) (lift_over D σ)
    leaves_over [] i X h = leaves i X h
    leaves_over (A ∷ D) zero X e = refl
    leaves_over (A ∷ D) (suc i) X (B, h, e) = subst (λ a. as_term a (rename_image suc (lift_over D σ i)) ≡ as_term a (keep (suc i))) (sym (ap skeleton e ∙ skeleton_renamed suc B)) (term_moved (skeleton B) (lift_over D σ i) ∙ ap (rename suc) (leaves_over D i B h) ∙ sym (term_moved (skeleton B) (keep i)))

    term_stays : (D : List LfType) (M : Term) (t : Skeleton) → TermSkeleton (constant_skeletons Σ) (context_skeletons (onto D Y)) M t → substitute reduce (lift_over D σ) M ≡ M
    term_stays D M t m = leaves_terms Σ (free_variables (onto D Y)) (lift_over D σ) (subst (λ Z. SubstitutionBySkeletons (constant_skeletons Σ) (context_skeletons Z) (context_skeletons Z) (lift_over D σ)) (sym (free_context_is (onto D Y))) (fits_over D)) (subst (λ Z. Leaves Z (lift_over D σ)) (sym (free_context_is (onto D Y))) (leaves_over D)) M t (subst (λ Z. TermSkeleton (constant_skeletons Σ) (context_skeletons Z) M t) (sym (free_context_is (onto D Y))) m)

    pub terms_stay : (D : List LfType) (Ms : List (Option Term)) → HaveSkeletons (constant_skeletons Σ) (context_skeletons (onto D Y)) Ms → put_in (lift_over D σ) Ms ≡ Ms
    terms_stay D [] h = refl
    terms_stay D (Some M ∷ Ms) ((t, m), h) = ap₂ (λ N Ns. Some N ∷ Ns) (term_stays D M t m) (terms_stay D Ms h)
    terms_stay D (None ∷ Ms) h = ap (λ Ns. None ∷ Ns) (terms_stay D Ms h)

    pub local_stays : (D : List LfType) → IsContext Σ (onto D Y) → instance D σ ≡ D
    local_stays [] c = refl
    local_stays (A ∷ D) (c, t) = ap₂ (λ B E. B ∷ E) (like_type Σ (onto D Y) (context_skeletons (onto D Y)) everything (lift_over D σ) keep (fits_over D) (λ i s h. h) (λ i X h u. leaves_over D i X h) A t (uses_type_all everything A (λ i. refl)) ∙ substitute_identity_type reduce A) (local_stays D c)

    -- `some` terms
    pub some_stay : (O : List LfType) (υ : ℕ → Image) → IsTypedSubstitution Σ O Y υ → substitute_spine reduce σ (some_spine O υ) ≡ some_spine O υ
    some_stay O υ s =
        let f = typed_substitution_by_skeletons Σ ok O Y υ s in
        put_some (constant_skeletons Σ) O (context_skeletons Y) (context_skeletons Y) υ σ f fits ∙ some_equal O (after σ υ) υ (λ i A h. image (skeleton A) (υ i) (f i (skeleton A) (variable_has_skeleton O i A h)))
      where
        image : (a : Skeleton) (y : Image) → ImageSkeleton (constant_skeletons Σ) (context_skeletons Y) y a → as_term a (substitute_image σ y) ≡ as_term a y
        image a (keep j) h = let (A, k, e) = skeleton_has_variable Y j a h in subst (λ b. as_term b (σ j) ≡ as_term b (keep j)) e (leaves j A k)
        image a (put b N) (e, m) = term_stays [] N b m
