-- Terms that are put in one after the other are put in at once.
use Rattle.std.proofs.Common.{◌≡◌, ℕ, zero, suc, ◌+◌, List, [], ◌∷◌, ◌++◌, length, refl, sym, ap, ◌∙◌, subst, arith}
use Rattle.std.specs.Prelude.{Option}
use Rattle.lf.specs.Syntax.{Term, Spine, constant, nil, app, LfType, pi, atom, Skeleton, rename, skeleton}
use Rattle.lf.specs.Substitution.{Image, keep, put, single, after, substitute, substitute_spine, substitute_type, reduce}
use Rattle.lf.specs.SkeletonTyping.{HeadSkeletons, SubstitutionBySkeletons, TermSkeleton, TypeBySkeletons}
use Rattle.lf.specs.Skeletons.{constant_skeletons, context_skeletons, family_skeletons}
use Rattle.lf.specs.AtOnce.{in_front, shift_by}
use Rattle.lf.specs.Eta.{add_last, eta_expand}
use Rattle.lf.specs.Typing.{Signature, TypeAt, IsTypedSubstitution, IsType}
use Rattle.lf.specs.Variables.{binders, everything, onto, target_arguments}
use Rattle.lf.specs.Subordination.{Block}
use Rattle.std.proofs.lemmas.List.{append-nil}
use Rattle.lf.proofs.AtOnce.{shift_by_skeletons}
use Rattle.lf.proofs.Growth.{growth_keeps_types}
use Rattle.lf.proofs.Partial.{uses_type_all}
use Rattle.lf.proofs.Renaming.{substitute_identity, substitute_renamed}
use Rattle.lf.proofs.SkeletonTypes.{single_type_by_skeletons, substitution_keeps_types_by_skeletons, substitutions_compose_type}
use Rattle.lf.proofs.SkeletonTyping.{renaming_keeps_skeletons, single_by_skeletons}
use Rattle.lf.proofs.Substitution.{typed_substitution_by_skeletons}
use Rattle.lf.proofs.ToSkeletons.{type_by_skeletons}
use Rattle.lf.proofs.TypeLaws.{skeleton_renamed, substitute_identity_type}
use Rattle.lf.specs.Worlds.{lift_over}
use Rattle.lf_checks.specs.Clause.{scope}
use Rattle.lf_cases.specs.Candidates.{given_images}
use Rattle.lf_cases.specs.Case.{as_term, items_context}
use Rattle.lf_cases.specs.Cover.{before}
use Rattle.lf_cases.proofs.LongValues.{term_has_skeleton}
use Rattle.lf_unification.specs.Offering.{local_arguments, pi_over}
use Rattle.lf_coverage.proofs.Carried.{like_type}
use Rattle.lf_coverage.proofs.PatternValues.{inside}
use Rattle.lf_numbered.specs.EntryConstants.{entry_images}
use Rattle.lf_numbered.specs.EntryPatterns.{but_last, last_of, some_images}
use Rattle.lf_numbered.specs.EntryTypesPut.{EntryTypeIsPut, GivenIsPut, OneByOneIsAtOnce, PlacedTypeIsPut, SubstitutionIsPut, all_put, entries_put, put_at_once, put_one_by_one, skeletons_put, some_put}
use Rattle.lf_numbered.specs.EntryTypesExamples.{TermsArePut}
use Rattle.lf_numbered.specs.NumberedCase.{some_spine}
use Rattle.lf_numbered.proofs.EntryPatternsNear.{before_images}
use Rattle.lf_numbered.proofs.EntryPatternsOutside.{others_are}
use Rattle.lf_numbered.proofs.EntrySignature.{block_signature, else_first, partial}
use mathlib.Core.Path.{fun_ext}

length_put : (xs : List (Skeleton × Term)) → length (skeletons_put xs) ≡ length xs
length_put [] = refl
length_put (x ∷ xs) = ap suc (length_put xs)

-- What stands behind all these variables stays.
behind_put : (xs : List (Skeleton × Term)) (i : ℕ) → put_at_once xs (i + length xs) ≡ keep i
behind_put [] i = ap keep none
  where
    none : i + zero ≡ i
    none = omega arith
behind_put (x ∷ xs) i = ap (in_front (put x.0 x.1) (put_at_once xs)) next ∙ behind_put xs i
  where
    next : i + suc (length xs) ≡ suc (i + length xs)
    next = omega arith

module _ (φ : ℕ → Option Skeleton) (κ : HeadSkeletons) (Δ : List Skeleton) where
  pub one_by_one : (xs : List (Skeleton × Term)) → SubstitutionBySkeletons κ (skeletons_put xs ++ Δ) Δ (put_at_once xs) → (A : LfType) → TypeBySkeletons φ κ (skeletons_put xs ++ Δ) A → put_one_by_one xs A ≡ substitute_type reduce (put_at_once xs) A
  one_by_one [] s A t = sym (substitute_identity_type reduce A)
  one_by_one (x ∷ xs) s A t =
      let Γ : List Skeleton = skeletons_put xs ++ Δ in
      let σ : ℕ → Image = put_at_once xs in
      let N : Term = rename (shift_by (length xs)) x.1 in
      let n : TermSkeleton κ Γ N x.0 = subst (λ k. TermSkeleton κ Γ (rename (shift_by k) x.1) x.0) (length_put xs) (renaming_keeps_skeletons κ Δ Γ (shift_by (length (skeletons_put xs))) x.1 x.0 (shift_by_skeletons (skeletons_put xs) Δ) (s zero x.0 refl).1) in
      one_by_one xs (λ i a g. s (suc i) a g) (substitute_type reduce (single x.0 N) A) (single_type_by_skeletons φ κ x.0 Γ N A n t)
      ∙ substitutions_compose_type φ κ (x.0 ∷ Γ) Γ Δ (single x.0 N) σ A (single_by_skeletons κ x.0 Γ N n) (λ i a g. s (suc i) a g) t
      ∙ ap (λ τ. substitute_type reduce τ A) (fun_ext joined)
    where
      joined : (i : ℕ) → after (put_at_once xs) (single x.0 (rename (shift_by (length xs)) x.1)) i ≡ put_at_once (x ∷ xs) i
      joined zero = ap (put x.0) (substitute_renamed reduce (put_at_once xs) (shift_by (length xs)) x.1 ∙ ap (λ τ. substitute reduce τ x.1) (fun_ext (behind_put xs)) ∙ substitute_identity reduce x.1)
      joined (suc i) = refl

pub one_by_one_is_at_once : OneByOneIsAtOnce
one_by_one_is_at_once φ κ Δ xs s A t = one_by_one φ κ Δ xs s A t

-- The terms of a block variable are such a list.
entries_are_put : (n : ℕ) (U : Spine) (es : List LfType) (xs : List (Skeleton × Term)) → entry_images n U es (put_at_once xs) ≡ put_at_once (entries_put n U es xs)
entries_are_put n U [] xs = refl
entries_are_put n U (E ∷ es) xs = ap (in_front (put (skeleton E) (eta_expand (skeleton E) (constant (n + length es)) U))) (entries_are_put n U es xs)

entries_skeletons : (n : ℕ) (U : Spine) (es O : List LfType) (xs : List (Skeleton × Term)) (Δ : List Skeleton) → skeletons_put xs ++ Δ ≡ context_skeletons O → skeletons_put (entries_put n U es xs) ++ Δ ≡ context_skeletons (onto es O)
entries_skeletons n U [] O xs Δ e = e
entries_skeletons n U (E ∷ es) O xs Δ e = ap (λ Γ. skeleton E ∷ Γ) (entries_skeletons n U es O xs Δ e)

some_are_put : (O : List LfType) (U : Spine) → some_images O U ≡ put_at_once (some_put O U)
some_are_put [] U = refl
some_are_put (A ∷ O) nil = refl
some_are_put (A ∷ O) (app M U) = ap (in_front (put (skeleton A) (last_of M U))) (some_are_put O (but_last M U))

some_skeletons : (O : List LfType) (υ : ℕ → Image) → skeletons_put (some_put O (some_spine O υ)) ≡ context_skeletons O
some_skeletons [] υ = refl
some_skeletons (A ∷ O) υ = last (some_spine O (λ i. υ (suc i))) (as_term (skeleton A) (υ zero)) ∙ ap (λ Γ. skeleton A ∷ Γ) (some_skeletons O (λ i. υ (suc i)))
  where
    last : (S : Spine) (N : Term) → skeletons_put (some_put (A ∷ O) (add_last S N)) ≡ skeleton A ∷ skeletons_put (some_put O S)
    last nil N = refl
    last (app M S) N = ap (λ V. skeleton A ∷ skeletons_put (some_put O V)) (others_are M N S)

-- A closed type may stand in front of anything.
in_any : (φ : ℕ → Option Skeleton) (κ : HeadSkeletons) (Γ Δ : List Skeleton) (A : LfType) → TypeBySkeletons φ κ Γ A → TypeBySkeletons φ κ (Γ ++ Δ) A
in_any φ κ Γ Δ A t = subst (TypeBySkeletons φ κ (Γ ++ Δ)) (substitute_identity_type reduce A) (substitution_keeps_types_by_skeletons φ κ Γ (Γ ++ Δ) keep A (inside Γ Δ) t)

in_both : (κ : HeadSkeletons) (Δ : List Skeleton) (xs : List (Skeleton × Term)) → SubstitutionBySkeletons κ (skeletons_put xs) Δ (put_at_once xs) → SubstitutionBySkeletons κ (skeletons_put xs ++ Δ) Δ (put_at_once xs)
in_both κ Δ [] s i t g = g
in_both κ Δ (x ∷ xs) s zero t g = s zero t g
in_both κ Δ (x ∷ xs) s (suc i) t g = in_both κ Δ xs (λ j u h. s (suc j) u h) i t g

-- What stands for all variables of a context is such a list too.
all_skeletons : (G : List LfType) (σ : ℕ → Image) → skeletons_put (all_put G σ) ≡ context_skeletons G
all_skeletons [] σ = refl
all_skeletons (A ∷ G) σ = ap (λ Γ. skeleton A ∷ Γ) (all_skeletons G (λ i. σ (suc i)))

all_fit : (κ : HeadSkeletons) (G : List LfType) (Δ : List Skeleton) (σ : ℕ → Image) → SubstitutionBySkeletons κ (context_skeletons G) Δ σ → SubstitutionBySkeletons κ (context_skeletons G) Δ (put_at_once (all_put G σ))
all_fit κ [] Δ σ s i t g = absurd g
all_fit κ (A ∷ G) Δ σ s zero t e = (e, term_has_skeleton κ Δ (skeleton A) (σ zero) (s zero (skeleton A) refl))
all_fit κ (A ∷ G) Δ σ s (suc i) t g = all_fit κ G Δ (λ j. σ (suc j)) (λ j. s (suc j)) i t g

all_same : (G : List LfType) (σ : ℕ → Image) (i : ℕ) (A : LfType) → TypeAt G i A → as_term (skeleton A) (σ i) ≡ as_term (skeleton A) (put_at_once (all_put G σ) i)
all_same [] σ i A g = absurd g
all_same (B ∷ G) σ zero A e = ap (λ a. as_term a (σ zero)) (ap skeleton e ∙ skeleton_renamed suc B)
all_same (B ∷ G) σ (suc i) A (D, g, e) = subst (λ a. as_term a (σ (suc i)) ≡ as_term a (put_at_once (all_put G (λ j. σ (suc j))) i)) (sym (ap skeleton e ∙ skeleton_renamed suc D)) (all_same G (λ j. σ (suc j)) i D g)

pub substitution_is_put : SubstitutionIsPut
substitution_is_put Σ G Δ σ s A a =
    let κ : HeadSkeletons = constant_skeletons Σ in
    let xs : List (Skeleton × Term) = all_put G σ in
    let Γ : skeletons_put xs ≡ context_skeletons G = all_skeletons G σ in
    let fits : SubstitutionBySkeletons κ (context_skeletons G) Δ (put_at_once xs) = all_fit κ G Δ σ s in
    like_type Σ G Δ everything σ (put_at_once xs) s fits (λ j D h u. all_same G σ j D h) A a (uses_type_all everything A (λ j. refl))
    ∙ sym (one_by_one (family_skeletons Σ) κ Δ xs (in_both κ Δ xs (subst (λ Ξ. SubstitutionBySkeletons κ Ξ Δ (put_at_once xs)) (sym Γ) fits)) A (subst (λ Ξ. TypeBySkeletons (family_skeletons Σ) κ (Ξ ++ Δ) A) (sym Γ) (in_any (family_skeletons Σ) κ (context_skeletons G) Δ A (type_by_skeletons Σ G A a))))

-- The arguments of a type with terms put in are its arguments under its quantifiers with these put in.
arguments_over : (σ : ℕ → Image) (D : List LfType) (T : LfType) → substitute_spine reduce (lift_over (binders D T) σ) (target_arguments T) ≡ target_arguments (substitute_type reduce (lift_over D σ) T)
arguments_over σ D (pi A B) = arguments_over σ (A ∷ D) B
arguments_over σ D (atom a S) = refl

pub given_is_put : GivenIsPut
given_is_put Σ Δ C p tp s =
    let σ : ℕ → Image = given_images (scope p.clause) C.given (length (items_context C.items)) in
    arguments_over σ [] p.type ∙ ap target_arguments (substitution_is_put Σ (scope p.clause) Δ σ s p.type tp.type_typed)

pub entry_type_is_put : EntryTypeIsPut
entry_type_is_put Σ ok n free O E es (c, t) =
    let B : Block = record { label = []; some = O; entries = [] } in
    let Σ₁ : Signature = partial Σ 0 B n 0 es in
    let U : Spine = local_arguments O in
    let xs : List (Skeleton × Term) = entries_put n U es [] in
    let (ok₁, s) = block_signature Σ ok 0 B n free 0 es c in
    let Γ : skeletons_put xs ++ context_skeletons O ≡ context_skeletons (onto es O) = entries_skeletons n U es O [] (context_skeletons O) refl in
    let fits : SubstitutionBySkeletons (constant_skeletons Σ₁) (skeletons_put xs ++ context_skeletons O) (context_skeletons O) (put_at_once xs) = subst (λ Δ. SubstitutionBySkeletons (constant_skeletons Σ₁) Δ (context_skeletons O) (put_at_once xs)) (sym Γ) (subst (SubstitutionBySkeletons (constant_skeletons Σ₁) (context_skeletons (onto es O)) (context_skeletons O)) (entries_are_put n U es []) (typed_substitution_by_skeletons Σ₁ ok₁ (onto es O) O (entry_images n U es keep) s)) in
    let t₁ : IsType Σ₁ (onto es O) E = growth_keeps_types Σ Σ₁ (λ d A e. else_first (Σ.types d) _ A e) (λ a K e. e) (onto es O) E t in
    ap (pi_over O) (ap (λ σ. substitute_type reduce σ E) (entries_are_put n U es []) ∙ sym (one_by_one (family_skeletons Σ₁) (constant_skeletons Σ₁) (context_skeletons O) xs fits E (subst (λ Δ. TypeBySkeletons (family_skeletons Σ₁) (constant_skeletons Σ₁) Δ E) (sym Γ) (type_by_skeletons Σ₁ (onto es O) E t₁))))

pub placed_type_is_put : PlacedTypeIsPut
placed_type_is_put Σ ok X n B later E es e U (υ, typed, q) s A a =
    let O : List LfType = B.some in
    let κ : HeadSkeletons = constant_skeletons Σ in
    let Δ : List Skeleton = context_skeletons X in
    let xs : List (Skeleton × Term) = entries_put n U es (some_put O U) in
    let same : before later (entry_images n U B.entries (some_images O U)) ≡ put_at_once xs =
    ap (λ ds. before later (entry_images n U ds (some_images O U))) (sym e)
    ∙ fun_ext (before_images n U later E es (some_images O U))
    ∙ ap (entry_images n U es) (some_are_put O U)
    ∙ entries_are_put n U es (some_put O U) in
    let Γ : skeletons_put xs ≡ context_skeletons (onto es O) = sym (append-nil (skeletons_put xs)) ∙ entries_skeletons n U es O (some_put O U) [] (append-nil (skeletons_put (some_put O U)) ∙ ap (λ V. skeletons_put (some_put O V)) q ∙ some_skeletons O υ) in
    let fits : SubstitutionBySkeletons κ (skeletons_put xs) Δ (put_at_once xs) = subst (λ Ξ. SubstitutionBySkeletons κ Ξ Δ (put_at_once xs)) (sym Γ) (typed_substitution_by_skeletons Σ ok (onto es O) X (put_at_once xs) (subst (IsTypedSubstitution Σ (onto es O) X) same s)) in
    ap (λ σ. substitute_type reduce σ A) same ∙ sym (one_by_one (family_skeletons Σ) κ Δ xs (in_both κ Δ xs fits) A (subst (λ Ξ. TypeBySkeletons (family_skeletons Σ) κ (Ξ ++ Δ) A) (sym Γ) (in_any (family_skeletons Σ) κ (context_skeletons (onto es O)) Δ A (type_by_skeletons Σ (onto es O) A a))))

-- The worked rows compute.
pub terms_are_put : TermsArePut
terms_are_put = (refl, refl, refl)
