-- Of heads matching by terms alone decides whether a case is an instance.
use Rattle.std.proofs.Common.{◌≡◌, ℕ, zero, suc, List, [], ◌∷◌, length, refl, sym, ap, ◌∙◌, subst}
use Rattle.std.specs.Prelude.{Bool, true, false, Option, Some, None}
use Rattle.lf.specs.Syntax.{constant, variable, metavariable, Term, Spine, lambda, root, nil, app, LfType, Kind, kind_pi, star, Skeleton, base, arrow, skeleton, kind_skeleton, rename}
use Rattle.lf.specs.AtOnce.{in_front}
use Rattle.lf.specs.Substitution.{Image, keep, put, lift, single, substitute_type, substitute_kind, reduce}
use Rattle.lf.specs.SkeletonTyping.{SkeletonAt, TermSkeleton, SpineSkeleton, KindBySkeletons, SubstitutionBySkeletons}
use Rattle.lf.specs.Skeletons.{constant_skeletons, family_skeletons, context_skeletons}
use Rattle.lf.specs.Typing.{Signature, TypeAt, HasType, IsSignature, instantiate_kind}
use Rattle.lf.specs.Variables.{target, target_arguments, onto, under, everything, Uses, UsesSpine}
use Rattle.lf.proofs.SkeletonTypes.{substitutions_compose_kind}
use Rattle.lf.proofs.SkeletonTyping.{lift_by_skeletons, single_by_skeletons, substitution_keeps_spine_skeletons}
use Rattle.lf.proofs.Strength.{strengthening_keeps_typing}
use Rattle.lf.proofs.ToSkeletons.{kind_by_skeletons, kind_spine_has_skeleton, skeleton_has_variable, typed_has_skeleton}
use Rattle.lf.proofs.TypeLaws.{skeleton_substituted, substitute_identity_kind}
use Rattle.lf_checks.specs.Clause.{scope, outside}
use Rattle.lf_checks.specs.Ground.{UsesGoal}
use Rattle.lf_checks.specs.Marks.{TypedPlacesFrom}
use Rattle.lf_cases.specs.Case.{items_context, covered_places}
use Rattle.lf_cases.specs.Pattern.{Pattern, origin, head_pattern, is_given, ground_in}
use Rattle.lf_cases.specs.Candidates.{given_images, with_given}
use Rattle.lf_cases.specs.Reached.{IsInstanceOf}
use Rattle.lf_cases.proofs.Raised.{rename_identity, rename_identity_type}
use Rattle.lf_totality.proofs.OutputCases.{in_context, in_covers}
use Rattle.lf_coverage.specs.Heads.{HaveSkeletons}
use Rattle.lf_coverage.specs.Leaf.{IsTypedPattern}
use Rattle.lf_coverage.specs.Matching.{ArePlaces, HoldsTypes, MatchesByTerms}
use Rattle.lf_coverage.specs.MatchingLaws.{HeadMatchingDecides, HeadMatchIsLeaf}
use Rattle.lf_coverage.specs.TypedCase.{TypedArguments}
use Rattle.lf_coverage.proofs.FoundTyped.{head_match_is_typed}
use Rattle.lf_coverage.proofs.GivenValues.{given_fits}
use Rattle.lf_coverage.proofs.GroundHolds.{head_ground_holds_types}
use Rattle.lf_coverage.proofs.Leaves.{head_is_typed}
use Rattle.lf_coverage.proofs.Matched.{instance_matches}
use Rattle.lf_coverage.proofs.MatchInstance.{instance_is_decided, match_is_instance}
use Rattle.lf_coverage.proofs.MeetReady.{arguments_fit, given_near}
use Rattle.lf_coverage.proofs.InputTyped.{front_pointwise}
use Rattle.lf_coverage.proofs.Parts.{some_same}
use mathlib.Core.Path.{fun_ext}

-- what is typed by skeletons uses variables of its context
module _ (Σ : Signature) where
  mutual
    term_within : (Γ : List Skeleton) (U : ℕ → Bool) (M : Term) (t : Skeleton) → ((i : ℕ) (s : Skeleton) → SkeletonAt Γ i s → U i ≡ true) → TermSkeleton (constant_skeletons Σ) Γ M t → Uses U M
    term_within Γ U (lambda M) (arrow a b) h m = term_within (a ∷ Γ) (under U) M b (pushed Γ U a h) m
      where
        pushed : (Γ : List Skeleton) (U : ℕ → Bool) (a : Skeleton) → ((i : ℕ) (s : Skeleton) → SkeletonAt Γ i s → U i ≡ true) → (i : ℕ) (s : Skeleton) → SkeletonAt (a ∷ Γ) i s → under U i ≡ true
        pushed Γ U a h zero s g = refl
        pushed Γ U a h (suc i) s g = h i s g
    term_within Γ U (lambda M) (base c) h m = absurd m
    term_within Γ U (root k S) (arrow a b) h m = absurd m
    term_within Γ U (root (constant c) S) (base d) h (t, g, s) = spine_within Γ U S t (base d) h s
    term_within Γ U (root (metavariable c) S) (base d) h (t, g, s) = spine_within Γ U S t (base d) h s
    term_within Γ U (root (variable i) S) (base d) h (t, g, s) = (h i t g, spine_within Γ U S t (base d) h s)

    spine_within : (Γ : List Skeleton) (U : ℕ → Bool) (S : Spine) (t u : Skeleton) → ((i : ℕ) (s : Skeleton) → SkeletonAt Γ i s → U i ≡ true) → SpineSkeleton (constant_skeletons Σ) Γ S t u → UsesSpine U S
    spine_within Γ U nil t u h s = tt
    spine_within Γ U (app M S) (arrow a b) u h (m, s) = (term_within Γ U M a h m, spine_within Γ U S b u h s)
    spine_within Γ U (app M S) (base c) u h s = absurd s

-- a variable of the first context has its type there
first_type : (G O : List LfType) (i : ℕ) (A : LfType) → TypeAt (onto G O) i A → in_context G i ≡ true → TypeAt G i A
first_type [] O i A g e = absurd cc
first_type (B ∷ G) O zero A g e = g
first_type (B ∷ G) O (suc i) A (X, g, q) e = (X, first_type G O i X g e, q)

module _ (Σ : Signature) (ok : IsSignature Σ) (G O : List LfType) where
  front_fits : (Γ Δ : List Skeleton) (a : Skeleton) (N : Term) (η : ℕ → Image) → TermSkeleton (constant_skeletons Σ) Δ N a → SubstitutionBySkeletons (constant_skeletons Σ) Γ Δ η → SubstitutionBySkeletons (constant_skeletons Σ) (a ∷ Γ) Δ (in_front (put a N) η)
  front_fits Γ Δ a N η n w zero t e = (e, n)
  front_fits Γ Δ a N η n w (suc i) t g = w i t g

  next_kind : (Γ : List Skeleton) (η : ℕ → Image) (A : LfType) (N : Term) (K : Kind) → SubstitutionBySkeletons (constant_skeletons Σ) Γ (context_skeletons (onto G O)) η → KindBySkeletons (family_skeletons Σ) (constant_skeletons Σ) (skeleton A ∷ Γ) K → TermSkeleton (constant_skeletons Σ) (context_skeletons (onto G O)) N (skeleton A) → instantiate_kind (substitute_type reduce η A) N (substitute_kind reduce (lift η) K) ≡ substitute_kind reduce (in_front (put (skeleton A) N) η) K
  next_kind Γ η A N K w k n =
      ap (λ t. substitute_kind reduce (single t N) (substitute_kind reduce (lift η) K)) (skeleton_substituted reduce η A)
      ∙ substitutions_compose_kind (family_skeletons Σ) (constant_skeletons Σ) (skeleton A ∷ Γ) (skeleton A ∷ context_skeletons (onto G O)) (context_skeletons (onto G O)) (lift η) (single (skeleton A) N) K (lift_by_skeletons (constant_skeletons Σ) (skeleton A) Γ (context_skeletons (onto G O)) η w) (single_by_skeletons (constant_skeletons Σ) (skeleton A) (context_skeletons (onto G O)) N n) k
      ∙ ap (λ f. substitute_kind reduce f K) (fun_ext (front_pointwise (skeleton A) N η))

  -- a term of the case is typed over its items alone
  pub over_items : (M : Term) (t : Skeleton) (A : LfType) → TermSkeleton (constant_skeletons Σ) (context_skeletons G) M t → HasType Σ (onto G O) M A → HasType Σ G M A
  over_items M t A k m =
      subst (λ N. HasType Σ G N A) (rename_identity M) (subst (HasType Σ G (rename (λ i. i) M)) (rename_identity_type A)
      (strengthening_keeps_typing Σ ok (in_context G) (onto G O) G (λ i. i) M A (λ i X g u. subst (TypeAt G i) (sym (rename_identity_type X)) (first_type G O i X g u)) (term_within Σ (context_skeletons G) (in_context G) M t (λ i s g. let (X, h, e) = skeleton_has_variable G i s g in in_covers G i X h) k) m))

  -- The arguments of the case, and others where there is none, are typed at the covered places.
  pub typed_places : (Ms : List (Option Term)) (S : Spine) (K : Kind) (Γ : List Skeleton) (η : ℕ → Image) → KindBySkeletons (family_skeletons Σ) (constant_skeletons Σ) Γ K → SubstitutionBySkeletons (constant_skeletons Σ) Γ (context_skeletons (onto G O)) η → HaveSkeletons (constant_skeletons Σ) (context_skeletons G) Ms → SpineSkeleton (constant_skeletons Σ) (context_skeletons (onto G O)) S (kind_skeleton 0 K) (base 0) → TypedArguments Σ (onto G O) Ms S (substitute_kind reduce η K) → (T : Spine) × ArePlaces Ms T × TypedPlacesFrom Σ (covered_places Ms) G η T K
  typed_places [] nil star Γ η k w hm s a = (nil, tt, tt)
  typed_places [] nil (kind_pi A K) Γ η k w hm s a = absurd a
  typed_places [] (app N S) K Γ η k w hm s a = absurd a
  typed_places (Some M ∷ Ms) nil K Γ η k w hm s a = absurd a
  typed_places (None ∷ Ms) nil K Γ η k w hm s a = absurd a
  typed_places (Some M ∷ Ms) (app N S) star Γ η k w hm s a = absurd a
  typed_places (None ∷ Ms) (app N S) star Γ η k w hm s a = absurd a
  typed_places (Some M ∷ Ms) (app N S) (kind_pi A K) Γ η (ka, k) w ((t, h), hm) (n, s) (m, a) =
      let ms : TermSkeleton (constant_skeletons Σ) (context_skeletons (onto G O)) M (skeleton A) = subst (TermSkeleton (constant_skeletons Σ) (context_skeletons (onto G O)) M) (skeleton_substituted reduce η A) (typed_has_skeleton Σ (onto G O) M (substitute_type reduce η A) m) in
      let (T, p, ts) = typed_places Ms S K (skeleton A ∷ Γ) (in_front (put (skeleton A) M) η) k (front_fits Γ (context_skeletons (onto G O)) (skeleton A) M η ms w) hm s (subst (TypedArguments Σ (onto G O) Ms S) (next_kind Γ η A M K w k ms) a) in
      (app M T, (refl, p), (over_items M t (substitute_type reduce η A) h m, ts))
  typed_places (None ∷ Ms) (app N S) (kind_pi A K) Γ η (ka, k) w hm (n, s) a =
      let (T, p, ts) = typed_places Ms S K (skeleton A ∷ Γ) (in_front (put (skeleton A) N) η) k (front_fits Γ (context_skeletons (onto G O)) (skeleton A) N η n w) hm s (subst (TypedArguments Σ (onto G O) Ms S) (next_kind Γ η A N K w k n) a) in
      (app N T, p, ts)

pub head_matching_decides : HeadMatchingDecides
head_matching_decides Σ ok W typed C c i cn tb ng K kd v =
    let p : Pattern = head_pattern c (origin i) in
    let G : List LfType = items_context C.items in
    let O : List LfType = scope c in
    let tp : IsTypedPattern Σ p = head_is_typed Σ ok W typed c i in
    let kk : tb.kind ≡ K = some_same (sym tb.of_family ∙ ap Σ.kinds (sym tb.same_family) ∙ kd) in
    let fits : SubstitutionBySkeletons (constant_skeletons Σ) (context_skeletons O) (context_skeletons (onto G O)) (given_images (scope c) C.given (length (items_context C.items))) = given_fits Σ G O C.given (given_near Σ ok W typed C p tp tb) in
    let ss : SpineSkeleton (constant_skeletons Σ) (context_skeletons O) (target_arguments c.type) (kind_skeleton 0 tb.kind) (base 0) = kind_spine_has_skeleton Σ 0 O (target_arguments c.type) tb.kind (arguments_fit Σ ok W typed C p tp tb) in
    let S : Spine = with_given C c [] (target_arguments c.type) in
    let st : SpineSkeleton (constant_skeletons Σ) (context_skeletons (onto G O)) S (kind_skeleton 0 tb.kind) (base 0) = substitution_keeps_spine_skeletons (constant_skeletons Σ) (context_skeletons O) (context_skeletons (onto G O)) (given_images (scope c) C.given (length (items_context C.items))) (target_arguments c.type) (kind_skeleton 0 tb.kind) (base 0) fits ss in
    let (T, hT, pT) = typed_places Σ ok G O C.arguments S K [] keep (kind_by_skeletons Σ [] K (ok.kinds_ok (target c.type) K kd)) (λ j t g. absurd g) (subst (λ L. HaveSkeletons (constant_skeletons Σ) (context_skeletons (onto L G)) C.arguments) tb.local tb.by_skeletons.arguments) (subst (λ L. SpineSkeleton (constant_skeletons Σ) (context_skeletons (onto G O)) S (kind_skeleton 0 L) (base 0)) kk st) (subst (TypedArguments Σ (onto G O) C.arguments S) (kk ∙ sym (substitute_identity_kind reduce K)) (subst (λ L. TypedArguments Σ (onto L (onto G O)) C.arguments S tb.kind) tb.local tb.arguments)) in
    let own : (j : ℕ) → is_given C.given j ≡ true → outside c.type everything j ≡ false = λ j u. absurd (no (subst (λ Ms. is_given Ms j ≡ true) ng u)) in
    let cl : UsesGoal (ground_in p (covered_places C.arguments) C.given) (covered_places C.arguments) p.type → HoldsTypes (ground_in p (covered_places C.arguments) C.given) O = subst (λ Ms. UsesGoal (ground_in (head_pattern c (origin i)) (covered_places C.arguments) Ms) (covered_places C.arguments) (head_pattern c (origin i)).type → HoldsTypes (ground_in (head_pattern c (origin i)) (covered_places C.arguments) Ms) (scope c)) (sym ng) (λ u. head_ground_holds_types Σ ok W typed c i K kd (covered_places C.arguments) v u) in
    let to : IsInstanceOf Σ W C p → MatchesByTerms C p = λ h. let m = instance_matches Σ ok W typed C p tp cn tb cl h in (m.strict, m.found, m.same) in
    let from : MatchesByTerms C p → IsInstanceOf Σ W C p = λ m. match_is_instance Σ ok W typed C tb.by_skeletons p cn own (head_match_is_typed Σ ok W typed C c i cn ng K kd v T hT pT m) in
    ((to, from), instance_is_decided Σ ok W typed C p tp cn tb own cl)
  where
    no : false ≡ true → ⊥
    no e = cc

pub head_match_is_leaf : HeadMatchIsLeaf
head_match_is_leaf Σ ok W typed ps C c i cn l tb ng K kd v m = record {
  typed = tb.by_skeletons;
  pattern = head_pattern c (origin i);
  listed = l;
  pattern_typed = head_is_typed Σ ok W typed c i;
  same_length = ap length tb.local;
  given_own = λ j u. absurd (no (subst (λ Ms. is_given Ms j ≡ true) ng u));
  is_instance = (head_matching_decides Σ ok W typed C c i cn tb ng K kd v).0.1 m;
}
  where
    no : false ≡ true → ⊥
    no e = cc
