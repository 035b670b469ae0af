-- What is read off for a subgoal is typed, where what is given and the case's arguments are.
use Rattle.std.proofs.Common.{◌≡◌, ℕ, zero, suc, List, [], ◌∷◌, refl, sym, ap, ◌∙◌, subst}
use Rattle.std.specs.Prelude.{Bool, true, false, cond, Option, Some, None}
use Rattle.lf.specs.Syntax.{Term, Spine, nil, app, LfType, Kind, pi, atom, kind_pi, star, Skeleton, skeleton, kind_skeleton, weaken, rename}
use Rattle.lf.specs.Substitution.{Image, keep, put, rename_image, lift, single, substitute, substitute_spine, substitute_type, substitute_kind, reduce}
use Rattle.lf.specs.SkeletonTyping.{SkeletonAt, TermSkeleton, ImageSkeleton, SubstitutionBySkeletons}
use Rattle.lf.specs.Skeletons.{constant_skeletons, context_skeletons}
use Rattle.lf.specs.Typing.{Signature, TypeAt, ImageHasType, instantiate_kind, HasType, SpineFitsKind, IsType, IsKind, IsContext, IsSignature}
use Rattle.lf.specs.Variables.{target, target_arguments, binders, onto, under, hide, everything, nothing, Uses, UsesSpine, UsesType, SameOn, Within}
use Rattle.lf.specs.Subordination.{Block, AreTypedBlocks}
use Rattle.lf.specs.Worlds.{lift_over, under_all, instance}
use Rattle.lf.proofs.Agreement.{agree_on, agree_on_type, SameOn-under, Within-under, uses_within}
use Rattle.lf.proofs.Closed.{closed_kind_substituted}
use Rattle.lf.proofs.Kept.{typed_uses_type}
use Rattle.lf.proofs.Partial.{skeletons_beside, kind_by_skeletons_beside, substitute_kind_instance, uses_all, uses_type_all}
use Rattle.lf.proofs.Patch.{beyond, pick, patch, patch_same, skeleton_beside_has_variable}
use Rattle.lf.proofs.Regular.{substitution_keeps_kinds}
use Rattle.lf.proofs.Substitution.{family_kind, single_substitution_typed, skeleton_context_of}
use Rattle.lf.proofs.ToSkeletons.{kind_skeleton_substituted, type_by_skeletons, typed_has_skeleton, variable_has_skeleton}
use Rattle.lf.proofs.TypeLaws.{skeleton_substituted, lifted_substitution_weakened_type}
use Rattle.lf.proofs.Uses.{uses_renamed, uses_type_renamed}
use Rattle.lf.proofs.Weakening.{declared_is_type}
use Rattle.lf.proofs.Checker.{both_of}
use Rattle.lf_unification.proofs.RenamingBack.{HasType-unrename}
use Rattle.lf_checks.specs.Clause.{scope, variables, outside}
use Rattle.lf_checks.specs.Ground.{UsesGoal}
use Rattle.lf_checks.specs.Marks.{UsesPlaces}
use Rattle.lf_checks.specs.Parts.{type_at}
use Rattle.lf_checks.specs.Strict.{strict, strict_at, strict_goal}
use Rattle.lf_checks.specs.Tests.{both, either}
use Rattle.lf_checks.proofs.Determined.{KeptSame, Apart, same_lift, apart_lift}
use Rattle.lf_checks.proofs.EtaTest.{both_l, both_r}
use Rattle.lf_cases.specs.Cover.{AreTerms}
use Rattle.lf_cases.specs.Case.{Case, items_context, covered_places}
use Rattle.lf_cases.specs.Pattern.{Pattern, given_at, is_given, ground_in}
use Rattle.lf_cases.specs.Reached.{IsInstanceOf}
use Rattle.lf_cases.proofs.BlockEntries.{onto_onto}
use Rattle.lf_totality.proofs.OutputCases.{in_context, in_covers, in_type}
use Rattle.lf_coverage.specs.Heads.{HaveSkeletons}
use Rattle.lf_coverage.specs.Leaf.{IsTypedPattern}
use Rattle.lf_coverage.specs.OrElse.{or_else}
use Rattle.lf_coverage.specs.Matching.{ArePlaces, HoldsTypes, Matches, MatchesByTerms, found, found_at, found_goal, found_term, found_values, other_places}
use Rattle.lf_coverage.specs.MatchingLaws.{GoalMatchingDecides}
use Rattle.lf_coverage.specs.MeetStore.{IsConstants}
use Rattle.lf_coverage.specs.TypedCase.{TypedArguments, IsTypedBeside, given_values}
use Rattle.lf_coverage.proofs.FoundSkeletons.{BoundIn, BoundLined, OuterLined, bound_in_under, bound_lined_under, found_skeleton, none_under, outer_lined_under}
use Rattle.lf_coverage.proofs.FoundTyped.{BoundTyped, bound_typed_under, goes_under, holds_under, more, term_there, typed_value}
use Rattle.lf_coverage.proofs.GroundHolds.{goal_ground_holds_types}
use Rattle.lf_coverage.proofs.HeadMatching.{over_items}
use Rattle.lf_coverage.proofs.Matched.{given_found, given_same, given_there, goal_part, goal_third, instance_matches, type_third}
use Rattle.lf_coverage.proofs.Matching.{found_is, goal_agrees, ground_is_strict, is_own, none_fixed}
use Rattle.lf_coverage.proofs.MatchInstance.{instance_is_decided, match_is_instance}
use Rattle.lf_coverage.proofs.Choices.{second_of, decided}
use Rattle.lf_coverage.proofs.Carried.{beyond_at}
use Rattle.lf_coverage.proofs.Parts.{first_same, second_same, some_same, no_arrow}

-- The arguments of a case under the local context of a goal are typed, where at the other places those of the goal stand, under these values.
abbrev pub TypedGoal : Signature → List LfType → (ℕ → Image) → LfType → List (Option Term) → Type 0
TypedGoal Σ E ν (pi A B) Ms = TypedGoal Σ (substitute_type reduce ν A ∷ E) (lift ν) B Ms
TypedGoal Σ E ν (atom a S) Ms = (K : Kind) × (Σ.kinds a ≡ Some K) × TypedArguments Σ E Ms (substitute_spine reduce ν S) K

module _ (Σ : Signature) (ok : IsSignature Σ) where
  next_is_kind : (C : List LfType) (A : LfType) (Q : Term) (L : Kind) → IsContext Σ C → IsType Σ C A → IsKind Σ (A ∷ C) L → HasType Σ C Q A → IsKind Σ C (instantiate_kind A Q L)
  next_is_kind C A Q L c t k q = substitution_keeps_kinds Σ ok (A ∷ C) C (single (skeleton A) Q) L (single_substitution_typed Σ ok C A Q (skeleton_context_of Σ ok C c) (type_by_skeletons Σ C A t) q) k

  -- the skeleton of what is read off at the covered places
  at_skeleton : (B F : ℕ → Bool) (n : ℕ) (C E : List LfType) (Ω : List Skeleton) (ν : ℕ → Image) (x : ℕ) (a : Skeleton) (N : Term) (S : Spine) (L : Kind) (Ms : List (Option Term)) (T : Spine) (K : Kind) → IsContext Σ C → IsKind Σ C L → BoundLined n C (context_skeletons E) → OuterLined n (context_skeletons E) Ω → BoundIn n B → KeptSame B ν ν → ((i : ℕ) → F i ≡ true → ⊥) → SkeletonAt (context_skeletons C) x a → SpineFitsKind Σ C S L → kind_skeleton 0 L ≡ kind_skeleton 0 K → TypedArguments Σ E Ms T K → ArePlaces Ms (substitute_spine reduce ν S) → strict_at (covered_places Ms) B F x S ≡ true → found_at B F n x S Ms ≡ Some N → TermSkeleton (constant_skeletons Σ) Ω N a
  at_skeleton B F n C E Ω ν x a N nil L Ms T K c k bl ol bi kb nf g s ks p i e f = absurd cc
  at_skeleton B F n C E Ω ν x a N (app Q S) L [] T K c k bl ol bi kb nf g s ks p i e f = absurd i
  at_skeleton B F n C E Ω ν x a N (app Q S) star (M ∷ Ms) T K c k bl ol bi kb nf g s ks p i e f = absurd s
  at_skeleton B F n C E Ω ν x a N (app Q S) (kind_pi A L) (M ∷ Ms) nil K c k bl ol bi kb nf g s ks p i e f = absurd p
  at_skeleton B F n C E Ω ν x a N (app Q S) (kind_pi A L) (M ∷ Ms) (app R T) star c k bl ol bi kb nf g s ks p i e f = absurd (no_arrow ks)
  at_skeleton B F n C E Ω ν x a N (app Q S) (kind_pi A L) (None ∷ Ms) (app R T) (kind_pi A' K) c (t1, t2) bl ol bi kb nf g (q, s) ks p i e f = at_skeleton B F n C E Ω ν x a N S (instantiate_kind A Q L) Ms T (instantiate_kind A' R K) c (next_is_kind C A Q L c t1 t2 q) bl ol bi kb nf g s (kind_skeleton_substituted 0 reduce (single (skeleton A) Q) L ∙ second_same ks ∙ sym (kind_skeleton_substituted 0 reduce (single (skeleton A') R) K)) p i e f
  at_skeleton B F n C E Ω ν x a N (app Q S) (kind_pi A L) (Some M ∷ Ms) (app R T) (kind_pi A' K) c (t1, t2) bl ol bi kb nf g (q, s) ks (m, p) (i, is) e f =
      decided (strict B F x Q)
      (λ z. found_skeleton Σ ok B F n C (context_skeletons E) Ω ν x a N Q A c t1 bl ol bi kb nf g q (subst (λ X. TermSkeleton (constant_skeletons Σ) (context_skeletons E) X (skeleton A)) i (subst (TermSkeleton (constant_skeletons Σ) (context_skeletons E) M) (sym (first_same ks)) (typed_has_skeleton Σ E M A' m))) z (ap (found B F n x Q) (sym i) ∙ sym (ap (λ b. cond b (found B F n x Q M) (found_at B F n x S Ms)) z) ∙ f))
      (λ z. at_skeleton B F n C E Ω ν x a N S (instantiate_kind A Q L) Ms T (instantiate_kind A' M K) c (next_is_kind C A Q L c t1 t2 q) bl ol bi kb nf g s (kind_skeleton_substituted 0 reduce (single (skeleton A) Q) L ∙ second_same ks ∙ sym (kind_skeleton_substituted 0 reduce (single (skeleton A') M) K)) p is (second_of (strict B F x Q) (strict_at (covered_places Ms) B F x S) e z) (sym (ap (λ b. cond b (found B F n x Q M) (found_at B F n x S Ms)) z) ∙ f))

  -- and of a goal
  pub goal_skeleton : (B F : ℕ → Bool) (n : ℕ) (C E : List LfType) (Ω : List Skeleton) (ν : ℕ → Image) (x : ℕ) (a : Skeleton) (N : Term) (A : LfType) (Ms : List (Option Term)) → IsContext Σ C → IsType Σ C A → BoundLined n C (context_skeletons E) → OuterLined n (context_skeletons E) Ω → BoundIn n B → KeptSame B ν ν → ((i : ℕ) → F i ≡ true → ⊥) → SkeletonAt (context_skeletons C) x a → TypedGoal Σ E ν A Ms → ArePlaces Ms (target_arguments (substitute_type reduce ν A)) → strict_goal (covered_places Ms) B F x A ≡ true → found_goal B F n x A Ms ≡ Some N → TermSkeleton (constant_skeletons Σ) Ω N a
  goal_skeleton B F n C E Ω ν x a N (pi A1 A) Ms c (t1, t2) bl ol bi kb nf g p i e f = goal_skeleton (under B) (hide F) (suc n) (A1 ∷ C) (substitute_type reduce ν A1 ∷ E) Ω (lift ν) (suc x) a N A Ms (c, t1) t2 (subst (λ s. BoundLined (suc n) (A1 ∷ C) (s ∷ context_skeletons E)) (sym (skeleton_substituted reduce ν A1)) (bound_lined_under n C (context_skeletons E) A1 bl)) (outer_lined_under n (context_skeletons E) Ω (skeleton (substitute_type reduce ν A1)) ol) (bound_in_under n B bi) (same_lift B ν ν kb) (none_under F nf) g p i e f
  goal_skeleton B F n C E Ω ν x a N (atom b S) Ms c (L, l, s) bl ol bi kb nf g (K, k, p) i e f = at_skeleton B F n C E Ω ν x a N S L Ms (substitute_spine reduce ν S) K c (family_kind Σ ok C b L l) bl ol bi kb nf g s (ap (kind_skeleton 0) (some_same (sym l ∙ k))) p i e f

  module _ (R : List Skeleton) where
    -- the type of what is read off at the covered places
    at_typed : (B F W : ℕ → Bool) (C D : List LfType) (ν : ℕ → Image) (x : ℕ) (X : LfType) (a : Skeleton) (N : Term) (S : Spine) (L : Kind) (Ms : List (Option Term)) → IsContext Σ C → IsKind Σ C L → SubstitutionBySkeletons (constant_skeletons Σ) (skeletons_beside [] C) (skeletons_beside R D) ν → KeptSame B ν ν → BoundTyped B C D ν → ((i : ℕ) → F i ≡ true → ⊥) → Apart W B → HoldsTypes W D → ν x ≡ put a N → Uses W N → UsesType W (substitute_type reduce ν X) → TypeAt C x X → SpineFitsKind Σ C S L → TypedArguments Σ D Ms (substitute_spine reduce ν S) (substitute_kind reduce ν L) → ArePlaces Ms (substitute_spine reduce ν S) → strict_at (covered_places Ms) B F x S ≡ true → HasType Σ D N (substitute_type reduce ν X)
    at_typed B F W C D ν x X a N nil L [] c k w kb bt nf far ht e u ux g s p i z = absurd cc
    at_typed B F W C D ν x X a N nil L (M ∷ Ms) c k w kb bt nf far ht e u ux g s p i z = absurd i
    at_typed B F W C D ν x X a N (app Q S) L [] c k w kb bt nf far ht e u ux g s p i z = absurd i
    at_typed B F W C D ν x X a N (app Q S) star (M ∷ Ms) c k w kb bt nf far ht e u ux g s p i z = absurd s
    at_typed B F W C D ν x X a N (app Q S) (kind_pi A L) (None ∷ Ms) c (t1, t2) w kb bt nf far ht e u ux g (q, s) p i z = at_typed B F W C D ν x X a N S (instantiate_kind A Q L) Ms c (next_is_kind C A Q L c t1 t2 q) w kb bt nf far ht e u ux g s (subst (TypedArguments Σ D Ms (substitute_spine reduce ν S)) (sym (substitute_kind_instance Σ ok [] R C D ν A Q L w q (kind_by_skeletons_beside Σ [] (A ∷ C) L t2))) p) i z
    at_typed B F W C D ν x X a N (app Q S) (kind_pi A L) (Some M ∷ Ms) c (t1, t2) w kb bt nf far ht e u ux g (q, s) (m, p) (i, is) z =
        decided (strict B F x Q)
        (λ y. typed_value Σ ok R B F W C D ν x X a N Q A c t1 w kb bt nf far ht e u ux g q (subst (λ Y. HasType Σ D Y (substitute_type reduce ν A)) i m) y)
        (λ y. at_typed B F W C D ν x X a N S (instantiate_kind A Q L) Ms c (next_is_kind C A Q L c t1 t2 q) w kb bt nf far ht e u ux g s (subst (TypedArguments Σ D Ms (substitute_spine reduce ν S)) (ap (λ Y. instantiate_kind (substitute_type reduce ν A) Y (substitute_kind reduce (lift ν) L)) i ∙ sym (substitute_kind_instance Σ ok [] R C D ν A Q L w q (kind_by_skeletons_beside Σ [] (A ∷ C) L t2))) p) is (second_of (strict B F x Q) (strict_at (covered_places Ms) B F x S) z y))

    -- and of a goal
    pub goal_typed : (B F W : ℕ → Bool) (C D : List LfType) (ν : ℕ → Image) (x : ℕ) (X : LfType) (a : Skeleton) (N : Term) (A : LfType) (Ms : List (Option Term)) → IsContext Σ C → IsType Σ C A → SubstitutionBySkeletons (constant_skeletons Σ) (skeletons_beside [] C) (skeletons_beside R D) ν → KeptSame B ν ν → BoundTyped B C D ν → ((i : ℕ) → F i ≡ true → ⊥) → Apart W B → HoldsTypes W D → ν x ≡ put a N → Uses W N → UsesType W (substitute_type reduce ν X) → TypeAt C x X → TypedGoal Σ D ν A Ms → ArePlaces Ms (target_arguments (substitute_type reduce ν A)) → strict_goal (covered_places Ms) B F x A ≡ true → HasType Σ D N (substitute_type reduce ν X)
    goal_typed B F W C D ν x X a N (pi A1 A) Ms c (t1, t2) w kb bt nf p ht e u ux g m i z =
        HasType-unrename Σ ok D (substitute_type reduce ν A1 ∷ D) suc N (substitute_type reduce ν X) (λ i j e. cc) (λ i X g. g)
        (subst (HasType Σ (substitute_type reduce ν A1 ∷ D) (rename suc N)) (lifted_substitution_weakened_type ν X) (goal_typed (under B) (hide F) (hide W) (A1 ∷ C) (substitute_type reduce ν A1 ∷ D) (lift ν) (suc x) (weaken X) a (rename suc N) A Ms (c, t1) t2 (goes_under Σ ok R C D ν A1 w) (same_lift B ν ν kb) (bound_typed_under B C D ν A1 bt) (none_under F nf) (apart_lift W B p) (holds_under W D (substitute_type reduce ν A1) ht) (ap (rename_image suc) e) (uses_renamed W (hide W) suc N (λ i v. v) u) (subst (UsesType (hide W)) (sym (lifted_substitution_weakened_type ν X)) (uses_type_renamed W (hide W) suc (substitute_type reduce ν X) (λ i v. v) ux)) (X, g, refl) m i z))
    goal_typed B F W C D ν x X a N (atom b S) Ms c (L, l, s) w kb bt nf p ht e u ux g (K, k, m) i z = at_typed B F W C D ν x X a N S L Ms c (family_kind Σ ok C b L l) w kb bt nf p ht e u ux g s (subst (TypedArguments Σ D Ms (substitute_spine reduce ν S)) (some_same (sym k ∙ l) ∙ sym (closed_kind_substituted Σ reduce ν L (ok.kinds_ok b L l))) m) i z

-- What is typed over a case's items and the clause's scope is typed over the items.
over_case : (Σ : Signature) (ok : IsSignature Σ) (E O : List LfType) (Ms : List (Option Term)) (S : Spine) (K : Kind) → HaveSkeletons (constant_skeletons Σ) (context_skeletons E) Ms → TypedArguments Σ (onto E O) Ms S K → TypedArguments Σ E Ms S K
over_case Σ ok E O [] nil star h a = tt
over_case Σ ok E O [] nil (kind_pi A K) h a = a
over_case Σ ok E O [] (app N S) K h a = a
over_case Σ ok E O (M ∷ Ms) nil K h a = absurd a
over_case Σ ok E O (M ∷ Ms) (app N S) star h a = absurd a
over_case Σ ok E O (Some M ∷ Ms) (app N S) (kind_pi A K) ((t, k), h) (m, a) = (over_items Σ ok E O M t A k m, over_case Σ ok E O Ms S (instantiate_kind A M K) h a)
over_case Σ ok E O (None ∷ Ms) (app N S) (kind_pi A K) h a = over_case Σ ok E O Ms S (instantiate_kind A N K) h a

-- Other values that are the same where the other places use them.
others_agree : (Σ : Signature) (E : List LfType) (U : ℕ → Bool) (σ τ : ℕ → Image) → SameOn U σ τ → (Ms : List (Option Term)) (S : Spine) (K : Kind) → UsesPlaces U (other_places Ms) S → TypedArguments Σ E Ms (substitute_spine reduce σ S) K → TypedArguments Σ E Ms (substitute_spine reduce τ S) K
others_agree Σ E U σ τ h [] nil K u a = a
others_agree Σ E U σ τ h [] (app N S) K u a = a
others_agree Σ E U σ τ h (M ∷ Ms) nil K u a = absurd a
others_agree Σ E U σ τ h (M ∷ Ms) (app N S) star u a = absurd a
others_agree Σ E U σ τ h (Some M ∷ Ms) (app N S) (kind_pi A K) u (m, a) = (m, others_agree Σ E U σ τ h Ms S (instantiate_kind A M K) u a)
others_agree Σ E U σ τ h (None ∷ Ms) (app N S) (kind_pi A K) (u, us) a = others_agree Σ E U σ τ h Ms S (instantiate_kind A (substitute reduce τ N) K) us (subst (λ X. TypedArguments Σ E Ms (substitute_spine reduce σ S) (instantiate_kind A X K)) (agree_on reduce U σ τ N h u) a)

same_over : (D : List LfType) (U : ℕ → Bool) (σ τ : ℕ → Image) → SameOn U σ τ → SameOn (under_all D U) (lift_over D σ) (lift_over D τ)
same_over [] U σ τ h = h
same_over (A ∷ D) U σ τ h = SameOn-under (under_all D U) (lift_over D σ) (lift_over D τ) (same_over D U σ τ h)

pub goal_is_typed : (Σ : Signature) (ok : IsSignature Σ) (G O : List LfType) (U : ℕ → Bool) (g f : ℕ → Image) → SameOn U g f → (Ms : List (Option Term)) (D : List LfType) (A : LfType) (K : Kind) → Σ.kinds (target A) ≡ Some K → UsesGoal (under_all D U) (other_places Ms) A → HaveSkeletons (constant_skeletons Σ) (context_skeletons (onto (instance (binders D A) g) G)) Ms → TypedArguments Σ (onto (instance (binders D A) g) (onto G O)) Ms (substitute_spine reduce (lift_over (binders D A) g) (target_arguments A)) K → TypedGoal Σ (onto (instance D g) G) (lift_over D f) A Ms
goal_is_typed Σ ok G O U g f h Ms D (pi A1 A) K k (u, us) hm a = subst (λ X. TypedGoal Σ (X ∷ onto (instance D g) G) (lift (lift_over D f)) A Ms) (agree_on_type reduce (under_all D U) (lift_over D g) (lift_over D f) A1 (same_over D U g f h) u) (goal_is_typed Σ ok G O U g f h Ms (A1 ∷ D) A K k us hm a)
goal_is_typed Σ ok G O U g f h Ms D (atom b S) K k u hm a = (K, k, others_agree Σ (onto (instance D g) G) (under_all D U) (lift_over D g) (lift_over D f) (same_over D U g f h) Ms S K u (over_case Σ ok (onto (instance D g) G) O Ms (substitute_spine reduce (lift_over D g) S) K hm (subst (λ X. TypedArguments Σ X Ms (substitute_spine reduce (lift_over D g) S) K) (sym (onto_onto (instance D g) G O)) a)))

given_is_ground : (C : Case) (p : Pattern) → Within (is_given C.given) (ground_in p (covered_places C.arguments) C.given)
given_is_ground C p i e = ap (λ b. either b (either (outside p.clause.type everything i) (both (variables p.clause i) (strict_goal (covered_places C.arguments) nothing (outside p.clause.type p.clause.fixed) i p.type)))) e

module _ (Σ : Signature) (ok : IsSignature Σ) (W : List Block) (typed : AreTypedBlocks Σ W) (C : Case) (p : Pattern) (tp : IsTypedPattern Σ p) (cn : IsConstants p.origin) (tb : IsTypedBeside Σ W C p) (others : UsesGoal (is_given C.given) (other_places C.arguments) p.type) (g : UsesGoal (ground_in p (covered_places C.arguments) C.given) (covered_places C.arguments) p.type) (cl : HoldsTypes (ground_in p (covered_places C.arguments) C.given) (scope p.clause)) (ft : AreTerms p.clause (ground_in p (covered_places C.arguments) C.given) (found_values C p)) (same : ArePlaces C.arguments (target_arguments (substitute_type reduce (found_values C p) p.type))) where
  abbrev V : ℕ → Bool
  V = ground_in p (covered_places C.arguments) C.given

  abbrev O : List LfType
  O = scope p.clause

  abbrev G : List LfType
  G = items_context C.items

  abbrev ν : ℕ → Image
  ν = found_values C p

  abbrev R : List Skeleton
  R = skeletons_beside [] (scope p.clause)

  abbrev F : ℕ → Bool
  F = outside p.clause.type p.clause.fixed

  -- the variables for which a term is given, among those of the scope
  abbrev Y : ℕ → Bool
  Y i = both (is_given C.given i) (in_context (scope p.clause) i)

  given_goal : UsesGoal (λ i. both (is_given C.given i) (in_context (scope p.clause) i)) (other_places C.arguments) p.type
  given_goal = goal_third (is_given C.given) (in_context O) Y (λ i a b. both_of (is_given C.given i) (in_context O i) a b) (other_places C.arguments) p.type others (goal_part (in_context O) (other_places C.arguments) p.type (typed_uses_type Σ O (in_context O) p.type (in_covers O) tp.type_typed))

  typed_by : (f : ℕ → Image) → SameOn (λ i. both (is_given C.given i) (in_context (scope p.clause) i)) (given_values C p) f → TypedGoal Σ (items_context C.items) f p.type C.arguments
  typed_by f h = goal_is_typed Σ ok G O Y (given_values C p) f h C.arguments [] p.type tb.kind (ap Σ.kinds tb.same_family ∙ tb.of_family) given_goal (subst (λ L. HaveSkeletons (constant_skeletons Σ) (context_skeletons (onto L G)) C.arguments) tb.local tb.by_skeletons.arguments) (subst (λ L. TypedArguments Σ (onto L (onto G O)) C.arguments (substitute_spine reduce (lift_over (binders [] p.type) (given_values C p)) (target_arguments p.type)) tb.kind) tb.local tb.arguments)

  given_on : SameOn (λ i. both (is_given C.given i) (in_context (scope p.clause) i)) (given_values C p) (found_values C p)
  given_on i y = let (A, h) = in_type O i (both_r (is_given C.given i) (in_context O i) y) in given_same C p i A h (both_l (is_given C.given i) (in_context O i) y)

  there : (i : ℕ) (A : LfType) → TypeAt (scope p.clause) i A → V i ≡ true → (N : Term) × (found_term C p i ≡ Some N)
  there i A h u = term_there i (type_at O i) (found_term C p i) (ft i (is_own p.origin cn i A h) u)

  given_term : (i : ℕ) (N : Term) → is_given C.given i ≡ true → found_term C p i ≡ Some N → given_at C.given i ≡ Some N
  given_term i N u e = let (M, q) = given_there C.given i u in q ∙ sym (ap (λ x. or_else x (found_goal nothing F zero i p.type C.arguments)) q) ∙ e

  not_there : (Ms : List (Option Term)) (i : ℕ) → is_given Ms i ≡ false → given_at Ms i ≡ None
  not_there [] i e = refl
  not_there (Some M ∷ Ms) zero e = absurd cc
  not_there (None ∷ Ms) zero e = refl
  not_there (M ∷ Ms) (suc i) e = not_there Ms i e

  -- each has its skeleton
  has_skeleton : (i : ℕ) (A : LfType) (N : Term) → TypeAt (scope p.clause) i A → V i ≡ true → found_term C p i ≡ Some N → TermSkeleton (constant_skeletons Σ) (context_skeletons (items_context C.items)) N (skeleton A)
  has_skeleton i A N h u e =
      decided (is_given C.given i)
      (λ z.
      let (s, m) = subst (λ y. ImageHasType Σ G y (substitute_type reduce (given_values C p) A)) (given_same C p i A h z ∙ given_found C p i A N h (given_term i N z e)) (tb.given.typed i A h z) in
      subst (TermSkeleton (constant_skeletons Σ) (context_skeletons G) N) (skeleton_substituted reduce (given_values C p) A) (typed_has_skeleton Σ G N (substitute_type reduce (given_values C p) A) m))
      (λ z. goal_skeleton Σ ok nothing F zero O G (context_skeletons G) ν i (skeleton A) N p.type C.arguments tp.clause_typed tp.type_typed (λ j s X o g k. absurd cc) (λ j s o g. g) (λ j b. absurd cc) (λ j b. absurd cc) (none_fixed p.origin cn) (variable_has_skeleton O i A h) (typed_by ν given_on) same (ground_is_strict p (covered_places C.arguments) C.given i z (is_own p.origin cn i A h) u) (sym (ap (λ x. or_else x (found_goal nothing F zero i p.type C.arguments)) (not_there C.given i z)) ∙ e))

  fits : SubstitutionBySkeletons (constant_skeletons Σ) (skeletons_beside [] (scope p.clause)) (skeletons_beside (skeletons_beside [] (scope p.clause)) (items_context C.items)) (patch (ground_in p (covered_places C.arguments) C.given) (items_context C.items) (found_values C p))
  fits j t h =
      decided (V j)
      (λ u.
      let (A, x, e) = skeleton_beside_has_variable O j t h in
      let (N, q) = there j A x u in
      subst (λ y. ImageSkeleton (constant_skeletons Σ) (skeletons_beside R G) y t) (sym (found_is j O A (found_term C p j) N x q) ∙ patch_same V G ν j u) (e, more Σ R G N (skeleton A) (has_skeleton j A N x u q)))
      (λ n. subst (λ b. ImageSkeleton (constant_skeletons Σ) (skeletons_beside R G) (pick b (ν j) (keep (beyond G j))) t) (sym n) (beyond_at R G j t h))

  given_patched : SameOn (λ i. both (is_given C.given i) (in_context (scope p.clause) i)) (given_values C p) (patch (ground_in p (covered_places C.arguments) C.given) (items_context C.items) (found_values C p))
  given_patched i y = given_on i y ∙ patch_same V G ν i (given_is_ground C p i (both_l (is_given C.given i) (in_context O i) y))

  value_typed : (i : ℕ) (A : LfType) → TypeAt (scope p.clause) i A → V i ≡ true → ImageHasType Σ (items_context C.items) (found_values C p i) (substitute_type reduce (found_values C p) A)
  value_typed i A h u =
      let (N, q) = there i A h u in
      let is : ν i ≡ put (skeleton A) N = found_is i O A (found_term C p i) N h q in
      let even : substitute_type reduce ν A ≡ substitute_type reduce (patch V G ν) A = agree_on_type reduce V ν (patch V G ν) A (patch_same V G ν) (cl i A h u) in
      subst (λ y. ImageHasType Σ G y (substitute_type reduce ν A)) (sym is) (skeleton_substituted reduce ν A, subst (HasType Σ G N) (sym even) (decided (is_given C.given i) (λ z. given_case N q z even) (λ z. goal_typed Σ ok R nothing F everything O G (patch V G ν) i A (skeleton A) N p.type C.arguments tp.clause_typed tp.type_typed fits (λ j b. absurd cc) (λ j X b k. absurd cc) (none_fixed p.origin cn) (λ j v b. cc) (λ j X k v. uses_type_all everything X (λ l. refl)) (sym (patch_same V G ν i u) ∙ is) (uses_all everything N (λ j. refl)) (uses_type_all everything (substitute_type reduce (patch V G ν) A) (λ j. refl)) h (typed_by (patch V G ν) given_patched) (goal_agrees V ν (patch V G ν) (patch_same V G ν) C.arguments p.type g same) (ground_is_strict p (covered_places C.arguments) C.given i z (is_own p.origin cn i A h) u))))
    where
      given_case : (N : Term) → found_term C p i ≡ Some N → is_given C.given i ≡ true → substitute_type reduce ν A ≡ substitute_type reduce (patch V G ν) A → HasType Σ G N (substitute_type reduce (patch V G ν) A)
      given_case N q z even =
          let e : substitute_type reduce (given_values C p) A ≡ substitute_type reduce ν A = agree_on_type reduce Y (given_values C p) ν A given_on (type_third (is_given C.given) (in_context O) Y (λ j a b. both_of (is_given C.given j) (in_context O j) a b) A (tb.given.closed i A h z) (typed_uses_type Σ O (in_context O) A (in_covers O) (declared_is_type Σ ok O i A tp.clause_typed h))) in
          subst (HasType Σ G N) (e ∙ even) (subst (λ y. ImageHasType Σ G y (substitute_type reduce (given_values C p) A)) (given_same C p i A h z ∙ given_found C p i A N h (given_term i N z q)) (tb.given.typed i A h z)).1

  pub goal_matches : Matches Σ C p
  goal_matches = record { strict = g; found = ft; typed = record { typed = value_typed; closed = cl }; same = same }

-- What is used at the covered places and at the others is used at all.
all_places : (Σ : Signature) (X : List LfType) (U V : ℕ → Bool) → Within U V → (f : ℕ → Image) (Ms : List (Option Term)) (S : Spine) (K : Kind) → TypedArguments Σ X Ms (substitute_spine reduce f S) K → UsesPlaces V (covered_places Ms) S → UsesPlaces U (other_places Ms) S → UsesSpine V S
all_places Σ X U V h f [] nil K a u w = tt
all_places Σ X U V h f [] (app N S) K a u w = absurd a
all_places Σ X U V h f (M ∷ Ms) nil K a u w = tt
all_places Σ X U V h f (M ∷ Ms) (app N S) star a u w = absurd a
all_places Σ X U V h f (Some M ∷ Ms) (app N S) (kind_pi A K) (m, a) (u, us) w = (u, all_places Σ X U V h f Ms S (instantiate_kind A M K) a us w)
all_places Σ X U V h f (None ∷ Ms) (app N S) (kind_pi A K) a u (w, ws) = (uses_within U V N h w, all_places Σ X U V h f Ms S (instantiate_kind A (substitute reduce f N) K) a u ws)

pub all_of_goal : (Σ : Signature) (X : List LfType) (U V : ℕ → Bool) → Within U V → (f : ℕ → Image) (Ms : List (Option Term)) (A : LfType) (K : Kind) → TypedArguments Σ X Ms (substitute_spine reduce f (target_arguments A)) K → UsesGoal V (covered_places Ms) A → UsesGoal U (other_places Ms) A → UsesType V A
all_of_goal Σ X U V h f Ms (pi A B) K a u w = (u.0, all_of_goal Σ X (under U) (under V) (Within-under U V h) f Ms B K a u.1 w.1)
all_of_goal Σ X U V h f Ms (atom b S) K a u w = all_places Σ X U V h f Ms S K a u w

pub goal_matching_decides : GoalMatchingDecides
goal_matching_decides Σ ok W typed C p tp cn tb own others =
    let V : ℕ → Bool = ground_in p (covered_places C.arguments) C.given in
    let cl : UsesGoal V (covered_places C.arguments) p.type → HoldsTypes V (scope p.clause) = λ u. goal_ground_holds_types Σ ok p tp (covered_places C.arguments) C.given tb.given.closed (all_of_goal Σ (onto C.local (onto (items_context C.items) (scope p.clause))) (is_given C.given) V (given_is_ground C p) (lift_over (binders [] p.type) (given_values C p)) C.arguments p.type tb.kind tb.arguments u others) in
    let to : IsInstanceOf Σ W C p → MatchesByTerms C p = λ h. let m = instance_matches Σ ok W typed C p tp cn tb cl h in (m.strict, m.found, m.same) in
    let from : MatchesByTerms C p → IsInstanceOf Σ W C p = λ (g, ft, same). match_is_instance Σ ok W typed C tb.by_skeletons p cn own (goal_matches Σ ok W typed C p tp cn tb others g (cl g) ft same) in
    ((to, from), instance_is_decided Σ ok W typed C p tp cn tb own cl)
