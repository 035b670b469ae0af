-- Leaves by their terms are leaves, and runs with such leaves cover.
use Rattle.std.proofs.Common.{◌≡◌, ℕ, zero, suc, List, [], ◌∷◌, inl, inr, refl, sym, ap, ◌∙◌, subst}
use Rattle.std.specs.Prelude.{Bool, true, false, Option, Some, None, ◌⊎◌}
use Rattle.lf.specs.Syntax.{Term, LfType, pi, atom, Skeleton, base, kind_skeleton}
use Rattle.lf.specs.Substitution.{Image, put, substitute, substitute_spine, reduce}
use Rattle.lf.specs.SkeletonTyping.{HeadSkeletons, TermSkeleton, SpineSkeleton, SubstitutionBySkeletons}
use Rattle.lf.specs.Skeletons.{constant_skeletons, context_skeletons}
use Rattle.lf.specs.Typing.{TypeAt, IsType, IsContext, IsTypedSubstitution}
use Rattle.lf.specs.Variables.{target, target_arguments, binders, onto, UsesType, Values, everything}
use Rattle.lf.specs.Worlds.{lift_over, under_all}
use Rattle.lf.specs.Subordination.{Member, AreTypedBlocks}
use Rattle.lf_cases.specs.Case.{Case, Item, items_context, covered_places}
use Rattle.lf.proofs.ExtensionTyping.{extension_keeps_contexts, extension_keeps_types, extension_keeps_values}
use Rattle.lf.proofs.Partial.{kind_spine_has_skeleton_beside, uses_type_all}
use Rattle.lf_checks.specs.Tests.{either}
use Rattle.lf_checks.specs.Clause.{Clause, scope, outside}
use Rattle.lf_checks.specs.Marks.{SamePlaces, UsesPlaces}
use Rattle.lf_checks.specs.Ground.{UsesGoal}
use Rattle.lf_cases.specs.Pattern.{Pattern, given_at, is_there, is_given}
use Rattle.lf_cases.specs.Missing.{AreTypedItems, IsTypedInstance, StandsAmong}
use Rattle.lf_cases.proofs.Assemble.{end_typed, binders_typed}
use Rattle.lf_totality.proofs.Core.{outer_at}
use Rattle.lf_cases.proofs.GroundTypes.{either_left, outside_types, clause_typed}
use Rattle.lf_totality.proofs.OutputCases.{either_in, goal_within}
use Rattle.lf.proofs.Agreement.{uses_type_within}
use Rattle.lf.proofs.Weakening.{declared_is_type}
use Rattle.lf_totality.proofs.RaisedOutputs.{binders_over}
use Rattle.lf_checks.proofs.StrictTypes.{either_cases}
use Rattle.lf_totality.proofs.GoalHolds.{arguments_under}
use Rattle.lf.proofs.Worlds.{world_is_context}
use Rattle.lf_coverage.specs.Heads.{IsHeadSplit, IsTypedCase, SplitsByHeads, HaveSkeletons}
use Rattle.lf_coverage.specs.Laws.{LeafIsInstanceCase, LeavesCover, HeadIsTypedPattern, SubgoalIsTypedPattern}
use Rattle.lf_coverage.specs.UnifiedSplit.{SplitsByUnification}
use Rattle.lf_coverage.proofs.Carried.{beside_nothing}
use Rattle.lf_coverage.proofs.Choices.{second_of}
use Rattle.lf_coverage.proofs.FirstStands.{stands_for}
use Rattle.lf_coverage.proofs.GroundTyped.{ground_typed, items_extended}
use Rattle.lf_coverage.proofs.HeadSplit.{split_cases_typed}
use Rattle.lf_coverage.proofs.ItemsContext.{items_are_context}
use Rattle.lf_coverage.proofs.Leaf.{v, v_out, v_typed, v_terms, v_given, v_places, leaves_terms, leaves_deep}
use Rattle.lf_coverage.proofs.Parts.{some_same}
use Rattle.lf_coverage.proofs.Runs.{other_run, head_splits_cover}
use Rattle.lf_coverage.proofs.Transfer.{instance_fits, fits_more, have_more}
use Rattle.lf_coverage.proofs.Unified.{unified_split}

pub goal_places : (D : List LfType) (U : ℕ → Bool) (m : List Bool) (A : LfType) → UsesGoal (under_all D U) m A → UsesPlaces (under_all (binders D A) U) m (target_arguments A)
goal_places D U m (pi B A) u = goal_places (B ∷ D) U m A u.1
goal_places D U m (atom a S) u = u

-- what is given is given
pub given_is : (Ms : List (Option Term)) (i : ℕ) (M : Term) → given_at Ms i ≡ Some M → is_given Ms i ≡ true
given_is [] i M e = absurd cc
given_is (N ∷ Ms) zero M e = ap is_there e
given_is (N ∷ Ms) (suc i) M e = given_is Ms i M e

pub given_skeleton : (κ : HeadSkeletons) (Γ : List Skeleton) (Ms : List (Option Term)) (i : ℕ) (M : Term) → HaveSkeletons κ Γ Ms → given_at Ms i ≡ Some M → (t : Skeleton) × TermSkeleton κ Γ M t
given_skeleton κ Γ [] i M h e = absurd cc
given_skeleton κ Γ (Some N ∷ Ms) zero M ((t, n), h) e = (t, subst (λ X. TermSkeleton κ Γ X t) (some_same e) n)
given_skeleton κ Γ (None ∷ Ms) zero M h e = absurd cc
given_skeleton κ Γ (Some N ∷ Ms) (suc i) M (n, h) e = given_skeleton κ Γ Ms i M h e
given_skeleton κ Γ (None ∷ Ms) (suc i) M h e = given_skeleton κ Γ Ms i M h e

pub leaf_is_instance : LeafIsInstanceCase
leaf_is_instance Σ ok W typed S ps C leaf Σ' x G w F σ0 T hd =
    let h = hd.holds in
    let p : Pattern = leaf.pattern in
    let c : Clause = p.clause in
    let A : LfType = p.type in
    let s = leaf.is_instance.0 in
    let e = leaf.is_instance.1 in
    let l = leaf.is_instance.2 in
    let I : List Item = C.items in
    let Γ = context_skeletons (items_context I) in
    let D : List LfType = binders [] A in
    let places : List Bool = covered_places C.arguments in
    let ct = leaf.pattern_typed.clause_typed in
    let tv : Values Σ s.used (scope c) (items_context I) s.clause_values = subst (λ J. Values Σ s.used (scope c) (items_context J) s.clause_values) e s.typed_values in
    let more : AreTypedBlocks Σ' W = λ B m. extension_keeps_contexts S Σ Σ' x (onto B.entries B.some) (typed B m) in
    let items' : AreTypedItems Σ' W I = items_extended S Σ Σ' x W I leaf.typed.items in
    let case_context : IsContext Σ' (items_context I) = items_are_context Σ' x.ok W more I items' in
    let ground : IsTypedSubstitution Σ' (items_context I) G h.values = ground_typed Σ' x.ok W more w I h.values items' h.is_ground in
    let clause_context : IsContext Σ' (scope c) = extension_keeps_contexts S Σ Σ' x (scope c) ct in
    let tv' : Values Σ' s.used (scope c) (items_context I) s.clause_values = extension_keeps_values S Σ Σ' x s.used (scope c) (items_context I) s.clause_values tv in
    let (it, sf) = here p s.items I e s.case_values s.is_instance s.clause_values s.stands in
    let (outer, stands, out) = stands_for Σ Σ' x.ok w I h.values h.is_ground c p.origin p.at_first s.case_values it l s.clause_values sf F h.first in
    let fr : SubstitutionBySkeletons (constant_skeletons Σ') Γ Γ s.case_values = fits_more S Σ Σ' x Γ Γ s.case_values (instance_fits Σ ok W I leaf.typed.items I s.case_values it) in
    let hm : HaveSkeletons (constant_skeletons Σ') (context_skeletons (onto C.local (items_context I))) C.arguments = have_more S Σ Σ' x (context_skeletons (onto C.local (items_context I))) C.arguments leaf.typed.arguments in
    let hg : HaveSkeletons (constant_skeletons Σ') Γ C.given = have_more S Σ Σ' x Γ C.given leaf.typed.given in
    let V : ℕ → Bool = λ i. either (outside c.type everything i) (s.used i) in
    let within : (i : ℕ) → outside c.type everything i ≡ false → V i ≡ true → s.used i ≡ true = λ i o q. second_of (outside c.type everything i) (s.used i) q o in
    let closed : (i : ℕ) (X : LfType) → TypeAt (scope c) i X → V i ≡ true → UsesType V X = λ i X g q. or (outside c.type everything i) (s.used i) (UsesType V X) (either_cases (outside c.type everything i) (s.used i) q) (λ o. uses_type_within (outside c.type everything) V X (λ j z. either_left (s.used j) z) (outside_types c.type c.outer everything (λ j Y h z. uses_type_all everything Y (λ l. refl)) i X g o)) (λ u. uses_type_within s.used V X (λ j z. either_in (outside c.type everything j) z) (tv.closed i X g u)) in
    let t' : IsType Σ' (scope c) A = extension_keeps_types S Σ Σ' x (scope c) A leaf.pattern_typed.type_typed in
    let (L, el, fit) = end_typed Σ' x.ok A (scope c) t' in
    let sp : SpineSkeleton (constant_skeletons Σ') (context_skeletons (onto D (scope c))) (target_arguments A) (kind_skeleton (target A) L) (base (target A)) = subst (λ O. SpineSkeleton (constant_skeletons Σ') (context_skeletons O) (target_arguments A) (kind_skeleton (target A) L) (base (target A))) (binders_over [] A (scope c)) (subst (λ Δ. SpineSkeleton (constant_skeletons Σ') Δ (target_arguments A) (kind_skeleton (target A) L) (base (target A))) (beside_nothing (binders (scope c) A)) (kind_spine_has_skeleton_beside Σ' [] (target A) (binders (scope c) A) (target_arguments A) L fit)) in
    let v' : ℕ → Image = v Σ' x.ok G (world_is_context w) (items_context I) case_context h.values ground c clause_context s.used s.clause_values tv' outer out in
    let clause_same : SamePlaces places s.tuple (substitute_spine reduce (lift_over D s.clause_values) (target_arguments A)) = subst (SamePlaces places s.tuple) (arguments_under [] A s.clause_values) s.of_clause in
    let used : UsesPlaces (under_all D s.used) places (target_arguments A) = goal_places [] s.used places A s.uses in
    let same : SamePlaces places T (substitute_spine reduce (lift_over D v') (target_arguments A)) = v_places Σ' x.ok G (world_is_context w) (items_context I) case_context h.values ground c clause_context s.used s.clause_values tv' outer out D C.local leaf.same_length s.case_values (leaves_deep Σ' I s.case_values fr l C.local) C.arguments T s.tuple (target_arguments A) (kind_skeleton (target A) L) (base (target A)) hm sp h.has_arguments s.of_case clause_same used in (
      p,
      leaf.listed,
      record {
        outer = outer;
        stands = stands;
        used = V;
        outside_used = λ i o. either_left (s.used i) o;
        uses = goal_within s.used V places A (λ j z. either_in (outside c.type everything j) z) s.uses;
        strict = leaf.is_instance.3;
        values = v';
        typed = v_typed Σ' x.ok G (world_is_context w) (items_context I) case_context h.values ground c clause_context s.used s.clause_values tv' outer out V within closed;
        agrees = λ k X y. outer_at c.type v' k ∙ v_out Σ' x.ok G (world_is_context w) (items_context I) case_context h.values ground c clause_context s.used s.clause_values tv' outer out k;
        given = λ i M k q. let o = leaf.given_own i (given_is C.given i M q) in
            let (a, r) = s.given i M q in
            let (b, z) = h.given i M q in
            let (t, n) = given_skeleton (constant_skeletons Σ') Γ C.given i M hg q in
            (a, b, substitute reduce h.values M, v_given Σ' x.ok G (world_is_context w) (items_context I) case_context h.values ground c clause_context s.used s.clause_values tv' outer out i a M t o (within i o k) n (r ∙ ap (put a) (leaves_terms Σ' I s.case_values fr l M t n)), z);
        terms = v_terms Σ' x.ok G (world_is_context w) (items_context I) case_context h.values ground c clause_context s.used s.clause_values tv' outer out V within s.terms;
        same = subst (SamePlaces places T) (sym (arguments_under [] A v')) same;
      },
    )
  where
    or : (a b : Bool) (X : Type 0) → (a ≡ true) ⊎ (b ≡ true) → (a ≡ true → X) → (b ≡ true → X) → X
    or a b X (inl q) f g = f q
    or a b X (inr q) f g = g q

    here : (p : Pattern) (J K : List Item) (e : J ≡ K) (ρ : ℕ → Image) (it : IsTypedInstance Σ J C.items ρ) (τ : ℕ → Image) → StandsAmong Σ p.origin p.at_first J C.items ρ it τ → (i : IsTypedInstance Σ K C.items ρ) × StandsAmong Σ p.origin p.at_first K C.items ρ i τ
    here p J K e ρ it τ st = subst (λ K. (i : IsTypedInstance Σ K C.items ρ) × StandsAmong Σ p.origin p.at_first K C.items ρ i τ) e (it, st)

pub leaves_cover : LeavesCover
leaves_cover Σ ok W typed below s S sc ps C n tc e = head_splits_cover Σ ok W typed below s S sc ps C n tc (other_run {Kept = IsTypedCase Σ W} (λ D k l. leaf_is_instance Σ ok W typed S ps D l) split tc e)
  where
    split : (D : Case) (Ds : List Case) → IsTypedCase Σ W D → SplitsByUnification Σ W S below D Ds → SplitsByHeads Σ W S below D Ds × ((E : Case) → Member E Ds → IsTypedCase Σ W E)
    split D Ds k (x, q) =
        let sp : IsHeadSplit Σ W S below D x Ds = unified_split Σ ok W typed below S sc D k x Ds q in
        ((x, sp), split_cases_typed Σ ok W S below D k x Ds sp)

-- Patterns that are typed
pub head_is_typed : HeadIsTypedPattern
head_is_typed Σ ok W typed c i =
    let ty = clause_typed Σ ok W typed c i in
    record { outer_typed = ty.0; clause_typed = binders_typed Σ ok c.type c.outer ty.0 ty.1; type_typed = end_typed Σ ok c.type c.outer ty.1 }

pub subgoal_is_typed : SubgoalIsTypedPattern
subgoal_is_typed Σ ok W typed c d i A s =
    let ty = clause_typed Σ ok W typed c d in
    let ct = binders_typed Σ ok c.type c.outer ty.0 ty.1 in
    record { outer_typed = ty.0; clause_typed = ct; type_typed = declared_is_type Σ ok (scope c) i A ct s.1 }
