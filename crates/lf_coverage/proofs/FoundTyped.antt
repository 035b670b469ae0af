-- What is read off is typed, where the case's arguments have the types of their places.
use Rattle.std.proofs.Common.{◌≡◌, ℕ, zero, suc, List, [], ◌∷◌, refl, sym, ap, ◌∙◌, subst, inl, inr}
use Rattle.std.specs.Prelude.{Bool, true, false, cond, Option, Some, None, ◌⊎◌}
use Rattle.lf.specs.Syntax.{constant, variable, metavariable, Term, Spine, lambda, root, nil, app, LfType, Kind, pi, atom, kind_pi, star, Skeleton, base, arrow, skeleton, weaken, rename, rename_type}
use Rattle.lf.specs.AtOnce.{in_front}
use Rattle.lf.specs.Substitution.{Image, keep, put, rename_image, lift, single, apply_image, substitute, substitute_spine, substitute_type, substitute_kind, reduce, after}
use Rattle.lf.specs.SkeletonTyping.{SkeletonAt, TermSkeleton, ImageSkeleton, TypeBySkeletons, SubstitutionBySkeletons}
use Rattle.lf.specs.Skeletons.{constant_skeletons, family_skeletons, context_skeletons}
use Rattle.lf.specs.Eta.{eta_long}
use Rattle.lf.specs.Typing.{Signature, TypeAt, ImageHasType, instantiate_type, HasType, SpineType, SpineFitsKind, IsType, IsKind, IsContext, IsSignature}
use Rattle.lf.specs.Variables.{target, target_arguments, under, hide, everything, nothing, Uses, UsesType, SameOn, same_number, at_variable, IsTypedRenamingOn}
use Rattle.lf.proofs.Agreement.{agree_on, agree_on_type, uses_type_within}
use Rattle.lf.proofs.Checker.{number_is, number_itself}
use Rattle.lf.proofs.Closed.{closed_type_substituted}
use Rattle.lf.proofs.Decidability.{variable_type_unique}
use Rattle.lf.proofs.Eta.{reduce_nil, substitute_eta_expand}
use Rattle.lf.proofs.EtaTypes.{SameForm, eta_spine, eta_at_type}
use Rattle.lf.proofs.Partial.{skeletons_beside, variable_has_skeleton_beside, type_by_skeletons_beside, substitute_instance, skeleton_context_of_beside, partial_substitution_keeps_types, uses_all, uses_type_all}
use Rattle.lf.proofs.Patch.{beyond, pick, patch, patch_same, skeleton_beside_has_variable}
use Rattle.lf.proofs.Renaming.{renamings_compose, reduction_beta, substitute_identity}
use Rattle.lf.proofs.SkeletonTypes.{substitution_keeps_types_by_skeletons, substitutions_compose_type}
use Rattle.lf.proofs.SkeletonTyping.{renaming_keeps_skeletons, lift_by_skeletons}
use Rattle.lf.proofs.Strength.{strengthening_keeps_typing}
use Rattle.lf.proofs.Substitution.{instance_is_type, constant_type, family_kind}
use Rattle.lf.proofs.ToSkeletons.{skeleton_has_variable, variable_has_skeleton}
use Rattle.lf.proofs.TypeLaws.{skeleton_substituted, substitution_as_renaming, substitution_as_renaming_type, renamings_compose_type, substitute_identity_type, substitute_identity_kind, lifted_substitution_weakened_type}
use Rattle.lf.proofs.Uses.{uses_renamed, uses_type_renamed}
use Rattle.lf.proofs.Weakening.{declared_is_type}
use Rattle.lf_unification.proofs.RenamingBack.{HasType-unrename}
use Rattle.lf_checks.specs.Clause.{scope, outside}
use Rattle.lf_checks.specs.Ground.{UsesGoal}
use Rattle.lf_checks.specs.Marks.{MentionChosenOnly, SamePlaces, TypedPlacesFrom}
use Rattle.lf_checks.specs.Parts.{type_at}
use Rattle.lf_checks.specs.Strict.{head_variable, is_bound, pattern_arguments, with_seen, strict, strict_spine, strict_at}
use Rattle.lf_checks.specs.Tests.{both, either, is_in}
use Rattle.lf_checks.specs.Worlded.{IsTerm}
use Rattle.lf_checks.proofs.Determined.{KeptSame, Apart, same_lift, apart_lift}
use Rattle.lf_checks.proofs.EtaTest.{both_l, both_r}
use Rattle.lf_checks.proofs.StrictTypes.{either_cases}
use Rattle.lf_cases.specs.Case.{items_context, covered_places}
use Rattle.lf_cases.specs.Pattern.{Pattern, origin, head_pattern, given_at, is_given, ground_in}
use Rattle.lf_cases.proofs.Assemble.{AllTyped, AllTyped-has_skeleton, end_typed, binders_typed}
use Rattle.lf_cases.proofs.Calls.{instance_cons, typed_cons}
use Rattle.lf_cases.proofs.GroundTypes.{clause_typed}
use Rattle.lf_cases.proofs.Raised.{rename_identity}
use Rattle.lf_coverage.specs.OrElse.{or_else}
use Rattle.lf_coverage.specs.Matching.{ArePlaces, HoldsTypes, as_image, found_at, found_term, found_values}
use Rattle.lf_coverage.specs.MatchingLaws.{HeadMatchIsTyped}
use Rattle.lf_coverage.proofs.FoundSkeletons.{found_at_skeleton, none_under}
use Rattle.lf_coverage.proofs.GroundHolds.{head_ground_holds_types}
use Rattle.lf_coverage.proofs.Matching.{found_is, goal_agrees, ground_is_strict, is_own, none_fixed}
use Rattle.lf_coverage.proofs.ReadOff.{moved_in, with_variable}
use Rattle.lf_coverage.proofs.Choices.{second_of, either_second, decided}
use Rattle.lf_coverage.proofs.Carried.{beyond_at}
use Rattle.lf_coverage.proofs.Parts.{some_same}
use Rattle.lf_coverage.proofs.EtaArguments.{bound_argument, argument_renames, argument_renames_type, newest_at}

-- y put in for the newest variable, and back
abbrev back : ℕ → ℕ → ℕ
back y i = cond (same_number i y) zero (suc i)

module _ (y : ℕ) (W : ℕ → Bool) (free : W y ≡ true → ⊥) where
  back_moves : SameOn W (λ i. keep (back y i)) (λ i. keep (suc i))
  back_moves i e = decided (same_number i y) (λ q. absurd (free (subst (λ j. W j ≡ true) (number_is i y q) e))) (λ q. ap (λ b. keep (cond b zero (suc i))) q)

  back_stays : SameOn (under W) (λ i. keep (back y (at_variable y i))) keep
  back_stays zero e = ap (λ b. keep (cond b zero (suc y))) (number_itself y)
  back_stays (suc i) e = back_moves i e

  back_weakens : (X : LfType) → UsesType W X → rename_type (back y) X ≡ weaken X
  back_weakens X u = sym (substitution_as_renaming_type reduce (back y) X) ∙ agree_on_type reduce W (λ i. keep (back y i)) (λ i. keep (suc i)) X back_moves u ∙ substitution_as_renaming_type reduce suc X

  back_term : (N : Term) → Uses (under W) N → rename (back y) (rename (at_variable y) N) ≡ N
  back_term N u = renamings_compose (back y) (at_variable y) N ∙ sym (substitution_as_renaming reduce (λ i. back y (at_variable y i)) N) ∙ agree_on reduce (under W) (λ i. keep (back y (at_variable y i))) keep N back_stays u ∙ substitute_identity reduce N

  back_type : (A : LfType) → UsesType (under W) A → rename_type (back y) (rename_type (at_variable y) A) ≡ A
  back_type A u = renamings_compose_type (back y) (at_variable y) A ∙ sym (substitution_as_renaming_type reduce (λ i. back y (at_variable y i)) A) ∙ agree_on_type reduce (under W) (λ i. keep (back y (at_variable y i))) keep A back_stays u ∙ substitute_identity_type reduce A

into_variable : (y : ℕ) (W : ℕ → Bool) (i : ℕ) → under W i ≡ true → with_variable y W (at_variable y i) ≡ true
into_variable y W zero e = ap (λ b. either b (W y)) (number_itself y)
into_variable y W (suc i) e = either_second (same_number i y) (W i) e

-- each bound variable has its type under these values
abbrev pub BoundTyped : (ℕ → Bool) → List LfType → List LfType → (ℕ → Image) → Type 0
BoundTyped B C D ν = (i : ℕ) (X : LfType) → B i ≡ true → TypeAt C i X → TypeAt D i (substitute_type reduce ν X)

pub bound_typed_under : (B : ℕ → Bool) (C D : List LfType) (ν : ℕ → Image) (A : LfType) → BoundTyped B C D ν → BoundTyped (under B) (A ∷ C) (substitute_type reduce ν A ∷ D) (lift ν)
bound_typed_under B C D ν A h zero X b e = ap (substitute_type reduce (lift ν)) e ∙ lifted_substitution_weakened_type ν A
bound_typed_under B C D ν A h (suc i) X b (Y, g, e) = (substitute_type reduce ν Y, h i Y b g, ap (substitute_type reduce (lift ν)) e ∙ lifted_substitution_weakened_type ν Y)

pub holds_under : (W : ℕ → Bool) (D : List LfType) (A : LfType) → HoldsTypes W D → HoldsTypes (hide W) (A ∷ D)
holds_under W D A h zero X g v = absurd cc
holds_under W D A h (suc i) X (Y, g, e) v = subst (UsesType (hide W)) (sym e) (uses_type_renamed W (hide W) suc Y (λ j z. z) (h i Y g v))

module _ (Σ : Signature) (ok : IsSignature Σ) (R : List Skeleton) where
  pub goes_under : (C D : List LfType) (ν : ℕ → Image) (A : LfType) → SubstitutionBySkeletons (constant_skeletons Σ) (skeletons_beside [] C) (skeletons_beside R D) ν → SubstitutionBySkeletons (constant_skeletons Σ) (skeleton A ∷ skeletons_beside [] C) (skeleton (substitute_type reduce ν A) ∷ skeletons_beside R D) (lift ν)
  goes_under C D ν A w = subst (λ t. SubstitutionBySkeletons (constant_skeletons Σ) (skeleton A ∷ skeletons_beside [] C) (t ∷ skeletons_beside R D) (lift ν)) (sym (skeleton_substituted reduce ν A)) (lift_by_skeletons (constant_skeletons Σ) (skeleton A) (skeletons_beside [] C) (skeletons_beside R D) ν w)

  through : (C D : List LfType) (ν : ℕ → Image) (A : LfType) (M : Term) (B : LfType) → SubstitutionBySkeletons (constant_skeletons Σ) (skeletons_beside [] C) (skeletons_beside R D) ν → HasType Σ C M A → IsType Σ (A ∷ C) B → substitute_type reduce ν (instantiate_type A M B) ≡ instantiate_type (substitute_type reduce ν A) (substitute reduce ν M) (substitute_type reduce (lift ν) B)
  through C D ν A M B w m b = substitute_instance Σ ok [] R C D ν A M B w m (type_by_skeletons_beside Σ [] (A ∷ C) B b)

  -- a value that is typed on distinct bound variables is typed
  pattern_back : (B W : ℕ → Bool) (C D : List LfType) (ν : ℕ → Image) (ys : List ℕ) (S : Spine) (A Z : LfType) (a : Skeleton) (N : Term) → IsContext Σ C → IsType Σ C A → SubstitutionBySkeletons (constant_skeletons Σ) (skeletons_beside [] C) (skeletons_beside R D) ν → KeptSame B ν ν → BoundTyped B C D ν → SpineType Σ C S A Z → pattern_arguments B ys S ≡ true → skeleton A ≡ a → TermSkeleton (constant_skeletons Σ) (skeletons_beside R D) N a → Uses W N → HoldsTypes W D → UsesType W (substitute_type reduce ν A) → ((i : ℕ) → W i ≡ true → B i ≡ true → is_in i ys ≡ false → ⊥) → HasType Σ D (reduce a N (substitute_spine reduce ν S)) (substitute_type reduce ν Z) → HasType Σ D N (substitute_type reduce ν A)
  pattern_back B W C D ν ys nil A Z a N c t w kb bt s e q m u ht ut p h = subst (λ X. HasType Σ D N (substitute_type reduce ν X)) (sym s) (subst (λ M. HasType Σ D M (substitute_type reduce ν Z)) (reduce_nil a N) h)
  pattern_back B W C D ν ys (app M S) (atom d V) Z a N c t w kb bt s e q m u ht ut p h = absurd s
  pattern_back B W C D ν ys (app M S) (pi A1 A2) Z (base d) N c t w kb bt s e q m u ht ut p h = absurd cc
  pattern_back B W C D ν ys (app M S) (pi A1 A2) Z (arrow s1 s2) (root k T) c t w kb bt s e q m u ht ut p h = absurd m
  pattern_back B W C D ν ys (app M S) (pi A1 A2) Z (arrow s1 s2) (lambda N) c (t1, t2) w kb bt (r, s) e q m u ht (u1, u2) p h =
      let o : Option ℕ = head_variable zero M in
      let (y, b, oe, by, ns, me) = bound_argument B ys M o (both_l (is_bound B ys M o) (pattern_arguments B (with_seen o ys) S) e) in
      let ks = (kb y by).0 in
      let r' : HasType Σ C (eta_long b (variable y)) A1 = subst (λ X. HasType Σ C X A1) me r in
      let (Y, g) = eta_at_type Σ ok b C y nil A1 r' in
      let (f, yw) = eta_spine Σ ok b C y nil Y A1 c g t1 r' in
      let q1 : skeleton A1 ≡ s1 = cc in
      let q2 : skeleton A2 ≡ s2 = cc in
      let sk : skeleton (substitute_type reduce ν A1) ≡ skeleton A1 = skeleton_substituted reduce ν A1 in
      let gd : TypeAt D y (substitute_type reduce ν A1) = bt y A1 by (subst (TypeAt C y) yw g) in
      let sy : SkeletonAt (skeletons_beside R D) y s1 = subst (SkeletonAt (skeletons_beside R D) y) (sk ∙ q1) (variable_has_skeleton_beside R D y (substitute_type reduce ν A1) gd) in
      let es : substitute reduce ν M ≡ eta_long b (variable y) = ap (substitute reduce ν) me ∙ substitute_eta_expand ν b (variable y) (variable y) nil ks in
      let ev : reduce (arrow s1 s2) (lambda N) (app (substitute reduce ν M) (substitute_spine reduce ν S)) ≡ reduce s2 (rename (at_variable y) N) (substitute_spine reduce ν S) = reduction_beta s1 s2 N (substitute reduce ν M) (substitute_spine reduce ν S) ∙ ap (λ X. reduce s2 (substitute reduce (single s1 X) N) (substitute_spine reduce ν S)) es ∙ ap (λ X. reduce s2 X (substitute_spine reduce ν S)) (argument_renames (skeletons_beside R D) s1 b y sy (subst (SameForm b) q1 f) (constant_skeletons Σ) N s2 m) in
      let m' : TermSkeleton (constant_skeletons Σ) (skeletons_beside R D) (rename (at_variable y) N) s2 = renaming_keeps_skeletons (constant_skeletons Σ) (s1 ∷ skeletons_beside R D) (skeletons_beside R D) (at_variable y) N s2 (newest_at (skeletons_beside R D) y s1 sy) m in
      let k2 : TypeBySkeletons (family_skeletons Σ) (constant_skeletons Σ) (skeleton (substitute_type reduce ν A1) ∷ skeletons_beside R D) (substitute_type reduce (lift ν) A2) = substitution_keeps_types_by_skeletons (family_skeletons Σ) (constant_skeletons Σ) (skeleton A1 ∷ skeletons_beside [] C) (skeleton (substitute_type reduce ν A1) ∷ skeletons_beside R D) (lift ν) A2 (goes_under C D ν A1 w) (type_by_skeletons_beside Σ [] (A1 ∷ C) A2 t2) in
      let eq : substitute_type reduce ν (instantiate_type A1 M A2) ≡ rename_type (at_variable y) (substitute_type reduce (lift ν) A2) = through C D ν A1 M A2 w r t2 ∙ ap (λ X. instantiate_type (substitute_type reduce ν A1) X (substitute_type reduce (lift ν) A2)) es ∙ argument_renames_type (skeletons_beside R D) (skeleton (substitute_type reduce ν A1)) b y (variable_has_skeleton_beside R D y (substitute_type reduce ν A1) gd) (subst (SameForm b) (sym sk) f) Σ ok (substitute_type reduce (lift ν) A2) k2 in
      let ih : HasType Σ D (rename (at_variable y) N) (substitute_type reduce ν (instantiate_type A1 M A2)) = pattern_back B (with_variable y W) C D ν (with_seen o ys) S (instantiate_type A1 M A2) Z s2 (rename (at_variable y) N) c (instance_is_type Σ ok C A1 M A2 c t1 t2 r) w kb bt s (both_r (is_bound B ys M o) (pattern_arguments B (with_seen o ys) S) e) (skeleton_substituted reduce (single (skeleton A1) M) A2 ∙ q2) m' (moved_in y W N u) (holds y (substitute_type reduce ν A1) gd u1) (subst (UsesType (with_variable y W)) (sym eq) (uses_type_renamed (under W) (with_variable y W) (at_variable y) (substitute_type reduce (lift ν) A2) (into_variable y W) u2)) (λ i v b h. later y i v b (subst (λ z. is_in i (with_seen z ys) ≡ false) oe h)) (subst (λ X. HasType Σ D X (substitute_type reduce ν Z)) ev h) in
      let free : W y ≡ true → ⊥ = λ v. p y v by ns in
      let z : HasType Σ (substitute_type reduce ν A1 ∷ D) (rename (back y) (rename (at_variable y) N)) (rename_type (back y) (rename_type (at_variable y) (substitute_type reduce (lift ν) A2))) = strengthening_keeps_typing Σ ok (with_variable y W) D (substitute_type reduce ν A1 ∷ D) (back y) (rename (at_variable y) N) (rename_type (at_variable y) (substitute_type reduce (lift ν) A2)) (moves y (substitute_type reduce ν A1) gd u1 free) (moved_in y W N u) (subst (HasType Σ D (rename (at_variable y) N)) eq ih) in
      subst (λ X. HasType Σ (substitute_type reduce ν A1 ∷ D) X (substitute_type reduce (lift ν) A2)) (back_term y W free N u) (subst (HasType Σ (substitute_type reduce ν A1 ∷ D) (rename (back y) (rename (at_variable y) N))) (back_type y W free (substitute_type reduce (lift ν) A2) u2) z)
    where
      inside : (y : ℕ) (i : ℕ) → W i ≡ true → with_variable y W i ≡ true
      inside y i v = either_second (same_number i y) (W i) v

      holds : (y : ℕ) (X : LfType) → TypeAt D y X → UsesType W X → HoldsTypes (with_variable y W) D
      holds y X gd ux i V k z = decided (same_number i y)
          (λ q. uses_type_within W (with_variable y W) V (inside y) (subst (UsesType W) (variable_type_unique D y X V gd (subst (λ j. TypeAt D j V) (number_is i y q) k)) ux))
          (λ q. uses_type_within W (with_variable y W) V (inside y) (ht i V k (second_of (same_number i y) (W i) z q)))

      moves : (y : ℕ) (X : LfType) → TypeAt D y X → UsesType W X → (W y ≡ true → ⊥) → IsTypedRenamingOn (with_variable y W) D (X ∷ D) (back y)
      moves y X gd ux free i V k z = decided (same_number i y)
          (λ q.
          let e : X ≡ V = variable_type_unique D y X V gd (subst (λ j. TypeAt D j V) (number_is i y q) k) in
          subst (λ b. TypeAt (X ∷ D) (cond b zero (suc i)) (rename_type (back y) V)) (sym q) (back_weakens y W free V (subst (UsesType W) e ux) ∙ ap weaken (sym e)))
          (λ q. subst (λ b. TypeAt (X ∷ D) (cond b zero (suc i)) (rename_type (back y) V)) (sym q) (V, k, back_weakens y W free V (ht i V k (second_of (same_number i y) (W i) z q))))

      split : (b v s : Bool) → either b v ≡ true → either b s ≡ false → (v ≡ true) × (s ≡ false)
      split true v s e f = absurd cc
      split false v s e f = (e, f)

      later : (y i : ℕ) → with_variable y W i ≡ true → B i ≡ true → is_in i (y ∷ ys) ≡ false → ⊥
      later y i v b h = let (v', h') = split (same_number i y) (W i) (is_in i ys) v h in p i v' b h'

  mutual
    -- The lemma
    pub typed_value : (B F W : ℕ → Bool) (C D : List LfType) (ν : ℕ → Image) (x : ℕ) (X : LfType) (a : Skeleton) (N Q : Term) (P : LfType) → IsContext Σ C → IsType Σ C P → SubstitutionBySkeletons (constant_skeletons Σ) (skeletons_beside [] C) (skeletons_beside R D) ν → KeptSame B ν ν → BoundTyped B C D ν → ((i : ℕ) → F i ≡ true → ⊥) → Apart W B → HoldsTypes W D → ν x ≡ put a N → Uses W N → UsesType W (substitute_type reduce ν X) → TypeAt C x X → HasType Σ C Q P → HasType Σ D (substitute reduce ν Q) (substitute_type reduce ν P) → strict B F x Q ≡ true → HasType Σ D N (substitute_type reduce ν X)
    typed_value B F W C D ν x X a N (lambda Q) (pi A1 P) c (t1, t2) w kb bt nf p ht e u ux g q m z =
        HasType-unrename Σ ok D (substitute_type reduce ν A1 ∷ D) suc N (substitute_type reduce ν X) (λ i j e. cc) (λ i X g. g)
        (subst (HasType Σ (substitute_type reduce ν A1 ∷ D) (rename suc N)) (lifted_substitution_weakened_type ν X) (typed_value (under B) (hide F) (hide W) (A1 ∷ C) (substitute_type reduce ν A1 ∷ D) (lift ν) (suc x) (weaken X) a (rename suc N) Q P (c, t1) t2 (goes_under C D ν A1 w) (same_lift B ν ν kb) (bound_typed_under B C D ν A1 bt) (none_under F nf) (apart_lift W B p) (holds_under W D (substitute_type reduce ν A1) ht) (ap (rename_image suc) e) (uses_renamed W (hide W) suc N (λ i v. v) u) (subst (UsesType (hide W)) (sym (lifted_substitution_weakened_type ν X)) (uses_type_renamed W (hide W) suc (substitute_type reduce ν X) (λ i v. v) ux)) (X, g, refl) q m z))
    typed_value B F W C D ν x X a N (lambda Q) (atom d T) c t w kb bt nf p ht e u ux g q m z = absurd q
    typed_value B F W C D ν x X a N (root h S) (pi A1 P) c t w kb bt nf p ht e u ux g q m z = absurd q
    typed_value B F W C D ν x X a N (root (constant d) S) (atom b T) c t w kb bt nf p ht e u ux g (A, k, s) (A', k', m) z = typed_spine B F W C D ν x X a N S A (atom b T) c (constant_type Σ ok C d A k) w kb bt nf p ht e u ux g s (atom b (substitute_spine reduce ν T)) (subst (λ V. SpineType Σ D (substitute_spine reduce ν S) V (atom b (substitute_spine reduce ν T))) (some_same (sym k' ∙ k) ∙ sym (closed_type_substituted Σ reduce ν A (ok.types_ok d A k))) m) z
    typed_value B F W C D ν x X a N (root (metavariable d) S) (atom b T) c t w kb bt nf p ht e u ux g (A, k, s) m z = absurd k
    typed_value B F W C D ν x X a N (root (variable j) S) (atom b T) c t w kb bt nf p ht e u ux g (A, k, s) m z = decided (both (same_number j x) (pattern_arguments B [] S)) here (inside (λ v y. typed_spine B F W C D ν x X a N S A (atom b T) c (declared_is_type Σ ok C j A c k) w kb bt nf p ht e u ux g s (atom b (substitute_spine reduce ν T)) v y))
      where
        here : both (same_number j x) (pattern_arguments B [] S) ≡ true → HasType Σ D N (substitute_type reduce ν X)
        here y =
            let jx : j ≡ x = number_is j x (both_l (same_number j x) (pattern_arguments B [] S) y) in
            let ax : A ≡ X = variable_type_unique C x A X (subst (λ i. TypeAt C i A) jx k) g in
            let (sa, n) = subst (λ v. ImageSkeleton (constant_skeletons Σ) (skeletons_beside R D) v (skeleton X)) e (w x (skeleton X) (variable_has_skeleton_beside [] C x X g)) in
            let m' : HasType Σ D (reduce a N (substitute_spine reduce ν S)) (atom b (substitute_spine reduce ν T)) = subst (λ v. HasType Σ D (apply_image reduce v (substitute_spine reduce ν S)) (atom b (substitute_spine reduce ν T))) (ap ν jx ∙ e) m in
            subst (λ V. HasType Σ D N (substitute_type reduce ν V)) ax (pattern_back B W C D ν [] S A (atom b T) a N c (declared_is_type Σ ok C j A c k) w kb bt s (both_r (same_number j x) (pattern_arguments B [] S) y) (ap skeleton ax ∙ sym sa) n u ht (subst (λ V. UsesType W (substitute_type reduce ν V)) (sym ax) ux) (λ i v y h. p i v y) m')

        inside : (SpineType Σ D (substitute_spine reduce ν S) (substitute_type reduce ν A) (atom b (substitute_spine reduce ν T)) → strict_spine B F x S ≡ true → HasType Σ D N (substitute_type reduce ν X)) → both (same_number j x) (pattern_arguments B [] S) ≡ false → HasType Σ D N (substitute_type reduce ν X)
        inside next y =
            let r : both (either (B j) (F j)) (strict_spine B F x S) ≡ true = second_of (both (same_number j x) (pattern_arguments B [] S)) (both (either (B j) (F j)) (strict_spine B F x S)) z y in
            kept (either_cases (B j) (F j) (both_l (either (B j) (F j)) (strict_spine B F x S) r)) (both_r (either (B j) (F j)) (strict_spine B F x S) r)
          where
            kept : (B j ≡ true) ⊎ (F j ≡ true) → strict_spine B F x S ≡ true → HasType Σ D N (substitute_type reduce ν X)
            kept (inl v) r =
                let (A', k', s') = subst (λ y. HasType Σ D (apply_image reduce y (substitute_spine reduce ν S)) (atom b (substitute_spine reduce ν T))) (kb j v).0 m in
                next (subst (λ V. SpineType Σ D (substitute_spine reduce ν S) V (atom b (substitute_spine reduce ν T))) (variable_type_unique D j A' (substitute_type reduce ν A) k' (bt j A v k)) s') r
            kept (inr v) r = absurd (nf j v)

    typed_spine : (B F W : ℕ → Bool) (C D : List LfType) (ν : ℕ → Image) (x : ℕ) (X : LfType) (a : Skeleton) (N : Term) (S : Spine) (A Z : LfType) → IsContext Σ C → IsType Σ C A → SubstitutionBySkeletons (constant_skeletons Σ) (skeletons_beside [] C) (skeletons_beside R D) ν → KeptSame B ν ν → BoundTyped B C D ν → ((i : ℕ) → F i ≡ true → ⊥) → Apart W B → HoldsTypes W D → ν x ≡ put a N → Uses W N → UsesType W (substitute_type reduce ν X) → TypeAt C x X → SpineType Σ C S A Z → (V : LfType) → SpineType Σ D (substitute_spine reduce ν S) (substitute_type reduce ν A) V → strict_spine B F x S ≡ true → HasType Σ D N (substitute_type reduce ν X)
    typed_spine B F W C D ν x X a N nil A Z c t w kb bt nf p ht e u ux g s V m z = absurd cc
    typed_spine B F W C D ν x X a N (app Q S) (atom b T) Z c t w kb bt nf p ht e u ux g s V m z = absurd s
    typed_spine B F W C D ν x X a N (app Q S) (pi A1 A2) Z c (t1, t2) w kb bt nf p ht e u ux g (q, s) V (m, ms) z =
        decided (strict B F x Q)
        (λ y. typed_value B F W C D ν x X a N Q A1 c t1 w kb bt nf p ht e u ux g q m y)
        (λ y. typed_spine B F W C D ν x X a N S (instantiate_type A1 Q A2) Z c (instance_is_type Σ ok C A1 Q A2 c t1 t2 q) w kb bt nf p ht e u ux g s V (subst (λ Y. SpineType Σ D (substitute_spine reduce ν S) Y V) (sym (through C D ν A1 Q A2 w q t2)) ms) (second_of (strict B F x Q) (strict_spine B F x S) z y))

  -- at the covered places
  pub at_typed : (F : ℕ → Bool) (O G : List LfType) (ν : ℕ → Image) (x : ℕ) (X : LfType) (a : Skeleton) (N : Term) (m : List Bool) (S : Spine) (K : Kind) (Y : List LfType) (θ η : ℕ → Image) (V : ℕ → Bool) (T : Spine) → IsContext Σ O → SubstitutionBySkeletons (constant_skeletons Σ) (skeletons_beside [] O) (skeletons_beside R G) ν → ((i : ℕ) → F i ≡ true → ⊥) → ν x ≡ put a N → TypeAt O x X → IsContext Σ Y → AllTyped Σ ok Y O θ → IsKind Σ Y K → MentionChosenOnly V m K → SameOn V (after ν θ) η → SpineFitsKind Σ O S (substitute_kind reduce θ K) → TypedPlacesFrom Σ m G η T K → SamePlaces m T (substitute_spine reduce ν S) → strict_at m nothing F x S ≡ true → HasType Σ G N (substitute_type reduce ν X)
  at_typed F O G ν x X a N [] S K Y θ η V T c w nf e g cy t k v h s p r z = absurd cc
  at_typed F O G ν x X a N (b ∷ m) nil K Y θ η V T c w nf e g cy t k v h s p r z = absurd cc
  at_typed F O G ν x X a N (b ∷ m) (app Q S) star Y θ η V T c w nf e g cy t k v h s p r z = absurd v
  at_typed F O G ν x X a N (b ∷ m) (app Q S) (kind_pi A K) Y θ η V nil c w nf e g cy t k v h s p r z = absurd r
  at_typed F O G ν x X a N (false ∷ m) (app Q S) (kind_pi A K) Y θ η V (app M T) c w nf e g cy t (ka, k) v h (q, s) p r z = at_typed F O G ν x X a N m S K (A ∷ Y) (in_front (put (skeleton A) Q) θ) (in_front (put (skeleton A) M) η) (hide V) T c w nf e g (cy, ka) (typed_cons Σ ok Y O θ A Q t q) k v hidden (subst (SpineFitsKind Σ O S) (instance_cons Σ ok Y O θ A Q K t ka k q) s) p r z
    where
      hidden : SameOn (hide V) (after ν (in_front (put (skeleton A) Q) θ)) (in_front (put (skeleton A) M) η)
      hidden zero y = absurd cc
      hidden (suc i) y = h i y
  at_typed F O G ν x X a N (true ∷ m) (app Q S) (kind_pi A K) Y θ η V (app M T) c w nf e g cy t (ka, k) (v, vs) h (q, s) (p, ps) (r, rs) z =
      let sk = AllTyped-has_skeleton Σ ok [] Y O θ t in
      let ty : IsType Σ O (substitute_type reduce θ A) = partial_substitution_keeps_types Σ ok [] [] everything Y O θ A (record { typed = λ i B y u. t i B y; sk = sk; source_skeletons = skeleton_context_of_beside Σ ok [] Y cy; target_skeletons = skeleton_context_of_beside Σ ok [] O c }) (uses_type_all everything A (λ i. refl)) ka in
      let same : substitute_type reduce ν (substitute_type reduce θ A) ≡ substitute_type reduce η A = substitutions_compose_type (family_skeletons Σ) (constant_skeletons Σ) (skeletons_beside [] Y) (skeletons_beside [] O) (skeletons_beside R G) θ ν A sk w (type_by_skeletons_beside Σ [] Y A ka) ∙ agree_on_type reduce V (after ν θ) η A h v in
      decided (strict nothing F x Q)
      (λ y. typed_value nothing F everything O G ν x X a N Q (substitute_type reduce θ A) c ty w (λ i b. absurd cc) (λ i X b k. absurd cc) nf (λ i v b. cc) (λ i X k v. uses_type_all everything X (λ j. refl)) e (uses_all everything N (λ i. refl)) (uses_type_all everything (substitute_type reduce ν X) (λ i. refl)) g q (subst (HasType Σ G (substitute reduce ν Q)) (sym same) (subst (λ Z. HasType Σ G Z (substitute_type reduce η A)) r p)) y)
      (λ y. at_typed F O G ν x X a N m S K (A ∷ Y) (in_front (put (skeleton A) Q) θ) (in_front (put (skeleton A) M) η) (under V) T c w nf e g (cy, ka) (typed_cons Σ ok Y O θ A Q t q) k vs shown (subst (SpineFitsKind Σ O S) (instance_cons Σ ok Y O θ A Q K t ka k q) s) ps rs (second_of (strict nothing F x Q) (strict_at m nothing F x S) z y))
    where
      shown : SameOn (under V) (after ν (in_front (put (skeleton A) Q) θ)) (in_front (put (skeleton A) M) η)
      shown zero y = ap (put (skeleton A)) (sym r)
      shown (suc i) y = h i y

-- the arguments of two tuples at the places of a case
pub same_places : (Ms : List (Option Term)) (T S : Spine) → ArePlaces Ms T → ArePlaces Ms S → SamePlaces (covered_places Ms) T S
same_places [] nil nil h k = tt
same_places [] nil (app N S) h k = k
same_places [] (app N T) S h k = absurd h
same_places (M ∷ Ms) nil S h k = absurd (none M h)
  where
    none : (M : Option Term) → ArePlaces (M ∷ Ms) nil → ⊥
    none (Some M) h = h
    none None h = h
same_places (Some M ∷ Ms) (app N T) nil h k = k
same_places (None ∷ Ms) (app N T) nil h k = k
same_places (Some M ∷ Ms) (app N T) (app P S) (e, h) (f, k) = (sym e ∙ f, same_places Ms T S h k)
same_places (None ∷ Ms) (app N T) (app P S) h k = same_places Ms T S h k

pub term_there : (i : ℕ) (t : Option LfType) (x : Option Term) → IsTerm (as_image i t x) → (N : Term) × (x ≡ Some N)
term_there i None x h = absurd h
term_there i (Some A) None h = absurd h
term_there i (Some A) (Some N) h = (N, refl)

pub more : (Σ : Signature) (R : List Skeleton) (G : List LfType) (N : Term) (a : Skeleton) → TermSkeleton (constant_skeletons Σ) (context_skeletons G) N a → TermSkeleton (constant_skeletons Σ) (skeletons_beside R G) N a
more Σ R G N a n = subst (λ M. TermSkeleton (constant_skeletons Σ) (skeletons_beside R G) M a) (rename_identity N) (renaming_keeps_skeletons (constant_skeletons Σ) (context_skeletons G) (skeletons_beside R G) (λ i. i) N a (λ i t g. let (A, h, e) = skeleton_has_variable G i t g in subst (SkeletonAt (skeletons_beside R G) i) e (variable_has_skeleton_beside R G i A h)) n)

pub head_match_is_typed : HeadMatchIsTyped
head_match_is_typed Σ ok W typed C c i cn ng K kd v T hT pT (g, ft, same) =
    let p : Pattern = head_pattern c (origin i) in
    let Ms : List (Option Term) = C.arguments in
    let m : List Bool = covered_places C.arguments in
    let V : ℕ → Bool = ground_in (head_pattern c (origin i)) (covered_places C.arguments) C.given in
    let O : List LfType = scope c in
    let G : List LfType = items_context C.items in
    let ν : ℕ → Image = found_values C (head_pattern c (origin i)) in
    let R : List Skeleton = skeletons_beside [] (scope c) in
    let F : ℕ → Bool = outside c.type c.fixed in
    let S : Spine = target_arguments c.type in
    let cl : HoldsTypes V O = subst (λ Ns. UsesGoal (ground_in (head_pattern c (origin i)) (covered_places C.arguments) Ns) (covered_places C.arguments) (head_pattern c (origin i)).type → HoldsTypes (ground_in (head_pattern c (origin i)) (covered_places C.arguments) Ns) (scope c)) (sym ng) (λ u. head_ground_holds_types Σ ok W typed c i K kd (covered_places C.arguments) v u) g in
    let ty = clause_typed Σ ok W typed c i in
    let ct : IsContext Σ O = binders_typed Σ ok c.type c.outer ty.0 ty.1 in
    let (L, l, fit) = end_typed Σ ok c.type c.outer ty.1 in
    let fK : SpineFitsKind Σ O S K = subst (SpineFitsKind Σ O S) (some_same (sym l ∙ kd)) fit in
    let strictly : (j : ℕ) (A : LfType) → TypeAt O j A → V j ≡ true → strict_at m nothing F j S ≡ true = λ j A h u. ground_is_strict p m C.given j (subst (λ Ns. is_given Ns j ≡ false) (sym ng) refl) (is_own (origin i) cn j A h) u in
    let there : (j : ℕ) (A : LfType) → TypeAt O j A → V j ≡ true → (N : Term) × (found_term C p j ≡ Some N) = λ j A h u. term_there j (type_at O j) (found_term C p j) (ft j (is_own (origin i) cn j A h) u) in
    let read : (j : ℕ) (N : Term) → found_term C p j ≡ Some N → found_at nothing F zero j S Ms ≡ Some N = λ j N e. sym (ap (λ x. or_else x (found_at nothing F zero j S Ms)) (subst (λ Ns. given_at Ns j ≡ None) (sym ng) refl)) ∙ e in
    let skel : (j : ℕ) (A : LfType) (N : Term) → TypeAt O j A → V j ≡ true → found_term C p j ≡ Some N → TermSkeleton (constant_skeletons Σ) (context_skeletons G) N (skeleton A) = λ j A N h u e. found_at_skeleton Σ ok F O G ν keep j (skeleton A) N S K Ms T K ct (family_kind Σ ok O (target c.type) K kd) (none_fixed (origin i) cn) (variable_has_skeleton O j A h) fK refl pT hT same (strictly j A h u) (read j N e) in
    let sk : SubstitutionBySkeletons (constant_skeletons Σ) (skeletons_beside [] O) (skeletons_beside R G) (patch V G ν) = λ j t h.
    decided (V j)
    (λ u.
    let (A, x, e) = skeleton_beside_has_variable O j t h in
    let (N, q) = there j A x u in
    subst (λ y. ImageSkeleton (constant_skeletons Σ) (skeletons_beside R G) y t) (sym (found_is j O A (found_term C p j) N x q) ∙ patch_same V G ν j u) (e, more Σ R G N (skeleton A) (skel j A N x u q)))
    (λ n. subst (λ b. ImageSkeleton (constant_skeletons Σ) (skeletons_beside R G) (pick b (ν j) (keep (beyond G j))) t) (sym n) (beyond_at R G j t h)) in
    record {
      strict = g;
      found = ft;
      typed = record {
        typed = λ j A h u.
            let (N, q) = there j A h u in
            let is : ν j ≡ put (skeleton A) N = found_is j O A (found_term C p j) N h q in
            let n : HasType Σ G N (substitute_type reduce (patch V G ν) A) = at_typed Σ ok R F O G (patch V G ν) j A (skeleton A) N m S K [] keep keep nothing T ct sk (none_fixed (origin i) cn) (sym (patch_same V G ν j u) ∙ is) h tt (λ y X k. absurd k) (ok.kinds_ok (target c.type) K kd) v (λ y k. absurd cc) (subst (SpineFitsKind Σ O S) (sym (substitute_identity_kind reduce K)) fK) pT (same_places Ms T (substitute_spine reduce (patch V G ν) S) hT (goal_agrees V ν (patch V G ν) (patch_same V G ν) Ms p.type g same)) (strictly j A h u) in
            subst (λ y. ImageHasType Σ G y (substitute_type reduce ν A)) (sym is) (skeleton_substituted reduce ν A, subst (HasType Σ G N) (sym (agree_on_type reduce V ν (patch V G ν) A (patch_same V G ν) (cl j A h u))) n);
        closed = cl;
      };
      same = same;
    }
