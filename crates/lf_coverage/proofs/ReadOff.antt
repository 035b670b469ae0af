-- What is read off beside a strict occurrence of a variable is the variable's value.
use Rattle.std.proofs.Common.{◌≡◌, ℕ, zero, suc, List, [], ◌∷◌, refl, sym, ap, ◌∙◌, subst, inl, inr}
use Rattle.std.specs.Prelude.{Bool, true, false, not, cond, Option, Some, None, ◌⊎◌}
use Rattle.lf.specs.Syntax.{constant, variable, metavariable, Term, Spine, lambda, root, nil, app, LfType, Kind, pi, atom, kind_pi, star, Skeleton, base, arrow, skeleton, lift_renaming, rename}
use Rattle.lf.specs.Substitution.{Image, keep, put, rename_image, lift, single, apply_image, substitute, substitute_spine, substitute_type, reduce}
use Rattle.lf.specs.SkeletonTyping.{SkeletonAt, TermSkeleton, ImageSkeleton, SubstitutionBySkeletons}
use Rattle.lf.specs.Skeletons.{constant_skeletons, context_skeletons}
use Rattle.lf.specs.Eta.{eta_long, lambdas}
use Rattle.lf.specs.Typing.{Signature, instantiate_type, instantiate_kind, HasType, SpineType, SpineFitsKind, IsType, IsKind, IsContext, IsSignature}
use Rattle.lf.specs.Variables.{under, hide, Uses, same_number, at_variable, target_arguments, UsesSpine}
use Rattle.lf.proofs.Agreement.{agree_on, uses_within}
use Rattle.lf.proofs.Checker.{number_is, number_itself, both_of}
use Rattle.lf.proofs.Eta.{reduce_nil, substitute_eta_expand}
use Rattle.lf.proofs.EtaTypes.{SameForm, eta_spine, eta_at_type}
use Rattle.lf.proofs.Regular.{substitution_keeps_kinds}
use Rattle.lf.proofs.Renaming.{renamings_compose, reduction_beta}
use Rattle.lf.proofs.SkeletonTyping.{renaming_keeps_skeletons, lift_by_skeletons}
use Rattle.lf.proofs.Substitution.{instance_is_type, constant_type, skeleton_context_of, single_substitution_typed, family_kind}
use Rattle.lf.proofs.ToSkeletons.{variable_has_skeleton, type_by_skeletons}
use Rattle.lf.proofs.TypeLaws.{skeleton_substituted, substitution_as_renaming}
use Rattle.lf.proofs.Uses.{uses_renamed}
use Rattle.lf.proofs.Weakening.{declared_is_type}
use Rattle.lf_checks.specs.ModeForms.{argument_count}
use Rattle.lf_checks.specs.Strict.{head_variable, is_bound, pattern_arguments, with_seen, strict, strict_spine, strict_at, strict_goal}
use Rattle.lf_checks.specs.Tests.{both, either, is_in}
use Rattle.lf_checks.proofs.Determined.{KeptSame, KeptAlike, Apart, same_lift, alike_lift, apart_lift}
use Rattle.lf_checks.proofs.EtaTest.{both_l, both_r}
use Rattle.lf_checks.proofs.StrictTypes.{either_cases}
use Rattle.lf_cases.specs.Case.{covered_places}
use Rattle.lf_coverage.specs.TermMatching.{bound}
use Rattle.lf_coverage.specs.Matching.{has_only, spine_has_only, without, argument_variables, over_lambdas, read_off, arguments_of, found, found_spine, found_at, found_goal, ArePlaces}
use Rattle.lf_coverage.proofs.Choices.{either_second, decided, second_of}
use Rattle.lf_coverage.proofs.EtaArguments.{bound_argument, argument_renames, newest_at}

-- both cases of a test
abbrev pub with_variable : ℕ → (ℕ → Bool) → ℕ → Bool
with_variable y V i = either (same_number i y) (V i)

pub moved_in : (y : ℕ) (V : ℕ → Bool) (N : Term) → Uses (under V) N → Uses (with_variable y V) (rename (at_variable y) N)
moved_in y V N u = uses_renamed (under V) (with_variable y V) (at_variable y) N at u
  where
    at : (i : ℕ) → under V i ≡ true → with_variable y V (at_variable y i) ≡ true
    at zero e = ap (λ b. either b (V y)) (number_itself y)
    at (suc i) e = either_second (same_number i y) (V i) e

-- What uses variables of a set only passes the test.
mutual
  only_true : (U : ℕ → Bool) (M : Term) → Uses U M → has_only U M ≡ true
  only_true U (lambda M) u = only_true (under U) M u
  only_true U (root (constant c) S) u = spine_only_true U S u
  only_true U (root (metavariable m) S) u = spine_only_true U S u
  only_true U (root (variable i) S) u = both_of (U i) (spine_has_only U S) u.0 (spine_only_true U S u.1)

  spine_only_true : (U : ℕ → Bool) (S : Spine) → UsesSpine U S → spine_has_only U S ≡ true
  spine_only_true U nil u = refl
  spine_only_true U (app M S) u = both_of (has_only U M) (spine_has_only U S) (only_true U M u.0) (spine_only_true U S u.1)

-- variables that were seen stay among the arguments
seen_stay : (S : Spine) (ys : List ℕ) (i : ℕ) → is_in i ys ≡ true → is_in i (argument_variables ys S) ≡ true
seen_stay nil ys i e = e
seen_stay (app M S) ys i e = seen_stay S (with_seen (head_variable zero M) ys) i (more (head_variable zero M))
  where
    more : (o : Option ℕ) → is_in i (with_seen o ys) ≡ true
    more None = e
    more (Some y) = either_second (same_number i y) (is_in i ys) e

-- n variables are bound, those of B
abbrev pub Binds : ℕ → (ℕ → Bool) → Type 0
Binds n B = (i : ℕ) → bound n i ≡ true → B i ≡ true

pub binds_under : (n : ℕ) (B : ℕ → Bool) → Binds n B → Binds (suc n) (under B)
binds_under n B h zero e = refl
binds_under n B h (suc i) e = h i e

-- one more lambda, in place of the variable y
last_lambda : (y : ℕ) (ys : List ℕ) (n : ℕ) (V : ℕ → Bool) (N : Term) → (V y ≡ true → ⊥) → Uses (under V) N → rename (over_lambdas (y ∷ ys) n) (rename (at_variable y) N) ≡ rename (lift_renaming (over_lambdas ys n)) N
last_lambda y ys n V N free u =
    renamings_compose (over_lambdas (y ∷ ys) n) (at_variable y) N
    ∙ sym (substitution_as_renaming reduce (λ i. over_lambdas (y ∷ ys) n (at_variable y i)) N)
    ∙ agree_on reduce (under V) (λ i. keep (over_lambdas (y ∷ ys) n (at_variable y i))) (λ i. keep (lift_renaming (over_lambdas ys n) i)) N same u
    ∙ substitution_as_renaming reduce (lift_renaming (over_lambdas ys n)) N
  where
    same : (i : ℕ) → under V i ≡ true → keep (over_lambdas (y ∷ ys) n (at_variable y i)) ≡ keep (lift_renaming (over_lambdas ys n) i)
    same zero e = ap (λ b. keep (cond b zero (suc (over_lambdas ys n y)))) (number_itself y)
    same (suc i) e = decided (same_number i y) (λ q. absurd (free (subst (λ j. V j ≡ true) (number_is i y q) e))) (λ q. ap (λ b. keep (cond b zero (suc (over_lambdas ys n i)))) q)

module _ (Σ : Signature) (ok : IsSignature Σ) where
  -- what a body applied to distinct bound variables that it doesn't use is, under lambdas over these, is the body
  read_back : (B V : ℕ → Bool) (n : ℕ) (C : List LfType) (Δ : List Skeleton) (τ : ℕ → Image) (seen : List ℕ) (S : Spine) (A Z : LfType) (a : Skeleton) (N : Term) → IsContext Σ C → IsType Σ C A → SubstitutionBySkeletons (constant_skeletons Σ) (context_skeletons C) Δ τ → KeptSame B τ τ → SpineType Σ C S A Z → pattern_arguments B seen S ≡ true → skeleton A ≡ a → TermSkeleton (constant_skeletons Σ) Δ N a → Uses V N → ((i : ℕ) → V i ≡ true → B i ≡ true → is_in i seen ≡ false → ⊥) → (lambdas (argument_count S) (rename (over_lambdas (argument_variables seen S) n) (reduce a N (substitute_spine reduce τ S))) ≡ rename (over_lambdas seen n) N) × ((W : ℕ → Bool) → ((i : ℕ) → V i ≡ true → W i ≡ true) → ((i : ℕ) → is_in i (argument_variables seen S) ≡ true → W i ≡ true) → Uses W (reduce a N (substitute_spine reduce τ S)))
  read_back B V n C Δ τ seen nil A Z a N c t w kb s e q m u p = (ap (rename (over_lambdas seen n)) (reduce_nil a N), λ W h k. subst (Uses W) (sym (reduce_nil a N)) (uses_within V W N h u))
  read_back B V n C Δ τ seen (app M S) (atom d T) Z a N c t w kb s e q m u p = absurd s
  read_back B V n C Δ τ seen (app M S) (pi A1 A2) Z (base d) N c t w kb s e q m u p = absurd cc
  read_back B V n C Δ τ seen (app M S) (pi A1 A2) Z (arrow s1 s2) (root h T) c t w kb s e q m u p = absurd m
  read_back B V n C Δ τ seen (app M S) (pi A1 A2) Z (arrow s1 s2) (lambda N) c (t1, t2) w kb (r, s) e q m u p =
      let o : Option ℕ = head_variable zero M in
      let (y, b, oe, by, ns, me) = bound_argument B seen M o (both_l (is_bound B seen M o) (pattern_arguments B (with_seen o seen) S) e) in
      let ks = (kb y by).0 in
      let r' : HasType Σ C (eta_long b (variable y)) A1 = subst (λ X. HasType Σ C X A1) me r in
      let (Y, g) = eta_at_type Σ ok b C y nil A1 r' in
      let (f, yw) = eta_spine Σ ok b C y nil Y A1 c g t1 r' in
      let q1 : skeleton A1 ≡ s1 = cc in
      let q2 : skeleton A2 ≡ s2 = cc in
      let sy : SkeletonAt Δ y s1 = subst (λ x. ImageSkeleton (constant_skeletons Σ) Δ x s1) ks (w y s1 (subst (SkeletonAt (context_skeletons C) y) (ap skeleton yw ∙ q1) (variable_has_skeleton C y Y g))) in
      let es : substitute reduce τ M ≡ eta_long b (variable y) = ap (substitute reduce τ) me ∙ substitute_eta_expand τ b (variable y) (variable y) nil ks in
      let ev : reduce (arrow s1 s2) (lambda N) (app (substitute reduce τ M) (substitute_spine reduce τ S)) ≡ reduce s2 (rename (at_variable y) N) (substitute_spine reduce τ S) = reduction_beta s1 s2 N (substitute reduce τ M) (substitute_spine reduce τ S) ∙ ap (λ X. reduce s2 (substitute reduce (single s1 X) N) (substitute_spine reduce τ S)) es ∙ ap (λ X. reduce s2 X (substitute_spine reduce τ S)) (argument_renames Δ s1 b y sy (subst (SameForm b) q1 f) (constant_skeletons Σ) N s2 m) in
      let m' : TermSkeleton (constant_skeletons Σ) Δ (rename (at_variable y) N) s2 = renaming_keeps_skeletons (constant_skeletons Σ) (s1 ∷ Δ) Δ (at_variable y) N s2 (newest_at Δ y s1 sy) m in
      let ih = read_back B (with_variable y V) n C Δ τ (with_seen o seen) S (instantiate_type A1 M A2) Z s2 (rename (at_variable y) N) c (instance_is_type Σ ok C A1 M A2 c t1 t2 r) w kb s (both_r (is_bound B seen M o) (pattern_arguments B (with_seen o seen) S) e) (skeleton_substituted reduce (single (skeleton A1) M) A2 ∙ q2) m' (moved_in y V N u) (λ i v b h. later p y i v b (subst (λ z. is_in i (with_seen z seen) ≡ false) oe h)) in (
        ap lambda (
            ap (λ X. lambdas (argument_count S) (rename (over_lambdas (argument_variables (with_seen o seen) S) n) X)) ev
            ∙ ih.0
            ∙ ap (λ z. rename (over_lambdas (with_seen z seen) n) (rename (at_variable y) N)) oe
            ∙ last_lambda y seen n V N (λ v. p y v by ns) u
            ),
        λ W h k. subst (Uses W) (sym ev) (ih.1 W (λ i z. among y W h (k y (seen_stay S (with_seen o seen) y (subst (λ x. is_in y (with_seen x seen) ≡ true) (sym oe) (ap (λ b. either b (is_in y seen)) (number_itself y))))) i (either_cases (same_number i y) (V i) z)) k),
      )
    where
      among : (y : ℕ) (W : ℕ → Bool) → ((i : ℕ) → V i ≡ true → W i ≡ true) → W y ≡ true → (i : ℕ) → (same_number i y ≡ true) ⊎ (V i ≡ true) → W i ≡ true
      among y W h k i (inl e) = subst (λ j. W j ≡ true) (sym (number_is i y e)) k
      among y W h k i (inr v) = h i v

      split : (b v s : Bool) → either b v ≡ true → either b s ≡ false → (v ≡ true) × (s ≡ false)
      split true v s e f = absurd cc
      split false v s e f = (e, f)

      later : ((i : ℕ) → V i ≡ true → B i ≡ true → is_in i seen ≡ false → ⊥) → (y i : ℕ) → with_variable y V i ≡ true → B i ≡ true → is_in i (y ∷ seen) ≡ false → ⊥
      later p y i v b h = let (v', h') = split (same_number i y) (V i) (is_in i seen) v h in p i v' b h'

  pub one : (Γ : List Skeleton) (i : ℕ) (s t : Skeleton) → SkeletonAt Γ i s → SkeletonAt Γ i t → s ≡ t
  one [] i s t g h = absurd g
  one (r ∷ Γ) zero s t g h = sym g ∙ h
  one (r ∷ Γ) (suc i) s t g h = one Γ i s t g h

  moved_out : (n : ℕ) (N : Term) (o : Option Term) → o ≡ Some (rename (without (suc n)) (rename suc N)) → o ≡ Some (rename (without n) N)
  moved_out n N o e = e ∙ ap Some (renamings_compose (without (suc n)) suc N)

  mutual
    -- The lemma
    pub strict_read : (B F V : ℕ → Bool) (n : ℕ) (C : List LfType) (Δ : List Skeleton) (τ : ℕ → Image) (x : ℕ) (a : Skeleton) (N : Term) (Q : Term) (P : LfType) → IsContext Σ C → IsType Σ C P → SubstitutionBySkeletons (constant_skeletons Σ) (context_skeletons C) Δ τ → KeptSame B τ τ → KeptAlike F τ τ → Apart V B → Binds n B → τ x ≡ put a N → Uses V N → SkeletonAt (context_skeletons C) x a → HasType Σ C Q P → strict B F x Q ≡ true → found B F n x Q (substitute reduce τ Q) ≡ Some (rename (without n) N)
    strict_read B F V n C Δ τ x a N (lambda Q) (pi A1 P) c (t1, t2) w kb kf p bd q u g m e = moved_out n N (found (under B) (hide F) (suc n) (suc x) Q (substitute reduce (lift τ) Q)) (strict_read (under B) (hide F) (hide V) (suc n) (A1 ∷ C) (skeleton A1 ∷ Δ) (lift τ) (suc x) a (rename suc N) Q P (c, t1) t2 (lift_by_skeletons (constant_skeletons Σ) (skeleton A1) (context_skeletons C) Δ τ w) (same_lift B τ τ kb) (alike_lift F τ τ kf) (apart_lift V B p) (binds_under n B bd) (ap (rename_image suc) q) (uses_renamed V (hide V) suc N (λ i v. v) u) g m e)
    strict_read B F V n C Δ τ x a N (lambda Q) (atom d T) c t w kb kf p bd q u g m e = absurd m
    strict_read B F V n C Δ τ x a N (root h S) (pi A1 P) c t w kb kf p bd q u g m e = absurd m
    strict_read B F V n C Δ τ x a N (root (constant d) S) (atom b T) c t w kb kf p bd q u g (A, k, s) e = strict_read_spine B F V n C Δ τ x a N S A (atom b T) c (constant_type Σ ok C d A k) w kb kf p bd q u g s e
    strict_read B F V n C Δ τ x a N (root (metavariable d) S) (atom b T) c t w kb kf p bd q u g (A, k, s) e = absurd k
    strict_read B F V n C Δ τ x a N (root (variable j) S) (atom b T) c t w kb kf p bd q u g (A, k, s) e = decided (both (same_number j x) (pattern_arguments B [] S)) here (inside (λ f. strict_read_spine B F V n C Δ τ x a N S A (atom b T) c (declared_is_type Σ ok C j A c k) w kb kf p bd q u g s f))
      where
        M : Term
        M = apply_image reduce (τ j) (substitute_spine reduce τ S)

        kept_at : (B j ≡ true) ⊎ (F j ≡ true) → (i : ℕ) × (τ j ≡ keep i)
        kept_at (inl z) = (j, (kb j z).0)
        kept_at (inr z) = let (i, h, _) = kf j z in (i, h)

        typed : TermSkeleton (constant_skeletons Σ) Δ N a
        typed = (subst (λ y. ImageSkeleton (constant_skeletons Σ) Δ y a) q (w x a g)).1

        here : both (same_number j x) (pattern_arguments B [] S) ≡ true → cond (both (same_number j x) (pattern_arguments B [] S)) (read_off n S M) (found_spine B F n x S (arguments_of M)) ≡ Some (rename (without n) N)
        here z =
            let jx : j ≡ x = number_is j x (both_l (same_number j x) (pattern_arguments B [] S) z) in
            let sa : skeleton A ≡ a = one (context_skeletons C) x (skeleton A) a (subst (λ i. SkeletonAt (context_skeletons C) i (skeleton A)) jx (variable_has_skeleton C j A k)) g in
            let back = read_back B V n C Δ τ [] S A (atom b T) a N c (declared_is_type Σ ok C j A c k) w kb s (both_r (same_number j x) (pattern_arguments B [] S) z) sa typed u (λ i v h y. p i v h) in
            let l : M ≡ reduce a N (substitute_spine reduce τ S) = ap (λ y. apply_image reduce y (substitute_spine reduce τ S)) (ap τ jx ∙ q) in
            ap (λ b. cond b (read_off n S M) (found_spine B F n x S (arguments_of M))) z
            ∙ ap (read_off n S) l
            ∙ ap (λ b. cond b (Some (lambdas (argument_count S) (rename (over_lambdas (argument_variables [] S) n) (reduce a N (substitute_spine reduce τ S))))) None) (only_true (λ i. either (is_in i (argument_variables [] S)) (not (bound n i))) (reduce a N (substitute_spine reduce τ S)) (back.1 (λ i. either (is_in i (argument_variables [] S)) (not (bound n i))) (λ i v. either_second (is_in i (argument_variables [] S)) (not (bound n i)) (decided (bound n i) (λ f. absurd (p i v (bd i f))) (λ f. ap not f))) (λ i y. ap (λ b. either b (not (bound n i))) y)))
            ∙ ap Some back.0

        inside : (strict_spine B F x S ≡ true → found_spine B F n x S (substitute_spine reduce τ S) ≡ Some (rename (without n) N)) → both (same_number j x) (pattern_arguments B [] S) ≡ false → cond (both (same_number j x) (pattern_arguments B [] S)) (read_off n S M) (found_spine B F n x S (arguments_of M)) ≡ Some (rename (without n) N)
        inside next z =
            let r : both (either (B j) (F j)) (strict_spine B F x S) ≡ true = second_of (both (same_number j x) (pattern_arguments B [] S)) (both (either (B j) (F j)) (strict_spine B F x S)) e z in
            let (i, h) = kept_at (either_cases (B j) (F j) (both_l (either (B j) (F j)) (strict_spine B F x S) r)) in
            ap (λ b. cond b (read_off n S M) (found_spine B F n x S (arguments_of M))) z
            ∙ ap (λ y. found_spine B F n x S (arguments_of (apply_image reduce y (substitute_spine reduce τ S)))) h
            ∙ next (both_r (either (B j) (F j)) (strict_spine B F x S) r)

    pub strict_read_spine : (B F V : ℕ → Bool) (n : ℕ) (C : List LfType) (Δ : List Skeleton) (τ : ℕ → Image) (x : ℕ) (a : Skeleton) (N : Term) (S : Spine) (A Z : LfType) → IsContext Σ C → IsType Σ C A → SubstitutionBySkeletons (constant_skeletons Σ) (context_skeletons C) Δ τ → KeptSame B τ τ → KeptAlike F τ τ → Apart V B → Binds n B → τ x ≡ put a N → Uses V N → SkeletonAt (context_skeletons C) x a → SpineType Σ C S A Z → strict_spine B F x S ≡ true → found_spine B F n x S (substitute_spine reduce τ S) ≡ Some (rename (without n) N)
    strict_read_spine B F V n C Δ τ x a N nil A Z c t w kb kf p bd q u g s e = absurd cc
    strict_read_spine B F V n C Δ τ x a N (app M S) (atom b T) Z c t w kb kf p bd q u g s e = absurd s
    strict_read_spine B F V n C Δ τ x a N (app M S) (pi A1 A2) Z c (t1, t2) w kb kf p bd q u g (m, s) e = decided (strict B F x M) (λ z. ap (λ b. cond b (found B F n x M (substitute reduce τ M)) (found_spine B F n x S (substitute_spine reduce τ S))) z ∙ strict_read B F V n C Δ τ x a N M A1 c t1 w kb kf p bd q u g m z) (λ z. ap (λ b. cond b (found B F n x M (substitute reduce τ M)) (found_spine B F n x S (substitute_spine reduce τ S))) z ∙ strict_read_spine B F V n C Δ τ x a N S (instantiate_type A1 M A2) Z c (instance_is_type Σ ok C A1 M A2 c t1 t2 m) w kb kf p bd q u g s (second_of (strict B F x M) (strict_spine B F x S) e z))

  -- at the covered places of a family's arguments
  places_read : (B F V : ℕ → Bool) (n : ℕ) (C : List LfType) (Δ : List Skeleton) (τ : ℕ → Image) (x : ℕ) (a : Skeleton) (N : Term) (S : Spine) (K : Kind) (Ms : List (Option Term)) → IsContext Σ C → IsKind Σ C K → SubstitutionBySkeletons (constant_skeletons Σ) (context_skeletons C) Δ τ → KeptSame B τ τ → KeptAlike F τ τ → Apart V B → Binds n B → τ x ≡ put a N → Uses V N → SkeletonAt (context_skeletons C) x a → SpineFitsKind Σ C S K → strict_at (covered_places Ms) B F x S ≡ true → ArePlaces Ms (substitute_spine reduce τ S) → found_at B F n x S Ms ≡ Some (rename (without n) N)
  places_read B F V n C Δ τ x a N nil K [] c t w kb kf p bd q u g s e h = absurd cc
  places_read B F V n C Δ τ x a N nil K (Some M ∷ Ms) c t w kb kf p bd q u g s e h = absurd h
  places_read B F V n C Δ τ x a N nil K (None ∷ Ms) c t w kb kf p bd q u g s e h = absurd h
  places_read B F V n C Δ τ x a N (app Q S) K [] c t w kb kf p bd q u g s e h = absurd h
  places_read B F V n C Δ τ x a N (app Q S) star (M ∷ Ms) c t w kb kf p bd q u g s e h = absurd s
  places_read B F V n C Δ τ x a N (app Q S) (kind_pi A K) (None ∷ Ms) c (t1, t2) w kb kf p bd q u g (r, s) e h = places_read B F V n C Δ τ x a N S (instantiate_kind A Q K) Ms c (substitution_keeps_kinds Σ ok (A ∷ C) C (single (skeleton A) Q) K (single_substitution_typed Σ ok C A Q (skeleton_context_of Σ ok C c) (type_by_skeletons Σ C A t1) r) t2) w kb kf p bd q u g s e h
  places_read B F V n C Δ τ x a N (app Q S) (kind_pi A K) (Some M ∷ Ms) c (t1, t2) w kb kf p bd q u g (r, s) e (i, h) = decided (strict B F x Q) (λ z. ap (λ b. cond b (found B F n x Q M) (found_at B F n x S Ms)) z ∙ ap (found B F n x Q) i ∙ strict_read B F V n C Δ τ x a N Q A c t1 w kb kf p bd q u g r z) (λ z. ap (λ b. cond b (found B F n x Q M) (found_at B F n x S Ms)) z ∙ places_read B F V n C Δ τ x a N S (instantiate_kind A Q K) Ms c (substitution_keeps_kinds Σ ok (A ∷ C) C (single (skeleton A) Q) K (single_substitution_typed Σ ok C A Q (skeleton_context_of Σ ok C c) (type_by_skeletons Σ C A t1) r) t2) w kb kf p bd q u g s (second_of (strict B F x Q) (strict_at (covered_places Ms) B F x S) e z) h)

  -- and of a type
  pub goal_read : (B F V : ℕ → Bool) (n : ℕ) (C : List LfType) (Δ : List Skeleton) (τ : ℕ → Image) (x : ℕ) (a : Skeleton) (N : Term) (A : LfType) (Ms : List (Option Term)) → IsContext Σ C → IsType Σ C A → SubstitutionBySkeletons (constant_skeletons Σ) (context_skeletons C) Δ τ → KeptSame B τ τ → KeptAlike F τ τ → Apart V B → Binds n B → τ x ≡ put a N → Uses V N → SkeletonAt (context_skeletons C) x a → strict_goal (covered_places Ms) B F x A ≡ true → ArePlaces Ms (target_arguments (substitute_type reduce τ A)) → found_goal B F n x A Ms ≡ Some (rename (without n) N)
  goal_read B F V n C Δ τ x a N (pi A1 A) Ms c (t1, t2) w kb kf p bd q u g e h = moved_out n N (found_goal (under B) (hide F) (suc n) (suc x) A Ms) (goal_read (under B) (hide F) (hide V) (suc n) (A1 ∷ C) (skeleton A1 ∷ Δ) (lift τ) (suc x) a (rename suc N) A Ms (c, t1) t2 (lift_by_skeletons (constant_skeletons Σ) (skeleton A1) (context_skeletons C) Δ τ w) (same_lift B τ τ kb) (alike_lift F τ τ kf) (apart_lift V B p) (binds_under n B bd) (ap (rename_image suc) q) (uses_renamed V (hide V) suc N (λ i v. v) u) g e h)
  goal_read B F V n C Δ τ x a N (atom b S) Ms c (K, k, s) w kb kf p bd q u g e h = places_read B F V n C Δ τ x a N S K Ms c (family_kind Σ ok C b K k) w kb kf p bd q u g s e h
