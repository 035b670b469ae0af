-- What is read off a term has the skeleton of the variable that it is read off for.
use Rattle.std.proofs.Common.{◌≡◌, ℕ, zero, suc, List, [], ◌∷◌, refl, sym, ap, ◌∙◌, subst, inl, inr}
use Rattle.std.specs.Prelude.{Bool, true, false, cond, Option, Some, None, ◌⊎◌, not}
use Rattle.lf.specs.Syntax.{constant, variable, metavariable, Term, Spine, lambda, root, nil, app, LfType, Kind, pi, atom, kind_pi, star, Skeleton, base, arrow, skeleton, kind_skeleton, lift_renaming, rename, rename_spine}
use Rattle.lf.specs.AtOnce.{in_front}
use Rattle.lf.specs.Substitution.{Image, put, lift, single, apply_image, substitute, substitute_spine, substitute_type, reduce}
use Rattle.lf.specs.SkeletonTyping.{SkeletonAt, TermSkeleton, SpineSkeleton}
use Rattle.lf.specs.Skeletons.{constant_skeletons, context_skeletons, type_skeleton}
use Rattle.lf.specs.Eta.{eta_long, lambdas}
use Rattle.lf.specs.Typing.{Signature, TypeAt, instantiate_type, instantiate_kind, HasType, SpineType, SpineFitsKind, IsType, IsKind, IsContext, IsSignature}
use Rattle.lf.specs.Variables.{under, hide, nothing, Uses, UsesSpine, same_number}
use Rattle.lf.proofs.Checker.{number_is}
use Rattle.lf.proofs.EtaTypes.{eta_spine, eta_at_type}
use Rattle.lf.proofs.Regular.{substitution_keeps_kinds}
use Rattle.lf.proofs.Substitution.{instance_is_type, constant_type, skeleton_context_of, single_substitution_typed}
use Rattle.lf.proofs.ToSkeletons.{kind_skeleton_substituted, typed_has_skeleton, type_by_skeletons, variable_has_skeleton}
use Rattle.lf.proofs.TypeLaws.{skeleton_renamed, skeleton_substituted}
use Rattle.lf.proofs.Weakening.{declared_is_type}
use Rattle.lf_checks.specs.Marks.{TypedPlacesFrom}
use Rattle.lf_checks.specs.ModeForms.{argument_count}
use Rattle.lf_checks.specs.Strict.{head_variable, is_bound, pattern_arguments, with_seen, strict, strict_spine, strict_at}
use Rattle.lf_checks.specs.Tests.{both, either, is_in}
use Rattle.lf_checks.proofs.Determined.{KeptSame, same_lift}
use Rattle.lf_checks.proofs.EtaTest.{both_l, both_r}
use Rattle.lf_checks.proofs.StrictTypes.{either_cases}
use Rattle.lf_cases.specs.Case.{covered_places}
use Rattle.lf_coverage.specs.TermMatching.{bound}
use Rattle.lf_coverage.specs.Matching.{has_only, spine_has_only, without, argument_variables, over_lambdas, read_off, arguments_of, found, found_spine, found_at, ArePlaces}
use Rattle.lf_coverage.proofs.ReadOff.{one}
use Rattle.lf_coverage.proofs.Choices.{second_of, decided}
use Rattle.lf_coverage.proofs.Parts.{some_same, second_same, first_same, no_arrow}
use Rattle.lf_coverage.proofs.EtaArguments.{bound_argument}

-- what passes the test uses variables of the set only
mutual
  only_uses : (U : ℕ → Bool) (M : Term) → has_only U M ≡ true → Uses U M
  only_uses U (lambda M) e = only_uses (under U) M e
  only_uses U (root (constant c) S) e = spine_only_uses U S e
  only_uses U (root (metavariable m) S) e = spine_only_uses U S e
  only_uses U (root (variable i) S) e = (both_l (U i) (spine_has_only U S) e, spine_only_uses U S (both_r (U i) (spine_has_only U S) e))

  spine_only_uses : (U : ℕ → Bool) (S : Spine) → spine_has_only U S ≡ true → UsesSpine U S
  spine_only_uses U nil e = tt
  spine_only_uses U (app M S) e = (only_uses U M (both_l (has_only U M) (spine_has_only U S) e), spine_only_uses U S (both_r (has_only U M) (spine_has_only U S) e))

-- ρ takes the variables of U to variables of the same skeletons
abbrev RenamesOn : (ℕ → Bool) → List Skeleton → List Skeleton → (ℕ → ℕ) → Type 0
RenamesOn U Γ Δ ρ = (i : ℕ) (s : Skeleton) → U i ≡ true → SkeletonAt Γ i s → SkeletonAt Δ (ρ i) s

renames_under : (U : ℕ → Bool) (Γ Δ : List Skeleton) (ρ : ℕ → ℕ) (a : Skeleton) → RenamesOn U Γ Δ ρ → RenamesOn (under U) (a ∷ Γ) (a ∷ Δ) (lift_renaming ρ)
renames_under U Γ Δ ρ a h zero s u g = g
renames_under U Γ Δ ρ a h (suc i) s u g = h i s u g

-- what stands at the case's side: bound variables have the skeletons that they have in the pattern, and the others those outside the binders
abbrev pub BoundLined : ℕ → List LfType → List Skeleton → Type 0
BoundLined n C Δ = (i : ℕ) (s : Skeleton) (A : LfType) → bound n i ≡ true → SkeletonAt Δ i s → TypeAt C i A → skeleton A ≡ s

abbrev pub OuterLined : ℕ → List Skeleton → List Skeleton → Type 0
OuterLined n Δ Ω = (i : ℕ) (s : Skeleton) → not (bound n i) ≡ true → SkeletonAt Δ i s → SkeletonAt Ω (without n i) s

abbrev pub BoundIn : ℕ → (ℕ → Bool) → Type 0
BoundIn n B = (i : ℕ) → B i ≡ true → bound n i ≡ true

pub bound_lined_under : (n : ℕ) (C : List LfType) (Δ : List Skeleton) (A : LfType) → BoundLined n C Δ → BoundLined (suc n) (A ∷ C) (skeleton A ∷ Δ)
bound_lined_under n C Δ A h zero s X o g e = ap skeleton e ∙ skeleton_renamed suc A ∙ g
bound_lined_under n C Δ A h (suc i) s X o g (Y, k, e) = ap skeleton e ∙ skeleton_renamed suc Y ∙ h i s Y o g k

pub outer_lined_under : (n : ℕ) (Δ Ω : List Skeleton) (a : Skeleton) → OuterLined n Δ Ω → OuterLined (suc n) (a ∷ Δ) Ω
outer_lined_under n Δ Ω a h zero s o g = absurd cc
outer_lined_under n Δ Ω a h (suc i) s o g = h i s o g

pub bound_in_under : (n : ℕ) (B : ℕ → Bool) → BoundIn n B → BoundIn (suc n) (under B)
bound_in_under n B h zero e = refl
bound_in_under n B h (suc i) e = h i e

pub none_under : (F : ℕ → Bool) → ((i : ℕ) → F i ≡ true → ⊥) → (i : ℕ) → hide F i ≡ true → ⊥
none_under F h zero e = absurd cc
none_under F h (suc i) e = h i e

-- under the lambdas over the variables ys
abbrev Placed : ℕ → List ℕ → List Skeleton → List Skeleton → Type 0
Placed n ys Δ Ψ = (i : ℕ) (s : Skeleton) → either (is_in i ys) (not (bound n i)) ≡ true → SkeletonAt Δ i s → SkeletonAt Ψ (over_lambdas ys n i) s

placed_next : (n : ℕ) (ys : List ℕ) (Δ Ψ : List Skeleton) (y : ℕ) (a : Skeleton) → ((s : Skeleton) → SkeletonAt Δ y s → a ≡ s) → Placed n ys Δ Ψ → Placed n (y ∷ ys) Δ (a ∷ Ψ)
placed_next n ys Δ Ψ y a k h i s u g =
    decided (same_number i y)
    (λ q. subst (λ b. SkeletonAt (a ∷ Ψ) (cond b zero (suc (over_lambdas ys n i))) s) (sym q) (k s (subst (λ j. SkeletonAt Δ j s) (number_is i y q) g)))
    (λ q. subst (λ b. SkeletonAt (a ∷ Ψ) (cond b zero (suc (over_lambdas ys n i))) s) (sym q) (h i s (subst (λ b. either (either b (is_in i ys)) (not (bound n i)) ≡ true) q u) g))

module _ (Σ : Signature) (ok : IsSignature Σ) where
  mutual
    renamed_on : (U : ℕ → Bool) (Γ Δ : List Skeleton) (ρ : ℕ → ℕ) (M : Term) (t : Skeleton) → RenamesOn U Γ Δ ρ → Uses U M → TermSkeleton (constant_skeletons Σ) Γ M t → TermSkeleton (constant_skeletons Σ) Δ (rename ρ M) t
    renamed_on U Γ Δ ρ (lambda M) (arrow a b) h u m = renamed_on (under U) (a ∷ Γ) (a ∷ Δ) (lift_renaming ρ) M b (renames_under U Γ Δ ρ a h) u m
    renamed_on U Γ Δ ρ (lambda M) (base c) h u m = m
    renamed_on U Γ Δ ρ (root k S) (arrow a b) h u m = m
    renamed_on U Γ Δ ρ (root (constant c) S) (base d) h u (t, g, s) = (t, g, spine_renamed_on U Γ Δ ρ S t (base d) h u s)
    renamed_on U Γ Δ ρ (root (metavariable c) S) (base d) h u (t, g, s) = (t, g, spine_renamed_on U Γ Δ ρ S t (base d) h u s)
    renamed_on U Γ Δ ρ (root (variable i) S) (base d) h u (t, g, s) = (t, h i t u.0 g, spine_renamed_on U Γ Δ ρ S t (base d) h u.1 s)

    spine_renamed_on : (U : ℕ → Bool) (Γ Δ : List Skeleton) (ρ : ℕ → ℕ) (S : Spine) (t v : Skeleton) → RenamesOn U Γ Δ ρ → UsesSpine U S → SpineSkeleton (constant_skeletons Σ) Γ S t v → SpineSkeleton (constant_skeletons Σ) Δ (rename_spine ρ S) t v
    spine_renamed_on U Γ Δ ρ nil t v h u s = s
    spine_renamed_on U Γ Δ ρ (app M S) (arrow a b) v h u (m, s) = (renamed_on U Γ Δ ρ M a h u.0 m, spine_renamed_on U Γ Δ ρ S b v h u.1 s)
    spine_renamed_on U Γ Δ ρ (app M S) (base c) v h u s = s

  -- a term under lambdas over the arguments of a spine
  abstracted : (B : ℕ → Bool) (n : ℕ) (C : List LfType) (Δ : List Skeleton) → IsContext Σ C → BoundLined n C Δ → BoundIn n B → (T : Spine) (A Z : LfType) (ys : List ℕ) (Ψ : List Skeleton) (M : Term) → IsType Σ C A → SpineType Σ C T A Z → pattern_arguments B ys T ≡ true → Placed n ys Δ Ψ → Uses (λ i. either (is_in i (argument_variables ys T)) (not (bound n i))) M → TermSkeleton (constant_skeletons Σ) Δ M (skeleton Z) → TermSkeleton (constant_skeletons Σ) Ψ (lambdas (argument_count T) (rename (over_lambdas (argument_variables ys T) n) M)) (skeleton A)
  abstracted B n C Δ c bl bi nil A Z ys Ψ M t s e h u m = subst (λ X. TermSkeleton (constant_skeletons Σ) Ψ (rename (over_lambdas ys n) M) (skeleton X)) (sym s) (renamed_on (λ i. either (is_in i ys) (not (bound n i))) Δ Ψ (over_lambdas ys n) M (skeleton Z) h u m)
  abstracted B n C Δ c bl bi (app Q T) (atom d V) Z ys Ψ M t s e h u m = absurd s
  abstracted B n C Δ c bl bi (app Q T) (pi A1 A2) Z ys Ψ M (t1, t2) (r, s) e h u m =
      let o : Option ℕ = head_variable zero Q in
      let (y, b, oe, by, ns, me) = bound_argument B ys Q o (both_l (is_bound B ys Q o) (pattern_arguments B (with_seen o ys) T) e) in
      let r' : HasType Σ C (eta_long b (variable y)) A1 = subst (λ X. HasType Σ C X A1) me r in
      let (Y, g) = eta_at_type Σ ok b C y nil A1 r' in
      let (f, yw) = eta_spine Σ ok b C y nil Y A1 c g t1 r' in
      let next : Placed n (with_seen (head_variable zero Q) ys) Δ (skeleton A1 ∷ Ψ) = subst (λ z. Placed n (with_seen z ys) Δ (skeleton A1 ∷ Ψ)) (sym oe) (placed_next n ys Δ Ψ y (skeleton A1) (λ s k. bl y s A1 (bi y by) k (subst (TypeAt C y) yw g)) h) in
      subst (TermSkeleton (constant_skeletons Σ) (skeleton A1 ∷ Ψ) (lambdas (argument_count T) (rename (over_lambdas (argument_variables (with_seen o ys) T) n) M))) (skeleton_substituted reduce (single (skeleton A1) Q) A2) (abstracted B n C Δ c bl bi T (instantiate_type A1 Q A2) Z (with_seen o ys) (skeleton A1 ∷ Ψ) M (instance_is_type Σ ok C A1 Q A2 c t1 t2 r) s (both_r (is_bound B ys Q o) (pattern_arguments B (with_seen o ys) T) e) next u m)

  constant_same : (d : ℕ) (A : LfType) (t : Skeleton) → Σ.types d ≡ Some A → type_skeleton (Σ.types d) ≡ Some t → t ≡ skeleton A
  constant_same d A t e f = let q : Some (skeleton A) ≡ Some t = sym (ap type_skeleton e) ∙ f in cc

  mutual
    pub found_skeleton : (B F : ℕ → Bool) (n : ℕ) (C : List LfType) (Δ Ω : List Skeleton) (ν : ℕ → Image) (x : ℕ) (a : Skeleton) (N Q : Term) (P : LfType) → IsContext Σ C → IsType Σ C P → BoundLined n C Δ → OuterLined n Δ Ω → BoundIn n B → KeptSame B ν ν → ((i : ℕ) → F i ≡ true → ⊥) → SkeletonAt (context_skeletons C) x a → HasType Σ C Q P → TermSkeleton (constant_skeletons Σ) Δ (substitute reduce ν Q) (skeleton P) → strict B F x Q ≡ true → found B F n x Q (substitute reduce ν Q) ≡ Some N → TermSkeleton (constant_skeletons Σ) Ω N a
    found_skeleton B F n C Δ Ω ν x a N (lambda Q) (pi A1 P) c (t1, t2) bl ol bi kb nf g q m e f = found_skeleton (under B) (hide F) (suc n) (A1 ∷ C) (skeleton A1 ∷ Δ) Ω (lift ν) (suc x) a N Q P (c, t1) t2 (bound_lined_under n C Δ A1 bl) (outer_lined_under n Δ Ω (skeleton A1) ol) (bound_in_under n B bi) (same_lift B ν ν kb) (none_under F nf) g q m e f
    found_skeleton B F n C Δ Ω ν x a N (lambda Q) (atom d T) c t bl ol bi kb nf g q m e f = absurd q
    found_skeleton B F n C Δ Ω ν x a N (root h S) (pi A1 P) c t bl ol bi kb nf g q m e f = absurd q
    found_skeleton B F n C Δ Ω ν x a N (root (constant d) S) (atom b T) c t bl ol bi kb nf g (A, k, s) (w, v, m) e f = found_spine_skeleton B F n C Δ Ω ν x a N S A (atom b T) c (constant_type Σ ok C d A k) bl ol bi kb nf g s (base b) (subst (λ z. SpineSkeleton (constant_skeletons Σ) Δ (substitute_spine reduce ν S) z (base b)) (constant_same d A w k v) m) e f
    found_skeleton B F n C Δ Ω ν x a N (root (metavariable d) S) (atom b T) c t bl ol bi kb nf g (A, k, s) m e f = absurd k
    found_skeleton B F n C Δ Ω ν x a N (root (variable j) S) (atom b T) c t bl ol bi kb nf g (A, k, s) m e f = decided (both (same_number j x) (pattern_arguments B [] S)) here (inside (λ w v z. found_spine_skeleton B F n C Δ Ω ν x a N S A (atom b T) c (declared_is_type Σ ok C j A c k) bl ol bi kb nf g s (base b) w v z))
      where
        M : Term
        M = apply_image reduce (ν j) (substitute_spine reduce ν S)

        K : ℕ → Bool
        K i = either (is_in i (argument_variables [] S)) (not (bound n i))

        L : Term
        L = lambdas (argument_count S) (rename (over_lambdas (argument_variables [] S) n) M)

        only_some : has_only K M ≡ true → read_off n S M ≡ Some N → L ≡ N
        only_some z r = some_same (sym (ap (λ b. cond b (Some L) None) z) ∙ r)

        never : has_only K M ≡ false → read_off n S M ≡ Some N → ⊥
        never z r = let q : None ≡ Some N = sym (ap (λ b. cond b (Some L) None) z) ∙ r in absurd cc

        here : both (same_number j x) (pattern_arguments B [] S) ≡ true → TermSkeleton (constant_skeletons Σ) Ω N a
        here z =
            let r : read_off n S M ≡ Some N = sym (ap (λ b. cond b (read_off n S M) (found_spine B F n x S (arguments_of M))) z) ∙ f in
            let jx : j ≡ x = number_is j x (both_l (same_number j x) (pattern_arguments B [] S) z) in
            let sa : skeleton A ≡ a = one Σ ok (context_skeletons C) x (skeleton A) a (subst (λ i. SkeletonAt (context_skeletons C) i (skeleton A)) jx (variable_has_skeleton C j A k)) g in
            decided (has_only K M)
            (λ y. subst (λ X. TermSkeleton (constant_skeletons Σ) Ω X a) (only_some y r) (subst (TermSkeleton (constant_skeletons Σ) Ω L) sa (abstracted B n C Δ c bl bi S A (atom b T) [] Ω M (declared_is_type Σ ok C j A c k) s (both_r (same_number j x) (pattern_arguments B [] S) z) (λ i s o g. ol i s o g) (only_uses K M y) m)))
            (λ y. absurd (never y r))

        inside : (SpineSkeleton (constant_skeletons Σ) Δ (substitute_spine reduce ν S) (skeleton A) (base b) → strict_spine B F x S ≡ true → found_spine B F n x S (substitute_spine reduce ν S) ≡ Some N → TermSkeleton (constant_skeletons Σ) Ω N a) → both (same_number j x) (pattern_arguments B [] S) ≡ false → TermSkeleton (constant_skeletons Σ) Ω N a
        inside next z =
            let r : both (either (B j) (F j)) (strict_spine B F x S) ≡ true = second_of (both (same_number j x) (pattern_arguments B [] S)) (both (either (B j) (F j)) (strict_spine B F x S)) e z in
            let i : found_spine B F n x S (arguments_of M) ≡ Some N = sym (ap (λ b. cond b (read_off n S M) (found_spine B F n x S (arguments_of M))) z) ∙ f in
            kept (either_cases (B j) (F j) (both_l (either (B j) (F j)) (strict_spine B F x S) r)) (both_r (either (B j) (F j)) (strict_spine B F x S) r) i
          where
            kept : (B j ≡ true) ⊎ (F j ≡ true) → strict_spine B F x S ≡ true → found_spine B F n x S (arguments_of M) ≡ Some N → TermSkeleton (constant_skeletons Σ) Ω N a
            kept (inl y) r i =
                let h = (kb j y).0 in
                let (w, v, p) = subst (λ z. TermSkeleton (constant_skeletons Σ) Δ (apply_image reduce z (substitute_spine reduce ν S)) (base b)) h m in
                next (subst (λ z. SpineSkeleton (constant_skeletons Σ) Δ (substitute_spine reduce ν S) z (base b)) (sym (bl j w A (bi j y) v k)) p) r (sym (ap (λ z. found_spine B F n x S (arguments_of (apply_image reduce z (substitute_spine reduce ν S)))) h) ∙ i)
            kept (inr y) r i = absurd (nf j y)

    found_spine_skeleton : (B F : ℕ → Bool) (n : ℕ) (C : List LfType) (Δ Ω : List Skeleton) (ν : ℕ → Image) (x : ℕ) (a : Skeleton) (N : Term) (S : Spine) (A Z : LfType) → IsContext Σ C → IsType Σ C A → BoundLined n C Δ → OuterLined n Δ Ω → BoundIn n B → KeptSame B ν ν → ((i : ℕ) → F i ≡ true → ⊥) → SkeletonAt (context_skeletons C) x a → SpineType Σ C S A Z → (u : Skeleton) → SpineSkeleton (constant_skeletons Σ) Δ (substitute_spine reduce ν S) (skeleton A) u → strict_spine B F x S ≡ true → found_spine B F n x S (substitute_spine reduce ν S) ≡ Some N → TermSkeleton (constant_skeletons Σ) Ω N a
    found_spine_skeleton B F n C Δ Ω ν x a N nil A Z c t bl ol bi kb nf g s u m e f = absurd cc
    found_spine_skeleton B F n C Δ Ω ν x a N (app Q S) (atom b T) Z c t bl ol bi kb nf g s u m e f = absurd s
    found_spine_skeleton B F n C Δ Ω ν x a N (app Q S) (pi A1 A2) Z c (t1, t2) bl ol bi kb nf g (q, s) u (m, ms) e f =
        decided (strict B F x Q)
        (λ z. found_skeleton B F n C Δ Ω ν x a N Q A1 c t1 bl ol bi kb nf g q m z (sym (ap (λ b. cond b (found B F n x Q (substitute reduce ν Q)) (found_spine B F n x S (substitute_spine reduce ν S))) z) ∙ f))
        (λ z. found_spine_skeleton B F n C Δ Ω ν x a N S (instantiate_type A1 Q A2) Z c (instance_is_type Σ ok C A1 Q A2 c t1 t2 q) bl ol bi kb nf g s u (subst (λ w. SpineSkeleton (constant_skeletons Σ) Δ (substitute_spine reduce ν S) w u) (sym (skeleton_substituted reduce (single (skeleton A1) Q) A2)) ms) (second_of (strict B F x Q) (strict_spine B F x S) e z) (sym (ap (λ b. cond b (found B F n x Q (substitute reduce ν Q)) (found_spine B F n x S (substitute_spine reduce ν S))) z) ∙ f))

  -- at the covered places, where the case's arguments are typed
  pub found_at_skeleton : (F : ℕ → Bool) (C G : List LfType) (ν θ : ℕ → Image) (x : ℕ) (a : Skeleton) (N : Term) (S : Spine) (L : Kind) (Ms : List (Option Term)) (T : Spine) (K : Kind) → IsContext Σ C → IsKind Σ C L → ((i : ℕ) → F i ≡ true → ⊥) → SkeletonAt (context_skeletons C) x a → SpineFitsKind Σ C S L → kind_skeleton 0 L ≡ kind_skeleton 0 K → TypedPlacesFrom Σ (covered_places Ms) G θ T K → ArePlaces Ms T → ArePlaces Ms (substitute_spine reduce ν S) → strict_at (covered_places Ms) nothing F x S ≡ true → found_at nothing F zero x S Ms ≡ Some N → TermSkeleton (constant_skeletons Σ) (context_skeletons G) N a
  found_at_skeleton F C G ν θ x a N nil L Ms T K c k nf g s ks p h i e f = absurd cc
  found_at_skeleton F C G ν θ x a N (app Q S) L [] T K c k nf g s ks p h i e f = absurd i
  found_at_skeleton F C G ν θ x a N (app Q S) star (M ∷ Ms) T K c k nf g s ks p h i e f = absurd s
  found_at_skeleton F C G ν θ x a N (app Q S) (kind_pi A L) (M ∷ Ms) nil K c k nf g s ks p h i e f = absurd h
  found_at_skeleton F C G ν θ x a N (app Q S) (kind_pi A L) (M ∷ Ms) (app R T) star c k nf g s ks p h i e f = absurd (no_arrow ks)
  found_at_skeleton F C G ν θ x a N (app Q S) (kind_pi A L) (None ∷ Ms) (app R T) (kind_pi A' K) c (t1, t2) nf g (q, s) ks p h i e f = found_at_skeleton F C G ν (in_front (put (skeleton A') R) θ) x a N S (instantiate_kind A Q L) Ms T K c (substitution_keeps_kinds Σ ok (A ∷ C) C (single (skeleton A) Q) L (single_substitution_typed Σ ok C A Q (skeleton_context_of Σ ok C c) (type_by_skeletons Σ C A t1) q) t2) nf g s (kind_skeleton_substituted 0 reduce (single (skeleton A) Q) L ∙ second_same ks) p h i e f
  found_at_skeleton F C G ν θ x a N (app Q S) (kind_pi A L) (Some M ∷ Ms) (app R T) (kind_pi A' K) c (t1, t2) nf g (q, s) ks (r, p) (h, hs) (i, is) e f =
      decided (strict nothing F x Q)
      (λ z. found_skeleton nothing F zero C (context_skeletons G) (context_skeletons G) ν x a N Q A c t1 (λ j s X o g k. absurd cc) (λ j s o g. g) (λ j b. absurd cc) (λ j b. absurd cc) nf g q (subst (λ X. TermSkeleton (constant_skeletons Σ) (context_skeletons G) X (skeleton A)) (sym h ∙ i) (subst (TermSkeleton (constant_skeletons Σ) (context_skeletons G) R) (skeleton_substituted reduce θ A' ∙ sym (first_same ks)) (typed_has_skeleton Σ G R (substitute_type reduce θ A') r))) z (ap (found nothing F zero x Q) (sym i) ∙ sym (ap (λ b. cond b (found nothing F zero x Q M) (found_at nothing F zero x S Ms)) z) ∙ f))
      (λ z. found_at_skeleton F C G ν (in_front (put (skeleton A') R) θ) x a N S (instantiate_kind A Q L) Ms T K c (substitution_keeps_kinds Σ ok (A ∷ C) C (single (skeleton A) Q) L (single_substitution_typed Σ ok C A Q (skeleton_context_of Σ ok C c) (type_by_skeletons Σ C A t1) q) t2) nf g s (kind_skeleton_substituted 0 reduce (single (skeleton A) Q) L ∙ second_same ks) p hs is (second_of (strict nothing F x Q) (strict_at (covered_places Ms) nothing F x S) e z) (sym (ap (λ b. cond b (found nothing F zero x Q M) (found_at nothing F zero x S Ms)) z) ∙ f))
