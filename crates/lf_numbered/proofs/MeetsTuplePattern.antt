-- Values of a clause in a context, written, with fresh variables where none is known, are values of the clause's variables and a case's, over the case.
use Rattle.std.proofs.Common.{◌≡◌, ◌<◌, ℕ, zero, suc, ◌+◌, List, [], ◌∷◌, length, inl, inr, refl, sym, ap, ◌∙◌, subst, arith}
use Rattle.std.specs.Prelude.{Bool, true, false, ◌⊎◌, Option}
use Rattle.lf.specs.Syntax.{Term, Spine, LfType, Skeleton, skeleton, rename, rename_spine, rename_type}
use Rattle.lf.specs.Substitution.{Image, rename_image, substitute_image, substitute_spine, substitute_type, reduce, after}
use Rattle.lf.specs.AtOnce.{shift_by, lift_renaming_by}
use Rattle.lf.specs.SkeletonTyping.{ImageSkeleton, SubstitutionBySkeletons}
use Rattle.lf.specs.Skeletons.{constant_skeletons, context_skeletons, family_skeletons}
use Rattle.lf.specs.Typing.{Signature, TypeAt, ImageHasType, IsTypedSubstitution, IsType, IsContext, IsSignature}
use Rattle.lf.specs.Variables.{target_arguments, onto, binders, Values}
use Rattle.lf.specs.Worlds.{lift_over, instance}
use Rattle.lf.proofs.Decidability.{variable_type_unique}
use Rattle.lf.proofs.Renaming.{reduction_is_natural, rename_substituted_spine}
use Rattle.lf.proofs.SkeletonTypes.{substitutions_compose_type}
use Rattle.lf.proofs.Substitution.{TypedSubstitution, skeleton_context_of, substitution_keeps_types, typed_substitution_by_skeletons}
use Rattle.lf.proofs.ToSkeletons.{type_by_skeletons, skeleton_has_variable, variable_has_skeleton}
use Rattle.lf.proofs.TypeLaws.{skeleton_renamed, skeleton_substituted, substitute_renamed_type}
use Rattle.lf.proofs.Weakening.{declared_is_type}
use Rattle.lf_checks.specs.Ground.{UsesGoal}
use Rattle.lf_checks.specs.Marks.{SamePlaces}
use Rattle.lf_checks.specs.Tests.{either}
use Rattle.lf_cases.specs.Case.{as_term, HasArguments}
use Rattle.lf_cases.proofs.OutputItems.{length_instance, lift_over_far}
use Rattle.lf_coverage.proofs.Forms.{lift_over_near, local_type, local_has_type}
use Rattle.lf_coverage.proofs.FreshValues.{Longer, longer, arguments_moved, goal_moved, lift_over_moved, values_moved}
use Rattle.lf_coverage.proofs.ItemsContext.{instance_context, outer_context}
use Rattle.lf_coverage.proofs.Meeting.{joined, joined_far, which_type}
use Rattle.lf_coverage.proofs.NearOrFar.{near_or_far}
use Rattle.lf_coverage.proofs.InstanceOfItself.{moved_term}
use Rattle.lf_numbered.proofs.MeetsInstanceOutside.{image_put}
use Rattle.lf_numbered.proofs.MeetsTupleLike.{mixed, mixed_goal, mixed_known, mixed_typed, mixed_alike}
use Rattle.lf_numbered.proofs.MeetsTupleWhole.{image_written, long, whole, whole_goal, whole_typed, whole_used}
use Rattle.lf_numbered.proofs.NumberedTuplesFresh.{LongerWritten}
use Rattle.lf_numbered.proofs.WritingBack.{within}
use mathlib.Core.Path.{fun_ext}

-- the first of two values
pub joined_less : (O : List LfType) (σ τ : ℕ → Image) (i : ℕ) → i < length O → joined O σ τ i ≡ σ i
joined_less [] σ τ i l = absurd (none l)
  where
    none : i < 0 → ⊥
    none l = omega (arith, l)
joined_less (A ∷ O) σ τ zero l = refl
joined_less (A ∷ O) σ τ (suc i) l = joined_less O (λ j. σ (suc j)) τ i (less l)
  where
    less : suc i < suc (length O) → i < length O
    less l = omega (arith, l)

-- The clause's own variables D stand over what stands outside it, O. Of a case, with the variables Q, values are known of O and of others; they have the
-- values ψ written over F. The tuple's values τ of the clause stand in G.
module _ (Σ : Signature) (ok : IsSignature Σ) (G F : List LfType) (cg : IsContext Σ G) (cf : IsContext Σ F) (ρ : ℕ → Image) (tρ : IsTypedSubstitution Σ G F ρ) (D O : List LfType) (cy : IsContext Σ (onto D O)) (used : ℕ → Bool) (τ : ℕ → Image) (v : Values Σ used (onto D O) G τ) (Q : List LfType) (cq : IsContext Σ Q) (ψ : ℕ → Image) (tψ : IsTypedSubstitution Σ Q F ψ) (known : ℕ → Bool) (g : ℕ → Image) (tg : Values Σ known (onto D O) Q g) (all : (k : ℕ) → known (k + length D) ≡ true) (φ : ℕ → Image) (outer : (k : ℕ) → g (k + length D) ≡ φ k) (tφ : IsTypedSubstitution Σ O Q φ) (alike : (i : ℕ) (X : LfType) → TypeAt (onto D O) i X → used i ≡ true → known i ≡ true → as_term (skeleton X) (substitute_image ρ (τ i)) ≡ as_term (skeleton X) (substitute_image ψ (g i))) where
  abbrev Y : List LfType
  Y = onto D O

  abbrev pub l0 : LongerWritten Σ known (onto D O) Q F g ψ
  l0 = long Σ ok Q F cq cf ψ tψ (onto D O) cy known g tg

  abbrev pub ρ0 : ℕ → Image
  ρ0 i = rename_image l0.moves (ρ i)

  pub tρ0 : IsTypedSubstitution Σ G l0.written ρ0
  tρ0 = values_moved Σ ok G F l0.written l0.moves ρ l0.renames tρ

  abbrev pub l1 : LongerWritten Σ used (onto D O) G l0.written τ ρ0
  l1 = long Σ ok G l0.written cg l0.is_context ρ0 tρ0 (onto D O) cy used τ v

  abbrev pub ω : ℕ → Image
  ω = whole Σ ok G l0.written cg l0.is_context ρ0 tρ0 (onto D O) cy used τ v

  pub tω : IsTypedSubstitution Σ (onto D O) l1.written ω
  tω = whole_typed Σ ok G l0.written cg l0.is_context ρ0 tρ0 (onto D O) cy used τ v

  abbrev pub κ1 : ℕ → Image
  κ1 i = rename_image l1.moves (whole Σ ok Q F cq cf ψ tψ (onto D O) cy known g tg i)

  tκ1 : IsTypedSubstitution Σ (onto D O) l1.written κ1
  tκ1 = values_moved Σ ok (onto D O) l0.written l1.written l1.moves (whole Σ ok Q F cq cf ψ tψ (onto D O) cy known g tg) l1.renames (whole_typed Σ ok Q F cq cf ψ tψ (onto D O) cy known g tg)

  pub vκ1 : Values Σ known (onto D O) l1.written κ1
  vκ1 = record { typed = λ i A h u. tκ1 i A h; closed = tg.closed }

  κ1_is : (i : ℕ) → known i ≡ true → κ1 i ≡ rename_image l1.moves (rename_image l0.moves (substitute_image ψ (g i)))
  κ1_is i k = ap (rename_image l1.moves) (whole_used Σ ok Q F cq cf ψ tψ (onto D O) cy known g tg i k)

  ω_is : (i : ℕ) → used i ≡ true → ω i ≡ rename_image l1.moves (rename_image l0.moves (substitute_image ρ (τ i)))
  ω_is i u = whole_used Σ ok G l0.written cg l0.is_context ρ0 tρ0 (onto D O) cy used τ v i u ∙ ap (rename_image l1.moves) (sym (image_put l0.moves ρ (τ i)))

  twice : (a : Skeleton) (x y : Image) → as_term a x ≡ as_term a y → as_term a (rename_image l1.moves (rename_image l0.moves x)) ≡ as_term a (rename_image l1.moves (rename_image l0.moves y))
  twice a x y e =
      moved_term l1.moves a (rename_image l0.moves x) ∙ ap (rename l1.moves) (moved_term l0.moves a x ∙ ap (rename l0.moves) e ∙ sym (moved_term l0.moves a y)) ∙ sym (moved_term l1.moves a (rename_image l0.moves y))

  pub alike1 : (i : ℕ) (X : LfType) → TypeAt (onto D O) i X → used i ≡ true → known i ≡ true → as_term (skeleton X) (ω i) ≡ as_term (skeleton X) (κ1 i)
  alike1 i X h u k = ap (as_term (skeleton X)) (ω_is i u) ∙ twice (skeleton X) (substitute_image ρ (τ i)) (substitute_image ψ (g i)) (alike i X h u k) ∙ ap (as_term (skeleton X)) (sym (κ1_is i k))

  abbrev pub both : ℕ → Image
  both = mixed Σ ok (onto D O) l1.written cy ω tω used v.closed known κ1 vκ1 alike1

  abbrev pub l2 : Longer Σ (λ i. either (known i) (used i)) (onto D O) l1.written both
  l2 = longer Σ ok [] (λ B m. absurd m) l1.written l1.is_context (onto D O) (λ i. either (known i) (used i)) both cy (mixed_typed Σ ok (onto D O) l1.written cy ω tω used v.closed known κ1 vκ1 alike1)

  -- an image of F, in the last context
  abbrev pub moved : Image → Image
  moved x = rename_image l2.moves (rename_image l1.moves (rename_image l0.moves x))

  abbrev pub last : List LfType
  last = l2.context

  abbrev pub case_values : ℕ → Image
  case_values i = moved (ψ i)

  case_typed : IsTypedSubstitution Σ Q l2.context case_values
  case_typed = values_moved Σ ok Q l1.written l2.context l2.moves (λ i. rename_image l1.moves (rename_image l0.moves (ψ i))) l2.renames (values_moved Σ ok Q l0.written l1.written l1.moves (λ i. rename_image l0.moves (ψ i)) l1.renames (values_moved Σ ok Q F l0.written l0.moves ψ l0.renames tψ))

  -- the writing, into the last context
  abbrev pub writing : ℕ → Image
  writing i = moved (ρ i)

  pub writing_typed : IsTypedSubstitution Σ G l2.context writing
  writing_typed = values_moved Σ ok G l1.written l2.context l2.moves (λ i. rename_image l1.moves (rename_image l0.moves (ρ i))) l2.renames (values_moved Σ ok G l0.written l1.written l1.moves (λ i. rename_image l0.moves (ρ i)) l1.renames (values_moved Σ ok G F l0.written l0.moves ρ l0.renames tρ))

  pub written_so : (x : Image) → moved (substitute_image ρ x) ≡ substitute_image writing x
  written_so x =
      ap (λ y. rename_image l2.moves (rename_image l1.moves y)) (image_put l0.moves ρ x)
      ∙ ap (rename_image l2.moves) (image_put l1.moves (λ i. rename_image l0.moves (ρ i)) x)
      ∙ image_put l2.moves (λ i. rename_image l1.moves (rename_image l0.moves (ρ i))) x

  abbrev pub values : ℕ → Image
  values = joined D l2.values case_values

  pub values_near : (i : ℕ) → i < length D → values i ≡ l2.values i
  values_near i l = joined_less D l2.values case_values i l

  pub values_far : (i : ℕ) → values (i + length (instance D φ)) ≡ case_values i
  values_far i = ap (λ n. values (i + n)) (length_instance D φ) ∙ joined_far D l2.values case_values i

  left_either : (a b : Bool) → a ≡ true → either a b ≡ true
  left_either true b e = refl
  left_either false b e = absurd cc

  -- what is known
  l2_known : (i : ℕ) → known i ≡ true → l2.values i ≡ moved (substitute_image ψ (g i))
  l2_known i k = sym (l2.same i (left_either (known i) (used i) k)) ∙ ap (rename_image l2.moves) (mixed_known Σ ok (onto D O) l1.written cy ω tω used v.closed known κ1 vκ1 alike1 i k ∙ κ1_is i k)

  right_either : (a b : Bool) → b ≡ true → either a b ≡ true
  right_either true b e = refl
  right_either false b e = e

  -- what counts in the tuple
  pub values_used : (i : ℕ) (X : LfType) → TypeAt (onto D O) i X → i < length D → used i ≡ true → as_term (skeleton X) (values i) ≡ as_term (skeleton X) (substitute_image writing (τ i))
  values_used i X h l u =
      ap (as_term (skeleton X)) (values_near i l ∙ sym (l2.same i (right_either (known i) (used i) u)))
      ∙ moved_term l2.moves (skeleton X) (both i)
      ∙ ap (rename l2.moves) (sym (mixed_alike Σ ok (onto D O) l1.written cy ω tω used v.closed known κ1 vκ1 alike1 i X h u))
      ∙ sym (moved_term l2.moves (skeleton X) (ω i))
      ∙ ap (λ y. as_term (skeleton X) (rename_image l2.moves y)) (ω_is i u)
      ∙ ap (as_term (skeleton X)) (written_so (τ i))

  moved_put : (x : Image) → moved (substitute_image ψ x) ≡ substitute_image case_values x
  moved_put x =
      ap (λ y. rename_image l2.moves (rename_image l1.moves y)) (image_put l0.moves ψ x)
      ∙ ap (rename_image l2.moves) (image_put l1.moves (λ i. rename_image l0.moves (ψ i)) x)
      ∙ image_put l2.moves (λ i. rename_image l1.moves (rename_image l0.moves (ψ i))) x

  pub values_known : (i : ℕ) → i < length D → known i ≡ true → values i ≡ substitute_image case_values (g i)
  values_known i l k = values_near i l ∙ l2_known i k ∙ moved_put (g i)

  -- what has the same values over F has them here
  spine_over : (V : Spine) → rename_spine l2.moves (rename_spine l1.moves (rename_spine l0.moves (substitute_spine reduce ψ V))) ≡ substitute_spine reduce case_values V
  spine_over V =
      ap (λ Y. rename_spine l2.moves (rename_spine l1.moves Y)) (rename_substituted_spine reduce reduction_is_natural l0.moves ψ V)
      ∙ ap (rename_spine l2.moves) (rename_substituted_spine reduce reduction_is_natural l1.moves (λ i. rename_image l0.moves (ψ i)) V)
      ∙ rename_substituted_spine reduce reduction_is_natural l2.moves (λ i. rename_image l1.moves (rename_image l0.moves (ψ i))) V

  pub spine_same : (V V' : Spine) → substitute_spine reduce ψ V ≡ substitute_spine reduce ψ V' → substitute_spine reduce case_values V ≡ substitute_spine reduce case_values V'
  spine_same V V' e = sym (spine_over V) ∙ ap (λ Z. rename_spine l2.moves (rename_spine l1.moves (rename_spine l0.moves Z))) e ∙ spine_over V'

  composite : (i : ℕ) → after values (lift_over D φ) i ≡ l2.values i
  composite i = by (near_or_far (length D) i)
    where
      by : (i < length D) ⊎ ((l : ℕ) × (i ≡ l + length D)) → after values (lift_over D φ) i ≡ l2.values i
      by (inl l) = ap (substitute_image values) (lift_over_near D φ i l) ∙ values_near i l
      by (inr (k, e)) =
          ap (after values (lift_over D φ)) e
          ∙ ap (substitute_image values) (lift_over_far D φ k)
          ∙ image_written (shift_by (length D)) values (φ k)
          ∙ ap (λ f. substitute_image f (φ k)) (fun_ext (joined_far D l2.values case_values))
          ∙ sym (l2_known (k + length D) (all k) ∙ ap (λ x. moved (substitute_image ψ x)) (outer k) ∙ moved_put (φ k))
          ∙ ap l2.values (sym e)

  outer_typed : TypedSubstitution Σ ok O Q φ
  outer_typed = record { typed = tφ; source_skeletons = skeleton_context_of Σ ok O (outer_context Σ D O cy); target_skeletons = skeleton_context_of Σ ok Q cq }

  pub values_context : IsContext Σ (onto (instance D φ) Q)
  values_context = (instance_context Σ ok D O Q φ cq outer_typed cy).0

  lifted_typed : TypedSubstitution Σ ok (onto D O) (onto (instance D φ) Q) (lift_over D φ)
  lifted_typed = (instance_context Σ ok D O Q φ cq outer_typed cy).1

  pub put_typed : (A : LfType) → IsType Σ (onto D O) A → IsType Σ (onto (instance D φ) Q) (substitute_type reduce (lift_over D φ) A)
  put_typed A t = substitution_keeps_types Σ ok (onto D O) (onto (instance D φ) Q) (lift_over D φ) A lifted_typed t

  less_own : (i : ℕ) → i < length (instance D φ) → i < length D
  less_own i l = subst (λ n. i < n) (length_instance D φ) l

  values_fit : SubstitutionBySkeletons (constant_skeletons Σ) (context_skeletons (onto (instance D φ) Q)) (context_skeletons l2.context) values
  values_fit i t s = let (A, h, e) = skeleton_has_variable (onto (instance D φ) Q) i t s in by A e h (which_type (instance D φ) Q i A h)
    where
      by : (A : LfType) → skeleton A ≡ t → TypeAt (onto (instance D φ) Q) i A → TypeAt (instance D φ) i A ⊎ ((k : ℕ) × (B : LfType) × TypeAt Q k B × (i ≡ k + length (instance D φ)) × (A ≡ rename_type (shift_by (length (instance D φ))) B)) → ImageSkeleton (constant_skeletons Σ) (context_skeletons l2.context) (values i) t
      by A e h (inl n) =
          let l : i < length D = less_own i (within (instance D φ) i A n) in
          let (A0, g0) = local_has_type D O i l in
          let q : A ≡ substitute_type reduce (lift_over D φ) A0 = variable_type_unique (onto (instance D φ) Q) i A (substitute_type reduce (lift_over D φ) A0) h (local_type D O Q φ i A0 l g0) in
          let f : ImageSkeleton (constant_skeletons Σ) (context_skeletons l2.context) (l2.values i) (skeleton A0) = typed_substitution_by_skeletons Σ ok (onto D O) l2.context l2.values l2.typed i (skeleton A0) (variable_has_skeleton (onto D O) i A0 g0) in
          subst (λ x. ImageSkeleton (constant_skeletons Σ) (context_skeletons l2.context) x t) (sym (values_near i l)) (subst (ImageSkeleton (constant_skeletons Σ) (context_skeletons l2.context) (l2.values i)) (sym (skeleton_substituted reduce (lift_over D φ) A0) ∙ sym (ap skeleton q) ∙ e) f)
      by A e h (inr (k, B, n, q, r)) =
          let f : ImageSkeleton (constant_skeletons Σ) (context_skeletons l2.context) (case_values k) (skeleton B) = typed_substitution_by_skeletons Σ ok Q l2.context case_values case_typed k (skeleton B) (variable_has_skeleton Q k B n) in
          subst (λ x. ImageSkeleton (constant_skeletons Σ) (context_skeletons l2.context) x t) (sym (ap values q ∙ values_far k)) (subst (ImageSkeleton (constant_skeletons Σ) (context_skeletons l2.context) (case_values k)) (sym (skeleton_renamed (shift_by (length (instance D φ))) B) ∙ sym (ap skeleton r) ∙ e) f)

  -- a type of the clause
  pub own_type : (A : LfType) → IsType Σ (onto D O) A → substitute_type reduce values (substitute_type reduce (lift_over D φ) A) ≡ substitute_type reduce l2.values A
  own_type A t =
      substitutions_compose_type (family_skeletons Σ) (constant_skeletons Σ) (context_skeletons (onto D O)) (context_skeletons (onto (instance D φ) Q)) (context_skeletons l2.context) (lift_over D φ) values A (typed_substitution_by_skeletons Σ ok (onto D O) (onto (instance D φ) Q) (lift_over D φ) lifted_typed.typed) values_fit (type_by_skeletons Σ (onto D O) A t)
      ∙ ap (λ f. substitute_type reduce f A) (fun_ext composite)

  pub values_typed : IsTypedSubstitution Σ (onto (instance D φ) Q) l2.context values
  values_typed i A h = by (which_type (instance D φ) Q i A h)
    where
      by : TypeAt (instance D φ) i A ⊎ ((k : ℕ) × (B : LfType) × TypeAt Q k B × (i ≡ k + length (instance D φ)) × (A ≡ rename_type (shift_by (length (instance D φ))) B)) → ImageHasType Σ l2.context (values i) (substitute_type reduce values A)
      by (inl n) =
          let l : i < length D = less_own i (within (instance D φ) i A n) in
          let (A0, g0) = local_has_type D O i l in
          let q : A ≡ substitute_type reduce (lift_over D φ) A0 = variable_type_unique (onto (instance D φ) Q) i A (substitute_type reduce (lift_over D φ) A0) h (local_type D O Q φ i A0 l g0) in
          subst (ImageHasType Σ l2.context (values i)) (sym (ap (substitute_type reduce values) q ∙ own_type A0 (declared_is_type Σ ok (onto D O) i A0 cy g0))) (subst (λ x. ImageHasType Σ l2.context x (substitute_type reduce l2.values A0)) (sym (values_near i l)) (l2.typed i A0 g0))
      by (inr (k, B, n, q, r)) =
          subst (λ x. ImageHasType Σ l2.context x (substitute_type reduce values A)) (sym (ap values q ∙ values_far k))
          (subst (ImageHasType Σ l2.context (case_values k)) (sym (ap (substitute_type reduce values) r ∙ substitute_renamed_type reduce values (shift_by (length (instance D φ))) B ∙ ap (λ f. substitute_type reduce f B) (fun_ext values_far))) (case_typed k B n))

  -- the tuple
  abbrev pub tuple : List LfType → Spine → Spine
  tuple L T = rename_spine (lift_renaming_by (length L) l2.moves) (rename_spine (lift_renaming_by (length L) l1.moves) (rename_spine (lift_renaming_by (length L) l0.moves) (substitute_spine reduce (lift_over L ρ) T)))

  pub tuple_of_case : (L : List LfType) (Ms : List (Option Term)) (T : Spine) → HasArguments (lift_over L ψ) Ms (substitute_spine reduce (lift_over L ρ) T) → HasArguments (lift_over L case_values) Ms (tuple L T)
  tuple_of_case L Ms T h =
      let T0 : Spine = substitute_spine reduce (lift_over L ρ) T in
      let T1 : Spine = rename_spine (lift_renaming_by (length L) l0.moves) T0 in
      let T2 : Spine = rename_spine (lift_renaming_by (length L) l1.moves) T1 in
      arguments_moved L l2.moves (λ i. rename_image l1.moves (rename_image l0.moves (ψ i))) Ms T2 (arguments_moved L l1.moves (λ i. rename_image l0.moves (ψ i)) Ms T1 (arguments_moved L l0.moves ψ Ms T0 h))

  pub tuple_of_pattern : (b : List Bool) (P : LfType) (L : List LfType) (T : Spine) → IsType Σ (onto D O) P → length L ≡ length (binders [] P) → UsesGoal used b P → SamePlaces b T (target_arguments (substitute_type reduce τ P)) → SamePlaces b (tuple L T) (target_arguments (substitute_type reduce values (substitute_type reduce (lift_over D φ) P)))
  tuple_of_pattern b P L T t l uses s =
      let T0 : Spine = substitute_spine reduce (lift_over L ρ) T in
      let T1 : Spine = rename_spine (lift_renaming_by (length L) l0.moves) T0 in
      let T2 : Spine = rename_spine (lift_renaming_by (length L) l1.moves) T1 in
      let first : SamePlaces b (rename_spine (lift_renaming_by (length L) l1.moves) (substitute_spine reduce (lift_over L ρ0) T)) (target_arguments (substitute_type reduce ω P)) = whole_goal Σ ok G l0.written cg l0.is_context ρ0 tρ0 (onto D O) cy used τ v b P L T t l uses s in
      let same : substitute_spine reduce (lift_over L ρ0) T ≡ T1 = sym (rename_substituted_spine reduce reduction_is_natural (lift_renaming_by (length L) l0.moves) (lift_over L ρ) T ∙ ap (λ f. substitute_spine reduce f T) (fun_ext (lift_over_moved L l0.moves ρ))) in
      let second : SamePlaces b T2 (target_arguments (substitute_type reduce both P)) = mixed_goal Σ ok (onto D O) l1.written cy ω tω used v.closed known κ1 vκ1 alike1 b P T2 t uses (subst (λ V. SamePlaces b (rename_spine (lift_renaming_by (length L) l1.moves) V) (target_arguments (substitute_type reduce ω P))) same first) in
      let third : SamePlaces b (rename_spine (lift_renaming_by (length (binders [] P)) l2.moves) T2) (target_arguments (substitute_type reduce l2.values P)) = goal_moved [] used l2.moves both l2.values (λ i u. l2.same i (right (known i) (used i) u)) b P T2 uses second in
      subst (λ Z. SamePlaces b (tuple L T) (target_arguments Z)) (sym (own_type P t)) (subst (λ n. SamePlaces b (rename_spine (lift_renaming_by n l2.moves) T2) (target_arguments (substitute_type reduce l2.values P))) (sym l) third)
    where
      right : (a b : Bool) → b ≡ true → either a b ≡ true
      right true b e = refl
      right false b e = e
