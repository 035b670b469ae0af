-- A typed instance of a case that is typed beside a pattern is typed beside it.
use Rattle.std.proofs.Common.{◌≡◌, ℕ, zero, suc, ◌+◌, List, [], ◌∷◌, length, inl, inr, refl, sym, ap, ap₂, ◌∙◌, subst}
use Rattle.std.specs.Prelude.{Bool, Option, Some, None, ◌⊎◌}
use Rattle.lf.specs.Syntax.{Term, Spine, nil, app, LfType, Kind, kind_pi, star, Skeleton, base, skeleton, kind_skeleton, rename_type}
use Rattle.lf.specs.Substitution.{Image, keep, put, single, substitute, substitute_spine, substitute_type, substitute_kind, substitute_image, after, lift, reduce}
use Rattle.lf.specs.SkeletonTyping.{TermSkeleton, SpineSkeleton, KindBySkeletons, SubstitutionBySkeletons}
use Rattle.lf.specs.Skeletons.{constant_skeletons, family_skeletons, context_skeletons}
use Rattle.lf.specs.AtOnce.{shift_by}
use Rattle.lf.specs.Typing.{Signature, TypeAt, IsType, IsKind, IsContext, IsSignature, IsTypedSubstitution, ImageHasType, instantiate_kind}
use Rattle.lf.specs.Variables.{target_arguments, binders, onto, Values, UsesType}
use Rattle.lf.specs.Subordination.{Block, AreTypedBlocks}
use Rattle.lf.specs.Worlds.{lift_over, instance}
use Rattle.lf.proofs.Agreement.{agree_on_type}
use Rattle.lf.proofs.Partial.{partial_substitution_keeps_types, skeletons_beside}
use Rattle.lf.proofs.Patch.{patch, patch_same, patched}
use Rattle.lf.proofs.Closed.{Agree, Agree-lift, agree_type, closed_kind_substituted}
use Rattle.lf.proofs.Composition.{substitutions_compose_spine}
use Rattle.lf.proofs.SkeletonTypes.{substitute_single_kind, single_kind_by_skeletons, substitutions_compose_type}
use Rattle.lf.proofs.Substitution.{TypedSubstitution, skeleton_context_of, typed_substitution_by_skeletons, lifted_substitution_typed, substitution_keeps_typing, substitution_keeps_types, family_kind}
use Rattle.lf.proofs.ToSkeletons.{skeleton_has_variable, typed_has_skeleton, type_by_skeletons, kind_by_skeletons, kind_skeleton_substituted, kind_spine_has_skeleton}
use Rattle.lf.proofs.TypeLaws.{skeleton_substituted, substitute_renamed_type, substitution_as_renaming_type}
use Rattle.lf.proofs.Weakening.{declared_is_type}
use Rattle.lf_checks.specs.Clause.{scope}
use Rattle.lf_cases.specs.Case.{Case, items_context}
use Rattle.lf_cases.specs.Pattern.{Pattern, is_given, given_at}
use Rattle.lf_cases.specs.Candidates.{given_images, with_given}
use Rattle.lf_cases.specs.Missing.{AreTypedItems, put_in}
use Rattle.lf_cases.proofs.BlockEntries.{onto_onto}
use Rattle.lf_cases.proofs.OutputItems.{lifted}
use Rattle.lf_coverage.specs.Heads.{HaveSkeletons}
use Rattle.lf_coverage.specs.Leaf.{IsTypedPattern}
use Rattle.lf_coverage.specs.TypedCase.{TypedArguments, IsTypedBeside}
use Rattle.lf_coverage.proofs.Forms.{far_type}
use Rattle.lf_coverage.proofs.GivenValues.{StandsForItself, StandsForGiven, given_cases, given_fits, image_near, onto_context, values_near}
use Rattle.lf_coverage.proofs.HeadSplit.{put_in_fits}
use Rattle.lf_coverage.proofs.ItemsContext.{items_are_context}
use Rattle.lf_coverage.proofs.MeetReady.{arguments_fit}
use Rattle.lf_coverage.proofs.Meeting.{joined, joined_near, joined_far, which_type}
use Rattle.lf_coverage.proofs.Transfer.{same_in, lift_instance, after_over, lifted_instance}
use Rattle.lf_coverage.proofs.Leaves.{given_skeleton}
use Rattle.lf_coverage.proofs.Parts.{some_same}
use mathlib.Core.Path.{fun_ext}

-- the given terms with values put in
given_put : (σ : ℕ → Image) (Ms : List (Option Term)) (i : ℕ) (M : Term) → given_at Ms i ≡ Some M → given_at (put_in σ Ms) i ≡ Some (substitute reduce σ M)
given_put σ [] i M e = absurd cc
given_put σ (Some N ∷ Ms) zero M e = ap (λ P. Some (substitute reduce σ P)) (some_same e)
given_put σ (None ∷ Ms) zero M e = absurd cc
given_put σ (Some N ∷ Ms) (suc i) M e = given_put σ Ms i M e
given_put σ (None ∷ Ms) (suc i) M e = given_put σ Ms i M e

given_from_put : (σ : ℕ → Image) (Ms : List (Option Term)) (i : ℕ) (N : Term) → given_at (put_in σ Ms) i ≡ Some N → (M : Term) × (given_at Ms i ≡ Some M)
given_from_put σ [] i N e = absurd cc
given_from_put σ (Some M ∷ Ms) zero N e = (M, refl)
given_from_put σ (None ∷ Ms) zero N e = absurd cc
given_from_put σ (Some M ∷ Ms) (suc i) N e = given_from_put σ Ms i N e
given_from_put σ (None ∷ Ms) (suc i) N e = given_from_put σ Ms i N e

pub is_given_put : (σ : ℕ → Image) (Ms : List (Option Term)) (i : ℕ) → is_given (put_in σ Ms) i ≡ is_given Ms i
is_given_put σ [] i = refl
is_given_put σ (Some M ∷ Ms) zero = refl
is_given_put σ (None ∷ Ms) zero = refl
is_given_put σ (Some M ∷ Ms) (suc i) = is_given_put σ Ms i
is_given_put σ (None ∷ Ms) (suc i) = is_given_put σ Ms i

-- a type that uses only variables with typed values is one under these
pub value_type : (Σ : Signature) (ok : IsSignature Σ) (V : ℕ → Bool) (G D : List LfType) (σ : ℕ → Image) (B : LfType) → IsContext Σ G → IsContext Σ D → Values Σ V G D σ → IsType Σ G B → UsesType V B → IsType Σ D (substitute_type reduce σ B)
value_type Σ ok V G D σ B cg cd v t u = subst (IsType Σ D) (sym (agree_on_type reduce V σ (patch V D σ) B (patch_same V D σ) u)) (partial_substitution_keeps_types Σ ok (skeletons_beside [] G) [] V G D (patch V D σ) B (patched Σ ok V G D σ cg cd v) u t)

pub instance_agree : (Σ : Signature) (L O : List LfType) (σ τ : ℕ → Image) → IsContext Σ (onto L O) → Agree O σ τ → (instance L σ ≡ instance L τ) × Agree (onto L O) (lift_over L σ) (lift_over L τ)
instance_agree Σ [] O σ τ c h = (refl, h)
instance_agree Σ (A ∷ L) O σ τ (c, t) h = let (e, k) = instance_agree Σ L O σ τ c h in (ap₂ ◌∷◌ (agree_type Σ reduce (onto L O) (lift_over L σ) (lift_over L τ) A k t) e, Agree-lift (onto L O) A (lift_over L σ) (lift_over L τ) k)

module _ (Σ : Signature) (ok : IsSignature Σ) (W : List Block) (typed : AreTypedBlocks Σ W) (C D : Case) (p : Pattern) (tp : IsTypedPattern Σ p) (tb : IsTypedBeside Σ W C p) (items : AreTypedItems Σ W D.items) (σ : ℕ → Image) (ts : IsTypedSubstitution Σ (items_context C.items) (items_context D.items) σ) where
  abbrev O : List LfType
  O = items_context C.items

  abbrev P : List LfType
  P = items_context D.items

  abbrev Q : List LfType
  Q = scope p.clause

  abbrev X : List LfType
  X = onto (items_context C.items) (scope p.clause)

  abbrev Y : List LfType
  Y = onto (items_context D.items) (scope p.clause)

  abbrev n : ℕ
  n = length (items_context C.items)

  abbrev m : ℕ
  m = length (items_context D.items)

  -- the values of the items, and the clause's variables moved past the new ones
  abbrev τ : ℕ → Image
  τ = joined (items_context C.items) σ (λ i. keep (i + length (items_context D.items)))

  agrees : Agree O τ σ
  agrees i A k = joined_near O σ (λ j. keep (j + m)) i A k

  co : IsContext Σ O
  co = items_are_context Σ ok W typed C.items tb.by_skeletons.items

  cp : IsContext Σ P
  cp = items_are_context Σ ok W typed D.items items

  cx : IsContext Σ X
  cx = onto_context Σ ok O Q co tp.clause_typed

  cy : IsContext Σ Y
  cy = onto_context Σ ok P Q cp tp.clause_typed

  joint_typed : IsTypedSubstitution Σ X Y τ
  joint_typed i A k = by (which_type O Q i A k)
    where
      by : TypeAt O i A ⊎ ((j : ℕ) × (B : LfType) × TypeAt Q j B × (i ≡ j + n) × (A ≡ rename_type (shift_by n) B)) → ImageHasType Σ Y (τ i) (substitute_type reduce τ A)
      by (inl h) = subst (λ x. ImageHasType Σ Y x (substitute_type reduce τ A)) (sym (agrees i A h)) (subst (ImageHasType Σ Y (σ i)) (sym (agree_type Σ reduce O τ σ A agrees (declared_is_type Σ ok O i A co h))) (image_near Σ ok P Q (σ i) (substitute_type reduce σ A) (ts i A h)))
      by (inr (j, B, h, q, r)) =
          let e : substitute_type reduce τ A ≡ rename_type (shift_by m) B = ap (substitute_type reduce τ) r ∙ substitute_renamed_type reduce τ (shift_by n) B ∙ ap (λ f. substitute_type reduce f B) (fun_ext (joined_far O σ (λ k. keep (k + m)))) ∙ substitution_as_renaming_type reduce (shift_by m) B in
          subst (λ x. ImageHasType Σ Y x (substitute_type reduce τ A)) (sym (ap τ q ∙ joined_far O σ (λ k. keep (k + m)) j)) (subst (TypeAt Y (j + m)) (sym e) (far_type P Q j B h))

  joint : TypedSubstitution Σ ok X Y τ
  joint = record { typed = joint_typed; source_skeletons = skeleton_context_of Σ ok X cx; target_skeletons = skeleton_context_of Σ ok Y cy }

  joint_fits : SubstitutionBySkeletons (constant_skeletons Σ) (context_skeletons X) (context_skeletons Y) τ
  joint_fits = typed_substitution_by_skeletons Σ ok X Y τ joint_typed

  joint_under : (L : List LfType) → IsContext Σ (onto L X) → TypedSubstitution Σ ok (onto L X) (onto (instance L τ) Y) (lift_over L τ)
  joint_under [] c = joint
  joint_under (A ∷ L) (c, t) = lifted_substitution_typed Σ ok (onto L X) (onto (instance L τ) Y) (lift_over L τ) A (joint_under L c) (type_by_skeletons Σ (onto L X) A t)

  module _ (ef : D.family ≡ C.family) (eg : D.given ≡ put_in σ C.given) (el : D.local ≡ instance C.local σ) (ea : D.arguments ≡ put_in (lift_over C.local σ) C.arguments) where
    abbrev g : ℕ → Image
    g = given_images (scope p.clause) C.given (length (items_context C.items))

    abbrev h : ℕ → Image
    h = given_images (scope p.clause) (put_in σ C.given) (length (items_context D.items))

    same_here : (M : Term) (t : Skeleton) → TermSkeleton (constant_skeletons Σ) (context_skeletons O) M t → substitute reduce τ M ≡ substitute reduce σ M
    same_here M t k = same_in (constant_skeletons Σ) (context_skeletons O) τ σ (λ i u z. let (A, a, e) = skeleton_has_variable O i u z in agrees i A a) M t k

    given_after : (i : ℕ) → after τ g i ≡ h i
    given_after i = by (given_cases Q C.given n i) (given_cases Q (put_in σ C.given) m i)
      where
        by : StandsForItself Q C.given n i ⊎ StandsForGiven Q C.given n i → StandsForItself Q (put_in σ C.given) m i ⊎ StandsForGiven Q (put_in σ C.given) m i → after τ g i ≡ h i
        by (inl (e, none)) (inl (f, never)) = ap (substitute_image τ) e ∙ joined_far O σ (λ k. keep (k + m)) i ∙ sym f
        by (inl (e, none)) (inr (B, N, b, r, f)) = let (M, q) = given_from_put σ C.given i N r in absurd (none B M b q)
        by (inr (A, M, a, q, e)) (inl (f, never)) = absurd (never A (substitute reduce σ M) a (given_put σ C.given i M q))
        by (inr (A, M, a, q, e)) (inr (B, N, b, r, f)) =
            let (t, k) = given_skeleton (constant_skeletons Σ) (context_skeletons O) C.given i M tb.by_skeletons.given q in
            ap (substitute_image τ) e ∙ ap₂ put (ap skeleton (Rattle.lf.proofs.Decidability.variable_type_unique Q i A B a b)) (same_here M t k ∙ some_same (sym (given_put σ C.given i M q) ∙ r)) ∙ sym f

    fg : SubstitutionBySkeletons (constant_skeletons Σ) (context_skeletons Q) (context_skeletons X) g
    fg = given_fits Σ O Q C.given (values_near Σ ok (is_given C.given) Q O Q g tb.given)

    images_after : (L : List LfType) → after (lift_over L τ) (lift_over L g) ≡ lift_over L h
    images_after L = after_over L g τ ∙ ap (lift_over L) (fun_ext given_after)

    -- the type of a given term is a type over the items
    given_type : (A : LfType) → IsType Σ Q A → UsesType (is_given C.given) A → IsType Σ O (substitute_type reduce g A)
    given_type A t u = value_type Σ ok (is_given C.given) Q O g A tp.clause_typed co tb.given t u

    first_typed : TypedSubstitution Σ ok O P σ
    first_typed = record { typed = ts; source_skeletons = skeleton_context_of Σ ok O co; target_skeletons = skeleton_context_of Σ ok P cp }

    -- the given terms
    given_values_typed : Values Σ (is_given (put_in σ C.given)) Q P h
    given_values_typed = record { typed = given_typed; closed = λ i A a u. subst (λ f. UsesType f A) (sym same_set) (tb.given.closed i A a (ap (λ f. f i) (sym same_set) ∙ u)) }
      where
        same_set : is_given (put_in σ C.given) ≡ is_given C.given
        same_set = fun_ext (is_given_put σ C.given)

        image_put : (x : Image) (A : LfType) → IsType Σ O A → ImageHasType Σ O x A → ImageHasType Σ P (substitute_image σ x) (substitute_type reduce σ A)
        image_put (keep j) A t k = ts j A k
        image_put (put a N) A t (e, k) = (skeleton_substituted reduce σ A ∙ e, substitution_keeps_typing Σ ok O P σ N A first_typed (type_by_skeletons Σ O A t) k)

        image_same : (x : Image) (A : LfType) → ImageHasType Σ O x A → substitute_image σ x ≡ substitute_image τ x
        image_same (keep j) A k = sym (agrees j A k)
        image_same (put a N) A (e, k) = ap (put a) (sym (Rattle.lf.proofs.Closed.agree Σ reduce O τ σ N A agrees k))

        given_typed : (i : ℕ) (A : LfType) → TypeAt Q i A → is_given (put_in σ C.given) i ≡ Rattle.std.specs.Prelude.true → ImageHasType Σ P (h i) (substitute_type reduce h A)
        given_typed i A a u =
            let t : IsType Σ Q A = declared_is_type Σ ok Q i A tp.clause_typed a in
            let v : is_given C.given i ≡ Rattle.std.specs.Prelude.true = ap (λ f. f i) (sym same_set) ∙ u in
            let ta : IsType Σ O (substitute_type reduce g A) = given_type A t (tb.given.closed i A a v) in
            let it : ImageHasType Σ O (g i) (substitute_type reduce g A) = tb.given.typed i A a v in
            let e : substitute_type reduce σ (substitute_type reduce g A) ≡ substitute_type reduce h A = sym (agree_type Σ reduce O τ σ (substitute_type reduce g A) agrees ta) ∙ substitutions_compose_type (family_skeletons Σ) (constant_skeletons Σ) (context_skeletons Q) (context_skeletons X) (context_skeletons Y) g τ A fg joint_fits (type_by_skeletons Σ Q A t) ∙ ap (λ f. substitute_type reduce f A) (fun_ext given_after) in
            subst (λ x. ImageHasType Σ P x (substitute_type reduce h A)) (image_same (g i) (substitute_type reduce g A) it ∙ given_after i) (subst (ImageHasType Σ P (substitute_image σ (g i))) e (image_put (g i) (substitute_type reduce g A) ta it))

    -- the arguments
    arguments_put : (L : List LfType) → IsContext Σ (onto L X) → (Ms : List (Option Term)) (T : Spine) (K : Kind) → KindBySkeletons (family_skeletons Σ) (constant_skeletons Σ) (context_skeletons (onto L X)) K → SpineSkeleton (constant_skeletons Σ) (context_skeletons (onto L X)) T (kind_skeleton 0 K) (base 0) → TypedArguments Σ (onto L X) Ms T K → TypedArguments Σ (onto (instance L τ) Y) (put_in (lift_over L τ) Ms) (substitute_spine reduce (lift_over L τ) T) (substitute_kind reduce (lift_over L τ) K)
    arguments_put L c [] nil star k s a = tt
    arguments_put L c [] nil (kind_pi A K) k s a = absurd a
    arguments_put L c [] (app N T) K k s a = absurd a
    arguments_put L c (Some M ∷ Ms) nil K k s a = absurd a
    arguments_put L c (None ∷ Ms) nil K k s a = absurd a
    arguments_put L c (Some M ∷ Ms) (app N T) star k s a = absurd a
    arguments_put L c (None ∷ Ms) (app N T) star k s a = absurd a
    arguments_put L c (Some M ∷ Ms) (app N T) (kind_pi A K) (ka, kk) (sn, s) (t, a) =
        let mk : TermSkeleton (constant_skeletons Σ) (context_skeletons (onto L X)) M (skeleton A) = typed_has_skeleton Σ (onto L X) M A t in (
          substitution_keeps_typing Σ ok (onto L X) (onto (instance L τ) Y) (lift_over L τ) M A (joint_under L c) ka t,
          subst (TypedArguments Σ (onto (instance L τ) Y) (put_in (lift_over L τ) Ms) (substitute_spine reduce (lift_over L τ) T)) (next_kind L A M K mk kk) (arguments_put L c Ms T (instantiate_kind A M K) (single_kind_by_skeletons (family_skeletons Σ) (constant_skeletons Σ) (skeleton A) (context_skeletons (onto L X)) M K mk kk) (subst (λ z. SpineSkeleton (constant_skeletons Σ) (context_skeletons (onto L X)) T z (base 0)) (sym (kind_skeleton_substituted 0 reduce (single (skeleton A) M) K)) s) a),
        )
      where
        next_kind : (L : List LfType) (A : LfType) (M : Term) (K : Kind) → TermSkeleton (constant_skeletons Σ) (context_skeletons (onto L X)) M (skeleton A) → KindBySkeletons (family_skeletons Σ) (constant_skeletons Σ) (skeleton A ∷ context_skeletons (onto L X)) K → substitute_kind reduce (lift_over L τ) (instantiate_kind A M K) ≡ instantiate_kind (substitute_type reduce (lift_over L τ) A) (substitute reduce (lift_over L τ) M) (substitute_kind reduce (lift (lift_over L τ)) K)
        next_kind L A M K mk kk = substitute_single_kind (family_skeletons Σ) (constant_skeletons Σ) (context_skeletons (onto L X)) (context_skeletons (onto (instance L τ) Y)) (lift_over L τ) (skeleton A) M K (lifted Σ L X Y τ joint_fits) mk kk ∙ ap (λ z. substitute_kind reduce (single z (substitute reduce (lift_over L τ) M)) (substitute_kind reduce (lift (lift_over L τ)) K)) (sym (skeleton_substituted reduce (lift_over L τ) A))
    arguments_put L c (None ∷ Ms) (app N T) (kind_pi A K) (ka, kk) (sn, s) a =
        subst (TypedArguments Σ (onto (instance L τ) Y) (put_in (lift_over L τ) Ms) (substitute_spine reduce (lift_over L τ) T)) (substitute_single_kind (family_skeletons Σ) (constant_skeletons Σ) (context_skeletons (onto L X)) (context_skeletons (onto (instance L τ) Y)) (lift_over L τ) (skeleton A) N K (lifted Σ L X Y τ joint_fits) sn kk ∙ ap (λ z. substitute_kind reduce (single z (substitute reduce (lift_over L τ) N)) (substitute_kind reduce (lift (lift_over L τ)) K)) (sym (skeleton_substituted reduce (lift_over L τ) A)))
        (arguments_put L c Ms T (instantiate_kind A N K) (single_kind_by_skeletons (family_skeletons Σ) (constant_skeletons Σ) (skeleton A) (context_skeletons (onto L X)) N K sn kk) (subst (λ z. SpineSkeleton (constant_skeletons Σ) (context_skeletons (onto L X)) T z (base 0)) (sym (kind_skeleton_substituted 0 reduce (single (skeleton A) N) K)) s) a)

    terms_here : (L : List LfType) (Ms : List (Option Term)) → IsContext Σ (onto L O) → HaveSkeletons (constant_skeletons Σ) (context_skeletons (onto L O)) Ms → put_in (lift_over L τ) Ms ≡ put_in (lift_over L σ) Ms
    terms_here L [] c s = refl
    terms_here L (Some M ∷ Ms) c ((t, k), s) = ap₂ (λ N Ns. Some N ∷ Ns) (same_in (constant_skeletons Σ) (context_skeletons (onto L O)) (lift_over L τ) (lift_over L σ) (λ i u z. let (A, a, e) = skeleton_has_variable (onto L O) i u z in (instance_agree Σ L O τ σ c agrees).1 i A a) M t k) (terms_here L Ms c s)
    terms_here L (None ∷ Ms) c s = ap (λ Ns. None ∷ Ns) (terms_here L Ms c s)

    local_put : (L : List LfType) → IsContext Σ (onto L O) → (l : TypedSubstitution Σ ok O P σ) → IsContext Σ (onto (instance L σ) P) × TypedSubstitution Σ ok (onto L O) (onto (instance L σ) P) (lift_over L σ)
    local_put [] c l = (cp, l)
    local_put (A ∷ L) (c, t) l = let (d, k) = local_put L c l in ((d, substitution_keeps_types Σ ok (onto L O) (onto (instance L σ) P) (lift_over L σ) A k t), lifted_substitution_typed Σ ok (onto L O) (onto (instance L σ) P) (lift_over L σ) A k (type_by_skeletons Σ (onto L O) A t))

    -- The lemma
    pub stays_typed : IsTypedBeside Σ W D p
    stays_typed =
        let E : List LfType = binders [] p.type in
        let S : Spine = target_arguments p.type in
        let K : Kind = tb.kind in
        let L : List LfType = C.local in
        let fσ : SubstitutionBySkeletons (constant_skeletons Σ) (context_skeletons O) (context_skeletons P) σ = typed_substitution_by_skeletons Σ ok O P σ ts in
        let li : instance L τ ≡ instance L σ = (instance_agree Σ L O τ σ tb.local_typed agrees).0 in
        let cl : IsContext Σ (onto L X) = subst (IsContext Σ) (onto_onto L O Q) (onto_context Σ ok (onto L O) Q tb.local_typed tp.clause_typed) in
        let lt : instance (instance E g) τ ≡ instance E h = local_twice E (arguments_local Σ ok W typed C p tp tb) in
        let el2 : D.local ≡ instance E h = el ∙ sym li ∙ ap (λ M. instance M τ) tb.local ∙ lt in
        let ck : IsKind Σ [] K = ok.kinds_ok C.family K tb.of_family in
        let ss : SpineSkeleton (constant_skeletons Σ) (context_skeletons (onto E Q)) S (kind_skeleton 0 K) (base 0) = kind_spine_has_skeleton Σ 0 (onto E Q) S K (arguments_fit Σ ok W typed C p tp tb) in
        let T : Spine = with_given C p.clause E S in
        let st : SpineSkeleton (constant_skeletons Σ) (context_skeletons (onto L X)) T (kind_skeleton 0 K) (base 0) = subst (λ M. SpineSkeleton (constant_skeletons Σ) (context_skeletons (onto M X)) T (kind_skeleton 0 K) (base 0)) (sym tb.local) (Rattle.lf.proofs.SkeletonTyping.substitution_keeps_spine_skeletons (constant_skeletons Σ) (context_skeletons (onto E Q)) (context_skeletons (onto (instance E g) X)) (lift_over E g) S (kind_skeleton 0 K) (base 0) (lifted Σ E Q X g fg) ss) in
        let a : TypedArguments Σ (onto (instance L τ) Y) (put_in (lift_over L τ) C.arguments) (substitute_spine reduce (lift_over L τ) T) (substitute_kind reduce (lift_over L τ) K) = arguments_put L cl C.arguments T K (kind_by_skeletons Σ (onto L X) K (family_kind Σ ok (onto L X) C.family K tb.of_family)) st tb.arguments in
        let ts2 : substitute_spine reduce (lift_over L τ) T ≡ substitute_spine reduce (lift_over E h) S = ap (λ M. substitute_spine reduce (lift_over M τ) T) tb.local ∙ ap (λ f. substitute_spine reduce f T) (lift_instance E g τ) ∙ substitutions_compose_spine (constant_skeletons Σ) (context_skeletons (onto E Q)) (context_skeletons (onto (instance E g) X)) (context_skeletons (onto (instance (instance E g) τ) Y)) (lift_over E g) (lift_over E τ) S (kind_skeleton 0 K) (base 0) (lifted Σ E Q X g fg) (lifted_instance Σ X Y E g τ joint_fits) ss ∙ ap (λ f. substitute_spine reduce f S) (images_after E) in
        let a2 : TypedArguments Σ (onto (instance L σ) Y) (put_in (lift_over L σ) C.arguments) (substitute_spine reduce (lift_over E h) S) K =
        subst (TypedArguments Σ (onto (instance L σ) Y) (put_in (lift_over L σ) C.arguments) (substitute_spine reduce (lift_over E h) S)) (closed_kind_substituted Σ reduce (lift_over L τ) K ck)
        (subst (λ T2. TypedArguments Σ (onto (instance L σ) Y) (put_in (lift_over L σ) C.arguments) T2 (substitute_kind reduce (lift_over L τ) K)) ts2
        (subst (λ Ms. TypedArguments Σ (onto (instance L σ) Y) Ms (substitute_spine reduce (lift_over L τ) T) (substitute_kind reduce (lift_over L τ) K)) (terms_here L C.arguments tb.local_typed tb.by_skeletons.arguments)
        (subst (λ M. TypedArguments Σ (onto M Y) (put_in (lift_over L τ) C.arguments) (substitute_spine reduce (lift_over L τ) T) (substitute_kind reduce (lift_over L τ) K)) li a))) in
        let gh : given_images Q D.given m ≡ h = ap (λ Ms. given_images Q Ms m) eg in
        record {
          by_skeletons = record {
            items = items;
            given = subst (HaveSkeletons (constant_skeletons Σ) (context_skeletons P)) (sym eg) (put_in_fits (constant_skeletons Σ) (context_skeletons O) (context_skeletons P) σ C.given fσ tb.by_skeletons.given);
            arguments = subst (λ M. HaveSkeletons (constant_skeletons Σ) (context_skeletons (onto M P)) D.arguments) (sym el) (subst (HaveSkeletons (constant_skeletons Σ) (context_skeletons (onto (instance L σ) P))) (sym ea) (put_in_fits (constant_skeletons Σ) (context_skeletons (onto L O)) (context_skeletons (onto (instance L σ) P)) (lift_over L σ) C.arguments (lifted Σ L O P σ fσ) tb.by_skeletons.arguments));
          };
          local_typed = subst (λ M. IsContext Σ (onto M P)) (sym el) (local_put L tb.local_typed (record { typed = ts; source_skeletons = skeleton_context_of Σ ok O co; target_skeletons = skeleton_context_of Σ ok P cp })).0;
          same_family = tb.same_family ∙ sym ef;
          kind = K;
          of_family = ap Σ.kinds ef ∙ tb.of_family;
          given = subst (λ Ms. Values Σ (is_given Ms) Q P (given_images Q Ms m)) (sym eg) given_values_typed;
          local = el2 ∙ ap (instance E) (sym gh);
          arguments = subst (λ M. TypedArguments Σ (onto M Y) D.arguments (with_given D p.clause E S) K) (sym el) (subst (λ Ms. TypedArguments Σ (onto (instance L σ) Y) Ms (with_given D p.clause E S) K) (sym ea) (subst (λ f. TypedArguments Σ (onto (instance L σ) Y) (put_in (lift_over L σ) C.arguments) (substitute_spine reduce (lift_over E f) S) K) (sym gh) a2));
        }
      where
        arguments_local : (Σ : Signature) (ok : IsSignature Σ) (W : List Block) (typed : AreTypedBlocks Σ W) (C : Case) (p : Pattern) (tp : IsTypedPattern Σ p) (tb : IsTypedBeside Σ W C p) → IsContext Σ (onto (binders [] p.type) (scope p.clause))
        arguments_local Σ ok W typed C p tp tb = Rattle.lf_coverage.proofs.MeetReady.local_typed Σ ok W typed C p tp tb

        local_twice : (L : List LfType) → IsContext Σ (onto L Q) → instance (instance L g) τ ≡ instance L h
        local_twice [] c = refl
        local_twice (A ∷ L) (c, t) = ap₂ ◌∷◌ (ap (λ f. substitute_type reduce f (substitute_type reduce (lift_over L g) A)) (lift_instance L g τ) ∙ substitutions_compose_type (family_skeletons Σ) (constant_skeletons Σ) (context_skeletons (onto L Q)) (context_skeletons (onto (instance L g) X)) (context_skeletons (onto (instance (instance L g) τ) Y)) (lift_over L g) (lift_over L τ) A (lifted Σ L Q X g fg) (lifted_instance Σ X Y L g τ joint_fits) (type_by_skeletons Σ (onto L Q) A t) ∙ ap (λ f. substitute_type reduce f A) (images_after L)) (local_twice L c)
