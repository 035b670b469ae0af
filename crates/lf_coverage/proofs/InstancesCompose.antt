-- Typed instances of cases compose, where no item is a block variable; and so each case that the strategy reaches is a typed instance of the goal.
use Rattle.std.proofs.Common.{◌≡◌, ℕ, zero, suc, List, [], ◌∷◌, refl, sym, ap, ap₂, ◌∙◌, subst}
use Rattle.std.specs.Prelude.{Bool, Option, Some, None}
use Rattle.lf.specs.Syntax.{variable, Term, LfType, Skeleton, skeleton}
use Rattle.lf.specs.Substitution.{Image, keep, put, substitute, substitute_image, substitute_type, reduce, after}
use Rattle.lf.specs.SkeletonTyping.{TermSkeleton, SubstitutionBySkeletons}
use Rattle.lf.specs.Skeletons.{constant_skeletons, family_skeletons, context_skeletons}
use Rattle.lf.specs.AtOnce.{in_front}
use Rattle.lf.specs.Eta.{eta_long}
use Rattle.lf.specs.Typing.{Signature, HasType, IsTypedSubstitution, IsContext, IsSignature}
use Rattle.lf.specs.Variables.{onto}
use Rattle.lf.specs.Subordination.{Block, AreTypedBlocks}
use Rattle.lf.specs.Worlds.{lift_over, instance}
use Rattle.lf.proofs.Composition.{substitutions_compose}
use Rattle.lf.proofs.EtaTyping.{eta_long_has_type}
use Rattle.lf.proofs.SkeletonTypes.{substitutions_compose_type, substitution_keeps_types_by_skeletons}
use Rattle.lf.proofs.Substitution.{TypedSubstitution, skeleton_context_of, substitution_keeps_typing, typed_substitution_by_skeletons}
use Rattle.lf.proofs.ToSkeletons.{type_by_skeletons}
use Rattle.lf.proofs.TypeLaws.{skeleton_substituted}
use Rattle.lf.proofs.Weakening.{declared_is_type}
use Rattle.lf_cases.specs.Case.{Item, free_variable, block_variable, Case, items_context}
use Rattle.lf_cases.specs.Split.{HasNoBlockVariable}
use Rattle.lf_cases.specs.Missing.{AreTypedItems, BlockAmong, IsTypedInstance, IsInstanceOfGoal, put_in}
use Rattle.lf_cases.specs.Pattern.{Pattern}
use Rattle.lf_cases.specs.Reached.{Reached, goal_is_reached, split_is_reached}
use Rattle.lf_cases.proofs.LongValues.{long_at}
use Rattle.lf_cases.proofs.OutputItems.{lifted}
use Rattle.lf_coverage.specs.Heads.{HaveSkeletons, IsTypedCase}
use Rattle.lf_coverage.specs.MeetStore.{IsOpen}
use Rattle.lf_coverage.specs.TypedLocal.{HasTypedLocal}
use Rattle.lf_coverage.specs.Laws.{InstancesCompose, ReachedIsInstance}
use Rattle.lf_coverage.proofs.GroundTyped.{front_typed}
use Rattle.lf_coverage.proofs.ItemsContext.{items_are_context}
use Rattle.lf_coverage.proofs.LongValuesStay.{local_stays, terms_stay, type_stays}
use Rattle.lf_coverage.proofs.SolvedCase.{typed_instance}
use Rattle.lf_coverage.proofs.SplitInstance.{split_case_is_instance}
use Rattle.lf_coverage.proofs.StoreSolution.{long_at_is}
use Rattle.lf_coverage.proofs.Transfer.{lift_instance, after_over, lifted_instance}
use mathlib.Core.Path.{fun_ext}

pub front_after : (x : Image) (τ ρ : ℕ → Image) (i : ℕ) → after ρ (in_front x τ) i ≡ in_front (substitute_image ρ x) (after ρ τ) i
front_after x τ ρ zero = refl
front_after x τ ρ (suc i) = refl

-- what is put in twice is put in at once
module _ (Σ : Signature) (C J G : List LfType) (σ ρ : ℕ → Image) (fσ : SubstitutionBySkeletons (constant_skeletons Σ) (context_skeletons C) (context_skeletons J) σ) (fρ : SubstitutionBySkeletons (constant_skeletons Σ) (context_skeletons J) (context_skeletons G) ρ) where
  pub first_under : (L : List LfType) → SubstitutionBySkeletons (constant_skeletons Σ) (context_skeletons (onto L C)) (context_skeletons (onto (instance L σ) J)) (lift_over L σ)
  first_under L = lifted Σ L C J σ fσ

  pub term_twice : (L : List LfType) (M : Term) (t : Skeleton) → TermSkeleton (constant_skeletons Σ) (context_skeletons (onto L C)) M t → substitute reduce (lift_over L ρ) (substitute reduce (lift_over L σ) M) ≡ substitute reduce (lift_over L (after ρ σ)) M
  term_twice L M t m =
      substitutions_compose (constant_skeletons Σ) (context_skeletons (onto L C)) (context_skeletons (onto (instance L σ) J)) (context_skeletons (onto (instance (instance L σ) ρ) G)) (lift_over L σ) (lift_over L ρ) M t (first_under L) (lifted_instance Σ J G L σ ρ fρ) m
      ∙ ap (λ f. substitute reduce f M) (after_over L σ ρ)

  pub terms_twice : (L : List LfType) (Ms : List (Option Term)) → HaveSkeletons (constant_skeletons Σ) (context_skeletons (onto L C)) Ms → put_in (lift_over L ρ) (put_in (lift_over L σ) Ms) ≡ put_in (lift_over L (after ρ σ)) Ms
  terms_twice L [] h = refl
  terms_twice L (Some M ∷ Ms) ((t, m), h) = ap₂ (λ N Ns. Some N ∷ Ns) (term_twice L M t m) (terms_twice L Ms h)
  terms_twice L (None ∷ Ms) h = ap (λ Ns. None ∷ Ns) (terms_twice L Ms h)

  pub local_twice : (L : List LfType) → IsContext Σ (onto L C) → instance (instance L σ) ρ ≡ instance L (after ρ σ)
  local_twice [] c = refl
  local_twice (A ∷ L) (c, t) = ap₂ (λ X Y. X ∷ Y) one (local_twice L c)
    where
      one : substitute_type reduce (lift_over (instance L σ) ρ) (substitute_type reduce (lift_over L σ) A) ≡ substitute_type reduce (lift_over L (after ρ σ)) A
      one =
          ap (λ f. substitute_type reduce f (substitute_type reduce (lift_over L σ) A)) (lift_instance L σ ρ)
          ∙ substitutions_compose_type (family_skeletons Σ) (constant_skeletons Σ) (context_skeletons (onto L C)) (context_skeletons (onto (instance L σ) J)) (context_skeletons (onto (instance (instance L σ) ρ) G)) (lift_over L σ) (lift_over L ρ) A (first_under L) (lifted_instance Σ J G L σ ρ fρ) (type_by_skeletons Σ (onto L C) A t)
          ∙ ap (λ f. substitute_type reduce f A) (after_over L σ ρ)

module _ (Σ : Signature) (ok : IsSignature Σ) (W : List Block) (typed : AreTypedBlocks Σ W) where
  -- a typed instance of free variables is a typed substitution
  pub instance_is_typed : (J I : List Item) (σ : ℕ → Image) → HasNoBlockVariable I → IsTypedInstance Σ J I σ → IsTypedSubstitution Σ (items_context I) (items_context J) σ
  instance_is_typed J [] σ n g = λ i A x. absurd x
  instance_is_typed J (free_variable A ∷ I) σ n (N, τ, g, t, e) = subst (IsTypedSubstitution Σ (A ∷ items_context I) (items_context J)) (sym e) (front_typed Σ ok W typed (items_context I) (items_context J) A (put (skeleton A) N) τ (instance_is_typed J I τ n g) (skeleton_substituted reduce τ A, t))
  instance_is_typed J (block_variable B υ ∷ I) σ n g = absurd n

  pub instance_by_skeletons : (J I : List Item) (σ : ℕ → Image) → HasNoBlockVariable I → IsTypedInstance Σ J I σ → SubstitutionBySkeletons (constant_skeletons Σ) (context_skeletons (items_context I)) (context_skeletons (items_context J)) σ
  instance_by_skeletons J I σ n g = typed_substitution_by_skeletons Σ ok (items_context I) (items_context J) σ (instance_is_typed J I σ n g)

  -- two of them compose
  module _ (F J : List Item) (ρ : ℕ → Image) (af : AreTypedItems Σ W F) (aj : AreTypedItems Σ W J) (nj : HasNoBlockVariable J) (r : IsTypedInstance Σ F J ρ) where
    second_typed : TypedSubstitution Σ ok (items_context J) (items_context F) ρ
    second_typed = record {
      typed = instance_is_typed F J ρ nj r;
      source_skeletons = skeleton_context_of Σ ok (items_context J) (items_are_context Σ ok W typed J aj);
      target_skeletons = skeleton_context_of Σ ok (items_context F) (items_are_context Σ ok W typed F af);
    }

    instance_of_instance : (I : List Item) (σ : ℕ → Image) → AreTypedItems Σ W I → HasNoBlockVariable I → IsTypedInstance Σ J I σ → IsTypedInstance Σ F I (after ρ σ)
    instance_of_instance [] σ a n g = tt
    instance_of_instance (free_variable A ∷ I) σ (a, ta) n (N, τ, g, t, e) =
        let f : SubstitutionBySkeletons (constant_skeletons Σ) (context_skeletons (items_context I)) (context_skeletons (items_context J)) τ = instance_by_skeletons J I τ n g in
        let k = type_by_skeletons Σ (items_context I) A ta in
        let m : HasType Σ (items_context F) (substitute reduce ρ N) (substitute_type reduce ρ (substitute_type reduce τ A)) = substitution_keeps_typing Σ ok (items_context J) (items_context F) ρ N (substitute_type reduce τ A) second_typed (substitution_keeps_types_by_skeletons (family_skeletons Σ) (constant_skeletons Σ) (context_skeletons (items_context I)) (context_skeletons (items_context J)) τ A f k) t in
        let c : substitute_type reduce ρ (substitute_type reduce τ A) ≡ substitute_type reduce (after ρ τ) A = substitutions_compose_type (family_skeletons Σ) (constant_skeletons Σ) (context_skeletons (items_context I)) (context_skeletons (items_context J)) (context_skeletons (items_context F)) τ ρ A f (instance_by_skeletons F J ρ nj r) k in
        (substitute reduce ρ N, after ρ τ, instance_of_instance I τ a n g, subst (HasType Σ (items_context F) (substitute reduce ρ N)) c m, ap (after ρ) e ∙ fun_ext (front_after (put (skeleton A) N) τ ρ))
    instance_of_instance (block_variable B υ ∷ I) σ a n g = absurd n

pub instances_compose : InstancesCompose
instances_compose Σ ok W typed goal C D tg tl ng nc i j =
    let f : SubstitutionBySkeletons (constant_skeletons Σ) (context_skeletons (items_context goal.items)) (context_skeletons (items_context C.items)) i.values = instance_by_skeletons Σ ok W typed C.items goal.items i.values ng i.is_instance in
    let h : SubstitutionBySkeletons (constant_skeletons Σ) (context_skeletons (items_context C.items)) (context_skeletons (items_context D.items)) j.values = instance_by_skeletons Σ ok W typed D.items C.items j.values nc j.is_instance in
    record {
      typed_items = j.typed_items;
      values = after j.values i.values;
      is_instance = instance_of_instance Σ ok W typed D.items C.items j.values j.typed_items i.typed_items nc j.is_instance goal.items i.values tg.items ng i.is_instance;
      same_family = j.same_family ∙ i.same_family;
      same_given = j.same_given ∙ ap (put_in j.values) i.same_given ∙ terms_twice Σ (items_context goal.items) (items_context C.items) (items_context D.items) i.values j.values f h [] goal.given tg.given;
      same_local = j.same_local ∙ ap (λ L. instance L j.values) i.same_local ∙ local_twice Σ (items_context goal.items) (items_context C.items) (items_context D.items) i.values j.values f h goal.local tl;
      same_arguments = j.same_arguments ∙ ap₂ (λ L Ms. put_in (lift_over L j.values) Ms) i.same_local i.same_arguments ∙ ap (λ f. put_in f (put_in (lift_over goal.local i.values) goal.arguments)) (lift_instance goal.local i.values j.values) ∙ terms_twice Σ (items_context goal.items) (items_context C.items) (items_context D.items) i.values j.values f h goal.local goal.arguments tg.arguments;
    }

-- A typed case is a typed instance of itself.
whole : (Σ : Signature) → IsSignature Σ → (W : List Block) → AreTypedBlocks Σ W → (C : Case) → IsTypedCase Σ W C → HasTypedLocal Σ C → HasNoBlockVariable C.items → IsInstanceOfGoal Σ W C C
whole Σ ok W typed C tc tl n =
    let O : List LfType = items_context C.items in
    let c : IsContext Σ (items_context C.items) = items_are_context Σ ok W typed C.items tc.items in
    record {
      typed_items = tc.items;
      values = long_at (items_context C.items) keep;
      is_instance = typed_instance Σ C.items C.items n (long_at (items_context C.items) keep) (λ i A k. (eta_long (skeleton A) (variable i), long_at_is (items_context C.items) keep i A k, subst (HasType Σ (items_context C.items) (eta_long (skeleton A) (variable i))) (sym (type_stays Σ (items_context C.items) [] A (type_by_skeletons Σ (items_context C.items) A (declared_is_type Σ ok (items_context C.items) i A c k)))) (eta_long_has_type Σ ok (items_context C.items) (variable i) A c k)));
      same_family = refl;
      same_given = sym (terms_stay Σ O [] C.given tc.given);
      same_local = sym (local_stays Σ O C.local tl);
      same_arguments = sym (terms_stay Σ O C.local C.arguments tc.arguments);
    }

-- A typed instance over items without block variables is one of items without any.
none_among : (J : List Item) (B : Block) (θ : ℕ → Image) → HasNoBlockVariable J → BlockAmong J B θ → ⊥
none_among [] B θ n b = b
none_among (free_variable A ∷ J) B θ n (τ, b, e) = none_among J B τ n b
none_among (block_variable C υ ∷ J) B θ n b = n

pub none_before : (Σ : Signature) (J I : List Item) (σ : ℕ → Image) → HasNoBlockVariable J → IsTypedInstance Σ J I σ → HasNoBlockVariable I
none_before Σ J [] σ n g = tt
none_before Σ J (free_variable A ∷ I) σ n (N, τ, g, t, e) = none_before Σ J I τ n g
none_before Σ J (block_variable B υ ∷ I) σ n (θ, τ, g, b, s, e) = none_among J B θ n b

-- The lemma, whatever is open
pub reached_by : (Σ : Signature) (ok : IsSignature Σ) (W : List Block) (typed : AreTypedBlocks Σ W) (Open : Case → Pattern → Type 0) (below : ℕ → ℕ → Bool) (ps : List Pattern) (goal : Case) → IsTypedCase Σ W goal → HasTypedLocal Σ goal → (D : Case) → HasNoBlockVariable D.items → Reached Σ W Open below ps goal D → IsInstanceOfGoal Σ W goal D
reached_by Σ ok W typed Open below ps goal tg tl D n goal_is_reached = whole Σ ok W typed goal tg tl n
reached_by Σ ok W typed Open below ps goal tg tl D n (split_is_reached {C = C} x r none first s) =
    let j : IsInstanceOfGoal Σ W C D = split_case_is_instance Σ W below C x D s in
    let nc : HasNoBlockVariable C.items = none_before Σ D.items C.items j.values n j.is_instance in
    let i : IsInstanceOfGoal Σ W goal C = reached_by Σ ok W typed Open below ps goal tg tl C nc r in
    instances_compose Σ ok W typed goal C D tg tl (none_before Σ C.items goal.items i.values nc i.is_instance) nc i j

pub reached_is_instance : ReachedIsInstance
reached_is_instance Σ ok W typed below ps goal tg tl D r n = reached_by Σ ok W typed (IsOpen Σ) below ps goal tg tl D n r
