-- The outputs of a subgoal as raised variables: their types are types, and the arguments have the types of their places.
use Rattle.std.proofs.Common.{◌≡◌, ℕ, zero, suc, ◌+◌, List, [], ◌∷◌, length, refl, sym, ap, ap₂, ◌∙◌, subst, arith}
use Rattle.std.specs.Prelude.{Bool, true, false}
use Rattle.lf.specs.Syntax.{Term, Spine, nil, app, LfType, Kind, kind_pi, star, Skeleton, skeleton, weaken, rename, rename_spine, rename_type, rename_kind, lift_renaming}
use Rattle.lf.specs.Substitution.{Image, keep, put, rename_image, lift, single, substitute_type, substitute_kind, reduce}
use Rattle.lf.specs.Skeletons.{constant_skeletons, family_skeletons, context_skeletons}
use Rattle.lf.specs.AtOnce.{in_front, shift_by, lift_renaming_by}
use Rattle.lf.specs.Typing.{Signature, TypeAt, HasType, SpineFitsKind, IsType, IsKind, IsContext, IsSignature, IsTypedRenaming, IsTypedSubstitution, ImageHasType, instantiate_kind}
use Rattle.lf.specs.Variables.{target, onto, under, hide, SameOn, IsTypedRenamingOn}
use Rattle.lf.specs.Subordination.{Block, AreTypedBlocks}
use Rattle.lf.proofs.Agreement.{agree_on_type}
use Rattle.lf.proofs.Renaming.{reduction_is_natural, rename_lift, renamings_compose, renamings_compose_spine, up_up}
use Rattle.lf.proofs.Strength.{strengthening_keeps_typing}
use Rattle.lf.proofs.Substitution.{skeleton_context_of, substitution_keeps_types, typed_substitution_by_skeletons}
use Rattle.lf.proofs.ToSkeletons.{kind_by_skeletons, typed_has_skeleton}
use Rattle.lf.proofs.TypeLaws.{skeleton_renamed, skeleton_substituted, rename_single_kind, rename_substituted_kind, rename_substituted_type, renamings_compose_type, substitute_renamed_type, substitution_as_renaming_kind}
use Rattle.lf.proofs.Weakening.{renaming_keeps_typing}
use Rattle.lf_checks.specs.Marks.{Mark, input, output, free, input_places, output_places, AreSound, NoneFree, UsesPlaces}
use Rattle.lf_cases.specs.Case.{Item, free_variable, items_context, chosen_count}
use Rattle.lf_cases.specs.Missing.{AreTypedItems}
use Rattle.lf_cases.specs.OutputGoal.{renumber, over_item, raised_variable, output_masks, output_items, output_arguments}
use Rattle.lf_cases.specs.Raised.{raise_by, raised_over, first_mask, other_masks}
use Rattle.lf_cases.proofs.OutputItems.{arguments_renumber, arguments_substituted, count_substituted, length_renumber}
use Rattle.lf_cases.proofs.Raised.{CanBeRaised, can_raise}
use Rattle.lf_coverage.specs.TypedCase.{TypedArguments}
use Rattle.lf_coverage.proofs.Forms.{no_shift_type}
use Rattle.lf_coverage.proofs.GivenValues.{local_context, local_renames}
use Rattle.lf_coverage.proofs.InputTyped.{kind_front}
use Rattle.lf_coverage.proofs.ItemsContext.{items_are_context}
use Rattle.lf_coverage.proofs.RaisedTyped.{lift_sum, raised_is_type, raised_typed, renumber_twice}
use Rattle.lf_coverage.proofs.ResultType.{variable_moved}
use mathlib.Core.Path.{fun_ext}

next : (i n : ℕ) → suc i + n ≡ i + suc n
next i n = omega arith

none : (n : ℕ) → 0 + n ≡ n
none n = omega arith

-- arguments and counts depend on skeletons alone
arguments_renamed : (ks : List (List Bool)) (D : List LfType) (b : List Bool) (ρ : ℕ → ℕ) (K : Kind) → output_arguments ks D b (rename_kind ρ K) ≡ output_arguments ks D b K
arguments_renamed ks D b ρ K = ap (output_arguments ks D b) (sym (substitution_as_renaming_kind reduce ρ K)) ∙ arguments_substituted ks D b (λ i. keep (ρ i)) K

image_renamed_typed : (Σ : Signature) → IsSignature Σ → (G D : List LfType) (ρ : ℕ → ℕ) (x : Image) (A : LfType) → IsTypedRenaming G D ρ → ImageHasType Σ G x A → ImageHasType Σ D (rename_image ρ x) (rename_type ρ A)
image_renamed_typed Σ ok G D ρ (keep j) A r t = r j A t
image_renamed_typed Σ ok G D ρ (put a N) A r (e, t) = (skeleton_renamed ρ A ∙ e, renaming_keeps_typing Σ ok G D ρ N A r t)

module _ (Σ : Signature) (ok : IsSignature Σ) (W : List Block) (typed : AreTypedBlocks Σ W) where
  -- What is known of the raised variables of the places of a kind K, n of them, over the items I and the local context D: the new items are typed,
  -- the old ones stand behind them, and the arguments have the types of their places, where at the others the arguments S stand.
  pub record PlacesTyped (ks : List (List Bool)) (D : List LfType) (n : ℕ) (b : List Bool) (S : Spine) (K : Kind) (I : List Item) : Type 0 where
    pub items : AreTypedItems Σ W (output_items ks D b S K I)
    pub behind : IsTypedRenaming (items_context I) (items_context (output_items ks D b S K I)) (shift_by n)
    pub arguments : TypedArguments Σ (onto (renumber (shift_by n) D) (items_context (output_items ks D b S K I))) (output_arguments ks D b K) (rename_spine (lift_renaming_by (length D) (shift_by n)) S) (rename_kind (lift_renaming_by (length D) (shift_by n)) K)

  -- one place that isn't an output
  input_place : (ks : List (List Bool)) (D : List LfType) (n : ℕ) (b : List Bool) (M : Term) (S : Spine) (A : LfType) (K : Kind) (I : List Item) → PlacesTyped ks D n b S (instantiate_kind A M K) I → PlacesTyped ks D n (false ∷ b) (app M S) (kind_pi A K) I
  input_place ks D n b M S A K I h =
      let l : ℕ → ℕ = lift_renaming_by (length D) (shift_by n) in
      let F : List LfType = onto (renumber (shift_by n) D) (items_context (output_items ks D b S (instantiate_kind A M K) I)) in
      let e : rename_kind l (instantiate_kind A M K) ≡ instantiate_kind (rename_type l A) (rename l M) (rename_kind (lift_renaming l) K) = rename_single_kind l (skeleton A) M K ∙ ap (λ a. substitute_kind reduce (single a (rename l M)) (rename_kind (lift_renaming l) K)) (sym (skeleton_renamed l A)) in
      record {
        items = h.items;
        behind = h.behind;
        arguments = subst (λ Ms. TypedArguments Σ F Ms (rename_spine l S) (instantiate_kind (rename_type l A) (rename l M) (rename_kind (lift_renaming l) K))) (arguments_substituted ks D b (single (skeleton A) M) K) (subst (TypedArguments Σ F (output_arguments ks D b (instantiate_kind A M K)) (rename_spine l S)) e h.arguments);
      }

  -- one that is
  output_place : (ks : List (List Bool)) (D : List LfType) (n : ℕ) (b : List Bool) (M : Term) (S : Spine) (A : LfType) (K : Kind) (I : List Item) → AreTypedItems Σ W I → IsContext Σ (onto D (items_context I)) → IsType Σ (onto D (items_context I)) A → CanBeRaised (first_mask ks) D A → chosen_count b K ≡ n → PlacesTyped (other_masks ks) (renumber suc D) n b (rename_spine (over_item D) S) (instantiate_kind A (raised_variable (first_mask ks) D A zero) (rename_kind (lift_renaming (over_item D)) K)) (free_variable (raise_by (first_mask ks) D A) ∷ I) → PlacesTyped ks D (suc n) (true ∷ b) (app M S) (kind_pi A K) I
  output_place ks D n b M S A K I ti c ta r q h =
      let G : List LfType = items_context I in
      let k : List Bool = first_mask ks in
      let Z : LfType = raise_by k D A in
      let D1 : List LfType = renumber suc D in
      let N : Term = raised_variable k D A zero in
      let l : ℕ → ℕ = over_item D in
      let B1 : Kind = rename_kind (lift_renaming l) K in
      let K1 : Kind = instantiate_kind A N B1 in
      let P : List Item = output_items (other_masks ks) D1 b (rename_spine l S) K1 (free_variable Z ∷ I) in
      let Y : List LfType = items_context P in
      let m : ℕ → ℕ = lift_renaming_by (length D) (shift_by (suc n)) in
      let at : TypeAt Y n (rename_type (shift_by (suc n)) Z) = subst (TypeAt Y n) (renamings_compose_type (shift_by n) suc Z ∙ ap (λ f. rename_type f Z) (fun_ext (λ i. next i n))) (subst (λ j. TypeAt Y j (rename_type (shift_by n) (weaken Z))) (none n) (h.behind zero (weaken Z) refl)) in
      let back : IsTypedRenaming G Y (shift_by (suc n)) = λ i V g. subst (TypeAt Y (i + suc n)) (renamings_compose_type (shift_by n) suc V ∙ ap (λ f. rename_type f V) (fun_ext (λ j. next j n))) (subst (λ j. TypeAt Y j (rename_type (shift_by n) (weaken V))) (next i n) (h.behind (suc i) (weaken V) (V, g, refl))) in
      let F : List LfType = onto (renumber (shift_by (suc n)) D) Y in
      let nt : HasType Σ F (raised_variable k D A n) (rename_type m A) = raised_typed Σ ok W typed k D G Y (shift_by (suc n)) A n c ta r back (items_are_context Σ ok W typed P h.items) at in
      let dd : renumber (shift_by n) D1 ≡ renumber (shift_by (suc n)) D = renumber_twice Σ ok W typed (shift_by n) suc D ∙ ap (λ f. renumber f D) (fun_ext (λ i. next i n)) in
      let ll : (λ i. lift_renaming_by (length D1) (shift_by n) (l i)) ≡ m = ap (λ j i. lift_renaming_by j (shift_by n) (l i)) (length_renumber suc D) ∙ lift_sum Σ ok W typed (length D) n in
      let es : rename_spine (lift_renaming_by (length D1) (shift_by n)) (rename_spine l S) ≡ rename_spine m S = renamings_compose_spine (lift_renaming_by (length D1) (shift_by n)) l S ∙ ap (λ f. rename_spine f S) ll in
      let ek : rename_kind (lift_renaming_by (length D1) (shift_by n)) K1 ≡ instantiate_kind (rename_type m A) (raised_variable k D A n) (rename_kind (lift_renaming m) K) =
      ap (λ j. rename_kind (lift_renaming_by j (shift_by n)) K1) (length_renumber suc D)
      ∙ rename_single_kind (lift_renaming_by (length D) (shift_by n)) (skeleton A) N B1
      ∙ ap₂ (λ M T. substitute_kind reduce (single (skeleton A) M) T) (variable_moved k D A zero n ∙ ap (raised_variable k D A) (none n)) (renamed_twice (lift_renaming (lift_renaming_by (length D) (shift_by n))) (lift_renaming l) K ∙ ap (λ f. rename_kind f K) (fun_ext (up_up (lift_renaming_by (length D) (shift_by n)) l) ∙ ap lift_renaming (lift_sum Σ ok W typed (length D) n)))
      ∙ ap (λ a. substitute_kind reduce (single a (raised_variable k D A n)) (rename_kind (lift_renaming m) K)) (sym (skeleton_renamed m A)) in
      let ea : output_arguments (other_masks ks) D1 b K1 ≡ output_arguments (other_masks ks) D b K = arguments_renumber (other_masks ks) suc D b K1 ∙ arguments_substituted (other_masks ks) D b (single (skeleton A) N) B1 ∙ arguments_renamed (other_masks ks) D b (lift_renaming l) K in
      let a0 : TypedArguments Σ F (output_arguments (other_masks ks) D1 b K1) (rename_spine (lift_renaming_by (length D1) (shift_by n)) (rename_spine l S)) (rename_kind (lift_renaming_by (length D1) (shift_by n)) K1) = subst (λ L. TypedArguments Σ (onto L Y) (output_arguments (other_masks ks) D1 b K1) (rename_spine (lift_renaming_by (length D1) (shift_by n)) (rename_spine l S)) (rename_kind (lift_renaming_by (length D1) (shift_by n)) K1)) dd h.arguments in
      let a1 : TypedArguments Σ F (output_arguments (other_masks ks) D b K) (rename_spine m S) (instantiate_kind (rename_type m A) (raised_variable k D A n) (rename_kind (lift_renaming m) K)) = subst (λ X. TypedArguments Σ F (output_arguments (other_masks ks) D b K) (rename_spine m S) X) ek (subst (λ T. TypedArguments Σ F (output_arguments (other_masks ks) D b K) T (rename_kind (lift_renaming_by (length D1) (shift_by n)) K1)) es (subst (λ Ms. TypedArguments Σ F Ms (rename_spine (lift_renaming_by (length D1) (shift_by n)) (rename_spine l S)) (rename_kind (lift_renaming_by (length D1) (shift_by n)) K1)) ea a0)) in
      record {
        items = h.items;
        behind = back;
        arguments = (subst (λ j. HasType Σ F (raised_variable k D A j) (rename_type m A)) (sym q) nt, subst (λ j. TypedArguments Σ F (output_arguments (other_masks ks) D b K) (rename_spine m S) (instantiate_kind (rename_type m A) (raised_variable k D A j) (rename_kind (lift_renaming m) K))) (sym q) a1);
      }
    where
      renamed_twice : (ρ τ : ℕ → ℕ) (K : Kind) → rename_kind ρ (rename_kind τ K) ≡ rename_kind (λ i. ρ (τ i)) K
      renamed_twice ρ τ K = sym (substitution_as_renaming_kind reduce ρ (rename_kind τ K)) ∙ Rattle.lf.proofs.TypeLaws.substitute_renamed_kind reduce (λ i. keep (ρ i)) τ K ∙ substitution_as_renaming_kind reduce (λ i. ρ (τ i)) K

  -- An argument put in keeps a substitution typed.
  front_typed : (G C : List LfType) (θ : ℕ → Image) (A : LfType) (M : Term) → IsTypedSubstitution Σ G C θ → HasType Σ C M (substitute_type reduce θ A) → IsTypedSubstitution Σ (A ∷ G) C (in_front (put (skeleton A) M) θ)
  front_typed G C θ A M s m zero X e = subst (λ T. (skeleton T ≡ skeleton A) × HasType Σ C M T) (sym (ap (substitute_type reduce (in_front (put (skeleton A) M) θ)) e ∙ substitute_renamed_type reduce (in_front (put (skeleton A) M) θ) suc A)) (skeleton_substituted reduce θ A, m)
  front_typed G C θ A M s m (suc i) X (B, g, e) = subst (ImageHasType Σ C (θ i)) (sym (ap (substitute_type reduce (in_front (put (skeleton A) M) θ)) e ∙ substitute_renamed_type reduce (in_front (put (skeleton A) M) θ) suc B)) (s i B g)

  renamed_substitution : (G C D : List LfType) (θ : ℕ → Image) (ρ : ℕ → ℕ) → IsTypedRenaming C D ρ → IsTypedSubstitution Σ G C θ → IsTypedSubstitution Σ G D (λ i. rename_image ρ (θ i))
  renamed_substitution G C D θ ρ r s i A g = subst (ImageHasType Σ D (rename_image ρ (θ i))) (rename_substituted_type reduce reduction_is_natural ρ θ A) (image_renamed_typed Σ ok C D ρ (θ i) (substitute_type reduce θ A) r (s i A g))

  kind_with : (G C : List LfType) (θ : ℕ → Image) (A : LfType) (M : Term) (K : Kind) → IsTypedSubstitution Σ G C θ → HasType Σ C M (substitute_type reduce θ A) → IsKind Σ (A ∷ G) K → instantiate_kind (substitute_type reduce θ A) M (substitute_kind reduce (lift θ) K) ≡ substitute_kind reduce (in_front (put (skeleton A) M) θ) K
  kind_with G C θ A M K s m k = kind_front (constant_skeletons Σ) (family_skeletons Σ) (context_skeletons G) (context_skeletons C) θ A M K (typed_substitution_by_skeletons Σ ok G C θ s) (subst (Rattle.lf.specs.SkeletonTyping.TermSkeleton (constant_skeletons Σ) (context_skeletons C) M) (skeleton_substituted reduce θ A) (typed_has_skeleton Σ C M (substitute_type reduce θ A) m)) (kind_by_skeletons Σ (A ∷ G) K k)

  image_twice : (ρ τ : ℕ → ℕ) (x : Image) → rename_image ρ (rename_image τ x) ≡ rename_image (λ i. ρ (τ i)) x
  image_twice ρ τ (keep j) = refl
  image_twice ρ τ (put a N) = ap (put a) (renamings_compose ρ τ N)

  -- the same at the inputs, with one more place
  same_input : (V : ℕ → Bool) (φ θ : ℕ → Image) (ρ : ℕ → ℕ) (a : Skeleton) (M : Term) → SameOn V φ (λ i. rename_image ρ (θ i)) → SameOn (under V) (in_front (put a (rename ρ M)) φ) (λ i. rename_image ρ (in_front (put a M) θ i))
  same_input V φ θ ρ a M s zero v = refl
  same_input V φ θ ρ a M s (suc i) v = s i v

  same_output : (V : ℕ → Bool) (φ θ : ℕ → Image) (ρ l : ℕ → ℕ) (a : Skeleton) (N M : Term) → SameOn V φ (λ i. rename_image ρ (θ i)) → SameOn (hide V) (in_front (put a N) (λ i. rename_image l (φ i))) (λ i. rename_image (λ j. l (ρ j)) (in_front (put a M) θ i))
  same_output V φ θ ρ l a N M s zero v = absurd cc
  same_output V φ θ ρ l a N M s (suc i) v = ap (rename_image l) (s i v) ∙ image_twice l ρ (θ i)

  -- The lemma. A subgoal's arguments S are typed in the context C, where θ stands for the places before; ρ takes the variables of C in the set U, those
  -- that its inputs mention, to the items I and the local context D; and there φ stands for the places before, at inputs the same.
  pub places_typed : (below : ℕ → ℕ → Bool) (n : ℕ) (m : List Mark) (V : ℕ → Bool) (G : List LfType) (K : Kind) (C : List LfType) (θ : ℕ → Image) (S : Spine) (U : ℕ → Bool) (ρ : ℕ → ℕ) (D : List LfType) (I : List Item) (φ : ℕ → Image) → NoneFree m → AreSound V m K → IsContext Σ G → IsKind Σ G K → IsTypedSubstitution Σ G C θ → SpineFitsKind Σ C S (substitute_kind reduce θ K) → UsesPlaces U (input_places m) S → AreTypedItems Σ W I → IsContext Σ (onto D (items_context I)) → IsTypedRenamingOn U C (onto D (items_context I)) ρ → IsTypedSubstitution Σ G (onto D (items_context I)) φ → SameOn V φ (λ i. rename_image ρ (θ i)) → chosen_count (output_places m) K ≡ n → PlacesTyped (output_masks below D (output_places m) (rename_spine ρ S) (substitute_kind reduce φ K)) D n (output_places m) (rename_spine ρ S) (substitute_kind reduce φ K) I
  places_typed below zero [] V G star C θ nil U ρ D I φ nf so cg k ts fit us ti c r tp same q = record {
    items = ti;
    behind = λ i A g. subst (λ j. TypeAt (items_context I) j (rename_type (shift_by 0) A)) (plus_none i) (subst (TypeAt (items_context I) i) (sym (no_shift_type A)) g);
    arguments = tt;
  }
    where
      plus_none : (i : ℕ) → i ≡ i + 0
      plus_none i = omega arith
  places_typed below (suc n) [] V G star C θ nil U ρ D I φ nf so cg k ts fit us ti c r tp same q = absurd cc
  places_typed below n [] V G star C θ (app M S) U ρ D I φ nf so cg k ts fit us ti c r tp same q = absurd fit
  places_typed below n [] V G (kind_pi A K) C θ S U ρ D I φ nf so cg k ts fit us ti c r tp same q = absurd so
  places_typed below n (b ∷ m) V G star C θ S U ρ D I φ nf so cg k ts fit us ti c r tp same q = absurd so
  places_typed below n (b ∷ m) V G (kind_pi A K) C θ nil U ρ D I φ nf so cg k ts fit us ti c r tp same q = absurd fit
  places_typed below n (free ∷ m) V G (kind_pi A K) C θ (app M S) U ρ D I φ nf so cg k ts fit us ti c r tp same q = absurd nf
  places_typed below n (input ∷ m) V G (kind_pi A K) C θ (app M S) U ρ D I φ nf (ua, so) cg (ta, k) ts (mt, fit) (um, us) ti c r tp same q =
      let E : List LfType = onto D (items_context I) in
      let e : rename_type ρ (substitute_type reduce θ A) ≡ substitute_type reduce φ A = rename_substituted_type reduce reduction_is_natural ρ θ A ∙ sym (agree_on_type reduce V φ (λ i. rename_image ρ (θ i)) A same ua) in
      let nt : HasType Σ E (rename ρ M) (substitute_type reduce φ A) = subst (HasType Σ E (rename ρ M)) e (strengthening_keeps_typing Σ ok U C E ρ M (substitute_type reduce θ A) r um mt) in
      let h = places_typed below n m (under V) (A ∷ G) K C (in_front (put (skeleton A) M) θ) S U ρ D I (in_front (put (skeleton A) (rename ρ M)) φ) nf so (cg, ta) k (front_typed G C θ A M ts mt) (subst (SpineFitsKind Σ C S) (kind_with G C θ A M K ts mt k) fit) us ti c r (front_typed G E φ A (rename ρ M) tp nt) (same_input V φ θ ρ (skeleton A) M same) q in
      let ks : Kind → List (List Bool) = λ X. output_masks below D (output_places m) (rename_spine ρ S) X in
      input_place (ks (instantiate_kind (substitute_type reduce φ A) (rename ρ M) (substitute_kind reduce (lift φ) K))) D n (output_places m) (rename ρ M) (rename_spine ρ S) (substitute_type reduce φ A) (substitute_kind reduce (lift φ) K) I
      (subst (λ X. PlacesTyped (ks X) D n (output_places m) (rename_spine ρ S) X I) (sym (kind_with G E φ A (rename ρ M) K tp nt k)) h)
  places_typed below zero (output ∷ m) V G (kind_pi A K) C θ (app M S) U ρ D I φ nf so cg (ta, k) ts (mt, fit) us ti c r tp same q = absurd cc
  places_typed below (suc n) (output ∷ m) V G (kind_pi A K) C θ (app M S) U ρ D I φ nf so cg (ta, k) ts (mt, fit) us ti c r tp same q =
      let O : List LfType = items_context I in
      let E : List LfType = onto D O in
      let cy : IsContext Σ O = items_are_context Σ ok W typed I ti in
      let B : LfType = substitute_type reduce φ A in
      let tb : IsType Σ E B = substitution_keeps_types Σ ok G E φ A (record { typed = tp; source_skeletons = skeleton_context_of Σ ok G cg; target_skeletons = skeleton_context_of Σ ok E c }) ta in
      let mask : List Bool = raised_over (below (target B)) D B in
      let can : CanBeRaised mask D B = can_raise (below (target B)) D B in
      let Z : LfType = raise_by mask D B in
      let tz : IsType Σ O Z = raised_is_type Σ ok W typed mask D O B c tb can in
      let D1 : List LfType = renumber suc D in
      let J : List Item = free_variable Z ∷ I in
      let l : ℕ → ℕ = over_item D in
      let H : List LfType = onto D1 (Z ∷ O) in
      let w : IsTypedRenaming O (Z ∷ O) suc = Rattle.lf.proofs.Weakening.weakening_renames O Z in
      let wl : IsTypedRenaming E H l = local_renames Σ ok D O (Z ∷ O) suc w in
      let ch : IsContext Σ H = local_context Σ ok D O (Z ∷ O) suc w c (cy, tz) in
      let N : Term = raised_variable mask D B zero in
      let nt : HasType Σ H N (rename_type l B) = raised_typed Σ ok W typed mask D O (Z ∷ O) suc B zero c tb can w (cy, tz) refl in
      let ψ : ℕ → Image = λ i. rename_image l (φ i) in
      let sp : IsTypedSubstitution Σ G H ψ = renamed_substitution G E H φ l wl tp in
      let eb : rename_type l B ≡ substitute_type reduce ψ A = rename_substituted_type reduce reduction_is_natural l φ A in
      let nt' : HasType Σ H N (substitute_type reduce ψ A) = subst (HasType Σ H N) eb nt in
      let r' : IsTypedRenamingOn U C H (λ i. l (ρ i)) = λ i X g u. subst (TypeAt H (l (ρ i))) (renamings_compose_type l ρ X) (wl (ρ i) (rename_type ρ X) (r i X g u)) in
      let h = places_typed below n m (hide V) (A ∷ G) K C (in_front (put (skeleton A) M) θ) S U (λ i. l (ρ i)) D1 J (in_front (put (skeleton A) N) ψ) nf so (cg, ta) k (front_typed G C θ A M ts mt) (subst (SpineFitsKind Σ C S) (kind_with G C θ A M K ts mt k) fit) us (ti, tz) ch r' (front_typed G H ψ A N sp nt') (same_output V φ θ ρ l (skeleton A) N M same) (suc_same q) in
      let T : Spine = rename_spine l (rename_spine ρ S) in
      let K1 : Kind = instantiate_kind B N (rename_kind (lift_renaming l) (substitute_kind reduce (lift φ) K)) in
      let ek : K1 ≡ substitute_kind reduce (in_front (put (skeleton A) N) ψ) K =
      ap (λ X. substitute_kind reduce (single (skeleton B) N) X) (rename_substituted_kind reduce reduction_is_natural (lift_renaming l) (lift φ) K ∙ ap (λ f. substitute_kind reduce f K) (fun_ext (rename_lift l φ)))
      ∙ ap (λ a. substitute_kind reduce (single a N) (substitute_kind reduce (lift ψ) K)) (skeleton_substituted reduce φ A ∙ sym (skeleton_substituted reduce ψ A))
      ∙ kind_with G H ψ A N K sp nt' k in
      let es : rename_spine (λ i. l (ρ i)) S ≡ T = sym (renamings_compose_spine l ρ S) in
      let h1 = subst (λ X. PlacesTyped (output_masks below D1 (output_places m) T X) D1 n (output_places m) T X J) (sym ek) (subst (λ X. PlacesTyped (output_masks below D1 (output_places m) X (substitute_kind reduce (in_front (put (skeleton A) N) ψ) K)) D1 n (output_places m) X (substitute_kind reduce (in_front (put (skeleton A) N) ψ) K) J) es h) in
      output_place (mask ∷ output_masks below D1 (output_places m) T K1) D n (output_places m) (rename ρ M) (rename_spine ρ S) B (substitute_kind reduce (lift φ) K) I ti c tb can (count_substituted (output_places m) (lift φ) K ∙ suc_same q) h1
    where
      suc_same : suc (chosen_count (output_places m) K) ≡ suc n → chosen_count (output_places m) K ≡ n
      suc_same e = omega arith
