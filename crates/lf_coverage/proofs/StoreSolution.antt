-- A ground instance that makes a variable a head is a typed unifier of the store of the split, over the first signature.
use Rattle.std.proofs.Common.{◌≡◌, ℕ, zero, suc, List, [], ◌∷◌, ◌+◌, length, inl, refl, sym, ap, ap₂, ◌∙◌, subst}
use Rattle.std.specs.Prelude.{Bool, Option, Some, None}
use Rattle.lf.specs.Syntax.{Head, variable, Term, Spine, nil, app, LfType, pi, atom, Kind, Skeleton, base, arrow, skeleton, weaken, rename, rename_type, lift_renaming}
use Rattle.lf.specs.Substitution.{Image, keep, put, rename_image, substitute, substitute_type, reduce}
use Rattle.lf.specs.SkeletonTyping.{HeadSkeletons, SkeletonAt, ImageSkeleton, TermSkeleton, TypeBySkeletons, SubstitutionBySkeletons}
use Rattle.lf.specs.Skeletons.{constant_skeletons, family_skeletons, context_skeletons}
use Rattle.lf.specs.AtOnce.{shift_by}
use Rattle.lf.specs.Eta.{eta_long}
use Rattle.lf.specs.Typing.{Signature, TypeAt, HasType, IsTypedSubstitution, IsType, IsContext, IsSignature}
use Rattle.lf.specs.Variables.{target, target_arguments, onto, binders, FamiliesIn}
use Rattle.lf.specs.Subordination.{Block, AreTypedBlocks, SelfContained}
use Rattle.lf.specs.Worlds.{World}
use Rattle.lf.specs.Extension.{Extends}
use Rattle.lf.proofs.Eta.{eta_both, eta_expand_has_skeleton, reduce_nil, substitute_eta_expand}
use Rattle.lf.proofs.ExtensionTyping.{extension_keeps_contexts, extension_keeps_typing, extension_keeps_types}
use Rattle.lf.proofs.Renaming.{rename_substituted, reduction_is_natural}
use Rattle.lf.proofs.Strength.{families_renamed, families_substituted}
use Rattle.lf.proofs.Strengthening.{TypesIn, world_types}
use Rattle.lf.proofs.Substitution.{typed_substitution_by_skeletons}
use Rattle.lf.proofs.Target.{target_renamed}
use Rattle.lf.proofs.ToSkeletons.{typed_has_skeleton, type_by_skeletons, variable_has_skeleton, skeleton_has_variable}
use Rattle.lf.proofs.TypeLaws.{skeleton_renamed, skeleton_substituted, rename_substituted_type}
use Rattle.lf.proofs.Weakening.{declared_is_type}
use Rattle.lf.proofs.Worlds.{world_is_context}
use Rattle.lf_unification.specs.Filling.{fill, fill_spine, fill_type}
use Rattle.lf_unification.specs.Offering.{pi_over}
use Rattle.lf_unification.specs.OpenTyping.{IsInstance, ValueHasType, skeletons_of, under_locals, fill_locals}
use Rattle.lf_unification.specs.Skeletons.{skeleton_or_default}
use Rattle.lf_unification.specs.Unifiers.{Solution}
use Rattle.lf_unification.proofs.EquationLemmas.{spine_solves}
use Rattle.lf_unification.proofs.Raise.{fill_pis}
use Rattle.lf_cases.specs.Case.{Item, items_context, as_term, IsGroundInstance}
use Rattle.lf_cases.specs.Missing.{AreTypedItems}
use Rattle.lf_cases.specs.Reached.{arguments_count, head_masks, head_term, taken, SplitHead, split_items}
use Rattle.lf_cases.proofs.LongValues.{long_at, long_same, term_typed}
use Rattle.lf_coverage.specs.Heads.{MakesHead, result_type, term_type}
use Rattle.lf_coverage.specs.SplitStore.{open_term, open_spine, open_type, open_locals, type_in, open_some, weaken_some, context_metavariables, split_store, AllFamiliesIn}
use Rattle.lf_coverage.proofs.Forms.{as_pis}
use Rattle.lf_coverage.proofs.GroundTyped.{ground_typed, items_extended}
use Rattle.lf_coverage.proofs.HeadTerm.{term_fits, head_target, taken_length}
use Rattle.lf_coverage.proofs.ItemsContext.{items_are_context}
use Rattle.lf_coverage.proofs.OpenTerms.{AllStand, FitsImage, fill_open, fill_open_type}
use Rattle.lf_coverage.proofs.ResultType.{result_atom, result_by_skeletons}
use Rattle.lf_coverage.proofs.MoreConstants.{term_more}
use Rattle.lf_coverage.proofs.Strip.{strip, out_of, into, stripped, term_stripped}
use Rattle.lf_coverage.proofs.Parts.{none_some, some_same}

-- the type of a variable, looked up
pub looked_up : (G : List LfType) (i : ℕ) (A : LfType) → TypeAt G i A → type_in G i ≡ Some A
looked_up [] i A g = absurd g
looked_up (X ∷ G) zero A e = ap Some (sym e)
looked_up (X ∷ G) (suc i) A (C, g, e) = ap weaken_some (looked_up G i C g) ∙ ap Some (sym e)

weakened_is : (y : Option LfType) (A : LfType) → weaken_some y ≡ Some A → (C : LfType) × (y ≡ Some C) × (A ≡ weaken C)
weakened_is None A e = absurd (none_some e)
weakened_is (Some C) A e = (C, refl, some_same (sym e))

pub found_type : (G : List LfType) (i : ℕ) (A : LfType) → type_in G i ≡ Some A → TypeAt G i A
found_type [] i A e = absurd (none_some e)
found_type (X ∷ G) zero A e = some_same (sym e)
found_type (X ∷ G) (suc i) A e = let (C, q, r) = weakened_is (type_in G i) A e in (C, found_type G i C q, r)

pub skeleton_open : (k : ℕ) (A : LfType) → skeleton (open_type k A) ≡ skeleton A
skeleton_open k (pi A B) = ap₂ arrow (skeleton_open k A) (skeleton_open (suc k) B)
skeleton_open k (atom a S) = refl

pub open_pis : (D : List LfType) (a : ℕ) (S : Spine) → open_type zero (pi_over D (atom a S)) ≡ pi_over (open_locals D) (atom a (open_spine (length D) S))
open_pis D a S = by D (atom a S)
  where
    by : (D : List LfType) (P : LfType) → open_type zero (pi_over D P) ≡ pi_over (open_locals D) (open_type (length D) P)
    by [] P = refl
    by (A ∷ D) P = by D (pi A P)

pub pis_same : (E : List LfType) (P Q : LfType) → pi_over E P ≡ pi_over E Q → P ≡ Q
pis_same [] P Q e = e
pis_same (A ∷ E) P Q e = second (pis_same E (pi A P) (pi A Q) e)
  where
    second : pi A P ≡ pi A Q → P ≡ Q
    second e = cc

pub atom_same : (a : ℕ) (S T : Spine) → atom a S ≡ atom a T → S ≡ T
atom_same a S T e = cc

pis_by_skeletons : (φ : ℕ → Option Skeleton) (κ : HeadSkeletons) (C D : List LfType) (P Q : LfType) → TypeBySkeletons φ κ (context_skeletons C) (pi_over D P) → TypeBySkeletons φ κ (context_skeletons (onto D C)) Q → TypeBySkeletons φ κ (context_skeletons C) (pi_over D Q)
pis_by_skeletons φ κ C [] P Q p q = q
pis_by_skeletons φ κ C (A ∷ D) P Q p q = pis_by_skeletons φ κ C D (pi A P) (pi A Q) p (first (inside C D (pi A P) p), q)
  where
    inside : (C D : List LfType) (P : LfType) → TypeBySkeletons φ κ (context_skeletons C) (pi_over D P) → TypeBySkeletons φ κ (context_skeletons (onto D C)) P
    inside C [] P p = p
    inside C (B ∷ D) P p = second (inside C D (pi B P) p)
      where
        second : TypeBySkeletons φ κ (context_skeletons (onto D C)) (pi B P) → TypeBySkeletons φ κ (context_skeletons (B ∷ onto D C)) P
        second (a, b) = b

    first : TypeBySkeletons φ κ (context_skeletons (onto D C)) (pi A P) → TypeBySkeletons φ κ (context_skeletons (onto D C)) A
    first (a, b) = a

-- values as terms make of a term the same as the values
long_same_term : (κ : HeadSkeletons) (O : List LfType) (Δ : List Skeleton) (σ : ℕ → Image) (M : Term) (t : Skeleton) → SubstitutionBySkeletons κ (context_skeletons O) Δ σ → TermSkeleton κ (context_skeletons O) M t → substitute reduce (long_at O σ) M ≡ substitute reduce σ M
long_same_term κ O Δ σ M t s m = argument (long_same κ (λ a. Some (arrow t (base 0))) [] O Δ σ (atom 0 (app M nil)) s (arrow t (base 0), refl, (m, refl)))
  where
    argument : atom 0 (app (substitute reduce (long_at O σ) M) nil) ≡ atom 0 (app (substitute reduce σ M) nil) → substitute reduce (long_at O σ) M ≡ substitute reduce σ M
    argument e = cc

pub long_at_is : (O : List LfType) (σ : ℕ → Image) (i : ℕ) (A : LfType) → TypeAt O i A → long_at O σ i ≡ put (skeleton A) (as_term (skeleton A) (σ i))
long_at_is [] σ i A g = absurd g
long_at_is (B ∷ O) σ zero A e = ap (λ a. put a (as_term a (σ zero))) (sym (ap skeleton e ∙ skeleton_renamed suc B))
long_at_is (B ∷ O) σ (suc i) A (C, g, e) = long_at_is O (λ j. σ (suc j)) i C g ∙ ap (λ a. put a (as_term a (σ (suc i)))) (sym (ap skeleton e ∙ skeleton_renamed suc C))

pub families_at : (S : ℕ → Bool) (C : List LfType) → AllFamiliesIn S C → (i : ℕ) (A : LfType) → TypeAt C i A → FamiliesIn S A
families_at S [] h i A g = absurd g
families_at S (X ∷ C) (a, h) zero A e = subst (FamiliesIn S) (sym e) (families_renamed S suc X a)
families_at S (X ∷ C) (a, h) (suc i) A (B, g, e) = subst (FamiliesIn S) (sym e) (families_renamed S suc B (families_at S C h i B g))

-- the value of a variable, in the smaller context
abbrev pub value_of : (ℕ → ℕ) → Option LfType → Image → Option Term
value_of ρ None x = None
value_of ρ (Some A) x = Some (rename ρ (as_term (skeleton A) x))

module _ (Σ : Signature) (ok : IsSignature Σ) (W : List Block) (typed : AreTypedBlocks Σ W) (S : ℕ → Bool) (sc : SelfContained Σ W S) (J : List Item) (aj : AreTypedItems Σ W J) (fam : AllFamiliesIn S (items_context J)) (Σ' : Signature) (x : Extends S Σ Σ') (G : List LfType) (w : World Σ' W S G) (τ : ℕ → Image) (g : IsGroundInstance w J τ) where
  abbrev pub C : List LfType
  C = items_context J

  -- the filling, and the images in the smaller context
  abbrev pub filling : ℕ → Option Term
  filling i = value_of (out_of S G) (type_in (items_context J) i) (τ i)

  abbrev pub images : ℕ → Image
  images i = rename_image (out_of S G) (long_at (items_context J) τ i)

  abbrev pub μ : ℕ → Skeleton
  μ = skeletons_of (context_metavariables (items_context J))

  pub types_in : TypesIn S G
  types_in = world_types Σ' W S S (λ f e. e) sc.entries_in w

  pub context : IsContext Σ' G
  context = world_is_context w

  typed' : AreTypedBlocks Σ' W
  typed' B m = extension_keeps_contexts S Σ Σ' x (onto B.entries B.some) (typed B m)

  pub items_typed : IsContext Σ (items_context J)
  items_typed = items_are_context Σ ok W typed J aj

  ground : IsTypedSubstitution Σ' (items_context J) G τ
  ground = ground_typed Σ' x.ok W typed' w J τ (items_extended S Σ Σ' x W J aj) g

  ground_skeletons : SubstitutionBySkeletons (constant_skeletons Σ') (context_skeletons (items_context J)) (context_skeletons G) τ
  ground_skeletons = typed_substitution_by_skeletons Σ' x.ok (items_context J) G τ ground

  type_skeletons : (A : LfType) → IsType Σ (items_context J) A → TypeBySkeletons (family_skeletons Σ') (constant_skeletons Σ') (context_skeletons (items_context J)) A
  type_skeletons A t = type_by_skeletons Σ' (items_context J) A (extension_keeps_types S Σ Σ' x (items_context J) A t)

  -- each value is typed in the smaller context, over the first signature
  value_typed : (i : ℕ) (A : LfType) → TypeAt (items_context J) i A → HasType Σ (strip S G) (rename (out_of S G) (as_term (skeleton A) (τ i))) (rename_type (out_of S G) (substitute_type reduce τ A))
  value_typed i A k = (term_stripped Σ Σ' W S x sc G types_in (as_term (skeleton A) (τ i)) (substitute_type reduce τ A) (families_substituted S reduce τ A (families_at S (items_context J) fam i A k)) (term_typed Σ' x.ok G context (skeleton A) (τ i) (substitute_type reduce τ A) (skeleton_substituted reduce τ A) (ground i A k))).0

  -- and comes back
  pub value_back : (i : ℕ) (A : LfType) → TypeAt (items_context J) i A → rename (into S G) (rename (out_of S G) (as_term (skeleton A) (τ i))) ≡ as_term (skeleton A) (τ i)
  value_back i A k = (term_stripped Σ Σ' W S x sc G types_in (as_term (skeleton A) (τ i)) (substitute_type reduce τ A) (families_substituted S reduce τ A (families_at S (items_context J) fam i A k)) (term_typed Σ' x.ok G context (skeleton A) (τ i) (substitute_type reduce τ A) (skeleton_substituted reduce τ A) (ground i A k))).1

  image_is : (i : ℕ) (A : LfType) → TypeAt (items_context J) i A → images i ≡ put (skeleton A) (rename (out_of S G) (as_term (skeleton A) (τ i)))
  image_is i A k = ap (rename_image (out_of S G)) (long_at_is (items_context J) τ i A k)

  pub filling_is : (i : ℕ) (A : LfType) → TypeAt (items_context J) i A → filling i ≡ Some (rename (out_of S G) (as_term (skeleton A) (τ i)))
  filling_is i A k = ap (λ y. value_of (out_of S G) y (τ i)) (looked_up (items_context J) i A k)

  skeleton_is : (i : ℕ) (A : LfType) → TypeAt (items_context J) i A → μ i ≡ skeleton A
  skeleton_is i A k = ap (λ y. skeleton_or_default (open_some y)) (looked_up (items_context J) i A k) ∙ skeleton_open zero A

  stand : AllStand Σ' μ zero (context_skeletons (items_context J)) images filling
  stand i t k =
      let (A, h, e) = skeleton_has_variable (items_context J) i t k in
      let q : images i ≡ put (skeleton A) (rename (out_of S G) (as_term (skeleton A) (τ i))) = image_is i A h in
      inl (i, refl, skeleton_is i A h ∙ e, filling_is i A h ∙ ap Some (ap (as_term t) (sym q)), subst (FitsImage t) (sym q) e)

  image_fits : SubstitutionBySkeletons (constant_skeletons Σ') (context_skeletons (items_context J)) (context_skeletons (strip S G)) images
  image_fits i t k =
      let (A, h, e) = skeleton_has_variable (items_context J) i t k in
      let n : TermSkeleton (constant_skeletons Σ') (context_skeletons (strip S G)) (rename (out_of S G) (as_term (skeleton A) (τ i))) (skeleton A) = subst (TermSkeleton (constant_skeletons Σ') (context_skeletons (strip S G)) (rename (out_of S G) (as_term (skeleton A) (τ i)))) (skeleton_renamed (out_of S G) (substitute_type reduce τ A) ∙ skeleton_substituted reduce τ A) (typed_has_skeleton Σ' (strip S G) (rename (out_of S G) (as_term (skeleton A) (τ i))) (rename_type (out_of S G) (substitute_type reduce τ A)) (extension_keeps_typing S Σ Σ' x (strip S G) (rename (out_of S G) (as_term (skeleton A) (τ i))) (rename_type (out_of S G) (substitute_type reduce τ A)) (value_typed i A h))) in
      subst (λ y. ImageSkeleton (constant_skeletons Σ') (context_skeletons (strip S G)) y t) (sym (image_is i A h)) (e, n)

  pub ground_value : (i : ℕ) (A : LfType) → TypeAt (items_context J) i A → (t : Skeleton) → skeleton A ≡ t → ImageSkeleton (constant_skeletons Σ') (context_skeletons G) (τ i) t
  ground_value i A k t e = ground_skeletons i t (subst (SkeletonAt (context_skeletons (items_context J)) i) e (variable_has_skeleton (items_context J) i A k))

  -- what the filling makes of an open type and an open term
  type_filled : (A : LfType) → TypeBySkeletons (family_skeletons Σ') (constant_skeletons Σ') (context_skeletons (items_context J)) A → fill_type μ filling (open_type zero A) ≡ rename_type (out_of S G) (substitute_type reduce τ A)
  type_filled A k = fill_open_type Σ' μ (family_skeletons Σ') zero (context_skeletons (items_context J)) (context_skeletons (strip S G)) images filling stand image_fits A k ∙ sym (rename_substituted_type reduce reduction_is_natural (out_of S G) (long_at (items_context J) τ) A) ∙ ap (rename_type (out_of S G)) (long_same (constant_skeletons Σ') (family_skeletons Σ') [] (items_context J) (context_skeletons G) τ A ground_skeletons k)

  term_filled : (M : Term) (t : Skeleton) → TermSkeleton (constant_skeletons Σ') (context_skeletons (items_context J)) M t → fill μ filling (open_term zero M) ≡ rename (out_of S G) (substitute reduce τ M)
  term_filled M t k = fill_open Σ' μ zero (context_skeletons (items_context J)) (context_skeletons (strip S G)) images filling stand image_fits M t k ∙ sym (rename_substituted reduce reduction_is_natural (out_of S G) (long_at (items_context J) τ) M) ∙ ap (rename (out_of S G)) (long_same_term (constant_skeletons Σ') (items_context J) (context_skeletons G) τ M t ground_skeletons k)

  -- a typed instance of the metavariables
  instance_typed : (m : ℕ) → ValueHasType Σ (strip S G) μ filling (context_metavariables (items_context J) m) (filling m)
  instance_typed m = by (type_in (items_context J) m) refl
    where
      by : (y : Option LfType) → type_in (items_context J) m ≡ y → ValueHasType Σ (strip S G) μ filling (open_some y) (value_of (out_of S G) y (τ m))
      by None e = tt
      by (Some A) e =
          let k : TypeAt (items_context J) m A = found_type (items_context J) m A e in
          subst (HasType Σ (strip S G) (rename (out_of S G) (as_term (skeleton A) (τ m)))) (sym (type_filled A (type_skeletons A (declared_is_type Σ ok (items_context J) m A items_typed k)))) (value_typed m A k)

  pub is_instance : IsInstance Σ [] (context_metavariables (items_context J)) (strip S G) filling
  is_instance = record { context = (stripped Σ Σ' W S x sc G context types_in).0; outer = λ i A k. absurd k; typed = instance_typed }

-- skeletons in the extension
more : (Σ Σ' : Signature) (S : ℕ → Bool) (x : Extends S Σ Σ') (Γ : List Skeleton) (M : Term) (t : Skeleton) → TermSkeleton (constant_skeletons Σ) Γ M t → TermSkeleton (constant_skeletons Σ') Γ M t
more Σ Σ' S x Γ M t m = term_more Σ Σ' x.types_stay Γ M t m

-- the local context of a moved type has the same skeletons
taken_skeletons : (ρ ν : ℕ → ℕ) (X : LfType) (C : List LfType) → context_skeletons (onto (taken (rename_type ρ X)) C) ≡ context_skeletons (onto (taken (rename_type ν X)) C)
taken_skeletons ρ ν X C = by ρ ν X [] [] refl
  where
    by : (ρ ν : ℕ → ℕ) (X : LfType) (Y Z : List LfType) → context_skeletons (onto Y C) ≡ context_skeletons (onto Z C) → context_skeletons (onto (binders Y (rename_type ρ X)) C) ≡ context_skeletons (onto (binders Z (rename_type ν X)) C)
    by ρ ν (pi A B) Y Z e = by (lift_renaming ρ) (lift_renaming ν) B (rename_type ρ A ∷ Y) (rename_type ν A ∷ Z) (ap₂ ◌∷◌ (skeleton_renamed ρ A ∙ sym (skeleton_renamed ν A)) e)
    by ρ ν (atom a S) Y Z e = e

-- the value of an eta-long variable
pub value_at : (κ : HeadSkeletons) (Δ : List Skeleton) (a : Skeleton) (σ : ℕ → Image) (i : ℕ) → ImageSkeleton κ Δ (σ i) a → substitute reduce σ (eta_long a (variable i)) ≡ as_term a (σ i)
value_at κ Δ a σ i h = by (σ i) refl h
  where
    by : (y : Image) → σ i ≡ y → ImageSkeleton κ Δ y a → substitute reduce σ (eta_long a (variable i)) ≡ as_term a (σ i)
    by (keep j) e h = substitute_eta_expand σ a (variable i) (variable j) nil e ∙ ap (as_term a) (sym e)
    by (put b N) e (q, n) = (eta_both κ a).1 Δ σ i b N nil e n q ∙ reduce_nil b N ∙ ap (as_term a) (sym e)

-- The lemma
pub makes_solution : (Σ : Signature) (ok : IsSignature Σ) (W : List Block) (typed : AreTypedBlocks Σ W) (below : ℕ → ℕ → Bool) (S : ℕ → Bool) (sc : SelfContained Σ W S) (I : List Item) (x : ℕ) (X : LfType) (J : List Item) (n : ℕ) (h : Head) (A : LfType) (K : Kind) → TypeAt (items_context (split_items below X J n A)) (x + (n + arguments_count A)) (rename_type (shift_by (n + arguments_count A)) X) → SplitHead Σ W I X J n h A → IsType Σ (onto (taken (rename_type (shift_by n) X)) (items_context J)) A → (aj : AreTypedItems Σ W (split_items below X J n A)) (fam : AllFamiliesIn S (items_context (split_items below X J n A))) (Σ' : Signature) (e : Extends S Σ Σ') (G : List LfType) (w : World Σ' W S G) (τ : ℕ → Image) (m : MakesHead w below x X J n h A τ) → Solution Σ [] (split_store below x X J n h A K) (strip S G) (filling Σ ok W typed S sc (split_items below X J n A) aj fam Σ' e G w τ m.is_ground)
makes_solution Σ ok W typed below S sc I x X J n h A K at sh ta aj fam Σ' e G w τ m =
    let c : ℕ = arguments_count A in
    let P : List Item = split_items below X J n A in
    let C : List LfType = items_context P in
    let x' : ℕ = x + (n + c) in
    let X' : LfType = rename_type (shift_by (n + c)) X in
    let D : List LfType = taken X' in
    let M : Term = head_term below (taken (rename_type (shift_by n) X)) h A in
    let β : ℕ → Option Term = filling Σ ok W typed S sc P aj fam Σ' e G w τ m.is_ground in
    let ν : ℕ → Skeleton = skeletons_of (context_metavariables C) in
    let ρ : ℕ → ℕ = out_of S G in
    let κ : HeadSkeletons = constant_skeletons Σ' in
    let ct : IsContext Σ C = items_are_context Σ ok W typed P aj in
    let mt : TermSkeleton κ (context_skeletons C) M (skeleton X) = more Σ Σ' S e (context_skeletons C) M (skeleton X) (term_fits Σ W below I X J n h A sh) in
    let lt : TermSkeleton κ (context_skeletons C) (eta_long (skeleton X) (variable x')) (skeleton X) = eta_expand_has_skeleton κ (skeleton X) (skeleton X) (context_skeletons C) (variable x') nil (subst (SkeletonAt (context_skeletons C) x') (skeleton_renamed (shift_by (n + c)) X) (variable_has_skeleton C x' X' at)) refl in
    let ks : List (List Bool) = head_masks below (taken (rename_type (shift_by n) X)) c A in
    let R : LfType = result_type ks (taken (rename_type (shift_by n) X)) c A in
    let fa : R ≡ atom (target A) (target_arguments R) = result_atom Σ ks c (taken (rename_type (shift_by n) X)) A refl in
    let ft : R ≡ atom (target X') (target_arguments R) = fa ∙ ap (λ b. atom b (target_arguments R)) (head_target Σ W below I X J n h A sh ∙ sym (target_renamed (shift_by (n + c)) X)) in
    let kx : TypeBySkeletons (family_skeletons Σ') κ (context_skeletons C) X' = type_by_skeletons Σ' C X' (extension_keeps_types S Σ Σ' e C X' (declared_is_type Σ ok C x' X' ct at)) in
    let kr : TypeBySkeletons (family_skeletons Σ') κ (context_skeletons (onto D C)) R = subst (λ Γ. TypeBySkeletons (family_skeletons Σ') κ Γ R) (taken_skeletons (shift_by n) (shift_by (n + c)) X C) (result_by_skeletons Σ' ks c (taken (rename_type (shift_by n) X)) A J (type_by_skeletons Σ' (onto (taken (rename_type (shift_by n) X)) (items_context J)) A (extension_keeps_types S Σ Σ' e (onto (taken (rename_type (shift_by n) X)) (items_context J)) A ta))) in
    let kt : TypeBySkeletons (family_skeletons Σ') κ (context_skeletons C) (term_type below X n A) = pis_by_skeletons (family_skeletons Σ') κ C D (atom (target X') (target_arguments X')) R (subst (TypeBySkeletons (family_skeletons Σ') κ (context_skeletons C)) (as_pis X' []) kx) kr in
    let first : fill ν β (open_term zero (eta_long (skeleton X) (variable x'))) ≡ fill ν β (open_term zero M) =
    term_filled Σ ok W typed S sc P aj fam Σ' e G w τ m.is_ground (eta_long (skeleton X) (variable x')) (skeleton X) lt
    ∙ ap (rename ρ) (value_at κ (context_skeletons G) (skeleton X) τ x' (ground_value Σ ok W typed S sc P aj fam Σ' e G w τ m.is_ground x' X' at (skeleton X) (skeleton_renamed (shift_by (n + c)) X)) ∙ m.same)
    ∙ sym (term_filled Σ ok W typed S sc P aj fam Σ' e G w τ m.is_ground M (skeleton X) mt) in
    let types : fill_type ν β (open_type zero X') ≡ fill_type ν β (open_type zero (term_type below X n A)) = type_filled Σ ok W typed S sc P aj fam Σ' e G w τ m.is_ground X' kx ∙ ap (rename_type ρ) m.same_type ∙ sym (type_filled Σ ok W typed S sc P aj fam Σ' e G w τ m.is_ground (term_type below X n A) kt) in
    let left : fill_type ν β (open_type zero X') ≡ pi_over (fill_locals ν β (open_locals D)) (atom (target X') (fill_spine ν (under_locals (open_locals D) β) (open_spine (length D) (target_arguments X')))) = ap (λ Y. fill_type ν β (open_type zero Y)) (as_pis X' []) ∙ ap (fill_type ν β) (open_pis D (target X') (target_arguments X')) ∙ fill_pis ν β (open_locals D) (atom (target X') (open_spine (length D) (target_arguments X'))) in
    let right : fill_type ν β (open_type zero (term_type below X n A)) ≡ pi_over (fill_locals ν β (open_locals D)) (atom (target X') (fill_spine ν (under_locals (open_locals D) β) (open_spine (length D) (target_arguments R)))) = ap (λ Y. fill_type ν β (open_type zero (pi_over D Y))) ft ∙ ap (fill_type ν β) (open_pis D (target X') (target_arguments R)) ∙ fill_pis ν β (open_locals D) (atom (target X') (open_spine (length D) (target_arguments R))) in
    let indices : fill_spine ν (under_locals (open_locals D) β) (open_spine (length D) (target_arguments X')) ≡ fill_spine ν (under_locals (open_locals D) β) (open_spine (length D) (target_arguments R)) = atom_same (target X') (fill_spine ν (under_locals (open_locals D) β) (open_spine (length D) (target_arguments X'))) (fill_spine ν (under_locals (open_locals D) β) (open_spine (length D) (target_arguments R))) (pis_same (fill_locals ν β (open_locals D)) (atom (target X') (fill_spine ν (under_locals (open_locals D) β) (open_spine (length D) (target_arguments X')))) (atom (target X') (fill_spine ν (under_locals (open_locals D) β) (open_spine (length D) (target_arguments R)))) (sym left ∙ types ∙ right)) in
    let ld : length D ≡ length (taken X) = taken_length (shift_by (n + c)) X [] [] refl in
    (is_instance Σ ok W typed S sc P aj fam Σ' e G w τ m.is_ground, (tt, (first, spine_solves ν β (open_locals D) K (open_spine (length (taken X)) (target_arguments X')) (open_spine (length (taken X)) (target_arguments R)) (subst (λ l. fill_spine ν (under_locals (open_locals D) β) (open_spine l (target_arguments X')) ≡ fill_spine ν (under_locals (open_locals D) β) (open_spine l (target_arguments R))) ld indices))))
