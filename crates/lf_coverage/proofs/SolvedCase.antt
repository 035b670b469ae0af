-- What unification solves gives a case that keeps the instances, and what it never solves gives none.
use Rattle.std.proofs.Common.{◌≡◌, ℕ, zero, suc, List, [], ◌∷◌, ◌+◌, length, inl, refl, sym, ap, ◌∙◌, subst, arith}
use Rattle.std.specs.Prelude.{Bool, true, Option, Some, None}
use Rattle.lf.specs.Syntax.{Head, Term, LfType, Kind, pi, atom, Skeleton, skeleton, weaken, rename, rename_type, lift_renaming}
use Rattle.lf.specs.Substitution.{Image, put, rename_image, substitute, substitute_type, substitute_image, reduce}
use Rattle.lf.specs.SkeletonTyping.{ImageSkeleton, TermSkeleton, SubstitutionBySkeletons}
use Rattle.lf.specs.Skeletons.{constant_skeletons, family_skeletons, context_skeletons}
use Rattle.lf.specs.AtOnce.{shift_by}
use Rattle.lf.specs.Typing.{Signature, TypeAt, HasType, ImageHasType, IsType, IsContext, IsSignature, instantiate_type}
use Rattle.lf.specs.Variables.{onto}
use Rattle.lf.specs.Subordination.{Block, AreTypedBlocks, SelfContained}
use Rattle.lf.specs.Worlds.{World}
use Rattle.lf.specs.Extension.{Extends}
use Rattle.lf.proofs.Renaming.{rename_substituted, reduction_is_natural}
use Rattle.lf.proofs.Substitution.{constant_type}
use Rattle.lf.proofs.ToSkeletons.{typed_has_skeleton, type_by_skeletons, skeleton_has_variable}
use Rattle.lf.proofs.TypeLaws.{skeleton_renamed, substitute_renamed_type, rename_substituted_type, renamings_compose_type}
use Rattle.lf.proofs.Weakening.{declared_is_type}
use Rattle.lf_unification.specs.Dependency.{ListedMetavariable, free_context, values}
use Rattle.lf_unification.specs.Filling.{fill_type}
use Rattle.lf_unification.specs.OpenTyping.{ValueHasType, skeletons_of}
use Rattle.lf_unification.specs.PartialInstance.{IsFilling}
use Rattle.lf_unification.specs.Skeletons.{skeleton_or_default}
use Rattle.lf_unification.specs.Solving.{Never, Solved}
use Rattle.lf_unification.specs.Unifiers.{ExtendsFilling, Solution, Store}
use Rattle.lf_unification.proofs.AnswerIsGeneric.{Part, part, answer_images}
use Rattle.lf_unification.proofs.Filling.{substituted_option, skeleton_fill}
use Rattle.lf_unification.proofs.Solving.{well_formed_answer}
use Rattle.lf_cases.specs.Case.{Item, free_variable, block_variable, Case, items_context, as_term, IsGroundInstance}
use Rattle.lf_cases.specs.Pattern.{FirstInstance}
use Rattle.lf_cases.specs.OutputGoal.{free_variables, renumber, over_item, raised_variable}
use Rattle.lf_cases.specs.Raised.{raise_by, first_mask, other_masks}
use Rattle.lf_cases.specs.Split.{HasNoBlockVariable}
use Rattle.lf_cases.specs.Missing.{AreTypedItems, IsTypedInstance}
use Rattle.lf_cases.specs.Candidates.{free_among}
use Rattle.lf_cases.specs.Reached.{arguments_count, head_masks, head_items, with_block, taken, SplitHead, constant_head, bound_head, entry_head, new_entry_head, split_items}
use Rattle.lf_cases.proofs.Assemble.{binders_typed}
use Rattle.lf_totality.proofs.RaisedOutputs.{binders_over}
use Rattle.lf_cases.proofs.Split.{distinct_without}
use Rattle.lf_coverage.specs.Heads.{MakesHead, Keeps, GivesCase, GivesNone}
use Rattle.lf_coverage.specs.SplitStore.{open_type, open_some, context_metavariables, split_store, answer_image, answer_values, solved_case, AllFamiliesIn}
use Rattle.lf_coverage.proofs.Forms.{no_shift_type, far_type}
use Rattle.lf_coverage.proofs.HeadTerm.{taken_length}
use Rattle.lf_coverage.proofs.ItemsContext.{items_are_context}
use Rattle.lf_coverage.proofs.NewBlock.{block_typed, moved_at}
use Rattle.lf_coverage.proofs.OpenTerms.{AllStand, FitsImage, fill_open_type}
use Rattle.lf_coverage.proofs.Parts.{some_same, suc_same}
use Rattle.lf_coverage.proofs.ResultType.{next_count}
use Rattle.lf_coverage.proofs.SomeHead.{free_value}
use Rattle.lf_coverage.proofs.StoreSolution.{looked_up, skeleton_open, filling, filling_is, types_in, value_back, context, makes_solution}
use Rattle.lf_coverage.proofs.Strip.{strip, out_of, into, term_back}
use Rattle.lf_coverage.proofs.RootValues.{front_is as in_front_is, ground_of}
use mathlib.Core.Path.{fun_ext}

-- Items that are free variables.
pub free_context_is : (O : List LfType) → items_context (free_variables O) ≡ O
free_context_is [] = refl
free_context_is (A ∷ O) = ap (λ X. A ∷ X) (free_context_is O)

pub free_typed : (Σ : Signature) (W : List Block) (O : List LfType) → IsContext Σ O → AreTypedItems Σ W (free_variables O)
free_typed Σ W [] c = tt
free_typed Σ W (A ∷ O) (c, t) = (free_typed Σ W O c, subst (λ X. IsType Σ X A) (sym (free_context_is O)) t)

pub free_without : (O : List LfType) → HasNoBlockVariable (free_variables O)
free_without [] = tt
free_without (A ∷ O) = free_without O

pub all_free : (I : List Item) → HasNoBlockVariable I → (i : ℕ) (A : LfType) → TypeAt (items_context I) i A → free_among I i ≡ true
all_free [] h i A g = absurd g
all_free (free_variable X ∷ I) h zero A g = refl
all_free (free_variable X ∷ I) h (suc i) A (B, g, e) = all_free I h i B g
all_free (block_variable B υ ∷ I) h i A g = absurd h

pub no_first : {Σ : Signature} {W : List Block} {S : ℕ → Bool} {G : List LfType} (w : World Σ W S G) (I : List Item) (σ : ℕ → Image) (g : IsGroundInstance w I σ) (B : Block) (θ : ℕ → Image) → HasNoBlockVariable I → FirstInstance w I σ g B θ → ⊥
no_first w [] σ g B θ h f = f
no_first w (free_variable A ∷ I) σ (N, τ, g, t, e) B θ h f = no_first w I τ g B θ h f
no_first w (block_variable C υ ∷ I) σ g B θ h f = h

pub heads_without : (ks : List (List Bool)) (n : ℕ) (D : List LfType) (A : LfType) (I : List Item) → HasNoBlockVariable I → HasNoBlockVariable (head_items ks D n A I)
heads_without ks zero D A I h = h
heads_without ks (suc n) D (atom a S) I h = h
heads_without ks (suc n) D (pi A B) I h = heads_without (other_masks ks) n (renumber suc D) (instantiate_type A (raised_variable (first_mask ks) D A zero) (rename_type (lift_renaming (over_item D)) B)) (free_variable (raise_by (first_mask ks) D A) ∷ I) h

-- Typed values of free variables are a typed instance; and a ground instance.
pub typed_instance : (Σ : Signature) (J I : List Item) → HasNoBlockVariable I → (σ : ℕ → Image) → ((i : ℕ) (A : LfType) → TypeAt (items_context I) i A → (N : Term) × (σ i ≡ put (skeleton A) N) × HasType Σ (items_context J) N (substitute_type reduce σ A)) → IsTypedInstance Σ J I σ
typed_instance Σ J [] h σ f = tt
typed_instance Σ J (free_variable A ∷ I) h σ f =
    let (N, e, n) = f zero (weaken A) refl in
    (N, (λ i. σ (suc i)), typed_instance Σ J I h (λ i. σ (suc i)) (λ i B g. let (M, p, m) = f (suc i) (weaken B) (B, g, refl) in (M, p ∙ ap (λ a. put a M) (skeleton_renamed suc B), subst (HasType Σ (items_context J) M) (substitute_renamed_type reduce σ suc B) m)), subst (HasType Σ (items_context J) N) (substitute_renamed_type reduce σ suc A) n, in_front_is σ (put (skeleton A) N) (e ∙ ap (λ a. put a N) (skeleton_renamed suc A)))
typed_instance Σ J (block_variable B υ ∷ I) h σ f = absurd h

-- the type of a head is one
pub head_typed : (Σ : Signature) (ok : IsSignature Σ) (W : List Block) (typed : AreTypedBlocks Σ W) (I : List Item) (ti : AreTypedItems Σ W I) (x : ℕ) (X : LfType) → TypeAt (items_context I) x X → (J : List Item) (n : ℕ) (h : Head) (A : LfType) → SplitHead Σ W I X J n h A → AreTypedItems Σ W J × TypeAt (items_context J) (x + n) (rename_type (shift_by n) X) × IsType Σ (onto (taken (rename_type (shift_by n) X)) (items_context J)) A
head_typed Σ ok W typed I ti x X at J n h A s = by s
  where
    same_place : TypeAt (items_context I) (x + 0) (rename_type (shift_by 0) X)
    same_place = subst (λ j. TypeAt (items_context I) j (rename_type (shift_by 0) X)) (none x) (subst (TypeAt (items_context I) x) (sym (no_shift_type X)) at)
      where
        none : (k : ℕ) → k ≡ k + 0
        none k = omega arith

    local : (J : List Item) (n : ℕ) → AreTypedItems Σ W J → TypeAt (items_context J) (x + n) (rename_type (shift_by n) X) → IsContext Σ (onto (taken (rename_type (shift_by n) X)) (items_context J))
    local J n tj k = let c : IsContext Σ (items_context J) = items_are_context Σ ok W typed J tj in subst (IsContext Σ) (binders_over [] (rename_type (shift_by n) X) (items_context J)) (binders_typed Σ ok (rename_type (shift_by n) X) (items_context J) c (declared_is_type Σ ok (items_context J) (x + n) (rename_type (shift_by n) X) c k))

    far : (J : List Item) (n j : ℕ) (B : LfType) → AreTypedItems Σ W J → TypeAt (items_context J) (x + n) (rename_type (shift_by n) X) → TypeAt (items_context J) j B → IsType Σ (onto (taken (rename_type (shift_by n) X)) (items_context J)) (rename_type (shift_by (length (taken X))) B)
    far J n j B tj k g = let D : List LfType = taken (rename_type (shift_by n) X) in subst (λ l. IsType Σ (onto D (items_context J)) (rename_type (shift_by l) B)) (taken_length (shift_by n) X [] [] refl) (declared_is_type Σ ok (onto D (items_context J)) (j + length D) (rename_type (shift_by (length D)) B) (local J n tj k) (far_type D (items_context J) j B g))

    by : {J : List Item} {n : ℕ} {h : Head} {A : LfType} → SplitHead Σ W I X J n h A → AreTypedItems Σ W J × TypeAt (items_context J) (x + n) (rename_type (shift_by n) X) × IsType Σ (onto (taken (rename_type (shift_by n) X)) (items_context J)) A
    by (constant_head k U e t) = (ti, same_place, constant_type Σ ok (onto (taken (rename_type (shift_by 0) X)) (items_context I)) k U e)
    by (bound_head j B l k t) = (ti, same_place, subst (λ Y. IsType Σ (onto (taken Y) (items_context I)) B) (sym (no_shift_type X)) (declared_is_type Σ ok (onto (taken X) (items_context I)) j B (subst (λ Y. IsContext Σ (onto (taken Y) (items_context I))) (no_shift_type X) (local I 0 ti same_place)) (subst (λ L. TypeAt L j B) (binders_over [] X (items_context I)) k)))
    by (entry_head j B k f t) = (ti, same_place, far I 0 j B ti same_place k)
    by (new_entry_head B j C m l k t) = let tj : AreTypedItems Σ W (with_block B I) = block_typed Σ ok W typed B m I ti in let p : TypeAt (items_context (with_block B I)) (x + (length B.some + length B.entries)) (rename_type (shift_by (length B.some + length B.entries)) X) = moved_at B I x X at in (tj, p, far (with_block B I) (length B.some + length B.entries) j C tj p k)

-- the items stand behind those of a head, with their types
pub behind_types : (ks : List (List Bool)) (D : List LfType) (n : ℕ) (A : LfType) (I : List Item) → arguments_count A ≡ n → (i : ℕ) (X : LfType) → TypeAt (items_context I) i X → TypeAt (items_context (head_items ks D n A I)) (i + n) (rename_type (shift_by n) X)
behind_types ks D zero A I e i X g = subst (λ k. TypeAt (items_context I) k (rename_type (shift_by 0) X)) (none i) (subst (TypeAt (items_context I) i) (sym (no_shift_type X)) g)
  where
    none : (i : ℕ) → i ≡ i + 0
    none i = omega arith
behind_types ks D (suc n) (atom a S) I e i X g = absurd (no e)
  where
    no : zero ≡ suc n → ⊥
    no e = omega arith
behind_types ks D (suc n) (pi A B) I e i X g =
    let Y : LfType = raise_by (first_mask ks) D A in
    let J : List Item = free_variable Y ∷ I in
    let D' : List LfType = renumber suc D in
    let A' : LfType = instantiate_type A (raised_variable (first_mask ks) D A zero) (rename_type (lift_renaming (over_item D)) B) in
    let C : List LfType = items_context (head_items (other_masks ks) D' n A' J) in
    let h : TypeAt C (suc i + n) (rename_type (shift_by n) (weaken X)) = behind_types (other_masks ks) D' n A' J (next_count ks D A B ∙ suc_same e) (suc i) (weaken X) (X, g, refl) in
    subst (λ k. TypeAt C k (rename_type (shift_by (suc n)) X)) (next i n) (subst (TypeAt C (suc i + n)) (renamings_compose_type (shift_by n) suc X ∙ ap (λ ρ. rename_type ρ X) (fun_ext (λ j. next j n))) h)
  where
    next : (i n : ℕ) → suc i + n ≡ i + suc n
    next i n = omega arith

module _ (Σ : Signature) (ok : IsSignature Σ) (W : List Block) (typed : AreTypedBlocks Σ W) (below : ℕ → ℕ → Bool) (S : ℕ → Bool) (sc : SelfContained Σ W S) (I : List Item) (ti : AreTypedItems Σ W I) (x : ℕ) (X : LfType) (at : TypeAt (items_context I) x X) (J : List Item) (n : ℕ) (h : Head) (A : LfType) (K : Kind) (sh : SplitHead Σ W I X J n h A) (aj : AreTypedItems Σ W (split_items below X J n A)) (fam : AllFamiliesIn S (items_context (split_items below X J n A))) where
  abbrev P : List Item
  P = split_items below X J n A

  place : TypeAt (items_context (split_items below X J n A)) (x + (n + arguments_count A)) (rename_type (shift_by (n + arguments_count A)) X)
  place =
      let c : ℕ = arguments_count A in
      let D : List LfType = taken (rename_type (shift_by n) X) in
      let g : TypeAt (items_context (split_items below X J n A)) ((x + n) + c) (rename_type (shift_by c) (rename_type (shift_by n) X)) = behind_types (head_masks below D c A) D c A J refl (x + n) (rename_type (shift_by n) X) (head_typed Σ ok W typed I ti x X at J n h A sh).1 in
      subst (λ k. TypeAt (items_context (split_items below X J n A)) k (rename_type (shift_by (n + c)) X)) (sums x n c) (subst (TypeAt (items_context (split_items below X J n A)) ((x + n) + c)) (renamings_compose_type (shift_by c) (shift_by n) X ∙ ap (λ ρ. rename_type ρ X) (fun_ext (λ j. sums j n c))) g)
    where
      sums : (i n c : ℕ) → (i + n) + c ≡ i + (n + c)
      sums i n c = omega arith

  solution : (Σ' : Signature) (e : Extends S Σ Σ') (G : List LfType) (w : World Σ' W S G) (τ : ℕ → Image) (m : MakesHead w below x X J n h A τ) → Solution Σ [] (split_store below x X J n h A K) (strip S G) (filling Σ ok W typed S sc P aj fam Σ' e G w τ m.is_ground)
  solution Σ' e G w τ m = makes_solution Σ ok W typed below S sc I x X J n h A K place sh (head_typed Σ ok W typed I ti x X at J n h A sh).2 aj fam Σ' e G w τ m

  -- what is never solved gives no case
  pub never_gives_none : Never Σ [] (split_store below x X J n h A K) → GivesNone Σ W S below x X J n h A
  never_gives_none never Σ' e G w τ m = never (strip S G) (filling Σ ok W typed S sc P aj fam Σ' e G w τ m.is_ground) (solution Σ' e G w τ m)

  module _ (C : Case) (after : Store) (s : Solved Σ (split_store below x X J n h A K) after) where
    abbrev μ0 : ℕ → Skeleton
    μ0 = skeletons_of (context_metavariables (items_context P))

    abbrev μ1 : ℕ → Skeleton
    μ1 = skeletons_of after.metavariables

    abbrev order : List ListedMetavariable
    order = s.well_formed.order

    abbrev O : List LfType
    O = free_context μ1 order

    abbrev γ : ℕ → Option Term
    γ = values μ1 order

    pub without : HasNoBlockVariable J → HasNoBlockVariable P
    without nj = heads_without (head_masks below (taken (rename_type (shift_by n) X)) (arguments_count A) A) (arguments_count A) (taken (rename_type (shift_by n) X)) A J nj

    pub answer : Solution Σ [] after O γ
    answer = well_formed_answer Σ ok after s.well_formed s.none_left

    pub given : (β : ℕ → Option Term) × ExtendsFilling (context_metavariables (items_context P)) β γ × Solution Σ [] (split_store below x X J n h A K) O β
    given = s.keeps.sound O γ answer

    declared : (i : ℕ) (B : LfType) → TypeAt (items_context P) i B → context_metavariables (items_context P) i ≡ Some (open_type zero B)
    declared i B k = ap open_some (looked_up (items_context P) i B k)

    declared_after : (i : ℕ) (B : LfType) → TypeAt (items_context P) i B → after.metavariables i ≡ Some (open_type zero B)
    declared_after i B k = s.keeps.grows i (open_type zero B) (declared i B k)

    -- the value of each variable in the answer
    value : (i : ℕ) (B : LfType) → TypeAt (items_context P) i B → (N : Term) × (γ i ≡ Some N) × (given.0 i ≡ Some N) × HasType Σ O N (fill_type μ0 given.0 (open_type zero B))
    value i B k = by (context_metavariables (items_context P) i) (given.0 i) (declared i B k) refl (given.2.0.typed i)
      where
        by : (y : Option LfType) (z : Option Term) → y ≡ Some (open_type zero B) → given.0 i ≡ z → ValueHasType Σ O μ0 given.0 y z → (N : Term) × (γ i ≡ Some N) × (given.0 i ≡ Some N) × HasType Σ O N (fill_type μ0 given.0 (open_type zero B))
        by None z e q v = absurd cc
        by (Some Y) None e q v = absurd v
        by (Some Y) (Some N) e q v = (N, given.1 i (open_type zero B) (declared i B k) ∙ q, q, subst (λ Z. HasType Σ O N (fill_type μ0 given.0 Z)) (some_same e) v)

    value_is : (i : ℕ) (B : LfType) (k : TypeAt (items_context P) i B) → answer_values after order i ≡ put (skeleton B) (value i B k).0
    value_is i B k = ap (answer_image (μ1 i)) ((value i B k).1) ∙ ap (λ a. put a (value i B k).0) (ap skeleton_or_default (declared_after i B k) ∙ skeleton_open zero B)

    pub stand : AllStand Σ μ0 zero (context_skeletons (items_context P)) (answer_values after order) given.0
    stand i t k =
        let (B, b, e) = skeleton_has_variable (items_context P) i t k in
        let q : answer_values after order i ≡ put (skeleton B) (value i B b).0 = value_is i B b in
        inl (i, refl, ap skeleton_or_default (declared i B b) ∙ skeleton_open zero B ∙ e, (value i B b).2 ∙ ap Some (ap (as_term t) (sym q)), subst (FitsImage t) (sym q) e)

    pub fits : SubstitutionBySkeletons (constant_skeletons Σ) (context_skeletons (items_context P)) (context_skeletons O) (answer_values after order)
    fits i t k =
        let (B, b, e) = skeleton_has_variable (items_context P) i t k in
        let m : TermSkeleton (constant_skeletons Σ) (context_skeletons O) (value i B b).0 (skeleton B) = subst (TermSkeleton (constant_skeletons Σ) (context_skeletons O) (value i B b).0) (skeleton_fill μ0 given.0 (open_type zero B) ∙ skeleton_open zero B) (typed_has_skeleton Σ O (value i B b).0 (fill_type μ0 given.0 (open_type zero B)) ((value i B b).3)) in
        subst (λ y. ImageSkeleton (constant_skeletons Σ) (context_skeletons O) y t) (sym (value_is i B b)) (e, m)

    items_typed : IsContext Σ (items_context P)
    items_typed = items_are_context Σ ok W typed P aj

    pub value_typed : (i : ℕ) (B : LfType) → TypeAt (items_context P) i B → (N : Term) × (answer_values after order i ≡ put (skeleton B) N) × HasType Σ (items_context (free_variables O)) N (substitute_type reduce (answer_values after order) B)
    value_typed i B k = ((value i B k).0, value_is i B k, subst (λ L. HasType Σ L (value i B k).0 (substitute_type reduce (answer_values after order) B)) (sym (free_context_is O)) (subst (HasType Σ O (value i B k).0) (fill_open_type Σ μ0 (family_skeletons Σ) zero (context_skeletons (items_context P)) (context_skeletons O) (answer_values after order) given.0 stand fits B (type_by_skeletons Σ (items_context P) B (declared_is_type Σ ok (items_context P) i B items_typed k))) ((value i B k).3)))

    -- each instance comes from the answer
    pub kept : HasNoBlockVariable J → (Σ' : Signature) (e : Extends S Σ Σ') (G : List LfType) (w : World Σ' W S G) (τ : ℕ → Image) (m : MakesHead w below x X J n h A τ) → Keeps w P τ m.is_ground (free_variables O) (answer_values after order)
    kept nj Σ' e G w τ m =
        let F : List LfType = strip S G in
        let β0 : ℕ → Option Term = filling Σ ok W typed S sc P aj fam Σ' e G w τ m.is_ground in
        let (β, b, u) = s.keeps.complete F β0 (solution Σ' e G w τ m) in
        let ρ : ℕ → Image = answer_images Σ ok after.metavariables (IsFilling Σ [] after) F β u.0 after.bindings u.1.0 order in
        let p : Part Σ ok after.metavariables (IsFilling Σ [] after) F β u.0 after.bindings u.1.0 order = part Σ ok after.metavariables (IsFilling Σ [] after) F β u.0 after.bindings u.1.0 order s.well_formed.is_order s.well_formed.values_bound in
        let ν : ℕ → Image = λ i. rename_image (into S G) (ρ i) in
        let g : IsGroundInstance w (free_variables O) ν = ground_of w O ν (λ i B k. let (N, q) = p.terms i B k in
        let t : (skeleton (substitute_type reduce ρ B) ≡ skeleton B) × HasType Σ F N (substitute_type reduce ρ B) = subst (λ y. ImageHasType Σ F y (substitute_type reduce ρ B)) q (p.typed i B k) in
        (rename (into S G) N, ap (rename_image (into S G)) q, subst (HasType Σ' G (rename (into S G) N)) (rename_substituted_type reduce reduction_is_natural (into S G) ρ B) (term_back Σ Σ' W S e sc G (context Σ ok W typed S sc P aj fam Σ' e G w τ m.is_ground) (types_in Σ ok W typed S sc P aj fam Σ' e G w τ m.is_ground) N (substitute_type reduce ρ B) t.1))) in
        record {
          new_values = ν;
          is_ground = g;
          is_distinct = distinct_without w (free_variables O) ν g (free_without O);
          first_stays = λ B θ z. absurd (no_first w P τ m.is_ground B θ (without nj) z);
          same = λ i B k.
              let (N, q) = free_value w P τ m.is_ground i B k (all_free P (without nj) i B k) in
              let V : Term = (value i B k).0 in
              let r : Some (rename (out_of S G) (as_term (skeleton B) (τ i))) ≡ Some (substitute reduce ρ V) = sym (filling_is Σ ok W typed S sc P aj fam Σ' e G w τ m.is_ground i B k) ∙ sym (b i (open_type zero B) (declared i B k)) ∙ p.same i (s.well_formed.all_listed i (open_type zero B) (declared_after i B k)) ∙ ap (substituted_option ρ) ((value i B k).1) in
              q ∙ ap (put (skeleton B)) (sym (ap (as_term (skeleton B)) q) ∙ sym (value_back Σ ok W typed S sc P aj fam Σ' e G w τ m.is_ground i B k) ∙ ap (rename (into S G)) (some_same r) ∙ rename_substituted reduce reduction_is_natural (into S G) ρ V) ∙ ap (substitute_image ν) (sym (value_is i B k));
        }

    -- The lemma
    pub solved_gives_case : HasNoBlockVariable J → GivesCase Σ W S below C x X J n h A (solved_case C (n + arguments_count A) after s.well_formed.order)
    solved_gives_case nj = record {
      values = answer_values after order;
      typed_items = free_typed Σ W O answer.0.context;
      is_instance = typed_instance Σ (free_variables O) P (without nj) (answer_values after order) value_typed;
      keeps = kept nj;
      given = refl;
      local = refl;
      family = refl;
      arguments = refl;
    }
