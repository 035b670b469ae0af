-- What unification never solves gives no case: nothing over any typed items makes the variable the head.
use Rattle.std.proofs.Common.{◌≡◌, ℕ, zero, List, [], ◌∷◌, ◌+◌, ◌<◌, length, inl, inr, refl, sym, ap, ap₂, ◌∙◌, subst, arith, true≢false}
use Rattle.std.specs.Prelude.{Bool, true, false, Option, Some, None}
use Rattle.lf.specs.Syntax.{Head, constant, variable, Term, Spine, root, LfType, pi, atom, Kind, kind_pi, star, skeleton, rename_type, rename_head}
use Rattle.lf.specs.Substitution.{Image, keep, lift, apply_image, substitute, substitute_spine, substitute_type, reduce}
use Rattle.lf.specs.SkeletonTyping.{SubstitutionBySkeletons}
use Rattle.lf.specs.Skeletons.{constant_skeletons, context_skeletons}
use Rattle.lf.specs.AtOnce.{shift_by, lift_renaming_by}
use Rattle.lf.specs.Eta.{lambdas}
use Rattle.lf.specs.Typing.{Signature, TypeAt, HeadHasType, HasType, SpineType, IsTypedSubstitution, IsType, IsKind, IsContext, IsSignature}
use Rattle.lf.specs.Variables.{target, target_arguments, onto, binders, FamiliesIn, KindFamiliesIn}
use Rattle.lf.specs.Subordination.{Block, Member, AreTypedBlocks, IsTypedBlock, SelfContained, IsDeclared}
use Rattle.lf.specs.Worlds.{World, OpenInstance, no_variables, whole_instance, begin_instance, next_entry, lift_over, instance}
use Rattle.lf.proofs.Closed.{closed_type_substituted}
use Rattle.lf.proofs.Renaming.{lift_keep}
use Rattle.lf.proofs.Substitution.{constant_type}
use Rattle.lf.proofs.Target.{target_of}
use Rattle.lf.proofs.ToSkeletons.{type_by_skeletons}
use Rattle.lf.proofs.TypeLaws.{skeleton_renamed, skeleton_substituted, substitute_identity_type}
use Rattle.lf.proofs.Weakening.{declared_is_type}
use Rattle.lf_unification.specs.Offering.{pi_over}
use Rattle.lf_cases.specs.Case.{Item, free_variable, block_variable, items_context, as_term, IsGroundInstance}
use Rattle.lf_cases.specs.Split.{HasNoBlockVariable}
use Rattle.lf_cases.specs.Missing.{AreTypedItems, IsTypedInstance}
use Rattle.lf_cases.specs.Reached.{arguments_count, head_masks, head_spine, head_term, taken, SplitHead, constant_head, bound_head, entry_head, new_entry_head, split_items, Unifies}
use Rattle.lf_cases.proofs.Assemble.{binders_typed}
use Rattle.lf_cases.proofs.Local.{binders_substituted}
use Rattle.lf_cases.proofs.LongValues.{term_typed}
use Rattle.lf_cases.proofs.OutputItems.{length_instance}
use Rattle.lf_cases.proofs.Split.{distinct_without}
use Rattle.lf_totality.proofs.After.{Extends-self}
use Rattle.lf_totality.proofs.RaisedOutputs.{binders_over}
use Rattle.lf_coverage.specs.Heads.{MakesHead, result_type, term_type}
use Rattle.lf_coverage.specs.Laws.{NeverGivesNoCase}
use Rattle.lf_coverage.specs.SplitStore.{AllFamiliesIn}
use Rattle.lf_coverage.proofs.Forms.{form, lambdas_substituted, lift_over_near, renaming_near, local_type, no_shift_type, lift_same, as_pis, pis_substituted}
use Rattle.lf_coverage.proofs.InstancesCompose.{instance_is_typed, instance_by_skeletons}
use Rattle.lf_coverage.proofs.ItemsContext.{items_are_context}
use Rattle.lf_coverage.proofs.ResultType.{result_is}
use Rattle.lf_coverage.proofs.SolvedCase.{never_gives_none, heads_without, all_free}
use Rattle.lf_coverage.proofs.SomeHead.{head_same, onto_nothing, same_type, taken_is, same_local, same_length}
use Rattle.lf_coverage.proofs.SplitInstance.{behind_all}
use Rattle.lf_coverage.proofs.SplitReady.{split_items_typed}
use Rattle.lf_coverage.proofs.RootValues.{lambdas_same}
use mathlib.Core.Path.{fun_ext}

-- Values that make a variable a head make their types the same.
module _ (Σ : Signature) (ok : IsSignature Σ) (below : ℕ → ℕ → Bool) (I J : List Item) (x : ℕ) (X : LfType) (at : TypeAt (items_context I) x X) (n : ℕ) (h : Head) (A : LfType) (G : List LfType) (cg : IsContext Σ G) (τ : ℕ → Image) (fits : SubstitutionBySkeletons (constant_skeletons Σ) (context_skeletons (items_context (split_items below X J n A))) (context_skeletons G) τ) (ground : IsTypedSubstitution Σ (items_context I) G (λ k. τ (k + (n + arguments_count A)))) (ta : IsType Σ (onto (taken (rename_type (shift_by n) X)) (items_context J)) A) (h0 : Head) (hh : HeadHasType Σ (onto (instance (taken X) (λ k. τ (k + (n + arguments_count A)))) G) h0 (substitute_type reduce (lift_over (taken (rename_type (shift_by n) X)) (λ k. τ (k + arguments_count A))) A)) (under : (S : Spine) → substitute reduce (lift_over (taken (rename_type (shift_by n) X)) τ) (root (rename_head (lift_renaming_by (length (taken (rename_type (shift_by n) X))) (shift_by (arguments_count A))) h) S) ≡ root h0 (substitute_spine reduce (lift_over (taken (rename_type (shift_by n) X)) τ) S)) (same : as_term (skeleton X) (τ (x + (n + arguments_count A))) ≡ substitute reduce τ (head_term below (taken (rename_type (shift_by n) X)) h A)) where
  types_same : substitute_type reduce τ (rename_type (shift_by (n + arguments_count A)) X) ≡ substitute_type reduce τ (term_type below X n A)
  types_same =
      let c : ℕ = arguments_count A in
      let D : List LfType = taken (rename_type (shift_by n) X) in
      let X2 : LfType = rename_type (shift_by (n + c)) X in
      let ks : List (List Bool) = head_masks below D c A in
      let σ : ℕ → Image = λ k. τ (k + (n + c)) in
      let ρ : ℕ → Image = λ k. τ (k + c) in
      let keeps : (k : ℕ) → ρ (k + n) ≡ σ k = λ k. ap τ (sums k n c) in
      let all : (k : ℕ) → τ (k + (n + c)) ≡ σ k = λ k. refl in
      let E : List LfType = instance (taken X) σ in
      let Y0 : LfType = substitute_type reduce σ X in
      let V : Spine = target_arguments Y0 in
      let Y : LfType = substitute_type reduce (lift_over D ρ) A in
      let N : Term = as_term (skeleton X) (σ x) in
      let (h1, T1, e, r) = form Σ Y0 G N (term_typed Σ ok G cg (skeleton X) (σ x) Y0 (skeleton_substituted reduce σ X) (ground x X at)) in
      let l1 : length (binders [] Y0) ≡ length (taken X) = ap length (binders_substituted X σ [] ∙ onto_nothing E) ∙ length_instance (taken X) σ in
      let ld : length D ≡ length (taken X) = same_length X σ n ρ keeps in
      let T : Spine = substitute_spine reduce (lift_over D τ) (head_spine ks D A) in
      let made : substitute reduce τ (head_term below D h A) ≡ lambdas (length D) (root h0 T) = lambdas_substituted D τ (root (rename_head (lift_renaming_by (length D) (shift_by c)) h) (head_spine ks D A)) ∙ ap (lambdas (length D)) (under (head_spine ks D A)) in
      let roots : root h1 T1 ≡ root h0 T = lambdas_same (length D) (root h1 T1) (root h0 T) (ap (λ l. lambdas l (root h1 T1)) (ld ∙ sym l1) ∙ sym e ∙ same ∙ made) in
      let r0 : HasType Σ (onto E G) (root h0 T) (atom (target X) V) = subst (λ M. HasType Σ (onto E G) M (atom (target X) V)) roots (subst (λ t. HasType Σ (onto E G) (root h1 T1) (atom t V)) (target_of reduce σ X) (subst (λ C. HasType Σ C (root h1 T1) (atom (target Y0) V)) (binders_substituted X σ G) r)) in
      let (Z, hz, st) = r0 in
      let st' : SpineType Σ (onto E G) T Y (atom (target X) V) = subst (λ B. SpineType Σ (onto E G) T B (atom (target X) V)) (head_same Σ (onto E G) h0 Z Y hz hh) st in
      let sl : instance D ρ ≡ E = same_local X σ n ρ keeps in
      let left : substitute_type reduce τ X2 ≡ Y0 = same_type X σ (n + c) τ all in
      let res : substitute_type reduce (lift_over D τ) (result_type ks D c A) ≡ atom (target X) V = result_is Σ ks G c D A J refl τ fits (type_by_skeletons Σ (onto D (items_context J)) A ta) T (target X) V (subst (λ L. SpineType Σ (onto L G) T Y (atom (target X) V)) (sym sl) st') refl in
      let ll : length (taken X2) ≡ length D = same_length X σ (n + c) τ all ∙ sym ld in
      left ∙ as_pis Y0 [] ∙ ap₂ (λ L Z. pi_over L Z) (ap (binders []) (sym left) ∙ sym (taken_is X σ (n + c) τ all τ X2)) (ap₂ atom (target_of reduce σ X) refl ∙ sym res ∙ ap (λ f. substitute_type reduce f (result_type ks D c A)) (lift_same D (taken X2) τ (sym ll))) ∙ sym (pis_substituted τ (taken X2) (result_type ks D c A))
    where
      sums : (k n c : ℕ) → (k + n) + c ≡ k + (n + c)
      sums k n c = omega arith

-- The families that are declared are self-contained.
abbrev is_kind : Option Kind → Bool
is_kind None = false
is_kind (Some K) = true

module _ (Σ : Signature) (ok : IsSignature Σ) where
  abbrev pub families : ℕ → Bool
  families a = is_kind (Σ.kinds a)

  type_declared : (G : List LfType) (A : LfType) → IsType Σ G A → FamiliesIn families A
  type_declared G (pi A B) (a, b) = (type_declared G A a, type_declared (A ∷ G) B b)
  type_declared G (atom a S) (K, e, s) = ap is_kind e

  kind_declared : (G : List LfType) (K : Kind) → IsKind Σ G K → KindFamiliesIn families K
  kind_declared G (kind_pi A K) (a, k) = (type_declared G A a, kind_declared (A ∷ G) K k)
  kind_declared G star k = tt

  pub context_declared : (G : List LfType) → IsContext Σ G → AllFamiliesIn families G
  context_declared [] c = tt
  context_declared (A ∷ G) (c, t) = (type_declared G A t, context_declared G c)

  entry_declared : (es O : List LfType) (E : LfType) → IsContext Σ (onto es O) → Member E es → FamiliesIn families E
  entry_declared [] O E c m = absurd m
  entry_declared (D ∷ es) O E (c, t) (inl e) = subst (FamiliesIn families) (sym e) (type_declared (onto es O) D t)
  entry_declared (D ∷ es) O E (c, t) (inr m) = entry_declared es O E c m

  pub all_declared : (W : List Block) → AreTypedBlocks Σ W → SelfContained Σ W families
  all_declared W typed = record {
    declared = λ a e. by a (Σ.kinds a) refl e;
    kinds_in = λ a K e s. kind_declared [] K (ok.kinds_ok a K e);
    types_in = λ c A e s. type_declared [] A (ok.types_ok c A e);
    entries_in = λ B E m k s. entry_declared B.entries B.some E (typed B m) k;
  }
    where
      by : (a : ℕ) (y : Option Kind) → Σ.kinds a ≡ y → is_kind y ≡ true → IsDeclared Σ a
      by a None q e = absurd (true≢false (sym e))
      by a (Some K) q e = (K, q)

  -- A typed context is an instance of a block that has it for its entries.
  abbrev pub whole_block : List LfType → Block
  whole_block L = record { label = []; some = []; entries = L }

  open_all : (W : List Block) (S : ℕ → Bool) (B : Block) → B.some ≡ [] → (L : List LfType) → IsContext Σ L → OpenInstance Σ W S B L L keep
  open_all W S B n [] c = begin_instance no_variables (record { typed = λ i A g u. absurd (subst (λ O. TypeAt O i A) n g); closed = λ i A g u. absurd (subst (λ O. TypeAt O i A) n g) })
  open_all W S B n (E ∷ L) (c, t) =
      let o : OpenInstance Σ W S B (substitute_type reduce keep E ∷ L) (E ∷ L) (lift keep) = next_entry E (open_all W S B n L c) (subst (IsType Σ L) (sym (substitute_identity_type reduce E)) t) in
      subst (λ Z. OpenInstance Σ W S B (Z ∷ L) (E ∷ L) keep) (substitute_identity_type reduce E) (subst (λ f. OpenInstance Σ W S B (substitute_type reduce keep E ∷ L) (E ∷ L) f) (fun_ext lift_keep) o)

  pub with_whole : (W : List Block) → AreTypedBlocks Σ W → (L : List LfType) → IsContext Σ L → AreTypedBlocks Σ (whole_block L ∷ W)
  with_whole W typed L c B (inl e) = subst (IsTypedBlock Σ) (sym e) (subst (IsContext Σ) (sym (onto_nothing L)) c)
  with_whole W typed L c B (inr m) = typed B m

  pub whole_world : (W : List Block) (L : List LfType) → IsContext Σ L → World Σ (whole_block L ∷ W) families L
  whole_world W L c = whole_instance (whole_block L) (inl refl) refl (open_all (whole_block L ∷ W) families (whole_block L) refl L c)

-- items without block variables are typed in all worlds
pub in_all_worlds : (Σ : Signature) (W V : List Block) (I : List Item) → HasNoBlockVariable I → AreTypedItems Σ W I → AreTypedItems Σ V I
in_all_worlds Σ W V [] n a = tt
in_all_worlds Σ W V (free_variable A ∷ I) n (a, t) = (in_all_worlds Σ W V I n a, t)
in_all_worlds Σ W V (block_variable B υ ∷ I) n a = absurd n

ground_in_world : (Σ : Signature) (F : List Item) {W : List Block} {S : ℕ → Bool} (w : World Σ W S (items_context F)) (I : List Item) (σ : ℕ → Image) → HasNoBlockVariable I → IsTypedInstance Σ F I σ → IsGroundInstance w I σ
ground_in_world Σ F w [] σ n g = tt
ground_in_world Σ F w (free_variable A ∷ I) σ n (N, τ, g, t, e) = (N, τ, ground_in_world Σ F w I τ n g, t, e)
ground_in_world Σ F w (block_variable B υ ∷ I) σ n g = absurd n

module _ (Σ : Signature) (ok : IsSignature Σ) (W : List Block) (typed : AreTypedBlocks Σ W) (below : ℕ → ℕ → Bool) (I : List Item) (ti : AreTypedItems Σ W I) (x : ℕ) (X : LfType) (at : TypeAt (items_context I) x X) (F : List Item) (τ : ℕ → Image) (af : AreTypedItems Σ W F) where
  -- Values over items F that make x the head do so in the context of F, which is a context of worlds.
  abbrev pub items_world : World Σ (whole_block Σ ok (items_context F) ∷ W) (families Σ ok) (items_context F)
  items_world = whole_world Σ ok W (items_context F) (items_are_context Σ ok W typed F af)

  makes_head : (ni : HasNoBlockVariable I) (h : Head) (A : LfType) → SplitHead Σ W I X I zero h A → HasNoBlockVariable (split_items below X I zero A) → (u : Unifies Σ F (split_items below X I zero A) (x + (zero + arguments_count A)) (rename_type (shift_by (zero + arguments_count A)) X) (head_term below (taken (rename_type (shift_by zero) X)) h A) τ) → IsType Σ (onto (taken (rename_type (shift_by zero) X)) (items_context I)) A → (h0 : Head) → HeadHasType Σ (onto (instance (taken X) (λ k. τ (k + (zero + arguments_count A)))) (items_context F)) h0 (substitute_type reduce (lift_over (taken (rename_type (shift_by zero) X)) (λ k. τ (k + arguments_count A))) A) → ((S : Spine) → substitute reduce (lift_over (taken (rename_type (shift_by zero) X)) τ) (root (rename_head (lift_renaming_by (length (taken (rename_type (shift_by zero) X))) (shift_by (arguments_count A))) h) S) ≡ root h0 (substitute_spine reduce (lift_over (taken (rename_type (shift_by zero) X)) τ) S)) → MakesHead items_world below x X I zero h A τ
  makes_head ni h A sh np u ta h0 hh under =
      let P : List Item = split_items below X I zero A in
      let cg : IsContext Σ (items_context F) = items_are_context Σ ok W typed F af in
      let g : IsGroundInstance items_world (split_items below X I zero A) τ = ground_in_world Σ F items_world (split_items below X I zero A) τ np u.is_instance in
      let e : as_term (skeleton X) (τ (x + (zero + arguments_count A))) ≡ substitute reduce τ (head_term below (taken (rename_type (shift_by zero) X)) h A) = ap (λ a. as_term a (τ (x + (zero + arguments_count A)))) (sym (skeleton_renamed (shift_by (zero + arguments_count A)) X)) ∙ u.same in
      let t = types_same Σ ok below I I x X at zero h A (items_context F) cg τ (instance_by_skeletons Σ ok W typed F (split_items below X I zero A) τ np u.is_instance) (instance_is_typed Σ ok W typed F I (λ k. τ (k + (zero + arguments_count A))) ni (behind_all Σ F W below I X I zero h A sh τ u.is_instance)) ta h0 hh under e in
      record { is_ground = g; is_distinct = distinct_without items_world P τ g np; same = e; same_type = t }

  pub head_made : (J : List Item) (n : ℕ) (h : Head) (A : LfType) → SplitHead Σ W I X J n h A → HasNoBlockVariable J → Unifies Σ F (split_items below X J n A) (x + (n + arguments_count A)) (rename_type (shift_by (n + arguments_count A)) X) (head_term below (taken (rename_type (shift_by n) X)) h A) τ → MakesHead items_world below x X J n h A τ
  head_made J n h A sh nj u = by sh nj u
    where
      zeros : (m : ℕ) → m ≡ 0 + m
      zeros m = omega arith

      taken_zero : taken (rename_type (shift_by 0) X) ≡ taken X
      taken_zero = ap taken (no_shift_type X)

      by : {J : List Item} {n : ℕ} {h : Head} {A : LfType} → SplitHead Σ W I X J n h A → HasNoBlockVariable J → Unifies Σ F (split_items below X J n A) (x + (n + arguments_count A)) (rename_type (shift_by (n + arguments_count A)) X) (head_term below (taken (rename_type (shift_by n) X)) h A) τ → MakesHead items_world below x X J n h A τ
      by (constant_head k U e t) nj u =
          let D : List LfType = taken (rename_type (shift_by 0) X) in
          makes_head nj (constant k) U (constant_head k U e t) (heads_without (head_masks below D (arguments_count U) U) (arguments_count U) D U I nj) u (constant_type Σ ok (onto D (items_context I)) k U e) (constant k) (subst (λ Y. Σ.types k ≡ Some Y) (sym (closed_type_substituted Σ reduce (lift_over D (λ i. τ (i + arguments_count U))) U (constant_type Σ ok [] k U e))) e) (λ S. refl)
      by (bound_head j A l k t) nj u =
          let O : List LfType = items_context I in
          let D : List LfType = taken (rename_type (shift_by 0) X) in
          let σ : ℕ → Image = λ i. τ (i + arguments_count A) in
          let k' : TypeAt (onto (taken X) O) j A = subst (λ L. TypeAt L j A) (binders_over [] X O) k in
          let co : IsContext Σ (onto (taken X) O) = subst (IsContext Σ) (binders_over [] X O) (binders_typed Σ ok X O (items_are_context Σ ok W typed I ti) (declared_is_type Σ ok O x X (items_are_context Σ ok W typed I ti) at)) in
          let here : TypeAt (onto (instance (taken X) σ) (items_context F)) j (substitute_type reduce (lift_over (taken X) σ) A) = local_type (taken X) O (items_context F) σ j A l k' in
          let l2 : j < length D = subst (λ L. j < length L) (sym taken_zero) l in
          makes_head nj (variable j) A (bound_head j A l k t) (heads_without (head_masks below D (arguments_count A) A) (arguments_count A) D A I nj) u (subst (λ L. IsType Σ (onto L O) A) (sym taken_zero) (declared_is_type Σ ok (onto (taken X) O) j A co k')) (variable j) (subst (λ m. TypeAt (onto (instance (taken X) (λ i. τ (i + m))) (items_context F)) j (substitute_type reduce (lift_over D σ) A)) (zeros (arguments_count A)) (subst (λ L. TypeAt (onto (instance (taken X) σ) (items_context F)) j (substitute_type reduce (lift_over L σ) A)) (sym taken_zero) here))
          (λ S. ap (λ i. substitute reduce (lift_over D τ) (root (variable i) S)) (renaming_near (length D) (shift_by (arguments_count A)) j l2) ∙ ap (λ y. apply_image reduce y (substitute_spine reduce (lift_over D τ) S)) (lift_over_near D τ j l2))
      by (entry_head j A k f t) nj u = absurd (true≢false (sym (all_free I nj j A k) ∙ f))
      by (new_entry_head B j A m l k t) nj u = absurd nj

-- Without block variables the worlds don't matter to a head.
pub head_in_all_worlds : (Σ : Signature) (W V : List Block) (I : List Item) (X : LfType) (J : List Item) (n : ℕ) (h : Head) (A : LfType) → HasNoBlockVariable J → SplitHead Σ W I X J n h A → SplitHead Σ V I X J n h A
head_in_all_worlds Σ W V I X J n h A nj sh = by nj sh
  where
    by : {J : List Item} {n : ℕ} {h : Head} {A : LfType} → HasNoBlockVariable J → SplitHead Σ W I X J n h A → SplitHead Σ V I X J n h A
    by nj (constant_head k U e t) = constant_head k U e t
    by nj (bound_head j A l k t) = bound_head j A l k t
    by nj (entry_head j A k f t) = entry_head j A k f t
    by nj (new_entry_head B j A m l k t) = absurd nj

pub none_of_items : (Σ : Signature) (W : List Block) (I : List Item) (X : LfType) (J : List Item) (n : ℕ) (h : Head) (A : LfType) → HasNoBlockVariable J → SplitHead Σ W I X J n h A → HasNoBlockVariable I
none_of_items Σ W I X J n h A nj sh = by nj sh
  where
    by : {J : List Item} {n : ℕ} {h : Head} {A : LfType} → HasNoBlockVariable J → SplitHead Σ W I X J n h A → HasNoBlockVariable I
    by nj (constant_head k U e t) = nj
    by nj (bound_head j A l k t) = nj
    by nj (entry_head j A k f t) = nj
    by nj (new_entry_head B j A m l k t) = absurd nj

pub never_gives_no_case : NeverGivesNoCase
never_gives_no_case Σ ok W typed below C tc x X at J n h A sh nj K never F τ af u =
    let aj : AreTypedItems Σ W (split_items below X J n A) = split_items_typed Σ ok W typed below C.items tc.items x X at J n h A sh in
    let L : List LfType = items_context F in
    let V : List Block = whole_block Σ ok L ∷ W in
    let P : List Item = split_items below X J n A in
    let D : List LfType = taken (rename_type (shift_by n) X) in
    let np : HasNoBlockVariable P = heads_without (head_masks below D (arguments_count A) A) (arguments_count A) D A J nj in
    let tv : AreTypedBlocks Σ V = with_whole Σ ok W typed L (items_are_context Σ ok W typed F af) in
    never_gives_none Σ ok V tv below (families Σ ok) (all_declared Σ ok V tv) C.items (in_all_worlds Σ W V C.items (none_of_items Σ W C.items X J n h A nj sh) tc.items) x X at J n h A K (head_in_all_worlds Σ W V C.items X J n h A nj sh) (in_all_worlds Σ W V P np aj) (context_declared Σ ok (items_context P) (items_are_context Σ ok W typed P aj)) never Σ (Extends-self (families Σ ok) Σ ok) L (items_world Σ ok W typed below C.items tc.items x X at F τ af) τ (head_made Σ ok W typed below C.items tc.items x X at F τ af J n h A sh nj u)
