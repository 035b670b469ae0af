-- So do the new variables of a split by a head, and those of a goal of outputs.
use Rattle.std.proofs.Common.{◌≡◌, ℕ, zero, suc, List, [], ◌∷◌, inl, inr}
use Rattle.std.specs.Prelude.{Bool, true, false, cond}
use Rattle.lf.specs.Syntax.{Head, Term, Spine, nil, app, LfType, pi, atom, Kind, kind_pi, star, skeleton, lift_renaming, rename_spine, rename_type, rename_kind}
use Rattle.lf.specs.Substitution.{Image, lift, single, substitute_kind, reduce}
use Rattle.lf.specs.AtOnce.{shift_by, lift_renaming_by}
use Rattle.lf.specs.Typing.{Signature, IsSignature, instantiate_type, instantiate_kind}
use Rattle.lf.specs.Variables.{target, target_arguments, binders}
use Rattle.lf.specs.Subordination.{Block, AreTypedBlocks, IsBelowTest, KindQuantifies, below_in_constant, below_in_kind}
use Rattle.lf_checks.specs.Marks.{output_places}
use Rattle.lf_cases.specs.Case.{Item, free_variable, items_context}
use Rattle.lf_cases.specs.Missing.{AreTypedItems}
use Rattle.lf_cases.specs.OutputGoal.{closed_over, goal_number, kept_items, kept_number, output_items, output_masks, renumber, over_item, raised_variable}
use Rattle.lf_cases.specs.Pattern.{of_constant}
use Rattle.lf_cases.specs.Raised.{raise_by, raised_over, first_mask, other_masks}
use Rattle.lf_cases.specs.Reached.{SplitHead, constant_head, bound_head, entry_head, new_entry_head, arguments_count, head_items, head_masks, taken}
use Rattle.lf_cases.specs.Split.{HasNoBlockVariable}
use Rattle.lf_coverage.specs.Subordinate.{QuantifiersAreBelow, AllQuantifiersAreBelow}
use Rattle.lf_coverage.specs.SubordinateRuns.{SplitItemsQuantifyBelow, OutputsQuantifyBelow}
use Rattle.lf_coverage.proofs.SplitReady.{split_items_typed}
use Rattle.lf_coverage.proofs.Subordinate.{quantified, below_renamed, below_at, below_binders, below_renumbered, below_substituted, heads_quantify_below}
use Rattle.lf_coverage.proofs.SubordinateRaised.{raised_quantifies_below}

module _ (below : ℕ → ℕ → Bool) where
  -- kinds
  abbrev pub KindIsBelow : Kind → Type 0
  KindIsBelow (kind_pi A K) = QuantifiersAreBelow below A × KindIsBelow K
  KindIsBelow star = Unit {0}

  pub kind_is_below : (f : ℕ) (K : Kind) → ((a b : ℕ) → KindQuantifies f a b K → below b a ≡ true) → KindIsBelow K
  kind_is_below f (kind_pi A K) h = (quantified below A (λ a b q. h a b (inr (inl q))), kind_is_below f K (λ a b q. h a b (inr (inr q))))
  kind_is_below f star h = tt

  pub kind_renamed : (ρ : ℕ → ℕ) (K : Kind) → KindIsBelow K → KindIsBelow (rename_kind ρ K)
  kind_renamed ρ (kind_pi A K) (a, k) = (below_renamed below ρ A a, kind_renamed (lift_renaming ρ) K k)
  kind_renamed ρ star k = tt

  pub kind_substituted : (σ : ℕ → Image) (K : Kind) → KindIsBelow K → KindIsBelow (substitute_kind reduce σ K)
  kind_substituted σ (kind_pi A K) (a, k) = (below_substituted below σ A a, kind_substituted (lift σ) K k)
  kind_substituted σ star k = tt

  -- the variables of a clause that are kept
  kept_below : (V : ℕ → Bool) (D : List LfType) (ρ : ℕ → ℕ) (I : List Item) → AllQuantifiersAreBelow below D → AllQuantifiersAreBelow below (items_context I) → AllQuantifiersAreBelow below (items_context (kept_items V D ρ I))
  kept_below V [] ρ I d i = i
  kept_below V (A ∷ D) ρ I (a, d) i = by (V zero) (kept_below (λ j. V (suc j)) D ρ I d i)
    where
      by : (b : Bool) → AllQuantifiersAreBelow below (items_context (kept_items (λ j. V (suc j)) D ρ I)) → AllQuantifiersAreBelow below (items_context (cond b (free_variable (rename_type (kept_number (λ j. V (suc j)) D ρ) A) ∷ kept_items (λ j. V (suc j)) D ρ I) (kept_items (λ j. V (suc j)) D ρ I)))
      by true h = (below_renamed below (kept_number (λ j. V (suc j)) D ρ) A a, h)
      by false h = h

-- what is behind new variables is typed where all is
module _ (Σ : Signature) (W : List Block) where
  behind_head : (ks : List (List Bool)) (D : List LfType) (n : ℕ) (A : LfType) (I : List Item) → AreTypedItems Σ W (head_items ks D n A I) → AreTypedItems Σ W I
  behind_head ks D zero A I t = t
  behind_head ks D (suc n) (atom a S) I t = t
  behind_head ks D (suc n) (pi A B) I t = (behind_head (other_masks ks) (renumber suc D) n (instantiate_type A (raised_variable (first_mask ks) D A zero) (rename_type (lift_renaming (over_item D)) B)) (free_variable (raise_by (first_mask ks) D A) ∷ I) t).0

  behind_outputs : (ks : List (List Bool)) (D : List LfType) (m : List Bool) (S : Spine) (K : Kind) (I : List Item) → AreTypedItems Σ W (output_items ks D m S K I) → AreTypedItems Σ W I
  behind_outputs ks D [] S K I t = t
  behind_outputs ks D (b ∷ m) nil K I t = t
  behind_outputs ks D (b ∷ m) (app M S) star I t = t
  behind_outputs ks D (false ∷ m) (app M S) (kind_pi A K) I t = behind_outputs ks D m S (instantiate_kind A M K) I t
  behind_outputs ks D (true ∷ m) (app M S) (kind_pi A K) I t = (behind_outputs (other_masks ks) (renumber suc D) m (rename_spine (over_item D) S) (instantiate_kind A (raised_variable (first_mask ks) D A zero) (rename_kind (lift_renaming (over_item D)) K)) (free_variable (raise_by (first_mask ks) D A) ∷ I) t).0

module _ (Σ : Signature) (ok : IsSignature Σ) (W : List Block) (typed : AreTypedBlocks Σ W) (below : ℕ → ℕ → Bool) (test : (f : ℕ) → IsBelowTest Σ W (below f) f) where
  -- all new variables of a head
  head_items_below : (n : ℕ) (D : List LfType) (A : LfType) (I : List Item) → AreTypedItems Σ W (head_items (head_masks below D n A) D n A I) → AllQuantifiersAreBelow below D → AllQuantifiersAreBelow below (items_context I) → QuantifiersAreBelow below A → AllQuantifiersAreBelow below (items_context (head_items (head_masks below D n A) D n A I))
  head_items_below zero D A I t d i q = i
  head_items_below (suc n) D (atom a T) I t d i q = i
  head_items_below (suc n) D (pi A B) I t d i (q, a, b) =
      let k : List Bool = raised_over (below (target A)) D A in
      let N : Term = raised_variable k D A zero in
      let B1 : LfType = rename_type (lift_renaming (over_item D)) B in
      let A1 : LfType = instantiate_type A N B1 in
      let J : List Item = free_variable (raise_by k D A) ∷ I in
      let z : QuantifiersAreBelow below (raise_by k D A) = raised_quantifies_below Σ ok W typed below test D (items_context I) A d i a (behind_head Σ W (head_masks below (renumber suc D) n A1) (renumber suc D) n A1 J t).1 in
      head_items_below n (renumber suc D) A1 J t (below_renumbered below suc D d) (z, i) (below_substituted below (single (skeleton A) N) B1 (below_renamed below (lift_renaming (over_item D)) B b))

  -- all of outputs
  output_items_below : (D : List LfType) (m : List Bool) (S : Spine) (K : Kind) (I : List Item) → AreTypedItems Σ W (output_items (output_masks below D m S K) D m S K I) → AllQuantifiersAreBelow below D → AllQuantifiersAreBelow below (items_context I) → KindIsBelow below K → AllQuantifiersAreBelow below (items_context (output_items (output_masks below D m S K) D m S K I))
  output_items_below D [] S K I t d i k = i
  output_items_below D (b ∷ m) nil K I t d i k = i
  output_items_below D (b ∷ m) (app M S) star I t d i k = i
  output_items_below D (false ∷ m) (app M S) (kind_pi A K) I t d i (a, k) = output_items_below D m S (instantiate_kind A M K) I t d i (kind_substituted below (single (skeleton A) M) K k)
  output_items_below D (true ∷ m) (app M S) (kind_pi A K) I t d i (a, k) =
      let c : List Bool = raised_over (below (target A)) D A in
      let N : Term = raised_variable c D A zero in
      let K1 : Kind = rename_kind (lift_renaming (over_item D)) K in
      let K2 : Kind = instantiate_kind A N K1 in
      let S1 : Spine = rename_spine (over_item D) S in
      let J : List Item = free_variable (raise_by c D A) ∷ I in
      let z : QuantifiersAreBelow below (raise_by c D A) = raised_quantifies_below Σ ok W typed below test D (items_context I) A d i a (behind_outputs Σ W (output_masks below (renumber suc D) m S1 K2) (renumber suc D) m S1 K2 J t).1 in
      output_items_below (renumber suc D) m S1 K2 J t (below_renumbered below suc D d) (z, i) (kind_substituted below (single (skeleton A) N) K1 (kind_renamed below (lift_renaming (over_item D)) K k))

  -- a split by a head adds no item but these
  items_stay : (I J : List Item) (X : LfType) (n : ℕ) (h : Head) (A : LfType) → SplitHead Σ W I X J n h A → HasNoBlockVariable J → AllQuantifiersAreBelow below (items_context I) → AllQuantifiersAreBelow below (items_context J)
  items_stay I _ X _ _ A (constant_head k U e q) b i = i
  items_stay I _ X _ _ A (bound_head j B l k q) b i = i
  items_stay I _ X _ _ A (entry_head j B k f q) b i = i
  items_stay I _ X _ _ A (new_entry_head B j E m l k q) b i = absurd b

pub split_items_quantify_below : SplitItemsQuantifyBelow
split_items_quantify_below Σ ok W typed below test I ti i x X at J n h A sh nj =
    let Y : LfType = rename_type (shift_by n) X in
    let j : AllQuantifiersAreBelow below (items_context J) = items_stay Σ ok W typed below test I J X n h A sh nj i in
    let d : AllQuantifiersAreBelow below (taken Y) = below_binders below [] Y tt (below_renamed below (shift_by n) X (below_at below (items_context I) i x X at)) in
    head_items_below Σ ok W typed below test (arguments_count A) (taken Y) A J (split_items_typed Σ ok W typed below I ti x X at J n h A sh) d j (heads_quantify_below Σ W below test I i x X at J n h A sh nj)

pub outputs_quantify_below : OutputsQuantifyBelow
outputs_quantify_below Σ ok W typed below test k U e m V i A s K f t =
    let Z : ℕ → Bool = closed_over (binders [] U) V in
    let r : ℕ → ℕ = goal_number (of_constant U) Z in
    let u : AllQuantifiersAreBelow below (binders [] U) = below_binders below [] U tt (quantified below U (λ a b q. (test b a).1 (below_in_constant k U e q))) in
    let a : QuantifiersAreBelow below A = below_at below (binders [] U) u i A s.1 in
    output_items_below Σ ok W typed below test (renumber r (binders [] A)) (output_places (m (target A))) (rename_spine (lift_renaming_by _ r) (target_arguments A)) K (kept_items Z (binders [] U) (λ j. j) []) t (below_renumbered below r (binders [] A) (below_binders below [] A tt a)) (kept_below below Z (binders [] U) (λ j. j) [] u tt) (kind_is_below below (target A) K (λ b c q. (test c b).1 (below_in_kind (target A) K f q)))
