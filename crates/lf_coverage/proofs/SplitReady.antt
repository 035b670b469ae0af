-- The store of a split of a typed case is well formed: its head is applied to no terms.
use Rattle.std.proofs.Common.{◌≡◌, ℕ, ◌+◌, List, [], length, refl, sym, subst}
use Rattle.std.specs.Prelude.{Bool, Some}
use Rattle.lf.specs.Syntax.{Head, nil, LfType, Kind, rename_type}
use Rattle.lf.specs.AtOnce.{shift_by}
use Rattle.lf.specs.Typing.{Signature, TypeAt, HeadHasType, SpineFitsKind, IsType, IsContext, IsSignature}
use Rattle.lf.specs.Variables.{target, target_arguments, onto}
use Rattle.lf.specs.Subordination.{Block, AreTypedBlocks}
use Rattle.lf.proofs.Weakening.{HeadHasType-renamed}
use Rattle.lf_unification.specs.Solving.{IsWellFormed}
use Rattle.lf_cases.specs.Case.{Item, items_context}
use Rattle.lf_cases.specs.Missing.{AreTypedItems}
use Rattle.lf_cases.specs.Reached.{arguments_count, taken, with_block, SplitHead, constant_head, bound_head, entry_head, new_entry_head, split_items}
use Rattle.lf_totality.proofs.RaisedOutputs.{binders_over}
use Rattle.lf_coverage.specs.SplitStore.{split_store}
use Rattle.lf_coverage.proofs.Forms.{far_type, no_shift_type}
use Rattle.lf_coverage.proofs.HeadTerm.{head_target, taken_length}
use Rattle.lf_coverage.proofs.AppliedHead.{AppliesTo, applied_items, applied_context, applied_place}
use Rattle.lf_coverage.proofs.AppliedReady.{applied_ready, applied_type, applied_under, applied_fits, applied_length}
use Rattle.lf_coverage.proofs.SolvedCase.{head_typed}

module _ (Σ : Signature) (ok : IsSignature Σ) (W : List Block) (typed : AreTypedBlocks Σ W) (below : ℕ → ℕ → Bool) (I : List Item) (ti : AreTypedItems Σ W I) (x : ℕ) (X : LfType) (at : TypeAt (items_context I) x X) (J : List Item) (n : ℕ) (h : Head) (A : LfType) (sh : SplitHead Σ W I X J n h A) where
  abbrev C : List LfType
  C = items_context (split_items below X J n A)

  abbrev X2 : LfType
  X2 = rename_type (shift_by (n + arguments_count A)) X

  abbrev D : List LfType
  D = taken (rename_type (shift_by (n + arguments_count A)) X)

  known : AreTypedItems Σ W J × TypeAt (items_context J) (x + n) (rename_type (shift_by n) X) × IsType Σ (onto (taken (rename_type (shift_by n) X)) (items_context J)) A
  known = head_typed Σ ok W typed I ti x X at J n h A sh

  same : target A ≡ target X
  same = head_target Σ W below I X J n h A sh

  -- the head has its type
  head_has_type : HeadHasType Σ (onto (taken (rename_type (shift_by n) X)) (items_context J)) h A
  head_has_type = by sh
    where
      far : (K : List Item) (m j : ℕ) (B : LfType) → TypeAt (items_context K) j B → TypeAt (onto (taken (rename_type (shift_by m) X)) (items_context K)) (j + length (taken X)) (rename_type (shift_by (length (taken X))) B)
      far K m j B k = subst (λ l. TypeAt (onto (taken (rename_type (shift_by m) X)) (items_context K)) (j + l) (rename_type (shift_by l) B)) (taken_length (shift_by m) X [] [] refl) (far_type (taken (rename_type (shift_by m) X)) (items_context K) j B k)

      by : {K : List Item} {m : ℕ} {k : Head} {B : LfType} → SplitHead Σ W I X K m k B → HeadHasType Σ (onto (taken (rename_type (shift_by m) X)) (items_context K)) k B
      by (constant_head k U e t) = e
      by (bound_head j B l k t) = subst (λ Y. TypeAt (onto (taken Y) (items_context I)) j B) (sym (no_shift_type X)) (subst (λ L. TypeAt L j B) (binders_over [] X (items_context I)) k)
      by (entry_head j B k f t) = far I 0 j B k
      by (new_entry_head B j E m l k t) = far (with_block B I) (length B.some + length B.entries) j E k

  applies : AppliesTo Σ (onto (taken (rename_type (shift_by n) X)) (items_context J)) h nil A
  applies G l w S a T s = (rename_type l A, HeadHasType-renamed Σ ok (onto (taken (rename_type (shift_by n) X)) (items_context J)) G l h A w head_has_type, s)

  -- the items are typed
  pub split_items_typed : AreTypedItems Σ W (split_items below X J n A)
  split_items_typed = applied_items Σ ok W typed below x X J n h nil A known.0 known.1 known.2 same applies

  pub cc0 : IsContext Σ C
  cc0 = applied_context Σ ok W typed below x X J n h nil A known.0 known.1 known.2 same applies

  -- x and its type among them
  pub place : TypeAt C (x + (n + arguments_count A)) X2
  place = applied_place Σ ok W typed below x X J n h nil A known.0 known.1 known.2 same applies

  module _ (K : Kind) (of_family : Σ.kinds (target X) ≡ Some K) where
    pub tx : IsType Σ C X2
    tx = applied_type Σ ok W typed below x X J n h nil A known.0 known.1 known.2 same applies K of_family

    pub context_under : IsContext Σ (onto D C)
    context_under = applied_under Σ ok W typed below x X J n h nil A known.0 known.1 known.2 same applies K of_family

    pub first_fits : SpineFitsKind Σ (onto D C) (target_arguments X2) K
    first_fits = applied_fits Σ ok W typed below x X J n h nil A known.0 known.1 known.2 same applies K of_family

    pub lengths : length D ≡ length (taken X)
    lengths = applied_length Σ ok W typed below x X J n h nil A known.0 known.1 known.2 same applies K of_family

    -- The lemma
    pub split_ready : IsWellFormed Σ (split_store below x X J n h A K)
    split_ready = applied_ready Σ ok W typed below x X J n h nil A known.0 known.1 known.2 same applies K of_family
