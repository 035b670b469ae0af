-- A case that a split gives is a typed instance of the case that is split.
use Rattle.std.proofs.Common.{◌≡◌, ℕ, zero, suc, List, [], ◌∷◌, ◌+◌, length, refl, sym, ap, ◌∙◌, subst, arith}
use Rattle.std.specs.Prelude.{Bool}
use Rattle.lf.specs.Syntax.{Head, Term, LfType, pi, atom, skeleton, rename_type, lift_renaming}
use Rattle.lf.specs.Substitution.{Image, single}
use Rattle.lf.specs.AtOnce.{shift_by}
use Rattle.lf.specs.Typing.{Signature, instantiate_type}
use Rattle.lf.specs.Subordination.{Block}
use Rattle.lf_cases.specs.Case.{Item, free_variable}
use Rattle.lf_cases.specs.Missing.{IsTypedInstance}
use Rattle.lf_cases.specs.OutputGoal.{free_variables, renumber, over_item, raised_variable}
use Rattle.lf_cases.specs.Raised.{raise_by, first_mask, other_masks}
use Rattle.lf_cases.specs.Reached.{arguments_count, head_masks, head_items, items_onto, with_block, taken, SplitHead, constant_head, bound_head, entry_head, new_entry_head, split_items, split_by}
use Rattle.lf_coverage.specs.Laws.{SplitCaseIsInstance}
use Rattle.lf_coverage.proofs.HeadItems.{count_substituted, count_renamed}
use Rattle.lf_coverage.proofs.Parts.{suc_same}
use Rattle.lf_coverage.proofs.SameInstance.{front_behind}
use mathlib.Core.Path.{fun_ext}

none : (i : ℕ) → i ≡ i + 0
none i = omega arith

module _ (Σ : Signature) (J : List Item) where
  moved : (I : List Item) (σ τ : ℕ → Image) → ((i : ℕ) → σ i ≡ τ i) → IsTypedInstance Σ J I σ → IsTypedInstance Σ J I τ
  moved I σ τ h g = subst (IsTypedInstance Σ J I) (fun_ext h) g

  behind_free : (A : LfType) (I : List Item) (σ : ℕ → Image) → IsTypedInstance Σ J (free_variable A ∷ I) σ → IsTypedInstance Σ J I (λ i. σ (suc i))
  behind_free A I σ (N, τ, g, t, e) = moved I τ (λ i. σ (suc i)) (λ i. ap (λ f. f (suc i)) (sym e)) g

  behind_new : (ks : List (List Bool)) (D : List LfType) (n : ℕ) (A : LfType) (I : List Item) (σ : ℕ → Image) → arguments_count A ≡ n → IsTypedInstance Σ J (head_items ks D n A I) σ → IsTypedInstance Σ J I (λ i. σ (i + n))
  behind_new ks D zero A I σ e g = moved I σ (λ i. σ (i + 0)) (λ i. ap σ (none i)) g
  behind_new ks D (suc n) (atom a S) I σ e g = absurd (no e)
    where
      no : zero ≡ suc n → ⊥
      no e = omega arith
  behind_new ks D (suc n) (pi A B) I σ e g =
      let N : Term = raised_variable (first_mask ks) D A zero in
      let ρ : ℕ → ℕ = lift_renaming (over_item D) in
      let X : LfType = raise_by (first_mask ks) D A in
      let h : IsTypedInstance Σ J (free_variable X ∷ I) (λ i. σ (i + n)) = behind_new (other_masks ks) (renumber suc D) n (instantiate_type A N (rename_type ρ B)) (free_variable X ∷ I) σ (count_substituted (single (skeleton A) N) (rename_type ρ B) ∙ count_renamed ρ B ∙ suc_same e) g in
      moved I (λ i. σ (suc i + n)) (λ i. σ (i + suc n)) (λ i. ap σ (next i n)) (behind_free X I (λ i. σ (i + n)) h)
    where
      next : (i n : ℕ) → suc i + n ≡ i + suc n
      next i n = omega arith

  behind_some : (O : List LfType) (I : List Item) (σ : ℕ → Image) → IsTypedInstance Σ J (items_onto (free_variables O) I) σ → IsTypedInstance Σ J I (λ i. σ (i + length O))
  behind_some [] I σ g = moved I σ (λ i. σ (i + 0)) (λ i. ap σ (none i)) g
  behind_some (A ∷ O) I σ g = moved I (λ i. σ (suc (i + length O))) (λ i. σ (i + suc (length O))) (λ i. ap σ (next i (length O))) (behind_some O I (λ i. σ (suc i)) (behind_free A (items_onto (free_variables O) I) σ g))
    where
      next : (i n : ℕ) → suc (i + n) ≡ i + suc n
      next i n = omega arith

  behind_block : (B : Block) (I : List Item) (σ : ℕ → Image) → IsTypedInstance Σ J (with_block B I) σ → IsTypedInstance Σ J I (λ i. σ (i + (length B.some + length B.entries)))
  behind_block B I σ (θ, τ, g, b, s, e) = moved I (λ i. τ (i + length B.some)) (λ i. σ (i + (length B.some + length B.entries))) same (behind_some B.some I τ g)
    where
      sums : (i n c : ℕ) → (i + n) + c ≡ i + (n + c)
      sums i n c = omega arith

      same : (i : ℕ) → τ (i + length B.some) ≡ σ (i + (length B.some + length B.entries))
      same i = sym (front_behind B.entries θ τ (i + length B.some)) ∙ ap (λ f. f ((i + length B.some) + length B.entries)) (sym e) ∙ ap σ (sums i (length B.some) (length B.entries))

  behind_moved : (W : List Block) (I : List Item) (X : LfType) (K : List Item) (n : ℕ) (h : Head) (A : LfType) → SplitHead Σ W I X K n h A → (σ : ℕ → Image) → IsTypedInstance Σ J K σ → IsTypedInstance Σ J I (λ i. σ (i + n))
  behind_moved W I X _ _ h A (constant_head k U e t) σ g = moved I σ (λ i. σ (i + 0)) (λ i. ap σ (none i)) g
  behind_moved W I X _ _ h A (bound_head j B l k t) σ g = moved I σ (λ i. σ (i + 0)) (λ i. ap σ (none i)) g
  behind_moved W I X _ _ h A (entry_head j B k f t) σ g = moved I σ (λ i. σ (i + 0)) (λ i. ap σ (none i)) g
  behind_moved W I X K n h A (new_entry_head B j C m l k t) σ g = behind_block B I σ g

  pub behind_all : (W : List Block) (below : ℕ → ℕ → Bool) (I : List Item) (X : LfType) (K : List Item) (n : ℕ) (h : Head) (A : LfType) → SplitHead Σ W I X K n h A → (σ : ℕ → Image) → IsTypedInstance Σ J (split_items below X K n A) σ → IsTypedInstance Σ J I (λ i. σ (i + (n + arguments_count A)))
  behind_all W below I X K n h A sh σ g = moved I (λ i. σ ((i + n) + arguments_count A)) (λ i. σ (i + (n + arguments_count A))) (λ i. ap σ (sums i n (arguments_count A))) (behind_moved W I X K n h A sh (λ i. σ (i + arguments_count A)) (behind_new (head_masks below (taken (rename_type (shift_by n) X)) (arguments_count A) A) (taken (rename_type (shift_by n) X)) (arguments_count A) A K σ refl g))
    where
      sums : (i n c : ℕ) → (i + n) + c ≡ i + (n + c)
      sums i n c = omega arith

pub split_case_is_instance : SplitCaseIsInstance
split_case_is_instance Σ W below C x D (split_by {I = K} {n = n} {h = h} {A = A} X at sh s) = record {
  typed_items = s.unifier.typed_items;
  values = λ i. s.values (i + (n + arguments_count A));
  is_instance = behind_all Σ D.items W below C.items X K n h A sh s.values s.unifier.unifies.is_instance;
  same_family = s.family;
  same_given = s.given;
  same_local = s.local;
  same_arguments = s.arguments;
}
