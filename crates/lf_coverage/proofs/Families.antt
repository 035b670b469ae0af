-- What a run keeps of the families in the types of the items.
use Rattle.std.proofs.Common.{◌≡◌, ℕ, zero, suc, List, [], ◌∷◌, length, sym, subst}
use Rattle.std.specs.Prelude.{Bool, true, false, Some}
use Rattle.std.specs.List.{AllByRecursion}
use Rattle.lf.specs.Syntax.{Head, Term, LfType, pi, atom, skeleton, lift_renaming, rename_type}
use Rattle.lf.specs.Substitution.{single, reduce}
use Rattle.lf.specs.AtOnce.{shift_by, lift_renaming_by}
use Rattle.lf.specs.Typing.{Signature, instantiate_type}
use Rattle.lf.specs.Variables.{binders, onto, FamiliesIn, at_variable}
use Rattle.lf.specs.Subordination.{Block, SelfContained}
use Rattle.lf.proofs.Strength.{families_renamed, families_substituted, family_target}
use Rattle.lf_unification.specs.Dependency.{free_context}
use Rattle.lf_unification.specs.OpenTyping.{skeletons_of}
use Rattle.lf_cases.specs.Case.{Item, free_variable, items_context}
use Rattle.lf_cases.specs.OutputGoal.{free_variables, renumber, over_item, raised_variable}
use Rattle.lf_cases.specs.Raised.{raise_by, first_mask, other_masks}
use Rattle.lf_cases.specs.Reached.{SplitHead, constant_head, bound_head, entry_head, new_entry_head, arguments_count, head_items, head_masks, taken}
use Rattle.lf_cases.specs.Split.{HasNoBlockVariable}
use Rattle.lf_coverage.specs.SplitStore.{context_metavariables, AllFamiliesIn}
use Rattle.lf_coverage.specs.RunLaws.{SplitItemsKeepFamilies, SolvedKeepsFamilies}
use Rattle.lf_coverage.proofs.Everywhere.{Everywhere, of_families, free_has, metavariables_have, run_has}
use Rattle.lf_coverage.proofs.StoreSolution.{families_at}

module _ (S : ℕ → Bool) where
  pub all_onto : (D G : List LfType) → AllFamiliesIn S D → AllFamiliesIn S G → AllFamiliesIn S (onto D G)
  all_onto [] G d g = g
  all_onto (A ∷ D) G (a, d) g = (a, all_onto D G d g)

  pub all_binders : (G : List LfType) (X : LfType) → AllFamiliesIn S G → FamiliesIn S X → AllFamiliesIn S (binders G X)
  all_binders G (pi A B) g (a, b) = all_binders (A ∷ G) B (a, g) b
  all_binders G (atom a T) g x = g

  pub all_renumbered : (ρ : ℕ → ℕ) (D : List LfType) → AllFamiliesIn S D → AllFamiliesIn S (renumber ρ D)
  all_renumbered ρ [] d = tt
  all_renumbered ρ (A ∷ D) (a, d) = (families_renamed S (lift_renaming_by (length D) ρ) A a, all_renumbered ρ D d)

  pub raised_families : (ks : List Bool) (D : List LfType) (B : LfType) → AllFamiliesIn S D → FamiliesIn S B → FamiliesIn S (raise_by ks D B)
  raised_families ks [] B d b = b
  raised_families [] (A ∷ D) B d b = b
  raised_families (true ∷ ks) (A ∷ D) B (a, d) b = raised_families ks D (pi A B) d (a, b)
  raised_families (false ∷ ks) (A ∷ D) B (a, d) b = raised_families ks D (rename_type (at_variable zero) B) d (families_renamed S (at_variable zero) B b)

  pub head_families : (ks : List (List Bool)) (D : List LfType) (n : ℕ) (A : LfType) (I : List Item) → AllFamiliesIn S D → FamiliesIn S A → AllFamiliesIn S (items_context I) → AllFamiliesIn S (items_context (head_items ks D n A I))
  head_families ks D zero A I d a i = i
  head_families ks D (suc n) (atom a T) I d h i = i
  head_families ks D (suc n) (pi A B) I d (a, b) i =
      let N : Term = raised_variable (first_mask ks) D A zero in
      let ρ : ℕ → ℕ = lift_renaming (over_item D) in
      head_families (other_masks ks) (renumber suc D) n (instantiate_type A N (rename_type ρ B)) (free_variable (raise_by (first_mask ks) D A) ∷ I) (all_renumbered suc D d) (families_substituted S reduce (single (skeleton A) N) (rename_type ρ B) (families_renamed S ρ B b)) (raised_families (first_mask ks) D A d a, i)

  head_type_in : (Σ : Signature) (W : List Block) → SelfContained Σ W S → (I : List Item) → AllFamiliesIn S (items_context I) → (X : LfType) → FamiliesIn S X → (J : List Item) (n : ℕ) (h : Head) (A : LfType) → SplitHead Σ W I X J n h A → HasNoBlockVariable J → FamiliesIn S A × AllFamiliesIn S (items_context J)
  head_type_in Σ W sc I i X x _ _ _ A (constant_head k U e t) n = (sc.types_in k U e (subst (λ a. S a ≡ true) (sym t) (family_target S X x)), i)
  head_type_in Σ W sc I i X x _ _ _ A (bound_head j B l k t) n = (families_at S (binders (items_context I) X) (all_binders (items_context I) X i x) j B k, i)
  head_type_in Σ W sc I i X x _ _ _ A (entry_head j B k f t) n = (families_renamed S (shift_by (length (taken X))) B (families_at S (items_context I) i j B k), i)
  head_type_in Σ W sc I i X x _ _ _ A (new_entry_head B j E m l k t) n = absurd n

  -- it looks only at families
  abbrev pub InEverywhere : LfType → Type 0
  InEverywhere = Everywhere (λ b a. Unit {0}) (λ a. S a ≡ true)

  pub as_everywhere : (A : LfType) → FamiliesIn S A → InEverywhere A
  as_everywhere (pi A B) (a, b) = (tt, as_everywhere A a, as_everywhere B b)
  as_everywhere (atom a T) h = h

  pub from_everywhere : (A : LfType) → InEverywhere A → FamiliesIn S A
  from_everywhere (pi A B) (q, a, b) = (from_everywhere A a, from_everywhere B b)
  from_everywhere (atom a T) h = h

  pub all_everywhere : (G : List LfType) → AllFamiliesIn S G → AllByRecursion InEverywhere G
  all_everywhere [] h = tt
  all_everywhere (A ∷ G) (a, h) = (as_everywhere A a, all_everywhere G h)

  -- the variables of a context as metavariables
  pub store_families : (G : List LfType) → AllFamiliesIn S G → (m : ℕ) (A : LfType) → context_metavariables G m ≡ Some A → FamiliesIn S A
  store_families G h m A e = from_everywhere A (metavariables_have InEverywhere (of_families (λ b a. Unit {0}) (λ a. S a ≡ true)) G (all_everywhere G h) m A e)

  pub as_items : (O : List LfType) → AllByRecursion InEverywhere O → AllFamiliesIn S (items_context (free_variables O))
  as_items [] h = tt
  as_items (A ∷ O) (a, h) = (from_everywhere A a, as_items O h)

pub split_items_keep_families : SplitItemsKeepFamilies
split_items_keep_families Σ W S sc below I i x X at J n h A sh nj =
    let fx : FamiliesIn S X = families_at S (items_context I) i x X at in
    let (a, j) = head_type_in S Σ W sc I i X fx J n h A sh nj in
    let Y : LfType = rename_type (shift_by n) X in
    head_families S (head_masks below (taken Y) (arguments_count A) A) (taken Y) (arguments_count A) A J (all_binders S [] Y tt (families_renamed S (shift_by n) X fx)) a j

pub solved_keeps_families : SolvedKeepsFamilies
solved_keeps_families Σ S before after h s C k =
    let R : ℕ → ℕ → Type 0 = λ b a. Unit {0} in
    let Q : ℕ → Type 0 = λ a. S a ≡ true in
    as_items S (free_context (skeletons_of after.metavariables) s.well_formed.order) (free_has R Q Σ (skeletons_of after.metavariables) after.metavariables _ (run_has R Q s.run (λ m A e. as_everywhere S A (h m A e))) s.well_formed.order s.well_formed.is_order)
