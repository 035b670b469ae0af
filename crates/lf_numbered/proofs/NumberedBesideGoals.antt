-- What the variables of a goal take quantifies only over what is below: of inputs, and of the outputs of a constant's subgoal or an entry's.
use Rattle.std.proofs.Common.{◌≡◌, ℕ, zero, suc, List, [], ◌∷◌, length, sym, subst, Some}
use Rattle.std.specs.Prelude.{Bool, true, false, cond}
use Rattle.lf.specs.Syntax.{Term, Spine, nil, app, LfType, Kind, pi, atom, kind_pi, star, skeleton, lift_renaming, rename_spine, rename_type, rename_kind}
use Rattle.lf.specs.Substitution.{single}
use Rattle.lf.specs.AtOnce.{lift_renaming_by}
use Rattle.lf.specs.Typing.{Signature, TypeAt, instantiate_kind}
use Rattle.lf.specs.Variables.{target, target_arguments, binders, everything}
use Rattle.lf.specs.Subordination.{Block, IsBelowTest, Member, below_in_constant, below_in_kind, below_in_entry}
use Rattle.lf_unification.specs.Search.{occurs_type}
use Rattle.lf_checks.specs.Clause.{Clause, IsClause, from_constant, from_entry, IsSubgoal, is_variable, with_newest}
use Rattle.lf_checks.specs.Marks.{Mark, output_places}
use Rattle.lf_cases.specs.Case.{Item, free_variable, block_variable, input_goal}
use Rattle.lf_cases.specs.OutputGoal.{closed_over, goal_masks, goal_number, kept_items, kept_number, outside_items, outside_number, output_items, renumber, over_item, raised_variable}
use Rattle.lf_cases.specs.Pattern.{origin}
use Rattle.lf_cases.specs.Raised.{raise_by, first_mask, other_masks}
use Rattle.lf_cases.proofs.BlockEntries.{member_onto}
use Rattle.lf_coverage.specs.Subordinate.{QuantifiersAreBelow, AllQuantifiersAreBelow}
use Rattle.lf_coverage.proofs.Subordinate.{quantified, below_renamed, below_binders, below_renumbered, inputs_quantify_below}
use Rattle.lf_coverage.proofs.SubordinateItems.{KindIsBelow, kind_is_below, kind_renamed, kind_substituted}
use Rattle.lf_numbered.specs.NumberedBeside.{AllTakeBelow, ItemsTakeBelow, WorldsTakeBelow, InputsTakeBelow, OutputsTakeBelow, NumberedTakesBelow}
use Rattle.lf_numbered.specs.Numbering.{numbering}
use Rattle.lf_numbered.proofs.NumberedBesideTypes.{all_quantified, free_take, items_quantified, quantified_takes, raise_takes, takes_renamed, takes_substituted}

-- A subgoal is one of the clause's own quantifiers: it has a fact of types that the clause's type has, where both parts of an arrow have it.
module _ (Fact : LfType → Type 0) (renamed : (A : LfType) → Fact A → Fact (rename_type suc A)) (parts : (A B : LfType) → Fact (pi A B) → Fact A × Fact B) where
  pub subgoal_has : (V : ℕ → Bool) (G : List LfType) (X : LfType) (i : ℕ) (A : LfType) → ((j : ℕ) (B : LfType) → V j ≡ false → TypeAt G j B → Fact B) → Fact X → is_variable V X i ≡ false → TypeAt (binders G X) i A → Fact A
  subgoal_has V G (pi Y B) i A h q e g = let (y, b) = parts Y B q in subgoal_has (with_newest (occurs_type zero B) V) (Y ∷ G) B i A (next y) b e g
    where
      next : Fact Y → (j : ℕ) (Z : LfType) → with_newest (occurs_type zero B) V j ≡ false → TypeAt (Y ∷ G) j Z → Fact Z
      next y zero Z v r = subst Fact (sym r) (renamed Y y)
      next y (suc j) Z v (C, k, r) = subst Fact (sym r) (renamed C (h j C v k))
  subgoal_has V G (atom a S) i A h q e g = h i A e g

module _ (below : ℕ → ℕ → Bool) where
  -- the variables of the clause that are kept, and the outputs
  kept_take : (V : ℕ → Bool) (D : List LfType) (ρ : ℕ → ℕ) (I : List Item) → AllTakeBelow below D → ItemsTakeBelow below I → ItemsTakeBelow below (kept_items V D ρ I)
  kept_take V [] ρ I d i = i
  kept_take V (A ∷ D) ρ I (a, d) i = by (V zero) (kept_take (λ j. V (suc j)) D ρ I d i)
    where
      by : (b : Bool) → ItemsTakeBelow below (kept_items (λ j. V (suc j)) D ρ I) → ItemsTakeBelow below (cond b (free_variable (rename_type (kept_number (λ j. V (suc j)) D ρ) A) ∷ kept_items (λ j. V (suc j)) D ρ I) (kept_items (λ j. V (suc j)) D ρ I))
      by true h = (takes_renamed below (kept_number (λ j. V (suc j)) D ρ) A a, h)
      by false h = h

  outputs_take : (ks : List (List Bool)) (D : List LfType) (m : List Bool) (S : Spine) (K : Kind) (I : List Item) → AllQuantifiersAreBelow below D → ItemsTakeBelow below I → KindIsBelow below K → ItemsTakeBelow below (output_items ks D m S K I)
  outputs_take ks D [] S K I d i k = i
  outputs_take ks D (b ∷ m) nil K I d i k = i
  outputs_take ks D (b ∷ m) (app M S) star I d i k = i
  outputs_take ks D (false ∷ m) (app M S) (kind_pi A K) I d i (a, k) = outputs_take ks D m S (instantiate_kind A M K) I d i (kind_substituted below (single (skeleton A) M) K k)
  outputs_take ks D (true ∷ m) (app M S) (kind_pi A K) I d i (a, k) =
      let N : Term = raised_variable (first_mask ks) D A zero in
      let K1 : Kind = rename_kind (lift_renaming (over_item D)) K in
      outputs_take (other_masks ks) (renumber suc D) m (rename_spine (over_item D) S) (instantiate_kind A N K1) (free_variable (raise_by (first_mask ks) D A) ∷ I) (below_renumbered below suc D d) (raise_takes below (first_mask ks) D A d (quantified_takes below A a), i) (kind_substituted below (single (skeleton A) N) K1 (kind_renamed below (lift_renaming (over_item D)) K k))

  numbering_takes : (first : ℕ) (I : List Item) → ItemsTakeBelow below I → AllTakeBelow below (numbering first I).variables
  numbering_takes first [] h = tt
  numbering_takes first (free_variable A ∷ I) (a, h) = (takes_substituted below (numbering first I).images A a, numbering_takes first I h)
  numbering_takes first (block_variable B υ ∷ I) h = numbering_takes first I h

module _ (Σ : Signature) (W : List Block) (below : ℕ → ℕ → Bool) (test : (f : ℕ) → IsBelowTest Σ W (below f) f) where
  -- the type of a clause
  pub clause_below : (c : Clause) → IsClause Σ W c → QuantifiersAreBelow below c.type
  clause_below c (from_constant k U e) = quantified below U (λ a b q. (test b a).1 (below_in_constant k U e q))
  clause_below c (from_entry B later E es i e) = quantified below E (λ a b q. (test b a).1 (below_in_entry B E i (subst (Member E) e (member_onto later E es)) q))

module _ (Σ : Signature) (W : List Block) (below : ℕ → ℕ → Bool) (test : (f : ℕ) → IsBelowTest Σ W (below f) f) (worlds : WorldsTakeBelow below W) where
  -- what stands outside a clause
  outside_takes : (c : Clause) (d : IsClause Σ W c) → ItemsTakeBelow below (outside_items (origin d))
  outside_takes c (from_constant k U e) = tt
  outside_takes c (from_entry B later E es i e) = free_take below B.some (worlds B i)

  goal_takes : (m : ℕ → List Mark) (c : Clause) (d : IsClause Σ W c) (V : ℕ → Bool) (i : ℕ) (A : LfType) → IsSubgoal c i A → (K : Kind) → Σ.kinds (target A) ≡ Some K → ItemsTakeBelow below (output_items (goal_masks below m (origin d) V A K) (renumber (goal_number (origin d) V) (binders [] A)) (output_places (m (target A))) (rename_spine (lift_renaming_by (length (binders [] A)) (goal_number (origin d) V)) (target_arguments A)) K (kept_items V (binders [] c.type) (outside_number (origin d)) (outside_items (origin d))))
  goal_takes m c d V i A (v, g) K f =
      let q : QuantifiersAreBelow below c.type = clause_below Σ W below test c d in
      let a : QuantifiersAreBelow below A = subgoal_has (QuantifiersAreBelow below) (below_renamed below suc) (λ Y B (u, y, b). (y, b)) everything c.outer c.type i A (λ j B e h. absurd cc) q v g in
      let r : ℕ → ℕ = goal_number (origin d) V in
      outputs_take below (goal_masks below m (origin d) V A K) (renumber r (binders [] A)) (output_places (m (target A))) (rename_spine (lift_renaming_by (length (binders [] A)) r) (target_arguments A)) K (kept_items V (binders [] c.type) (outside_number (origin d)) (outside_items (origin d)))
      (below_renumbered below r (binders [] A) (below_binders below [] A tt a))
      (kept_take below V (binders [] c.type) (outside_number (origin d)) (outside_items (origin d)) (all_quantified below (binders [] c.type) (below_binders below [] c.type tt q)) (outside_takes c d))
      (kind_is_below below (target A) K (λ b e z. (test e b).1 (below_in_kind (target A) K f z)))

pub outputs_take_below : OutputsTakeBelow
outputs_take_below Σ W below test worlds m c d U i A sub K e = goal_takes Σ W below test worlds m c d (closed_over (binders [] c.type) U) i A sub K e

pub inputs_take_below : InputsTakeBelow
inputs_take_below Σ W below test a m K e = items_quantified below (input_goal a m K).items (inputs_quantify_below Σ W below test a m K e)

pub numbered_takes_below : NumberedTakesBelow
numbered_takes_below below first C h = numbering_takes below first C.items h
