-- An instance that a case by number and a pattern share solves the store of the place that the pattern has in it: a constant's, an entry of a block variable of
-- the case, or an entry of a new one.
use Rattle.std.proofs.Common.{◌≡◌, ℕ, zero, ◌<◌, List, [], ◌∷◌, ◌++◌, length, inl, inr, refl, sym, ap, ap₂, ◌∙◌, subst}
use Rattle.std.specs.Prelude.{Bool, true, false, Option, Some}
use Rattle.lf.specs.Syntax.{Term, Spine, LfType, Kind}
use Rattle.lf.specs.Substitution.{Image, keep}
use Rattle.lf.specs.AtOnce.{shift_by}
use Rattle.lf.specs.Typing.{Signature, IsSignature}
use Rattle.lf.specs.Variables.{binders, nothing, onto}
use Rattle.lf.specs.Subordination.{Block, AreTypedBlocks}
use Rattle.lf.specs.Extension.{Extends}
use Rattle.lf.specs.Worlds.{lift_over}
use Rattle.lf_unification.specs.Offering.{local_arguments}
use Rattle.lf_unification.specs.Unifiers.{Solution}
use Rattle.lf_checks.specs.Clause.{Clause, constant_clause, entry_clause}
use Rattle.lf_cases.specs.Cover.{before, AgreesOutside}
use Rattle.lf_cases.specs.Missing.{blocks_with, put_in}
use Rattle.lf_cases.specs.Pattern.{Origin, of_constant, of_entry, Pattern, given_at}
use Rattle.lf_cases.proofs.OutputItems.{length_renumber}
use Rattle.lf_coverage.specs.Leaf.{IsTypedPattern}
use Rattle.lf_coverage.proofs.Choices.{decided}
use Rattle.lf_coverage.proofs.ItemsContext.{outer_context}
use Rattle.lf_coverage.proofs.Parts.{some_same}
use Rattle.lf_numbered.specs.EntryConstants.{with_entries, IsFreeFrom}
use Rattle.lf_numbered.specs.EntryPatterns.{variable_images}
use Rattle.lf_numbered.specs.MeetsInstance.{HasFirstFor}
use Rattle.lf_numbered.specs.NewBlock.{with_new_block}
use Rattle.lf_numbered.specs.NumberedCallsStores.{Identifies, IsPutBeside, constant_beside, entry_beside, new_beside, identified, meet_store_by_number}
use Rattle.lf_numbered.specs.NumberedCase.{NumberedCase, AreTypedVariables}
use Rattle.lf_numbered.specs.NumberedInstance.{IsNumberedInstanceOf, IsTypedInstanceOf, block_at, moved_constant, move_all, move_spine}
use Rattle.lf_numbered.specs.NumberedMeets.{HasFirst}
use Rattle.lf_numbered.specs.OwnTerms.{BlockVariable, blocks_of}
use Rattle.lf_numbered.specs.TypedNumbered.{IsTypedNumberedCase}
use Rattle.lf_numbered.proofs.EntryPatternsNumbers.{inside_list}
use Rattle.lf_numbered.proofs.IdentifiedNewBlock.{identifies_new, new_at, same_identified}
use Rattle.lf_numbered.proofs.MeetsInstanceNew.{new_instance, all_same, values}
use Rattle.lf_numbered.proofs.MeetsInstanceFront.{with_number, number_new}
use Rattle.lf_numbered.proofs.MeetsInstanceNewPlace.{same_new, only_new}
use Rattle.lf_numbered.proofs.MeetsInstanceNumbers.{Sought, sought}
use Rattle.lf_numbered.proofs.MeetsInstanceOuter.{outer_typed, instance_typed, outer_put}
use Rattle.lf_numbered.proofs.MeetsInstancePlaces.{HasValues, extends, solution_at}
use Rattle.lf_numbered.proofs.MoreWorlds.{case_with_more, with_more}
use Rattle.lf_numbered.proofs.MovedConstants.{locals_moved, moved_at}
use Rattle.lf_numbered.proofs.NumberedMeets.{at_number}
use Rattle.lf_numbered.proofs.OwnStoresNewBlock.{new_block_stays_typed}
use Rattle.lf_numbered.proofs.RenamedBlocks.{moved_length, given_from}

module _ (Σ : Signature) (ok : IsSignature Σ) (W : List Block) (first : ℕ) (free : IsFreeFrom Σ first) (C M : NumberedCase) (tc : IsTypedNumberedCase Σ first W C) (ν : ℕ → ℕ) (zeroth : ν zero ≡ zero) (σ : ℕ → Image) (h : IsNumberedInstanceOf Σ first M C ν σ) (π : ℕ → ℕ) (ids : Identifies C π) (same : (k : ℕ) → ν (π k) ≡ ν k) (only : (j k : ℕ) (b c : BlockVariable) → block_at C.blocks j ≡ Some b → block_at C.blocks k ≡ Some c → ν j ≡ ν k → π j ≡ π k) (next : π (length C.blocks) ≡ length C.blocks) (K : Kind) where
  abbrev D : NumberedCase
  D = identified first π C

  abbrev γ : ℕ → ℕ
  γ = moved_constant first (blocks_of C.blocks) (blocks_of C.blocks) π

  -- a place of the pattern, and a unifier of its store
  pub record IsUnifiedAt {c : Clause} (o : Origin c) (P : LfType) (b : Bool) : Type 0 where
    pub case : NumberedCase
    pub outer : ℕ → Image
    pub beside : IsPutBeside first (identified first π C) π b c o case outer
    pub signature : Signature
    pub grows : Extends nothing (with_entries Σ first (blocks_of case.blocks)) signature
    pub context : List LfType
    pub filling : ℕ → Option Term
    pub solved : Solution signature [] (meet_store_by_number π case (record { clause = c; origin = o; type = P; at_first = b }) outer K) context filling

  same_at : (k : ℕ) (b : BlockVariable) → block_at C.blocks k ≡ Some b → ν (π k) ≡ ν k
  same_at k b e = same k

  module _ (P : LfType) (b : Bool) (l : length C.local ≡ length (binders [] P)) where
    constant : (U : LfType) → AreTypedBlocks Σ W → AreTypedVariables Σ first W M → IsTypedPattern Σ (record { clause = constant_clause U; origin = of_constant U; type = P; at_first = b }) → (q : HasValues Σ first M (of_constant U) P b) → ((k : ℕ) (N : Term) → given_at C.given k ≡ Some N → (k < length (binders [] U)) × (q.used k ≡ true)) → IsUnifiedAt (of_constant U) P b
    constant U typed tm tp q g =
        let (H, β, u) = solution_at Σ ok first free W typed C M tc tm ν σ h.is_instance h.given h.arguments π ids same_at only (of_constant U) P b tp l q g K keep (λ k A d. absurd d) keep (λ k A d. absurd d) (λ k A d. absurd d) (λ k A d. absurd d) in
        record {
          case = identified first π C;
          outer = keep;
          beside = constant_beside U;
          signature = with_entries Σ first (blocks_of (C.blocks ++ M.blocks));
          grows = extends Σ ok first free W typed C M tc tm ν σ h.is_instance h.given h.arguments π ids same_at only;
          context = H;
          filling = β;
          solved = u;
        }

    module _ (B : Block) (later : List LfType) (E : LfType) (es : List LfType) (e : onto later (E ∷ es) ≡ B.entries) (has : HasFirst b C) (typed : AreTypedBlocks Σ (B ∷ W)) (tm : AreTypedVariables Σ first (B ∷ W) M) (tp : IsTypedPattern Σ (record { clause = entry_clause B es E; origin = of_entry B later E es e; type = P; at_first = b })) (q : HasValues Σ first M (of_entry B later E es e) P b) (g : (k : ℕ) (N : Term) → given_at C.given k ≡ Some N → (k < length (binders [] E)) × (q.used k ≡ true)) (j : ℕ) (U : Spine) (there : block_at M.blocks j ≡ Some (record { block = B; terms = U })) (z : b ≡ true → j ≡ zero) (outside : AgreesOutside (entry_clause B es E) q.values (before later (variable_images first M.blocks j B U))) where
      abbrev V : List Block
      V = B ∷ W

      tv : IsTypedNumberedCase Σ first (B ∷ W) C
      tv = case_with_more Σ first W V (with_more (of_entry B later E es e) W) C tc

      abbrev ω : ℕ → Image
      ω = before later (variable_images first M.blocks j B U)

      -- of a block variable of the case
      of_old : (k : ℕ) (S : Spine) → block_at C.blocks k ≡ Some (record { block = B; terms = S }) → π k ≡ k → (b ≡ true → k ≡ π zero) → ν k ≡ j → IsUnifiedAt (of_entry B later E es e) P b
      of_old k S at fixed y r =
          let φ : ℕ → Image = before later (variable_images first (identified first π C).blocks k B (move_spine γ S)) in
          let (H, β, u) = solution_at Σ ok first free V typed C M tv tm ν σ h.is_instance h.given h.arguments π ids same_at only (of_entry B later E es e) P b tp l q g K φ
          (outer_typed Σ ok first free V V typed typed C M tv.variables tm ν σ h.is_instance π ids same_at only B later E es e k S at fixed)
          ω
          (instance_typed Σ ok first free V V typed typed C M tv.variables tm ν σ h.is_instance π ids same_at only B later E es e k S at fixed j U there r)
          (outer_put Σ ok first free V V typed typed C M tv.variables tm ν σ h.is_instance π ids same_at only B later E es e k S at fixed j U there r)
          outside in
          record {
            case = identified first π C;
            outer = φ;
            beside = entry_beside B later E es e k (move_spine γ S) (moved_at γ C.blocks k (record { block = B; terms = S }) at) fixed y;
            signature = with_entries Σ first (blocks_of (C.blocks ++ M.blocks));
            grows = extends Σ ok first free V typed C M tv tm ν σ h.is_instance h.given h.arguments π ids same_at only;
            context = H;
            filling = β;
            solved = u;
          }

      -- of a new one
      module _ (other : (k : ℕ) (d : BlockVariable) → block_at C.blocks k ≡ Some d → ν k ≡ j → ⊥) (not_first : b ≡ false) where
        abbrev N : NumberedCase
        N = with_new_block B C

        abbrev n : ℕ
        n = length C.blocks

        abbrev R : Spine
        R = local_arguments B.some

        tn : IsTypedNumberedCase Σ first (B ∷ W) (with_new_block B C)
        tn = new_block_stays_typed Σ ok V typed first free C tv B (inl refl)

        abbrev ν' : ℕ → ℕ
        ν' = with_number (length C.blocks) j ν

        abbrev σ' : ℕ → Image
        σ' = values Σ ok first free V typed C M tv tm ν σ h.is_instance B (inl refl) j U there

        abbrev h' : IsTypedInstanceOf Σ first M (with_new_block B C) ν' σ'
        h' = new_instance Σ ok first free V typed C M tv tm ν σ h.is_instance B (inl refl) j U there

        given' : M.given ≡ put_in σ' (move_all (moved_constant first (blocks_of (with_new_block B C).blocks) (blocks_of M.blocks) ν') (with_new_block B C).given)
        given' = h.given ∙ all_same Σ ok first free V typed C M tv tm ν σ h.is_instance B (inl refl) j U there [] C.given tc.given

        arguments' : M.arguments ≡ put_in (lift_over (with_new_block B C).local σ') (move_all (moved_constant first (blocks_of (with_new_block B C).blocks) (blocks_of M.blocks) ν') (with_new_block B C).arguments)
        arguments' = h.arguments ∙ all_same Σ ok first free V typed C M tv tm ν σ h.is_instance B (inl refl) j U there C.local C.arguments tc.arguments

        abbrev ids' : Identifies (with_new_block B C) π
        ids' = identifies_new first C B π ids next

        abbrev same' : (k : ℕ) (d : BlockVariable) → block_at (with_new_block B C).blocks k ≡ Some d → ν' (π k) ≡ ν' k
        same' = same_new first C B π ids next ν j same only other

        abbrev only' : (k m : ℕ) (c d : BlockVariable) → block_at (with_new_block B C).blocks k ≡ Some c → block_at (with_new_block B C).blocks m ≡ Some d → ν' k ≡ ν' m → π k ≡ π m
        only' = only_new first C B π ids next ν j same only other

        abbrev at : block_at (with_new_block B C).blocks (length C.blocks) ≡ Some (record { block = B; terms = local_arguments B.some })
        at = new_at B C

        abbrev δ : ℕ → ℕ
        δ = moved_constant first (blocks_of (with_new_block B C).blocks) (blocks_of (with_new_block B C).blocks) π

        abbrev φ : ℕ → Image
        φ = before later (variable_images first (identified first π (with_new_block B C)).blocks (length C.blocks) B (move_spine δ (local_arguments B.some)))

        cases : identified first π (with_new_block B C) ≡ with_new_block B (identified first π C)
        cases = same_identified first C B π ids next Σ free (outer_context Σ B.entries B.some (typed B (inl refl)))

        counts : length (identified first π C).blocks ≡ length C.blocks
        counts = moved_length γ C.blocks

        outer_is : φ ≡ before later (variable_images first (with_new_block B (identified first π C)).blocks (length (identified first π C).blocks) B (local_arguments B.some))
        outer_is = ap₂ (λ (J : NumberedCase) S. before later (variable_images first J.blocks n B S)) cases (locals_moved δ B.some) ∙ ap (λ m. before later (variable_images first (with_new_block B (identified first π C)).blocks m B R)) (sym counts)

        of_new : IsUnifiedAt (of_entry B later E es e) P b
        of_new =
            let p : Pattern = record { clause = entry_clause B es E; origin = of_entry B later E es e; type = P; at_first = b } in
            let Σe : Signature = with_entries Σ first (blocks_of ((with_new_block B C).blocks ++ M.blocks)) in
            let (H, β, u) = solution_at Σ ok first free V typed N M tn tm ν' σ' h' given' arguments' π ids' same' only' (of_entry B later E es e) P b tp (length_renumber (shift_by (length B.some)) C.local ∙ l) q (λ k Q r. let (Z, s, e) = given_from (shift_by (length B.some)) C.given k Q r in g k Z s) K φ
            (outer_typed Σ ok first free V V typed typed N M tn.variables tm ν' σ' h' π ids' same' only' B later E es e n R at next)
            ω
            (instance_typed Σ ok first free V V typed typed N M tn.variables tm ν' σ' h' π ids' same' only' B later E es e n R at next j U there (number_new n j ν))
            (outer_put Σ ok first free V V typed typed N M tn.variables tm ν' σ' h' π ids' same' only' B later E es e n R at next j U there (number_new n j ν))
            outside in
            record {
              case = with_new_block B (identified first π C);
              outer = before later (variable_images first (with_new_block B (identified first π C)).blocks (length (identified first π C).blocks) B (local_arguments B.some));
              beside = new_beside B later E es e (local_arguments B.some) not_first (ap π counts ∙ next ∙ sym counts) (ap (λ (J : NumberedCase). block_at J.blocks (length (identified first π C).blocks)) (sym cases) ∙ ap (block_at (identified first π N).blocks) counts ∙ moved_at δ N.blocks n (record { block = B; terms = R }) at ∙ ap (λ S. Some (record { block = B; terms = S })) (locals_moved δ B.some));
              signature = Σe;
              grows = subst (λ (J : NumberedCase). Extends nothing (with_entries Σ first (blocks_of J.blocks)) Σe) cases (extends Σ ok first free V typed N M tn tm ν' σ' h' given' arguments' π ids' same' only');
              context = H;
              filling = β;
              solved = subst (λ f. Solution Σe [] (meet_store_by_number π (with_new_block B (identified first π C)) p f K) H β) outer_is (subst (λ J. Solution Σe [] (meet_store_by_number π J p φ K) H β) cases u);
            }

      entry : IsUnifiedAt (of_entry B later E es e) P b
      entry = by (sought ν (length C.blocks) j)
        where
          by : Sought ν (length C.blocks) j → IsUnifiedAt (of_entry B later E es e) P b
          by (inl (k, lt, r)) =
              let (d, at) = at_number C.blocks k lt in
              let (c, to, s, fixed) = ids k d at in
              let block : c.block ≡ B = s ∙ ap (λ (x : BlockVariable). x.block) (some_same (sym (h.is_instance.blocks k d at) ∙ ap (block_at M.blocks) r ∙ there)) in
              of_old (π k) c.terms (to ∙ ap (λ D. Some (record { block = D; terms = c.terms })) block) fixed (λ y. let (f, m) = has y in only k zero d f at m (r ∙ z y ∙ sym zeroth)) (same k ∙ r)
          by (inr none) = decided b (λ y. absurd (first_one y (has y))) (of_new (λ k d at r. none k (inside_list C.blocks k d at) r))
            where
              first_one : b ≡ true → (d : BlockVariable) × (block_at C.blocks zero ≡ Some d) → ⊥
              first_one y (d, at) = none zero (inside_list C.blocks zero d at) (zeroth ∙ sym (z y))

    pub unified : {c : Clause} (o : Origin c) → HasFirstFor o b C → AreTypedBlocks Σ (blocks_with o W) → AreTypedVariables Σ first (blocks_with o W) M → IsTypedPattern Σ (record { clause = c; origin = o; type = P; at_first = b }) → (q : HasValues Σ first M o P b) → ((k : ℕ) (N : Term) → given_at C.given k ≡ Some N → (k < length (binders [] c.type)) × (q.used k ≡ true)) → IsUnifiedAt o P b
    unified (of_constant U) has typed tm tp q g = constant U typed tm tp q g
    unified (of_entry B later E es e) has typed tm tp q g = let (j, U, there, z, outside) = q.stands in entry B later E es e has typed tm tp q g j U there z outside
