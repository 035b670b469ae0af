-- The stores of a case that is typed beside a pattern, with given terms, are well formed at each place where the block variable of number 0 stays itself.
use Rattle.std.proofs.Common.{◌≡◌, ℕ, zero, List, [], ◌∷◌, length, refl, sym, ap, ap₂, ◌∙◌, subst, Some}
use Rattle.std.specs.Prelude.{Bool, true, false}
use Rattle.lf.specs.Syntax.{LfType, Kind}
use Rattle.lf.specs.Substitution.{Image, keep, substitute_type, reduce}
use Rattle.lf.specs.AtOnce.{shift_by, lift_renaming_by}
use Rattle.lf.specs.Entries.{quantifiers}
use Rattle.lf.specs.Typing.{Signature, IsContext, IsSignature, IsTypedSubstitution}
use Rattle.lf.specs.Variables.{target, binders, nothing, onto}
use Rattle.lf.specs.Subordination.{Block, AreTypedBlocks}
use Rattle.lf.specs.Worlds.{lift_over, instance}
use Rattle.lf.specs.Extension.{Extends}
use Rattle.lf_checks.specs.Clause.{Clause, scope}
use Rattle.lf_cases.specs.Cover.{before}
use Rattle.lf_cases.specs.Missing.{blocks_with}
use Rattle.lf_cases.specs.OutputGoal.{renumber}
use Rattle.lf_cases.specs.Pattern.{Origin, of_constant, of_entry, Pattern}
use Rattle.lf_cases.proofs.BlockEntries.{onto_onto}
use Rattle.lf_cases.proofs.Local.{binders_substituted}
use Rattle.lf_totality.proofs.RaisedOutputs.{binders_over}
use Rattle.lf_coverage.specs.Leaf.{IsTypedPattern}
use Rattle.lf_coverage.proofs.Parts.{some_same}
use Rattle.lf_coverage.proofs.Standing.{before_is, before_typed, entry_index}
use Rattle.lf_numbered.specs.EntryConstants.{IsFreeFrom, with_entries}
use Rattle.lf_numbered.specs.EntryPatterns.{variable_images}
use Rattle.lf_numbered.specs.EntryPatternsMatching.{placed_type}
use Rattle.lf_numbered.specs.EntryTerms.{IsTried, IsTypedBesideWith}
use Rattle.lf_numbered.specs.MeetsReady.{AreTypedBeside, IsTypedAtPlace, IdentifiedStaysAtPlace, GivenCaseIsAtPlace, GivenMeetStoreIsReady}
use Rattle.lf_numbered.specs.NewBlock.{rename_all}
use Rattle.lf_numbered.specs.NumberedBesideGiven.{GivesOutside}
use Rattle.lf_numbered.specs.NumberedCallsStores.{Identifies, IsPutBeside, constant_beside, entry_beside, new_beside, identified}
use Rattle.lf_numbered.specs.NumberedCase.{NumberedCase}
use Rattle.lf_numbered.specs.NumberedInstance.{block_at, moved_constant, move_all, move_spine, move_type, move_types}
use Rattle.lf_numbered.specs.OwnTerms.{BlockVariable, blocks_of}
use Rattle.lf_numbered.specs.TypedNumbered.{IsTypedNumberedCase}
use Rattle.lf_numbered.specs.WritingRoom.{move_image}
use Rattle.lf_numbered.proofs.EntryPatternsMatching.{entries_signature}
use Rattle.lf_numbered.proofs.EntryPatternsTyped.{typed_at, variable_is_typed}
use Rattle.lf_numbered.proofs.EntrySignature.{entries_kept}
use Rattle.lf_numbered.proofs.EntryTermsBesideGiven.{beside_with_all_tried}
use Rattle.lf_numbered.proofs.IdentifiedConstants.{old_stays}
use Rattle.lf_numbered.proofs.MeetsReadyGivenPlaced.{beside_at_place}
use Rattle.lf_numbered.proofs.MeetsReadyIdentified.{types, kinds, variable_moved}
use Rattle.lf_numbered.proofs.MeetsReadyMeets.{beside_more, place_ready}
use Rattle.lf_numbered.proofs.MeetsReadyRuns.{one_more_block}
use Rattle.lf_numbered.proofs.MeetsReadyTurnedBeside.{beside_turned, front_old, instance_turned}
use Rattle.lf_numbered.proofs.MovedConstants.{onto_moved, blocks_stay, moved_from, length_moved, lifts_moved}
use Rattle.lf_numbered.proofs.NumberedBesideTerms.{pattern_more}
use Rattle.lf_numbered.proofs.RenamedBlocks.{all_commute, local_commutes}
use Rattle.lf_numbered.proofs.WritingGap.{kind_only, same_old}
use Rattle.lf_numbered.proofs.WritingMove.{move_type_substituted}
use mathlib.Core.Path.{fun_ext}

module _ (Σ : Signature) (ok : IsSignature Σ) (W : List Block) (typed : AreTypedBlocks Σ W) (first : ℕ) (free : IsFreeFrom Σ first) (C : NumberedCase) (tc : IsTypedNumberedCase Σ first W C) (π : ℕ → ℕ) (is : Identifies C π) where
  abbrev Σ₁ : Signature
  Σ₁ = with_entries Σ first (blocks_of C.blocks)

  abbrev γ : ℕ → ℕ
  γ = moved_constant first (blocks_of C.blocks) (blocks_of C.blocks) π

  abbrev turned : (ℕ → Image) → ℕ → Image
  turned φ i = move_image γ (φ i)

  -- at a place
  pub place_turned : (p : Pattern) → IsTypedPattern Σ p → (φ : ℕ → Image) (K : Kind) → Σ.kinds (target p.type) ≡ Some K → IsTypedAtPlace Σ₁ C p φ K → IsTypedAtPlace Σ₁ (identified first π C) p (turned φ) K
  place_turned p tp φ K e b =
      let n : ℕ = quantifiers p.clause.type in
      let Q : List LfType = binders [] p.clause.type in
      let old = old_stays Σ ok W typed first free C tc.variables π is in
      let V : List LfType = C.variables in
      let X : List LfType = binders V (substitute_type reduce φ p.clause.type) in
      let X' : List LfType = binders (move_types γ V) (substitute_type reduce (turned φ) p.clause.type) in
      let q : move_types γ Q ≡ Q = front_old Σ γ old Q p.clause.outer (subst (IsContext Σ) (binders_over [] p.clause.type p.clause.outer) tp.clause_typed) in
      let x : move_types γ X ≡ X' = ap (move_types γ) (binders_substituted p.clause.type φ V) ∙ onto_moved γ (instance Q φ) V ∙ ap (λ D. onto D (move_types γ V)) (instance_turned γ Q φ ∙ ap (λ D. instance D (turned φ)) q) ∙ sym (binders_substituted p.clause.type (turned φ) (move_types γ V)) in
      let t : move_type γ (placed_type p φ) ≡ placed_type p (turned φ) = move_type_substituted γ (lift_over Q φ) p.type ∙ ap₂ (λ σ Z. substitute_type reduce σ Z) (lifts_moved γ Q φ) (same_old Σ γ (scope p.clause) p.type old tp.type_typed) in
      let l : move_types γ (renumber (shift_by n) C.local) ≡ renumber (shift_by n) (move_types γ C.local) = local_commutes γ (shift_by n) C.local in
      let ms : move_all γ (rename_all (shift_by n) C.given) ≡ rename_all (shift_by n) (move_all γ C.given) = all_commute γ (shift_by n) C.given in
      let ns : move_all γ (rename_all (lift_renaming_by (length C.local) (shift_by n)) C.arguments) ≡ rename_all (lift_renaming_by (length (move_types γ C.local)) (shift_by n)) (move_all γ C.arguments) = all_commute γ (lift_renaming_by (length C.local) (shift_by n)) C.arguments ∙ ap (λ k. rename_all (lift_renaming_by k (shift_by n)) (move_all γ C.arguments)) (sym (length_moved γ C.local)) in
      let moved = beside_turned γ Σ₁ (types Σ ok W typed first free C tc π is) (kinds Σ ok W typed first free C tc π is) X (renumber (shift_by n) C.local) (rename_all (shift_by n) C.given) (rename_all (lift_renaming_by (length C.local) (shift_by n)) C.arguments) (placed_type p φ) K b in
      let L' : List LfType = renumber (shift_by n) (move_types γ C.local) in
      let Ms' = rename_all (shift_by n) (move_all γ C.given) in
      let Ns' = rename_all (lift_renaming_by (length (move_types γ C.local)) (shift_by n)) (move_all γ C.arguments) in
      subst (AreTypedBeside Σ₁ X' L' Ms' Ns' (placed_type p (turned φ))) (kind_only Σ γ [] K old (ok.kinds_ok (target p.type) K e))
      (subst (λ Z. AreTypedBeside Σ₁ X' L' Ms' Ns' Z (Rattle.lf_numbered.specs.WritingRoom.move_kind γ K)) t
      (subst (λ Ns. AreTypedBeside Σ₁ X' L' Ms' Ns (move_type γ (placed_type p φ)) (Rattle.lf_numbered.specs.WritingRoom.move_kind γ K)) ns
      (subst (λ Ms. AreTypedBeside Σ₁ X' L' Ms (move_all γ (rename_all (lift_renaming_by (length C.local) (shift_by n)) C.arguments)) (move_type γ (placed_type p φ)) (Rattle.lf_numbered.specs.WritingRoom.move_kind γ K)) ms
      (subst (λ L. AreTypedBeside Σ₁ X' L (move_all γ (rename_all (shift_by n) C.given)) (move_all γ (rename_all (lift_renaming_by (length C.local) (shift_by n)) C.arguments)) (move_type γ (placed_type p φ)) (Rattle.lf_numbered.specs.WritingRoom.move_kind γ K)) l
      (subst (λ Y. AreTypedBeside Σ₁ Y (move_types γ (renumber (shift_by n) C.local)) (move_all γ (rename_all (shift_by n) C.given)) (move_all γ (rename_all (lift_renaming_by (length C.local) (shift_by n)) C.arguments)) (move_type γ (placed_type p φ)) (Rattle.lf_numbered.specs.WritingRoom.move_kind γ K)) x moved)))))

  -- What is tried beside the case itself, where the case with block variables one is beside the pattern.
  record TriedFrom {c : Clause} (o : Origin c) (b : Bool) (J : NumberedCase) (φ : ℕ → Image) : Type 0 where
    itself : J ≡ identified first π C
    outer : ℕ → Image
    tried : IsTried first C o b outer
    moved : turned outer ≡ φ

  tried_from : (c : Clause) (o : Origin c) (b : Bool) → b ≡ true → π zero ≡ zero → (J : NumberedCase) (φ : ℕ → Image) → IsPutBeside first (identified first π C) π b c o J φ → TriedFrom o b J φ
  tried_from c o b f z J φ (constant_beside U) = record { itself = refl; outer = keep; tried = refl; moved = refl }
  tried_from c o b f z J φ (new_beside B later E es e U n fixed at) = absurd (true_false (sym f ∙ n))
    where
      true_false : true ≡ false → ⊥
      true_false e = cc
  tried_from c o b f z J φ (entry_beside B later E es e k U at fixed first_one) =
      let (d, x, q) = moved_from γ C.blocks k (record { block = B; terms = U }) at in
      let s : d.block ≡ B = sym (ap (λ (h : BlockVariable). h.block) q) in
      let there : block_at C.blocks k ≡ Some (record { block = B; terms = d.terms }) = x ∙ ap (λ D. Some (record { block = D; terms = d.terms })) s in
      let u : move_spine γ d.terms ≡ U = sym (ap (λ (h : BlockVariable). h.terms) q) in
      record {
        itself = refl;
        outer = before later (variable_images first C.blocks k B d.terms);
        tried = (k, d.terms, there, (λ r. first_one r ∙ z), refl);
        moved = fun_ext (λ i.
            ap (move_image γ) (before_is later (variable_images first C.blocks k B d.terms) i)
            ∙ variable_moved Σ ok W typed first free C tc π is k B d.terms there fixed (entry_index later i)
            ∙ ap (λ V. variable_images first (identified first π C).blocks k B V (entry_index later i)) u
            ∙ sym (before_is later (variable_images first (identified first π C).blocks k B U) i));
      }

pub identified_stays_at_place : IdentifiedStaysAtPlace
identified_stays_at_place Σ ok W typed first free C tc p tp φ K e b π is = subst (λ Bs. IsTypedAtPlace (with_entries Σ first Bs) (identified first π C) p (λ i. move_image (moved_constant first (blocks_of C.blocks) (blocks_of C.blocks) π) (φ i)) K) (sym (blocks_stay (moved_constant first (blocks_of C.blocks) (blocks_of C.blocks) π) C.blocks)) (place_turned Σ ok W typed first free C tc π is p tp φ K e b)

-- what is tried is typed
tried_typed : (Σ : Signature) (ok : IsSignature Σ) (W : List Block) (typed : AreTypedBlocks Σ W) (first : ℕ) (free : IsFreeFrom Σ first) (C : NumberedCase) (tc : IsTypedNumberedCase Σ first W C) (c : Clause) (o : Origin c) (b : Bool) (φ : ℕ → Image) → IsTried first C o b φ → IsTypedSubstitution (with_entries Σ first (blocks_of C.blocks)) c.outer C.variables φ
tried_typed Σ ok W typed first free C tc c (of_constant U) b φ t = λ i A g. absurd g
tried_typed Σ ok W typed first free C tc c (of_entry B later E es e) b φ (k, U, at, z, q) =
    let Σ₁ : Signature = with_entries Σ first (blocks_of C.blocks) in
    let θ : ℕ → Image = variable_images first C.blocks k B U in
    let shape : onto B.entries B.some ≡ onto later (E ∷ onto es B.some) = ap (λ L. onto L B.some) (sym e) ∙ onto_onto later (E ∷ es) B.some in
    subst (IsTypedSubstitution Σ₁ (onto es B.some) C.variables) (sym q) (before_typed Σ₁ C.variables later E (onto es B.some) θ (subst (λ L. IsTypedSubstitution Σ₁ L C.variables θ) shape (variable_is_typed Σ ok W typed first free C tc.variables k B U at).0))

pub given_case_is_at_place : GivenCaseIsAtPlace
given_case_is_at_place Σ ok W typed first free C p tp f b own φ t K e =
    let Σ₁ : Signature = with_entries Σ first (blocks_of C.blocks) in
    let tc : IsTypedNumberedCase Σ first W C = b.typed in
    let ok₁ : IsSignature Σ₁ = entries_signature Σ ok W typed first free C tc in
    let x : Extends nothing Σ Σ₁ = record { ok = ok₁; types_stay = entries_kept Σ first (blocks_of C.blocks); kinds_stay = λ a K e. e; no_new = λ c A e s. absurd cc } in
    let w : IsTypedBesideWith Σ first C p φ = beside_with_all_tried Σ ok W typed first free C p tp f b own φ t in
    subst (IsTypedAtPlace Σ₁ C p φ) (some_same (sym w.of_family ∙ e)) (beside_at_place Σ first C ok₁ tc.variables.variables tc.local tc.given tc.arguments p (pattern_more nothing Σ Σ₁ x W p tp) own φ (tried_typed Σ ok W typed first free C tc p.clause p.origin p.at_first φ t) w)

-- the pattern's block is one of the worlds
tried_blocks : (Σ : Signature) (W : List Block) → AreTypedBlocks Σ W → (first : ℕ) (C : NumberedCase) → IsTypedNumberedCase Σ first W C → (c : Clause) (o : Origin c) (b : Bool) (φ : ℕ → Image) → GivesOutside first C o b φ → AreTypedBlocks Σ (blocks_with o W)
tried_blocks Σ W typed first C tc c (of_constant U) b φ s = typed
tried_blocks Σ W typed first C tc c (of_entry B later E es e) b φ (k, U, at, z, q) = one_more_block Σ W typed B (typed B (typed_at (with_entries Σ first (blocks_of C.blocks)) W C.variables _ C.blocks tc.variables.blocks k (record { block = B; terms = U }) at).0)

pub given_meet_store_is_ready : GivenMeetStoreIsReady
given_meet_store_is_ready Σ ok W typed first free C p tp f b own K e π is z J φ at Σe x =
    let tc : IsTypedNumberedCase Σ first W C = b.typed in
    let s : TriedFrom Σ ok W typed first free C tc π is p.origin p.at_first J φ = tried_from Σ ok W typed first free C tc π is p.clause p.origin p.at_first f z J φ at in
    let here = given_case_is_at_place Σ ok W typed first free C p tp f b own s.outer s.tried K e in
    let moved = identified_stays_at_place Σ ok W typed first free C tc p tp s.outer K e here π is in
    let there : IsTypedAtPlace (with_entries Σ first (blocks_of J.blocks)) J p φ K = subst (λ (H : NumberedCase). IsTypedAtPlace (with_entries Σ first (blocks_of H.blocks)) H p φ K) (sym s.itself) (subst (λ ψ. IsTypedAtPlace (with_entries Σ first (blocks_of (identified first π C).blocks)) (identified first π C) p ψ K) s.moved moved) in
    place_ready Σ ok W first free C tc p (tried_blocks Σ W typed first C tc p.clause p.origin p.at_first b.outer b.stands) π is J φ at tp K e Σe x (beside_more (with_entries Σ first (blocks_of J.blocks)) Σe x _ _ _ _ _ K there)
