-- At each place of a pattern beside a case the store has all that solving asks.
use Rattle.std.proofs.Common.{◌≡◌, ℕ, zero, suc, ◌+◌, List, [], ◌∷◌, length, refl, ap, ◌∙◌, subst}
use Rattle.std.specs.Prelude.{Bool, true, false, cond, Option, Some, None}
use Rattle.lf.specs.Syntax.{Head, constant, Term, Spine, LfType, Kind, star, rename_type}
use Rattle.lf.specs.Substitution.{substitute_type, reduce}
use Rattle.lf.specs.SkeletonTyping.{HeadSkeletons, KindBySkeletons}
use Rattle.lf.specs.Skeletons.{constant_skeletons, family_skeletons}
use Rattle.lf.specs.AtOnce.{shift_by, lift_renaming_by}
use Rattle.lf.specs.Entries.{quantifiers}
use Rattle.lf.specs.Typing.{Signature, TypeAt, IsContext, IsKind, IsSignature, IsType}
use Rattle.lf.specs.Variables.{target, target_arguments, binders, nothing, onto, same_number}
use Rattle.lf.specs.Subordination.{Block, AreTypedBlocks}
use Rattle.lf.specs.Worlds.{lift_over}
use Rattle.lf.specs.Extension.{Extends}
use Rattle.lf.proofs.ExtensionTyping.{extension_keeps_contexts}
use Rattle.lf.proofs.Target.{target_of}
use Rattle.lf.proofs.ToSkeletons.{kind_by_skeletons}
use Rattle.lf_unification.specs.Lists.{followed}
use Rattle.lf_unification.specs.Unifiers.{Equation}
use Rattle.lf_cases.specs.Missing.{blocks_with}
use Rattle.lf_totality.proofs.After.{Extends-self}
use Rattle.lf_coverage.specs.MeetStore.{given_equations, open_arguments, place_equations}
use Rattle.lf_coverage.specs.SplitStore.{context_metavariables, open_locals, open_spine}
use Rattle.lf_coverage.specs.StoreSkeletons.{TypesHaveSkeletons, declared_in}
use Rattle.lf_coverage.proofs.Forms.{far_type}
use Rattle.lf_coverage.proofs.OpenSkeletons.{kind_opened_by}
use Rattle.lf_coverage.proofs.OpenTyped.{open_same_kind}
use Rattle.lf_coverage.proofs.StoreSkeletons.{both_have, givens_have, kind_has, locals_have, places_have, spine_has, spine_have}
use Rattle.lf_numbered.specs.EntryConstants.{IsFreeFrom, with_entries}
use Rattle.lf_numbered.specs.EntryPatternsMatching.{placed_type}
use Rattle.lf_numbered.specs.MeetsAnswers.{entries_at}
use Rattle.lf_numbered.specs.NewBlock.{rename_all, with_new_block}
use Rattle.lf_numbered.specs.NumberedCallsStores.{identity_equations, some_kind, terms_equations}
use Rattle.lf_numbered.specs.NumberedCase.{NumberedCase, AreSomeTerms}
use Rattle.lf_numbered.specs.NumberedInstance.{block_at}
use Rattle.lf_numbered.specs.NumberedSplits.{of_case, of_new_block}
use Rattle.lf_numbered.specs.OwnStores.{IsNumberedOffer, numbered_store}
use Rattle.lf_numbered.specs.OwnTerms.{BlockVariable, blocks_of, rename_blocks, terms_at}
use Rattle.lf_numbered.specs.ReadyPlaces.{IsReadyToSolve, NeededOffersAreReadyToSolve, NeededPlacesAreReadyToSolve, PlacedStoreHasSkeletons}
use Rattle.lf_numbered.specs.TypedNumbered.{IsTypedNumberedCase}
use Rattle.lf_numbered.proofs.EntryPatternsMatching.{entries_signature}
use Rattle.lf_numbered.proofs.MeetsReadyIdentities.{kind_of_some, some_fit}
use Rattle.lf_numbered.proofs.MeetsReadyMeets.{place_extends, place_signature}
use Rattle.lf_numbered.proofs.MeetsReadyPlaced.{arguments_fit, local_typed}
use Rattle.lf_numbered.proofs.MeetsReadyPlaces.{placed_case, placed_same}
use Rattle.lf_numbered.proofs.MeetsReadyStores.{blocks_typed, joint, placed_typed}
use Rattle.lf_numbered.proofs.NumberedAnswers.{needed_blocks_are_typed, needed_places_are_ready}
use Rattle.lf_numbered.proofs.NumberedBesideTerms.{pattern_more}
use Rattle.lf_numbered.proofs.OwnStoresNewBlock.{new_block_stays_typed}
use Rattle.lf_numbered.proofs.OwnStoresStart.{numbered_store_has_skeletons, numbered_store_is_ready}

-- Skeletons type what the equations of block variables' terms stand in.
module _ (Σ : Signature) (ok : IsSignature Σ) (X : List LfType) (cx : IsContext Σ X) where
  abbrev κ : HeadSkeletons
  κ = declared_in Σ (context_metavariables X)

  closed_has : (K : Kind) → IsKind Σ [] K → KindBySkeletons (family_skeletons Σ) (declared_in Σ (context_metavariables X)) [] K
  closed_has K k = subst (KindBySkeletons (family_skeletons Σ) κ []) (open_same_kind (constant_skeletons Σ) (family_skeletons Σ) zero [] (λ i t g. absurd g) K (kind_by_skeletons Σ [] K k)) (kind_opened_by Σ [] κ (λ c. refl) (λ i A g. absurd g) [] [] K (kind_by_skeletons Σ [] K k))

  terms_have : (b : BlockVariable) (V : Option Spine) → IsContext Σ b.block.some → AreSomeTerms Σ X b.block.some b.terms → TypesHaveSkeletons Σ (context_metavariables X) (terms_equations b V)
  terms_have b None c t = tt
  terms_have b (Some V) c t = spine_have Σ (context_metavariables X) [] tt (some_kind b.block.some star) (open_spine zero b.terms) (open_spine zero V) (closed_has (some_kind b.block.some star) (kind_of_some Σ b.block.some star c tt)) (spine_has Σ ok X cx [] b.terms (some_kind b.block.some star) (some_fit Σ ok X cx b.block.some b.terms c t))

  identities_have : (π : ℕ → ℕ) (bs : List BlockVariable) (k : ℕ) (cs : List BlockVariable) → ((i : ℕ) (b : BlockVariable) → block_at cs i ≡ Some b → IsContext Σ b.block.some × AreSomeTerms Σ X b.block.some b.terms) → TypesHaveSkeletons Σ (context_metavariables X) (identity_equations π bs k cs)
  identities_have π bs k [] t = tt
  identities_have π bs k (b ∷ cs) t = both_have Σ (context_metavariables X) (cond (same_number (π k) k) [] (terms_equations b (terms_at bs (π k)))) (identity_equations π bs (suc k) cs) (one (same_number (π k) k)) (identities_have π bs (suc k) cs (λ i c e. t (suc i) c e))
    where
      one : (y : Bool) → TypesHaveSkeletons Σ (context_metavariables X) (cond y [] (terms_equations b (terms_at bs (π k))))
      one true = tt
      one false = let (c, s) = t zero b refl in terms_have b (terms_at bs (π k)) c s

  -- So it is with the equations of a type's arguments.
  arguments_have : (T : LfType) → IsType Σ X T → (K : Kind) → Σ.kinds (target T) ≡ Some K → (Ms : List (Option Term)) → TypesHaveSkeletons Σ (context_metavariables X) (place_equations (open_locals (binders [] T)) Ms (open_spine (length (binders [] T)) (target_arguments T)) K)
  arguments_have T t K e Ms = places_have Σ (context_metavariables X) (open_locals (binders [] T)) (locals_have Σ ok X cx (binders [] T) (local_typed Σ ok X cx T t)) Ms (open_spine (length (binders [] T)) (target_arguments T)) K (kind_has Σ ok X cx (binders [] T) (target T) K e) (spine_has Σ ok X cx (binders [] T) (target_arguments T) K (arguments_fit Σ ok X cx T t K e))

pub placed_store_has_skeletons : PlacedStoreHasSkeletons
placed_store_has_skeletons Σ ok W typed J tj p tp φ t K e π s =
    let n : ℕ = quantifiers p.clause.type in
    let X : List LfType = binders J.variables (substitute_type reduce φ p.clause.type) in
    let cx : IsContext Σ X = joint Σ ok W typed J tj p tp φ t π s in
    let bs : List BlockVariable = rename_blocks (shift_by n) J.blocks in
    let given : List (Option Term) = rename_all (shift_by n) J.given in
    let D : List LfType = binders [] (placed_type p φ) in
    let arguments : List (Option Term) = open_arguments (length D) (rename_all (lift_renaming_by (length J.local) (shift_by n)) J.arguments) in
    let places : List Equation = place_equations (open_locals D) arguments (open_spine (length D) (target_arguments (placed_type p φ))) K in
    both_have Σ (context_metavariables X) (identity_equations π bs zero bs) (followed (given_equations X zero given) places) (identities_have Σ ok X cx π bs zero bs (blocks_typed Σ ok W typed J tj p tp φ t π s))
    (both_have Σ (context_metavariables X) (given_equations X zero given) places (givens_have Σ ok X cx zero given)
    (arguments_have Σ ok X cx (placed_type p φ) (placed_typed Σ ok J.variables tj.variables p tp φ t) K (ap Σ.kinds (target_of reduce (lift_over (binders [] p.clause.type) φ) p.type) ∙ e) arguments))

pub needed_places_are_ready_to_solve : NeededPlacesAreReadyToSolve
needed_places_are_ready_to_solve Σ first W C p n K e π J φ x =
    let ok : IsSignature Σ = n.setting.signature in
    let V : List Block = blocks_with p.origin W in
    let typed : AreTypedBlocks Σ V = needed_blocks_are_typed Σ first W C p n in
    let okJ : IsSignature (entries_at Σ first J) = place_signature Σ ok W first n.setting.free C n.case p typed π x.identifies J φ x.beside in
    let more : Extends nothing Σ (entries_at Σ first J) = place_extends Σ ok W first n.setting.free C n.case p typed π x.identifies J φ x.beside in
    let (plain, outer) = placed_case Σ ok W first n.setting.free C n.case π x.identifies p.clause p.origin p.at_first typed J φ x.beside in
    record {
      signature = okJ;
      well_formed = needed_places_are_ready Σ first W C p n K e π J φ x (entries_at Σ first J) (Extends-self _ (entries_at Σ first J) okJ);
      skeletons = placed_store_has_skeletons (entries_at Σ first J) okJ V (λ B m. extension_keeps_contexts _ Σ (entries_at Σ first J) more (onto B.entries B.some) (typed B m)) J plain p (pattern_more _ Σ (entries_at Σ first J) more V p n.pattern.typed) φ outer K (ap Σ.kinds n.pattern.same_family ∙ e) π (placed_same Σ ok W first n.setting.free C n.case π x.identifies p.clause p.origin p.at_first typed J φ x.beside);
    }

-- The store of a typed case and a head for one of its variables has all too.
offer_is_ready : (Σ : Signature) → IsSignature Σ → (W : List Block) → AreTypedBlocks Σ W → (first : ℕ) → IsFreeFrom Σ first → (below : ℕ → ℕ → Bool) (C : NumberedCase) → IsTypedNumberedCase Σ first W C → (x : ℕ) (X : LfType) → TypeAt C.variables x X → (h : Head) (U : Spine) (A : LfType) → IsNumberedOffer Σ first C X h U A → (K : Kind) → Σ.kinds (target X) ≡ Some K → IsReadyToSolve (with_entries Σ first (blocks_of C.blocks)) (numbered_store below C x X h U A K)
offer_is_ready Σ ok W typed first free below C tc x X g h U A offer K e = record {
  signature = entries_signature Σ ok W typed first free C tc;
  well_formed = numbered_store_is_ready Σ ok W typed first free below C tc x X g h U A offer K e;
  skeletons = numbered_store_has_skeletons Σ ok W typed first free below C tc x X g h U A offer K e;
}

pub needed_offers_are_ready_to_solve : NeededOffersAreReadyToSolve
needed_offers_are_ready_to_solve Σ first W below C x n X g o (of_case h U A offer) K e = offer_is_ready Σ n.setting.signature W n.setting.blocks first n.setting.free below C n.case x X g h U A offer K e
needed_offers_are_ready_to_solve Σ first W below C x n X g o (of_new_block B c U A m none offer) K e = offer_is_ready Σ n.setting.signature W n.setting.blocks first n.setting.free below (with_new_block B C) (new_block_stays_typed Σ n.setting.signature W n.setting.blocks first n.setting.free C n.case B m) (x + length B.some) (rename_type (shift_by (length B.some)) X) (far_type B.some C.variables x X g) (constant c) U A offer K e
