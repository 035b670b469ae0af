-- Each case that the strategy reaches by number is a typed instance of the goal, in which each block variable keeps its number.
use Rattle.std.proofs.Common.{◌≡◌, ℕ, ◌+◌, ◌++◌, List, [], ◌∷◌, length, refl, sym, ap, ap₂, subst}
use Rattle.std.specs.Prelude.{Bool, Some}
use Rattle.lf.specs.Syntax.{Head, Term, Spine, LfType, Kind, rename, rename_type}
use Rattle.lf.specs.Substitution.{Image, keep, substitute, reduce}
use Rattle.lf.specs.AtOnce.{lift_renaming_by, shift_by}
use Rattle.lf.specs.Typing.{Signature, TypeAt, HasType, IsTypedSubstitution, IsSignature}
use Rattle.lf.specs.Variables.{nothing, onto, target}
use Rattle.lf.specs.Subordination.{Block, AreTypedBlocks, Member}
use Rattle.lf.specs.Worlds.{lift_over}
use Rattle.lf.specs.Extension.{Extends}
use Rattle.lf.proofs.TypeLaws.{substitution_as_renaming, substitution_as_renaming_spine, substitution_as_renaming_type}
use Rattle.lf.proofs.Weakening.{renaming_keeps_typing}
use Rattle.lf_unification.specs.Offering.{local_arguments}
use Rattle.lf_unification.specs.Solving.{Solved}
use Rattle.lf_unification.specs.Unifiers.{Store}
use Rattle.lf_cases.specs.Pattern.{Pattern}
use Rattle.lf_cases.specs.Reached.{arguments_count}
use Rattle.lf_totality.proofs.After.{Extends-self}
use Rattle.lf_coverage.specs.SplitStore.{answer_values}
use Rattle.lf_coverage.proofs.Carried.{carry}
use Rattle.lf_numbered.specs.EntryConstants.{with_entries, IsFreeFrom}
use Rattle.lf_numbered.specs.NewBlock.{with_new_block}
use Rattle.lf_numbered.specs.NumberedCallsReached.{ReachedByNumber, numbered_goal, numbered_split}
use Rattle.lf_numbered.specs.NumberedCase.{NumberedCase}
use Rattle.lf_numbered.specs.NumberedNeeds.{ReachedIsNumberedInstance}
use Rattle.lf_numbered.specs.OwnStores.{ComesByNumbers, IsNumberedOffer, no_split, numbered_store, then_block, then_split, solved_numbered}
use Rattle.lf_numbered.specs.OwnTerms.{BlockVariable, blocks_of, own_terms, OnOwnTerms, put_in_blocks, rename_blocks}
use Rattle.lf_numbered.specs.TypedNumbered.{IsTypedNumberedCase}
use Rattle.lf_numbered.proofs.EntryPatternsMatching.{entries_signature}
use Rattle.lf_numbered.proofs.EntryPatternsSplits.{all_renamed, lifted_keep}
use Rattle.lf_numbered.proofs.NumberedBesideStays.{local_moved}
use Rattle.lf_numbered.proofs.NumberedNeedsInto.{IsPutInto, put_into_twice}
use Rattle.lf_numbered.proofs.NumberedNeedsWhole.{whole_put_into}
use Rattle.lf_numbered.proofs.NumberedReachedInstances.{nothing_behind, put_in_is_instance}
use Rattle.lf_numbered.proofs.NumberedSplitCases.{split_comes}
use Rattle.lf_numbered.proofs.NumberingBlocks.{blocks_renamed}
use Rattle.lf_numbered.proofs.NumberedTyped.{renamed_terms}
use Rattle.lf_numbered.proofs.OwnStoresNewBlock.{new_block_stays_typed, extends, renames}
use Rattle.lf_numbered.proofs.OwnStoresSplit.{image_own, numbered_split_stays_typed, values_typed}
use Rattle.lf_numbered.proofs.OwnStoresTyped.{numbered_run_stays_typed}
use Rattle.lf_numbered.proofs.OwnTerms.{own_agrees, own_renamed, own_stays, own_substituted, put_in_keeps, put_in_own}

-- block variables renumbered
blocks_moved : (r : ℕ → ℕ) (bs : List BlockVariable) → rename_blocks r bs ≡ put_in_blocks (λ i. keep (r i)) bs
blocks_moved r [] = refl
blocks_moved r (b ∷ bs) = ap₂ (λ U cs. record { block = b.block; terms = U } ∷ cs) (sym (substitution_as_renaming_spine reduce r b.terms)) (blocks_moved r bs)

module _ (Σ : Signature) (ok : IsSignature Σ) (W : List Block) (typed : AreTypedBlocks Σ W) (first : ℕ) (free : IsFreeFrom Σ first) (below : ℕ → ℕ → Bool) (C : NumberedCase) (tc : IsTypedNumberedCase Σ first W C) where
  module _ (D : NumberedCase) (td : IsTypedNumberedCase Σ first W D) (B : Block) (m : Member B W) where
    abbrev E : NumberedCase
    E = with_new_block B D

    abbrev Σ₁ : Signature
    Σ₁ = with_entries Σ first (blocks_of D.blocks)

    abbrev ρ : ℕ → ℕ
    ρ = shift_by (length B.some)

    abbrev υ : ℕ → Image
    υ j = keep (j + length B.some)

    abbrev new : BlockVariable
    new = record { block = B; terms = local_arguments B.some }

    own : (N : Term) (A : LfType) → HasType Σ₁ D.variables N A → OnOwnTerms (own_terms first D.blocks) N → OnOwnTerms (own_terms first E.blocks) (substitute reduce υ N)
    own N A n k =
        subst (OnOwnTerms (own_terms first E.blocks)) (sym (substitution_as_renaming reduce ρ N))
        (own_agrees Σ₁ (own_terms first (rename_blocks ρ D.blocks)) (own_terms first E.blocks) (λ c X e. own_stays Σ first free (rename_blocks ρ D.blocks) (new ∷ []) c X (subst (λ Ds. (with_entries Σ first Ds).types c ≡ Some X) (sym (blocks_renamed ρ D.blocks)) e)) (onto B.some D.variables) (rename ρ N) (rename_type ρ A)
        (renaming_keeps_typing Σ₁ (entries_signature Σ ok W typed first free D td) D.variables (onto B.some D.variables) ρ N A (renames Σ ok W typed first free D td B m) n)
        (own_renamed (own_terms first D.blocks) (own_terms first (rename_blocks ρ D.blocks)) ρ N (renamed_terms first ρ D.blocks) k))

    block_put_into : IsPutInto Σ first C D → IsPutInto Σ first C (with_new_block B D)
    block_put_into i =
        put_into_twice Σ ok W typed first free C D E tc td (new_block_stays_typed Σ ok W typed first free D td B m) i (extends Σ ok W typed first free D td B m) υ
        (λ j A g. subst (TypeAt (onto B.some D.variables) (j + length B.some)) (sym (substitution_as_renaming_type reduce ρ A)) (renames Σ ok W typed first free D td B m j A g))
        own (new ∷ [])
        (ap (λ bs. bs ++ (new ∷ [])) (blocks_moved ρ D.blocks))
        (sym (all_renamed 0 ρ υ (λ j. refl) D.given))
        (local_moved ρ D.local)
        refl
        (sym (all_renamed 0 (lift_renaming_by (length D.local) ρ) (lift_over D.local υ) (lifted_keep D.local ρ) D.arguments))

  split_put_into : (D : NumberedCase) → IsTypedNumberedCase Σ first W D → (y : ℕ) (X : LfType) (h : Head) (U : Spine) (A : LfType) (K : Kind) (finish : Store) → TypeAt D.variables y X → IsNumberedOffer Σ first D X h U A → Σ.kinds (target X) ≡ Some K → (s : Solved (with_entries Σ first (blocks_of D.blocks)) (numbered_store below D y X h U A K) finish) → IsPutInto Σ first C D → IsPutInto Σ first C (solved_numbered D (arguments_count A) finish s.well_formed.order)
  split_put_into D td y X h U A K finish at f e s i =
      let υ : ℕ → Image = λ j. answer_values finish s.well_formed.order (j + arguments_count A) in
      let E : NumberedCase = solved_numbered D (arguments_count A) finish s.well_formed.order in
      let Σ₁ : Signature = with_entries Σ first (blocks_of D.blocks) in
      let q : blocks_of (put_in_blocks υ D.blocks) ≡ blocks_of D.blocks = put_in_keeps υ D.blocks in
      put_into_twice Σ ok W typed first free C D E tc td (numbered_split_stays_typed Σ ok W typed first free below D td y X at h U A f K e finish s) i
      (subst (λ Bs. Extends nothing Σ₁ (with_entries Σ first Bs)) (sym q) (Extends-self nothing Σ₁ (entries_signature Σ ok W typed first free D td))) υ
      (subst (λ Bs. IsTypedSubstitution (with_entries Σ first Bs) D.variables E.variables υ) (sym q) (values_typed Σ ok W typed first free below D td y X at h U A f K e finish s))
      (λ N B n k. own_substituted (own_terms first D.blocks) (own_terms first E.blocks) υ N (put_in_own first D.blocks υ) (λ j. image_own Σ ok W typed first free below D td y X at h U A f K e finish s (j + arguments_count A)) k)
      [] (nothing_behind (put_in_blocks υ D.blocks)) refl refl refl refl

  run_put_into : (D E : NumberedCase) → IsTypedNumberedCase Σ first W D → ComesByNumbers Σ W first below D E → IsPutInto Σ first C D → IsPutInto Σ first C E
  run_put_into D _ td no_split i = i
  run_put_into D _ td (then_block {D = F} B r m) i = block_put_into F (numbered_run_stays_typed Σ ok W typed first free below D td F r) B m (run_put_into D F td r i)
  run_put_into D _ td (then_split {D = F} y X h U A K finish r at f e s) i = split_put_into F (numbered_run_stays_typed Σ ok W typed first free below D td F r) y X h U A K finish at f e s (run_put_into D F td r i)

  reached_put_into : (ps : List Pattern) {D : NumberedCase} → ReachedByNumber Σ first W below ps C D → IsTypedNumberedCase Σ first W D × IsPutInto Σ first C D
  reached_put_into ps numbered_goal = (tc, whole_put_into Σ ok W typed first free C tc)
  reached_put_into ps (numbered_split {C = D} {D = E} x r n k sp) =
      let (td, i) = reached_put_into ps r in
      let w : ComesByNumbers Σ W first below D E = split_comes Σ W first below D E x sp in
      (numbered_run_stays_typed Σ ok W typed first free below D td E w, run_put_into D E td w i)

pub reached_is_numbered_instance : ReachedIsNumberedInstance
reached_is_numbered_instance Σ ok W typed first free below ps goal tg D r =
    let (td, i) = reached_put_into Σ ok W typed first free below goal tg ps r in
    ((carry goal.variables D.variables i.values, put_in_is_instance Σ W first goal D (entries_signature Σ ok W typed first free goal tg) tg i.values i.further i.blocks i.given i.local i.family i.arguments i.terms), λ j k l m e. e)
