-- Solving over a signature with entries is to ask three things of a store. All three hold at each place of a pattern
-- beside a case, where these have what `instance_of` needs.
use Rattle.std.specs.Prelude.{◌≡◌, ℕ, List, Bool, Some}
use Rattle.lf.specs.Syntax.{LfType, Kind}
use Rattle.lf.specs.Substitution.{Image}
use Rattle.lf.specs.Typing.{Signature, TypeAt, IsSignature, IsTypedSubstitution}
use Rattle.lf.specs.Variables.{target}
use Rattle.lf.specs.Subordination.{Block, AreTypedBlocks}
use Rattle.lf_unification.specs.Solving.{IsWellFormed}
use Rattle.lf_unification.specs.Unifiers.{Store}
use Rattle.lf_cases.specs.Pattern.{Pattern}
use Rattle.lf_coverage.specs.Leaf.{IsTypedPattern}
use Rattle.lf_numbered.specs.MeetsAnswers.{IsPlace, entries_at}
use Rattle.lf_numbered.specs.MeetsReady.{IsPlainlyTyped}
use Rattle.lf_numbered.specs.NumberedCalls.{NumberedMatchedNeeds, NumberedSplitNeeds}
use Rattle.lf_numbered.specs.NumberedCallsOutside.{signature_of, store_of}
use Rattle.lf_numbered.specs.NumberedCallsStores.{meet_store_by_number}
use Rattle.lf_numbered.specs.NumberedCase.{NumberedCase}
use Rattle.lf_numbered.specs.NumberedInstance.{block_at}
use Rattle.lf_numbered.specs.NumberedSplits.{IsOfferTo, NumberedOffer}
use Rattle.lf_numbered.specs.OwnTerms.{BlockVariable}
use Rattle.lf_coverage.specs.StoreSkeletons.{StoreHasSkeletons}

-- The signature is one, the store is well formed over it, and skeletons type what its equations stand in. So it is with
-- X = b.x over exp, with b's entries; not with D = Y : t N where D : t a, which only skeletons type.
pub record IsReadyToSolve (Σ : Signature) (s : Store) : Type 0 where
  pub signature : IsSignature Σ
  pub well_formed : IsWellFormed Σ s
  pub skeletons : StoreHasSkeletons Σ s

-- Skeletons type what the equations of a typed case and a typed pattern stand in, with those that say which block
-- variables are one. It doesn't matter here whether the case is typed beside the pattern.
abbrev pub PlacedStoreHasSkeletons : Type 0
PlacedStoreHasSkeletons = (Σ : Signature) → IsSignature Σ → (W : List Block) → AreTypedBlocks Σ W → (J : NumberedCase) → IsPlainlyTyped Σ W J → (p : Pattern) → IsTypedPattern Σ p → (φ : ℕ → Image) → IsTypedSubstitution Σ p.clause.outer J.variables φ → (K : Kind) → Σ.kinds (target p.type) ≡ Some K → (π : ℕ → ℕ) → ((k : ℕ) (b c : BlockVariable) → block_at J.blocks k ≡ Some b → block_at J.blocks (π k) ≡ Some c → c.block ≡ b.block) → StoreHasSkeletons Σ (meet_store_by_number π J p φ K)

-- So the store at each place that `instance_of` looks at may be handed to solving, over the signature with the entries
-- of the case there.
abbrev pub NeededPlacesAreReadyToSolve : Type 0
NeededPlacesAreReadyToSolve = (Σ : Signature) (first : ℕ) (W : List Block) (C : NumberedCase) (p : Pattern) → NumberedMatchedNeeds Σ first W C p → (K : Kind) → Σ.kinds C.family ≡ Some K → (π : ℕ → ℕ) (J : NumberedCase) (φ : ℕ → Image) → IsPlace first C p π J φ → IsReadyToSolve (entries_at Σ first J) (meet_store_by_number π J p φ K)

-- So may the store of each head that is offered to a variable, where the case and the variable have what `split` needs.
abbrev pub NeededOffersAreReadyToSolve : Type 0
NeededOffersAreReadyToSolve = (Σ : Signature) (first : ℕ) (W : List Block) (below : ℕ → ℕ → Bool) (C : NumberedCase) (x : ℕ) → NumberedSplitNeeds Σ first W below C x → (X : LfType) → TypeAt C.variables x X → (o : NumberedOffer) → IsOfferTo Σ first W C x X o → (K : Kind) → Σ.kinds (target o.type) ≡ Some K → IsReadyToSolve (signature_of Σ first o) (store_of below o K)
