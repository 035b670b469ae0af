-- What solving finds for a head of a split by number is the only case: two cases that it finds are the same but for
-- their variables, whatever steps are taken and whatever numbers new metavariables have; and where it finds a case, no
-- steps refute. Whether other steps leave an equation is not said.
use Rattle.std.specs.Prelude.{◌≡◌, ℕ, List, Bool, Some, None}
use Rattle.lf.specs.Eta.{eta_long}
use Rattle.lf.specs.Syntax.{variable, LfType, Kind, skeleton}
use Rattle.lf.specs.Substitution.{Image, put, substitute_image}
use Rattle.lf.specs.Typing.{Signature, TypeAt, IsSignature}
use Rattle.lf.specs.Variables.{target}
use Rattle.lf.specs.Subordination.{Block, AreTypedBlocks}
use Rattle.lf_numbered.specs.EntryConstants.{IsFreeFrom}
use Rattle.lf_numbered.specs.NumberedCase.{NumberedCase}
use Rattle.lf_numbered.specs.NumberedInstance.{IsNumberedInstanceOf}
use Rattle.lf_numbered.specs.NumberedSplits.{IsOfferTo, NumberedOffer, NumberedUnifierFinds}
use Rattle.lf_numbered.specs.TypedNumbered.{IsTypedNumberedCase}

-- With τ put into what σ gives for them, these variables are themselves. So it is for F with G for F and F for G, and with
-- [x] [y] G y x for F and [x] [y] F y x for G; not with z for F.
abbrev pub GivesBack : List LfType → (ℕ → Image) → (ℕ → Image) → Type 0
GivesBack X σ τ = (i : ℕ) (A : LfType) → TypeAt X i A → substitute_image τ (σ i) ≡ put (skeleton A) (eta_long (skeleton A) (variable i))

-- The same case but for its free variables: each is a typed instance of the other, in which each block variable keeps
-- its number, and the values of the one give back the variables of the other. So are plus (s X) Y _ and plus (s Y) X _.
-- Not plus X Y _ and plus (s X) Y _; nor plus z Y _ with and without a variable that occurs nowhere, though each is an
-- instance of the other.
pub record AreSameCase (Σ : Signature) (first : ℕ) (D E : NumberedCase) : Type 0 where
  pub values : ℕ → Image
  pub back : ℕ → Image
  pub is_instance : IsNumberedInstanceOf Σ first D E (λ k. k) values
  pub has_instance : IsNumberedInstanceOf Σ first E D (λ k. k) back
  pub there_and_back : GivesBack E.variables values back
  pub back_and_there : GivesBack D.variables back values

-- Of one head that is offered to a variable of a typed case solving finds one case.
abbrev pub OfferHasOneCase : Type 0
OfferHasOneCase = (Σ : Signature) → IsSignature Σ → (W : List Block) → AreTypedBlocks Σ W → (first : ℕ) → IsFreeFrom Σ first → (below : ℕ → ℕ → Bool) (C : NumberedCase) → IsTypedNumberedCase Σ first W C → (x : ℕ) (X : LfType) → TypeAt C.variables x X → (o : NumberedOffer) → IsOfferTo Σ first W C x X o → (K : Kind) → Σ.kinds (target o.type) ≡ Some K → (D E : NumberedCase) → NumberedUnifierFinds Σ first below o K (Some D) → NumberedUnifierFinds Σ first below o K (Some E) → AreSameCase Σ first D E

-- And where it finds one, no steps refute: X = s X' is solved, so no run ends at a clash.
abbrev pub FoundIsNotRefuted : Type 0
FoundIsNotRefuted = (Σ : Signature) → IsSignature Σ → (W : List Block) → AreTypedBlocks Σ W → (first : ℕ) → IsFreeFrom Σ first → (below : ℕ → ℕ → Bool) (C : NumberedCase) → IsTypedNumberedCase Σ first W C → (x : ℕ) (X : LfType) → TypeAt C.variables x X → (o : NumberedOffer) → IsOfferTo Σ first W C x X o → (K : Kind) → Σ.kinds (target o.type) ≡ Some K → (D : NumberedCase) → NumberedUnifierFinds Σ first below o K (Some D) → NumberedUnifierFinds Σ first below o K None → ⊥
