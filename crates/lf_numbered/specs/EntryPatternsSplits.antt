-- From ground instances to splits: where each ground instance of a case is, with the same values, one of a case of the list, this is a split.
use Rattle.std.specs.Prelude.{◌≡◌, ℕ, ◌+◌, List, length, Bool}
use Rattle.lf.specs.Syntax.{Spine, LfType, skeleton}
use Rattle.lf.specs.Substitution.{Image}
use Rattle.lf.specs.SkeletonTyping.{SubstitutionBySkeletons}
use Rattle.lf.specs.Skeletons.{constant_skeletons, context_skeletons}
use Rattle.lf.specs.Typing.{Signature, TypeAt, IsSignature}
use Rattle.lf.specs.Subordination.{Block, AreTypedBlocks, Member}
use Rattle.lf.specs.Worlds.{World, lift_over, instance}
use Rattle.lf.specs.Extension.{Extends}
use Rattle.lf_cases.specs.Case.{as_term}
use Rattle.lf_cases.specs.Cover.{InstanceIn}
use Rattle.lf_cases.specs.Missing.{put_in}
use Rattle.lf_cases.specs.Pattern.{Known, HasGiven}
use Rattle.lf_numbered.specs.EntryConstants.{with_entries, IsFreeFrom}
use Rattle.lf_numbered.specs.EntryPatternsRuns.{ZerothIs, IsLikeByNumber, IsNumberedSplit}
use Rattle.lf_numbered.specs.NewBlock.{with_new_block}
use Rattle.lf_numbered.specs.NewInstance.{AreApart, with_instance}
use Rattle.lf_numbered.specs.NumberedArguments.{HasNumberedArguments, read_all}
use Rattle.lf_numbered.specs.NumberedCase.{NumberedCase, IsNumberedInstance, value_in}
use Rattle.lf_numbered.specs.OwnTerms.{blocks_of, own_terms, ImageOnOwnTerms, put_in_blocks}
use Rattle.lf_numbered.specs.Reading.{entry_reading}
use Rattle.lf_numbered.specs.TypedNumbered.{IsTypedNumberedCase}

-- What C holds by the ground instance of θ and σ, D holds by that of χ and ρ: the tuple, the given terms, and what is known of the block variable of number 0.
pub record HoldsAs (first : ℕ) (C : NumberedCase) (θ : ℕ → ℕ → Image) (σ : ℕ → Image) (D : NumberedCase) (χ : ℕ → ℕ → Image) (ρ : ℕ → Image) : Type 0 where
  pub arguments : (T : Spine) → HasNumberedArguments first C θ σ T → HasNumberedArguments first D χ ρ T
  pub given : (τ : ℕ → Image) → HasGiven σ (read_all (entry_reading first (blocks_of C.blocks) θ (length C.variables)) C.given) τ → HasGiven ρ (read_all (entry_reading first (blocks_of D.blocks) χ (length D.variables)) D.given) τ
  pub zeroth : (F : Known) → ZerothIs C θ F → ZerothIs D χ F

-- a ground instance of one of the cases, with block variables apart, that holds what C holds by that of θ and σ
abbrev pub OneHoldsAs : {Σ : Signature} {W : List Block} {S : ℕ → Bool} {G : List LfType} → World Σ W S G → ℕ → NumberedCase → (ℕ → ℕ → Image) → (ℕ → Image) → List NumberedCase → Type 0
OneHoldsAs w first C θ σ Cs = (D : NumberedCase) × Member D Cs × (χ : ℕ → ℕ → Image) × (ρ : ℕ → Image) × IsNumberedInstance w first D χ ρ × AreApart D χ × HoldsAs first C θ σ D χ ρ

-- Cases like C among which each ground instance of C with block variables apart is so held are a split of it.
abbrev pub InstancesMakeSplit : Type 0
InstancesMakeSplit = (Σ : Signature) (first : ℕ) (W : List Block) (S : ℕ → Bool) (C : NumberedCase) (Cs : List NumberedCase) → ((D : NumberedCase) → Member D Cs → IsLikeByNumber C D) → ((Σ' : Signature) → Extends S Σ Σ' → (G : List LfType) (w : World Σ' W S G) (θ : ℕ → ℕ → Image) (σ : ℕ → Image) → IsNumberedInstance w first C θ σ → AreApart C θ → OneHoldsAs w first C θ σ Cs) → IsNumberedSplit Σ first W S C Cs

-- D is C with the values υ put in for its free variables, as a case that is read off.
pub record IsPutIn (C D : NumberedCase) (υ : ℕ → Image) : Type 0 where
  pub blocks : D.blocks ≡ put_in_blocks υ C.blocks
  pub given : D.given ≡ put_in υ C.given
  pub local : D.local ≡ instance C.local υ
  pub family : D.family ≡ C.family
  pub arguments : D.arguments ≡ put_in (lift_over C.local υ) C.arguments

-- A ground instance of a typed case D, which is C with values on own terms put in, holds what the ground instance of C with these values holds.
abbrev pub PutInHoldsAs : Type 0
PutInHoldsAs = (Σ Σ' : Signature) → IsSignature Σ → (S : ℕ → Bool) → Extends S Σ Σ' → (W : List Block) → AreTypedBlocks Σ W → (first : ℕ) → IsFreeFrom Σ first → (C D : NumberedCase) → IsTypedNumberedCase Σ first W C → IsTypedNumberedCase Σ first W D → (υ : ℕ → Image) → IsPutIn C D υ → SubstitutionBySkeletons (constant_skeletons (with_entries Σ first (blocks_of D.blocks))) (context_skeletons C.variables) (context_skeletons D.variables) υ → ((i : ℕ) (A : LfType) → TypeAt C.variables i A → ImageOnOwnTerms (own_terms first D.blocks) (υ i)) → (G : List LfType) (w : World Σ' W S G) (θ : ℕ → ℕ → Image) (σ ρ : ℕ → Image) → IsNumberedInstance w first C θ σ → IsNumberedInstance w first D θ ρ → ((i : ℕ) (A : LfType) → TypeAt C.variables i A → as_term (skeleton A) (σ i) ≡ value_in first D θ ρ (as_term (skeleton A) (υ i))) → HoldsAs first C θ σ D θ ρ

-- And so does that of the case with a new block variable.
abbrev pub NewBlockHoldsAs : Type 0
NewBlockHoldsAs = (Σ Σ' : Signature) → IsSignature Σ → (S : ℕ → Bool) → Extends S Σ Σ' → (W : List Block) → AreTypedBlocks Σ W → (first : ℕ) → IsFreeFrom Σ first → (C : NumberedCase) → IsTypedNumberedCase Σ first W C → (B : Block) → Member B W → (G : List LfType) (w : World Σ' W S G) (θ : ℕ → ℕ → Image) (σ : ℕ → Image) → IsNumberedInstance w first C θ σ → (φ ρ : ℕ → Image) → InstanceIn w B φ → IsNumberedInstance w first (with_new_block B C) (with_instance (length C.blocks) φ θ) ρ → ((i : ℕ) → ρ (i + length B.some) ≡ σ i) → HoldsAs first C θ σ (with_new_block B C) (with_instance (length C.blocks) φ θ) ρ
