-- A split of a case whose block variables have numbers, at each head of which unification answers: over the signature with entries, in the empty world.
use Rattle.std.specs.Prelude.{◌≡◌, ℕ, ◌+◌, List, length, Bool, Option, Some, None}
use Rattle.lf.specs.Syntax.{Head, constant, Spine, LfType, Kind, rename_type}
use Rattle.lf.specs.AtOnce.{shift_by}
use Rattle.lf.specs.Typing.{Signature, TypeAt, IsSignature}
use Rattle.lf.specs.Variables.{target, FamiliesIn}
use Rattle.lf.specs.Subordination.{Block, AreTypedBlocks, Member, SelfContained}
use Rattle.lf_checks.specs.Below.{IsSubordination}
use Rattle.lf_unification.specs.Solving.{Solved}
use Rattle.lf_unification.specs.Steps.{CanRefute}
use Rattle.lf_unification.specs.Unifiers.{Store}
use Rattle.lf_cases.specs.Reached.{arguments_count}
use Rattle.lf_coverage.specs.Heads.{ArgumentsAreBelow}
use Rattle.lf_coverage.specs.Listed.{Listed}
use Rattle.lf_numbered.specs.EntryConstants.{IsFreeFrom, with_entries}
use Rattle.lf_numbered.specs.EntryPatternsRuns.{IsNumberedSplit}
use Rattle.lf_numbered.specs.NewBlock.{with_new_block}
use Rattle.lf_numbered.specs.NumberedCase.{NumberedCase}
use Rattle.lf_numbered.specs.OwnStores.{IsNumberedOffer, numbered_store, solved_numbered}
use Rattle.lf_numbered.specs.OwnTerms.{blocks_of}
use Rattle.lf_numbered.specs.TypedNumbered.{IsTypedNumberedCase}

-- A head that is offered: the case that it is offered to, which may have one more block variable than the case that is split; the variable of this case
-- and its type; and the head, the terms that it is applied to, and the type that is left.
pub record NumberedOffer : Type 0 where
  pub case : NumberedCase
  pub variable : ℕ
  pub type : LfType
  pub head : Head
  pub terms : Spine
  pub left : LfType

-- A head that is offered to the variable x of C, of the type X: one of C itself; or, for a new block variable of the worlds, one of the case with it.
pub data IsOfferTo (Σ : Signature) (first : ℕ) (W : List Block) (C : NumberedCase) (x : ℕ) (X : LfType) : NumberedOffer → Type 0 where
  of_case : (h : Head) (U : Spine) (A : LfType) → IsNumberedOffer Σ first C X h U A → IsOfferTo Σ first W C x X (record { case = C; variable = x; type = X; head = h; terms = U; left = A })
  of_new_block : (B : Block) (c : ℕ) (U : Spine) (A : LfType) → Member B W → ((with_entries Σ first (blocks_of C.blocks)).types c ≡ None) → IsNumberedOffer Σ first (with_new_block B C) (rename_type (shift_by (length B.some)) X) (constant c) U A → IsOfferTo Σ first W C x X (record { case = with_new_block B C; variable = x + length B.some; type = rename_type (shift_by (length B.some)) X; head = constant c; terms = U; left = A })

-- Unification solves the store of the offer, and the case is read off; or steps refute it, and there is none.
abbrev pub NumberedUnifierFinds : Signature → ℕ → (ℕ → ℕ → Bool) → NumberedOffer → Kind → Option NumberedCase → Type 0
NumberedUnifierFinds Σ first below o K (Some D) = (after : Store) × (s : Solved (with_entries Σ first (blocks_of o.case.blocks)) (numbered_store below o.case o.variable o.type o.head o.terms o.left K) after) × (D ≡ solved_numbered o.case (arguments_count o.left) after s.well_formed.order)
NumberedUnifierFinds Σ first below o K None = CanRefute (with_entries Σ first (blocks_of o.case.blocks)) (numbered_store below o.case o.variable o.type o.head o.terms o.left K)

pub record NumberedAnswer (Σ : Signature) (first : ℕ) (below : ℕ → ℕ → Bool) (o : NumberedOffer) (found : Option NumberedCase) : Type 0 where
  pub kind : Kind
  pub of_family : Σ.kinds (target o.type) ≡ Some kind
  pub finds : NumberedUnifierFinds Σ first below o kind found

-- A split of the free variable x of C, at each head of which unification answers; the families in the types of arguments are below their own. A case
-- with a block variable may be split so, and one that gets a new one: p X in the worlds of {x:exp} {u:p x}, where exp has no constant, by b.x.
pub record IsAnsweredByNumber (Σ : Signature) (first : ℕ) (W : List Block) (below : ℕ → ℕ → Bool) (C : NumberedCase) (x : ℕ) (Cs : List NumberedCase) : Type 0 where
  pub type : LfType
  pub at : TypeAt C.variables x type
  pub takes_below : ArgumentsAreBelow below type
  pub offers : List NumberedOffer
  pub each : (o : NumberedOffer) → Member o offers → IsOfferTo Σ first W C x type o
  pub every : (o : NumberedOffer) → IsOfferTo Σ first W C x type o → Member o offers
  pub arguments_below : (o : NumberedOffer) → IsOfferTo Σ first W C x type o → ArgumentsAreBelow below o.left
  pub listed : Listed (NumberedAnswer Σ first below) offers Cs

-- Such a split is one, beside each self-contained set that holds the families in the variable's type: each ground instance of the case with block
-- variables apart is, with the same values, one of a case that is read off, with block variables apart.
abbrev pub AnsweredByNumberIsSplit : Type 0
AnsweredByNumberIsSplit = (Σ : Signature) → IsSignature Σ → (W : List Block) → AreTypedBlocks Σ W → (below : ℕ → ℕ → Bool) → IsSubordination Σ W below → (S : ℕ → Bool) → SelfContained Σ W S → (first : ℕ) → IsFreeFrom Σ first → (C : NumberedCase) → IsTypedNumberedCase Σ first W C → (x : ℕ) (Cs : List NumberedCase) (sp : IsAnsweredByNumber Σ first W below C x Cs) → FamiliesIn S sp.type → IsNumberedSplit Σ first W S C Cs
