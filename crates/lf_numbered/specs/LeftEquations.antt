-- An equation that a split by number leaves is a condition on tuples: each tuple of the case in which the variable is
-- that head makes it true. So the answers `outside_over` and `one_outside` of NumberedCalls show what a tuple of the
-- case, and so one of the goal, has to satisfy.
use Rattle.std.specs.Prelude.{◌≡◌, ℕ, ◌+◌, List, [], ◌∷◌, length, Bool, true, Option, Some}
use Rattle.lf.specs.Syntax.{Head, Term, Spine, root, LfType, skeleton}
use Rattle.lf.specs.Substitution.{Image, put}
use Rattle.lf.specs.Eta.{lambdas}
use Rattle.lf.specs.Typing.{Signature, TypeAt, IsSignature}
use Rattle.lf.specs.Variables.{target}
use Rattle.lf.specs.Subordination.{Block, AreTypedBlocks, Member, SelfContained}
use Rattle.lf.specs.Worlds.{World}
use Rattle.lf.specs.Extension.{Extends}
use Rattle.lf_checks.specs.Below.{IsSubordination}
use Rattle.lf_unification.specs.Unifiers.{Equation, Solution, Store}
use Rattle.lf_cases.specs.Case.{as_term}
use Rattle.lf_cases.specs.Cover.{InstanceIn}
use Rattle.lf_cases.specs.Pattern.{Known, Pattern}
use Rattle.lf_cases.specs.Reached.{taken}
use Rattle.lf_coverage.specs.Heads.{ArgumentsAreBelow}
use Rattle.lf_numbered.specs.EntryConstants.{IsFreeFrom}
use Rattle.lf_numbered.specs.EntryPatternsRuns.{HoldsApart, HoldsByNumber}
use Rattle.lf_numbered.specs.EntryPatternsSplits.{HoldsAs}
use Rattle.lf_numbered.specs.LeftUnifiers.{HasHead, HeadUnifier, head_in, read_store}
use Rattle.lf_numbered.specs.NewBlock.{with_new_block}
use Rattle.lf_numbered.specs.NewInstance.{AreApart, with_instance}
use Rattle.lf_numbered.specs.NumberedCallsOutside.{SplitLeavesByNumber}
use Rattle.lf_numbered.specs.NumberedCallsReached.{RunLeavesByNumber}
use Rattle.lf_numbered.specs.NumberedBeside.{TakesIn}
use Rattle.lf_numbered.specs.NumberedCase.{NumberedCase, IsNumberedInstance}
use Rattle.lf_numbered.specs.NumberedHeads.{StandsForNone}
use Rattle.lf_numbered.specs.NumberedReached.{HoldsBack}
use Rattle.lf_numbered.specs.NumberedSplits.{IsOfferTo, NumberedOffer}
use Rattle.lf_numbered.specs.OwnTerms.{blocks_of}
use Rattle.lf_numbered.specs.TypedNumbered.{IsTypedNumberedCase}

-- The bindings of a store with this equation alone.
abbrev pub shown_store : Store → Equation → Store
shown_store s e = record { metavariables = s.metavariables; bindings = s.bindings; equations = e ∷ [] }

-- The equation that is shown is true of each ground instance with block variables apart that gives the variable this
-- head: with the values of the variables over which it is shown, which are typed, and with terms for the metavariables
-- that solving made, which are those that the bindings ask for, its sides are the same.
abbrev pub LeftIsTrue : Type 0
LeftIsTrue = (Σ : Signature) → IsSignature Σ → (W : List Block) → AreTypedBlocks Σ W → (below : ℕ → ℕ → Bool) → IsSubordination Σ W below → (S : ℕ → Bool) → SelfContained Σ W S → (first : ℕ) → IsFreeFrom Σ first → (C : NumberedCase) → IsTypedNumberedCase Σ first W C → (x : ℕ) (over : NumberedCase) (shown : Equation) (l : SplitLeavesByNumber Σ first W below C x over shown) → TakesIn S l.type → ArgumentsAreBelow below l.type → ArgumentsAreBelow below l.offer.left → (Σ' : Signature) → Extends S Σ Σ' → (G : List LfType) (w : World Σ' W S G) (θ : ℕ → ℕ → Image) (σ : ℕ → Image) → IsNumberedInstance w first l.offer.case θ σ → AreApart l.offer.case θ → HasHead first l.offer θ σ → HeadUnifier w first below l.offer θ σ (shown_store l.after shown)

-- What a case holds by θ and σ, where x is the head of an offer: the case that the head is offered to holds it, with
-- x's value for its variable, which is this head. A head of the case itself is offered to it; an entry of an instance
-- for which no block variable stands is offered to the case with a new one.
pub record GivesHead {Σ : Signature} {W : List Block} {S : ℕ → Bool} {G : List LfType} (w : World Σ W S G) (first : ℕ) (C : NumberedCase) (θ : ℕ → ℕ → Image) (σ : ℕ → Image) (x : ℕ) (o : NumberedOffer) : Type 0 where
  pub instances : ℕ → ℕ → Image
  pub values : ℕ → Image
  pub is_ground : IsNumberedInstance w first o.case instances values
  pub are_apart : AreApart o.case instances
  pub holds : HoldsAs first C θ σ o.case instances values
  pub same : values o.variable ≡ σ x
  pub has_head : HasHead first o instances values

-- The case holds the tuple by values that make the equation true: with terms for the metavariables that solving made
-- they are a typed unifier, in the context, of the equation and of the bindings of the store s. So p T K W X holds p z
-- ([x] z) n (refl z) with K W = T (`CircleIsTrue`).
pub record HoldsTrue {Σ : Signature} {W : List Block} {S : ℕ → Bool} {G : List LfType} (w : World Σ W S G) (first : ℕ) (over : NumberedCase) (s : Store) (shown : Equation) (F : Known) (υ : ℕ → Image) (T : Spine) : Type 0 where
  pub holds : HoldsByNumber w first over F υ T
  pub terms : ℕ → Option Term
  pub same : (i : ℕ) (A : LfType) → TypeAt over.variables i A → terms i ≡ Some (as_term (skeleton A) (holds.values i))
  pub unifier : Solution Σ G (read_store first (blocks_of over.blocks) holds.instances (shown_store s shown)) G terms

-- So each tuple that the case holds, with block variables apart, with this head for the variable, is held so over the
-- case that is shown.
abbrev pub LeftHoldsTrue : Type 0
LeftHoldsTrue = (Σ : Signature) → IsSignature Σ → (W : List Block) → AreTypedBlocks Σ W → (below : ℕ → ℕ → Bool) → IsSubordination Σ W below → (S : ℕ → Bool) → SelfContained Σ W S → (first : ℕ) → IsFreeFrom Σ first → (C : NumberedCase) → IsTypedNumberedCase Σ first W C → (x : ℕ) (over : NumberedCase) (shown : Equation) (l : SplitLeavesByNumber Σ first W below C x over shown) → TakesIn S l.type → ArgumentsAreBelow below l.type → ArgumentsAreBelow below l.offer.left → (Σ' : Signature) → Extends S Σ Σ' → (G : List LfType) (w : World Σ' W S G) (F : Known) (υ : ℕ → Image) (T : Spine) (h : HoldsApart w first C F υ T) → GivesHead w first C h.holds.instances h.holds.values x l.offer → HoldsTrue w first over l.after shown F υ T

-- And where a whole run stops so, such a tuple of the case that is reached is one of the goal: so what is shown is a
-- condition on tuples of the goal.
abbrev pub RunLeftHoldsTrue : Type 0
RunLeftHoldsTrue = (Σ : Signature) → IsSignature Σ → (W : List Block) → AreTypedBlocks Σ W → (below : ℕ → ℕ → Bool) → IsSubordination Σ W below → (S : ℕ → Bool) → SelfContained Σ W S → (first : ℕ) → IsFreeFrom Σ first → (ps : List Pattern) (goal : NumberedCase) → IsTypedNumberedCase Σ first W goal → (C over : NumberedCase) (shown : Equation) (r : RunLeavesByNumber Σ first W below ps goal C over shown) → TakesIn S r.leaves.type → ArgumentsAreBelow below r.leaves.type → ArgumentsAreBelow below r.leaves.offer.left → (Σ' : Signature) → Extends S Σ Σ' → (G : List LfType) (w : World Σ' W S G) (F : Known) (υ : ℕ → Image) (T : Spine) (h : HoldsApart w first C F υ T) → GivesHead w first C h.holds.instances h.holds.values r.candidate r.leaves.offer → HoldsBack w first C h.holds.instances h.holds.values goal × HoldsTrue w first over r.leaves.after shown F υ T

-- A head of the case itself is given by the case.
abbrev pub HeadIsGiven : Type 0
HeadIsGiven = (Σ : Signature) (W : List Block) (S : ℕ → Bool) (G : List LfType) (w : World Σ W S G) (first : ℕ) (o : NumberedOffer) (θ : ℕ → ℕ → Image) (σ : ℕ → Image) → IsNumberedInstance w first o.case θ σ → AreApart o.case θ → HasHead first o θ σ → GivesHead w first o.case θ σ o.variable o

-- An entry of an instance for which no block variable stands is given by the case with a new one, which stands for this
-- instance. X is the variable's type beside the `some` variables of the new block variable.
abbrev pub NewHeadIsGiven : Type 0
NewHeadIsGiven = (Σ Σ' : Signature) → IsSignature Σ → (S : ℕ → Bool) → Extends S Σ Σ' → (W : List Block) → AreTypedBlocks Σ W → (first : ℕ) → IsFreeFrom Σ first → (C : NumberedCase) → IsTypedNumberedCase Σ first W C → (G : List LfType) (w : World Σ' W S G) (θ : ℕ → ℕ → Image) (σ : ℕ → Image) → IsNumberedInstance w first C θ σ → AreApart C θ → (B : Block) → Member B W → (φ : ℕ → Image) → InstanceIn w B φ → StandsForNone C θ B φ → (x : ℕ) (X : LfType) (h : Head) (U : Spine) (A : LfType) → (T : Spine) → σ x ≡ put (skeleton X) (lambdas (length (taken X)) (root (head_in first (blocks_of (with_new_block B C).blocks) (with_instance (length C.blocks) φ θ) (length (taken X)) h) T)) → GivesHead w first C θ σ x (record { case = with_new_block B C; variable = x + length B.some; type = X; head = h; terms = U; left = A })

-- So each ground instance with block variables apart gives a variable, of a family in the set, the head of an offer.
abbrev pub HeadIsOffered : Type 0
HeadIsOffered = (Σ Σ' : Signature) → IsSignature Σ → (S : ℕ → Bool) → Extends S Σ Σ' → (W : List Block) → AreTypedBlocks Σ W → (first : ℕ) → IsFreeFrom Σ first → (C : NumberedCase) → IsTypedNumberedCase Σ first W C → (G : List LfType) (w : World Σ' W S G) (θ : ℕ → ℕ → Image) (σ : ℕ → Image) → IsNumberedInstance w first C θ σ → AreApart C θ → (x : ℕ) (X : LfType) → TypeAt C.variables x X → S (target X) ≡ true → (o : NumberedOffer) × IsOfferTo Σ first W C x X o × GivesHead w first C θ σ x o
