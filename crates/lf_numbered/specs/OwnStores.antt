-- A split of a case whose block variables have numbers, by unification in the empty world over the signature with entries: a free variable is unified
-- with a head. The constant of an entry is offered already applied to the `some` terms of its block variable, so that only the entry's own quantifiers
-- become new variables: those for `some` variables come once, with a new block variable.
use Rattle.std.specs.Prelude.{◌≡◌, ℕ, zero, ◌+◌, ◌<◌, List, [], length, Bool, Option, Some, None}
use Rattle.lf.specs.Syntax.{Head, constant, variable, Term, Spine, nil, app, LfType, Kind, pi, atom, Skeleton, rename_spine, rename_type}
use Rattle.lf.specs.AtOnce.{shift_by}
use Rattle.lf.specs.Typing.{Signature, TypeAt, IsSignature, instantiate_type}
use Rattle.lf.specs.Variables.{target, binders}
use Rattle.lf.specs.Subordination.{Block, Member, AreTypedBlocks}
use Rattle.lf_unification.specs.Dependency.{ListedMetavariable, free_context}
use Rattle.lf_unification.specs.Filling.{fill_spine, fill_type}
use Rattle.lf_unification.specs.OpenTyping.{skeletons_of}
use Rattle.lf_unification.specs.Putting.{Unbound}
use Rattle.lf_unification.specs.Solving.{IsWellFormed, Solved}
use Rattle.lf_unification.specs.Steps.{Run}
use Rattle.lf_unification.specs.Unifiers.{Solution, Store}
use Rattle.lf_cases.specs.Case.{Case}
use Rattle.lf_cases.specs.OutputGoal.{free_variables}
use Rattle.lf_cases.specs.Reached.{arguments_count, taken}
use Rattle.lf_coverage.specs.AppliedStore.{applied_store}
use Rattle.lf_coverage.specs.SplitStore.{open_spine, answer_values, solved_case}
use Rattle.lf_coverage.specs.StoreSkeletons.{StoreHasSkeletons}
use Rattle.lf_numbered.specs.EntryConstants.{with_entries, IsFreeFrom}
use Rattle.lf_numbered.specs.NewBlock.{with_new_block}
use Rattle.lf_numbered.specs.NumberedCase.{NumberedCase}
use Rattle.lf_numbered.specs.OwnTerms.{blocks_of, own_terms, put_in_blocks, OnOwnTerms, TypeOnOwnTerms}
use Rattle.lf_numbered.specs.TypedNumbered.{IsTypedNumberedCase}

-- The case over the signature with entries: its items are free variables.
abbrev pub as_case : NumberedCase → Case
as_case C = record { items = free_variables C.variables; given = C.given; local = C.local; family = C.family; arguments = C.arguments }

-- what is left of a head's type when the head is applied to these terms
abbrev pub left_type : Spine → LfType → LfType
left_type nil A = A
left_type (app M S) (pi A B) = left_type S (instantiate_type A M B)
left_type (app M S) (atom a T) = atom a T

-- A head for a free variable of the type X, the terms that it is applied to, and the type that is left, all under the variables that X takes: a
-- constant of Σ or a variable that is taken, applied to none; or the constant of an entry on its block variable's terms.
pub data IsNumberedOffer (Σ : Signature) (first : ℕ) (C : NumberedCase) (X : LfType) : Head → Spine → LfType → Type 0 where
  offer_signature : (k : ℕ) (V : LfType) → Σ.types k ≡ Some V → target V ≡ target X → IsNumberedOffer Σ first C X (constant k) nil V
  offer_taken : (j : ℕ) (A : LfType) → j < length (taken X) → TypeAt (binders C.variables X) j A → target A ≡ target X → IsNumberedOffer Σ first C X (variable j) nil A
  offer_entry : (c : ℕ) (U : Spine) (V : LfType) → own_terms first C.blocks c ≡ Some U → (with_entries Σ first (blocks_of C.blocks)).types c ≡ Some V → target V ≡ target X → IsNumberedOffer Σ first C X (constant c) (rename_spine (shift_by (length (taken X))) U) (rename_type (shift_by (length (taken X))) (left_type U V))

-- The store of a numbered case: the items of the head are those of the case, since a new block variable comes with a case of its own.
abbrev pub numbered_store : (ℕ → ℕ → Bool) → NumberedCase → ℕ → LfType → Head → Spine → LfType → Kind → Store
numbered_store below C x X h U A K = applied_store below x X (free_variables C.variables) zero h U A K

-- The case that a solved store gives, of which the variables have moved by k: that over the signature with entries, and the block variables with the
-- values put into their terms.
abbrev pub solved_numbered : NumberedCase → ℕ → Store → List ListedMetavariable → NumberedCase
solved_numbered C k s order =
    let D : Case = solved_case (as_case C) k s order in
    record { blocks = put_in_blocks (λ i. answer_values s order (i + k)) C.blocks; variables = free_context (skeletons_of s.metavariables) order; given = D.given; local = D.local; family = D.family; arguments = D.arguments }

-- The store of a typed case and a head for one of its free variables is well formed.
abbrev pub NumberedStoreIsReady : Type 0
NumberedStoreIsReady = (Σ : Signature) → IsSignature Σ → (W : List Block) → AreTypedBlocks Σ W → (first : ℕ) → IsFreeFrom Σ first → (below : ℕ → ℕ → Bool) (C : NumberedCase) → IsTypedNumberedCase Σ first W C → (x : ℕ) (X : LfType) → TypeAt C.variables x X → (h : Head) (U : Spine) (A : LfType) → IsNumberedOffer Σ first C X h U A → (K : Kind) → Σ.kinds (target X) ≡ Some K → IsWellFormed (with_entries Σ first (blocks_of C.blocks)) (numbered_store below C x X h U A K)

-- And skeletons type what its equations stand in, as solving asks.
abbrev pub NumberedStoreHasSkeletons : Type 0
NumberedStoreHasSkeletons = (Σ : Signature) → IsSignature Σ → (W : List Block) → AreTypedBlocks Σ W → (first : ℕ) → IsFreeFrom Σ first → (below : ℕ → ℕ → Bool) (C : NumberedCase) → IsTypedNumberedCase Σ first W C → (x : ℕ) (X : LfType) → TypeAt C.variables x X → (h : Head) (U : Spine) (A : LfType) → IsNumberedOffer Σ first C X h U A → (K : Kind) → Σ.kinds (target X) ≡ Some K → StoreHasSkeletons (with_entries Σ first (blocks_of C.blocks)) (numbered_store below C x X h U A K)

-- The own terms of a case, whose variables have moved by k, under a filling of its store.
abbrev pub filled_terms : (ℕ → Skeleton) → (ℕ → Option Term) → ℕ → Option Spine → Option Spine
filled_terms μ β k None = None
filled_terms μ β k (Some U) = Some (fill_spine μ β (open_spine zero (rename_spine (shift_by k) U)))

-- After any run of steps from the store, a typed unifier that gives what is unbound terms on these own terms gives all metavariables such terms, and
-- types on them: so it is though a binding moves own terms.
abbrev pub FillingsStayOnOwnTerms : Type 0
FillingsStayOnOwnTerms = (Σ : Signature) → IsSignature Σ → (W : List Block) → AreTypedBlocks Σ W → (first : ℕ) → IsFreeFrom Σ first → (below : ℕ → ℕ → Bool) (C : NumberedCase) → IsTypedNumberedCase Σ first W C → (x : ℕ) (X : LfType) → TypeAt C.variables x X → (h : Head) (U : Spine) (A : LfType) → IsNumberedOffer Σ first C X h U A → (K : Kind) → Σ.kinds (target X) ≡ Some K → (after : Store) → Run (with_entries Σ first (blocks_of C.blocks)) (numbered_store below C x X h U A K) after → (F : List LfType) (β : ℕ → Option Term) → Solution (with_entries Σ first (blocks_of C.blocks)) [] after F β → ((m : ℕ) (N : Term) → Unbound after.bindings m → β m ≡ Some N → OnOwnTerms (λ c. filled_terms (skeletons_of after.metavariables) β (arguments_count A) (own_terms first C.blocks c)) N) → ((m : ℕ) (N : Term) → β m ≡ Some N → OnOwnTerms (λ c. filled_terms (skeletons_of after.metavariables) β (arguments_count A) (own_terms first C.blocks c)) N) × ((m : ℕ) (B : LfType) → after.metavariables m ≡ Some B → TypeOnOwnTerms (λ c. filled_terms (skeletons_of after.metavariables) β (arguments_count A) (own_terms first C.blocks c)) (fill_type (skeletons_of after.metavariables) β B))

-- Where unification solves it, the case that is read off is typed: all that stands in it is on the own terms of its block variables.
abbrev pub NumberedSplitStaysTyped : Type 0
NumberedSplitStaysTyped = (Σ : Signature) → IsSignature Σ → (W : List Block) → AreTypedBlocks Σ W → (first : ℕ) → IsFreeFrom Σ first → (below : ℕ → ℕ → Bool) (C : NumberedCase) → IsTypedNumberedCase Σ first W C → (x : ℕ) (X : LfType) → TypeAt C.variables x X → (h : Head) (U : Spine) (A : LfType) → IsNumberedOffer Σ first C X h U A → (K : Kind) → Σ.kinds (target X) ≡ Some K → (after : Store) (s : Solved (with_entries Σ first (blocks_of C.blocks)) (numbered_store below C x X h U A K) after) → IsTypedNumberedCase Σ first W (solved_numbered C (arguments_count A) after s.well_formed.order)

-- With one more block variable a typed case stays typed; so an entry of a new instance is offered as one of this case.
abbrev pub NewBlockStaysTyped : Type 0
NewBlockStaysTyped = (Σ : Signature) → IsSignature Σ → (W : List Block) → AreTypedBlocks Σ W → (first : ℕ) → IsFreeFrom Σ first → (C : NumberedCase) → IsTypedNumberedCase Σ first W C → (B : Block) → Member B W → IsTypedNumberedCase Σ first W (with_new_block B C)

-- The cases that come from a case by new block variables and by splits that unification solves.
pub data ComesByNumbers (Σ : Signature) (W : List Block) (first : ℕ) (below : ℕ → ℕ → Bool) (C : NumberedCase) : NumberedCase → Type 0 where
  no_split : ComesByNumbers Σ W first below C C
  then_block : {D : NumberedCase} (B : Block) → ComesByNumbers Σ W first below C D → Member B W → ComesByNumbers Σ W first below C (with_new_block B D)
  then_split : {D : NumberedCase} (x : ℕ) (X : LfType) (h : Head) (U : Spine) (A : LfType) (K : Kind) (after : Store) → ComesByNumbers Σ W first below C D → TypeAt D.variables x X → IsNumberedOffer Σ first D X h U A → Σ.kinds (target X) ≡ Some K → (s : Solved (with_entries Σ first (blocks_of D.blocks)) (numbered_store below D x X h U A K) after) → ComesByNumbers Σ W first below C (solved_numbered D (arguments_count A) after s.well_formed.order)

-- So each of them is typed, where the case is.
abbrev pub NumberedRunStaysTyped : Type 0
NumberedRunStaysTyped = (Σ : Signature) → IsSignature Σ → (W : List Block) → AreTypedBlocks Σ W → (first : ℕ) → IsFreeFrom Σ first → (below : ℕ → ℕ → Bool) (C : NumberedCase) → IsTypedNumberedCase Σ first W C → (D : NumberedCase) → ComesByNumbers Σ W first below C D → IsTypedNumberedCase Σ first W D
