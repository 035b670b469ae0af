-- A split on which unification answers at each head.
use Rattle.std.specs.Prelude.{◌≡◌, ℕ, ◌+◌, List, [], Bool, Option, Some, None}
use Rattle.lf.specs.Syntax.{LfType, Kind}
use Rattle.lf.specs.Typing.{Signature}
use Rattle.lf.specs.Variables.{target}
use Rattle.lf.specs.Subordination.{Block}
use Rattle.lf_unification.specs.Solving.{Never, Solved}
use Rattle.lf_unification.specs.Unifiers.{Store}
use Rattle.lf_cases.specs.Case.{Case, items_context}
use Rattle.lf_cases.specs.Split.{HasNoBlockVariable}
use Rattle.lf_cases.specs.Reached.{arguments_count, split_items}
use Rattle.lf_coverage.specs.HeadOrder.{Offer}
use Rattle.lf_coverage.specs.Heads.{HeadsAreAnswered, IsSplitAt, IsSplitBelow}
use Rattle.lf_coverage.specs.SplitStore.{split_store, solved_case, AllFamiliesIn}

-- What unification finds for a head: it solves, and the case is that of the metavariables that stay free; or it never solves, and there is
-- no case.
abbrev pub UnifierFinds : Signature → (ℕ → ℕ → Bool) → Case → ℕ → LfType → Offer → Kind → Option Case → Type 0
UnifierFinds Σ below C x X h K (Some D) = (after : Store) × (s : Solved Σ (split_store below x X h.items h.moved h.head h.type K) after) × (D ≡ solved_case C (h.moved + arguments_count h.type) after s.well_formed.order)
UnifierFinds Σ below C x X h K None = Never Σ [] (split_store below x X h.items h.moved h.head h.type K)

-- So unification answers at a head, whatever set of families is asked for: the items are free variables.
pub record HeadIsAnswered (Σ : Signature) (below : ℕ → ℕ → Bool) (C : Case) (x : ℕ) (X : LfType) (h : Offer) (found : Option Case) : Type 0 where
  pub kind : Kind
  pub of_family : Σ.kinds (target X) ≡ Some kind
  pub no_block : HasNoBlockVariable h.items
  pub finds : UnifierFinds Σ below C x X h kind found

-- And the items for the head are of families of S.
pub record UnifierAnswer (Σ : Signature) (W : List Block) (S : ℕ → Bool) (below : ℕ → ℕ → Bool) (C : Case) (x : ℕ) (X : LfType) (h : Offer) (found : Option Case) : Type 0 where
  pub answered : HeadIsAnswered Σ below C x X h found
  pub families : AllFamiliesIn S (items_context (split_items below X h.items h.moved h.type))

-- a split by unification
abbrev pub IsUnifiedSplit : Signature → List Block → (ℕ → Bool) → (ℕ → ℕ → Bool) → Case → ℕ → List Case → Type 0
IsUnifiedSplit Σ W S below C x Cs = IsSplitAt Σ W S below (UnifierAnswer Σ W S below C x) C x Cs

-- a case is split so at one of its variables
abbrev pub SplitsByUnification : Signature → List Block → (ℕ → Bool) → (ℕ → ℕ → Bool) → Case → List Case → Type 0
SplitsByUnification Σ W S below C Cs = (x : ℕ) × IsUnifiedSplit Σ W S below C x Cs

-- A split of the free variable x of C at each head of which unification answers: the heads are offered in order, and the answers make the list of
-- cases. The items of each head are free variables: so there is no such split of a case with a block variable, but at a variable without any head; nor
-- one where an entry of the worlds is a head, as of cp X _ in the worlds of {x:exp} {u:cp x x}. plus X Y _ is split so by z and s.
abbrev pub IsAnsweredSplit : Signature → List Block → (ℕ → ℕ → Bool) → Case → ℕ → List Case → Type 0
IsAnsweredSplit Σ W below C x Cs = HeadsAreAnswered Σ W (HeadIsAnswered Σ below C x) C x Cs

-- a case is split so at one of its variables
abbrev pub AnswersEachHead : Signature → List Block → (ℕ → ℕ → Bool) → Case → List Case → Type 0
AnswersEachHead Σ W below C Cs = (x : ℕ) × IsAnsweredSplit Σ W below C x Cs

-- So it is split, and the families in the types of the arguments that x and the heads take are below their own.
abbrev pub IsSolvedSplit : Signature → List Block → (ℕ → ℕ → Bool) → Case → ℕ → List Case → Type 0
IsSolvedSplit Σ W below C x Cs = IsSplitBelow Σ W below (HeadIsAnswered Σ below C x) C x Cs

-- a case is split so at one of its variables, with the families of arguments below their own
abbrev pub SolvesEachHead : Signature → List Block → (ℕ → ℕ → Bool) → Case → List Case → Type 0
SolvesEachHead Σ W below C Cs = (x : ℕ) × IsSolvedSplit Σ W below C x Cs
