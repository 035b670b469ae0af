-- The numbered form of a case, as a program makes it: a walk that puts in place of each entry variable and its
-- arguments the entry's constant on its block variable's terms and these arguments.
use Rattle.std.specs.Prelude.{◌≡◌, ℕ, zero, suc, ◌+◌, List, [], ◌∷◌, ◌++◌, length, Option, Some, None}
use Rattle.lf.specs.Syntax.{Term, Spine, constant, variable, metavariable, lambda, root, nil, app, LfType, pi, atom, Skeleton, rename_spine}
use Rattle.lf.specs.Substitution.{Image, keep, put, substitute, reduce}
use Rattle.lf.specs.SkeletonTyping.{HeadSkeletons, SkeletonAt, SubstitutionBySkeletons, TermSkeleton}
use Rattle.lf.specs.Eta.{append, eta_expand}
use Rattle.lf.specs.Typing.{Signature, IsSignature}
use Rattle.lf.specs.Subordination.{Block, AreTypedBlocks}
use Rattle.lf_cases.specs.Case.{Item, free_variable, block_variable, Case}
use Rattle.lf_coverage.specs.Heads.{IsTypedCase}
use Rattle.lf_coverage.specs.TypedLocal.{HasTypedLocal}
use Rattle.lf_numbered.specs.EntryConstants.{IsFreeFrom}
use Rattle.lf_numbered.specs.NumberedCase.{NumberedCase, some_spine}
use Rattle.lf_numbered.specs.Numbering.{entries_of, numbered}
use Rattle.lf_numbered.specs.OwnTerms.{BlockVariable, blocks_of, rename_blocks}
use Rattle.lf_numbered.specs.Reading.{drop_arguments, read, read_spine}

-- What a variable becomes: a variable, or a constant on some terms.
pub data Standing : Type 0 where
  as_variable : ℕ → Standing
  as_constant : ℕ → Spine → Standing

-- This is the same past one more variable.
abbrev pub standing_behind : Standing → Standing
standing_behind (as_variable i) = as_variable (suc i)
standing_behind (as_constant c U) = as_constant c (rename_spine suc U)

-- Under a binder the bound variable stays.
abbrev pub under_binder : (ℕ → Standing) → ℕ → Standing
under_binder w zero = as_variable zero
under_binder w (suc i) = standing_behind (w i)

abbrev pub under_binders : List LfType → (ℕ → Standing) → ℕ → Standing
under_binders [] w = w
under_binders (A ∷ L) w = under_binder (under_binders L w)

-- The arguments come behind the constant's own terms.
abbrev pub standing_on : Standing → Spine → Term
standing_on (as_variable i) S = root (variable i) S
standing_on (as_constant c U) S = root (constant c) (append U S)

abbrev mutual
  -- The walk. Where x becomes 5 on z, the term x (s y) becomes 5 z (s y).
  pub walked : (ℕ → Standing) → Term → Term
  walked w (lambda M) = lambda (walked (under_binder w) M)
  walked w (root (constant c) S) = root (constant c) (walked_spine w S)
  walked w (root (variable i) S) = standing_on (w i) (walked_spine w S)
  walked w (root (metavariable m) S) = root (metavariable m) (walked_spine w S)

  pub walked_spine : (ℕ → Standing) → Spine → Spine
  walked_spine w nil = nil
  walked_spine w (app M S) = app (walked w M) (walked_spine w S)

-- The walk goes through a type, a local context and the places of a case in the same way.
abbrev pub walked_type : (ℕ → Standing) → LfType → LfType
walked_type w (pi A B) = pi (walked_type w A) (walked_type (under_binder w) B)
walked_type w (atom a S) = atom a (walked_spine w S)

abbrev pub walked_local : List LfType → (ℕ → Standing) → List LfType
walked_local [] w = []
walked_local (A ∷ L) w = walked_type (under_binders L w) A ∷ walked_local L w

abbrev pub walked_all : (ℕ → Standing) → List (Option Term) → List (Option Term)
walked_all w [] = []
walked_all w (Some M ∷ Ms) = Some (walked w M) ∷ walked_all w Ms
walked_all w (None ∷ Ms) = None ∷ walked_all w Ms

-- Items: block variables by number, free variables, and what each variable of the items becomes. The constants of a
-- block variable's entries follow those of the block variables before it, the oldest entry first.
pub record WalkedItems : Type 0 where
  pub blocks : List BlockVariable
  pub variables : List LfType
  pub standings : ℕ → Standing

abbrev pub entries_become : ℕ → Spine → List LfType → (ℕ → Standing) → ℕ → Standing
entries_become n U [] w i = w i
entries_become n U (E ∷ es) w zero = as_constant (n + length es) U
entries_become n U (E ∷ es) w (suc i) = entries_become n U es w i

abbrev pub add_walked : LfType → WalkedItems → WalkedItems
add_walked A w = record { blocks = rename_blocks suc w.blocks; variables = walked_type w.standings A ∷ w.variables; standings = under_binder w.standings }

abbrev pub add_walked_block : ℕ → Block → (ℕ → Image) → WalkedItems → WalkedItems
add_walked_block first B υ w =
    let U : Spine = walked_spine w.standings (some_spine B.some υ) in
    record { blocks = w.blocks ++ record { block = B; terms = U } ∷ []; variables = w.variables; standings = entries_become (first + entries_of (blocks_of w.blocks)) U B.entries w.standings }

abbrev pub walked_items : ℕ → List Item → WalkedItems
walked_items first [] = record { blocks = []; variables = []; standings = as_variable }
walked_items first (free_variable A ∷ I) = add_walked A (walked_items first I)
walked_items first (block_variable B υ ∷ I) = add_walked_block first B υ (walked_items first I)

abbrev pub walked_case : ℕ → Case → NumberedCase
walked_case first C =
    let w : WalkedItems = walked_items first C.items in
    record { blocks = w.blocks; variables = w.variables; given = walked_all w.standings C.given; local = walked_local C.local w.standings; family = C.family; arguments = walked_all (under_binders C.local w.standings) C.arguments }

-- Where a variable of this skeleton becomes a constant, the constant's eta-long form is put in for it.
abbrev pub standing_image : Skeleton → Standing → Image
standing_image a (as_variable i) = keep i
standing_image a (as_constant c U) = put a (eta_expand a (constant c) U)

abbrev pub StandsFor : List Skeleton → (ℕ → Standing) → (ℕ → Image) → Type 0
StandsFor Γ w σ = (i : ℕ) (t : Skeleton) → SkeletonAt Γ i t → σ i ≡ standing_image t (w i)

-- So on terms with skeletons the walk is the substitution of these eta-long forms.
abbrev pub WalkIsSubstitution : Type 0
WalkIsSubstitution = (κ : HeadSkeletons) (Γ Δ : List Skeleton) (w : ℕ → Standing) (σ : ℕ → Image) → SubstitutionBySkeletons κ Γ Δ σ → StandsFor Γ w σ → (M : Term) (t : Skeleton) → TermSkeleton κ Γ M t → substitute reduce σ M ≡ walked w M

-- And the numbered form of a typed case is the one that the walk makes.
abbrev pub NumberedIsWalked : Type 0
NumberedIsWalked = (Σ : Signature) → IsSignature Σ → (W : List Block) → AreTypedBlocks Σ W → (first : ℕ) → IsFreeFrom Σ first → (C : Case) → IsTypedCase Σ W C → HasTypedLocal Σ C → numbered first C ≡ walked_case first C

-- Reading back is a walk too: where the constant is an entry on n own terms, only the arguments behind these are read.
abbrev pub ReadDropsFirst : Type 0
ReadDropsFirst = (f : ℕ → Option (ℕ × ℕ)) (c n v : ℕ) → f c ≡ Some (n, v) → (S : Spine) → read f (root (constant c) S) ≡ root (variable v) (read_spine f (drop_arguments n S))
