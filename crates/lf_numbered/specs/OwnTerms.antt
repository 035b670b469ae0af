-- Terms whose entry constants stand on their own terms. A block variable stands for one instance, so its constants stand on its `some` terms and on
-- no others: for b of `some {n:nat} block {x:t n}` on z the term b.x (s z) has a type, but is no term of any context.
use Rattle.std.specs.Prelude.{◌≡◌, ℕ, zero, suc, List, [], ◌∷◌, ◌++◌, length, Option, Some, None}
use Rattle.lf.specs.Syntax.{constant, variable, metavariable, Term, Spine, lambda, root, nil, app, LfType, pi, atom, rename_spine}
use Rattle.lf.specs.Substitution.{Image, keep, put, substitute_spine, reduce}
use Rattle.lf.specs.AtOnce.{shift_by}
use Rattle.lf.specs.Eta.{append}
use Rattle.lf.specs.Subordination.{Block}
use Rattle.lf_unification.specs.Offering.{local_arguments}
use Rattle.lf_numbered.specs.EntryConstants.{EntryConstant, entry_constant}

-- A block variable: its block, and a term for each `some` variable, the oldest first.
pub record BlockVariable : Type 0 where
  pub block : Block
  pub terms : Spine

-- their blocks
abbrev pub blocks_of : List BlockVariable → List Block
blocks_of [] = []
blocks_of (b ∷ bs) = b.block ∷ blocks_of bs

-- the `some` terms of the block variable of a number
abbrev pub terms_at : List BlockVariable → ℕ → Option Spine
terms_at [] k = None
terms_at (b ∷ bs) zero = Some b.terms
terms_at (b ∷ bs) (suc k) = terms_at bs k

abbrev pub terms_of_entry : List BlockVariable → Option EntryConstant → Option Spine
terms_of_entry bs None = None
terms_of_entry bs (Some e) = terms_at bs e.number

-- for each constant that is an entry, the `some` terms of its block variable; `first` is the first of them
abbrev pub own_terms : ℕ → List BlockVariable → ℕ → Option Spine
own_terms first bs c = terms_of_entry bs (entry_constant zero first (blocks_of bs) c)

-- the same under one more binder
abbrev pub weaken_own : Option Spine → Option Spine
weaken_own None = None
weaken_own (Some U) = Some (rename_spine suc U)

-- the arguments begin with the terms that are the constant's own, if it has any
abbrev pub BeginsWith : Option Spine → Spine → Type 0
BeginsWith None S = Unit {0}
BeginsWith (Some U) S = (T : Spine) × (S ≡ append U T)

-- Each constant with own terms stands on them, also inside of these.
abbrev mutual
  pub OnOwnTerms : (ℕ → Option Spine) → Term → Type 0
  OnOwnTerms o (lambda M) = OnOwnTerms (λ c. weaken_own (o c)) M
  OnOwnTerms o (root (constant c) S) = BeginsWith (o c) S × SpineOnOwnTerms o S
  OnOwnTerms o (root (variable i) S) = SpineOnOwnTerms o S
  OnOwnTerms o (root (metavariable m) S) = SpineOnOwnTerms o S

  pub SpineOnOwnTerms : (ℕ → Option Spine) → Spine → Type 0
  SpineOnOwnTerms o nil = Unit {0}
  SpineOnOwnTerms o (app M S) = OnOwnTerms o M × SpineOnOwnTerms o S

-- the same of a type, and of a list of terms
abbrev pub TypeOnOwnTerms : (ℕ → Option Spine) → LfType → Type 0
TypeOnOwnTerms o (pi A B) = TypeOnOwnTerms o A × TypeOnOwnTerms (λ c. weaken_own (o c)) B
TypeOnOwnTerms o (atom a S) = SpineOnOwnTerms o S

abbrev pub AllOnOwnTerms : (ℕ → Option Spine) → List (Option Term) → Type 0
AllOnOwnTerms o [] = Unit {0}
AllOnOwnTerms o (Some M ∷ Ms) = OnOwnTerms o M × AllOnOwnTerms o Ms
AllOnOwnTerms o (None ∷ Ms) = AllOnOwnTerms o Ms

-- what stands for a variable is a variable, or a term on own terms
abbrev pub ImageOnOwnTerms : (ℕ → Option Spine) → Image → Type 0
ImageOnOwnTerms o (keep i) = Unit {0}
ImageOnOwnTerms o (put a N) = OnOwnTerms o N

-- block variables with values put into their terms
abbrev pub put_in_blocks : (ℕ → Image) → List BlockVariable → List BlockVariable
put_in_blocks σ [] = []
put_in_blocks σ (b ∷ bs) = record { block = b.block; terms = substitute_spine reduce σ b.terms } ∷ put_in_blocks σ bs

-- block variables with the variables in their terms renamed
abbrev pub rename_blocks : (ℕ → ℕ) → List BlockVariable → List BlockVariable
rename_blocks ρ [] = []
rename_blocks ρ (b ∷ bs) = record { block = b.block; terms = rename_spine ρ b.terms } ∷ rename_blocks ρ bs

-- A new block variable comes last, so that each old one keeps its number and its constants. Its terms are new free variables, one for each `some`
-- variable, in front of the old free variables. They aren't raised over anything.
abbrev pub add_block : Block → List BlockVariable → List BlockVariable
add_block B bs = rename_blocks (shift_by (length B.some)) bs ++ record { block = B; terms = local_arguments B.some } ∷ []
