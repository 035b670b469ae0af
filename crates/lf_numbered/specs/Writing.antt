-- Writing, the other way than reading: in the context of a ground instance the variable of an entry that a block variable stands for is written as the
-- entry's constant. So terms of the context become terms over entry constants, as those of the case are, in a context without these variables.
use Rattle.std.specs.Prelude.{◌≡◌, ℕ, zero, suc, ◌+◌, ◌<◌, ◌≤◌, ◌⊎◌, List, length, Some, None}
use Rattle.lf.specs.Syntax.{constant, Term, LfType, skeleton, rename, rename_type}
use Rattle.lf.specs.Substitution.{Image, keep, put, substitute_spine, reduce}
use Rattle.lf.specs.Eta.{eta_expand}
use Rattle.lf.specs.Typing.{Signature, TypeAt, IsTypedSubstitution, IsContext}
use Rattle.lf.specs.Subordination.{Block}
use Rattle.lf_cases.specs.Case.{behind_entries}
use Rattle.lf_numbered.specs.EntryConstants.{EntryConstant, entry_constant, with_entries}
use Rattle.lf_numbered.specs.NumberedCase.{some_spine}
use Rattle.lf_numbered.specs.Reading.{read, read_type, entry_reading}

-- None of the n numbers from `first` on is a constant.
abbrev pub IsFreeBetween : Signature → ℕ → ℕ → Type 0
IsFreeBetween Σ first n = (c : ℕ) → first ≤ c → c < first + n → Σ.types c ≡ None

-- The variable v is an entry of an instance that θ gives.
abbrev pub IsEntryVariable : ℕ → List Block → (ℕ → ℕ → Image) → ℕ → Type 0
IsEntryVariable first Bs θ v = (c : ℕ) × (e : EntryConstant) × (entry_constant zero first Bs c ≡ Some e) × (θ e.number e.place ≡ keep v)

-- F is the context G without the entries of the instances that θ gives, and ρ writes terms of G over F. What it writes for an entry is the entry's
-- constant, eta-long, on the instance's `some` terms, written so too. Each other variable stays, and `back` says which variable of G it was.
pub record IsWriting (Σ : Signature) (first : ℕ) (Bs : List Block) (θ : ℕ → ℕ → Image) (G F : List LfType) (ρ : ℕ → Image) (back : ℕ → ℕ) : Type 0 where
  pub context : IsContext (with_entries Σ first Bs) F
  pub typed : IsTypedSubstitution (with_entries Σ first Bs) G F ρ
  pub entries : (c : ℕ) (e : EntryConstant) → entry_constant zero first Bs c ≡ Some e → (v : ℕ) → θ e.number e.place ≡ keep v → ρ v ≡ put (skeleton e.entry) (eta_expand (skeleton e.entry) (constant c) (substitute_spine reduce ρ (some_spine e.block.some (behind_entries e.block.entries (θ e.number)))))
  pub others : (v : ℕ) (A : LfType) → TypeAt G v A → IsEntryVariable first Bs θ v ⊎ ((u : ℕ) × (ρ v ≡ keep u) × (back u ≡ v))
  pub all : (u : ℕ) (B : LfType) → TypeAt F u B → (A : LfType) × TypeAt G (back u) A × (ρ (back u) ≡ keep u)

-- the variables of F, in front of those of G, as variables of G
abbrev pub back_over : ℕ → (ℕ → ℕ) → ℕ → ℕ
back_over zero back i = i
back_over (suc n) back zero = back zero
back_over (suc n) back (suc i) = back_over n (λ j. back (suc j)) i

-- A term over entry constants in F is read back in G: each constant of an entry as the entry's variable.
abbrev pub read_back : ℕ → List Block → (ℕ → ℕ → Image) → List LfType → (ℕ → ℕ) → Term → Term
read_back first Bs θ F back M = rename (back_over (length F) back) (read (entry_reading first Bs θ (length F)) M)

abbrev pub read_type_back : ℕ → List Block → (ℕ → ℕ → Image) → List LfType → (ℕ → ℕ) → LfType → LfType
read_type_back first Bs θ F back A = rename_type (back_over (length F) back) (read_type (entry_reading first Bs θ (length F)) A)
