-- Block variables as constants. A block variable stands for one instance of its block in a context that isn't known yet. Over a signature with a
-- constant for each of its entries, a case with block variables is a case without any, and its unification runs as in the empty world: entries are
-- rigid, and those of different block variables are different constants. A block variable has a number, its place in the list of block variables,
-- the oldest first; a split puts a new one at the end, so no number changes.
use Rattle.std.specs.Prelude.{◌≡◌, ℕ, zero, suc, ◌+◌, ◌≤◌, List, [], ◌∷◌, length, Option, Some, None, cond}
use Rattle.lf.specs.Syntax.{constant, Spine, LfType, skeleton}
use Rattle.lf.specs.Substitution.{Image, keep, put, substitute_type, reduce}
use Rattle.lf.specs.AtOnce.{in_front}
use Rattle.lf.specs.Eta.{eta_expand}
use Rattle.lf.specs.Typing.{Signature}
use Rattle.lf.specs.Variables.{same_number}
use Rattle.lf.specs.Subordination.{Block}
use Rattle.lf_unification.specs.Offering.{pi_over, local_arguments}
use Rattle.lf_coverage.specs.OrElse.{or_else}

-- A constant that is an entry: of which block variable, with its block; the number of the block variable's first constant; how many entries of the
-- block stand after it; the entry; and those before it.
pub record EntryConstant : Type 0 where
  pub number : ℕ
  pub block : Block
  pub from : ℕ
  pub place : ℕ
  pub entry : LfType
  pub before : List LfType

-- the constant c among the entries of one block variable, where p of its entries stand after these
abbrev pub entry_among : ℕ → Block → ℕ → ℕ → List LfType → ℕ → Option EntryConstant
entry_among k B n p [] c = None
entry_among k B n p (E ∷ es) c = cond (same_number c (n + length es)) (Some (record { number = k; block = B; from = n; place = p; entry = E; before = es })) (entry_among k B n (suc p) es c)

-- The constant c as an entry of block variables of these blocks: the first of them has the number k, and its first constant is n. The entries of a
-- block variable have successive numbers, in their order, and behind them come those of the next.
abbrev pub entry_constant : ℕ → ℕ → List Block → ℕ → Option EntryConstant
entry_constant k n [] c = None
entry_constant k n (B ∷ Bs) c = or_else (entry_among k B n zero B.entries c) (entry_constant (suc k) (n + length B.entries) Bs c)

-- What stands for these entries of a block variable, whose first constant is n: each is its constant on the terms U, and, where it is a function,
-- eta-long. υ stands for the `some` variables.
abbrev pub entry_images : ℕ → Spine → List LfType → (ℕ → Image) → ℕ → Image
entry_images n U [] υ = υ
entry_images n U (E ∷ es) υ = in_front (put (skeleton E) (eta_expand (skeleton E) (constant (n + length es)) U)) (entry_images n U es υ)

-- The type of the constant of the entry E, which stands behind the entries es: E closed over the `some` variables, with the constants of es on these
-- in place of es.
abbrev pub entry_constant_type : ℕ → List LfType → List LfType → LfType → LfType
entry_constant_type n O es E = pi_over O (substitute_type reduce (entry_images n (local_arguments O) es keep) E)

abbrev pub entry_type : Option EntryConstant → Option LfType
entry_type None = None
entry_type (Some e) = Some (entry_constant_type e.from e.block.some e.before e.entry)

-- The signature with a constant for each entry of each block variable, from the number `first` on. What Σ declares stays, so `first` must be free: Σ is
-- the signature that the case was made in, never an extension.
abbrev pub with_entries : Signature → ℕ → List Block → Signature
with_entries Σ first Bs = record { types = λ c. or_else (Σ.types c) (entry_type (entry_constant zero first Bs c)); kinds = Σ.kinds }

-- No constant and no family has a number from `first` on.
pub record IsFreeFrom (Σ : Signature) (first : ℕ) : Type 0 where
  pub types_free : (c : ℕ) → first ≤ c → Σ.types c ≡ None
  pub kinds_free : (a : ℕ) → first ≤ a → Σ.kinds a ≡ None
