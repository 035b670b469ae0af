-- How a term over entry constants is read in a context: the constant of an entry on its own terms, applied to S, is the entry's variable applied to S.
use Rattle.std.specs.Prelude.{ℕ, zero, suc, ◌+◌, List, length, Option, Some, None}
use Rattle.lf.specs.Syntax.{constant, variable, metavariable, Term, Spine, lambda, root, nil, app, LfType, pi, atom}
use Rattle.lf.specs.Substitution.{Image, keep, put}
use Rattle.lf.specs.Subordination.{Block}
use Rattle.lf_numbered.specs.EntryConstants.{EntryConstant, entry_constant}

-- the spine without its first n arguments
abbrev pub drop_arguments : ℕ → Spine → Spine
drop_arguments zero S = S
drop_arguments (suc n) nil = nil
drop_arguments (suc n) (app M S) = drop_arguments n S

-- For a constant, where it is an entry: on how many own terms it stands, and which variable it is read as. Under one more binder this is the next.
abbrev pub weaken_read : Option (ℕ × ℕ) → Option (ℕ × ℕ)
weaken_read None = None
weaken_read (Some (n, v)) = Some (n, suc v)

-- a constant and its arguments
abbrev pub read_constant : Option (ℕ × ℕ) → ℕ → Spine → Term
read_constant None c S = root (constant c) S
read_constant (Some (n, v)) c S = root (variable v) (drop_arguments n S)

abbrev mutual
  pub read : (ℕ → Option (ℕ × ℕ)) → Term → Term
  read f (lambda M) = lambda (read (λ c. weaken_read (f c)) M)
  read f (root (constant c) S) = read_constant (f c) c (read_spine f S)
  read f (root (variable i) S) = root (variable i) (read_spine f S)
  read f (root (metavariable m) S) = root (metavariable m) (read_spine f S)

  pub read_spine : (ℕ → Option (ℕ × ℕ)) → Spine → Spine
  read_spine f nil = nil
  read_spine f (app M S) = app (read f M) (read_spine f S)

-- the same in a type
abbrev pub read_type : (ℕ → Option (ℕ × ℕ)) → LfType → LfType
read_type f (pi A B) = pi (read_type f A) (read_type (λ c. weaken_read (f c)) B)
read_type f (atom a S) = atom a (read_spine f S)

-- the variable that stands for an entry, behind n further ones; an instance has a variable for each entry
abbrev pub variable_past : ℕ → Image → ℕ
variable_past n (keep v) = v + n
variable_past n (put a N) = n

abbrev pub read_entry : (ℕ → ℕ → Image) → ℕ → Option EntryConstant → Option (ℕ × ℕ)
read_entry θ n None = None
read_entry θ n (Some e) = Some (length e.block.some, variable_past n (θ e.number e.place))

-- θ gives for the number of each block variable what stands for the entries and the `some` variables of its block in a context. A term over n
-- variables is read over these and, behind them, the context.
abbrev pub entry_reading : ℕ → List Block → (ℕ → ℕ → Image) → ℕ → ℕ → Option (ℕ × ℕ)
entry_reading first Bs θ n c = read_entry θ n (entry_constant zero first Bs c)
