-- Worked examples of block variables as constants.
use Rattle.std.specs.Prelude.{◌≡◌, ℕ, List, [], ◌∷◌, Option, Some, None}
use Rattle.lf.specs.Syntax.{constant, Term, root, nil, app, LfType, pi, base}
use Rattle.lf.specs.Substitution.{Image, keep, put}
use Rattle.lf.specs.AtOnce.{in_front}
use Rattle.lf.specs.Variables.{everything}
use Rattle.lf.specs.Subordination.{Block}
use Rattle.lf.specs.Worlds.{World}
use Rattle.lf_cases.specs.Cover.{InstanceIn}
use Rattle.lf_totality.specs.Examples.{Copying, copy_block, cp, exp, nat, on_two, successor, var, z}
use Rattle.lf_totality.specs.ExamplesGroups.{on_one}
use Rattle.lf_totality.specs.ExamplesBlocks.{Numbered, numbered_block}
use Rattle.lf_numbered.specs.EntryConstants.{with_entries, IsFreeFrom}
use Rattle.lf_numbered.specs.OwnTerms.{BlockVariable, own_terms, OnOwnTerms, add_block}
use Rattle.lf_numbered.specs.Reading.{read, entry_reading}
use Rattle.lf_numbered.specs.NumberedCase.{NumberedCase, AreTypedVariables, IsNumberedInstance}

-- Copying declares the constants 0 to 3. A block variable of {x:exp} {u:cp x x} gives x : exp, the constant 4, and u : cp x x, the constant 5. A
-- second one gives the constants 6 and 7; and there is no other.
abbrev pub CopyEntriesHaveTypes : Type 0
CopyEntriesHaveTypes =
    let types : ℕ → Option LfType = (with_entries Copying 4 (copy_block ∷ copy_block ∷ [])).types in
    (types 4 ≡ Some exp) × (types 5 ≡ Some (cp (root (constant 4) nil) (root (constant 4) nil))) × (types 6 ≡ Some exp) × (types 7 ≡ Some (cp (root (constant 6) nil) (root (constant 6) nil))) × (types 8 ≡ None)

-- A block variable of some {n:nat} block {x:t n} {u:a n} gives x : {n:nat} t n and u : {n:nat} a n.
abbrev pub SomeEntriesHaveTypes : Type 0
SomeEntriesHaveTypes =
    let types : ℕ → Option LfType = (with_entries Numbered 4 (numbered_block ∷ [])).types in
    (types 4 ≡ Some (pi nat (on_one 1 (var 0)))) × (types 5 ≡ Some (pi nat (on_one 2 (var 0))))

-- An entry that is mentioned by a later one stands there on the `some` variables: some {n:nat} block {x:t n} {y:d n x} gives y : {n:nat} d n (x n).
abbrev pub pair_block : Block
pair_block = record { label = 98 ∷ []; some = nat ∷ []; entries = on_two 3 (var 1) (var 0) ∷ on_one 1 (var 0) ∷ [] }

abbrev pub LaterEntryHasType : Type 0
LaterEntryHasType = (with_entries Numbered 4 (pair_block ∷ [])).types 5 ≡ Some (pi nat (on_two 3 (var 0) (root (constant 4) (app (var 0) nil))))

-- b is a block variable of this block on z. Its entry x stands on z, and not on s z.
abbrev pub on_z : List BlockVariable
on_z = record { block = numbered_block; terms = app z nil } ∷ []

abbrev pub entry_on : Term → Term
entry_on M = root (constant 4) (app M nil)

abbrev pub EntryStandsOnItsTerms : Type 0
EntryStandsOnItsTerms = OnOwnTerms (own_terms 4 on_z) (entry_on z) × (OnOwnTerms (own_terms 4 on_z) (entry_on (successor z)) → ⊥) × IsFreeFrom Numbered 4

-- In the context {y:nat} {x:t z} {u:a z} with its instance b.x is x, under one more variable too.
abbrev pub instance_at : ℕ → ℕ → Image
instance_at k = in_front (keep 0) (in_front (keep 1) (λ i. put (base 0) z))

abbrev pub EntryIsRead : Type 0
EntryIsRead = (read (entry_reading 4 (numbered_block ∷ []) instance_at 0) (entry_on z) ≡ var 1) × (read (entry_reading 4 (numbered_block ∷ []) instance_at 1) (entry_on z) ≡ var 2)

-- The case cp b.x _ for a block variable b of {x:exp} {u:cp x x}: the constant 4 in place of x.
abbrev pub copy_entry_case : NumberedCase
copy_entry_case = record { blocks = record { block = copy_block; terms = nil } ∷ []; variables = []; given = []; local = []; family = 1; arguments = Some (root (constant 4) nil) ∷ None ∷ [] }

-- Its variables are typed. In the context {x:exp} {u:cp x x}, an instance of the block, the block variable stands for this instance.
abbrev pub copy_context : World Copying (copy_block ∷ []) everything (cp (var 0) (var 0) ∷ exp ∷ []) → Type 0
copy_context w = InstanceIn w copy_block keep → IsNumberedInstance w 4 copy_entry_case (λ k i. keep i) keep

abbrev pub EntryCaseIsTyped : Type 0
EntryCaseIsTyped = AreTypedVariables Copying 4 (copy_block ∷ []) copy_entry_case × ((w : World Copying (copy_block ∷ []) everything (cp (var 0) (var 0) ∷ exp ∷ [])) → copy_context w)

-- A block variable on a free variable N. One of {x:exp} {u:cp x x} that is new comes behind it and moves nothing; one of the same block comes behind
-- it on a new free variable, and N has moved.
abbrev pub on_variable : List BlockVariable
on_variable = record { block = numbered_block; terms = app (var 0) nil } ∷ []

abbrev pub NewBlockComesLast : Type 0
NewBlockComesLast = (add_block copy_block on_variable ≡ record { block = numbered_block; terms = app (var 0) nil } ∷ record { block = copy_block; terms = nil } ∷ []) × (add_block numbered_block on_variable ≡ record { block = numbered_block; terms = app (var 1) nil } ∷ record { block = numbered_block; terms = app (var 0) nil } ∷ [])
