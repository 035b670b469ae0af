-- The types of the constants that stand for the entries of block variables, as a list: a program makes it once a case,
-- and keeps it beside the signature.
use Rattle.std.specs.Prelude.{◌≡◌, ℕ, ◌+◌, ◌-◌, List, [], ◌∷◌, ◌++◌, length, Option, None, cond, nat_lt, slice_get}
use Rattle.lf.specs.Syntax.{LfType}
use Rattle.lf.specs.Typing.{Signature}
use Rattle.lf.specs.Subordination.{Block}
use Rattle.lf_coverage.specs.OrElse.{or_else}
use Rattle.lf_numbered.specs.EntryConstants.{entry_constant_type, with_entries}
use Rattle.lf_numbered.specs.NewBlock.{with_new_block}
use Rattle.lf_numbered.specs.NumberedCase.{NumberedCase}
use Rattle.lf_numbered.specs.OwnTerms.{blocks_of}

-- The type of the constant c in a list whose first type is that of the constant n. Of exp, cp 4 4 from the number 4 on,
-- 5 has the second, and 3 and 6 have none.
abbrev pub further_at : ℕ → List LfType → ℕ → Option LfType
further_at n As c = cond (nat_lt c n) None (slice_get As (c - n))

-- A signature with further constants behind it, of these types, which have the numbers from n on. What it declares
-- stays.
abbrev pub with_further : Signature → ℕ → List LfType → Signature
with_further Σ n As = record { types = λ c. or_else (Σ.types c) (further_at n As c); kinds = Σ.kinds }

-- The types of the constants of these entries of one block variable, the oldest entry first: each is closed over the
-- `some` variables O, and in it the constants of the entries before it, on these, stand in the place of these entries.
-- Those of {x:exp} {u:cp x x} are exp and cp 4 4, where 4 is the first.
abbrev pub entry_types : ℕ → List LfType → List LfType → List LfType
entry_types n O [] = []
entry_types n O (E ∷ es) = entry_types n O es ++ entry_constant_type n O es E ∷ []

-- Those of block variables of these blocks follow one another. The first of these constants is n.
abbrev pub further_types : ℕ → List Block → List LfType
further_types n [] = []
further_types n (B ∷ Bs) = entry_types n B.some B.entries ++ further_types (n + length B.entries) Bs

-- With these types behind it a signature is the one with a constant for each entry of each block variable.
abbrev pub FurtherIsWithEntries : Type 0
FurtherIsWithEntries = (Σ : Signature) (first : ℕ) (Bs : List Block) → with_further Σ first (further_types first Bs) ≡ with_entries Σ first Bs

-- A new block variable's types come behind those that are there, from the next number on.
abbrev pub NewTypesComeLast : Type 0
NewTypesComeLast = (first : ℕ) (B : Block) (C : NumberedCase) → further_types first (blocks_of (with_new_block B C).blocks) ≡ further_types first (blocks_of C.blocks) ++ entry_types (first + length (further_types first (blocks_of C.blocks))) B.some B.entries
