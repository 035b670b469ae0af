-- The laws that the functions of this crate carry.
use Rattle.std.specs.Prelude.{◌≡◌, ◌↔◌, ℕ, List, Bool, true}
use Rattle.lf.specs.Entries.{Entry, IsCanonicalSignature, signature_of}
use Rattle.lf.specs.Extension.{Extends}
use Rattle.lf.specs.Subordination.{AreTypedBlocks, Below, Block, IsDeclared, Member}
use Rattle.lf.specs.Syntax.{LfType, Term, rename, rename_type}
use Rattle.lf.specs.Typing.{HasType, Signature, TypeAt}
use Rattle.lf.specs.Variables.{FamiliesIn, IsTypedRenamingOn, target}
use Rattle.lf.specs.Worlds.{World}
use Rattle.lf_checks.specs.Below.{IsSubordination}
use Rattle.tw_subord.specs.Rows.{is_below}

-- the rows tell which family is below which
abbrev pub Tells : Signature → List Block → List (List ℕ) → Type 0
Tells Σ W rows = (a b : ℕ) → (is_below rows a b ≡ true) ↔ Below Σ W a b

-- those below a family, as a set
abbrev pub below_set : List (List ℕ) → ℕ → ℕ → Bool
below_set rows f a = is_below rows a f

-- the type is an entry of one of the blocks
abbrev pub IsEntryOf : List Block → LfType → Type 0
IsEntryOf W E = (B : Block) × Member B W × Member E B.entries

-- of blocks their entries alone matter: not their labels, their `some` variables, nor which of the blocks has an entry
abbrev pub EntriesAloneMatter : Type 0
EntriesAloneMatter = (Σ : Signature) (V W : List Block) → ((E : LfType) → IsEntryOf V E → IsEntryOf W E) → (a b : ℕ) → Below Σ V a b → Below Σ W a b

-- what the rows tell is a test of subordination: reflexive, transitive, and self-contained at each declared family
abbrev pub RowsAreSubordination : Type 0
RowsAreSubordination = (es : List Entry) → IsCanonicalSignature es → (W : List Block) → AreTypedBlocks (signature_of es) W → (rows : List (List ℕ)) → Tells (signature_of es) W rows → IsSubordination (signature_of es) W (below_set rows)

-- Strengthening. In a context of worlds, now and in each legal extension, a term whose type has families below f alone uses no variable but those whose
-- families are below f: it is typed in each context that has these.
abbrev pub TermsUseWhatIsBelow : Type 0
TermsUseWhatIsBelow = (es : List Entry) → IsCanonicalSignature es → (W : List Block) → AreTypedBlocks (signature_of es) W → (rows : List (List ℕ)) → Tells (signature_of es) W rows → (f : ℕ) → IsDeclared (signature_of es) f → (Σ : Signature) → Extends (below_set rows f) (signature_of es) Σ → (G : List LfType) → World Σ W (below_set rows f) G → (U : ℕ → Bool) → ((i : ℕ) (A : LfType) → TypeAt G i A → is_below rows (target A) f ≡ true → U i ≡ true) → (M : Term) (A : LfType) → FamiliesIn (below_set rows f) A → HasType Σ G M A → (D : List LfType) (ρ : ℕ → ℕ) → IsTypedRenamingOn U G D ρ → HasType Σ D (rename ρ M) (rename_type ρ A)
