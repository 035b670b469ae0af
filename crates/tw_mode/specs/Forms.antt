-- What the full form of a mode declaration comes to.
use Rattle.std.specs.Prelude.{◌≡◌, ℕ, List, map, Option, Some, None, Vec}
use Rattle.std.specs.Global.{Global}
use Rattle.lf.specs.Syntax.{LfType}
use Rattle.lf_checks.specs.Marks.{Mark}
use Rattle.lf_checks.specs.ModeForms.{IsFullForm, full_marks}
use Rattle.tw_clause.specs.View.{mark_of}
use Rattle.tw_clause.specs.declared.name.Mark3.{Mark3}

-- A reconstructed type, of whose quantifiers n are implicit, is a full form: all are written, and the target's arguments are their variables, each once. With
-- `foo : {N:nat} vec N -> nat -> type` it is `{N:nat} {V:vec N} {M:nat} foo N V M`; it is neither `{V:vec z} {M:nat} foo z V M` nor one whose N wasn't written.
pub record FullFormStands (n : ℕ) (U : LfType) : Type 0 where
  pub explicit : n ≡ 0
  pub form : IsFullForm U

-- the marks of the family's places, exactly where it is one
abbrev pub FullFormOutcome : ℕ → List Mark → LfType → Option (Vec Mark3 Global) → Type 0
FullFormOutcome n m U None = FullFormStands n U → ⊥
FullFormOutcome n m U (Some v) = FullFormStands n U × (map mark_of v.items ≡ full_marks m U)
