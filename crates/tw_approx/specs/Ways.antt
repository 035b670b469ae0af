-- In how many ways a declaration has skeletons: the ways exclude one another, and where there is one, nothing else is the matter.
use Rattle.std.specs.Prelude.{List, ℕ}
use Rattle.lf.specs.Entries.{Entry}
use Rattle.lf.specs.Syntax.{Skeleton}
use Rattle.tw_approx.specs.Answer.{AreDistinct, HasRow, HasSkeletons, IsClash, IsLoose, IsOfObjects, Rows}
use Rattle.tw_approx.specs.Names.{IsFreeVariable}
use Rattle.tw_approx.specs.Skeletons.{Fits, Frees}
use Rattle.tw_parse.specs.Syntax.{Declaration}

-- The rows are those of the free variables of the declaration: each has one, and no other name has any.
pub record AreRowsOf (es : List Entry) (d : Declaration) (rows : Rows) : Type 0 where
  pub row_is_free : (x : List ℕ) → HasRow x rows → IsFreeVariable es x d
  pub free_has_row : (x : List ℕ) → IsFreeVariable es x d → HasRow x rows
  pub distinct : AreDistinct rows

-- What has skeletons in one way has them in no two, and not in none; nor has what has them in two.
abbrev pub WaysExcludeOneAnother : Type 0
WaysExcludeOneAnother = (es : List Entry) (d : Declaration) (rows : Rows) (o : List Skeleton)
    → (HasSkeletons es d rows o → IsLoose es d → ⊥) × (HasSkeletons es d rows o → IsClash es d → ⊥) × (IsLoose es d → IsClash es d → ⊥)

-- What fits has no unknown name, and nothing at the level of types that can't stand there.
abbrev pub WhatFitsIsOfObjects : Type 0
WhatFitsIsOfObjects = (es : List Entry) (d : Declaration) (f : Frees) (o : List Skeleton) → Fits es f o d → IsOfObjects es d
