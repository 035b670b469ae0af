-- Whether a declaration has a completion: said of the text, its resolved names and what is typed, and of no pass.
use Rattle.std.specs.Prelude.{◌≡◌, List, Some}
use Rattle.lf.specs.Entries.{Entry}
use Rattle.lf.specs.Syntax.{Skeleton}
use Rattle.lf_elaboration.specs.Principal.{Completion, IsCompletion, WrittenBody}
use Rattle.tw_approx.specs.Answer.{IsLoose, IsOfObjects, Rows}
use Rattle.tw_approx.specs.Ways.{AreRowsOf}
use Rattle.tw_parse.specs.Syntax.{Declaration}
use Rattle.tw_resolve.specs.Resolved.{resolved_body, skeletons_of}

-- Some skeletons of its free variables, and some list of skeletons of what else isn't written, tell how it is written, and something typed completes this.
-- `c : (nat : type)` has one, `c : vec (X z)` has one for each typed function in the place of X.
pub record HasCompletion (es : List Entry) (d : Declaration) : Type 0 where
  pub rows : Rows
  pub are_rows : AreRowsOf es d rows
  pub omitted : List Skeleton
  pub written : WrittenBody
  pub resolved : resolved_body es rows omitted d ≡ Some written
  pub completion : Completion
  pub completes : IsCompletion es (skeletons_of rows) written completion

-- A mismatch: no completion is typed. And nothing that comes before it is the matter: names are known, nothing of a wrong level stands where an object or a type is due,
-- and it isn't open. `c : (nat : nat -> type)` is one, and so is `c : vec [x] x`, where `vec : nat -> type`.
pub record IsMismatch (es : List Entry) (d : Declaration) : Type 0 where
  pub objects : IsOfObjects es d
  pub not_loose : IsLoose es d → ⊥
  pub none : HasCompletion es d → ⊥
