-- What is resolved and has skeletons fits: with the same skeletons of its free variables, and the same list of what else isn't written.
use Rattle.std.specs.Prelude.{◌≡◌, ℕ, List, Some}
use Rattle.lf.specs.Entries.{Entry}
use Rattle.lf.specs.Syntax.{Skeleton}
use Rattle.lf_elaboration.specs.BodySkeletons.{BodyHasSkeletons}
use Rattle.lf_elaboration.specs.Principal.{Completion, IsCompletion, WrittenBody}
use Rattle.tw_approx.specs.Answer.{Rows, frees_of}
use Rattle.tw_approx.specs.Names.{IsFreeVariable}
use Rattle.tw_approx.specs.Skeletons.{Fits}
use Rattle.tw_approx.specs.Ways.{AreRowsOf}
use Rattle.tw_parse.specs.Syntax.{Declaration}
use Rattle.tw_resolve.specs.Resolved.{resolved_body, skeletons_of}

abbrev pub ResolvedFits : Type 0
ResolvedFits = (es : List Entry) (d : Declaration) (rows : Rows) (o : List Skeleton) (w : WrittenBody)
    → AreRowsOf es d rows → resolved_body es rows o d ≡ Some w → BodyHasSkeletons es (skeletons_of rows) w → Fits es (frees_of rows) o d

-- With its free variables in another order, and the same skeletons of them, it is resolved as well, and has a completion where it had one.
abbrev pub OrderIsFree : Type 0
OrderIsFree = (es : List Entry) (d : Declaration) (rows others : Rows) (o : List Skeleton) (w : WrittenBody) (c : Completion)
    → AreRowsOf es d rows → AreRowsOf es d others → ((x : List ℕ) → IsFreeVariable es x d → frees_of rows x ≡ frees_of others x)
    → resolved_body es rows o d ≡ Some w → IsCompletion es (skeletons_of rows) w c
    → (v : WrittenBody) × (k : Completion) × (resolved_body es others o d ≡ Some v) × IsCompletion es (skeletons_of others) v k
