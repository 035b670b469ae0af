-- What a declaration is reconstructed to.
use Rattle.std.specs.Prelude.{◌≡◌, ℕ, zero, List, [], ◌++◌, Option, None, Some, codes, length, ◌⊎◌}
use Rattle.lf.specs.Entries.{Body, Entry, body_quantifiers, signature_of}
use Rattle.lf.specs.Syntax.{LfType, Skeleton}
use Rattle.lf_elaboration.specs.Completions.{FreeValue}
use Rattle.lf_elaboration.specs.Elaboration.{NewFrees}
use Rattle.lf_elaboration.specs.Principal.{IsPrincipal, WrittenBody, body_over}
use Rattle.lf_elaboration.specs.PrincipalLaws.{ElaboratesBody}
use Rattle.lf_elaboration.specs.SiteLaws.{total}
use Rattle.lf_elaboration.specs.Sites.{AreFreesInOrder, AreSites, spots}
use Rattle.lf_elaboration.specs.State.{State, nothing_yet, store_of}
use Rattle.lf_unification.specs.Solving.{Solved}
use Rattle.tw_approx.specs.Answer.{HasSkeletons, IsOfObjects, Rows}
use Rattle.tw_metas.specs.State as metas
use Rattle.tw_parse.specs.Syntax.{Declaration, declare, define, give, prefer}
use Rattle.tw_abstract.specs.Quantifiers.{AreQuantifiers}
use Rattle.tw_resolve.specs.Resolved.{resolved_body, skeletons_of}
use Rattle.tw_putting.specs.Whole.{IsConsistent, whole}
use Rattle.tw_recon.specs.Hints.{fitted, written_hints}
use Rattle.tw_recon.specs.Names.{AreNames, Naming, names_of, variables_of}
use Rattle.tw_recon.specs.Reading.{IsBodyReadAs}

-- the name under which it is kept; `_` isn't kept
abbrev pub name_in : Option (List ℕ) → List ℕ
name_in (Some c) = c
name_in None = codes "_"

abbrev pub declared_name : Declaration → List ℕ
declared_name (declare c at U) = c
declared_name (define c A M b) = name_in c
declared_name (prefer a x y) = codes "_"
declared_name (give fix names) = codes "_"

-- What isn't written has skeletons in just one way, with these rows for the free variables; told these and with its names resolved the declaration is written so.
pub record IsWrittenAs (es : List Entry) (d : Declaration) (rows : Rows) (w : WrittenBody) : Type 0 where
  pub objects : IsOfObjects es d
  pub omitted : List Skeleton
  pub skeletons : HasSkeletons es d rows omitted
  pub resolved : resolved_body es rows omitted d ≡ Some w

-- the free variables are made first, and the body is elaborated: to this state and this open body
pub record IsMade (es : List Entry) (ts : List Skeleton) (w : WrittenBody) (frees : List ℕ) (s : State) (b : Body) : Type 0 where
  pub with_frees : State
  pub frees_made : NewFrees es ts nothing_yet with_frees frees
  pub body_made : ElaboratesBody es frees w with_frees s b

-- The quantifiers G and their hints are read off a solved store: of the metavariables that stay free, in the order of the text, repeatedly the first whose needs stand.
-- The body b has the variable of its quantifier for each metavariable. Each quantifier has the name of the first free variable in the text that stands for it alone; `shown` are those with names, in the order of the text.
pub record AreReadOff (es : List Entry) (rows : Rows) (w : WrittenBody) (G : List LfType) (hints : List (Option (List ℕ))) (shown : List ℕ) (b : Body) : Type 0 where
  pub frees : List ℕ
  pub state : State
  pub open_body : Body
  pub made : IsMade es (skeletons_of rows) w frees state open_body
  pub after : metas.State
  pub solved : Solved (signature_of es) (store_of state) (whole [] after)
  pub consistent : IsConsistent after
  pub sites : List ℕ
  pub are_sites : AreSites es (skeletons_of rows) w sites
  pub quantifiers : List ℕ
  pub are_quantifiers : AreQuantifiers after sites quantifiers G
  pub body_read : IsBodyReadAs after quantifiers open_body b
  pub order : List ℕ
  pub in_order : AreFreesInOrder w (length rows) order
  pub naming : Naming
  pub are_names : AreNames after frees rows order naming
  pub hints_are : hints ≡ names_of naming.names quantifiers
  pub shown_are : shown ≡ variables_of quantifiers naming.firsts

-- Nothing is left out of what is written: no metavariable is made of it, and there is no quantifier.
pub record LeavesNothingOut (es : List Entry) (rows : Rows) (w : WrittenBody) (G : List LfType) (hints : List (Option (List ℕ))) (shown : List ℕ) : Type 0 where
  pub makes_none : total (spots es (skeletons_of rows) w) ≡ zero
  pub no_quantifier : G ≡ []
  pub no_hint : hints ≡ []
  pub none_shown : shown ≡ []

-- What is written is completed: these are the implicit quantifiers with their hints, if there are any, and this is the body in their scope.
pub record IsCompletedTo (es : List Entry) (rows : Rows) (w : WrittenBody) (G : List LfType) (hints : List (Option (List ℕ))) (shown : List ℕ) (b : Body) : Type 0 where
  pub frees : List FreeValue
  pub principal : IsPrincipal es (skeletons_of rows) w (record { quantifiers = G; frees = frees; body = b })
  pub in_order : LeavesNothingOut es rows w G hints shown ⊎ AreReadOff es rows w G hints shown b

-- The entry declares this body, closed over these quantifiers, which are implicit.
pub record IsEntryOf (d : Declaration) (G : List LfType) (quantifier_hints : List (Option (List ℕ))) (b : Body) (e : Entry) : Type 0 where
  pub name : e.name ≡ declared_name d
  pub body : e.body ≡ body_over G b
  pub implicit : e.implicit ≡ length G
  pub hints : e.hints ≡ quantifier_hints ++ fitted (body_quantifiers b) (written_hints d)

-- The entry is a principal completion of what is written, closed over its quantifiers.
pub record IsReconstructed (es : List Entry) (d : Declaration) (e : Entry) : Type 0 where
  pub rows : Rows
  pub written : WrittenBody
  pub is_written : IsWrittenAs es d rows written
  pub quantifiers : List LfType
  pub quantifier_hints : List (Option (List ℕ))
  pub inner : Body
  pub shown : List ℕ
  pub completed : IsCompletedTo es rows written quantifiers quantifier_hints shown inner
  pub is_entry : IsEntryOf d quantifiers quantifier_hints inner e
