-- What a declaration is written with, elaborated from nothing.
use Rattle.std.specs.Prelude.{◌≡◌, ℕ, List, [], Bool}
use Rattle.lf.specs.Entries.{Body, Entry, declare_constant, declare_definition, declare_family}
use Rattle.lf.specs.Syntax.{LfType, Skeleton}
use Rattle.lf_elaboration.specs.Elaboration.{ElaboratesType, NewFrees}
use Rattle.lf_elaboration.specs.Principal.{WrittenBody, written_constant, written_definition, written_definition_of, written_family}
use Rattle.lf_elaboration.specs.PrincipalLaws.{ElaboratesBody}
use Rattle.lf_elaboration.specs.State.{State, nothing_yet}
use Rattle.lf_elaboration.specs.Written.{Written, WrittenKind, WrittenType}
use Rattle.tw_metas.specs.State.{empty_story}
use Rattle.tw_terms.specs.OpenView.{open_term_of, open_type_of}
use Rattle.tw_elaborate.specs.Deep.{ChecksDeep, InfersDeep, KindDeep, TypeDeep}
use Rattle.tw_elaborate.specs.NewDeep.{NewFreesDeep}
use Rattle.tw_open.specs.Fresh.{OnlyDeclares}
use Rattle.tw_elaborate.specs.Unbound.{NothingBound}
use Rattle.tw_open.specs.View.{open_kind_of}
use Rattle.tw_elaborate.specs.View.{made, numbers_of}
use Rattle.tw_elaborate.specs.declared.bodies.Elaborated.{Elaborated}
use Rattle.tw_elaborate.specs.declared.bodies.OpenBody.{OpenBody}
use Rattle.tw_elaborate.specs.declared.bodies.OpenBody.TheVariants.{Constant, Definition, Family}

-- a kind, a type or a term with its type, with metavariables
abbrev pub open_body_of : OpenBody → Body
open_body_of (Family K) = declare_family (open_kind_of K)
open_body_of (Constant A) = declare_constant (open_type_of A)
open_body_of (Definition M A b) = declare_definition (open_term_of M) (open_type_of A) b

-- Free variables of these skeletons were made, and then the body. Each metavariable stands in the empty context, and none is bound.
pub record IsElaborated (es : List Entry) (ts : List Skeleton) (w : WrittenBody) (e : Elaborated) : Type 0 where
  pub with_frees : State
  pub frees_made : NewFrees es ts nothing_yet with_frees (numbers_of e.frees.items)
  pub body_made : ElaboratesBody es (numbers_of e.frees.items) w with_frees (made e.state) (open_body_of e.body)
  pub no_locals : e.state.locals ≡ []
  pub store : OnlyDeclares empty_story e.state.store
  pub unbound : NothingBound e.state.store.now

-- elaboration reaches a substitution with a term deeper than 4,096, or a type or kind that is left behind an argument and is deeper
module _ (es : List Entry) (frees : List ℕ) where
  pub data BodyDeep : WrittenBody → State → Type 0 where
    deep_family_body : {k : WrittenKind} {s : State} → KindDeep es frees [] k s → BodyDeep (written_family k) s
    deep_constant_body : {U : WrittenType} {s : State} → TypeDeep es frees [] U s → BodyDeep (written_constant U) s
    deep_definition_body : {M : Written} {b : Bool} {s : State} → InfersDeep es frees [] M s → BodyDeep (written_definition M b) s
    deep_type_body : {M : Written} {U : WrittenType} {b : Bool} {s : State} → TypeDeep es frees [] U s → BodyDeep (written_definition_of M U b) s
    deep_checked_body : {M : Written} {U : WrittenType} {A : LfType} {b : Bool} {s s' : State} → ElaboratesType es frees [] U s s' A → ChecksDeep es frees [] M A s' → BodyDeep (written_definition_of M U b) s

-- in the types of the free variables, which are made first, or behind them
module _ (es : List Entry) (ts : List Skeleton) (w : WrittenBody) where
  pub data FromNothingDeep : Type 0 where
    deep_frees : NewFreesDeep es ts nothing_yet → FromNothingDeep
    deep_behind_frees : {frees : List ℕ} {s : State} → NewFrees es ts nothing_yet s frees → BodyDeep es frees w s → FromNothingDeep
