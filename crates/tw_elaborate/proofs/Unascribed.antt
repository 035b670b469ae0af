-- A type with kinds `type` behind it is elaborated as it is without them.
use Rattle.std.proofs.Common.{ℕ, List}
use Rattle.lf.specs.Entries.{Entry}
use Rattle.lf.specs.Syntax.{LfType}
use Rattle.lf_elaboration.specs.Elaboration.{ElaboratesType, at_type_ascribed}
use Rattle.lf_elaboration.specs.State.{State}
use Rattle.lf_elaboration.specs.Written.{WrittenType}
use Rattle.tw_elaborate.specs.Deep.{TypeDeep, deep_type_ascribed}
use Rattle.tw_elaborate.specs.Unascribed.{IsUnascribed, nothing_ascribed, one_ascribed}

module _ (es : List Entry) (ns : List ℕ) (D : List LfType) where
  pub unascribed_elaborated : {U V : WrittenType} {s s' : State} {A : LfType} → IsUnascribed U V → ElaboratesType es ns D V s s' A → ElaboratesType es ns D U s s' A
  unascribed_elaborated nothing_ascribed i = i
  unascribed_elaborated (one_ascribed k) i = unascribed_elaborated k (at_type_ascribed i)

  pub unascribed_deep : {U V : WrittenType} {s : State} → IsUnascribed U V → TypeDeep es ns D V s → TypeDeep es ns D U s
  unascribed_deep nothing_ascribed d = d
  unascribed_deep (one_ascribed k) d = unascribed_deep k (deep_type_ascribed d)
