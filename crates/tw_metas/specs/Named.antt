-- The names and types that are handed in and out with an equation that is shown.
use Rattle.std.specs.Prelude.{ℕ, List}
use Rattle.lf.specs.Syntax.{LfType}
use Rattle.tw_terms.specs.OpenView.{open_type_of}
use Rattle.tw_terms.specs.declared.canonical.MetaId.{MetaId}
use Rattle.tw_terms.specs.declared.open_terms.OpenTy.{OpenTy}

-- a metavariable and its name
abbrev pub named_of : MetaId × List ℕ → ℕ × List ℕ
named_of n = (n.0.0, n.1)

-- the context and the type of a metavariable
abbrev pub shown_type_of : List LfType × OpenTy → List LfType × LfType
shown_type_of t = (t.0, open_type_of t.1)
