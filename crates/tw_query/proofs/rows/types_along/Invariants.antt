use Rattle.std.proofs.Common.{◌≡◌, ◌++◌, List, drop, map}
use Rattle.lf.specs.Syntax.{LfType}
use Rattle.lf.specs.Typing.{Signature}
use Rattle.tw_terms.specs.View.{term_of, type_of}
use Rattle.tw_query.specs.Rows.{FitAlong}
use Rattle.tw_query.specs.Text.{types_along}
use Rattle.tw_query.proofs.rows.types_along.Given as goal

-- the types so far, and what the type that is left gives
abbrev pub invariant-loop-term : goal.invariant-loop-term
invariant-loop-term l = record {
  so_far : map type_of l.types.items ++ types_along (type_of l.left) (map term_of (drop l.term-index l.terms)) ≡ types_along (type_of l.fn.ty) (map term_of l.terms);
  fits : (Σ : Signature) × (F : List LfType) × FitAlong Σ F (type_of l.left) (map term_of (drop l.term-index l.terms));
}
