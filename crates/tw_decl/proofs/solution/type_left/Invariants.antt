use Rattle.std.proofs.Common.{◌≡◌, List, drop, map}
use Rattle.lf.specs.Syntax.{LfType}
use Rattle.lf.specs.Typing.{Signature}
use Rattle.tw_terms.specs.View.{term_of, type_of}
use Rattle.tw_query.specs.Rows.{FitAlong}
use Rattle.tw_decl.specs.SearchSteps.{type_left}
use Rattle.tw_decl.proofs.solution.type_left.Given as goal

-- what is left so far, and of the rest
abbrev pub invariant-loop-term : goal.invariant-loop-term
invariant-loop-term l = record {
  so_far : type_left (type_of l.left) (map term_of (drop l.term-index l.terms)) ≡ type_left (type_of l.fn.ty) (map term_of l.terms);
  fits : (Σ : Signature) × (F : List LfType) × FitAlong Σ F (type_of l.left) (map term_of (drop l.term-index l.terms));
}
