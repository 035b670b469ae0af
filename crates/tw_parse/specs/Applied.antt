-- What is applied to arguments.
use Rattle.std.specs.Borrow.{Bor}
use Rattle.std.specs.Prelude.{List, [], ◌∷◌, map}
use Rattle.tw_parse.specs.Syntax.{Term, application}
use Rattle.tw_parse.specs.View.{term_of}
use Rattle.tw_parse.specs.declared.term.ExtTerm.{ExtTerm}

abbrev pub written_terms : List (Bor ExtTerm) → List Term
written_terms xs = map (λ x. term_of x.now) xs

-- the last argument first
abbrev pub applied_to : Term → List Term → Term
applied_to h [] = h
applied_to h (a ∷ xs) = application (applied_to h xs) a
