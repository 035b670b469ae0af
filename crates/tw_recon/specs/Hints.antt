-- The names by which the leading quantifiers of what is declared are shown.
use Rattle.std.specs.Prelude.{ℕ, zero, suc, List, [], ◌∷◌, Option, None, Some}
use Rattle.tw_names.specs.Texts.{hints}
use Rattle.tw_names.specs.Scope.{binder_name}
use Rattle.tw_parse.specs.Syntax.{Declaration, Term, declare, define, give, lambda, prefer}

-- of the binders of a written term
abbrev pub lambda_hints : Term → List (Option (List ℕ))
lambda_hints (lambda x at D M) = binder_name x ∷ lambda_hints M
lambda_hints _ = []

-- What the text gives: the binders of the type that is written, and of the term where none is.
abbrev pub written_hints : Declaration → List (Option (List ℕ))
written_hints (declare c at U) = hints U
written_hints (define c (Some A) M b) = hints A
written_hints (define c None M b) = lambda_hints M
written_hints (prefer a x y) = []
written_hints (give fix names) = []

-- of n quantifiers; what the text doesn't name has none
abbrev pub fitted : ℕ → List (Option (List ℕ)) → List (Option (List ℕ))
fitted zero hs = []
fitted (suc n) [] = None ∷ fitted n []
fitted (suc n) (h ∷ hs) = h ∷ fitted n hs
