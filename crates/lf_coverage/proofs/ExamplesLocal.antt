-- The local context of copying under a binder is typed; the other way round it isn't.
use Rattle.std.proofs.Common.{◌≡◌, List, [], ◌∷◌, refl, sym, ◌∙◌, subst}
use Rattle.lf.specs.Syntax.{LfType, nil, app}
use Rattle.lf.specs.Typing.{IsType, SpineFitsKind}
use Rattle.lf_totality.specs.Examples.{Copying, cp, cp_kind, exp, function, var}
use Rattle.lf_coverage.specs.ExamplesLocal.{CopyLocalIsTyped}
use Rattle.lf_coverage.proofs.Parts.{some_same}

abbrev two : List LfType
two = function ∷ function ∷ []

function_typed : (G : List LfType) → IsType Copying G function
function_typed G = ((_, refl, tt), (_, refl, tt))

-- F is no exp
no_copy : IsType Copying two (cp (var 0) (var 0)) → ⊥
no_copy (K, e, s) = by (subst (SpineFitsKind Copying two (app (var 0) (app (var 0) nil))) (sym (some_same e)) s)
  where
    by : SpineFitsKind Copying two (app (var 0) (app (var 0) nil)) cp_kind → ⊥
    by ((A, g, q), t) = no (sym g ∙ q)
      where
        no : function ≡ exp → ⊥
        no e = cc

pub copy_local_is_typed : CopyLocalIsTyped
copy_local_is_typed = ((((((tt, function_typed []), function_typed (function ∷ [])), (_, refl, tt)), (cp_kind, refl, ((exp, refl, refl), ((exp, refl, refl), tt)))), λ c. no_copy (c.0.1)))
