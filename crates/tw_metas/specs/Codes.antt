-- The code of a story, by which a store's value may be one.
use Rattle.std.specs.Prelude.{ℕ, List, Option, refl}
use Rattle.std.specs.Coded.{Coded, code_by, coded×, coded_ℕ, coded_list, coded_option}
use Rattle.lf.specs.Syntax.{Term, LfType}
use Rattle.tw_terms.specs.Codes.{term_code, type_code}
use Rattle.lf_unification.specs.Unifiers as unifiers
use Rattle.tw_metas.specs.State.{Declaration, State, Story}

abbrev pub declaration_code : Coded Declaration
declaration_code = code_by (List LfType × LfType) (coded× (coded_list type_code) type_code) (λ d. (d.context, d.of_type)) (λ p. record { context = p.0; of_type = p.1 }) (λ d. refl)

abbrev pub equation_code : Coded unifiers.Equation
equation_code =
    code_by (List LfType × (Term × (Term × LfType))) (coded× (coded_list type_code) (coded× term_code (coded× term_code type_code)))
    (λ e. (e.local, (e.left, (e.right, e.of_type)))) (λ p. record { local = p.0; left = p.1.0; right = p.1.1.0; of_type = p.1.1.1 }) (λ e. refl)

abbrev pub state_code : Coded State
state_code =
    code_by (List Declaration × (List (Option Term) × (List ℕ × List unifiers.Equation))) (coded× (coded_list declaration_code) (coded× (coded_list (coded_option term_code)) (coded× (coded_list coded_ℕ) (coded_list equation_code))))
    (λ s. (s.declared, (s.values, (s.bound, s.equations)))) (λ p. record { declared = p.0; values = p.1.0; bound = p.1.1.0; equations = p.1.1.1 }) (λ s. refl)

abbrev pub story_code : Coded Story
story_code = code_by (State × List State) (coded× state_code (coded_list state_code)) (λ s. (s.now, s.before)) (λ p. record { now = p.0; before = p.1 }) (λ s. refl)
