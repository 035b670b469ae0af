-- A full clause, and one that isn't.
use Rattle.std.proofs.Common.{◌≡◌, ℕ, List, [], ◌∷◌, refl, sym, ap, ◌∙◌, subst, arith}
use Rattle.std.specs.Prelude.{Bool, true, Some}
use Rattle.lf.specs.Syntax.{Spine, nil, app, LfType, Kind, Term, pi, atom, weaken}
use Rattle.lf.specs.Variables.{target, onto, hide}
use Rattle.lf_checks.specs.Clause.{scope}
use Rattle.lf_checks.specs.Marks.{input_places, output_places}
use Rattle.lf_totality.specs.Examples.{Addition, addition_marks, nat, plus_kind, plus_s, first_below_second, Copying, copying_marks, exp, function, cp_kind, lam, var}
use Rattle.lf_cases.specs.Full.{IsFullGoal, IsFullTerm, IsFullSpine, AreFullPlaces, AppliesToAll, own_variables}
use Rattle.lf_totality.specs.ExamplesReached.{FullClauses, cp_constant}
use Rattle.lf_totality.proofs.Addition.{s_first, plus_goal}
use Rattle.lf_totality.proofs.ExampleLemmas.{step}

none_bound : (T : ℕ → Bool) (C : List LfType) (S : Spine) → AppliesToAll T C [] S
none_bound T C S j X l g t = absurd (omega arith)

some_kind : {K L : Kind} → Some K ≡ Some L → K ≡ L
some_kind e = cc

some_type : {A B : LfType} → Some A ≡ Some B → A ≡ B
some_type e = cc

abbrev P : ℕ → Bool
P = own_variables cp_constant

abbrev C : List LfType
C = scope cp_constant

-- under x the variable E is to be applied to x
not_applied : IsFullTerm Copying first_below_second C (hide P) (exp ∷ []) (var 2) exp → ⊥
not_applied (Y, (B, (D, q, r), s), h) = h 0 exp (omega arith) refl (subst (λ X. first_below_second (target X) 0 ≡ true) (sym (s ∙ ap weaken (r ∙ ap weaken q))) refl)

not_in_places : (K : Kind) → cp_kind ≡ K → AreFullPlaces Copying first_below_second C P [] (input_places (copying_marks 1)) (app (lam (var 2)) (app (lam (var 1)) nil)) K → ⊥
not_in_places K e h = at_kind (subst (AreFullPlaces Copying first_below_second C P [] (input_places (copying_marks 1)) (app (lam (var 2)) (app (lam (var 1)) nil))) (sym e) h)
  where
    at_type : (X : LfType) → pi function exp ≡ X → IsFullSpine Copying first_below_second C P [] (app (Rattle.lf.specs.Syntax.lambda (var 2)) nil) X → ⊥
    at_type X q s = not_applied ((subst (IsFullSpine Copying first_below_second C P [] (app (Rattle.lf.specs.Syntax.lambda (var 2)) nil)) (sym q) s).0)

    at_kind : AreFullPlaces Copying first_below_second C P [] (input_places (copying_marks 1)) (app (lam (var 2)) (app (lam (var 1)) nil)) cp_kind → ⊥
    at_kind ((X, q, s), rest) = at_type X (some_type q) s

pub full_clauses : FullClauses
full_clauses = ((head, step addition_marks plus_s (λ U A. IsFullGoal Addition first_below_second (scope plus_s) (own_variables plus_s) [] (output_places (addition_marks (target A))) A) (λ U. Unit {0}) 3 0 s_first plus_goal refl (outputs, tt)), λ h. let (K, e, f) = h.0 in not_in_places K (some_kind e) f)
  where
    head : IsFullGoal Addition first_below_second (scope plus_s) (own_variables plus_s) [] (input_places (addition_marks 1)) (atom 1 (Rattle.lf.specs.Variables.target_arguments plus_s.type))
    head = (plus_kind, refl, ((pi nat nat, refl, ((nat, (nat, (nat, (nat, refl, refl), refl), refl), none_bound (first_below_second 0) (scope plus_s) nil), tt)), ((nat, (nat, (nat, refl, refl), refl), none_bound (first_below_second 0) (scope plus_s) nil), tt)))

    outputs : IsFullGoal Addition first_below_second (scope plus_s) (own_variables plus_s) [] (output_places (addition_marks 1)) plus_goal
    outputs = (plus_kind, refl, ((nat, (nat, refl, refl), none_bound (first_below_second 0) (scope plus_s) nil), tt))
