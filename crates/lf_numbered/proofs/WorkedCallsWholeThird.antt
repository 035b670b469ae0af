-- A leaf of the worked run with candidates: f (b N') e.y, for e on b N', is an instance of f-b.
use Rattle.std.proofs.Common.{ℕ, zero, suc, [], ◌∷◌, inl, refl, sym}
use Rattle.std.specs.Prelude.{true}
use Rattle.lf.specs.Syntax.{constant, Spine, Term, root, nil, app, arrow, base, kind_pi, pi, star}
use Rattle.lf.specs.AtOnce.{in_front}
use Rattle.lf.specs.Substitution.{Image, keep, put}
use Rattle.lf.specs.Typing.{IsTypedSubstitution}
use Rattle.lf_checks.specs.Clause.{constant_clause, from_constant}
use Rattle.lf_checks.specs.Marks.{TypedPlaces}
use Rattle.lf_cases.specs.Case.{covered_places}
use Rattle.lf_cases.specs.Cover.{AreTerms}
use Rattle.lf_cases.specs.Pattern.{ground_in}
use Rattle.lf_totality.specs.Examples.{exp, var}
use Rattle.lf_totality.specs.ExamplesGroups.{on_one}
use Rattle.lf_numbered.specs.EntryConstants.{with_entries}
use Rattle.lf_numbered.specs.EntryPatterns.{IsInstanceOfPattern}
use Rattle.lf_numbered.specs.EntryTerms.{MatchesByNumber, own_values}
use Rattle.lf_numbered.specs.ExamplesNumbered.{first_block}
use Rattle.lf_numbered.specs.OwnTerms.{own_terms}
use Rattle.lf_numbered.specs.TypedNumbered.{IsTypedNumberedCase}
use Rattle.lf_numbered.specs.WorkedCallsWhole.{Whole, at_b_head, at_b_type, b_case, b_of}
use Rattle.lf_numbered.proofs.EntryTermsDecided.{numbered_head_is_decided}
use Rattle.lf_numbered.proofs.VariableTyped.{value_is_typed, variable_on_own}
use Rattle.lf_numbered.proofs.WorkedCallsStuck.{no_truth}
use Rattle.lf_numbered.proofs.WorkedCallsWholeFirst.{blocks, free, ok, worlds}

abbrev on_b : ℕ → Image
on_b = in_front (put (base 0) (b_of (var 0))) keep

on_b_typed : IsTypedSubstitution (with_entries Whole 6 (first_block ∷ [])) (exp ∷ []) (exp ∷ []) on_b
on_b_typed = value_is_typed (with_entries Whole 6 (first_block ∷ [])) exp (exp ∷ []) on_b (refl, (pi exp exp, refl, ((exp, refl, refl), refl)))

pub b_typed : IsTypedNumberedCase Whole 6 worlds b_case
b_typed = record {
  variables = record { variables = (tt, (star, refl, tt)); on_own_terms = variable_on_own (own_terms 6 b_case.blocks) 0; blocks = (inl refl, (on_b, on_b_typed, refl), ((tt, (tt, tt)), tt), tt) };
  local = (tt, (star, refl, tt));
  local_on_own = tt;
  given = tt;
  given_on_own = tt;
  arguments = ((base 0, (arrow (base 0) (base 0), refl, ((base 0, refl, refl), refl))), ((base 1, (arrow (base 0) (base 1), refl, ((arrow (base 0) (base 0), refl, ((base 0, refl, refl), refl)), refl))), tt));
  arguments_on_own = ((tt, (tt, tt)), (((nil, refl), ((tt, (tt, tt)), tt)), tt));
}

abbrev entry_on_b : Term
entry_on_b = root (constant 6) (app (b_of (var 0)) nil)

terms : AreTerms at_b_head.clause (ground_in at_b_head (covered_places b_case.arguments) b_case.given) (own_values b_case at_b_head (λ i. keep i))
terms zero o u = tt
terms (suc zero) o u = tt
terms (suc (suc i)) o u = absurd (no_truth (sym o))

b_match : MatchesByNumber 6 b_case at_b_head
b_match = (keep, refl, ((((refl, tt), tt), ((refl, tt), tt)), terms, (refl, (refl, tt))))

abbrev tuple : Spine
tuple = app (b_of (var 0)) (app entry_on_b nil)

pub b_instance : IsInstanceOfPattern Whole 6 b_case at_b_head
b_instance = (numbered_head_is_decided Whole ok worlds blocks 6 free b_case b_typed (constant_clause at_b_type) (from_constant 5 at_b_type refl) refl refl (kind_pi exp (kind_pi (on_one 1 (var 0)) star)) refl (tt, (((refl, tt), tt), tt)) tuple (refl, (refl, tt)) typed).0.1 b_match
  where
    typed : TypedPlaces (with_entries Whole 6 (first_block ∷ [])) (true ∷ true ∷ []) (exp ∷ []) tuple (kind_pi exp (kind_pi (on_one 1 (var 0)) star))
    typed = ((pi exp exp, refl, ((exp, refl, refl), refl)), ((_, refl, ((pi exp exp, refl, ((exp, refl, refl), refl)), refl)), tt))
