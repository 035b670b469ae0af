-- Worked cases by number that are stuck at an entry, under another entry or a `some` variable.
use Rattle.std.proofs.Common.{◌≡◌, ℕ, zero, suc, ◌+◌, [], ◌∷◌, inl, refl, subst}
use Rattle.std.specs.Prelude.{Some}
use Rattle.lf.specs.Syntax.{lambda, nil, app, arrow, base, pi, star}
use Rattle.lf.specs.Substitution.{Image, keep, put, substitute_spine, substitute_type, reduce}
use Rattle.lf.specs.AtOnce.{in_front}
use Rattle.lf.specs.Typing.{ImageHasType, IsTypedSubstitution}
use Rattle.lf.specs.Variables.{UsesType}
use Rattle.lf_checks.specs.Worlded.{IsTerm}
use Rattle.lf_cases.specs.Cover.{AgreesOutside, before}
use Rattle.lf_totality.specs.Examples.{var}
use Rattle.lf_coverage.proofs.Parts.{none_some, some_same}
use Rattle.lf_coverage.proofs.UsedVariables.{at_two, first_two, types_of_two}
use Rattle.lf_numbered.specs.EntryConstants.{with_entries}
use Rattle.lf_numbered.specs.EntryPatterns.{IsInstanceOfPattern, variable_images}
use Rattle.lf_numbered.specs.NumberedCallsMeeting.{HasPattern, SharesInstance}
use Rattle.lf_numbered.specs.NumberedCase.{NumberedCase}
use Rattle.lf_numbered.specs.NumberedInstance.{block_at, move_spine, moved_constant}
use Rattle.lf_numbered.specs.NumberedSplitsExamples.{Bare, exp}
use Rattle.lf_numbered.specs.OwnTerms.{BlockVariable, ImageOnOwnTerms, blocks_of, own_terms}
use Rattle.lf_numbered.specs.WorkedCallsStuck.{EntryDeterminesNothing, SomeTermsDetermineNothing, moving_block, moving_case, moving_head, taking_block, taking_case, taking_head}
use Rattle.lf_numbered.proofs.VariableTyped.{value_is_typed, variable_on_own}
use Rattle.lf_numbered.proofs.WorkedCallsStuck.{no_truth}

-- Y is [y] y, and x is b.x.
abbrev taking_outer : ℕ → Image
taking_outer = before [] (variable_images 2 taking_case.blocks 0 taking_block nil)

abbrev taking_values : ℕ → Image
taking_values = in_front (put (arrow (base 0) (base 0)) (lambda (var 0))) taking_outer

taking_has_pattern : HasPattern Bare 2 taking_case taking_head
taking_has_pattern = record {
  used = first_two;
  values = taking_values;
  typed = record {
    typed = λ i A g u. types_of_two (λ i A. ImageHasType (with_entries Bare 2 (taking_block ∷ [])) [] (taking_values i) (substitute_type reduce taking_values A)) (pi exp exp) exp (refl, (exp, refl, refl)) (refl, (exp, refl, refl)) i A g;
    closed = λ i A g u. types_of_two (λ i A. UsesType first_two A) (pi exp exp) exp (tt, tt) tt i A g;
  };
  on_own_terms = at_two (λ i. ImageOnOwnTerms (own_terms 2 taking_case.blocks) (taking_values i)) tt ((nil, refl), tt);
  uses = ((refl, ((refl, tt), tt)), tt);
  terms = λ i o u. at_two (λ j. IsTerm (taking_values j)) tt tt i u;
  given = λ j M u e. absurd (none_some e);
  stands = (0, nil, refl, (λ e. absurd cc), agrees);
  same = (refl, tt);
}
  where
    agrees : AgreesOutside taking_head.clause taking_values taking_outer
    agrees zero X t = refl
    agrees (suc k) X (Y, t, e) = absurd t

-- each block variable is itself
abbrev itself : NumberedCase → (ℕ → Image) → ℕ → BlockVariable → Type 0
itself C σ k b = block_at C.blocks k ≡ Some (record { block = b.block; terms = substitute_spine reduce σ (move_spine (moved_constant 2 (blocks_of C.blocks) (blocks_of C.blocks) (λ j. j)) b.terms) })

taking_shares : SharesInstance Bare 2 (taking_block ∷ []) taking_case taking_head
taking_shares = record {
  common = taking_case;
  typed_variables = record { variables = tt; on_own_terms = λ i A g. absurd g; blocks = (inl refl, (keep, (λ i A g. absurd g), refl), tt, tt) };
  numbers = λ k. k;
  zeroth = refl;
  values = λ i. keep (i + 0);
  of_case = record { is_instance = record { blocks = same; values = refl }; family = refl; given = refl; local = refl; arguments = refl };
  of_pattern = taking_has_pattern;
}
  where
    same : (k : ℕ) (b : BlockVariable) → block_at taking_case.blocks k ≡ Some b → itself taking_case (λ i. keep (i + 0)) k b
    same zero b e = subst (itself taking_case (λ i. keep (i + 0)) zero) (some_same e) refl
    same (suc k) b e = absurd (none_some e)

taking_is_none : IsInstanceOfPattern Bare 2 taking_case taking_head → ⊥
taking_is_none i = no_truth (i.strict.0.0)

pub entry_determines_nothing : EntryDeterminesNothing
entry_determines_nothing = ((taking_is_none, inl taking_shares, refl), λ a. a.no_instance taking_shares)

-- Z is N, and f is [x] x.
abbrev moving_outer : ℕ → Image
moving_outer = before [] (variable_images 2 moving_case.blocks 0 moving_block (app (lambda (var 0)) nil))

abbrev moving_values : ℕ → Image
moving_values = in_front (put (base 0) (var 0)) moving_outer

moving_has_pattern : HasPattern Bare 2 moving_case moving_head
moving_has_pattern = record {
  used = first_two;
  values = moving_values;
  typed = record {
    typed = λ i A g u. types_of_two (λ i A. ImageHasType (with_entries Bare 2 (moving_block ∷ [])) (exp ∷ []) (moving_values i) (substitute_type reduce moving_values A)) exp (pi exp exp) (refl, (exp, refl, refl)) (refl, (exp, refl, refl)) i A g;
    closed = λ i A g u. types_of_two (λ i A. UsesType first_two A) exp (pi exp exp) tt (tt, tt) i A g;
  };
  on_own_terms = at_two (λ i. ImageOnOwnTerms (own_terms 2 moving_case.blocks) (moving_values i)) tt tt;
  uses = ((refl, ((refl, tt), tt)), tt);
  terms = λ i o u. at_two (λ j. IsTerm (moving_values j)) tt tt i u;
  given = λ j M u e. absurd (none_some e);
  stands = (0, app (lambda (var 0)) nil, refl, (λ e. absurd cc), agrees);
  same = (refl, tt);
}
  where
    agrees : AgreesOutside moving_head.clause moving_values moving_outer
    agrees zero X t = refl
    agrees (suc k) X (Y, t, e) = absurd t

abbrev moving_stays : ℕ → Image
moving_stays = in_front (put (base 0) (var 0)) (λ i. keep (i + 1))

some_typed : IsTypedSubstitution (with_entries Bare 2 (moving_block ∷ [])) (pi exp exp ∷ []) (exp ∷ []) moving_outer
some_typed = value_is_typed (with_entries Bare 2 (moving_block ∷ [])) (pi exp exp) (exp ∷ []) moving_outer (refl, (exp, refl, refl))

moving_shares : SharesInstance Bare 2 (moving_block ∷ []) moving_case moving_head
moving_shares = record {
  common = moving_case;
  typed_variables = record { variables = (tt, (star, refl, tt)); on_own_terms = variable_on_own (own_terms 2 moving_case.blocks) 0; blocks = (inl refl, (moving_outer, some_typed, refl), (tt, tt), tt) };
  numbers = λ k. k;
  zeroth = refl;
  values = moving_stays;
  of_case = record { is_instance = record { blocks = same; values = (var 0, (λ i. keep (i + 1)), refl, (exp, refl, refl), tt, refl) }; family = refl; given = refl; local = refl; arguments = refl };
  of_pattern = moving_has_pattern;
}
  where
    same : (k : ℕ) (b : BlockVariable) → block_at moving_case.blocks k ≡ Some b → itself moving_case moving_stays k b
    same zero b e = subst (itself moving_case moving_stays zero) (some_same e) refl
    same (suc k) b e = absurd (none_some e)

moving_is_none : IsInstanceOfPattern Bare 2 moving_case moving_head → ⊥
moving_is_none i = no_truth (i.strict.0.1.0.0)

pub some_terms_determine_nothing : SomeTermsDetermineNothing
some_terms_determine_nothing = ((moving_is_none, inl moving_shares, refl), λ a. a.no_instance moving_shares)
