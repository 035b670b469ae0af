-- The worked run: what the split gives is an instance of the entry u of its block variable.
use Rattle.std.proofs.Common.{◌≡◌, ℕ, zero, suc, [], ◌∷◌, inl, inr, refl, sym, ap, ◌∙◌, subst, true≢false}
use Rattle.std.specs.Prelude.{Bool, true}
use Rattle.lf.specs.Syntax.{nil, app, LfType, pi, kind_pi, star, weaken}
use Rattle.lf.specs.Substitution.{Image, substitute_type, reduce}
use Rattle.lf.specs.Typing.{TypeAt, ImageHasType, IsContext}
use Rattle.lf.specs.Variables.{binders, FamiliesIn, KindFamiliesIn, UsesType, Values, same_number, target}
use Rattle.lf.specs.Subordination.{Block, Member, SelfContained, IsDeclared}
use Rattle.lf_checks.specs.Clause.{scope}
use Rattle.lf_checks.specs.Worlded.{IsTerm}
use Rattle.lf_cases.specs.Cover.{before}
use Rattle.lf_cases.specs.Pattern.{Pattern}
use Rattle.lf_cases.specs.Split.{at_leaf, by_split, no_case, next_case, Ends}
use Rattle.lf_coverage.specs.Leaf.{IsTypedPattern}
use Rattle.lf_numbered.specs.EntryConstants.{with_entries}
use Rattle.lf_numbered.specs.EntryPatterns.{variable_images, IsInstanceOfPattern}
use Rattle.lf_numbered.specs.EntryPatternsRuns.{IsNumberedLeaf}
use Rattle.lf_numbered.specs.NumberedCandidatesExamples.{tp, Judged, judged_block, judged_clause, judged_head, judged_entry, judged_goal, SomeTypeIsOutside, JudgedIsCovered}
use Rattle.lf_numbered.specs.NumberedSplitsExamples.{exp, has}
use Rattle.lf_totality.specs.Examples.{var}
use Rattle.lf_coverage.specs.SplitStore.{AllFamiliesIn}
use Rattle.lf_coverage.proofs.Parts.{none_some, some_same}
use Rattle.lf_coverage.proofs.UsedVariables.{at_one, types_at_one}
use Rattle.lf_numbered.specs.NumberedCandidatesRuns.{UnifiesCandidate}
use Rattle.lf_numbered.specs.OwnTerms.{own_terms, ImageOnOwnTerms}
use Rattle.lf_numbered.proofs.NumberedCandidatesExamples.{entry_case_typed, judged_unified}
use Rattle.lf_numbered.proofs.NumberedCandidatesExamplesOffer.{blocks_typed, free, judged_ok, worlds}
use Rattle.lf_numbered.proofs.NumberedCandidatesGoals.{numbered_candidate_run_covers_inputs}

abbrev values : ℕ → Image
values = before [] (variable_images 4 judged_entry.blocks 0 judged_block (app (var 0) nil))

values_typed : Values (with_entries Judged 4 worlds) (same_number 1) (scope judged_clause) (tp ∷ []) values
values_typed = record {
  typed = types_at_one 1 (λ i A. ImageHasType (with_entries Judged 4 worlds) (tp ∷ []) (values i) (substitute_type reduce values A)) (scope judged_clause) exp exp_at (refl, (pi tp exp, refl, ((tp, refl, refl), refl)));
  closed = types_at_one 1 (λ i A. UsesType (same_number 1) A) (scope judged_clause) exp exp_at tt;
}
  where
    exp_at : (A : LfType) → TypeAt (scope judged_clause) 1 A → A ≡ exp
    exp_at A (B, g, e) = e ∙ ap weaken g

is_instance : IsInstanceOfPattern Judged 4 judged_entry judged_head
is_instance = record {
  used = same_number 1;
  values = values;
  typed = values_typed;
  on_own_terms = at_one 1 (λ i. ImageOnOwnTerms (own_terms 4 judged_entry.blocks) (values i)) ((nil, refl), (tt, tt));
  uses = ((refl, tt), tt);
  strict = ((refl, tt), tt);
  terms = λ i o u. at_one 1 (λ j. IsTerm (values j)) tt i u;
  given = λ i M u e. absurd cc;
  stands = (0, app (var 0) nil, refl, (λ e. absurd cc), λ k X t. refl);
  same = (refl, tt);
}

pattern_typed : IsTypedPattern Judged judged_head
pattern_typed = record { outer_typed = context; clause_typed = context; type_typed = (kind_pi exp star, refl, ((exp, (exp, refl, refl), refl), tt)) }
  where
    context : IsContext Judged (scope judged_clause)
    context = (((tt, (star, refl, tt)), (star, refl, tt)), (kind_pi exp (kind_pi tp star), refl, ((exp, refl, refl), ((tp, (tp, refl, refl), refl), tt))))

judged_leaf : IsNumberedLeaf Judged 4 worlds (judged_head ∷ []) judged_entry
judged_leaf = record {
  typed = entry_case_typed;
  pattern = judged_head;
  listed = inl refl;
  pattern_typed = pattern_typed;
  same_length = refl;
  given_own = λ i e. absurd cc;
  is_instance = is_instance;
}

-- {x:exp} q x, a closed type of the family
closed_entry : LfType
closed_entry = pi exp (has (var 0))

judged_run : (below : ℕ → ℕ → Bool) → Ends (IsNumberedLeaf Judged 4 worlds (judged_head ∷ [])) (UnifiesCandidate Judged 4 worlds below (judged_head ∷ [])) judged_goal
judged_run below = by_split (judged_entry ∷ []) (0, judged_head, inl refl, inl refl, judged_unified below) (next_case (at_leaf judged_leaf) no_case)

pub judged_is_covered : JudgedIsCovered
unfolding closed_entry
judged_is_covered below test =
    let (n, i) = numbered_candidate_run_covers_inputs Judged judged_ok worlds blocks_typed below test 4 free (judged_head ∷ []) heads 1 (true ∷ []) (kind_pi exp star) refl (tt, tt) closed_entry ((star, refl, tt), (kind_pi exp star, refl, ((exp, refl, refl), tt))) refl (judged_run below) in
    (judged_run below, n, i)
  where
    heads : (p : Pattern) → Member p (judged_head ∷ []) → binders [] p.type ≡ []
    heads p (inl e) = ap (λ (r : Pattern). binders [] r.type) e
    heads p (inr m) = absurd m

pub some_type_is_outside : SomeTypeIsOutside
some_type_is_outside = (record { self_contained = contained; kind = kind_pi exp star; of_family = refl; places = (refl, tt); locals = tt }, λ h. outside (h judged_block (inl refl)))
  where
    outside : AllFamiliesIn (same_number 0) judged_block.some → ⊥
    outside (e, t) = cc

    only : (a : ℕ) → same_number 0 a ≡ true → a ≡ 0
    only zero e = refl
    only (suc a) e = absurd (true≢false (sym e))

    entries : (B : Block) (E : LfType) → B ≡ judged_block → Member E B.entries → same_number 0 (target E) ≡ true → FamiliesIn (same_number 0) E
    entries B E e m t = by E (subst (λ (D : Block). Member E D.entries) e m) t
      where
        by : (E : LfType) → Member E judged_block.entries → same_number 0 (target E) ≡ true → FamiliesIn (same_number 0) E
        by E (inl e) t = absurd (true≢false (sym t ∙ ap (λ A. same_number 0 (target A)) e))
        by E (inr (inl e)) t = absurd (true≢false (sym t ∙ ap (λ A. same_number 0 (target A)) e))
        by E (inr (inr (inl e))) t = subst (FamiliesIn (same_number 0)) (sym e) refl
        by E (inr (inr (inr m))) t = absurd m

    contained : SelfContained Judged worlds (same_number 0)
    contained = record {
      declared = λ a e. subst (IsDeclared Judged) (sym (only a e)) (star, refl);
      kinds_in = λ a K k e. subst (KindFamiliesIn (same_number 0)) (some_same (ap Judged.kinds (sym (only a e)) ∙ k)) tt;
      types_in = λ c A k e. absurd (none_some k);
      entries_in = entries_of;
    }
      where
        entries_of : (B : Block) (E : LfType) → Member B worlds → Member E B.entries → same_number 0 (target E) ≡ true → FamiliesIn (same_number 0) E
        entries_of B E (inl e) m t = entries B E e m t
        entries_of B E (inr i) m t = absurd i
