-- A split by an entry's constant, and the ground instance of its answer.
use Rattle.std.proofs.Common.{◌≡◌, ℕ, zero, suc, ◌≤◌, ◌+◌, List, [], ◌∷◌, Option, Some, None, inl, refl, sym, ap, subst, arith}
use Rattle.std.specs.Prelude.{false}
use Rattle.lf.specs.Syntax.{Term, Spine, nil, LfType, base, star, skeleton}
use Rattle.lf.specs.Substitution.{keep, put, substitute_type, reduce}
use Rattle.lf.specs.Skeletons.{context_skeletons}
use Rattle.lf.specs.Typing.{ImageHasType, IsTypedSubstitution, IsSignature}
use Rattle.lf.specs.Variables.{everything}
use Rattle.lf_unification.specs.Dependency.{IsListed}
use Rattle.lf_unification.specs.OpenTyping.{DeclarationsAreTyped, OpenHasType, OpenIsType, ValueHasType, skeletons_of}
use Rattle.lf_unification.specs.PartialInstance.{IsFilling}
use Rattle.lf_unification.specs.Solving.{IsWellFormed, Solved}
use Rattle.lf_unification.specs.Steps.{Run, bind, no_step, then_run}
use Rattle.lf_unification.specs.Unifiers.{Solution, on_left}
use Rattle.lf_unification.proofs.Runs.{run_keeps_unifiers}
use Rattle.lf_totality.specs.Examples.{Copying, copying_types, copying_kinds, copy_block, cp, cp_kind, exp, var}
use Rattle.lf_totality.proofs.Copying.{copying_ok}
use Rattle.lf_coverage.specs.SplitStore.{answer_values}
use Rattle.lf_coverage.proofs.ExamplesCopyingSplit.{copy_typed}
use Rattle.lf_coverage.proofs.ExamplesUnified.{no_argument}
use Rattle.lf_coverage.proofs.Parts.{none_some, some_same}
use Rattle.lf_numbered.specs.EntryConstants.{EntryConstant, entry_constant}
use Rattle.lf_numbered.specs.ExamplesEntries.{copy_entry_case}
use Rattle.lf_numbered.specs.OwnTerms.{BlockVariable, own_terms, OnOwnTerms}
use Rattle.lf_numbered.specs.OwnValues.{ValuesOnOwnTerms}
use Rattle.lf_numbered.specs.OwnValuesAnswer.{AreValuesUnder}
use Rattle.lf_numbered.specs.OwnValuesExamplesAnswer.{CopyEntries, the_entry, only_exp, entry_equation, entry_bound, bound_order, entry_value, EntryAnswerIsInstance}
use Rattle.lf_numbered.specs.OwnValuesReading.{EntryReadsBack, ReadsBack}
use Rattle.lf_numbered.specs.Reading.{entry_reading}
use Rattle.lf_numbered.proofs.EntrySignature.{with_entries_is_signature}
use Rattle.lf_numbered.proofs.OwnValuesAnswer.{answer_is_instance}
use Rattle.lf_numbered.proofs.OwnValuesBack.{entries_are_read_as}
use Rattle.lf_numbered.proofs.OwnValuesReading.{read_back_is_typed}

no_constant : (c : ℕ) → 4 ≤ c → copying_types c ≡ None
no_constant zero h = absurd (omega (arith, h))
no_constant (suc zero) h = absurd (omega (arith, h))
no_constant (suc (suc zero)) h = absurd (omega (arith, h))
no_constant (suc (suc (suc zero))) h = absurd (omega (arith, h))
no_constant (suc (suc (suc (suc c)))) h = refl

no_family : (a : ℕ) → 4 ≤ a → copying_kinds a ≡ None
no_family zero h = absurd (omega (arith, h))
no_family (suc zero) h = absurd (omega (arith, h))
no_family (suc (suc a)) h = refl

entries_ok : IsSignature CopyEntries
entries_ok = with_entries_is_signature Copying copying_ok 4 (record { types_free = no_constant; kinds_free = no_family }) (copy_block ∷ []) copy_typed

-- the stores
exps : (m : ℕ) (A : LfType) → only_exp m ≡ Some A → exp ≡ A
exps zero A e = some_same e
exps (suc m) A e = absurd (none_some e)

module _ (U : (ℕ → Option Term) → Type 0) where
  declared : DeclarationsAreTyped CopyEntries [] only_exp U
  declared = record { outer_typed = λ i A g. absurd g; metavariables_typed = λ m A e. subst (OpenIsType CopyEntries [] only_exp U []) (exps m A e) (star, refl, tt) }

  entry_typed : OpenHasType CopyEntries [] only_exp U [] the_entry exp
  entry_typed = (exp, refl, (refl, λ β u. refl))

listed : (y : Option Term) (m : ℕ) (A : LfType) → only_exp m ≡ Some A → IsListed (record { of = 0; of_type = exp; value = y } ∷ []) m
listed y zero A e = inl refl
listed y (suc m) A e = absurd (none_some e)

before_formed : IsWellFormed CopyEntries entry_equation
before_formed = record {
  order = record { of = 0; of_type = exp; value = None } ∷ [];
  is_order = (tt, refl, (λ h. h), tt, (star, refl, tt), (λ ρ. refl), tt);
  all_listed = listed None;
  bindings_listed = tt;
  values_bound = ((λ N e. absurd (none_some e)), tt);
  typed = record {
    declarations_typed = declared (IsFilling CopyEntries [] entry_equation);
    bindings_typed = tt;
    equations_typed = (record { local_typed = tt; type_typed = λ F β p u. (base 0, refl, refl); left_typed = (exp, (exp, refl, refl), (refl, λ β u. refl)); right_typed = entry_typed (IsFilling CopyEntries [] entry_equation) }, tt);
  };
}

abbrev after_formed : IsWellFormed CopyEntries entry_bound
after_formed = record {
  order = bound_order;
  is_order = (tt, refl, (λ h. h), tt, (star, refl, tt), (λ ρ. refl), (tt, entry_typed (IsFilling CopyEntries [] entry_bound), λ ρ. refl));
  all_listed = listed (Some the_entry);
  bindings_listed = ((exp, inl refl), tt);
  values_bound = ((λ N e. inl (ap (λ X. record { of = 0; value = X }) (sym (some_same e)))), tt);
  typed = record {
    declarations_typed = declared (IsFilling CopyEntries [] entry_bound);
    bindings_typed = ((exp, refl, entry_typed (IsFilling CopyEntries [] entry_bound)), tt);
    equations_typed = tt;
  };
}

run : Run CopyEntries entry_equation entry_bound
run = then_run (bind {A = exp} on_left [] 0 [] the_entry exp refl tt no_argument (record { inverted = record { inversion = the_entry; is = refl }; reached = λ k. false; avoids = ((λ k A v e. absurd v), tt, λ v. v); within = tt })) no_step

abbrev solved : Solved CopyEntries entry_equation entry_bound
solved = record { run = run; keeps = run_keeps_unifiers CopyEntries entries_ok before_formed run; well_formed = after_formed; none_left = refl }

-- b, and the context that it is read in
abbrev b : List BlockVariable
b = record { block = copy_block; terms = nil } ∷ []

abbrev o : ℕ → Option Spine
o = own_terms 4 (record { block = copy_block; terms = nil } ∷ [])

abbrev G : List LfType
G = cp (var 0) (var 0) ∷ exp ∷ []

abbrev f : ℕ → Option (ℕ × ℕ)
f = entry_reading 4 (copy_block ∷ []) (λ k i. keep i) 0

old : (c : ℕ) (A : LfType) → Copying.types c ≡ Some A → f c ≡ None
old zero A e = refl
old (suc zero) A e = refl
old (suc (suc zero)) A e = refl
old (suc (suc (suc zero))) A e = refl
old (suc (suc (suc (suc c)))) A e = absurd (none_some e)

entries : (c : ℕ) (e : EntryConstant) → entry_constant zero 4 (copy_block ∷ []) c ≡ Some e → EntryReadsBack CopyEntries [] G (context_skeletons G) f o (λ i. i) c e
entries zero e q = absurd (none_some q)
entries (suc zero) e q = absurd (none_some q)
entries (suc (suc zero)) e q = absurd (none_some q)
entries (suc (suc (suc zero))) e q = absurd (none_some q)
entries (suc (suc (suc (suc zero)))) e q = subst (EntryReadsBack CopyEntries [] G (context_skeletons G) f o (λ i. i) 4) (some_same q) (record { terms = nil; own = refl; count = refl; variable = 1; is_read = refl; of_type = exp; typed = refl; is_type = (star, refl, tt); of_own_type = tt; in_scope = refl; stands = (exp, refl, refl) })
entries (suc (suc (suc (suc (suc zero))))) e q = subst (EntryReadsBack CopyEntries [] G (context_skeletons G) f o (λ i. i) 5) (some_same q) (record { terms = nil; own = refl; count = refl; variable = 0; is_read = refl; of_type = cp the_entry the_entry; typed = refl; is_type = (cp_kind, refl, ((exp, refl, refl), ((exp, refl, refl), tt))); of_own_type = (((nil, refl), tt), (((nil, refl), tt), tt)); in_scope = refl; stands = refl })
entries (suc (suc (suc (suc (suc (suc c)))))) e q = absurd (none_some q)

reads_back : ReadsBack Copying Copying 4 (copy_block ∷ []) [] G f o (λ i. i)
reads_back = record {
  signature = entries_ok;
  types_stay = λ c A e. e;
  kinds_stay = λ a K e. e;
  source = tt;
  on_own_terms = λ i A g. absurd g;
  target = ((tt, (star, refl, tt)), (cp_kind, refl, ((exp, refl, refl), ((exp, refl, refl), tt))));
  scope = context_skeletons G;
  inside = λ i t g. absurd g;
  fits = λ i t g. g;
  variables = λ i A g. absurd g;
  old = old;
  entries = entries;
}

-- X = b.x
solution : Solution CopyEntries [] entry_equation [] entry_value
solution = (record { context = tt; outer = λ i A g. absurd g; typed = typed }, (tt, (refl, tt)))
  where
    typed : (m : ℕ) → ValueHasType CopyEntries [] (skeletons_of only_exp) entry_value (only_exp m) (entry_value m)
    typed zero = (exp, refl, refl)
    typed (suc m) = tt

own : ValuesOnOwnTerms o only_exp entry_value
own zero A N d e = subst (OnOwnTerms o) (some_same e) ((nil, refl), tt)
own (suc m) A N d e = absurd (none_some e)

under : AreValuesUnder (exp ∷ []) 0 only_exp entry_value (λ i. put (base 0) the_entry)
under zero A e = (exp, the_entry, refl, ap skeleton (sym e), ap (λ Z. put (skeleton Z) the_entry) (sym e), refl)
under (suc i) A (C, g, e) = absurd g

answer_typed : IsTypedSubstitution CopyEntries (exp ∷ []) [] (λ i. answer_values entry_bound bound_order (i + 0))
answer_typed zero A e = subst (λ Z. ImageHasType CopyEntries [] (put (base 0) the_entry) (substitute_type reduce (λ i. answer_values entry_bound bound_order (i + 0)) Z)) (sym e) (refl, (exp, refl, refl))
answer_typed (suc i) A (C, g, e) = absurd g

none_more : (v : ℕ) → v + 0 ≡ v
none_more v = omega arith

pub entry_answer_is_instance : EntryAnswerIsInstance
entry_answer_is_instance = (
  solved,
  λ w i. answer_is_instance CopyEntries Copying entries_ok (copy_block ∷ []) (copy_block ∷ []) everything G w 4 b (λ k j. keep j) (exp ∷ []) [] f (λ j. j) o (inl refl, (keep, (λ j A g. absurd g), refl), tt, tt) (λ j. put (base 0) the_entry)
      (read_back_is_typed Copying Copying copying_ok copying_ok 4 (copy_block ∷ []) [] G f o (λ j. j) reads_back)
      (entries_are_read_as 4 (copy_block ∷ []) (λ k j. keep j) 0 (λ j. j) none_more (λ c e q. (e.place, refl)))
      (i, refl, tt) entry_equation entry_bound before_formed solved entry_value solution own 0 under copy_entry_case refl refl answer_typed (λ j A g. absurd g),
)
