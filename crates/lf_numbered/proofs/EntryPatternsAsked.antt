-- The subgoal q n D of an entry as a pattern, of which the `some` variable n and the output D are asked: a case with the entry's block variable on N, whose
-- argument is M : t N, is an instance of it.
use Rattle.std.proofs.Common.{◌≡◌, ℕ, zero, suc, List, [], ◌∷◌, Some, None, inl, refl, sym, ap, ◌∙◌, subst}
use Rattle.std.specs.Prelude.{Bool, true, false}
use Rattle.lf.specs.Syntax.{nil, app, Term, LfType, Skeleton, base, rename_type}
use Rattle.lf.specs.Substitution.{Image, keep, put, substitute_type, reduce}
use Rattle.lf.specs.Typing.{Signature, TypeAt, ImageHasType, HasType}
use Rattle.lf.specs.Variables.{UsesType, Values, everything}
use Rattle.lf_checks.specs.Clause.{scope, outside}
use Rattle.lf_cases.specs.Cover.{before, AgreesOutside, AreTerms}
use Rattle.lf_cases.specs.Pattern.{given_at, is_given}
use Rattle.lf_totality.specs.Examples.{exp, var}
use Rattle.lf_totality.specs.ExamplesGroups.{on_one}
use Rattle.lf_coverage.specs.Leaf.{IsTypedPattern}
use Rattle.lf_numbered.specs.EntryConstants.{with_entries}
use Rattle.lf_numbered.specs.EntryPatterns.{variable_images, IsInstanceOfPattern}
use Rattle.lf_numbered.specs.EntryPatternsExamples.{Laters, later_worlds, asking_block, asking_clause, asked}
use Rattle.lf_numbered.specs.EntryPatternsRuns.{IsNumberedLeaf}
use Rattle.lf_numbered.specs.NumberedCase.{NumberedCase}
use Rattle.lf_numbered.specs.NumberedInstance.{block_at}
use Rattle.lf_numbered.specs.OwnTerms.{BlockVariable, blocks_of, own_terms, OnOwnTerms, ImageOnOwnTerms}
use Rattle.lf_numbered.specs.TypedNumbered.{IsTypedNumberedCase}

abbrev pub asked_used : ℕ → Bool
asked_used zero = false
asked_used (suc zero) = true
asked_used (suc (suc zero)) = true
asked_used (suc (suc (suc i))) = false

abbrev pub asked_values : Term → Term → ℕ → Image
asked_values M N zero = keep zero
asked_values M N (suc zero) = put (base 1) M
asked_values M N (suc (suc zero)) = put (base 0) N
asked_values M N (suc (suc (suc i))) = keep i

pub at_output : (A : LfType) → TypeAt (scope asking_clause) 1 A → A ≡ on_one 1 (var 2)
at_output A (B, e, f) = f ∙ ap (λ C. rename_type suc C) e

pub at_some : (A : LfType) → TypeAt (scope asking_clause) 2 A → A ≡ exp
at_some A (B, (C, e, f), g) = g ∙ ap (λ D. rename_type suc D) (f ∙ ap (λ D. rename_type suc D) e)

asked_values_typed : (Σ : Signature) (G : List LfType) (M N : Term) → HasType Σ G N exp → HasType Σ G M (on_one 1 N) → Values Σ asked_used (scope asking_clause) G (asked_values M N)
asked_values_typed Σ G M N n m = record { typed = typed; closed = closed }
  where
    Typed : ℕ → LfType → Type 0
    Typed i A = ImageHasType Σ G (asked_values M N i) (substitute_type reduce (asked_values M N) A)

    typed : (i : ℕ) (A : LfType) → TypeAt (scope asking_clause) i A → asked_used i ≡ true → ImageHasType Σ G (asked_values M N i) (substitute_type reduce (asked_values M N) A)
    typed zero A g u = absurd cc
    typed (suc zero) A g u = subst (Typed 1) (sym (at_output A g)) (refl, m)
    typed (suc (suc zero)) A g u = subst (Typed 2) (sym (at_some A g)) (refl, n)
    typed (suc (suc (suc i))) A g u = absurd cc

    closed : (i : ℕ) (A : LfType) → TypeAt (scope asking_clause) i A → asked_used i ≡ true → UsesType asked_used A
    closed zero A g u = absurd cc
    closed (suc zero) A g u = subst (UsesType asked_used) (sym (at_output A g)) ((refl, tt), tt)
    closed (suc (suc zero)) A g u = subst (UsesType asked_used) (sym (at_some A g)) tt
    closed (suc (suc (suc i))) A g u = absurd cc

module _ (bs : List BlockVariable) (V : List LfType) (M N : Term) where
  abbrev pub asked_case : NumberedCase
  asked_case = record { blocks = bs; variables = V; given = None ∷ None ∷ []; local = []; family = 2; arguments = None ∷ Some M ∷ [] }

  module _ (first_is : block_at bs zero ≡ Some (record { block = asking_block; terms = app N nil })) (n : HasType (with_entries Laters 4 (blocks_of bs)) V N exp) (m : HasType (with_entries Laters 4 (blocks_of bs)) V M (on_one 1 N)) (own_n : OnOwnTerms (own_terms 4 bs) N) (own_m : OnOwnTerms (own_terms 4 bs) M) where
    asked_instance : IsInstanceOfPattern Laters 4 asked_case asked
    asked_instance = record {
      used = asked_used;
      values = asked_values M N;
      typed = asked_values_typed (with_entries Laters 4 (blocks_of bs)) V M N n m;
      on_own_terms = own;
      uses = ((refl, tt), tt);
      strict = ((refl, tt), tt);
      terms = terms;
      given = given;
      stands = (0, app N nil, first_is, (λ e. refl), agrees);
      same = (refl, tt);
    }
      where
        own : (i : ℕ) → asked_used i ≡ true → ImageOnOwnTerms (own_terms 4 bs) (asked_values M N i)
        own zero u = absurd cc
        own (suc zero) u = own_m
        own (suc (suc zero)) u = own_n
        own (suc (suc (suc i))) u = absurd cc

        terms : AreTerms asking_clause asked_used (asked_values M N)
        terms zero o u = absurd cc
        terms (suc zero) o u = tt
        terms (suc (suc zero)) o u = tt
        terms (suc (suc (suc i))) o u = absurd cc

        given : (i : ℕ) (X : Term) → asked_used i ≡ true → given_at asked_case.given i ≡ Some X → (a : Skeleton) × (asked_values M N i ≡ put a X)
        given zero X u e = absurd cc
        given (suc zero) X u e = absurd cc
        given (suc (suc i)) X u e = absurd cc

        agrees : AgreesOutside asking_clause (asked_values M N) (before [] (variable_images 4 bs 0 asking_block (app N nil)))
        agrees zero X t = refl
        agrees (suc k) X (Y, t, e) = absurd t

    pub asked_leaf : IsTypedNumberedCase Laters 4 later_worlds asked_case → IsNumberedLeaf Laters 4 later_worlds (asked ∷ []) asked_case
    asked_leaf t = record { typed = t; pattern = asked; listed = inl refl; pattern_typed = asked_typed; same_length = refl; given_own = own; is_instance = asked_instance }
      where
        asked_typed : IsTypedPattern Laters asked
        asked_typed = record {
          outer_typed = (tt, (_, refl, tt));
          clause_typed = (((tt, (_, refl, tt)), (_, refl, ((exp, refl, refl), tt))), (_, refl, ((exp, (exp, refl, refl), refl), ((on_one 1 (var 1), refl, refl), tt))));
          type_typed = (_, refl, ((exp, (exp, (exp, refl, refl), refl), refl), ((on_one 1 (var 2), (on_one 1 (var 1), refl, refl), refl), tt)));
        }

        own : (i : ℕ) → is_given asked_case.given i ≡ true → outside asking_clause.type everything i ≡ false
        own zero e = absurd cc
        own (suc zero) e = absurd cc
        own (suc (suc i)) e = absurd cc
