-- A clause with one variable: the entry u of a block {x:a} {u:d S}. Its variable stands for the constant of x of a block variable, so a case of this block
-- variable alone is an instance of the entry where S with this constant put in is what it has.
use Rattle.std.proofs.Common.{◌≡◌, ℕ, zero, suc, List, [], ◌∷◌, Option, Some, refl, sym, subst}
use Rattle.std.specs.Prelude.{Bool, true, false}
use Rattle.lf.specs.Syntax.{constant, Term, Spine, root, nil, LfType, atom, base}
use Rattle.lf.specs.Substitution.{Image, keep, put, substitute_spine, substitute_type, reduce}
use Rattle.lf.specs.AtOnce.{in_front}
use Rattle.lf.specs.Skeletons.{constant_skeletons}
use Rattle.lf.specs.Typing.{Signature, TypeAt, ImageHasType}
use Rattle.lf.specs.Variables.{UsesType, Values}
use Rattle.lf.specs.Subordination.{Block, Member}
use Rattle.lf_checks.specs.Clause.{Clause, entry_clause}
use Rattle.lf_checks.specs.Ground.{UsesGoal}
use Rattle.lf_cases.specs.Case.{covered_places}
use Rattle.lf_cases.specs.Cover.{before, AgreesOutside, AreTerms}
use Rattle.lf_cases.specs.Pattern.{Pattern, of_entry, head_pattern, ground_in}
use Rattle.lf_coverage.specs.Heads.{HaveSkeletons}
use Rattle.lf_coverage.specs.Leaf.{IsTypedPattern}
use Rattle.lf_coverage.specs.Matching.{ArePlaces}
use Rattle.lf_numbered.specs.EntryConstants.{with_entries}
use Rattle.lf_numbered.specs.EntryPatterns.{variable_images, IsInstanceOfPattern}
use Rattle.lf_numbered.specs.EntryPatternsRuns.{IsNumberedLeaf}
use Rattle.lf_numbered.specs.NumberedCase.{NumberedCase}
use Rattle.lf_numbered.specs.OwnTerms.{BlockVariable, own_terms, BeginsWith, ImageOnOwnTerms, AllOnOwnTerms}

abbrev pub only_first : ℕ → Bool
only_first zero = true
only_first (suc i) = false

-- the constant c for the variable, of the family a
abbrev pub one_value : ℕ → ℕ → ℕ → Image
one_value a c = in_front (put (base a) (root (constant c) nil)) keep

one_value_typed : (Σ : Signature) (a c : ℕ) → Σ.types c ≡ Some (atom a nil) → Values Σ only_first (atom a nil ∷ []) [] (one_value a c)
one_value_typed Σ a c d = record { typed = typed; closed = closed }
  where
    typed : (i : ℕ) (A : LfType) → TypeAt (atom a nil ∷ []) i A → only_first i ≡ true → ImageHasType Σ [] (one_value a c i) (substitute_type reduce (one_value a c) A)
    typed zero A e u = subst (λ B. ImageHasType Σ [] (one_value a c zero) (substitute_type reduce (one_value a c) B)) (sym e) (refl, (atom a nil, d, refl))
    typed (suc i) A g u = absurd cc

    closed : (i : ℕ) (A : LfType) → TypeAt (atom a nil ∷ []) i A → only_first i ≡ true → UsesType only_first A
    closed zero A e u = subst (UsesType only_first) (sym e) tt
    closed (suc i) A g u = absurd cc

module _ (Σ : Signature) (first : ℕ) (label : List ℕ) (a d c : ℕ) (S : Spine) (Ms : List (Option Term)) where
  abbrev pub one_block : Block
  one_block = record { label = label; some = []; entries = atom d S ∷ atom a nil ∷ [] }

  abbrev pub one_clause : Clause
  one_clause = entry_clause (record { label = label; some = []; entries = atom d S ∷ atom a nil ∷ [] }) (atom a nil ∷ []) (atom d S)

  abbrev pub one_head : Pattern
  one_head = head_pattern one_clause (of_entry one_block [] (atom d S) (atom a nil ∷ []) refl)

  abbrev pub one_variable : List BlockVariable
  one_variable = record { block = one_block; terms = nil } ∷ []

  abbrev pub one_case : NumberedCase
  one_case = record { blocks = one_variable; variables = []; given = []; local = []; family = d; arguments = Ms }

  module _ (declared : (with_entries Σ first (one_block ∷ [])).types c ≡ Some (atom a nil)) (own : own_terms first one_variable c ≡ Some nil) (stands : one_value a c zero ≡ before [] (variable_images first one_variable zero one_block nil) zero) (uses : UsesGoal only_first (covered_places Ms) (atom d S)) (strict : UsesGoal (ground_in one_head (covered_places Ms) []) (covered_places Ms) (atom d S)) (same : ArePlaces Ms (substitute_spine reduce (one_value a c) S)) where
    pub one_instance : IsInstanceOfPattern Σ first one_case one_head
    one_instance = record {
      used = only_first;
      values = one_value a c;
      typed = one_value_typed (with_entries Σ first (one_block ∷ [])) a c declared;
      on_own_terms = on_own;
      uses = uses;
      strict = strict;
      terms = terms;
      given = λ i M u e. absurd cc;
      stands = (0, nil, refl, (λ e. absurd cc), agrees);
      same = same;
    }
      where
        on_own : (i : ℕ) → only_first i ≡ true → ImageOnOwnTerms (own_terms first one_variable) (one_value a c i)
        on_own zero u = (subst (λ x. BeginsWith x nil) (sym own) (nil, refl), tt)
        on_own (suc i) u = absurd cc

        terms : AreTerms one_clause only_first (one_value a c)
        terms zero o u = tt
        terms (suc i) o u = absurd cc

        agrees : AgreesOutside one_clause (one_value a c) (before [] (variable_images first one_variable 0 one_block nil))
        agrees zero X t = stands
        agrees (suc k) X (Y, t, e) = absurd t

    pub one_leaf : (W : List Block) (ps : List Pattern) → Member one_block W → Member one_head ps → IsTypedPattern Σ one_head → HaveSkeletons (constant_skeletons (with_entries Σ first (one_block ∷ []))) [] Ms → AllOnOwnTerms (own_terms first one_variable) Ms → IsNumberedLeaf Σ first W ps one_case
    one_leaf W ps m l t s o = record {
      typed = record {
        variables = record { variables = tt; on_own_terms = λ i A g. absurd g; blocks = (m, (keep, (λ i A g. absurd g), refl), tt, tt) };
        local = tt;
        local_on_own = tt;
        given = tt;
        given_on_own = tt;
        arguments = s;
        arguments_on_own = o;
      };
      pattern = one_head;
      listed = l;
      pattern_typed = t;
      same_length = refl;
      given_own = λ i e. absurd cc;
      is_instance = one_instance;
    }
