-- A leaf by a block entry, and a leaf of outputs.
use Rattle.std.proofs.Common.{◌≡◌, ℕ, zero, suc, List, [], ◌∷◌, inl, inr, refl, sym, ap, subst}
use Rattle.std.specs.Prelude.{Bool, true, false}
use Rattle.lf.specs.Syntax.{Term, LfType, nil, app, base, skeleton}
use Rattle.lf.specs.AtOnce.{in_front}
use Rattle.lf.specs.Substitution.{Image, keep, put, substitute, substitute_type, reduce}
use Rattle.lf.specs.Typing.{TypeAt, ImageHasType, HasType}
use Rattle.lf.specs.Variables.{Values, UsesType, everything}
use Rattle.lf.specs.Subordination.{AreTypedBlocks, IsTypedBlock}
use Rattle.lf.proofs.Decidability.{variable_type_unique}
use Rattle.lf_checks.specs.Clause.{scope, outside, from_constant, from_entry}
use Rattle.lf_checks.specs.Ground.{ground_after}
use Rattle.lf_cases.specs.Cover.{AreTerms}
use Rattle.lf_cases.specs.Case.{as_term}
use Rattle.lf_cases.specs.Pattern.{of_entry, head_pattern, is_given, HasGiven}
use Rattle.lf_cases.specs.Missing.{CommonInstance}
use Rattle.lf_cases.specs.Split.{at_leaf}
use Rattle.lf_cases.specs.Reached.{LeavesAll}
use Rattle.lf_totality.specs.Examples.{Addition, Copying, addition_marks, cp_kind, copy_block, copy_entry, copy_heads, block_case, exp, cp, var, nat, plus_kind, plus_s, plus_output_case, first_below_second}
use Rattle.lf_totality.proofs.Addition.{addition_ok, s_first}
use Rattle.lf_totality.proofs.Copying.{copying_ok}
use Rattle.lf_totality.proofs.ExamplesSplits.{entry_instance}
use Rattle.lf_coverage.specs.Leaf.{IsInstanceLeaf}
use Rattle.lf_coverage.specs.ExamplesLeaves.{EntryIsLeaf, GoalIsOutputLeaf, plus_asked}
use Rattle.lf_coverage.proofs.Examples.{plus_subordination}
use Rattle.lf_coverage.proofs.Leaves.{leaf_is_instance, leaves_cover, head_is_typed, subgoal_is_typed}
use Rattle.lf_coverage.proofs.Parts.{some_same}

-- cp x _
copy_typed : AreTypedBlocks Copying (copy_block ∷ [])
copy_typed B (inl e) = subst (IsTypedBlock Copying) (sym e) ((tt, (_, refl, tt)), (cp_kind, refl, ((exp, refl, refl), ((exp, refl, refl), tt))))
copy_typed B (inr m) = absurd m

entry_leaf : IsInstanceLeaf Copying (copy_block ∷ []) copy_heads block_case
entry_leaf = record {
  typed = record { items = (tt, inl refl, record { typed = λ i A g u. absurd g; closed = λ i A g u. absurd g }); given = tt; arguments = ((base 0, (base 0, refl, refl)), tt) };
  pattern = head_pattern copy_entry (of_entry copy_block [] (cp (var 0) (var 0)) (exp ∷ []) refl);
  listed = inr (inr (inl refl));
  pattern_typed = head_is_typed Copying copying_ok (copy_block ∷ []) copy_typed copy_entry (from_entry copy_block [] (cp (var 0) (var 0)) (exp ∷ []) (inl refl) refl);
  same_length = refl;
  given_own = λ i e. absurd cc;
  is_instance = entry_instance (inl refl);
}

pub entry_is_leaf : EntryIsLeaf
entry_is_leaf = (entry_leaf, leaf_is_instance Copying copying_ok (copy_block ∷ []) copy_typed (first_below_second 1) copy_heads block_case entry_leaf)

-- X, Y and Z stand for the variables of the case.
abbrev asked_images : ℕ → Image
asked_images zero = keep 0
asked_images (suc zero) = put (base 0) (var 0)
asked_images (suc (suc zero)) = put (base 0) (var 1)
asked_images (suc (suc (suc zero))) = put (base 0) (var 2)
asked_images (suc (suc (suc (suc i)))) = keep i

abbrev used : ℕ → Bool
used = ground_after addition_marks plus_s plus_asked.type s_first

abbrev three : List LfType
three = nat ∷ nat ∷ nat ∷ []

abbrev same_values : ℕ → Image
same_values = in_front (put (base 0) (var 0)) (in_front (put (base 0) (var 1)) (in_front (put (base 0) (var 2)) keep))

pub at_one : (A : LfType) → TypeAt (scope plus_s) 1 A → nat ≡ A
at_one A g = sym (variable_type_unique (scope plus_s) 1 A nat g (nat, refl, refl))

pub at_two : (A : LfType) → TypeAt (scope plus_s) 2 A → nat ≡ A
at_two A g = sym (variable_type_unique (scope plus_s) 2 A nat g (nat, (nat, refl, refl), refl))

pub at_three : (A : LfType) → TypeAt (scope plus_s) 3 A → nat ≡ A
at_three A g = sym (variable_type_unique (scope plus_s) 3 A nat g (nat, (nat, (nat, refl, refl), refl), refl))

asked_typed : Values Addition used (scope plus_s) three asked_images
asked_typed = record { typed = typed; closed = closed }
  where
    number : (M : Term) → HasType Addition three M nat → (A : LfType) → nat ≡ A → ImageHasType Addition three (put (base 0) M) (substitute_type reduce asked_images A)
    number M m A e = subst (λ X. ImageHasType Addition three (put (base 0) M) (substitute_type reduce asked_images X)) e (refl, m)

    typed : (i : ℕ) (A : LfType) → TypeAt (scope plus_s) i A → used i ≡ true → ImageHasType Addition three (asked_images i) (substitute_type reduce asked_images A)
    typed zero A g u = absurd cc
    typed (suc zero) A g u = number (var 0) (nat, refl, refl) A (at_one A g)
    typed (suc (suc zero)) A g u = number (var 1) (nat, (nat, refl, refl), refl) A (at_two A g)
    typed (suc (suc (suc zero))) A g u = number (var 2) (nat, (nat, (nat, refl, refl), refl), refl) A (at_three A g)
    typed (suc (suc (suc (suc i)))) A (C, (D, (E, (F, g, e), e1), e2), e3) u = absurd g

    closed : (i : ℕ) (A : LfType) → TypeAt (scope plus_s) i A → used i ≡ true → UsesType used A
    closed zero A g u = absurd cc
    closed (suc zero) A g u = subst (UsesType used) (at_one A g) tt
    closed (suc (suc zero)) A g u = subst (UsesType used) (at_two A g) tt
    closed (suc (suc (suc zero))) A g u = subst (UsesType used) (at_three A g) tt
    closed (suc (suc (suc (suc i)))) A (C, (D, (E, (F, g, e), e1), e2), e3) u = absurd g

asked_terms : AreTerms plus_s used asked_images
asked_terms zero o u = absurd cc
asked_terms (suc zero) o u = tt
asked_terms (suc (suc zero)) o u = tt
asked_terms (suc (suc (suc zero))) o u = tt
asked_terms (suc (suc (suc (suc i)))) o u = absurd cc

asked_given : HasGiven same_values plus_output_case.given asked_images
asked_given zero M e = absurd cc
asked_given (suc zero) M e = absurd cc
asked_given (suc (suc zero)) M e = (base 0, ap (λ N. put (base 0) (substitute reduce same_values N)) (some_same e))
asked_given (suc (suc (suc zero))) M e = (base 0, ap (λ N. put (base 0) (substitute reduce same_values N)) (some_same e))
asked_given (suc (suc (suc (suc i)))) M e = absurd cc

abbrev asked : CommonInstance Addition [] plus_output_case plus_asked
asked = record {
  items = plus_output_case.items;
  typed_items = (((tt, (_, refl, tt)), (_, refl, tt)), (_, refl, tt));
  case_values = same_values;
  is_instance = (var 0, in_front (put (base 0) (var 1)) (in_front (put (base 0) (var 2)) keep), (var 1, in_front (put (base 0) (var 2)) keep, (var 2, keep, tt, (nat, (nat, (nat, refl, refl), refl), refl), refl), (nat, (nat, refl, refl), refl), refl), (nat, refl, refl), refl);
  used = used;
  clause_values = asked_images;
  typed_values = asked_typed;
  uses = ((refl, tt), tt);
  terms = asked_terms;
  given = asked_given;
  stands = tt;
  tuple = app (var 2) (app (var 1) (app (var 0) nil));
  of_case = (refl, tt);
  of_clause = (refl, tt);
}

pub output_leaf : IsInstanceLeaf Addition [] (plus_asked ∷ []) plus_output_case
output_leaf = record {
  typed = record { items = (((tt, (_, refl, tt)), (_, refl, tt)), (_, refl, tt)); given = ((base 0, (base 0, refl, refl)), ((base 0, (base 0, refl, refl)), tt)); arguments = ((base 0, (base 0, refl, refl)), tt) };
  pattern = plus_asked;
  listed = inl refl;
  pattern_typed = subgoal_is_typed Addition addition_ok [] (λ B m. absurd m) plus_s (from_constant 3 plus_s.type refl) 0 plus_asked.type (refl, refl);
  same_length = refl;
  given_own = given_own;
  is_instance = (asked, refl, all, ((refl, tt), tt));
}
  where
    given_own : (i : ℕ) → is_given plus_output_case.given i ≡ true → outside plus_s.type everything i ≡ false
    given_own zero e = absurd cc
    given_own (suc zero) e = absurd cc
    given_own (suc (suc zero)) e = refl
    given_own (suc (suc (suc zero))) e = refl
    given_own (suc (suc (suc (suc i)))) e = absurd cc

    same : (i : ℕ) (A : LfType) → A ≡ nat → as_term (skeleton A) (put (base 0) (var i)) ≡ as_term (skeleton A) (keep i)
    same i A e = subst (λ X. var i ≡ as_term (skeleton X) (keep i)) (sym e) refl

    all : LeavesAll plus_output_case.items same_values
    all zero A q = same 0 A q
    all (suc zero) A g = same 1 A (variable_type_unique three 1 A nat g (nat, refl, refl))
    all (suc (suc zero)) A g = same 2 A (variable_type_unique three 2 A nat g (nat, (nat, refl, refl), refl))
    all (suc (suc (suc i))) A (B, (C, (D, g, r), r'), r'') = absurd g

pub goal_is_output_leaf : GoalIsOutputLeaf
goal_is_output_leaf = (output_leaf, leaves_cover Addition addition_ok [] (λ B m. absurd m) first_below_second plus_subordination (first_below_second 1) (plus_subordination.self_contained 1 (plus_kind, refl)) (plus_asked ∷ []) plus_output_case tt output_leaf.typed (at_leaf output_leaf))
