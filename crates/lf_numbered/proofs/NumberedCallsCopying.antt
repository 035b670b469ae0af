-- Worked answers of the calls by number: of copying.
use Rattle.std.proofs.Common.{◌≡◌, ℕ, ◌+◌, [], ◌∷◌, inl, inr, refl, sym, ◌∙◌, subst, ◌≤◌, arith}
use Rattle.std.specs.Prelude.{true, Some, None}
use Rattle.lf.specs.Syntax.{Head, constant, variable, root, nil, app, Term, Spine, base}
use Rattle.lf.specs.Substitution.{Image, keep, put, substitute, substitute_type, reduce}
use Rattle.lf.specs.AtOnce.{in_front}
use Rattle.lf.specs.Subordination.{Member}
use Rattle.lf.specs.Variables.{target_arguments}
use Rattle.lf_checks.specs.Marks.{SamePlaces}
use Rattle.lf_cases.specs.Case.{HasArguments}
use Rattle.lf_cases.specs.Pattern.{Pattern}
use Rattle.lf_checks.specs.Clause.{from_entry}
use Rattle.lf_totality.specs.Examples.{Copying, copy_block, copy_entry, cp, cp_kind, exp, var}
use Rattle.lf_totality.proofs.Copying.{copying_ok}
use Rattle.lf_coverage.specs.ExamplesCopying.{copy_app_head, copy_entry_head, copy_goal, copy_worlds}
use Rattle.lf_coverage.specs.Matching.{ArePlaces}
use Rattle.lf_coverage.proofs.ExamplesCopyingSplit.{copy_typed}
use Rattle.lf_coverage.proofs.Leaves.{head_is_typed}
use Rattle.lf_coverage.proofs.Parts.{none_some}
use Rattle.lf_numbered.specs.EntryPatterns.{IsInstanceOfPattern}
use Rattle.lf_numbered.specs.ExamplesNumbered.{one_copy, two_copies}
use Rattle.lf_numbered.specs.NumberedCallsExamples.{CopiesAreGoals, CopiesAreMatched, CopiesAreReached}
use Rattle.lf_numbered.specs.NumberedCalls.{IsFor}
use Rattle.lf_numbered.specs.NumberedCallsMeeting.{HasPattern, SharesInstance, IsApartByNumber}
use Rattle.lf_numbered.specs.NumberedCallsReached.{numbered_goal}
use Rattle.lf_numbered.specs.NumberedCase.{NumberedCase}
use Rattle.lf_numbered.specs.Numbering.{numbered}
use Rattle.lf_numbered.proofs.CopyingByNumber.{copying_free}
use Rattle.lf_numbered.proofs.EntryPatternsExamples.{copy_is_instance}
use Rattle.lf_numbered.proofs.ExamplesNumbered.{blocks_are_identified}

-- An instance of a pattern has the pattern.
pub instance_has_pattern : (Σ : Rattle.lf.specs.Typing.Signature) (first : ℕ) (C : NumberedCase) (p : Pattern) → IsInstanceOfPattern Σ first C p → HasPattern Σ first C p
instance_has_pattern Σ first C p i = record { used = i.used; values = i.values; typed = i.typed; on_own_terms = i.on_own_terms; uses = i.uses; terms = i.terms; given = i.given; stands = i.stands; same = i.same }

-- cp b.x b.x is shared by cp b.x c.x and u.
copies_share : SharesInstance Copying 4 copy_worlds two_copies copy_entry_head
copies_share = record {
  common = one_copy;
  typed_variables = record { variables = tt; on_own_terms = λ i A g. absurd g; blocks = (inl refl, (keep, (λ i A g. absurd g), refl), tt, tt) };
  numbers = λ k. 0;
  zeroth = refl;
  values = λ i. keep (i + 0);
  of_case = blocks_are_identified.0;
  of_pattern = instance_has_pattern Copying 4 one_copy copy_entry_head copy_is_instance.1;
}

-- cp b.x _ is shared by the goal and u.
abbrev first_copy : NumberedCase
first_copy = record { blocks = record { block = copy_block; terms = nil } ∷ []; variables = []; given = []; local = []; family = 1; arguments = Some (root (constant 4) nil) ∷ None ∷ [] }

first_has_entry : HasPattern Copying 4 first_copy copy_entry_head
first_has_entry =
    let i : IsInstanceOfPattern Copying 4 one_copy copy_entry_head = copy_is_instance.1 in
    record { used = i.used; values = i.values; typed = i.typed; on_own_terms = i.on_own_terms; uses = (i.uses.0, tt); terms = i.terms; given = λ j M u e. absurd cc; stands = i.stands; same = (i.same.0, tt) }

goal_shares : SharesInstance Copying 4 copy_worlds (numbered 4 copy_goal) copy_entry_head
goal_shares = record {
  common = first_copy;
  typed_variables = record { variables = tt; on_own_terms = λ i A g. absurd g; blocks = (inl refl, (keep, (λ i A g. absurd g), refl), tt, tt) };
  numbers = λ k. 0;
  zeroth = refl;
  values = in_front (put (base 0) (root (constant 4) nil)) (λ i. keep (i + 0));
  of_case = record {
    is_instance = record { blocks = λ k b e. absurd cc; values = (root (constant 4) nil, (λ i. keep (i + 0)), refl, (exp, refl, refl), ((nil, refl), tt), refl) };
    family = refl;
    given = refl;
    local = refl;
    arguments = refl;
  };
  of_pattern = first_has_entry;
}

goal_is_none : IsInstanceOfPattern Copying 4 (numbered 4 copy_goal) copy_entry_head → ⊥
goal_is_none i = none_some i.stands.2

-- cp b.x b.x is apart from cp (app E1 E2) (app F1 F2).
with_arguments : {h k : Head} {M : Term} {S : Spine} → root h nil ≡ root k (app M S) → ⊥
with_arguments e = cc

no_application : (ρ : ℕ → Image) (v : ℕ) → ρ ≡ keep → (T : Spine) → HasArguments ρ (Some (root (variable v) nil) ∷ Some (root (variable v) nil) ∷ []) T → (M N R : Term) → SamePlaces (true ∷ true ∷ []) T (app (root (constant 2) (app M (app N nil))) (app R nil)) → ⊥
no_application ρ v r nil h M N R s = h
no_application ρ v r (app P T) h M N R s = with_arguments (sym (subst (λ σ. P ≡ substitute reduce σ (root (variable v) nil)) r h.0) ∙ s.0)

copy_apart : IsApartByNumber Copying 4 copy_worlds one_copy copy_app_head
copy_apart = record {
  no_instance = λ s. with_arguments ((subst (λ Ms. ArePlaces Ms (target_arguments (substitute_type reduce s.of_pattern.values copy_app_head.type))) s.of_case.arguments s.of_pattern.same).0);
  no_tuple = λ V typed S Σ' x G w F σ T h k t. no_application h.values _ h.is_ground.values T h.has_arguments _ _ _ t.same;
}

two_is_none : IsInstanceOfPattern Copying 4 two_copies copy_entry_head → ⊥
two_is_none = copy_is_instance.2

pub copies_are_matched : CopiesAreMatched
copies_are_matched = (
  copy_is_instance.1,
  copy_apart,
  two_is_none,
  (λ a. a.no_instance copies_share),
  (two_is_none, inl copies_share, refl),
  (λ s. s.0 copy_is_instance.1),
  (goal_is_none, inl goal_shares, refl, (λ e. absurd cc)),
)

-- a member of a list of one
pub one_member : {p q : Pattern} → Member p (q ∷ []) → p ≡ q
one_member (inl e) = e
one_member (inr m) = absurd m

pub copies_are_reached : CopiesAreReached
copies_are_reached below = (
  (
    numbered_goal,
    record {
      no_instance = λ p m i. two_is_none (subst (IsInstanceOfPattern Copying 4 two_copies) (one_member m) i);
      meeting = copy_entry_head;
      listed = inl refl;
      meets = inl copies_share;
      no_candidate = λ p m. inl (subst (λ q. Rattle.lf_numbered.specs.NumberedCallsReached.numbered_candidates 4 two_copies q ≡ []) (sym (one_member m)) refl);
    },
  ),
  (λ c. (c.1.apart copy_entry_head (inl refl)).no_instance copies_share),
  (numbered_goal, record { typed = copy_is_instance.0.typed; apart = λ p m. subst (IsApartByNumber Copying 4 copy_worlds one_copy) (sym (one_member m)) copy_apart }),
  (λ c. c.1.no_instance copy_entry_head (inl refl) copy_is_instance.1),
)

two_are_many : 2 ≤ 1 → ⊥
two_are_many l = omega (arith, l)

-- u is a head for cp b.x b.x, whose arguments have the type exp.
entry_for : IsFor Copying 4 copy_worlds one_copy copy_entry_head
entry_for = record {
  typed = head_is_typed Copying copying_ok copy_worlds copy_typed copy_entry (from_entry copy_block [] (cp (var 0) (var 0)) (exp ∷ []) (inl refl) refl);
  typed_block = copy_typed copy_block (inl refl);
  same_family = refl;
  same_length = refl;
  given_own = λ i e. absurd cc;
  own_block = λ e. absurd cc;
  beside = inl (record {
    is_head = refl;
    none_given = refl;
    no_local = refl;
    kind = cp_kind;
    of_family = refl;
    covered_only = (tt, (tt, tt));
    tuple = app (root (constant 4) nil) (app (root (constant 4) nil) nil);
    at_places = (refl, (refl, tt));
    typed_places = ((exp, refl, refl), ((exp, refl, refl), tt));
  });
}

pub copies_are_goals : CopiesAreGoals
copies_are_goals below test = (
  record {
    setting = record { signature = copying_ok; blocks = copy_typed; free = copying_free };
    subordination = test;
    case = copy_is_instance.0.typed;
    one_block = omega arith;
    locals_below = tt;
    patterns = λ p m. subst (IsFor Copying 4 copy_worlds one_copy) (sym (one_member m)) entry_for;
  },
  λ n. two_are_many n.one_block,
)
