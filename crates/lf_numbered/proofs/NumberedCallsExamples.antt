-- Worked answers of the calls by number: of a family that only an entry inhabits, of what unification leaves open, and of what is deep.
use Rattle.std.proofs.Common.{◌≡◌, ℕ, zero, suc, ◌+◌, [], ◌∷◌, inl, inr, refl, sym, ap, subst, arith}
use Rattle.std.specs.Prelude.{Bool, true, false, Some, None, ◌⊎◌}
use Rattle.lf.specs.Syntax.{constant, variable, root, nil, app, Term, LfType, Kind, base, kind_pi, star}
use Rattle.lf.specs.Substitution.{keep, lift, put}
use Rattle.lf.specs.AtOnce.{in_front}
use Rattle.lf.specs.Depth.{depth_limit}
use Rattle.lf.specs.Subordination.{Block, IsDeclared, Member, SelfContained}
use Rattle.lf.specs.Variables.{FamiliesIn, KindFamiliesIn}
use Rattle.lf_totality.proofs.After.{Extends-self}
use Rattle.lf.specs.Worlds.{World, no_variables, whole_instance, begin_instance, next_entry}
use Rattle.lf_unification.specs.DeepEquations.{AreDeep}
use Rattle.lf_unification.specs.Solving.{Left}
use Rattle.lf_unification.specs.Unifiers.{Store}
use Rattle.lf_cases.specs.Case.{free_variable}
use Rattle.lf_totality.specs.Examples.{nat, var}
use Rattle.lf_coverage.specs.Calls.{PlacesIn}
use Rattle.lf_coverage.specs.Examples.{number}
use Rattle.lf_coverage.specs.ExamplesMeetings.{zeros}
use Rattle.lf_coverage.specs.ExamplesStuck.{Zeros, applied_case}
use Rattle.lf_coverage.specs.MeetStore.{IsOpen, meet_store}
use Rattle.lf_coverage.specs.TooDeep.{IsDeepCase}
use Rattle.lf_coverage.proofs.ExamplesMeetings.{meetings_are_answered}
use Rattle.lf_coverage.proofs.ExamplesOrder.{numbers_get_deep}
use Rattle.lf_coverage.proofs.Parts.{none_some, some_same}
use Rattle.lf_numbered.specs.EntryConstants.{with_entries}
use Rattle.lf_numbered.specs.EntryPatterns.{IsInstanceOfPattern}
use Rattle.lf_numbered.specs.NumberedCase.{IsNumberedInstance}
use Rattle.lf_numbered.specs.NumberedCalls.{NumberedSplitAnswer, NumberedSplitIs, numbered_cases, outside_over, split_too_deep, IsBesideByNumber}
use Rattle.lf_numbered.specs.NumberedCallsExamples.{OpenIsAnswered, OpenIsMissing, AppliedIsOpen, DeepIsTooDeep, applied_zero, deep_zero}
use Rattle.lf_numbered.specs.NumberedCallsMeeting.{SharesInstance}
use Rattle.lf_numbered.specs.NumberedCallsOutside.{IsDeepByNumber, deep_case, deep_equations}
use Rattle.lf_numbered.specs.NumberedCallsReached.{numbered_goal, numbered_split, numbered_first, reaches_deep_case}
use Rattle.lf_numbered.specs.NumberedCallsStores.{IsOpenByNumber, constant_beside}
use Rattle.lf_numbered.specs.NumberedSplitsExamples.{Bare, exp, exp_block, has, has_head, open_case, entry_case}
use Rattle.lf_numbered.proofs.EntrySignature.{else_none}
use Rattle.lf_numbered.proofs.NumberedCallsCopying.{instance_has_pattern, one_member}
use Rattle.lf_numbered.proofs.NumberedCallsLaws.{missing_is_uncovered}
use Rattle.lf_numbered.proofs.NumberedCallsOpen.{entry_is_instance, open_gives_entry, open_is_split_answer}
use Rattle.lf_numbered.proofs.NumberedSplitsExamples.{blocks_typed, open_typed, bare_ok}
use Rattle.lf_numbered.proofs.NumberedSplitsExamplesRun.{open_is_covered}
use mathlib.Core.Path.{fun_ext}

-- p b.x is shared by p X and u.
open_shares : SharesInstance Bare 2 (exp_block ∷ []) open_case has_head
open_shares = record {
  common = entry_case;
  typed_variables = record { variables = tt; on_own_terms = λ i A g. absurd g; blocks = (inl refl, (keep, (λ i A g. absurd g), refl), tt, tt) };
  numbers = λ k. 0;
  zeroth = refl;
  values = in_front (put (base 0) (root (constant 2) nil)) (λ i. keep (i + 0));
  of_case = record {
    is_instance = record { blocks = λ k b e. absurd cc; values = (root (constant 2) nil, (λ i. keep (i + 0)), refl, (exp, refl, refl), ((nil, refl), tt), refl) };
    family = refl;
    given = refl;
    local = refl;
    arguments = refl;
  };
  of_pattern = instance_has_pattern Bare 2 entry_case has_head entry_is_instance;
}

open_is_none : IsInstanceOfPattern Bare 2 open_case has_head → ⊥
open_is_none i = none_some i.stands.2

no_second : (below : ℕ → ℕ → Bool) (a : NumberedSplitAnswer) → NumberedSplitIs Bare 2 (exp_block ∷ []) below open_case 1 a → ⊥
no_second below (numbered_cases Cs) s = s.lists.unified.at.1
no_second below (outside_over D e) s = s.at.1
no_second below split_too_deep (deep_equations X o K at f q d) = at.1
no_second below split_too_deep (deep_case D s d) = s.at.1

-- exp is in a set that holds the families of the place of p
in_set : (S : ℕ → Bool) (K : Kind) → kind_pi exp star ≡ K → PlacesIn S (true ∷ []) K → S 0 ≡ true
in_set S K e h = (subst (PlacesIn S (true ∷ [])) (sym e) h).0

pub open_is_answered : OpenIsAnswered
open_is_answered below s = (
  (open_is_none, inl open_shares, refl, (λ e. absurd cc)),
  open_is_split_answer below s,
  no_second below,
  numbered_split 0 numbered_goal (λ p m i. open_is_none (subst (IsInstanceOfPattern Bare 2 open_case) (one_member m) i)) (numbered_first [] (inl open_shares) refl) (open_gives_entry below),
  entry_is_instance,
  (λ S b. open_is_covered below s S b.self_contained (in_set S b.kind (some_same b.of_family) b.places)),
)

-- both families
abbrev both_families : ℕ → Bool
both_families zero = true
both_families (suc zero) = true
both_families (suc (suc a)) = false

holds_families : SelfContained Bare (exp_block ∷ []) both_families
holds_families = record { declared = declared; kinds_in = kinds; types_in = λ c A e s. absurd cc; entries_in = λ B E m n s. inside B E m n }
  where
    declared : (a : ℕ) → both_families a ≡ true → IsDeclared Bare a
    declared zero e = (star, refl)
    declared (suc zero) e = (kind_pi exp star, refl)
    declared (suc (suc a)) e = absurd cc

    kinds : (a : ℕ) (K : Kind) → Bare.kinds a ≡ Some K → both_families a ≡ true → KindFamiliesIn both_families K
    kinds zero K q e = subst (KindFamiliesIn both_families) (some_same q) tt
    kinds (suc zero) K q e = subst (KindFamiliesIn both_families) (some_same q) (refl, tt)
    kinds (suc (suc a)) K q e = absurd cc

    among : (E : LfType) → Member E (has (root (variable 0) nil) ∷ exp ∷ []) → FamiliesIn both_families E
    among E (inl e) = subst (FamiliesIn both_families) (sym e) refl
    among E (inr (inl e)) = subst (FamiliesIn both_families) (sym e) refl
    among E (inr (inr m)) = absurd m

    inside : (B : Block) (E : LfType) → Member B (exp_block ∷ []) → Member E B.entries → FamiliesIn both_families E
    inside B E (inl e) n = among E (subst (λ (D : Block). Member E D.entries) e n)
    inside B E (inr m) n = absurd m

open_beside : IsBesideByNumber Bare (exp_block ∷ []) both_families open_case
open_beside = record { self_contained = holds_families; kind = kind_pi exp star; of_family = refl; places = (refl, tt); locals = tt }

-- {x:exp} {u:p x}
exp_world : World Bare (exp_block ∷ []) both_families (has (var 0) ∷ exp ∷ [])
exp_world = whole_instance exp_block (inl refl) refl (next_entry {θ = lift keep} (has (root (variable 0) nil)) (next_entry {θ = keep} exp (begin_instance no_variables (record { typed = λ i A g u. absurd g; closed = λ i A g u. absurd g })) (star, refl, tt)) (kind_pi exp star, refl, ((exp, refl, refl), tt)))

open_instance : IsNumberedInstance exp_world 2 open_case (λ k i. keep i) (in_front (put (base 0) (var 1)) keep)
open_instance = record { values = (var 1, keep, refl, (exp, (exp, refl, refl), refl), refl); instances = tt }

pub open_is_missing : OpenIsMissing
open_is_missing below = (
  (numbered_goal, record { typed = open_typed; apart = λ p m. absurd m }),
  (λ c. missing_is_uncovered Bare (exp_block ∷ []) blocks_typed 2 below [] open_case open_case (numbered_goal, record { typed = open_typed; apart = λ p m. absurd m }) both_families Bare (Extends-self both_families Bare bare_ok) (has (var 0) ∷ exp ∷ []) exp_world (λ k i. keep i) (in_front (put (base 0) (var 1)) keep) open_instance (c both_families open_beside)),
  (λ c. (c.1.apart has_head (inl refl)).no_instance open_shares),
)

-- F z = z is left.
no_entries : with_entries Zeros 3 [] ≡ Zeros
no_entries = ap (λ t. record { types = t; kinds = Zeros.kinds }) (fun_ext (λ c. else_none (Zeros.types c)))

zero_is_open : IsOpenByNumber Zeros 3 applied_zero zeros
zero_is_open =
    let o : IsOpen Zeros applied_case zeros = meetings_are_answered.2 in
    record {
      kind = o.kind;
      of_family = o.of_family;
      numbers = λ k. k;
      identifies = λ k b e. absurd cc;
      case = applied_zero;
      outer = keep;
      beside = constant_beside zeros.clause.type;
      undecided = subst (λ Σ. AreDeep depth_limit Σ (meet_store applied_case zeros o.kind) ⊎ ((after : Store) × Left Σ (meet_store applied_case zeros o.kind) after)) (sym no_entries) o.undecided;
    }

zero_is_none : IsInstanceOfPattern Zeros 3 applied_zero zeros → ⊥
zero_is_none i = different i.same.1.0
  where
    different : {M : Term} → root (variable 0) (app M nil) ≡ root (constant 0) nil → ⊥
    different e = cc

pub applied_is_open : AppliedIsOpen
applied_is_open = (zero_is_open, (zero_is_none, inr zero_is_open, refl))

deep_number : IsDeepCase (record { items = free_variable nat ∷ []; given = []; local = []; family = 1; arguments = Some (number 4096) ∷ Some (var 0) ∷ None ∷ [] }) → IsDeepByNumber deep_zero
deep_number (inl (inl h)) = inr (inl (inl h))
deep_number (inl (inr h)) = absurd h
deep_number (inr (inl h)) = absurd h
deep_number (inr (inr (inl h))) = absurd h
deep_number (inr (inr (inr h))) = inr (inr (inr (inr h)))

pub deep_is_too_deep : DeepIsTooDeep
deep_is_too_deep = (λ below. reaches_deep_case deep_zero numbered_goal (deep_number numbers_get_deep.0), open_not)
  where
    open_not : IsDeepByNumber open_case → ⊥
    open_not (inl h) = h
    open_not (inr (inl (inl h))) = absurd (omega arith)
    open_not (inr (inl (inr h))) = h
    open_not (inr (inr (inl h))) = h
    open_not (inr (inr (inr (inl h)))) = h
    open_not (inr (inr (inr (inr (inl h))))) = absurd (omega arith)
    open_not (inr (inr (inr (inr (inr h))))) = h
