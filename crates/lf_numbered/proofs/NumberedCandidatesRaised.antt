-- The worked goal whose candidate takes a family outside.
use Rattle.std.proofs.Common.{◌≡◌, ℕ, zero, suc, ◌≤◌, [], refl, sym, ap, ◌∙◌, subst, arith, true≢false}
use Rattle.std.specs.Prelude.{true, Some, None}
use Rattle.lf.specs.Syntax.{LfType, Kind, pi, atom, nil, kind_pi, star}
use Rattle.lf.specs.Typing.{IsKind, IsType, IsSignature}
use Rattle.lf.specs.Variables.{FamiliesIn, KindFamiliesIn, everything, same_number, target}
use Rattle.lf.specs.Subordination.{AreTypedBlocks, IsDeclared, SelfContained}
use Rattle.lf_checks.specs.Clause.{from_constant, outside, scope}
use Rattle.lf_coverage.specs.Matching.{HoldsTypes}
use Rattle.lf_coverage.proofs.Parts.{some_same}
use Rattle.lf_numbered.specs.EntryConstants.{IsFreeFrom}
use Rattle.lf_numbered.specs.NumberedBesideGiven.{IsTypedBesideByNumber}
use Rattle.lf_numbered.specs.NumberedCandidatesRaised.{bx, raised_type, Raising, raising_marks, raising_clause, raised_pattern, raised_goal, RaisedIsCandidate}
use Rattle.lf_numbered.specs.NumberedSplitsExamples.{exp}
use Rattle.lf_numbered.specs.OwnStoresExamples.{each_below}
use Rattle.lf_numbered.proofs.NumberedBesideGiven.{numbered_output_goal_is_beside}

pub raising_ok : IsSignature Raising
raising_ok = record { types_ok = type; kinds_ok = kind }
  where
    type : (c : ℕ) (A : LfType) → Raising.types c ≡ Some A → IsType Raising [] A
    type zero A e = subst (IsType Raising []) (some_same e) (star, refl, tt)
    type (suc zero) A e = subst (IsType Raising []) (some_same e) (((star, refl, tt), (star, refl, tt)), (star, refl, tt))
    type (suc (suc zero)) A e = subst (IsType Raising []) (some_same e) (((star, refl, tt), (kind_pi bx star, refl, ((bx, refl, refl), tt))), (star, refl, tt))
    type (suc (suc (suc c))) A e = absurd cc

    kind : (a : ℕ) (K : Kind) → Raising.kinds a ≡ Some K → IsKind Raising [] K
    kind zero K e = subst (IsKind Raising []) (some_same e) tt
    kind (suc zero) K e = subst (IsKind Raising []) (some_same e) tt
    kind (suc (suc zero)) K e = subst (IsKind Raising []) (some_same e) ((star, refl, tt), tt)
    kind (suc (suc (suc zero))) K e = subst (IsKind Raising []) (some_same e) tt
    kind (suc (suc (suc (suc a)))) K e = absurd cc

pub free : IsFreeFrom Raising 4
free = record { types_free = type; kinds_free = kind }
  where
    type : (c : ℕ) → 4 ≤ c → Raising.types c ≡ None
    type zero l = absurd (omega (arith, l))
    type (suc zero) l = absurd (omega (arith, l))
    type (suc (suc zero)) l = absurd (omega (arith, l))
    type (suc (suc (suc c))) l = refl

    kind : (a : ℕ) → 4 ≤ a → Raising.kinds a ≡ None
    kind zero l = absurd (omega (arith, l))
    kind (suc zero) l = absurd (omega (arith, l))
    kind (suc (suc zero)) l = absurd (omega (arith, l))
    kind (suc (suc (suc zero))) l = absurd (omega (arith, l))
    kind (suc (suc (suc (suc a)))) l = refl

pub no_blocks : AreTypedBlocks Raising []
no_blocks B m = absurd m

abbrev pub clause_type : LfType
clause_type = pi raised_type (atom 3 nil)

holds : HoldsTypes (outside (pi raised_type (atom 3 nil)) everything) (scope raising_clause)
holds zero A g u = absurd cc
holds (suc i) A (B, g, e) u = absurd g

pub beside : IsTypedBesideByNumber Raising 4 [] raised_goal raised_pattern
beside = numbered_output_goal_is_beside Raising raising_ok [] no_blocks 4 free each_below raising_marks raising_clause (from_constant 2 clause_type refl) (outside (pi raised_type (atom 3 nil)) everything) (λ i e. e) holds 0 raised_type (refl, refl) (tt, tt) (kind_pi bx star, refl, tt) tt (kind_pi bx star) refl

contained : SelfContained Raising [] (same_number 1)
contained = record { declared = declared; kinds_in = kinds; types_in = types; entries_in = λ B E m k e. absurd m }
  where
    declared : (a : ℕ) → same_number 1 a ≡ true → IsDeclared Raising a
    declared zero e = (star, refl)
    declared (suc zero) e = (star, refl)
    declared (suc (suc a)) e = absurd (true≢false (sym e))

    kinds : (a : ℕ) (K : Kind) → Raising.kinds a ≡ Some K → same_number 1 a ≡ true → KindFamiliesIn (same_number 1) K
    kinds zero K k e = absurd (true≢false (sym e))
    kinds (suc zero) K k e = subst (KindFamiliesIn (same_number 1)) (some_same k) tt
    kinds (suc (suc a)) K k e = absurd (true≢false (sym e))

    types : (c : ℕ) (A : LfType) → Raising.types c ≡ Some A → same_number 1 (target A) ≡ true → FamiliesIn (same_number 1) A
    types zero A k e = subst (FamiliesIn (same_number 1)) (some_same k) refl
    types (suc zero) A k e = absurd (true≢false (sym e ∙ ap (λ B. same_number 1 (target B)) (sym (some_same k))))
    types (suc (suc zero)) A k e = absurd (true≢false (sym e ∙ ap (λ B. same_number 1 (target B)) (sym (some_same k))))
    types (suc (suc (suc c))) A k e = absurd cc

outside_set : FamiliesIn (same_number 1) (pi exp bx) → ⊥
outside_set (a, b) = absurd (true≢false (sym a))

pub raised_is_candidate : RaisedIsCandidate
raised_is_candidate = (
  refl,
  beside,
  refl,
  record { self_contained = contained; kind = kind_pi bx star; of_family = refl; places = (refl, tt); locals = ((λ e. absurd (true≢false (sym e))), tt) },
  ((λ e. absurd (true≢false (sym e))), refl),
  outside_set,
  λ l. outside_set (l.0 refl),
)
