-- The signature of the worked goal with a local context: it is one, and its test of subordination is that of its
-- declarations.
use Rattle.std.proofs.Common.{◌≡◌, ℕ, zero, suc, [], inl, refl, sym, subst}
use Rattle.std.specs.Prelude.{true, Some}
use Rattle.lf.specs.Syntax.{Kind, LfType, star}
use Rattle.lf.specs.Typing.{IsKind, IsSignature, IsType}
use Rattle.lf.specs.Subordination.{Below, IsBelowTest, below_in_constant, below_in_kind, below_itself, below_through}
use Rattle.lf.proofs.Checker.{number_itself}
use Rattle.lf_checks.proofs.Reach.{number_equal}
use Rattle.lf_coverage.specs.Subordinate.{QuantifiersAreBelow}
use Rattle.lf_coverage.proofs.Parts.{none_some, some_same}
use Rattle.lf_coverage.proofs.TestedBelow.{KindIsBelow, below_is_tested}
use Rattle.lf_numbered.specs.NumberedCalls.{IsSetting}
use Rattle.lf_numbered.specs.WorkedCallsLocals.{Locals, k_type, local_below, local_kinds, local_types, q_kind}
use Rattle.lf_numbered.proofs.FreeFrom.{free_from}

pub ok : IsSignature Locals
ok = record { types_ok = types; kinds_ok = kinds }
  where
    types : (c : ℕ) (A : LfType) → local_types c ≡ Some A → IsType Locals [] A
    types zero A e = subst (IsType Locals []) (some_same e) ((star, refl, tt), (star, refl, tt))
    types (suc c) A e = absurd (none_some e)

    kinds : (f : ℕ) (K : Kind) → local_kinds f ≡ Some K → IsKind Locals [] K
    kinds zero K e = subst (IsKind Locals []) (some_same e) tt
    kinds (suc zero) K e = subst (IsKind Locals []) (some_same e) tt
    kinds (suc (suc zero)) K e = subst (IsKind Locals []) (some_same e) ((star, refl, tt), tt)
    kinds (suc (suc (suc zero))) K e = subst (IsKind Locals []) (some_same e) tt
    kinds (suc (suc (suc (suc zero)))) K e = subst (IsKind Locals []) (some_same e) tt
    kinds (suc (suc (suc (suc (suc f))))) K e = absurd (none_some e)

pub setting : IsSetting Locals 5 []
setting = record { signature = ok; blocks = λ B m. absurd m; free = free_from Locals 5 (λ c. refl) (λ a. refl) }

itself : (f : ℕ) → local_below f f ≡ true
itself zero = refl
itself (suc zero) = refl
itself (suc (suc zero)) = refl
itself (suc (suc (suc f))) = number_itself f

through : (f g h : ℕ) → local_below f g ≡ true → local_below g h ≡ true → local_below f h ≡ true
through zero zero h p q = q
through zero (suc g) h p q = absurd cc
through (suc zero) zero zero p q = refl
through (suc zero) zero (suc h) p q = absurd cc
through (suc zero) (suc zero) h p q = q
through (suc zero) (suc (suc g)) h p q = absurd cc
through (suc (suc zero)) g zero p q = refl
through (suc (suc zero)) g (suc zero) p q = refl
through (suc (suc zero)) zero (suc (suc h)) p q = absurd cc
through (suc (suc zero)) (suc zero) (suc (suc h)) p q = absurd cc
through (suc (suc zero)) (suc (suc zero)) (suc (suc h)) p q = q
through (suc (suc zero)) (suc (suc (suc g))) (suc (suc h)) p q = absurd cc
through (suc (suc (suc f))) g h p q = subst (λ i. local_below i h ≡ true) (sym (number_equal (suc (suc (suc f))) g p)) q

types_below : (c : ℕ) (U : LfType) → local_types c ≡ Some U → QuantifiersAreBelow local_below U
types_below zero U e = subst (QuantifiersAreBelow local_below) (some_same e) (refl, tt, tt)
types_below (suc c) U e = absurd (none_some e)

kinds_below : (f : ℕ) (K : Kind) → local_kinds f ≡ Some K → KindIsBelow local_below f K
kinds_below zero K e = subst (KindIsBelow local_below 0) (some_same e) tt
kinds_below (suc zero) K e = subst (KindIsBelow local_below 1) (some_same e) tt
kinds_below (suc (suc zero)) K e = subst (KindIsBelow local_below 2) (some_same e) (refl, tt, tt)
kinds_below (suc (suc (suc zero))) K e = subst (KindIsBelow local_below 3) (some_same e) tt
kinds_below (suc (suc (suc (suc zero)))) K e = subst (KindIsBelow local_below 4) (some_same e) tt
kinds_below (suc (suc (suc (suc (suc f))))) K e = absurd (none_some e)

a_below_c : Below Locals [] 0 1
a_below_c = below_in_constant 0 k_type refl (inl (refl, refl))

c_below_q : Below Locals [] 1 2
c_below_q = below_in_kind 2 q_kind refl (inl (refl, refl))

tested_is_below : (f b : ℕ) → local_below f b ≡ true → Below Locals [] b f
tested_is_below zero b e = subst (λ g. Below Locals [] g 0) (number_equal 0 b e) below_itself
tested_is_below (suc zero) zero e = a_below_c
tested_is_below (suc zero) (suc b) e = subst (λ g. Below Locals [] g 1) (number_equal 1 (suc b) e) below_itself
tested_is_below (suc (suc zero)) zero e = below_through a_below_c c_below_q
tested_is_below (suc (suc zero)) (suc zero) e = c_below_q
tested_is_below (suc (suc zero)) (suc (suc b)) e = subst (λ g. Below Locals [] g 2) (number_equal 2 (suc (suc b)) e) below_itself
tested_is_below (suc (suc (suc f))) b e = subst (λ g. Below Locals [] g (suc (suc (suc f)))) (number_equal (suc (suc (suc f))) b e) below_itself

pub tested : (f : ℕ) → IsBelowTest Locals [] (local_below f) f
tested f b = (tested_is_below f b, λ p. below_is_tested local_below Locals itself (λ f g e h q. through f g h e q) types_below kinds_below p)
