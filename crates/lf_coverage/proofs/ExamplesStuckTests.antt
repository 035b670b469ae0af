-- The relations of the worked cases of matching are the tests of their declarations.
use Rattle.std.proofs.Common.{◌≡◌, ℕ, zero, suc, [], refl, sym, subst, inl, inr, true≢false}
use Rattle.std.specs.Prelude.{true, Some}
use Rattle.lf.specs.Syntax.{Kind, kind_pi, star, nil, LfType, pi, atom}
use Rattle.lf.specs.Variables.{same_number, Within}
use Rattle.lf.specs.Subordination.{Below, below_itself, below_through, below_in_constant, below_in_kind}
use Rattle.lf_totality.specs.Examples.{nat}
use Rattle.lf_totality.specs.ExamplesReached.{equal_kinds}
use Rattle.lf_coverage.specs.ExamplesStuck.{Zeros, zeros_below, ZerosAreTested, zero_types, LowerIsTested, lower_type, below_types, below_kinds, Lower, lower_below}
use Rattle.lf_coverage.specs.Subordinate.{QuantifiersAreBelow}
use Rattle.lf_coverage.proofs.Examples.{same_is}
use Rattle.lf_coverage.proofs.Parts.{some_same}
use Rattle.lf_coverage.proofs.TestedBelow.{KindIsBelow, below_is_tested, equals_have, only}

-- The relations are the tests of their declarations.
same_self : (n : ℕ) → same_number n n ≡ true
same_self zero = refl
same_self (suc n) = same_self n

zeros_itself : (f : ℕ) → zeros_below f f ≡ true
zeros_itself zero = refl
zeros_itself (suc zero) = refl
zeros_itself (suc (suc zero)) = refl
zeros_itself (suc (suc (suc n))) = same_self n

zeros_through : (f g : ℕ) → zeros_below f g ≡ true → Within (zeros_below g) (zeros_below f)
zeros_through zero g e = equals_have zeros_below (same_is 0 g e)
zeros_through (suc zero) g e = equals_have zeros_below (same_is 1 g e)
zeros_through (suc (suc zero)) zero e = only 0 (zeros_below 2) refl
zeros_through (suc (suc zero)) (suc zero) e = absurd (true≢false (sym e))
zeros_through (suc (suc zero)) (suc (suc zero)) e = λ i h. h
zeros_through (suc (suc zero)) (suc (suc (suc g))) e = absurd (true≢false (sym e))
zeros_through (suc (suc (suc n))) g e = equals_have zeros_below (same_is (suc (suc (suc n))) g e)

zeros_types : (c : ℕ) (U : LfType) → zero_types c ≡ Some U → QuantifiersAreBelow zeros_below U
zeros_types zero U e = subst (QuantifiersAreBelow zeros_below) (some_same e) tt
zeros_types (suc zero) U e = subst (QuantifiersAreBelow zeros_below) (some_same e) (refl, tt, tt)
zeros_types (suc (suc zero)) U e = subst (QuantifiersAreBelow zeros_below) (some_same e) tt
zeros_types (suc (suc (suc c))) U e = absurd cc

zeros_kinds : (f : ℕ) (K : Kind) → equal_kinds f ≡ Some K → KindIsBelow zeros_below f K
zeros_kinds zero K e = subst (KindIsBelow zeros_below 0) (some_same e) tt
zeros_kinds (suc zero) K e = absurd cc
zeros_kinds (suc (suc zero)) K e = subst (KindIsBelow zeros_below 2) (some_same e) (refl, tt, (refl, tt, tt))
zeros_kinds (suc (suc (suc f))) K e = absurd cc

zeros_has : (f b : ℕ) → zeros_below f b ≡ true → Below Zeros [] b f
zeros_has zero b e = subst (λ c. Below Zeros [] c 0) (sym (same_is 0 b e)) below_itself
zeros_has (suc zero) b e = subst (λ c. Below Zeros [] c 1) (sym (same_is 1 b e)) below_itself
zeros_has (suc (suc zero)) zero e = below_in_kind 2 (kind_pi nat (kind_pi nat star)) refl (inl (refl, refl))
zeros_has (suc (suc zero)) (suc zero) e = absurd (true≢false (sym e))
zeros_has (suc (suc zero)) (suc (suc zero)) e = below_itself
zeros_has (suc (suc zero)) (suc (suc (suc b))) e = absurd (true≢false (sym e))
zeros_has (suc (suc (suc n))) b e = subst (λ c. Below Zeros [] c (suc (suc (suc n)))) (sym (same_is (suc (suc (suc n))) b e)) below_itself

pub zeros_are_tested : ZerosAreTested
zeros_are_tested f b = (zeros_has f b, λ p. below_is_tested zeros_below Zeros zeros_itself zeros_through zeros_types zeros_kinds p)

lower_itself : (f : ℕ) → lower_below f f ≡ true
lower_itself zero = refl
lower_itself (suc zero) = refl
lower_itself (suc (suc zero)) = refl
lower_itself (suc (suc (suc zero))) = refl
lower_itself (suc (suc (suc (suc zero)))) = refl
lower_itself (suc (suc (suc (suc (suc n))))) = same_self n

d_within_e : Within (lower_below 2) (lower_below 3)
d_within_e zero h = refl
d_within_e (suc zero) h = refl
d_within_e (suc (suc zero)) h = refl
d_within_e (suc (suc (suc i))) h = absurd (true≢false (sym h))

e_within_p : Within (lower_below 3) (lower_below 4)
e_within_p zero h = refl
e_within_p (suc zero) h = refl
e_within_p (suc (suc zero)) h = refl
e_within_p (suc (suc (suc zero))) h = refl
e_within_p (suc (suc (suc (suc i)))) h = absurd (true≢false (sym h))

lower_through : (f g : ℕ) → lower_below f g ≡ true → Within (lower_below g) (lower_below f)
lower_through zero g e = equals_have lower_below (same_is 0 g e)
lower_through (suc zero) g e = equals_have lower_below (same_is 1 g e)
lower_through (suc (suc zero)) zero e = only 0 (lower_below 2) refl
lower_through (suc (suc zero)) (suc zero) e = only 1 (lower_below 2) refl
lower_through (suc (suc zero)) (suc (suc zero)) e = λ i h. h
lower_through (suc (suc zero)) (suc (suc (suc g))) e = absurd (true≢false (sym e))
lower_through (suc (suc (suc zero))) zero e = only 0 (lower_below 3) refl
lower_through (suc (suc (suc zero))) (suc zero) e = only 1 (lower_below 3) refl
lower_through (suc (suc (suc zero))) (suc (suc zero)) e = d_within_e
lower_through (suc (suc (suc zero))) (suc (suc (suc zero))) e = λ i h. h
lower_through (suc (suc (suc zero))) (suc (suc (suc (suc g)))) e = absurd (true≢false (sym e))
lower_through (suc (suc (suc (suc zero)))) zero e = only 0 (lower_below 4) refl
lower_through (suc (suc (suc (suc zero)))) (suc zero) e = only 1 (lower_below 4) refl
lower_through (suc (suc (suc (suc zero)))) (suc (suc zero)) e = λ i h. e_within_p i (d_within_e i h)
lower_through (suc (suc (suc (suc zero)))) (suc (suc (suc zero))) e = e_within_p
lower_through (suc (suc (suc (suc zero)))) (suc (suc (suc (suc zero)))) e = λ i h. h
lower_through (suc (suc (suc (suc zero)))) (suc (suc (suc (suc (suc g))))) e = absurd (true≢false (sym e))
lower_through (suc (suc (suc (suc (suc n))))) g e = equals_have lower_below (same_is (suc (suc (suc (suc (suc n))))) g e)

lower_types : (c : ℕ) (U : LfType) → below_types c ≡ Some U → QuantifiersAreBelow lower_below U
lower_types zero U e = subst (QuantifiersAreBelow lower_below) (some_same e) (refl, tt, tt)
lower_types (suc zero) U e = subst (QuantifiersAreBelow lower_below) (some_same e) (refl, (refl, tt, tt), tt)
lower_types (suc (suc zero)) U e = subst (QuantifiersAreBelow lower_below) (some_same e) (refl, tt, tt)
lower_types (suc (suc (suc c))) U e = absurd cc

lower_kinds : (f : ℕ) (K : Kind) → below_kinds f ≡ Some K → KindIsBelow lower_below f K
lower_kinds zero K e = subst (KindIsBelow lower_below 0) (some_same e) tt
lower_kinds (suc zero) K e = subst (KindIsBelow lower_below 1) (some_same e) tt
lower_kinds (suc (suc zero)) K e = subst (KindIsBelow lower_below 2) (some_same e) tt
lower_kinds (suc (suc (suc zero))) K e = subst (KindIsBelow lower_below 3) (some_same e) tt
lower_kinds (suc (suc (suc (suc zero)))) K e = subst (KindIsBelow lower_below 4) (some_same e) (refl, tt, tt)
lower_kinds (suc (suc (suc (suc (suc f))))) K e = absurd cc

a_below_d : Below Lower [] 0 2
a_below_d = below_in_constant 1 (pi (pi (atom 0 nil) (atom 2 nil)) (atom 3 nil)) refl (inr (inl (inl (refl, refl))))

b_below_d : Below Lower [] 1 2
b_below_d = below_in_constant 0 (pi (atom 1 nil) (atom 2 nil)) refl (inl (refl, refl))

d_below_e : Below Lower [] 2 3
d_below_e = below_in_constant 1 (pi (pi (atom 0 nil) (atom 2 nil)) (atom 3 nil)) refl (inl (refl, refl))

e_below_p : Below Lower [] 3 4
e_below_p = below_in_kind 4 (kind_pi (atom 3 nil) star) refl (inl (refl, refl))

lower_has : (f b : ℕ) → lower_below f b ≡ true → Below Lower [] b f
lower_has zero b e = subst (λ c. Below Lower [] c 0) (sym (same_is 0 b e)) below_itself
lower_has (suc zero) b e = subst (λ c. Below Lower [] c 1) (sym (same_is 1 b e)) below_itself
lower_has (suc (suc zero)) zero e = a_below_d
lower_has (suc (suc zero)) (suc zero) e = b_below_d
lower_has (suc (suc zero)) (suc (suc zero)) e = below_itself
lower_has (suc (suc zero)) (suc (suc (suc b))) e = absurd (true≢false (sym e))
lower_has (suc (suc (suc zero))) zero e = below_through a_below_d d_below_e
lower_has (suc (suc (suc zero))) (suc zero) e = below_through b_below_d d_below_e
lower_has (suc (suc (suc zero))) (suc (suc zero)) e = d_below_e
lower_has (suc (suc (suc zero))) (suc (suc (suc zero))) e = below_itself
lower_has (suc (suc (suc zero))) (suc (suc (suc (suc b)))) e = absurd (true≢false (sym e))
lower_has (suc (suc (suc (suc zero)))) zero e = below_through a_below_d (below_through d_below_e e_below_p)
lower_has (suc (suc (suc (suc zero)))) (suc zero) e = below_in_constant 2 lower_type refl (inl (refl, refl))
lower_has (suc (suc (suc (suc zero)))) (suc (suc zero)) e = below_through d_below_e e_below_p
lower_has (suc (suc (suc (suc zero)))) (suc (suc (suc zero))) e = e_below_p
lower_has (suc (suc (suc (suc zero)))) (suc (suc (suc (suc zero)))) e = below_itself
lower_has (suc (suc (suc (suc zero)))) (suc (suc (suc (suc (suc b))))) e = absurd (true≢false (sym e))
lower_has (suc (suc (suc (suc (suc n))))) b e = subst (λ c. Below Lower [] c (suc (suc (suc (suc (suc n)))))) (sym (same_is (suc (suc (suc (suc (suc n))))) b e)) below_itself

pub lower_is_tested : LowerIsTested
lower_is_tested f b = (lower_has f b, λ p. below_is_tested lower_below Lower lower_itself lower_through lower_types lower_kinds p)
