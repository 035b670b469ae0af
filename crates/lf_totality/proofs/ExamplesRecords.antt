-- The record of addition is that of its group, and others are not.
use Rattle.std.proofs.Common.{◌≡◌, ℕ, zero, suc, List, [], ◌∷◌, refl, sym, ap, subst, inl, inr, true≢false, arith}
use Rattle.std.specs.Prelude.{Bool, true, Some}
use Rattle.lf.specs.Syntax.{LfType, Kind, pi, atom, kind_pi, star}
use Rattle.lf.specs.Variables.{FamiliesIn, KindFamiliesIn}
use Rattle.lf.specs.Subordination.{Member, Quantifies, KindQuantifies, Below, below_itself, below_through, below_in_constant, below_in_kind, below_in_entry, IsBelowTest}
use Rattle.lf.proofs.Strength.{family_target}
use Rattle.lf_totality.specs.Examples.{Addition, addition_types, addition_kinds, first_below_second, plus_z}
use Rattle.lf_totality.specs.Record.{IsToBeFrozen}
use Rattle.lf_totality.specs.ExamplesRecords.{AdditionHasRecord, OtherRecordsAreRefused}

some_type : {A B : LfType} → Some A ≡ Some B → A ≡ B
some_type e = cc

some_kind : {K L : Kind} → Some K ≡ Some L → K ≡ L
some_kind e = cc

-- a quantifier's family is one of those that occur
quantified_in : (S : ℕ → Bool) (A : LfType) (a b : ℕ) → FamiliesIn S A → Quantifies a b A → S a ≡ true
quantified_in S (pi A B) a b (s, t) (inl (e, f)) = subst (λ x. S x ≡ true) e (family_target S A s)
quantified_in S (pi A B) a b (s, t) (inr (inl q)) = quantified_in S A a b s q
quantified_in S (pi A B) a b (s, t) (inr (inr q)) = quantified_in S B a b t q
quantified_in S (atom c T) a b s q = absurd q

kind_quantified_in : (S : ℕ → Bool) (f : ℕ) (K : Kind) (a b : ℕ) → KindFamiliesIn S K → KindQuantifies f a b K → S a ≡ true
kind_quantified_in S f (kind_pi A K) a b (s, t) (inl (e, g)) = subst (λ x. S x ≡ true) e (family_target S A s)
kind_quantified_in S f (kind_pi A K) a b (s, t) (inr (inl q)) = quantified_in S A a b s q
kind_quantified_in S f (kind_pi A K) a b (s, t) (inr (inr q)) = kind_quantified_in S f K a b t q
kind_quantified_in S f star a b s q = absurd q

-- nat and plus
abbrev both : ℕ → Bool
both b = first_below_second 1 b

types_in : (c : ℕ) (A : LfType) → addition_types c ≡ Some A → FamiliesIn both A
types_in zero A e = subst (FamiliesIn both) (some_type e) refl
types_in (suc zero) A e = subst (FamiliesIn both) (some_type e) (refl, refl)
types_in (suc (suc zero)) A e = subst (FamiliesIn both) (some_type e) (refl, refl)
types_in (suc (suc (suc zero))) A e = subst (FamiliesIn both) (some_type e) (refl, (refl, (refl, (refl, refl))))
types_in (suc (suc (suc (suc n)))) A e = absurd cc

kinds_in : (a : ℕ) (K : Kind) → addition_kinds a ≡ Some K → KindFamiliesIn both K
kinds_in zero K e = subst (KindFamiliesIn both) (some_kind e) tt
kinds_in (suc zero) K e = subst (KindFamiliesIn both) (some_kind e) (refl, (refl, (refl, tt)))
kinds_in (suc (suc a)) K e = absurd cc

-- nothing else is below one of them
below_is_in : {a b : ℕ} → Below Addition [] a b → both b ≡ true → both a ≡ true
below_is_in below_itself h = h
below_is_in (below_through p q) h = below_is_in p (below_is_in q h)
below_is_in (below_in_constant {a = a} {b = b} c U e q) h = quantified_in both U a b (types_in c U e) q
below_is_in (below_in_kind {a = a} {b = b} f K e q) h = kind_quantified_in both f K a b (kinds_in f K e) q
below_is_in (below_in_entry B E i j q) h = absurd i

in_is_below : (b : ℕ) → both b ≡ true → Below Addition [] b 1
in_is_below zero e = below_in_constant 2 plus_z.type refl (inl (refl, refl))
in_is_below (suc zero) e = below_itself
in_is_below (suc (suc b)) e = absurd cc

below_plus : IsBelowTest Addition [] both 1
below_plus b = (in_is_below b, λ p. below_is_in p refl)

to_be_frozen : (b : ℕ) → IsToBeFrozen Addition [] (1 ∷ []) [] b → Below Addition [] b 1
to_be_frozen b (inl (f, inl e, p)) = subst (Below Addition [] b) e p
to_be_frozen b (inl (f, inr i, p)) = absurd i
to_be_frozen b (inr (B, E, i, j, p)) = absurd i

pub addition_has_record : AdditionHasRecord
addition_has_record = record {
  families = refl;
  marks = refl;
  worlds = refl;
  below = λ f i. by f i;
  frozen = λ b. (λ e. inl (1, inl refl, in_is_below b e), λ z. below_is_in (to_be_frozen b z) refl);
}
  where
    by : (f : ℕ) → Member f (1 ∷ []) → IsBelowTest Addition [] (first_below_second f) f
    by f (inl e) = subst (λ g. IsBelowTest Addition [] (first_below_second g) g) (sym e) below_plus
    by f (inr i) = absurd i

-- 2 is no family below plus
two_below : Below Addition [] 2 1 → ⊥
two_below p = true≢false (sym (below_is_in p refl))

abbrev first_or_zero : List ℕ → ℕ
first_or_zero [] = 0
first_or_zero (x ∷ xs) = x

other_family : ◌≡◌ {A = List ℕ} (0 ∷ []) (1 ∷ []) → ⊥
other_family e = let q : ◌≡◌ {A = ℕ} 0 1 = ap first_or_zero e in omega arith

pub others_refused : OtherRecordsAreRefused
others_refused = (
  λ r. two_below ((r.below 1 (inl refl) 2).0 refl),
  λ r. true≢false (sym ((r.below 1 (inl refl) 1).1 below_itself)),
  λ r. two_below (to_be_frozen 2 ((r.frozen 2).0 refl)),
  λ r. true≢false (sym ((r.frozen 1).1 (inl (1, inl refl, below_itself)))),
  λ r. other_family r.families,
)
