-- The declarations of these tests as a signature: what stands under its numbers, and that each may stand over those before it.
use Rattle.std.proofs.Common.{◌≡◌, ℕ, zero, suc, List, [], ◌∷◌, ◌∙◌, ap, ap₂, refl, sym, subst, arith}
use Rattle.std.specs.Prelude.{Option, Some, None}
use Rattle.lf.specs.Syntax.{LfType, Kind, star}
use Rattle.lf.specs.Typing.{Signature}
use Rattle.lf.specs.Entries.{Entry, signature_of, declare_constant, declare_family, IsCanonicalEntry}
use Rattle.tests_total.specs.Declared.{declared, first, first_two, first_three, first_four, first_five, first_six, plain, e_type, ok_c_type, yes_c_type, predicate_kind}

some_type : {A B : LfType} → Some A ≡ Some B → A ≡ B
some_type e = cc

some_kind : {K L : Kind} → Some K ≡ Some L → K ≡ L
some_kind e = cc

no_type : {A : LfType} → None ≡ Some A → ⊥
no_type e = cc

no_kind : {K : Kind} → None ≡ Some K → ⊥
no_kind e = cc

abbrev pub Declarations : Signature
Declarations = signature_of declared

-- for each constant
pub each_constant : (P : ℕ → LfType → Type 0) → P 1 e_type → P 4 ok_c_type → P 6 yes_c_type → (k : ℕ) (U : LfType) → Declarations.types k ≡ Some U → P k U
each_constant P a b d zero U e = absurd (no_type e)
each_constant P a b d (suc zero) U e = subst (P 1) (some_type e) a
each_constant P a b d (suc (suc zero)) U e = absurd (no_type e)
each_constant P a b d (suc (suc (suc zero))) U e = absurd (no_type e)
each_constant P a b d (suc (suc (suc (suc zero)))) U e = subst (P 4) (some_type e) b
each_constant P a b d (suc (suc (suc (suc (suc zero))))) U e = absurd (no_type e)
each_constant P a b d (suc (suc (suc (suc (suc (suc zero)))))) U e = subst (P 6) (some_type e) d
each_constant P a b d (suc (suc (suc (suc (suc (suc (suc n))))))) U e = absurd (no_type e)

-- for each family
pub each_family : (P : ℕ → Kind → Type 0) → P 0 star → P 2 star → P 3 predicate_kind → P 5 predicate_kind → (f : ℕ) (K : Kind) → Declarations.kinds f ≡ Some K → P f K
each_family P a b c d zero K e = subst (P 0) (some_kind e) a
each_family P a b c d (suc zero) K e = absurd (no_kind e)
each_family P a b c d (suc (suc zero)) K e = subst (P 2) (some_kind e) b
each_family P a b c d (suc (suc (suc zero))) K e = subst (P 3) (some_kind e) c
each_family P a b c d (suc (suc (suc (suc zero)))) K e = absurd (no_kind e)
each_family P a b c d (suc (suc (suc (suc (suc zero))))) K e = subst (P 5) (some_kind e) d
each_family P a b c d (suc (suc (suc (suc (suc (suc zero)))))) K e = absurd (no_kind e)
each_family P a b c d (suc (suc (suc (suc (suc (suc (suc n))))))) K e = absurd (no_kind e)

-- each entry may stand over those before it
pub type_stands : (n : List ℕ) → IsCanonicalEntry (signature_of []) (plain n (declare_family star) [])
type_stands n = record { typed = tt; within = omega arith; implicit_lead = omega arith; hint_each = refl }

pub e_stands : (n : List ℕ) → IsCanonicalEntry (signature_of first) (plain n (declare_constant e_type) [])
e_stands n = record { typed = (star, refl, tt); within = omega arith; implicit_lead = omega arith; hint_each = refl }

pub t_stands : (n : List ℕ) → IsCanonicalEntry (signature_of first_two) (plain n (declare_family star) [])
t_stands n = record { typed = tt; within = omega arith; implicit_lead = omega arith; hint_each = refl }

pub ok_stands : (n : List ℕ) → IsCanonicalEntry (signature_of first_three) (plain n (declare_family predicate_kind) (None ∷ []))
ok_stands n = record { typed = ((star, refl, tt), tt); within = omega arith; implicit_lead = omega arith; hint_each = refl }

pub ok_c_stands : (n : List ℕ) → IsCanonicalEntry (signature_of first_four) (plain n (declare_constant ok_c_type) [])
ok_c_stands n = record { typed = (predicate_kind, refl, ((e_type, refl, refl), tt)); within = omega arith; implicit_lead = omega arith; hint_each = refl }

pub yes_stands : (n : List ℕ) → IsCanonicalEntry (signature_of first_five) (plain n (declare_family predicate_kind) (None ∷ []))
yes_stands n = record { typed = ((star, refl, tt), tt); within = omega arith; implicit_lead = omega arith; hint_each = refl }

pub yes_c_stands : (n : List ℕ) → IsCanonicalEntry (signature_of first_six) (plain n (declare_constant yes_c_type) (None ∷ None ∷ []))
yes_c_stands n = record { typed = ((star, refl, tt), ((predicate_kind, refl, ((e_type, refl, refl), tt)), (predicate_kind, refl, ((e_type, (e_type, refl, refl), refl), tt)))); within = omega arith; implicit_lead = omega arith; hint_each = refl }

-- the same of what is equal to these
pub stands_as : {es fs : List Entry} {e f : Entry} → es ≡ fs → e ≡ f → IsCanonicalEntry (signature_of fs) f → IsCanonicalEntry (signature_of es) e
stands_as {fs = fs} {e = e} p q s = subst (λ es. IsCanonicalEntry (signature_of es) e) (sym p) (subst (IsCanonicalEntry (signature_of fs)) (sym q) s)

pub added : {es fs gs : List Entry} {e f : Entry} → gs ≡ e ∷ es → es ≡ fs → e ≡ f → gs ≡ f ∷ fs
added {f = f} g p q = g ∙ ap₂ ◌∷◌ q p

pub typed_as : {n : List ℕ} {hs : List (Option (List ℕ))} {A B : LfType} → A ≡ B → plain n (declare_constant A) hs ≡ plain n (declare_constant B) hs
typed_as {n = n} {hs = hs} p = ap (λ A. plain n (declare_constant A) hs) p
