-- The worked variable that takes more than what is below.
use Rattle.std.proofs.Common.{◌≡◌, ℕ, zero, suc, List, [], ◌∷◌, inl, inr, refl, sym, ap, ◌∙◌, subst, arith}
use Rattle.std.specs.Prelude.{Bool, true, false, Some, None, ◌⊎◌}
use Rattle.lf.specs.Syntax.{constant, variable, metavariable, Term, Spine, lambda, root, nil, app, LfType, pi, atom, Kind, kind_pi, star, base, arrow, skeleton}
use Rattle.lf.specs.Substitution.{Image, keep, put, lift, single, substitute, reduce}
use Rattle.lf.specs.AtOnce.{in_front}
use Rattle.lf.specs.Typing.{TypeAt, HasType, SpineType, IsKind, IsType, IsSignature, instantiate_type}
use Rattle.lf.specs.Subordination.{Below, below_itself, below_through, below_in_constant, below_in_kind, below_in_entry, Quantifies, KindQuantifies}
use Rattle.lf.specs.Variables.{target}
use Rattle.lf.proofs.Target.{target_of}
use Rattle.lf.specs.Worlds.{World, no_variables}
use Rattle.lf_totality.proofs.After.{Extends-self}
use Rattle.lf_coverage.proofs.Parts.{none_some, some_same}
use Rattle.lf_numbered.specs.EntryPatternsRuns.{HoldsApart, IsNumberedSplit}
use Rattle.lf_numbered.specs.NumberedBesideHigh.{fam_a, fam_c, fam_d, High, high_types, high_kinds, high_below, high_type, high_case, raised_case, raised_type, raised_value, HighIsLost}
use Rattle.lf_numbered.specs.OwnTerms.{TypeOnOwnTerms, own_terms}
use Rattle.lf_numbered.specs.TypedNumbered.{IsTypedNumberedCase}

ok : IsSignature High
ok = record { types_ok = types; kinds_ok = kinds }
  where
    types : (i : ℕ) (A : LfType) → high_types i ≡ Some A → IsType High [] A
    types zero A e = subst (IsType High []) (some_same e) ((star, refl, tt), (star, refl, tt))
    types (suc zero) A e = subst (IsType High []) (some_same e) (star, refl, tt)
    types (suc (suc zero)) A e = subst (IsType High []) (some_same e) (star, refl, tt)
    types (suc (suc (suc i))) A e = absurd cc

    kinds : (i : ℕ) (K : Kind) → high_kinds i ≡ Some K → IsKind High [] K
    kinds zero K e = subst (IsKind High []) (some_same e) tt
    kinds (suc zero) K e = subst (IsKind High []) (some_same e) tt
    kinds (suc (suc zero)) K e = subst (IsKind High []) (some_same e) tt
    kinds (suc (suc (suc zero))) K e = subst (IsKind High []) (some_same e) ((star, refl, tt), ((star, refl, tt), tt))
    kinds (suc (suc (suc (suc i)))) K e = absurd cc

-- the value [v] [y] k (y v)
abbrev the_value : Term
the_value = lambda (lambda (root (constant 0) (app (root (variable 0) (app (root (variable 1) nil) nil)) nil)))

abbrev the_values : ℕ → Image
the_values = in_front (put (arrow (base 2) (arrow (arrow (base 2) (base 0)) (base 1))) the_value) keep

abbrev the_tuple : Spine
the_tuple = app (root (constant 0) (app (root (constant 1) nil) nil)) (app (root (constant 0) (app (root (constant 2) nil) nil)) nil)

value_typed : HasType High [] the_value high_type
value_typed = (pi fam_a fam_c, refl, ((pi fam_d fam_a, refl, ((fam_d, (fam_d, refl, refl), refl), refl)), refl))

module _ (S : ℕ → Bool) where
  world : World High [] S []
  world = no_variables

  holds : HoldsApart world 3 high_case None keep the_tuple
  holds = record {
    holds = record { instances = λ k. keep; values = the_values; is_ground = record { values = (the_value, keep, refl, value_typed, refl); instances = tt }; zeroth = tt; given = λ i M e. absurd (none_some e); has_arguments = (refl, (refl, tt)) };
    are_apart = λ j k b c e f s t. absurd (none_some e);
  }

-- Nothing has the type d there, and what has the type a is m or n.
abbrev taken : List LfType
taken = pi fam_d fam_a ∷ []

result : (T : Spine) (A C : LfType) → SpineType High taken T A C → target A ≡ target C
result nil A C e = ap target e
result (app M T) (pi A B) C (m, s) = sym (target_of reduce (single (skeleton A) M) B) ∙ result T (instantiate_type A M B) C s
result (app M T) (atom a R) C s = absurd s

abbrev Numbers : ℕ → ℕ → Type 0
Numbers m n = m ≡ n

one_zero : Numbers 1 0 → ⊥
one_zero e = omega (arith, e)

zero_two : Numbers 0 2 → ⊥
zero_two e = omega (arith, e)

one_two : Numbers 1 2 → ⊥
one_two e = omega (arith, e)

none_of_d : (P : Term) → HasType High taken P fam_d → ⊥
none_of_d (lambda M) h = h
none_of_d (root (constant zero) T) (A, e, s) = one_two (ap target (some_same e) ∙ result T A fam_d s)
none_of_d (root (constant (suc zero)) T) (A, e, s) = zero_two (ap target (some_same e) ∙ result T A fam_d s)
none_of_d (root (constant (suc (suc zero))) T) (A, e, s) = zero_two (ap target (some_same e) ∙ result T A fam_d s)
none_of_d (root (constant (suc (suc (suc i)))) T) (A, e, s) = none_some e
none_of_d (root (variable zero) T) (A, e, s) = zero_two (sym (ap target e) ∙ result T A fam_d s)
none_of_d (root (variable (suc i)) T) (A, (B, g, e), s) = g
none_of_d (root (metavariable n) T) (A, e, s) = e

abbrev IsNumber : Term → Type 0
IsNumber M = (M ≡ root (constant 1) nil) ⊎ (M ≡ root (constant 2) nil)

alone : (c : ℕ) (T : Spine) (A : LfType) → fam_a ≡ A → SpineType High taken T A fam_a → root (constant c) T ≡ root (constant c) nil
alone c nil A q s = refl
alone c (app M T) A q s = absurd (subst (λ B. SpineType High taken (app M T) B fam_a) (sym q) s)

of_function : (T : Spine) (A : LfType) → A ≡ pi fam_d fam_a → SpineType High taken T A fam_a → ⊥
of_function nil A q s = no_pi (sym q ∙ s)
  where
    no_pi : pi fam_d fam_a ≡ fam_a → ⊥
    no_pi e = cc
of_function (app P T) A q s = none_of_d P (subst (λ B. SpineType High taken (app P T) B fam_a) q s).0

body : (M : Term) → HasType High taken M fam_a → IsNumber M
body (lambda M) h = absurd h
body (root (constant zero) T) (A, e, s) = absurd (one_zero (ap target (some_same e) ∙ result T A fam_a s))
body (root (constant (suc zero)) T) (A, e, s) = inl (alone 1 T A (some_same e) s)
body (root (constant (suc (suc zero))) T) (A, e, s) = inr (alone 2 T A (some_same e) s)
body (root (constant (suc (suc (suc i)))) T) (A, e, s) = absurd (none_some e)
body (root (variable zero) T) (A, e, s) = absurd (of_function T A e s)
body (root (variable (suc i)) T) (A, (B, g, e), s) = absurd g
body (root (metavariable n) T) (A, e, s) = absurd e

-- the values of X
abbrev constant_values : ℕ → ℕ → Image
constant_values c = in_front (put (arrow (arrow (base 2) (base 0)) (base 0)) (lambda (root (constant c) nil))) keep

abbrev shown : ℕ → Term
shown c = root (constant 0) (app (root (constant c) nil) nil)

other_number : (c d : ℕ) (σ : ℕ → Image) → (Numbers c d → ⊥) → σ ≡ constant_values d → shown c ≡ substitute reduce (lift σ) (raised_value c) → ⊥
other_number c d σ n q e = n (ap number (e ∙ ap (λ τ. substitute reduce (lift τ) (raised_value c)) q))
  where
    inside : Term → ℕ
    inside (lambda M) = zero
    inside (root (constant k) T) = k
    inside (root (variable k) T) = zero
    inside (root (metavariable k) T) = zero

    first : Spine → ℕ
    first nil = zero
    first (app M T) = inside M

    number : Term → ℕ
    number (lambda M) = zero
    number (root h T) = first T

two_one : Numbers 2 1 → ⊥
two_one e = omega (arith, e)

module _ (S : ℕ → Bool) where
  lost : HoldsApart (world S) 3 raised_case None keep the_tuple → ⊥
  lost h =
      let (N, τ, q, t, e) = h.holds.is_ground.values in
      by N t (e ∙ ap (in_front (put (arrow (arrow (base 2) (base 0)) (base 0)) N)) q)
    where
      by : (N : Term) → HasType High [] N raised_type → h.holds.values ≡ in_front (put (arrow (arrow (base 2) (base 0)) (base 0)) N) keep → ⊥
      by (lambda M) t e = one (body M t)
        where
          one : IsNumber M → ⊥
          one (inl r) = other_number 2 1 h.holds.values two_one (e ∙ ap (λ L. in_front (put (arrow (arrow (base 2) (base 0)) (base 0)) (lambda L)) keep) r) h.holds.has_arguments.1.0
          one (inr r) = other_number 1 2 h.holds.values one_two (e ∙ ap (λ L. in_front (put (arrow (arrow (base 2) (base 0)) (base 0)) (lambda L)) keep) r) h.holds.has_arguments.0
      by (root g T) t e = absurd t

  no_split : IsNumberedSplit High 3 [] S high_case (raised_case ∷ []) → ⊥
  no_split sp = by (sp.holds High (Extends-self S High ok) [] (world S) None keep the_tuple (holds S))
    where
      by : HoldsApart (world S) 3 raised_case None keep the_tuple ⊎ ⊥ → ⊥
      by (inl h) = lost h
      by (inr b) = b

high_typed : IsTypedNumberedCase High 3 [] high_case
high_typed = record {
  variables = record { variables = (tt, context); on_own_terms = own; blocks = tt };
  local = ((tt, context), (star, refl, tt));
  local_on_own = (tt, tt);
  given = tt;
  given_on_own = tt;
  arguments = ((base 1, (arrow (base 2) (arrow (arrow (base 2) (base 0)) (base 1)), refl, ((base 2, refl, refl), ((base 0, refl, refl), refl)))), ((base 1, (arrow (base 2) (arrow (arrow (base 2) (base 0)) (base 1)), refl, ((base 2, refl, refl), ((base 0, refl, refl), refl)))), tt));
  arguments_on_own = ((tt, ((tt, tt), tt)), ((tt, ((tt, tt), tt)), tt));
}
  where
    context : IsType High [] high_type
    context = ((star, refl, tt), (((star, refl, tt), (star, refl, tt)), (star, refl, tt)))

    own : (i : ℕ) (A : LfType) → TypeAt (high_type ∷ []) i A → TypeOnOwnTerms (own_terms 3 []) A
    own zero A e = subst (TypeOnOwnTerms (own_terms 3 [])) (sym e) (tt, ((tt, tt), tt))
    own (suc i) A (B, g, e) = absurd g

-- what is below by subordination
reflexive : (f : ℕ) → high_below f f ≡ true
reflexive zero = refl
reflexive (suc zero) = refl
reflexive (suc (suc zero)) = refl
reflexive (suc (suc (suc f))) = refl

transitive : (z y x : ℕ) → high_below z y ≡ true → high_below y x ≡ true → high_below z x ≡ true
transitive zero zero x p q = q
transitive zero (suc y) x p q = absurd cc
transitive (suc zero) zero zero p q = refl
transitive (suc zero) zero (suc x) p q = absurd cc
transitive (suc zero) (suc zero) x p q = q
transitive (suc zero) (suc (suc y)) x p q = absurd cc
transitive (suc (suc zero)) zero x p q = absurd cc
transitive (suc (suc zero)) (suc zero) x p q = absurd cc
transitive (suc (suc zero)) (suc (suc zero)) x p q = q
transitive (suc (suc zero)) (suc (suc (suc y))) x p q = absurd cc
transitive (suc (suc (suc z))) y x p q = refl

in_constant : (x y : ℕ) → Quantifies x y (pi fam_a fam_c) → high_below y x ≡ true
in_constant x y (inl (p, q)) = subst (λ j. high_below j x ≡ true) q (subst (λ i. high_below 1 i ≡ true) p refl)
in_constant x y (inr (inl b)) = absurd b
in_constant x y (inr (inr b)) = absurd b

in_kind : (x y : ℕ) → KindQuantifies 3 x y (kind_pi fam_c (kind_pi fam_c star)) → high_below y x ≡ true
in_kind x y (inl (p, q)) = subst (λ j. high_below j x ≡ true) q refl
in_kind x y (inr (inl b)) = absurd b
in_kind x y (inr (inr (inl (p, q)))) = subst (λ j. high_below j x ≡ true) q refl
in_kind x y (inr (inr (inr (inl b)))) = absurd b
in_kind x y (inr (inr (inr (inr b)))) = absurd b

tested : {x y : ℕ} → Below High [] x y → high_below y x ≡ true
tested {x} below_itself = reflexive x
tested {x} {y} (below_through {b = b} p q) = transitive y b x (tested q) (tested p)
tested {x} {y} (below_in_constant zero U e q) = in_constant x y (subst (Quantifies x y) (sym (some_same e)) q)
tested {x} {y} (below_in_constant (suc zero) U e q) = absurd (subst (Quantifies x y) (sym (some_same e)) q)
tested {x} {y} (below_in_constant (suc (suc zero)) U e q) = absurd (subst (Quantifies x y) (sym (some_same e)) q)
tested {x} {y} (below_in_constant (suc (suc (suc i))) U e q) = absurd (none_some e)
tested {x} {y} (below_in_kind zero K e q) = absurd (subst (KindQuantifies 0 x y) (sym (some_same e)) q)
tested {x} {y} (below_in_kind (suc zero) K e q) = absurd (subst (KindQuantifies 1 x y) (sym (some_same e)) q)
tested {x} {y} (below_in_kind (suc (suc zero)) K e q) = absurd (subst (KindQuantifies 2 x y) (sym (some_same e)) q)
tested {x} {y} (below_in_kind (suc (suc (suc zero))) K e q) = in_kind x y (subst (KindQuantifies 3 x y) (sym (some_same e)) q)
tested {x} {y} (below_in_kind (suc (suc (suc (suc i)))) K e q) = absurd (none_some e)
tested {x} {y} (below_in_entry B E m k q) = absurd m

false_true : false ≡ true → ⊥
false_true e = cc

pub high_is_lost : HighIsLost
high_is_lost = (high_typed, (λ b. low b), (λ h. absurd cc), refl, no_split)
  where
    low : Below High [] 2 0 → ⊥
    low b = absurd (false_true (tested b))
