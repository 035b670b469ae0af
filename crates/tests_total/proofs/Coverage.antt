-- The inputs and outputs of these tests are covered, and what is below ok.
use Rattle.std.proofs.Common.{◌≡◌, ℕ, zero, suc, List, [], ◌∷◌, ◌<◌, refl, sym, ap, ◌∙◌, subst, inl, inr, arith, true≢false}
use Rattle.std.specs.Prelude.{Bool, true, false, Some}
use Rattle.lf.specs.Syntax.{constant, Term, Spine, lambda, root, nil, app, LfType, Kind, base}
use Rattle.lf.specs.Substitution.{Image, keep, put, substitute_type, reduce}
use Rattle.lf.specs.Typing.{Signature, TypeAt, HasType, SpineType, ImageHasType}
use Rattle.lf.specs.Variables.{target, Values, UsesType}
use Rattle.lf.specs.Subordination.{Block, Member, Below, Quantifies, KindQuantifies, IsBelowTest, below_itself, below_through, below_in_constant, below_in_kind, below_in_entry}
use Rattle.lf.specs.Worlds.{World}
use Rattle.lf.specs.Extension.{Extends}
use Rattle.lf.proofs.Decidability.{variable_type_unique}
use Rattle.lf_checks.specs.Clause.{scope}
use Rattle.lf_checks.specs.Marks.{TypedPlaces}
use Rattle.lf_checks.specs.Ground.{Subgoals, ground_first}
use Rattle.lf_cases.specs.Cover.{AreTerms, CoveredBy, CoveredInputs, CoveredOutputs, by_constant}
use Rattle.lf_cases.specs.Heads.{EntryIn, HeadIsKnown}
use Rattle.lf_cases.proofs.Heads.{head_known}
use Rattle.lf_totality.specs.Checks.{AreAllBelow}
use Rattle.lf_totality.proofs.ExampleLemmas.{step}
use Rattle.lf_totality.proofs.Low.{no_outputs}
use Rattle.tests_total.specs.Declared.{e_type, c_term, t_type, ok_c_type, yes_c_type, predicate_kind}
use Rattle.tests_total.proofs.Entries.{Declarations, each_constant, each_family}
use Rattle.tests_total.proofs.Clauses.{ArePlain, plain_entry, ok_c, yes_c, ok_x, marks}

some_type : {A B : LfType} → Some A ≡ Some B → A ≡ B
some_type e = cc

some_kind : {K L : Kind} → Some K ≡ Some L → K ≡ L
some_kind e = cc

-- e and ok
abbrev pub below_ok : ℕ → Bool
below_ok zero = true
below_ok (suc zero) = false
below_ok (suc (suc zero)) = false
below_ok (suc (suc (suc zero))) = true
below_ok (suc (suc (suc (suc n)))) = false

pub in_below : (V : List Block) → AreAllBelow Declarations V below_ok 3
in_below V zero e = below_in_kind 3 predicate_kind refl (inl (refl, refl))
in_below V (suc zero) e = absurd cc
in_below V (suc (suc zero)) e = absurd cc
in_below V (suc (suc (suc zero))) e = below_itself
in_below V (suc (suc (suc (suc n)))) e = absurd cc

-- nothing else is below them
module _ (V : List Block) (p : ArePlain V) where
  abbrev Keeps : ℕ → ℕ → Type 0
  Keeps a b = below_ok b ≡ true → below_ok a ≡ true

  not_below : (a b : ℕ) → 5 ≡ b → Keeps a b
  not_below a b e h = absurd (true≢false (sym h ∙ ap below_ok (sym e)))

  first_below : (a b : ℕ) → 0 ≡ a → Keeps a b
  first_below a b e h = ap below_ok (sym e)

  by_type : (a b : ℕ) (k : ℕ) (U : LfType) → Declarations.types k ≡ Some U → Quantifies a b U → Keeps a b
  by_type a b = each_constant (λ k U. Quantifies a b U → Keeps a b) (λ q. absurd q) (λ q. absurd q) yes
    where
      yes : Quantifies a b yes_c_type → Keeps a b
      yes (inl (e, g)) = not_below a b g
      yes (inr (inl q)) = absurd q
      yes (inr (inr (inl (e, g)))) = not_below a b g
      yes (inr (inr (inr (inl q)))) = absurd q
      yes (inr (inr (inr (inr q)))) = absurd q

  by_kind : (a b : ℕ) (f : ℕ) (K : Kind) → Declarations.kinds f ≡ Some K → KindQuantifies f a b K → Keeps a b
  by_kind a b = each_family (λ f K. KindQuantifies f a b K → Keeps a b) (λ q. absurd q) (λ q. absurd q) (one 3) (one 5)
    where
      one : (f : ℕ) → KindQuantifies f a b predicate_kind → Keeps a b
      one f (inl (e, g)) = first_below a b e
      one f (inr (inl q)) = absurd q
      one f (inr (inr q)) = absurd q

  by_entry : (a b : ℕ) (B : Block) (E : LfType) → Member B V → Member E B.entries → Quantifies a b E → Keeps a b
  by_entry a b B E i j q = let (l, e) = p B i in only (subst (Member E) (ap (λ X. X.entries) e) j)
    where
      only : Member E (t_type ∷ []) → Keeps a b
      only (inl e) = absurd (subst (Quantifies a b) e q)
      only (inr m) = absurd m

  kept : {a b : ℕ} → Below Declarations V a b → Keeps a b
  kept below_itself h = h
  kept (below_through q r) h = kept q (kept r h)
  kept (below_in_constant {a = a} {b = b} c U e q) h = by_type a b c U e q h
  kept (below_in_kind {a = a} {b = b} f K e q) h = by_kind a b f K e q h
  kept (below_in_entry {a = a} {b = b} B E i j q) h = by_entry a b B E i j q h

  pub ok_below : IsBelowTest Declarations V below_ok 3
  ok_below b = (in_below V b, λ q. kept q refl)

-- a term of e is c
module _ (W : List Block) (p : ArePlain W) (Σ : Signature) (x : Extends below_ok Declarations Σ) (G : List LfType) (w : World Σ W below_ok G) where
  constant_is : (k : ℕ) (U : LfType) → Declarations.types k ≡ Some U → target U ≡ 0 → k ≡ 1
  constant_is = each_constant (λ k U. target U ≡ 0 → k ≡ 1) (λ q. refl) (λ q. omega arith) (λ q. omega arith)

  c_alone : (T : Spine) → HasType Σ G (root (constant 1) T) e_type → T ≡ nil
  c_alone T (A, e, r) = none T (subst (λ X. SpineType Σ G T X e_type) (some_type (sym e ∙ x.types_stay 1 e_type refl)) r)
    where
      none : (T : Spine) → SpineType Σ G T e_type e_type → T ≡ nil
      none nil r = refl
      none (app M T) r = absurd r

  differ : ◌≡◌ {A = ℕ} 0 2 → ⊥
  differ e = omega arith

  pub e_term : (M : Term) → HasType Σ G M e_type → M ≡ c_term
  e_term (lambda M) m = absurd m
  e_term (root h T) m = by (head_known Declarations Σ W below_ok x G [] w h T 0 nil refl m)
    where
      by : HeadIsKnown Declarations [] w h 0 → root h T ≡ c_term
      by (inl (k, U, e, t, g)) =
          let q : h ≡ constant 1 = e ∙ ap constant (constant_is k U t g) in
          ap (λ h. root h T) q ∙ ap (root (constant 1)) (c_alone T (subst (λ h. HasType Σ G (root h T) e_type) q m))
      by (inr (inl (i, A, e, l, g, t))) = absurd (none i l)
        where
          none : (i : ℕ) → i < 0 → ⊥
          none i l = omega arith
      by (inr (inr (j, e, entry))) = absurd (of_t j entry)
        where
          of_t : (j : ℕ) → EntryIn w j 0 → ⊥
          of_t j (B, i, later, E, es, q, t, θ, v, k) = differ (sym t ∙ ap target (plain_entry W p B i later E es q))

  ok_case : (T : Spine) → TypedPlaces Σ (true ∷ []) G T predicate_kind → CoveredBy w (true ∷ []) 3 T
  ok_case nil t = absurd t
  ok_case (app M nil) (m, i) = record { head = constant 4; clause = ok_c; outer = keep; values = keep; offered = by_constant 4 ok_c_type (x.types_stay 4 ok_c_type refl); family = refl; typed = record { typed = λ i A g u. absurd g; closed = λ i A g u. absurd g }; agrees = λ j X g. absurd g; terms = λ i o u. absurd cc; same = (e_term M m, tt); uses = (tt, tt) }
  ok_case (app M (app N T)) t = absurd t.1

pub ok_covered : (W : List Block) → ArePlain W → CoveredInputs Declarations marks W below_ok 3
ok_covered W p Σ x G w T K e t = ok_case W p Σ x G w T (subst (TypedPlaces Σ (true ∷ []) G T) (some_kind (sym e ∙ x.kinds_stay 3 predicate_kind refl)) t)

-- the value of X in yes-c
abbrev images : Term → ℕ → Image
images N zero = keep 0
images N (suc zero) = put (base 0) N
images N (suc (suc i)) = keep i

abbrev ground : ℕ → Bool
ground = ground_first marks yes_c

yes_values : (Σ : Signature) (G : List LfType) (N : Term) → HasType Σ G N e_type → Values Σ ground (scope yes_c) G (images N)
yes_values Σ G N n = record { typed = typed; closed = closed }
  where
    typed : (i : ℕ) (A : LfType) → TypeAt (scope yes_c) i A → ground i ≡ true → ImageHasType Σ G (images N i) (substitute_type reduce (images N) A)
    typed zero A g u = absurd cc
    typed (suc zero) A g u = subst (λ X. ImageHasType Σ G (put (base 0) N) (substitute_type reduce (images N) X)) (sym (variable_type_unique (scope yes_c) 1 A e_type g (e_type, refl, refl))) (refl, n)
    typed (suc (suc i)) A (C, (D, g, e), f) u = absurd g

    closed : (i : ℕ) (A : LfType) → TypeAt (scope yes_c) i A → ground i ≡ true → UsesType ground A
    closed zero A g u = absurd cc
    closed (suc zero) A g u = subst (UsesType ground) (sym (variable_type_unique (scope yes_c) 1 A e_type g (e_type, refl, refl))) tt
    closed (suc (suc i)) A (C, (D, g, e), f) u = absurd g

yes_terms : (N : Term) → AreTerms yes_c ground (images N)
yes_terms N zero o u = absurd cc
yes_terms N (suc zero) o u = tt
yes_terms N (suc (suc i)) o u = absurd cc

-- each term is an instance of X
pub yes_covered : (W : List Block) (S : ℕ → Bool) → CoveredInputs Declarations marks W S 5
yes_covered W S Σ x G w T K e t = go T (subst (TypedPlaces Σ (true ∷ []) G T) (some_kind (sym e ∙ x.kinds_stay 5 predicate_kind refl)) t)
  where
    go : (T : Spine) → TypedPlaces Σ (true ∷ []) G T predicate_kind → CoveredBy w (true ∷ []) 5 T
    go nil t = absurd t
    go (app M nil) (m, i) = record { head = constant 6; clause = yes_c; outer = keep; values = images M; offered = by_constant 6 yes_c_type (x.types_stay 6 yes_c_type refl); family = refl; typed = yes_values Σ G M m; agrees = λ j X g. absurd g; terms = yes_terms M; same = (sym (Rattle.lf.proofs.Eta.reduce_nil (base 0) M), tt); uses = ((refl, tt), tt) }
    go (app M (app N T)) t = absurd t.1

pub yes_outputs : (W : List Block) (S : ℕ → Bool) → Subgoals marks yes_c (λ U A. CoveredOutputs Declarations marks W S yes_c U A) (λ U. Unit {0})
yes_outputs W S = step marks yes_c (λ U A. CoveredOutputs Declarations marks W S yes_c U A) (λ U. Unit {0}) 1 0 ground ok_x refl (no_outputs Declarations marks W S yes_c ground ok_x tt ((refl, tt), tt), tt)
