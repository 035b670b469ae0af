-- A call that drops by a fact about sizes, which holds since the subgoal before it is solved.
use Rattle.std.proofs.Common.{◌≡◌, ℕ, zero, suc, List, [], ◌∷◌, ◌<◌, ◌≤◌, ◌+◌, refl, sym, ap, ◌∙◌, subst, arith, inl, inr}
use Rattle.std.specs.Prelude.{true, false, Some}
use Rattle.lf.specs.Syntax.{Head, constant, Term, Spine, lambda, root, nil, app, LfType, pi, atom, base}
use Rattle.lf.specs.Substitution.{Image, keep, put, substitute, substitute_type, reduce}
use Rattle.lf.specs.Typing.{Signature, HasType, SpineType}
use Rattle.lf.specs.Variables.{target, nothing}
use Rattle.lf.specs.Subordination.{Member}
use Rattle.lf.specs.Worlds.{World}
use Rattle.lf.specs.Extension.{Extends}
use Rattle.lf_checks.specs.Clause.{Clause, IsClause, IsSubgoal, constant_clause, from_constant, from_entry, outside}
use Rattle.lf_checks.specs.Order.{size}
use Rattle.lf_checks.specs.Descent.{CallsLead}
use Rattle.lf_cases.specs.Heads.{EntryIn, HeadIsKnown}
use Rattle.lf_cases.proofs.Heads.{head_known}
use Rattle.lf_totality.specs.Sizes.{AreLess, SizesDrop, SizesDropBy, call_sizes, head_sizes}
use Rattle.lf_totality.specs.Facts.{AreKnown, Fact, FactsHold, CallsDropWith, Holds, IsCalled}
use Rattle.lf_totality.specs.Examples.{var, on_two, z, successor, first_place}
use Rattle.lf_totality.specs.ExamplesFacts.{Echo, all_three, down, down_call, down_s, echo_facts, echo_record, echo_types, no_greater, same_c, FactMakesCallsDrop}

some_type : {A B : LfType} → Some A ≡ Some B → A ≡ B
some_type e = cc

some_term : {M N : Term} → Some M ≡ Some N → M ≡ N
some_term e = cc

-- for each clause of down
down_clauses : (P : Clause → Type 0) → P (constant_clause (down z)) → P down_s → (c : Clause) → IsClause Echo [] c → Member (target c.type) (2 ∷ []) → P c
down_clauses P a b c (from_entry B later E es i q) g = absurd i
down_clauses P a b c (from_constant k U e) (inr m) = absurd m
down_clauses P a b c (from_constant k U e) (inl g) = by k U e g
  where
    by : (k : ℕ) (U : LfType) → echo_types k ≡ Some U → target U ≡ 2 → P (constant_clause U)
    by zero U e g = let q : ◌≡◌ {A = ℕ} 0 2 = ap target (some_type e) ∙ g in absurd (omega arith)
    by (suc zero) U e g = let q : ◌≡◌ {A = ℕ} 0 2 = ap target (some_type e) ∙ g in absurd (omega arith)
    by (suc (suc zero)) U e g = let q : ◌≡◌ {A = ℕ} 1 2 = ap target (some_type e) ∙ g in absurd (omega arith)
    by (suc (suc (suc zero))) U e g = subst (λ X. P (constant_clause X)) (some_type e) a
    by (suc (suc (suc (suc zero)))) U e g = subst (λ X. P (constant_clause X)) (some_type e) b
    by (suc (suc (suc (suc (suc n))))) U e g = absurd cc

-- The only call to the group is that of down-s at index 1.
abbrev OneCall : Clause → (ℕ → LfType → Type 0) → Type 0
OneCall c P = (i : ℕ) (A : LfType) → IsSubgoal c i A → Member (target A) (2 ∷ []) → P i A

no_call_of_z : (P : ℕ → LfType → Type 0) → OneCall (constant_clause (down z)) P
no_call_of_z P i A (v, g) m = absurd g

one_call : (P : ℕ → LfType → Type 0) → P 1 down_call → OneCall down_s P
one_call P p zero A (v, g) m = absurd (apart (subst (λ X. Member (target X) (2 ∷ [])) g m))
  where
    apart : Member {A = ℕ} 1 (2 ∷ []) → ⊥
    apart (inl e) = omega arith
    apart (inr m) = m
one_call P p (suc zero) A (v, (C, g, e)) m = subst (P 1) (sym (e ∙ ap Rattle.lf.specs.Syntax.weaken g)) p
one_call P p (suc (suc zero)) A (v, g) m = absurd cc
one_call P p (suc (suc (suc zero))) A (v, g) m = absurd cc
one_call P p (suc (suc (suc (suc i)))) A (v, (C, (D, (E, (F, g, e), e1), e2), e3)) m = absurd g

-- an inhabitant of same M N shows that M and N are the same, in each extension and context of no blocks
module _ (Σ : Signature) (x : Extends all_three Echo Σ) (G : List LfType) (w : World Σ [] all_three G) (M N : Term) where
  constant_is : (k : ℕ) (U : LfType) → echo_types k ≡ Some U → target U ≡ 1 → U ≡ same_c.type
  constant_is zero U e g = let q : ◌≡◌ {A = ℕ} 0 1 = ap target (some_type e) ∙ g in absurd (omega arith)
  constant_is (suc zero) U e g = let q : ◌≡◌ {A = ℕ} 0 1 = ap target (some_type e) ∙ g in absurd (omega arith)
  constant_is (suc (suc zero)) U e g = sym (some_type e)
  constant_is (suc (suc (suc zero))) U e g = let q : ◌≡◌ {A = ℕ} 2 1 = ap target (some_type e) ∙ g in absurd (omega arith)
  constant_is (suc (suc (suc (suc zero)))) U e g = let q : ◌≡◌ {A = ℕ} 2 1 = ap target (some_type e) ∙ g in absurd (omega arith)
  constant_is (suc (suc (suc (suc (suc n))))) U e g = absurd cc

  first_argument : Spine → Term
  first_argument (app P S) = P
  first_argument nil = z

  second_argument : Spine → Term
  second_argument (app P S) = first_argument S
  second_argument nil = z

  arguments : LfType → Spine
  arguments (atom a S) = S
  arguments (pi A B) = nil

  of_same : (T : Spine) → SpineType Σ G T same_c.type (on_two 1 M N) → N ≡ M
  unfolding second_argument first_argument arguments
  of_same nil r = absurd cc
  of_same (app P nil) (p, r) = sym (ap (λ A. second_argument (arguments A)) r) ∙ ap (λ A. first_argument (arguments A)) r
  of_same (app P (app Q T)) (p, r) = absurd r

  pub same_arguments : (D : Term) → HasType Σ G D (on_two 1 M N) → N ≡ M
  same_arguments (lambda D) d = absurd d
  same_arguments (root h T) d = by (head_known Echo Σ [] all_three x G [] w h T 1 (app M (app N nil)) refl d)
    where
      by : HeadIsKnown Echo [] w h 1 → N ≡ M
      by (inl (k, U, e, t, g)) = typed (subst (λ h. HasType Σ G (root h T) (on_two 1 M N)) e d)
        where
          typed : HasType Σ G (root (constant k) T) (on_two 1 M N) → N ≡ M
          typed (A, q, r) = of_same T (subst (λ X. SpineType Σ G T X (on_two 1 M N)) (some_type (sym q ∙ x.types_stay k U t) ∙ constant_is k U t g) r)
      by (inr (inl (i, A, e, l, g, t))) = absurd (none i l)
        where
          none : (i : ℕ) → i < 0 → ⊥
          none i l = omega arith
      by (inr (inr (j, e, entry))) = absurd (no_block j entry)
        where
          no_block : (j : ℕ) → EntryIn w j 1 → ⊥
          no_block j (B, i, later, E, es, q, t, θ, v, k) = i

-- so Y is no greater than X where down Y is called
facts_hold : FactsHold echo_facts Echo echo_record
facts_hold = down_clauses (λ c. (i : ℕ) (A : LfType) → IsSubgoal c i A → Member (target A) (2 ∷ []) → (σ : ℕ → Image) → IsCalled Echo echo_record c i σ → (f : Fact) → Member f (echo_facts c i) → Holds σ f) (no_call_of_z (λ i A. (σ : ℕ → Image) → IsCalled Echo echo_record (constant_clause (down z)) i σ → (f : Fact) → Member f (echo_facts (constant_clause (down z)) i) → Holds σ f)) (one_call (λ i A. (σ : ℕ → Image) → IsCalled Echo echo_record down_s i σ → (f : Fact) → Member f (echo_facts down_s i) → Holds σ f) at_call)
  where
    at_call : (σ : ℕ → Image) → IsCalled Echo echo_record down_s 1 σ → (f : Fact) → Member f (no_greater ∷ []) → Holds σ f
    at_call σ called f (inl e) = subst (Holds σ) (sym e) (by (called.solved 0 (on_two 1 (var 3) (var 2)) (omega arith) (refl, refl)))
      where
        equal : (M N : Term) → N ≡ M → size N ≤ size M
        equal M N e = subst (λ X. size X ≤ size M) (sym e) (omega arith)

        by : (D : Term) × HasType called.later called.context D (substitute_type reduce σ (on_two 1 (var 3) (var 2))) → Holds σ no_greater
        by (D, d) = equal (substitute reduce σ (var 3)) (substitute reduce σ (var 2)) (same_arguments called.later called.extends called.context called.world (substitute reduce σ (var 3)) (substitute reduce σ (var 2)) D d)
    at_call σ called f (inr m) = absurd m

abbrev Drops : Clause → ℕ → LfType → Type 0
Drops c i A = SizesDropBy (AreKnown echo_facts c i) ((false ≡ true) × (CallsLead (λ a b. false) (target A) (target c.type) → ⊥)) first_place c A

calls_drop : CallsDropWith echo_facts (λ a b. false) Echo echo_record first_place
calls_drop = down_clauses (λ c. (i : ℕ) (A : LfType) → IsSubgoal c i A → Member (target A) (2 ∷ []) → Drops c i A) (no_call_of_z (Drops (constant_clause (down z)))) (one_call (Drops down_s) (inl at_call))
  where
    at_call : (σ : ℕ → Image) → AreKnown echo_facts down_s 1 σ → AreLess (call_sizes first_place σ down_call) (head_sizes first_place σ down_s)
    at_call σ (k, known) = inl (smaller (size (substitute reduce σ (var 2))) (size (substitute reduce σ (var 3))) (known no_greater (inl refl)), refl)
      where
        smaller : (a b : ℕ) → a ≤ b → a < suc (b + 0)
        smaller a b l = omega arith

-- by the orders alone they don't: X may be z, and Y be s (s z)
not_by_orders : SizesDrop Echo [] first_place (2 ∷ []) down_s down_call → ⊥
not_by_orders (inl less) = greater (less images (λ i e. absurd (none i e)))
  where
    images : ℕ → Image
    images zero = keep 0
    images (suc zero) = keep 1
    images (suc (suc zero)) = put (base 0) (successor (successor z))
    images (suc (suc (suc i))) = put (base 0) z

    none : (i : ℕ) → outside down_s.type nothing i ≡ true → ⊥
    none zero e = absurd cc
    none (suc zero) e = absurd cc
    none (suc (suc zero)) e = absurd cc
    none (suc (suc (suc zero))) e = absurd cc
    none (suc (suc (suc (suc i)))) e = absurd cc

    greater : AreLess (3 ∷ []) (2 ∷ []) → ⊥
    greater (inl (l, e)) = omega arith
    greater (inr (e, l)) = l
not_by_orders (inr (((M, p, q), n), least)) = let r : var 2 ≡ successor (var 3) = some_term (p ∙ sym q) in absurd cc

pub fact_makes_calls_drop : FactMakesCallsDrop
fact_makes_calls_drop = (facts_hold, calls_drop, not_by_orders)
