-- What occurs in a type is below it. So what is raised over variables of families below its own, and over those that occur, quantifies only over what
-- is below.
use Rattle.std.proofs.Common.{◌≡◌, ℕ, zero, suc, ◌⊎◌, List, [], ◌∷◌, inl, inr, refl, sym, ap, ◌∙◌, subst}
use Rattle.std.specs.Prelude.{Bool, true, false, cond}
use Rattle.lf.specs.Syntax.{constant, variable, metavariable, Term, Spine, lambda, root, nil, app, LfType, pi, atom, lift_renaming, rename, rename_spine, rename_type}
use Rattle.lf.specs.Typing.{Signature, TypeAt, IsType, IsSignature}
use Rattle.lf.specs.Variables.{target, UsesType, same_number, at_variable}
use Rattle.lf.specs.Subordination.{Block, AreTypedBlocks, IsBelowTest, IsDeclared, SelfContained}
use Rattle.lf.proofs.Strength.{Rich}
use Rattle.lf.proofs.Target.{target_renamed}
use Rattle.lf_unification.specs.Search.{occurs, occurs_spine, occurs_type}
use Rattle.lf_checks.specs.Below.{IsSubordination}
use Rattle.lf_checks.specs.Tests.{either}
use Rattle.lf_checks.proofs.Listed.{same_self}
use Rattle.lf_checks.proofs.ModeRefuted.{used}
use Rattle.lf_checks.proofs.Reach.{number_equal}
use Rattle.lf_checks.proofs.StrictTypes.{either_cases}
use Rattle.lf_cases.specs.Raised.{raise_by, raised_over}
use Rattle.lf_cases.proofs.GroundTypes.{either_left}
use Rattle.lf_cases.proofs.Subordinate.{below_is_subordination}
use Rattle.lf_totality.proofs.After.{Extends-self}
use Rattle.lf_coverage.specs.Subordinate.{QuantifiersAreBelow, AllQuantifiersAreBelow}
use Rattle.lf_coverage.specs.SubordinateRuns.{OccurringIsBelow, RaisedQuantifiesBelow}
use Rattle.lf_coverage.proofs.Choices.{either_second}
use Rattle.lf_coverage.proofs.Strip.{type_uses}
use Rattle.lf_coverage.proofs.Subordinate.{families_below, below_renamed, below_at}

-- A variable that occurs in a type is used.
used_type : (U : ℕ → Bool) (x : ℕ) (A : LfType) → UsesType U A → occurs_type x A ≡ true → U x ≡ true
used_type U x (pi A B) (u, v) o = by (either_cases (occurs_type x A) (occurs_type (suc x) B) o) (used_type U x A u) (used_type _ (suc x) B v)
  where
    by : (occurs_type x A ≡ true) ⊎ (occurs_type (suc x) B ≡ true) → (occurs_type x A ≡ true → U x ≡ true) → (occurs_type (suc x) B ≡ true → U x ≡ true) → U x ≡ true
    by (inl e) f g = f e
    by (inr e) f g = g e
used_type U x (atom a S) u o = used U x (root (constant zero) S) u o

-- It occurs in the renamed type, renamed.
one_of : {a b c d : Bool} → (a ≡ true → c ≡ true) → (b ≡ true → d ≡ true) → either a b ≡ true → either c d ≡ true
one_of {a = a} {b = b} {c = c} {d = d} f g e = by (either_cases a b e)
  where
    by : (a ≡ true) ⊎ (b ≡ true) → either c d ≡ true
    by (inl p) = either_left d (f p)
    by (inr p) = either_second c d (g p)

mutual
  occurs_renamed : (ρ : ℕ → ℕ) (x : ℕ) (M : Term) → occurs x M ≡ true → occurs (ρ x) (rename ρ M) ≡ true
  occurs_renamed ρ x (lambda M) e = occurs_renamed (lift_renaming ρ) (suc x) M e
  occurs_renamed ρ x (root (constant c) S) e = occurs_spine_renamed ρ x S e
  occurs_renamed ρ x (root (metavariable m) S) e = occurs_spine_renamed ρ x S e
  occurs_renamed ρ x (root (variable i) S) e = one_of {a = same_number x i} (λ p. subst (λ j. same_number (ρ x) (ρ j) ≡ true) (number_equal x i p) (same_self (ρ x))) (occurs_spine_renamed ρ x S) e

  occurs_spine_renamed : (ρ : ℕ → ℕ) (x : ℕ) (S : Spine) → occurs_spine x S ≡ true → occurs_spine (ρ x) (rename_spine ρ S) ≡ true
  occurs_spine_renamed ρ x nil e = absurd cc
  occurs_spine_renamed ρ x (app M S) e = one_of {a = occurs x M} (occurs_renamed ρ x M) (occurs_spine_renamed ρ x S) e

occurs_type_renamed : (ρ : ℕ → ℕ) (x : ℕ) (A : LfType) → occurs_type x A ≡ true → occurs_type (ρ x) (rename_type ρ A) ≡ true
occurs_type_renamed ρ x (pi A B) e = one_of {a = occurs_type x A} (occurs_type_renamed ρ x A) (occurs_type_renamed (lift_renaming ρ) (suc x) B) e
occurs_type_renamed ρ x (atom a S) e = occurs_spine_renamed ρ x S e

pub target_declared : (Σ : Signature) (G : List LfType) (A : LfType) → IsType Σ G A → IsDeclared Σ (target A)
target_declared Σ G (pi A B) (a, b) = target_declared Σ (A ∷ G) B b
target_declared Σ G (atom a S) (K, e, s) = (K, e)

-- A type under m quantifiers, each over what is of a family below f, or occurs in the rest; f is its own family.
module _ (below : ℕ → ℕ → Bool) where
  abbrev IsRaisedOver : ℕ → ℕ → LfType → Type 0
  IsRaisedOver f zero R = (target R ≡ f) × QuantifiersAreBelow below R
  IsRaisedOver f (suc m) (pi E R) = QuantifiersAreBelow below E × ((below f (target E) ≡ true) ⊎ (occurs_type zero R ≡ true)) × IsRaisedOver f m R
  IsRaisedOver f (suc m) (atom a S) = ⊥

  raised_target : (f m : ℕ) (R : LfType) → IsRaisedOver f m R → target R ≡ f
  raised_target f zero R h = h.0
  raised_target f (suc m) (pi E R) (e, o, h) = raised_target f m R h
  raised_target f (suc m) (atom a S) h = absurd h

  raised_renamed : (ρ : ℕ → ℕ) (f m : ℕ) (R : LfType) → IsRaisedOver f m R → IsRaisedOver f m (rename_type ρ R)
  raised_renamed ρ f zero R h = (target_renamed ρ R ∙ h.0, below_renamed below ρ R h.1)
  raised_renamed ρ f (suc m) (pi E R) (e, o, h) = (below_renamed below ρ E e, by o, raised_renamed (lift_renaming ρ) f m R h)
    where
      by : (below f (target E) ≡ true) ⊎ (occurs_type zero R ≡ true) → (below f (target (rename_type ρ E)) ≡ true) ⊎ (occurs_type zero (rename_type (lift_renaming ρ) R) ≡ true)
      by (inl l) = inl (ap (below f) (target_renamed ρ E) ∙ l)
      by (inr p) = inr (occurs_type_renamed (lift_renaming ρ) zero R p)
  raised_renamed ρ f (suc m) (atom a S) h = absurd h

  raise : (f : ℕ) (D : List LfType) (B : LfType) (m : ℕ) → AllQuantifiersAreBelow below D → IsRaisedOver f m B → (n : ℕ) × IsRaisedOver f n (raise_by (raised_over (below f) D B) D B)
  raise f [] B m d h = (m, h)
  raise f (A ∷ D) B m (a, d) h = by (λ C k c. raise f D C k d c) (either (below f (target A)) (occurs_type zero B)) refl
    where
      by : ((C : LfType) (k : ℕ) → IsRaisedOver f k C → (n : ℕ) × IsRaisedOver f n (raise_by (raised_over (below f) D C) D C)) → (b : Bool) → either (below f (target A)) (occurs_type zero B) ≡ b → (n : ℕ) × IsRaisedOver f n (raise_by (b ∷ raised_over (below f) D (cond b (pi A B) (rename_type (at_variable zero) B))) (A ∷ D) B)
      by ih true p = ih (pi A B) (suc m) (a, either_cases (below f (target A)) (occurs_type zero B) p, h)
      by ih false p = ih (rename_type (at_variable zero) B) m (raised_renamed (at_variable zero) f m B h)

module _ (Σ : Signature) (ok : IsSignature Σ) (W : List Block) (typed : AreTypedBlocks Σ W) (below : ℕ → ℕ → Bool) (test : (f : ℕ) → IsBelowTest Σ W (below f) f) where
  sub : IsSubordination Σ W below
  sub = below_is_subordination Σ ok W typed below test

  -- all variables but the newest, and this where its family is below f
  abbrev with_low : ℕ → LfType → ℕ → Bool
  with_low f A zero = below f (target A)
  with_low f A (suc i) = true

  low_is_rich : (f : ℕ) (A : LfType) (G : List LfType) → AllQuantifiersAreBelow below (A ∷ G) → Rich (below f) (with_low f A) (A ∷ G)
  low_is_rich f A G h i Y g t = (low i g, families_below below Σ W sub f Y (below_at below (A ∷ G) h i Y g) t)
    where
      low : (i : ℕ) → TypeAt (A ∷ G) i Y → with_low f A i ≡ true
      low zero e = ap (below f) (sym (ap target e ∙ target_renamed suc A)) ∙ t
      low (suc i) e = refl

  -- What occurs in a type is below it.
  occurring : (A : LfType) (G : List LfType) (B : LfType) → AllQuantifiersAreBelow below (A ∷ G) → QuantifiersAreBelow below B → IsType Σ (A ∷ G) B → occurs_type zero B ≡ true → below (target B) (target A) ≡ true
  occurring A G B h q t o =
      let f : ℕ = target B in
      let s : SelfContained Σ W (below f) = sub.self_contained f (target_declared Σ (A ∷ G) B t) in
      used_type (with_low f A) zero B (type_uses Σ Σ W (below f) (Extends-self (below f) Σ ok) s (with_low f A) (A ∷ G) B (low_is_rich f A G h) (families_below below Σ W sub f B q (sub.itself f)) t) o

  -- So each of these quantifiers is over what is below.
  over_below : (f m : ℕ) (R : LfType) (G : List LfType) → IsRaisedOver below f m R → AllQuantifiersAreBelow below G → IsType Σ G R → QuantifiersAreBelow below R
  over_below f zero R G h g t = h.1
  over_below f (suc m) (pi E R) G (e, o, h) g (te, tr) = let q = over_below f m R (E ∷ G) h (e, g) tr in (by q o, e, q)
    where
      by : QuantifiersAreBelow below R → (below f (target E) ≡ true) ⊎ (occurs_type zero R ≡ true) → below (target R) (target E) ≡ true
      by q (inl l) = ap (λ k. below k (target E)) (raised_target below f m R h) ∙ l
      by q (inr p) = occurring E G R (e, g) q tr p
  over_below f (suc m) (atom a S) G h g t = absurd h

  raised_below : (D G : List LfType) (B : LfType) → AllQuantifiersAreBelow below D → AllQuantifiersAreBelow below G → QuantifiersAreBelow below B → IsType Σ G (raise_by (raised_over (below (target B)) D B) D B) → QuantifiersAreBelow below (raise_by (raised_over (below (target B)) D B) D B)
  raised_below D G B d g b t = let (n, r) = raise below (target B) D B zero d (refl, b) in over_below (target B) n (raise_by (raised_over (below (target B)) D B) D B) G r g t

pub occurring_is_below : OccurringIsBelow
occurring_is_below Σ ok W typed below test A G B g b t o = occurring Σ ok W typed below test A G B g b t o

pub raised_quantifies_below : RaisedQuantifiesBelow
raised_quantifies_below Σ ok W typed below test D G B d g b t = raised_below Σ ok W typed below test D G B d g b t
