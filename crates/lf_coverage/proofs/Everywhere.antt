-- What is kept of types that looks only at their families: which there are, and which is quantified over which. Renaming, putting in and solving
-- change terms alone, and leave quantifiers out.
use Rattle.std.proofs.Common.{◌≡◌, ℕ, zero, suc, ◌⊎◌, List, [], ◌∷◌, inl, inr, refl, sym, ap, ◌∙◌, subst}
use Rattle.std.specs.Prelude.{Option, Some, None}
use Rattle.std.specs.List.{AllByRecursion}
use Rattle.lf.specs.Syntax.{Term, Spine, Skeleton, LfType, pi, atom, weaken, lift_renaming, rename_type}
use Rattle.lf.specs.Substitution.{Image, lift, substitute_type}
use Rattle.lf.specs.Typing.{Signature, TypeAt}
use Rattle.lf.specs.Variables.{target, onto}
use Rattle.lf_unification.specs.Dependency.{IsDependencyOrder, ListedMetavariable, add_free, free_context, values}
use Rattle.lf_unification.specs.Filling.{fill_type, moved}
use Rattle.lf_unification.specs.Offering.{pi_over}
use Rattle.lf_unification.specs.OpenTyping.{set_at}
use Rattle.lf_unification.specs.Pruning.{PrunedType, pruned_type}
use Rattle.lf_unification.specs.Putting.{PutsInType, put_in_atom, put_in_pi}
use Rattle.lf_unification.specs.Steps.{Step, next_equation, put_bindings, drop_equal, open_lambdas, equal_heads, bind, prune_inside, prune_both, renew, Run, no_step, then_run}
use Rattle.lf_unification.specs.Unifiers.{Binding, Store}
use Rattle.lf_unification.proofs.Agree.{set_here, set_cases}
use Rattle.lf_coverage.specs.SplitStore.{open_type, open_some, type_in, weaken_some, context_metavariables}
use Rattle.lf_coverage.proofs.Parts.{some_same}

-- the same families at the same places
abbrev pub SameFamilies : LfType → LfType → Type 0
SameFamilies (pi A B) (pi A' B') = SameFamilies A A' × SameFamilies B B'
SameFamilies (pi A B) (atom a S) = ⊥
SameFamilies (atom a S) (pi A B) = ⊥
SameFamilies (atom a S) (atom b T) = a ≡ b

same_target : (A A' : LfType) → SameFamilies A A' → target A ≡ target A'
same_target (pi A B) (pi A' B') (a, b) = same_target B B' b
same_target (pi A B) (atom a S) h = absurd h
same_target (atom a S) (pi A B) h = absurd h
same_target (atom a S) (atom b T) h = h

pub same_renamed : (ρ : ℕ → ℕ) (A : LfType) → SameFamilies A (rename_type ρ A)
same_renamed ρ (pi A B) = (same_renamed ρ A, same_renamed (lift_renaming ρ) B)
same_renamed ρ (atom a S) = refl

pub same_substituted : (r : Skeleton → Term → Spine → Term) (σ : ℕ → Image) (A : LfType) → SameFamilies A (substitute_type r σ A)
same_substituted r σ (pi A B) = (same_substituted r σ A, same_substituted r (lift σ) B)
same_substituted r σ (atom a S) = refl

same_opened : (k : ℕ) (A : LfType) → SameFamilies A (open_type k A)
same_opened k (pi A B) = (same_opened k A, same_opened (suc k) B)
same_opened k (atom a S) = refl

pub same_filled : (μ : ℕ → Skeleton) (β : ℕ → Option Term) (A : LfType) → SameFamilies A (fill_type μ β A)
same_filled μ β (pi A B) = (same_filled μ β A, same_filled μ (moved suc β) B)
same_filled μ β (atom a S) = refl

pub same_put : {Ψ : ℕ → Option LfType} {bs : List Binding} {k : ℕ} {A A' : LfType} → PutsInType Ψ bs k A A' → SameFamilies A A'
same_put (put_in_atom s) = refl
same_put (put_in_pi a b) = (same_put a, same_put b)

-- A fact of types, kept where the families stay.
pub record IsOfFamilies (P : LfType → Type 0) : Type 0 where
  pub there : (A A' : LfType) → SameFamilies A A' → P A → P A'
  pub back : (A A' : LfType) → SameFamilies A A' → P A' → P A

-- contexts
module _ (P : LfType → Type 0) (kept : IsOfFamilies P) where
  pub each_at : (G : List LfType) → AllByRecursion P G → (i : ℕ) (A : LfType) → TypeAt G i A → P A
  each_at [] h i A g = absurd g
  each_at (X ∷ G) (x, h) zero A e = subst P (sym e) (kept.there X (weaken X) (same_renamed suc X) x)
  each_at (X ∷ G) (x, h) (suc i) A (B, g, e) = subst P (sym e) (kept.there B (weaken B) (same_renamed suc B) (each_at G h i B g))

  pub each_from : (G : List LfType) → ((i : ℕ) (A : LfType) → TypeAt G i A → P A) → AllByRecursion P G
  each_from [] h = tt
  each_from (A ∷ G) h = (kept.back A (weaken A) (same_renamed suc A) (h zero (weaken A) refl), each_from G (λ i B g. kept.back B (weaken B) (same_renamed suc B) (h (suc i) (weaken B) (B, g, refl))))

  pub each_onto : (D G : List LfType) → AllByRecursion P D → AllByRecursion P G → AllByRecursion P (onto D G)
  each_onto [] G d g = g
  each_onto (A ∷ D) G (a, d) g = (a, each_onto D G d g)

  pub each_before : (D : List LfType) → AllByRecursion P (onto D []) → AllByRecursion P D
  each_before [] d = tt
  each_before (A ∷ D) (a, d) = (a, each_before D d)

  -- the variables of a context as metavariables
  abbrev some_has : Option LfType → Type 0
  some_has None = Unit {0}
  some_has (Some A) = P A

  type_in_has : (G : List LfType) → AllByRecursion P G → (i : ℕ) → some_has (type_in G i)
  type_in_has [] h i = tt
  type_in_has (A ∷ G) (a, h) zero = kept.there A (weaken A) (same_renamed suc A) a
  type_in_has (A ∷ G) (a, h) (suc i) = weakened (type_in G i) (type_in_has G h i)
    where
      weakened : (y : Option LfType) → some_has y → some_has (weaken_some y)
      weakened None h = tt
      weakened (Some B) h = kept.there B (weaken B) (same_renamed suc B) h

  pub metavariables_have : (G : List LfType) → AllByRecursion P G → (m : ℕ) (A : LfType) → context_metavariables G m ≡ Some A → P A
  metavariables_have G h m A e = subst some_has e (opened (type_in G m) (type_in_has G h m))
    where
      opened : (y : Option LfType) → some_has y → some_has (open_some y)
      opened None h = tt
      opened (Some B) h = kept.there B (open_type zero B) (same_opened zero B) h

-- Where something is quantified, R has its family and that of what it is quantified over; and Q has the family of each atom.
module _ (R : ℕ → ℕ → Type 0) (Q : ℕ → Type 0) where
  abbrev pub Everywhere : LfType → Type 0
  Everywhere (pi A B) = R (target B) (target A) × Everywhere A × Everywhere B
  Everywhere (atom a S) = Q a

  moved_by : {a b c d : ℕ} → a ≡ c → b ≡ d → R a b → R c d
  moved_by {a = a} {d = d} p q r = subst (λ x. R x d) p (subst (R a) q r)

  everywhere_there : (A A' : LfType) → SameFamilies A A' → Everywhere A → Everywhere A'
  everywhere_there (pi A B) (pi A' B') (f, g) (r, a, b) = (moved_by (same_target B B' g) (same_target A A' f) r, everywhere_there A A' f a, everywhere_there B B' g b)
  everywhere_there (pi A B) (atom a S) h p = absurd h
  everywhere_there (atom a S) (pi A B) h p = absurd h
  everywhere_there (atom a S) (atom b T) h p = subst Q h p

  everywhere_back : (A A' : LfType) → SameFamilies A A' → Everywhere A' → Everywhere A
  everywhere_back (pi A B) (pi A' B') (f, g) (r, a, b) = (moved_by (sym (same_target B B' g)) (sym (same_target A A' f)) r, everywhere_back A A' f a, everywhere_back B B' g b)
  everywhere_back (pi A B) (atom a S) h p = absurd h
  everywhere_back (atom a S) (pi A B) h p = absurd h
  everywhere_back (atom a S) (atom b T) h p = subst Q (sym h) p

  pub of_families : IsOfFamilies Everywhere
  of_families = record { there = everywhere_there; back = everywhere_back }

  -- what may be quantified over a family
  abbrev pub Quantified : ℕ → LfType → Type 0
  Quantified f A = R f (target A) × Everywhere A

  quantified_of_families : (f : ℕ) → IsOfFamilies (Quantified f)
  quantified_of_families f = record {
    there = λ A A' s h. (moved_by refl (same_target A A' s) h.0, everywhere_there A A' s h.1);
    back = λ A A' s h. (moved_by refl (sym (same_target A A' s)) h.0, everywhere_back A A' s h.1);
  }

  -- types closed over a context
  over_of : (D : List LfType) (P : LfType) → Everywhere (pi_over D P) → AllByRecursion (Quantified (target P)) D × Everywhere P
  over_of [] P h = (tt, h)
  over_of (A ∷ D) P h = let (d, (r, a, p)) = over_of D (pi A P) h in (((r, a), d), p)

  over_from : (D : List LfType) (P : LfType) → AllByRecursion (Quantified (target P)) D → Everywhere P → Everywhere (pi_over D P)
  over_from [] P d p = p
  over_from (A ∷ D) P ((r, a), d) p = over_from D (pi A P) d (r, a, p)

  -- the types of a store
  abbrev pub StoreHas : (ℕ → Option LfType) → Type 0
  StoreHas Ψ = (m : ℕ) (A : LfType) → Ψ m ≡ Some A → Everywhere A

  pruned_has : (Ψ : ℕ → Option LfType) (n dropped : ℕ) (p : PrunedType Ψ n dropped) → StoreHas Ψ → Everywhere (pruned_type p)
  pruned_has Ψ n dropped p h =
      let F : LfType → Type 0 = Quantified p.family in
      let (d, a) = over_of p.local (atom p.family p.indices) (h n (pi_over p.local (atom p.family p.indices)) p.declared) in
      over_from p.kept_local (atom p.family p.kept_indices) (each_before F (quantified_of_families p.family) p.kept_local (each_from F (quantified_of_families p.family) (onto p.kept_local []) (λ i Y g. (quantified_of_families p.family).back Y (rename_type _ Y) (same_renamed _ Y) (each_at F (quantified_of_families p.family) (onto p.local []) (each_onto F (quantified_of_families p.family) p.local [] d tt) _ _ (p.part.types i Y g))))) a

  with_new : (n : ℕ) (X : LfType) (Ψ : ℕ → Option LfType) → StoreHas Ψ → Everywhere X → StoreHas (set_at n (Some X) Ψ)
  with_new n X Ψ h x m A e = by (set_cases n (Some X) Ψ m)
    where
      by : (m ≡ n) ⊎ (set_at n (Some X) Ψ m ≡ Ψ m) → Everywhere A
      by (inl q) = subst Everywhere (some_same (sym (set_here n (Some X) Ψ) ∙ ap (set_at n (Some X) Ψ) (sym q) ∙ e)) x
      by (inr q) = h m A (sym q ∙ e)

  step_has : {Σ : Signature} {s s' : Store} → Step Σ s s' → StoreHas s.metavariables → StoreHas s'.metavariables
  step_has (next_equation es e fs) h = h
  step_has (put_bindings p q) h = h
  step_has drop_equal h = h
  step_has open_lambdas h = h
  step_has (equal_heads g A r t) h = h
  step_has (bind side D m xs N C e u p b) h = h
  step_has (prune_inside {Ψ = Ψ} side D m xs N C e i p u n sc) h = with_new n (pruned_type p.pruned) Ψ h (pruned_has Ψ p.drop.m p.dropped p.pruned h)
  step_has (prune_both {Ψ = Ψ} side D m xs N C e i p u n sc) h = with_new n (pruned_type p.pruned) Ψ h (pruned_has Ψ m p.dropped p.pruned h)
  step_has (renew {Ψ = Ψ} m A A' e u o p n sc) h = with_new n A' Ψ h (everywhere_there A A' (same_put p) (h m A e))

  pub run_has : {Σ : Signature} {s s' : Store} → Run Σ s s' → StoreHas s.metavariables → StoreHas s'.metavariables
  run_has no_step h = h
  run_has (then_run t r) h = run_has r (step_has t h)

  added : (v : Option Term) (A : LfType) (F : List LfType) → Everywhere A → AllByRecursion Everywhere F → AllByRecursion Everywhere (add_free v A F)
  added None A F a f = (a, f)
  added (Some N) A F a f = f

  -- and those of the metavariables that stay free
  pub free_has : (Σ : Signature) (μ : ℕ → Skeleton) (Ψ : ℕ → Option LfType) (U : (ℕ → Option Term) → Type 0) → StoreHas Ψ → (is : List ListedMetavariable) → IsDependencyOrder Σ Ψ U is → AllByRecursion Everywhere (free_context μ is)
  free_has Σ μ Ψ U h [] o = tt
  free_has Σ μ Ψ U h (it ∷ is) (o, e, later, inside, typed, closed, ordered) = added it.value (fill_type μ (values μ is) it.of_type) (free_context μ is) (everywhere_there it.of_type (fill_type μ (values μ is) it.of_type) (same_filled μ (values μ is) it.of_type) (h it.of it.of_type e)) (free_has Σ μ Ψ U h is o)
