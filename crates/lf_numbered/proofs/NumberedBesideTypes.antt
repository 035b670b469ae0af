-- Types that take only what quantifies over what is below: raised, in stores, and among items.
use Rattle.std.proofs.Common.{◌≡◌, ℕ, zero, suc, ◌⊎◌, List, [], ◌∷◌, length, ◌<◌, inl, inr, sym, ap, ◌∙◌, subst, arith, Option, Some, None}
use Rattle.std.specs.Prelude.{Bool, true, false}
use Rattle.std.specs.List.{AllByRecursion}
use Rattle.lf.specs.Syntax.{Term, Skeleton, LfType, pi, atom, skeleton, lift_renaming, rename_type}
use Rattle.lf.specs.Substitution.{Image, single, substitute_type, reduce}
use Rattle.lf.specs.Typing.{Signature, TypeAt, instantiate_type}
use Rattle.lf.specs.Variables.{target, binders, onto, at_variable}
use Rattle.lf.specs.Subordination.{Block}
use Rattle.lf_checks.specs.Below.{IsSubordination}
use Rattle.lf_unification.specs.Dependency.{IsDependencyOrder, ListedMetavariable, add_free, free_context, values}
use Rattle.lf_unification.specs.Filling.{fill_type}
use Rattle.lf_unification.specs.Offering.{pi_over}
use Rattle.lf_unification.specs.OpenTyping.{set_at}
use Rattle.lf_unification.specs.Pruning.{PrunedType, pruned_type}
use Rattle.lf_unification.specs.Steps.{Step, next_equation, put_bindings, drop_equal, open_lambdas, equal_heads, bind, prune_inside, prune_both, renew, Run, no_step, then_run}
use Rattle.lf_unification.specs.Unifiers.{Store}
use Rattle.lf_unification.proofs.Agree.{set_here, set_cases}
use Rattle.lf_cases.specs.Case.{Item, free_variable, block_variable, items_context}
use Rattle.lf_cases.specs.OutputGoal.{free_variables, renumber, over_item, raised_variable}
use Rattle.lf_cases.specs.Raised.{raise_by, first_mask, other_masks}
use Rattle.lf_cases.specs.Reached.{head_items}
use Rattle.lf.specs.Worlds.{instance}
use Rattle.lf_coverage.specs.Heads.{ArgumentsAreBelow}
use Rattle.lf_coverage.specs.Subordinate.{QuantifiersAreBelow, AllQuantifiersAreBelow}
use Rattle.lf_coverage.proofs.Everywhere.{SameFamilies, same_renamed, same_substituted, same_filled, same_put, IsOfFamilies, each_at, each_from, each_onto, each_before, of_families}
use Rattle.lf_coverage.proofs.Parts.{some_same}
use Rattle.lf_coverage.proofs.Subordinate.{families_below, as_everywhere, from_everywhere, below_renamed, below_renumbered, below_substituted}
use Rattle.lf_numbered.specs.NumberedBeside.{TakesBelow, AllTakeBelow, ItemsTakeBelow, TakersTakeBelow, TakesAtoms, AllTakeAtoms, WorldsOfAtoms}

-- A fact of types that looks only at families, and is kept where a pruning leaves quantifiers out: solving keeps it.
module _ (P : LfType → Type 0) (kept : IsOfFamilies P) (prunes : (Ψ : ℕ → Option LfType) (n dropped : ℕ) (p : PrunedType Ψ n dropped) → ((m : ℕ) (A : LfType) → Ψ m ≡ Some A → P A) → P (pruned_type p)) where
  abbrev pub TypesHave : (ℕ → Option LfType) → Type 0
  TypesHave Ψ = (m : ℕ) (A : LfType) → Ψ m ≡ Some A → P A

  new_has : (n : ℕ) (X : LfType) (Ψ : ℕ → Option LfType) → TypesHave Ψ → P X → TypesHave (set_at n (Some X) Ψ)
  new_has n X Ψ h x m A e = by (set_cases n (Some X) Ψ m)
    where
      by : (m ≡ n) ⊎ (set_at n (Some X) Ψ m ≡ Ψ m) → P A
      by (inl q) = subst P (some_same (sym (set_here n (Some X) Ψ) ∙ ap (set_at n (Some X) Ψ) (sym q) ∙ e)) x
      by (inr q) = h m A (sym q ∙ e)

  step_keeps : {Σ : Signature} {s s' : Store} → Step Σ s s' → TypesHave s.metavariables → TypesHave s'.metavariables
  step_keeps (next_equation es e fs) h = h
  step_keeps (put_bindings p q) h = h
  step_keeps drop_equal h = h
  step_keeps open_lambdas h = h
  step_keeps (equal_heads g A r t) h = h
  step_keeps (bind side D m xs N C e u p b) h = h
  step_keeps (prune_inside {Ψ = Ψ} side D m xs N C e i p u n sc) h = new_has n (pruned_type p.pruned) Ψ h (prunes Ψ p.drop.m p.dropped p.pruned h)
  step_keeps (prune_both {Ψ = Ψ} side D m xs N C e i p u n sc) h = new_has n (pruned_type p.pruned) Ψ h (prunes Ψ m p.dropped p.pruned h)
  step_keeps (renew {Ψ = Ψ} m A A' e u o p n sc) h = new_has n A' Ψ h (kept.there A A' (same_put p) (h m A e))

  pub run_keeps : {Σ : Signature} {s s' : Store} → Run Σ s s' → TypesHave s.metavariables → TypesHave s'.metavariables
  run_keeps no_step h = h
  run_keeps (then_run t r) h = run_keeps r (step_keeps t h)

  added : (v : Option Term) (A : LfType) (F : List LfType) → P A → AllByRecursion P F → AllByRecursion P (add_free v A F)
  added None A F a f = (a, f)
  added (Some N) A F a f = f

  pub free_keeps : (Σ : Signature) (μ : ℕ → Skeleton) (Ψ : ℕ → Option LfType) (U : (ℕ → Option Term) → Type 0) → TypesHave Ψ → (is : List ListedMetavariable) → IsDependencyOrder Σ Ψ U is → AllByRecursion P (free_context μ is)
  free_keeps Σ μ Ψ U h [] o = tt
  free_keeps Σ μ Ψ U h (it ∷ is) (o, e, later, inside, typed, closed, ordered) = added it.value (fill_type μ (values μ is) it.of_type) (free_context μ is) (kept.there it.of_type (fill_type μ (values μ is) it.of_type) (same_filled μ (values μ is) it.of_type) (h it.of it.of_type e)) (free_keeps Σ μ Ψ U h is o)

module _ (below : ℕ → ℕ → Bool) where
  abbrev Q : LfType → Type 0
  Q = QuantifiersAreBelow below

  abbrev below_kept : IsOfFamilies Q
  below_kept = record {
    there = λ A A' s q. from_everywhere below A' ((of_families (λ b a. below b a ≡ true) (λ a. Unit {0})).there A A' s (as_everywhere below A q));
    back = λ A A' s q. from_everywhere below A ((of_families (λ b a. below b a ≡ true) (λ a. Unit {0})).back A A' s (as_everywhere below A' q));
  }

  pub quantified_takes : (A : LfType) → QuantifiersAreBelow below A → TakesBelow below A
  quantified_takes (pi A B) (q, a, b) = (a, quantified_takes B b)
  quantified_takes (atom a S) q = tt

  pub takes_there : (A A' : LfType) → SameFamilies A A' → TakesBelow below A → TakesBelow below A'
  takes_there (pi A B) (pi A' B') (s, t) (a, b) = (below_kept.there A A' s a, takes_there B B' t b)
  takes_there (pi A B) (atom a S) s h = absurd s
  takes_there (atom a S) (pi A B) s h = absurd s
  takes_there (atom a S) (atom b T) s h = tt

  pub takes_back : (A A' : LfType) → SameFamilies A A' → TakesBelow below A' → TakesBelow below A
  takes_back (pi A B) (pi A' B') (s, t) (a, b) = (below_kept.back A A' s a, takes_back B B' t b)
  takes_back (pi A B) (atom a S) s h = absurd s
  takes_back (atom a S) (pi A B) s h = absurd s
  takes_back (atom a S) (atom b T) s h = tt

  abbrev pub takes_kept : IsOfFamilies (TakesBelow below)
  takes_kept = record { there = takes_there; back = takes_back }

  pub takes_renamed : (ρ : ℕ → ℕ) (A : LfType) → TakesBelow below A → TakesBelow below (rename_type ρ A)
  takes_renamed ρ A h = takes_there A (rename_type ρ A) (same_renamed ρ A) h

  pub takes_substituted : (σ : ℕ → Image) (A : LfType) → TakesBelow below A → TakesBelow below (substitute_type reduce σ A)
  takes_substituted σ A h = takes_there A (substitute_type reduce σ A) (same_substituted reduce σ A) h

  -- types closed over a context
  takes_of : (D : List LfType) (P : LfType) → TakesBelow below (pi_over D P) → AllByRecursion Q D × TakesBelow below P
  takes_of [] P h = (tt, h)
  takes_of (A ∷ D) P h = let (d, (a, p)) = takes_of D (pi A P) h in ((a, d), p)

  takes_from : (D : List LfType) (P : LfType) → AllByRecursion Q D → TakesBelow below P → TakesBelow below (pi_over D P)
  takes_from [] P d p = p
  takes_from (A ∷ D) P (a, d) p = takes_from D (pi A P) d (a, p)

  pub takes_pruned : (Ψ : ℕ → Option LfType) (n dropped : ℕ) (p : PrunedType Ψ n dropped) → ((m : ℕ) (A : LfType) → Ψ m ≡ Some A → TakesBelow below A) → TakesBelow below (pruned_type p)
  takes_pruned Ψ n dropped p h =
      let (d, a) = takes_of p.local (atom p.family p.indices) (h n (pi_over p.local (atom p.family p.indices)) p.declared) in
      takes_from p.kept_local (atom p.family p.kept_indices) (each_before Q below_kept p.kept_local (each_from Q below_kept (onto p.kept_local []) (λ i Y g. below_kept.back Y (rename_type _ Y) (same_renamed _ Y) (each_at Q below_kept (onto p.local []) (each_onto Q below_kept p.local [] d tt) _ _ (p.part.types i Y g))))) tt

  -- the families in the type of each argument are below its own
  pub take_below : (Σ : Signature) (W : List Block) → IsSubordination Σ W below → (A : LfType) → TakesBelow below A → ArgumentsAreBelow below A
  take_below Σ W s (pi A B) (a, b) = (families_below below Σ W s (target A) A a (s.itself (target A)), take_below Σ W s B b)
  take_below Σ W s (atom a T) h = tt

  -- It is so of each type of a context.
  pub all_takes : (G : List LfType) → AllTakeBelow below G → AllByRecursion (TakesBelow below) G
  all_takes [] h = tt
  all_takes (A ∷ G) (a, h) = (a, all_takes G h)

  pub takes_all : (G : List LfType) → AllByRecursion (TakesBelow below) G → AllTakeBelow below G
  takes_all [] h = tt
  takes_all (A ∷ G) (a, h) = (a, takes_all G h)

  pub takes_at : (G : List LfType) → AllTakeBelow below G → (i : ℕ) (A : LfType) → TypeAt G i A → TakesBelow below A
  takes_at G h = each_at (TakesBelow below) takes_kept G (all_takes G h)

  pub all_quantified : (G : List LfType) → AllQuantifiersAreBelow below G → AllTakeBelow below G
  all_quantified [] h = tt
  all_quantified (A ∷ G) (a, h) = (quantified_takes A a, all_quantified G h)

  pub takes_onto : (D G : List LfType) → AllTakeBelow below D → AllTakeBelow below G → AllTakeBelow below (onto D G)
  takes_onto [] G d g = g
  takes_onto (A ∷ D) G (a, d) g = (a, takes_onto D G d g)

  -- what a type takes
  pub taken_below : (G : List LfType) (X : LfType) → AllQuantifiersAreBelow below G → TakesBelow below X → AllQuantifiersAreBelow below (binders G X)
  taken_below G (pi A B) g (a, b) = taken_below (A ∷ G) B (a, g) b
  taken_below G (atom a T) g x = g

  pub near_below : (D G : List LfType) (j : ℕ) (A : LfType) → j < length D → AllQuantifiersAreBelow below D → TypeAt (onto D G) j A → QuantifiersAreBelow below A
  near_below [] G j A l d g = absurd (omega (arith, l))
  near_below (Y ∷ D) G zero A l (y, d) e = subst (QuantifiersAreBelow below) (sym e) (below_renamed below suc Y y)
  near_below (Y ∷ D) G (suc j) A l (y, d) (B, g, e) = subst (QuantifiersAreBelow below) (sym e) (below_renamed below suc B (near_below D G j B (omega (arith, l)) d g))

  -- a raised type
  pub raise_takes : (ks : List Bool) (D : List LfType) (B : LfType) → AllQuantifiersAreBelow below D → TakesBelow below B → TakesBelow below (raise_by ks D B)
  raise_takes ks [] B d b = b
  raise_takes [] (A ∷ D) B d b = b
  raise_takes (true ∷ ks) (A ∷ D) B (a, d) b = raise_takes ks D (pi A B) d (a, b)
  raise_takes (false ∷ ks) (A ∷ D) B (a, d) b = raise_takes ks D (rename_type (at_variable zero) B) d (takes_renamed (at_variable zero) B b)

  -- the new variables of a head
  pub head_takes : (ks : List (List Bool)) (n : ℕ) (D : List LfType) (A : LfType) (I : List Item) → AllQuantifiersAreBelow below D → AllTakeBelow below (items_context I) → QuantifiersAreBelow below A → AllTakeBelow below (items_context (head_items ks D n A I))
  head_takes ks zero D A I d i q = i
  head_takes ks (suc n) D (atom a T) I d i q = i
  head_takes ks (suc n) D (pi A B) I d i (q, a, b) =
      let N : Term = raised_variable (first_mask ks) D A zero in
      let B1 : LfType = rename_type (lift_renaming (over_item D)) B in
      head_takes (other_masks ks) n (renumber suc D) (instantiate_type A N B1) (free_variable (raise_by (first_mask ks) D A) ∷ I) (below_renumbered below suc D d) (raise_takes (first_mask ks) D A d (quantified_takes A a), i) (below_substituted below (single (skeleton A) N) B1 (below_renamed below (lift_renaming (over_item D)) B b))

  -- It is so of each type behind others.
  behind : (D G : List LfType) → AllQuantifiersAreBelow below (onto D G) → AllQuantifiersAreBelow below G
  behind [] G h = h
  behind (A ∷ D) G (a, h) = behind D G h

  pub items_quantified : (I : List Item) → AllQuantifiersAreBelow below (items_context I) → ItemsTakeBelow below I
  items_quantified [] h = tt
  items_quantified (free_variable A ∷ I) (a, h) = (quantified_takes A a, items_quantified I h)
  items_quantified (block_variable B υ ∷ I) h = items_quantified I (behind (instance B.entries υ) (items_context I) h)

  pub free_take : (G : List LfType) → AllTakeBelow below G → ItemsTakeBelow below (free_variables G)
  free_take [] h = tt
  free_take (A ∷ G) (a, h) = (a, free_take G h)

pub takers_take_below : TakersTakeBelow
takers_take_below Σ W below s A h = take_below below Σ W s A h

atoms_below : (below : ℕ → ℕ → Bool) (A : LfType) → TakesAtoms A → TakesBelow below A
atoms_below below (pi (atom a S) B) h = (tt, atoms_below below B h)
atoms_below below (pi (pi A C) B) h = absurd h
atoms_below below (atom a S) h = tt

all_atoms_below : (below : ℕ → ℕ → Bool) (G : List LfType) → AllTakeAtoms G → AllTakeBelow below G
all_atoms_below below [] h = tt
all_atoms_below below (A ∷ G) (a, h) = (atoms_below below A a, all_atoms_below below G h)

pub worlds_of_atoms : WorldsOfAtoms
worlds_of_atoms W h below B m = all_atoms_below below B.some (h B m)
