-- What a run keeps of subordination: what is quantified in the types of the items is below.
use Rattle.std.proofs.Common.{◌≡◌, ℕ, zero, suc, List, [], ◌∷◌, length, inl, inr, refl, sym, ap₂, ◌∙◌, subst}
use Rattle.std.specs.Prelude.{Bool, true, false}
use Rattle.lf.specs.Syntax.{LfType, Kind, pi, atom, kind_pi, star, lift_renaming, rename_type}
use Rattle.lf.specs.Substitution.{Image, substitute_type, reduce}
use Rattle.lf.specs.AtOnce.{shift_by, lift_renaming_by}
use Rattle.lf.specs.Typing.{Signature, TypeAt}
use Rattle.lf.specs.Variables.{target, binders, FamiliesIn}
use Rattle.lf.specs.Subordination.{Block, Quantifies, KindQuantifies, below_in_constant, below_in_kind}
use Rattle.lf.proofs.Target.{target_renamed}
use Rattle.lf_checks.specs.Below.{IsSubordination}
use Rattle.lf_cases.specs.Case.{Item, free_variable, items_context, goal_items, past_place}
use Rattle.lf_cases.specs.OutputGoal.{renumber}
use Rattle.lf_cases.specs.Reached.{constant_head, bound_head, entry_head, new_entry_head, taken}
use Rattle.lf_coverage.specs.Heads.{ArgumentsAreBelow}
use Rattle.lf_coverage.specs.Subordinate.{QuantifiersAreBelow, AllQuantifiersAreBelow, BelowOnesTakeBelow, HeadsQuantifyBelow, InputsQuantifyBelow}
use Rattle.lf_coverage.proofs.Everywhere.{Everywhere, of_families, same_substituted}

module _ (below : ℕ → ℕ → Bool) where
  -- the families of such a type are below what its target is below
  pub families_below : (Σ : Signature) (W : List Block) → IsSubordination Σ W below → (f : ℕ) (A : LfType) → QuantifiersAreBelow below A → below f (target A) ≡ true → FamiliesIn (below f) A
  families_below Σ W s f (pi A B) (q, a, b) t = (families_below Σ W s f A a (s.through f (target B) t (target A) q), families_below Σ W s f B b t)
  families_below Σ W s f (atom a T) q t = t

  pub arguments_below : (Σ : Signature) (W : List Block) → IsSubordination Σ W below → (A : LfType) → QuantifiersAreBelow below A → ArgumentsAreBelow below A
  arguments_below Σ W s (pi A B) (q, a, b) = (families_below Σ W s (target A) A a (s.itself (target A)), arguments_below Σ W s B b)
  arguments_below Σ W s (atom a T) q = tt

  pub quantified : (A : LfType) → ((a b : ℕ) → Quantifies a b A → below b a ≡ true) → QuantifiersAreBelow below A
  quantified (pi A B) h = (h (target A) (target B) (inl (refl, refl)), quantified A (λ a b q. h a b (inr (inl q))), quantified B (λ a b q. h a b (inr (inr q))))
  quantified (atom a T) h = tt

  pub below_renamed : (ρ : ℕ → ℕ) (A : LfType) → QuantifiersAreBelow below A → QuantifiersAreBelow below (rename_type ρ A)
  below_renamed ρ (pi A B) (q, a, b) = (ap₂ below (target_renamed (lift_renaming ρ) B) (target_renamed ρ A) ∙ q, below_renamed ρ A a, below_renamed (lift_renaming ρ) B b)
  below_renamed ρ (atom a T) q = tt

  pub below_at : (G : List LfType) → AllQuantifiersAreBelow below G → (i : ℕ) (A : LfType) → TypeAt G i A → QuantifiersAreBelow below A
  below_at [] h i A g = absurd g
  below_at (X ∷ G) (x, h) zero A e = subst (QuantifiersAreBelow below) (sym e) (below_renamed suc X x)
  below_at (X ∷ G) (x, h) (suc i) A (B, g, e) = subst (QuantifiersAreBelow below) (sym e) (below_renamed suc B (below_at G h i B g))

  pub below_binders : (G : List LfType) (X : LfType) → AllQuantifiersAreBelow below G → QuantifiersAreBelow below X → AllQuantifiersAreBelow below (binders G X)
  below_binders G (pi A B) g (q, a, b) = below_binders (A ∷ G) B (a, g) b
  below_binders G (atom a T) g x = g

  goal_below : (a : ℕ) (m : List Bool) (K : Kind) (ρ : ℕ → ℕ) (I : List Item) → ((b c : ℕ) → KindQuantifies a b c K → below c b ≡ true) → AllQuantifiersAreBelow below (items_context I) → AllQuantifiersAreBelow below (items_context (goal_items m K ρ I))
  goal_below a [] K ρ I h i = i
  goal_below a (b ∷ m) star ρ I h i = i
  goal_below a (true ∷ m) (kind_pi A K) ρ I h i = goal_below a m K (lift_renaming ρ) (free_variable (rename_type ρ A) ∷ I) (λ b c q. h b c (inr (inr q))) (below_renamed ρ A (quantified A (λ b c q. h b c (inr (inl q)))), i)
  goal_below a (false ∷ m) (kind_pi A K) ρ I h i = goal_below a m K (past_place ρ) I (λ b c q. h b c (inr (inr q))) i

  -- it looks only at families
  abbrev pub BelowEverywhere : LfType → Type 0
  BelowEverywhere = Everywhere (λ b a. below b a ≡ true) (λ a. Unit {0})

  pub as_everywhere : (A : LfType) → QuantifiersAreBelow below A → BelowEverywhere A
  as_everywhere (pi A B) (q, a, b) = (q, as_everywhere A a, as_everywhere B b)
  as_everywhere (atom a T) q = tt

  pub from_everywhere : (A : LfType) → BelowEverywhere A → QuantifiersAreBelow below A
  from_everywhere (pi A B) (q, a, b) = (q, from_everywhere A a, from_everywhere B b)
  from_everywhere (atom a T) q = tt

  pub below_substituted : (σ : ℕ → Image) (A : LfType) → QuantifiersAreBelow below A → QuantifiersAreBelow below (substitute_type reduce σ A)
  below_substituted σ A q = from_everywhere (substitute_type reduce σ A) ((of_families (λ b a. below b a ≡ true) (λ a. Unit {0})).there A (substitute_type reduce σ A) (same_substituted reduce σ A) (as_everywhere A q))

  pub below_renumbered : (ρ : ℕ → ℕ) (D : List LfType) → AllQuantifiersAreBelow below D → AllQuantifiersAreBelow below (renumber ρ D)
  below_renumbered ρ [] d = tt
  below_renumbered ρ (A ∷ D) (a, d) = (below_renamed (lift_renaming_by (length D) ρ) A a, below_renumbered ρ D d)

pub below_ones_take_below : BelowOnesTakeBelow
below_ones_take_below Σ W below s A q = arguments_below below Σ W s A q

pub heads_quantify_below : HeadsQuantifyBelow
heads_quantify_below Σ W below t I i x X at _ _ _ A (constant_head k U e q) n = quantified below A (λ a b z. (t b a).1 (below_in_constant k A e z))
heads_quantify_below Σ W below t I i x X at _ _ _ A (bound_head j B l k q) n = below_at below (binders (items_context I) X) (below_binders below (items_context I) X i (below_at below (items_context I) i x X at)) j A k
heads_quantify_below Σ W below t I i x X at _ _ _ A (entry_head j B k f q) n = below_renamed below (shift_by (length (taken X))) B (below_at below (items_context I) i j B k)
heads_quantify_below Σ W below t I i x X at _ _ _ A (new_entry_head B j E m l k q) n = absurd n

pub inputs_quantify_below : InputsQuantifyBelow
inputs_quantify_below Σ W below t a m K e = goal_below below a m K (λ i. i) [] (λ b c q. (t c b).1 (below_in_kind a K e q)) tt
