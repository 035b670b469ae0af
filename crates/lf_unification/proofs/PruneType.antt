-- Pruning from a type that is, as it stands, the old one without the arguments; and two patterns of one metavariable.
use Rattle.std.proofs.Common.{◌≡◌, ℕ, zero, suc, List, [], ◌∷◌, Option, Some, None, ◌⊎◌, inl, inr, sym, ap, ◌∙◌, subst}
use mathlib.Core.Path.{fun_ext}
use Rattle.lf.specs.Syntax.{Skeleton, Spine, Term, LfType, atom, rename_type, skeleton}
use Rattle.lf.specs.Typing.{TypeAt, IsSignature, Signature}
use Rattle.lf.specs.Variables.{onto}
use Rattle.lf_unification.specs.Filling.{fill_type, moved}
use Rattle.lf_unification.specs.OpenTyping.{Declares, MetavariablesInType, fill_locals, skeletons_of, under_locals}
use Rattle.lf_unification.specs.Patterns.{beyond}
use Rattle.lf_unification.specs.Patterns.{InImage, Injective, FreeVariablesIn, PatternFits, lambdas_of, past, pattern_renaming, context_under}
use Rattle.lf_unification.specs.Pruning.{IsPartOf}
use Rattle.lf_unification.specs.Offering.{pi_over}
use Rattle.lf_unification.specs.Scope.{MetavariablesInBindings, MetavariablesInEquations}
use Rattle.lf_unification.specs.Unifiers.{KeepsUnifiers}
use Rattle.lf_unification.specs.Unifiers.{Solution, Store}
use Rattle.lf.proofs.Decidability.{variable_type_unique}
use Rattle.lf.proofs.TypeLaws.{renamings_compose_type}
use Rattle.lf_unification.proofs.BindTyped.{at_or_outer, past_renames}
use Rattle.lf_unification.proofs.Filling.{fill_rename_type}
use Rattle.lf_unification.proofs.OpenRenamingBack.{fill_moved}
use Rattle.lf_unification.proofs.Stores.{Prunes, prune_step, pruned}
use Rattle.lf_unification.proofs.RenamingBack.{Back}

local_fill : (μ : ℕ → Skeleton) (β : ℕ → Option Term) (E F : List LfType) (i : ℕ) (A : LfType) → TypeAt (onto E []) i A → TypeAt (onto (fill_locals μ β E) F) i (fill_type μ (under_locals E β) A)
local_fill μ β [] F i A g = absurd g
local_fill μ β (B ∷ E) F zero A e = ap (fill_type μ (moved suc (under_locals E β))) e ∙ sym (fill_rename_type μ suc (under_locals E β) B)
local_fill μ β (B ∷ E) F (suc i) A (C, g, e) = (fill_type μ (under_locals E β) C, local_fill μ β E F i C g, ap (fill_type μ (moved suc (under_locals E β))) e ∙ sym (fill_rename_type μ suc (under_locals E β) C))

outer_at : (μ : ℕ → Skeleton) (β : ℕ → Option Term) (E F : List LfType) (j : ℕ) (X : LfType) → TypeAt (onto (fill_locals μ β E) F) (beyond E j) X → (Z : LfType) × TypeAt F j Z
outer_at μ β [] F j X g = (X, g)
outer_at μ β (B ∷ E) F j X (C, g, e) = outer_at μ β E F j C g

module _ (Σ : Signature) (ok : IsSignature Σ) (G : List LfType) (Ψ : ℕ → Option LfType) (U : (ℕ → Option Term) → Type 0) where
  abbrev μ : ℕ → Skeleton
  μ = skeletons_of Ψ

  pub back_of : (E' E F : List LfType) (ρ : ℕ → ℕ) (β : ℕ → Option Term) → IsPartOf E' E ρ → Back (onto (fill_locals μ β E') F) (onto (fill_locals μ β E) F) ρ
  back_of E' E F ρ β w i X g = go (at_or_outer E' [] i)
    where
      go : ((Y : LfType) × TypeAt (onto E' []) i Y) ⊎ ((j : ℕ) × (i ≡ beyond E' j)) → (Y : LfType) × TypeAt (onto (fill_locals (skeletons_of Ψ) β E') F) i Y × (X ≡ rename_type ρ Y)
      go (inl (Y, h)) = (
        fill_type (skeletons_of Ψ) (under_locals E' β) Y,
        local_fill (skeletons_of Ψ) β E' F i Y h,
        variable_type_unique (onto (fill_locals (skeletons_of Ψ) β E) F) (ρ i) X (fill_type (skeletons_of Ψ) (under_locals E β) (rename_type ρ Y)) g (local_fill (skeletons_of Ψ) β E F (ρ i) (rename_type ρ Y) (w.types i Y h)) ∙ fill_moved Σ ok G Ψ U E' E ρ β w.outer Y,
      )
      go (inr (j, e)) =
          let g' : TypeAt (onto (fill_locals (skeletons_of Ψ) β E) F) (beyond E j) X = subst (λ k. TypeAt (onto (fill_locals (skeletons_of Ψ) β E) F) k X) (ap ρ e ∙ w.outer j) g in
          let (Z, h) = outer_at (skeletons_of Ψ) β E F j X g' in (
            rename_type (beyond E') Z,
            subst (λ k. TypeAt (onto (fill_locals (skeletons_of Ψ) β E') F) k (rename_type (beyond E') Z)) (sym e) (past_renames (skeletons_of Ψ) β E' F j Z h),
            variable_type_unique (onto (fill_locals (skeletons_of Ψ) β E) F) (beyond E j) X (rename_type (beyond E) Z) g' (past_renames (skeletons_of Ψ) β E F j Z h) ∙ ap (λ f. rename_type f Z) (sym (fun_ext w.outer)) ∙ sym (renamings_compose_type ρ (beyond E') Z),
          )

-- what a pruning asks, with the new type read off the old one
pub record PrunesBy (Σ : Signature) (G : List LfType) (s : Store) (n n' : ℕ) (E E' : List LfType) (a : ℕ) (T T' : Spine) (zs : List ℕ) : Type 0 where
  pub declared : s.metavariables n ≡ Some (pi_over E (atom a T))
  pub new : s.metavariables n' ≡ None
  pub types : (m : ℕ) (B : LfType) → s.metavariables m ≡ Some B → MetavariablesInType (Declares s.metavariables) B
  pub outer : (i : ℕ) (B : LfType) → TypeAt G i B → MetavariablesInType (Declares s.metavariables) B
  pub new_type : MetavariablesInType (Declares s.metavariables) (pi_over E' (atom a T'))
  pub bindings : MetavariablesInBindings (Declares s.metavariables) s.bindings
  pub equations : MetavariablesInEquations (Declares s.metavariables) s.equations
  pub distinct : Injective (pattern_renaming (skeleton (pi_over E' (atom a T'))) zs (past (skeleton (pi_over E (atom a T)))))
  pub places : (Γ : List Skeleton) → PatternFits (context_under (skeleton (pi_over E (atom a T))) Γ) (skeleton (pi_over E' (atom a T'))) zs
  pub part : IsPartOf E' E (pattern_renaming (skeleton (pi_over E' (atom a T'))) zs (past (skeleton (pi_over E (atom a T)))))
  pub same_target : atom a T ≡ rename_type (pattern_renaming (skeleton (pi_over E' (atom a T'))) zs (past (skeleton (pi_over E (atom a T))))) (atom a T')
  pub unused : (F : List LfType) (β : ℕ → Option Term) → Solution Σ G s F β → (B : Term) → β n ≡ Some (lambdas_of (skeleton (pi_over E (atom a T))) B) → FreeVariablesIn (InImage (pattern_renaming (skeleton (pi_over E' (atom a T'))) zs (past (skeleton (pi_over E (atom a T)))))) B

-- THE theorem on pruning, by syntax but for `unused`, which `must_lose` and `must_agree` give
pub prune_by : (Σ : Signature) (ok : IsSignature Σ) (G : List LfType) (s : Store) (n n' : ℕ) (E E' : List LfType) (a : ℕ) (T T' : Spine) (zs : List ℕ) → PrunesBy Σ G s n n' E E' a T T' zs →
    (p : Prunes Σ G s n n' E E' a a T T' zs) × KeepsUnifiers Σ G s (pruned Σ ok G s n n' E E' a a T T' zs p)
prune_by Σ ok G s n n' E E' a T T' zs b = (p, prune_step Σ ok G s n n' E E' a a T T' zs p)
  where
    p : Prunes Σ G s n n' E E' a a T T' zs
    p = record {
      declared = b.declared;
      new = b.new;
      types = b.types;
      outer = b.outer;
      new_type = b.new_type;
      bindings = b.bindings;
      equations = b.equations;
      distinct = b.distinct;
      places = b.places;
      unused = b.unused;
      back = λ F β u. back_of Σ ok G s.metavariables (λ x. Unit {0}) E' E F (pattern_renaming (skeleton (pi_over E' (atom a T'))) zs (past (skeleton (pi_over E (atom a T))))) β b.part;
      same_target = λ F β u. ap (fill_type (skeletons_of s.metavariables) (under_locals E β)) b.same_target ∙ fill_moved Σ ok G s.metavariables (λ x. Unit {0}) E' E (pattern_renaming (skeleton (pi_over E' (atom a T'))) zs (past (skeleton (pi_over E (atom a T))))) β b.part.outer (atom a T');
    }
