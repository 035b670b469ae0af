-- Where the equations are solved, a kind that was elaborated is one over the metavariables that stay free.
use Rattle.std.proofs.Common.{◌≡◌, ℕ, suc, List, [], ◌∷◌, Option, refl, sym, ap, ap₂, ◌∙◌, subst}
use Rattle.lf.specs.Syntax.{Kind, LfType, Skeleton, Term, kind_pi, star}
use Rattle.lf.specs.Typing.{IsContext, IsKind, IsSignature, Signature}
use Rattle.lf.specs.Variables.{onto}
use Rattle.lf_unification.specs.Dependency.{free_context, values}
use Rattle.lf_unification.specs.Filling.{moved, rename_value}
use Rattle.lf_unification.specs.OpenTyping.{DeclarationsAreTyped, Declares, OpenIsContext, fill_locals, skeletons_of, under_locals}
use Rattle.lf_unification.specs.PartialInstance.{IsFilling, PartialInstance}
use Rattle.lf_unification.specs.Skeletons.{skeleton_or_default}
use Rattle.lf_unification.specs.Solving.{Solved}
use Rattle.lf_unification.specs.Unifiers.{ExtendsFilling, Solution, Store}
use Rattle.lf_unification.proofs.Agree.{fill_agree_type}
use Rattle.lf_unification.proofs.Fillings.{solution_fills}
use Rattle.lf_unification.proofs.OpenSound.{PartialInstance-of}
use Rattle.lf_unification.proofs.OpenTypes.{OpenIsType-sound}
use Rattle.lf_unification.proofs.Solving.{well_formed_answer}
use Rattle.lf_elaboration.specs.Kinds.{MetavariablesInKind, OpenIsKind, fill_kind}
use Rattle.lf_elaboration.specs.Laws.{KindIsMade, SolvedKindIsTyped}
use Rattle.lf_elaboration.specs.State.{State, store_of}

pub fill_agree_kind : (V : ℕ → Type 0) (μ μ' : ℕ → Skeleton) → ((m : ℕ) → V m → μ m ≡ μ' m) → (β β' : ℕ → Option Term) (K : Kind) → ((m : ℕ) → V m → β m ≡ β' m) → MetavariablesInKind V K → fill_kind μ β K ≡ fill_kind μ' β' K
fill_agree_kind V μ μ' same β β' (kind_pi A K) h (i, j) = ap₂ kind_pi (fill_agree_type V μ μ' same β β' A h i) (fill_agree_kind V μ μ' same (moved suc β) (moved suc β') K (λ m v. ap (rename_value suc) (h m v)) j)
fill_agree_kind V μ μ' same β β' star h i = refl

module _ (Σ : Signature) (ok : IsSignature Σ) (Ψ : ℕ → Option LfType) (U : (ℕ → Option Term) → Type 0) (V : ℕ → Type 0) (F : List LfType) (β : ℕ → Option Term) (w : PartialInstance Σ [] Ψ V F β) (declarations_typed : DeclarationsAreTyped Σ [] Ψ U) (u : U β) where
  kind_sound : (D : List LfType) (K : Kind) → OpenIsContext Σ [] Ψ U D → MetavariablesInKind V K → OpenIsKind Σ Ψ U D K → IsKind Σ (onto (fill_locals (skeletons_of Ψ) β D) F) (fill_kind (skeletons_of Ψ) (under_locals D β) K)
  kind_sound D (kind_pi A K) l (i, j) (a, k) = (OpenIsType-sound Σ ok [] Ψ U V F β w declarations_typed u D A l i a, kind_sound (A ∷ D) K (l, a) j k)
  kind_sound D star l i k = tt

module _ (Σ : Signature) (ok : IsSignature Σ) (s : State) (K : Kind) (made : KindIsMade Σ s K) (after : Store) (w : Solved Σ (store_of s) after) where
  abbrev F : List LfType
  F = free_context (skeletons_of after.metavariables) w.well_formed.order

  abbrev β' : ℕ → Option Term
  β' = values (skeletons_of after.metavariables) w.well_formed.order

  of_kind : ((β : ℕ → Option Term) × ExtendsFilling s.metavariables β β' × Solution Σ [] (store_of s) F β) → IsKind Σ F (fill_kind (skeletons_of after.metavariables) β' K)
  of_kind (β, x, u) = subst (IsKind Σ F) (fill_agree_kind (Declares s.metavariables) (skeletons_of s.metavariables) (skeletons_of after.metavariables) (λ m d. ap skeleton_or_default (d.1 ∙ sym (w.keeps.grows m d.0 d.1))) β β' K (λ m d. sym (x m d.0 d.1)) made.declared)
      (kind_sound Σ ok s.metavariables (IsFilling Σ [] (store_of s)) (Declares s.metavariables) F β (PartialInstance-of Σ ok [] s.metavariables (Declares s.metavariables) F β u.0) made.well_formed.typed.declarations_typed (solution_fills Σ ok [] (store_of s) F β u) [] K tt made.declared made.typed)

  pub kind_typed : IsContext Σ F × IsKind Σ F (fill_kind (skeletons_of after.metavariables) β' K)
  kind_typed =
      let a : Solution Σ [] after F β' = well_formed_answer Σ ok after w.well_formed w.none_left in
      (a.0.context, of_kind (w.keeps.sound F β' a))

pub solved_kind_typed : SolvedKindIsTyped
solved_kind_typed Σ ok s K made after w = kind_typed Σ ok s K made after w
