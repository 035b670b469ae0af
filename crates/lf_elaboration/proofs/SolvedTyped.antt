-- Where the equations are solved, what was elaborated is typed over the metavariables that stay free.
use Rattle.std.proofs.Common.{◌≡◌, ℕ, List, [], Option, sym, ap, ◌∙◌, subst}
use Rattle.lf.specs.Syntax.{LfType, Skeleton, Term}
use Rattle.lf.specs.Typing.{HasType, IsContext, IsSignature, IsType, Signature}
use Rattle.lf_unification.specs.Dependency.{free_context, values}
use Rattle.lf_unification.specs.Filling.{fill, fill_type}
use Rattle.lf_unification.specs.OpenTyping.{Declares, skeletons_of}
use Rattle.lf_unification.specs.PartialInstance.{IsFilling}
use Rattle.lf_unification.specs.Skeletons.{skeleton_or_default}
use Rattle.lf_unification.specs.Solving.{Solved}
use Rattle.lf_unification.specs.Unifiers.{ExtendsFilling, Solution, Store}
use Rattle.lf_unification.proofs.Agree.{fill_agree, fill_agree_type}
use Rattle.lf_unification.proofs.Fillings.{solution_fills}
use Rattle.lf_unification.proofs.OpenSound.{OpenHasType-sound, PartialInstance-of}
use Rattle.lf_unification.proofs.OpenTypes.{OpenIsType-sound}
use Rattle.lf_unification.proofs.Solving.{well_formed_answer}
use Rattle.lf_elaboration.specs.Laws.{SolvedTermIsTyped, SolvedTypeIsTyped, TermIsMade, TypeIsMade}
use Rattle.lf_elaboration.specs.State.{State, store_of}

module _ (Σ : Signature) (ok : IsSignature Σ) (s : State) (A : LfType) (made : TypeIsMade Σ s A) (after : Store) (w : Solved Σ (store_of s) after) where
  abbrev μ' : ℕ → Skeleton
  μ' = skeletons_of after.metavariables

  abbrev F : List LfType
  F = free_context (skeletons_of after.metavariables) w.well_formed.order

  abbrev β' : ℕ → Option Term
  β' = values (skeletons_of after.metavariables) w.well_formed.order

  answer : Solution Σ [] after F β'
  answer = well_formed_answer Σ ok after w.well_formed w.none_left

  context : IsContext Σ F
  context = answer.0.context

  -- the unifier of what was to be solved
  abbrev Before : Type 0
  Before = (β : ℕ → Option Term) × ExtendsFilling s.metavariables β β' × Solution Σ [] (store_of s) F β

  before : Before
  before = w.keeps.sound F β' answer

  same : (m : ℕ) → Declares s.metavariables m → skeletons_of s.metavariables m ≡ μ' m
  same m (B, e) = ap skeleton_or_default (e ∙ sym (w.keeps.grows m B e))

  of_type : Before → IsType Σ F (fill_type μ' β' A)
  of_type (β, x, u) = subst (IsType Σ F) (fill_agree_type (Declares s.metavariables) (skeletons_of s.metavariables) μ' same β β' A (λ m d. sym (x m d.0 d.1)) made.declared)
      (OpenIsType-sound Σ ok [] s.metavariables (IsFilling Σ [] (store_of s)) (Declares s.metavariables) F β (PartialInstance-of Σ ok [] s.metavariables (Declares s.metavariables) F β u.0) made.well_formed.typed.declarations_typed (solution_fills Σ ok [] (store_of s) F β u) [] A tt made.declared made.typed)

  pub type_typed : IsContext Σ F × IsType Σ F (fill_type μ' β' A)
  type_typed = (context, of_type before)

  module _ (R : Term) (term : TermIsMade Σ s R A) where
    of_term : Before → HasType Σ F (fill μ' β' R) (fill_type μ' β' A)
    of_term (β, x, u) =
        let agree : (m : ℕ) → Declares s.metavariables m → β m ≡ β' m = λ m d. sym (x m d.0 d.1) in
        let r : HasType Σ F (fill (skeletons_of s.metavariables) β R) (fill_type (skeletons_of s.metavariables) β A)
        = OpenHasType-sound Σ ok [] s.metavariables (IsFilling Σ [] (store_of s)) (Declares s.metavariables) F β (PartialInstance-of Σ ok [] s.metavariables (Declares s.metavariables) F β u.0) made.well_formed.typed.declarations_typed (solution_fills Σ ok [] (store_of s) F β u) [] R A tt made.typed term.declared term.typed in
        subst (λ M. HasType Σ F M (fill_type μ' β' A)) (fill_agree (Declares s.metavariables) (skeletons_of s.metavariables) μ' same β β' R agree term.declared)
        (subst (HasType Σ F (fill (skeletons_of s.metavariables) β R)) (fill_agree_type (Declares s.metavariables) (skeletons_of s.metavariables) μ' same β β' A agree made.declared) r)

    pub term_typed : HasType Σ F (fill μ' β' R) (fill_type μ' β' A)
    term_typed = of_term before

pub solved_type_typed : SolvedTypeIsTyped
solved_type_typed Σ ok s A made after w = type_typed Σ ok s A made after w

pub solved_term_typed : SolvedTermIsTyped
solved_term_typed Σ ok s R A made after w = term_typed Σ ok s A made.of_type after w R made
