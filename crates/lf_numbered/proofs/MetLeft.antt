-- A typed unifier of a store is one of what unification leaves of it, and makes the sides of each equation that is
-- left the same.
use Rattle.std.proofs.Common.{◌≡◌, ℕ, List, [], ◌∷◌, sym, ◌∙◌, subst}
use Rattle.std.specs.Prelude.{Option}
use Rattle.lf.specs.Syntax.{Term, LfType}
use Rattle.lf.specs.Typing.{Signature}
use Rattle.lf.specs.Variables.{nothing}
use Rattle.lf.specs.Extension.{Extends}
use Rattle.lf_unification.specs.Filling.{fill}
use Rattle.lf_unification.specs.OpenTyping.{OpenHasType, skeletons_of, under_locals}
use Rattle.lf_unification.specs.PartialInstance.{EquationsAreTyped, IsFilling}
use Rattle.lf_unification.specs.Putting.{PutsIn, binders}
use Rattle.lf_unification.specs.Solving.{AllLeftOver, IsWellFormed, Left}
use Rattle.lf_unification.specs.Unifiers.{Equation, Solution, SolvesAll, Store}
use Rattle.lf_unification.proofs.OpenSound.{PartialInstance-of}
use Rattle.lf_unification.proofs.Putting.{put_some, some_same, typed_at}
use Rattle.lf_unification.proofs.Runs.{run_form, run_keeps_unifiers}
use Rattle.lf_coverage.proofs.RefutedSplits.{run_in_extension}
use Rattle.lf_numbered.specs.MeetsAnswers.{HasUnifier}
use Rattle.lf_numbered.specs.MetEquations.{AreShownSolved, SolvesLeft, UnifierSolvesLeft}
use Rattle.lf_numbered.proofs.NumberedAnswers.{needed_places_are_ready}

module _ (Σ Σe : Signature) (x : Extends nothing Σ Σe) (s after : Store) (l : Left Σ s after) (ready : IsWellFormed Σe s) where
  form : IsWellFormed Σe after
  form = run_form Σe x.ok ready (run_in_extension nothing Σ Σe x s after l.run)

  module _ (F : List LfType) (β : ℕ → Option Term) (u : Solution Σe [] after F β) where
    same : (D : List LfType) (M M' : Term) (A : LfType) → OpenHasType Σe [] after.metavariables (IsFilling Σe [] after) D M A → PutsIn after.metavariables after.bindings (binders D) M M' → fill (skeletons_of after.metavariables) (under_locals D β) M ≡ fill (skeletons_of after.metavariables) (under_locals D β) M'
    same D M M' A t d = some_same Σe x.ok [] after.metavariables (IsFilling Σe [] after) after.bindings (typed_at Σe [] after.metavariables (IsFilling Σe [] after) after.bindings form.typed.bindings_typed) F β (PartialInstance-of Σe x.ok [] after.metavariables (λ m. ⊥) F β u.0) u.1.0 D M M' A t (put_some d)

    shown_solved : (es : List Equation) → EquationsAreTyped Σe [] after.metavariables (IsFilling Σe [] after) es → SolvesAll (skeletons_of after.metavariables) β es → (k : AllLeftOver s.metavariables after es) → AreShownSolved (skeletons_of after.metavariables) β s.metavariables after es k
    shown_solved [] t q k = tt
    shown_solved (e ∷ es) (t, ts) (q, qs) (k, ks) = (subst (λ D. fill (skeletons_of after.metavariables) (under_locals D β) k.shown.left ≡ fill (skeletons_of after.metavariables) (under_locals D β) k.shown.right) (sym k.same_local) (sym (same e.local e.left k.shown.left e.of_type t.left_typed k.put_left) ∙ q ∙ same e.local e.right k.shown.right e.of_type t.right_typed k.put_right), shown_solved es ts qs ks)

-- So over each signature that extends that of the store.
pub solves_left : (Σ : Signature) (s after : Store) (l : Left Σ s after) → ((Σe : Signature) → Extends nothing Σ Σe → IsWellFormed Σe s) → (u : HasUnifier Σ s) → SolvesLeft Σ s after l u
solves_left Σ s after l ready u =
    let Σe : Signature = u.signature in
    let (β, e, v) = (run_keeps_unifiers Σe u.extends.ok (ready Σe u.extends) (run_in_extension nothing Σ Σe u.extends s after l.run)).complete u.context u.filling u.solves in
    record { filling = β; extends = e; solves = v; shown = shown_solved Σ Σe u.extends s after l (ready Σe u.extends) u.context β v after.equations (form Σ Σe u.extends s after l (ready Σe u.extends)).typed.equations_typed v.1.1 l.all_left_over }

pub unifier_solves_left : UnifierSolvesLeft
unifier_solves_left Σ first W C p n K kd π J φ x after l u = solves_left _ _ after l (needed_places_are_ready Σ first W C p n K kd π J φ x) u
