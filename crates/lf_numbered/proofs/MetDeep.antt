-- A typed unifier of a store is one of each store that steps reach from it; so a tuple unifies what is deep there.
use Rattle.lf.specs.Typing.{Signature}
use Rattle.lf.specs.Variables.{nothing}
use Rattle.lf.specs.Extension.{Extends}
use Rattle.lf_unification.specs.Solving.{IsWellFormed}
use Rattle.lf_unification.specs.Steps.{Run}
use Rattle.lf_unification.specs.Unifiers.{Store}
use Rattle.lf_unification.proofs.Runs.{run_keeps_unifiers}
use Rattle.lf_coverage.proofs.RefutedSplits.{run_in_extension}
use Rattle.lf_numbered.specs.MeetsAnswers.{HasUnifier}
use Rattle.lf_numbered.specs.MetDeep.{SolvesReached, StandingTupleUnifiesDeep, UnifierSolvesReached}
use Rattle.lf_numbered.proofs.MetTuples.{standing_tuple_has_unifier}
use Rattle.lf_numbered.proofs.NumberedAnswers.{needed_places_are_ready}

pub solves_reached : (Σ : Signature) (s reached : Store) → Run Σ s reached → ((Σe : Signature) → Extends nothing Σ Σe → IsWellFormed Σe s) → (u : HasUnifier Σ s) → SolvesReached Σ s reached u
solves_reached Σ s reached run ready u =
    let Σe : Signature = u.signature in
    let (β, e, v) = (run_keeps_unifiers Σe u.extends.ok (ready Σe u.extends) (run_in_extension nothing Σ Σe u.extends s reached run)).complete u.context u.filling u.solves in
    record { filling = β; extends = e; solves = v }

pub unifier_solves_reached : UnifierSolvesReached
unifier_solves_reached Σ first W C p n K kd π J φ x reached run u = solves_reached _ _ reached run (needed_places_are_ready Σ first W C p n K kd π J φ x) u

pub standing_tuple_unifies_deep : StandingTupleUnifiesDeep
standing_tuple_unifies_deep Σ first W C p n K kd t π J φ x s d =
    let (u, made) = standing_tuple_has_unifier Σ first W C p n K t π J φ x s in
    (u, made, unifier_solves_reached Σ first W C p n K kd π J φ x d.reached d.run u)
