-- A typed unifier of what was to be solved is one of the solved store.
use Rattle.std.proofs.Common.{◌≡◌, ℕ, sym, ap, ◌∙◌}
use Rattle.lf_unification.specs.OpenTyping.{Declares, skeletons_of}
use Rattle.lf_unification.specs.Skeletons.{skeleton_or_default}
use Rattle.lf_unification.proofs.Agree.{fill_agree, fill_agree_type}
use Rattle.lf_elaboration.specs.Laws.{UnifierIsOfSolved}
use Rattle.lf_elaboration.proofs.SolvedKinds.{fill_agree_kind}

pub of_solved : UnifierIsOfSolved
of_solved Σ s F β sol after w =
    let (β', x, u) = w.keeps.complete F β sol in
    let same : (m : ℕ) → Declares s.metavariables m → skeletons_of after.metavariables m ≡ skeletons_of s.metavariables m = λ m d. ap skeleton_or_default (w.keeps.grows m d.0 d.1 ∙ sym d.1) in
    let agree : (m : ℕ) → Declares s.metavariables m → β' m ≡ β m = λ m d. x m d.0 d.1 in (
      β',
      u,
      (λ A made. fill_agree_type (Declares s.metavariables) (skeletons_of after.metavariables) (skeletons_of s.metavariables) same β' β A agree made.declared),
      (λ R A made. fill_agree (Declares s.metavariables) (skeletons_of after.metavariables) (skeletons_of s.metavariables) same β' β R agree made.declared),
      (λ K made. fill_agree_kind (Declares s.metavariables) (skeletons_of after.metavariables) (skeletons_of s.metavariables) same β' β K agree made.declared),
    )
