-- Where an explicit declaration gives no entry, it has no completion.
use Rattle.std.proofs.Common.{[], ◌⊎◌, inl, inr, refl}
use Rattle.tw_approx.specs.Answer.{HasSkeletons, IsClash}
use Rattle.tw_parse.specs.Syntax.{declare, define, give, prefer}
use Rattle.tw_resolve.proofs.WholeBodies.{bodies_are_resolved}
use Rattle.law_explicit_agrees.specs.Agreement.{ExplicitMismatchHasNoCompletion, HasNoCompletion}
use Rattle.law_explicit_agrees.proofs.Back.{no_completion}
use Rattle.law_explicit_agrees.proofs.Bare.{type_without, whole_bare}
use Rattle.law_explicit_agrees.proofs.Steady.{decided}

pub explicit_mismatch : ExplicitMismatchHasNoCompletion
explicit_mismatch es canonical (declare c at U) (known, form) none =
    let b = whole_bare es U form in
    (record { known = known; no_definition = refl; no_lambda = type_without es U [] b }, by (decided es c at U b))
  where
    by : HasSkeletons es (declare c at U) [] [] ⊎ IsClash es (declare c at U) → HasNoCompletion es (declare c at U)
    by (inr clash) = inl clash
    by (inl h) = let (w, r, s) = bodies_are_resolved es canonical (declare c at U) [] [] h in inr (w, h, r, no_completion es canonical (declare c at U) (known, form) none [] [] w r)
explicit_mismatch es canonical (define c A M b) (known, form) none = absurd cc
explicit_mismatch es canonical (prefer a x y) (known, form) none = absurd cc
explicit_mismatch es canonical (give fix names) (known, form) none = absurd cc
