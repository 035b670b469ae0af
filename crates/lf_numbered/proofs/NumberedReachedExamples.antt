-- The worked rows of what a split holds back.
use Rattle.std.proofs.Common.{ℕ, zero, suc, [], ◌∷◌, refl, ap, subst}
use Rattle.std.specs.Prelude.{true}
use Rattle.lf.specs.Syntax.{variable, root, nil, app, base}
use Rattle.lf.specs.Substitution.{Image, keep, put}
use Rattle.lf.specs.AtOnce.{in_front}
use Rattle.lf.specs.Variables.{nothing}
use Rattle.lf_totality.proofs.After.{Extends-self}
use Rattle.lf_coverage.proofs.Parts.{none_some, some_same}
use Rattle.lf_numbered.specs.NumberedArguments.{HasNumberedArguments}
use Rattle.lf_numbered.specs.NumberedBesideInstances.{two_instances, older, with_newer}
use Rattle.lf_numbered.specs.NumberedReached.{HoldsBack, KeepsBlocks}
use Rattle.lf_numbered.specs.NumberedReachedExamples.{OpenHoldsBack, NewBlockKeepsBlocks, EntryIsNumberedInstance}
use Rattle.lf_numbered.specs.NumberedSplitsExamples.{Bare, entry_case, exp_block, open_case}
use Rattle.lf_numbered.specs.OwnTerms.{BlockVariable}
use Rattle.lf_numbered.proofs.NumberedBesideInstances.{two_worlds, older_is}
use Rattle.lf_numbered.proofs.NumberedCallsOpen.{open_gives_entry}
use Rattle.lf_numbered.proofs.NumberedReached.{split_case_holds_back}
use Rattle.lf_numbered.proofs.NumberedReachedInstances.{split_case_is_numbered_instance}
use Rattle.lf_numbered.proofs.NumberedSplitsExamples.{bare_ok, blocks_typed, free, open_typed}

abbrev others : ℕ → Image
others = in_front (put (base 0) (root (variable 1) nil)) keep

not_back : HoldsBack two_worlds 2 open_case (λ k. older) others entry_case → ⊥
not_back h = other (subst (λ v. HasNumberedArguments 2 entry_case (λ k. older) v (app (root (variable 1) nil) nil)) h.is_ground.values (h.arguments (app (root (variable 1) nil) nil) (refl, tt)))
  where
    other : HasNumberedArguments 2 entry_case (λ k. older) keep (app (root (variable 1) nil) nil) → ⊥
    other (e, t) = cc

pub open_holds_back : OpenHoldsBack
open_holds_back = (
  two_worlds,
  older_is,
  (refl, tt),
  (split_case_holds_back Bare Bare bare_ok nothing (Extends-self nothing Bare bare_ok) (exp_block ∷ []) blocks_typed 2 free (λ a b. true) open_case open_typed 0 entry_case (open_gives_entry (λ a b. true))).1 two_instances two_worlds (λ k. older) keep older_is,
  not_back,
)

pub new_block_keeps_blocks : NewBlockKeepsBlocks
new_block_keeps_blocks = (kept, λ h. let (d, e, r) = h zero (record { block = exp_block; terms = nil }) refl in none_some e)
  where
    kept : KeepsBlocks entry_case with_newer
    kept zero b e = (record { block = exp_block; terms = nil }, refl, ap (λ (d : BlockVariable). d.block) (some_same e))
    kept (suc k) b e = absurd (none_some e)

pub entry_is_numbered_instance : EntryIsNumberedInstance
entry_is_numbered_instance = (
  (split_case_is_numbered_instance Bare bare_ok (exp_block ∷ []) blocks_typed 2 free (λ a b. true) open_case open_typed 0 entry_case (open_gives_entry (λ a b. true))).0,
  λ π σ i. none_some (i.is_instance.blocks zero (record { block = exp_block; terms = nil }) refl),
)
