-- The constants of a case by number keep their types where they are moved to those of an instance.
use Rattle.std.proofs.Common.{refl}
use Rattle.lf_numbered.specs.NumberedMeetsTyped.{MovedConstantsAreTyped}
use Rattle.lf_numbered.proofs.IdentifiedConstants.{case_blocks}
use Rattle.lf_numbered.proofs.MovedBlocks.{types_moved}

pub moved_constants_are_typed : MovedConstantsAreTyped
moved_constants_are_typed Σ ok W typed first free J C tv ν σ h = types_moved Σ ok first free C.blocks J.blocks ν (λ k b e. (_, h.blocks k b e, refl)) (case_blocks Σ W typed first C tv)
