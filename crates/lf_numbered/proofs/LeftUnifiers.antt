-- Each ground instance with block variables apart that gives a variable a head that is offered is a typed unifier of
-- each store that this head's comes to.
use Rattle.std.proofs.Common.{◌+◌, length, sym}
use Rattle.lf.specs.Syntax.{LfType, constant, rename_type}
use Rattle.lf.specs.AtOnce.{shift_by}
use Rattle.lf.proofs.TypeLaws.{skeleton_renamed}
use Rattle.lf_coverage.proofs.Forms.{far_type}
use Rattle.lf_numbered.specs.LeftUnifiers.{HeadIsUnifier}
use Rattle.lf_numbered.specs.NewBlock.{with_new_block}
use Rattle.lf_numbered.specs.NumberedSplits.{of_case, of_new_block}
use Rattle.lf_numbered.proofs.LeftWritten.{head_is_unifier_of}
use Rattle.lf_numbered.proofs.NumberedCandidatesTypes.{takes_same}
use Rattle.lf_numbered.proofs.OwnStoresNewBlock.{new_block_stays_typed}
use Rattle.lf_numbered.proofs.WritingLow.{below_same}

pub head_is_unifier : HeadIsUnifier
head_is_unifier Σ ok W typed below s S sc first free C tc x X at fams args o (of_case h U A f) b K q s' run Σ' ext G w θ σ inst apart (T, e) = head_is_unifier_of Σ Σ' ok S ext W typed below s sc first free C tc w θ σ inst apart x X at fams args h U A f T e K q b s' run
head_is_unifier Σ ok W typed below s S sc first free C tc x X at fams args o (of_new_block B c U A m n f) b K q s' run Σ' ext G w θ σ inst apart (T, e) =
    let Y : LfType = rename_type (shift_by (length B.some)) X in
    head_is_unifier_of Σ Σ' ok S ext W typed below s sc first free (with_new_block B C) (new_block_stays_typed Σ ok W typed first free C tc B m) w θ σ inst apart (x + length B.some) Y (far_type B.some C.variables x X at) (takes_same S X Y (sym (skeleton_renamed (shift_by (length B.some)) X)) fams) (below_same below X Y (sym (skeleton_renamed (shift_by (length B.some)) X)) args) (constant c) U A f T e K q b s' run
