use Rattle.lf_search.proofs.AppliedHeads.{next_taken}
use Rattle.lf_search.proofs.next_head_is_put_in.Goals as goal

pub returns : goal.returns
returns c = λ φ κ Γ D ms m A B n b. next_taken κ φ Γ D ms m A B n b
