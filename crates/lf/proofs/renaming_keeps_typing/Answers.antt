use Rattle.lf.proofs.Weakening.{renaming_keeps_typing, renaming_keeps_types, renaming_keeps_kinds}
use Rattle.lf.proofs.renaming_keeps_typing.Goals as goal

pub returns : goal.returns
returns c = λ Σ ok G D ρ w. (λ M A. renaming_keeps_typing Σ ok G D ρ M A w, λ A. renaming_keeps_types Σ ok G D ρ A w, λ K. renaming_keeps_kinds Σ ok G D ρ K w)
