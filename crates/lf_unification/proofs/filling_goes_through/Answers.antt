use Rattle.std.specs.Prelude.{◌∷◌, suc}
use Rattle.lf.specs.Substitution.{single}
use Rattle.lf_unification.specs.Filling.{fill, moved}
use Rattle.lf_unification.proofs.Filling.{Filled-single, fill_substituted}
use Rattle.lf_unification.proofs.filling_goes_through.Goals as goal

pub returns : goal.returns
returns c = λ κ Γ β a N M t f n m. fill_substituted κ (a ∷ Γ) Γ (moved suc β) β (single a N) (single a (fill κ.metavariable_skeleton β N)) M t (Filled-single κ a Γ β N f n) m
