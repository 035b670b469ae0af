use Rattle.std.specs.Prelude.{[]}
use Rattle.lf_unification.specs.OpenTyping.{Declares}
use Rattle.lf_unification.specs.PartialInstance.{IsFilling}
use Rattle.lf_unification.proofs.Fillings.{solution_fills}
use Rattle.lf_unification.proofs.OpenSound.{OpenHasType-sound, PartialInstance-of}
use Rattle.lf_unification.proofs.filled_term_is_typed.Goals as goal

pub returns : goal.returns
returns c = λ Σ ok G s t F β u M A a v m. OpenHasType-sound Σ ok G s.metavariables (IsFilling Σ G s) (Declares s.metavariables) F β (PartialInstance-of Σ ok G s.metavariables (Declares s.metavariables) F β u.0) t.declarations_typed (solution_fills Σ ok G s F β u) [] M A tt a v m
