-- What the values of the program stand for.
use Rattle.std.specs.Prelude.{ℕ, List, map}
use Rattle.lf_elaboration.specs.State.{State}
use Rattle.tw_metas.specs.View.{equation_of}
use Rattle.tw_terms.specs.declared.canonical.MetaId.{MetaId}
use Rattle.tw_open.specs.View.{made_with}
use Rattle.tw_elaborate.specs.declared.state.Elaboration.{Elaboration}

-- what was made so far
abbrev pub made : Elaboration → State
made e = made_with (map equation_of e.equations.items) e.store.now

-- the numbers of metavariables
abbrev pub numbers_of : List MetaId → List ℕ
numbers_of ms = map (λ m. m.0) ms
