-- A metavariable is renewed at its type with the bindings put in: it is bound to a new one of that type, so that what is read off the new
-- one's type is read under the bindings. With B := [u] D, the metavariable C : {a:n} v (B a) is bound to [a] C' a, where C' : {a:n} v D.
use Rattle.std.specs.Prelude.{ℕ, ◌∷◌, Some}
use Rattle.lf.specs.Eta.{eta_long}
use Rattle.lf.specs.Syntax.{LfType, metavariable, skeleton}
use Rattle.lf_unification.specs.OpenTyping.{set_at}
use Rattle.lf_unification.specs.Unifiers.{Store}

-- the store then: m, of type A, is bound to the new metavariable n of type A'
abbrev pub renewed_store : Store → ℕ → LfType → LfType → ℕ → Store
renewed_store s m A A' n = record {
  metavariables = set_at n (Some A') s.metavariables;
  bindings = record { of = m; value = eta_long (skeleton A) (metavariable n) } ∷ s.bindings;
  equations = s.equations;
}
