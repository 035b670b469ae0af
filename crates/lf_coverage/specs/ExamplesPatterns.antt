-- Worked cases of stores and cases of patterns.
use Rattle.std.specs.Prelude.{ℕ, zero, suc, [], ◌∷◌, Option, Some, None}
use Rattle.lf.specs.Syntax.{metavariable, Term, lambda, root, nil, app, LfType, pi, base, arrow}
use Rattle.lf.specs.Variables.{same_number}
use Rattle.lf_unification.specs.Unifiers.{Store}
use Rattle.lf_totality.specs.Examples.{nat, z, var}
use Rattle.lf_coverage.specs.ExamplesStuck.{Zeros, applied_case, solved_case}
use Rattle.lf_coverage.specs.PatternCases.{IsPatternCase}
use Rattle.lf_coverage.specs.PatternRuns.{HaveNoIndices}
use Rattle.lf_coverage.specs.PatternStores.{IsPatternStore, IsPatternTerm}

-- X : nat, F : nat -> nat and G : nat -> nat -> nat
abbrev pub some_metavariables : ℕ → Option LfType
some_metavariables zero = Some nat
some_metavariables (suc zero) = Some (pi nat nat)
some_metavariables (suc (suc zero)) = Some (pi nat (pi nat nat))
some_metavariables (suc (suc (suc m))) = None

abbrev pub taking : Term → Term
taking M = root (metavariable 1) (app M nil)

-- [x] F x has patterns; F z and [x] G x x don't.
abbrev pub BoundAreDistinct : Type 0
BoundAreDistinct = IsPatternTerm Zeros some_metavariables [] (lambda (taking (var 0))) (arrow (base 0) (base 0)) × (IsPatternTerm Zeros some_metavariables [] (taking z) (base 0) → ⊥) × (IsPatternTerm Zeros some_metavariables [] (lambda (root (metavariable 2) (app (var 0) (app (var 0) nil)))) (arrow (base 0) (base 0)) → ⊥)

-- a store with one equation, of two closed terms of type nat
abbrev pub equating : Term → Term → Store
equating M N = record { metavariables = some_metavariables; bindings = []; equations = record { local = []; left = M; right = N; of_type = nat } ∷ [] }

-- X = z is a store of patterns, and F z = z is none.
abbrev pub EquationsOfPatterns : Type 0
EquationsOfPatterns = IsPatternStore Zeros (equating (root (metavariable 0) nil) z) × (IsPatternStore Zeros (equating (taking z) z) → ⊥)

-- eq z Y is a case of patterns, and eq z (F z) is none: so by `RunKeepsPatterns` no run over
-- nat comes from eq X Y to it.
abbrev pub StuckIsNoPattern : Type 0
StuckIsNoPattern = IsPatternCase Zeros solved_case × (IsPatternCase Zeros applied_case → ⊥)

-- nat has no indices, and eq has.
abbrev pub NatHasNoIndices : Type 0
NatHasNoIndices = HaveNoIndices Zeros (same_number 0) × (HaveNoIndices Zeros (same_number 2) → ⊥)
