-- Worked stores with an entry that is a function.
use Rattle.std.proofs.Common.{◌≡◌, ℕ, zero, suc, List, [], ◌∷◌, refl, arith}
use Rattle.std.specs.Prelude.{false}
use Rattle.lf.specs.Syntax.{constant, lambda, Term, root, nil, app, LfType, arrow, base, pi}
use Rattle.lf_unification.specs.Inversion.{IsPattern}
use Rattle.lf_unification.specs.Patterns.{beyond, pattern_renaming}
use Rattle.lf_unification.specs.Rigid.{first, here, in_constant, later}
use Rattle.lf_unification.specs.Steps.{CanRefute, Run, bind, no_step, open_lambdas, then_run, variable_escapes}
use Rattle.lf_unification.specs.Unifiers.{on_right}
use Rattle.lf_totality.specs.Examples.{nat, var}
use Rattle.lf_coverage.specs.SplitStore.{context_metavariables}
use Rattle.lf_numbered.specs.WorkedCallsStores.{EntriesAreTaken, WithBinary, binary, dropping, exchanging, store_of}

abbrev both : List LfType
both = nat ∷ nat ∷ []

-- y2 and y1, in this order
exchanged : IsPattern both (arrow (base 0) (arrow (base 0) (base 0))) (0 ∷ 1 ∷ [])
exchanged = record { places = λ Γ. (refl, (refl, tt)); distinct = apart }
  where
    apart : (i j : ℕ) → pattern_renaming (arrow (base 0) (arrow (base 0) (base 0))) (0 ∷ 1 ∷ []) (beyond both) i ≡ pattern_renaming (arrow (base 0) (arrow (base 0) (base 0))) (0 ∷ 1 ∷ []) (beyond both) j → i ≡ j
    apart zero zero e = refl
    apart zero (suc zero) e = absurd (omega (arith, e))
    apart zero (suc (suc j)) e = absurd (omega (arith, e))
    apart (suc zero) zero e = absurd (omega (arith, e))
    apart (suc zero) (suc zero) e = refl
    apart (suc zero) (suc (suc j)) e = absurd (omega (arith, e))
    apart (suc (suc i)) zero e = absurd (omega (arith, e))
    apart (suc (suc i)) (suc zero) e = absurd (omega (arith, e))
    apart (suc (suc i)) (suc (suc j)) e = e

abbrev entry_on : Term → Term → Term
entry_on M N = root (constant 2) (app M (app N nil))

solved : Run WithBinary (store_of exchanging) (record { metavariables = context_metavariables (binary ∷ []); bindings = record { of = 0; value = lambda (lambda (entry_on (var 0) (var 1))) } ∷ []; equations = [] })
solved =
    then_run open_lambdas
    (then_run open_lambdas
    (then_run (bind {A = binary} on_right both 0 (0 ∷ 1 ∷ []) (entry_on (var 1) (var 0)) nat refl tt exchanged (record { inverted = record { inversion = entry_on (var 0) (var 1); is = refl }; reached = λ k. false; avoids = ((λ k A v e. absurd v), tt, λ v. v); within = (tt, (tt, tt)) })) no_step))

-- y1 alone
one_kept : IsPattern both (arrow (base 0) (base 0)) (1 ∷ [])
one_kept = record { places = λ Γ. (refl, tt); distinct = apart }
  where
    apart : (i j : ℕ) → pattern_renaming (arrow (base 0) (base 0)) (1 ∷ []) (beyond both) i ≡ pattern_renaming (arrow (base 0) (base 0)) (1 ∷ []) (beyond both) j → i ≡ j
    apart zero zero e = refl
    apart zero (suc j) e = absurd (omega (arith, e))
    apart (suc i) zero e = absurd (omega (arith, e))
    apart (suc i) (suc j) e = omega (arith, e)

escapes : (j : ℕ) → pattern_renaming (arrow (base 0) (base 0)) (1 ∷ []) (beyond both) j ≡ 0 → ⊥
escapes zero e = omega (arith, e)
escapes (suc j) e = omega (arith, e)

refuted : CanRefute WithBinary (store_of dropping)
refuted = record {
  reached = _;
  run = then_run open_lambdas (then_run open_lambdas no_step);
  refuted = variable_escapes {A = pi nat nat} on_right both 0 (1 ∷ []) (entry_on (var 1) (var 0)) nat refl one_kept (record { depth = 0; bad = 0; spine = nil; at = in_constant (later (first here)); is_bad = λ (j, e). escapes j e });
}

pub entries_are_taken : EntriesAreTaken
entries_are_taken = ((_, solved, refl, refl), refuted)
