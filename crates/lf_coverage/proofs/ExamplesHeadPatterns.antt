-- Worked heads of patterns.
use Rattle.std.proofs.Common.{◌≡◌, ℕ, zero, suc, List, [], ◌∷◌, refl, sym, subst}
use Rattle.lf.specs.Syntax.{Spine, Term, app, arrow, base, metavariable, nil, pi, root, skeleton}
use Rattle.lf_unification.specs.Patterns.{pattern}
use Rattle.lf_totality.specs.Examples.{Addition, first_below_second, nat, z, var}
use Rattle.lf_totality.specs.ExamplesBlocks.{Numbered}
use Rattle.lf_totality.specs.ExamplesGroups.{on_one}
use Rattle.lf_coverage.specs.ExamplesHeadPatterns.{HeadsHavePatterns, dependent_type, function_items}
use Rattle.lf_coverage.specs.PatternSplits.{HeadHasPatterns}
use Rattle.lf_coverage.specs.PatternStores.{AreDistinct, IsPatternTerm, IsPatternType, TypesArePatterns}
use Rattle.lf_coverage.specs.SplitStore.{context_metavariables}
use Rattle.lf_coverage.proofs.Parts.{some_same, none_some}

-- the types after the split at s: three numbers
numbers : TypesArePatterns Addition (context_metavariables (nat ∷ nat ∷ nat ∷ []))
numbers zero A e = subst (IsPatternType Addition (context_metavariables (nat ∷ nat ∷ nat ∷ [])) []) (some_same e) (base 0, refl, refl)
numbers (suc zero) A e = subst (IsPatternType Addition (context_metavariables (nat ∷ nat ∷ nat ∷ [])) []) (some_same e) (base 0, refl, refl)
numbers (suc (suc zero)) A e = subst (IsPatternType Addition (context_metavariables (nat ∷ nat ∷ nat ∷ [])) []) (some_same e) (base 0, refl, refl)
numbers (suc (suc (suc m))) A e = absurd (none_some e)

-- a metavariable is no variable
no_variable : {x : ℕ} → root (metavariable 0) nil ≡ var x → ⊥
no_variable e = cc

first : {X Y : Term} {A B : Spine} → app X A ≡ app Y B → X ≡ Y
first e = cc

unbound_fails : AreDistinct [] (arrow (base 0) (base 0)) (app (root (metavariable 0) nil) nil) → ⊥
unbound_fails d = by d.variables d.same
  where
    by : (xs : List ℕ) → app (root (metavariable 0) nil) nil ≡ pattern (arrow (base 0) (base 0)) xs → ⊥
    by [] e = cc
    by (x ∷ xs) e = no_variable (first e)

applied_fails : IsPatternTerm Numbered (context_metavariables (nat ∷ pi nat nat ∷ [])) [] (root (metavariable 1) (app (root (metavariable 0) nil) nil)) (base 0) → ⊥
applied_fails (A, e, q, d) = unbound_fails (subst (λ X. AreDistinct [] (skeleton X) (app (root (metavariable 0) nil) nil)) (sym (some_same e)) d)

pub heads_have_patterns : HeadsHavePatterns
heads_have_patterns = (record { declared = numbers; result = (base 0, refl, refl) }, none)
  where
    none : HeadHasPatterns Numbered first_below_second (on_one 2 z) function_items 0 dependent_type → ⊥
    none h = by h.result
      where
        by : IsPatternType Numbered (context_metavariables (nat ∷ pi nat nat ∷ [])) [] (on_one 2 (root (metavariable 1) (app (root (metavariable 0) nil) nil))) → ⊥
        by (t, e, a) = one t (some_same (sym e)) a
          where
            one : (t : _) → t ≡ arrow (base 0) (base 2) → Rattle.lf_coverage.specs.PatternStores.ArePatternArguments Numbered (context_metavariables (nat ∷ pi nat nat ∷ [])) [] (app (root (metavariable 1) (app (root (metavariable 0) nil) nil)) nil) t (base 2) → ⊥
            one t q b = applied_fails (subst (λ u. Rattle.lf_coverage.specs.PatternStores.ArePatternArguments Numbered (context_metavariables (nat ∷ pi nat nat ∷ [])) [] (app (root (metavariable 1) (app (root (metavariable 0) nil) nil)) nil) u (base 2)) q b).0
