-- The run of two block variables that may be one instance, by number.
use Rattle.std.proofs.Common.{◌≡◌, ℕ, zero, suc, ◌≤◌, [], ◌∷◌, inl, inr, refl, sym, subst, arith}
use Rattle.std.specs.Prelude.{None}
use Rattle.lf.specs.Syntax.{nil, base, arrow}
use Rattle.lf.specs.Variables.{target_arguments}
use Rattle.lf.specs.Subordination.{Member}
use Rattle.lf_checks.specs.Clause.{from_entry}
use Rattle.lf_cases.specs.Case.{Case}
use Rattle.lf_totality.specs.Examples.{exp, var}
use Rattle.lf_coverage.specs.ExamplesTwins.{Twins, twin_block, twin_worlds, twin_entry, twin_head, twin_goal, twin_types, twin_kinds, entry_alike, check, alike, up_to}
use Rattle.lf_coverage.proofs.ExamplesTwinsRun.{twins_ok, twins_typed, twin_subordination, goal_typed, run}
use Rattle.lf_coverage.proofs.Leaves.{head_is_typed}
use Rattle.lf_numbered.specs.EntryConstants.{IsFreeFrom}
use Rattle.lf_numbered.specs.EntryPatternsExamples.{TwinRunByNumber}
use Rattle.lf_numbered.specs.EntryPatternsRuns.{IsNumberedLeaf}
use Rattle.lf_numbered.specs.Numbering.{numbered}
use Rattle.lf_numbered.proofs.EntryPatternsOne.{one_leaf}
use Rattle.lf_numbered.proofs.EntryPatternsForms.{head_run_is_by_number, numbered_run_covers_case}

-- the constant of b.x is 3
alike_leaf : IsNumberedLeaf Twins 3 twin_worlds (twin_head ∷ []) (numbered 3 entry_alike)
alike_leaf = one_leaf Twins 3 twin_block.label 0 2 3 (target_arguments twin_entry.type) (numbered 3 entry_alike).arguments refl refl refl ((refl, tt), ((refl, tt), (((refl, tt), tt), tt))) ((refl, tt), ((refl, tt), (((refl, tt), tt), tt))) (refl, (refl, (refl, tt))) twin_worlds (twin_head ∷ []) (inl refl) (inl refl)
    (head_is_typed Twins twins_ok twin_worlds twins_typed twin_entry (from_entry twin_block [] (check (var 0) (var 0) (alike (var 0))) (exp ∷ []) (inl refl) refl))
    ((base 0, (base 0, refl, refl)), ((base 0, (base 0, refl, refl)), ((base 1, (arrow (base 0) (base 1), refl, ((base 0, refl, refl), refl))), tt)))
    (((nil, refl), tt), (((nil, refl), tt), ((tt, (((nil, refl), tt), tt)), tt)))

free : IsFreeFrom Twins 3
free = record { types_free = types; kinds_free = kinds }
  where
    types : (c : ℕ) → 3 ≤ c → twin_types c ≡ None
    types zero l = absurd (omega (arith, l))
    types (suc c) l = refl

    kinds : (a : ℕ) → 3 ≤ a → twin_kinds a ≡ None
    kinds zero l = absurd (omega (arith, l))
    kinds (suc zero) l = absurd (omega (arith, l))
    kinds (suc (suc zero)) l = absurd (omega (arith, l))
    kinds (suc (suc (suc a))) l = refl

pub twin_run_by_number : TwinRunByNumber
twin_run_by_number S sc z o =
    let r = head_run_is_by_number Twins twins_ok twin_worlds twins_typed up_to twin_subordination S sc 3 free (twin_head ∷ []) twin_goal goal_typed (entry_alike ∷ []) leaves (run S z o (λ D. Member D (entry_alike ∷ [])) (inl refl)) in
    (r, numbered_run_covers_case Twins twins_ok twin_worlds twins_typed S 3 free (twin_head ∷ []) twin_goal tt goal_typed r)
  where
    leaves : (D : Case) → Member D (entry_alike ∷ []) → IsNumberedLeaf Twins 3 twin_worlds (twin_head ∷ []) (numbered 3 D)
    leaves D (inl q) = subst (λ E. IsNumberedLeaf Twins 3 twin_worlds (twin_head ∷ []) (numbered 3 E)) (sym q) alike_leaf
    leaves D (inr m) = absurd m
