-- Worked splits whose stores have numbers of their own.
use Rattle.std.proofs.Common.{◌≡◌, ℕ, zero, suc, List, [], ◌∷◌, inl, refl, sym, ap, subst, ◌≤◌, ◌∙◌, arith, None}
use Rattle.std.specs.Prelude.{Some}
use Rattle.lf.specs.Syntax.{LfType, pi, star}
use Rattle.lf_unification.specs.OpenTyping.{Declares}
use Rattle.lf_unification.specs.Steps.{CanRefute}
use Rattle.lf_unification.specs.Unifiers.{Equation}
use Rattle.lf_unification.proofs.Runs.{run_refuted}
use Rattle.lf_cases.specs.Reached.{constant_head}
use Rattle.lf_cases.specs.Split.{at_leaf, by_split, next_case, no_case}
use Rattle.lf_totality.specs.Examples.{Addition, nat, first_below_second, plus_input_goal, plus_zero_case, plus_successor_case}
use Rattle.lf_totality.specs.ExamplesBlocks.{Numbered}
use Rattle.lf_totality.proofs.Addition.{addition_ok}
use Rattle.lf_totality.proofs.ExamplesBlocks.{numbered_ok}
use Rattle.lf_coverage.specs.ExamplesMatching.{plus_z_head}
use Rattle.lf_coverage.specs.ExamplesRefutingNumbers.{ClashIsRefuted, NumberedIsFound, PlusIsFound, SuccessorHasNumbers, SuccessorIsFound, clash_store, numbered_store, successor_offer}
use Rattle.lf_coverage.specs.ExamplesRenumbering.{exchanged, successor_store, turn, turn_twice, turned, unknown}
use Rattle.lf_coverage.specs.RefutingNumbers.{IsFoundSplit, SolvingFinds}
use Rattle.lf_coverage.specs.Renumbering.{renumbered_store, renumbered_type}
use Rattle.lf_coverage.specs.TypedLocal.{HasTypedLocal}
use Rattle.lf_coverage.specs.UnifiedSplit.{UnifierFinds}
use Rattle.lf_coverage.proofs.Examples.{goal_typed}
use Rattle.lf_coverage.proofs.ExamplesLeaves.{zero_leaf, successor_leaf}
use Rattle.lf_coverage.proofs.ExamplesRefuted.{plus_refuted, successor_is_refuted}
use Rattle.lf_coverage.proofs.ExamplesUnified.{successor_done, successor_found, successor_has_unifier}
use Rattle.lf_coverage.proofs.Parts.{some_same, none_some}
use Rattle.lf_coverage.proofs.RefutingNumbers.{refuted_split_is_found, refuted_under_numbers, solved_here}
use Rattle.lf_coverage.proofs.RefutingNumbersStores.{numbered_store_is_found}
use Rattle.lf_coverage.proofs.RenumberedSplit.{found_under_numbers}

-- each of the three is a number
numbered : (m : ℕ) (A : LfType) → successor_store.metavariables m ≡ Some A → numbered_store.metavariables (turn m) ≡ Some (renumbered_type turn A)
numbered zero A e = subst (λ X. Some nat ≡ Some (renumbered_type turn X)) (some_same e) refl
numbered (suc zero) A e = subst (λ X. Some nat ≡ Some (renumbered_type turn X)) (some_same e) refl
numbered (suc (suc zero)) A e = subst (λ X. Some nat ≡ Some (renumbered_type turn X)) (some_same e) refl
numbered (suc (suc (suc m))) A e = absurd (none_some e)

no_others : (k : ℕ) (B : LfType) → numbered_store.metavariables k ≡ Some B → (m : ℕ) × Declares successor_store.metavariables m × (turn m ≡ k)
no_others zero B e = (0, (nat, refl), refl)
no_others (suc zero) B e = (2, (nat, refl), refl)
no_others (suc (suc zero)) B e = (1, (nat, refl), refl)
no_others (suc (suc (suc k))) B e = absurd (none_some e)

other_number : unknown 2 ≡ unknown 1 → ⊥
other_number e = cc

first : {e d : Equation} {es ds : List Equation} → e ∷ es ≡ d ∷ ds → e ≡ d
first q = cc

pub successor_has_numbers : SuccessorHasNumbers
successor_has_numbers = (record { declared = numbered; no_others = no_others; bindings = refl; equations = refl }, λ h. other_number (ap (λ e. e.left) (first h.equations)))

local_typed : HasTypedLocal Addition plus_input_goal
local_typed = ((tt, (star, refl, tt)), (star, refl, tt))

free_from_three : (m : ℕ) → 3 ≤ m → successor_store.metavariables m ≡ None
free_from_three zero l = absurd (omega arith)
free_from_three (suc zero) l = absurd (omega arith)
free_from_three (suc (suc zero)) l = absurd (omega arith)
free_from_three (suc (suc (suc m))) l = refl

pub numbered_is_found : NumberedIsFound
numbered_is_found = (numbered_store_is_found Addition addition_ok [] (λ B m. absurd m) first_below_second plus_input_goal goal_typed local_typed 1 nat (nat, refl, refl) successor_offer (constant_head 1 (pi nat nat) refl refl) tt star refl 3 free_from_three turn (λ i j l k e. sym (turn_twice i) ∙ ap turn e ∙ turn_twice j) numbered_store successor_has_numbers.0).1

found_here : SolvingFinds Addition first_below_second plus_input_goal 1 nat successor_offer star turned (Some plus_successor_case)
found_here =
    let (after, s, e) = successor_found in
    subst (λ D. SolvingFinds Addition first_below_second plus_input_goal 1 nat successor_offer star turned (Some D)) (sym e) (solved_here Addition addition_ok [] (λ B m. absurd m) first_below_second plus_input_goal goal_typed local_typed 1 [] nat (nat, refl, refl) successor_offer (constant_head 1 (pi nat nat) refl refl) turned tt star refl after s)

found_there : UnifierFinds Addition first_below_second plus_input_goal 1 nat successor_offer star (Some plus_successor_case)
found_there =
    let (after, s, e) = found_here in
    subst (λ D. UnifierFinds Addition first_below_second plus_input_goal 1 nat successor_offer star (Some D)) (sym e) ((found_under_numbers Addition addition_ok [] (λ B m. absurd m) first_below_second plus_input_goal goal_typed local_typed 1 nat (nat, refl, refl) successor_offer (constant_head 1 (pi nat nat) refl refl) tt star refl turned).1 after s)

pub successor_is_found : SuccessorIsFound
successor_is_found = (found_here, found_there, none)
  where
    none : CanRefute Addition (renumbered_store turned successor_store) → ⊥
    none d =
        let c : CanRefute Addition successor_store = (refuted_under_numbers Addition addition_ok turned successor_store).1 d in
        let (w, after, s, b) = successor_done in
        successor_has_unifier (run_refuted Addition addition_ok w c.run c.refuted)

pub clash_is_refuted : ClashIsRefuted
clash_is_refuted = (refl, (refuted_under_numbers Numbered numbered_ok exchanged clash_store).0 successor_is_refuted.0)

plus_found : IsFoundSplit Addition [] first_below_second plus_input_goal 1 (plus_zero_case ∷ plus_successor_case ∷ [])
plus_found = refuted_split_is_found Addition addition_ok [] (λ B m. absurd m) first_below_second plus_input_goal goal_typed local_typed 1 (plus_zero_case ∷ plus_successor_case ∷ []) (λ h. turned) plus_refuted

pub plus_is_found : PlusIsFound
plus_is_found = (plus_found, by_split (plus_zero_case ∷ plus_successor_case ∷ []) (1, plus_z_head, inl refl, inl refl, plus_found) (next_case (at_leaf zero_leaf) (next_case (at_leaf successor_leaf) no_case)))
