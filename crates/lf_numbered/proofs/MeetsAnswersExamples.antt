-- Worked places where unification is solved: of cp X Y beside a new block variable, and of cp b.x c.x where b and c are one.
use Rattle.std.proofs.Common.{◌≡◌, ◌≤◌, ℕ, zero, suc, [], ◌∷◌, inl, inr, refl, sym, subst, arith}
use Rattle.std.specs.Prelude.{Some, false}
use Rattle.lf.specs.Syntax.{constant, metavariable, root, nil, Term, LfType, star, base, weaken}
use Rattle.lf.specs.Substitution.{keep}
use Rattle.lf.specs.Typing.{Signature, TypeAt, IsSignature}
use Rattle.lf.specs.Subordination.{Block, Member}
use Rattle.lf_unification.specs.PartialInstance.{EquationIsTyped, IsFilling}
use Rattle.lf_unification.specs.Solving.{IsWellFormed, Solved}
use Rattle.lf_unification.specs.Steps.{CanRefute, Run, bind, constants_differ, drop_equal, no_step, then_run}
use Rattle.lf_unification.specs.Unifiers.{Store, on_left}
use Rattle.lf_unification.proofs.Runs.{run_solved}
use Rattle.lf_totality.specs.Examples.{Copying, copy_block, cp, cp_kind, exp, var}
use Rattle.lf_totality.proofs.Copying.{copying_ok}
use Rattle.lf_coverage.specs.ExamplesCopying.{copy_app_head, copy_entry_head, copy_worlds}
use Rattle.lf_coverage.specs.SplitStore.{context_metavariables}
use Rattle.lf_coverage.proofs.ContextStore.{context_store_ready}
use Rattle.lf_coverage.proofs.ExamplesCopyingSplit.{copy_typed}
use Rattle.lf_coverage.proofs.ExamplesUnified.{no_argument}
use Rattle.lf_numbered.specs.ExamplesNumbered.{one_copy, two_copies}
use Rattle.lf_numbered.specs.MeetsAnswers.{FitsPattern, IsPlace, entries_at}
use Rattle.lf_numbered.specs.MeetsAnswersExamples.{OneCopyIsRefuted, OpenCopiesShare, TwoCopiesShare, beside_copy, new_outer, one_of_two, open_copies}
use Rattle.lf_numbered.specs.NumberedCallsRows.{copy_outer}
use Rattle.lf_numbered.specs.NumberedCallsStores.{Identifies, entry_beside, new_beside, identified, meet_store_by_number}
use Rattle.lf_numbered.specs.OwnTerms.{TypeOnOwnTerms, own_terms}
use Rattle.lf_numbered.specs.TypedNumbered.{IsTypedNumberedCase}
use Rattle.lf_numbered.proofs.CopyingByNumber.{copying_free, two_copies_typed, entry_head_typed}
use Rattle.lf_numbered.proofs.EntrySignature.{with_entries_is_signature}
use Rattle.lf_numbered.proofs.MeetsAnswersPlaces.{IsThere, is_there}
use Rattle.lf_numbered.proofs.MeetsAnswersShares.{solved_by_number_shares}
use Rattle.lf_numbered.proofs.NumberedCallsRows.{copies_are_equated}

two_fit : FitsPattern Copying copy_worlds two_copies copy_entry_head cp_kind
two_fit = record { of_worlds = inl refl; of_family = refl; same_family = refl; all_places = refl; same_local = refl; given_own = λ i u. absurd cc }

none_less : (k : ℕ) → 0 ≤ k
none_less k = omega arith

none_more : (k : ℕ) → k ≤ k
none_more k = omega arith

two_place : IsPlace 4 two_copies copy_entry_head (λ k. 0) one_of_two copy_outer
two_place = record { identifies = copies_are_equated.0; oldest = none_less; beside = copies_are_equated.1 }

abbrev two_store : Store
two_store = meet_store_by_number (λ k. 0) one_of_two copy_entry_head copy_outer cp_kind

two_ok : IsSignature (entries_at Copying 4 one_of_two)
two_ok = with_entries_is_signature Copying copying_ok 4 copying_free (copy_block ∷ copy_block ∷ []) (λ B m. copy_typed B (same B m))
  where
    same : (B : Block) → Member B (copy_block ∷ copy_block ∷ []) → Member B copy_worlds
    same B (inl e) = inl e
    same B (inr m) = m

both_four : EquationIsTyped (entries_at Copying 4 one_of_two) [] (context_metavariables []) (IsFilling (entries_at Copying 4 one_of_two) [] two_store) (record { local = []; left = root (constant 4) nil; right = root (constant 4) nil; of_type = exp })
both_four = record { local_typed = tt; type_typed = λ F β w u. (base 0, refl, refl); left_typed = (exp, refl, (refl, λ β u. refl)); right_typed = (exp, refl, (refl, λ β u. refl)) }

two_ready : IsWellFormed (entries_at Copying 4 one_of_two) two_store
two_ready = context_store_ready (entries_at Copying 4 one_of_two) two_ok [] tt two_store.equations (both_four, (both_four, tt))

two_run : Run (entries_at Copying 4 one_of_two) two_store (record { metavariables = context_metavariables []; bindings = []; equations = [] })
two_run = then_run drop_equal (then_run drop_equal no_step)

two_solved : Solved (entries_at Copying 4 one_of_two) two_store (record { metavariables = context_metavariables []; bindings = []; equations = [] })
two_solved = run_solved (entries_at Copying 4 one_of_two) two_ok two_ready two_run refl

apart_place : IsPlace 4 two_copies copy_entry_head (λ k. k) two_copies copy_outer
apart_place = record { identifies = stays; oldest = none_more; beside = entry_beside copy_block [] (cp (var 0) (var 0)) (exp ∷ []) refl 0 nil refl refl (λ e. refl) }
  where
    stays : Identifies two_copies (λ k. k)
    stays k b e = (b, e, refl, refl)

apart_refuted : CanRefute (entries_at Copying 4 two_copies) (meet_store_by_number (λ k. k) two_copies copy_entry_head copy_outer cp_kind)
apart_refuted = record { reached = _; run = then_run drop_equal no_step; refuted = constants_differ different }
  where
    different : ◌≡◌ {A = ℕ} 6 4 → ⊥
    different e = omega (arith, e)

pub two_copies_share : TwoCopiesShare
two_copies_share = (
  two_place,
  (_, two_solved),
  solved_by_number_shares Copying copying_ok copy_worlds copy_typed 4 copying_free two_copies two_copies_typed copy_entry_head entry_head_typed cp_kind two_fit (λ k. 0) one_of_two copy_outer two_place two_ready _ two_solved,
  apart_place,
  apart_refuted,
)

-- cp X Y
open_typed : IsTypedNumberedCase Copying 4 copy_worlds open_copies
open_typed = record {
  variables = record { variables = ((tt, (star, refl, tt)), (star, refl, tt)); on_own_terms = own; blocks = tt };
  local = ((tt, (star, refl, tt)), (star, refl, tt));
  local_on_own = tt;
  given = tt;
  given_on_own = tt;
  arguments = ((base 0, (base 0, refl, refl)), ((base 0, (base 0, refl, refl)), tt));
  arguments_on_own = (tt, (tt, tt));
}
  where
    own : (i : ℕ) (A : LfType) → TypeAt (exp ∷ exp ∷ []) i A → TypeOnOwnTerms (own_terms 4 open_copies.blocks) A
    own zero A e = subst (TypeOnOwnTerms (own_terms 4 open_copies.blocks)) (sym e) tt
    own (suc zero) A (B, g, e) = subst (TypeOnOwnTerms (own_terms 4 open_copies.blocks)) (sym e) (subst (λ C. TypeOnOwnTerms (own_terms 4 open_copies.blocks) (weaken C)) (sym g) tt)
    own (suc (suc i)) A (B, (D, g, q), e) = absurd g

open_fit : FitsPattern Copying copy_worlds open_copies copy_entry_head cp_kind
open_fit = record { of_worlds = inl refl; of_family = refl; same_family = refl; all_places = refl; same_local = refl; given_own = λ i u. absurd cc }

open_place : IsPlace 4 open_copies copy_entry_head (λ k. k) beside_copy new_outer
open_place = record { identifies = λ k b e. (b, e, refl, refl); oldest = none_more; beside = new_beside copy_block [] (cp (var 0) (var 0)) (exp ∷ []) refl nil refl refl refl }

abbrev Entries : Signature
Entries = entries_at Copying 4 beside_copy

abbrev open_store : Store
open_store = meet_store_by_number (λ k. k) beside_copy copy_entry_head new_outer cp_kind

abbrev b : Term
b = root (constant 4) nil

abbrev open_after : Store
open_after = record { metavariables = context_metavariables (exp ∷ exp ∷ []); bindings = record { of = 0; value = b } ∷ record { of = 1; value = b } ∷ []; equations = [] }

open_ok : IsSignature Entries
open_ok = with_entries_is_signature Copying copying_ok 4 copying_free (copy_block ∷ []) copy_typed

variable_is : (m : ℕ) → context_metavariables (exp ∷ exp ∷ []) m ≡ Some exp → EquationIsTyped Entries [] (context_metavariables (exp ∷ exp ∷ [])) (IsFilling Entries [] open_store) (record { local = []; left = root (metavariable m) nil; right = b; of_type = exp })
variable_is m e = record { local_typed = tt; type_typed = λ F β w u. (base 0, refl, refl); left_typed = (exp, (exp, e, refl), (refl, λ β u. refl)); right_typed = (exp, refl, (refl, λ β u. refl)) }

open_ready : IsWellFormed Entries open_store
open_ready = context_store_ready Entries open_ok (exp ∷ exp ∷ []) ((tt, (star, refl, tt)), (star, refl, tt)) open_store.equations (variable_is 1 refl, (variable_is 0 refl, tt))

open_run : Run Entries open_store open_after
open_run = then_run (bind {A = exp} on_left [] 1 [] b exp refl tt no_argument (record { inverted = record { inversion = b; is = refl }; reached = λ k. false; avoids = ((λ k A v e. absurd v), tt, λ v. v); within = tt }))
    (then_run (bind {A = exp} on_left [] 0 [] b exp refl (first_other, tt) no_argument (record { inverted = record { inversion = b; is = refl }; reached = λ k. false; avoids = ((λ k A v e. absurd v), ((λ v. tt), tt), λ v. v); within = tt })) no_step)
  where
    first_other : ◌≡◌ {A = ℕ} 0 1 → ⊥
    first_other e = omega (arith, e)

open_solved : Solved Entries open_store open_after
open_solved = run_solved Entries open_ok open_ready open_run refl

pub open_copies_share : OpenCopiesShare
open_copies_share = (open_place, (_, open_solved), solved_by_number_shares Copying copying_ok copy_worlds copy_typed 4 copying_free open_copies open_typed copy_entry_head entry_head_typed cp_kind open_fit (λ k. k) beside_copy new_outer open_place open_ready _ open_solved)

-- cp b.x b.x and cp-app
abbrev one_store : ℕ → Store
one_store n = meet_store_by_number (λ k. n) (identified 4 (λ k. n) one_copy) copy_app_head keep cp_kind

zero_refuted : CanRefute (entries_at Copying 4 one_copy) (one_store 0)
zero_refuted = record { reached = _; run = no_step; refuted = constants_differ different }
  where
    different : ◌≡◌ {A = ℕ} 4 2 → ⊥
    different e = omega (arith, e)

pub one_copy_is_refuted : OneCopyIsRefuted
one_copy_is_refuted π J φ x =
    let (e, q) : IsThere 4 (identified 4 π one_copy) π false copy_app_head.origin J φ = is_there 4 (identified 4 π one_copy) π false x.beside in
    subst (λ D. CanRefute (entries_at Copying 4 D) (meet_store_by_number π D copy_app_head φ cp_kind)) (sym e) (subst (λ f. CanRefute (entries_at Copying 4 (identified 4 π one_copy)) (meet_store_by_number π (identified 4 π one_copy) copy_app_head f cp_kind)) (sym q) (subst (λ n. CanRefute (entries_at Copying 4 one_copy) (one_store n)) (sym (first_stays (π 0) (x.oldest 0))) zero_refuted))
  where
    first_stays : (n : ℕ) → n ≤ 0 → n ≡ 0
    first_stays n l = omega (arith, l)
