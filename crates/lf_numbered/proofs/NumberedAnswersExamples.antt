-- Worked: what `instance_of` answers of cp b.x c.x.
use Rattle.std.proofs.Common.{◌≡◌, ℕ, zero, suc, ◌≤◌, ◌⊎◌, [], ◌∷◌, inl, inr, refl, sym, ap, subst, arith}
use Rattle.std.specs.Prelude.{false, Option, Some}
use Rattle.lf.specs.Syntax.{Spine, constant, root, nil, app}
use Rattle.lf.specs.Substitution.{Image}
use Rattle.lf_unification.specs.Steps.{CanRefute, constants_differ, no_step}
use Rattle.lf_checks.specs.Clause.{from_constant, from_entry}
use Rattle.lf_cases.specs.Cover.{before}
use Rattle.lf_cases.specs.Pattern.{Pattern, head_pattern}
use Rattle.lf_totality.specs.Examples.{Copying, copy_block, copy_entry, cp, cp_app, cp_kind, exp, var}
use Rattle.lf_totality.proofs.Copying.{copying_ok}
use Rattle.lf_coverage.specs.Calls.{stuck}
use Rattle.lf_coverage.specs.ExamplesCopying.{copy_app_head, copy_entry_head, copy_worlds}
use Rattle.lf_coverage.proofs.ExamplesCopyingSplit.{copy_typed}
use Rattle.lf_coverage.proofs.Leaves.{head_is_typed}
use Rattle.lf_coverage.proofs.Parts.{none_some, some_same}
use Rattle.lf_numbered.specs.EntryPatterns.{variable_images}
use Rattle.lf_numbered.specs.ExamplesNumbered.{two_copies}
use Rattle.lf_numbered.specs.MeetsAnswers.{ArePlacesAnswered, ArePlacesRefuted, IsMet, IsMetByNumber, entries_at}
use Rattle.lf_numbered.specs.MeetsTupleExamples.{CopiesHaveNoApplied}
use Rattle.lf_numbered.specs.NewBlock.{with_new_block}
use Rattle.lf_numbered.specs.NumberedAnswersExamples.{TwoCopiesAreApart, TwoCopiesAreStuck}
use Rattle.lf_numbered.specs.NumberedCalls.{IsHeadFor, IsSetting, NumberedMatchedIs, NumberedMatchedNeeds}
use Rattle.lf_numbered.specs.NumberedCallsStores.{identified, meet_store_by_number}
use Rattle.lf_numbered.specs.NumberedCase.{NumberedCase}
use Rattle.lf_numbered.specs.NumberedInstance.{block_at}
use Rattle.lf_numbered.specs.OwnTerms.{BlockVariable}
use Rattle.lf_numbered.proofs.MeetsAnswersExamples.{two_copies_share}
use Rattle.lf_numbered.proofs.MeetsAnswersPlaces.{IsThere, is_there}
use Rattle.lf_numbered.proofs.MeetsTupleExamples.{copies_are_refuted}
use Rattle.lf_numbered.proofs.NumberedAnswers.{needed_met_is_meeting, refuted_by_number_is_apart}
use Rattle.lf_numbered.proofs.CopyingByNumber.{copying_free, two_copies_typed}
use Rattle.lf_numbered.proofs.NumberedCallsCopying.{copies_are_matched}
use Rattle.lf_numbered.proofs.NumberedNeedsFor.{head_is_for}

setting : IsSetting Copying 4 copy_worlds
setting = record { signature = copying_ok; blocks = copy_typed; free = copying_free }

head_for : (p : Pattern) → p ≡ head_pattern p.clause p.origin → IsHeadFor Copying 4 two_copies p
head_for p e = record { is_head = e; none_given = refl; no_local = refl; kind = cp_kind; of_family = refl; covered_only = (tt, (tt, tt)); tuple = app (root (constant 4) nil) (app (root (constant 6) nil) nil); at_places = (refl, (refl, tt)); typed_places = ((exp, refl, refl), ((exp, refl, refl), tt)) }

app_needs : NumberedMatchedNeeds Copying 4 copy_worlds two_copies copy_app_head
app_needs = record { setting = setting; case = two_copies_typed; pattern = head_is_for Copying 4 copy_worlds two_copies copy_app_head (head_is_typed Copying copying_ok copy_worlds copy_typed cp_app (from_constant 3 cp_app.type refl)) tt refl (head_for copy_app_head refl) }

entry_needs : NumberedMatchedNeeds Copying 4 copy_worlds two_copies copy_entry_head
entry_needs = record { setting = setting; case = two_copies_typed; pattern = head_is_for Copying 4 copy_worlds two_copies copy_entry_head (head_is_typed Copying copying_ok copy_worlds copy_typed copy_entry (from_entry copy_block [] (cp (var 0) (var 0)) (exp ∷ []) (inl refl) refl)) (copy_typed copy_block (inl refl)) refl (head_for copy_entry_head refl) }

-- cp-app
app_refuted : ArePlacesRefuted Copying 4 two_copies copy_app_head cp_kind
app_refuted π J φ x stays =
    let (e, q) : IsThere 4 (identified 4 π two_copies) π false copy_app_head.origin J φ = is_there 4 (identified 4 π two_copies) π false x.beside in
    subst (λ D. CanRefute (entries_at Copying 4 D) (meet_store_by_number π D copy_app_head φ cp_kind)) (sym e) (subst (λ f. CanRefute (entries_at Copying 4 (identified 4 π two_copies)) (meet_store_by_number π (identified 4 π two_copies) copy_app_head f cp_kind)) (sym q) (copies_are_refuted π x.oldest))

pub two_copies_are_apart : TwoCopiesAreApart
two_copies_are_apart = (app_needs, app_refuted, refuted_by_number_is_apart Copying 4 copy_worlds two_copies copy_app_head app_needs cp_kind refl app_refuted)

pub copies_have_no_applied : CopiesHaveNoApplied
copies_have_no_applied s = let (needs, refuted, a) = two_copies_are_apart in a.no_tuple s.worlds s.typed s.set s.extension s.extends s.context s.world s.known s.values s.tuple s.holds s.is_known s.has

-- u : cp x x, as the entry of a block variable of the case, or of a new one
abbrev numbers : ℕ → ℕ → ℕ → ℕ → ℕ
numbers m n o zero = m
numbers m n o (suc zero) = n
numbers m n o (suc (suc k)) = o

abbrev Answered : (ℕ → ℕ) → NumberedCase → (ℕ → Image) → Type 0
Answered π J φ = CanRefute (entries_at Copying 4 J) (meet_store_by_number π J copy_entry_head φ cp_kind) ⊎ IsMet (entries_at Copying 4 J) (meet_store_by_number π J copy_entry_head φ cp_kind)

abbrev outer_at : NumberedCase → ℕ → Spine → ℕ → Image
outer_at J k U = before [] (variable_images 4 J.blocks k copy_block U)

-- which of the two is the entry's
abbrev AtOld : ℕ → ℕ → ℕ → Type 0
AtOld m n k = Answered (numbers m n 2) (identified 4 (numbers m n 2) two_copies) (outer_at (identified 4 (numbers m n 2) two_copies) k nil)

first_entry : (m n : ℕ) → m ≡ 0 → (n ≡ 0) ⊎ (n ≡ 1) → AtOld m n 0
first_entry m n e (inl f) = subst (λ m. AtOld m n 0) (sym e) (subst (λ n. AtOld 0 n 0) (sym f) (let (place, solved, shares, apart, refuted) = two_copies_share in inr (inl solved)))
first_entry m n e (inr f) = subst (λ m. AtOld m n 0) (sym e) (subst (λ n. AtOld 0 n 0) (sym f) (let (place, solved, shares, apart, refuted) = two_copies_share in inl refuted))

second_entry : (m n : ℕ) → m ≡ 0 → n ≡ 1 → AtOld m n 1
second_entry m n e f = subst (λ m. AtOld m n 1) (sym e) (subst (λ n. AtOld 0 n 1) (sym f) (inl (record { reached = _; run = no_step; refuted = constants_differ different })))
  where
    different : ◌≡◌ {A = ℕ} 4 6 → ⊥
    different e = omega (arith, e)

-- a new one
abbrev AtNew : ℕ → ℕ → ℕ → Type 0
AtNew m n o = Answered (numbers m n o) (with_new_block copy_block (identified 4 (numbers m n o) two_copies)) (outer_at (with_new_block copy_block (identified 4 (numbers m n o) two_copies)) 2 nil)

new_entry : (m n o : ℕ) → m ≡ 0 → (n ≡ 0) ⊎ (n ≡ 1) → o ≡ 2 → AtNew m n o
new_entry m n o e f q = subst (λ m. AtNew m n o) (sym e) (subst (λ o. AtNew 0 n o) (sym q) (by n f))
  where
    different : ◌≡◌ {A = ℕ} 4 8 → ⊥
    different e = omega (arith, e)

    by : (n : ℕ) → (n ≡ 0) ⊎ (n ≡ 1) → AtNew 0 n 2
    by n (inl f) = subst (λ n. AtNew 0 n 2) (sym f) (inl (record { reached = _; run = no_step; refuted = constants_differ different }))
    by n (inr f) = subst (λ n. AtNew 0 n 2) (sym f) (inl (record { reached = _; run = no_step; refuted = constants_differ different }))

none_below : (m : ℕ) → m ≤ 0 → m ≡ 0
none_below m l = omega (arith, l)

one_below : (n : ℕ) → n ≤ 1 → (n ≡ 0) ⊎ (n ≡ 1)
one_below zero l = inl refl
one_below (suc zero) l = inr refl
one_below (suc (suc n)) l = absurd (omega (arith, l))

same_terms : {U V : Spine} → ◌≡◌ {A = Option BlockVariable} (Some (record { block = copy_block; terms = U })) (Some (record { block = copy_block; terms = V })) → U ≡ V
same_terms e = ap (λ (b : BlockVariable). b.terms) (some_same e)

old_entry : (π : ℕ → ℕ) → ((k : ℕ) → π k ≤ k) → (k : ℕ) (U : Spine) → block_at (identified 4 π two_copies).blocks k ≡ Some (record { block = copy_block; terms = U }) → π k ≡ k → Answered π (identified 4 π two_copies) (outer_at (identified 4 π two_copies) k U)
old_entry π l zero U at fixed = subst (λ V. Answered π (identified 4 π two_copies) (outer_at (identified 4 π two_copies) 0 V)) (same_terms at) (first_entry (π 0) (π 1) (none_below (π 0) (l 0)) (one_below (π 1) (l 1)))
old_entry π l (suc zero) U at fixed = subst (λ V. Answered π (identified 4 π two_copies) (outer_at (identified 4 π two_copies) 1 V)) (same_terms at) (second_entry (π 0) (π 1) (none_below (π 0) (l 0)) fixed)
old_entry π l (suc (suc k)) U at fixed = absurd (none_some at)

entry_answered : ArePlacesAnswered Copying 4 two_copies copy_entry_head cp_kind
entry_answered π J φ x stays = by (is_there 4 (identified 4 π two_copies) π false x.beside)
  where
    by : IsThere 4 (identified 4 π two_copies) π false copy_entry_head.origin J φ → Answered π J φ
    by (inl (k, U, at, fixed, z, e, q)) = subst (λ D. Answered π D φ) (sym e) (subst (Answered π (identified 4 π two_copies)) (sym q) (old_entry π x.oldest k U at fixed))
    by (inr (U, z, fixed, at, e, q)) =
        let D : NumberedCase = with_new_block copy_block (identified 4 π two_copies) in
        subst (λ D. Answered π D φ) (sym e) (subst (Answered π D) (sym q) (subst (λ V. Answered π D (outer_at D 2 V)) (same_terms at) (new_entry (π 0) (π 1) (π 2) (none_below (π 0) (x.oldest 0)) (one_below (π 1) (x.oldest 1)) fixed)))

entry_met : IsMetByNumber Copying 4 two_copies copy_entry_head cp_kind
entry_met = let (place, solved, shares, apart, refuted) = two_copies_share in record { numbers = λ k. 0; case = _; outer = _; place = place; met = inl solved }

pub two_copies_are_stuck : TwoCopiesAreStuck
two_copies_are_stuck = (entry_needs, entry_answered, entry_met, needed_met_is_meeting Copying 4 copy_worlds two_copies copy_entry_head entry_needs cp_kind refl entry_met, stuck_is)
  where
    stuck_is : NumberedMatchedIs Copying 4 copy_worlds two_copies copy_entry_head stuck
    stuck_is = let (a, b, c, d, s, f, g) = copies_are_matched in s
