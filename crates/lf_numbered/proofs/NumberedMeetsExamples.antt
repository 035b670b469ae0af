-- Worked places of patterns of the first block variable alone.
use Rattle.std.proofs.Common.{◌≡◌, ℕ, zero, suc, ◌+◌, List, [], ◌∷◌, inl, refl, sym, ap, ◌∙◌, arith}
use Rattle.std.specs.Prelude.{Bool, true, false, Some}
use Rattle.lf.specs.Syntax.{Spine, base, constant, root, nil}
use Rattle.lf.specs.Substitution.{Image, keep, put}
use Rattle.lf.specs.AtOnce.{in_front}
use Rattle.lf_checks.specs.Clause.{Clause}
use Rattle.lf_cases.specs.Pattern.{Origin, of_constant, of_entry}
use Rattle.lf_coverage.proofs.Parts.{none_some, some_same}
use Rattle.lf_numbered.specs.EntryPatterns.{IsInstanceOfPattern}
use Rattle.lf_numbered.specs.NumberedCallsMeeting.{SharesInstance, HasPattern}
use Rattle.lf_numbered.specs.NumberedCallsStores.{Identifies, IsPutBeside, constant_beside, entry_beside, new_beside, identified}
use Rattle.lf_numbered.specs.NumberedCase.{NumberedCase}
use Rattle.lf_numbered.specs.NumberedInstance.{IsNumberedInstanceOf, block_at}
use Rattle.lf_numbered.specs.NumberedMeetsExamples.{FirstIsNeeded, OtherSharesNone, first_has, other_block, other_case}
use Rattle.lf_numbered.specs.NumberedSplitsExamples.{Bare, entry_case, exp, exp_block, has_head, open_case}
use Rattle.lf_numbered.specs.OwnTerms.{BlockVariable}
use Rattle.lf_numbered.proofs.NumberedCallsOpen.{entry_is_instance}
use Rattle.lf_numbered.proofs.NumberedMeets.{no_place_shares_none}

-- A place of an entry of the first block variable alone is that of a block variable of the case.
abbrev HasBlock : NumberedCase → {c : Clause} → Origin c → Type 0
HasBlock D (of_constant U) = Unit {0}
HasBlock D (of_entry B later E es e) = (k : ℕ) × (U : Spine) × (block_at D.blocks k ≡ Some (record { block = B; terms = U }))

block_there : (first : ℕ) (D : NumberedCase) (π : ℕ → ℕ) (b : Bool) {c : Clause} {o : Origin c} {J : NumberedCase} {φ : ℕ → Image} → IsPutBeside first D π b c o J φ → b ≡ true → HasBlock D o
block_there first D π b (constant_beside U) r = tt
block_there first D π b (entry_beside B later E es e k U at fixed z) r = (k, U, at)
block_there first D π b (new_beside B later E es e U n fixed at) r = absurd (no (sym r ∙ n))
  where
    no : true ≡ false → ⊥
    no e = cc

shared_values : ℕ → Image
shared_values = in_front (put (base 0) (root (constant 2) nil)) (λ i. keep (i + 0))

open_instance : IsNumberedInstanceOf Bare 2 entry_case open_case (λ k. k) shared_values
unfolding shared_values
open_instance = record {
  is_instance = record { blocks = λ k b e. absurd (none_some e); values = (root (constant 2) nil, (λ i. keep (i + 0)), refl, (exp, refl, refl), ((nil, refl), tt), refl) };
  family = refl;
  given = refl;
  local = refl;
  arguments = refl;
}

only_one : (k : ℕ) (b : BlockVariable) → block_at entry_case.blocks k ≡ Some b → k ≡ zero
only_one zero b e = refl
only_one (suc k) b e = absurd (none_some e)

first_pattern : HasPattern Bare 2 entry_case first_has
first_pattern =
    let i : IsInstanceOfPattern Bare 2 entry_case has_head = entry_is_instance in
    let (k, U, at, z, a) = i.stands in
    record { used = i.used; values = i.values; typed = i.typed; on_own_terms = i.on_own_terms; uses = i.uses; terms = i.terms; given = λ j M u e. absurd (none_some e); stands = (k, U, at, (λ r. only_one k _ at), a); same = i.same }

open_shares : SharesInstance Bare 2 (exp_block ∷ []) open_case first_has
open_shares = record {
  common = entry_case;
  typed_variables = record { variables = tt; on_own_terms = λ i A g. absurd g; blocks = (inl refl, (keep, (λ i A g. absurd g), refl), tt, tt) };
  numbers = λ k. k;
  zeroth = refl;
  values = shared_values;
  of_case = open_instance;
  of_pattern = first_pattern;
}

pub first_is_needed : FirstIsNeeded
first_is_needed = (
  (λ e. (_, refl)),
  (λ h. none_some (h refl).1),
  open_shares,
  (λ π J φ x. none_some (block_there 2 _ π true x refl).2),
)

abbrev label_of : List ℕ → ℕ
label_of [] = 0
label_of (n ∷ ns) = n

pub other_shares_none : OtherSharesNone
other_shares_none s = no_place_shares_none Bare 2 (exp_block ∷ other_block ∷ []) other_case first_has (λ e. (_, refl)) none s
  where
    apart : ◌≡◌ {A = ℕ} 99 98 → ⊥
    apart e = omega (arith, e)

    one : (k : ℕ) (U : Spine) → block_at other_case.blocks k ≡ Some (record { block = exp_block; terms = U }) → ⊥
    one zero U e = apart (ap (λ (b : BlockVariable). label_of b.block.label) (some_same e))
    one (suc k) U e = none_some e

    none : (π : ℕ → ℕ) → Identifies other_case π → (J : NumberedCase) (φ : ℕ → Image) → IsPutBeside 2 (identified 2 π other_case) π true first_has.clause first_has.origin J φ → ⊥
    none π i D φ x = let (k, U, at) = block_there 2 _ π true x refl in one k U at
