-- Where unification solves the store at a place, the case and the pattern share a typed instance.
use Rattle.std.proofs.Common.{◌≡◌, ◌≤◌, ℕ, length, sym, ap, ◌∙◌}
use Rattle.std.specs.Prelude.{Bool, true, false, List}
use Rattle.lf.specs.Syntax.{LfType, Kind}
use Rattle.lf.specs.Substitution.{Image}
use Rattle.lf.specs.Typing.{Signature, IsSignature}
use Rattle.lf.specs.Subordination.{Block, AreTypedBlocks}
use Rattle.lf_unification.specs.Solving.{IsWellFormed, Solved}
use Rattle.lf_unification.specs.Unifiers.{Store}
use Rattle.lf_checks.specs.Clause.{Clause}
use Rattle.lf_cases.specs.Pattern.{Origin, Pattern}
use Rattle.lf_coverage.specs.Leaf.{IsTypedPattern}
use Rattle.lf_numbered.specs.EntryConstants.{with_entries, IsFreeFrom}
use Rattle.lf_numbered.specs.MeetsAnswers.{FitsPattern, SolvedByNumberShares}
use Rattle.lf_numbered.specs.NumberedCallsMeeting.{SharesInstance}
use Rattle.lf_numbered.specs.NumberedCallsStores.{Identifies, IsPutBeside, constant_beside, entry_beside, new_beside, identified, meet_store_by_number}
use Rattle.lf_numbered.specs.NumberedCase.{NumberedCase}
use Rattle.lf_numbered.specs.NumberedInstance.{moved_constant}
use Rattle.lf_numbered.specs.OwnTerms.{blocks_of}
use Rattle.lf_numbered.specs.TypedNumbered.{IsTypedNumberedCase}
use Rattle.lf_numbered.proofs.MeetsAnswersEntries.{of_constants, of_entries}
use Rattle.lf_numbered.proofs.MeetsAnswersNew.{of_new}
use Rattle.lf_numbered.proofs.RenamedBlocks.{moved_length}

module _ (Σ : Signature) (ok : IsSignature Σ) (W : List Block) (typed : AreTypedBlocks Σ W) (first : ℕ) (free : IsFreeFrom Σ first) (C : NumberedCase) (tc : IsTypedNumberedCase Σ first W C) (K : Kind) (A : LfType) (π : ℕ → ℕ) (ids : Identifies C π) (oldest : (k : ℕ) → π k ≤ k) (finish : Store) where
  abbrev pattern : Bool → {c : Clause} → Origin c → Pattern
  pattern b {c = c} o = record { clause = c; origin = o; type = A; at_first = b }

  abbrev Ready : NumberedCase → Pattern → (ℕ → Image) → Type 0
  Ready J p φ = IsWellFormed (with_entries Σ first (blocks_of J.blocks)) (meet_store_by_number π J p φ K)

  abbrev IsSolved : NumberedCase → Pattern → (ℕ → Image) → Type 0
  IsSolved J p φ = Solved (with_entries Σ first (blocks_of J.blocks)) (meet_store_by_number π J p φ K) finish

  pub at_place : (b : Bool) (c : Clause) (o : Origin c) → IsTypedPattern Σ (pattern b o) → FitsPattern Σ W C (pattern b o) K → (J : NumberedCase) (φ : ℕ → Image) → IsPutBeside first (identified first π C) π b c o J φ → Ready J (pattern b o) φ → IsSolved J (pattern b o) φ → SharesInstance Σ first W C (pattern b o)
  at_place b c o tp f J φ (constant_beside U) form s = (of_constants Σ ok W typed first free C tc K A b π ids oldest finish U tp f form s).0
  at_place b c o tp f J φ (entry_beside B later E es e k U at fixed z) form s = (of_entries Σ ok W typed first free C tc K A b π ids oldest finish B later E es e tp f k fixed z U at form s).0
  at_place b c o tp f J φ (new_beside B later E es e U n fixed at) form s = by b n tp f form s
    where
      by : (b : Bool) → b ≡ false → IsTypedPattern Σ (pattern b o) → FitsPattern Σ W C (pattern b o) K → Ready J (pattern b o) φ → IsSolved J (pattern b o) φ → SharesInstance Σ first W C (pattern b o)
      by true n tp f form s = absurd (no n)
        where
          no : true ≡ false → ⊥
          no r = cc
      by false n tp f form s = of_new Σ ok W typed first free C tc B f.of_worlds π ids (ap π (sym same) ∙ fixed ∙ same) K A oldest finish later E es e tp f U at form s
        where
          same : length (identified first π C).blocks ≡ length C.blocks
          same = moved_length (moved_constant first (blocks_of C.blocks) (blocks_of C.blocks) π) C.blocks

pub solved_by_number_shares : SolvedByNumberShares
solved_by_number_shares Σ ok W typed first free C tc p tp K f π J φ place form finish s = at_place Σ ok W typed first free C tc K p.type π place.identifies place.oldest finish p.at_first p.clause p.origin tp f J φ place.beside form s
