-- In whatever extension, a ground instance with block variables apart that gives a variable a head that is offered holds what one of the case that is
-- read off holds: the constants of the extension move up past the entries', and back.
use Rattle.std.proofs.Common.{◌≡◌, ℕ, zero, suc, List, length, ◌⊎◌, inl, inr, Option, Some, None, refl, sym, ap, ◌∙◌, subst}
use Rattle.std.specs.Prelude.{Bool}
use Rattle.lf.specs.Syntax.{Head, constant, variable, metavariable, Term, Spine, root, lambda, LfType, skeleton}
use Rattle.lf.specs.Substitution.{Image, put}
use Rattle.lf.specs.Eta.{lambdas}
use Rattle.lf.specs.Typing.{Signature, TypeAt, IsSignature}
use Rattle.lf.specs.Variables.{target}
use Rattle.lf.specs.Subordination.{Block, AreTypedBlocks, SelfContained}
use Rattle.lf.specs.Worlds.{World}
use Rattle.lf.specs.Extension.{Extends}
use Rattle.lf_checks.specs.Below.{IsSubordination}
use Rattle.lf_cases.specs.Reached.{taken}
use Rattle.lf_coverage.specs.Heads.{ArgumentsAreBelow}
use Rattle.lf_coverage.proofs.Parts.{none_some}
use Rattle.lf_numbered.specs.EntryConstants.{EntryConstant, IsFreeFrom, entry_constant, entry_type, with_entries}
use Rattle.lf_numbered.specs.NewInstance.{AreApart}
use Rattle.lf_numbered.specs.NumberedBeside.{TakesIn}
use Rattle.lf_numbered.specs.NumberedCase.{NumberedCase, IsNumberedInstance}
use Rattle.lf_numbered.specs.NumberedHeads.{IsNumberedHead, of_signature, of_taken, of_entry}
use Rattle.lf_numbered.specs.NumberedInstance.{move, move_spine, move_types}
use Rattle.lf_numbered.specs.Numbering.{entries_of}
use Rattle.lf_numbered.specs.OwnTerms.{blocks_of}
use Rattle.lf_numbered.specs.Reading.{read_entry, entry_reading}
use Rattle.lf_numbered.specs.TypedNumbered.{IsTypedNumberedCase}
use Rattle.lf_numbered.specs.WritingLaws.{IsInstanceWithRoom}
use Rattle.lf_numbered.specs.WritingRoom.{gap_back, leave_room, move_image, past_gap}
use Rattle.lf_numbered.proofs.EntrySignature.{else_cases}
use Rattle.lf_numbered.proofs.Reading.{IsOld}
use Rattle.lf_numbered.proofs.WritingGap.{past_back}
use Rattle.lf_numbered.proofs.WritingMoved.{reading_moved}
use Rattle.lf_numbered.proofs.WritingRoom.{old_stays, room_is_made}

lambdas_moved : (γ : ℕ → ℕ) (n : ℕ) (M : Term) → move γ (lambdas n M) ≡ lambdas n (move γ M)
lambdas_moved γ zero M = refl
lambdas_moved γ (suc n) M = ap lambda (lambdas_moved γ n M)

abbrev pub move_head : (ℕ → ℕ) → Head → Head
move_head γ (constant c) = constant (γ c)
move_head γ (variable i) = variable i
move_head γ (metavariable m) = metavariable m

root_moved : (γ : ℕ → ℕ) (h : Head) (T : Spine) → move γ (root h T) ≡ root (move_head γ h) (move_spine γ T)
root_moved γ (constant c) T = refl
root_moved γ (variable i) T = refl
root_moved γ (metavariable m) T = refl

module _ (Σ Σ' : Signature) (ok : IsSignature Σ) (S : ℕ → Bool) (x : Extends S Σ Σ') (W : List Block) (typed : AreTypedBlocks Σ W) (below : ℕ → ℕ → Bool) (s : IsSubordination Σ W below) (sc : SelfContained Σ W S) (first : ℕ) (free : IsFreeFrom Σ first) (E : NumberedCase) (te : IsTypedNumberedCase Σ first W E) {G : List LfType} (w : World Σ' W S G) (θ : ℕ → ℕ → Image) (σ : ℕ → Image) (inst : IsNumberedInstance w first E θ σ) (apart : AreApart E θ) (y : ℕ) (X : LfType) (at : TypeAt E.variables y X) (fams : TakesIn S X) (args : ArgumentsAreBelow below X) (h0 : Head) (T : Spine) (e : σ y ≡ put (skeleton X) (lambdas (length (taken X)) (root h0 T))) where
  abbrev n : ℕ
  n = entries_of (blocks_of E.blocks)

  abbrev γ : ℕ → ℕ
  γ = past_gap first (entries_of (blocks_of E.blocks))

  abbrev δ : ℕ → ℕ
  δ = gap_back first (entries_of (blocks_of E.blocks))

  abbrev pub θ₂ : ℕ → ℕ → Image
  θ₂ k i = move_image (past_gap first (entries_of (blocks_of E.blocks))) (θ k i)

  abbrev pub σ₂ : ℕ → Image
  σ₂ i = move_image (past_gap first (entries_of (blocks_of E.blocks))) (σ i)

  abbrev pub h₂ : Head
  h₂ = move_head (past_gap first (entries_of (blocks_of E.blocks))) h0

  abbrev pub T₂ : Spine
  T₂ = move_spine (past_gap first (entries_of (blocks_of E.blocks))) T

  pub v : World (leave_room first (entries_of (blocks_of E.blocks)) Σ') W S (move_types (past_gap first (entries_of (blocks_of E.blocks))) G)
  v = (room_is_made Σ Σ' ok S x W typed first free E te.variables G w θ σ inst).0

  pub room : IsInstanceWithRoom Σ v first E θ₂ σ₂
  unfolding v
  room = (room_is_made Σ Σ' ok S x W typed first free E te.variables G w θ σ inst).1

  pub stay_apart : AreApart E θ₂
  unfolding v
  stay_apart = (room_is_made Σ Σ' ok S x W typed first free E te.variables G w θ σ inst).2 apart

  pub e₂ : σ₂ y ≡ put (skeleton X) (lambdas (length (taken X)) (root h₂ T₂))
  e₂ = ap (move_image γ) e ∙ ap (put (skeleton X)) (lambdas_moved γ (length (taken X)) (root h0 T) ∙ ap (lambdas (length (taken X))) (root_moved γ h0 T))

  -- a numbered head stays one
  pub head_moved : IsNumberedHead Σ first E θ (length (taken X)) (target X) h0 → IsNumberedHead Σ first E θ₂ (length (taken X)) (target X) h₂
  head_moved k = by h0 k
    where
      by : (h : Head) → IsNumberedHead Σ first E θ (length (taken X)) (target X) h → IsNumberedHead Σ first E θ₂ (length (taken X)) (target X) (move_head γ h)
      by h (of_signature c U q t) = subst (λ d. IsNumberedHead Σ first E θ₂ (length (taken X)) (target X) (constant d)) (sym (old_stays Σ Σ' ok S x W typed first n free c (U, q))) (of_signature c U q t)
      by h (of_taken j l) = of_taken j l
      by h (of_entry c m u A q t z) = of_entry c m u A q t (reading_moved γ first (blocks_of E.blocks) θ (length (taken X)) c ∙ z)

  pub stays : (m c : ℕ) → IsOld (with_entries Σ first (blocks_of E.blocks)) c → entry_reading first (blocks_of E.blocks) θ m c ≡ None → δ c ≡ c
  stays m c (A, q) z = by (else_cases (Σ.types c) (entry_type (entry_constant zero first (blocks_of E.blocks) c)) A q)
    where
      none : (i : Option EntryConstant) → read_entry θ m i ≡ None → entry_type i ≡ Some A → ⊥
      none None r t = none_some t
      none (Some i) r t = none_some (sym r)

      by : (Σ.types c ≡ Some A) ⊎ (entry_type (entry_constant zero first (blocks_of E.blocks) c) ≡ Some A) → δ c ≡ c
      by (inl o) = ap δ (sym (old_stays Σ Σ' ok S x W typed first n free c (A, o))) ∙ past_back first n c
      by (inr o) = absurd (none (entry_constant zero first (blocks_of E.blocks) c) z o)
