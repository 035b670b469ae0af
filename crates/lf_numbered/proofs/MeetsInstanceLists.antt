-- Block variables, local contexts and arguments with other constants: what stays of them, and what is typed by skeletons.
use Rattle.std.proofs.Common.{◌≡◌, ℕ, zero, suc, List, [], ◌∷◌, ◌++◌, inl, inr, refl, sym, ap, ◌∙◌, subst}
use Rattle.std.specs.Prelude.{Some}
use Rattle.lf.specs.Syntax.{Spine, nil, app, LfType, Kind, atom, Skeleton, base, arrow, skeleton}
use Rattle.lf.specs.Substitution.{Image, substitute_type, reduce}
use Rattle.lf.specs.SkeletonTyping.{SpineSkeleton}
use Rattle.lf.specs.Skeletons.{constant_skeletons, context_skeletons}
use Rattle.lf.specs.Typing.{Signature, ImageHasType, IsTypedSubstitution, IsContext, IsSignature}
use Rattle.lf.specs.Variables.{onto}
use Rattle.lf.specs.Subordination.{Block, AreTypedBlocks}
use Rattle.lf.proofs.Substitution.{typed_substitution_by_skeletons}
use Rattle.lf.proofs.Weakening.{declared_is_type}
use Rattle.lf_unification.specs.Offering.{pi_over}
use Rattle.lf_coverage.proofs.Parts.{some_same}
use Rattle.lf_numbered.specs.NumberedCase.{AreSomeTerms, some_spine}
use Rattle.lf_numbered.specs.NumberedInstance.{move_type, move_types}
use Rattle.lf_numbered.specs.OwnTerms.{BlockVariable, blocks_of}
use Rattle.lf_numbered.specs.WritingRoom.{move_image}
use Rattle.lf_numbered.proofs.MovedBlocks.{AreTypedIn}
use Rattle.lf_numbered.proofs.NumberedArguments.{skeleton_only}
use Rattle.lf_numbered.proofs.Reading.{IsOld, SpineOnlyConstants}
use Rattle.lf_numbered.proofs.WritingGap.{same_old}
use Rattle.lf_numbered.proofs.WritingMove.{move_type_substituted, moved_image}
use Rattle.lf_numbered.proofs.WritingSame.{some_skeleton}

pub blocks_typed : (Σ : Signature) (bs : List BlockVariable) → AreTypedIn Σ bs → AreTypedBlocks Σ (blocks_of bs)
blocks_typed Σ [] h B m = absurd m
blocks_typed Σ (b ∷ bs) h B (inl e) = subst (λ (D : Block). IsContext Σ (onto D.entries D.some)) (sym e) (h zero b refl)
blocks_typed Σ (b ∷ bs) h B (inr m) = blocks_typed Σ bs (λ k c e. h (suc k) c e) B m

pub both_typed : (Σ : Signature) (bs cs : List BlockVariable) → AreTypedIn Σ bs → AreTypedIn Σ cs → AreTypedIn Σ (bs ++ cs)
both_typed Σ [] cs h g k d e = g k d e
both_typed Σ (b ∷ bs) cs h g zero d e = subst (λ (D : BlockVariable). IsContext Σ (onto D.block.entries D.block.some)) (some_same e) (h zero b refl)
both_typed Σ (b ∷ bs) cs h g (suc k) d e = both_typed Σ bs cs (λ j c q. h (suc j) c q) g k d e

-- constants of a spine that is typed by skeletons
pub spine_only : (Σ : Signature) (Γ : List Skeleton) (S : Spine) (t u : Skeleton) → SpineSkeleton (constant_skeletons Σ) Γ S t u → SpineOnlyConstants (IsOld Σ) S
spine_only Σ Γ nil t u s = tt
spine_only Σ Γ (app M S) (arrow a b) u (m, s) = (skeleton_only Σ Γ M a m, spine_only Σ Γ S b u s)
spine_only Σ Γ (app M S) (base d) u s = absurd s

pub some_only : (Σ : Signature) → IsSignature Σ → (X O : List LfType) (U : Spine) → AreSomeTerms Σ X O U → SpineOnlyConstants (IsOld Σ) U
some_only Σ ok X O U (υ, t, e) = subst (SpineOnlyConstants (IsOld Σ)) (sym e) (spine_only Σ (context_skeletons X) (some_spine O υ) (skeleton (pi_over O (atom zero nil))) (base zero) (some_skeleton (constant_skeletons Σ) O (context_skeletons X) υ (atom zero nil) (typed_substitution_by_skeletons Σ ok O X υ t)))

-- `some` variables of a block keep their types, so their values stay typed
pub some_kept : (γ : ℕ → ℕ) (Σ Σ₁ Σ₂ : Signature) → IsSignature Σ → ((c : ℕ) → IsOld Σ c → γ c ≡ c) → ((c : ℕ) (A : LfType) → Σ₁.types c ≡ Some A → Σ₂.types (γ c) ≡ Some (move_type γ A)) → ((a : ℕ) (K : Kind) → Σ₁.kinds a ≡ Some K → Σ₂.kinds a ≡ Some (Rattle.lf_numbered.specs.WritingRoom.move_kind γ K)) → (O X : List LfType) (υ : ℕ → Image) → IsContext Σ O → IsTypedSubstitution Σ₁ O X υ → IsTypedSubstitution Σ₂ O (move_types γ X) (λ i. move_image γ (υ i))
some_kept γ Σ Σ₁ Σ₂ ok old ts ks O X υ c t i A g = subst (ImageHasType Σ₂ (move_types γ X) (move_image γ (υ i))) (move_type_substituted γ υ A ∙ ap (substitute_type reduce (λ j. move_image γ (υ j))) (same_old Σ γ O A old (declared_is_type Σ ok O i A c g))) (moved_image γ Σ₁ Σ₂ ts ks X (υ i) (substitute_type reduce υ A) (t i A g))
