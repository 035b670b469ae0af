-- A ground instance over an extension with room is moved back.
use Rattle.std.proofs.Common.{◌≡◌, ℕ, zero, List, [], ◌∷◌, ◌+◌, length, Some, None, refl, sym, ap, ap₂, ◌∙◌, subst, arith}
use Rattle.std.specs.Prelude.{Bool}
use Rattle.lf.specs.Syntax.{LfType, Kind, pi, atom, kind_pi, star}
use Rattle.lf.specs.Substitution.{Image}
use Rattle.lf.specs.Typing.{Signature, IsSignature}
use Rattle.lf.specs.Subordination.{Block, AreTypedBlocks}
use Rattle.lf.specs.Worlds.{World}
use Rattle.lf.specs.Extension.{Extends}
use Rattle.lf_cases.specs.Cover.{InstanceIn}
use Rattle.lf_numbered.specs.EntryConstants.{with_entries, IsFreeFrom}
use Rattle.lf_numbered.specs.NumberedCase.{NumberedCase, AreTypedVariables, AreGroundValues, AreInstances, IsNumberedInstance}
use Rattle.lf_numbered.specs.NumberedInstance.{block_at, move_type, move_types}
use Rattle.lf_numbered.specs.OwnTerms.{BlockVariable, blocks_of, own_terms}
use Rattle.lf_numbered.specs.Reading.{entry_reading}
use Rattle.lf_numbered.specs.WritingRoom.{past_gap, gap_back, move_kind, move_image, leave_room, RoomIsLeft}
use Rattle.lf_numbered.proofs.Reading.{IsOld}
use Rattle.lf_numbered.proofs.WritingGap.{past_back, twice, twice_spine, image_twice}
use Rattle.lf_numbered.proofs.WritingMoved.{readings_moved, read_stays, values_moved, instances_moved}
use Rattle.lf_numbered.proofs.WritingRoom.{old_stays, type_from, kind_from}
use mathlib.Core.Path.{fun_ext}

type_twice : (γ δ : ℕ → ℕ) (A : LfType) → ((c : ℕ) → δ (γ c) ≡ c) → move_type δ (move_type γ A) ≡ A
type_twice γ δ (pi A B) h = ap₂ pi (type_twice γ δ A h) (type_twice γ δ B h)
type_twice γ δ (atom a S) h = ap (atom a) (twice_spine γ δ S h)

kind_twice : (γ δ : ℕ → ℕ) (K : Kind) → ((c : ℕ) → δ (γ c) ≡ c) → move_kind δ (move_kind γ K) ≡ K
kind_twice γ δ (kind_pi A K) h = ap₂ kind_pi (type_twice γ δ A h) (kind_twice γ δ K h)
kind_twice γ δ star h = refl

types_twice : (γ δ : ℕ → ℕ) (G : List LfType) → ((c : ℕ) → δ (γ c) ≡ c) → move_types δ (move_types γ G) ≡ G
types_twice γ δ [] h = refl
types_twice γ δ (A ∷ G) h = ap₂ (λ B D. B ∷ D) (type_twice γ δ A h) (types_twice γ δ G h)

module _ (Σ Σ' : Signature) (ok : IsSignature Σ) (S : ℕ → Bool) (x : Extends S Σ Σ') (W : List Block) (typed : AreTypedBlocks Σ W) (first n : ℕ) (free : IsFreeFrom Σ first) (D : NumberedCase) (tv : AreTypedVariables Σ first W D) {G : List LfType} (w : World Σ' W S G) (v : World (leave_room first n Σ') W S (move_types (past_gap first n) G)) (θ : ℕ → ℕ → Image) (τ : ℕ → Image) (inst : IsNumberedInstance v first D (λ k i. move_image (past_gap first n) (θ k i)) τ) (stand : (k : ℕ) (b : BlockVariable) → block_at D.blocks k ≡ Some b → InstanceIn w b.block (θ k)) where
  abbrev γ : ℕ → ℕ
  γ = past_gap first n

  abbrev δ : ℕ → ℕ
  δ = gap_back first n

  abbrev Σ₂ : Signature
  Σ₂ = leave_room first n Σ'

  abbrev Σ₁ : Signature
  Σ₁ = with_entries Σ first (blocks_of D.blocks)

  back : (c : ℕ) → gap_back first n (past_gap first n c) ≡ c
  back c = past_back first n c

  types_back : (c : ℕ) (A : LfType) → Σ₂.types c ≡ Some A → Σ'.types (gap_back first n c) ≡ Some (move_type (gap_back first n) A)
  types_back c A e =
      let (d, B, p, f, q) = type_from Σ Σ' ok S x W typed first n free c A (Rattle.lf_numbered.specs.WritingRoom.with_gap first n Σ'.types c) refl e in
      ap Σ'.types (ap δ p ∙ back d) ∙ f ∙ ap Some (sym (type_twice γ δ B back) ∙ ap (move_type δ) q)

  kinds_back : (a : ℕ) (K : Kind) → Σ₂.kinds a ≡ Some K → Σ'.kinds a ≡ Some (move_kind (gap_back first n) K)
  kinds_back a K e = let (L, p, q) = kind_from Σ Σ' ok S x W typed first n free K (Σ'.kinds a) e in p ∙ ap Some (sym (kind_twice γ δ L back) ∙ ap (move_kind δ) q)

  stays : (m c : ℕ) → IsOld Σ₁ c → entry_reading first (blocks_of D.blocks) θ m c ≡ None → gap_back first n c ≡ c
  stays m c o q = read_stays Σ first (blocks_of D.blocks) θ δ (λ d p. ap δ (sym (old_stays Σ Σ' ok S x W typed first n free d p)) ∙ back d) m c o q

  returned : (λ (k i : ℕ). move_image δ (move_image γ (θ k i))) ≡ θ
  returned = fun_ext (λ k. fun_ext (λ i. image_twice γ δ (θ k i) back))

  readings : entry_reading first (blocks_of D.blocks) (λ k i. move_image γ (θ k i)) ≡ entry_reading first (blocks_of D.blocks) θ
  readings = readings_moved γ first (blocks_of D.blocks) θ

  instance_left : IsNumberedInstance w first D θ (λ i. move_image δ (τ i))
  instance_left = record {
    values = values_moved δ Σ₂ Σ' types_back kinds_back Σ₁ (entry_reading first (blocks_of D.blocks) θ) stays (move_types γ G) G (sym (types_twice γ δ G back)) D.variables tv.variables τ (subst (λ g. AreGroundValues Σ₂ (move_types γ G) g D.variables τ) readings inst.values);
    instances = subst (λ φ. AreInstances w (entry_reading first (blocks_of D.blocks) θ (length D.variables)) (λ i. move_image δ (τ i)) φ zero D.blocks) returned (instances_moved δ Σ₂ Σ' types_back kinds_back Σ₁ (entry_reading first (blocks_of D.blocks) θ) stays D.variables v w (own_terms first D.blocks) (λ k i. move_image γ (θ k i)) τ zero D.blocks stand_back tv.blocks (subst (λ g. AreInstances v (g (length D.variables)) τ (λ k i. move_image γ (θ k i)) zero D.blocks) readings inst.instances));
  }
    where
      from_zero : (j : ℕ) → j ≡ zero + j
      from_zero j = omega arith

      stand_back : (j : ℕ) (b : BlockVariable) → block_at D.blocks j ≡ Some b → InstanceIn v b.block (λ i. move_image γ (θ (zero + j) i)) → InstanceIn w b.block (λ i. move_image δ (move_image γ (θ (zero + j) i)))
      stand_back j b q u = subst (InstanceIn w b.block) (sym (ap (λ φ. φ (zero + j)) returned)) (subst (λ m. InstanceIn w b.block (θ m)) (from_zero j) (stand j b q))

pub room_is_left : RoomIsLeft
room_is_left Σ Σ' ok S x W typed first n free D tv G w v θ τ inst stand = (instance_left Σ Σ' ok S x W typed first n free D tv w v θ τ inst stand, λ N. twice (past_gap first n) (gap_back first n) N (past_back first n))
