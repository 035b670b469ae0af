-- Each ground instance is moved into an extension that leaves the numbers of the entry constants free.
use Rattle.std.proofs.Common.{◌≡◌, ℕ, zero, suc, List, [], ◌∷◌, ◌+◌, length, Option, Some, None, inl, inr, refl, sym, ap, ap₂, ◌∙◌, subst, arith}
use Rattle.std.specs.Prelude.{Bool, true, ◌<◌, ◌≤◌, ◌⊎◌}
use Rattle.lf.specs.Syntax.{LfType, Kind}
use Rattle.lf.specs.Substitution.{Image, rename_image, lift, substitute_type, reduce}
use Rattle.lf.specs.Typing.{Signature, ImageHasType, IsType, IsKind, IsContext, IsSignature}
use Rattle.lf.specs.Variables.{target, onto, everything, Values}
use Rattle.lf.specs.Subordination.{Block, AreTypedBlocks}
use Rattle.lf.specs.Worlds.{World, OpenInstance, no_variables, single_variable, whole_instance, begin_instance, next_entry, single_beside}
use Rattle.lf.specs.Extension.{Extends}
use Rattle.lf.proofs.Weakening.{declared_is_type}
use Rattle.lf_cases.specs.Cover.{InstanceIn, InstanceBefore}
use Rattle.lf_coverage.proofs.Parts.{none_some, some_same}
use Rattle.lf_numbered.specs.EntryConstants.{with_entries, IsFreeFrom}
use Rattle.lf_numbered.specs.NewInstance.{AreApart}
use Rattle.lf_numbered.specs.NumberedCase.{NumberedCase, AreTypedVariables, AreGroundValues, AreInstances, IsNumberedInstance}
use Rattle.lf_numbered.specs.NumberedInstance.{move_type, move_types}
use Rattle.lf_numbered.specs.Numbering.{entries_of}
use Rattle.lf_numbered.specs.OwnTerms.{blocks_of, own_terms}
use Rattle.lf_numbered.specs.Reading.{entry_reading}
use Rattle.lf_numbered.specs.Writing.{IsFreeBetween}
use Rattle.lf_numbered.specs.WritingLaws.{IsInstanceWithRoom}
use Rattle.lf_numbered.specs.WritingRoom.{past_gap, gap_back, with_gap, move_kind, move_declared, move_declared_kind, move_image, leave_room, RoomIsMade}
use Rattle.lf_numbered.proofs.Reading.{IsOld}
use Rattle.lf_numbered.proofs.WritingGap.{past_low, gap_at, gap_none, gap_from, past_back, image_twice, same_old, kind_only}
use Rattle.lf_numbered.proofs.WritingMove.{target_moved, image_moved_under, lift_moved, move_type_substituted, moved_is_type, moved_is_kind, moved_image}
use Rattle.lf_numbered.proofs.WritingMoved.{readings_moved, read_stays, values_moved, instances_moved}
use mathlib.Core.Path.{fun_ext}

module _ (Σ Σ' : Signature) (ok : IsSignature Σ) (S : ℕ → Bool) (x : Extends S Σ Σ') (W : List Block) (typed : AreTypedBlocks Σ W) (first n : ℕ) (free : IsFreeFrom Σ first) where
  abbrev γ : ℕ → ℕ
  γ = past_gap first n

  abbrev Σ₂ : Signature
  Σ₂ = leave_room first n Σ'

  below_first : (c : ℕ) → IsOld Σ c → c < first
  below_first c (A, e) = by (order c first)
    where
      order : (c k : ℕ) → (c < k) ⊎ (k ≤ c)
      order c zero = inr (omega arith)
      order zero (suc k) = inl (omega arith)
      order (suc c) (suc k) = on (order c k)
        where
          on : (c < k) ⊎ (k ≤ c) → (suc c < suc k) ⊎ (suc k ≤ suc c)
          on (inl l) = inl (omega (arith, l))
          on (inr l) = inr (omega (arith, l))

      by : (c < first) ⊎ (first ≤ c) → c < first
      by (inl l) = l
      by (inr l) = absurd (none_some (sym (free.types_free c l) ∙ e))

  pub old_stays : (c : ℕ) → IsOld Σ c → past_gap first n c ≡ c
  old_stays c h = past_low first n c (below_first c h)

  pub types_moved : (c : ℕ) (A : LfType) → Σ'.types c ≡ Some A → (leave_room first n Σ').types (past_gap first n c) ≡ Some (move_type (past_gap first n) A)
  types_moved c A e = ap (move_declared γ) (gap_at first n Σ'.types c ∙ e)

  pub kinds_moved : (a : ℕ) (K : Kind) → Σ'.kinds a ≡ Some K → (leave_room first n Σ').kinds a ≡ Some (move_kind (past_gap first n) K)
  kinds_moved a K e = ap (move_declared_kind γ) e

  pub type_from : (c : ℕ) (A : LfType) (y : Option LfType) → with_gap first n Σ'.types c ≡ y → move_declared (past_gap first n) y ≡ Some A → (d : ℕ) × (B : LfType) × (c ≡ past_gap first n d) × (Σ'.types d ≡ Some B) × (move_type (past_gap first n) B ≡ A)
  type_from c A None e q = absurd (none_some q)
  type_from c A (Some B) e q = let (d, p, f) = gap_from first n Σ'.types c B e in (d, B, p, f, some_same q)

  pub kind_from : (K : Kind) (y : Option Kind) → move_declared_kind (past_gap first n) y ≡ Some K → (L : Kind) × (y ≡ Some L) × (move_kind (past_gap first n) L ≡ K)
  kind_from K None q = absurd (none_some q)
  kind_from K (Some L) q = (L, refl, some_same q)

  pub room_signature : IsSignature (leave_room first n Σ')
  room_signature = record {
    types_ok = λ c A e. let (d, B, p, f, q) = type_from c A (with_gap first n Σ'.types c) refl e in subst (IsType Σ₂ []) q (moved_is_type γ Σ' Σ₂ types_moved kinds_moved [] B (x.ok.types_ok d B f));
    kinds_ok = λ a K e. let (L, p, q) = kind_from K (Σ'.kinds a) e in subst (IsKind Σ₂ []) q (moved_is_kind γ Σ' Σ₂ types_moved kinds_moved [] L (x.ok.kinds_ok a L p));
  }

  pub room_extends : Extends S Σ (leave_room first n Σ')
  room_extends = record {
    ok = room_signature;
    types_stay = λ c A e. subst (λ d. Σ₂.types d ≡ Some A) (old_stays c (A, e)) (types_moved c A (x.types_stay c A e) ∙ ap Some (same_old Σ γ [] A old_stays (ok.types_ok c A e)));
    kinds_stay = λ a K e. kinds_moved a K (x.kinds_stay a K e) ∙ ap Some (kind_only Σ γ [] K old_stays (ok.kinds_ok a K e));
    no_new = no_new;
  }
    where
      no_new : (c : ℕ) (A : LfType) → Σ₂.types c ≡ Some A → S (target A) ≡ true → Σ.types c ≡ Some A
      no_new c A e s =
          let (d, B, p, f, q) = type_from c A (with_gap first n Σ'.types c) refl e in
          let o : Σ.types d ≡ Some B = x.no_new d B f (ap S (sym (target_moved γ B) ∙ ap target q) ∙ s) in
          ap Σ.types (p ∙ old_stays d (B, o)) ∙ o ∙ ap Some (sym (same_old Σ γ [] B old_stays (ok.types_ok d B o)) ∙ q)

  pub room_free : IsFreeBetween (leave_room first n Σ') first n
  room_free c l m = ap (move_declared γ) (gap_none first n Σ'.types c l m)

  -- The context
  abbrev pub turned : (ℕ → Image) → ℕ → Image
  turned φ i = move_image (past_gap first n) (φ i)

  abbrev MovedWorld : {G : List LfType} → World Σ' W S G → Type 0
  MovedWorld {G} w = (H : List LfType) × (v : World Σ₂ W S H) × (H ≡ move_types γ G) × ((B : Block) (φ : ℕ → Image) → InstanceIn w B φ → InstanceIn v B (turned φ))

  abbrev MovedOpen : {B : Block} {G es : List LfType} {τ : ℕ → Image} → OpenInstance Σ' W S B G es τ → Type 0
  MovedOpen {B} {G} {es} {τ} o = (H : List LfType) × (υ : ℕ → Image) × (p : OpenInstance Σ₂ W S B H es υ) × (H ≡ move_types γ G) × (υ ≡ turned τ) × ((C : Block) (φ : ℕ → Image) → InstanceBefore o C φ → InstanceBefore p C (turned φ))

  moved_over : (φ τ : ℕ → Image) → φ ≡ (λ i. rename_image suc (τ i)) → turned φ ≡ (λ i. rename_image suc (turned τ i))
  moved_over φ τ e = ap turned e ∙ fun_ext (λ i. sym (image_moved_under γ (τ i)))

  type_moved : (G H : List LfType) (A : LfType) → H ≡ move_types γ G → IsType Σ' G A → IsType Σ₂ H (move_type γ A)
  type_moved G H A e t = subst (λ D. IsType Σ₂ D (move_type γ A)) (sym e) (moved_is_type γ Σ' Σ₂ types_moved kinds_moved G A t)

  -- an old type under values
  pub put_moved : (C : List LfType) (τ υ : ℕ → Image) (A : LfType) → IsType Σ C A → υ ≡ turned τ → move_type γ (substitute_type reduce τ A) ≡ substitute_type reduce υ A
  put_moved C τ υ A t e = move_type_substituted γ τ A ∙ ap (substitute_type reduce (turned τ)) (same_old Σ γ C A old_stays t) ∙ ap (λ ψ. substitute_type reduce ψ A) (sym e)

  mutual
    moved_world : {G : List LfType} (w : World Σ' W S G) → MovedWorld w
    moved_world no_variables = ([], no_variables, refl, λ B φ i. i)
    moved_world (single_variable {G = G} {A = A} w t s) = by (moved_world w)
      where
        by : MovedWorld w → MovedWorld (single_variable w t s)
        by (H, v, e, f) = (move_type γ A ∷ H, single_variable v (type_moved G H A e t) (ap S (target_moved γ A) ∙ s), ap (λ D. move_type γ A ∷ D) e, λ B φ (τ, i, q). (turned τ, f B τ i, moved_over φ τ q))
    moved_world (whole_instance {G = G} {es = es} {θ = τ} B m q o) = by (moved_open o (subst (λ ds. IsContext Σ (onto ds B.some)) (sym q) (typed B m)))
      where
        by : MovedOpen o → MovedWorld (whole_instance B m q o)
        by (H, υ, p, e, u, f) = (H, whole_instance B m q p, e, at)
          where
            at : (C : Block) (φ : ℕ → Image) → InstanceIn (whole_instance B m q o) C φ → InstanceIn (whole_instance B m q p) C (turned φ)
            at C φ (inl (b, z)) = inl (b, ap turned z ∙ sym u)
            at C φ (inr i) = inr (f C φ i)

    moved_open : {B : Block} {G es : List LfType} {τ : ℕ → Image} (o : OpenInstance Σ' W S B G es τ) → IsContext Σ (onto es B.some) → MovedOpen o
    moved_open (begin_instance {B = B} {G = G} {θ = θ} w v) c = by (moved_world w)
      where
        by : MovedWorld w → MovedOpen {B = B} {G = G} {es = []} {τ = θ} (begin_instance w v)
        by (H, w', e, f) = (H, turned θ, begin_instance w' values, e, refl, λ C φ i. f C φ i)
          where
            values : Values Σ₂ everything B.some H (turned θ)
            values = record {
              typed = λ i A g u. subst (ImageHasType Σ₂ H (move_image γ (θ i))) (put_moved B.some θ (turned θ) A (declared_is_type Σ ok B.some i A c g) refl) (subst (λ D. ImageHasType Σ₂ D (move_image γ (θ i)) (move_type γ (substitute_type reduce θ A))) (sym e) (moved_image γ Σ' Σ₂ types_moved kinds_moved G (θ i) (substitute_type reduce θ A) (v.typed i A g u)));
              closed = v.closed;
            }
    moved_open (next_entry {B = B} {G = G} {es = es} {θ = θ} E o t) c = by (moved_open o c.0)
      where
        by : MovedOpen o → MovedOpen (next_entry E o t)
        by (H, υ, p, e, u, f) =
            let q : move_type γ (substitute_type reduce θ E) ≡ substitute_type reduce υ E = put_moved (onto es B.some) θ υ E c.1 u in
            (substitute_type reduce υ E ∷ H, lift υ, next_entry E p (subst (IsType Σ₂ H) q (type_moved G H (substitute_type reduce θ E) e t)), ap₂ (λ A D. A ∷ D) (sym q) e, ap lift u ∙ fun_ext (lift_moved γ θ), λ C φ (τ, i, z). (turned τ, f C τ i, moved_over φ τ z))
    moved_open (single_beside {B = B} {G = G} {es = es} {θ = θ} {A = A} o t s) c = by (moved_open o c)
      where
        by : MovedOpen o → MovedOpen (single_beside o t s)
        by (H, υ, p, e, u, f) = (move_type γ A ∷ H, (λ i. rename_image suc (υ i)), single_beside p (type_moved G H A e t) (ap S (target_moved γ A) ∙ s), ap (λ D. move_type γ A ∷ D) e, ap (λ ψ i. rename_image suc (ψ i)) u ∙ fun_ext (λ i. image_moved_under γ (θ i)), λ C φ (τ, i, z). (turned τ, f C τ i, moved_over φ τ z))

  -- The instance
  module _ (C : NumberedCase) (tv : AreTypedVariables Σ first W C) (size : entries_of (blocks_of C.blocks) ≡ n) {G : List LfType} (w : World Σ' W S G) (θ : ℕ → ℕ → Image) (σ : ℕ → Image) (inst : IsNumberedInstance w first C θ σ) where
    abbrev Σ₁ : Signature
    Σ₁ = with_entries Σ first (blocks_of C.blocks)

    abbrev θ₂ : ℕ → ℕ → Image
    θ₂ k i = move_image (past_gap first n) (θ k i)

    readings : entry_reading first (blocks_of C.blocks) θ₂ ≡ entry_reading first (blocks_of C.blocks) θ
    readings = readings_moved γ first (blocks_of C.blocks) θ

    stays : (m c : ℕ) → IsOld Σ₁ c → entry_reading first (blocks_of C.blocks) θ m c ≡ None → past_gap first n c ≡ c
    stays m c o q = read_stays Σ first (blocks_of C.blocks) θ γ old_stays m c o q

    room_here : (H : List LfType) (v : World Σ₂ W S H) → H ≡ move_types γ G → ((B : Block) (φ : ℕ → Image) → InstanceIn w B φ → InstanceIn v B (turned φ)) → IsInstanceWithRoom Σ v first C θ₂ (turned σ)
    room_here H v h i = record {
      signature = ok;
      extends = room_extends;
      blocks = typed;
      free = free;
      room = λ c l m. room_free c l (subst (λ z. c < first + z) size m);
      variables = tv;
      is_instance = record {
        values = subst (λ g. AreGroundValues Σ₂ H g C.variables (turned σ)) (sym readings) (values_moved γ Σ' Σ₂ types_moved kinds_moved Σ₁ (entry_reading first (blocks_of C.blocks) θ) stays G H h C.variables tv.variables σ inst.values);
        instances = subst (λ g. AreInstances v g (turned σ) θ₂ zero C.blocks) (sym (ap (λ g. g (length C.variables)) readings)) (instances_moved γ Σ' Σ₂ types_moved kinds_moved Σ₁ (entry_reading first (blocks_of C.blocks) θ) stays C.variables w v (own_terms first C.blocks) θ σ zero C.blocks (λ j b q u. i b.block (θ (zero + j)) u) tv.blocks inst.instances);
      };
    }

    room : (v : World Σ₂ W S (move_types γ G)) × IsInstanceWithRoom Σ v first C θ₂ (turned σ)
    room = by (moved_world w)
      where
        by : MovedWorld w → (v : World Σ₂ W S (move_types γ G)) × IsInstanceWithRoom Σ v first C θ₂ (turned σ)
        by (H, v, e, i) = subst (λ D. (v : World Σ₂ W S D) × IsInstanceWithRoom Σ v first C θ₂ (turned σ)) e (v, room_here H v e i)

    apart_moved : AreApart C θ → AreApart C θ₂
    apart_moved a j k b c p q s e = a j k b c p q s (sym (back j) ∙ ap (λ φ i. move_image (gap_back first n) (φ i)) e ∙ back k)
      where
        back : (k : ℕ) → (λ i. move_image (gap_back first n) (move_image γ (θ k i))) ≡ θ k
        back k = fun_ext (λ i. image_twice γ (gap_back first n) (θ k i) (past_back first n))

pub room_is_made : RoomIsMade
room_is_made Σ Σ' ok S x W typed first free C tv G w θ σ inst =
    let n : ℕ = entries_of (blocks_of C.blocks) in
    let (v, r) = room Σ Σ' ok S x W typed first n free C tv refl w θ σ inst in
    (v, r, apart_moved Σ Σ' ok S x W typed first n free C tv refl w θ σ inst)
