-- A written instance that gives a variable a head that is offered: written, the variable is this head on its terms and
-- new variables.
use Rattle.std.proofs.Common.{◌≡◌, ℕ, zero, List, [], length, Option, Some, None, refl, sym, ap, ap₂, ◌∙◌, subst}
use Rattle.std.specs.Prelude.{Bool, ◌<◌}
use Rattle.lf.specs.Syntax.{Head, constant, variable, Spine, root, LfType, skeleton, rename_spine, rename_type, nil}
use Rattle.lf.specs.Substitution.{Image, put, apply_image, substitute, substitute_spine, substitute_type, reduce, after}
use Rattle.lf.specs.AtOnce.{shift_by}
use Rattle.lf.specs.Eta.{append, lambdas}
use Rattle.lf.specs.SkeletonTyping.{SkeletonAt}
use Rattle.lf.specs.Skeletons.{context_skeletons}
use Rattle.lf.specs.Typing.{Signature, TypeAt, HeadHasType, IsSignature}
use Rattle.lf.specs.Variables.{target, onto, binders}
use Rattle.lf.specs.Subordination.{Block, SelfContained}
use Rattle.lf.specs.Worlds.{World, lift_over, instance}
use Rattle.lf.proofs.Closed.{closed_type_substituted}
use Rattle.lf.proofs.Substitution.{constant_type}
use Rattle.lf_checks.specs.Below.{IsSubordination}
use Rattle.lf_cases.specs.Reached.{arguments_count, taken}
use Rattle.lf_totality.proofs.RaisedOutputs.{binders_over}
use Rattle.lf_coverage.specs.Heads.{ArgumentsAreBelow}
use Rattle.lf_coverage.proofs.Forms.{lift_over_near, renaming_near, local_type}
use Rattle.lf_coverage.proofs.Parts.{none_some, some_same}
use Rattle.lf_coverage.proofs.RootValues.{near_skeleton, same_at}
use Rattle.lf_numbered.specs.EntryConstants.{EntryConstant, entry_constant, with_entries}
use Rattle.lf_numbered.specs.LeftUnifiers.{head_in, read_head}
use Rattle.lf_numbered.specs.NumberedBeside.{TakesIn}
use Rattle.lf_numbered.specs.NumberedCase.{NumberedCase, type_in}
use Rattle.lf_numbered.specs.OwnStores.{IsNumberedOffer, left_type, offer_signature, offer_taken, offer_entry}
use Rattle.lf_numbered.specs.OwnTerms.{blocks_of, own_terms, terms_of_entry}
use Rattle.lf_numbered.specs.Reading.{read_entry, variable_past}
use Rattle.lf_numbered.specs.Writing.{IsWriting}
use Rattle.lf_numbered.specs.WritingLaws.{IsInstanceWithRoom}
use Rattle.lf_numbered.proofs.EntrySignature.{entries_kept}
use Rattle.lf_numbered.proofs.NumberedSplitsHeads.{MakesWritten, WrittenOffer, makes, taken_zero}
use Rattle.lf_numbered.proofs.NumberedSplitsOffers.{by_entry}
use Rattle.lf_numbered.proofs.NumberedTypedFree.{old_own}
use Rattle.lf_numbered.proofs.OwnTerms.{old_is_none}
use Rattle.lf_numbered.proofs.WritingHead.{locals_are, locals_length, root_typed, put_low}
use Rattle.lf_numbered.proofs.WritingInstance.{written_signature, types_more}
use Rattle.lf_numbered.proofs.WritingLow.{below_same, LowBy}

module _ (Σ Σ' : Signature) {W : List Block} {S : ℕ → Bool} {G : List LfType} (w : World Σ' W S G) (first : ℕ) (C : NumberedCase) (θ : ℕ → ℕ → Image) (σ : ℕ → Image) (r : IsInstanceWithRoom Σ w first C θ σ) (F : List LfType) (ρ : ℕ → Image) (back : ℕ → ℕ) (hw : IsWriting Σ' first (blocks_of C.blocks) θ G F ρ back) (sc : SelfContained Σ W S) (below : ℕ → ℕ → Bool) (s : IsSubordination Σ W below) (x : ℕ) (X : LfType) (at : TypeAt C.variables x X) (fams : TakesIn S X) (args : ArgumentsAreBelow below X) (h0 : Head) (T : Spine) (e : σ x ≡ put (skeleton X) (lambdas (length (taken X)) (root h0 T))) where
  abbrev Σe : Signature
  Σe = with_entries Σ' first (blocks_of C.blocks)

  abbrev ok : IsSignature Σe
  ok = written_signature Σ Σ' w first C θ σ r

  abbrev V : List LfType
  V = C.variables

  abbrev D0 : List LfType
  D0 = taken (rename_type (shift_by 0) X)

  abbrev τ : ℕ → Image
  τ = after ρ σ

  abbrev EF : List LfType
  EF = instance (taken X) (after ρ σ)

  abbrev T' : Spine
  T' = substitute_spine reduce (lift_over (taken X) ρ) T

  -- the head on its terms, and what it is written as
  pub record HeadWritten (h : Head) (U : Spine) (A : LfType) : Type 0 where
    pub makes : ArgumentsAreBelow below A → (φ : ℕ → Image) × MakesWritten Σ Σ' w first C θ σ r F ρ back hw sc below s x X at fams args h0 T e h U A φ
    pub head1 : Head
    pub terms1 : Spine
    pub written : substitute reduce (lift_over (taken X) ρ) (root h0 T) ≡ root head1 (append terms1 (substitute_spine reduce (lift_over (taken X) ρ) T))

  of_constant : (k : ℕ) (B : LfType) → Σ.types k ≡ Some B → target B ≡ target X → h0 ≡ constant k → HeadWritten (constant k) nil B
  of_constant k B q t p =
      let (Z, hz, st) = root_typed Σ Σ' w first C θ σ r F ρ back hw sc below s x X at fams args h0 T e in
      let z : Z ≡ B = some_same (sym (subst (λ h. HeadHasType Σ' (onto (binders [] (type_in first C θ σ X)) G) h Z) p hz) ∙ r.extends.types_stay k B q) in
      let q' : Σe.types k ≡ Some B = types_more Σ Σ' w first C θ σ r k B (entries_kept Σ first (blocks_of C.blocks) k B q) in
      let wr : substitute reduce (lift_over (taken X) ρ) (root h0 T) ≡ root (constant k) T' = ap (λ h. substitute reduce (lift_over (taken X) ρ) (root h T)) p in
      record {
        makes = makes Σ Σ' w first C θ σ r F ρ back hw sc below s x X at fams args h0 T e (constant k) nil B (offer_signature k B q t) (constant k) nil wr B q' (sym (closed_type_substituted Σe reduce (lift_over D0 τ) B (constant_type Σe ok [] k B q'))) (λ φ z R. refl) (λ b. subst (λ Y. LowBy below (context_skeletons (taken X)) (skeleton Y) T') z (put_low Σ Σ' w first C θ σ r F ρ back hw sc below s x X at fams args h0 T e Z hz st (subst (ArgumentsAreBelow below) (sym z) b)));
        head1 = constant k;
        terms1 = nil;
        written = wr;
      }

  of_variable : (j : ℕ) (A : LfType) (l : j < length (taken X)) (g : TypeAt (binders V X) j A) (t : target A ≡ target X) → h0 ≡ variable j → HeadWritten (variable j) nil A
  of_variable j A l g t p =
      let (Z, hz, st) = root_typed Σ Σ' w first C θ σ r F ρ back hw sc below s x X at fams args h0 T e in
      let Y0 : LfType = type_in first C θ σ X in
      let k : TypeAt (onto (taken X) V) j A = subst (λ D. TypeAt D j A) (binders_over [] X V) g in
      let zs : SkeletonAt (context_skeletons (taken X)) j (skeleton Z) = subst (λ Δ. SkeletonAt Δ j (skeleton Z)) (locals_are Σ Σ' w first C θ σ r F ρ back hw sc below s x X at fams args h0 T e) (near_skeleton (binders [] Y0) G j Z (subst (λ n. j < n) (sym (locals_length Σ Σ' w first C θ σ r F ρ back hw sc below s x X at fams args h0 T e)) l) (subst (λ h. HeadHasType Σ' (onto (binders [] Y0) G) h Z) p hz)) in
      let z : skeleton Z ≡ skeleton A = same_at (context_skeletons (taken X)) j (skeleton Z) (skeleton A) zs (near_skeleton (taken X) V j A l k) in
      let l2 : j < length D0 = subst (λ L. j < length L) (sym (taken_zero Σ Σ' w first C θ σ r F ρ back hw sc below s x X at fams args h0 T e)) l in
      let here : TypeAt (onto EF F) j (substitute_type reduce (lift_over D0 τ) A) = subst (λ L. TypeAt (onto EF F) j (substitute_type reduce (lift_over L τ) A)) (sym (taken_zero Σ Σ' w first C θ σ r F ρ back hw sc below s x X at fams args h0 T e)) (local_type (taken X) V F τ j A l k) in
      let wr : substitute reduce (lift_over (taken X) ρ) (root h0 T) ≡ root (variable j) T' = ap (λ h. substitute reduce (lift_over (taken X) ρ) (root h T)) p ∙ ap (λ y. apply_image reduce y T') (lift_over_near (taken X) ρ j l) in
      record {
        makes = makes Σ Σ' w first C θ σ r F ρ back hw sc below s x X at fams args h0 T e (variable j) nil A (offer_taken j A l g t) (variable j) nil wr (substitute_type reduce (lift_over D0 τ) A) here refl (λ φ q R. ap (λ i. substitute reduce (lift_over D0 φ) (root (variable i) R)) (renaming_near (length D0) (shift_by (arguments_count A)) j l2) ∙ ap (λ y. apply_image reduce y (substitute_spine reduce (lift_over D0 φ) R)) (lift_over_near D0 φ j l2)) (λ b. subst (λ a. LowBy below (context_skeletons (taken X)) a T') z (put_low Σ Σ' w first C θ σ r F ρ back hw sc below s x X at fams args h0 T e Z hz st (below_same below A Z (sym z) b)));
        head1 = variable j;
        terms1 = nil;
        written = wr;
      }

  -- the constant of an entry is offered on its terms alone
  entry_offer : (c : ℕ) (U : Spine) (B : LfType) → own_terms first C.blocks c ≡ Some U → (with_entries Σ first (blocks_of C.blocks)).types c ≡ Some B → (h : Head) (U' : Spine) (A : LfType) → h ≡ constant c → IsNumberedOffer Σ first C X h U' A → (U' ≡ rename_spine (shift_by (length (taken X))) U) × (A ≡ rename_type (shift_by (length (taken X))) (left_type U B))
  entry_offer c U B own q h U' A p (offer_signature k V g t) = absurd (none_some (sym (old_own Σ r.signature W r.blocks first r.free C.blocks c (V, ap Σ.types (sym (same p)) ∙ g)) ∙ own))
    where
      same : {i j : ℕ} → constant i ≡ constant j → i ≡ j
      same e = cc
  entry_offer c U B own q h U' A p (offer_taken j D l g t) = absurd (other p)
    where
      other : {i j : ℕ} → variable i ≡ constant j → ⊥
      other e = cc
  entry_offer c U B own q h U' A p (offer_entry d U2 B2 own2 q2 t) =
      let n : ℕ = length (taken X) in
      let u : U2 ≡ U = some_same (sym own2 ∙ ap (own_terms first C.blocks) (same p) ∙ own) in
      let b : B2 ≡ B = some_same (sym q2 ∙ ap (with_entries Σ first (blocks_of C.blocks)).types (same p) ∙ q) in
      (ap (rename_spine (shift_by n)) u, ap₂ (λ Y Z. rename_type (shift_by n) (left_type Y Z)) u b)
    where
      same : {i j : ℕ} → constant i ≡ constant j → i ≡ j
      same e = cc

  of_entry : (c : ℕ) (U : Spine) (B : LfType) → own_terms first C.blocks c ≡ Some U → (with_entries Σ first (blocks_of C.blocks)).types c ≡ Some B → target B ≡ target X → (y : Option EntryConstant) → entry_constant zero first (blocks_of C.blocks) c ≡ y → h0 ≡ read_head (read_entry θ (length (taken X)) y) c → HeadWritten (constant c) (rename_spine (shift_by (length (taken X))) U) (rename_type (shift_by (length (taken X))) (left_type U B))
  of_entry c U B own q t None z p = absurd (none_some (sym (ap (terms_of_entry C.blocks) z) ∙ own))
  of_entry c U B own q t (Some ec) z p =
      let n : ℕ = length (taken X) in
      let v : ℕ = variable_past n (θ ec.number ec.place) in
      let (o, i) : (o : WrittenOffer Σ Σ' w first C θ σ r F ρ back hw sc below s x X at fams args h0 T e) × (o.head ≡ constant c) = by_entry Σ Σ' w first C θ σ r F ρ back hw sc below s x X at fams args h0 T e c (length ec.block.some) v B p q t (entry_constant zero first (blocks_of C.blocks) c) refl (ap (read_entry θ n) z) in
      let (u, l) = entry_offer c U B own q o.head o.terms o.left i o.offer in
      at_offer o.head o.terms o.left (constant c) (rename_spine (shift_by n) U) (rename_type (shift_by n) (left_type U B)) i u l (record { makes = o.makes; head1 = o.head1; terms1 = o.terms1; written = o.written })
    where
      at_offer : (h : Head) (U1 : Spine) (A : LfType) (h' : Head) (U2 : Spine) (A' : LfType) → h ≡ h' → U1 ≡ U2 → A ≡ A' → HeadWritten h U1 A → HeadWritten h' U2 A'
      at_offer h U1 A h' U2 A' a b c k = subst (λ Z. HeadWritten h' U2 Z) c (subst (λ Z. HeadWritten h' Z A) b (subst (λ Z. HeadWritten Z U1 A) a k))

  -- The lemma
  pub head_written : (h : Head) (U : Spine) (A : LfType) → IsNumberedOffer Σ first C X h U A → h0 ≡ head_in first (blocks_of C.blocks) θ (length (taken X)) h → HeadWritten h U A
  head_written h U A (offer_signature k B q t) p = of_constant k B q t (p ∙ ap (λ y. read_head (read_entry θ (length (taken X)) y) k) (old_is_none Σ first r.free (blocks_of C.blocks) k B q))
  head_written h U A (offer_taken j A' l g t) p = of_variable j A' l g t p
  head_written h U A (offer_entry c U0 B own q t) p = of_entry c U0 B own q t (entry_constant zero first (blocks_of C.blocks) c) refl p
