-- The local context of a subgoal, under values of what it mentions, extends a context of worlds to one.
use Rattle.std.proofs.Common.{◌≡◌, ℕ, List, [], ◌∷◌, refl, sym, ap, ap₂, ◌∙◌, subst}
use Rattle.std.specs.Prelude.{Bool, true}
use Rattle.lf_checks.proofs.GroundLocal.{GroundSequence, no_block, next_block}
use Rattle.lf.specs.Syntax.{LfType, pi, atom, Skeleton}
use Rattle.lf.specs.Substitution.{Image, keep, put, lift, substitute_type, reduce, substitute_image, after}
use Rattle.lf.specs.SkeletonTyping.{TypeBySkeletons}
use Rattle.lf.specs.Typing.{Signature, TypeAt, IsType, IsContext, IsSignature, ImageHasType}
use Rattle.lf.specs.Variables.{binders, onto, under, Values, everything, ImageUses}
use Rattle.lf.specs.Subordination.{Block, Member}
use Rattle.lf.specs.Worlds.{World, OpenInstance, whole_instance, begin_instance, next_entry, lift_over, instance, under_all}
use Rattle.lf.specs.Extension.{Extends}
use Rattle.lf.proofs.TypeLaws.{skeleton_substituted}
use Rattle.lf.specs.Skeletons.{constant_skeletons, family_skeletons}
use Rattle.lf.proofs.Weakening.{declared_is_type}
use Rattle.lf.proofs.SkeletonTypes.{substitutions_compose_type}
use Rattle.lf.proofs.Composition.{after_lift}
use Rattle.lf.proofs.Partial.{skeletons_beside, PartialSubstitution, partial_lift, skeleton_context_of_beside, type_by_skeletons_beside, partial_substitution_keeps_typing, partial_substitution_keeps_types, uses_type_all, everywhere-under}
use Rattle.lf_cases.proofs.Assemble.{AllTyped-has_skeleton}
use Rattle.lf.proofs.ExtensionTyping.{extension_keeps_values}
use mathlib.Core.Path.{fun_ext}

pub lift_onto : (X D : List LfType) (σ : ℕ → Image) → lift_over (onto X D) σ ≡ lift_over X (lift_over D σ)
lift_onto [] D σ = refl
lift_onto (A ∷ X) D σ = ap lift (lift_onto X D σ)

pub instance_onto : (X D : List LfType) (σ : ℕ → Image) (G : List LfType) → onto (instance (onto X D) σ) G ≡ onto (instance X (lift_over D σ)) (onto (instance D σ) G)
instance_onto [] D σ G = refl
instance_onto (A ∷ X) D σ G = ap₂ ◌∷◌ (ap (λ τ. substitute_type reduce τ A) (lift_onto X D σ)) (instance_onto X D σ G)

onto_assoc : (X D C : List LfType) → onto (onto X D) C ≡ onto X (onto D C)
onto_assoc [] D C = refl
onto_assoc (A ∷ X) D C = ap (λ Y. A ∷ Y) (onto_assoc X D C)

binders_at : (X : List LfType) (A : LfType) (σ : ℕ → Image) (G : List LfType) → binders (onto (instance X σ) G) (substitute_type reduce (lift_over X σ) A) ≡ onto (instance (binders X A) σ) G
binders_at X (pi B A) σ G = binders_at (B ∷ X) A σ G
binders_at X (atom a S) σ G = refl

pub binders_substituted : (A : LfType) (σ : ℕ → Image) (G : List LfType) → binders G (substitute_type reduce σ A) ≡ onto (instance (binders [] A) σ) G
binders_substituted A σ G = binders_at [] A σ G

after_over : (es : List LfType) (θ τ : ℕ → Image) → after (lift_over (instance es θ) τ) (lift_over es θ) ≡ lift_over es (after τ θ)
after_over [] θ τ = refl
after_over (E ∷ es) θ τ = sym (fun_ext (after_lift (lift_over (instance es θ) τ) (lift_over es θ))) ∙ ap lift (after_over es θ τ)

under_everywhere : (i : ℕ) → under everything i ≡ true
under_everywhere = everywhere-under everything (λ i. refl)

IsContext-outer : (Σ : Signature) (es O : List LfType) → IsContext Σ (onto es O) → IsContext Σ O
IsContext-outer Σ [] O c = c
IsContext-outer Σ (E ∷ es) O c = IsContext-outer Σ es O c.0

module _ (Σ : Signature) (ok : IsSignature Σ) where
  PartialSubstitution-all : (Q P : List Skeleton) (U : ℕ → Bool) (C D : List LfType) (σ : ℕ → Image) → ((i : ℕ) → U i ≡ true) → PartialSubstitution Σ ok Q P U C D σ → PartialSubstitution Σ ok Q P everything C D σ
  PartialSubstitution-all Q P U C D σ h w = record { typed = λ i A g u. w.typed i A g (h i); sk = w.sk; source_skeletons = w.source_skeletons; target_skeletons = w.target_skeletons }

  module _ (P : List Skeleton) (W : List Block) (S : ℕ → Bool) (B : Block) (D D' : List LfType) (V : ℕ → Bool) (θ τ : ℕ → Image) where
    -- so far: the instance over D, the same under τ over D', and the entries' images there
    record SoFar (es : List LfType) : Type 0 where
      opened : OpenInstance Σ W S B (onto (instance (instance es θ) τ) D') es (lift_over es (after τ θ))
      in_D : PartialSubstitution Σ ok [] [] everything (onto es B.some) (onto (instance es θ) D) (lift_over es θ)
      over_D : PartialSubstitution Σ ok [] P (under_all es V) (onto (instance es θ) D) (onto (instance (instance es θ) τ) D') (lift_over (instance es θ) τ)
      in_D' : PartialSubstitution Σ ok [] P everything (onto es B.some) (onto (instance (instance es θ) τ) D') (lift_over es (after τ θ))

    so_far : (es : List LfType) → IsContext Σ (onto es B.some) → SoFar [] → SoFar es
    so_far [] c z = z
    so_far (E ∷ es) (c, e) z =
        let r : SoFar es = so_far es c z in
        let X : List LfType = onto (instance es θ) D in
        let Y : List LfType = onto (instance (instance es θ) τ) D' in
        let t : IsType Σ X (substitute_type reduce (lift_over es θ) E) = partial_substitution_keeps_types Σ ok [] [] everything (onto es B.some) X (lift_over es θ) E r.in_D (uses_type_all everything E (λ i. refl)) e in
        let t' : IsType Σ Y (substitute_type reduce (lift_over es (after τ θ)) E) = partial_substitution_keeps_types Σ ok P [] everything (onto es B.some) Y (lift_over es (after τ θ)) E r.in_D' (uses_type_all everything E (λ i. refl)) e in
        let q : substitute_type reduce (lift_over es (after τ θ)) E ≡ substitute_type reduce (lift_over (instance es θ) τ) (substitute_type reduce (lift_over es θ) E) = ap (λ f. substitute_type reduce f E) (sym (after_over es θ τ)) ∙ sym (substitutions_compose_type (family_skeletons Σ) (constant_skeletons Σ) (skeletons_beside [] (onto es B.some)) (skeletons_beside [] X) (skeletons_beside P Y) (lift_over es θ) (lift_over (instance es θ) τ) E r.in_D.sk r.over_D.sk (type_by_skeletons_beside Σ [] (onto es B.some) E e)) in
        record {
          opened = subst (λ A. OpenInstance Σ W S B (A ∷ Y) (E ∷ es) (lift (lift_over es (after τ θ)))) q (next_entry E r.opened t');
          in_D = PartialSubstitution-all [] [] (under everything) (E ∷ onto es B.some) (substitute_type reduce (lift_over es θ) E ∷ X) (lift (lift_over es θ)) under_everywhere (partial_lift Σ ok [] [] everything (onto es B.some) X (lift_over es θ) E r.in_D (type_by_skeletons_beside Σ [] (onto es B.some) E e));
          over_D = partial_lift Σ ok [] P (under_all es V) X Y (lift_over (instance es θ) τ) (substitute_type reduce (lift_over es θ) E) r.over_D (type_by_skeletons_beside Σ [] X (substitute_type reduce (lift_over es θ) E) t);
          in_D' = subst (λ A. PartialSubstitution Σ ok [] P everything (E ∷ onto es B.some) (A ∷ Y) (lift (lift_over es (after τ θ)))) q (PartialSubstitution-all [] P (under everything) (E ∷ onto es B.some) (substitute_type reduce (lift_over es (after τ θ)) E ∷ Y) (lift (lift_over es (after τ θ))) under_everywhere (partial_lift Σ ok [] P everything (onto es B.some) Y (lift_over es (after τ θ)) E r.in_D' (type_by_skeletons_beside Σ [] (onto es B.some) E e)));
        }

    image_after : (x : Image) (A : LfType) → PartialSubstitution Σ ok [] P V D D' τ → TypeBySkeletons (family_skeletons Σ) (constant_skeletons Σ) (skeletons_beside [] D) A → ImageUses V x → ImageHasType Σ D x A → ImageHasType Σ D' (substitute_image τ x) (substitute_type reduce τ A)
    image_after (keep j) A w t u g = w.typed j A g u
    image_after (put a N) A w t u (e, n) = (skeleton_substituted reduce τ A ∙ e, partial_substitution_keeps_typing Σ ok P [] V D D' τ N A w t u n)

    start : World Σ W S D' → IsContext Σ B.some → PartialSubstitution Σ ok [] P V D D' τ → Values Σ everything B.some D θ → ((i : ℕ) (A : LfType) → TypeAt B.some i A → ImageUses V (θ i)) → SoFar []
    start w c p v u =
        let ts : (i : ℕ) (A : LfType) → TypeAt B.some i A → ImageHasType Σ D (θ i) (substitute_type reduce θ A) = λ i A g. v.typed i A g refl in
        let d : PartialSubstitution Σ ok [] [] everything B.some D θ = record { typed = v.typed; sk = AllTyped-has_skeleton Σ ok [] B.some D θ ts; source_skeletons = skeleton_context_of_beside Σ ok [] B.some c; target_skeletons = p.source_skeletons } in
        let ts' : (i : ℕ) (A : LfType) → TypeAt B.some i A → ImageHasType Σ D' (after τ θ i) (substitute_type reduce (after τ θ) A) = λ i A g.
        let a : IsType Σ B.some A = declared_is_type Σ ok B.some i A c g in
        let t : IsType Σ D (substitute_type reduce θ A) = partial_substitution_keeps_types Σ ok [] [] everything B.some D θ A d (uses_type_all everything A (λ j. refl)) a in
        subst (ImageHasType Σ D' (after τ θ i)) (substitutions_compose_type (family_skeletons Σ) (constant_skeletons Σ) (skeletons_beside [] B.some) (skeletons_beside [] D) (skeletons_beside P D') θ τ A d.sk p.sk (type_by_skeletons_beside Σ [] B.some A a)) (image_after (θ i) (substitute_type reduce θ A) p (type_by_skeletons_beside Σ [] D (substitute_type reduce θ A) t) (u i A g) (ts i A g)) in
        record {
          opened = begin_instance w (record { typed = λ i A g e. ts' i A g; closed = λ i A g e. uses_type_all everything A (λ j. refl) });
          in_D = d;
          over_D = p;
          in_D' = record { typed = λ i A g e. ts' i A g; sk = AllTyped-has_skeleton Σ ok P B.some D' (after τ θ) ts'; source_skeletons = skeleton_context_of_beside Σ ok [] B.some c; target_skeletons = p.target_skeletons };
        }

  -- The extension of a context of worlds
  pub local_world : (P : List Skeleton) (W : List Block) (S : ℕ → Bool) (C G : List LfType) (U : ℕ → Bool) (τ : ℕ → Image) → ((B : Block) → Member B W → IsContext Σ (onto B.entries B.some)) → World Σ W S G → PartialSubstitution Σ ok [] P U C G τ → (D : List LfType) (V : ℕ → Bool) → GroundSequence Σ W C U D V → World Σ W S (onto (instance D τ) G) × PartialSubstitution Σ ok [] P V (onto D C) (onto (instance D τ) G) (lift_over D τ)
  local_world P W S C G U τ bt w p D V no_block = (w, p)
  local_world P W S C G U τ bt w p D' V' (next_block {D = D} {V = V} B θ l i v u) =
      let (w', p') = local_world P W S C G U τ bt w p D V l in
      let b : IsContext Σ (onto B.entries B.some) = bt B i in
      let r : SoFar P W S B (onto D C) (onto (instance D τ) G) V θ (lift_over D τ) B.entries = so_far P W S B (onto D C) (onto (instance D τ) G) V θ (lift_over D τ) B.entries b (start P W S B (onto D C) (onto (instance D τ) G) V θ (lift_over D τ) w' (IsContext-outer Σ B.entries B.some b) p' v u) in
      let e1 : onto (instance (onto (instance B.entries θ) D) τ) G ≡ onto (instance (instance B.entries θ) (lift_over D τ)) (onto (instance D τ) G) = instance_onto (instance B.entries θ) D τ G in
      let e2 : lift_over (onto (instance B.entries θ) D) τ ≡ lift_over (instance B.entries θ) (lift_over D τ) = lift_onto (instance B.entries θ) D τ in
      let e3 : onto (onto (instance B.entries θ) D) C ≡ onto (instance B.entries θ) (onto D C) = onto_assoc (instance B.entries θ) D C in (
        subst (World Σ W S) (sym e1) (whole_instance B i refl r.opened),
        subst (λ X. PartialSubstitution Σ ok [] P (under_all B.entries V) X (onto (instance (onto (instance B.entries θ) D) τ) G) (lift_over (onto (instance B.entries θ) D) τ)) (sym e3) (subst (λ Y. PartialSubstitution Σ ok [] P (under_all B.entries V) (onto (instance B.entries θ) (onto D C)) Y (lift_over (onto (instance B.entries θ) D) τ)) (sym e1) (subst (λ f. PartialSubstitution Σ ok [] P (under_all B.entries V) (onto (instance B.entries θ) (onto D C)) (onto (instance (instance B.entries θ) (lift_over D τ)) (onto (instance D τ) G)) f) (sym e2) r.over_D)),
      )

-- in an extension of the signature
pub ground_sequence_grows : (S : ℕ → Bool) (Σ Σ' : Signature) → Extends S Σ Σ' → (W : List Block) (C : List LfType) (U : ℕ → Bool) (D : List LfType) (V : ℕ → Bool) → GroundSequence Σ W C U D V → GroundSequence Σ' W C U D V
ground_sequence_grows S Σ Σ' x W C U D V no_block = no_block
ground_sequence_grows S Σ Σ' x W C U D V (next_block {D = D'} {V = V'} B θ l i v u) = next_block B θ (ground_sequence_grows S Σ Σ' x W C U D' V' l) i (extension_keeps_values S Σ Σ' x everything B.some (onto D' C) θ v) u
