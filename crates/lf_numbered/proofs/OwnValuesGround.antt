-- Values on own terms, read back, are ground values.
use Rattle.std.proofs.Common.{◌≡◌, ℕ, zero, suc, ◌+◌, List, [], ◌∷◌, length, Option, Some, None, refl, sym, ap, ap₂, ◌∙◌, subst, arith}
use Rattle.lf.specs.Syntax.{Term, Spine, LfType, app, nil, Skeleton, base, arrow, skeleton, weaken, rename, rename_spine, rename_type}
use Rattle.lf.specs.Substitution.{Image, keep, put, rename_image, substitute, substitute_spine, substitute_type, reduce}
use Rattle.lf.specs.AtOnce.{in_front}
use Rattle.lf.specs.SkeletonTyping.{TermSkeleton, SpineSkeleton}
use Rattle.lf.specs.Skeletons.{constant_skeletons, context_skeletons}
use Rattle.lf.specs.Typing.{Signature, TypeAt, HasType, ImageHasType, IsType, IsContext, IsSignature}
use Rattle.lf.specs.Subordination.{Block}
use Rattle.lf.proofs.Agreement.{agree_on_type}
use Rattle.lf.proofs.Kept.{typed_uses_type}
use Rattle.lf.proofs.Renaming.{reduction_is_natural, rename_substituted}
use Rattle.lf.proofs.Substitution.{skeleton_context_of, substitution_keeps_types}
use Rattle.lf.proofs.ToSkeletons.{skeleton_has_variable}
use Rattle.lf.proofs.TypeLaws.{rename_substituted_type, skeleton_renamed, substitute_renamed_type}
use Rattle.lf_totality.proofs.OutputCases.{in_context, in_covers, in_type}
use Rattle.lf_coverage.proofs.Transfer.{same_in}
use Rattle.lf_numbered.specs.EntryConstants.{EntryConstant, entry_constant}
use Rattle.lf_numbered.specs.NumberedCase.{AreGroundValues}
use Rattle.lf_numbered.specs.OwnTerms.{OnOwnTerms, TypeOnOwnTerms, ImageOnOwnTerms}
use Rattle.lf_numbered.specs.OwnValuesReading.{ReadBackKeepsTyping, AreReadAs, AreOwnValues, ReadBackIsGround}
use Rattle.lf_numbered.specs.Reading.{read, read_spine, read_type, variable_past, read_entry, entry_reading}
use Rattle.lf_numbered.proofs.Reading.{rename_read, read_renamed, read_type_renamed, IsOld, any_constants, type_only, read_image, FollowsRead, read_substituted, read_type_substituted}
use mathlib.Core.Path.{fun_ext}

-- values of the variables of a context, in front of what stands behind it
abbrev placed : List LfType → (ℕ → Image) → ℕ → Image
placed [] σ = keep
placed (A ∷ X) σ = in_front (σ zero) (placed X (λ i. σ (suc i)))

placed_at : (X : List LfType) (σ : ℕ → Image) (i : ℕ) (A : LfType) → TypeAt X i A → placed X σ i ≡ σ i
placed_at [] σ i A g = absurd g
placed_at (B ∷ X) σ zero A g = refl
placed_at (B ∷ X) σ (suc i) A (C, g, e) = placed_at X (λ j. σ (suc j)) i C g

placed_past : (X : List LfType) (σ : ℕ → Image) (i : ℕ) → placed X σ (i + length X) ≡ keep i
placed_past [] σ i = ap keep (none i)
  where
    none : (i : ℕ) → i + 0 ≡ i
    none i = omega arith
placed_past (A ∷ X) σ i = ap (in_front (σ zero) (placed X (λ j. σ (suc j)))) (next i (length X)) ∙ placed_past X (λ j. σ (suc j)) i
  where
    next : (i n : ℕ) → i + suc n ≡ suc (i + n)
    next i n = omega arith

placed_read : (g : ℕ → Option (ℕ × ℕ)) (X : List LfType) (σ : ℕ → Image) (i : ℕ) → read_image g (placed X σ i) ≡ placed X (λ j. read_image g (σ j)) i
placed_read g [] σ i = refl
placed_read g (A ∷ X) σ zero = refl
placed_read g (A ∷ X) σ (suc i) = placed_read g X (λ j. σ (suc j)) i

module _ (Σ₁ Σ' : Signature) (ok₁ : IsSignature Σ₁) (first : ℕ) (Bs : List Block) (F G : List LfType) (f : ℕ → Option (ℕ × ℕ)) (o : ℕ → Option Spine) (ρ : ℕ → ℕ) (source : IsContext Σ₁ F) (keeps : ReadBackKeepsTyping Σ₁ Σ' F G f o ρ) (θ : ℕ → ℕ → Image) (stand : AreReadAs first Bs f ρ θ) where
  -- what the constants are read as, in G
  abbrev g : ℕ → Option (ℕ × ℕ)
  g c = rename_read ρ (f c)

  abbrev back : (ℕ → Image) → ℕ → Image
  back σ i = read_image g (rename_image ρ (σ i))

  follows : (X : List LfType) (σ : ℕ → Image) (c : ℕ) → FollowsRead (placed X (λ i. rename_image ρ (σ i))) (entry_reading first Bs θ (length X) c) (g c)
  follows X σ c = by (entry_constant zero first Bs c) refl
    where
      at_entry : (e : EntryConstant) → (v : ℕ) × (f c ≡ Some (length e.block.some, v)) × (θ e.number e.place ≡ keep (ρ v)) → FollowsRead (placed X (λ i. rename_image ρ (σ i))) (read_entry θ (length X) (Some e)) (rename_read ρ (f c))
      at_entry e (v, p, k) =
          subst (λ y. FollowsRead (placed X (λ i. rename_image ρ (σ i))) y (rename_read ρ (f c))) (sym (ap (λ z. Some (length e.block.some, variable_past (length X) z)) k))
          (subst (λ y. FollowsRead (placed X (λ i. rename_image ρ (σ i))) (Some (length e.block.some, ρ v + length X)) (rename_read ρ y)) (sym p) (refl, placed_past X (λ i. rename_image ρ (σ i)) (ρ v)))

      by : (y : Option EntryConstant) → entry_constant zero first Bs c ≡ y → FollowsRead (placed X (λ i. rename_image ρ (σ i))) (read_entry θ (length X) y) (rename_read ρ (f c))
      by None q = subst (λ y. FollowsRead (placed X (λ i. rename_image ρ (σ i))) None (rename_read ρ y)) (sym (stand.none c q)) tt
      by (Some e) q = at_entry e (stand.some c e q)

  -- A type and a term over X
  placed_back : (X : List LfType) (σ : ℕ → Image) → (λ i. read_image g (placed X (λ j. rename_image ρ (σ j)) i)) ≡ placed X (back σ)
  placed_back X σ = fun_ext (placed_read g X (λ j. rename_image ρ (σ j)))

  type_back : (X : List LfType) (σ : ℕ → Image) (A : LfType) → IsType Σ₁ X A → rename_type ρ (read_type f (substitute_type reduce σ A)) ≡ substitute_type reduce (placed X (back σ)) (read_type (entry_reading first Bs θ (length X)) A)
  type_back X σ A t =
      let τ : ℕ → Image = placed X (λ i. rename_image ρ (σ i)) in
      sym (read_type_renamed f g ρ (substitute_type reduce σ A) (λ c. refl))
      ∙ ap (read_type g) (rename_substituted_type reduce reduction_is_natural ρ σ A ∙ agree_on_type reduce (in_context X) (λ i. rename_image ρ (σ i)) τ A (λ i u. let (B, h) = in_type X i u in sym (placed_at X (λ j. rename_image ρ (σ j)) i B h)) (typed_uses_type Σ₁ X (in_context X) A (in_covers X) t))
      ∙ read_type_substituted (IsOld Σ₁) (entry_reading first Bs θ (length X)) g τ A (λ c p. follows X σ c) (type_only Σ₁ X A t)
      ∙ ap (λ ν. substitute_type reduce ν (read_type (entry_reading first Bs θ (length X)) A)) (placed_back X σ)

  term_back : (X : List LfType) (σ : ℕ → Image) (M : Term) (t : Skeleton) → TermSkeleton (constant_skeletons Σ₁) (context_skeletons X) M t → rename ρ (read f (substitute reduce σ M)) ≡ substitute reduce (placed X (back σ)) (read (entry_reading first Bs θ (length X)) M)
  term_back X σ M t m =
      let τ : ℕ → Image = placed X (λ i. rename_image ρ (σ i)) in
      sym (read_renamed f g ρ (substitute reduce σ M) (λ c. refl))
      ∙ ap (read g) (rename_substituted reduce reduction_is_natural ρ σ M ∙ same_in (constant_skeletons Σ₁) (context_skeletons X) (λ i. rename_image ρ (σ i)) τ (λ i s k. let (B, h, e) = skeleton_has_variable X i s k in sym (placed_at X (λ j. rename_image ρ (σ j)) i B h)) M t m)
      ∙ read_substituted (λ c. Unit {0}) (entry_reading first Bs θ (length X)) g τ M (λ c p. follows X σ c) (any_constants M)
      ∙ ap (λ ν. substitute reduce ν (read (entry_reading first Bs θ (length X)) M)) (placed_back X σ)

  spine_back : (X : List LfType) (σ : ℕ → Image) (S : Spine) (t u : Skeleton) → SpineSkeleton (constant_skeletons Σ₁) (context_skeletons X) S t u → rename_spine ρ (read_spine f (substitute_spine reduce σ S)) ≡ substitute_spine reduce (placed X (back σ)) (read_spine (entry_reading first Bs θ (length X)) S)
  spine_back X σ nil t u s = refl
  spine_back X σ (app M S) (arrow a b) u (m, s) = ap₂ app (term_back X σ M a m) (spine_back X σ S b u s)
  spine_back X σ (app M S) (base d) u s = absurd s

  value_back : (X : List LfType) (σ : ℕ → Image) (i : ℕ) (A : LfType) (N : Term) → TypeAt X i A → σ i ≡ put (skeleton A) N → placed X (back σ) i ≡ put (skeleton A) (rename ρ (read f N))
  value_back X σ i A N h e = placed_at X (back σ) i A h ∙ ap (λ y. read_image g (rename_image ρ y)) e ∙ ap (put (skeleton A)) (read_renamed f g ρ N (λ c. refl))

  -- without the newest variable
  others : (A : LfType) (X : List LfType) (σ : ℕ → Image) → AreOwnValues Σ₁ o (A ∷ X) F σ → AreOwnValues Σ₁ o X F (λ i. σ (suc i))
  others A X σ v = record {
    typed = λ i B h. subst (ImageHasType Σ₁ F (σ (suc i))) (substitute_renamed_type reduce σ suc B) (v.typed (suc i) (weaken B) (B, h, refl));
    are_terms = λ i B h. let (N, e) = v.are_terms (suc i) (weaken B) (B, h, refl) in (N, e ∙ ap (λ a. put a N) (skeleton_renamed suc B));
    on_own_terms = λ i. v.on_own_terms (suc i);
    of_own_types = λ i B h. subst (TypeOnOwnTerms o) (substitute_renamed_type reduce σ suc B) (v.of_own_types (suc i) (weaken B) (B, h, refl));
  }

  -- ground values, one by one
  ground : (X : List LfType) → IsContext Σ₁ X → (σ : ℕ → Image) → AreOwnValues Σ₁ o X F σ → AreGroundValues Σ' G (entry_reading first Bs θ) X (placed X (back σ))
  ground [] c σ v = refl
  ground (A ∷ X) (c, t) σ v =
      let τ : ℕ → Image = λ i. σ (suc i) in
      let w : AreOwnValues Σ₁ o X F τ = others A X σ v in
      let (N, e) = v.are_terms zero (weaken A) refl in
      let p : σ zero ≡ put (skeleton A) N = e ∙ ap (λ a. put a N) (skeleton_renamed suc A) in
      let n : HasType Σ₁ F N (substitute_type reduce τ A) = (subst (λ y. ImageHasType Σ₁ F y (substitute_type reduce τ A)) p (subst (ImageHasType Σ₁ F (σ zero)) (substitute_renamed_type reduce σ suc A) (v.typed zero (weaken A) refl))).1 in
      let u : OnOwnTerms o N = subst (ImageOnOwnTerms o) p (v.on_own_terms zero) in
      let z : TypeOnOwnTerms o (substitute_type reduce τ A) = subst (TypeOnOwnTerms o) (substitute_renamed_type reduce σ suc A) (v.of_own_types zero (weaken A) refl) in
      let k : IsType Σ₁ F (substitute_type reduce τ A) = substitution_keeps_types Σ₁ ok₁ X F τ A (record { typed = w.typed; source_skeletons = skeleton_context_of Σ₁ ok₁ X c; target_skeletons = skeleton_context_of Σ₁ ok₁ F source }) t in (
        rename ρ (read f N),
        placed X (back τ),
        ground X c τ w,
        subst (HasType Σ' G (rename ρ (read f N))) (type_back X τ A t) (keeps (substitute_type reduce τ A) k z N n u),
        ap (λ y. in_front y (placed X (back τ))) (ap (λ y. read_image g (rename_image ρ y)) p ∙ ap (put (skeleton A)) (read_renamed f g ρ N (λ c. refl))),
      )

pub read_back_is_ground : ReadBackIsGround
read_back_is_ground Σ₁ Σ' ok₁ first Bs F G f o ρ source keeps θ h O c σ v = record {
  values = placed O (λ i. read_image (λ d. rename_read ρ (f d)) (rename_image ρ (σ i)));
  ground = ground Σ₁ Σ' ok₁ first Bs F G f o ρ source keeps θ h O c σ v;
  is_read = value_back Σ₁ Σ' ok₁ first Bs F G f o ρ source keeps θ h O σ;
  same = λ M t m. sym (term_back Σ₁ Σ' ok₁ first Bs F G f o ρ source keeps θ h O σ M t m);
  same_spine = λ S t u s. sym (spine_back Σ₁ Σ' ok₁ first Bs F G f o ρ source keeps θ h O σ S t u s);
  same_type = λ A t. sym (type_back Σ₁ Σ' ok₁ first Bs F G f o ρ source keeps θ h O σ A t);
}
