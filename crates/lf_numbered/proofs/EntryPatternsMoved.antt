-- A case with values put in, or with a new block variable: what stands in the old case and what stands in the new one are the same under ground instances
-- with the same values.
use Rattle.std.proofs.Common.{◌≡◌, ℕ, zero, suc, ◌+◌, List, [], ◌∷◌, length, sym, ap, ◌∙◌, subst, inl, inr, arith}
use Rattle.std.specs.Prelude.{Bool, Option, Some, None, ◌⊎◌}
use Rattle.lf.specs.Syntax.{Term, Spine, nil, app, LfType, Skeleton, skeleton}
use Rattle.lf.specs.Substitution.{Image, keep, put, substitute, substitute_image, reduce, after}
use Rattle.lf.specs.SkeletonTyping.{HeadSkeletons, SkeletonAt, ImageSkeleton, TermSkeleton, SubstitutionBySkeletons}
use Rattle.lf.specs.Skeletons.{constant_skeletons, context_skeletons}
use Rattle.lf.specs.Typing.{Signature, TypeAt, IsSignature}
use Rattle.lf.specs.Variables.{onto}
use Rattle.lf.specs.Subordination.{Block, AreTypedBlocks}
use Rattle.lf.specs.Worlds.{World, lift_over, instance}
use Rattle.lf.specs.Extension.{Extends}
use Rattle.lf_cases.specs.Case.{as_term, HasArguments}
use Rattle.lf_cases.specs.Missing.{put_in}
use Rattle.lf_cases.specs.Pattern.{HasGiven, given_at}
use Rattle.lf_cases.proofs.OutputItems.{lifted}
use Rattle.lf_coverage.specs.Heads.{HaveSkeletons}
use Rattle.lf_coverage.proofs.Composing.{composed}
use Rattle.lf_coverage.proofs.NearOrFar.{onto_cases}
use Rattle.lf_coverage.proofs.Leaves.{given_skeleton}
use Rattle.lf_coverage.proofs.Parts.{none_some, some_same}
use Rattle.lf_coverage.proofs.Transfer.{onto_skeleton}
use Rattle.lf_numbered.specs.EntryConstants.{with_entries, IsFreeFrom}
use Rattle.lf_numbered.specs.NumberedArguments.{read_over, read_all}
use Rattle.lf_numbered.specs.NumberedCase.{NumberedCase, IsNumberedInstance}
use Rattle.lf_numbered.specs.OwnTerms.{blocks_of, own_terms, OnOwnTerms, AllOnOwnTerms}
use Rattle.lf_numbered.specs.Reading.{read, entry_reading}
use Rattle.lf_numbered.specs.TypedNumbered.{IsTypedNumberedCase, own_over}
use Rattle.lf_numbered.proofs.EntryPatternsForms.{given_from}
use Rattle.lf_numbered.proofs.EntryPatternsLeaf.{given_read}
use Rattle.lf_numbered.proofs.NumberedArguments.{skeleton_only, over_images, over_agree, agreeing, twice}
use Rattle.lf_numbered.proofs.ReadInstance.{heads}
use Rattle.lf_numbered.proofs.ReadValues.{values_fit, value_past, inside_onto}
use Rattle.lf_numbered.proofs.ReadSkeletons.{ReadsSkeleton, skeleton_under, read_has_skeleton}
use Rattle.lf_numbered.proofs.Reading.{IsOld, read_image, FollowsRead, follows_under, read_substituted}
use mathlib.Core.Path.{fun_ext}

-- a type of a context on top of another is one of either
onto_types : (X H : List LfType) (i : ℕ) (A : LfType) → TypeAt (onto X H) i A → TypeAt X i A ⊎ ((j : ℕ) × (i ≡ j + length X))
onto_types [] H i A g = inr (i, none i)
  where
    none : (i : ℕ) → i ≡ i + 0
    none i = omega arith
onto_types (B ∷ X) H zero A g = inl g
onto_types (B ∷ X) H (suc i) A (D, g, e) = next (onto_types X H i D g)
  where
    step : (i j n : ℕ) → i ≡ j + n → suc i ≡ j + suc n
    step i j n e = omega (arith, e)

    next : TypeAt X i D ⊎ ((j : ℕ) × (i ≡ j + length X)) → TypeAt (B ∷ X) (suc i) A ⊎ ((j : ℕ) × (suc i ≡ j + suc (length X)))
    next (inl h) = inl (D, h, e)
    next (inr (j, q)) = inr (j, step i j (length X) q)

pub own_given : (o : ℕ → Option Spine) (Ms : List (Option Term)) (i : ℕ) (M : Term) → AllOnOwnTerms o Ms → given_at Ms i ≡ Some M → OnOwnTerms o M
own_given o [] i M a e = absurd cc
own_given o (Some N ∷ Ms) zero M (n, a) e = subst (OnOwnTerms o) (some_same e) n
own_given o (None ∷ Ms) zero M a e = absurd cc
own_given o (Some N ∷ Ms) (suc i) M (n, a) e = own_given o Ms i M a e
own_given o (None ∷ Ms) (suc i) M a e = own_given o Ms i M a e

module _ (Σ Σ' : Signature) (ok : IsSignature Σ) (S : ℕ → Bool) (x : Extends S Σ Σ') (W : List Block) (typed : AreTypedBlocks Σ W) (first : ℕ) (free : IsFreeFrom Σ first) (C : NumberedCase) (tc : IsTypedNumberedCase Σ first W C) {G : List LfType} (w : World Σ' W S G) (θ : ℕ → ℕ → Image) (σ : ℕ → Image) (inst : IsNumberedInstance w first C θ σ) (Y : List LfType) (f' : ℕ → Option (ℕ × ℕ)) (ρ : ℕ → Image) (ρ_fits : SubstitutionBySkeletons (constant_skeletons Σ') (context_skeletons (onto Y G)) (context_skeletons G) ρ) (ρ_past : (i : ℕ) → ρ (i + length Y) ≡ keep i) (υ : ℕ → Image) (υ_past : (i : ℕ) → υ (i + length C.variables) ≡ keep (i + length Y)) (υ_fits : (i : ℕ) (t : Skeleton) → SkeletonAt (context_skeletons C.variables) i t → ImageSkeleton (constant_skeletons Σ') (context_skeletons (onto Y G)) (read_image f' (υ i)) t) (follows : (c : ℕ) → IsOld (with_entries Σ first (blocks_of C.blocks)) c → FollowsRead υ (entry_reading first (blocks_of C.blocks) θ (length C.variables) c) (f' c)) (agree : (i : ℕ) (A : LfType) → TypeAt C.variables i A → as_term (skeleton A) (σ i) ≡ as_term (skeleton A) (substitute_image ρ (read_image f' (υ i)))) where
  abbrev X : List LfType
  X = C.variables

  abbrev Σ₁ : Signature
  Σ₁ = with_entries Σ first (blocks_of C.blocks)

  abbrev f : ℕ → Option (ℕ × ℕ)
  f = entry_reading first (blocks_of C.blocks) θ (length X)

  abbrev o : ℕ → Option Spine
  o = own_terms first C.blocks

  abbrev κ' : HeadSkeletons
  κ' = constant_skeletons Σ'

  abbrev Θ : List LfType
  Θ = onto X G

  abbrev seen : ℕ → Image
  seen i = read_image f' (υ i)

  σ_fits : SubstitutionBySkeletons κ' (context_skeletons Θ) (context_skeletons G) σ
  σ_fits = values_fit Σ' x.ok G first (blocks_of C.blocks) θ X σ inst.values

  seen_fits : SubstitutionBySkeletons κ' (context_skeletons (onto X G)) (context_skeletons (onto Y G)) seen
  seen_fits i t g = by (onto_cases X G i t g)
    where
      by : SkeletonAt (context_skeletons X) i t ⊎ ((j : ℕ) × (i ≡ j + length X) × SkeletonAt (context_skeletons G) j t) → ImageSkeleton κ' (context_skeletons (onto Y G)) (seen i) t
      by (inl h) = υ_fits i t h
      by (inr (j, e, h)) = subst (λ y. ImageSkeleton κ' (context_skeletons (onto Y G)) (read_image f' y) t) (sym (ap υ e ∙ υ_past j)) (onto_skeleton Y G j t h)

  agree_all : (i : ℕ) (A : LfType) → TypeAt (onto X G) i A → as_term (skeleton A) (σ i) ≡ as_term (skeleton A) (after ρ seen i)
  agree_all i A g = by (onto_types X G i A g)
    where
      by : TypeAt X i A ⊎ ((j : ℕ) × (i ≡ j + length X)) → as_term (skeleton A) (σ i) ≡ as_term (skeleton A) (after ρ seen i)
      by (inl h) = agree i A h
      by (inr (j, e)) = ap (as_term (skeleton A)) (ap σ e ∙ value_past Σ' x.ok G first (blocks_of C.blocks) θ X σ inst.values j ∙ sym (ap (λ y. substitute_image ρ (read_image f' y)) (ap υ e ∙ υ_past j) ∙ ρ_past j))

  -- under a local context
  inside_over : (L : List LfType) (i : ℕ) (t : Skeleton) → SkeletonAt (context_skeletons (onto L X)) i t → SkeletonAt (context_skeletons (onto L (onto X G))) i t
  inside_over [] i t g = inside_onto X G i t g
  inside_over (A ∷ L) zero t g = g
  inside_over (A ∷ L) (suc i) t g = inside_over L i t g

  reads_over : (L : List LfType) (c : ℕ) (t : Skeleton) → (constant_skeletons Σ₁).constant_skeleton c ≡ Some t → ReadsSkeleton κ' (context_skeletons (onto L (onto X G))) (read_over L f c) (own_over L o c) c t
  reads_over [] c t e = heads Σ Σ' ok S x W typed first free C tc.variables w θ σ inst c t e
  reads_over (A ∷ L) c t e = skeleton_under κ' (context_skeletons (onto L (onto X G))) (skeleton A) (read_over L f c) (own_over L o c) c t (reads_over L c t e)

  follows_over : (L : List LfType) (c : ℕ) → IsOld Σ₁ c → FollowsRead (lift_over L υ) (read_over L f c) (read_over L f' c)
  follows_over [] c h = follows c h
  follows_over (A ∷ L) c h = follows_under (lift_over L υ) (read_over L f c) (read_over L f' c) (follows_over L c h)

  pub term_moved : (L : List LfType) (M : Term) (t : Skeleton) → TermSkeleton (constant_skeletons Σ₁) (context_skeletons (onto L X)) M t → OnOwnTerms (own_over L o) M → substitute reduce (lift_over L σ) (read (read_over L f) M) ≡ substitute reduce (lift_over L ρ) (read (read_over L f') (substitute reduce (lift_over L υ) M))
  term_moved L M t m own =
      let P : Term = read (read_over L f) M in
      let p : TermSkeleton κ' (context_skeletons (onto L (onto X G))) (read (read_over L f) M) t = read_has_skeleton (constant_skeletons Σ₁) κ' (λ j s q. none_some q) (context_skeletons (onto L X)) (context_skeletons (onto L (onto X G))) (read_over L f) (own_over L o) M t (inside_over L) (reads_over L) m own in
      let both : SubstitutionBySkeletons κ' (context_skeletons (onto X G)) (context_skeletons G) (after ρ seen) = composed κ' (context_skeletons (onto X G)) (context_skeletons (onto Y G)) (context_skeletons G) seen ρ seen_fits ρ_fits in
      agreeing κ' (onto L (onto X G)) (context_skeletons (onto (instance L σ) G)) (context_skeletons (onto (instance L (after ρ seen)) G)) (lift_over L σ) (lift_over L (after ρ seen)) P t (lifted Σ' L (onto X G) G σ σ_fits) (lifted Σ' L (onto X G) G (after ρ seen) both) (over_agree L (onto X G) σ (after ρ seen) agree_all) p
      ∙ twice Σ' (onto X G) (onto Y G) G seen ρ seen_fits ρ_fits L P t p
      ∙ ap (substitute reduce (lift_over L ρ)) (sym (
      read_substituted (IsOld Σ₁) (read_over L f) (read_over L f') (lift_over L υ) M (follows_over L) (skeleton_only Σ₁ (context_skeletons (onto L X)) M t m)
      ∙ ap (λ τ. substitute reduce τ (read (read_over L f) M)) (fun_ext (over_images L f' υ))))

  pub arguments_moved : (L : List LfType) (Ms : List (Option Term)) (T : Spine) → HaveSkeletons (constant_skeletons Σ₁) (context_skeletons (onto L X)) Ms → AllOnOwnTerms (own_over L o) Ms → HasArguments (lift_over L σ) (read_all (read_over L f) Ms) T → HasArguments (lift_over L ρ) (read_all (read_over L f') (put_in (lift_over L υ) Ms)) T
  arguments_moved L [] nil h own k = tt
  arguments_moved L [] (app N T) h own k = k
  arguments_moved L (Some M ∷ Ms) nil h own k = k
  arguments_moved L (None ∷ Ms) nil h own k = k
  arguments_moved L (Some M ∷ Ms) (app N T) ((t, m), h) (p, own) (e, k) = (e ∙ term_moved L M t m p, arguments_moved L Ms T h own k)
  arguments_moved L (None ∷ Ms) (app N T) h own k = arguments_moved L Ms T h own k

  pub given_moved : (Ms : List (Option Term)) → HaveSkeletons (constant_skeletons Σ₁) (context_skeletons X) Ms → AllOnOwnTerms o Ms → (τ : ℕ → Image) → HasGiven σ (read_all f Ms) τ → HasGiven ρ (read_all f' (put_in υ Ms)) τ
  given_moved Ms h own τ k i M e =
      let (N, p, q) = given_from f' υ Ms i M e in
      let (t, n) = given_skeleton (constant_skeletons Σ₁) (context_skeletons X) Ms i N h p in
      let (a, r) = k i (read f N) (given_read f Ms i N p) in
      (a, r ∙ ap (put a) (term_moved [] N t n (own_given o Ms i N own p) ∙ ap (substitute reduce ρ) (sym q)))
