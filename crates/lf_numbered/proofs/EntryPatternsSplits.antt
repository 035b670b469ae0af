-- From ground instances to splits.
use Rattle.std.proofs.Common.{◌≡◌, ℕ, zero, suc, ◌+◌, List, [], ◌∷◌, length, refl, sym, ap, ap₂, ◌∙◌, subst, inl, inr, arith}
use Rattle.std.specs.Prelude.{Option, Some, None, cond}
use Rattle.lf.specs.Syntax.{Term, Spine, LfType, Skeleton, skeleton}
use Rattle.lf.specs.Substitution.{Image, keep, put, rename_image, substitute, substitute_image, reduce}
use Rattle.lf.specs.AtOnce.{shift_by, lift_renaming_by}
use Rattle.lf.specs.SkeletonTyping.{HeadSkeletons, SkeletonAt, ImageSkeleton}
use Rattle.lf.specs.Skeletons.{constant_skeletons, context_skeletons}
use Rattle.lf.specs.Typing.{Signature, TypeAt}
use Rattle.lf.specs.Variables.{onto}
use Rattle.lf.specs.Subordination.{Member}
use Rattle.lf.specs.Worlds.{World, lift_over, instance}
use Rattle.lf.proofs.Patch.{beyond}
use Rattle.lf.proofs.ToSkeletons.{skeleton_has_variable, variable_has_skeleton}
use Rattle.lf.proofs.TypeLaws.{substitution_as_renaming}
use Rattle.lf_unification.specs.Offering.{local_arguments}
use Rattle.lf_cases.specs.Case.{as_term, HasArguments}
use Rattle.lf_cases.specs.Missing.{put_in}
use Rattle.lf_cases.specs.OutputGoal.{renumber}
use Rattle.lf_cases.specs.Pattern.{Known, HasGiven}
use Rattle.lf_cases.proofs.OutputItems.{length_renumber}
use Rattle.lf_totality.proofs.OutputCases.{in_covers}
use Rattle.lf_coverage.specs.Heads.{HaveSkeletons}
use Rattle.lf_coverage.proofs.Carried.{carry, carry_same}
use Rattle.lf_coverage.proofs.Forms.{lift_same}
use Rattle.lf_coverage.proofs.Parts.{none_some, some_same}
use Rattle.lf_coverage.proofs.Transfer.{SameIn, same_in, same_over, lift_instance, onto_skeleton}
use Rattle.lf_numbered.specs.EntryConstants.{EntryConstant, entry_constant, with_entries}
use Rattle.lf_numbered.specs.EntryPatternsRuns.{ZerothIs, HoldsApart, OneHoldsApart}
use Rattle.lf_numbered.specs.EntryPatternsSplits.{InstancesMakeSplit, PutInHoldsAs, NewBlockHoldsAs}
use Rattle.lf_numbered.specs.NewBlock.{rename_all, with_new_block}
use Rattle.lf_numbered.specs.NewInstance.{with_instance}
use Rattle.lf_numbered.specs.NumberedArguments.{HasNumberedArguments, read_over, read_all}
use Rattle.lf_numbered.specs.NumberedCase.{NumberedCase}
use Rattle.lf_numbered.specs.NumberedInstance.{block_at}
use Rattle.lf_numbered.specs.OwnTerms.{BlockVariable, blocks_of, own_terms, ImageOnOwnTerms, put_in_blocks, rename_blocks}
use Rattle.lf_numbered.specs.Reading.{read_entry, variable_past, weaken_read, entry_reading}
use Rattle.lf_numbered.proofs.EntryPatternsMoved.{arguments_moved, given_moved}
use Rattle.lf_numbered.proofs.EntryPatternsNumbers.{renamed_at, earlier_at, inside_list}
use Rattle.lf_numbered.proofs.EntrySignature.{not_same}
use Rattle.lf_numbered.proofs.EntryValues.{put_term, read_as_term}
use Rattle.lf_numbered.proofs.NewInstance.{reading_shift, agree}
use Rattle.lf_numbered.proofs.NumberedArguments.{over_instance}
use Rattle.lf_numbered.proofs.OwnStoresOpened.{beyond_shifts as beyond_is}
use Rattle.lf_numbered.proofs.OwnTerms.{put_in_keeps}
use Rattle.lf_numbered.proofs.Reading.{IsOld, rename_read, read_image, FollowsRead}
use Rattle.lf_numbered.proofs.ReadInstance.{heads}
use Rattle.lf_numbered.proofs.ReadSkeletons.{read_has_skeleton}
use Rattle.lf_numbered.proofs.ReadValues.{values_fit, value_past, inside_onto}
use mathlib.Core.Path.{fun_ext}

-- Values that are the same in a context make lists of terms the same.
pub put_same : (κ : HeadSkeletons) (Γ : List Skeleton) (σ τ : ℕ → Image) → SameIn Γ σ τ → (Ms : List (Option Term)) → HaveSkeletons κ Γ Ms → put_in σ Ms ≡ put_in τ Ms
put_same κ Γ σ τ h [] s = refl
put_same κ Γ σ τ h (Some M ∷ Ms) ((t, m), s) = ap₂ (λ N Ns. Some N ∷ Ns) (same_in κ Γ σ τ h M t m) (put_same κ Γ σ τ h Ms s)
put_same κ Γ σ τ h (None ∷ Ms) s = ap (λ Ns. None ∷ Ns) (put_same κ Γ σ τ h Ms s)

pub carry_past : (D E : List LfType) (σ : ℕ → Image) (i : ℕ) → carry D E σ (i + length D) ≡ keep (i + length E)
carry_past [] E σ i = ap (λ j. keep (beyond E j)) (none i) ∙ ap keep (beyond_is E i)
  where
    none : (i : ℕ) → i + 0 ≡ i
    none i = omega arith
carry_past (A ∷ D) E σ i = ap (carry (A ∷ D) E σ) (next i (length D)) ∙ carry_past D E (λ j. σ (suc j)) i
  where
    next : (i n : ℕ) → i + suc n ≡ suc (i + n)
    next i n = omega arith

pub put_at : (υ : ℕ → Image) (bs : List BlockVariable) (k : ℕ) (b : BlockVariable) → block_at bs k ≡ Some b → (d : BlockVariable) × (block_at (put_in_blocks υ bs) k ≡ Some d) × (d.block ≡ b.block)
put_at υ [] k b e = absurd cc
put_at υ (c ∷ bs) zero b e = (_, refl, ap (λ (d : BlockVariable). d.block) (some_same e))
put_at υ (c ∷ bs) (suc k) b e = put_at υ bs k b e

-- the same entry, over other variables
pub follows_entry : (θ : ℕ → ℕ → Image) (υ : ℕ → Image) (m n : ℕ) → ((i : ℕ) → υ (i + m) ≡ keep (i + n)) → (e : Option EntryConstant) → FollowsRead υ (read_entry θ m e) (read_entry θ n e)
follows_entry θ υ m n h None = tt
follows_entry θ υ m n h (Some e) = (refl, at (θ e.number e.place))
  where
    none : (k : ℕ) → 0 + k ≡ k
    none k = omega arith

    at : (y : Image) → υ (variable_past m y) ≡ keep (variable_past n y)
    at (keep v) = h v
    at (put a N) = ap υ (sym (none m)) ∙ h 0 ∙ ap keep (none n)

pub put_in_holds_as : PutInHoldsAs
put_in_holds_as Σ Σ' ok S x W typed first free C D tc td υ p fits own G w θ σ ρ inst inst' same =
    let X : List LfType = C.variables in
    let Y : List LfType = D.variables in
    let υ' : ℕ → Image = carry C.variables D.variables υ in
    let f : ℕ → Option (ℕ × ℕ) = entry_reading first (blocks_of C.blocks) θ (length C.variables) in
    let f' : ℕ → Option (ℕ × ℕ) = entry_reading first (blocks_of D.blocks) θ (length D.variables) in
    let κ' : HeadSkeletons = constant_skeletons Σ' in
    let κ₁ : HeadSkeletons = constant_skeletons (with_entries Σ first (blocks_of C.blocks)) in
    let Bs : blocks_of D.blocks ≡ blocks_of C.blocks = ap blocks_of p.blocks ∙ put_in_keeps υ C.blocks in
    let near : SameIn (context_skeletons C.variables) υ (carry C.variables D.variables υ) = λ i t g. let (A, h, e) = skeleton_has_variable C.variables i t g in sym (carry_same C.variables D.variables υ i (in_covers C.variables i A h)) in
    let ρ_fits = values_fit Σ' x.ok G first (blocks_of D.blocks) θ D.variables ρ inst'.values in
    let υ_fits : (i : ℕ) (t : Skeleton) → SkeletonAt (context_skeletons C.variables) i t → ImageSkeleton (constant_skeletons Σ') (context_skeletons (onto D.variables G)) (read_image f' (carry C.variables D.variables υ i)) t = λ i t g. subst (λ y. ImageSkeleton (constant_skeletons Σ') (context_skeletons (onto D.variables G)) (read_image f' y) t) (near i t g) (let (A, h, e) = skeleton_has_variable C.variables i t g in by f' (υ i) t (fits i t g) (own i A h)) in
    let follows : (c : ℕ) → IsOld (with_entries Σ first (blocks_of C.blocks)) c → FollowsRead (carry C.variables D.variables υ) (f c) (f' c) = λ c h. subst (λ Cs. FollowsRead (carry C.variables D.variables υ) (f c) (entry_reading first Cs θ (length D.variables) c)) (sym Bs) (follows_entry θ (carry C.variables D.variables υ) (length C.variables) (length D.variables) (carry_past C.variables D.variables υ) (entry_constant zero first (blocks_of C.blocks) c)) in
    let agree : (i : ℕ) (A : LfType) → TypeAt C.variables i A → as_term (skeleton A) (σ i) ≡ as_term (skeleton A) (substitute_image ρ (read_image f' (carry C.variables D.variables υ i))) = λ i A h.
    let t = skeleton A in
    same i A h
    ∙ ap (substitute reduce ρ) (read_as_term f' (skeleton A) (υ i))
    ∙ put_term (constant_skeletons Σ') (context_skeletons (onto D.variables G)) (context_skeletons G) ρ ρ_fits (skeleton A) (read_image f' (υ i)) (by f' (υ i) (skeleton A) (fits i (skeleton A) (variable_has_skeleton C.variables i A h)) (own i A h))
    ∙ ap (λ y. as_term (skeleton A) (substitute_image ρ (read_image f' y))) (sym (carry_same C.variables D.variables υ i (in_covers C.variables i A h))) in
    let ρ_past = value_past Σ' x.ok G first (blocks_of D.blocks) θ D.variables ρ inst'.values in
    let shape : (T : Spine) → HasArguments (lift_over C.local ρ) (read_all (read_over C.local f') (put_in (lift_over C.local (carry C.variables D.variables υ)) C.arguments)) T → HasNumberedArguments first D θ ρ T = λ T h. subst (λ L. HasArguments (lift_over L ρ) (read_all (read_over L f') D.arguments) T) (sym p.local) (subst (λ r. HasArguments r (read_all (read_over (instance C.local υ) f') D.arguments) T) (sym (lift_instance C.local υ ρ)) (subst (λ g. HasArguments (lift_over C.local ρ) (read_all g D.arguments) T) (sym (over_instance C.local υ f')) (subst (λ Ms. HasArguments (lift_over C.local ρ) (read_all (read_over C.local f') Ms) T) (sym (p.arguments ∙ put_same κ₁ (context_skeletons (onto C.local C.variables)) (lift_over C.local υ) (lift_over C.local (carry C.variables D.variables υ)) (same_over C.local C.variables υ (carry C.variables D.variables υ) near) C.arguments tc.arguments)) h))) in
    record {
      arguments = λ T h. shape T (arguments_moved Σ Σ' ok S x W typed first free C tc w θ σ inst D.variables f' ρ ρ_fits ρ_past (carry C.variables D.variables υ) (carry_past C.variables D.variables υ) υ_fits follows agree C.local C.arguments T tc.arguments tc.arguments_on_own h);
      given = λ τ h. subst (λ Ms. HasGiven ρ (read_all f' Ms) τ) (sym (p.given ∙ put_same κ₁ (context_skeletons C.variables) υ (carry C.variables D.variables υ) near C.given tc.given)) (given_moved Σ Σ' ok S x W typed first free C tc w θ σ inst D.variables f' ρ ρ_fits ρ_past (carry C.variables D.variables υ) (carry_past C.variables D.variables υ) υ_fits follows agree C.given tc.given tc.given_on_own τ h);
      zeroth = zeroth;
    }
  where
    by : (f' : ℕ → Option (ℕ × ℕ)) (y : Image) (t : Skeleton) → ImageSkeleton (constant_skeletons (with_entries Σ first (blocks_of D.blocks))) (context_skeletons D.variables) y t → ImageOnOwnTerms (own_terms first D.blocks) y → ImageSkeleton (constant_skeletons Σ') (context_skeletons (onto D.variables G)) (read_image (entry_reading first (blocks_of D.blocks) θ (length D.variables)) y) t
    by f' (keep j) t h q = inside_onto D.variables G j t h
    by f' (put a N) t (e, n) q = (e, read_has_skeleton (constant_skeletons (with_entries Σ first (blocks_of D.blocks))) (constant_skeletons Σ') (λ j s z. none_some z) (context_skeletons D.variables) (context_skeletons (onto D.variables G)) (entry_reading first (blocks_of D.blocks) θ (length D.variables)) (own_terms first D.blocks) N a (inside_onto D.variables G) (heads Σ Σ' ok S x W typed first free D td.variables w θ ρ inst') n q)

    zeroth : (F : Known) → ZerothIs C θ F → ZerothIs D θ F
    zeroth None z = tt
    zeroth (Some (B, φ)) (b, q, r, s) = let (d, u, v) = put_at υ C.blocks zero b q in (d, ap (λ bs. block_at bs zero) p.blocks ∙ u, v ∙ r, s)

-- renamed terms as terms with values put in
pub all_renamed : (n : ℕ) (r : ℕ → ℕ) (τ : ℕ → Image) → ((i : ℕ) → τ i ≡ keep (r i)) → (Ms : List (Option Term)) → put_in τ Ms ≡ rename_all r Ms
all_renamed n r τ h [] = refl
all_renamed n r τ h (Some M ∷ Ms) = ap₂ (λ N Ns. Some N ∷ Ns) (ap (λ υ. substitute reduce υ M) (fun_ext h) ∙ substitution_as_renaming reduce r M) (all_renamed n r τ h Ms)
all_renamed n r τ h (None ∷ Ms) = ap (λ Ns. None ∷ Ns) (all_renamed n r τ h Ms)

pub lifted_keep : (L : List LfType) (r : ℕ → ℕ) (i : ℕ) → lift_over L (λ j. keep (r j)) i ≡ keep (lift_renaming_by (length L) r i)
lifted_keep [] r i = refl
lifted_keep (A ∷ L) r zero = refl
lifted_keep (A ∷ L) r (suc i) = ap (rename_image suc) (lifted_keep L r i)

same_over_length : (L E : List LfType) (f : ℕ → Option (ℕ × ℕ)) → length L ≡ length E → read_over L f ≡ read_over E f
same_over_length [] [] f e = refl
same_over_length [] (A ∷ E) f e = absurd cc
same_over_length (A ∷ L) [] f e = absurd cc
same_over_length (A ∷ L) (B ∷ E) f e = ap (λ g c. weaken_read (g c)) (same_over_length L E f (omega (arith, e)))

onto_length : (O X : List LfType) → length (onto O X) ≡ length X + length O
onto_length [] X = none (length X)
  where
    none : (n : ℕ) → n ≡ n + 0
    none n = omega arith
onto_length (A ∷ O) X = ap suc (onto_length O X) ∙ next (length X) (length O)
  where
    next : (m n : ℕ) → suc (m + n) ≡ m + suc n
    next m n = omega arith

shifted_follows : (l : ℕ) (y : Option (ℕ × ℕ)) → FollowsRead (λ i. keep (i + l)) y (rename_read (shift_by l) y)
shifted_follows l None = tt
shifted_follows l (Some (n, v)) = (refl, refl)

pub new_block_holds_as : NewBlockHoldsAs
new_block_holds_as Σ Σ' ok S x W typed first free C tc B member G w θ σ inst φ ρ at inst' same =
    let D : NumberedCase = with_new_block B C in
    let l : ℕ = length B.some in
    let υ : ℕ → Image = λ i. keep (i + length B.some) in
    let χ : ℕ → ℕ → Image = with_instance (length C.blocks) φ θ in
    let f : ℕ → Option (ℕ × ℕ) = entry_reading first (blocks_of C.blocks) θ (length C.variables) in
    let f' : ℕ → Option (ℕ × ℕ) = entry_reading first (blocks_of (with_new_block B C).blocks) (with_instance (length C.blocks) φ θ) (length (onto B.some C.variables)) in
    let υ_past : (i : ℕ) → keep ((i + length C.variables) + length B.some) ≡ keep (i + length (onto B.some C.variables)) = λ i. ap keep (sum i (length C.variables) (length B.some) (length (onto B.some C.variables)) (onto_length B.some C.variables)) in
    let υ_fits : (i : ℕ) (t : Skeleton) → SkeletonAt (context_skeletons C.variables) i t → SkeletonAt (context_skeletons (onto (onto B.some C.variables) G)) (i + length B.some) t = λ i t g. inside_onto (onto B.some C.variables) G (i + length B.some) t (onto_skeleton B.some C.variables i t g) in
    let follows : (c : ℕ) → IsOld (with_entries Σ first (blocks_of C.blocks)) c → FollowsRead (λ i. keep (i + length B.some)) (f c) (f' c) = λ c (A, e). subst (FollowsRead (λ i. keep (i + length B.some)) (f c)) (sym (reading_shift first (blocks_of (with_new_block B C).blocks) (with_instance (length C.blocks) φ θ) C.variables B.some c ∙ ap (rename_read (shift_by (length B.some))) (agree Σ Σ' S x W typed first free C tc.variables w θ σ inst B member φ at (length C.variables) c A e))) (shifted_follows (length B.some) (f c)) in
    let agrees : (i : ℕ) (A : LfType) → TypeAt C.variables i A → as_term (skeleton A) (σ i) ≡ as_term (skeleton A) (ρ (i + length B.some)) = λ i A h. ap (as_term (skeleton A)) (sym (same i)) in
    let ρ_fits = values_fit Σ' x.ok G first (blocks_of (with_new_block B C).blocks) (with_instance (length C.blocks) φ θ) (onto B.some C.variables) ρ inst'.values in
    let ρ_past = value_past Σ' x.ok G first (blocks_of (with_new_block B C).blocks) (with_instance (length C.blocks) φ θ) (onto B.some C.variables) ρ inst'.values in
    let L : List LfType = C.local in
    let shape : (T : Spine) → HasArguments (lift_over C.local ρ) (read_all (read_over C.local f') (put_in (lift_over C.local (λ i. keep (i + length B.some))) C.arguments)) T → HasNumberedArguments first (with_new_block B C) (with_instance (length C.blocks) φ θ) ρ T = λ T h. subst (λ r. HasArguments r (read_all (read_over (renumber (shift_by (length B.some)) C.local) f') (with_new_block B C).arguments) T) (lift_same C.local (renumber (shift_by (length B.some)) C.local) ρ (sym (length_renumber (shift_by (length B.some)) C.local))) (subst (λ g. HasArguments (lift_over C.local ρ) (read_all g (with_new_block B C).arguments) T) (same_over_length C.local (renumber (shift_by (length B.some)) C.local) f' (sym (length_renumber (shift_by (length B.some)) C.local))) (subst (λ Ms. HasArguments (lift_over C.local ρ) (read_all (read_over C.local f') Ms) T) (all_renamed 0 (lift_renaming_by (length C.local) (shift_by (length B.some))) (lift_over C.local (λ i. keep (i + length B.some))) (lifted_keep C.local (shift_by (length B.some))) C.arguments) h)) in
    record {
      arguments = λ T h. shape T (arguments_moved Σ Σ' ok S x W typed first free C tc w θ σ inst (onto B.some C.variables) f' ρ ρ_fits ρ_past (λ i. keep (i + length B.some)) υ_past υ_fits follows agrees C.local C.arguments T tc.arguments tc.arguments_on_own h);
      given = λ τ h. subst (λ Ms. HasGiven ρ (read_all f' Ms) τ) (all_renamed 0 (shift_by (length B.some)) (λ i. keep (i + length B.some)) (λ i. refl) C.given) (given_moved Σ Σ' ok S x W typed first free C tc w θ σ inst (onto B.some C.variables) f' ρ ρ_fits ρ_past (λ i. keep (i + length B.some)) υ_past υ_fits follows agrees C.given tc.given tc.given_on_own τ h);
      zeroth = zeroth;
    }
  where
    sum : (i n l k : ℕ) → k ≡ n + l → (i + n) + l ≡ i + k
    sum i n l k e = omega (arith, e)

    zeroth : (F : Known) → ZerothIs C θ F → ZerothIs (with_new_block B C) (with_instance (length C.blocks) φ θ) F
    zeroth None z = tt
    zeroth (Some (E, ψ)) (b, q, r, s) =
        let (d, u, v) = renamed_at (shift_by (length B.some)) C.blocks zero b q in
        let n = inside_list C.blocks zero b q in
        (d, earlier_at (rename_blocks (shift_by (length B.some)) C.blocks) (record { block = B; terms = local_arguments B.some } ∷ []) zero d u, v ∙ r, ap (λ y. cond y φ (θ zero)) (not_same zero (length C.blocks) (λ e. omega (arith, e, n))) ∙ s)

pub instances_make_split : InstancesMakeSplit
instances_make_split Σ first W S C Cs like held = record {
  like = like;
  holds = λ Σ' x G w F σ0 T h.
      let n = h.holds in
      let (D, m, χ, ρ, i, a, k) = held Σ' x G w n.instances n.values n.is_ground h.are_apart in
      one Σ' G w F σ0 T Cs D m (record { holds = record { instances = χ; values = ρ; is_ground = i; zeroth = k.zeroth F n.zeroth; given = k.given σ0 n.given; has_arguments = k.arguments T n.has_arguments }; are_apart = a });
}
  where
    one : (Σ' : Signature) (G : List LfType) (w : World Σ' W S G) (F : Known) (σ0 : ℕ → Image) (T : Spine) (Ds : List NumberedCase) (D : NumberedCase) → Member D Ds → HoldsApart w first D F σ0 T → OneHoldsApart w first Ds F σ0 T
    one Σ' G w F σ0 T [] D m h = absurd m
    one Σ' G w F σ0 T (E ∷ Ds) D (inl q) h = inl (subst (λ K. HoldsApart w first K F σ0 T) q h)
    one Σ' G w F σ0 T (E ∷ Ds) D (inr m) h = inr (one Σ' G w F σ0 T Ds D m h)
