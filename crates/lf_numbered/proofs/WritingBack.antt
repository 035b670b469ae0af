-- What is written is read back as it was.
use Rattle.std.proofs.Common.{◌≡◌, ℕ, zero, suc, List, [], ◌∷◌, ◌+◌, length, Option, Some, None, inl, inr, refl, sym, ap, ◌∙◌, subst, arith}
use Rattle.std.specs.Prelude.{Bool, true, false, cond, ◌<◌, ◌⊎◌}
use Rattle.lf.specs.Syntax.{constant, variable, Term, Spine, nil, app, LfType, atom, Skeleton, skeleton, rename, rename_type}
use Rattle.lf.specs.Substitution.{Image, keep, put, rename_image, substitute, substitute_spine, substitute_type, reduce}
use Rattle.lf.specs.Eta.{eta_expand, eta_long}
use Rattle.lf.specs.SkeletonTyping.{ImageSkeleton}
use Rattle.lf.specs.Skeletons.{constant_skeletons, context_skeletons}
use Rattle.lf.specs.Typing.{Signature, TypeAt, ImageHasType, HasType, IsType}
use Rattle.lf.specs.Worlds.{World}
use Rattle.lf.proofs.Closed.{agree, agree_type}
use Rattle.lf.proofs.Eta.{AtSkel, EtaImage, EtaLike, Fits, eta_renames, rename_eta_expand}
use Rattle.lf.proofs.EtaTypes.{eta_type}
use Rattle.lf.proofs.Renaming.{reduction_is_natural, rename_substituted}
use Rattle.lf.proofs.ToSkeletons.{skeleton_has_variable, typed_has_skeleton, type_by_skeletons, variable_has_skeleton}
use Rattle.lf.proofs.TypeLaws.{rename_substituted_type}
use Rattle.lf_checks.specs.ModeForms.{argument_count}
use Rattle.lf_cases.proofs.Raised.{rename_identity, rename_identity_type}
use Rattle.lf_cases.specs.Case.{behind_entries}
use Rattle.lf_totality.proofs.OutputCases.{in_context, in_covers, in_type}
use Rattle.lf_coverage.proofs.Offered.{length_kept as count_put}
use Rattle.lf_coverage.proofs.Parts.{none_some}
use Rattle.lf_numbered.specs.EntryConstants.{EntryConstant, entry_constant, with_entries}
use Rattle.lf_numbered.specs.NumberedCase.{NumberedCase, some_spine}
use Rattle.lf_numbered.specs.OwnTerms.{blocks_of}
use Rattle.lf_numbered.specs.Reading.{read, read_type, read_entry, variable_past, entry_reading}
use Rattle.lf_numbered.specs.Writing.{IsEntryVariable, IsWriting, back_over}
use Rattle.lf_numbered.specs.WritingLaws.{IsInstanceWithRoom, WrittenIsReadBack}
use Rattle.lf_numbered.proofs.EntryValues.{count_some, read_entry_long}
use Rattle.lf_numbered.proofs.Reading.{IsOld, FollowsRead, none_read_type, read_image, read_substituted, read_type_substituted, type_only, typed_only}
use Rattle.lf_numbered.proofs.WritingInstance.{entry_free}
use Rattle.lf_numbered.proofs.WritingRead.{writing_fits, itself}

-- Variables back
pub back_near : (n : ℕ) (back : ℕ → ℕ) (i : ℕ) → i < n → back_over n back i ≡ back i
back_near zero back i l = absurd (omega (arith, l))
back_near (suc n) back zero l = refl
back_near (suc n) back (suc i) l = back_near n (λ j. back (suc j)) i (omega (arith, l))

pub back_far : (n : ℕ) (back : ℕ → ℕ) (i : ℕ) → back_over n back (i + n) ≡ i
back_far zero back i = none i
  where
    none : (i : ℕ) → i + 0 ≡ i
    none i = omega arith
back_far (suc n) back i = ap (back_over (suc n) back) (next i n) ∙ back_far n (λ j. back (suc j)) i
  where
    next : (i n : ℕ) → i + suc n ≡ suc (i + n)
    next i n = omega arith

pub within : (G : List LfType) (i : ℕ) (A : LfType) → TypeAt G i A → i < length G
within [] i A g = absurd g
within (B ∷ G) zero A g = omega arith
within (B ∷ G) (suc i) A (C, g, e) = let l = within G i C g in omega (arith, l)

-- a term without entries is read as it is
first_argument : {a b : ℕ} {M N : Term} → atom a (app M nil) ≡ atom b (app N nil) → M ≡ N
first_argument e = cc

pub none_read_term : (P : ℕ → Type 0) (f : ℕ → Option (ℕ × ℕ)) (M : Term) → ((c : ℕ) → P c → f c ≡ None) → Rattle.lf_numbered.proofs.Reading.OnlyConstants P M → read f M ≡ M
none_read_term P f M h m = first_argument (none_read_type P f (atom 0 (app M nil)) h (m, tt))

module _ (Σ Σ' : Signature) {W : List Rattle.lf.specs.Subordination.Block} {S : ℕ → Bool} {G : List LfType} (w : World Σ' W S G) (first : ℕ) (C : NumberedCase) (θ : ℕ → ℕ → Image) (σ : ℕ → Image) (r : IsInstanceWithRoom Σ w first C θ σ) (F : List LfType) (ρ : ℕ → Image) (back : ℕ → ℕ) (h : IsWriting Σ' first (blocks_of C.blocks) θ G F ρ back) where
  abbrev pub fF : ℕ → Option (ℕ × ℕ)
  fF = entry_reading first (blocks_of C.blocks) θ (length F)

  abbrev pub β : ℕ → ℕ
  β = back_over (length F) back

  -- no constant of the extension is an entry
  pub old_none : (n c : ℕ) → IsOld Σ' c → entry_reading first (blocks_of C.blocks) θ n c ≡ None
  old_none n c (A, q) = ap (read_entry θ n) (by (entry_constant zero first (blocks_of C.blocks) c) refl)
    where
      by : (x : Option EntryConstant) → entry_constant zero first (blocks_of C.blocks) c ≡ x → entry_constant zero first (blocks_of C.blocks) c ≡ None
      by None e = e
      by (Some e) p = absurd (none_some (sym (entry_free Σ Σ' w first C θ σ r c e p) ∙ q))

  pub follows : (c : ℕ) → IsOld Σ' c → FollowsRead ρ None (entry_reading first (blocks_of C.blocks) θ (length F) c)
  follows c q = subst (FollowsRead ρ None) (sym (old_none (length F) c q)) tt

  pub entry_read : (i : ℕ) → IsEntryVariable first (blocks_of C.blocks) θ i → (a : Skeleton) × (M : Term) × (ρ i ≡ put a M) × (read fF M ≡ eta_long a (variable (i + length F)))
  entry_read i (c, e, q, k) =
      let U : Spine = substitute_spine reduce ρ (some_spine e.block.some (behind_entries e.block.entries (θ e.number))) in
      let n : argument_count U ≡ length e.block.some = count_put ρ (some_spine e.block.some (behind_entries e.block.entries (θ e.number))) ∙ count_some e.block.some (behind_entries e.block.entries (θ e.number)) in
      let f : fF c ≡ Some (argument_count U, i + length F) = ap (read_entry θ (length F)) q ∙ ap (λ y. Some (length e.block.some, variable_past (length F) y)) k ∙ ap (λ m. Some (m, i + length F)) (sym n) in
      (skeleton e.entry, eta_expand (skeleton e.entry) (constant c) U, h.entries c e q i k, read_entry_long fF (skeleton e.entry) c (i + length F) U f)

  pub returned_is : (i : ℕ) (A : LfType) → TypeAt G i A → (rename_image β (read_image fF (ρ i)) ≡ keep i) ⊎ ((a : Skeleton) × (rename_image β (read_image fF (ρ i)) ≡ put a (eta_long a (variable i))) × (a ≡ skeleton A))
  returned_is i A g = by (h.others i A g)
    where
      at : (x : Image) (u : ℕ) → x ≡ keep u → ImageHasType (with_entries Σ' first (blocks_of C.blocks)) F x (substitute_type reduce ρ A) → u < length F
      at (keep j) u e t = subst (λ z. z < length F) (Rattle.lf_coverage.proofs.Parts.keep_same e) (within F j (substitute_type reduce ρ A) t)
      at (put a N) u e t = absurd cc

      skeleton_is : (a : Skeleton) (M : Term) → ρ i ≡ put a M → a ≡ skeleton A
      skeleton_is a M e = (subst (λ y. ImageSkeleton (constant_skeletons (with_entries Σ' first (blocks_of C.blocks))) (context_skeletons F) y (skeleton A)) e (writing_fits Σ Σ' w first C θ σ r F ρ (itself h) i (skeleton A) (variable_has_skeleton G i A g))).0

      by : IsEntryVariable first (blocks_of C.blocks) θ i ⊎ ((u : ℕ) × (ρ i ≡ keep u) × (back u ≡ i)) → (rename_image β (read_image fF (ρ i)) ≡ keep i) ⊎ ((a : Skeleton) × (rename_image β (read_image fF (ρ i)) ≡ put a (eta_long a (variable i))) × (a ≡ skeleton A))
      by (inl v) =
          let (a, M, e, f) = entry_read i v in
          inr (a, ap (λ y. rename_image β (read_image fF y)) e ∙ ap (put a) (ap (rename β) f ∙ rename_eta_expand β a (variable (i + length F)) nil ∙ ap (λ j. eta_long a (variable j)) (back_far (length F) back i)), skeleton_is a M e)
      by (inr (u, e, b)) = inl (ap (λ y. rename_image β (read_image fF y)) e ∙ ap keep (back_near (length F) back u (at (ρ i) u e (h.typed i A g)) ∙ b))

  -- the same, and each variable outside the context stays
  pub inside_only : ℕ → Image
  inside_only i = cond (in_context G i) (rename_image β (read_image fF (ρ i))) (keep i)

  agrees : (i : ℕ) (A : LfType) → TypeAt G i A → rename_image β (read_image fF (ρ i)) ≡ inside_only i
  unfolding inside_only
  agrees i A g = ap (λ b. cond b (rename_image β (read_image fF (ρ i))) (keep i)) (sym (in_covers G i A g))

  likes : EtaLike (λ a. Unit {0}) inside_only (λ i. i)
  unfolding inside_only
  likes i = by (in_context G i) refl
    where
      by : (b : Bool) → in_context G i ≡ b → EtaImage (λ a. Unit {0}) (cond b (rename_image β (read_image fF (ρ i))) (keep i)) i
      by false e = refl
      by true e = on (returned_is i (in_type G i e).0 (in_type G i e).1)
        where
          on : (rename_image β (read_image fF (ρ i)) ≡ keep i) ⊎ ((a : Skeleton) × (rename_image β (read_image fF (ρ i)) ≡ put a (eta_long a (variable i))) × (a ≡ skeleton (in_type G i e).0)) → EtaImage (λ a. Unit {0}) (rename_image β (read_image fF (ρ i))) i
          on (inl q) = subst (λ y. EtaImage (λ a. Unit {0}) y i) (sym q) refl
          on (inr (a, q, s)) = subst (λ y. EtaImage (λ a. Unit {0}) y i) (sym q) (tt, refl)

  stands : Fits (context_skeletons G) inside_only
  unfolding inside_only
  stands i t g = subst (λ y. AtSkel y t) (agrees i (skeleton_has_variable G i t g).0 (skeleton_has_variable G i t g).1) (on (returned_is i (skeleton_has_variable G i t g).0 (skeleton_has_variable G i t g).1))
    where
      on : (rename_image β (read_image fF (ρ i)) ≡ keep i) ⊎ ((a : Skeleton) × (rename_image β (read_image fF (ρ i)) ≡ put a (eta_long a (variable i))) × (a ≡ skeleton (skeleton_has_variable G i t g).0)) → AtSkel (rename_image β (read_image fF (ρ i))) t
      on (inl q) = subst (λ y. AtSkel y t) (sym q) tt
      on (inr (a, q, s)) = subst (λ y. AtSkel y t) (sym q) (s ∙ (skeleton_has_variable G i t g).2)

  pub term_back : (N : Term) (A : LfType) → HasType Σ' G N A → rename β (read fF (substitute reduce ρ N)) ≡ N
  term_back N A n =
      ap (rename β) (read_substituted (IsOld Σ') (λ c. None) fF ρ N follows (typed_only Σ' G N A n) ∙ ap (substitute reduce (λ i. read_image fF (ρ i))) (none_read_term (IsOld Σ') (λ c. None) N (λ c q. refl) (typed_only Σ' G N A n)))
      ∙ rename_substituted reduce reduction_is_natural β (λ i. read_image fF (ρ i)) N
      ∙ agree Σ' reduce G (λ i. rename_image β (read_image fF (ρ i))) inside_only N A agrees n
      ∙ eta_renames (constant_skeletons Σ') (context_skeletons G) (context_skeletons G) inside_only (λ i. i) N (skeleton A) likes stands (λ i t g. g) (typed_has_skeleton Σ' G N A n)
      ∙ rename_identity N

  pub type_back : (A : LfType) → IsType Σ' G A → rename_type β (read_type fF (substitute_type reduce ρ A)) ≡ A
  type_back A a =
      ap (rename_type β) (read_type_substituted (IsOld Σ') (λ c. None) fF ρ A follows (type_only Σ' G A a) ∙ ap (substitute_type reduce (λ i. read_image fF (ρ i))) (none_read_type (IsOld Σ') (λ c. None) A (λ c q. refl) (type_only Σ' G A a)))
      ∙ rename_substituted_type reduce reduction_is_natural β (λ i. read_image fF (ρ i)) A
      ∙ agree_type Σ' reduce G (λ i. rename_image β (read_image fF (ρ i))) inside_only A agrees a
      ∙ eta_type Σ' r.extends.ok (context_skeletons G) (context_skeletons G) inside_only (λ i. i) A likes stands (λ i t g. g) (type_by_skeletons Σ' G A a)
      ∙ rename_identity_type A

pub written_is_read_back : WrittenIsReadBack
written_is_read_back Σ Σ' W S G w first C θ σ r F ρ back h = (term_back Σ Σ' w first C θ σ r F ρ back h, type_back Σ Σ' w first C θ σ r F ρ back h)
