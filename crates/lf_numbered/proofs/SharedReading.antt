-- What stands in a case, moved to an instance of it and with the values put in, is read in a ground instance of this
-- as what it is read as by the instances of the case's own block variables.
use Rattle.std.proofs.Common.{◌≡◌, ℕ, zero, suc, ◌+◌, List, [], ◌∷◌, length, refl, sym, ap, ap₂, ◌∙◌, subst, inl, inr, arith}
use Rattle.std.specs.Prelude.{Option, Some, None, Bool, ◌⊎◌}
use Rattle.lf.specs.Syntax.{constant, variable, metavariable, Term, Spine, lambda, root, nil, app, LfType, Kind, pi, atom, Skeleton, base, arrow, skeleton, weaken}
use Rattle.lf.specs.Substitution.{Image, keep, put, substitute, substitute_spine, substitute_type, substitute_image, reduce}
use Rattle.lf.specs.AtOnce.{in_front}
use Rattle.lf.specs.SkeletonTyping.{HeadSkeletons, SkeletonAt, ImageSkeleton, TermSkeleton, SpineSkeleton, SubstitutionBySkeletons, TypeBySkeletons}
use Rattle.lf.specs.Skeletons.{constant_skeletons, context_skeletons, family_skeletons, family_skeleton}
use Rattle.lf.specs.Typing.{Signature, TypeAt, HasType, IsType, IsSignature}
use Rattle.lf.specs.Variables.{onto}
use Rattle.lf.specs.Subordination.{Block, AreTypedBlocks}
use Rattle.lf.specs.Worlds.{World, lift_over}
use Rattle.lf.specs.Extension.{Extends}
use Rattle.lf.proofs.SkeletonTypes.{substitutions_compose_type, substitution_keeps_types_by_skeletons}
use Rattle.lf.proofs.ToSkeletons.{skeleton_has_variable, type_by_skeletons, typed_has_skeleton}
use Rattle.lf.proofs.TypeLaws.{skeleton_renamed, skeleton_substituted, substitute_renamed_type}
use Rattle.lf_coverage.proofs.NearOrFar.{onto_cases}
use Rattle.lf_coverage.proofs.Offered.{length_kept}
use Rattle.lf_coverage.proofs.Parts.{none_some}
use Rattle.lf_coverage.proofs.Transfer.{onto_skeleton}
use Rattle.lf_numbered.specs.EntryConstants.{EntryConstant, entry_constant, entry_type, with_entries, IsFreeFrom}
use Rattle.lf_numbered.specs.NumberedArguments.{read_over}
use Rattle.lf_numbered.specs.NumberedCase.{NumberedCase, AreTypedVariables, IsNumberedInstance}
use Rattle.lf_numbered.specs.NumberedInstance.{AreTypedValues, IsTypedInstanceOf, first_constant, moved_constant, moved_entry, move, move_spine, move_type}
use Rattle.lf_numbered.specs.OwnTerms.{blocks_of, own_terms, terms_at, terms_of_entry, OnOwnTerms, SpineOnOwnTerms, TypeOnOwnTerms}
use Rattle.lf_numbered.specs.Reading.{read, read_spine, read_type, read_constant, read_entry, variable_past, weaken_read, entry_reading}
use Rattle.lf_numbered.specs.TypedNumbered.{IsTypedNumberedCase, own_over}
use Rattle.lf_numbered.proofs.EntryPatternsNear.{behind_skeleton}
use Rattle.lf_numbered.proofs.EntryPatternsOutside.{found_at_number, known}
use Rattle.lf_numbered.proofs.EntryPatternsSplits.{follows_entry}
use Rattle.lf_numbered.proofs.EntryPatternsTyped.{terms_of_block}
use Rattle.lf_numbered.proofs.EntrySignature.{else_cases}
use Rattle.lf_numbered.proofs.MeetsAnswersEquations.{count_moved}
use Rattle.lf_numbered.proofs.MovedBlocks.{AreTypedIn, KeepBlocks, entry_moved, types_moved}
use Rattle.lf_numbered.proofs.MovedConstants.{constant_kept}
use Rattle.lf_numbered.proofs.NumberedArguments.{constant_is_old, skeleton_only, over_images, twice}
use Rattle.lf_numbered.proofs.OwnTerms.{old_is_none}
use Rattle.lf_numbered.proofs.ReadInstance.{heads}
use Rattle.lf_numbered.proofs.ReadSkeletons.{ReadsSkeleton, skeleton_under, read_has_skeleton, read_type_has_skeletons}
use Rattle.lf_numbered.proofs.ReadValues.{inside_onto, values_fit}
use Rattle.lf_numbered.proofs.Reading.{IsOld, OnlyConstants, SpineOnlyConstants, TypeOnlyConstants, any_constants, any_type, read_image, FollowsRead, follows_under, read_substituted, read_type_substituted, type_only}
use Rattle.lf_numbered.proofs.WritingChoice.{from_is}
use Rattle.lf_numbered.proofs.WritingMove.{move_type_renamed, skeleton_moved}
use mathlib.Core.Path.{fun_ext}

-- A constant that is moved is read as it was before; where it isn't read it stays.
abbrev pub IsReadMoved : (ℕ → ℕ) → ℕ → Option (ℕ × ℕ) → Option (ℕ × ℕ) → Type 0
IsReadMoved γ c x y = (x ≡ y) × (y ≡ None → γ c ≡ c)

moved_under : (γ : ℕ → ℕ) (c : ℕ) (x y : Option (ℕ × ℕ)) → IsReadMoved γ c x y → IsReadMoved γ c (weaken_read x) (weaken_read y)
moved_under γ c x None (e, k) = (ap weaken_read e, k)
moved_under γ c x (Some (n, v)) (e, k) = (ap weaken_read e, λ r. absurd (none_some (sym r)))

constant_read : (γ : ℕ → ℕ) (c : ℕ) (x y : Option (ℕ × ℕ)) (S T : Spine) → IsReadMoved γ c x y → S ≡ T → read_constant x (γ c) S ≡ read_constant y c T
constant_read γ c x None S T (e, k) q = ap₂ (λ z U. read_constant z (γ c) U) e q ∙ ap (λ d. root (constant d) T) (k refl)
constant_read γ c x (Some (n, v)) S T (e, k) q = ap₂ (λ z U. read_constant z (γ c) U) e q

-- So what stands in a term is.
mutual
  read_of_moved : (P : ℕ → Type 0) (γ : ℕ → ℕ) (a b : ℕ → Option (ℕ × ℕ)) (M : Term) → ((c : ℕ) → P c → IsReadMoved γ c (a (γ c)) (b c)) → OnlyConstants P M → read a (move γ M) ≡ read b M
  read_of_moved P γ a b (lambda M) h p = ap lambda (read_of_moved P γ (λ c. weaken_read (a c)) (λ c. weaken_read (b c)) M (λ c q. moved_under γ c (a (γ c)) (b c) (h c q)) p)
  read_of_moved P γ a b (root (constant c) S) h (p, q) = constant_read γ c (a (γ c)) (b c) (read_spine a (move_spine γ S)) (read_spine b S) (h c p) (read_spine_of_moved P γ a b S h q)
  read_of_moved P γ a b (root (variable i) S) h q = ap (root (variable i)) (read_spine_of_moved P γ a b S h q)
  read_of_moved P γ a b (root (metavariable m) S) h q = ap (root (metavariable m)) (read_spine_of_moved P γ a b S h q)

  read_spine_of_moved : (P : ℕ → Type 0) (γ : ℕ → ℕ) (a b : ℕ → Option (ℕ × ℕ)) (S : Spine) → ((c : ℕ) → P c → IsReadMoved γ c (a (γ c)) (b c)) → SpineOnlyConstants P S → read_spine a (move_spine γ S) ≡ read_spine b S
  read_spine_of_moved P γ a b nil h q = refl
  read_spine_of_moved P γ a b (app M S) h (p, q) = ap₂ app (read_of_moved P γ a b M h p) (read_spine_of_moved P γ a b S h q)

read_type_of_moved : (P : ℕ → Type 0) (γ : ℕ → ℕ) (a b : ℕ → Option (ℕ × ℕ)) (A : LfType) → ((c : ℕ) → P c → IsReadMoved γ c (a (γ c)) (b c)) → TypeOnlyConstants P A → read_type a (move_type γ A) ≡ read_type b A
read_type_of_moved P γ a b (pi A B) h (p, q) = ap₂ pi (read_type_of_moved P γ a b A h p) (read_type_of_moved P γ (λ c. weaken_read (a c)) (λ c. weaken_read (b c)) B (λ c r. moved_under γ c (a (γ c)) (b c) (h c r)) q)
read_type_of_moved P γ a b (atom d S) h q = ap (atom d) (read_spine_of_moved P γ a b S h q)

-- typed values one by one, and past them
in_front_put : (γ : ℕ → ℕ) (σ υ : ℕ → Image) (y : Image) → σ ≡ in_front y υ → (D : LfType) → substitute_type reduce σ (move_type γ (weaken D)) ≡ substitute_type reduce υ (move_type γ D)
in_front_put γ σ υ y e D = ap (substitute_type reduce σ) (move_type_renamed γ suc D) ∙ substitute_renamed_type reduce σ suc (move_type γ D) ∙ ap (λ τ. substitute_type reduce (λ j. τ (suc j)) (move_type γ D)) e

pub values_at : (Σ : Signature) (Y : List LfType) (o : ℕ → Option Spine) (γ : ℕ → ℕ) (X : List LfType) (σ : ℕ → Image) → AreTypedValues Σ Y o γ X σ → (i : ℕ) (A : LfType) → TypeAt X i A → (N : Term) × (σ i ≡ put (skeleton A) N) × HasType Σ Y N (substitute_type reduce σ (move_type γ A)) × OnOwnTerms o N
values_at Σ Y o γ [] σ v i A g = absurd g
values_at Σ Y o γ (B ∷ X) σ (N, υ, v, m, w, e) zero A g = (N, ap (λ τ. τ zero) e ∙ ap (λ a. put a N) (sym (ap skeleton g ∙ skeleton_renamed suc B)), subst (HasType Σ Y N) (sym (ap (λ Z. substitute_type reduce σ (move_type γ Z)) g ∙ in_front_put γ σ υ (put (skeleton B) N) e B)) m, w)
values_at Σ Y o γ (B ∷ X) σ (N, υ, v, m, w, e) (suc i) A (D, g, q) =
    let (P, z, t, u) = values_at Σ Y o γ X υ v i D g in
    (P, ap (λ τ. τ (suc i)) e ∙ z ∙ ap (λ a. put a P) (sym (ap skeleton q ∙ skeleton_renamed suc D)), subst (HasType Σ Y P) (sym (ap (λ Z. substitute_type reduce σ (move_type γ Z)) q ∙ in_front_put γ σ υ (put (skeleton B) N) e D)) t, u)

pub values_past : (Σ : Signature) (Y : List LfType) (o : ℕ → Option Spine) (γ : ℕ → ℕ) (X : List LfType) (σ : ℕ → Image) → AreTypedValues Σ Y o γ X σ → (i : ℕ) → σ (i + length X) ≡ keep (i + length Y)
values_past Σ Y o γ [] σ e i = ap σ (none i) ∙ ap (λ τ. τ i) e
  where
    none : (i : ℕ) → i + 0 ≡ i
    none i = omega arith
values_past Σ Y o γ (A ∷ X) σ (N, υ, v, m, w, e) i = ap σ (next i (length X)) ∙ ap (λ τ. τ (suc (i + length X))) e ∙ values_past Σ Y o γ X υ v i
  where
    next : (i n : ℕ) → i + suc n ≡ suc (i + n)
    next i n = omega arith

-- the variable that an entry is read as, whatever stands in front
past_front : (X Y G : List LfType) (y : Image) (s : Skeleton) → SkeletonAt (context_skeletons (onto Y G)) (variable_past (length Y) y) s → SkeletonAt (context_skeletons (onto X G)) (variable_past (length X) y) s
past_front X Y G (keep v) s g = onto_skeleton X G v s (behind_skeleton Y G v s g)
past_front X Y G (put a N) s g = subst (λ i. SkeletonAt (context_skeletons (onto X G)) i s) (none (length X)) (onto_skeleton X G 0 s (behind_skeleton Y G 0 s (subst (λ i. SkeletonAt (context_skeletons (onto Y G)) i s) (sym (none (length Y))) g)))
  where
    none : (n : ℕ) → 0 + n ≡ n
    none n = omega arith

module _ (Σ Σ' : Signature) (ok : IsSignature Σ) (S : ℕ → Bool) (x : Extends S Σ Σ') (W V : List Block) (typed : AreTypedBlocks Σ V) (first : ℕ) (free : IsFreeFrom Σ first) (C J : NumberedCase) (tc : IsTypedNumberedCase Σ first W C) (tj : AreTypedVariables Σ first V J) (π : ℕ → ℕ) (σ : ℕ → Image) (h : IsTypedInstanceOf Σ first J C π σ) {G : List LfType} (w : World Σ' V S G) (θ : ℕ → ℕ → Image) (ρ : ℕ → Image) (inst : IsNumberedInstance w first J θ ρ) where
  abbrev X : List LfType
  X = C.variables

  abbrev Y : List LfType
  Y = J.variables

  abbrev Σ₁ : Signature
  Σ₁ = with_entries Σ first (blocks_of C.blocks)

  abbrev Σ₂ : Signature
  Σ₂ = with_entries Σ first (blocks_of J.blocks)

  abbrev κ₁ : HeadSkeletons
  κ₁ = constant_skeletons (with_entries Σ first (blocks_of C.blocks))

  abbrev κ₂ : HeadSkeletons
  κ₂ = constant_skeletons (with_entries Σ first (blocks_of J.blocks))

  abbrev κ' : HeadSkeletons
  κ' = constant_skeletons Σ'

  abbrev γ : ℕ → ℕ
  γ = moved_constant first (blocks_of C.blocks) (blocks_of J.blocks) π

  abbrev χ : ℕ → ℕ → Image
  χ k = θ (π k)

  abbrev f : ℕ → Option (ℕ × ℕ)
  f = entry_reading first (blocks_of C.blocks) (λ k. θ (π k)) (length C.variables)

  abbrev g : ℕ → ℕ → Option (ℕ × ℕ)
  g = entry_reading first (blocks_of J.blocks) θ

  abbrev o : ℕ → Option Spine
  o = own_terms first C.blocks

  abbrev seen : ℕ → Image
  seen i = read_image (entry_reading first (blocks_of J.blocks) θ (length J.variables)) (σ i)

  -- the values of the case's variables there
  abbrev pub put_values : ℕ → Image
  put_values i = substitute_image ρ (read_image (entry_reading first (blocks_of J.blocks) θ (length J.variables)) (σ i))

  keeps : KeepBlocks C.blocks J.blocks π
  keeps k b e = (_, h.blocks k b e, refl)

  pub case_blocks : AreTypedIn Σ C.blocks
  case_blocks k b e = typed b.block (known Σ Σ' ok S x V typed first free J tj w θ ρ inst (π k) _ (h.blocks k b e)).0

  types_kept : (c : ℕ) (A : LfType) → Σ₁.types c ≡ Some A → Σ₂.types (γ c) ≡ Some (move_type γ A)
  types_kept = types_moved Σ ok first free C.blocks J.blocks π keeps case_blocks

  none : (j : ℕ) → zero + j ≡ j
  none j = omega arith

  -- An entry becomes the same entry there.
  entry_there : (c : ℕ) (e : EntryConstant) → entry_constant zero first (blocks_of C.blocks) c ≡ Some e → (d : EntryConstant) × (entry_constant zero first (blocks_of J.blocks) (γ c) ≡ Some d) × (d.number ≡ π e.number) × (d.block ≡ e.block) × (d.place ≡ e.place)
  entry_there c e q =
      let (j, b, at, number, block, from, place, later, entries, rest) = from_is zero first C.blocks c e q in
      let to : γ c ≡ first_constant first (blocks_of J.blocks) (π j) + length e.before = ap γ (place ∙ ap (λ m. m + length e.before) from) ∙ entry_moved Σ ok first free C.blocks J.blocks π keeps case_blocks j b at later e.entry e.before entries in
      (_, ap (entry_constant zero first (blocks_of J.blocks)) to ∙ found_at_number zero first J.blocks (π j) _ (h.blocks j b at) later e.entry e.before entries, none (π j) ∙ ap π (sym (number ∙ none j)), sym block, sym rest)

  none_there : (c : ℕ) → IsOld Σ₁ c → entry_constant zero first (blocks_of C.blocks) c ≡ None → (entry_constant zero first (blocks_of J.blocks) (γ c) ≡ None) × (γ c ≡ c)
  none_there c (A, t) q = (ap (entry_constant zero first (blocks_of J.blocks)) stays ∙ by (else_cases (Σ.types c) (entry_type (entry_constant zero first (blocks_of C.blocks) c)) A t), stays)
    where
      stays : γ c ≡ c
      stays = ap (moved_entry first (blocks_of J.blocks) π c) q

      by : (Σ.types c ≡ Some A) ⊎ (entry_type (entry_constant zero first (blocks_of C.blocks) c) ≡ Some A) → entry_constant zero first (blocks_of J.blocks) c ≡ None
      by (inl r) = old_is_none Σ first free (blocks_of J.blocks) c A r
      by (inr r) = absurd (none_some (sym (ap entry_type q) ∙ r))

  read_there : (n c : ℕ) → IsOld Σ₁ c → IsReadMoved γ c (g n (γ c)) (entry_reading first (blocks_of C.blocks) χ n c)
  read_there n c u = by (entry_constant zero first (blocks_of C.blocks) c) refl
    where
      by : (y : Option EntryConstant) → entry_constant zero first (blocks_of C.blocks) c ≡ y → IsReadMoved γ c (g n (γ c)) (entry_reading first (blocks_of C.blocks) χ n c)
      by None q = let (z, k) = none_there c u q in (ap (read_entry θ n) z ∙ sym (ap (read_entry χ n) q), λ r. k)
      by (Some e) q =
          let (d, z, number, block, place) = entry_there c e q in
          (ap (read_entry θ n) z ∙ ap₂ (λ (B : Block) (y : Image). Some (length B.some, variable_past n y)) block (ap₂ θ number place) ∙ sym (ap (read_entry χ n) q), λ r. absurd (none_some (sym r ∙ ap (read_entry χ n) q)))

  heads_there : (c : ℕ) (t : Skeleton) → κ₂.constant_skeleton c ≡ Some t → ReadsSkeleton κ' (context_skeletons (onto Y G)) (g (length Y) c) (own_terms first J.blocks c) c t
  heads_there = heads Σ Σ' ok S x V typed first free J tj w θ ρ inst

  -- the constants of C, as those of J
  heads_back : (c : ℕ) (t : Skeleton) → κ₁.constant_skeleton c ≡ Some t → ReadsSkeleton κ' (context_skeletons (onto X G)) (f c) (o c) c t
  heads_back c t q = by (entry_constant zero first (blocks_of C.blocks) c) refl
    where
      there : ReadsSkeleton κ' (context_skeletons (onto Y G)) (g (length Y) (γ c)) (own_terms first J.blocks (γ c)) (γ c) t
      there = heads_there (γ c) t (constant_kept γ Σ₁ Σ₂ types_kept c t (Σ₁.types c) refl q)

      turned : (y : Image) (n : ℕ) (u u' : Option Spine) (U : Spine) → u ≡ Some U → u' ≡ Some (substitute_spine reduce σ (move_spine γ U)) → ReadsSkeleton κ' (context_skeletons (onto Y G)) (Some (n, variable_past (length Y) y)) u' (γ c) t → ReadsSkeleton κ' (context_skeletons (onto X G)) (Some (n, variable_past (length X) y)) u c t
      turned y n u u' U a b r =
          let (l, s) = subst (λ v. ReadsSkeleton κ' (context_skeletons (onto Y G)) (Some (n, variable_past (length Y) y)) v (γ c) t) b r in
          subst (λ v. ReadsSkeleton κ' (context_skeletons (onto X G)) (Some (n, variable_past (length X) y)) v c t) (sym a) (sym (length_kept σ (move_spine γ U) ∙ count_moved γ U) ∙ l, past_front X Y G y _ s)

      old : IsOld Σ₁ c
      old = constant_is_old Σ₁ c t (Σ₁.types c) refl q

      by : (y : Option EntryConstant) → entry_constant zero first (blocks_of C.blocks) c ≡ y → ReadsSkeleton κ' (context_skeletons (onto X G)) (f c) (o c) c t
      by None e =
          let (z, k) = none_there c old e in
          let r : ReadsSkeleton κ' (context_skeletons (onto Y G)) None (own_terms first J.blocks (γ c)) (γ c) t = subst (λ y. ReadsSkeleton κ' (context_skeletons (onto Y G)) (read_entry θ (length Y) y) (own_terms first J.blocks (γ c)) (γ c) t) z there in
          subst (λ y. ReadsSkeleton κ' (context_skeletons (onto X G)) (read_entry χ (length X) y) (o c) c t) (sym e) (subst (λ d. κ'.constant_skeleton d ≡ Some t) k r)
      by (Some e) q =
          let (d, z, number, block, place) = entry_there c e q in
          let (j, b, at, n, block2, from, there2, later, entries, rest) = from_is zero first C.blocks c e q in
          let own : o c ≡ Some b.terms = ap (terms_of_entry C.blocks) q ∙ ap (terms_at C.blocks) (n ∙ none j) ∙ terms_of_block C.blocks j b at in
          let own' : own_terms first J.blocks (γ c) ≡ Some (substitute_spine reduce σ (move_spine γ b.terms)) = ap (terms_of_entry J.blocks) z ∙ ap (terms_at J.blocks) (number ∙ ap π (n ∙ none j)) ∙ terms_of_block J.blocks (π j) _ (h.blocks j b at) in
          subst (λ y. ReadsSkeleton κ' (context_skeletons (onto X G)) (read_entry χ (length X) y) (o c) c t) (sym q)
          (turned (θ (π e.number) e.place) (length e.block.some) (o c) (own_terms first J.blocks (γ c)) b.terms own own'
          (subst (λ y. ReadsSkeleton κ' (context_skeletons (onto Y G)) y (own_terms first J.blocks (γ c)) (γ c) t) (ap (read_entry θ (length Y)) z ∙ ap₂ (λ (B : Block) (y : Image). Some (length B.some, variable_past (length Y) y)) block (ap₂ θ number place)) there))

  past : (i : ℕ) → σ (i + length X) ≡ keep (i + length Y)
  past = values_past Σ₂ Y (own_terms first J.blocks) γ X σ h.values

  ρ_fits : SubstitutionBySkeletons κ' (context_skeletons (onto Y G)) (context_skeletons G) ρ
  ρ_fits = values_fit Σ' x.ok G first (blocks_of J.blocks) θ Y ρ inst.values

  seen_fits : SubstitutionBySkeletons κ' (context_skeletons (onto X G)) (context_skeletons (onto Y G)) seen
  seen_fits i t s = by (onto_cases X G i t s)
    where
      by : SkeletonAt (context_skeletons X) i t ⊎ ((j : ℕ) × (i ≡ j + length X) × SkeletonAt (context_skeletons G) j t) → ImageSkeleton κ' (context_skeletons (onto Y G)) (seen i) t
      by (inl k) =
          let (A, at, e) = skeleton_has_variable X i t k in
          let (N, q, m, own) = values_at Σ₂ Y (own_terms first J.blocks) γ X σ h.values i A at in
          let n : TermSkeleton κ₂ (context_skeletons Y) N (skeleton A) = subst (TermSkeleton κ₂ (context_skeletons Y) N) (skeleton_substituted reduce σ (move_type γ A) ∙ skeleton_moved γ A) (typed_has_skeleton Σ₂ Y N (substitute_type reduce σ (move_type γ A)) m) in
          subst (λ y. ImageSkeleton κ' (context_skeletons (onto Y G)) y t) (sym (ap (read_image (g (length Y))) q)) (e, read_has_skeleton κ₂ κ' (λ j u z. none_some z) (context_skeletons Y) (context_skeletons (onto Y G)) (g (length Y)) (own_terms first J.blocks) N (skeleton A) (inside_onto Y G) heads_there n own)
      by (inr (j, e, k)) = subst (λ y. ImageSkeleton κ' (context_skeletons (onto Y G)) (read_image (g (length Y)) y) t) (sym (ap σ e ∙ past j)) (onto_skeleton Y G j t k)

  -- under a local context
  inside_over : (L : List LfType) (i : ℕ) (t : Skeleton) → SkeletonAt (context_skeletons (onto L X)) i t → SkeletonAt (context_skeletons (onto L (onto X G))) i t
  inside_over [] i t s = inside_onto X G i t s
  inside_over (A ∷ L) zero t s = s
  inside_over (A ∷ L) (suc i) t s = inside_over L i t s

  heads_over : (L : List LfType) (c : ℕ) (t : Skeleton) → κ₁.constant_skeleton c ≡ Some t → ReadsSkeleton κ' (context_skeletons (onto L (onto X G))) (read_over L f c) (own_over L o c) c t
  heads_over [] c t e = heads_back c t e
  heads_over (A ∷ L) c t e = skeleton_under κ' (context_skeletons (onto L (onto X G))) (skeleton A) (read_over L f c) (own_over L o c) c t (heads_over L c t e)

  follows_over : (L : List LfType) (c : ℕ) → FollowsRead (lift_over L σ) (read_over L (g (length X)) c) (read_over L (g (length Y)) c)
  follows_over [] c = follows_entry θ σ (length X) (length Y) past (entry_constant zero first (blocks_of J.blocks) c)
  follows_over (A ∷ L) c = follows_under (lift_over L σ) (read_over L (g (length X)) c) (read_over L (g (length Y)) c) (follows_over L c)

  moved_over : (L : List LfType) (c : ℕ) → IsOld Σ₁ c → IsReadMoved γ c (read_over L (g (length X)) (γ c)) (read_over L f c)
  moved_over [] c u = read_there (length X) c u
  moved_over (A ∷ L) c u = moved_under γ c (read_over L (g (length X)) (γ c)) (read_over L f c) (moved_over L c u)

  -- A term, moved and with the values put in, is read as it is in C.
  pub term_over : (L : List LfType) (M : Term) (t : Skeleton) → TermSkeleton κ₁ (context_skeletons (onto L X)) M t → OnOwnTerms (own_over L o) M → substitute reduce (lift_over L ρ) (read (read_over L (g (length Y))) (substitute reduce (lift_over L σ) (move γ M))) ≡ substitute reduce (lift_over L put_values) (read (read_over L f) M)
  term_over L M t m own =
      ap (substitute reduce (lift_over L ρ)) (
      read_substituted (λ c. Unit {0}) (read_over L (g (length X))) (read_over L (g (length Y))) (lift_over L σ) (move γ M) (λ c u. follows_over L c) (any_constants (move γ M))
      ∙ ap₂ (substitute reduce) (fun_ext (over_images L (g (length Y)) σ)) (read_of_moved (IsOld Σ₁) γ (read_over L (g (length X))) (read_over L f) M (moved_over L) (skeleton_only Σ₁ (context_skeletons (onto L X)) M t m)))
      ∙ sym (twice Σ' (onto X G) (onto Y G) G seen ρ seen_fits ρ_fits L (read (read_over L f) M) t (read_has_skeleton κ₁ κ' (λ j u q. none_some q) (context_skeletons (onto L X)) (context_skeletons (onto L (onto X G))) (read_over L f) (own_over L o) M t (inside_over L) (heads_over L) m own))

  pub spine_put : (U : Spine) (t u : Skeleton) → SpineSkeleton κ₁ (context_skeletons X) U t u → SpineOnOwnTerms o U → substitute_spine reduce ρ (read_spine (g (length Y)) (substitute_spine reduce σ (move_spine γ U))) ≡ substitute_spine reduce put_values (read_spine f U)
  spine_put nil t u s own = refl
  spine_put (app M U) (arrow a b) u (m, s) (p, own) = ap₂ app (term_over [] M a m p) (spine_put U b u s own)
  spine_put (app M U) (base d) u s own = absurd s

  family_more : (a : ℕ) (t : Skeleton) → family_skeletons Σ₁ a ≡ Some t → family_skeletons Σ' a ≡ Some t
  family_more a t q = by (Σ.kinds a) refl q
    where
      by : (y : Option Kind) → Σ.kinds a ≡ y → family_skeleton a y ≡ Some t → family_skeletons Σ' a ≡ Some t
      by None e r = absurd (none_some r)
      by (Some K) e r = ap (family_skeleton a) (x.kinds_stay a K e) ∙ r

  -- So is a type, which is known there.
  module _ (A : LfType) (t : IsType Σ₁ X A) (own : TypeOnOwnTerms o A) where
    read_known : TypeBySkeletons (family_skeletons Σ') κ' (context_skeletons (onto X G)) (read_type f A)
    read_known = read_type_has_skeletons κ₁ κ' (λ j u q. none_some q) (family_skeletons Σ₁) (family_skeletons Σ') (context_skeletons X) (context_skeletons (onto X G)) f o A family_more (inside_onto X G) heads_back (type_by_skeletons Σ₁ X A t) own

    seen_type : read_type (g (length Y)) (substitute_type reduce σ (move_type γ A)) ≡ substitute_type reduce seen (read_type f A)
    seen_type = read_type_substituted (λ c. Unit {0}) (g (length X)) (g (length Y)) σ (move_type γ A) (λ c u. follows_over [] c) (any_type (move_type γ A)) ∙ ap (substitute_type reduce seen) (read_type_of_moved (IsOld Σ₁) γ (g (length X)) f A (read_there (length X)) (type_only Σ₁ X A t))

    pub type_known : TypeBySkeletons (family_skeletons Σ') κ' (context_skeletons (onto Y G)) (read_type (g (length Y)) (substitute_type reduce σ (move_type γ A)))
    type_known = subst (TypeBySkeletons (family_skeletons Σ') κ' (context_skeletons (onto Y G))) (sym seen_type) (substitution_keeps_types_by_skeletons (family_skeletons Σ') κ' (context_skeletons (onto X G)) (context_skeletons (onto Y G)) seen (read_type f A) seen_fits read_known)

    pub type_put : substitute_type reduce ρ (read_type (g (length Y)) (substitute_type reduce σ (move_type γ A))) ≡ substitute_type reduce put_values (read_type f A)
    type_put = ap (substitute_type reduce ρ) seen_type ∙ substitutions_compose_type (family_skeletons Σ') κ' (context_skeletons (onto X G)) (context_skeletons (onto Y G)) (context_skeletons G) seen ρ (read_type f A) seen_fits ρ_fits read_known
