-- A split by heads holds all that the case holds.
use Rattle.std.proofs.Common.{◌≡◌, ℕ, List, [], ◌∷◌, ◌+◌, length, inl, inr, refl, sym, ap, ◌∙◌, subst, arith}
use Rattle.std.specs.Prelude.{Bool, true, false, Option, Some, None, ◌⊎◌}
use Rattle.lf.specs.Syntax.{Head, Term, Spine, LfType, Skeleton, rename_type}
use Rattle.lf.specs.Substitution.{Image, after}
use Rattle.lf.specs.SkeletonTyping.{HeadSkeletons, SkeletonAt, SubstitutionBySkeletons}
use Rattle.lf.specs.Skeletons.{constant_skeletons, context_skeletons}
use Rattle.lf.specs.AtOnce.{shift_by}
use Rattle.lf.specs.Typing.{Signature, IsSignature, IsTypedSubstitution}
use Rattle.lf.specs.Variables.{onto}
use Rattle.lf.specs.Subordination.{Block, Member, AreTypedBlocks, SelfContained}
use Rattle.lf.specs.Worlds.{World, lift_over, instance}
use Rattle.lf.specs.Extension.{Extends}
use Rattle.lf.proofs.ExtensionTyping.{extension_keeps_contexts}
use Rattle.lf.proofs.Substitution.{typed_substitution_by_skeletons}
use Rattle.lf.proofs.SkeletonTyping.{substitution_keeps_skeletons}
use Rattle.lf.proofs.ToSkeletons.{variable_has_skeleton, skeleton_has_variable}
use Rattle.lf.proofs.TypeLaws.{skeleton_renamed}
use Rattle.lf_checks.specs.Below.{IsSubordination}
use Rattle.lf_cases.specs.Case.{Item, Case, items_context, IsGroundInstance, HasArguments, covered_places}
use Rattle.lf_cases.specs.Pattern.{FirstInstance, Known, HasGiven}
use Rattle.lf_cases.specs.Split.{IsDistinct, HoldsDistinctly, OneHolds, IsLike, IsSplit}
use Rattle.lf_cases.specs.Missing.{put_in}
use Rattle.lf_cases.proofs.OutputItems.{lifted}
use Rattle.lf_cases.proofs.Split.{first_on}
use Rattle.lf_cases.specs.Reached.{arguments_count, head_masks, taken, with_block, SplitHead, constant_head, bound_head, entry_head, new_entry_head, split_items}
use Rattle.lf_coverage.specs.HeadOrder.{Offer}
use Rattle.lf_coverage.specs.Heads.{GivesCase, GivesNone, HeadsAreAnswered, IsHeadSplit, HaveSkeletons, IsTypedCase}
use Rattle.lf_coverage.proofs.Listed.{answer_of, offer_of_case, listed_by}
use Rattle.lf_coverage.proofs.GroundTyped.{ground_typed, items_extended}
use Rattle.lf_coverage.proofs.NewBlock.{moved_at}
use Rattle.lf_coverage.proofs.SomeHead.{Made, some_head}
use Rattle.lf_coverage.proofs.Transfer.{arguments_held, given_held, instance_fits, behind_head, lift_instance, fits_more, have_more}

-- The items stand behind those of each head.
behind_split : (Σ : Signature) (W : List Block) (below : ℕ → ℕ → Bool) (I : List Item) (X : LfType) (J : List Item) (n : ℕ) (h : Head) (A : LfType) → SplitHead Σ W I X J n h A → (i : ℕ) (t : Skeleton) → SkeletonAt (context_skeletons (items_context I)) i t → SkeletonAt (context_skeletons (items_context (split_items below X J n A))) (i + (n + arguments_count A)) t
behind_split Σ W below I X J n h A s i t g = subst (λ k. SkeletonAt (context_skeletons (items_context (split_items below X J n A))) k t) (sums i n (arguments_count A)) (behind_head (head_masks below (taken (rename_type (shift_by n) X)) (arguments_count A) A) (taken (rename_type (shift_by n) X)) (arguments_count A) A J refl (i + n) t (by s))
  where
    sums : (i n c : ℕ) → (i + n) + c ≡ i + (n + c)
    sums i n c = omega arith

    same : SkeletonAt (context_skeletons (items_context I)) (i + 0) t
    same = subst (λ k. SkeletonAt (context_skeletons (items_context I)) k t) (none i) g
      where
        none : (i : ℕ) → i ≡ i + 0
        none i = omega arith

    by : {K : List Item} {m : ℕ} {k : Head} {B : LfType} → SplitHead Σ W I X K m k B → SkeletonAt (context_skeletons (items_context K)) (i + m) t
    by (constant_head k U e u) = same
    by (bound_head j B l k e) = same
    by (entry_head j B k f e) = same
    by (new_entry_head B j C m l k e) =
        let (Y, y, q) = skeleton_has_variable (items_context I) i t g in
        subst (SkeletonAt (context_skeletons (items_context (with_block B I))) (i + (length B.some + length B.entries))) (skeleton_renamed (shift_by (length B.some + length B.entries)) Y ∙ q) (variable_has_skeleton (items_context (with_block B I)) (i + (length B.some + length B.entries)) (rename_type (shift_by (length B.some + length B.entries)) Y) (moved_at B I i Y y))

-- other answers to the same heads
abbrev pub answered_by : {Σ : Signature} {W : List Block} {A B : LfType → Offer → Option Case → Type 0} {C : Case} {x : ℕ} {Cs : List Case} (a : HeadsAreAnswered Σ W A C x Cs) → ((h : Offer) (found : Option Case) → Member h a.offers → A a.type h found → B a.type h found) → HeadsAreAnswered Σ W B C x Cs
answered_by a f = record { type = a.type; at = a.at; is_free = a.is_free; offers = a.offers; are_offers = a.are_offers; in_order = a.in_order; listed = listed_by f a.listed }

-- putting values in keeps the places
pub places_put_in : (σ : ℕ → Image) (Ms : List (Option Term)) → covered_places (put_in σ Ms) ≡ covered_places Ms
places_put_in σ [] = refl
places_put_in σ (Some M ∷ Ms) = ap (λ b. true ∷ b) (places_put_in σ Ms)
places_put_in σ (None ∷ Ms) = ap (λ b. false ∷ b) (places_put_in σ Ms)

-- putting values in keeps skeletons
pub put_in_fits : (κ : HeadSkeletons) (Γ Δ : List Skeleton) (σ : ℕ → Image) (Ms : List (Option Term)) → SubstitutionBySkeletons κ Γ Δ σ → HaveSkeletons κ Γ Ms → HaveSkeletons κ Δ (put_in σ Ms)
put_in_fits κ Γ Δ σ [] f h = tt
put_in_fits κ Γ Δ σ (Some M ∷ Ms) f ((a, m), h) = ((a, substitution_keeps_skeletons κ Γ Δ σ M a f m), put_in_fits κ Γ Δ σ Ms f h)
put_in_fits κ Γ Δ σ (None ∷ Ms) f h = put_in_fits κ Γ Δ σ Ms f h

-- a case that a head gives is typed
module _ (Σ : Signature) (ok : IsSignature Σ) (W : List Block) (S : ℕ → Bool) (below : ℕ → ℕ → Bool) (C : Case) (tc : IsTypedCase Σ W C) where
  given_case_typed : (x : ℕ) (X : LfType) (J : List Item) (n : ℕ) (h : Head) (A : LfType) → SplitHead Σ W C.items X J n h A → (D : Case) → GivesCase Σ W S below C x X J n h A D → IsTypedCase Σ W D
  given_case_typed x X J n h A sh D c =
      let κ : HeadSkeletons = constant_skeletons Σ in
      let I : List Item = split_items below X J n A in
      let m : ℕ = n + arguments_count A in
      let values : ℕ → Image = λ i. c.values (i + m) in
      let fits : SubstitutionBySkeletons κ (context_skeletons (items_context I)) (context_skeletons (items_context D.items)) c.values = instance_fits Σ ok W D.items c.typed_items I c.values c.is_instance in
      let f : SubstitutionBySkeletons κ (context_skeletons (items_context C.items)) (context_skeletons (items_context D.items)) values = λ i t z. fits (i + m) t (behind_split Σ W below C.items X J n h A sh i t z) in
      let g : SubstitutionBySkeletons κ (context_skeletons (onto C.local (items_context C.items))) (context_skeletons (onto (instance C.local values) (items_context D.items))) (lift_over C.local values) = lifted Σ C.local (items_context C.items) (items_context D.items) values f in
      record {
        items = c.typed_items;
        given = subst (HaveSkeletons κ (context_skeletons (items_context D.items))) (sym c.given) (put_in_fits κ (context_skeletons (items_context C.items)) (context_skeletons (items_context D.items)) values C.given f tc.given);
        arguments = subst (λ L. HaveSkeletons κ (context_skeletons (onto L (items_context D.items))) D.arguments) (sym c.local) (subst (HaveSkeletons κ (context_skeletons (onto (instance C.local values) (items_context D.items)))) (sym c.arguments) (put_in_fits κ (context_skeletons (onto C.local (items_context C.items))) (context_skeletons (onto (instance C.local values) (items_context D.items))) (lift_over C.local values) C.arguments g tc.arguments));
      }

  pub split_cases_typed : (x : ℕ) (Cs : List Case) → IsHeadSplit Σ W S below C x Cs → (D : Case) → Member D Cs → IsTypedCase Σ W D
  split_cases_typed x Cs sp D l = let (h, k, a) = offer_of_case sp.split.answered.listed D l in given_case_typed x sp.split.answered.type h.items h.moved h.head h.type (sp.split.answered.are_offers.each h k) D a

module _ (Σ : Signature) (ok : IsSignature Σ) (W : List Block) (typed : AreTypedBlocks Σ W) (below : ℕ → ℕ → Bool) (s : IsSubordination Σ W below) (Low : ℕ → Bool) (sc : SelfContained Σ W Low) (C : Case) (tc : IsTypedCase Σ W C) (x : ℕ) (Cs : List Case) (sp : IsHeadSplit Σ W Low below C x Cs) where
  -- One of the cases has, under values of its items, the given terms and the arguments that C has.
  module _ (Σ' : Signature) (ext : Extends Low Σ Σ') (G : List LfType) (w : World Σ' W Low G) (σ : ℕ → Image) (g : IsGroundInstance w C.items σ) (d : IsDistinct w C.items σ g) where
    pub record Held : Type 0 where
      pub case : Case
      pub listed : Member case Cs
      pub values : ℕ → Image
      pub is_ground : IsGroundInstance w case.items values
      pub is_distinct : IsDistinct w case.items values is_ground
      pub first : (B : Block) (ψ : ℕ → Image) → FirstInstance w C.items σ g B ψ → FirstInstance w case.items values is_ground B ψ
      pub arguments : (T : Spine) → HasArguments (lift_over C.local σ) C.arguments T → HasArguments (lift_over case.local values) case.arguments T
      pub given : (θ : ℕ → Image) → HasGiven σ C.given θ → HasGiven values case.given θ

    typed' : AreTypedBlocks Σ' W
    typed' B m = extension_keeps_contexts Low Σ Σ' ext (onto B.entries B.some) (typed B m)

    made : Made Σ ok W typed below s Low sc C.items tc.items x sp.split.answered.type sp.split.answered.at sp.split.answered.is_free sp.families sp.split.takes_below sp.split.arguments_below Σ' ext G w σ g d
    made = some_head Σ ok W typed below s Low sc C.items tc.items x sp.split.answered.type sp.split.answered.at sp.split.answered.is_free sp.families sp.split.takes_below sp.split.arguments_below Σ' ext G w σ g d

    by_case : (m : Made Σ ok W typed below s Low sc C.items tc.items x sp.split.answered.type sp.split.answered.at sp.split.answered.is_free sp.families sp.split.takes_below sp.split.arguments_below Σ' ext G w σ g d) → ((D : Case) × Member D Cs × GivesCase Σ W Low below C x sp.split.answered.type m.items m.number m.head m.type D) ⊎ GivesNone Σ W Low below x sp.split.answered.type m.items m.number m.head m.type → Held
    by_case m (inr n) = absurd (n Σ' ext G w m.values m.makes)
    by_case m (inl (D, l, c)) =
        let I : List Item = split_items below sp.split.answered.type m.items m.number m.type in
        let k = c.keeps Σ' ext G w m.values m.makes in
        let n : ℕ = m.number + arguments_count m.type in
        let values : ℕ → Image = λ i. c.values (i + n) in
        let back : (i : ℕ) (t : Skeleton) → SkeletonAt (context_skeletons (items_context C.items)) i t → SkeletonAt (context_skeletons (items_context I)) (i + n) t = behind_split Σ W below C.items sp.split.answered.type m.items m.number m.head m.type m.is_head in
        let fits : SubstitutionBySkeletons (constant_skeletons Σ) (context_skeletons (items_context I)) (context_skeletons (items_context D.items)) c.values = instance_fits Σ ok W D.items c.typed_items I c.values c.is_instance in
        let fσ : SubstitutionBySkeletons (constant_skeletons Σ') (context_skeletons (items_context C.items)) (context_skeletons (items_context D.items)) values = fits_more Low Σ Σ' ext (context_skeletons (items_context C.items)) (context_skeletons (items_context D.items)) values (λ i t z. fits (i + n) t (back i t z)) in
        let gt : IsTypedSubstitution Σ' (items_context D.items) G k.new_values = ground_typed Σ' ext.ok W typed' w D.items k.new_values (items_extended Low Σ Σ' ext W D.items c.typed_items) k.is_ground in
        let fρ : SubstitutionBySkeletons (constant_skeletons Σ') (context_skeletons (items_context D.items)) (context_skeletons G) k.new_values = typed_substitution_by_skeletons Σ' ext.ok (items_context D.items) G k.new_values gt in
        let same : (i : ℕ) (t : Skeleton) → SkeletonAt (context_skeletons (items_context C.items)) i t → σ i ≡ after k.new_values values i = λ i t z. let (A, a, q) = skeleton_has_variable (items_context I) (i + n) t (back i t z) in sym (m.keeps i) ∙ k.same (i + n) A a in
        record {
          case = D;
          listed = l;
          values = k.new_values;
          is_ground = k.is_ground;
          is_distinct = k.is_distinct;
          first = λ B ψ z. k.first_stays B ψ (m.first B ψ z);
          arguments = λ T a. subst (λ τ. HasArguments τ D.arguments T) (sym (ap (λ L. lift_over L k.new_values) c.local ∙ lift_instance C.local values k.new_values)) (subst (λ Ms. HasArguments (lift_over C.local k.new_values) Ms T) (sym c.arguments) (arguments_held Σ' (items_context C.items) (items_context D.items) G values k.new_values σ fσ fρ same C.local C.arguments T (have_more Low Σ Σ' ext (context_skeletons (onto C.local (items_context C.items))) C.arguments tc.arguments) a));
          given = λ θ h. subst (λ Ms. HasGiven k.new_values Ms θ) (sym c.given) (given_held Σ' (items_context C.items) (items_context D.items) G values k.new_values σ fσ fρ same C.given θ (have_more Low Σ Σ' ext (context_skeletons (items_context C.items)) C.given tc.given) h);
        }

    held : Held
    held = by_case made (answer_of sp.split.answered.listed (record { items = made.items; moved = made.number; head = made.head; type = made.type }) (sp.split.answered.are_offers.every made.items made.number made.head made.type made.is_head))

  one_holds : {Σ' : Signature} {G : List LfType} (w : World Σ' W Low G) (F : Known) (σ : ℕ → Image) (T : Spine) (D : Case) (Ds : List Case) → Member D Ds → HoldsDistinctly w D F σ T → OneHolds w Ds F σ T
  one_holds w F σ T D [] m h = absurd m
  one_holds w F σ T D (E ∷ Ds) (inl e) h = inl (subst (λ Z. HoldsDistinctly w Z F σ T) e h)
  one_holds w F σ T D (E ∷ Ds) (inr m) h = inr (one_holds w F σ T D Ds m h)

  like : (D : Case) → Member D Cs → IsLike C D
  like D m = let (h, k, c) = offer_of_case sp.split.answered.listed D m in by h c
    where
      by : (h : Offer) → GivesCase Σ W Low below C x sp.split.answered.type h.items h.moved h.head h.type D → IsLike C D
      by h c = record {
        family = c.family;
        places = ap covered_places c.arguments ∙ places_put_in (lift_over C.local (λ i. c.values (i + (h.moved + arguments_count h.type)))) C.arguments;
        given = ap covered_places c.given ∙ places_put_in (λ i. c.values (i + (h.moved + arguments_count h.type))) C.given;
      }

  pub heads_split : IsSplit Σ W Low C Cs
  heads_split = record {
    like = like;
    holds = λ Σ' ext G w F σ T h.
        let a : Held Σ' ext G w h.holds.values h.holds.is_ground h.is_distinct = held Σ' ext G w h.holds.values h.holds.is_ground h.is_distinct in
        one_holds w F σ T a.case Cs a.listed (record {
          holds = record {
            values = a.values;
            is_ground = a.is_ground;
            first = first_on w C.items a.case.items h.holds.values a.values h.holds.is_ground a.is_ground F a.first h.holds.first;
            given = a.given σ h.holds.given;
            has_arguments = a.arguments T h.holds.has_arguments;
          };
          is_distinct = a.is_distinct;
        });
  }
