-- What stands for the variables of a block variable among items is, over the numbered form, what the block variable of its number gives them.
use Rattle.std.proofs.Common.{◌≡◌, ℕ, zero, suc, List, [], ◌∷◌, ◌++◌, length, ◌+◌, refl, sym, ap, ◌∙◌, subst, inl, inr, arith}
use Rattle.std.specs.Prelude.{Some}
use Rattle.lf.specs.Syntax.{constant, Term, Spine, nil, app, LfType, skeleton, rename, rename_spine}
use Rattle.lf.specs.Substitution.{Image, keep, put, rename_image, lift, substitute, substitute_image, reduce, after}
use Rattle.lf.specs.AtOnce.{shift_by}
use Rattle.lf.specs.Typing.{TypeAt}
use Rattle.lf.specs.Variables.{onto}
use Rattle.lf.specs.Subordination.{Block}
use Rattle.lf.specs.Worlds.{lift_over}
use Rattle.lf.proofs.Eta.{rename_eta_expand}
use Rattle.lf.proofs.Renaming.{reduction_is_natural, substitute_renamed, rename_substituted}
use Rattle.lf.proofs.TypeLaws.{skeleton_renamed}
use Rattle.lf_checks.specs.ModeForms.{argument_count}
use Rattle.lf_cases.specs.Case.{Item, free_variable, block_variable, as_term}
use Rattle.lf_cases.specs.Missing.{BlockAmong}
use Rattle.lf_coverage.proofs.Parts.{some_same}
use Rattle.lf_coverage.proofs.HeadItems.{length_renamed as count_renamed}
use Rattle.lf_numbered.specs.EntryConstants.{entry_images}
use Rattle.lf_numbered.specs.EntryPatterns.{last_of, but_last, some_images, variable_images}
use Rattle.lf_numbered.specs.NumberedCase.{some_spine}
use Rattle.lf_numbered.specs.NumberedInstance.{block_at, first_constant}
use Rattle.lf_numbered.specs.Numbering.{entries_of, own_spine, numbering}
use Rattle.lf_numbered.specs.OwnTerms.{BlockVariable, blocks_of, rename_blocks}
use Rattle.lf_numbered.proofs.EntryPatternsNumbers.{earlier_at, last_at}
use Rattle.lf_numbered.proofs.EntryPatternsOutside.{some_images_are}
use Rattle.lf_numbered.proofs.EntryValues.{count_some}
use Rattle.lf_numbered.proofs.NumberingBlocks.{blocks_renamed}
use Rattle.lf_numbered.proofs.NumberedTyped.{rename_as_term, images_of_instance}
use mathlib.Core.Path.{fun_ext}

-- renamed arguments
last_renamed : (ρ : ℕ → ℕ) (M : Term) (S : Spine) → rename ρ (last_of M S) ≡ last_of (rename ρ M) (rename_spine ρ S)
last_renamed ρ M nil = refl
last_renamed ρ M (app N S) = last_renamed ρ N S

others_renamed : (ρ : ℕ → ℕ) (M : Term) (S : Spine) → rename_spine ρ (but_last M S) ≡ but_last (rename ρ M) (rename_spine ρ S)
others_renamed ρ M nil = refl
others_renamed ρ M (app N S) = ap (app (rename ρ M)) (others_renamed ρ N S)

pub others_count : (M : Term) (S : Spine) → argument_count (but_last M S) ≡ argument_count S
others_count M nil = refl
others_count M (app N S) = ap suc (others_count N S)

some_renamed : (ρ : ℕ → ℕ) (O : List LfType) (U : Spine) → argument_count U ≡ length O → (i : ℕ) (A : LfType) → TypeAt O i A → rename_image ρ (some_images O U i) ≡ some_images O (rename_spine ρ U) i
some_renamed ρ [] U e i A g = absurd g
some_renamed ρ (B ∷ O) nil e i A g = absurd cc
some_renamed ρ (B ∷ O) (app M U) e zero A g = ap (put (skeleton B)) (last_renamed ρ M U)
some_renamed ρ (B ∷ O) (app M U) e (suc i) A (D, g, q) = some_renamed ρ O (but_last M U) (others_count M U ∙ less (argument_count U) (length O) e) i D g ∙ ap (λ V. some_images O V i) (others_renamed ρ M U)
  where
    less : (m n : ℕ) → suc m ≡ suc n → m ≡ n
    less m n e = omega (arith, e)

images_renamed : (ρ : ℕ → ℕ) (m : ℕ) (U : Spine) (es O : List LfType) → argument_count U ≡ length O → (i : ℕ) (A : LfType) → TypeAt (onto es O) i A → rename_image ρ (entry_images m U es (some_images O U) i) ≡ entry_images m (rename_spine ρ U) es (some_images O (rename_spine ρ U)) i
images_renamed ρ m U [] O e i A g = some_renamed ρ O U e i A g
images_renamed ρ m U (E ∷ es) O e zero A g = ap (put (skeleton E)) (rename_eta_expand ρ (skeleton E) (constant (m + length es)) U)
images_renamed ρ m U (E ∷ es) O e (suc i) A (D, g, q) = images_renamed ρ m U es O e i D g

-- The first constants
pub first_renamed : (n : ℕ) (ρ : ℕ → ℕ) (bs : List BlockVariable) (k : ℕ) → first_constant n (blocks_of (rename_blocks ρ bs)) k ≡ first_constant n (blocks_of bs) k
first_renamed n ρ bs k = ap (λ Bs. first_constant n Bs k) (blocks_renamed ρ bs)

pub first_earlier : (n : ℕ) (bs cs : List BlockVariable) (k : ℕ) (b : BlockVariable) → block_at bs k ≡ Some b → first_constant n (blocks_of (bs ++ cs)) k ≡ first_constant n (blocks_of bs) k
first_earlier n [] cs k b e = absurd cc
first_earlier n (c ∷ bs) cs zero b e = refl
first_earlier n (c ∷ bs) cs (suc k) b e = first_earlier (n + length c.block.entries) bs cs k b e

first_last : (n : ℕ) (bs : List BlockVariable) (b : BlockVariable) → first_constant n (blocks_of (bs ++ b ∷ [])) (length bs) ≡ n + entries_of (blocks_of bs)
first_last n [] b = none n
  where
    none : (n : ℕ) → n ≡ n + 0
    none n = omega arith
first_last n (c ∷ bs) b = first_last (n + length c.block.entries) bs b ∙ sum n (length c.block.entries) (entries_of (blocks_of bs))
  where
    sum : (a b c : ℕ) → (a + b) + c ≡ a + (b + c)
    sum a b c = omega arith

-- values put into what is renamed
pub lift_past : (δ : ℕ → Image) (y : Image) → substitute_image (lift δ) (rename_image suc y) ≡ rename_image suc (substitute_image δ y)
lift_past δ (keep j) = refl
lift_past δ (put a N) = ap (put a) (substitute_renamed reduce (lift δ) suc N ∙ sym (rename_substituted reduce reduction_is_natural suc δ N))

entries_behind : (m : ℕ) (U : Spine) (es : List LfType) (δ : ℕ → Image) (i : ℕ) → entry_images m U es δ (i + length es) ≡ δ i
entries_behind m U [] δ i = ap δ (none i)
  where
    none : (i : ℕ) → i + 0 ≡ i
    none i = omega arith
entries_behind m U (E ∷ es) δ i = ap (entry_images m U (E ∷ es) δ) (next i (length es)) ∙ entries_behind m U es δ i
  where
    next : (i n : ℕ) → i + suc n ≡ suc (i + n)
    next i n = omega arith

shift_past : (m : ℕ) (U : Spine) (es : List LfType) (δ : ℕ → Image) (y : Image) → substitute_image (entry_images m U es δ) (rename_image (shift_by (length es)) y) ≡ substitute_image δ y
shift_past m U es δ (keep j) = entries_behind m U es δ j
shift_past m U es δ (put a N) = ap (put a) (substitute_renamed reduce (entry_images m U es δ) (shift_by (length es)) N ∙ ap (λ f. substitute reduce f N) (fun_ext (entries_behind m U es δ)))

own_alike : (m : ℕ) (U : Spine) (es O : List LfType) (ω : ℕ → Image) → U ≡ some_spine O ω → (i : ℕ) (A : LfType) → TypeAt (onto es O) i A → as_term (skeleton A) (entry_images m U es ω i) ≡ as_term (skeleton A) (entry_images m U es (some_images O U) i)
own_alike m U [] O ω e i A g = sym (ap (as_term (skeleton A)) (ap (λ V. some_images O V i) e ∙ some_images_are O ω i A g))
own_alike m U (E ∷ es) O ω e zero A g = refl
own_alike m U (E ∷ es) O ω e (suc i) A (D, g, q) =
    ap (λ a. as_term a (entry_images m U es ω i)) (ap skeleton q ∙ skeleton_renamed suc D)
    ∙ own_alike m U es O ω e i D g
    ∙ ap (λ a. as_term a (entry_images m U es (some_images O U) i)) (sym (ap skeleton q ∙ skeleton_renamed suc D))

module _ (first : ℕ) where
  -- The number of a block variable among the items, its terms, and what it gives.
  pub record StandsAs (I : List Item) (B : Block) (θ : ℕ → Image) : Type 0 where
    pub number : ℕ
    pub terms : Spine
    pub at : block_at (numbering first I).blocks number ≡ Some (record { block = B; terms = terms })
    pub count : argument_count terms ≡ length B.some
    pub same : (i : ℕ) (A : LfType) → TypeAt (onto B.entries B.some) i A → as_term (skeleton A) (after (numbering first I).images θ i) ≡ as_term (skeleton A) (variable_images first (numbering first I).blocks number B terms i)

  pub at_renamed : (ρ : ℕ → ℕ) (bs : List BlockVariable) (k : ℕ) (B : Block) (U : Spine) → block_at bs k ≡ Some (record { block = B; terms = U }) → block_at (rename_blocks ρ bs) k ≡ Some (record { block = B; terms = rename_spine ρ U })
  at_renamed ρ [] k B U e = absurd cc
  at_renamed ρ (c ∷ bs) zero B U e = ap (λ (d : BlockVariable). Some (record { block = d.block; terms = rename_spine ρ d.terms })) (some_same e)
  at_renamed ρ (c ∷ bs) (suc k) B U e = at_renamed ρ bs k B U e

  pub stands_as : (I : List Item) (B : Block) (θ : ℕ → Image) → BlockAmong I B θ → StandsAs I B θ
  stands_as [] B θ b = absurd b
  stands_as (free_variable A ∷ I) B θ (τ, b, q) =
      let s = stands_as I B τ b in
      let bs : List BlockVariable = (numbering first I).blocks in
      let δ : ℕ → Image = (numbering first I).images in
      record {
        number = s.number;
        terms = rename_spine suc s.terms;
        at = at_renamed suc bs s.number B s.terms s.at;
        count = count_renamed suc s.terms ∙ s.count;
        same = λ i D g.
            ap (λ f. as_term (skeleton D) (substitute_image (lift δ) (f i))) q
            ∙ ap (as_term (skeleton D)) (lift_past δ (τ i))
            ∙ sym (rename_as_term suc (skeleton D) (substitute_image δ (τ i)))
            ∙ ap (rename suc) (s.same i D g)
            ∙ rename_as_term suc (skeleton D) (variable_images first bs s.number B s.terms i)
            ∙ ap (as_term (skeleton D)) (images_renamed suc (first_constant first (blocks_of bs) s.number) s.terms B.entries B.some s.count i D g ∙ ap (λ m. entry_images m (rename_spine suc s.terms) B.entries (some_images B.some (rename_spine suc s.terms)) i) (sym (first_renamed first suc bs s.number)));
      }
  stands_as (block_variable C υ ∷ I) B θ (inl (p, q)) = subst (λ D. StandsAs (block_variable C υ ∷ I) D θ) p (subst (StandsAs (block_variable C υ ∷ I) C) (sym q) here)
    where
      bs : List BlockVariable
      bs = (numbering first I).blocks

      δ : ℕ → Image
      δ = (numbering first I).images

      U : Spine
      U = own_spine C υ (numbering first I)

      m : ℕ
      m = first + entries_of (blocks_of bs)

      here : StandsAs (block_variable C υ ∷ I) C (lift_over C.entries υ)
      here = record {
        number = length bs;
        terms = U;
        at = last_at bs (record { block = C; terms = U });
        count = count_some C.some (after δ υ);
        same = λ i D g.
            ap (as_term (skeleton D)) (images_of_instance m U C.entries υ δ i)
            ∙ own_alike m U C.entries C.some (after δ υ) refl i D g
            ∙ ap (λ n. as_term (skeleton D) (entry_images n U C.entries (some_images C.some U) i)) (sym (first_last first bs (record { block = C; terms = U })));
      }
  stands_as (block_variable C υ ∷ I) B θ (inr (τ, b, q)) =
      let s = stands_as I B τ b in
      let bs : List BlockVariable = (numbering first I).blocks in
      let δ : ℕ → Image = (numbering first I).images in
      let c : BlockVariable = record { block = C; terms = own_spine C υ (numbering first I) } in
      record {
        number = s.number;
        terms = s.terms;
        at = earlier_at bs (c ∷ []) s.number (record { block = B; terms = s.terms }) s.at;
        count = s.count;
        same = λ i D g.
            ap (λ f. as_term (skeleton D) (substitute_image (entry_images (first + entries_of (blocks_of bs)) c.terms C.entries δ) (f i))) q
            ∙ ap (as_term (skeleton D)) (shift_past (first + entries_of (blocks_of bs)) c.terms C.entries δ (τ i))
            ∙ s.same i D g
            ∙ ap (λ n. as_term (skeleton D) (entry_images n s.terms B.entries (some_images B.some s.terms) i)) (sym (first_earlier first bs (c ∷ []) s.number (record { block = B; terms = s.terms }) s.at));
      }
