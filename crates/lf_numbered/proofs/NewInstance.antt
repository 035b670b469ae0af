-- A new block variable stands for an instance of the context: the ground instance goes on.
use Rattle.std.proofs.Common.{◌≡◌, ℕ, zero, suc, List, [], ◌∷◌, ◌++◌, ◌+◌, ◌≤◌, length, inl, inr, refl, sym, ap, ap₂, ◌∙◌, subst, arith}
use Rattle.std.specs.Prelude.{Bool, cond, ◌⊎◌, Option, Some, None}
use Rattle.lf.specs.Syntax.{constant, variable, metavariable, Term, Spine, lambda, root, nil, app, LfType, Kind, pi, atom, kind_pi, star, skeleton, rename_spine}
use Rattle.lf.specs.Substitution.{Image, keep, put, substitute_spine, substitute_type, reduce}
use Rattle.lf.specs.AtOnce.{in_front, shift_by}
use Rattle.lf.specs.Skeletons.{constant_skeletons, context_skeletons}
use Rattle.lf.specs.Typing.{Signature, HasType, SpineType, SpineFitsKind, ImageHasType, IsTypedSubstitution, IsType, IsContext, instantiate_type, instantiate_kind}
use Rattle.lf.specs.Variables.{onto, same_number}
use Rattle.lf.specs.Subordination.{Block, Member, AreTypedBlocks}
use Rattle.lf.specs.Worlds.{World}
use Rattle.lf.specs.Extension.{Extends}
use Rattle.lf.proofs.Checker.{number_itself}
use Rattle.lf.proofs.ExtensionTyping.{extension_keeps_contexts}
use Rattle.lf.proofs.Renaming.{substitute_renamed_spine}
use Rattle.lf_unification.specs.Offering.{local_arguments}
use Rattle.lf_cases.specs.Cover.{InstanceIn}
use Rattle.lf_cases.specs.Case.{as_term, behind_entries, IsGroundInstance}
use Rattle.lf_cases.specs.OutputGoal.{free_variables}
use Rattle.lf_cases.specs.Reached.{items_onto}
use Rattle.lf_cases.proofs.Instances.{instance_typed}
use Rattle.lf_coverage.proofs.NewBlock.{front_long, front_past, front_term, some_on, some_values}
use Rattle.lf_coverage.proofs.ItemsContext.{outer_context}
use Rattle.lf_numbered.specs.EntryConstants.{EntryConstant, IsFreeFrom, entry_constant, entry_type, with_entries}
use Rattle.lf_numbered.specs.NewBlock.{with_new_block}
use Rattle.lf_numbered.specs.NewInstance.{with_instance, NewInstanceIsOfNewBlock}
use Rattle.lf_numbered.specs.NumberedCase.{NumberedCase, AreGroundValues, AreInstances, AreTypedBlockVariables, AreTypedVariables, IsNumberedInstance, some_spine}
use Rattle.lf_numbered.specs.OwnTerms.{BlockVariable, blocks_of, own_terms, rename_blocks}
use Rattle.lf_numbered.specs.Reading.{read, read_spine, read_type, weaken_read, read_constant, read_entry, entry_reading, variable_past}
use Rattle.lf_numbered.proofs.EntrySignature.{behind_kept, else_cases, not_same}
use Rattle.lf_numbered.proofs.EntryValues.{put_some, read_some, some_equal}
use Rattle.lf_numbered.proofs.NewBlockTyped.{locals_are}
use Rattle.lf_numbered.proofs.NumberingBlocks.{blocks_renamed}
use Rattle.lf_numbered.proofs.NumberedTyped.{blocks_end}
use Rattle.lf_numbered.proofs.OwnTerms.{number_in, old_is_none}
use Rattle.lf_numbered.proofs.ReadValues.{inside_onto, reading_next, values_fit}
use Rattle.lf_numbered.proofs.Reading.{IsOld, none_read_type, read_image, read_spine_renamed, rename_read, type_only}
use mathlib.Core.Path.{fun_ext}

-- Two readings that agree on the constants of a signature read alike what is typed over it.
module _ (Σ : Signature) where
  abbrev Agree : (ℕ → Option (ℕ × ℕ)) → (ℕ → Option (ℕ × ℕ)) → Type 0
  Agree f g = (c : ℕ) (A : LfType) → Σ.types c ≡ Some A → f c ≡ g c

  mutual
    pub reads_agree : (f g : ℕ → Option (ℕ × ℕ)) → Agree f g → (G : List LfType) (M : Term) (A : LfType) → HasType Σ G M A → read f M ≡ read g M
    reads_agree f g h G (lambda M) (pi A B) m = ap lambda (reads_agree (λ c. weaken_read (f c)) (λ c. weaken_read (g c)) (λ c X e. ap weaken_read (h c X e)) (A ∷ G) M B m)
    reads_agree f g h G (lambda M) (atom a T) m = absurd m
    reads_agree f g h G (root k S) (pi A B) m = absurd m
    reads_agree f g h G (root (constant c) S) (atom a T) (A, e, s) = ap₂ (λ y U. read_constant y c U) (h c A e) (reads_spine_agree f g h G S A (atom a T) s)
    reads_agree f g h G (root (variable i) S) (atom a T) (A, e, s) = ap (root (variable i)) (reads_spine_agree f g h G S A (atom a T) s)
    reads_agree f g h G (root (metavariable c) S) (atom a T) (A, e, s) = absurd e

    reads_spine_agree : (f g : ℕ → Option (ℕ × ℕ)) → Agree f g → (G : List LfType) (S : Spine) (A C : LfType) → SpineType Σ G S A C → read_spine f S ≡ read_spine g S
    reads_spine_agree f g h G nil A C s = refl
    reads_spine_agree f g h G (app M S) (pi A B) C (m, s) = ap₂ app (reads_agree f g h G M A m) (reads_spine_agree f g h G S (instantiate_type A M B) C s)
    reads_spine_agree f g h G (app M S) (atom a T) C s = absurd s

  reads_kind_agree : (f g : ℕ → Option (ℕ × ℕ)) → Agree f g → (G : List LfType) (S : Spine) (K : Kind) → SpineFitsKind Σ G S K → read_spine f S ≡ read_spine g S
  reads_kind_agree f g h G nil K s = refl
  reads_kind_agree f g h G (app M S) (kind_pi A K) (m, s) = ap₂ app (reads_agree f g h G M A m) (reads_kind_agree f g h G S (instantiate_kind A M K) s)
  reads_kind_agree f g h G (app M S) star s = absurd s

  pub types_agree : (f g : ℕ → Option (ℕ × ℕ)) → Agree f g → (G : List LfType) (A : LfType) → IsType Σ G A → read_type f A ≡ read_type g A
  types_agree f g h G (pi A B) (a, b) = ap₂ pi (types_agree f g h G A a) (types_agree (λ c. weaken_read (f c)) (λ c. weaken_read (g c)) (λ c X e. ap weaken_read (h c X e)) (A ∷ G) B b)
  types_agree f g h G (atom a S) (K, e, s) = ap (atom a) (reads_kind_agree f g h G S K s)

-- readings over more variables
no_shift : (y : Option (ℕ × ℕ)) → y ≡ rename_read (shift_by 0) y
no_shift None = refl
no_shift (Some (n, v)) = ap (λ i. Some (n, i)) (none v)
  where
    none : (v : ℕ) → v ≡ v + 0
    none v = omega arith

one_shift : (l : ℕ) (y : Option (ℕ × ℕ)) → rename_read suc (rename_read (shift_by l) y) ≡ rename_read (shift_by (suc l)) y
one_shift l None = refl
one_shift l (Some (n, v)) = ap (λ i. Some (n, i)) (next v l)
  where
    next : (v l : ℕ) → suc (v + l) ≡ v + suc l
    next v l = omega arith

pub reading_shift : (first : ℕ) (Bs : List Block) (θ : ℕ → ℕ → Image) (X O : List LfType) (c : ℕ) → entry_reading first Bs θ (length (onto O X)) c ≡ rename_read (shift_by (length O)) (entry_reading first Bs θ (length X) c)
reading_shift first Bs θ X [] c = no_shift (entry_reading first Bs θ (length X) c)
reading_shift first Bs θ X (A ∷ O) c = reading_next first Bs θ (length (onto O X)) c ∙ ap (rename_read suc) (reading_shift first Bs θ X O c) ∙ one_shift (length O) (entry_reading first Bs θ (length X) c)

pub as_many : (bs : List BlockVariable) → length (blocks_of bs) ≡ length bs
as_many [] = refl
as_many (b ∷ bs) = ap suc (as_many bs)

pub new_blocks_are : (B : Block) (C : NumberedCase) → blocks_of (with_new_block B C).blocks ≡ blocks_of C.blocks ++ B ∷ []
new_blocks_are B C = blocks_end (rename_blocks (shift_by (length B.some)) C.blocks) (record { block = B; terms = local_arguments B.some }) ∙ ap (λ Ds. Ds ++ B ∷ []) (blocks_renamed (shift_by (length B.some)) C.blocks)

module _ (Σ Σ' : Signature) (S : ℕ → Bool) (x : Extends S Σ Σ') (W : List Block) (typed : AreTypedBlocks Σ W) (first : ℕ) (free : IsFreeFrom Σ first) (C : NumberedCase) (tv : AreTypedVariables Σ first W C) {G : List LfType} (w : World Σ' W S G) (θ : ℕ → ℕ → Image) (σ : ℕ → Image) (i : IsNumberedInstance w first C θ σ) (B : Block) (member : Member B W) (φ : ℕ → Image) (inst : InstanceIn w B φ) where
  abbrev Bs : List Block
  Bs = blocks_of C.blocks

  abbrev X : List LfType
  X = C.variables

  abbrev Y : List LfType
  Y = onto B.some C.variables

  abbrev s : ℕ → Image
  s = behind_entries B.entries φ

  abbrev ρ : ℕ → Image
  ρ = front_long B.some (behind_entries B.entries φ) σ

  abbrev Bs₂ : List Block
  Bs₂ = blocks_of (rename_blocks (shift_by (length B.some)) C.blocks ++ record { block = B; terms = local_arguments B.some } ∷ [])

  abbrev Σ₁ : Signature
  Σ₁ = with_entries Σ first (blocks_of C.blocks)

  abbrev θ₂ : ℕ → ℕ → Image
  θ₂ = with_instance (length C.blocks) φ θ

  abbrev f : ℕ → ℕ → Option (ℕ × ℕ)
  f = entry_reading first (blocks_of C.blocks) θ

  abbrev f₂ : ℕ → ℕ → Option (ℕ × ℕ)
  f₂ = entry_reading first (blocks_of (rename_blocks (shift_by (length B.some)) C.blocks ++ record { block = B; terms = local_arguments B.some } ∷ [])) (with_instance (length C.blocks) φ θ)

  blocks_are : Bs₂ ≡ Bs ++ B ∷ []
  blocks_are = new_blocks_are B C

  -- the old ones keep their instances
  old : (j : ℕ) → suc j ≤ length C.blocks → θ₂ j ≡ θ j
  old j l = ap (λ b. cond b φ (θ j)) (not_same j (length C.blocks) (λ e. omega (arith, e, l)))

  last : (j : ℕ) → j ≡ length C.blocks → θ₂ j ≡ φ
  last j e = ap (λ b. cond b φ (θ j)) (ap (same_number j) (sym e) ∙ number_itself j)

  pub agree : (m c : ℕ) (A : LfType) → Σ₁.types c ≡ Some A → f₂ m c ≡ f m c
  agree m c A e = ap (λ Ds. read_entry θ₂ m (entry_constant zero first Ds c)) blocks_are ∙ at (else_cases (Σ.types c) (entry_type (entry_constant zero first Bs c)) A e)
    where
      entry_at : (y : Option EntryConstant) → entry_constant zero first Bs c ≡ y → entry_type y ≡ Some A → read_entry θ₂ m (entry_constant zero first (Bs ++ B ∷ []) c) ≡ f m c
      entry_at None q r = absurd cc
      entry_at (Some e) q r =
          let (j, p, l) = number_in zero first Bs c e q in
          let n = as_many C.blocks in
          ap (read_entry θ₂ m) (behind_kept zero first Bs (B ∷ []) c e q) ∙ ap (λ ψ. Some (length e.block.some, variable_past m (ψ e.place))) (old e.number (omega (arith, p, l, n))) ∙ sym (ap (read_entry θ m) q)

      at : (Σ.types c ≡ Some A) ⊎ (entry_type (entry_constant zero first Bs c) ≡ Some A) → read_entry θ₂ m (entry_constant zero first (Bs ++ B ∷ []) c) ≡ f m c
      at (inl q) = ap (read_entry θ₂ m) (old_is_none Σ first free (Bs ++ B ∷ []) c A q) ∙ sym (ap (read_entry θ m) (old_is_none Σ first free Bs c A q))
      at (inr q) = entry_at (entry_constant zero first Bs c) refl q

  old_unread : (m c : ℕ) → IsOld Σ c → f₂ m c ≡ None
  old_unread m c (A, e) = ap (read_entry θ₂ m) (old_is_none Σ first free Bs₂ c A e)

  -- values
  old_values : (Z : List LfType) (τ : ℕ → Image) → IsContext Σ₁ Z → AreGroundValues Σ' G f Z τ → AreGroundValues Σ' G f₂ Z τ
  old_values [] τ c e = e
  old_values (A ∷ Z) τ (c, t) (N, υ, v, n, e) = (N, υ, old_values Z υ c v, subst (λ Y. HasType Σ' G N (substitute_type reduce υ Y)) (sym (types_agree Σ₁ (f₂ (length Z)) (f (length Z)) (agree (length Z)) Z A t)) n, e)

  front_values : (O : List LfType) (r : ℕ → Image) → IsContext Σ O → IsGroundInstance w (items_onto (free_variables O) []) (front_long O r σ) → AreGroundValues Σ' G f₂ (onto O X) (front_long O r σ)
  front_values [] r c g = old_values X σ tv.variables i.values
  front_values (A ∷ O) r (c, t) (N, τ, g, n, e) =
      let q : τ ≡ front_long O (λ j. r (suc j)) σ = ap (λ z j. z (suc j)) (sym e) in
      let a : read_type (f₂ (length (onto O X))) A ≡ A = none_read_type (IsOld Σ) (f₂ (length (onto O X))) A (old_unread (length (onto O X))) (type_only Σ O A t) in
      (N, front_long O (λ j. r (suc j)) σ, front_values O (λ j. r (suc j)) c (subst (IsGroundInstance w (items_onto (free_variables O) [])) q g), subst (λ Z. HasType Σ' G N (substitute_type reduce (front_long O (λ j. r (suc j)) σ) Z)) (sym a) (subst (λ z. HasType Σ' G N (substitute_type reduce z A)) q n), e ∙ ap (in_front (put (skeleton A) N)) q)

  typed' : AreTypedBlocks Σ' W
  typed' D m = extension_keeps_contexts S Σ Σ' x (onto D.entries D.some) (typed D m)

  some_context : IsContext Σ B.some
  some_context = outer_context Σ B.entries B.some (typed B member)

  ground : IsGroundInstance w (items_onto (free_variables B.some) []) ρ
  ground = (some_on Σ' x.ok W typed' w B.some s (extension_keeps_contexts S Σ Σ' x B.some some_context) (some_values Σ' G B.entries B.some φ (λ j Z h. (instance_typed Σ' x.ok w B φ inst).typed.typed j Z h refl)) [] σ tt).0

  values : AreGroundValues Σ' G f₂ Y ρ
  values = front_values B.some s some_context ground

  -- instances
  image_agrees : (y : Image) (Z : LfType) → ImageHasType Σ₁ X y Z → read_image (f₂ (length X)) y ≡ read_image (f (length X)) y
  image_agrees (keep j) Z g = refl
  image_agrees (put a N) Z (e, n) = ap (put a) (reads_agree Σ₁ (f₂ (length X)) (f (length X)) (agree (length X)) X N Z n)

  terms_agree : (U : Spine) (O : List LfType) (υ : ℕ → Image) → IsTypedSubstitution Σ₁ O X υ → U ≡ some_spine O υ → read_spine (f₂ (length X)) U ≡ read_spine (f (length X)) U
  terms_agree U O υ u q = ap (read_spine (f₂ (length X))) q ∙ read_some (f₂ (length X)) O υ ∙ some_equal O (λ j. read_image (f₂ (length X)) (υ j)) (λ j. read_image (f (length X)) (υ j)) (λ j A g. ap (as_term (skeleton A)) (image_agrees (υ j) (substitute_type reduce υ A) (u j A g))) ∙ sym (read_some (f (length X)) O υ) ∙ ap (read_spine (f (length X))) (sym q)

  old_terms : (U : Spine) (O : List LfType) (υ : ℕ → Image) → IsTypedSubstitution Σ₁ O X υ → U ≡ some_spine O υ → substitute_spine reduce ρ (read_spine (f₂ (length Y)) (rename_spine (shift_by (length B.some)) U)) ≡ substitute_spine reduce σ (read_spine (f (length X)) U)
  old_terms U O υ u q =
      ap (substitute_spine reduce ρ) (read_spine_renamed (f₂ (length X)) (f₂ (length Y)) (shift_by (length B.some)) U (reading_shift first Bs₂ θ₂ X B.some))
      ∙ substitute_renamed_spine reduce ρ (shift_by (length B.some)) (read_spine (f₂ (length X)) U)
      ∙ ap (λ τ. substitute_spine reduce τ (read_spine (f₂ (length X)) U)) (fun_ext (front_past B.some s σ))
      ∙ ap (substitute_spine reduce σ) (terms_agree U O υ u q)

  new_terms : some_spine B.some s ≡ substitute_spine reduce ρ (read_spine (f₂ (length Y)) (local_arguments B.some))
  new_terms =
      some_equal B.some s ρ (front_term B.some s σ)
      ∙ sym (ap (λ U. substitute_spine reduce ρ (read_spine (f₂ (length Y)) U)) (locals_are B.some) ∙ ap (substitute_spine reduce ρ) (read_some (f₂ (length Y)) B.some keep) ∙ put_some (constant_skeletons Σ') B.some (context_skeletons (onto Y G)) (context_skeletons G) keep ρ (λ j t g. inside_onto Y G j t (inside_onto B.some X j t g)) (values_fit Σ' x.ok G first Bs₂ θ₂ Y ρ values))

  abbrev Stands : Block → Spine → (ℕ → Image) → Type 0
  Stands D U ψ = InstanceIn w D ψ × (some_spine D.some (behind_entries D.entries ψ) ≡ substitute_spine reduce ρ (read_spine (f₂ (length Y)) U))

  next_sum : (j n k : ℕ) → j + suc n ≡ k → suc j + n ≡ k
  next_sum j n k e = omega (arith, e)

  within : (j n k : ℕ) → j + suc n ≡ k → suc j ≤ k
  within j n k e = omega (arith, e)

  left_zero : (n : ℕ) → zero + n ≡ n
  left_zero n = omega arith

  no_more : (j k : ℕ) → j + 0 ≡ k → j ≡ k
  no_more j k e = omega (arith, e)

  all_instances : (j : ℕ) (ds : List BlockVariable) → j + length ds ≡ length C.blocks → AreInstances w (f (length X)) σ θ j ds → AreTypedBlockVariables Σ₁ W X (own_terms first C.blocks) ds → AreInstances w (f₂ (length Y)) ρ θ₂ j (rename_blocks (shift_by (length B.some)) ds ++ record { block = B; terms = local_arguments B.some } ∷ [])
  all_instances j [] q h t = let (a, e) = subst (Stands B (local_arguments B.some)) (sym (last j (no_more j (length C.blocks) q))) (inst, new_terms) in (a, e, tt)
  all_instances j (d ∷ ds) q (a, e, h) (m, (υ, u, p), o, t) =
      let (b, r) = subst (Stands d.block (rename_spine (shift_by (length B.some)) d.terms)) (sym (old j (within j (length ds) (length C.blocks) q))) (a, e ∙ sym (old_terms d.terms d.block.some υ u p)) in
      (b, r, all_instances (suc j) ds (next_sum j (length ds) (length C.blocks) q) h t)

  goes_on : IsNumberedInstance w first (with_new_block B C) θ₂ ρ
  goes_on = record { values = values; instances = all_instances zero C.blocks (left_zero (length C.blocks)) i.instances tv.blocks }

pub new_instance_is_of_new_block : NewInstanceIsOfNewBlock
new_instance_is_of_new_block Σ Σ' ok S x W typed first free C tv G w θ σ i B member φ inst = (front_long B.some (behind_entries B.entries φ) σ, goes_on Σ Σ' S x W typed first free C tv w θ σ i B member φ inst, front_past B.some (behind_entries B.entries φ) σ)
