-- The case that a head is offered to, with variables for the head's arguments in front, is typed: it is that case with
-- its variables put in, moved behind these.
use Rattle.std.proofs.Common.{◌≡◌, ℕ, zero, List, [], ◌∷◌, ◌+◌, length, Option, Some, None, refl, sym, ap, ap₂, ◌∙◌, subst}
use Rattle.std.specs.Prelude.{Bool}
use Rattle.lf.specs.Syntax.{Head, Term, Spine, LfType, Kind, rename_type}
use Rattle.lf.specs.Substitution.{Image, keep, reduce}
use Rattle.lf.specs.SkeletonTyping.{SubstitutionBySkeletons}
use Rattle.lf.specs.Skeletons.{constant_skeletons, context_skeletons}
use Rattle.lf.specs.AtOnce.{shift_by, lift_renaming_by}
use Rattle.lf.specs.Typing.{Signature, TypeAt, IsTypedSubstitution, IsContext, IsSignature}
use Rattle.lf.specs.Variables.{target, onto}
use Rattle.lf.specs.Subordination.{Block, Member, AreTypedBlocks}
use Rattle.lf.specs.Worlds.{lift_over, instance}
use Rattle.lf.proofs.Substitution.{typed_substitution_by_skeletons}
use Rattle.lf.proofs.TypeLaws.{substitution_as_renaming_spine, substitution_as_renaming_type}
use Rattle.lf_cases.specs.Case.{items_context}
use Rattle.lf_cases.specs.Missing.{put_in}
use Rattle.lf_cases.specs.OutputGoal.{free_variables}
use Rattle.lf_cases.specs.Reached.{arguments_count, head_masks, taken, split_items}
use Rattle.lf_cases.proofs.OutputItems.{lifted}
use Rattle.lf_coverage.specs.Heads.{HaveSkeletons}
use Rattle.lf_coverage.proofs.Forms.{far_type, no_shift_type}
use Rattle.lf_coverage.proofs.ItemsContext.{outer_context}
use Rattle.lf_coverage.proofs.SolvedCase.{behind_types, free_context_is}
use Rattle.lf_numbered.specs.EntryConstants.{with_entries, IsFreeFrom}
use Rattle.lf_numbered.specs.EntryPatternsSplits.{IsPutIn}
use Rattle.lf_numbered.specs.LeftUnifiers.{OverHeadIsTyped}
use Rattle.lf_numbered.specs.NumberedCallsOutside.{over_head}
use Rattle.lf_numbered.specs.NumberedCase.{NumberedCase, AreTypedBlockVariables}
use Rattle.lf_numbered.specs.NumberedSplits.{of_case, of_new_block}
use Rattle.lf_numbered.specs.OwnStores.{IsNumberedOffer}
use Rattle.lf_numbered.specs.OwnTerms.{BlockVariable, blocks_of, own_terms, TypeOnOwnTerms, put_in_blocks, rename_blocks}
use Rattle.lf_numbered.specs.TypedNumbered.{IsTypedNumberedCase}
use Rattle.lf_numbered.proofs.EntryPatternsSplits.{all_renamed, lifted_keep}
use Rattle.lf_numbered.proofs.EntrySignature.{grown_contexts, entries_kept}
use Rattle.lf_numbered.proofs.NumberedBesideStays.{local_moved}
use Rattle.lf_numbered.proofs.OwnStoresCase.{all_put, blocks_put, local_put, local_typed, put_skeletons}
use Rattle.lf_numbered.proofs.OwnStoresEntry.{ok₁}
use Rattle.lf_numbered.proofs.OwnStoresHeads.{HeadOwn, head_own}
use Rattle.lf_numbered.proofs.OwnStoresNewBlock.{new_block_stays_typed}
use Rattle.lf_numbered.proofs.OwnStoresOffers.{Offered, binders_own, offered}
use Rattle.lf_numbered.proofs.OwnStoresStart.{numbered_context}
use Rattle.lf_numbered.proofs.OwnTerms.{put_in_keeps, put_in_own, rename_own, substitute_own}

pub blocks_moved : (k : ℕ) (bs : List BlockVariable) → rename_blocks (shift_by k) bs ≡ put_in_blocks (λ i. keep (i + k)) bs
blocks_moved k [] = refl
blocks_moved k (b ∷ bs) = ap₂ (λ U cs. record { block = b.block; terms = U } ∷ cs) (sym (substitution_as_renaming_spine reduce (shift_by k) b.terms)) (blocks_moved k bs)

own_moved : (k : ℕ) (u : Option Spine) → substitute_own (λ i. keep (i + k)) u ≡ rename_own (shift_by k) u
own_moved k None = refl
own_moved k (Some U) = ap Some (substitution_as_renaming_spine reduce (shift_by k) U)

module _ (Σ : Signature) (ok : IsSignature Σ) (W : List Block) (typed : AreTypedBlocks Σ W) (first : ℕ) (free : IsFreeFrom Σ first) (below : ℕ → ℕ → Bool) (E : NumberedCase) (te : IsTypedNumberedCase Σ first W E) (x : ℕ) (X : LfType) (at : TypeAt E.variables x X) (h : Head) (U : Spine) (A : LfType) (offer : IsNumberedOffer Σ first E X h U A) (K : Kind) (of_family : Σ.kinds (target X) ≡ Some K) where
  abbrev Σ₁ : Signature
  Σ₁ = with_entries Σ first (blocks_of E.blocks)

  abbrev V : List LfType
  V = E.variables

  abbrev k : ℕ
  k = arguments_count A

  abbrev Cc : List LfType
  Cc = items_context (split_items below X (free_variables E.variables) zero A)

  abbrev υ : ℕ → Image
  υ i = keep (i + arguments_count A)

  abbrev over : NumberedCase
  over = over_head below (record { case = E; variable = x; type = X; head = h; terms = U; left = A })

  abbrev oE : ℕ → Option Spine
  oE = own_terms first E.blocks

  abbrev o : ℕ → Option Spine
  o = own_terms first (put_in_blocks (λ i. keep (i + arguments_count A)) E.blocks)

  pub is_put_in : IsPutIn E (over_head below (record { case = E; variable = x; type = X; head = h; terms = U; left = A })) (λ i. keep (i + arguments_count A))
  is_put_in = record {
    blocks = blocks_moved k E.blocks;
    given = sym (all_renamed 0 (shift_by k) υ (λ i. refl) E.given);
    local = local_moved (shift_by k) E.local;
    family = refl;
    arguments = sym (all_renamed 0 (lift_renaming_by (length E.local) (shift_by k)) (lift_over E.local υ) (lifted_keep E.local (shift_by k)) E.arguments);
  }

  okE : IsSignature Σ₁
  okE = ok₁ Σ ok W typed first free E te.variables

  pub context : IsContext Σ₁ Cc
  context = numbered_context Σ ok W typed first free below E te.variables x X at h U A offer K of_family

  pub behind : (i : ℕ) (Y : LfType) → TypeAt V i Y → TypeAt Cc (i + k) (rename_type (shift_by k) Y)
  behind i Y g = behind_types (head_masks below (taken (rename_type (shift_by zero) X)) k A) (taken (rename_type (shift_by zero) X)) k A (free_variables V) refl i Y (subst (λ L. TypeAt L i Y) (sym (free_context_is V)) g)

  pub values_typed : IsTypedSubstitution Σ₁ V Cc υ
  values_typed i Y g = subst (TypeAt Cc (i + k)) (sym (substitution_as_renaming_type reduce (shift_by k) Y)) (behind i Y g)

  put_own : (c : ℕ) → o c ≡ substitute_own υ (oE c)
  put_own c = put_in_own first E.blocks υ c

  known : Offered Σ ok W typed first free E te.variables x X at h U A
  known = offered Σ ok W typed first free E te.variables x X at h U A offer

  own_x : TypeOnOwnTerms oE (rename_type (shift_by zero) X)
  own_x = subst (TypeOnOwnTerms oE) (sym (no_shift_type X)) (te.variables.on_own_terms x X at)

  made : HeadOwn below k (taken (rename_type (shift_by zero) X)) A (free_variables V) oE
  made = head_own below k (taken (rename_type (shift_by zero) X)) A (free_variables V) oE (λ i Y g. te.variables.on_own_terms i Y (subst (λ L. TypeAt L i Y) (free_context_is V) g)) (binders_own oE [] (rename_type (shift_by zero) X) tt own_x).0 known.type_own refl

  types_own : (i : ℕ) (Y : LfType) → TypeAt Cc i Y → TypeOnOwnTerms o Y
  types_own i Y g = subst (λ f. TypeOnOwnTerms f Y) (mathlib.Core.Path.fun_ext (λ c. sym (put_own c ∙ own_moved k (oE c)))) (made.items i Y g)

  blocks_same : blocks_of (put_in_blocks υ E.blocks) ≡ blocks_of E.blocks
  blocks_same = put_in_keeps υ E.blocks

  some_context : (B : Block) → Member B W → IsContext Σ₁ B.some
  some_context B m = grown_contexts Σ Σ₁ (entries_kept Σ first (blocks_of E.blocks)) (λ a L e. e) B.some (outer_context Σ B.entries B.some (typed B m))

  local : IsContext Σ₁ (onto (instance E.local υ) Cc) × IsTypedSubstitution Σ₁ (onto E.local V) (onto (instance E.local υ) Cc) (lift_over E.local υ)
  local = local_typed Σ₁ okE V Cc υ te.variables.variables context values_typed E.local te.local

  pub shown : SubstitutionBySkeletons (constant_skeletons Σ₁) (context_skeletons V) (context_skeletons Cc) υ
  shown = typed_substitution_by_skeletons Σ₁ okE V Cc υ values_typed

  put_typed : IsTypedNumberedCase Σ first W (record { blocks = put_in_blocks υ E.blocks; variables = Cc; given = put_in υ E.given; local = instance E.local υ; family = E.family; arguments = put_in (lift_over E.local υ) E.arguments })
  put_typed = record {
    variables = record {
      variables = subst (λ Bs. IsContext (with_entries Σ first Bs) Cc) (sym blocks_same) context;
      on_own_terms = types_own;
      blocks = subst (λ Bs. AreTypedBlockVariables (with_entries Σ first Bs) W Cc o (put_in_blocks υ E.blocks)) (sym blocks_same) (blocks_put Σ₁ okE W V Cc υ te.variables.variables context values_typed oE o put_own (λ i. tt) some_context E.blocks te.variables.blocks);
    };
    local = subst (λ Bs. IsContext (with_entries Σ first Bs) (onto (instance E.local υ) Cc)) (sym blocks_same) local.0;
    local_on_own = local_put υ oE o put_own (λ i. tt) E.local te.local_on_own;
    given = subst (λ Bs. HaveSkeletons (constant_skeletons (with_entries Σ first Bs)) (context_skeletons Cc) (put_in υ E.given)) (sym blocks_same) (put_skeletons Σ₁ (context_skeletons V) (context_skeletons Cc) υ shown E.given te.given);
    given_on_own = all_put υ oE o put_own (λ i. tt) [] E.given te.given_on_own;
    arguments = subst (λ Bs. HaveSkeletons (constant_skeletons (with_entries Σ first Bs)) (context_skeletons (onto (instance E.local υ) Cc)) (put_in (lift_over E.local υ) E.arguments)) (sym blocks_same) (put_skeletons Σ₁ (context_skeletons (onto E.local V)) (context_skeletons (onto (instance E.local υ) Cc)) (lift_over E.local υ) (lifted Σ₁ E.local V Cc υ shown) E.arguments te.arguments);
    arguments_on_own = all_put υ oE o put_own (λ i. tt) E.local E.arguments te.arguments_on_own;
  }

  pub over_typed : IsTypedNumberedCase Σ first W (over_head below (record { case = E; variable = x; type = X; head = h; terms = U; left = A }))
  over_typed = subst (IsTypedNumberedCase Σ first W) (same (rename_blocks (shift_by k) E.blocks) (put_in_blocks υ E.blocks) over.given (put_in υ E.given) over.local (instance E.local υ) over.arguments (put_in (lift_over E.local υ) E.arguments) is_put_in.blocks is_put_in.given is_put_in.local is_put_in.arguments) put_typed
    where
      same : (bs cs : List BlockVariable) (g g' : List (Option Term)) (L L' : List LfType) (Ms Ns : List (Option Term)) → bs ≡ cs → g ≡ g' → L ≡ L' → Ms ≡ Ns → ◌≡◌ {A = NumberedCase} (record { blocks = cs; variables = Cc; given = g'; local = L'; family = E.family; arguments = Ns }) (record { blocks = bs; variables = Cc; given = g; local = L; family = E.family; arguments = Ms })
      same bs cs g g' L L' Ms Ns b p l m = cc

pub over_head_is_typed : OverHeadIsTyped
over_head_is_typed Σ ok W typed first free below C tc x X at o (of_case h U A f) K q = over_typed Σ ok W typed first free below C tc x X at h U A f K q
over_head_is_typed Σ ok W typed first free below C tc x X at o (of_new_block B c U A m n f) K q = over_typed Σ ok W typed first free below _ (new_block_stays_typed Σ ok W typed first free C tc B m) (x + length B.some) (rename_type (shift_by (length B.some)) X) (far_type B.some C.variables x X at) _ U A f K q
