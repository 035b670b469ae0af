-- The store of a case and a pattern that is put beside it stands on own terms, as the answer makes them: also where block variables are one.
use Rattle.std.proofs.Common.{◌≡◌, ℕ, zero, suc, List, [], ◌∷◌, length, refl, sym, ap, ◌∙◌, subst}
use Rattle.std.specs.Prelude.{cond, Bool, true, false, Option, Some, None}
use Rattle.lf.specs.Syntax.{Term, Spine, nil, app, LfType, Kind, kind_pi, star, Skeleton, skeleton, variable, rename, rename_spine}
use Rattle.lf.specs.Eta.{eta_long}
use Rattle.lf.specs.Substitution.{Image}
use Rattle.lf.specs.AtOnce.{shift_by, lift_renaming_by}
use Rattle.lf.specs.Typing.{Signature, TypeAt, IsSignature, instantiate_kind}
use Rattle.lf.specs.Variables.{onto, same_number, binders, target_arguments}
use Rattle.lf.specs.Subordination.{Block, AreTypedBlocks}
use Rattle.lf.specs.Worlds.{instance}
use Rattle.lf_unification.specs.OpenTyping.{skeletons_of, under_locals}
use Rattle.lf_unification.specs.Solving.{Solved}
use Rattle.lf_unification.specs.Unifiers.{Store}
use Rattle.lf_cases.specs.Pattern.{Pattern}
use Rattle.lf_coverage.specs.Leaf.{IsTypedPattern}
use Rattle.lf_coverage.specs.MeetStore.{open_arguments, place_equations, one_given, given_equations}
use Rattle.lf_coverage.specs.SplitStore.{open_some, open_spine, open_term, open_type, open_locals, type_in}
use Rattle.lf_coverage.proofs.Meeting.{open_length}
use Rattle.lf_coverage.proofs.Parts.{none_some, some_same}
use Rattle.lf_coverage.proofs.StoreSolution.{found_type}
use Rattle.lf_numbered.specs.EntryConstants.{with_entries, IsFreeFrom}
use Rattle.lf_numbered.specs.EntryTerms.{IsTried}
use Rattle.lf_numbered.specs.EntryPatternsMatching.{placed_type}
use Rattle.lf_numbered.specs.NewBlock.{rename_all}
use Rattle.lf_numbered.specs.NumberedCallsStores.{Identifies, identified, identity_equations, move_blocks, some_kind, terms_equations}
use Rattle.lf_numbered.specs.NumberedCase.{NumberedCase}
use Rattle.lf_numbered.specs.NumberedInstance.{block_at, moved_constant, move, move_all, move_types}
use Rattle.lf_numbered.specs.OwnTerms.{BlockVariable, blocks_of, own_terms, rename_blocks, terms_at, AllOnOwnTerms, SpineOnOwnTerms}
use Rattle.lf_numbered.specs.TypedNumbered.{IsTypedNumberedCase, own_over}
use Rattle.lf_numbered.proofs.EntryPatternsNear.{binders_count}
use Rattle.lf_numbered.proofs.EntryPatternsTyped.{typed_at}
use Rattle.lf_numbered.proofs.EntryTermsOwn.{quantifiers_put}
use Rattle.lf_numbered.proofs.MeetsAnswersForm.{X, T, n, own_length, placed_store, type_moved, type_own, variables_moved, variables_own}
use Rattle.lf_numbered.proofs.MeetsAnswersOwn.{move_own, filled_over_moved, opened_moved, spine_opened_moved, type_opened_moved}
use Rattle.lf_numbered.proofs.MeetsAnswersSame.{found, own_after, own_filled}
use Rattle.lf_numbered.proofs.MeetsTupleForms.{block_from}
use Rattle.lf_numbered.proofs.MovedConstants.{length_moved, arguments_moved, type_from}
use Rattle.lf_numbered.proofs.OwnLong.{variable_own as own_long}
use Rattle.lf_numbered.proofs.OwnStoresHeads.{over_renamed}
use Rattle.lf_numbered.proofs.OwnStoresOffers.{binders_own}
use Rattle.lf_numbered.proofs.OwnStoresOpened.{filled_own, equations_owned, own_over_shifts}
use Rattle.lf_numbered.proofs.OwnStoresSteps.{SidesOwned, StoreOwned, sides_both}
use Rattle.lf_numbered.proofs.OwnStoresTerms.{Owned, SpineOwned, TypeOwned}
use Rattle.lf_numbered.proofs.OwnTerms.{own_renamed, rename_own, spine_renamed}
use Rattle.lf_numbered.proofs.WritingGap.{long_moved}
use Rattle.lf_numbered.proofs.WritingMove.{move_renamed, move_spine_renamed}
use mathlib.Core.Path.{fun_ext}

-- a block variable's terms, found by its number
block_there : (bs : List BlockVariable) (k : ℕ) (U : Spine) → terms_at bs k ≡ Some U → (b : BlockVariable) × (block_at bs k ≡ Some b) × (b.terms ≡ U)
block_there [] k U e = absurd (none_some e)
block_there (b ∷ bs) zero U e = (b, refl, some_same e)
block_there (b ∷ bs) (suc k) U e = block_there bs k U e

module _ (μ : ℕ → Skeleton) (o : ℕ → Option Spine) (β : ℕ → Option Term) where
  abbrev AllOwned : List BlockVariable → Type 0
  AllOwned bs = (k : ℕ) (b : BlockVariable) → block_at bs k ≡ Some b → SpineOwned μ o β (open_spine zero b.terms)

  terms_owned : (b : BlockVariable) (all : List BlockVariable) (k : ℕ) (u : Option Spine) → terms_at all k ≡ u → SpineOwned μ o β (open_spine zero b.terms) → AllOwned all → SidesOwned μ o β (terms_equations b u)
  terms_owned b all k None e h a = tt
  terms_owned b all k (Some U) e h a = let (c, at, q) = block_there all k U e in equations_owned μ [] o β (some_kind b.block.some star) (open_spine zero b.terms) (open_spine zero U) h (subst (λ V. SpineOwned μ o β (open_spine zero V)) q (a k c at))

  identity_owned : (π : ℕ → ℕ) (all : List BlockVariable) → AllOwned all → (m : ℕ) (cs : List BlockVariable) → AllOwned cs → SidesOwned μ o β (identity_equations π all m cs)
  identity_owned π all a m [] h = tt
  identity_owned π all a m (b ∷ cs) h = sides_both μ o β (cond (same_number (π m) m) [] (terms_equations b (terms_at all (π m)))) (identity_equations π all (suc m) cs) (by (same_number (π m) m)) (identity_owned π all a (suc m) cs (λ k c e. h (suc k) c e))
    where
      by : (c : Bool) → SidesOwned μ o β (cond c [] (terms_equations b (terms_at all (π m))))
      by true = tt
      by false = terms_owned b all (π m) (terms_at all (π m)) refl (h zero b refl) a

module _ (Σ : Signature) (ok : IsSignature Σ) (W : List Block) (typed : AreTypedBlocks Σ W) (first : ℕ) (free : IsFreeFrom Σ first) (C : NumberedCase) (tc : IsTypedNumberedCase Σ first W C) (p : Pattern) (tp : IsTypedPattern Σ p) (π : ℕ → ℕ) (ids : Identifies C π) (φ₀ : ℕ → Image) (tried : IsTried first C p.origin false φ₀) (K : Kind) (finish : Store) (s : Solved (with_entries Σ first (blocks_of C.blocks)) (placed_store π (identified first π C) K (n Σ ok W typed first free C tc p tp π ids φ₀ tried) (T Σ ok W typed first free C tc p tp π ids φ₀ tried) (X Σ ok W typed first free C tc p tp π ids φ₀ tried)) finish) (size : length C.local ≡ length (binders [] p.type)) where
  abbrev γ : ℕ → ℕ
  γ = moved_constant first (blocks_of C.blocks) (blocks_of C.blocks) π

  abbrev k : ℕ
  k = n Σ ok W typed first free C tc p tp π ids φ₀ tried

  abbrev Y : List LfType
  Y = X Σ ok W typed first free C tc p tp π ids φ₀ tried

  abbrev T₁ : LfType
  T₁ = T Σ ok W typed first free C tc p tp π ids φ₀ tried

  abbrev D₀ : List LfType
  D₀ = instance (binders [] p.clause.type) φ₀

  abbrev T₀ : LfType
  T₀ = placed_type p φ₀

  abbrev μ : ℕ → Skeleton
  μ = skeletons_of finish.metavariables

  abbrev oC : ℕ → Option Spine
  oC = own_terms first C.blocks

  abbrev oQ : ℕ → Option Spine
  oQ = own_over (instance (binders [] p.clause.type) φ₀) (own_terms first C.blocks)

  abbrev o : ℕ → Option Spine
  o = own_after Σ ok W typed first free C tc p tp π ids φ₀ tried K finish s

  abbrev α : ℕ → Option Term
  α = found Σ ok W typed first free C tc p tp π ids φ₀ tried K finish s

  filled : (c : ℕ) → o (γ c) ≡ filled_own μ α zero (move_own γ (oQ c))
  filled = own_filled Σ ok W typed first free C tc p tp π ids φ₀ tried K finish s

  shifted : (c : ℕ) → oQ c ≡ rename_own (shift_by k) (oC c)
  shifted c = own_over_shifts D₀ oC c ∙ ap (λ m. rename_own (shift_by m) (oC c)) (own_length Σ ok W typed first free C tc p tp π ids φ₀ tried)

  -- the types
  type_owned : (m : ℕ) (A : LfType) (y : Option LfType) → type_in Y m ≡ y → open_some y ≡ Some A → TypeOwned μ o α A
  type_owned m A None q e = absurd (none_some e)
  type_owned m A (Some B) q e =
      let (B₀, g, r) = type_from γ (onto D₀ C.variables) m B (subst (λ Z. TypeAt Z m B) (variables_moved Σ ok W typed first free C tc p tp π ids φ₀ tried) (found_type Y m B q)) in
      subst (TypeOwned μ o α) (ap (open_type zero) (sym r) ∙ some_same e) (type_opened_moved μ γ zero oQ o α B₀ filled (variables_own Σ ok W typed first free C tc p tp π ids φ₀ tried m B₀ g))

  -- the terms of block variables
  blocks_owned : AllOwned μ o α (rename_blocks (shift_by k) (move_blocks γ C.blocks))
  blocks_owned j d e =
      let (b, at, q) = block_from (shift_by k) γ C.blocks j d e in
      let (m, t, own) = typed_at (with_entries Σ first (blocks_of C.blocks)) W C.variables oC C.blocks tc.variables.blocks j b at in
      subst (λ U. SpineOwned μ o α (open_spine zero U)) (move_spine_renamed γ (shift_by k) b.terms ∙ sym q) (spine_opened_moved μ γ zero oQ o α (rename_spine (shift_by k) b.terms) filled (spine_renamed oC oQ (shift_by k) b.terms shifted own))

  -- what is given
  long_owned : (a : Skeleton) (i : ℕ) → Owned μ o α (open_term zero (eta_long a (variable i)))
  long_owned a i = subst (λ M. Owned μ o α (open_term zero M)) (long_moved γ a i nil) (opened_moved μ γ zero oQ o α (eta_long a (variable i)) filled (own_long oQ a i nil tt))

  given_owned : (Ms : List (Option Term)) → AllOnOwnTerms oC Ms → (i : ℕ) → SidesOwned μ o α (given_equations Y i (rename_all (shift_by k) (move_all γ Ms)))
  given_owned [] h i = tt
  given_owned (None ∷ Ms) h i = by (type_in Y i) (given_owned Ms h (suc i))
    where
      by : (y : Option LfType) → SidesOwned μ o α (given_equations Y (suc i) (rename_all (shift_by k) (move_all γ Ms))) → SidesOwned μ o α (one_given i y None (given_equations Y (suc i) (rename_all (shift_by k) (move_all γ Ms))))
      by None rest = rest
      by (Some A) rest = rest
  given_owned (Some M ∷ Ms) (m, h) i = by (type_in Y i) (given_owned Ms h (suc i))
    where
      by : (y : Option LfType) → SidesOwned μ o α (given_equations Y (suc i) (rename_all (shift_by k) (move_all γ Ms))) → SidesOwned μ o α (one_given i y (Some (rename (shift_by k) (move γ M))) (given_equations Y (suc i) (rename_all (shift_by k) (move_all γ Ms))))
      by None rest = rest
      by (Some A) rest = ((long_owned (skeleton A) i, subst (λ N. Owned μ o α (open_term zero N)) (move_renamed γ (shift_by k) M) (opened_moved μ γ zero oQ o α (rename (shift_by k) M) filled (own_renamed oC oQ (shift_by k) M shifted m))), rest)

  -- the places
  abbrev D : List LfType
  D = binders [] T₁

  same_size : length D ≡ length C.local
  same_size = binders_count T₁ ∙ quantifiers_put _ p.type ∙ sym (binders_count p.type) ∙ sym size

  size₀ : length (binders [] T₀) ≡ length C.local
  size₀ = binders_count T₀ ∙ quantifiers_put _ p.type ∙ sym (binders_count p.type) ∙ sym size

  over_filled : (L : List LfType) → length D ≡ length L → (c : ℕ) → own_over (open_locals D) o (γ c) ≡ filled_own μ (under_locals (open_locals D) α) (length D) (move_own γ (own_over L oQ c))
  over_filled L l c = filled_over_moved μ γ (open_locals D) L (open_length D ∙ l) oQ o α filled c ∙ ap (λ m. filled_own μ (under_locals (open_locals D) α) m (move_own γ (own_over L oQ c))) (sym l)

  pattern_owned : SpineOwned μ (own_over (open_locals D) o) (under_locals (open_locals D) α) (open_spine (length D) (target_arguments T₁))
  pattern_owned =
      let own : SpineOnOwnTerms (own_over (binders [] T₀) oQ) (target_arguments T₀) = (binders_own oQ [] T₀ tt (type_own Σ ok W typed first free C tc p tp π ids φ₀ tried)).1 in
      subst (λ S. SpineOwned μ (own_over (open_locals D) o) (under_locals (open_locals D) α) (open_spine (length D) S)) (sym (ap target_arguments (type_moved Σ ok W typed first free C tc p tp π ids φ₀ tried) ∙ arguments_moved γ T₀)) (spine_opened_moved μ γ (length D) (own_over (binders [] T₀) oQ) (own_over (open_locals D) o) (under_locals (open_locals D) α) (target_arguments T₀) (over_filled (binders [] T₀) (same_size ∙ sym size₀)) own)

  over_shifted : (c : ℕ) → own_over C.local oQ c ≡ rename_own (lift_renaming_by (length C.local) (shift_by k)) (own_over C.local oC c)
  over_shifted c = ap (λ f. own_over C.local f c) (fun_ext shifted) ∙ over_renamed C.local (shift_by k) oC c

  places_owned : (Ms : List (Option Term)) (S : Spine) (L : Kind) → AllOnOwnTerms (own_over C.local oC) Ms → SpineOwned μ (own_over (open_locals D) o) (under_locals (open_locals D) α) S → SidesOwned μ o α (place_equations (open_locals D) (open_arguments (length D) (rename_all (lift_renaming_by (length C.local) (shift_by k)) (move_all γ Ms))) S L)
  places_owned [] S L h s = tt
  places_owned (Some M ∷ Ms) nil L h s = tt
  places_owned (None ∷ Ms) nil L h s = tt
  places_owned (Some M ∷ Ms) (app Q S) star h s = tt
  places_owned (None ∷ Ms) (app Q S) star h s = tt
  places_owned (None ∷ Ms) (app Q S) (kind_pi A L) h (q, s) = places_owned Ms S (instantiate_kind A Q L) h s
  places_owned (Some M ∷ Ms) (app Q S) (kind_pi A L) (m, h) (q, s) =
      let r : ℕ → ℕ = lift_renaming_by (length C.local) (shift_by k) in (
        (subst (λ N. Owned μ (own_over (open_locals D) o) (under_locals (open_locals D) α) (open_term (length D) N)) (move_renamed γ r M) (opened_moved μ γ (length D) (own_over C.local oQ) (own_over (open_locals D) o) (under_locals (open_locals D) α) (rename r M) (over_filled C.local same_size) (own_renamed (own_over C.local oC) (own_over C.local oQ) r M over_shifted m)), q),
        places_owned Ms S (instantiate_kind A Q L) h s,
      )

  -- The lemma
  pub owned : StoreOwned (skeletons_of finish.metavariables) (own_after Σ ok W typed first free C tc p tp π ids φ₀ tried K finish s) (found Σ ok W typed first free C tc p tp π ids φ₀ tried K finish s) (placed_store π (identified first π C) K (n Σ ok W typed first free C tc p tp π ids φ₀ tried) (T Σ ok W typed first free C tc p tp π ids φ₀ tried) (X Σ ok W typed first free C tc p tp π ids φ₀ tried))
  owned =
      let bs : List BlockVariable = rename_blocks (shift_by k) (move_blocks γ C.blocks) in
      let places : SidesOwned μ o α (place_equations (open_locals D) (open_arguments (length D) (rename_all (lift_renaming_by (length (move_types γ C.local)) (shift_by k)) (move_all γ C.arguments))) (open_spine (length D) (target_arguments T₁)) K) = subst (λ m. SidesOwned μ o α (place_equations (open_locals D) (open_arguments (length D) (rename_all (lift_renaming_by m (shift_by k)) (move_all γ C.arguments))) (open_spine (length D) (target_arguments T₁)) K)) (sym (length_moved γ C.local)) (places_owned C.arguments (open_spine (length D) (target_arguments T₁)) K tc.arguments_on_own pattern_owned) in
      record {
        bindings = λ b i. absurd i;
        sides = sides_both μ o α (identity_equations π bs zero bs) _ (identity_owned μ o α π bs blocks_owned zero bs blocks_owned) (sides_both μ o α (given_equations Y zero (rename_all (shift_by k) (move_all γ C.given))) _ (given_owned C.given tc.given_on_own zero) places);
        types = λ m A e. type_owned m A (type_in Y m) refl e;
      }
