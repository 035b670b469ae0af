-- What unification solves for a head is the case that the strategy's split gives: a most general typed instance makes the variable that head.
use Rattle.std.proofs.Common.{◌≡◌, ℕ, zero, ◌+◌, List, [], ◌∷◌, refl, sym, ap, ◌∙◌, subst}
use Rattle.std.specs.Prelude.{Bool}
use Rattle.lf.specs.Syntax.{Head, variable, Term, LfType, Kind, skeleton, rename_type}
use Rattle.lf.specs.Substitution.{Image, substitute, reduce, after}
use Rattle.lf.specs.SkeletonTyping.{SkeletonAt, TermSkeleton}
use Rattle.lf.specs.Skeletons.{constant_skeletons, context_skeletons}
use Rattle.lf.specs.AtOnce.{shift_by}
use Rattle.lf.specs.Eta.{eta_long}
use Rattle.lf.specs.Typing.{Signature, TypeAt, IsContext, IsSignature}
use Rattle.lf.specs.Subordination.{Block, AreTypedBlocks, SelfContained}
use Rattle.lf.specs.Worlds.{World}
use Rattle.lf.proofs.EtaTyping.{eta_long_has_type}
use Rattle.lf.proofs.ToSkeletons.{typed_has_skeleton, variable_has_skeleton}
use Rattle.lf.proofs.TypeLaws.{skeleton_renamed}
use Rattle.lf_unification.specs.Dependency.{free_context}
use Rattle.lf_unification.specs.OpenTyping.{skeletons_of}
use Rattle.lf_unification.specs.Solving.{Solved}
use Rattle.lf_unification.specs.Unifiers.{Store}
use Rattle.lf_cases.specs.Case.{Item, free_variable, block_variable, Case, items_context, as_term, IsGroundInstance}
use Rattle.lf_cases.specs.OutputGoal.{free_variables}
use Rattle.lf_cases.specs.Missing.{AreTypedItems, IsTypedInstance, KeepsApart}
use Rattle.lf_cases.specs.Reached.{arguments_count, head_term, taken, SplitHead, split_items, Unifies, IsSplitBy}
use Rattle.lf_cases.specs.Split.{HasNoBlockVariable}
use Rattle.lf_totality.proofs.After.{Extends-self}
use Rattle.lf_coverage.specs.Heads.{IsTypedCase, MakesHead, Keeps}
use Rattle.lf_coverage.specs.SplitStore.{context_metavariables, split_store, answer_values, solved_case}
use Rattle.lf_coverage.proofs.HeadTerm.{term_fits}
use Rattle.lf_coverage.proofs.ItemsContext.{items_are_context}
use Rattle.lf_coverage.proofs.NoCase.{families, all_declared, context_declared, whole_block, with_whole, in_all_worlds, items_world, head_made, head_in_all_worlds, none_of_items}
use Rattle.lf_coverage.proofs.OpenTerms.{fill_open}
use Rattle.lf_coverage.proofs.SolvedCase.{free_typed, typed_instance, without, answer, given, stand, fits, value_typed, kept, free_without}
use Rattle.lf_coverage.proofs.SplitReady.{split_items_typed, place}
use Rattle.lf_coverage.proofs.StoreSolution.{value_at}

apart_without : (Σ : Signature) (J I : List Item) (σ : ℕ → Image) (g : IsTypedInstance Σ J I σ) → HasNoBlockVariable I → KeepsApart Σ J I σ g
apart_without Σ J [] σ g n = tt
apart_without Σ J (free_variable A ∷ I) σ (N, τ, g, t, e) n = apart_without Σ J I τ g n
apart_without Σ J (block_variable B υ ∷ I) σ g n = absurd n

ground_is_instance : (Σ : Signature) (F : List Item) {W : List Block} {S : ℕ → Bool} (w : World Σ W S (items_context F)) (I : List Item) (σ : ℕ → Image) → HasNoBlockVariable I → IsGroundInstance w I σ → IsTypedInstance Σ F I σ
ground_is_instance Σ F w [] σ n g = tt
ground_is_instance Σ F w (free_variable A ∷ I) σ n (N, τ, g, t, e) = (N, τ, ground_is_instance Σ F w I τ n g, t, e)
ground_is_instance Σ F w (block_variable B υ ∷ I) σ n g = absurd n

module _ (Σ : Signature) (ok : IsSignature Σ) (W : List Block) (typed : AreTypedBlocks Σ W) (below : ℕ → ℕ → Bool) (C : Case) (tc : IsTypedCase Σ W C) (x : ℕ) (X : LfType) (at : TypeAt (items_context C.items) x X) (J : List Item) (n : ℕ) (h : Head) (A : LfType) (sh : SplitHead Σ W C.items X J n h A) (nj : HasNoBlockVariable J) (K : Kind) (after0 : Store) (s : Solved Σ (split_store below x X J n h A K) after0) where
  abbrev I : List Item
  I = C.items

  abbrev P : List Item
  P = split_items below X J n A

  abbrev c : ℕ
  c = n + arguments_count A

  abbrev S : ℕ → Bool
  S = families Σ ok

  abbrev O : List LfType
  O = free_context (skeletons_of after0.metavariables) s.well_formed.order

  abbrev σ : ℕ → Image
  σ = answer_values after0 s.well_formed.order

  aj : AreTypedItems Σ W P
  aj = split_items_typed Σ ok W typed below I tc.items x X at J n h A sh

  cp : IsContext Σ (items_context P)
  cp = items_are_context Σ ok W typed P aj

  sc : SelfContained Σ W S
  sc = all_declared Σ ok W typed

  np : HasNoBlockVariable P
  np = without Σ ok W typed below S sc I tc.items x X at J n h A K sh aj (context_declared Σ ok (items_context P) cp) C after0 s nj

  is_instance : IsTypedInstance Σ (free_variables O) P σ
  is_instance = typed_instance Σ (free_variables O) P np σ (value_typed Σ ok W typed below S sc I tc.items x X at J n h A K sh aj (context_declared Σ ok (items_context P) cp) C after0 s)

  spot : TypeAt (items_context P) (x + c) (rename_type (shift_by c) X)
  spot = place Σ ok W typed below I tc.items x X at J n h A sh

  -- the values make the variable the head
  same : as_term (skeleton (rename_type (shift_by c) X)) (σ (x + c)) ≡ substitute reduce σ (head_term below (taken (rename_type (shift_by n) X)) h A)
  same =
      let fam = context_declared Σ ok (items_context P) cp in
      let M : Term = head_term below (taken (rename_type (shift_by n) X)) h A in
      let V : Term = eta_long (skeleton X) (variable (x + c)) in
      let at0 : SkeletonAt (context_skeletons (items_context P)) (x + c) (skeleton X) = subst (SkeletonAt (context_skeletons (items_context P)) (x + c)) (skeleton_renamed (shift_by c) X) (variable_has_skeleton (items_context P) (x + c) (rename_type (shift_by c) X) spot) in
      let vt : TermSkeleton (constant_skeletons Σ) (context_skeletons (items_context P)) V (skeleton X) = subst (TermSkeleton (constant_skeletons Σ) (context_skeletons (items_context P)) V) (skeleton_renamed (shift_by c) X) (typed_has_skeleton Σ (items_context P) V (rename_type (shift_by c) X) (subst (λ a. Rattle.lf.specs.Typing.HasType Σ (items_context P) (eta_long a (variable (x + c))) (rename_type (shift_by c) X)) (skeleton_renamed (shift_by c) X) (eta_long_has_type Σ ok (items_context P) (variable (x + c)) (rename_type (shift_by c) X) cp spot))) in
      let mt : TermSkeleton (constant_skeletons Σ) (context_skeletons (items_context P)) M (skeleton X) = term_fits Σ W below I X J n h A sh in
      let g = given Σ ok W typed below S sc I tc.items x X at J n h A K sh aj fam C after0 s in
      let st = stand Σ ok W typed below S sc I tc.items x X at J n h A K sh aj fam C after0 s in
      let f = fits Σ ok W typed below S sc I tc.items x X at J n h A K sh aj fam C after0 s in
      ap (λ a. as_term a (σ (x + c))) (skeleton_renamed (shift_by c) X)
      ∙ sym (value_at (constant_skeletons Σ) (context_skeletons O) (skeleton X) σ (x + c) (f (x + c) (skeleton X) at0))
      ∙ sym (fill_open Σ (skeletons_of (context_metavariables (items_context P))) zero (context_skeletons (items_context P)) (context_skeletons O) σ g.0 st f V (skeleton X) vt)
      ∙ g.2.1.1.0
      ∙ fill_open Σ (skeletons_of (context_metavariables (items_context P))) zero (context_skeletons (items_context P)) (context_skeletons O) σ g.0 st f M (skeleton X) mt

  -- each other comes from them
  general : (F : List Item) (τ : ℕ → Image) → AreTypedItems Σ W F → Unifies Σ F P (x + c) (rename_type (shift_by c) X) (head_term below (taken (rename_type (shift_by n) X)) h A) τ → (ρ : ℕ → Image) × IsTypedInstance Σ F (free_variables O) ρ × ((i : ℕ) (B : LfType) → TypeAt (items_context P) i B → as_term (skeleton B) (τ i) ≡ as_term (skeleton B) (after ρ σ i))
  general F τ af u =
      let L : List LfType = items_context F in
      let V : List Block = whole_block Σ ok L ∷ W in
      let tv : AreTypedBlocks Σ V = with_whole Σ ok W typed L (items_are_context Σ ok W typed F af) in
      let m : MakesHead (items_world Σ ok W typed below I tc.items x X at F τ af) below x X J n h A τ = head_made Σ ok W typed below I tc.items x X at F τ af J n h A sh nj u in
      let k : Keeps (items_world Σ ok W typed below I tc.items x X at F τ af) P τ m.is_ground (free_variables O) σ = kept Σ ok V tv below S (all_declared Σ ok V tv) I (in_all_worlds Σ W V I (none_of_items Σ W I X J n h A nj sh) tc.items) x X at J n h A K (head_in_all_worlds Σ W V I X J n h A nj sh) (in_all_worlds Σ W V P np aj) (context_declared Σ ok (items_context P) cp) C after0 s nj Σ (Extends-self S Σ ok) L (items_world Σ ok W typed below I tc.items x X at F τ af) τ m in
      (k.new_values, ground_is_instance Σ F (items_world Σ ok W typed below I tc.items x X at F τ af) (free_variables O) k.new_values (free_without O) k.is_ground, λ i B z. ap (as_term (skeleton B)) (k.same i B z))

  -- The lemma
  pub solved_splits : IsSplitBy Σ W below C x X J n h A (solved_case C c after0 s.well_formed.order)
  solved_splits = record {
    values = σ;
    unifier = record {
      typed_items = free_typed Σ W O (answer Σ ok W typed below S sc I tc.items x X at J n h A K sh aj (context_declared Σ ok (items_context P) cp) C after0 s).0.context;
      unifies = record { is_instance = is_instance; keeps_apart = apart_without Σ (free_variables O) P σ is_instance np; same = same };
      most_general = general;
    };
    given = refl;
    local = refl;
    family = refl;
    arguments = refl;
  }
