-- Each ground instance of a case makes a free variable one of the heads.
use Rattle.std.proofs.Common.{◌≡◌, ℕ, zero, suc, List, [], ◌∷◌, ◌+◌, ◌<◌, length, inl, inr, refl, sym, ap, ap₂, ◌∙◌, subst, arith, true≢false}
use Rattle.std.specs.Prelude.{Bool, true, false, ◌⊎◌, Some}
use Rattle.lf.specs.Syntax.{Head, constant, variable, metavariable, Term, Spine, root, LfType, atom, skeleton, rename_type, rename_head}
use Rattle.lf.specs.Substitution.{Image, keep, put, rename_image, apply_image, substitute, substitute_spine, substitute_type, reduce}
use Rattle.lf.specs.AtOnce.{shift_by, lift_renaming_by}
use Rattle.lf.specs.Eta.{lambdas}
use Rattle.lf.specs.Typing.{Signature, TypeAt, HeadHasType, HasType, SpineType, ImageHasType, IsTypedSubstitution, IsType, IsContext, IsSignature}
use Rattle.lf.specs.Variables.{target, target_arguments, onto, binders, FamiliesIn}
use Rattle.lf_unification.specs.Offering.{pi_over}
use Rattle.lf.proofs.ToSkeletons.{type_by_skeletons}
use Rattle.lf.specs.Subordination.{Block, AreTypedBlocks, SelfContained}
use Rattle.lf.specs.Worlds.{World, lift_over, instance}
use Rattle.lf.specs.Extension.{Extends}
use Rattle.lf.proofs.Closed.{closed_type_substituted}
use Rattle.lf.proofs.Decidability.{variable_type_unique}
use Rattle.lf.proofs.ExtensionTyping.{extension_keeps_contexts}
use Rattle.lf.proofs.Regular.{head_type}
use Rattle.lf.proofs.Conservativity.{spine_target}
use Rattle.lf.proofs.Strength.{families_substituted, family_target}
use Rattle.lf.proofs.Substitution.{typed_substitution_by_skeletons, constant_type, skeleton_context_of, substitution_keeps_types}
use Rattle.lf.proofs.Target.{target_of, target_renamed}
use Rattle.lf.proofs.TypeLaws.{skeleton_renamed, substitute_renamed_type}
use Rattle.lf.proofs.Weakening.{declared_is_type}
use Rattle.lf.proofs.Worlds.{world_is_context}
use Rattle.lf_checks.specs.Clause.{among}
use Rattle.lf_cases.specs.Cover.{place_of}
use Rattle.lf_cases.specs.Heads.{EntryIn, HeadIsKnown}
use Rattle.lf_checks.specs.Below.{IsSubordination}
use Rattle.lf_cases.specs.Case.{Item, free_variable, block_variable, items_context, entries_in_front, behind_entries, as_term, IsGroundInstance}
use Rattle.lf_cases.specs.Pattern.{FirstInstance}
use Rattle.lf_cases.specs.Split.{StandsFor, IsDistinct}
use Rattle.lf_cases.specs.Missing.{AreTypedItems}
use Rattle.lf_cases.specs.Candidates.{free_among, hide_all}
use Rattle.lf_checks.specs.Marks.{output_places}
use Rattle.lf_cases.specs.Raised.{LowPlaces}
use Rattle.lf_cases.specs.OutputGoal.{free_variables}
use Rattle.lf_cases.specs.Reached.{arguments_count, head_masks, head_items, head_spine, head_term, items_onto, with_block, taken, SplitHead, constant_head, bound_head, entry_head, new_entry_head, split_items}
use Rattle.lf_cases.proofs.Assemble.{binders_typed}
use Rattle.lf_cases.proofs.Heads.{head_known}
use Rattle.lf_cases.proofs.Local.{binders_substituted}
use Rattle.lf_totality.proofs.RaisedOutputs.{binders_over}
use Rattle.lf_cases.proofs.OutputItems.{Follows, length_instance, lift_over_far}
use Rattle.lf_cases.proofs.Instances.{place_among}
use Rattle.lf_coverage.specs.Heads.{ArgumentsAreBelow, MakesHead, result_type, term_type}
use Rattle.lf_coverage.proofs.Forms.{form, lambdas_substituted, lift_over_near, renaming_near, renaming_far, local_type, local_has_type, no_shift_type, far_type, far_substituted, lift_same, as_pis, pis_substituted}
use Rattle.lf_coverage.proofs.GroundSkeletons.{ground_fits}
use Rattle.lf_coverage.proofs.GroundTyped.{ground_typed, items_extended}
use Rattle.lf_coverage.proofs.HeadItems.{type_kind, outputs, count_substituted}
use Rattle.lf_coverage.proofs.HeadRaised.{below_substituted, AllTypesIn, context_types, families_within, local_types, part, part_itself, part_low, spine_low}
use Rattle.lf_coverage.proofs.ItemsContext.{items_are_context}
use Rattle.lf_coverage.proofs.NewBlock.{block_typed, moved_at, front_long, block_values, block_on, block_keeps}
use Rattle.lf_coverage.proofs.Offered.{offered}
use Rattle.lf_coverage.proofs.Parts.{some_same}
use Rattle.lf_coverage.proofs.ResultType.{result_is}
use Rattle.lf_coverage.proofs.SameInstance.{entry_or_new, entry_has_type, front_entry}
use mathlib.Core.Path.{fun_ext}

-- what the entries leave free has its value
pub entry_value : (τ υ : ℕ → Image) (I : List Item) → ((y : ℕ) (Y : LfType) → TypeAt (items_context I) y Y → free_among I y ≡ true → (N : Term) × (τ y ≡ put (skeleton Y) N)) → (ds : List LfType) (φ : ℕ → Image) (y : ℕ) (Y : LfType) → TypeAt (onto (instance ds υ) (items_context I)) y Y → hide_all ds (free_among I) y ≡ true → (N : Term) × (entries_in_front ds φ τ y ≡ put (skeleton Y) N)
entry_value τ υ I h [] φ y Y t f = h y Y t f
entry_value τ υ I h (D ∷ ds) φ zero Y t f = absurd (true≢false (sym f))
entry_value τ υ I h (D ∷ ds) φ (suc y) Y (Z, t, q) f = let (N, p) = entry_value τ υ I h ds (λ j. φ (suc j)) y Z t f in (N, p ∙ ap (λ a. put a N) (sym (ap skeleton q ∙ skeleton_renamed suc Z)))

-- the value of a free variable
pub free_value : {Σ : Signature} {W : List Block} {S : ℕ → Bool} {G : List LfType} (w : World Σ W S G) (I : List Item) (σ : ℕ → Image) → IsGroundInstance w I σ → (x : ℕ) (X : LfType) → TypeAt (items_context I) x X → free_among I x ≡ true → (N : Term) × (σ x ≡ put (skeleton X) N)
free_value w [] σ g x X t f = absurd t
free_value w (free_variable A ∷ I) σ (N, τ, g, n, e) zero X t f = (N, ap (λ z. z zero) e ∙ ap (λ a. put a N) (sym (ap skeleton t ∙ skeleton_renamed suc A)))
free_value w (free_variable A ∷ I) σ (N, τ, g, n, e) (suc x) X (Y, t, q) f = let (M, p) = free_value w I τ g x Y t f in (M, ap (λ z. z (suc x)) e ∙ p ∙ ap (λ a. put a M) (sym (ap skeleton q ∙ skeleton_renamed suc Y)))
free_value w (block_variable B υ ∷ I) σ (θ, τ, g, i, s, e) x X t f = let (N, p) = entry_value τ υ I (λ y Y u v. free_value w I τ g y Y u v) B.entries θ x X t f in (N, ap (λ z. z x) e ∙ p)

pub onto_nothing : (D : List LfType) → onto D [] ≡ D
onto_nothing [] = refl
onto_nothing (A ∷ D) = ap (λ X. A ∷ X) (onto_nothing D)

-- a head has one type
pub head_same : (Σ : Signature) (G : List LfType) (h : Head) (A B : LfType) → HeadHasType Σ G h A → HeadHasType Σ G h B → A ≡ B
head_same Σ G (constant c) A B e f = some_same (sym e ∙ f)
head_same Σ G (variable i) A B g h = variable_type_unique G i A B g h
head_same Σ G (metavariable m) A B g h = absurd g

among_less : (ds : List LfType) (k : ℕ) → among ds k ≡ true → k < length ds
among_less [] k e = absurd cc
among_less (D ∷ ds) zero e = omega arith
among_less (D ∷ ds) (suc k) e = more (among_less ds k e)
  where
    more : k < length ds → suc k < suc (length ds)
    more l = omega arith

-- The type of a variable, under values that keep those of the items.
module _ (X : LfType) (σ : ℕ → Image) (n : ℕ) (τ : ℕ → Image) (keeps : (k : ℕ) → τ (k + n) ≡ σ k) where
  pub same_type : substitute_type reduce τ (rename_type (shift_by n) X) ≡ substitute_type reduce σ X
  same_type = substitute_renamed_type reduce τ (shift_by n) X ∙ ap (λ f. substitute_type reduce f X) (fun_ext keeps)

  pub taken_is : (τ : ℕ → Image) (Y : LfType) → instance (taken Y) τ ≡ binders [] (substitute_type reduce τ Y)
  taken_is τ Y = sym (binders_substituted Y τ [] ∙ onto_nothing (instance (taken Y) τ))

  pub same_local : instance (taken (rename_type (shift_by n) X)) τ ≡ instance (taken X) σ
  same_local = taken_is τ (rename_type (shift_by n) X) ∙ ap (binders []) same_type ∙ sym (taken_is σ X)

  pub same_length : length (taken (rename_type (shift_by n) X)) ≡ length (taken X)
  same_length = sym (length_instance (taken (rename_type (shift_by n) X)) τ) ∙ ap length same_local ∙ length_instance (taken X) σ

module _ (Σ : Signature) (ok : IsSignature Σ) (W : List Block) (typed : AreTypedBlocks Σ W) (below : ℕ → ℕ → Bool) (s : IsSubordination Σ W below) (Low : ℕ → Bool) (sc : SelfContained Σ W Low) (I : List Item) (ti : AreTypedItems Σ W I) (x : ℕ) (X : LfType) (at : TypeAt (items_context I) x X) (fr : free_among I x ≡ true) (fams : FamiliesIn Low X) (args : ArgumentsAreBelow below X) (can : (J : List Item) (n : ℕ) (h : Head) (A : LfType) → SplitHead Σ W I X J n h A → ArgumentsAreBelow below A) (Σ' : Signature) (ext : Extends Low Σ Σ') (G : List LfType) (w : World Σ' W Low G) (σ : ℕ → Image) (g : IsGroundInstance w I σ) (d : IsDistinct w I σ g) where
  -- one of the heads, with values that make x this head and keep those of the items
  pub record Made : Type 0 where
    pub items : List Item
    pub number : ℕ
    pub head : Head
    pub type : LfType
    pub is_head : SplitHead Σ W I X items number head type
    pub values : ℕ → Image
    pub makes : MakesHead w below x X items number head type values
    pub first : (B : Block) (ψ : ℕ → Image) → FirstInstance w I σ g B ψ → FirstInstance w (split_items below X items number type) values makes.is_ground B ψ
    pub keeps : (k : ℕ) → values (k + (number + arguments_count type)) ≡ σ k

  typed' : AreTypedBlocks Σ' W
  typed' B m = extension_keeps_contexts Low Σ Σ' ext (onto B.entries B.some) (typed B m)

  abbrev E : List LfType
  E = instance (taken X) σ

  abbrev Y0 : LfType
  Y0 = substitute_type reduce σ X

  ground : IsTypedSubstitution Σ' (items_context I) G σ
  ground = ground_typed Σ' ext.ok W typed' w I σ (items_extended Low Σ Σ' ext W I ti) g

  items_typed : IsContext Σ' (items_context I)
  items_typed = items_are_context Σ' ext.ok W typed' I (items_extended Low Σ Σ' ext W I ti)

  local_is : binders G Y0 ≡ onto E G
  local_is = binders_substituted X σ G

  type_typed : IsType Σ' G Y0
  type_typed = substitution_keeps_types Σ' ext.ok (items_context I) G σ X (record { typed = ground; source_skeletons = skeleton_context_of Σ' ext.ok (items_context I) items_typed; target_skeletons = skeleton_context_of Σ' ext.ok G (world_is_context w) }) (declared_is_type Σ' ext.ok (items_context I) x X items_typed at)

  local_context : IsContext Σ' (onto E G)
  local_context = subst (IsContext Σ') local_is (binders_typed Σ' ext.ok Y0 G (world_is_context w) type_typed)

  types_in : AllTypesIn Σ W below s Low sc Σ' ext (onto E G)
  types_in = subst (AllTypesIn Σ W below s Low sc Σ' ext) local_is (local_types Σ W below s Low sc Σ' ext Y0 G (families_substituted Low reduce σ X fams) (below_substituted below σ X args) (context_types Σ W below s Low sc Σ' ext w))

  target_below : Low (target X) ≡ true
  target_below = family_target Low X fams

  -- the families of the type of a head
  head_families : (h : Head) (Y : LfType) → HeadHasType Σ' (onto E G) h Y → target Y ≡ target X → FamiliesIn Low Y
  head_families (constant k) Y e t = sc.types_in k Y (ext.no_new k Y e (ap Low t ∙ target_below)) (ap Low t ∙ target_below)
  head_families (variable i) Y k t =
      let g : ℕ = target X in
      families_within (part Σ W below s Low sc Σ' ext g) Low (part_low Σ W below s Low sc Σ' ext g) Y (types_in g target_below i Y k (ap (part Σ W below s Low sc Σ' ext g) t ∙ part_itself Σ W below s Low sc Σ' ext g target_below))
  head_families (metavariable m) Y e t = absurd e

  module _ (N : Term) (T V : Spine) (h0 : Head) (v_is : V ≡ target_arguments Y0) (at_x : σ x ≡ put (skeleton X) N) (form_is : N ≡ lambdas (length (taken X)) (root h0 T)) (root_typed : HasType Σ' (onto E G) (root h0 T) (atom (target X) V)) where
    -- where the head offered is that of the value
    finish : (J : List Item) (n : ℕ) (τ : ℕ → Image) (gJ : IsGroundInstance w J τ) → Follows w I σ g J τ gJ → (keeps : (k : ℕ) → τ (k + n) ≡ σ k) → AreTypedItems Σ' W J → (h : Head) (A : LfType) → SplitHead Σ W I X J n h A → IsType Σ' (onto (taken (rename_type (shift_by n) X)) (items_context J)) A → HeadHasType Σ' (onto E G) h0 (substitute_type reduce (lift_over (taken (rename_type (shift_by n) X)) τ) A) → ((φ : ℕ → Image) → ((k : ℕ) → φ (k + arguments_count A) ≡ τ k) → (S : Spine) → substitute reduce (lift_over (taken (rename_type (shift_by n) X)) φ) (root (rename_head (lift_renaming_by (length (taken (rename_type (shift_by n) X))) (shift_by (arguments_count A))) h) S) ≡ root h0 (substitute_spine reduce (lift_over (taken (rename_type (shift_by n) X)) φ) S)) → Made
    finish J n τ gJ fo keeps tj h A sh ta hh under =
        let X' : LfType = rename_type (shift_by n) X in
        let D : List LfType = taken X' in
        let c : ℕ = arguments_count A in
        let Y : LfType = substitute_type reduce (lift_over D τ) A in
        let (Z, hz, st) = root_typed in
        let st' : SpineType Σ' (onto E G) T Y (atom (target X) V) = subst (λ B. SpineType Σ' (onto E G) T B (atom (target X) V)) (head_same Σ' (onto E G) h0 Z Y hz hh) st in
        let tg : target Y ≡ target X = spine_target Σ' (onto E G) T Y (atom (target X) V) st' in
        let ba = can J n h A sh in
        let sl : instance D τ ≡ E = same_local X σ n τ keeps in
        let r : LowPlaces below E (output_places (outputs c)) T (type_kind Y) = spine_low Σ W below s Low sc Σ' ext E G local_context types_in c T Y (target X) V (head_families h0 Y hh tg) (below_substituted below (lift_over D τ) A ba) (head_type Σ' ext.ok (onto E G) h0 Y local_context hh) st' (count_substituted (lift_over D τ) A) in
        let gt : IsTypedSubstitution Σ' (items_context J) G τ = ground_typed Σ' ext.ok W typed' w J τ tj gJ in
        let (φ, gφ, fo', keeps', args) = offered Σ' ext.ok below w D A J τ gJ (typed_substitution_by_skeletons Σ' ext.ok (items_context J) G τ gt) ta (subst (λ L. IsContext Σ' (onto L G)) (sym sl) local_context) (subst (λ L. IsType Σ' (onto L G) Y) (sym sl) (head_type Σ' ext.ok (onto E G) h0 Y local_context hh)) T (target X) V (subst (λ L. SpineType Σ' (onto L G) T Y (atom (target X) V)) (sym sl) st') (subst (λ L. LowPlaces below L (output_places (outputs c)) T (type_kind Y)) (sym sl) r) in
        let all : (k : ℕ) → φ (k + (n + c)) ≡ σ k = λ k. ap φ (sums k n c) ∙ keeps' (k + n) ∙ keeps k in
        let ρ : Head = rename_head (lift_renaming_by (length D) (shift_by c)) h in
        let ks : List (List Bool) = head_masks below D c A in
        let right : substitute reduce φ (head_term below D h A) ≡ N = lambdas_substituted D φ (root ρ (head_spine ks D A)) ∙ ap (lambdas (length D)) (under φ keeps' (head_spine ks D A) ∙ ap (root h0) (sym args)) ∙ ap (λ l. lambdas l (root h0 T)) (same_length X σ n τ keeps) ∙ sym form_is in
        let X2 : LfType = rename_type (shift_by (n + c)) X in
        let left : substitute_type reduce φ X2 ≡ Y0 = same_type X σ (n + c) φ all in
        let res : substitute_type reduce (lift_over D φ) (result_type ks D c A) ≡ atom (target X) V = result_is Σ' ks G c D A J refl φ (ground_fits Σ' ext.ok w (head_items ks D c A J) φ gφ) (type_by_skeletons Σ' (onto D (items_context J)) A ta) T (target X) V (subst (λ f. SpineType Σ' (onto (instance D f) G) T (substitute_type reduce (lift_over D f) A) (atom (target X) V)) (sym (fun_ext keeps')) (subst (λ L. SpineType Σ' (onto L G) T Y (atom (target X) V)) (sym sl) st')) args in
        let ll : length (taken X2) ≡ length D = same_length X σ (n + c) φ all ∙ sym (same_length X σ n τ keeps) in
        let types : substitute_type reduce φ X2 ≡ substitute_type reduce φ (term_type below X n A) = left ∙ as_pis Y0 [] ∙ ap₂ (λ L Z. pi_over L Z) (ap (binders []) (sym left) ∙ sym (taken_is X σ (n + c) φ all φ X2)) (ap₂ atom (target_of reduce σ X) (sym v_is) ∙ sym res ∙ ap (λ f. substitute_type reduce f (result_type ks D c A)) (lift_same D (taken X2) φ (sym ll))) ∙ sym (pis_substituted φ (taken X2) (result_type ks D c A)) in
        record {
          items = J;
          number = n;
          head = h;
          type = A;
          is_head = sh;
          values = φ;
          makes = record { is_ground = gφ; is_distinct = fo'.1 (fo.1 d); same = ap (as_term (skeleton X)) (all x ∙ at_x) ∙ sym right; same_type = types };
          first = λ B ψ z. fo'.0 B ψ (fo.0 B ψ z);
          keeps = all;
        }
      where
        sums : (k n c : ℕ) → k + (n + c) ≡ (k + n) + c
        sums k n c = omega arith

    follows_itself : Follows w I σ g I σ g
    follows_itself = ((λ B ψ z. z), (λ z. z))

    same_zero : (k : ℕ) → σ (k + 0) ≡ σ k
    same_zero k = ap σ (none k)
      where
        none : (k : ℕ) → k + 0 ≡ k
        none k = omega arith

    taken_zero : taken (rename_type (shift_by 0) X) ≡ taken X
    taken_zero = ap taken (no_shift_type X)

    -- a constant
    constant_case : (k : ℕ) (U : LfType) → h0 ≡ constant k → Σ.types k ≡ Some U → target U ≡ target X → Made
    constant_case k U q e t =
        let D : List LfType = taken (rename_type (shift_by 0) X) in
        let e' : Σ'.types k ≡ Some U = ext.types_stay k U e in
        finish I 0 σ g follows_itself same_zero (items_extended Low Σ Σ' ext W I ti) (constant k) U (constant_head k U e t) (constant_type Σ' ext.ok (onto D (items_context I)) k U e')
        (subst (λ h. HeadHasType Σ' (onto E G) h (substitute_type reduce (lift_over D σ) U)) (sym q) (subst (λ Y. Σ'.types k ≡ Some Y) (sym (closed_type_substituted Σ' reduce (lift_over D σ) U (constant_type Σ' ext.ok [] k U e'))) e'))
        (λ φ z S. ap (λ h. root h (substitute_spine reduce (lift_over D φ) S)) (sym q))

    -- a variable that x takes
    bound_case : (i : ℕ) → h0 ≡ variable i → i < length E → Made
    bound_case i q l =
        let C : List LfType = items_context I in
        let D : List LfType = taken X in
        let l' : i < length D = subst (λ n. i < n) (length_instance D σ) l in
        let (A, k) = local_has_type D C i l' in
        let here : TypeAt (onto E G) i (substitute_type reduce (lift_over D σ) A) = local_type D C G σ i A l' k in
        let (Z, hz, st) = root_typed in
        let same : Z ≡ substitute_type reduce (lift_over D σ) A = head_same Σ' (onto E G) (variable i) Z (substitute_type reduce (lift_over D σ) A) (subst (λ h. HeadHasType Σ' (onto E G) h Z) q hz) here in
        let t : target A ≡ target X = sym (target_of reduce (lift_over D σ) A) ∙ ap target (sym same) ∙ spine_target Σ' (onto E G) T Z (atom (target X) V) st in
        let kb : TypeAt (binders C X) i A = subst (λ L. TypeAt L i A) (sym (binders_over [] X C)) k in
        let ct : IsContext Σ' (onto D C) = subst (IsContext Σ') (binders_over [] X C) (binders_typed Σ' ext.ok X C items_typed (declared_is_type Σ' ext.ok C x X items_typed at)) in
        finish I 0 σ g follows_itself same_zero (items_extended Low Σ Σ' ext W I ti) (variable i) A (bound_head i A l' kb t)
        (subst (λ L. IsType Σ' (onto L C) A) (sym taken_zero) (declared_is_type Σ' ext.ok (onto D C) i A ct k))
        (subst (λ h. HeadHasType Σ' (onto E G) h (substitute_type reduce (lift_over (taken (rename_type (shift_by 0) X)) σ) A)) (sym q) (subst (λ L. TypeAt (onto E G) i (substitute_type reduce (lift_over L σ) A)) (sym taken_zero) here))
        (λ φ z S. let L : List LfType = taken (rename_type (shift_by 0) X) in let l2 : i < length L = subst (λ n. i < n) (ap length (sym taken_zero)) l' in
        ap (λ j. substitute reduce (lift_over L φ) (root (variable j) S)) (renaming_near (length L) (shift_by (arguments_count A)) i l2) ∙ ap (λ y. apply_image reduce y (substitute_spine reduce (lift_over L φ) S)) (lift_over_near L φ i l2) ∙ ap (λ h. root h (substitute_spine reduce (lift_over L φ) S)) (sym q))

    -- an entry of a block variable
    entry_case : (v : ℕ) → h0 ≡ variable (v + length E) → (J : List Item) (n : ℕ) (τ : ℕ → Image) (gJ : IsGroundInstance w J τ) → Follows w I σ g J τ gJ → ((k : ℕ) → τ (k + n) ≡ σ k) → AreTypedItems Σ' W J → TypeAt (items_context J) (x + n) (rename_type (shift_by n) X) → (j : ℕ) (A : LfType) → TypeAt (items_context J) j A → τ j ≡ keep v → (target A ≡ target X → SplitHead Σ W I X J n (variable (j + length (taken X))) (rename_type (shift_by (length (taken X))) A)) → Made
    entry_case v q J n τ gJ fo keeps tj xt j A k p sh =
        let C : List LfType = items_context J in
        let D : List LfType = taken (rename_type (shift_by n) X) in
        let L : ℕ = length (taken X) in
        let B : LfType = rename_type (shift_by L) A in
        let ld : length D ≡ L = same_length X σ n τ keeps in
        let le : length E ≡ L = length_instance (taken X) σ in
        let cj : IsContext Σ' C = items_are_context Σ' ext.ok W typed' J tj in
        let ct : IsContext Σ' (onto D C) = subst (IsContext Σ') (binders_over [] (rename_type (shift_by n) X) C) (binders_typed Σ' ext.ok (rename_type (shift_by n) X) C cj (declared_is_type Σ' ext.ok C (x + n) (rename_type (shift_by n) X) cj xt)) in
        let tb : IsType Σ' (onto D C) B = subst (λ l. IsType Σ' (onto D C) (rename_type (shift_by l) A)) ld (declared_is_type Σ' ext.ok (onto D C) (j + length D) (rename_type (shift_by (length D)) A) ct (far_type D C j A k)) in
        let gt : IsTypedSubstitution Σ' C G τ = ground_typed Σ' ext.ok W typed' w J τ tj gJ in
        let there : TypeAt G v (substitute_type reduce τ A) = subst (λ y. ImageHasType Σ' G y (substitute_type reduce τ A)) p (gt j A k) in
        let Y : LfType = substitute_type reduce (lift_over D τ) B in
        let same : Y ≡ rename_type (shift_by (length E)) (substitute_type reduce τ A) = ap (λ l. substitute_type reduce (lift_over D τ) (rename_type (shift_by l) A)) (sym ld) ∙ far_substituted D τ A ∙ ap (λ l. rename_type (shift_by l) (substitute_type reduce τ A)) (ld ∙ sym le) in
        let hv : TypeAt (onto E G) (v + length E) Y = subst (TypeAt (onto E G) (v + length E)) (sym same) (far_type E G v (substitute_type reduce τ A) there) in
        let hh : HeadHasType Σ' (onto E G) h0 Y = subst (λ h. HeadHasType Σ' (onto E G) h Y) (sym q) hv in
        let (Z, hz, st) = root_typed in
        let t : target A ≡ target X = sym (target_renamed (shift_by L) A) ∙ sym (target_of reduce (lift_over D τ) B) ∙ ap target (sym (head_same Σ' (onto E G) h0 Z Y hz hh)) ∙ spine_target Σ' (onto E G) T Z (atom (target X) V) st in
        finish J n τ gJ fo keeps tj (variable (j + L)) B (sh t) tb hh
        (λ φ z S. let c : ℕ = arguments_count B in
        ap (λ m. substitute reduce (lift_over D φ) (root (variable (lift_renaming_by (length D) (shift_by c) (j + m))) S)) (sym ld)
        ∙ ap (λ i. substitute reduce (lift_over D φ) (root (variable i) S)) (renaming_far (length D) (shift_by c) j)
        ∙ ap (λ y. apply_image reduce y (substitute_spine reduce (lift_over D φ) S)) (lift_over_far D φ (j + c) ∙ ap (rename_image (shift_by (length D))) (z j ∙ p))
        ∙ ap (λ m. root (variable (v + m)) (substitute_spine reduce (lift_over D φ) S)) (ld ∙ sym le)
        ∙ ap (λ h. root h (substitute_spine reduce (lift_over D φ) S)) (sym q))

    -- an entry of an instance, for which a block variable stands or a new one will
    known_entry : (v : ℕ) → h0 ≡ variable (v + length E) → EntryIn w v (target X) → Made
    known_entry v q (B, m, later, X0, es, e, t, θ, i, p) = by (entry_or_new Σ' w I σ g B θ i (place_of later) v a p)
      where
        a : among B.entries (place_of later) ≡ true
        a = ap (λ ds. among ds (place_of later)) (sym e) ∙ place_among later X0 es

        same_place : (k : ℕ) (Y : LfType) → TypeAt (items_context I) k Y → TypeAt (items_context I) (k + 0) (rename_type (shift_by 0) Y)
        same_place k Y h = subst (λ j. TypeAt (items_context I) j (rename_type (shift_by 0) Y)) (none k) (subst (TypeAt (items_context I) k) (sym (no_shift_type Y)) h)
          where
            none : (k : ℕ) → k ≡ k + 0
            none k = omega arith

        by : ((j : ℕ) × (A : LfType) × TypeAt (items_context I) j A × (free_among I j ≡ false) × (σ j ≡ keep v)) ⊎ (StandsFor w I σ g B θ → ⊥) → Made
        by (inl (j, A, k, nf, pj)) = entry_case v q I 0 σ g follows_itself same_zero (items_extended Low Σ Σ' ext W I ti) (same_place x X at) j A k pj (λ u. entry_head j A k nf u)
        by (inr new) =
            let ti' : AreTypedItems Σ' W I = items_extended Low Σ Σ' ext W I ti in
            let (h, fo) = block_on Σ' ext.ok W typed' w B m θ i I σ g new in
            let (A, k) = entry_has_type B.entries keep (items_context (items_onto (free_variables B.some) I)) (place_of later) a in
            entry_case v q (with_block B I) (length B.some + length B.entries) (block_values Σ' ext.ok W typed' w B θ σ) h fo (block_keeps Σ' ext.ok W typed' w B θ σ) (block_typed Σ' ext.ok W typed' B m I ti') (moved_at B I x X at) (place_of later) A k (front_entry B.entries θ (front_long B.some (behind_entries B.entries θ) σ) (place_of later) a ∙ p) (λ u. new_entry_head B (place_of later) A m (among_less B.entries (place_of later) a) k u)

    by_head : HeadIsKnown Σ E w h0 (target X) → Made
    by_head (inl (k, U, q, e, t)) = constant_case k U q e t
    by_head (inr (inl (i, A, q, l, k, t))) = bound_case i q l
    by_head (inr (inr (v, q, e))) = known_entry v q e

  -- The lemma
  pub some_head : Made
  some_head =
      let (N, p) = free_value w I σ g x X at fr in
      let nt : (skeleton Y0 ≡ skeleton X) × HasType Σ' G N Y0 = subst (λ y. ImageHasType Σ' G y Y0) p (ground x X at) in
      let (h0, T, e, r) = form Σ' Y0 G N nt.1 in
      let V : Spine = target_arguments Y0 in
      let tx : target Y0 ≡ target X = target_of reduce σ X in
      let r' : HasType Σ' (onto E G) (root h0 T) (atom (target X) V) = subst (λ t. HasType Σ' (onto E G) (root h0 T) (atom t V)) tx (subst (λ C. HasType Σ' C (root h0 T) (atom (target Y0) V)) local_is r) in
      let l : length (binders [] Y0) ≡ length (taken X) = ap length (binders_substituted X σ [] ∙ onto_nothing E) ∙ length_instance (taken X) σ in
      by_head N T V h0 refl p (e ∙ ap (λ n. lambdas n (root h0 T)) l) r' (head_known Σ Σ' W Low ext G E w h0 T (target X) V target_below r')
