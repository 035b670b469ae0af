-- Covered outputs need to be shown only of tuples that use local variables of lower families.
use Rattle.lf_checks.specs.Ground.{UsesGoal}
use Rattle.lf_checks.specs.Marks.{Mark, input_places, output_places}
use Rattle.lf_checks.specs.Below.{IsSubordination}
use Rattle.lf_checks.specs.Worlded.{IsSequence}
use Rattle.lf_cases.specs.Raised.{CoveredLowOutputs, PlacesBelow, LowPlaces}
use Rattle.lf_cases.specs.Cover.{CoveredOutputs}
use Rattle.lf_checks.specs.Clause.{Clause, IsSubgoal, scope}
use Rattle.std.proofs.Common.{◌≡◌, ℕ, List, [], ◌∷◌, refl, sym, ap, ◌∙◌, subst}
use Rattle.std.specs.Prelude.{Bool, true, false, Some}
use Rattle.lf.specs.Syntax.{Spine, nil, app, LfType, Kind, pi, atom, kind_pi, star, skeleton}
use Rattle.lf.specs.Substitution.{Image, lift, single, substitute_type, reduce}
use Rattle.lf.specs.Typing.{Signature, instantiate_kind, SpineFitsKind, IsKind, IsContext, IsSignature}
use Rattle.lf.specs.Variables.{Values, target, binders, onto, under, SameOn, Within}
use Rattle.lf.specs.Subordination.{Block, Member}
use Rattle.lf.specs.Worlds.{World, instance}
use Rattle.lf.specs.Extension.{Extends}
use Rattle.lf.proofs.Agreement.{agree_on_type, SameOn-under}
use Rattle.lf.proofs.Conservativity.{SelfContained-extends}
use Rattle.lf.proofs.ExtensionTyping.{extension_over_less, extension_keeps_contexts}
use Rattle.lf.proofs.Patch.{patch, patch_same, patched}
use Rattle.lf.proofs.Partial.{skeletons_beside}
use Rattle.lf.proofs.Regular.{substitution_keeps_kinds}
use Rattle.lf.proofs.Strengthening.{world_types}
use Rattle.lf.proofs.Substitution.{family_kind, single_substitution_typed, skeleton_context_of}
use Rattle.lf.proofs.ToSkeletons.{type_by_skeletons}
use Rattle.lf.proofs.Weakening.{declared_is_type}
use Rattle.lf.proofs.Worlds.{world_is_context}
use Rattle.lf_cases.proofs.Assemble.{end_typed}
use Rattle.lf_cases.proofs.Local.{local_world, ground_sequence_grows, binders_substituted}
use Rattle.lf_totality.proofs.Low.{places_substituted}
use Rattle.lf_cases.proofs.Raised.{uses_low}
use Rattle.lf_cases.proofs.WellWorlded.{worlded}

some_inj : {K L : Kind} → Some K ≡ Some L → K ≡ L
some_inj e = cc

-- the context under the quantifiers of a type, as that of a closed one and what stands outside
pub binders_over : (X : List LfType) (B : LfType) (G : List LfType) → binders (onto X G) B ≡ onto (binders X B) G
binders_over X (pi A B) G = binders_over (A ∷ X) B G
binders_over X (atom a S) G = refl

-- the hypotheses of a subgoal use what is ground before it
pub hypotheses_agree : (U : ℕ → Bool) (m : List Bool) (σ τ : ℕ → Image) (A : LfType) (G : List LfType) → SameOn U σ τ → UsesGoal U m A → binders G (substitute_type reduce σ A) ≡ binders G (substitute_type reduce τ A)
hypotheses_agree U m σ τ (pi B A) G h (u, v) = ap (λ X. binders (X ∷ G) (substitute_type reduce (lift σ) A)) (agree_on_type reduce U σ τ B h u) ∙ hypotheses_agree (under U) m (lift σ) (lift τ) A (substitute_type reduce τ B ∷ G) (SameOn-under U σ τ h) v
hypotheses_agree U m σ τ (atom a S) G h u = refl

module _ (Σ : Signature) (ok : IsSignature Σ) (W : List Block) where
  -- the local context of a well-worlded subgoal, under values of what is ground before it, extends a context of worlds to one
  pub subgoal_world : (m : List Bool) (S : ℕ → Bool) → ((B : Block) → Member B W → IsContext Σ (onto B.entries B.some)) → (c : Clause) (U : ℕ → Bool) (A : LfType) → IsContext Σ (scope c) → IsSequence Σ W (scope c) (binders [] A) → UsesGoal U m A → (Σ' : Signature) → Extends S Σ Σ' → (G : List LfType) → World Σ' W S G → (σ : ℕ → Image) → Values Σ' U (scope c) G σ → World Σ' W S (binders G (substitute_type reduce σ A))
  subgoal_world m S bt c U A ct seq needs Σ' x G w σ v =
      let τ : ℕ → Image = patch U G σ in
      let (V, l) = worlded Σ ok W bt c m U A seq needs in
      let ct' : IsContext Σ' (scope c) = extension_keeps_contexts S Σ Σ' x (scope c) ct in
      let wl : World Σ' W S (onto (instance (binders [] A) τ) G) = (local_world Σ' x.ok (skeletons_beside [] (scope c)) W S (scope c) G U τ (λ B j. extension_keeps_contexts S Σ Σ' x (onto B.entries B.some) (bt B j)) w (patched Σ' x.ok U (scope c) G σ ct' (world_is_context w) v) (binders [] A) V (ground_sequence_grows S Σ Σ' x W (scope c) U (binders [] A) V l)).0 in
      subst (World Σ' W S) (sym (hypotheses_agree U m σ τ A G (patch_same U G σ) needs ∙ binders_substituted A τ G)) wl

module _ (Σ : Signature) (ok : IsSignature Σ) (W : List Block) (below : ℕ → ℕ → Bool) (s : IsSubordination Σ W below) where
  -- every typed tuple uses local variables of lower families at the chosen places
  pub places_low : (f : ℕ) (Σ' : Signature) → Extends (below f) Σ Σ' → (G D : List LfType) → World Σ' W (below f) (onto D G) → (m : List Bool) (S : Spine) (K : Kind) → PlacesBelow Σ below f K → IsKind Σ' (onto D G) K → SpineFitsKind Σ' (onto D G) S K → LowPlaces below D m S K
  places_low f Σ' x G D w [] S K p k t = tt
  places_low f Σ' x G D w (b ∷ m) nil K p k t = tt
  places_low f Σ' x G D w (b ∷ m) (app M S) star p k t = absurd t
  places_low f Σ' x G D w (true ∷ m) (app M S) (kind_pi A K) (d, b, fam, p) (a, k) (t, r) =
      let less : Within (below (target A)) (below f) = s.through f (target A) b in
      let c : IsContext Σ' (onto D G) = world_is_context w in (
        uses_low Σ' x.ok W (below (target A)) (SelfContained-extends Σ Σ' W (below (target A)) (extension_over_less (below f) (below (target A)) Σ Σ' less x) (s.self_contained (target A) d)) D G (world_types Σ' W (below f) (below (target A)) less ((s.self_contained (target A) d).entries_in) w) M A fam t,
        places_low f Σ' x G D w m S (instantiate_kind A M K) (places_substituted Σ W below s f reduce (single (skeleton A) M) K p) (substitution_keeps_kinds Σ' x.ok (A ∷ onto D G) (onto D G) (single (skeleton A) M) K (single_substitution_typed Σ' x.ok (onto D G) A M (skeleton_context_of Σ' x.ok (onto D G) c) (type_by_skeletons Σ' (onto D G) A a) t) k) r,
      )
  places_low f Σ' x G D w (false ∷ m) (app M S) (kind_pi A K) (d, b, fam, p) (a, k) (t, r) =
      let c : IsContext Σ' (onto D G) = world_is_context w in
      places_low f Σ' x G D w m S (instantiate_kind A M K) (places_substituted Σ W below s f reduce (single (skeleton A) M) K p) (substitution_keeps_kinds Σ' x.ok (A ∷ onto D G) (onto D G) (single (skeleton A) M) K (single_substitution_typed Σ' x.ok (onto D G) A M (skeleton_context_of Σ' x.ok (onto D G) c) (type_by_skeletons Σ' (onto D G) A a) t) k) r

  -- The theorem: where such tuples of a subgoal are covered, its outputs are
  pub low_cover : (m : ℕ → List Mark) (f : ℕ) → ((B : Block) → Member B W → IsContext Σ (onto B.entries B.some)) → (c : Clause) (U : ℕ → Bool) (i : ℕ) (A : LfType) → IsContext Σ (scope c) → IsSubgoal c i A → IsSequence Σ W (scope c) (binders [] A) → UsesGoal U (input_places (m (target A))) A → ((K : Kind) → Σ.kinds (target A) ≡ Some K → PlacesBelow Σ below f K) → CoveredLowOutputs Σ below m W (below f) c U A → CoveredOutputs Σ m W (below f) c U A
  low_cover m f bt c U i A ct (var, at) seq needs low cover Σ' x G w h θ off σ v o ts T K e p fit =
      let P : LfType = substitute_type reduce σ A in
      let r : binders G P ≡ onto (binders [] P) G = binders_over [] P G in
      let w' : World Σ' W (below f) (onto (binders [] P) G) = subst (World Σ' W (below f)) r (subgoal_world Σ ok W (input_places (m (target A))) (below f) bt c U A ct seq needs Σ' x G w σ v) in
      let (K0, e0, s0) = end_typed Σ ok A (scope c) (declared_is_type Σ ok (scope c) i A ct at) in
      let k : K0 ≡ K = some_inj (sym (x.kinds_stay (target A) K0 e0) ∙ e) in
      let pb : PlacesBelow Σ below f K = subst (PlacesBelow Σ below f) k (low K0 e0) in
      cover Σ' x G w h θ off σ v o ts T K e p fit (subst (IsContext Σ') (sym r) (world_is_context w')) (places_low f Σ' x G (binders [] P) w' (output_places (m (target A))) T K pb (family_kind Σ' x.ok (onto (binders [] P) G) (target A) K e) (subst (λ X. SpineFitsKind Σ' X T K) r fit))
