-- A case for which nothing is given, whose arguments have the types of their places, is typed beside the pattern at each place.
use Rattle.std.proofs.Common.{◌≡◌, ℕ, zero, ◌⊎◌, List, [], ◌∷◌, length, inl, inr, refl, sym, ap, ◌∙◌, subst, Some}
use Rattle.std.specs.Prelude.{Bool, true, false, Option}
use Rattle.lf.specs.Syntax.{Term, Spine, nil, app, LfType, atom, Kind, kind_pi, star, base, skeleton, kind_skeleton, rename_spine}
use Rattle.lf.specs.Substitution.{Image, keep, put, substitute_spine, substitute_type, reduce}
use Rattle.lf.specs.AtOnce.{in_front, shift_by, lift_renaming_by}
use Rattle.lf.specs.Entries.{quantifiers}
use Rattle.lf.specs.SkeletonTyping.{SpineSkeleton}
use Rattle.lf.specs.Skeletons.{constant_skeletons, context_skeletons}
use Rattle.lf.specs.Typing.{Signature, SpineFitsKind, IsType, IsContext, IsSignature, IsTypedRenaming, IsTypedSubstitution}
use Rattle.lf.specs.Variables.{target, target_arguments, binders, nothing, onto}
use Rattle.lf.specs.Subordination.{Block, AreTypedBlocks, Member}
use Rattle.lf.specs.Worlds.{lift_over, instance}
use Rattle.lf.specs.Extension.{Extends}
use Rattle.lf.proofs.Target.{target_of}
use Rattle.lf.proofs.ToSkeletons.{kind_spine_has_skeleton}
use Rattle.lf.proofs.TypeLaws.{substitute_identity_kind}
use Rattle.lf_checks.specs.Marks.{MentionChosenOnly, SamePlaces, TypedPlaces, TypedPlacesFrom}
use Rattle.lf_cases.specs.Candidates.{given_images}
use Rattle.lf_cases.specs.Case.{covered_places}
use Rattle.lf_cases.specs.Missing.{blocks_with}
use Rattle.lf_cases.specs.OutputGoal.{renumber}
use Rattle.lf_cases.specs.Pattern.{Pattern}
use Rattle.lf_cases.proofs.Assemble.{end_typed}
use Rattle.lf_cases.proofs.Calls.{inputs_same}
use Rattle.lf_cases.proofs.Local.{binders_substituted}
use Rattle.lf_totality.proofs.RaisedOutputs.{binders_over}
use Rattle.lf_coverage.specs.Leaf.{IsTypedPattern}
use Rattle.lf_coverage.specs.TypedCase.{TypedArguments}
use Rattle.lf_coverage.proofs.GivenValues.{local_renames}
use Rattle.lf_coverage.proofs.Parts.{some_same}
use Rattle.lf_numbered.specs.EntryConstants.{IsFreeFrom, with_entries}
use Rattle.lf_numbered.specs.EntryPatternsMatching.{placed_type}
use Rattle.lf_numbered.specs.MeetsReady.{AreTypedBeside, HasTypedPlaces, IsTypedAtPlace, TypedPlacesAreBeside, InputMeetStoreIsReady}
use Rattle.lf_numbered.specs.NewBlock.{rename_all, with_new_block}
use Rattle.lf_numbered.specs.NumberedCallsStores.{Identifies, identified}
use Rattle.lf_numbered.specs.NumberedCase.{NumberedCase}
use Rattle.lf_numbered.specs.NumberedInstance.{moved_constant, move_all, move_types}
use Rattle.lf_numbered.specs.OwnTerms.{blocks_of}
use Rattle.lf_numbered.specs.TypedNumbered.{IsTypedNumberedCase}
use Rattle.lf_numbered.proofs.EntryPatternsMatching.{entries_signature}
use Rattle.lf_numbered.proofs.EntrySignature.{entries_kept}
use Rattle.lf_numbered.proofs.IdentifiedConstants.{old_stays}
use Rattle.lf_numbered.proofs.MeetsReadyArguments.{places_renamed, turned_arguments, typed_renamed}
use Rattle.lf_numbered.proofs.MeetsReadyClosed.{closed_instance, closed_renumbered, none_given, none_put, onto_nothing}
use Rattle.lf_numbered.proofs.MeetsReadyIdentified.{kinds, types, plain}
use Rattle.lf_numbered.proofs.MeetsReadyMeets.{place_ready, beside_more}
use Rattle.lf_numbered.proofs.MeetsReadyPlaces.{Placed, settled}
use Rattle.lf_numbered.proofs.MeetsReadyStores.{placed_behind, placed_typed}
use Rattle.lf_numbered.proofs.MoreWorlds.{case_with_more, with_more}
use Rattle.lf_numbered.proofs.MovedConstants.{context_old, onto_moved, blocks_stay}
use Rattle.lf_numbered.proofs.NumberedBesideTerms.{pattern_more}
use Rattle.lf_numbered.proofs.NumberedSplits.{places_renamed as covered_renamed}
use Rattle.lf_numbered.proofs.OwnStoresNewBlock.{extends, renames}

same_self : (m : List Bool) (S : Spine) (Σ : Signature) (G : List LfType) (θ : ℕ → Image) (K : Kind) → TypedPlacesFrom Σ m G θ S K → SamePlaces m S S
same_self [] nil Σ G θ K t = tt
same_self [] (app M S) Σ G θ K t = absurd t
same_self (true ∷ m) nil Σ G θ K t = absurd t
same_self (false ∷ m) nil Σ G θ K t = absurd t
same_self (true ∷ m) (app M S) Σ G θ star t = absurd t
same_self (false ∷ m) (app M S) Σ G θ star t = absurd t
same_self (true ∷ m) (app M S) Σ G θ (kind_pi A K) (n, t) = (refl, same_self m S Σ G (in_front (put (skeleton A) M) θ) K t)
same_self (false ∷ m) (app M S) Σ G θ (kind_pi A K) t = same_self m S Σ G (in_front (put (skeleton A) M) θ) K t

-- With a new block variable
module _ (Σ : Signature) (ok : IsSignature Σ) (V : List Block) (typed : AreTypedBlocks Σ V) (first : ℕ) (free : IsFreeFrom Σ first) (C : NumberedCase) (tc : IsTypedNumberedCase Σ first V C) (K : Kind) (h : HasTypedPlaces (with_entries Σ first (blocks_of C.blocks)) C K) (B : Block) (m : Member B V) where
  pub more_places : HasTypedPlaces (with_entries Σ first (blocks_of (with_new_block B C).blocks)) (with_new_block B C) K
  more_places =
      let ρ : ℕ → ℕ = lift_renaming_by (length C.local) (shift_by (length B.some)) in
      let Σ₁ : Signature = with_entries Σ first (blocks_of C.blocks) in
      let Σ₂ : Signature = with_entries Σ first (blocks_of (with_new_block B C).blocks) in
      let x : Extends nothing Σ₁ Σ₂ = extends Σ ok V typed first free C tc B m in
      let same : covered_places (rename_all ρ C.arguments) ≡ covered_places C.arguments = covered_renamed ρ C.arguments in
      let H : List LfType = onto (renumber (shift_by (length B.some)) C.local) (onto B.some C.variables) in
      let t : TypedPlacesFrom Σ₂ (covered_places C.arguments) H (λ i. keep (ρ i)) (rename_spine ρ h.tuple) K = typed_renamed Σ₁ Σ₂ x.ok x (onto C.local C.variables) H ρ (local_renames Σ₂ x.ok C.local C.variables (onto B.some C.variables) (shift_by (length B.some)) (renames Σ ok V typed first free C tc B m)) (covered_places C.arguments) keep h.tuple K h.typed in
      record {
        mention = subst (λ b. MentionChosenOnly nothing b K) (sym same) h.mention;
        tuple = rename_spine ρ h.tuple;
        are = places_renamed ρ C.arguments h.tuple h.are;
        typed = subst (λ b. TypedPlaces Σ₂ b H (rename_spine ρ h.tuple) K) (sym same) (inputs_same Σ₂ nothing (covered_places C.arguments) H (λ i. keep (ρ i)) keep (rename_spine ρ h.tuple) (rename_spine ρ h.tuple) K h.mention (λ i u. absurd cc) (same_self (covered_places C.arguments) (rename_spine ρ h.tuple) Σ₂ H (λ i. keep (ρ i)) K t) t);
      }

-- At a place, of a case that is identified from D
module _ (Σ : Signature) (ok : IsSignature Σ) (V : List Block) (typed : AreTypedBlocks Σ V) (first : ℕ) (free : IsFreeFrom Σ first) (D : NumberedCase) (td : IsTypedNumberedCase Σ first V D) (none : D.given ≡ []) (p : Pattern) (tp : IsTypedPattern Σ p) (closed : IsContext Σ (binders [] p.type)) (same_local : D.local ≡ binders [] p.type) (K : Kind) (e : Σ.kinds (target p.type) ≡ Some K) (h : HasTypedPlaces (with_entries Σ first (blocks_of D.blocks)) D K) (π : ℕ → ℕ) (is : Identifies D π) (φ : ℕ → Image) (outer : IsTypedSubstitution (with_entries Σ first (blocks_of D.blocks)) p.clause.outer (identified first π D).variables φ) where
  abbrev Σ₁ : Signature
  Σ₁ = with_entries Σ first (blocks_of D.blocks)

  abbrev γ : ℕ → ℕ
  γ = moved_constant first (blocks_of D.blocks) (blocks_of D.blocks) π

  abbrev J : NumberedCase
  J = identified first π D

  abbrev n : ℕ
  n = quantifiers p.clause.type

  abbrev X : List LfType
  X = binders (identified first π D).variables (substitute_type reduce φ p.clause.type)

  abbrev T : LfType
  T = placed_type p φ

  abbrev L : List LfType
  L = renumber (shift_by (quantifiers p.clause.type)) (identified first π D).local

  ok₁ : IsSignature Σ₁
  ok₁ = entries_signature Σ ok V typed first free D td

  x : Extends nothing Σ Σ₁
  x = record { ok = ok₁; types_stay = entries_kept Σ first (blocks_of D.blocks); kinds_stay = λ a K e. e; no_new = λ c A e s. absurd cc }

  tp₁ : IsTypedPattern Σ₁ p
  tp₁ = pattern_more nothing Σ Σ₁ x V p tp

  cv : IsContext Σ₁ J.variables
  cv = (plain Σ ok V typed first free D td π is).variables

  local_is : J.local ≡ binders [] p.type
  local_is = ap (move_types γ) same_local ∙ context_old Σ γ (old_stays Σ ok V typed first free D td.variables π is) (binders [] p.type) closed

  placed_local : binders [] T ≡ binders [] p.type
  placed_local = binders_substituted p.type (lift_over (binders [] p.clause.type) φ) [] ∙ onto_nothing (instance (binders [] p.type) (lift_over (binders [] p.clause.type) φ)) ∙ closed_instance Σ (binders [] p.type) (lift_over (binders [] p.clause.type) φ) closed

  locals_same : L ≡ binders [] T
  locals_same = ap (renumber (shift_by n)) local_is ∙ closed_renumbered Σ (binders [] p.type) (shift_by n) closed ∙ sym placed_local

  fits : SpineFitsKind Σ₁ (onto (binders [] T) X) (target_arguments T) K
  fits = by (end_typed Σ₁ ok₁ T X (placed_typed Σ₁ ok₁ J.variables cv p tp₁ φ outer))
    where
      by : IsType Σ₁ (binders X T) (atom (target T) (target_arguments T)) → SpineFitsKind Σ₁ (onto (binders [] T) X) (target_arguments T) K
      by (K', q, s) = subst (SpineFitsKind Σ₁ (onto (binders [] T) X) (target_arguments T)) (some_same (sym q ∙ ap Σ.kinds (target_of reduce (lift_over (binders [] p.clause.type) φ) p.type) ∙ e)) (subst (λ G. SpineFitsKind Σ₁ G (target_arguments T) K') (binders_over [] T X) s)

  abbrev R : List (Option Term) → Spine
  R Ms = substitute_spine reduce (lift_over (binders [] (placed_type p φ)) (given_images X Ms zero)) (target_arguments (placed_type p φ))

  typed_arguments : TypedArguments Σ₁ (onto L X) (rename_all (lift_renaming_by (length J.local) (shift_by n)) J.arguments) (R []) K
  typed_arguments =
      let ρ : ℕ → ℕ = lift_renaming_by (length J.local) (shift_by n) in
      let r : IsTypedRenaming (move_types γ (onto D.local D.variables)) (onto L X) ρ = subst (λ G. IsTypedRenaming G (onto L X) ρ) (sym (onto_moved γ D.local D.variables)) (local_renames Σ₁ ok₁ J.local J.variables X (shift_by n) (placed_behind Σ₁ ok₁ J.variables cv p tp₁ φ outer)) in
      let q : SpineSkeleton (constant_skeletons Σ₁) (context_skeletons (onto L X)) (R []) (kind_skeleton 0 K) (base 0) = subst (λ E. SpineSkeleton (constant_skeletons Σ₁) (context_skeletons (onto E X)) (R []) (kind_skeleton 0 K) (base 0)) (sym locals_same) (subst (λ S. SpineSkeleton (constant_skeletons Σ₁) (context_skeletons (onto (binders [] T) X)) S (kind_skeleton 0 K) (base 0)) (sym (none_put X (binders [] T) (target_arguments T))) (kind_spine_has_skeleton Σ₁ 0 (onto (binders [] T) X) (target_arguments T) K fits)) in
      subst (TypedArguments Σ₁ (onto L X) (rename_all ρ J.arguments) (R [])) (substitute_identity_kind reduce K)
      (turned_arguments Σ Σ₁ ok₁ x γ (old_stays Σ ok V typed first free D td.variables π is) (types Σ ok V typed first free D td π is) (kinds Σ ok V typed first free D td π is) (onto D.local D.variables) (onto L X) ρ r nothing [] keep keep D.arguments h.tuple (R []) K (ok.kinds_ok (target p.type) K e) h.mention h.typed h.are (λ i t g. absurd g) (λ i u. absurd cc) q)

  pub beside_place : IsTypedAtPlace Σ₁ J p φ K
  beside_place = subst (λ Ms. AreTypedBeside Σ₁ X L (rename_all (shift_by n) (move_all γ Ms)) (rename_all (lift_renaming_by (length J.local) (shift_by n)) J.arguments) T K) (sym none) (record {
    given = λ i A M g q. absurd cc;
    local = locals_same ∙ sym (ap (instance (binders [] T)) (none_given X) ∙ closed_instance Σ (binders [] T) keep (subst (IsContext Σ) (sym placed_local) closed));
    arguments = typed_arguments;
  })

pub typed_places_are_beside : TypedPlacesAreBeside
typed_places_are_beside Σ ok W first free C tc none p tp typed closed local K e h π is J φ at =
    let V : List Block = blocks_with p.origin W in
    let s : Placed Σ first V C π p.clause J φ = settled Σ ok W first free C tc π is p.clause p.origin p.at_first typed J φ at in
    let tv : IsTypedNumberedCase Σ first V C = case_with_more Σ first W V (with_more p.origin W) C tc in
    let (g, l, k) = from V typed tv s.from s.comes in
    let beside : IsTypedAtPlace (with_entries Σ first (blocks_of s.from.blocks)) (identified first π s.from) p φ K = beside_place Σ ok V typed first free s.from s.typed g p tp closed l K e k π s.identifies φ (subst (λ (H : NumberedCase). IsTypedSubstitution (with_entries Σ first (blocks_of s.from.blocks)) p.clause.outer H.variables φ) (sym s.becomes) s.outer) in
    subst (λ (H : NumberedCase). IsTypedAtPlace (with_entries Σ first (blocks_of H.blocks)) H p φ K) s.becomes (subst (λ Bs. IsTypedAtPlace (with_entries Σ first Bs) (identified first π s.from) p φ K) (sym (blocks_stay _ s.from.blocks)) beside)
  where
    from : (V : List Block) → AreTypedBlocks Σ V → IsTypedNumberedCase Σ first V C → (D : NumberedCase) → (D ≡ C) ⊎ ((B : Block) × Member B V × (D ≡ with_new_block B C)) → (D.given ≡ []) × (D.local ≡ binders [] p.type) × HasTypedPlaces (with_entries Σ first (blocks_of D.blocks)) D K
    from V tb tv D (inl q) = (ap (λ (H : NumberedCase). H.given) q ∙ none, ap (λ (H : NumberedCase). H.local) q ∙ local, subst (λ (H : NumberedCase). HasTypedPlaces (with_entries Σ first (blocks_of H.blocks)) H K) (sym q) h)
    from V tb tv D (inr (B, m, q)) = (
      ap (λ (H : NumberedCase). H.given) q ∙ ap (rename_all (shift_by (length B.some))) none,
      ap (λ (H : NumberedCase). H.local) q ∙ ap (renumber (shift_by (length B.some))) local ∙ closed_renumbered Σ (binders [] p.type) (shift_by (length B.some)) closed,
      subst (λ (H : NumberedCase). HasTypedPlaces (with_entries Σ first (blocks_of H.blocks)) H K) (sym q) (more_places Σ ok V tb first free C tv K h B m),
    )

pub input_meet_store_is_ready : InputMeetStoreIsReady
input_meet_store_is_ready Σ ok W first free C tc none p tp typed closed local K e h π is J φ at Σe x = place_ready Σ ok W first free C tc p typed π is J φ at tp K e Σe x (beside_more (with_entries Σ first (blocks_of J.blocks)) Σe x _ _ _ _ _ K (typed_places_are_beside Σ ok W first free C tc none p tp typed closed local K e h π is J φ at))
