-- A case that is typed beside a pattern has its local context and its arguments typed at its place, where the clause's own variables are in front.
use Rattle.std.proofs.Common.{◌≡◌, ℕ, zero, ◌+◌, List, [], length, sym, ap, ap₂, ◌∙◌, subst}
use Rattle.std.specs.Prelude.{true, false}
use Rattle.lf.specs.Syntax.{Spine, LfType, atom, Kind, base, kind_skeleton}
use Rattle.lf.specs.Substitution.{Image, keep, substitute_spine, substitute_type, substitute_kind, reduce}
use Rattle.lf.specs.AtOnce.{shift_by, lift_renaming_by}
use Rattle.lf.specs.Entries.{quantifiers}
use Rattle.lf.specs.SkeletonTyping.{SpineSkeleton}
use Rattle.lf.specs.Skeletons.{constant_skeletons, context_skeletons}
use Rattle.lf.specs.Typing.{Signature, SpineFitsKind, IsType, IsContext, IsSignature, IsTypedSubstitution}
use Rattle.lf.specs.Variables.{target, target_arguments, binders, everything, onto}
use Rattle.lf.specs.Worlds.{lift_over, instance}
use Rattle.lf.proofs.Closed.{Agree, closed_kind_substituted}
use Rattle.lf.proofs.SkeletonTyping.{substitution_keeps_spine_skeletons}
use Rattle.lf.proofs.Substitution.{TypedSubstitution, skeleton_context_of, family_kind}
use Rattle.lf.proofs.ToSkeletons.{kind_by_skeletons, kind_spine_has_skeleton}
use Rattle.lf_checks.specs.Clause.{outside, scope}
use Rattle.lf_cases.specs.Candidates.{given_images}
use Rattle.lf_cases.specs.Missing.{put_in}
use Rattle.lf_cases.specs.OutputGoal.{renumber}
use Rattle.lf_cases.specs.Pattern.{Pattern, is_given}
use Rattle.lf_cases.proofs.Assemble.{end_typed}
use Rattle.lf_cases.proofs.BlockEntries.{onto_onto}
use Rattle.lf_cases.proofs.Local.{binders_substituted}
use Rattle.lf_cases.proofs.OutputItems.{lifted}
use Rattle.lf_totality.proofs.GoalHolds.{arguments_under}
use Rattle.lf_totality.proofs.RaisedOutputs.{binders_over}
use Rattle.lf_coverage.specs.Heads.{HaveSkeletons}
use Rattle.lf_coverage.specs.Leaf.{IsTypedPattern}
use Rattle.lf_coverage.specs.TypedCase.{TypedArguments}
use Rattle.lf_coverage.proofs.GivenValues.{onto_context}
use Rattle.lf_coverage.proofs.Meeting.{joined}
use Rattle.lf_coverage.proofs.Parts.{some_same}
use Rattle.lf_numbered.specs.EntryConstants.{with_entries}
use Rattle.lf_numbered.specs.EntryPatternsMatching.{placed_type}
use Rattle.lf_numbered.specs.EntryTerms.{beside_values, IsTypedBesideWith}
use Rattle.lf_numbered.specs.MeetsReady.{IsTypedAtPlace}
use Rattle.lf_numbered.specs.NewBlock.{rename_all}
use Rattle.lf_numbered.specs.NumberedCase.{NumberedCase}
use Rattle.lf_numbered.specs.OwnTerms.{blocks_of}
use Rattle.lf_numbered.proofs.MeetsReadyClosed.{onto_nothing}
use Rattle.lf_numbered.proofs.MeetsReadyGiven.{type_key, given_typed, ξ_typed, β_fits}
use Rattle.lf_numbered.proofs.MeetsReadyTurned.{all_put_renamed, arguments_put, local_renamed}
use Rattle.lf_numbered.proofs.OwnStoresCase.{local_typed}

module _ (Σ0 : Signature) (first : ℕ) (C : NumberedCase) (ok : IsSignature (with_entries Σ0 first (blocks_of C.blocks))) (cv : IsContext (with_entries Σ0 first (blocks_of C.blocks)) C.variables) (cl : IsContext (with_entries Σ0 first (blocks_of C.blocks)) (onto C.local C.variables)) (sg : HaveSkeletons (constant_skeletons (with_entries Σ0 first (blocks_of C.blocks))) (context_skeletons C.variables) C.given) (sa : HaveSkeletons (constant_skeletons (with_entries Σ0 first (blocks_of C.blocks))) (context_skeletons (onto C.local C.variables)) C.arguments) (p : Pattern) (tp : IsTypedPattern (with_entries Σ0 first (blocks_of C.blocks)) p) (own_given : (i : ℕ) → is_given C.given i ≡ true → outside p.clause.type everything i ≡ false) (φ : ℕ → Image) (φ_typed : IsTypedSubstitution (with_entries Σ0 first (blocks_of C.blocks)) p.clause.outer C.variables φ) (b : IsTypedBesideWith Σ0 first C p φ) where
  abbrev Σ : Signature
  Σ = with_entries Σ0 first (blocks_of C.blocks)

  abbrev O : List LfType
  O = scope p.clause

  abbrev n : ℕ
  n = quantifiers p.clause.type

  abbrev Y : List LfType
  Y = onto C.variables (scope p.clause)

  abbrev X : List LfType
  X = binders C.variables (substitute_type reduce φ p.clause.type)

  abbrev T : LfType
  T = placed_type p φ

  abbrev g : ℕ → Image
  g = given_images X (rename_all (shift_by n) C.given) zero

  -- the case's variables moved past the clause's own, which stay, with φ for what is outside
  abbrev ξ : ℕ → Image
  ξ = joined C.variables (λ i. keep (i + n)) (lift_over (binders [] p.clause.type) φ)

  cx : IsContext Σ X
  cx = Rattle.lf_numbered.proofs.MeetsReadyGiven.cx Σ0 first C ok cv cl sg sa p tp own_given φ φ_typed b

  co : IsContext Σ O
  co = tp.clause_typed

  cy : IsContext Σ Y
  cy = Rattle.lf_numbered.proofs.MeetsReadyGiven.cy Σ0 first C ok cv cl sg sa p tp own_given φ φ_typed b

  near : Agree C.variables ξ (λ i. keep (i + n))
  near = Rattle.lf_numbered.proofs.MeetsReadyGiven.near Σ0 first C ok cv cl sg sa p tp own_given φ φ_typed b

  same_end : substitute_type reduce ξ (substitute_type reduce (beside_values C p φ) p.type) ≡ substitute_type reduce g T
  same_end = type_key Σ0 first C ok cv cl sg sa p tp own_given φ φ_typed b p.type tp.type_typed

  local_of : (P : LfType) (s : ℕ → Image) → binders [] (substitute_type reduce s P) ≡ instance (binders [] P) s
  local_of P s = binders_substituted P s [] ∙ onto_nothing (instance (binders [] P) s)

  case_local : C.local ≡ binders [] (substitute_type reduce (beside_values C p φ) p.type)
  case_local = b.local ∙ sym (local_of p.type (beside_values C p φ))

  moved_local : instance C.local ξ ≡ instance (binders [] T) g
  moved_local = ap (λ L. instance L ξ) case_local ∙ sym (local_of (substitute_type reduce (beside_values C p φ) p.type) ξ) ∙ ap (binders []) same_end ∙ local_of T g

  arguments_typed : TypedArguments Σ (onto (renumber (shift_by n) C.local) X) (rename_all (lift_renaming_by (length C.local) (shift_by n)) C.arguments) (substitute_spine reduce (lift_over (binders [] T) g) (target_arguments T)) b.kind
  arguments_typed =
      let L : List LfType = C.local in
      let K : Kind = b.kind in
      let D : List LfType = binders [] p.type in
      let S : Spine = target_arguments p.type in
      let R : Spine = substitute_spine reduce (lift_over D (beside_values C p φ)) S in
      let cl' : IsContext Σ (onto L Y) = subst (IsContext Σ) (onto_onto L C.variables O) (onto_context Σ ok (onto L C.variables) O cl co) in
      let (dc, ds) = local_typed Σ ok Y X ξ cy cx (ξ_typed Σ0 first C ok cv cl sg sa p tp own_given φ φ_typed b) L cl' in
      let w : TypedSubstitution Σ ok (onto L Y) (onto (instance L ξ) X) (lift_over L ξ) = record { typed = ds; source_skeletons = skeleton_context_of Σ ok (onto L Y) cl'; target_skeletons = skeleton_context_of Σ ok (onto (instance L ξ) X) dc } in
      let rs : SpineSkeleton (constant_skeletons Σ) (context_skeletons (onto L Y)) R (kind_skeleton 0 K) (base 0) = subst (λ E. SpineSkeleton (constant_skeletons Σ) (context_skeletons (onto E Y)) R (kind_skeleton 0 K) (base 0)) (sym b.local) (substitution_keeps_spine_skeletons (constant_skeletons Σ) (context_skeletons (onto D O)) (context_skeletons (onto (instance D (beside_values C p φ)) Y)) (lift_over D (beside_values C p φ)) S (kind_skeleton 0 K) (base 0) (lifted Σ D O Y (beside_values C p φ) (β_fits Σ0 first C ok cv cl sg sa p tp own_given φ φ_typed b)) (kind_spine_has_skeleton Σ 0 (onto D O) S K (fits (end_typed Σ ok p.type O tp.type_typed)))) in
      let put : TypedArguments Σ (onto (instance L ξ) X) (put_in (lift_over L ξ) C.arguments) (substitute_spine reduce (lift_over L ξ) R) (substitute_kind reduce (lift_over L ξ) K) = arguments_put Σ ok (onto L Y) (onto (instance L ξ) X) (lift_over L ξ) w C.arguments R K (kind_by_skeletons Σ (onto L Y) K (family_kind Σ ok (onto L Y) (target p.type) K b.of_family)) rs b.arguments in
      let P : LfType = substitute_type reduce (beside_values C p φ) p.type in
      let spine : substitute_spine reduce (lift_over L ξ) R ≡ substitute_spine reduce (lift_over (binders [] T) g) (target_arguments T) =
      ap₂ (λ E Z. substitute_spine reduce (lift_over E ξ) Z) case_local (sym (arguments_under [] p.type (beside_values C p φ))) ∙ sym (arguments_under [] P ξ) ∙ ap target_arguments same_end ∙ arguments_under [] T g in
      subst (TypedArguments Σ (onto (renumber (shift_by n) L) X) (rename_all (lift_renaming_by (length L) (shift_by n)) C.arguments) (substitute_spine reduce (lift_over (binders [] T) g) (target_arguments T))) (closed_kind_substituted Σ reduce (lift_over L ξ) K (ok.kinds_ok (target p.type) K b.of_family))
      (subst (λ Z. TypedArguments Σ (onto (renumber (shift_by n) L) X) (rename_all (lift_renaming_by (length L) (shift_by n)) C.arguments) Z (substitute_kind reduce (lift_over L ξ) K)) spine
      (subst (λ Ns. TypedArguments Σ (onto (renumber (shift_by n) L) X) Ns (substitute_spine reduce (lift_over L ξ) R) (substitute_kind reduce (lift_over L ξ) K)) (all_put_renamed Σ C.variables ξ (shift_by n) near L C.arguments cl sa)
      (subst (λ E. TypedArguments Σ (onto E X) (put_in (lift_over L ξ) C.arguments) (substitute_spine reduce (lift_over L ξ) R) (substitute_kind reduce (lift_over L ξ) K)) (local_renamed Σ C.variables ξ (shift_by n) near L cl) put)))
    where
      fits : IsType Σ (binders O p.type) (atom (target p.type) (target_arguments p.type)) → SpineFitsKind Σ (onto (binders [] p.type) O) (target_arguments p.type) b.kind
      fits (K', e, s) = subst (SpineFitsKind Σ (onto (binders [] p.type) O) (target_arguments p.type)) (some_same (sym e ∙ b.of_family)) (subst (λ G. SpineFitsKind Σ G (target_arguments p.type) K') (binders_over [] p.type O) s)

  pub beside_at_place : IsTypedAtPlace Σ C p φ b.kind
  beside_at_place = record {
    given = given_typed Σ0 first C ok cv cl sg sa p tp own_given φ φ_typed b;
    local = sym (local_renamed Σ C.variables ξ (shift_by n) near C.local cl) ∙ moved_local;
    arguments = arguments_typed;
  }
