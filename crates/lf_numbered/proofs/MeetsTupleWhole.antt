-- Values of some variables of a context, with fresh variables for the others, written: typed values of all, and what a pattern has by them.
use Rattle.std.proofs.Common.{◌≡◌, ℕ, List, [], length, refl, sym, ap, ◌∙◌, subst}
use Rattle.std.specs.Prelude.{Bool, true}
use Rattle.lf.specs.Syntax.{Spine, LfType, rename_spine}
use Rattle.lf.specs.Substitution.{Image, keep, put, rename_image, substitute_image, substitute_spine, substitute_type, reduce, after}
use Rattle.lf.specs.AtOnce.{lift_renaming_by}
use Rattle.lf.specs.Skeletons.{constant_skeletons, context_skeletons, family_skeletons}
use Rattle.lf.specs.Typing.{Signature, IsTypedSubstitution, IsType, IsContext, IsSignature}
use Rattle.lf.specs.Variables.{target_arguments, binders, Values}
use Rattle.lf.specs.Worlds.{lift_over}
use Rattle.lf.proofs.Renaming.{substitute_renamed}
use Rattle.lf.proofs.SkeletonTypes.{substitutions_compose_type}
use Rattle.lf.proofs.Substitution.{typed_substitution_by_skeletons}
use Rattle.lf.proofs.ToSkeletons.{type_by_skeletons}
use Rattle.lf_checks.specs.Ground.{UsesGoal}
use Rattle.lf_checks.specs.Marks.{SamePlaces}
use Rattle.lf_coverage.proofs.Forms.{lift_same}
use Rattle.lf_coverage.proofs.FreshValues.{goal_moved}
use Rattle.lf_numbered.proofs.MeetsInstanceOutside.{image_put}
use Rattle.lf_numbered.proofs.NumberedTuplesFresh.{LongerWritten, longer_written, spine_both}
use Rattle.lf_numbered.proofs.NumberedTuplesWritten.{binders_put, goal_put}
use Rattle.lf_numbered.proofs.WritingTyped.{typed_after}
use mathlib.Core.Path.{fun_ext}

-- an image renamed, with values put in
pub image_written : (f : ℕ → ℕ) (k : ℕ → Image) (x : Image) → substitute_image k (rename_image f x) ≡ substitute_image (λ i. k (f i)) x
image_written f k (keep i) = refl
image_written f k (put a N) = ap (put a) (substitute_renamed reduce k f N)

-- The typed values of a longer context that are written, over what they are written over
module _ (Σ : Signature) (ok : IsSignature Σ) (G F : List LfType) (cg : IsContext Σ G) (cf : IsContext Σ F) (ρ : ℕ → Image) (tρ : IsTypedSubstitution Σ G F ρ) (Y : List LfType) (cy : IsContext Σ Y) (U : ℕ → Bool) (τ : ℕ → Image) (v : Values Σ U Y G τ) where
  abbrev pub long : LongerWritten Σ U Y G F τ ρ
  long = longer_written Σ ok G F cg cf ρ tρ Y U τ cy v

  abbrev pub whole : ℕ → Image
  whole = after long.writes long.long.values

  pub whole_typed : IsTypedSubstitution Σ Y long.written whole
  whole_typed = typed_after Σ ok Y long.long.context long.written long.long.values long.writes cy long.long.is_context long.is_context long.long.typed long.typed

  pub whole_used : (i : ℕ) → U i ≡ true → whole i ≡ rename_image long.moves (substitute_image ρ (τ i))
  whole_used i u =
      ap (substitute_image long.writes) (sym (long.long.same i u))
      ∙ image_written long.long.moves long.writes (τ i)
      ∙ ap (λ k. substitute_image k (τ i)) (fun_ext long.same)
      ∙ sym (image_put long.moves ρ (τ i))

  -- and what a pattern has, written
  pub whole_goal : (b : List Bool) (P : LfType) (L : List LfType) (T : Spine) → IsType Σ Y P → length L ≡ length (binders [] P) → UsesGoal U b P → SamePlaces b T (target_arguments (substitute_type reduce τ P)) → SamePlaces b (rename_spine (lift_renaming_by (length L) long.moves) (substitute_spine reduce (lift_over L ρ) T)) (target_arguments (substitute_type reduce whole P))
  whole_goal b P L T t l uses s =
      let υ : ℕ → Image = long.long.values in
      let T1 : Spine = rename_spine (lift_renaming_by (length L) long.long.moves) T in
      let moved : SamePlaces b T1 (target_arguments (substitute_type reduce υ P)) = subst (λ n. SamePlaces b (rename_spine (lift_renaming_by n long.long.moves) T) (target_arguments (substitute_type reduce υ P))) (sym l) (goal_moved [] U long.long.moves τ υ long.long.same b P T uses s) in
      let both : substitute_type reduce long.writes (substitute_type reduce υ P) ≡ substitute_type reduce whole P = substitutions_compose_type (family_skeletons Σ) (constant_skeletons Σ) (context_skeletons Y) (context_skeletons long.long.context) (context_skeletons long.written) υ long.writes P (typed_substitution_by_skeletons Σ ok Y long.long.context υ long.long.typed) (typed_substitution_by_skeletons Σ ok long.long.context long.written long.writes long.typed) (type_by_skeletons Σ Y P t) in
      let lifts : lift_over (binders [] (substitute_type reduce υ P)) long.writes ≡ lift_over L long.writes = lift_same (binders [] (substitute_type reduce υ P)) L long.writes (binders_put [] [] υ P refl ∙ sym l) in
      subst (λ V. SamePlaces b V (target_arguments (substitute_type reduce whole P))) (sym (spine_both Σ ok G F cg cf ρ tρ U Y τ long L T))
      (subst (λ k. SamePlaces b (substitute_spine reduce k T1) (target_arguments (substitute_type reduce whole P))) lifts
      (subst (λ Z. SamePlaces b (substitute_spine reduce (lift_over (binders [] (substitute_type reduce υ P)) long.writes) T1) (target_arguments Z)) both (goal_put [] long.writes b (substitute_type reduce υ P) T1 moved)))
