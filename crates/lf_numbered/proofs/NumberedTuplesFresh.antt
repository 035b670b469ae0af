-- Values of some variables of a context, with fresh variables for the others, written: both what the values stand in and what they are written over get longer.
use Rattle.std.proofs.Common.{◌≡◌, ℕ, zero, suc, List, [], ◌∷◌, length, refl, sym, ap, ◌∙◌, subst, true≢false}
use Rattle.std.specs.Prelude.{Bool, true, false}
use Rattle.lf.specs.Syntax.{Spine, LfType, rename_spine, rename_type}
use Rattle.lf.specs.Substitution.{Image, keep, put, lift, rename_image, substitute_spine, substitute_type, reduce}
use Rattle.lf.specs.AtOnce.{in_front, lift_renaming_by}
use Rattle.lf.specs.Typing.{Signature, TypeAt, ImageHasType, IsTypedRenaming, IsTypedSubstitution, IsType, IsContext, IsSignature}
use Rattle.lf.specs.Variables.{Values, SameOn}
use Rattle.lf.specs.Worlds.{lift_over}
use Rattle.lf.proofs.Agreement.{agree_on_type}
use Rattle.lf.proofs.Kept.{uses_unren_type}
use Rattle.lf.proofs.Renaming.{rename_substituted_spine, substitute_renamed_spine, reduction_is_natural}
use Rattle.lf.proofs.Substitution.{TypedSubstitution, lifted_substitution_typed, skeleton_context_of, substitution_keeps_types}
use Rattle.lf.proofs.ToSkeletons.{type_by_skeletons}
use Rattle.lf.proofs.TypeLaws.{renamings_compose_type, rename_substituted_type, substitute_renamed_type}
use Rattle.lf.proofs.Weakening.{weakening_renames}
use Rattle.lf_cases.proofs.OutputItems.{lift_after}
use Rattle.lf_cases.proofs.Raised.{rename_identity_type}
use Rattle.lf_coverage.proofs.FreshValues.{Longer, behind_values, image_moved, image_twice, lift_over_moved, values_moved}
use Rattle.lf_coverage.proofs.GroundTyped.{front_typed}
use mathlib.Core.Path.{fun_ext}

pub record LongerWritten (Σ : Signature) (U : ℕ → Bool) (Q G F : List LfType) (τ ρ : ℕ → Image) : Type 0 where
  pub long : Longer Σ U Q G τ
  pub written : List LfType
  pub moves : ℕ → ℕ
  pub writes : ℕ → Image
  pub is_context : IsContext Σ written
  pub renames : IsTypedRenaming F written moves
  pub typed : IsTypedSubstitution Σ long.context written writes
  pub same : (i : ℕ) → writes (long.moves i) ≡ rename_image moves (ρ i)

image_kept : (x : Image) → rename_image (λ j. j) x ≡ x
image_kept (keep i) = refl
image_kept (put a N) = ap (put a) (Rattle.lf_cases.proofs.Raised.rename_identity N)

module _ (Σ : Signature) (ok : IsSignature Σ) (G F : List LfType) (cg : IsContext Σ G) (cf : IsContext Σ F) (ρ : ℕ → Image) (typed_writing : IsTypedSubstitution Σ G F ρ) where
  pub longer_written : (Q : List LfType) (U : ℕ → Bool) (τ : ℕ → Image) → IsContext Σ Q → Values Σ U Q G τ → LongerWritten Σ U Q G F τ ρ
  longer_written [] U τ c v = record {
    long = record {
      context = G;
      moves = λ i. i;
      values = λ i. rename_image (λ j. j) (τ i);
      is_context = cg;
      renames = λ i A g. subst (TypeAt G i) (sym (rename_identity_type A)) g;
      typed = λ i A g. absurd g;
      same = λ i u. refl;
    };
    written = F;
    moves = λ i. i;
    writes = ρ;
    is_context = cf;
    renames = λ i A g. subst (TypeAt F i) (sym (rename_identity_type A)) g;
    typed = typed_writing;
    same = λ i. sym (image_kept (ρ i));
  }
  longer_written (A ∷ Q) U τ (c, ta) v = by (longer_written Q (λ i. U (suc i)) (λ i. τ (suc i)) c (behind_values Σ ok [] (λ B m. absurd m) G cg U A Q τ v)) (U zero) refl
    where
      by : LongerWritten Σ (λ i. U (suc i)) Q G F (λ i. τ (suc i)) ρ → (b : Bool) → U zero ≡ b → LongerWritten Σ U (A ∷ Q) G F τ ρ
      by k true e = record {
        long = record {
          context = k.long.context;
          moves = k.long.moves;
          values = in_front (rename_image k.long.moves (τ zero)) k.long.values;
          is_context = k.long.is_context;
          renames = k.long.renames;
          typed = front_typed Σ ok [] (λ B m. absurd m) Q k.long.context A (rename_image k.long.moves (τ zero)) k.long.values k.long.typed here;
          same = same;
        };
        written = k.written;
        moves = k.moves;
        writes = k.writes;
        is_context = k.is_context;
        renames = k.renames;
        typed = k.typed;
        same = k.same;
      }
        where
          here : ImageHasType Σ k.long.context (rename_image k.long.moves (τ zero)) (substitute_type reduce k.long.values A)
          here = subst (ImageHasType Σ k.long.context (rename_image k.long.moves (τ zero))) (ap (rename_type k.long.moves) (substitute_renamed_type reduce τ suc A) ∙ rename_substituted_type reduce reduction_is_natural k.long.moves (λ i. τ (suc i)) A ∙ agree_on_type reduce (λ i. U (suc i)) (λ i. rename_image k.long.moves (τ (suc i))) k.long.values A k.long.same (uses_unren_type (λ j. U (suc j)) U suc A (λ j q. q) (v.closed zero (rename_type suc A) refl e))) (image_moved Σ ok G k.long.context k.long.moves (τ zero) (substitute_type reduce τ (rename_type suc A)) k.long.renames (v.typed zero (rename_type suc A) refl e))

          same : SameOn U (λ i. rename_image k.long.moves (τ i)) (in_front (rename_image k.long.moves (τ zero)) k.long.values)
          same zero u = refl
          same (suc i) u = k.long.same i u
      by k false e = record {
        long = record {
          context = substitute_type reduce k.long.values A ∷ k.long.context;
          moves = λ i. suc (k.long.moves i);
          values = in_front (keep zero) (λ i. rename_image suc (k.long.values i));
          is_context = (k.long.is_context, fresh);
          renames = λ i B g. (rename_type k.long.moves B, k.long.renames i B g, sym (renamings_compose_type suc k.long.moves B));
          typed = front_typed Σ ok [] (λ B m. absurd m) Q (substitute_type reduce k.long.values A ∷ k.long.context) A (keep zero) (λ i. rename_image suc (k.long.values i)) (values_moved Σ ok Q k.long.context (substitute_type reduce k.long.values A ∷ k.long.context) suc k.long.values (weakening_renames k.long.context (substitute_type reduce k.long.values A)) k.long.typed) (sym (rename_substituted_type reduce reduction_is_natural suc k.long.values A));
          same = same;
        };
        written = substitute_type reduce k.writes (substitute_type reduce k.long.values A) ∷ k.written;
        moves = λ i. suc (k.moves i);
        writes = lift k.writes;
        is_context = (k.is_context, substitution_keeps_types Σ ok k.long.context k.written k.writes (substitute_type reduce k.long.values A) writing fresh);
        renames = λ i B g. (rename_type k.moves B, k.renames i B g, sym (renamings_compose_type suc k.moves B));
        typed = (lifted_substitution_typed Σ ok k.long.context k.written k.writes (substitute_type reduce k.long.values A) writing (type_by_skeletons Σ k.long.context (substitute_type reduce k.long.values A) fresh)).typed;
        same = λ i. ap (rename_image suc) (k.same i) ∙ sym (image_twice k.moves (ρ i));
      }
        where
          fresh : IsType Σ k.long.context (substitute_type reduce k.long.values A)
          fresh = substitution_keeps_types Σ ok Q k.long.context k.long.values A (record { typed = k.long.typed; source_skeletons = skeleton_context_of Σ ok Q c; target_skeletons = skeleton_context_of Σ ok k.long.context k.long.is_context }) ta

          writing : TypedSubstitution Σ ok k.long.context k.written k.writes
          writing = record { typed = k.typed; source_skeletons = skeleton_context_of Σ ok k.long.context k.long.is_context; target_skeletons = skeleton_context_of Σ ok k.written k.is_context }

          same : SameOn U (λ i. rename_image (λ j. suc (k.long.moves j)) (τ i)) (in_front (keep zero) (λ i. rename_image suc (k.long.values i)))
          same zero u = absurd (true≢false (sym u ∙ e))
          same (suc i) u = image_twice k.long.moves (τ (suc i)) ∙ ap (rename_image suc) (k.long.same i u)

  -- A tuple written and then moved is the tuple moved and then written.
  pub spine_both : (U : ℕ → Bool) (Q : List LfType) (τ : ℕ → Image) (k : LongerWritten Σ U Q G F τ ρ) (L : List LfType) (T : Spine) → rename_spine (lift_renaming_by (length L) k.moves) (substitute_spine reduce (lift_over L ρ) T) ≡ substitute_spine reduce (lift_over L k.writes) (rename_spine (lift_renaming_by (length L) k.long.moves) T)
  spine_both U Q τ k L T =
      rename_substituted_spine reduce reduction_is_natural (lift_renaming_by (length L) k.moves) (lift_over L ρ) T
      ∙ ap (λ f. substitute_spine reduce f T) (fun_ext (lift_over_moved L k.moves ρ) ∙ sym (ap (lift_over L) (fun_ext k.same)) ∙ sym (lift_after L k.long.moves k.writes))
      ∙ sym (substitute_renamed_spine reduce (lift_over L k.writes) (lift_renaming_by (length L) k.long.moves) T)
