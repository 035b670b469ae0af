-- Values of some variables of a context, with fresh variables of their types for the others, in a context that is longer by these.
use Rattle.std.proofs.Common.{◌≡◌, ℕ, zero, suc, List, [], ◌∷◌, length, refl, sym, ap, ◌∙◌, subst, true≢false}
use Rattle.std.specs.Prelude.{Bool, true, false, Option, Some, None}
use Rattle.lf.specs.Syntax.{Term, Spine, nil, app, LfType, pi, atom, rename, rename_spine, rename_type}
use Rattle.lf.specs.Substitution.{Image, keep, put, lift, rename_image, substitute, substitute_spine, substitute_type, reduce}
use Rattle.lf.specs.AtOnce.{in_front, lift_renaming_by}
use Rattle.lf.specs.Typing.{Signature, TypeAt, ImageHasType, IsTypedRenaming, IsTypedSubstitution, IsContext, IsSignature}
use Rattle.lf.specs.Variables.{target_arguments, binders, Values, SameOn, under}
use Rattle.lf.specs.Subordination.{Block, AreTypedBlocks}
use Rattle.lf.specs.Worlds.{lift_over}
use Rattle.lf.proofs.Agreement.{SameOn-under, agree_on, agree_on_type}
use Rattle.lf.proofs.Kept.{uses_unren_type}
use Rattle.lf.proofs.Renaming.{rename_lift, rename_substituted, renamings_compose, reduction_is_natural}
use Rattle.lf.proofs.Substitution.{skeleton_context_of, substitution_keeps_types}
use Rattle.lf.proofs.TypeLaws.{skeleton_renamed, renamings_compose_type, rename_substituted_type, substitute_renamed_type}
use Rattle.lf.proofs.Weakening.{renaming_keeps_typing, weakening_renames}
use Rattle.lf_checks.specs.Ground.{UsesGoal}
use Rattle.lf_checks.specs.Marks.{SamePlaces, UsesPlaces}
use Rattle.lf_cases.specs.Case.{HasArguments}
use Rattle.lf_cases.proofs.Raised.{rename_identity_type}
use Rattle.lf_coverage.proofs.GroundTyped.{front_typed}
use mathlib.Core.Path.{fun_ext}

-- An image and its type move.
pub image_moved : (Σ : Signature) → IsSignature Σ → (G H : List LfType) (ρ : ℕ → ℕ) (x : Image) (A : LfType) → IsTypedRenaming G H ρ → ImageHasType Σ G x A → ImageHasType Σ H (rename_image ρ x) (rename_type ρ A)
image_moved Σ ok G H ρ (keep j) A r h = r j A h
image_moved Σ ok G H ρ (put a N) A r (e, n) = (skeleton_renamed ρ A ∙ e, renaming_keeps_typing Σ ok G H ρ N A r n)

pub values_moved : (Σ : Signature) → IsSignature Σ → (C G H : List LfType) (ρ : ℕ → ℕ) (σ : ℕ → Image) → IsTypedRenaming G H ρ → IsTypedSubstitution Σ C G σ → IsTypedSubstitution Σ C H (λ i. rename_image ρ (σ i))
values_moved Σ ok C G H ρ σ r t i A g = subst (ImageHasType Σ H (rename_image ρ (σ i))) (rename_substituted_type reduce reduction_is_natural ρ σ A) (image_moved Σ ok G H ρ (σ i) (substitute_type reduce σ A) r (t i A g))

pub image_twice : (ρ : ℕ → ℕ) (x : Image) → rename_image (λ i. suc (ρ i)) x ≡ rename_image suc (rename_image ρ x)
image_twice ρ (keep i) = refl
image_twice ρ (put a N) = ap (put a) (sym (renamings_compose suc ρ N))

-- the longer context, and the values in it
pub record Longer (Σ : Signature) (U : ℕ → Bool) (Q G : List LfType) (τ : ℕ → Image) : Type 0 where
  pub context : List LfType
  pub moves : ℕ → ℕ
  pub values : ℕ → Image
  pub is_context : IsContext Σ context
  pub renames : IsTypedRenaming G context moves
  pub typed : IsTypedSubstitution Σ Q context values
  pub same : SameOn U (λ i. rename_image moves (τ i)) values

module _ (Σ : Signature) (ok : IsSignature Σ) (W : List Block) (blocks : AreTypedBlocks Σ W) (G : List LfType) (cg : IsContext Σ G) where
  pub behind_values : (U : ℕ → Bool) (A : LfType) (Q : List LfType) (τ : ℕ → Image) → Values Σ U (A ∷ Q) G τ → Values Σ (λ i. U (suc i)) Q G (λ i. τ (suc i))
  behind_values U A Q τ v = record {
    typed = λ i B g u. subst (ImageHasType Σ G (τ (suc i))) (substitute_renamed_type reduce τ suc B) (v.typed (suc i) (rename_type suc B) (B, g, refl) u);
    closed = λ i B g u. uses_unren_type (λ j. U (suc j)) U suc B (λ j e. e) (v.closed (suc i) (rename_type suc B) (B, g, refl) u);
  }

  pub longer : (Q : List LfType) (U : ℕ → Bool) (τ : ℕ → Image) → IsContext Σ Q → Values Σ U Q G τ → Longer Σ U Q G τ
  longer [] U τ c v = record {
    context = G;
    moves = λ i. i;
    values = λ i. rename_image (λ j. j) (τ i);
    is_context = cg;
    renames = λ i A g. subst (TypeAt G i) (sym (rename_identity_type A)) g;
    typed = λ i A g. absurd g;
    same = λ i u. refl;
  }
  longer (A ∷ Q) U τ (c, ta) v = by (longer Q (λ i. U (suc i)) (λ i. τ (suc i)) c (behind_values U A Q τ v)) (U zero) refl
    where
      by : Longer Σ (λ i. U (suc i)) Q G (λ i. τ (suc i)) → (b : Bool) → U zero ≡ b → Longer Σ U (A ∷ Q) G τ
      by l true e = record {
        context = l.context;
        moves = l.moves;
        values = in_front (rename_image l.moves (τ zero)) l.values;
        is_context = l.is_context;
        renames = l.renames;
        typed = front_typed Σ ok W blocks Q l.context A (rename_image l.moves (τ zero)) l.values l.typed here;
        same = same;
      }
        where
          here : ImageHasType Σ l.context (rename_image l.moves (τ zero)) (substitute_type reduce l.values A)
          here = subst (ImageHasType Σ l.context (rename_image l.moves (τ zero))) (ap (rename_type l.moves) (substitute_renamed_type reduce τ suc A) ∙ rename_substituted_type reduce reduction_is_natural l.moves (λ i. τ (suc i)) A ∙ agree_on_type reduce (λ i. U (suc i)) (λ i. rename_image l.moves (τ (suc i))) l.values A l.same (uses_unren_type (λ j. U (suc j)) U suc A (λ j q. q) (v.closed zero (rename_type suc A) refl e))) (image_moved Σ ok G l.context l.moves (τ zero) (substitute_type reduce τ (rename_type suc A)) l.renames (v.typed zero (rename_type suc A) refl e))

          same : SameOn U (λ i. rename_image l.moves (τ i)) (in_front (rename_image l.moves (τ zero)) l.values)
          same zero u = refl
          same (suc i) u = l.same i u
      by l false e = record {
        context = substitute_type reduce l.values A ∷ l.context;
        moves = λ i. suc (l.moves i);
        values = in_front (keep zero) (λ i. rename_image suc (l.values i));
        is_context = (l.is_context, substitution_keeps_types Σ ok Q l.context l.values A (record { typed = l.typed; source_skeletons = skeleton_context_of Σ ok Q c; target_skeletons = skeleton_context_of Σ ok l.context l.is_context }) ta);
        renames = λ i B g. (rename_type l.moves B, l.renames i B g, sym (renamings_compose_type suc l.moves B));
        typed = front_typed Σ ok W blocks Q (substitute_type reduce l.values A ∷ l.context) A (keep zero) (λ i. rename_image suc (l.values i)) (values_moved Σ ok Q l.context (substitute_type reduce l.values A ∷ l.context) suc l.values (weakening_renames l.context (substitute_type reduce l.values A)) l.typed) (sym (rename_substituted_type reduce reduction_is_natural suc l.values A));
        same = same;
      }
        where
          same : SameOn U (λ i. rename_image (λ j. suc (l.moves j)) (τ i)) (in_front (keep zero) (λ i. rename_image suc (l.values i)))
          same zero u = absurd (true≢false (sym u ∙ e))
          same (suc i) u = image_twice l.moves (τ (suc i)) ∙ ap (rename_image suc) (l.same i u)

-- The tuple of a case moves with its values.
pub lift_over_moved : (L : List LfType) (ρ : ℕ → ℕ) (σ : ℕ → Image) (i : ℕ) → rename_image (lift_renaming_by (length L) ρ) (lift_over L σ i) ≡ lift_over L (λ j. rename_image ρ (σ j)) i
lift_over_moved [] ρ σ i = refl
lift_over_moved (A ∷ L) ρ σ i = rename_lift (lift_renaming_by (length L) ρ) (lift_over L σ) i ∙ ap (λ f. lift f i) (fun_ext (lift_over_moved L ρ σ))

pub arguments_moved : (L : List LfType) (ρ : ℕ → ℕ) (σ : ℕ → Image) (Ms : List (Option Term)) (T : Spine) → HasArguments (lift_over L σ) Ms T → HasArguments (lift_over L (λ j. rename_image ρ (σ j))) Ms (rename_spine (lift_renaming_by (length L) ρ) T)
arguments_moved L ρ σ [] nil h = tt
arguments_moved L ρ σ [] (app N T) h = absurd h
arguments_moved L ρ σ (M ∷ Ms) nil h = absurd h
arguments_moved L ρ σ (Some M ∷ Ms) (app N T) (e, h) = (
  ap (rename (lift_renaming_by (length L) ρ)) e ∙ rename_substituted reduce reduction_is_natural (lift_renaming_by (length L) ρ) (lift_over L σ) M ∙ ap (λ f. substitute reduce f M) (fun_ext (lift_over_moved L ρ σ)),
  arguments_moved L ρ σ Ms T h,
)
arguments_moved L ρ σ (None ∷ Ms) (app N T) h = arguments_moved L ρ σ Ms T h

-- So does what a pattern has at the places, where the values are the same on what it uses.
places_moved : (U : ℕ → Bool) (ρ : ℕ → ℕ) (f g : ℕ → Image) → SameOn U (λ i. rename_image ρ (f i)) g → (b : List Bool) (S T : Spine) → UsesPlaces U b S → SamePlaces b T (substitute_spine reduce f S) → SamePlaces b (rename_spine ρ T) (substitute_spine reduce g S)
places_moved U ρ f g h [] nil nil u s = tt
places_moved U ρ f g h [] nil (app N T) u s = absurd s
places_moved U ρ f g h [] (app M S) nil u s = absurd s
places_moved U ρ f g h [] (app M S) (app N T) u s = absurd s
places_moved U ρ f g h (x ∷ b) nil nil u s = absurd s
places_moved U ρ f g h (x ∷ b) (app M S) nil u s = absurd s
places_moved U ρ f g h (x ∷ b) nil (app N T) u s = absurd s
places_moved U ρ f g h (true ∷ b) (app M S) (app N T) (m, u) (e, s) = (ap (rename ρ) e ∙ rename_substituted reduce reduction_is_natural ρ f M ∙ agree_on reduce U (λ i. rename_image ρ (f i)) g M h m, places_moved U ρ f g h b S T u s)
places_moved U ρ f g h (false ∷ b) (app M S) (app N T) u s = places_moved U ρ f g h b S T u s

pub goal_moved : (D : List LfType) (U : ℕ → Bool) (ρ : ℕ → ℕ) (f g : ℕ → Image) → SameOn U (λ i. rename_image (lift_renaming_by (length D) ρ) (f i)) g → (b : List Bool) (P : LfType) (T : Spine) → UsesGoal U b P → SamePlaces b T (target_arguments (substitute_type reduce f P)) → SamePlaces b (rename_spine (lift_renaming_by (length (binders D P)) ρ) T) (target_arguments (substitute_type reduce g P))
goal_moved D U ρ f g h b (atom a S) T u s = places_moved U (lift_renaming_by (length D) ρ) f g h b S T u s
goal_moved D U ρ f g h b (pi A B) T (ua, u) s = goal_moved (A ∷ D) (under U) ρ (lift f) (lift g) (λ i e. rename_lift (lift_renaming_by (length D) ρ) f i ∙ SameOn-under U (λ j. rename_image (lift_renaming_by (length D) ρ) (f j)) g h i e) b B T u s
