-- Typed values of a context solve the equations of a meeting over its metavariables, where they make their sides the same.
use Rattle.std.proofs.Common.{◌≡◌, ℕ, zero, ◌+◌, List, [], length, refl, sym, ap, ap₂, ◌∙◌}
use Rattle.std.specs.Prelude.{Option, Some}
use Rattle.lf.specs.Syntax.{Term, Spine, nil, app, LfType, atom, Skeleton, base, arrow, skeleton}
use Rattle.lf.specs.Substitution.{Image, keep, substitute, substitute_spine, substitute_type, reduce}
use Rattle.lf.specs.SkeletonTyping.{SpineSkeleton, TermSkeleton, SubstitutionBySkeletons}
use Rattle.lf.specs.Skeletons.{constant_skeletons, context_skeletons}
use Rattle.lf.specs.Typing.{Signature, TypeAt, IsTypedSubstitution, IsType, IsContext, IsSignature}
use Rattle.lf.specs.Variables.{target, target_arguments, onto, binders}
use Rattle.lf.specs.Worlds.{lift_over}
use Rattle.lf.proofs.Substitution.{typed_substitution_by_skeletons}
use Rattle.lf.proofs.ToSkeletons.{type_by_skeletons}
use Rattle.lf_unification.specs.Filling.{fill, fill_spine, fill_type}
use Rattle.lf_unification.specs.Offering.{pi_over}
use Rattle.lf_unification.specs.OpenTyping.{IsInstance, skeletons_of, under_locals, fill_locals}
use Rattle.lf_unification.specs.Unifiers.{SolvesAll}
use Rattle.lf_unification.proofs.Raise.{fill_pis}
use Rattle.lf_cases.specs.Case.{as_term}
use Rattle.lf_coverage.specs.SplitStore.{open_term, open_spine, open_type, open_locals, context_metavariables}
use Rattle.lf_coverage.proofs.Forms.{as_pis}
use Rattle.lf_coverage.proofs.Meeting.{both_fit, both_stand, are_instance, arguments_over, solves_both, term_filled, type_filled, under_same}
use Rattle.lf_coverage.proofs.StoreSolution.{open_pis}
use Rattle.lf_numbered.specs.NumberedCallsStores.{identity_equations}
use Rattle.lf_numbered.specs.NumberedInstance.{block_at}
use Rattle.lf_numbered.specs.OwnTerms.{BlockVariable, terms_at}
use Rattle.lf_numbered.proofs.PlacesSolved.{identities_solved}

module _ (Σ : Signature) (ok : IsSignature Σ) (X H : List LfType) (cx : IsContext Σ X) (ch : IsContext Σ H) (χ : ℕ → Image) (typed : IsTypedSubstitution Σ X H χ) where
  pub none_typed : IsTypedSubstitution Σ [] H keep
  none_typed i A g = absurd g

  abbrev pub filling : ℕ → Option Term
  filling = Rattle.lf_coverage.proofs.Meeting.β Σ ok [] X H tt cx ch keep χ none_typed typed

  abbrev μ : ℕ → Skeleton
  μ = skeletons_of (context_metavariables X)

  pub fits : SubstitutionBySkeletons (constant_skeletons Σ) (context_skeletons X) (context_skeletons H) χ
  fits = typed_substitution_by_skeletons Σ ok X H χ typed

  pub stands : (i : ℕ) (A : LfType) → TypeAt X i A → (skeletons_of (context_metavariables X) i ≡ skeleton A) × (filling i ≡ Some (as_term (skeleton A) (χ i)))
  stands = both_stand Σ ok [] X H tt cx ch keep χ none_typed typed

  pub instance_is_typed : IsInstance Σ [] (context_metavariables X) H filling
  instance_is_typed = are_instance Σ ok [] X H tt cx ch keep χ none_typed typed

  pub filled : (L : List LfType) (M : Term) (t : Skeleton) → TermSkeleton (constant_skeletons Σ) (context_skeletons (onto L X)) M t → fill (skeletons_of (context_metavariables X)) (under_locals L filling) (open_term (length L) M) ≡ substitute reduce (lift_over L χ) M
  filled = term_filled Σ μ filling X H χ fits stands

  spine_filled : (S : Spine) (t u : Skeleton) → SpineSkeleton (constant_skeletons Σ) (context_skeletons X) S t u → fill_spine μ filling (open_spine zero S) ≡ substitute_spine reduce χ S
  spine_filled nil t u s = refl
  spine_filled (app M S) (arrow a b) u (m, s) = ap₂ app (filled [] M a m) (spine_filled S b u s)
  spine_filled (app M S) (base c) u s = absurd s

  pub identity_solved : (π : ℕ → ℕ) (bs : List BlockVariable) (k : ℕ) (ds : List BlockVariable) → ((j : ℕ) (d : BlockVariable) (U : Spine) → block_at ds j ≡ Some d → terms_at bs (π (k + j)) ≡ Some U → (t : Skeleton) × (u : Skeleton) × SpineSkeleton (constant_skeletons Σ) (context_skeletons X) d.terms t u × SpineSkeleton (constant_skeletons Σ) (context_skeletons X) U t u × (substitute_spine reduce χ d.terms ≡ substitute_spine reduce χ U)) → SolvesAll (skeletons_of (context_metavariables X)) filling (identity_equations π bs k ds)
  identity_solved π bs k ds h = identities_solved μ filling π bs k ds (λ j d U e f. let (t, u, s, s', q) = h j d U e f in spine_filled d.terms t u s ∙ q ∙ sym (spine_filled U t u s'))

  -- the arguments of the pattern
  pub pattern_filled : (P : LfType) → IsType Σ X P → fill_spine (skeletons_of (context_metavariables X)) (under_locals (open_locals (binders [] P)) filling) (open_spine (length (binders [] P)) (target_arguments P)) ≡ target_arguments (substitute_type reduce χ P)
  pattern_filled P t =
      let D : List LfType = binders [] P in
      let filled_type : substitute_type reduce χ P ≡ pi_over (fill_locals μ filling (open_locals D)) (atom (target P) (fill_spine μ (under_locals (open_locals D) filling) (open_spine (length D) (target_arguments P)))) = sym (type_filled Σ μ filling X H χ fits stands P (type_by_skeletons Σ X P t)) ∙ ap (λ Z. fill_type μ filling (open_type zero Z)) (as_pis P []) ∙ ap (fill_type μ filling) (open_pis D (target P) (target_arguments P)) ∙ fill_pis μ filling (open_locals D) (atom (target P) (open_spine (length D) (target_arguments P))) in
      sym (ap target_arguments filled_type ∙ arguments_over (fill_locals μ filling (open_locals D)) (atom (target P) (fill_spine μ (under_locals (open_locals D) filling) (open_spine (length D) (target_arguments P)))))
