-- Values of a case's variables and of a clause's own in front of them, put for the metavariables of a store: what its terms become, and which of its
-- equations are solved.
use Rattle.std.proofs.Common.{◌≡◌, ℕ, zero, suc, ◌+◌, List, [], ◌∷◌, length, refl, sym, ap, ◌∙◌, subst}
use Rattle.std.specs.Prelude.{Option, Some}
use Rattle.lf.specs.Syntax.{Term, Spine, nil, LfType, atom, Kind, Skeleton, skeleton, rename_spine}
use Rattle.lf.specs.Substitution.{Image, keep, put, substitute, substitute_spine, substitute_type, reduce}
use Rattle.lf.specs.SkeletonTyping.{SpineSkeleton, SubstitutionBySkeletons}
use Rattle.lf.specs.Skeletons.{constant_skeletons, context_skeletons}
use Rattle.lf.specs.AtOnce.{shift_by, lift_renaming_by}
use Rattle.lf.specs.Typing.{Signature, TypeAt, IsTypedSubstitution, IsType, IsContext, IsSignature}
use Rattle.lf.specs.Variables.{target, target_arguments, onto, binders}
use Rattle.lf.specs.Worlds.{lift_over, instance}
use Rattle.lf.proofs.Renaming.{substitute_renamed_spine}
use Rattle.lf.proofs.SkeletonTyping.{renaming_keeps_spine_skeletons}
use Rattle.lf.proofs.Substitution.{substitution_keeps_types, typed_substitution_by_skeletons}
use Rattle.lf.proofs.ToSkeletons.{type_by_skeletons}
use Rattle.lf_unification.specs.Filling.{fill_spine, fill_type}
use Rattle.lf_unification.specs.Offering.{pi_over}
use Rattle.lf_unification.specs.OpenTyping.{skeletons_of, under_locals, fill_locals}
use Rattle.lf_unification.specs.Unifiers.{SolvesAll}
use Rattle.lf_unification.proofs.Raise.{fill_pis}
use Rattle.lf_checks.specs.Marks.{SamePlaces}
use Rattle.lf_cases.specs.Case.{as_term, HasArguments, covered_places}
use Rattle.lf_cases.specs.Pattern.{given_at}
use Rattle.lf_coverage.specs.Heads.{HaveSkeletons}
use Rattle.lf_coverage.specs.MeetStore.{open_arguments, place_equations, given_equations}
use Rattle.lf_coverage.specs.SplitStore.{open_spine, open_type, open_locals, context_metavariables}
use Rattle.lf_coverage.proofs.Forms.{as_pis}
use Rattle.lf_coverage.proofs.Meeting.{joined, joined_far, under_same, open_length, arguments_over, both_fit, both_stand, are_instance, solves_both, stand_under, term_filled, type_filled}
use Rattle.lf_coverage.proofs.OpenTerms.{fill_open_spine}
use Rattle.lf_coverage.proofs.Parts.{some_same}
use Rattle.lf_coverage.proofs.StoreSolution.{open_pis}
use Rattle.lf_numbered.specs.NewBlock.{rename_all}
use Rattle.lf_numbered.specs.NumberedCase.{AreSomeTerms}
use Rattle.lf_numbered.specs.NumberedInstance.{block_at}
use Rattle.lf_numbered.specs.OwnTerms.{BlockVariable, rename_blocks, terms_at}
use Rattle.lf_numbered.proofs.MeetsInstanceJoined.{AgreePast, placed_over, put_typed, both_put, past_put}
use Rattle.lf_numbered.proofs.MeetsTupleForms.{all_renamed}
use Rattle.lf_numbered.proofs.PlacesSolved.{case_places, given_solved, past_skeletons}
use Rattle.lf_numbered.proofs.RenamedBlocks.{given_from}
use Rattle.lf_numbered.proofs.WritingSame.{some_skeleton}
use mathlib.Core.Path.{fun_ext}

-- block variables from their renamed ones
pub terms_from : (ρ : ℕ → ℕ) (bs : List BlockVariable) (k : ℕ) (U : Spine) → terms_at (rename_blocks ρ bs) k ≡ Some U → (b : BlockVariable) × (block_at bs k ≡ Some b) × (U ≡ rename_spine ρ b.terms)
terms_from ρ [] k U e = absurd cc
terms_from ρ (b ∷ bs) zero U e = (b, refl, sym (some_same e))
terms_from ρ (b ∷ bs) (suc k) U e = terms_from ρ bs k U e

-- The values of the case's variables and of the clause's own in front of them
module _ (Σ : Signature) (ok : IsSignature Σ) (outer Q H : List LfType) (co : IsContext Σ outer) (cq : IsContext Σ Q) (ch : IsContext Σ H) (φ ψ : ℕ → Image) (tφ : IsTypedSubstitution Σ outer Q φ) (tψ : IsTypedSubstitution Σ Q H ψ) (L : List LfType) (cl : IsContext Σ (onto L outer)) (χ : ℕ → Image) (tχ : IsTypedSubstitution Σ (onto L outer) H χ) (agrees : AgreePast outer (length L) φ ψ χ) where
  abbrev pub own : List LfType
  own = instance L φ

  abbrev pub all : List LfType
  all = onto (instance L φ) Q

  abbrev pub θ : ℕ → Image
  θ = joined (instance L φ) χ ψ

  pub all_typed : IsContext Σ (onto (instance L φ) Q)
  all_typed = (placed_over Σ ok outer Q H co cq ch φ ψ tφ tψ L cl).0

  pub values_typed : IsTypedSubstitution Σ (onto (instance L φ) Q) H (joined (instance L φ) χ ψ)
  values_typed = put_typed Σ ok outer Q H co cq ch φ ψ tφ tψ L cl χ tχ agrees

  pub no_first : IsTypedSubstitution Σ [] H keep
  no_first i A g = absurd g

  abbrev pub filling : ℕ → Option Term
  filling = Rattle.lf_coverage.proofs.Meeting.β Σ ok [] all H tt all_typed ch keep θ no_first values_typed

  abbrev pub μ : ℕ → Skeleton
  μ = skeletons_of (context_metavariables (onto (instance L φ) Q))

  fits : SubstitutionBySkeletons (constant_skeletons Σ) (context_skeletons (onto (instance L φ) Q)) (context_skeletons H) (joined (instance L φ) χ ψ)
  fits = both_fit Σ ok [] all H tt all_typed ch keep θ no_first values_typed

  stands : (i : ℕ) (A : LfType) → TypeAt (onto (instance L φ) Q) i A → (μ i ≡ skeleton A) × (filling i ≡ Some (as_term (skeleton A) (joined (instance L φ) χ ψ i)))
  stands = both_stand Σ ok [] all H tt all_typed ch keep θ no_first values_typed

  -- the terms of a block variable
  pub terms_filled : (O : List LfType) (U : Spine) → AreSomeTerms Σ Q O U → fill_spine μ filling (open_spine zero (rename_spine (shift_by (length (instance L φ))) U)) ≡ substitute_spine reduce ψ U
  terms_filled O U (υ, t, e) =
      let P : LfType = atom zero nil in
      let s : SpineSkeleton (constant_skeletons Σ) (context_skeletons Q) U (skeleton (pi_over O P)) (skeleton P) = subst (λ V. SpineSkeleton (constant_skeletons Σ) (context_skeletons Q) V (skeleton (pi_over O P)) (skeleton P)) (sym e) (some_skeleton (constant_skeletons Σ) O (context_skeletons Q) υ P (typed_substitution_by_skeletons Σ ok O Q υ t)) in
      fill_open_spine Σ μ zero (context_skeletons all) (context_skeletons H) θ filling (stand_under Σ μ filling all H θ fits stands []) fits (rename_spine (shift_by (length (instance L φ))) U) (skeleton (pi_over O P)) (skeleton P) (renaming_keeps_spine_skeletons (constant_skeletons Σ) (context_skeletons Q) (context_skeletons all) (shift_by (length (instance L φ))) U (skeleton (pi_over O P)) (skeleton P) (past_skeletons (instance L φ) Q) s)
      ∙ substitute_renamed_spine reduce θ (shift_by (length (instance L φ))) U
      ∙ ap (λ f. substitute_spine reduce f U) (fun_ext (joined_far (instance L φ) χ ψ))

  pub places_filled : (E F : List LfType) → length F ≡ length E → (Ms : List (Option Term)) (S T : Spine) (K : Kind) → HaveSkeletons (constant_skeletons Σ) (context_skeletons (onto E Q)) Ms → HasArguments (lift_over E ψ) Ms T → SamePlaces (covered_places Ms) T (fill_spine μ (under_locals F filling) S) → SolvesAll μ filling (place_equations F (open_arguments (length E) (rename_all (lift_renaming_by (length E) (shift_by (length (instance L φ)))) Ms)) S K)
  places_filled = case_places Σ (instance L φ) Q H θ filling fits stands ψ (joined_far (instance L φ) χ ψ)

  -- what is given
  pub givens_filled : (Ms : List (Option Term)) (m : ℕ) → HaveSkeletons (constant_skeletons Σ) (context_skeletons Q) Ms → ((i : ℕ) (N : Term) → given_at Ms i ≡ Some N → (a : Skeleton) × (θ (i + m) ≡ put a (substitute reduce ψ N))) → SolvesAll μ filling (given_equations (onto (instance L φ) Q) m (rename_all (shift_by (length (instance L φ))) Ms))
  givens_filled Ms m h g = given_solved Σ all H θ filling fits stands (rename_all (shift_by (length (instance L φ))) Ms) m (all_renamed (constant_skeletons Σ) (context_skeletons Q) (context_skeletons all) (shift_by (length (instance L φ))) (past_skeletons (instance L φ) Q) Ms h) (λ i N A e k.
      let (M, q, z) = given_from (shift_by (length (instance L φ))) Ms i N e in
      let (a, w) = g i M q in
      (a, w ∙ ap (put a) (sym (past_put (instance L φ) [] χ ψ M) ∙ ap (substitute reduce θ) (sym z))))

  -- the arguments of the pattern
  pub pattern_filled : (P : LfType) → IsType Σ (onto L outer) P → fill_spine μ (under_locals (open_locals (binders [] (substitute_type reduce (lift_over L φ) P))) filling) (open_spine (length (binders [] (substitute_type reduce (lift_over L φ) P))) (target_arguments (substitute_type reduce (lift_over L φ) P))) ≡ target_arguments (substitute_type reduce χ P)
  pattern_filled P p =
      let Z : LfType = substitute_type reduce (lift_over L φ) P in
      let D : List LfType = binders [] Z in
      let z : IsType Σ all Z = substitution_keeps_types Σ ok (onto L outer) all (lift_over L φ) P (placed_over Σ ok outer Q H co cq ch φ ψ tφ tψ L cl).1 p in
      let filled : substitute_type reduce θ Z ≡ pi_over (fill_locals μ filling (open_locals D)) (atom (target Z) (fill_spine μ (under_locals (open_locals D) filling) (open_spine (length D) (target_arguments Z)))) = sym (type_filled Σ μ filling all H θ fits stands Z (type_by_skeletons Σ all Z z)) ∙ ap (λ X. fill_type μ filling (open_type zero X)) (as_pis Z []) ∙ ap (fill_type μ filling) (open_pis D (target Z) (target_arguments Z)) ∙ fill_pis μ filling (open_locals D) (atom (target Z) (open_spine (length D) (target_arguments Z))) in
      sym (ap target_arguments (sym (both_put Σ ok outer Q H co cq ch φ ψ tφ tψ L cl χ tχ agrees P p) ∙ filled) ∙ arguments_over (fill_locals μ filling (open_locals D)) (atom (target Z) (fill_spine μ (under_locals (open_locals D) filling) (open_spine (length D) (target_arguments Z)))))
