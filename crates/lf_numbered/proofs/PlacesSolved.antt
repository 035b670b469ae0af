-- A filling that gives variables their values solves the equations of block variables that are one, of given terms and of places.
use Rattle.std.proofs.Common.{◌≡◌, ℕ, zero, suc, ◌+◌, List, [], ◌∷◌, length, refl, sym, ap, ◌∙◌, subst, arith}
use Rattle.std.specs.Prelude.{Bool, true, false, cond, Option, Some, None}
use Rattle.lf.specs.Syntax.{Term, Spine, variable, lambda, nil, app, LfType, Kind, kind_pi, star, Skeleton, arrow, skeleton, rename, rename_type}
use Rattle.lf.specs.Substitution.{Image, put, substitute, reduce}
use Rattle.lf.specs.AtOnce.{shift_by, lift_renaming_by}
use Rattle.lf.specs.Eta.{eta_long}
use Rattle.lf.specs.SkeletonTyping.{SkeletonAt, TermSkeleton, RenamingBySkeletons, SubstitutionBySkeletons}
use Rattle.lf.specs.Skeletons.{constant_skeletons, context_skeletons}
use Rattle.lf.specs.Typing.{Signature, TypeAt, instantiate_kind}
use Rattle.lf.specs.Variables.{onto, same_number}
use Rattle.lf.specs.Worlds.{lift_over}
use Rattle.lf.proofs.Eta.{eta_expand_has_skeleton}
use Rattle.lf.proofs.Renaming.{substitute_renamed}
use Rattle.lf.proofs.SkeletonTyping.{renaming_keeps_skeletons}
use Rattle.lf.proofs.ToSkeletons.{skeleton_has_variable, variable_has_skeleton}
use Rattle.lf.proofs.TypeLaws.{skeleton_renamed}
use Rattle.lf_unification.specs.Filling.{fill, fill_spine}
use Rattle.lf_unification.specs.Offering.{spine_equations}
use Rattle.lf_unification.specs.OpenTyping.{skeletons_of, under_locals}
use Rattle.lf_unification.specs.Unifiers.{SolvesAll}
use Rattle.lf_checks.specs.Marks.{SamePlaces}
use Rattle.lf_cases.specs.Case.{HasArguments, as_term, covered_places}
use Rattle.lf_cases.specs.Pattern.{given_at}
use Rattle.lf_cases.proofs.OutputItems.{lift_after}
use Rattle.lf_coverage.specs.Heads.{HaveSkeletons}
use Rattle.lf_coverage.specs.MeetStore.{open_arguments, place_equations, one_given, given_equations}
use Rattle.lf_coverage.specs.SplitStore.{open_term, open_spine, type_in, context_metavariables}
use Rattle.lf_coverage.proofs.Forms.{far_type}
use Rattle.lf_coverage.proofs.Meeting.{solves_both, term_filled, under_same}
use Rattle.lf_coverage.proofs.StoreSolution.{found_type, value_at}
use Rattle.lf_numbered.specs.NewBlock.{rename_all}
use Rattle.lf_numbered.specs.NumberedCallsStores.{identity_equations, terms_equations, some_kind}
use Rattle.lf_numbered.specs.NumberedInstance.{block_at}
use Rattle.lf_numbered.specs.OwnTerms.{BlockVariable, terms_at}
use mathlib.Core.Path.{fun_ext}

spine_first : {M N : Term} {S T : Spine} → app M S ≡ app N T → M ≡ N
spine_first e = cc

spine_rest : {M N : Term} {S T : Spine} → app M S ≡ app N T → S ≡ T
spine_rest e = cc

pub spines_solved : (μ : ℕ → Skeleton) (β : ℕ → Option Term) (K : Kind) (S T : Spine) → fill_spine μ β S ≡ fill_spine μ β T → SolvesAll μ β (spine_equations [] K S T)
spines_solved μ β star S T e = tt
spines_solved μ β (kind_pi A K) nil T e = tt
spines_solved μ β (kind_pi A K) (app M S) nil e = tt
spines_solved μ β (kind_pi A K) (app M S) (app N T) e = (spine_first e, spines_solved μ β (instantiate_kind A M K) S T (spine_rest e))

-- the equations of block variables that are one
pub identities_solved : (μ : ℕ → Skeleton) (β : ℕ → Option Term) (π : ℕ → ℕ) (bs : List BlockVariable) (k : ℕ) (cs : List BlockVariable) → ((j : ℕ) (b : BlockVariable) (U : Spine) → block_at cs j ≡ Some b → terms_at bs (π (k + j)) ≡ Some U → fill_spine μ β (open_spine zero b.terms) ≡ fill_spine μ β (open_spine zero U)) → SolvesAll μ β (identity_equations π bs k cs)
identities_solved μ β π bs k [] h = tt
identities_solved μ β π bs k (b ∷ cs) h = solves_both μ β (cond (same_number (π k) k) [] (terms_equations b (terms_at bs (π k)))) (identity_equations π bs (suc k) cs) (one (same_number (π k) k)) (identities_solved μ β π bs (suc k) cs (λ j c U e q. h (suc j) c U e (ap (λ i. terms_at bs (π i)) (next k j) ∙ q)))
  where
    next : (k j : ℕ) → k + suc j ≡ suc k + j
    next k j = omega arith

    none : (k : ℕ) → k + 0 ≡ k
    none k = omega arith

    terms : (y : Option Spine) → terms_at bs (π k) ≡ y → SolvesAll μ β (terms_equations b y)
    terms None e = tt
    terms (Some U) e = spines_solved μ β (some_kind b.block.some star) (open_spine zero b.terms) (open_spine zero U) (h zero b U refl (ap (λ i. terms_at bs (π i)) (none k) ∙ e))

    one : (x : Bool) → SolvesAll μ β (cond x [] (terms_equations b (terms_at bs (π k))))
    one true = tt
    one false = terms (terms_at bs (π k)) refl

-- what is moved past a context
pub past_skeletons : (O Q : List LfType) → RenamingBySkeletons (context_skeletons Q) (context_skeletons (onto O Q)) (shift_by (length O))
past_skeletons O Q i t k = let (A, h, e) = skeleton_has_variable Q i t k in
    subst (SkeletonAt (context_skeletons (onto O Q)) (i + length O)) (skeleton_renamed (shift_by (length O)) A ∙ e) (variable_has_skeleton (onto O Q) (i + length O) (rename_type (shift_by (length O)) A) (far_type O Q i A h))

pub past_under : (Σ : Signature) (O Q L : List LfType) (M : Term) (t : Skeleton) → TermSkeleton (constant_skeletons Σ) (context_skeletons (onto L Q)) M t → TermSkeleton (constant_skeletons Σ) (context_skeletons (onto L (onto O Q))) (rename (lift_renaming_by (length L) (shift_by (length O))) M) t
past_under Σ O Q [] M t m = renaming_keeps_skeletons (constant_skeletons Σ) (context_skeletons Q) (context_skeletons (onto O Q)) (shift_by (length O)) M t (past_skeletons O Q) m
past_under Σ O Q (A ∷ L) M t m = past_under Σ O Q L (lambda M) (arrow (skeleton A) t) m

-- A filling that gives each variable of X its value
module _ (Σ : Signature) (X H : List LfType) (χ : ℕ → Image) (β : ℕ → Option Term) (fits : SubstitutionBySkeletons (constant_skeletons Σ) (context_skeletons X) (context_skeletons H) χ) (stands : (i : ℕ) (A : LfType) → TypeAt X i A → (skeletons_of (context_metavariables X) i ≡ skeleton A) × (β i ≡ Some (as_term (skeleton A) (χ i)))) where
  pub given_solved : (Ms : List (Option Term)) (m : ℕ) → HaveSkeletons (constant_skeletons Σ) (context_skeletons X) Ms → ((i : ℕ) (M : Term) (A : LfType) → given_at Ms i ≡ Some M → TypeAt X (i + m) A → (a : Skeleton) × (χ (i + m) ≡ put a (substitute reduce χ M))) → SolvesAll (skeletons_of (context_metavariables X)) β (given_equations X m Ms)
  given_solved [] m h g = tt
  given_solved (None ∷ Ms) m h g = by (type_in X m) (given_solved Ms (suc m) h (λ i M A e k. let (a, q) = g (suc i) M A e (subst (λ j. TypeAt X j A) (next i m) k) in (a, ap χ (next i m) ∙ q)))
    where
      next : (i m : ℕ) → i + suc m ≡ suc i + m
      next i m = omega arith

      by : (y : Option LfType) → SolvesAll (skeletons_of (context_metavariables X)) β (given_equations X (suc m) Ms) → SolvesAll (skeletons_of (context_metavariables X)) β (one_given m y None (given_equations X (suc m) Ms))
      by None rest = rest
      by (Some A) rest = rest
  given_solved (Some M ∷ Ms) m ((t, n), h) g = by (type_in X m) refl (given_solved Ms (suc m) h (λ i M A e k. let (a, q) = g (suc i) M A e (subst (λ j. TypeAt X j A) (next i m) k) in (a, ap χ (next i m) ∙ q)))
    where
      next : (i m : ℕ) → i + suc m ≡ suc i + m
      next i m = omega arith

      first : (m : ℕ) → m ≡ 0 + m
      first m = omega arith

      by : (y : Option LfType) → type_in X m ≡ y → SolvesAll (skeletons_of (context_metavariables X)) β (given_equations X (suc m) Ms) → SolvesAll (skeletons_of (context_metavariables X)) β (one_given m y (Some M) (given_equations X (suc m) Ms))
      by None e rest = rest
      by (Some A) e rest =
          let k = variable_has_skeleton X m A (found_type X m A e) in
          let (a, q) = g zero M A refl (subst (λ j. TypeAt X j A) (first m) (found_type X m A e)) in (
            term_filled Σ (skeletons_of (context_metavariables X)) β X H χ fits stands [] (eta_long (skeleton A) (variable m)) (skeleton A) (eta_expand_has_skeleton (constant_skeletons Σ) (skeleton A) (skeleton A) (context_skeletons X) (variable m) nil k refl)
                ∙ value_at (constant_skeletons Σ) (context_skeletons H) (skeleton A) χ m (fits m (skeleton A) k)
                ∙ ap (as_term (skeleton A)) (ap χ (first m) ∙ q)
                ∙ sym (term_filled Σ (skeletons_of (context_metavariables X)) β X H χ fits stands [] M t n),
            rest,
          )

-- The case's variables Q stand behind others.
module _ (Σ : Signature) (O Q H : List LfType) (χ : ℕ → Image) (β : ℕ → Option Term) (fits : SubstitutionBySkeletons (constant_skeletons Σ) (context_skeletons (onto O Q)) (context_skeletons H) χ) (stands : (i : ℕ) (A : LfType) → TypeAt (onto O Q) i A → (skeletons_of (context_metavariables (onto O Q)) i ≡ skeleton A) × (β i ≡ Some (as_term (skeleton A) (χ i)))) (ψ : ℕ → Image) (far : (i : ℕ) → χ (i + length O) ≡ ψ i) where
  pub case_filled : (L : List LfType) (M : Term) (t : Skeleton) → TermSkeleton (constant_skeletons Σ) (context_skeletons (onto L Q)) M t → fill (skeletons_of (context_metavariables (onto O Q))) (under_locals L β) (open_term (length L) (rename (lift_renaming_by (length L) (shift_by (length O))) M)) ≡ substitute reduce (lift_over L ψ) M
  case_filled L M t m =
      term_filled Σ (skeletons_of (context_metavariables (onto O Q))) β (onto O Q) H χ fits stands L (rename (lift_renaming_by (length L) (shift_by (length O))) M) t (past_under Σ O Q L M t m)
      ∙ substitute_renamed reduce (lift_over L χ) (lift_renaming_by (length L) (shift_by (length O))) M
      ∙ ap (λ k. substitute reduce k M) (lift_after L (shift_by (length O)) χ ∙ ap (lift_over L) (fun_ext far))

  pub case_places : (L E : List LfType) → length E ≡ length L → (Ms : List (Option Term)) (S T : Spine) (K : Kind) → HaveSkeletons (constant_skeletons Σ) (context_skeletons (onto L Q)) Ms → HasArguments (lift_over L ψ) Ms T → SamePlaces (covered_places Ms) T (fill_spine (skeletons_of (context_metavariables (onto O Q))) (under_locals E β) S) → SolvesAll (skeletons_of (context_metavariables (onto O Q))) β (place_equations E (open_arguments (length L) (rename_all (lift_renaming_by (length L) (shift_by (length O))) Ms)) S K)
  case_places L E l [] S T K h a s = tt
  case_places L E l (Some M ∷ Ms) nil T K h a s = tt
  case_places L E l (None ∷ Ms) nil T K h a s = tt
  case_places L E l (Some M ∷ Ms) (app P S) T star h a s = tt
  case_places L E l (None ∷ Ms) (app P S) T star h a s = tt
  case_places L E l (Some M ∷ Ms) (app P S) nil (kind_pi A K) h a s = absurd a
  case_places L E l (None ∷ Ms) (app P S) nil (kind_pi A K) h a s = absurd a
  case_places L E l (Some M ∷ Ms) (app P S) (app N T) (kind_pi A K) ((t, m), h) (e, a) (q, s) =
      (ap (λ g. fill (skeletons_of (context_metavariables (onto O Q))) g (open_term (length L) (rename (lift_renaming_by (length L) (shift_by (length O))) M))) (under_same β E L l) ∙ case_filled L M t m ∙ sym e ∙ q, case_places L E l Ms S T (instantiate_kind A P K) h a s)
  case_places L E l (None ∷ Ms) (app P S) (app N T) (kind_pi A K) h a s = case_places L E l Ms S T (instantiate_kind A P K) h a s
