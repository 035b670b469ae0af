-- A typed instance that a case and a pattern share, with a value for each variable of the clause, is a typed unifier of their store.
use Rattle.std.proofs.Common.{◌≡◌, ℕ, zero, suc, List, [], ◌∷◌, ◌+◌, length, inl, inr, refl, sym, ap, ap₂, ◌∙◌, subst, arith}
use Rattle.std.specs.Prelude.{Option, Some, None, ◌⊎◌}
use Rattle.lf.specs.Syntax.{variable, Term, Spine, nil, app, LfType, pi, atom, Kind, kind_pi, star, Skeleton, skeleton, weaken, rename_spine, rename_type}
use Rattle.lf.specs.Substitution.{Image, keep, put, rename_image, substitute, substitute_type, reduce}
use Rattle.lf.specs.SkeletonTyping.{HeadSkeletons, ImageSkeleton, TermSkeleton, TypeBySkeletons, RenamingBySkeletons, SubstitutionBySkeletons}
use Rattle.lf.specs.Skeletons.{constant_skeletons, family_skeletons, context_skeletons}
use Rattle.lf.specs.AtOnce.{shift_by, lift_renaming_by}
use Rattle.lf.specs.Eta.{eta_long}
use Rattle.lf.specs.Typing.{Signature, TypeAt, HasType, IsTypedSubstitution, IsType, IsContext, IsSignature, instantiate_kind}
use Rattle.lf.specs.Variables.{target, target_arguments, onto, binders}
use Rattle.lf.specs.Subordination.{Block}
use Rattle.lf.specs.Worlds.{lift_over, instance}
use Rattle.lf.proofs.Eta.{eta_expand_has_skeleton}
use Rattle.lf.proofs.SkeletonTypes.{renaming_keeps_types_by_skeletons}
use Rattle.lf.proofs.Substitution.{typed_substitution_by_skeletons}
use Rattle.lf.proofs.ToSkeletons.{type_by_skeletons, variable_has_skeleton, skeleton_has_variable}
use Rattle.lf.proofs.TypeLaws.{skeleton_renamed, skeleton_substituted, substitute_renamed_type}
use Rattle.lf.proofs.Weakening.{declared_is_type}
use Rattle.lf_unification.specs.Filling.{fill, fill_spine, fill_type}
use Rattle.lf_unification.specs.Offering.{pi_over}
use Rattle.lf_unification.specs.OpenTyping.{IsInstance, ValueHasType, skeletons_of, under_locals, fill_locals}
use Rattle.lf_unification.specs.Skeletons.{skeleton_or_default}
use Rattle.lf_unification.specs.Solving.{Never}
use Rattle.lf_unification.specs.Unifiers.{Equation, SolvesAll}
use Rattle.lf_unification.proofs.Raise.{fill_pis}
use Rattle.lf_unification.specs.Lists.{followed}
use Rattle.lf_checks.specs.Clause.{Clause, scope}
use Rattle.lf_checks.specs.Marks.{SamePlaces}
use Rattle.lf_cases.specs.Case.{Item, Case, items_context, as_term, HasArguments, covered_places}
use Rattle.lf_cases.specs.Pattern.{Origin, of_constant, of_entry, Pattern, given_at}
use Rattle.lf_cases.specs.OutputGoal.{renumber}
use Rattle.lf_cases.specs.Missing.{AreTypedItems, blocks_with}
use Rattle.lf_cases.proofs.LongValues.{term_typed}
use Rattle.lf_cases.proofs.OutputItems.{lifted, length_renumber}
use Rattle.lf_coverage.specs.Heads.{HaveSkeletons, IsTypedCase}
use Rattle.lf_coverage.specs.Laws.{NeverSharesAll, NeverIsApart}
use Rattle.lf_coverage.specs.Leaf.{IsTypedPattern}
use Rattle.lf_coverage.specs.MeetStore.{open_arguments, place_equations, one_given, given_equations, meet_store, IsConstants}
use Rattle.lf_coverage.specs.SplitStore.{open_term, open_spine, open_type, open_locals, type_in, open_some, context_metavariables}
use Rattle.lf_coverage.proofs.Forms.{far_type, as_pis, no_shift_type, shift_type_next, near_type}
use Rattle.lf_coverage.proofs.FreshValues.{Longer, longer, values_moved, arguments_moved, goal_moved}
use Rattle.lf_coverage.proofs.InstancesCompose.{instance_is_typed}
use Rattle.lf_coverage.proofs.ItemsContext.{items_are_context}
use Rattle.lf_coverage.proofs.OpenTerms.{AllStand, FitsImage, all_lifted, fill_open, fill_open_type}
use Rattle.lf_coverage.proofs.Parts.{suc_same, none_some}
use Rattle.lf_coverage.proofs.StoreSolution.{looked_up, found_type, skeleton_open, open_pis, value_at}
use mathlib.Core.Path.{fun_ext}

-- the values of two contexts, the first in front of the second
abbrev pub joined : List LfType → (ℕ → Image) → (ℕ → Image) → ℕ → Image
joined [] σ τ i = τ i
joined (A ∷ O) σ τ zero = σ zero
joined (A ∷ O) σ τ (suc i) = joined O (λ j. σ (suc j)) τ i

pub joined_near : (O : List LfType) (σ τ : ℕ → Image) (i : ℕ) (A : LfType) → TypeAt O i A → joined O σ τ i ≡ σ i
joined_near [] σ τ i A g = absurd g
joined_near (B ∷ O) σ τ zero A e = refl
joined_near (B ∷ O) σ τ (suc i) A (C, g, e) = joined_near O (λ j. σ (suc j)) τ i C g

pub joined_far : (O : List LfType) (σ τ : ℕ → Image) (i : ℕ) → joined O σ τ (i + length O) ≡ τ i
joined_far [] σ τ i = ap τ (none i)
  where
    none : (i : ℕ) → i + 0 ≡ i
    none i = omega arith
joined_far (B ∷ O) σ τ i = ap (joined (B ∷ O) σ τ) (next i (length O)) ∙ joined_far O (λ j. σ (suc j)) τ i
  where
    next : (i n : ℕ) → i + suc n ≡ suc (i + n)
    next i n = omega arith

-- a variable of both is one of the first, or one of the second, moved
pub which_type : (O Q : List LfType) (i : ℕ) (A : LfType) → TypeAt (onto O Q) i A → TypeAt O i A ⊎ ((k : ℕ) × (B : LfType) × TypeAt Q k B × (i ≡ k + length O) × (A ≡ rename_type (shift_by (length O)) B))
which_type [] Q i A g = inr (i, A, g, none i, sym (no_shift_type A))
  where
    none : (i : ℕ) → i ≡ i + 0
    none i = omega arith
which_type (B ∷ O) Q zero A e = inl e
which_type (B ∷ O) Q (suc i) A (C, g, e) = by (which_type O Q i C g)
  where
    next : (k n : ℕ) → suc (k + n) ≡ k + suc n
    next k n = omega arith

    by : TypeAt O i C ⊎ ((k : ℕ) × (D : LfType) × TypeAt Q k D × (i ≡ k + length O) × (C ≡ rename_type (shift_by (length O)) D)) → TypeAt (B ∷ O) (suc i) A ⊎ ((k : ℕ) × (D : LfType) × TypeAt Q k D × (suc i ≡ k + length (B ∷ O)) × (A ≡ rename_type (shift_by (length (B ∷ O))) D))
    by (inl h) = inl (C, h, e)
    by (inr (k, D, h, q, r)) = inr (k, D, h, ap suc q ∙ next k (length O), e ∙ ap weaken r ∙ sym (shift_type_next (length O) D))

fits_image : (κ : HeadSkeletons) (Δ : List Skeleton) (x : Image) (t : Skeleton) → ImageSkeleton κ Δ x t → FitsImage t x
fits_image κ Δ (keep j) t f = tt
fits_image κ Δ (put a N) t (e, m) = e

-- Metavariables that have the values of a context's variables: what is filled is what has these put in.
module _ (Σ : Signature) (μ : ℕ → Skeleton) (β : ℕ → Option Term) (Y G : List LfType) (σ : ℕ → Image) (fits : SubstitutionBySkeletons (constant_skeletons Σ) (context_skeletons Y) (context_skeletons G) σ) (stands : (i : ℕ) (A : LfType) → TypeAt Y i A → (μ i ≡ skeleton A) × (β i ≡ Some (as_term (skeleton A) (σ i)))) where
  all_stand : AllStand Σ μ zero (context_skeletons Y) σ β
  all_stand i t k =
      let (A, h, e) = skeleton_has_variable Y i t k in
      let (s, b) = stands i A h in
      inl (i, refl, s ∙ e, b ∙ ap (λ a. Some (as_term a (σ i))) e, fits_image (constant_skeletons Σ) (context_skeletons G) (σ i) t (fits i t k))

  pub stand_under : (L : List LfType) → AllStand Σ μ (length L) (context_skeletons (onto L Y)) (lift_over L σ) (under_locals L β)
  stand_under [] = all_stand
  stand_under (A ∷ L) = all_lifted Σ μ (length L) (context_skeletons (onto L Y)) (skeleton A) (lift_over L σ) (under_locals L β) (stand_under L)

  pub term_filled : (L : List LfType) (M : Term) (t : Skeleton) → TermSkeleton (constant_skeletons Σ) (context_skeletons (onto L Y)) M t → fill μ (under_locals L β) (open_term (length L) M) ≡ substitute reduce (lift_over L σ) M
  term_filled L M t m = fill_open Σ μ (length L) (context_skeletons (onto L Y)) (context_skeletons (onto (instance L σ) G)) (lift_over L σ) (under_locals L β) (stand_under L) (lifted Σ L Y G σ fits) M t m

  pub type_filled : (A : LfType) → TypeBySkeletons (family_skeletons Σ) (constant_skeletons Σ) (context_skeletons Y) A → fill_type μ β (open_type zero A) ≡ substitute_type reduce σ A
  type_filled A k = fill_open_type Σ μ (family_skeletons Σ) zero (context_skeletons Y) (context_skeletons G) σ β all_stand fits A k

-- the filling under a local context depends on how long this is
pub under_same : (β : ℕ → Option Term) (D E : List LfType) → length D ≡ length E → under_locals D β ≡ under_locals E β
under_same β [] [] e = refl
under_same β [] (B ∷ E) e = absurd cc
under_same β (A ∷ D) [] e = absurd cc
under_same β (A ∷ D) (B ∷ E) e = ap (Rattle.lf_unification.specs.Filling.moved suc) (under_same β D E (suc_same e))

pub open_length : (D : List LfType) → length (open_locals D) ≡ length D
open_length [] = refl
open_length (A ∷ D) = ap suc (open_length D)

-- the quantifiers and the arguments of a type that is renamed
pub binders_renumbered : (ρ : ℕ → ℕ) (D : List LfType) (A : LfType) → binders (renumber ρ D) (rename_type (lift_renaming_by (length D) ρ) A) ≡ renumber ρ (binders D A)
binders_renumbered ρ D (pi A B) = binders_renumbered ρ (A ∷ D) B
binders_renumbered ρ D (atom a S) = refl

pub arguments_renamed : (ρ : ℕ → ℕ) (D : List LfType) (A : LfType) → target_arguments (rename_type (lift_renaming_by (length D) ρ) A) ≡ rename_spine (lift_renaming_by (length (binders D A)) ρ) (target_arguments A)
arguments_renamed ρ D (pi A B) = arguments_renamed ρ (A ∷ D) B
arguments_renamed ρ D (atom a S) = refl

pub arguments_over : (E : List LfType) (P : LfType) → target_arguments (pi_over E P) ≡ target_arguments P
arguments_over [] P = refl
arguments_over (A ∷ E) P = arguments_over E (pi A P)

pub solves_both : (μ : ℕ → Skeleton) (β : ℕ → Option Term) (es fs : List Equation) → SolvesAll μ β es → SolvesAll μ β fs → SolvesAll μ β (followed es fs)
solves_both μ β [] fs s t = t
solves_both μ β (e ∷ es) fs (x, s) t = (x, solves_both μ β es fs s t)

-- the value of a variable
abbrev value : Option LfType → Image → Option Term
value None x = None
value (Some A) x = Some (as_term (skeleton A) x)

-- Two typed contexts, each with typed values over G.
module _ (Σ : Signature) (ok : IsSignature Σ) (O Q G : List LfType) (co : IsContext Σ O) (cq : IsContext Σ Q) (cg : IsContext Σ G) (σ τ : ℕ → Image) (ts : IsTypedSubstitution Σ O G σ) (tt' : IsTypedSubstitution Σ Q G τ) where
  abbrev κ : HeadSkeletons
  κ = constant_skeletons Σ

  abbrev pub β : ℕ → Option Term
  β i = value (type_in (onto O Q) i) (joined O σ τ i)

  abbrev μ : ℕ → Skeleton
  μ = skeletons_of (context_metavariables (onto O Q))

  pub first_fits : SubstitutionBySkeletons (constant_skeletons Σ) (context_skeletons O) (context_skeletons G) σ
  first_fits = typed_substitution_by_skeletons Σ ok O G σ ts

  second_fits : SubstitutionBySkeletons (constant_skeletons Σ) (context_skeletons Q) (context_skeletons G) τ
  second_fits = typed_substitution_by_skeletons Σ ok Q G τ tt'

  pub both_fit : SubstitutionBySkeletons (constant_skeletons Σ) (context_skeletons (onto O Q)) (context_skeletons G) (joined O σ τ)
  both_fit i t k = let (A, h, e) = skeleton_has_variable (onto O Q) i t k in by A e (which_type O Q i A h)
    where
      by : (A : LfType) → skeleton A ≡ t → TypeAt O i A ⊎ ((k : ℕ) × (B : LfType) × TypeAt Q k B × (i ≡ k + length O) × (A ≡ rename_type (shift_by (length O)) B)) → ImageSkeleton (constant_skeletons Σ) (context_skeletons G) (joined O σ τ i) t
      by A e (inl h) =
          subst (λ x. ImageSkeleton (constant_skeletons Σ) (context_skeletons G) x t) (sym (joined_near O σ τ i A h)) (subst (ImageSkeleton (constant_skeletons Σ) (context_skeletons G) (σ i)) e (first_fits i (skeleton A) (variable_has_skeleton O i A h)))
      by A e (inr (k, B, h, q, r)) =
          subst (λ x. ImageSkeleton (constant_skeletons Σ) (context_skeletons G) x t) (sym (ap (joined O σ τ) q ∙ joined_far O σ τ k)) (subst (ImageSkeleton (constant_skeletons Σ) (context_skeletons G) (τ k)) (sym (skeleton_renamed (shift_by (length O)) B) ∙ sym (ap skeleton r) ∙ e) (second_fits k (skeleton B) (variable_has_skeleton Q k B h)))

  pub both_stand : (i : ℕ) (A : LfType) → TypeAt (onto O Q) i A → (μ i ≡ skeleton A) × (β i ≡ Some (as_term (skeleton A) (joined O σ τ i)))
  both_stand i A h = (
    ap (λ y. skeleton_or_default (open_some y)) (looked_up (onto O Q) i A h) ∙ skeleton_open zero A,
    ap (λ y. value y (joined O σ τ i)) (looked_up (onto O Q) i A h),
  )

  pub first_stand : (i : ℕ) (A : LfType) → TypeAt O i A → (μ i ≡ skeleton A) × (β i ≡ Some (as_term (skeleton A) (σ i)))
  first_stand i A h = let (m, b) = both_stand i A (near_type O Q i A h) in (m, b ∙ ap (λ x. Some (as_term (skeleton A) x)) (joined_near O σ τ i A h))

  pub moves : RenamingBySkeletons (context_skeletons Q) (context_skeletons (onto O Q)) (shift_by (length O))
  moves i t k = let (A, h, e) = skeleton_has_variable Q i t k in
      subst (Rattle.lf.specs.SkeletonTyping.SkeletonAt (context_skeletons (onto O Q)) (i + length O)) (skeleton_renamed (shift_by (length O)) A ∙ e) (variable_has_skeleton (onto O Q) (i + length O) (rename_type (shift_by (length O)) A) (far_type O Q i A h))

  -- a type over the second context, moved
  second_filled : (A : LfType) → IsType Σ Q A → fill_type μ β (open_type zero (rename_type (shift_by (length O)) A)) ≡ substitute_type reduce τ A
  second_filled A t =
      type_filled Σ μ β (onto O Q) G (joined O σ τ) both_fit both_stand (rename_type (shift_by (length O)) A) (renaming_keeps_types_by_skeletons (family_skeletons Σ) (constant_skeletons Σ) (context_skeletons Q) (context_skeletons (onto O Q)) (shift_by (length O)) A moves (type_by_skeletons Σ Q A t))
      ∙ substitute_renamed_type reduce (joined O σ τ) (shift_by (length O)) A
      ∙ ap (λ f. substitute_type reduce f A) (fun_ext (joined_far O σ τ))

  -- the values are a typed instance of the metavariables
  pub are_instance : IsInstance Σ [] (context_metavariables (onto O Q)) G β
  are_instance = record { context = cg; outer = λ i A k. absurd k; typed = λ m. each m (type_in (onto O Q) m) refl }
    where
      each : (m : ℕ) (y : Option LfType) → type_in (onto O Q) m ≡ y → ValueHasType Σ G μ β (open_some y) (value y (joined O σ τ m))
      each m None e = tt
      each m (Some A) e = by (which_type O Q m A (found_type (onto O Q) m A e))
        where
          by : TypeAt O m A ⊎ ((k : ℕ) × (B : LfType) × TypeAt Q k B × (m ≡ k + length O) × (A ≡ rename_type (shift_by (length O)) B)) → HasType Σ G (as_term (skeleton A) (joined O σ τ m)) (fill_type μ β (open_type zero A))
          by (inl h) =
              let v : HasType Σ G (as_term (skeleton A) (σ m)) (substitute_type reduce σ A) = term_typed Σ ok G cg (skeleton A) (σ m) (substitute_type reduce σ A) (skeleton_substituted reduce σ A) (ts m A h) in
              subst (λ x. HasType Σ G (as_term (skeleton A) x) (fill_type μ β (open_type zero A))) (sym (joined_near O σ τ m A h)) (subst (HasType Σ G (as_term (skeleton A) (σ m))) (sym (type_filled Σ μ β O G σ first_fits first_stand A (type_by_skeletons Σ O A (declared_is_type Σ ok O m A co h)))) v)
          by (inr (k, B, h, q, r)) =
              let v : HasType Σ G (as_term (skeleton B) (τ k)) (substitute_type reduce τ B) = term_typed Σ ok G cg (skeleton B) (τ k) (substitute_type reduce τ B) (skeleton_substituted reduce τ B) (tt' k B h) in
              let w : HasType Σ G (as_term (skeleton B) (τ k)) (fill_type μ β (open_type zero A)) = subst (HasType Σ G (as_term (skeleton B) (τ k))) (sym (ap (λ Z. fill_type μ β (open_type zero Z)) r ∙ second_filled B (declared_is_type Σ ok Q k B cq h))) v in
              subst (λ x. HasType Σ G (as_term (skeleton A) x) (fill_type μ β (open_type zero A))) (sym (ap (joined O σ τ) q ∙ joined_far O σ τ k)) (subst (λ a. HasType Σ G (as_term a (τ k)) (fill_type μ β (open_type zero A))) (sym (ap skeleton r ∙ skeleton_renamed (shift_by (length O)) B)) w)

  -- what is given is solved
  given_solved : (Ms : List (Option Term)) (m : ℕ) → HaveSkeletons (constant_skeletons Σ) (context_skeletons O) Ms → ((i : ℕ) (M : Term) (A : LfType) → given_at Ms i ≡ Some M → TypeAt (onto O Q) (i + m) A → (a : Skeleton) × (joined O σ τ (i + m) ≡ put a (substitute reduce σ M))) → SolvesAll μ β (given_equations (onto O Q) m Ms)
  given_solved [] m h g = tt
  given_solved (None ∷ Ms) m h g = by (type_in (onto O Q) m) (given_solved Ms (suc m) h (λ i M A e k. let (a, q) = g (suc i) M A e (subst (λ j. TypeAt (onto O Q) j A) (next i m) k) in (a, ap (joined O σ τ) (next i m) ∙ q)))
    where
      next : (i m : ℕ) → i + suc m ≡ suc i + m
      next i m = omega arith

      by : (y : Option LfType) → SolvesAll μ β (given_equations (onto O Q) (suc m) Ms) → SolvesAll μ β (one_given m y None (given_equations (onto O Q) (suc m) Ms))
      by None rest = rest
      by (Some A) rest = rest
  given_solved (Some M ∷ Ms) m ((t, n), h) g = by (type_in (onto O Q) m) refl (given_solved Ms (suc m) h (λ i M A e k. let (a, q) = g (suc i) M A e (subst (λ j. TypeAt (onto O Q) j A) (next i m) k) in (a, ap (joined O σ τ) (next i m) ∙ q)))
    where
      next : (i m : ℕ) → i + suc m ≡ suc i + m
      next i m = omega arith

      first : (m : ℕ) → m ≡ 0 + m
      first m = omega arith

      by : (y : Option LfType) → type_in (onto O Q) m ≡ y → SolvesAll μ β (given_equations (onto O Q) (suc m) Ms) → SolvesAll μ β (one_given m y (Some M) (given_equations (onto O Q) (suc m) Ms))
      by None e rest = rest
      by (Some A) e rest =
          let k = variable_has_skeleton (onto O Q) m A (found_type (onto O Q) m A e) in
          let (a, q) = g zero M A refl (subst (λ j. TypeAt (onto O Q) j A) (first m) (found_type (onto O Q) m A e)) in (
            term_filled Σ μ β (onto O Q) G (joined O σ τ) both_fit both_stand [] (eta_long (skeleton A) (variable m)) (skeleton A) (eta_expand_has_skeleton (constant_skeletons Σ) (skeleton A) (skeleton A) (context_skeletons (onto O Q)) (variable m) nil k refl)
                ∙ value_at (constant_skeletons Σ) (context_skeletons G) (skeleton A) (joined O σ τ) m (both_fit m (skeleton A) k)
                ∙ ap (as_term (skeleton A)) (ap (joined O σ τ) (first m) ∙ q)
                ∙ sym (term_filled Σ μ β O G σ first_fits first_stand [] M t n),
            rest,
          )

  -- and so are the places
  pub places_solved : (L E : List LfType) → length E ≡ length L → (Ms : List (Option Term)) (S T : Spine) (K : Kind) → HaveSkeletons (constant_skeletons Σ) (context_skeletons (onto L O)) Ms → HasArguments (lift_over L σ) Ms T → SamePlaces (covered_places Ms) T (fill_spine μ (under_locals E β) S) → SolvesAll μ β (place_equations E (open_arguments (length L) Ms) S K)
  places_solved L E l [] S T K h a s = tt
  places_solved L E l (Some M ∷ Ms) nil T K h a s = tt
  places_solved L E l (None ∷ Ms) nil T K h a s = tt
  places_solved L E l (Some M ∷ Ms) (app P S) T star h a s = tt
  places_solved L E l (None ∷ Ms) (app P S) T star h a s = tt
  places_solved L E l (M ∷ Ms) (app P S) nil K h a s = absurd a
  places_solved L E l (Some M ∷ Ms) (app P S) (app N T) (kind_pi A K) ((t, m), h) (e, a) (q, s) =
      (ap (λ f. fill μ f (open_term (length L) M)) (under_same β E L l) ∙ term_filled Σ μ β O G σ first_fits first_stand L M t m ∙ sym e ∙ q, places_solved L E l Ms S T (instantiate_kind A P K) h a s)
  places_solved L E l (None ∷ Ms) (app P S) (app N T) (kind_pi A K) h a s = places_solved L E l Ms S T (instantiate_kind A P K) h a s

  -- the arguments of the pattern
  pattern_filled : (P : LfType) → IsType Σ Q P → fill_spine μ (under_locals (open_locals (renumber (shift_by (length O)) (binders [] P))) β) (open_spine (length (binders [] P)) (rename_spine (lift_renaming_by (length (binders [] P)) (shift_by (length O))) (target_arguments P))) ≡ target_arguments (substitute_type reduce τ P)
  pattern_filled P t =
      let ρ : ℕ → ℕ = shift_by (length O) in
      let D : List LfType = renumber (shift_by (length O)) (binders [] P) in
      let S : Spine = rename_spine (lift_renaming_by (length (binders [] P)) (shift_by (length O))) (target_arguments P) in
      let b : LfType = rename_type (shift_by (length O)) P in
      let form : rename_type (shift_by (length O)) P ≡ pi_over D (atom (target b) S) = as_pis b [] ∙ ap₂ (λ L T. pi_over L (atom (target b) T)) (binders_renumbered ρ [] P) (arguments_renamed ρ [] P) in
      let filled : substitute_type reduce τ P ≡ pi_over (fill_locals μ β (open_locals D)) (atom (target b) (fill_spine μ (under_locals (open_locals D) β) (open_spine (length D) S))) = sym (second_filled P t) ∙ ap (λ Z. fill_type μ β (open_type zero Z)) form ∙ ap (fill_type μ β) (open_pis D (target b) S) ∙ fill_pis μ β (open_locals D) (atom (target b) (open_spine (length D) S)) in
      ap (λ n. fill_spine μ (under_locals (open_locals D) β) (open_spine n S)) (sym (length_renumber ρ (binders [] P)))
      ∙ sym (ap target_arguments filled ∙ arguments_over (fill_locals μ β (open_locals D)) (atom (target b) (fill_spine μ (under_locals (open_locals D) β) (open_spine (length D) S))))

-- the blocks of a constant's clause are those of the worlds
pub no_block_with : (Σ : Signature) (W : List Block) {c : Clause} (o : Origin c) (I : List Item) → IsConstants o → AreTypedItems Σ (blocks_with o W) I → AreTypedItems Σ W I
no_block_with Σ W (of_constant U) I i a = a
no_block_with Σ W (of_entry B later E es e) I i a = absurd i

-- Typed values of the case and of the clause that make the arguments at the covered places the same solve the store.
pub never_with : (Σ : Signature) (ok : IsSignature Σ) (W : List Block) (C : Case) → IsTypedCase Σ W C → (p : Pattern) → IsTypedPattern Σ p → length C.local ≡ length (binders [] p.type) → (K : Kind) → Never Σ [] (meet_store C p K) → IsContext Σ (items_context C.items) → (G : List LfType) → IsContext Σ G → (σ : ℕ → Image) → IsTypedSubstitution Σ (items_context C.items) G σ → (τ : ℕ → Image) → IsTypedSubstitution Σ (scope p.clause) G τ → (T : Spine) → HasArguments (lift_over C.local σ) C.arguments T → SamePlaces (covered_places C.arguments) T (target_arguments (substitute_type reduce τ p.type)) → ((i : ℕ) (M : Term) (A : LfType) → given_at C.given i ≡ Some M → TypeAt (onto (items_context C.items) (scope p.clause)) (i + length (items_context C.items)) A → (a : Skeleton) × (τ i ≡ put a (substitute reduce σ M))) → ⊥
never_with Σ ok W C tc p tp l K never co G cg σ ts τ tv T h e g =
    let O : List LfType = items_context C.items in
    let Q : List LfType = scope p.clause in
    let D : List LfType = binders [] p.type in
    let ms : ℕ → Skeleton = μ Σ ok O Q G co tp.clause_typed cg σ τ ts tv in
    let bs : ℕ → Option Term = β Σ ok O Q G co tp.clause_typed cg σ τ ts tv in
    let E : List LfType = open_locals (renumber (shift_by (length O)) D) in
    let S : Spine = open_spine (length D) (rename_spine (lift_renaming_by (length D) (shift_by (length O))) (target_arguments p.type)) in
    let le : length E ≡ length C.local = open_length (renumber (shift_by (length O)) D) ∙ length_renumber (shift_by (length O)) D ∙ sym l in
    let same : SamePlaces (covered_places C.arguments) T (fill_spine ms (under_locals E bs) S) = subst (SamePlaces (covered_places C.arguments) T) (sym (pattern_filled Σ ok O Q G co tp.clause_typed cg σ τ ts tv p.type tp.type_typed)) e in
    let places : SolvesAll ms bs (place_equations E (open_arguments (length C.local) C.arguments) S K) = places_solved Σ ok O Q G co tp.clause_typed cg σ τ ts tv C.local E le C.arguments S T K tc.arguments h same in
    let given : SolvesAll ms bs (given_equations (onto O Q) (length O) C.given) = given_solved Σ ok O Q G co tp.clause_typed cg σ τ ts tv C.given (length O) tc.given (λ k M A q z. let (a, r) = g k M A q z in (a, joined_far O σ τ k ∙ r)) in
    never G bs (are_instance Σ ok O Q G co tp.clause_typed cg σ τ ts tv, (tt, solves_both ms bs (given_equations (onto O Q) (length O) C.given) (place_equations E (open_arguments (length D) C.arguments) S K) given (subst (λ n. SolvesAll ms bs (place_equations E (open_arguments n C.arguments) S K)) l places)))

pub never_shares_all : NeverSharesAll
never_shares_all Σ ok W typed C tc nc p tp i l K never s all =
    never_with Σ ok W C tc p tp l K never (items_are_context Σ ok W typed C.items tc.items) (items_context s.items) (items_are_context Σ ok W typed s.items (no_block_with Σ W p.origin s.items i s.typed_items)) s.case_values (instance_is_typed Σ ok W typed s.items C.items s.case_values nc s.is_instance) s.clause_values (λ k A g. s.typed_values.typed k A g (all k A g)) s.tuple s.of_case s.of_clause (λ k M A q z. s.given k M q)

-- Where nothing is given, fresh variables stand for those that an instance gives no value.
pub never_is_apart : NeverIsApart
never_is_apart Σ ok W typed C tc nc p tp i l none K never s =
    let O : List LfType = items_context C.items in
    let co : IsContext Σ (items_context C.items) = items_are_context Σ ok W typed C.items tc.items in
    let cg : IsContext Σ (items_context s.items) = items_are_context Σ ok W typed s.items (no_block_with Σ W p.origin s.items i s.typed_items) in
    let ts : IsTypedSubstitution Σ (items_context C.items) (items_context s.items) s.case_values = instance_is_typed Σ ok W typed s.items C.items s.case_values nc s.is_instance in
    let f : Longer Σ s.used (scope p.clause) (items_context s.items) s.clause_values = longer Σ ok W typed (items_context s.items) cg (scope p.clause) s.used s.clause_values tp.clause_typed s.typed_values in
    let same : SamePlaces (covered_places C.arguments) (rename_spine (lift_renaming_by (length (binders [] p.type)) f.moves) s.tuple) (target_arguments (substitute_type reduce f.values p.type)) = goal_moved [] s.used f.moves s.clause_values f.values f.same (covered_places C.arguments) p.type s.tuple s.uses s.of_clause in
    never_with Σ ok W C tc p tp l K never co f.context f.is_context (λ k. rename_image f.moves (s.case_values k)) (values_moved Σ ok O (items_context s.items) f.context f.moves s.case_values f.renames ts) f.values f.typed
    (rename_spine (lift_renaming_by (length C.local) f.moves) s.tuple)
    (arguments_moved C.local f.moves s.case_values C.arguments s.tuple s.of_case)
    (subst (λ n. SamePlaces (covered_places C.arguments) (rename_spine (lift_renaming_by n f.moves) s.tuple) (target_arguments (substitute_type reduce f.values p.type))) (sym l) same)
    (λ k M A e z. absurd (none_some (sym (ap (λ Ms. given_at Ms k) none) ∙ e)))
