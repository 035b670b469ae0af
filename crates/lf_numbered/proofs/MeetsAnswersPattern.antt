-- The case that a solved store gives has the pattern: the answer's values for the clause's own variables make the pattern's arguments the case's.
use Rattle.std.proofs.Common.{◌≡◌, ℕ, zero, suc, ◌+◌, ◌<◌, List, [], ◌∷◌, length, refl, sym, ap, ap₂, ◌∙◌, subst, arith}
use Rattle.std.specs.Prelude.{true, false, Option, Some, None}
use Rattle.lf.specs.Syntax.{variable, Term, Spine, nil, app, LfType, atom, Kind, kind_pi, star, Skeleton, base, arrow, skeleton, kind_skeleton, rename}
use Rattle.lf.specs.Entries.{kind_quantifiers}
use Rattle.lf.specs.Eta.{eta_long}
use Rattle.lf.specs.Substitution.{Image, put, lift, single, substitute, substitute_image, substitute_spine, substitute_type, after, reduce}
use Rattle.lf.specs.AtOnce.{shift_by, lift_renaming_by}
use Rattle.lf.specs.SkeletonTyping.{HeadSkeletons, SkeletonAt, SpineSkeleton, TermSkeleton}
use Rattle.lf.specs.Skeletons.{constant_skeletons, family_skeletons, context_skeletons}
use Rattle.lf.specs.Typing.{Signature, TypeAt, ImageHasType, IsType, SpineFitsKind, IsSignature, IsTypedSubstitution, instantiate_kind}
use Rattle.lf.specs.Variables.{target, target_arguments, binders, onto, everything}
use Rattle.lf.specs.Subordination.{Block, AreTypedBlocks}
use Rattle.lf.specs.Worlds.{lift_over, instance}
use Rattle.lf.proofs.AtOnce.{eta_long_has_skeleton}
use Rattle.lf.proofs.Partial.{uses_type_all}
use Rattle.lf.proofs.Renaming.{substitute_renamed, substitute_renamed_spine}
use Rattle.lf.proofs.SkeletonTypes.{substitutions_compose_type}
use Rattle.lf.proofs.SkeletonTyping.{renaming_keeps_skeletons}
use Rattle.lf.proofs.Substitution.{typed_substitution_by_skeletons}
use Rattle.lf.proofs.Target.{target_of}
use Rattle.lf.proofs.ToSkeletons.{kind_spine_has_skeleton, type_by_skeletons, variable_has_skeleton}
use Rattle.lf_unification.specs.Filling.{fill}
use Rattle.lf_unification.specs.OpenTyping.{skeletons_of, under_locals}
use Rattle.lf_unification.specs.Solving.{IsWellFormed, Solved}
use Rattle.lf_unification.specs.Unifiers.{SolvesAll, Store}
use Rattle.lf_unification.proofs.EquationLemmas.{solves_first}
use Rattle.lf_unification.proofs.RigidSteps.{solves_rest}
use Rattle.lf_checks.specs.Clause.{scope, outside}
use Rattle.lf_checks.specs.ModeForms.{argument_count}
use Rattle.lf_checks.specs.Worlded.{IsTerm}
use Rattle.lf_cases.specs.Case.{as_term, covered_places}
use Rattle.lf_cases.specs.Missing.{put_in}
use Rattle.lf_cases.specs.Pattern.{Pattern, given_at, is_given}
use Rattle.lf_cases.proofs.Assemble.{end_typed}
use Rattle.lf_cases.proofs.OutputItems.{length_instance, lift_after}
use Rattle.lf_totality.proofs.GoalHolds.{arguments_under}
use Rattle.lf_totality.proofs.RaisedOutputs.{binders_over}
use Rattle.lf_coverage.specs.Heads.{HaveSkeletons}
use Rattle.lf_coverage.specs.Leaf.{IsTypedPattern}
use Rattle.lf_coverage.specs.Matching.{ArePlaces}
use Rattle.lf_coverage.specs.MeetStore.{open_arguments, place_equations, given_equations}
use Rattle.lf_coverage.specs.SplitStore.{context_metavariables, open_spine, open_term, open_locals}
use Rattle.lf_coverage.proofs.Forms.{lift_over_near, local_has_type}
use Rattle.lf_coverage.proofs.GivenEquations.{given_solved}
use Rattle.lf_coverage.proofs.Leaves.{given_is}
use Rattle.lf_coverage.proofs.Meeting.{open_length, term_filled, under_same}
use Rattle.lf_coverage.proofs.Parts.{some_same}
use Rattle.lf_coverage.proofs.SolvedMeets.{uses_goal_all}
use Rattle.lf_coverage.proofs.StoreSolution.{value_at}
use Rattle.lf_numbered.specs.EntryConstants.{with_entries, IsFreeFrom}
use Rattle.lf_numbered.specs.EntryTerms.{IsTried}
use Rattle.lf_numbered.specs.EntryPatterns.{StandsByNumber}
use Rattle.lf_numbered.specs.NewBlock.{rename_all}
use Rattle.lf_numbered.specs.NumberedCallsMeeting.{HasPattern}
use Rattle.lf_numbered.specs.NumberedCallsStores.{Identifies, identified, identity_equations, move_blocks}
use Rattle.lf_numbered.specs.NumberedCase.{NumberedCase}
use Rattle.lf_numbered.specs.NumberedInstance.{moved_constant, move, move_all, move_spine, move_types}
use Rattle.lf_numbered.specs.OwnTerms.{blocks_of, own_terms, rename_blocks, ImageOnOwnTerms}
use Rattle.lf_numbered.specs.TypedNumbered.{IsTypedNumberedCase, own_over}
use Rattle.lf_numbered.specs.WritingRoom.{move_image}
use Rattle.lf_numbered.proofs.EntryPatternsMatching.{more_type}
use Rattle.lf_numbered.proofs.EntryTermsTried.{OuterFacts, tried_facts}
use Rattle.lf_numbered.proofs.IdentifiedConstants.{term_stays}
use Rattle.lf_numbered.proofs.MeetsAnswersForm.{P, X, T, ρ, n, context, own_length, placed_store, placed_typed, scope_context, type_typed}
use Rattle.lf_numbered.proofs.MeetsAnswersOwn.{move_own, image_put_moved}
use Rattle.lf_numbered.proofs.MeetsAnswersRead.{read_case, blocks_same, image_own, answer_context}
use Rattle.lf_numbered.proofs.MeetsAnswersEquations.{kind_put}
use Rattle.lf_numbered.proofs.MeetsAnswersSame.{O, σ, υ, β, answer, declared, known, moves, own_after, own_is, solves, stands_before, values_fit, values_typed}
use Rattle.lf_numbered.proofs.EntryPatternsNear.{binders_count, own_near}
use Rattle.lf_numbered.proofs.EntryTermsOwn.{quantifiers_put}
use Rattle.lf_numbered.proofs.MovedConstants.{length_moved}
use Rattle.lf_numbered.proofs.OwnStoresCase.{over_images}
use Rattle.lf_numbered.proofs.OwnStoresOpened.{own_over_shifts}
use Rattle.lf_numbered.proofs.OwnStoresValues.{value, value_is}
use Rattle.lf_numbered.proofs.OwnTerms.{rename_own, substitute_own}
use Rattle.lf_numbered.proofs.WritingMove.{lift_moved, move_spine_renamed}
use Rattle.lf_numbered.proofs.WritingTyped.{typed_after}
use mathlib.Core.Path.{fun_ext}
use Rattle.lf_numbered.proofs.MeetsAnswersGiven.{fits_count, given_from, no_suc, suc_same}

module _ (Σ : Signature) (ok : IsSignature Σ) (W : List Block) (typed : AreTypedBlocks Σ W) (first : ℕ) (free : IsFreeFrom Σ first) (C : NumberedCase) (tc : IsTypedNumberedCase Σ first W C) (p : Pattern) (tp : IsTypedPattern Σ p) (π : ℕ → ℕ) (ids : Identifies C π) (φ₀ : ℕ → Image) (tried : IsTried first C p.origin false φ₀) (K : Kind) (finish : Store) (s : Solved (with_entries Σ first (blocks_of C.blocks)) (placed_store π (identified first π C) K (n Σ ok W typed first free C tc p tp π ids φ₀ tried) (T Σ ok W typed first free C tc p tp π ids φ₀ tried) (X Σ ok W typed first free C tc p tp π ids φ₀ tried)) finish) (size : length C.local ≡ length (binders [] p.type)) (form : IsWellFormed (with_entries Σ first (blocks_of C.blocks)) (placed_store π (identified first π C) K (n Σ ok W typed first free C tc p tp π ids φ₀ tried) (T Σ ok W typed first free C tc p tp π ids φ₀ tried) (X Σ ok W typed first free C tc p tp π ids φ₀ tried))) (of_family : Σ.kinds C.family ≡ Some K) (same_family : target p.type ≡ C.family) (all_places : length C.arguments ≡ kind_quantifiers K) (given_own : (i : ℕ) → is_given C.given i ≡ true → outside p.clause.type everything i ≡ false) where
  abbrev Σ₁ : Signature
  Σ₁ = with_entries Σ first (blocks_of C.blocks)

  abbrev κ : HeadSkeletons
  κ = constant_skeletons (with_entries Σ first (blocks_of C.blocks))

  abbrev γ : ℕ → ℕ
  γ = moved_constant first (blocks_of C.blocks) (blocks_of C.blocks) π

  abbrev k : ℕ
  k = n Σ ok W typed first free C tc p tp π ids φ₀ tried

  abbrev Y : List LfType
  Y = X Σ ok W typed first free C tc p tp π ids φ₀ tried

  abbrev T₁ : LfType
  T₁ = T Σ ok W typed first free C tc p tp π ids φ₀ tried

  abbrev F : List LfType
  F = O Σ ok W typed first free C tc p tp π ids φ₀ tried K finish s

  abbrev o : ℕ → Option Spine
  o = own_after Σ ok W typed first free C tc p tp π ids φ₀ tried K finish s

  abbrev ν : ℕ → Skeleton
  ν = skeletons_of (context_metavariables Y)

  abbrev ς : ℕ → Image
  ς = σ Σ ok W typed first free C tc p tp π ids φ₀ tried K finish s

  abbrev χ : ℕ → Image
  χ = υ Σ ok W typed first free C tc p tp π ids φ₀ tried K finish s

  abbrev b : ℕ → Option Term
  b = β Σ ok W typed first free C tc p tp π ids φ₀ tried K finish s

  abbrev r : ℕ → Image
  r = ρ Σ ok W typed first free C tc p tp π ids φ₀ tried

  abbrev D : NumberedCase
  D = read_case Σ ok W typed first free C tc p tp π ids φ₀ tried K finish s size form

  -- what stands for the variables of the clause
  abbrev pub clause_values : ℕ → Image
  clause_values = after (σ Σ ok W typed first free C tc p tp π ids φ₀ tried K finish s) (ρ Σ ok W typed first free C tc p tp π ids φ₀ tried)

  ok₁ : IsSignature Σ₁
  ok₁ = known Σ ok W typed first free C tc p tp π ids φ₀ tried K finish s

  facts : OuterFacts Σ ok W typed first free C tc p.clause φ₀
  facts = tried_facts Σ ok W typed first free C tc p.origin false φ₀ tried

  whole_typed : IsTypedSubstitution Σ₁ (scope p.clause) F clause_values
  whole_typed = typed_after Σ₁ ok₁ (scope p.clause) Y F r ς (scope_context Σ ok W typed first free C tc p tp π ids φ₀ tried) (context Σ ok W typed first free C tc p tp π ids φ₀ tried) (answer_context Σ ok W typed first free C tc p tp π ids φ₀ tried K finish s size form) (placed_typed Σ ok W typed first free C tc p tp π ids φ₀ tried) (values_typed Σ ok W typed first free C tc p tp π ids φ₀ tried K finish s)

  -- the clause's own variables stay
  pub near : (i : ℕ) → outside p.clause.type everything i ≡ false → (i < length (binders [] p.clause.type)) × (clause_values i ≡ ς i)
  near i e = let l = own_near p.clause.type i e in (l, ap (substitute_image ς) (lift_over_near (binders [] p.clause.type) _ i l))

  own_value : (i : ℕ) → outside p.clause.type everything i ≡ false → (A : LfType) × (N : Term) × TypeAt Y i A × (ς i ≡ put (skeleton A) N)
  own_value i e =
      let Q : List LfType = P Σ ok W typed first free C tc p tp π ids φ₀ tried in
      let (A, g) = local_has_type Q (move_types γ C.variables) i (subst (λ m. i < m) (sym (length_instance (binders [] p.clause.type) _)) (near i e).0) in
      let cy = context Σ ok W typed first free C tc p tp π ids φ₀ tried in (
        A,
        (value Σ₁ ok₁ Y cy finish s.well_formed.order (answer Σ ok W typed first free C tc p tp π ids φ₀ tried K finish s) (declared Σ ok W typed first free C tc p tp π ids φ₀ tried K finish s) i A g).0,
        g,
        value_is Σ₁ ok₁ Y cy finish s.well_formed.order (answer Σ ok W typed first free C tc p tp π ids φ₀ tried K finish s) (declared Σ ok W typed first free C tc p tp π ids φ₀ tried K finish s) i A g,
      )

  -- on own terms
  over_is : (c : ℕ) → o (γ c) ≡ substitute_own ς (move_own γ (own_over (instance (binders [] p.clause.type) φ₀) (own_terms first C.blocks) c))
  over_is c = own_is Σ ok W typed first free C tc p tp π ids φ₀ tried K finish s c ∙ by (own_terms first C.blocks c) ∙ ap (λ u. substitute_own ς (move_own γ u)) (sym (own_over_shifts (instance (binders [] p.clause.type) φ₀) (own_terms first C.blocks) c ∙ ap (λ m. rename_own (shift_by m) (own_terms first C.blocks c)) (own_length Σ ok W typed first free C tc p tp π ids φ₀ tried)))
    where
      by : (u : Option Spine) → substitute_own χ (move_own γ u) ≡ substitute_own ς (move_own γ (rename_own (shift_by k) u))
      by None = refl
      by (Some U) = ap Some (sym (ap (substitute_spine reduce ς) (move_spine_renamed γ (shift_by k) U) ∙ substitute_renamed_spine reduce ς (shift_by k) (move_spine γ U)))

  lift_over_moved : (L : List LfType) (ψ : ℕ → Image) (i : ℕ) → lift_over L (λ j. move_image γ (ψ j)) i ≡ move_image γ (lift_over L ψ i)
  lift_over_moved [] ψ i = refl
  lift_over_moved (A ∷ L) ψ i = ap (λ f. lift f i) (fun_ext (lift_over_moved L ψ)) ∙ lift_moved γ (lift_over L ψ) i

  values_own : (i : ℕ) → ImageOnOwnTerms o (clause_values i)
  values_own i = subst (λ y. ImageOnOwnTerms o (substitute_image ς y)) (sym (lift_over_moved (binders [] p.clause.type) φ₀ i)) (image_put_moved γ (own_over (instance (binders [] p.clause.type) φ₀) (own_terms first C.blocks)) o ς (lift_over (binders [] p.clause.type) φ₀ i) over_is (image_own Σ ok W typed first free C tc p tp π ids φ₀ tried K finish s size form) (over_images (binders [] p.clause.type) φ₀ (own_terms first C.blocks) facts.own i))

  -- what stands in the store, filled
  read : (L : List LfType) (M : Term) (t : Skeleton) → TermSkeleton κ (context_skeletons (onto L Y)) M t → fill ν (under_locals L b) (open_term (length L) M) ≡ substitute reduce (lift_over L ς) M
  read = term_filled Σ₁ ν b Y F ς (values_fit Σ ok W typed first free C tc p tp π ids φ₀ tried K finish s) (stands_before Σ ok W typed first free C tc p tp π ids φ₀ tried K finish s)

  over_moves : (L : List LfType) (i : ℕ) (t : Skeleton) → SkeletonAt (context_skeletons (onto L C.variables)) i t → SkeletonAt (context_skeletons (onto L Y)) (lift_renaming_by (length L) (shift_by k) i) t
  over_moves [] i t g = moves Σ ok W typed first free C tc p tp π ids φ₀ tried K finish s i t g
  over_moves (A ∷ L) zero t g = g
  over_moves (A ∷ L) (suc i) t g = over_moves L i t g

  case_term : (L : List LfType) (M : Term) (t : Skeleton) → TermSkeleton κ (context_skeletons (onto L C.variables)) M t → fill ν (under_locals L b) (open_term (length L) (rename (lift_renaming_by (length L) (shift_by k)) (move γ M))) ≡ substitute reduce (lift_over L χ) (move γ M)
  case_term L M t m =
      let q : ℕ → ℕ = lift_renaming_by (length L) (shift_by k) in
      read L (rename q (move γ M)) t (renaming_keeps_skeletons κ (context_skeletons (onto L C.variables)) (context_skeletons (onto L Y)) q (move γ M) t (over_moves L) (term_stays Σ ok W typed first free C tc.variables π ids (context_skeletons (onto L C.variables)) M t m))
      ∙ substitute_renamed reduce (lift_over L ς) q (move γ M)
      ∙ ap (λ f. substitute reduce f (move γ M)) (lift_after L (shift_by k) ς)

  -- the given terms
  given : (i : ℕ) (M : Term) → given_at D.given i ≡ Some M → (a : Skeleton) × (clause_values i ≡ put a M)
  given i M e =
      let (N, at, made, q, (t, m)) = given_from γ χ (shift_by k) κ (context_skeletons C.variables) C.given tc.given i M e in
      let out : outside p.clause.type everything i ≡ false = given_own i (given_is C.given i N at) in
      let (A, R, g, v) = own_value i out in
      let bs = rename_blocks (shift_by k) (move_blocks γ C.blocks) in
      let equations : SolvesAll ν b (given_equations Y zero (rename_all (shift_by k) (move_all γ C.given))) = solves_first ν b (given_equations Y zero (rename_all (shift_by k) (move_all γ C.given))) _ (solves_rest ν b (identity_equations π bs zero bs) _ (solves Σ ok W typed first free C tc p tp π ids φ₀ tried K finish s)) in
      let one : fill ν b (open_term zero (eta_long (skeleton A) (variable (i + zero)))) ≡ fill ν b (open_term zero (rename (shift_by k) (move γ N))) = given_solved ν b Y zero (rename_all (shift_by k) (move_all γ C.given)) equations i (rename (shift_by k) (move γ N)) A made (subst (λ j. TypeAt Y j A) (none i) g) in
      let left : fill ν b (open_term zero (eta_long (skeleton A) (variable i))) ≡ as_term (skeleton A) (ς i) = read [] (eta_long (skeleton A) (variable i)) (skeleton A) (eta_long_has_skeleton κ (context_skeletons Y) (skeleton A) (variable i) (variable_has_skeleton Y i A g)) ∙ value_at κ (context_skeletons F) (skeleton A) ς i (values_fit Σ ok W typed first free C tc p tp π ids φ₀ tried K finish s i (skeleton A) (variable_has_skeleton Y i A g)) in
      let same : R ≡ M = sym (ap (as_term (skeleton A)) v) ∙ sym left ∙ ap (λ j. fill ν b (open_term zero (eta_long (skeleton A) (variable j)))) (none i) ∙ one ∙ case_term [] N t m ∙ sym q in
      (skeleton A, (near i out).1 ∙ v ∙ ap (put (skeleton A)) same)
    where
      none : (i : ℕ) → i ≡ i + 0
      none i = omega arith

  -- the arguments
  abbrev E : List LfType
  E = binders [] T₁

  same_size : length E ≡ length C.local
  same_size = binders_count T₁ ∙ quantifiers_put _ p.type ∙ sym (binders_count p.type) ∙ sym size

  places : (Ms : List (Option Term)) (S : Spine) (L : Kind) (t : Skeleton) → HaveSkeletons κ (context_skeletons (onto C.local C.variables)) Ms → SpineSkeleton κ (context_skeletons (onto E Y)) S t (base 0) → length Ms ≡ kind_quantifiers L → argument_count S ≡ kind_quantifiers L → SolvesAll ν b (place_equations (open_locals E) (open_arguments (length E) (rename_all (lift_renaming_by (length C.local) (shift_by k)) (move_all γ Ms))) (open_spine (length E) S) L) → ArePlaces (put_in (lift_over C.local χ) (move_all γ Ms)) (substitute_spine reduce (lift_over E ς) S)
  places [] nil L t h m l c e = tt
  places [] (app R S) L t h m l c e = absurd (no_suc (l ∙ sym c))
  places (Some M ∷ Ms) nil L t h m l c e = absurd (no_suc (c ∙ sym l))
  places (None ∷ Ms) nil L t h m l c e = absurd (no_suc (c ∙ sym l))
  places (M ∷ Ms) (app R S) star t h m l c e = absurd (no_suc (sym l))
  places (M ∷ Ms) (app R S) (kind_pi A L) (base x) h m l c e = absurd m
  places (None ∷ Ms) (app R S) (kind_pi A L) (arrow x y) h (q, m) l c e = places Ms S (instantiate_kind A (open_term (length E) R) L) y h m (suc_same l ∙ sym (kind_put (single (skeleton A) (open_term (length E) R)) L)) (suc_same c ∙ sym (kind_put (single (skeleton A) (open_term (length E) R)) L)) e
  places (Some M ∷ Ms) (app R S) (kind_pi A L) (arrow x y) ((z, w), h) (q, m) l c (e, es) =
      let M₁ : Term = rename (lift_renaming_by (length C.local) (shift_by k)) (move γ M) in (
        sym (case_term C.local M z w)
            ∙ ap₂ (λ f j. fill ν f (open_term j M₁)) (sym (under_same b (open_locals E) C.local (open_length E ∙ same_size))) (sym same_size)
            ∙ e
            ∙ ap (λ f. fill ν f (open_term (length E) R)) (under_same b (open_locals E) E (open_length E))
            ∙ read E R x q,
        places Ms S (instantiate_kind A (open_term (length E) R) L) y h m (suc_same l ∙ sym (kind_put (single (skeleton A) (open_term (length E) R)) L)) (suc_same c ∙ sym (kind_put (single (skeleton A) (open_term (length E) R)) L)) es,
      )

  pattern_fits : SpineFitsKind Σ₁ (onto E Y) (target_arguments T₁) K
  pattern_fits = by (end_typed Σ₁ ok₁ T₁ Y (type_typed Σ ok W typed first free C tc p tp π ids φ₀ tried))
    where
      by : IsType Σ₁ (binders Y T₁) (atom (target T₁) (target_arguments T₁)) → SpineFitsKind Σ₁ (onto E Y) (target_arguments T₁) K
      by (L, e, h) = subst (SpineFitsKind Σ₁ (onto E Y) (target_arguments T₁)) (some_same (sym e ∙ ap Σ.kinds (target_of reduce _ p.type ∙ same_family) ∙ of_family)) (subst (λ G. SpineFitsKind Σ₁ G (target_arguments T₁) L) (binders_over [] T₁ Y) h)

  put_twice : substitute_type reduce ς T₁ ≡ substitute_type reduce clause_values p.type
  put_twice = substitutions_compose_type (family_skeletons Σ₁) κ (context_skeletons (scope p.clause)) (context_skeletons Y) (context_skeletons F) r ς p.type (typed_substitution_by_skeletons Σ₁ ok₁ (scope p.clause) Y r (placed_typed Σ ok W typed first free C tc p tp π ids φ₀ tried)) (values_fit Σ ok W typed first free C tc p tp π ids φ₀ tried K finish s) (type_by_skeletons Σ₁ (scope p.clause) p.type (more_type Σ ok W typed first free C tc (scope p.clause) p.type tp.type_typed))

  same : ArePlaces D.arguments (target_arguments (substitute_type reduce clause_values p.type))
  same =
      let bs = rename_blocks (shift_by k) (move_blocks γ C.blocks) in
      let equations = solves_rest ν b (given_equations Y zero (rename_all (shift_by k) (move_all γ C.given))) _ (solves_rest ν b (identity_equations π bs zero bs) _ (solves Σ ok W typed first free C tc p tp π ids φ₀ tried K finish s)) in
      let held : ArePlaces D.arguments (substitute_spine reduce (lift_over E ς) (target_arguments T₁)) = places C.arguments (target_arguments T₁) K (kind_skeleton 0 K) tc.arguments (kind_spine_has_skeleton Σ₁ 0 (onto E Y) (target_arguments T₁) K pattern_fits) all_places (fits_count Σ₁ (onto E Y) (target_arguments T₁) K pattern_fits) (subst (λ j. SolvesAll ν b (place_equations (open_locals E) (open_arguments (length E) (rename_all (lift_renaming_by j (shift_by k)) (move_all γ C.arguments))) (open_spine (length E) (target_arguments T₁)) K)) (length_moved γ C.local) equations) in
      subst (ArePlaces D.arguments) (sym (arguments_under [] T₁ ς) ∙ ap target_arguments put_twice) held

  own_is_term : (i : ℕ) → outside p.clause.type everything i ≡ false → IsTerm (clause_values i)
  own_is_term i e = let (A, N, g, v) = own_value i e in subst IsTerm (sym ((near i e).1 ∙ v)) tt

  -- The lemma
  pub read_has_pattern : StandsByNumber first D p.origin p.at_first clause_values → HasPattern Σ first (read_case Σ ok W typed first free C tc p tp π ids φ₀ tried K finish s size form) p
  read_has_pattern stands = record {
    used = everything;
    values = clause_values;
    typed = record { typed = λ i A g u. subst (λ Bs. ImageHasType (with_entries Σ first Bs) F (clause_values i) (substitute_type reduce clause_values A)) (sym (blocks_same Σ ok W typed first free C tc p tp π ids φ₀ tried K finish s size form)) (whole_typed i A g); closed = λ i A g u. uses_type_all everything A (λ j. refl) };
    on_own_terms = λ i u. values_own i;
    uses = uses_goal_all everything (λ j. refl) (covered_places D.arguments) p.type;
    terms = λ i e u. own_is_term i e;
    given = λ i M u e. given i M e;
    stands = stands;
    same = same;
  }
