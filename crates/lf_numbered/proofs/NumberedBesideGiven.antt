-- The goal of outputs by number is typed beside its subgoal.
use Rattle.std.proofs.Common.{◌≡◌, ℕ, zero, suc, ◌+◌, ◌<◌, ◌≤◌, List, [], ◌∷◌, length, refl, sym, ap, ◌∙◌, subst, arith}
use Rattle.std.specs.Prelude.{Bool, true, Some}
use Rattle.lf.specs.Syntax.{variable, LfType, atom, Kind, skeleton, rename_type}
use Rattle.lf.specs.Substitution.{Image, keep, substitute, reduce}
use Rattle.lf.specs.SkeletonTyping.{SkeletonAt, SubstitutionBySkeletons}
use Rattle.lf.specs.Skeletons.{constant_skeletons, context_skeletons}
use Rattle.lf.specs.Eta.{eta_long}
use Rattle.lf.specs.Typing.{Signature, TypeAt, IsSignature, IsTypedSubstitution, IsType, SpineFitsKind}
use Rattle.lf.specs.Variables.{target, target_arguments, binders, everything, nothing, onto, UsesType, Within}
use Rattle.lf.specs.Subordination.{Block, AreTypedBlocks}
use Rattle.lf.specs.Extension.{Extends}
use Rattle.lf.proofs.ExtensionTyping.{extension_keeps_contexts}
use Rattle.lf.proofs.Substitution.{typed_substitution_by_skeletons}
use Rattle.lf.proofs.ToSkeletons.{variable_has_skeleton}
use Rattle.lf.proofs.TypeLaws.{skeleton_renamed}
use Rattle.lf_checks.specs.Clause.{Clause, scope, IsClause, from_constant, from_entry, entry_clause, IsSubgoal, outside}
use Rattle.lf_checks.specs.Ground.{UsesGoal, ground_first}
use Rattle.lf_checks.specs.GroundUntil.{ground_until}
use Rattle.lf_checks.specs.Marks.{Mark, AreSound, HasSoundMarks, NoneFree, input_places, output_places}
use Rattle.lf_cases.specs.Case.{Item, Case, items_context, as_term, chosen_count}
use Rattle.lf_cases.specs.Cover.{before}
use Rattle.lf_cases.specs.Missing.{put_in}
use Rattle.lf_cases.specs.OutputGoal.{closed_over, goal_number, kept_terms, output_goal}
use Rattle.lf_cases.specs.Pattern.{Origin, of_entry, Pattern, origin, subgoal_pattern}
use Rattle.lf_cases.specs.Split.{HasOneBlockVariable}
use Rattle.lf_checks.proofs.Marks.{sound_inputs}
use Rattle.lf_cases.proofs.Assemble.{binders_typed, end_typed}
use Rattle.lf_cases.proofs.GroundTypes.{clause_typed, first_closed}
use Rattle.lf_cases.proofs.LongValues.{value_of_long}
use Rattle.lf_totality.proofs.Core.{out_index, outer_at, outside_at}
use Rattle.lf_totality.proofs.RaisedOutputs.{binders_over}
use Rattle.lf_coverage.specs.Heads.{IsTypedCase}
use Rattle.lf_coverage.specs.TypedCase.{IsTypedBeside}
use Rattle.lf_coverage.specs.TypedLocal.{HasTypedLocal}
use Rattle.lf_coverage.proofs.Leaves.{subgoal_is_typed}
use Rattle.lf_coverage.proofs.OutputModed.{closed_until, subgoal_passes}
use Rattle.lf_coverage.proofs.OutputTyped.{output_goal_is_typed_case, sound_for}
use Rattle.lf_coverage.proofs.Parts.{some_same}
use Rattle.lf_coverage.proofs.SolvedCase.{free_context_is, free_typed}
use Rattle.lf_coverage.proofs.Standing.{Outer, entry_index, entry_outer_of, before_is}
use Rattle.lf_coverage.proofs.StayTyped.{stays_typed}
use Rattle.lf_coverage.proofs.TypedCases.{meet_store_is_ready}
use Rattle.lf_numbered.specs.EntryConstants.{IsFreeFrom, with_entries}
use Rattle.lf_numbered.specs.EntryPatterns.{variable_images}
use Rattle.lf_numbered.specs.NumberedBesideGiven.{outside_terms, with_outside, GivesOutside, IsTypedBesideByNumber, NumberedMeetStoreIsReady, NumberedOutputGoalIsBeside, NumberedStrictGoalsAreBeside}
use Rattle.lf_numbered.specs.NumberedCase.{NumberedCase}
use Rattle.lf_numbered.specs.Numbering.{numbering, numbered}
use Rattle.lf_numbered.specs.OwnTerms.{blocks_of}
use Rattle.lf_numbered.specs.TypedNumbered.{IsTypedNumberedCase}
use Rattle.lf_numbered.proofs.EntryPatternsAmong.{StandsAs, stands_as}
use Rattle.lf_numbered.proofs.EntryPatternsNear.{out_far}
use Rattle.lf_numbered.proofs.EntryPatternsForms.{one_numbered}
use Rattle.lf_numbered.proofs.EntryPatternsMatching.{entries_signature}
use Rattle.lf_numbered.proofs.EntryPatternsNumbers.{inside_list}
use Rattle.lf_numbered.proofs.EntryPatternsTyped.{variable_is_typed}
use Rattle.lf_numbered.proofs.EntrySignature.{entries_kept}
use Rattle.lf_numbered.proofs.NumberedBesideAmong.{HasPlaces, far, fitting_has_places, goal_moved}
use Rattle.lf_numbered.proofs.NumberedBesideTerms.{beside_more, pattern_more, over_put, outside_put}
use Rattle.lf_numbered.proofs.NumberedBesideItems.{all_given, items_beside, renames}
use Rattle.lf_numbered.proofs.NumberedTyped.{typed_numbering}
use Rattle.lf_numbered.proofs.NumberedTypedFree.{IsTypedNumbering}
use Rattle.lf_numbered.proofs.TypedNumbered.{numbered_case_is_typed, extends}

far_is : (D : List LfType) (k : ℕ) → far D k ≡ k + length D
far_is [] k = none k
  where
    none : (k : ℕ) → k ≡ k + 0
    none k = omega arith
far_is (A ∷ D) k = ap suc (far_is D k) ∙ next k (length D)
  where
    next : (a b : ℕ) → suc (a + b) ≡ a + suc b
    next a b = omega arith

index_is : (later : List LfType) (k : ℕ) → entry_index later k ≡ k + suc (length later)
index_is [] k = none k
  where
    none : (k : ℕ) → suc k ≡ k + 1
    none k = omega arith
index_is (D ∷ ds) k = ap suc (index_is ds k) ∙ next k (length ds)
  where
    next : (a b : ℕ) → suc (a + suc b) ≡ a + suc (suc b)
    next a b = omega arith

far_out : (T : LfType) (k : ℕ) → far (binders [] T) k ≡ out_index T k
far_out T k = far_is (binders [] T) k ∙ sym (out_far T k)

-- What stands outside the clause, and where it is among the items of the goal.
record Stands (first : ℕ) (J : List Item) (C : NumberedCase) {c : Clause} (o : Origin c) (r : ℕ → ℕ) : Type 0 where
  outer : ℕ → Image
  stands : GivesOutside first C o true outer
  same : (k : ℕ) (Z : LfType) → TypeAt c.outer k Z → as_term (skeleton Z) ((numbering first J).images (r (far (binders [] c.type) k))) ≡ as_term (skeleton Z) (outer k)

stands_outside : (Σ : Signature) (ok : IsSignature Σ) (W : List Block) (typed : AreTypedBlocks Σ W) (first : ℕ) (free : IsFreeFrom Σ first) (below : ℕ → ℕ → Bool) (m : ℕ → List Mark) (U : ℕ → Bool) (A : LfType) (K : Kind) → HasPlaces (output_places (m (target A))) (target_arguments A) K → (c : Clause) (d : IsClause Σ W c) → IsTypedNumberedCase Σ first W (numbered first (output_goal below m (origin d) U A K)) → HasOneBlockVariable (output_goal below m (origin d) U A K).items → Stands first (output_goal below m (origin d) U A K).items (numbered first (output_goal below m (origin d) U A K)) (origin d) (λ j. goal_number (origin d) (closed_over (binders [] c.type) U) j + chosen_count (output_places (m (target A))) K)
stands_outside Σ ok W typed first free below m U A K h c (from_constant k T e) t n = record { outer = keep; stands = tt; same = λ l Z g. absurd g }
stands_outside Σ ok W typed first free below m U A K h c (from_entry B later E es i e) t n =
    let J : List Item = (output_goal below m (of_entry B later E es e) U A K).items in
    let C : NumberedCase = numbered first (output_goal below m (of_entry B later E es e) U A K) in
    let (l, g, b) = goal_moved B below m later E es e U A K h in
    let s : StandsAs first J B (λ j. keep (j + l)) = stands_as first J B (λ j. keep (j + l)) b in
    let (ty, own) = variable_is_typed Σ ok W typed first free C t.variables s.number B s.terms s.at in
    let φ : ℕ → Image = variable_images first C.blocks s.number B s.terms in
    let o : Outer (with_entries Σ first (blocks_of C.blocks)) C.variables (entry_clause B es E) (numbering first J).images (λ j. keep (r j)) (before later φ) =
    entry_outer_of (with_entries Σ first (blocks_of C.blocks)) C.variables B later E es e (numbering first J).images (λ j. keep (r j)) (λ j. keep (j + l)) φ ty (λ k Z y. sym (s.same k Z y)) (λ k Z y. outer_at E (λ j. keep (r j)) k ∙ ap keep (ap r (sym (far_out E k)) ∙ g k ∙ ap (λ j. j + l) (sym (index_is later k))) ∙ sym (before_is later (λ j. keep (j + l)) k)) in
    let small : s.number < length C.blocks = inside_list C.blocks s.number (record { block = B; terms = s.terms }) s.at in
    let few : length C.blocks ≤ 1 = one_numbered first J n in
    record {
      outer = before later φ;
      stands = (s.number, s.terms, s.at, (λ q. zeroth s.number (length C.blocks) small few), refl);
      same = λ k Z y. ap (λ j. as_term (skeleton Z) ((numbering first J).images (r j))) (far_out E k) ∙ o.same k Z y;
    }
  where
    r : ℕ → ℕ
    r j = goal_number (of_entry B later E es e) (closed_over (binders [] E) U) j + chosen_count (output_places (m (target A))) K

    zeroth : (a b : ℕ) → a < b → b ≤ 1 → a ≡ zero
    zeroth a b l f = omega (arith, l, f)

module _ (Σ : Signature) (ok : IsSignature Σ) (W : List Block) (typed : AreTypedBlocks Σ W) (first : ℕ) (free : IsFreeFrom Σ first) (below : ℕ → ℕ → Bool) (m : ℕ → List Mark) (c : Clause) (d : IsClause Σ W c) (U : ℕ → Bool) (all_out : Within (outside c.type everything) U) (closed : (j : ℕ) (X : LfType) → TypeAt (scope c) j X → U j ≡ true → UsesType U X) (i : ℕ) (A : LfType) (sub : IsSubgoal c i A) (needs : UsesGoal U (input_places (m (target A))) A) (none : NoneFree (m (target A))) (K : Kind) (sound : HasSoundMarks Σ (target A) (m (target A))) (e : Σ.kinds (target A) ≡ Some K) where
  abbrev G : Case
  G = output_goal below m (origin d) U A K

  abbrev C : NumberedCase
  C = numbered first (output_goal below m (origin d) U A K)

  abbrev p : Pattern
  p = subgoal_pattern c (origin d) A

  abbrev X : List LfType
  X = (numbering first (output_goal below m (origin d) U A K).items).variables

  abbrev ι : ℕ → Image
  ι = (numbering first (output_goal below m (origin d) U A K).items).images

  abbrev Σ₁ : Signature
  Σ₁ = with_entries Σ first (blocks_of (numbering first (output_goal below m (origin d) U A K).items).blocks)

  abbrev Y : List LfType
  Y = items_context (output_goal below m (origin d) U A K).items

  abbrev r : ℕ → ℕ
  r j = goal_number (origin d) (closed_over (binders [] c.type) U) j + chosen_count (output_places (m (target A))) K

  goal_case : IsTypedCase Σ W G × HasTypedLocal Σ G × HasOneBlockVariable G.items
  goal_case = output_goal_is_typed_case Σ ok W typed below m c d U i A sub needs sound none K e

  number_typed : IsTypedNumberedCase Σ first W C
  number_typed = numbered_case_is_typed Σ ok W typed first free G goal_case.0 goal_case.1

  x : Extends nothing Σ Σ₁
  x = extends Σ ok W typed first free G goal_case.0 goal_case.1

  ok₁ : IsSignature Σ₁
  ok₁ = entries_signature Σ ok W typed first free C number_typed

  tn : IsTypedNumbering Σ ok W typed first free G.items
  tn = typed_numbering Σ ok W typed first free G.items goal_case.0.items

  fits : SubstitutionBySkeletons (constant_skeletons Σ₁) (context_skeletons Y) (context_skeletons X) ι
  fits = typed_substitution_by_skeletons Σ₁ ok₁ Y X ι tn.images

  abbrev known_sound : AreSound nothing (m (target A)) K
  known_sound = sound_for Σ (target A) (m (target A)) K e sound

  fitting : SpineFitsKind Σ (binders (scope c) A) (target_arguments A) K
  fitting = by (end_typed Σ ok A (scope c) (subgoal_is_typed Σ ok W typed c d i A sub).type_typed)
    where
      by : IsType Σ (binders (scope c) A) (atom (target A) (target_arguments A)) → SpineFitsKind Σ (binders (scope c) A) (target_arguments A) K
      by (Z, q, s) = subst (SpineFitsKind Σ (binders (scope c) A) (target_arguments A)) (some_same (sym q ∙ e)) s

  out : Stands first G.items C (origin d) r
  out = stands_outside Σ ok W typed first free below m U A K (fitting_has_places Σ (binders (scope c) A) (output_places (m (target A))) (target_arguments A) K fitting) c d number_typed goal_case.2

  outer_ground : (k : ℕ) → U (far (binders [] c.type) k) ≡ true
  outer_ground k = ap U (far_out c.type k) ∙ all_out (out_index c.type k) (outside_at c.type everything k)

  -- what stands outside is given by the block variable
  outer_terms : put_in ι (kept_terms (λ k. U (far (binders [] c.type) k)) c.outer (λ k. r (far (binders [] c.type) k))) ≡ outside_terms c.outer out.outer
  outer_terms = outside_put ι c.outer (λ k. U (far (binders [] c.type) k)) (λ k. r (far (binders [] c.type) k)) out.outer outer_ground each
    where
      each : (k : ℕ) (Z : LfType) → TypeAt c.outer k Z → substitute reduce ι (eta_long (skeleton Z) (variable (r (far (binders [] c.type) k)))) ≡ as_term (skeleton Z) (out.outer k)
      each k Z y =
          let j : ℕ = far (binders [] c.type) k in
          let (V, h, q) = behind (binders [] c.type) c.outer k Z y in
          let h' : TypeAt (scope c) j V = subst (λ L. TypeAt L j V) (sym (binders_over [] c.type c.outer)) h in
          let k1 : SkeletonAt (context_skeletons Y) (r j) (skeleton Z) = subst (SkeletonAt (context_skeletons Y) (r j)) (skeleton_renamed r V ∙ q) (variable_has_skeleton Y (r j) (rename_type r V) (renames Σ ok W typed below m d U closed i A sub needs none K known_sound e j V h' (outer_ground k))) in
          value_of_long (constant_skeletons Σ₁) (context_skeletons X) (skeleton Z) ι (r j) (ι (r j)) refl (fits (r j) (skeleton Z) k1) ∙ out.same k Z y
        where
          behind : (D O : List LfType) (k : ℕ) (Z : LfType) → TypeAt O k Z → (V : LfType) × TypeAt (onto D O) (far D k) V × (skeleton V ≡ skeleton Z)
          behind [] O k Z y = (Z, y, refl)
          behind (B ∷ D) O k Z y = let (V, h, q) = behind D O k Z y in (rename_type suc V, (V, h, refl), skeleton_renamed suc V ∙ q)

  given_is : (with_outside C p out.outer).given ≡ put_in ι (kept_terms U (scope c) r)
  given_is = over_put ι (binders [] c.type) c.outer U r (outside_terms c.outer out.outer) outer_terms ∙ ap (λ L. put_in ι (kept_terms U L r)) (sym (binders_over [] c.type c.outer))

  typed_blocks : AreTypedBlocks Σ₁ W
  typed_blocks B k = extension_keeps_contexts nothing Σ Σ₁ x (onto B.entries B.some) (typed B k)

  abbrev all : Case
  all = all_given Σ ok W typed below m d U closed i A sub needs none K known_sound e

  moved : IsTypedBeside Σ₁ W (with_outside C p out.outer) p
  moved = stays_typed Σ₁ ok₁ W typed_blocks all (with_outside C p out.outer) p
      (pattern_more nothing Σ Σ₁ x W p (subgoal_is_typed Σ ok W typed c d i A sub))
      (beside_more nothing Σ Σ₁ x W all p (λ a L q. q) (items_beside Σ ok W typed below m d U closed i A sub needs none K known_sound e))
      (free_typed Σ₁ W X tn.context) ι
      (subst (λ L. IsTypedSubstitution Σ₁ Y L ι) (sym (free_context_is X)) tn.images)
      refl given_is refl refl

  pub goal_beside : IsTypedBesideByNumber Σ first W (numbered first (output_goal below m (origin d) U A K)) (subgoal_pattern c (origin d) A)
  goal_beside = record {
    typed = number_typed;
    outer = out.outer;
    stands = out.stands;
    beside = record {
      by_skeletons = record { items = free_typed Σ₁ [] X tn.context; given = moved.by_skeletons.given; arguments = moved.by_skeletons.arguments };
      local_typed = moved.local_typed;
      same_family = moved.same_family;
      kind = moved.kind;
      of_family = moved.of_family;
      given = moved.given;
      local = moved.local;
      arguments = moved.arguments;
    };
  }

pub numbered_output_goal_is_beside : NumberedOutputGoalIsBeside
numbered_output_goal_is_beside Σ ok W typed first free below m c d U all_out closed i A sub needs sound none K e = goal_beside Σ ok W typed first free below m c d U all_out closed i A sub needs none K sound e

pub numbered_meet_store_is_ready : NumberedMeetStoreIsReady
numbered_meet_store_is_ready Σ ok W typed first free C p tp b K e =
    let Σ₁ : Signature = with_entries Σ first (blocks_of C.blocks) in
    let ok₁ : IsSignature Σ₁ = entries_signature Σ ok W typed first free C b.typed in
    meet_store_is_ready Σ₁ ok₁ [] (λ B m. absurd m) (with_outside C p b.outer) p (pattern_more nothing Σ Σ₁ more [] p tp) b.beside K e
  where
    more : Extends nothing Σ (with_entries Σ first (blocks_of C.blocks))
    more = record { ok = entries_signature Σ ok W typed first free C b.typed; types_stay = entries_kept Σ first (blocks_of C.blocks); kinds_stay = λ a K e. e; no_new = λ c A e s. absurd cc }

pub numbered_strict_goals_are_beside : NumberedStrictGoalsAreBeside
numbered_strict_goals_are_beside Σ ok W typed first free below m moded c d w none_first inputs i A s strict none K e =
    let (marks, needs) = subgoal_passes Σ m moded c w i A s in
    let ty = clause_typed Σ ok W typed c d in
    let (X, x, sound) = (w 1).0 in
    let start : (l : ℕ) (Z : LfType) → TypeAt (scope c) l Z → ground_first m c l ≡ true → UsesType (ground_first m c) Z = first_closed Σ ok m c X ty.0 ty.1 x (sound_inputs nothing (m (target c.type)) X sound none_first) inputs in
    let (all_out, closed) = closed_until Σ ok m c (binders_typed Σ ok c.type c.outer ty.0 ty.1) start i strict in
    numbered_output_goal_is_beside Σ ok W typed first free below m c d (ground_until everything m c i) all_out closed i A s needs marks none K e
