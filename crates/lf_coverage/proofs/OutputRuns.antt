-- A run from the goal of outputs covers it.
use Rattle.std.proofs.Common.{◌≡◌, ℕ, zero, suc, List, [], ◌∷◌, inl, inr, refl, sym, ap, ◌∙◌, subst}
use Rattle.std.specs.Prelude.{Bool, true, false, cond}
use Rattle.lf.specs.Syntax.{Spine, nil, app, LfType, Kind, kind_pi, star, rename_kind, rename_spine, rename_type, lift_renaming}
use Rattle.lf.specs.Typing.{Signature, instantiate_kind}
use Rattle.lf.specs.Variables.{target, binders, onto, FamiliesIn, KindFamiliesIn}
use Rattle.lf.specs.Subordination.{Block, Member, SelfContained}
use Rattle.lf.proofs.Strength.{families_renamed, family_target}
use Rattle.lf_unification.specs.Solving.{Never}
use Rattle.lf_checks.specs.Clause.{Clause, IsClause, from_constant, from_entry, scope, constant_clause}
use Rattle.lf_checks.specs.Marks.{output_places}
use Rattle.lf_cases.specs.Case.{Item, free_variable, Case, items_context}
use Rattle.lf_cases.specs.OutputGoal.{outside_items, outside_number, closed_over, kept_number, kept_items, renumber, over_item, goal_number, goal_masks, raised_variable, output_goal, output_items}
use Rattle.lf_cases.specs.Pattern.{Pattern, of_constant, origin, subgoal_pattern}
use Rattle.lf_cases.specs.Raised.{raise_by, first_mask, other_masks}
use Rattle.lf_totality.proofs.EntryGoals.{goals_cover}
use Rattle.lf_totality.proofs.OutputGoals.{constant_goal_covers}
use Rattle.lf_totality.proofs.RaisedOutputs.{binders_over}
use Rattle.lf_coverage.specs.Heads.{IsHeadSplit, IsTypedCase}
use Rattle.lf_coverage.specs.Leaf.{IsTypedPattern}
use Rattle.lf_coverage.specs.MeetStore.{IsConstants, meet_store}
use Rattle.lf_coverage.specs.OutputLaws.{NeverIsMissingOutput, OpenOutputsAreCovered, SolvedRunCoversOutputs, SolvedRunAnswersOutputs, SolvedRunGivesOutputs, SolvedRunsGiveOutputs}
use Rattle.lf_coverage.specs.SplitStore.{AllFamiliesIn}
use Rattle.lf_coverage.specs.TypedCase.{IsTypedBeside}
use Rattle.lf_coverage.specs.UnifiedSplit.{SolvesEachHead, SplitsByUnification}
use Rattle.lf_coverage.proofs.CasesOf.{solved_run_covers, solved_split_is_unified}
use Rattle.lf_coverage.proofs.Families.{all_onto, all_binders, all_renumbered, raised_families}
use Rattle.lf_coverage.proofs.HeadSplit.{split_cases_typed}
use Rattle.lf_coverage.proofs.KeptTyped.{outside_context}
use Rattle.lf_coverage.proofs.InstancesCompose.{reached_is_instance}
use Rattle.lf_coverage.proofs.Leaves.{leaves_cover, subgoal_is_typed}
use Rattle.lf_coverage.proofs.OutputBeside.{output_goal_is_typed}
use Rattle.lf_coverage.proofs.OutputTyped.{output_goal_is_typed_case}
use Rattle.lf_coverage.proofs.Runs.{other_run}
use Rattle.lf_coverage.proofs.RunTyped.{never_is_missing, no_blocks, reached_has_no_block}
use Rattle.lf_coverage.proofs.StoreSolution.{families_at}
use Rattle.lf_coverage.proofs.Strip.{kind_substituted}
use Rattle.lf_coverage.proofs.Unified.{unified_split}

pub open_outputs_are_covered : OpenOutputsAreCovered
open_outputs_are_covered Σ m W S c U A n Σ' x G w h θ off σ v = absurd (n v.closed)

pub kind_renamed : (S : ℕ → Bool) (ρ : ℕ → ℕ) (K : Kind) → KindFamiliesIn S K → KindFamiliesIn S (rename_kind ρ K)
kind_renamed S ρ (kind_pi A K) (a, k) = (families_renamed S ρ A a, kind_renamed S (lift_renaming ρ) K k)
kind_renamed S ρ star k = tt

-- the families of the items
module _ (S : ℕ → Bool) where
  kept_families : (V : ℕ → Bool) (D : List LfType) (ρ : ℕ → ℕ) (I : List Item) → AllFamiliesIn S D → AllFamiliesIn S (items_context I) → AllFamiliesIn S (items_context (kept_items V D ρ I))
  kept_families V [] ρ I d i = i
  kept_families V (A ∷ D) ρ I (a, d) i = by (V zero) (kept_families (λ j. V (suc j)) D ρ I d i)
    where
      by : (b : Bool) → AllFamiliesIn S (items_context (kept_items (λ j. V (suc j)) D ρ I)) → AllFamiliesIn S (items_context (cond b (free_variable (rename_type (kept_number (λ j. V (suc j)) D ρ) A) ∷ kept_items (λ j. V (suc j)) D ρ I) (kept_items (λ j. V (suc j)) D ρ I)))
      by true h = (families_renamed S (kept_number (λ j. V (suc j)) D ρ) A a, h)
      by false h = h

  output_families : (ks : List (List Bool)) (D : List LfType) (b : List Bool) (T : Spine) (K : Kind) (I : List Item) → AllFamiliesIn S D → KindFamiliesIn S K → AllFamiliesIn S (items_context I) → AllFamiliesIn S (items_context (output_items ks D b T K I))
  output_families ks D [] T K I d k i = i
  output_families ks D (b ∷ m) nil K I d k i = i
  output_families ks D (b ∷ m) (app M T) star I d k i = i
  output_families ks D (false ∷ m) (app M T) (kind_pi A K) I d (a, k) i = output_families ks D m T (instantiate_kind A M K) I d (kind_substituted S A M K k) i
  output_families ks D (true ∷ m) (app M T) (kind_pi A K) I d (a, k) i =
      let K1 : Kind = rename_kind (lift_renaming (over_item D)) K in
      output_families (other_masks ks) (renumber suc D) m (rename_spine (over_item D) T) (instantiate_kind A (raised_variable (first_mask ks) D A zero) K1) (free_variable (raise_by (first_mask ks) D A) ∷ I) (all_renumbered S suc D d) (kind_substituted S A (raised_variable (first_mask ks) D A zero) K1 (kind_renamed S (lift_renaming (over_item D)) K k)) (raised_families S (first_mask ks) D A d a, i)

module _ (Σ : Signature) (W : List Block) where
  -- the families in the type of a clause of a family in S, and in the types of what stands outside it
  pub clause_families : (S : ℕ → Bool) → SelfContained Σ W S → {c : Clause} (d : IsClause Σ W c) → S (target c.type) ≡ true → FamiliesIn S c.type
  clause_families S sc (from_constant k U e) t = sc.types_in k U e t
  clause_families S sc (from_entry B later E es m e) t = sc.entries_in B E m (subst (Member E) e (among later)) t
    where
      among : (later : List LfType) → Member E (onto later (E ∷ es))
      among [] = inl refl
      among (X ∷ later) = inr (among later)

  outer_families : (S : ℕ → Bool) {c : Clause} (d : IsClause Σ W c) → AllFamiliesIn S (items_context (outside_items (origin d))) → AllFamiliesIn S c.outer
  outer_families S (from_constant k U e) h = tt
  outer_families S (from_entry B later E es m e) h = (rest later (E ∷ onto es B.some) (subst (AllFamiliesIn S) (outside_context B later E es e) h)).1
    where
      rest : (D G : List LfType) → AllFamiliesIn S (onto D G) → AllFamiliesIn S G
      rest [] G k = k
      rest (X ∷ D) G (x, k) = rest D G k

pub solved_run_covers_outputs : SolvedRunCoversOutputs
solved_run_covers_outputs Σ ok W typed below s m c d U i A sub needs sound none K e ps r S sc t outside =
    let C : Case = output_goal below m (origin d) U A K in
    let (tc, tl, one) = output_goal_is_typed_case Σ ok W typed below m c d U i A sub needs sound none K e in
    let V : ℕ → Bool = closed_over (binders [] c.type) U in
    let D : List LfType = binders [] c.type in
    let fd : AllFamiliesIn S D = all_binders S [] c.type tt (clause_families Σ W S sc d t) in
    let fs : AllFamiliesIn S (scope c) = subst (AllFamiliesIn S) (sym (binders_over [] c.type c.outer)) (all_onto S D c.outer fd (outer_families Σ W S d outside)) in
    let fa : FamiliesIn S A = families_at S (scope c) fs i A sub.1 in
    let I : List Item = kept_items V D (outside_number (origin d)) (outside_items (origin d)) in
    let fi : AllFamiliesIn S (items_context I) = kept_families S V D (outside_number (origin d)) (outside_items (origin d)) fd outside in
    let ρ : ℕ → ℕ = goal_number (origin d) V in
    let L : List LfType = renumber ρ (binders [] A) in
    let fl : AllFamiliesIn S L = all_renumbered S ρ (binders [] A) (all_binders S [] A tt fa) in
    let H : Spine = rename_spine (Rattle.lf.specs.AtOnce.lift_renaming_by (Rattle.std.specs.Prelude.length (binders [] A)) ρ) (Rattle.lf.specs.Variables.target_arguments A) in
    let fk : KindFamiliesIn S K = sc.kinds_in (target A) K e (family_target S A fa) in
    let all : AllFamiliesIn S (items_context C.items) = output_families S (goal_masks below m (origin d) V A K) L (output_places (m (target A))) H K I fl fk fi in
    leaves_cover Σ ok W typed below s S sc ps C one tc (other_run {Kept = λ X. IsTypedCase Σ W X × AllFamiliesIn S (items_context X.items)} (λ X k l. l) split (tc, all) r)
  where
    split : (X : Case) (Xs : List Case) → IsTypedCase Σ W X × AllFamiliesIn S (items_context X.items) → SolvesEachHead Σ W below X Xs → SplitsByUnification Σ W S below X Xs × ((E : Case) → Member E Xs → IsTypedCase Σ W E × AllFamiliesIn S (items_context E.items))
    split X Xs (k, f) (x, q) =
        let (u, fs) = solved_split_is_unified Σ ok W typed below S sc X k f x Xs q in
        let sp : IsHeadSplit Σ W S below X x Xs = unified_split Σ ok W typed below S sc X k x Xs u in
        ((x, u), λ E n. (split_cases_typed Σ ok W S below X k x Xs sp E n, fs E n))

pub solved_run_answers_outputs : SolvedRunAnswersOutputs
solved_run_answers_outputs Σ ok W typed below s m c d U i A sub needs sound none K e ps fam r =
    let (tc, tl, one) = output_goal_is_typed_case Σ ok W typed below m c d U i A sub needs sound none K e in
    solved_run_covers Σ ok W typed below s ps (output_goal below m (origin d) U A K) one tc fam r

pub solved_run_gives_outputs : SolvedRunGivesOutputs
solved_run_gives_outputs Σ ok W typed below s m f df k T there t U all_out i A sub seq needs sound none K e low r =
    constant_goal_covers Σ ok W typed below s m f k T there U all_out i A sub seq none needs K e low
    (solved_run_covers_outputs Σ ok W typed below s m (constant_clause T) (from_constant k T there) U i A sub needs sound none K e (subgoal_pattern (constant_clause T) (of_constant T) A ∷ []) r (below f) (s.self_contained f df) t tt)

pub solved_runs_give_outputs : SolvedRunsGiveOutputs
solved_runs_give_outputs Σ ok W typed below s m f df c d t U all_out i A sub seq needs sound none K e low runs =
    goals_cover Σ ok W typed below s m f c d t U all_out i A sub seq none needs K e low (λ b. let (fam, r) = runs b in solved_run_covers_outputs Σ ok W typed below s m c b U i A sub needs sound none K e (subgoal_pattern c (origin b) A ∷ []) r (below f) (s.self_contained f df) t fam)

one_of : (P : Pattern → Type 0) (p q : Pattern) → P p → Member q (p ∷ []) → P q
one_of P p q x (inl e) = subst P (sym e) x
one_of P p q x (inr h) = absurd h

pub never_is_missing_output : NeverIsMissingOutput
never_is_missing_output Σ ok below m k T there U closed i A sub needs sound none K e D r never =
    let p : Pattern = subgoal_pattern (constant_clause T) (of_constant T) A in
    let C : Case = output_goal below m (of_constant T) U A K in
    let (tb, n) = output_goal_is_typed Σ ok [] (no_blocks Σ) below m k T there U closed i A sub needs sound none K e in
    let tp : IsTypedPattern Σ p = subgoal_is_typed Σ ok [] (no_blocks Σ) (constant_clause T) (from_constant k T there) i A sub in
    let same : D.family ≡ target A = (reached_is_instance Σ ok [] (no_blocks Σ) below (p ∷ []) C tb.by_skeletons tb.local_typed D r (reached_has_no_block Σ below (p ∷ []) C tb.by_skeletons.items D r)).same_family in
    never_is_missing Σ ok below (p ∷ []) C tb.by_skeletons tb.local_typed (λ q h. one_of (λ x. IsTypedPattern Σ x × IsConstants x.origin × IsTypedBeside Σ [] C x) p q (tp, tt, tb) h) D r K (ap Σ.kinds same ∙ e) (λ q h. one_of (λ x. Never Σ [] (meet_store D x K)) p q never h)
