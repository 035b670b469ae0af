-- The goal q N D is typed beside its subgoal, and its run by a split covers the outputs of the entry.
use Rattle.std.proofs.Common.{◌≡◌, ℕ, zero, suc, length, List, [], ◌∷◌, inl, inr, refl, sym, ap, ◌∙◌, subst, arith}
use Rattle.std.specs.Prelude.{Bool, true, false, Some}
use Rattle.lf.specs.Syntax.{Spine, nil, app, LfType, atom, kind_pi, star, weaken}
use Rattle.lf.specs.Typing.{TypeAt, SpineType}
use Rattle.lf.specs.Variables.{target_arguments, binders, everything, onto, UsesType, Within}
use Rattle.lf.specs.Subordination.{Block, Member, SelfContained}
use Rattle.lf_checks.specs.Below.{IsSubordination}
use Rattle.lf_checks.specs.Clause.{Clause, IsClause, from_constant, from_entry, entry_clause, outside, scope}
use Rattle.lf_checks.specs.Worlded.{no_instance}
use Rattle.lf_cases.specs.Candidates.{with_given}
use Rattle.lf_cases.specs.Case.{Case, items_context}
use Rattle.lf_cases.specs.Cover.{before}
use Rattle.lf_cases.specs.OutputGoal.{output_goal}
use Rattle.lf_cases.specs.Pattern.{Pattern, is_given, of_constant, of_entry, origin, subgoal_pattern}
use Rattle.lf_cases.specs.Raised.{PlacesBelow}
use Rattle.lf_cases.proofs.BlockEntries.{member_onto}
use Rattle.lf_totality.specs.Examples.{applied_to, exp, first_below_second, var}
use Rattle.lf_totality.specs.ExamplesGroups.{on_one}
use Rattle.lf_totality.specs.ExamplesReached.{open_case, open_clause}
use Rattle.lf_numbered.specs.EntryPatterns.{IsInstanceOfPattern, variable_images}
use Rattle.lf_numbered.specs.EntryPatternsExamples.{Laters, later_marks, later_worlds, asking_block, answering_block, asking_clause, asking_entry, asking_origin, asked, asked_goal, answered_case, ground_before}
use Rattle.lf_numbered.specs.EntryPatternsOutputs.{numbered_output_goal}
use Rattle.lf_numbered.specs.EntryPatternsRuns.{IsNumberedLeaf, IsNumberedSplit}
use Rattle.lf_cases.specs.Split.{Ends, at_leaf, by_split, no_case, next_case}
use Rattle.lf_coverage.specs.Leaf.{IsTypedPattern}
use Rattle.lf_numbered.specs.NumberedBesideGiven.{IsTypedBesideByNumber, with_outside}
use Rattle.lf_numbered.specs.NumberedBesideLater.{asked_type, asked_kind, second_goal, AskedIsBeside, AnsweredIsBeside, OpenIsNotBeside, LaterRunGivesOutputs, LaterAnswersGiveOutputs}
use Rattle.lf_numbered.specs.NumberedCase.{NumberedCase}
use Rattle.lf_numbered.specs.NumberedInstance.{block_at}
use Rattle.lf_numbered.specs.Numbering.{numbered}
use Rattle.lf_numbered.specs.NumberedSplitsRuns.{AnswersByNumber}
use Rattle.lf_numbered.specs.OwnTerms.{BlockVariable}
use Rattle.lf_coverage.specs.TypedCase.{IsTypedBeside, TypedArguments}
use Rattle.lf_numbered.proofs.EntryPatternsExamples.{later_is_leaf}
use Rattle.lf_numbered.proofs.EntryPatternsGoals.{ok, blocks, free}
use Rattle.lf_numbered.proofs.EntryPatternsOutputs.{numbered_runs_give_outputs}
use Rattle.lf_numbered.proofs.NumberedBesideGiven.{numbered_output_goal_is_beside}
use Rattle.lf_coverage.proofs.Leaves.{subgoal_is_typed}
use Rattle.lf_numbered.proofs.NumberedBesideLater.{asked_comes, asked_family}
use Rattle.lf_numbered.proofs.NumberedBesideOffers.{asked_typed}
use Rattle.lf_numbered.proofs.NumberedBesideStays.{numbered_run_stays_beside}
use Rattle.lf_numbered.proofs.NumberedCandidatesTypes.{families_take}
use Rattle.lf_numbered.proofs.NumberedSplits.{answered_by_number_is_split}
use Rattle.lf_numbered.proofs.NumberedSplitsRuns.{answered_by_number_gives_outputs}
use Rattle.lf_coverage.proofs.Parts.{none_some, some_same}

-- The goal is typed beside its subgoal, and so is the case of its split.
pub all_outside : Within (outside asking_clause.type everything) ground_before
all_outside zero e = absurd cc
all_outside (suc zero) e = absurd cc
all_outside (suc (suc i)) e = refl

pub ground_closed : (i : ℕ) (A : LfType) → TypeAt (scope asking_clause) i A → ground_before i ≡ true → UsesType ground_before A
ground_closed zero A g u = absurd cc
ground_closed (suc zero) A g u = absurd cc
ground_closed (suc (suc zero)) A (B, (C, e, f), g) u = subst (UsesType ground_before) (sym (g ∙ ap weaken (f ∙ ap weaken e))) tt
ground_closed (suc (suc (suc i))) A (B, (C, (D, g, e), f), h) u = absurd g

pub asked_is_beside_goal : IsTypedBesideByNumber Laters 4 later_worlds asked_goal asked
asked_is_beside_goal = numbered_output_goal_is_beside Laters ok later_worlds blocks 4 free first_below_second later_marks asking_clause (from_entry asking_block [] asking_entry [] (inl refl) refl) ground_before all_outside ground_closed 0 asked_type (refl, refl) ((refl, tt), tt) (asked_kind, refl, (tt, tt)) tt asked_kind refl

abbrev by_items : Case
by_items = output_goal first_below_second later_marks asking_origin ground_before asked_type asked_kind

abbrev beside_context : List LfType
beside_context = onto by_items.local (onto (items_context by_items.items) (scope asking_clause))

not_by_items : IsTypedBeside Laters later_worlds by_items asked → ⊥
not_by_items t = by (subst (TypedArguments Laters beside_context by_items.arguments (with_given by_items asking_clause (binders [] asked_type) (target_arguments asked_type))) (some_same (sym t.of_family)) t.arguments)
  where
    last : on_one 1 (var 2) ≡ on_one 1 (var 5) → ⊥
    last e = cc

    no : (A : LfType) → TypeAt beside_context 0 A → SpineType Laters beside_context nil A (on_one 1 (var 5)) → ⊥
    no A e s = last (sym e ∙ s)

    by : TypedArguments Laters beside_context by_items.arguments (with_given by_items asking_clause (binders [] asked_type) (target_arguments asked_type)) asked_kind → ⊥
    by ((A, g, s), h) = no A g s

abbrev same_blocks : BlockVariable → BlockVariable → Type 0
same_blocks a b = a ≡ b

abbrev same_labels : ℕ → ℕ → Type 0
same_labels m n = m ≡ n

not_second : IsTypedBesideByNumber Laters 4 later_worlds second_goal asked → ⊥
not_second b = by b.stands
  where
    by : (k : ℕ) × (U : Spine) × (block_at second_goal.blocks k ≡ Some (record { block = asking_block; terms = U })) × (true ≡ true → k ≡ zero) × (b.outer ≡ before [] (variable_images 4 second_goal.blocks k asking_block U)) → ⊥
    by (k, U, e, z, r) = other (some_same (subst (λ j. block_at second_goal.blocks j ≡ Some (record { block = asking_block; terms = U })) (z refl) e))
      where
        other : same_blocks (record { block = answering_block; terms = nil }) (record { block = asking_block; terms = U }) → ⊥
        other q = fifty (ap (λ (v : BlockVariable). first_of v.block.label) q)
          where
            first_of : List ℕ → ℕ
            first_of [] = zero
            first_of (n ∷ ns) = n

            fifty : same_labels 50 49 → ⊥
            fifty p = omega (arith, p)

pub asked_is_beside : AskedIsBeside
asked_is_beside = (asked_is_beside_goal, not_by_items, not_second)

pub answered_is_beside : AnsweredIsBeside
answered_is_beside = (asked_comes first_below_second, numbered_run_stays_beside Laters ok later_worlds blocks 4 free first_below_second asked (subgoal_is_typed Laters ok later_worlds blocks asking_clause (from_entry asking_block [] asking_entry [] (inl refl) refl) 0 asked_type (refl, refl)) asked_goal asked_is_beside_goal answered_case (asked_comes first_below_second))

pub open_is_not_beside : OpenIsNotBeside
open_is_not_beside Σ first t = no (t.beside.given.closed 2 _ (_, (_, refl, refl), refl) refl)
  where
    no : UsesType (is_given (with_outside (numbered first open_case) (subgoal_pattern open_clause (of_constant open_clause.type) (atom 3 (app (var 1) nil))) t.outer).given) (atom 1 (app (applied_to 3 4) nil)) → ⊥
    no ((u, v), w) = cc

-- The clause of v comes as this entry alone.
abbrev pub the_pattern : onto [] (asking_entry ∷ []) ≡ asking_block.entries → Pattern
the_pattern e = subgoal_pattern asking_clause (of_entry asking_block [] asking_entry [] e) asked_type

pub other_leaf : (e : onto [] (asking_entry ∷ []) ≡ asking_block.entries) (C : NumberedCase) → IsNumberedLeaf Laters 4 later_worlds (asked ∷ []) C → IsNumberedLeaf Laters 4 later_worlds (the_pattern e ∷ []) C
other_leaf e C l =
    let (t, n, g, i) = subst Known (only l.listed) (l.pattern_typed, l.same_length, l.given_own, l.is_instance) in
    record {
      typed = l.typed;
      pattern = the_pattern e;
      listed = inl refl;
      pattern_typed = record { outer_typed = t.outer_typed; clause_typed = t.clause_typed; type_typed = t.type_typed };
      same_length = n;
      given_own = g;
      is_instance = record { used = i.used; values = i.values; typed = i.typed; on_own_terms = i.on_own_terms; uses = i.uses; strict = i.strict; terms = i.terms; given = i.given; stands = i.stands; same = i.same };
    }
  where
    Known : Pattern → Type 0
    Known p = IsTypedPattern Laters p × (length C.local ≡ length (binders [] p.type)) × ((i : ℕ) → is_given C.given i ≡ true → outside p.clause.type everything i ≡ false) × IsInstanceOfPattern Laters 4 C p

    only : {p : Pattern} → Member p (asked ∷ []) → p ≡ asked
    only (inl q) = q
    only (inr m) = absurd m

module _ (P : (c : Clause) → IsClause Laters later_worlds c → Type 0) (at_entry : (i : Member asking_block later_worlds) (e : onto [] (asking_entry ∷ []) ≡ asking_block.entries) → P asking_clause (from_entry asking_block [] asking_entry [] i e)) where
  first_same : (E F : LfType) (es fs : List LfType) → E ∷ es ≡ F ∷ fs → E ≡ F
  first_same E F es fs q = ap head q
    where
      head : List LfType → LfType
      head [] = E
      head (A ∷ G) = A

  others_same : (E F : LfType) (es fs : List LfType) → E ∷ es ≡ F ∷ fs → es ≡ fs
  others_same E F es fs q = ap rest q
    where
      rest : List LfType → List LfType
      rest [] = []
      rest (A ∷ G) = G

  at_asking : (later : List LfType) (E : LfType) (es : List LfType) (i : Member asking_block later_worlds) (e : onto later (E ∷ es) ≡ asking_block.entries) → P (entry_clause asking_block es E) (from_entry asking_block later E es i e)
  at_asking [] E es i e = subst (λ X. (q : X ∷ es ≡ asking_block.entries) → P (entry_clause asking_block es X) (from_entry asking_block [] X es i q)) (sym (first_same E asking_entry es [] e)) (subst (λ ys. (q : asking_entry ∷ ys ≡ asking_block.entries) → P (entry_clause asking_block ys asking_entry) (from_entry asking_block [] asking_entry ys i q)) (sym (others_same E asking_entry es [] e)) (at_entry i)) e
  at_asking (D ∷ ds) E es i e = absurd (subst (Member E) (others_same D asking_entry (onto ds (E ∷ es)) [] e) (member_onto ds E es))

  not_atom : (a : ℕ) (S : Spine) → asking_entry ≡ atom a S → ⊥
  not_atom a S e = cc

  any_way : (c : Clause) (d : IsClause Laters later_worlds c) → c.type ≡ asking_entry → P c d
  any_way c (from_constant k T e) p = absurd (none_some e)
  any_way c (from_entry B later E es (inl q) e) p = subst (λ D. (i : Member D later_worlds) (f : onto later (E ∷ es) ≡ D.entries) → P (entry_clause D es E) (from_entry D later E es i f)) (sym q) (at_asking later E es) (inl q) e
  any_way c (from_entry B later E es (inr (inl q)) e) p = absurd (no (subst (Member E) (e ∙ ap (λ (D : Block). D.entries) q) (member_onto later E es)))
    where
      no : Member E answering_block.entries → ⊥
      no (inl r) = not_atom _ _ (sym p ∙ r)
      no (inr (inl r)) = not_atom _ _ (sym p ∙ r)
      no (inr (inr m)) = m
  any_way c (from_entry B later E es (inr (inr m)) e) p = absurd m

  pub comes_once : (d : IsClause Laters later_worlds asking_clause) → P asking_clause d
  comes_once d = any_way asking_clause d refl

module _ (below : ℕ → ℕ → Bool) (Splits : NumberedCase → List NumberedCase → Type 0) (split : Splits asked_goal (answered_case ∷ [])) where
  abbrev EndsSo : (c : Clause) → IsClause Laters later_worlds c → Type 0
  EndsSo c d = Ends (IsNumberedLeaf Laters 4 later_worlds (subgoal_pattern c (origin d) asked_type ∷ [])) Splits (numbered_output_goal 4 below later_marks (origin d) ground_before asked_type asked_kind)

  ends : (i : Member asking_block later_worlds) (e : onto [] (asking_entry ∷ []) ≡ asking_block.entries) → EndsSo asking_clause (from_entry asking_block [] asking_entry [] i e)
  ends i e = by_split (answered_case ∷ []) split (next_case (at_leaf (other_leaf e answered_case later_is_leaf.1)) no_case)

  pub each_way : (d : IsClause Laters later_worlds asking_clause) → EndsSo asking_clause d
  each_way = comes_once EndsSo ends

module _ (below : ℕ → ℕ → Bool) (s : IsSubordination Laters later_worlds below) where
  sc : SelfContained Laters later_worlds (below 3)
  sc = s.self_contained 3 (star, refl)

  one : below 3 1 ≡ true
  one = (sc.entries_in asking_block asking_entry (inl refl) (inl refl) (s.itself 3)).0

  numbers : below 3 0 ≡ true
  numbers = (sc.kinds_in 1 (kind_pi exp star) refl one).0

  low : PlacesBelow Laters below 3 asked_kind
  low = ((star, refl), numbers, s.itself 0, ((kind_pi exp star, refl), one, s.itself 1, tt))

  answers : AnswersByNumber Laters 4 later_worlds below (below 3) asked_goal (answered_case ∷ [])
  answers = let (sp, f) = asked_family below (below 3) one in (0, sp, families_take (below 3) sp.type f)

  splits : IsNumberedSplit Laters 4 later_worlds (below 3) asked_goal (answered_case ∷ [])
  splits = let (sp, f) = asked_family below (below 3) one in answered_by_number_is_split Laters ok later_worlds blocks below s (below 3) sc 4 free asked_goal asked_typed 0 (answered_case ∷ []) sp f

pub later_run_gives_outputs : LaterRunGivesOutputs
later_run_gives_outputs below s = (
  each_way below (IsNumberedSplit Laters 4 later_worlds (below 3)) (splits below s),
  numbered_runs_give_outputs Laters ok later_worlds blocks 4 free below s later_marks 3 (star, refl) asking_clause (from_entry asking_block [] asking_entry [] (inl refl) refl) (s.itself 3) ground_before all_outside 0 asked_type (refl, refl) no_instance ((refl, tt), tt) (asked_kind, refl, (tt, tt)) tt asked_kind refl (low below s) (each_way below (IsNumberedSplit Laters 4 later_worlds (below 3)) (splits below s)),
)

pub later_answers_give_outputs : LaterAnswersGiveOutputs
later_answers_give_outputs below s = (
  each_way below (AnswersByNumber Laters 4 later_worlds below (below 3)) (answers below s),
  answered_by_number_gives_outputs Laters ok later_worlds blocks 4 free below s later_marks 3 (star, refl) asking_clause (from_entry asking_block [] asking_entry [] (inl refl) refl) (s.itself 3) ground_before all_outside 0 asked_type (refl, refl) no_instance ((refl, tt), tt) (asked_kind, refl, (tt, tt)) tt asked_kind refl (low below s) (each_way below (AnswersByNumber Laters 4 later_worlds below (below 3)) (answers below s)),
)
