-- A checked record stays checked in each legal extension over its frozen families.
use Rattle.std.proofs.Common.{ℕ, zero, suc, List, ◌∷◌, sym, subst, inl, inr}
use Rattle.std.specs.Prelude.{Bool, true, false}
use Rattle.lf.specs.Syntax.{Term, Spine, LfType, pi, atom}
use Rattle.lf.specs.Typing.{Signature, TypeAt}
use Rattle.lf.specs.Variables.{target, binders, onto, everything, under}
use Rattle.lf.specs.Subordination.{Block, Member}
use Rattle.lf.specs.Extension.{Extends}
use Rattle.lf.specs.Entries.{quantifiers}
use Rattle.lf.proofs.ExtensionTyping.{extension_keeps_contexts, extension_keeps_values, extension_over_less, extensions_compose}
use Rattle.lf_checks.specs.Tests.{choose, is_in}
use Rattle.lf_checks.specs.Clause.{Clause, scope, variables, outside, IsClause, from_constant, from_entry}
use Rattle.lf_checks.specs.Marks.{Mark, HasSoundMarks, input_places}
use Rattle.lf_checks.specs.Ground.{EachSubgoal, UsesGoal, ground_after, ground_from}
use Rattle.lf_checks.specs.Modes.{AllGround, EachHypothesis, WellModedTo}
use Rattle.lf_checks.specs.Worlded.{IsSequence, no_instance, next_instance}
use Rattle.lf_checks.specs.Order.{Order, Orders, place, lexicographic, simultaneous, no_order, next_order, Less, LessLexicographic, LessSimultaneous, NoneGreater, Smaller, SmallerOrEqual, InArguments, under_constant, under_parameter, under_lambda, equal, smaller, first_argument, later_argument}
use Rattle.lf_checks.specs.Descent.{SameArgument, SmallerArgument, CallDescends, LeadsTo, no_call, after_call}
use Rattle.lf_cases.specs.Cover.{CoveredOutputs}
use Rattle.lf_totality.specs.Group.{Checked, GroupChecked}
use Rattle.lf_totality.proofs.After.{frozen_on, self_contained_on}
use Rattle.lf_totality.proofs.Lasting.{total_marks_on}

-- what holds of each subgoal, and at the end
pub each_on : (m : ℕ → List Mark) (c : Clause) (P P' : (ℕ → Bool) → LfType → Type 0) (Q : (ℕ → Bool) → Type 0) → ((U : ℕ → Bool) (A : LfType) → P U A → P' U A) → (n i : ℕ) (U : ℕ → Bool) → EachSubgoal m c P Q n i U → EachSubgoal m c P' Q n i U
each_on m c P P' Q f zero i U e = e
each_on m c P P' Q f (suc n) i U e = go (λ V. each_on m c P P' Q f n (suc i) V) (variables c i) e
  where
    go : ((V : ℕ → Bool) → EachSubgoal m c P Q n (suc i) V → EachSubgoal m c P' Q n (suc i) V) → (t : Bool) → choose t (EachSubgoal m c P Q n (suc i) U) ((A : LfType) → TypeAt (scope c) i A → P U A × EachSubgoal m c P Q n (suc i) (ground_after m c A U)) → choose t (EachSubgoal m c P' Q n (suc i) U) ((A : LfType) → TypeAt (scope c) i A → P' U A × EachSubgoal m c P' Q n (suc i) (ground_after m c A U))
    go r true e = r U e
    go r false e = λ A g. (f U A (e A g).0, r (ground_after m c A U) (e A g).1)

-- what holds of each local hypothesis
hypotheses_on : (P P' : (ℕ → Bool) → Clause → Type 0) (moded : ℕ → Bool) → ((U : ℕ → Bool) (c : Clause) → P U c → P' U c) → (C : List LfType) (F U : ℕ → Bool) (A : LfType) → EachHypothesis P moded C F U A → EachHypothesis P' moded C F U A
hypotheses_on P P' moded f C F U (pi A B) (h, k) = (go (moded (target A)) h, hypotheses_on P P' moded f (A ∷ C) (under F) (under U) B k)
  where
    go : (t : Bool) → choose t (P U (record { outer = C; fixed = F; type = A })) (Unit {0}) → choose t (P' U (record { outer = C; fixed = F; type = A })) (Unit {0})
    go true h = f U (record { outer = C; fixed = F; type = A }) h
    go false h = h
hypotheses_on P P' moded f C F U (atom a S) h = h

-- a tuple stays less where what less means of the places only grows
module _ (L L' E : ℕ → ℕ → Type 0) (f : (i j : ℕ) → L i j → L' i j) where
  mutual
    less_on : (O P : Order) → Less L E O P → Less L' E O P
    less_on (place i) (place j) l = f i j l
    less_on (place i) (lexicographic Ps) l = absurd l
    less_on (place i) (simultaneous Ps) l = absurd l
    less_on (lexicographic Os) (place j) l = absurd l
    less_on (lexicographic Os) (lexicographic Ps) l = lexicographic_on Os Ps l
    less_on (lexicographic Os) (simultaneous Ps) l = absurd l
    less_on (simultaneous Os) (place j) l = absurd l
    less_on (simultaneous Os) (lexicographic Ps) l = absurd l
    less_on (simultaneous Os) (simultaneous Ps) l = simultaneous_on Os Ps l

    lexicographic_on : (Os Ps : Orders) → LessLexicographic L E Os Ps → LessLexicographic L' E Os Ps
    lexicographic_on no_order Ps l = absurd l
    lexicographic_on (next_order O Os) no_order l = absurd l
    lexicographic_on (next_order O Os) (next_order P Ps) (inl l) = inl (less_on O P l)
    lexicographic_on (next_order O Os) (next_order P Ps) (inr (e, l)) = inr (e, lexicographic_on Os Ps l)

    simultaneous_on : (Os Ps : Orders) → LessSimultaneous L E Os Ps → LessSimultaneous L' E Os Ps
    simultaneous_on no_order Ps l = absurd l
    simultaneous_on (next_order O Os) no_order l = absurd l
    simultaneous_on (next_order O Os) (next_order P Ps) (inl (l, n)) = inl (less_on O P l, none_on Os Ps n)
    simultaneous_on (next_order O Os) (next_order P Ps) (inr (e, l)) = inr (e, simultaneous_on Os Ps l)

    none_on : (Os Ps : Orders) → NoneGreater L E Os Ps → NoneGreater L' E Os Ps
    none_on no_order Ps n = n
    none_on (next_order O Os) no_order n = absurd n
    none_on (next_order O Os) (next_order P Ps) (inl l, n) = (inl (less_on O P l), none_on Os Ps n)
    none_on (next_order O Os) (next_order P Ps) (inr e, n) = (inr e, none_on Os Ps n)

-- what a subgoal of a well-moded clause has
abbrev pub GoalModed : Signature → (ℕ → List Mark) → (ℕ → Bool) → ℕ → Clause → (ℕ → Bool) → LfType → Type 0
GoalModed Σ m moded n c U A = HasSoundMarks Σ (target A) (m (target A)) × UsesGoal U (input_places (m (target A))) A × EachHypothesis (WellModedTo n Σ m moded) moded (scope c) (outside c.type c.fixed) U A

module _ (S : ℕ → Bool) (Σ Σ' : Signature) (x : Extends S Σ Σ') where
  marks_on : (f : ℕ) (m : List Mark) → HasSoundMarks Σ f m → HasSoundMarks Σ' f m
  marks_on f m (K, e, s) = (K, x.kinds_stay f K e, s)

  goal_on : (m : ℕ → List Mark) (moded : ℕ → Bool) (n : ℕ) (c : Clause) → ((V : ℕ → Bool) (d : Clause) → WellModedTo n Σ m moded V d → WellModedTo n Σ' m moded V d) → (U : ℕ → Bool) (A : LfType) → GoalModed Σ m moded n c U A → GoalModed Σ' m moded n c U A
  goal_on m moded n c f U A (t, u, k) = (marks_on (target A) (m (target A)) t, u, hypotheses_on (WellModedTo n Σ m moded) (WellModedTo n Σ' m moded) moded f (scope c) (outside c.type c.fixed) U A k)

  moded_on : (m : ℕ → List Mark) (moded : ℕ → Bool) (n : ℕ) (V : ℕ → Bool) (c : Clause) → WellModedTo n Σ m moded V c → WellModedTo n Σ' m moded V c
  moded_on m moded zero V c h = h
  moded_on m moded (suc n) V c (s, h) = (marks_on (target c.type) (m (target c.type)) s, each_on m c (GoalModed Σ m moded n c) (GoalModed Σ' m moded n c) (λ U. AllGround m c U) (goal_on m moded n c (moded_on m moded n)) (quantifiers c.type) zero (ground_from V m c) h)

  sequence_on : (W : List Block) (C : List LfType) {D : List LfType} → IsSequence Σ W C D → IsSequence Σ' W C D
  sequence_on W C no_instance = no_instance
  sequence_on W C (next_instance {D = D} B θ s i b v t) = next_instance B θ (sequence_on W C s) i b (extension_keeps_values S Σ Σ' x everything B.some (onto D C) θ v) t

  mutual
    smaller_on : (C : List LfType) (L R : ℕ → Bool) {M N : Term} {A : LfType} → Smaller Σ C L R M N A → Smaller Σ' C L R M N A
    smaller_on C L R (under_constant {A = A} {c = c} e a) = under_constant (x.types_stay c A e) (arguments_on C L R a)
    smaller_on C L R (under_parameter r g a) = under_parameter r g (arguments_on C L R a)
    smaller_on C L R (under_lambda y l g s) = under_lambda y l g (or_equal_on C L R s)

    or_equal_on : (C : List LfType) (L R : ℕ → Bool) {M N : Term} {A : LfType} → SmallerOrEqual Σ C L R M N A → SmallerOrEqual Σ' C L R M N A
    or_equal_on C L R equal = equal
    or_equal_on C L R (smaller s) = smaller (smaller_on C L R s)

    arguments_on : (C : List LfType) (L R : ℕ → Bool) {M : Term} {T : Spine} {A : LfType} → InArguments Σ C L R M T A → InArguments Σ' C L R M T A
    arguments_on C L R (first_argument s) = first_argument (or_equal_on C L R s)
    arguments_on C L R (later_argument a) = later_argument (arguments_on C L R a)

  smaller_argument_on : (c : Clause) (A : LfType) (i j : ℕ) → SmallerArgument Σ c A i j → SmallerArgument Σ' c A i j
  smaller_argument_on c A i j (M, N, a, b, K, k, X, p, s) = (M, N, a, b, K, x.kinds_stay (target c.type) K k, X, p, smaller_on (binders (scope c) A) _ _ s)

-- The THEOREM
module _ (Σ Σ' : Signature) (R : Checked) (order : ℕ → Order) (totals : List Checked) (x : Extends R.frozen Σ Σ') (gc : GroupChecked Σ R order totals) where
  -- no clause of the group is new
  clause_back : (c : Clause) → IsClause Σ' R.worlds c → Member (target c.type) R.families → IsClause Σ R.worlds c
  clause_back c (from_constant k U e) g = from_constant k U (x.no_new k U e (gc.frozen.families_frozen (target U) g))
  clause_back c (from_entry B later E es i q) g = from_entry B later E es i q

  -- nor an equal call
  leads_back : (a b : ℕ) → LeadsTo Σ' R.worlds order R.families a b → LeadsTo Σ R.worlds order R.families a b
  leads_back a b no_call = no_call
  leads_back a b (after_call {b = d} e l) = after_call (record { clause = e.clause; is_clause = clause_back e.clause e.is_clause (subst (λ f. Member f R.families) (sym e.caller) e.caller_in); caller = e.caller; caller_in = e.caller_in; index = e.index; subgoal = e.subgoal; is_subgoal = e.is_subgoal; callee = e.callee; callee_in = e.callee_in; same = e.same }) (leads_back d b l)

  descends_on : (c : Clause) (A : LfType) → CallDescends Σ R.worlds order R.families c A → CallDescends Σ' R.worlds order R.families c A
  descends_on c A (a, inl l) = (a, inl (less_on (SmallerArgument Σ c A) (SmallerArgument Σ' c A) (SameArgument c A) (smaller_argument_on R.frozen Σ Σ' x c A) (order (target A)) (order (target c.type)) l))
  descends_on c A (a, inr (s, n)) = (a, inr (s, λ l. n (leads_back (target A) (target c.type) l)))

  -- an extension over the families below one of the group
  less : (f : ℕ) → Member f R.families → Extends (R.below f) Σ Σ'
  less f i = extension_over_less R.frozen (R.below f) Σ Σ' (gc.frozen.below_frozen f i) x

  outputs_on : (c : Clause) → Member (target c.type) R.families → (U : ℕ → Bool) (A : LfType) → CoveredOutputs Σ R.marks R.worlds (R.below (target c.type)) c U A → CoveredOutputs Σ' R.marks R.worlds (R.below (target c.type)) c U A
  outputs_on c g U A o = λ Σ'' y. o Σ'' (extensions_compose (R.below (target c.type)) Σ Σ' Σ'' (less (target c.type) g) y)

  pub stays_checked : GroupChecked Σ' R order totals
  stays_checked = record {
    marked = λ f i. total_marks_on R.frozen Σ Σ' f (R.marks f) x (gc.marked f i);
    blocks_typed = λ B i. extension_keeps_contexts R.frozen Σ Σ' x (onto B.entries B.some) (gc.blocks_typed B i);
    same_before = gc.same_before;
    itself_below = gc.itself_below;
    self_contained = λ f i. self_contained_on Σ Σ' R.worlds (R.below f) R.frozen (gc.frozen.below_frozen f i) x (gc.self_contained f i);
    frozen = frozen_on Σ Σ' R x gc.frozen;
    orders_at_inputs = gc.orders_at_inputs;
    well_moded = λ c k g n. moded_on R.frozen Σ Σ' x R.marks (λ f. is_in f R.families) n everything c (gc.well_moded c (clause_back c k g) g n);
    well_worlded = λ c k g i A v. sequence_on R.frozen Σ Σ' x R.worlds (scope c) (gc.well_worlded c (clause_back c k g) g i A v);
    callees = λ c k g. gc.callees c (clause_back c k g) g;
    descending = λ c k g i A v a. descends_on c A (gc.descending c (clause_back c k g) g i A v a);
    covered_inputs = λ f i Σ'' y. gc.covered_inputs f i Σ'' (extensions_compose (R.below f) Σ Σ' Σ'' (less f i) y);
    covered_outputs = λ c k g. each_on R.marks c (λ U A. CoveredOutputs Σ R.marks R.worlds (R.below (target c.type)) c U A) (λ U A. CoveredOutputs Σ' R.marks R.worlds (R.below (target c.type)) c U A) (λ U. Unit {0}) (outputs_on c g) (quantifiers c.type) zero (ground_from everything R.marks c) (gc.covered_outputs c (clause_back c k g) g);
  }
