-- Over families that are indexed by families without indices no split of a run leaves an equation.
use Rattle.std.proofs.Common.{◌≡◌, ℕ, ◌⊎◌, List, [], ◌∷◌, inl, inr, sym, ap, ◌∙◌, subst}
use Rattle.std.specs.Prelude.{Bool, true, false, Option, Some}
use Rattle.std.specs.List.{AllByRecursion}
use Rattle.lf.specs.Subordination.{Member}
use Rattle.lf.specs.Syntax.{metavariable, Term, root, LfType, pi, atom, Skeleton, base, arrow, skeleton}
use Rattle.lf.specs.Typing.{Signature}
use Rattle.lf.specs.Variables.{FamiliesIn, target}
use Rattle.lf_unification.specs.OpenTyping.{MetavariablesIn, MetavariablesInType, skeletons_of}
use Rattle.lf_unification.specs.Patterns.{local_skeletons, pattern, skeleton_target}
use Rattle.lf_unification.specs.Putting.{Unbound, binders}
use Rattle.lf_unification.specs.Reach.{IsReached, Mentions, TypeMentions, in_term, in_type, in_value}
use Rattle.lf_unification.specs.Unifiers.{Binding, Equation, Store}
use Rattle.lf_unification.proofs.Putting.{put_some, put_unbound}
use Rattle.lf_cases.specs.Case.{input_goal, items_context}
use Rattle.lf_cases.specs.Reached.{split_items}
use Rattle.lf_coverage.specs.IndicesLayers.{AreLayers, LayeredRunNeverLeaves}
use Rattle.lf_coverage.specs.IndicesLeft.{EquationIsHeld, circular_by_type, keeps_both, keeps_inside}
use Rattle.lf_coverage.specs.PatternStores.{BindingsArePatterns, IsPatternStore, IsPatternTerm, TypesArePatterns}
use Rattle.lf_coverage.specs.SplitStore.{AllFamiliesIn, split_store}
use Rattle.lf_coverage.specs.Subordinate.{AllQuantifiersAreBelow, QuantifiersAreBelow}
use Rattle.lf_coverage.proofs.Everywhere.{Everywhere, metavariables_have, of_families, run_has}
use Rattle.lf_coverage.proofs.Families.{split_items_keep_families}
use Rattle.lf_coverage.proofs.IndicesLeft.{equation_held, shown_is_pattern, side_at}
use Rattle.lf_coverage.proofs.IndicesLow.{AllLayered, Layered, Low, LowMeta, below_layered, low_term, plain_low, types_low}
use Rattle.lf_coverage.proofs.IndicesPlain.{IsPlain, bound_is_bound, mentioned_in, never_held, spine_mentioned_in}
use Rattle.lf_coverage.proofs.IndicesPruned.{PlainType}
use Rattle.lf_coverage.proofs.IndicesRuns.{input_run_kept}
use Rattle.lf_coverage.proofs.IndicesSplits.{head_of_split_has_patterns}
use Rattle.lf_coverage.proofs.IndicesState.{AllLow, Holds, IsHigh, IsLow, low_free, low_or_high, run_holds}
use Rattle.lf_coverage.proofs.PatternHeadTerm.{target_is}
use Rattle.lf_coverage.proofs.PatternSplits.{split_store_is_pattern}
use Rattle.lf_coverage.proofs.PatternSteps.{run_keeps}
use Rattle.lf_coverage.proofs.PatternSides.{value_at}
use Rattle.lf_coverage.proofs.PatternMoves.{length_local}
use Rattle.lf_coverage.proofs.Subordinate.{inputs_quantify_below}
use Rattle.lf_coverage.proofs.SubordinateItems.{split_items_quantify_below}
use Rattle.lf_coverage.proofs.SubordinateRuns.{run_quantifies_below}
use Rattle.lf_coverage.proofs.TypedCases.{input_goal_is_typed_case}
use Rattle.lf_coverage.proofs.IndicesOnAll.{IsRigidTerm, OnAll, Unforced, nothing_must_go, puts_on_all, puts_rigid}
use Rattle.lf_coverage.proofs.IndicesFamilies.{target_in}
use Rattle.lf_coverage.proofs.IndicesStart.{constants_layered, split_holds}

type_mentioned_in : (V : ℕ → Type 0) (k : ℕ) (A : LfType) → MetavariablesInType V A → TypeMentions k A → V k
type_mentioned_in V k (pi A B) (v, w) (inl h) = type_mentioned_in V k A v h
type_mentioned_in V k (pi A B) (v, w) (inr h) = type_mentioned_in V k B w h
type_mentioned_in V k (atom a S) v h = spine_mentioned_in V k S v h

some_one : {A B : LfType} → Some A ≡ Some B → A ≡ B
some_one e = cc

module _ (Σ : Signature) (L : ℕ → Bool) (constants : (c : ℕ) (U : LfType) → Σ.types c ≡ Some U → Layered L (skeleton U)) where
  member_low : (es : List Equation) → AllLow Σ L constants es → (e : Equation) → Member e es → IsLow Σ L constants e
  member_low [] a e m = absurd m
  member_low (f ∷ es) (x, a) e (inl q) = subst (IsLow Σ L constants) (sym q) x
  member_low (f ∷ es) (x, a) e (inr m) = member_low es a e m

  -- what is left over can't be held by types
  module _ (Ψ : ℕ → Option LfType) (bs : List Binding) (h : BindingsArePatterns Σ Ψ bs) (layered : (m : ℕ) (A : LfType) → Ψ m ≡ Some A → Layered L (skeleton A)) (plain : (m : ℕ) (A : LfType) → Ψ m ≡ Some A → L (target A) ≡ true → PlainType A) (mention : (m : ℕ) (A : LfType) → Ψ m ≡ Some A → MetavariablesInType (LowMeta Σ Ψ L constants) A) where
    low_is_plain : (k : ℕ) → LowMeta Σ Ψ L constants k → IsPlain Ψ k
    low_is_plain k (B, f, l) A e = plain k A e (subst (λ X. L (target X) ≡ true) (some_one (sym f ∙ e)) l)

    low_never : (e : Equation) (t : Skeleton) → AllLayered L (local_skeletons e.local []) → Low L t → IsPatternTerm Σ Ψ (local_skeletons e.local []) e.left t → IsPatternTerm Σ Ψ (local_skeletons e.local []) e.right t → MetavariablesIn (Unbound bs) e.left → MetavariablesIn (Unbound bs) e.right → EquationIsHeld Ψ bs e → ⊥
    low_never e t g l p q u v x = by x.sides
      where
        side : (M N : Term) → IsPatternTerm Σ Ψ (local_skeletons e.local []) M t → IsPatternTerm Σ Ψ (local_skeletons e.local []) N t → MetavariablesIn (Unbound bs) N → M ≡ root (metavariable x.metavariable) (pattern (skeletons_of Ψ x.metavariable) x.variables) → N ≡ x.other → ⊥
        side M N p q v a b =
            let n : MetavariablesIn (LowMeta Σ Ψ L constants) x.other = subst (MetavariablesIn (LowMeta Σ Ψ L constants)) b (low_term Σ Ψ L constants (local_skeletons e.local []) g N t l q) in
            let m : LowMeta Σ Ψ L constants x.metavariable = (subst (MetavariablesIn (LowMeta Σ Ψ L constants)) a (low_term Σ Ψ L constants (local_skeletons e.local []) g M t l p)).0 in
            never_held Ψ bs x.other (λ k z. low_is_plain k (mentioned_in (LowMeta Σ Ψ L constants) k x.other n z)) (subst (MetavariablesIn (Unbound bs)) b v) e.local x.metavariable (low_is_plain x.metavariable m) x.variables x.is_pattern x.held

        by : ((e.left ≡ root (metavariable x.metavariable) (pattern (skeletons_of Ψ x.metavariable) x.variables)) × (e.right ≡ x.other)) ⊎ ((e.right ≡ root (metavariable x.metavariable) (pattern (skeletons_of Ψ x.metavariable) x.variables)) × (e.left ≡ x.other)) → ⊥
        by (inl (a, b)) = side e.left e.right p q v a b
        by (inr (a, b)) = side e.right e.left q p u a b

    reached_low : (N : Term) → MetavariablesIn (Unbound bs) N → {k : ℕ} → IsReached Ψ bs N k → Mentions k N ⊎ LowMeta Σ Ψ L constants k
    reached_low N v (in_term z) = inl z
    reached_low N v (in_type {k = k} {A = A} r e z) = inr (type_mentioned_in (LowMeta Σ Ψ L constants) _ A (mention k A e) z)
    reached_low N v {k = n} (in_value b r m z) = by (reached_low N v r)
      where
        by : Mentions b.of N ⊎ LowMeta Σ Ψ L constants b.of → Mentions n N ⊎ LowMeta Σ Ψ L constants n
        by (inl y) = absurd (bound_is_bound bs b m (mentioned_in (Unbound bs) b.of N v y))
        by (inr (B, f, l)) =
            let (A, e, w) = value_at Σ Ψ bs h b m in
            let lt : Low L (skeleton A) = (layered b.of A e, subst (λ c. L c ≡ true) (ap target (some_one (sym f ∙ e)) ∙ sym (target_is A)) l) in
            inr (mentioned_in (LowMeta Σ Ψ L constants) n b.value (low_term Σ Ψ L constants [] tt b.value (skeleton A) lt w) z)

    high_never : (e : Equation) (t : Skeleton) → L (skeleton_target t) ≡ false → OnAll (binders e.local) e.left → IsRigidTerm e.right → IsPatternTerm Σ Ψ (local_skeletons e.local []) e.left t → MetavariablesIn (Unbound bs) e.right → EquationIsHeld Ψ bs e → ⊥
    high_never e t f o r p v x = by x.sides
      where
        not_low : (t : Skeleton) → L (skeleton_target t) ≡ false → IsPatternTerm Σ Ψ (local_skeletons e.local []) (root (metavariable x.metavariable) (pattern (skeletons_of Ψ x.metavariable) x.variables)) t → LowMeta Σ Ψ L constants x.metavariable → ⊥
        not_low (arrow a b) f p l = p
        not_low (base c) f (A, g, q, d) l = low_free Σ L constants Ψ x.metavariable l A g (subst (λ z. L z ≡ false) (sym q ∙ target_is A) f)

        by : ((e.left ≡ root (metavariable x.metavariable) (pattern (skeletons_of Ψ x.metavariable) x.variables)) × (e.right ≡ x.other)) ⊎ ((e.right ≡ root (metavariable x.metavariable) (pattern (skeletons_of Ψ x.metavariable) x.variables)) × (e.left ≡ x.other)) → ⊥
        by (inr (a, b)) = subst IsRigidTerm a r
        by (inl (a, b)) = held x.held
          where
            held : Rattle.lf_coverage.specs.IndicesLeft.IsHeldByTypes Ψ bs e.local x.metavariable x.variables x.other → ⊥
            held (keeps_inside d n) = nothing_must_go Ψ e.local (skeletons_of Ψ x.metavariable) x.variables x.metavariable x.other x.is_pattern (subst (OnAll (binders e.local)) a o) d
            held (keeps_both s d n) = subst IsRigidTerm (b ∙ s.is) r
            held (circular_by_type w z n) = reached (reached_low x.other (subst (MetavariablesIn (Unbound bs)) b v) z)
              where
                reached : Mentions x.metavariable x.other ⊎ LowMeta Σ Ψ L constants x.metavariable → ⊥
                reached (inl y) = n y
                reached (inr l) = not_low t f (subst (λ M. IsPatternTerm Σ Ψ (local_skeletons e.local []) M t) a p) l

-- the families and quantifiers of types
module _ (below : ℕ → ℕ → Bool) (T : ℕ → Bool) where
  abbrev Below : ℕ → ℕ → Type 0
  Below b a = below b a ≡ true

  abbrev InSet : ℕ → Type 0
  InSet a = T a ≡ true

  both_from : (A : LfType) → QuantifiersAreBelow below A → FamiliesIn T A → Everywhere Below InSet A
  both_from (pi A B) (q, a, b) (f, g) = (q, both_from A a f, both_from B b g)
  both_from (atom a S) q f = f

  quantifiers_from : (A : LfType) → Everywhere Below InSet A → QuantifiersAreBelow below A
  quantifiers_from (pi A B) (q, a, b) = (q, quantifiers_from A a, quantifiers_from B b)
  quantifiers_from (atom a S) f = tt

  families_from : (A : LfType) → Everywhere Below InSet A → FamiliesIn T A
  families_from (pi A B) (q, a, b) = (families_from A a, families_from B b)
  families_from (atom a S) f = f

  all_both : (G : List LfType) → AllQuantifiersAreBelow below G → AllFamiliesIn T G → AllByRecursion (Everywhere Below InSet) G
  all_both [] q f = tt
  all_both (A ∷ G) (q, qs) (f, fs) = (both_from A q f, all_both G qs fs)

-- no equation is left over
left_never : (Σ : Signature) (L : ℕ → Bool) (below : ℕ → ℕ → Bool) (T : ℕ → Bool) (layers : AreLayers Σ below L T) (cl : (c : ℕ) (U : LfType) → Σ.types c ≡ Some U → Layered L (skeleton U)) (after : Store) (sp : IsPatternStore Σ after) → TypesArePatterns Σ after.metavariables → ((m : ℕ) (A : LfType) → after.metavariables m ≡ Some A → Everywhere (Below below T) (InSet below T) A) → (before : Store) (e : Equation) → Member e after.equations → (o : Rattle.lf_unification.specs.Solving.LeftOver before.metavariables after e) → Holds Σ L cl after → ⊥
left_never Σ L below T layers cl after sp ta types before e k o w = on w
  where
    layered : (m : ℕ) (A : LfType) → after.metavariables m ≡ Some A → Layered L (skeleton A)
    layered m A f = below_layered L below layers.downward A (quantifiers_from below T A (types m A f))

    plain : (m : ℕ) (A : LfType) → after.metavariables m ≡ Some A → L (target A) ≡ true → PlainType A
    plain m A f n = plain_low Σ after.metavariables L cl below layers.downward layers.no_indices [] A (quantifiers_from below T A (types m A f)) n (ta m A f)

    mention : (m : ℕ) (A : LfType) → after.metavariables m ≡ Some A → MetavariablesInType (LowMeta Σ after.metavariables L cl) A
    mention m A f = types_low Σ after.metavariables L cl below layers.downward T layers.indices [] tt A (quantifiers_from below T A (types m A f)) (families_from below T A (types m A f)) (ta m A f)

    low : IsLow Σ L cl e → ⊥
    low (g, n) =
        let (p, q) = shown_is_pattern Σ after sp before.metavariables e k o in
        low_never Σ L cl after.metavariables after.bindings sp.bindings layered plain mention o.shown (skeleton e.of_type) (subst (λ E. AllLayered L (local_skeletons E [])) (sym o.same_local) g) n p q (put_unbound o.put_left) (put_unbound o.put_right) (equation_held Σ after.metavariables after.bindings o.shown (skeleton e.of_type) p q o.outside)

    high : Unforced Σ L after.metavariables after.bindings → IsHigh Σ L cl e → ⊥
    high u (f, g, z) =
        let (p, q) = shown_is_pattern Σ after sp before.metavariables e k o in
        let (p0, q0) = side_at Σ after.metavariables after.equations sp.sides e k in
        high_never Σ L cl after.metavariables after.bindings sp.bindings layered plain mention o.shown (skeleton e.of_type) z (subst (λ E. OnAll (binders E) o.shown.left) (sym o.same_local) (puts_on_all Σ L after.metavariables after.bindings sp.bindings u (put_some o.put_left) (local_skeletons e.local []) (skeleton e.of_type) (length_local e.local) p0 z (binders e.local) f)) (puts_rigid (put_some o.put_right) g) p (put_unbound o.put_right) (equation_held Σ after.metavariables after.bindings o.shown (skeleton e.of_type) p q o.outside)

    one : Unforced Σ L after.metavariables after.bindings → IsLow Σ L cl e ⊎ IsHigh Σ L cl e → ⊥
    one u (inl x) = low x
    one u (inr x) = high u x

    on : Holds Σ L cl after → ⊥
    on (inl a) = low (member_low Σ L cl after.equations a e k)
    on (inr (a, u)) = one u (low_or_high Σ L cl after.equations (inr a) e k)

pub layered_run_never_leaves : LayeredRunNeverLeaves
layered_run_never_leaves Σ ok L T constants W typed sc below test layers a m K e c h f D r x shown l =
    let (q, (nb, p, i, fd)) = input_run_kept Σ ok T constants W typed sc below test a m K e c h f D r in
    let (td, qd) = run_quantifies_below Σ ok W typed below test (input_goal a m K) (input_goal_is_typed_case Σ ok W typed a m K e c).0 (inputs_quantify_below Σ W below test a m K e) D r in
    let (hp, ai) = head_of_split_has_patterns Σ ok T constants W typed below D.items td.items i fd x l.type l.at l.offer.items l.offer.moved l.offer.head l.offer.type l.is_head l.no_block in
    let P : List LfType = items_context (split_items below l.type l.offer.items l.offer.moved l.offer.type) in
    let qp : AllQuantifiersAreBelow below P = split_items_quantify_below Σ ok W typed below test D.items td.items qd x l.type l.at l.offer.items l.offer.moved l.offer.head l.offer.type l.is_head l.no_block in
    let fp : AllFamiliesIn T P = split_items_keep_families Σ W T sc below D.items fd x l.type l.at l.offer.items l.offer.moved l.offer.head l.offer.type l.is_head l.no_block in
    let before : Store = split_store below x l.type l.offer.items l.offer.moved l.offer.head l.offer.type l.kind in
    let st : IsPatternStore Σ before = split_store_is_pattern Σ W below D.items l.offer.items x l.type l.at l.offer.moved l.offer.head l.offer.type l.is_head l.no_block l.kind l.of_family hp in
    let cl = constants_layered Σ ok W typed below test T sc L layers in
    let tx : T (target l.type) ≡ true = target_in T l.type (Rattle.lf_coverage.proofs.StoreSolution.families_at T (items_context D.items) fd x l.type l.at) in
    let start : Holds Σ L cl before = split_holds Σ ok W typed below test T sc L layers D qd fd x l.type l.at l.offer.items l.offer.moved l.offer.head l.offer.type l.is_head l.no_block l.kind l.of_family tx in
    let (sp, ta) = run_keeps Σ l.left.run st hp.declared in
    let types = run_has (Below below T) (InSet below T) l.left.run (metavariables_have (Everywhere (Below below T) (InSet below T)) (of_families (Below below T) (InSet below T)) P (all_both below T P qp fp)) in
    left_never Σ L below T layers cl l.after sp ta types before l.equation l.listed l.left_over (run_holds Σ L cl l.left.run st hp.declared start)
