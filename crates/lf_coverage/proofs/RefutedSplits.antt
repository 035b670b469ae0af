-- What steps find for a head they find in each extension of the signature, where all families that are declared make a set. So nothing is asked of
-- the families of items.
use Rattle.std.proofs.Common.{◌≡◌, ℕ, ◌+◌, List, [], ◌∷◌, inl, inr, refl, sym, ap, ◌∙◌, subst}
use Rattle.std.specs.Prelude.{Bool, Option, Some, None}
use Rattle.lf.specs.AtOnce.{shift_by}
use Rattle.lf.specs.Syntax.{Head, constant, variable, metavariable, Term, LfType, Kind, rename_type}
use Rattle.lf.specs.Substitution.{Image}
use Rattle.lf.specs.Typing.{Signature, TypeAt, IsContext, IsSignature}
use Rattle.lf.specs.Variables.{target, onto, FamiliesIn}
use Rattle.lf.specs.Subordination.{Block, Member, AreTypedBlocks, IsBelowTest, SelfContained}
use Rattle.lf.specs.Extension.{Extends}
use Rattle.lf.specs.Worlds.{World}
use Rattle.lf.proofs.ExtensionTyping.{extension_keeps_contexts}
use Rattle.lf.proofs.Worlds.{world_is_context}
use Rattle.lf_unification.specs.Dependency.{IsDependencyOrder, ListedMetavariable, ValueIsOrdered, free_context}
use Rattle.lf_unification.specs.OpenTyping.{OpenHasType, OpenHeadHasType, OpenIsType, skeletons_of}
use Rattle.lf_unification.specs.PartialInstance.{IsFilling}
use Rattle.lf_unification.specs.Solving.{IsWellFormed, Solved, ValuesAreBindings}
use Rattle.lf_unification.specs.Steps.{CanRefute, Run, Step, bind, drop_equal, equal_heads, next_equation, no_step, open_lambdas, prune_both, prune_inside, put_bindings, renew, then_run}
use Rattle.lf_unification.specs.Unifiers.{Binding, BindingsAreTyped, Store}
use Rattle.lf_unification.proofs.Runs.{run_form, run_keeps_unifiers, run_refuted}
use Rattle.lf_cases.specs.Case.{Item, free_variable, block_variable, Case, items_context, IsGroundInstance}
use Rattle.lf_cases.specs.OutputGoal.{free_variables}
use Rattle.lf_cases.specs.Missing.{AreTypedItems}
use Rattle.lf_cases.specs.Reached.{arguments_count, SplitHead, constant_head, bound_head, entry_head, new_entry_head, head_masks, taken, split_items, IsSplitBy}
use Rattle.lf_cases.specs.Split.{HasNoBlockVariable}
use Rattle.lf_cases.proofs.Split.{distinct_without}
use Rattle.lf_cases.proofs.Subordinate.{below_is_subordination}
use Rattle.lf_totality.proofs.After.{Extends-self}
use Rattle.lf_coverage.specs.Calls.{AreCasesOf, HeadGives}
use Rattle.lf_coverage.specs.HeadOrder.{Offer}
use Rattle.lf_coverage.specs.Heads.{IsTypedCase, MakesHead, Keeps, GivesCase, GivesNone, HeadAnswer, IsHeadSplit, IsSplitBelow, SplitsByHeads}
use Rattle.lf_coverage.specs.RefutedSplits.{IsRefutedSplit, RefutesEachHead, RunInExtension, RefutedGivesNone, SolvedGivesCaseBeside, RefutedSplitIsAnswer, RefutedRunCovers}
use Rattle.lf_coverage.specs.SplitStore.{AllFamiliesIn, split_store, answer_values, solved_case}
use Rattle.lf_coverage.specs.Subordinate.{AllQuantifiersAreBelow}
use Rattle.lf_coverage.specs.UnifiedSplit.{HeadIsAnswered}
use Rattle.lf_coverage.proofs.GroundTyped.{items_extended}
use Rattle.lf_coverage.proofs.ItemsContext.{items_are_context}
use Rattle.lf_coverage.proofs.NoCase.{families, all_declared, context_declared, whole_block, with_whole, whole_world, in_all_worlds, head_in_all_worlds, none_of_items, never_gives_no_case}
use Rattle.lf_coverage.proofs.SolvedCase.{answer, free_typed, free_without, heads_without, kept, never_gives_none, no_first, typed_instance, value_typed}
use Rattle.lf_coverage.proofs.SplitReady.{split_items_typed, split_ready}
use Rattle.lf_coverage.proofs.HeadSplit.{answered_by, heads_split, split_cases_typed}
use Rattle.lf_coverage.proofs.Leaves.{leaf_is_instance}
use Rattle.lf_coverage.proofs.Runs.{head_splits_cover, other_run}
use Rattle.lf_coverage.proofs.SubordinateRuns.{answered_arguments_below, answered_split_is_solved}
use Rattle.lf_coverage.proofs.TypedCases.{solved_is_split}

-- Steps in an extension.
step_extended : (S : ℕ → Bool) (Σ Σ' : Signature) → Extends S Σ Σ' → {s t : Store} → Step Σ s t → Step Σ' s t
step_extended S Σ Σ' x (next_equation es e fs) = next_equation es e fs
step_extended S Σ Σ' x (put_bindings f g) = put_bindings f g
step_extended S Σ Σ' x drop_equal = drop_equal
step_extended S Σ Σ' x open_lambdas = open_lambdas
step_extended S Σ Σ' x (equal_heads {Ψ = Ψ} {D = D} h A r t) = equal_heads h A r (by h t)
  where
    by : (h : Head) → OpenHeadHasType Σ [] Ψ (λ β. Unit {0}) D h A → OpenHeadHasType Σ' [] Ψ (λ β. Unit {0}) D h A
    by (constant c) t = x.types_stay c A t
    by (variable i) t = t
    by (metavariable m) t = t
step_extended S Σ Σ' x (bind side D m xs N C d u p b) = bind side D m xs N C d u p b
step_extended S Σ Σ' x (prune_inside side D m xs N C d p c u n y) = prune_inside side D m xs N C d p c u n y
step_extended S Σ Σ' x (prune_both side D m xs N C d p c u n y) = prune_both side D m xs N C d p c u n y
step_extended S Σ Σ' x (renew m A A' d u b p n y) = renew m A A' d u b p n y

pub run_extended : (S : ℕ → Bool) (Σ Σ' : Signature) → Extends S Σ Σ' → {s t : Store} → Run Σ s t → Run Σ' s t
run_extended S Σ Σ' x no_step = no_step
run_extended S Σ Σ' x (then_run p r) = then_run (step_extended S Σ Σ' x p) (run_extended S Σ Σ' x r)

pub run_in_extension : RunInExtension
run_in_extension S Σ Σ' x before after r = run_extended S Σ Σ' x r

-- An order of dependency of a store that is typed in an extension is one there.
module _ (Σ Σ' : Signature) (Ψ : ℕ → Option LfType) (U V : (ℕ → Option Term) → Type 0) (bs : List Binding) (types : (m : ℕ) (A : LfType) → Ψ m ≡ Some A → OpenIsType Σ' [] Ψ V [] A) (bound : BindingsAreTyped Σ' [] Ψ V bs) where
  value_at : (cs : List Binding) → BindingsAreTyped Σ' [] Ψ V cs → (m : ℕ) (N : Term) → Member (record { of = m; value = N }) cs → (A : LfType) × (Ψ m ≡ Some A) × OpenHasType Σ' [] Ψ V [] N A
  value_at [] b m N k = absurd k
  value_at (c ∷ cs) ((A, e, t), b) m N (inl k) = (A, ap Ψ (ap (λ d. d.of) k) ∙ e, subst (λ M. OpenHasType Σ' [] Ψ V [] M A) (sym (ap (λ d. d.value) k)) t)
  value_at (c ∷ cs) (t, b) m N (inr k) = value_at cs b m N k

  pub order_extended : (is : List ListedMetavariable) → ValuesAreBindings bs is → IsDependencyOrder Σ Ψ U is → IsDependencyOrder Σ' Ψ V is
  order_extended [] v o = tt
  order_extended (it ∷ is) (f, v) (o, e, n, m, t, c, w) = (order_extended is v o, e, n, m, types it.of it.of_type e, c, value it.value f w)
    where
      some_same : {A B : LfType} → Some A ≡ Some B → A ≡ B
      some_same q = cc

      value : (y : Option Term) → ((N : Term) → y ≡ Some N → Member (record { of = it.of; value = N }) bs) → ValueIsOrdered Σ Ψ U is it.of_type y → ValueIsOrdered Σ' Ψ V is it.of_type y
      value None f w = tt
      value (Some N) f (i, h, r) =
          let (A, k, q) = value_at bs bound it.of N (f N refl) in
          (i, subst (OpenHasType Σ' [] Ψ V [] N) (some_same (sym k ∙ e)) q, r)

-- So what is solved is solved in an extension, where the store is well formed there, by the same order.
unfoldable pub well_formed_extended : (Σ Σ' : Signature) (t : Store) (w : IsWellFormed Σ t) → IsWellFormed Σ' t → IsWellFormed Σ' t
well_formed_extended Σ Σ' t w v = record {
  order = w.order;
  is_order = order_extended Σ Σ' t.metavariables (IsFilling Σ [] t) (IsFilling Σ' [] t) t.bindings v.typed.declarations_typed.metavariables_typed v.typed.bindings_typed w.order w.values_bound w.is_order;
  all_listed = w.all_listed;
  bindings_listed = w.bindings_listed;
  values_bound = w.values_bound;
  typed = v.typed;
}

unfoldable pub solved_extended : (S : ℕ → Bool) (Σ Σ' : Signature) (x : Extends S Σ Σ') (s t : Store) → Solved Σ s t → IsWellFormed Σ' s → Solved Σ' s t
solved_extended S Σ Σ' x s t d f =
    let r : Run Σ' s t = run_extended S Σ Σ' x d.run in
    record { run = r; keeps = run_keeps_unifiers Σ' x.ok f r; well_formed = well_formed_extended Σ Σ' t d.well_formed (run_form Σ' x.ok f r); none_left = d.none_left }

-- Without block variables a ground instance is one in every world of the same context.
other_world : {Σ : Signature} {V W : List Block} {S T : ℕ → Bool} {G : List LfType} (v : World Σ V T G) (w : World Σ W S G) (I : List Item) (σ : ℕ → Image) → HasNoBlockVariable I → IsGroundInstance v I σ → IsGroundInstance w I σ
other_world v w [] σ n g = tt
other_world v w (free_variable A ∷ I) σ n (N, τ, g, t, e) = (N, τ, other_world v w I τ n g, t, e)
other_world v w (block_variable B υ ∷ I) σ n g = absurd n

-- heads in an extension
head_extended : (S : ℕ → Bool) (Σ Σ' : Signature) → Extends S Σ Σ' → (W : List Block) (I : List Item) (X : LfType) {J : List Item} {n : ℕ} {h : Head} {A : LfType} → SplitHead Σ W I X J n h A → SplitHead Σ' W I X J n h A
head_extended S Σ Σ' x W I X (constant_head k U e t) = constant_head k U (x.types_stay k U e) t
head_extended S Σ Σ' x W I X (bound_head j A l k t) = bound_head j A l k t
head_extended S Σ Σ' x W I X (entry_head j A k f t) = entry_head j A k f t
head_extended S Σ Σ' x W I X (new_entry_head B j A m l k t) = new_entry_head B j A m l k t

module _ (Σ : Signature) (ok : IsSignature Σ) (W : List Block) (typed : AreTypedBlocks Σ W) (below : ℕ → ℕ → Bool) (S : ℕ → Bool) (C : Case) (tc : IsTypedCase Σ W C) (x : ℕ) (X : LfType) (at : TypeAt (items_context C.items) x X) (J : List Item) (n : ℕ) (h : Head) (A : LfType) (sh : SplitHead Σ W C.items X J n h A) (nj : HasNoBlockVariable J) (K : Kind) (kind : Σ.kinds (target X) ≡ Some K) where
  abbrev P : List Item
  P = split_items below X J n A

  np : HasNoBlockVariable P
  np = heads_without (head_masks below (taken (rename_type (shift_by n) X)) (arguments_count A) A) (arguments_count A) (taken (rename_type (shift_by n) X)) A J nj

  -- In an extension, where the context is an instance of a block, and all declared families make the set.
  module _ (Σ' : Signature) (e : Extends S Σ Σ') (G : List LfType) (w : World Σ' W S G) (τ : ℕ → Image) (m : MakesHead w below x X J n h A τ) where
    abbrev T : ℕ → Bool
    T = families Σ' e.ok

    abbrev V : List Block
    V = whole_block Σ' e.ok G ∷ W

    cg : IsContext Σ' G
    cg = world_is_context w

    there : AreTypedBlocks Σ' W
    there B b = extension_keeps_contexts S Σ Σ' e (onto B.entries B.some) (typed B b)

    blocks : AreTypedBlocks Σ' V
    blocks = with_whole Σ' e.ok W there G cg

    items : AreTypedItems Σ' V C.items
    items = in_all_worlds Σ' W V C.items (none_of_items Σ W C.items X J n h A nj sh) (items_extended S Σ Σ' e W C.items tc.items)

    head_there : SplitHead Σ' V C.items X J n h A
    head_there = head_in_all_worlds Σ' W V C.items X J n h A nj (head_extended S Σ Σ' e W C.items X sh)

    split_there : AreTypedItems Σ' V P
    split_there = split_items_typed Σ' e.ok V blocks below C.items items x X at J n h A head_there

    declared : AllFamiliesIn T (items_context P)
    declared = context_declared Σ' e.ok (items_context P) (items_are_context Σ' e.ok V blocks P split_there)

    whole : World Σ' V T G
    whole = whole_world Σ' e.ok W G cg

    ground : IsGroundInstance whole P τ
    ground = other_world w whole P τ np m.is_ground

    made : MakesHead whole below x X J n h A τ
    made = record { is_ground = ground; is_distinct = distinct_without whole P τ ground np; same = m.same; same_type = m.same_type }

    ready : IsWellFormed Σ' (split_store below x X J n h A K)
    ready = split_ready Σ' e.ok V blocks below C.items items x X at J n h A head_there K (e.kinds_stay (target X) K kind)

    none : CanRefute Σ (split_store below x X J n h A K) → ⊥
    none d = never_gives_none Σ' e.ok V blocks below T (all_declared Σ' e.ok V blocks) C.items items x X at J n h A K head_there split_there declared (run_refuted Σ' e.ok ready (run_extended S Σ Σ' e d.run) d.refuted) Σ' (Extends-self T Σ' e.ok) G whole τ made

    module _ (after : Store) (s : Solved Σ (split_store below x X J n h A K) after) where
      abbrev O : List LfType
      O = free_context (skeletons_of after.metavariables) s.well_formed.order

      solved_there : Solved Σ' (split_store below x X J n h A K) after
      solved_there = solved_extended S Σ Σ' e (split_store below x X J n h A K) after s ready

      kept_there : Keeps whole P τ ground (free_variables O) (answer_values after s.well_formed.order)
      unfolding ground made solved_there solved_extended well_formed_extended
      kept_there = kept Σ' e.ok V blocks below T (all_declared Σ' e.ok V blocks) C.items items x X at J n h A K head_there split_there declared C after solved_there nj Σ' (Extends-self T Σ' e.ok) G whole τ made

      keeps : Keeps w P τ m.is_ground (free_variables O) (answer_values after s.well_formed.order)
      keeps =
          let g : IsGroundInstance w (free_variables O) kept_there.new_values = other_world whole w (free_variables O) kept_there.new_values (free_without O) kept_there.is_ground in
          record {
            new_values = kept_there.new_values;
            is_ground = g;
            is_distinct = distinct_without w (free_variables O) kept_there.new_values g (free_without O);
            first_stays = λ B θ z. absurd (no_first w P τ m.is_ground B θ np z);
            same = kept_there.same;
          }

  pub gives_none : CanRefute Σ (split_store below x X J n h A K) → GivesNone Σ W S below x X J n h A
  gives_none f Σ' e G w τ m = none Σ' e G w τ m f

  pub gives_case : (after : Store) (s : Solved Σ (split_store below x X J n h A K) after) → GivesCase Σ W S below C x X J n h A (solved_case C (n + arguments_count A) after s.well_formed.order)
  gives_case after s =
      let T : ℕ → Bool = families Σ ok in
      let sc : SelfContained Σ W T = all_declared Σ ok W typed in
      let aj : AreTypedItems Σ W P = split_items_typed Σ ok W typed below C.items tc.items x X at J n h A sh in
      let fam : AllFamiliesIn T (items_context P) = context_declared Σ ok (items_context P) (items_are_context Σ ok W typed P aj) in
      let σ : ℕ → Image = answer_values after s.well_formed.order in
      let O : List LfType = free_context (skeletons_of after.metavariables) s.well_formed.order in
      record {
        values = σ;
        typed_items = free_typed Σ W O (answer Σ ok W typed below T sc C.items tc.items x X at J n h A K sh aj fam C after s).0.context;
        is_instance = typed_instance Σ (free_variables O) P np σ (value_typed Σ ok W typed below T sc C.items tc.items x X at J n h A K sh aj fam C after s);
        keeps = λ Σ' e G w τ m. keeps Σ' e G w τ m after s;
        given = refl;
        local = refl;
        family = refl;
        arguments = refl;
      }

pub refuted_gives_none : RefutedGivesNone
refuted_gives_none Σ ok W typed below S C tc x X at J n h A sh nj K k f = gives_none Σ ok W typed below S C tc x X at J n h A sh nj K k f

pub solved_gives_case_beside : SolvedGivesCaseBeside
solved_gives_case_beside Σ ok W typed below S C tc x X at J n h A sh nj K k after s = gives_case Σ ok W typed below S C tc x X at J n h A sh nj K k after s

-- A split beside a set that holds the families of the variable's type.
module _ (Σ : Signature) (ok : IsSignature Σ) (W : List Block) (typed : AreTypedBlocks Σ W) (below : ℕ → ℕ → Bool) (test : (f : ℕ) → IsBelowTest Σ W (below f) f) (C : Case) (tc : IsTypedCase Σ W C) (q : AllQuantifiersAreBelow below (items_context C.items)) (x : ℕ) (Cs : List Case) (sp : IsRefutedSplit Σ W below C x Cs) where
  abbrev X : LfType
  X = sp.answered.type

  abbrev split_with : (B : LfType → Offer → Option Case → Type 0) → ((h : Offer) (found : Option Case) → Member h sp.answered.offers → HeadIsAnswered Σ below C x X h found → B X h found) → IsSplitBelow Σ W below B C x Cs
  split_with B g = record { answered = answered_by sp.answered g; takes_below = (answered_arguments_below Σ ok W typed below test C tc q x Cs sp.answered).0; arguments_below = (answered_arguments_below Σ ok W typed below test C tc q x Cs sp.answered).1 }

  pub head_split : (S : ℕ → Bool) → FamiliesIn S X → IsHeadSplit Σ W S below C x Cs
  head_split S f = record { split = split_with (HeadAnswer Σ W S below C x) one; families = f }
    where
      one : (h : Offer) (found : Option Case) → Member h sp.answered.offers → HeadIsAnswered Σ below C x X h found → HeadAnswer Σ W S below C x X h found
      one h None m a = gives_none Σ ok W typed below S C tc x X sp.answered.at h.items h.moved h.head h.type (sp.answered.are_offers.each h m) a.no_block a.kind a.of_family (sp.refuted h m a.kind a.of_family a.finds)
      one h (Some D) m a =
          let (after, s, e) = a.finds in
          subst (GivesCase Σ W S below C x X h.items h.moved h.head h.type) (sym e) (gives_case Σ ok W typed below S C tc x X sp.answered.at h.items h.moved h.head h.type (sp.answered.are_offers.each h m) a.no_block a.kind a.of_family after s)

  given_by : (h : Offer) (found : Option Case) → Member h sp.answered.offers → HeadIsAnswered Σ below C x X h found → HeadGives Σ W below C x X h found
  given_by h None m a = never_gives_no_case Σ ok W typed below C tc x X sp.answered.at h.items h.moved h.head h.type (sp.answered.are_offers.each h m) a.no_block a.kind a.finds
  given_by h (Some D) m a =
      let (after, s, e) = a.finds in
      subst (IsSplitBy Σ W below C x X h.items h.moved h.head h.type) (sym e) (solved_is_split Σ ok W typed below C tc x X sp.answered.at h.items h.moved h.head h.type (sp.answered.are_offers.each h m) a.no_block a.kind after s)

  pub refuted_cases : AreCasesOf Σ W below C x Cs
  refuted_cases = record {
    listed = split_with (HeadGives Σ W below C x) given_by;
    holds = λ S sc f. heads_split Σ ok W typed below (below_is_subordination Σ ok W typed below test) S sc C tc x Cs (head_split S f);
  }

pub refuted_split_is_answer : RefutedSplitIsAnswer
refuted_split_is_answer Σ ok W typed below test C tc q x Cs sp = refuted_cases Σ ok W typed below test C tc q x Cs sp

pub refuted_run_covers : RefutedRunCovers
refuted_run_covers Σ ok W typed below test ps goal n tg q r S b =
    head_splits_cover Σ ok W typed below (below_is_subordination Σ ok W typed below test) S b.self_contained ps goal n tg (other_run {Kept = λ D. IsTypedCase Σ W D × AllQuantifiersAreBelow below (items_context D.items)} (λ D k l. leaf_is_instance Σ ok W typed S ps D l) split (tg, q) r)
  where
    split : (D : Case) (Ds : List Case) → IsTypedCase Σ W D × AllQuantifiersAreBelow below (items_context D.items) → RefutesEachHead Σ W below goal D Ds → SplitsByHeads Σ W S below D Ds × ((E : Case) → Member E Ds → IsTypedCase Σ W E × AllQuantifiersAreBelow below (items_context E.items))
    split D Ds (t, k) (x, sp, f) =
        let hs : IsHeadSplit Σ W S below D x Ds = head_split Σ ok W typed below test D t k x Ds sp S (f S b) in
        ((x, hs), λ E m. (split_cases_typed Σ ok W S below D t x Ds hs E m, (answered_split_is_solved Σ ok W typed below test D t k x Ds sp.answered).1 E m))
