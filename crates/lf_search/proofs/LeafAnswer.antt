-- What is read off a leaf without equations is an answer of the goal; each closed answer is an instance of one.
use Rattle.std.proofs.Common.{◌≡◌, ℕ, ◌≤◌, ◌<◌, List, [], ◌∷◌, length, Option, Some, None, ◌⊎◌, inl, inr, refl, sym, ap, ap₂, ◌∙◌, subst, arith}
use Rattle.lf.proofs.Renaming.{substitute_renamed}
use Rattle.lf.proofs.TypeLaws.{substitute_renamed_type}
use Rattle.lf_unification.proofs.Eta.{rename_id_type}
use Rattle.lf_unification.proofs.Patterns.{moved_id}
use Rattle.lf_search.proofs.Dropping.{rename_all, rename_values, reordered_context, unrenamed}
use Rattle.lf.specs.Entries.{Entry, IsCanonicalSignature, signature_of}
use Rattle.lf.specs.Subordination.{Member}
use mathlib.Core.Path.{fun_ext}
use Rattle.lf.specs.Substitution.{Image, reduce, substitute}
use Rattle.lf.specs.Syntax.{LfType, Skeleton, Term, rename, rename_type}
use Rattle.lf.specs.Typing.{HasType, ImageHasType, IsContext, IsSignature, IsType, IsTypedRenaming, IsTypedSubstitution, Signature, TypeAt}
use Rattle.lf.proofs.Entries.{canonical_is_signature}
use Rattle.lf_unification.specs.Dependency.{IsDependencyOrder, IsListed, ListedMetavariable, free_context, values}
use Rattle.lf_unification.specs.OpenTyping.{IsInstance, ValueHasType, set_at, skeletons_of}
use Rattle.lf_unification.specs.PartialInstance.{IsFilling}
use Rattle.lf_unification.specs.Putting.{Unbound}
use Rattle.lf_unification.specs.Search.{Node, Pending, SearchesFrom, at_node, declared_constants}
use Rattle.lf_unification.specs.Solving.{IsWellFormed, ValuesAreBindings}
use Rattle.lf_unification.specs.Unifiers.{Binding, Solution}
use Rattle.lf_unification.proofs.Agree.{set_here}
use Rattle.lf_unification.proofs.AnswerIsGeneric.{Part, answer_images, part}
use Rattle.lf_unification.proofs.DeclaredConstants.{declared_listed}
use Rattle.lf_unification.proofs.Exhaust.{Found, exhausted}
use Rattle.lf_unification.proofs.Filling.{substituted_option}
use Rattle.lf_unification.proofs.Offer.{decide, set_other}
use Rattle.lf_unification.proofs.Solving.{listed_binding, listed_once, well_formed_answer}
use Rattle.lf_unification.proofs.Sound.{From, from_itself, leaves_form, run_from}
use Rattle.lf_unification.proofs.StepLemmas.{value_of}
use Rattle.lf_search.specs.Answers.{AreTypedValues, AreValuesOf, FreeAreUnbound, IsAnswerOf, IsInstanceOfAnswer, IsReadOffLeaf, substitute_all}
use Rattle.lf_search.specs.Goals.{metavariables_of, over_metavariables, root_of}
use Rattle.lf_search.proofs.FilledGoal.{Begins, begins_before, begins_newest, filled_goal, instance_values}
use Rattle.lf_search.proofs.QueryForm.{declared_before, root_form, root_node}
use Rattle.lf_search.proofs.WholeOrder.{Dropped, all_of, dropped, whole_answer}

some_is : {A : Type 0} {x y : A} → Some x ≡ Some y → x ≡ y
some_is e = cc

none_is : {A : Type 0} {x : A} → None ≡ Some x → ⊥
none_is e = cc

-- values as a filling
abbrev pub filling_of : List LfType → List Term → ℕ → Option Term
filling_of [] Ms m = None
filling_of (A ∷ G) [] m = None
filling_of (A ∷ G) (M ∷ Ms) m = set_at (length G) (Some M) (filling_of G Ms) m

module _ (Σ : Signature) where
  same_values : (G : List LfType) (Ms : List Term) (β γ : ℕ → Option Term) → ((m : ℕ) → m < length G → γ m ≡ β m) → AreValuesOf β G Ms → AreValuesOf γ G Ms
  same_values [] [] β γ h v = tt
  same_values [] (M ∷ Ms) β γ h v = absurd v
  same_values (A ∷ G) [] β γ h v = absurd v
  same_values (A ∷ G) (M ∷ Ms) β γ h (e, v) = (h (length G) (omega arith) ∙ e, same_values G Ms β γ (λ m l. h m (omega arith)) v)

  pub filling_values : (F G : List LfType) (Ms : List Term) → AreTypedValues Σ F G Ms → AreValuesOf (filling_of G Ms) G Ms
  filling_values F [] [] v = tt
  filling_values F [] (M ∷ Ms) v = absurd v
  filling_values F (A ∷ G) [] v = absurd v
  filling_values F (A ∷ G) (M ∷ Ms) (v, m) = (set_here (length G) (Some M) (filling_of G Ms), same_values G Ms (filling_of G Ms) (set_at (length G) (Some M) (filling_of G Ms)) (λ k l. set_other (length G) (Some M) (filling_of G Ms) k (λ e. omega arith)) (filling_values F G Ms v))

  -- it is typed
  module _ (Ψ : ℕ → Option LfType) (β : ℕ → Option Term) (F : List LfType) where
    filling_typed : (G : List LfType) (Ms : List Term) → IsContext Σ G → Begins Ψ β G → AreValuesOf β G Ms → AreTypedValues Σ F G Ms → (m : ℕ) → ValueHasType Σ F (skeletons_of Ψ) β (metavariables_of G m) (filling_of G Ms m)
    filling_typed [] [] c h v t m = tt
    filling_typed [] (M ∷ Ms) c h v t m = absurd v
    filling_typed (A ∷ G) [] c h v t m = absurd v
    filling_typed (A ∷ G) (M ∷ Ms) (c, a) h (e, v) (t, n) m = go (decide m (length G)) (filling_typed G Ms c (begins_before Ψ β A G h) v t m)
      where
        go : (m ≡ length G) ⊎ (m ≡ length G → ⊥) → ValueHasType Σ F (skeletons_of Ψ) β (metavariables_of G m) (filling_of G Ms m) → ValueHasType Σ F (skeletons_of Ψ) β (set_at (length G) (Some (over_metavariables G A)) (metavariables_of G) m) (set_at (length G) (Some M) (filling_of G Ms) m)
        go (inl q) w = subst (λ k. ValueHasType Σ F (skeletons_of Ψ) β (set_at (length G) (Some (over_metavariables G A)) (metavariables_of G) k) (set_at (length G) (Some M) (filling_of G Ms) k)) (sym q)
            (subst (λ y. ValueHasType Σ F (skeletons_of Ψ) β y (set_at (length G) (Some M) (filling_of G Ms) (length G))) (sym (set_here (length G) (Some (over_metavariables G A)) (metavariables_of G)))
            (subst (ValueHasType Σ F (skeletons_of Ψ) β (Some (over_metavariables G A))) (sym (set_here (length G) (Some M) (filling_of G Ms)))
            (subst (HasType Σ F M) (sym (filled_goal Ψ β Σ G Ms A (begins_before Ψ β A G h) v a)) n)))
        go (inr q) w = subst (λ y. ValueHasType Σ F (skeletons_of Ψ) β y (set_at (length G) (Some M) (filling_of G Ms) m)) (sym (set_other (length G) (Some (over_metavariables G A)) (metavariables_of G) m q))
            (subst (ValueHasType Σ F (skeletons_of Ψ) β (metavariables_of G m)) (sym (set_other (length G) (Some M) (filling_of G Ms) m q)) w)

module _ (entries : List Entry) (canonical : IsCanonicalSignature entries) (G : List LfType) (A : LfType) (c : IsContext (signature_of entries) G) (t : IsType (signature_of entries) G A) where
  abbrev Σ : Signature
  Σ = signature_of entries

  ok : IsSignature (signature_of entries)
  ok = canonical_is_signature entries canonical

  module _ (leaves : List Node) (tries : ℕ) (agenda : List Pending) (run : SearchesFrom entries (at_node (root_of G A) ∷ []) leaves tries agenda) (l : Node) (among : Member l leaves) (none : l.store.equations ≡ []) where
    abbrev Ψ : ℕ → Option LfType
    Ψ = l.store.metavariables

    abbrev μ : ℕ → Skeleton
    μ = skeletons_of l.store.metavariables

    form : IsWellFormed (signature_of entries) l.store
    form = (leaves_form (signature_of entries) (declared_constants entries) run (root_form (signature_of entries) ok G A c t, tt)).0 l among

    comes_from : From (signature_of entries) (declared_constants entries) (root_of G A) l
    comes_from = (run_from (signature_of entries) (declared_constants entries) run (root_of G A) (from_itself (signature_of entries) (declared_constants entries) (root_of G A) (root_node (signature_of entries) ok G A c t), tt)).0 l among

    begins : (β : ℕ → Option Term) → Begins l.store.metavariables β (A ∷ G)
    begins β m X e = comes_from.grows m X e

    -- what is read off in an order of dependency is typed
    module _ (is : List ListedMetavariable) (o : IsDependencyOrder (signature_of entries) l.store.metavariables (IsFilling (signature_of entries) [] l.store) is) (listed : (m : ℕ) → m ≤ length G → IsListed is m) (bound : ValuesAreBindings l.store.bindings is) (free : FreeAreUnbound l.store.bindings is)
        (Ns : List Term) (known : AreValuesOf (values (skeletons_of l.store.metavariables) is) (A ∷ G) Ns) where
      abbrev all : List ListedMetavariable
      all = all_of (signature_of entries) ok l.store form none is o bound free

      first_context : Dropped is (signature_of entries) ok (skeletons_of l.store.metavariables) (A ∷ G) (c, t) Ns (λ m h. listed m (omega arith)) known (all_of (signature_of entries) ok l.store form none is o bound free)
      first_context = dropped is (signature_of entries) ok (skeletons_of l.store.metavariables) (A ∷ G) (c, t) Ns (λ m h. listed m (omega arith)) known form.order

      whole : Solution (signature_of entries) [] l.store (free_context (skeletons_of l.store.metavariables) (all_of (signature_of entries) ok l.store form none is o bound free)) (values (skeletons_of l.store.metavariables) (all_of (signature_of entries) ok l.store form none is o bound free))
      whole = whole_answer (signature_of entries) ok l.store form none is o bound free

      order_context : IsContext (signature_of entries) (free_context (skeletons_of l.store.metavariables) is)
      order_context = first_context.back_context whole.0.context

      order_values : AreTypedValues (signature_of entries) (free_context (skeletons_of l.store.metavariables) is) (A ∷ G) Ns
      order_values = first_context.back_values (instance_values (signature_of entries) l.store.metavariables (free_context (skeletons_of l.store.metavariables) (all_of (signature_of entries) ok l.store form none is o bound free))
          (values (skeletons_of l.store.metavariables) (all_of (signature_of entries) ok l.store form none is o bound free)) whole.0 (A ∷ G) first_context.long_values (c, t) (begins (values (skeletons_of l.store.metavariables) (all_of (signature_of entries) ok l.store form none is o bound free))) first_context.are_values)

    -- so what is read off is an answer
    pub leaf_answer : (F : List LfType) (Ms : List Term) (proof : Term) → IsReadOffLeaf (signature_of entries) G l F Ms proof → IsAnswerOf (signature_of entries) G A F Ms proof
    leaf_answer F Ms proof r = go (unrenamed r.there (values (skeletons_of l.store.metavariables) r.order) (A ∷ G) (proof ∷ Ms) (r.proof_of, r.values_of))
      where
        go : (Ns : List Term) × AreValuesOf (values (skeletons_of l.store.metavariables) r.order) (A ∷ G) Ns × (proof ∷ Ms ≡ rename_all r.there Ns) → IsAnswerOf (signature_of entries) G A F Ms proof
        go (Ns, known, e) =
            let F₀ : List LfType = free_context (skeletons_of l.store.metavariables) r.order in
            let moved_values : AreTypedValues (signature_of entries) F (A ∷ G) (rename_all r.there Ns) = rename_values (signature_of entries) ok F₀ F r.there r.reordered.there (A ∷ G) Ns (c, t) (order_values r.order r.is_order r.all_listed r.values_bound r.free_unbound Ns known) in
            let typed : AreTypedValues (signature_of entries) F (A ∷ G) (proof ∷ Ms) = subst (AreTypedValues (signature_of entries) F (A ∷ G)) (sym e) moved_values in
            record {
              context = reordered_context (signature_of entries) ok F₀ F r.there r.back r.reordered (order_context r.order r.is_order r.all_listed r.values_bound r.free_unbound Ns known);
              values_typed = typed.0;
              proves = typed.1;
            }

    -- something can be read off
    bound_or_not : (bs : List Binding) (m : ℕ) → Unbound bs m ⊎ ((b : Binding) × Member b bs × (m ≡ b.of))
    bound_or_not [] m = inl tt
    bound_or_not (b ∷ bs) m = go (decide m b.of) (bound_or_not bs m)
      where
        go : (m ≡ b.of) ⊎ (m ≡ b.of → ⊥) → Unbound bs m ⊎ ((x : Binding) × Member x bs × (m ≡ x.of)) → Unbound (b ∷ bs) m ⊎ ((x : Binding) × Member x (b ∷ bs) × (m ≡ x.of))
        go (inl e) r = inr (b, inl refl, e)
        go (inr n) (inl u) = inl (n, u)
        go (inr n) (inr (x, i, e)) = inr (x, inr i, e)

    free_are_unbound : (is : List ListedMetavariable) → ((it : ListedMetavariable) → Member it is → Member it form.order) → FreeAreUnbound l.store.bindings is
    free_are_unbound [] h = tt
    free_are_unbound (it ∷ is) h = ((λ q. go q (bound_or_not l.store.bindings it.of)), free_are_unbound is (λ x i. h x (inr i)))
      where
        go : it.value ≡ None → Unbound l.store.bindings it.of ⊎ ((b : Binding) × Member b l.store.bindings × (it.of ≡ b.of)) → Unbound l.store.bindings it.of
        go q (inl u) = u
        go q (inr (b, i, e)) =
            let (X, j) = listed_binding form.order l.store.bindings form.bindings_listed b i in
            let same : it.value ≡ Some b.value = ap (λ (x : ListedMetavariable). x.value) (listed_once (signature_of entries) l.store.metavariables (IsFilling (signature_of entries) [] l.store) form.order form.is_order it (record { of = b.of; of_type = X; value = Some b.value }) (h it (inl refl)) j e) in
            absurd (none_is (sym q ∙ same))

    read_values : (F : List LfType) (β : ℕ → Option Term) → IsInstance (signature_of entries) [] l.store.metavariables F β → (E : List LfType) → Begins l.store.metavariables β E → (Ms : List Term) × AreValuesOf β E Ms
    read_values F β inst [] h = ([], tt)
    read_values F β inst (X ∷ E) h =
        let (Ms, v) = read_values F β inst E (begins_before l.store.metavariables β X E h) in
        let (M, e, m) = value_of (signature_of entries) [] l.store.metavariables F β inst (length E) (over_metavariables E X) (begins_newest l.store.metavariables β X E h) in
        (M ∷ Ms, (e, v))

    same_place : (F : List LfType) → IsTypedRenaming F F (λ i. i)
    same_place F i X g = subst (TypeAt F i) (sym (rename_id_type X)) g

    pub leaf_is_read : (F : List LfType) × (Ms : List Term) × (proof : Term) × IsReadOffLeaf (signature_of entries) G l F Ms proof
    leaf_is_read = go (read_values (free_context (skeletons_of l.store.metavariables) form.order) (values (skeletons_of l.store.metavariables) form.order) whole.0 (A ∷ G) (begins (values (skeletons_of l.store.metavariables) form.order)))
      where
        whole : Solution (signature_of entries) [] l.store (free_context (skeletons_of l.store.metavariables) form.order) (values (skeletons_of l.store.metavariables) form.order)
        whole = well_formed_answer (signature_of entries) ok l.store form none

        listed : (E : List LfType) → Begins l.store.metavariables (values (skeletons_of l.store.metavariables) form.order) E → (m : ℕ) → m < length E → IsListed form.order m
        listed [] h m i = absurd (omega arith)
        listed (X ∷ E) h m i = at (decide m (length E)) (listed E (begins_before l.store.metavariables (values (skeletons_of l.store.metavariables) form.order) X E h) m)
          where
            at : (m ≡ length E) ⊎ (m ≡ length E → ⊥) → (m < length E → IsListed form.order m) → IsListed form.order m
            at (inl q) older = subst (IsListed form.order) (sym q) (form.all_listed (length E) (over_metavariables E X) (begins_newest l.store.metavariables (values (skeletons_of l.store.metavariables) form.order) X E h))
            at (inr q) older = older (omega arith)

        go : (Ns : List Term) × AreValuesOf (values (skeletons_of l.store.metavariables) form.order) (A ∷ G) Ns → (F : List LfType) × (Ms : List Term) × (proof : Term) × IsReadOffLeaf (signature_of entries) G l F Ms proof
        go ([], v) = absurd v
        go (proof ∷ Ms, (e, v)) = (
          free_context (skeletons_of l.store.metavariables) form.order,
          Ms,
          proof,
          record {
            order = form.order;
            is_order = form.is_order;
            all_listed = λ m h. listed (A ∷ G) (begins (values (skeletons_of l.store.metavariables) form.order)) m (omega arith);
            values_bound = form.values_bound;
            free_unbound = free_are_unbound form.order (λ it i. i);
            there = λ i. i;
            back = λ i. i;
            reordered = record { there = same_place (free_context (skeletons_of l.store.metavariables) form.order); back = same_place (free_context (skeletons_of l.store.metavariables) form.order); there_and_back = λ i. refl; back_and_there = λ i. refl };
            values_of = subst (λ γ. AreValuesOf γ G Ms) (sym (moved_id (values (skeletons_of l.store.metavariables) form.order))) v;
            proof_of = ap (λ γ. γ (length G)) (moved_id (values (skeletons_of l.store.metavariables) form.order)) ∙ e;
          },
        )

    -- a closed typed unifier of the leaf is an instance of what is read off
    leaf_instance : (β : ℕ → Option Term) → Solution (signature_of entries) [] l.store [] β → (Ns : List Term) (closed : Term) → AreValuesOf β (A ∷ G) (closed ∷ Ns) → (F : List LfType) (Ms : List Term) (proof : Term) → IsReadOffLeaf (signature_of entries) G l F Ms proof →
        IsInstanceOfAnswer (signature_of entries) F Ms proof Ns closed
    leaf_instance β sol Ns closed known F Ms proof r = go (unrenamed r.there (values (skeletons_of l.store.metavariables) r.order) (A ∷ G) (proof ∷ Ms) (r.proof_of, r.values_of))
      where
        p : Part (signature_of entries) ok l.store.metavariables (IsFilling (signature_of entries) [] l.store) [] β sol.0 l.store.bindings sol.1.0 r.order
        p = part (signature_of entries) ok l.store.metavariables (IsFilling (signature_of entries) [] l.store) [] β sol.0 l.store.bindings sol.1.0 r.order r.is_order r.values_bound

        σ : ℕ → Image
        σ = answer_images (signature_of entries) ok l.store.metavariables (IsFilling (signature_of entries) [] l.store) [] β sol.0 l.store.bindings sol.1.0 r.order

        -- in the context as it is
        σ' : ℕ → Image
        σ' j = answer_images (signature_of entries) ok l.store.metavariables (IsFilling (signature_of entries) [] l.store) [] β sol.0 l.store.bindings sol.1.0 r.order (r.back j)

        moved_back : (M : Term) → substitute reduce σ M ≡ substitute reduce σ' (rename r.there M)
        moved_back M = ap (λ f. substitute reduce f M) (fun_ext (λ i. ap (answer_images (signature_of entries) ok l.store.metavariables (IsFilling (signature_of entries) [] l.store) [] β sol.0 l.store.bindings sol.1.0 r.order) (sym (r.reordered.there_and_back i))))
            ∙ sym (substitute_renamed reduce σ' r.there M)

        typed : IsTypedSubstitution (signature_of entries) F [] σ'
        typed i X g = subst (ImageHasType (signature_of entries) [] (σ' i)) (substitute_renamed_type reduce σ r.back X) (p.typed (r.back i) (rename_type r.back X) (r.reordered.back i X g))

        all_same : (E : List LfType) (Ns Ks : List Term) → ((m : ℕ) → m < length E → IsListed r.order m) → AreValuesOf β E Ns → AreValuesOf (values (skeletons_of l.store.metavariables) r.order) E Ks → Ns ≡ substitute_all σ' (rename_all r.there Ks)
        all_same [] [] [] h v w = refl
        all_same [] [] (M ∷ Ms) h v w = absurd w
        all_same [] (N ∷ Ns) Ms h v w = absurd v
        all_same (X ∷ E) [] Ms h v w = absurd v
        all_same (X ∷ E) (N ∷ Ns) [] h v w = absurd w
        all_same (X ∷ E) (N ∷ Ns) (M ∷ Ms) h (f, v) (g, w) = ap₂ ◌∷◌ (some_is (sym f ∙ p.same (length E) (h (length E) (omega arith)) ∙ ap (substituted_option σ) g) ∙ moved_back M) (all_same E Ns Ms (λ m i. h m (omega arith)) v w)

        tail_is : {M N : Term} {Ms Ns : List Term} → M ∷ Ms ≡ N ∷ Ns → Ms ≡ Ns
        tail_is q = cc

        head_is : {M N : Term} {Ms Ns : List Term} → M ∷ Ms ≡ N ∷ Ns → M ≡ N
        head_is q = cc

        go : (Ks : List Term) × AreValuesOf (values (skeletons_of l.store.metavariables) r.order) (A ∷ G) Ks × (proof ∷ Ms ≡ rename_all r.there Ks) → IsInstanceOfAnswer (signature_of entries) F Ms proof Ns closed
        go (Ks, w, e) =
            let same : closed ∷ Ns ≡ substitute_all σ' (proof ∷ Ms) = all_same (A ∷ G) (closed ∷ Ns) Ks (λ m h. r.all_listed m (omega arith)) known w ∙ ap (substitute_all σ') (sym e) in
            record { free_values = σ'; typed = typed; same_values = tail_is same; same_proof = head_is same }

  -- THE theorem on closed answers
  pub closed_is_found : (leaves : List Node) (tries : ℕ) (run : SearchesFrom entries (at_node (root_of G A) ∷ []) leaves tries []) → ((l : Node) → Member l leaves → l.store.equations ≡ []) → (Ns : List Term) (closed : Term) → IsAnswerOf (signature_of entries) G A [] Ns closed →
      (l : Node) × Member l leaves × ((F : List LfType) (Ms : List Term) (proof : Term) → IsReadOffLeaf (signature_of entries) G l F Ms proof → IsInstanceOfAnswer (signature_of entries) F Ms proof Ns closed)
  closed_is_found leaves tries run all Ns closed a = (found.at, found.among, λ F Ms proof r. leaf_instance leaves tries [] run found.at found.among (all found.at found.among) found.value found.solution Ns closed values_there F Ms proof r)
    where
      β : ℕ → Option Term
      β = filling_of (A ∷ G) (closed ∷ Ns)

      typed_values : AreTypedValues (signature_of entries) [] (A ∷ G) (closed ∷ Ns)
      typed_values = (a.values_typed, a.proves)

      are_values : AreValuesOf (filling_of (A ∷ G) (closed ∷ Ns)) (A ∷ G) (closed ∷ Ns)
      are_values = filling_values (signature_of entries) [] (A ∷ G) (closed ∷ Ns) typed_values

      inst : IsInstance (signature_of entries) [] (metavariables_of (A ∷ G)) [] (filling_of (A ∷ G) (closed ∷ Ns))
      inst = record {
        context = a.context;
        outer = λ i X g. absurd g;
        typed = filling_typed (signature_of entries) (metavariables_of (A ∷ G)) (filling_of (A ∷ G) (closed ∷ Ns)) [] (A ∷ G) (closed ∷ Ns) (c, t) (λ m X e. e) are_values typed_values;
      }

      found : Found (signature_of entries) ok (declared_constants entries) (declared_listed entries) (root_of G A) (filling_of (A ∷ G) (closed ∷ Ns)) leaves
      found = exhausted (signature_of entries) ok (declared_constants entries) (declared_listed entries) run (root_node (signature_of entries) ok G A c t) (filling_of (A ∷ G) (closed ∷ Ns)) (inst, (tt, tt))

      same_there : (E : List LfType) (Ms : List Term) → ((m : ℕ) (X : LfType) → metavariables_of E m ≡ Some X → found.value m ≡ filling_of (A ∷ G) (closed ∷ Ns) m) → AreValuesOf (filling_of (A ∷ G) (closed ∷ Ns)) E Ms → AreValuesOf found.value E Ms
      same_there [] [] h v = tt
      same_there [] (M ∷ Ms) h v = absurd v
      same_there (X ∷ E) [] h v = absurd v
      same_there (X ∷ E) (M ∷ Ms) h (e, v) = (
        h (length E) (over_metavariables E X) (set_here (length E) (Some (over_metavariables E X)) (metavariables_of E)) ∙ e,
        same_there E Ms (λ m Y f. h m Y (declared_before X E m Y f)) v,
      )

      values_there : AreValuesOf found.value (A ∷ G) (closed ∷ Ns)
      values_there = same_there (A ∷ G) (closed ∷ Ns) found.extends are_values
