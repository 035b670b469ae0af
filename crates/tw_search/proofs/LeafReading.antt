-- What is read off a leaf is what the theory reads off it.
use Rattle.std.proofs.Common.{◌≡◌, ℕ, zero, suc, ◌<◌, ◌≤◌, List, [], ◌∷◌, ◌++◌, Bool, false, true, length, Option, Some, None, Result, Err, ◌⊎◌, inl, inr, refl, sym, ap, ap₂, ◌∙◌, subst, arith}
use Rattle.std.specs.Prelude.{◌||◌}
use Rattle.lf.specs.Depth.{depth_limit}
use Rattle.lf.specs.Eta.{add_last, eta_expand}
use Rattle.lf.specs.Subordination.{Member}
use Rattle.lf.specs.Syntax.{Head, LfType, Skeleton, Spine, Term, app, arrow, base, constant, lambda, lift_renaming, metavariable, nil, rename, rename_head, rename_spine, root, skeleton, variable}
use Rattle.lf.proofs.Eta.{rename_eta_expand}
use Rattle.lf_elaboration.specs.Principal as principal
use Rattle.lf_search.specs.Answers.{AreValuesOf, FreeAreUnbound, IsReadOffLeaf}
use Rattle.lf_search.specs.Coming.{AnswerIsDeep, deep_free, deep_own, deep_value}
use Rattle.lf_unification.specs.Dependency.{ListedMetavariable, free_context, values}
use Rattle.lf_unification.specs.Filling.{fill, moved, rename_value}
use Rattle.lf_unification.specs.OpenTyping.{OpenHasType, skeletons_of}
use Rattle.lf_unification.specs.PartialInstance.{IsFilling}
use Rattle.lf_unification.specs.Patterns.{eta_variable}
use Rattle.lf_unification.specs.Putting.{Unbound}
use Rattle.lf_unification.specs.Skeletons.{skeleton_or_default}
use Rattle.lf_unification.specs.Unifiers.{Binding, BindingsAreTyped, Respects}
use Rattle.lf_unification.proofs.Offer.{decide}
use Rattle.lf_unification.proofs.Solving.{listed_binding, listed_once, well_formed_answer}
use Rattle.tw_abstract.specs.Causes.{BlamesQuantifiers}
use Rattle.tw_abstract.specs.Free.{free_metavariables}
use Rattle.tw_abstract.specs.Positions.{index}
use Rattle.tw_abstract.specs.Quantifiers.{AreQuantifiers}
use Rattle.tw_abstract.specs.Reading.{IsSettled, TermStands}
use Rattle.tw_abstract.specs.Reordered.{TakesIndices}
use Rattle.tw_abstract.proofs.Contexts.{quantifiers_law, reading_law}
use Rattle.tw_abstract.proofs.Free.{free_variable}
use Rattle.tw_abstract.proofs.Members.{found_unbound}
use Rattle.tw_hered.specs.declared.fault.HeredFault.TheVariants.{TooDeep}
use Rattle.tw_metas.specs.State.{State, value_of}
use Rattle.tw_putting.specs.Closed.{has_metavariable, has_metavariable_in_spine, is_metavariable}
use Rattle.tw_putting.specs.Stores.{bindings_of, types_of}
use Rattle.tw_putting.specs.Whole.{whole}
use Rattle.std.specs.Option.{MatchOption}
use Rattle.tw_terms.specs.View.{term_of}
use Rattle.tw_terms.specs.declared.canonical.Term.{Term as ClosedTerm}
use Rattle.tw_putting.proofs.ForCallers.{deep_term, deep_type}
use Rattle.tw_putting.proofs.HeadValues.{stays_unbound}
use Rattle.tw_putting.proofs.Views.{binding_of_value}
use Rattle.tw_search.specs.Answers.{IsIfRead}
use Rattle.tw_search.specs.Goals.{IsDeclared, node_of}
use Rattle.tw_search.specs.Leaves.{AreValuesRead, IsFromQuery, IsLeaf, IsProofRead, IsValueRead, ValueIsDeep, ValueIsRead, below, sites_of}

-- no metavariable stands in an eta-long variable
plain_head : (ρ : ℕ → ℕ) (h : Head) → is_metavariable (rename_head ρ h) ≡ is_metavariable h
plain_head ρ (constant c) = refl
plain_head ρ (variable i) = refl
plain_head ρ (metavariable m) = refl

mutual
  plain_renamed : (ρ : ℕ → ℕ) (M : Term) → has_metavariable (rename ρ M) ≡ has_metavariable M
  plain_renamed ρ (lambda M) = plain_renamed (lift_renaming ρ) M
  plain_renamed ρ (root (constant c) S) = ap (λ b. false || b) (plain_renamed_spine ρ S)
  plain_renamed ρ (root (variable i) S) = ap (λ b. false || b) (plain_renamed_spine ρ S)
  plain_renamed ρ (root (metavariable m) S) = ap (λ b. true || b) (plain_renamed_spine ρ S)

  plain_renamed_spine : (ρ : ℕ → ℕ) (S : Spine) → has_metavariable_in_spine (rename_spine ρ S) ≡ has_metavariable_in_spine S
  plain_renamed_spine ρ nil = refl
  plain_renamed_spine ρ (app M S) = ap₂ (λ a b. a || b) (plain_renamed ρ M) (plain_renamed_spine ρ S)

both_plain : (a b : Bool) → a ≡ false → b ≡ false → (a || b) ≡ false
both_plain a b e f = ap₂ (λ x y. x || y) e f

first_plain : (a b : Bool) → (a || b) ≡ false → a ≡ false
first_plain true b e = e
first_plain false b e = refl

second_plain : (a b : Bool) → (a || b) ≡ false → b ≡ false
second_plain true b e = (let no : true ≡ false = e in absurd cc)
second_plain false b e = e

plain_last : (S : Spine) (M : Term) → has_metavariable_in_spine S ≡ false → has_metavariable M ≡ false → has_metavariable_in_spine (add_last S M) ≡ false
plain_last nil M s m = both_plain (has_metavariable M) false m refl
plain_last (app N S) M s m = both_plain (has_metavariable N) (has_metavariable_in_spine (add_last S M)) (first_plain (has_metavariable N) (has_metavariable_in_spine S) s) (plain_last S M (second_plain (has_metavariable N) (has_metavariable_in_spine S) s) m)

plain_eta : (a : Skeleton) (h : Head) (S : Spine) → is_metavariable h ≡ false → has_metavariable_in_spine S ≡ false → has_metavariable (eta_expand a h S) ≡ false
plain_eta (base c) h S e s = both_plain (is_metavariable h) (has_metavariable_in_spine S) e s
plain_eta (arrow a b) h S e s = plain_eta b (rename_head suc h) (add_last (rename_spine suc S) (eta_expand a (variable zero) nil)) (plain_head suc h ∙ e)
    (plain_last (rename_spine suc S) (eta_expand a (variable zero) nil) (plain_renamed_spine suc S ∙ s) (plain_eta a (variable zero) nil refl refl))

pub plain_variable : (a : Skeleton) (i : ℕ) → has_metavariable (eta_variable a i) ≡ false
plain_variable a i = plain_eta a (variable i) nil refl refl

-- the store of a leaf
module _ (s : State) (n : ℕ) (l : IsLeaf s n) where
  pub settled : IsSettled s
  settled = record { signature = l.signature; is_signature = l.is_signature; ready = l.ready }

  typed_at : (bs : List Binding) → BindingsAreTyped l.signature [] (types_of s) (IsFilling l.signature [] (whole [] s)) bs → (b : Binding) → Member b bs → (A : LfType) × (types_of s b.of ≡ Some A) × OpenHasType l.signature [] (types_of s) (IsFilling l.signature [] (whole [] s)) [] b.value A
  typed_at [] t b i = absurd i
  typed_at (c ∷ cs) (t, ts) b (inl e) = subst (λ (x : Binding). (A : LfType) × (types_of s x.of ≡ Some A) × OpenHasType l.signature [] (types_of s) (IsFilling l.signature [] (whole [] s)) [] x.value A) (sym e) t
  typed_at (c ∷ cs) (t, ts) b (inr i) = typed_at cs ts b i

  is_bound : (m : ℕ) (N : Term) → value_of s m ≡ Some N → Member (record { of = m; value = N }) (bindings_of s)
  is_bound m N e = binding_of_value s.bound s.values m N (l.ready.consistent.values_are_bound m N e) e

  pub value_typed : (m : ℕ) (N : Term) → value_of s m ≡ Some N → (A : LfType) × (types_of s m ≡ Some A) × OpenHasType l.signature [] (types_of s) (IsFilling l.signature [] (whole [] s)) [] N A
  value_typed m N e = typed_at (bindings_of s) l.ready.well_formed.typed.bindings_typed (record { of = m; value = N }) (is_bound m N e)

  pub value_stands : (m : ℕ) (N : Term) → Some N ≡ value_of s m → TermStands s 0 N
  value_stands m N e = let (A, d, t) = value_typed m N (sym e) in record { settled = record { signature = l.signature; is_signature = l.is_signature; ready = l.ready }; local = []; of_type = A; same = refl; typed = t }

  -- what is too deep
  value_deep : (G : List LfType) → length G ≡ n → (m : ℕ) → m ≤ n → ValueIsDeep s m → AnswerIsDeep depth_limit G (whole [] s)
  value_deep G c m h (N, e, d) = deep_value (record { of = m; value = N }) (is_bound m N e) (subst (λ k. m ≤ k) (sym c) h) (deep_term s 0 N d)

  pub answer_value_deep : (G : List LfType) → length G ≡ n → (m : ℕ) → m ≤ n → ValueIsDeep s m → AnswerIsDeep depth_limit G (whole [] s)
  answer_value_deep = value_deep

  last_or_not : (xs : List ℕ) (k m : ℕ) → Member m (xs ++ k ∷ []) → Member m xs ⊎ (m ≡ k)
  last_or_not [] k m (inl e) = inr e
  last_or_not [] k m (inr j) = absurd j
  last_or_not (x ∷ xs) k m (inl e) = inl (inl e)
  last_or_not (x ∷ xs) k m (inr j) = elim (last_or_not xs k m j) [ inl p ↦ inl (inr p) | inr q ↦ inr q ]

  below_within : (k m : ℕ) → Member m (below k) → m < k
  below_within zero m i = absurd i
  below_within (suc k) m i = go (below_within k m) (last_or_not (below k) k m i)
    where
      go : (Member m (below k) → m < k) → Member m (below k) ⊎ (m ≡ k) → m < suc k
      go f (inl j) = let h = f j in omega (arith, h)
      go f (inr e) = omega (arith, e)

  site_within : (b : Bool) (m : ℕ) → Member m (sites_of n b) → m ≤ n
  site_within true m i = let h : m < suc n = below_within (suc n) m i in omega (arith, h)
  site_within false m i = let h : m < n = below_within n m i in omega (arith, h)

  pub quantifiers_deep : (G : List LfType) → length G ≡ n → (sites : List ℕ) (b : Bool) → sites ≡ sites_of n b → BlamesQuantifiers TooDeep s sites → AnswerIsDeep depth_limit G (whole [] s)
  quantifiers_deep G c sites b q (inl (m, N, i, e, d)) = value_deep G c m (site_within b m (subst (Member m) q i)) (N, e, d)
  quantifiers_deep G c sites b q (inr (found, f, (m, A, i, e, d))) = go (l.reached m (A, e))
    where
      free : Unbound (bindings_of s) m
      free = found_unbound s sites found f m i

      go : IsFromQuery s n m → AnswerIsDeep depth_limit G (whole [] s)
      go (inl h) = deep_own m A (subst (λ k. m ≤ k) (sym c) h) free e (deep_type s 0 A d)
      go (inr (b, j, h, r)) = deep_free b m A j (subst (λ k. b.of ≤ k) (sym c) h) r free e (deep_type s 0 A d)

  -- what is read off
  module _ (sites ms : List ℕ) (F : List LfType) (qs : AreQuantifiers s sites ms F) where
    pub order : (ρ ρ' : ℕ → ℕ) × principal.IsReordering (free_context (skeletons_of (types_of s)) l.ready.well_formed.order) F ρ ρ' × TakesIndices (index (free_metavariables l.ready.well_formed.order)) (index ms) ρ
    order = quantifiers_law l.signature l.is_signature s l.ready l.ready.well_formed sites ms F qs

    -- a free metavariable has a variable
    pub has_index : (m : ℕ) → IsDeclared s m → value_of s m ≡ None → (i : ℕ) × (index ms m ≡ Some (order.0 i)) × (values (skeletons_of (types_of s)) l.ready.well_formed.order m ≡ Some (eta_variable (skeletons_of (types_of s) m) i))
    has_index m (A, d) e =
        let (i, x, v) = free_variable l.signature (types_of s) (IsFilling l.signature [] (whole [] s)) (bindings_of s) l.ready.well_formed.order l.ready.well_formed.is_order l.ready.well_formed.values_bound m (l.ready.well_formed.all_listed m A d) (stays_unbound s (root (metavariable m) nil) m nil refl e) in
        (i, order.3 m i x, v)

    respects : Respects (skeletons_of (types_of s)) (values (skeletons_of (types_of s)) l.ready.well_formed.order) (bindings_of s)
    respects = (well_formed_answer l.signature l.is_signature (whole [] s) l.ready.well_formed l.none_left).1.0

    respected : (bs : List Binding) → Respects (skeletons_of (types_of s)) (values (skeletons_of (types_of s)) l.ready.well_formed.order) bs → (b : Binding) → Member b bs → values (skeletons_of (types_of s)) l.ready.well_formed.order b.of ≡ Some (fill (skeletons_of (types_of s)) (values (skeletons_of (types_of s)) l.ready.well_formed.order) b.value)
    respected [] r b i = absurd i
    respected (c ∷ cs) (r, rs) b (inl e) = subst (λ (x : Binding). values (skeletons_of (types_of s)) l.ready.well_formed.order x.of ≡ Some (fill (skeletons_of (types_of s)) (values (skeletons_of (types_of s)) l.ready.well_formed.order) x.value)) (sym e) r
    respected (c ∷ cs) (r, rs) b (inr i) = respected cs rs b i

    -- the value that is read is the theory's, renamed
    value_is : (m : ℕ) → IsDeclared s m → (v : Option Term) → value_of s m ≡ v → (M : Term) → ValueIsRead s ms m v M → moved order.0 (values (skeletons_of (types_of s)) l.ready.well_formed.order) m ≡ Some M
    value_is m d (Some N) e M r =
        let (A, a, t) = value_typed m N e in
        let x : M ≡ rename order.0 (fill (skeletons_of (types_of s)) (values (skeletons_of (types_of s)) l.ready.well_formed.order) N) = (reading_law l.signature l.is_signature s l.ready l.ready.well_formed ms order.0 order.3 []).0 N M A t r in
        ap (rename_value order.0) (respected (bindings_of s) respects (record { of = m; value = N }) (is_bound m N e)) ∙ ap Some (sym x)
    value_is m d None e M (j, A, x, a, q) =
        let (i, y, v) = has_index m d e in
        let same : j ≡ order.0 i = (let p : Some j ≡ Some (order.0 i) = sym x ∙ y in cc) in
        let k : skeletons_of (types_of s) m ≡ skeleton A = ap skeleton_or_default a in
        ap (rename_value order.0) v ∙ ap Some (rename_eta_expand order.0 (skeletons_of (types_of s) m) (variable i) nil ∙ ap₂ (λ b p. eta_variable b p) k (sym same) ∙ sym q)

    values_are : (G : List LfType) (Ms : List Term) → length Ms ≡ length G → length G ≤ n → AreValuesRead s ms Ms → AreValuesOf (moved order.0 (values (skeletons_of (types_of s)) l.ready.well_formed.order)) G Ms
    values_are [] [] c h r = tt
    values_are [] (M ∷ Ms) c h r = (let no : suc (length Ms) ≡ zero = c in absurd (omega (arith, no)))
    values_are (A ∷ G) [] c h r = (let no : zero ≡ suc (length G) = c in absurd (omega (arith, no)))
    values_are (A ∷ G) (M ∷ Ms) c h (r, rs) =
        let k : length Ms ≡ length G = (let q : suc (length Ms) ≡ suc (length G) = c in omega (arith, q)) in
        let below : length G ≤ n = (let q : suc (length G) ≤ n = h in omega (arith, q)) in (
          value_is (length G) (l.declared (length G) below) (value_of s (length G)) refl M (subst (λ m. IsValueRead s ms m M) k r),
          values_are G Ms k below rs,
        )

    bound_or_not : (bs : List Binding) (m : ℕ) → Unbound bs m ⊎ ((b : Binding) × Member b bs × (m ≡ b.of))
    bound_or_not [] m = inl tt
    bound_or_not (b ∷ bs) m = go (decide m b.of) (bound_or_not bs m)
      where
        go : (m ≡ b.of) ⊎ (m ≡ b.of → ⊥) → Unbound bs m ⊎ ((x : Binding) × Member x bs × (m ≡ x.of)) → Unbound (b ∷ bs) m ⊎ ((x : Binding) × Member x (b ∷ bs) × (m ≡ x.of))
        go (inl e) r = inr (b, inl refl, e)
        go (inr n) (inl u) = inl (n, u)
        go (inr n) (inr (x, i, e)) = inr (x, inr i, e)

    free_are_unbound : (is : List ListedMetavariable) → ((it : ListedMetavariable) → Member it is → Member it l.ready.well_formed.order) → FreeAreUnbound (bindings_of s) is
    free_are_unbound [] h = tt
    free_are_unbound (it ∷ is) h = ((λ q. go q (bound_or_not (bindings_of s) it.of)), free_are_unbound is (λ x i. h x (inr i)))
      where
        go : it.value ≡ None → Unbound (bindings_of s) it.of ⊎ ((b : Binding) × Member b (bindings_of s) × (it.of ≡ b.of)) → Unbound (bindings_of s) it.of
        go q (inl u) = u
        go q (inr (b, i, e)) =
            let (X, j) = listed_binding l.ready.well_formed.order (bindings_of s) l.ready.well_formed.bindings_listed b i in
            let same : it.value ≡ Some b.value = ap (λ (x : ListedMetavariable). x.value) (listed_once l.signature (types_of s) (IsFilling l.signature [] (whole [] s)) l.ready.well_formed.order l.ready.well_formed.is_order it (record { of = b.of; of_type = X; value = Some b.value }) (h it (inl refl)) j e) in
            (let no : None ≡ Some b.value = sym q ∙ same in absurd cc)

    -- the theory has a value for each metavariable, read or not
    has_value : (m : ℕ) → IsDeclared s m → (v : Option Term) → value_of s m ≡ v → (M : Term) × (moved order.0 (values (skeletons_of (types_of s)) l.ready.well_formed.order) m ≡ Some M)
    has_value m d (Some N) e =
        (rename order.0 (fill (skeletons_of (types_of s)) (values (skeletons_of (types_of s)) l.ready.well_formed.order) N), ap (rename_value order.0) (respected (bindings_of s) respects (record { of = m; value = N }) (is_bound m N e)))
    has_value m d None e =
        let (i, y, v) = has_index m d e in
        (rename order.0 (eta_variable (skeletons_of (types_of s) m) i), ap (rename_value order.0) v)

    -- the proof: the one that was read, if it was
    pub proof_there : (o : Option Term) → IsProofRead s ms n o → (M : Term) × IsIfRead o M × (moved order.0 (values (skeletons_of (types_of s)) l.ready.well_formed.order) n ≡ Some M)
    proof_there (Some M) r = (M, refl, value_is n (l.declared n (omega arith)) (value_of s n) refl M r)
    proof_there None r = let (M, e) = has_value n (l.declared n (omega arith)) (value_of s n) refl in (M, tt, e)

    -- THE theorem
    pub is_read_off : (G : List LfType) (gs : List ℕ) (Ms : List Term) (proof : Term) → length G ≡ n → length Ms ≡ n → AreValuesRead s ms Ms → moved order.0 (values (skeletons_of (types_of s)) l.ready.well_formed.order) n ≡ Some proof → IsReadOffLeaf l.signature G (node_of s gs) F Ms proof
    is_read_off G gs Ms proof c k r p = record {
      order = l.ready.well_formed.order;
      is_order = l.ready.well_formed.is_order;
      all_listed = λ m h. let (A, d) = l.declared m (subst (λ j. m ≤ j) c h) in l.ready.well_formed.all_listed m A d;
      values_bound = l.ready.well_formed.values_bound;
      free_unbound = free_are_unbound l.ready.well_formed.order (λ it i. i);
      there = order.0;
      back = order.1;
      reordered = record { there = order.2.there; back = order.2.back; there_and_back = order.2.there_and_back; back_and_there = order.2.back_and_there };
      values_of = values_are G Ms (k ∙ sym c) (subst (λ j. j ≤ n) (sym c) (omega arith)) r;
      proof_of = ap (moved order.0 (values (skeletons_of (types_of s)) l.ready.well_formed.order)) c ∙ p;
    }

-- an eta-long variable is closed
pub no_closed : (M : Term) (o : Option ClosedTerm) (a : Skeleton) (i : ℕ) → o ≡ None → M ≡ eta_variable a i → MatchOption o (has_metavariable M ≡ true) (λ t. (term_of t ≡ M) × (has_metavariable M ≡ false)) → ⊥
no_closed M o a i e q h =
    let t : has_metavariable M ≡ true = subst (λ x. MatchOption x (has_metavariable M ≡ true) (λ t. (term_of t ≡ M) × (has_metavariable M ≡ false))) e h in
    let no : true ≡ false = sym t ∙ ap has_metavariable q ∙ plain_variable a i in
    absurd cc

pub same_fault : {T E : Type 0} (r : Result T E) (f g : E) → r ≡ Err f → r ≡ Err g → f ≡ g
same_fault r f g e h = (let p : Err f ≡ Err g = sym e ∙ h in cc)
