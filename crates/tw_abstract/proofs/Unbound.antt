-- What is noted of a settled store are different metavariables, none of which is bound; where they are as many as there are, they are all.
use Rattle.std.proofs.Common.{◌≡◌, ℕ, zero, suc, ◌+◌, ◌<◌, ◌≤◌, inl, inr, List, [], ◌∷◌, ◌++◌, append_assoc, length, length-append, Option, Some, None, cond, is_some, refl, sym, ap, ◌∙◌, subst, arith}
use Rattle.std.proofs.lemmas.List.{append-nil}
use Rattle.lf.specs.Subordination.{Member}
use Rattle.lf.specs.Syntax.{Term}
use Rattle.lf_unification.specs.OpenTyping.{Declares, MetavariablesIn}
use Rattle.lf_unification.specs.Putting.{Unbound}
use Rattle.lf_unification.specs.Scope.{MetavariablesInBindings}
use Rattle.lf_unification.specs.Unifiers.{Binding}
use Rattle.lf_unification.proofs.Putting.{put_unbound}
use Rattle.tw_metas.specs.State.{IsUnbound, State, joined, value_of}
use Rattle.tw_putting.specs.Stores.{Puts, bindings_of, types_of}
use Rattle.tw_putting.specs.Whole.{AreDistinct, IsConsistent}
use Rattle.tw_putting.proofs.Changes.{is_unbound, there_is, within}
use Rattle.tw_putting.proofs.Readiness.{ready_scoped}
use Rattle.tw_putting.proofs.Views.{binding_of_value}
use Rattle.tw_abstract.specs.Free.{add_inner}
use Rattle.tw_abstract.specs.Occurrences.{noted, occurrences, with_new}
use Rattle.tw_abstract.specs.Positions.{index}
use Rattle.tw_abstract.specs.Quantifiers.{AreUnbound, unbound_below}
use Rattle.tw_abstract.specs.Reading.{IsSettled}
use Rattle.tw_abstract.proofs.Choosing.{member_indexed}
use Rattle.tw_abstract.proofs.Counting.{all_below, at_most_below, distinct_joined}
use Rattle.tw_abstract.proofs.Lists.{distinct_last, member_either, member_right}
use Rattle.tw_abstract.proofs.Members.{noted_either, occurring, place}
use Rattle.tw_abstract.proofs.Noting.{noted-append}
use Rattle.tw_abstract.proofs.Unstuck.{put_inside}

-- noting keeps a list without repeats
new_distinct : (ms : List ℕ) (n : ℕ) → AreDistinct ms → AreDistinct (with_new ms n)
new_distinct ms n d = go (index ms n) refl
  where
    go : (r : Option ℕ) → index ms n ≡ r → AreDistinct (cond (is_some r) ms (ms ++ n ∷ []))
    go (Some i) e = d
    go None e = distinct_last ms n d (λ i. let (k, q) = member_indexed ms n i in let z : None ≡ Some k = sym e ∙ q in absurd cc)

noted_distinct : (ms ns : List ℕ) → AreDistinct ms → AreDistinct (noted ms ns)
noted_distinct ms [] d = d
noted_distinct ms (n ∷ ns) d = noted_distinct (with_new ms n) ns (new_distinct ms n d)

-- what is there already changes nothing
noted_already : (ms ns : List ℕ) → ((m : ℕ) → Member m ns → Member m ms) → noted ms ns ≡ ms
noted_already ms [] h = refl
noted_already ms (n ∷ ns) h =
    let (k, e) = member_indexed ms n (h n (inl refl)) in
    let same : with_new ms n ≡ ms = ap (λ r. cond (is_some r) ms (ms ++ n ∷ [])) e in
    ap (λ ks. noted ks ns) same ∙ noted_already ms ns (λ m i. h m (inr i))

module _ (s : State) where
  noted_unbound : (ms ns : List ℕ) → AreUnbound s ms → ((n : ℕ) → Member n ns → IsUnbound s n) → AreUnbound s (noted ms ns)
  noted_unbound ms ns (d, u) h = (noted_distinct ms ns d, λ m i. elim (noted_either ms ns m i) [ inl j ↦ u m j | inr j ↦ h m j ])

  pub none_noted : (ms : List ℕ) → ms ≡ [] → AreUnbound s ms
  none_noted ms e = subst (AreUnbound s) (sym e) (tt, λ m i. absurd i)

  below_no_value : (k n : ℕ) → Member n (unbound_below s k) → (n < k) × (value_of s n ≡ None)
  below_no_value zero n i = absurd i
  below_no_value (suc k) n i = go (below_no_value k n) (value_of s k) refl i
    where
      go : (Member n (unbound_below s k) → (n < k) × (value_of s n ≡ None)) → (v : Option Term) → value_of s k ≡ v → Member n (add_inner v k (unbound_below s k)) → (n < suc k) × (value_of s n ≡ None)
      go others (Some N) e i = let (l, q) = others i in (omega (arith, l), q)
      go others None e i = elim (member_either (unbound_below s k) (k ∷ []) n i) [
        | inl j ↦ (let (l, q) = others j in (omega (arith, l), q))
        | inr j ↦ elim j [ inl q ↦ (omega (arith, q), ap (value_of s) q ∙ e) | inr x ↦ absurd x ]
      ]

  -- those below a number go on those below a smaller one
  unbound_further : (n k : ℕ) → k ≤ n → (ns : List ℕ) × (unbound_below s n ≡ unbound_below s k ++ ns)
  unbound_further zero k l = let e : zero ≡ k = omega (arith, l) in ([], ap (unbound_below s) e ∙ sym (append-nil (unbound_below s k)))
  unbound_further (suc n) k l = elim (place (suc n) k (omega (arith, l))) [
    | inl q ↦ ([], ap (unbound_below s) (sym q) ∙ sym (append-nil (unbound_below s k)))
    | inr h ↦ (let (ns, e) = unbound_further n k (omega (arith, h)) in go ns e (value_of s n))
  ]
    where
      go : (ns : List ℕ) → unbound_below s n ≡ unbound_below s k ++ ns → (v : Option Term) → (ks : List ℕ) × (add_inner v n (unbound_below s n) ≡ unbound_below s k ++ ks)
      go ns e (Some N) = (ns, e)
      go ns e None = (ns ++ n ∷ [], ap (λ xs. xs ++ n ∷ []) e ∙ append_assoc (unbound_below s k) ns (n ∷ []))

  module _ (c : IsConsistent s) where
    declared_unbound : (m : ℕ) → m < length s.declared → value_of s m ≡ None → IsUnbound s m
    declared_unbound m l n =
        let (v, e) = there_is s.values m (subst (λ k. m < k) (sym c.places) l) in
        e ∙ ap Some (sym (ap joined e) ∙ n)

    unbound_within : (m : ℕ) → IsUnbound s m → m < length s.declared
    unbound_within m u = subst (λ k. m < k) c.places (within s.values m None u)

    bound_within : (m : ℕ) → Member m s.bound → m < length s.declared
    bound_within m i = let (N, e) = c.bound_have_values m i in subst (λ k. m < k) c.places (within s.values m (Some N) e)

    pub bound_at_most : length s.bound ≤ length s.declared
    bound_at_most = at_most_below (length s.declared) s.bound c.distinct bound_within

    -- as many as there are
    all_found : (found : List ℕ) → AreUnbound s found → length s.declared ≤ length found + length s.bound → (n : ℕ) → n < length s.declared → value_of s n ≡ None → Member n found
    all_found found (d, u) l n h e =
        let apart : (m : ℕ) → Member m found → Member m s.bound → ⊥ = λ m i j. (let (N, q) = c.bound_have_values m j in let z : Some None ≡ Some (Some N) = sym (u m i) ∙ q in absurd cc) in
        let w : (m : ℕ) → Member m (found ++ s.bound) → m < length s.declared = λ m i. elim (member_either found s.bound m i) [ inl j ↦ unbound_within m (u m j) | inr j ↦ bound_within m j ] in
        let a : length (found ++ s.bound) ≡ length found + length s.bound = length-append found s.bound in
        let there : Member n (found ++ s.bound) = all_below (length s.declared) (found ++ s.bound) (distinct_joined found s.bound d c.distinct apart) w (omega (arith, l, a)) n h in
        elim (member_either found s.bound n there) [
          | inl j ↦ j
          | inr j ↦ (let (N, q) = c.bound_have_values n j in let z : None ≡ Some N = sym e ∙ ap joined q in absurd cc)
        ]

    -- so the others are noted already
    pub walk_ends : (old now : List ℕ) (k : ℕ) → AreUnbound s old → k ≤ length s.declared → now ≡ noted old (unbound_below s k) → length s.declared ≤ length now + length s.bound → now ≡ noted old (unbound_below s (length s.declared))
    walk_ends old now k u b e l =
        let (ns, p) = unbound_further (length s.declared) k b in
        let a : AreUnbound s now = subst (AreUnbound s) (sym e) (noted_unbound old (unbound_below s k) u (λ n i. (let (h, v) = below_no_value k n i in declared_unbound n (omega (arith, h, b)) v))) in
        let there : (n : ℕ) → Member n ns → Member n now = λ n i. (let (h, v) = below_no_value (length s.declared) n (subst (Member n) (sym p) (member_right (unbound_below s k) ns n i)) in all_found now a l n h v) in
        sym (ap (noted old) p ∙ noted-append old (unbound_below s k) ns ∙ ap (λ ks. noted ks ns) (sym e) ∙ noted_already now ns there)

    pub own_noted : (old now : List ℕ) (m : ℕ) → AreUnbound s old → m < length s.declared → value_of s m ≡ None → now ≡ with_new old m → AreUnbound s now
    own_noted old now m u l v e = subst (AreUnbound s) (sym e) (noted_unbound old (m ∷ []) u (λ n i. elim i [ inl q ↦ subst (IsUnbound s) (sym q) (declared_unbound m l v) | inr x ↦ absurd x ]))

  -- in a value with all values put in only unbound ones occur
  binding_scoped : (V : ℕ → Type 0) (bs : List Binding) → MetavariablesInBindings V bs → (b : Binding) → Member b bs → MetavariablesIn V b.value
  binding_scoped V [] w b i = absurd i
  binding_scoped V (c ∷ bs) (v, m, w) b (inl q) = subst (λ (x : Binding). MetavariablesIn V x.value) (sym q) m
  binding_scoped V (c ∷ bs) (v, m, w) b (inr i) = binding_scoped V bs w b i

  pub value_noted : IsSettled s → (old now : List ℕ) (m : ℕ) (N N' : Term) → AreUnbound s old → value_of s m ≡ Some N → Puts s 0 N N' → now ≡ noted old (occurrences N') → AreUnbound s now
  value_noted z old now m N N' u v p e =
      let r = z.ready in
      let scoped = binding_scoped (Declares (types_of s)) (bindings_of s) (ready_scoped z.signature [] s r).bindings in
      let b : Member (record { of = m; value = N }) (bindings_of s) = binding_of_value s.bound s.values m N (r.consistent.values_are_bound m N v) v in
      let declared : MetavariablesIn (Declares (types_of s)) N' = put_inside (types_of s) (bindings_of s) (Declares (types_of s)) (λ d i h. scoped d i) p (scoped (record { of = m; value = N }) b) in
      subst (AreUnbound s) (sym e) (noted_unbound old (occurrences N') u (λ n i.
      (let (A, d) = occurring (Declares (types_of s)) N' declared n i in is_unbound s r.consistent n A d (occurring (Unbound (bindings_of s)) N' (put_unbound p) n i))))
