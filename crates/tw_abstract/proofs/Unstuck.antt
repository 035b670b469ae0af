-- In a settled store the quantifiers have an order: that of the store respects their needs.
use Rattle.std.proofs.Common.{◌≡◌, ℕ, ◌<◌, List, [], ◌∷◌, ◌++◌, append_assoc, Option, Some, None, inl, inr, refl, sym, ap, ◌∙◌, subst}
use Rattle.std.specs.Prelude.{IsSome, MatchOption, map}
use Rattle.lf.specs.Subordination.{Member}
use Rattle.lf.specs.Syntax.{LfType, Spine, Term, atom, constant, metavariable, pi, rename, variable}
use Rattle.lf.specs.Typing.{Signature}
use Rattle.lf.proofs.Rules.{rules_agree_reduction}
use Rattle.lf_unification.specs.Dependency.{IsDependencyOrder, IsListed, ListedMetavariable}
use Rattle.lf_unification.specs.OpenTyping.{MetavariablesIn, MetavariablesInSpine, MetavariablesInType, skeletons_of}
use Rattle.lf_unification.specs.PartialInstance.{IsFilling}
use Rattle.lf_unification.specs.Putting.{PutsIn, PutsInSpine, PutsInType, Unbound, put_at_bound, put_at_rigid, put_at_unbound, put_in_argument, put_in_atom, put_in_pi, put_nowhere, put_under_lambda}
use Rattle.lf_unification.specs.Rigid.{past_binders}
use Rattle.lf_unification.specs.Solving.{ValuesAreBindings}
use Rattle.lf_unification.specs.Unifiers.{Binding}
use Rattle.lf_unification.proofs.Putting.{put_unbound}
use Rattle.lf_unification.proofs.Scope.{in_reduced, in_rename}
use Rattle.tw_metas.specs.State.{IsUnbound, State, joined}
use Rattle.tw_putting.specs.Stores.{PutsType, bindings_of, types_of}
use Rattle.tw_abstract.specs.Free.{add_inner, free_metavariables}
use Rattle.tw_abstract.specs.Occurrences.{type_occurrences}
use Rattle.tw_abstract.specs.Order.{IsStuck, Waiting}
use Rattle.tw_abstract.specs.OrderLaws.{RespectsNeeds}
use Rattle.tw_abstract.specs.OrderView.{waiting_of}
use Rattle.tw_abstract.specs.declared.order.Candidate.{Candidate}
use Rattle.tw_abstract.proofs.Choosing.{indexed_member, member_last, member_left}
use Rattle.tw_abstract.proofs.Free.{Covers, all_covered, free_variable, outer_covered, value_listed}
use Rattle.tw_abstract.proofs.OrderLaws.{no_order}
use Rattle.tw_putting.specs.Whole.{AreDistinct, whole}
use Rattle.tw_putting.proofs.Changes.{is_unbound, within}
use Rattle.tw_abstract.specs.Quantifiers.{AreCandidates, AreFound, IsCandidate}
use Rattle.tw_abstract.specs.Reading.{IsSettled}
use Rattle.tw_abstract.proofs.Lists.{distinct_before, member_either, member_right, one_split, split_at}
use Rattle.tw_abstract.proofs.Members.{candidate_of, declared_free, found_candidate, found_unbound, free_distinct, free_listed, free_unbound, occurring_spine, unbound_found}

-- what the values are put into mentions only what it and they mention
module _ (Ψ : ℕ → Option LfType) (bs : List Binding) (V : ℕ → Type 0) (closed : (b : Binding) → Member b bs → V b.of → MetavariablesIn V b.value) where
  mutual
    pub put_inside : {k : ℕ} {M M' : Term} → PutsIn Ψ bs k M M' → MetavariablesIn V M → MetavariablesIn V M'
    put_inside (put_under_lambda d) v = put_inside d v
    put_inside (put_at_rigid (constant c) r d) v = put_inside_spine d v
    put_inside (put_at_rigid (variable i) r d) v = put_inside_spine d v
    put_inside (put_at_rigid (metavariable m) r d) v = absurd r
    put_inside (put_at_unbound u d) (v, vs) = (v, put_inside_spine d vs)
    put_inside {k = k} (put_at_bound {S' = S'} b i d r e) (v, vs) =
        put_inside e (subst (MetavariablesIn V) (sym (rules_agree_reduction r)) (in_reduced V (skeletons_of Ψ b.of) (rename (past_binders k) b.value) S' (in_rename V (past_binders k) b.value (closed b i v)) (put_inside_spine d vs)))

    put_inside_spine : {k : ℕ} {S S' : Spine} → PutsInSpine Ψ bs k S S' → MetavariablesInSpine V S → MetavariablesInSpine V S'
    put_inside_spine put_nowhere v = tt
    put_inside_spine (put_in_argument d e) (v, vs) = (put_inside d v, put_inside_spine e vs)

  put_inside_type : {k : ℕ} {A A' : LfType} → PutsInType Ψ bs k A A' → MetavariablesInType V A → MetavariablesInType V A'
  put_inside_type (put_in_atom d) v = put_inside_spine d v
  put_inside_type (put_in_pi d e) (v, vs) = (put_inside_type d v, put_inside_type e vs)

module _ (Ψ : ℕ → Option LfType) (bs : List Binding) where
  unbound_spine : {k : ℕ} {S S' : Spine} → PutsInSpine Ψ bs k S S' → MetavariablesInSpine (Unbound bs) S'
  unbound_spine put_nowhere = tt
  unbound_spine (put_in_argument d e) = (put_unbound d, unbound_spine e)

  unbound_type : {k : ℕ} {A A' : LfType} → PutsInType Ψ bs k A A' → MetavariablesInType (Unbound bs) A'
  unbound_type (put_in_atom d) = unbound_spine d
  unbound_type (put_in_pi d e) = (unbound_type d, unbound_type e)

occurring_type : (P : ℕ → Type 0) (A : LfType) → MetavariablesInType P A → (m : ℕ) → Member m (type_occurrences A) → P m
occurring_type P (pi A B) (a, b) m i = elim (member_either (type_occurrences A) (type_occurrences B) m i) [ inl j ↦ occurring_type P A a m j | inr j ↦ occurring_type P B b m j ]
occurring_type P (atom a S) s m i = occurring_spine P S s m i

module _ (Σ : Signature) (Ψ : ℕ → Option LfType) (U : (ℕ → Option Term) → Type 0) (bs : List Binding) where
  abbrev Free : ℕ → LfType → ListedMetavariable
  Free m A = record { of = m; of_type = A; value = None }

  listed_free : (is : List ListedMetavariable) (m : ℕ) (A : LfType) → Member (Free m A) is → Member m (free_metavariables is)
  listed_free [] m A i = absurd i
  listed_free (it ∷ is) m A (inl q) = subst (λ v. Member m (add_inner v it.of (free_metavariables is))) (ap (λ x. x.value) q) (subst (λ n. Member m (free_metavariables is ++ n ∷ [])) (ap (λ x. x.of) q) (member_last (free_metavariables is) m))
  listed_free (it ∷ is) m A (inr i) = go it.value (listed_free is m A i)
    where
      go : (v : Option Term) → Member m (free_metavariables is) → Member m (add_inner v it.of (free_metavariables is))
      go (Some N) j = j
      go None j = member_left (free_metavariables is) (it.of ∷ []) m j

  -- what the type of a free one mentions is free, and stands outside of it
  free_inside : (is : List ListedMetavariable) → IsDependencyOrder Σ Ψ U is → ValuesAreBindings bs is → Covers Σ Ψ U bs is → (A A' : LfType) → MetavariablesInType (IsListed is) A → PutsInType Ψ bs 0 A A' → (n : ℕ) → Member n (type_occurrences A') → Member n (free_metavariables is)
  free_inside is o v c A A' l p n j =
      let closed = λ (b : Binding) (i : Member b bs) (k : IsListed is b.of). (let (B, h) = c b i k in value_listed Σ Ψ U bs is o b.of B b.value h) in
      let listed : IsListed is n = occurring_type (IsListed is) A' (put_inside_type Ψ bs (IsListed is) closed p l) n j in
      let free : Unbound bs n = occurring_type (Unbound bs) A' (unbound_type Ψ bs p) n j in
      let (i, e, q) = free_variable Σ Ψ U bs is o v n listed free in
      indexed_member (free_metavariables is) n i e

  respects : (is : List ListedMetavariable) → IsDependencyOrder Σ Ψ U is → ValuesAreBindings bs is → Covers Σ Ψ U bs is → (m : ℕ) (A A' : LfType) → Member (Free m A) is → PutsInType Ψ bs 0 A A' → (n : ℕ) → Member n (type_occurrences A') → (before behind : List ℕ) → free_metavariables is ≡ before ++ m ∷ behind → Member n before
  respects [] o v c m A A' i p n j before behind e = absurd i
  respects (it ∷ is) o v c m A A' (inl q) p n j before behind e =
      let free : Member n (free_metavariables is) = free_inside is o.0 v.1 (outer_covered Σ Ψ U bs it is o c) A A' (subst (MetavariablesInType (IsListed is)) (sym (ap (λ x. x.of_type) q)) o.3) p n j in
      let here : free_metavariables (it ∷ is) ≡ free_metavariables is ++ m ∷ [] = ap (λ w. add_inner w it.of (free_metavariables is)) (sym (ap (λ x. x.value) q)) ∙ ap (λ k. free_metavariables is ++ k ∷ []) (sym (ap (λ x. x.of) q)) in
      let d : AreDistinct (free_metavariables (it ∷ is)) = free_distinct Σ Ψ U (it ∷ is) o in
      let same : free_metavariables is ≡ before = one_split (free_metavariables is) [] before behind m (sym here ∙ e) (distinct_before (free_metavariables is) [] m (subst AreDistinct here d)) (distinct_before before behind m (subst AreDistinct e d)) in
      subst (Member n) same free
  respects (it ∷ is) o v c m A A' (inr i) p n j before behind e =
      let (xs, ys, f) = split_at (free_metavariables is) m (listed_free is m A i) in
      let k : Member n xs = respects is o.0 v.1 (outer_covered Σ Ψ U bs it is o c) m A A' i p n j xs ys f in
      let (zs, g) = further xs ys f it.value in
      let d : AreDistinct (free_metavariables (it ∷ is)) = free_distinct Σ Ψ U (it ∷ is) o in
      let same : xs ≡ before = one_split xs zs before behind m (sym g ∙ e) (distinct_before xs zs m (subst AreDistinct g d)) (distinct_before before behind m (subst AreDistinct e d)) in
      subst (Member n) same k
    where
      further : (xs ys : List ℕ) → free_metavariables is ≡ xs ++ m ∷ ys → (w : Option Term) → (zs : List ℕ) × (add_inner w it.of (free_metavariables is) ≡ xs ++ m ∷ zs)
      further xs ys f (Some N) = (ys, f)
      further xs ys f None = (ys ++ it.of ∷ [], ap (λ ks. ks ++ it.of ∷ []) f ∙ append_assoc xs (m ∷ ys) (it.of ∷ []))

candidate_at : (s : State) (ms : List ℕ) (es : List Waiting) → AreCandidates s ms es → (e : Waiting) → Member e es → (k : ℕ) × IsCandidate s k e
candidate_at s [] [] c e i = absurd i
candidate_at s [] (x ∷ es) c e i = absurd c
candidate_at s (m ∷ ms) [] c e i = absurd c
candidate_at s (m ∷ ms) (x ∷ es) (c, cs) e (inl q) = (m, subst (IsCandidate s m) (sym q) c)
candidate_at s (m ∷ ms) (x ∷ es) (c, cs) e (inr i) = candidate_at s ms es cs e i

some_is : {A : Type 0} {x y : A} → Some x ≡ Some y → x ≡ y
some_is e = cc

module _ (s : State) (z : IsSettled s) (sites found : List ℕ) (es : List Waiting) (a : AreFound s sites found) (c : AreCandidates s found es) where
  abbrev ns : List ℕ
  ns = free_metavariables z.ready.well_formed.order

  have : (e : Waiting) → Member e es → Member e.of ns
  have e i =
      let (k, q) = candidate_at s found es c e i in
      let m : Member e.of found = found_candidate s found es c e i in
      declared_free z.signature s z.ready.consistent z.ready.well_formed e.of q.of_type (ap (types_of s) q.same ∙ q.declared) (found_unbound s sites found a e.of m)

  only : (m : ℕ) → Member m ns → (e : Waiting) × Member e es × (e.of ≡ m)
  only m i =
      let (A, d, u) = free_unbound z.signature s z.ready.consistent z.ready.well_formed m i in
      let v : IsUnbound s m = is_unbound s z.ready.consistent m A d u in
      let l = within s.values m None v in
      candidate_of s found es c m (unbound_found s sites found a m (subst (λ n. m < n) z.ready.consistent.places l) (ap joined v))

  keeps : RespectsNeeds es ns
  keeps before behind m e x i q n j =
      let (k, r) = candidate_at s found es c x i in
      let there : Member m ns = subst (Member m) (sym e) (member_right before (m ∷ behind) m (inl refl)) in
      let (A, d, h) = free_listed z.signature (types_of s) (IsFilling z.signature [] (whole [] s)) z.ready.well_formed.order z.ready.well_formed.is_order m there in
      let p : r.of_type ≡ A = some_is (sym r.declared ∙ ap (types_of s) (sym r.same ∙ q) ∙ d) in
      respects z.signature (types_of s) (IsFilling z.signature [] (whole [] s)) (bindings_of s) z.ready.well_formed.order z.ready.well_formed.is_order z.ready.well_formed.values_bound
      (λ b g l. all_covered z.signature (types_of s) (IsFilling z.signature [] (whole [] s)) (bindings_of s) z.ready.well_formed.order (bindings_of s) z.ready.well_formed.bindings_listed b g)
      m A r.put h (subst (λ B. PutsType s 0 B r.put) p r.puts) n (subst (Member n) r.needs j) before behind e

  pub unstuck : IsStuck es → ⊥
  unstuck stuck = no_order es stuck ns have only keeps

-- so there is an order
pub has_order : {P : Type 0} (s : State) (sites found ms : List ℕ) (cs ds : List Candidate) (o : Option P) (Q : P → Type 0) → IsSettled s → AreFound s sites found → ms ≡ found → AreCandidates s ms (map waiting_of cs) → ds ≡ cs → MatchOption o (IsStuck (map waiting_of ds)) Q → IsSome o
has_order s sites found ms cs ds None Q z a e c q h = absurd (unstuck s z sites found (map waiting_of ds) a (subst (λ xs. AreCandidates s found (map waiting_of xs)) (sym q) (subst (λ ks. AreCandidates s ks (map waiting_of cs)) e c)) h)
has_order s sites found ms cs ds (Some p) Q z a e c q h = refl
