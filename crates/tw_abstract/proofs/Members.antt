-- The quantifiers are the free metavariables of the store.
use Rattle.std.proofs.Common.{◌≡◌, ℕ, zero, suc, ◌<◌, ◌⊎◌, inl, inr, List, [], ◌∷◌, ◌++◌, length, Option, Some, None, Bool, true, false, cond, is_some, refl, sym, ap, ◌∙◌, subst, arith}
use Rattle.lf.specs.Subordination.{Member}
use Rattle.lf.specs.Syntax.{LfType, Spine, Term, app, constant, lambda, metavariable, nil, root, variable}
use Rattle.lf.specs.Typing.{Signature}
use Rattle.lf_unification.specs.Dependency.{IsDependencyOrder, IsListed, ListedMetavariable}
use Rattle.lf_unification.specs.OpenTyping.{MetavariablesIn, MetavariablesInSpine}
use Rattle.lf_unification.specs.PartialInstance.{IsFilling}
use Rattle.lf_unification.specs.Putting.{Unbound}
use Rattle.lf_unification.specs.Solving.{BindingsAreListed, IsWellFormed}
use Rattle.lf_unification.specs.Unifiers.{Binding}
use Rattle.lf_unification.proofs.Putting.{put_unbound}
use Rattle.tw_metas.specs.State.{State, value_of}
use Rattle.tw_putting.specs.Stores.{bindings_of, types_of}
use Rattle.tw_putting.proofs.Walks.{unbound_from}
use Rattle.tw_abstract.specs.Free.{add_inner, free_metavariables}
use Rattle.tw_abstract.specs.Occurrences.{noted, occurrences, spine_occurrences, with_new}
use Rattle.tw_abstract.specs.Order.{IsOrder, Waiting}
use Rattle.tw_abstract.specs.Positions.{index}
use Rattle.tw_abstract.proofs.Choosing.{indexed_member, member_last, member_left}
use Rattle.tw_abstract.proofs.Free.{free_variable}
use Rattle.tw_abstract.proofs.OrderLaws.{after_needs}
use Rattle.tw_putting.specs.Whole.{AreDistinct, IsConsistent, whole}
use Rattle.tw_abstract.specs.Quantifiers.{AreCandidates, AreFound, SitesHave, ValueHas, unbound_below}
use Rattle.tw_abstract.proofs.Lists.{NoneBeforeItself, distinct_last, distinct_splits, member_either, split_at}

-- what is noted
new_member : (ms : List ℕ) (n m : ℕ) → Member m (with_new ms n) → Member m ms ⊎ (m ≡ n)
new_member ms n m i = go (is_some (index ms n)) i
  where
    go : (b : Bool) → Member m (cond b ms (ms ++ n ∷ [])) → Member m ms ⊎ (m ≡ n)
    go true i = inl i
    go false i = elim (member_either ms (n ∷ []) m i) [ inl j ↦ inl j | inr j ↦ elim j [ inl e ↦ inr e | inr k ↦ absurd k ] ]

member_of_new : (ms : List ℕ) (n m : ℕ) → Member m ms → Member m (with_new ms n)
member_of_new ms n m i = go (is_some (index ms n))
  where
    go : (b : Bool) → Member m (cond b ms (ms ++ n ∷ []))
    go true = i
    go false = member_left ms (n ∷ []) m i

new_is_member : (ms : List ℕ) (n : ℕ) → Member n (with_new ms n)
new_is_member ms n = go (index ms n) refl
  where
    go : (r : Option ℕ) → index ms n ≡ r → Member n (cond (is_some r) ms (ms ++ n ∷ []))
    go (Some i) e = indexed_member ms n i e
    go None e = member_last ms n

pub noted_either : (ms ns : List ℕ) (m : ℕ) → Member m (noted ms ns) → Member m ms ⊎ Member m ns
noted_either ms [] m i = inl i
noted_either ms (n ∷ ns) m i = go (noted_either (with_new ms n) ns m i)
  where
    go : Member m (with_new ms n) ⊎ Member m ns → Member m ms ⊎ Member m (n ∷ ns)
    go (inl j) = elim (new_member ms n m j) [ inl k ↦ inl k | inr e ↦ inr (inl e) ]
    go (inr j) = inr (inr j)

pub noted_before : (ms ns : List ℕ) (m : ℕ) → Member m ms → Member m (noted ms ns)
noted_before ms [] m i = i
noted_before ms (n ∷ ns) m i = noted_before (with_new ms n) ns m (member_of_new ms n m i)

pub noted_now : (ms ns : List ℕ) (m : ℕ) → Member m ns → Member m (noted ms ns)
noted_now ms [] m i = absurd i
noted_now ms (n ∷ ns) m (inl e) = noted_before (with_new ms n) ns m (subst (λ k. Member k (with_new ms n)) (sym e) (new_is_member ms n))
noted_now ms (n ∷ ns) m (inr i) = noted_now (with_new ms n) ns m i

-- what holds of each metavariable of a term holds of each occurrence
mutual
  pub occurring : (P : ℕ → Type 0) (M : Term) → MetavariablesIn P M → (m : ℕ) → Member m (occurrences M) → P m
  occurring P (lambda M) h m i = occurring P M h m i
  occurring P (root (constant c) S) h m i = occurring_spine P S h m i
  occurring P (root (variable v) S) h m i = occurring_spine P S h m i
  occurring P (root (metavariable n) S) (p, h) m (inl e) = subst P (sym e) p
  occurring P (root (metavariable n) S) (p, h) m (inr i) = occurring_spine P S h m i

  pub occurring_spine : (P : ℕ → Type 0) (S : Spine) → MetavariablesInSpine P S → (m : ℕ) → Member m (spine_occurrences S) → P m
  occurring_spine P nil h m i = absurd i
  occurring_spine P (app M S) (h, hs) m i = elim (member_either (occurrences M) (spine_occurrences S) m i) [ inl j ↦ occurring P M h m j | inr j ↦ occurring_spine P S hs m j ]

pub place : (k n : ℕ) → n < suc k → (n ≡ k) ⊎ (n < k)
place zero n l = inl (omega arith)
place (suc k) zero l = inr (omega arith)
place (suc k) (suc n) l = elim (place k n (omega arith)) [ inl q ↦ inl (ap suc q) | inr h ↦ inr (omega (arith, h)) ]

-- what is found isn't bound
module _ (s : State) where
  no_value : (m : ℕ) → value_of s m ≡ None → Unbound (bindings_of s) m
  no_value m e = unbound_from s.values m e s.bound

  value_unbound : (m : ℕ) (v : Option Term) (ns : List ℕ) → value_of s m ≡ v → ValueHas s m v ns → (n : ℕ) → Member n ns → Unbound (bindings_of s) n
  value_unbound m None ns e h n i = go (subst (Member n) h i)
    where
      go : Member n (m ∷ []) → Unbound (bindings_of s) n
      go (inl q) = subst (Unbound (bindings_of s)) (sym q) (no_value m e)
      go (inr j) = absurd j
  value_unbound m (Some N) ns e (N', p, q) n i = occurring (Unbound (bindings_of s)) N' (put_unbound p) n (subst (Member n) q i)

  sites_unbound : (sites ns : List ℕ) → SitesHave s sites ns → (n : ℕ) → Member n ns → Unbound (bindings_of s) n
  sites_unbound [] ns h n i = absurd (subst (Member n) h i)
  sites_unbound (m ∷ ms) ns (xs, ys, v, h, e) n i = elim (member_either xs ys n (subst (Member n) e i)) [ inl j ↦ value_unbound m (value_of s m) xs refl v n j | inr j ↦ sites_unbound ms ys h n j ]

  below_unbound : (k n : ℕ) → Member n (unbound_below s k) → Unbound (bindings_of s) n
  below_unbound zero n i = absurd i
  below_unbound (suc k) n i = go (below_unbound k n) (value_of s k) refl i
    where
      go : (Member n (unbound_below s k) → Unbound (bindings_of s) n) → (v : Option Term) → value_of s k ≡ v → Member n (add_inner v k (unbound_below s k)) → Unbound (bindings_of s) n
      go others (Some N) e i = others i
      go others None e i = elim (member_either (unbound_below s k) (k ∷ []) n i) [ inl j ↦ others j | inr j ↦ elim j [ inl q ↦ subst (Unbound (bindings_of s)) (sym q) (no_value k e) | inr l ↦ absurd l ] ]

  unbound_is_below : (k n : ℕ) → n < k → value_of s n ≡ None → Member n (unbound_below s k)
  unbound_is_below zero n l e = absurd (omega arith)
  unbound_is_below (suc k) n l e = go (λ h. unbound_is_below k n h e) (value_of s k) refl (place k n l)
    where
      go : (n < k → Member n (unbound_below s k)) → (v : Option Term) → value_of s k ≡ v → (n ≡ k) ⊎ (n < k) → Member n (add_inner v k (unbound_below s k))
      go others None q (inl p) = subst (λ j. Member j (unbound_below s k ++ k ∷ [])) (sym p) (member_last (unbound_below s k) k)
      go others None q (inr h) = member_left (unbound_below s k) (k ∷ []) n (others h)
      go others (Some N) q (inl p) = (let z : None ≡ Some N = sym e ∙ ap (value_of s) p ∙ q in absurd cc)
      go others (Some N) q (inr h) = others h

  pub found_unbound : (sites found : List ℕ) → AreFound s sites found → (n : ℕ) → Member n found → Unbound (bindings_of s) n
  found_unbound sites found f n i = go (noted_either (noted [] f.at_sites) (unbound_below s (length s.declared)) n (subst (Member n) f.is i))
    where
      go : Member n (noted [] f.at_sites) ⊎ Member n (unbound_below s (length s.declared)) → Unbound (bindings_of s) n
      go (inl j) = elim (noted_either [] f.at_sites n j) [ inl k ↦ absurd k | inr k ↦ sites_unbound sites f.at_sites f.sites_have n k ]
      go (inr j) = below_unbound (length s.declared) n j

  pub unbound_found : (sites found : List ℕ) → AreFound s sites found → (n : ℕ) → n < length s.declared → value_of s n ≡ None → Member n found
  unbound_found sites found f n l e = subst (Member n) (sym f.is) (noted_now (noted [] f.at_sites) (unbound_below s (length s.declared)) n (unbound_is_below (length s.declared) n l e))

  -- the candidates are those that were found
  pub candidate_of : (ms : List ℕ) (es : List Waiting) → AreCandidates s ms es → (m : ℕ) → Member m ms → (e : Waiting) × Member e es × (e.of ≡ m)
  candidate_of [] es c m i = absurd i
  candidate_of (n ∷ ms) [] c m i = absurd c
  candidate_of (n ∷ ms) (e ∷ es) (c, cs) m (inl q) = (e, inl refl, c.same ∙ sym q)
  candidate_of (n ∷ ms) (e ∷ es) (c, cs) m (inr i) = let (x, j, q) = candidate_of ms es cs m i in (x, inr j, q)

  pub found_candidate : (ms : List ℕ) (es : List Waiting) → AreCandidates s ms es → (e : Waiting) → Member e es → Member e.of ms
  found_candidate [] [] c e i = absurd i
  found_candidate [] (x ∷ es) c e i = absurd c
  found_candidate (n ∷ ms) [] c e i = absurd c
  found_candidate (n ∷ ms) (x ∷ es) (c, cs) e (inl q) = inl (ap (λ y. y.of) q ∙ c.same)
  found_candidate (n ∷ ms) (x ∷ es) (c, cs) e (inr i) = inr (found_candidate ms es cs e i)

-- an order has no repeats, and holds what was found
pub order_splits : (es : List Waiting) (ms : List ℕ) → IsOrder es ms → NoneBeforeItself ms
order_splits es ms o before behind m e = (after_needs es ms o.0 before behind m e).0

pub order_distinct : (es : List Waiting) (ms : List ℕ) → IsOrder es ms → AreDistinct ms
order_distinct es ms o = distinct_splits ms (order_splits es ms o)

pub ordered_found : (s : State) (found : List ℕ) (es : List Waiting) (ms : List ℕ) → AreCandidates s found es → IsOrder es ms → (m : ℕ) → Member m ms → Member m found
ordered_found s found es ms c o m i =
    let (before, behind, e) = split_at ms m i in
    let (n, (x, j, q, h)) = after_needs es ms o.0 before behind m e in
    subst (λ k. Member k found) q (found_candidate s found es c x j)

pub found_ordered : (s : State) (found : List ℕ) (es : List Waiting) (ms : List ℕ) → AreCandidates s found es → IsOrder es ms → (m : ℕ) → Member m found → Member m ms
found_ordered s found es ms c o m i = let (e, j, q) = candidate_of s found es c m i in subst (λ k. Member k ms) q (o.1 e j)

-- the listed ones
pub listed_member : (is : List ListedMetavariable) (it : ListedMetavariable) → Member it is → IsListed is it.of
listed_member [] it i = i
listed_member (j ∷ is) it (inl e) = inl (ap (λ x. x.of) e)
listed_member (j ∷ is) it (inr i) = inr (listed_member is it i)

module _ (Σ : Signature) (Ψ : ℕ → Option LfType) (U : (ℕ → Option Term) → Type 0) where
  listed_once : (is : List ListedMetavariable) → IsDependencyOrder Σ Ψ U is → (a b : ListedMetavariable) → Member a is → Member b is → a.of ≡ b.of → a.value ≡ b.value
  listed_once [] o a b i j e = absurd i
  listed_once (it ∷ is) o a b (inl p) (inl q) e = ap (λ x. x.value) (p ∙ sym q)
  listed_once (it ∷ is) o a b (inl p) (inr j) e = absurd (o.2 (subst (IsListed is) (sym e ∙ ap (λ x. x.of) p) (listed_member is b j)))
  listed_once (it ∷ is) o a b (inr i) (inl q) e = absurd (o.2 (subst (IsListed is) (e ∙ ap (λ x. x.of) q) (listed_member is a i)))
  listed_once (it ∷ is) o a b (inr i) (inr j) e = listed_once is o.0 a b i j e

  -- a free one is declared, and has no value
  pub free_listed : (is : List ListedMetavariable) → IsDependencyOrder Σ Ψ U is → (m : ℕ) → Member m (free_metavariables is) → (A : LfType) × (Ψ m ≡ Some A) × Member (record { of = m; of_type = A; value = None }) is
  free_listed [] o m i = absurd i
  free_listed (it ∷ is) o m i = go (λ i. let (A, d, j) = free_listed is o.0 m i in (A, d, inr j)) it.value refl i
    where
      go : (Member m (free_metavariables is) → (A : LfType) × (Ψ m ≡ Some A) × Member (record { of = m; of_type = A; value = None }) (it ∷ is)) → (v : Option Term) → it.value ≡ v → Member m (add_inner v it.of (free_metavariables is)) → (A : LfType) × (Ψ m ≡ Some A) × Member (record { of = m; of_type = A; value = None }) (it ∷ is)
      go older (Some N) q i = older i
      go older None q i = elim (member_either (free_metavariables is) (it.of ∷ []) m i) [
        | inl j ↦ older j
        | inr j ↦ elim j [
          | inl e ↦ (it.of_type, ap Ψ e ∙ o.1, inl (ap (λ n. record { of = n; of_type = it.of_type; value = None }) e ∙ ap (λ v. record { of = it.of; of_type = it.of_type; value = v }) (sym q)))
          | inr k ↦ absurd k
        ]
      ]

  unbound_free : (is : List ListedMetavariable) → IsDependencyOrder Σ Ψ U is → (m : ℕ) (A : LfType) → Member (record { of = m; of_type = A; value = None }) is → (bs : List Binding) → BindingsAreListed is bs → Unbound bs m
  unbound_free is o m A i [] l = tt
  unbound_free is o m A i (b ∷ bs) ((B, j), l) = (
    λ e. (let z : None ≡ Some b.value = listed_once is o (record { of = m; of_type = A; value = None }) (record { of = b.of; of_type = B; value = Some b.value }) i j e in cc),
    unbound_free is o m A i bs l,
  )

  -- the free ones are different
  pub free_distinct : (is : List ListedMetavariable) → IsDependencyOrder Σ Ψ U is → AreDistinct (free_metavariables is)
  free_distinct [] o = tt
  free_distinct (it ∷ is) o = go (free_distinct is o.0) it.value
    where
      go : AreDistinct (free_metavariables is) → (v : Option Term) → AreDistinct (add_inner v it.of (free_metavariables is))
      go others (Some N) = others
      go others None = distinct_last (free_metavariables is) it.of others (λ i. let (A, d, j) = free_listed is o.0 it.of i in o.2 (listed_member is (record { of = it.of; of_type = A; value = None }) j))

module _ (Σ : Signature) (s : State) (c : IsConsistent s) (w : IsWellFormed Σ (whole [] s)) where
  Ψ : ℕ → Option LfType
  Ψ = types_of s

  U : (ℕ → Option Term) → Type 0
  U = IsFilling Σ [] (whole [] s)

  -- a metavariable that is declared and not bound is free
  pub declared_free : (m : ℕ) (A : LfType) → types_of s m ≡ Some A → Unbound (bindings_of s) m → Member m (free_metavariables w.order)
  declared_free m A d u =
      let (i, e, v) = free_variable Σ (types_of s) (IsFilling Σ [] (whole [] s)) (bindings_of s) w.order w.is_order w.values_bound m (w.all_listed m A d) u in
      indexed_member (free_metavariables w.order) m i e

  pub free_unbound : (m : ℕ) → Member m (free_metavariables w.order) → (A : LfType) × (types_of s m ≡ Some A) × Unbound (bindings_of s) m
  free_unbound m i =
      let (A, d, j) = free_listed Σ (types_of s) (IsFilling Σ [] (whole [] s)) w.order w.is_order m i in
      (A, d, unbound_free Σ (types_of s) (IsFilling Σ [] (whole [] s)) w.order w.is_order m A j (bindings_of s) w.bindings_listed)
