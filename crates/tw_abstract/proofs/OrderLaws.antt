-- Laws of the order of quantifiers.
use Rattle.std.proofs.Common.{◌≡◌, ℕ, List, [], ◌∷◌, ◌++◌, ◌⊎◌, inl, inr, append_assoc, Option, Some, None, refl, sym, ◌∙◌, subst}
use Rattle.std.proofs.lemmas.List.{append-nil}
use Rattle.lf.specs.Subordination.{Member}
use Rattle.tw_abstract.specs.Order.{CanFollow, EachIsNext, IsNext, IsStuck, NoneIsNext, Waiting}
use Rattle.tw_abstract.specs.OrderLaws.{RespectsNeeds}
use Rattle.tw_abstract.specs.Positions.{index}
use Rattle.tw_abstract.proofs.Choosing.{indexed_member, member_indexed}

next_entry : (es : List Waiting) (chosen : List ℕ) (m : ℕ) → IsNext es chosen m → (Member m chosen → ⊥) × ((e : Waiting) × Member e es × (e.of ≡ m) × ((n : ℕ) → Member n e.needs → Member n chosen))
next_entry [] chosen m h = absurd h
next_entry (e ∷ es) chosen m (inl (q, f)) = ((λ h. f.0 (subst (λ x. Member x chosen) (sym q) h)), (e, inl refl, q, f.1))
next_entry (e ∷ es) chosen m (inr (f, h)) = let (a, (x, i, q, g)) = next_entry es chosen m h in (a, (x, inr i, q, g))

next_at : (es : List Waiting) (done before behind : List ℕ) (m : ℕ) → EachIsNext es done (before ++ m ∷ behind) → IsNext es (done ++ before) m
next_at es done [] behind m h = subst (λ x. IsNext es x m) (sym (append-nil done)) h.0
next_at es done (x ∷ before) behind m h = subst (λ y. IsNext es y m) (append_assoc done (x ∷ []) before) (next_at es (done ++ x ∷ []) before behind m h.1)

pub after_needs : (es : List Waiting) (ms : List ℕ) → EachIsNext es [] ms → (before behind : List ℕ) (m : ℕ) → ms ≡ before ++ m ∷ behind → (Member m before → ⊥) × ((e : Waiting) × Member e es × (e.of ≡ m) × ((n : ℕ) → Member n e.needs → Member n before))
after_needs es ms h before behind m e = next_entry es before m (next_at es [] before behind m (subst (EachIsNext es []) e h))

none_follows : (es : List Waiting) (chosen : List ℕ) → NoneIsNext es chosen → (e : Waiting) → Member e es → CanFollow chosen e → ⊥
none_follows [] chosen n e i = absurd i
none_follows (x ∷ es) chosen (f, n) e (inl q) = subst (λ y. CanFollow chosen y → ⊥) (sym q) f
none_follows (x ∷ es) chosen (f, n) e (inr i) = none_follows es chosen n e i

there_or_not : (ms : List ℕ) (m : ℕ) → Member m ms ⊎ (Member m ms → ⊥)
there_or_not ms m = go (index ms m) refl
  where
    go : (r : Option ℕ) → index ms m ≡ r → Member m ms ⊎ (Member m ms → ⊥)
    go (Some i) q = inl (indexed_member ms m i q)
    go None q = inr (λ h. let (i, e) = member_indexed ms m h in (let z : None ≡ Some i = sym q ∙ e in cc))

member_of_last : (xs : List ℕ) (m n : ℕ) → Member n (xs ++ m ∷ []) → Member n xs ⊎ (n ≡ m)
member_of_last [] m n (inl e) = inr e
member_of_last [] m n (inr h) = absurd h
member_of_last (x ∷ xs) m n (inl e) = inl (inl e)
member_of_last (x ∷ xs) m n (inr h) = go (member_of_last xs m n h)
  where
    go : Member n xs ⊎ (n ≡ m) → Member n (x ∷ xs) ⊎ (n ≡ m)
    go (inl k) = inl (inr k)
    go (inr e) = inr e

module _ (es : List Waiting) (chosen : List ℕ) (none : NoneIsNext es chosen) (all : List ℕ) (only : (m : ℕ) → Member m all → (e : Waiting) × Member e es × (e.of ≡ m)) (respects : RespectsNeeds es all) where
  -- one whose predecessors are chosen is chosen
  chosen_at : (before behind : List ℕ) (m : ℕ) → all ≡ before ++ m ∷ behind → ((n : ℕ) → Member n before → Member n chosen) → Member m all → Member m chosen
  chosen_at before behind m e h i = go (there_or_not chosen m)
    where
      go : Member m chosen ⊎ (Member m chosen → ⊥) → Member m chosen
      go (inl k) = k
      go (inr f) =
          let (x, j, q) = only m i in
          absurd (none_follows es chosen none x j ((λ k. f (subst (λ y. Member y chosen) q k)), λ n k. h n (respects before behind m e x j q n k)))

  all_of : (before behind : List ℕ) → all ≡ before ++ behind → ((n : ℕ) → Member n before → Member n chosen) → (n : ℕ) → Member n behind → Member n chosen
  all_of before [] e h n i = absurd i
  all_of before (m ∷ behind) e h n i =
      let p : Member m all = subst (Member m) (sym e) (member_right before (m ∷ behind) m (inl refl)) in
      let here : Member m chosen = chosen_at before behind m e h p in
      rest i here (all_of (before ++ m ∷ []) behind (e ∙ sym (append_assoc before (m ∷ []) behind)) (λ k j. step here k (member_of_last before m k j)) n)
    where
      member_right : (xs ys : List ℕ) (m : ℕ) → Member m ys → Member m (xs ++ ys)
      member_right [] ys m i = i
      member_right (x ∷ xs) ys m i = inr (member_right xs ys m i)

      step : Member m chosen → (k : ℕ) → Member k before ⊎ (k ≡ m) → Member k chosen
      step c k (inl j) = h k j
      step c k (inr q) = subst (λ y. Member y chosen) (sym q) c

      rest : (n ≡ m) ⊎ Member n behind → Member m chosen → (Member n behind → Member n chosen) → Member n chosen
      rest (inl q) c f = subst (λ y. Member y chosen) (sym q) c
      rest (inr j) c f = f j

  pub all_are_chosen : (n : ℕ) → Member n all → Member n chosen
  all_are_chosen n i = all_of [] all refl (λ k j. absurd j) n i

pub no_order : (es : List Waiting) → IsStuck es → (ms : List ℕ) → ((e : Waiting) → Member e es → Member e.of ms) → ((m : ℕ) → Member m ms → (e : Waiting) × Member e es × (e.of ≡ m)) → RespectsNeeds es ms → ⊥
no_order es (chosen, each, none, (e, i, f)) ms have only respects = f (all_are_chosen es chosen none ms only respects e.of (have e i))
