-- The offers that are listed in order, with their places, are determined.
use Rattle.std.proofs.Common.{◌≡◌, ℕ, List, [], ◌∷◌, ◌⊎◌, inl, inr, refl, sym, ap₂, ◌∙◌, subst, arith}
use Rattle.lf.specs.Subordination.{Block, Member}
use Rattle.lf.proofs.Decidability.{variable_type_unique}
use Rattle.lf_cases.specs.ClauseOrder.{ComesBefore}
use Rattle.lf_numbered.specs.NumberedCallsOrder.{AreInNumberedOrder, HasNumberedRank, next_in_order, none_in_order, one_in_order}
use Rattle.lf_numbered.specs.NumberedCase.{NumberedCase}
use Rattle.lf_numbered.specs.NumberedSplits.{IsOfferTo, NumberedOffer}
use Rattle.lf_numbered.specs.OnlyOrder.{ListedOffersAreOne}
use Rattle.lf_numbered.proofs.OnlyOrder.{place_is_of_one_offer}

-- What comes before is a strict order.
before_after : (r s t : List ℕ) → ComesBefore r s → ComesBefore s t → ComesBefore r t
before_after [] [] t p q = absurd p
before_after [] (y ∷ s) [] p q = absurd q
before_after [] (y ∷ s) (z ∷ t) p q = tt
before_after (x ∷ r) [] t p q = absurd p
before_after (x ∷ r) (y ∷ s) [] p q = absurd q
before_after (x ∷ r) (y ∷ s) (z ∷ t) (inl p) (inl q) = inl (omega (arith, p, q))
before_after (x ∷ r) (y ∷ s) (z ∷ t) (inl p) (inr (e, q)) = inl (omega (arith, p, e))
before_after (x ∷ r) (y ∷ s) (z ∷ t) (inr (e, p)) (inl q) = inl (omega (arith, e, q))
before_after (x ∷ r) (y ∷ s) (z ∷ t) (inr (e, p)) (inr (f, q)) = inr (e ∙ f, before_after r s t p q)

not_before : (r : List ℕ) → ComesBefore r r → ⊥
not_before [] p = p
not_before (x ∷ r) (inl p) = omega (arith, p)
not_before (x ∷ r) (inr (e, p)) = not_before r p

module _ (first : ℕ) (W : List Block) (C : NumberedCase) where
  -- each has its place, which comes before all that follow
  abbrev Ordered : List NumberedOffer → List (List ℕ) → Type 0
  Ordered [] [] = Unit {0}
  Ordered [] (r ∷ rs) = ⊥
  Ordered (o ∷ os) [] = ⊥
  Ordered (o ∷ os) (r ∷ rs) = HasNumberedRank first W C o r × ((t : List ℕ) → Member t rs → ComesBefore r t) × Ordered os rs

  ordered : {os : List NumberedOffer} {rs : List (List ℕ)} → AreInNumberedOrder first W C os rs → Ordered os rs
  ordered none_in_order = tt
  ordered (one_in_order h) = (h, (λ t m. absurd m), tt)
  ordered (next_in_order {r = r} {s = s} {rs = rs} h b i) = let (k, l, z) = ordered i in (h, behind l, (k, l, z))
    where
      behind : ((t : List ℕ) → Member t rs → ComesBefore s t) → (t : List ℕ) → Member t (s ∷ rs) → ComesBefore r t
      behind l t (inl e) = subst (ComesBefore r) (sym e) b
      behind l t (inr m) = before_after r s t b (l t m)

  offer_at : (os : List NumberedOffer) (rs : List (List ℕ)) → Ordered os rs → (r : List ℕ) → Member r rs → (o : NumberedOffer) × Member o os × HasNumberedRank first W C o r
  offer_at [] [] h r m = absurd m
  offer_at [] (s ∷ rs) h r m = absurd h
  offer_at (o ∷ os) [] h r m = absurd h
  offer_at (o ∷ os) (s ∷ rs) (h, l, z) r (inl e) = (o, inl refl, subst (HasNumberedRank first W C o) (sym e) h)
  offer_at (o ∷ os) (s ∷ rs) (h, l, z) r (inr m) = let (q, k, g) = offer_at os rs z r m in (q, inr k, g)

  module _ (P : NumberedOffer → Type 0) (alike : (o q : NumberedOffer) → P o → P q → (r : List ℕ) → HasNumberedRank first W C o r → HasNumberedRank first W C q r → o ≡ q) where
    one_order : (os qs : List NumberedOffer) (rs ss : List (List ℕ)) → Ordered os rs → Ordered qs ss → ((t : List ℕ) → Member t rs → Member t ss) → ((t : List ℕ) → Member t ss → Member t rs) → ((o : NumberedOffer) → Member o os → P o) → ((q : NumberedOffer) → Member q qs → P q) → (os ≡ qs) × (rs ≡ ss)
    one_order [] [] [] [] h k u v p q = (refl, refl)
    one_order [] qs (r ∷ rs) ss h k u v p q = absurd h
    one_order (o ∷ os) qs [] ss h k u v p q = absurd h
    one_order [] (q ∷ qs) [] [] h k u v p z = absurd k
    one_order [] qs [] (s ∷ ss) h k u v p q = absurd (v s (inl refl))
    one_order (o ∷ os) qs (r ∷ rs) [] h k u v p q = absurd (u r (inl refl))
    one_order (o ∷ os) [] (r ∷ rs) (s ∷ ss) h k u v p q = absurd k
    one_order (o ∷ os) (q ∷ qs) (r ∷ rs) (s ∷ ss) (h, l, z) (k, m, y) u v p p' =
        let e : r ≡ s = same (u r (inl refl)) (v s (inl refl)) in
        let (f, g) = one_order os qs rs ss z y (λ t i. other (λ d. not_before r (subst (ComesBefore r) (d ∙ sym e) (l t i))) (u t (inr i))) (λ t i. other (λ d. not_before s (subst (ComesBefore s) (d ∙ e) (m t i))) (v t (inr i))) (λ o i. p o (inr i)) (λ q i. p' q (inr i)) in
        (ap₂ (λ a bs. a ∷ bs) (alike o q (p o (inl refl)) (p' q (inl refl)) s (subst (HasNumberedRank first W C o) e h) k) f, ap₂ (λ a bs. a ∷ bs) e g)
      where
        same : (r ≡ s) ⊎ Member r ss → (s ≡ r) ⊎ Member s rs → r ≡ s
        same (inl e) w = e
        same (inr i) (inl e) = sym e
        same (inr i) (inr j) = absurd (not_before r (before_after r s r (l s j) (m r i)))

        other : {A B : Type 0} → (A → ⊥) → A ⊎ B → B
        other n (inl a) = absurd (n a)
        other n (inr b) = b

pub listed_offers_are_one : ListedOffersAreOne
listed_offers_are_one Σ first free W below C x Cs Ds l m =
    let e : l.unified.type ≡ m.unified.type = variable_type_unique C.variables x l.unified.type m.unified.type l.unified.at m.unified.at in
    let i = ordered first W C l.in_order in
    let j = ordered first W C m.in_order in
    one_order first W C (IsOfferTo Σ first W C x l.unified.type) (λ o q f g r h k. place_is_of_one_offer Σ first free W C x l.unified.type o q f g r h k) l.unified.offers m.unified.offers l.ranks m.ranks i j
    (λ r n. let (o, k, h) = offer_at first W C l.unified.offers l.ranks i r n in m.every_rank o r (subst (λ X. IsOfferTo Σ first W C x X o) e (l.unified.each o k)) h)
    (λ r n. let (o, k, h) = offer_at first W C m.unified.offers m.ranks j r n in l.every_rank o r (subst (λ X. IsOfferTo Σ first W C x X o) (sym e) (m.unified.each o k)) h)
    l.unified.each
    (λ o k. subst (λ X. IsOfferTo Σ first W C x X o) (sym e) (m.unified.each o k))
