-- The earliest of some places.
use Rattle.std.proofs.Common.{◌≡◌, List, [], ◌∷◌, ◌++◌, Option, None, Some, Bool, true, false, ◌⊎◌, inl, inr, refl, sym, ◌∙◌, subst}
use Rattle.tw_lexer.specs.declared.place.Place.{Place}
use Rattle.tw_approx.specs.Levels.{earlier, earliest, IsAmong, IsEarliest}
use Rattle.tw_names.specs.Unknown.{is_no_later}
use Rattle.tw_names.proofs.Order.{reflexive, total, transitive}
use Rattle.tw_approx.proofs.Views.{shapes}

pub earliest-append : (o : Option Place) (ps qs : List Place) → earliest o (ps ++ qs) ≡ earliest (earliest o ps) qs
earliest-append o [] qs = refl
earliest-append o (p ∷ ps) qs = earliest-append (Some (earlier o p)) ps qs

-- of two places it is one, and no later than either
record IsEarlier (k p q : Place) : Type 0 where
  one : (k ≡ p) ⊎ (k ≡ q)
  first : is_no_later k p ≡ true
  second : is_no_later k q ≡ true

chosen : (p q : Place) (b : Bool) → is_no_later p q ≡ b → earlier (Some p) q ≡ (elim b as (λ _. Place) [ true ↦ p | false ↦ q ])
chosen p q true e = rw e refl
chosen p q false e = rw e refl

earlier_is : (p q : Place) (b : Bool) → is_no_later p q ≡ b → IsEarlier (earlier (Some p) q) p q
earlier_is p q true e = subst (λ k. IsEarlier k p q) (sym (chosen p q true e)) (record { one = inl refl; first = reflexive p; second = e })
earlier_is p q false e = subst (λ k. IsEarlier k p q) (sym (chosen p q false e)) (record { one = inr refl; first = total p q e; second = reflexive q })

record Holds (r p : Place) (ps : List Place) : Type 0 where
  one : (r ≡ p) ⊎ IsAmong r ps
  before : is_no_later r p ≡ true
  all : (q : Place) → IsAmong q ps → is_no_later r q ≡ true

some_inj : {X : Type 0} {x y : X} → Some x ≡ Some y → x ≡ y
some_inj e = cc

holds : (p r : Place) (ps : List Place) → earliest (Some p) ps ≡ Some r → Holds r p ps
holds p r [] e = record {
  one = inl (sym (some_inj e));
  before = subst (λ x. is_no_later x p ≡ true) (some_inj e) (reflexive p);
  all = λ q h. absurd h;
}
holds p r (q ∷ ps) e =
    let k = earlier (Some p) q in
    let h = holds k r ps e in
    let i = earlier_is p q (is_no_later p q) refl in
    record {
      one = elim h.one as (λ _. (r ≡ p) ⊎ IsAmong r (q ∷ ps)) [
        | inl s ↦ elim i.one as (λ _. (r ≡ p) ⊎ IsAmong r (q ∷ ps)) [ inl t ↦ inl (s ∙ t) | inr t ↦ inr (inl (s ∙ t)) ]
        | inr s ↦ inr (inr s)
      ];
      before = transitive r k p h.before i.first;
      all = λ x o. elim o as (λ _. is_no_later r x ≡ true) [
        | inl s ↦ subst (λ y. is_no_later r y ≡ true) (sym s) (transitive r k q h.before i.second)
        | inr s ↦ h.all x s
      ];
    }

-- the earliest of all
pub earliest_is : (ps : List Place) (r : Place) → earliest None ps ≡ Some r → IsEarliest r ps
earliest_is [] r e = absurd cc
earliest_is (p ∷ ps) r e =
    let h = holds p r ps e in
    record {
      stands = h.one;
      no_earlier = λ q o. elim o as (λ _. is_no_later r q ≡ true) [
        | inl s ↦ subst (λ y. is_no_later r y ≡ true) (sym s) h.before
        | inr s ↦ h.all q s
      ];
    }

never_none : (p : Place) (ps : List Place) → earliest (Some p) ps ≡ None → ⊥
never_none p [] e = cc
never_none p (q ∷ qs) e = never_none (earlier (Some p) q) qs e

pub no_places : (ps : List Place) → earliest None ps ≡ None → ps ≡ []
no_places [] e = refl
no_places (p ∷ ps) e = absurd (never_none p ps e)

pub ruleset places = (shapes, earliest-append)
