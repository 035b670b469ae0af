-- The first of some mentions.
use Rattle.std.proofs.Common.{◌≡◌, ℕ, List, [], ◌∷◌, None, Some, Bool, true, false, ◌==◌, ◌&&◌, ◌||◌, nat_lt, nat_le, ◌⊎◌, inl, inr, refl, sym, ◌∙◌, subst, arith}
use Rattle.std.proofs.lemmas.Bool.Decides.{nat_tests}
use Rattle.tw_lexer.specs.declared.place.Place.{Place}
use Rattle.tw_names.specs.Earliest.{earlier, earliest}
use Rattle.tw_names.specs.Unknown.{is_no_later, IsOneOf, IsFirst}
use Rattle.tw_names.specs.declared.unknown.Mention.{Mention}

-- places by their numbers
abbrev comes : ℕ → ℕ → ℕ → ℕ → Bool
comes l c m d = nat_lt l m || ((l == m) && nat_le c d)

comes_reflexive : (l c : ℕ) → comes l c l c ≡ true
comes_reflexive l c = grind (arith, nat_tests)

comes_total : (l c m d : ℕ) → comes l c m d ≡ false → comes m d l c ≡ true
comes_total l c m d h = grind (arith, nat_tests, h)

comes_transitive : (l c m d n e : ℕ) → comes l c m d ≡ true → comes m d n e ≡ true → comes l c n e ≡ true
comes_transitive l c m d n e h k = grind (arith, nat_tests, h, k)

pub reflexive : (p : Place) → is_no_later p p ≡ true
reflexive p = comes_reflexive p.line p.column

pub total : (p q : Place) → is_no_later p q ≡ false → is_no_later q p ≡ true
total p q = comes_total p.line p.column q.line q.column

pub transitive : (p q r : Place) → is_no_later p q ≡ true → is_no_later q r ≡ true → is_no_later p r ≡ true
transitive p q r = comes_transitive p.line p.column q.line q.column r.line r.column

-- of two mentions it is one, and no later than either
record IsEarlier (k m n : Mention) : Type 0 where
  one : (k ≡ m) ⊎ (k ≡ n)
  first : is_no_later k.at m.at ≡ true
  second : is_no_later k.at n.at ≡ true

chosen : (m n : Mention) (b : Bool) → is_no_later m.at n.at ≡ b → earlier (Some m) n ≡ (elim b as (λ _. Mention) [ true ↦ m | false ↦ n ])
chosen m n true e = rw e refl
chosen m n false e = rw e refl

earlier_is : (m n : Mention) (b : Bool) → is_no_later m.at n.at ≡ b → IsEarlier (earlier (Some m) n) m n
earlier_is m n true e = subst (λ k. IsEarlier k m n) (sym (chosen m n true e)) (record { one = inl refl; first = reflexive m.at; second = e })
earlier_is m n false e = subst (λ k. IsEarlier k m n) (sym (chosen m n false e)) (record { one = inr refl; first = total m.at n.at e; second = reflexive n.at })

record Holds (r m : Mention) (ns : List Mention) : Type 0 where
  one : (r ≡ m) ⊎ IsOneOf r ns
  before : is_no_later r.at m.at ≡ true
  all : (n : Mention) → IsOneOf n ns → is_no_later r.at n.at ≡ true

some_inj : {X : Type 0} {x y : X} → Some x ≡ Some y → x ≡ y
some_inj e = cc

holds : (m r : Mention) (ns : List Mention) → earliest (Some m) ns ≡ Some r → Holds r m ns
holds m r [] e = record {
  one = inl (sym (some_inj e));
  before = subst (λ x. is_no_later x.at m.at ≡ true) (some_inj e) (reflexive m.at);
  all = λ n h. absurd h;
}
holds m r (n ∷ ns) e =
    let k = earlier (Some m) n in
    let h = holds k r ns e in
    let i = earlier_is m n (is_no_later m.at n.at) refl in
    record {
      one = elim h.one as (λ _. (r ≡ m) ⊎ IsOneOf r (n ∷ ns)) [
        | inl s ↦ elim i.one as (λ _. (r ≡ m) ⊎ IsOneOf r (n ∷ ns)) [ inl t ↦ inl (s ∙ t) | inr t ↦ inr (inl (s ∙ t)) ]
        | inr s ↦ inr (inr s)
      ];
      before = transitive r.at k.at m.at h.before i.first;
      all = λ x o. elim o as (λ _. is_no_later r.at x.at ≡ true) [
        | inl s ↦ subst (λ y. is_no_later r.at y.at ≡ true) (sym s) (transitive r.at k.at n.at h.before i.second)
        | inr s ↦ h.all x s
      ];
    }

-- the earliest of all
pub earliest_is_first : (ms : List Mention) (r : Mention) → earliest None ms ≡ Some r → IsFirst r ms
earliest_is_first [] r e = absurd cc
earliest_is_first (m ∷ ms) r e =
    let h = holds m r ms e in
    record {
      stands = h.one;
      no_earlier = λ n o. elim o as (λ _. is_no_later r.at n.at ≡ true) [
        | inl s ↦ subst (λ y. is_no_later r.at y.at ≡ true) (sym s) h.before
        | inr s ↦ h.all n s
      ];
    }

never_none : (m : Mention) (ms : List Mention) → earliest (Some m) ms ≡ None → ⊥
never_none m [] e = cc
never_none m (n ∷ ns) e = never_none (earlier (Some m) n) ns e

pub none_is_empty : (ms : List Mention) → earliest None ms ≡ None → ms ≡ []
none_is_empty [] e = refl
none_is_empty (m ∷ ms) e = absurd (never_none m ms e)
