-- The free variables that are listed are those that the text has.
use Rattle.std.proofs.Common.{◌≡◌, ℕ, zero, suc, ◌+◌, arith, reverse, List, [], ◌∷◌, ◌++◌, Option, None, Some, Bool, true, false, ◌⊎◌, inl, inr, refl, sym, ap, ◌∙◌, subst, is_some, if◌then◌else◌}
use Rattle.std.proofs.lemmas.List.{reverse-append}
use Rattle.std.specs.Option.{option_map}
use Rattle.std.specs.Prelude.{MatchOption}
use Rattle.std.specs.Str.{bytes_eq}
use Rattle.lf.specs.Entries.{Entry}
use Rattle.lf.specs.Syntax.{Head}
use Rattle.tw_approx.specs.Names.{IsFreeIn, IsFreeInDomain}
use Rattle.tw_fixity.specs.Names.{Names, variable_of}
use Rattle.tw_lexer.specs.declared.place.Place.{Place}
use Rattle.tw_names.specs.Earliest.{earliest}
use Rattle.tw_names.specs.Scope.{binder_name, head_named, named}
use Rattle.tw_names.specs.Unknown.{IsOneOf, is_uppercase}
use Rattle.tw_names.specs.declared.unknown.Mention.{Mention}
use Rattle.tw_names.proofs.Order.{earliest_is_first, none_is_empty}
use Rattle.tw_names.proofs.Unknowns.{unknowns}
use Rattle.tw_parse.specs.Syntax.{Domain, Term, application, arrow, ascription, hole, identifier, lambda, pi, star, typed, untyped}
use Rattle.tw_signature.specs.Names.{number_of}
use Rattle.tw_recon.specs.FreeNames.{HasNoFreeVariable, IsFirstFreeVariable, free_in_domain, free_names, where_free}
use Rattle.tw_recon.specs.Waiting.{steps, work}
use Rattle.tw_recon.specs.declared.waiting.Waiting.{Waiting}

pub next_first : {X : Type 0} (xs : List X) (x : X) → reverse (xs ++ x ∷ []) ≡ x ∷ reverse xs
next_first xs x = reverse-append xs (x ∷ [])

pub work_last : (ws : List Waiting) (w : Waiting) → work (ws ++ w ∷ []) ≡ steps w + work ws
work_last [] w = refl
work_last (v ∷ ws) w = let e = work_last ws w in omega (arith, e)

pub ruleset frees = (unknowns, next_first, work_last)

-- Two scopes have the same names: an arrow's variable has none.
abbrev HaveSameNames : Names → Names → Type 0
HaveSameNames N K = (x : List ℕ) → is_some (variable_of N x) ≡ is_some (variable_of K x)

mapped : (o : Option ℕ) → is_some (option_map suc o) ≡ is_some o
mapped None = refl
mapped (Some i) = refl

same_past_arrow : (N K : Names) → HaveSameNames N K → HaveSameNames N (None ∷ K)
same_past_arrow N K h x = h x ∙ sym (mapped (variable_of K x))

same_after_arrow : (N K : Names) → HaveSameNames K N → HaveSameNames (None ∷ K) N
same_after_arrow N K h x = mapped (variable_of K x) ∙ h x

same_under : (n : Option (List ℕ)) (N K : Names) → HaveSameNames N K → HaveSameNames (n ∷ N) (n ∷ K)
same_under None N K h x = mapped (variable_of N x) ∙ h x ∙ sym (mapped (variable_of K x))
same_under (Some y) N K h x = by (bytes_eq y x)
  where
    by : (b : Bool) → is_some (if b then Some zero else option_map suc (variable_of N x)) ≡ is_some (if b then Some zero else option_map suc (variable_of K x))
    by true = refl
    by false = mapped (variable_of N x) ∙ h x ∙ sym (mapped (variable_of K x))

none_alike : (o p c : Option ℕ) → is_some o ≡ is_some p → head_named o c ≡ None → head_named p c ≡ None
none_alike None None c e h = h
none_alike None (Some j) c e h = absurd cc
none_alike (Some i) p c e h = absurd cc

-- so what one doesn't name, the other doesn't
names_alike : (es : List Entry) (N K : Names) → HaveSameNames N K → (x : List ℕ) → named es N x ≡ None → named es K x ≡ None
names_alike es N K h x = none_alike (variable_of N x) (variable_of K x) (number_of es x) (h x)

one_left : (m : Mention) (xs ys : List Mention) → IsOneOf m xs → IsOneOf m (xs ++ ys)
one_left m [] ys h = absurd h
one_left m (x ∷ xs) ys (inl e) = inl e
one_left m (x ∷ xs) ys (inr h) = inr (one_left m xs ys h)

one_right : (m : Mention) (xs ys : List Mention) → IsOneOf m ys → IsOneOf m (xs ++ ys)
one_right m [] ys h = h
one_right m (x ∷ xs) ys h = inr (one_right m xs ys h)

one_of_two : (m : Mention) (xs ys : List Mention) → IsOneOf m (xs ++ ys) → IsOneOf m xs ⊎ IsOneOf m ys
one_of_two m [] ys h = inr h
one_of_two m (x ∷ xs) ys (inl e) = inl (inl e)
one_of_two m (x ∷ xs) ys (inr h) = elim (one_of_two m xs ys h) as (λ _. IsOneOf m (x ∷ xs) ⊎ IsOneOf m ys) [ inl k ↦ inl (inr k) | inr k ↦ inr k ]

listed_where : (m : Mention) (o : Option Head) → o ≡ None → is_uppercase m.name ≡ true → IsOneOf m (where_free o m)
listed_where m None e u = rw u (inl refl)
listed_where m (Some h) e u = absurd cc

record StandsFree (o : Option Head) (n m : Mention) : Type 0 where
  same : m ≡ n
  upper : is_uppercase n.name ≡ true
  unnamed : o ≡ None

where_listed : (n m : Mention) (o : Option Head) → IsOneOf m (where_free o n) → StandsFree o n m
where_listed n m (Some h) k = absurd k
where_listed n m None k = by (is_uppercase n.name) refl k
  where
    by : (b : Bool) → is_uppercase n.name ≡ b → IsOneOf m (if b then n ∷ [] else []) → StandsFree None n m
    by true e (inl s) = record { same = s; upper = e; unnamed = refl }
    by true e (inr s) = absurd s
    by false e s = absurd s

-- a free variable is listed, with a place
abbrev Listed : List ℕ → List Mention → Type 0
Listed x ms = (at : Place) × IsOneOf (record { name = x; at = at }) ms

listed_left : (x : List ℕ) (xs ys : List Mention) → Listed x xs → Listed x (xs ++ ys)
listed_left x xs ys (at, h) = (at, one_left (record { name = x; at = at }) xs ys h)

listed_right : (x : List ℕ) (xs ys : List Mention) → Listed x ys → Listed x (xs ++ ys)
listed_right x xs ys (at, h) = (at, one_right (record { name = x; at = at }) xs ys h)

module _ (es : List Entry) (x : List ℕ) where
  mutual
    free_is_listed : (N K : Names) → HaveSameNames K N → (A : Term) → IsFreeIn es x K A → Listed x (free_names es N A)
    free_is_listed N K s (identifier y at) (e, u, n) = (at, subst (λ z. IsOneOf (record { name = z; at = at }) (where_free (named es N y) (record { name = y; at = at }))) e (listed_where (record { name = y; at = at }) (named es N y) (names_alike es K N s y n) u))
    free_is_listed N K s (hole at) h = absurd h
    free_is_listed N K s star h = absurd h
    free_is_listed N K s (arrow U V) (inl h) = listed_left x (free_names es N U) (free_names es N V) (free_is_listed N K s U h)
    free_is_listed N K s (arrow U V) (inr h) = listed_right x (free_names es N U) (free_names es N V) (free_is_listed N (None ∷ K) (same_after_arrow N K s) V h)
    free_is_listed N K s (pi y at D V) (inl h) = listed_left x (free_in_domain es N D) (free_names es (binder_name y ∷ N) V) (free_in_domain_is_listed N K s D h)
    free_is_listed N K s (pi y at D V) (inr h) = listed_right x (free_in_domain es N D) (free_names es (binder_name y ∷ N) V) (free_is_listed (binder_name y ∷ N) (binder_name y ∷ K) (same_under (binder_name y) K N s) V h)
    free_is_listed N K s (lambda y at D M) (inl h) = listed_left x (free_in_domain es N D) (free_names es (binder_name y ∷ N) M) (free_in_domain_is_listed N K s D h)
    free_is_listed N K s (lambda y at D M) (inr h) = listed_right x (free_in_domain es N D) (free_names es (binder_name y ∷ N) M) (free_is_listed (binder_name y ∷ N) (binder_name y ∷ K) (same_under (binder_name y) K N s) M h)
    free_is_listed N K s (application M P) (inl h) = listed_right x (free_names es N P) (free_names es N M) (free_is_listed N K s M h)
    free_is_listed N K s (application M P) (inr h) = listed_left x (free_names es N P) (free_names es N M) (free_is_listed N K s P h)
    free_is_listed N K s (ascription M A) (inl h) = listed_right x (free_names es N A) (free_names es N M) (free_is_listed N K s M h)
    free_is_listed N K s (ascription M A) (inr h) = listed_left x (free_names es N A) (free_names es N M) (free_is_listed N K s A h)

    free_in_domain_is_listed : (N K : Names) → HaveSameNames K N → (D : Domain) → IsFreeInDomain es x K D → Listed x (free_in_domain es N D)
    free_in_domain_is_listed N K s untyped h = absurd h
    free_in_domain_is_listed N K s (typed A) h = free_is_listed N K s A h

-- and what is listed is a free variable
module _ (es : List Entry) (m : Mention) where
  mutual
    listed_is_free : (N K : Names) → HaveSameNames N K → (A : Term) → IsOneOf m (free_names es N A) → IsFreeIn es m.name K A
    listed_is_free N K s (identifier y at) h = let k = where_listed (record { name = y; at = at }) m (named es N y) h in (sym (ap (λ n. n.name) k.same), k.upper, names_alike es N K s y k.unnamed)
    listed_is_free N K s (hole at) h = absurd h
    listed_is_free N K s star h = absurd h
    listed_is_free N K s (arrow U V) h = elim (one_of_two m (free_names es N U) (free_names es N V) h) as (λ _. IsFreeIn es m.name K (arrow U V)) [ inl k ↦ inl (listed_is_free N K s U k) | inr k ↦ inr (listed_is_free N (None ∷ K) (same_past_arrow N K s) V k) ]
    listed_is_free N K s (pi y at D V) h = elim (one_of_two m (free_in_domain es N D) (free_names es (binder_name y ∷ N) V) h) as (λ _. IsFreeIn es m.name K (pi y at D V)) [ inl k ↦ inl (listed_in_domain_is_free N K s D k) | inr k ↦ inr (listed_is_free (binder_name y ∷ N) (binder_name y ∷ K) (same_under (binder_name y) N K s) V k) ]
    listed_is_free N K s (lambda y at D M) h = elim (one_of_two m (free_in_domain es N D) (free_names es (binder_name y ∷ N) M) h) as (λ _. IsFreeIn es m.name K (lambda y at D M)) [ inl k ↦ inl (listed_in_domain_is_free N K s D k) | inr k ↦ inr (listed_is_free (binder_name y ∷ N) (binder_name y ∷ K) (same_under (binder_name y) N K s) M k) ]
    listed_is_free N K s (application M P) h = elim (one_of_two m (free_names es N P) (free_names es N M) h) as (λ _. IsFreeIn es m.name K (application M P)) [ inl k ↦ inr (listed_is_free N K s P k) | inr k ↦ inl (listed_is_free N K s M k) ]
    listed_is_free N K s (ascription M A) h = elim (one_of_two m (free_names es N A) (free_names es N M) h) as (λ _. IsFreeIn es m.name K (ascription M A)) [ inl k ↦ inr (listed_is_free N K s A k) | inr k ↦ inl (listed_is_free N K s M k) ]

    listed_in_domain_is_free : (N K : Names) → HaveSameNames N K → (D : Domain) → IsOneOf m (free_in_domain es N D) → IsFreeInDomain es m.name K D
    listed_in_domain_is_free N K s untyped h = absurd h
    listed_in_domain_is_free N K s (typed A) h = listed_is_free N K s A h

-- the earliest that is listed, or that there is none
pub first_of_listed : (es : List Entry) (A : Term) (o : Option Mention) → o ≡ earliest None (free_names es [] A) → MatchOption o (HasNoFreeVariable es A) (IsFirstFreeVariable es A)
first_of_listed es A None e = λ x h.
    let (at, k) = free_is_listed es x [] [] (λ y. refl) A h in
    subst (IsOneOf (record { name = x; at = at })) (none_is_empty (free_names es [] A) (sym e)) k
first_of_listed es A (Some m) e =
    let f = earliest_is_first (free_names es [] A) m (sym e) in
    record { free = listed_is_free es m [] [] (λ y. refl) A f.stands; first = f }
