-- A split by heads of the inputs of addition.
use Rattle.std.proofs.Common.{◌≡◌, ℕ, zero, suc, List, [], ◌∷◌, ◌<◌, refl, sym, ap, ◌∙◌, subst, arith, inl, inr, true≢false}
use Rattle.std.specs.Prelude.{Bool, true, false, Some, None}
use Rattle.lf.specs.Syntax.{Head, constant, nil, app, LfType, Kind, pi, base, star}
use Rattle.lf.specs.AtOnce.{in_front}
use Rattle.lf.specs.Substitution.{Image, keep, put, substitute, reduce, after}
use Rattle.lf.specs.Typing.{Signature, TypeAt}
use Rattle.lf.specs.Variables.{target, FamiliesIn, KindFamiliesIn, Within, same_number}
use Rattle.lf.specs.Subordination.{Member, IsDeclared, SelfContained}
use Rattle.lf.specs.Worlds.{World, no_variables}
use Rattle.lf.proofs.Eta.{reduce_nil}
use Rattle.lf_checks.specs.Below.{IsSubordination}
use Rattle.lf_cases.specs.Case.{Item, free_variable, as_term, IsGroundInstance}
use Rattle.lf_cases.specs.Split.{IsSplit, IsInstanceCase, HoldsDistinctly, OneHolds, Ends, at_leaf, by_split, no_case, next_case}
use Rattle.lf_cases.specs.Reached.{SplitHead, constant_head, bound_head, entry_head, new_entry_head}
use Rattle.lf_totality.specs.Examples.{Addition, addition_types, addition_kinds, plus_kind, var, nat, z, successor, plus_heads, plus_input_goal, plus_zero_case, plus_successor_case, first_below_second}
use Rattle.lf_totality.proofs.Addition.{addition_ok, self_contained}
use Rattle.lf_totality.proofs.After.{Extends-self}
use Rattle.lf_totality.proofs.ExampleLemmas.{below_itself}
use Rattle.lf_totality.proofs.ExamplesCases.{plus_zero_covered, plus_successor_covered}
use Rattle.lf_coverage.specs.HeadOrder.{Offer, AreInOrder, constant_rank, one_offered, next_offered}
use Rattle.lf_coverage.specs.Heads.{Keeps, GivesCase, AreOffers, SplitsByHeads, IsTypedCase, ArgumentsAreBelow}
use Rattle.lf_coverage.specs.Listed.{no_offer, with_case}
use Rattle.lf_coverage.specs.Examples.{PlusIsSplitByHeads, PlusIsCoveredByHeads, HeadsAreAll}
use Rattle.lf_coverage.proofs.Parts.{some_same}
use Rattle.lf_coverage.proofs.Runs.{head_split_is_split, head_splits_cover}

abbrev pub S : ℕ → Bool
S b = first_below_second 1 b

abbrev pub two : List Item
two = free_variable nat ∷ free_variable nat ∷ []

-- Y for Y and z for X
abbrev zero_values : ℕ → Image
zero_values = in_front (put (base 0) (var 0)) (in_front (put (base 0) z) keep)

-- for X the successor of a new variable
abbrev successor_values : ℕ → Image
successor_values = in_front (put (base 0) (var 1)) (in_front (put (base 0) (var 0)) (in_front (put (base 0) (successor (var 1))) keep))

module _ (Σ : Signature) {G : List LfType} (w : World Σ [] S G) where
  keeps_zero : (τ : ℕ → Image) (g : IsGroundInstance w two τ) → as_term (base 0) (τ 1) ≡ z → Keeps w two τ g plus_zero_case.items zero_values
  keeps_zero τ (Y, υ, (X, ρ, t, hx, d), hy, e) s = record {
    new_values = in_front (put (base 0) Y) keep;
    is_ground = (Y, keep, tt, hy, refl);
    is_distinct = tt;
    first_stays = λ B θ f. f;
    same = same;
  }
    where
      same : (i : ℕ) (A : LfType) → TypeAt (nat ∷ nat ∷ []) i A → τ i ≡ after (in_front (put (base 0) Y) keep) zero_values i
      same zero A q = ap (λ f. f 0) e ∙ ap (put (base 0)) (sym (reduce_nil (base 0) Y))
      same (suc zero) A q = let p : τ 1 ≡ put (base 0) X = ap (λ f. f 1) e ∙ ap (λ f. f 0) d in p ∙ ap (put (base 0)) (sym (ap (as_term (base 0)) p) ∙ s)
      same (suc (suc i)) A (B, (C, q, r), r') = absurd q

  keeps_successor : (τ : ℕ → Image) (g : IsGroundInstance w (free_variable nat ∷ two) τ) → as_term (base 0) (τ 2) ≡ substitute reduce τ (successor (var 0)) → Keeps w (free_variable nat ∷ two) τ g plus_successor_case.items successor_values
  keeps_successor τ (H, χ, (Y, υ, (X, ρ, t, hx, d), hy, e), hh, f) s = record {
    new_values = in_front (put (base 0) Y) (in_front (put (base 0) H) keep);
    is_ground = (Y, in_front (put (base 0) H) keep, (H, keep, tt, hh, refl), hy, refl);
    is_distinct = tt;
    first_stays = λ B θ p. p;
    same = same;
  }
    where
      same : (i : ℕ) (A : LfType) → TypeAt (nat ∷ nat ∷ nat ∷ []) i A → τ i ≡ after (in_front (put (base 0) Y) (in_front (put (base 0) H) keep)) successor_values i
      same zero A q = ap (λ k. k 0) f ∙ ap (put (base 0)) (sym (reduce_nil (base 0) H))
      same (suc zero) A q = ap (λ k. k 1) f ∙ ap (λ k. k 0) e ∙ ap (put (base 0)) (sym (reduce_nil (base 0) Y))
      same (suc (suc zero)) A q =
          let p : τ 2 ≡ put (base 0) X = ap (λ k. k 2) f ∙ ap (λ k. k 1) e ∙ ap (λ k. k 0) d in
          let h : substitute reduce τ (var 0) ≡ reduce (base 0) H nil = ap (λ k. Rattle.lf.specs.Substitution.apply_image reduce (k 0) nil) f in
          p ∙ ap (put (base 0)) (sym (ap (as_term (base 0)) p) ∙ s ∙ ap successor h)
      same (suc (suc (suc i))) A (B, (C, (D, q, r), r'), r'') = absurd q

zero_given : GivesCase Addition [] S first_below_second plus_input_goal 1 nat two 0 (constant 0) nat plus_zero_case
zero_given = record {
  values = in_front (put (base 0) (var 0)) (in_front (put (base 0) z) keep);
  typed_items = (tt, (_, refl, tt));
  is_instance = (var 0, in_front (put (base 0) z) keep, (z, keep, tt, (nat, refl, refl), refl), (nat, refl, refl), refl);
  keeps = λ Σ x G w τ t. keeps_zero Σ w τ t.is_ground t.same;
  given = refl;
  local = refl;
  family = refl;
  arguments = refl;
}

successor_given : GivesCase Addition [] S first_below_second plus_input_goal 1 nat two 0 (constant 1) (pi nat nat) plus_successor_case
successor_given = record {
  values = in_front (put (base 0) (var 1)) (in_front (put (base 0) (var 0)) (in_front (put (base 0) (successor (var 1))) keep));
  typed_items = ((tt, (_, refl, tt)), (_, refl, tt));
  is_instance = (var 1, in_front (put (base 0) (var 0)) (in_front (put (base 0) (successor (var 1))) keep), (var 0, in_front (put (base 0) (successor (var 1))) keep, (successor (var 1), keep, tt, (pi nat nat, refl, ((nat, (nat, refl, refl), refl), refl)), refl), (nat, refl, refl), refl), (nat, (nat, refl, refl), refl), refl);
  keeps = λ Σ x G w τ t. keeps_successor Σ w τ t.is_ground t.same;
  given = refl;
  local = refl;
  family = refl;
  arguments = refl;
}

-- what holds of the heads z and s holds of each head of X
pub each_head : (P : (I : List Item) (n : ℕ) (h : Head) (A : LfType) → Type 0) → P two 0 (constant 0) nat → P two 0 (constant 1) (pi nat nat) → (I : List Item) (n : ℕ) (h : Head) (A : LfType) → SplitHead Addition [] two nat I n h A → P I n h A
each_head P a b I n h A (constant_head k U e t) = by k U e t
  where
    apart : {m n : ℕ} → m ≡ suc n → m ≡ zero → ⊥
    apart p q = omega arith

    by : (k : ℕ) (U : LfType) → addition_types k ≡ Some U → target U ≡ 0 → P two 0 (constant k) U
    by zero U e t = subst (P two 0 (constant 0)) (some_same e) a
    by (suc zero) U e t = subst (P two 0 (constant 1)) (some_same e) b
    by (suc (suc zero)) U e t = absurd (apart (sym (ap target (some_same e))) t)
    by (suc (suc (suc zero))) U e t = absurd (apart (sym (ap target (some_same e))) t)
    by (suc (suc (suc (suc k)))) U e t = absurd cc
each_head P a b I n h A (bound_head j B l g t) = absurd (none l)
  where
    none : {j : ℕ} → j < zero → ⊥
    none l = omega arith
each_head P a b I n h A (entry_head zero B g f t) = absurd (true≢false f)
each_head P a b I n h A (entry_head (suc zero) B g f t) = absurd (true≢false f)
each_head P a b I n h A (entry_head (suc (suc j)) B (C, (D, g, r), r') f t) = absurd g
each_head P a b I n h A (new_entry_head B j C m l g t) = absurd m

-- these two heads are offered
abbrev pub plus_offers : List Offer
plus_offers = record { items = two; moved = 0; head = constant 0; type = nat } ∷ record { items = two; moved = 0; head = constant 1; type = pi nat nat } ∷ []

pub plus_are_offers : AreOffers Addition [] two nat plus_offers
plus_are_offers = record {
  each = each;
  every = each_head (λ I n h A. Member (record { items = I; moved = n; head = h; type = A }) plus_offers) (inl refl) (inr (inl refl));
}
  where
    each : (h : Offer) → Member h plus_offers → SplitHead Addition [] two nat h.items h.moved h.head h.type
    each h (inl e) = subst (λ k. SplitHead Addition [] two nat k.items k.moved k.head k.type) (sym e) (constant_head 0 nat refl refl)
    each h (inr (inl e)) = subst (λ k. SplitHead Addition [] two nat k.items k.moved k.head k.type) (sym e) (constant_head 1 (pi nat nat) refl refl)
    each h (inr (inr e)) = absurd e

-- z comes before s
pub plus_in_order : AreInOrder [] two nat plus_offers
plus_in_order = next_offered (0 ∷ 0 ∷ []) (0 ∷ 1 ∷ []) (constant_rank 0 nat) (constant_rank 1 (pi nat nat)) (inr (refl, inl (omega arith))) (one_offered (0 ∷ 1 ∷ []) (constant_rank 1 (pi nat nat)))

pub plus_split : PlusIsSplitByHeads
plus_split = record {
  split = record {
    answered = record {
      type = nat;
      at = (nat, refl, refl);
      is_free = refl;
      offers = plus_offers;
      are_offers = plus_are_offers;
      in_order = plus_in_order;
      listed = with_case zero_given (with_case successor_given no_offer);
    };
    takes_below = tt;
    arguments_below = each_head (λ I n h A. ArgumentsAreBelow first_below_second A) tt (refl, tt);
  };
  families = refl;
}

-- the premises
pub goal_typed : IsTypedCase Addition [] plus_input_goal
goal_typed = record { items = ((tt, (_, refl, tt)), (_, refl, tt)); given = tt; arguments = ((base 0, (base 0, refl, refl)), ((base 0, (base 0, refl, refl)), tt)) }

pub same_is : (m n : ℕ) → same_number m n ≡ true → n ≡ m
same_is zero zero e = refl
same_is zero (suc n) e = absurd cc
same_is (suc m) zero e = absurd cc
same_is (suc m) (suc n) e = ap suc (same_is m n e)

nat_contained : SelfContained Addition [] (first_below_second 0)
nat_contained = record { declared = declared; kinds_in = kinds_in; types_in = types_in; entries_in = λ B E m. absurd m }
  where
    declared : (a : ℕ) → first_below_second 0 a ≡ true → IsDeclared Addition a
    declared zero e = (star, refl)
    declared (suc a) e = absurd cc

    kinds_in : (a : ℕ) (K : Kind) → addition_kinds a ≡ Some K → first_below_second 0 a ≡ true → KindFamiliesIn (first_below_second 0) K
    kinds_in zero K e s = subst (KindFamiliesIn (first_below_second 0)) (some_same e) tt
    kinds_in (suc a) K e s = absurd cc

    no : {U V : LfType} → Some U ≡ Some V → first_below_second 0 (target U) ≡ false → first_below_second 0 (target V) ≡ true → ⊥
    no e f t = true≢false (sym t ∙ sym (ap (λ X. first_below_second 0 (target X)) (some_same e)) ∙ f)

    types_in : (c : ℕ) (A : LfType) → addition_types c ≡ Some A → first_below_second 0 (target A) ≡ true → FamiliesIn (first_below_second 0) A
    types_in zero A e s = subst (FamiliesIn (first_below_second 0)) (some_same e) refl
    types_in (suc zero) A e s = subst (FamiliesIn (first_below_second 0)) (some_same e) (refl, refl)
    types_in (suc (suc zero)) A e s = absurd (no e refl s)
    types_in (suc (suc (suc zero))) A e s = absurd (no e refl s)
    types_in (suc (suc (suc (suc n)))) A e s = absurd cc

pub plus_subordination : IsSubordination Addition [] first_below_second
plus_subordination = record { itself = below_itself; through = through; self_contained = contained }
  where
    from : {f g : ℕ} → g ≡ f → Within (first_below_second g) (first_below_second f)
    from e i h = ap (λ a. first_below_second a i) (sym e) ∙ h

    through : (f g : ℕ) → first_below_second f g ≡ true → Within (first_below_second g) (first_below_second f)
    through zero g e = from (same_is 0 g e)
    through (suc zero) zero e = below_nat
      where
        below_nat : Within (first_below_second 0) (first_below_second 1)
        below_nat zero h = refl
        below_nat (suc i) h = absurd cc
    through (suc zero) (suc g) e = from (ap suc (same_is 0 g e))
    through (suc (suc n)) g e = from (same_is (suc (suc n)) g e)

    contained : (f : ℕ) → IsDeclared Addition f → SelfContained Addition [] (first_below_second f)
    contained zero d = nat_contained
    contained (suc zero) d = self_contained
    contained (suc (suc n)) (K, e) = absurd cc

plus_ends : Ends (IsInstanceCase Addition [] (first_below_second 1) plus_heads) (SplitsByHeads Addition [] (first_below_second 1) first_below_second) plus_input_goal
plus_ends = by_split (plus_zero_case ∷ plus_successor_case ∷ []) (1, plus_split) (next_case (at_leaf plus_zero_covered) (next_case (at_leaf plus_successor_covered) no_case))

pub plus_by_heads : PlusIsCoveredByHeads
plus_by_heads = (plus_ends, head_splits_cover Addition addition_ok [] (λ B m. absurd m) first_below_second plus_subordination (first_below_second 1) (plus_subordination.self_contained 1 (plus_kind, refl)) plus_heads plus_input_goal tt goal_typed plus_ends)

-- s z is no instance of z
pub heads_are_all : HeadsAreAll
heads_are_all h = by (split.holds Addition (Extends-self S Addition addition_ok) [] no_variables None keep (app (successor z) (app z (app z nil))) held)
  where
    split : IsSplit Addition [] S plus_input_goal (plus_zero_case ∷ [])
    split = head_split_is_split Addition addition_ok [] (λ B m. absurd m) first_below_second plus_subordination (first_below_second 1) (plus_subordination.self_contained 1 (plus_kind, refl)) plus_input_goal goal_typed 1 (plus_zero_case ∷ []) h

    held : HoldsDistinctly {Σ = Addition} {W = []} {S = S} no_variables plus_input_goal None keep (app (successor z) (app z (app z nil)))
    held = record {
      holds = record {
        values = in_front (put (base 0) z) (in_front (put (base 0) (successor z)) keep);
        is_ground = (z, in_front (put (base 0) (successor z)) keep, (successor z, keep, tt, (pi nat nat, refl, ((nat, refl, refl), refl)), refl), (nat, refl, refl), refl);
        first = tt;
        given = λ i M e. absurd cc;
        has_arguments = (refl, (refl, tt));
      };
      is_distinct = tt;
    }

    by : OneHolds {Σ = Addition} {W = []} {S = S} no_variables (plus_zero_case ∷ []) None keep (app (successor z) (app z (app z nil))) → ⊥
    by (inl o) = let q : successor z ≡ z = o.holds.has_arguments.0 in absurd cc
    by (inr o) = o
