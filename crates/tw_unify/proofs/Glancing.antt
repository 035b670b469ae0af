-- Terms from which a metavariable is not reached, put together.
use Rattle.std.proofs.Common.{◌≡◌, ◌≢◌, ℕ, List, [], ◌∷◌, Bool, true, false, Option, Some, ◌⊎◌, inl, inr, refl, sym, ap, ◌∙◌, subst}
use Rattle.std.specs.Prelude.{nat_eq, if◌then◌else◌}
use Rattle.std.specs.Bool.{OnTrue}
use Rattle.std.proofs.lemmas.Bool.Decides.{eqb_tells}
use Rattle.lf.specs.Subordination.{Member}
use Rattle.lf.specs.Syntax.{Head, Spine, Term, LfType, app, atom, constant, metavariable, nil, root, variable}
use Rattle.lf_unification.specs.OpenTyping.{MetavariablesIn, MetavariablesInType}
use Rattle.lf_unification.specs.Outside.{Avoids, Holds, ValuesIn}
use Rattle.lf_unification.specs.Unifiers.{Binding}
use Rattle.lf_unification.proofs.Scope.{in_weaker, in_weaker_type}
use Rattle.tw_terms.specs.OpenView.{open_head_of}
use Rattle.tw_terms.specs.declared.canonical.MetaId.{MetaId}
use Rattle.tw_terms.specs.declared.open_terms.OpenHead.{OpenHead}
use Rattle.tw_terms.specs.declared.open_terms.OpenHead.TheVariants.{Const, Var, Meta}
use Rattle.tw_unify.specs.Reaching.{HasBareType, IsAvoided}
use Rattle.tw_unify.proofs.Reaching.{values_in}

-- what a binding of a closed set mentions is in it
value_in : (V : ℕ → Type 0) (cs : List Binding) → ValuesIn V cs → (b : Binding) → Member b cs → V b.of → MetavariablesIn V b.value
value_in V [] i b h v = absurd h
value_in V (c ∷ cs) (f, i) b (inl e) v = subst (λ (x : Binding). MetavariablesIn V x.value) (sym e) (f (subst (λ (x : Binding). V x.of) e v))
value_in V (c ∷ cs) (f, i) b (inr h) v = value_in V cs i b h v

-- the union of two sets
abbrev either : Bool → Bool → Bool
either a b = if a then true else b

in_left : (a b : Bool) → Holds a → Holds (either a b)
in_left true b h = tt
in_left false b h = absurd h

in_right : (a b : Bool) → Holds b → Holds (either a b)
in_right true b h = tt
in_right false b h = h

in_one : (a b : Bool) → Holds (either a b) → Holds a ⊎ Holds b
in_one true b h = inl tt
in_one false b h = inr h

-- the set with k
abbrev with_one : ℕ → (ℕ → Bool) → ℕ → Bool
with_one k r j = either (nat_eq k j) (r j)

is_one : (k j : ℕ) → Holds (nat_eq k j) → k ≡ j
is_one k j h = elim (eqb_tells k j) [ inl (e, q) ↦ q | inr (e, n) ↦ absurd (subst Holds e h) ]

one_in : (k : ℕ) → Holds (nat_eq k k)
one_in k = elim (eqb_tells k k) [ inl (e, q) ↦ subst Holds (sym e) tt | inr (e, n) ↦ absurd (n refl) ]

-- the arguments join the metavariables of a head
joined_in : (V : ℕ → Type 0) (h : Head) (M : Term) (S : Spine) → MetavariablesIn V M → MetavariablesIn V (root h S) → MetavariablesIn V (root h (app M S))
joined_in V (constant c) M S i j = (i, j)
joined_in V (variable c) M S i j = (i, j)
joined_in V (metavariable c) M S i (v, j) = (v, (i, j))

module _ (Ψ : ℕ → Option LfType) (bs : List Binding) (m : ℕ) where
  -- of the empty set nothing is reached
  pub nothing_avoided : (N : Term) → MetavariablesIn (λ k. Holds false) N → IsAvoided Ψ bs N m
  nothing_avoided N i = record {
    reached = λ k. false;
    avoids = (λ k A h d. absurd h, values_in Ψ bs (λ k. Holds false) bs (λ b i h. absurd h), λ h. h);
    within = i;
  }

  -- nor from a head that is no metavariable
  pub rigid_avoided : (h : OpenHead) → ((k : MetaId) → h ≢ Meta k) → IsAvoided Ψ bs (root (open_head_of h) nil) m
  unfolding open_head_of
  rigid_avoided (Const c) n = nothing_avoided (root (constant c.0) nil) tt
  rigid_avoided (Var i) n = nothing_avoided (root (variable i) nil) tt
  rigid_avoided (Meta k) n = absurd (n k refl)

  -- two sets that avoid m
  pub both_avoided : (h : Head) (M : Term) (S : Spine) → IsAvoided Ψ bs M m → IsAvoided Ψ bs (root h S) m → IsAvoided Ψ bs (root h (app M S)) m
  both_avoided h M S a b =
      let V : ℕ → Type 0 = λ k. Holds (either (a.reached k) (b.reached k)) in
      let left : (k : ℕ) → Holds (a.reached k) → V k = λ k. in_left (a.reached k) (b.reached k) in
      let right : (k : ℕ) → Holds (b.reached k) → V k = λ k. in_right (a.reached k) (b.reached k) in
      record {
        reached = λ k. either (a.reached k) (b.reached k);
        avoids = (
          λ k A v d. elim (in_one (a.reached k) (b.reached k) v) [ inl x ↦ in_weaker_type (λ j. Holds (a.reached j)) V left A (a.avoids.0 k A x d) | inr y ↦ in_weaker_type (λ j. Holds (b.reached j)) V right A (b.avoids.0 k A y d) ],
          values_in Ψ bs V bs (λ c i v. elim (in_one (a.reached c.of) (b.reached c.of) v) [
            | inl x ↦ in_weaker (λ j. Holds (a.reached j)) V left c.value (value_in (λ j. Holds (a.reached j)) bs a.avoids.1 c i x)
            | inr y ↦ in_weaker (λ j. Holds (b.reached j)) V right c.value (value_in (λ j. Holds (b.reached j)) bs b.avoids.1 c i y)
          ]),
          λ v. elim (in_one (a.reached m) (b.reached m) v) [ inl x ↦ a.avoids.2 x | inr y ↦ b.avoids.2 y ],
        );
        within = joined_in V h M S (in_weaker (λ j. Holds (a.reached j)) V left M a.within) (in_weaker (λ j. Holds (b.reached j)) V right (root h S) b.within);
      }

  -- another metavariable of a bare type, whose values mention only what avoids m
  one_avoided : (k : ℕ) (r : ℕ → Bool) → Avoids Ψ bs m (λ j. Holds (r j)) → (k ≡ m → ⊥) → HasBareType Ψ k → ((b : Binding) → Member b bs → b.of ≡ k → MetavariablesIn (λ j. Holds (r j)) b.value) → IsAvoided Ψ bs (root (metavariable k) nil) m
  one_avoided k r a n (c, t) f =
      let V : ℕ → Type 0 = λ j. Holds (with_one k r j) in
      let more : (j : ℕ) → Holds (r j) → V j = λ j. in_right (nat_eq k j) (r j) in
      let bare : (A : LfType) → Ψ k ≡ Some A → MetavariablesInType V A = λ A d. let e : Some (atom c nil) ≡ Some A = sym t ∙ d in let g : atom c nil ≡ A = cc in subst (MetavariablesInType V) g tt in
      record {
        reached = with_one k r;
        avoids = (
          λ j A v d. elim (in_one (nat_eq k j) (r j) v) [ inl x ↦ bare A (ap Ψ (is_one k j x) ∙ d) | inr y ↦ in_weaker_type (λ i. Holds (r i)) V more A (a.0 j A y d) ],
          values_in Ψ bs V bs (λ b i v. in_weaker (λ j. Holds (r j)) V more b.value (elim (in_one (nat_eq k b.of) (r b.of) v) [ inl x ↦ f b i (sym (is_one k b.of x)) | inr y ↦ value_in (λ j. Holds (r j)) bs a.1 b i y ])),
          λ v. elim (in_one (nat_eq k m) (r m) v) [ inl x ↦ n (is_one k m x) | inr y ↦ a.2 y ],
        );
        within = (in_left (nat_eq k k) (r k) (one_in k), tt);
      }

  -- it has a value
  pub value_avoided : (k : ℕ) (N : Term) → (k ≡ m → ⊥) → HasBareType Ψ k → ((b : Binding) → Member b bs → b.of ≡ k → N ≡ b.value) → IsAvoided Ψ bs N m → IsAvoided Ψ bs (root (metavariable k) nil) m
  value_avoided k N n t f a = one_avoided k a.reached a.avoids n t (λ b i e. subst (MetavariablesIn (λ j. Holds (a.reached j))) (f b i e) a.within)

  -- it has none
  pub unbound_avoided : (k : ℕ) → (k ≡ m → ⊥) → HasBareType Ψ k → ((b : Binding) → Member b bs → b.of ≡ k → ⊥) → IsAvoided Ψ bs (root (metavariable k) nil) m
  unbound_avoided k n t f = one_avoided k (λ j. false) (λ j A h d. absurd h, values_in Ψ bs (λ j. Holds false) bs (λ b i h. absurd h), λ h. h) n t (λ b i e. absurd (f b i e))

  -- so much of the arguments T was visited that S is left
  abbrev pub ArgumentsAvoided : Spine → Spine → Type 0
  ArgumentsAvoided S T = (h : Head) → IsAvoided Ψ bs (root h S) m → IsAvoided Ψ bs (root h T) m

  pub avoided_step : (M : Term) (S S' T : Spine) → S ≡ app M S' → IsAvoided Ψ bs M m → ArgumentsAvoided S T → ArgumentsAvoided S' T
  avoided_step M S S' T e a f h b = f h (subst (λ X. IsAvoided Ψ bs (root h X) m) (sym e) (both_avoided h M S' a b))

pub bare_told : (Ψ : ℕ → Option LfType) (k : ℕ) (b : Bool) (A : LfType) (c : ℕ) → Ψ k ≡ Some A → (b ≡ true → A ≡ atom c nil) → OnTrue b (HasBareType Ψ k)
bare_told Ψ k true A c d e = (c, d ∙ ap (λ X. Some X) (e refl))
bare_told Ψ k false A c d e = tt
