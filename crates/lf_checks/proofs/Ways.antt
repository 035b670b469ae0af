-- Ways of equal calls: they can be searched for, and give a rank where none leads back.
use Rattle.std.proofs.Common.{◌≡◌, ℕ, List, [], ◌∷◌, ◌<◌, ◌≤◌, refl, sym, ◌∙◌, subst, arith, inl, inr, true≢false}
use Rattle.std.specs.Prelude.{Bool, true, false, ◌⊎◌}
use Rattle.lf.specs.Typing.{Signature}
use Rattle.lf.specs.Variables.{same_number}
use Rattle.lf.specs.Subordination.{Block, Member}
use Rattle.lf_checks.specs.Tests.{both}
use Rattle.lf_checks.specs.Order.{Order}
use Rattle.lf_checks.specs.Descent.{EqualCall, LeadsTo, no_call, after_call, CallsLead, stay, step_on, IsEqualCallTest}
use Rattle.lf_checks.proofs.EtaTest.{both_l, both_r}
use Rattle.lf_checks.proofs.StrictTypes.{either_cases}
use Rattle.lf_checks.proofs.Reach.{reach, rank_in, rank_of, self, call, through, number_equal}

module _ (e : ℕ → ℕ → Bool) where
  join : (a b c : ℕ) → CallsLead e a b → CallsLead e b c → CallsLead e a c
  join a b c stay k = k
  join a b c (step_on {b = d} q h) k = step_on q (join d b c h k)

  -- what the search finds is a way
  reach_sound : (ns : List ℕ) (a b : ℕ) → reach e ns a b ≡ true → CallsLead e a b
  reach_sound [] a b h = by (either_cases (same_number a b) (e a b) h)
    where
      by : (same_number a b ≡ true) ⊎ (e a b ≡ true) → CallsLead e a b
      by (inl q) = subst (CallsLead e a) (number_equal a b q) stay
      by (inr q) = step_on q stay
  reach_sound (n ∷ ns) a b h = by (either_cases (reach e ns a b) (both (reach e ns a n) (reach e ns n b)) h) (reach_sound ns a b) (reach_sound ns a n) (reach_sound ns n b)
    where
      by : (reach e ns a b ≡ true) ⊎ (both (reach e ns a n) (reach e ns n b) ≡ true) → (reach e ns a b ≡ true → CallsLead e a b) → (reach e ns a n ≡ true → CallsLead e a n) → (reach e ns n b ≡ true → CallsLead e n b) → CallsLead e a b
      by (inl q) f g h = f q
      by (inr q) f g h = join a n b (g (both_l (reach e ns a n) (reach e ns n b) q)) (h (both_r (reach e ns a n) (reach e ns n b) q))

  -- and each way among the group is found
  reach_complete : (group : List ℕ) → ((a b : ℕ) → e a b ≡ true → Member a group × Member b group) → (a b : ℕ) → CallsLead e a b → reach e group a b ≡ true
  reach_complete group inside a b stay = self e group a
  reach_complete group inside a b (step_on {b = d} q h) = through e group a d b (inside a d q).1 (call e group a d q) (reach_complete group inside d b h)

  pub rank_exists : (group : List ℕ) → ((a b : ℕ) → e a b ≡ true → Member a group × Member b group) → ((a b : ℕ) → e a b ≡ true → CallsLead e b a → ⊥) → (rank : ℕ → ℕ) × ((a b : ℕ) → e a b ≡ true → rank b < rank a)
  rank_exists group inside acyclic = (rank_in e group, rank_of e group inside (λ a b q. none a b q (reach e group b a) refl))
    where
      none : (a b : ℕ) → e a b ≡ true → (t : Bool) → reach e group b a ≡ t → t ≡ false
      none a b q true h = absurd (acyclic a b q (reach_sound group b a h))
      none a b q false h = refl

  falls_along : (rank : ℕ → ℕ) → ((a b : ℕ) → e a b ≡ true → rank b < rank a) → (a b : ℕ) → CallsLead e a b → rank b ≤ rank a
  falls_along rank f a b stay = omega arith
  falls_along rank f a b (step_on {b = d} q h) = let x : rank d < rank a = f a d q in let y : rank b ≤ rank d = falls_along rank f d b h in omega arith

  pub no_way_back : (rank : ℕ → ℕ) → ((a b : ℕ) → e a b ≡ true → rank b < rank a) → (a b : ℕ) → e a b ≡ true → CallsLead e b a → ⊥
  no_way_back rank f a b q h = let x : rank b < rank a = f a b q in let y : rank a ≤ rank b = falls_along rank f b a h in absurd (omega arith)

module _ (Σ : Signature) (W : List Block) (order : ℕ → Order) (group : List ℕ) (e : ℕ → ℕ → Bool) (t : IsEqualCallTest Σ W order group e) where
  inside : (a b : ℕ) → e a b ≡ true → Member a group × Member b group
  inside a b q = let c : EqualCall Σ W order group a b = (t a b).0 q in (c.caller_in, c.callee_in)

  from_calls : (a b : ℕ) → CallsLead e a b → LeadsTo Σ W order group a b
  from_calls a b stay = no_call
  from_calls a b (step_on {b = d} q h) = after_call ((t a d).0 q) (from_calls d b h)

  to_calls : (a b : ℕ) → LeadsTo Σ W order group a b → CallsLead e a b
  to_calls a b no_call = stay
  to_calls a b (after_call {b = d} q h) = step_on ((t a d).1 q) (to_calls d b h)

  -- so whether equal calls lead from one family to another is decided by the search
  pub leads_decided : (a b : ℕ) → Dec (LeadsTo Σ W order group a b)
  leads_decided a b = by (reach e group a b) refl
    where
      by : (x : Bool) → reach e group a b ≡ x → Dec (LeadsTo Σ W order group a b)
      by true h = yes (from_calls a b (reach_sound e group a b h))
      by false h = no (λ k. true≢false (sym (reach_complete e group inside a b (to_calls a b k)) ∙ h))
