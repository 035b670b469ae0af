-- A walk over numbers, step by step.
use Rattle.std.proofs.Common.{◌≡◌, ℕ, true, false, nat_eq, List, [], ◌∷◌, ◌++◌, Contains, ◌⊎◌, inl, inr, sym, ap, subst, ◌∙◌, append-nil, if◌then◌else◌, append_assoc}
use Rattle.std.proofs.lemmas.Grind.{common_steps}
use Rattle.std.proofs.lemmas.List.Elements.{Contains-append_left, Contains-append_cases, Contains-push, Contains-push_cases}
use Rattle.std.proofs.lemmas.Bool.Decides.{eqb_tells}
use Rattle.tw_subord.proofs.Quantifiers.{nothing, single}
use Rattle.tw_subord.specs.Walks.{Walked, InSync, Adds}

-- n was met before
pub met_before : (u w : Walked) (n : ℕ) → InSync u → ((k : ℕ) → w.met k ≡ u.met k) → w.found ≡ u.found → u.met n ≡ true → Adds (λ k. k ≡ n) u w
met_before u w n s m f h =
    record {
      more = [];
      behind = f ∙ sym (append-nil u.found);
      all = λ k e. subst (λ xs. Contains xs k) (sym f) ((s k).0 (ap u.met e ∙ h));
      only = λ k i. absurd (nothing k i);
      in_sync = λ k. (λ e. subst (λ xs. Contains xs k) (sym f) ((s k).0 (sym (m k) ∙ e)), λ i. m k ∙ (s k).1 (subst (λ xs. Contains xs k) f i));
    }

module _ (u w : Walked) (n : ℕ) (s : InSync u) (m : (k : ℕ) → w.met k ≡ (if nat_eq n k then true else u.met k)) (f : w.found ≡ u.found ++ n ∷ []) where
  found_now : (k : ℕ) → w.met k ≡ true → Contains w.found k
  found_now k e = go (eqb_tells n k)
    where
      go : ((nat_eq n k ≡ true) × (n ≡ k)) ⊎ ((nat_eq n k ≡ false) × (n ≡ k → ⊥)) → Contains w.found k
      go (inl (t, q)) = subst (Contains w.found) q (subst (λ xs. Contains xs n) (sym f) (Contains-push u.found n))
      go (inr (t, q)) = subst (λ xs. Contains xs k) (sym f) (Contains-append_left u.found (n ∷ []) k ((s k).0 (sym (m k ∙ ap (λ b. if b then true else u.met k) t) ∙ e)))

  marked_now : (k : ℕ) → Contains w.found k → w.met k ≡ true
  marked_now k i = go (eqb_tells n k) (Contains-push_cases u.found n k (subst (λ xs. Contains xs k) f i))
    where
      go : ((nat_eq n k ≡ true) × (n ≡ k)) ⊎ ((nat_eq n k ≡ false) × (n ≡ k → ⊥)) → Contains u.found k ⊎ (n ≡ k) → w.met k ≡ true
      go (inl (t, q)) h = m k ∙ ap (λ b. if b then true else u.met k) t
      go (inr (t, q)) (inl h) = (m k ∙ ap (λ b. if b then true else u.met k) t) ∙ (s k).1 h
      go (inr (t, q)) (inr h) = absurd (q h)

  -- n is met now
  pub met_now : Adds (λ k. k ≡ n) u w
  met_now = record { more = n ∷ []; behind = f; all = λ k e. subst (λ xs. Contains xs k) (sym f) (subst (Contains (u.found ++ n ∷ [])) (sym e) (Contains-push u.found n)); only = λ k i. sym (single n k i); in_sync = λ k. (found_now k, marked_now k) }

-- n was met before
pub met_again : (u w : Walked) (n : ℕ) → InSync u → ((k : ℕ) → w.met k ≡ (if nat_eq n k then true else u.met k)) → w.found ≡ u.found → u.met n ≡ true → Adds (λ k. k ≡ n) u w
met_again u w n s m f h = met_before u w n s same f h
  where
    same : (k : ℕ) → w.met k ≡ u.met k
    same k = go (eqb_tells n k)
      where
        go : ((nat_eq n k ≡ true) × (n ≡ k)) ⊎ ((nat_eq n k ≡ false) × (n ≡ k → ⊥)) → w.met k ≡ u.met k
        go (inl (t, q)) = (m k ∙ ap (λ b. if b then true else u.met k) t) ∙ (sym h ∙ ap u.met q)
        go (inr (t, q)) = m k ∙ ap (λ b. if b then true else u.met k) t

-- nothing more was met
pub adds_nothing : (w : Walked) → InSync w → Adds (Contains []) w w
adds_nothing w s = record { more = []; behind = sym (append-nil w.found); all = λ k h. absurd (nothing k h); only = λ k h. h; in_sync = s }

-- and one more
pub adds_one_more : (u v w : Walked) (ns : List ℕ) (n : ℕ) → Adds (Contains ns) u v → Adds (λ k. k ≡ n) v w → Adds (Contains (ns ++ n ∷ [])) u w
adds_one_more u v w ns n p q =
    record {
      more = p.more ++ q.more;
      behind = q.behind ∙ (ap (λ xs. xs ++ q.more) p.behind ∙ append_assoc u.found p.more q.more);
      all = λ k h. elim (Contains-push_cases ns n k h) [
        | inl i ↦ subst (λ xs. Contains xs k) (sym q.behind) (Contains-append_left v.found q.more k (p.all k i))
        | inr e ↦ q.all k (sym e)
      ];
      only = λ k h. elim (Contains-append_cases p.more q.more k h) [
        | inl i ↦ Contains-append_left ns (n ∷ []) k (p.only k i)
        | inr i ↦ subst (Contains (ns ++ n ∷ [])) (sym (q.only k i)) (Contains-push ns n)
      ];
      in_sync = q.in_sync;
    }

pub ruleset walks = (common_steps, met_before, met_now)
