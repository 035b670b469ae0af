-- A walk finds what leads to where it began.
use Rattle.std.proofs.Common.{◌≡◌, ◌<◌, ◌≤◌, ◌+◌, ℕ, List, [], ◌++◌, Contains, length, get_or, ◌⊎◌, inl, inr, refl, sym, ap, subst, ◌∙◌, arith}
use Rattle.std.proofs.lemmas.List.Elements.{Contains-append_left, Contains-append_cases, Contains-get_or}
use Rattle.std.proofs.lemmas.List.{get_or_append_left, get_or_default, length-append}
use Rattle.tw_subord.specs.Rows.{row}
use Rattle.tw_subord.specs.Leads.{Leads, leads_itself, leads_on}
use Rattle.tw_subord.specs.Walks.{Walked, InSync, Adds}

-- the walk from b has looked at the first numbers that it found
pub record IsWalk (rows : List (List ℕ)) (b : ℕ) (w : Walked) (next : ℕ) : Type 0 where
  pub in_sync : InSync w
  pub within : next ≤ length w.found
  pub start : Contains w.found b
  pub sound : (a : ℕ) → Contains w.found a → Leads rows a b
  pub looked_at : (j : ℕ) → j < next → j < length w.found → (a : ℕ) → Contains (row rows (get_or w.found j 0)) a → Contains w.found a

pub walk_start : (rows : List (List ℕ)) (b : ℕ) (v w : Walked) → v.found ≡ [] → Adds (λ k. k ≡ b) v w → IsWalk rows b w 0
walk_start rows b v w e p =
    record {
      in_sync = p.in_sync;
      within = omega arith;
      start = p.all b refl;
      sound = λ a h. subst (λ k. Leads rows k b) (sym (p.only a (subst (λ xs. Contains xs a) (p.behind ∙ ap (λ xs. xs ++ p.more) e) h))) leads_itself;
      looked_at = λ j l _ a h. absurd (omega (arith, l));
    }

module _ (rows : List (List ℕ)) (b : ℕ) (v w : Walked) (next : ℕ) (i : IsWalk rows b v next) (inside : next < length v.found) (p : Adds (Contains (row rows (get_or v.found next 0))) v w) where
  still : (a : ℕ) → Contains v.found a → Contains w.found a
  still a h = subst (λ xs. Contains xs a) (sym p.behind) (Contains-append_left v.found p.more a h)

  before : (j : ℕ) → j < next + 1 → (j < next) ⊎ (j ≡ next)
  before j l = grind arith

  looked : (j : ℕ) → (j < next) ⊎ (j ≡ next) → j < length w.found → (a : ℕ) → Contains (row rows (get_or w.found j 0)) a → Contains w.found a
  looked j (inl l) n a h =
      let inner : j < length v.found = omega (arith, l, inside) in
      still a (i.looked_at j l inner a (subst (λ k. Contains (row rows k) a) (ap (λ xs. get_or xs j 0) p.behind ∙ get_or_append_left v.found p.more 0 j inner) h))
  looked j (inr e) n a h =
      p.all a (subst (λ k. Contains (row rows k) a) (ap (λ xs. get_or xs j 0) p.behind ∙ (ap (λ k. get_or (v.found ++ p.more) k 0) e ∙ get_or_append_left v.found p.more 0 next inside)) h)

  longer : next + 1 ≤ length w.found
  longer = let e : length w.found ≡ length v.found + length p.more = ap length p.behind ∙ length-append v.found p.more in omega (arith, e, inside)

  pub walk_step : IsWalk rows b w (next + 1)
  walk_step =
      record {
        in_sync = p.in_sync;
        within = longer;
        start = still b i.start;
        sound = λ a h. elim (Contains-append_cases v.found p.more a (subst (λ xs. Contains xs a) p.behind h)) [
          | inl g ↦ i.sound a g
          | inr g ↦ leads_on (get_or v.found next 0) (p.only a g) (i.sound (get_or v.found next 0) (Contains-get_or v.found next 0 inside))
        ];
        looked_at = λ j l n a h. looked j (before j l) n a h;
      }

-- where all were looked at, it has found just those that lead to b
pub walk_end : (rows : List (List ℕ)) (b : ℕ) (w : Walked) (next : ℕ) → IsWalk rows b w next → length w.found ≤ next → (a : ℕ) → Leads rows a b → Contains w.found a
walk_end rows b w next i all a leads_itself = i.start
walk_end rows b w next i all a (leads_on c h l) = go (walk_end rows b w next i all c l)
  where
    go : Contains w.found c → Contains w.found a
    go (k, n, e) = i.looked_at k (omega (arith, n, all)) n a (subst (λ j. Contains (row rows j) a) (sym e ∙ get_or_default w.found k c 0 n) h)
