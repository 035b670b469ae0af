-- Room to take back changes.
use Rattle.std.proofs.Common.{Box, Global, ◌≡◌, ℕ, suc, List, [], ◌∷◌, ◌++◌, length, reverse, refl, sym, ap, ◌∙◌, subst, length-append, ◌<◌, ◌≤◌, ◌+◌, ◌-◌, arith}
use Rattle.std.proofs.lemmas.List.{reverse-append, length-reverse}
use Rattle.tw_metas.specs.State.{State}
use Rattle.tw_metas.specs.View.{bound_by}
use Rattle.tw_metas.specs.Undoing.{HasRoom, states_before, undone}
use Rattle.tw_metas.specs.declared.equation.Equation.{Equation}
use Rattle.tw_metas.specs.declared.change.Change.{Change}
use Rattle.tw_metas.specs.declared.change.Change.TheVariants.{Declared, Bound, Postponed, Settled}

pub more_room : (cap cap' : ℕ) (cs : List Change) (n : ℕ) → cap ≤ cap' → HasRoom cap cs n → HasRoom cap' cs n
more_room cap cap' [] n le h = tt
more_room cap cap' (Declared ∷ cs) n le h = more_room cap cap' cs n le h
more_room cap cap' (Bound m ∷ cs) n le h = more_room cap cap' cs n le h
more_room cap cap' (Postponed ∷ cs) n le h = more_room cap cap' cs (n - 1) le h
more_room cap cap' (Settled at e ∷ cs) n le (a, b, h) = (a, omega arith, more_room cap cap' cs (n + 1) le h)

pub newest_change : (ts us : List Change) (c : Change) → us ≡ ts ++ c ∷ [] → reverse us ≡ c ∷ reverse ts
newest_change ts us c e = ap reverse e ∙ reverse-append ts (c ∷ [])

-- there is room to take back each of the changes that are noted, and the bound metavariables are counted
abbrev pub IsInOrder : ℕ → List Change → ℕ → ℕ → Type 0
IsInOrder cap ts n b = HasRoom cap (reverse ts) n × (b ≡ length (bound_by (reverse ts)))

pub room_kept : (cap cap' n n' b b' : ℕ) (ts us : List Change) → us ≡ ts → n' ≡ n → b' ≡ b → cap ≤ cap' → IsInOrder cap ts n b → IsInOrder cap' us n' b'
room_kept cap cap' n n' b b' ts us e l k le (h, j) =
    subst (λ cs. IsInOrder cap' cs n' b') (sym e) (subst (λ x. HasRoom cap' (reverse ts) x) (sym l) (more_room cap cap' (reverse ts) n le h), k ∙ j)

pub room_postponed : (cap cap' n n' b b' : ℕ) (ts us : List Change) → us ≡ ts ++ Postponed ∷ [] → n' ≡ n + 1 → b' ≡ b → cap ≤ cap' → IsInOrder cap ts n b → IsInOrder cap' us n' b'
room_postponed cap cap' n n' b b' ts us e l k le (h, j) =
    let newest = newest_change ts us Postponed e in (
      subst (λ cs. HasRoom cap' cs n') (sym newest) (subst (λ x. HasRoom cap' (reverse ts) x) (omega arith) (more_room cap cap' (reverse ts) n le h)),
      k ∙ j ∙ ap (λ cs. length (bound_by cs)) (sym newest),
    )

pub room_settled : (cap n n' at : ℕ) (e : Box Equation Global) (ts us : List Change) → us ≡ ts ++ Settled at e ∷ [] → n' + 1 ≡ n → at < n → n ≤ cap → HasRoom cap (reverse ts) n → HasRoom cap (reverse us) n'
room_settled cap n n' at e ts us is l lt le h =
    subst (λ cs. HasRoom cap cs n') (sym (newest_change ts us (Settled at e) is))
    (omega arith, omega arith, subst (λ k. HasRoom cap (reverse ts) k) (sym l) h)

pub count_before : (cs : List Change) (s : State) → length (states_before cs s) ≡ length cs
count_before [] s = refl
count_before (c ∷ cs) s = ap suc (count_before cs (undone c s))

pub count_changes : (ts : List Change) (s : State) → length (states_before (reverse ts) s) ≡ length ts
count_changes ts s = count_before (reverse ts) s ∙ length-reverse ts

bound_in : (cs : List Change) → length (bound_by cs) ≤ length cs
bound_in [] = omega arith
bound_in (Declared ∷ cs) = let h = bound_in cs in omega (arith, h)
bound_in (Bound m ∷ cs) = let h = bound_in cs in omega (arith, h)
bound_in (Postponed ∷ cs) = let h = bound_in cs in omega (arith, h)
bound_in (Settled at e ∷ cs) = let h = bound_in cs in omega (arith, h)

-- where the bound metavariables are counted, one binding more that is noted can be counted too
pub countable : (ts us : List Change) (c : Change) (n : ℕ) → us ≡ ts ++ c ∷ [] → n ≡ length (bound_by (reverse ts)) → n < length us
countable ts us c n e counted =
    let few = bound_in (reverse ts) in
    let all = length-reverse ts in
    let more : length us ≡ length ts + 1 = ap length e ∙ length-append ts (c ∷ []) in
    omega (arith, few, all, more, counted)
