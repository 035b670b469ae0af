-- Lists of goals that share their tails.
use Rattle.std.proofs.Common.{◌≡◌, ℕ, zero, suc, ◌+◌, List, [], ◌∷◌, ◌++◌, length, map, reverse, take, Some, refl, sym, ap, ◌∙◌, subst, arith}
use Rattle.std.specs.List.{slice_get}
use Rattle.std.proofs.lemmas.List.{map-append, reverse-append}
use Rattle.lf_unification.specs.Lists.{followed}
use Rattle.tw_terms.specs.declared.canonical.MetaId.{MetaId}
use Rattle.tw_search.specs.Chains.{GoalsAre, IsGrown, no_goal, one_goal}
use Rattle.tw_search.specs.declared.frames.Frame.{Frame}

get_grown : (fs more : List Frame) (k : ℕ) (f : Frame) → slice_get fs k ≡ Some f → slice_get (fs ++ more) k ≡ Some f
get_grown [] more k f e = absurd cc
get_grown (g ∷ fs) more zero f e = e
get_grown (g ∷ fs) more (suc k) f e = get_grown fs more k f e

pub goals_grow : (fs more : List Frame) {n : ℕ} {gs : List ℕ} → GoalsAre fs n gs → GoalsAre (fs ++ more) n gs
goals_grow fs more no_goal = no_goal
goals_grow fs more (one_goal {k = k} {f = f} e r) = one_goal (get_grown fs more k f e) (goals_grow fs more r)

get_last : (fs : List Frame) (f : Frame) → slice_get (fs ++ f ∷ []) (length fs) ≡ Some f
get_last [] f = refl
get_last (g ∷ fs) f = get_last fs f

-- one goal more, in front
pub goal_pushed : (fs : List Frame) (f : Frame) (n : ℕ) (gs : List ℕ) → n ≡ length fs + 1 → GoalsAre fs f.next gs → GoalsAre (fs ++ f ∷ []) n (f.hole.0 ∷ gs)
goal_pushed fs f n gs e g = let s : n ≡ suc (length fs) = omega (arith, e) in subst (λ k. GoalsAre (fs ++ f ∷ []) k (f.hole.0 ∷ gs)) (sym s) (one_goal (get_last fs f) (goals_grow fs (f ∷ []) g))

-- the goals of one hole more, in front of those of the holes before it
pub goals_pushed : (older fs new : List Frame) (f : Frame) (next list : ℕ) (before holes : List MetaId) → new ≡ fs ++ f ∷ [] → list ≡ length fs + 1 → holes ≡ before ++ f.hole ∷ [] →
    ((gs : List ℕ) → GoalsAre older next gs → GoalsAre fs f.next (followed (reverse (map (λ (m : MetaId). m.0) before)) gs)) → (gs : List ℕ) → GoalsAre older next gs → GoalsAre new list (followed (reverse (map (λ (m : MetaId). m.0) holes)) gs)
goals_pushed older fs new f next list before holes e n q h gs g =
    let number = λ (m : MetaId). m.0 in
    let rest = reverse (map number before) in
    let r : reverse (map number holes) ≡ f.hole.0 ∷ rest = ap (λ (ms : List MetaId). reverse (map number ms)) q ∙ ap reverse (map-append number before (f.hole ∷ [])) ∙ reverse-append (map number before) (f.hole.0 ∷ []) in
    subst (λ xs. GoalsAre xs list (followed (reverse (map number holes)) gs)) (sym e)
    (subst (λ ms. GoalsAre (fs ++ f ∷ []) list (followed ms gs)) (sym r) (goal_pushed fs f list (followed rest gs) n (h gs g)))

-- frames that grow
pub grown_itself : (fs : List Frame) → IsGrown fs fs
grown_itself fs = ([], sym (append_none fs))
  where
    append_none : (xs : List Frame) → xs ++ [] ≡ xs
    append_none [] = refl
    append_none (x ∷ xs) = ap (λ l. x ∷ l) (append_none xs)

pub grown_then : (a b c : List Frame) → IsGrown a b → IsGrown b c → IsGrown a c
grown_then a b c (ms, e) (ns, f) = (ms ++ ns, f ∙ ap (λ xs. xs ++ ns) e ∙ again a)
  where
    again : (xs : List Frame) → (xs ++ ms) ++ ns ≡ xs ++ (ms ++ ns)
    again [] = refl
    again (x ∷ xs) = ap (λ l. x ∷ l) (again xs)

pub grown_by_one : (older fs new : List Frame) (f : Frame) → new ≡ fs ++ f ∷ [] → IsGrown older fs → IsGrown older new
grown_by_one older fs new f e g = grown_then older fs new g (f ∷ [], e)

-- the first ones are those from before
pub first_taken : (older fs : List Frame) (n : ℕ) → n ≡ length older → IsGrown older fs → take n fs ≡ older
first_taken older fs n e (more, q) = ap (λ k. take k fs) e ∙ ap (take (length older)) q ∙ go older
  where
    go : (xs : List Frame) → take (length xs) (xs ++ more) ≡ xs
    go [] = none more
      where
        none : (ys : List Frame) → take zero ys ≡ []
        none [] = refl
        none (y ∷ ys) = refl
    go (x ∷ xs) = ap (λ l. x ∷ l) (go xs)
