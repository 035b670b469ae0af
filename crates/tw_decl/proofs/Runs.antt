-- What the leaves of a run are, and how they end.
use Rattle.std.proofs.Common.{◌≡◌, ℕ, suc, List, [], ◌∷◌, length, Some, None, ◌⊎◌, inl, inr, refl, sym, ap, ◌∙◌, subst, arith}
use Rattle.std.specs.Prelude.{IsSome}
use Rattle.lf.specs.Entries.{Entry}
use Rattle.lf_search.specs.Bounded as bounded
use Rattle.lf_search.specs.Bounded.{Bound, QueryRuns, answers_among, end_by, ends, number, star, stops}
use Rattle.lf_unification.specs.Lists.{followed}
use Rattle.lf_unification.specs.Query.{Query, at_last, none_asked}
use Rattle.lf_unification.specs.Search.{Node, answer_leaves, without_equations}
use Rattle.tw_metas.specs.declared.left.LeftEquation.{LeftEquation}
use Rattle.tw_query.specs.Runs.{AreShownAs, IsRunOf, answers_in, end_in}
use Rattle.tw_query.specs.View.{end_of}
use Rattle.tw_query.specs.declared.run.Leaf.{Leaf}
use Rattle.tw_query.specs.declared.run.Leaf.TheVariants as leaf
use Rattle.tw_query.specs.declared.run.QueryEnd.{QueryEnd}
use Rattle.tw_query.specs.declared.run.QueryEnd.TheVariants as query_ends
use Rattle.tw_query.proofs.Leaves.{ends_so}
use Rattle.tw_search.specs.declared.answer.Answer.{Answer}
use Rattle.tw_signature.specs.Goal.{Goal}
use Rattle.tw_decl.specs.Searching.{first_answer, first_left}
use Rattle.tw_decl.specs.SearchSteps.{AreAnswers, IsAnswerLeaf}

-- each answer that is shown is one of the goal
shown_answers : (es : List Entry) (g : Goal) (ls : List Node) (xs : List Leaf) → AreShownAs es g ls xs → AreAnswers es g xs
shown_answers es g [] [] h = tt
shown_answers es g [] (x ∷ xs) h = absurd h
shown_answers es g (l ∷ ls) [] h = absurd h
shown_answers es g (l ∷ ls) (leaf.Answer a ∷ xs) (v, h) = (v.typed, shown_answers es g ls xs h)
shown_answers es g (l ∷ ls) (leaf.Outside e ∷ xs) (v, h) = (tt, shown_answers es g ls xs h)

pub run_answers : (es : List Entry) (g : Goal) (b : Bound) (n : ℕ) (xs : List Leaf) (end : QueryEnd) (tries : ℕ) → IsRunOf es g b n xs end tries → AreAnswers es g xs
run_answers es g b n xs end tries r = shown_answers es g r.nodes xs r.shown

pub first_is_answer : (es : List Entry) (g : Goal) (xs : List Leaf) (a : Answer) → AreAnswers es g xs → first_answer xs ≡ Some a → IsAnswerLeaf es g (leaf.Answer a)
first_is_answer es g [] a h e = (let z : None ≡ Some a = e in cc)
first_is_answer es g (leaf.Answer b ∷ xs) a (v, h) e = let q : b ≡ a = (let z : Some b ≡ Some a = e in cc) in subst (λ x. IsAnswerLeaf es g (leaf.Answer x)) q v
first_is_answer es g (leaf.Outside left ∷ xs) a (v, h) e = first_is_answer es g xs a h e

-- how leaves end by themselves
end_same : (a b : QueryEnd) → end_of a ≡ end_of b → a ≡ b
end_same query_ends.Stopped query_ends.Stopped e = refl
end_same query_ends.Stopped query_ends.Exhausted e = (let z : bounded.stopped ≡ bounded.exhausted = e in cc)
end_same query_ends.Stopped query_ends.Incomplete e = (let z : bounded.stopped ≡ bounded.incomplete = e in cc)
end_same query_ends.Exhausted query_ends.Stopped e = (let z : bounded.exhausted ≡ bounded.stopped = e in cc)
end_same query_ends.Exhausted query_ends.Exhausted e = refl
end_same query_ends.Exhausted query_ends.Incomplete e = (let z : bounded.exhausted ≡ bounded.incomplete = e in cc)
end_same query_ends.Incomplete query_ends.Stopped e = (let z : bounded.incomplete ≡ bounded.stopped = e in cc)
end_same query_ends.Incomplete query_ends.Exhausted e = (let z : bounded.incomplete ≡ bounded.exhausted = e in cc)
end_same query_ends.Incomplete query_ends.Incomplete e = refl

ends_left : (xs : List Leaf) → end_in xs ≡ query_ends.Incomplete → IsSome (first_left xs)
ends_left [] e = (let z : query_ends.Exhausted ≡ query_ends.Incomplete = e in absurd cc)
ends_left (leaf.Answer a ∷ xs) e = ends_left xs e
ends_left (leaf.Outside left ∷ xs) e = refl

ends_with : (xs : List Leaf) (left : LeftEquation) → first_left xs ≡ Some left → end_in xs ≡ query_ends.Incomplete
ends_with [] left e = (let z : None ≡ Some left = e in cc)
ends_with (leaf.Answer a ∷ xs) left e = ends_with xs left e
ends_with (leaf.Outside other ∷ xs) left e = refl

ends_without : (xs : List Leaf) → first_left xs ≡ None → end_in xs ≡ query_ends.Exhausted
ends_without [] e = refl
ends_without (leaf.Answer a ∷ xs) e = ends_without xs e
ends_without (leaf.Outside left ∷ xs) e = (let z : Some left ≡ None = e in cc)

-- a run stops, with as many answers as are asked for, or it ends as its leaves do
abbrev Stopped : Bound → ℕ → Type 0
Stopped b k = (t : ℕ) × (b ≡ number t) × (k ≡ t)

last_counts : (earlier : List Node) (last : Node) → last.store.equations ≡ [] → answers_among (followed earlier (last ∷ [])) ≡ suc (answers_among earlier)
last_counts [] last e = ap (λ ds. length (without_equations last ds [])) e
last_counts (x ∷ earlier) last e = one x (last_counts earlier last e) x.store.equations refl
  where
    one : (x : Node) → answers_among (followed earlier (last ∷ [])) ≡ suc (answers_among earlier) → (ds : List _) → x.store.equations ≡ ds → answers_among (x ∷ followed earlier (last ∷ [])) ≡ suc (answers_among (x ∷ earlier))
    one x h [] q = ap (λ es. length (without_equations x es (answer_leaves (followed earlier (last ∷ []))))) q ∙ ap suc h ∙ sym (ap (λ es. suc (length (without_equations x es (answer_leaves earlier)))) q)
    one x h (d ∷ ds) q = ap (λ es. length (without_equations x es (answer_leaves (followed earlier (last ∷ []))))) q ∙ h ∙ sym (ap (λ es. suc (length (without_equations x es (answer_leaves earlier)))) q)

how_it_ends : (es : List Entry) (q : Query) (n : ℕ) (b : Bound) (ls : List Node) (end : bounded.QueryEnd) (tries : ℕ) → QueryRuns es q n b ls end tries → ((end ≡ bounded.stopped) × Stopped b (answers_among ls)) ⊎ (end ≡ end_by ls)
how_it_ends es q n (number t) ls end tries (stops none_asked w) = inl (refl, (0, refl, refl))
how_it_ends es q n (number t) ls end tries (stops (at_last {earlier = earlier} {last = last} r g e) w) = inl (refl, (t, refl, last_counts earlier last e))
how_it_ends es q n b ls end tries (ends s w f) = inr refl

by_leaves : (es : List Entry) (g : Goal) (b : Bound) (n : ℕ) (xs : List Leaf) (end : QueryEnd) (tries : ℕ) → IsRunOf es g b n xs end tries → ((end ≡ query_ends.Stopped) × Stopped b (answers_in xs)) ⊎ (end ≡ end_in xs)
by_leaves es g b n xs end tries r = elim (how_it_ends es r.query n b r.nodes (end_of end) tries r.runs) [
  | inl (e, (t, p, q)) ↦ inl (end_same end query_ends.Stopped e, (t, p, r.count ∙ q))
  | inr e ↦ inr (end_same end (end_in xs) (e ∙ ends_so es g r.nodes xs r.shown))
]

-- a run that ends incomplete has a leaf that is left over
pub incomplete_left : (es : List Entry) (g : Goal) (b : Bound) (n : ℕ) (xs : List Leaf) (end : QueryEnd) (tries : ℕ) → IsRunOf es g b n xs end tries → end ≡ query_ends.Incomplete → IsSome (first_left xs)
incomplete_left es g b n xs end tries r e = elim (by_leaves es g b n xs end tries r) [
  | inl (s, c) ↦ (let z : query_ends.Stopped ≡ query_ends.Incomplete = sym s ∙ e in absurd cc)
  | inr s ↦ ends_left xs (sym s ∙ e)
]

none_found : (xs : List Leaf) → first_answer xs ≡ None → answers_in xs ≡ 0
none_found [] e = refl
none_found (leaf.Answer a ∷ xs) e = (let z : Some a ≡ None = e in cc)
none_found (leaf.Outside left ∷ xs) e = none_found xs e

-- one that looks for an answer and has none doesn't stop
ends_so_alone : (es : List Entry) (g : Goal) (n : ℕ) (xs : List Leaf) (end : QueryEnd) (tries : ℕ) → IsRunOf es g (number 1) n xs end tries → first_answer xs ≡ None → end ≡ end_in xs
ends_so_alone es g n xs end tries r e = elim (by_leaves es g (number 1) n xs end tries r) [
  | inl (s, (t, p, q)) ↦ (
      let k : 1 ≡ t = (let z : number 1 ≡ number t = p in cc) in
      let none : answers_in xs ≡ 0 = none_found xs e in
      absurd (omega (arith, k, none, q))
      )
  | inr s ↦ s
]

pub left_alone : (es : List Entry) (g : Goal) (n : ℕ) (xs : List Leaf) (end : QueryEnd) (tries : ℕ) (left : LeftEquation) → IsRunOf es g (number 1) n xs end tries → first_answer xs ≡ None → first_left xs ≡ Some left → end ≡ query_ends.Incomplete
left_alone es g n xs end tries left r e f = ends_so_alone es g n xs end tries r e ∙ ends_with xs left f

pub none_alone : (es : List Entry) (g : Goal) (n : ℕ) (xs : List Leaf) (end : QueryEnd) (tries : ℕ) → IsRunOf es g (number 1) n xs end tries → first_answer xs ≡ None → first_left xs ≡ None → end ≡ query_ends.Exhausted
none_alone es g n xs end tries r e f = ends_so_alone es g n xs end tries r e ∙ ends_without xs f
