-- Leaves and what is shown of them, one after another.
use Rattle.std.proofs.Common.{◌≡◌, suc, ◌≤◌, List, [], ◌∷◌, ◌++◌, length, refl, sym, ap, ◌∙◌, subst, arith, inl, inr}
use Rattle.lf.specs.Entries.{Entry}
use Rattle.lf.specs.Subordination.{Member}
use Rattle.lf_unification.specs.Lists.{followed}
use Rattle.lf_unification.specs.Search.{Node, answer_leaves, without_equations}
use Rattle.lf_unification.specs.Unifiers.{Equation}
use Rattle.lf_search.specs.Bounded.{answers_among, end_by, unless_left}
use Rattle.tw_search.specs.Left.{IsLeftAt}
use Rattle.tw_search.specs.declared.answer.Answer.{Answer}
use Rattle.tw_signature.specs.Goal.{Goal}
use Rattle.tw_metas.specs.declared.left.LeftEquation.{LeftEquation}
use Rattle.tw_query.specs.Runs.{AreShownAs, IsAnswerAt, IsShownAs, answers_in, end_in}
use Rattle.tw_query.specs.View.{end_of}
use Rattle.tw_query.specs.declared.run.Leaf.{Leaf}
use Rattle.tw_query.specs.declared.run.Leaf.TheVariants as leaf
use Rattle.tw_query.specs.declared.run.QueryEnd.TheVariants as ends

pub last_member : (ls : List Node) (l : Node) → Member l (followed ls (l ∷ []))
last_member [] l = inl refl
last_member (x ∷ ls) l = inr (last_member ls l)

pub more_answers : (xs : List Leaf) (a : Answer) → answers_in (xs ++ leaf.Answer a ∷ []) ≡ suc (answers_in xs)
more_answers [] a = refl
more_answers (leaf.Answer b ∷ xs) a = ap suc (more_answers xs a)
more_answers (leaf.Outside e ∷ xs) a = more_answers xs a

pub same_answers : (xs : List Leaf) (e : LeftEquation) → answers_in (xs ++ leaf.Outside e ∷ []) ≡ answers_in xs
same_answers [] e = refl
same_answers (leaf.Answer b ∷ xs) e = ap suc (same_answers xs e)
same_answers (leaf.Outside d ∷ xs) e = same_answers xs e

pub no_more_than_leaves : (xs : List Leaf) → answers_in xs ≤ length xs
no_more_than_leaves [] = omega arith
no_more_than_leaves (leaf.Answer b ∷ xs) = let h = no_more_than_leaves xs in omega (arith, h)
no_more_than_leaves (leaf.Outside d ∷ xs) = let h = no_more_than_leaves xs in omega (arith, h)

module _ (es : List Entry) (g : Goal) where
  -- a leaf that is left over has an equation
  pub has_equation : (l : Node) (left : LeftEquation) → IsLeftAt es g l left → (e : Equation) × (ds : List Equation) × (l.store.equations ≡ e ∷ ds)
  has_equation l left w = (w.shows.first, w.shows.others, ap (λ s. s.equations) w.is_store.store ∙ w.shows.is_first)

  -- one more
  pub shown_then : (ls : List Node) (xs : List Leaf) (l : Node) (x : Leaf) → AreShownAs es g ls xs → IsShownAs es g l x → AreShownAs es g (followed ls (l ∷ [])) (xs ++ x ∷ [])
  shown_then [] [] l x h w = (w, tt)
  shown_then [] (y ∷ xs) l x h w = absurd h
  shown_then (k ∷ ls) [] l x h w = absurd h
  shown_then (k ∷ ls) (y ∷ xs) l x (v, h) w = (v, shown_then ls xs l x h w)

  one_end : (l : Node) (ls : List Node) (x : Leaf) (xs : List Leaf) → IsShownAs es g l x → end_by ls ≡ end_of (end_in xs) → end_by (l ∷ ls) ≡ end_of (end_in (x ∷ xs))
  one_end l ls (leaf.Answer a) xs w e = ap (λ ds. unless_left ds (end_by ls)) w.none_left ∙ e
  one_end l ls (leaf.Outside left) xs w e = let (d, ds, q) = has_equation l left w in ap (λ ds. unless_left ds (end_by ls)) q

  -- the end that the leaves have
  pub ends_so : (ls : List Node) (xs : List Leaf) → AreShownAs es g ls xs → end_by ls ≡ end_of (end_in xs)
  ends_so [] [] h = refl
  ends_so [] (y ∷ xs) h = absurd h
  ends_so (k ∷ ls) [] h = absurd h
  ends_so (k ∷ ls) (y ∷ xs) (v, h) = one_end k ls y xs v (ends_so ls xs h)

  one_count : (l : Node) (ls : List Node) (x : Leaf) (xs : List Leaf) → IsShownAs es g l x → answers_in xs ≡ answers_among ls → answers_in (x ∷ xs) ≡ answers_among (l ∷ ls)
  one_count l ls (leaf.Answer a) xs w e = ap suc e ∙ sym (ap (λ ds. length (without_equations l ds (answer_leaves ls))) w.none_left)
  one_count l ls (leaf.Outside left) xs w e = let (d, ds, q) = has_equation l left w in e ∙ sym (ap (λ ds. length (without_equations l ds (answer_leaves ls))) q)

  -- as many answers as leaves that are answers
  pub as_many : (ls : List Node) (xs : List Leaf) → AreShownAs es g ls xs → answers_in xs ≡ answers_among ls
  as_many [] [] h = refl
  as_many [] (y ∷ xs) h = absurd h
  as_many (k ∷ ls) [] h = absurd h
  as_many (k ∷ ls) (y ∷ xs) (v, h) = one_count k ls y xs v (as_many ls xs h)

  -- Where none is left over, each leaf has an answer among those that are shown.
  pub answer_at : (ls : List Node) (xs : List Leaf) → AreShownAs es g ls xs → end_in xs ≡ ends.Exhausted → (l : Node) → Member l ls → (a : Answer) × Member (leaf.Answer a) xs × IsAnswerAt es g l a
  answer_at [] [] h e l m = absurd m
  answer_at [] (y ∷ xs) h e l m = absurd h
  answer_at (k ∷ ls) [] h e l m = absurd h
  answer_at (k ∷ ls) (leaf.Answer a ∷ xs) (v, h) e l (inl m) = (a, inl refl, subst (λ n. IsAnswerAt es g n a) (sym m) v)
  answer_at (k ∷ ls) (leaf.Answer a ∷ xs) (v, h) e l (inr m) = let (b, i, w) = answer_at ls xs h e l m in (b, inr i, w)
  answer_at (k ∷ ls) (leaf.Outside left ∷ xs) (v, h) e l m = absurd cc

  -- each answer that is given is one of the goal
  pub answers_are : (ls : List Node) (xs : List Leaf) → AreShownAs es g ls xs → (a : Answer) → Member (leaf.Answer a) xs → (l : Node) × IsAnswerAt es g l a
  answers_are [] [] h a m = absurd m
  answers_are [] (y ∷ xs) h a m = absurd h
  answers_are (k ∷ ls) [] h a m = absurd h
  answers_are (k ∷ ls) (y ∷ xs) (v, h) a (inl e) = (k, subst (IsShownAs es g k) (sym e) v)
  answers_are (k ∷ ls) (y ∷ xs) (v, h) a (inr m) = answers_are ls xs h a m
