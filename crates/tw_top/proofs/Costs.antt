-- Each leaf costs a try.
use Rattle.std.proofs.Common.{◌≡◌, ℕ, zero, suc, ◌+◌, ◌≤◌, List, [], ◌∷◌, length, ap, arith}
use Rattle.lf.specs.Typing.{Signature}
use Rattle.lf_unification.specs.Lists.{followed}
use Rattle.lf_unification.specs.Search.{Node, Pending, SearchRun, SearchStep, answer_leaves, at_heads, at_node, begin_search, child, no_child, no_head, other_target, search_on, take_goal, take_leaf, without_equations}
use Rattle.lf_unification.specs.Unifiers.{Equation}
use Rattle.lf_search.specs.Bounded.{answers_among}

-- one more where no goal is left
abbrev if_done : List ℕ → ℕ → ℕ
if_done [] n = suc n
if_done (g ∷ gs) n = n

-- the leaves on an agenda
abbrev ready : List Pending → ℕ
ready [] = zero
ready (at_node l ∷ rest) = if_done l.goals (ready rest)
ready (at_heads node g gs D a T hs ∷ rest) = ready rest

at_most : (gs : List ℕ) (n : ℕ) → if_done gs n ≤ n + 1
at_most [] n = omega arith
at_most (g ∷ gs) n = omega arith

length_followed : (xs ys : List Node) → length (followed xs ys) ≡ length xs + length ys
length_followed [] ys = omega arith
length_followed (x ∷ xs) ys = let h = length_followed xs ys in omega (arith, h)

module _ (Σ : Signature) (cs : List ℕ) where
  step_costs : {agenda agenda' : List Pending} {ls : List Node} {k : ℕ} → SearchStep Σ cs agenda ls k agenda' → length ls + ready agenda' ≤ ready agenda + k
  step_costs (take_leaf {rest = rest} e) = let q = ap (λ gs. if_done gs (ready rest)) e in omega (arith, q)
  step_costs (take_goal {rest = rest} e t) = let q = ap (λ gs. if_done gs (ready rest)) e in omega (arith, q)
  step_costs no_head = omega arith
  step_costs (other_target o) = omega arith
  step_costs (no_child o n) = omega arith
  step_costs (child {rest = rest} {node' = node'} o c n e) = let q = at_most node'.goals (ready rest) in omega (arith, q)

  pub run_costs : {agenda agenda' : List Pending} {ls : List Node} {k : ℕ} → SearchRun Σ cs agenda ls k agenda' → length ls + ready agenda' ≤ ready agenda + k
  run_costs begin_search = omega arith
  run_costs (search_on {leaves = ls} {leaves' = ls'} p r) = let a = step_costs p in let b = run_costs r in let c = length_followed ls ls' in omega (arith, a, b, c)

  -- from a node with a goal
  pub leaves_cost : {agenda' : List Pending} {ls : List Node} {k : ℕ} (l : Node) (g : ℕ) (gs : List ℕ) → l.goals ≡ g ∷ gs → SearchRun Σ cs (at_node l ∷ []) ls k agenda' → length ls ≤ k
  leaves_cost l g gs e r = let a = run_costs r in let q = ap (λ hs. if_done hs 0) e in omega (arith, a, q)

one_counts : (l : Node) (es : List Equation) (ls : List Node) → length (without_equations l es ls) ≤ length ls + 1
one_counts l [] ls = omega arith
one_counts l (e ∷ es) ls = omega arith

-- no more answers than leaves
pub answers_below : (ls : List Node) → answers_among ls ≤ length ls
answers_below [] = omega arith
answers_below (l ∷ ls) = let a = answers_below ls in let b = one_counts l l.store.equations (answer_leaves ls) in omega (arith, a, b)
