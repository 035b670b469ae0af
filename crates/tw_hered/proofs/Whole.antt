-- What waits, as it grows and is taken back at its end.
use Rattle.std.proofs.Common.{◌≡◌, ℕ, suc, ◌+◌, ◌-◌, ◌<◌, ◌≤◌, List, [], ◌∷◌, ◌++◌, length, refl, sym, ap, ◌∙◌, subst, arith, Bor, Vec, Global}
use Rattle.std.proofs.Math.Nat.{le-max_left, le-max_right}
use Rattle.lf.specs.Syntax as lf
use Rattle.lf.specs.Syntax.{Spine, nil, app, lambda, root}
use Rattle.lf.specs.Depth.{depth, spine_depth}
use Rattle.lf.specs.Eta.{append}
use Rattle.lf_closures.specs.Environments as pure
use Rattle.lf_closures.specs.Environments.{value_in, spine_value_in}
use Rattle.lf_closures.specs.Typing.{ClosureFits, SpineClosureFits}
use Rattle.lf_closures.proofs.Steps.{first_fits, rest_fits, depth_positive}
use Rattle.tw_terms.specs.View.{head_of, term_of, args_of}
use Rattle.tw_terms.specs.declared.canonical.Head.{Head}
use Rattle.tw_terms.specs.declared.canonical.Spine.{roll-Spine}
use Rattle.tw_terms.specs.declared.canonical.Term.{Term, Root}
use Rattle.tw_hered.specs.declared.environment.Environment.{Environment}
use Rattle.tw_hered.specs.declared.waiting.Waiting.{Waiting}
use Rattle.tw_hered.specs.declared.waiting.Waiting.TheVariants.{Lambda, Argument}
use Rattle.tw_hered.specs.View.{environment_of}
use Rattle.tw_hered.specs.Waiting.{with_term, whole, WaitingFits, AllFit, IsShallow, AllShallow}
use Rattle.tw_hered.proofs.Arguments.{shallow-push}
use Rattle.tw_hered.proofs.Expanded.{append-push, append-nil, root_of}

whole-last : (ws : List Waiting) (w : Waiting) (M : lf.Term) → whole (ws ++ w ∷ []) M ≡ whole ws (with_term w M)
whole-last [] w M = refl
whole-last (v ∷ ws) w M = ap (with_term v) (whole-last ws w M)

fit-last : (ws : List Waiting) (w : Waiting) → AllFit ws → WaitingFits w → AllFit (ws ++ w ∷ [])
fit-last [] w f g = (g, tt)
fit-last (v ∷ ws) w (f, fs) g = (f, fit-last ws w fs g)

fit-front : (ws : List Waiting) (w : Waiting) → AllFit (ws ++ w ∷ []) → AllFit ws × WaitingFits w
fit-front [] w (g, u) = (tt, g)
fit-front (v ∷ ws) w (f, fs) = let (gs, g) = fit-front ws w fs in ((f, gs), g)

shallow-last : (n : ℕ) (ws : List Waiting) (w : Waiting) → AllShallow n ws → IsShallow (n - length ws - 1) w → AllShallow n (ws ++ w ∷ [])
shallow-last n [] w s t = (subst (λ k. IsShallow k w) (omega arith) t, tt)
shallow-last n (v ∷ ws) w (s, ss) t = (s, shallow-last (n - 1) ws w ss (subst (λ k. IsShallow k w) (omega arith) t))

shallow-front : (n : ℕ) (ws : List Waiting) (w : Waiting) → AllShallow n (ws ++ w ∷ []) → AllShallow n ws × IsShallow (n - length ws - 1) w
shallow-front n [] w (t, u) = (tt, subst (λ k. IsShallow k w) (omega arith) t)
shallow-front n (v ∷ ws) w (s, ss) =
    let (ts, t) = shallow-front (n - 1) ws w ss in
    ((s, ts), subst (λ k. IsShallow k w) (omega arith) t)

length-last : (ws : List Waiting) (w : Waiting) → length (ws ++ w ∷ []) ≡ suc (length ws)
length-last [] w = refl
length-last (v ∷ ws) w = ap suc (length-last ws w)

appended_depth : (S : Spine) (M : lf.Term) (T : Spine) → depth M ≤ spine_depth (append S (app M T))
appended_depth nil M T = le-max_left (depth M) (spine_depth T)
appended_depth (app N S) M T =
    let l = le-max_right (depth N) (spine_depth (append S (app M T))) in
    let r = appended_depth S M T in
    omega (arith, l, r)

with_depth : (w : Waiting) (M : lf.Term) → suc (depth M) ≤ depth (with_term w M)
with_depth Lambda M = omega arith
with_depth (Argument h made rest e) M = let a = appended_depth (args_of made.items) M (spine_value_in (environment_of e.now) (args_of rest.now)) in omega (arith, a)

-- each that waits makes the whole deeper
whole_depth : (ws : List Waiting) (M : lf.Term) → length ws + depth M ≤ depth (whole ws M)
whole_depth [] M = omega arith
whole_depth (w ∷ ws) M =
    let d = with_depth w (whole ws M) in
    let r = whole_depth ws M in
    omega (arith, d, r)

pub too_many_wait : (k l : ℕ) (ws : List Waiting) (M : lf.Term) → k ≤ l → l ≡ length ws → k < depth (whole ws M)
too_many_wait k l ws M h e =
    let d = whole_depth ws M in
    let p = depth_positive M in
    omega (arith, h, e, d, p)

-- what is deeper than the levels that are left makes the whole deeper
pub deep_inside : (k l : ℕ) (ws : List Waiting) (M : lf.Term) → l ≡ length ws → k - l < depth M → k < depth (whole ws M)
deep_inside k l ws M e h =
    let d = whole_depth ws M in
    omega (arith, d, e, h)

-- ws make of M what vs make of N, and nothing deeper is in them
pub record Same (ws : List Waiting) (M : lf.Term) (vs : List Waiting) (N : lf.Term) : Type 0 where
  pub fits : AllFit ws
  pub value : whole ws M ≡ whole vs N
  pub shallow : (n : ℕ) → length vs ≤ n → AllShallow n vs → depth N ≤ n - length vs → (length ws ≤ n) × (AllShallow n ws × (depth M ≤ n - length ws))

pub same-at-first : (ws : List Waiting) (M : lf.Term) → AllFit ws → Same ws M ws M
same-at-first ws M f = record { fits = f; value = refl; shallow = λ n l a d. (l, (a, d)) }

-- a lambda takes its body
pub taken-lambda : (ws vs us : List Waiting) (M R N : lf.Term) → ws ≡ vs ++ Lambda ∷ [] → R ≡ lambda M → Same ws M us N → Same vs R us N
taken-lambda ws vs us M R N p q s = record {
  fits = (fit-front vs Lambda (subst AllFit p s.fits)).0;
  value = ap (whole vs) q ∙ sym (whole-last vs Lambda M) ∙ sym (ap (λ x. whole x M) p) ∙ s.value;
  shallow = λ n l a d. shallow n (s.shallow n l a d);
}
  where
    shallow : (n : ℕ) → (length ws ≤ n) × (AllShallow n ws × (depth M ≤ n - length ws)) → (length vs ≤ n) × (AllShallow n vs × (depth R ≤ n - length vs))
    shallow n (l, (a, d)) =
        let e : length ws ≡ suc (length vs) = ap length p ∙ length-last vs Lambda in
        let r : depth R ≡ suc (depth M) = ap depth q in
        (omega (arith, l, e), ((shallow-front n vs Lambda (subst (AllShallow n) p a)).0, omega (arith, l, d, e, r)))

module _ (ws vs us : List Waiting) (h : Head) (made more : Vec Term Global) (rest : Bor (List Term)) (e : Bor Environment) (t : Term) (N : lf.Term) (p : ws ≡ vs ++ Argument h made rest e ∷ []) (q : more.items ≡ made.items ++ t ∷ []) (s : Same ws (term_of t) us N) where
  around : AllFit vs × SpineClosureFits (environment_of e.now) (args_of rest.now)
  around = fit-front vs (Argument h made rest e) (subst AllFit p s.fits)

  shallow_around : (n : ℕ) → (length ws ≤ n) × (AllShallow n ws × (depth (term_of t) ≤ n - length ws)) → (suc (length vs) ≤ n) × (AllShallow n vs × (spine_depth (args_of more.items) ≤ n - length vs - 1))
  shallow_around n (l, (a, d)) =
      let k : length ws ≡ suc (length vs) = ap length p ∙ length-last vs (Argument h made rest e) in
      let (b, m) = shallow-front n vs (Argument h made rest e) (subst (AllShallow n) p a) in
      let t' : depth (term_of t) ≤ n - length vs - 1 = omega (arith, d, k) in
      (omega (arith, l, k), (b, subst (λ x. spine_depth (args_of x) ≤ n - length vs - 1) (sym q) (shallow-push made.items t (n - length vs - 1) m t')))

  -- a head has its last argument
  pub taken-argument : (R : lf.Term) → rest.now ≡ [] → R ≡ root (head_of h) (args_of more.items) → Same vs R us N
  taken-argument R none r = record {
    fits = around.0;
    value = ap (whole vs) (r ∙ ap (root (head_of h)) last) ∙ sym (whole-last vs (Argument h made rest e) (term_of t)) ∙ sym (ap (λ x. whole x (term_of t)) p) ∙ s.value;
    shallow = λ n l a d. shallow n (shallow_around n (s.shallow n l a d));
  }
    where
      last : args_of more.items ≡ append (args_of made.items) (app (term_of t) (spine_value_in (environment_of e.now) (args_of rest.now)))
      last = sym (append-nil (args_of more.items)) ∙ ap (λ x. append (args_of x) nil) q ∙ append-push made.items t nil ∙ ap (λ x. append (args_of made.items) (app (term_of t) (spine_value_in (environment_of e.now) (args_of x)))) (sym none)

      shallow : (n : ℕ) → (suc (length vs) ≤ n) × (AllShallow n vs × (spine_depth (args_of more.items) ≤ n - length vs - 1)) → (length vs ≤ n) × (AllShallow n vs × (depth R ≤ n - length vs))
      shallow n (l, (a, d)) = let k : depth R ≡ suc (spine_depth (args_of more.items)) = ap depth r in (omega (arith, l), (a, omega (arith, l, d, k)))

  -- or its next one is due
  module _ (xs : List Waiting) (first : Term) (others : Bor (List Term)) (due : rest.now ≡ first ∷ others.now) (is : xs ≡ vs ++ Argument h more others e ∷ []) where
    left : SpineClosureFits (environment_of e.now) (app (term_of first) (args_of others.now))
    left = subst (λ x. SpineClosureFits (environment_of e.now) (args_of x)) due around.1

    pub next-fits : ClosureFits (environment_of e.now) (term_of first)
    next-fits = first_fits (environment_of e.now) (term_of first) (args_of others.now) left

    pub next-all-fit : AllFit xs
    next-all-fit = subst AllFit (sym is) (fit-last vs (Argument h more others e) around.0 (rest_fits (environment_of e.now) (term_of first) (args_of others.now) left))

    pub next-value : whole xs (value_in (environment_of e.now) (term_of first)) ≡ whole us N
    next-value = ap (λ x. whole x (value_in (environment_of e.now) (term_of first))) is ∙ whole-last vs (Argument h more others e) (value_in (environment_of e.now) (term_of first)) ∙ ap (λ x. whole vs (root (head_of h) x)) spine ∙ sym (whole-last vs (Argument h made rest e) (term_of t)) ∙ sym (ap (λ x. whole x (term_of t)) p) ∙ s.value
      where
        spine : append (args_of more.items) (spine_value_in (environment_of e.now) (args_of (first ∷ others.now))) ≡ append (args_of made.items) (app (term_of t) (spine_value_in (environment_of e.now) (args_of rest.now)))
        spine = ap (λ x. append (args_of x) (spine_value_in (environment_of e.now) (args_of (first ∷ others.now)))) q ∙ append-push made.items t (spine_value_in (environment_of e.now) (args_of (first ∷ others.now))) ∙ ap (λ x. append (args_of made.items) (app (term_of t) (spine_value_in (environment_of e.now) (args_of x)))) (sym due)

    pub next-shallow : (n : ℕ) → length us ≤ n → AllShallow n us → depth N ≤ n - length us → (length xs ≤ n) × AllShallow n xs
    next-shallow n l a d = go (shallow_around n (s.shallow n l a d))
      where
        go : (suc (length vs) ≤ n) × (AllShallow n vs × (spine_depth (args_of more.items) ≤ n - length vs - 1)) → (length xs ≤ n) × AllShallow n xs
        go (k, (b, m)) =
            let j : length xs ≡ suc (length vs) = ap length is ∙ length-last vs (Argument h more others e) in
            (omega (arith, k, j), subst (AllShallow n) (sym is) (shallow-last n vs (Argument h more others e) b m))

-- nothing waits any more
pub none-wait : (ws us : List Waiting) (M N : lf.Term) → ws ≡ [] → Same ws M us N → M ≡ whole us N
none-wait ws us M N p s = sym (ap (λ x. whole x M) p) ∙ s.value

pub none-wait-shallow : (ws us : List Waiting) (M N : lf.Term) → ws ≡ [] → Same ws M us N → (n : ℕ) → length us ≤ n → AllShallow n us → depth N ≤ n - length us → depth M ≤ n
none-wait-shallow ws us M N p s n l a d = let r = (s.shallow n l a d).1.1 in omega (arith, r)

-- one more waits
module _ (ws xs : List Waiting) (w : Waiting) (is : xs ≡ ws ++ w ∷ []) where
  pub more-fit : AllFit ws → WaitingFits w → AllFit xs
  more-fit f g = subst AllFit (sym is) (fit-last ws w f g)

  pub more-value : (M : lf.Term) → whole xs M ≡ whole ws (with_term w M)
  more-value M = ap (λ x. whole x M) is ∙ whole-last ws w M

  pub more-shallow : (n : ℕ) → length ws < n → AllShallow n ws → IsShallow (n - length ws - 1) w → (length xs ≤ n) × AllShallow n xs
  more-shallow n l a s =
      let j : length xs ≡ suc (length ws) = ap length is ∙ length-last ws w in
      (omega (arith, l, j), subst (AllShallow n) (sym is) (shallow-last n ws w a s))

-- a head before its arguments
pub first-value : (h : Head) (made : Vec Term Global) (all : List Term) (first : Term) (rest : Bor (List Term)) (e : Bor Environment) → made.items ≡ [] → all ≡ first ∷ rest.now → with_term (Argument h made rest e) (value_in (environment_of e.now) (term_of first)) ≡ root (head_of h) (spine_value_in (environment_of e.now) (args_of all))
first-value h made all first rest e p q = ap (λ x. root (head_of h) (append (args_of x) (spine_value_in (environment_of e.now) (args_of (first ∷ rest.now))))) p ∙ ap (λ x. root (head_of h) (spine_value_in (environment_of e.now) (args_of x))) (sym q)

pub begun-shallow : (made : Vec Term Global) (n : ℕ) → made.items ≡ [] → spine_depth (args_of made.items) ≤ n
begun-shallow made n p = subst (λ x. spine_depth (args_of x) ≤ n) (sym p) (omega arith)

-- and without any
pub only-head : (h : Head) (none : Vec Term Global) (e : pure.Environment) (all : List Term) → none.items ≡ [] → all ≡ [] → term_of (Root h (roll-Spine (record { args = none }))) ≡ root (head_of h) (spine_value_in e (args_of all))
only-head h none e all p q = root_of h none ∙ ap (λ x. root (head_of h) (args_of x)) p ∙ ap (λ x. root (head_of h) (spine_value_in e (args_of x))) (sym q)

pub only-head-shallow : (ws : List Waiting) (h : Head) (none : Vec Term Global) (n : ℕ) → none.items ≡ [] → length ws < n → depth (term_of (Root h (roll-Spine (record { args = none })))) ≤ n - length ws
only-head-shallow ws h none n p l =
    let d : depth (term_of (Root h (roll-Spine (record { args = none })))) ≡ 1 = ap depth (root_of h none ∙ ap (λ x. root (head_of h) (args_of x)) p) in
    omega (arith, d, l)
