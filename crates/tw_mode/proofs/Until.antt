-- What is ground at the head of a clause, and what a subgoal makes ground.
use Rattle.std.proofs.Common.{◌≡◌, ℕ, zero, suc, ◌+◌, ◌≤◌, List, [], ◌∷◌, ◌++◌, Bool, true, false, Some, length, length-append, refl, sym, ap, ◌∙◌, arith}
use Rattle.std.specs.Prelude.{cond}
use Rattle.lf.specs.Entries.{quantifiers}
use Rattle.lf.specs.Syntax.{Spine, LfType, pi, atom}
use Rattle.lf.specs.Variables.{everything, hide, nothing, target, target_arguments}
use Rattle.lf_unification.specs.Search.{occurs_type}
use Rattle.lf_checks.specs.Clause.{Clause, outside, variables}
use Rattle.lf_checks.specs.Ground.{ground_from}
use Rattle.lf_checks.specs.GroundUntil.{ground_past}
use Rattle.lf_checks.specs.Marks.{Mark, input_places, output_places}
use Rattle.lf_checks.specs.Strict.{strict_at, strict_goal}
use Rattle.lf_checks.specs.Tests.{both, either}
use Rattle.tw_signature.specs.Marks.{marked}
use Rattle.tw_mode.specs.Scopes.{in_marks}
use Rattle.tw_mode.specs.Solved.{after, with_hidden}
use Rattle.tw_mode.proofs.Occurring.{goal_occurs, places_occur, target_uses_variables}
use Rattle.tw_mode.proofs.Sets.{hidden, marked_set, pushed_hidden}
use mathlib.Core.Path.{fun_ext}

-- a test that implies another
implied : (b v : Bool) → (b ≡ true → v ≡ true) → b ≡ both v b
implied true v h = sym (ap (λ t. both t true) (h refl))
implied false true h = refl
implied false false h = refl

-- One quantifier, of which o says whether it is a variable.
pub one_past : (m : ℕ → List Mark) (c : Clause) (o : Bool) (A : LfType) (X : ℕ → Bool) → ((i : ℕ) → occurs_type i A ≡ true → variables c i ≡ true) → cond o X (after m (outside c.type c.fixed) A X) ≡ ground_past m c o (Some A) X
one_past m c true A X h = refl
one_past m c false A X h = fun_ext (λ i. ap (either (X i)) (implied (strict_goal (output_places (m (target A))) nothing (outside c.type c.fixed) i A) (variables c i) (λ e. h i (goal_occurs (output_places (m (target A))) nothing (outside c.type c.fixed) i A e))))

-- A set of what stands outside, under n quantifiers.
abbrev pub hidden_by : ℕ → (ℕ → Bool) → ℕ → Bool
hidden_by zero U = U
hidden_by (suc n) U = hidden_by n (hide U)

pub outside_hidden : (T : LfType) (U : ℕ → Bool) → outside T U ≡ hidden_by (quantifiers T) U
outside_hidden (pi A B) U = outside_hidden B (hide U)
outside_hidden (atom a S) U = refl

pub hidden_marks : (n d : ℕ) (fs : List Bool) → length fs ≤ d → in_marks false (d + n) fs ≡ hidden_by n (in_marks false d fs)
hidden_marks zero d fs h = ap (λ k. in_marks false k fs) (let q : d + zero ≡ d = omega arith in q)
hidden_marks (suc n) d fs h = ap (λ k. in_marks false k fs) (let q : d + suc n ≡ suc d + n = omega arith in q) ∙ hidden_marks n (suc d) fs (omega (arith, h)) ∙ ap (hidden_by n) (hidden d fs h)

pub hidden_pushed : (n d : ℕ) (gs : List Bool) → length gs ≡ d → in_marks true (d + n) (with_hidden gs n) ≡ hidden_by n (in_marks true d gs)
hidden_pushed zero d gs h = ap (λ k. in_marks true k gs) (let q : d + zero ≡ d = omega arith in q)
hidden_pushed (suc n) d gs h =
    ap (λ k. in_marks true k (with_hidden (gs ++ false ∷ []) n)) (let q : d + suc n ≡ suc d + n = omega arith in q)
    ∙ hidden_pushed n (suc d) (gs ++ false ∷ []) (let k = length-append gs (false ∷ []) in omega (arith, h, k))
    ∙ ap (hidden_by n) (pushed_hidden d gs h)

-- and under those of a type
pub outside_fixed : (T : LfType) (d : ℕ) (fs : List Bool) → length fs ≤ d → in_marks false (d + quantifiers T) fs ≡ outside T (in_marks false d fs)
outside_fixed T d fs h = hidden_marks (quantifiers T) d fs h ∙ sym (outside_hidden T (in_marks false d fs))

pub outside_ground : (T : LfType) (d : ℕ) (gs : List Bool) → length gs ≡ d → in_marks true (d + quantifiers T) (with_hidden gs (quantifiers T)) ≡ outside T (in_marks true d gs)
outside_ground T d gs h = hidden_pushed (quantifiers T) d gs h ∙ sym (outside_hidden T (in_marks true d gs))

pub hidden_length : (gs : List Bool) (k : ℕ) → length (with_hidden gs k) ≡ length gs + k
hidden_length gs zero = let q : length gs ≡ length gs + zero = omega arith in q
hidden_length gs (suc k) = let n = hidden_length (gs ++ false ∷ []) k in let l = length-append gs (false ∷ []) in omega (arith, n, l)

-- The variables of the head: what is marked in its input places is what is ground at first.
pub head_ground : (m : ℕ → List Mark) (c : Clause) (V F B : ℕ → Bool) (d : ℕ) (ps : List Bool) (S : Spine) (hs ns : List Bool) → in_marks true d hs ≡ outside c.type V → F ≡ outside c.type c.fixed → B ≡ nothing → ps ≡ input_places (m (target c.type)) → S ≡ target_arguments c.type → ns ≡ marked d (λ i. strict_at ps B F i S) hs → in_marks true d ns ≡ ground_from V m c
head_ground m c V F B d ps S hs ns g f b p s k =
    ap (in_marks true d) k
    ∙ marked_set (λ i. strict_at ps B F i S) d hs
    ∙ ap (λ X i. either (X i) (strict_at ps B F i S)) g
    ∙ ap (λ q i. either (outside c.type V i) (strict_at q B F i S)) p
    ∙ ap (λ X i. either (outside c.type V i) (strict_at ins X F i S)) b
    ∙ ap (λ X i. either (outside c.type V i) (strict_at ins nothing X i S)) f
    ∙ ap (λ X i. either (outside c.type V i) (strict_at ins nothing (outside c.type c.fixed) i X)) s
    ∙ fun_ext (λ i. ap (either (outside c.type V i)) (implied (strict_at ins nothing (outside c.type c.fixed) i (target_arguments c.type)) (variables c i) (λ e. target_uses_variables everything c.type i (λ j q. refl) (places_occur ins nothing (outside c.type c.fixed) i (target_arguments c.type) e))))
  where
    ins : List Bool
    ins = input_places (m (target c.type))
