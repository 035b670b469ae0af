-- Whether the variables of a term are in a set, one part after the other.
use Rattle.std.proofs.Common.{◌≡◌, ℕ, zero, suc, ◌≤◌, List, Bool, true, false, length, drop, refl, sym, ap, ap₂, ◌∙◌, subst, true≢false}
use Rattle.std.specs.Prelude.{Decides, ◌↔◌}
use Rattle.std.proofs.Math.ListN.{drop_of_length-le}
use Rattle.lf.specs.Syntax.{Term, Spine, app, root, constant, variable, lambda, LfType, pi, atom}
use Rattle.lf.specs.Variables.{under, Uses, UsesSpine, UsesType}
use Rattle.lf_checks.specs.Tests.{either}
use Rattle.tw_terms.specs.View.{args_of}
use Rattle.tw_terms.specs.declared.canonical.Term.{Term as RustTerm}
use Rattle.tw_clause.specs.Patterns.{newest}
use Rattle.tw_mode.specs.Scopes.{in_marks}
use Rattle.tw_mode.proofs.Sets.{in_marks_inside}
use mathlib.Core.Path.{fun_ext}

-- the set under one more variable
set_under : (o : Bool) (n d : ℕ) (ms : List Bool) → length ms ≤ d → (λ i. either (newest (suc n) i) (in_marks o (suc d) ms i)) ≡ under (λ i. either (newest n i) (in_marks o d ms i))
set_under o n d ms h = fun_ext at
  where
    at : (i : ℕ) → either (newest (suc n) i) (in_marks o (suc d) ms i) ≡ under (λ i. either (newest n i) (in_marks o d ms i)) i
    at zero = refl
    at (suc i) = ap (either (newest n i)) (in_marks_inside o d i ms h)

pub set_inside : (o : Bool) (n d N D : ℕ) (ms : List Bool) → N ≡ suc n → D ≡ suc d → length ms ≤ d → (λ i. either (newest N i) (in_marks o D ms i)) ≡ under (λ i. either (newest n i) (in_marks o d ms i))
set_inside o n d N D ms e f h = ap₂ (λ x y i. either (newest x i) (in_marks o y ms i)) e f ∙ set_under o n d ms h

-- a test that is decided one way is decided the other way where both are the same
pub decides_same : {P Q : Type 0} (b : Bool) → (P → Q) → (Q → P) → Decides b P → Decides b Q
decides_same b f g d = (λ e. f (d.0 e), λ q. d.1 (g q))

pub decides_no : {P : Type 0} → (P → ⊥) → Decides false P
decides_no n = (λ e. absurd (true≢false (sym e)), λ p. absurd (n p))

pub decides_yes : {P : Type 0} → P → Decides true P
decides_yes p = (λ e. p, λ q. refl)

pub no_of : {P : Type 0} (b : Bool) → b ≡ false → Decides b P → P → ⊥
no_of b e d p = true≢false (sym (d.1 p) ∙ e)

pub uses_lambda : (b : Bool) (U V : ℕ → Bool) (M N : Term) → M ≡ lambda N → V ≡ under U → Decides b (Uses V N) → Decides b (Uses U M)
uses_lambda b U V M N e f d = subst (λ X. Decides b (Uses U X)) (sym e) (subst (λ W. Decides b (Uses W N)) f d)

pub uses_constant : (b : Bool) (U : ℕ → Bool) (k : ℕ) (M : Term) (S : Spine) → M ≡ root (constant k) S → Decides b (UsesSpine U S) → Decides b (Uses U M)
uses_constant b U k M S e d = subst (λ X. Decides b (Uses U X)) (sym e) d

pub uses_variable : (b : Bool) (U : ℕ → Bool) (j : ℕ) (M : Term) (S : Spine) → M ≡ root (variable j) S → true ≡ U j → Decides b (UsesSpine U S) → Decides b (Uses U M)
uses_variable b U j M S e t d = subst (λ X. Decides b (Uses U X)) (sym e) (decides_same b (λ u. (sym t, u)) (λ u. u.1) d)

pub no_variable : (U : ℕ → Bool) (j : ℕ) (M : Term) (S : Spine) → M ≡ root (variable j) S → false ≡ U j → Decides false (Uses U M)
no_variable U j M S e t = subst (λ X. Decides false (Uses U X)) (sym e) (decides_no (λ u. true≢false (sym u.0 ∙ sym t)))

pub spine_next : (b : Bool) (U : ℕ → Bool) (S R W : Spine) (M : Term) → b ≡ true → S ≡ app M R → Decides b (Uses U M) → (UsesSpine U S ↔ UsesSpine U W) → UsesSpine U R ↔ UsesSpine U W
spine_next b U S R W M t e d i = (λ r. i.0 (subst (UsesSpine U) (sym e) (d.0 t, r)), λ w. (subst (UsesSpine U) e (i.1 w)).1)

pub spine_fails : (b : Bool) (U : ℕ → Bool) (S R W : Spine) (M : Term) → b ≡ false → S ≡ app M R → Decides b (Uses U M) → (UsesSpine U S ↔ UsesSpine U W) → Decides false (UsesSpine U W)
spine_fails b U S R W M t e d i = decides_no (λ w. no_of b t d (subst (UsesSpine U) e (i.1 w)).0)

pub spine_done : (U : ℕ → Bool) (k : ℕ) (ts : List RustTerm) (W : Spine) → length ts ≤ k → (UsesSpine U (args_of (drop k ts)) ↔ UsesSpine U W) → Decides true (UsesSpine U W)
spine_done U k ts W h i = decides_yes (i.0 (subst (λ xs. UsesSpine U (args_of xs)) (sym (drop_of_length-le ts h)) tt))

pub pi_uses : (a b : Bool) (U V : ℕ → Bool) (T A B : LfType) → T ≡ pi A B → V ≡ under U → a ≡ true → Decides a (UsesType U A) → Decides b (UsesType V B) → Decides b (UsesType U T)
pi_uses a b U V T A B e f t d k = subst (λ X. Decides b (UsesType U X)) (sym e) (decides_same b (λ u. (d.0 t, subst (λ W. UsesType W B) f u)) (λ u. subst (λ W. UsesType W B) (sym f) u.1) k)

pub pi_fails : (a : Bool) (U : ℕ → Bool) (T A B : LfType) → T ≡ pi A B → a ≡ false → Decides a (UsesType U A) → Decides false (UsesType U T)
pi_fails a U T A B e t d = subst (λ X. Decides false (UsesType U X)) (sym e) (decides_no (λ u. no_of a t d u.0))

pub atom_uses : (b : Bool) (U : ℕ → Bool) (T : LfType) (a : ℕ) (S : Spine) → T ≡ atom a S → Decides b (UsesSpine U S) → Decides b (UsesType U T)
atom_uses b U T a S e d = subst (λ X. Decides b (UsesType U X)) (sym e) d
