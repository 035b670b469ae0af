-- A bound variable up to eta in a text that is read is one in the text itself: entries are read as other variables.
use Rattle.std.proofs.Common.{◌≡◌, ℕ, zero, suc, Option, Some, None, refl, sym, ap, ap₂, ◌∙◌, subst, true≢false}
use Rattle.std.specs.Prelude.{Bool, true, false}
use Rattle.lf.specs.Syntax.{constant, variable, metavariable, Term, Spine, lambda, root, nil, app, Skeleton, base, arrow, rename_spine}
use Rattle.lf.specs.Eta.{add_last, eta_expand, eta_long}
use Rattle.lf.specs.Variables.{under, Uses, UsesSpine}
use Rattle.lf.proofs.Uses.{uses_renamed}
use Rattle.lf_coverage.proofs.Parts.{none_some, some_same}
use Rattle.lf_numbered.specs.Reading.{read, read_spine, read_constant, weaken_read}

-- what constants are read as isn't one of U
abbrev pub Elsewhere : (ℕ → Option (ℕ × ℕ)) → (ℕ → Bool) → Type 0
Elsewhere f U = (c m v : ℕ) → f c ≡ Some (m, v) → U v ≡ false

pub weaken_some : (x : Option (ℕ × ℕ)) (m v : ℕ) → weaken_read x ≡ Some (m, v) → (w : ℕ) × (x ≡ Some (m, w)) × (v ≡ suc w)
weaken_some None m v e = absurd (none_some e)
weaken_some (Some (n, w)) m v e = (w, ap (λ k. Some (k, w)) (ap first (some_same e)), sym (ap second (some_same e)))
  where
    first : ℕ × ℕ → ℕ
    first (a, b) = a

    second : ℕ × ℕ → ℕ
    second (a, b) = b

pub weaken_none : (x : Option (ℕ × ℕ)) → weaken_read x ≡ None → x ≡ None
weaken_none None e = refl
weaken_none (Some (m, v)) e = absurd cc

elsewhere_under : (f : ℕ → Option (ℕ × ℕ)) (U : ℕ → Bool) → Elsewhere f U → Elsewhere (λ c. weaken_read (f c)) (under U)
elsewhere_under f U h c m v e = let (w, p, q) = weaken_some (f c) m v e in ap (under U) q ∙ h c m w p

unread_constant : (f : ℕ → Option (ℕ × ℕ)) (U : ℕ → Bool) → Elsewhere f U → (c : ℕ) (S : Spine) (x : Option (ℕ × ℕ)) → f c ≡ x → (UsesSpine U (read_spine f S) → read_spine f S ≡ S) → Uses U (read_constant x c (read_spine f S)) → read_constant x c (read_spine f S) ≡ root (constant c) S
unread_constant f U h c S None e k u = ap (root (constant c)) (k u)
unread_constant f U h c S (Some (m, v)) e k (w, u) = absurd (true≢false (sym w ∙ h c m v e))

mutual
  -- a text whose reading has only variables of U is its reading
  pub unread : (f : ℕ → Option (ℕ × ℕ)) (U : ℕ → Bool) → Elsewhere f U → (M : Term) → Uses U (read f M) → read f M ≡ M
  unread f U h (lambda M) u = ap lambda (unread (λ c. weaken_read (f c)) (under U) (elsewhere_under f U h) M u)
  unread f U h (root (constant c) S) u = unread_constant f U h c S (f c) refl (unread_spine f U h S) u
  unread f U h (root (variable i) S) (v, u) = ap (root (variable i)) (unread_spine f U h S u)
  unread f U h (root (metavariable m) S) u = ap (root (metavariable m)) (unread_spine f U h S u)

  unread_spine : (f : ℕ → Option (ℕ × ℕ)) (U : ℕ → Bool) → Elsewhere f U → (S : Spine) → UsesSpine U (read_spine f S) → read_spine f S ≡ S
  unread_spine f U h nil u = refl
  unread_spine f U h (app M S) (m, u) = ap₂ app (unread f U h M m) (unread_spine f U h S u)

uses_last : (U : ℕ → Bool) (S : Spine) (N : Term) → UsesSpine U S → Uses U N → UsesSpine U (add_last S N)
uses_last U nil N s n = (n, tt)
uses_last U (app M S) N (m, s) n = (m, uses_last U S N s n)

uses_expanded : (b : Skeleton) (U : ℕ → Bool) (y : ℕ) (S : Spine) → U y ≡ true → UsesSpine U S → Uses U (eta_expand b (variable y) S)
uses_expanded (base c) U y S e s = (e, s)
uses_expanded (arrow a b) U y S e s = uses_expanded b (under U) (suc y) (add_last (rename_spine suc S) (eta_long a (variable zero))) e (uses_last (under U) (rename_spine suc S) (eta_long a (variable zero)) (uses_renamed U (under U) suc (root (constant 0) S) (λ i u. u) s) (uses_expanded a (under U) zero nil refl tt))

-- So it is of one that is read as an eta-long variable of U.
pub read_eta : (f : ℕ → Option (ℕ × ℕ)) (U : ℕ → Bool) → Elsewhere f U → (M : Term) (b : Skeleton) (y : ℕ) → U y ≡ true → read f M ≡ eta_long b (variable y) → M ≡ eta_long b (variable y)
read_eta f U h M b y u e = sym (unread f U h M (subst (Uses U) (sym e) (uses_expanded b U y nil u tt))) ∙ e
