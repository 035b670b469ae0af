-- Smaller terms, one step after the other.
use Rattle.std.proofs.Common.{◌≡◌, ℕ, zero, suc, ◌<◌, ◌≤◌, List, [], ◌∷◌, length, get_or, Bool, true, false, refl, sym, ap, ◌∙◌, subst, arith, inl, inr}
use Rattle.std.specs.Prelude.{Decides, ◌⊎◌}
use Rattle.lf.specs.Syntax.{Head, constant, variable, metavariable, Term, Spine, lambda, root, nil, app, LfType, pi, atom}
use Rattle.lf.specs.Typing.{Signature}
use Rattle.lf.proofs.Decidability.{head_unique}
use Rattle.lf_checks.specs.Order.{equal, first_argument, later_argument, smaller, under_constant, under_lambda, under_parameter, size, spine_size}
use Rattle.tw_terms.specs.View.{args_of, term_of}
use Rattle.tw_terms.specs.declared.canonical.Term.{Term as RustTerm}
use Rattle.tw_order.specs.Scopes.{fixed_in, local_in}
use Rattle.tw_order.specs.Smaller.{IsInArguments, IsInBody, IsInFirst, IsSmaller, IsSmallerOrEqual}
use Rattle.tw_order.specs.Taking.{IsPassable, SpineStands, Takes, type_past}
use Rattle.tw_order.specs.declared.scope.Scope.{Scope}
use Rattle.tw_order.proofs.Deciding.{decided_as, decided_no, decided_yes, not_so}
use Rattle.tw_order.proofs.Newest.{newest_below, newest_in}
use Rattle.tw_order.proofs.Standing.{passable_head, spine_first, spine_rest, spine_takes}

module _ (Σ : Signature) (s : Scope) (M : Term) where
  abbrev Passable : Head → LfType → Type 0
  Passable h T = IsPassable Σ s.context.now (fixed_in s) h T

  -- Heads.
  of_constant : (c : ℕ) (S : Spine) (A : LfType) → IsSmaller Σ s M (root (constant c) S) A → (T : LfType) × Passable (constant c) T × IsInArguments Σ s M S T
  of_constant c S A (under_constant {A = T} e h) = (T, e, h)

  of_variable : (i : ℕ) (S : Spine) (A : LfType) → IsSmaller Σ s M (root (variable i) S) A → (T : LfType) × Passable (variable i) T × IsInArguments Σ s M S T
  of_variable i S A (under_parameter {A = T} r t h) = (T, (r, t), h)

  of_root : (h : Head) (S : Spine) (A : LfType) → IsSmaller Σ s M (root h S) A → (T : LfType) × Passable h T × IsInArguments Σ s M S T
  of_root (constant c) S A x = of_constant c S A x
  of_root (variable i) S A x = of_variable i S A x
  of_root (metavariable m) S A x = elim x [ ]

  as_root : (h : Head) (S : Spine) (A T : LfType) → Passable h T → IsInArguments Σ s M S T → IsSmaller Σ s M (root h S) A
  as_root (constant c) S A T p x = under_constant p x
  as_root (variable i) S A T p x = under_parameter p.0 p.1 x
  as_root (metavariable m) S A T p x = absurd p

  pub head_found : (b : Bool) (h : Head) (S : Spine) (T : LfType) → Passable h T → Decides b (IsInArguments Σ s M S T) → (A : LfType) → Decides b (IsSmaller Σ s M (root h S) A)
  head_found b h S T p d A = decided_as b (as_root h S A T p) back d
    where
      back : IsSmaller Σ s M (root h S) A → IsInArguments Σ s M S T
      back x =
          let (U, q, y) = of_root h S A x in
          let C = s.context.now in
          let R = fixed_in s in
          subst (IsInArguments Σ s M S) (head_unique Σ C h U T (passable_head Σ C R h U q) (passable_head Σ C R h T p)) y

  pub head_missing : (h : Head) (S : Spine) → ((T : LfType) → Passable h T → ⊥) → (A : LfType) → Decides false (IsSmaller Σ s M (root h S) A)
  head_missing h S n A = decided_no (λ x. let (T, p, y) = of_root h S A x in n T p)

  -- Arguments.
  no_arguments : (T : LfType) → IsInArguments Σ s M nil T → ⊥
  no_arguments T x = elim x [ ]

  of_atom : (S : Spine) (a : ℕ) (U : Spine) → IsInArguments Σ s M S (atom a U) → ⊥
  of_atom nil a U x = elim x [ ]
  of_atom (app N S) a U x = elim x [ ]

  of_arguments : (N : Term) (S : Spine) (A B : LfType) → IsInArguments Σ s M (app N S) (pi A B) → IsInFirst Σ s M N (pi A B) ⊎ IsInArguments Σ s M S (type_past N (pi A B))
  of_arguments N S A B (first_argument x) = inl x
  of_arguments N S A B (later_argument x) = inr x

  split : (N : Term) (S : Spine) (T : LfType) → IsInArguments Σ s M (app N S) T → IsInFirst Σ s M N T ⊎ IsInArguments Σ s M S (type_past N T)
  split N S (pi A B) x = of_arguments N S A B x
  split N S (atom a U) x = absurd (of_atom (app N S) a U x)

  in_first : (N : Term) (S : Spine) (T : LfType) → IsInFirst Σ s M N T → IsInArguments Σ s M (app N S) T
  in_first N S (pi A B) x = first_argument x
  in_first N S (atom a U) x = absurd x

  in_later : (N : Term) (S : Spine) (T : LfType) → IsInArguments Σ s M S (type_past N T) → IsInArguments Σ s M (app N S) T
  in_later N S (pi A B) x = later_argument x
  in_later N S (atom a U) x = absurd (of_atom S a U x)

  -- The arguments S of a head of type T have been looked at so far that R is left, of a head of type U.
  pub record ArgumentsLeft (S : Spine) (T : LfType) (R : Spine) (U : LfType) : Type 0 where
    pub stands : SpineStands Σ s.context.now R U
    pub onward : IsInArguments Σ s M S T → IsInArguments Σ s M R U
    pub back : IsInArguments Σ s M R U → IsInArguments Σ s M S T

  pub all_left : (S R : Spine) (T U : LfType) → S ≡ R → T ≡ U → SpineStands Σ s.context.now S T → ArgumentsLeft S T R U
  all_left S R T U e f x = subst (λ W. ArgumentsLeft S T W U) e (subst (ArgumentsLeft S T S) f (record { stands = x; onward = λ y. y; back = λ y. y }))

  module _ (S : Spine) (T : LfType) (R : Spine) (U : LfType) (N : Term) (W : Spine) (e : R ≡ app N W) where
    abbrev At : Type 0
    At = ArgumentsLeft S T R U

    here : At → ArgumentsLeft S T (app N W) U
    here x = subst (λ X. ArgumentsLeft S T X U) e x

    pub left_first : At → SpineStands Σ s.context.now (app N nil) U
    left_first x = spine_first Σ s.context.now N W U (here x).stands

    pub left_takes : At → Takes U N
    left_takes x = spine_takes Σ s.context.now N W U (here x).stands

    pub left_found : (b : Bool) → b ≡ true → Decides b (IsInFirst Σ s M N U) → At → Decides true (IsInArguments Σ s M S T)
    left_found b t d x = decided_yes ((here x).back (in_first N W U (d.0 t)))

    pub left_next : (b : Bool) (V : LfType) → b ≡ false → Decides b (IsInFirst Σ s M N U) → V ≡ type_past N U → At → ArgumentsLeft S T W V
    left_next b V t d v x = subst (ArgumentsLeft S T W) (sym v) (record {
      stands = spine_rest Σ s.context.now N W U (here x).stands;
      onward = λ y. elim (split N W U ((here x).onward y)) [ inl z ↦ absurd (not_so b t d z) | inr z ↦ z ];
      back = λ y. (here x).back (in_later N W U y);
    })

  pub none_left : (S : Spine) (T : LfType) (R : Spine) (U : LfType) → R ≡ nil → ArgumentsLeft S T R U → Decides false (IsInArguments Σ s M S T)
  none_left S T R U e x = decided_no (λ y. no_arguments U (subst (λ X. IsInArguments Σ s M X U) e (x.onward y)))

  pub atom_first : (N : Term) (T : LfType) (a : ℕ) (S : Spine) → T ≡ atom a S → Decides false (IsInFirst Σ s M N T)
  atom_first N T a S e = subst (λ X. Decides false (IsInFirst Σ s M N X)) (sym e) (decided_no (λ x. x))

  -- Equal or smaller.
  of_either : (N : Term) (A : LfType) → IsSmallerOrEqual Σ s M N A → (M ≡ N) ⊎ IsSmaller Σ s M N A
  of_either N A equal = inl refl
  of_either N A (smaller x) = inr x

  pub either_equal : (N : Term) (A : LfType) → M ≡ N → Decides true (IsSmallerOrEqual Σ s M N A)
  either_equal N A e = decided_yes (subst (λ X. IsSmallerOrEqual Σ s M X A) e equal)

  pub either_smaller : (b : Bool) (N : Term) (A : LfType) → (M ≡ N → ⊥) → Decides b (IsSmaller Σ s M N A) → Decides b (IsSmallerOrEqual Σ s M N A)
  either_smaller b N A n d = decided_as b smaller (λ x. elim (of_either N A x) [ inl e ↦ absurd (n e) | inr y ↦ y ]) d

  -- Lambdas.
  of_lambda : (N : Term) (A B : LfType) → IsSmaller Σ s M (lambda N) (pi A B) → (y : ℕ) × (local_in s y ≡ true) × IsInBody Σ s M N A B y
  of_lambda N A B (under_lambda y l t x) = (y, l, (t, x))

  pub lambda_found : (N : Term) (A B : LfType) (y : ℕ) → y < s.locals → IsInBody Σ s M N A B y → Decides true (IsSmaller Σ s M (lambda N) (pi A B))
  lambda_found N A B y l x = decided_yes (under_lambda y (newest_in s.locals y _ l) x.0 x.1)

  pub lambda_none : (N : Term) (A B : LfType) → ((y : ℕ) → y < s.locals → IsInBody Σ s M N A B y → ⊥) → Decides false (IsSmaller Σ s M (lambda N) (pi A B))
  lambda_none N A B n = decided_no (λ x. let (y, l, z) = of_lambda N A B x in n y (newest_below s.locals y l) z)

  pub lambda_atom : (N : Term) (A : LfType) (a : ℕ) (S : Spine) → A ≡ atom a S → Decides false (IsSmaller Σ s M (lambda N) A)
  lambda_atom N A a S e = subst (λ X. Decides false (IsSmaller Σ s M (lambda N) X)) (sym e) (decided_no (λ x. elim x [ ]))

-- an argument is no greater than all of them
pub argument_size : (ts us : List RustTerm) (k : ℕ) (x : RustTerm) (S : Spine) → us ≡ ts → S ≡ args_of ts → k < length us → x ≡ get_or us k x → size (term_of x) ≤ spine_size S
argument_size ts us k x S u s h e = subst (λ X. size (term_of x) ≤ spine_size X) (ap args_of u ∙ sym s) (go us k h e)
  where
    go : (ts : List RustTerm) (k : ℕ) → k < length ts → x ≡ get_or ts k x → size (term_of x) ≤ spine_size (args_of ts)
    go [] k h e = absurd (omega (arith, h))
    go (t ∷ ts) zero h e = let q : size (term_of x) ≡ size (term_of t) = ap (λ y. size (term_of y)) e in omega (arith, q)
    go (t ∷ ts) (suc k) h e = let l = go ts k (omega (arith, h)) e in omega (arith, l)
