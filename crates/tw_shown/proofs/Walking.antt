-- What the calls add, one after the other.
use Rattle.std.proofs.Common.{◌≡◌, ℕ, zero, suc, ◌+◌, ◌-◌, ◌<◌, ◌≤◌, List, [], ◌∷◌, ◌++◌, length, drop, Bool, true, false, cond, ltb, Option, Some, Result, Ok, Err, OnOk, refl, sym, ap, ap₂, ◌∙◌, subst, arith, append_assoc}
use Rattle.std.proofs.lemmas.Bool.{ltb-true, ltb-false}
use Rattle.std.proofs.lemmas.List.{append-nil, drop_all}
use Rattle.lf.specs.Syntax.{Head, Term, lambda, root, Spine, app, LfType, pi, atom}
use Rattle.lf.specs.Typing.{Signature, instantiate_type}
use Rattle.tw_print.specs.ArgumentView.{any_lambda}
use Rattle.tw_print.specs.Arguments.{Argument, with_type, arguments, bare_arguments, head_type, head_hidden}
use Rattle.tw_print.specs.Names.{Scene}
use Rattle.tw_print.specs.Showable.{AreShowable, Takes}
use Rattle.tw_print.proofs.Typed.{bare, showable_arguments}
use Rattle.tw_terms.specs.View.{args_of}
use Rattle.tw_terms.specs.declared.canonical.Term.{Term as RustTerm}
use Rattle.tw_shown.specs.Shown.{Shown, outer, outside, of_head, of_arguments, of_root, of_atom, of_term, shown_within}
use Rattle.tw_shown.specs.Walks.{Adds, Enters}
use Rattle.tw_shown.proofs.Lists.{outside_append, outside_nothing, bound_inside, bound_outside}
use Rattle.tw_shown.specs.declared.walk.Walk.{Walk}

-- nothing
pub adds_nothing : (p : Walk) → Adds p p []
adds_nothing p = record { shown = sym (append-nil p.shown.items) ∙ sym (ap (λ is. p.shown.items ++ is) (outside_nothing p.binders)); context = refl; binders = refl }

-- a variable of the text's own
pub own_variable : (p : Walk) (i : ℕ) → i < p.binders → Adds p p (i ∷ [])
own_variable p i h = record { shown = sym (append-nil p.shown.items) ∙ sym (ap (λ is. p.shown.items ++ is) (bound_inside p.binders i h)); context = refl; binders = refl }

-- a variable of the context
pub context_variable : (p q : Walk) (i : ℕ) → p.binders ≤ i → q.shown.items ≡ p.shown.items ++ (i - p.binders) ∷ [] → q.context ≡ p.context → q.binders ≡ p.binders → Adds p q (i ∷ [])
context_variable p q i h e g b = record { shown = e ∙ sym (ap (λ is. p.shown.items ++ is) (bound_outside p.binders i h)); context = g; binders = b }

then : (p q r : Walk) (is js : List ℕ) → Adds p q is → Adds q r js → Adds p r (is ++ js)
then p q r is js v w = record {
  shown = w.shown ∙ ap₂ (λ xs n. xs ++ outside n js) v.shown v.binders ∙ append_assoc p.shown.items (outside p.binders is) (outside p.binders js) ∙ sym (ap (λ ks. p.shown.items ++ ks) (outside_append p.binders is js));
  context = w.context ∙ v.context;
  binders = w.binders ∙ v.binders;
}

pub then_at : (p q r : Walk) (is : List ℕ) (J : List LfType → List ℕ) → Adds p q is → Adds q r (J q.context) → Adds p r (is ++ J p.context)
then_at p q r is J v w = then p q r is (J p.context) v (subst (λ G. Adds q r (J G)) v.context w)

-- what is shown under a binder
under : (p q r t : Walk) (A : LfType) (J : List LfType → List ℕ) → Enters p q A → Adds q r (J q.context) → t.shown.items ≡ r.shown.items → t.context ≡ drop 1 r.context → t.binders ≡ r.binders - 1 → Adds p t (outer (J (A ∷ p.context)))
under p q r t A J v w x y z =
    let b : r.binders ≡ suc p.binders = w.binders ∙ v.binders in
    record {
      shown = x ∙ w.shown ∙ ap₂ (λ xs n. xs ++ outside n (J q.context)) v.shown v.binders ∙ ap (λ G. p.shown.items ++ outside p.binders (outer (J G))) v.context;
      context = y ∙ ap (drop 1) (w.context ∙ v.context);
      binders = z ∙ omega (arith, b);
    }

-- a type, and then what stands under a variable of this type
pub bound : (p q r t u : Walk) (A : LfType) (I J : List LfType → List ℕ) → Adds p q (I p.context) → Enters q r A → Adds r t (J r.context) → u.shown.items ≡ t.shown.items → u.context ≡ drop 1 t.context → u.binders ≡ t.binders - 1
    → Adds p u (I p.context ++ outer (J (A ∷ p.context)))
bound p q r t u A I J a b c x y z = then_at p q u (I p.context) (λ G. outer (J (A ∷ G))) a (under q r t u A J b c x y z)

pub on_ok : {T E : Type 0} (r : Result T E) (P Q : Type 0) → (P → Q) → OnOk r P → OnOk r Q
on_ok (Ok x) P Q f h = f h
on_ok (Err e) P Q f h = h

pub adds_by : (p q : Walk) (is js : List ℕ) → is ≡ js → Adds p q is → Adds p q js
adds_by p q is js e w = subst (Adds p q) e w

pub hidden_argument : (p : Walk) (b : Bool) (is : List ℕ) → b ≡ true → Adds p p (cond b [] is)
hidden_argument p b is e = subst (λ x. Adds p p (cond x [] is)) (sym e) (adds_nothing p)

-- the end of a spine
pub walked_all : (p q : Walk) (is js : List ℕ) → js ≡ [] → q.shown.items ++ outside p.binders js ≡ p.shown.items ++ outside p.binders is → q.context ≡ p.context → q.binders ≡ p.binders → Adds p q is
walked_all p q is js e w g b = record { shown = sym (append-nil q.shown.items) ∙ sym (ap (λ ks. q.shown.items ++ ks) (ap (outside p.binders) e ∙ outside_nothing p.binders)) ∙ w; context = g; binders = b }

-- the arguments of a spine without lambdas
pub bare_showable : (Σ : Signature) (G : List LfType) (S T : Spine) (A : LfType) → Takes Σ G S A → T ≡ S → any_lambda S ≡ false → AreShowable Σ G (bare_arguments T)
bare_showable Σ G S T A t e n = subst (λ X. AreShowable Σ G (bare_arguments X)) (sym e) (subst (AreShowable Σ G) (bare S A n) (showable_arguments Σ G S A t))

-- a spine against the type that is left
pub typed_rest : (A B C D : LfType) (M : Term) (S T : Spine) → C ≡ pi A B → T ≡ app M S → D ≡ instantiate_type A M B → arguments C T ≡ with_type M A ∷ arguments D S
typed_rest A B C D M S T e f g = ap₂ arguments e f ∙ sym (ap (λ X. with_type M A ∷ arguments X S) g)

rest_taken : (Σ : Signature) (G : List LfType) (A B : LfType) (M : Term) (S : Spine) → Takes Σ G (app M S) (pi A B) → Takes Σ G S (instantiate_type A M B)
rest_taken Σ G A B M S (a, m, f, t) = t

pub takes_rest : (Σ : Signature) (G : List LfType) (A B C D : LfType) (M : Term) (S T : Spine) → C ≡ pi A B → T ≡ app M S → D ≡ instantiate_type A M B → Takes Σ G T C → Takes Σ G S D
takes_rest Σ G A B C D M S T e f g t =
    let u : Takes Σ G (app M S) (pi A B) = subst (λ X. Takes Σ G X (pi A B)) f (subst (Takes Σ G T) e t) in
    subst (Takes Σ G S) (sym g) (rest_taken Σ G A B M S u)

module _ (s : Scene) (n : ℕ) where
  abbrev P : Shown
  P = shown_within s n

  -- the type doesn't matter where the term is a root
  type_free : (m : ℕ) (G : List LfType) (M : Term) (A : LfType) → (shown_within s m).term G M (Some A) ≡ (shown_within s m).term G (with_type M A).0 (with_type M A).1
  type_free m G (lambda M) A = refl
  type_free zero G (root h S) A = refl
  type_free (suc m) G (root h S) A = refl

  pub typed_argument : (p q : Walk) (M : Term) (A : LfType) (b : Bool) → Adds p q (cond b [] (P.term p.context M (Some A))) → Adds p q (cond b [] (P.term p.context (with_type M A).0 (with_type M A).1))
  typed_argument p q M A b w = adds_by p q _ _ (ap (λ is. cond b [] is) (type_free n p.context M A)) w

  module _ (G : List LfType) where
    left_of : (h k : ℕ) (a : Argument) (xs : List Argument) (b : Bool) → (b ≡ true → k < h) → (b ≡ false → h ≤ k) → of_arguments P s G (drop (h - k) (a ∷ xs)) ≡ cond b [] (P.term G a.0 a.1) ++ of_arguments P s G (drop (h - (k + 1)) xs)
    left_of h k a xs true y z = let l = y refl in let e : h - k ≡ suc (h - (k + 1)) = omega (arith, l) in ap (λ m. of_arguments P s G (drop m (a ∷ xs))) e
    left_of h k a xs false y z =
        let l = z refl in
        let e : h - k ≡ 0 = omega (arith, l) in
        let f : 0 ≡ h - (k + 1) = omega (arith, l) in
        ap (λ m. of_arguments P s G (drop m (a ∷ xs))) e ∙ ap (λ m. P.term G a.0 a.1 ++ of_arguments P s G (drop m xs)) f

    -- one more argument, which is hidden or shown
    pub one_argument : (p q : Walk) (h k d : ℕ) (a : Argument) (xs ys : List Argument) (whole : List ℕ) → xs ≡ a ∷ ys → p.context ≡ G → p.binders ≡ d
        → Adds p q (cond (ltb k h) [] (P.term p.context a.0 a.1)) → p.shown.items ++ outside d (of_arguments P s G (drop (h - k) xs)) ≡ whole → q.shown.items ++ outside d (of_arguments P s G (drop (h - (k + 1)) ys)) ≡ whole
    one_argument p q h k d a xs ys whole e g f w o =
        let b = ltb k h in
        let y : b ≡ true → k < h = ltb-true k h in
        let z : b ≡ false → h ≤ k = ltb-false k h in
        let rest = of_arguments P s G (drop (h - (k + 1)) ys) in
        let one = cond b [] (P.term G a.0 a.1) in
        let same : q.shown.items ≡ p.shown.items ++ outside d one = w.shown ∙ ap₂ (λ m H. p.shown.items ++ outside m (cond b [] (P.term H a.0 a.1))) f g in
        ap (λ is. is ++ outside d rest) same ∙ append_assoc p.shown.items (outside d one) (outside d rest) ∙ sym (ap (λ is. p.shown.items ++ is) (outside_append d one rest))
        ∙ sym (ap (λ is. p.shown.items ++ outside d is) (ap (λ zs. of_arguments P s G (drop (h - k) zs)) e ∙ left_of h k a ys b y z)) ∙ o

    none : (m : ℕ) → of_arguments P s G (drop m []) ≡ []
    none zero = refl
    none (suc m) = refl

    -- no argument is left
    pub no_bare : (args : List RustTerm) (k m : ℕ) → length args ≤ k → of_arguments P s G (drop m (bare_arguments (args_of (drop k args)))) ≡ []
    no_bare args k m h = ap (λ ts. of_arguments P s G (drop m (bare_arguments (args_of ts)))) (drop_all k args h) ∙ none m

    pub no_typed : (A : LfType) (args : List RustTerm) (k m : ℕ) → length args ≤ k → of_arguments P s G (drop m (arguments A (args_of (drop k args)))) ≡ []
    no_typed A args k m h = ap (λ ts. of_arguments P s G (drop m (arguments A (args_of ts)))) (drop_all k args h) ∙ none m

    -- the shown arguments, as the calls have them
    pub bare_shown : (S T : Spine) (A : LfType) (k m : ℕ) → T ≡ S → any_lambda S ≡ false → k ≡ m → of_arguments P s G (drop k (bare_arguments T)) ≡ of_arguments P s G (drop m (arguments A S))
    bare_shown S T A k m e l f = ap₂ (λ i xs. of_arguments P s G (drop i xs)) f (ap bare_arguments e ∙ sym (bare S A l))

    pub typed_shown : (S T : Spine) (A B : LfType) (k m : ℕ) → T ≡ S → B ≡ A → k ≡ m → of_arguments P s G (drop k (arguments B T)) ≡ of_arguments P s G (drop m (arguments A S))
    typed_shown S T A B k m e g f = ap₂ (λ i xs. of_arguments P s G (drop i xs)) f (ap₂ arguments g e)

  -- a head, and then its arguments
  pub head_then : (p q r : Walk) (h : Head) (S : Spine) → Adds p q (of_head h) → Adds q r (of_arguments P s q.context (drop (head_hidden s h) (arguments (head_type s q.context h) S))) → Adds p r (of_root P s p.context h S)
  head_then p q r h S v w = then_at p q r (of_head h) (λ G. of_arguments P s G (drop (head_hidden s h) (arguments (head_type s G h) S))) v w

  pub root_at : (p q : Walk) (M : Term) (h : Head) (S : Spine) (t : Option LfType) (levels : ℕ) → levels ≡ suc n → M ≡ root h S → Adds p q (of_root P s p.context h S) → Adds p q ((shown_within s levels).term p.context M t)
  root_at p q M h S t levels e f w = subst (λ X. Adds p q ((shown_within s levels).term p.context X t)) (sym f) (subst (λ m. Adds p q ((shown_within s m).term p.context (root h S) t)) (sym e) w)

  pub lambda_at : (p q : Walk) (M N : Term) (t : Option LfType) (A B : LfType) (levels : ℕ) → levels ≡ suc n → M ≡ lambda N → t ≡ Some (pi A B) → Adds p q (of_term P s p.context (lambda N) (Some (pi A B))) → Adds p q ((shown_within s levels).term p.context M t)
  lambda_at p q M N t A B levels e f g w =
      subst (λ u. Adds p q ((shown_within s levels).term p.context M u)) (sym g)
      (subst (λ X. Adds p q ((shown_within s levels).term p.context X (Some (pi A B)))) (sym f) (subst (λ m. Adds p q ((shown_within s m).term p.context (lambda N) (Some (pi A B)))) (sym e) w))

  pub atom_at : (p q : Walk) (A : LfType) (a : ℕ) (S : Spine) (levels : ℕ) → levels ≡ suc n → A ≡ atom a S → Adds p q (of_atom P s p.context a S) → Adds p q ((shown_within s levels).type p.context A)
  atom_at p q A a S levels e f w = subst (λ X. Adds p q ((shown_within s levels).type p.context X)) (sym f) (subst (λ m. Adds p q ((shown_within s m).type p.context (atom a S))) (sym e) w)

  pub pi_at : (p q : Walk) (C A B : LfType) (levels : ℕ) → levels ≡ suc n → C ≡ pi A B → Adds p q (P.type p.context A ++ outer (P.type (A ∷ p.context) B)) → Adds p q ((shown_within s levels).type p.context C)
  pi_at p q C A B levels e f w = subst (λ X. Adds p q ((shown_within s levels).type p.context X)) (sym f) (subst (λ m. Adds p q ((shown_within s m).type p.context (pi A B))) (sym e) w)
