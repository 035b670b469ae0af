-- What is due, part by part.
use Rattle.std.proofs.Common.{◌≡◌, ℕ, suc, ◌+◌, ◌-◌, ◌≤◌, ◌<◌, inl, inr, List, [], ◌∷◌, ◌++◌, drop, length, map, reverse, option_map, Option, Some, refl, sym, ap, ap₂, ◌∙◌, subst, arith, append_assoc}
use Rattle.std.proofs.lemmas.List.{append-nil, length-append}
use Rattle.lf.specs.Entries.{signature_of}
use Rattle.lf.specs.Syntax.{LfType, Term as LfTerm, lambda, pi}
use Rattle.lf.specs.Typing.{Signature}
use Rattle.tw_print.specs.Arguments as spec
use Rattle.tw_print.specs.Arguments.{arguments, family_type, head_hidden, head_type, hidden}
use Rattle.tw_print.specs.ArgumentView.{argument_of}
use Rattle.tw_print.specs.Names.{Scene}
use Rattle.tw_print.specs.Showable.{AreShowable, IsShowable, IsShowableContext, IsShowableType}
use Rattle.tw_print.specs.declared.arguments.Argument.{Argument}
use Rattle.tw_print.proofs.Dues.{shown_behind}
use Rattle.tw_print.proofs.Typed.{lambda_body, lambda_domain}
use Rattle.tw_shown.specs.Due.{AllFit, Begins, Goes, Puts, PutsBehind, binders_after, context_after, shown_due, stacked}
use Rattle.tw_shown.specs.Shown.{of_arguments, of_term, of_type, outer, outside, shown_within}
use Rattle.tw_shown.specs.Walks.{Adds, Enters}
use Rattle.tw_shown.specs.declared.due.Due.{Due}
use Rattle.tw_shown.specs.declared.walk.Walk.{Walk}
use Rattle.tw_shown.proofs.Lists.{outside_append, outside_nothing}
use Rattle.tw_terms.specs.View.{term_of, type_of}
use Rattle.tw_terms.specs.declared.canonical.Term.{Term}
use Rattle.tw_terms.specs.declared.canonical.Ty.{Ty}

-- no argument is due yet, and one more
pub none_put : (n keep : ℕ) (xs : List Argument) (old : List Due) → PutsBehind n keep xs xs old old
none_put n keep xs old = record {
  tail = [];
  split = sym (append-nil xs);
  kept = inl refl;
  puts = λ s. record { shown = λ G b. sym (ap (λ is. is ++ shown_due s old G b) (outside_nothing b)); context = λ G. refl; binders = λ b. refl; fits = λ Σ G a f. f };
}

pub one_put : (n keep : ℕ) (xs ys zs : List Argument) (a : Argument) (old middle new : List Due) → PutsBehind n keep xs ys old middle → ys ≡ zs ++ a ∷ [] → keep < length ys → new ≡ Due.Term a.term a.ty n ∷ middle → PutsBehind n keep xs zs old new
one_put n keep xs ys zs a old middle new p e l i = record {
  tail = a ∷ p.tail;
  split = p.split ∙ ap (λ us. us ++ p.tail) e ∙ append_assoc zs (a ∷ []) p.tail;
  kept = inr (let m : length ys ≡ length zs + 1 = ap length e ∙ length-append zs (a ∷ []) in omega (arith, m, l));
  puts = λ s. let q = p.puts s in let one = λ (G : List LfType). (shown_within s n).term G (term_of a.term) (option_map type_of a.ty) in let rest = λ (G : List LfType). of_arguments (shown_within s n) s G (map argument_of p.tail) in record {
    shown = λ G b. ap (λ ds. shown_due s ds G b) i ∙ ap (λ is. outside b (one G) ++ is) (q.shown G b) ∙ sym (append_assoc (outside b (one G)) (outside b (rest G)) (shown_due s old G b)) ∙ ap (λ is. is ++ shown_due s old G b) (sym (outside_append b (one G) (rest G)));
    context = λ G. ap (λ ds. context_after ds G) i ∙ q.context G;
    binders = λ b. ap (λ ds. binders_after ds b) i ∙ q.binders b;
    fits = λ Σ G (x, y) f. subst (AllFit Σ G) (sym i) (x, q.fits Σ G y f);
  };
}

pub all_put : (n keep : ℕ) (xs ys : List Argument) (old new : List Due) → PutsBehind n keep xs ys old new → length ys ≤ keep → (s : Scene) → Puts s n (drop keep (map argument_of xs)) old new
all_put n keep xs ys old new p l s = subst (λ us. Puts s n us old new) (shown_behind keep xs ys p.tail p.split p.kept l) (p.puts s)

module _ (s : Scene) where
  abbrev signature : Signature
  signature = signature_of s.entries

  -- arguments, and a head before them
  pub arguments_begun : (n : ℕ) (p : Walk) (h h' : ℕ) (xs xs' : List spec.Argument) (old new : List Due) → h ≡ h' → xs ≡ xs' → Puts s n (drop h xs) old new → AreShowable signature p.context (drop h' xs') → AllFit signature p.context old
      → Begins s p p (of_arguments (shown_within s n) s p.context (drop h' xs')) old new
  arguments_begun n p h h' xs xs' old new e f u a g =
      let v : Puts s n (drop h' xs') old new = subst (λ us. Puts s n (drop h' us) old new) f (subst (λ k. Puts s n (drop k xs) old new) e u) in
      record {
        shown = ap (λ is. p.shown.items ++ is) (v.shown p.context p.binders);
        context = refl;
        binders = refl;
        context_after = v.context p.context;
        binders_after = v.binders p.binders;
        fits = v.fits signature p.context a g;
      }

  pub head_begun : (n : ℕ) (p q : Walk) (is : List ℕ) (h h' : ℕ) (xs xs' : List spec.Argument) (old new : List Due) → Puts s n (drop h xs) old new → h ≡ h' → xs ≡ xs' → AreShowable signature p.context (drop h' xs') → AllFit signature p.context old → Adds p q is
      → Begins s p q (is ++ of_arguments (shown_within s n) s p.context (drop h' xs')) old new
  head_begun n p q is h h' xs xs' old new u e f a g w =
      let v : Puts s n (drop h' xs') old new = subst (λ us. Puts s n (drop h' us) old new) f (subst (λ k. Puts s n (drop k xs) old new) e u) in
      let js = of_arguments (shown_within s n) s p.context (drop h' xs') in
      let b = p.binders in
      let rest = shown_due s old p.context b in
      record {
        shown = ap₂ (λ us vs. us ++ vs) w.shown (v.shown p.context b) ∙ append_assoc p.shown.items (outside b is) (outside b js ++ rest) ∙ ap (λ us. p.shown.items ++ us) (sym (append_assoc (outside b is) (outside b js) rest) ∙ ap (λ us. us ++ rest) (sym (outside_append b is js)));
        context = w.context;
        binders = w.binders;
        context_after = v.context p.context;
        binders_after = v.binders b;
        fits = v.fits signature p.context a g;
      }

  -- what is due under a variable of this type
  module _ (n : ℕ) (p : Walk) (A B : LfType) (old : List Due) where
    left_again : shown_due s old p.context (suc p.binders - 1) ≡ shown_due s old p.context p.binders
    left_again = let e : suc p.binders - 1 ≡ p.binders = omega arith in ap (shown_due s old p.context) e

    counted_again : binders_after old (suc p.binders - 1) ≡ binders_after old p.binders
    counted_again = let e : suc p.binders - 1 ≡ p.binders = omega arith in ap (binders_after old) e

    parted : (is js rest : List ℕ) → outside p.binders is ++ (outside (suc p.binders) js ++ rest) ≡ outside p.binders (is ++ outer js) ++ rest
    parted is js rest = sym (append_assoc (outside p.binders is) (outside p.binders (outer js)) rest) ∙ ap (λ us. us ++ rest) (sym (outside_append p.binders is (outer js)))

    pub lambda_begun : (M : LfTerm) (body : Term) (domain range entered : Ty) (d1 d2 d3 new : List Due) → term_of body ≡ M → type_of domain ≡ A → type_of range ≡ B → type_of entered ≡ A
        → d1 ≡ Due.Leave ∷ old → d2 ≡ Due.Term body (Some range) n ∷ d1 → d3 ≡ Due.Enter entered ∷ d2 → IsShowable signature p.context (lambda M) (Some (pi A B)) → AllFit signature p.context old → new ≡ Due.Type domain n ∷ d3
        → Begins s p p (of_term (shown_within s n) s p.context (lambda M) (Some (pi A B))) old new
    lambda_begun M body domain range entered d1 d2 d3 new is_body is_domain is_range is_entered e1 e2 e3 typed f e4 =
        let G = p.context in
        let b = p.binders in
        let is : new ≡ Due.Type domain n ∷ Due.Enter entered ∷ Due.Term body (Some range) n ∷ Due.Leave ∷ old =
        e4 ∙ ap (λ ds. Due.Type domain n ∷ ds) (e3 ∙ ap (λ ds. Due.Enter entered ∷ ds) (e2 ∙ ap (λ ds. Due.Term body (Some range) n ∷ ds) e1)) in
        let T = (shown_within s n).type G A in
        let R = (shown_within s n).term (A ∷ G) M (Some B) in
        let rest = shown_due s old G b in
        record {
          shown = ap (λ us. p.shown.items ++ us) (
              ap (λ ds. shown_due s ds G b) is
              ∙ ap (λ X. outside b ((shown_within s n).type G X) ++ (outside (suc b) ((shown_within s n).term (type_of entered ∷ G) (term_of body) (Some (type_of range))) ++ shown_due s old G (suc b - 1))) is_domain
              ∙ ap (λ X. outside b T ++ (outside (suc b) ((shown_within s n).term (X ∷ G) (term_of body) (Some (type_of range))) ++ shown_due s old G (suc b - 1))) is_entered
              ∙ ap (λ X. outside b T ++ (outside (suc b) ((shown_within s n).term (A ∷ G) X (Some (type_of range))) ++ shown_due s old G (suc b - 1))) is_body
              ∙ ap (λ X. outside b T ++ (outside (suc b) ((shown_within s n).term (A ∷ G) M (Some X)) ++ shown_due s old G (suc b - 1))) is_range
              ∙ ap (λ us. outside b T ++ (outside (suc b) R ++ us)) left_again
              ∙ parted T R rest
              );
          context = refl;
          binders = refl;
          context_after = ap (λ ds. context_after ds G) is;
          binders_after = ap (λ ds. binders_after ds b) is ∙ counted_again;
          fits = subst (AllFit signature G) (sym is) (
            subst (IsShowableType signature G) (sym is_domain) (lambda_domain signature G M A B typed),
            (
              subst (IsShowableType signature G) (sym is_entered) (lambda_domain signature G M A B typed),
              (
                subst (λ X. IsShowable signature (X ∷ G) (term_of body) (Some (type_of range))) (sym is_entered)
                    (subst (λ X. IsShowable signature (A ∷ G) X (Some (type_of range))) (sym is_body) (subst (λ X. IsShowable signature (A ∷ G) M (Some X)) (sym is_range) (lambda_body signature G M A B typed))),
                f,
              ),
            ),
          );
        }

    pub pi_begun : (domain range entered : Ty) (d1 d2 d3 new : List Due) → type_of domain ≡ A → type_of range ≡ B → type_of entered ≡ A
        → d1 ≡ Due.Leave ∷ old → d2 ≡ Due.Type range n ∷ d1 → d3 ≡ Due.Enter entered ∷ d2 → IsShowableType signature p.context (pi A B) → AllFit signature p.context old → new ≡ Due.Type domain n ∷ d3
        → Begins s p p (of_type (shown_within s n) s p.context (pi A B)) old new
    pi_begun domain range entered d1 d2 d3 new is_domain is_range is_entered e1 e2 e3 typed f e4 =
        let G = p.context in
        let b = p.binders in
        let is : new ≡ Due.Type domain n ∷ Due.Enter entered ∷ Due.Type range n ∷ Due.Leave ∷ old =
        e4 ∙ ap (λ ds. Due.Type domain n ∷ ds) (e3 ∙ ap (λ ds. Due.Enter entered ∷ ds) (e2 ∙ ap (λ ds. Due.Type range n ∷ ds) e1)) in
        let T = (shown_within s n).type G A in
        let R = (shown_within s n).type (A ∷ G) B in
        let rest = shown_due s old G b in
        record {
          shown = ap (λ us. p.shown.items ++ us) (
              ap (λ ds. shown_due s ds G b) is
              ∙ ap (λ X. outside b ((shown_within s n).type G X) ++ (outside (suc b) ((shown_within s n).type (type_of entered ∷ G) (type_of range)) ++ shown_due s old G (suc b - 1))) is_domain
              ∙ ap (λ X. outside b T ++ (outside (suc b) ((shown_within s n).type (X ∷ G) (type_of range)) ++ shown_due s old G (suc b - 1))) is_entered
              ∙ ap (λ X. outside b T ++ (outside (suc b) ((shown_within s n).type (A ∷ G) X) ++ shown_due s old G (suc b - 1))) is_range
              ∙ ap (λ us. outside b T ++ (outside (suc b) R ++ us)) left_again
              ∙ parted T R rest
              );
          context = refl;
          binders = refl;
          context_after = ap (λ ds. context_after ds G) is;
          binders_after = ap (λ ds. binders_after ds b) is ∙ counted_again;
          fits = subst (AllFit signature G) (sym is) (
            subst (IsShowableType signature G) (sym is_domain) typed.0,
            (
              subst (IsShowableType signature G) (sym is_entered) typed.0,
              (subst (λ X. IsShowableType signature (X ∷ G) (type_of range)) (sym is_entered) (subst (IsShowableType signature (A ∷ G)) (sym is_range) typed.1), f),
            ),
          );
        }

  -- by the levels
  pub term_begun : (n levels : ℕ) (p q : Walk) (M : LfTerm) (t : Option LfType) (old new : List Due) → levels ≡ suc n → Begins s p q (of_term (shown_within s n) s p.context M t) old new → Begins s p q ((shown_within s levels).term p.context M t) old new
  term_begun n levels p q M t old new e b = subst (λ m. Begins s p q ((shown_within s m).term p.context M t) old new) (sym e) b

  pub type_begun : (n levels : ℕ) (p q : Walk) (A : LfType) (old new : List Due) → levels ≡ suc n → Begins s p q (of_type (shown_within s n) s p.context A) old new → Begins s p q ((shown_within s levels).type p.context A) old new
  type_begun n levels p q A old new e b = subst (λ m. Begins s p q ((shown_within s m).type p.context A) old new) (sym e) b

  -- What was shown and what is due come to the same as before.
  pub goes_begun : (p q : Walk) (d : Due) (is : List ℕ) (old new : List Due) → Begins s p q is old new → shown_due s (d ∷ old) p.context p.binders ≡ outside p.binders is ++ shown_due s old p.context p.binders → context_after (d ∷ old) p.context ≡ context_after old p.context → binders_after (d ∷ old) p.binders ≡ binders_after old p.binders
      → IsShowableContext signature p.context → Goes s p q (d ∷ old) new
  goes_begun p q d is old new b e f g h = record {
    shown = ap₂ (λ D k. q.shown.items ++ shown_due s new D k) b.context b.binders ∙ b.shown ∙ ap (λ us. p.shown.items ++ us) (sym e);
    context = ap (context_after new) b.context ∙ b.context_after ∙ sym f;
    binders = ap (binders_after new) b.binders ∙ b.binders_after ∙ sym g;
    showable = subst (IsShowableContext signature) (sym b.context) h;
    fits = subst (λ D. AllFit signature D new) (sym b.context) b.fits;
  }

  pub goes_in : (p q : Walk) (a : Ty) (old : List Due) → Enters p q (type_of a) → AllFit signature p.context (Due.Enter a ∷ old) → IsShowableContext signature p.context → Goes s p q (Due.Enter a ∷ old) old
  goes_in p q a old w f h = record {
    shown = ap₂ (λ D k. q.shown.items ++ shown_due s old D k) w.context w.binders ∙ ap (λ us. us ++ shown_due s old (type_of a ∷ p.context) (suc p.binders)) w.shown;
    context = ap (context_after old) w.context;
    binders = ap (binders_after old) w.binders;
    showable = subst (IsShowableContext signature) (sym w.context) (h, f.0);
    fits = subst (λ D. AllFit signature D old) (sym w.context) f.1;
  }

  without_newest : (D : List LfType) → IsShowableContext signature D → IsShowableContext signature (drop 1 D)
  without_newest [] h = h
  without_newest (A ∷ D) (h, a) = h

  pub goes_out : (p q : Walk) (old : List Due) → q.shown.items ≡ p.shown.items → q.context ≡ drop 1 p.context → q.binders ≡ p.binders - 1 → AllFit signature p.context (Due.Leave ∷ old) → IsShowableContext signature p.context → Goes s p q (Due.Leave ∷ old) old
  goes_out p q old e f g a h = record {
    shown = ap₂ (λ D k. q.shown.items ++ shown_due s old D k) f g ∙ ap (λ us. us ++ shown_due s old (drop 1 p.context) (p.binders - 1)) e;
    context = ap (context_after old) f;
    binders = ap (binders_after old) g;
    showable = subst (IsShowableContext signature) (sym f) (without_newest p.context h);
    fits = subst (λ D. AllFit signature D old) (sym f) a;
  }

  pub goes_then : (p q r : Walk) (old middle new : List Due) → Goes s p q old middle → Goes s q r middle new → Goes s p r old new
  goes_then p q r old middle new g h = record { shown = h.shown ∙ g.shown; context = h.context ∙ g.context; binders = h.binders ∙ g.binders; showable = h.showable; fits = h.fits }

  pub goes_nowhere : (p : Walk) (old : List Due) → IsShowableContext signature p.context → AllFit signature p.context old → Goes s p p old old
  goes_nowhere p old h a = record { shown = refl; context = refl; binders = refl; showable = h; fits = a }

  -- all was walked through
  pub all_walked : (p q : Walk) (is : List ℕ) (old : List Due) → Goes s p q old [] → shown_due s old p.context p.binders ≡ outside p.binders is → context_after old p.context ≡ p.context → binders_after old p.binders ≡ p.binders → Adds p q is
  all_walked p q is old g e f h = record { shown = sym (append-nil q.shown.items) ∙ g.shown ∙ ap (λ us. p.shown.items ++ us) e; context = g.context ∙ f; binders = g.binders ∙ h }

-- Only this is due.
pub alone : (v old new : List Due) (d : Due) → v ≡ [] → old ≡ stacked v → new ≡ d ∷ old → new ≡ d ∷ []
alone v old new d e f g = g ∙ ap (λ ds. d ∷ ds) (f ∙ ap reverse e)
