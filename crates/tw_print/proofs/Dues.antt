-- What is due, part by part.
use Rattle.std.proofs.Common.{◌≡◌, ℕ, zero, suc, ◌+◌, ◌-◌, ◌≤◌, ◌<◌, ◌⊎◌, inl, inr, List, [], ◌∷◌, ◌++◌, drop, take, length, map, reverse, option_to_list, MatchOption, Option, Some, None, Bool, true, false, codes, refl, sym, ap, ◌∙◌, subst, arith, append_assoc}
use Rattle.std.proofs.lemmas.List.{append-nil, reverse-append, map-append, length-append, length-drop, length-map, drop-append-le}
use Rattle.std.specs.Global.{Global}
use Rattle.std.specs.Prelude.{Vec, cond}
use Rattle.lf.specs.Entries.{signature_of}
use Rattle.lf.specs.Syntax.{Head, LfType, Spine, Term as LfTerm, atom, lambda, pi, root}
use Rattle.lf.specs.Typing.{Signature}
use Rattle.tw_fixity.specs.Names.{Names as Scope}
use Rattle.tw_fixity.specs.declared.table.Assoc.{Assoc}
use Rattle.tw_fixity.specs.declared.table.Fix.{Fix}
use Rattle.tw_fixity.specs.declared.table.Fix.TheVariants.{Infix, Prefix, Postfix}
use Rattle.tw_terms.specs.View.{args_of, term_of, type_of}
use Rattle.tw_terms.specs.declared.canonical.Term.{Term}
use Rattle.tw_terms.specs.declared.canonical.Ty.{Ty}
use Rattle.tw_print.specs.Arguments as spec
use Rattle.tw_print.specs.ArgumentView.{argument_of}
use Rattle.tw_print.specs.Due.{AllFit, Begins, Goes, Puts, PutsDomain, PutsSpaced, PutsType, context_after, pieces_due, scope_after, stacked}
use Rattle.tw_print.specs.Marks.{marks_of}
use Rattle.tw_print.specs.Names.{Scene, fresh_name, lower_base}
use Rattle.tw_print.specs.Page.{Binds, Writes}
use Rattle.tw_print.specs.Pieces.{Piece, in_parentheses, render, space, token}
use Rattle.tw_print.specs.Showable.{AreShowable, IsShowable, IsShowableContext, IsShowableType}
use Rattle.tw_print.specs.Shown.{application, argument, is_bare, is_operation, operand, operand_count, in_parentheses_if, operation, parts, plain_application, quantified_test, quantifier, quantifier_name, spaced, term_layout, type_layout}
use Rattle.tw_print.specs.Variables.{occurs_in_type}
use Rattle.tw_print.specs.declared.arguments.Argument.{Argument}
use Rattle.tw_print.specs.declared.due.Due.{Due}
use Rattle.tw_print.specs.declared.page.Page.{Page}
use Rattle.tw_print.proofs.Applications.{just_enough, map-drop, more_than_enough, too_few}
use Rattle.tw_print.proofs.Typed.{lambda_body, lambda_domain}
use Rattle.tw_print.proofs.Writing.{append_pieces, render-append}

-- arguments that can be shown, in two parts
showable_apart : (Σ : Signature) (G : List LfType) (xs ys : List spec.Argument) → AreShowable Σ G (xs ++ ys) → AreShowable Σ G xs × AreShowable Σ G ys
showable_apart Σ G [] ys a = (tt, a)
showable_apart Σ G (x ∷ xs) ys (a, b) = let (c, d) = showable_apart Σ G xs ys b in ((a, c), d)

-- nothing was taken from an empty list
none_popped : {X : Type 0} (xs ys : List X) (n : ℕ) → n ≡ 0 → ys ≡ take (n - 1) xs → xs ≡ ys ++ [] → reverse xs ≡ []
none_popped [] ys n e t q = refl
none_popped (x ∷ xs) ys n e t q =
    let z : n - 1 ≡ 0 = omega (arith, e) in
    let p : x ∷ xs ≡ [] = q ∙ ap (λ zs. zs ++ []) (t ∙ ap (λ k. take k (x ∷ xs)) z) in
    cc

-- what is taken off a stack
pub popped : {X : Type 0} (xs ys : List X) (n m : ℕ) (o : Option X) → xs ≡ ys ++ option_to_list o → MatchOption o ((n ≡ 0) × (m ≡ 0)) (λ _. m + 1 ≡ n) → ys ≡ take (n - 1) xs → MatchOption o (reverse xs ≡ []) (λ c. reverse xs ≡ c ∷ reverse ys)
popped xs ys n m None q k t = none_popped xs ys n k.0 t q
popped xs ys n m (Some c) q k t = ap reverse q ∙ reverse-append ys (c ∷ [])

none_behind : (k : ℕ) (zs : List Argument) → length zs ≤ k → drop k (map argument_of zs ++ []) ≡ []
none_behind zero [] h = refl
none_behind (suc k) [] h = refl
none_behind zero (z ∷ zs) h = absurd (omega (arith, h))
none_behind (suc k) (z ∷ zs) h = none_behind k zs (omega (arith, h))

just_behind : (zs : List Argument) (ts : List spec.Argument) → drop (length zs) (map argument_of zs ++ ts) ≡ ts
just_behind [] ts = refl
just_behind (z ∷ zs) ts = just_behind zs ts

behind : (k : ℕ) (zs ts : List Argument) → (ts ≡ []) ⊎ (k ≤ length zs) → length zs ≤ k → drop k (map argument_of zs ++ map argument_of ts) ≡ map argument_of ts
behind k zs ts (inl e) h = ap (λ us. drop k (map argument_of zs ++ map argument_of us)) e ∙ none_behind k zs h ∙ sym (ap (map argument_of) e)
behind k zs ts (inr g) h = let m : k ≡ length zs = omega (arith, g, h) in ap (λ j. drop j (map argument_of zs ++ map argument_of ts)) m ∙ just_behind zs (map argument_of ts)

-- the arguments behind those that are left are those that are shown
pub shown_behind : (keep : ℕ) (xs ys tail : List Argument) → xs ≡ ys ++ tail → (tail ≡ []) ⊎ (keep ≤ length ys) → length ys ≤ keep → map argument_of tail ≡ drop keep (map argument_of xs)
shown_behind keep xs ys tail e k l = sym (ap (λ us. drop keep (map argument_of us)) e ∙ ap (drop keep) (map-append argument_of ys tail) ∙ behind keep ys tail k l)

-- a term without a type
abbrev pub bare : Term → Argument
bare t = record { term = t; ty = None }

bare_of : (ts : List Term) → map argument_of (map bare ts) ≡ spec.bare_arguments (args_of ts)
bare_of [] = refl
bare_of (t ∷ ts) = ap (λ xs. argument_of (bare t) ∷ xs) (bare_of ts)

module _ (s : Scene) where
  pub puts_none : (old : List Due) → Puts s [] (λ G ns. []) old old
  puts_none old = record { pieces = λ G ns. refl; context = λ G. refl; scope = λ ns. refl; fits = λ Σ G a f. f }

  -- one after the other: what is put later comes first
  pub puts_then : {xs ys : List spec.Argument} {P Q : List LfType → Scope → List Piece} {old middle new : List Due} → Puts s xs P old middle → Puts s ys Q middle new → Puts s (ys ++ xs) (λ G ns. Q G ns ++ P G ns) old new
  puts_then {xs = xs} {ys = ys} {P = P} {Q = Q} {old = old} p q = record {
    pieces = λ G ns. q.pieces G ns ∙ ap (λ ps. Q G ns ++ ps) (p.pieces G ns) ∙ sym (append_pieces (Q G ns) (P G ns) (pieces_due s old G ns));
    context = λ G. q.context G ∙ p.context G;
    scope = λ ns. q.scope ns ∙ p.scope ns;
    fits = λ Σ G a f. let (u, v) = showable_apart Σ G ys xs a in q.fits Σ G u (p.fits Σ G v f);
  }

  -- the same pieces, written otherwise
  pub puts_as : {xs ys : List spec.Argument} {P : List LfType → Scope → List Piece} (Q : List LfType → Scope → List Piece) {old new : List Due} → xs ≡ ys → ((G : List LfType) (ns : Scope) → P G ns ≡ Q G ns) → Puts s xs P old new → Puts s ys Q old new
  puts_as Q {old = old} e f p = record {
    pieces = λ G ns. p.pieces G ns ∙ ap (λ ps. ps ++ pieces_due s old G ns) (f G ns);
    context = p.context;
    scope = p.scope;
    fits = λ Σ G a g. p.fits Σ G (subst (AreShowable Σ G) (sym e) a) g;
  }

  pub closing : (old new : List Due) → new ≡ Due.Closing ∷ old → Puts s [] (λ G ns. token (codes ")") ∷ []) old new
  closing old new e = subst (Puts s [] (λ G ns. token (codes ")") ∷ []) old) (sym e) (record { pieces = λ G ns. refl; context = λ G. refl; scope = λ ns. refl; fits = λ Σ G a f. f })

  pub opening : (old new : List Due) → new ≡ Due.Opening ∷ old → Puts s [] (λ G ns. token (codes "(") ∷ []) old new
  opening old new e = subst (Puts s [] (λ G ns. token (codes "(") ∷ []) old) (sym e) (record { pieces = λ G ns. refl; context = λ G. refl; scope = λ ns. refl; fits = λ Σ G a f. f })

  pub spacing : (old new : List Due) → new ≡ Due.Space ∷ old → Puts s [] (λ G ns. space ∷ []) old new
  spacing old new e = subst (Puts s [] (λ G ns. space ∷ []) old) (sym e) (record { pieces = λ G ns. refl; context = λ G. refl; scope = λ ns. refl; fits = λ Σ G a f. f })

  pub wording : (w : Vec ℕ Global) (old new : List Due) → new ≡ Due.Word w ∷ old → Puts s [] (λ G ns. token w.items ∷ []) old new
  wording w old new e = subst (Puts s [] (λ G ns. token w.items ∷ []) old) (sym e) (record { pieces = λ G ns. refl; context = λ G. refl; scope = λ ns. refl; fits = λ Σ G a f. f })

  module _ (n : ℕ) where
    abbrev term_text : spec.Argument → List LfType → Scope → List Piece
    term_text a = λ G ns. (parts s n).term G ns a.0 a.1

    pub term_due : (a : Argument) (old new : List Due) → new ≡ Due.Term a.term a.ty n ∷ old → Puts s (argument_of a ∷ []) (term_text (argument_of a)) old new
    term_due a old new e = subst (Puts s (argument_of a ∷ []) (term_text (argument_of a)) old) (sym e) (record { pieces = λ G ns. refl; context = λ G. refl; scope = λ ns. refl; fits = λ Σ G (x, y) f. (x, f) })

    enclosed_due : (a : Argument) (old one two new : List Due) → one ≡ Due.Closing ∷ old → two ≡ Due.Term a.term a.ty n ∷ one → new ≡ Due.Opening ∷ two → Puts s (argument_of a ∷ []) (λ G ns. in_parentheses (term_text (argument_of a) G ns)) old new
    enclosed_due a old one two new e f g = puts_then (puts_then (closing old one e) (term_due a one two f)) (opening two new g)

    -- an argument, without or with parentheses
    pub argument_bare : (a : Argument) (old new : List Due) → is_bare s (term_of a.term) ≡ true → new ≡ Due.Term a.term a.ty n ∷ old → Puts s (argument_of a ∷ []) (λ G ns. argument (parts s n) s G ns (argument_of a)) old new
    argument_bare a old new b e = puts_as (λ G ns. argument (parts s n) s G ns (argument_of a)) refl (λ G ns. sym (ap (λ k. cond k (term_text (argument_of a) G ns) (in_parentheses (term_text (argument_of a) G ns))) b)) (term_due a old new e)

    pub argument_enclosed : (a : Argument) (old one two new : List Due) → is_bare s (term_of a.term) ≡ false → one ≡ Due.Closing ∷ old → two ≡ Due.Term a.term a.ty n ∷ one → new ≡ Due.Opening ∷ two → Puts s (argument_of a ∷ []) (λ G ns. argument (parts s n) s G ns (argument_of a)) old new
    argument_enclosed a old one two new b e f g = puts_as (λ G ns. argument (parts s n) s G ns (argument_of a)) refl (λ G ns. sym (ap (λ k. cond k (term_text (argument_of a) G ns) (in_parentheses (term_text (argument_of a) G ns))) b)) (enclosed_due a old one two new e f g)

    -- an operand
    pub operand_bare : (a : Argument) (old new : List Due) → is_operation s (term_of a.term) ≡ false → new ≡ Due.Term a.term a.ty n ∷ old → Puts s (argument_of a ∷ []) (λ G ns. operand (parts s n) s G ns (argument_of a)) old new
    operand_bare a old new b e = puts_as (λ G ns. operand (parts s n) s G ns (argument_of a)) refl (λ G ns. sym (ap (λ k. cond k (in_parentheses (term_text (argument_of a) G ns)) (term_text (argument_of a) G ns)) b)) (term_due a old new e)

    pub operand_enclosed : (a : Argument) (old one two new : List Due) → is_operation s (term_of a.term) ≡ true → one ≡ Due.Closing ∷ old → two ≡ Due.Term a.term a.ty n ∷ one → new ≡ Due.Opening ∷ two → Puts s (argument_of a ∷ []) (λ G ns. operand (parts s n) s G ns (argument_of a)) old new
    operand_enclosed a old one two new b e f g = puts_as (λ G ns. operand (parts s n) s G ns (argument_of a)) refl (λ G ns. sym (ap (λ k. cond k (in_parentheses (term_text (argument_of a) G ns)) (term_text (argument_of a) G ns)) b)) (enclosed_due a old one two new e f g)

    -- no argument is due yet, and one more
    pub spaced_none : (keep : ℕ) (xs : List Argument) (old : List Due) → PutsSpaced s n keep xs xs old old
    spaced_none keep xs old = record { tail = []; split = sym (append-nil xs); kept = inl refl; puts = puts_none old }

    pub spaced_more : (keep : ℕ) (xs ys zs : List Argument) (a : Argument) (old one two new : List Due) → PutsSpaced s n keep xs ys old one → ys ≡ zs ++ a ∷ [] → keep < length ys → Puts s (argument_of a ∷ []) (λ G ns. argument (parts s n) s G ns (argument_of a)) one two → new ≡ Due.Space ∷ two → PutsSpaced s n keep xs zs old new
    spaced_more keep xs ys zs a old one two new p e l q r = record {
      tail = a ∷ p.tail;
      split = p.split ∙ ap (λ us. us ++ p.tail) e ∙ append_assoc zs (a ∷ []) p.tail;
      kept = inr (let m : length ys ≡ length zs + 1 = ap length e ∙ length-append zs (a ∷ []) in omega (arith, m, l));
      puts = puts_then p.puts (puts_then q (spacing two new r));
    }

    -- those that are left and those that are shown
    pub all_shown : (keep : ℕ) (xs ys : List Argument) (old new : List Due) (p : PutsSpaced s n keep xs ys old new) → length ys ≤ keep → map argument_of p.tail ≡ drop keep (map argument_of xs)
    all_shown keep xs ys old new p l = shown_behind keep xs ys p.tail p.split p.kept l

    -- the arguments behind the hidden ones, and the same of terms without types
    pub spaced_due : (keep : ℕ) (xs ys : List Argument) (old new : List Due) → PutsSpaced s n keep xs ys old new → length ys ≤ keep → Puts s (drop keep (map argument_of xs)) (λ G ns. spaced (parts s n) s G ns (drop keep (map argument_of xs))) old new
    spaced_due keep xs ys old new p l =
        let k = all_shown keep xs ys old new p l in
        puts_as (λ G ns. spaced (parts s n) s G ns (drop keep (map argument_of xs))) k (λ G ns. ap (spaced (parts s n) s G ns) k) p.puts

    pub bare_due : (keep : ℕ) (ts us : List Term) (old new : List Due) → PutsSpaced s n keep (map bare ts) (map bare us) old new → length us ≤ keep → Puts s (drop keep (spec.bare_arguments (args_of ts))) (λ G ns. spaced (parts s n) s G ns (drop keep (spec.bare_arguments (args_of ts)))) old new
    bare_due keep ts us old new p l =
        subst (λ xs. Puts s (drop keep xs) (λ G ns. spaced (parts s n) s G ns (drop keep xs)) old new) (bare_of ts) (spaced_due keep (map bare ts) (map bare us) old new p (subst (λ k. k ≤ keep) (sym (length-map us bare)) l))

    pub bare_more : (keep : ℕ) (ts us vs : List Term) (t : Term) (old one two new : List Due) → PutsSpaced s n keep (map bare ts) (map bare us) old one → us ≡ vs ++ t ∷ [] → keep < length us → Puts s (argument_of (bare t) ∷ []) (λ G ns. argument (parts s n) s G ns (argument_of (bare t))) one two → new ≡ Due.Space ∷ two → PutsSpaced s n keep (map bare ts) (map bare vs) old new
    bare_more keep ts us vs t old one two new p e l q r =
        spaced_more keep (map bare ts) (map bare us) (map bare vs) (bare t) old one two new p (ap (map bare) e ∙ map-append bare vs (t ∷ [])) (subst (λ k. keep < k) (sym (length-map us bare)) l) q r

  -- what stands behind all of a list
  behind_all : {X : Type 0} (xs ys : List X) (k : ℕ) → k ≡ length xs → drop k (xs ++ ys) ≡ ys
  behind_all [] ys k e = ap (λ j. drop j ys) e
  behind_all (x ∷ xs) ys zero e = absurd (omega (arith, e))
  behind_all (x ∷ xs) ys (suc k) e = behind_all xs ys k (omega (arith, e))

  pub one_last : (xs zs : List Argument) (a : Argument) (h : ℕ) → xs ≡ zs ++ a ∷ [] → length xs ≡ h + 1 → drop h xs ≡ a ∷ []
  one_last xs zs a h e l = ap (drop h) e ∙ behind_all zs (a ∷ []) h (let m : length xs ≡ length zs + 1 = ap length e ∙ length-append zs (a ∷ []) in omega (arith, m, l))

  pub two_last : (xs ys zs : List Argument) (a b : Argument) (h : ℕ) → xs ≡ ys ++ b ∷ [] → ys ≡ zs ++ a ∷ [] → length xs ≡ h + 2 → drop h xs ≡ a ∷ b ∷ []
  two_last xs ys zs a b h e f l =
      let g : xs ≡ zs ++ (a ∷ b ∷ []) = e ∙ ap (λ us. us ++ b ∷ []) f ∙ append_assoc zs (a ∷ []) (b ∷ []) in
      ap (drop h) g ∙ behind_all zs (a ∷ b ∷ []) h (let m : length xs ≡ length zs + 2 = ap length g ∙ length-append zs (a ∷ b ∷ []) in omega (arith, m, l))

  module _ (n h : ℕ) (w : Vec ℕ Global) where
    abbrev pub OperationDue : Fix → List Argument → List Due → List Due → Type 0
    OperationDue fix xs old new = Puts s (map argument_of (drop h xs)) (λ G ns. operation (parts s n) s G ns w.items fix (map argument_of (drop h xs))) old new

    operation_as : (fix : Fix) (xs ys : List Argument) (old new : List Due) → drop h xs ≡ ys → Puts s (map argument_of ys) (λ G ns. operation (parts s n) s G ns w.items fix (map argument_of ys)) old new → OperationDue fix xs old new
    operation_as fix xs ys old new e p = subst (λ us. Puts s (map argument_of us) (λ G ns. operation (parts s n) s G ns w.items fix (map argument_of us)) old new) (sym e) p

    abbrev pub OperandDue : Argument → List Due → List Due → Type 0
    OperandDue a old new = Puts s (argument_of a ∷ []) (λ G ns. operand (parts s n) s G ns (argument_of a)) old new

    pub infix_due : (o : Assoc) (k : ℕ) (xs ys zs : List Argument) (a b : Argument) (old d1 d2 d3 d4 new : List Due) → xs ≡ ys ++ b ∷ [] → ys ≡ zs ++ a ∷ [] → length xs ≡ h + 2
        → OperandDue b old d1 → d2 ≡ Due.Space ∷ d1 → d3 ≡ Due.Word w ∷ d2 → d4 ≡ Due.Space ∷ d3 → OperandDue a d4 new → OperationDue (Infix o k) xs old new
    infix_due o k xs ys zs a b old d1 d2 d3 d4 new e f l p q r t v =
        operation_as (Infix o k) xs (a ∷ b ∷ []) old new (two_last xs ys zs a b h e f l) (puts_then (puts_then (puts_then (puts_then p (spacing d1 d2 q)) (wording w d2 d3 r)) (spacing d3 d4 t)) v)

    pub prefix_due : (k : ℕ) (xs zs : List Argument) (a : Argument) (old d1 d2 new : List Due) → xs ≡ zs ++ a ∷ [] → length xs ≡ h + 1 → OperandDue a old d1 → d2 ≡ Due.Space ∷ d1 → new ≡ Due.Word w ∷ d2 → OperationDue (Prefix k) xs old new
    prefix_due k xs zs a old d1 d2 new e l p q r = operation_as (Prefix k) xs (a ∷ []) old new (one_last xs zs a h e l) (puts_then (puts_then p (spacing d1 d2 q)) (wording w d2 new r))

    pub postfix_due : (k : ℕ) (xs zs : List Argument) (a : Argument) (old d1 d2 new : List Due) → xs ≡ zs ++ a ∷ [] → length xs ≡ h + 1 → d1 ≡ Due.Word w ∷ old → d2 ≡ Due.Space ∷ d1 → OperandDue a d2 new → OperationDue (Postfix k) xs old new
    postfix_due k xs zs a old d1 d2 new e l p q r = operation_as (Postfix k) xs (a ∷ []) old new (one_last xs zs a h e l) (puts_then (puts_then (wording w old d1 p) (spacing d1 d2 q)) r)

    abbrev pub ApplicationDue : Option Fix → List Argument → List Due → List Due → Type 0
    ApplicationDue op xs old new = Puts s (drop h (map argument_of xs)) (λ G ns. application (parts s n) s G ns w.items op (drop h (map argument_of xs))) old new

    abbrev pub PlainDue : List Argument → List Due → List Due → Type 0
    PlainDue xs old new = Puts s (drop h (map argument_of xs)) (λ G ns. plain_application (parts s n) s G ns w.items (drop h (map argument_of xs))) old new

    pub plain_due : (xs ys : List Argument) (old middle new : List Due) → PutsSpaced s n h xs ys old middle → length ys ≤ h → new ≡ Due.Word w ∷ middle → PlainDue xs old new
    plain_due xs ys old middle new p l e =
        let k = all_shown n h xs ys old middle p l in
        puts_as (λ G ns. plain_application (parts s n) s G ns w.items (drop h (map argument_of xs))) k (λ G ns. ap (λ us. token w.items ∷ spaced (parts s n) s G ns us) k) (puts_then p.puts (wording w middle new e))

    takes_some : (fix : Fix) → 1 ≤ operand_count fix
    takes_some (Infix a k) = omega arith
    takes_some (Prefix k) = omega arith
    takes_some (Postfix k) = omega arith

    shown_length : (xs : List Argument) → length (drop h (map argument_of xs)) ≡ length xs - h
    shown_length xs = length-drop h (map argument_of xs) ∙ ap (λ k. k - h) (length-map xs argument_of)

    pub plain_operator : (fix : Fix) (op : Option Fix) (xs : List Argument) (old new : List Due) → op ≡ Some fix → length xs < operand_count fix + h → PlainDue xs old new → ApplicationDue op xs old new
    plain_operator fix op xs old new e l p =
        let few : length (drop h (map argument_of xs)) < operand_count fix = (let a = shown_length xs in let b = takes_some fix in omega (arith, a, b, l)) in
        subst (λ o. ApplicationDue o xs old new) (sym e) (puts_as (λ G ns. application (parts s n) s G ns w.items (Some fix) (drop h (map argument_of xs))) refl (λ G ns. sym (too_few (parts s n) s G ns w.items fix (drop h (map argument_of xs)) few)) p)

    pub plain_head : (op : Option Fix) (xs : List Argument) (old new : List Due) → op ≡ None → PlainDue xs old new → ApplicationDue op xs old new
    plain_head op xs old new e p = subst (λ o. ApplicationDue o xs old new) (sym e) p

    pub just_operands : (fix : Fix) (op : Option Fix) (xs : List Argument) (old new : List Due) → op ≡ Some fix → length xs ≡ operand_count fix + h → OperationDue fix xs old new → ApplicationDue op xs old new
    just_operands fix op xs old new e l p =
        let m = map-drop h xs in
        let enough : length (drop h (map argument_of xs)) ≡ operand_count fix = (let a = shown_length xs in omega (arith, a, l)) in
        subst (λ o. ApplicationDue o xs old new) (sym e)
        (puts_as (λ G ns. application (parts s n) s G ns w.items (Some fix) (drop h (map argument_of xs))) m (λ G ns. ap (operation (parts s n) s G ns w.items fix) m ∙ sym (just_enough (parts s n) s G ns w.items fix (drop h (map argument_of xs)) enough)) p)

    -- an operation hangs on its operands alone
    operands_alone : (fix : Fix) (os ts : List spec.Argument) (G : List LfType) (ns : Scope) → length os ≡ operand_count fix → operation (parts s n) s G ns w.items fix (os ++ ts) ≡ operation (parts s n) s G ns w.items fix os
    operands_alone (Infix a k) (x ∷ y ∷ []) ts G ns l = refl
    operands_alone (Infix a k) (x ∷ y ∷ z ∷ zs) ts G ns l = refl
    operands_alone (Infix a k) (x ∷ []) ts G ns l = absurd (omega (arith, l))
    operands_alone (Infix a k) [] ts G ns l = absurd (omega (arith, l))
    operands_alone (Prefix k) (x ∷ xs) ts G ns l = refl
    operands_alone (Prefix k) [] ts G ns l = absurd (omega (arith, l))
    operands_alone (Postfix k) (x ∷ xs) ts G ns l = refl
    operands_alone (Postfix k) [] ts G ns l = absurd (omega (arith, l))

    -- those that are left are the hidden ones and the operands
    pub operands_left : (fix : Fix) (xs ys : List Argument) (old new : List Due) → PutsSpaced s n (operand_count fix + h) xs ys old new → length ys ≤ operand_count fix + h → operand_count fix + h < length xs → length ys ≡ h + operand_count fix
    operands_left fix xs ys old new p l g = elim p.kept [
      | inl e ↦ absurd (let m : length xs ≡ length ys = ap length (p.split ∙ ap (λ us. ys ++ us) e ∙ append-nil ys) in omega (arith, m, l, g))
      | inr k ↦ omega (arith, k, l)
    ]

    pub more_arguments : (fix : Fix) (op : Option Fix) (xs ys : List Argument) (old d1 d2 d3 new : List Due) → op ≡ Some fix → operand_count fix + h < length xs → (p : PutsSpaced s n (operand_count fix + h) xs ys old d1) → length ys ≤ operand_count fix + h
        → d2 ≡ Due.Closing ∷ d1 → OperationDue fix ys d2 d3 → new ≡ Due.Opening ∷ d3 → ApplicationDue op xs old new
    more_arguments fix op xs ys old d1 d2 d3 new e g p l q r t =
        let c = operand_count fix in
        let os = map argument_of (drop h ys) in
        let ts = map argument_of p.tail in
        let k : length ys ≡ h + c = operands_left fix xs ys old d1 p l g in
        let us = drop h (map argument_of xs) in
        let parted : us ≡ os ++ ts =
        ap (λ zs. drop h (map argument_of zs)) p.split ∙ ap (drop h) (map-append argument_of ys p.tail) ∙ drop-append-le h (map argument_of ys) ts (let m = length-map ys argument_of in omega (arith, m, k)) ∙ ap (λ zs. zs ++ ts) (sym (map-drop h ys)) in
        let counted : length os ≡ c = length-map (drop h ys) argument_of ∙ length-drop h ys ∙ (omega (arith, k)) in
        let more : c < length us = (let a = shown_length xs in omega (arith, a, g)) in
        let all = puts_then (puts_then (puts_then p.puts (closing d1 d2 q)) r) (opening d3 new t) in
        subst (λ o. ApplicationDue o xs old new) (sym e)
        (puts_as (λ G ns. application (parts s n) s G ns w.items (Some fix) us) (sym parted)
        (λ G ns. sym (more_than_enough (parts s n) s G ns w.items fix us more
        ∙ ap (λ ps. in_parentheses ps ++ spaced (parts s n) s G ns (drop c us)) (ap (operation (parts s n) s G ns w.items fix) parted ∙ operands_alone fix os ts G ns counted)
        ∙ ap (λ zs. in_parentheses (operation (parts s n) s G ns w.items fix os) ++ spaced (parts s n) s G ns zs) (ap (drop c) parted ∙ behind_all os ts c (sym counted))
        ∙ append_pieces (token (codes "(") ∷ operation (parts s n) s G ns w.items fix os) (token (codes ")") ∷ []) (spaced (parts s n) s G ns ts)))
        all)

  abbrev signature : Signature
  signature = signature_of s.entries

  -- nothing is written, and what was put is due
  pub begun_by : (xs : List spec.Argument) (P : List LfType → Scope → List Piece) (p : Page) (old new : List Due) → Puts s xs P old new → AreShowable signature p.context xs → AllFit signature p.context old → Begins s p p (P p.context p.scope) old new
  begun_by xs P p old new h a f = record {
    out = ap (λ ps. p.out.items ++ render ps) (h.pieces p.context p.scope);
    context = refl;
    scope = refl;
    context_after = h.context p.context;
    scope_after = h.scope p.scope;
    fits = h.fits signature p.context a f;
  }

  -- an application, by its parts
  pub application_begun : (n : ℕ) (p : Page) (word word' : List ℕ) (op op' : Option Fix) (h h' : ℕ) (xs xs' : List spec.Argument) (old new : List Due) → word ≡ word' → op ≡ op' → h ≡ h' → xs ≡ xs'
      → Puts s (drop h xs) (λ G ns. application (parts s n) s G ns word op (drop h xs)) old new → AreShowable signature p.context (drop h' xs') → AllFit signature p.context old
      → Begins s p p (application (parts s n) s p.context p.scope word' op' (drop h' xs')) old new
  application_begun n p word word' op op' h h' xs xs' old new a b c d u g f =
      begun_by (drop h' xs') (λ G ns. application (parts s n) s G ns word' op' (drop h' xs')) p old new
      (subst (λ w. Puts s (drop h' xs') (λ G ns. application (parts s n) s G ns w op' (drop h' xs')) old new) a
      (subst (λ o. Puts s (drop h' xs') (λ G ns. application (parts s n) s G ns word o (drop h' xs')) old new) b
      (subst (λ k. Puts s (drop k xs') (λ G ns. application (parts s n) s G ns word op (drop k xs')) old new) c
      (subst (λ us. Puts s (drop h us) (λ G ns. application (parts s n) s G ns word op (drop h us)) old new) d u)))) g f

  -- some pieces are written, and what is due comes to the others
  opened : (p q : Page) (os zs ps : List Piece) (old new : List Due) → Writes p q os → pieces_due s new p.context p.scope ≡ zs → ps ++ pieces_due s old p.context p.scope ≡ os ++ zs → q.out.items ++ render (pieces_due s new p.context p.scope) ≡ p.out.items ++ render (ps ++ pieces_due s old p.context p.scope)
  opened p q os zs ps old new w e f =
      ap (λ us. q.out.items ++ render us) e ∙ ap (λ us. us ++ render zs) w.out ∙ append_assoc p.out.items (render os) (render zs) ∙ ap (λ us. p.out.items ++ us) (sym (render-append os zs) ∙ ap render (sym f))

  -- A plain head is written, and its arguments are due.
  pub head_written : (n : ℕ) (p q : Page) (word : List ℕ) (op : Option Fix) (h h' : ℕ) (xs : List spec.Argument) (old new : List Due) → op ≡ None → h ≡ h' → Writes p q (token word ∷ [])
      → Puts s (drop h xs) (λ G ns. spaced (parts s n) s G ns (drop h xs)) old new → AreShowable signature p.context (drop h' xs) → AllFit signature p.context old
      → Begins s p q (application (parts s n) s p.context p.scope word op (drop h' xs)) old new
  head_written n p q word op h h' xs old new e c w u g f =
      let v = subst (λ k. Puts s (drop k xs) (λ G ns. spaced (parts s n) s G ns (drop k xs)) old new) c u in
      let ps = spaced (parts s n) s p.context p.scope (drop h' xs) in
      subst (λ o. Begins s p q (application (parts s n) s p.context p.scope word o (drop h' xs)) old new) (sym e) (record {
        out = opened p q (token word ∷ []) (ps ++ pieces_due s old p.context p.scope) (token word ∷ ps) old new w (v.pieces p.context p.scope) refl;
        context = w.context;
        scope = w.scope;
        context_after = v.context p.context;
        scope_after = v.scope p.scope;
        fits = v.fits signature p.context g f;
      })

  -- what is due under a variable, between a closing and the rest
  under_pieces : (n : ℕ) (T cs R rest : List Piece) (os : List Piece) → ((os ++ T) ++ cs) ++ R ≡ os ++ (T ++ (cs ++ R))
  under_pieces n T cs R rest os = append_pieces (os ++ T) cs R ∙ append_pieces os T (cs ++ R)

  module _ (n : ℕ) (p q : Page) (A B : LfType) (old : List Due) where
    abbrev G : List LfType
    G = p.context

    abbrev ns : Scope
    ns = p.scope

    -- a lambda
    pub lambda_begun : (M : LfTerm) (x : List ℕ) (body : Term) (range entered : Ty) (d1 d2 d3 d4 new : List Due) → x ≡ fresh_name s ns (lower_base s A) → Writes p q (token (codes "[") ∷ token x ∷ token (codes ":") ∷ [])
        → term_of body ≡ M → type_of range ≡ B → type_of entered ≡ A
        → d1 ≡ Due.Leave ∷ old → d2 ≡ Due.Term body (Some range) n ∷ d1 → d3 ≡ Due.Enter entered (Some x) ∷ d2 → d4 ≡ Due.Bracket ∷ d3 → IsShowable signature G (lambda M) (Some (pi A B)) → AllFit signature G old → PutsType n A d4 new
        → Begins s p q (term_layout (parts s n) s G ns (lambda M) (Some (pi A B))) old new
    lambda_begun M x body range entered d1 d2 d3 d4 new named w is_body is_range is_entered e1 e2 e3 e4 typed f t =
        let behind = Due.Bracket ∷ Due.Enter entered (Some x) ∷ Due.Term body (Some range) n ∷ Due.Leave ∷ old in
        let is : new ≡ Due.Type t.type t.marks n ∷ behind =
        t.puts ∙ ap (λ ds. Due.Type t.type t.marks n ∷ ds) (e4 ∙ ap (λ ds. Due.Bracket ∷ ds) (e3 ∙ ap (λ ds. Due.Enter entered (Some x) ∷ ds) (e2 ∙ ap (λ ds. Due.Term body (Some range) n ∷ ds) e1))) in
        let T = (parts s n).type G ns A in
        let cs = token (codes "]") ∷ space ∷ [] in
        let R = (parts s n).term (A ∷ G) (Some x ∷ ns) M (Some B) in
        let rest = pieces_due s old G ns in
        let os = token (codes "[") ∷ token x ∷ token (codes ":") ∷ [] in
        let due : pieces_due s new G ns ≡ T ++ (cs ++ (R ++ rest)) =
        ap (λ ds. pieces_due s ds G ns) is
        ∙ ap (λ X. (parts s n).type G ns X ++ (cs ++ ((parts s n).term (type_of entered ∷ G) (Some x ∷ ns) (term_of body) (Some (type_of range)) ++ rest))) t.is_of
        ∙ ap (λ X. T ++ (cs ++ ((parts s n).term (X ∷ G) (Some x ∷ ns) (term_of body) (Some (type_of range)) ++ rest))) is_entered
        ∙ ap (λ X. T ++ (cs ++ ((parts s n).term (A ∷ G) (Some x ∷ ns) X (Some (type_of range)) ++ rest))) is_body
        ∙ ap (λ X. T ++ (cs ++ ((parts s n).term (A ∷ G) (Some x ∷ ns) M (Some X) ++ rest))) is_range in
        let layout : (((os ++ T) ++ cs) ++ R) ++ rest ≡ os ++ (T ++ (cs ++ (R ++ rest))) = append_pieces ((os ++ T) ++ cs) R rest ∙ under_pieces n T cs (R ++ rest) rest os in
        subst (λ y. Begins s p q (((token (codes "[") ∷ token y ∷ token (codes ":") ∷ T) ++ cs) ++ (parts s n).term (A ∷ G) (Some y ∷ ns) M (Some B)) old new) named (record {
          out = opened p q os (T ++ (cs ++ (R ++ rest))) (((os ++ T) ++ cs) ++ R) old new w due layout;
          context = w.context;
          scope = w.scope;
          context_after = ap (λ ds. context_after ds G) is;
          scope_after = ap (λ ds. scope_after ds ns) is;
          fits = subst (AllFit signature G) (sym is) (
            subst (IsShowableType signature G) (sym t.is_of) (lambda_domain signature G M A B typed),
            t.marked ∙ ap marks_of (sym t.is_of),
            (
              subst (IsShowableType signature G) (sym is_entered) (lambda_domain signature G M A B typed),
              (
                subst (λ X. IsShowable signature (X ∷ G) (term_of body) (Some (type_of range))) (sym is_entered)
                    (subst (λ X. IsShowable signature (A ∷ G) X (Some (type_of range))) (sym is_body) (subst (λ X. IsShowable signature (A ∷ G) M (Some X)) (sym is_range) (lambda_body signature G M A B typed))),
                f,
              ),
            ),
          );
        })

    -- what is due of a quantifier or an arrow behind its domain
    abbrev Behind : Ty → Ty → Vec Bool Global → Option (List ℕ) → List Due
    Behind entered range marks x = Due.Enter entered x ∷ Due.Type range marks n ∷ Due.Leave ∷ old

    behind_pieces : (entered range : Ty) (marks : Vec Bool Global) (x : Option (List ℕ)) → type_of entered ≡ A → type_of range ≡ B → pieces_due s (Behind entered range marks x) G ns ≡ (parts s n).type (A ∷ G) (x ∷ ns) B ++ pieces_due s old G ns
    behind_pieces entered range marks x e f = ap (λ X. (parts s n).type (X ∷ G) (x ∷ ns) (type_of range) ++ pieces_due s old G ns) e ∙ ap (λ X. (parts s n).type (A ∷ G) (x ∷ ns) X ++ pieces_due s old G ns) f

    behind_fits : (entered range : Ty) (marks : Vec Bool Global) (x : Option (List ℕ)) → type_of entered ≡ A → type_of range ≡ B → reverse marks.items ≡ marks_of B → IsShowableType signature G (pi A B) → AllFit signature G old → AllFit signature G (Behind entered range marks x)
    behind_fits entered range marks x e f m t g = (
      subst (IsShowableType signature G) (sym e) t.0,
      (subst (λ X. IsShowableType signature (X ∷ G) (type_of range)) (sym e) (subst (IsShowableType signature (A ∷ G)) (sym f) t.1), m ∙ ap marks_of (sym f), g),
    )

    -- a quantifier
    pub named_begun : (x : List ℕ) (occurring : Bool) (entered range : Ty) (marks : Vec Bool Global) (d1 d2 d3 d4 new : List Due) → occurring ≡ occurs_in_type 0 B → occurring ≡ true → x ≡ fresh_name s ns (lower_base s A) → Writes p q (token (codes "{") ∷ token x ∷ token (codes ":") ∷ [])
        → type_of range ≡ B → type_of entered ≡ A → reverse marks.items ≡ marks_of B
        → d1 ≡ Due.Leave ∷ old → d2 ≡ Due.Type range marks n ∷ d1 → d3 ≡ Due.Enter entered (Some x) ∷ d2 → d4 ≡ Due.Brace ∷ d3 → IsShowableType signature G (pi A B) → AllFit signature G old → PutsType n A d4 new
        → Begins s p q (type_layout (parts s n) s G ns (pi A B)) old new
    named_begun x occurring entered range marks d1 d2 d3 d4 new occurs is_yes named w is_range is_entered marked e1 e2 e3 e4 typed f t =
        let behind = Behind entered range marks (Some x) in
        let is : new ≡ Due.Type t.type t.marks n ∷ Due.Brace ∷ behind =
        t.puts ∙ ap (λ ds. Due.Type t.type t.marks n ∷ ds) (e4 ∙ ap (λ ds. Due.Brace ∷ ds) (e3 ∙ ap (λ ds. Due.Enter entered (Some x) ∷ ds) (e2 ∙ ap (λ ds. Due.Type range marks n ∷ ds) e1))) in
        let T = (parts s n).type G ns A in
        let cs = token (codes "}") ∷ space ∷ [] in
        let R = (parts s n).type (A ∷ G) (Some x ∷ ns) B in
        let rest = pieces_due s old G ns in
        let os = token (codes "{") ∷ token x ∷ token (codes ":") ∷ [] in
        let due : pieces_due s new G ns ≡ T ++ (cs ++ (R ++ rest)) =
        ap (λ ds. pieces_due s ds G ns) is ∙ ap (λ X. (parts s n).type G ns X ++ (cs ++ pieces_due s behind G ns)) t.is_of ∙ ap (λ us. T ++ (cs ++ us)) (behind_pieces entered range marks (Some x) is_entered is_range) in
        let layout : (((os ++ T) ++ cs) ++ R) ++ rest ≡ os ++ (T ++ (cs ++ (R ++ rest))) = append_pieces ((os ++ T) ++ cs) R rest ∙ under_pieces n T cs (R ++ rest) rest os in
        subst (λ o. Begins s p q (quantifier (parts s n) s G ns (quantifier_name s ns o (lower_base s A)) A ++ (parts s n).type (A ∷ G) (quantifier_name s ns o (lower_base s A) ∷ ns) B) old new) (sym is_yes ∙ occurs)
        (subst (λ y. Begins s p q (quantifier (parts s n) s G ns (Some y) A ++ (parts s n).type (A ∷ G) (Some y ∷ ns) B) old new) named (record {
          out = opened p q os (T ++ (cs ++ (R ++ rest))) (((os ++ T) ++ cs) ++ R) old new w due layout;
          context = w.context;
          scope = w.scope;
          context_after = ap (λ ds. context_after ds G) is;
          scope_after = ap (λ ds. scope_after ds ns) is;
          fits = subst (AllFit signature G) (sym is) (subst (IsShowableType signature G) (sym t.is_of) typed.0, t.marked ∙ ap marks_of (sym t.is_of), behind_fits entered range marks (Some x) is_entered is_range marked typed f);
        }))

-- the domain of an arrow
module _ (s : Scene) (n : ℕ) (D : List LfType) (ms : Scope) where
  domain_pieces : (A : LfType) (old new : List Due) → PutsDomain n A old new → pieces_due s new D ms ≡ in_parentheses_if (quantified_test A) ((parts s n).type D ms A) ++ pieces_due s old D ms
  domain_pieces (pi A B) old new (middle, t, e) =
      ap (λ ds. pieces_due s ds D ms) (e ∙ ap (λ ds. Due.Opening ∷ ds) t.puts) ∙ ap (λ X. token (codes "(") ∷ ((parts s n).type D ms X ++ (token (codes ")") ∷ pieces_due s old D ms))) t.is_of
      ∙ sym (append_pieces (token (codes "(") ∷ (parts s n).type D ms (pi A B)) (token (codes ")") ∷ []) (pieces_due s old D ms))
  domain_pieces (atom a S) old new t = ap (λ ds. pieces_due s ds D ms) t.puts ∙ ap (λ X. (parts s n).type D ms X ++ pieces_due s old D ms) t.is_of

  domain_context : (A : LfType) (old new : List Due) → PutsDomain n A old new → context_after new D ≡ context_after old D
  domain_context (pi A B) old new (middle, t, e) = ap (λ ds. context_after ds D) (e ∙ ap (λ ds. Due.Opening ∷ ds) t.puts)
  domain_context (atom a S) old new t = ap (λ ds. context_after ds D) t.puts

  domain_scope : (A : LfType) (old new : List Due) → PutsDomain n A old new → scope_after new ms ≡ scope_after old ms
  domain_scope (pi A B) old new (middle, t, e) = ap (λ ds. scope_after ds ms) (e ∙ ap (λ ds. Due.Opening ∷ ds) t.puts)
  domain_scope (atom a S) old new t = ap (λ ds. scope_after ds ms) t.puts

  domain_fits : (Σ : Signature) (A : LfType) (old new : List Due) → PutsDomain n A old new → IsShowableType Σ D A → AllFit Σ D old → AllFit Σ D new
  domain_fits Σ (pi A B) old new (middle, t, e) a f = subst (AllFit Σ D) (sym (e ∙ ap (λ ds. Due.Opening ∷ ds) t.puts)) (subst (IsShowableType Σ D) (sym t.is_of) a, t.marked ∙ ap marks_of (sym t.is_of), f)
  domain_fits Σ (atom b S) old new t a f = subst (AllFit Σ D) (sym t.puts) (subst (IsShowableType Σ D) (sym t.is_of) a, t.marked ∙ ap marks_of (sym t.is_of), f)

-- an arrow
module _ (s : Scene) where
  pub arrow_begun : (n : ℕ) (p : Page) (A B : LfType) (old : List Due) (occurring : Bool) (entered range : Ty) (marks : Vec Bool Global) (d1 d2 d3 d4 new : List Due) → occurring ≡ occurs_in_type 0 B → occurring ≡ false
      → type_of range ≡ B → type_of entered ≡ A → reverse marks.items ≡ marks_of B
      → d1 ≡ Due.Leave ∷ old → d2 ≡ Due.Type range marks n ∷ d1 → d3 ≡ Due.Enter entered None ∷ d2 → d4 ≡ Due.Arrow ∷ d3 → IsShowableType (signature_of s.entries) p.context (pi A B) → AllFit (signature_of s.entries) p.context old → PutsDomain n A d4 new
      → Begins s p p (type_layout (parts s n) s p.context p.scope (pi A B)) old new
  arrow_begun n p A B old occurring entered range marks d1 d2 d3 d4 new occurs is_no is_range is_entered marked e1 e2 e3 e4 typed f t =
      let G = p.context in
      let ns = p.scope in
      let behind = Behind s n p p A B old entered range marks None in
      let is : d4 ≡ Due.Arrow ∷ behind = e4 ∙ ap (λ ds. Due.Arrow ∷ ds) (e3 ∙ ap (λ ds. Due.Enter entered None ∷ ds) (e2 ∙ ap (λ ds. Due.Type range marks n ∷ ds) e1)) in
      let T = in_parentheses_if (quantified_test A) ((parts s n).type G ns A) in
      let cs = space ∷ token (codes "->") ∷ space ∷ [] in
      let R = (parts s n).type (A ∷ G) (None ∷ ns) B in
      let rest = pieces_due s old G ns in
      let due : pieces_due s new G ns ≡ T ++ (cs ++ (R ++ rest)) = domain_pieces s n G ns A d4 new t ∙ ap (λ ds. T ++ pieces_due s ds G ns) is ∙ ap (λ us. T ++ (cs ++ us)) (behind_pieces s n p p A B old entered range marks None is_entered is_range) in
      let layout : ((T ++ cs) ++ R) ++ rest ≡ T ++ (cs ++ (R ++ rest)) = append_pieces (T ++ cs) R rest ∙ append_pieces T cs (R ++ rest) in
      subst (λ o. Begins s p p (quantifier (parts s n) s G ns (quantifier_name s ns o (lower_base s A)) A ++ (parts s n).type (A ∷ G) (quantifier_name s ns o (lower_base s A) ∷ ns) B) old new) (sym is_no ∙ occurs) (record {
        out = ap (λ us. p.out.items ++ render us) (due ∙ sym layout);
        context = refl;
        scope = refl;
        context_after = domain_context s n G ns A d4 new t ∙ ap (λ ds. context_after ds G) is;
        scope_after = domain_scope s n G ns A d4 new t ∙ ap (λ ds. scope_after ds ns) is;
        fits = domain_fits s n G ns (signature_of s.entries) A d4 new t typed.0 (subst (AllFit (signature_of s.entries) G) (sym is) (behind_fits s n p p A B old entered range marks None is_entered is_range marked typed f));
      })

  -- by the levels
  pub term_begun : (n levels : ℕ) (p q : Page) (M : LfTerm) (t : Option LfType) (old new : List Due) → levels ≡ suc n → Begins s p q (term_layout (parts s n) s p.context p.scope M t) old new → Begins s p q ((parts s levels).term p.context p.scope M t) old new
  term_begun n levels p q M t old new e b = subst (λ m. Begins s p q ((parts s m).term p.context p.scope M t) old new) (sym e) b

  pub type_begun : (n levels : ℕ) (p q : Page) (A : LfType) (old new : List Due) → levels ≡ suc n → Begins s p q (type_layout (parts s n) s p.context p.scope A) old new → Begins s p q ((parts s levels).type p.context p.scope A) old new
  type_begun n levels p q A old new e b = subst (λ m. Begins s p q ((parts s m).type p.context p.scope A) old new) (sym e) b

  -- What is written and what is due come to the same as before.
  pub goes_begun : (p q : Page) (d : Due) (ps : List Piece) (old new : List Due) → Begins s p q ps old new → pieces_due s (d ∷ old) p.context p.scope ≡ ps ++ pieces_due s old p.context p.scope → context_after (d ∷ old) p.context ≡ context_after old p.context → scope_after (d ∷ old) p.scope ≡ scope_after old p.scope
      → IsShowableContext (signature_of s.entries) p.context → Goes s p q (d ∷ old) new
  goes_begun p q d ps old new b e f g h = record {
    out = ap (λ D. q.out.items ++ render (pieces_due s new D q.scope)) b.context ∙ ap (λ ms. q.out.items ++ render (pieces_due s new p.context ms)) b.scope ∙ b.out ∙ ap (λ us. p.out.items ++ render us) (sym e);
    context = ap (context_after new) b.context ∙ b.context_after ∙ sym f;
    scope = ap (scope_after new) b.scope ∙ b.scope_after ∙ sym g;
    shown = subst (IsShowableContext (signature_of s.entries)) (sym b.context) h;
    fits = subst (λ D. AllFit (signature_of s.entries) D new) (sym b.context) b.fits;
  }

  pub goes_written : (p q : Page) (d : Due) (ps : List Piece) (old : List Due) → Writes p q ps → pieces_due s (d ∷ old) p.context p.scope ≡ ps ++ pieces_due s old p.context p.scope → context_after (d ∷ old) p.context ≡ context_after old p.context → scope_after (d ∷ old) p.scope ≡ scope_after old p.scope
      → AllFit (signature_of s.entries) p.context old → IsShowableContext (signature_of s.entries) p.context → Goes s p q (d ∷ old) old
  goes_written p q d ps old w e f g a h = goes_begun p q d ps old old (record {
    out = ap (λ us. us ++ render (pieces_due s old p.context p.scope)) w.out ∙ append_assoc p.out.items (render ps) (render (pieces_due s old p.context p.scope)) ∙ ap (λ us. p.out.items ++ us) (sym (render-append ps (pieces_due s old p.context p.scope)));
    context = w.context;
    scope = w.scope;
    context_after = refl;
    scope_after = refl;
    fits = a;
  }) e f g h

  pub goes_in : (p q : Page) (a : Ty) (x : Option (List ℕ)) (old : List Due) → Binds p q [] (type_of a) x → AllFit (signature_of s.entries) p.context (Due.Enter a x ∷ old) → IsShowableContext (signature_of s.entries) p.context → Goes s p q (Due.Enter a x ∷ old) old
  goes_in p q a x old b f h = record {
    out = ap (λ D. q.out.items ++ render (pieces_due s old D q.scope)) b.context ∙ ap (λ ms. q.out.items ++ render (pieces_due s old (type_of a ∷ p.context) ms)) b.scope ∙ ap (λ us. us ++ render (pieces_due s old (type_of a ∷ p.context) (x ∷ p.scope))) (b.out ∙ append-nil p.out.items);
    context = ap (context_after old) b.context;
    scope = ap (scope_after old) b.scope;
    shown = subst (IsShowableContext (signature_of s.entries)) (sym b.context) (h, f.0);
    fits = subst (λ D. AllFit (signature_of s.entries) D old) (sym b.context) f.1;
  }

  outside : (Σ : Signature) (D : List LfType) → IsShowableContext Σ D → IsShowableContext Σ (drop 1 D)
  outside Σ [] h = h
  outside Σ (A ∷ D) (h, a) = h

  pub goes_out : (p q : Page) (old : List Due) → q.out.items ≡ p.out.items → q.context ≡ drop 1 p.context → q.scope ≡ drop 1 p.scope → AllFit (signature_of s.entries) p.context (Due.Leave ∷ old) → IsShowableContext (signature_of s.entries) p.context → Goes s p q (Due.Leave ∷ old) old
  goes_out p q old e f g a h = record {
    out = ap (λ D. q.out.items ++ render (pieces_due s old D q.scope)) f ∙ ap (λ ms. q.out.items ++ render (pieces_due s old (drop 1 p.context) ms)) g ∙ ap (λ us. us ++ render (pieces_due s old (drop 1 p.context) (drop 1 p.scope))) e;
    context = ap (context_after old) f;
    scope = ap (scope_after old) g;
    shown = subst (IsShowableContext (signature_of s.entries)) (sym f) (outside (signature_of s.entries) p.context h);
    fits = subst (λ D. AllFit (signature_of s.entries) D old) (sym f) a;
  }

  pub goes_then : (p q r : Page) (old middle new : List Due) → Goes s p q old middle → Goes s q r middle new → Goes s p r old new
  goes_then p q r old middle new g h = record { out = h.out ∙ g.out; context = h.context ∙ g.context; scope = h.scope ∙ g.scope; shown = h.shown; fits = h.fits }

  pub goes_nowhere : (p : Page) (old : List Due) → IsShowableContext (signature_of s.entries) p.context → AllFit (signature_of s.entries) p.context old → Goes s p p old old
  goes_nowhere p old h a = record { out = refl; context = refl; scope = refl; shown = h; fits = a }

  -- all is written
  pub all_written : (p q : Page) (ps : List Piece) (old : List Due) → Goes s p q old [] → pieces_due s old p.context p.scope ≡ ps → context_after old p.context ≡ p.context → scope_after old p.scope ≡ p.scope → Writes p q ps
  all_written p q ps old g e f h = record { out = sym (append-nil q.out.items) ∙ g.out ∙ ap (λ us. p.out.items ++ render us) e; context = g.context ∙ f; scope = g.scope ∙ h }

  -- the same of what is due next, by its kind
  pub goes_arm : (p q : Page) (next d : Due) (ps : List Piece) (old : List Due) → next ≡ d → (AllFit (signature_of s.entries) p.context (d ∷ old) → AllFit (signature_of s.entries) p.context old) → pieces_due s (d ∷ old) p.context p.scope ≡ ps ++ pieces_due s old p.context p.scope
      → context_after (d ∷ old) p.context ≡ context_after old p.context → scope_after (d ∷ old) p.scope ≡ scope_after old p.scope → AllFit (signature_of s.entries) p.context (next ∷ old) → IsShowableContext (signature_of s.entries) p.context → Writes p q ps → Goes s p q (next ∷ old) old
  goes_arm p q next d ps old e f g h k a c w = subst (λ x. Goes s p q (x ∷ old) old) (sym e) (goes_written p q d ps old w g h k (f (subst (λ x. AllFit (signature_of s.entries) p.context (x ∷ old)) e a)) c)

-- Only this is due.
pub alone : (v old new : List Due) (d : Due) → v ≡ [] → old ≡ stacked v → new ≡ d ∷ old → new ≡ d ∷ []
alone v old new d e f g = g ∙ ap (λ ds. d ∷ ds) (f ∙ ap reverse e)

-- Only a type is due.
pub record IsAlone (s : Scene) (n : ℕ) (A : LfType) (ds : List Due) : Type 0 where
  pub pieces : (G : List LfType) (ns : Scope) → pieces_due s ds G ns ≡ (parts s n).type G ns A
  pub context : (G : List LfType) → context_after ds G ≡ G
  pub scope : (ns : Scope) → scope_after ds ns ≡ ns
  pub fits : (Σ : Signature) (G : List LfType) → IsShowableType Σ G A → AllFit Σ G ds

pub type_alone : (s : Scene) (n : ℕ) (A B : LfType) (v new : List Due) → v ≡ [] → B ≡ A → PutsType n B (stacked v) new → IsAlone s n A new
type_alone s n A B v new e f t =
    let is : new ≡ Due.Type t.type t.marks n ∷ [] = t.puts ∙ ap (λ ds. Due.Type t.type t.marks n ∷ ds) (ap reverse e) in
    record {
      pieces = λ G ns. ap (λ ds. pieces_due s ds G ns) is ∙ append-nil ((parts s n).type G ns (type_of t.type)) ∙ ap ((parts s n).type G ns) (t.is_of ∙ f);
      context = λ G. ap (λ ds. context_after ds G) is;
      scope = λ ns. ap (λ ds. scope_after ds ns) is;
      fits = λ Σ G a. subst (AllFit Σ G) (sym is) (subst (IsShowableType Σ G) (sym (t.is_of ∙ f)) a, t.marked ∙ ap marks_of (sym t.is_of), tt);
    }

-- what was begun alone is written whole
pub begun_alone : (s : Scene) (p m q : Page) (ps qs : List Piece) (old new : List Due) → old ≡ [] → Begins s p m ps old new → ps ≡ qs → Goes s m q new [] → Writes p q qs
begun_alone s p m q ps qs old new e b f g = record {
  out = sym (append-nil q.out.items) ∙ g.out ∙ ap (λ D. m.out.items ++ render (pieces_due s new D m.scope)) b.context ∙ ap (λ ns. m.out.items ++ render (pieces_due s new p.context ns)) b.scope ∙ b.out
      ∙ ap (λ ds. p.out.items ++ render (ps ++ pieces_due s ds p.context p.scope)) e ∙ ap (λ us. p.out.items ++ render us) (append-nil ps ∙ f);
  context = g.context ∙ ap (context_after new) b.context ∙ b.context_after ∙ ap (λ ds. context_after ds p.context) e;
  scope = g.scope ∙ ap (scope_after new) b.scope ∙ b.scope_after ∙ ap (λ ds. scope_after ds p.scope) e;
}

-- by the kind of the operator
pub operation_by : (s : Scene) (n h : ℕ) (w : Vec ℕ Global) (fix fix' : Fix) (xs : List Argument) (old new : List Due) → fix ≡ fix' → OperationDue s n h w fix' xs old new → OperationDue s n h w fix xs old new
operation_by s n h w fix fix' xs old new e p = subst (λ f. OperationDue s n h w f xs old new) (sym e) p

-- a root can be shown without a type
pub root_showable : (Σ : Signature) (G : List LfType) (M : LfTerm) (t : Option LfType) (h : Head) (S : Spine) → M ≡ root h S → IsShowable Σ G M t → IsShowable Σ G (root h S) None
root_showable Σ G M t h S e m = subst (λ X. IsShowable Σ G X t) e m
