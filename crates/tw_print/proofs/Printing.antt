-- What the calls write, one after the other.
use Rattle.std.proofs.Common.{◌≡◌, ℕ, suc, ◌≤◌, ◌<◌, length, map, get_or, cond, ap₂, append_assoc, List, [], ◌∷◌, ◌++◌, drop, Option, Some, None, Bool, true, false, Result, Ok, Err, OnOk, codes, sym, ap, ◌∙◌, subst}
use Rattle.std.proofs.lemmas.List.{append-nil}
use Rattle.lf.specs.Syntax.{Head, Term, Spine, lambda, root, LfType, pi, atom, Kind, kind_pi}
use Rattle.std.specs.Borrow.{Bor}
use Rattle.std.specs.Option.{option_map, option_copied}
use Rattle.tw_terms.specs.View.{type_of}
use Rattle.tw_terms.specs.declared.canonical.Ty.{Ty}
use Rattle.tw_fixity.specs.declared.table.Assoc.{Assoc}
use Rattle.tw_fixity.specs.declared.table.Fix.{Fix}
use Rattle.tw_fixity.specs.declared.table.Fix.TheVariants.{Infix, Postfix}
use Rattle.tw_print.specs.Pieces.{Piece, token, space, render, in_parentheses}
use Rattle.tw_fixity.specs.Names.{Names as Scope}
use Rattle.tw_print.specs.Names.{Scene, fresh_name, lower_base}
use Rattle.tw_print.specs.Page.{Writes, Binds}
use Rattle.tw_print.specs.Arguments as spec
use Rattle.tw_print.specs.ArgumentView.{argument_of}
use Rattle.tw_print.specs.Marks.{marks_of, kind_marks_of, head_mark}
use Rattle.tw_print.specs.Variables.{occurs_in_type, occurs_in_kind}
use Rattle.tw_print.specs.Shown.{Parts, parts, quantifier, quantified_test, quantifier_name, abstraction, term_layout, in_parentheses_if, operand, argument, spaced, operation, application, operand_count, is_operation, is_bare, root_pieces, atom_pieces, leading_type, leading_kind, leading_base}
use Rattle.tw_print.specs.declared.arguments.Argument.{Argument}
use Rattle.tw_print.proofs.Applications.{more_than_enough, infix_written, postfix_written}
use Rattle.tw_print.specs.declared.page.Page.{Page}
use Rattle.tw_print.proofs.Writing.{then, then_at, under, append_pieces, render-append}

-- a variable comes in scope
pub then_enter : (p q r : Page) (ps : List Piece) (A : LfType) (x : Option (List ℕ)) → Writes p q ps → Binds q r [] A x → Binds p r ps A x
then_enter p q r ps A x v w = record { out = w.out ∙ append-nil q.out.items ∙ v.out; context = w.context ∙ ap (λ G. A ∷ G) v.context; scope = w.scope ∙ ap (λ ns. x ∷ ns) v.scope }

-- what is written under a variable
pub scoped : (p q r s : Page) (ps : List Piece) (A : LfType) (x : Option (List ℕ)) (R : List LfType → Scope → List Piece) → Binds p q ps A x → Writes q r (R q.context q.scope)
    → s.out.items ≡ r.out.items → s.context ≡ drop 1 r.context → s.scope ≡ drop 1 r.scope → Writes p s (ps ++ R (A ∷ p.context) (x ∷ p.scope))
scoped p q r s ps A x R b w o g n = under p q r s ps (R (A ∷ p.context) (x ∷ p.scope)) A x b (subst (λ ns. Writes q r (R (A ∷ p.context) ns)) b.scope (subst (λ G. Writes q r (R G q.scope)) b.context w)) o g n

-- a part in parentheses
pub enclosed : (p q r t : Page) (P : List LfType → Scope → List Piece) → Writes p q (token (codes "(") ∷ []) → Writes q r (P q.context q.scope) → Writes r t (token (codes ")") ∷ []) → Writes p t (in_parentheses (P p.context p.scope))
enclosed p q r t P u v w = then p r t (token (codes "(") ∷ P p.context p.scope) (token (codes ")") ∷ []) (then_at p q r (token (codes "(") ∷ []) P u v) w

-- a part between an opening with a name and a closing
pub bracketed : (p q r t : Page) (os cs : List Piece) (P : List LfType → Scope → List Piece) → Writes p q os → Writes q r (P q.context q.scope) → Writes r t cs → Writes p t ((os ++ P p.context p.scope) ++ cs)
bracketed p q r t os cs P u v w = then p r t (os ++ P p.context p.scope) cs (then_at p q r os P u v) w

module _ (P : Parts) (s : Scene) where
  pub lambda_written : (p q r t u v w : Page) (x : List ℕ) (A B : LfType) (M : Term) → x ≡ fresh_name s p.scope (lower_base s A)
      → Writes p q (token (codes "[") ∷ token x ∷ token (codes ":") ∷ []) → Writes q r (P.type q.context q.scope A) → Writes r t (token (codes "]") ∷ space ∷ [])
      → Binds t u [] A (Some x) → Writes u v (P.term u.context u.scope M (Some B))
      → w.out.items ≡ v.out.items → w.context ≡ drop 1 v.context → w.scope ≡ drop 1 v.scope
      → Writes p w (term_layout P s p.context p.scope (lambda M) (Some (pi A B)))
  lambda_written p q r t u v w x A B M e a b c d f o g n =
      subst (λ y. Writes p w (abstraction P s p.context p.scope y A ++ P.term (A ∷ p.context) (Some y ∷ p.scope) M (Some B))) e
      (scoped p u v w (abstraction P s p.context p.scope x A) A (Some x) (λ G ns. P.term G ns M (Some B))
      (then_enter p t u (abstraction P s p.context p.scope x A) A (Some x) (bracketed p q r t _ _ (λ G ns. P.type G ns A) a b c) d) f o g n)

  pub named_bound : (p q r t u : Page) (x base : List ℕ) (occurring : Bool) (A : LfType) → occurring ≡ true → x ≡ fresh_name s p.scope base
      → Writes p q (token (codes "{") ∷ token x ∷ token (codes ":") ∷ []) → Writes q r (P.type q.context q.scope A) → Writes r t (token (codes "}") ∷ space ∷ [])
      → Binds t u [] A (Some x)
      → Binds p u (quantifier P s p.context p.scope (quantifier_name s p.scope occurring base) A) A (quantifier_name s p.scope occurring base)
  named_bound p q r t u x base occurring A y e a b c d =
      subst (λ o. Binds p u (quantifier P s p.context p.scope (quantifier_name s p.scope o base) A) A (quantifier_name s p.scope o base)) (sym y)
      (subst (λ n. Binds p u (quantifier P s p.context p.scope (Some n) A) A (Some n)) e
      (then_enter p t u (quantifier P s p.context p.scope (Some x) A) A (Some x) (bracketed p q r t _ _ (λ G ns. P.type G ns A) a b c) d))

  pub arrow_bound : (p q r t : Page) (base : List ℕ) (occurring : Bool) (A : LfType) → occurring ≡ false
      → Writes p q (in_parentheses_if (quantified_test A) (P.type p.context p.scope A)) → Writes q r (space ∷ token (codes "->") ∷ space ∷ []) → Binds r t [] A None
      → Binds p t (quantifier P s p.context p.scope (quantifier_name s p.scope occurring base) A) A (quantifier_name s p.scope occurring base)
  arrow_bound p q r t base occurring A n a b c =
      subst (λ o. Binds p t (quantifier P s p.context p.scope (quantifier_name s p.scope o base) A) A (quantifier_name s p.scope o base)) (sym n)
      (then_enter p r t _ A None (then p q r _ _ a b) c)

  pub domain_enclosed : (p q r t : Page) (A : LfType) → quantified_test A ≡ true → Writes p q (token (codes "(") ∷ []) → Writes q r (P.type q.context q.scope A) → Writes r t (token (codes ")") ∷ [])
      → Writes p t (in_parentheses_if (quantified_test A) (P.type p.context p.scope A))
  domain_enclosed p q r t A y a b c = subst (λ k. Writes p t (in_parentheses_if k (P.type p.context p.scope A))) (sym y) (enclosed p q r t (λ G ns. P.type G ns A) a b c)

  pub domain_alone : (p q : Page) (A : LfType) → quantified_test A ≡ false → Writes p q (P.type p.context p.scope A) → Writes p q (in_parentheses_if (quantified_test A) (P.type p.context p.scope A))
  domain_alone p q A n w = subst (λ k. Writes p q (in_parentheses_if k (P.type p.context p.scope A))) (sym n) w

  pub operand_enclosed : (p q r t : Page) (x : spec.Argument) → is_operation s x.0 ≡ true → Writes p q (token (codes "(") ∷ []) → Writes q r (P.term q.context q.scope x.0 x.1) → Writes r t (token (codes ")") ∷ [])
      → Writes p t (operand P s p.context p.scope x)
  operand_enclosed p q r t x y a b c = subst (λ k. Writes p t (in_parentheses_if k (P.term p.context p.scope x.0 x.1))) (sym y) (enclosed p q r t (λ G ns. P.term G ns x.0 x.1) a b c)

  pub argument_enclosed : (p q r t : Page) (x : spec.Argument) → is_bare s x.0 ≡ false → Writes p q (token (codes "(") ∷ []) → Writes q r (P.term q.context q.scope x.0 x.1) → Writes r t (token (codes ")") ∷ [])
      → Writes p t (argument P s p.context p.scope x)
  argument_enclosed p q r t x n a b c = subst (λ k. Writes p t (cond k (P.term p.context p.scope x.0 x.1) (in_parentheses (P.term p.context p.scope x.0 x.1)))) (sym n) (enclosed p q r t (λ G ns. P.term G ns x.0 x.1) a b c)

  -- an operation in parentheses, and further arguments
  pub operation_followed : (p q r t u : Page) (word : List ℕ) (fix : Fix) (xs rest : List spec.Argument) (op : Option Fix) → op ≡ Some fix → operand_count fix < length xs → rest ≡ drop (operand_count fix) xs
      → Writes p q (token (codes "(") ∷ []) → Writes q r (operation P s q.context q.scope word fix xs) → Writes r t (token (codes ")") ∷ []) → Writes t u (spaced P s t.context t.scope rest)
      → Writes p u (application P s p.context p.scope word op xs)
  operation_followed p q r t u word fix xs rest op e h f a b c d =
      let v = enclosed p q r t (λ G ns. operation P s G ns word fix xs) a b c in
      subst (λ o. Writes p u (application P s p.context p.scope word o xs)) (sym e)
      (subst (Writes p u) (sym (more_than_enough P s p.context p.scope word fix xs h))
      (subst (λ ys. Writes p u (in_parentheses (operation P s p.context p.scope word fix xs) ++ spaced P s p.context p.scope ys)) f
      (then_at p t u _ (λ G ns. spaced P s G ns rest) v d)))

  pub infix_at : (p q r t u v : Page) (word : List ℕ) (fix : Fix) (a : Assoc) (n : ℕ) (xs : List Argument) (x y : Argument) → fix ≡ Infix a n → 2 ≤ length xs → x ≡ get_or xs 0 x → y ≡ get_or xs 1 y
      → Writes p q (operand P s p.context p.scope (argument_of x)) → Writes q r (space ∷ []) → Writes r t (token word ∷ []) → Writes t u (space ∷ []) → Writes u v (operand P s u.context u.scope (argument_of y))
      → Writes p v (operation P s p.context p.scope word fix (map argument_of xs))
  infix_at p q r t u v word fix a n xs x y e h f g w1 w2 w3 w4 w5 =
      subst (λ k. Writes p v (operation P s p.context p.scope word k (map argument_of xs))) (sym e)
      (subst (Writes p v) (infix_written P s p.context p.scope word a n xs x y h f g)
      (subst (Writes p v) (append_pieces (operand P s p.context p.scope (argument_of x)) (space ∷ token word ∷ space ∷ []) (operand P s p.context p.scope (argument_of y)))
      (then_at p u v _ (λ G ns. operand P s G ns (argument_of y)) (then p q u _ _ w1 (then q r u _ _ w2 (then r t u _ _ w3 w4))) w5)))

  pub postfix_at : (p q r t : Page) (word : List ℕ) (fix : Fix) (n : ℕ) (xs : List Argument) (x : Argument) → fix ≡ Postfix n → 1 ≤ length xs → x ≡ get_or xs 0 x
      → Writes p q (operand P s p.context p.scope (argument_of x)) → Writes q r (space ∷ []) → Writes r t (token word ∷ [])
      → Writes p t (operation P s p.context p.scope word fix (map argument_of xs))
  postfix_at p q r t word fix n xs x e h f w1 w2 w3 =
      subst (λ k. Writes p t (operation P s p.context p.scope word k (map argument_of xs))) (sym e)
      (subst (Writes p t) (postfix_written P s p.context p.scope word n xs x h f) (then p q t _ _ w1 (then q r t _ _ w2 w3)))

  -- one more argument
  pub spaced_step : (p q r : Page) (x : spec.Argument) (xs ys : List spec.Argument) (out : List ℕ) (G : List LfType) (ns : Scope) → xs ≡ x ∷ ys → p.context ≡ G → p.scope ≡ ns
      → Writes p q (space ∷ []) → Writes q r (argument P s q.context q.scope x) → p.out.items ++ render (spaced P s G ns xs) ≡ out → r.out.items ++ render (spaced P s G ns ys) ≡ out
  spaced_step p q r x xs ys out G ns e g n a b h =
      let w = then_at p q r (space ∷ []) (λ G ns. argument P s G ns x) a b in
      let same : r.out.items ≡ p.out.items ++ render (space ∷ argument P s G ns x) = w.out ∙ ap₂ (λ H ms. p.out.items ++ render (space ∷ argument P s H ms x)) g n in
      ap (λ o. o ++ render (spaced P s G ns ys)) same ∙ append_assoc p.out.items (render (space ∷ argument P s G ns x)) (render (spaced P s G ns ys))
      ∙ ap (λ o. p.out.items ++ o) (sym (render-append (space ∷ argument P s G ns x) (spaced P s G ns ys)))
      ∙ ap (λ zs. p.out.items ++ render (spaced P s G ns zs)) (sym e) ∙ h

pub on_ok : {T E : Type 0} (r : Result T E) (P Q : Type 0) → (P → Q) → OnOk r P → OnOk r Q
on_ok (Ok x) P Q f h = f h
on_ok (Err e) P Q f h = h

-- by the levels and the parts of what is shown
module _ (s : Scene) (n : ℕ) where
  pub root_at : (p q : Page) (M : Term) (h : Head) (S : Spine) (t : Option LfType) (levels : ℕ) → levels ≡ suc n → M ≡ root h S
      → Writes p q (root_pieces (parts s n) s p.context p.scope h S) → Writes p q ((parts s levels).term p.context p.scope M t)
  root_at p q M h S t levels e f w = subst (λ X. Writes p q ((parts s levels).term p.context p.scope X t)) (sym f) (subst (λ m. Writes p q ((parts s m).term p.context p.scope (root h S) t)) (sym e) w)

  pub atom_at : (p q : Page) (A : LfType) (a : ℕ) (S : Spine) (levels : ℕ) → levels ≡ suc n → A ≡ atom a S
      → Writes p q (atom_pieces (parts s n) s p.context p.scope a S) → Writes p q ((parts s levels).type p.context p.scope A)
  atom_at p q A a S levels e f w = subst (λ X. Writes p q ((parts s levels).type p.context p.scope X)) (sym f) (subst (λ m. Writes p q ((parts s m).type p.context p.scope (atom a S))) (sym e) w)

  quantified : (p q r t : Page) (A : LfType) (o o' : Bool) (base base' : List ℕ) (R : List LfType → Scope → List Piece) → o ≡ o' → base ≡ base'
      → Binds p q (quantifier (parts s n) s p.context p.scope (quantifier_name s p.scope o base) A) A (quantifier_name s p.scope o base)
      → Writes q r (R q.context q.scope) → t.out.items ≡ r.out.items → t.context ≡ drop 1 r.context → t.scope ≡ drop 1 r.scope
      → Writes p t (quantifier (parts s n) s p.context p.scope (quantifier_name s p.scope o' base') A ++ R (A ∷ p.context) (quantifier_name s p.scope o' base' ∷ p.scope))
  quantified p q r t A o o' base base' R e f b w x y z =
      let F : Bool → List ℕ → List Piece = λ k c. quantifier (parts s n) s p.context p.scope (quantifier_name s p.scope k c) A ++ R (A ∷ p.context) (quantifier_name s p.scope k c ∷ p.scope) in
      subst (λ c. Writes p t (F o' c)) f (subst (λ k. Writes p t (F k base)) e (scoped p q r t _ A (quantifier_name s p.scope o base) R b w x y z))

  pub pi_at : (p q r t : Page) (C A B : LfType) (o : Bool) (base : List ℕ) (levels : ℕ) → levels ≡ suc n → C ≡ pi A B → o ≡ occurs_in_type 0 B → base ≡ lower_base s A
      → Binds p q (quantifier (parts s n) s p.context p.scope (quantifier_name s p.scope o base) A) A (quantifier_name s p.scope o base)
      → Writes q r ((parts s n).type q.context q.scope B) → t.out.items ≡ r.out.items → t.context ≡ drop 1 r.context → t.scope ≡ drop 1 r.scope
      → Writes p t ((parts s levels).type p.context p.scope C)
  pi_at p q r t C A B o base levels e f g h b w x y z =
      subst (λ X. Writes p t ((parts s levels).type p.context p.scope X)) (sym f) (subst (λ m. Writes p t ((parts s m).type p.context p.scope (pi A B))) (sym e)
      (quantified p q r t A o (occurs_in_type 0 B) base (lower_base s A) (λ G ns. (parts s n).type G ns B) g h b w x y z))

  module _ (implicit : ℕ) (hints : List (Option (List ℕ))) (k : ℕ) where
    pub leading_atom : (p q : Page) (A : LfType) (a : ℕ) (S : Spine) (levels : ℕ) → levels ≡ suc n → A ≡ atom a S
        → Writes p q (atom_pieces (parts s n) s p.context p.scope a S) → Writes p q (leading_type s implicit hints levels k p.context p.scope A)
    leading_atom p q A a S levels e f w = subst (λ X. Writes p q (leading_type s implicit hints levels k p.context p.scope X)) (sym f) (subst (λ m. Writes p q (leading_type s implicit hints m k p.context p.scope (atom a S))) (sym e) w)

    pub leading_pi : (p q r t : Page) (C A B : LfType) (o : Bool) (base : List ℕ) (levels next : ℕ) → levels ≡ suc n → next ≡ suc k → C ≡ pi A B → o ≡ occurs_in_type 0 B → base ≡ leading_base s implicit hints k A
        → Binds p q (quantifier (parts s n) s p.context p.scope (quantifier_name s p.scope o base) A) A (quantifier_name s p.scope o base)
        → Writes q r (leading_type s implicit hints n next q.context q.scope B) → t.out.items ≡ r.out.items → t.context ≡ drop 1 r.context → t.scope ≡ drop 1 r.scope
        → Writes p t (leading_type s implicit hints levels k p.context p.scope C)
    leading_pi p q r t C A B o base levels next e i f g h b w x y z =
        subst (λ X. Writes p t (leading_type s implicit hints levels k p.context p.scope X)) (sym f) (subst (λ m. Writes p t (leading_type s implicit hints m k p.context p.scope (pi A B))) (sym e)
        (quantified p q r t A o (occurs_in_type 0 B) base (leading_base s implicit hints k A) (λ G ns. leading_type s implicit hints n (suc k) G ns B) g h b (subst (λ m. Writes q r (leading_type s implicit hints n m q.context q.scope B)) i w) x y z))

    pub leading_kind_pi : (p q r t : Page) (C : Kind) (A : LfType) (K : Kind) (o : Bool) (base : List ℕ) (levels next : ℕ) → levels ≡ suc n → next ≡ suc k → C ≡ kind_pi A K → o ≡ occurs_in_kind 0 K → base ≡ leading_base s implicit hints k A
        → Binds p q (quantifier (parts s n) s p.context p.scope (quantifier_name s p.scope o base) A) A (quantifier_name s p.scope o base)
        → Writes q r (leading_kind s implicit hints n next q.context q.scope K) → t.out.items ≡ r.out.items → t.context ≡ drop 1 r.context → t.scope ≡ drop 1 r.scope
        → Writes p t (leading_kind s implicit hints levels k p.context p.scope C)
    leading_kind_pi p q r t C A K o base levels next e i f g h b w x y z =
        subst (λ X. Writes p t (leading_kind s implicit hints levels k p.context p.scope X)) (sym f) (subst (λ m. Writes p t (leading_kind s implicit hints m k p.context p.scope (kind_pi A K))) (sym e)
        (quantified p q r t A o (occurs_in_kind 0 K) base (leading_base s implicit hints k A) (λ G ns. leading_kind s implicit hints n (suc k) G ns K) g h b (subst (λ m. Writes q r (leading_kind s implicit hints n m q.context q.scope K)) i w) x y z))

-- marks of a quantified type or kind
pub first_of_type : (ms : List Bool) (C A B : LfType) → ms ≡ marks_of C → C ≡ pi A B → head_mark ms ≡ occurs_in_type 0 B
first_of_type ms C A B e f = ap head_mark e ∙ ap (λ X. head_mark (marks_of X)) f

pub first_of_kind : (ms : List Bool) (C : Kind) (A : LfType) (K : Kind) → ms ≡ kind_marks_of C → C ≡ kind_pi A K → head_mark ms ≡ occurs_in_kind 0 K
first_of_kind ms C A K e f = ap head_mark e ∙ ap (λ X. head_mark (kind_marks_of X)) f

-- a declaration, part by part
pub declared_line : (p p1 p2 p3 p4 p5 p6 p7 p8 : Page) (name : List ℕ) (K C D : List Piece) → Writes p p1 K → Writes p1 p2 (token name ∷ []) → Writes p2 p3 (space ∷ []) → Writes p3 p4 (token (codes ":") ∷ []) → Writes p4 p5 (space ∷ []) → Writes p5 p6 C → Writes p6 p7 D → Writes p7 p8 (token (codes ".") ∷ [])
    → Writes p p8 (K ++ ((token name ∷ space ∷ token (codes ":") ∷ space ∷ C) ++ (D ++ token (codes ".") ∷ [])))
declared_line p p1 p2 p3 p4 p5 p6 p7 p8 name K C D w1 w2 w3 w4 w5 w6 w7 w8 =
    then p p1 p8 _ _ w1 (then p1 p6 p8 _ _ (then p1 p2 p6 _ _ w2 (then p2 p3 p6 _ _ w3 (then p3 p4 p6 _ _ w4 (then p4 p5 p6 _ _ w5 w6)))) (then p6 p7 p8 _ _ w7 w8))

-- the type of an argument, lent
pub seen_ref : (o : Option (Bor Ty)) (x : Option Ty) → option_copied o ≡ x → option_map (λ a. type_of a.now) o ≡ option_map type_of x
seen_ref (Some a) x e = ap (option_map type_of) e
seen_ref None x e = ap (option_map type_of) e

pub application_by : (P : Parts) (s : Scene) (p q : Page) (word word' : List ℕ) (op op' : Option Fix) (xs xs' : List spec.Argument) → word ≡ word' → op ≡ op' → xs ≡ xs'
    → Writes p q (application P s p.context p.scope word op xs) → Writes p q (application P s p.context p.scope word' op' xs')
application_by P s p q word word' op op' xs xs' e f g w =
    subst (λ y. Writes p q (application P s p.context p.scope word' op' y)) g (subst (λ o. Writes p q (application P s p.context p.scope word' o xs)) f (subst (λ v. Writes p q (application P s p.context p.scope v op xs)) e w))
