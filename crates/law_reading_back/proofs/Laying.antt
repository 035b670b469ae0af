-- What is printed is the layout of its sketch.
use Rattle.std.proofs.Common.{◌≡◌, ℕ, zero, suc, List, [], ◌∷◌, ◌++◌, length, drop, Bool, true, false, cond, Option, Some, None, refl, ap, ap₂, ◌∙◌, arith}
use Rattle.std.proofs.lemmas.Bool.Decides.{nat_tests}
use Rattle.std.specs.Prelude.{nat_le, codes}
use Rattle.lf.specs.Entries.{Body, declare_family, declare_constant, declare_definition}
use Rattle.lf.specs.Syntax.{Head, Term, lambda, root, Spine, LfType, pi, atom, Kind, kind_pi, star}
use Rattle.tw_fixity.specs.declared.table.Fix.{Fix}
use Rattle.tw_fixity.specs.declared.table.Fix.TheVariants.{Infix, Prefix, Postfix}
use Rattle.tw_print.specs.Arguments.{Argument, arguments, head_type, family_type, hidden, head_hidden}
use Rattle.tw_fixity.specs.Names.{Names as Scope}
use Rattle.tw_print.specs.Names.{Scene, fresh_name, lower_base, head_word, constant_word}
use Rattle.tw_print.specs.Pieces.{Piece, token, space, in_parentheses}
use Rattle.tw_print.specs.Shown as shown
use Rattle.tw_print.specs.Shown.{Parts, is_bare, is_operation, quantified_test, has_operands, operand_count, operator, head_operator, shown_count, in_parentheses_if, quantifier, quantifier_name, leading_name, leading_type, leading_kind, classifier, nesting_limit}
use Rattle.tw_print.specs.Variables.{occurs_in_type, occurs_in_kind}
use Rattle.law_reading_back.specs.Layout.{Part, as_argument, as_operand, spaced, operated, followed, laid, pieces, parts}
use Rattle.law_reading_back.specs.Sketches.{manner_by, manner, type_manner, quantified_by, Hand, sketches, root_sketch, atom_sketch, hand, leading_type_sketch, leading_kind_sketch, classifier_sketch}

-- a head alone is no operator with operands
le_zero : (k : ℕ) → nat_le k 0 ≡ true → k ≡ 0
le_zero k e = grind (arith, nat_tests)

none_at_zero : (o : Option Fix) → has_operands o 0 ≡ false
none_at_zero None = refl
none_at_zero (Some (Infix a n)) = refl
none_at_zero (Some (Prefix n)) = refl
none_at_zero (Some (Postfix n)) = refl

no_operands : (o : Option Fix) (k : ℕ) → nat_le k 0 ≡ true → has_operands o k ≡ false
no_operands o k e = ap (has_operands o) (le_zero k e) ∙ none_at_zero o

bare_or_operation : (s : Scene) (M : Term) → is_bare s M ≡ true → is_operation s M ≡ false
bare_or_operation s (lambda M) e = cc
bare_or_operation s (root h S) e = no_operands (head_operator s h) (shown_count s h S) e

argument_by : (b c : Bool) (ps : List Piece) → cond b ps (in_parentheses ps) ≡ as_argument (manner_by b c) ps
argument_by true c ps = refl
argument_by false true ps = refl
argument_by false false ps = refl

operand_by : (b c : Bool) (ps : List Piece) → (b ≡ true → c ≡ false) → in_parentheses_if c ps ≡ as_operand (manner_by b c) ps
operand_by true true ps h = let e : true ≡ false = h refl in cc
operand_by true false ps h = refl
operand_by false true ps h = refl
operand_by false false ps h = refl

module _ (p : Parts) (q : Hand) (s : Scene) (G : List LfType) (ns : Scope) (terms : (M : Term) (t : Option LfType) → p.term G ns M t ≡ pieces (q.term G ns M t)) where
  part : Argument → Part
  part a = record { manner = manner s a.0; pieces = pieces (q.term G ns a.0 a.1) }

  argument_is : (a : Argument) → shown.argument p s G ns a ≡ as_argument (manner s a.0) (pieces (q.term G ns a.0 a.1))
  argument_is a = ap (λ ps. cond (is_bare s a.0) ps (in_parentheses ps)) (terms a.0 a.1) ∙ argument_by (is_bare s a.0) (is_operation s a.0) (pieces (q.term G ns a.0 a.1))

  operand_is : (a : Argument) → shown.operand p s G ns a ≡ as_operand (manner s a.0) (pieces (q.term G ns a.0 a.1))
  operand_is a = ap (in_parentheses_if (is_operation s a.0)) (terms a.0 a.1) ∙ operand_by (is_bare s a.0) (is_operation s a.0) (pieces (q.term G ns a.0 a.1)) (bare_or_operation s a.0)

  spaced_is : (xs : List Argument) → shown.spaced p s G ns xs ≡ spaced (parts (sketches q s G ns xs))
  spaced_is [] = refl
  spaced_is (a ∷ xs) = ap₂ (λ x y. (space ∷ x) ++ y) (argument_is a) (spaced_is xs)

  operated_is : (word : List ℕ) (fix : Fix) (xs : List Argument) → shown.operation p s G ns word fix xs ≡ operated word fix (parts (sketches q s G ns xs))
  operated_is word (Infix a n) (l ∷ r ∷ xs) = ap₂ (λ x y. x ++ (space ∷ token word ∷ space ∷ y)) (operand_is l) (operand_is r)
  operated_is word (Infix a n) (l ∷ []) = refl
  operated_is word (Infix a n) [] = refl
  operated_is word (Prefix n) (x ∷ xs) = ap (λ y. token word ∷ space ∷ y) (operand_is x)
  operated_is word (Prefix n) [] = refl
  operated_is word (Postfix n) (x ∷ xs) = ap (λ y. y ++ (space ∷ token word ∷ [])) (operand_is x)
  operated_is word (Postfix n) [] = refl

  followed_is : (ps : List Piece) (xs : List Argument) → shown.followed p s G ns ps xs ≡ followed ps (parts (sketches q s G ns xs))
  followed_is ps [] = refl
  followed_is ps (a ∷ xs) = ap (λ y. in_parentheses ps ++ y) (spaced_is (a ∷ xs))

  as_many : (xs : List Argument) → length xs ≡ length (parts (sketches q s G ns xs))
  as_many [] = refl
  as_many (a ∷ xs) = ap suc (as_many xs)

  dropped : (n : ℕ) (xs : List Argument) → parts (sketches q s G ns (drop n xs)) ≡ drop n (parts (sketches q s G ns xs))
  dropped zero xs = refl
  dropped (suc n) [] = refl
  dropped (suc n) (a ∷ xs) = dropped n xs

  pub application_is : (word : List ℕ) (o : Option Fix) (xs : List Argument) → shown.application p s G ns word o xs ≡ laid word o (parts (sketches q s G ns xs))
  application_is word None xs = ap (λ y. token word ∷ y) (spaced_is xs)
  application_is word (Some fix) xs =
      let n = operand_count fix in
      ap (λ k. cond (nat_le n k) (shown.followed p s G ns (shown.operation p s G ns word fix xs) (drop n xs)) (shown.plain_application p s G ns word xs)) (as_many xs)
      ∙ ap₂ (λ x y. cond (nat_le n (length (parts (sketches q s G ns xs)))) x y)
      (ap (λ ps. shown.followed p s G ns ps (drop n xs)) (operated_is word fix xs) ∙ followed_is (operated word fix (parts (sketches q s G ns xs))) (drop n xs) ∙ ap (followed (operated word fix (parts (sketches q s G ns xs)))) (dropped n xs))
      (ap (λ y. token word ∷ y) (spaced_is xs))

pub record SamePieces (s : Scene) (n : ℕ) : Type 0 where
  pub terms : (G : List LfType) (ns : Scope) (M : Term) (t : Option LfType) → (shown.parts s n).term G ns M t ≡ pieces ((hand s n).term G ns M t)
  pub types : (G : List LfType) (ns : Scope) (A : LfType) → (shown.parts s n).type G ns A ≡ pieces ((hand s n).type G ns A)

module _ (s : Scene) (n : ℕ) (same : SamePieces s n) where
  operand_of_type : (b : Bool) (ps : List Piece) → in_parentheses_if b ps ≡ as_operand (manner_by false b) ps
  operand_of_type true ps = refl
  operand_of_type false ps = refl

  quantified_is : (G : List LfType) (ns : Scope) (A : LfType) (x : Option (List ℕ)) (ps : List Piece) (u : _) → ps ≡ pieces u
      → quantifier (shown.parts s n) s G ns x A ++ ps ≡ pieces (quantified_by x (type_manner A) ((hand s n).type G ns A) u)
  quantified_is G ns A (Some x) ps u e = ap₂ (λ a b. ((token (codes "{") ∷ token x ∷ token (codes ":") ∷ a) ++ token (codes "}") ∷ space ∷ []) ++ b) (same.types G ns A) e
  quantified_is G ns A None ps u e =
      ap₂ (λ a b. (a ++ space ∷ token (codes "->") ∷ space ∷ []) ++ b)
      (ap (in_parentheses_if (quantified_test A)) (same.types G ns A) ∙ operand_of_type (quantified_test A) (pieces ((hand s n).type G ns A))) e

  root_is : (G : List LfType) (ns : Scope) (h : Head) (S : Spine) → shown.root_pieces (shown.parts s n) s G ns h S ≡ pieces (root_sketch (hand s n) s G ns h S)
  root_is G ns h S = application_is (shown.parts s n) (hand s n) s G ns (same.terms G ns) (head_word s ns h) (head_operator s h) (drop (head_hidden s h) (arguments (head_type s G h) S))

  atom_is : (G : List LfType) (ns : Scope) (a : ℕ) (S : Spine) → shown.atom_pieces (shown.parts s n) s G ns a S ≡ pieces (atom_sketch (hand s n) s G ns a S)
  atom_is G ns a S = application_is (shown.parts s n) (hand s n) s G ns (same.terms G ns) (constant_word s a) (operator s a) (drop (hidden s a) (arguments (family_type s a) S))

  next_terms : (G : List LfType) (ns : Scope) (M : Term) (t : Option LfType) → (shown.parts s (suc n)).term G ns M t ≡ pieces ((hand s (suc n)).term G ns M t)
  next_terms G ns (root h S) t = root_is G ns h S
  next_terms G ns (lambda M) (Some (pi A B)) =
      let x = fresh_name s ns (lower_base s A) in
      ap₂ (λ a b. ((token (codes "[") ∷ token x ∷ token (codes ":") ∷ a) ++ token (codes "]") ∷ space ∷ []) ++ b) (same.types G ns A) (same.terms (A ∷ G) (Some x ∷ ns) M (Some B))
  next_terms G ns (lambda M) (Some (atom a T)) = refl
  next_terms G ns (lambda M) None = refl

  next_types : (G : List LfType) (ns : Scope) (A : LfType) → (shown.parts s (suc n)).type G ns A ≡ pieces ((hand s (suc n)).type G ns A)
  next_types G ns (pi A B) =
      let x = quantifier_name s ns (occurs_in_type 0 B) (lower_base s A) in
      quantified_is G ns A x ((shown.parts s n).type (A ∷ G) (x ∷ ns) B) ((hand s n).type (A ∷ G) (x ∷ ns) B) (same.types (A ∷ G) (x ∷ ns) B)
  next_types G ns (atom a S) = atom_is G ns a S

pub same_pieces : (s : Scene) (n : ℕ) → SamePieces s n
same_pieces s zero = record { terms = λ G ns M t. refl; types = λ G ns A. refl }
same_pieces s (suc n) = record { terms = λ G ns M t. next_terms s n (same_pieces s n) G ns M t; types = λ G ns A. next_types s n (same_pieces s n) G ns A }

module _ (s : Scene) (implicit : ℕ) (hints : List (Option (List ℕ))) where
  leading_type_is : (n k : ℕ) (G : List LfType) (ns : Scope) (A : LfType) → leading_type s implicit hints n k G ns A ≡ pieces (leading_type_sketch s implicit hints n k G ns A)
  leading_type_is zero k G ns A = refl
  leading_type_is (suc n) k G ns (pi A B) =
      let x = leading_name s implicit hints ns (occurs_in_type 0 B) k A in
      quantified_is s n (same_pieces s n) G ns A x (leading_type s implicit hints n (suc k) (A ∷ G) (x ∷ ns) B) (leading_type_sketch s implicit hints n (suc k) (A ∷ G) (x ∷ ns) B) (leading_type_is n (suc k) (A ∷ G) (x ∷ ns) B)
  leading_type_is (suc n) k G ns (atom a S) = atom_is s n (same_pieces s n) G ns a S

  leading_kind_is : (n k : ℕ) (G : List LfType) (ns : Scope) (K : Kind) → leading_kind s implicit hints n k G ns K ≡ pieces (leading_kind_sketch s implicit hints n k G ns K)
  leading_kind_is zero k G ns K = refl
  leading_kind_is (suc n) k G ns (kind_pi A K) =
      let x = leading_name s implicit hints ns (occurs_in_kind 0 K) k A in
      quantified_is s n (same_pieces s n) G ns A x (leading_kind s implicit hints n (suc k) (A ∷ G) (x ∷ ns) K) (leading_kind_sketch s implicit hints n (suc k) (A ∷ G) (x ∷ ns) K) (leading_kind_is n (suc k) (A ∷ G) (x ∷ ns) K)
  leading_kind_is (suc n) k G ns star = refl

  pub classifier_is : (b : Body) → classifier s implicit hints b ≡ pieces (classifier_sketch s implicit hints b)
  classifier_is (declare_family K) = leading_kind_is nesting_limit 0 [] [] K
  classifier_is (declare_constant A) = leading_type_is nesting_limit 0 [] [] A
  classifier_is (declare_definition M A b) = leading_type_is nesting_limit 0 [] [] A
