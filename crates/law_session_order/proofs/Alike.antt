-- A text doesn't hang on the names by which other entries show their quantifiers.
use Rattle.std.proofs.Common.{◌≡◌, ℕ, zero, suc, ◌-◌, List, [], ◌∷◌, ◌++◌, drop, length, Bool, true, false, cond, ◌||◌, Option, Some, None, refl, sym, ap, ap₂, ◌∙◌}
use Rattle.std.specs.Prelude.{codes, nat_le, is_some, if◌then◌else◌}
use Rattle.std.specs.Str.{bytes_eq}
use Rattle.std.specs.FinMap.{FinMap, get}
use Rattle.std.specs.Ordering.{nat_cmp}
use Rattle.std.proofs.Math.Path.{fun_ext}
use Rattle.lf.specs.Entries.{Body, Entry, declare_constant, declare_definition, declare_family, entry, signature_of, type_of_body, kind_of_body, type_of, kind_of}
use Rattle.lf.specs.Syntax.{Head, constant, variable, metavariable, Term, lambda, root, Spine, LfType, pi, atom, Kind, kind_pi, star}
use Rattle.lf.specs.Typing.{Signature}
use Rattle.lf.specs.Variables.{same_number}
use Rattle.tw_fixity.specs.Names.{Names as Scope, is_in_scope}
use Rattle.tw_fixity.specs.Rows.{name_order}
use Rattle.tw_fixity.specs.declared.table.Fix.{Fix}
use Rattle.tw_fixity.specs.declared.table.Fix.TheVariants.{Infix, Prefix, Postfix}
use Rattle.tw_print.specs.Arguments.{Argument, arguments, kind_as_type, type_or, kind_or, head_type, family_type, implicit_in, hidden, head_hidden, spine_length}
use Rattle.tw_print.specs.Names.{Scene, Preferences, name_in, is_newest, is_plain, constant_word, head_word, is_taken, candidate, candidates, first_free, fresh_name, lower_base}
use Rattle.tw_print.specs.Pieces.{Piece, token, space, render, in_parentheses}
use Rattle.tw_print.specs.Shown.{Parts, parts, operator, head_operator, operand_count, has_operands, shown_count, is_bare, is_operation, in_parentheses_if, quantified_test, argument, operand, spaced, followed, operation, application, root_pieces, atom_pieces, quantifier, abstraction, quantifier_name, term_layout, type_layout, nesting_limit, leading_base, leading_name, leading_type, leading_kind, keyword, classifier, defined_as, declaration_line}
use Rattle.tw_print.specs.Variables.{occurs_in_type, occurs_in_kind}
use Rattle.tw_signature.specs.Names.{number_of}
use Rattle.law_session_order.specs.Order.{IsAlike, AreAlike}

pub same_length : (es fs : List Entry) → AreAlike es fs → length es ≡ length fs
same_length [] [] a = refl
same_length [] (f ∷ fs) a = absurd a
same_length (e ∷ es) [] a = absurd a
same_length (e ∷ es) (f ∷ fs) (a, h) = ap suc (same_length es fs h)

-- what is looked up of an entry, where that is the same of each two of them
lookup_same : {X : Type 0} (F : Option Entry → X) → ((e f : Entry) → IsAlike e f → F (Some e) ≡ F (Some f)) → (es fs : List Entry) → AreAlike es fs → (c : ℕ) → F (entry es c) ≡ F (entry fs c)
lookup_same F one [] [] a c = refl
lookup_same F one [] (f ∷ fs) a c = absurd a
lookup_same F one (e ∷ es) [] a c = absurd a
lookup_same F one (e ∷ es) (f ∷ fs) (a, h) c = by_test (same_number c (length es)) (lookup_same F one es fs h c) ∙ ap (λ n. F (cond (same_number c n) (Some f) (entry fs c))) (same_length es fs h)
  where
    by_test : (b : Bool) → F (entry es c) ≡ F (entry fs c) → F (cond b (Some e) (entry es c)) ≡ F (cond b (Some f) (entry fs c))
    by_test true k = one e f a
    by_test false k = k

number_same : (es fs : List Entry) → AreAlike es fs → (x : List ℕ) → number_of es x ≡ number_of fs x
number_same [] [] a x = refl
number_same [] (f ∷ fs) a x = absurd a
number_same (e ∷ es) [] a x = absurd a
number_same (e ∷ es) (f ∷ fs) (a, h) x =
    ap₂ (λ y n. cond (bytes_eq y x) (Some n) (number_of es x)) (sym a.name) (same_length es fs h) ∙ ap (cond (bytes_eq f.name x) (Some (length fs))) (number_same es fs h x)

abbrev signature : (ℕ → Option LfType) → (ℕ → Option Kind) → Signature
signature types kinds = record { types = types; kinds = kinds }

module _ (es fs : List Entry) (alike : AreAlike es fs) where
  name_same : (c : ℕ) → name_in (entry es c) ≡ name_in (entry fs c)
  name_same c = lookup_same name_in (λ e f a. sym a.name) es fs alike c

  implicit_same : (c : ℕ) → implicit_in (entry es c) ≡ implicit_in (entry fs c)
  implicit_same c = lookup_same implicit_in (λ e f a. sym a.implicit) es fs alike c

  type_same : (c : ℕ) → type_of (entry es c) ≡ type_of (entry fs c)
  type_same c = lookup_same type_of (λ e f a. ap type_of_body (sym a.body)) es fs alike c

  kind_same : (c : ℕ) → kind_of (entry es c) ≡ kind_of (entry fs c)
  kind_same c = lookup_same kind_of (λ e f a. ap kind_of_body (sym a.body)) es fs alike c

  pub same_signature : signature_of es ≡ signature_of fs
  same_signature = ap₂ signature (fun_ext type_same) (fun_ext kind_same)

  module _ (rows : FinMap name_order Fix) (names : FinMap nat_cmp Preferences) (implicit : Bool) where
    abbrev s : Scene
    s = record { entries = es; rows = rows; names = names; implicit = implicit }

    abbrev t : Scene
    t = record { entries = fs; rows = rows; names = names; implicit = implicit }

    plain_same : (c : ℕ) → is_plain s c ≡ is_plain t c
    plain_same c = ap (λ o. is_newest o c) (number_same es fs alike (name_in (entry es c)) ∙ ap (number_of fs) (name_same c))

    word_same : (c : ℕ) → constant_word s c ≡ constant_word t c
    word_same c = ap₂ (λ b x. if b then x else codes "%" ++ x ++ codes "%") (plain_same c) (name_same c)

    head_word_same : (ns : Scope) (h : Head) → head_word s ns h ≡ head_word t ns h
    head_word_same ns (constant c) = word_same c
    head_word_same ns (variable i) = refl
    head_word_same ns (metavariable m) = refl

    operator_same : (c : ℕ) → operator s c ≡ operator t c
    operator_same c = ap₂ (λ b x. cond implicit None (cond b (get rows x) None)) (plain_same c) (name_same c)

    head_operator_same : (h : Head) → head_operator s h ≡ head_operator t h
    head_operator_same (constant c) = operator_same c
    head_operator_same (variable i) = refl
    head_operator_same (metavariable m) = refl

    hidden_same : (c : ℕ) → hidden s c ≡ hidden t c
    hidden_same c = ap (cond implicit zero) (implicit_same c)

    head_hidden_same : (h : Head) → head_hidden s h ≡ head_hidden t h
    head_hidden_same (constant c) = hidden_same c
    head_hidden_same (variable i) = refl
    head_hidden_same (metavariable m) = refl

    head_type_same : (G : List LfType) (h : Head) → head_type s G h ≡ head_type t G h
    head_type_same G (constant c) = ap type_or (type_same c)
    head_type_same G (variable i) = refl
    head_type_same G (metavariable m) = refl

    family_type_same : (a : ℕ) → family_type s a ≡ family_type t a
    family_type_same a = ap₂ (λ n k. kind_as_type n (kind_or k)) (same_length es fs alike) (kind_same a)

    taken_same : (ns : Scope) (x : List ℕ) → is_taken s ns x ≡ is_taken t ns x
    taken_same ns x = ap (λ o. is_in_scope ns x || (is_some o || is_some (get rows x))) (number_same es fs alike x)

    first_same : (count : ℕ) (ns : Scope) (base : List ℕ) (k : ℕ) → first_free count s ns base k ≡ first_free count t ns base k
    first_same zero ns base k = refl
    first_same (suc count) ns base k = ap₂ (λ b x. cond b x (candidate base k)) (taken_same ns (candidate base k)) (first_same count ns base (suc k))

    fresh_same : (ns : Scope) (base : List ℕ) → fresh_name s ns base ≡ fresh_name t ns base
    fresh_same ns base = first_same candidates ns base zero

    quantifier_name_same : (ns : Scope) (o : Bool) (base : List ℕ) → quantifier_name s ns o base ≡ quantifier_name t ns o base
    quantifier_name_same ns o base = ap (λ x. cond o (Some x) None) (fresh_same ns base)

    count_same : (h : Head) (S : Spine) → shown_count s h S ≡ shown_count t h S
    count_same h S = ap (λ k. spine_length S - k) (head_hidden_same h)

    bare_same : (M : Term) → is_bare s M ≡ is_bare t M
    bare_same (lambda M) = refl
    bare_same (root h S) = ap (λ k. nat_le k 0) (count_same h S)

    operation_test_same : (M : Term) → is_operation s M ≡ is_operation t M
    operation_test_same (lambda M) = refl
    operation_test_same (root h S) = ap₂ has_operands (head_operator_same h) (count_same h S)

    -- the parts of a text at these levels are the same
    record Same (n : ℕ) : Type 0 where
      pub of_term : (G : List LfType) (ns : Scope) (M : Term) (o : Option LfType) → (parts s n).term G ns M o ≡ (parts t n).term G ns M o
      pub of_type : (G : List LfType) (ns : Scope) (A : LfType) → (parts s n).type G ns A ≡ (parts t n).type G ns A

    module _ (n : ℕ) (before : Same n) where
      abbrev P : Parts
      P = parts s n

      abbrev Q : Parts
      Q = parts t n

      module _ (G : List LfType) (ns : Scope) where
        argument_same : (a : Argument) → argument P s G ns a ≡ argument Q t G ns a
        argument_same a = ap₂ (λ b ps. cond b ps (in_parentheses ps)) (bare_same a.0) (before.of_term G ns a.0 a.1)

        operand_same : (a : Argument) → operand P s G ns a ≡ operand Q t G ns a
        operand_same a = ap₂ in_parentheses_if (operation_test_same a.0) (before.of_term G ns a.0 a.1)

        spaced_same : (xs : List Argument) → spaced P s G ns xs ≡ spaced Q t G ns xs
        spaced_same [] = refl
        spaced_same (a ∷ xs) = ap₂ (λ ps qs. (space ∷ ps) ++ qs) (argument_same a) (spaced_same xs)

        followed_same : (ps qs : List Piece) (xs : List Argument) → ps ≡ qs → followed P s G ns ps xs ≡ followed Q t G ns qs xs
        followed_same ps qs [] e = e
        followed_same ps qs (a ∷ xs) e = ap₂ (λ os ts. in_parentheses os ++ ts) e (spaced_same (a ∷ xs))

        operation_same : (word : List ℕ) (fix : Fix) (xs : List Argument) → operation P s G ns word fix xs ≡ operation Q t G ns word fix xs
        operation_same word (Infix a k) [] = refl
        operation_same word (Infix a k) (l ∷ []) = refl
        operation_same word (Infix a k) (l ∷ r ∷ xs) = ap₂ (λ ps qs. ps ++ (space ∷ token word ∷ space ∷ qs)) (operand_same l) (operand_same r)
        operation_same word (Prefix k) [] = refl
        operation_same word (Prefix k) (x ∷ xs) = ap (λ ps. token word ∷ space ∷ ps) (operand_same x)
        operation_same word (Postfix k) [] = refl
        operation_same word (Postfix k) (x ∷ xs) = ap (λ ps. ps ++ (space ∷ token word ∷ [])) (operand_same x)

        application_same : (word : List ℕ) (op : Option Fix) (xs : List Argument) → application P s G ns word op xs ≡ application Q t G ns word op xs
        application_same word None xs = ap (λ ps. token word ∷ ps) (spaced_same xs)
        application_same word (Some fix) xs =
            ap₂ (λ ps qs. cond (nat_le (operand_count fix) (length xs)) ps (token word ∷ qs))
            (followed_same (operation P s G ns word fix xs) (operation Q t G ns word fix xs) (drop (operand_count fix) xs) (operation_same word fix xs))
            (spaced_same xs)

        root_same : (h : Head) (S : Spine) → root_pieces P s G ns h S ≡ root_pieces Q t G ns h S
        root_same h S =
            application_same (head_word s ns h) (head_operator s h) (drop (head_hidden s h) (arguments (head_type s G h) S))
            ∙ ap₂ (λ w o. application Q t G ns w o (drop (head_hidden s h) (arguments (head_type s G h) S))) (head_word_same ns h) (head_operator_same h)
            ∙ ap₂ (λ k A. application Q t G ns (head_word t ns h) (head_operator t h) (drop k (arguments A S))) (head_hidden_same h) (head_type_same G h)

        atom_same : (a : ℕ) (S : Spine) → atom_pieces P s G ns a S ≡ atom_pieces Q t G ns a S
        atom_same a S =
            application_same (constant_word s a) (operator s a) (drop (hidden s a) (arguments (family_type s a) S))
            ∙ ap₂ (λ w o. application Q t G ns w o (drop (hidden s a) (arguments (family_type s a) S))) (word_same a) (operator_same a)
            ∙ ap₂ (λ k A. application Q t G ns (constant_word t a) (operator t a) (drop k (arguments A S))) (hidden_same a) (family_type_same a)

        quantifier_same : (x : Option (List ℕ)) (A : LfType) → quantifier P s G ns x A ≡ quantifier Q t G ns x A
        quantifier_same (Some x) A = ap (λ ps. (token (codes "{") ∷ token x ∷ token (codes ":") ∷ ps) ++ token (codes "}") ∷ space ∷ []) (before.of_type G ns A)
        quantifier_same None A = ap (λ ps. in_parentheses_if (quantified_test A) ps ++ space ∷ token (codes "->") ∷ space ∷ []) (before.of_type G ns A)

        abstraction_same : (x : List ℕ) (A : LfType) → abstraction P s G ns x A ≡ abstraction Q t G ns x A
        abstraction_same x A = ap (λ ps. (token (codes "[") ∷ token x ∷ token (codes ":") ∷ ps) ++ token (codes "]") ∷ space ∷ []) (before.of_type G ns A)

        -- a quantifier and the rest, which is the same under each name
        quantified_same : (A : LfType) (x y : Option (List ℕ)) (R T : Option (List ℕ) → List Piece) → x ≡ y → ((z : Option (List ℕ)) → R z ≡ T z) → quantifier P s G ns x A ++ R x ≡ quantifier Q t G ns y A ++ T y
        quantified_same A x y R T e f = ap₂ (λ ps qs. ps ++ qs) (quantifier_same x A) (f x) ∙ ap (λ z. quantifier Q t G ns z A ++ T z) e

        term_same : (M : Term) (o : Option LfType) → term_layout P s G ns M o ≡ term_layout Q t G ns M o
        term_same (root h S) o = root_same h S
        term_same (lambda M) None = refl
        term_same (lambda M) (Some (atom a T)) = refl
        term_same (lambda M) (Some (pi A B)) =
            let x = fresh_name s ns (lower_base s A) in
            ap₂ (λ ps qs. ps ++ qs) (abstraction_same x A) (before.of_term (A ∷ G) (Some x ∷ ns) M (Some B))
            ∙ ap (λ y. abstraction Q t G ns y A ++ Q.term (A ∷ G) (Some y ∷ ns) M (Some B)) (fresh_same ns (lower_base s A))

        layout_same : (A : LfType) → type_layout P s G ns A ≡ type_layout Q t G ns A
        layout_same (atom a S) = atom_same a S
        layout_same (pi A B) =
            let o = occurs_in_type 0 B in
            quantified_same A (quantifier_name s ns o (lower_base s A)) (quantifier_name t ns o (lower_base s A)) (λ x. P.type (A ∷ G) (x ∷ ns) B) (λ x. Q.type (A ∷ G) (x ∷ ns) B)
            (quantifier_name_same ns o (lower_base s A)) (λ x. before.of_type (A ∷ G) (x ∷ ns) B)

    same : (n : ℕ) → Same n
    same zero = record { of_term = λ G ns M o. refl; of_type = λ G ns A. refl }
    same (suc n) = record { of_term = λ G ns M o. term_same n (same n) G ns M o; of_type = λ G ns A. layout_same n (same n) G ns A }

    module _ (i : ℕ) (hints : List (Option (List ℕ))) where
      leading_same : (n k : ℕ) (G : List LfType) (ns : Scope) (A : LfType) → leading_type s i hints n k G ns A ≡ leading_type t i hints n k G ns A
      leading_same zero k G ns A = refl
      leading_same (suc n) k G ns (atom a S) = atom_same n (same n) G ns a S
      leading_same (suc n) k G ns (pi A B) =
          let o = occurs_in_type 0 B in
          quantified_same n (same n) G ns A (leading_name s i hints ns o k A) (leading_name t i hints ns o k A) (λ x. leading_type s i hints n (suc k) (A ∷ G) (x ∷ ns) B) (λ x. leading_type t i hints n (suc k) (A ∷ G) (x ∷ ns) B)
          (quantifier_name_same ns o (leading_base s i hints k A)) (λ x. leading_same n (suc k) (A ∷ G) (x ∷ ns) B)

      leading_kind_same : (n k : ℕ) (G : List LfType) (ns : Scope) (K : Kind) → leading_kind s i hints n k G ns K ≡ leading_kind t i hints n k G ns K
      leading_kind_same zero k G ns K = refl
      leading_kind_same (suc n) k G ns star = refl
      leading_kind_same (suc n) k G ns (kind_pi A K) =
          let o = occurs_in_kind 0 K in
          quantified_same n (same n) G ns A (leading_name s i hints ns o k A) (leading_name t i hints ns o k A) (λ x. leading_kind s i hints n (suc k) (A ∷ G) (x ∷ ns) K) (λ x. leading_kind t i hints n (suc k) (A ∷ G) (x ∷ ns) K)
          (quantifier_name_same ns o (leading_base s i hints k A)) (λ x. leading_kind_same n (suc k) (A ∷ G) (x ∷ ns) K)

      classifier_same : (b : Body) → classifier s i hints b ≡ classifier t i hints b
      classifier_same (declare_family K) = leading_kind_same nesting_limit 0 [] [] K
      classifier_same (declare_constant A) = leading_same nesting_limit 0 [] [] A
      classifier_same (declare_definition M A b) = leading_same nesting_limit 0 [] [] A

    defined_same : (b : Body) → defined_as s b ≡ defined_as t b
    defined_same (declare_family K) = refl
    defined_same (declare_constant A) = refl
    defined_same (declare_definition M A b) = ap (λ ps. (space ∷ token (codes "=") ∷ space ∷ []) ++ ps) ((same nesting_limit).of_term [] [] M (Some A))

    -- the line of an entry
    pub line_same : (e : Entry) → declaration_line s e ≡ declaration_line t e
    line_same e =
        ap render (ap₂ (λ ps qs. keyword e.body ++ ((token e.name ∷ space ∷ token (codes ":") ∷ space ∷ ps) ++ (qs ++ token (codes ".") ∷ []))) (classifier_same e.implicit e.hints e.body) (defined_same e.body))
