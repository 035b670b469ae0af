-- A text hangs only on the names of the variables that it shows.
use Rattle.std.proofs.Common.{◌≡◌, ℕ, zero, suc, List, [], ◌∷◌, ◌++◌, drop, length, cond, ◌||◌, nat_le, Option, Some, None, codes, refl, ap, ap₂, ◌∙◌}
use Rattle.lf.specs.Syntax.{Head, constant, variable, metavariable, Term, lambda, root, Spine, LfType, pi, atom}
use Rattle.tw_fixity.specs.declared.table.Fix.{Fix}
use Rattle.tw_fixity.specs.declared.table.Fix.TheVariants.{Infix, Prefix, Postfix}
use Rattle.tw_print.specs.Arguments.{Argument, arguments, head_type, family_type, hidden, head_hidden}
use Rattle.tw_print.specs.Names.{Scene, candidate, candidates, first_free, fresh_name, head_word, constant_word, is_taken, lower_base, word_in}
use Rattle.tw_print.specs.Pieces.{Piece, token, space, in_parentheses}
use Rattle.tw_print.specs.Shown.{Parts, parts, argument, operand, spaced, followed, operation, application, root_pieces, quantifier, quantified_test, quantifier_name, abstraction, in_parentheses_if, is_bare, is_operation, operator, head_operator, operand_count, term_layout, type_layout}
use Rattle.tw_print.specs.Variables.{occurs_in_type}
use Rattle.tw_fixity.specs.Names.{Names as Scope, is_name}
use Rattle.tw_shown.specs.Shown.{Shown, outer, of_head, of_arguments, shown_within}
use Rattle.tw_shown.specs.Laws.{AreNamedAlike, HaveSameNames, OnlyShownNamesMatter, TextsShowWhatIsListed}

first_same : (count : ℕ) (s : Scene) (ns ms : Scope) (base : List ℕ) (k : ℕ) → HaveSameNames ns ms → first_free count s ns base k ≡ first_free count s ms base k
first_same zero s ns ms base k h = refl
first_same (suc count) s ns ms base k h = ap₂ (λ b x. cond b x (candidate base k)) (ap (λ b. b || is_taken s [] (candidate base k)) (h (candidate base k))) (first_same count s ns ms base (suc k) h)

fresh_same : (s : Scene) (ns ms : Scope) (base : List ℕ) → HaveSameNames ns ms → fresh_name s ns base ≡ fresh_name s ms base
fresh_same s ns ms base h = first_same candidates s ns ms base zero h

alike_left : (ns ms : Scope) (is js : List ℕ) → AreNamedAlike ns ms (is ++ js) → AreNamedAlike ns ms is
alike_left ns ms [] js a = tt
alike_left ns ms (i ∷ is) js (e, a) = (e, alike_left ns ms is js a)

alike_right : (ns ms : Scope) (is js : List ℕ) → AreNamedAlike ns ms (is ++ js) → AreNamedAlike ns ms js
alike_right ns ms [] js a = a
alike_right ns ms (i ∷ is) js (e, a) = alike_right ns ms is js a

alike_under : (ns ms : Scope) (x : Option (List ℕ)) (is : List ℕ) → AreNamedAlike ns ms (outer is) → AreNamedAlike (x ∷ ns) (x ∷ ms) is
alike_under ns ms x [] a = tt
alike_under ns ms x (zero ∷ is) a = (refl, alike_under ns ms x is a)
alike_under ns ms x (suc i ∷ is) (e, a) = (e, alike_under ns ms x is a)

names_under : (ns ms : Scope) (x : Option (List ℕ)) → HaveSameNames ns ms → HaveSameNames (x ∷ ns) (x ∷ ms)
names_under ns ms x h y = ap (λ b. is_name x y || b) (h y)

module _ (s : Scene) (n : ℕ) (before : (G : List LfType) (ns ms : Scope) → HaveSameNames ns ms → OnlyShownNamesMatter s n G ns ms) where
  abbrev P : Parts
  P = parts s n

  abbrev Q : Shown
  Q = shown_within s n

  module _ (G : List LfType) (ns ms : Scope) (h : HaveSameNames ns ms) where
    abbrev Alike : List Argument → Type 0
    Alike xs = AreNamedAlike ns ms (of_arguments Q s G xs)

    part_same : (a : Argument) → AreNamedAlike ns ms (Q.term G a.0 a.1) → P.term G ns a.0 a.1 ≡ P.term G ms a.0 a.1
    part_same a e = (before G ns ms h).of_term a.0 a.1 e

    type_same : (A : LfType) → AreNamedAlike ns ms (Q.type G A) → P.type G ns A ≡ P.type G ms A
    type_same A e = (before G ns ms h).of_type A e

    first : (a : Argument) (xs : List Argument) → Alike (a ∷ xs) → AreNamedAlike ns ms (Q.term G a.0 a.1)
    first a xs e = alike_left ns ms (Q.term G a.0 a.1) (of_arguments Q s G xs) e

    others : (a : Argument) (xs : List Argument) → Alike (a ∷ xs) → Alike xs
    others a xs e = alike_right ns ms (Q.term G a.0 a.1) (of_arguments Q s G xs) e

    argument_same : (a : Argument) → AreNamedAlike ns ms (Q.term G a.0 a.1) → argument P s G ns a ≡ argument P s G ms a
    argument_same a e = ap (λ ps. cond (is_bare s a.0) ps (in_parentheses ps)) (part_same a e)

    operand_same : (a : Argument) → AreNamedAlike ns ms (Q.term G a.0 a.1) → operand P s G ns a ≡ operand P s G ms a
    operand_same a e = ap (in_parentheses_if (is_operation s a.0)) (part_same a e)

    spaced_same : (xs : List Argument) → Alike xs → spaced P s G ns xs ≡ spaced P s G ms xs
    spaced_same [] e = refl
    spaced_same (a ∷ xs) e = ap₂ (λ ps qs. (space ∷ ps) ++ qs) (argument_same a (first a xs e)) (spaced_same xs (others a xs e))

    followed_same : (ps qs : List Piece) (xs : List Argument) → ps ≡ qs → Alike xs → followed P s G ns ps xs ≡ followed P s G ms qs xs
    followed_same ps qs [] f e = f
    followed_same ps qs (a ∷ xs) f e = ap₂ (λ os ts. in_parentheses os ++ ts) f (spaced_same (a ∷ xs) e)

    operation_same : (word : List ℕ) (fix : Fix) (xs : List Argument) → Alike xs → operation P s G ns word fix xs ≡ operation P s G ms word fix xs
    operation_same word (Infix a k) [] e = refl
    operation_same word (Infix a k) (l ∷ []) e = refl
    operation_same word (Infix a k) (l ∷ r ∷ xs) e = ap₂ (λ ps qs. ps ++ (space ∷ token word ∷ space ∷ qs)) (operand_same l (first l (r ∷ xs) e)) (operand_same r (first r xs (others l (r ∷ xs) e)))
    operation_same word (Prefix k) [] e = refl
    operation_same word (Prefix k) (x ∷ xs) e = ap (λ ps. token word ∷ space ∷ ps) (operand_same x (first x xs e))
    operation_same word (Postfix k) [] e = refl
    operation_same word (Postfix k) (x ∷ xs) e = ap (λ ps. ps ++ (space ∷ token word ∷ [])) (operand_same x (first x xs e))

    dropped : (k : ℕ) (xs : List Argument) → Alike xs → Alike (drop k xs)
    dropped zero xs e = e
    dropped (suc k) [] e = e
    dropped (suc k) (x ∷ xs) e = dropped k xs (others x xs e)

    application_same : (word : List ℕ) (op : Option Fix) (xs : List Argument) → Alike xs → application P s G ns word op xs ≡ application P s G ms word op xs
    application_same word None xs e = ap (λ ps. token word ∷ ps) (spaced_same xs e)
    application_same word (Some fix) xs e =
        ap₂ (λ ps qs. cond (nat_le (operand_count fix) (length xs)) ps (token word ∷ qs))
        (followed_same (operation P s G ns word fix xs) (operation P s G ms word fix xs) (drop (operand_count fix) xs) (operation_same word fix xs e) (dropped (operand_count fix) xs e))
        (spaced_same xs e)

    word_same : (k : Head) → AreNamedAlike ns ms (of_head k) → head_word s ns k ≡ head_word s ms k
    word_same (constant c) e = refl
    word_same (variable i) e = ap word_in e.0
    word_same (metavariable m) e = refl

    root_same : (k : Head) (S : Spine) → AreNamedAlike ns ms (of_head k ++ of_arguments Q s G (drop (head_hidden s k) (arguments (head_type s G k) S))) → root_pieces P s G ns k S ≡ root_pieces P s G ms k S
    root_same k S e =
        let xs = drop (head_hidden s k) (arguments (head_type s G k) S) in
        ap (λ w. application P s G ns w (head_operator s k) xs) (word_same k (alike_left ns ms (of_head k) (of_arguments Q s G xs) e))
        ∙ application_same (head_word s ms k) (head_operator s k) xs (alike_right ns ms (of_head k) (of_arguments Q s G xs) e)

    quantifier_same : (x : Option (List ℕ)) (A : LfType) → AreNamedAlike ns ms (Q.type G A) → quantifier P s G ns x A ≡ quantifier P s G ms x A
    quantifier_same (Some x) A e = ap (λ ps. (token (codes "{") ∷ token x ∷ token (codes ":") ∷ ps) ++ token (codes "}") ∷ space ∷ []) (type_same A e)
    quantifier_same None A e = ap (λ ps. in_parentheses_if (quantified_test A) ps ++ space ∷ token (codes "->") ∷ space ∷ []) (type_same A e)

    abstraction_same : (x : List ℕ) (A : LfType) → AreNamedAlike ns ms (Q.type G A) → abstraction P s G ns x A ≡ abstraction P s G ms x A
    abstraction_same x A e = ap (λ ps. (token (codes "[") ∷ token x ∷ token (codes ":") ∷ ps) ++ token (codes "]") ∷ space ∷ []) (type_same A e)

    term_same : (M : Term) (t : Option LfType) → AreNamedAlike ns ms ((shown_within s (suc n)).term G M t) → term_layout P s G ns M t ≡ term_layout P s G ms M t
    term_same (root k S) t e = root_same k S e
    term_same (lambda M) None e = refl
    term_same (lambda M) (Some (atom a T)) e = refl
    term_same (lambda M) (Some (pi A B)) e =
        let x = fresh_name s ms (lower_base s A) in
        let js = Q.term (A ∷ G) M (Some B) in
        ap (λ y. abstraction P s G ns y A ++ P.term (A ∷ G) (Some y ∷ ns) M (Some B)) (fresh_same s ns ms (lower_base s A) h)
        ∙ ap₂ (λ ps qs. ps ++ qs) (abstraction_same x A (alike_left ns ms (Q.type G A) (outer js) e))
        ((before (A ∷ G) (Some x ∷ ns) (Some x ∷ ms) (names_under ns ms (Some x) h)).of_term M (Some B) (alike_under ns ms (Some x) js (alike_right ns ms (Q.type G A) (outer js) e)))

    layout_same : (A : LfType) → AreNamedAlike ns ms ((shown_within s (suc n)).type G A) → type_layout P s G ns A ≡ type_layout P s G ms A
    layout_same (atom a S) e = application_same (constant_word s a) (operator s a) (drop (hidden s a) (arguments (family_type s a) S)) e
    layout_same (pi A B) e =
        let o = occurs_in_type 0 B in
        let x = quantifier_name s ms o (lower_base s A) in
        let js = Q.type (A ∷ G) B in
        ap (λ y. quantifier P s G ns y A ++ P.type (A ∷ G) (y ∷ ns) B) (ap (λ y. cond o (Some y) None) (fresh_same s ns ms (lower_base s A) h))
        ∙ ap₂ (λ ps qs. ps ++ qs) (quantifier_same x A (alike_left ns ms (Q.type G A) (outer js) e))
        ((before (A ∷ G) (x ∷ ns) (x ∷ ms) (names_under ns ms x h)).of_type B (alike_under ns ms x js (alike_right ns ms (Q.type G A) (outer js) e)))

pub only_shown : TextsShowWhatIsListed
only_shown s zero G ns ms h = record { of_term = λ M t e. refl; of_type = λ A e. refl }
only_shown s (suc n) G ns ms h = record { of_term = term_same s n (only_shown s n) G ns ms h; of_type = layout_same s n (only_shown s n) G ns ms h }
