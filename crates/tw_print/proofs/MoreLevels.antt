-- More levels give the same text.
use Rattle.std.proofs.Common.{◌≡◌, ℕ, zero, suc, ◌+◌, ◌≤◌, List, [], ◌∷◌, ◌++◌, drop, length, cond, Bool, true, false, Option, Some, None, codes, nat_le, refl, ap, ap₂, ◌∙◌, arith, length-append}
use Rattle.lf.specs.Syntax.{Term, lambda, root, Spine, LfType, pi, atom, Kind, kind_pi, star}
use Rattle.tw_fixity.specs.declared.table.Fix.{Fix}
use Rattle.tw_fixity.specs.declared.table.Fix.TheVariants.{Infix, Prefix, Postfix}
use Rattle.tw_fixity.specs.Names.{Names as Scope}
use Rattle.tw_print.specs.Arguments.{Argument, arguments, head_type, family_type, hidden, head_hidden}
use Rattle.tw_print.specs.Levels.{AreEqualTexts, MoreLevelsGiveTheSameText}
use Rattle.tw_print.specs.Names.{Scene, fresh_name, head_word, constant_word, lower_base}
use Rattle.tw_print.specs.Pieces.{Piece, token, space, render, in_parentheses}
use Rattle.tw_print.specs.Shown.{Parts, parts, argument, operand, spaced, followed, operation, application, atom_pieces, quantifier, quantified_test, quantifier_name, in_parentheses_if, is_bare, is_operation, operator, head_operator, operand_count, term_layout, type_layout, leading_name, leading_type, leading_kind}
use Rattle.tw_print.specs.Variables.{occurs_in_type, occurs_in_kind}
use Rattle.tw_print.proofs.Writing.{render-append}

abbrev size : List Piece → ℕ
size ps = length (render ps)

size_append : (ps qs : List Piece) → size (ps ++ qs) ≡ size ps + size qs
size_append ps qs = ap length (render-append ps qs) ∙ length-append (render ps) (render qs)

size_enclosed : (ps : List Piece) → size (in_parentheses ps) ≡ suc (size ps + 1)
size_enclosed ps = ap suc (size_append ps (token (codes ")") ∷ []))

argument_part : (b : Bool) (ps : List Piece) (k : ℕ) → size (cond b ps (in_parentheses ps)) ≤ k → size ps ≤ k
argument_part true ps k h = h
argument_part false ps k h = let e = size_enclosed ps in omega (arith, e, h)

operand_part : (b : Bool) (ps : List Piece) (k : ℕ) → size (in_parentheses_if b ps) ≤ k → size ps ≤ k
operand_part true ps k h = let e = size_enclosed ps in omega (arith, e, h)
operand_part false ps k h = h

-- two parts that have at most k bytes each
abbrev Both : List Piece → List Piece → ℕ → Type 0
Both ps qs k = (size ps ≤ k) × (size qs ≤ k)

spaced_parts : (ps qs : List Piece) (k : ℕ) → size ((space ∷ ps) ++ qs) ≤ suc k → Both ps qs k
spaced_parts ps qs k h =
    let e = size_append ps qs in
    let g : suc (size (ps ++ qs)) ≤ suc k = h in
    (omega (arith, e, g), omega (arith, e, g))

followed_parts : (ps qs : List Piece) (k : ℕ) → size (in_parentheses ps ++ qs) ≤ suc k → Both ps qs (suc k)
followed_parts ps qs k h =
    let d = size_enclosed ps in
    let e = size_append (in_parentheses ps) qs in
    (omega (arith, d, e, h), omega (arith, d, e, h))

infix_parts : (w : List ℕ) (ps qs : List Piece) (k : ℕ) → size (ps ++ (space ∷ token w ∷ space ∷ qs)) ≤ suc k → Both ps qs k
infix_parts w ps qs k h =
    let e = size_append ps (space ∷ token w ∷ space ∷ qs) in
    let f : size (space ∷ token w ∷ space ∷ qs) ≡ suc (length w + suc (size qs)) = ap suc (length-append w (render (space ∷ qs))) in
    (omega (arith, e, f, h), omega (arith, e, f, h))

prefix_part : (w : List ℕ) (qs : List Piece) (k : ℕ) → size (token w ∷ space ∷ qs) ≤ suc k → size qs ≤ k
prefix_part w qs k h =
    let e : size (token w ∷ space ∷ qs) ≡ length w + suc (size qs) = length-append w (render (space ∷ qs)) in
    omega (arith, e, h)

postfix_part : (w : List ℕ) (ps : List Piece) (k : ℕ) → size (ps ++ (space ∷ token w ∷ [])) ≤ suc k → size ps ≤ k
postfix_part w ps k h =
    let e : size (ps ++ (space ∷ token w ∷ [])) ≡ size ps + suc (size (token w ∷ [])) = size_append ps (space ∷ token w ∷ []) in
    omega (arith, e, h)

plain_part : (w : List ℕ) (qs : List Piece) (k : ℕ) → size (token w ∷ qs) ≤ k → size qs ≤ k
plain_part w qs k h = let e = length-append w (render qs) in omega (arith, e, h)

bracket_parts : (o x c : List ℕ) (ps qs : List Piece) (k : ℕ) → size (((token o ∷ token x ∷ token (codes ":") ∷ ps) ++ token c ∷ space ∷ []) ++ qs) ≤ suc k → Both ps qs k
bracket_parts o x c ps qs k h =
    let front = token o ∷ token x ∷ token (codes ":") ∷ ps in
    let d : size (token c ∷ space ∷ []) ≡ length c + 1 = length-append c (render (space ∷ [])) in
    let e = size_append (front ++ token c ∷ space ∷ []) qs in
    let f = size_append front (token c ∷ space ∷ []) in
    let g : size front ≡ length o + size (token x ∷ token (codes ":") ∷ ps) = length-append o (render (token x ∷ token (codes ":") ∷ ps)) in
    let i : size (token x ∷ token (codes ":") ∷ ps) ≡ length x + suc (size ps) = length-append x (render (token (codes ":") ∷ ps)) in
    (omega (arith, d, e, f, g, i, h), omega (arith, d, e, f, g, i, h))

arrow_parts : (b : Bool) (ps qs : List Piece) (k : ℕ) → size ((in_parentheses_if b ps ++ space ∷ token (codes "->") ∷ space ∷ []) ++ qs) ≤ suc k → Both ps qs k
arrow_parts b ps qs k h =
    let front = in_parentheses_if b ps in
    let e = size_append (front ++ space ∷ token (codes "->") ∷ space ∷ []) qs in
    let f : size (front ++ space ∷ token (codes "->") ∷ space ∷ []) ≡ size front + 4 = size_append front (space ∷ token (codes "->") ∷ space ∷ []) in
    (operand_part b ps k (omega (arith, e, f, h)), omega (arith, e, f, h))

module _ (s : Scene) (n m : ℕ) (before : AreEqualTexts s n m) where
  abbrev P : Parts
  P = parts s n

  abbrev Q : Parts
  Q = parts s m

  module _ (G : List LfType) (ns : Scope) where
    argument_same : (a : Argument) → size (argument P s G ns a) ≤ n → argument Q s G ns a ≡ argument P s G ns a
    argument_same a h = ap (λ ps. cond (is_bare s a.0) ps (in_parentheses ps)) (before.of_term G ns a.0 a.1 (argument_part (is_bare s a.0) (P.term G ns a.0 a.1) n h))

    operand_same : (a : Argument) → size (operand P s G ns a) ≤ n → operand Q s G ns a ≡ operand P s G ns a
    operand_same a h = ap (in_parentheses_if (is_operation s a.0)) (before.of_term G ns a.0 a.1 (operand_part (is_operation s a.0) (P.term G ns a.0 a.1) n h))

    spaced_same : (xs : List Argument) → size (spaced P s G ns xs) ≤ suc n → spaced Q s G ns xs ≡ spaced P s G ns xs
    spaced_same [] h = refl
    spaced_same (a ∷ xs) h =
        let r = spaced_parts (argument P s G ns a) (spaced P s G ns xs) n h in
        let g = r.1 in
        ap₂ (λ ps qs. (space ∷ ps) ++ qs) (argument_same a r.0) (spaced_same xs (omega (arith, g)))

    operation_same : (word : List ℕ) (fix : Fix) (xs : List Argument) → size (operation P s G ns word fix xs) ≤ suc n → operation Q s G ns word fix xs ≡ operation P s G ns word fix xs
    operation_same word (Infix a k) [] h = refl
    operation_same word (Infix a k) (l ∷ []) h = refl
    operation_same word (Infix a k) (l ∷ r ∷ xs) h =
        let p = infix_parts word (operand P s G ns l) (operand P s G ns r) n h in
        ap₂ (λ ps qs. ps ++ (space ∷ token word ∷ space ∷ qs)) (operand_same l p.0) (operand_same r p.1)
    operation_same word (Prefix k) [] h = refl
    operation_same word (Prefix k) (x ∷ xs) h = ap (λ ps. token word ∷ space ∷ ps) (operand_same x (prefix_part word (operand P s G ns x) n h))
    operation_same word (Postfix k) [] h = refl
    operation_same word (Postfix k) (x ∷ xs) h = ap (λ ps. ps ++ (space ∷ token word ∷ [])) (operand_same x (postfix_part word (operand P s G ns x) n h))

    followed_same : (word : List ℕ) (fix : Fix) (xs ys : List Argument) → size (followed P s G ns (operation P s G ns word fix xs) ys) ≤ suc n
        → followed Q s G ns (operation Q s G ns word fix xs) ys ≡ followed P s G ns (operation P s G ns word fix xs) ys
    followed_same word fix xs [] h = operation_same word fix xs h
    followed_same word fix xs (y ∷ ys) h =
        let r = followed_parts (operation P s G ns word fix xs) (spaced P s G ns (y ∷ ys)) n h in
        ap₂ (λ ps qs. in_parentheses ps ++ qs) (operation_same word fix xs r.0) (spaced_same (y ∷ ys) r.1)

    plain_same : (word : List ℕ) (xs : List Argument) → size (token word ∷ spaced P s G ns xs) ≤ suc n → token word ∷ spaced Q s G ns xs ≡ token word ∷ spaced P s G ns xs
    plain_same word xs h = ap (λ ps. token word ∷ ps) (spaced_same xs (plain_part word (spaced P s G ns xs) (suc n) h))

    application_same : (word : List ℕ) (op : Option Fix) (xs : List Argument) → size (application P s G ns word op xs) ≤ suc n → application Q s G ns word op xs ≡ application P s G ns word op xs
    application_same word None xs h = plain_same word xs h
    application_same word (Some fix) xs h = by_test (nat_le (operand_count fix) (length xs)) h
      where
        by_test : (b : Bool) → size (cond b (followed P s G ns (operation P s G ns word fix xs) (drop (operand_count fix) xs)) (token word ∷ spaced P s G ns xs)) ≤ suc n
            → cond b (followed Q s G ns (operation Q s G ns word fix xs) (drop (operand_count fix) xs)) (token word ∷ spaced Q s G ns xs)
            ≡ cond b (followed P s G ns (operation P s G ns word fix xs) (drop (operand_count fix) xs)) (token word ∷ spaced P s G ns xs)
        by_test true k = followed_same word fix xs (drop (operand_count fix) xs) k
        by_test false k = plain_same word xs k

    quantified_same : (x : Option (List ℕ)) (A : LfType) (R T : List Piece) → size (quantifier P s G ns x A ++ R) ≤ suc n → (size R ≤ n → T ≡ R) → quantifier Q s G ns x A ++ T ≡ quantifier P s G ns x A ++ R
    quantified_same (Some x) A R T h f =
        let r = bracket_parts (codes "{") x (codes "}") (P.type G ns A) R n h in
        ap₂ (λ ps qs. ((token (codes "{") ∷ token x ∷ token (codes ":") ∷ ps) ++ token (codes "}") ∷ space ∷ []) ++ qs) (before.of_type G ns A r.0) (f r.1)
    quantified_same None A R T h f =
        let r = arrow_parts (quantified_test A) (P.type G ns A) R n h in
        ap₂ (λ ps qs. (in_parentheses_if (quantified_test A) ps ++ space ∷ token (codes "->") ∷ space ∷ []) ++ qs) (before.of_type G ns A r.0) (f r.1)

    term_same : (M : Term) (t : Option LfType) → size (term_layout P s G ns M t) ≤ suc n → term_layout Q s G ns M t ≡ term_layout P s G ns M t
    term_same (root k S) t h = application_same (head_word s ns k) (head_operator s k) (drop (head_hidden s k) (arguments (head_type s G k) S)) h
    term_same (lambda M) None h = refl
    term_same (lambda M) (Some (atom a T)) h = refl
    term_same (lambda M) (Some (pi A B)) h =
        let x = fresh_name s ns (lower_base s A) in
        let r = bracket_parts (codes "[") x (codes "]") (P.type G ns A) (P.term (A ∷ G) (Some x ∷ ns) M (Some B)) n h in
        ap₂ (λ ps qs. ((token (codes "[") ∷ token x ∷ token (codes ":") ∷ ps) ++ token (codes "]") ∷ space ∷ []) ++ qs) (before.of_type G ns A r.0) (before.of_term (A ∷ G) (Some x ∷ ns) M (Some B) r.1)

    atom_same : (a : ℕ) (S : Spine) → size (atom_pieces P s G ns a S) ≤ suc n → atom_pieces Q s G ns a S ≡ atom_pieces P s G ns a S
    atom_same a S h = application_same (constant_word s a) (operator s a) (drop (hidden s a) (arguments (family_type s a) S)) h

    layout_same : (A : LfType) → size (type_layout P s G ns A) ≤ suc n → type_layout Q s G ns A ≡ type_layout P s G ns A
    layout_same (atom a S) h = atom_same a S h
    layout_same (pi A B) h =
        let x = quantifier_name s ns (occurs_in_type 0 B) (lower_base s A) in
        quantified_same x A (P.type (A ∷ G) (x ∷ ns) B) (Q.type (A ∷ G) (x ∷ ns) B) h (before.of_type (A ∷ G) (x ∷ ns) B)

    module _ (implicit : ℕ) (hints : List (Option (List ℕ))) (k : ℕ) where
      leading_same : (A : LfType) → size (leading_type s implicit hints (suc n) k G ns A) ≤ suc n → leading_type s implicit hints (suc m) k G ns A ≡ leading_type s implicit hints (suc n) k G ns A
      leading_same (atom a S) h = atom_same a S h
      leading_same (pi A B) h =
          let x = leading_name s implicit hints ns (occurs_in_type 0 B) k A in
          quantified_same x A (leading_type s implicit hints n (suc k) (A ∷ G) (x ∷ ns) B) (leading_type s implicit hints m (suc k) (A ∷ G) (x ∷ ns) B) h (before.of_leading_type implicit hints (suc k) (A ∷ G) (x ∷ ns) B)

      leading_kind_same : (K : Kind) → size (leading_kind s implicit hints (suc n) k G ns K) ≤ suc n → leading_kind s implicit hints (suc m) k G ns K ≡ leading_kind s implicit hints (suc n) k G ns K
      leading_kind_same star h = refl
      leading_kind_same (kind_pi A K) h =
          let x = leading_name s implicit hints ns (occurs_in_kind 0 K) k A in
          quantified_same x A (leading_kind s implicit hints n (suc k) (A ∷ G) (x ∷ ns) K) (leading_kind s implicit hints m (suc k) (A ∷ G) (x ∷ ns) K) h (before.of_leading_kind implicit hints (suc k) (A ∷ G) (x ∷ ns) K)

-- no text is cut to none
not_none : {X : Type 0} → 1 ≤ 0 → X
not_none h = absurd (omega (arith, h))

pub more_levels : MoreLevelsGiveTheSameText
more_levels s zero m l = record {
  of_term = λ G ns M t h. not_none h;
  of_type = λ G ns A h. not_none h;
  of_leading_type = λ implicit hints k G ns A h. not_none h;
  of_leading_kind = λ implicit hints k G ns K h. not_none h;
}
more_levels s (suc n) zero l = absurd (omega (arith, l))
more_levels s (suc n) (suc m) l =
    let before = more_levels s n m (omega (arith, l)) in
    record {
      of_term = λ G ns M t h. term_same s n m before G ns M t h;
      of_type = λ G ns A h. layout_same s n m before G ns A h;
      of_leading_type = λ implicit hints k G ns A h. leading_same s n m before G ns implicit hints k A h;
      of_leading_kind = λ implicit hints k G ns K h. leading_kind_same s n m before G ns implicit hints k K h;
    }
