-- Orders, token by token.
use Rattle.std.proofs.Common.{◌≡◌, ℕ, ◌+◌, List, [], ◌∷◌, ◌++◌, map, true, false, drop, refl, sym, ap, subst, ◌∙◌}
use Rattle.std.proofs.lemmas.List.{map-append}
use Rattle.tw_parse.specs.Words.{Lexeme, first_word, first_bytes}
use Rattle.tw_parse.specs.declared.decl.ExtName.{ExtName}
use Rattle.tw_parse.specs.declared.words.Word.{Word}
use Rattle.tw_parse.specs.declared.words.Word.TheVariants.{LParen, RParen, LBrace, RBrace, LBracket, RBracket}
use Rattle.tw_parse.proofs.Building.{Token}
use Rattle.tw_parse_checks.specs.Checks.{Order, each, lexicographic, simultaneous, Orders, order_of, orders_from}
use Rattle.tw_parse_checks.specs.Parts.{Stuck, orders_in}
use Rattle.tw_parse_checks.specs.Shapes.{Row, is_variable, TakesVariable, a_variable, TakesOrder, by_one, by_each, in_braces, in_brackets, TakeOrders, no_component, a_component}
use Rattle.tw_parse_checks.specs.declared.check.ExtOrder.{ExtOrder}
use Rattle.tw_parse_checks.proofs.Leads.{onward}
use Rattle.tw_parse_checks.proofs.Patterns.{orders_once, brace_is_no_order, bracket_is_no_order, no_variable}
use Rattle.tw_parse_checks.proofs.Rows.{row_once, variables_once, stuck_variable, paren_is_no_variable}
use Rattle.tw_parse_checks.proofs.Tokens.{token}

-- an order is a variable, or begins with a bracket whose inside this is
data Inside (ts rest : List Lexeme) : Type 0 where
  a_variable_first : is_variable (first_word ts) (first_bytes ts) ≡ true → Inside ts rest
  after_paren : (names : List ExtName) (closer : Lexeme) → first_word ts ≡ LParen → Row TakesVariable (drop 1 ts) names (closer ∷ rest) → closer.word ≡ RParen → Inside ts rest
  after_brace : (os : Orders) (closer : Lexeme) → first_word ts ≡ LBrace → TakeOrders (drop 1 ts) os (closer ∷ rest) → closer.word ≡ RBrace → Inside ts rest
  after_bracket : (os : Orders) (closer : Lexeme) → first_word ts ≡ LBracket → TakeOrders (drop 1 ts) os (closer ∷ rest) → closer.word ≡ RBracket → Inside ts rest

inside : {ts rest : List Lexeme} {o : Order} → TakesOrder ts o rest → Inside ts rest
inside (by_one (a_variable e)) = a_variable_first e
inside (by_each {closer = c} {names = names} e w f) = after_paren names c e w f
inside (in_braces {closer = c} {os = os} e w f) = after_brace os c e w f
inside (in_brackets {closer = c} {os = os} e w f) = after_bracket os c e w f

other_word : (w u v : Word) → w ≡ u → w ≡ v → (u ≡ v → ⊥) → ⊥
other_word w u v e f n = n (sym e ∙ f)

pub no_order_first : (ts : List Lexeme) → is_variable (first_word ts) (first_bytes ts) ≡ false → (first_word ts ≡ LParen → ⊥) → (first_word ts ≡ LBrace → ⊥) → (first_word ts ≡ LBracket → ⊥) → Stuck TakesOrder ts
no_order_first ts v p b k o rest t = by_inside (inside t)
  where
    by_inside : Inside ts rest → ⊥
    by_inside (a_variable_first e) = let clash : false ≡ true = sym v ∙ e in cc
    by_inside (after_paren names c e w f) = p e
    by_inside (after_brace os c e w f) = b e
    by_inside (after_bracket os c e w f) = k e

pub no_paren_end : (xs end : List Lexeme) (n : ℕ) (names : List ExtName) → first_word (drop n xs) ≡ LParen → Row TakesVariable (drop (n + 1) xs) names end → is_variable (first_word end) (first_bytes end) ≡ false → (first_word end ≡ RParen → ⊥) → Stuck TakesOrder (drop n xs)
no_paren_end xs end n names opens w stops isnt o rest t = by_inside (inside t)
  where
    by_inside : Inside (drop n xs) rest → ⊥
    by_inside (a_variable_first e) = no_variable (first_word (drop n xs)) LParen (first_bytes (drop n xs)) opens refl e
    by_inside (after_paren others c e v f) =
        let rows = row_once TakesVariable variables_once w (onward xs n 1 (λ (ts : List Lexeme). Row TakesVariable ts others (c ∷ rest)) v) (stuck_variable end stops) (paren_is_no_variable c rest f) in
        isnt (ap first_word rows.1 ∙ f)
    by_inside (after_brace os c e v f) = other_word (first_word (drop n xs)) LParen LBrace opens e (λ z. cc)
    by_inside (after_bracket os c e v f) = other_word (first_word (drop n xs)) LParen LBracket opens e (λ z. cc)

pub no_brace_end : (xs end : List Lexeme) (n : ℕ) (os : Orders) → first_word (drop n xs) ≡ LBrace → TakeOrders (drop (n + 1) xs) os end → Stuck TakesOrder end → (first_word end ≡ RBrace → ⊥) → Stuck TakesOrder (drop n xs)
no_brace_end xs end n os opens w stuck isnt o rest t = by_inside (inside t)
  where
    by_inside : Inside (drop n xs) rest → ⊥
    by_inside (a_variable_first e) = no_variable (first_word (drop n xs)) LBrace (first_bytes (drop n xs)) opens refl e
    by_inside (after_paren others c e v f) = other_word (first_word (drop n xs)) LBrace LParen opens e (λ z. cc)
    by_inside (after_brace ps c e v f) =
        let rows = orders_once w (onward xs n 1 (λ (ts : List Lexeme). TakeOrders ts ps (c ∷ rest)) v) stuck (brace_is_no_order c rest f) in
        isnt (ap first_word rows.1 ∙ f)
    by_inside (after_bracket ps c e v f) = other_word (first_word (drop n xs)) LBrace LBracket opens e (λ z. cc)

pub no_bracket_end : (xs end : List Lexeme) (n : ℕ) (os : Orders) → first_word (drop n xs) ≡ LBracket → TakeOrders (drop (n + 1) xs) os end → Stuck TakesOrder end → (first_word end ≡ RBracket → ⊥) → Stuck TakesOrder (drop n xs)
no_bracket_end xs end n os opens w stuck isnt o rest t = by_inside (inside t)
  where
    by_inside : Inside (drop n xs) rest → ⊥
    by_inside (a_variable_first e) = no_variable (first_word (drop n xs)) LBracket (first_bytes (drop n xs)) opens refl e
    by_inside (after_paren others c e v f) = other_word (first_word (drop n xs)) LBracket LParen opens e (λ z. cc)
    by_inside (after_brace ps c e v f) = other_word (first_word (drop n xs)) LBracket LBrace opens e (λ z. cc)
    by_inside (after_bracket ps c e v f) =
        let rows = orders_once w (onward xs n 1 (λ (ts : List Lexeme). TakeOrders ts ps (c ∷ rest)) v) stuck (bracket_is_no_order c rest f) in
        isnt (ap first_word rows.1 ∙ f)

pub paren_order : (xs : List Lexeme) (n end : ℕ) (names : List ExtName) → first_word (drop n xs) ≡ LParen → Row TakesVariable (drop (n + 1) xs) names (drop end xs) → first_word (drop end xs) ≡ RParen → TakesOrder (drop n xs) (each names) (drop (end + 1) xs)
paren_order xs n end names opens w closes =
    let o : Token xs n (n + 1) LParen = token xs n (n + 1) LParen refl opens (λ e. cc) in
    let c : Token xs end (end + 1) RParen = token xs end (end + 1) RParen refl closes (λ e. cc) in
    let row : Row TakesVariable (drop (n + 1) xs) names (c.0 ∷ drop (end + 1) xs) = subst (λ (ts : List Lexeme). Row TakesVariable (drop (n + 1) xs) names ts) c.1 w in
    subst (λ (ts : List Lexeme). TakesOrder ts (each names) (drop (end + 1) xs)) (sym o.1) (by_each o.2 row c.2)

pub brace_order : (xs : List Lexeme) (n end : ℕ) (os : Orders) → first_word (drop n xs) ≡ LBrace → TakeOrders (drop (n + 1) xs) os (drop end xs) → first_word (drop end xs) ≡ RBrace → TakesOrder (drop n xs) (lexicographic os) (drop (end + 1) xs)
brace_order xs n end os opens w closes =
    let o : Token xs n (n + 1) LBrace = token xs n (n + 1) LBrace refl opens (λ e. cc) in
    let c : Token xs end (end + 1) RBrace = token xs end (end + 1) RBrace refl closes (λ e. cc) in
    let row : TakeOrders (drop (n + 1) xs) os (c.0 ∷ drop (end + 1) xs) = subst (λ (ts : List Lexeme). TakeOrders (drop (n + 1) xs) os ts) c.1 w in
    subst (λ (ts : List Lexeme). TakesOrder ts (lexicographic os) (drop (end + 1) xs)) (sym o.1) (in_braces o.2 row c.2)

pub bracket_order : (xs : List Lexeme) (n end : ℕ) (os : Orders) → first_word (drop n xs) ≡ LBracket → TakeOrders (drop (n + 1) xs) os (drop end xs) → first_word (drop end xs) ≡ RBracket → TakesOrder (drop n xs) (simultaneous os) (drop (end + 1) xs)
bracket_order xs n end os opens w closes =
    let o : Token xs n (n + 1) LBracket = token xs n (n + 1) LBracket refl opens (λ e. cc) in
    let c : Token xs end (end + 1) RBracket = token xs end (end + 1) RBracket refl closes (λ e. cc) in
    let row : TakeOrders (drop (n + 1) xs) os (c.0 ∷ drop (end + 1) xs) = subst (λ (ts : List Lexeme). TakeOrders (drop (n + 1) xs) os ts) c.1 w in
    subst (λ (ts : List Lexeme). TakesOrder ts (simultaneous os) (drop (end + 1) xs)) (sym o.1) (in_brackets o.2 row c.2)

-- one more component at the end
takes_further : (os : List Order) {tokens next rest : List Lexeme} {o : Order} → TakeOrders tokens (orders_from os) next → TakesOrder next o rest → TakeOrders tokens (orders_from (os ++ o ∷ [])) rest
takes_further [] no_component t = a_component t no_component
takes_further (p ∷ os) (a_component u w) t = a_component u (takes_further os w t)

pub one_more_order : (tokens next rest : List Lexeme) (old new : List ExtOrder) (o : ExtOrder) → TakeOrders tokens (orders_in old) next → TakesOrder next (order_of o) rest → new ≡ old ++ o ∷ [] → TakeOrders tokens (orders_in new) rest
one_more_order tokens next rest old new o w t e =
    subst (λ (os : List Order). TakeOrders tokens (orders_from os) rest) (sym (ap (map order_of) e ∙ map-append order_of old (o ∷ []))) (takes_further (map order_of old) w t)
