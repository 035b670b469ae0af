-- Call patterns and labels, token by token.
use Rattle.std.proofs.Common.{◌≡◌, ℕ, ◌+◌, List, [], ◌∷◌, ◌++◌, true, false, codes, drop, refl, sym, ap, subst, ◌∙◌, arith}
use Rattle.std.specs.Str.{bytes_eq}
use Rattle.tw_lexer.specs.declared.place.Place.{Place}
use Rattle.tw_parse.specs.Keywords.{is_identifier}
use Rattle.tw_parse.specs.Outlines.{named}
use Rattle.tw_parse.specs.Words.{Lexeme, first_word, first_bytes, first_place}
use Rattle.tw_parse.specs.declared.decl.ExtName.{ExtName}
use Rattle.tw_parse.specs.declared.words.Word.TheVariants.{Name, LParen, RParen}
use Rattle.tw_parse.proofs.Building.{Token}
use Rattle.tw_parse_checks.specs.Checks.{Call}
use Rattle.tw_parse_checks.specs.Meanings.{keep_apart}
use Rattle.tw_parse_checks.specs.Parts.{Stuck, SaysFirst, HasNoFamily, HasNoLabels, AreLabels, HasNoCalls}
use Rattle.tw_parse_checks.specs.Shapes.{Row, is_variable, TakesVariable, Family, TakesCall, a_call, Says, TakesFurtherLabel, a_further_label, TakesLabels, no_labels, some_labels, Closing}
use Rattle.tw_parse_checks.proofs.Leads.{onward}
use Rattle.tw_parse_checks.proofs.Patterns.{one_family, calls_once, closing_call, further_once, paren_is_no_label}
use Rattle.tw_parse_checks.proofs.Rows.{push, row_once, variables_once, stuck_variable, paren_is_no_variable}
use Rattle.tw_parse_checks.proofs.Tokens.{token, as_name, identifier_stands}

-- Call patterns

pub no_call_family : (ts : List Lexeme) → HasNoFamily true ts → Stuck TakesCall ts
no_call_family ts none c rest (a_call {behind = behind} {a = a} f w e) = none a behind f

pub no_call_end : (ts us end : List Lexeme) (a : ExtName) (names : List ExtName) → Family true ts a us → Row TakesVariable us names end → is_variable (first_word end) (first_bytes end) ≡ false → (first_word end ≡ RParen → ⊥) → Stuck TakesCall ts
no_call_end ts us end a names f w stops isnt c rest (a_call {closer = closer} {names = others} g v e) =
    let families = one_family f g in
    let rows = row_once TakesVariable variables_once w (subst (λ (xs : List Lexeme). Row TakesVariable xs others (closer ∷ rest)) (sym families.2) v) (stuck_variable end stops) (paren_is_no_variable closer rest e) in
    isnt (ap first_word rows.1 ∙ e)

pub call_here : (xs ts us : List Lexeme) (n : ℕ) (a : ExtName) (names : List ExtName) → Family true ts a us → Row TakesVariable us names (drop n xs) → first_word (drop n xs) ≡ RParen → TakesCall ts (record { family = a; names = names }) (drop (n + 1) xs)
call_here xs ts us n a names f w is =
    let c : Token xs n (n + 1) RParen = token xs n (n + 1) RParen refl is (λ e. cc) in
    a_call f (subst (λ (end : List Lexeme). Row TakesVariable us names end) c.1 w) c.2

-- call patterns that end a check
same_calls : (ts rest other : List Lexeme) (cs ds : List Call) → Row TakesCall ts cs rest → Stuck TakesCall rest → Row TakesCall ts ds other → Closing false other → (cs ≡ ds) × (rest ≡ other)
same_calls ts rest other cs ds w stuck v e = row_once TakesCall calls_once w v stuck (closing_call other e)

pub no_calls_first : (ts rest : List Lexeme) (cs : List Call) → Row TakesCall ts cs rest → Stuck TakesCall rest → cs ≡ [] → HasNoCalls ts
no_calls_first ts rest cs w stuck e ds a = a.1 (sym (same_calls ts rest a.0 cs ds w stuck a.2 a.3).0 ∙ e)

pub no_calls_end : (ts rest : List Lexeme) (cs : List Call) → Row TakesCall ts cs rest → Stuck TakesCall rest → (Closing false rest → ⊥) → HasNoCalls ts
no_calls_end ts rest cs w stuck none ds a = none (subst (Closing false) (sym (same_calls ts rest a.0 cs ds w stuck a.2 a.3).1) a.3)

pub calls_break : (ts rest : List Lexeme) (cs : List Call) → Row TakesCall ts cs rest → Stuck TakesCall rest → keep_apart cs ≡ false → HasNoCalls ts
calls_break ts rest cs w stuck broken ds a =
    let clash : false ≡ true = sym broken ∙ ap keep_apart (same_calls ts rest a.0 cs ds w stuck a.2 a.3).0 ∙ a.4 in
    cc

-- Labels

pub says_first : (word : List ℕ) {ts : List Lexeme} {x : Lexeme} {rest : List Lexeme} → ts ≡ x ∷ rest → SaysFirst word ts → Says word x
says_first word e s = (sym (ap first_word e) ∙ s.0, sym (ap (λ (us : List Lexeme). bytes_eq (first_bytes us) word) e) ∙ s.1)

bar_first : {ts rest : List Lexeme} {l : ExtName} → TakesFurtherLabel ts l rest → SaysFirst (codes "|") ts
bar_first (a_further_label s e) = s

label_behind : {ts rest : List Lexeme} {l : ExtName} → TakesFurtherLabel ts l rest → is_identifier (first_word (drop 1 ts)) ≡ true
label_behind (a_further_label s e) = e

pub no_bar : (ts : List Lexeme) → (SaysFirst (codes "|") ts → ⊥) → Stuck TakesFurtherLabel ts
no_bar ts isnt l rest t = isnt (bar_first t)

pub no_label_behind : (xs : List Lexeme) (n : ℕ) → is_identifier (first_word (drop (n + 1) xs)) ≡ false → Stuck TakesFurtherLabel (drop n xs)
no_label_behind xs n isnt l rest t = let clash : false ≡ true = sym isnt ∙ onward xs n 1 (λ (ts : List Lexeme). is_identifier (first_word ts) ≡ true) (label_behind t) in cc

pub further_here : (end : Place) (xs : List Lexeme) (n : ℕ) (a : ExtName) → SaysFirst (codes "|") (drop n xs) → is_identifier (first_word (drop (n + 1) xs)) ≡ true → a.name ≡ first_bytes (drop (n + 1) xs) → a.at ≡ first_place end (drop (n + 1) xs)
    → TakesFurtherLabel (drop n xs) a (drop (n + 2) xs)
further_here end xs n a says is name at =
    let b : Token xs n (n + 1) Name = token xs n (n + 1) Name refl says.0 (λ e. cc) in
    let l : Token xs (n + 1) (n + 2) (first_word (drop (n + 1) xs)) = token xs (n + 1) (n + 2) _ (omega arith) refl (identifier_stands _ is) in
    let rest : List Lexeme = drop (n + 2) xs in
    let all : drop n xs ≡ b.0 ∷ l.0 ∷ rest = b.1 ∙ ap (λ (ts : List Lexeme). b.0 ∷ ts) l.1 in
    let here : TakesFurtherLabel (b.0 ∷ l.0 ∷ rest) (named l.0) rest = a_further_label (says_first (codes "|") b.1 says) (ap is_identifier l.2 ∙ is) in
    subst (λ (ts : List Lexeme). TakesFurtherLabel ts a rest) (sym all) (subst (λ (x : ExtName). TakesFurtherLabel (b.0 ∷ l.0 ∷ rest) x rest) (as_name end (drop (n + 1) xs) rest l.0 a l.1 name at) here)

pub one_more_label : (tokens next rest : List Lexeme) (first a : ExtName) (old new : List ExtName) → AreLabels tokens first old next → TakesFurtherLabel next a rest → new ≡ old ++ a ∷ [] → AreLabels tokens first new rest
one_more_label tokens next rest first a old new are t e = (are.0 ++ a ∷ [], e ∙ ap (λ (xs : List ExtName). xs ++ a ∷ []) are.1, push are.2 t)

-- the tokens in parentheses
paren_first : {ts rest : List Lexeme} {ls : List ExtName} → TakesLabels ts ls rest → first_word ts ≡ LParen
paren_first (no_labels e f) = e
paren_first (some_labels e i w f) = e

pub no_paren : (ts : List Lexeme) → (first_word ts ≡ LParen → ⊥) → HasNoLabels ts
no_paren ts isnt ls rest t = isnt (paren_first t)

-- behind the parenthesis stands the other one, or a label and what is behind it
data SecondToken (ts : List Lexeme) (rest : List Lexeme) : Type 0 where
  closes_at_once : first_word (drop 1 ts) ≡ RParen → SecondToken ts rest
  goes_on : (ls : List ExtName) (closer : Lexeme) → is_identifier (first_word (drop 1 ts)) ≡ true → Row TakesFurtherLabel (drop 2 ts) ls (closer ∷ rest) → closer.word ≡ RParen → SecondToken ts rest

second_token : {ts rest : List Lexeme} {ls : List ExtName} → TakesLabels ts ls rest → SecondToken ts rest
second_token (no_labels e f) = closes_at_once f
second_token (some_labels {closer = c} {ls = ls} e i w f) = goes_on ls c i w f

pub no_second : (xs : List Lexeme) (n : ℕ) → (first_word (drop (n + 1) xs) ≡ RParen → ⊥) → is_identifier (first_word (drop (n + 1) xs)) ≡ false → HasNoLabels (drop n xs)
no_second xs n isnt none ls rest t = by_second (second_token t)
  where
    by_second : SecondToken (drop n xs) rest → ⊥
    by_second (closes_at_once e) = isnt (onward xs n 1 (λ (ts : List Lexeme). first_word ts ≡ RParen) e)
    by_second (goes_on ms c i w f) = let clash : false ≡ true = sym none ∙ onward xs n 1 (λ (ts : List Lexeme). is_identifier (first_word ts) ≡ true) i in cc

pub no_closer : (xs : List Lexeme) (n end : ℕ) (first : ExtName) (labels : List ExtName) → (first_word (drop (n + 1) xs) ≡ RParen → ⊥) → AreLabels (drop (n + 2) xs) first labels (drop end xs) → Stuck TakesFurtherLabel (drop end xs) → (first_word (drop end xs) ≡ RParen → ⊥)
    → HasNoLabels (drop n xs)
no_closer xs n end first labels opened are stuck isnt ls rest t = by_second (second_token t)
  where
    by_second : SecondToken (drop n xs) rest → ⊥
    by_second (closes_at_once e) = opened (onward xs n 1 (λ (ts : List Lexeme). first_word ts ≡ RParen) e)
    by_second (goes_on ms c i w f) =
        let rows = row_once TakesFurtherLabel further_once are.2 (onward xs n 2 (λ (ts : List Lexeme). Row TakesFurtherLabel ts ms (c ∷ rest)) w) stuck (paren_is_no_label c rest f) in
        isnt (ap first_word rows.1 ∙ f)

pub none_here : (xs : List Lexeme) (n : ℕ) → first_word (drop n xs) ≡ LParen → first_word (drop (n + 1) xs) ≡ RParen → TakesLabels (drop n xs) [] (drop (n + 2) xs)
none_here xs n opens closes =
    let o : Token xs n (n + 1) LParen = token xs n (n + 1) LParen refl opens (λ e. cc) in
    let c : Token xs (n + 1) (n + 2) RParen = token xs (n + 1) (n + 2) RParen (omega arith) closes (λ e. cc) in
    subst (λ (ts : List Lexeme). TakesLabels ts [] (drop (n + 2) xs)) (sym (o.1 ∙ ap (λ (ts : List Lexeme). o.0 ∷ ts) c.1)) (no_labels o.2 c.2)

pub labels_here : (at : Place) (xs : List Lexeme) (n end : ℕ) (first : ExtName) (labels : List ExtName) → first_word (drop n xs) ≡ LParen → is_identifier (first_word (drop (n + 1) xs)) ≡ true → first.name ≡ first_bytes (drop (n + 1) xs) → first.at ≡ first_place at (drop (n + 1) xs)
    → AreLabels (drop (n + 2) xs) first labels (drop end xs) → first_word (drop end xs) ≡ RParen → TakesLabels (drop n xs) labels (drop (end + 1) xs)
labels_here at xs n end first labels opens is name place are closes =
    let o : Token xs n (n + 1) LParen = token xs n (n + 1) LParen refl opens (λ e. cc) in
    let l : Token xs (n + 1) (n + 2) (first_word (drop (n + 1) xs)) = token xs (n + 1) (n + 2) _ (omega arith) refl (identifier_stands _ is) in
    let c : Token xs end (end + 1) RParen = token xs end (end + 1) RParen refl closes (λ e. cc) in
    let rest : List Lexeme = drop (end + 1) xs in
    let behind : List Lexeme = drop (n + 2) xs in
    let all : drop n xs ≡ o.0 ∷ l.0 ∷ behind = o.1 ∙ ap (λ (ts : List Lexeme). o.0 ∷ ts) l.1 in
    let row : Row TakesFurtherLabel behind are.0 (c.0 ∷ rest) = subst (λ (ts : List Lexeme). Row TakesFurtherLabel behind are.0 ts) c.1 are.2 in
    let here : TakesLabels (o.0 ∷ l.0 ∷ behind) (named l.0 ∷ are.0) rest = some_labels o.2 (ap is_identifier l.2 ∙ is) row c.2 in
    let same : named l.0 ∷ are.0 ≡ labels = ap (λ (x : ExtName). x ∷ are.0) (as_name at (drop (n + 1) xs) behind l.0 first l.1 name place) ∙ sym are.1 in
    subst (λ (ts : List Lexeme). TakesLabels ts labels rest) (sym all) (subst (λ (ls : List ExtName). TakesLabels (o.0 ∷ l.0 ∷ behind) ls rest) same here)
