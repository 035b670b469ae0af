-- Call patterns, labels and orders: tokens are one of them at most.
use Rattle.std.proofs.Common.{◌≡◌, ℕ, List, [], ◌∷◌, Bool, true, false, refl, sym, ap, subst, ◌∙◌}
use Rattle.tw_parse.specs.Keywords.{is_identifier}
use Rattle.tw_parse.specs.Outlines.{named}
use Rattle.tw_parse.specs.Words.{Lexeme, first_word}
use Rattle.tw_parse.specs.declared.decl.ExtName.{ExtName}
use Rattle.tw_parse.specs.declared.words.Word.{Word}
use Rattle.tw_parse.specs.declared.words.Word.TheVariants.{Name, Dot, LParen, RParen, LBrace, RBrace, LBracket, RBracket}
use Rattle.tw_parse_checks.specs.Checks.{Call, Order, each, lexicographic, simultaneous, Orders, next_order}
use Rattle.tw_parse_checks.specs.Parts.{Stuck}
use Rattle.tw_parse_checks.specs.Shapes.{Row, Family, bare, in_parens, Closing, by_dot, is_variable, TakesVariable, a_variable, TakesCall, a_call, TakesFurtherLabel, a_further_label, TakesLabels, no_labels, some_labels, TakesOrder, by_one, by_each, in_braces, in_brackets, TakeOrders, no_component, a_component}
use Rattle.tw_parse_checks.proofs.Rows.{IsOnce, row_once, variables_once, paren_is_no_variable}

no_identifier : (w v : Word) → w ≡ v → is_identifier v ≡ false → is_identifier w ≡ true → ⊥
no_identifier w v e f g = let clash : false ≡ true = sym f ∙ sym (ap is_identifier e) ∙ g in cc

-- Families

record SameFamily (b c : Bool) (a d : ExtName) (rest left : List Lexeme) : Type 0 where
  flags : b ≡ c
  names : a ≡ d
  rests : rest ≡ left

family_once : {b c : Bool} {tokens rest left : List Lexeme} {a d : ExtName} → Family b tokens a rest → Family c tokens d left → SameFamily b c a d rest left
family_once (bare e) (bare f) = record { flags = refl; names = refl; rests = refl }
family_once (in_parens e f) (in_parens g h) = record { flags = refl; names = refl; rests = refl }
family_once (bare {a = a} e) (in_parens f g) = absurd (no_identifier a.word LParen f refl e)
family_once (in_parens {opener = o} e f) (bare g) = absurd (no_identifier o.word LParen e refl g)

pub one_family : {b c : Bool} {tokens rest left : List Lexeme} {a d : ExtName} → Family b tokens a rest → Family c tokens d left → (b ≡ c) × (a ≡ d) × (rest ≡ left)
one_family f g = let same = family_once f g in (same.flags, same.names, same.rests)

-- Call patterns

same_call : (a d : ExtName) (xs ys : List ExtName) → a ≡ d → xs ≡ ys → ◌≡◌ {A = Call} (record { family = a; names = xs }) (record { family = d; names = ys })
same_call a d xs ys e f = ap (λ (z : ExtName). record { family = z; names = xs }) e ∙ ap (λ (zs : List ExtName). record { family = d; names = zs }) f

pub calls_once : IsOnce TakesCall
calls_once tokens rest others p q (a_call {closer = c} {a = a} {names = xs} f w e) (a_call {closer = d} {a = b} {names = ys} g v h) =
    let families = one_family f g in
    let rows = row_once TakesVariable variables_once w (subst (λ (ts : List Lexeme). Row TakesVariable ts ys (d ∷ others)) (sym families.2) v) (paren_is_no_variable c rest e) (paren_is_no_variable d others h) in
    let rests : c ∷ rest ≡ d ∷ others = rows.1 in
    (same_call a b xs ys families.1 rows.0, let is : rest ≡ others = cc in is)

pub stuck_call : (tokens : List Lexeme) → (first_word tokens ≡ LParen → ⊥) → Stuck TakesCall tokens
stuck_call tokens isnt c rest (a_call (in_parens e f) w g) = isnt e

pub closing_call : (tokens : List Lexeme) → Closing false tokens → Stuck TakesCall tokens
closing_call tokens (by_dot {dot = d} e) = stuck_call (d ∷ []) (λ f. let clash : Dot ≡ LParen = sym e ∙ f in cc)

-- Labels

pub further_once : IsOnce TakesFurtherLabel
further_once tokens rest others x y (a_further_label s e) (a_further_label t f) = (refl, refl)

pub paren_is_no_label : (c : Lexeme) (rest : List Lexeme) → c.word ≡ RParen → Stuck TakesFurtherLabel (c ∷ rest)
paren_is_no_label c rest e x left (a_further_label s f) = let clash : RParen ≡ Name = sym e ∙ s.0 in cc

pub labels_once : {tokens rest others : List Lexeme} {ls ms : List ExtName} → TakesLabels tokens ls rest → TakesLabels tokens ms others → (ls ≡ ms) × (rest ≡ others)
labels_once (no_labels e f) (no_labels g h) = (refl, refl)
labels_once (no_labels {closer = c} e f) (some_labels g i w h) = absurd (no_identifier c.word RParen f refl i)
labels_once (some_labels {l = l} e i w h) (no_labels f g) = absurd (no_identifier l.word RParen g refl i)
labels_once (some_labels {l = l} {closer = c} {rest = rest} e i w h) (some_labels {closer = d} {rest = others} f j v k) =
    let rows = row_once TakesFurtherLabel further_once w v (paren_is_no_label c rest h) (paren_is_no_label d others k) in
    let rests : c ∷ rest ≡ d ∷ others = rows.1 in
    (ap (λ (xs : List ExtName). named l ∷ xs) rows.0, let is : rest ≡ others = cc in is)

-- Orders

pub no_variable : (w v : Word) (bytes : List ℕ) → w ≡ v → is_variable v bytes ≡ false → is_variable w bytes ≡ true → ⊥
no_variable w v bytes e f g = let clash : false ≡ true = sym f ∙ sym (ap (λ (u : Word). is_variable u bytes) e) ∙ g in cc

pub stuck_order : (c : Lexeme) (rest : List Lexeme) (w : Word) → c.word ≡ w → is_variable w c.bytes ≡ false → (w ≡ LParen → ⊥) → (w ≡ LBrace → ⊥) → (w ≡ LBracket → ⊥) → Stuck TakesOrder (c ∷ rest)
stuck_order c rest w is f g h i o left (by_one (a_variable e)) = no_variable c.word w c.bytes is f e
stuck_order c rest w is f g h i o left (by_each e v k) = g (sym is ∙ e)
stuck_order c rest w is f g h i o left (in_braces e v k) = h (sym is ∙ e)
stuck_order c rest w is f g h i o left (in_brackets e v k) = i (sym is ∙ e)

pub brace_is_no_order : (c : Lexeme) (rest : List Lexeme) → c.word ≡ RBrace → Stuck TakesOrder (c ∷ rest)
brace_is_no_order c rest e = stuck_order c rest RBrace e refl (λ f. cc) (λ f. cc) (λ f. cc)

pub bracket_is_no_order : (c : Lexeme) (rest : List Lexeme) → c.word ≡ RBracket → Stuck TakesOrder (c ∷ rest)
bracket_is_no_order c rest e = stuck_order c rest RBracket e refl (λ f. cc) (λ f. cc) (λ f. cc)

clash_words : {A : Type 0} (w u v : Word) → w ≡ u → w ≡ v → (u ≡ v → ⊥) → A
clash_words w u v e f n = absurd (n (sym e ∙ f))

mutual
  pub order_once : (tokens rest others : List Lexeme) (o p : Order) → TakesOrder tokens o rest → TakesOrder tokens p others → (o ≡ p) × (rest ≡ others)
  order_once tokens rest others o p (by_one (a_variable e)) (by_one (a_variable f)) = (refl, refl)
  order_once tokens rest others o p (by_one (a_variable {x = x} e)) (by_each f w g) = absurd (no_variable x.word LParen x.bytes f refl e)
  order_once tokens rest others o p (by_one (a_variable {x = x} e)) (in_braces f w g) = absurd (no_variable x.word LBrace x.bytes f refl e)
  order_once tokens rest others o p (by_one (a_variable {x = x} e)) (in_brackets f w g) = absurd (no_variable x.word LBracket x.bytes f refl e)
  order_once tokens rest others o p (by_each {opener = x} f w g) (by_one (a_variable e)) = absurd (no_variable x.word LParen x.bytes f refl e)
  order_once tokens rest others o p (by_each {closer = c} e w g) (by_each {closer = d} f v h) =
      let rows = row_once TakesVariable variables_once w v (paren_is_no_variable c rest g) (paren_is_no_variable d others h) in
      let rests : c ∷ rest ≡ d ∷ others = rows.1 in
      (ap each rows.0, let is : rest ≡ others = cc in is)
  order_once tokens rest others o p (by_each {opener = x} e w g) (in_braces f v h) = clash_words x.word LParen LBrace e f (λ n. cc)
  order_once tokens rest others o p (by_each {opener = x} e w g) (in_brackets f v h) = clash_words x.word LParen LBracket e f (λ n. cc)
  order_once tokens rest others o p (in_braces {opener = x} f w g) (by_one (a_variable e)) = absurd (no_variable x.word LBrace x.bytes f refl e)
  order_once tokens rest others o p (in_braces {opener = x} e w g) (by_each f v h) = clash_words x.word LBrace LParen e f (λ n. cc)
  order_once tokens rest others o p (in_braces {closer = c} e w g) (in_braces {closer = d} f v h) =
      let rows = orders_once w v (brace_is_no_order c rest g) (brace_is_no_order d others h) in
      let rests : c ∷ rest ≡ d ∷ others = rows.1 in
      (ap lexicographic rows.0, let is : rest ≡ others = cc in is)
  order_once tokens rest others o p (in_braces {opener = x} e w g) (in_brackets f v h) = clash_words x.word LBrace LBracket e f (λ n. cc)
  order_once tokens rest others o p (in_brackets {opener = x} f w g) (by_one (a_variable e)) = absurd (no_variable x.word LBracket x.bytes f refl e)
  order_once tokens rest others o p (in_brackets {opener = x} e w g) (by_each f v h) = clash_words x.word LBracket LParen e f (λ n. cc)
  order_once tokens rest others o p (in_brackets {opener = x} e w g) (in_braces f v h) = clash_words x.word LBracket LBrace e f (λ n. cc)
  order_once tokens rest others o p (in_brackets {closer = c} e w g) (in_brackets {closer = d} f v h) =
      let rows = orders_once w v (bracket_is_no_order c rest g) (bracket_is_no_order d others h) in
      let rests : c ∷ rest ≡ d ∷ others = rows.1 in
      (ap simultaneous rows.0, let is : rest ≡ others = cc in is)

  pub orders_once : {tokens rest others : List Lexeme} {os ps : Orders} → TakeOrders tokens os rest → TakeOrders tokens ps others → Stuck TakesOrder rest → Stuck TakesOrder others → (os ≡ ps) × (rest ≡ others)
  orders_once no_component no_component i j = (refl, refl)
  orders_once no_component (a_component {next = next} {o = p} t w) i j = absurd (i p next t)
  orders_once (a_component {next = next} {o = o} t w) no_component i j = absurd (j o next t)
  orders_once (a_component {tokens = tokens} {next = next} {o = o} {os = os} t w) (a_component {next = after} {rest = others} {o = p} {os = ps} u v) i j =
      let first = order_once tokens next after o p t u in
      let last = orders_once w (subst (λ (ts : List Lexeme). TakeOrders ts ps others) (sym first.1) v) i j in
      (ap (λ (q : Order). next_order q os) first.0 ∙ ap (next_order p) last.0, last.1)
