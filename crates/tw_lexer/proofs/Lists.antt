-- Lists of tokens, one behind the other.
use Rattle.std.proofs.Common.{◌≡◌, ◌≢◌, ◌≤◌, ◌<◌, ℕ, suc, ◌+◌, List, [], ◌∷◌, ◌++◌, length, Bool, true, false, eqb, refl, sym, ap, ◌∙◌, arith, Ok, Err, append_assoc}
use Rattle.std.specs.Prelude.{◌==◌, ◌&&◌, if◌then◌else◌}
use Rattle.std.specs.Bool.{MatchBool}
use Rattle.std.proofs.lemmas.Bool.Decides.{nat_tests}
use Rattle.tw_lexer.specs.Tokens.{first_token, ends, is_counted, is_counted_kind, token_count, ThroughDot, Leads}
use Rattle.tw_lexer.specs.declared.place.Place.{Place}
use Rattle.tw_lexer.specs.declared.token.Token.{Token}
use Rattle.tw_lexer.specs.declared.token.TokenKind.{TokenKind}
use Rattle.tw_lexer.specs.declared.token.TokenKind.TheVariants.{End}

pub Leads-push : (text : List ℕ) (from : ℕ) (ts : List Token) (to : ℕ) (t : Token) → Leads text from ts to → first_token text to ≡ Ok t → ends t.kind ≡ false → Leads text from (ts ++ t ∷ []) t.upto
Leads-push text from [] to t h r e = (ap (first_token text) h ∙ r, e, refl)
Leads-push text from (u ∷ us) to t h r e = (h.0, h.1, Leads-push text u.upto us to t h.2 r e)

MatchBool-true : (v : Bool) (P Q : Type 0) → v ≡ true → P → MatchBool v P Q
MatchBool-true true P Q e p = p
MatchBool-true false P Q e p = cc

MatchBool-false : (v : Bool) (P Q : Type 0) → v ≡ false → Q → MatchBool v P Q
MatchBool-false true P Q e q = cc
MatchBool-false false P Q e q = q

-- behind them the last token comes
pub ThroughDot-last : (text : List ℕ) (from : ℕ) (ts : List Token) (to : ℕ) (t : Token) → Leads text from ts to → first_token text to ≡ Ok t → ends t.kind ≡ true → ThroughDot text from (ts ++ t ∷ []) t.upto
ThroughDot-last text from [] to t h r e =
    (ap (first_token text) h ∙ r, MatchBool-true (ends t.kind) (([] ≡ []) × (t.upto ≡ t.upto)) (ThroughDot text t.upto [] t.upto) e (refl, refl))
ThroughDot-last text from (u ∷ us) to t h r e =
    (h.0, MatchBool-false (ends u.kind) ((us ++ t ∷ [] ≡ []) × (t.upto ≡ u.upto)) (ThroughDot text u.upto (us ++ t ∷ []) t.upto) h.1 (ThroughDot-last text u.upto us to t h.2 r e))

-- a token that does not end a declaration is counted
goes_on-counted : (k : TokenKind) → ends k ≡ false → is_counted_kind k ≡ true
goes_on-counted End e = cc
goes_on-counted _ e = refl

-- every token but the end is
pub counted : (k : TokenKind) → (k ≢ End) → is_counted_kind k ≡ true
counted End n = absurd (n refl)
counted _ n = refl

pub counted-no_end : (k : TokenKind) → is_counted_kind k ≡ true → k ≢ End
counted-no_end k e q = let h : is_counted_kind End ≡ true = ap is_counted_kind (sym q) ∙ e in cc

count-cons : (t : Token) (ts : List Token) (v : Bool) → is_counted t ≡ v → token_count (t ∷ ts) ≡ (if v then 1 + token_count ts else token_count ts)
count-cons t ts v e = rw e refl

count-append_by : (t : Token) (xs ys : List Token) (v : Bool) → is_counted t ≡ v → token_count (xs ++ ys) ≡ token_count xs + token_count ys → token_count ((t ∷ xs) ++ ys) ≡ token_count (t ∷ xs) + token_count ys
count-append_by t xs ys true e h = omega (arith, count-cons t (xs ++ ys) true e, count-cons t xs true e, h)
count-append_by t xs ys false e h = omega (arith, count-cons t (xs ++ ys) false e, count-cons t xs false e, h)

pub count-append : (xs ys : List Token) → token_count (xs ++ ys) ≡ token_count xs + token_count ys
count-append [] ys = omega arith
count-append (x ∷ xs) ys = count-append_by x xs ys (is_counted x) refl (count-append xs ys)

count-le_by : (t : Token) (ts : List Token) (v : Bool) → is_counted t ≡ v → token_count (t ∷ ts) ≤ 1 + token_count ts
count-le_by t ts true e = omega (arith, count-cons t ts true e)
count-le_by t ts false e = omega (arith, count-cons t ts false e)

pub count-more : (t : Token) (ts : List Token) → token_count (t ∷ ts) ≤ 1 + token_count ts
count-more t ts = count-le_by t ts (is_counted t) refl

count-length : (ts : List Token) → token_count ts ≤ length ts
count-length [] = omega arith
count-length (t ∷ ts) = omega (arith, count-more t ts, count-length ts)

-- each of these is counted
pub Leads-count : (text : List ℕ) (from : ℕ) (ts : List Token) (to : ℕ) → Leads text from ts to → token_count ts ≡ length ts
Leads-count text from [] to h = refl
Leads-count text from (t ∷ ts) to h = omega (arith, count-cons t ts true (goes_on-counted t.kind h.1), Leads-count text t.upto ts to h.2)

-- one more is
pub count-one : (t : Token) (ts : List Token) → is_counted t ≡ true → token_count (t ∷ ts) ≡ 1 + token_count ts
count-one t ts e = count-cons t ts true e

-- whether one more token is one too many
room : (n : ℕ) (v : Bool) → n ≤ 65536 → (n == 65536) && v ≡ false → v ≡ true → n < 65536
room n v h e q = by-test (n == 65536) refl
  where
    by-test : (w : Bool) → (n == 65536) ≡ w → n < 65536
    by-test true p = let k : v ≡ false = sym (ap (λ (x : Bool). x && v) p) ∙ e in cc
    by-test false p = grind (arith, nat_tests)

pub room-more : (n : ℕ) (t : Token) → n ≤ 65536 → (n == 65536) && is_counted t ≡ false → ends t.kind ≡ false → n < 65536
room-more n t h e q = room n (is_counted t) h e (goes_on-counted t.kind q)

few-one_by : (n : ℕ) (t : Token) (v : Bool) → is_counted t ≡ v → n ≤ 65536 → (n == 65536) && is_counted t ≡ false → n + token_count (t ∷ []) ≤ 65536
few-one_by n t true q h e = omega (arith, count-cons t [] true q, room n (is_counted t) h e q)
few-one_by n t false q h e = omega (arith, count-cons t [] false q)

-- the last token behind so many
pub few-one : (n : ℕ) (t : Token) → n ≤ 65536 → (n == 65536) && is_counted t ≡ false → n + token_count (t ∷ []) ≤ 65536
few-one n t h e = few-one_by n t (is_counted t) refl h e

pub few-last : (ts : List Token) (t : Token) → length ts ≤ 65536 → (length ts == 65536) && is_counted t ≡ false → token_count (ts ++ t ∷ []) ≤ 65536
few-last ts t h e = omega (arith, count-append ts (t ∷ []), count-length ts, few-one (length ts) t h e)

both : (u v : Bool) → u && v ≡ true → (u ≡ true) × (v ≡ true)
both true v e = (refl, e)
both false v e = cc

pub full-more : (n : ℕ) (t : Token) → (n == 65536) && is_counted t ≡ true → (n ≡ 65536) × (t.kind ≢ End)
full-more n t e =
    let h = both (n == 65536) (is_counted t) e in
    let p : n == 65536 ≡ true = h.0 in
    (grind (arith, nat_tests), counted-no_end t.kind h.1)
