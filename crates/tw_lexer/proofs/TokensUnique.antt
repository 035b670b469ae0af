-- A text's tokens are unique, and lie within the text; a text with a fault has none.
use Rattle.std.proofs.Common.{◌≡◌, ◌≢◌, ◌≤◌, ◌<◌, ℕ, suc, ◌+◌, List, [], ◌∷◌, ◌++◌, length, Bool, true, false, refl, sym, ap, ◌∙◌, subst, arith, Ok, Err, inl, inr, length-append}
use Rattle.std.specs.Prelude.{◌⊎◌}
use Rattle.std.specs.Bool.{MatchBool}
use Rattle.std.specs.List.{All}
use Rattle.std.proofs.lemmas.List.Elements.{All-nil, All-cons}
use Rattle.tw_lexer.specs.Tokens.{first_token, ends, is_counted, token_count, IsFew, ThroughDot, Leads, HasFault, HasTooMany, IsWithin}
use Rattle.tw_lexer.specs.declared.place.Place.{Place}
use Rattle.tw_lexer.specs.declared.token.Token.{Token}
use Rattle.tw_lexer.specs.declared.token.TokenKind.TheVariants.{End}
use Rattle.tw_lexer.proofs.Firsts.{IsToken, first_token-IsToken}
use Rattle.tw_lexer.proofs.Lists.{Leads-count, count-append, count-one, counted}

-- what stands behind a token that ends a declaration, or does not
abbrev Behind : List ℕ → Token → List Token → ℕ → Bool → Type 0
Behind text t ts upto v = MatchBool v ((ts ≡ []) × (upto ≡ t.upto)) (ThroughDot text t.upto ts upto)

unique-behind : (text : List ℕ) (t : Token) (ts us : List Token) (m n : ℕ) (v : Bool) → Behind text t ts m v → Behind text t us n v → (ThroughDot text t.upto ts m → ThroughDot text t.upto us n → (ts ≡ us) × (m ≡ n)) → (ts ≡ us) × (m ≡ n)
unique-behind text t ts us m n true h k next = (h.0 ∙ sym k.0, h.1 ∙ sym k.1)
unique-behind text t ts us m n false h k next = next h k

same-first : (text : List ℕ) (from : ℕ) (t u : Token) → first_token text from ≡ Ok t → first_token text from ≡ Ok u → u ≡ t
same-first text from t u h k = let e = sym k ∙ h in cc

-- a text's tokens through the first dot are unique
pub tokens_unique : (text : List ℕ) (from : ℕ) (ts us : List Token) (m n : ℕ) → ThroughDot text from ts m → ThroughDot text from us n → (ts ≡ us) × (m ≡ n)
tokens_unique text from [] us m n h k = absurd h
tokens_unique text from (t ∷ ts) [] m n h k = absurd k
tokens_unique text from (t ∷ ts) (u ∷ us) m n h k =
    let same = same-first text from t u h.0 k.0 in
    let r = unique-behind text t ts us m n (ends t.kind) h.1 (subst (λ (x : Token). Behind text x us n (ends x.kind)) same k.1) (λ p q. tokens_unique text t.upto ts us m n p q) in
    let tail = r.0 in
    (cc, r.1)

-- what stands behind a token that does not end a declaration
behind-false : (text : List ℕ) (t : Token) (ts : List Token) (upto : ℕ) (v : Bool) → v ≡ false → Behind text t ts upto v → ThroughDot text t.upto ts upto
behind-false text t ts upto true e h = cc
behind-false text t ts upto false e h = h

-- the tokens through the first dot begin with any that lead somewhere
pub record Begins (text : List ℕ) (ts us : List Token) (to upto : ℕ) : Type 0 where
  pub rest : List Token
  pub spelled : ts ≡ us ++ rest
  pub through : ThroughDot text to rest upto

begins : (text : List ℕ) (from : ℕ) (ts us : List Token) (to upto : ℕ) → ThroughDot text from ts upto → Leads text from us to → Begins text ts us to upto
begins text from ts [] to upto h k = record { rest = ts; spelled = refl; through = subst (λ (n : ℕ). ThroughDot text n ts upto) k h }
begins text from [] (u ∷ us) to upto h k = absurd h
begins text from (t ∷ ts) (u ∷ us) to upto h k =
    let same = same-first text from t u h.0 k.0 in
    let rest = behind-false text t ts upto (ends t.kind) (ap (λ (x : Token). ends x.kind) (sym same) ∙ k.1) h.1 in
    let b = begins text t.upto ts us to upto rest (subst (λ (x : Token). Leads text x.upto us to) same k.2) in
    record { rest = b.rest; spelled = (let e = b.spelled in cc); through = b.through }

-- some token comes first
first-of : (text : List ℕ) (from : ℕ) (ts : List Token) (upto : ℕ) → ThroughDot text from ts upto → (t : Token) × (us : List Token) × (ts ≡ t ∷ us) × (first_token text from ≡ Ok t)
first-of text from [] upto h = absurd h
first-of text from (t ∷ ts) upto h = (t, ts, refl, h.0)

-- a text with a fault has no tokens through its first dot
pub fault_excludes : (text : List ℕ) (from : ℕ) (ts : List Token) (upto : ℕ) (place : Place) → ThroughDot text from ts upto → HasFault text from place → ⊥
fault_excludes text from ts upto place h k =
    let b = begins text from ts k.tokens k.upto upto h k.leads in
    let f = first-of text k.upto b.rest upto b.through in
    let e = sym f.3 ∙ k.fault in cc

-- nor has one with too many tokens as few as a declaration may have
pub too_many_excludes : (text : List ℕ) (from : ℕ) (ts : List Token) (upto : ℕ) (place : Place) → ThroughDot text from ts upto → IsFew ts → HasTooMany text from place → ⊥
too_many_excludes text from ts upto place h few k =
    let b = begins text from ts k.tokens k.upto upto h k.leads in
    let f = first-of text k.upto b.rest upto b.through in
    let same : f.0 ≡ k.next = sym (same-first text k.upto f.0 k.next f.3 k.more) in
    let one : is_counted f.0 ≡ true = counted f.0.kind (λ e. k.not_end (ap (λ (x : Token). x.kind) (sym same) ∙ e)) in
    let rest : token_count b.rest ≡ 1 + token_count f.1 = ap token_count f.2 ∙ count-one f.0 f.1 one in
    omega (arith, few, ap token_count b.spelled, count-append k.tokens b.rest, Leads-count text from k.tokens k.upto k.leads, k.full, rest)

-- of two lists that lead somewhere the shorter one begins the other
pub record Splits (text : List ℕ) (ts us : List Token) (m n : ℕ) : Type 0 where
  pub rest : List Token
  pub spelled : us ≡ ts ++ rest
  pub leads : Leads text m rest n

splits : (text : List ℕ) (from : ℕ) (ts us : List Token) (m n : ℕ) → Leads text from ts m → Leads text from us n → length ts ≤ length us → Splits text ts us m n
splits text from [] us m n h k l = record { rest = us; spelled = refl; leads = subst (λ (x : ℕ). Leads text x us n) h k }
splits text from (t ∷ ts) [] m n h k l = absurd (omega (arith, l))
splits text from (t ∷ ts) (u ∷ us) m n h k l =
    let same = same-first text from t u h.0 k.0 in
    let less : length ts ≤ length us = omega (arith, l) in
    let s = splits text t.upto ts us m n h.2 (subst (λ (x : Token). Leads text x.upto us n) same k.2) less in
    record { rest = s.rest; spelled = (let e = s.spelled in cc); leads = s.leads }

-- where a fault stands, no token leads on
stays : (text : List ℕ) (m n : ℕ) (ts : List Token) (p : Place) → Leads text m ts n → first_token text m ≡ Err p → m ≡ n
stays text m n [] p h e = h
stays text m n (t ∷ ts) p h e = let k = sym h.0 ∙ e in cc

order : (m n : ℕ) → (m ≤ n) ⊎ (n ≤ m)
order m n = grind arith

-- a text has one first fault
pub fault_unique : (text : List ℕ) (from : ℕ) (p q : Place) → HasFault text from p → HasFault text from q → p ≡ q
fault_unique text from p q h k =
    elim (order (length h.tokens) (length k.tokens)) [
      | inl l ↦ let s = splits text from h.tokens k.tokens h.upto k.upto h.leads k.leads l in
          let same = stays text h.upto k.upto s.rest p s.leads h.fault in
          let e = sym h.fault ∙ ap (first_token text) same ∙ k.fault in cc
      | inr l ↦ let s = splits text from k.tokens h.tokens k.upto h.upto k.leads h.leads l in
          let same = stays text k.upto h.upto s.rest q s.leads k.fault in
          let e = sym h.fault ∙ ap (first_token text) (sym same) ∙ k.fault in cc
    ]

no-tokens : (text : List ℕ) (m n : ℕ) (ts us vs : List Token) → Leads text m vs n → us ≡ ts ++ vs → length us ≡ length ts → m ≡ n
no-tokens text m n ts us [] h e l = h
no-tokens text m n ts us (v ∷ vs) h e l = absurd (omega (arith, l, ap length e ∙ length-append ts (v ∷ vs)))

-- and one first token too many
pub too_many_unique : (text : List ℕ) (from : ℕ) (p q : Place) → HasTooMany text from p → HasTooMany text from q → p ≡ q
too_many_unique text from p q h k =
    let s = splits text from h.tokens k.tokens h.upto k.upto h.leads k.leads (omega (arith, h.full, k.full)) in
    let same = no-tokens text h.upto k.upto h.tokens k.tokens s.rest s.leads s.spelled (k.full ∙ sym h.full) in
    let next = same-first text h.upto h.next k.next h.more (ap (first_token text) same ∙ k.more) in
    h.at ∙ ap (λ (t : Token). t.at) (sym next) ∙ sym k.at

-- not both
pub too_many_no_fault : (text : List ℕ) (from : ℕ) (p q : Place) → HasFault text from p → HasTooMany text from q → ⊥
too_many_no_fault text from p q h k =
    let s = splits text from h.tokens k.tokens h.upto k.upto h.leads k.leads (omega (arith, h.few, k.full)) in
    let same = stays text h.upto k.upto s.rest p s.leads h.fault in
    let e = sym h.fault ∙ ap (first_token text) same ∙ k.more in cc

-- the tokens lie within the text, in order, and so does what they reach
pub record Lies (text : List ℕ) (from : ℕ) (ts : List Token) (upto : ℕ) : Type 0 where
  pub tokens : All (IsWithin (length text)) ts
  pub later : from ≤ upto
  pub within : upto ≤ length text

lies-behind : (text : List ℕ) (from : ℕ) (t : Token) (ts : List Token) (upto : ℕ) (v : Bool) → IsToken text from t → Behind text t ts upto v → (ThroughDot text t.upto ts upto → Lies text t.upto ts upto) → Lies text from (t ∷ ts) upto
lies-behind text from t ts upto true i h next =
    let no : All (IsWithin (length text)) ts = subst (All (IsWithin (length text))) (sym h.0) (All-nil (IsWithin (length text))) in
    record {
      tokens = All-cons (IsWithin (length text)) t ts (i.order, i.within) no;
      later = omega (arith, i.later, i.order, h.1);
      within = omega (arith, i.within, h.1);
    }
lies-behind text from t ts upto false i h next =
    let r = next h in
    record {
      tokens = All-cons (IsWithin (length text)) t ts (i.order, i.within) r.tokens;
      later = omega (arith, i.later, i.order, r.later);
      within = r.within;
    }

pub tokens_lie_within : (text : List ℕ) (from : ℕ) (ts : List Token) (upto : ℕ) → from ≤ length text → ThroughDot text from ts upto → Lies text from ts upto
tokens_lie_within text from [] upto h k = absurd k
tokens_lie_within text from (t ∷ ts) upto h k =
    let i = first_token-IsToken text from t h k.0 in
    lies-behind text from t ts upto (ends t.kind) i k.1 (λ r. tokens_lie_within text t.upto ts upto i.within r)
