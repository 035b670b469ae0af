-- A text has its tokens through the first dot, or a fault before it, or too many tokens.
use Rattle.std.proofs.Common.{◌≡◌, ◌≢◌, ◌≤◌, ◌<◌, ℕ, zero, suc, ◌+◌, ◌-◌, List, [], ◌∷◌, length, Bool, true, false, refl, sym, ap, ◌∙◌, inl, inr, arith, Ok, Err}
use Rattle.std.specs.Prelude.{◌⊎◌, ◌==◌, ◌&&◌}
use Rattle.std.specs.Bool.{MatchBool}
use Rattle.std.specs.declared.result.Result.{Result}
use Rattle.tw_lexer.specs.Tokens.{first_token, ends, is_counted, token_count, IsFew, ThroughDot, Leads, HasFault, HasTooMany}
use Rattle.tw_lexer.specs.Laws.{TextIsRead}
use Rattle.tw_lexer.specs.declared.place.Place.{Place}
use Rattle.tw_lexer.specs.declared.token.Token.{Token}
use Rattle.tw_lexer.specs.declared.token.TokenKind.TheVariants.{End}
use Rattle.tw_lexer.proofs.Firsts.{IsToken, first_token-IsToken}
use Rattle.tw_lexer.proofs.Lists.{count-more, few-one, full-more, room-more}

-- what is read behind so many tokens
pub record ReadsOn (text : List ℕ) (from before : ℕ) : Type 0 where
  pub tokens : List Token
  pub upto : ℕ
  pub through : ThroughDot text from tokens upto
  pub few : before + token_count tokens ≤ 65536

pub record FaultOn (text : List ℕ) (from before : ℕ) : Type 0 where
  pub tokens : List Token
  pub upto : ℕ
  pub place : Place
  pub leads : Leads text from tokens upto
  pub few : before + length tokens ≤ 65536
  pub fault : first_token text upto ≡ Err place

pub record TooManyOn (text : List ℕ) (from before : ℕ) : Type 0 where
  pub tokens : List Token
  pub upto : ℕ
  pub next : Token
  pub leads : Leads text from tokens upto
  pub full : before + length tokens ≡ 65536
  pub more : first_token text upto ≡ Ok next
  pub not_end : next.kind ≢ End

abbrev IsReadOn : List ℕ → ℕ → ℕ → Type 0
IsReadOn text from before = ReadsOn text from before ⊎ (FaultOn text from before ⊎ TooManyOn text from before)

-- with one more token in front
one_more : (text : List ℕ) (from before : ℕ) (t : Token) → first_token text from ≡ Ok t → ends t.kind ≡ false → IsReadOn text t.upto (before + 1) → IsReadOn text from before
one_more text from before t e k (inl r) = inl record {
  tokens = t ∷ r.tokens;
  upto = r.upto;
  through = (e, rw k r.through);
  few = omega (arith, r.few, count-more t r.tokens);
}
one_more text from before t e k (inr (inl r)) = inr (inl record {
  tokens = t ∷ r.tokens;
  upto = r.upto;
  place = r.place;
  leads = (e, k, r.leads);
  few = omega (arith, r.few);
  fault = r.fault;
})
one_more text from before t e k (inr (inr r)) = inr (inr record {
  tokens = t ∷ r.tokens;
  upto = r.upto;
  next = r.next;
  leads = (e, k, r.leads);
  full = omega (arith, r.full);
  more = r.more;
  not_end = r.not_end;
})

-- what the rest of the text is read as, where it is shorter
abbrev Shorter : ℕ → List ℕ → Type 0
Shorter n text = (from before : ℕ) → from ≤ length text → before ≤ 65536 → length text - from < n → IsReadOn text from before

reads_token : (n : ℕ) (text : List ℕ) (from before : ℕ) → Shorter n text → from ≤ length text → before ≤ 65536 → length text - from < suc n → (t : Token) → first_token text from ≡ Ok t → (w : Bool) → (before == 65536) && is_counted t ≡ w → (v : Bool) → ends t.kind ≡ v → IsReadOn text from before
reads_token n text from before rest h b l t e true p v k =
    let f = full-more before t p in
    inr (inr record { tokens = []; upto = from; next = t; leads = refl; full = omega (arith, f.0); more = e; not_end = f.1 })
reads_token n text from before rest h b l t e false p true k = inl record { tokens = t ∷ []; upto = t.upto; through = (e, rw k (refl, refl)); few = few-one before t b p }
reads_token n text from before rest h b l t e false p false k =
    let i = first_token-IsToken text from t h e in
    let long = i.long k in
    let less : length text - t.upto < n = omega (arith, i.later, long, i.within) in
    one_more text from before t e k (rest t.upto (before + 1) i.within (omega (arith, room-more before t b p k)) less)

reads_first : (n : ℕ) (text : List ℕ) (from before : ℕ) → Shorter n text → from ≤ length text → before ≤ 65536 → length text - from < suc n → (r : Result Token Place) → first_token text from ≡ r → IsReadOn text from before
reads_first n text from before rest h b l (Err place) e = inr (inl record { tokens = []; upto = from; place = place; leads = refl; few = omega arith; fault = e })
reads_first n text from before rest h b l (Ok t) e = reads_token n text from before rest h b l t e ((before == 65536) && is_counted t) refl (ends t.kind) refl

-- by how many bytes are left
reads : (n : ℕ) (text : List ℕ) (from before : ℕ) → from ≤ length text → before ≤ 65536 → length text - from < n → IsReadOn text from before
reads zero text from before h b l = absurd (omega (arith, l))
reads (suc n) text from before h b l = reads_first n text from before (λ m k p q r. reads n text m k p q r) h b l (first_token text from) refl

outcome : (text : List ℕ) (from : ℕ) → IsReadOn text from 0
    → ((ts : List Token) × (upto : ℕ) × ThroughDot text from ts upto × IsFew ts) ⊎ (((place : Place) × HasFault text from place) ⊎ ((place : Place) × HasTooMany text from place))
outcome text from (inl r) = inl (r.tokens, r.upto, r.through, omega (arith, r.few))
outcome text from (inr (inl r)) = inr (inl (r.place, record { tokens = r.tokens; upto = r.upto; leads = r.leads; few = omega (arith, r.few); fault = r.fault }))
outcome text from (inr (inr r)) = inr (inr (r.next.at, record { tokens = r.tokens; upto = r.upto; next = r.next; leads = r.leads; full = omega (arith, r.full); more = r.more; not_end = r.not_end; at = refl }))

pub text_is_read : TextIsRead
text_is_read text from h = outcome text from (reads (length text - from + 1) text from 0 h (omega arith) (omega arith))
