-- What a text of the loop of answers asks, and the causes of its refusals.
use Rattle.std.proofs.Common.{◌≡◌, ◌≢◌, ℕ, List, [], ◌∷◌, Bool, true, false, refl, sym, ap, ◌∙◌, subst, inl, inr, Ok, Err}
use Rattle.std.specs.Bool.{MatchBool}
use Rattle.std.specs.Prelude.{if◌then◌else◌, not, IfErr, IfOk, OnOk}
use Rattle.std.specs.declared.result.Result.{Result}
use Rattle.tw_lexer.specs.Cut.{cut_after, is_done}
use Rattle.tw_lexer.specs.Tokens.{ThroughDot, ends, first_token}
use Rattle.tw_lexer.specs.declared.cut.Cut.TheVariants.{Plain}
use Rattle.tw_lexer.specs.declared.place.Place.{Place}
use Rattle.tw_lexer.specs.declared.token.Token.{Token}
use Rattle.tw_lexer.specs.declared.token.TokenKind.{TokenKind}
use Rattle.tw_lexer.specs.declared.token.TokenKind.TheVariants.{Dot, End}
use Rattle.tw_parse.specs.Queries.{Asks, IsAskable, Query, QueryFaultStands, query_of}
use Rattle.tw_parse.specs.declared.query.ExtQuery.{ExtQuery}
use Rattle.tw_parse.specs.Outlines.{Table}
use Rattle.tw_parse.specs.Words.{Lexeme, first_place}
use Rattle.tw_parse.specs.declared.fault.SyntaxFault.{SyntaxFault}
use Rattle.tw_parse.specs.declared.fault.SyntaxFault.TheVariants as faults
use Rattle.tw_decl.specs.Question.{AsksNothing, HasQueryCause, IsLastQueryCause, IsQueryCause, IsQueryPastSyntax, IsReadAsQuery, RefusesWords}
use Rattle.tw_decl.specs.Unanswered.{IsNotAsked}
use Rattle.tw_decl.specs.Steps.{IsParsedQuery, IsTokenCause, asks_nothing, is_end, nothing_by, refused_alone}
use Rattle.tw_decl.specs.View.{View}
use Rattle.tw_decl.specs.declared.refusal.Refusal.{Refusal}
use Rattle.tw_decl.specs.declared.refusal.Refusal.TheVariants as refusals

end_by : (k : TokenKind) → is_end k ≡ true → k ≡ End
end_by End e = refl
end_by k e = cc

not_end : (k : TokenKind) → is_end k ≡ false → k ≢ End
not_end k e same = let b : is_end End ≡ false = ap is_end (sym same) ∙ e in cc

not_true : (b : Bool) → not b ≡ true → b ≡ false
not_true true e = cc
not_true false e = refl

-- the text asks nothing
pub is_nothing : (text : List ℕ) (ts : List Token) (upto : ℕ) (next : Token) → ThroughDot text 0 ts upto → first_token text upto ≡ Ok next → asks_nothing text ts next ≡ true → AsksNothing text
is_nothing text [] upto next h f e = absurd h
is_nothing text (t ∷ ts) upto next h f e = go t.kind refl e
  where
    go : (k : TokenKind) → t.kind ≡ k → nothing_by text k next ≡ true → AsksNothing text
    go Dot q n =
        let only : (ts ≡ []) × (upto ≡ t.upto) = subst (λ x. MatchBool (ends x) ((ts ≡ []) × (upto ≡ t.upto)) (ThroughDot text t.upto ts upto)) q h.1 in
        inl (record { dot = t; next = next; is_first = h.0; is_dot = q; follower = subst (λ u. first_token text u ≡ Ok next) only.1 f; alone = end_by next.kind n })
    go End q n = inr ((t, h.0, q), not_true (is_done (cut_after Plain text)) n)
    go k q n = cc

-- or something
pub not_nothing : (text : List ℕ) (ts : List Token) (upto : ℕ) (next : Token) → ThroughDot text 0 ts upto → first_token text upto ≡ Ok next → asks_nothing text ts next ≡ false → AsksNothing text → ⊥
not_nothing text [] upto next h f e a = h
not_nothing text (t ∷ ts) upto next h f e (inl d) =
    let same : t ≡ d.dot = (let x = sym h.0 ∙ d.is_first in cc) in
    let kind : t.kind ≡ Dot = ap (λ x. x.kind) same ∙ d.is_dot in
    let only : (ts ≡ []) × (upto ≡ t.upto) = subst (λ x. MatchBool (ends x) ((ts ≡ []) × (upto ≡ t.upto)) (ThroughDot text t.upto ts upto)) kind h.1 in
    let there : upto ≡ d.dot.upto = only.1 ∙ ap (λ x. x.upto) same in
    let one : next ≡ d.next = (let x = sym f ∙ ap (first_token text) there ∙ d.follower in cc) in
    let b : is_end next.kind ≡ true = ap (λ x. is_end x.kind) one ∙ ap is_end d.alone in
    let n : nothing_by text Dot next ≡ false = sym (ap (λ k. nothing_by text k next) kind) ∙ e in
    absurd (let c : is_end next.kind ≡ false = n in cc)
not_nothing text (t ∷ ts) upto next h f e (inr ((only, first, kind), undone)) =
    let same : t ≡ only = (let x = sym h.0 ∙ first in cc) in
    let k : t.kind ≡ End = ap (λ x. x.kind) same ∙ kind in
    let n : nothing_by text End next ≡ false = sym (ap (λ k. nothing_by text k next) k) ∙ e in
    let b : not (is_done (cut_after Plain text)) ≡ true = ap not undone in
    absurd (let c : not (is_done (cut_after Plain text)) ≡ false = n in cc)

-- the cause of the tokens is that of the text
pub token_query_cause : (v : View) (text : List ℕ) (refusal : Refusal) → IsTokenCause text 0 refusal → HasQueryCause v text refusal
token_query_cause v text refusals.Memory h = tt
token_query_cause v text (refusals.Lex place) h = inl h
token_query_cause v text (refusals.TooMany place) h = h
token_query_cause v text refusal h = absurd h

-- a fault that is told behind a token that follows
later : (v : View) (end : Place) (words : List Lexeme) (next : Token) (refusal : Refusal) (b : Bool) → is_end next.kind ≡ b → IsLastQueryCause v end words refusal → IsQueryPastSyntax v end words
    → IsQueryCause v end words next (if b then refusal else refusals.Syntax next.at)
later v end words next refusal true e cause past = inr (inr (end_by next.kind e, cause))
later v end words next refusal false e cause past = inr (inl (not_end next.kind e, refl, past))

-- a fault of the grammar is a cause
pub query_fault : (v : View) (end : Place) (words : List Lexeme) (next : Token) (fault : SyntaxFault) → QueryFaultStands v.fixities end words fault → IsQueryCause v end words next (refused_alone fault next)
query_fault v end words next (faults.Unsupported name place) h = inl h
query_fault v end words next (faults.Nesting place) h = inl h
query_fault v end words next (faults.Syntax place) h = inl h
query_fault v end words next (faults.Fixity place) h = later v end words next (refusals.Fixity place) (is_end next.kind) refl h (inr (inl (place, h)))
query_fault v end words next (faults.BadDecl place) h = later v end words next (refusals.BadDecl place) (is_end next.kind) refl h (inr (inr (place, h)))
query_fault v end words next faults.NoMemory h = inl tt

-- what the words ask has no goal
pub last_query_cause : (v : View) (end : Place) (words : List Lexeme) (q : Query) (refusal : Refusal) → IsReadAsQuery v words q → IsNotAsked v q.goal (first_place end words) refusal → IsLastQueryCause v end words refusal
last_query_cause v end words q (refusals.Fixity place) reads h = absurd h
last_query_cause v end words q (refusals.BadDecl place) reads h = absurd h
last_query_cause v end words q refusal reads h = record { query = q; reads = reads; obstacle = h }

-- the cause of the words is that of the text
pub query_cause : (v : View) (text : List ℕ) (refusal : Refusal) (r : RefusesWords v text refusal) → HasQueryCause v text refusal
query_cause v text refusals.Memory r = tt
query_cause v text (refusals.Lex place) r = go r.cause
  where
    go : IsQueryCause v r.end r.words r.next (refusals.Lex place) → HasQueryCause v text (refusals.Lex place)
    go (inl h) = absurd h
    go (inr (inl h)) = absurd h
    go (inr (inr h)) = absurd h.1.obstacle
query_cause v text (refusals.TooMany place) r = go r.cause
  where
    go : IsQueryCause v r.end r.words r.next (refusals.TooMany place) → HasQueryCause v text (refusals.TooMany place)
    go (inl h) = absurd h
    go (inr (inl h)) = absurd h
    go (inr (inr h)) = absurd h.1.obstacle
query_cause v text refusal r = r

-- what the grammar makes of the words, from what it says of what it reads, of the causes before, and of a fault
pub is_parsed : (v : View) (end : Place) (words : List Lexeme) (r : Result ExtQuery SyntaxFault) → IfOk r (λ q. Asks v.fixities words (query_of q)) → OnOk r (IsAskable words) → IfErr r (QueryFaultStands v.fixities end words) → IsParsedQuery v end words r
is_parsed v end words (Ok q) reads askable fault = record { askable = askable; asks = reads }
is_parsed v end words (Err f) reads askable fault = fault

-- the same with the table of the session
pub parsed_so : (v : View) (table : Table) (end : Place) (words : List Lexeme) (r : Result ExtQuery SyntaxFault) → table ≡ v.fixities → IfOk r (λ q. Asks table words (query_of q)) → OnOk r (IsAskable words) → IfErr r (QueryFaultStands table end words) → IsParsedQuery v end words r
parsed_so v table end words r e reads askable fault =
    is_parsed v end words r (subst (λ (t : Table). IfOk r (λ q. Asks t words (query_of q))) e reads) askable (subst (λ (t : Table). IfErr r (QueryFaultStands t end words)) e fault)
