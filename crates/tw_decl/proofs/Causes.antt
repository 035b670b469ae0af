-- The causes of refusals, from the causes of each step.
use Rattle.std.proofs.Common.{◌≡◌, ◌≢◌, ℕ, List, [], ◌∷◌, Bool, true, false, None, Some, refl, sym, ap, ◌∙◌, subst, inl, inr, Ok}
use Rattle.std.specs.Prelude.{if◌then◌else◌}
use Rattle.tw_lexer.specs.Tokens.{ThroughDot, Lexes}
use Rattle.tw_lexer.specs.declared.place.Place.{Place}
use Rattle.tw_lexer.specs.declared.token.Token.{Token}
use Rattle.tw_lexer.specs.declared.token.Tokens.{Tokens}
use Rattle.tw_lexer.specs.declared.token.TokenKind.{TokenKind}
use Rattle.tw_lexer.specs.declared.token.TokenKind.TheVariants.{End}
use Rattle.tw_parse.specs.Syntax.{Declaration, declare, define, prefer, give}
use Rattle.tw_parse_checks.specs.Checks.{mode_short, mode_full, block, worlds, terminates}
use Rattle.tw_parse_queries.specs.Searches.{query, solve}
use Rattle.tw_parse.specs.Words.{Lexeme, lexemes, first_place}
use Rattle.tw_recon.specs.declared.fault.ReconFault.{ReconFault}
use Rattle.tw_recon.specs.declared.fault.ReconFault.TheVariants as reconstructions
use Rattle.tw_metas.specs.declared.left.LeftEquation.{LeftEquation}
use Rattle.tw_parse.specs.declared.fault.SyntaxFault.{SyntaxFault}
use Rattle.tw_parse.specs.declared.fault.SyntaxFault.TheVariants as faults
use Rattle.tw_decl.specs.View.{View}
use Rattle.tw_decl.specs.Declaration.{IsWritten, IsWrittenAlone, HasNoMore, IsPastSyntax, IsCause, IsCauseAlone, IsLastCause, HasCauseFrom, HasCause}
use Rattle.tw_decl.specs.Obstacles.{ReconstructionFails, IsNotEntered, HasObstacle, ReadHasObstacle}
use Rattle.tw_decl.specs.Reading.{Read, plain, check, searching, Reads, ReadFault}
use Rattle.tw_decl.specs.Steps.{ShowsLeft, IsRefusedFor, IsTokenCause, is_end, is_over, refusal_of, refused_alone}
use Rattle.tw_decl.specs.declared.refusal.Refusal.{Refusal}
use Rattle.tw_decl.specs.declared.refusal.Refusal.TheVariants as refusals

-- the tokens that are read are those of the declaration
pub is_written : (text : List ℕ) (from : ℕ) (tokens : Tokens) → Lexes text from (Ok tokens) → IsWritten text from tokens.upto (lexemes text tokens.list.items) tokens.at
is_written text from tokens h = record { tokens = tokens.list.items; through = h.0; few = h.2; spelled = refl; behind = h.1 }

end_by : (k : TokenKind) → is_end k ≡ true → k ≡ End
end_by End e = refl
end_by k e = cc

-- only the end of the text is left
pub over : (text : List ℕ) (from : ℕ) (ts : List Token) (upto : ℕ) → ThroughDot text from ts upto → is_over ts ≡ true → HasNoMore text from
over text from [] upto h e = absurd h
over text from (t ∷ ts) upto h e = (t, h.0, end_by t.kind e)

-- or a declaration begins
pub not_over : (text : List ℕ) (from : ℕ) (ts : List Token) (upto : ℕ) → ThroughDot text from ts upto → is_over ts ≡ false → HasNoMore text from → ⊥
not_over text from [] upto h e none = h
not_over text from (t ∷ ts) upto h e (only, first, kind) =
    let same = sym h.0 ∙ first in
    let k : t.kind ≡ End = cc in
    let b : is_end End ≡ false = ap is_end (sym k) ∙ e in
    cc

-- the cause of the tokens is that of the declaration
pub token_cause_from : (v : View) (text : List ℕ) (from : ℕ) (refusal : Refusal) → IsTokenCause text from refusal → HasCauseFrom v text from refusal
token_cause_from v text from refusals.Memory h = tt
token_cause_from v text from (refusals.Lex place) h = h
token_cause_from v text from (refusals.TooMany place) h = h
token_cause_from v text from refusal h = absurd h

pub token_cause : (v : View) (text : List ℕ) (refusal : Refusal) → IsTokenCause text 0 refusal → HasCause v text refusal
token_cause v text refusals.Memory h = tt
token_cause v text (refusals.Lex place) h = inl h
token_cause v text (refusals.TooMany place) h = h
token_cause v text refusal h = absurd h

-- a fault of the grammar is a cause
pub parsed_cause : (v : View) (end : Place) (words : List Lexeme) (fault : SyntaxFault) → ReadFault v end words fault → IsCause v end words (refusal_of fault)
parsed_cause v end words (faults.Unsupported name place) h = inl h
parsed_cause v end words (faults.Nesting place) h = inl h
parsed_cause v end words (faults.Syntax place) h = inl h
parsed_cause v end words (faults.Fixity place) h = inr h
parsed_cause v end words (faults.BadDecl place) h = inr (inl h)
parsed_cause v end words faults.NoMemory h = inl tt

not_end : (k : TokenKind) → is_end k ≡ false → k ≢ End
not_end k e same = let b : is_end End ≡ false = ap is_end (sym same) ∙ e in cc

-- a fault that is told behind a token that follows
later : (v : View) (end : Place) (words : List Lexeme) (next : Token) (refusal : Refusal) (b : Bool) → is_end next.kind ≡ b → IsLastCause v end words refusal → IsPastSyntax v end words
    → IsCauseAlone v end words next (if b then refusal else refusals.Syntax next.at)
later v end words next refusal true e cause past = inr (inr (end_by next.kind e, cause))
later v end words next refusal false e cause past = inr (inl (not_end next.kind e, refl, past))

-- a fault of the grammar is a cause of a text that has to be alone
pub alone_cause : (v : View) (end : Place) (words : List Lexeme) (next : Token) (fault : SyntaxFault) → ReadFault v end words fault → IsCauseAlone v end words next (refused_alone fault next)
alone_cause v end words next (faults.Unsupported name place) h = inl h
alone_cause v end words next (faults.Nesting place) h = inl h
alone_cause v end words next (faults.Syntax place) h = inl h
alone_cause v end words next (faults.Fixity place) h = later v end words next (refusals.Fixity place) (is_end next.kind) refl h (inr (inl (place, h)))
alone_cause v end words next (faults.BadDecl place) h = later v end words next (refusals.BadDecl place) (is_end next.kind) refl (inl h) (inr (inr (place, h)))
alone_cause v end words next faults.NoMemory h = inl tt

-- an equation that is left, as a refusal
pub left_refused : (v : View) (first : Place) (fault : ReconFault) (left : LeftEquation) (refusal : Refusal) → fault ≡ reconstructions.Leftover left → ShowsLeft v first left refusal → IsRefusedFor v first fault refusal
left_refused v first fault left refusals.Memory e h = tt
left_refused v first fault left (refusals.Leftover place text) e h = ((left, e, h.1), h.0)
left_refused v first fault left refusal e h = absurd h

-- a fault of the reconstruction keeps the declaration from being entered
module _ (v : View) (first : Place) (d : Declaration) (fault : ReconFault) (cause : ReconstructionFails v d fault) where
  fails : (told : ReconFault) → fault ≡ told → ReconstructionFails v d told
  fails told e = subst (ReconstructionFails v d) e cause

  pub not_entered : (refusal : Refusal) → IsRefusedFor v first fault refusal → IsNotEntered v d first refusal
  not_entered refusals.Memory h = tt
  not_entered (refusals.Unknown place name) h = fails (reconstructions.Unknown name place) h
  not_entered (refusals.Unsupported place shown) (inl h, t) = (inl (fails (reconstructions.TypeLevel None) h.0, h.1), t)
  not_entered (refusals.Unsupported place shown) (inr h, t) = (inr (fails (reconstructions.TypeLevel (Some place)) h), t)
  not_entered (refusals.Loose place) h = (fails reconstructions.Loose h.0, h.1)
  not_entered (refusals.Mismatch place) h = (fails reconstructions.Mismatch h.0, h.1)
  not_entered (refusals.Leftover place text) ((left, e, t), at) = ((left, fails (reconstructions.Leftover left) e, t), at)
  not_entered (refusals.TooDeep place) h = (fails reconstructions.TooDeep h.0, h.1)
  not_entered refusal h = absurd h

-- what is told before a declaration is read is no obstacle to it
pub no_obstacle_before : (v : View) (d : Declaration) (first place : Place)
    → (HasObstacle v d first (refusals.Lex place) → ⊥) × (HasObstacle v d first (refusals.TooMany place) → ⊥) × (HasObstacle v d first (refusals.Fixity place) → ⊥)
no_obstacle_before v (declare c at U) first place = (λ h. h, λ h. h, λ h. h)
no_obstacle_before v (define c A M b) first place = (λ h. h, λ h. h, λ h. h)
no_obstacle_before v (prefer a x y) first place = (λ h. h, λ h. h, λ h. h)
no_obstacle_before v (give fix names) first place = (λ h. h, λ h. h, λ h. h)

none_before : (v : View) (r : Read) (first place : Place)
    → (ReadHasObstacle v r first (refusals.Lex place) → ⊥) × (ReadHasObstacle v r first (refusals.TooMany place) → ⊥) × (ReadHasObstacle v r first (refusals.Fixity place) → ⊥)
none_before v (plain d) first place = no_obstacle_before v d first place
none_before v (check (mode_short a ms)) first place = (λ h. h.1, λ h. h.1, λ h. h.1)
none_before v (check (mode_full ms a n d)) first place = (λ h. h.1, λ h. h.1, λ h. h.1)
none_before v (check (terminates O ps)) first place = (λ h. h, λ h. h, λ h. h)
none_before v (check (block l n d)) first place = (λ h. h.1, λ h. h.1, λ h. h.1)
none_before v (check (worlds ls ps)) first place = (λ h. h, λ h. h, λ h. h)
none_before v (searching (query e t q)) first place = (λ h. h, λ h. h, λ h. h)
none_before v (searching (solve c at A)) first place = (λ h. h, λ h. h, λ h. h)

-- an obstacle of the words is a cause
pub last_cause : (v : View) (end : Place) (words : List Lexeme) (r : Read) (refusal : Refusal) → Reads v words r → ReadHasObstacle v r (first_place end words) refusal → IsLastCause v end words refusal
last_cause v end words r refusals.Memory reads h = tt
last_cause v end words r (refusals.Fixity place) reads h = absurd ((none_before v r (first_place end words) place).2 h)
last_cause v end words r (refusals.BadDecl place) reads h = inr (record { read = r; reads = reads; obstacle = h })
last_cause v end words r refusal reads h = record { read = r; reads = reads; obstacle = h }

-- the cause of the words is that of the declaration
pub cause_from : (v : View) (text : List ℕ) (from upto : ℕ) (words : List Lexeme) (end : Place) (refusal : Refusal) → (HasNoMore text from → ⊥) → IsWritten text from upto words end
    → IsCause v end words refusal → HasCauseFrom v text from refusal
cause_from v text from upto words end refusals.Memory more written h = tt
cause_from v text from upto words end (refusals.Lex place) more written (inl h) = absurd h
cause_from v text from upto words end (refusals.Lex place) more written (inr h) = absurd ((none_before v h.read (first_place end words) place).0 h.obstacle)
cause_from v text from upto words end (refusals.TooMany place) more written (inl h) = absurd h
cause_from v text from upto words end (refusals.TooMany place) more written (inr h) = absurd ((none_before v h.read (first_place end words) place).1 h.obstacle)
cause_from v text from upto words end refusal more written h = (more, (upto, words, end, written, h))

pub cause_alone : (v : View) (text : List ℕ) (words : List Lexeme) (end : Place) (next : Token) (refusal : Refusal) → IsWrittenAlone text words end next
    → IsCauseAlone v end words next refusal → HasCause v text refusal
cause_alone v text words end next refusals.Memory written h = tt
cause_alone v text words end next (refusals.Lex place) written (inl h) = absurd h
cause_alone v text words end next (refusals.Lex place) written (inr (inl h)) = absurd h
cause_alone v text words end next (refusals.Lex place) written (inr (inr h)) = absurd ((none_before v h.1.read (first_place end words) place).0 h.1.obstacle)
cause_alone v text words end next (refusals.TooMany place) written (inl h) = absurd h
cause_alone v text words end next (refusals.TooMany place) written (inr (inl h)) = absurd h
cause_alone v text words end next (refusals.TooMany place) written (inr (inr h)) = absurd ((none_before v h.1.read (first_place end words) place).1 h.1.obstacle)
cause_alone v text words end next refusal written h = (words, end, next, written, h)
