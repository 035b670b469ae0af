-- A line that reads back is refused at most as too deep, or for want of memory.
use Rattle.std.proofs.Common.{◌≡◌, ℕ, List, None, Some, sym, ap, ◌∙◌, subst, inl, inr}
use Rattle.tw_lexer.specs.Places.{place_of}
use Rattle.tw_lexer.specs.Tokens.{first_token}
use Rattle.tw_lexer.specs.declared.place.Place.{Place}
use Rattle.tw_lexer.specs.declared.token.Token.{Token}
use Rattle.tw_lexer.specs.declared.token.TokenKind.TheVariants.{End}
use Rattle.tw_lexer.proofs.TokensUnique.{tokens_unique, fault_excludes, too_many_excludes}
use Rattle.tw_parse.specs.Syntax.{Declaration}
use Rattle.tw_parse.specs.Words.{Lexeme, lexemes, first_place}
use Rattle.tw_parse.specs.declared.fault.SyntaxFault.{SyntaxFault}
use Rattle.tw_parse.specs.declared.fault.SyntaxFault.TheVariants as faults
use Rattle.tw_recon.specs.Causes as reconstruction
use Rattle.tw_recon.specs.declared.fault.ReconFault.{ReconFault}
use Rattle.tw_recon.specs.declared.fault.ReconFault.TheVariants as reconstructions
use Rattle.law_explicit_agrees.specs.Definitions.{DefinitionMayBeRefused}
use Rattle.tw_decl.specs.View.{View}
use Rattle.tw_decl.specs.Declaration.{IsWrittenAlone, IsFaultBehind, IsNotMade, IsFirstCause, IsFollowed, IsLastCause, IsCauseAlone, HasCause}
use Rattle.tw_decl.specs.Obstacles.{IsNotEntered, HasObstacle, ReadHasObstacle}
use Rattle.tw_decl.specs.Reading.{IsReadAs, Read, ReadFault}
use Rattle.tw_decl.proofs.Faultless.{of_grammar, only_read, read_faultless}
use Rattle.tw_decl.specs.declared.refusal.Refusal.{Refusal}
use Rattle.tw_decl.specs.declared.refusal.Refusal.TheVariants.{Memory, Lex, TooMany, Unsupported, Nesting, Syntax, Fixity, BadDecl, Unknown, Loose, Mismatch, Leftover, TooDeep}
use Rattle.law_session_order.specs.Order.{IsDeepOrMemory}

-- reconstruction fails for nothing else
abbrev pub FailsAtMostSo : View → Declaration → Type 0
FailsAtMostSo v d = (fault : ReconFault) → reconstruction.HasCause v.signature d fault → DefinitionMayBeRefused fault

-- so nothing else is in the way of what is entered
pub nothing_else : (v : View) (d : Declaration) → FailsAtMostSo v d → (first : Place) (refusal : Refusal) → IsNotEntered v d first refusal → IsDeepOrMemory refusal
nothing_else v d f first Memory h = tt
nothing_else v d f first (Unknown place name) h = absurd (f (reconstructions.Unknown name place) h)
nothing_else v d f first (Unsupported place shown) (inl h, e) = absurd (f (reconstructions.TypeLevel None) h.0)
nothing_else v d f first (Unsupported place shown) (inr h, e) = absurd (f (reconstructions.TypeLevel (Some place)) h)
nothing_else v d f first (Loose place) h = absurd (f reconstructions.Loose h.0)
nothing_else v d f first (Mismatch place) h = absurd (f reconstructions.Mismatch h.0)
nothing_else v d f first (Leftover place text) ((left, h, e), there) = absurd (f (reconstructions.Leftover left) h)
nothing_else v d f first (TooDeep place) h = tt
nothing_else v d f first refusal h = absurd h

-- a text that is read as such a declaration, and nothing follows it
module _ (v : View) (text : List ℕ) (words : List Lexeme) (end : Place) (next : Token) (w : IsWrittenAlone text words end next) (alone : next.kind ≡ End) (d : Declaration) (r : IsReadAs v words d)
    (free : (first : Place) (refusal : Refusal) → HasObstacle v d first refusal → IsDeepOrMemory refusal) where
  faultless : (fault : SyntaxFault) → ReadFault v end words fault → fault ≡ faults.NoMemory
  faultless fault h = read_faultless v.fixities end words d r.begins r.reads fault (of_grammar v end words fault r.begins h)

  of_first : (refusal : Refusal) → IsFirstCause v end words refusal → IsDeepOrMemory refusal
  of_first Memory h = tt
  of_first (Unsupported place name) h = let e : faults.Unsupported name place ≡ faults.NoMemory = faultless (faults.Unsupported name place) h in cc
  of_first (Nesting place) h = let e : faults.Nesting place ≡ faults.NoMemory = faultless (faults.Nesting place) h in cc
  of_first (Syntax place) h = let e : faults.Syntax place ≡ faults.NoMemory = faultless (faults.Syntax place) h in cc
  of_first refusal h = absurd h

  of_following : (refusal : Refusal) → IsFollowed v end words next refusal → IsDeepOrMemory refusal
  of_following (Syntax place) h = absurd (h.0 alone)
  of_following refusal h = absurd h

  not_made : (refusal : Refusal) → IsNotMade v end words refusal → IsDeepOrMemory refusal
  not_made refusal h =
      free (first_place end words) refusal (subst (λ (x : Read). ReadHasObstacle v x (first_place end words) refusal) (only_read v words d r h.read h.reads) h.obstacle)

  of_last : (refusal : Refusal) → IsLastCause v end words refusal → IsDeepOrMemory refusal
  of_last Memory h = tt
  of_last (Fixity place) h = let e : faults.Fixity place ≡ faults.NoMemory = faultless (faults.Fixity place) h in cc
  of_last (BadDecl place) (inl h) = let e : faults.BadDecl place ≡ faults.NoMemory = faultless (faults.BadDecl place) h in cc
  of_last (BadDecl place) (inr h) = not_made (BadDecl place) h
  of_last refusal h = not_made refusal h

  of_cause : (refusal : Refusal) → IsCauseAlone v end words next refusal → IsDeepOrMemory refusal
  of_cause refusal (inl h) = of_first refusal h
  of_cause refusal (inr (inl h)) = of_following refusal h
  of_cause refusal (inr (inr h)) = of_last refusal h.1

  -- the tokens are unique, and so is what follows them
  no_fault_behind : (place : Place) → IsFaultBehind text place → ⊥
  no_fault_behind place k =
      let same = tokens_unique text 0 k.written.tokens w.written.tokens k.upto w.upto k.written.through w.written.through in
      let e = sym (ap (first_token text) same.1 ∙ w.follower) ∙ k.fault in
      cc

  same_next : (us : List Lexeme) (last : Place) (follower : Token) → IsWrittenAlone text us last follower → follower ≡ next
  same_next us last follower k =
      let same = tokens_unique text 0 k.written.tokens w.written.tokens k.upto w.upto k.written.through w.written.through in
      let e = sym (ap (first_token text) same.1 ∙ w.follower) ∙ k.follower in
      cc

  of_others : (refusal : Refusal) → (us : List Lexeme) × (last : Place) × (follower : Token) × IsWrittenAlone text us last follower × IsCauseAlone v last us follower refusal → IsDeepOrMemory refusal
  of_others refusal (us, last, follower, k, h) =
      let same = tokens_unique text 0 k.written.tokens w.written.tokens k.upto w.upto k.written.through w.written.through in
      let same_words : us ≡ words = k.written.spelled ∙ ap (lexemes text) same.0 ∙ sym w.written.spelled in
      let same_end : last ≡ end = k.written.behind ∙ ap (place_of text) same.1 ∙ sym w.written.behind in
      of_cause refusal
      (subst (λ (t : Token). IsCauseAlone v end words t refusal) (same_next us last follower k)
      (subst (λ (ws : List Lexeme). IsCauseAlone v end ws follower refusal) same_words
      (subst (λ (p : Place). IsCauseAlone v p us follower refusal) same_end h)))

  pub refused_at_most_so : (refusal : Refusal) → HasCause v text refusal → IsDeepOrMemory refusal
  refused_at_most_so Memory h = tt
  refused_at_most_so (Lex place) (inl h) = absurd (fault_excludes text 0 w.written.tokens w.upto place w.written.through h)
  refused_at_most_so (Lex place) (inr h) = absurd (no_fault_behind place h)
  refused_at_most_so (TooMany place) h = absurd (too_many_excludes text 0 w.written.tokens w.upto place w.written.through w.written.few h)
  refused_at_most_so refusal h = of_others refusal h
