-- A good declaration has no cause of a refusal.
use Rattle.std.proofs.Common.{◌≡◌, ℕ, List, Option, None, Some, refl, sym, ap, ◌∙◌, subst, inl, inr}
use Rattle.tw_lexer.specs.Places.{place_of}
use Rattle.tw_lexer.specs.Tokens.{first_token}
use Rattle.tw_lexer.specs.declared.place.Place.{Place}
use Rattle.tw_lexer.specs.declared.token.Token.{Token}
use Rattle.tw_lexer.specs.declared.token.TokenKind.TheVariants.{End}
use Rattle.tw_lexer.proofs.TokensUnique.{tokens_unique, fault_excludes, too_many_excludes}
use Rattle.tw_parse.specs.Syntax.{Declaration, Term, declare, define, prefer, give}
use Rattle.tw_parse.specs.Words.{Lexeme, lexemes, first_place}
use Rattle.tw_parse.specs.declared.fault.SyntaxFault.{SyntaxFault}
use Rattle.tw_parse.specs.declared.fault.SyntaxFault.TheVariants as faults
use Rattle.tw_approx.specs.Answer.{IsOfObjects}
use Rattle.tw_recon.proofs.Completed.{completion_objects}
use Rattle.tw_recon.specs.Causes as reconstruction
use Rattle.tw_recon.specs.declared.fault.ReconFault.{ReconFault}
use Rattle.tw_recon.specs.declared.fault.ReconFault.TheVariants as reconstructions
use Rattle.law_explicit_agrees.specs.Reconstructed.{MayBeRefused}
use Rattle.law_explicit_agrees.proofs.Deep.{explicit_deep_only_so}
use Rattle.law_explicit_agrees.proofs.Full.{no_lambda, no_name, no_type}
use Rattle.law_explicit_agrees.proofs.Only.{no_other_cause}
use Rattle.lf.specs.Entries.{IsCanonicalSignature}
use Rattle.tw_decl.specs.View.{View}
use Rattle.tw_decl.specs.Declaration.{IsWritten, IsWrittenAlone, IsFaultBehind, IsNotMade, IsFirstCause, IsFollowed, IsLastCause, IsCause, IsCauseAlone, HasNoMore}
use Rattle.tw_decl.specs.Obstacles.{IsNotEntered, HasObstacle, ReadHasObstacle}
use Rattle.tw_decl.specs.Laws.{IsWellTyped, IsCompletable, IsGoodDeclaration, IsGood, IsGoodFrom, GoodIsAccepted, GoodFromIsAccepted}
use Rattle.tw_decl.specs.Reading.{Read, IsReadAs, ReadFault}
use Rattle.tw_decl.proofs.Faultless.{of_grammar, only_read, read_faultless}
use Rattle.tw_decl.specs.declared.refusal.Refusal.{Refusal}
use Rattle.tw_decl.specs.declared.refusal.Refusal.TheVariants.{Memory, Lex, TooMany, Unsupported, Nesting, Syntax, Fixity, BadDecl, Unknown, Loose, Mismatch, Leftover, TooDeep}

-- a declaration's tokens are unique, and so is what follows them
pub record SameText (upto m : ℕ) (words us : List Lexeme) (end last : Place) : Type 0 where
  pub reach : m ≡ upto
  pub words_same : us ≡ words
  pub end_same : last ≡ end

same_text : (text : List ℕ) (from upto m : ℕ) (words us : List Lexeme) (end last : Place) → IsWritten text from upto words end → IsWritten text from m us last → SameText upto m words us end last
same_text text from upto m words us end last h k =
    let same = tokens_unique text from k.tokens h.tokens m upto k.through h.through in
    let reach = same.1 in
    record { reach = reach; words_same = k.spelled ∙ ap (lexemes text) same.0 ∙ sym h.spelled; end_same = k.behind ∙ ap (place_of text) reach ∙ sym h.behind }

-- what follows is a token, so it is no fault
no_fault_behind : (text : List ℕ) (words : List Lexeme) (end place : Place) (next : Token) → IsWrittenAlone text words end next → IsFaultBehind text place → ⊥
no_fault_behind text words end place next h k =
    let same = same_text text 0 h.upto k.upto words k.words end k.end h.written k.written in
    let e = sym (ap (first_token text) same.reach ∙ h.follower) ∙ k.fault in
    cc

same_next : (text : List ℕ) (words us : List Lexeme) (end last : Place) (next other : Token) → IsWrittenAlone text words end next → IsWrittenAlone text us last other → other ≡ next
same_next text words us end last next other h k =
    let same = same_text text 0 h.upto k.upto words us end last h.written k.written in
    let e = sym (ap (first_token text) same.reach ∙ h.follower) ∙ k.follower in
    cc

-- its tokens have no fault
faultless : (v : View) (words : List Lexeme) (end : Place) (d : Declaration) → IsReadAs v words d → (fault : SyntaxFault) → ReadFault v end words fault → fault ≡ faults.NoMemory
faultless v words end d r fault h = read_faultless v.fixities end words d r.begins r.reads fault (of_grammar v end words fault r.begins h)

not_first : (v : View) (words : List Lexeme) (end : Place) (d : Declaration) (refusal : Refusal) → IsReadAs v words d → IsFirstCause v end words refusal → refusal ≡ Memory
not_first v words end d Memory r h = refl
not_first v words end d (Unsupported place name) r h = let e : faults.Unsupported name place ≡ faults.NoMemory = faultless v words end d r (faults.Unsupported name place) h in cc
not_first v words end d (Nesting place) r h = let e : faults.Nesting place ≡ faults.NoMemory = faultless v words end d r (faults.Nesting place) h in cc
not_first v words end d (Syntax place) r h = let e : faults.Syntax place ≡ faults.NoMemory = faultless v words end d r (faults.Syntax place) h in cc
not_first v words end d refusal r h = absurd h

-- its reconstruction has no fault, and nothing is too deep
module _ (v : View) (c : List ℕ) (at : Place) (U : Term) (first : Place) (s : IsCanonicalSignature v.signature) (t : IsWellTyped v (declare c at U)) where
  refused : (fault : ReconFault) → reconstruction.HasCause v.signature (declare c at U) fault → MayBeRefused v.signature (declare c at U) fault
  refused fault h = no_other_cause v.signature s (declare c at U) t.form fault h

  plain_obstacle : (refusal : Refusal) → HasObstacle v (declare c at U) first refusal → refusal ≡ Memory
  plain_obstacle Memory h = refl
  plain_obstacle (Unknown place name) h = absurd (refused (reconstructions.Unknown name place) h)
  plain_obstacle (Unsupported place shown) (inl h, e) = absurd (refused (reconstructions.TypeLevel None) h.0)
  plain_obstacle (Unsupported place shown) (inr h, e) = absurd (refused (reconstructions.TypeLevel (Some place)) h)
  plain_obstacle (Loose place) h = absurd (refused reconstructions.Loose h.0)
  plain_obstacle (Mismatch place) h = absurd (refused reconstructions.Mismatch h.0 t.entry t.completes)
  plain_obstacle (Leftover place text) ((left, h, e), there) = absurd (refused (reconstructions.Leftover left) h)
  plain_obstacle (TooDeep place) h = absurd (explicit_deep_only_so v.signature s (declare c at U) t.entry t.form t.completes t.shallow h.0)
  plain_obstacle refusal h = absurd h

-- no refusal of a declaration that is read has a cause
abbrev NoObstacle : View → Declaration → Type 0
NoObstacle v d = (first : Place) (refusal : Refusal) → HasObstacle v d first refusal → refusal ≡ Memory

well_typed : (v : View) (d : Declaration) → IsCanonicalSignature v.signature → IsWellTyped v d → NoObstacle v d
well_typed v (declare c at U) s t first refusal h = plain_obstacle v c at U first s t refusal h
well_typed v (define c A M b) s t first refusal h = absurd t.completes
well_typed v (prefer a x y) s t first refusal h = absurd t.completes
well_typed v (give fix names) s t first refusal h = absurd t.completes

-- what can be completed has no cause of another refusal
module _ (v : View) (d : Declaration) (k : IsCompletable v d) where
  objects : IsOfObjects v.signature d
  objects = completion_objects v.signature d k.completed

  no_unknown : (name : List ℕ) (place : Place) → reconstruction.HasCause v.signature d (reconstructions.Unknown name place) → ⊥
  no_unknown name place h = no_name v.signature d objects (record { name = name; at = place }) h.stands

  no_type_level : (place : Option Place) → reconstruction.HasCause v.signature d (reconstructions.TypeLevel place) → ⊥
  no_type_level None h = no_type v.signature d objects h.1
  no_type_level (Some p) h = no_lambda v.signature d objects p h.2.stands

  nothing_stops : (first : Place) (refusal : Refusal) → IsNotEntered v d first refusal → refusal ≡ Memory
  nothing_stops first Memory h = refl
  nothing_stops first (Unknown place name) h = absurd (no_unknown name place h)
  nothing_stops first (Unsupported place shown) (inl h, e) = absurd (no_type_level None h.0)
  nothing_stops first (Unsupported place shown) (inr h, e) = absurd (no_type_level (Some place) h)
  nothing_stops first (Loose place) h = absurd (k.not_loose h.0.2)
  nothing_stops first (Mismatch place) h = absurd (h.0.none k.completed)
  nothing_stops first (Leftover place text) ((left, h, e), there) = absurd (k.none_left left h)
  nothing_stops first (TooDeep place) h = absurd (k.shallow h.0)
  nothing_stops first refusal h = absurd h

completable : (v : View) (d : Declaration) → IsCompletable v d → NoObstacle v d
completable v (declare c at U) k first refusal h = nothing_stops v (declare c at U) k first refusal h
completable v (define c A M b) k first refusal h = nothing_stops v (define c A M b) k first refusal h
completable v (prefer a x y) k first refusal h = let clash : None ≡ Some k.completed.written = k.completed.resolved in absurd cc
completable v (give fix names) k first refusal h = let clash : None ≡ Some k.completed.written = k.completed.resolved in absurd cc

no_obstacle : (v : View) (d : Declaration) → IsCanonicalSignature v.signature → IsGoodDeclaration v d → NoObstacle v d
no_obstacle v d s (inl t) = well_typed v d s t
no_obstacle v d s (inr k) = completable v d k

not_made : (v : View) (words : List Lexeme) (end : Place) (d : Declaration) (refusal : Refusal) → IsReadAs v words d → NoObstacle v d → IsNotMade v end words refusal → refusal ≡ Memory
not_made v words end d refusal r free h =
    free (first_place end words) refusal (subst (λ (x : Read). ReadHasObstacle v x (first_place end words) refusal) (only_read v words d r h.read h.reads) h.obstacle)

not_last : (v : View) (words : List Lexeme) (end : Place) (d : Declaration) (refusal : Refusal) → IsReadAs v words d → NoObstacle v d → IsLastCause v end words refusal → refusal ≡ Memory
not_last v words end d Memory r free h = refl
not_last v words end d (Fixity place) r free h = let e : faults.Fixity place ≡ faults.NoMemory = faultless v words end d r (faults.Fixity place) h in cc
not_last v words end d (BadDecl place) r free (inl h) = let e : faults.BadDecl place ≡ faults.NoMemory = faultless v words end d r (faults.BadDecl place) h in cc
not_last v words end d (BadDecl place) r free (inr h) = not_made v words end d (BadDecl place) r free h
not_last v words end d refusal r free h = not_made v words end d refusal r free h

no_cause : (v : View) (words : List Lexeme) (end : Place) (d : Declaration) (refusal : Refusal) → IsReadAs v words d → NoObstacle v d → IsCause v end words refusal → refusal ≡ Memory
no_cause v words end d refusal r free (inl h) = not_first v words end d refusal r h
no_cause v words end d refusal r free (inr h) = not_last v words end d refusal r free h

not_followed : (v : View) (words : List Lexeme) (end : Place) (next : Token) (refusal : Refusal) → next.kind ≡ End → IsFollowed v end words next refusal → refusal ≡ Memory
not_followed v words end next (Syntax place) alone h = absurd (h.0 alone)
not_followed v words end next refusal alone h = absurd h

no_cause_alone : (v : View) (words : List Lexeme) (end : Place) (next : Token) (d : Declaration) (refusal : Refusal) → next.kind ≡ End → IsReadAs v words d → NoObstacle v d → IsCauseAlone v end words next refusal → refusal ≡ Memory
no_cause_alone v words end next d refusal alone r free (inl h) = not_first v words end d refusal r h
no_cause_alone v words end next d refusal alone r free (inr (inl h)) = not_followed v words end next refusal alone h
no_cause_alone v words end next d refusal alone r free (inr (inr h)) = not_last v words end d refusal r free h.1

-- the words, their end and what follows them are those of the good text
abbrev HasCauseIn : View → List ℕ → Refusal → Type 0
HasCauseIn v text refusal = (words : List Lexeme) × (end : Place) × (next : Token) × IsWrittenAlone text words end next × IsCauseAlone v end words next refusal

no_cause_in : (v : View) (text : List ℕ) (refusal : Refusal) → IsCanonicalSignature v.signature → IsGood v text → HasCauseIn v text refusal → refusal ≡ Memory
no_cause_in v text refusal s g (us, last, other, written, h) =
    let same = same_text text 0 g.written.upto written.upto g.words us g.end last g.written.written written.written in
    let next = same_next text g.words us g.end last g.next other g.written written in
    let moved : IsCauseAlone v g.end g.words g.next refusal =
    subst (λ (t : Token). IsCauseAlone v g.end g.words t refusal) next
    (subst (λ (ws : List Lexeme). IsCauseAlone v g.end ws other refusal) same.words_same
    (subst (λ (p : Place). IsCauseAlone v p us other refusal) same.end_same h)) in
    no_cause_alone v g.words g.end g.next g.declaration refusal g.alone g.reads (no_obstacle v g.declaration s g.good) moved

pub good_accepted : GoodIsAccepted
good_accepted v text Memory s g h = refl
good_accepted v text (Lex place) s g (inl h) = absurd (fault_excludes text 0 g.written.written.tokens g.written.upto place g.written.written.through h)
good_accepted v text (Lex place) s g (inr h) = absurd (no_fault_behind text g.words g.end place g.next g.written h)
good_accepted v text (TooMany place) s g h = absurd (too_many_excludes text 0 g.written.written.tokens g.written.upto place g.written.written.through g.written.written.few h)
good_accepted v text refusal s g h = no_cause_in v text refusal s g h

-- the same of a declaration among others
abbrev HasCauseAmong : View → List ℕ → ℕ → Refusal → Type 0
HasCauseAmong v text from refusal = (HasNoMore text from → ⊥) × ((upto : ℕ) × (words : List Lexeme) × (end : Place) × IsWritten text from upto words end × IsCause v end words refusal)

no_cause_among : (v : View) (text : List ℕ) (from : ℕ) (refusal : Refusal) → IsCanonicalSignature v.signature → IsGoodFrom v text from → HasCauseAmong v text from refusal → refusal ≡ Memory
no_cause_among v text from refusal s g (more, (upto, us, last, written, h)) =
    let same = same_text text from g.upto upto g.words us g.end last g.written written in
    let moved : IsCause v g.end g.words refusal = subst (λ (ws : List Lexeme). IsCause v g.end ws refusal) same.words_same (subst (λ (p : Place). IsCause v p us refusal) same.end_same h) in
    no_cause v g.words g.end g.declaration refusal g.reads (no_obstacle v g.declaration s g.good) moved

pub good_from_accepted : GoodFromIsAccepted
good_from_accepted v text from Memory s g h = refl
good_from_accepted v text from (Lex place) s g h = absurd (fault_excludes text from g.written.tokens g.upto place g.written.through h)
good_from_accepted v text from (TooMany place) s g h = absurd (too_many_excludes text from g.written.tokens g.upto place g.written.through g.written.few h)
good_from_accepted v text from refusal s g h = no_cause_among v text from refusal s g h
