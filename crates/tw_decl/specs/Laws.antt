-- Laws of declarations.
use Rattle.std.specs.Prelude.{◌≡◌, ◌⊎◌, ℕ, List}
use Rattle.lf.specs.Entries.{Entry, IsCanonicalSignature, signature_of}
use Rattle.tw_lexer.specs.declared.place.Place.{Place}
use Rattle.tw_lexer.specs.declared.token.Token.{Token}
use Rattle.tw_lexer.specs.declared.token.TokenKind.TheVariants.{End}
use Rattle.tw_parse.specs.Syntax.{Declaration}
use Rattle.tw_parse.specs.Words.{Lexeme}
use Rattle.law_explicit_form.specs.Completion.{Completes}
use Rattle.law_explicit_form.specs.Explicit.{IsExplicit}
use Rattle.tw_approx.specs.Answer.{IsLoose}
use Rattle.tw_recon.specs.Causes as reconstruction
use Rattle.tw_recon.specs.Causes.{BodyReachesDeep}
use Rattle.tw_recon.specs.Completed.{HasCompletion}
use Rattle.tw_recon.specs.declared.fault.ReconFault.TheVariants.{Leftover, TooDeep}
use Rattle.tw_metas.specs.declared.left.LeftEquation.{LeftEquation}
use Rattle.tw_decl.specs.View.{View, IsSound}
use Rattle.tw_decl.specs.Declaration.{IsWritten, IsWrittenAlone, Accepts, AcceptsFrom, HasCause, HasCauseFrom}
use Rattle.tw_decl.specs.Reading.{IsReadAs}
use Rattle.tw_decl.specs.Reports.{Reported}
use Rattle.tw_decl.specs.declared.refusal.Refusal.{Refusal}
use Rattle.tw_decl.specs.declared.refusal.Refusal.TheVariants.{Memory}

-- a declaration that is accepted keeps the view sound: its signature canonical, its blocks typed, and the blocks of its worlds among them
abbrev pub AcceptingKeepsSound : Type 0
AcceptingKeepsSound = (v w : View) (text : List ℕ) (report : Reported) → Accepts v text report w → IsSound v → IsSound w

-- the same of a declaration in a text of several
abbrev pub AcceptingFromKeepsSound : Type 0
AcceptingFromKeepsSound = (v w : View) (text : List ℕ) (report : Reported) (from upto : ℕ) → AcceptsFrom v text from report upto w → IsSound v → IsSound w

-- The depth of a declaration is the greatest one of a term, type or kind in the typing derivation of its entry. It is above 4,096.
abbrev pub IsDeepDeclaration : List Entry → Entry → Type 0
IsDeepDeclaration es e = BodyReachesDeep (signature_of es) e.body

-- An explicit declaration that is well typed: it has a completion, and isn't deeper than the limit.
pub record IsWellTyped (v : View) (d : Declaration) : Type 0 where
  pub form : IsExplicit v.signature d
  pub entry : Entry
  pub completes : Completes v.signature d entry
  pub shallow : IsDeepDeclaration v.signature entry → ⊥

-- A declaration of any form that has a completion, and isn't open: no equation is left of it, and nothing is too deep.
pub record IsCompletable (v : View) (d : Declaration) : Type 0 where
  pub completed : HasCompletion v.signature d
  pub not_loose : IsLoose v.signature d → ⊥
  pub none_left : (left : LeftEquation) → reconstruction.HasCause v.signature d (Leftover left) → ⊥
  pub shallow : reconstruction.HasCause v.signature d TooDeep → ⊥

-- what has to be accepted
abbrev pub IsGoodDeclaration : View → Declaration → Type 0
IsGoodDeclaration v d = IsWellTyped v d ⊎ IsCompletable v d

-- a text that is one such declaration within the limits
pub record IsGood (v : View) (text : List ℕ) : Type 0 where
  pub words : List Lexeme
  pub end : Place
  pub next : Token
  pub written : IsWrittenAlone text words end next
  pub alone : next.kind ≡ End
  pub declaration : Declaration
  pub reads : IsReadAs v words declaration
  pub good : IsGoodDeclaration v declaration

-- such a text is refused over a canonical signature for want of memory alone
abbrev pub GoodIsAccepted : Type 0
GoodIsAccepted = (v : View) (text : List ℕ) (refusal : Refusal) → IsCanonicalSignature v.signature → IsGood v text → HasCause v text refusal → refusal ≡ Memory

-- a text in which such a declaration begins at this byte
pub record IsGoodFrom (v : View) (text : List ℕ) (from : ℕ) : Type 0 where
  pub upto : ℕ
  pub words : List Lexeme
  pub end : Place
  pub written : IsWritten text from upto words end
  pub declaration : Declaration
  pub reads : IsReadAs v words declaration
  pub good : IsGoodDeclaration v declaration

-- it is refused so too
abbrev pub GoodFromIsAccepted : Type 0
GoodFromIsAccepted = (v : View) (text : List ℕ) (from : ℕ) (refusal : Refusal) → IsCanonicalSignature v.signature → IsGoodFrom v text from → HasCauseFrom v text from refusal → refusal ≡ Memory
